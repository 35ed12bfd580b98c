-- One turn with turns left.
use Rattle.std.proofs.Common.{◌≡◌, ℕ, suc, ◌+◌, ◌-◌, ◌<◌, Bool, true, false, List, [], ◌∷◌, ◌++◌, Some, None, refl, arith}
use Rattle.dip_graph.specs.declared.design.BindEntry.{BindEntry}
use Rattle.dip_graph.specs.Orders.{first_from, least_ready, order_from}

turn_left : (n i : ℕ) → i < n → n - i ≡ suc (n - (i + 1))
turn_left n i h = omega arith

pub first_more : (passes : ℕ → Bool) (n i : ℕ) → i < n → passes i ≡ false → first_from passes (i + 1) (n - (i + 1)) ≡ first_from passes i (n - i)
first_more passes n i h e = rw (turn_left n i h) (rw e refl)

pub first_here : (passes : ℕ → Bool) (n i : ℕ) → i < n → passes i ≡ true → first_from passes i (n - i) ≡ Some i
first_here passes n i h e = rw (turn_left n i h) (rw e refl)

pub order_more : (binds : List BindEntry) (nodes : ℕ) (listed : List ℕ) (i n m : ℕ) → i < m → least_ready binds nodes listed ≡ Some n
    → order_from binds nodes (listed ++ n ∷ []) (m - (i + 1)) ≡ order_from binds nodes listed (m - i)
order_more binds nodes listed i n m h e = rw (turn_left m i h) (rw e refl)

pub order_ends : (binds : List BindEntry) (nodes : ℕ) (listed : List ℕ) (i m : ℕ) → i < m → least_ready binds nodes listed ≡ None
    → order_from binds nodes listed (m - i) ≡ listed
order_ends binds nodes listed i m h e = rw (turn_left m i h) (rw e refl)
