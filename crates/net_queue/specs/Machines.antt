-- A machine, and what it means that wires are it: its states stand in a relation to what the registers hold.
use Rattle.std.specs.Prelude.{◌≡◌, ℕ, ◌==◌, false}
use Rattle.net_build.specs.Built.{Built}
use Rattle.net_build.specs.Values.{AtStart, Solves, Ticks}

-- its first state, and, in a state and a cycle in which it sees something, what it does and its next state
pub record Machine (S X D : Type 0) : Type 0 where
  pub idle : S
  pub does : S → X → D
  pub after : S → X → S

-- A relation between what registers hold and the states of a machine, on wires that tell what it sees and does. It
-- holds of the first state in the first cycle. Where it holds of a state, the wires tell the acts of that state, and
-- after a cycle without a reset it holds of the next one. This is said of states that fit what is seen.
pub record Follows {S X D Y E : Type 0} (b : Built) (m : Machine S X D) (fits : S → X → Type 0) (seen : X → Y)
    (told : D → E) (sees : (ℕ → ℕ) → Y) (shows : (ℕ → ℕ) → E) (stands : (ℕ → ℕ) → S → Type 0) : Type 0 where
  pub starts : (v : ℕ → ℕ) → AtStart b v → stands v m.idle
  pub does : (v : ℕ → ℕ) (s : S) (x : X) → Solves b v → (v 0 == 1) ≡ false → stands v s → sees v ≡ seen x → fits s x
      → shows v ≡ told (m.does s x)
  pub nexts : (v u : ℕ → ℕ) (s : S) (x : X) → Solves b v → Ticks b v u → (v 0 == 1) ≡ false → stands v s
      → sees v ≡ seen x → fits s x → stands u (m.after s x)

-- The least such relation: the states in which the machine can be where the wires have these values. It is in its first
-- state in the first cycle, and goes on in each cycle without a reset whose wires show what it sees.
pub data Reached {S X D Y : Type 0} (b : Built) (m : Machine S X D) (fits : S → X → Type 0) (seen : X → Y)
    (sees : (ℕ → ℕ) → Y) : (ℕ → ℕ) → S → Type 0 where
  begins : (v : ℕ → ℕ) → AtStart b v → Reached b m fits seen sees v m.idle
  goes : (v u : ℕ → ℕ) (s : S) (x : X) → Reached b m fits seen sees v s → Solves b v → Ticks b v u
      → (v 0 == 1) ≡ false → sees v ≡ seen x → fits s x → Reached b m fits seen sees u (m.after s x)

-- The wires are the machine: in each state that it reaches they tell its acts.
pub record IsMachine {S X D Y E : Type 0} (b : Built) (m : Machine S X D) (fits : S → X → Type 0) (seen : X → Y)
    (told : D → E) (sees : (ℕ → ℕ) → Y) (shows : (ℕ → ℕ) → E) : Type 0 where
  pub does : (v : ℕ → ℕ) (s : S) (x : X) → Reached b m fits seen sees v s → Solves b v → (v 0 == 1) ≡ false
      → sees v ≡ seen x → fits s x → shows v ≡ told (m.does s x)
