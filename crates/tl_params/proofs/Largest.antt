-- The largest size is that of some operation, and the largest end that of some master.
use Rattle.std.proofs.Common.{ℕ, ◌≡◌, ◌≤◌, ◌⊎◌, inl, inr, ⊎_elim, max, List, [], ◌∷◌, All, Any, refl, ◌∙◌, arith}
use Rattle.std.proofs.lemmas.List.Elements.{All-cons}
use Rattle.dip_sets.proofs.Lists.{any_head, any_tail}
use Rattle.tl_params.specs.declared.ops.Op.{Op}
use Rattle.tl_params.specs.declared.ops.Op.TheVariants.{PutFull, PutPartial, Arithmetic, Logical, Get, Intent}
use Rattle.tl_params.specs.declared.ops.Ops.{Ops}
use Rattle.tl_params.specs.declared.ports.Master.{Master}
use Rattle.tl_params.specs.Operations.{sizes_of, largest, IsLargest}
use Rattle.tl_params.specs.Owners.{largest_end, IsLargestEnd}

-- the greater of two numbers is one of them
one_of : (a b : ℕ) → (a ≡ max a b) ⊎ (b ≡ max a b)
one_of a b = grind arith

-- some operation has a size
HasSizeOf : Ops → ℕ → Type 0
HasSizeOf ops bytes = (op : Op) × ((sizes_of ops op).max ≡ bytes)

-- the greater of two sizes that some operations have
greater : (ops : Ops) (a b : ℕ) → HasSizeOf ops a → HasSizeOf ops b → HasSizeOf ops (max a b)
unfolding HasSizeOf
greater ops a b (op, is) (other, same) = ⊎_elim (λ e. (op, is ∙ e)) (λ e. (other, same ∙ e)) (one_of a b)

pub largest_is : (ops : Ops) → IsLargest ops (largest ops)
unfolding HasSizeOf
largest_is ops = record { bound = no_greater; attained = some }
  where
    no_greater : (op : Op) → (sizes_of ops op).max ≤ largest ops
    no_greater PutFull = omega arith
    no_greater PutPartial = omega arith
    no_greater Arithmetic = omega arith
    no_greater Logical = omega arith
    no_greater Get = omega arith
    no_greater Intent = omega arith

    some : (op : Op) × ((sizes_of ops op).max ≡ largest ops)
    some =
        greater ops _ _
        (greater ops _ _ (greater ops _ _ (Get, refl) (greater ops _ _ (PutFull, refl) (PutPartial, refl))) (greater ops _ _ (Arithmetic, refl) (Logical, refl)))
        (Intent, refl)

ends_at_most : (masters : List Master) → All (λ (m : Master). m.ids.end ≤ largest_end masters) masters
ends_at_most [] = λ k d l. absurd (omega arith)
ends_at_most (master ∷ masters) =
    All-cons (λ (m : Master). m.ids.end ≤ largest_end (master ∷ masters)) master masters (omega arith)
    (λ k d l. omega (arith, ends_at_most masters k d l))

-- the greatest end is that of the first master or of a later one
ends_there : (masters : List Master) → ((masters ≡ []) × (largest_end masters ≡ 0)) ⊎ Any (λ (m : Master). m.ids.end ≡ largest_end masters) masters
ends_there [] = inl (refl, refl)
ends_there (master ∷ masters) = inr (by_first (one_of master.ids.end (largest_end masters)) (ends_there masters))
  where
    by_first : (master.ids.end ≡ max master.ids.end (largest_end masters)) ⊎ (largest_end masters ≡ max master.ids.end (largest_end masters))
        → ((masters ≡ []) × (largest_end masters ≡ 0)) ⊎ Any (λ (m : Master). m.ids.end ≡ largest_end masters) masters → Any (λ (m : Master). m.ids.end ≡ max master.ids.end (largest_end masters)) (master ∷ masters)
    by_first (inl e) rest = any_head (λ (m : Master). m.ids.end ≡ max master.ids.end (largest_end masters)) master masters e
    by_first (inr e) (inl none) = any_head (λ (m : Master). m.ids.end ≡ max master.ids.end (largest_end masters)) master masters (omega (arith, none.1))
    by_first (inr e) (inr (place, m, below, is, ends)) =
        any_tail (λ (m : Master). m.ids.end ≡ max master.ids.end (largest_end masters)) master masters (place, m, below, is, ends ∙ e)

pub largest_end_is : (masters : List Master) → IsLargestEnd masters (largest_end masters)
largest_end_is masters = record { bound = ends_at_most masters; attained = ends_there masters }
