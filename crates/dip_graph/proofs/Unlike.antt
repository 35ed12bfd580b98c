-- Nodes whose names differ.
use Rattle.std.proofs.Common.{◌≡◌, ◌≢◌, ℕ, ◌+◌, ◌<◌, List, length, take, get_or, Some, sym, ap, ◌∙◌, arith, inl, inr}
use Rattle.std.specs.Prelude.{slice_get, All, AllPairs}
use Rattle.std.proofs.lemmas.List.{get_or-take, length-take-le}
use Rattle.std.proofs.lemmas.Option.{slice_get-get_or}
use Rattle.std.proofs.lemmas.Bool.{cases_lt}
use Rattle.dip_graph.specs.declared.design.NodeEntry.{NodeEntry}

abbrev Differ : NodeEntry → NodeEntry → Type 0
Differ a b = a.name ≢ b.name

abbrev IsUnlike : NodeEntry → NodeEntry → Type 0
IsUnlike node other = other.name ≢ node.name

there : (nodes : List NodeEntry) (k : ℕ) (node d : NodeEntry) → k < length nodes → slice_get nodes k ≡ Some node → get_or nodes k d ≡ node
there nodes k node d b e = let s : Some (get_or nodes k d) ≡ Some node = sym (slice_get-get_or nodes k d b) ∙ e in cc

pub more : (nodes : List NodeEntry) (k : ℕ) (node : NodeEntry) → k < length nodes → slice_get nodes k ≡ Some node
    → AllPairs Differ (take k nodes) → All (IsUnlike node) (take k nodes) → AllPairs Differ (take (k + 1) nodes)
more nodes k node b e h f i j d o c =
    let l : length (take (k + 1) nodes) ≡ k + 1 = length-take-le (k + 1) nodes (omega arith) in
    let m : length (take k nodes) ≡ k = length-take-le k nodes (omega arith) in
    λ q.
    let p : (get_or nodes i d).name ≡ (get_or nodes j d).name =
    ap (λ (n : NodeEntry). n.name) (sym (get_or-take (k + 1) nodes i d (omega (arith, l)))) ∙ q
    ∙ ap (λ (n : NodeEntry). n.name) (get_or-take (k + 1) nodes j d (omega (arith, l))) in
    let first : get_or (take k nodes) i d ≡ get_or nodes i d = get_or-take k nodes i d (omega (arith, l)) in
    elim (cases_lt j k) [
      | inl s ↦ h i j d o (omega (arith, m)) (ap (λ (n : NodeEntry). n.name) first ∙ p ∙ ap (λ (n : NodeEntry). n.name) (sym (get_or-take k nodes j d s)))
      | inr t ↦
          let last : j ≡ k = omega (arith, l) in
          f i d (omega (arith, m))
          (ap (λ (n : NodeEntry). n.name) first ∙ p ∙ ap (λ (x : ℕ). (get_or nodes x d).name) last ∙ ap (λ (n : NodeEntry). n.name) (there nodes k node d b e))
    ]

pub unlike : (nodes : List NodeEntry) (k : ℕ) (node : NodeEntry) → k < length nodes → slice_get nodes k ≡ Some node → AllPairs Differ nodes → All (IsUnlike node) (take k nodes)
unlike nodes k node b e h i d c =
    let m : length (take k nodes) ≡ k = length-take-le k nodes (omega arith) in
    let below : i < k = omega (arith, m) in
    λ q. h i k d below b
    (ap (λ (n : NodeEntry). n.name) (sym (get_or-take k nodes i d below)) ∙ q ∙ ap (λ (n : NodeEntry). n.name) (sym (there nodes k node d b e)))
