-- The lines of a node's ports end with the shorter one of two lists.
use Rattle.std.proofs.Common.{ℕ, ◌≡◌, ◌≤◌, min, List, [], ◌∷◌, ◌++◌, drop, length, refl, inl, inr, ◌⊎◌, arith}
use Rattle.std.proofs.lemmas.List.{drop_all, append-nil}
use Rattle.dip_graph.specs.declared.design.NodeEntry.{NodeEntry}
use Rattle.dip_graph.specs.declared.edges.Edge.{Edge}
use Rattle.tl_params.specs.declared.ports.UpPort.{UpPort}
use Rattle.soc_report.specs.MapText.{node_lines}

shorter : (n a b : ℕ) → min a b ≤ n → (a ≤ n) ⊎ (b ≤ n)
shorter n a b h = grind arith

module _ (nodes : List NodeEntry) (number : ℕ) (name : List ℕ) (ids : ℕ) where
  no_ups : (edges : List Edge) → node_lines nodes number name ids edges [] ≡ []
  no_ups [] = refl
  no_ups (edge ∷ edges) = refl

  at_end : (edges : List Edge) (ups : List UpPort) (n : ℕ) → (length edges ≤ n) ⊎ (length ups ≤ n)
      → node_lines nodes number name ids (drop n edges) (drop n ups) ≡ []
  at_end edges ups n (inl h) = rw (drop_all n edges h) refl
  at_end edges ups n (inr h) = rw (drop_all n ups h) (no_ups (drop n edges))

  -- where one of the lists has ended, the text is what was to be made
  pub all_made : (text made : List ℕ) (edges : List Edge) (ups : List UpPort) (n : ℕ)
      → min (length edges) (length ups) ≤ n
      → text ++ node_lines nodes number name ids (drop n edges) (drop n ups) ≡ made → text ≡ made
  all_made text made edges ups n h e =
      let nothing : node_lines nodes number name ids (drop n edges) (drop n ups) ≡ [] =
      at_end edges ups n (shorter n (length edges) (length ups) h) in
      grind (arith, append-nil, nothing, e)
