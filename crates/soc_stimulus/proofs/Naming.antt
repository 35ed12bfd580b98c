-- The names of nodes that differ, node by node.
use Rattle.std.proofs.Common.{ℕ, zero, suc, ◌≡◌, ◌≢◌, ◌<◌, ◌+◌, List, [], ◌∷◌, ◌++◌, take, false, ◌||◌, Some, refl, sym, ◌∙◌, ap, arith}
use Rattle.std.specs.Prelude.{AllPairs, slice_get}
use Rattle.std.specs.List.{list_any}
use Rattle.std.specs.Str.{bytes_eq}
use Rattle.std.proofs.lemmas.Bool.{false_from_ne_true}
use Rattle.std.proofs.lemmas.List.{take_more, map-append}
use Rattle.std.proofs.lemmas.Option.{slice_get_within, get_or_from_slice_get}
use Rattle.std.proofs.lemmas.Slice.Eq.{bytes_eq-Decides}
use Rattle.dip_lists.proofs.Pairs.{behind, rest_pairs}
use Rattle.dip_graph.specs.declared.design.NodeEntry.{NodeEntry}
use Rattle.tl_edge.proofs.Ways.{item_has}
use Rattle.soc_stimulus.specs.Ports.{names_of_nodes}

-- two nodes have different names
abbrev pub Unlike : NodeEntry → NodeEntry → Type 0
Unlike a b = a.name ≢ b.name

other_bytes : (a b : List ℕ) → a ≢ b → bytes_eq b a ≡ false
other_bytes a b h = false_from_ne_true (bytes_eq b a) (λ same. h (sym ((bytes_eq-Decides b a).0 same)))

-- a node's name is none of those before it
pub new_name : (nodes : List NodeEntry) (i : ℕ) (node : NodeEntry) → AllPairs Unlike nodes → slice_get nodes i ≡ Some node
    → list_any (bytes_eq node.name) (names_of_nodes (take i nodes)) ≡ false
new_name [] i node a e = let within : i < 0 = slice_get_within [] i node e in absurd (omega arith)
new_name (n ∷ nodes) zero node a e = refl
new_name (n ∷ nodes) (suc i) node a e =
    let there : slice_get nodes i ≡ Some node = e in
    ap (λ b. b || list_any (bytes_eq node.name) (names_of_nodes (take i nodes)))
    (other_bytes n.name node.name (item_has (Unlike n) nodes i node (behind Unlike n nodes a) there))
    ∙ new_name nodes i node (rest_pairs Unlike n nodes a) there

-- one name more
pub names_more : (nodes : List NodeEntry) (i : ℕ) (node : NodeEntry) → slice_get nodes i ≡ Some node
    → names_of_nodes (take (i + 1) nodes) ≡ names_of_nodes (take i nodes) ++ node.name ∷ []
names_more nodes i node e =
    ap names_of_nodes (take_more nodes i node (slice_get_within nodes i node e))
    ∙ map-append (λ (m : NodeEntry). m.name) (take i nodes) _
    ∙ ap (λ (m : NodeEntry). names_of_nodes (take i nodes) ++ m.name ∷ []) (get_or_from_slice_get nodes i node node e)
