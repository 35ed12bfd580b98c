-- The first of the registers that aren't driven yet.
use Rattle.std.proofs.Common.{◌≡◌, ℕ, zero, suc, ◌+◌, ◌<◌, ◌≤◌, List, [], ◌∷◌, ◌++◌, length, take, drop, get_or, refl, sym, ap, ◌∙◌, subst, arith}
use Rattle.std.specs.Prelude.{Contains}
use Rattle.std.proofs.lemmas.List.{append-nil, drop_all, drop_more, map-append, take-append-drop}
use Rattle.net_build.specs.declared.types.Wire.{Wire}
use Rattle.net_build.specs.Built.{Built, inputs, undriven}
use Rattle.net_build.specs.Registers.{DrivesAll, numbers, without}
use Rattle.net_build.specs.Values.{Later}
use Rattle.net_build.proofs.Opened.{Apart, drops_one, opened_apart}
use Rattle.net_build.proofs.OpenedLists.{opens_none}
use Rattle.net_queue.specs.declared.types.EdgeWires.{EdgeWires}
use Rattle.net_leaves.specs.OpenEdges.{all_registers, edge_registers}
use Rattle.net_joins.specs.Firsts.{WaitFirst}

-- no number stands twice
undriven_apart : (b : Built) → Apart (undriven b)
undriven_apart b = subst Apart (append-nil (undriven b)) (opened_apart b b [] (opens_none b))

without_front : (rs xs : List ℕ) → Apart (rs ++ xs) → without rs (rs ++ xs) ≡ xs
without_front [] xs h = refl
without_front (r ∷ rs) xs h = ap (without rs) (drops_one [] (rs ++ xs) r h) ∙ without_front rs xs h.1

-- where the first are driven, the others are left
pub driven_front : (old new : Built) (ws : List Wire) (rest : List ℕ) → undriven old ≡ numbers ws ++ rest → DrivesAll old new (numbers ws) → undriven new ≡ rest
driven_front old new ws rest e h = h.undriven ∙ ap (without (numbers ws)) e ∙ without_front (numbers ws) rest (subst Apart e (undriven_apart old))

front_taken : (ws : List Wire) (rest : List ℕ) → take (length ws) (numbers ws ++ rest) ≡ numbers ws
front_taken [] rest = refl
front_taken (w ∷ ws) rest = ap (λ (ns : List ℕ). w.number ∷ ns) (front_taken ws rest)

front_dropped : (ws : List Wire) (rest : List ℕ) → drop (length ws) (numbers ws ++ rest) ≡ rest
front_dropped [] rest = refl
front_dropped (w ∷ ws) rest = front_dropped ws rest

pub first_made : (b : Built) (ws : List Wire) (rest : List ℕ) → undriven b ≡ numbers ws ++ rest → WaitFirst b ws
first_made b ws rest e = record { are = ap (take (length ws)) e ∙ front_taken ws rest }

pub first_split : (b : Built) (ws : List Wire) → WaitFirst b ws → undriven b ≡ numbers ws ++ drop (length ws) (undriven b)
first_split b ws h = sym (take-append-drop (length ws) (undriven b)) ∙ ap (λ (ns : List ℕ). ns ++ drop (length ws) (undriven b)) h.are

pub first_left : (b : Built) (ws : List Wire) (rest : List ℕ) → undriven b ≡ numbers ws ++ rest → drop (length ws) (undriven b) ≡ rest
first_left b ws rest e = ap (drop (length ws)) e ∙ front_dropped ws rest

-- the registers of the edges from a place on are those of the edge there and of the others
pub first_edge : (edges : List EdgeWires) (k : ℕ) (d : EdgeWires) → k < length edges → numbers (all_registers (drop k edges)) ≡ numbers (edge_registers (get_or edges k d)) ++ numbers (all_registers (drop (k + 1) edges))
first_edge edges k d l =
    ap (λ (es : List EdgeWires). numbers (all_registers es)) (drop_more edges k d l)
    ∙ map-append (λ (w : Wire). w.number) (edge_registers (get_or edges k d)) (all_registers (drop (k + 1) edges))

pub none_left : (edges : List EdgeWires) (k : ℕ) → length edges ≤ k → numbers (all_registers (drop k edges)) ≡ []
none_left edges k l = ap (λ (es : List EdgeWires). numbers (all_registers es)) (drop_all k edges l)

-- where all are driven, none is left
pub drives_every : (old new : Built) (ws : List Wire) → Later old new → inputs new ≡ inputs old → new.outputs ≡ old.outputs → undriven old ≡ numbers ws → undriven new ≡ [] → DrivesAll old new (numbers ws)
drives_every old new ws g i o e n =
    let f : undriven old ≡ numbers ws ++ [] = e ∙ sym (append-nil (numbers ws)) in
    record {
      later = g;
      inputs = i;
      outputs = o;
      undriven = n ∙ sym (ap (without (numbers ws)) f ∙ without_front (numbers ws) [] (subst Apart f (undriven_apart old)));
    }

-- ---- the numbers of some registers are among those that aren't driven yet

has_wire : (ws : List Wire) (rest : List ℕ) (k : ℕ) (d : Wire) → k < length ws → Contains (numbers ws ++ rest) (get_or ws k d).number
has_wire [] rest k d l = absurd (omega arith)
has_wire (w ∷ ws) rest zero d l = (0, omega arith, refl)
has_wire (w ∷ ws) rest (suc k) d l = let c = has_wire ws rest k d (omega arith) in (suc c.0, omega (arith, c.1), c.2)

has_behind : (front xs : List ℕ) (n : ℕ) → Contains xs n → Contains (front ++ xs) n
has_behind [] xs n c = c
has_behind (x ∷ front) xs n c = let d = has_behind front xs n c in (suc d.0, omega (arith, d.1), d.2)

-- these registers wait
pub record Wait (b : Built) (ws : List Wire) : Type 0 where
  pub each : (k : ℕ) (d : Wire) → k < length ws → Contains (undriven b) (get_or ws k d).number

pub wait_first : (b : Built) (ws : List Wire) (rest : List ℕ) → undriven b ≡ numbers ws ++ rest → Wait b ws
wait_first b ws rest e = record { each = λ k d l. subst (λ (ns : List ℕ). Contains ns (get_or ws k d).number) (sym e) (has_wire ws rest k d l) }

pub wait_next : (b : Built) (front ws : List Wire) (rest : List ℕ) → undriven b ≡ numbers front ++ (numbers ws ++ rest) → Wait b ws
wait_next b front ws rest e = record {
  each = λ k d l. subst (λ (ns : List ℕ). Contains ns (get_or ws k d).number) (sym e) (has_behind (numbers front) (numbers ws ++ rest) (get_or ws k d).number (has_wire ws rest k d l));
}
