-- Both channels and the table, as the builder grows.
use Rattle.std.proofs.Common.{◌≡◌, ℕ, ◌+◌, ◌%◌, ◌^◌, ◌<◌, ◌≤◌, Bool, true, false, not, List, length, get_or, refl, sym, ap, ◌∙◌, subst, arith}
use Rattle.std.specs.Prelude.{nat_le}
use Rattle.std.proofs.lemmas.List.{length-map}
use Rattle.tl_edge.specs.Beats.{most_lanes}
use Rattle.flow_core.specs.Turning.{Widths}
use Rattle.net_build.specs.declared.types.Wire.{Wire}
use Rattle.net_build.specs.Bits.{MeansAll, wire_values, zeros}
use Rattle.net_build.specs.Built.{Built}
use Rattle.net_build.specs.Registers.{DrivesAll, MayDrive}
use Rattle.net_build.specs.Values.{Adds, Later, Means, Opens, Tells, high}
use Rattle.net_build.proofs.DrivenLists.{drives_all_after, opened_all_driven}
use Rattle.net_build.proofs.Steps.{bit_later}
use Rattle.net_lanes.specs.declared.kept.Kept.{Kept}
use Rattle.net_lanes.specs.declared.places.Buses.{Buses}
use Rattle.net_queue.specs.declared.types.EdgeWires.{EdgeWires}
use Rattle.net_queue.specs.declared.types.Queue.{Queue}
use Rattle.net_table.specs.Tables.{AllBecome, AreEntries, BeginAtZero, entries_written}
use Rattle.net_sides.specs.declared.types.Requests.{Requests}
use Rattle.net_sides.specs.declared.types.Responses.{Responses}
use Rattle.net_sides.specs.Sides.{AreRequestsTurned, AreResponsesTurned, field_at, widths_down, widths_up}
use Rattle.net_sides.proofs.Asked.{value_at}
use Rattle.net_sides.proofs.Parts.{can_down_later, can_up_later, put_into_later}
use Rattle.net_width.specs.declared.types.Cycle.{Cycle}
use Rattle.net_width.specs.Widened.{AreCycleWires, AreRecalled, CanWiden, IsWidgetCycle, IsWidened, entry_at}

pub requests_later : (old new : Built) (widths : Widths) (above below : Queue) (r : Requests) → Later old new → AreRequestsTurned old widths above below r → AreRequestsTurned new widths above below r
requests_later old new widths above below r l h = record {
  starts = λ v a. h.starts v (l.starts v a);
  takes = λ v widget head s o q. h.takes v widget head (l.back v s) o q;
  puts = λ v widget head s o q f. h.puts v widget head (l.back v s) o q f;
  keeps = λ v widget head s o q. h.keeps v widget head (l.back v s) o q;
  other = λ v widget head s o q. h.other v widget head (l.back v s) o q;
  nexts = λ v u widget head s t z o q. h.nexts v u widget head (l.back v s) (l.ticks v u t) z o q;
}

pub responses_later : (old new : Built) (widths : Widths) (kept : Kept) (below above : Queue) (r : Responses) → Later old new → AreResponsesTurned old widths kept below above r → AreResponsesTurned new widths kept below above r
responses_later old new widths kept below above r l h = record {
  starts = λ v a. h.starts v (l.starts v a);
  takes = λ v widget head s o q. h.takes v widget head (l.back v s) o q;
  puts = λ v widget head s o q f. h.puts v widget head (l.back v s) o q f;
  others = λ v widget head s o q. h.others v widget head (l.back v s) o q;
  nexts = λ v u widget head s t z o q. h.nexts v u widget head (l.back v s) (l.ticks v u t) z o q;
}

pub recalled_later : (old new : Built) (below : EdgeWires) (entries : List Wire) (kept : Kept) → Later old new → AreRecalled old below entries kept → AreRecalled new below entries kept
recalled_later old new below entries kept l h = record { known = λ v s. h.known v (l.back v s); address = λ v s. h.address v (l.back v s) }

-- the responses of an adapter go the other way
pub other_way : (buses : Buses) (turns : Bool) → widths_up buses (not turns) ≡ widths_down buses turns
other_way buses true = refl
other_way buses false = refl

pub keep_means : (b1 new : Built) (address low w : Wire) → Later b1 new → Means b1 low (λ v. v address.number % 2 ^ 3) → Means new w (λ v. 8 + v low.number) → Means new w (λ v. 8 + v address.number % most_lanes)
keep_means b1 new address low w l m t = record { at = λ v s. t.at v s ∙ ap (λ (n : ℕ). 8 + n) (m.at v (l.back v s)) }

-- the value of a wire of a head
pub field_is : (v : ℕ → ℕ) (q : Queue) (hs : List Wire) (k : ℕ) (d : Wire) → hs ≡ q.head → k < length q.head → v (get_or hs k d).number ≡ field_at q k v
field_is v q hs k d e l =
    ap (λ (ws : List Wire). v (get_or ws k d).number) e
    ∙ value_at v q.head k (wire_values v q.head) d refl (omega (arith, l, length-map q.head (λ (x : Wire). v x.number)))

pub recalled_is : (b1 new : Built) (below : EdgeWires) (entries hs : List Wire) (kept : Kept) (d : Wire) → Later b1 new → hs ≡ below.d.head → 2 < length below.d.head
    → Tells b1 kept.known (λ v. nat_le 8 (get_or (wire_values v entries) (v (get_or hs 2 d).number) 0))
    → Means b1 kept.address (λ v. get_or (wire_values v entries) (v (get_or hs 2 d).number) 0 % 8)
    → AreRecalled new below entries kept
recalled_is b1 new below entries hs kept d l e k t m = record {
  known = λ v s. t.at v (l.back v s) ∙ ap (λ (i : ℕ). nat_le 8 (get_or (wire_values v entries) i 0)) (field_is v below.d hs 2 d e k);
  address = λ v s. m.at v (l.back v s) ∙ ap (λ (i : ℕ). get_or (wire_values v entries) i 0 % 8) (field_is v below.d hs 2 d e k);
}

pub nexts_are : (b4 new : Built) (above : EdgeWires) (entries hs nexts : List Wire) (begins entry d e : Wire) → Later b4 new → hs ≡ above.a.head → length above.a.head ≡ 7
    → Means b4 entry (λ v. 8 + v (get_or hs 4 e).number % most_lanes)
    → MeansAll new nexts (λ v. entries_written (high v begins) (v (get_or hs 3 d).number) (v entry.number) (wire_values v entries))
    → MeansAll new nexts (λ v. entries_written (high v begins) (field_at above.a 3 v) (entry_at above v) (wire_values v entries))
nexts_are b4 new above entries hs nexts begins entry d e l p n m t = record {
  at = λ v s.
      t.at v s
      ∙ ap (λ (i : ℕ). entries_written (high v begins) i (v entry.number) (wire_values v entries)) (field_is v above.a hs 3 d p (omega (arith, n)))
      ∙ ap (λ (x : ℕ). entries_written (high v begins) (field_at above.a 3 v) x (wire_values v entries))
      (m.at v (l.back v s) ∙ ap (λ (x : ℕ). 8 + x % most_lanes) (field_is v above.a hs 4 e p (omega (arith, n))));
}

-- ---- the table

pub opened_then : (old mid last new : Built) (rs : List ℕ) → Opens old mid rs → Adds mid last → DrivesAll last new rs → Adds old new
opened_then old mid last new rs g a h = opened_all_driven old mid new rs g (drives_all_after mid last new rs a h)

pub may_drive : (b : Built) (width : ℕ) (rs ns : List Wire) → length ns ≡ length rs → AreEntries b width rs → AreEntries b width ns → MayDrive b rs ns
may_drive b width rs ns l h g = record {
  each = λ k d e i.
      let n = g.each k e (omega (arith, i, l)) in
      (n.0, n.1 ∙ sym (h.each k d i).1);
}

pub can_later : (old new : Built) (count most : ℕ) (buses : Buses) (turns : Bool) (above below : EdgeWires) (rs : List ℕ) → Opens old new rs → most ≡ count → CanWiden old count buses turns above below → CanWiden new most buses turns above below
can_later old new count most buses turns above below rs g e h = record {
  down = can_down_later old new buses turns above.a below.a rs g h.down;
  up = can_up_later old new buses (not turns) below.d above.d rs g h.up;
  few_down = λ d. subst (λ (n : ℕ). n ≤ 2 ^ (get_or above.a.head 3 d).width) (sym e) (h.few_down d);
  few_up = λ d. subst (λ (n : ℕ). n ≤ 2 ^ (get_or below.d.head 2 d).width) (sym e) (h.few_up d);
}

pub widened_is : (b1 b2 new : Built) (widths : Widths) (count : ℕ) (above below : EdgeWires) (c : Cycle) (entries es ns : List Wire) → Later b1 new → Later b2 new → es ≡ entries → length entries ≡ count
    → BeginAtZero b1 entries → IsWidgetCycle b2 widths es above below c → AreCycleWires b2 above below c → ns ≡ c.nexts → AllBecome new es (λ v. wire_values v ns)
    → IsWidened new widths count above below (record { requests = c.requests; responses = c.responses; kept = c.kept; entries = entries })
widened_is b1 b2 new widths count above below c entries es ns l1 l2 e n z h w p t = record {
  requests = requests_later b2 new widths above.a below.a c.requests l2 h.requests;
  responses = responses_later b2 new widths c.kept below.d above.d c.responses l2 h.responses;
  recalled = subst (λ (xs : List Wire). AreRecalled new below xs c.kept) e (recalled_later b2 new below es c.kept l2 h.recalled);
  starts = λ v a. z.at v (l1.starts v a) ∙ ap zeros n;
  nexts = λ v u s q r.
      ap (wire_values u) (sym e)
      ∙ t.at v u s q r
      ∙ ap (wire_values v) p
      ∙ h.nexts.at v (l2.back v s)
      ∙ ap (λ (xs : List Wire). entries_written (high v c.requests.begins) (field_at above.a 3 v) (entry_at above v) (wire_values v xs)) e;
  down = put_into_later b2 new below.a c.requests.put l2 w.down;
  up = put_into_later b2 new above.d c.responses.put l2 w.up;
  take_down = bit_later b2 new c.requests.take l2 w.take_down;
  take_up = bit_later b2 new c.responses.take l2 w.take_up;
}
