-- Beats of legal messages are carried.
use Rattle.std.proofs.Common.{◌≡◌, ℕ, ◌*◌, ◌%◌, ◌^◌, ◌<◌, ◌≤◌, ◌&&◌, ◌==◌, true, sym, ◌∙◌, subst, arith}
use Rattle.std.specs.Prelude.{IsTrue, nat_le, nat_lt, slice_index_or}
use Rattle.std.proofs.lemmas.Bool.Decides.{nat_tests}
use Rattle.tl_edge.specs.declared.beat.ABeat.{ABeat}
use Rattle.tl_edge.specs.declared.beat.DBeat.{DBeat}
use Rattle.tl_edge.specs.declared.plan.PlanEdge.{PlanEdge}
use Rattle.tl_edge.specs.BeatLaws.{HeadsLaw, IsBeatBack, IsBeatOf}
use Rattle.tl_edge.specs.Beats.{beats_of_request, beats_of_response}
use Rattle.tl_edge.specs.Legal.{LegalLaw}
use Rattle.tl_edge.specs.Messages.{bytes_of}
use Rattle.tl_edge.specs.Plans.{bus_width}
use Rattle.tl_edge.specs.Wires.{FitsDown, FitsUp, WiresLaw}
use Rattle.flow_core.specs.Carried.{carries_a, carries_d}
use Rattle.net_top.specs.LegalBeats.{LegalBeatsLaw}

down_tests : (size source ids address bytes mask lanes payload bits : ℕ) → size ≤ 8 → source < ids → address < 2 ^ 48 → address % bytes ≡ 0 → mask < lanes → payload < bits
    → (nat_le size 8 && nat_lt source ids && nat_lt address (2 ^ 48) && address % bytes == 0 && nat_lt mask lanes && nat_lt payload bits) ≡ true
down_tests size source ids address bytes mask lanes payload bits a b c d e f = grind (arith, nat_tests)

up_tests : (size source ids payload bits : ℕ) → size ≤ 8 → source < ids → payload < bits → (nat_le size 8 && nat_lt source ids && nat_lt payload bits) ≡ true
up_tests size source ids payload bits a b c = grind (arith, nat_tests)

carried_down : (edge : PlanEdge) (beat : ABeat) → beat.size ≤ 8 → beat.address < 2 ^ 48 → beat.address % bytes_of beat.size ≡ 0 → FitsDown edge beat → IsTrue (carries_a edge beat)
unfolding carries_a
carried_down edge beat size address aligned fits =
    down_tests beat.size beat.source edge.ids beat.address (bytes_of beat.size) beat.mask (2 ^ bus_width edge) beat.payload (2 ^ (8 * bus_width edge)) size fits.id address aligned fits.wires.1.1.1.1.1.0 fits.wires.1.1.1.1.1.1.0

carried_up : (edge : PlanEdge) (beat : DBeat) → beat.size ≤ 8 → FitsUp edge beat → IsTrue (carries_d edge beat)
unfolding carries_d
carried_up edge beat size fits = up_tests beat.size beat.source edge.ids beat.payload (2 ^ (8 * bus_width edge)) size fits.id fits.wires.1.1.1.1.0

pub legal_beats : HeadsLaw → LegalLaw → WiresLaw → LegalBeatsLaw
legal_beats heads legal_law wires = record {
  requests = λ edge request sound legal k d l.
      let beat : ABeat = slice_index_or (beats_of_request (bus_width edge) request) k d in
      let is : IsBeatOf request beat = heads.requests (bus_width edge) request k d l in
      let fits : FitsDown edge beat = wires.requests edge request sound legal k d l in
      let shape = legal.answerable.whole.shape in
      carried_down edge beat (subst (λ (n : ℕ). n ≤ 8) (sym is.size) shape.small)
      (subst (λ (n : ℕ). n < 2 ^ 48) (sym is.address) (legal_law.address edge.slaves request sound.sets legal.answerable.owned))
      (subst (λ (n : ℕ). n % bytes_of beat.size ≡ 0) (sym is.address) (subst (λ (n : ℕ). request.address % bytes_of n ≡ 0) (sym is.size) shape.aligned))
      fits;
  responses = λ edge request response sound legal back k d l.
      let beat : DBeat = slice_index_or (beats_of_response (bus_width edge) request.address response) k d in
      let is : IsBeatBack response beat = heads.responses (bus_width edge) request.address response k d l in
      let fits : FitsUp edge beat = wires.responses edge request response sound legal back k d l in
      carried_up edge beat (subst (λ (n : ℕ). n ≤ 8) (sym (is.size ∙ back.answers.size)) legal.answerable.whole.shape.small) fits;
}
