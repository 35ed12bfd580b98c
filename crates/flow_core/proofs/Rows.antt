-- Which narrow beats of a message lie in a wide one.
use Rattle.std.proofs.Common.{ℕ, ◌≡◌, ◌+◌, ◌*◌, ◌/◌, ◌<◌, ◌≤◌, ap, sym, ◌∙◌, arith}
use Rattle.std.proofs.lemmas.Nat.{row_fits}
use Rattle.tl_edge.specs.declared.message.Request.{Request}
use Rattle.tl_edge.specs.Beats.{data_beats}
use Rattle.tl_pieces.specs.TwoBuses.{IsAsking, wide_number, first_narrow, narrow_count}
use Rattle.tl_pieces.proofs.Placing.{AreMultiples, multiples, large, middle, small, kind_of, beats_of_large, beats_of_small, in_row, aligned_wide, in_one, alone}
use Rattle.tl_pieces.proofs.Narrowing.{large_beats}
use Rattle.tl_pieces.proofs.Widening.{large_count, middle_count, small_count}

pub record StandsIn (narrow wide : ℕ) (request : Request) (number count : ℕ) : Type 0 where
  pub within : first_narrow narrow wide number + count < data_beats request.size narrow
  pub wide_is : wide_number narrow wide request.address (first_narrow narrow wide number + count) ≡ number
  pub next : number + 1 < data_beats request.size wide → first_narrow narrow wide number + narrow_count narrow wide request.size ≡ first_narrow narrow wide (number + 1)
  pub end : number + 1 ≡ data_beats request.size wide → first_narrow narrow wide number + narrow_count narrow wide request.size ≡ data_beats request.size narrow

one_row : (number ratio : ℕ) → (number + 1) * ratio ≡ number * ratio + ratio
one_row number ratio = grind arith

pub stands : (narrow wide : ℕ) (request : Request) (number count : ℕ) → IsAsking narrow wide request → number < data_beats request.size wide → count < narrow_count narrow wide request.size
    → StandsIn narrow wide request number count
stands narrow wide request number count asks below inside = elim (kind_of narrow wide request.size asks.buses) [
  | large times some is ↦
      let m : AreMultiples narrow wide = multiples narrow wide asks.buses in
      let any : 0 < wide = omega (arith, asks.buses.less, m.positive) in
      let beats : data_beats request.size narrow ≡ times * m.ratio = large_beats narrow wide request.size m.ratio times m.is m.positive m.some some is in
      let wides : data_beats request.size wide ≡ times = beats_of_large wide request.size times any some is in
      let each : narrow_count narrow wide request.size ≡ m.ratio = large_count narrow wide request.size m.ratio times m.is_ratio beats some in
      let first : first_narrow narrow wide number ≡ number * m.ratio = ap (λ (r : ℕ). number * r) m.is_ratio in
      let second : first_narrow narrow wide (number + 1) ≡ (number + 1) * m.ratio = ap (λ (r : ℕ). (number + 1) * r) m.is_ratio in
      let column : count < m.ratio = omega (arith, inside, each) in
      let row : number < times = omega (arith, below, wides) in
      let fits : number * m.ratio + m.ratio ≤ times * m.ratio = row_fits number m.ratio times m.ratio row (omega arith) in
      let more : (number + 1) * m.ratio ≡ number * m.ratio + m.ratio = one_row number m.ratio in
      record {
        within = omega (arith, first, beats, fits, column);
        wide_is = ap (λ (k : ℕ). wide_number narrow wide request.address (k + count)) first
            ∙ (in_row narrow wide request.address number count m.ratio m.is m.positive column (aligned_wide wide request.size times request.address any is asks.whole.shape.aligned)).wide_is;
        next = λ later. omega (arith, first, second, more, each);
        end = λ last.
            let all : (number + 1) * m.ratio ≡ times * m.ratio = ap (λ (k : ℕ). k * m.ratio) (last ∙ wides) in
            omega (arith, first, more, each, all, beats);
      }
  | middle times more some any fits is under ↦
      let m : AreMultiples narrow wide = multiples narrow wide asks.buses in
      let beats : data_beats request.size narrow ≡ times = beats_of_large narrow request.size times m.positive some fits in
      let wides : data_beats request.size wide ≡ 1 = beats_of_small wide request.size under in
      let each : narrow_count narrow wide request.size ≡ times = middle_count narrow wide request.size m.ratio times m.is_ratio m.is fits under beats in
      let only : number ≡ 0 = omega (arith, below, wides) in
      let first : first_narrow narrow wide number ≡ 0 = ap (λ (k : ℕ). k * (wide / narrow)) only ∙ omega arith in
      let place : first_narrow narrow wide number + count ≡ count = omega (arith, first) in
      record {
        within = omega (arith, first, beats, inside, each);
        wide_is = ap (λ (k : ℕ). wide_number narrow wide request.address k) place
            ∙ (in_one narrow wide request.size request.address count times more m.positive any fits is asks.whole.shape.aligned (omega (arith, inside, each))).wide_is ∙ sym only;
        next = λ later. absurd (omega (arith, later, wides));
        end = λ last. omega (arith, first, each, beats);
      }
  | small more any fits under ↦
      let m : AreMultiples narrow wide = multiples narrow wide asks.buses in
      let beats : data_beats request.size narrow ≡ 1 = beats_of_small narrow request.size under in
      let wides : data_beats request.size wide ≡ 1 = beats_of_small wide request.size (omega (arith, under, asks.buses.less)) in
      let each : narrow_count narrow wide request.size ≡ 1 = small_count narrow wide request.size m.ratio m.is_ratio m.some beats in
      let only : number ≡ 0 = omega (arith, below, wides) in
      let first : first_narrow narrow wide number ≡ 0 = ap (λ (k : ℕ). k * (wide / narrow)) only ∙ omega arith in
      let place : first_narrow narrow wide number + count ≡ 0 = omega (arith, first, inside, each) in
      record {
        within = omega (arith, place, beats);
        wide_is = (alone narrow wide request.address (first_narrow narrow wide number + count) m.ratio m.positive m.some m.is place).wide_is ∙ sym only;
        next = λ later. absurd (omega (arith, later, wides));
        end = λ last. omega (arith, first, each, beats);
      }
]
