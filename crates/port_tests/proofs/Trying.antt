-- Sixty-four addresses in a row, and a port with a device that is prepared at them.
use Rattle.std.proofs.Common.{ℕ, ◌≡◌, ◌+◌, ◌<◌, List, map, sym, subst, arith}
use Rattle.std.specs.List.{range_with_len}
use Rattle.std.proofs.lemmas.List.FromFn.{get_or-map-range_with_len, length-map-range_with_len}
use Rattle.sim_ports.specs.Prepared.{AreRising}

-- numbers in a row rise
pub row_rises : (first count : ℕ) → AreRising (map (λ k. first + k) (range_with_len 0 count))
row_rises first count i j d less within =
    let many : j < count = subst (λ n. j < n) (length-map-range_with_len (λ k. first + k) 0 count) within in
    let low = get_or-map-range_with_len (λ k. first + k) 0 count i i d (omega (arith, less, many)) (omega arith) in
    let high = get_or-map-range_with_len (λ k. first + k) 0 count j j d many (omega arith) in
    omega (arith, low, high, less)

-- all of them, when so many have been added
pub all_rise : (first number : ℕ) (xs : List ℕ) → xs ≡ map (λ k. first + k) (range_with_len 0 number) → AreRising xs
all_rise first number xs e = subst (λ (ys : List ℕ). AreRising ys) (sym e) (row_rises first number)
