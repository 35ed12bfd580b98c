-- The input 0 has any width.
use Rattle.std.proofs.Common.{◌≡◌, ℕ, zero, suc, ◌^◌, ◌<◌, List, ◌∷◌, [], length, sym, arith}
use Rattle.std.specs.Prelude.{slice_index}
use Rattle.std.proofs.lemmas.Nat.{pow_pos}
use Rattle.net_cells.specs.declared.netlist.Netlist.{Netlist}
use Rattle.net_cells.specs.Rules.{widths, width_at}
use Rattle.net_cells.specs.Values.{AreInputs}

fits : (ws : List ℕ) (k : ℕ) → k < length {A = ℕ} (0 ∷ []) → slice_index (0 ∷ []) k < 2 ^ width_at ws k
fits ws zero b = pow_pos (width_at ws 0)
fits ws (suc k) b = absurd (omega arith)

pub zero_fits : (n : Netlist) → length n.inputs ≡ 1 → AreInputs n (0 ∷ [])
zero_fits n e = record { long = sym e; fit = fits (widths n) }
