-- After a reset a netlist is where it starts.
use Rattle.std.proofs.Common.{◌≡◌, ℕ, List, [], ◌∷◌, map, refl, ap, ◌∙◌, subst}
use Rattle.std.specs.Prelude.{All}
use Rattle.std.proofs.lemmas.List.Elements.{All-head, All-tail}
use Rattle.net_cells.specs.declared.netlist.Reg.{Reg}
use Rattle.net_cells.specs.Values.{IsRunFrom, first_registers, next_registers}
use Rattle.net_ports.specs.Implementing.{input_values}
use Rattle.net_top.specs.Runs.{ResetLaw}

all_zero : (v : ℕ → ℕ) (rs : List Reg) → All (λ x. x ≡ 0) (map (λ (r : Reg). v r.next) rs) → map (λ (r : Reg). v r.next) rs ≡ map (λ (r : Reg). 0) rs
all_zero v [] h = refl
all_zero v (r ∷ rs) h =
    let rest = map (λ (r : Reg). v r.next) rs in
    ap (λ (x : ℕ). x ∷ rest) (All-head (λ x. x ≡ 0) (v r.next) rest h)
    ∙ ap (λ (xs : List ℕ). 0 ∷ xs) (all_zero v rs (All-tail (λ x. x ≡ 0) (v r.next) rest h))

pub starts_again : ResetLaw
starts_again plan netlist resets is given v cycles values a high offered run =
    let start : next_registers netlist v ≡ first_registers netlist = all_zero v netlist.regs (resets given v a high) in
    is.runs cycles values offered (subst (λ (rs : List ℕ). IsRunFrom netlist rs (map input_values cycles) values) start run)
