-- The checks of a file, those of its design and check 19 stand in order together.
use Rattle.std.proofs.Common.{◌≡◌, ℕ, ◌<◌, ◌≤◌, List, [], ◌∷◌, Bool, true, Option, Some, None, refl, arith}
use Rattle.std.specs.Prelude.{All, AllPairs, nat_le, nat_lt}
use Rattle.std.specs.List.{list_all}
use Rattle.std.proofs.lemmas.List.Elements.{All-nil, All-cons, All-append, All-from_recursion}
use Rattle.dip_lists.proofs.Pairs.{joined}
use Rattle.dip_lists.proofs.Places.{places_rise}
use Rattle.dip_lists.proofs.Tests.{both}
use Rattle.dip_lists.specs.First.{Check}
use Rattle.dip_lists.specs.FirstLaw.{Precedes, HasRisingSubjects, AreInOrder}
use Rattle.dip_lists.proofs.FirstFailures.{first_law}
use Rattle.dip_graph.specs.declared.design.Design.{Design}
use Rattle.dip_graph.specs.declared.design.NodeEntry.{NodeEntry}
use Rattle.dip_rule.specs.Stated.{StatedRule}
use Rattle.dip_checks.specs.Checks.{design_checks}
use Rattle.dip_checks.proofs.Order.{in_order}
use Rattle.soc_build.specs.Kinds.{kind_is_unbuilt, hardware_checks}
use Rattle.soc_build.specs.Netlists.{build_checks}
use Rattle.soc_design.specs.Reading.{file_checks, stated_design}
use Rattle.soc_design.proofs.Order.{file_order, lower_precede, numbers_low}
use Rattle.soc_top.specs.Designs.{checks_of, all_checks, first_failure}
use Rattle.soc_top.specs.Netlists.{build_checks_of, checks_to_build, build_failure}
use Rattle.soc_top.specs.FirstOfAll.{FirstOfAllLaw}

-- a test of all holds of each
each : (test : Check → Bool) (P : Check → Type 0) → ((c : Check) → test c ≡ true → P c) → (checks : List Check) → list_all test checks ≡ true → All P checks
each test P tells [] h = All-nil P
each test P tells (c ∷ checks) h =
    let parts = both (test c) (list_all test checks) h in
    All-cons P c checks (tells c parts.0) (each test P tells checks parts.1)

high_test : (rules : List StatedRule) (design : Design) → list_all (λ c. nat_le 5 c.number) (design_checks rules design) ≡ true
unfolding design_checks
high_test rules design = refl

high : (rules : List StatedRule) (design : Option Design) → All (λ c. 5 ≤ c.number) (checks_of rules design)
high rules None = All-nil (λ c. 5 ≤ c.number)
high rules (Some design) = each (λ c. nat_le 5 c.number) (λ c. 5 ≤ c.number) (λ c h. grind arith) (design_checks rules design) (high_test rules design)

later_order : (rules : List StatedRule) (design : Option Design) → AreInOrder (checks_of rules design)
later_order rules None = record { ordered = λ i j d before within. absurd (omega arith); rising = All-nil HasRisingSubjects }
later_order rules (Some design) = in_order rules design

all_in_order : (rules : List StatedRule) (bytes : List ℕ) → AreInOrder (all_checks rules bytes)
all_in_order rules bytes =
    let front : AreInOrder (file_checks bytes) = file_order.ordered bytes in
    let back : AreInOrder (checks_of rules (stated_design bytes)) = later_order rules (stated_design bytes) in
    record {
      ordered = joined Precedes (file_checks bytes) (checks_of rules (stated_design bytes)) front.ordered back.ordered
          (lower_precede 5 (file_checks bytes) (checks_of rules (stated_design bytes)) (numbers_low bytes) (high rules (stated_design bytes)));
      rising = All-append HasRisingSubjects (file_checks bytes) (checks_of rules (stated_design bytes)) front.rising back.rising;
    }

-- ---- with check 19 behind them

low_test : (rules : List StatedRule) (design : Design) → list_all (λ c. nat_lt c.number 19) (design_checks rules design) ≡ true
unfolding design_checks
low_test rules design = refl

-- check 19 alone
last_ordered : (rules : List StatedRule) (design : Design) → AllPairs Precedes (hardware_checks rules design)
last_ordered rules design i j d before within = absurd (omega arith)

last_rising : (rules : List StatedRule) (design : Design) → All HasRisingSubjects (hardware_checks rules design)
last_rising rules design =
    All-from_recursion HasRisingSubjects (hardware_checks rules design)
    (places_rise (λ number (node : NodeEntry). kind_is_unbuilt rules node.kind) 0 design.nodes, tt)

build_order : (rules : List StatedRule) (design : Design) → AreInOrder (build_checks rules design)
build_order rules design =
    let front : AreInOrder (design_checks rules design) = in_order rules design in
    record {
      ordered = joined Precedes (design_checks rules design) (hardware_checks rules design) front.ordered (last_ordered rules design)
          (lower_precede 19 (design_checks rules design) (hardware_checks rules design)
          (each (λ c. nat_lt c.number 19) (λ c. c.number < 19) (λ c h. grind arith) (design_checks rules design) (low_test rules design))
          (each (λ c. nat_le 19 c.number) (λ c. 19 ≤ c.number) (λ c h. grind arith) (hardware_checks rules design) refl));
      rising = All-append HasRisingSubjects (design_checks rules design) (hardware_checks rules design) front.rising (last_rising rules design);
    }

all_high_test : (rules : List StatedRule) (design : Design) → list_all (λ c. nat_le 5 c.number) (build_checks rules design) ≡ true
unfolding design_checks
all_high_test rules design = refl

all_high : (rules : List StatedRule) (design : Option Design) → All (λ c. 5 ≤ c.number) (build_checks_of rules design)
all_high rules None = All-nil (λ c. 5 ≤ c.number)
all_high rules (Some design) = each (λ c. nat_le 5 c.number) (λ c. 5 ≤ c.number) (λ c h. grind arith) (build_checks rules design) (all_high_test rules design)

later_build_order : (rules : List StatedRule) (design : Option Design) → AreInOrder (build_checks_of rules design)
later_build_order rules None = record { ordered = λ i j d before within. absurd (omega arith); rising = All-nil HasRisingSubjects }
later_build_order rules (Some design) = build_order rules design

to_build_in_order : (rules : List StatedRule) (bytes : List ℕ) → AreInOrder (checks_to_build rules bytes)
to_build_in_order rules bytes =
    let front : AreInOrder (file_checks bytes) = file_order.ordered bytes in
    let back : AreInOrder (build_checks_of rules (stated_design bytes)) = later_build_order rules (stated_design bytes) in
    record {
      ordered = joined Precedes (file_checks bytes) (build_checks_of rules (stated_design bytes)) front.ordered back.ordered
          (lower_precede 5 (file_checks bytes) (build_checks_of rules (stated_design bytes)) (numbers_low bytes) (all_high rules (stated_design bytes)));
      rising = All-append HasRisingSubjects (file_checks bytes) (build_checks_of rules (stated_design bytes)) front.rising back.rising;
    }

-- ---- both

pub first_of_all : FirstOfAllLaw
unfolding first_failure build_failure
first_of_all =
    record {
      map = record {
        ordered = all_in_order;
        some = λ rules bytes failure. first_law.some (all_checks rules bytes) failure (all_in_order rules bytes);
        none = λ rules bytes. first_law.none (all_checks rules bytes);
      };
      verilog = record {
        ordered = to_build_in_order;
        some = λ rules bytes failure. first_law.some (checks_to_build rules bytes) failure (to_build_in_order rules bytes);
        none = λ rules bytes. first_law.none (checks_to_build rules bytes);
      };
    }
