-- Worked examples: what single rules refuse, and the first failures of designs of a source, a node and a sink.
use Rattle.std.specs.Prelude.{ℕ, ◌≡◌, List, [], ◌∷◌, codes, Some, None}
use Rattle.dip_lists.specs.First.{failure_of, first_failing}
use Rattle.dip_sets.specs.SizeRanges.{SizeRange, size_range, no_sizes}
use Rattle.tl_params.specs.declared.ops.Ops.{Ops}
use Rattle.tl_params.specs.declared.ops.Policy.TheVariants.{Lowest}
use Rattle.tl_params.specs.declared.ops.Template.TheVariants.{Buffer, Shrinker, Xbar}
use Rattle.tl_params.specs.declared.ports.DownPort.{DownPort}
use Rattle.dip_graph.specs.declared.design.Star.TheVariants.{One}
use Rattle.dip_graph.specs.declared.design.NodeKind.{NodeKind}
use Rattle.dip_graph.specs.declared.design.NodeKind.TheVariants.{Source, Sink, Ruled}
use Rattle.dip_graph.specs.declared.design.NodeEntry.{NodeEntry}
use Rattle.dip_graph.specs.declared.design.BindEntry.{BindEntry}
use Rattle.dip_graph.specs.declared.design.Design.{Design}
use Rattle.dip_rule.specs.Stated.{stated_rule}
use Rattle.dip_negotiate.specs.Negotiation.{no_masters, source_port}
use Rattle.tl_rules.specs.Adapters.{buffer_down, buffer_up}
use Rattle.tl_rules.specs.Standard.{standard}
use Rattle.dip_checks.specs.Checks.{design_checks}
use Rattle.rule_laws.specs.RuleRefusals.{AreSideOf, AreUnusable, RefusesArguments}

-- gets and puts of the same sizes, and nothing else
abbrev pub gets_and_full_puts : SizeRange → Ops
gets_and_full_puts sizes =
    record {
      get = sizes;
      put_full = sizes;
      put_partial = no_sizes;
      arithmetic = no_sizes;
      logical = no_sizes;
      intent = no_sizes;
    }

-- a node of the only module
abbrev pub entry_of : List ℕ → NodeKind → NodeEntry
entry_of name kind = record { name = name; «module» = 0; kind = kind }

-- one edge from a node to another
abbrev pub bind_from : ℕ → ℕ → BindEntry
bind_from from to = record { to = to; from = from; star = One }

-- requests of up to 64 bytes from a source with so many ids go through a node of this kind to a memory of 4,096 bytes
-- on a bus of 8
abbrev pub chain : ℕ → List ℕ → List ℕ → Design
chain ids kind args =
    record {
      name = codes "chip";
      policy = Lowest;
      modules = record { name = codes "chip"; parent = 0 } ∷ [];
      nodes =
          entry_of (codes "core") (Source 1 ids (gets_and_full_puts (size_range 1 64)))
          ∷ entry_of (codes "middle") (Ruled kind args)
          ∷ entry_of (codes "ram")
          (Sink 8 ((record { base = 4096; mask = 4095 } ∷ []) ∷ []) (gets_and_full_puts (size_range 1 64)))
          ∷ [];
      binds = bind_from 0 1 ∷ bind_from 1 2 ∷ [];
    }

-- what goes down from a source with so many ids
abbrev pub with_ids : ℕ → DownPort
with_ids ids = source_port 0 0 ids (gets_and_full_puts (size_range 1 64))

pub record RefusalExamples : Type 0 where
  -- a buffer takes no argument
  pub argument : RefusesArguments (stated_rule (codes "buffer") Buffer buffer_down buffer_up) (1 ∷ [])
  -- an adapter sees one port, a crossbar two together
  pub alone : AreSideOf Shrinker (no_masters ∷ [])
  pub together : AreSideOf Xbar (no_masters ∷ no_masters ∷ [])
  -- a shrinker can't use a port without masters, and a crossbar none with 1,025 ids
  pub empty : AreUnusable Shrinker (no_masters ∷ [])
  pub wide : AreUnusable Xbar (with_ids 1 ∷ with_ids 1025 ∷ [])
  -- a width of 3 bytes; more ids than a crossbar can give, of one source, which no file may state (64 are the most);
  -- pieces of 4 bytes before a bus of 8; pieces of 8 pass
  pub width : first_failing (design_checks standard (chain 2 (codes "width") (3 ∷ []))) ≡ Some (failure_of 11 1)
  pub ids : first_failing (design_checks standard (chain 1025 (codes "xbar") [])) ≡ Some (failure_of 11 1)
  pub pieces : first_failing (design_checks standard (chain 2 (codes "fragmenter") (4 ∷ 64 ∷ [])))
      ≡ Some (failure_of 17 1)
  pub passes : first_failing (design_checks standard (chain 2 (codes "fragmenter") (8 ∷ 64 ∷ []))) ≡ None
