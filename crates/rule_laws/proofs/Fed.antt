-- What goes down each edge has masters, each with an id, where that is so above.
use Rattle.std.proofs.Common.{◌≡◌, ℕ, suc, ◌+◌, ◌<◌, ◌≤◌, Bool, true, false, cond, ◌&&◌, nat_le, List, [], ◌∷◌, ◌++◌, length, map, Option, Some, None, Result, Ok, Err, refl, sym, ap, ◌∙◌, subst, arith}
use Rattle.std.specs.Prelude.{All, nat_lt}
use Rattle.std.specs.List.{list_all}
use Rattle.std.proofs.lemmas.Bool.{ltb-true, leb-true}
use Rattle.std.proofs.Common.{le-leb, lt-ltb}
use Rattle.std.proofs.lemmas.Bool.Decides.{nat_tests}
use Rattle.std.proofs.lemmas.List.Elements.{All-head}
use Rattle.dip_lists.proofs.Tests.{both}
use Rattle.dip_sets.specs.declared.ids.IdRange.{IdRange}
use Rattle.tl_params.specs.Owners.{largest_end}
use Rattle.tl_params.specs.Arguments.{fragment_arguments, shrink_argument}
use Rattle.tl_params.specs.declared.ports.Master.{Master}
use Rattle.tl_params.specs.declared.ports.DownPort.{DownPort}
use Rattle.dip_rule.specs.Stated.{StatedRule, StatedAnswer}
use Rattle.tl_rules.specs.Refusals.{only, with_arguments, with_port}
use Rattle.tl_rules.specs.Adapters.{width_argument, buffer_down, width_down}
use Rattle.tl_rules.specs.Fragments.{cut_master, cut_port, fragmenter_down}
use Rattle.tl_rules.specs.Shrinks.{shrunk_port, shrinker_down}
use Rattle.tl_rules.specs.Crossbars.{are_usable, has_ids, id_count, input_ranges, is_id_count, is_usable, joined_masters, shifted_master, xbar_down}
use Rattle.tl_rules.specs.Standard.{standard}
use Rattle.tl_rules.proofs.Crossing.{input_length, usable_parts}
use Rattle.rule_laws.proofs.Refusing.{five}

-- a port with masters, each with an id
pub record IsFed (port : DownPort) : Type 0 where
  pub some : 1 ≤ length port.masters
  pub ids : list_all has_ids port.masters ≡ true

-- such ports come from such ports
abbrev pub Feeds : StatedAnswer DownPort → Type 0
Feeds down = (args : List ℕ) (ins : List DownPort) (below : DownPort) → All IsFed ins → down args ins ≡ Ok below → IsFed below

abbrev pub RuleFeeds : StatedRule → Type 0
RuleFeeds rule = Feeds rule.down

-- ---- adapters

-- an answer to one port
seen : {A : Type 0} (shows : A → DownPort → Result DownPort ℕ) (a : A) (ins : List DownPort) (below : DownPort) → All IsFed ins
    → ((port : DownPort) → IsFed port → shows a port ≡ Ok below → IsFed below) → with_port (only ins) (shows a) ≡ Ok below → IsFed below
seen shows a [] below h f e = absurd cc
seen shows a (port ∷ []) below h f e = f port (All-head IsFed port [] h) e
seen shows a (port ∷ other ∷ more) below h f e = absurd cc

same : (a b : DownPort) → ◌≡◌ {A = Result DownPort ℕ} (Ok a) (Ok b) → a ≡ b
same a b e = cc

as_it_is : (port below : DownPort) → IsFed port → ◌≡◌ {A = Result DownPort ℕ} (Ok port) (Ok below) → IsFed below
as_it_is port below h e = subst IsFed (same port below e) h

module _ {A : Type 0} (taking : List ℕ → Option A) (shows : A → DownPort → Result DownPort ℕ)
    (feeds : (args : List ℕ) (a : A) → taking args ≡ Some a → (port below : DownPort) → IsFed port → shows a port ≡ Ok below → IsFed below) where
  adapter_feeds : Feeds (λ args ins. with_arguments (taking args) (λ a. with_port (only ins) (shows a)))
  adapter_feeds args ins below h e = at (taking args) refl e
    where
      at : (o : Option A) → taking args ≡ o → with_arguments o (λ a. with_port (only ins) (shows a)) ≡ Ok below → IsFed below
      at None q e = absurd cc
      at (Some a) q e = seen shows a ins below h (λ port fed. feeds args a q port below fed) e

buffer_feeds : Feeds buffer_down
buffer_feeds [] ins below h e = seen {A = ℕ} (λ a port. Ok port) 0 ins below h (λ port fed. as_it_is port below fed) e
buffer_feeds (arg ∷ args) ins below h e = absurd cc

width_feeds : Feeds width_down
width_feeds = adapter_feeds width_argument (λ a port. Ok port) (λ args a q port below fed e. as_it_is port below fed e)

cut_long : (piece : ℕ) (masters : List Master) → length (map (cut_master piece) masters) ≡ length masters
cut_long piece [] = refl
cut_long piece (m ∷ masters) = ap suc (cut_long piece masters)

cut_ids : (piece : ℕ) (masters : List Master) → list_all has_ids (map (cut_master piece) masters) ≡ list_all has_ids masters
cut_ids piece [] = refl
cut_ids piece (m ∷ masters) = ap (λ b. has_ids m && b) (cut_ids piece masters)

cut_fed : (piece : ℕ) (port : DownPort) → IsFed port → IsFed (cut_port piece port)
cut_fed piece port h = record { some = subst (λ n. 1 ≤ n) (sym (cut_long piece port.masters)) h.some; ids = cut_ids piece port.masters ∙ h.ids }

fragmenter_feeds : Feeds fragmenter_down
fragmenter_feeds = adapter_feeds fragment_arguments (λ fragments port. Ok (cut_port fragments.piece port))
    (λ args fragments q port below fed e. as_it_is (cut_port fragments.piece port) below (cut_fed fragments.piece port fed) e)

some_ids : (args : List ℕ) (ids : ℕ) → shrink_argument args ≡ Some ids → 1 ≤ ids
some_ids [] ids e = absurd cc
some_ids (n ∷ []) ids e = at (nat_le 1 n && nat_le n 64) refl e
  where
    at : (b : Bool) → (nat_le 1 n && nat_le n 64) ≡ b → cond b (Some n) None ≡ Some ids → 1 ≤ ids
    at false q e = absurd cc
    at true q e = let s : n ≡ ids = cc in subst (λ m. 1 ≤ m) s (leb-true 1 n (both (nat_le 1 n) (nat_le n 64) q).0)
some_ids (n ∷ other ∷ more) ids e = absurd cc

shrunk_fed : (ids : ℕ) (masters : List Master) (below : DownPort) → 1 ≤ ids → shrunk_port ids masters ≡ Ok below → IsFed below
shrunk_fed ids [] below l e = absurd cc
shrunk_fed ids (m ∷ masters) below l e = subst IsFed (same _ below e) (record { some = omega arith; ids = alone (nat_lt 0 ids) (lt-ltb 0 ids l) })
  where
    alone : (b : Bool) → b ≡ true → (b && true) ≡ true
    alone b h = rw h refl

shrinker_feeds : Feeds shrinker_down
shrinker_feeds = adapter_feeds shrink_argument (λ ids port. shrunk_port ids port.masters) (λ args ids q port below fed e. shrunk_fed ids port.masters below (some_ids args ids q) e)

-- ---- crossbars

moved_ids : (by : ℕ) (m : Master) → has_ids m ≡ true → has_ids (shifted_master by m) ≡ true
moved_ids by m h = let l = ltb-true m.ids.start m.ids.end h in lt-ltb (m.ids.start + by) (m.ids.end + by) (omega arith)

and_both : (a b : Bool) → a ≡ true → b ≡ true → (a && b) ≡ true
and_both a b p q = rw (p, q) refl

all_moved : (by : ℕ) (masters : List Master) → list_all has_ids masters ≡ true → list_all has_ids (map (shifted_master by) masters) ≡ true
all_moved by [] h = refl
all_moved by (m ∷ masters) h =
    let b = both (has_ids m) (list_all has_ids masters) h in
    and_both (has_ids (shifted_master by m)) (list_all has_ids (map (shifted_master by) masters)) (moved_ids by m b.0) (all_moved by masters b.1)

all_joined : (a b : List Master) → list_all has_ids a ≡ true → list_all has_ids b ≡ true → list_all has_ids (a ++ b) ≡ true
all_joined [] b p q = q
all_joined (m ∷ a) b p q = let h = both (has_ids m) (list_all has_ids a) p in and_both (has_ids m) (list_all has_ids (a ++ b)) h.0 (all_joined a b h.1 q)

usable_ids : (ins : List DownPort) (ranges : List IdRange) → list_all is_usable ins ≡ true → list_all has_ids (joined_masters ins ranges) ≡ true
usable_ids [] ranges h = refl
usable_ids (port ∷ ins) [] h = refl
usable_ids (port ∷ ins) (range ∷ ranges) h =
    let b = both (is_usable port) (list_all is_usable ins) h in
    all_joined (map (shifted_master range.start) port.masters) (joined_masters ins ranges)
    (all_moved range.start port.masters (both (is_id_count (id_count port)) (list_all has_ids port.masters) b.0).1) (usable_ids ins ranges b.1)

some_joined : (by : ℕ) (masters rest : List Master) → 1 ≤ largest_end masters → 1 ≤ length (map (shifted_master by) masters ++ rest)
some_joined by [] rest h = absurd (omega arith)
some_joined by (m ∷ masters) rest h = omega arith

some_masters : (ins : List DownPort) (ranges : List IdRange) → length ranges ≡ length ins → 1 ≤ length ins → list_all is_usable ins ≡ true → 1 ≤ length (joined_masters ins ranges)
some_masters [] ranges long some h = absurd (omega arith)
some_masters (port ∷ ins) [] long some h = absurd (omega arith)
some_masters (port ∷ ins) (range ∷ ranges) long some h =
    let b = both (is_usable port) (list_all is_usable ins) h in
    let c = both (is_id_count (id_count port)) (list_all has_ids port.masters) b.0 in
    some_joined range.start port.masters (joined_masters ins ranges) (leb-true 1 (id_count port) (both (nat_le 1 (id_count port)) (nat_le (id_count port) 1024) c.0).0)

xbar_feeds : Feeds xbar_down
xbar_feeds [] ins below h e = at (are_usable ins) refl e
  where
    at : (b : Bool) → are_usable ins ≡ b → cond {A = Result DownPort ℕ} b (Ok (record { masters = joined_masters ins (input_ranges ins) })) (Err 2) ≡ Ok below → IsFed below
    at false q e = absurd cc
    at true q e =
        let parts = usable_parts ins q in
        let c = both (nat_le 1 (length ins)) (nat_le (length ins) 1024) (both (nat_le 1 (length ins) && nat_le (length ins) 1024) (list_all is_usable ins) q).0 in
        subst IsFed (same _ below e) (record {
          some = some_masters ins (input_ranges ins) (input_length ins) (leb-true 1 (length ins) c.0) parts.0;
          ids = usable_ids ins (input_ranges ins) parts.0;
        })
xbar_feeds (arg ∷ args) ins below h e = absurd cc

pub each_feeds : All RuleFeeds standard
each_feeds = five RuleFeeds _ _ _ _ _ buffer_feeds width_feeds fragmenter_feeds shrinker_feeds xbar_feeds

-- ---- what a crossbar can't use

never : {Q : Type 0} → true ≡ false → Q
never z = absurd cc

not_le : (a b : ℕ) → nat_le a b ≡ false → b < a
not_le a b h = grind (arith, nat_tests)

some_end : (masters : List Master) → 1 ≤ length masters → list_all has_ids masters ≡ true → 1 ≤ largest_end masters
some_end [] some h = absurd (omega arith)
some_end (m ∷ masters) some h = let l = ltb-true m.ids.start m.ids.end (both (has_ids m) (list_all has_ids masters) h).0 in omega arith

-- a fed port that a crossbar can't use has too many ids
pub too_many : (port : DownPort) → IsFed port → is_usable port ≡ false → 1024 < id_count port
too_many port h e = at (nat_le (id_count port) 1024) refl
  where
    at : (b : Bool) → nat_le (id_count port) 1024 ≡ b → 1024 < id_count port
    at false q = not_le (id_count port) 1024 q
    at true q =
        let usable : is_usable port ≡ true = and_both (is_id_count (id_count port)) (list_all has_ids port.masters)
        (and_both (nat_le 1 (id_count port)) (nat_le (id_count port) 1024) (le-leb 1 (id_count port) (some_end port.masters h.some h.ids)) q) h.ids in
        never (sym usable ∙ e)

-- of 1 to 1,024 inputs that can't be used together one can't be used
pub one_unusable : (ins : List DownPort) → 1 ≤ length ins → length ins ≤ 1024 → are_usable ins ≡ false → list_all is_usable ins ≡ false
one_unusable ins some few e = at (list_all is_usable ins) refl
  where
    at : (b : Bool) → list_all is_usable ins ≡ b → b ≡ false
    at false q = refl
    at true q =
        let usable : are_usable ins ≡ true = and_both (nat_le 1 (length ins) && nat_le (length ins) 1024) (list_all is_usable ins)
        (and_both (nat_le 1 (length ins)) (nat_le (length ins) 1024) (le-leb 1 (length ins) some) (le-leb (length ins) 1024 few)) q in
        never (sym usable ∙ e)
