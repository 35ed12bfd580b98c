-- What is said of the kinds of nodes that a file states: their numbers are within the limits.
use Rattle.std.proofs.Common.{◌≡◌, ℕ, ◌≤◌, ℤ, Bool, true, false, cond, ◌&&◌, ◌==◌, List, [], ◌∷◌, length, nat_le, Option, Some, None, refl, ap, subst, arith}
use Rattle.std.specs.Prelude.{codes, All, bit_and, pos, negsuc}
use Rattle.std.specs.Option.{option_map, option_and_then}
use Rattle.std.specs.Str.{bytes_eq}
use Rattle.std.proofs.lemmas.Bool.{eqb-true, leb-true}
use Rattle.std.proofs.lemmas.List.Elements.{All-nil, All-cons}
use Rattle.toml.specs.Data.{Data, array, Items, no_items, item, Members, get_member}
use Rattle.dip_lists.proofs.Tests.{both}
use Rattle.dip_sets.specs.Sets.{Pattern, IsSet}
use Rattle.dip_sets.specs.SizeRanges.{SizeRange, size_range, no_sizes, is_size_pair}
use Rattle.tl_params.specs.Arguments.{is_width}
use Rattle.tl_params.specs.declared.ops.Ops.{Ops}
use Rattle.dip_graph.specs.Limits.{most_name_bytes, most_args, most_ports, most_sets, most_source_ids, most_atomic}
use Rattle.dip_graph.specs.WellStated.{IsUpTo, IsShortName, HasSmallAtomics, IsStatedPort, IsStatedKind}
use Rattle.dip_graph.specs.declared.design.NodeKind.{NodeKind}
use Rattle.dip_graph.specs.declared.design.NodeKind.TheVariants.{Ruled}
use Rattle.toml_shape.specs.Shapes.{short_name, number_within, text_under, name_under, number_under, pair_of, integer_of, table_under}
use Rattle.soc_design.specs.Limits.{most_transfer, most_address, most_beat}
use Rattle.soc_design.specs.Stated.{sizes_of_pair, stated_sizes, operations_in, operations_under, set_of_pair, set_of}
use Rattle.soc_design.specs.Stated.{stated_sets, stated_ports, port_count_of, port_count_in, source_of, stated_beat, beat_under, sink_of, arg_of, args_of}
use Rattle.soc_design.specs.Stated.{ruled_of, named_kind_of, kind_of}
use Rattle.toml_shape.specs.Entries.{all_of, before, of_length}

-- ---- options

pub and_then : {A B : Type 0} (f : A → Option B) (o : Option A) (y : B) → option_and_then f o ≡ Some y → (x : A) × (o ≡ Some x) × (f x ≡ Some y)
and_then f None y e = absurd cc
and_then f (Some x) y e = (x, refl, e)

pub then_map : {A B : Type 0} (f : A → B) (o : Option A) (y : B) → option_map f o ≡ Some y → (x : A) × (o ≡ Some x) × (f x ≡ y)
then_map f None y e = absurd cc
then_map f (Some x) y e = (x, refl, cc)

pub if_some : {A : Type 0} (b : Bool) (x y : A) → cond b (Some x) None ≡ Some y → (b ≡ true) × (x ≡ y)
if_some true x y e = (refl, cc)
if_some false x y e = absurd cc

-- what holds of all that is stated of an item holds of what all items state
pub each : {A : Type 0} (P : A → Type 0) (states : Data → Option A) → ((d : Data) (x : A) → states d ≡ Some x → P x) → (ds : Items) (xs : List A) → all_of states ds ≡ Some xs → All P xs
each P states h no_items xs e = let z : [] ≡ xs = cc in subst (λ ys. All P ys) z (All-nil P)
each {A} P states h (item d ds) xs e = at (states d) (all_of states ds) refl refl e (λ ys f. each P states h ds ys f)
  where
    at : (o : Option A) (rest : Option (List A)) → states d ≡ o → all_of states ds ≡ rest → before o rest ≡ Some xs → ((ys : List A) → all_of states ds ≡ Some ys → All P ys) → All P xs
    at None rest p q e f = absurd cc
    at (Some x) None p q e f = absurd cc
    at (Some x) (Some ys) p q e f = let z : x ∷ ys ≡ xs = cc in subst (λ zs. All P zs) z (All-cons P x ys (h d x p) (f ys q))

-- ---- numbers and names

within : (least most : ℕ) (z : ℤ) (n : ℕ) → number_within least most z ≡ Some n → (least ≤ n) × (n ≤ most)
within least most (pos m) n e =
    let i = if_some (nat_le least m && nat_le m most) m n e in
    let b = both (nat_le least m) (nat_le m most) i.0 in
    let s = i.1 in
    (let a = leb-true least m b.0 in omega arith, let a = leb-true m most b.1 in omega arith)
within least most (negsuc m) n e = absurd cc

number_is : (key : List ℕ) (least most : ℕ) (ms : Members) (n : ℕ) → number_under key least most ms ≡ Some n → (least ≤ n) × (n ≤ most)
number_is key least most ms n e = let a = and_then (number_within least most) _ n e in within least most a.0 n a.2

pub short : (key : List ℕ) (ms : Members) (name : List ℕ) → name_under key ms ≡ Some name → IsShortName name
short key ms name e =
    let t = and_then short_name (text_under key ms) name e in
    let i = if_some _ t.0 name t.2 in
    let l = leb-true (length t.0) most_name_bytes (both _ (nat_le (length t.0) most_name_bytes) i.0).1 in
    subst (λ n. length n ≤ most_name_bytes) i.1 l

long_enough : {A : Type 0} (least most : ℕ) (xs ys : List A) → of_length least most xs ≡ Some ys → (xs ≡ ys) × (least ≤ length ys) × (length ys ≤ most)
long_enough least most xs ys e =
    let i = if_some (nat_le least (length xs) && nat_le (length xs) most) xs ys e in
    let b = both (nat_le least (length xs)) (nat_le (length xs) most) i.0 in
    (i.1, subst (λ zs. least ≤ length zs) i.1 (leb-true least (length xs) b.0), subst (λ zs. length zs ≤ most) i.1 (leb-true (length xs) most b.1))

-- ---- sets and ports

right_set : (d : Data) (s : Pattern) → set_of d ≡ Some s → IsSet s
right_set d s e =
    let p = and_then set_of_pair (pair_of d) s e in
    let b = and_then _ (number_within 0 most_address p.0.0) s p.2 in
    let m = and_then _ (number_within 0 most_address p.0.1) s b.2 in
    let i = if_some (bit_and b.0 m.0 == 0) (record { base = b.0; mask = m.0 }) s m.2 in
    let lb = (within 0 most_address p.0.0 b.0 b.1).1 in
    let lm = (within 0 most_address p.0.1 m.0 m.1).1 in
    subst IsSet i.1 (record { apart = eqb-true (bit_and b.0 m.0) 0 i.0; base_fits = omega arith; mask_fits = omega arith })

right_port : (d : Data) (sets : List Pattern) → stated_sets d ≡ Some sets → IsStatedPort sets
right_port (array ds) sets e =
    let a = and_then (of_length 1 most_sets) (all_of set_of ds) sets e in
    let l = long_enough 1 most_sets a.0 sets a.2 in
    ((l.1, l.2), subst (λ ss. All IsSet ss) l.0 (each IsSet set_of right_set ds a.0 a.1))
right_port d sets e = absurd cc

right_ports : (o : Option Data) (ports : List (List Pattern)) → stated_ports o ≡ Some ports → IsUpTo most_ports (length ports) × All IsStatedPort ports
right_ports None ports e = absurd cc
right_ports (Some (array ds)) ports e =
    let a = and_then (of_length 1 most_ports) (all_of stated_sets ds) ports e in
    let l = long_enough 1 most_ports a.0 ports a.2 in
    ((l.1, l.2), subst (λ ps. All IsStatedPort ps) l.0 (each IsStatedPort stated_sets right_port ds a.0 a.1))
right_ports (Some d) ports e = absurd cc

-- ---- operations

small : (o : Option Data) (s : SizeRange) → stated_sizes most_atomic o ≡ Some s → s.max ≤ most_atomic
small None s e = let z : no_sizes ≡ s = cc in let m = ap (λ (r : SizeRange). r.max) z in omega arith
small (Some d) s e =
    let p = and_then (sizes_of_pair most_atomic) (pair_of d) s e in
    let least = and_then _ (number_within 1 most_atomic p.0.0) s p.2 in
    let greatest = and_then _ (number_within 1 most_atomic p.0.1) s least.2 in
    let i = if_some (is_size_pair least.0 greatest.0) (size_range least.0 greatest.0) s greatest.2 in
    let l = (within 1 most_atomic p.0.1 greatest.0 greatest.1).1 in
    let m = ap (λ (r : SizeRange). r.max) i.1 in
    omega arith

-- six ranges in a row, where each of them is one
abbrev six : Option SizeRange → Option SizeRange → Option SizeRange → Option SizeRange → Option SizeRange → Option SizeRange → Option Ops
six a b c d e f =
    option_and_then (λ get. option_and_then (λ put_full. option_and_then (λ put_partial.
    option_and_then (λ arithmetic. option_and_then (λ logical. option_map (λ intent.
    record { get = get; put_full = put_full; put_partial = put_partial; arithmetic = arithmetic; logical = logical; intent = intent })
    f) e) d) c) b) a

six_parts : (a b c d e f : Option SizeRange) (ops : Ops) → six a b c d e f ≡ Some ops → (d ≡ Some ops.arithmetic) × (e ≡ Some ops.logical)
six_parts None b c d e f ops h = absurd cc
six_parts (Some a) None c d e f ops h = absurd cc
six_parts (Some a) (Some b) None d e f ops h = absurd cc
six_parts (Some a) (Some b) (Some c) None e f ops h = absurd cc
six_parts (Some a) (Some b) (Some c) (Some d) None f ops h = absurd cc
six_parts (Some a) (Some b) (Some c) (Some d) (Some e) None ops h = absurd cc
six_parts (Some a) (Some b) (Some c) (Some d) (Some e) (Some f) ops h =
    let z : record { get = a; put_full = b; put_partial = c; arithmetic = d; logical = e; intent = f } ≡ ops = cc in
    (ap (λ (o : Ops). Some o.arithmetic) z, ap (λ (o : Ops). Some o.logical) z)

small_atomics : (key : List ℕ) (ms : Members) (ops : Ops) → operations_under key ms ≡ Some ops → HasSmallAtomics ops
small_atomics key all ops e =
    let o = and_then operations_in (table_under key all) ops e in
    let ms : Members = o.0 in
    let p = six_parts (stated_sizes most_transfer (get_member (codes "get") ms)) (stated_sizes most_transfer (get_member (codes "put_full") ms)) (stated_sizes most_transfer (get_member (codes "put_partial") ms))
    (stated_sizes most_atomic (get_member (codes "arithmetic") ms)) (stated_sizes most_atomic (get_member (codes "logical") ms)) (stated_sizes most_transfer (get_member (codes "intent") ms)) ops o.2 in
    (small (get_member (codes "arithmetic") ms) ops.arithmetic p.0, small (get_member (codes "logical") ms) ops.logical p.1)

-- ---- kinds

few_ports : (o : Option Data) (n : ℕ) → port_count_of o ≡ Some n → IsUpTo most_ports n
few_ports None n e = let z : 1 ≡ n = cc in (omega arith, omega arith)
few_ports (Some d) n e = let a = and_then (number_within 1 most_ports) (integer_of d) n e in within 1 most_ports a.0 n a.2

right_source : (ms : Members) (kind : NodeKind) → source_of ms ≡ Some kind → IsStatedKind kind
right_source ms kind e =
    let p = and_then _ (port_count_in ms) kind e in
    let i = and_then _ (number_under (codes "ids") 1 most_source_ids ms) kind p.2 in
    let m = then_map _ (operations_under (codes "emits") ms) kind i.2 in
    subst IsStatedKind m.2 (few_ports (get_member (codes "ports") ms) p.0 p.1, number_is (codes "ids") 1 most_source_ids ms i.0 i.1, small_atomics (codes "emits") ms m.0 m.1)

right_beat : (n m : ℕ) → stated_beat n ≡ Some m → is_width m ≡ true
right_beat n m e = let i = if_some (is_width n) n m e in subst (λ k. is_width k ≡ true) i.1 i.0

right_sink : (ms : Members) (kind : NodeKind) → sink_of ms ≡ Some kind → IsStatedKind kind
right_sink ms kind e =
    let b = and_then _ (beat_under (codes "beat") ms) kind e in
    let p = and_then _ (stated_ports (get_member (codes "addresses") ms)) kind b.2 in
    let m = then_map _ (operations_under (codes "supports") ms) kind p.2 in
    let w = and_then stated_beat (number_under (codes "beat") 1 most_beat ms) b.0 b.1 in
    let r = right_ports (get_member (codes "addresses") ms) p.0 p.1 in
    subst IsStatedKind m.2 (right_beat w.0 b.0 w.2, r.0, r.1, small_atomics (codes "supports") ms m.0 m.1)

few_args : (o : Option Data) (args : List ℕ) → args_of o ≡ Some args → length args ≤ most_args
few_args None args e = let z : [] ≡ args = cc in subst (λ xs. length xs ≤ most_args) z (omega arith)
few_args (Some (array ds)) args e =
    let a = and_then (of_length 0 most_args) (all_of arg_of ds) args e in
    (long_enough 0 most_args a.0 args a.2).2
few_args (Some d) args e = absurd cc

pub right_kind : (ms : Members) (kind : NodeKind) → kind_of ms ≡ Some kind → IsStatedKind kind
right_kind ms kind e = at (name_under (codes "kind") ms) refl e
  where
    third : (k : List ℕ) → IsShortName k → ruled_of k ms ≡ Some kind → IsStatedKind kind
    third k s e =
        let m = then_map (Ruled k) (args_of (get_member (codes "args") ms)) kind e in
        subst IsStatedKind m.2 (s, few_args (get_member (codes "args") ms) m.0 m.1)

    second : (k : List ℕ) (b : Bool) → IsShortName k → cond b (sink_of ms) (ruled_of k ms) ≡ Some kind → IsStatedKind kind
    second k true s e = right_sink ms kind e
    second k false s e = third k s e

    first_of : (k : List ℕ) (b c : Bool) → IsShortName k → cond b (source_of ms) (cond c (sink_of ms) (ruled_of k ms)) ≡ Some kind → IsStatedKind kind
    first_of k true c s e = right_source ms kind e
    first_of k false c s e = second k c s e

    at : (o : Option (List ℕ)) → name_under (codes "kind") ms ≡ o → named_kind_of o ms ≡ Some kind → IsStatedKind kind
    at None q e = absurd cc
    at (Some k) q e = first_of k (bytes_eq k (codes "source")) (bytes_eq k (codes "sink")) (short (codes "kind") ms k q) e
