-- The wires of ports have the values of what the ports offer.
use Rattle.std.proofs.Common.{◌≡◌, ℕ, zero, suc, ◌+◌, ◌<◌, ◌==◌, Bool, true, false, cond, List, [], ◌∷◌, ◌++◌, length, flat_map, get_or, Option, Some, None, refl, sym, ap, ◌∙◌, arith}
use Rattle.std.specs.Prelude.{slice_index}
use Rattle.std.specs.Int.{from_bool}
use Rattle.std.specs.Option.{option_map}
use Rattle.std.proofs.lemmas.List.{length-append, length-map, map-append}
use Rattle.tl_edge.specs.declared.beat.ABeat.{ABeat}
use Rattle.tl_edge.specs.declared.beat.DBeat.{DBeat}
use Rattle.tl_edge.specs.declared.beat.Tag.{Tag}
use Rattle.tl_edge.specs.Wires.{a_fields, d_fields}
use Rattle.net_build.specs.declared.types.Wire.{Wire}
use Rattle.net_build.specs.Bits.{wire_values, zeros}
use Rattle.net_build.specs.Values.{high}
use Rattle.net_queue.specs.Leaves.{put_told}
use Rattle.net_ports.specs.Implementing.{beat_values, request_values, response_values, sink_values, source_values}
use Rattle.net_ports.specs.Rows.{values_from}
use Rattle.net_parts.specs.declared.types.EndWires.{EndWires}
use Rattle.net_parts.specs.Stands.{down_fields, up_fields}
use Rattle.net_parts.specs.Wired.{wires_of_port}
use Rattle.net_faces.specs.PortRows.{sink_row, source_row}

-- ---- lists in two parts

record Parted (xs ys us vs : List ℕ) : Type 0 where
  front : xs ≡ us
  back : ys ≡ vs

parted : (xs ys us vs : List ℕ) → length xs ≡ length us → xs ++ ys ≡ us ++ vs → Parted xs ys us vs
parted [] ys [] vs l e = record { front = refl; back = e }
parted [] ys (u ∷ us) vs l e = absurd (omega (arith, l))
parted (x ∷ xs) ys [] vs l e = absurd (omega (arith, l))
parted (x ∷ xs) ys (u ∷ us) vs l e =
    let h : x ≡ u = cc in
    let t : xs ++ ys ≡ us ++ vs = cc in
    let p = parted xs ys us vs (omega (arith, l)) t in
    record { front = ap (λ (n : ℕ). n ∷ xs) h ∙ ap (λ (ns : List ℕ). u ∷ ns) p.front; back = p.back }

-- values from one on, of a list in parts
pub values_behind : (x : ℕ) (xs : List ℕ) (from n : ℕ) → values_from (x ∷ xs) (from + 1) n ≡ values_from xs from n
values_behind x xs from zero = refl
values_behind x xs from (suc n) =
    let e : from + 1 ≡ suc from = omega arith in
    ap (λ (y : ℕ). y ∷ values_from (x ∷ xs) (from + 1 + 1) n) (ap (slice_index (x ∷ xs)) e)
    ∙ ap (λ (ys : List ℕ). slice_index xs from ∷ ys) (values_behind x xs (from + 1) n)

pub values_front : (xs ys : List ℕ) → values_from (xs ++ ys) 0 (length xs) ≡ xs
values_front [] ys = refl
values_front (x ∷ xs) ys = ap (λ (zs : List ℕ). x ∷ zs) (values_behind x (xs ++ ys) 0 (length xs) ∙ values_front xs ys)

pub values_back : (xs ys : List ℕ) (n : ℕ) → values_from (xs ++ ys) (length xs) n ≡ values_from ys 0 n
values_back [] ys n = refl
values_back (x ∷ xs) ys n = let e : suc (length xs) ≡ length xs + 1 = omega arith in ap (λ (k : ℕ). values_from (x ∷ (xs ++ ys)) k n) e ∙ values_behind x (xs ++ ys) (length xs) n ∙ values_back xs ys n

pub values_all : (ys : List ℕ) → values_from ys 0 (length ys) ≡ ys
values_all [] = refl
values_all (y ∷ ys) = ap (λ (zs : List ℕ). y ∷ zs) (values_behind y ys 0 (length ys) ∙ values_all ys)

-- ---- one port

told_flag : (n : ℕ) (flag : Bool) → n ≡ from_bool flag → (n == 1) ≡ flag
told_flag n true e = ap (λ (m : ℕ). m == 1) e
told_flag n false e = ap (λ (m : ℕ). m == 1) e

head_of : (x y : ℕ) (xs ys : List ℕ) → x ∷ xs ≡ y ∷ ys → x ≡ y
head_of x y xs ys e = cc

tail_of : (x y : ℕ) (xs ys : List ℕ) → x ∷ xs ≡ y ∷ ys → xs ≡ ys
tail_of x y xs ys e = cc

beat_told : (count valid : ℕ) (items : List ℕ) (beat : Option (List ℕ)) → length items ≡ count → ((fields : List ℕ) → beat ≡ Some fields → length fields ≡ count) → length (zeros count) ≡ count → valid ∷ items ≡ beat_values count beat → cond (valid == 1) (Some items) None ≡ beat
beat_told count valid items None l f z e = ap (λ (n : ℕ). cond (n == 1) (Some items) None) (head_of valid 0 items (zeros count) e)
beat_told count valid items (Some fields) l f z e = ap (λ (n : ℕ). cond (n == 1) (Some items) None) (head_of valid 1 items fields e) ∙ ap (λ (xs : List ℕ). Some xs) (tail_of valid 1 items fields e)

request_long : (beat : Option (ABeat × Tag)) → length (request_values beat) ≡ 8
request_long None = refl
request_long (Some x) = refl

response_long : (beat : Option (DBeat × Tag)) → length (response_values beat) ≡ 6
response_long None = refl
response_long (Some x) = refl

fields_long : (beat : Option (ABeat × Tag)) (fields : List ℕ) → option_map down_fields beat ≡ Some fields → length fields ≡ 7
fields_long None fields e = absurd (let x : None ≡ Some fields = e in cc)
fields_long (Some b) fields e = let h : a_fields b.0 ≡ fields = cc in ap length (sym h)

answer_long : (beat : Option (DBeat × Tag)) (fields : List ℕ) → option_map up_fields beat ≡ Some fields → length fields ≡ 5
answer_long None fields e = absurd (let x : None ≡ Some fields = e in cc)
answer_long (Some b) fields e = let h : d_fields b.0 ≡ fields = cc in ap length (sym h)

-- what a port's wires tell
pub record Told {B : Type 0} (f : B → List ℕ) (v : ℕ → ℕ) (port : EndWires) (beat : Option B) (flag : Bool) : Type 0 where
  pub put : put_told v port.put ≡ option_map f beat
  pub take : high v port.take ≡ flag

items_long : (v : ℕ → ℕ) (items : List Wire) (n : ℕ) → length items ≡ n → length (wire_values v items) ≡ n
items_long v items n l = length-map items (λ (w : Wire). v w.number) ∙ l

source_told : (v : ℕ → ℕ) (port : EndWires) (beat : Option (ABeat × Tag)) (take : Bool) → length port.put.items ≡ 7 → wire_values v (source_row port) ≡ request_values beat ++ from_bool take ∷ [] → Told down_fields v port beat take
source_told v port beat take l e =
    let items = wire_values v port.put.items in
    let i : length items ≡ 7 = items_long v port.put.items 7 l in
    let whole : (v port.put.valid.number ∷ items) ++ v port.take.number ∷ [] ≡ request_values beat ++ from_bool take ∷ [] = ap (λ (xs : List ℕ). v port.put.valid.number ∷ xs) (sym (map-append (λ (w : Wire). v w.number) port.put.items (port.take ∷ []))) ∙ e in
    let p = parted (v port.put.valid.number ∷ items) (v port.take.number ∷ []) (request_values beat) (from_bool take ∷ []) (omega (arith, i, request_long beat)) whole in
    record {
      put = beat_told 7 (v port.put.valid.number) items (option_map down_fields beat) i (fields_long beat) refl p.front;
      take = told_flag (v port.take.number) take (head_of _ _ [] [] p.back);
    }

sink_told : (v : ℕ → ℕ) (port : EndWires) (beat : Option (DBeat × Tag)) (take : Bool) → length port.put.items ≡ 5 → wire_values v (sink_row port) ≡ from_bool take ∷ response_values beat → Told up_fields v port beat take
sink_told v port beat take l e = record {
  put = beat_told 5 (v port.put.valid.number) (wire_values v port.put.items) (option_map up_fields beat) (items_long v port.put.items 5 l) (answer_long beat) refl (tail_of _ _ _ _ e);
  take = told_flag (v port.take.number) take (head_of _ _ _ _ e);
}

-- ---- all ports

row_values : (f : EndWires → List Wire) (v : ℕ → ℕ) (port : EndWires) (ports : List EndWires) → wire_values v (flat_map f (port ∷ ports)) ≡ wire_values v (f port) ++ wire_values v (flat_map f ports)
row_values f v port ports = map-append (λ (w : Wire). v w.number) (f port) (flat_map f ports)

source_long : (v : ℕ → ℕ) (port : EndWires) → length port.put.items ≡ 7 → length (wire_values v (source_row port)) ≡ 9
source_long v port l = let e = length-append port.put.items (port.take ∷ []) in length-map (source_row port) (λ (w : Wire). v w.number) ∙ (let k : length (source_row port) ≡ 9 = omega (arith, e, l) in k)

sink_long : (v : ℕ → ℕ) (port : EndWires) → length port.put.items ≡ 5 → length (wire_values v (sink_row port)) ≡ 7
sink_long v port l = length-map (sink_row port) (λ (w : Wire). v w.number) ∙ (let k : length (sink_row port) ≡ 7 = omega (arith, l) in k)

pub source_values_long : (v : ℕ → ℕ) (ports : List EndWires) (offered : List (Option (ABeat × Tag))) (takes : List Bool) → length offered ≡ length ports → length takes ≡ length ports → ((k : ℕ) → k < length ports → length (wires_of_port ports k).put.items ≡ 7)
    → length (flat_map source_row ports) ≡ length (source_values offered takes)
source_values_long v [] [] [] a b h = refl
source_values_long v [] [] (t ∷ takes) a b h = absurd (omega (arith, b))
source_values_long v [] (o ∷ offered) takes a b h = absurd (omega (arith, a))
source_values_long v (p ∷ ports) [] takes a b h = absurd (omega (arith, a))
source_values_long v (p ∷ ports) (o ∷ offered) [] a b h = absurd (omega (arith, b))
source_values_long v (p ∷ ports) (o ∷ offered) (t ∷ takes) a b h =
    let r = source_values_long v ports offered takes (omega (arith, a)) (omega (arith, b)) (λ k l. h (suc k) (omega (arith, l))) in
    let x = length-append (source_row p) (flat_map source_row ports) in
    let y = length-append (request_values o ++ from_bool t ∷ []) (source_values offered takes) in
    let z = length-append (request_values o) (from_bool t ∷ []) in
    let w = length-append p.put.items (p.take ∷ []) in
    let q = h 0 (omega arith) in
    omega (arith, r, x, y, z, w, q, request_long o)

pub sources_told : (v : ℕ → ℕ) (ports : List EndWires) (offered : List (Option (ABeat × Tag))) (takes : List Bool) → length offered ≡ length ports → length takes ≡ length ports → ((k : ℕ) → k < length ports → length (wires_of_port ports k).put.items ≡ 7)
    → wire_values v (flat_map source_row ports) ≡ source_values offered takes → (k : ℕ) → k < length ports → Told down_fields v (wires_of_port ports k) (get_or offered k None) (get_or takes k false)
sources_told v [] offered takes a b h e k l = absurd (omega (arith, l))
sources_told v (p ∷ ports) [] takes a b h e k l = absurd (omega (arith, a))
sources_told v (p ∷ ports) (o ∷ offered) [] a b h e k l = absurd (omega (arith, b))
sources_told v (p ∷ ports) (o ∷ offered) (t ∷ takes) a b h e k l =
    let q = h 0 (omega arith) in
    let long : length (wire_values v (source_row p)) ≡ length (request_values o ++ from_bool t ∷ []) = let x = source_long v p q in let y = length-append (request_values o) (from_bool t ∷ []) in omega (arith, x, y, request_long o) in
    let s = parted (wire_values v (source_row p)) (wire_values v (flat_map source_row ports)) (request_values o ++ from_bool t ∷ []) (source_values offered takes) long (sym (row_values source_row v p ports) ∙ e) in
    at k l (source_told v p o t q s.front) (sources_told v ports offered takes (omega (arith, a)) (omega (arith, b)) (λ k l. h (suc k) (omega (arith, l))) s.back)
  where
    at : (k : ℕ) → k < length (p ∷ ports) → Told down_fields v p o t → ((k : ℕ) → k < length ports → Told down_fields v (wires_of_port ports k) (get_or offered k None) (get_or takes k false)) → Told down_fields v (wires_of_port (p ∷ ports) k) (get_or (o ∷ offered) k None) (get_or (t ∷ takes) k false)
    at zero l own rest = own
    at (suc k) l own rest = rest k (omega (arith, l))

pub sinks_told : (v : ℕ → ℕ) (ports : List EndWires) (offered : List (Option (DBeat × Tag))) (takes : List Bool) → length offered ≡ length ports → length takes ≡ length ports → ((k : ℕ) → k < length ports → length (wires_of_port ports k).put.items ≡ 5)
    → wire_values v (flat_map sink_row ports) ≡ sink_values takes offered → (k : ℕ) → k < length ports → Told up_fields v (wires_of_port ports k) (get_or offered k None) (get_or takes k false)
sinks_told v [] offered takes a b h e k l = absurd (omega (arith, l))
sinks_told v (p ∷ ports) [] takes a b h e k l = absurd (omega (arith, a))
sinks_told v (p ∷ ports) (o ∷ offered) [] a b h e k l = absurd (omega (arith, b))
sinks_told v (p ∷ ports) (o ∷ offered) (t ∷ takes) a b h e k l =
    let q = h 0 (omega arith) in
    let long : length (wire_values v (sink_row p)) ≡ length (from_bool t ∷ response_values o) = let x = sink_long v p q in omega (arith, x, response_long o) in
    let s = parted (wire_values v (sink_row p)) (wire_values v (flat_map sink_row ports)) (from_bool t ∷ response_values o) (sink_values takes offered) long (sym (row_values sink_row v p ports) ∙ e) in
    at k l (sink_told v p o t q s.front) (sinks_told v ports offered takes (omega (arith, a)) (omega (arith, b)) (λ k l. h (suc k) (omega (arith, l))) s.back)
  where
    at : (k : ℕ) → k < length (p ∷ ports) → Told up_fields v p o t → ((k : ℕ) → k < length ports → Told up_fields v (wires_of_port ports k) (get_or offered k None) (get_or takes k false)) → Told up_fields v (wires_of_port (p ∷ ports) k) (get_or (o ∷ offered) k None) (get_or (t ∷ takes) k false)
    at zero l own rest = own
    at (suc k) l own rest = rest k (omega (arith, l))

pub sink_values_long : (v : ℕ → ℕ) (ports : List EndWires) (offered : List (Option (DBeat × Tag))) (takes : List Bool) → length offered ≡ length ports → length takes ≡ length ports → ((k : ℕ) → k < length ports → length (wires_of_port ports k).put.items ≡ 5)
    → length (flat_map sink_row ports) ≡ length (sink_values takes offered)
sink_values_long v [] [] [] a b h = refl
sink_values_long v [] [] (t ∷ takes) a b h = absurd (omega (arith, b))
sink_values_long v [] (o ∷ offered) takes a b h = absurd (omega (arith, a))
sink_values_long v (p ∷ ports) [] takes a b h = absurd (omega (arith, a))
sink_values_long v (p ∷ ports) (o ∷ offered) [] a b h = absurd (omega (arith, b))
sink_values_long v (p ∷ ports) (o ∷ offered) (t ∷ takes) a b h =
    let r = sink_values_long v ports offered takes (omega (arith, a)) (omega (arith, b)) (λ k l. h (suc k) (omega (arith, l))) in
    let x = length-append (sink_row p) (flat_map sink_row ports) in
    let y = length-append (from_bool t ∷ response_values o) (sink_values takes offered) in
    let q = h 0 (omega arith) in
    omega (arith, r, x, y, q, response_long o)
