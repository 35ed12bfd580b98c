-- Values that are fitted to widths are inputs of a netlist.
use Rattle.std.proofs.Common.{◌≡◌, ℕ, zero, suc, ◌+◌, ◌^◌, ◌<◌, ◌≤◌, List, [], ◌∷◌, ◌++◌, Bool, true, false, cond, nat_lt, length, map, drop, take, get_or, refl, sym, ap, ◌∙◌, subst, arith}
use Rattle.std.specs.Prelude.{slice_index}
use Rattle.std.proofs.lemmas.Bool.{lt-ltb, ltb-true}
use Rattle.std.proofs.Math.Seq.{drop-cons}
use Rattle.std.proofs.lemmas.List.{append_assoc, append-nil, get_or-map, get_or_append_left, length-append, length-map, take_all, drop_all}
use Rattle.std.proofs.Math.Pow.{pow_mono}
use Rattle.std.proofs.lemmas.Nat.{pow_pos}
use Rattle.net_cells.specs.declared.netlist.Netlist.{Netlist}
use Rattle.net_cells.specs.declared.netlist.Cell.{Cell}
use Rattle.net_cells.specs.declared.netlist.Port.{Port}
use Rattle.net_cells.specs.declared.netlist.Reg.{Reg}
use Rattle.net_cells.specs.Values.{AreInputs}
use Rattle.sim_ports.specs.declared.stimulus.Stall.{Stall}
use Rattle.sim_ports.specs.Sinks.{Serving}
use Rattle.sim_events.specs.declared.types.SinkOffer.{SinkOffer}
use Rattle.sim_run.specs.Offering.{server_offer, server_offers}
use Rattle.sim_run.specs.Turning.{fitted, fitted_value, input_widths}

pub fitted_long : (ws xs : List ℕ) → length ws ≡ length xs → length (fitted ws xs) ≡ length ws
fitted_long [] xs e = refl
fitted_long (w ∷ ws) [] e = absurd (omega (arith, e))
fitted_long (w ∷ ws) (x ∷ xs) e = ap suc (fitted_long ws xs (omega (arith, e)))

one_fits : (w x : ℕ) → fitted_value w x < 2 ^ w
one_fits w x = by (nat_lt x (2 ^ w)) refl
  where
    by : (t : Bool) → nat_lt x (2 ^ w) ≡ t → cond t x 0 < 2 ^ w
    by true e = ltb-true x (2 ^ w) e
    by false e = pow_pos w

all_fit : (ws xs : List ℕ) (k : ℕ) → length ws ≡ length xs → k < length ws → slice_index (fitted ws xs) k < 2 ^ slice_index ws k
all_fit [] xs k e l = absurd (omega (arith, l))
all_fit (w ∷ ws) [] k e l = absurd (omega (arith, e))
all_fit (w ∷ ws) (x ∷ xs) zero e l = one_fits w x
all_fit (w ∷ ws) (x ∷ xs) (suc k) e l = all_fit ws xs k (omega (arith, e)) (omega (arith, l))

pub fitted_inputs : (n : Netlist) (xs : List ℕ) → length (input_widths n) ≡ length xs → AreInputs n (fitted (input_widths n) xs)
fitted_inputs n xs e =
    let ws = input_widths n in
    let rs = map (λ (r : Reg). r.width) n.regs in
    let cs = map (λ (c : Cell). c.width) n.cells in
    let l : length (fitted ws xs) ≡ length ws = fitted_long ws xs e in
    record {
      long = l ∙ length-map n.inputs (λ (p : Port). p.width);
      fit = λ k b.
          let c : k < length ws = omega (arith, b, l) in
          subst (λ w. slice_index (fitted ws xs) k < 2 ^ w) (sym (get_or_append_left (ws ++ rs) cs 0 k (omega (arith, c, length-append ws rs)) ∙ get_or_append_left ws rs 0 k c)) (all_fit ws xs k e c);
    }

-- a value of 64 bits fits 64 bits and more
pub wide_fits : (width value : ℕ) → 64 ≤ width → value < 2 ^ 64 → true ≡ nat_lt value (2 ^ width)
wide_fits width value l h = let m : 2 ^ 64 ≤ 2 ^ width = pow_mono l in sym (lt-ltb value (2 ^ width) (omega (arith, h, m)))

-- a list into all of whose places others are written
pub all_written_back : (xs ys zs : List ℕ) (n : ℕ) → xs ≡ fitted ys zs → length ys ≡ length zs → n ≡ length zs
    → take n (xs ++ drop (length xs) zs) ≡ fitted ys zs
all_written_back xs ys zs n e l m =
    let long : length xs ≡ length zs = ap length e ∙ fitted_long ys zs l ∙ l in
    ap (λ (ks : List ℕ). take n (xs ++ ks)) (drop_all (length xs) zs (omega (arith, long)))
    ∙ ap (take n) (append-nil xs) ∙ take_all n xs (omega (arith, long, m)) ∙ e

-- a server's offer more
pub one_server_more : {S : Type 0} (f : S → Serving) (stalls : List Stall) (cycle port : ℕ) (drivers : List S) (driver : S) (offers more all : List SinkOffer)
    → offers ++ server_offers stalls cycle port (drop port (map f drivers)) ≡ all → port < length drivers → driver ≡ get_or drivers port driver
    → more ≡ offers ++ server_offer stalls cycle port (f driver) ∷ []
    → more ++ server_offers stalls cycle (port + 1) (drop (port + 1) (map f drivers)) ≡ all
one_server_more f stalls cycle port drivers driver offers more all e l d m =
    let long : port < length (map f drivers) = omega (arith, l, length-map drivers f) in
    let here : get_or (map f drivers) port (f driver) ≡ f driver = get_or-map f drivers port driver (f driver) l ∙ ap f (sym d) in
    let split : drop port (map f drivers) ≡ f driver ∷ drop (port + 1) (map f drivers) =
    drop-cons (map f drivers) port (f driver) long ∙ ap (λ (x : Serving). x ∷ drop (suc port) (map f drivers)) here ∙ ap (λ n. f driver ∷ drop n (map f drivers)) (let q : suc port ≡ port + 1 = omega arith in q) in
    let rest = server_offers stalls cycle (port + 1) (drop (port + 1) (map f drivers)) in
    ap (λ (xs : List SinkOffer). xs ++ rest) m
    ∙ append_assoc offers (server_offer stalls cycle port (f driver) ∷ []) rest
    ∙ ap (λ (xs : List Serving). offers ++ server_offers stalls cycle port xs) (sym split)
    ∙ e

-- a list that is written into all places of another
pub whole_back : {A : Type 0} (new old : List A) (n : ℕ) → length new ≡ length old → n ≡ length old → take n (new ++ drop (length new) old) ≡ new
whole_back new old n l m =
    ap (λ xs. take n (new ++ xs)) (drop_all (length new) old (omega (arith, l))) ∙ ap (take n) (append-nil new) ∙ take_all n new (omega (arith, l, m))
