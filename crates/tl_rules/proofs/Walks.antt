-- Walks along the outputs or the inputs of a crossbar, whose slaves or masters stand one after another in a list.
use Rattle.std.proofs.Common.{ℕ, ◌≡◌, ◌+◌, ◌<◌, List, [], ◌∷◌, length, get_or, take, drop, map, None, Some, slice_get, true, false, ◌&&◌, refl, sym, subst, arith}
use Rattle.std.specs.List.{flat_map, list_all}
use Rattle.std.proofs.lemmas.List.{drop_more}
use Rattle.dip_sets.specs.Assignments.{rounded, sum_before, ranges_from}
use Rattle.tl_params.specs.declared.ports.Master.{Master}
use Rattle.tl_params.specs.declared.ports.Slave.{Slave}
use Rattle.tl_params.specs.declared.ports.DownPort.{DownPort}
use Rattle.tl_params.specs.declared.ports.UpPort.{UpPort}
use Rattle.tl_rules.specs.Crossbars.{id_count, shifted_master, joined_masters}
use Rattle.tl_params.specs.Carried.{slave_fits, slaves_fit}
use Rattle.tl_rules.specs.Fits.{has_same_ids, same_ids, port_up, port_down}
use Rattle.tl_rules.proofs.Zips.{left_fails, left_passes, right_fails, right_passes, first_stands_for_all}

-- the slaves of some outputs
abbrev pub slaves_of : List UpPort → List ℕ → List Slave
slaves_of up outs = flat_map (λ output. output.slaves) (map (port_up up) outs)

pub output_fails : (up : List UpPort) (outs : List ℕ) (i : ℕ) (rest real : List Slave) → i < length outs → real ≡ (port_up up (get_or outs i 0)).slaves
    → slaves_fit None (take (length real) rest) real ≡ false → slaves_fit None rest (slaves_of up (drop i outs)) ≡ false
output_fails up outs i rest real within here h =
    rw (drop_more outs i 0 within) (right_fails (slave_fits None) rest (port_up up (get_or outs i 0)).slaves (slaves_of up (drop (i + 1) outs)) (rw here at h))

pub output_passes : (up : List UpPort) (outs : List ℕ) (i : ℕ) (rest real : List Slave) → i < length outs → real ≡ (port_up up (get_or outs i 0)).slaves
    → slaves_fit None (take (length real) rest) real ≡ true
    → slaves_fit None rest (slaves_of up (drop i outs)) ≡ slaves_fit None (drop (length real) rest) (slaves_of up (drop (i + 1) outs))
output_passes up outs i rest real within here h =
    rw (drop_more outs i 0 within, here) (right_passes (slave_fits None) rest (port_up up (get_or outs i 0)).slaves (slaves_of up (drop (i + 1) outs)) (rw here at h))

map_length : {A B : Type 0} (f : A → B) (xs : List A) → length (map f xs) ≡ length xs
map_length f [] = refl
map_length f (x ∷ xs) = omega (arith, map_length f xs)

-- the rounded numbers of ids of some inputs
abbrev pub rounded_of : List DownPort → List ℕ → List ℕ
rounded_of down ins = map rounded (map id_count (map (port_down down) ins))

-- the masters of the inputs from a place on, moved to the ranges that they have among all
abbrev pub masters_of : List DownPort → ℕ → List ℕ → List ℕ → List Master
masters_of down place all ins = joined_masters (map (port_down down) ins) (ranges_from place all (rounded_of down ins))

pub input_fails : (down : List DownPort) (all ins : List ℕ) (i by : ℕ) (own rest : List Master) → i < length ins → own ≡ (port_down down (get_or ins i 0)).masters
    → by ≡ sum_before (rounded (id_count (port_down down (get_or ins i 0)))) i 0 all
    → same_ids (map (shifted_master by) own) (take (length own) rest) ≡ false → same_ids (masters_of down i all (drop i ins)) rest ≡ false
input_fails down all ins i by own rest within here start h =
    rw (drop_more ins i 0 within)
    (left_fails has_same_ids _ (masters_of down (i + 1) all (drop (i + 1) ins)) rest (length (port_down down (get_or ins i 0)).masters)
    (sym (map_length _ (port_down down (get_or ins i 0)).masters)) (rw (here, start) at h))

pub input_passes : (down : List DownPort) (all ins : List ℕ) (i by : ℕ) (own rest : List Master) → i < length ins → own ≡ (port_down down (get_or ins i 0)).masters
    → by ≡ sum_before (rounded (id_count (port_down down (get_or ins i 0)))) i 0 all
    → same_ids (map (shifted_master by) own) (take (length own) rest) ≡ true
    → same_ids (masters_of down i all (drop i ins)) rest ≡ same_ids (masters_of down (i + 1) all (drop (i + 1) ins)) (drop (length own) rest)
input_passes down all ins i by own rest within here start h =
    rw (drop_more ins i 0 within, here)
    (left_passes has_same_ids _ (masters_of down (i + 1) all (drop (i + 1) ins)) rest (length (port_down down (get_or ins i 0)).masters)
    (sym (map_length _ (port_down down (get_or ins i 0)).masters)) (rw (here, start) at h))

first_of : (o first : ℕ) (outs : List ℕ) → slice_get (o ∷ outs) 0 ≡ Some first → o ≡ first
first_of o first outs e = cc

-- the masters of some outputs, by those of the first
pub all_outputs : (down : List DownPort) (outs : List ℕ) (first : ℕ) (ms masters : List Master) → slice_get outs 0 ≡ Some first → masters ≡ (port_down down first).masters
    → list_all (λ output. same_ids ms output.masters) (map (port_down down) outs)
    ≡ (same_ids ms masters && list_all (λ output. same_ids masters output.masters) (map (port_down down) outs))
all_outputs down [] first ms masters e here = absurd (cc)
all_outputs down (o ∷ outs) first ms masters e here =
    let same : masters ≡ (port_down down o).masters = rw (first_of o first outs e) here in
    let Stands : List Master → Type 0 = λ own. list_all (λ output. same_ids ms output.masters) (map (port_down down) (o ∷ outs))
    ≡ (same_ids ms own && list_all (λ output. same_ids own output.masters) (map (port_down down) (o ∷ outs))) in
    subst Stands (sym same) (first_stands_for_all ms (port_down down o) (map (port_down down) outs))
