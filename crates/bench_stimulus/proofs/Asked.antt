-- What may be asked of a memory at all addresses below a first one, and that it stays so.
use Rattle.std.proofs.Common.{ℕ, ◌≡◌, ◌+◌, ◌++◌, ◌∷◌, [], List, ◌∙◌, ap, arith, below_more, true}
use Rattle.std.proofs.lemmas.List.Elements.{Contains-append_left, Contains-push}
use Rattle.std.specs.Prelude.{Contains}
use Rattle.tl_edge.specs.declared.message.Request.{Request}
use Rattle.sim_ports.specs.Devices.{HasJust, HaveSame, MayBeAsked, Meaning, after_answer}
use Rattle.bench_stimulus.specs.Ready.{AreAllBelow, HasBelow, IsReadyBelow}

pub has_below : (count : ℕ) (addresses : List ℕ) (device : Meaning) → device.prepared ≡ true → HasJust addresses device.held → AreAllBelow count addresses → HasBelow count device
has_below count addresses device ready just all = record { prepared = ready; has = λ address lt. (just address).1 (all address lt) }

pub one_more : (count : ℕ) (addresses : List ℕ) → AreAllBelow count addresses → AreAllBelow (count + 1) (addresses ++ count ∷ [])
one_more count addresses all =
    below_more (λ k. Contains (addresses ++ count ∷ []) k) count (λ k lt. Contains-append_left addresses (count ∷ []) k (all k lt))
    (Contains-push addresses count)

pub asked : (count : ℕ) (device : Meaning) (request : Request) (room : ℕ) → HasBelow count device → IsReadyBelow count request room → MayBeAsked device.held request
asked count device request room below ready = record {
  shape = ready.shape;
  address = ready.address;
  source = ready.source;
  small = ready.small;
  param = ready.param;
  has = λ number lt. let w = ready.within in below.has (request.address + number) (omega (arith, w, lt));
}

pub still_below : (count : ℕ) (device new : Meaning) (request : Request) → HasBelow count device → new ≡ after_answer device request → HaveSame new.held device.held → HasBelow count new
still_below count device new request below e same = record {
  prepared = ap (λ (m : Meaning). m.prepared) e ∙ below.prepared;
  has = λ address lt. (same address).1 (below.has address lt);
}
