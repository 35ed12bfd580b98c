-- The control fields of beats, and how many there are.
use Rattle.std.proofs.Common.{ℕ, ◌≤◌, Bool, true, false, cond, refl, arith}
use Rattle.std.specs.List.{range_with_len}
use Rattle.std.proofs.lemmas.List.Elements.{All-map}
use Rattle.std.proofs.lemmas.List.FromFn.{length-map-range_with_len}
use Rattle.tl_edge.specs.Messages.{has_data, brings_data}
use Rattle.tl_edge.specs.Beats.{a_beat, d_beat, data_beats, request_beats, response_beats}
use Rattle.tl_edge.specs.BeatLaws.{IsBeatOf, IsBeatBack, HeadsLaw}

some_beats : (data_too : Bool) (size width : ℕ) → 1 ≤ cond data_too (data_beats size width) 1
some_beats true size width = omega arith
some_beats false size width = omega arith

pub heads_law : HeadsLaw
heads_law = record {
  requests = λ width request. All-map (IsBeatOf request) (a_beat width request) (range_with_len 0 (request_beats request.op request.size width))
      (λ k d h. record { op = refl; param = refl; size = refl; source = refl; address = refl });
  request_length = λ width request. length-map-range_with_len (a_beat width request) 0 (request_beats request.op request.size width);
  request_some = λ width request. some_beats (has_data request.op) request.size width;
  responses = λ width address response. All-map (IsBeatBack response) (d_beat width address response) (range_with_len 0 (response_beats response.op response.size width))
      (λ k d h. record { op = refl; size = refl; source = refl; denied = refl });
  response_length = λ width address response. length-map-range_with_len (d_beat width address response) 0 (response_beats response.op response.size width);
  response_some = λ width response. some_beats (brings_data response.op) response.size width;
}
