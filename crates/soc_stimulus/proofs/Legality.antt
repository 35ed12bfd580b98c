-- A request that fails none of the rules is legal.
use Rattle.std.proofs.Common.{ℕ, ◌≡◌, ◌≤◌, ◌==◌, ◌%◌, List, true, ◌&&◌, cond, length, arith}
use Rattle.std.specs.Prelude.{Contains}
use Rattle.std.proofs.lemmas.Bool.Decides.{nat_tests}
use Rattle.dip_lists.proofs.Tests.{both}
use Rattle.dip_sets.specs.Ids.{HasId}
use Rattle.dip_sets.specs.SizeRanges.{HasSize}
use Rattle.tl_params.specs.declared.ports.Master.{Master}
use Rattle.tl_params.specs.declared.ports.Slave.{Slave}
use Rattle.tl_params.specs.Operations.{sizes_of}
use Rattle.tl_edge.specs.declared.message.Request.{Request}
use Rattle.tl_edge.specs.Legal.{IsLegal, IsOwned}
use Rattle.tl_edge.specs.Messages.{AreBytes, IsRequest, bytes_of, has_data, has_flags, has_param}
use Rattle.soc_stimulus.specs.Requests.{has_whole_load, is_aligned_request}

equal : (a b : ℕ) → (a == b) ≡ true → a ≡ b
equal a b h = grind (arith, nat_tests)

-- the shape of a request with a whole load, to an aligned address
shape_of : (request : Request) → request.size ≤ 8 → (length request.mask == cond (has_flags request.op) (bytes_of request.size) 0) ≡ true
    → (length request.payload == cond (has_data request.op) (bytes_of request.size) 0) ≡ true → is_aligned_request request ≡ true → IsRequest request
shape_of request small flags bytes aligned =
    record {
      small = small;
      aligned = equal (request.address % bytes_of request.size) 0 aligned;
      flags = equal (length request.mask) (cond (has_flags request.op) (bytes_of request.size) 0) flags;
      bytes = equal (length request.payload) (cond (has_data request.op) (bytes_of request.size) 0) bytes;
    }

pub legal_of : (masters : List Master) (slaves : List Slave) (request : Request) (master : Master) → request.size ≤ 8 → AreBytes request.payload
    → has_whole_load request ≡ true → is_aligned_request request ≡ true → Contains masters master → HasId master.ids request.source
    → HasSize (sizes_of master.emits request.op) (bytes_of request.size) → IsOwned slaves request → IsLegal masters slaves request
legal_of masters slaves request master small bytes load aligned listed id sizes owned =
    let is_param = has_param request.op request.param in
    let has_all_flags = length request.mask == cond (has_flags request.op) (bytes_of request.size) 0 in
    let has_all_bytes = length request.payload == cond (has_data request.op) (bytes_of request.size) 0 in
    let parts = both (is_param && has_all_flags) has_all_bytes load in
    let fronts = both is_param has_all_flags parts.0 in
    record {
      answerable =
          record {
            whole = record { shape = shape_of request small fronts.1 parts.1 aligned; bytes = bytes };
            param = fronts.0;
            owned = owned;
          };
      emitted = (listed.0, master, listed.1, listed.2, (id, sizes));
    }
