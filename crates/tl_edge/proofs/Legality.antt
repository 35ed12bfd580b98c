-- What legal requests have.
use Rattle.std.proofs.Common.{ℕ, ◌≡◌, ◌<◌, ◌≤◌, ◌^◌, List, All, subst, arith}
use Rattle.std.specs.Prelude.{Any}
use Rattle.std.proofs.lemmas.Nat.{or_lt}
use Rattle.std.proofs.lemmas.List.Elements.{All-contains}
use Rattle.dip_sets.specs.Sets.{Pattern, InSome, IsSet}
use Rattle.tl_params.specs.declared.ports.Master.{Master}
use Rattle.tl_params.specs.declared.ports.Slave.{Slave}
use Rattle.tl_params.specs.OwnerLaw.{HaveSets, Owns}
use Rattle.tl_params.specs.Owners.{largest_end}
use Rattle.tl_params.proofs.Largest.{largest_end_is}
use Rattle.tl_edge.specs.declared.message.Request.{Request}
use Rattle.tl_edge.specs.declared.plan.PlanEdge.{PlanEdge}
use Rattle.tl_edge.specs.Legal.{Emits, IsOwned, IsLegal, IsLegalOn, LegalLaw}
use Rattle.tl_edge.proofs.Greatest.{in_le}
use Rattle.tl_edge.proofs.Ways.{item_has, same_item}

-- an emitted id is below the largest end
id_below : (masters : List Master) (request : Request) → Any (Emits request) masters → request.source < largest_end masters
id_below masters request (k, master, below, is, emits) =
    let end : master.ids.end ≤ largest_end masters = All-contains (λ (m : Master). m.ids.end ≤ largest_end masters) masters master (largest_end_is masters).bound (k, below, is) in
    omega (arith, end, emits.0.1)

by_masters : (masters : List Master) (edge : PlanEdge) (request : Request) → edge.ids ≡ largest_end masters → IsLegal masters edge.slaves request → IsLegalOn edge request
by_masters masters edge request same legal = record { answerable = legal.answerable; id = omega (arith, same, id_below masters request legal.emitted) }

-- an address in a set has at most 48 bits
pub small_address : (sets : List Pattern) (address : ℕ) → All IsSet sets → InSome sets address → address < 2 ^ 48
small_address sets address all (k, set, below, is, member) =
    let kept : IsSet set = All-contains IsSet sets set all (k, below, is) in
    omega (arith, in_le set address member, or_lt 48 set.base set.mask kept.base_fits kept.mask_fits)

-- the owner of a request has its address
pub owner_has : (slaves : List Slave) (request : Request) (owned : IsOwned slaves request) → InSome owned.slave.addresses request.address
owner_has slaves request owned =
    let own : Owns slaves owned.place request.address = owned.owns.0 in
    subst (λ (s : Slave). InSome s.addresses request.address) (same_item slaves owned.place own.0 owned.slave own.1 owned.is) own.2

owned_address : (slaves : List Slave) (request : Request) → HaveSets slaves → IsOwned slaves request → request.address < 2 ^ 48
owned_address slaves request sets owned =
    small_address owned.slave.addresses request.address (item_has (λ (s : Slave). All IsSet s.addresses) slaves owned.place owned.slave sets owned.is) (owner_has slaves request owned)

pub legal_law : LegalLaw
legal_law = record { by_masters = by_masters; address = owned_address }
