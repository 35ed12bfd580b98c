-- How many bytes an atomic operation has.
use Rattle.std.proofs.Common.{◌≡◌, ℕ, ◌≤◌, ◌^◌, ◌⊎◌, IsTrue, refl, inl, inr, arith, lit≤}
use Rattle.std.proofs.Math.Nat.{pow-le-pow_right}
use Rattle.tl_params.specs.declared.ops.Op.TheVariants.{Arithmetic, Logical}
use Rattle.tl_edge.specs.declared.message.Request.{Request}
use Rattle.sim_ports.specs.Devices.{answer_bytes, is_atomic}

eight : (size : ℕ) → size ≤ 3 → 2 ^ size ≤ 8
eight size h = let most : 2 ^ size ≤ 2 ^ 3 = pow-le-pow_right (lit≤ tt) h in omega (arith, most)

pub few_bytes : (request : Request) (count : ℕ) → (request.op ≡ Arithmetic) ⊎ (request.op ≡ Logical)
    → (IsTrue (is_atomic request.op) → request.size ≤ 3) → count ≡ answer_bytes request → count ≤ 8
few_bytes request count (inl e) small c =
    let s : request.size ≤ 3 = small (rw e refl) in
    let now = rw e at c in
    omega (arith, now, eight request.size s)
few_bytes request count (inr e) small c =
    let s : request.size ≤ 3 = small (rw e refl) in
    let now = rw e at c in
    omega (arith, now, eight request.size s)
