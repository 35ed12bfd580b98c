use Rattle.std.proofs.Common.{◌≡◌, ◌-◌, ◌<◌, ◌^◌, suc, length, subst, sym, ◌∙◌, arith}
use Rattle.sim_ports.specs.Layout.{place_in_runs}
use Rattle.sim_ports.proofs.Placed.{found, in_last, run_ends}
use Rattle.sim_ports.proofs.runs.place_in_runs.Goals as goal

pub returns-then-begun-eq0 : goal.returns-then-begun-eq0
returns-then-begun-eq0 c =
    let at = found 0 0 c.requires.high c.args.end c.args.address c.begun_before-begun.result c.args.runs.now c.requires.spaced
    c.begun_before-begun.ensures.bound c.begun_before-begun.ensures.before c.begun_before-begun.ensures.behind in
    let none : c.begun_before-begun.result ≡ 0 = omega arith in
    sym (subst (λ n. place_in_runs c.args.runs.now c.args.address ≡ in_last c.args.runs.now n c.args.address) none at)

pub place_in-requires : goal.place_in-requires
place_in-requires c =
    let h : c.begun_before-begun.result - 1 < length c.args.runs.now = omega arith in
    let fits : c.args.end < 2 ^ 64 = omega arith in
    let last = run_ends 0 0 c.requires.high c.args.end (c.begun_before-begun.result - 1) c.args.runs.now c.requires.spaced h in
    omega (arith, last.1, fits)

pub returns : goal.returns
returns c =
    let at = found 0 0 c.requires.high c.args.end c.args.address c.begun_before-begun.result c.args.runs.now c.requires.spaced
    c.begun_before-begun.ensures.bound c.begun_before-begun.ensures.before c.begun_before-begun.ensures.behind in
    let some : c.begun_before-begun.result ≡ suc (c.begun_before-begun.result - 1) = omega arith in
    c.place_in.ensures
    ∙ sym (subst (λ n. place_in_runs c.args.runs.now c.args.address ≡ in_last c.args.runs.now n c.args.address) some at)
