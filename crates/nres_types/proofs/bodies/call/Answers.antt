use Rattle.std.proofs.Common.{◌≡◌, length, arith}
use Rattle.nres_core.specs.Mirror.{all_exps}
use Rattle.nres_types.specs.Findings.{told_of}
use Rattle.nres_types.proofs.Parts.{call_done, call_missed}
use Rattle.nres_types.proofs.bodies.call.Goals as goal

pub returns-in-Some : goal.returns-in-Some
returns-in-Some c =
    let n : c.len.result ≡ length c.in-Some.profile.now.takes.items = omega (arith, c.in-Some.profile.now.takes.ok) in
    let m : c.len-in-Some.result ≡ length c.in_ok-heads.heads.items = omega (arith, c.in_ok-heads.heads.ok) in
    call_done (told_of c.args.findings.now) (told_of c.exprs.new.findings) (told_of c.count.new.self) (told_of c.expect_all.new.self) c.args.profiles.now c.args.fun.now (all_exps c.args.args.now) c.args.scope.now
    c.in_ok-heads.heads.items c.as_slice.result.now c.in-Some.profile.now.takes.items c.as_slice-in-Some.result.now c.in-Some.profile.now.gives.items c.as_slice-in-Some-2.result.now c.len.result c.len-in-Some.result c.bytes-name.result.now
    c.in_ok-heads.ensures c.bytes-name.ensures c.in-Some.ensures n m c.count.ensures c.as_slice.ensures.value c.as_slice-in-Some.ensures.value c.expect_all.ensures c.as_slice-in-Some-2.ensures.value

pub returns : goal.returns
returns c =
    call_missed (told_of c.args.findings.now) (told_of c.exprs.new.findings) (told_of c.note.new.self) c.args.profiles.now c.args.fun.now (all_exps c.args.args.now) c.args.scope.now c.in_ok-heads.heads.items c.bytes-name.result.now
    c.in_ok-heads.ensures c.bytes-name.ensures c.in-None.ensures c.note.ensures
