use Rattle.std.proofs.Common.{◌+◌, sym, subst}
use Rattle.nres_types.proofs.Procs.{Left, put_first, put_later}
use Rattle.nres_types.proofs.profiles.Profiles.new.Goals as goal
use Rattle.nres_types.proofs.profiles.Profiles.new.Goals.{then-not-contains_key+in_ok-profile+in_ok-insert+in-Some-1, then-not-contains_key+in_ok-profile+in_ok-insert+in-None-1, else-not-contains_key}

pub loop-fun-preserved : goal.loop-fun-preserved
loop-fun-preserved c =
    elim c.if-not-contains_key.branch [
      | then-not-contains_key+in_ok-profile+in_ok-insert+in-Some-1 w ↦ subst (λ m. Left c.args.funs.now (c.loop-fun.fun-index + 1) m) (sym w.first-is) (put_first c.args.funs.now c.loop-fun.fun-index c.fun-item.result c.loop-fun.first w.insert.new.self c.bytes-name.result w.in_ok-profile.profile c.contains_key.result c.loop-fun-test.true c.fun-item.is c.bytes-name.ensures c.contains_key.ensures w.if-not-contains_key.true w.in_ok-profile.ensures w.in_ok-insert.ensures.updates c.loop-fun.invariant)
      | then-not-contains_key+in_ok-profile+in_ok-insert+in-None-1 w ↦ subst (λ m. Left c.args.funs.now (c.loop-fun.fun-index + 1) m) (sym w.first-is) (put_first c.args.funs.now c.loop-fun.fun-index c.fun-item.result c.loop-fun.first w.insert.new.self c.bytes-name.result w.in_ok-profile.profile c.contains_key.result c.loop-fun-test.true c.fun-item.is c.bytes-name.ensures c.contains_key.ensures w.if-not-contains_key.true w.in_ok-profile.ensures w.in_ok-insert.ensures.updates c.loop-fun.invariant)
      | else-not-contains_key w ↦ subst (λ m. Left c.args.funs.now (c.loop-fun.fun-index + 1) m) (sym w.first-is) (put_later c.args.funs.now c.loop-fun.fun-index c.fun-item.result c.loop-fun.first c.bytes-name.result c.contains_key.result c.loop-fun-test.true c.fun-item.is c.bytes-name.ensures c.contains_key.ensures w.if-not-contains_key.false c.loop-fun.invariant)
    ]
