use Rattle.fit_walk.proofs.TestLemmas.{reps_differ}
use Rattle.fit_walk.proofs.body.same_reps.Goals as goal

pub returns-then-infos-shown : goal.returns-then-infos-shown
returns-then-infos-shown c = reps_differ c.args.infos.now c.args.shown.now c.if-infos-shown.true
