use Rattle.std.proofs.Common.{◌≡◌, drop}
use Rattle.fit_walk.specs.Bodies.{kept_from}
use Rattle.fit_walk.proofs.body.only_kept.Given as goal

abbrev pub invariant-each : goal.invariant-each
invariant-each l = kept_from l.context.spots 0 l.params l.gone ≡ kept_from l.context.spots l.index (drop l.index l.params) l.gone
