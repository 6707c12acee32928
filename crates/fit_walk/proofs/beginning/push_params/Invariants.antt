use Rattle.std.proofs.Common.{◌≡◌, ◌+◌, drop}
use Rattle.fit_walk.specs.Bodies.{param_stands}
use Rattle.fit_walk.proofs.beginning.push_params.Given as goal

abbrev pub invariant-each : goal.invariant-each
invariant-each l = record {
  stand : param_stands l.var (drop l.param-index l.params) l.words ≡ param_stands l.first l.params l.initial.words;
  past : l.var ≡ l.first + l.param-index;
}
