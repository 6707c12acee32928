use Rattle.std.proofs.Common.{◌≡◌, drop, take, [], Bor, List, ℕ}
use Rattle.indexmap.specs.IndexSet.{contains}
use Rattle.nres_core.specs.Mirror.{named_params}
use Rattle.nres_core.specs.Tree.{same_name}
use Rattle.nres_rules.specs.Types.{twice, is_among}
use Rattle.nres_types.specs.Patterns.{seen_in}
use Rattle.nres_types.proofs.patterns.twice_params.Given as goal

abbrev pub invariant-loop-param : goal.invariant-loop-param
invariant-loop-param l = record {
  rest : twice [] (named_params l.params) ≡ twice (seen_in (take l.param-index (named_params l.params)) []) (drop l.param-index (named_params l.params));
  has : (q : Bor (List ℕ)) → contains (λ x y. same_name x.now y.now) l.seen q ≡ is_among (seen_in (take l.param-index (named_params l.params)) []) q.now;
}
