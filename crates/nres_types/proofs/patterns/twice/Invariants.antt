use Rattle.std.proofs.Common.{◌≡◌, drop, take, [], Bor, List, ℕ}
use Rattle.indexmap.specs.IndexSet.{contains}
use Rattle.nres_core.specs.Tree.{same_name}
use Rattle.nres_rules.specs.Types.{twice, is_among}
use Rattle.nres_types.specs.Patterns.{seen_in}
use Rattle.nres_types.proofs.patterns.twice.Given as goal

abbrev pub invariant-loop-named : goal.invariant-loop-named
invariant-loop-named l = record {
  rest : twice [] l.names ≡ twice (seen_in (take l.named-index l.names) []) (drop l.named-index l.names);
  has : (q : Bor (List ℕ)) → contains (λ x y. same_name x.now y.now) l.seen q ≡ is_among (seen_in (take l.named-index l.names) []) q.now;
}
