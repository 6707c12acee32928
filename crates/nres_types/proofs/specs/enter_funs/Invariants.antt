use Rattle.std.proofs.Common.{◌≡◌, drop, take, [], Bor, List, ℕ}
use Rattle.indexmap.specs.IndexSet.{contains}
use Rattle.nres_core.specs.Tree.{same_name}
use Rattle.nres_rules.specs.Types.{funs_type, is_among}
use Rattle.nres_types.specs.Findings.{told_of, joined}
use Rattle.nres_types.specs.Patterns.{seen_in, named_funs}
use Rattle.nres_types.specs.Wholes.{typed_told}
use Rattle.nres_types.proofs.specs.enter_funs.Given as goal

abbrev pub invariant-loop-fun : goal.invariant-loop-fun
invariant-loop-fun l = record {
  told : joined (told_of l.fn.findings) (typed_told (funs_type l.profiles [] l.funs)) ≡ joined (told_of l.findings) (typed_told (funs_type l.profiles (seen_in (take l.fun-index (named_funs l.funs)) []) (drop l.fun-index l.funs)));
  has : (q : Bor (List ℕ)) → contains (λ x y. same_name x.now y.now) l.seen q ≡ is_among (seen_in (take l.fun-index (named_funs l.funs)) []) q.now;
}
