use Rattle.std.proofs.Common.{◌≡◌, drop}
use Rattle.nres_core.specs.FlatTree.{flat_procs_of}
use Rattle.rule_check.specs.Check.{procs_sure, refusal_in}
use Rattle.rule_walk.specs.Walks.{book_in}
use Rattle.rule_walk.proofs.whole.check_procs.Given as goal

abbrev pub invariant-each : goal.invariant-each
invariant-each l =
    refusal_in (procs_sure (book_in l.book) l.first (flat_procs_of l.funs)) ≡ refusal_in (procs_sure (book_in l.book) l.next (flat_procs_of (drop l.fun-index l.funs)))
