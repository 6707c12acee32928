use Rattle.std.proofs.Common.{◌≡◌, drop}
use Rattle.nres_core.specs.FlatTree.{binds_of}
use Rattle.rule_check.specs.Check.{check}
use Rattle.rule_steps.specs.States.{Grows, ctx_of}
use Rattle.rule_walk.specs.Walks.{IsOpen, book_in}
use Rattle.rule_walk.proofs.walk.+walk.Given as goal

abbrev pub invariant-walk_binds-each : goal.invariant-walk_binds-each
invariant-walk_binds-each l =
    (check (book_in l.book) (binds_of l.binds) (ctx_of l.initial.state) ≡ check (book_in l.book) (binds_of (drop l.bind-index l.binds)) (ctx_of l.state)) × (Grows l.initial.state l.state × IsOpen l.state)
