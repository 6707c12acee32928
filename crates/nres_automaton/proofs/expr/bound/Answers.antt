use Rattle.std.proofs.Common.{arith}
use Rattle.nres_automaton.proofs.Exprs as exprs
use Rattle.nres_automaton.proofs.Going.{took}
use Rattle.nres_automaton.proofs.expr.bound.Goals as goal

pub returns-then-value-lt1-clause-reads : goal.returns-then-value-lt1-clause-reads
returns-then-value-lt1-clause-reads c = λ n k. exprs.no_bounds (record { next = c.peek-next.ensures.next }) c.in-Number.is (λ g h. omega (arith, g, c.if-value-lt1.true))

pub returns-then-value-gt4294967295-clause-reads : goal.returns-then-value-gt4294967295-clause-reads
returns-then-value-gt4294967295-clause-reads c = λ n k. exprs.no_bounds (record { next = c.peek-next.ensures.next }) c.in-Number.is (λ g h. omega (arith, h, c.if-value-gt4294967295.true))

pub returns-in_default : goal.returns-in_default
returns-in_default c = record {
  reads = λ n k. exprs.no_bound (record { next = c.peek-next.ensures.next }) c.in_default.not-Number;
  shorter = tt;
}

pub returns-else-value-gt4294967295-clause-reads : goal.returns-else-value-gt4294967295-clause-reads
returns-else-value-gt4294967295-clause-reads c = λ k.
    exprs.bounds (took c.peek-next.ensures.next c.take.ensures.rest c.take.ensures.operators) c.in-Number.is (omega (arith, c.if-value-lt1.false)) (omega (arith, c.if-value-gt4294967295.false))
