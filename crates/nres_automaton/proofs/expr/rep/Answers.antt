use Rattle.nres_automaton.proofs.Exprs as exprs
use Rattle.nres_automaton.proofs.Going.{◌then◌, ◌fails◌, exits, took}
use Rattle.nres_automaton.proofs.expr.rep.Goals as goal

pub returns-in_err-bound-in-Bounded-clause-reads : goal.returns-in_err-bound-in-Bounded-clause-reads
returns-in_err-bound-in-Bounded-clause-reads c =
    exits _ _ _ c.from_residual.ensures.1 (λ n k.
    exprs.bounded k (took c.peek-next.ensures.next c.take-in-Bounded.ensures.rest c.take-in-Bounded.ensures.operators) c.in-Bounded.is
    fails c.in_err-bound-in-Bounded.ensures.reads n _)

pub returns-in-Unbounded-clause-reads : goal.returns-in-Unbounded-clause-reads
returns-in-Unbounded-clause-reads c = λ k. exprs.unbounded k (took c.peek-next.ensures.next c.take.ensures.rest c.take.ensures.operators) c.in-Unbounded.is

pub returns-in_ok-bound-in-Bounded-clause-reads : goal.returns-in_ok-bound-in-Bounded-clause-reads
returns-in_ok-bound-in-Bounded-clause-reads c = λ k.
    let e = c.bounded.ensures in
    rw e (exprs.bounded k (took c.peek-next.ensures.next c.take-in-Bounded.ensures.rest c.take-in-Bounded.ensures.operators) c.in-Bounded.is
    then c.in_ok-bound-in-Bounded.ensures.reads _)

pub returns-in_default : goal.returns-in_default
returns-in_default c = record {
  reads = λ n k. exprs.no_rep (record { next = c.peek-next.ensures.next }) c.in_default.not-Unbounded c.in_default.not-Bounded;
  shorter = tt;
}
