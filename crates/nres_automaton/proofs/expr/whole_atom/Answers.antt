use Rattle.nres_automaton.proofs.Going as going
use Rattle.nres_automaton.proofs.Going.{◌then◌, exits}
use Rattle.nres_automaton.proofs.expr.whole_atom.Goals as goal

pub returns-in_err-found-clause-reads : goal.returns-in_err-found-clause-reads
returns-in_err-found-clause-reads c = exits _ _ _ c.from_residual.ensures.1 (λ n k. c.in_err-found.ensures.reads n _)

pub returns-clause-reads : goal.returns-clause-reads
returns-clause-reads c = λ k. c.in_ok-found.ensures.reads _ then going.restarted c.restart.ensures.rest c.restart.ensures.operators
