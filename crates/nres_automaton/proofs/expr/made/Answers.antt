use Rattle.std.proofs.Common.{Some}
use Rattle.nres_core.specs.declared.tree.Expr.TheVariants as expr
use Rattle.nres_automaton.proofs.Going as going
use Rattle.nres_automaton.proofs.Going.{◌then◌, ◌fails◌, exits}
use Rattle.nres_automaton.proofs.expr.made.Goals as goal

pub returns-in_err-pass-clause-reads : goal.returns-in_err-pass-clause-reads
returns-in_err-pass-clause-reads c = exits _ _ _ c.from_residual.ensures.1 (λ n k. going.passed_not c.in_err-pass.ensures)

pub returns-in_err-chosen-clause-reads : goal.returns-in_err-chosen-clause-reads
returns-in_err-chosen-clause-reads c =
    exits _ _ _ c.from_residual-in_err-chosen.ensures.1 (λ n k.
    going.passed c.in_ok-pass.ensures fails c.in_err-chosen.ensures.reads n (λ y. k (expr.Apply c.args.place c.args.word c.args.args (Some y))))

pub returns-clause-reads : goal.returns-clause-reads
returns-clause-reads c = λ k. going.passed c.in_ok-pass.ensures then c.in_ok-chosen.ensures.reads (λ y. k (expr.Apply c.args.place c.args.word c.args.args (Some y)))
