use Rattle.std.proofs.Common.{rules, arith, ◌≡◌, ◌<◌, ◌≤◌, ◌-◌, ◌+◌, [], ◌∷◌, ◌++◌, length, cond, true, false, ap, ◌∙◌, sym, refl, subst}
use Rattle.nres_core.specs.Texts.{param as param_made}
use Rattle.nres_syntax.specs.Bodies.{inner_params, one_shown, slice_or}
use Rattle.nres_automaton.specs.Cursor.{left}
use Rattle.nres_automaton.specs.Automaton.{Mode, Reads, pass, when, leave, more_params, more_shown, shown_as, laid, typed, container, param_of, shown, block_to, is_list}
use Rattle.nres_automaton.specs.declared.lexeme.Fixed.TheVariants as fixed
use Rattle.nres_automaton.proofs.Going as going
use Rattle.nres_automaton.proofs.Going.{◌then◌, ◌fails◌, exits, passes, took}
use Rattle.nres_automaton.proofs.Exprs as exprs
use Rattle.nres_syntax.proofs.Heads as heads
use Rattle.nres_syntax.proofs.head.heading.Goals as goal

pub returns-in_err-found-clause-reads : goal.returns-in_err-found-clause-reads
returns-in_err-found-clause-reads c = heads.exits_to _ _ _ _ c.from_residual.ensures.1 (λ n k. c.in_err-found.ensures.reads n _)

pub returns-in_err-list-clause-reads : goal.returns-in_err-list-clause-reads
returns-in_err-list-clause-reads c = heads.exits_to _ _ _ _ c.from_residual-in_err-list.ensures.1 (λ n k. c.in_ok-found.ensures.reads _ fails c.in_err-list.ensures.reads n (λ xs. leave (pass fixed.Colon (λ _. shown c.args.slices (λ ys. block_to fixed.End (λ z. leave (k (record { name = c.in_ok-found.found; params = xs; shown = ys; body = z }))))))))

pub returns-in_err-pass-clause-reads : goal.returns-in_err-pass-clause-reads
returns-in_err-pass-clause-reads c = heads.exits_to _ _ _ _ c.from_residual-in_err-pass.ensures.1 (λ n k. c.in_ok-found.ensures.reads _ then c.in_ok-list.ensures.reads (λ xs. leave (pass fixed.Colon (λ _. shown c.args.slices (λ ys. block_to fixed.End (λ z. leave (k (record { name = c.in_ok-found.found; params = xs; shown = ys; body = z }))))))) then heads.out_of _ (c.args.room - 1) (omega (arith, c.requires)) fails going.passed_not c.in_err-pass.ensures)

pub returns-in_err-results-clause-reads : goal.returns-in_err-results-clause-reads
returns-in_err-results-clause-reads c = heads.exits_to _ _ _ _ c.from_residual-in_err-results.ensures.1 (λ n k. c.in_ok-found.ensures.reads _ then c.in_ok-list.ensures.reads (λ xs. leave (pass fixed.Colon (λ _. shown c.args.slices (λ ys. block_to fixed.End (λ z. leave (k (record { name = c.in_ok-found.found; params = xs; shown = ys; body = z }))))))) then heads.out_of _ (c.args.room - 1) (omega (arith, c.requires)) then going.passed c.in_ok-pass.ensures fails c.in_err-results.ensures.reads n _)

pub returns-in_err-body-clause-reads : goal.returns-in_err-body-clause-reads
returns-in_err-body-clause-reads c = heads.exits_to _ _ _ _ c.from_residual-in_err-body.ensures.1 (λ n k. c.in_ok-found.ensures.reads _ then c.in_ok-list.ensures.reads (λ xs. leave (pass fixed.Colon (λ _. shown c.args.slices (λ ys. block_to fixed.End (λ z. leave (k (record { name = c.in_ok-found.found; params = xs; shown = ys; body = z }))))))) then heads.out_of _ (c.args.room - 1) (omega (arith, c.requires)) then going.passed c.in_ok-pass.ensures then c.in_ok-results.ensures.reads _ fails c.in_err-body.ensures.reads n _)

pub returns-clause-reads : goal.returns-clause-reads
returns-clause-reads c = λ k. c.in_ok-found.ensures.reads _ then c.in_ok-list.ensures.reads (λ xs. leave (pass fixed.Colon (λ _. shown c.args.slices (λ ys. block_to fixed.End (λ z. leave (k (record { name = c.in_ok-found.found; params = xs; shown = ys; body = z }))))))) then heads.out_of _ (c.args.room - 1) (omega (arith, c.requires)) then going.passed c.in_ok-pass.ensures then c.in_ok-results.ensures.reads _ then c.in_ok-body.ensures.reads _ then heads.out_of _ c.args.room (omega (arith, c.requires))
