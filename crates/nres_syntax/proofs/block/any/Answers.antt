use Rattle.std.proofs.Common.{rules, arith, ◌≡◌, ◌<◌, ◌≤◌, ◌-◌, ◌+◌, [], ◌∷◌, ◌++◌, length, cond, true, false, ap, ◌∙◌, sym, refl, subst}
use Rattle.nres_core.specs.declared.tree.Body.TheVariants as bodies
use Rattle.nres_core.specs.declared.tree.Step.TheVariants as kinds
use Rattle.nres_syntax.specs.Bodies.{inner, named_to}
use Rattle.nres_automaton.specs.Cursor.{left}
use Rattle.nres_automaton.specs.Automaton.{Mode, Reads, pass, leave, body, steps, whole, whole_atom, block_to, results, others, call_body}
use Rattle.nres_automaton.specs.declared.lexeme.Fixed.TheVariants as fixed
use Rattle.nres_automaton.proofs.Going as going
use Rattle.nres_automaton.proofs.Going.{◌then◌, ◌fails◌, exits, passes, took}
use Rattle.nres_automaton.proofs.Exprs as exprs
use Rattle.nres_automaton.proofs.Items as items
use Rattle.nres_syntax.proofs.Blocks as blocks
use Rattle.nres_syntax.proofs.block.any.Goals as goal

pub returns-in_err-low-clause-reads : goal.returns-in_err-low-clause-reads
returns-in_err-low-clause-reads c = exits _ _ _ c.from_residual.ensures.1 (λ n k. c.in_err-low.ensures.reads n _)

pub returns-in_err-high-clause-reads : goal.returns-in_err-high-clause-reads
returns-in_err-high-clause-reads c = exits _ _ _ c.from_residual-in_err-high.ensures.1 (λ n k. c.in_ok-low.ensures.reads _ fails c.in_err-high.ensures.reads n _)

pub returns-clause-reads : goal.returns-clause-reads
returns-clause-reads c = λ k. c.in_ok-low.ensures.reads _ then c.in_ok-high.ensures.reads _
