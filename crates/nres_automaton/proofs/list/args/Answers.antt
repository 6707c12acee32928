use Rattle.std.proofs.Common.{rules, arith, ◌≡◌, ◌<◌, ◌≤◌, ◌-◌, ◌+◌, [], ◌∷◌, ◌++◌, length, cond, true, false, ap, ◌∙◌, sym, refl}
use Rattle.nres_automaton.specs.Cursor.{left}
use Rattle.nres_automaton.specs.Automaton.{later}
use Rattle.nres_automaton.proofs.Going as going
use Rattle.nres_automaton.proofs.Going.{◌then◌, ◌fails◌, exits, passes, took}
use Rattle.nres_automaton.proofs.Exprs as exprs
use Rattle.nres_automaton.proofs.Items as items
use Rattle.nres_automaton.proofs.list.args.Goals as goal

pub returns-then-is_fixed-clause-reads : goal.returns-then-is_fixed-clause-reads
returns-then-is_fixed-clause-reads c = λ k. let n = c.new.ensures in rw n (items.no_args (took c.peek-next.ensures.next c.take.ensures.rest c.take.ensures.operators) (c.is_fixed.ensures.yes c.if-is_fixed.true))

pub returns-clause-reads : goal.returns-clause-reads
returns-clause-reads c = passes (later c.new-2.result) _ _ (λ k. k) (λ k. let n = c.new-2.ensures in rw n (items.some_args (record { next = c.peek-next.ensures.next }) (c.is_fixed.ensures.no c.if-is_fixed.false))) (λ y k. going.stay) c.later.ensures.reads
