use Rattle.std.proofs.Common.{[]}
use Rattle.nres_automaton.specs.Automaton.{given}
use Rattle.nres_automaton.proofs.CompleteTexts.{accepts, all_withs}
use Rattle.nres_automaton.proofs.laws.texts_are_accepted.Goals as goal

pub returns-clause-file : goal.returns-clause-file
returns-clause-file c = λ l r q ts p ws h. accepts q l r ts p ws h

pub returns-clause-values : goal.returns-clause-values
returns-clause-values c = λ l r q ts ws h. all_withs q l r l h [] given
