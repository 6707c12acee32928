use Rattle.nres_automaton.proofs.Accepted.{file_of, values_of}
use Rattle.nres_automaton.proofs.laws.texts_alone_are_accepted.Goals as goal

pub returns-clause-file : goal.returns-clause-file
returns-clause-file c = λ l r q ts y h. let f = file_of l r q ts y h in (f.spec, f.withs, f.gives, f.is_file)

pub returns-clause-values : goal.returns-clause-values
returns-clause-values c = λ l r q ts y h. let f = values_of l r q ts y h in (f.withs, f.gives, f.are)
