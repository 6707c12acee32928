use Rattle.nres_automaton.proofs.Refused.{refuses, refuses_values}
use Rattle.nres_automaton.proofs.laws.refused_at_the_first_token.Goals as goal

pub returns-clause-file : goal.returns-clause-file
returns-clause-file c = λ l r q ts b rest h e. refuses l r q ts b rest h e

pub returns-clause-values : goal.returns-clause-values
returns-clause-values c = λ l r q ts b rest e. refuses_values l r q ts b rest e
