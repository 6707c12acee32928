use Rattle.sep_lex.proofs.One as one
use Rattle.sep_lex.proofs.walk.one_reading.Goals as goal

pub returns-clause-one : goal.returns-clause-one
returns-clause-one c = λ at p z ts us d e. one.one d us e

pub returns-clause-either : goal.returns-clause-either
returns-clause-either c = λ at p q z ts s d. one.either s at ts d
