use Rattle.fit_tokens.proofs.LogsLemmas.{on_then}
use Rattle.word_homes.proofs.PutsLemmas.{homes_put}
use Rattle.word_homes.proofs.table.Homes.put.Goals as goal

pub returns-clause-ok : goal.returns-clause-ok
returns-clause-ok c =
    on_then c.set.result _ _ c.set.ensures.ok
    (homes_put c.self.inside.names c.args.self.now c.set.new.self c.args.var c.args.home _ c.self.view_is c.name_of.ensures)
