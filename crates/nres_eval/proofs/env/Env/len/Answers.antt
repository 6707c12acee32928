use Rattle.std.proofs.Common.{ap, ◌∙◌, length}
use Rattle.nres_eval.proofs.Environments.{as_many}
use Rattle.nres_eval.proofs.env.Env.len.Goals as goal

pub returns : goal.returns
returns c = c.len.ensures ∙ c.self.inside.values.ok.0 ∙ as_many c.self.inside.places c.self.inside.values.items _ c.self.invariant ∙ ap length c.self.view_is
