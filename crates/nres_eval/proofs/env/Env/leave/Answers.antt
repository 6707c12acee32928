use Rattle.std.proofs.Common.{ap, ◌∙◌, length, drop, take, subst, sym, ◌-◌}
use Rattle.nres_eval.specs.Environment.{seen, IsNumbered}
use Rattle.nres_eval.proofs.Environments.{left_numbered, left_seen}
use Rattle.nres_eval.proofs.env.Env.leave.Goals as goal

pub invariant_of-self : goal.invariant_of-self
invariant_of-self c =
    let vs = c.self.inside.values.items in
    subst (λ us. IsNumbered c.leave.new.self (length us)) (sym c.truncate.ensures.items)
    (subst (λ es. IsNumbered es (length (take c.args.mark vs))) (sym c.leave.ensures) (left_numbered c.self.inside.places vs c.args.mark c.self.invariant))

pub returns : goal.returns
returns c =
    let vs = c.self.inside.values.items in
    (λ i. seen (c.leave.ensures i) (c.truncate.ensures.items i)) ∙ left_seen c.self.inside.places vs c.args.mark c.self.invariant ∙ ap (λ env. drop (length env - c.args.mark) env) c.self.view_is
