use Rattle.std.proofs.Common.{ap, ◌∙◌, ◌≡◌, ℕ, length, ◌∷◌, ◌++◌, []}
use Rattle.nres_eval.specs.Environment.{seen}
use Rattle.nres_eval.proofs.Environments.{one_more}
use Rattle.nres_eval.proofs.env.Env.bind.Goals as goal

pub returns-in-Ok : goal.returns-in-Ok
returns-in-Ok c =
    let es = c.self.inside.places in
    let vs = c.self.inside.values.items in
    let count : c.len-place.result ≡ length vs = c.len-place.ensures ∙ c.self.inside.values.ok.0 in
    (λ i. seen (c.in-Ok.ensures i) (c.in_ok-push.ensures.items i))
    ∙ (λ i. seen ((c.bytes.ensures i, count i) ∷ es) (vs ++ c.args.value ∷ []))
    ∙ one_more es vs c.args.name.now c.args.value c.self.invariant
    ∙ ap (λ env. (c.args.name.now, c.args.value) ∷ env) c.self.view_is
