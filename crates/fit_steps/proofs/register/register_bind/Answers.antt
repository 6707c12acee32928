use Rattle.std.proofs.Common.{◌≡◌, ◌∙◌, ◌++◌, ◌∷◌, [], ap, subst}
use Rattle.context_laws.specs.Stacks.{AllDiffer}
use Rattle.fit_state.proofs.HeldLemmas.{grows_then}
use Rattle.fit_state.specs.States.{IsKnown}
use Rattle.fit_steps.proofs.RegisterLemmas.{one_order, register_passed, register_refused}
use Rattle.fit_steps.proofs.RowLemmas.{passed_grows}
use Rattle.fit_steps.specs.Applied.{Passed, Refused, Taken}
use Rattle.fit_tokens.specs.Changes.{token_of, tokens_of}
use Rattle.fits.specs.Places.{bind_words}
use Rattle.rule_check.specs.Steps.{bare}
use Rattle.target_code.specs.declared.tree.Rep.TheVariants as r
use Rattle.fit_steps.proofs.register.register_bind.Goals as goal

pub returns-then-not-branch-clause-bound : goal.returns-then-not-branch-clause-bound
returns-then-not-branch-clause-bound c = λ V s j stands by is one.
    let a = c.args.applying.now in
    let x = c.args.state.now in
    let refused : Refused a.names.now a.operation x = subst (λ b. Taken a.names.now a.operation x c.take.new.state b) c.if-not-branch.true c.in_ok-take.ensures.applied in
    register_refused a V s x stands is j by c.args.named.now.out (token_of c.args.named.now.word) c.take.new.state refused

pub returns-clause-bound : goal.returns-clause-bound
returns-clause-bound c = λ V s j stands by is one.
    let a = c.args.applying.now in
    let x = c.args.state.now in
    let y = c.take.new.state in
    let passed : Passed a.names.now a.operation x y = subst (λ b. Taken a.names.now a.operation x y b) c.if-not-branch.false c.in_ok-take.ensures.applied in
    let word : tokens_of c.push.new.self ≡ token_of c.args.named.now.word ∷ [] = ap tokens_of (c.in_ok-push.ensures.ok ∙ ap (λ ws. ws ++ c.args.named.now.word ∷ []) c.new-list.ensures) in
    register_passed a V s x stands is j by c.args.named.now.out (token_of c.args.named.now.word) y c.bind_words_known.new.state one passed (subst (λ z. AllDiffer z.context.spots) c.bind_words_known.ensures.rules c.len.ensures.differ) c.bind_words_known.ensures.rules
    (λ R t k. subst (λ ws. IsKnown R c.bind_words_known.new.state (bind_words t (c.args.named.now.out ∷ []) (bare r.Word ∷ []) (ws ∷ []))) word (c.in_ok-bind_words_known.ensures.known R t k))

pub returns-clause-grows : goal.returns-clause-grows
returns-clause-grows c = λ t order.
    let a = c.args.applying.now in
    let x = c.args.state.now in
    let y = c.take.new.state in
    let passed : Passed a.names.now a.operation x y = subst (λ b. Taken a.names.now a.operation x y b) c.if-not-branch.false c.in_ok-take.ensures.applied in
    grows_then x y c.bind_words_known.new.state (passed_grows a.names.now a.operation x y passed) (c.in_ok-bind_words_known.ensures.grows (one_order a.names.now a.operation x y c.args.named.now.out passed order))
