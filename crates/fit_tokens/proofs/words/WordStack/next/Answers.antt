use Rattle.std.proofs.Common.{◌≡◌, ◌∙◌, ap, sym, subst}
use Rattle.fits.specs.Places.{Of}
use Rattle.fit_tokens.specs.Changes.{token_of, tokens_of}
use Rattle.fit_tokens.specs.Standing.{IsNext, is_of}
use Rattle.fit_tokens.proofs.StacksLemmas.{next_chained}
use Rattle.fit_tokens.proofs.words.WordStack.next.Goals as goal

pub returns-in-Of-Some : goal.returns-in-Of-Some
returns-in-Of-Some c =
    let t : token_of c.args.token ≡ Of c.in-Of-Some.var c.in-Of-Some.field-1-0 = ap token_of c.in-Of-Some.is-0 in
    subst (λ z. IsNext c.args.self.now z c.args.index c.in-Of-Some.placed.now.below) (sym t)
    (next_chained c.self.inside.stack c.self.inside.table c.args.self.now c.args.index c.in-Of-Some.var c.in-Of-Some.field-1-0 c.get.result c.in-Of-Some.placed c.self.invariant c.self.view_is c.get.ensures.value c.in-Of-Some.is-1
    (ap (λ z. is_of c.in-Of-Some.var (tokens_of z)) (sym c.as_slice.ensures) ∙ sym c.is_first_of.ensures ∙ c.if-is_first_of.true))
