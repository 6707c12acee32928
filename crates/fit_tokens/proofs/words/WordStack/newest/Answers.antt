use Rattle.std.proofs.Common.{◌≡◌, ◌≤◌, ◌-◌, ◌∙◌, ap, sym, subst, length}
use Rattle.std.specs.Option.{SomeIff}
use Rattle.fits.specs.Places.{Of}
use Rattle.fit_tokens.specs.Changes.{token_of}
use Rattle.fit_tokens.specs.Standing.{IsNext, newest_of}
use Rattle.fit_tokens.proofs.StacksLemmas.{next_of, next_less, counted}
use Rattle.fit_tokens.proofs.words.WordStack.newest.Goals as goal

pub returns-in-Of : goal.returns-in-Of
returns-in-Of c =
    subst (λ o. IsNext c.args.self.now (token_of c.args.token) (length c.args.self.now) o) (sym c.newest_of.ensures)
    (subst (λ z. IsNext c.args.self.now z (length c.args.self.now) (newest_of c.args.self.now c.in-Of.var)) (sym (ap token_of c.in-Of.is)) (next_of c.args.self.now c.in-Of.var c.in-Of.field-1))

pub returns-in-Number : goal.returns-in-Number
returns-in-Number c =
    next_less c.args.self.now (token_of c.args.token) (length c.args.self.now) c.checked_sub.result
    (subst (λ n. SomeIff c.checked_sub.result (1 ≤ n) (n - 1)) (c.len.ensures ∙ counted c.self.inside.stack c.args.self.now c.self.view_is) c.checked_sub.ensures)
