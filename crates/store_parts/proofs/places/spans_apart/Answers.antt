use Rattle.std.proofs.Common.{sym, subst}
use Rattle.std.specs.Prelude.{Some, None, nat_eq}
use Rattle.store_parts.specs.Tests.{SpansApart, Tells}
use Rattle.store_parts.proofs.Steps.{spans_left, spans_none, spans_right, spans_words}
use Rattle.store_parts.proofs.places.spans_apart.Goals as goal

pub returns-in-None-two : goal.returns-in-None-two
returns-in-None-two c h = spans_none (subst (λ o. SpansApart None o) c.in-None-two.is (subst (λ o. SpansApart o c.args.two) c.in-None.is h))

pub returns-in-Some-two : goal.returns-in-Some-two
returns-in-Some-two c =
    let t = nat_eq c.in-Some-two.span.1 0 in
    subst (λ o. Tells t (SpansApart o c.args.two)) (sym c.in-None.is) (subst (λ o. Tells t (SpansApart None o)) (sym c.in-Some-two.is) (spans_left c.in-Some-two.span))

pub returns-in-None-two-2 : goal.returns-in-None-two-2
returns-in-None-two-2 c =
    let t = nat_eq c.in-Some.first.1 0 in
    subst (λ o. Tells t (SpansApart o c.args.two)) (sym c.in-Some.is) (subst (λ o. Tells t (SpansApart (Some c.in-Some.first) o)) (sym c.in-None-two-2.is) (spans_right c.in-Some.first))

pub returns-in-Some-two-2 : goal.returns-in-Some-two-2
returns-in-Some-two-2 c =
    let t = c.words_apart.result in
    subst (λ o. Tells t (SpansApart o c.args.two)) (sym c.in-Some.is) (subst (λ o. Tells t (SpansApart (Some c.in-Some.first) o)) (sym c.in-Some-two-2.is) (spans_words c.in-Some.first c.in-Some-two-2.second t c.words_apart.ensures))
