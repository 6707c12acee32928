use Rattle.fit_blocks.proofs.AssertLemmas.{asserted_grows}
use Rattle.nres_core.specs.FlatTree.{binds_of}
use Rattle.fit_blocks.proofs.assert.assert_step.Goals as goal

pub returns-in_ok-learn_assert-in-Some-clause-grows : goal.returns-in_ok-learn_assert-in-Some-clause-grows
returns-in_ok-learn_assert-in-Some-clause-grows c = λ met.
    let x = c.args.state.now in
    let k = c.in_ok-learn_assert-in-Some.ensures in
    asserted_grows x _ (binds_of c.args.inner.now) c.args.test c.in-Some.next
    (λ i. record { rules = record { context = x.rules.context; facts = k.facts i; calculations = k.calculations i; start = x.rules.start }; tokens = x.tokens; words = x.words; next = c.in-Some.next; branch = x.branch })
    c.in-Some.ensures.0 c.in-Some.ensures.1
