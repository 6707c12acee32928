use Rattle.std.proofs.Common.{arith, ◌≡◌, [], subst, append_assoc, append-nil}
use Rattle.sep_lex.specs.declared.refusal.LexRefusal.TheVariants as refusal
use Rattle.nres_core.specs.Tokens.{Lexes}
use Rattle.sep_lex.specs.Spans.{line_start}
use Rattle.sep_lex.proofs.Pieces as pieces
use Rattle.sep_lex.proofs.walk.tokens_from.Goals as goal

pub each-preserved-in-Space : goal.each-preserved-in-Space
each-preserved-in-Space c =
    let z = c.args.input.now in
    let h = c.in-Space.ensures in
    let f = pieces.fits z c.each.at c.in-Space.n c.each.place c.after-place.result c.each-test.true h.within.1 in
    record {
      lexes = λ ts d. c.each.invariant.lexes ts (pieces.space_lexes z c.each.at c.in-Space.n c.each.place c.after-place.result c.each-test.true h.value c.after-place.ensures.value ts d);
      stops = λ q d. c.each.invariant.stops q (pieces.space_stops z c.each.at c.in-Space.n c.each.place c.after-place.result c.each-test.true h.value c.after-place.ensures.value q d);
      line = omega (arith, c.after-place.ensures.line, f);
      column = omega (arith, c.after-place.ensures.column, f);
      begun = c.after-place.ensures.begun;
      within = pieces.ends_within z c.each.at c.in-Space.n c.each.place c.after-place.result c.each-test.true h.within.1;
      spans = c.each.invariant.spans;
    }

pub each-preserved : goal.each-preserved
each-preserved c =
    let z = c.args.input.now in
    let h = c.in-Token.ensures in
    let more = c.in_ok-push-in-Token.ensures.items in
    let f = pieces.fits z c.each.at c.in-Token.n c.each.place c.after-place-in-Token.result c.each-test.true h.within.1 in
    record {
      lexes = λ ts d. rw (more, append_assoc) (c.each.invariant.lexes _ (pieces.token_lexes z c.each.at c.in-Token.n c.each.place c.after-place-in-Token.result c.each-test.true c.in-Token.kind h.value c.after-place-in-Token.ensures.value ts d));
      stops = λ q d. c.each.invariant.stops q (pieces.token_stops z c.each.at c.in-Token.n c.each.place c.after-place-in-Token.result c.each-test.true c.in-Token.kind h.value c.after-place-in-Token.ensures.value q d);
      line = omega (arith, c.after-place-in-Token.ensures.line, f);
      column = omega (arith, c.after-place-in-Token.ensures.column, f);
      begun = c.after-place-in-Token.ensures.begun;
      within = pieces.ends_within z c.each.at c.in-Token.n c.each.place c.after-place-in-Token.result c.each-test.true h.within.1;
      spans = rw more (pieces.one_more z c.each.all.items _ c.each.invariant.spans (omega arith)
          (pieces.ends_within z c.each.at c.in-Token.n c.each.place c.after-place-in-Token.result c.each-test.true h.within.1));
    }

pub returns-in-Wrong-clause-at : goal.returns-in-Wrong-clause-at
returns-in-Wrong-clause-at c = λ p e.
    c.each.invariant.stops p (pieces.wrong_stops c.args.input.now c.each.at c.each.place p c.each-test.true c.in-Wrong.ensures.value (let f : refusal.At c.each.place ≡ refusal.At p = cc in cc))

pub returns-clause-ok : goal.returns-clause-ok
returns-clause-ok c =
    let d = c.each.invariant.lexes [] (pieces.all_read c.args.input.now c.each.at c.each.place c.each-test.false) in
    subst (λ ts. Lexes 0 (line_start c.args.line) c.args.input.now ts) (append-nil c.each.all.items) d
