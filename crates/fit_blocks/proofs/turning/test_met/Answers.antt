use Rattle.std.proofs.Common.{◌&&◌, refl, sym, ap, ◌∙◌}
use Rattle.std.specs.Prelude.{option_map}
use Rattle.fit_blocks.proofs.TurnLemmas.{kept_as, no_test, test_by}
use Rattle.fit_blocks.proofs.turning.test_met.Goals.{then-hold, else-hold}
use Rattle.fit_state.specs.Infos.{info_of}
use Rattle.fit_tokens.specs.Changes.{toks, tokens_of}
use Rattle.fits.specs.Places.{all_fresh, hold_words}
use Rattle.ownership.specs.Entries.{shapes_of}
use Rattle.fit_blocks.proofs.turning.test_met.Goals as goal

pub returns-in_default : goal.returns-in_default
returns-in_default c = λ R s is. no_test c.args.looping.now c.args.starting.now s (sym (c.in_ok-info.ensures R s is) ∙ ap (option_map info_of) c.in_default.is)

pub returns : goal.returns
returns c = λ R s is.
    let l = c.args.looping.now in
    let st = c.args.starting.now in
    let x = c.args.state.now in
    let a = info_of c.in-Some.info in
    let own = all_fresh st.vars.now (shapes_of l.shapes) in
    let ts = tokens_of c.as_slice-2.result.now in
    test_by l st s a c.if-hold.result (sym (c.in_ok-info.ensures R s is) ∙ ap (option_map info_of) c.in-Some.is)
    (elim c.if-hold.branch [
      | then-hold w ↦ kept_as l st s a (toks x.tokens) ts (tokens_of w.as_slice-then-hold.result.now) c.hold.result w.hold-then-hold.result c.if-hold.result is.known.tokens (ap tokens_of c.as_slice-2.ensures)
          (ap tokens_of w.as_slice-then-hold.ensures ∙ c.in_ok-words.ensures ∙ ap (λ zs. all_fresh st.vars.now (shapes_of zs)) c.as_slice.ensures) c.hold.ensures w.hold-then-hold.ensures (w.result-is ∙ sym (ap (λ b. b && w.hold-then-hold.result) w.if-hold.true))
      | else-hold w ↦ kept_as l st s a (toks x.tokens) ts own c.hold.result (hold_words (toks x.tokens) l.code.targets.now own) c.if-hold.result is.known.tokens (ap tokens_of c.as_slice-2.ensures) refl c.hold.ensures refl
          (w.result-is ∙ w.if-hold.false ∙ sym (ap (λ b. b && hold_words (toks x.tokens) l.code.targets.now own) w.if-hold.false))
    ])
