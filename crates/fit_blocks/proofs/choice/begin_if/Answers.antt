use Rattle.std.proofs.Common.{◌∷◌, [], refl, sym, ap, ◌∙◌}
use Rattle.std.specs.Prelude.{option_map}
use Rattle.fit_blocks.proofs.ChoiceLemmas.{if_begins, no_head, no_info, no_pass, not_held}
use Rattle.fit_blocks.proofs.EndingLemmas.{when_none, when_some}
use Rattle.fit_blocks.proofs.GrowsLemmas.{grows_same}
use Rattle.fit_state.specs.Infos.{info_of}
use Rattle.fit_tokens.specs.Changes.{toks, tokens_of}
use Rattle.fits.specs.Places.{hold_words}
use Rattle.proof_lines.specs.Lines.{lines_of}
use Rattle.fit_blocks.proofs.choice.begin_if.Goals.{in_default-if_head-via-in-Some-if_head+else-hold, in_default-if_head-via-in_default-if_head}
use Rattle.fit_blocks.proofs.choice.begin_if.Goals as goal

pub returns-in_default-clause-grows : goal.returns-in_default-clause-grows
returns-in_default-clause-grows c = grows_same c.args.state.now

pub returns-in_default-2-clause-begins : goal.returns-in_default-2-clause-begins
returns-in_default-2-clause-begins c = λ V s is.
    no_info c.args.regs V s c.args.test c.args.rest.code.now (lines_of c.args.rest.lines.now) c.in-Some.targets.now (lines_of c.in-Some.lines.now) c.in-Some.ensures
    (sym (c.in_ok-info.ensures c.args.regs s is) ∙ ap (option_map info_of) c.in_default-2.is)

pub returns-in_default-2-clause-grows : goal.returns-in_default-2-clause-grows
returns-in_default-2-clause-grows c = grows_same c.args.state.now

pub returns-in_default-3-clause-begins : goal.returns-in_default-3-clause-begins
returns-in_default-3-clause-begins c = λ V s is.
    let p = c.in_ok-code in
    no_pass c.args.regs V s c.args.test c.args.rest.code.now (lines_of c.args.rest.lines.now) c.in-Some.targets.now (lines_of c.in-Some.lines.now) c.in-Some.ensures
    (info_of c.in-Some-2.info) (sym (c.in_ok-info.ensures c.args.regs s is) ∙ ap (option_map info_of) c.in-Some-2.is)
    (when_none p.field-0 _ _ c.in_default-3.is (p.ensures.passed V s is))

pub returns-in-Some-if_head-clause-begins : goal.returns-in-Some-if_head-clause-begins
returns-in-Some-if_head-clause-begins c = λ V s is.
    let p = c.in_ok-code in
    let h = c.in-Some-if_head.head in
    let info = c.in-Some-2.info in
    let new = c.pass_all.new.state in
    let g = when_some p.field-0 _ _ c.in-Some-3.code c.in-Some-3.is (p.ensures.passed V s is) in
    if_begins c.args.regs V s c.args.test c.args.rest.code.now (lines_of c.args.rest.lines.now) c.in-Some.targets.now (lines_of c.in-Some.lines.now) c.in-Some.ensures
    (info_of info) (sym (c.in_ok-info.ensures c.args.regs s is) ∙ ap (option_map info_of) c.in-Some-2.is)
    new c.in-Some-3.code.now g h.test h.yes.now h.no.now h.rest.now c.in-Some-if_head.ensures _
    (ap (λ f. hold_words f (h.test ∷ []) (tokens_of info.words)) (sym g.is.known.tokens)
    ∙ ap (λ ws. hold_words (toks new.tokens) (h.test ∷ []) (tokens_of ws)) (sym c.as_slice.ensures) ∙ sym c.hold.ensures ∙ c.if-hold.true)
    refl c.as_slice-in-Some-if_head.ensures c.as_slice-in-Some-if_head-2.ensures refl refl

pub returns-clause-begins : goal.returns-clause-begins
returns-clause-begins c = λ V s is.
    let p = c.in_ok-code in
    let info = c.in-Some-2.info in
    let new = c.pass_all.new.state in
    let some = sym (c.in_ok-info.ensures c.args.regs s is) ∙ ap (option_map info_of) c.in-Some-2.is in
    let g = when_some p.field-0 _ _ c.in-Some-3.code c.in-Some-3.is (p.ensures.passed V s is) in
    elim c.in_default-if_head.branch [
      | in_default-if_head-via-in-Some-if_head+else-hold w ↦
          let h = w.in-Some-if_head.head in
          not_held c.args.regs V s c.args.test c.args.rest.code.now (lines_of c.args.rest.lines.now) c.in-Some.targets.now (lines_of c.in-Some.lines.now) c.in-Some.ensures
          (info_of info) some new c.in-Some-3.code.now g h.test h.yes.now h.no.now h.rest.now w.in-Some-if_head.ensures
          (ap (λ f. hold_words f (h.test ∷ []) (tokens_of info.words)) (sym g.is.known.tokens)
          ∙ ap (λ ws. hold_words (toks new.tokens) (h.test ∷ []) (tokens_of ws)) (sym w.as_slice.ensures) ∙ sym w.hold.ensures ∙ w.if-hold.false)
      | in_default-if_head-via-in_default-if_head w ↦
          no_head c.args.regs V s c.args.test c.args.rest.code.now (lines_of c.args.rest.lines.now) c.in-Some.targets.now (lines_of c.in-Some.lines.now) c.in-Some.ensures
          (info_of info) some new c.in-Some-3.code.now g w.in_default-if_head.ensures
    ]
