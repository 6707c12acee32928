use Rattle.std.proofs.Common.{◌≡◌, ◌+◌, ◌&&◌, Bool, true, false, length, ap, ◌∙◌, sym, refl}
use Rattle.context_laws.specs.Stacks.{spot_in}
use Rattle.fit_state.specs.Infos.{infos_of}
use Rattle.fit_tokens.specs.Changes.{tokens_of}
use Rattle.fit_walk.proofs.TestLemmas.{both_tests, first_fails}
use Rattle.fit_walk.specs.Bodies.{block_met, body_params, kept_from}
use Rattle.fits.specs.Follow.{all_below}
use Rattle.fits.specs.Places as p
use Rattle.fits.specs.Places.{hold_words}
use Rattle.fits.specs.Programs as programs
use Rattle.fit_walk.proofs.body.is_met.Goals.{else-held, else-hold, else-same_reps, then-held, then-hold, then-same_reps}
use Rattle.fit_walk.proofs.body.is_met.Goals as goal

pub returns-then-not-none_left : goal.returns-then-not-none_left
returns-then-not-none_left c = λ R1 u is.
    let b = c.args.body.now in
    let R = c.args.regs in
    let is_in = infos_of c.args.infos.now in
    let H = hold_words u.toks b.proc.now.ret (p.all_words is_in) in
    let B = all_below R b.proc.now.ret in
    let N = p.none_left (b.first + length (body_params b)) (p.goners (p.all_vars is_in) u.hold) u.entries in
    let hold = c.hold.ensures ∙ (λ i. hold_words (is.known.tokens i) (c.as_slice-targets.ensures i) ((ap tokens_of c.as_slice.ensures ∙ c.in_ok-words.ensures) i)) in
    let held : c.if-hold.held ≡ (H && B) = elim c.if-hold.branch [
      | then-hold w ↦ both_tests c.hold.result c.if-hold.held H B hold w.if-hold.true (w.held-is ∙ w.all_below-held.ensures ∙ ap (all_below R) c.as_slice-targets.ensures)
      | else-hold w ↦ first_fails c.hold.result c.if-hold.held H B hold w.if-hold.false (w.held-is ∙ w.if-hold.false)
    ] in
    let value : c.if-held.value ≡ ((H && B) && N) = elim c.if-held.branch [
      | then-held w ↦ both_tests c.if-hold.held c.if-held.value (H && B) N held w.if-held.true (w.value-is ∙ w.none_left.ensures R1 u is ∙ (λ i. p.none_left (c.from.ensures i + length (body_params b)) (p.goners ((w.as_slice-then-held.ensures ∙ c.in_ok-vars.ensures) i) u.hold) u.entries))
      | else-held w ↦ first_fails c.if-hold.held c.if-held.value (H && B) N held w.if-held.false (w.value-is ∙ w.if-held.false)
    ] in
    let met = value in
    let S = programs.same_reps (p.info_reps is_in) b.header.shown.now in
    let K = kept_from c.args.state.now.rules.context.spots 0 (body_params b) (p.all_vars is_in) in
    ap (λ z. z && (S && K)) (sym c.if-not-none_left.true ∙ met)

pub returns : goal.returns
returns c = λ R1 u is.
    let b = c.args.body.now in
    let R = c.args.regs in
    let is_in = infos_of c.args.infos.now in
    let H = hold_words u.toks b.proc.now.ret (p.all_words is_in) in
    let B = all_below R b.proc.now.ret in
    let N = p.none_left (b.first + length (body_params b)) (p.goners (p.all_vars is_in) u.hold) u.entries in
    let hold = c.hold.ensures ∙ (λ i. hold_words (is.known.tokens i) (c.as_slice-targets.ensures i) ((ap tokens_of c.as_slice.ensures ∙ c.in_ok-words.ensures) i)) in
    let held : c.if-hold.held ≡ (H && B) = elim c.if-hold.branch [
      | then-hold w ↦ both_tests c.hold.result c.if-hold.held H B hold w.if-hold.true (w.held-is ∙ w.all_below-held.ensures ∙ ap (all_below R) c.as_slice-targets.ensures)
      | else-hold w ↦ first_fails c.hold.result c.if-hold.held H B hold w.if-hold.false (w.held-is ∙ w.if-hold.false)
    ] in
    let value : c.if-held.value ≡ ((H && B) && N) = elim c.if-held.branch [
      | then-held w ↦ both_tests c.if-hold.held c.if-held.value (H && B) N held w.if-held.true (w.value-is ∙ w.none_left.ensures R1 u is ∙ (λ i. p.none_left (c.from.ensures i + length (body_params b)) (p.goners ((w.as_slice-then-held.ensures ∙ c.in_ok-vars.ensures) i) u.hold) u.entries))
      | else-held w ↦ first_fails c.if-hold.held c.if-held.value (H && B) N held w.if-held.false (w.value-is ∙ w.if-held.false)
    ] in
    let met = value in
    let S = programs.same_reps (p.info_reps is_in) b.header.shown.now in
    let K = kept_from c.args.state.now.rules.context.spots 0 (body_params b) (p.all_vars is_in) in
    let last : c.if-same_reps.result ≡ (S && K) = elim c.if-same_reps.branch [
      | then-same_reps w ↦ both_tests c.same_reps.result c.if-same_reps.result S K c.same_reps.ensures w.if-same_reps.true (w.result-is ∙ w.only_kept.ensures ∙ ap (kept_from c.args.state.now.rules.context.spots 0 (body_params b)) (w.as_slice-then-same_reps.ensures ∙ c.in_ok-vars.ensures))
      | else-same_reps w ↦ first_fails c.same_reps.result c.if-same_reps.result S K c.same_reps.ensures w.if-same_reps.false (w.result-is ∙ w.if-same_reps.false)
    ] in
    last ∙ ap (λ z. z && (S && K)) (sym c.if-not-none_left.false ∙ met)
