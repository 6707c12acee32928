use Rattle.std.proofs.Common.{◌≡◌, ◌<◌, ◌≤◌, length, ap, ◌∙◌, refl, sym, subst}
use Rattle.std.proofs.lemmas.Bool.{le-leb, lt-leb}
use Rattle.fit_walk.proofs.BeginLemmas.{tokens_count}
use Rattle.fit_walk.proofs.BodyLemmas.{in_room, no_room}
use Rattle.fit_walk.proofs.PlainLemmas.{if_ok_then}
use Rattle.fit_walk.specs.Bodies.{body_params, body_regs}
use Rattle.fits.specs.Programs.{param_tokens}
use Rattle.proof_lines.specs.Lines.{lines_of}
use Rattle.fit_walk.proofs.body.follow_body.Goals as goal

pub returns-then-len-body : goal.returns-then-len-body
returns-then-len-body c = λ V views seq.
    let b = c.args.body.now in
    let count = c.len.ensures ∙ sym (tokens_count c.in_ok-words.words) ∙ ap length c.in_ok-words.ensures in
    no_room V b (lines_of c.args.lines.now) (record { lines = c.args.lines }) refl (lt-leb _ _ (subst (λ n. body_regs b < n) count c.if-len-body.true))

pub returns : goal.returns
returns c =
    let b = c.args.body.now in
    let count = c.len.ensures ∙ sym (tokens_count c.in_ok-words.words) ∙ ap length c.in_ok-words.ensures in
    if_ok_then c.follow_on-followed.result _ _
    (λ past h V views seq. in_room V b (lines_of c.args.lines.now) past (le-leb _ _ (subst (λ n. n ≤ body_regs b) count c.if-len-body.false)) (h V views seq))
    c.follow_on-followed.ensures
