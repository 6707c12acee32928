use Rattle.std.proofs.Common.{◌||◌, cond, ap, ◌∙◌}
use Rattle.std.specs.Prelude.{None}
use Rattle.fit_blocks.proofs.HeadLemmas.{all_forgotten, on_ok_then}
use Rattle.fit_tokens.specs.Changes.{toks}
use Rattle.fits.specs.Written.{code_writes, is_one_of}
use Rattle.fit_blocks.proofs.looping.forget_inside.Goals as goal

pub returns-clause-tokens : goal.returns-clause-tokens
returns-clause-tokens c =
    let x = c.args.tokens.now in
    on_ok_then c.forget-2.result _ _
    (all_forgotten c.args.code.now c.args.starting.now x c.forget.new.self c.forget-2.new.self _ _ _
    (λ q. c.in_ok-note_written.ensures q ∙ ap (λ z. code_writes q c.args.code.now.head.cond.now || is_one_of q z) c.new-noted.ensures)
    c.in_ok-note_written-2.ensures c.in_ok-note_inside.ensures
    (λ q. c.in_ok-forget.ensures.ok q ∙ ap (λ z. cond (is_one_of q z) None (toks x q)) c.as_slice.ensures))
    c.forget-2.ensures.ok
