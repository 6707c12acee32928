use Rattle.std.proofs.Common.{◌+◌, sym, ap, ◌∙◌}
use Rattle.std.specs.Option.{option_copied}
use Rattle.target_meaning.specs.Lines.{counted}
use Rattle.target_meaning.proofs.Counted.{place_step, place_end}
use Rattle.target_meaning.proofs.lines.line_at.Goals as goal

pub loop-level-preserved : goal.loop-level-preserved
loop-level-preserved c =
    c.loop-level.invariant ∙
    sym (place_step c.loop-level.list.now c.inner_list-list.result.now c.args.outer.now c.loop-level.level-index c.args.index c.loop-level.first c.saturating_add.result c.saturating_add-first.result _ (option_copied c.at-instr.result) c.loop-level-test.true c.at-instr.ensures
    (c.saturating_add.ensures ∙ ap (λ n. counted (c.loop-level.first + n)) c.lines_before.ensures)
    (c.saturating_add-first.ensures ∙ ap (λ n. counted (c.saturating_add.result + n)) c.lines_into.ensures)
    c.inner_list-list.ensures)

pub returns : goal.returns
returns c =
    c.saturating_add-2.ensures ∙ ap (λ n. counted (c.loop-level.first + n)) c.lines_before-2.ensures ∙
    place_end c.loop-level.list.now c.args.outer.now c.loop-level.level-index c.args.index c.loop-level.first c.loop-level-test.false ∙ sym c.loop-level.invariant
