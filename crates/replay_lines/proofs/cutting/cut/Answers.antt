use Rattle.std.proofs.Common.{◌≡◌, ◌+◌, true, false, ap, ◌∙◌}
use Rattle.replay_lines.specs.Inputs.{before_part, from_part, program_part, feeds}
use Rattle.replay_lines.proofs.Cuts.{is_front, is_rest}
use Rattle.replay_lines.proofs.cutting.cut.Goals as goal

pub returns-clause-program : goal.returns-clause-program
returns-clause-program c = is_front true c.args.text.now c.split_at.result.0.now c.part_end-end.result.0 c.split_at.ensures.front c.part_end-end.ensures.end

pub returns-clause-values : goal.returns-clause-values
returns-clause-values c =
    let rest : c.split_at.result.1.now ≡ from_part true c.args.text.now = is_rest true c.args.text.now c.split_at.result.1.now c.part_end-end.result.0 c.split_at.ensures.back c.part_end-end.ensures.end in
    is_front false c.split_at.result.1.now c.split_at-2.result.0.now c.part_end-end-2.result.0 c.split_at-2.ensures.front c.part_end-end-2.ensures.end ∙ ap (λ l. before_part false true l) rest

pub returns-clause-schedule : goal.returns-clause-schedule
returns-clause-schedule c =
    let rest : c.split_at.result.1.now ≡ from_part true c.args.text.now = is_rest true c.args.text.now c.split_at.result.1.now c.part_end-end.result.0 c.split_at.ensures.back c.part_end-end.ensures.end in
    is_rest false c.split_at.result.1.now c.split_at-2.result.1.now c.part_end-end-2.result.0 c.split_at-2.ensures.back c.part_end-end-2.ensures.end ∙ ap (λ l. from_part false l) rest

pub returns-clause-schedule_line : goal.returns-clause-schedule_line
returns-clause-schedule_line c =
    let rest : c.split_at.result.1.now ≡ from_part true c.args.text.now = is_rest true c.args.text.now c.split_at.result.1.now c.part_end-end.result.0 c.split_at.ensures.back c.part_end-end.ensures.end in
    ap (λ n. 1 + n + c.part_end-end-2.result.1) c.part_end-end.ensures.feeds ∙ ap (λ n. 1 + feeds (program_part c.args.text.now) + n) (c.part_end-end-2.ensures.feeds ∙ ap (λ l. feeds (before_part false true l)) rest)
