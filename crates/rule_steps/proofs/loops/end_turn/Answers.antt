use Rattle.std.proofs.Common.{ap, ◌∙◌}
use Rattle.ownership.specs.Entries.{spots_of}
use Rattle.nres_core.specs.FlatTree.{flats_of}
use Rattle.rule_steps.specs.Ends.{moved_as}
use Rattle.rule_steps.proofs.LoopsLemmas.{if_ok_then, turn_compares, turn_refused}
use Rattle.rule_steps.proofs.loops.end_turn.Goals as goal

pub returns-in-Err-clause-turned : goal.returns-in-Err-clause-turned
returns-in-Err-clause-turned c = λ book m x next names at count shapes.
    turn_refused book m x (flats_of c.args.block.now).ending next c.args.count count c.in-Err.refusal
    (c.in_ok-refusal.ensures.ended book x names at ∙ ap (λ z. moved_as z c.finish.new.context.spots) c.in-Err.is)

pub returns-in-Ok-clause-turned : goal.returns-in-Ok-clause-turned
returns-in-Ok-clause-turned c =
    if_ok_then c.other_result.result _ _
    (λ o cmp book m x next names at count shapes.
    turn_compares book m x c.args.block.now next c.args.count c.args.context.now.spots c.finish.new.context.spots (spots_of c.args.starts.now) c.in-Ok.results c.as_slice.result.now c.in_ok-refusal.field-0 o
    count shapes at (c.in_ok-refusal.ensures.ended book x names at) c.in-Ok.is c.in_ok-refusal.ensures.results c.as_slice.ensures (cmp next))
    c.other_result.ensures
