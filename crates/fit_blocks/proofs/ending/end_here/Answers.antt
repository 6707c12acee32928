use Rattle.std.proofs.Common.{Some, sym, ap, ◌∙◌}
use Rattle.std.specs.Prelude.{option_map}
use Rattle.fit_blocks.proofs.EndingLemmas.{args_found, here_all, here_none, if_ok_then}
use Rattle.fit_state.specs.Infos.{infos_of}
use Rattle.nres_core.specs.FlatTree.{flats_of}
use Rattle.ownership.specs.Entries.{shapes_of}
use Rattle.fit_blocks.proofs.ending.end_here.Goals as goal

pub returns-in-Some-clause-over : goal.returns-in-Some-clause-over
returns-in-Some-clause-over c =
    if_ok_then c.end_with.result _ _
    (λ over h V s views is.
    let some = args_found c.args.block.now c.as_slice.result.now s.entries _ _ c.as_slice.ensures (c.in_ok-infos.ensures c.args.frame.now.regs s is) (ap (option_map infos_of) (c.in-Some.is ∙ ap Some (sym c.as_slice-in-Some.ensures))) in
    here_all c.args.frame.now.regs V c.args.ends.now (flats_of c.args.block.now).ending s _ some c.end_with.new.state shapes_of over (h V s views is some))
    c.end_with.ensures.over

pub returns-in-None-clause-over : goal.returns-in-None-clause-over
returns-in-None-clause-over c = λ V s views is.
    here_none c.args.frame.now.regs V c.args.ends.now (flats_of c.args.block.now).ending s
    (args_found c.args.block.now c.as_slice.result.now s.entries _ _ c.as_slice.ensures (c.in_ok-infos.ensures c.args.frame.now.regs s is) (ap (option_map infos_of) c.in-None.is))
