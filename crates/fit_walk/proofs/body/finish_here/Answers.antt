use Rattle.std.proofs.Common.{◌∙◌, ap, sym}
use Rattle.std.specs.Prelude.{Some, option_map}
use Rattle.fit_blocks.proofs.EndingLemmas.{args_found}
use Rattle.fit_state.specs.Infos.{infos_of}
use Rattle.fit_walk.proofs.BodyLemmas.{here_none, here_some}
use Rattle.fit_walk.proofs.PlainLemmas.{if_ok_then}
use Rattle.fit_walk.proofs.body.finish_here.Goals as goal

pub returns-in-Some-clause-over : goal.returns-in-Some-clause-over
returns-in-Some-clause-over c =
    let R = c.args.frame.now.regs in
    let b = c.args.body.now in
    if_ok_then c.finish_with.result _ _
    (λ over h V u views is older.
    let some = args_found b.block.now c.as_slice.result.now u.entries _ _ c.as_slice.ensures (c.in_ok-infos.ensures R u is) (ap (option_map infos_of) c.in-Some.is ∙ ap (λ zs. Some (infos_of zs)) (sym c.as_slice-in-Some.ensures)) in
    here_some V R b u (infos_of c.as_slice-in-Some.result.now) some over (h V u views is older some))
    c.finish_with.ensures.over

pub returns-in-None-clause-over : goal.returns-in-None-clause-over
returns-in-None-clause-over c = λ V u views is older.
    let R = c.args.frame.now.regs in
    let b = c.args.body.now in
    here_none V R b u (args_found b.block.now c.as_slice.result.now u.entries _ _ c.as_slice.ensures (c.in_ok-infos.ensures R u is) (ap (option_map infos_of) c.in-None.is))
