use Rattle.std.proofs.Common.{◌∙◌, ap, refl, sym}
use Rattle.std.specs.Prelude.{option_copied}
use Rattle.fit_walk.proofs.PlainLemmas.{if_ok_then}
use Rattle.fit_walk.proofs.WholeLemmas.{body_as, none_found, one_found}
use Rattle.fits.specs.Follow.{proc_name}
use Rattle.fits.specs.Programs.{follow_proc}
use Rattle.nres_core.specs.FlatTree.{flats_of}
use Rattle.proof_lines.specs.Lines.{lines_of}
use Rattle.target_meaning.specs.Leaf.{find}
use Rattle.fit_walk.proofs.whole.follow_fun.Goals as goal

pub returns-in-Some : goal.returns-in-Some
returns-in-Some c =
    let fn = c.args.fun.now in
    let g = c.args.number in
    let k = c.args.first in
    let past = c.args.past in
    let lines = lines_of past.lines.now in
    let q = c.in-Some.proc.now in
    if_ok_then c.follow_body.result _ _
    (λ over h V views seq.
    body_as _ _ over
    (one_found V (proc_name g) lines (λ z. follow_proc V k past.branch fn.params fn.shown (flats_of fn.body) z lines) q (ap (λ ps. find ps (proc_name g)) views.procs ∙ sym c.find_numbered.ensures ∙ ap option_copied c.in-Some.is)
    ∙ (λ i. follow_proc V k past.branch (sym c.as_slice.ensures i) (sym c.as_slice-in-Some.ensures i) (flats_of fn.body) q lines))
    (h V views seq))
    c.follow_body.ensures

pub returns-in-None : goal.returns-in-None
returns-in-None c = λ V views seq.
    let fn = c.args.fun.now in
    let g = c.args.number in
    let lines = lines_of c.args.past.lines.now in
    none_found V (proc_name g) lines (λ z. follow_proc V c.args.first c.args.past.branch fn.params fn.shown (flats_of fn.body) z lines) (ap (λ ps. find ps (proc_name g)) views.procs ∙ sym c.find_numbered.ensures ∙ ap option_copied c.in-None.is)
