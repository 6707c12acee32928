use Rattle.std.proofs.Common.{◌∙◌, ap, refl, sym, true}
use Rattle.std.proofs.lemmas.Bool.{and_parts}
use Rattle.std.specs.Prelude.{codes, option_copied}
use Rattle.fit_walk.proofs.PlainLemmas.{if_ok_then}
use Rattle.fit_walk.proofs.WholeLemmas.{body_as, none_found, one_found}
use Rattle.fits.specs.Programs.{follow_proc}
use Rattle.nres_core.specs.FlatTree.{flat_procs_of, flats_of}
use Rattle.proof_lines.specs.Lines.{lines_of}
use Rattle.sequential.specs.Sequential.{sequential, sequential_procs}
use Rattle.target_meaning.specs.Leaf.{find}
use Rattle.fit_walk.proofs.whole.follow_main.Goals as goal

pub returns-in-Some : goal.returns-in-Some
returns-in-Some c =
    let fl = c.args.flat.now in
    let lines = lines_of c.args.lines.now in
    let q = c.in-Some.proc.now in
    if_ok_then c.follow_body.result _ _
    (λ past h V views seq.
    let both = and_parts (sequential (flats_of fl.body).binds) (sequential_procs (flat_procs_of fl.funs)) seq in
    body_as _ _ past
    (one_found V (codes "main") lines (λ z. follow_proc V 0 0 fl.params fl.shown (flats_of fl.body) z lines) q (ap (λ ps. find ps (codes "main")) views.procs ∙ sym c.find_proc.ensures ∙ ap option_copied c.in-Some.is)
    ∙ (λ i. follow_proc V 0 0 (sym c.as_slice.ensures i) (sym c.as_slice-in-Some.ensures i) (flats_of fl.body) q lines))
    (h V views both.0))
    c.follow_body.ensures

pub returns-in-None : goal.returns-in-None
returns-in-None c = λ V views seq.
    let fl = c.args.flat.now in
    let lines = lines_of c.args.lines.now in
    none_found V (codes "main") lines (λ z. follow_proc V 0 0 fl.params fl.shown (flats_of fl.body) z lines) (ap (λ ps. find ps (codes "main")) views.procs ∙ sym c.find_proc.ensures ∙ ap option_copied c.in-None.is)
