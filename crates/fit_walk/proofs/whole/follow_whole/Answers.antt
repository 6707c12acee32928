use Rattle.std.proofs.Common.{◌≡◌, ◌+◌, arith, true, length, ap, ◌∙◌, refl, sym}
use Rattle.std.proofs.lemmas.Bool.{and_parts}
use Rattle.std.specs.Prelude.{Err, Ok}
use Rattle.fit_walk.proofs.CycleLemmas.{ok_as}
use Rattle.fit_walk.proofs.PlainLemmas.{if_ok_then}
use Rattle.fit_walk.proofs.WholeLemmas.{main_over, main_unmet, views_are}
use Rattle.fit_walk.specs.Bodies.{BodyIs}
use Rattle.fit_walk.specs.Wholes.{main_followed}
use Rattle.nres_core.specs.FlatTree.{bound_in, flat_procs_of, flat_whole_of, flats_of}
use Rattle.proof_lines.specs.Lines.{lines_of}
use Rattle.sequential.specs.Sequential.{sequential, sequential_procs}
use Rattle.fit_walk.proofs.whole.follow_whole.Goals as goal

pub returns-in_ok-next-in-Ok : goal.returns-in_ok-next-in-Ok
returns-in_ok-next-in-Ok c =
    let fl = c.args.flat.now in
    let lines = lines_of c.args.lines.now in
    let both = and_parts (sequential (flats_of fl.body).binds) (sequential_procs (flat_procs_of fl.funs)) c.requires in
    let funs = c.as_slice-2 in
    if_ok_then c.follow_procs.result _ _
    (λ said h V all.
    let views = views_are fl c.args.procs.now (record { names = c.as_slice.result; funs = funs.result; procs = c.args.procs }) V all c.as_slice.ensures funs.ensures refl in
    let main = ok_as (BodyIs (main_followed V (flat_whole_of fl) lines)) _ _ c.in-Ok.is (c.in_ok-past.ensures V views c.requires) in
    let behind = c.in_ok-next-in-Ok.ensures ∙ ap (λ ps. 0 + length ps + bound_in (flats_of fl.body).binds) c.as_slice-in-Ok.ensures in
    let next : c.in_ok-next-in-Ok.next ≡ length fl.params + bound_in (flats_of fl.body).binds = omega (arith, behind) in
    main_over V fl lines c.in-Ok.past main c.in_ok-next-in-Ok.next funs.result.now said next funs.ensures
    (h V main.last views (ap (λ fs. sequential_procs (flat_procs_of fs)) funs.ensures ∙ both.1) main.branch))
    c.follow_procs.ensures

pub returns-in-Err : goal.returns-in-Err
returns-in-Err c = λ V all.
    let fl = c.args.flat.now in
    let lines = lines_of c.args.lines.now in
    let views = views_are fl c.args.procs.now (record { names = c.as_slice.result; funs = c.as_slice-2.result; procs = c.args.procs }) V all c.as_slice.ensures c.as_slice-2.ensures refl in
    main_unmet V fl lines c.in-Err.unmet (ok_as (BodyIs (main_followed V (flat_whole_of fl) lines)) _ _ c.in-Err.is (c.in_ok-past.ensures V views c.requires))
