use Rattle.std.proofs.Common.{◌∙◌, ap, sym, subst}
use Rattle.std.proofs.lemmas.Result.{IfOk-weaker}
use Rattle.fit_steps.proofs.UseLemmas.{use_is, use_not}
use Rattle.fit_steps.specs.Used.{CallTaken}
use Rattle.fits.specs.Places.{in_order}
use Rattle.ownership.specs.Entries.{shapes_of, spots_of}
use Rattle.fit_steps.proofs.calling.use_here.Goals as goal

pub use_take-requires : goal.use_take-requires
use_take-requires c = record {
  order = ap (λ ys. in_order c.args.state.now.next c.args.call.now.calling.outs.now (shapes_of ys)) (c.as_slice-then-branch.ensures ∙ sym c.as_slice.ensures) ∙ c.in_ok-use_holds.ensures.order c.if-branch.true;
  shapes = ap shapes_of c.as_slice-then-branch.ensures ∙ c.in_ok-shapes.ensures;
}

pub returns-then-branch-clause-used : goal.returns-then-branch-clause-used
returns-then-branch-clause-used c =
    let a = c.args.call.now in
    let x = c.args.state.now in
    let at = c.args.at.now in
    IfOk-weaker c.use_take.result _ _ (λ r taken V s stands is.
    use_is a V s x stands is (spots_of c.as_slice-entries.result.now) (ap spots_of c.as_slice-entries.ensures ∙ c.in_ok-entries.ensures) (shapes_of c.as_slice.result.now) at.to.now at.name.now at.args.now c.use_take.new.state r (ap shapes_of c.as_slice.ensures ∙ c.in_ok-shapes.ensures) (sym (c.in_ok-use_holds.ensures.holds s is) ∙ c.if-branch.true)
    (subst (λ ys. CallTaken a (spots_of c.as_slice-entries.result.now) (shapes_of ys) at.to.now x c.use_take.new.state r) (c.as_slice-then-branch.ensures ∙ sym c.as_slice.ensures) taken))
    c.use_take.ensures.taken

pub returns-clause-used : goal.returns-clause-used
returns-clause-used c = λ V s stands is.
    let a = c.args.call.now in
    let x = c.args.state.now in
    let at = c.args.at.now in
    use_not a V s x stands is (spots_of c.as_slice-entries.result.now) (ap spots_of c.as_slice-entries.ensures ∙ c.in_ok-entries.ensures) (shapes_of c.as_slice.result.now) at.to.now at.name.now at.args.now x (ap shapes_of c.as_slice.ensures ∙ c.in_ok-shapes.ensures) (sym (c.in_ok-use_holds.ensures.holds s is) ∙ c.if-branch.false)
