use Rattle.std.proofs.Common.{◌≡◌, ◌+◌, ℕ, List, [], ◌∷◌, ◌++◌, take, drop, get_or, ap, ◌∙◌, sym, subst, Some}
use Rattle.nres_core.specs.declared.value.Value.{Value}
use Rattle.relations.specs.Values.{live}
use Rattle.target_code.specs.Reps.{width}
use Rattle.target_code.specs.declared.tree.Rep.TheVariants as rep
use Rattle.target_meaning.specs.States.{state_of}
use Rattle.run_results.specs.Results.{AllShow, Shows}
use Rattle.run_results.proofs.Values.{SoFar, all_shown, one_more, one_none}
use Rattle.state_values.proofs.showing.results.Goals as goal

pub returns-in-None : goal.returns-in-None
returns-in-None c = λ procs.
    let p = live (state_of procs c.args.state.now).heap in
    let outs = c.args.outs.now in
    let k = c.loop-index.index in
    let rest = c.loop-index.rest.now in
    let here = get_or outs k rep.Word in
    let own : c.split_registers.result.0.now ≡ take (width here) rest = c.split_registers.ensures.first ∙ ap (λ (n : ℕ). take n rest) c.width.ensures in
    one_none p outs c.args.regs.now k rest c.loop-index.values.items rep.Word c.loop-index-test.true (c.loop-index.invariant procs)
    (λ x s.
    let e : c.in_ok-value.field-0 ≡ Some x = (c.in_ok-value.ensures procs x).1 (subst (λ (rs : List ℕ). Shows p here rs x) (sym own) s) in
    let f = sym c.in-None.is ∙ e in
    let z : ⊥ = cc f in z)

pub loop-index-preserved : goal.loop-index-preserved
loop-index-preserved c = λ procs.
    let p = live (state_of procs c.args.state.now).heap in
    let outs = c.args.outs.now in
    let regs = c.args.regs.now in
    let k = c.loop-index.index in
    let rest = c.loop-index.rest.now in
    let here = get_or outs k rep.Word in
    let value = c.in-Some.value in
    let values = c.loop-index.values.items in
    let own : c.split_registers.result.0.now ≡ take (width here) rest = c.split_registers.ensures.first ∙ ap (λ (n : ℕ). take n rest) c.width.ensures in
    let others : c.split_registers.result.1.now ≡ drop (width here) rest = c.split_registers.ensures.others ∙ ap (λ (n : ℕ). drop n rest) c.width.ensures in
    let shows : Shows p here (take (width here) rest) value = subst (λ (rs : List ℕ). Shows p here rs value) own ((c.in_ok-value.ensures procs value).0 c.in-Some.is) in
    let more : SoFar p outs regs (k + 1) (drop (width here) rest) (values ++ value ∷ []) =
    one_more p outs regs k rest values rep.Word value c.loop-index-test.true (c.loop-index.invariant procs) shows in
    subst (λ (vs : List Value). SoFar p outs regs (k + 1) c.split_registers.result.1.now vs) (sym c.in_ok-push-in-Some.ensures.items)
    (subst (λ (rs : List ℕ). SoFar p outs regs (k + 1) rs (values ++ value ∷ [])) (sym others) more)

pub returns : goal.returns
returns c = λ procs.
    let p = live (state_of procs c.args.state.now).heap in
    subst (λ (vs : List Value). AllShow p c.args.outs.now vs c.args.regs.now) (sym c.from_vec.ensures)
    (all_shown p c.args.outs.now c.args.regs.now c.loop-index.index c.loop-index.rest.now c.loop-index.values.items c.loop-index-test.false (c.loop-index.invariant procs))
