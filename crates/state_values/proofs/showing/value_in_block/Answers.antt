use Rattle.std.proofs.Common.{◌≡◌, get_or, subst, ℕ}
use Rattle.std.specs.Prelude.{◌↔◌, Option, Some, None}
use Rattle.layout_facts.specs.Footprints.{first_word}
use Rattle.nres_core.specs.declared.value.Value.{Value}
use Rattle.relations.specs.Values.{live}
use Rattle.run_results.specs.Results.{HoldsBlock, IsBlock, Shows}
use Rattle.run_results.proofs.Values.{first_is, in_block, none_shown}
use Rattle.target_meaning.specs.States.{state_of}
use Rattle.state_values.proofs.Shown.{in_each, live_held, none_live}
use Rattle.state_values.proofs.showing.value_in_block.Goals as goal

pub returns-in-None : goal.returns-in-None
returns-in-None c = λ procs x.
    let h = (state_of procs c.args.state.now).heap in
    let regs = c.args.regs.now in
    let here : IsBlock (live h) (get_or regs 0 0) None = none_live h (get_or regs 0 0) (c.in-None.ensures procs) in
    none_shown (live h) c.args.rep regs c.requires.container (subst (λ (b : ℕ). IsBlock (live h) b None) (first_is regs) here) x

pub returns-in-Some : goal.returns-in-Some
returns-in-Some c =
    let regs = c.args.regs.now in
    let words = c.in-Some.words.now in
    in_each (λ procs (o : Option Value). (x : Value) → (o ≡ Some x) ↔ Shows (live (state_of procs c.args.state.now).heap) c.args.rep regs x) c.decode.result
    (λ procs.
    let h = (state_of procs c.args.state.now).heap in
    let here : HoldsBlock (live h) (get_or regs 0 0) words = live_held h (get_or regs 0 0) words (c.in-Some.ensures procs) in
    let named : HoldsBlock (live h) (first_word regs) words = subst (λ (b : ℕ). HoldsBlock (live h) b words) (first_is regs) here in
    in_block (live h) c.args.rep regs words c.decode.result c.requires.container named c.decode.ensures)
