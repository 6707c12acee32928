use Rattle.std.proofs.Common.{get_or, sym, subst, Option, Some, None, List, ℕ}
use Rattle.run_results.specs.Results.{HoldsBlock, IsBlock}
use Rattle.layout_facts.specs.Footprints.{first_word}
use Rattle.run_results.proofs.Values.{first_is, in_block, none_shown}
use Rattle.run_results.proofs.showing.value_in_block.Goals as goal

pub returns-in-None : goal.returns-in-None
returns-in-None g c =
    let p = (g.S.Store.kept c.args.store.now).top in
    let regs = c.args.regs.now in
    let here : IsBlock p (get_or regs 0 0) None = subst (λ (o : Option (List ℕ)). IsBlock p (get_or regs 0 0) o) c.in-None.is c.in_ok-held_words.ensures in
    none_shown p c.args.rep regs c.requires.container (subst (λ (b : ℕ). IsBlock p b None) (first_is regs) here)

pub returns-in-Some : goal.returns-in-Some
returns-in-Some g c =
    let p = (g.S.Store.kept c.args.store.now).top in
    let regs = c.args.regs.now in
    let here : HoldsBlock p (get_or regs 0 0) c.in-Some.words = subst (λ (o : Option (List ℕ)). IsBlock p (get_or regs 0 0) o) c.in-Some.is c.in_ok-held_words.ensures in
    let named : HoldsBlock p (first_word regs) c.in-Some.words = subst (λ (b : ℕ). HoldsBlock p b c.in-Some.words) (first_is regs) here in
    in_block p c.args.rep regs c.as_slice.result.now c.decode.result c.requires.container
    (subst (λ (ws : List ℕ). HoldsBlock p (first_word regs) ws) (sym c.as_slice.ensures) named) c.decode.ensures
