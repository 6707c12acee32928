use Rattle.std.proofs.Common.{ℕ, Bool, nat_le, eqb, not, ◌&&◌, ◌||◌, ◌≡◌, ◌≤◌, ◌<◌, ◌+◌, ◌∙◌, sym, ap, arith, refl, subst}
use Rattle.relations.specs.Represents.{state, key}
use Rattle.image_laws.specs.Held as held
use Rattle.decoding.proofs.Loops.{next_slot, run_next, run_less}
use Rattle.decoding.proofs.tables.are_slots.Goals as goal

pub loop-slot-preserved : goal.loop-slot-preserved
loop-slot-preserved c =
    let inv = c.loop-slot.invariant in
    let i = c.loop-slot.slot in
    let ws = c.args.words.now in
    let near : ℕ → Bool = λ r. nat_le (state c.args.width ws i) 2 && (not (eqb (state c.args.width ws i) 1) || nat_le (held.behind c.args.slots i (key c.args.width ws i)) r) in (
      c.next_run-run.ensures ∙ run_next c.args.width c.args.slots c.args.words.now c.loop-slot.slot _ _ c.loop-slot-test.true refl inv.0,
      subst (λ n. n ≤ c.args.slots + (c.loop-slot.slot + 1)) (sym c.next_run-run.ensures) (run_less _ _ c.args.slots c.loop-slot.slot inv.1),
      c.still-fits.ensures ∙ next_slot (held.is_slot c.args.width c.args.slots c.args.words.now) c.loop-slot.slot _ _ (c.is_near-near.ensures ∙ ap near inv.0) inv.2,
    )
