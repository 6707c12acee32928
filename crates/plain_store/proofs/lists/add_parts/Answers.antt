use Rattle.std.proofs.Common.{◌≡◌, ℕ, ◌+◌, ◌-◌, suc, true, arith, slice_index_or, subst, take}
use Rattle.std.proofs.lemmas.Option.{slice_get-get_or}
use Rattle.std.specs.Prelude.{None}
use Rattle.plain_store.specs.Cuts.{IsInPart, is_in_some}
use Rattle.target_meaning.specs.declared.frame.Part.{Part}
use Rattle.plain_store.proofs.Listed.{lists_then, some_next}
use Rattle.plain_store.proofs.lists.add_parts.Goals as goal

abbrev none : Part
none = record { block = 0; span = None }

pub loop-part-preserved : goal.loop-part-preserved
loop-part-preserved c =
    let parts = c.args.parts.now in let k : ℕ = c.loop-part.part-index in
    let p = slice_index_or parts k none in
    let at = slice_get-get_or parts k none c.loop-part-test.true in
    let q : k + 1 ≡ suc k = omega arith in
    lists_then c.args.store.now.cells.items c.args.store.now.border c.args.left.now c.args.right.now c.args.lent.now.items c.loop-part.lent.items c.add_part.new.lent.items
    (λ i x. is_in_some (take k parts) x.home (i - x.home) ≡ true) (IsInPart p) (λ i x. is_in_some (take (k + 1) parts) x.home (i - x.home) ≡ true)
    c.loop-part.invariant c.in_ok-add_part.ensures
    (λ i x t. some_next parts k p x.home (i - x.home) at (subst (λ m. is_in_some (take m parts) x.home (i - x.home) ≡ true) q t))
