use Rattle.std.proofs.Common.{◌≡◌, ◌≤◌, ◌<◌, ◌+◌, ◌^◌, ℕ, get_or, sym, ◌∙◌, arith}
use Rattle.share_table.specs.Amounts.{Short, amount}
use Rattle.share_table.proofs.Sums.{none, short_at}
use Rattle.share_table.proofs.Parted.{more_same, one_same, other_block}
use Rattle.share_table.proofs.borders.next_border.Goals.{then-entry-block, else-entry-block}
use Rattle.share_table.proofs.borders.next_border.Goals as goal

pub overflow_add-entry : goal.overflow_add-entry
overflow_add-entry c = let h = short_at c.args.entries.now c.loop-entry.entry-index c.loop-entry-test.true c.requires.short in omega arith

pub loop-entry-preserved : goal.loop-entry-preserved
loop-entry-preserved c =
    let es = c.args.entries.now in
    let i = c.loop-entry.entry-index in
    let e = get_or es i none in
    let p = c.args.place in
    let b = c.args.block in
    let v = c.loop-entry.invariant in
    let m = c.if-entry-block.next in
    let order = c.requires.order in
    let v0 = v.0 in
    let v1 = v.1 in
    elim c.if-entry-block.branch [
      | then-entry-block w ↦
          let n1 = w.nearer-next.ensures.behind in
          let n2 = w.nearer-next.ensures.most in
          let m1 = w.nearer-next-then-entry-block.ensures.behind in
          let m2 = w.nearer-next-then-entry-block.ensures.most in
          let is = w.next-is in (
            omega arith,
            omega arith,
            λ o j x y. more_same es i b p c.loop-entry.next m o j c.loop-entry-test.true x y (omega arith) v.2
                (one_same e b p m o j x y (λ h. let k = w.nearer-next.ensures.near h in omega arith) (λ h. let k = w.nearer-next-then-entry-block.ensures.near h in omega arith)),
          )
      | else-entry-block w ↦
          let is = w.next-is in (
            omega arith,
            omega arith,
            λ o j x y. more_same es i b p c.loop-entry.next m o j c.loop-entry-test.true x y (omega arith) v.2
                (other_block e b o j w.if-entry-block.false ∙ sym (other_block e b o p w.if-entry-block.false)),
          )
    ]
