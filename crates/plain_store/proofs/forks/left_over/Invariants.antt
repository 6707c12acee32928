use Rattle.std.proofs.Common.{◌≡◌, ◌≤◌, drop}
use Rattle.plain_store.specs.Cuts.{left_by, takes_where}
use Rattle.plain_store.proofs.forks.left_over.Given as goal

abbrev pub invariant-loop-part : goal.invariant-loop-part
invariant-loop-part l =
    (l.left ≤ l.amount) × (left_by (takes_where l.all l.lent (drop l.part-index l.parts)) l.block l.place l.left
    ≡ left_by (takes_where l.all l.lent l.parts) l.block l.place l.amount)
