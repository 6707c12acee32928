use Rattle.std.proofs.lemmas.Option.{slice_get-get_or}
use Rattle.std.proofs.Common.{◌≡◌, ◌++◌, map, take, subst, refl}
use Rattle.std.specs.Prelude.{slice_index_or, None}
use Rattle.std.specs.Option.{option_copied}
use Rattle.target_meaning.specs.Turns.{part_of}
use Rattle.target_meaning.specs.declared.frame.Part.{Part}
use Rattle.branch_exec.specs.Stores.{IsTakable}
use Rattle.store_parts.specs.Tests.{piece_after}
use Rattle.store_parts.proofs.Steps.{fails_here}
use Rattle.store_parts.proofs.first.refused_in.Goals as goal

pub returns-then-not-is_takable : goal.returns-then-not-is_takable
returns-then-not-is_takable g c =
    let list = c.args.list.now in
    let i = c.loop-index.index in
    let zero_part : Part = record { block = 0; span = None } in
    let x : Part = slice_index_or list i zero_part in
    let q = piece_after (option_copied c.args.left) (g.H.Holding.piece c.args.holding.now) in
    fails_here (map part_of c.args.earlier.now) c.args.all c.args.lent.now list q i x (slice_get-get_or list i zero_part c.loop-index-test.true) x.block c.offset_of.result c.loop-index.invariant
    (subst (λ w. IsTakable (map part_of c.args.earlier.now ++ map part_of (take i list)) (record { part = part_of x; all = w }) q → ⊥) c.takes_all-whole.ensures c.if-not-is_takable.ensures)
    refl c.offset_of.ensures
