use Rattle.std.proofs.Common.{◌≡◌, ℕ, ◌+◌, ◌≢◌, ◌<◌, suc, length, slice_index_or, arith, sym, ◌∙◌, subst, take}
use Rattle.std.proofs.lemmas.Option.{slice_get-get_or}
use Rattle.std.specs.Prelude.{slice_set}
use Rattle.std.proofs.lemmas.List.{length-set, take_more_set}
use Rattle.plain_store.specs.Swaps.{AreCut, first_kept, first_other}
use Rattle.plain_store.specs.declared.forks.Lent.{Lent}
use Rattle.plain_store.proofs.Gets.{set_other}
use Rattle.plain_store.proofs.CutSteps.{cut_ready, cut_step}
use Rattle.plain_store.proofs.forks.cut.Goals as goal

abbrev none : Lent
none = record { at = 0; kept = 0; other = 0 }

pub cut_one-requires : goal.cut_one-requires
cut_one-requires c =
    let k : ℕ = c.loop-index.index in
    let lent = c.loop-index.lent in
    let i = c.loop-index.invariant in
    let lt = c.loop-index-test.true in
    let len = i.2 in
    let fits : k < length lent = grind (arith, lt, len) in
    let e = slice_index_or lent k none in
    let at = sym (i.1 k (omega arith)) ∙ slice_get-get_or lent k none fits in
    cut_ready c.args.cells.now c.loop-index.cells c.args.lent.now (take k lent) c.args.stamp k e at c.requires.within c.requires.agree i.0

pub loop-index-preserved : goal.loop-index-preserved
loop-index-preserved c =
    let k : ℕ = c.loop-index.index in
    let lent = c.loop-index.lent in
    let i = c.loop-index.invariant in
    let lt = c.loop-index-test.true in
    let len = i.2 in
    let fits : k < length lent = grind (arith, lt, len) in
    let e = slice_index_or lent k none in
    let at = sym (i.1 k (omega arith)) ∙ slice_get-get_or lent k none fits in
    let r = cut_ready c.args.cells.now c.loop-index.cells c.args.lent.now (take k lent) c.args.stamp k e at c.requires.within c.requires.agree i.0 in
    let q : k + 1 ≡ suc k = omega arith in (
      subst (λ n. AreCut c.args.cells.now c.cut_one.new.cells (take n c.args.lent.now) (take (k + 1) (slice_set lent k c.cut_one.result)) (first_kept c.args.lent.now) (first_other c.args.lent.now) c.args.stamp) (sym q)
          (subst (λ ys. AreCut c.args.cells.now c.cut_one.new.cells (take (suc k) c.args.lent.now) ys (first_kept c.args.lent.now) (first_other c.args.lent.now) c.args.stamp) (sym (take_more_set lent k c.cut_one.result fits))
          (cut_step c.args.cells.now c.loop-index.cells c.cut_one.new.cells c.args.lent.now (take k lent) c.args.stamp k e c.cut_one.result at c.requires.within c.requires.agree c.requires.fresh c.cut_one.ensures.again c.cut_one.ensures.first i.0)),
      (λ n le. set_other lent k n c.cut_one.result (let z : n ≢ k = omega arith in z) ∙ i.1 n (omega arith)),
      length-set lent k c.cut_one.result ∙ len,
    )
