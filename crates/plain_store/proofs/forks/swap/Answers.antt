use Rattle.std.proofs.Common.{◌≡◌, ℕ, ◌+◌, ◌≢◌, ◌++◌, ◌∷◌, [], ◌<◌, suc, length, slice_index_or, arith, sym, ap, ◌∙◌, subst, take}
use Rattle.std.proofs.lemmas.Option.{slice_get-get_or}
use Rattle.std.specs.Prelude.{slice_set}
use Rattle.std.proofs.lemmas.List.{length-set, take_more_set}
use Rattle.plain_store.specs.Swaps.{AreSwapped}
use Rattle.plain_store.specs.declared.forks.Lent.{Lent}
use Rattle.plain_store.proofs.Gets.{set_other}
use Rattle.plain_store.proofs.SwapSteps.{swap_ready, swap_step}
use Rattle.plain_store.proofs.forks.swap.Goals as goal

abbrev none : Lent
none = record { at = 0; kept = 0; other = 0 }

pub swap_one-requires : goal.swap_one-requires
swap_one-requires c =
    let k : ℕ = c.loop-index.index in
    let lent = c.loop-index.lent in
    let i = c.loop-index.invariant in
    let lt = c.loop-index-test.true in
    let len = i.2 in
    let fits : k < length lent = grind (arith, lt, len) in
    let e = slice_index_or lent k none in
    let at = sym (i.1 k (omega arith)) ∙ slice_get-get_or lent k none fits in
    swap_ready c.args.cells.now c.loop-index.cells c.args.lent.now (take k lent) c.args.stamp k e at c.requires.within c.requires.most i.0

pub loop-index-preserved : goal.loop-index-preserved
loop-index-preserved c =
    let k : ℕ = c.loop-index.index in
    let lent = c.loop-index.lent in
    let i = c.loop-index.invariant in
    let lt = c.loop-index-test.true in
    let len = i.2 in
    let fits : k < length lent = grind (arith, lt, len) in
    let e = slice_index_or lent k none in
    let at = sym (i.1 k (omega arith)) ∙ slice_get-get_or lent k none fits in
    let r = swap_ready c.args.cells.now c.loop-index.cells c.args.lent.now (take k lent) c.args.stamp k e at c.requires.within c.requires.most i.0 in
    let s = c.swap_one.ensures r.0 r.1 in
    let q : k + 1 ≡ suc k = omega arith in (
      subst (λ n. AreSwapped c.args.cells.now c.swap_one.new.cells (take n c.args.lent.now) (take (k + 1) (slice_set lent k c.swap_one.result)) c.args.stamp) (sym q)
          (swap_step c.args.cells.now c.loop-index.cells c.swap_one.new.cells c.args.lent.now (take k lent) (take (k + 1) (slice_set lent k c.swap_one.result)) c.args.stamp k e r.0 at r.1 s.1
          (take_more_set lent k c.swap_one.result fits ∙ ap (λ x. take k lent ++ x ∷ []) s.0) c.requires.fresh i.0),
      (λ n le. set_other lent k n c.swap_one.result (let z : n ≢ k = omega arith in z) ∙ i.1 n (omega arith)),
      length-set lent k c.swap_one.result ∙ len,
    )
