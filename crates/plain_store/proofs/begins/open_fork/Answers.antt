use Rattle.std.proofs.lemmas.Grind.{common_steps}
use Rattle.std.proofs.Common.{◌≡◌, ◌+◌, ◌-◌, ◌++◌, ◌∷◌, [], length, arith, ap, sym, subst, refl, ◌∙◌}
use Rattle.run_stores.specs.Rows.{IsInRow}
use Rattle.plain_store.specs.Cells.{blocks_of}
use Rattle.plain_store.specs.Levels.{IsSound, levels}
use Rattle.plain_store.proofs.Narrowed.{opened_levels, opened_sound, top_is, waiting_le}
use Rattle.plain_store.proofs.begins.open_fork.Goals as goal

pub invariant_of-store-2 : goal.invariant_of-store-2
invariant_of-store-2 c =
    let s = c.args.store.now in
    let old = s.cells.items in let new = c.cut_for-fork.new.cells.items in
    let f = c.cut_for-fork.result in
    let all = c.push_reserved.ensures.items ∙ ap (λ l. l ++ f ∷ []) c.reserve.ensures.items in
    let cut = c.cut_for-fork.ensures.cut in let g = c.cut_for-fork.ensures.fork in
    let len = cut.len in let some = s.some in let fits = s.fits in
    let w = waiting_le s.forks.items in
    let n : c.len.result ≡ length s.forks.items = grind (arith, common_steps, c.len.ensures) in
    let room = c.in-Some.ensures in
    record {
      some = omega (arith, len, some);
      laid = subst (λ n. IsInRow 1 (blocks_of s.drawn.items) (n - 1)) (sym len) s.laid;
      fits = omega (arith, len, fits);
      sound = subst (λ l. IsSound new l (s.last + 1) (s.last + 1)) (sym all)
          (opened_sound old new s.forks.items s.border s.last (s.last + 1) c.args.left.now c.args.right.now c.in_ok-lent.lent.items f s.sound (c.in_ok-lent.ensures) cut g.0 g.1 g.2 refl (grind (arith, w, n, room)));
    }

pub returns-clause-ok : goal.returns-clause-ok
returns-clause-ok c =
    let s = c.args.store.now in
    let old = s.cells.items in let new = c.cut_for-fork.new.cells.items in
    let f = c.cut_for-fork.result in
    let all = c.push_reserved.ensures.items ∙ ap (λ l. l ++ f ∷ []) c.reserve.ensures.items in
    let cut = c.cut_for-fork.ensures.cut in let g = c.cut_for-fork.ensures.fork in
    record {
      below = ap (λ l. levels new l []) all ∙ opened_levels old new s.forks.items s.border s.last (s.last + 1) c.args.left.now c.args.right.now c.in_ok-lent.lent.items f s.sound (c.in_ok-lent.ensures) cut g.0 g.1 g.2 refl;
      top = top_is old new s.forks.items s.border s.last (s.last + 1) c.args.left.now c.args.right.now c.in_ok-lent.lent.items f s.sound (c.in_ok-lent.ensures) cut g.0 g.1 g.2 refl;
      drawn = refl;
      walked = ap (λ n. n - 1) cut.len;
      cap = refl;
      place = refl;
      weight = refl;
    }
