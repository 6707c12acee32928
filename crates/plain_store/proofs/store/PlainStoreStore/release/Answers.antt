use Rattle.std.proofs.Common.{◌-◌, [], length, arith, ap, sym, subst}
use Rattle.run_stores.specs.Rows.{IsInRow}
use Rattle.target_meaning.specs.Held.{without}
use Rattle.plain_store.specs.Cells.{blocks_of, top_of}
use Rattle.plain_store.specs.Levels.{levels}
use Rattle.plain_store.proofs.Owned.{clear_levels, clear_sound, kept_as}
use Rattle.plain_store.proofs.store.PlainStoreStore.release.Goals as goal

pub invariant_of-self : goal.invariant_of-self
invariant_of-self c =
    let s = c.args.self.now in
    let p = c.give_up_in.ensures.kept in
    let len = p.len in let some = s.some in let fits = s.fits in
    record {
      some = omega (arith, len, some);
      laid = subst (λ n. IsInRow 1 (blocks_of s.drawn.items) (n - 1)) (sym len) s.laid;
      fits = omega (arith, len, fits);
      sound = clear_sound s.cells.items c.give_up_in.new.cells.items s.forks.items s.border s.last c.args.block c.find-name.result.value s.sound p;
    }

pub returns-then-words_held-clause-after : goal.returns-then-words_held-clause-after
returns-then-words_held-clause-after c =
    let s = c.args.self.now in
    let old = s.cells.items in let new = c.give_up_in.new.cells.items in
    let p = c.give_up_in.ensures.kept in
    kept_as (levels new s.forks.items []) (levels old s.forks.items []) (top_of new s.border) (without (top_of old s.border) c.args.block) (length new - 1) (length old - 1) (blocks_of s.drawn.items) s.cap
    (clear_levels old new s.forks.items s.border s.last c.args.block c.find-name.result.value s.sound p) c.give_up_in.ensures.piece (ap (λ n. n - 1) p.len)
