use Rattle.std.proofs.Common.{◌+◌, ◌-◌, [], suc, length, arith, ap, sym, subst}
use Rattle.run_stores.specs.Rows.{IsInRow}
use Rattle.target_meaning.specs.Held.{stored}
use Rattle.plain_store.specs.Cells.{blocks_of, top_of}
use Rattle.plain_store.specs.Levels.{levels}
use Rattle.plain_store.proofs.Owned.{kept_as, put_levels, put_sound}
use Rattle.plain_store.proofs.store.PlainStoreStore.write.Goals as goal

pub invariant_of-self : goal.invariant_of-self
invariant_of-self c =
    let s = c.args.self.now in
    let p = c.put_in.ensures.kept in
    let len = p.len in let some = s.some in let fits = s.fits in
    record {
      some = omega (arith, len, some);
      laid = subst (λ n. IsInRow 1 (blocks_of s.drawn.items) (n - 1)) (sym len) s.laid;
      fits = omega (arith, len, fits);
      sound = put_sound s.cells.items c.put_in.new.cells.items s.forks.items s.border s.last (c.args.block + suc c.args.index) c.args.value s.sound p;
    }

pub returns-then-is_all-clause-after : goal.returns-then-is_all-clause-after
returns-then-is_all-clause-after c =
    let s = c.args.self.now in
    let old = s.cells.items in let new = c.put_in.new.cells.items in
    let p = c.put_in.ensures.kept in
    kept_as (levels new s.forks.items []) (levels old s.forks.items []) (top_of new s.border) (stored (top_of old s.border) c.args.block c.args.index c.args.value) (length new - 1) (length old - 1) (blocks_of s.drawn.items) s.cap
    (put_levels old new s.forks.items s.border s.last (c.args.block + suc c.args.index) c.args.value s.sound p) c.put_in.ensures.piece (ap (λ n. n - 1) p.len)
