use Rattle.std.proofs.Common.{◌-◌, ap, refl, sym, subst, arith}
use Rattle.plain_store.specs.Cells.{blocks_of}
use Rattle.run_stores.specs.Rows.{IsInRow}
use Rattle.plain_store.proofs.Ended.{ended, ended_sound}
use Rattle.plain_store.proofs.ends.end_fork.Goals as goal

pub invariant_of-store : goal.invariant_of-store
invariant_of-store c =
    let s = c.args.store.now in
    let len = c.give_back.ensures.len in
    let some = s.some in let fits = s.fits in
    record {
      some = omega arith;
      laid = subst (λ n. IsInRow 1 (blocks_of s.drawn.items) (n - 1)) (sym len) s.laid;
      fits = omega arith;
      sound = ended_sound s.cells.items c.give_back.new.cells.items s.forks.items c.pop.new.self.items c.in-Some.fork s.border s.last c.in-Some.ensures.items s.sound c.give_back.ensures;
    }

pub returns-in-Some : goal.returns-in-Some
returns-in-Some c l ls is =
    let s = c.args.store.now in
    let e = ended s.cells.items c.give_back.new.cells.items s.forks.items c.pop.new.self.items c.in-Some.fork s.border s.last l ls c.in-Some.ensures.items s.sound c.give_back.ensures is in
    record { below = e.0; top = e.1; drawn = refl; walked = ap (λ n. n - 1) c.give_back.ensures.len; cap = refl; place = refl; weight = refl }
