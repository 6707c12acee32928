use Rattle.std.proofs.lemmas.Grind.{common_steps}
use Rattle.std.proofs.Common.{◌-◌, [], ap, refl, sym, ◌∙◌, subst, ◌<◌, ◌+◌, arith}
use Rattle.std.specs.Vec.{vec_len, vec_capacity}
use Rattle.plain_store.specs.Cells.{blocks_of}
use Rattle.run_stores.specs.Rows.{IsInRow}
use Rattle.plain_store.specs.Levels.{IsSound, levels}
use Rattle.plain_store.proofs.Ended.{may_begin, begun, begun_sound, all_pushed}
use Rattle.plain_store.proofs.ends.begin_fork.Goals as goal

pub overflow_add-stamp : goal.overflow_add-stamp
overflow_add-stamp c =
    let s = c.args.store.now in
    let m = (may_begin s.cells.items s.forks.items c.pop.new.self.items c.in-Some.fork s.border s.last c.in-Some.ensures.items s.sound c.requires).1 in
    omega (arith, m)

pub returns-after-push : goal.returns-after-push
returns-after-push c k p ls is =
    let s = c.args.store.now in
    let x : vec_len c.pop.new.self < vec_capacity c.pop.new.self = grind (arith, common_steps, c.in-Some.ensures.capacity, c.in-Some.ensures.len) in
    let all = all_pushed c.push.result c.pop.new.self.items c.push.new.self.items c.begin_in-fork.result (c.push.ensures.succeeds x) c.push.ensures.items in
    let m = may_begin s.cells.items s.forks.items c.pop.new.self.items c.in-Some.fork s.border s.last c.in-Some.ensures.items s.sound c.requires in
    let f = c.begin_in-fork.ensures.fork in
    let b = begun s.cells.items c.begin_in-fork.new.cells.items s.forks.items c.pop.new.self.items c.in-Some.fork c.begin_in-fork.result s.border s.last (s.last + 1) k p ls c.in-Some.ensures.items s.sound refl (m.0, f.0, f.1, f.2) c.begin_in-fork.ensures.swapped is in
    record {
      below = ap (λ l. levels c.begin_in-fork.new.cells.items l []) all ∙ b.0;
      top = b.1;
      drawn = refl;
      walked = ap (λ n. n - 1) c.begin_in-fork.ensures.swapped.len;
      cap = refl;
      place = refl;
      weight = refl;
    }

pub invariant_of-store : goal.invariant_of-store
invariant_of-store c =
    let s = c.args.store.now in
    let x : vec_len c.pop.new.self < vec_capacity c.pop.new.self = grind (arith, common_steps, c.in-Some.ensures.capacity, c.in-Some.ensures.len) in
    let all = all_pushed c.push.result c.pop.new.self.items c.push.new.self.items c.begin_in-fork.result (c.push.ensures.succeeds x) c.push.ensures.items in
    let m = may_begin s.cells.items s.forks.items c.pop.new.self.items c.in-Some.fork s.border s.last c.in-Some.ensures.items s.sound c.requires in
    let f = c.begin_in-fork.ensures.fork in
    let len = c.begin_in-fork.ensures.swapped.len in
    let some = s.some in let fits = s.fits in
    record {
      some = omega arith;
      laid = subst (λ n. IsInRow 1 (blocks_of s.drawn.items) (n - 1)) (sym len) s.laid;
      fits = omega arith;
      sound = subst (λ l. IsSound c.begin_in-fork.new.cells.items l (s.last + 1) (s.last + 1)) (sym all)
          (begun_sound s.cells.items c.begin_in-fork.new.cells.items s.forks.items c.pop.new.self.items c.in-Some.fork c.begin_in-fork.result s.border s.last (s.last + 1) c.in-Some.ensures.items s.sound refl (m.0, f.0, f.1, f.2) c.begin_in-fork.ensures.swapped);
    }
