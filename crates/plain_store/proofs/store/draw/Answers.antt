use Rattle.std.proofs.Common.{ℕ, ◌-◌, ◌∷◌, ◌++◌, [], length, arith, sym, ap, ◌∙◌, refl}
use Rattle.target_meaning.specs.Held.{with_new}
use Rattle.plain_store.specs.Cells.{blocks_of, top_of}
use Rattle.plain_store.specs.declared.cells.Drawn.{Drawn}
use Rattle.plain_store.proofs.Grown.{drawn_row, grown_piece, pushed}
use Rattle.plain_store.proofs.Owned.{grow_levels, grow_sound}
use Rattle.plain_store.proofs.store.draw.Goals as goal

pub invariant_of-store-2 : goal.invariant_of-store-2
invariant_of-store-2 c =
    let s = c.args.store.now in
    let old = s.cells.items in
    let name : ℕ = c.args.name in let len : ℕ = c.args.len in
    let g = c.grow.ensures.yes c.if-not-grow.false in
    let d : Drawn = record { name = name; len = len } in
    let all = c.push_reserved.ensures.items ∙ ap (λ l. l ++ d ∷ []) c.reserve.ensures.items in
    let some = s.some in let next = c.requires.next in let l = g.len in let fits = c.requires.fits in
    record {
      some = omega (arith, l);
      laid = drawn_row s.drawn.items c.push_reserved.new.self.items 1 (length old - 1) (length c.grow.new.cells.items - 1) d all s.laid (omega (arith, next, some)) (omega (arith, l, some));
      fits = omega (arith, l, next, fits);
      sound = grow_sound old c.grow.new.cells.items s.forks.items s.border s.last len s.sound g;
    }

pub returns-clause-yes : goal.returns-clause-yes
returns-clause-yes c e =
    let s = c.args.store.now in
    let old = s.cells.items in
    let name : ℕ = c.args.name in let len : ℕ = c.args.len in
    let g = c.grow.ensures.yes c.if-not-grow.false in
    let d : Drawn = record { name = name; len = len } in
    let some = s.some in let next = c.requires.next in let l = g.len in
    record {
      new = omega (arith, some, next);
      fits = c.requires.fits;
      reached = omega (arith, l, next);
      same = grow_levels old c.grow.new.cells.items s.forks.items s.border s.last len s.sound g;
      top = grown_piece old c.grow.new.cells.items s.border len g ∙ ap (λ x. with_new (top_of old s.border) x len) (sym next);
      drawn = ap blocks_of (c.push_reserved.ensures.items ∙ ap (λ l. l ++ d ∷ []) c.reserve.ensures.items) ∙ pushed s.drawn.items d;
      cap = refl;
      place = refl;
      weight = refl;
    }
