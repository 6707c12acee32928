-- The check of `par` and `split` by their branches.
use Rattle.std.specs.Prelude.{◌≡◌, ℕ, List, [], Some, None, codes}
use Rattle.nres_core.specs.FlatTree as t
use Rattle.nres_core.specs.FlatTree.{Binds, Flats}
use Rattle.nres_core.specs.declared.flat.Arg.{Arg}
use Rattle.nres_core.specs.declared.place.Place.{Place}
use Rattle.rule_check.specs.Check.{check}
use Rattle.rule_check.specs.Context.{Ctx, shape_of, spot_at}
use Rattle.rule_check.specs.Steps.{Book, on_ok, par_sure, refused, split_sure}
use Rattle.rule_forks.specs.Forks.{uses_of, uses_beside, par_left, par_right, split_left, split_right, part_spots, branch_ends, fork_ctx}

-- what is refused before, the left block, the right block, and what follows from what both leave
abbrev pub ParSteps : Type 0
ParSteps = (book : Book) (p : Place) (to : List ℕ) (l r : Flats) (rest : Binds) (x : Ctx) → let us = uses_of l in let vs = uses_of r in let ql = par_left us vs in let qr = par_right us vs in
    check book (t.Par p to l.binds l.ending r.binds r.ending rest) x
    ≡ on_ok (par_sure book x.spots us vs (refused p (codes "par") [])) (λ ss.
    on_ok (branch_ends book x (part_spots ss ql) ql.slice l) (λ m1.
    on_ok (branch_ends book x (part_spots ss qr) qr.slice r) (λ m2.
    check book rest (fork_ctx x to ss None ql qr m1 m2))))

abbrev pub SplitSteps : Type 0
SplitSteps = (book : Book) (p : Place) (to : List ℕ) (list : ℕ) (at : Arg) (i j : ℕ) (l r : Flats) (rest : Binds) (x : Ctx)
    → let us = uses_beside list l in let vs = uses_beside list r in let ql = split_left list us vs i in let qr = split_right list us vs j in
    check book (t.Split p to list at i l.binds l.ending j r.binds r.ending rest) x
    ≡ on_ok (split_sure book x.spots p list us vs) (λ ss.
    on_ok (branch_ends book x (part_spots ss ql) ql.slice l) (λ m1.
    on_ok (branch_ends book x (part_spots ss qr) qr.slice r) (λ m2.
    check book rest (fork_ctx x to ss (Some (shape_of (spot_at x.spots list))) ql qr m1 m2))))
