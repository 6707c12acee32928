-- From the law of a row to what the proof about fitting programs wants of it: arguments, pieces, results, steps.
use Rattle.std.specs.Prelude.{◌≡◌, ℕ, nat_eq, Bool, true, false, cond, List, [], ◌∷◌}
use Rattle.std.proofs.Common.{refl, sym, ap, ◌∙◌, subst}
use Rattle.std.proofs.lemmas.Bool.{and_parts, eqb-true}
use Rattle.nres_core.specs.declared.row.Fate.{Fate}
use Rattle.nres_core.specs.declared.row.Fate.TheVariants as f
use Rattle.nres_core.specs.declared.row.Kind.{Kind}
use Rattle.nres_core.specs.declared.row.Kind.TheVariants as k
use Rattle.target_code.specs.declared.tree.Rep.{Rep}
use Rattle.target_code.specs.declared.tree.Rep.TheVariants as r
use Rattle.target_meaning.specs.Piece.{Piece, none, plus}
use Rattle.target_meaning.proofs.Shares.{plus-none, plus-comm}
use Rattle.relations.specs.Represents.{Represents}
use Rattle.row_laws.specs.Rows.{Thing, AreTaken, AreGiven, destroyed, kept, if_destroyed, if_kept}
use Rattle.rule_check.specs.Context.{Shape, bound_in}
use Rattle.rule_check.specs.Steps.{is_destroyed, row_shapes}
use Rattle.rule_check.specs.Table.{Take, rep_of, kind_of, kind_number, same_kind, takes_these, bounds_are, bound_is}
use Rattle.rule_table.specs.Sound.{takes_at, gives_at}
use Rattle.start_ends.specs.Things.{Wholes}
use Rattle.fits.specs.Follow.{fates}
use Rattle.fits_sound.specs.Meant.{All_rel, Destroyed_whole, some_pieces, Tagged}
use Rattle.fits_sound.specs.RowShapes.{shape_reps}

-- a kind by its number
abbrev kind_at : ℕ → Kind
kind_at n = cond (nat_eq n 0) k.Word (cond (nat_eq n 1) k.Flag (cond (nat_eq n 2) k.Array (cond (nat_eq n 3) k.Slice (cond (nat_eq n 4) k.Vec (cond (nat_eq n 5) k.Bits (cond (nat_eq n 6) k.Hset (cond (nat_eq n 7) k.Amap (cond (nat_eq n 8) k.Hmap k.Heap))))))))

by_number : (x : Kind) → kind_at (kind_number x) ≡ x
by_number k.Word = refl
by_number k.Flag = refl
by_number k.Array = refl
by_number k.Slice = refl
by_number k.Vec = refl
by_number k.Bits = refl
by_number k.Hset = refl
by_number k.Amap = refl
by_number k.Hmap = refl
by_number k.Heap = refl

pub one_kind : (x y : Kind) → same_kind x y ≡ true → x ≡ y
one_kind x y e = sym (by_number x) ∙ ap kind_at (eqb-true (kind_number x) (kind_number y) e) ∙ by_number y

-- a representation is that of its kind, with its bound
rep_at : (u : ℕ) (x : Rep) → bound_is u (bound_in x) ≡ true → rep_of (kind_of x) u ≡ x
rep_at u r.Word e = refl
rep_at u r.Flag e = refl
rep_at u r.Array e = refl
rep_at u r.Slice e = refl
rep_at u r.Vec e = refl
rep_at u (r.Bits v) e = ap r.Bits (eqb-true u v e)
rep_at u r.Hset e = refl
rep_at u (r.Amap v) e = ap r.Amap (eqb-true u v e)
rep_at u r.Hmap e = refl
rep_at u r.Heap e = refl

pub taken_rep : (u : ℕ) (x : Kind) (y : Rep) → same_kind x (kind_of y) ≡ true → bound_is u (bound_in y) ≡ true → y ≡ rep_of x u
taken_rep u x y same b = sym (rep_at u y b) ∙ ap (λ z. rep_of z u) (sym (one_kind x (kind_of y) same))

-- ---- arguments

pub taken : (u : ℕ) (ts : List Take) (zs : List Shape) (things : List Thing) → takes_these ts (shape_reps zs) ≡ true → bounds_are u (shape_reps zs) ≡ true
    → All_rel zs things → Destroyed_whole (fates ts) things → AreTaken (takes_at u ts) things
taken u [] [] [] e b rel w = tt
taken u [] [] (x ∷ xs) e b rel w = absurd rel
taken u [] (z ∷ zs) things e b rel w = absurd (cc e)
taken u (t ∷ ts) [] things e b rel w = absurd (cc e)
taken u (t ∷ ts) (z ∷ zs) [] e b rel w = absurd rel
taken u (t ∷ ts) (z ∷ zs) (x ∷ xs) e b rel w =
    let es = and_parts (same_kind t.kind (kind_of z.rep)) (takes_these ts (shape_reps zs)) e in
    let bs = and_parts (bound_is u (bound_in z.rep)) (bounds_are u (shape_reps zs)) b in
    by t.fate (subst (λ y. Represents y x.value x.words x.piece) (taken_rep u t.kind z.rep es.0 bs.0) rel.0) (taken u ts zs xs es.1 bs.1 rel.1) w
  where
    by : (a : Fate) → Represents (rep_of t.kind u) x.value x.words x.piece → (Destroyed_whole (fates ts) xs → AreTaken (takes_at u ts) xs)
        → Destroyed_whole (is_destroyed a ∷ fates ts) (x ∷ xs) → AreTaken ((a, rep_of t.kind u) ∷ takes_at u ts) (x ∷ xs)
    by f.Kept one more w = (one, tt, more w)
    by f.Destroyed one more w = (one, w.0, more w.1)

-- ---- pieces

none-plus : (p : Piece) → plus none p ≡ p
none-plus p = plus-comm none p ∙ plus-none p

pub given_up : (u : ℕ) (ts : List Take) (xs : List Thing) → destroyed (takes_at u ts) xs ≡ some_pieces true (fates ts) xs
given_up u [] xs = refl
given_up u (t ∷ ts) [] = by t.fate
  where
    by : (a : Fate) → none ≡ some_pieces true (is_destroyed a ∷ fates ts) []
    by f.Kept = refl
    by f.Destroyed = refl
given_up u (t ∷ ts) (x ∷ xs) = by t.fate (given_up u ts xs)
  where
    by : (a : Fate) → destroyed (takes_at u ts) xs ≡ some_pieces true (fates ts) xs → plus (if_destroyed a x.piece) (destroyed (takes_at u ts) xs) ≡ some_pieces true (is_destroyed a ∷ fates ts) (x ∷ xs)
    by f.Kept e = none-plus (destroyed (takes_at u ts) xs) ∙ e
    by f.Destroyed e = ap (plus x.piece) e

pub left_over : (u : ℕ) (ts : List Take) (xs : List Thing) → kept (takes_at u ts) xs ≡ some_pieces false (fates ts) xs
left_over u [] xs = refl
left_over u (t ∷ ts) [] = by t.fate
  where
    by : (a : Fate) → none ≡ some_pieces false (is_destroyed a ∷ fates ts) []
    by f.Kept = refl
    by f.Destroyed = refl
left_over u (t ∷ ts) (x ∷ xs) = by t.fate (left_over u ts xs)
  where
    by : (a : Fate) → kept (takes_at u ts) xs ≡ some_pieces false (fates ts) xs → plus (if_kept a x.piece) (kept (takes_at u ts) xs) ≡ some_pieces false (is_destroyed a ∷ fates ts) (x ∷ xs)
    by f.Kept e = ap (plus x.piece) e
    by f.Destroyed e = none-plus (kept (takes_at u ts) xs) ∙ e

-- ---- results

pub results_rel : (u g : ℕ) (gs : List Kind) (outs : List Thing) → AreGiven (gives_at u gs) outs → All_rel (row_shapes u g gs) outs
results_rel u g [] [] h = tt
results_rel u g [] (x ∷ xs) h = absurd h
results_rel u g (y ∷ ys) [] h = absurd h
results_rel u g (y ∷ ys) (x ∷ xs) h = (h.0, results_rel u g ys xs h.2)

pub results_whole : (u : ℕ) (gs : List Kind) (outs : List Thing) → AreGiven (gives_at u gs) outs → Wholes outs
results_whole u [] [] h = tt
results_whole u [] (x ∷ xs) h = absurd h
results_whole u (y ∷ ys) [] h = absurd h
results_whole u (y ∷ ys) (x ∷ xs) h = (h.1, results_whole u ys xs h.2)

-- none of these is a slice
abbrev pub no_slice : List Kind → Bool
no_slice [] = true
no_slice (k.Slice ∷ gs) = false
no_slice (g ∷ gs) = no_slice gs

-- results that are no slices need no tags
pub no_tags : (W : ℕ → ℕ → ℕ) (u g : ℕ) (gs : List Kind) (outs : List Thing) → no_slice gs ≡ true → Tagged W (row_shapes u g gs) outs
no_tags W u g [] outs e = tt
no_tags W u g (y ∷ ys) [] e = tt
no_tags W u g (y ∷ ys) (x ∷ xs) e = by y e (no_tags W u g ys xs)
  where
    by : (a : Kind) → no_slice (a ∷ ys) ≡ true → (no_slice ys ≡ true → Tagged W (row_shapes u g ys) xs) → Tagged W (row_shapes u g (a ∷ ys)) (x ∷ xs)
    by k.Word e more = ((λ s. absurd (cc s)), more e)
    by k.Flag e more = ((λ s. absurd (cc s)), more e)
    by k.Array e more = ((λ s. absurd (cc s)), more e)
    by k.Slice e more = absurd (cc e)
    by k.Vec e more = ((λ s. absurd (cc s)), more e)
    by k.Bits e more = ((λ s. absurd (cc s)), more e)
    by k.Hset e more = ((λ s. absurd (cc s)), more e)
    by k.Amap e more = ((λ s. absurd (cc s)), more e)
    by k.Hmap e more = ((λ s. absurd (cc s)), more e)
    by k.Heap e more = ((λ s. absurd (cc s)), more e)
