-- What the kinds of a row of the table say of the arguments that fit it.
use Rattle.std.specs.Prelude.{◌≡◌, ℕ, suc, Bool, true, false, ◌&&◌, not, cond, List, [], ◌∷◌, length, option_to_list, Option, Some, None}
use Rattle.std.proofs.Common.{refl, sym, ap, ◌∙◌, subst}
use Rattle.std.proofs.lemmas.Bool.{and_parts}
use Rattle.nres_core.specs.declared.row.Kind.{Kind}
use Rattle.nres_core.specs.declared.row.Kind.TheVariants as k
use Rattle.target_code.specs.declared.tree.Rep.{Rep}
use Rattle.target_code.specs.declared.tree.Rep.TheVariants as r
use Rattle.rule_check.specs.Context.{Shape, bound_in, is_container, or_else}
use Rattle.rule_check.specs.Steps.{is_destroyed, op_bound, or_zero}
use Rattle.rule_check.specs.Table.{Take, kind_of, same_kind, takes_these, makes_this, bounds_are, bound_is, bound_of, one_bound, bounds_agree}
use Rattle.row_index.specs.Index.{own_kind}
use Rattle.rule_table.specs.Sound.{bound_first}
use Rattle.fits.specs.Follow.{fates, bound_words}
use Rattle.fits_sound.specs.RowShapes.{shape_reps, kept_count}
use Rattle.rows_fit.proofs.Shapes.{one_kind}

abbrev pub is_bounded : Kind → Bool
is_bounded k.Bits = true
is_bounded k.Amap = true
is_bounded _ = false

abbrev pub is_held : Kind → Bool
is_held k.Word = false
is_held k.Flag = false
is_held _ = true

abbrev pub unbounded : List Take → Bool
unbounded [] = true
unbounded (t ∷ ts) = not (is_bounded t.kind) && unbounded ts

-- only what stands first may have a bound, or, where it has, all have it
abbrev pub leads : Option Kind → List Take → Bool
leads (Some x) ts = unbounded ts
leads None [] = true
leads None (t ∷ ts) = cond (is_bounded t.kind) true (unbounded ts)

abbrev pub kept_kinds : List Take → ℕ
kept_kinds [] = 0
kept_kinds (t ∷ ts) = cond (is_destroyed t.fate) (kept_kinds ts) (cond (is_held t.kind) (suc (kept_kinds ts)) (kept_kinds ts))

-- ---- containers that are kept

held_rep : (x : Rep) → is_container x ≡ is_held (kind_of x)
held_rep r.Word = refl
held_rep r.Flag = refl
held_rep r.Array = refl
held_rep r.Slice = refl
held_rep r.Vec = refl
held_rep (r.Bits v) = refl
held_rep r.Hset = refl
held_rep (r.Amap v) = refl
held_rep r.Hmap = refl
held_rep r.Heap = refl

pub kept_same : (ts : List Take) (zs : List Shape) → takes_these ts (shape_reps zs) ≡ true → kept_count (fates ts) zs ≡ kept_kinds ts
kept_same [] zs e = refl
kept_same (t ∷ ts) [] e = absurd (cc e)
kept_same (t ∷ ts) (z ∷ zs) e =
    let es = and_parts (same_kind t.kind (kind_of z.rep)) (takes_these ts (shape_reps zs)) e in
    by (is_destroyed t.fate) (held_rep z.rep ∙ ap is_held (sym (one_kind t.kind (kind_of z.rep) es.0))) (kept_same ts zs es.1)
  where
    by : (d : Bool) → is_container z.rep ≡ is_held t.kind → kept_count (fates ts) zs ≡ kept_kinds ts → kept_count (d ∷ fates ts) (z ∷ zs) ≡ cond d (kept_kinds ts) (cond (is_held t.kind) (suc (kept_kinds ts)) (kept_kinds ts))
    by true c more = more
    by false c more = ap (λ y. cond (is_container z.rep) (suc y) y) more ∙ ap (λ y. cond y (suc (kept_kinds ts)) (kept_kinds ts)) c

pub as_many : (ts : List Take) (zs : List Shape) → takes_these ts (shape_reps zs) ≡ true → length zs ≡ length ts
as_many [] [] e = refl
as_many [] (z ∷ zs) e = absurd (cc e)
as_many (t ∷ ts) [] e = absurd (cc e)
as_many (t ∷ ts) (z ∷ zs) e = ap suc (as_many ts zs (and_parts (same_kind t.kind (kind_of z.rep)) (takes_these ts (shape_reps zs)) e).1)

-- ---- bounds

no_bound : (x : Rep) → not (is_bounded (kind_of x)) ≡ true → bound_in x ≡ None
no_bound r.Word e = refl
no_bound r.Flag e = refl
no_bound r.Array e = refl
no_bound r.Slice e = refl
no_bound r.Vec e = refl
no_bound (r.Bits v) e = absurd (cc e)
no_bound r.Hset e = refl
no_bound (r.Amap v) e = absurd (cc e)
no_bound r.Hmap e = refl
no_bound r.Heap e = refl

none_bound : (ts : List Take) (xs : List Rep) → takes_these ts xs ≡ true → unbounded ts ≡ true → bound_of xs ≡ None
none_bound [] [] e w = refl
none_bound [] (x ∷ xs) e w = absurd (cc e)
none_bound (t ∷ ts) [] e w = absurd (cc e)
none_bound (t ∷ ts) (x ∷ xs) e w =
    let es = and_parts (same_kind t.kind (kind_of x)) (takes_these ts xs) e in
    let w2 = and_parts (not (is_bounded t.kind)) (unbounded ts) w in
    ap (λ y. or_else y (bound_of xs)) (no_bound x (subst (λ y. not (is_bounded y) ≡ true) (one_kind t.kind (kind_of x) es.0) w2.0)) ∙ none_bound ts xs es.1 w2.1

all_none : (u : ℕ) (ts : List Take) (xs : List Rep) → takes_these ts xs ≡ true → unbounded ts ≡ true → bounds_are u xs ≡ true
all_none u [] [] e w = refl
all_none u [] (x ∷ xs) e w = absurd (cc e)
all_none u (t ∷ ts) [] e w = absurd (cc e)
all_none u (t ∷ ts) (x ∷ xs) e w =
    let es = and_parts (same_kind t.kind (kind_of x)) (takes_these ts xs) e in
    let w2 = and_parts (not (is_bounded t.kind)) (unbounded ts) w in
    ap (λ y. bound_is u y && bounds_are u xs) (no_bound x (subst (λ y. not (is_bounded y) ≡ true) (one_kind t.kind (kind_of x) es.0) w2.0)) ∙ all_none u ts xs es.1 w2.1

-- the number before the arguments
first_of : (y : Rep) (xs : List Rep) → (not (is_bounded (kind_of y)) ≡ true → bound_of xs ≡ None) → bound_first (or_zero (bound_of (y ∷ xs))) (kind_of y) ≡ option_to_list (bound_of (y ∷ xs))
first_of r.Word xs h = ap option_to_list (sym (h refl))
first_of r.Flag xs h = ap option_to_list (sym (h refl))
first_of r.Array xs h = ap option_to_list (sym (h refl))
first_of r.Slice xs h = ap option_to_list (sym (h refl))
first_of r.Vec xs h = ap option_to_list (sym (h refl))
first_of (r.Bits v) xs h = refl
first_of r.Hset xs h = ap option_to_list (sym (h refl))
first_of (r.Amap v) xs h = refl
first_of r.Hmap xs h = ap option_to_list (sym (h refl))
first_of r.Heap xs h = ap option_to_list (sym (h refl))

pub first_words : (m : Option Kind) (ts : List Take) (y : Option Rep) (xs : List Rep) → takes_these ts xs ≡ true → makes_this m y ≡ true → leads m ts ≡ true → bound_first (op_bound y xs) (own_kind m ts) ≡ bound_words y xs
first_words None [] None [] e w d = refl
first_words None [] None (x ∷ xs) e w d = absurd (cc e)
first_words None (t ∷ ts) None [] e w d = absurd (cc e)
first_words None (t ∷ ts) None (x ∷ xs) e w d =
    let es = and_parts (same_kind t.kind (kind_of x)) (takes_these ts xs) e in
    let o = one_kind t.kind (kind_of x) es.0 in
    ap (bound_first (or_zero (bound_of (x ∷ xs)))) o ∙ first_of x xs (λ n. none_bound ts xs es.1 (by (is_bounded t.kind) d (ap (λ y. not (is_bounded y)) o ∙ n)))
  where
    by : (b : Bool) → cond b true (unbounded ts) ≡ true → not b ≡ true → unbounded ts ≡ true
    by true d n = absurd (cc n)
    by false d n = d
first_words None ts (Some y) xs e w d = absurd (cc w)
first_words (Some x) ts None xs e w d = absurd (cc w)
first_words (Some x) ts (Some y) xs e w d = ap (bound_first (or_zero (bound_of (y ∷ xs)))) (one_kind x (kind_of y) w) ∙ first_of y xs (λ n. none_bound ts xs e d)

unless_none : (xs : List Rep) (o : Option ℕ) → bound_of xs ≡ o → bounds_agree o xs ≡ true → bounds_are (or_zero o) xs ≡ true
unless_none xs (Some u) h e = e
unless_none [] None h e = refl
unless_none (x ∷ xs) None h e = by x (bound_in x) refl h (unless_none xs None)
  where
    by : (x : Rep) (o : Option ℕ) → bound_in x ≡ o → or_else (bound_in x) (bound_of xs) ≡ None → (bound_of xs ≡ None → true ≡ true → bounds_are 0 xs ≡ true) → (bound_is 0 (bound_in x) && bounds_are 0 xs) ≡ true
    by x None i h more = ap (λ y. bound_is 0 y && bounds_are 0 xs) i ∙ more (sym (ap (λ y. or_else y (bound_of xs)) i) ∙ h) refl
    by x (Some n) i h more = absurd (cc (sym (ap (λ y. or_else y (bound_of xs)) i) ∙ h))

pub all_bounds : (m : Option Kind) (ts : List Take) (y : Option Rep) (xs : List Rep) → takes_these ts xs ≡ true → makes_this m y ≡ true → leads m ts ≡ true → one_bound xs ≡ true → bounds_are (op_bound y xs) xs ≡ true
all_bounds m ts None xs e w d b = unless_none xs (bound_of xs) refl b
all_bounds None ts (Some y) xs e w d b = absurd (cc w)
all_bounds (Some x) ts (Some y) xs e w d b = all_none (or_zero (bound_of (y ∷ xs))) ts xs e d
