-- Representations of arguments and shapes of results, as loops make them.
use Rattle.std.proofs.Common.{◌≡◌, ℕ, zero, suc, min, ◌<◌, ◌+◌, arith, List, [], ◌∷◌, ◌++◌, length, drop, get_or, refl, sym, ap, ◌∙◌, append_assoc}
use Rattle.fit_state.specs.Infos.{infos_of}
use Rattle.fit_state.specs.declared.infos.Info.{Info}
use Rattle.fit_steps.proofs.WordsLemmas.{dropped_at}
use Rattle.fit_steps.specs.Parts.{out_shapes}
use Rattle.fits.specs.Places.{info_reps}
use Rattle.nres_core.specs.declared.row.Kind.{Kind}
use Rattle.ownership.specs.Entries as e
use Rattle.ownership.specs.declared.entry.Entry.{Entry}
use Rattle.ownership.specs.declared.entry.Shape.{Shape as CodeShape}
use Rattle.rule_check.specs.Context.{Spot, Shape, shape_of, spot_at}
use Rattle.rule_check.specs.Rows.{first_kinds}
use Rattle.target_code.specs.declared.tree.Rep.{Rep}

pub reps_step : (is : List Info) (i : ℕ) (d : Info) (xs ys fs : List Rep) → i < length is → ys ≡ xs ++ (get_or is i d).shape.rep ∷ []
    → xs ++ info_reps (infos_of (drop i is)) ≡ fs → ys ++ info_reps (infos_of (drop (i + 1) is)) ≡ fs
reps_step is i d xs ys fs h g inv =
    let rest = info_reps (infos_of (drop (i + 1) is)) in
    ap (λ s. s ++ rest) g ∙ append_assoc xs ((get_or is i d).shape.rep ∷ []) rest ∙ ap (λ s. xs ++ info_reps (infos_of s)) (sym (dropped_at is i d h)) ∙ inv

shapes_push : (zs : List CodeShape) (z : CodeShape) → e.shapes_of (zs ++ z ∷ []) ≡ e.shapes_of zs ++ e.shape_of z ∷ []
shapes_push [] z = refl
shapes_push (y ∷ zs) z = ap (λ s. e.shape_of y ∷ s) (shapes_push zs z)

pub out_step : (ss : List Spot) (vs : List ℕ) (i v : ℕ) (zs ys : List CodeShape) (z : CodeShape) (x : Entry) (fs : List Shape) → i < length vs → e.shape_of z ≡ shape_of (e.spot_of x) → e.spot_of x ≡ spot_at ss (get_or vs i v) → ys ≡ zs ++ z ∷ []
    → e.shapes_of zs ++ out_shapes ss (drop i vs) ≡ fs → e.shapes_of ys ++ out_shapes ss (drop (i + 1) vs) ≡ fs
out_step ss vs i v zs ys z x fs h a b g inv =
    let rest = out_shapes ss (drop (i + 1) vs) in
    ap (λ s. e.shapes_of s ++ rest) g ∙ ap (λ s. s ++ rest) (shapes_push zs z) ∙ append_assoc (e.shapes_of zs) (e.shape_of z ∷ []) rest
    ∙ ap (λ s. e.shapes_of zs ++ s ∷ rest) (a ∙ ap shape_of b) ∙ ap (λ s. e.shapes_of zs ++ out_shapes ss s) (sym (dropped_at vs i v h)) ∙ inv

-- ---- counts

pub infos_count : (is : List Info) → length (infos_of is) ≡ length is
infos_count [] = refl
infos_count (i ∷ is) = ap suc (infos_count is)

pub kinds_count : (n : ℕ) (ks : List Kind) → min n (length ks) ≡ length (first_kinds n ks)
kinds_count zero ks = omega arith
kinds_count (suc n) [] = omega arith
kinds_count (suc n) (k ∷ ks) = let e : min (suc n) (suc (length ks)) ≡ suc (min n (length ks)) = omega arith in e ∙ ap suc (kinds_count n ks)
