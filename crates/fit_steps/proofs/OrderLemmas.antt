-- New variables in order, and what they are in.
use Rattle.std.proofs.Common.{◌≡◌, ℕ, suc, Bool, true, false, cond, ◌&&◌, List, [], ◌∷◌, length, refl, sym, ap, ◌∙◌, nat_eq, nat_le, arith}
use Rattle.std.proofs.lemmas.Bool.{eqb-true, eqb-false, eq-eqb, ne_eqb}
use Rattle.std.specs.Prelude.{Some, None}
use Rattle.bind_laws.proofs.Bindings.{binding_differ}
use Rattle.context_laws.specs.Stacks.{place_in, AllDiffer}
use Rattle.fit_steps.specs.Parts.{out_shapes}
use Rattle.fits.specs.Follow.{rises}
use Rattle.fits.specs.Places.{in_order}
use Rattle.nres_core.specs.declared.row.Kind.{Kind}
use Rattle.rule_check.specs.Context.{Owned, Spot, Shape, shape_of, spot_at, binding}
use Rattle.rule_check.specs.Steps.{row_shapes}

suc_eq : (a b : ℕ) → nat_eq (suc a) (suc b) ≡ nat_eq a b
suc_eq a b = by (nat_eq a b) refl
  where
    by : (c : Bool) → nat_eq a b ≡ c → nat_eq (suc a) (suc b) ≡ c
    by true e = eq-eqb (suc a) (suc b) (ap suc (eqb-true a b e))
    by false e = ne_eqb (suc a) (suc b) (λ f. eqb-false a b e (omega (arith, f)))

swap : (x e y : Bool) → (x && (e && y)) ≡ (e && (x && y))
swap true true y = refl
swap true false y = refl
swap false true y = refl
swap false false y = refl

-- in order, as many as there are shapes
pub order_is : (n : ℕ) (outs : List ℕ) (zs : List Shape) → in_order n outs zs ≡ (nat_eq (length outs) (length zs) && rises n outs)
order_is n [] [] = refl
order_is n [] (z ∷ zs) = sym (ap (λ b. b && true) (ne_eqb 0 (suc (length zs)) (λ e. omega (arith, e))))
order_is n (v ∷ vs) [] = sym (ap (λ b. b && rises n (v ∷ vs)) (ne_eqb (suc (length vs)) 0 (λ e. omega (arith, e))))
order_is n (v ∷ vs) (z ∷ zs) =
    ap (λ b. nat_le n v && b) (order_is (suc v) vs zs)
    ∙ swap (nat_le n v) (nat_eq (length vs) (length zs)) (rises (suc v) vs)
    ∙ ap (λ b. b && (nat_le n v && rises (suc v) vs)) (sym (suc_eq (length vs) (length zs)))

pub row_count : (n k : ℕ) (gs : List Kind) → length (row_shapes n k gs) ≡ length gs
row_count n k [] = refl
row_count n k (g ∷ gs) = ap suc (row_count n k gs)

-- ---- bound variables

abbrev bound : ℕ → Shape → Spot
bound v z = record { var = v; rep = z.rep; hold = Owned; tag = z.tag }

-- an entry from before is found
older_found : (vs : List ℕ) (zs : List Shape) (ss : List Spot) (v i : ℕ) → AllDiffer (binding vs zs ss) → place_in ss v ≡ Some i → spot_at (binding vs zs ss) v ≡ spot_at ss v
older_found [] zs ss v i d e = refl
older_found (w ∷ ws) [] ss v i d e = refl
older_found (w ∷ ws) (z ∷ zs) ss v i d e =
    let one : place_in ss w ≡ None = (binding_differ ws zs (bound w z ∷ ss) d).0 in
    older_found ws zs (bound w z ∷ ss) v i d (other (nat_eq w v) refl one) ∙ apart (nat_eq w v) refl one
  where
    clash : nat_eq w v ≡ true → place_in ss w ≡ None → ⊥
    clash f one = let g : None ≡ Some i = sym one ∙ ap (place_in ss) (eqb-true w v f) ∙ e in let o : ⊥ = cc g in o

    other : (b : Bool) → nat_eq w v ≡ b → place_in ss w ≡ None → cond b (Some (length ss)) (place_in ss v) ≡ Some i
    other true f one = absurd (clash f one)
    other false f one = e

    apart : (b : Bool) → nat_eq w v ≡ b → place_in ss w ≡ None → cond b (bound w z) (spot_at ss v) ≡ spot_at ss v
    apart true f one = absurd (clash f one)
    apart false f one = refl

-- the newest one
newest_place : (s : Spot) (ss : List Spot) → place_in (s ∷ ss) s.var ≡ Some (length ss)
newest_place s ss = ap (λ b. cond b (Some (length ss)) (place_in ss s.var)) (eq-eqb s.var s.var refl)

newest_spot : (s : Spot) (ss : List Spot) → spot_at (s ∷ ss) s.var ≡ s
newest_spot s ss = ap (λ b. cond b s (spot_at ss s.var)) (eq-eqb s.var s.var refl)

-- what bound variables are in
pub outs_bound : (vs : List ℕ) (zs : List Shape) (ss : List Spot) → nat_eq (length vs) (length zs) ≡ true → AllDiffer (binding vs zs ss) → out_shapes (binding vs zs ss) vs ≡ zs
outs_bound [] [] ss n d = refl
outs_bound [] (z ∷ zs) ss n d = absurd (let e = eqb-true 0 (suc (length zs)) n in let o : ⊥ = omega (arith, e) in o)
outs_bound (v ∷ vs) [] ss n d = absurd (let e = eqb-true (suc (length vs)) 0 n in let o : ⊥ = omega (arith, e) in o)
outs_bound (v ∷ vs) (z ∷ zs) ss n d =
    (λ i. shape_of ((older_found vs zs (bound v z ∷ ss) v (length ss) d (newest_place (bound v z) ss) ∙ newest_spot (bound v z) ss) i) ∷ out_shapes (binding vs zs (bound v z ∷ ss)) vs)
    ∙ ap (λ ys. z ∷ ys) (outs_bound vs zs (bound v z ∷ ss) (sym (suc_eq (length vs) (length zs)) ∙ n) d)

pub outs_count : (ss : List Spot) (vs : List ℕ) → length (out_shapes ss vs) ≡ length vs
outs_count ss [] = refl
outs_count ss (v ∷ vs) = ap suc (outs_count ss vs)

-- as many as what they are in
pub order_outs : (n : ℕ) (ss : List Spot) (outs : List ℕ) → rises n outs ≡ true → in_order n outs (out_shapes ss outs) ≡ true
order_outs n ss outs e = order_is n outs (out_shapes ss outs) ∙ (λ i. eq-eqb (length outs) (length (out_shapes ss outs)) (sym (outs_count ss outs)) i && e i)
