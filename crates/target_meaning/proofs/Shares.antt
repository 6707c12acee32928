-- The sum of shares is a commutative monoid, and what holds a sum holds its parts.
use Rattle.std.proofs.Common.{◌≡◌, ℕ, suc, ◌+◌, Bool, true, false, refl, sym, ap, ◌∙◌, subst, arith, eqb, eq-eqb}
use Rattle.std.proofs.Math.Path.{fun_ext}
use Rattle.std.specs.Prelude.{Option}
use Rattle.target_meaning.specs.Machine.{Heap}
use Rattle.target_meaning.specs.Piece.{Share, Nil, Some_of, Clash, add_if, add, Piece, none, plus, Fits, Holds}
use Rattle.std.proofs.lemmas.Bool.Decides.{eqb_tells}
use Rattle.std.proofs.Common.{⊎_elim}

true_not_false : true ≡ false → ⊥
true_not_false e = cc

pub add-nil : (a : Share) → add a Nil ≡ a
add-nil Nil = refl
add-nil (Some_of v k) = refl
add-nil Clash = refl

pub add-clash : (a : Share) → add a Clash ≡ Clash
add-clash Nil = refl
add-clash (Some_of v k) = refl
add-clash Clash = refl

pub add_same : (v k j : ℕ) → add (Some_of v k) (Some_of v j) ≡ Some_of v (suc (k + j))
add_same v k j = ap (λ b. add_if b v k j) (eq-eqb v v refl)

add_other : (v u k j : ℕ) → eqb v u ≡ false → add (Some_of v k) (Some_of u j) ≡ Clash
add_other v u k j e = ap (λ b. add_if b v k j) e

eqb_sym_false : (v u : ℕ) → eqb v u ≡ false → eqb u v ≡ false
eqb_sym_false v u e =
    ⊎_elim (λ w. absurd (let f : true ≡ false = sym (eq-eqb v u (sym w.1)) ∙ e in true_not_false f)) (λ w. w.0) (eqb_tells u v)

pub add-comm : (a b : Share) → add a b ≡ add b a
add-comm Nil b = sym (add-nil b)
add-comm Clash b = sym (add-clash b)
add-comm (Some_of v k) Nil = refl
add-comm (Some_of v k) Clash = refl
add-comm (Some_of v k) (Some_of u j) =
    ⊎_elim
    (λ w. subst (λ x. add (Some_of v k) (Some_of x j) ≡ add (Some_of x j) (Some_of v k)) w.1
    (add_same v k j ∙ ap (λ n. Some_of v (suc n)) (let e : k + j ≡ j + k = omega arith in e) ∙ sym (add_same v j k)))
    (λ w. add_other v u k j w.0 ∙ sym (add_other u v j k (eqb_sym_false v u w.0)))
    (eqb_tells v u)

assoc_same : (v k j i : ℕ) → add (add (Some_of v k) (Some_of v j)) (Some_of v i) ≡ add (Some_of v k) (add (Some_of v j) (Some_of v i))
assoc_same v k j i =
    ap (λ x. add x (Some_of v i)) (add_same v k j) ∙ add_same v (suc (k + j)) i ∙
    ap (λ n. Some_of v (suc n)) (let e : suc (k + j) + i ≡ k + suc (j + i) = omega arith in e) ∙
    sym (ap (λ x. add (Some_of v k) x) (add_same v j i) ∙ add_same v k (suc (j + i)))

assoc_right : (v w k j i : ℕ) → eqb v w ≡ false → add (add (Some_of v k) (Some_of v j)) (Some_of w i) ≡ add (Some_of v k) (add (Some_of v j) (Some_of w i))
assoc_right v w k j i e =
    ap (λ x. add x (Some_of w i)) (add_same v k j) ∙ add_other v w (suc (k + j)) i e ∙
    sym (ap (λ x. add (Some_of v k) x) (add_other v w j i e))

assoc_left : (v u k j i : ℕ) → eqb v u ≡ false → add (add (Some_of v k) (Some_of u j)) (Some_of u i) ≡ add (Some_of v k) (add (Some_of u j) (Some_of u i))
assoc_left v u k j i e =
    ap (λ x. add x (Some_of u i)) (add_other v u k j e) ∙
    sym (ap (λ x. add (Some_of v k) x) (add_same u j i) ∙ add_other v u k (suc (j + i)) e)

assoc_none : (v u w k j i : ℕ) → eqb v u ≡ false → eqb u w ≡ false → add (add (Some_of v k) (Some_of u j)) (Some_of w i) ≡ add (Some_of v k) (add (Some_of u j) (Some_of w i))
assoc_none v u w k j i e f =
    ap (λ x. add x (Some_of w i)) (add_other v u k j e) ∙ sym (ap (λ x. add (Some_of v k) x) (add_other u w j i f))

assoc_some : (v k u j w i : ℕ) → add (add (Some_of v k) (Some_of u j)) (Some_of w i) ≡ add (Some_of v k) (add (Some_of u j) (Some_of w i))
assoc_some v k u j w i =
    ⊎_elim
    (λ a. ⊎_elim
    (λ b. subst (λ x. add (add (Some_of v k) (Some_of x j)) (Some_of w i) ≡ add (Some_of v k) (add (Some_of x j) (Some_of w i))) a.1
    (subst (λ x. add (add (Some_of v k) (Some_of v j)) (Some_of x i) ≡ add (Some_of v k) (add (Some_of v j) (Some_of x i))) (a.1 ∙ b.1) (assoc_same v k j i)))
    (λ b. subst (λ x. add (add (Some_of v k) (Some_of x j)) (Some_of w i) ≡ add (Some_of v k) (add (Some_of x j) (Some_of w i))) a.1
    (assoc_right v w k j i (subst (λ x. eqb x w ≡ false) (sym a.1) b.0)))
    (eqb_tells u w))
    (λ a. ⊎_elim
    (λ b. subst (λ x. add (add (Some_of v k) (Some_of u j)) (Some_of x i) ≡ add (Some_of v k) (add (Some_of u j) (Some_of x i))) b.1 (assoc_left v u k j i a.0))
    (λ b. assoc_none v u w k j i a.0 b.0)
    (eqb_tells u w))
    (eqb_tells v u)

pub add-assoc : (a b c : Share) → add (add a b) c ≡ add a (add b c)
add-assoc Nil b c = refl
add-assoc Clash b c = refl
add-assoc (Some_of v k) Nil c = refl
add-assoc (Some_of v k) Clash c = refl
add-assoc (Some_of v k) (Some_of u j) Nil = add-nil _
add-assoc (Some_of v k) (Some_of u j) Clash = add-clash _
add-assoc (Some_of v k) (Some_of u j) (Some_of w i) = assoc_some v k u j w i

-- pieces
pub plus-none : (p : Piece) → plus p none ≡ p
plus-none p = fun_ext (λ b. fun_ext (λ j. add-nil (p b j)))

pub plus-comm : (p q : Piece) → plus p q ≡ plus q p
plus-comm p q = fun_ext (λ b. fun_ext (λ j. add-comm (p b j) (q b j)))

pub plus-assoc : (p q r : Piece) → plus (plus p q) r ≡ plus p (plus q r)
plus-assoc p q r = fun_ext (λ b. fun_ext (λ j. add-assoc (p b j) (q b j) (r b j)))

-- what fits a sum fits its parts
fits_if : (e : Bool) (v k j : ℕ) (o : Option ℕ) → Fits (add_if e v k j) o → Fits (Some_of v k) o
fits_if true v k j o f = (f.0, omega (arith, f.1))
fits_if false v k j o f = absurd f

pub fits_left : (a b : Share) (o : Option ℕ) → Fits (add a b) o → Fits a o
fits_left Nil b o f = tt
fits_left Clash b o f = f
fits_left (Some_of v k) Nil o f = f
fits_left (Some_of v k) Clash o f = absurd f
fits_left (Some_of v k) (Some_of u j) o f = fits_if (eqb v u) v k j o f

pub fits_right : (a b : Share) (o : Option ℕ) → Fits (add a b) o → Fits b o
fits_right a b o f = fits_left b a o (subst (λ x. Fits x o) (add-comm a b) f)

pub holds_left : (p q : Piece) (h : Heap) → Holds (plus p q) h → Holds p h
holds_left p q h g = record { places = λ b j. fits_left (p b j) (q b j) _ (g.places b j); heap = g.heap }

pub holds_right : (p q : Piece) (h : Heap) → Holds (plus p q) h → Holds q h
holds_right p q h g = record { places = λ b j. fits_right (p b j) (q b j) _ (g.places b j); heap = g.heap }
