-- What a table says of a word holds of it if it holds of each entry: a property of all operation words is one test of the table.
use Rattle.std.proofs.Common.{◌≡◌, ℕ, Bool, true, false, cond, List, [], ◌∷◌, Option, Some, None, refl, sym, ◌∙◌, subst}
use Rattle.std.proofs.lemmas.Bool.{and_parts}
use Rattle.std.proofs.lemmas.Slice.Eq.{bytes_eq-Decides}
use Rattle.std.specs.List.{list_all}
use Rattle.nres_core.specs.Operations.{Entry, at_type, OfOp, OfEach, in_table, words, AllOf, Fits, FitsAnd, AllFit, WordsFit}
use Rattle.nres_core.specs.Tree.{same_name}
use Rattle.nres_core.specs.declared.ty.Ty.{Ty}
use Rattle.nres_core.specs.declared.ty.Ty.TheVariants as ty
use Rattle.nres_core.specs.declared.vocabulary.ByType.{ByType}
use Rattle.nres_core.specs.declared.vocabulary.Meant.{Meant}
use Rattle.nres_core.specs.declared.vocabulary.Meant.TheVariants as m

pub tabled : {A : Type 0} (P : List ℕ → A → Type 0) (w : List ℕ) (es : List (List ℕ × A)) (y : A) → AllOf P es → in_table w es ≡ Some y → P w y
tabled P w [] y a h = absurd cc
tabled P w (e ∷ es) y a h = pick (same_name w e.0) refl h (tabled P w es y a.1)
  where
    pick : (b : Bool) → same_name w e.0 ≡ b → cond b (Some e.1) (in_table w es) ≡ Some y → (in_table w es ≡ Some y → P w y) → P w y
    pick true i g f = let j : e.1 ≡ y = cc in subst (λ u. P u y) (sym ((bytes_eq-Decides w e.0).0 i)) (subst (λ u. P e.0 u) j a.0)
    pick false i g f = f g

all_of : {A : Type 0} (p : List ℕ → A → Bool) (es : List (List ℕ × A)) → list_all (λ e. p e.0 e.1) es ≡ true → AllOf (λ x y. p x y ≡ true) es
all_of p [] h = tt
all_of p (e ∷ es) h = let g = and_parts (p e.0 e.1) (list_all (λ e. p e.0 e.1) es) h in (g.0, all_of p es g.1)

pub tested : {A : Type 0} (p : List ℕ → A → Bool) (w : List ℕ) (es : List (List ℕ × A)) (y : A) → list_all (λ e. p e.0 e.1) es ≡ true → in_table w es ≡ Some y → p w y ≡ true
tested p w es y h e = tabled (λ v z. p v z ≡ true) w es y (all_of p es h) e

-- a word that is in the table of operations
pub on_operations : (p : List ℕ → Bool) (f : Option Meant → Bool) → f None ≡ false → list_all (λ e. p e.0) words ≡ true → (w : List ℕ) → f (in_table w words) ≡ true → p w ≡ true
on_operations p f n h w i = pick (in_table w words) refl i
  where
    pick : (x : Option Meant) → in_table w words ≡ x → f x ≡ true → p w ≡ true
    pick None e j = absurd (let k : false ≡ true = sym n ∙ j in cc k)
    pick (Some m) e j = tested (λ v z. p v) w words m h e

-- the operations of a word are those of their types
fit_first : (x : Meant) (R : Type 0) → FitsAnd x R → Fits x
fit_first (m.Always op) R h = tt
fit_first (m.ByFirst t to) R h = h.0
fit_first (m.ByMade t) R h = h.0

fit_rest : (x : Meant) (R : Type 0) → FitsAnd x R → R
fit_rest (m.Always op) R h = h
fit_rest (m.ByFirst t to) R h = h.1
fit_rest (m.ByMade t) R h = h.1

pub words_fit : WordsFit
words_fit = (((refl, refl, tt), (refl, refl, tt), (refl, refl, tt), (refl, refl, tt)), ((tt, refl, refl, refl), ((tt, (refl, refl, refl), (refl, refl, refl), (refl, refl, refl)), ((tt, (refl, refl, refl), (refl, refl, refl), tt), tt))))

word_fits_in : (w : List ℕ) (es : List (List ℕ × Meant)) (x : Meant) → AllFit es → in_table w es ≡ Some x → Fits x
word_fits_in w [] x a h = absurd cc
word_fits_in w (e ∷ es) x a h = pick (same_name w e.0) h (word_fits_in w es x (fit_rest e.1 (AllFit es) a))
  where
    pick : (b : Bool) → cond b (Some e.1) (in_table w es) ≡ Some x → (in_table w es ≡ Some x → Fits x) → Fits x
    pick true g f = let j : e.1 ≡ x = cc in subst Fits j (fit_first e.1 (AllFit es) a)
    pick false g f = f g

pub word_fits : (w : List ℕ) (x : Meant) → in_table w words ≡ Some x → Fits x
word_fits w x e = word_fits_in w words x words_fit e

-- what holds of each operation of a word holds of that for a type
pub of_each : (P : Ty → Entry → Type 0) (t : ByType) (u : Ty) → OfEach P t → OfOp (P u) (at_type u t)
of_each P t ty.Nat h = tt
of_each P t ty.Bool h = tt
of_each P t ty.List h = h.0
of_each P t ty.Set h = h.1
of_each P t ty.Map h = h.2
of_each P t ty.Bag h = h.3
