-- What each token does to parameters and to what is shown.
use Rattle.std.proofs.Common.{◌≡◌, ◌≢◌, ℕ, suc, ◌-◌, Bool, true, false, List, [], ◌∷◌, ◌++◌, Option, Some, None, refl, ap, ◌∙◌, sym}
use Rattle.std.specs.Result.{IsErrAnd}
use Rattle.std.proofs.lemmas.Result.{err_from_is_err_and}
use Rattle.std.proofs.Common.{Result, Ok, Err, subst, not}
use Rattle.target_code.specs.declared.tree.Rep.{Rep}
use Rattle.nres_core.specs.Texts.{operators}
use Rattle.nres_core.specs.declared.place.Place.{Place}
use Rattle.nres_core.specs.declared.tree.Param.{Param}
use Rattle.nres_core.specs.declared.tree.Shown.{Shown}
use Rattle.nres_core.specs.declared.ty.Ty.{Ty}
use Rattle.nres_core.specs.declared.ty.Ty.TheVariants as ty
use Rattle.nres_syntax.specs.Bodies.{ReadsTo}
use Rattle.nres_automaton.specs.Cursor.{behind, Takes}
use Rattle.nres_automaton.specs.Lexemes.{Lex, type_of}
use Rattle.nres_automaton.specs.Automaton.{Mode, name, typed, container, more_params, param_read, shown, first_shown, more_shown, shown_read, shown_as, leave, step, go, stop, open_bracket, typed_at, shown_at, Left, Moves, Fails, run}
use Rattle.nres_automaton.specs.declared.lexeme.Fixed.TheVariants as fixed
use Rattle.nres_automaton.specs.declared.lexeme.Lexeme.{Lexeme}
use Rattle.nres_automaton.specs.declared.lexeme.Lexeme.TheVariants as x
use Rattle.nres_automaton.specs.declared.refusal.SyntaxRefusal.{SyntaxRefusal}
use Rattle.nres_automaton.specs.declared.refusal.SyntaxRefusal.TheVariants as refusal
use Rattle.nres_automaton.proofs.Going.{Sees, same, alike, goes, stops, deepens, positive}

-- ---- types

holds : (r o : ℕ) (w : Lexeme) (p : Place) (b : Bool) (k m : Shown → Mode) (t : Ty) → type_of w ≡ Some t → typed_at r o w p b k m ≡ go r o (container b t m)
holds r o (x.Type u) p b k m t e = let f : u ≡ t = cc in ap (λ y. go r o (container b y m)) f
holds r o (x.Fixed fixed.Set) p b k m t e = let f : ty.Set ≡ t = cc in ap (λ y. go r o (container b y m)) f
holds r o _ p b k m t e = absurd cc

pub held : {l r : ℕ} {a z : Left} {t : Lex} {b : Bool} {k m : Shown → Mode} {u : Ty} → Takes a t z → type_of t.lexeme ≡ Some u → Moves l r a (typed b k m) r z (container b u m)
held {r = r} {a = a} {t = t} {b = b} {k = k} {m = m} {u = u} h e = goes h (holds r a.1 t.lexeme t.place b k m u e)

pub plain : {l r : ℕ} {a z : Left} {t : Lex} {b : Bool} {k m : Shown → Mode} {u : Ty} {y : Rep} → Takes a t z → t.lexeme ≡ x.Plain u y → Moves l r a (typed b k m) r z (k (shown_as u y t.place))
plain {r = r} {a = a} {t = t} {b = b} {k = k} {m = m} h e = goes h (ap (λ w. typed_at r a.1 w t.place b k m) e)

typed-else : (r o : ℕ) (w : Lexeme) (p : Place) (b : Bool) (k m : Shown → Mode) → ((t : Ty) → type_of w ≢ Some t) → ((t : Ty) (y : Rep) → w ≢ x.Plain t y) → typed_at r o w p b k m ≡ stop
typed-else r o (x.Type u) p b k m e f = absurd (e u refl)
typed-else r o (x.Fixed fixed.Set) p b k m e f = absurd (e _ refl)
typed-else r o (x.Plain t y) p b k m e f = absurd (f t y refl)
typed-else r o _ p b k m e f = refl

pub no_type : {l r : ℕ} {a : Left} {t : Lex} {b : Bool} {k m : Shown → Mode} → Sees a t → ((u : Ty) → type_of t.lexeme ≢ Some u) → ((u : Ty) (y : Rep) → t.lexeme ≢ x.Plain u y) → Fails l r a (typed b k m) (refusal.At t.place)
no_type {r = r} {a = a} {t = t} {b = b} {k = k} {m = m} s e f = stops s (typed-else r a.1 t.lexeme t.place b k m e f)

-- ---- lists

pub param_is_name : {l r : ℕ} {a : Left} {b : Bool} {xs : List Param} {k : List Param → Mode} → Moves l r a (more_params b xs k) r a (name (param_read b xs k))
param_is_name = same _ _ _ _ _ _ (λ t. refl)

pub params_as : {l r : ℕ} {a : Left} {b : Bool} {xs ys : List Param} {k : List Param → Mode} → xs ≡ ys → Moves l r a (more_params b ys k) r a (more_params b xs k)
params_as {l = l} {r = r} {a = a} {b = b} {k = k} e = record { runs = ap (λ zs. run l r a.1 (more_params b zs k) a.0) (sym e) }

pub shown_is_typed : {l r : ℕ} {a : Left} {b : Bool} {ys : List Shown} {k : List Shown → Mode} → Moves l r a (more_shown b ys k) r a (typed b (shown_read b ys k) (shown_read b ys k))
shown_is_typed = same _ _ _ _ _ _ (λ t. refl)

pub shown_as_list : {l r : ℕ} {a : Left} {b : Bool} {xs ys : List Shown} {k : List Shown → Mode} → xs ≡ ys → Moves l r a (more_shown b ys k) r a (more_shown b xs k)
shown_as_list {l = l} {r = r} {a = a} {b = b} {k = k} e = record { runs = ap (λ zs. run l r a.1 (more_shown b zs k) a.0) (sym e) }

pub shown_opens : {l r : ℕ} {a z : Left} {t : Lex} {b : Bool} {k : List Shown → Mode} → r ≢ 0 → Takes a t z → t.lexeme ≡ x.Fixed fixed.Open → Moves l r a (shown b k) (r - 1) z (typed b (first_shown b k) (first_shown b k))
shown_opens {r = r} {a = a} {t = t} {b = b} {k = k} p h e =
    goes h (ap (λ w. shown_at r a.1 w t.place b k) e ∙ ap (λ s. open_bracket s a.1 (λ _. typed b (first_shown b k) (first_shown b k)) t.place) (positive r p))

pub shown_deep : {l r : ℕ} {a : Left} {t : Lex} {b : Bool} {k : List Shown → Mode} → Sees a t → r ≡ 0 → t.lexeme ≡ x.Fixed fixed.Open → Fails l r a (shown b k) (refusal.TooDeep t.place)
shown_deep {r = r} {a = a} {t = t} {b = b} {k = k} s z e =
    deepens s (ap (λ w. shown_at r a.1 w t.place b k) e ∙ ap (λ n. open_bracket n a.1 (λ _. typed b (first_shown b k) (first_shown b k)) t.place) z)

one-else : (r o : ℕ) (w : Lexeme) (p : Place) (b : Bool) (k : List Shown → Mode) → w ≢ x.Fixed fixed.Open → shown_at r o w p b k ≡ typed_at r o w p b (λ y. k (y ∷ [])) (λ y. k (y ∷ []))
one-else r o (x.Fixed fixed.Open) p b k h = absurd (h refl)
one-else r o _ p b k h = refl

pub shown_one : {l r : ℕ} {a : Left} {t : Lex} {b : Bool} {k : List Shown → Mode} → Sees a t → t.lexeme ≢ x.Fixed fixed.Open → Moves l r a (shown b k) r a (typed b (λ y. k (y ∷ [])) (λ y. k (y ∷ [])))
shown_one {r = r} {a = a} {t = t} {b = b} {k = k} s h = alike s (one-else r a.1 t.lexeme t.place b k h)

-- ---- the exit of a `?`, where the room changes

pub exits_to : {A : Type 0} {s : ℕ} {before : (A → Mode) → Mode} {old : Left} (r : ℕ) (new : Left) (res : Result A SyntaxRefusal) (e : SyntaxRefusal)
    → IsErrAnd res (λ y. y ≡ e) → (e ≢ refusal.Memory → (k : A → Mode) → Fails operators s old (before k) e) → ReadsTo s before r old res new
exits_to {s = s} {before = before} {old = old} r new res e h p =
    let f = err_from_is_err_and res h in subst (λ y. ReadsTo s before r old y new) (sym (f.1 ∙ ap Err f.2)) p

-- one more may be opened again
pub out_of : {l : ℕ} {a : Left} {m : Mode} (s r : ℕ) → suc s ≡ r → Moves l s a (leave m) r a m
out_of {l = l} {a = a} {m = m} s r e = same _ _ _ _ _ _ (λ t. ap (λ j. step l j a.1 m t) e)

pub is_not : {b : Bool} → not b ≡ true → b ≡ false
is_not {b = true} e = cc
is_not {b = false} e = refl

pub is_so : {b : Bool} → not b ≡ false → b ≡ true
is_so {b = true} e = refl
is_so {b = false} e = cc
