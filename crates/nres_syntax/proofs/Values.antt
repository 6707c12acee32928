-- What each token does to values.
use Rattle.std.proofs.Math.Seq.{take-suc}
use Rattle.std.proofs.Math.ListN.{get_or}
use Rattle.std.proofs.Common.{arith, take, length, ◌<◌, ◌+◌, ◌≡◌, ◌≢◌, ℕ, suc, ◌-◌, Bool, true, false, List, [], ◌∷◌, ◌++◌, refl, ap, ◌∙◌, sym}
use Rattle.std.specs.FinMap as maps
use Rattle.containers.specs.Bag.{bag_of, no_number as empty_bag}
use Rattle.nres_core.specs.Texts.{put_all}
use Rattle.nres_core.specs.declared.place.Place.{Place}
use Rattle.nres_core.specs.declared.ty.Ty.TheVariants as ty
use Rattle.nres_core.specs.declared.value.Value.{Value}
use Rattle.nres_core.specs.declared.value.Value.TheVariants as v
use Rattle.nres_automaton.specs.Cursor.{behind, Takes}
use Rattle.nres_automaton.specs.Lexemes.{Lex}
use Rattle.nres_automaton.specs.Automaton.{Mode, number, numbers, numbers_read, pairs, pair_of, pass, value, members, braces, go, stop, number_at, value_at, Left, Moves, Fails, run}
use Rattle.nres_automaton.specs.declared.lexeme.Fixed.{Fixed}
use Rattle.nres_automaton.specs.declared.lexeme.Fixed.TheVariants as fixed
use Rattle.nres_automaton.specs.declared.lexeme.Lexeme.{Lexeme}
use Rattle.nres_automaton.specs.declared.lexeme.Lexeme.TheVariants as x
use Rattle.nres_automaton.specs.declared.refusal.SyntaxRefusal.TheVariants as refusal
use Rattle.nres_automaton.proofs.Going.{Sees, same, alike, goes, stops}

-- ---- numbers

pub reads_number : {l r n : ℕ} {a b : Left} {t : Lex} {k : ℕ → Mode} → Takes a t b → t.lexeme ≡ x.Number n → Moves l r a (number k) r b (k n)
reads_number {r = r} {a = a} {t = t} {k = k} h e = goes h (ap (λ w. number_at r a.1 w k) e)

number-else : (r o : ℕ) (w : Lexeme) (k : ℕ → Mode) → ((n : ℕ) → w ≢ x.Number n) → number_at r o w k ≡ stop
number-else r o (x.Number n) k h = absurd (h n refl)
number-else r o _ k h = refl

pub no_number : {l r : ℕ} {a : Left} {t : Lex} {k : ℕ → Mode} → Sees a t → ((n : ℕ) → t.lexeme ≢ x.Number n) → Fails l r a (number k) (refusal.At t.place)
no_number {r = r} {a = a} {t = t} {k = k} s h = stops s (number-else r a.1 t.lexeme k h)

pub numbers_is_number : {l r : ℕ} {a : Left} {z : Fixed} {ns : List ℕ} {k : List ℕ → Mode} → Moves l r a (numbers z ns k) r a (number (λ n. numbers_read z (ns ++ n ∷ []) k))
numbers_is_number = same _ _ _ _ _ _ (λ t. refl)

pub numbers_as : {l r : ℕ} {a : Left} {z : Fixed} {ms ns : List ℕ} {k : List ℕ → Mode} → ms ≡ ns → Moves l r a (numbers z ns k) r a (numbers z ms k)
numbers_as {l = l} {r = r} {a = a} {z = z} {k = k} e = record { runs = ap (λ us. run l r a.1 (numbers z us k) a.0) (sym e) }

pub pairs_is_number : {l r : ℕ} {a : Left} {es : List (ℕ × ℕ)} {k : List (ℕ × ℕ) → Mode} → Moves l r a (pairs es k) r a (number (λ n. pass fixed.Colon (λ _. pair_of es k n)))
pairs_is_number = same _ _ _ _ _ _ (λ t. refl)

pub put_all_last : (m : maps.FinMap _ ℕ) (es : List (ℕ × ℕ)) (e : ℕ × ℕ) → put_all m (es ++ e ∷ []) ≡ maps.insert (put_all m es) e.0 e.1
put_all_last m [] e = refl
put_all_last m (d ∷ ds) e = put_all_last (maps.insert m d.0 d.1) ds e

pub pairs_as : {l r : ℕ} {a : Left} {ds es : List (ℕ × ℕ)} {k : List (ℕ × ℕ) → Mode} (n : ℕ) → ds ≡ es → Moves l r a (pair_of es k n) r a (pair_of ds k n)
pairs_as {l = l} {r = r} {a = a} {k = k} n e = record { runs = ap (λ us. run l r a.1 (pair_of us k n) a.0) (sym e) }

pub take_next : {A : Type 0} (xs : List A) (i : ℕ) (d : A) → i < length xs → take (i + 1) xs ≡ take i xs ++ get_or xs i d ∷ []
take_next xs i d h = let e : i + 1 ≡ suc i = omega arith in ap (λ j. take j xs) e ∙ take-suc xs i d h

pub bag_nil : empty_bag ≡ bag_of []
unfolding bag_of
bag_nil = refl

-- ---- values

abbrev pub of_list : (Value → Mode) → Mode
of_list k = members fixed.CloseSquare (λ ns. k (v.List ns))

abbrev pub of_bag : (Value → Mode) → Mode
of_bag k = pass fixed.OpenSquare (λ _. members fixed.CloseSquare (λ ns. k (v.Bag (bag_of ns))))

pub lists : {l r : ℕ} {a b : Left} {t : Lex} {k : Value → Mode} → Takes a t b → t.lexeme ≡ x.Fixed fixed.OpenSquare → Moves l r a (value k) r b (of_list k)
lists {r = r} {a = a} {t = t} {k = k} h e = goes h (ap (λ w. value_at r a.1 w k) e)

pub braced : {l r : ℕ} {a b : Left} {t : Lex} {k : Value → Mode} → Takes a t b → t.lexeme ≡ x.Fixed fixed.OpenBrace → Moves l r a (value k) r b (braces k)
braced {r = r} {a = a} {t = t} {k = k} h e = goes h (ap (λ w. value_at r a.1 w k) e)

pub bags : {l r : ℕ} {a b : Left} {t : Lex} {k : Value → Mode} → Takes a t b → t.lexeme ≡ x.Type ty.Bag → Moves l r a (value k) r b (of_bag k)
bags {r = r} {a = a} {t = t} {k = k} h e = goes h (ap (λ w. value_at r a.1 w k) e)

pub of_number : {l r n : ℕ} {a b : Left} {t : Lex} {k : Value → Mode} → Takes a t b → t.lexeme ≡ x.Number n → Moves l r a (value k) r b (k (v.Nat n))
of_number {r = r} {a = a} {t = t} {k = k} h e = goes h (ap (λ w. value_at r a.1 w k) e)

pub of_truth : {l r : ℕ} {y : Bool} {a b : Left} {t : Lex} {k : Value → Mode} → Takes a t b → t.lexeme ≡ x.Truth y → Moves l r a (value k) r b (k (v.Bool y))
of_truth {r = r} {a = a} {t = t} {k = k} h e = goes h (ap (λ w. value_at r a.1 w k) e)

value-else : (r o : ℕ) (w : Lexeme) (k : Value → Mode) → w ≢ x.Fixed fixed.OpenSquare → w ≢ x.Fixed fixed.OpenBrace → w ≢ x.Type ty.Bag → ((n : ℕ) → w ≢ x.Number n) → ((b : Bool) → w ≢ x.Truth b) → value_at r o w k ≡ stop
value-else r o (x.Fixed fixed.OpenSquare) k a b c d e = absurd (a refl)
value-else r o (x.Fixed fixed.OpenBrace) k a b c d e = absurd (b refl)
value-else r o (x.Type ty.Bag) k a b c d e = absurd (c refl)
value-else r o (x.Number n) k a b c d e = absurd (d n refl)
value-else r o (x.Truth y) k a b c d e = absurd (e y refl)
value-else r o _ k a b c d e = refl

pub no_value : {l r : ℕ} {a : Left} {t : Lex} {k : Value → Mode} → Sees a t → t.lexeme ≢ x.Fixed fixed.OpenSquare → t.lexeme ≢ x.Fixed fixed.OpenBrace → t.lexeme ≢ x.Type ty.Bag → ((n : ℕ) → t.lexeme ≢ x.Number n)
    → ((b : Bool) → t.lexeme ≢ x.Truth b) → Fails l r a (value k) (refusal.At t.place)
no_value {r = r} {a = a} {t = t} {k = k} s f g h i j = stops s (value-else r a.1 t.lexeme k f g h i j)
