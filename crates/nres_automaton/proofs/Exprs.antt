-- What each token does to an expression.
use Rattle.std.proofs.Common.{◌≡◌, ◌≢◌, ℕ, zero, suc, ◌+◌, ◌-◌, ◌<◌, ◌≤◌, Bool, true, false, List, [], ◌∷◌, ◌++◌, refl, ap, ◌∙◌, sym, arith, cond, eq-eqb, nat_eq, nat_le, ◌&&◌, Option, Some, None}
use Rattle.std.proofs.lemmas.Bool.{ne_eqb, leb-true, le-leb}
use Rattle.target_code.specs.declared.tree.Calc.{Calc}
use Rattle.target_code.specs.declared.tree.Rep.{Rep}
use Rattle.nres_core.specs.Grammar.{is_chain}
use Rattle.nres_core.specs.Vocabulary.{named}
use Rattle.nres_core.specs.declared.place.Place.{Place}
use Rattle.nres_core.specs.declared.tree.Chosen.{Chosen}
use Rattle.nres_core.specs.declared.tree.Expr.{Expr}
use Rattle.nres_core.specs.declared.tree.Expr.TheVariants as expr
use Rattle.nres_automaton.specs.Cursor.{behind, Takes}
use Rattle.nres_automaton.specs.Lexemes.{Lex, arity_of}
use Rattle.nres_automaton.specs.Automaton.{Mode, pass, leave, rep, bound, want, atom, tail, atoms, made, opened, bound_of, Next, go, stop, step, open_bracket, spend, atom_at, unary_at, rep_at, bound_at, looseness, right_of, sign_or, Left, Moves, Fails, run}
use Rattle.nres_automaton.specs.declared.lexeme.Bounded.{Bounded}
use Rattle.nres_automaton.specs.declared.lexeme.Fixed.{Fixed}
use Rattle.nres_automaton.specs.declared.lexeme.Fixed.TheVariants as fixed
use Rattle.nres_automaton.specs.declared.lexeme.Lexeme.{Lexeme}
use Rattle.nres_automaton.specs.declared.lexeme.Lexeme.TheVariants as x
use Rattle.nres_automaton.specs.declared.refusal.SyntaxRefusal.{SyntaxRefusal}
use Rattle.nres_automaton.specs.declared.refusal.SyntaxRefusal.TheVariants as refusal
use Rattle.nres_automaton.proofs.Going.{◌then◌, ◌fails◌, stay, same, Sees, Pays, alike, goes, goes_paid, stops, deepens, positive}

-- ---- representations

abbrev pub chosen_mode : (Chosen → Mode) → Mode
chosen_mode k = rep (λ r p. k (record { rep = r; place = p }))

pub unbounded : {l r : ℕ} {y : Rep} {a b : Left} {t : Lex} (k : Chosen → Mode) → Takes a t b → t.lexeme ≡ x.Unbounded y → Moves l r a (chosen_mode k) r b (k (record { rep = y; place = t.place }))
unbounded {r = r} {a = a} {t = t} k h e = goes h (ap (λ w. rep_at r a.1 w t.place (λ r p. k (record { rep = r; place = p }))) e)

pub bounded : {l r : ℕ} {y : Bounded} {a b : Left} {t : Lex} (k : Chosen → Mode) → Takes a t b → t.lexeme ≡ x.Bounded y → Moves l r a (chosen_mode k) r b (bound (λ u. k (record { rep = bound_of y u; place = t.place })))
bounded {r = r} {a = a} {t = t} k h e = goes h (ap (λ w. rep_at r a.1 w t.place (λ r p. k (record { rep = r; place = p }))) e)

rep-else : (r o : ℕ) (w : Lexeme) (p : Place) (k : Rep → Place → Mode) → ((y : Rep) → w ≢ x.Unbounded y) → ((y : Bounded) → w ≢ x.Bounded y) → rep_at r o w p k ≡ stop
rep-else r o (x.Unbounded y) p k a b = absurd (a y refl)
rep-else r o (x.Bounded y) p k a b = absurd (b y refl)
rep-else r o _ p k a b = refl

pub no_rep : {l r : ℕ} {a : Left} {t : Lex} {k : Rep → Place → Mode} → Sees a t → ((y : Rep) → t.lexeme ≢ x.Unbounded y) → ((y : Bounded) → t.lexeme ≢ x.Bounded y) → Fails l r a (rep k) (refusal.At t.place)
no_rep {r = r} {a = a} {t = t} {k = k} s f g = stops s (rep-else r a.1 t.lexeme t.place k f g)

in_bounds : (n : ℕ) → 1 ≤ n → n ≤ 4294967295 → nat_le 1 n && nat_le n 4294967295 ≡ true
in_bounds n g h = let a = le-leb 1 n g in let b = le-leb n 4294967295 h in rw (a, b) refl

pub bounds : {l r n : ℕ} {a b : Left} {t : Lex} {k : ℕ → Mode} → Takes a t b → t.lexeme ≡ x.Number n → 1 ≤ n → n ≤ 4294967295 → Moves l r a (bound k) r b (k n)
bounds {r = r} {n = n} {a = a} {t = t} {k = k} h e f g = goes h (ap (λ w. bound_at r a.1 w k) e ∙ ap (λ c. cond c (go r a.1 (k n)) stop) (in_bounds n f g))

out_of_bounds : (n : ℕ) → (1 ≤ n → n ≤ 4294967295 → ⊥) → nat_le 1 n && nat_le n 4294967295 ≡ false
out_of_bounds n h = by_cases (nat_le 1 n) (nat_le n 4294967295) refl refl
  where
    by_cases : (b c : Bool) → nat_le 1 n ≡ b → nat_le n 4294967295 ≡ c → b && c ≡ false
    by_cases true true e f = absurd (h (leb-true 1 n e) (leb-true n 4294967295 f))
    by_cases true false e f = refl
    by_cases false c e f = refl

pub no_bounds : {l r n : ℕ} {a : Left} {t : Lex} {k : ℕ → Mode} → Sees a t → t.lexeme ≡ x.Number n → (1 ≤ n → n ≤ 4294967295 → ⊥) → Fails l r a (bound k) (refusal.At t.place)
no_bounds {r = r} {n = n} {a = a} {t = t} {k = k} h e f = stops h (ap (λ w. bound_at r a.1 w k) e ∙ ap (λ c. cond c (go r a.1 (k n)) stop) (out_of_bounds n f))

bound-else : (r o : ℕ) (w : Lexeme) (k : ℕ → Mode) → ((n : ℕ) → w ≢ x.Number n) → bound_at r o w k ≡ stop
bound-else r o (x.Number n) k a = absurd (a n refl)
bound-else r o _ k a = refl

pub no_bound : {l r : ℕ} {a : Left} {t : Lex} {k : ℕ → Mode} → Sees a t → ((n : ℕ) → t.lexeme ≢ x.Number n) → Fails l r a (bound k) (refusal.At t.place)
no_bound {r = r} {a = a} {t = t} {k = k} s f = stops s (bound-else r a.1 t.lexeme k f)

-- ---- atoms

pub numbers : {l r n : ℕ} {a b : Left} {t : Lex} {k : Expr → Mode} → Takes a t b → t.lexeme ≡ x.Number n → Moves l r a (atom k) r b (k (expr.Num t.place n))
numbers {r = r} {a = a} {t = t} {k = k} h e = goes h (ap (λ w. atom_at r a.1 w t.bytes t.place k) e)

pub truths : {l r : ℕ} {y : Bool} {a b : Left} {t : Lex} {k : Expr → Mode} → Takes a t b → t.lexeme ≡ x.Truth y → Moves l r a (atom k) r b (k (expr.Truth t.place y))
truths {r = r} {a = a} {t = t} {k = k} h e = goes h (ap (λ w. atom_at r a.1 w t.bytes t.place k) e)

pub names : {l r : ℕ} {a b : Left} {t : Lex} {k : Expr → Mode} {w : List ℕ} → Takes a t b → t.lexeme ≡ x.Name → w ≡ t.bytes → Moves l r a (atom k) r b (k (expr.Var (named w t.place)))
names {r = r} {a = a} {t = t} {k = k} h e f = goes h (ap (λ w. atom_at r a.1 w t.bytes t.place k) e ∙ ap (λ w. go r a.1 (k (expr.Var (named w t.place)))) (sym f))

abbrev pub in_brackets : (Expr → Mode) → Mode
in_brackets k = want 5 (λ e. pass fixed.Close (λ _. leave (k e)))

pub opens : {l r : ℕ} {a b : Left} {t : Lex} {k : Expr → Mode} → r ≢ 0 → Takes a t b → t.lexeme ≡ x.Fixed fixed.Open → Moves l r a (atom k) (r - 1) b (in_brackets k)
opens {r = r} {a = a} {t = t} {k = k} p h e =
    goes h (ap (λ w. atom_at r a.1 w t.bytes t.place k) e ∙ ap (λ s. open_bracket s a.1 (λ _. in_brackets k) t.place) (positive r p))

pub opens_deep : {l r : ℕ} {a : Left} {t : Lex} {k : Expr → Mode} → Sees a t → r ≡ 0 → t.lexeme ≡ x.Fixed fixed.Open → Fails l r a (atom k) (refusal.TooDeep t.place)
opens_deep {r = r} {a = a} {t = t} {k = k} s z e =
    deepens s (ap (λ w. atom_at r a.1 w t.bytes t.place k) e ∙ ap (λ n. open_bracket n a.1 (λ _. in_brackets k) t.place) z)

-- out of a bracket again
pub closes : {l r : ℕ} {a : Left} {m : Mode} → r ≢ 0 → Moves l (r - 1) a (leave m) r a m
closes {l = l} {r = r} {a = a} {m = m} p = same _ _ _ _ _ _ (λ t. ap (λ s. step l s a.1 m t) (sym (positive r p)))

atom-else : (r o : ℕ) (w : Lexeme) (bs : List ℕ) (p : Place) (k : Expr → Mode) → ((n : ℕ) → w ≢ x.Number n) → ((b : Bool) → w ≢ x.Truth b) → w ≢ x.Name → w ≢ x.Fixed fixed.Open → atom_at r o w bs p k ≡ stop
atom-else r o (x.Number n) bs p k a b c d = absurd (a n refl)
atom-else r o (x.Truth y) bs p k a b c d = absurd (b y refl)
atom-else r o x.Name bs p k a b c d = absurd (c refl)
atom-else r o (x.Fixed fixed.Open) bs p k a b c d = absurd (d refl)
atom-else r o _ bs p k a b c d = refl

pub no_atom : {l r : ℕ} {a : Left} {t : Lex} {k : Expr → Mode} → Sees a t → ((n : ℕ) → t.lexeme ≢ x.Number n) → ((b : Bool) → t.lexeme ≢ x.Truth b) → t.lexeme ≢ x.Name → t.lexeme ≢ x.Fixed fixed.Open → Fails l r a (atom k) (refusal.At t.place)
no_atom {r = r} {a = a} {t = t} {k = k} s e f g h = stops s (atom-else r a.1 t.lexeme t.bytes t.place k e f g h)

-- ---- unary expressions

unary-else : (r o : ℕ) (w : Lexeme) (bs : List ℕ) (p : Place) (k : Expr → Mode) → w ≢ x.Fixed fixed.Not → arity_of w ≡ None → w ≢ x.Fixed fixed.Zeros
    → ((c : Calc) → w ≢ x.Calculates c) → w ≢ x.Empty → unary_at r o w bs p k ≡ atom_at r o w bs p k
unary-else r o (x.Fixed fixed.Not) bs p k a b c d e = absurd (a refl)
unary-else r o (x.Fixed fixed.Set) bs p k a b c d e = absurd cc
unary-else r o (x.Fixed fixed.Zeros) bs p k a b c d e = absurd (c refl)
unary-else r o (x.Applies n) bs p k a b c d e = absurd cc
unary-else r o (x.Calculates n) bs p k a b c d e = absurd (d n refl)
unary-else r o x.Empty bs p k a b c d e = absurd (e refl)
unary-else r o _ bs p k a b c d e = refl

pub no_arity : {o : Option ℕ} (w : Lexeme) → o ≡ arity_of w → ((n : ℕ) → o ≢ Some n) → arity_of w ≡ None
no_arity {o = None} w e h = sym e
no_arity {o = Some n} w e h = absurd (h n refl)

-- where no sign and no word stands, an atom comes
pub plain : {l r : ℕ} {a : Left} {t : Lex} {k : Expr → Mode} → Sees a t → t.lexeme ≢ x.Fixed fixed.Not → arity_of t.lexeme ≡ None → t.lexeme ≢ x.Fixed fixed.Zeros
    → ((c : Calc) → t.lexeme ≢ x.Calculates c) → t.lexeme ≢ x.Empty → Moves l r a (want 0 k) r a (atom k)
plain {r = r} {a = a} {t = t} {k = k} s f g h i j = alike s (unary-else r a.1 t.lexeme t.bytes t.place k f g h i j)

applied : (r o n : ℕ) (w : Lexeme) (bs : List ℕ) (p : Place) (k : Expr → Mode) → arity_of w ≡ Some n → unary_at r o w bs p k ≡ go r o (atoms p bs [] n k)
applied r o n (x.Applies m) bs p k e = let f : m ≡ n = cc in ap (λ j. go r o (atoms p bs [] j k)) f
applied r o n (x.Fixed fixed.Set) bs p k e = let f : 3 ≡ n = cc in ap (λ j. go r o (atoms p bs [] j k)) f
applied r o n _ bs p k e = absurd cc

pub applies : {l r n : ℕ} {a b : Left} {t : Lex} {k : Expr → Mode} {w : List ℕ} → Takes a t b → arity_of t.lexeme ≡ Some n → w ≡ t.bytes → Moves l r a (want 0 k) r b (atoms t.place w [] n k)
applies {r = r} {n = n} {a = a} {t = t} {k = k} h e f = goes h (applied r a.1 n t.lexeme t.bytes t.place k e ∙ ap (λ w. go r a.1 (atoms t.place w [] n k)) (sym f))

pub zeros_at : {l r : ℕ} {a b : Left} {t : Lex} {k : Expr → Mode} {w : List ℕ} → Takes a t b → t.lexeme ≡ x.Fixed fixed.Zeros → w ≡ t.bytes → Moves l r a (want 0 k) r b (atom (λ e. made t.place w (e ∷ []) k))
zeros_at {r = r} {a = a} {t = t} {k = k} h e f = goes h (ap (λ w. unary_at r a.1 w t.bytes t.place k) e ∙ ap (λ w. go r a.1 (atom (λ e. made t.place w (e ∷ []) k))) (sym f))

pub calculates : {l r : ℕ} {c : Calc} {a b : Left} {t : Lex} {k : Expr → Mode} → Takes a t b → t.lexeme ≡ x.Calculates c → Moves l r a (want 0 k) r b (atom (λ y. atom (λ z. k (expr.Binary t.place c y z))))
calculates {r = r} {a = a} {t = t} {k = k} h e = goes h (ap (λ w. unary_at r a.1 w t.bytes t.place k) e)

pub empties : {l r : ℕ} {a b : Left} {t : Lex} {k : Expr → Mode} {w : List ℕ} → Takes a t b → t.lexeme ≡ x.Empty → w ≡ t.bytes → Moves l r a (want 0 k) r b (made t.place w [] k)
empties {r = r} {a = a} {t = t} {k = k} h e f = goes h (ap (λ w. unary_at r a.1 w t.bytes t.place k) e ∙ ap (λ w. go r a.1 (made t.place w [] k)) (sym f))

abbrev pub negation : Place → (Expr → Mode) → Mode
negation p k = want 0 (λ e. k (expr.Not p e))

pub negates : {l r : ℕ} {a b : Left} {t : Lex} {k : Expr → Mode} → Pays a t b → t.lexeme ≡ x.Fixed fixed.Not → Moves l r a (want 0 k) r b (negation t.place k)
negates {r = r} {b = b} {t = t} {k = k} h e = goes_paid h (ap (λ w. unary_at r (suc b.1) w t.bytes t.place k) e)

pub negates_deep : {l r : ℕ} {a : Left} {t : Lex} {k : Expr → Mode} → Sees a t → a.1 ≡ 0 → t.lexeme ≡ x.Fixed fixed.Not → Fails l r a (want 0 k) (refusal.TooDeep t.place)
negates_deep {r = r} {a = a} {t = t} {k = k} s z e = deepens s (ap (λ w. unary_at r a.1 w t.bytes t.place k) e ∙ ap (λ o. spend r o (negation t.place k)) z)

-- ---- binary signs

-- an expression of any looseness begins with a unary one
pub begins : {l r m : ℕ} {a : Left} {t : Lex} {k : Expr → Mode} → Sees a t → Moves l r a (want m k) r a (want 0 (opened m t.place k))
begins s = alike s refl

pub looser : {l r m : ℕ} {a : Left} (e : Expr) (p : Place) (k : Expr → Mode) → m ≢ 0 → Moves l r a (opened m p k e) r a (opened (m - 1) p (λ y. tail (m - 1) p y k) e)
looser {l = l} {r = r} {m = m} {a = a} e p k h = record { runs = ap (λ n. run l r a.1 (opened n p k e) a.0) (positive m h) }

-- a sign of this looseness
pub joins : {l r m : ℕ} {w : Calc} {a b : Left} {t : Lex} {p : Place} {e : Expr} {k : Expr → Mode} → Pays a t b → t.lexeme ≡ x.Sign w → looseness w ≡ suc m
    → Moves l r a (tail m p e k) r b (right_of m p e w k)
joins {l = l} {r = r} {m = m} {w = w} {b = b} {t = t} {p = p} {e = e} {k = k} h i f =
    goes_paid h (ap (λ v. sign_or r (suc b.1) m p e k v (step l r (suc b.1) (k e) t)) i
    ∙ ap (λ c. cond c (spend r (suc b.1) (right_of m p e w k)) (step l r (suc b.1) (k e) t)) (eq-eqb (looseness w) (suc m) f))

pub joins_deep : {l r m : ℕ} {w : Calc} {a : Left} {t : Lex} {p : Place} {e : Expr} {k : Expr → Mode} → Sees a t → a.1 ≡ 0 → t.lexeme ≡ x.Sign w → looseness w ≡ suc m
    → Fails l r a (tail m p e k) (refusal.TooDeep t.place)
joins_deep {l = l} {r = r} {m = m} {w = w} {a = a} {t = t} {p = p} {e = e} {k = k} h z i f =
    deepens h (ap (λ v. sign_or r a.1 m p e k v (step l r a.1 (k e) t)) i
    ∙ (ap (λ c. cond c (spend r a.1 (right_of m p e w k)) (step l r a.1 (k e) t)) (eq-eqb (looseness w) (suc m) f) ∙ ap (λ o. spend r o (right_of m p e w k)) z))

over : (r o m : ℕ) (p : Place) (e : Expr) (k : Expr → Mode) (w : Lexeme) (other : Next) → ((v : Calc) → w ≡ x.Sign v → looseness v ≢ suc m) → sign_or r o m p e k w other ≡ other
over r o m p e k (x.Sign v) other h = ap (λ b. cond b (spend r o (right_of m p e v k)) other) (ne_eqb (looseness v) (suc m) (h v refl))
over r o m p e k _ other h = refl

-- where no sign of this looseness comes, the expression is whole
pub stays : {l r m : ℕ} {a : Left} {t : Lex} {p : Place} {e : Expr} {k : Expr → Mode} → Sees a t → ((v : Calc) → t.lexeme ≡ x.Sign v → looseness v ≢ suc m) → Moves l r a (tail m p e k) r a (k e)
stays {l = l} {r = r} {m = m} {a = a} {t = t} {p = p} {e = e} {k = k} s h = alike s (over r a.1 m p e k t.lexeme (step l r a.1 (k e) t) h)

chains : (n : ℕ) → n ≢ 2 → is_chain (suc n) ≡ true
chains n g = ap not_of (ne_eqb (suc n) 3 (λ e. g (omega (arith, e))))
  where
    not_of : Bool → Bool
    not_of true = false
    not_of false = true

-- behind the right side of a sign
abbrev pub behind_right : ℕ → Place → Expr → Calc → (Expr → Mode) → Expr → Mode
behind_right m p e w k y = cond (is_chain (suc m)) (tail m p (expr.Binary p w e y) k) (k (expr.Binary p w e y))

pub chained : {l r m : ℕ} {w : Calc} {a : Left} {p : Place} (e y : Expr) {k : Expr → Mode} → m ≢ 2 → Moves l r a (behind_right m p e w k y) r a (tail m p (expr.Binary p w e y) k)
chained {l = l} {r = r} {m = m} {w = w} {a = a} {p = p} e y {k = k} h =
    same _ _ _ _ _ _ (λ t. ap (λ b. step l r a.1 (cond b (tail m p (expr.Binary p w e y) k) (k (expr.Binary p w e y))) t) (chains m h))

pub compared : {l r m : ℕ} {w : Calc} {a : Left} {p : Place} (e y : Expr) (k : Expr → Mode) → m ≡ 2 → Moves l r a (behind_right m p e w k y) r a (k (expr.Binary p w e y))
compared {l = l} {r = r} {m = m} {w = w} {a = a} {p = p} e y k h =
    same _ _ _ _ _ _ (λ t. ap (λ n. step l r a.1 (cond (is_chain (suc n)) (tail m p (expr.Binary p w e y) k) (k (expr.Binary p w e y))) t) h)

pub not_sign : {w : Lexeme} {m : ℕ} → ((v : Calc) → w ≢ x.Sign v) → (v : Calc) → w ≡ x.Sign v → looseness v ≢ m
not_sign h v e = absurd (h v e)

sign_of : Lexeme → Calc → ℕ
sign_of (x.Sign v) w = looseness v
sign_of _ w = looseness w

pub other_sign : {n m : ℕ} {w : Lexeme} {u : Calc} → m ≢ 0 → w ≡ x.Sign u → n ≡ looseness u → n ≢ m → (v : Calc) → w ≡ x.Sign v → looseness v ≢ suc (m - 1)
unfolding sign_of
other_sign {w = w} {u = u} z e f g v h i =
    let s : looseness u ≡ looseness v = sym (ap (λ y. sign_of y u) e) ∙ ap (λ y. sign_of y u) h in
    g (omega (arith, f, s, i))

pub this_sign : {n m : ℕ} (u : Calc) → m ≢ 0 → n ≡ looseness u → n ≡ m → looseness u ≡ suc (m - 1)
this_sign u z f g = omega (arith, f, g)

-- ---- arguments

pub arg_comes : {l r : ℕ} {a : Left} (p : Place) (w : List ℕ) (es : List Expr) (k : Expr → Mode) (n m : ℕ) → m < n
    → Moves l r a (atoms p w es (n - m) k) r a (atom (λ e. atoms p w (es ++ e ∷ []) (n - (m + 1)) k))
arg_comes {l = l} {r = r} {a = a} p w es k n m h =
    let e : n - m ≡ suc (n - (m + 1)) = omega (arith, h) in
    record { runs = ap (λ j. run l r a.1 (atoms p w es j k) a.0) e }

pub no_arg : {l r : ℕ} {a : Left} (p : Place) (w : List ℕ) (es : List Expr) (k : Expr → Mode) (n m : ℕ) → n ≤ m
    → Moves l r a (atoms p w es (n - m) k) r a (k (expr.Apply p w es None))
no_arg {l = l} {r = r} {a = a} p w es k n m h =
    let e : n - m ≡ 0 = omega (arith, h) in
    record { runs = ap (λ j. run l r a.1 (atoms p w es j k) a.0) e }
