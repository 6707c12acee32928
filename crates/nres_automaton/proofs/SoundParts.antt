-- What a token leads to is meant before it: expressions.
use Rattle.std.proofs.Common.{◌≡◌, ℕ, zero, suc, ◌+◌, Bool, true, false, cond, nat_eq, List, [], ◌∷◌, ◌++◌, Some, None, codes, refl, ap, ◌∙◌, sym, subst, arith, append_assoc, append-nil, zero-add, add-zero}
use Rattle.std.proofs.lemmas.Bool.{false≢true, eqb-true}
use Rattle.target_code.specs.declared.tree.Calc.{Calc}
use Rattle.nres_core.specs.Grammar as g
use Rattle.nres_core.specs.Grammar.{IsRep, IsExpr, IsAtom, AreAtoms, IsWhole, is_chain}
use Rattle.nres_core.specs.Vocabulary.{Tok, word, sign, place_of, binary_sign, is_empty_word, calc_word, arity}
use Rattle.nres_core.specs.declared.place.Place.{Place}
use Rattle.nres_core.specs.declared.tree.Expr.{Expr}
use Rattle.nres_core.specs.declared.tree.Expr.TheVariants as expr
use Rattle.nres_automaton.specs.Automaton as mode
use Rattle.nres_automaton.specs.Automaton.{Found, Mode, Next, go, done, stop, deep, step, opened, atoms, made, looseness, spend, right_of, sign_or}
use Rattle.nres_automaton.specs.declared.lexeme.Fixed.TheVariants as fixed
use Rattle.nres_automaton.specs.declared.lexeme.Lexeme.{Lexeme}
use Rattle.nres_automaton.specs.declared.lexeme.Lexeme.TheVariants as x
use Rattle.nres_automaton.proofs.Tokens.{Is}
use Rattle.nres_automaton.proofs.Tokens as tokens
use Rattle.nres_automaton.proofs.Runs.{seen}
use Rattle.nres_automaton.proofs.Complete.{gathered, atoms-gathered}
use Rattle.nres_automaton.proofs.Means.{Means, Leads, Tail, ends, in_row, alone, passes, a_rep, wants, wants_atom, tails, leaves}

-- from where a token leads, back to before it
abbrev pub Back : ℕ → ℕ → ℕ → Mode → Lexeme → List Tok → Found → Tok → Type 0
Back l r o n v ts y t = Leads l (step l r o n (seen v t.bytes t.place)) ts y → Means l n r o (t ∷ ts) y

-- ---- signs

placed : {r o j : ℕ} {p : Place} {ts mid : List Tok} (w : Calc) (a b : Expr) → p ≡ place_of ts → IsExpr r o j ts mid (expr.Binary (place_of ts) w a b) → IsExpr r o j ts mid (expr.Binary p w a b)
placed {r = r} {o = o} {j = j} {ts = ts} {mid = mid} w a b s d = subst (λ z. IsExpr r o j ts mid (expr.Binary z w a b)) (sym s) d

folds : {r o n m : ℕ} {p : Place} {a e : Expr} {ts mid rest : List Tok} → is_chain (suc m) ≡ true → p ≡ place_of ts → IsExpr r o (suc m) ts mid a → Tail r n m p a mid rest e → IsExpr r (o + n) (suc m) ts rest e
folds {r = r} {o = o} {m = m} {e = e} {ts = ts} {rest = rest} i s d ends = subst (λ z. IsExpr r z (suc m) ts rest e) (sym (add-zero o)) d
folds {r = r} {o = o} {m = m} {a = a} {e = e} {ts = ts} {rest = rest} i s d (in_row {u = u} {n = n} {w = w} {b = c} j f b tl) =
    subst (λ z. IsExpr r z (suc m) ts rest e) (let s : (o + suc u) + n ≡ o + suc (u + n) = omega arith in s) (folds i s (placed w a c s (g.chain i f d b)) tl)
folds i s d (alone j f b) = absurd (false≢true (sym j ∙ i))

pub gathers : {r o n m : ℕ} {p : Place} {a e : Expr} {ts mid rest : List Tok} → p ≡ place_of ts → IsExpr r o m ts mid a → Tail r n m p a mid rest e → IsExpr r (o + n) (suc m) ts rest e
gathers {r = r} {o = o} {m = m} {e = e} {ts = ts} {rest = rest} s d ends = subst (λ z. IsExpr r z (suc m) ts rest e) (sym (add-zero o)) (g.tighter d)
gathers {r = r} {o = o} {m = m} {a = a} {e = e} {ts = ts} {rest = rest} s d (in_row {u = u} {n = n} {w = w} {b = c} j f b tl) =
    subst (λ z. IsExpr r z (suc m) ts rest e) (let s : (o + suc u) + n ≡ o + suc (u + n) = omega arith in s) (folds j s (placed w a c s (g.chain j f (g.tighter d) b)) tl)
gathers {a = a} s d (alone {w = w} {b = c} j f b) = placed w a c s (g.compare j f d b)

loosened : {l r d m : ℕ} {k : Expr → Mode} {ts : List Tok} {y : Found} → Means l (mode.want m (λ e. mode.tail m (place_of ts) e k)) r d ts y → Means l (mode.want (suc m) k) r d ts y
loosened (wants {o = o} d i (tails {n = n} tl j h)) = wants (gathers refl d tl) (omega arith) h

-- an expression that was begun as a unary one
pub opens : (m : ℕ) {l r d : ℕ} {ts : List Tok} {y : Found} (k : Expr → Mode) → Means l (mode.want 0 (opened m (place_of ts) k)) r d ts y → Means l (mode.want m k) r d ts y
opens zero k h = h
opens (suc m) {ts = ts} k h = loosened (opens m (λ e. mode.tail m (place_of ts) e k) h)

right_means : {l r d m : ℕ} {p q : Place} {a : Expr} {k : Expr → Mode} {s : List ℕ} {v : Calc} {ts : List Tok} {y : Found} (b : Bool) → is_chain (suc m) ≡ b → binary_sign s ≡ Some (v, suc m)
    → Means l (mode.want m (λ e. cond b (mode.tail m p (expr.Binary p v a e) k) (k (expr.Binary p v a e)))) r d ts y → Means l (mode.tail m p a k) r (suc d) (sign s q ∷ ts) y
right_means true i f (wants d j (tails tl e h)) = tails (in_row i f d tl) (omega arith) h
right_means false i f (wants d j h) = tails (alone i f d) (omega arith) h

sign_means : {l r m : ℕ} {p : Place} {a : Expr} {k : Expr → Mode} {s : List ℕ} {q : Place} {v : Calc} {ts : List Tok} {y : Found} (o : ℕ) → binary_sign s ≡ Some (v, suc m)
    → Leads l (spend r o (right_of m p a v k)) ts y → Means l (mode.tail m p a k) r o (sign s q ∷ ts) y
sign_means zero f h = absurd h
sign_means {m = m} (suc o) f h = right_means (is_chain (suc m)) refl f h

pub sound_tail : {l r o m : ℕ} {p : Place} {a : Expr} {k : Expr → Mode} {ts : List Tok} {y : Found} (v : Lexeme) (t : Tok) (other : Next) → Is v t → (Leads l other ts y → Means l (k a) r o (t ∷ ts) y)
    → Leads l (sign_or r o m p a k v other) ts y → Means l (mode.tail m p a k) r o (t ∷ ts) y
sound_tail {l = l} {r = r} {o = o} {m = m} {p = p} {a = a} {k = k} {ts = ts} {y = y} (x.Sign c) t other i f h = pick (nat_eq (looseness c) (suc m)) refl h
  where
    pick : (b : Bool) → nat_eq (looseness c) (suc m) ≡ b → Leads l (cond b (spend r o (right_of m p a c k)) other) ts y → Means l (mode.tail m p a k) r o (t ∷ ts) y
    pick true e h =
        subst (λ u. Means l (mode.tail m p a k) r o (u ∷ ts) y) (sym i.0)
        (sign_means o (i.1 ∙ ap (λ z. Some (c, z)) (eqb-true (looseness c) (suc m) e)) h)
    pick false e h = tails ends (sym (zero-add o)) (f h)
sound_tail {o = o} _ t other i f h = tails ends (sym (zero-add o)) (f h)

-- ---- atoms and unary expressions

closed_means : {l d r : ℕ} {k : Expr → Mode} {p : Place} {ts : List Tok} {y : Found} → Means l (mode.want 5 (λ e. mode.pass fixed.Close (λ _. mode.leave (k e)))) r d ts y → Means l (mode.atom k) (suc r) d (sign (codes "(") p ∷ ts) y
closed_means (wants d i (passes q (leaves h))) = wants_atom (g.brackets d) i h

bracket_means : {l d : ℕ} {k : Expr → Mode} {p : Place} {ts : List Tok} {y : Found} (r : ℕ) → Leads l (mode.open_bracket r d (λ _. mode.want 5 (λ e. mode.pass fixed.Close (λ _. mode.leave (k e)))) p) ts y
    → Means l (mode.atom k) r d (sign (codes "(") p ∷ ts) y
bracket_means zero h = absurd h
bracket_means (suc r) h = closed_means h

-- atoms behind these
pub record Gathered (l r d n : ℕ) (before : List Expr) (k : List Expr → Mode) (ts : List Tok) (y : Found) : Type 0 where
  pub used : ℕ
  pub left : ℕ
  pub rest : List Tok
  pub parts : List Expr
  pub are : AreAtoms r used n ts rest parts
  pub adds : d ≡ used + left
  pub means : Means l (k (before ++ parts)) r left rest y

one_more : {l r d o c n : ℕ} {before : List Expr} {k : List Expr → Mode} {e : Expr} {ts mid : List Tok} {y : Found} → IsAtom r o ts mid e → d ≡ o + c → Gathered l r c n (before ++ e ∷ []) k mid y → Gathered l r d (suc n) before k ts y
one_more {l = l} {r = r} {before = before} {k = k} {e = e} {y = y} a i f = record {
  used = _;
  left = f.left;
  rest = f.rest;
  parts = e ∷ f.parts;
  are = g.more a f.are;
  adds = omega (arith, f.adds);
  means = subst (λ z. Means l (k z) r f.left f.rest y) (append_assoc before (e ∷ []) f.parts) f.means;
}

pub ungather : (n : ℕ) {l r d : ℕ} {ts : List Tok} {y : Found} (before : List Expr) (k : List Expr → Mode) → Means l (gathered before n k) r d ts y → Gathered l r d n before k ts y
ungather zero {l = l} {r = r} {d = d} {ts = ts} {y = y} before k h = record {
  used = 0;
  left = d;
  rest = ts;
  parts = [];
  are = g.none;
  adds = sym (zero-add d);
  means = subst (λ z. Means l (k z) r d ts y) (sym (append-nil before)) h;
}
ungather (suc n) before k (wants_atom {e = e} a i h) = one_more a i (ungather n (before ++ e ∷ []) k h)

applied : {l r d n : ℕ} {k : Expr → Mode} {p : Place} {w : List ℕ} {ts : List Tok} {y : Found} → arity w ≡ Some n → Means l (atoms p w [] n k) r d ts y → Means l (mode.want 0 k) r d (word w p ∷ ts) y
applied {l = l} {r = r} {d = d} {n = n} {k = k} {p = p} {w = w} {ts = ts} {y = y} i h =
    let f = ungather n [] (λ es. k (expr.Apply p w es None)) (subst (λ z. Means l z r d ts y) (atoms-gathered p w [] n k) h) in
    wants (g.applies i f.are) f.adds f.means

calculated : {l r d : ℕ} {k : Expr → Mode} {p : Place} {w : List ℕ} {c : Calc} {ts : List Tok} {y : Found} → calc_word w ≡ Some c
    → Means l (mode.atom (λ a. mode.atom (λ b. k (expr.Binary p c a b)))) r d ts y → Means l (mode.want 0 k) r d (word w p ∷ ts) y
calculated i (wants_atom a e (wants_atom b f h)) = wants (g.calculates i (g.more a (g.more b g.none))) (omega arith) h

made_means : {l r d : ℕ} {k : Expr → Mode} {p : Place} {w : List ℕ} {ts : List Tok} {y : Found} → is_empty_word w ≡ true → Means l (made p w [] k) r d ts y → Means l (mode.want 0 k) r d (word w p ∷ ts) y
made_means {d = d} i (passes q (a_rep z h)) = wants (g.empty i z) (sym (zero-add d)) h

zeros_mean : {l r d : ℕ} {k : Expr → Mode} {p : Place} {ts : List Tok} {y : Found} → Means l (mode.atom (λ e. made p (codes "zeros") (e ∷ []) k)) r d ts y → Means l (mode.want 0 k) r d (word (codes "zeros") p ∷ ts) y
zeros_mean (wants_atom a i (passes q (a_rep z h))) = wants (g.zeros a z) i h

negated_means : {l r d : ℕ} {k : Expr → Mode} {p : Place} {ts : List Tok} {y : Found} → Means l (mode.want 0 (λ e. k (expr.Not p e))) r d ts y → Means l (mode.want 0 k) r (suc d) (sign (codes "!") p ∷ ts) y
negated_means (wants d i h) = wants (g.negated d) (omega arith) h

not_means : {l r : ℕ} {k : Expr → Mode} {p : Place} {ts : List Tok} {y : Found} (d : ℕ) → Leads l (spend r d (mode.want 0 (λ e. k (expr.Not p e)))) ts y → Means l (mode.want 0 k) r d (sign (codes "!") p ∷ ts) y
not_means zero h = absurd h
not_means (suc d) h = negated_means h

unatom : {l r d : ℕ} {k : Expr → Mode} {ts : List Tok} {y : Found} → Means l (mode.atom k) r d ts y → Means l (mode.want 0 k) r d ts y
unatom (wants_atom a i h) = wants (g.atom a) i h

pub sound_atom : {l r o : ℕ} {k : Expr → Mode} {ts : List Tok} {y : Found} (v : Lexeme) (t : Tok) → Is v t → Back l r o (mode.atom k) v ts y t
sound_atom {l = l} {r = r} {o = o} {k = k} {ts = ts} {y = y} (x.Number n) t i = subst (Back l r o (mode.atom k) (x.Number n) ts y) (sym i) (λ h. wants_atom g.numeral (sym (zero-add o)) h)
sound_atom {l = l} {r = r} {o = o} {k = k} {ts = ts} {y = y} (x.Truth b) t i = subst (Back l r o (mode.atom k) (x.Truth b) ts y) (sym i.0) (λ h. wants_atom (g.truth i.1) (sym (zero-add o)) h)
sound_atom {l = l} {r = r} {o = o} {k = k} {ts = ts} {y = y} x.Name t i = subst (Back l r o (mode.atom k) x.Name ts y) (sym i) (λ h. wants_atom g.variable (sym (zero-add o)) h)
sound_atom {l = l} {r = r} {o = o} {k = k} {ts = ts} {y = y} (x.Fixed fixed.Open) t i = subst (Back l r o (mode.atom k) (x.Fixed fixed.Open) ts y) (sym i) (λ h. bracket_means r h)
sound_atom _ t i = λ h. absurd h

pub sound_unary : {l r o : ℕ} {k : Expr → Mode} {ts : List Tok} {y : Found} (v : Lexeme) (t : Tok) → Is v t → Back l r o (mode.want 0 k) v ts y t
sound_unary {l = l} {r = r} {o = o} {k = k} {ts = ts} {y = y} (x.Fixed fixed.Not) t i = subst (Back l r o (mode.want 0 k) (x.Fixed fixed.Not) ts y) (sym i) (λ h. not_means o h)
sound_unary {l = l} {r = r} {o = o} {k = k} {ts = ts} {y = y} (x.Fixed fixed.Set) t i = subst (Back l r o (mode.want 0 k) (x.Fixed fixed.Set) ts y) (sym i) (λ h. applied tokens.set_arity h)
sound_unary {l = l} {r = r} {o = o} {k = k} {ts = ts} {y = y} (x.Fixed fixed.Zeros) t i = subst (Back l r o (mode.want 0 k) (x.Fixed fixed.Zeros) ts y) (sym i) (λ h. zeros_mean h)
sound_unary {l = l} {r = r} {o = o} {k = k} {ts = ts} {y = y} (x.Applies n) t i = subst (Back l r o (mode.want 0 k) (x.Applies n) ts y) (sym i.0) (λ h. applied i.1 h)
sound_unary {l = l} {r = r} {o = o} {k = k} {ts = ts} {y = y} (x.Calculates c) t i = subst (Back l r o (mode.want 0 k) (x.Calculates c) ts y) (sym i.0) (λ h. calculated i.1 h)
sound_unary {l = l} {r = r} {o = o} {k = k} {ts = ts} {y = y} x.Empty t i = subst (Back l r o (mode.want 0 k) x.Empty ts y) (sym i.0) (λ h. made_means i.1 h)
sound_unary v t i = λ h. unatom (sound_atom v t i h)

-- an expression of looseness m begins
pub sound_want : {l r o : ℕ} {ts : List Tok} {y : Found} (m : ℕ) (k : Expr → Mode) (v : Lexeme) (t : Tok) → Is v t → Back l r o (mode.want m k) v ts y t
sound_want m k v t i = λ h. opens m k (sound_unary v t i h)
