-- The automaton reads each expression of the grammar.
use Rattle.std.proofs.Common.{◌≡◌, ◌≢◌, ◌⊎◌, inl, inr, ℕ, zero, suc, ◌+◌, ◌≤◌, Bool, true, false, cond, ◌&&◌, nat_le, List, [], ◌∷◌, ◌++◌, Some, None, codes, refl, ap, ◌∙◌, sym, subst, arith, append_assoc, append-nil, zero-add}
use Rattle.target_code.specs.declared.tree.Calc.{Calc}
use Rattle.target_code.specs.declared.tree.Rep.{Rep}
use Rattle.nres_core.specs.Grammar as g
use Rattle.nres_core.specs.Grammar.{IsRep, IsExpr, IsAtom, AreAtoms, is_chain, chosen}
use Rattle.nres_core.specs.Vocabulary.{Tok, word, place_of}
use Rattle.nres_core.specs.declared.place.Place.{Place}
use Rattle.nres_core.specs.declared.token.TokenKind.TheVariants as kind
use Rattle.nres_core.specs.declared.tree.Expr.{Expr}
use Rattle.nres_core.specs.declared.tree.Expr.TheVariants as expr
use Rattle.nres_automaton.specs.Lexemes.{lexeme_of}
use Rattle.nres_automaton.specs.Automaton as m
use Rattle.nres_automaton.specs.Automaton.{Mode, want, atom, tail, rep, bound, bound_of, looseness, atoms, made, opened, run, right_of}
use Rattle.nres_automaton.specs.declared.lexeme.Fixed.TheVariants as fixed
use Rattle.nres_automaton.specs.declared.lexeme.Lexeme.{Lexeme}
use Rattle.nres_automaton.specs.declared.lexeme.Lexeme.TheVariants as x
use Rattle.std.proofs.lemmas.Bool.Decides.{nat_tests}
use Rattle.std.proofs.Math.Path.{fun_ext}
use Rattle.nres_automaton.proofs.Tokens as t
use Rattle.nres_automaton.proofs.Runs.{Goes, ◌then◌, stay, back, counts, renames, alike, reads, first_lexeme, passes, leaves, settles, joins, Unlike}

-- what comes behind what is read at this looseness
abbrev pub top : ℕ → Place → (Expr → Mode) → Expr → Mode
top zero p k = k
top (suc m) p k = λ e. tail m p e k

abbrev pub least : ℕ → ℕ
least m = cond (is_chain m) m (suc m)

-- no sign comes that would go on inside
pub record Quiet (m : ℕ) (ts : List Tok) : Type 0 where
  pub above : (w : Calc) → first_lexeme ts ≡ x.Sign w → least m ≤ looseness w

-- no sign comes
abbrev pub is_sign : Lexeme → Bool
is_sign (x.Sign w) = true
is_sign _ = false

pub record NoSign (ts : List Tok) : Type 0 where
  pub none : is_sign (first_lexeme ts) ≡ false

pub no_sign : {ts : List Tok} {w : Calc} → NoSign ts → first_lexeme ts ≡ x.Sign w → ⊥
no_sign h i = let e = h.none in let f = ap is_sign i in cc

pub quiet : {m : ℕ} {ts : List Tok} → NoSign ts → Quiet m ts
quiet h = record { above = λ w i. absurd (no_sign h i) }

pub silent : {t : Tok} {ts : List Tok} (v : Lexeme) → lexeme_of t.kind t.bytes ≡ v → is_sign v ≡ false → NoSign (t ∷ ts)
silent v e h = record { none = ap is_sign e ∙ h }

pub least-le : (m : ℕ) → least m ≤ suc m
least-le m = go (is_chain m)
  where
    go : (b : Bool) → cond b m (suc m) ≤ suc m
    go true = omega arith
    go false = omega arith

le-least : (m : ℕ) → m ≤ least m
le-least m = go (is_chain m)
  where
    go : (b : Bool) → m ≤ cond b m (suc m)
    go true = omega arith
    go false = omega arith

pub least_chain : (m : ℕ) → is_chain m ≡ true → least m ≡ m
least_chain m h = ap (λ b. cond b m (suc m)) h

pub least_alone : (m : ℕ) → is_chain m ≡ false → least m ≡ suc m
least_alone m h = ap (λ b. cond b m (suc m)) h

pub quieter : {m : ℕ} {ts : List Tok} → Quiet (suc m) ts → Quiet m ts
quieter {m = m} h = record { above = λ w e. omega (arith, h.above w e, le-least (suc m), least-le m) }

pub unlike : {m : ℕ} {ts : List Tok} → Quiet (suc m) ts → Unlike m ts
unlike {m = m} h = record { differs = λ w e. omega (arith, h.above w e, le-least (suc m)) }

same_sign : {v w : Calc} → x.Sign w ≡ x.Sign v → w ≡ v
same_sign e = cc

-- a sign of looseness n comes
pub sign_first : {m n : ℕ} {ts : List Tok} {w : Calc} → first_lexeme ts ≡ x.Sign w → looseness w ≡ n → least m ≤ n → Quiet m ts
sign_first {m = m} {n = n} i e h = record { above = λ v j. subst (λ z. least m ≤ looseness z) (same_sign (sym i ∙ j)) (omega arith) }

pub sign_unlike : {m n : ℕ} {ts : List Tok} {w : Calc} → first_lexeme ts ≡ x.Sign w → looseness w ≡ n → n ≢ m → Unlike m ts
sign_unlike {m = m} {n = n} i e h = record { differs = λ v j. subst (λ z. looseness z ≢ m) (same_sign (sym i ∙ j)) (omega arith) }

pub sheds : {q : Place} {l r c : ℕ} {e : Expr} {ts : List Tok} (m : ℕ) (p : Place) (k : Expr → Mode) → Unlike m ts → Goes q l r c (top m p k e) ts r c (k e) ts
sheds zero p k h = stay
sheds (suc m) p k h = settles h

looser : {q : Place} {l r c m : ℕ} {k : Expr → Mode} (ts : List Tok) → Goes q l r c (want (suc m) k) ts r c (want m (λ e. tail m (place_of ts) e k)) ts
unfolding run
looser [] = record { runs = refl }
looser (t ∷ ts) = record { runs = refl }

-- ---- representations

pub reps : {q : Place} {l r c : ℕ} {ts rest : List Tok} {y : Rep} → IsRep ts rest y → (k : Rep → Place → Mode) → Goes q l r c (rep k) ts r c (k y (place_of ts)) rest
reps (g.unbounded {w = w} {x = y} h) k = reads (x.Unbounded y) (t.lex_rep w y h) refl
reps {q = q} {l = l} {r = r} {c = c} (g.bounded {rest = rest} {p = p} {q = s} {w = w} {d = d} {u = u} {x = y} h a b) k =
    let f = t.lex_bound w u y h in
    reads (x.Bounded f.0) f.1 refl then reads (x.Number u) refl (ap (λ z. cond z (m.go r c (k (bound_of f.0 u) p)) m.stop) (within u a b))
    then renames (ap (λ z. k z p) f.2)
  where
    within : (u : ℕ) → 1 ≤ u → u ≤ 4294967295 → nat_le 1 u && nat_le u 4294967295 ≡ true
    within u a b = grind (arith, nat_tests)

-- ---- expressions

-- so many atoms behind these, and what comes then
abbrev pub gathered : List Expr → ℕ → (List Expr → Mode) → Mode
gathered es zero k = k es
gathered es (suc n) k = atom (λ e. gathered (es ++ e ∷ []) n k)

pub atoms-gathered : (p : Place) (w : List ℕ) (es : List Expr) (n : ℕ) (k : Expr → Mode) → atoms p w es n k ≡ gathered es n (λ fs. k (expr.Apply p w fs None))
atoms-gathered p w es zero k = refl
atoms-gathered p w es (suc n) k = ap atom (fun_ext (λ e. atoms-gathered p w (es ++ e ∷ []) n k))

-- two atoms
abbrev of_two : (Expr → Expr → Mode) → List Expr → Mode
of_two k (a ∷ b ∷ []) = k a b
of_two k _ = m.start

pub right_done : {q : Place} {l r c : ℕ} {rest : List Tok} (m : ℕ) (p : Place) (v : Calc) (a b : Expr) (k : Expr → Mode)
    → is_chain (suc m) ≡ true → Goes q l r c (cond (is_chain (suc m)) (tail m p (expr.Binary p v a b) k) (k (expr.Binary p v a b))) rest r c (tail m p (expr.Binary p v a b) k) rest
right_done m p v a b k h = renames (ap (λ z. cond z (tail m p (expr.Binary p v a b) k) (k (expr.Binary p v a b))) h)

pub right_alone : {q : Place} {l r c : ℕ} {rest : List Tok} (m : ℕ) (p : Place) (v : Calc) (a b : Expr) (k : Expr → Mode)
    → is_chain (suc m) ≡ false → Quiet (suc m) rest → Goes q l r c (cond (is_chain (suc m)) (tail m p (expr.Binary p v a b) k) (k (expr.Binary p v a b))) rest r c (tail m p (expr.Binary p v a b) k) rest
right_alone m p v a b k h q =
    renames (ap (λ z. cond z (tail m p (expr.Binary p v a b) k) (k (expr.Binary p v a b))) h)
    then back (settles (record { differs = λ w i. omega (arith, q.above w i, least_alone (suc m) h) }))

starts : {q : Place} {l r o c : ℕ} {ts rest : List Tok} {e : Expr} {k : Expr → Mode} → IsAtom r o ts rest e → Goes q l r c (want 0 k) ts r c (atom k) ts
starts {l = l} {r = r} {c = c} {k = k} g.numeral = alike (λ w p. refl)
starts {l = l} {r = r} {c = c} {k = k} (g.truth {w = w} {b = b} i) = alike (λ v p. ap (λ z. m.unary_at r c z v p k) (t.lex_truth w b i) ∙ ap (λ z. m.atom_at r c z v p k) (sym (t.lex_truth w b i)))
starts {l = l} {r = r} {c = c} {k = k} g.variable = alike (λ w p. refl)
starts {l = l} {r = r} {c = c} {k = k} (g.brackets {p = s} d) =
    alike (λ v p. ap (λ z. m.unary_at r c z v p k) (t.lex_fixed fixed.Open s) ∙ ap (λ z. m.atom_at r c z v p k) (sym (t.lex_fixed fixed.Open s)))

-- an operation word on so many atoms
words : {q : Place} {l r c : ℕ} {ts : List Tok} (p : Place) (w : List ℕ) (n : ℕ) → (lexeme_of kind.Reserved w ≡ x.Applies n) ⊎ ((w ≡ codes "set") × (n ≡ 3)) → (k : Expr → Mode)
    → Goes q l r c (want 0 k) (word w p ∷ ts) r c (gathered [] n (λ es. k (expr.Apply p w es None))) ts
words p w n (inl h) k = reads (x.Applies n) h refl then renames (atoms-gathered p w [] n k)
words {q = q} {l = l} {r = r} {c = c} {ts = ts} p w n (inr h) k =
    subst (λ z. Goes q l r c (want 0 k) (word z p ∷ ts) r c (gathered [] n (λ es. k (expr.Apply p z es None))) ts) (sym h.0)
    (subst (λ z. Goes q l r c (want 0 k) (word (codes "set") p ∷ ts) r c (gathered [] z (λ es. k (expr.Apply p (codes "set") es None))) ts) (sym h.1)
    (reads (x.Fixed fixed.Set) (t.lex_fixed fixed.Set p) refl then renames (atoms-gathered p (codes "set") [] 3 k)))

mutual
  pub complete : {q : Place} {l r o m : ℕ} {ts rest : List Tok} {e : Expr} → IsExpr r o m ts rest e → Quiet m rest → (c : ℕ) (k : Expr → Mode)
      → Goes q l r (o + c) (want m k) ts r c (top m (place_of ts) k e) rest
  complete (g.negated {o = o} {p = p} d) h c k =
      counts (let e : suc o + c ≡ suc (o + c) = omega arith in e)
      then reads (x.Fixed fixed.Not) (t.lex_fixed fixed.Not p) refl then complete d h c (λ e. k (expr.Not p e))
  complete (g.applies {n = n} {p = p} {w = w} i d) h c k = words p w n (t.lex_arity w n i) k then complete_atoms d [] c (λ es. k (expr.Apply p w es None))
  complete (g.calculates {p = p} {w = w} {c = v} {a = a} {b = b} i d) h c k =
      reads (x.Calculates v) (t.lex_calc w v i) refl then complete_atoms d [] c (of_two (λ a b. k (expr.Binary p v a b)))
  complete (g.zeros {mid = mid} {p = p} {q = s} {e = e} d y) h c k =
      reads (x.Fixed fixed.Zeros) (t.lex_fixed fixed.Zeros p) refl
      then complete_atom d c (λ e. made p (codes "zeros") (e ∷ []) k)
      then passes fixed.As s
      then reps y (λ y s. k (expr.Apply p (codes "zeros") (e ∷ []) (Some (record { rep = y; place = s }))))
  complete (g.empty {p = p} {q = s} {w = w} i y) h c k =
      counts (zero-add c)
      then reads x.Empty (t.lex_empty w i) refl
      then passes fixed.As s
      then reps y (λ y s. k (expr.Apply p w [] (Some (record { rep = y; place = s }))))
  complete (g.atom d) h c k = starts d then complete_atom d c k
  complete (g.tighter {m = m} {ts = ts} d) h c k = looser ts then complete d (quieter h) c (λ e. tail m (place_of ts) e k) then sheds m (place_of ts) (λ e. tail m (place_of ts) e k) (unlike h)
  complete (g.chain {o = o} {u = u} {m = m} {ts = ts} {q = s} {s = w} {w = v} {a = a} {b = y} i f d b) h c k =
      let j = t.lex_sign w v (suc m) f in
      counts (let e : (o + suc u) + c ≡ o + suc (u + c) = omega arith in e)
      then complete d (sign_first j.0 j.1 (omega (arith, least_chain (suc m) i))) (suc (u + c)) k
      then joins v j.0 j.1
      then complete b (quieter h) c (λ b. cond (is_chain (suc m)) (tail m (place_of ts) (expr.Binary (place_of ts) v a b) k) (k (expr.Binary (place_of ts) v a b)))
      then sheds m _ (λ b. cond (is_chain (suc m)) (tail m (place_of ts) (expr.Binary (place_of ts) v a b) k) (k (expr.Binary (place_of ts) v a b))) (unlike h)
      then right_done m (place_of ts) v a y k i
  complete (g.compare {o = o} {u = u} {m = m} {ts = ts} {q = s} {s = w} {w = v} {a = a} {b = y} i f d b) h c k =
      let j = t.lex_sign w v (suc m) f in
      counts (let e : (o + suc u) + c ≡ o + suc (u + c) = omega arith in e)
      then looser ts
      then complete d (sign_first j.0 j.1 (least-le m)) (suc (u + c)) (λ e. tail m (place_of ts) e k)
      then sheds m (place_of ts) (λ e. tail m (place_of ts) e k) (sign_unlike j.0 j.1 (omega arith))
      then joins v j.0 j.1
      then complete b (quieter h) c (λ b. cond (is_chain (suc m)) (tail m (place_of ts) (expr.Binary (place_of ts) v a b) k) (k (expr.Binary (place_of ts) v a b)))
      then sheds m _ (λ b. cond (is_chain (suc m)) (tail m (place_of ts) (expr.Binary (place_of ts) v a b) k) (k (expr.Binary (place_of ts) v a b))) (unlike h)
      then right_alone m (place_of ts) v a y k i h

  pub complete_atom : {q : Place} {l r o : ℕ} {ts rest : List Tok} {e : Expr} → IsAtom r o ts rest e → (c : ℕ) (k : Expr → Mode) → Goes q l r (o + c) (atom k) ts r c (k e) rest
  complete_atom (g.numeral {n = n}) c k = counts (zero-add c) then reads (x.Number n) refl refl
  complete_atom (g.truth {w = w} {b = b} i) c k = counts (zero-add c) then reads (x.Truth b) (t.lex_truth w b i) refl
  complete_atom g.variable c k = counts (zero-add c) then reads x.Name refl refl
  complete_atom (g.brackets {ts = ts} {p = p} {q = s} {e = e} d) c k =
      let n = silent (x.Fixed fixed.Close) (t.lex_fixed fixed.Close s) refl in
      let inner : Expr → Mode = λ e. m.pass fixed.Close (λ _. m.leave (k e)) in
      reads (x.Fixed fixed.Open) (t.lex_fixed fixed.Open p) refl
      then complete d (quiet n) c inner
      then sheds 5 (place_of ts) inner (unlike (quiet n))
      then passes fixed.Close s
      then leaves

  pub complete_atoms : {q : Place} {l r o n : ℕ} {ts rest : List Tok} {es : List Expr} → AreAtoms r o n ts rest es → (before : List Expr) (c : ℕ) (k : List Expr → Mode)
      → Goes q l r (o + c) (gathered before n k) ts r c (k (before ++ es)) rest
  complete_atoms g.none before c k = counts (zero-add c) then renames (ap k (sym (append-nil before)))
  complete_atoms (g.more {o = o} {u = u} {n = n} {e = e} {es = es} d ds) before c k =
      counts (let i : (o + u) + c ≡ o + (u + c) = omega arith in i)
      then complete_atom d (u + c) (λ e. gathered (before ++ e ∷ []) n k)
      then complete_atoms ds (before ++ e ∷ []) c k
      then renames (ap k (append_assoc before (e ∷ []) es))
