-- How a run goes on.
use Rattle.std.proofs.Common.{◌≡◌, ◌≢◌, ℕ, zero, suc, ◌+◌, ◌-◌, ◌<◌, ◌≤◌, length, Bool, true, false, List, [], ◌∷◌, ◌++◌, Result, Ok, Err, refl, ap, ◌∙◌, sym, subst, arith, cond}
use Rattle.std.specs.Result.{IsErrAnd}
use Rattle.std.proofs.lemmas.Result.{err_from_is_err_and}
use Rattle.nres_core.specs.Texts.{operators}
use Rattle.nres_core.specs.declared.place.Place.{Place}
use Rattle.nres_automaton.specs.Cursor.{behind, text_of, Spends, Takes, Passes}
use Rattle.nres_automaton.specs.Lexemes.{Lex, is_fixed}
use Rattle.nres_automaton.specs.Automaton.{Found, Mode, pass, when, leave, reset, Next, go, done, stop, deep, step, Outcome, accepted, refused, finished, run, told, place_in, refusal_of, Left, Moves, Fails, Reads}
use Rattle.nres_automaton.specs.declared.lexeme.Fixed.{Fixed}
use Rattle.nres_automaton.specs.declared.lexeme.Lexeme.{Lexeme}
use Rattle.nres_automaton.specs.declared.refusal.SyntaxRefusal.{SyntaxRefusal}
use Rattle.nres_automaton.specs.declared.refusal.SyntaxRefusal.TheVariants as refusal

abbrev pub proceed : ℕ → Next → Lex → List Lex → Outcome
proceed l n t ts = elim n [
  | go r' o' m' ↦ run l r' o' m' ts
  | done y ↦ finished y ts
  | stop ↦ refused false (t ∷ ts)
  | deep ↦ refused true (t ∷ ts)
]

pub run-cons : (l r o : ℕ) (m : Mode) (t : Lex) (ts : List Lex) → run l r o m (t ∷ ts) ≡ proceed l (step l r o m t) t ts
unfolding run
run-cons l r o m t ts = refl

-- ---- laws of moves

infixl 10 ◌then◌
pub ◌then◌ : {l r r' r'' : ℕ} {a b c : Left} {m m' m'' : Mode} → Moves l r a m r' b m' → Moves l r' b m' r'' c m'' → Moves l r a m r'' c m''
f then g = record { runs = f.runs ∙ g.runs }

infixl 10 ◌fails◌
pub ◌fails◌ : {l r r' : ℕ} {a b : Left} {m m' : Mode} {e : SyntaxRefusal} → Moves l r a m r' b m' → Fails l r' b m' e → Fails l r a m e
f fails g = record { tells = ap told f.runs ∙ g.tells }

pub stay : {l r : ℕ} {a : Left} {m : Mode} → Moves l r a m r a m
stay = record { runs = refl }

-- two modes that do the same with each token
pub same : {l : ℕ} (r s : ℕ) (a : Left) (o : ℕ) (m m' : Mode) → ((t : Lex) → step l r a.1 m t ≡ step l s o m' t) → Moves l r a m s (a.0, o) m'
unfolding run
same {l = l} r s a o m m' h = record { runs = each a.0 }
  where
    each : (ts : List Lex) → run l r a.1 m ts ≡ run l s o m' ts
    each [] = refl
    each (t ∷ ts) = ap (λ n. proceed l n t ts) (h t)

pub leaves : {l r : ℕ} {a : Left} {m : Mode} → Moves l r a (leave m) (suc r) a m
leaves = same _ _ _ _ _ _ (λ t. refl)

pub resets : {l r : ℕ} {a : Left} {m : Mode} → Moves l r a (reset m) r (a.0, l) m
resets = same _ _ _ _ _ _ (λ t. refl)

-- a new expression may have as many operators again
pub restarted : {l r : ℕ} {a b : Left} {m : Mode} → b.0 ≡ a.0 → b.1 ≡ l → Moves l r a (reset m) r b m
restarted {l = l} {r = r} {a = a} {b = b} {m = m} e f =
    let g : Moves l r a (reset m) r (a.0, l) m = resets in
    record { runs = g.runs ∙ (ap (λ ts. run l r l m ts) (sym e) ∙ ap (λ o. run l r o m b.0) (sym f)) }

-- the token t comes next
pub record Sees (a : Left) (t : Lex) : Type 0 where
  pub next : a.0 ≡ t ∷ behind a.0

pub took : {a b : Left} {t : Lex} → a.0 ≡ t ∷ behind a.0 → b.0 ≡ behind a.0 → b.1 ≡ a.1 → Takes a t b
took {a = a} {b = b} {t = t} e f g = record { next = e ∙ ap (λ ts. t ∷ ts) (sym f); operators = g }

-- ... as an operator that was paid for
pub record Pays (a : Left) (t : Lex) (b : Left) : Type 0 where
  pub next : a.0 ≡ t ∷ b.0
  pub operators : a.1 ≡ suc b.1

pub alike : {l r : ℕ} {a : Left} {m m' : Mode} {t : Lex} → Sees a t → step l r a.1 m t ≡ step l r a.1 m' t → Moves l r a m r a m'
alike {l = l} {r = r} {a = a} {m = m} {m' = m'} {t = t} s h = record {
  runs =
      ap (run l r a.1 m) s.next ∙ (run-cons l r a.1 m t (behind a.0) ∙ (ap (λ n. proceed l n t (behind a.0)) h
      ∙ (sym (run-cons l r a.1 m' t (behind a.0)) ∙ ap (run l r a.1 m') (sym s.next))));
}

pub goes : {l r r' : ℕ} {a b : Left} {m m' : Mode} {t : Lex} → Takes a t b → step l r a.1 m t ≡ go r' a.1 m' → Moves l r a m r' b m'
goes {l = l} {r = r} {r' = r'} {a = a} {b = b} {m = m} {m' = m'} {t = t} s h = record {
  runs =
      ap (run l r a.1 m) s.next ∙ (run-cons l r a.1 m t b.0 ∙ (ap (λ n. proceed l n t b.0) h ∙ ap (λ o. run l r' o m' b.0) (sym s.operators)));
}

pub goes_paid : {l r : ℕ} {a b : Left} {m m' : Mode} {t : Lex} → Pays a t b → step l r (suc b.1) m t ≡ go r b.1 m' → Moves l r a m r b m'
goes_paid {l = l} {r = r} {a = a} {b = b} {m = m} {m' = m'} {t = t} s h = record {
  runs = ap (λ o. run l r o m a.0) s.operators ∙ (ap (run l r (suc b.1) m) s.next ∙ (run-cons l r (suc b.1) m t b.0 ∙ ap (λ n. proceed l n t b.0) h));
}

pub stops : {l r : ℕ} {a : Left} {m : Mode} {t : Lex} → Sees a t → step l r a.1 m t ≡ stop → Fails l r a m (refusal.At t.place)
stops {l = l} {r = r} {a = a} {m = m} {t = t} s h = record {
  tells =
      ap (λ ts. told (run l r a.1 m ts)) s.next ∙ (ap told (run-cons l r a.1 m t (behind a.0)) ∙ ap (λ n. told (proceed l n t (behind a.0))) h);
}

pub deepens : {l r : ℕ} {a : Left} {m : Mode} {t : Lex} → Sees a t → step l r a.1 m t ≡ deep → Fails l r a m (refusal.TooDeep t.place)
deepens {l = l} {r = r} {a = a} {m = m} {t = t} s h = record {
  tells =
      ap (λ ts. told (run l r a.1 m ts)) s.next ∙ (ap told (run-cons l r a.1 m t (behind a.0)) ∙ ap (λ n. told (proceed l n t (behind a.0))) h);
}

-- ---- the exits of a reader

-- the exit of a `?`
pub exits : {A : Type 0} {r : ℕ} {before : (A → Mode) → Mode} {old : Left} (new : Left) (res : Result A SyntaxRefusal) (e : SyntaxRefusal)
    → IsErrAnd res (λ y. y ≡ e) → (e ≢ refusal.Memory → (k : A → Mode) → Fails operators r old (before k) e) → Reads r before old res new
exits {r = r} {before = before} {old = old} new res e h p =
    let f = err_from_is_err_and res h in subst (λ y. Reads r before old y new) (sym (f.1 ∙ ap Err f.2)) p

-- a last call whose result is returned
pub passes : {A : Type 0} {r s : ℕ} {before : (A → Mode) → Mode} {old mid : Left} (before' : (A → Mode) → Mode) (new : Left) (res : Result A SyntaxRefusal) (at : (A → Mode) → A → Mode)
    → ((k : A → Mode) → Moves operators r old (before k) s mid (before' (at k))) → ((y : A) (k : A → Mode) → Moves operators s new (at k y) r new (k y))
    → Reads s before' mid res new → Reads r before old res new
passes before' new (Ok y) at f h g = λ k. f k then g (at k) then h y k
passes before' new (Err e) at f h g = λ n k. f k fails g n (at k)

-- ---- words and signs that stand for themselves

pub passed : {l r : ℕ} {a b : Left} {z : Fixed} {p : Place} {k : Place → Mode} → Passes z (Ok p) a b → Moves l r a (pass z k) r b (k p)
passed {l = l} {r = r} {a = a} {b = b} {z = z} {p = p} {k = k} (t, h, i, e) =
    goes h (ap (λ c. cond c (go r a.1 (k t.place)) stop) i ∙ ap (λ q. go r a.1 (k q)) e)

pub passed_not : {l r : ℕ} {a : Left} {z : Fixed} {e : SyntaxRefusal} {k : Place → Mode} → Passes z (Err e) a a → Fails l r a (pass z k) e
passed_not {l = l} {r = r} {a = a} {z = z} {k = k} (t, s, i, f) =
    subst (λ y. Fails l r a (pass z k) y) (sym f) (stops {t = t} (record { next = s }) (ap (λ c. cond c (go r a.1 (k t.place)) stop) i))

pub met : {l r : ℕ} {a b : Left} {t : Lex} {z : Fixed} {k : Place → Mode} {m : Mode} → Takes a t b → is_fixed z t.lexeme ≡ true → Moves l r a (when z k m) r b (k t.place)
met {l = l} {r = r} {a = a} {t = t} {k = k} {m = m} h i = goes h (ap (λ c. cond c (go r a.1 (k t.place)) (step l r a.1 m t)) i)

pub not_met : {l r : ℕ} {a : Left} {t : Lex} {z : Fixed} {k : Place → Mode} {m : Mode} → Sees a t → is_fixed z t.lexeme ≡ false → Moves l r a (when z k m) r a m
not_met {l = l} {r = r} {a = a} {t = t} {k = k} {m = m} h i = alike h (ap (λ c. cond c (go r a.1 (k t.place)) (step l r a.1 m t)) i)

-- an operator was paid for
pub pays : {a b c : Left} {t : Lex} → a.0 ≡ t ∷ behind a.0 → Spends (Ok tt) a b → c.0 ≡ behind b.0 → c.1 ≡ b.1 → Pays a t c
pays {a = a} {b = b} {c = c} {t = t} e s f g = record { next = e ∙ ap (λ ts. t ∷ ts) (ap behind s.0 ∙ sym f); operators = s.1 ∙ ap suc (sym g) }

pub fails_there : {l r : ℕ} {a : Left} {m : Mode} {t : Lex} {e : SyntaxRefusal} → a.0 ≡ t ∷ behind a.0 → e ≡ refusal.TooDeep (place_in a.0) → Fails l r a m (refusal.TooDeep t.place) → Fails l r a m e
fails_there {l = l} {r = r} {a = a} {m = m} {t = t} s f h = subst (λ y. Fails l r a m y) (sym (f ∙ ap (λ ts. refusal.TooDeep (place_in ts)) s)) h

-- what is left is less
pub taken : (ts us : List Lex) → us ≡ behind ts → length us ≤ length ts
taken [] us e = rw e (omega arith)
taken (t ∷ ts) us e = rw e (omega arith)

pub shorter : {a b : Left} {t : Lex} → Takes a t b → length b.0 < length a.0
shorter {a = a} {b = b} h = let e = ap length h.next in omega (arith, e)

pub positive : (n : ℕ) → n ≢ 0 → n ≡ suc (n - 1)
positive n h = omega arith

-- more came, or the end
pub more_came : {l r : ℕ} {a : Left} {m : Mode} {b : Bool} (n : Mode) → b ≡ true → Moves l r a (cond b m n) r a m
more_came {l = l} {r = r} {a = a} {m = m} n e = record { runs = ap (λ y. run l r a.1 (cond y m n) a.0) e }

pub end_came : {l r : ℕ} {a : Left} {n : Mode} {b : Bool} (m : Mode) → b ≡ false → Moves l r a (cond b m n) r a n
end_came {l = l} {r = r} {a = a} {n = n} m e = record { runs = ap (λ y. run l r a.1 (cond y m n) a.0) e }

-- what is left behind a word is less
pub passed_shorter : {p : Place} (z : Fixed) (a b : Left) → Passes z (Ok p) a b → length b.0 ≤ length a.0
passed_shorter z a b (t, h, i, e) = let f = ap length h.next in omega (arith, f)
