-- How a run goes on.
use Rattle.std.proofs.Common.{◌≡◌, ◌≢◌, ℕ, suc, true, false, cond, nat_eq, List, [], ◌∷◌, refl, ap, ◌∙◌, sym, eq-eqb}
use Rattle.std.proofs.lemmas.Bool.{ne_eqb}
use Rattle.target_code.specs.declared.tree.Calc.{Calc}
use Rattle.nres_core.specs.Vocabulary.{Tok}
use Rattle.nres_core.specs.declared.place.Place.{Place}
use Rattle.nres_core.specs.declared.tree.Expr.{Expr}
use Rattle.nres_automaton.specs.Lexemes.{Lex, lex, lexes, lexeme_of, end_lex, is_fixed, number_of, spelled}
use Rattle.nres_automaton.specs.Automaton.{Mode, pass, when, leave, reset, tail, Next, go, done, stop, deep, step, Outcome, refused, finished, run, sign_or, spend, right_of, looseness}
use Rattle.nres_automaton.specs.declared.lexeme.Fixed.{Fixed}
use Rattle.nres_automaton.specs.declared.lexeme.Lexeme.{Lexeme}
use Rattle.nres_automaton.specs.declared.lexeme.Lexeme.TheVariants as x
use Rattle.nres_automaton.proofs.Tokens.{lex_fixed}

abbrev pub proceed : ℕ → Next → Lex → List Lex → Outcome
proceed l n t ts = elim n [
  | go r' o' m' ↦ run l r' o' m' ts
  | done y ↦ finished y ts
  | stop ↦ refused false (t ∷ ts)
  | deep ↦ refused true (t ∷ ts)
]

-- before tokens with the end at q the automaton goes from here to there
pub record Goes (q : Place) (l r c : ℕ) (m : Mode) (ts : List Tok) (s d : ℕ) (n : Mode) (us : List Tok) : Type 0 where
  pub runs : run l r c m (lexes q ts) ≡ run l s d n (lexes q us)

infixl 10 ◌then◌
pub ◌then◌ : {q : Place} {l r c s d t e : ℕ} {m n o : Mode} {ts us vs : List Tok} → Goes q l r c m ts s d n us → Goes q l s d n us t e o vs → Goes q l r c m ts t e o vs
f then g = record { runs = f.runs ∙ g.runs }

pub stay : {q : Place} {l r c : ℕ} {m : Mode} {ts : List Tok} → Goes q l r c m ts r c m ts
stay = record { runs = refl }

pub back : {q : Place} {l r c s d : ℕ} {m n : Mode} {ts us : List Tok} → Goes q l r c m ts s d n us → Goes q l s d n us r c m ts
back f = record { runs = sym f.runs }

-- with as many operators, and in the same mode
pub counts : {q : Place} {l r c d : ℕ} {m : Mode} {ts : List Tok} → c ≡ d → Goes q l r c m ts r d m ts
counts {q = q} {l = l} {r = r} {m = m} {ts = ts} e = record { runs = ap (λ o. run l r o m (lexes q ts)) e }

pub renames : {q : Place} {l r c : ℕ} {m n : Mode} {ts : List Tok} → m ≡ n → Goes q l r c m ts r c n ts
renames {q = q} {l = l} {r = r} {c = c} {ts = ts} e = record { runs = ap (λ z. run l r c z (lexes q ts)) e }

abbrev pub seen : Lexeme → List ℕ → Place → Lex
seen v w p = record { lexeme = v; bytes = w; place = p }

-- what the first token is
abbrev pub first_lexeme : List Tok → Lexeme
first_lexeme [] = x.End
first_lexeme (t ∷ ts) = (lex t).lexeme

-- two modes that do the same with what comes first
pub alike : {q : Place} {l r c s d : ℕ} {m n : Mode} {ts : List Tok}
    → ((w : List ℕ) (p : Place) → step l r c m (seen (first_lexeme ts) w p) ≡ step l s d n (seen (first_lexeme ts) w p)) → Goes q l r c m ts s d n ts
unfolding run
alike {q = q} {l = l} {ts = []} h = record { runs = ap (λ z. proceed l z (end_lex q) []) (h [] q) }
alike {q = q} {l = l} {ts = t ∷ ts} h = record { runs = ap (λ z. proceed l z (lex t) (lexes q ts)) (h t.bytes t.place) }

-- a token goes by, which is this to the grammar
pub reads : {q : Place} {l r c s d : ℕ} {m n : Mode} {ts : List Tok} {t : Tok} (v : Lexeme)
    → lexeme_of t.kind t.bytes ≡ v → step l r c m (seen v t.bytes t.place) ≡ go s d n → Goes q l r c m (t ∷ ts) s d n ts
unfolding run
reads {q = q} {l = l} {r = r} {c = c} {m = m} {ts = ts} {t = t} v e h = record {
  runs =
      ap (λ u. proceed l (step l r c m (seen u t.bytes t.place)) (lex t) (lexes q ts)) e ∙ ap (λ z. proceed l z (lex t) (lexes q ts)) h;
}

-- ---- modes on their own

pub is_itself : (n : ℕ) → nat_eq n n ≡ true
is_itself n = eq-eqb n n refl

-- a token that is this word or sign
pub closes : {q : Place} {l r c : ℕ} {k : Place → Mode} {ts : List Tok} {t : Tok} (z : Fixed) → lexeme_of t.kind t.bytes ≡ x.Fixed z → Goes q l r c (pass z k) (t ∷ ts) r c (k t.place) ts
closes {r = r} {c = c} {k = k} {t = t} z e = reads (x.Fixed z) e (ap (λ b. cond b (go r c (k t.place)) stop) (is_itself (number_of z)))

pub chooses : {q : Place} {l r c : ℕ} {k : Place → Mode} {m : Mode} {ts : List Tok} {t : Tok} (z : Fixed) → lexeme_of t.kind t.bytes ≡ x.Fixed z → Goes q l r c (when z k m) (t ∷ ts) r c (k t.place) ts
chooses {l = l} {r = r} {c = c} {k = k} {m = m} {t = t} z e =
    reads (x.Fixed z) e (ap (λ b. cond b (go r c (k t.place)) (step l r c m (seen (x.Fixed z) t.bytes t.place))) (is_itself (number_of z)))

pub passes : {q : Place} {l r c : ℕ} {k : Place → Mode} {ts : List Tok} (z : Fixed) (p : Place) → Goes q l r c (pass z k) (spelled z p ∷ ts) r c (k (spelled z p).place) ts
passes z p = closes z (lex_fixed z p)

pub takes : {q : Place} {l r c : ℕ} {k : Place → Mode} {m : Mode} {ts : List Tok} (z : Fixed) (p : Place) → Goes q l r c (when z k m) (spelled z p ∷ ts) r c (k (spelled z p).place) ts
takes z p = chooses z (lex_fixed z p)

-- something else
pub not_taken : {q : Place} {l r c : ℕ} {k : Place → Mode} {m : Mode} {ts : List Tok} (z : Fixed) → is_fixed z (first_lexeme ts) ≡ false → Goes q l r c (when z k m) ts r c m ts
not_taken {l = l} {r = r} {c = c} {k = k} {m = m} {ts = ts} z h = alike (λ w p. ap (λ b. cond b (go r c (k p)) (step l r c m (seen (first_lexeme ts) w p))) h)

pub leaves : {q : Place} {l r c : ℕ} {m : Mode} {ts : List Tok} → Goes q l r c (leave m) ts (suc r) c m ts
leaves = alike (λ w p. refl)

pub resets : {q : Place} {l r c : ℕ} {m : Mode} {ts : List Tok} → Goes q l r c (reset m) ts r l m ts
resets = alike (λ w p. refl)

-- ---- signs

other_sign : (r o m : ℕ) (p : Place) (a : Expr) (k : Expr → Mode) (v : Lexeme) (other : Next) → ((w : Calc) → v ≡ x.Sign w → looseness w ≢ suc m) → sign_or r o m p a k v other ≡ other
other_sign r o m p a k (x.Sign w) other h = ap (λ b. cond b (spend r o (right_of m p a w k)) other) (ne_eqb (looseness w) (suc m) (h w refl))
other_sign r o m p a k _ other h = refl

-- no sign of this looseness comes
pub record Unlike (m : ℕ) (ts : List Tok) : Type 0 where
  pub differs : (w : Calc) → first_lexeme ts ≡ x.Sign w → looseness w ≢ m

pub settles : {q : Place} {l r c m : ℕ} {p : Place} {a : Expr} {k : Expr → Mode} {ts : List Tok} → Unlike (suc m) ts → Goes q l r c (tail m p a k) ts r c (k a) ts
settles {l = l} {r = r} {c = c} {m = m} {p = p} {a = a} {k = k} {ts = ts} h = alike (λ w s. other_sign r c m p a k (first_lexeme ts) (step l r c (k a) (seen (first_lexeme ts) w s)) h.differs)

pub joins : {q : Place} {l r c m : ℕ} {p : Place} {a : Expr} {k : Expr → Mode} {ts : List Tok} {t : Tok} (w : Calc)
    → lexeme_of t.kind t.bytes ≡ x.Sign w → looseness w ≡ suc m → Goes q l r (suc c) (tail m p a k) (t ∷ ts) r c (right_of m p a w k) ts
joins {l = l} {r = r} {c = c} {m = m} {p = p} {a = a} {k = k} {t = t} w e f =
    reads (x.Sign w) e (ap (λ b. cond b (go r c (right_of m p a w k)) (step l r (suc c) (k a) (seen (x.Sign w) t.bytes t.place))) (eq-eqb (looseness w) (suc m) f))
