-- The automaton refuses at the first token with which no text begins.
use Rattle.std.proofs.Common.{◌≡◌, ℕ, suc, ◌+◌, ◌≤◌, length, take, drop, Bool, true, false, List, [], ◌∷◌, ◌++◌, refl, sym, subst, arith}
use Rattle.std.proofs.lemmas.Bool.{false≢true}
use Rattle.nres_core.specs.Vocabulary.{Tok}
use Rattle.nres_core.specs.declared.place.Place.{Place}
use Rattle.nres_automaton.specs.Lexemes.{Lex, lex, lexes, end_lex}
use Rattle.nres_automaton.specs.Automaton.{Found, Mode, Next, go, done, stop, deep, step, accepted, refused, run}
use Rattle.nres_automaton.specs.declared.lexeme.Lexeme.{Lexeme}
use Rattle.nres_automaton.specs.declared.lexeme.Lexeme.TheVariants as x
use Rattle.nres_automaton.proofs.Tokens.{Is, is}
use Rattle.nres_automaton.proofs.Runs.{proceed}
use Rattle.nres_automaton.proofs.Means.{Means, Leads}
use Rattle.nres_automaton.proofs.Sound.{sound}
use Rattle.nres_automaton.proofs.Lifts.{Lifted, lifts, is_end}
use Rattle.nres_automaton.proofs.Fills.{fills}
use Rattle.nres_automaton.proofs.Accepted.{no_way}

-- so many tokens begin what is meant, and with the next one nothing does
pub record Broken (q : Place) (l r o : ℕ) (m : Mode) (by_limit : Bool) (ts : List Tok) (rest : List Lex) : Type 0 where
  pub count : ℕ
  pub within : count ≤ length ts
  pub rest_is : rest ≡ lexes q (drop count ts)
  pub more : List Tok
  pub tree : Found
  pub viable : Means l m r o (take count ts ++ more) tree
  pub never : suc count ≤ length ts → (more : List Tok) (y : Found) → run l r o m (lexes q (take (suc count) ts ++ more)) ≡ accepted y → ⊥
  pub at_no_limit : by_limit ≡ false → suc count ≤ length ts → (i j : ℕ) (more : List Tok) (y : Found) → run (l + j) (r + i) (o + j) m (lexes q (take (suc count) ts ++ more)) ≡ accepted y → ⊥
  pub wider : by_limit ≡ true → (suc count ≤ length ts) × (more : List Tok) × (y : Found) × Means (l + 1) m (r + 2) (o + 1) (take (suc count) ts ++ more) y

-- no token is the end
no_token : (t : Tok) → is_end (lex t).lexeme ≡ true → ⊥
no_token t h = go (lex t).lexeme (is t) h
  where
    go : (v : Lexeme) → Is v t → is_end v ≡ true → ⊥
    go x.End i h = i
    go _ i h = false≢true h

-- what is known of a step
abbrev Lift : ℕ → ℕ → ℕ → Mode → ℕ → ℕ → Lex → Next → Type 0
Lift l i j m r o t n = Lifted l i j (is_end t.lexeme) n (step (l + j) (r + i) (o + j) m t)

lifted : (l r o : ℕ) (m : Mode) (t : Lex) (n : Next) → o ≤ l → step l r o m t ≡ n → (i j : ℕ) → Lift l i j m r o t n
lifted l r o m t n b e i j = subst (Lift l i j m r o t) e (lifts l i j m r o b t.lexeme t.bytes t.place).lifted

-- a refused token is no accepted one
not_stopped : (l : ℕ) (n : Next) (t : Lex) (ts : List Lex) (y : Found) → n ≡ stop → proceed l n t ts ≡ accepted y → ⊥
not_stopped l n t ts y e h = let f = subst (λ z. proceed l z t ts ≡ accepted y) e h in cc

not_deep : (l : ℕ) (n : Next) (t : Lex) (ts : List Lex) (y : Found) → n ≡ deep → proceed l n t ts ≡ accepted y → ⊥
not_deep l n t ts y e h = let f = subst (λ z. proceed l z t ts ≡ accepted y) e h in cc

module _ (q : Place) (l r o : ℕ) (m : Mode) (t : Tok) (ts : List Tok) (within : o ≤ l) where
  stopped : step l r o m (lex t) ≡ stop → Broken q l r o m false (t ∷ ts) (lexes q (t ∷ ts))
  unfolding run
  stopped e = let f = fills l m r o in record {
    count = 0;
    within = omega arith;
    rest_is = refl;
    more = f.tokens;
    tree = f.tree;
    viable = f.means;
    never = λ h more y g. not_stopped l (step l r o m (lex t)) (lex t) (lexes q more) y e g;
    at_no_limit = λ i h a b more y g. not_stopped (l + b) (step (l + b) (r + a) (o + b) m (lex t)) (lex t) (lexes q more) y (lifted l r o m (lex t) stop within e a b) g;
    wider = λ i. absurd (false≢true i);
  }

  deepened : step l r o m (lex t) ≡ deep → Broken q l r o m true (t ∷ ts) (lexes q (t ∷ ts))
  unfolding run
  deepened e = let f = fills l m r o in record {
    count = 0;
    within = omega arith;
    rest_is = refl;
    more = f.tokens;
    tree = f.tree;
    viable = f.means;
    never = λ h more y g. not_deep l (step l r o m (lex t)) (lex t) (lexes q more) y e g;
    at_no_limit = λ i. absurd (false≢true (sym i));
    wider = λ i.
        let s = (lifted l r o m (lex t) deep within e 2 1).1 (omega arith) (omega arith) in
        let f = fills (l + 1) s.2 s.0 s.1 in
        (omega arith, f.tokens, f.tree, sound (l + 1) m (r + 2) (o + 1) (omega arith) t f.tokens f.tree (subst (λ z. Leads (l + 1) z f.tokens f.tree) (sym s.3) f.means));
  }

  -- the token goes by, and it breaks behind it
  behind : (s d : ℕ) (n : Mode) (b : Bool) (rest : List Lex) → step l r o m (lex t) ≡ go s d n → Broken q l s d n b ts rest → Broken q l r o m b (t ∷ ts) rest
  unfolding run
  behind s d n b rest e f = record {
    count = suc f.count;
    within = omega (arith, f.within);
    rest_is = f.rest_is;
    more = f.more;
    tree = f.tree;
    viable = sound l m r o within t (take f.count ts ++ f.more) f.tree (subst (λ z. Leads l z (take f.count ts ++ f.more) f.tree) (sym e) f.viable);
    never = λ h more y g. f.never (omega arith) more y (subst (λ z. proceed l z (lex t) (lexes q (take (suc f.count) ts ++ more)) ≡ accepted y) e g);
    at_no_limit = λ i h a c more y g.
        f.at_no_limit i (omega arith) a c more y (subst (λ z. proceed (l + c) z (lex t) (lexes q (take (suc f.count) ts ++ more)) ≡ accepted y) (lifted l r o m (lex t) (go s d n) within e a c).0 g);
    wider = λ i.
        let w = f.wider i in (
          omega (arith, w.0),
          w.1,
          w.2,
          sound (l + 1) m (r + 2) (o + 1) (omega arith) t (take (suc f.count) ts ++ w.1) w.2
              (subst (λ z. Leads (l + 1) z (take (suc f.count) ts ++ w.1) w.2) (sym (lifted l r o m (lex t) (go s d n) within e 2 1).0) w.3),
        );
  }

pub moved : {q : Place} {l r o : ℕ} {m : Mode} {b c : Bool} {ts : List Tok} {us vs : List Lex} → refused b us ≡ refused c vs → Broken q l r o m b ts us → Broken q l r o m c ts vs
moved {q = q} {l = l} {r = r} {o = o} {m = m} {b = b} {c = c} {ts = ts} {us = us} {vs = vs} e f =
    subst (λ z. Broken q l r o m z ts vs) (parts e).0 (subst (λ z. Broken q l r o m b ts z) (parts e).1 f)
  where
    parts : {b c : Bool} {us vs : List Lex} → refused b us ≡ refused c vs → (b ≡ c) × (us ≡ vs)
    parts e = (cc, cc)

-- the end of the text
ended : (q : Place) (l r o : ℕ) (m : Mode) (n : Next) (b : Bool) (rest : List Lex) → o ≤ l → step l r o m (end_lex q) ≡ n → proceed l n (end_lex q) [] ≡ refused b rest → Broken q l r o m b [] rest
ended q l r o m (go s d n) b rest c e h = absurd (no_way l r o q m c s d n e)
ended q l r o m (done y) b rest c e h = absurd cc
ended q l r o m stop b rest c e h = moved h (let f = fills l m r o in record {
  count = 0;
  within = omega arith;
  rest_is = refl;
  more = f.tokens;
  tree = f.tree;
  viable = f.means;
  never = λ i. absurd (omega arith);
  at_no_limit = λ i j. absurd (omega arith);
  wider = λ i. absurd (false≢true i);
})
ended q l r o m deep b rest c e h = absurd (false≢true (sym (lifted l r o m (end_lex q) deep c e 0 0).0))

breaks : (q : Place) (l r o : ℕ) (m : Mode) (t : Tok) (ts : List Tok) (n : Next) (b : Bool) (rest : List Lex) → o ≤ l → step l r o m (lex t) ≡ n
    → ((s d : ℕ) (n : Mode) → d ≤ l → run l s d n (lexes q ts) ≡ refused b rest → Broken q l s d n b ts rest) → proceed l n (lex t) (lexes q ts) ≡ refused b rest → Broken q l r o m b (t ∷ ts) rest
breaks q l r o m t ts (go s d n) b rest c e f h = behind q l r o m t ts c s d n b rest e (f s d n (lifted l r o m (lex t) (go s d n) c e 0 0).1 h)
breaks q l r o m t ts (done y) b rest c e f h = absurd (no_token t (lifted l r o m (lex t) (done y) c e 0 0).1)
breaks q l r o m t ts stop b rest c e f h = moved h (stopped q l r o m t ts c e)
breaks q l r o m t ts deep b rest c e f h = moved h (deepened q l r o m t ts c e)

pub broken : (q : Place) (l : ℕ) (ts : List Tok) (m : Mode) (r o : ℕ) (b : Bool) (rest : List Lex) → o ≤ l → run l r o m (lexes q ts) ≡ refused b rest → Broken q l r o m b ts rest
unfolding run
broken q l [] m r o b rest c h = ended q l r o m (step l r o m (end_lex q)) b rest c refl h
broken q l (t ∷ ts) m r o b rest c h = breaks q l r o m t ts (step l r o m (lex t)) b rest c refl (λ s d n i g. broken q l ts n s d b rest i g) h
