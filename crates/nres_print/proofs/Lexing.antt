-- Texts whose tokens are known, in front of others.
use Rattle.std.proofs.Common.{◌≡◌, ℕ, zero, suc, ◌+◌, ◌-◌, ◌≤◌, false, List, [], ◌∷◌, ◌++◌, length, take, drop, refl, ap, ◌∙◌, sym, subst, append_assoc, codes, arith}
use Rattle.std.specs.List.{slice_range}
use Rattle.std.proofs.Math.Seq.{drop-append_seam, take-append_seam}
use Rattle.std.proofs.lemmas.List.{append-nil, length-append}
use Rattle.target_code.specs.Names.{is_name_byte}
use Rattle.nres_core.specs.Front.{front}
use Rattle.nres_core.specs.Tokens.{Lexes, after, next, first}
use Rattle.nres_core.specs.Vocabulary.{Tok, all_seen}
use Rattle.nres_core.specs.declared.place.Place.{Place}
use Rattle.nres_core.specs.declared.token.Piece.TheVariants as piece
use Rattle.nres_core.specs.declared.token.Token.{Token}
use Rattle.nres_core.specs.declared.token.TokenKind.{TokenKind}
use Rattle.target_code.specs.Texts.{indent}

-- the text z, which stands behind pre in the whole, has these tokens
pub record Seen (whole pre z : List ℕ) (p : Place) (us : List Tok) : Type 0 where
  pub tokens : List Token
  pub lexes : Lexes (length pre) p z tokens
  pub same : all_seen whole tokens ≡ us

cut : (whole pre b z : List ℕ) → whole ≡ pre ++ (b ++ z) → slice_range whole (length pre) (length pre + length b) ≡ b
cut whole pre b z e =
    let m : (length pre + length b) - length pre ≡ length b = omega arith in
    ap (λ n. take n (drop (length pre) whole)) m ∙ ap (λ x. take (length b) (drop (length pre) x)) e ∙ ap (take (length b)) (drop-append_seam pre (b ++ z)) ∙ take-append_seam b z

after_both : (p : Place) (a b : List ℕ) → after p (a ++ b) ≡ after (after p a) b
after_both p [] b = refl
after_both p (c ∷ a) b = after_both (next p c) a b

behind : (pre b z : List ℕ) (p : Place) (ts : List Token) → Lexes (length (pre ++ b)) (after p b) z ts → Lexes (length pre + length b) (after p (take (length b) (b ++ z))) (drop (length b) (b ++ z)) ts
behind pre b z p ts d =
    subst (λ y. Lexes (length pre + length b) (after p (take (length b) (b ++ z))) y ts) (sym (drop-append_seam b z))
    (subst (λ y. Lexes (length pre + length b) (after p y) z ts) (sym (take-append_seam b z)) (subst (λ n. Lexes n (after p b) z ts) (length-append pre b) d))

-- a token in front
token_seen : (whole pre : List ℕ) (c : ℕ) (w z : List ℕ) (k : TokenKind) (p : Place) (rest : List Tok) → whole ≡ pre ++ ((c ∷ w) ++ z)
    → front ((c ∷ w) ++ z) ≡ piece.Token k (length (c ∷ w)) → Seen whole (pre ++ c ∷ w) z (after p (c ∷ w)) rest
    → Seen whole pre ((c ∷ w) ++ z) p (record { kind = k; bytes = c ∷ w; place = p } ∷ rest)
token_seen whole pre c w z k p rest e f s =
    let t : Token = record { kind = k; start = length pre; end = length pre + length (c ∷ w); place = p } in
    record {
      tokens = t ∷ s.tokens;
      lexes = Lexes.token f (behind pre (c ∷ w) z p s.tokens s.lexes);
      same = ap (λ b. record { kind = k; bytes = b; place = p } ∷ all_seen whole s.tokens) (cut whole pre (c ∷ w) z e) ∙ ap (λ us. record { kind = k; bytes = c ∷ w; place = p } ∷ us) s.same;
    }

-- a blank in front
blank_seen : (whole pre : List ℕ) (c : ℕ) (z : List ℕ) (p : Place) (rest : List Tok) → front (c ∷ z) ≡ piece.Space 1 → Seen whole (pre ++ c ∷ []) z (next p c) rest → Seen whole pre (c ∷ z) p rest
blank_seen whole pre c z p rest f s = record { tokens = s.tokens; lexes = Lexes.space f (behind pre (c ∷ []) z p s.tokens s.lexes); same = s.same }

-- ---- what stands behind a text

abbrev pub Anything : List ℕ → Type 0
Anything z = Unit {0}

-- no byte stands first that would go on with a name or a number
abbrev pub Closed : List ℕ → Type 0
Closed [] = Unit {0}
Closed (b ∷ bs) = is_name_byte b ≡ false

-- ---- what tokens are, up to those behind them

pub data Nothing : List Tok → List Tok → Type 0 where
  nothing : {ts : List Tok} → Nothing ts ts

pub data IsTok (k : TokenKind) (w : List ℕ) : List Tok → List Tok → Type 0 where
  here : {q : Place} {rest : List Tok} → IsTok k w (record { kind = k; bytes = w; place = q } ∷ rest) rest

pub data Seq (P Q : List Tok → List Tok → Type 0) : List Tok → List Tok → Type 0 where
  seq : {ts mid rest : List Tok} → P ts mid → Q mid rest → Seq P Q ts rest

-- a tree that differs from x in places alone
pub record One {A : Type 0} (X : List Tok → List Tok → A → Type 0) (R : A → A → Type 0) (x : A) (ts rest : List Tok) : Type 0 where
  pub tree : A
  pub is : X ts rest tree
  pub alike : R x tree

-- ---- texts in front of others

-- the text b, in front of a text of which C holds and which has tokens rest, has tokens ts in front of them, of which P holds
pub record Shows (C : List ℕ → Type 0) (b : List ℕ) (P : List Tok → List Tok → Type 0) : Type 0 where
  pub shows : (whole pre z : List ℕ) (p : Place) (rest : List Tok) → whole ≡ pre ++ (b ++ z) → C z → Seen whole (pre ++ b) z (after p b) rest
      → (ts : List Tok) × Seen whole pre (b ++ z) p ts × P ts rest

pub also : {C : List ℕ → Type 0} {b : List ℕ} {P Q : List Tok → List Tok → Type 0} → Shows C b P → ((ts rest : List Tok) → P ts rest → Q ts rest) → Shows C b Q
also f h = record { shows = λ whole pre z p rest e c s. let x = f.shows whole pre z p rest e c s in (x.0, x.1, h x.0 rest x.2) }

pub same_text : {C : List ℕ → Type 0} {a b : List ℕ} {P : List Tok → List Tok → Type 0} → a ≡ b → Shows C a P → Shows C b P
same_text {C = C} {P = P} e f = subst (λ x. Shows C x P) e f

pub wherever : {C : List ℕ → Type 0} {b : List ℕ} {P : List Tok → List Tok → Type 0} → Shows Anything b P → Shows C b P
wherever f = record { shows = λ whole pre z p rest e c s. f.shows whole pre z p rest e tt s }

-- what stands in front of tokens rest, where those of the text z behind it are known
abbrev Shown : (whole pre z : List ℕ) → Place → (List Tok → List Tok → Type 0) → List Tok → Type 0
Shown whole pre z p P rest = (ts : List Tok) × Seen whole pre z p ts × P ts rest

joined : {P Q : List Tok → List Tok → Type 0} (whole pre a b : List ℕ) (p : Place) (mid rest : List Tok) → a ≡ b → Shown whole pre a p P mid → Q mid rest → Shown whole pre b p (Seq P Q) rest
joined whole pre a b p mid rest e x y = (x.0, subst (λ t. Seen whole pre t p x.0) e x.1, seq x.2 y)

-- one text behind the other
pub then_ : {C D : List ℕ → Type 0} {a b : List ℕ} {P Q : List Tok → List Tok → Type 0} → ((z : List ℕ) → D z → C (b ++ z)) → Shows C a P → Shows D b Q → Shows D (a ++ b) (Seq P Q)
then_ {a = a} {b = b} n f g = record {
  shows = λ whole pre z p rest e c s.
      let e' : whole ≡ pre ++ (a ++ (b ++ z)) = e ∙ ap (λ x. pre ++ x) (append_assoc a b z) in
      let s1 = subst (λ x. Seen whole x z (after p (a ++ b)) rest) (sym (append_assoc pre a b)) s in
      let s2 = subst (λ q. Seen whole ((pre ++ a) ++ b) z q rest) (after_both p a b) s1 in
      let y = g.shows whole (pre ++ a) z (after p a) rest (e' ∙ sym (append_assoc pre a (b ++ z))) c s2 in
      joined whole pre (a ++ (b ++ z)) ((a ++ b) ++ z) p y.0 rest (sym (append_assoc a b z)) (f.shows whole pre (b ++ z) p y.0 e' (n z c) y.1) y.2;
}

-- behind which anything may stand
pub then_any : {D : List ℕ → Type 0} {a b : List ℕ} {P Q : List Tok → List Tok → Type 0} → Shows Anything a P → Shows D b Q → Shows D (a ++ b) (Seq P Q)
then_any f g = then_ (λ z d. tt) f g

pub nothing_shows : {C : List ℕ → Type 0} → Shows C [] Nothing
nothing_shows = record { shows = λ whole pre z p rest e c s. (rest, subst (λ x. Seen whole x z p rest) (append-nil pre) s, nothing) }

-- a token
pub token_shows : {C : List ℕ → Type 0} (k : TokenKind) (w : List ℕ) → suc 0 ≤ length w → ((z : List ℕ) → C z → front (w ++ z) ≡ piece.Token k (length w)) → Shows C w (IsTok k w)
token_shows k [] h f = absurd (omega (arith, h))
token_shows k (c ∷ w) h f = record {
  shows = λ whole pre z p rest e i s. (record { kind = k; bytes = c ∷ w; place = p } ∷ rest, token_seen whole pre c w z k p rest e (f z i) s, here);
}

-- a blank in front of a text
blank : {C : List ℕ → Type 0} {b : List ℕ} {P : List Tok → List Tok → Type 0} (c : ℕ) → ((z : List ℕ) → front (c ∷ z) ≡ piece.Space 1) → Shows C b P → Shows C (c ∷ b) P
blank {b = b} c k f = record {
  shows = λ whole pre z p rest e h s.
      let s1 = subst (λ x. Seen whole x z (after (next p c) b) rest) (sym (append_assoc pre (c ∷ []) b)) s in
      let x = f.shows whole (pre ++ c ∷ []) z (next p c) rest (e ∙ sym (append_assoc pre (c ∷ []) (b ++ z))) h s1 in
      (x.0, blank_seen whole pre c (b ++ z) p x.0 (k (b ++ z)) x.1, x.2);
}

space_first : (z : List ℕ) → front (32 ∷ z) ≡ piece.Space 1
unfolding front
space_first z = refl

feed_first : (z : List ℕ) → front (10 ∷ z) ≡ piece.Space 1
unfolding front
feed_first z = refl

pub spaced : {C : List ℕ → Type 0} {b : List ℕ} {P : List Tok → List Tok → Type 0} → Shows C b P → Shows C (32 ∷ b) P
spaced f = blank 32 space_first f

pub fed : {C : List ℕ → Type 0} {b : List ℕ} {P : List Tok → List Tok → Type 0} → Shows C b P → Shows C (10 ∷ b) P
fed f = blank 10 feed_first f

pub indented : {C : List ℕ → Type 0} {b : List ℕ} {P : List Tok → List Tok → Type 0} (n : ℕ) → Shows C b P → Shows C (indent n ++ b) P
indented zero f = f
indented (suc n) f = spaced (spaced (indented n f))

without : {P : List Tok → List Tok → Type 0} (ts rest : List Tok) → Seq P Nothing ts rest → P ts rest
without ts rest (seq x nothing) = x

-- a line feed or a space behind a text
pub line : {a : List ℕ} {P : List Tok → List Tok → Type 0} → Shows Closed a P → Shows Anything (a ++ codes "\n") P
line f = also (then_ (λ z d. refl) f (fed nothing_shows)) without

-- the whole text
pub whole_shown : {b : List ℕ} {P : List Tok → List Tok → Type 0} → Shows Anything b P → (ts : List Token) × Lexes 0 first b ts × P (all_seen b ts) []
whole_shown {b = b} {P = P} f =
    let x = f.shows b [] [] first [] (sym (append-nil b)) tt (record { tokens = []; lexes = Lexes.ends; same = refl }) in
    (x.1.tokens, subst (λ z. Lexes 0 first z x.1.tokens) (append-nil b) x.1.lexes, subst (λ ts. P ts []) (sym x.1.same) x.2)
