-- A text of values has one list of them, or one first place at which none goes on; and what is no schedule has one first line that is none.
use Rattle.std.proofs.Common.{◌≡◌, ◌⊎◌, inl, inr, ⊎_elim, ℕ, zero, suc, ◌+◌, ◌<◌, ◌≤◌, List, [], ◌∷◌, ◌++◌, length, take, drop, refl, sym, ap, ◌∙◌, subst, append_assoc, append-nil, arith}
use Rattle.std.proofs.lemmas.Bool.{cases_order}
use Rattle.target_text.specs.Refusals.{Begins as BeginsProgram, RefusedAt as ProgramRefusedAt, lines_of_text}
use Rattle.nres_core.specs.Front.{front}
use Rattle.nres_core.specs.Texts.{AreWiths, BeginsWiths, WithText, open_at_once, operators}
use Rattle.nres_core.specs.Tokens.{Lexes, StopsAt, after}
use Rattle.nres_core.specs.Vocabulary.{Tok, all_seen, place_of}
use Rattle.nres_core.specs.declared.place.Place.{Place}
use Rattle.nres_core.specs.declared.token.Piece.{Piece}
use Rattle.nres_core.specs.declared.token.Piece.TheVariants as piece
use Rattle.nres_core.specs.declared.token.Token.{Token}
use Rattle.nres_core.specs.declared.token.TokenKind.{TokenKind}
use Rattle.nres_core.specs.declared.tree.With.{With}
use Rattle.sep_lex.proofs.One as one
use Rattle.nres_automaton.proofs.CompleteTexts as complete
use Rattle.nres_automaton.specs.Automaton.{Found, accepted, given, run, withs}
use Rattle.nres_automaton.specs.Lexemes.{lexes}
use Rattle.nres_syntax.specs.Refusals.{EndsEarlyValues, StopsValues, ValuesRefusedAt, line_start}
use Rattle.replay.specs.Facts.{NoneRefused, TextsApart}
use Rattle.replay.specs.Schedules.{IsNoMove, RefusedAt, most_lines, move_text, schedule_text}

-- ---- programs

-- a text that is no program's has one line that is refused
pub one_line : (text : List ℕ) (j k : ℕ) → ProgramRefusedAt text j → ProgramRefusedAt text k → j ≡ k
one_line text j k a b =
    ⊎_elim (λ w. w)
    (⊎_elim (λ lt. absurd (a.from_here (let w = b.within in omega (arith, lt, w)) (b.before j lt))) (λ lt. absurd (b.from_here (let w = a.within in omega (arith, lt, w)) (a.before k lt))))
    (cases_order j k)

-- ---- values

same_found : (us vs : List With) → accepted (given us) ≡ accepted (given vs) → us ≡ vs
same_found us vs e = cc e

same_tokens : (ts : List Tok) (us vs : List With) → AreWiths ts us → AreWiths ts vs → us ≡ vs
same_tokens ts us vs a b =
    let q : Place = record { line = 1; column = 1 } in
    let here = complete.all_withs q operators open_at_once operators a [] given in
    let there = complete.all_withs q operators open_at_once operators b [] given in
    same_found us vs (sym here ∙ there)

pub same_values : (line : ℕ) (text : List ℕ) (us vs : List With) → WithText line text us → WithText line text vs → us ≡ vs
same_values line text us vs s t =
    same_tokens (all_seen text t.0) us vs (subst (λ ts. AreWiths (all_seen text ts) us) (one.one s.1 t.0 t.1) s.2) t.2

-- ---- the place of a refusal

-- what stops behind the piece at the front
data Stopping : Place → ℕ → List ℕ → Piece → Place → Type 0 where
  here : {b : ℕ} {p : Place} {z : List ℕ} → Stopping p b z piece.Wrong p
  space : {b n : ℕ} {p q : Place} {z : List ℕ} → StopsAt (after p (take n (b ∷ z))) (drop n (b ∷ z)) q → Stopping p b z (piece.Space n) q
  token : {b n : ℕ} {k : TokenKind} {p q : Place} {z : List ℕ} → StopsAt (after p (take n (b ∷ z))) (drop n (b ∷ z)) q → Stopping p b z (piece.Token k n) q

stopping : {b : ℕ} {p q : Place} {z : List ℕ} → StopsAt p (b ∷ z) q → Stopping p b z (front (b ∷ z)) q
stopping {b = b} {p = p} {z = z} (StopsAt.here e) = subst (λ x. Stopping p b z x p) (sym e) here
stopping {b = b} {p = p} {q = q} {z = z} (StopsAt.space e d) = subst (λ x. Stopping p b z x q) (sym e) (space d)
stopping {b = b} {p = p} {q = q} {z = z} (StopsAt.token e d) = subst (λ x. Stopping p b z x q) (sym e) (token d)

at_front : {b : ℕ} {p q : Place} {z : List ℕ} (x : Piece) → front (b ∷ z) ≡ x → StopsAt p (b ∷ z) q → Stopping p b z x q
at_front {b = b} {p = p} {q = q} {z = z} x e d = subst (λ y. Stopping p b z y q) e (stopping d)

wrong : {b : ℕ} {p q : Place} {z : List ℕ} → Stopping p b z piece.Wrong q → p ≡ q
wrong here = refl

spaced : {b n : ℕ} {p q : Place} {z : List ℕ} → Stopping p b z (piece.Space n) q → StopsAt (after p (take n (b ∷ z))) (drop n (b ∷ z)) q
spaced (space d) = d

met : {b n : ℕ} {k : TokenKind} {p q : Place} {z : List ℕ} → Stopping p b z (piece.Token k n) q → StopsAt (after p (take n (b ∷ z))) (drop n (b ∷ z)) q
met (token d) = d

one_stop : {p q : Place} {z : List ℕ} → StopsAt p z q → (r : Place) → StopsAt p z r → q ≡ r
one_stop (StopsAt.here e) r d = wrong (at_front piece.Wrong e d)
one_stop (StopsAt.space {n = n} e s) r d = one_stop s r (spaced (at_front (piece.Space n) e d))
one_stop (StopsAt.token {n = n} {k = k} e s) r d = one_stop s r (met (at_front (piece.Token k n) e d))

-- a front of a front
front_of : {A : Type 0} (m n : ℕ) (xs : List A) → m ≤ n → (rest : List A) × (take n xs ≡ take m xs ++ rest)
front_of zero n xs le = (take n xs, refl)
front_of (suc m) zero xs le = absurd (let z : ⊥ = omega (arith, le) in z)
front_of (suc m) (suc n) [] le = ([], refl)
front_of (suc m) (suc n) (x ∷ xs) le = let r = front_of m n xs (omega (arith, le)) in (r.0, ap (λ l. x ∷ l) r.1)

front_of_all : {A : Type 0} (m : ℕ) (xs : List A) → (rest : List A) × (xs ≡ take m xs ++ rest)
front_of_all zero xs = (xs, refl)
front_of_all (suc m) [] = ([], refl)
front_of_all (suc m) (x ∷ xs) = let r = front_of_all m xs in (r.0, ap (λ l. x ∷ l) r.1)

begins_front : (ts us rest : List Tok) → ts ≡ us ++ rest → BeginsWiths ts → BeginsWiths us
begins_front ts us rest e b =
    (rest ++ b.0, b.1, subst (λ l. AreWiths l b.1) (ap (λ l. l ++ b.0) e ∙ append_assoc us rest b.0) b.2)

less_begins : (ts : List Tok) (m n : ℕ) → m ≤ n → BeginsWiths (take n ts) → BeginsWiths (take m ts)
less_begins ts m n le b = let f = front_of m n ts le in begins_front (take n ts) (take m ts) f.0 f.1 b

part_begins : (ts : List Tok) (m : ℕ) → BeginsWiths ts → BeginsWiths (take m ts)
part_begins ts m b = let f = front_of_all m ts in begins_front ts (take m ts) f.0 f.1 b

one_stop_of : (ts : List Tok) (q r : Place) → StopsValues ts q → StopsValues ts r → q ≡ r
one_stop_of ts q r a b =
    let same : a.count ≡ b.count =
    ⊎_elim (λ w. w)
    (⊎_elim (λ lt. absurd (a.no_more (less_begins ts (suc a.count) b.count lt b.begins))) (λ lt. absurd (b.no_more (less_begins ts (suc b.count) a.count lt a.begins))))
    (cases_order a.count b.count) in
    sym a.place ∙ ap (λ n. place_of (drop n ts)) same ∙ b.place

one_end_of : (ts : List Tok) (end q r : Place) → (StopsValues ts q ⊎ EndsEarlyValues ts end q) → (StopsValues ts r ⊎ EndsEarlyValues ts end r) → q ≡ r
one_end_of ts end q r (inl a) (inl b) = one_stop_of ts q r a b
one_end_of ts end q r (inl a) (inr b) = absurd (a.no_more (part_begins ts (suc a.count) b.begins))
one_end_of ts end q r (inr a) (inl b) = absurd (b.no_more (part_begins ts (suc b.count) a.begins))
one_end_of ts end q r (inr a) (inr b) = sym a.place ∙ b.place

pub one_place : (line : ℕ) (text : List ℕ) (q r : Place) → ValuesRefusedAt line text q → ValuesRefusedAt line text r → q ≡ r
one_place line text q r (inl a) (inl b) = one_stop a r b
one_place line text q r (inl a) (inr b) = absurd (one.either a 0 b.0 b.1)
one_place line text q r (inr a) (inl b) = absurd (one.either b 0 a.0 a.1)
one_place line text q r (inr a) (inr b) =
    let same = one.one a.1 b.0 b.1 in
    one_end_of (all_seen text b.0) (after (line_start line) text) q r
    (subst (λ ts. StopsValues (all_seen text ts) q ⊎ EndsEarlyValues (all_seen text ts) (after (line_start line) text) q) same a.2) b.2

-- ---- schedules

cons_same : (x y : ℕ) (xs ys : List ℕ) → x ∷ xs ≡ y ∷ ys → (x ≡ y) × (xs ≡ ys)
cons_same x y xs ys e = ((let h : x ≡ y = cc e in h), (let t : xs ≡ ys = cc e in t))

-- of two fronts of one text one begins with the other
abbrev pub BeginsWith : List ℕ → List ℕ → List ℕ → List ℕ → Type 0
BeginsWith xs us ys vs = (zs : List ℕ) × (xs ≡ ys ++ zs) × (vs ≡ zs ++ us)

fronts : (xs us ys vs : List ℕ) → xs ++ us ≡ ys ++ vs → BeginsWith xs us ys vs ⊎ BeginsWith ys vs xs us
fronts xs us [] vs e = inl (xs, refl, sym e)
fronts [] us (y ∷ ys) vs e = inr (y ∷ ys, refl, e)
fronts (x ∷ xs) us (y ∷ ys) vs e =
    let same = cons_same x y (xs ++ us) (ys ++ vs) e in
    ⊎_elim
    (λ (w : BeginsWith xs us ys vs). inl (w.0, (λ i. same.0 i ∷ w.1 i), w.2))
    (λ (w : BeginsWith ys vs xs us). inr (w.0, (λ i. sym same.0 i ∷ w.1 i), w.2))
    (fronts xs us ys vs same.1)

module _ (apart : TextsApart) (not_refused : NoneRefused) (text : List ℕ) (first : ℕ) where
  -- the lines before the one that is refused are as many
  as_many : (j k : ℕ) (a : RefusedAt text first j) (b : RefusedAt text first k) → BeginsWith (schedule_text a.before) a.rest (schedule_text b.before) b.rest → length a.before ≡ length b.before
  as_many j k a b w = by w.0 w.1 w.2
    where
      by : (zs : List ℕ) → schedule_text a.before ≡ schedule_text b.before ++ zs → b.rest ≡ zs ++ a.rest → length a.before ≡ length b.before
      by [] e f = ap length (apart a.before b.before a.words b.words (e ∙ append-nil (schedule_text b.before)))
      by (z ∷ zs) e f = absurd (not_refused a.before first (first + length b.before) a.words a.few (record {
        before = b.before;
        words = b.words;
        rest = z ∷ zs;
        is = e;
        some = λ q. let y : ⊥ = cc q in y;
        few = b.few;
        none = ⊎_elim (λ (full : length b.before ≡ most_lines). inl full)
            (λ (no : IsNoMove b.rest). inr (λ m r h q. no m (r ++ a.rest) h (f ∙ ap (λ l. l ++ a.rest) q ∙ append_assoc (move_text m) r a.rest))) b.none;
        number = refl;
      }))

  pub one_refused : (j k : ℕ) → RefusedAt text first j → RefusedAt text first k → j ≡ k
  one_refused j k a b =
      let same : length a.before ≡ length b.before =
      ⊎_elim
      (λ (w : BeginsWith (schedule_text a.before) a.rest (schedule_text b.before) b.rest). as_many j k a b w)
      (λ (w : BeginsWith (schedule_text b.before) b.rest (schedule_text a.before) a.rest). sym (as_many k j b a w))
      (fronts (schedule_text a.before) a.rest (schedule_text b.before) b.rest (sym a.is ∙ b.is)) in
      a.number ∙ ap (λ n. first + n) same ∙ sym b.number
