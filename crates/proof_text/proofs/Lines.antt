-- A text is read line by line.
use Rattle.std.proofs.Common.{◌≡◌, ◌⊎◌, ℕ, suc, nat_eq, cond, Bool, true, false, true≢false, List, [], ◌∷◌, ◌++◌, length, inl, inr, refl, ap, sym, subst, ◌∙◌, append_assoc, append-nil, arith}
use Rattle.std.specs.List.{list_all}
use Rattle.std.specs.Str.{bytes_eq}
use Rattle.std.proofs.lemmas.Bool.{eqb-true, not-true, both_ways, and_parts}
use Rattle.std.proofs.lemmas.List.{append_cancel_right}
use Rattle.std.proofs.lemmas.Slice.Eq.{bytes_eq-Decides}
use Rattle.proof_text.specs.declared.line.ProofLine.{ProofLine}
use Rattle.proof_text.specs.declared.line.ProofLine.TheVariants as line
use Rattle.proof_text.specs.Texts.{line_text, feed_text, HasText}
use Rattle.proof_text.specs.Readings.{in_front, lines_of, HasNoLine, IsOfKind, AreOfKinds}
use Rattle.proof_text.specs.Guesses.{is_not, Lacks, IsKnown}
use Rattle.proof_text.proofs.Cuts.{has}

-- ---- lines of a text

pub lines_cut : (text after : List ℕ) → Lacks 10 text → lines_of (text ++ (10 ∷ after)) ≡ (text ++ (10 ∷ [])) ∷ lines_of after
lines_cut [] after h = refl
lines_cut (b ∷ bs) after h =
    let parts = and_parts (is_not 10 b) (list_all (is_not 10) bs) h in
    ap (λ v. cond v ((10 ∷ []) ∷ lines_of (bs ++ (10 ∷ after))) (in_front b (lines_of (bs ++ (10 ∷ after))))) (not-true (nat_eq b 10) parts.0)
    ∙ ap (in_front b) (lines_cut bs after parts.1)

pub lines_last : (b : ℕ) (bs : List ℕ) → Lacks 10 (b ∷ bs) → lines_of (b ∷ bs) ≡ (b ∷ bs) ∷ []
lines_last b [] h = let parts = and_parts (is_not 10 b) true h in ap (λ v. cond v ((10 ∷ []) ∷ []) ((b ∷ []) ∷ [])) (not-true (nat_eq b 10) parts.0)
lines_last b (c ∷ cs) h =
    let parts = and_parts (is_not 10 b) (list_all (is_not 10) (c ∷ cs)) h in
    ap (λ v. cond v ((10 ∷ []) ∷ lines_of (c ∷ cs)) (in_front b (lines_of (c ∷ cs)))) (not-true (nat_eq b 10) parts.0) ∙ ap (in_front b) (lines_last c cs parts.1)

-- ---- kinds

known_or : (l : ProofLine) → IsKnown l → HasText l ⊎ (l ≡ line.Other)
known_or line.Calc h = inl h
known_or (line.Row name) h = inl h
known_or line.Reg h = inl h
known_or (line.Any r) h = inl h
known_or line.Left h = inl h
known_or line.Right h = inl h
known_or (line.If rs) h = inl h
known_or (line.While rs) h = inl h
known_or line.Par h = inl h
known_or (line.Split a b) h = inl h
known_or line.Use h = inl h
known_or line.Other h = inr refl

-- what a line is taken for, if it has a text at all
abbrev pub IsOnly : List ℕ → ProofLine → Type 0
IsOnly text k = (l : ProofLine) → HasText l → text ≡ line_text l → k ≡ l

spelled_kind : (text : List ℕ) (k : ProofLine) → HasText k ⊎ (k ≡ line.Other) → IsOnly text k → line_text k ≡ text → IsOfKind (text ++ (10 ∷ [])) k
spelled_kind text k (inl h) only e = inl (h, ap (λ (z : List ℕ). z ++ (10 ∷ [])) (sym e))
spelled_kind text k (inr other) only e = inr (other, λ l h is. subst HasText (sym (only l h (append_cancel_right text (line_text l) (10 ∷ []) is)) ∙ other) h)

pub is_spelled : (text : List ℕ) (k : ProofLine) → IsKnown k → IsOnly text k → bytes_eq (line_text k) text ≡ true → IsOfKind (text ++ (10 ∷ [])) k
is_spelled text k known only same = spelled_kind text k (known_or k known) only ((bytes_eq-Decides (line_text k) text).0 same)

pub is_not_spelled : (text : List ℕ) (k : ProofLine) → IsOnly text k → bytes_eq (line_text k) text ≡ false → IsOfKind (text ++ (10 ∷ [])) line.Other
is_not_spelled text k only differs = inr (
  refl,
  λ l h is.
      let e : text ≡ line_text l = append_cancel_right text (line_text l) (10 ∷ []) is in
      both_ways (bytes_eq (line_text k) text) differs ((bytes_eq-Decides (line_text k) text).1 (ap line_text (only l h e) ∙ sym e)),
)

-- a line without a line feed
unended : (text : List ℕ) → Lacks 10 text → IsOfKind text line.Other
unended text lacks = inr (refl, λ l h is. has 10 (line_text l) [] (subst (Lacks 10) is lacks))

-- ---- reading them

-- with the kinds of the lines that are left, these are the kinds of all lines
abbrev pub IsSoFar : List ℕ → List ProofLine → List ℕ → Type 0
IsSoFar bytes done rest = (more : List ProofLine) → AreOfKinds (lines_of rest) more → AreOfKinds (lines_of bytes) (done ++ more)

pub one_more : (bytes : List ℕ) (done : List ProofLine) (rest text after : List ℕ) (k : ProofLine) → rest ≡ text ++ (10 ∷ after) → Lacks 10 text → IsOfKind (text ++ (10 ∷ [])) k → IsSoFar bytes done rest → IsSoFar bytes (done ++ (k ∷ [])) after
one_more bytes done rest text after k e lacks is so_far more h =
    let lines : (text ++ (10 ∷ [])) ∷ lines_of after ≡ lines_of rest = sym (lines_cut text after lacks) ∙ ap lines_of (sym e) in
    subst (AreOfKinds (lines_of bytes)) (sym (append_assoc done (k ∷ []) more)) (so_far (k ∷ more) (subst (λ ls. AreOfKinds ls (k ∷ more)) lines (is, h)))

pub all_done : (bytes : List ℕ) (done : List ProofLine) (rest : List ℕ) → nat_eq (length rest) 0 ≡ true → IsSoFar bytes done rest → AreOfKinds (lines_of bytes) done
all_done bytes done [] empty so_far = subst (AreOfKinds (lines_of bytes)) (append-nil done) (so_far [] tt)
all_done bytes done (b ∷ bs) empty so_far = let none : suc (length bs) ≡ 0 = eqb-true (suc (length bs)) 0 empty in absurd (omega (arith, none))

pub last_one : (bytes : List ℕ) (done : List ProofLine) (rest : List ℕ) → nat_eq (length rest) 0 ≡ false → Lacks 10 rest → IsSoFar bytes done rest → AreOfKinds (lines_of bytes) (done ++ (line.Other ∷ []))
last_one bytes done [] some lacks so_far = absurd (true≢false some)
last_one bytes done (b ∷ bs) some lacks so_far = so_far (line.Other ∷ []) (subst (λ ls. AreOfKinds ls (line.Other ∷ [])) (sym (lines_last b bs lacks)) (unended (b ∷ bs) lacks, tt))
