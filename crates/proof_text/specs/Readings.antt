-- Which lines a text has, and of which kind each is.
use Rattle.std.specs.Prelude.{◌≡◌, ◌⊎◌, ℕ, nat_eq, if◌then◌else◌, List, [], ◌∷◌}
use Rattle.std.specs.List.{AllByRecursion}
use Rattle.proof_text.specs.declared.line.ProofLine.{ProofLine}
use Rattle.proof_text.specs.declared.line.ProofLine.TheVariants as line
use Rattle.proof_text.specs.declared.line.Proof.{Proof}
use Rattle.proof_text.specs.Texts.{HasText, feed_text, proof_text}

-- a byte in front of the first line
abbrev pub in_front : ℕ → List (List ℕ) → List (List ℕ)
in_front b [] = (b ∷ []) ∷ []
in_front b (l ∷ ls) = (b ∷ l) ∷ ls

-- the lines of a text, each with its line feed; the last may have none
abbrev pub lines_of : List ℕ → List (List ℕ)
lines_of [] = []
lines_of (b ∷ bs) = if nat_eq b 10 then (10 ∷ []) ∷ lines_of bs else in_front b (lines_of bs)

-- it is the text of no line
abbrev pub HasNoLine : List ℕ → Type 0
HasNoLine text = (l : ProofLine) → HasText l → text ≡ feed_text l → ⊥

-- a line of a text is of a kind where it is the text of that kind, and Other where it is the text of none
abbrev pub IsOfKind : List ℕ → ProofLine → Type 0
IsOfKind text l = (HasText l × (text ≡ feed_text l)) ⊎ ((l ≡ line.Other) × HasNoLine text)

-- as many lines as kinds, each of its kind
abbrev pub AreOfKinds : List (List ℕ) → List ProofLine → Type 0
AreOfKinds [] [] = Unit {0}
AreOfKinds (t ∷ ts) (l ∷ ls) = IsOfKind t l × AreOfKinds ts ls
AreOfKinds _ _ = ⊥

-- the text, line by line
abbrev pub IsReadAs : List ℕ → Proof → Type 0
IsReadAs text p = AreOfKinds (lines_of text) p.lines

-- what is printed of a derivation is read as this derivation, and as no other
abbrev pub PrintedIsRead : Type 0
PrintedIsRead = (p q : Proof) → AllByRecursion HasText p.lines → (IsReadAs (proof_text p) p) × (IsReadAs (proof_text p) q → q ≡ p)

-- a text is read as one derivation
abbrev pub OneReading : Type 0
OneReading = (text : List ℕ) (p q : Proof) → IsReadAs text p → IsReadAs text q → p ≡ q
