-- Which line of a text is refused.
use Rattle.std.specs.Prelude.{◌≡◌, ℕ, ◌+◌, ◌<◌, ◌≤◌, nat_eq, if◌then◌else◌, List, [], ◌∷◌, length, take}
use Rattle.target_code.specs.declared.tree.Program.{Program}
use Rattle.target_code.specs.Formed.{Formed}
use Rattle.target_lines.specs.Programs.{program_text}

-- a byte in front of the first line
abbrev pub in_front : ℕ → List (List ℕ) → List (List ℕ)
in_front b [] = (b ∷ []) ∷ []
in_front b (l ∷ ls) = (b ∷ l) ∷ ls

-- the lines of a text, each with its line feed; the last may have none
abbrev pub lines_of_text : List ℕ → List (List ℕ)
lines_of_text [] = []
lines_of_text (b ∷ bs) = if nat_eq b 10 then (10 ∷ []) ∷ lines_of_text bs else in_front b (lines_of_text bs)

-- the first so many lines are those of some formed program's text
abbrev pub Begins : List ℕ → ℕ → Type 0
Begins bytes k = (t : Program) × Formed t × (take k (lines_of_text bytes) ≡ take k (lines_of_text (program_text t)))

-- the line of a refusal: the first with which no program's text begins, or the one behind the last where the text only ends too early
pub record RefusedAt (bytes : List ℕ) (k : ℕ) : Type 0 where
  pub within : k ≤ length (lines_of_text bytes) + 1
  pub before : (j : ℕ) → j < k → Begins bytes j
  pub from_here : k ≤ length (lines_of_text bytes) → Begins bytes k → ⊥
  pub no_text : (t : Program) → Formed t → bytes ≡ program_text t → ⊥
