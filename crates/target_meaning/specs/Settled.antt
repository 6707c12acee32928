-- What a frame does next at a place that is settled.
use Rattle.std.specs.Prelude.{◌≡◌, ℕ, suc, List, [], ◌∷◌, ◌++◌, slice_get}
use Rattle.std.specs.Prelude.{Some}
use Rattle.target_code.specs.declared.tree.Instr.{Instr, out-Instr}
use Rattle.target_meaning.specs.declared.place.Outer.{Outer}
use Rattle.target_meaning.specs.declared.place.Inner.{Inner}
use Rattle.target_meaning.specs.declared.place.Inner.TheVariants.{Cond, Body}
use Rattle.target_meaning.specs.declared.settle.Standing.{Standing}
use Rattle.target_meaning.specs.declared.settle.Standing.TheVariants.{Do, Test, Return}
use Rattle.target_meaning.specs.declared.settle.After.{After}
use Rattle.target_meaning.specs.declared.settle.After.TheVariants as a
use Rattle.target_meaning.specs.Leaf as leaf
use Rattle.target_meaning.specs.Place.{items_at, list_at, place_line, inner_code, inner_line, after_inner}
use Rattle.target_meaning.specs.Lines.{second_line}

-- what follows the inner codes of a loop
pub record IsLoop (test : ℕ) (i : Instr) : Type 0 where
  pub cond : List Instr
  pub body : List Instr
  pub first : (line : ℕ) → after_inner Cond line (out-Instr i) ≡ leaf.Test line cond test body ∷ []
  pub second : (line : ℕ) → after_inner Body line (out-Instr i) ≡ leaf.do_all (suc line) cond ++ leaf.Test line cond test body ∷ []
  pub first_code : inner_code Cond (out-Instr i) ≡ cond
  pub second_code : inner_code Body (out-Instr i) ≡ body
  pub first_line : (line : ℕ) → inner_line Cond line (out-Instr i) ≡ suc line
  pub lines : (line : ℕ) → inner_line Body line (out-Instr i) ≡ second_line line cond

-- what follows an inner code of an instruction, as the code tells it
abbrev pub AfterIs : After → Inner → Instr → Type 0
AfterIs (a.Test test) inner i = (inner ≡ Cond) × IsLoop test i
AfterIs a.Again inner i = (inner ≡ Body) × ((test : ℕ) × IsLoop test i)
AfterIs a.Behind inner i = (line : ℕ) → after_inner inner line (out-Instr i) ≡ []

-- the test of a loop: what is left at 0, and else
pub record AtTest (code : List Instr) (test next : ℕ) (outer : List Outer) (n : ℕ) : Type 0 where
  pub line : ℕ
  pub cond : List Instr
  pub body : List Instr
  pub front : List Outer
  pub level : Outer
  pub split : outer ≡ front ++ level ∷ []
  pub begins : line ≡ place_line 1 code front level.index
  pub inside : cond ≡ list_at code outer
  pub is : items_at 1 code outer n ≡ leaf.Test line cond test body ∷ items_at 1 code front next
  pub again : items_at 1 code (front ++ (record { index = level.index; inner = Body }) ∷ []) 0 ≡ leaf.do_all (second_line line cond) body ++ (leaf.do_all (suc line) cond ++ leaf.Test line cond test body ∷ items_at 1 code front next)

-- what comes next at a place, as the code tells it
abbrev pub Settled : List Instr → Standing → List Outer → ℕ → Type 0
Settled code (Do i next) outer n = (slice_get (list_at code outer) n ≡ Some i.now) × (next ≡ suc n)
Settled code (Test t next) outer n = AtTest code t next outer n
Settled code Return outer n = items_at 1 code outer n ≡ []
