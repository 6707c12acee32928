-- What is kept of the state where a derivation began to be followed.
use Rattle.std.specs.Prelude.{◌≡◌, ◌≤◌, ◌<◌, ℕ, false, List, [], ◌∷◌, ◌++◌, Option}
use Rattle.target_code.specs.declared.tree.Instr.{Instr}
use Rattle.nres_core.specs.FlatTree.{Binds, Ending}
use Rattle.rule_check.specs.Context.{Hold, Shape, is_container}
use Rattle.fits.specs.Places.{Entry, State}
use Rattle.fits.specs.Follow.{Line, Views, Found, and_then, fit, block, end_test}

-- entries with the newest first, all of variables below a bound
abbrev pub Under : ℕ → List Entry → Type 0
Under n [] = Unit {0}
Under n (e ∷ es) = (e.var < n) × Under e.var es

-- numbers and truth values are held as they were
abbrev pub SameNumbers : (ℕ → Hold) → (ℕ → Hold) → List Entry → Type 0
SameNumbers g h [] = Unit {0}
SameNumbers g h (e ∷ es) = (is_container e.shape.rep ≡ false → h e.var ≡ g e.var) × SameNumbers g h es

-- the entries from before stand below those that were made since
pub record Older (s t : State) : Type 0 where
  pub made : List Entry
  pub entries : t.entries ≡ made ++ s.entries
  pub next : s.next ≤ t.next
  pub numbers : SameNumbers s.hold t.hold s.entries
  pub under : Under t.next t.entries

pub record KeepsOlder : Type 0 where
  pub binds :
      (R : ℕ) (V : Views) (bs : Binds) (s : State) (code : List Instr) (lines : List Line) → Under s.next s.entries
      → (t : State) (c : List Instr) (ls : List Line) → fit R V bs s code lines ≡ Found t c ls → Older s t
  pub blocks :
      (R : ℕ) (V : Views) (bs : Binds) (count mark : ℕ) (astray : List Shape → Option ℕ) (e : Ending) (rs : List ℕ) (s : State) (code : List Instr) (lines : List Line) → Under s.next s.entries
      → (t : State) (c : List Instr) (ls : List Line) → block R V (fit R V bs) count mark astray e rs s code lines ≡ Found t c ls → Older s t
  pub tests :
      (R : ℕ) (V : Views) (bs : Binds) (mark : ℕ) (s : State) (code : List Instr) (lines : List Line) → Under s.next s.entries
      → (t : State) (c : List Instr) (ls : List Line) → and_then (fit R V bs s code lines) (end_test R V mark) ≡ Found t c ls → Older s t
