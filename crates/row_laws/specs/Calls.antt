-- What the law of a row gives to those who call.
use Rattle.std.specs.Prelude.{◌≡◌, ℕ, ◌+◌, ◌^◌, ◌<◌, ◌≤◌, List, [], ◌++◌, option_to_list}
use Rattle.nres_core.specs.Ops.{op_out}
use Rattle.nres_core.specs.Runs.{Fails}
use Rattle.target_code.specs.declared.tree.Proc.{Proc}
use Rattle.target_meaning.specs.Held.{holdings}
use Rattle.target_meaning.specs.Leaf.{Run, begin}
use Rattle.target_meaning.specs.Machine.{Heap, Tree, Leaf, Room, IsSized}
use Rattle.target_meaning.specs.Piece.{Nil, Piece, plus, Holds}
use Rattle.target_meaning.specs.Runs.{Schedule, OnMoved, reach}
use Rattle.triple_logic.specs.Bounded.{Bounded}
use Rattle.triple_logic.specs.Claims.{cost}
use Rattle.triple_logic.specs.Safe.{Safe, at_end}
use Rattle.row_laws.specs.Rows.{Thing, Rule, values_of, words_of, destroyed, kept, sizes, or_none, claim_of, AreTaken, Known, Given, most_steps, RowLaw}

abbrev pub held_by : Rule → List Thing → Piece
held_by rule things = plus (destroyed rule.takes things) (kept rule.takes things)

abbrev pub at_call : Rule → List Thing → Tree Piece
at_call rule things = Leaf (held_by rule things) (Run (begin rule.proc (rule.before ++ words_of things)) [])

-- the call is safe for every number of steps at any depth of forks, over within the bound, and no schedule of it claims more than the one block
pub record CallMeets (T : List Proc) (rule : Rule) (things : List Thing) : Type 0 where
  pub safe : (n f : ℕ) → Safe T at_end (Given rule things) n f (at_call rule things)
  pub bounded : (f : ℕ) → Bounded T at_end (Given rule things) (most_steps (sizes rule.takes things + or_none (claim_of rule things))) f (at_call rule things)
  pub claims : (room : Room) → IsSized room → (es : Schedule) (h : Heap) → Holds (held_by rule things) h
      → OnMoved (reach holdings room T es (at_call rule things) h) (λ u k. k.claimed ≤ h.claimed + cost (option_to_list (claim_of rule things)))

abbrev pub RowUse : Type 0
RowUse =
    (T : List Proc) (rule : Rule) → RowLaw T rule → (things : List Thing) → AreTaken rule.takes things → ¬ Fails (op_out rule.op (values_of things)) → Known rule.fact (values_of things)
    → CallMeets T rule things

-- the names of blocks of which something is held are words
abbrev pub NamesHeld : Type 0
NamesHeld = (p : Piece) (h : Heap) → Holds p h → (b j : ℕ) → (p b j ≡ Nil → ⊥) → b < 2 ^ 64
