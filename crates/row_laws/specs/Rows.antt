-- Rule rows, and the law of a row: what a call of its procedure does, by values, registers and pieces.
use Rattle.std.specs.Prelude.{◌≡◌, ℕ, zero, suc, ◌+◌, ◌*◌, ◌/◌, ◌<◌, List, [], ◌∷◌, ◌++◌, slice_index, option_to_list, Option, Some, None, ◌==◌, if◌then◌else◌}
use Rattle.nres_core.specs.Ops.{op_out}
use Rattle.nres_core.specs.Runs.{Gives, Fails, Done}
use Rattle.nres_core.specs.declared.op.Op.{Op}
use Rattle.nres_core.specs.declared.row.Fate.{Fate}
use Rattle.nres_core.specs.declared.row.Fate.TheVariants as fate
use Rattle.nres_core.specs.declared.value.Value.{Value}
use Rattle.nres_core.specs.declared.value.Value.TheVariants as v
use Rattle.target_code.specs.declared.tree.Proc.{Proc}
use Rattle.target_code.specs.declared.tree.Rep.{Rep}
use Rattle.target_code.specs.declared.tree.Rep.TheVariants as rep
use Rattle.target_meaning.specs.Piece.{Piece, none, plus, IsAllWhole}
use Rattle.triple_logic.specs.Weakest.{End_fact, Does}
use Rattle.relations.specs.Represents.{Represents}

-- a value in registers, with its piece
pub record Thing : Type 0 where
  pub value : Value
  pub words : List ℕ
  pub piece : Piece

abbrev pub thing : Value → List ℕ → Piece → Thing
thing x regs p = record { value = x; words = regs; piece = p }

abbrev pub values_of : List Thing → List Value
values_of [] = []
values_of (t ∷ ts) = t.value ∷ values_of ts

abbrev pub words_of : List Thing → List ℕ
words_of [] = []
words_of (t ∷ ts) = t.words ++ words_of ts

abbrev pub pieces_of : List Thing → Piece
pieces_of [] = none
pieces_of (t ∷ ts) = plus t.piece (pieces_of ts)

-- an argument: what becomes of it, and its representation
abbrev pub Takes : Type 0
Takes = Fate × Rep

-- a row with its procedure, for one bound of sets and maps below a bound
pub record Rule : Type 0 where
  pub op : Op
  pub proc : Proc
  -- the bound, where the procedure takes it first
  pub before : List ℕ
  pub takes : List Takes
  pub gives : List Rep
  -- an argument that must be below a number
  pub fact : Option (ℕ × ℕ)
  -- the words of the one block that may be claimed, by values and registers
  pub claim : List Value → List ℕ → Option ℕ

-- an argument that is a number
abbrev pub a_word : Takes
a_word = (fate.Kept, rep.Word)

-- a container that stays, and one that is given up
abbrev pub keeps : Rep → Takes
keeps r = (fate.Kept, r)

abbrev pub gives_up : Rep → Takes
gives_up r = (fate.Destroyed, r)

-- no block is claimed, or one of as many words as that register says
abbrev pub no_claim : List Value → List ℕ → Option ℕ
no_claim vs regs = None

abbrev pub by_register : ℕ → List Value → List ℕ → Option ℕ
by_register i vs regs = Some (slice_index regs i)

-- twice the words of a block that is full: its elements and its words stand in registers 1 and 2
abbrev pub if_full : List Value → List ℕ → Option ℕ
if_full vs regs = if slice_index regs 1 == slice_index regs 2 then Some (slice_index regs 2 + slice_index regs 2) else None

-- ---- arguments

-- a piece that is given up is whole; one that is kept has any shares
abbrev pub IsWholeFor : Fate → Piece → Type 0
IsWholeFor fate.Kept p = Unit {0}
IsWholeFor fate.Destroyed p = IsAllWhole p

-- arguments in their representations
abbrev pub AreTaken : List Takes → List Thing → Type 0
AreTaken [] [] = Unit {0}
AreTaken (a ∷ rest) (t ∷ ts) = Represents a.1 t.value t.words t.piece × IsWholeFor a.0 t.piece × AreTaken rest ts
AreTaken _ _ = ⊥

-- what one argument adds to the pieces that are given up, and to those that are kept
abbrev pub if_destroyed : Fate → Piece → Piece
if_destroyed fate.Kept p = none
if_destroyed fate.Destroyed p = p

abbrev pub if_kept : Fate → Piece → Piece
if_kept fate.Kept p = p
if_kept fate.Destroyed p = none

abbrev pub destroyed : List Takes → List Thing → Piece
destroyed (a ∷ rest) (t ∷ ts) = plus (if_destroyed a.0 t.piece) (destroyed rest ts)
destroyed _ _ = none

abbrev pub kept : List Takes → List Thing → Piece
kept (a ∷ rest) (t ∷ ts) = plus (if_kept a.0 t.piece) (kept rest ts)
kept _ _ = none

-- the words of a block, by representation and registers; of a slice those of its range
abbrev pub block_size : Rep → List ℕ → ℕ
block_size rep.Word regs = 0
block_size rep.Flag regs = 0
block_size rep.Array regs = slice_index regs 2
block_size rep.Slice regs = slice_index regs 2
block_size rep.Vec regs = slice_index regs 2
block_size (rep.Bits u) regs = (u + 63) / 64
block_size rep.Hset regs = 2 * slice_index regs 1
block_size (rep.Amap u) regs = 2 * u
block_size rep.Hmap regs = 3 * slice_index regs 1
block_size rep.Heap regs = slice_index regs 2

abbrev pub sizes : List Takes → List Thing → ℕ
sizes (a ∷ rest) (t ∷ ts) = block_size a.1 t.words + sizes rest ts
sizes _ _ = 0

abbrev pub or_none : Option ℕ → ℕ
or_none None = 0
or_none (Some n) = n

-- what a row's fact says of the arguments
abbrev pub IsBelow : Value → ℕ → Type 0
IsBelow (v.Nat n) u = n < u
IsBelow x u = ⊥

abbrev pub At : ℕ → ℕ → List Value → Type 0
At i u [] = ⊥
At zero u (x ∷ xs) = IsBelow x u
At (suc i) u (x ∷ xs) = At i u xs

abbrev pub Known : Option (ℕ × ℕ) → List Value → Type 0
Known None vs = Unit {0}
Known (Some f) vs = At f.0 f.1 vs

-- ---- what a call does

abbrev pub AreGiven : List Rep → List Thing → Type 0
AreGiven [] [] = Unit {0}
AreGiven (r ∷ rs) (t ∷ ts) = Represents r t.value t.words t.piece × IsAllWhole t.piece × AreGiven rs ts
AreGiven _ _ = ⊥

-- the results are an outcome of the operation, in their representations and with whole pieces; beside them there is what was kept, as it was, and nothing else
pub record Given (rule : Rule) (things : List Thing) (regs : List ℕ) (q : Piece) : Type 0 where
  pub outs : List Thing
  pub outcome : Gives (op_out rule.op (values_of things)) (values_of outs)
  pub related : AreGiven rule.gives outs
  pub registers : regs ≡ words_of outs
  pub piece : q ≡ plus (pieces_of outs) (kept rule.takes things)

abbrev pub GivenEnd : Rule → List Thing → End_fact
GivenEnd rule things a regs q = Given rule things regs q

-- at most 4,096 times the square of the words of the arguments' blocks and of the block that is claimed, and one more
abbrev pub most_steps : ℕ → ℕ
most_steps w = 4096 * ((w + 1) * (w + 1))

abbrev pub claim_of : Rule → List Thing → Option ℕ
claim_of rule things = rule.claim (values_of things) (words_of things)

-- the law of a row: from its arguments, on which the operation does not fail, and with its fact, the procedure ends so, within those steps, and claims no
-- more than one block of so many words
abbrev pub Call : List Proc → Rule → List Thing → Type 0
Call T rule things =
    ¬ Fails (op_out rule.op (values_of things)) → Known rule.fact (values_of things)
    → Does T rule.proc (GivenEnd rule things) (most_steps (sizes rule.takes things + or_none (claim_of rule things))) (option_to_list (claim_of rule things))
    (rule.before ++ words_of things) (plus (destroyed rule.takes things) (kept rule.takes things))

-- the law of a row without a procedure: a register of the argument is the number that the operation gives
abbrev pub RegisterLaw : Op → Rep → ℕ → Type 0
RegisterLaw op r i = (t : Thing) → Represents r t.value t.words t.piece → op_out op (t.value ∷ []) ≡ Done (v.Nat (slice_index t.words i) ∷ [])

abbrev pub RowLaw : List Proc → Rule → Type 0
RowLaw T rule = (things : List Thing) → AreTaken rule.takes things → Call T rule things
