-- The lines of code, taken one by one: which blocks are open, and what stands in them so far.
use Rattle.std.specs.Prelude.{ℕ, suc, Bool, true, false, nat_eq, nat_lt, List, [], ◌∷◌, ◌++◌, length, Option, Some, None}
use Rattle.target_code.specs.declared.tree.Code.{Code, roll-Code}
use Rattle.target_code.specs.declared.tree.Instr.{Instr, out-Instr}
use Rattle.target_code.specs.declared.tree.Instr.TheVariants as instr
use Rattle.target_lines.specs.declared.line.Line.{Line}
use Rattle.target_lines.specs.declared.line.Phrase.{Phrase}
use Rattle.target_lines.specs.declared.line.Phrase.TheVariants as phrase
use Rattle.target_lines.specs.Programs.{line, items_lines, is_flat}

abbrev pub code_of : List Instr → Code
code_of is = roll-Code (record { list = is })

-- an open block, with what stands before its instruction
pub data Frame : Type 0 where
  Yes : (test : ℕ) (before : List Instr) → Frame
  No : (test : ℕ) (chosen before : List Instr) → Frame
  Cond : (before : List Instr) → Frame
  Body : (cond : List Instr) (test : ℕ) (before : List Instr) → Frame

-- the open blocks, the innermost first, and the instructions of the innermost
pub record Place : Type 0 where
  pub frames : List Frame
  pub items : List Instr

abbrev pub place : List Frame → List Instr → Place
place fs is = record { frames = fs; items = is }

abbrev pub guard : {A : Type 0} → Bool → A → Option A
guard true x = Some x
guard false x = None

-- a block opens below the 100th
abbrev pub opens : List Frame → Frame → Option Place
opens fs f = guard (nat_lt (length fs) 100) (place (f ∷ fs) [])

-- the words that stand at the level of their instruction
abbrev pub turns : Phrase → List Instr → List Frame → Option Place
turns phrase.Else is (Yes t before ∷ fs) = Some (place (No t is before ∷ fs) [])
turns phrase.End is (No t chosen before ∷ fs) = Some (place fs (before ++ instr.If t (code_of chosen) (code_of is) ∷ []))
turns (phrase.Do t) is (Cond before ∷ fs) = Some (place (Body is t before ∷ fs) [])
turns phrase.End is (Body cond t before ∷ fs) = Some (place fs (before ++ instr.While (code_of cond) t (code_of is) ∷ []))
turns p is fs = None

abbrev pub goes : Phrase → Place → Option Place
goes (phrase.Plain i) s = guard (is_flat (out-Instr i)) (place s.frames (s.items ++ i ∷ []))
goes (phrase.If t) s = opens s.frames (Yes t s.items)
goes phrase.While s = opens s.frames (Cond s.items)
goes p s = None

abbrev pub level_of : List Frame → ℕ
level_of fs = suc (length fs)

abbrev pub take_at : Bool → Bool → Phrase → Place → Option Place
take_at true b p s = goes p s
take_at false true p s = turns p s.items s.frames
take_at false false p s = None

-- a line of code
unfoldable pub takes : Line → Place → Option Place
takes l s = take_at (nat_eq l.level (level_of s.frames)) (nat_eq (suc l.level) (level_of s.frames)) l.phrase s

abbrev pub and_then : {A B : Type 0} → Option A → (A → Option B) → Option B
and_then None f = None
and_then (Some x) f = f x

unfoldable pub run : List Line → Place → Option Place
run [] s = Some s
run (l ∷ ls) s = and_then (takes l s) (run ls)

-- the lines of the open blocks
abbrev pub opened : List Frame → List Line
opened [] = []
opened (Yes t before ∷ fs) = opened fs ++ (items_lines (level_of fs) before ++ line (level_of fs) (phrase.If t) ∷ [])
opened (No t chosen before ∷ fs) = opened fs ++ (items_lines (level_of fs) before ++ (line (level_of fs) (phrase.If t) ∷ (items_lines (suc (level_of fs)) chosen ++ line (level_of fs) phrase.Else ∷ [])))
opened (Cond before ∷ fs) = opened fs ++ (items_lines (level_of fs) before ++ line (level_of fs) phrase.While ∷ [])
opened (Body cond t before ∷ fs) = opened fs ++ (items_lines (level_of fs) before ++ (line (level_of fs) phrase.While ∷ (items_lines (suc (level_of fs)) cond ++ line (level_of fs) (phrase.Do t) ∷ [])))

-- all lines that were taken
abbrev pub so_far : Place → List Line
so_far s = opened s.frames ++ items_lines (level_of s.frames) s.items
