-- Steps of a leaf's innermost frame, whatever frames wait below it.
use Rattle.std.specs.Prelude.{◌≡◌, ℕ, suc, ◌+◌, ◌<◌, ◌≤◌, ◌⊎◌, Bool, true, false, List, [], ◌∷◌, ◌++◌, slice_get}
use Rattle.std.specs.Prelude.{None}
use Rattle.target_code.specs.declared.tree.Code.{Code}
use Rattle.target_code.specs.declared.tree.Instr.{Instr}
use Rattle.target_code.specs.declared.tree.Proc.{Proc}
use Rattle.target_meaning.specs.Piece.{Piece}
use Rattle.target_meaning.specs.Turns.{act_of, run_of, with_top}
use Rattle.target_meaning.specs.declared.place.Inner.{Inner}
use Rattle.target_meaning.specs.declared.place.Inner.TheVariants.{Yes, No}
use Rattle.target_meaning.specs.declared.place.Outer.{Outer}
use Rattle.target_meaning.specs.declared.stack.Frame.{Frame}
use Rattle.target_meaning.specs.declared.stack.Frames.{Frames}
use Rattle.target_meaning.specs.declared.stack.Stack.TheVariants as stack
use Rattle.branch_exec.specs.Stores.{Kept}
use Rattle.branch_exec.specs.Legs.{GoesOn, Step}
use Rattle.branch_exec.specs.Went.{Ran}
use Rattle.branch_exec.specs.declared.straight.Steps.{Steps}

-- the step of an instruction, behind which a frame goes on at this index, was made with no block drawn
pub record Made (T : List Proc) (fs : Frames) (i : Instr) (next : ℕ) (f : Frame) (s : Kept) (g : Frame) (t : Kept) : Type 0 where
  pub piece : Piece
  pub step : Step (act_of T (with_top fs f) i next) s.top [] piece (run_of T (with_top fs g))
  pub on : GoesOn s t [] piece

-- it was made
abbrev pub Makes : Bool → List Proc → Frames → Instr → ℕ → Frame → Kept → Frame → Kept → Type 0
Makes true T fs i next f s g t = Made T fs i next f s g t
Makes false T fs i next f s g t = Unit {0}

-- it was not made, and nothing has changed
abbrev pub Rests : Bool → Frame → Kept → Frame → Kept → Type 0
Rests true f s g t = Unit {0}
Rests false f s g t = (g ≡ f) × GoesOn s t [] s.top

-- a frame made so many steps, which are at most so many
pub record FrameRan (T : List Proc) (f : Frame) (s : Kept) (g : Frame) (t : Kept) (most made : ℕ) : Type 0 where
  pub few : made ≤ most
  pub ran : (b d c : ℕ) (fs : Frames) → c + most ≤ b → Ran T b d (stack.Run (with_top fs f)) s c (stack.Run (with_top fs g)) t (c + made)

-- a frame at another place
abbrev pub placed : Frame → List Outer → ℕ → Frame
placed f os n = record { proc = f.proc; outer = os; at = n; regs = f.regs }

-- a frame that enters an inner code of the instruction at hand
abbrev pub inside : Frame → Inner → Frame
inside f k = placed f (f.outer ++ (record { index = f.at; inner = k }) ∷ []) 0

-- the side of an `if` that a word chooses, and its list
abbrev pub IsSide : ℕ → Code → Code → Inner → List Instr → Type 0
IsSide word one two k list = ((word ≡ 0) × (k ≡ No) × (list ≡ two.list)) ⊎ ((word ≡ 0 → ⊥) × (k ≡ Yes) × (list ≡ one.list))

-- a frame at another place, with other registers, among the same inner codes
pub record IsAmong (f g : Frame) : Type 0 where
  pub proc : g.proc ≡ f.proc
  pub outer : g.outer ≡ f.outer

-- the steps of an instruction; where they came behind it, at least one was made and the frame goes on at this index
pub record Passed (T : List Proc) (f : Frame) (s : Kept) (g : Frame) (t : Kept) (most next : ℕ) (r : Steps) : Type 0 where
  pub ran : FrameRan T f s g t most r.made
  pub among : r.through ≡ true → IsAmong f g
  pub behind : r.through ≡ true → g.at ≡ next
  pub some : r.through ≡ true → 0 < r.made

-- the steps of a list; where they came behind it, the frame stands at its end
pub record Listed (T : List Proc) (list : List Instr) (f : Frame) (s : Kept) (g : Frame) (t : Kept) (most : ℕ) (r : Steps) : Type 0 where
  pub ran : FrameRan T f s g t most r.made
  pub among : r.through ≡ true → IsAmong f g
  pub over : r.through ≡ true → slice_get list g.at ≡ None
