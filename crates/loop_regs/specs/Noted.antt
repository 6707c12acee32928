-- The registers in the lines for one bind, before those of the binds behind it.
use Rattle.std.specs.Prelude.{◌≡◌, ◌++◌, ℕ, Bool, true, false, List, [], ◌∷◌, Option, Some, None}
use Rattle.fits.specs.Follow.{Line, If_line, While_line, Left_line, Right_line, line_regs, past_lines}
use Rattle.nres_core.specs.FlatTree.{Before, Binds}

-- what was noted comes to this, and these lines are left, or none of the others is looked at
abbrev pub NotedBind : Before → List Line → List ℕ → List ℕ → Option (List Line) → Type 0
NotedBind bind ls old new None = (rest : Binds) (k : List Line → List ℕ) → old ++ line_regs (bind rest) ls k ≡ new
NotedBind bind ls old new (Some left) = (rest : Binds) (k : List Line → List ℕ) → old ++ line_regs (bind rest) ls k ≡ new ++ line_regs rest left k

-- the same of binds that are followed by nothing
abbrev pub NotedBinds : Binds → List Line → List ℕ → List ℕ → Option (List Line) → Type 0
NotedBinds bs ls old new None = (k : List Line → List ℕ) → old ++ line_regs bs ls k ≡ new
NotedBinds bs ls old new (Some left) = (k : List Line → List ℕ) → old ++ line_regs bs ls k ≡ new ++ k left

-- of two lists of binds, one behind the other
abbrev pub NotedBoth : Binds → Binds → List Line → List ℕ → List ℕ → Option (List Line) → Type 0
NotedBoth xs ys ls old new None = (k : List Line → List ℕ) → old ++ line_regs xs ls (λ js. line_regs ys js k) ≡ new
NotedBoth xs ys ls old new (Some left) = (k : List Line → List ℕ) → old ++ line_regs xs ls (λ js. line_regs ys js k) ≡ new ++ k left

-- the lines behind those of a bind, or none of the others is looked at
abbrev pub PastBind : Before → List Line → Option (List Line) → Type 0
PastBind bind ls None = (rest : Binds) → past_lines (bind rest) ls ≡ []
PastBind bind ls (Some left) = (rest : Binds) → past_lines (bind rest) ls ≡ past_lines rest left

-- ---- first lines

abbrev pub if_regs : List Line → Option (List ℕ × List Line)
if_regs (If_line rs ∷ ls) = Some (rs, ls)
if_regs _ = None

abbrev pub while_regs : List Line → Option (List ℕ × List Line)
while_regs (While_line rs ∷ ls) = Some (rs, ls)
while_regs _ = None

abbrev pub side_of : List Line → Option (Bool × List Line)
side_of (Left_line ∷ ls) = Some (true, ls)
side_of (Right_line ∷ ls) = Some (false, ls)
side_of _ = None
