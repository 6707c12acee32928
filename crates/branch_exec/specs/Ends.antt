-- Where and why a leaf stops.
use Rattle.std.specs.Prelude.{◌≡◌, ℕ, ◌+◌, ◌<◌, ◌≤◌, ◌⊎◌, List, length}
use Rattle.target_code.specs.declared.tree.Proc.{Proc}
use Rattle.target_meaning.specs.Leaf as leaf
use Rattle.target_meaning.specs.Lines.{counted}
use Rattle.target_meaning.specs.declared.path.Side.{Side}
use Rattle.branch_exec.specs.declared.end.Spot.{Spot}
use Rattle.branch_exec.specs.declared.end.BranchEnd.{BranchEnd}
use Rattle.branch_exec.specs.declared.end.BranchEnd.TheVariants as end
use Rattle.branch_exec.specs.Stores.{Kept}
use Rattle.branch_exec.specs.Leaves.{PassesLimit, most_forks}
use Rattle.branch_exec.specs.Legs.{StuckBy, UnownedAt, WantsMore}
use Rattle.branch_exec.specs.Branches.{Runner}

-- the procedure of the innermost frame has this name
abbrev pub IsIn : leaf.Stack → List ℕ → Type 0
IsIn (leaf.Run f cs) name = name ≡ f.proc.name
IsIn (leaf.End vs) name = ⊥

-- it has not ended
abbrev pub IsUnderWay : leaf.Stack → Type 0
IsUnderWay (leaf.Run f cs) = Unit {0}
IsUnderWay (leaf.End vs) = ⊥

-- what a leaf at this path does next passes a limit of depth: a call, or a fork
abbrev pub TooDeep : leaf.Act → List Side → leaf.Stack → Type 0
TooDeep (leaf.Go t) path s = PassesLimit s t
TooDeep (leaf.Split l r w) path s = most_forks ≤ length path
TooDeep (leaf.Read b i k) path s = ⊥
TooDeep (leaf.Write b i v t) path s = ⊥
TooDeep (leaf.Make n k) path s = ⊥
TooDeep (leaf.Cut b t) path s = ⊥
TooDeep leaf.Over path s = ⊥
TooDeep (leaf.Bad r) path s = ⊥

-- where a leaf with this path and stack stands
pub record IsSpot (x : Spot) (ds : List Side) (s : leaf.Stack) : Type 0 where
  pub path : x.path ≡ ds
  pub proc : IsIn s x.proc
  pub line : x.line ≡ counted (leaf.line_of s)

-- the leaf at this path stops here for this cause
abbrev pub Cause : List Proc → ℕ → List Side → BranchEnd → Runner → Type 0
Cause T b path (end.Done regs steps) m = ⊥
Cause T b path (end.Stuck spot reason) m = (m.count < b) × StuckBy (leaf.act T m.stack) m.piece reason × IsSpot spot path m.stack
Cause T b path (end.Unowned spot block offset) m = (m.count < b) × UnownedAt (leaf.act T m.stack) m.piece block offset × IsSpot spot path m.stack
Cause T b path (end.OutOfSteps p) m = (b ≤ m.count) × IsUnderWay m.stack × (p ≡ path)
Cause T b path (end.Full at len) m = (m.count < b) × WantsMore (leaf.act T m.stack) len
Cause T b path (end.Depth p) m = (m.count < b) × TooDeep (leaf.act T m.stack) path m.stack × (p ≡ path)
Cause T b path end.Memory m = Unit {0}

-- what is told of the capacity where a claim does not fit: the store had walked over so many words then
abbrev pub FullAt : BranchEnd → Kept → Kept → Type 0
FullAt (end.Full at len) s t = (s.walked ≤ at) × (at ≤ t.walked) × (s.cap < at + 1 + len)
FullAt _ s t = Unit {0}

-- no results
abbrev pub IsBad : BranchEnd → Type 0
IsBad (end.Done regs steps) = ⊥
IsBad _ = Unit {0}
