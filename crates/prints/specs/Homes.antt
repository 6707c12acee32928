-- Where the words of variables stand while code is printed, and the code that brings words to registers.
use Rattle.std.specs.Prelude.{ℕ, zero, suc, ◌+◌, nat_lt, nat_le, nat_eq, Bool, false, ◌&&◌, cond, List, [], ◌∷◌, ◌++◌}
use Rattle.target_code.specs.Reps.{width}
use Rattle.target_code.specs.declared.tree.Instr.{Instr}
use Rattle.target_code.specs.declared.tree.Instr.TheVariants as I
use Rattle.target_code.specs.declared.tree.Rep.{Rep}
use Rattle.nres_core.specs.declared.flat.Arg.{Arg}
use Rattle.nres_core.specs.declared.flat.Arg.TheVariants as a
use Rattle.rule_check.specs.Context.{Spot, Shape}
use Rattle.fits.specs.Places.{put}
use Rattle.prints.specs.declared.home.Home.{Home}
use Rattle.prints.specs.declared.home.Home.TheVariants.{Register, Literal}

-- by variable: where its first word stands. The others stand in the registers that follow
abbrev pub Homes : Type 0
Homes = ℕ → Home

abbrev pub arg_home : Homes → Arg → Home
arg_home home (a.Var v) = home v
arg_home home (a.Num n) = Literal n
arg_home home (a.Truth b) = Literal (cond b 1 0)

-- ---- registers that follow one another

abbrev pub span : ℕ → ℕ → List ℕ
span b zero = []
span b (suc k) = b ∷ span (suc b) k

-- for values in these representations
abbrev pub regs_all : ℕ → List Shape → List ℕ
regs_all n [] = []
regs_all n (z ∷ zs) = span n (width z.rep) ++ regs_all (n + width z.rep) zs

abbrev pub free_after : ℕ → List Shape → ℕ
free_after n [] = n
free_after n (z ∷ zs) = free_after (n + width z.rep) zs

-- new variables stand there
abbrev pub homes_bound : Homes → ℕ → List ℕ → List Shape → Homes
homes_bound home n [] zs = home
homes_bound home n (v ∷ vs) [] = home
homes_bound home n (v ∷ vs) (z ∷ zs) = homes_bound (put home v (Register n)) (n + width z.rep) vs zs

-- new variables stand where these arguments do
abbrev pub homes_like : Homes → List ℕ → List Home → Homes
homes_like home [] hs = home
homes_like home (v ∷ vs) [] = home
homes_like home (v ∷ vs) (h ∷ hs) = homes_like (put home v h) vs hs

abbrev pub arg_homes : Homes → List Arg → List Home
arg_homes home [] = []
arg_homes home (u ∷ us) = arg_home home u ∷ arg_homes home us

-- ---- words

abbrev pub registers : List ℕ → List Home
registers [] = []
registers (r ∷ rs) = Register r ∷ registers rs

abbrev pub literals : List ℕ → List Home
literals [] = []
literals (n ∷ ns) = Literal n ∷ literals ns

-- all words of a value in a representation
abbrev pub words_at : Home → Rep → List Home
words_at (Register b) x = registers (span b (width x))
words_at (Literal n) x = Literal n ∷ []

abbrev pub args_words : Homes → List Arg → List Spot → List Home
args_words home [] ss = []
args_words home (u ∷ us) [] = []
args_words home (u ∷ us) (s ∷ ss) = words_at (arg_home home u) s.rep ++ args_words home us ss

-- the j-th word of the first argument
abbrev pub word_at : Home → ℕ → Home
word_at (Register b) j = Register (b + j)
word_at (Literal n) j = Literal n

abbrev pub first_word_at : List Home → ℕ → Home
first_word_at [] j = Literal 0
first_word_at (h ∷ hs) j = word_at h j

-- the register of what stands in one
abbrev pub reg_of : Home → ℕ
reg_of (Register b) = b
reg_of (Literal n) = 0

-- ---- literals come to registers, from n on

abbrev pub load : ℕ → Home → List Instr
load n (Register b) = []
load n (Literal k) = I.Const n k ∷ []

abbrev pub load_reg : ℕ → Home → ℕ
load_reg n (Register b) = b
load_reg n (Literal k) = n

abbrev pub load_free : ℕ → Home → ℕ
load_free n (Register b) = n
load_free n (Literal k) = suc n

abbrev pub loads : ℕ → List Home → List Instr
loads n [] = []
loads n (h ∷ hs) = load n h ++ loads (load_free n h) hs

abbrev pub loads_regs : ℕ → List Home → List ℕ
loads_regs n [] = []
loads_regs n (h ∷ hs) = load_reg n h ∷ loads_regs (load_free n h) hs

abbrev pub loads_free : ℕ → List Home → ℕ
loads_free n [] = n
loads_free n (h ∷ hs) = loads_free (load_free n h) hs

-- ---- words come to registers that follow one another

-- a word that stands where it is to come stays there
abbrev pub move : ℕ → Home → List Instr
move to (Register r) = cond (nat_eq r to) [] (I.Mov to r ∷ [])
move to (Literal k) = I.Const to k ∷ []

abbrev pub moves : ℕ → List Home → List Instr
moves to [] = []
moves to (h ∷ hs) = move to h ++ moves (suc to) hs

-- where words come to registers from `low` on, what stands in a register that is written before its word is moved is first saved to registers from n on
abbrev pub is_hit : ℕ → ℕ → Home → Bool
is_hit low to (Register r) = nat_le low r && nat_lt r to
is_hit low to (Literal k) = false

abbrev pub saves : ℕ → ℕ → ℕ → List Home → List Instr
saves low to n [] = []
saves low to n (h ∷ hs) = cond (is_hit low to h) (I.Mov n (reg_of h) ∷ saves low (suc to) (suc n) hs) (saves low (suc to) n hs)

abbrev pub saved : ℕ → ℕ → ℕ → List Home → List Home
saved low to n [] = []
saved low to n (h ∷ hs) = cond (is_hit low to h) (Register n ∷ saved low (suc to) (suc n) hs) (h ∷ saved low (suc to) n hs)

abbrev pub saves_free : ℕ → ℕ → ℕ → List Home → ℕ
saves_free low to n [] = n
saves_free low to n (h ∷ hs) = cond (is_hit low to h) (saves_free low (suc to) (suc n) hs) (saves_free low (suc to) n hs)

-- words come to registers from `low` on, some of which may be among those that they stand in
abbrev pub turns : ℕ → ℕ → List Home → List Instr
turns low n hs = saves low low n hs ++ moves low (saved low low n hs)

-- ---- blocks of containers are freed

abbrev pub frees : Homes → List ℕ → List Instr
frees home [] = []
frees home (v ∷ vs) = I.Free (reg_of (home v)) ∷ frees home vs
