-- Whether two procedures are the same, word for word, as a test.
use Rattle.std.specs.Prelude.{◌≡◌, ℕ, nat_eq, Bool, true, false, ◌&&◌, List, [], ◌∷◌, Option, Some, None}
use Rattle.std.specs.Str.{bytes_eq}
use Rattle.std.specs.Cmp.Lexicographic.{pointwise}
use Rattle.fits.specs.Follow.{calc_number}
use Rattle.target_code.specs.declared.tree.Branch.{Branch}
use Rattle.target_code.specs.declared.tree.Calc.{Calc}
use Rattle.target_code.specs.declared.tree.Code.{Code}
use Rattle.target_code.specs.declared.tree.Hand.{Hand}
use Rattle.target_code.specs.declared.tree.Instr.{Instr, out-Instr}
use Rattle.target_code.specs.declared.tree.Instr.TheOpen as I
use Rattle.target_code.specs.declared.tree.Instr.TheFolds.{fold-Instr, fold-Code}
use Rattle.target_code.specs.declared.tree.Proc.{Proc}

-- ---- parts of instructions

abbrev pub same_numbers : List ℕ → List ℕ → Bool
same_numbers = pointwise nat_eq

abbrev pub same_span : Option (ℕ × ℕ) → Option (ℕ × ℕ) → Bool
same_span None None = true
same_span None (Some y) = false
same_span (Some x) None = false
same_span (Some x) (Some y) = nat_eq x.0 y.0 && nat_eq x.1 y.1

abbrev pub same_hand : Hand → Hand → Bool
same_hand x y = nat_eq x.block y.block && same_span x.span y.span

abbrev pub same_hands : List Hand → List Hand → Bool
same_hands [] [] = true
same_hands [] (y ∷ ys) = false
same_hands (x ∷ xs) [] = false
same_hands (x ∷ xs) (y ∷ ys) = same_hand x y && same_hands xs ys

abbrev pub same_branch : Branch → Branch → Bool
same_branch x y =
    bytes_eq x.proc y.proc && (same_numbers x.to y.to && (same_numbers x.args y.args && (same_hands x.hands y.hands && same_hands x.lends y.lends)))

-- ---- instructions

abbrev pub Layer : Type 0
Layer = I.Instr-F Instr Code

abbrev pub is_const : ℕ → ℕ → Layer → Bool
is_const to v (I.Const x y) = nat_eq to x && nat_eq v y
is_const to v _ = false

abbrev pub is_mov : ℕ → ℕ → Layer → Bool
is_mov to from (I.Mov x y) = nat_eq to x && nat_eq from y
is_mov to from _ = false

abbrev pub is_calc : ℕ → Calc → ℕ → ℕ → Layer → Bool
is_calc to w l r (I.Calc x v y z) = nat_eq to x && (nat_eq (calc_number w) (calc_number v) && (nat_eq l y && nat_eq r z))
is_calc to w l r _ = false

abbrev pub is_load : ℕ → ℕ → ℕ → Layer → Bool
is_load to b i (I.Load x y z) = nat_eq to x && (nat_eq b y && nat_eq i z)
is_load to b i _ = false

abbrev pub is_store : ℕ → ℕ → ℕ → Layer → Bool
is_store b i v (I.Store x y z) = nat_eq b x && (nat_eq i y && nat_eq v z)
is_store b i v _ = false

abbrev pub is_alloc : ℕ → ℕ → Layer → Bool
is_alloc to len (I.Alloc x y) = nat_eq to x && nat_eq len y
is_alloc to len _ = false

abbrev pub is_free : ℕ → Layer → Bool
is_free b (I.Free x) = nat_eq b x
is_free b _ = false

abbrev pub is_call : List ℕ → List ℕ → List ℕ → Layer → Bool
is_call to name args (I.Call x y z) = bytes_eq name y && (same_numbers to x && same_numbers args z)
is_call to name args _ = false

abbrev pub is_par : Branch → Branch → Layer → Bool
is_par l r (I.Par x y) = same_branch l x && same_branch r y
is_par l r _ = false

-- tests of instructions and of code
abbrev pub InstrTest : Type 0
InstrTest = Instr → Bool

abbrev pub CodeTest : Type 0
CodeTest = Code → Bool

abbrev pub is_if : ℕ → CodeTest → CodeTest → Layer → Bool
is_if t c d (I.If x y z) = nat_eq t x && (c y && d z)
is_if t c d _ = false

abbrev pub is_while : CodeTest → ℕ → CodeTest → Layer → Bool
is_while c t d (I.While x y z) = nat_eq t y && (c x && d z)
is_while c t d _ = false

-- an instruction, with the test for each block in its place
abbrev pub is_layer : I.Instr-F InstrTest CodeTest → Layer → Bool
is_layer (I.Const to v) = is_const to v
is_layer (I.Mov to from) = is_mov to from
is_layer (I.Calc to w l r) = is_calc to w l r
is_layer (I.Load to b i) = is_load to b i
is_layer (I.Store b i v) = is_store b i v
is_layer (I.Alloc to len) = is_alloc to len
is_layer (I.Free b) = is_free b
is_layer (I.If t c d) = is_if t c d
is_layer (I.While c t d) = is_while c t d
is_layer (I.Call to name args) = is_call to name args
is_layer (I.Par l r) = is_par l r

abbrev pub instr_step : I.Instr-F InstrTest CodeTest → InstrTest
instr_step x i = is_layer x (out-Instr i)

abbrev pub all_same : List InstrTest → List Instr → Bool
all_same [] [] = true
all_same [] (i ∷ is) = false
all_same (t ∷ ts) [] = false
all_same (t ∷ ts) (i ∷ is) = t i && all_same ts is

abbrev pub code_step : I.Code-F InstrTest CodeTest → CodeTest
code_step c d = all_same c.list d.list

abbrev pub same_instr : Instr → Instr → Bool
same_instr = fold-Instr InstrTest CodeTest instr_step code_step

abbrev pub same_code : Code → Code → Bool
same_code = fold-Code InstrTest CodeTest instr_step code_step

abbrev pub HasNoBlocks : Layer → Type 0
HasNoBlocks (I.If t c d) = ⊥
HasNoBlocks (I.While c t d) = ⊥
HasNoBlocks _ = Unit {0}

-- ---- procedures

abbrev pub same_proc : Proc → Proc → Bool
same_proc p q = bytes_eq p.name q.name && (nat_eq p.args q.args && (nat_eq p.regs q.regs && (same_code p.code q.code && same_numbers p.ret q.ret)))

-- two procedures pass exactly where they are equal
pub record EqualsAreTold : Type 0 where
  pub equal : (p q : Proc) → same_proc p q ≡ true → p ≡ q
  pub itself : (p : Proc) → same_proc p p ≡ true
