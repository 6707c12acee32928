-- Whether code writes a register.
use Rattle.std.specs.Prelude.{ℕ, nat_eq, Bool, true, false, ◌||◌, List, [], ◌∷◌, map}
use Rattle.target_code.specs.declared.tree.Code.{Code}
use Rattle.target_code.specs.declared.tree.Instr.{Instr}
use Rattle.target_code.specs.declared.tree.Instr.TheOpen as I
use Rattle.target_code.specs.declared.tree.Instr.TheFolds.{fold-Instr, fold-Code}

abbrev pub is_one_of : ℕ → List ℕ → Bool
is_one_of r [] = false
is_one_of r (x ∷ xs) = nat_eq r x || is_one_of r xs

abbrev pub any_true : List Bool → Bool
any_true [] = false
any_true (b ∷ bs) = b || any_true bs

-- one instruction, with the answer for each inner code in its place
abbrev pub writes_step : ℕ → I.Instr-F Bool Bool → Bool
writes_step r (I.Const to v) = nat_eq r to
writes_step r (I.Mov to from) = nat_eq r to
writes_step r (I.Calc to word x y) = nat_eq r to
writes_step r (I.Load to b i) = nat_eq r to
writes_step r (I.Store b i v) = false
writes_step r (I.Alloc to len) = nat_eq r to
writes_step r (I.Free b) = false
writes_step r (I.If t c d) = c || d
writes_step r (I.While c t d) = c || d
writes_step r (I.Call to name args) = is_one_of r to
writes_step r (I.Par x y) = is_one_of r x.to || is_one_of r y.to

abbrev pub writes_any : I.Code-F Bool Bool → Bool
writes_any c = any_true c.list

abbrev pub instr_writes : ℕ → Instr → Bool
instr_writes r = fold-Instr Bool Bool (writes_step r) writes_any

abbrev pub code_writes : ℕ → Code → Bool
code_writes r = fold-Code Bool Bool (writes_step r) writes_any

-- what a loop with this condition and body writes
abbrev pub loop_writes : Code → Code → ℕ → Bool
loop_writes c b r = code_writes r c || code_writes r b

abbrev pub list_writes : ℕ → List Instr → Bool
list_writes r is = any_true (map (instr_writes r) is)
