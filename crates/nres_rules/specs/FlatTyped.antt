-- When a flat tree is typed. Variables are numbered in the order in which they are bound, and each is used only in its scope.
use Rattle.std.specs.Prelude.{◌≡◌, ℕ, zero, suc, ◌+◌, ◌&&◌, ◌||◌, not, nat_eq, Bool, true, false, cond, List, [], ◌∷◌, ◌++◌, length, Option, Some, None}
use Rattle.target_code.specs.Names.{is_name}
use Rattle.target_code.specs.declared.tree.Calc.{Calc}
use Rattle.target_code.specs.declared.tree.Calc.TheVariants as c
use Rattle.target_code.specs.declared.tree.InParam.{InParam}
use Rattle.target_code.specs.declared.tree.Rep.{Rep}
use Rattle.nres_core.specs.FlatTree as f
use Rattle.nres_core.specs.FlatTree.{Binds, Ending, FlatProc, FlatWhole, flat_whole_of}
use Rattle.nres_rules.specs.Typed.{op_takes, op_gives, in_limit, maker, made_right, is_shown_calc, same_types, when, and_then, is_one, are_these, is_any, tail_of, begins_with_list, is_container}
use Rattle.nres_core.specs.Operations.{rep_type}
use Rattle.nres_core.specs.Vocabulary.{is_free_name}
use Rattle.nres_rules.specs.Types.{operand, outcome, is_among, is_slice}
use Rattle.nres_core.specs.declared.flat.Arg.{Arg}
use Rattle.nres_core.specs.declared.flat.Arg.TheVariants as a
use Rattle.nres_core.specs.declared.flat.Flat.{Flat}
use Rattle.nres_core.specs.declared.ty.Ty.{Ty}
use Rattle.nres_core.specs.declared.ty.Ty.TheVariants as ty

-- the types of the variables in scope
abbrev pub Scope : Type 0
Scope = List (ℕ × Ty)

abbrev pub var_ty : Scope → ℕ → Option Ty
var_ty [] k = None
var_ty (e ∷ s) k = cond (nat_eq e.0 k) (Some e.1) (var_ty s k)

abbrev pub arg_ty : Scope → Arg → Option Ty
arg_ty s (a.Var k) = var_ty s k
arg_ty s (a.Num n) = Some ty.Nat
arg_ty s (a.Truth b) = Some ty.Bool

abbrev pub args_ty : Scope → List Arg → Option (List Ty)
args_ty s [] = Some []
args_ty s (u ∷ us) = and_then (arg_ty s u) (λ t. and_then (args_ty s us) (λ ts. Some (t ∷ ts)))

-- variables of these types, numbered from k
abbrev pub are_next : List ℕ → List Ty → ℕ → Bool
are_next [] [] k = true
are_next (x ∷ xs) (u ∷ us) k = nat_eq x k && are_next xs us (suc k)
are_next _ _ k = false

abbrev pub scope_next : List Ty → ℕ → Scope → Scope
scope_next [] k s = s
scope_next (u ∷ us) k s = scope_next us (suc k) ((k, u) ∷ s)

-- the scope behind some binds, and the next number
abbrev pub State : Type 0
State = Scope × ℕ

-- outs of these types
abbrev pub binding : List ℕ → List Ty → Scope → ℕ → Option State
binding to us s k = when (is_any to && are_next to us k) (scope_next us k s, k + length us)

-- a calculation; `==` also compares truth values
abbrev pub calc_ty : Calc → Option Ty → Option Ty → Option Ty
calc_ty c.Eq (Some ty.Bool) (Some ty.Bool) = Some ty.Bool
calc_ty w x y = when (is_shown_calc w && (is_one (operand w) x && is_one (operand w) y)) (outcome w)

-- arithmetic and operations alone, of which the inner part of an assert is
abbrev pub is_straight : Binds → Bool
is_straight f.No_bind = true
is_straight (f.Calc_to p to w x y rest) = is_straight rest
is_straight (f.Apply_to p to op made us rest) = is_straight rest
is_straight _ = false

-- the types of results, at least one, and the next number
abbrev pub Ended : Type 0
Ended = List Ty × ℕ

abbrev pub ended : Ending → Option State → Option Ended
ended e None = None
ended e (Some s) = and_then (args_ty s.0 e.results) (λ us. when (is_any us) (us, s.1))

-- what a procedure takes and gives
abbrev pub Profile : Type 0
Profile = List Ty × List Ty

abbrev pub profile_at : List Profile → ℕ → Option Profile
profile_at [] k = None
profile_at (p ∷ ps) zero = Some p
profile_at (p ∷ ps) (suc k) = profile_at ps k

module _ (procs : List Profile) where
  -- binds from a scope on, the next variable being k
  abbrev pub binds_ty : Binds → Scope → ℕ → Option State
  binds_ty f.No_bind s k = Some (s, k)
  binds_ty (f.Calc_to p to w x y rest) s k =
      and_then (calc_ty w (arg_ty s x) (arg_ty s y)) (λ u. and_then (binding (to ∷ []) (u ∷ []) s k) (λ z. binds_ty rest z.0 z.1))
  binds_ty (f.Apply_to p to op made us rest) s k =
      and_then (when (are_these (op_takes op) (args_ty s us) && made_right (maker op) made) (op_gives op)) (λ ws. and_then (binding to ws s k) (λ z. binds_ty rest z.0 z.1))
  binds_ty (f.Assert p inner x rest) s k =
      and_then (binds_ty inner s k) (λ z. and_then (when (is_straight inner && is_one ty.Bool (arg_ty z.0 x)) z.1) (λ j. binds_ty rest s j))
  binds_ty (f.If p to x l le r re rest) s k =
      and_then (when (is_one ty.Bool (arg_ty s x)) k) (λ k. and_then (ended le (binds_ty l s k)) (λ us. and_then (ended re (binds_ty r s us.1)) (λ ws.
      and_then (when (same_types us.0 ws.0) us.0) (λ ts. and_then (binding to ts s ws.1) (λ z. binds_ty rest z.0 z.1)))))
  binds_ty (f.While p to xs us cs x b be rest) s k =
      and_then (args_ty s us) (λ ts. and_then (binding xs ts s k) (λ z. and_then (binds_ty cs z.0 z.1) (λ y.
      and_then (when (is_one ty.Bool (arg_ty y.0 x)) y.1) (λ j. and_then (ended be (binds_ty b z.0 j)) (λ ws.
      and_then (when (same_types ts ws.0) ts) (λ ts. and_then (binding to ts s ws.1) (λ z. binds_ty rest z.0 z.1)))))))
  binds_ty (f.Par p to l le r re rest) s k =
      and_then (ended le (binds_ty l s k)) (λ us. and_then (ended re (binds_ty r s us.1)) (λ ws.
      and_then (binding to (us.0 ++ ws.0) s ws.1) (λ z. binds_ty rest z.0 z.1)))
  binds_ty (f.Split p to list at i l le j r re rest) s k =
      and_then (when (is_one ty.List (var_ty s list) && (is_one ty.Nat (arg_ty s at) && nat_eq i k)) (suc k)) (λ k.
      and_then (ended le (binds_ty l ((i, ty.List) ∷ s) k)) (λ us. and_then (when (begins_with_list us.0 && nat_eq j us.1) (suc us.1)) (λ k.
      and_then (ended re (binds_ty r ((j, ty.List) ∷ s) k)) (λ ws. and_then (when (begins_with_list ws.0) ws.1) (λ k.
      and_then (binding to (ty.List ∷ (tail_of us.0 ++ tail_of ws.0)) s k) (λ z. binds_ty rest z.0 z.1))))))
  binds_ty (f.Either p to l le r re rest) s k =
      and_then (ended le (binds_ty l s k)) (λ us. and_then (ended re (binds_ty r s us.1)) (λ ws.
      and_then (when (same_types us.0 ws.0) us.0) (λ ts. and_then (binding to ts s ws.1) (λ z. binds_ty rest z.0 z.1))))
  binds_ty (f.Any p to x y rest) s k =
      and_then (when (is_one ty.Nat (arg_ty s x) && is_one ty.Nat (arg_ty s y)) ty.Nat) (λ u. and_then (binding (to ∷ []) (u ∷ []) s k) (λ z. binds_ty rest z.0 z.1))
  binds_ty (f.Call p to g us rest) s k =
      and_then (profile_at procs g) (λ q. and_then (when (are_these q.0 (args_ty s us)) q.1) (λ ts. and_then (binding to ts s k) (λ z. binds_ty rest z.0 z.1)))

-- ---- whole trees

abbrev pub reps_right : Bool → List Rep → Bool
reps_right slices [] = true
reps_right slices (x ∷ xs) = in_limit x && ((slices || not (is_slice x)) && reps_right slices xs)

abbrev pub param_reps : List InParam → List Rep
param_reps [] = []
param_reps (x ∷ xs) = x.rep ∷ param_reps xs

abbrev pub rep_types : List Rep → List Ty
rep_types [] = []
rep_types (x ∷ xs) = rep_type x ∷ rep_types xs

-- the names are free and apart, and only containers are kept
abbrev pub params_right : List (List ℕ) → List InParam → Bool
params_right seen [] = true
params_right seen (x ∷ xs) = is_free_name x.name && (not (is_among seen x.name) && ((is_container (rep_type x.rep) || not x.kept) && params_right (x.name ∷ seen) xs))

abbrev pub profiles : List FlatProc → List Profile
profiles [] = []
profiles (p ∷ ps) = (rep_types (param_reps p.params), rep_types p.shown) ∷ profiles ps

-- parameters, representations that are shown and a block that gives them, from variable k on; the variable behind them
abbrev pub entered : Bool → List Profile → List InParam → List Rep → f.Flats → ℕ → Option ℕ
entered slices procs xs ys b k =
    and_then (when (params_right [] xs && (reps_right slices (param_reps xs) && reps_right slices ys)) k) (λ k.
    and_then (ended b.ending (binds_ty procs b.binds (scope_next (rep_types (param_reps xs)) k []) (k + length xs))) (λ us.
    when (same_types (rep_types ys) us.0) us.1))

abbrev pub slices_given : List Rep → ℕ
slices_given [] = 0
slices_given (x ∷ xs) = cond (is_slice x) (suc (slices_given xs)) (slices_given xs)

abbrev pub slices_taken : List InParam → ℕ
slices_taken [] = 0
slices_taken (x ∷ xs) = cond (is_slice x.rep && not x.kept) (suc (slices_taken xs)) (slices_taken xs)

-- the procedures from variable k on, behind those of these names
abbrev pub all_entered : List Profile → List (List ℕ) → List FlatProc → ℕ → Option ℕ
all_entered procs seen [] k = Some k
all_entered procs seen (p ∷ ps) k =
    and_then (when (is_free_name p.name && (not (is_among seen p.name) && nat_eq (slices_taken p.params) (slices_given p.shown))) k) (λ k.
    and_then (entered true procs p.params p.shown p.body k) (λ j. all_entered procs (p.name ∷ seen) ps j))

-- each variable has a name
abbrev pub all_names : List (List ℕ) → Bool
all_names [] = true
all_names (x ∷ xs) = is_name x && all_names xs

abbrev pub variables : FlatWhole → Option ℕ
variables p = and_then (entered false (profiles p.procs) p.params p.shown p.body 0) (λ k. all_entered (profiles p.procs) [] p.procs k)

abbrev pub IsTyped : Flat → Type 0
IsTyped p = (variables (flat_whole_of p) ≡ Some (length (flat_whole_of p).names)) × (all_names (flat_whole_of p).names ≡ true)
