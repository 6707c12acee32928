-- When a tree whose words stand for operations is typed.
use Rattle.std.specs.Prelude.{◌≡◌, ℕ, ◌&&◌, ◌||◌, not, nat_le, nat_eq, Bool, true, false, cond, List, [], ◌∷◌, ◌++◌, length, Option, Some, None}
use Rattle.target_code.specs.declared.tree.Calc.{Calc}
use Rattle.target_code.specs.declared.tree.Calc.TheVariants as c
use Rattle.target_code.specs.declared.tree.Rep.{Rep}
use Rattle.target_code.specs.declared.tree.Rep.TheVariants as r
use Rattle.nres_core.specs.Mirror.{rep_of, id_blk_of, named_params}
use Rattle.nres_core.specs.Operations.{entry, takes_of, gives_of, makes_of, is_taking, rep_type}
use Rattle.nres_core.specs.Tree as t
use Rattle.nres_core.specs.Tree.{Exp, Exps, Blk, Steps, Bod, same_name}
use Rattle.nres_core.specs.Vocabulary.{is_free_name}
use Rattle.nres_rules.specs.Types.{Profile, operand, outcome, same_type, is_among, is_slice, slices_given, slices_taken, param_types, shown_types}
use Rattle.nres_core.specs.declared.identified.IdFun.{IdFun}
use Rattle.nres_core.specs.declared.identified.Identified.{Identified}
use Rattle.nres_core.specs.declared.op.Op.{Op}
use Rattle.nres_core.specs.declared.place.Named.{Named}
use Rattle.nres_core.specs.declared.tree.Param.{Param}
use Rattle.nres_core.specs.declared.tree.Shown.{Shown}
use Rattle.nres_core.specs.declared.ty.Ty.{Ty}
use Rattle.nres_core.specs.declared.ty.Ty.TheVariants as ty

-- ---- operations

-- what an operation takes, and what it gives
abbrev pub op_takes : Op → List Ty
op_takes op = takes_of (entry op)

abbrev pub op_gives : Op → List Ty
op_gives op = gives_of (entry op)

-- a bound is from 1 to 4294967295
abbrev pub in_limit : Rep → Bool
in_limit (r.Bits u) = nat_le 1 u && nat_le u 4294967295
in_limit (r.Amap u) = nat_le 1 u && nat_le u 4294967295
in_limit _ = true

-- the type of container that an operation makes anew
abbrev pub maker : Op → Option Ty
maker op = makes_of (entry op)

-- a representation is chosen exactly where a container is made anew, and is one of its type; slices are not made
abbrev pub made_right : Option Ty → Option Rep → Bool
made_right None None = true
made_right (Some u) (Some x) = same_type u (rep_type x) && (in_limit x && not (is_slice x))
made_right _ _ = false

-- the calculations of specifications
abbrev pub is_shown_calc : Calc → Bool
is_shown_calc c.Xor = false
is_shown_calc c.Shl = false
is_shown_calc c.Shr = false
is_shown_calc _ = true

abbrev pub same_types : List Ty → List Ty → Bool
same_types [] [] = true
same_types (u ∷ us) (w ∷ ws) = same_type u w && same_types us ws
same_types _ _ = false

-- ---- what is typed has types

abbrev pub when : {A : Type 0} → Bool → A → Option A
when true x = Some x
when false x = None

abbrev pub and_then : {A B : Type 0} → Option A → (A → Option B) → Option B
and_then None f = None
and_then (Some x) f = f x

abbrev pub is_one : Ty → Option Ty → Bool
is_one u None = false
is_one u (Some w) = same_type u w

abbrev pub are_these : List Ty → Option (List Ty) → Bool
are_these us None = false
are_these us (Some ws) = same_types us ws

abbrev pub is_any : {A : Type 0} → List A → Bool
is_any [] = false
is_any (x ∷ xs) = true

-- the one result of an operation
abbrev pub only_type : List Ty → Option Ty
only_type (u ∷ []) = Some u
only_type _ = None

-- the types of the names in scope, the last bound first
abbrev pub Scope : Type 0
Scope = List (List ℕ × Ty)

abbrev pub type_in : Scope → List ℕ → Option Ty
type_in [] x = None
type_in (e ∷ s) x = cond (same_name e.0 x) (Some e.1) (type_in s x)

abbrev pub scope_with : List Named → List Ty → Scope → Scope
scope_with [] us s = s
scope_with (x ∷ xs) [] s = s
scope_with (x ∷ xs) (u ∷ us) s = scope_with xs us ((x.name, u) ∷ s)

abbrev pub all_apart : List (List ℕ) → List Named → Bool
all_apart seen [] = true
all_apart seen (x ∷ xs) = not (is_among seen x.name) && all_apart (x.name ∷ seen) xs

-- a pattern: at least one name, no name twice, and as many as there are types
abbrev pub pattern_right : List Named → List Ty → Bool
pattern_right xs us = is_any xs && (all_apart [] xs && nat_eq (length xs) (length us))

abbrev mutual
  pub exp_ty : Exp Op → Scope → Option Ty
  exp_ty (t.Num p n) s = Some ty.Nat
  exp_ty (t.Truth p b) s = Some ty.Bool
  exp_ty (t.Var x) s = type_in s x.name
  exp_ty (t.Binary p w a b) s = when (is_shown_calc w && (is_one (operand w) (exp_ty a s) && is_one (operand w) (exp_ty b s))) (outcome w)
  exp_ty (t.Not p a) s = when (is_one ty.Bool (exp_ty a s)) ty.Bool
  exp_ty (t.Apply p op es made) s = and_then (when (are_these (op_takes op) (exps_ty es s) && made_right (maker op) (rep_of made)) (op_gives op)) only_type

  pub exps_ty : Exps Op → Scope → Option (List Ty)
  exps_ty t.None_left s = Some []
  exps_ty (t.Also e es) s = and_then (exp_ty e s) (λ u. and_then (exps_ty es s) (λ us. Some (u ∷ us)))

-- results: at least one
abbrev pub results_ty : Exps Op → Scope → Option (List Ty)
results_ty es s = and_then (exps_ty es s) (λ us. when (is_any us) us)

abbrev pub profile_of : List Profile → List ℕ → Option Profile
profile_of [] x = None
profile_of (p ∷ ps) x = cond (same_name p.name x) (Some p) (profile_of ps x)

abbrev pub tail_of : List Ty → List Ty
tail_of [] = []
tail_of (u ∷ us) = us

abbrev pub begins_with_list : List Ty → Bool
begins_with_list (ty.List ∷ us) = true
begins_with_list _ = false

-- `pop` or `take_min`
abbrev pub is_taker : Op → Bool
is_taker op = is_taking (entry op)

module _ (procs : List Profile) where
  abbrev mutual
    pub blk_ty : Blk Op → Scope → Option (List Ty)
    blk_ty (t.Returns ss p es) s = steps_ty ss es s

    pub steps_ty : Steps Op → Exps Op → Scope → Option (List Ty)
    steps_ty t.No_step es s = results_ty es s
    steps_ty (t.Bind xs p b ss) es s = and_then (bod_ty b s) (λ us. and_then (when (pattern_right xs us) us) (λ us. steps_ty ss es (scope_with xs us s)))
    steps_ty (t.Assert p e ss) es s = and_then (when (is_one ty.Bool (exp_ty e s)) ty.Bool) (λ u. steps_ty ss es s)

    pub bod_ty : Bod Op → Scope → Option (List Ty)
    bod_ty (t.Value e) s = and_then (exp_ty e s) (λ u. Some (u ∷ []))
    bod_ty (t.Take p op e) s = and_then (exp_ty e s) (λ u. when (is_taker op && same_types (op_takes op) (u ∷ [])) (op_gives op))
    bod_ty (t.Any p a b) s = when (is_one ty.Nat (exp_ty a s) && is_one ty.Nat (exp_ty b s)) (ty.Nat ∷ [])
    bod_ty (t.If p e a b) s = and_then (blk_ty a s) (λ us. when (is_one ty.Bool (exp_ty e s) && are_these us (blk_ty b s)) us)
    bod_ty (t.While p xs q es e b) s =
        and_then (results_ty es s) (λ us.
        when (pattern_right xs us && (is_one ty.Bool (exp_ty e (scope_with xs us s)) && are_these us (blk_ty b (scope_with xs us s)))) us)
    bod_ty (t.Par p l r) s = and_then (blk_ty l s) (λ us. and_then (blk_ty r s) (λ ws. Some (us ++ ws)))
    bod_ty (t.Split p z e ln l rn r) s =
        and_then (blk_ty l ((ln.name, ty.List) ∷ s)) (λ us. and_then (blk_ty r ((rn.name, ty.List) ∷ s)) (λ ws.
        when (is_one ty.List (type_in s z.name) && (is_one ty.Nat (exp_ty e s) && (begins_with_list us && begins_with_list ws))) (ty.List ∷ (tail_of us ++ tail_of ws))))
    bod_ty (t.Either p l r) s = and_then (blk_ty l s) (λ us. when (are_these us (blk_ty r s)) us)
    bod_ty (t.Foreach p x z xs q es b) s =
        and_then (results_ty es s) (λ us.
        when (is_one ty.Set (type_in s z.name) && (pattern_right xs us && are_these us (blk_ty b (scope_with xs us ((x.name, ty.Nat) ∷ s))))) us)
    bod_ty (t.Call p f es) s = and_then (profile_of procs f.name) (λ g. and_then (exps_ty es s) (λ us. when (same_types g.takes us) g.gives))

-- ---- whole trees

abbrev pub all_free : List Named → Bool
all_free [] = true
all_free (x ∷ xs) = is_free_name x.name && all_free xs

abbrev pub is_container : Ty → Bool
is_container ty.Nat = false
is_container ty.Bool = false
is_container _ = true

-- a representation of its type, in its limit, and a slice only where slices may stand
abbrev pub rep_right : Bool → Ty → Rep → Bool
rep_right slices u x = same_type u (rep_type x) && (in_limit x && (slices || not (is_slice x)))

abbrev pub params_right : Bool → List Param → Bool
params_right slices [] = true
params_right slices (x ∷ xs) = rep_right slices x.ty x.rep && ((is_container x.ty || not x.kept) && params_right slices xs)

abbrev pub shown_right : Bool → List Shown → Bool
shown_right slices [] = true
shown_right slices (x ∷ xs) = rep_right slices x.ty x.rep && shown_right slices xs

abbrev pub id_profiles : List IdFun → List Profile
id_profiles [] = []
id_profiles (f ∷ fs) = record { name = f.name; takes = param_types f.params; gives = shown_types f.shown } ∷ id_profiles fs

-- parameters, results that are shown, and a block that gives them
abbrev pub is_entered : Bool → List Profile → List Param → List Shown → Blk Op → Bool
is_entered slices procs xs ys b =
    params_right slices xs && (all_free (named_params xs) && (all_apart [] (named_params xs)
    && (is_any ys && (shown_right slices ys && are_these (shown_types ys) (blk_ty procs b (scope_with (named_params xs) (param_types xs) []))))))

abbrev pub funs_right : List Profile → List (List ℕ) → List IdFun → Bool
funs_right procs seen [] = true
funs_right procs seen (f ∷ fs) =
    is_free_name f.name && (not (is_among seen f.name) && (nat_eq (slices_taken f.params) (slices_given f.shown)
    && (is_entered true procs f.params f.shown (id_blk_of f.body) && funs_right procs (f.name ∷ seen) fs)))

abbrev pub is_typed : Identified → Bool
is_typed p = is_entered false (id_profiles p.funs) p.params p.shown (id_blk_of p.body) && funs_right (id_profiles p.funs) [] p.funs

abbrev pub IsTyped : Identified → Type 0
IsTyped p = is_typed p ≡ true
