-- Facts that calculations tell where a value is true.
use Rattle.std.proofs.Common.{◌≡◌, ℕ, ◌<◌, Bool, true, false, ◌||◌, List, [], ◌∷◌, ◌++◌, refl, ap, ◌∙◌, subst, eqb, eqb-true, ltb, ltb-true, ⊎_elim, ◌⊎◌, inl, inr}
use Rattle.std.proofs.lemmas.Bool.{cond_both, false≢true}
use Rattle.nres_core.specs.Ops.{calc_out}
use Rattle.nres_core.specs.Runs.{Done}
use Rattle.nres_core.specs.declared.flat.Arg.{Arg}
use Rattle.nres_core.specs.declared.flat.Arg.TheVariants as a
use Rattle.nres_core.specs.declared.place.Place.{Place}
use Rattle.nres_core.specs.declared.value.Value.{Value}
use Rattle.nres_core.specs.declared.value.Value.TheVariants as v
use Rattle.nres_rules.specs.Types.{stands_before}
use Rattle.nres_meaning.specs.FlatMeaning.{Vars, arg_value}
use Rattle.target_code.specs.declared.tree.Calc.{Calc}
use Rattle.target_code.specs.declared.tree.Calc.TheVariants as calc
use Rattle.row_laws.specs.Rows.{IsBelow}
use Rattle.rule_check.specs.Context.{Fact, Def, is_among}
use Rattle.rule_check.specs.Facts.{defs_behind, also, compared, told_by, parts_of, told, learnt}
use Rattle.fits.specs.Places.{Entry}
use Rattle.fits_sound.specs.Meant.{Facts, Defs, Old_arg, Among}

abbrev AllTrue : Vars → List ℕ → Type 0
AllTrue V [] = Unit {0}
AllTrue V (k ∷ ks) = (V k ≡ v.Bool true) × AllTrue V ks

-- facts that hold
abbrev pub Hold_all : ℕ → Vars → List Fact → Type 0
Hold_all n V [] = Unit {0}
Hold_all n V (e ∷ es) = ((e.var < n) × IsBelow (V e.var) e.bound) × Hold_all n V es

hold_append : (n : ℕ) (V : Vars) (es fs : List Fact) → Hold_all n V es → Hold_all n V fs → Hold_all n V (es ++ fs)
hold_append n V [] fs a b = b
hold_append n V (e ∷ es) fs a b = (a.0, hold_append n V es fs a.1 b)

or_split : (x y : Bool) → (x || y) ≡ true → (x ≡ true) ⊎ (y ≡ true)
or_split true y e = inl refl
or_split false y e = inr e

among_true : (V : Vars) (k : ℕ) (ks : List ℕ) → AllTrue V ks → is_among k ks ≡ true → V k ≡ v.Bool true
among_true V k [] t e = absurd (false≢true e)
among_true V k (j ∷ ks) t e = ⊎_elim (λ q. ap V (eqb-true k j q) ∙ t.0) (λ q. among_true V k ks t.1 q) (or_split (eqb k j) (is_among k ks) e)

-- a comparison that holds
compared_hold : (n : ℕ) (V : Vars) (x y : Arg) → Old_arg n x → calc_out calc.Lt (arg_value V x) (arg_value V y) ≡ Done (v.Bool true) → Hold_all n V (compared x y)
compared_hold n V (a.Var k) (a.Num m) o e = ((o, by (V k) e), tt)
  where
    by : (x : Value) → calc_out calc.Lt x (v.Nat m) ≡ Done (v.Bool true) → IsBelow x m
    by (v.Nat x) e = ltb-true x m (let w : ltb x m ≡ true = cc e in w)
    by x e = absurd (let z : ⊥ = cc e in z)
compared_hold n V (a.Var k) (a.Var j) o e = tt
compared_hold n V (a.Var k) (a.Truth b) o e = tt
compared_hold n V (a.Num m) y o e = tt
compared_hold n V (a.Truth b) y o e = tt

told_hold : (n : ℕ) (V : Vars) (w : Calc) (x y : Arg) → Old_arg n x → calc_out w (arg_value V x) (arg_value V y) ≡ Done (v.Bool true) → Hold_all n V (told_by w x y)
told_hold n V calc.Lt x y o e = compared_hold n V x y o e
told_hold n V calc.Add x y o e = tt
told_hold n V calc.Sub x y o e = tt
told_hold n V calc.Mul x y o e = tt
told_hold n V calc.Div x y o e = tt
told_hold n V calc.Mod x y o e = tt
told_hold n V calc.Min x y o e = tt
told_hold n V calc.Max x y o e = tt
told_hold n V calc.Le x y o e = tt
told_hold n V calc.Eq x y o e = tt
told_hold n V calc.Ne x y o e = tt
told_hold n V calc.And x y o e = tt
told_hold n V calc.Or x y o e = tt
told_hold n V calc.Xor x y o e = tt
told_hold n V calc.Shl x y o e = tt
told_hold n V calc.Shr x y o e = tt

also_true : (V : Vars) (x : Arg) (ks : List ℕ) → arg_value V x ≡ v.Bool true → AllTrue V ks → AllTrue V (also x ks)
also_true V (a.Var k) ks e t = (e, t)
also_true V (a.Num m) ks e t = t
also_true V (a.Truth b) ks e t = t

pub record Both_true (x y : Value) : Type 0 where
  pub left : x ≡ v.Bool true
  pub right : y ≡ v.Bool true

and_true : (x y : Value) → calc_out calc.And x y ≡ Done (v.Bool true) → Both_true x y
and_true (v.Bool true) (v.Bool true) e = record { left = refl; right = refl }
and_true (v.Bool true) (v.Bool false) e = absurd (let z : ⊥ = cc e in z)
and_true (v.Bool false) (v.Bool b) e = absurd (let z : ⊥ = cc e in z)
and_true x y e = absurd (let z : ⊥ = cc e in z)

parts_true : (V : Vars) (w : Calc) (x y : Arg) (ks : List ℕ) → calc_out w (arg_value V x) (arg_value V y) ≡ Done (v.Bool true) → AllTrue V ks → AllTrue V (parts_of w x y ks)
parts_true V calc.And x y ks e t =
    let b = and_true (arg_value V x) (arg_value V y) e in also_true V x (also y ks) b.left (also_true V y ks b.right t)
parts_true V calc.Add x y ks e t = t
parts_true V calc.Sub x y ks e t = t
parts_true V calc.Mul x y ks e t = t
parts_true V calc.Div x y ks e t = t
parts_true V calc.Mod x y ks e t = t
parts_true V calc.Min x y ks e t = t
parts_true V calc.Max x y ks e t = t
parts_true V calc.Lt x y ks e t = t
parts_true V calc.Le x y ks e t = t
parts_true V calc.Eq x y ks e t = t
parts_true V calc.Ne x y ks e t = t
parts_true V calc.Or x y ks e t = t
parts_true V calc.Xor x y ks e t = t
parts_true V calc.Shl x y ks e t = t
parts_true V calc.Shr x y ks e t = t

all_told : (n : ℕ) (V : Vars) (ds : List Def) → Defs n V ds → (ks : List ℕ) → AllTrue V ks → Hold_all n V (told ds ks)
all_told n V [] k ks t = tt
all_told n V (d ∷ ds) k ks t =
    cond_both {A = List Fact} (is_among d.to ks) (told_by d.word d.left d.right ++ told ds (parts_of d.word d.left d.right ks)) (told ds ks) (Hold_all n V)
    (λ q.
    let e = k.0.3 ∙ ap Done (among_true V d.to ks t q) in
    hold_append n V (told_by d.word d.left d.right) (told ds (parts_of d.word d.left d.right ks)) (told_hold n V d.word d.left d.right k.0.1 e)
    (all_told n V ds k.1 (parts_of d.word d.left d.right ks) (parts_true V d.word d.left d.right ks e t)))
    (λ q. all_told n V ds k.1 ks t)

pub learnt_hold : (n : ℕ) (V : Vars) (ds : List Def) (x : Arg) → Defs n V ds → arg_value V x ≡ v.Bool true → Hold_all n V (learnt ds x)
learnt_hold n V ds x k e = all_told n V ds k (also x []) (also_true V x [] e tt)

pub behind_defs : (p : Place) (n : ℕ) (V : Vars) (ds : List Def) → Defs n V ds → Defs n V (defs_behind p ds)
behind_defs p n V [] k = tt
behind_defs p n V (d ∷ ds) k =
    cond_both {A = List Def} (stands_before p d.place) (d ∷ defs_behind p ds) (defs_behind p ds) (Defs n V) (λ q. (k.0, behind_defs p n V ds k.1)) (λ q. behind_defs p n V ds k.1)

-- facts that hold in one environment are facts in another that agrees on what is in scope
pub hold_facts : (n : ℕ) (V U : Vars) (es : List Entry) (fs : List Fact) → ((k : ℕ) → Among k es → V k ≡ U k) → Hold_all n V fs → Facts n U es fs
hold_facts n V U es [] s k = tt
hold_facts n V U es (e ∷ fs) s k = ((k.0.0, λ q. subst (λ y. IsBelow y e.bound) (s e.var q) k.0.1), hold_facts n V U es fs s k.1)
