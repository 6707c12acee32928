-- What operations and calculations give is of their types.
use Rattle.std.proofs.Common.{ℕ, Bool, true, false, cond, List, [], ◌∷◌, Option, Some, None}
use Rattle.containers.specs.Sets as sets
use Rattle.std.specs.FinMap as maps
use Rattle.nres_core.specs.Ops.{op_out, calc_out, fail_if, popped, one_of, found, least, taken, one}
use Rattle.nres_core.specs.Runs.{Failed, Choose, May, Between, One_of, Order_of, Done}
use Rattle.nres_rules.specs.Typed.{op_gives}
use Rattle.nres_rules.specs.Types.{outcome}
use Rattle.nres_core.specs.declared.op.Op.{Op}
use Rattle.nres_core.specs.declared.op.Op.TheVariants as o
use Rattle.nres_core.specs.declared.ty.Ty.{Ty}
use Rattle.nres_core.specs.declared.ty.Ty.TheVariants as ty
use Rattle.nres_core.specs.declared.value.Value.{Value}
use Rattle.nres_core.specs.declared.value.Value.TheVariants as v
use Rattle.nres_meaning.specs.Meaning.{joined_out}
use Rattle.target_code.specs.declared.tree.Calc.{Calc}
use Rattle.target_code.specs.declared.tree.Calc.TheVariants as c
use Rattle.identify_laws.proofs.Kept.{Leaves}
use Rattle.identify_laws.specs.Values.{Of, AllOf}

leaves_if : {A : Type 0} (P : A → Type 0) (b : Bool) (x : A) → P x → Leaves P (fail_if b x)
leaves_if P true x h = tt
leaves_if P false x h = h

order_typed : (xs : List ℕ) (b : Bool) → Leaves (AllOf (ty.List ∷ [])) (cond b (Choose (Order_of xs) one) (Failed 0))
order_typed xs true = a_list xs
  where
    a_list : (xs : List ℕ) (x : Value) → May (Order_of xs) x → Leaves (AllOf (ty.List ∷ [])) (one x)
    a_list xs (v.List ys) m = (tt, tt)
    a_list xs (v.Nat n) m = absurd m
    a_list xs (v.Bool n) m = absurd m
    a_list xs (v.Set n) m = absurd m
    a_list xs (v.Map n) m = absurd m
    a_list xs (v.Bag n) m = absurd m
order_typed xs false = tt

one_typed : (xs : List ℕ) → Leaves (AllOf (ty.Nat ∷ [])) (one_of xs)
one_typed [] = tt
one_typed (x ∷ xs) = a_number (x ∷ xs)
  where
    a_number : (xs : List ℕ) (x : Value) → May (One_of xs) x → Leaves (AllOf (ty.Nat ∷ [])) (one x)
    a_number xs (v.Nat n) m = (tt, tt)
    a_number xs (v.List n) m = absurd m
    a_number xs (v.Bool n) m = absurd m
    a_number xs (v.Set n) m = absurd m
    a_number xs (v.Map n) m = absurd m
    a_number xs (v.Bag n) m = absurd m

pub any_typed : (lo hi : ℕ) (l : ℕ) (b : Bool) → Leaves (AllOf (ty.Nat ∷ [])) (cond b (Choose (Between lo hi) (λ z. Done (z ∷ []))) (Failed l))
any_typed lo hi l true = a_number lo hi
  where
    a_number : (lo hi : ℕ) (x : Value) → May (Between lo hi) x → Leaves (AllOf (ty.Nat ∷ [])) (Done (x ∷ []))
    a_number lo hi (v.Nat n) m = (tt, tt)
    a_number lo hi (v.List n) m = absurd m
    a_number lo hi (v.Bool n) m = absurd m
    a_number lo hi (v.Set n) m = absurd m
    a_number lo hi (v.Map n) m = absurd m
    a_number lo hi (v.Bag n) m = absurd m
any_typed lo hi l false = tt

popped_typed : (xs : List ℕ) → Leaves (AllOf (ty.Nat ∷ ty.List ∷ [])) (popped xs)
popped_typed [] = tt
popped_typed (x ∷ xs) = (tt, (tt, tt))

found_typed : (x : Option ℕ) → Leaves (AllOf (ty.Nat ∷ [])) (found x)
found_typed None = tt
found_typed (Some n) = (tt, tt)

least_typed : (xs : List ℕ) → Leaves (AllOf (ty.Nat ∷ [])) (least xs)
least_typed [] = tt
least_typed (x ∷ xs) = (tt, tt)

taken_typed : (xs : List ℕ) → Leaves (AllOf (ty.Nat ∷ ty.Bag ∷ [])) (taken xs)
taken_typed [] = tt
taken_typed (x ∷ xs) = (tt, (tt, tt))

pub op_typed : (op : Op) (vs : List Value) → Leaves (AllOf (op_gives op)) (op_out op vs)
op_typed o.Zeros (v.Nat n ∷ []) = leaves_if (AllOf (op_gives o.Zeros)) _ _ (tt, tt)
op_typed o.Get (v.List xs ∷ v.Nat i ∷ []) = leaves_if (AllOf (op_gives o.Get)) _ _ (tt, tt)
op_typed o.SetAt (v.List xs ∷ v.Nat i ∷ v.Nat x ∷ []) = leaves_if (AllOf (op_gives o.SetAt)) _ _ (tt, tt)
op_typed o.Swap (v.List xs ∷ v.Nat i ∷ v.Nat j ∷ []) = leaves_if (AllOf (op_gives o.Swap)) _ _ (tt, tt)
op_typed o.Push (v.List xs ∷ v.Nat x ∷ []) = leaves_if (AllOf (op_gives o.Push)) _ _ (tt, tt)
op_typed o.Pop (v.List xs ∷ []) = popped_typed xs
op_typed o.Insert (v.Set s ∷ v.Nat x ∷ []) = leaves_if (AllOf (op_gives o.Insert)) _ _ (tt, tt)
op_typed o.Pick (v.Set s ∷ []) = one_typed (sets.items s)
op_typed o.Union (v.Set s ∷ v.Set t ∷ []) = leaves_if (AllOf (op_gives o.Union)) _ _ (tt, tt)
op_typed o.Elems (v.Set s ∷ []) = order_typed (sets.items s) _
op_typed o.Lookup (v.Map m ∷ v.Nat k ∷ []) = found_typed (maps.get m k)
op_typed o.Put (v.Map m ∷ v.Nat k ∷ v.Nat x ∷ []) = leaves_if (AllOf (op_gives o.Put)) _ _ (tt, tt)
op_typed o.Keys (v.Map m ∷ []) = order_typed (maps.keys m) _
op_typed o.Add (v.Bag h ∷ v.Nat x ∷ []) = leaves_if (AllOf (op_gives o.Add)) _ _ (tt, tt)
op_typed o.Minimum (v.Bag h ∷ []) = least_typed h.list
op_typed o.TakeMin (v.Bag h ∷ []) = taken_typed h.list
op_typed o.Nil [] = (tt, tt)
op_typed o.Len (v.List xs ∷ []) = (tt, tt)
op_typed o.CopyList (v.List xs ∷ []) = (tt, tt)
op_typed o.EmptySet [] = (tt, tt)
op_typed o.SizeSet (v.Set s ∷ []) = (tt, tt)
op_typed o.HasSet (v.Set s ∷ v.Nat x ∷ []) = (tt, tt)
op_typed o.Remove (v.Set s ∷ v.Nat x ∷ []) = (tt, tt)
op_typed o.CopySet (v.Set s ∷ []) = (tt, tt)
op_typed o.EmptyMap [] = (tt, tt)
op_typed o.SizeMap (v.Map m ∷ []) = (tt, tt)
op_typed o.HasMap (v.Map m ∷ v.Nat k ∷ []) = (tt, tt)
op_typed o.Del (v.Map m ∷ v.Nat k ∷ []) = (tt, tt)
op_typed o.CopyMap (v.Map m ∷ []) = (tt, tt)
op_typed o.EmptyBag [] = (tt, tt)
op_typed o.SizeBag (v.Bag h ∷ []) = (tt, tt)
op_typed o.CopyBag (v.Bag h ∷ []) = (tt, tt)
op_typed op vs = tt

pub calc_typed : (w : Calc) (x y : Value) → Leaves (Of (outcome w)) (calc_out w x y)
calc_typed c.Add (v.Nat x) (v.Nat y) = leaves_if (Of (outcome c.Add)) _ _ tt
calc_typed c.Sub (v.Nat x) (v.Nat y) = leaves_if (Of (outcome c.Sub)) _ _ tt
calc_typed c.Mul (v.Nat x) (v.Nat y) = leaves_if (Of (outcome c.Mul)) _ _ tt
calc_typed c.Div (v.Nat x) (v.Nat y) = leaves_if (Of (outcome c.Div)) _ _ tt
calc_typed c.Mod (v.Nat x) (v.Nat y) = leaves_if (Of (outcome c.Mod)) _ _ tt
calc_typed c.Min (v.Nat x) (v.Nat y) = tt
calc_typed c.Max (v.Nat x) (v.Nat y) = tt
calc_typed c.Lt (v.Nat x) (v.Nat y) = tt
calc_typed c.Le (v.Nat x) (v.Nat y) = tt
calc_typed c.Eq (v.Nat x) (v.Nat y) = tt
calc_typed c.Ne (v.Nat x) (v.Nat y) = tt
calc_typed c.And (v.Bool x) (v.Bool y) = tt
calc_typed c.Or (v.Bool x) (v.Bool y) = tt
calc_typed c.Eq (v.Bool x) (v.Bool y) = tt
calc_typed w x y = tt

pub joined_typed : (x y : Value) (us : List Ty) (vs : List Value) → AllOf us vs → Leaves (AllOf (ty.List ∷ us)) (joined_out x y vs)
joined_typed (v.List xs) (v.List ys) us vs h = leaves_if (AllOf (ty.List ∷ us)) _ _ (tt, h)
joined_typed x y us vs h = tt
