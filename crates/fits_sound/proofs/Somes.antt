-- An operation that does not fail gives something.
use Rattle.std.proofs.Common.{ℕ, Bool, true, false, cond, List, [], ◌∷◌, refl, arith, ◌⊎◌, inl, inr}
use Rattle.std.proofs.lemmas.List.Sorted.{IsPermutation-refl}
use Rattle.std.specs.FinMap as maps
use Rattle.containers.specs.Sets as sets
use Rattle.std.specs.Prelude.{Option, Some, None}
use Rattle.nres_core.specs.Ops.{op_out, fail_if, popped, one_of, found, least, taken, one}
use Rattle.nres_core.specs.Runs.{Runs, Failed, Choose, Order_of, Gives, Fails}
use Rattle.nres_core.specs.declared.op.Op.{Op}
use Rattle.nres_core.specs.declared.op.Op.TheVariants as o
use Rattle.nres_core.specs.declared.value.Value.{Value}
use Rattle.nres_core.specs.declared.value.Value.TheVariants as v

abbrev pub Something : {A : Type 0} → Runs A → Type 0
Something {A} r = Fails r ⊎ ((x : A) × Gives r x)

some_if : {A : Type 0} (b : Bool) (x : A) → Something (fail_if b x)
some_if true x = inl tt
some_if false x = inr (x, refl)

some_popped : (xs : List ℕ) → Something (popped xs)
some_popped [] = inl tt
some_popped (x ∷ xs) = inr (_, refl)

some_one : (xs : List ℕ) → Something (one_of xs)
some_one [] = inl tt
some_one (x ∷ xs) = inr (v.Nat x ∷ [], (v.Nat x, (0, omega arith, refl), refl))

some_order : (xs : List ℕ) (b : Bool) → Something (cond b (Choose (Order_of xs) one) (Failed 0))
some_order xs true = inr (v.List xs ∷ [], (v.List xs, IsPermutation-refl xs, refl))
some_order xs false = inl tt

some_found : (x : Option ℕ) → Something (found x)
some_found None = inl tt
some_found (Some n) = inr (_, refl)

some_least : (xs : List ℕ) → Something (least xs)
some_least [] = inl tt
some_least (x ∷ xs) = inr (_, refl)

some_taken : (xs : List ℕ) → Something (taken xs)
some_taken [] = inl tt
some_taken (x ∷ xs) = inr (_, refl)

pub op_some : (op : Op) (vs : List Value) → Something (op_out op vs)
op_some o.Zeros (v.Nat n ∷ []) = some_if _ _
op_some o.Nil [] = inr (_, refl)
op_some o.Len (v.List xs ∷ []) = inr (_, refl)
op_some o.Get (v.List xs ∷ v.Nat i ∷ []) = some_if _ _
op_some o.SetAt (v.List xs ∷ v.Nat i ∷ v.Nat x ∷ []) = some_if _ _
op_some o.Swap (v.List xs ∷ v.Nat i ∷ v.Nat j ∷ []) = some_if _ _
op_some o.Push (v.List xs ∷ v.Nat x ∷ []) = some_if _ _
op_some o.Pop (v.List xs ∷ []) = some_popped xs
op_some o.CopyList (v.List xs ∷ []) = inr (_, refl)
op_some o.EmptySet [] = inr (_, refl)
op_some o.SizeSet (v.Set s ∷ []) = inr (_, refl)
op_some o.HasSet (v.Set s ∷ v.Nat x ∷ []) = inr (_, refl)
op_some o.Insert (v.Set s ∷ v.Nat x ∷ []) = some_if _ _
op_some o.Remove (v.Set s ∷ v.Nat x ∷ []) = inr (_, refl)
op_some o.Pick (v.Set s ∷ []) = some_one (sets.items s)
op_some o.Union (v.Set s ∷ v.Set t ∷ []) = some_if _ _
op_some o.Elems (v.Set s ∷ []) = some_order (sets.items s) _
op_some o.CopySet (v.Set s ∷ []) = inr (_, refl)
op_some o.EmptyMap [] = inr (_, refl)
op_some o.SizeMap (v.Map m ∷ []) = inr (_, refl)
op_some o.HasMap (v.Map m ∷ v.Nat k ∷ []) = inr (_, refl)
op_some o.Lookup (v.Map m ∷ v.Nat k ∷ []) = some_found (maps.get m k)
op_some o.Put (v.Map m ∷ v.Nat k ∷ v.Nat x ∷ []) = some_if _ _
op_some o.Del (v.Map m ∷ v.Nat k ∷ []) = inr (_, refl)
op_some o.Keys (v.Map m ∷ []) = some_order (maps.keys m) _
op_some o.CopyMap (v.Map m ∷ []) = inr (_, refl)
op_some o.EmptyBag [] = inr (_, refl)
op_some o.SizeBag (v.Bag h ∷ []) = inr (_, refl)
op_some o.Add (v.Bag h ∷ v.Nat x ∷ []) = some_if _ _
op_some o.Minimum (v.Bag h ∷ []) = some_least h.list
op_some o.TakeMin (v.Bag h ∷ []) = some_taken h.list
op_some o.CopyBag (v.Bag h ∷ []) = inr (_, refl)
op_some op vs = inl tt
