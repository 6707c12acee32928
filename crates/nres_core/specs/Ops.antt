-- The meaning of the 32 operations, of calculations and of conditions.
use Rattle.std.specs.Prelude.{ℕ, zero, suc, ◌+◌, ◌-◌, ◌*◌, ◌/◌, ◌%◌, ◌^◌, min, max, nat_lt, nat_le, nat_eq, Bool, true, false, not, ◌&&◌, ◌||◌, cond, List, [], ◌∷◌, ◌++◌, length, slice_index, slice_set, take, Option, Some, None}
use Rattle.containers.specs.Sets as sets
use Rattle.std.specs.FinMap as maps
use Rattle.containers.specs.Bag.{bag_of, no_number, added}
use Rattle.nres_core.specs.Runs.{Runs, Done, Failed, Over, Choose, One_of, Order_of}
use Rattle.nres_core.specs.declared.op.Op.{Op}
use Rattle.nres_core.specs.declared.op.Op.TheVariants as o
use Rattle.target_code.specs.declared.tree.Calc.{Calc}
use Rattle.target_code.specs.declared.tree.Calc.TheVariants as c
use Rattle.nres_core.specs.declared.value.Value.{Value}
use Rattle.nres_core.specs.declared.value.Value.TheVariants as v

-- one result
abbrev pub one : Value → Runs (List Value)
one x = Done (x ∷ [])

-- fails where the test holds
abbrev pub fail_if : {A : Type 0} → Bool → A → Runs A
fail_if true x = Failed 0
fail_if false x = Done x

-- fewer than 2^32 elements
abbrev pub if_room : ℕ → Value → Runs (List Value)
if_room size x = fail_if (nat_le (2 ^ 32) size) (x ∷ [])

-- a list of n zeros
abbrev pub zeros_of : ℕ → List ℕ
zeros_of zero = []
zeros_of (suc n) = 0 ∷ zeros_of n

-- a list's last element and the others; an empty list has none
abbrev pub popped : List ℕ → Runs (List Value)
popped [] = Failed 0
popped (x ∷ xs) = Done (v.Nat (slice_index (x ∷ xs) (length xs)) ∷ v.List (take (length xs) (x ∷ xs)) ∷ [])

-- any element; an empty list has none
abbrev pub one_of : List ℕ → Runs (List Value)
one_of [] = Failed 0
one_of (x ∷ xs) = Choose (One_of (x ∷ xs)) one

-- any order of the elements; what has 2^32 elements or more is no value
abbrev pub in_some_order : List ℕ → Runs (List Value)
in_some_order xs = cond (nat_lt (length xs) (2 ^ 32)) (Choose (Order_of xs) one) (Failed 0)

-- the value at a key, where there is one
abbrev pub found : Option ℕ → Runs (List Value)
found None = Failed 0
found (Some n) = one (v.Nat n)

-- the first of an ascending list
abbrev pub least : List ℕ → Runs (List Value)
least [] = Failed 0
least (x ∷ xs) = one (v.Nat x)

-- the first of an ascending list, and the multiset of the others
abbrev pub taken : List ℕ → Runs (List Value)
taken [] = Failed 0
taken (x ∷ xs) = Done (v.Nat x ∷ v.Bag (bag_of xs) ∷ [])

-- an operation on its arguments; what is not of its types fails
abbrev pub op_out : Op → List Value → Runs (List Value)
op_out o.Zeros (v.Nat n ∷ []) = fail_if (nat_le (2 ^ 32) n) (v.List (zeros_of n) ∷ [])
op_out o.Nil [] = one (v.List [])
op_out o.Len (v.List xs ∷ []) = one (v.Nat (length xs))
op_out o.Get (v.List xs ∷ v.Nat i ∷ []) = fail_if (nat_le (length xs) i) (v.Nat (slice_index xs i) ∷ [])
op_out o.SetAt (v.List xs ∷ v.Nat i ∷ v.Nat x ∷ []) = fail_if (nat_le (length xs) i) (v.List (slice_set xs i x) ∷ [])
op_out o.Swap (v.List xs ∷ v.Nat i ∷ v.Nat j ∷ []) =
    fail_if (nat_le (length xs) i || nat_le (length xs) j) (v.List (slice_set (slice_set xs i (slice_index xs j)) j (slice_index xs i)) ∷ [])
op_out o.Push (v.List xs ∷ v.Nat x ∷ []) = if_room (length xs + 1) (v.List (xs ++ x ∷ []))
op_out o.Pop (v.List xs ∷ []) = popped xs
op_out o.CopyList (v.List xs ∷ []) = one (v.List xs)
op_out o.EmptySet [] = one (v.Set sets.empty)
op_out o.SizeSet (v.Set s ∷ []) = one (v.Nat (sets.len s))
op_out o.HasSet (v.Set s ∷ v.Nat x ∷ []) = one (v.Bool (sets.contains s x))
op_out o.Insert (v.Set s ∷ v.Nat x ∷ []) = if_room (sets.len (sets.insert s x)) (v.Set (sets.insert s x))
op_out o.Remove (v.Set s ∷ v.Nat x ∷ []) = one (v.Set (sets.remove s x))
op_out o.Pick (v.Set s ∷ []) = one_of (sets.items s)
op_out o.Union (v.Set s ∷ v.Set t ∷ []) = if_room (sets.len (sets.union s t)) (v.Set (sets.union s t))
op_out o.Elems (v.Set s ∷ []) = in_some_order (sets.items s)
op_out o.CopySet (v.Set s ∷ []) = one (v.Set s)
op_out o.EmptyMap [] = one (v.Map maps.empty)
op_out o.SizeMap (v.Map m ∷ []) = one (v.Nat (maps.len m))
op_out o.HasMap (v.Map m ∷ v.Nat k ∷ []) = one (v.Bool (maps.contains_key m k))
op_out o.Lookup (v.Map m ∷ v.Nat k ∷ []) = found (maps.get m k)
op_out o.Put (v.Map m ∷ v.Nat k ∷ v.Nat x ∷ []) = if_room (maps.len (maps.insert m k x)) (v.Map (maps.insert m k x))
op_out o.Del (v.Map m ∷ v.Nat k ∷ []) = one (v.Map (maps.remove m k))
op_out o.Keys (v.Map m ∷ []) = in_some_order (maps.keys m)
op_out o.CopyMap (v.Map m ∷ []) = one (v.Map m)
op_out o.EmptyBag [] = one (v.Bag no_number)
op_out o.SizeBag (v.Bag h ∷ []) = one (v.Nat (length h.list))
op_out o.Add (v.Bag h ∷ v.Nat x ∷ []) = if_room (length h.list + 1) (v.Bag (added h x))
op_out o.Minimum (v.Bag h ∷ []) = least h.list
op_out o.TakeMin (v.Bag h ∷ []) = taken h.list
op_out o.CopyBag (v.Bag h ∷ []) = one (v.Bag h)
op_out op vs = Failed 0

-- a number below 2^64
abbrev pub if_word : ℕ → Runs Value
if_word n = fail_if (nat_le (2 ^ 64) n) (v.Nat n)

-- arithmetic; a truth value counts as 1 or 0 in == and !=
abbrev pub calc_out : Calc → Value → Value → Runs Value
calc_out c.Add (v.Nat x) (v.Nat y) = if_word (x + y)
calc_out c.Sub (v.Nat x) (v.Nat y) = fail_if (nat_lt x y) (v.Nat (x - y))
calc_out c.Mul (v.Nat x) (v.Nat y) = if_word (x * y)
calc_out c.Div (v.Nat x) (v.Nat y) = fail_if (nat_eq y 0) (v.Nat (x / y))
calc_out c.Mod (v.Nat x) (v.Nat y) = fail_if (nat_eq y 0) (v.Nat (x % y))
calc_out c.Min (v.Nat x) (v.Nat y) = Done (v.Nat (min x y))
calc_out c.Max (v.Nat x) (v.Nat y) = Done (v.Nat (max x y))
calc_out c.Lt (v.Nat x) (v.Nat y) = Done (v.Bool (nat_lt x y))
calc_out c.Le (v.Nat x) (v.Nat y) = Done (v.Bool (nat_le x y))
calc_out c.Eq (v.Nat x) (v.Nat y) = Done (v.Bool (nat_eq x y))
calc_out c.Ne (v.Nat x) (v.Nat y) = Done (v.Bool (not (nat_eq x y)))
calc_out c.And (v.Bool x) (v.Bool y) = Done (v.Bool (x && y))
calc_out c.Or (v.Bool x) (v.Bool y) = Done (v.Bool (x || y))
calc_out c.Eq (v.Bool x) (v.Bool y) = Done (v.Bool (cond x y (not y)))
calc_out w x y = Failed 0

-- a condition
abbrev pub truth_out : Value → Runs Bool
truth_out (v.Bool b) = Done b
truth_out x = Failed 0

-- a number
abbrev pub nat_out : Value → Runs ℕ
nat_out (v.Nat n) = Done n
nat_out x = Failed 0

-- a failure stands at a line
abbrev pub at_line : {A : Type 0} → ℕ → Runs A → Runs A
at_line l (Done a) = Done a
at_line l (Failed k) = Failed l
at_line l (Over k) = Over l
at_line l (Choose c k) = Choose c (λ x. at_line l (k x))

-- an operation, a calculation, a condition and a number at a line
abbrev pub op_runs : ℕ → Op → List Value → Runs (List Value)
op_runs l op vs = at_line l (op_out op vs)

abbrev pub calc_runs : ℕ → Calc → Value → Value → Runs Value
calc_runs l w x y = at_line l (calc_out w x y)

abbrev pub truth_runs : ℕ → Value → Runs Bool
truth_runs l x = at_line l (truth_out x)

abbrev pub nat_runs : ℕ → Value → Runs ℕ
nat_runs l x = at_line l (nat_out x)
