-- What each operation takes and gives, and what each operation word stands for: the one table of operations. What the grammar, typing and the
-- meaning say of a word is looked up here.
use Rattle.std.specs.Prelude.{◌≡◌, ℕ, suc, Bool, true, false, cond, List, [], ◌∷◌, length, map, Option, Some, None}
use Rattle.target_code.specs.declared.tree.Rep.{Rep}
use Rattle.target_code.specs.declared.tree.Rep.TheVariants as r
use Rattle.nres_core.specs.Tree.{same_name}
use Rattle.nres_core.specs.declared.op.Op.{Op}
use Rattle.nres_core.specs.declared.op.Op.TheVariants as o
use Rattle.nres_core.specs.declared.ty.Ty.{Ty}
use Rattle.nres_core.specs.declared.ty.Ty.TheVariants as ty
use Rattle.nres_core.specs.declared.value.Value.{Value}
use Rattle.nres_core.specs.declared.value.Value.TheVariants as v
use Rattle.nres_core.specs.declared.vocabulary.ByType.{ByType}
use Rattle.nres_core.specs.declared.vocabulary.Meant.{Meant}
use Rattle.nres_core.specs.declared.vocabulary.Meant.TheVariants as m
use Rattle.nres_core.specs.declared.vocabulary.OpEntry.{OpEntry}
use Rattle.nres_core.specs.declared.vocabulary.OpEntry.TheVariants as e
use Rattle.nres_core.specs.declared.vocabulary.TheConstants as constants

-- ---- operations

-- an operation gives one value, makes a container of that type anew, or takes an element out of a container of this type
pub data Entry : Type 0 where
  Gives : (takes : List Ty) (to : Ty) → Entry
  Makes : (takes : List Ty) (to : Ty) → Entry
  Takes_out : (from : Ty) → Entry

abbrev pub entry : Op → Entry
entry o.Zeros = Makes (ty.Nat ∷ []) ty.List
entry o.Nil = Makes [] ty.List
entry o.Len = Gives (ty.List ∷ []) ty.Nat
entry o.Get = Gives (ty.List ∷ ty.Nat ∷ []) ty.Nat
entry o.SetAt = Gives (ty.List ∷ ty.Nat ∷ ty.Nat ∷ []) ty.List
entry o.Swap = Gives (ty.List ∷ ty.Nat ∷ ty.Nat ∷ []) ty.List
entry o.Push = Gives (ty.List ∷ ty.Nat ∷ []) ty.List
entry o.Pop = Takes_out ty.List
entry o.CopyList = Gives (ty.List ∷ []) ty.List
entry o.EmptySet = Makes [] ty.Set
entry o.SizeSet = Gives (ty.Set ∷ []) ty.Nat
entry o.HasSet = Gives (ty.Set ∷ ty.Nat ∷ []) ty.Bool
entry o.Insert = Gives (ty.Set ∷ ty.Nat ∷ []) ty.Set
entry o.Remove = Gives (ty.Set ∷ ty.Nat ∷ []) ty.Set
entry o.Pick = Gives (ty.Set ∷ []) ty.Nat
entry o.Union = Gives (ty.Set ∷ ty.Set ∷ []) ty.Set
entry o.Elems = Gives (ty.Set ∷ []) ty.List
entry o.CopySet = Gives (ty.Set ∷ []) ty.Set
entry o.EmptyMap = Makes [] ty.Map
entry o.SizeMap = Gives (ty.Map ∷ []) ty.Nat
entry o.HasMap = Gives (ty.Map ∷ ty.Nat ∷ []) ty.Bool
entry o.Lookup = Gives (ty.Map ∷ ty.Nat ∷ []) ty.Nat
entry o.Put = Gives (ty.Map ∷ ty.Nat ∷ ty.Nat ∷ []) ty.Map
entry o.Del = Gives (ty.Map ∷ ty.Nat ∷ []) ty.Map
entry o.Keys = Gives (ty.Map ∷ []) ty.List
entry o.CopyMap = Gives (ty.Map ∷ []) ty.Map
entry o.EmptyBag = Makes [] ty.Bag
entry o.SizeBag = Gives (ty.Bag ∷ []) ty.Nat
entry o.Add = Gives (ty.Bag ∷ ty.Nat ∷ []) ty.Bag
entry o.Minimum = Gives (ty.Bag ∷ []) ty.Nat
entry o.TakeMin = Takes_out ty.Bag
entry o.CopyBag = Gives (ty.Bag ∷ []) ty.Bag

abbrev pub entry_value : OpEntry → Entry
entry_value (e.Gives ts u) = Gives ts.now u
entry_value (e.Makes ts u) = Makes ts.now u
entry_value (e.TakesOut u) = Takes_out u

-- the types of what it takes and of what it gives
abbrev pub takes_of : Entry → List Ty
takes_of (Gives ts u) = ts
takes_of (Makes ts u) = ts
takes_of (Takes_out u) = u ∷ []

abbrev pub gives_of : Entry → List Ty
gives_of (Gives ts u) = u ∷ []
gives_of (Makes ts u) = u ∷ []
gives_of (Takes_out u) = ty.Nat ∷ u ∷ []

-- the type of container that it makes anew, and whether it takes an element out
abbrev pub makes_of : Entry → Option Ty
makes_of (Makes ts u) = Some u
makes_of _ = None

abbrev pub is_taking : Entry → Bool
is_taking (Takes_out u) = true
is_taking _ = false

-- ---- words

-- what a table says of a word
abbrev pub in_table : {A : Type 0} → List ℕ → List (List ℕ × A) → Option A
in_table w [] = None
in_table w (e ∷ es) = cond (same_name w e.0) (Some e.1) (in_table w es)

abbrev pub words : List (List ℕ × Meant)
words = map (λ x. (x.0.now, x.1)) constants.OPERATION_WORDS

-- what a word stands for
unfoldable pub meant : List ℕ → Option Meant
meant w = in_table w words

-- the type that a representation is of, and that of a value
abbrev pub rep_type : Rep → Ty
rep_type r.Word = ty.Nat
rep_type r.Flag = ty.Bool
rep_type r.Array = ty.List
rep_type r.Slice = ty.List
rep_type r.Vec = ty.List
rep_type (r.Bits u) = ty.Set
rep_type r.Hset = ty.Set
rep_type (r.Amap u) = ty.Map
rep_type r.Hmap = ty.Map
rep_type r.Heap = ty.Bag

abbrev pub value_type : Value → Ty
value_type (v.Nat n) = ty.Nat
value_type (v.Bool b) = ty.Bool
value_type (v.List xs) = ty.List
value_type (v.Set s) = ty.Set
value_type (v.Map x) = ty.Map
value_type (v.Bag h) = ty.Bag

-- the operation for a type, and for one that may be unknown
abbrev pub at_type : Ty → ByType → Option Op
at_type ty.List t = t.list
at_type ty.Set t = t.set
at_type ty.Map t = t.map
at_type ty.Bag t = t.bag
at_type _ t = None

abbrev pub at_known : Option Ty → ByType → Option Op
at_known None t = None
at_known (Some u) t = at_type u t

-- the operation for the first type that has one
abbrev pub or_else : Option Op → Option Op → Option Op
or_else (Some op) x = Some op
or_else None x = x

abbrev pub any_of : ByType → Option Op
any_of t = or_else (or_else (or_else t.list t.set) t.map) t.bag

-- ---- how words stand in a text

-- an operation that gives one value stands on so many atoms
abbrev pub entry_arity : Entry → Option ℕ
entry_arity (Gives ts u) = Some (length ts)
entry_arity _ = None

abbrev pub op_arity : Option Op → Option ℕ
op_arity None = None
op_arity (Some op) = entry_arity (entry op)

abbrev pub meant_arity : Option Meant → Option ℕ
meant_arity (Some (m.Always op)) = op_arity (Some op)
meant_arity (Some (m.ByFirst t to)) = op_arity (any_of t)
meant_arity _ = None

-- a word that makes a container from nothing
abbrev pub entry_is_bare : Entry → Bool
entry_is_bare (Makes [] u) = true
entry_is_bare _ = false

abbrev pub meant_is_bare : Option Meant → Bool
meant_is_bare (Some (m.Always op)) = entry_is_bare (entry op)
meant_is_bare (Some (m.ByMade t)) = true
meant_is_bare _ = false

-- a word that takes an element out
abbrev pub meant_is_taking : Option Meant → Bool
meant_is_taking (Some (m.Always op)) = is_taking (entry op)
meant_is_taking _ = false

-- ---- what holds of the table

abbrev pub Told : Option Ty → Ty → Type 0
Told None u = Unit {0}
Told (Some w) u = w ≡ u

-- the operation for a first argument of type u takes it first, as many arguments as the others, and gives what is told of all
abbrev pub OfFirst : ByType → Option Ty → Ty → Entry → Type 0
OfFirst t to u (Gives (w ∷ ts) x) = (w ≡ u) × (op_arity (any_of t) ≡ Some (suc (length ts))) × Told to x
OfFirst t to u _ = ⊥

-- the operation for a representation of type u makes a container of that type from nothing
abbrev pub OfMade : Ty → Entry → Type 0
OfMade u e = e ≡ Makes [] u

abbrev pub OfOp : (Entry → Type 0) → Option Op → Type 0
OfOp P None = Unit {0}
OfOp P (Some op) = P (entry op)

abbrev pub OfEach : (Ty → Entry → Type 0) → ByType → Type 0
OfEach P t = OfOp (P ty.List) t.list × OfOp (P ty.Set) t.set × OfOp (P ty.Map) t.map × OfOp (P ty.Bag) t.bag

abbrev pub Fits : Meant → Type 0
Fits (m.Always op) = Unit {0}
Fits (m.ByFirst t to) = OfEach (OfFirst t to) t
Fits (m.ByMade t) = OfEach OfMade t

-- each of a table
abbrev pub AllOf : {A : Type 0} → (List ℕ → A → Type 0) → List (List ℕ × A) → Type 0
AllOf P [] = Unit {0}
AllOf P (e ∷ es) = P e.0 e.1 × AllOf P es

-- the words with several operations fit
abbrev pub FitsAnd : Meant → Type 0 → Type 0
FitsAnd (m.Always op) R = R
FitsAnd (m.ByFirst t to) R = OfEach (OfFirst t to) t × R
FitsAnd (m.ByMade t) R = OfEach OfMade t × R

abbrev pub AllFit : List (List ℕ × Meant) → Type 0
AllFit [] = Unit {0}
AllFit (e ∷ es) = FitsAnd e.1 (AllFit es)

abbrev pub WordsFit : Type 0
WordsFit = AllFit words
