-- What a part of a specification may do: a tree of choices. A leaf has values, fails, or would begin one turn or call too many, the latter two at a line.
use Rattle.std.specs.Prelude.{◌≡◌, ℕ, ◌≤◌, ◌<◌, true, false, List, slice_index}
use Rattle.std.specs.List.{Contains}
use Rattle.std.specs.List.Sorted.{IsPermutation}
use Rattle.nres_core.specs.declared.value.Value.{Value}
use Rattle.nres_core.specs.declared.value.Value.TheVariants as v

-- what is chosen: a side, a number from low to high - 1, one of a list, an order of a list
pub data Choice : Type 0 where
  Side : Choice
  Between : (low high : ℕ) → Choice
  One_of : (xs : List ℕ) → Choice
  Order_of : (xs : List ℕ) → Choice

-- what may be chosen
abbrev pub May : Choice → Value → Type 0
May Side (v.Bool b) = Unit {0}
May (Between low high) (v.Nat n) = (low ≤ n) × (n < high)
May (One_of xs) (v.Nat n) = Contains xs n
May (Order_of xs) (v.List ys) = IsPermutation xs ys
May _ _ = ⊥

-- the first: left, the least number, the first of the list, its own order
abbrev pub first_of : Choice → Value
first_of Side = v.Bool true
first_of (Between low high) = v.Nat low
first_of (One_of xs) = v.Nat (slice_index xs 0)
first_of (Order_of xs) = v.List xs

-- what a part may do
pub data Runs (A : Type 0) : Type 0 where
  Done : (a : A) → Runs A
  Failed : (line : ℕ) → Runs A
  Over : (line : ℕ) → Runs A
  Choose : (c : Choice) (k : Value → Runs A) → Runs A

-- a part, and then the rest on what it gives
infixl 10 ◌>>=◌
abbrev pub ◌>>=◌ : {A B : Type 0} → Runs A → (A → Runs B) → Runs B
(Done a) >>= f = f a
(Failed l) >>= f = Failed l
(Over l) >>= f = Over l
(Choose c k) >>= f = Choose c (λ x. k x >>= f)

-- left or right
abbrev pub sided : {A : Type 0} → Value → Runs A → Runs A → Runs A
sided (v.Bool false) l r = r
sided _ l r = l

-- two parts that take no notice of one another: the path of either may be followed first
abbrev pub both : {A B C : Type 0} → Runs A → Runs B → (A → B → Runs C) → Runs C
both l r k = Choose Side (λ x. sided x (l >>= λ a. r >>= λ b. k a b) (r >>= λ b. l >>= λ a. k a b))

-- some path ends with this
abbrev pub Gives : {A : Type 0} → Runs A → A → Type 0
Gives (Done a) b = a ≡ b
Gives (Failed l) b = ⊥
Gives (Over l) b = ⊥
Gives (Choose c k) b = (x : Value) × May c x × Gives (k x) b

-- some path fails
abbrev pub Fails : {A : Type 0} → Runs A → Type 0
Fails (Done a) = ⊥
Fails (Failed l) = Unit {0}
Fails (Over l) = ⊥
Fails (Choose c k) = (x : Value) × May c x × Fails (k x)

-- some path would begin a turn or a call too many
abbrev pub Overruns : {A : Type 0} → Runs A → Type 0
Overruns (Done a) = ⊥
Overruns (Failed l) = ⊥
Overruns (Over l) = Unit {0}
Overruns (Choose c k) = (x : Value) × May c x × Overruns (k x)

-- the path of the first choices
pub data End (A : Type 0) : Type 0 where
  Gave : (a : A) → End A
  Fell : (line : ℕ) → End A
  Late : (line : ℕ) → End A

abbrev pub first_path : {A : Type 0} → Runs A → End A
first_path (Done a) = Gave a
first_path (Failed l) = Fell l
first_path (Over l) = Late l
first_path (Choose c k) = first_path (k (first_of c))
