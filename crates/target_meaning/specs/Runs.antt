-- Schedules, and races.
use Rattle.std.specs.Prelude.{◌≡◌, ℕ, ◌≤◌, ◌<◌, ◌⊎◌, List, [], ◌∷◌, length}
use Rattle.target_code.specs.declared.tree.Proc.{Proc}
use Rattle.target_meaning.specs.declared.path.Side.{Side}
use Rattle.target_meaning.specs.declared.path.Side.TheVariants.{Left, Right}
use Rattle.target_meaning.specs.Leaf.{Stack, Act, Read, Write, Cut, act}
use Rattle.target_meaning.specs.Machine.{Cell, Never, Live, Freed, Heap, Tree, Leaf, Fork, Answer, Moved, Stuck, Full, NoSuchLeaf, NameUsed, Notes, Room, move, depth}

-- a schedule: of each step the path, and the name that an `alloc` there takes
abbrev pub Schedule : Type 0
Schedule = List (List Side × ℕ)

-- go on after a step that was made
abbrev pub and_then : {A : Type 0} → Answer A → (Tree A → Heap → Answer A) → Answer A
and_then (Moved t h) k = k t h
and_then (Stuck r) k = Stuck r
and_then Full k = Full
and_then NoSuchLeaf k = NoSuchLeaf
and_then NameUsed k = NameUsed

-- what a step that was made leads to
abbrev pub OnMoved : {A : Type 0} → Answer A → (Tree A → Heap → Type 0) → Type 0
OnMoved (Moved t h) P = P t h
OnMoved (Stuck r) P = Unit {0}
OnMoved Full P = Unit {0}
OnMoved NoSuchLeaf P = Unit {0}
OnMoved NameUsed P = Unit {0}

-- a step was made, and leads to such a state
abbrev pub HasMoved : {A : Type 0} → Answer A → (Tree A → Heap → Type 0) → Type 0
HasMoved (Moved t h) P = P t h
HasMoved (Stuck r) P = ⊥
HasMoved Full P = ⊥
HasMoved NoSuchLeaf P = ⊥
HasMoved NameUsed P = ⊥

-- the leaf at a path, with its note, is so
abbrev pub AtLeaf : {A : Type 0} → Tree A → List Side → (A → Stack → Type 0) → Type 0
AtLeaf (Leaf a s) [] P = P a s
AtLeaf (Leaf a s) (d ∷ ds) P = ⊥
AtLeaf (Fork a w l r) [] P = ⊥
AtLeaf (Fork a w l r) (Left ∷ ds) P = AtLeaf l ds P
AtLeaf (Fork a w l r) (Right ∷ ds) P = AtLeaf r ds P

-- the state that a schedule reaches: each of its entries is one step; once a step had an answer other than a new state, that is the answer to each longer schedule
abbrev pub reach : {A : Type 0} → Notes A → Room → List Proc → Schedule → Tree A → Heap → Answer A
reach N room T [] t h = Moved t h
reach N room T (e ∷ es) t h = and_then (move N room T t h e.0 e.1) (λ u g. reach N room T es u g)

-- no leaf ever lies below more than 64 forks
abbrev pub IsShallow : {A : Type 0} → Notes A → Room → List Proc → Schedule → Tree A → Heap → Type 0
IsShallow N room T [] t h = depth t ≤ 64
IsShallow N room T (e ∷ es) t h = (depth t ≤ 64) × OnMoved (move N room T t h e.0 e.1) (λ u g. IsShallow N room T es u g)

-- what a leaf that is not stuck is next to touch or free
abbrev pub IsWord : Cell → ℕ → Type 0
IsWord Never i = ⊥
IsWord (Live ws) i = i < length ws
IsWord Freed i = ⊥

-- a block is live
abbrev pub IsLive : Cell → Type 0
IsLive Never = ⊥
IsLive (Live ws) = Unit {0}
IsLive Freed = ⊥

-- a leaf is next to load this word
abbrev pub Loads : Heap → Act → ℕ → ℕ → Type 0
Loads h (Read b i k) c j = (b ≡ c) × (i ≡ j) × IsWord (h.cells b) i
Loads h _ c j = ⊥

-- a leaf is next to store to this word
abbrev pub Stores : Heap → Act → ℕ → ℕ → Type 0
Stores h (Write b i v s) c j = (b ≡ c) × (i ≡ j) × IsWord (h.cells b) i
Stores h _ c j = ⊥

-- a leaf is next to free this block
abbrev pub Frees : Heap → Act → ℕ → Type 0
Frees h (Cut b s) c = (b ≡ c) × IsLive (h.cells b)
Frees h _ c = ⊥

-- a leaf is next to load this word or to store to it
abbrev pub Touches : Heap → Act → ℕ → ℕ → Type 0
Touches h a c j = Loads h a c j ⊎ Stores h a c j

-- the first stores or frees what the second touches or frees
abbrev pub Spoils : Heap → Act → Act → Type 0
Spoils h a b = ((c : ℕ) × (j : ℕ) × Stores h a c j × Touches h b c j) ⊎ (((c : ℕ) × (j : ℕ) × Frees h a c × Touches h b c j) ⊎ ((c : ℕ) × Frees h a c × Frees h b c))

-- some leaf of a tree is so
abbrev pub SomeLeaf : {A : Type 0} → Tree A → (Stack → Type 0) → Type 0
SomeLeaf (Leaf a s) P = P s
SomeLeaf (Fork a w l r) P = SomeLeaf l P ⊎ SomeLeaf r P

-- a data race: two leaves, which lie in the two children of some fork, are next to touch one word, one of them by a store, or one is next to free a block that the other is next to touch or free
abbrev pub Race : {A : Type 0} → List Proc → Heap → Tree A → Type 0
Race T h (Leaf a s) = ⊥
Race T h (Fork a w l r) =
    SomeLeaf l (λ s. SomeLeaf r (λ u. Spoils h (act T s) (act T u) ⊎ Spoils h (act T u) (act T s))) ⊎ (Race T h l ⊎ Race T h r)

-- a tree without its notes
abbrev pub bare : {A : Type 0} → Tree A → Tree (Unit {0})
bare (Leaf a s) = Leaf tt s
bare (Fork a w l r) = Fork tt w (bare l) (bare r)

-- an answer without the notes
abbrev pub bare_answer : {A : Type 0} → Answer A → Answer (Unit {0})
bare_answer (Moved t h) = Moved (bare t) h
bare_answer (Stuck r) = Stuck r
bare_answer Full = Full
bare_answer NoSuchLeaf = NoSuchLeaf
bare_answer NameUsed = NameUsed

-- a step is not stuck
abbrev pub IsNoStuck : {A : Type 0} → Answer A → Type 0
IsNoStuck (Stuck r) = ⊥
IsNoStuck (Moved t h) = Unit {0}
IsNoStuck Full = Unit {0}
IsNoStuck NoSuchLeaf = Unit {0}
IsNoStuck NameUsed = Unit {0}
