-- The left-first run: the run of one worker.
use Rattle.std.specs.Prelude.{ℕ, zero, suc, Bool, true, false, List, [], ◌∷◌, if◌then◌else◌}
use Rattle.target_code.specs.declared.tree.Proc.{Proc}
use Rattle.target_meaning.specs.declared.path.Side.{Side}
use Rattle.target_meaning.specs.declared.path.Side.TheVariants.{Left, Right}
use Rattle.target_meaning.specs.Leaf.{Run, End, Act, Make, Over, act}
use Rattle.target_meaning.specs.Machine.{Heap, Tree, Leaf, Fork, Answer, Moved, Notes, any_room, move}
use Rattle.target_meaning.specs.Runs.{Schedule, and_then}

-- whether a tree is a leaf that has ended
abbrev pub has_ended : {A : Type 0} → Tree A → Bool
has_ended (Leaf a (End vs)) = true
has_ended (Leaf a (Run f cs)) = false
has_ended (Fork a w l r) = false

-- the path of the leftmost leaf that has not ended, or of a fork left of it whose children have both ended
abbrev pub left_path : {A : Type 0} → Tree A → List Side
left_path (Leaf a s) = []
left_path (Fork a w l r) = if has_ended l then (if has_ended r then [] else Right ∷ left_path r) else Left ∷ left_path l

-- what the leaf at a path does next, where there is one
abbrev pub act_at : {A : Type 0} → List Proc → Tree A → List Side → Act
act_at T (Leaf a s) ds = act T s
act_at T (Fork a w l r) [] = Over
act_at T (Fork a w l r) (Left ∷ ds) = act_at T l ds
act_at T (Fork a w l r) (Right ∷ ds) = act_at T r ds

-- the next of the names; 0 where none is left, which no block has
abbrev pub first_name : List ℕ → ℕ
first_name [] = 0
first_name (x ∷ xs) = x

-- the names behind the next one
abbrev pub other_names : List ℕ → List ℕ
other_names [] = []
other_names (x ∷ xs) = xs

-- the names that are left after a step: an `alloc` takes the next one
abbrev pub names_after : Act → List ℕ → List ℕ
names_after (Make n k) xs = other_names xs
names_after _ xs = xs

-- the left-first run of so many steps: each is at the leftmost leaf that has not ended, or a join as soon as both children have ended; each `alloc` takes the next of these names, and the capacity is not tested
abbrev pub left_first : {A : Type 0} → Notes A → List Proc → ℕ → List ℕ → Tree A → Heap → Answer A
left_first N T zero xs t h = Moved t h
left_first N T (suc n) xs t h =
    and_then (move N any_room T t h (left_path t) (first_name xs)) (λ u g. left_first N T n (names_after (act_at T t (left_path t)) xs) u g)

-- what a step that was made leads to, and nothing else
abbrev pub when_moved : {A : Type 0} → Answer A → (Tree A → Heap → Schedule) → Schedule
when_moved (Moved t h) k = k t h
when_moved _ k = []

-- the schedule of a left-first run
abbrev pub left_schedule : {A : Type 0} → Notes A → List Proc → ℕ → List ℕ → Tree A → Heap → Schedule
left_schedule N T zero xs t h = []
left_schedule N T (suc n) xs t h =
    (left_path t, first_name xs) ∷
    when_moved (move N any_room T t h (left_path t) (first_name xs)) (λ u g. left_schedule N T n (names_after (act_at T t (left_path t)) xs) u g)
