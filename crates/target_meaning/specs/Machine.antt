-- The machine: a tree of leaves over one heap. The tree's notes are nothing for the machine itself, counts for a run, and pieces for what leaves hold.
use Rattle.std.specs.Prelude.{◌≡◌, ℕ, suc, ◌+◌, ◌<◌, max, Bool, true, false, ◌&&◌, List, [], ◌∷◌, length, replicate, nat_lt, nat_le, ◌==◌, if◌then◌else◌, slice_index, slice_set}
use Rattle.std.specs.Prelude.{Option, Some, None}
use Rattle.target_code.specs.declared.tree.Proc.{Proc}
use Rattle.target_meaning.specs.declared.path.Side.{Side}
use Rattle.target_meaning.specs.declared.path.Side.TheVariants.{Left, Right}
use Rattle.target_meaning.specs.declared.answer.Reason.{Reason}
use Rattle.target_meaning.specs.declared.answer.Reason.TheVariants.{Block, Index}
use Rattle.target_meaning.specs.Leaf.{Stack, Run, End, Wait, Child, Act, Go, Read, Write, Make, Cut, Split, Over, Bad, act, joined}

-- what a name stands for: it was never made, is live with these words, or was freed
pub data Cell : Type 0 where
  Never : Cell
  Live : List ℕ → Cell
  Freed : Cell

-- the words of a live block
abbrev pub words_of : Cell → Option (List ℕ)
words_of Never = None
words_of (Live ws) = Some ws
words_of Freed = None

-- a heap: what each name stands for, the claimed words (the sum of length + 1 over all names ever made), and the capacity
pub record Heap : Type 0 where
  pub cells : ℕ → Cell
  pub claimed : ℕ
  pub cap : ℕ

-- the fork tree: a leaf is a stack of frames, a fork has the frame that waits and two children; each has a note
pub data Tree (A : Type 0) : Type 0 where
  Leaf : A → Stack → Tree A
  Fork : A → Wait → Tree A → Tree A → Tree A

-- how a step ends: the state after it, or why there is none
pub data Answer (A : Type 0) : Type 0 where
  Moved : Tree A → Heap → Answer A
  Stuck : Reason → Answer A
  Full : Answer A
  NoSuchLeaf : Answer A
  NameUsed : Answer A

-- what becomes of a note: after a step (with the name for a block made), at a fork (kept, left, right), at a join
pub record Notes (A : Type 0) : Type 0 where
  pub after : A → Act → ℕ → A
  pub kept : A → Child → Child → A
  pub left : A → Child → Child → A
  pub right : A → Child → Child → A
  pub join : A → A → A → A

-- what names stand for, with one changed
abbrev pub put_cell : Heap → ℕ → Cell → ℕ → Cell
put_cell h b c x = if x == b then c else h.cells x

-- a heap in which a name stands for something else
abbrev pub with_cell : Heap → ℕ → Cell → Heap
with_cell h b c = record { cells = put_cell h b c; claimed = h.claimed; cap = h.cap }

-- whether a name was never made
abbrev pub is_never : Cell → Bool
is_never Never = true
is_never (Live ws) = false
is_never Freed = false

-- whether a name lies in 1 to the capacity and was never made
abbrev pub is_new : Heap → ℕ → Bool
is_new h x = nat_lt 0 x && nat_le x h.cap && is_never (h.cells x)

-- a heap with a new block of these words
abbrev pub with_words : Heap → ℕ → List ℕ → Heap
with_words h x ws = record { cells = put_cell h x (Live ws); claimed = h.claimed + length ws + 1; cap = h.cap }

-- a heap with a new block of zeros
abbrev pub with_block : Heap → ℕ → ℕ → Heap
with_block h x n = record { cells = put_cell h x (Live (replicate n 0)); claimed = h.claimed + n + 1; cap = h.cap }

-- a heap in which no name was made yet
abbrev pub no_blocks : ℕ → Heap
no_blocks cap = record { cells = λ b. Never; claimed = 0; cap = cap }

-- a heap in which these blocks were made, one after the other
abbrev pub with_blocks : Heap → List (ℕ × List ℕ) → Heap
with_blocks h [] = h
with_blocks h (b ∷ bs) = with_blocks (with_words h b.0 b.1) bs

-- the words that these blocks claim
abbrev pub claims : List (ℕ × List ℕ) → ℕ
claims [] = 0
claims (b ∷ bs) = length b.1 + 1 + claims bs

-- whether an `alloc` of so many words may be made
abbrev pub Room : Type 0
Room = Heap → ℕ → Bool

-- the capacity is tested, in whole numbers without wrapping
abbrev pub has_room : Room
has_room h n = nat_le (h.claimed + n + 1) h.cap

-- the capacity is not tested
abbrev pub any_room : Room
any_room h n = true

-- an `alloc` that may be made is of a block that is shorter than the capacity: so it is where the capacity is tested, and not where it is not
abbrev pub IsSized : Room → Type 0
IsSized room = (h : Heap) (n : ℕ) → room h n ≡ true → n < h.cap

module _ {A : Type 0} (N : Notes A) where
  -- a load: stuck where the block is not live or the index is not below its length
  abbrev pub read_cell : Cell → ℕ → A → (ℕ → Stack) → Heap → Answer A
  read_cell Never i a k h = Stuck Block
  read_cell Freed i a k h = Stuck Block
  read_cell (Live ws) i a k h = if nat_lt i (length ws) then Moved (Leaf a (k (slice_index ws i))) h else Stuck Index

  -- a store, stuck likewise
  abbrev pub write_cell : Cell → ℕ → ℕ → ℕ → A → Stack → Heap → Answer A
  write_cell Never b i v a s h = Stuck Block
  write_cell Freed b i v a s h = Stuck Block
  write_cell (Live ws) b i v a s h = if nat_lt i (length ws) then Moved (Leaf a s) (with_cell h b (Live (slice_set ws i v))) else Stuck Index

  -- a `free`: stuck where the block is not live
  abbrev pub cut_cell : Cell → ℕ → A → Stack → Heap → Answer A
  cut_cell Never b a s h = Stuck Block
  cut_cell Freed b a s h = Stuck Block
  cut_cell (Live ws) b a s h = Moved (Leaf a s) (with_cell h b Freed)

  -- one step of a leaf, with a name for a block that it makes
  abbrev pub perform : Room → A → Act → Heap → ℕ → Answer A
  perform room a (Go s) h x = Moved (Leaf (N.after a (Go s) x) s) h
  perform room a (Read b i k) h x = read_cell (h.cells b) i (N.after a (Read b i k) x) k h
  perform room a (Write b i v s) h x = write_cell (h.cells b) b i v (N.after a (Write b i v s) x) s h
  perform room a (Make n k) h x =
      if room h n
      then (if is_new h x then Moved (Leaf (N.after a (Make n k) x) (k x)) (with_block h x n) else NameUsed)
      else Full
  perform room a (Cut b s) h x = cut_cell (h.cells b) b (N.after a (Cut b s) x) s h
  perform room a (Split l r w) h x = Moved (Fork (N.kept a l r) w (Leaf (N.left a l r) l.stack) (Leaf (N.right a l r) r.stack)) h
  perform room a Over h x = NoSuchLeaf
  perform room a (Bad r) h x = Stuck r

  -- two children that have both ended
  abbrev pub join_ends : A → Wait → A → A → Stack → Stack → Heap → Answer A
  join_ends a w p q (End xs) (End ys) h = Moved (Leaf (N.join a p q) (joined w xs ys)) h
  join_ends a w p q (End xs) (Run f cs) h = NoSuchLeaf
  join_ends a w p q (Run f cs) s h = NoSuchLeaf

  -- the same, where the right child may be a fork
  abbrev pub join_right : A → Wait → A → Stack → Tree A → Heap → Answer A
  join_right a w p s (Leaf q t) h = join_ends a w p q s t h
  join_right a w p s (Fork q v l r) h = NoSuchLeaf

  -- the join of a fork; there is none while a child has not ended
  abbrev pub join_both : A → Wait → Tree A → Tree A → Heap → Answer A
  join_both a w (Leaf p s) r h = join_right a w p s r h
  join_both a w (Fork p v x y) r h = NoSuchLeaf

  -- a step inside a part of a tree
  abbrev pub inside : (Tree A → Tree A) → Answer A → Answer A
  inside f (Moved t h) = Moved (f t) h
  inside f (Stuck r) = Stuck r
  inside f Full = Full
  inside f NoSuchLeaf = NoSuchLeaf
  inside f NameUsed = NameUsed

  -- the machine's step: one instruction of the leaf at a path, or the join of two ended children there; an ended root and a full machine have none
  abbrev pub move : Room → List Proc → Tree A → Heap → List Side → ℕ → Answer A
  move room T (Leaf a s) h [] x = perform room a (act T s) h x
  move room T (Leaf a s) h (d ∷ ds) x = NoSuchLeaf
  move room T (Fork a w l r) h [] x = join_both a w l r h
  move room T (Fork a w l r) h (Left ∷ ds) x = inside (λ t. Fork a w t r) (move room T l h ds x)
  move room T (Fork a w l r) h (Right ∷ ds) x = inside (λ t. Fork a w l t) (move room T r h ds x)

-- the machine alone
abbrev pub nothing : Notes (Unit {0})
nothing = record { after = λ a e x. tt; kept = λ a l r. tt; left = λ a l r. tt; right = λ a l r. tt; join = λ a p q. tt }

-- how many steps each leaf has made
abbrev pub counts : Notes ℕ
counts = record { after = λ a e x. suc a; kept = λ a l r. suc a; left = λ a l r. suc a; right = λ a l r. suc a; join = λ a p q. suc (max p q) }

-- how many forks lie above the deepest leaf
abbrev pub depth : {A : Type 0} → Tree A → ℕ
depth (Leaf a s) = 0
depth (Fork a w l r) = suc (max (depth l) (depth r))
