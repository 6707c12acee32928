-- Maps of notes, of trees and of answers.
use Rattle.std.specs.Prelude.{◌≡◌, ℕ}
use Rattle.target_meaning.specs.Leaf.{Act, Child}
use Rattle.target_meaning.specs.Machine.{Tree, Leaf, Fork, Answer, Moved, Stuck, Full, NoSuchLeaf, NameUsed, Notes}

-- a function takes what becomes of the first notes to what becomes of the second ones
pub record IsMap {A B : Type 0} (N : Notes A) (M : Notes B) (f : A → B) : Type 0 where
  pub after : (a : A) (e : Act) (x : ℕ) → f (N.after a e x) ≡ M.after (f a) e x
  pub kept : (a : A) (l r : Child) → f (N.kept a l r) ≡ M.kept (f a) l r
  pub left : (a : A) (l r : Child) → f (N.left a l r) ≡ M.left (f a) l r
  pub right : (a : A) (l r : Child) → f (N.right a l r) ≡ M.right (f a) l r
  pub join : (a p q : A) → f (N.join a p q) ≡ M.join (f a) (f p) (f q)

-- a tree with other notes
abbrev pub tree_map : {A B : Type 0} → (A → B) → Tree A → Tree B
tree_map f (Leaf a s) = Leaf (f a) s
tree_map f (Fork a w l r) = Fork (f a) w (tree_map f l) (tree_map f r)

-- an answer with other notes
abbrev pub answer_map : {A B : Type 0} → (A → B) → Answer A → Answer B
answer_map f (Moved t h) = Moved (tree_map f t) h
answer_map f (Stuck r) = Stuck r
answer_map f Full = Full
answer_map f NoSuchLeaf = NoSuchLeaf
answer_map f NameUsed = NameUsed
