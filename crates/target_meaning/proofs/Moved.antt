-- What a step that was made leads to.
use Rattle.std.proofs.Common.{◌≡◌, ℕ, Bool, true, false, cond}
use Rattle.std.proofs.lemmas.Bool.{cond_both}
use Rattle.target_meaning.specs.Machine.{Heap, Tree, Answer, Moved, Stuck, Full, NoSuchLeaf, NameUsed, Notes, inside}
use Rattle.target_meaning.specs.Runs.{OnMoved, and_then}

pub moved_map : {A : Type 0} (a : Answer A) (P R : Tree A → Heap → Type 0) → ((t : Tree A) (h : Heap) → P t h → R t h) → OnMoved a P → OnMoved a R
moved_map (Moved t h) P R f m = f t h m
moved_map (Stuck r) P R f m = tt
moved_map Full P R f m = tt
moved_map NoSuchLeaf P R f m = tt
moved_map NameUsed P R f m = tt

pub moved_inside : {A : Type 0} (N : Notes A) (a : Answer A) (g : Tree A → Tree A) (P : Tree A → Heap → Type 0) → OnMoved a (λ t h. P (g t) h) → OnMoved (inside N g a) P
moved_inside N (Moved t h) g P m = m
moved_inside N (Stuck r) g P m = tt
moved_inside N Full g P m = tt
moved_inside N NoSuchLeaf g P m = tt
moved_inside N NameUsed g P m = tt

-- two answers of a test
pub moved_if : {A : Type 0} (b : Bool) (x y : Answer A) (P : Tree A → Heap → Type 0) → (b ≡ true → OnMoved x P) → (b ≡ false → OnMoved y P) → OnMoved (cond b x y) P
moved_if b x y P f g = cond_both b x y (λ a. OnMoved a P) f g

pub moved_all : {A : Type 0} (a : Answer A) (P : ℕ → Tree A → Heap → Type 0) → ((n : ℕ) → OnMoved a (P n)) → OnMoved a (λ t h. (n : ℕ) → P n t h)
moved_all (Moved t h) P m = m
moved_all (Stuck r) P m = tt
moved_all Full P m = tt
moved_all NoSuchLeaf P m = tt
moved_all NameUsed P m = tt

pub moved_both : {A : Type 0} (a : Answer A) (P R S : Tree A → Heap → Type 0) → ((t : Tree A) (h : Heap) → P t h → R t h → S t h) → OnMoved a P → OnMoved a R → OnMoved a S
moved_both (Moved t h) P R S f m n = f t h m n
moved_both (Stuck r) P R S f m n = tt
moved_both Full P R S f m n = tt
moved_both NoSuchLeaf P R S f m n = tt
moved_both NameUsed P R S f m n = tt

pub moved_then : {A : Type 0} (a : Answer A) (k : Tree A → Heap → Answer A) (P : Tree A → Heap → Type 0) → OnMoved a (λ t h. OnMoved (k t h) P) → OnMoved (and_then a k) P
moved_then (Moved t h) k P m = m
moved_then (Stuck r) k P m = tt
moved_then Full k P m = tt
moved_then NoSuchLeaf k P m = tt
moved_then NameUsed k P m = tt
