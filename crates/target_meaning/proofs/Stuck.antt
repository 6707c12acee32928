-- Leaves that are fine are not stuck.
use Rattle.std.proofs.Common.{◌≡◌, ℕ, suc, Bool, true, false, cond, List, [], ◌∷◌, length, lt-ltb}
use Rattle.std.proofs.lemmas.Option.{slice_get_within}
use Rattle.std.specs.Prelude.{Some, nat_lt}
use Rattle.target_code.specs.declared.tree.Proc.{Proc}
use Rattle.target_meaning.specs.declared.path.Side.{Side}
use Rattle.target_meaning.specs.declared.path.Side.TheVariants.{Left, Right}
use Rattle.target_meaning.specs.Leaf.{Stack, Run, End, Wait, Act, Go, Read, Write, Make, Cut, Split, Over, Bad, act}
use Rattle.target_meaning.specs.Machine.{Heap, Cell, Never, Live, Freed, Tree, Leaf, Fork, Answer, Moved, Stuck, Full, NoSuchLeaf, NameUsed, Room, is_new, read_cell, write_cell, cut_cell, perform, join_both, move, inside}
use Rattle.target_meaning.specs.Piece.{Share, Nil, Some_of, Clash, Piece, plus, at_place, Fits, Holds}
use Rattle.target_meaning.specs.Held.{holdings, total, IsHeld, Fine, AllFine}
use Rattle.target_meaning.specs.Runs.{IsNoStuck, bare_answer}
use Rattle.target_meaning.proofs.Shares.{holds_left, holds_right}
use Rattle.target_meaning.proofs.Races.{whole_held, all_held}

if_free : {A : Type 0} (b : Bool) (x y : Answer A) → b ≡ true → IsNoStuck x → IsNoStuck (cond b x y)
if_free true x y e f = f
if_free false x y e f = absurd (let z : ⊥ = cc e in z)

-- a place that is held is there
held_there : (b : Share) (c : Cell) (j : ℕ) → IsHeld b → Fits b (at_place c j) → (v : ℕ) × (at_place c j ≡ Some v)
held_there Nil c j w f = absurd w
held_there (Some_of v k) c j w f = (v, f.0)
held_there Clash c j w f = absurd w

module _ (room : Room) (p : Piece) (h : Heap) (x : ℕ) (hs : Holds p h) where
  read_free : (c : Cell) (i v : ℕ) (k : ℕ → Stack) → at_place c (suc i) ≡ Some v → IsNoStuck (read_cell holdings c i p k h)
  read_free Never i v k e = cc e
  read_free Freed i v k e = cc e
  read_free (Live ws) i v k e = if_free (nat_lt i (length ws)) _ _ (lt-ltb i (length ws) (slice_get_within ws i v e)) tt

  write_free : (c : Cell) (b i v u : ℕ) (q : Piece) (s : Stack) → at_place c (suc i) ≡ Some u → IsNoStuck (write_cell holdings c b i v q s h)
  write_free Never b i v u q s e = cc e
  write_free Freed b i v u q s e = cc e
  write_free (Live ws) b i v u q s e = if_free (nat_lt i (length ws)) _ _ (lt-ltb i (length ws) (slice_get_within ws i u e)) tt

  cut_free : (c : Cell) (b u : ℕ) (q : Piece) (s : Stack) → at_place c 0 ≡ Some u → IsNoStuck (cut_cell holdings c b q s h)
  cut_free Never b u q s e = cc e
  cut_free Freed b u q s e = cc e
  cut_free (Live ws) b u q s e = tt

  make_free : (c d : Bool) (t : Tree Piece) (g : Heap) → IsNoStuck (cond c (cond d (Moved t g) NameUsed) Full)
  make_free true true t g = tt
  make_free true false t g = tt
  make_free false d t g = tt

  perform_free : (f : ℕ) (a : Act) → Fine f a p → IsNoStuck (perform holdings room p a h x)
  perform_free f (Go s) w = tt
  perform_free f (Read b i k) w = let v = held_there (p b (suc i)) (h.cells b) (suc i) w (hs.places b (suc i)) in read_free (h.cells b) i v.0 k v.1
  perform_free f (Write b i v s) w = let u = held_there (p b (suc i)) (h.cells b) (suc i) (whole_held (p b (suc i)) w) (hs.places b (suc i)) in write_free (h.cells b) b i v u.0 _ s u.1
  perform_free f (Make n k) w = make_free (room h n) (is_new h x) _ _
  perform_free f (Cut b s) w = let u = held_there (p b 0) (h.cells b) 0 (all_held (p b 0) (p b) w) (hs.places b 0) in cut_free (h.cells b) b u.0 _ s u.1
  perform_free f (Split l r v) w = tt
  perform_free f Over w = tt
  perform_free f (Bad r) w = w

inside_free : (a : Answer Piece) (g : Tree Piece → Tree Piece) → IsNoStuck a → IsNoStuck (inside holdings g a)
inside_free (Moved t h) g w = tt
inside_free (Stuck r) g w = w
inside_free Full g w = tt
inside_free NoSuchLeaf g w = tt
inside_free NameUsed g w = tt

join_free : (k : Piece) (w : Wait) (l r : Tree Piece) (h : Heap) → IsNoStuck (join_both holdings k w l r h)
join_free k w (Leaf p (End xs)) (Leaf q (End ys)) h = tt
join_free k w (Leaf p (End xs)) (Leaf q (Run f cs)) h = tt
join_free k w (Leaf p (Run f cs)) (Leaf q t) h = tt
join_free k w (Leaf p s) (Fork q v x y) h = tt
join_free k w (Fork p v x y) r h = tt

-- no leaf is stuck
pub no_stuck : (room : Room) (T : List Proc) (f : ℕ) (t : Tree Piece) (h : Heap) (path : List Side) (x : ℕ) → AllFine T f t → Holds (total t) h → IsNoStuck (move holdings room T t h path x)
no_stuck room T f (Leaf p s) h [] x fine hs = perform_free room p h x hs f (act T s) fine
no_stuck room T f (Leaf p s) h (d ∷ ds) x fine hs = tt
no_stuck room T f (Fork k w l r) h [] x fine hs = join_free k w l r h
no_stuck room T f (Fork k w l r) h (Left ∷ ds) x fine hs =
    inside_free (move holdings room T l h ds x) _ (no_stuck room T (suc f) l h ds x fine.0 (holds_left (total l) (total r) h (holds_right k (plus (total l) (total r)) h hs)))
no_stuck room T f (Fork k w l r) h (Right ∷ ds) x fine hs =
    inside_free (move holdings room T r h ds x) _ (no_stuck room T (suc f) r h ds x fine.1 (holds_right (total l) (total r) h (holds_right k (plus (total l) (total r)) h hs)))

pub stuck_bare : {A : Type 0} (a : Answer A) → IsNoStuck a → IsNoStuck (bare_answer a)
stuck_bare (Moved t h) w = tt
stuck_bare (Stuck r) w = w
stuck_bare Full w = tt
stuck_bare NoSuchLeaf w = tt
stuck_bare NameUsed w = tt
