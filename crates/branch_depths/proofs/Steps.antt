-- A step of a leaf as the machine makes it.
use Rattle.std.proofs.Common.{◌≡◌, ◌≢◌, ℕ, zero, suc, ◌+◌, ◌<◌, Bool, true, false, cond, ◌&&◌, List, [], ◌∷◌, ◌++◌, length, replicate, refl, sym, ap, ◌∙◌, subst, arith, eqb, ltb-true, lt-ltb, ne_eqb}
use Rattle.std.proofs.lemmas.Bool.{cond-true, cond-false}
use Rattle.std.specs.Prelude.{nat_lt, nat_le, slice_set}
use Rattle.target_code.specs.declared.tree.Proc.{Proc}
use Rattle.target_meaning.specs.Leaf.{Stack, Act, Go, Read, Write, Make, Cut, Split, Over, Bad, act}
use Rattle.target_meaning.specs.Machine.{Heap, Cell, Never, Live, Freed, Tree, Leaf, Answer, Moved, Stuck, Full, NoSuchLeaf, NameUsed, Room, IsSized, any_room, with_cell, with_block, is_never, is_new, read_cell, write_cell, cut_cell, perform}
use Rattle.target_meaning.specs.Runs.{OnMoved, HasMoved}
use Rattle.target_meaning.specs.LeftFirst.{first_name, other_names, names_after}
use Rattle.target_meaning.specs.Piece.{Piece, Holds, plus}
use Rattle.target_meaning.specs.Held.{holdings, total}
use Rattle.target_meaning.proofs.Keeps.{Kept, leaf_keeps, new_is}
use Rattle.target_meaning.proofs.Moved.{moved_if}
use Rattle.target_meaning.proofs.Shares.{holds_left}
use Rattle.branch_exec.specs.Legs.{Step}
use Rattle.branch_exec.specs.Meaning.{name_in, AreNew}
use Rattle.branch_exec.specs.Branches.{Names}
use Rattle.branch_exec.specs.LeftRuns.{names_of, NotAmong, Fresh, After}
use Rattle.branch_exec.proofs.Held.{step_is}
use Rattle.branch_exec.proofs.Made.{step_made}

pub after_none : (h : Heap) → After h [] h
after_none h = record { cap = refl; claimed = let e : h.claimed ≡ h.claimed + 0 = omega arith in e; new = λ y n e. e }

-- one step of a leaf
live_not : (h : Heap) (y : ℕ) (ws : List ℕ) → is_new h y ≡ true → h.cells y ≡ Live ws → ⊥
live_not h y ws n e = let f : Never ≡ Live ws = sym (new_is h y n) ∙ e in cc f

cell_new : (h : Heap) (b y : ℕ) (c : Cell) → y ≢ b → is_new h y ≡ true → is_new (with_cell h b c) y ≡ true
cell_new h b y c ne e = ap (λ d. nat_lt 0 y && nat_le y h.cap && is_never d) (cond-false (eqb y b) c (h.cells y) (ne_eqb y b ne)) ∙ e

after_cell : (h : Heap) (b : ℕ) (c : Cell) (ws : List ℕ) → h.cells b ≡ Live ws → After h [] (with_cell h b c)
after_cell h b c ws e = record {
  cap = refl;
  claimed = let f : h.claimed ≡ h.claimed + 0 = omega arith in f;
  new = λ y n f. cell_new h b y c (λ d. live_not h y ws f (ap h.cells d ∙ e)) f;
}

after_block : (h : Heap) (x n : ℕ) → After h ((x, n) ∷ []) (with_block h x n)
after_block h x n = record {
  cap = refl;
  claimed = let f : h.claimed + n + 1 ≡ h.claimed + (n + 1 + 0) = omega arith in f;
  new = λ y m f. cell_new h x y (Live (replicate n 0)) m.0 f;
}

abbrev Afterwards : Heap → Names → Tree Piece → Heap → Type 0
Afterwards h xs t g = After h xs g

after_read : (c : Cell) (i : ℕ) (p : Piece) (k : ℕ → Stack) (h : Heap) → OnMoved (read_cell holdings c i p k h) (Afterwards h [])
after_read Never i p k h = tt
after_read Freed i p k h = tt
after_read (Live ws) i p k h = moved_if (nat_lt i (length ws)) _ _ (Afterwards h []) (λ e. after_none h) (λ e. tt)

after_write : (c : Cell) (b i v : ℕ) (p : Piece) (s : Stack) (h : Heap) → h.cells b ≡ c → OnMoved (write_cell holdings c b i v p s h) (Afterwards h [])
after_write Never b i v p s h e = tt
after_write Freed b i v p s h e = tt
after_write (Live ws) b i v p s h e = moved_if (nat_lt i (length ws)) _ _ (Afterwards h []) (λ d. after_cell h b (Live (slice_set ws i v)) ws e) (λ d. tt)

after_cut : (c : Cell) (b : ℕ) (p : Piece) (s : Stack) (h : Heap) → h.cells b ≡ c → OnMoved (cut_cell holdings c b p s h) (Afterwards h [])
after_cut Never b p s h e = tt
after_cut Freed b p s h e = tt
after_cut (Live ws) b p s h e = after_cell h b Freed ws e

-- a room in which a block is shorter than the capacity
abbrev short_room : Room
short_room h n = nat_lt n h.cap

short_sized : IsSized short_room
short_sized h n e = ltb-true n h.cap e

module _ (p q : Piece) (xs : Names) (u : Stack) (h : Heap) where
  -- the step is the same with any name behind those that it draws
  pub same_name : (a : Act) (ns : List ℕ) → Step a p xs q u → perform holdings any_room p a h (first_name (names_of xs ++ ns)) ≡ perform holdings any_room p a h (name_in xs)
  same_name (Go s) ns st = refl
  same_name (Read b i k) ns st = refl
  same_name (Write b i v s) ns st = refl
  same_name (Make n k) ns st =
      ap (perform holdings any_room p (Make n k) h) (ap (λ l. first_name (names_of l ++ ns)) st.1 ∙ sym (ap name_in st.1))
  same_name (Cut b s) ns st = refl
  same_name (Split l r w) ns st = absurd st
  same_name Over ns st = absurd st
  same_name (Bad r) ns st = absurd st

  pub names_drawn : (a : Act) (ns : List ℕ) → Step a p xs q u → names_after a (names_of xs ++ ns) ≡ ns
  names_drawn (Go s) ns st = ap (λ l. names_of l ++ ns) st.0
  names_drawn (Read b i k) ns st = ap (λ l. names_of l ++ ns) st.2
  names_drawn (Write b i v s) ns st = ap (λ l. names_of l ++ ns) st.1
  names_drawn (Make n k) ns st = ap (λ l. other_names (names_of l ++ ns)) st.1
  names_drawn (Cut b s) ns st = ap (λ l. names_of l ++ ns) st.1
  names_drawn (Split l r w) ns st = absurd st
  names_drawn Over ns st = absurd st
  names_drawn (Bad r) ns st = absurd st

  same_room : (a : Act) (x : ℕ) → Fresh h xs → Step a p xs q u → perform holdings any_room p a h x ≡ perform holdings short_room p a h x
  same_room (Go s) x f st = refl
  same_room (Read b i k) x f st = refl
  same_room (Write b i v s) x f st = refl
  same_room (Make n k) x f st =
      let g : Fresh h ((st.0, n) ∷ []) = subst (Fresh h) st.1 f in
      sym (cond-true (nat_lt n h.cap) _ Full (lt-ltb n h.cap g.1))
  same_room (Cut b s) x f st = refl
  same_room (Split l r w) x f st = absurd st
  same_room Over x f st = absurd st
  same_room (Bad r) x f st = absurd st

  step_after : (a : Act) → Step a p xs q u → OnMoved (perform holdings any_room p a h (name_in xs)) (Afterwards h xs)
  step_after (Go s) st = subst (λ l. After h l h) (sym st.0) (after_none h)
  step_after (Read b i k) st = subst (λ l. OnMoved (read_cell holdings (h.cells b) i p k h) (Afterwards h l)) (sym st.2) (after_read (h.cells b) i p k h)
  step_after (Write b i v s) st = subst (λ l. OnMoved (write_cell holdings (h.cells b) b i v (holdings.after p (Write b i v s) 0) s h) (Afterwards h l)) (sym st.1) (after_write (h.cells b) b i v _ s h refl)
  step_after (Make n k) st =
      subst (λ l. OnMoved (perform holdings any_room p (Make n k) h (name_in l)) (Afterwards h l)) (sym st.1)
      (moved_if (is_new h st.0) _ NameUsed (Afterwards h ((st.0, n) ∷ [])) (λ e. after_block h st.0 n) (λ e. tt))
  step_after (Cut b s) st = subst (λ l. OnMoved (cut_cell holdings (h.cells b) b (holdings.after p (Cut b s) 0) s h) (Afterwards h l)) (sym st.1) (after_cut (h.cells b) b _ s h refl)
  step_after (Split l r w) st = absurd st
  step_after Over st = absurd st
  step_after (Bad r) st = absurd st

-- a step that was made, with all that is known of it
pub record Made (a : Answer Piece) (q : Piece) (u : Stack) (f : Piece) (h : Heap) (xs : Names) : Type 0 where
  pub heap : Heap
  pub is : a ≡ Moved (Leaf q u) heap
  pub holds : Holds (plus q f) heap
  pub after : After h xs heap

made_by : (a : Answer Piece) (q : Piece) (u : Stack) (f : Piece) (h : Heap) (xs : Names) → HasMoved a (λ t g. t ≡ Leaf q u) → OnMoved a (Kept f) → OnMoved a (Afterwards h xs) → Made a q u f h xs
made_by (Moved t g) q u f h xs e k w = record { heap = g; is = ap (λ x. Moved x g) e; holds = subst (λ x. Holds (plus (total x) f) g) e k; after = w }
made_by (Stuck r) q u f h xs e k w = absurd e
made_by Full q u f h xs e k w = absurd e
made_by NoSuchLeaf q u f h xs e k w = absurd e
made_by NameUsed q u f h xs e k w = absurd e

new_ones : (h : Heap) (xs : Names) → Fresh h xs → AreNew h xs
new_ones h [] f = tt
new_ones h (x ∷ xs) f = (f.0, new_ones h xs f.3)

pub leaf_made : (T : List Proc) (s : Stack) (p q : Piece) (xs : Names) (u : Stack) (f : Piece) (h : Heap) → Step (act T s) p xs q u → Holds (plus p f) h → Fresh h xs → Made (perform holdings any_room p (act T s) h (name_in xs)) q u f h xs
leaf_made T s p q xs u f h st hs n =
    made_by (perform holdings any_room p (act T s) h (name_in xs)) q u f h xs
    (step_made T s p q xs u h st (holds_left p f h hs) (new_ones h xs n))
    (subst (λ a. OnMoved a (Kept f)) (sym (same_room p q xs u h (act T s) (name_in xs) n st))
    (leaf_keeps short_room short_sized p f h (name_in xs) hs 0 (act T s) (step_is 0 (act T s) s p q xs u st).0))
    (step_after p q xs u h (act T s) st)
