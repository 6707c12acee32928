-- The run of a branch is the left-first run of the machine.
use Rattle.std.proofs.Common.{◌≡◌, ◌≢◌, ℕ, zero, suc, ◌+◌, ◌<◌, ◌≤◌, max, Bool, true, false, cond, ◌&&◌, List, [], ◌∷◌, ◌++◌, length, replicate, refl, sym, ap, ◌∙◌, subst, arith, ◌⊎◌, ⊎_elim, eqb, eq-eqb, ltb-true, lt-ltb, append_assoc, ne_eqb}
use Rattle.std.proofs.lemmas.Bool.{cond-true, cond-false}
use Rattle.std.proofs.lemmas.List.{length-replicate}
use Rattle.std.specs.Prelude.{nat_lt, nat_le, slice_set, slice_index}
use Rattle.target_code.specs.declared.tree.Proc.{Proc}
use Rattle.target_meaning.specs.declared.path.Side.{Side}
use Rattle.target_meaning.specs.declared.path.Side.TheVariants.{Left, Right}
use Rattle.target_meaning.specs.Leaf as leaf
use Rattle.target_meaning.specs.Leaf.{Stack, Run, End, Wait, Child, Act, Go, Read, Write, Make, Cut, Split, Over, Bad, act, joined}
use Rattle.target_meaning.specs.Machine.{Heap, Cell, Never, Live, Freed, Tree, Leaf, Fork, Answer, Moved, Stuck, Full, NoSuchLeaf, NameUsed, Notes, Room, IsSized, any_room, counts, nothing, put_cell, with_cell, with_block, is_never, is_new, read_cell, write_cell, cut_cell, perform, join_both, move, inside}
use Rattle.target_meaning.specs.Runs.{and_then, OnMoved, HasMoved}
use Rattle.target_meaning.specs.LeftFirst.{has_ended, left_path, act_at, first_name, other_names, names_after, left_first}
use Rattle.target_meaning.specs.Piece.{Piece, Holds, plus}
use Rattle.target_meaning.specs.Held.{holdings, total, all_given, all_kept, left_takes, right_takes}
use Rattle.target_meaning.proofs.Keeps.{Kept, fork_sum, left_out, right_out, leaf_keeps, new_is}
use Rattle.target_meaning.proofs.Moved.{moved_if}
use Rattle.target_meaning.proofs.Shares.{holds_left}
use Rattle.branch_exec.specs.Legs.{Step}
use Rattle.branch_exec.specs.Meaning.{name_in, AreNew, IsMade}
use Rattle.branch_exec.specs.Branches.{Runner, Names, Way, Forked, Stepped, Move, Moves, Then, Runs, Deep, Branch, left_child, right_child, after_join, CanFork}
use Rattle.branch_exec.specs.LeftRuns.{names_of, claimed_by, NotAmong, Fresh, After, marked, LeftRun, DoneLeft}
use Rattle.branch_exec.specs.Stores as stores
use Rattle.branch_exec.specs.Went.{runner, EndIs}
use Rattle.branch_exec.specs.declared.end.BranchEnd.TheVariants.{Done}
use Rattle.target_meaning.specs.declared.stack.Stack as code
use Rattle.branch_exec.proofs.Held.{step_is}
use Rattle.branch_exec.proofs.Made.{step_made}
use Rattle.run_notes.proofs.Mapped.{perform_map, left_map}
use Rattle.run_notes.specs.Maps.{IsMap, tree_map, answer_map}

-- one step of a left-first run, with the names that are left
pub record Once {A : Type 0} (N : Notes A) (T : List Proc) (ns : List ℕ) (t : Tree A) (h : Heap) (ms : List ℕ) (u : Tree A) (g : Heap) : Type 0 where
  pub moved : move N any_room T t h (left_path t) (first_name ns) ≡ Moved u g
  pub names : names_after (act_at T t (left_path t)) ns ≡ ms

pub record More {A : Type 0} (One Rest : List ℕ → Tree A → Heap → List ℕ → Tree A → Heap → Type 0) (ns : List ℕ) (t : Tree A) (h : Heap) (ms : List ℕ) (u : Tree A) (g : Heap) : Type 0 where
  pub tree : Tree A
  pub heap : Heap
  pub names : List ℕ
  pub one : One ns t h names tree heap
  pub rest : Rest names tree heap ms u g

-- so many steps
abbrev pub Lefts : {A : Type 0} → Notes A → List Proc → ℕ → List ℕ → Tree A → Heap → List ℕ → Tree A → Heap → Type 0
Lefts N T zero ns t h ms u g = (ns ≡ ms) × (t ≡ u) × (h ≡ g)
Lefts N T (suc n) ns t h ms u g = More (Once N T) (Lefts N T n) ns t h ms u g

-- some number of steps
pub record Some_lefts {A : Type 0} (N : Notes A) (T : List Proc) (ns : List ℕ) (t : Tree A) (h : Heap) (ms : List ℕ) (u : Tree A) (g : Heap) : Type 0 where
  pub number : ℕ
  pub lefts : Lefts N T number ns t h ms u g

module _ {A : Type 0} (N : Notes A) (T : List Proc) where
  pub lefts_run : (n : ℕ) (ns : List ℕ) (t : Tree A) (h : Heap) (ms : List ℕ) (u : Tree A) (g : Heap) → Lefts N T n ns t h ms u g → left_first N T n ns t h ≡ Moved u g
  lefts_run zero ns t h ms u g l = ap (λ x. Moved x h) l.1 ∙ ap (Moved u) l.2
  lefts_run (suc n) ns t h ms u g l =
      ap (λ a. and_then a (λ x y. left_first N T n (names_after (act_at T t (left_path t)) ns) x y)) l.one.moved
      ∙ (ap (λ m. left_first N T n m l.tree l.heap) l.one.names
      ∙ lefts_run n l.names l.tree l.heap ms u g l.rest)

  then_lefts : (n : ℕ) (ns : List ℕ) (t : Tree A) (h : Heap) (ms : List ℕ) (u : Tree A) (g : Heap) (ks : List ℕ) (v : Tree A) (k : Heap) → Lefts N T n ns t h ms u g → Some_lefts N T ms u g ks v k → Some_lefts N T ns t h ks v k
  then_lefts zero ns t h ms u g ks v k l r =
      subst (λ x. Some_lefts N T x t h ks v k) (sym l.0) (subst (λ x. Some_lefts N T ms x h ks v k) (sym l.1) (subst (λ x. Some_lefts N T ms u x ks v k) (sym l.2) r))
  then_lefts (suc n) ns t h ms u g ks v k l r =
      let rest = then_lefts n l.names l.tree l.heap ms u g ks v k l.rest r in
      record { number = suc rest.number; lefts = record { tree = l.tree; heap = l.heap; names = l.names; one = l.one; rest = rest.lefts } }

  pub lefts_then : (ns : List ℕ) (t : Tree A) (h : Heap) (ms : List ℕ) (u : Tree A) (g : Heap) (ks : List ℕ) (v : Tree A) (k : Heap) → Some_lefts N T ns t h ms u g → Some_lefts N T ms u g ks v k → Some_lefts N T ns t h ks v k
  lefts_then ns t h ms u g ks v k l r = then_lefts l.number ns t h ms u g ks v k l.lefts r

  pub lefts_none : (ns : List ℕ) (t : Tree A) (h : Heap) → Some_lefts N T ns t h ns t h
  lefts_none ns t h = record { number = 0; lefts = (refl, refl, refl) }

  pub lefts_one : (ns : List ℕ) (t : Tree A) (h : Heap) (ms : List ℕ) (u : Tree A) (g : Heap) → Once N T ns t h ms u g → Some_lefts N T ns t h ms u g
  lefts_one ns t h ms u g o = record { number = 1; lefts = record { tree = u; heap = g; names = ms; one = o; rest = (refl, refl, refl) } }

  -- what moves has not ended
  not_ended : (t : Tree A) (h : Heap) (x : ℕ) (u : Tree A) (g : Heap) → move N any_room T t h (left_path t) x ≡ Moved u g → has_ended t ≡ false
  not_ended (Leaf a (End vs)) h x u g e = cc e
  not_ended (Leaf a (Run f cs)) h x u g e = refl
  not_ended (Fork a w l r) h x u g e = refl

  -- inside a fork
  once_left : (a : A) (w : Wait) (r : Tree A) (ns : List ℕ) (t : Tree A) (h : Heap) (ms : List ℕ) (u : Tree A) (g : Heap) → Once N T ns t h ms u g → Once N T ns (Fork a w t r) h ms (Fork a w u r) g
  once_left a w r ns t h ms u g o =
      let path : left_path (Fork a w t r) ≡ Left ∷ left_path t = cond-false (has_ended t) _ _ (not_ended t h (first_name ns) u g o.moved) in
      record {
        moved = ap (λ p. move N any_room T (Fork a w t r) h p (first_name ns)) path ∙ ap (inside N (λ x. Fork a w x r)) o.moved;
        names = ap (λ p. names_after (act_at T (Fork a w t r) p) ns) path ∙ o.names;
      }

  once_right : (a : A) (w : Wait) (l : Tree A) → has_ended l ≡ true → (ns : List ℕ) (t : Tree A) (h : Heap) (ms : List ℕ) (u : Tree A) (g : Heap) → Once N T ns t h ms u g → Once N T ns (Fork a w l t) h ms (Fork a w l u) g
  once_right a w l e ns t h ms u g o =
      let path : left_path (Fork a w l t) ≡ Right ∷ left_path t = cond-true (has_ended l) _ _ e ∙ cond-false (has_ended t) _ _ (not_ended t h (first_name ns) u g o.moved) in
      record {
        moved = ap (λ p. move N any_room T (Fork a w l t) h p (first_name ns)) path ∙ ap (inside N (λ x. Fork a w l x)) o.moved;
        names = ap (λ p. names_after (act_at T (Fork a w l t) p) ns) path ∙ o.names;
      }

  pub lift_left : (n : ℕ) (a : A) (w : Wait) (r : Tree A) (ns : List ℕ) (t : Tree A) (h : Heap) (ms : List ℕ) (u : Tree A) (g : Heap) → Lefts N T n ns t h ms u g → Lefts N T n ns (Fork a w t r) h ms (Fork a w u r) g
  lift_left zero a w r ns t h ms u g l = (l.0, ap (λ x. Fork a w x r) l.1, l.2)
  lift_left (suc n) a w r ns t h ms u g l = record {
    tree = Fork a w l.tree r;
    heap = l.heap;
    names = l.names;
    one = once_left a w r ns t h l.names l.tree l.heap l.one;
    rest = lift_left n a w r l.names l.tree l.heap ms u g l.rest;
  }

  pub lift_right : (n : ℕ) (a : A) (w : Wait) (l : Tree A) → has_ended l ≡ true → (ns : List ℕ) (t : Tree A) (h : Heap) (ms : List ℕ) (u : Tree A) (g : Heap) → Lefts N T n ns t h ms u g → Lefts N T n ns (Fork a w l t) h ms (Fork a w l u) g
  lift_right zero a w l e ns t h ms u g r = (r.0, ap (λ x. Fork a w l x) r.1, r.2)
  lift_right (suc n) a w l e ns t h ms u g r = record {
    tree = Fork a w l r.tree;
    heap = r.heap;
    names = r.names;
    one = once_right a w l e ns t h r.names r.tree r.heap r.one;
    rest = lift_right n a w l e r.names r.tree r.heap ms u g r.rest;
  }

-- names
pub names_append : (xs ys : Names) (ns : List ℕ) → names_of (xs ++ ys) ++ ns ≡ names_of xs ++ (names_of ys ++ ns)
names_append [] ys ns = refl
names_append (x ∷ xs) ys ns = ap (λ l. x.0 ∷ l) (names_append xs ys ns)

claimed_append : (xs ys : Names) → claimed_by (xs ++ ys) ≡ claimed_by xs + claimed_by ys
claimed_append [] ys = let e : claimed_by ys ≡ 0 + claimed_by ys = omega arith in e
claimed_append (x ∷ xs) ys = let e = claimed_append xs ys in omega arith

among_left : (y : ℕ) (xs ys : Names) → NotAmong y (xs ++ ys) → NotAmong y xs
among_left y [] ys n = tt
among_left y (x ∷ xs) ys n = (n.0, among_left y xs ys n.1)

among_right : (y : ℕ) (xs ys : Names) → NotAmong y (xs ++ ys) → NotAmong y ys
among_right y [] ys n = n
among_right y (x ∷ xs) ys n = among_right y xs ys n.1

pub fresh_left : (h : Heap) (xs ys : Names) → Fresh h (xs ++ ys) → Fresh h xs
fresh_left h [] ys f = tt
fresh_left h (x ∷ xs) ys f = (f.0, f.1, among_left x.0 xs ys f.2, fresh_left h xs ys f.3)

-- no name of these is among the others
abbrev Avoids : Names → Names → Type 0
Avoids xs [] = Unit {0}
Avoids xs (y ∷ ys) = NotAmong y.0 xs × Avoids xs ys

avoids_none : (ys : Names) → Avoids [] ys
avoids_none [] = tt
avoids_none (y ∷ ys) = (tt, avoids_none ys)

avoids_one : (x : ℕ × ℕ) (xs ys : Names) → NotAmong x.0 ys → Avoids xs ys → Avoids (x ∷ xs) ys
avoids_one x xs [] n a = tt
avoids_one x xs (y ∷ ys) n a = ((λ e. n.0 (sym e), a.0), avoids_one x xs ys n.1 a.1)

fresh_avoids : (h : Heap) (xs ys : Names) → Fresh h (xs ++ ys) → Avoids xs ys
fresh_avoids h [] ys f = avoids_none ys
fresh_avoids h (x ∷ xs) ys f = avoids_one x xs ys (among_right x.0 xs ys f.2) (fresh_avoids h xs ys f.3)

fresh_right : (h : Heap) (xs ys : Names) → Fresh h (xs ++ ys) → Fresh h ys
fresh_right h [] ys f = f
fresh_right h (x ∷ xs) ys f = fresh_right h xs ys f.3

fresh_on : (h g : Heap) (xs ys : Names) → After h xs g → Avoids xs ys → Fresh h ys → Fresh g ys
fresh_on h g xs [] a v f = tt
fresh_on h g xs (y ∷ ys) a v f = (a.new y.0 v.0 f.0, subst (λ c. y.1 < c) (sym a.cap) f.1, f.2, fresh_on h g xs ys a v.1 f.3)

pub fresh_after : (h g : Heap) (xs ys : Names) → After h xs g → Fresh h (xs ++ ys) → Fresh g ys
fresh_after h g xs ys a f = fresh_on h g xs ys a (fresh_avoids h xs ys f) (fresh_right h xs ys f)

after_none : (h : Heap) → After h [] h
after_none h = record { cap = refl; claimed = let e : h.claimed ≡ h.claimed + 0 = omega arith in e; new = λ y n e. e }

pub after_then : (h g k : Heap) (xs ys : Names) → After h xs g → After g ys k → After h (xs ++ ys) k
after_then h g k xs ys a b = record {
  cap = b.cap ∙ a.cap;
  claimed = let e = claimed_append xs ys in let i = a.claimed in let j = b.claimed in omega arith;
  new = λ y n e. b.new y (among_right y xs ys n) (a.new y (among_left y xs ys n) e);
}

-- one step of a leaf
live_not : (h : Heap) (y : ℕ) (ws : List ℕ) → is_new h y ≡ true → h.cells y ≡ Live ws → ⊥
live_not h y ws n e = let f : Never ≡ Live ws = sym (new_is h y n) ∙ e in cc f

cell_new : (h : Heap) (b y : ℕ) (c : Cell) → y ≢ b → is_new h y ≡ true → is_new (with_cell h b c) y ≡ true
cell_new h b y c ne e = ap (λ d. nat_lt 0 y && nat_le y h.cap && is_never d) (cond-false (eqb y b) c (h.cells y) (ne_eqb y b ne)) ∙ e

after_cell : (h : Heap) (b : ℕ) (c : Cell) (ws : List ℕ) → h.cells b ≡ Live ws → After h [] (with_cell h b c)
after_cell h b c ws e = record {
  cap = refl;
  claimed = let f : h.claimed ≡ h.claimed + 0 = omega arith in f;
  new = λ y n f. cell_new h b y c (λ d. live_not h y ws f (ap h.cells d ∙ e)) f;
}

after_block : (h : Heap) (x n : ℕ) → After h ((x, n) ∷ []) (with_block h x n)
after_block h x n = record {
  cap = refl;
  claimed = let f : h.claimed + n + 1 ≡ h.claimed + (n + 1 + 0) = omega arith in f;
  new = λ y m f. cell_new h x y (Live (replicate n 0)) m.0 f;
}

abbrev Afterwards : Heap → Names → Tree Piece → Heap → Type 0
Afterwards h xs t g = After h xs g

after_read : (c : Cell) (i : ℕ) (p : Piece) (k : ℕ → Stack) (h : Heap) → OnMoved (read_cell holdings c i p k h) (Afterwards h [])
after_read Never i p k h = tt
after_read Freed i p k h = tt
after_read (Live ws) i p k h = moved_if (nat_lt i (length ws)) _ _ (Afterwards h []) (λ e. after_none h) (λ e. tt)

after_write : (c : Cell) (b i v : ℕ) (p : Piece) (s : Stack) (h : Heap) → h.cells b ≡ c → OnMoved (write_cell holdings c b i v p s h) (Afterwards h [])
after_write Never b i v p s h e = tt
after_write Freed b i v p s h e = tt
after_write (Live ws) b i v p s h e = moved_if (nat_lt i (length ws)) _ _ (Afterwards h []) (λ d. after_cell h b (Live (slice_set ws i v)) ws e) (λ d. tt)

after_cut : (c : Cell) (b : ℕ) (p : Piece) (s : Stack) (h : Heap) → h.cells b ≡ c → OnMoved (cut_cell holdings c b p s h) (Afterwards h [])
after_cut Never b p s h e = tt
after_cut Freed b p s h e = tt
after_cut (Live ws) b p s h e = after_cell h b Freed ws e

-- a room in which a block is shorter than the capacity
abbrev short_room : Room
short_room h n = nat_lt n h.cap

short_sized : IsSized short_room
short_sized h n e = ltb-true n h.cap e

module _ (p q : Piece) (xs : Names) (u : Stack) (h : Heap) where
  -- the step is the same with any name behind those that it draws
  same_name : (a : Act) (ns : List ℕ) → Step a p xs q u → perform holdings any_room p a h (first_name (names_of xs ++ ns)) ≡ perform holdings any_room p a h (name_in xs)
  same_name (Go s) ns st = refl
  same_name (Read b i k) ns st = refl
  same_name (Write b i v s) ns st = refl
  same_name (Make n k) ns st =
      ap (perform holdings any_room p (Make n k) h) (ap (λ l. first_name (names_of l ++ ns)) st.1 ∙ sym (ap name_in st.1))
  same_name (Cut b s) ns st = refl
  same_name (Split l r w) ns st = absurd st
  same_name Over ns st = absurd st
  same_name (Bad r) ns st = absurd st

  names_drawn : (a : Act) (ns : List ℕ) → Step a p xs q u → names_after a (names_of xs ++ ns) ≡ ns
  names_drawn (Go s) ns st = ap (λ l. names_of l ++ ns) st.0
  names_drawn (Read b i k) ns st = ap (λ l. names_of l ++ ns) st.2
  names_drawn (Write b i v s) ns st = ap (λ l. names_of l ++ ns) st.1
  names_drawn (Make n k) ns st = ap (λ l. other_names (names_of l ++ ns)) st.1
  names_drawn (Cut b s) ns st = ap (λ l. names_of l ++ ns) st.1
  names_drawn (Split l r w) ns st = absurd st
  names_drawn Over ns st = absurd st
  names_drawn (Bad r) ns st = absurd st

  same_room : (a : Act) (x : ℕ) → Fresh h xs → Step a p xs q u → perform holdings any_room p a h x ≡ perform holdings short_room p a h x
  same_room (Go s) x f st = refl
  same_room (Read b i k) x f st = refl
  same_room (Write b i v s) x f st = refl
  same_room (Make n k) x f st =
      let g : Fresh h ((st.0, n) ∷ []) = subst (Fresh h) st.1 f in
      sym (cond-true (nat_lt n h.cap) _ Full (lt-ltb n h.cap g.1))
  same_room (Cut b s) x f st = refl
  same_room (Split l r w) x f st = absurd st
  same_room Over x f st = absurd st
  same_room (Bad r) x f st = absurd st

  step_after : (a : Act) → Step a p xs q u → OnMoved (perform holdings any_room p a h (name_in xs)) (Afterwards h xs)
  step_after (Go s) st = subst (λ l. After h l h) (sym st.0) (after_none h)
  step_after (Read b i k) st = subst (λ l. OnMoved (read_cell holdings (h.cells b) i p k h) (Afterwards h l)) (sym st.2) (after_read (h.cells b) i p k h)
  step_after (Write b i v s) st = subst (λ l. OnMoved (write_cell holdings (h.cells b) b i v (holdings.after p (Write b i v s) 0) s h) (Afterwards h l)) (sym st.1) (after_write (h.cells b) b i v _ s h refl)
  step_after (Make n k) st =
      subst (λ l. OnMoved (perform holdings any_room p (Make n k) h (name_in l)) (Afterwards h l)) (sym st.1)
      (moved_if (is_new h st.0) _ NameUsed (Afterwards h ((st.0, n) ∷ [])) (λ e. after_block h st.0 n) (λ e. tt))
  step_after (Cut b s) st = subst (λ l. OnMoved (cut_cell holdings (h.cells b) b (holdings.after p (Cut b s) 0) s h) (Afterwards h l)) (sym st.1) (after_cut (h.cells b) b _ s h refl)
  step_after (Split l r w) st = absurd st
  step_after Over st = absurd st
  step_after (Bad r) st = absurd st

-- a step that was made, with all that is known of it
pub record Made (a : Answer Piece) (q : Piece) (u : Stack) (f : Piece) (h : Heap) (xs : Names) : Type 0 where
  pub heap : Heap
  pub is : a ≡ Moved (Leaf q u) heap
  pub holds : Holds (plus q f) heap
  pub after : After h xs heap

made_by : (a : Answer Piece) (q : Piece) (u : Stack) (f : Piece) (h : Heap) (xs : Names) → HasMoved a (λ t g. t ≡ Leaf q u) → OnMoved a (Kept f) → OnMoved a (Afterwards h xs) → Made a q u f h xs
made_by (Moved t g) q u f h xs e k w = record { heap = g; is = ap (λ x. Moved x g) e; holds = subst (λ x. Holds (plus (total x) f) g) e k; after = w }
made_by (Stuck r) q u f h xs e k w = absurd e
made_by Full q u f h xs e k w = absurd e
made_by NoSuchLeaf q u f h xs e k w = absurd e
made_by NameUsed q u f h xs e k w = absurd e

new_ones : (h : Heap) (xs : Names) → Fresh h xs → AreNew h xs
new_ones h [] f = tt
new_ones h (x ∷ xs) f = (f.0, new_ones h xs f.3)

leaf_made : (T : List Proc) (s : Stack) (p q : Piece) (xs : Names) (u : Stack) (f : Piece) (h : Heap) → Step (act T s) p xs q u → Holds (plus p f) h → Fresh h xs → Made (perform holdings any_room p (act T s) h (name_in xs)) q u f h xs
leaf_made T s p q xs u f h st hs n =
    made_by (perform holdings any_room p (act T s) h (name_in xs)) q u f h xs
    (step_made T s p q xs u h st (holds_left p f h hs) (new_ones h xs n))
    (subst (λ a. OnMoved a (Kept f)) (sym (same_room p q xs u h (act T s) (name_in xs) n st))
    (leaf_keeps short_room short_sized p f h (name_in xs) hs 0 (act T s) (step_is 0 (act T s) s p q xs u st).0))
    (step_after p q xs u h (act T s) st)

-- the marks
abbrev holdings_map : IsMap marked holdings (λ a. a.0)
holdings_map = record { after = λ a e x. refl; kept = λ a l r. refl; left = λ a l r. refl; right = λ a l r. refl; join = λ a p q. refl }

abbrev counts_map : IsMap marked counts (λ a. a.1)
counts_map = record { after = λ a e x. refl; kept = λ a l r. refl; left = λ a l r. refl; right = λ a l r. refl; join = λ a p q. refl }

abbrev nothing_map : IsMap marked nothing (λ a. tt)
nothing_map = record { after = λ a e x. refl; kept = λ a l r. refl; left = λ a l r. refl; right = λ a l r. refl; join = λ a p q. refl }

-- the leaf of a runner
abbrev pub leaf_at : Runner → Tree (Piece × ℕ)
leaf_at s = Leaf (s.piece, s.count) s.stack

pub record Led (T : List Proc) (s : Runner) (xs : Names) (t : Runner) (f : Piece) (h : Heap) (ns : List ℕ) : Type 0 where
  pub heap : Heap
  pub run : Some_lefts marked T (names_of xs ++ ns) (leaf_at s) h ns (leaf_at t) heap
  pub holds : Holds (plus t.piece f) heap
  pub after : After h xs heap

-- each way is a left-first run
abbrev Leads : List Proc → Way → Type 0
Leads T W = (s : Runner) (xs : Names) (t : Runner) (f : Piece) (h : Heap) (ns : List ℕ) → W s xs t → Holds (plus s.piece f) h → Fresh h xs → Led T s xs t f h ns

abbrev CountIs : ℕ → Tree (Piece × ℕ) → Heap → Type 0
CountIs n (Leaf a s) h = a.1 ≡ n
CountIs n (Fork a w l r) h = ⊥

module _ (p : Piece) (c : ℕ) (h : Heap) where
  count_read : (d : Cell) (i : ℕ) (k : ℕ → Stack) → OnMoved (read_cell marked d i (p, suc c) k h) (CountIs (suc c))
  count_read Never i k = tt
  count_read Freed i k = tt
  count_read (Live ws) i k = moved_if (nat_lt i (length ws)) _ _ (CountIs (suc c)) (λ e. refl) (λ e. tt)

  count_write : (d : Cell) (b i v : ℕ) (q : Piece) (s : Stack) → OnMoved (write_cell marked d b i v (q, suc c) s h) (CountIs (suc c))
  count_write Never b i v q s = tt
  count_write Freed b i v q s = tt
  count_write (Live ws) b i v q s = moved_if (nat_lt i (length ws)) _ _ (CountIs (suc c)) (λ e. refl) (λ e. tt)

  count_cut : (d : Cell) (b : ℕ) (q : Piece) (s : Stack) → OnMoved (cut_cell marked d b (q, suc c) s h) (CountIs (suc c))
  count_cut Never b q s = tt
  count_cut Freed b q s = tt
  count_cut (Live ws) b q s = refl

  step_counts : (a : Act) (xs : Names) (q : Piece) (u : Stack) (x : ℕ) → Step a p xs q u → OnMoved (perform marked any_room (p, c) a h x) (CountIs (suc c))
  step_counts (Go s) xs q u x st = refl
  step_counts (Read b i k) xs q u x st = count_read (h.cells b) i k
  step_counts (Write b i v s) xs q u x st = count_write (h.cells b) b i v _ s
  step_counts (Make n k) xs q u x st = moved_if (is_new h x) _ NameUsed (CountIs (suc c)) (λ e. refl) (λ e. tt)
  step_counts (Cut b s) xs q u x st = count_cut (h.cells b) b _ s
  step_counts (Split l r w) xs q u x st = absurd st
  step_counts Over xs q u x st = absurd st
  step_counts (Bad r) xs q u x st = absurd st

both_known : (a : Answer (Piece × ℕ)) (q : Piece) (u : Stack) (g : Heap) (n : ℕ) → answer_map (λ m. m.0) a ≡ Moved (Leaf q u) g → OnMoved a (CountIs n) → a ≡ Moved (Leaf (q, n) u) g
both_known (Moved (Leaf m s) k) q u g n e w =
    let i : m.0 ≡ q = cc e in
    let j : s ≡ u = cc e in
    let f : k ≡ g = cc e in
    ap (λ x. Moved (Leaf (x, m.1) s) k) i ∙ (ap (λ x. Moved (Leaf (q, x) s) k) w ∙ (ap (λ x. Moved (Leaf (q, n) x) k) j ∙ ap (Moved (Leaf (q, n) u)) f))
both_known (Moved (Fork m v l r) k) q u g n e w = absurd w
both_known (Stuck r) q u g n e w = absurd (let z : ⊥ = cc e in z)
both_known Full q u g n e w = absurd (let z : ⊥ = cc e in z)
both_known NoSuchLeaf q u g n e w = absurd (let z : ⊥ = cc e in z)
both_known NameUsed q u g n e w = absurd (let z : ⊥ = cc e in z)

stepped_leads : (T : List Proc) (s : Runner) (xs : Names) (t : Runner) (f : Piece) (h : Heap) (ns : List ℕ) → Stepped (act T s.stack) s xs t → Holds (plus s.piece f) h → Fresh h xs → Led T s xs t f h ns
stepped_leads T s xs t f h ns st hs fr =
    let made = leaf_made T s.stack s.piece t.piece xs t.stack f h st.step hs fr in
    let x : ℕ = first_name (names_of xs ++ ns) in
    let is : perform marked any_room (s.piece, s.count) (act T s.stack) h x ≡ Moved (Leaf (t.piece, suc s.count) t.stack) made.heap =
    both_known (perform marked any_room (s.piece, s.count) (act T s.stack) h x) t.piece t.stack made.heap (suc s.count)
    (perform_map marked holdings (λ m. m.0) holdings_map any_room (s.piece, s.count) (act T s.stack) h x
    ∙ (same_name s.piece t.piece xs t.stack h (act T s.stack) ns st.step ∙ made.is))
    (step_counts s.piece s.count h (act T s.stack) xs t.piece t.stack x st.step) in
    record {
      heap = made.heap;
      run = lefts_one marked T (names_of xs ++ ns) (leaf_at s) h ns (leaf_at t) made.heap (record {
        moved = is ∙ ap (λ n. Moved (Leaf (t.piece, n) t.stack) made.heap) (sym st.count);
        names = names_drawn s.piece t.piece xs t.stack h (act T s.stack) ns st.step;
      });
      holds = made.holds;
      after = made.after;
    }

pub ended_by : (p : Piece) (c : ℕ) (s : Stack) (vs : List ℕ) → s ≡ End vs → has_ended {A = Piece × ℕ} (Leaf (p, c) s) ≡ true
ended_by p c s vs e = ap (λ z. has_ended {A = Piece × ℕ} (Leaf (p, c) z)) e

join_once : (T : List Proc) (k : Piece) (n : ℕ) (w : Wait) (x y : Runner) (vs ws : List ℕ) (h : Heap) (ns : List ℕ) → x.stack ≡ End vs → y.stack ≡ End ws → Once marked T ns (Fork (k, n) w (leaf_at x) (leaf_at y)) h ns (Leaf (plus k (plus x.piece y.piece), suc (max x.count y.count)) (joined w vs ws)) h
join_once T k n w x y vs ws h ns e d =
    let path : left_path (Fork (k, n) w (leaf_at x) (leaf_at y)) ≡ [] = cond-true (has_ended (leaf_at x)) _ _ (ended_by x.piece x.count x.stack vs e) ∙ cond-true (has_ended (leaf_at y)) _ _ (ended_by y.piece y.count y.stack ws d) in
    record {
      moved = ap (λ p. move marked any_room T (Fork (k, n) w (leaf_at x) (leaf_at y)) h p (first_name ns)) path
          ∙ (ap (λ z. join_both marked (k, n) w (Leaf (x.piece, x.count) z) (leaf_at y) h) e ∙ ap (λ z. join_both marked (k, n) w (Leaf (x.piece, x.count) (End vs)) (Leaf (y.piece, y.count) z) h) d);
      names = ap (λ p. names_after (act_at T (Fork (k, n) w (leaf_at x) (leaf_at y)) p) ns) path;
    }

forked_leads : (T : List Proc) (Below : Way) → Leads T Below → (s : Runner) (xs : Names) (t : Runner) (f : Piece) (h : Heap) (ns : List ℕ) → Forked Below (act T s.stack) s xs t → Holds (plus s.piece f) h → Fresh h xs → Led T s xs t f h ns
forked_leads T Below ih s xs t f h ns fk hs fr =
    let l = fk.left in let r = fk.right in let w = fk.wait in
    let k : Piece = holdings.kept s.piece l r in
    let x1 : Runner = left_child s l r in
    let y1 : Runner = right_child s l r in
    let a = fk.first_names in let b = fk.second_names in
    let all : List ℕ = names_of a ++ (names_of b ++ ns) in
    let fr1 : Fresh h (a ++ b) = subst (Fresh h) fk.names fr in
    let hs1 : Holds (plus x1.piece (plus (plus k y1.piece) f)) h =
    subst (λ y. Holds y h) (left_out k x1.piece y1.piece f) (subst (λ y. Holds (plus y f) h) (sym (fork_sum s.piece (left_takes l) (right_takes l r))) hs) in
    let one = ih x1 a fk.first (plus (plus k y1.piece) f) h (names_of b ++ ns) fk.first_run hs1 (fresh_left h a b fr1) in
    let hs2 : Holds (plus y1.piece (plus (plus k fk.first.piece) f)) one.heap =
    subst (λ y. Holds y one.heap) (right_out k fk.first.piece y1.piece f) (subst (λ y. Holds y one.heap) (sym (left_out k fk.first.piece y1.piece f)) one.holds) in
    let two = ih y1 b fk.second (plus (plus k fk.first.piece) f) one.heap ns fk.second_run hs2 (fresh_after h one.heap a b one.after fr1) in
    let n : ℕ = suc s.count in
    let split : Once marked T all (leaf_at s) h all (Fork (k, n) w (leaf_at x1) (leaf_at y1)) h = record {
      moved = ap (λ z. perform marked any_room (s.piece, s.count) z h (first_name all)) fk.at;
      names = ap (λ z. names_after z all) fk.at;
    } in
    let end : Tree (Piece × ℕ) = Leaf (plus k (plus fk.first.piece fk.second.piece), suc (max fk.first.count fk.second.count)) (joined w fk.first_words fk.second_words) in
    let run : Some_lefts marked T all (leaf_at s) h ns end two.heap =
    lefts_then marked T all (leaf_at s) h all (Fork (k, n) w (leaf_at x1) (leaf_at y1)) h ns end two.heap
    (lefts_one marked T all (leaf_at s) h all (Fork (k, n) w (leaf_at x1) (leaf_at y1)) h split)
    (lefts_then marked T all (Fork (k, n) w (leaf_at x1) (leaf_at y1)) h (names_of b ++ ns) (Fork (k, n) w (leaf_at fk.first) (leaf_at y1)) one.heap ns end two.heap
    (record { number = one.run.number; lefts = lift_left marked T one.run.number (k, n) w (leaf_at y1) all (leaf_at x1) h (names_of b ++ ns) (leaf_at fk.first) one.heap one.run.lefts })
    (lefts_then marked T (names_of b ++ ns) (Fork (k, n) w (leaf_at fk.first) (leaf_at y1)) one.heap ns (Fork (k, n) w (leaf_at fk.first) (leaf_at fk.second)) two.heap ns end two.heap
    (record { number = two.run.number; lefts = lift_right marked T two.run.number (k, n) w (leaf_at fk.first) (ended_by fk.first.piece fk.first.count fk.first.stack fk.first_words fk.first_end) (names_of b ++ ns) (leaf_at y1) one.heap ns (leaf_at fk.second) two.heap two.run.lefts })
    (lefts_one marked T ns (Fork (k, n) w (leaf_at fk.first) (leaf_at fk.second)) two.heap ns end two.heap
    (join_once T k n w fk.first fk.second fk.first_words fk.second_words two.heap ns fk.first_end fk.second_end)))) in
    let names : names_of xs ++ ns ≡ all = ap (λ z. names_of z ++ ns) fk.names ∙ names_append a b ns in
    record {
      heap = two.heap;
      run = subst (λ z. Some_lefts marked T z (leaf_at s) h ns (leaf_at t) two.heap) (sym names) (subst (λ z. Some_lefts marked T all (leaf_at s) h ns (leaf_at z) two.heap) (sym fk.is) run);
      holds = subst (λ z. Holds (plus z.piece f) two.heap) (sym fk.is)
          (subst (λ y. Holds y two.heap) (sym (right_out k fk.first.piece fk.second.piece f)) two.holds);
      after = subst (λ z. After h z two.heap) (sym fk.names) (after_then h one.heap two.heap a b one.after two.after);
    }

move_leads : (T : List Proc) (b : ℕ) (Below : Way) → Leads T Below → Leads T (Move T b Below)
move_leads T b Below ih s xs t f h ns m hs fr =
    ⊎_elim (λ w. stepped_leads T s xs t f h ns w hs fr) (λ w. forked_leads T Below ih s xs t f h ns w hs fr) m.move

moves_lead : (T : List Proc) (b : ℕ) (Below : Way) → Leads T Below → (n : ℕ) → Leads T (Moves T b Below n)
moves_lead T b Below ih zero s xs t f h ns m hs fr = record {
  heap = h;
  run = subst (λ z. Some_lefts marked T (names_of z ++ ns) (leaf_at s) h ns (leaf_at t) h) (sym m.0)
      (subst (λ z. Some_lefts marked T ns (leaf_at s) h ns (leaf_at z) h) (sym m.1) (lefts_none marked T ns (leaf_at s) h));
  holds = subst (λ z. Holds (plus z.piece f) h) (sym m.1) hs;
  after = subst (λ z. After h z h) (sym m.0) (after_none h);
}
moves_lead T b Below ih (suc n) s xs t f h ns m hs fr =
    let u = m.between in
    let a = m.first_names in let c = m.more_names in
    let fr1 : Fresh h (a ++ c) = subst (Fresh h) m.names fr in
    let one = move_leads T b Below ih s a u f h (names_of c ++ ns) m.one hs (fresh_left h a c fr1) in
    let two = moves_lead T b Below ih n u c t f one.heap ns m.more one.holds (fresh_after h one.heap a c one.after fr1) in
    record {
      heap = two.heap;
      run = subst (λ z. Some_lefts marked T z (leaf_at s) h ns (leaf_at t) two.heap) (sym (ap (λ z. names_of z ++ ns) m.names ∙ names_append a c ns))
          (lefts_then marked T (names_of a ++ (names_of c ++ ns)) (leaf_at s) h (names_of c ++ ns) (leaf_at u) one.heap ns (leaf_at t) two.heap one.run two.run);
      holds = two.holds;
      after = subst (λ z. After h z two.heap) (sym m.names) (after_then h one.heap two.heap a c one.after two.after);
    }

pub runs_lead : (T : List Proc) (b : ℕ) (Below : Way) → Leads T Below → Leads T (Runs T b Below)
runs_lead T b Below ih s xs t f h ns m hs fr = moves_lead T b Below ih m.number s xs t f h ns m.moves hs fr

pub deep_leads : (T : List Proc) (b d : ℕ) → Leads T (Deep T b d)
deep_leads T b zero s xs t f h ns m hs fr = absurd m
deep_leads T b (suc d) s xs t f h ns m hs fr = runs_lead T b (Deep T b d) (deep_leads T b d) s xs t f h ns m hs fr

led_run : (T : List Proc) (s : Runner) (xs : Names) (t : Runner) (f : Piece) (h : Heap) (ns : List ℕ) → Led T s xs t f h ns → LeftRun T s xs t f h ns
led_run T s xs t f h ns l =
    let all : List ℕ = names_of xs ++ ns in
    let run = lefts_run marked T l.run.number all (leaf_at s) h ns (leaf_at t) l.heap l.run.lefts in
    record {
      steps = l.run.number;
      heap = l.heap;
      both = run;
      held = sym (left_map marked holdings (λ a. a.0) holdings_map T l.run.number all (leaf_at s) h) ∙ ap (answer_map (λ (a : Piece × ℕ). a.0)) run;
      counted = sym (left_map marked counts (λ a. a.1) counts_map T l.run.number all (leaf_at s) h) ∙ ap (answer_map (λ (a : Piece × ℕ). a.1)) run;
      alone = sym (left_map marked nothing (λ a. tt) nothing_map T l.run.number all (leaf_at s) h) ∙ ap (answer_map (λ (a : Piece × ℕ). tt)) run;
      holds = l.holds;
      after = l.after;
    }

-- the run of a branch is the left-first run
pub branch_left : (T : List Proc) (b d : ℕ) (s : Runner) (xs : Names) (t : Runner) (q : Piece) (h : Heap) (ns : List ℕ) → Branch T b d s xs t → Holds (plus s.piece q) h → Fresh h xs → LeftRun T s xs t q h ns
branch_left T b d s xs t q h ns m hs fr = led_run T s xs t q h ns (runs_lead T b (Deep T b d) (deep_leads T b d) s xs t q h ns m hs fr)

-- a branch that is done
pub done_left : (k : Bool) (T : List Proc) (b d : ℕ) (path : List Side) (v : code.Stack) (s : stores.Kept) (c : ℕ) (regs : List ℕ) (steps : ℕ) (t : stores.Kept) → EndIs k T b d path v s c (Done regs steps) t → DoneLeft T v s c regs steps t
done_left k T b d path v s c regs steps t e =
    let r = (e.ran regs steps refl).0 in
    record {
      names = r.names;
      drawn = r.on.drawn;
      run = λ q h ns hs fr. branch_left T b d (runner T s.top c v) r.names (record { piece = t.top; count = steps; stack = End regs }) q h ns r.run hs fr;
    }
