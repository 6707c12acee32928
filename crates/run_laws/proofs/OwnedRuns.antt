-- Runs in which no leaf is ever stuck or unowned have no race.
use Rattle.std.proofs.Common.{◌≡◌, ℕ, suc, ◌≤◌, Bool, false, cond, List, [], ◌∷◌, length, sym, subst, inl, inr, ⊎_elim, le-ltb, arith}
use Rattle.std.specs.Prelude.{nat_lt}
use Rattle.target_code.specs.declared.tree.Proc.{Proc}
use Rattle.target_meaning.specs.declared.path.Side.{Side}
use Rattle.target_meaning.specs.declared.path.Side.TheVariants.{Left, Right}
use Rattle.target_meaning.specs.declared.answer.Reason.{Reason}
use Rattle.target_meaning.specs.Leaf.{Stack, Act, Go, Read, Write, Make, Cut, Split, Over, Bad, act}
use Rattle.target_meaning.specs.Machine.{Heap, Cell, Never, Live, Freed, Tree, Leaf, Fork, Answer, Moved, Stuck, Full, NoSuchLeaf, NameUsed, Notes, Room, IsSized, nothing, read_cell, write_cell, perform, move, inside}
use Rattle.target_meaning.specs.Piece.{Share, Nil, Some_of, Clash, Piece, none, plus, at_place, Fits, Holds}
use Rattle.target_meaning.specs.Held.{holdings, total, AllFine}
use Rattle.target_meaning.specs.Unowned.{IsPast, IsStuckBy, SomeUnowned}
use Rattle.target_meaning.specs.Runs.{Schedule, OnMoved, Race, IsNoStuck, bare, bare_answer}
use Rattle.target_meaning.proofs.Shares.{plus-none, holds_left, holds_right}
use Rattle.target_meaning.proofs.Moved.{moved_map, moved_both}
use Rattle.target_meaning.proofs.Keeps.{some_same, Kept, keeps}
use Rattle.target_meaning.proofs.Races.{no_race}
use Rattle.target_meaning.proofs.Bare.{move_bare, race_bare}
use Rattle.target_meaning.proofs.Cases.{fine_or}
use Rattle.run_laws.specs.OwnedRuns.{Along, IsOwned, IsCalm}

-- ---- a leaf that is stuck by what it holds is stuck in each heap that has that

if_stuck : {A : Type 0} (b : Bool) (x : Answer A) (r : Reason) → b ≡ false → IsNoStuck (cond b x (Stuck r)) → ⊥
if_stuck b x r e w = subst (λ y. IsNoStuck (cond y x (Stuck r))) e w

past_end : (ws : List ℕ) (n k i : ℕ) → Fits (Some_of n k) (at_place (Live ws) 0) → n ≤ i → nat_lt i (length ws) ≡ false
past_end ws n k i f le = le-ltb i (length ws) (omega (arith, le, some_same (length ws) n f.0))

module _ (p : Piece) (h : Heap) where
  read_stuck : (c : Cell) (x : Share) (i : ℕ) (k : ℕ → Stack) → Fits x (at_place c 0) → IsPast x i → IsNoStuck (read_cell holdings c i p k h) → ⊥
  read_stuck c Nil i k f w m = w
  read_stuck c Clash i k f w m = w
  read_stuck Never (Some_of n j) i k f w m = m
  read_stuck Freed (Some_of n j) i k f w m = m
  read_stuck (Live ws) (Some_of n j) i k f w m = if_stuck (nat_lt i (length ws)) _ _ (past_end ws n j i f w) m

  write_stuck : (c : Cell) (x : Share) (b i v : ℕ) (s : Stack) → Fits x (at_place c 0) → IsPast x i → IsNoStuck (write_cell holdings c b i v p s h) → ⊥
  write_stuck c Nil b i v s f w m = w
  write_stuck c Clash b i v s f w m = w
  write_stuck Never (Some_of n j) b i v s f w m = m
  write_stuck Freed (Some_of n j) b i v s f w m = m
  write_stuck (Live ws) (Some_of n j) b i v s f w m = if_stuck (nat_lt i (length ws)) _ _ (past_end ws n j i f w) m

act_stuck : (room : Room) (a : Act) (p : Piece) (h : Heap) (x : ℕ) → Holds p h → IsStuckBy a p → IsNoStuck (perform holdings room p a h x) → ⊥
act_stuck room (Read b i k) p h x hs w m = read_stuck p h (h.cells b) (p b 0) i k (hs.places b 0) w m
act_stuck room (Write b i v s) p h x hs w m = write_stuck _ h (h.cells b) (p b 0) b i v s (hs.places b 0) w m
act_stuck room (Bad r) p h x hs w m = m
act_stuck room (Go s) p h x hs w m = w
act_stuck room (Make n k) p h x hs w m = w
act_stuck room (Cut b s) p h x hs w m = w
act_stuck room (Split l r v) p h x hs w m = w
act_stuck room Over p h x hs w m = w

-- ---- where no leaf is stuck or unowned, each is fine

inside_not : (a : Answer Piece) (g : Tree Piece → Tree Piece) → IsNoStuck (inside holdings g a) → IsNoStuck a
inside_not (Moved t h) g w = tt
inside_not (Stuck r) g w = w
inside_not Full g w = tt
inside_not NoSuchLeaf g w = tt
inside_not NameUsed g w = tt

owned_fine : (room : Room) (T : List Proc) (f : ℕ) (t : Tree Piece) (h : Heap) → Holds (total t) h → ((path : List Side) (x : ℕ) → IsNoStuck (move holdings room T t h path x)) → (SomeUnowned T f t → ⊥) → AllFine T f t
owned_fine room T f (Leaf p s) h hs free owned =
    ⊎_elim (λ w. w) (λ w. absurd (⊎_elim (λ u. act_stuck room (act T s) p h 0 hs u (free [] 0)) owned w)) (fine_or f (act T s) p)
owned_fine room T f (Fork k w l r) h hs free owned =
    let lr = holds_right k (plus (total l) (total r)) h hs in (
      owned_fine room T (suc f) l h (holds_left (total l) (total r) h lr) (λ ds x. inside_not (move holdings room T l h ds x) _ (free (Left ∷ ds) x)) (λ u. owned (inl u)),
      owned_fine room T (suc f) r h (holds_right (total l) (total r) h lr) (λ ds x. inside_not (move holdings room T r h ds x) _ (free (Right ∷ ds) x)) (λ u. owned (inr u)),
    )

module _ (room : Room) (sized : IsSized room) (T : List Proc) where
  calm_now : (t : Tree Piece) (h : Heap) → Holds (total t) h → IsOwned room T t h → IsCalm T t h
  calm_now t h hs w =
      let fine = owned_fine room T 0 t h hs w.free w.owned in
      record { holds = hs; fine = fine; calm = no_race T 0 t h fine hs }

  -- what is held is there after a step too
  held_next : (t : Tree Piece) (h : Heap) (path : List Side) (x : ℕ) → IsCalm T t h → OnMoved (move holdings room T t h path x) (λ u g. Holds (total u) g)
  held_next t h path x c =
      moved_map (move holdings room T t h path x) (Kept none) (λ u g. Holds (total u) g) (λ u g m. subst (λ y. Holds y g) (plus-none (total u)) m)
      (keeps room sized T 0 t none h path x c.fine (subst (λ y. Holds y h) (sym (plus-none (total t))) c.holds))

  pub calm_along : (es : Schedule) (t : Tree Piece) (h : Heap) → Holds (total t) h → Along holdings room T (IsOwned room T) es t h → Along holdings room T (IsCalm T) es t h
  calm_along [] t h hs w = calm_now t h hs w
  calm_along (e ∷ es) t h hs w =
      let c = calm_now t h hs w.0 in (
        c,
        moved_both (move holdings room T t h e.0 e.1) (λ u g. Holds (total u) g) (λ u g. Along holdings room T (IsOwned room T) es u g) (λ u g. Along holdings room T (IsCalm T) es u g)
            (λ u g m v. calm_along es u g m v) (held_next t h e.0 e.1 c) w.1,
      )

-- ---- the machine, which knows no pieces

moved_onto : {A : Type 0} (a : Answer A) (P : Tree A → Heap → Type 0) (R : Tree (Unit {0}) → Heap → Type 0) → ((t : Tree A) (h : Heap) → P t h → R (bare t) h) → OnMoved a P → OnMoved (bare_answer a) R
moved_onto (Moved t h) P R f m = f t h m
moved_onto (Stuck r) P R f m = tt
moved_onto Full P R f m = tt
moved_onto NoSuchLeaf P R f m = tt
moved_onto NameUsed P R f m = tt

-- what holds along a run of a tree with notes holds along the machine's
pub along_bare : {A : Type 0} (N : Notes A) (room : Room) (T : List Proc) (P : Tree A → Heap → Type 0) (R : Tree (Unit {0}) → Heap → Type 0) → ((t : Tree A) (h : Heap) → P t h → R (bare t) h) → (es : Schedule) (t : Tree A) (h : Heap) → Along N room T P es t h → Along nothing room T R es (bare t) h
along_bare N room T P R f [] t h w = f t h w
along_bare N room T P R f (e ∷ es) t h w = (
  f t h w.0,
  subst (λ y. OnMoved y (λ u g. Along nothing room T R es u g)) (move_bare N room T t h e.0 e.1)
      (moved_onto (move N room T t h e.0 e.1) (λ u g. Along N room T P es u g) (λ u g. Along nothing room T R es u g) (λ u g m. along_bare N room T P R f es u g m) w.1),
)

pub calm_machine : (room : Room) → IsSized room → (T : List Proc) (es : Schedule) (t : Tree Piece) (h : Heap) → Holds (total t) h → Along holdings room T (IsOwned room T) es t h → Along nothing room T (λ u g. Race T g u → ⊥) es (bare t) h
calm_machine room sized T es t h hs w =
    along_bare holdings room T (IsCalm T) (λ u g. Race T g u → ⊥) (λ u g c r. c.calm (race_bare T g u r)) es t h (calm_along room sized T es t h hs w)
