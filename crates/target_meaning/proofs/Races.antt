-- Leaves that are fine have no data race.
use Rattle.std.proofs.Common.{◌≡◌, ℕ, suc, List, [], refl, sym, ap, ◌∙◌, subst, ⊎_elim}
use Rattle.target_code.specs.declared.tree.Proc.{Proc}
use Rattle.target_meaning.specs.Leaf.{Stack, End, Act, Read, Write, Cut, act}
use Rattle.target_meaning.specs.Machine.{Heap, Cell, Never, Live, Freed, Tree, Leaf, Fork}
use Rattle.target_meaning.specs.Piece.{Share, Nil, Some_of, Clash, add, Piece, plus, at_place, Fits, Holds, IsWhole}
use Rattle.target_meaning.specs.Held.{total, IsHeld, AllWhole, Fine, AllFine}
use Rattle.target_meaning.specs.Runs.{IsLive, Loads, Stores, Frees, Touches, Spoils, SomeLeaf, Race}
use Rattle.target_meaning.proofs.Shares.{plus-comm, plus-assoc, holds_left, holds_right}
use Rattle.target_meaning.proofs.Keeps.{whole_alone, cut_place, left_out, right_out}

pub whole_held : (a : Share) → IsWhole a → IsHeld a
whole_held Nil w = w
whole_held (Some_of v k) w = tt
whole_held Clash w = w

nil_held : (a : Share) → a ≡ Nil → IsHeld a → ⊥
nil_held a e w = subst IsHeld e w

store_whole : (f : ℕ) (a : Act) (p : Piece) (h : Heap) (c j : ℕ) → Stores h a c j → Fine f a p → IsWhole (p c (suc j))
store_whole f (Write b i v s) p h c j s' w = subst (λ y. IsWhole (p y (suc j))) s'.0 (subst (λ y. IsWhole (p b (suc y))) s'.1 w)
store_whole f _ p h c j s' w = absurd s'

load_held : (f : ℕ) (a : Act) (p : Piece) (h : Heap) (c j : ℕ) → Loads h a c j → Fine f a p → IsHeld (p c (suc j))
load_held f (Read b i k) p h c j s' w = subst (λ y. IsHeld (p y (suc j))) s'.0 (subst (λ y. IsHeld (p b (suc y))) s'.1 w)
load_held f _ p h c j s' w = absurd s'

touch_held : (f : ℕ) (a : Act) (p : Piece) (h : Heap) (c j : ℕ) → Touches h a c j → Fine f a p → IsHeld (p c (suc j))
touch_held f a p h c j t w = ⊎_elim (λ l. load_held f a p h c j l w) (λ s. whole_held (p c (suc j)) (store_whole f a p h c j s w)) t

free_whole : (f : ℕ) (a : Act) (p : Piece) (h : Heap) (c : ℕ) → Frees h a c → Fine f a p → AllWhole (p c 0) (p c) × IsLive (h.cells c)
free_whole f (Cut b s) p h c s' w = (subst (λ y. AllWhole (p y 0) (p y)) s'.0 w, subst (λ y. IsLive (h.cells y)) s'.0 s'.1)
free_whole f _ p h c s' w = absurd s'

-- nothing else holds a place of a block that is held whole
pub cut_alone : (p q : Piece) (h : Heap) (b j : ℕ) (c : Cell) → h.cells b ≡ c → IsLive c → AllWhole (p b 0) (p b) → Holds (plus p q) h → q b j ≡ Nil
cut_alone p q h b j Never e l w hs = absurd l
cut_alone p q h b j Freed e l w hs = absurd l
cut_alone p q h b j (Live ws) e l w hs =
    cut_place p q h b (End []) 0 ws (p b 0) j refl w (λ n. subst (λ y. Fits (add (p b n) (q b n)) (at_place y n)) e (hs.places b n))

pub all_held : (a : Share) (at : ℕ → Share) → AllWhole a at → IsHeld a
all_held Nil at w = w
all_held (Some_of v k) at w = tt
all_held Clash at w = w

no_spoil : (f g : ℕ) (a b : Act) (p q : Piece) (h : Heap) → Fine f a p → Fine g b q → Holds (plus p q) h → Spoils h a b → ⊥
no_spoil f g a b p q h fa fb hs s =
    ⊎_elim
    (λ w. nil_held (q w.0 (suc w.1)) (whole_alone (p w.0 (suc w.1)) (q w.0 (suc w.1)) _ (store_whole f a p h w.0 w.1 w.2 fa) (hs.places w.0 (suc w.1))) (touch_held g b q h w.0 w.1 w.3 fb))
    (⊎_elim
    (λ w. let fw = free_whole f a p h w.0 w.2 fa in nil_held (q w.0 (suc w.1)) (cut_alone p q h w.0 (suc w.1) (h.cells w.0) refl fw.1 fw.0 hs) (touch_held g b q h w.0 w.1 w.3 fb))
    (λ w. let fw = free_whole f a p h w.0 w.1 fa in nil_held (q w.0 0) (cut_alone p q h w.0 0 (h.cells w.0) refl fw.1 fw.0 hs) (all_held (q w.0 0) (q w.0) (free_whole g b q h w.0 w.2 fb).0)))
    s

-- what a leaf of a tree holds, beside anything else
abbrev Below : Tree Piece → Piece → Type 0
Below t p = (q : Piece) (h : Heap) → Holds (plus (total t) q) h → Holds (plus p q) h

drop_mid : (p x q : Piece) (h : Heap) → Holds (plus p (plus x q)) h → Holds (plus p q) h
drop_mid p x q h hs =
    holds_left (plus p q) x h (subst (λ y. Holds y h) (ap (plus p) (plus-comm x q) ∙ sym (plus-assoc p q x)) hs)

module _ (T : List Proc) (G : Type 0) where
  some_elim : (f : ℕ) (t : Tree Piece) (P : Stack → Type 0) → AllFine T f t → SomeLeaf t P → ((g : ℕ) (p : Piece) (s : Stack) → Fine g (act T s) p → Below t p → P s → G) → G
  some_elim f (Leaf p s) P fine m k = k f p s fine (λ q h hs. hs) m
  some_elim f (Fork c w l r) P fine m k =
      ⊎_elim
      (λ a. some_elim (suc f) l P fine.0 a (λ g p s fi be. k g p s fi
      (λ q h hs. drop_mid p (plus c (total r)) q h (be (plus (plus c (total r)) q) h (subst (λ y. Holds y h) (left_out c (total l) (total r) q) hs)))))
      (λ a. some_elim (suc f) r P fine.1 a (λ g p s fi be. k g p s fi
      (λ q h hs. drop_mid p (plus c (total l)) q h (be (plus (plus c (total l)) q) h (subst (λ y. Holds y h) (right_out c (total l) (total r) q) hs)))))
      m

-- where each leaf is fine and the heap has what they hold, there is no race
pub no_race : (T : List Proc) (f : ℕ) (t : Tree Piece) (h : Heap) → AllFine T f t → Holds (total t) h → Race T h t → ⊥
no_race T f (Leaf p s) h fine hs r = r
no_race T f (Fork k w l r) h fine hs race =
    let lr = holds_right k (plus (total l) (total r)) h hs in
    ⊎_elim
    (λ m. some_elim T ⊥ (suc f) l _ fine.0 m (λ g p s fi be n.
    some_elim T ⊥ (suc f) r _ fine.1 n (λ g' q u fi' be' c.
    let a : Holds (plus p (total r)) h = be (total r) h lr in
    let b : Holds (plus q p) h = be' p h (subst (λ y. Holds y h) (plus-comm p (total r)) a) in
    ⊎_elim
    (no_spoil g g' (act T s) (act T u) p q h fi fi' (subst (λ y. Holds y h) (plus-comm q p) b))
    (no_spoil g' g (act T u) (act T s) q p h fi' fi b) c)))
    (⊎_elim (no_race T (suc f) l h fine.0 (holds_left (total l) (total r) h lr)) (no_race T (suc f) r h fine.1 (holds_right (total l) (total r) h lr)))
    race
