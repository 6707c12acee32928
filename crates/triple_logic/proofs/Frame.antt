-- What is safe on a piece is safe on that piece and more, and gives the rest back.
use Rattle.std.proofs.Common.{◌≡◌, ℕ, zero, suc, ◌+◌, ◌-◌, ◌/◌, ◌<◌, ◌≤◌, Bool, true, false, cond, List, [], ◌∷◌, length, refl, sym, ap, ◌∙◌, subst, arith, eqb, eqb-true, max}
use Rattle.std.proofs.Math.Path.{fun_ext}
use Rattle.std.specs.Prelude.{Option, Some, None, slice_set, nat_lt}
use Rattle.target_code.specs.declared.tree.Proc.{Proc}
use Rattle.target_meaning.specs.declared.path.Side.{Side}
use Rattle.target_meaning.specs.declared.path.Side.TheVariants.{Left, Right}
use Rattle.target_meaning.specs.Leaf.{Stack, Run, End, Wait, Child, Act, Go, Read, Write, Make, Cut, Split, Over, Bad, act, joined}
use Rattle.target_meaning.specs.Machine.{Heap, Room, Cell, Never, Live, Freed, Tree, Leaf, Fork, Answer, Moved, Stuck, Full, NoSuchLeaf, NameUsed, is_new, with_block, with_cell, read_cell, write_cell, cut_cell, perform, join_ends, join_both, move, inside, depth}
use Rattle.target_meaning.specs.Piece.{whole, Share, Nil, Some_of, Clash, add_if, add, Piece, none, plus, at_place, Fits, Holds, share_of, half, rest}
use Rattle.target_meaning.specs.Held.{Take, in_part, given_share, kept_share, given, kept, all_given, all_kept, left_takes, right_takes, held_after, holdings, total, IsHeld, AllWhole, CanHalve, Spanned, CanTake, Fine, AllFine}
use Rattle.target_meaning.specs.Piece.{IsWhole}
use Rattle.target_meaning.specs.Runs.{OnMoved}
use Rattle.triple_logic.specs.Safe.{Halt, Steps, AtRoot, Safe}
use Rattle.target_meaning.proofs.Shares.{add-nil, add_same, plus-comm, plus-assoc, holds_left, holds_right}
use Rattle.target_meaning.proofs.Moved.{moved_map, moved_inside}
use Rattle.triple_logic.proofs.Bind.{if_map}
use Rattle.target_meaning.proofs.Keeps.{share-add, take_sum, whole_alone, new_is}
use Rattle.target_meaning.proofs.Covers.{write_framed, make_framed, cut_framed}

-- ---- how a frame is shared out where parts are taken

abbrev half_more : Share → Share → Share
half_more Nil y = half y
half_more (Some_of v k) Nil = Nil
half_more (Some_of v k) (Some_of u j) = share_of u ((suc k + suc j) / 2 - suc k / 2)
half_more (Some_of v k) Clash = Nil
half_more Clash y = Nil

abbrev rest_more : Share → Share → Share
rest_more Nil y = rest y
rest_more (Some_of v k) Nil = Nil
rest_more (Some_of v k) (Some_of u j) = share_of u (suc j - ((suc k + suc j) / 2 - suc k / 2))
rest_more (Some_of v k) Clash = Nil
rest_more Clash y = Nil

same_value_if : (e : Bool) (v u k j : ℕ) (o : Option ℕ) → eqb v u ≡ e → Fits (add_if e v k j) o → v ≡ u
same_value_if true v u k j o e f = eqb-true v u e
same_value_if false v u k j o e f = absurd f

same_value : (v u k j : ℕ) (o : Option ℕ) → Fits (add (Some_of v k) (Some_of u j)) o → v ≡ u
same_value v u k j o f = same_value_if (eqb v u) v u k j o refl f

half_same : (v k j : ℕ) → half (add (Some_of v k) (Some_of v j)) ≡ add (half (Some_of v k)) (share_of v ((suc k + suc j) / 2 - suc k / 2))
half_same v k j =
    ap half (add_same v k j) ∙
    ap (share_of v) (let e : suc (suc (k + j)) / 2 ≡ suc k / 2 + ((suc k + suc j) / 2 - suc k / 2) = omega arith in e) ∙
    sym (share-add v (suc k / 2) ((suc k + suc j) / 2 - suc k / 2))

rest_same : (v k j : ℕ) → rest (add (Some_of v k) (Some_of v j)) ≡ add (rest (Some_of v k)) (share_of v (suc j - ((suc k + suc j) / 2 - suc k / 2)))
rest_same v k j =
    ap rest (add_same v k j) ∙
    ap (share_of v) (let e : suc (suc (k + j)) - suc (suc (k + j)) / 2 ≡ (suc k - suc k / 2) + (suc j - ((suc k + suc j) / 2 - suc k / 2)) = omega arith in e) ∙
    sym (share-add v (suc k - suc k / 2) (suc j - ((suc k + suc j) / 2 - suc k / 2)))

more_same : (v k j : ℕ) → add (share_of v ((suc k + suc j) / 2 - suc k / 2)) (share_of v (suc j - ((suc k + suc j) / 2 - suc k / 2))) ≡ Some_of v j
more_same v k j =
    share-add v ((suc k + suc j) / 2 - suc k / 2) (suc j - ((suc k + suc j) / 2 - suc k / 2)) ∙
    ap (share_of v) (let e : ((suc k + suc j) / 2 - suc k / 2) + (suc j - ((suc k + suc j) / 2 - suc k / 2)) ≡ suc j = omega arith in e)

half_sum : (x y : Share) (o : Option ℕ) → Fits (add x y) o → half (add x y) ≡ add (half x) (half_more x y)
half_sum Nil y o f = refl
half_sum Clash y o f = absurd f
half_sum (Some_of v k) Nil o f = sym (add-nil (half (Some_of v k)))
half_sum (Some_of v k) Clash o f = absurd f
half_sum (Some_of v k) (Some_of u j) o f =
    subst (λ y. half (add (Some_of v k) (Some_of y j)) ≡ add (half (Some_of v k)) (half_more (Some_of v k) (Some_of y j))) (same_value v u k j o f) (half_same v k j)

rest_sum : (x y : Share) (o : Option ℕ) → Fits (add x y) o → rest (add x y) ≡ add (rest x) (rest_more x y)
rest_sum Nil y o f = refl
rest_sum Clash y o f = absurd f
rest_sum (Some_of v k) Nil o f = sym (add-nil (rest (Some_of v k)))
rest_sum (Some_of v k) Clash o f = absurd f
rest_sum (Some_of v k) (Some_of u j) o f =
    subst (λ y. rest (add (Some_of v k) (Some_of y j)) ≡ add (rest (Some_of v k)) (rest_more (Some_of v k) (Some_of y j))) (same_value v u k j o f) (rest_same v k j)

more_sum : (x y : Share) (o : Option ℕ) → Fits (add x y) o → add (half_more x y) (rest_more x y) ≡ y
more_sum Nil Nil o f = refl
more_sum Nil (Some_of v k) o f = share-add v (suc k / 2) (suc k - suc k / 2) ∙ ap (share_of v) (let e : suc k / 2 + (suc k - suc k / 2) ≡ suc k = omega arith in e)
more_sum Nil Clash o f = refl
more_sum Clash y o f = absurd f
more_sum (Some_of v k) Nil o f = refl
more_sum (Some_of v k) Clash o f = absurd f
more_sum (Some_of v k) (Some_of u j) o f = more_same u k j

abbrev given_more : Bool → Bool → Share → Share → Share
given_more false all x y = Nil
given_more true true x y = y
given_more true false x y = half_more x y

abbrev kept_more : Bool → Bool → Share → Share → Share
kept_more false all x y = y
kept_more true true x y = Nil
kept_more true false x y = rest_more x y

given_sum : (s all : Bool) (x y : Share) (o : Option ℕ) → Fits (add x y) o → given_share s all (add x y) ≡ add (given_share s all x) (given_more s all x y)
given_sum false all x y o f = refl
given_sum true true x y o f = refl
given_sum true false x y o f = half_sum x y o f

kept_sum : (s all : Bool) (x y : Share) (o : Option ℕ) → Fits (add x y) o → kept_share s all (add x y) ≡ add (kept_share s all x) (kept_more s all x y)
kept_sum false all x y o f = refl
kept_sum true true x y o f = refl
kept_sum true false x y o f = rest_sum x y o f

mores_sum : (s all : Bool) (x y : Share) (o : Option ℕ) → Fits (add x y) o → add (given_more s all x y) (kept_more s all x y) ≡ y
mores_sum false all x y o f = refl
mores_sum true true x y o f = add-nil y
mores_sum true false x y o f = more_sum x y o f

-- the shares of a frame q that go with what is given and with what is kept
record Shared (big_given big_kept small_given small_kept q : Piece) : Type 0 where
  gone : Piece
  stays : Piece
  is_given : big_given ≡ plus small_given gone
  is_kept : big_kept ≡ plus small_kept stays
  is_all : plus gone stays ≡ q

take_shared : (t : Take) (p q : Piece) (h : Heap) → Holds (plus p q) h → Shared (given t (plus p q)) (kept t (plus p q)) (given t p) (kept t p) q
take_shared t p q h hs = record {
  gone = λ b j. given_more (in_part t.part b j) t.all (p b j) (q b j);
  stays = λ b j. kept_more (in_part t.part b j) t.all (p b j) (q b j);
  is_given = fun_ext (λ b. fun_ext (λ j. given_sum (in_part t.part b j) t.all (p b j) (q b j) _ (hs.places b j)));
  is_kept = fun_ext (λ b. fun_ext (λ j. kept_sum (in_part t.part b j) t.all (p b j) (q b j) _ (hs.places b j)));
  is_all = fun_ext (λ b. fun_ext (λ j. mores_sum (in_part t.part b j) t.all (p b j) (q b j) _ (hs.places b j)));
}

kept_holds : (t : Take) (p : Piece) (h : Heap) → Holds p h → Holds (kept t p) h
kept_holds t p h hs = holds_right (given t p) (kept t p) h (subst (λ y. Holds y h) (sym (take_sum t p)) hs)

-- four pieces two by two
swap_mid : (a b c d : Piece) → plus (plus a b) (plus c d) ≡ plus (plus a c) (plus b d)
swap_mid a b c d =
    plus-assoc a b (plus c d) ∙ ap (plus a) (sym (plus-assoc b c d) ∙ ap (λ y. plus y d) (plus-comm b c) ∙ plus-assoc c b d) ∙ sym (plus-assoc a c (plus b d))

takes_shared : (ts : List Take) (p q : Piece) (h : Heap) → Holds (plus p q) h → Shared (all_given ts (plus p q)) (all_kept ts (plus p q)) (all_given ts p) (all_kept ts p) q
takes_shared [] p q h hs = record { gone = none; stays = q; is_given = refl; is_kept = refl; is_all = refl }
takes_shared (t ∷ ts) p q h hs =
    let a = take_shared t p q h hs in
    let hk : Holds (plus (kept t p) a.stays) h = subst (λ y. Holds y h) a.is_kept (kept_holds t (plus p q) h hs) in
    let b = takes_shared ts (kept t p) a.stays h hk in
    record {
      gone = plus a.gone b.gone;
      stays = b.stays;
      is_given =
          ap (λ y. plus y (all_given ts (kept t (plus p q)))) a.is_given ∙
          ap (λ y. plus (plus (given t p) a.gone) (all_given ts y)) a.is_kept ∙
          ap (plus (plus (given t p) a.gone)) b.is_given ∙
          swap_mid (given t p) a.gone (all_given ts (kept t p)) b.gone;
      is_kept = ap (all_kept ts) a.is_kept ∙ b.is_kept;
      is_all = plus-assoc a.gone b.gone b.stays ∙ ap (plus a.gone) b.is_all ∙ a.is_all;
    }

all_kept_holds : (ts : List Take) (p : Piece) (h : Heap) → Holds p h → Holds (all_kept ts p) h
all_kept_holds [] p h hs = hs
all_kept_holds (t ∷ ts) p h hs = all_kept_holds ts (kept t p) h (kept_holds t p h hs)

-- ---- what is fine stays fine with more

held_if : (e : Bool) (v k j : ℕ) (o : Option ℕ) → Fits (add_if e v k j) o → IsHeld (add_if e v k j)
held_if true v k j o f = tt
held_if false v k j o f = f

held_sum : (a b : Share) (o : Option ℕ) → IsHeld a → Fits (add a b) o → IsHeld (add a b)
held_sum Nil b o w f = absurd w
held_sum Clash b o w f = absurd w
held_sum (Some_of v k) Nil o w f = tt
held_sum (Some_of v k) Clash o w f = f
held_sum (Some_of v k) (Some_of u j) o w f = held_if (eqb v u) v k j o f

pub whole_sum : (a b : Share) (o : Option ℕ) → IsWhole a → Fits (add a b) o → IsWhole (add a b)
whole_sum a b o w f = subst IsWhole (sym (ap (add a) (whole_alone a b o w f) ∙ add-nil a)) w

halve_if : (e all : Bool) (v k j : ℕ) (o : Option ℕ) → CanHalve all (Some_of v k) → Fits (add_if e v k j) o → CanHalve all (add_if e v k j)
halve_if true true v k j o w f = tt
halve_if true false v k j o w f = omega arith
halve_if false all v k j o w f = absurd f

halve_sum : (all : Bool) (a b : Share) (o : Option ℕ) → CanHalve all a → Fits (add a b) o → CanHalve all (add a b)
halve_sum all Nil b o w f = absurd w
halve_sum all Clash b o w f = absurd w
halve_sum all (Some_of v k) Nil o w f = w
halve_sum all (Some_of v k) Clash o w f = absurd f
halve_sum all (Some_of v k) (Some_of u j) o w f = halve_if (eqb v u) all v k j o w f

all_whole_if : (e : Bool) (n k j : ℕ) (o : Option ℕ) (at at' : ℕ → Share) → suc k ≡ whole → ((i : ℕ) → i < n → IsWhole (at' (suc i))) → Fits (add_if e n k j) o → AllWhole (add_if e n k j) at'
all_whole_if true n k j o at at' w g f = absurd (let z : ⊥ = omega (arith, f.1, w) in z)
all_whole_if false n k j o at at' w g f = f

module _ (p q : Piece) (h : Heap) (hs : Holds (plus p q) h) where
  cut_sum : (b : ℕ) (x y : Share) → p b 0 ≡ x → q b 0 ≡ y → AllWhole x (p b) → Fits (add x y) (at_place (h.cells b) 0) → AllWhole (add x y) (λ j. add (p b j) (q b j))
  cut_sum b Nil y e d w f = absurd w
  cut_sum b Clash y e d w f = absurd w
  cut_sum b (Some_of n k) Nil e d w f = (w.0, λ i lt. whole_sum (p b (suc i)) (q b (suc i)) _ (w.1 i lt) (hs.places b (suc i)))
  cut_sum b (Some_of n k) Clash e d w f = f
  cut_sum b (Some_of n k) (Some_of u j) e d w f =
      all_whole_if (eqb n u) n k j _ (p b) (λ j. add (p b j) (q b j)) w.0 (λ i lt. whole_sum (p b (suc i)) (q b (suc i)) _ (w.1 i lt) (hs.places b (suc i))) f

  spanned_if : (e : Bool) (n k j : ℕ) (o : Option ℕ) (P R : ℕ → Type 0) → ((i : ℕ) → P i → R i) → Spanned None (Some_of n k) P → Fits (add_if e n k j) o → Spanned None (add_if e n k j) R
  spanned_if true n k j o P R g w f = (g 0 w.0, λ i lt. g (suc i) (w.1 i lt))
  spanned_if false n k j o P R g w f = f

  spanned_sum : (s : Option (ℕ × ℕ)) (x y : Share) (o : Option ℕ) (P R : ℕ → Type 0) → ((i : ℕ) → P i → R i) → Spanned s x P → Fits (add x y) o → Spanned s (add x y) R
  spanned_sum (Some s) x y o P R g w f = λ i lo hi. g (suc i) (w i lo hi)
  spanned_sum None Nil y o P R g w f = absurd w
  spanned_sum None Clash y o P R g w f = absurd w
  spanned_sum None (Some_of n k) Nil o P R g w f = (g 0 w.0, λ i lt. g (suc i) (w.1 i lt))
  spanned_sum None (Some_of n k) Clash o P R g w f = absurd f
  spanned_sum None (Some_of n k) (Some_of u j) o P R g w f = spanned_if (eqb n u) n k j o P R g w f

take_more : (ts : List Take) (p q : Piece) (h : Heap) → Holds (plus p q) h → CanTake ts p → CanTake ts (plus p q)
take_more [] p q h hs w = tt
take_more (t ∷ ts) p q h hs w =
    let a = take_shared t p q h hs in
    let b = t.part.block in (
      spanned_sum p q h hs t.part.span (p b 0) (q b 0) _ _ _ (λ j c. halve_sum t.all (p b j) (q b j) _ c (hs.places b j)) w.0 (hs.places b 0),
      subst (CanTake ts) (sym a.is_kept) (take_more ts (kept t p) a.stays h (subst (λ y. Holds y h) a.is_kept (kept_holds t (plus p q) h hs)) w.1),
    )

pub fine_more : (f : ℕ) (a : Act) (p q : Piece) (h : Heap) → Holds (plus p q) h → Fine f a p → Fine f a (plus p q)
fine_more f (Go s) p q h hs w = tt
fine_more f (Read b i k) p q h hs w = held_sum (p b (suc i)) (q b (suc i)) _ w (hs.places b (suc i))
fine_more f (Write b i v s) p q h hs w = whole_sum (p b (suc i)) (q b (suc i)) _ w (hs.places b (suc i))
fine_more f (Make n k) p q h hs w = tt
fine_more f (Cut b s) p q h hs w = cut_sum p q h hs b (p b 0) (q b 0) refl refl w (hs.places b 0)
fine_more f (Split l r w') p q h hs w = λ lt.
    let c = w lt in
    let a = takes_shared (left_takes l) p q h hs in (
      take_more (left_takes l) p q h hs c.0,
      subst (CanTake (right_takes l r)) (sym a.is_kept) (take_more (right_takes l r) (all_kept (left_takes l) p) a.stays h (subst (λ y. Holds y h) a.is_kept (all_kept_holds (left_takes l) (plus p q) h hs)) c.1),
      c.2,
      c.3,
    )
fine_more f Over p q h hs w = tt
fine_more f (Bad r) p q h hs w = w

-- ---- frames over a tree

abbrev pub Fr : Tree Piece → Type 0
Fr (Leaf p s) = Piece
Fr (Fork k w l r) = Piece × Fr l × Fr r

abbrev pub framed : (t : Tree Piece) → Fr t → Tree Piece
framed (Leaf p s) q = Leaf (plus p q) s
framed (Fork k w l r) g = Fork (plus k g.0) w (framed l g.1) (framed r g.2)

abbrev pub fsum : (t : Tree Piece) → Fr t → Piece
fsum (Leaf p s) q = q
fsum (Fork k w l r) g = plus g.0 (plus (fsum l g.1) (fsum r g.2))

pub total_framed : (t : Tree Piece) (g : Fr t) → total (framed t g) ≡ plus (total t) (fsum t g)
total_framed (Leaf p s) q = refl
total_framed (Fork k w l r) g =
    ap (plus (plus k g.0)) (ap (λ y. plus y (total (framed r g.2))) (total_framed l g.1) ∙ ap (plus (plus (total l) (fsum l g.1))) (total_framed r g.2) ∙ swap_mid (total l) (fsum l g.1) (total r) (fsum r g.2)) ∙
    swap_mid k g.0 (plus (total l) (total r)) (plus (fsum l g.1) (fsum r g.2))

pub depth_framed : (t : Tree Piece) (g : Fr t) → depth (framed t g) ≡ depth t
depth_framed (Leaf p s) q = refl
depth_framed (Fork k w l r) g = ap suc (ap (λ y. max y (depth (framed r g.2))) (depth_framed l g.1) ∙ ap (max (depth l)) (depth_framed r g.2))

pub all_fine_more : (T : List Proc) (f : ℕ) (t : Tree Piece) (g : Fr t) (h : Heap) → Holds (total (framed t g)) h → AllFine T f t → AllFine T f (framed t g)
all_fine_more T f (Leaf p s) q h hs w = fine_more f (act T s) p q h hs w
all_fine_more T f (Fork k w l r) g h hs fine =
    let lr = holds_right (plus k g.0) (plus (total (framed l g.1)) (total (framed r g.2))) h hs in
    (all_fine_more T (suc f) l g.1 h (holds_left (total (framed l g.1)) (total (framed r g.2)) h lr) fine.0, all_fine_more T (suc f) r g.2 h (holds_right (total (framed l g.1)) (total (framed r g.2)) h lr) fine.1)

-- ---- a step with a frame

-- what a step with any frame of the same sum leads to
abbrev pub Any : (Tree Piece → Heap → Type 0) → Piece → Tree Piece → Heap → Type 0
Any P q t h = (g : Fr t) → fsum t g ≡ q → P (framed t g) h

module _ (room : Room) (P : Tree Piece → Heap → Type 0) (p q : Piece) (h : Heap) (x : ℕ) (hs : Holds (plus p q) h) where
  read_frame : (c : Cell) (i : ℕ) (k : ℕ → Stack) → OnMoved (read_cell holdings c i p k h) (Any P q) → OnMoved (read_cell holdings c i (plus p q) k h) P
  read_frame Never i k m = tt
  read_frame Freed i k m = tt
  read_frame (Live ws) i k m = if_map (nat_lt i (length ws)) _ _ _ _ (Any P q) P (λ y. y q refl) (λ y. y) m

  write_frame : (c : Cell) (b i v : ℕ) (s : Stack) → IsWhole (p b (suc i)) → OnMoved (write_cell holdings c b i v (held_after p (Write b i v s) x) s h) (Any P q) → OnMoved (write_cell holdings c b i v (held_after (plus p q) (Write b i v s) x) s h) P
  write_frame Never b i v s w m = tt
  write_frame Freed b i v s w m = tt
  write_frame (Live ws) b i v s w m =
      if_map (nat_lt i (length ws)) _ _ _ _ (Any P q) P
      (λ y. subst (λ z. P (Leaf z s) (with_cell h b (Live (slice_set ws i v)))) (sym (write_framed p q h b i v x s hs w)) (y q refl)) (λ y. y) m

  cut_frame : (c : Cell) (b : ℕ) (s : Stack) → h.cells b ≡ c → AllWhole (p b 0) (p b) → OnMoved (cut_cell holdings c b (held_after p (Cut b s) x) s h) (Any P q) → OnMoved (cut_cell holdings c b (held_after (plus p q) (Cut b s) x) s h) P
  cut_frame Never b s e w m = tt
  cut_frame Freed b s e w m = tt
  cut_frame (Live ws) b s e w m = subst (λ z. P (Leaf z s) (with_cell h b Freed)) (sym (cut_framed p q h b x s ws hs e w)) (m q refl)

  split_frame : (l r : Child) (w : Wait) → OnMoved (perform holdings room p (Split l r w) h x) (Any P q) → OnMoved (perform holdings room (plus p q) (Split l r w) h x) P
  split_frame l r w m =
      let a = takes_shared (left_takes l) p q h hs in
      let hk : Holds (plus (all_kept (left_takes l) p) a.stays) h = subst (λ y. Holds y h) a.is_kept (all_kept_holds (left_takes l) (plus p q) h hs) in
      let b = takes_shared (right_takes l r) (all_kept (left_takes l) p) a.stays h hk in
      let all : plus b.stays (plus a.gone b.gone) ≡ q =
      plus-comm b.stays (plus a.gone b.gone) ∙ plus-assoc a.gone b.gone b.stays ∙ ap (plus a.gone) b.is_all ∙ a.is_all in
      rw (a.is_given, a.is_kept, b.is_given, b.is_kept) (m (b.stays, a.gone, b.gone) all)

  perform_frame : (f : ℕ) (a : Act) → Fine f a p → OnMoved (perform holdings room p a h x) (Any P q) → OnMoved (perform holdings room (plus p q) a h x) P
  perform_frame f (Go s) w m = m q refl
  perform_frame f (Read b i k) w m = read_frame (h.cells b) i k m
  perform_frame f (Write b i v s) w m = write_frame (h.cells b) b i v s w m
  perform_frame f (Make n k) w m =
      if_map (room h n) _ _ _ _ (Any P q) P
      (λ y. made (is_new h x) refl y) (λ y. y) m
    where
      made : (e : Bool) → is_new h x ≡ e → OnMoved (cond e (Moved (Leaf (held_after p (Make n k) x) (k x)) (with_block h x n)) NameUsed) (Any P q) → OnMoved (cond e (Moved (Leaf (held_after (plus p q) (Make n k) x) (k x)) (with_block h x n)) NameUsed) P
      made true e y = subst (λ z. P (Leaf z (k x)) (with_block h x n)) (sym (make_framed p q h n x k hs (new_is h x e))) (y q refl)
      made false e y = tt
  perform_frame f (Cut b s) w m = cut_frame (h.cells b) b s refl w m
  perform_frame f (Split l r v) w m = split_frame l r v m
  perform_frame f Over w m = tt
  perform_frame f (Bad r) w m = tt

-- a step of the tree
module _ (T : List Proc) (P : Tree Piece → Heap → Type 0) where
  -- three sums of two and two
  join_sum : (k a p b q c : Piece) → plus (plus k a) (plus (plus p b) (plus q c)) ≡ plus (plus k (plus p q)) (plus a (plus b c))
  join_sum k a p b q c = ap (plus (plus k a)) (swap_mid p b q c) ∙ swap_mid k a (plus p q) (plus b c)

  ends_frame : (k a p b q c : Piece) (w : Wait) (s t : Stack) (h : Heap) → OnMoved (join_ends holdings k w p q s t h) (Any P (plus a (plus b c))) → OnMoved (join_ends holdings (plus k a) w (plus p b) (plus q c) s t h) P
  ends_frame k a p b q c w (End xs) (End ys) h m = subst (λ z. P (Leaf z (joined w xs ys)) h) (sym (join_sum k a p b q c)) (m (plus a (plus b c)) refl)
  ends_frame k a p b q c w (End xs) (Run f cs) h m = tt
  ends_frame k a p b q c w (Run f cs) t h m = tt

  join_frame : (k a : Piece) (w : Wait) (l r : Tree Piece) (b : Fr l) (c : Fr r) (h : Heap) → OnMoved (join_both holdings k w l r h) (Any P (plus a (plus (fsum l b) (fsum r c)))) → OnMoved (join_both holdings (plus k a) w (framed l b) (framed r c) h) P
  join_frame k a w (Leaf p s) (Leaf q t) b c h m = ends_frame k a p b q c w s t h m
  join_frame k a w (Leaf p s) (Fork q v x y) b c h m = tt
  join_frame k a w (Fork p v x y) r b c h m = tt

inside_any : (a : Answer Piece) (g : Tree Piece → Tree Piece) (P : Tree Piece → Heap → Type 0) → OnMoved (inside holdings g a) P → OnMoved a (λ t h. P (g t) h)
inside_any (Moved t h) g P m = m
inside_any (Stuck r) g P m = tt
inside_any Full g P m = tt
inside_any NoSuchLeaf g P m = tt
inside_any NameUsed g P m = tt

pub frame_step : (room : Room) (T : List Proc) (f : ℕ) (t : Tree Piece) (g : Fr t) (P : Tree Piece → Heap → Type 0) (h : Heap) (path : List Side) (x : ℕ) → AllFine T f t → Holds (total (framed t g)) h → OnMoved (move holdings room T t h path x) (Any P (fsum t g)) → OnMoved (move holdings room T (framed t g) h path x) P
frame_step room T f (Leaf p s) q P h [] x fine hs m = perform_frame room P p q h x hs f (act T s) fine m
frame_step room T f (Leaf p s) q P h (d ∷ ds) x fine hs m = tt
frame_step room T f (Fork k w l r) g P h [] x fine hs m = join_frame T P k g.0 w l r g.1 g.2 h m
frame_step room T f (Fork k w l r) g P h (Left ∷ ds) x fine hs m =
    let lr = holds_right (plus k g.0) (plus (total (framed l g.1)) (total (framed r g.2))) h hs in
    moved_inside holdings (move holdings room T (framed l g.1) h ds x) (λ u. Fork (plus k g.0) w u (framed r g.2)) P
    (frame_step room T (suc f) l g.1 (λ u j. P (Fork (plus k g.0) w u (framed r g.2)) j) h ds x fine.0 (holds_left (total (framed l g.1)) (total (framed r g.2)) h lr)
    (moved_map (move holdings room T l h ds x) _ _
    (λ u j n b e. n (g.0, b, g.2) (ap (λ y. plus g.0 (plus y (fsum r g.2))) e))
    (inside_any (move holdings room T l h ds x) (λ u. Fork k w u r) (Any P (plus g.0 (plus (fsum l g.1) (fsum r g.2)))) m)))
frame_step room T f (Fork k w l r) g P h (Right ∷ ds) x fine hs m =
    let lr = holds_right (plus k g.0) (plus (total (framed l g.1)) (total (framed r g.2))) h hs in
    moved_inside holdings (move holdings room T (framed r g.2) h ds x) (λ u. Fork (plus k g.0) w (framed l g.1) u) P
    (frame_step room T (suc f) r g.2 (λ u j. P (Fork (plus k g.0) w (framed l g.1) u) j) h ds x fine.1 (holds_right (total (framed l g.1)) (total (framed r g.2)) h lr)
    (moved_map (move holdings room T r h ds x) _ _
    (λ u j n b e. n (g.0, g.1, b) (ap (λ y. plus g.0 (plus (fsum l g.1) y)) e))
    (inside_any (move holdings room T r h ds x) (λ u. Fork k w l u) (Any P (plus g.0 (plus (fsum l g.1) (fsum r g.2)))) m)))

-- what the end has, beside the frame
abbrev pub With : (List ℕ → Piece → Type 0) → Piece → List ℕ → Piece → Type 0
With Q q vs r = (p : Piece) × (r ≡ plus p q) × Q vs p

module _ (T : List Proc) (halt : Halt) (Q : List ℕ → Piece → Type 0) (q : Piece) where
  pub small_holds : (t : Tree Piece) (g : Fr t) (h : Heap) → Holds (total (framed t g)) h → Holds (total t) h
  small_holds t g h hs = holds_left (total t) (fsum t g) h (subst (λ y. Holds y h) (total_framed t g) hs)

  framed_steps : (n f : ℕ) (t : Tree Piece) (g : Fr t) (h : Heap) → fsum t g ≡ q → AllFine T f t → Holds (total (framed t g)) h → ((u : Tree Piece) (b : Fr u) → fsum u b ≡ q → Safe T halt Q n f u → Safe T halt (With Q q) n f (framed u b)) → Steps T f t h (Safe T halt Q n f) → Steps T f (framed t g) h (Safe T halt (With Q q) n f)
  framed_steps n f t g h e fine hs ih st room path x =
      frame_step room T f t g (λ u j. f + depth u ≤ 64 → Safe T halt (With Q q) n f u) h path x fine hs
      (moved_map (move holdings room T t h path x) _ _
      (λ u j m b d lt. ih u b (d ∙ e) (m (subst (λ y. f + y ≤ 64) (depth_framed u b) lt))) (st room path x))

  root_frame : (n f : ℕ) (p : Piece) (s : Stack) (a : Piece) (h : Heap) (o : Option (List ℕ)) → a ≡ q → Holds (plus p a) h → ((u : Tree Piece) (b : Fr u) → fsum u b ≡ q → Safe T halt Q n f u → Safe T halt (With Q q) n f (framed u b)) → AtRoot o (λ vs. Q vs p) (Fine f (act T s) p × Steps T f (Leaf p s) h (Safe T halt Q n f)) → AtRoot o (λ vs. With Q q vs (plus p a)) (Fine f (act T s) (plus p a) × Steps T f (Leaf (plus p a) s) h (Safe T halt (With Q q) n f))
  root_frame n f p s a h None e hs ih m = (fine_more f (act T s) p a h hs m.0, framed_steps n f (Leaf p s) a h e m.0 hs ih m.1)
  root_frame n f p s a h (Some vs) e hs ih m = (p, ap (plus p) e, m)

  framed_safe : (n f : ℕ) (t : Tree Piece) (g : Fr t) → fsum t g ≡ q → Safe T halt Q n f t → Safe T halt (With Q q) n f (framed t g)
  unfolding Safe
  framed_safe zero f t g e s = tt
  framed_safe (suc n) f (Leaf p s) a e sf = λ h hs.
      root_frame n f p s a h (halt s) e hs (λ u b d su. framed_safe n f u b d su) (sf h (holds_left p a h hs))
  framed_safe (suc n) f (Fork k w l r) g e sf = λ h hs.
      let m = sf h (small_holds (Fork k w l r) g h hs) in
      (all_fine_more T f (Fork k w l r) g h hs m.0, framed_steps n f (Fork k w l r) g h e m.0 hs (λ u b d su. framed_safe n f u b d su) m.1)

  -- the law of frames
  pub frame_safe : (n f : ℕ) (p : Piece) (s : Stack) → Safe T halt Q n f (Leaf p s) → Safe T halt (With Q q) n f (Leaf (plus p q) s)
  frame_safe n f p s sf = framed_safe n f (Leaf p s) q refl sf
