-- The laws of bounded runs.
use Rattle.std.proofs.Common.{◌≡◌, ℕ, zero, suc, ◌+◌, ◌≤◌, arith, List, [], ◌∷◌, refl, sym, ap, ◌∙◌, subst}
use Rattle.std.specs.Prelude.{Option, Some, None}
use Rattle.target_code.specs.declared.tree.Proc.{Proc}
use Rattle.target_meaning.specs.declared.path.Side.TheVariants.{Left, Right}
use Rattle.target_meaning.specs.Leaf.{Stack, Run, End, Wait, act, joined}
use Rattle.target_meaning.specs.Machine.{Heap, Room, Tree, Leaf, Fork, move, depth}
use Rattle.target_meaning.specs.Piece.{Piece, plus, Holds}
use Rattle.target_meaning.specs.Held.{holdings, total, Fine, AllFine}
use Rattle.target_meaning.specs.Runs.{OnMoved}
use Rattle.triple_logic.specs.Safe.{Halt, at_end, Steps, AtRoot, Safe}
use Rattle.triple_logic.specs.Bounded.{Bounded}
use Rattle.target_meaning.proofs.Shares.{holds_left, holds_right}
use Rattle.target_meaning.proofs.Moved.{moved_map, moved_inside}
use Rattle.triple_logic.proofs.Par.{root_map, ended_steps}
use Rattle.triple_logic.proofs.Bind.{Under, on_root, depth_root, fine_map, leaf_root, fork_root}
use Rattle.triple_logic.proofs.Frame.{Fr, framed, fsum, With, small_holds, depth_framed, all_fine_more, fine_more, frame_step}

pub steps_mapped : (T : List Proc) (f : ℕ) (t : Tree Piece) (h : Heap) (P R : Tree Piece → Type 0) → ((u : Tree Piece) → P u → R u) → Steps T f t h P → Steps T f t h R
steps_mapped T f t h P R g s room path x =
    moved_map (move holdings room T t h path x) (λ u k. f + depth u ≤ 64 → P u) (λ u k. f + depth u ≤ 64 → R u) (λ u k m d. g u (m d)) (s room path x)

module _ (T : List Proc) (halt : Halt) (Q : List ℕ → Piece → Type 0) where
  over_more : (o : Option (List ℕ)) (M : List ℕ → Type 0) (G : Type 0) → AtRoot o M ⊥ → AtRoot o M G
  over_more None M G m = absurd m
  over_more (Some vs) M G m = m

  -- one step more is allowed
  pub more : (n f : ℕ) (t : Tree Piece) → Bounded T halt Q n f t → Bounded T halt Q (suc n) f t
  unfolding Bounded
  more zero f (Leaf p s) w = λ h hs. over_more (halt s) _ _ (w h hs)
  more zero f (Fork p v l r) w = absurd w
  more (suc n) f (Leaf p s) w = λ h hs.
      root_map (halt s) _ _ _ _ (λ vs m. m)
      (λ g. (g.0, steps_mapped T f (Leaf p s) h (Bounded T halt Q n f) (Bounded T halt Q (suc n) f) (λ u m. more n f u m) g.1)) (w h hs)
  more (suc n) f (Fork p v l r) w = λ h hs.
      let g = w h hs in
      (g.0, steps_mapped T f (Fork p v l r) h (Bounded T halt Q n f) (Bounded T halt Q (suc n) f) (λ u m. more n f u m) g.1)

  pub more_by : (k n f : ℕ) (t : Tree Piece) → Bounded T halt Q n f t → Bounded T halt Q (k + n) f t
  more_by zero n f t w = subst (λ y. Bounded T halt Q y f t) (let e : n ≡ 0 + n = omega arith in e) w
  more_by (suc k) n f t w = subst (λ y. Bounded T halt Q y f t) (let e : suc (k + n) ≡ suc k + n = omega arith in e) (more (k + n) f t (more_by k n f t w))

  -- what ends is safe for any number of steps
  safe_steps : (n f : ℕ) (t : Tree Piece) (h : Heap) → ((u : Tree Piece) → Bounded T halt Q n f u → Safe T halt Q n f u) → Steps T f t h (Bounded T halt Q n f) → Steps T f t h (Safe T halt Q n f)
  safe_steps n f t h g s = steps_mapped T f t h (Bounded T halt Q n f) (Safe T halt Q n f) g s

  pub ends_safe : (m b f : ℕ) (t : Tree Piece) → Bounded T halt Q b f t → Safe T halt Q m f t
  unfolding Bounded Safe
  ends_safe zero b f t w = tt
  ends_safe (suc m) zero f (Leaf p s) w = λ h hs. over_more (halt s) _ _ (w h hs)
  ends_safe (suc m) zero f (Fork p v l r) w = absurd w
  ends_safe (suc m) (suc b) f (Leaf p s) w = λ h hs.
      root_map (halt s) _ _ _ _ (λ vs x. x)
      (λ g. (g.0, steps_mapped T f (Leaf p s) h (Bounded T halt Q b f) (Safe T halt Q m f) (λ u x. ends_safe m b f u x) g.1)) (w h hs)
  ends_safe (suc m) (suc b) f (Fork p v l r) w = λ h hs.
      let g = w h hs in
      (g.0, steps_mapped T f (Fork p v l r) h (Bounded T halt Q b f) (Safe T halt Q m f) (λ u x. ends_safe m b f u x) g.1)

-- the law of binding: the bounds add up
module _ (T : List Proc) (halt1 halt : Halt) (e : Stack → Stack) (g : Wait → Wait) (U : Under T halt1 halt e g) (Q1 Q : List ℕ → Piece → Type 0) (c : ℕ) where
  abbrev pub NextBounded : ℕ → Type 0
  NextBounded f = (s : Stack) (vs : List ℕ) (p : Piece) (h : Heap) → halt1 s ≡ Some vs → Holds p h → Q1 vs p → Bounded T halt Q c f (Leaf p (e s))

  leaf_bounded : (n f : ℕ) (p : Piece) (s : Stack) (h : Heap) (o : Option (List ℕ)) → halt1 s ≡ o → Holds p h → AtRoot o (λ vs. Q1 vs p) (Fine f (act T s) p × Steps T f (Leaf p s) h (Bounded T halt1 Q1 n f)) → NextBounded f → ((u : Tree Piece) → Bounded T halt1 Q1 n f u → Bounded T halt Q (n + c) f (on_root e g u)) → AtRoot (halt (e s)) (λ vs. Q vs p) (Fine f (act T (e s)) p × Steps T f (Leaf p (e s)) h (Bounded T halt Q (n + c) f))
  unfolding Bounded
  leaf_bounded n f p s h (Some vs) o hs a next ih =
      let w : Bounded T halt Q (suc (n + c)) f (Leaf p (e s)) = subst (λ y. Bounded T halt Q y f (Leaf p (e s))) (let z : suc n + c ≡ suc (n + c) = omega arith in z) (more_by T halt Q (suc n) c f (Leaf p (e s)) (next s vs p h o hs a)) in
      w h hs
  leaf_bounded n f p s h None o hs a next ih =
      subst (λ y. AtRoot y (λ vs. Q vs p) (Fine f (act T (e s)) p × Steps T f (Leaf p (e s)) h (Bounded T halt Q (n + c) f))) (sym (U.goes s o)) (
        subst (λ y. Fine f y p) (sym (U.acts s o)) (fine_map e g f (act T s) p a.0),
        λ room path x. leaf_root T halt1 halt e g U room (λ u k. f + depth u ≤ 64 → Bounded T halt Q (n + c) f u) p s h path x o
            (moved_map (move holdings room T (Leaf p s) h path x) _ _ (λ u k m d. ih u (m (subst (λ y. f + y ≤ 64) (depth_root e g u) d))) (a.1 room path x)),
      )

  over_next : (f : ℕ) (p : Piece) (s : Stack) (h : Heap) (o : Option (List ℕ)) → halt1 s ≡ o → Holds p h → AtRoot o (λ vs. Q1 vs p) ⊥ → NextBounded f → Bounded T halt Q c f (Leaf p (e s))
  over_next f p s h None o hs m next = absurd m
  over_next f p s h (Some vs) o hs m next = next s vs p h o hs m

  here_bounded : (k f : ℕ) (p : Piece) (s : Stack) → ((h : Heap) → Holds p h → Bounded T halt Q k f (Leaf p s)) → Bounded T halt Q k f (Leaf p s)
  unfolding Bounded
  here_bounded zero f p s w = λ h hs. w h hs h hs
  here_bounded (suc k) f p s w = λ h hs. w h hs h hs

  pub bind_bounded : (n f : ℕ) (t : Tree Piece) → Bounded T halt1 Q1 n f t → NextBounded f → Bounded T halt Q (n + c) f (on_root e g t)
  unfolding Bounded
  bind_bounded zero f (Leaf p s) w next =
      subst (λ y. Bounded T halt Q y f (Leaf p (e s))) (let z : c ≡ 0 + c = omega arith in z)
      (here_bounded c f p (e s) (λ h hs. over_next f p s h (halt1 s) refl hs (w h hs) next))
  bind_bounded zero f (Fork p v l r) w next = absurd w
  bind_bounded (suc n) f (Leaf p s) w next =
      subst (λ y. Bounded T halt Q y f (Leaf p (e s))) (let z : suc (n + c) ≡ suc n + c = omega arith in z)
      (λ h hs. leaf_bounded n f p s h (halt1 s) refl hs (w h hs) next (λ u su. bind_bounded n f u su next))
  bind_bounded (suc n) f (Fork k v l r) w next =
      subst (λ y. Bounded T halt Q y f (Fork k (g v) l r)) (let z : suc (n + c) ≡ suc n + c = omega arith in z)
      (λ h hs.
      let a = w h hs in (
        a.0,
        λ room path x. fork_root T halt1 halt e g U room (λ u j. f + depth u ≤ 64 → Bounded T halt Q (n + c) f u) k v l r h path x
            (moved_map (move holdings room T (Fork k v l r) h path x) _ _
            (λ u j m d. bind_bounded n f u (m (subst (λ y. f + y ≤ 64) (depth_root e g u) d)) next) (a.1 room path x)),
      ))

-- the law of frames
module _ (T : List Proc) (halt : Halt) (Q : List ℕ → Piece → Type 0) (q : Piece) where
  framed_moves : (n f : ℕ) (t : Tree Piece) (g : Fr t) (h : Heap) → fsum t g ≡ q → AllFine T f t → Holds (total (framed t g)) h → ((u : Tree Piece) (b : Fr u) → fsum u b ≡ q → Bounded T halt Q n f u → Bounded T halt (With Q q) n f (framed u b)) → Steps T f t h (Bounded T halt Q n f) → Steps T f (framed t g) h (Bounded T halt (With Q q) n f)
  framed_moves n f t g h e fine hs ih st room path x =
      frame_step room T f t g (λ u j. f + depth u ≤ 64 → Bounded T halt (With Q q) n f u) h path x fine hs
      (moved_map (move holdings room T t h path x) _ _
      (λ u j m b d lt. ih u b (d ∙ e) (m (subst (λ y. f + y ≤ 64) (depth_framed u b) lt))) (st room path x))

  over_framed : (p : Piece) (s : Stack) (a : Piece) (o : Option (List ℕ)) → a ≡ q → AtRoot o (λ vs. Q vs p) ⊥ → AtRoot o (λ vs. With Q q vs (plus p a)) ⊥
  over_framed p s a None e m = m
  over_framed p s a (Some vs) e m = (p, ap (plus p) e, m)

  root_framed : (n f : ℕ) (p : Piece) (s : Stack) (a : Piece) (h : Heap) (o : Option (List ℕ)) → a ≡ q → Holds (plus p a) h → ((u : Tree Piece) (b : Fr u) → fsum u b ≡ q → Bounded T halt Q n f u → Bounded T halt (With Q q) n f (framed u b)) → AtRoot o (λ vs. Q vs p) (Fine f (act T s) p × Steps T f (Leaf p s) h (Bounded T halt Q n f)) → AtRoot o (λ vs. With Q q vs (plus p a)) (Fine f (act T s) (plus p a) × Steps T f (Leaf (plus p a) s) h (Bounded T halt (With Q q) n f))
  root_framed n f p s a h None e hs ih m = (fine_more f (act T s) p a h hs m.0, framed_moves n f (Leaf p s) a h e m.0 hs ih m.1)
  root_framed n f p s a h (Some vs) e hs ih m = (p, ap (plus p) e, m)

  pub framed_bounded : (n f : ℕ) (t : Tree Piece) (g : Fr t) → fsum t g ≡ q → Bounded T halt Q n f t → Bounded T halt (With Q q) n f (framed t g)
  unfolding Bounded
  framed_bounded zero f (Leaf p s) a e w = λ h hs. over_framed p s a (halt s) e (w h (holds_left p a h hs))
  framed_bounded zero f (Fork k v l r) g e w = w
  framed_bounded (suc n) f (Leaf p s) a e w = λ h hs.
      root_framed n f p s a h (halt s) e hs (λ u b d su. framed_bounded n f u b d su) (w h (holds_left p a h hs))
  framed_bounded (suc n) f (Fork k v l r) g e w = λ h hs.
      let m = w h (small_holds T halt Q q (Fork k v l r) g h hs) in
      (all_fine_more T f (Fork k v l r) g h hs m.0, framed_moves n f (Fork k v l r) g h e m.0 hs (λ u b d su. framed_bounded n f u b d su) m.1)

-- the parallel law: the bounds of both, one step for the join, and what follows
module _ (T : List Proc) (Q : List ℕ → Piece → Type 0) where
  pub bounded_fine : (a f : ℕ) (t : Tree Piece) (h : Heap) → Holds (total t) h → Bounded T at_end Q a f t → AllFine T f t
  unfolding Bounded
  bounded_fine zero f (Leaf p (End vs)) h hs w = tt
  bounded_fine zero f (Leaf p (Run g cs)) h hs w = absurd (w h hs)
  bounded_fine zero f (Fork p v l r) h hs w = absurd w
  bounded_fine (suc a) f (Leaf p (End vs)) h hs w = tt
  bounded_fine (suc a) f (Leaf p (Run g cs)) h hs w = (w h hs).0
  bounded_fine (suc a) f (Fork p v l r) h hs w = (w h hs).0

  bounded_meets : (a f : ℕ) (p : Piece) (vs : List ℕ) (h : Heap) → Holds p h → Bounded T at_end Q a f (Leaf p (End vs)) → Q vs p
  unfolding Bounded
  bounded_meets zero f p vs h hs w = w h hs
  bounded_meets (suc a) f p vs h hs w = w h hs

  abbrev pub Lower : ℕ → ℕ → Tree Piece → Type 0
  Lower a f u = (c : ℕ) × (a ≡ suc c) × Bounded T at_end Q c f u

  pub bounded_steps : (a f : ℕ) (t : Tree Piece) (h : Heap) → Holds (total t) h → Bounded T at_end Q a f t → Steps T f t h (Lower a f)
  unfolding Bounded
  bounded_steps zero f (Leaf p (End vs)) h hs w = ended_steps T f p vs h (Lower zero f)
  bounded_steps zero f (Leaf p (Run g cs)) h hs w = absurd (w h hs)
  bounded_steps zero f (Fork p v l r) h hs w = absurd w
  bounded_steps (suc a) f (Leaf p (End vs)) h hs w = ended_steps T f p vs h (Lower (suc a) f)
  bounded_steps (suc a) f (Leaf p (Run g cs)) h hs w = steps_mapped T f (Leaf p (Run g cs)) h (Bounded T at_end Q a f) (Lower (suc a) f) (λ u m. (a, refl, m)) (w h hs).1
  bounded_steps (suc a) f (Fork p v l r) h hs w = steps_mapped T f (Fork p v l r) h (Bounded T at_end Q a f) (Lower (suc a) f) (λ u m. (a, refl, m)) (w h hs).1

module _ (T : List Proc) (halt : Halt) (Q1 Q2 Q : List ℕ → Piece → Type 0) (k : Piece) (w : Wait) (c f : ℕ) where
  abbrev pub AfterBounded : Type 0
  AfterBounded =
      (xs ys : List ℕ) (p q : Piece) (h : Heap) → Holds (plus k (plus p q)) h → Q1 xs p → Q2 ys q → Bounded T halt Q c f (Leaf (plus k (plus p q)) (joined w xs ys))

  join_bounded : (room : Room) (n a b : ℕ) (l r : Tree Piece) (h : Heap) (x : ℕ) → Holds (plus k (plus (total l) (total r))) h → Bounded T at_end Q1 a (suc f) l → Bounded T at_end Q2 b (suc f) r → AfterBounded → OnMoved (move holdings room T (Fork k w l r) h [] x) (λ u g. f + depth u ≤ 64 → Bounded T halt Q (n + c) f u)
  join_bounded room n a b (Leaf p (End xs)) (Leaf q (End ys)) h x hs wl wr after = λ d.
      more_by T halt Q n c f _
      (after xs ys p q h hs
      (bounded_meets T Q1 a (suc f) p xs h (holds_left p q h (holds_right k (plus p q) h hs)) wl)
      (bounded_meets T Q2 b (suc f) q ys h (holds_right p q h (holds_right k (plus p q) h hs)) wr))
  join_bounded room n a b (Leaf p (End xs)) (Leaf q (Run g cs)) h x hs wl wr after = tt
  join_bounded room n a b (Leaf p (End xs)) (Fork q v y z) h x hs wl wr after = tt
  join_bounded room n a b (Leaf p (Run g cs)) (Leaf q s) h x hs wl wr after = tt
  join_bounded room n a b (Leaf p (Run g cs)) (Fork q v y z) h x hs wl wr after = tt
  join_bounded room n a b (Fork p v y z) r h x hs wl wr after = tt

  abbrev Fewer : ℕ → Type 0
  Fewer n =
      (m a b : ℕ) (l r : Tree Piece) → n ≡ suc m → a + b ≡ m → Bounded T at_end Q1 a (suc f) l → Bounded T at_end Q2 b (suc f) r → Bounded T halt Q (n + c) f (Fork k w l r)

  both_steps : (n a b : ℕ) (l r : Tree Piece) (h : Heap) → a + b ≡ n → Holds (plus k (plus (total l) (total r))) h → Bounded T at_end Q1 a (suc f) l → Bounded T at_end Q2 b (suc f) r → AfterBounded → Fewer n → Steps T f (Fork k w l r) h (Bounded T halt Q (n + c) f)
  both_steps n a b l r h e hs wl wr after ih room [] x = join_bounded room n a b l r h x hs wl wr after
  both_steps n a b l r h e hs wl wr after ih room (Left ∷ ds) x =
      moved_inside holdings (move holdings room T l h ds x) (λ t. Fork k w t r) (λ u g. f + depth u ≤ 64 → Bounded T halt Q (n + c) f u)
      (moved_map (move holdings room T l h ds x) _ _
      (λ u g m d. let v = m (omega arith) in ih (v.0 + b) v.0 b u r (omega (arith, e, v.1)) refl v.2 wr)
      (bounded_steps T Q1 a (suc f) l h (holds_left (total l) (total r) h (holds_right k (plus (total l) (total r)) h hs)) wl room ds x))
  both_steps n a b l r h e hs wl wr after ih room (Right ∷ ds) x =
      moved_inside holdings (move holdings room T r h ds x) (λ t. Fork k w l t) (λ u g. f + depth u ≤ 64 → Bounded T halt Q (n + c) f u)
      (moved_map (move holdings room T r h ds x) _ _
      (λ u g m d. let v = m (omega arith) in ih (a + v.0) a v.0 l u (omega (arith, e, v.1)) refl wl v.2)
      (bounded_steps T Q2 b (suc f) r h (holds_right (total l) (total r) h (holds_right k (plus (total l) (total r)) h hs)) wr room ds x))

  fork_at : (n a b : ℕ) (l r : Tree Piece) → a + b ≡ n → Bounded T at_end Q1 a (suc f) l → Bounded T at_end Q2 b (suc f) r → AfterBounded → Fewer n → Bounded T halt Q (suc (n + c)) f (Fork k w l r)
  unfolding Bounded
  fork_at n a b l r e wl wr after ih = λ h hs.
      let both = holds_right k (plus (total l) (total r)) h hs in (
        (bounded_fine T Q1 a (suc f) l h (holds_left (total l) (total r) h both) wl, bounded_fine T Q2 b (suc f) r h (holds_right (total l) (total r) h both) wr),
        both_steps n a b l r h e hs wl wr after ih,
      )

  pub fork_bounded : (n a b : ℕ) (l r : Tree Piece) → a + b ≡ n → Bounded T at_end Q1 a (suc f) l → Bounded T at_end Q2 b (suc f) r → AfterBounded → Bounded T halt Q (suc (n + c)) f (Fork k w l r)
  fork_bounded zero a b l r e wl wr after = fork_at zero a b l r e wl wr after (λ m a' b' l' r' d e' wl' wr'. absurd (let z : ⊥ = cc d in z))
  fork_bounded (suc n) a b l r e wl wr after =
      fork_at (suc n) a b l r e wl wr after
      (λ m a' b' l' r' d e' wl' wr'.
      subst (λ y. Bounded T halt Q y f (Fork k w l' r')) (let z : suc (n + c) ≡ suc n + c = omega arith in z)
      (fork_bounded n a' b' l' r' (omega (arith, d, e')) wl' wr' after))
