-- Hands and lends that name pieces, ranges, and the size of shares.
use Rattle.std.proofs.Common.{◌≡◌, ℕ, zero, suc, ◌+◌, ◌-◌, ◌/◌, ◌*◌, ◌<◌, ◌≤◌, Bool, true, false, cond, ◌&&◌, List, [], ◌∷◌, ◌++◌, length, take, drop, refl, sym, ap, ◌∙◌, subst, arith, eqb, eq-eqb, ne_eqb, ltb, ⊎_elim, ◌⊎◌, lt-ltb, le-ltb, le-leb, length-append, length-drop, ◌^◌}
use Rattle.std.proofs.Math.Nat.{pow-succ'}
use Rattle.std.proofs.lemmas.List.{length-take, get_or-take, get_or-drop}
use Rattle.std.proofs.lemmas.List.{get_or_append_left, get_or-append-add}
use Rattle.std.proofs.Math.Path.{fun_ext}
use Rattle.std.specs.Prelude.{Option, Some, None, slice_index}
use Rattle.target_meaning.specs.Leaf.{Part, Child, Wait, Split}
use Rattle.target_meaning.specs.Piece.{Share, Nil, Some_of, Clash, add, Piece, plus, share_of, half, rest}
use Rattle.target_meaning.specs.Held.{IsHeld, Fine, AreApart, holdings, left_takes, right_takes, Take, all_given, all_kept, Spanned, Places, CanHalve, CanTake, in_part, given_share, kept_share, given, kept}
use Rattle.triple_logic.specs.Parts.{Inside, Outside, half_of, rest_of, gift_share, left_share, gift, left_of, takes_of, pieces_of, gifts_of, lefts_of, AreNamed, CanGive, front, back, AtLeast}
use Rattle.triple_logic.specs.Sample.{HasValue, IsSlice}
use Rattle.target_meaning.proofs.Shares.{plus-assoc, plus-comm, add-nil}

-- ---- parts that name pieces

abbrev all_of : Part → Take
all_of t = record { part = t; all = true }

abbrev half_take : Part → Take
half_take t = record { part = t; all = false }

all_given_at : (s : Bool) (a r : Share) → (s ≡ false → a ≡ Nil) → (s ≡ true → r ≡ Nil) → given_share s true (add a r) ≡ a
all_given_at true a r i o = ap (add a) (o refl) ∙ add-nil a
all_given_at false a r i o = sym (i refl)

all_kept_at : (s : Bool) (a r : Share) → (s ≡ false → a ≡ Nil) → (s ≡ true → r ≡ Nil) → kept_share s true (add a r) ≡ r
all_kept_at true a r i o = sym (o refl)
all_kept_at false a r i o = ap (λ y. add y r) (i refl)

half_given_at : (s : Bool) (a r : Share) → (s ≡ false → a ≡ Nil) → (s ≡ true → r ≡ Nil) → given_share s false (add a r) ≡ half a
half_given_at true a r i o = ap half (ap (add a) (o refl) ∙ add-nil a)
half_given_at false a r i o = sym (ap half (i refl))

half_kept_at : (s : Bool) (a r : Share) → (s ≡ false → a ≡ Nil) → (s ≡ true → r ≡ Nil) → kept_share s false (add a r) ≡ add (rest a) r
half_kept_at true a r i o = ap rest (ap (add a) (o refl) ∙ add-nil a) ∙ sym (ap (add (rest a)) (o refl) ∙ add-nil (rest a))
half_kept_at false a r i o = ap (λ y. add y r) (i refl) ∙ sym (ap (λ y. add (rest y) r) (i refl))

-- a hand of a part gives the piece that it names, and a lend half of it
pub hand_given : (t : Part) (a r : Piece) → Inside t a → Outside t r → given (all_of t) (plus a r) ≡ a
hand_given t a r i o = fun_ext (λ b. fun_ext (λ j. all_given_at (in_part t b j) (a b j) (r b j) (i b j) (o b j)))

pub hand_kept : (t : Part) (a r : Piece) → Inside t a → Outside t r → kept (all_of t) (plus a r) ≡ r
hand_kept t a r i o = fun_ext (λ b. fun_ext (λ j. all_kept_at (in_part t b j) (a b j) (r b j) (i b j) (o b j)))

pub lend_given : (t : Part) (a r : Piece) → Inside t a → Outside t r → given (half_take t) (plus a r) ≡ half_of a
lend_given t a r i o = fun_ext (λ b. fun_ext (λ j. half_given_at (in_part t b j) (a b j) (r b j) (i b j) (o b j)))

pub lend_kept : (t : Part) (a r : Piece) → Inside t a → Outside t r → kept (half_take t) (plus a r) ≡ plus (rest_of a) r
lend_kept t a r i o = fun_ext (λ b. fun_ext (λ j. half_kept_at (in_part t b j) (a b j) (r b j) (i b j) (o b j)))

-- what is lent lies where it lay
rest_nil : (a : Share) → a ≡ Nil → rest a ≡ Nil
rest_nil a e = ap rest e

pub rest_inside : (t : Part) (a : Piece) → Inside t a → Inside t (rest_of a)
rest_inside t a i b j e = rest_nil (a b j) (i b j e)

-- ---- hands and lends of any number

-- a place of a part, where the rest has nothing of the part
place_same : (t : Part) (a r : Piece) (j : ℕ) → Outside t r → in_part t t.block j ≡ true → plus a r t.block j ≡ a t.block j
place_same t a r j o e = ap (add (a t.block j)) (o t.block j e) ∙ add-nil (a t.block j)

pub in_word : (b lo len i : ℕ) → lo ≤ i → i < lo + len → in_part (record { block = b; span = Some (lo, len) }) b (suc i) ≡ true
in_word b lo len i l h = rw (eq-eqb b b refl, lt-ltb lo (suc i) (omega (arith, l)), le-leb (suc i) (lo + len) (omega (arith, h))) refl

in_block : (b j : ℕ) → in_part (record { block = b; span = None }) b j ≡ true
in_block b j = rw (eq-eqb b b refl) refl

can_whole : (b : ℕ) (all : Bool) (a r : Piece) (x y : Share) → a b 0 ≡ x → plus a r b 0 ≡ y → x ≡ y → Outside (record { block = b; span = None }) r → Spanned None x (λ j. CanHalve all (a b j)) → Spanned None y (λ j. CanHalve all (plus a r b j))
can_whole b all a r Nil y ex ey e o w = absurd w
can_whole b all a r Clash y ex ey e o w = absurd w
can_whole b all a r (Some_of n k) y ex ey e o w =
    subst (λ z. Spanned None z (λ j. CanHalve all (plus a r b j))) e
    (subst (CanHalve all) (sym (place_same (record { block = b; span = None }) a r 0 o (in_block b 0))) w.0, λ i lt. subst (CanHalve all) (sym (place_same (record { block = b; span = None }) a r (suc i) o (in_block b (suc i)))) (w.1 i lt))

can_one : (b : ℕ) (s : Option (ℕ × ℕ)) (all : Bool) (a r : Piece) → Outside (record { block = b; span = s }) r → Places (record { block = b; span = s }) a (λ j. CanHalve all (a b j)) → Places (record { block = b; span = s }) (plus a r) (λ j. CanHalve all (plus a r b j))
can_one b (Some s) all a r o w = λ i lo hi. subst (CanHalve all) (sym (place_same (record { block = b; span = Some s }) a r (suc i) o (in_word b s.0 s.1 i lo hi))) (w i lo hi)
can_one b None all a r o w = can_whole b all a r (a b 0) (plus a r b 0) refl refl (sym (place_same (record { block = b; span = None }) a r 0 o (in_block b 0))) o w

given_named : (s all : Bool) (a r : Share) → (s ≡ false → a ≡ Nil) → (s ≡ true → r ≡ Nil) → given_share s all (add a r) ≡ gift_share all a
given_named s true a r i o = all_given_at s a r i o
given_named s false a r i o = half_given_at s a r i o

kept_named : (s all : Bool) (a r : Share) → (s ≡ false → a ≡ Nil) → (s ≡ true → r ≡ Nil) → kept_share s all (add a r) ≡ add (left_share all a) r
kept_named s true a r i o = all_kept_at s a r i o
kept_named s false a r i o = half_kept_at s a r i o

given_first : (t : Take) (a s r : Piece) → Inside t.part a → Outside t.part (plus s r) → given t (plus (plus a s) r) ≡ gift t.all a
given_first t a s r i o = ap (given t) (plus-assoc a s r) ∙ fun_ext (λ b. fun_ext (λ j. given_named (in_part t.part b j) t.all (a b j) (plus s r b j) (i b j) (o b j)))

kept_first : (t : Take) (a s r : Piece) → Inside t.part a → Outside t.part (plus s r) → kept t (plus (plus a s) r) ≡ plus s (plus (left_of t.all a) r)
kept_first t a s r i o =
    ap (kept t) (plus-assoc a s r) ∙ fun_ext (λ b. fun_ext (λ j. kept_named (in_part t.part b j) t.all (a b j) (plus s r b j) (i b j) (o b j))) ∙
    sym (plus-assoc (left_of t.all a) s r) ∙ ap (λ y. plus y r) (plus-comm (left_of t.all a) s) ∙ plus-assoc s (left_of t.all a) r

-- what takings that name pieces give
pub takes_give : (xs : List (Take × Piece)) (r : Piece) → AreNamed xs r → all_given (takes_of xs) (plus (pieces_of xs) r) ≡ gifts_of xs
takes_give [] r w = refl
takes_give (x ∷ xs) r w =
    ap (λ y. plus y (all_given (takes_of xs) (kept x.0 (plus (plus x.1 (pieces_of xs)) r)))) (given_first x.0 x.1 (pieces_of xs) r w.0 w.1) ∙
    ap (λ y. plus (gift x.0.all x.1) (all_given (takes_of xs) y)) (kept_first x.0 x.1 (pieces_of xs) r w.0 w.1) ∙
    ap (plus (gift x.0.all x.1)) (takes_give xs (plus (left_of x.0.all x.1) r) w.2)

-- what they leave
pub takes_keep : (xs : List (Take × Piece)) (r : Piece) → AreNamed xs r → all_kept (takes_of xs) (plus (pieces_of xs) r) ≡ plus (lefts_of xs) r
takes_keep [] r w = refl
takes_keep (x ∷ xs) r w =
    ap (all_kept (takes_of xs)) (kept_first x.0 x.1 (pieces_of xs) r w.0 w.1) ∙ takes_keep xs (plus (left_of x.0.all x.1) r) w.2 ∙
    sym (plus-assoc (lefts_of xs) (left_of x.0.all x.1) r) ∙ ap (λ y. plus y r) (plus-comm (lefts_of xs) (left_of x.0.all x.1))

-- and they can be taken, where each piece can be given by itself
pub can_take : (xs : List (Take × Piece)) (r : Piece) → AreNamed xs r → CanGive xs → CanTake (takes_of xs) (plus (pieces_of xs) r)
can_take [] r w g = tt
can_take (x ∷ xs) r w g = (
  subst (λ y. Places x.0.part y (λ j. CanHalve x.0.all (y x.0.part.block j))) (sym (plus-assoc x.1 (pieces_of xs) r)) (can_one x.0.part.block x.0.part.span x.0.all x.1 (plus (pieces_of xs) r) w.1 g.0),
  subst (CanTake (takes_of xs)) (sym (kept_first x.0 x.1 (pieces_of xs) r w.0 w.1)) (can_take xs (plus (left_of x.0.all x.1) r) w.2 g.1),
)

-- a fork whose hands and lends name pieces: the left takings of p, and the right ones of what is then left
module _ (xs ys : List (Take × Piece)) (r u : Piece) (l k : Child) (el : left_takes l ≡ takes_of xs) (ek : right_takes l k ≡ takes_of ys) (nx : AreNamed xs r) (rest_is : plus (lefts_of xs) r ≡ plus (pieces_of ys) u) (ny : AreNamed ys u) where
  abbrev all : Piece
  all = plus (pieces_of xs) r

  after_left : all_kept (left_takes l) all ≡ plus (pieces_of ys) u
  after_left = ap (λ y. all_kept y all) el ∙ takes_keep xs r nx ∙ rest_is

  pub fork_left : holdings.left all l k ≡ gifts_of xs
  fork_left = ap (λ y. all_given y all) el ∙ takes_give xs r nx

  pub fork_right : holdings.right all l k ≡ gifts_of ys
  fork_right = ap (all_given (right_takes l k)) after_left ∙ ap (λ y. all_given y (plus (pieces_of ys) u)) ek ∙ takes_give ys u ny

  pub fork_kept : holdings.kept all l k ≡ plus (lefts_of ys) u
  fork_kept = ap (all_kept (right_takes l k)) after_left ∙ ap (λ y. all_kept y (plus (pieces_of ys) u)) ek ∙ takes_keep ys u ny

  pub fork_fine : (f : ℕ) (w : Wait) → CanGive xs → CanGive ys → AreApart (l.hands ++ l.lends) → AreApart (k.hands ++ k.lends) → Fine f (Split l k w) all
  fork_fine f w gx gy al ak lt = (
    subst (λ y. CanTake y all) (sym el) (can_take xs r nx gx),
    subst (λ y. CanTake (right_takes l k) y) (sym after_left) (subst (λ y. CanTake y (plus (pieces_of ys) u)) (sym ek) (can_take ys u ny gy)),
    al,
    ak,
  )

-- ---- ranges

split_at : (e : Bool) (x : Share) → add (cond e x Nil) (cond e Nil x) ≡ x
split_at true x = add-nil x
split_at false x = refl

pub front-back : (b m : ℕ) (p : Piece) → plus (front b m p) (back b m p) ≡ p
front-back b m p = fun_ext (λ c. fun_ext (λ j. split_at (eqb c b && ltb j m) (p c j)))

module _ (xs : List ℕ) (b off k : ℕ) (p : Piece) (le : k ≤ length xs) (s : IsSlice xs b off p) where
  front_in : (j : ℕ) → j < off + k → front b (suc (off + k)) p b (suc j) ≡ p b (suc j)
  front_in j lt = rw (eq-eqb b b refl, lt-ltb (suc j) (suc (off + k)) (omega arith)) refl

  front_out : (j : ℕ) → off + k ≤ j → front b (suc (off + k)) p b (suc j) ≡ Nil
  front_out j le' = rw (eq-eqb b b refl, le-ltb (suc j) (suc (off + k)) (omega arith)) refl

  pub front_slice : IsSlice (take k xs) b off (front b (suc (off + k)) p)
  front_slice =
      let n : length (take k xs) ≡ k = omega (arith, length-take k xs, le) in
      record {
        words = λ i lt. let lk : i < k = omega (arith, lt, n) in rw (front_in (off + i) (omega arith), get_or-take k xs i 0 lk) (s.words i (omega (arith, lk, le)));
        no_name = rw (eq-eqb b b refl, lt-ltb 0 (suc (off + k)) (omega arith)) s.no_name;
        before = λ j lt. front_in j (omega arith) ∙ s.before j lt;
        after = λ j le'. front_out j (omega (arith, le', n));
        others = λ c j ne. rw (ne_eqb c b ne) refl;
      }

  back_in : (j : ℕ) → off + k ≤ j → back b (suc (off + k)) p b (suc j) ≡ p b (suc j)
  back_in j le' = rw (eq-eqb b b refl, le-ltb (suc j) (suc (off + k)) (omega arith)) refl

  back_out : (j : ℕ) → j < suc (off + k) → back b (suc (off + k)) p b j ≡ Nil
  back_out j lt = rw (eq-eqb b b refl, lt-ltb j (suc (off + k)) lt) refl

  pub back_slice : IsSlice (drop k xs) b (off + k) (back b (suc (off + k)) p)
  back_slice =
      let n : length (drop k xs) ≡ length xs - k = length-drop k xs in
      record {
        words = λ i lt.
            let e : off + k + i ≡ off + (k + i) = omega arith in
            rw (back_in (off + k + i) (omega arith), get_or-drop k xs i 0, e) (s.words (k + i) (omega (arith, lt, n)));
        no_name = back_out 0 (omega arith);
        before = λ j lt. back_out (suc j) (omega (arith, lt));
        after = λ j le'. back_in j (omega (arith, le')) ∙ s.after j (omega (arith, le', n, le));
        others = λ c j ne. rw (ne_eqb c b ne) (s.others c j ne);
      }

-- two ranges that touch make one
module _ (xs ys : List ℕ) (b off : ℕ) (p q : Piece) (s : IsSlice xs b off p) (t : IsSlice ys b (off + length xs) q) where
  value_left : (x y : Share) (v : ℕ) → y ≡ Nil → HasValue x v → HasValue (add x y) v
  value_left x y v e h = subst (λ z. HasValue z v) (sym (ap (add x) e ∙ add-nil x)) h

  value_right : (x y : Share) (v : ℕ) → x ≡ Nil → HasValue y v → HasValue (add x y) v
  value_right x y v e h = subst (λ z. HasValue z v) (sym (ap (λ z. add z y) e)) h

  both_nil : (x y : Share) → x ≡ Nil → y ≡ Nil → add x y ≡ Nil
  both_nil x y e d = ap (λ z. add z y) e ∙ d

  pub join_slice : IsSlice (xs ++ ys) b off (plus p q)
  join_slice =
      let n : length (xs ++ ys) ≡ length xs + length ys = length-append xs ys in
      record {
        words = λ i lt.
            ⊎_elim
            (λ w. rw (get_or_append_left xs ys 0 i w) (value_left (p b (suc (off + i))) (q b (suc (off + i))) (slice_index xs i) (t.before (off + i) (omega (arith, w))) (s.words i w)))
            (λ w.
            let m : off + length xs + (i - length xs) ≡ off + i = omega (arith, w) in
            let at : slice_index (xs ++ ys) i ≡ slice_index ys (i - length xs) =
            ap (slice_index (xs ++ ys)) (let z : i ≡ length xs + (i - length xs) = omega (arith, w) in z) ∙ get_or-append-add xs ys (i - length xs) 0 in
            rw at
            (value_right (p b (suc (off + i))) (q b (suc (off + i))) (slice_index ys (i - length xs)) (s.after (off + i) (omega (arith, w)))
            (subst (λ y. HasValue (q b (suc y)) (slice_index ys (i - length xs))) m (t.words (i - length xs) (omega (arith, w, lt, n))))))
            (let o : (i < length xs) ⊎ (length xs ≤ i) = grind arith in o);
        no_name = both_nil (p b 0) (q b 0) s.no_name t.no_name;
        before = λ j lt. both_nil (p b (suc j)) (q b (suc j)) (s.before j lt) (t.before j (omega (arith, lt)));
        after = λ j le'. both_nil (p b (suc j)) (q b (suc j)) (s.after j (omega (arith, le', n))) (t.after j (omega (arith, le', n)));
        others = λ c j ne. both_nil (p c j) (q c j) (s.others c j ne) (t.others c j ne);
      }

-- ---- a share of at least 2^(64 - f) can be halved below f forks, and the halves are of at least 2^(64 - (f + 1))

share_least : (m v s : ℕ) → m ≤ s → AtLeast m (share_of v s)
share_least m v zero le = tt
share_least m v (suc k) le = le

pub half_least : (m : ℕ) (x : Share) → AtLeast (2 * m) x → AtLeast m (half x) × AtLeast m (rest x)
half_least m Nil w = (tt, tt)
half_least m (Some_of v k) w = (share_least m v (suc k / 2) (omega (arith, w)), share_least m v (suc k - suc k / 2) (omega (arith, w)))
half_least m Clash w = (tt, tt)

pub can_lend : (m : ℕ) (x : Share) → 0 < m → AtLeast (2 * m) x → IsHeld x → CanHalve false x
can_lend m Nil lt w h = absurd h
can_lend m (Some_of v k) lt w h = omega (arith, lt, w)
can_lend m Clash lt w h = absurd h

pub power_step : (f : ℕ) → f < 64 → 2 ^ (64 - f) ≡ 2 * 2 ^ (64 - suc f)
power_step f lt =
    let e : 64 - f ≡ suc (64 - suc f) = omega (arith, lt) in
    ap (λ y. 2 ^ y) e ∙ pow-succ' 2 (64 - suc f)
