-- What a caller knows of a view after a call.
use Rattle.std.proofs.Common.{◌≡◌, ◌≢◌, ℕ, zero, suc, ◌+◌, ◌-◌, ◌*◌, ◌/◌, ◌<◌, ◌≤◌, ◌⊎◌, inl, inr, Bool, true, false, cond, ◌||◌, List, [], ◌∷◌, refl, sym, ap, ◌∙◌, subst, arith, leb, ltb, ◌&&◌, le-leb, le-ltb, lt-ltb}
use Rattle.std.proofs.lemmas.Bool.{lt-leb}
use mathlib.Core.Logic.{dite}
use native.Mathlib.Decide.{ℕ_discrete}
use Rattle.block_dir.specs.declared.view.Cell.{Cell}
use Rattle.block_dir.specs.declared.view.View.{View}
use Rattle.block_dir.specs.declared.Part.{Part}
use Rattle.block_dir.specs.Views.{whole, no_cell, place, fill, cell_of, share_of, pick, won, released, written, revalued, header_cell, word_cell, merged, joined, marked, marks, mark_cell, amount, in_range, span_start, span_count, part_start, part_count, covers, handed_share, kept, handed, Unmarked, Sound}
use Rattle.block_dir.specs.Calls.{HasWord, OwnsWord}
use Rattle.block_dir.specs.Steps.{IsWhole}
use Rattle.block_dir.proofs.Cells.{place-put_same, place-put_else, place-fill_in, place-fill_before, place-fill_past, mark_share, mark_value, mark_home}
use Rattle.block_dir.proofs.Seats.{picked, kept_cell, given_cell, joined_cell, marked_cell, cell_marked}

pub cell_won-header : (q n : ℕ) (v : View) → cell_of q (won q n v) ≡ header_cell q n
unfolding won
cell_won-header q n v = place-put_same (fill v.cells (q + 1) n (word_cell q)) q (header_cell q n)

pub cell_won-word : (q n : ℕ) (v : View) (p : ℕ) → q < p → p ≤ q + n → cell_of p (won q n v) ≡ word_cell q
unfolding won
cell_won-word q n v p lo hi = place-put_else (fill v.cells (q + 1) n (word_cell q)) q p (header_cell q n) (λ e. omega arith) ∙ place-fill_in v.cells (q + 1) n (word_cell q) p (omega arith) (omega arith)

pub cell_won-else : (q n p : ℕ) (v : View) → (p < q) ⊎ (q + n < p) → cell_of p (won q n v) ≡ cell_of p v
unfolding won
cell_won-else q n p v (inl h) = place-put_else (fill v.cells (q + 1) n (word_cell q)) q p (header_cell q n) (λ e. omega arith) ∙ place-fill_before v.cells (q + 1) n (word_cell q) p (omega arith)
cell_won-else q n p v (inr h) = place-put_else (fill v.cells (q + 1) n (word_cell q)) q p (header_cell q n) (λ e. omega arith) ∙ place-fill_past v.cells (q + 1) n (word_cell q) p (omega arith)

pub share_released : (b n p : ℕ) (v : View) → b ≤ p → p ≤ b + n → share_of p (released b n v) ≡ 0
unfolding released
share_released b n p v lo hi = ap (λ (c : Cell). c.share) (place-fill_in v.cells b (n + 1) no_cell p lo (omega arith))

pub cell_released-else : (b n p : ℕ) (v : View) → (p < b) ⊎ (b + n < p) → cell_of p (released b n v) ≡ cell_of p v
unfolding released
cell_released-else b n p v (inl h) = place-fill_before v.cells b (n + 1) no_cell p h
cell_released-else b n p v (inr h) = place-fill_past v.cells b (n + 1) no_cell p (omega arith)

pub whole_won : (q n : ℕ) (v : View) → IsWhole (won q n v) q n
unfolding won
whole_won q n v = let h = cell_won-header q n v in record {
  header = ap (λ (c : Cell). c.value) h;
  name = ap (λ (c : Cell). c.home) h;
  all = λ p lo hi. dite (ℕ_discrete p q)
      (λ e. subst (λ (z : ℕ). share_of z (won q n v) ≡ whole) (sym e) (ap (λ (c : Cell). c.share) h))
      (λ ne. ap (λ (c : Cell). c.share) (cell_won-word q n v p (omega arith) hi));
}

pub owns_won : (q n : ℕ) (v : View) (i : ℕ) → i < n → OwnsWord (won q n v) q i
unfolding won
owns_won q n v i h = let c = cell_won-word q n v (q + 1 + i) (omega arith) (omega arith) in record { share = ap (λ (c : Cell). c.share) c; home = ap (λ (c : Cell). c.home) c }

-- each word of a block that a seat has whole is owned
pub owns_whole : (v : View) (b n i : ℕ) → Sound v → IsWhole v b n → i < n → OwnsWord v b i
owns_whole v b n i s o lt =
    let first = o.all b (omega arith) (omega arith) in let all = o.all (b + 1 + i) (omega arith) (omega arith) in let head = o.header in
    record { share = all; home = s.inside b (b + 1 + i) (omega arith) o.name (omega arith) (omega arith) (omega arith) }

-- the length of a block whose name a seat holds
pub length_of-held : (v : View) (b : ℕ) → Sound v → 0 < share_of b v → (cell_of b v).home ≡ b → (n : ℕ) × ((cell_of b v).value ≡ 2 * n + 2) × (b + n ≤ v.room)
length_of-held v b s h home = let k = s.header b h home in let even = k.0 in let two = k.1 in let up = k.2 in ((cell_of b v).value / 2 - 1, omega arith, omega arith)

pub has_owned : (v : View) (b i : ℕ) → OwnsWord v b i → HasWord v b i
has_owned v b i o = let a = o.share in record { share = omega arith; home = o.home }

pub cell_written-same : (p x : ℕ) (v : View) → cell_of p (written p x v) ≡ revalued x (cell_of p v)
unfolding written
cell_written-same p x v = place-put_same v.cells p (revalued x (place v.cells p))

pub cell_written-else : (p x : ℕ) (v : View) (k : ℕ) → k ≢ p → cell_of k (written p x v) ≡ cell_of k v
unfolding written
cell_written-else p x v k ne = place-put_else v.cells p k (revalued x (place v.cells p)) ne

pub share_written : (p x : ℕ) (v : View) (k : ℕ) → share_of k (written p x v) ≡ share_of k v
unfolding written
share_written p x v k = dite (ℕ_discrete k p)
    (λ e. subst (λ (z : ℕ). share_of z (written p x v) ≡ share_of z v) (sym e) (ap (λ (c : Cell). c.share) (cell_written-same p x v)))
    (λ ne. ap (λ (c : Cell). c.share) (cell_written-else p x v k ne))

pub home_written : (p x : ℕ) (v : View) (k : ℕ) → (cell_of k (written p x v)).home ≡ (cell_of k v).home
unfolding written
home_written p x v k = dite (ℕ_discrete k p)
    (λ e. subst (λ (z : ℕ). (cell_of z (written p x v)).home ≡ (cell_of z v).home) (sym e) (ap (λ (c : Cell). c.home) (cell_written-same p x v)))
    (λ ne. ap (λ (c : Cell). c.home) (cell_written-else p x v k ne))

pub owns_written : (p x : ℕ) (v : View) (b i : ℕ) → OwnsWord v b i → OwnsWord (written p x v) b i
unfolding written
owns_written p x v b i o = record { share = share_written p x v (b + 1 + i) ∙ o.share; home = home_written p x v (b + 1 + i) ∙ o.home }

pub whole_written : (p x : ℕ) (v : View) (b n : ℕ) → b ≢ p → IsWhole v b n → IsWhole (written p x v) b n
unfolding written
whole_written p x v b n ne o = record {
  header = ap (λ (c : Cell). c.value) (cell_written-else p x v b ne) ∙ o.header;
  name = home_written p x v b ∙ o.name;
  all = λ k lo hi. share_written p x v k ∙ o.all k lo hi;
}

pub cell_joined : (v u : View) (p : ℕ) → cell_of p (joined v u) ≡ merged (cell_of p v) (cell_of p u)
cell_joined v u p = joined_cell v u p

pub share_joined : (v u : View) (p : ℕ) → share_of p (joined v u) ≡ share_of p v + share_of p u
share_joined v u p = ap (λ (c : Cell). c.share) (joined_cell v u p)

pub joined_own : (v u : View) (p : ℕ) → 0 < share_of p v → ((cell_of p (joined v u)).value ≡ (cell_of p v).value) × ((cell_of p (joined v u)).home ≡ (cell_of p v).home)
joined_own v u p h = let c = joined_cell v u p in let x = cell_of p v in let y = cell_of p u in (ap (λ (d : Cell). d.value) c ∙ picked x.share x.value y.value h, ap (λ (d : Cell). d.home) c ∙ picked x.share x.home y.home h)

pub joined_other : (v u : View) (p : ℕ) → share_of p v ≡ 0 → ((cell_of p (joined v u)).value ≡ (cell_of p u).value) × ((cell_of p (joined v u)).home ≡ (cell_of p u).home)
joined_other v u p z = let c = joined_cell v u p in let x = cell_of p v in let y = cell_of p u in (ap (λ (d : Cell). d.value) c ∙ ap (λ (k : ℕ). pick k x.value y.value) z, ap (λ (d : Cell). d.home) c ∙ ap (λ (k : ℕ). pick k x.home y.home) z)

covers_marked : (x : Part) (half : Bool) (v : View) (xs : List Part) (p : ℕ) → covers (marked x half v) xs p ≡ covers v xs p
covers_marked x half v [] p = refl
covers_marked x half v (y ∷ xs) p =
    let m = marked_cell x half v y.block in
    let e = ap (λ (c : Cell). c.value) m.1 ∙ mark_value m.0 half (cell_of y.block v) in
    let r = covers_marked x half v xs p in
    λ i. in_range (span_start y.block y.span) (span_count (e i) y.span) p || r i

-- what marks leave of a cell
pub record Marked (half : Bool) (v : View) (xs : List Part) (p : ℕ) (c : Cell) : Type 0 where
  pub share : c.share ≡ share_of p v
  pub value : c.value ≡ (cell_of p v).value
  pub home : c.home ≡ (cell_of p v).home
  pub going : c.going ≡ cond (covers v xs p) (amount half (share_of p v)) (cell_of p v).going

or_going : (a b : Bool) (half : Bool) (c : Cell) → cond b (amount half (mark_cell a half c).share) (mark_cell a half c).going ≡ cond (a || b) (amount half c.share) c.going
or_going true true half c = refl
or_going true false half c = refl
or_going false b half c = refl

pub cell_marks : (xs : List Part) (half : Bool) (v : View) (p : ℕ) → Marked half v xs p (cell_of p (marks xs half v))
cell_marks [] half v p = record { share = refl; value = refl; home = refl; going = refl }
cell_marks (x ∷ xs) half v p =
    let r = cell_marks xs half (marked x half v) p in
    let b = in_range (part_start v x) (part_count v x) p in
    let m : cell_of p (marked x half v) ≡ mark_cell b half (cell_of p v) = cell_marked x half v p in record {
      share = r.share ∙ (ap (λ (c : Cell). c.share) m ∙ mark_share b half (cell_of p v));
      value = r.value ∙ (ap (λ (c : Cell). c.value) m ∙ mark_value b half (cell_of p v));
      home = r.home ∙ (ap (λ (c : Cell). c.home) m ∙ mark_home b half (cell_of p v));
      going = r.going ∙ ((λ i. cond (covers_marked x half v xs p i) (amount half (m i).share) (m i).going) ∙ or_going b (covers v xs p) half (cell_of p v));
    }

covers_marks : (ys : List Part) (half : Bool) (v : View) (xs : List Part) (p : ℕ) → covers (marks ys half v) xs p ≡ covers v xs p
covers_marks [] half v xs p = refl
covers_marks (y ∷ ys) half v xs p = covers_marks ys half (marked y half v) xs p ∙ covers_marked y half v xs p

going_of : (hands lends : List Part) (v : View) (p : ℕ) → Unmarked v → (cell_of p (marks lends true (marks hands false v))).going ≡ handed_share hands lends v p
going_of hands lends v p u =
    let a = cell_marks hands false v p in
    let b = cell_marks lends true (marks hands false v) p in
    b.going ∙ (λ i. cond (covers_marks hands false v lends p i) (a.share i / 2) ((a.going ∙ (λ j. cond (covers v hands p) (share_of p v) (u p j))) i))

half_le : (b c : Bool) (s : ℕ) → cond b (s / 2) (cond c s 0) ≤ s
half_le true c s = omega arith
half_le false true s = omega arith
half_le false false s = omega arith

pub handed_le : (hands lends : List Part) (v : View) (p : ℕ) → handed_share hands lends v p ≤ share_of p v
handed_le hands lends v p = half_le (covers v lends p) (covers v hands p) (share_of p v)

pub share_handed : (hands lends : List Part) (v : View) (p : ℕ) → Unmarked v → share_of p (handed hands lends v) ≡ handed_share hands lends v p
unfolding handed
share_handed hands lends v p u =
    let w = marks lends true (marks hands false v) in
    let a = cell_marks hands false v p in let b = cell_marks lends true (marks hands false v) p in
    let s : share_of p w ≡ share_of p v = b.share ∙ a.share in
    let g = going_of hands lends v p u in let l = handed_le hands lends v p in
    let r = ap (λ (c : Cell). c.share) (given_cell w p) in omega arith

pub share_kept : (hands lends : List Part) (v : View) (p : ℕ) → Unmarked v → share_of p (kept hands lends v) ≡ share_of p v - handed_share hands lends v p
unfolding kept
share_kept hands lends v p u =
    let w = marks lends true (marks hands false v) in
    let a = cell_marks hands false v p in let b = cell_marks lends true (marks hands false v) p in
    let s : share_of p w ≡ share_of p v = b.share ∙ a.share in
    let g = going_of hands lends v p u in let l = handed_le hands lends v p in
    let r = ap (λ (c : Cell). c.share) (kept_cell w p) in omega arith

pub value_handed : (hands lends : List Part) (v : View) (p : ℕ) → (cell_of p (handed hands lends v)).value ≡ (cell_of p v).value
unfolding handed
value_handed hands lends v p = ap (λ (c : Cell). c.value) (given_cell (marks lends true (marks hands false v)) p) ∙ ((cell_marks lends true (marks hands false v) p).value ∙ (cell_marks hands false v p).value)

pub home_handed : (hands lends : List Part) (v : View) (p : ℕ) → (cell_of p (handed hands lends v)).home ≡ (cell_of p v).home
unfolding handed
home_handed hands lends v p = ap (λ (c : Cell). c.home) (given_cell (marks lends true (marks hands false v)) p) ∙ ((cell_marks lends true (marks hands false v) p).home ∙ (cell_marks hands false v p).home)

pub value_kept : (hands lends : List Part) (v : View) (p : ℕ) → (cell_of p (kept hands lends v)).value ≡ (cell_of p v).value
unfolding kept
value_kept hands lends v p = ap (λ (c : Cell). c.value) (kept_cell (marks lends true (marks hands false v)) p) ∙ ((cell_marks lends true (marks hands false v) p).value ∙ (cell_marks hands false v p).value)

pub home_kept : (hands lends : List Part) (v : View) (p : ℕ) → (cell_of p (kept hands lends v)).home ≡ (cell_of p v).home
unfolding kept
home_kept hands lends v p = ap (λ (c : Cell). c.home) (kept_cell (marks lends true (marks hands false v)) p) ∙ ((cell_marks lends true (marks hands false v) p).home ∙ (cell_marks hands false v p).home)

pub in_range-in : (from count p : ℕ) → from ≤ p → p < from + count → in_range from count p ≡ true
in_range-in from count p a b = λ i. le-leb from p a i && lt-ltb p (from + count) b i

pub in_range-before : (from count p : ℕ) → p < from → in_range from count p ≡ false
in_range-before from count p a = λ i. lt-leb from p a i && ltb p (from + count)

and_false : (b : Bool) → b && false ≡ false
and_false true = refl
and_false false = refl

pub in_range-past : (from count p : ℕ) → from + count ≤ p → in_range from count p ≡ false
in_range-past from count p a = (λ i. leb from p && le-ltb p (from + count) a i) ∙ and_false (leb from p)

-- a list of one part
pub covers-one : (v : View) (x : Part) (p : ℕ) (b : Bool) → in_range (part_start v x) (part_count v x) p ≡ b → covers v (x ∷ []) p ≡ b
covers-one v x p true e = λ i. e i || false
covers-one v x p false e = λ i. e i || false

pub handed_share-lent : (hands lends : List Part) (v : View) (p : ℕ) → covers v lends p ≡ true → handed_share hands lends v p ≡ share_of p v / 2
handed_share-lent hands lends v p e = λ i. cond (e i) (share_of p v / 2) (cond (covers v hands p) (share_of p v) 0)

pub handed_share-handed : (hands lends : List Part) (v : View) (p : ℕ) → covers v lends p ≡ false → covers v hands p ≡ true → handed_share hands lends v p ≡ share_of p v
handed_share-handed hands lends v p e f = λ i. cond (e i) (share_of p v / 2) (cond (f i) (share_of p v) 0)

pub handed_share-kept : (hands lends : List Part) (v : View) (p : ℕ) → covers v lends p ≡ false → covers v hands p ≡ false → handed_share hands lends v p ≡ 0
handed_share-kept hands lends v p e f = λ i. cond (e i) (share_of p v / 2) (cond (f i) (share_of p v) 0)

pub owns_kept : (hands lends : List Part) (v : View) (b i : ℕ) → Unmarked v → OwnsWord v b i → covers v lends (b + 1 + i) ≡ false → covers v hands (b + 1 + i) ≡ false → OwnsWord (kept hands lends v) b i
owns_kept hands lends v b i u o e f = let p = b + 1 + i in let s = share_kept hands lends v p u in let z = handed_share-kept hands lends v p e f in let all = o.share in
    record { share = omega arith; home = home_kept hands lends v p ∙ o.home }

pub owns_handed : (hands lends : List Part) (v : View) (b i : ℕ) → Unmarked v → OwnsWord v b i → covers v lends (b + 1 + i) ≡ false → covers v hands (b + 1 + i) ≡ true → OwnsWord (handed hands lends v) b i
owns_handed hands lends v b i u o e f = let p = b + 1 + i in record { share = share_handed hands lends v p u ∙ (handed_share-handed hands lends v p e f ∙ o.share); home = home_handed hands lends v p ∙ o.home }

pub has_kept : (hands lends : List Part) (v : View) (b i : ℕ) → Unmarked v → 2 ≤ share_of (b + 1 + i) v → (cell_of (b + 1 + i) v).home ≡ b → covers v lends (b + 1 + i) ≡ true → HasWord (kept hands lends v) b i
has_kept hands lends v b i u two home e = let p = b + 1 + i in let s = share_kept hands lends v p u in let z = handed_share-lent hands lends v p e in record { share = omega arith; home = home_kept hands lends v p ∙ home }

pub has_handed : (hands lends : List Part) (v : View) (b i : ℕ) → Unmarked v → 2 ≤ share_of (b + 1 + i) v → (cell_of (b + 1 + i) v).home ≡ b → covers v lends (b + 1 + i) ≡ true → HasWord (handed hands lends v) b i
has_handed hands lends v b i u two home e = let p = b + 1 + i in let s = share_handed hands lends v p u in let z = handed_share-lent hands lends v p e in record { share = omega arith; home = home_handed hands lends v p ∙ home }

pub owns_joined : (v u : View) (b i : ℕ) → HasWord v b i → share_of (b + 1 + i) v + share_of (b + 1 + i) u ≡ whole → OwnsWord (joined v u) b i
owns_joined v u b i h sum = let p = b + 1 + i in let c = cell_joined v u p in record {
  share = share_joined v u p ∙ sum;
  home = ap (λ (d : Cell). d.home) c ∙ (picked (share_of p v) (cell_of p v).home (cell_of p u).home h.share ∙ h.home);
}

pub has_written : (p x : ℕ) (v : View) (b i : ℕ) → HasWord v b i → HasWord (written p x v) b i
has_written p x v b i h = let s = share_written p x v (b + 1 + i) in let k = h.share in record { share = omega arith; home = home_written p x v (b + 1 + i) ∙ h.home }

pub pick_same : (k a b c : ℕ) → a ≡ c → b ≡ c → pick k a b ≡ c
pick_same zero a b c e f = f
pick_same (suc k) a b c e f = e

pub home_joined-same : (v u : View) (p b : ℕ) → (cell_of p v).home ≡ b → (cell_of p u).home ≡ b → (cell_of p (joined v u)).home ≡ b
home_joined-same v u p b e f = ap (λ (d : Cell). d.home) (joined_cell v u p) ∙ pick_same (share_of p v) (cell_of p v).home (cell_of p u).home b e f

pub value_joined-same : (v u : View) (p x : ℕ) → (cell_of p v).value ≡ x → (cell_of p u).value ≡ x → (cell_of p (joined v u)).value ≡ x
value_joined-same v u p x e f = ap (λ (d : Cell). d.value) (joined_cell v u p) ∙ pick_same (share_of p v) (cell_of p v).value (cell_of p u).value x e f

-- a join gives back what a split moved
pub share_rejoined : (hands lends : List Part) (v : View) (p : ℕ) → Unmarked v → share_of p (joined (kept hands lends v) (handed hands lends v)) ≡ share_of p v
share_rejoined hands lends v p u = let a = share_joined (kept hands lends v) (handed hands lends v) p in let b = share_kept hands lends v p u in let c = share_handed hands lends v p u in let le = handed_le hands lends v p in omega arith

pub value_rejoined : (hands lends : List Part) (v : View) (p : ℕ) → (cell_of p (joined (kept hands lends v) (handed hands lends v))).value ≡ (cell_of p v).value
value_rejoined hands lends v p = value_joined-same (kept hands lends v) (handed hands lends v) p (cell_of p v).value (value_kept hands lends v p) (value_handed hands lends v p)

pub home_rejoined : (hands lends : List Part) (v : View) (p : ℕ) → (cell_of p (joined (kept hands lends v) (handed hands lends v))).home ≡ (cell_of p v).home
home_rejoined hands lends v p = home_joined-same (kept hands lends v) (handed hands lends v) p (cell_of p v).home (home_kept hands lends v p) (home_handed hands lends v p)

pub whole_rejoined : (hands lends : List Part) (v : View) (b n : ℕ) → Unmarked v → IsWhole v b n → IsWhole (joined (kept hands lends v) (handed hands lends v)) b n
whole_rejoined hands lends v b n u o = record {
  header = value_rejoined hands lends v b ∙ o.header;
  name = home_rejoined hands lends v b ∙ o.name;
  all = λ p lo hi. share_rejoined hands lends v p u ∙ o.all p lo hi;
}
