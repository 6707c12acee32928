-- Tables: their words, empty ones, and a key more or less.
use Rattle.std.proofs.Common.{◌≡◌, ◌≢◌, ℕ, zero, suc, ◌+◌, ◌*◌, ◌^◌, ◌/◌, ◌%◌, ◌<◌, ◌≤◌, true, false, List, length, replicate, refl, sym, ap, ◌∙◌, subst, arith, eqb, eqb-true, eq-eqb, ne_eqb, ⊎_elim}
use Rattle.std.proofs.lemmas.Bool.{cond_both, cond-true, cond-false}
use Rattle.std.proofs.lemmas.Bool.Decides.{eqb_tells}
use Rattle.std.proofs.lemmas.List.{length-set, length-replicate, get_or-set_same, get_or-set_other}
use Rattle.std.proofs.lemmas.Nat.{mod-mul-add, div-mul-add, mul-add-lt}
use Rattle.std.proofs.Math.Nat.{mod-lt}
use Rattle.std.proofs.Math.Path.{fun_ext}
use Rattle.std.specs.Prelude.{slice_index, slice_set, not, Some}
use Rattle.relations.specs.Represents.{count, state, key, value, is_full, is_used, IsReached, IsTable}
use Rattle.op_base.specs.Counts.{Test, put, del}
use Rattle.op_base.proofs.CountsLemmas.{put_here, put_more, put_back, del_other, del_back, true_false, count_same, count_none, count_one, count_le, find_false}
use Rattle.op_hash.specs.Tables.{walk, NoEmpty, Found, Values, put_value, del_value, HasOthers, HasValues}

module _ (w cap n used : ℕ) (ws : List ℕ) (has : Test) (t : IsTable w ws has cap n used) where
  pub some_slots : 0 < cap
  some_slots = omega (arith, t.open_slot)

  pub slot_in : (i j : ℕ) → i < cap → j < w → w * i + j < length ws
  slot_in i j li lj = let m : i * w + j < w * cap = mul-add-lt i w j cap li lj in omega (arith, m, t.size)

  pub state_in : (i : ℕ) → i < cap → 2 ≤ w → w * i < length ws
  state_in i li wide = let m = slot_in i 0 li (omega (arith, wide)) in omega (arith, m)

  pub an_empty : (i : ℕ) × (i < cap) × (state w ws i ≡ 0)
  an_empty =
      let r = find_false cap (is_used w ws) (omega (arith, t.used_are, t.open_slot)) in
      (r.0, r.1, empty_of (state w ws r.0) r.2)
    where
      empty_of : (s : ℕ) → not (eqb s 0) ≡ false → s ≡ 0
      empty_of s e = ⊎_elim (λ d. d.1) (λ d. absurd (let f : ⊥ = cc (e, d.0) in f)) (eqb_tells s 0)

  pub walk_in : (x l : ℕ) → walk cap x l < cap
  walk_in x l = mod-lt (x % cap + l) some_slots

  pub keys_most : n ≤ used
  keys_most =
      let z = count_le cap (is_full w ws) (is_used w ws) (λ i f. ap (λ s. not (eqb s 0)) (eqb-true (state w ws i) 1 f)) in
      omega (arith, z, t.full_are, t.used_are)

  -- what is read of a table is its states and keys
  pub same_table : (us : List ℕ) → length us ≡ length ws → ((i : ℕ) → state w us i ≡ state w ws i) → ((i : ℕ) → key w us i ≡ key w ws i) → IsTable w us has cap n used
  same_table us len st ky = record {
    power = t.power;
    size = len ∙ t.size;
    states = λ i li. subst (λ z. z ≤ 2) (sym (st i)) (t.states i li);
    keys = λ i li f. ap has (ky i) ∙ t.keys i li (sym (st i) ∙ f);
    once = λ i j li lj fi fj e. t.once i j li lj (sym (st i) ∙ fi) (sym (st j) ∙ fj) (sym (ky i) ∙ e ∙ ky j);
    reached = λ x e. let r = t.reached x e in record {
      steps = r.steps;
      full = st (walk cap x r.steps) ∙ r.full;
      same = ky (walk cap x r.steps) ∙ r.same;
      way = λ m lt z. r.way m lt (sym (st (walk cap x m)) ∙ z);
    };
    full_are = t.full_are ∙ sym (count_same cap (is_full w ws) (is_full w us) (λ j lj. ap (λ z. eqb z 1) (st j)));
    used_are = t.used_are ∙ sym (count_same cap (is_used w ws) (is_used w us) (λ j lj. ap (λ z. not (eqb z 0)) (st j)));
    open_slot = t.open_slot;
  }

-- ---- words of slots

-- words of two slots, and two words of slots
pub two_slots : (w i j k slot : ℕ) → j < w → k < w → i ≢ slot → w * i + j ≢ w * slot + k
two_slots w i j k slot lj lk ne e =
    let z : i * w + j ≡ slot * w + k = omega (arith, e) in
    ne (sym (div-mul-add i w j lj) ∙ ap (λ z. z / w) z ∙ div-mul-add slot w k lk)

pub two_words : (w i j k slot : ℕ) → j < w → k < w → j ≢ k → w * i + j ≢ w * slot + k
two_words w i j k slot lj lk ne e =
    let z : i * w + j ≡ slot * w + k = omega (arith, e) in
    ne (sym (mod-mul-add i w j lj) ∙ ap (λ z. z % w) z ∙ mod-mul-add slot w k lk)

-- a store to the state of a slot
module _ (w : ℕ) (ws : List ℕ) (slot v : ℕ) (wide : 2 ≤ w) where
  pub state_state : (i : ℕ) → i ≢ slot → state w (slice_set ws (w * slot) v) i ≡ state w ws i
  state_state i ne = get_or-set_other ws (w * slot) (w * i) v 0 (λ e. two_slots w i 0 0 slot (omega (arith, wide)) (omega (arith, wide)) ne (omega (arith, e)))

  pub key_state : (i : ℕ) → key w (slice_set ws (w * slot) v) i ≡ key w ws i
  key_state i = get_or-set_other ws (w * slot) (w * i + 1) v 0 (λ e. two_words w i 1 0 slot (omega (arith, wide)) (omega (arith, wide)) (omega arith) (omega (arith, e)))

  pub value_state : (i : ℕ) → 3 ≤ w → value w (slice_set ws (w * slot) v) i ≡ value w ws i
  value_state i three = get_or-set_other ws (w * slot) (w * i + 2) v 0 (λ e. two_words w i 2 0 slot (omega (arith, three)) (omega (arith, wide)) (omega arith) (omega (arith, e)))

  -- to its key
  pub state_key : (i : ℕ) → state w (slice_set ws (w * slot + 1) v) i ≡ state w ws i
  state_key i = get_or-set_other ws (w * slot + 1) (w * i) v 0 (λ e. two_words w i 0 1 slot (omega (arith, wide)) (omega (arith, wide)) (omega arith) (omega (arith, e)))

  pub key_key : (i : ℕ) → i ≢ slot → key w (slice_set ws (w * slot + 1) v) i ≡ key w ws i
  key_key i ne = get_or-set_other ws (w * slot + 1) (w * i + 1) v 0 (two_slots w i 1 1 slot (omega (arith, wide)) (omega (arith, wide)) ne)

  pub value_key : (i : ℕ) → 3 ≤ w → value w (slice_set ws (w * slot + 1) v) i ≡ value w ws i
  value_key i three = get_or-set_other ws (w * slot + 1) (w * i + 2) v 0 (two_words w i 2 1 slot (omega (arith, three)) (omega (arith, wide)) (omega arith))

  -- to its value
  pub state_value : (i : ℕ) → 3 ≤ w → state w (slice_set ws (w * slot + 2) v) i ≡ state w ws i
  state_value i three = get_or-set_other ws (w * slot + 2) (w * i) v 0 (λ e. two_words w i 0 2 slot (omega (arith, wide)) (omega (arith, three)) (omega arith) (omega (arith, e)))

  pub key_value : (i : ℕ) → 3 ≤ w → key w (slice_set ws (w * slot + 2) v) i ≡ key w ws i
  key_value i three = get_or-set_other ws (w * slot + 2) (w * i + 1) v 0 (two_words w i 1 2 slot (omega (arith, wide)) (omega (arith, three)) (omega arith))

  pub value_value : (i : ℕ) → 3 ≤ w → i ≢ slot → value w (slice_set ws (w * slot + 2) v) i ≡ value w ws i
  value_value i three ne = get_or-set_other ws (w * slot + 2) (w * i + 2) v 0 (two_slots w i 2 2 slot (omega (arith, three)) (omega (arith, three)) ne)

-- ---- an empty table

pub replicated : (n i : ℕ) → slice_index (replicate n 0) i ≡ 0
replicated zero i = refl
replicated (suc n) zero = refl
replicated (suc n) (suc i) = replicated n i

zero_one : {A : Type 0} (z : ℕ) → z ≡ 0 → z ≡ 1 → A
zero_one z a b = absurd (let o : ⊥ = omega (arith, a, b) in o)

pub empty_table : (w cap e : ℕ) → cap ≡ 8 * 2 ^ e → 0 < cap → IsTable w (replicate (w * cap) 0) (λ x. false) cap 0 0
empty_table w cap e pw some = record {
  power = (e, pw);
  size = length-replicate (w * cap) 0;
  states = λ i li. let z = replicated (w * cap) (w * i) in omega (arith, z);
  keys = λ i li f. zero_one _ (replicated (w * cap) (w * i)) f;
  once = λ i j li lj f g d. zero_one _ (replicated (w * cap) (w * i)) f;
  reached = λ x h. absurd (let o : ⊥ = cc h in o);
  full_are = sym (count_none cap (is_full w (replicate (w * cap) 0)) (λ i. ap (λ z. eqb z 1) (replicated (w * cap) (w * i))));
  used_are = sym (count_none cap (is_used w (replicate (w * cap) 0)) (λ i. ap (λ z. not (eqb z 0)) (replicated (w * cap) (w * i))));
  open_slot = some;
}

pub no_values : (w cap : ℕ) (get : Values) → HasValues w (replicate (w * cap) 0) cap get
no_values w cap get three i li f = zero_one _ (replicated (w * cap) (w * i)) f

pub set_values : (ws : List ℕ) (cap : ℕ) (get : Values) → HasValues 2 ws cap get
set_values ws cap get three i li f = absurd (let o : ⊥ = omega (arith, three) in o)

-- a value that is there already
pub put_same_value : (get : Values) (x v : ℕ) → get x ≡ Some v → put_value get x v ≡ get
put_same_value get x v e = fun_ext (λ y. cond_both (eqb y x) (Some v) (get y) (λ z. z ≡ get y) (λ d. sym (ap get (eqb-true y x d) ∙ e)) (λ d. refl))

-- ---- a key more

module _ (w cap n used x slot l : ℕ) (ws us : List ℕ) (has : Test) (t : IsTable w ws has cap n used) (within : slot < cap) (at : slot ≡ walk cap x l) (empty : state w ws slot ≡ 0) (path : NoEmpty w ws cap x l) (new : has x ≡ false) (room : suc used < cap) (len : length us ≡ length ws) (st : state w us slot ≡ 1) (ky : key w us slot ≡ x) (st_other : (i : ℕ) → i ≢ slot → state w us i ≡ state w ws i) (ky_other : (i : ℕ) → i ≢ slot → key w us i ≡ key w ws i) where
  full_ne : (i : ℕ) → state w ws i ≡ 1 → i ≢ slot
  full_ne i f e = zero_one (state w ws i) (ap (state w ws) e ∙ empty) f

  still : (i : ℕ) → (state w ws i ≡ 0 → ⊥) → state w us i ≡ 0 → ⊥
  still i ne = ⊎_elim (λ e. λ z. zero_one (state w us i) z (ap (state w us) e.1 ∙ st)) (λ e. λ z. ne (sym (st_other i e.1) ∙ z)) (eqb_tells i slot)

  other_key : (j : ℕ) → j < cap → j ≢ slot → state w us j ≡ 1 → key w us j ≡ x → ⊥
  other_key j lj ne f k = true_false (has x) (ap has (sym (sym (ky_other j ne) ∙ k)) ∙ t.keys j lj (sym (st_other j ne) ∙ f)) new

  placed : (y : ℕ) → put has x y ≡ true → IsReached w us cap y
  placed y e =
      ⊎_elim
      (λ d. subst (IsReached w us cap) (sym d.1) (record {
        steps = l;
        full = ap (state w us) (sym at) ∙ st;
        same = ap (key w us) (sym at) ∙ ky;
        way = λ m lt. still (walk cap x m) (path m lt);
      }))
      (λ d. let pl = t.reached y (put_back has x y d.1 e) in
      let ne = full_ne (walk cap y pl.steps) pl.full in record {
        steps = pl.steps;
        full = st_other (walk cap y pl.steps) ne ∙ pl.full;
        same = ky_other (walk cap y pl.steps) ne ∙ pl.same;
        way = λ m lt. still (walk cap y m) (pl.way m lt);
      })
      (eqb_tells y x)

  pub put_table : IsTable w us (put has x) cap (suc n) (suc used)
  put_table = record {
    power = t.power;
    size = len ∙ t.size;
    states = λ i li. ⊎_elim (λ e. let z : state w us i ≡ 1 = ap (state w us) e.1 ∙ st in omega (arith, z)) (λ e. subst (λ z. z ≤ 2) (sym (st_other i e.1)) (t.states i li)) (eqb_tells i slot);
    keys = λ i li f. ⊎_elim (λ e. ap (put has x) (ap (key w us) e.1 ∙ ky) ∙ put_here has x) (λ e. ap (put has x) (ky_other i e.1) ∙ put_more has x (key w ws i) (t.keys i li (sym (st_other i e.1) ∙ f))) (eqb_tells i slot);
    once = λ i j li lj fi fj e.
        ⊎_elim
        (λ a. ⊎_elim (λ b. a.1 ∙ sym b.1) (λ b. absurd (other_key j lj b.1 fj (sym e ∙ ap (key w us) a.1 ∙ ky))) (eqb_tells j slot))
        (λ a. ⊎_elim (λ b. absurd (other_key i li a.1 fi (e ∙ ap (key w us) b.1 ∙ ky)))
        (λ b. t.once i j li lj (sym (st_other i a.1) ∙ fi) (sym (st_other j b.1) ∙ fj) (sym (ky_other i a.1) ∙ e ∙ ky_other j b.1)) (eqb_tells j slot))
        (eqb_tells i slot);
    reached = placed;
    full_are = ap suc t.full_are ∙ sym (count_one cap slot (is_full w ws) (is_full w us) within (ap (λ z. eqb z 1) empty) (ap (λ z. eqb z 1) st) (λ j ne. ap (λ z. eqb z 1) (st_other j ne)));
    used_are = ap suc t.used_are ∙ sym (count_one cap slot (is_used w ws) (is_used w us) within (ap (λ z. not (eqb z 0)) empty) (ap (λ z. not (eqb z 0)) st) (λ j ne. ap (λ z. not (eqb z 0)) (st_other j ne)));
    open_slot = room;
  }

-- the state, and then the key
module _ (w cap n used x : ℕ) (ws : List ℕ) (has : Test) (wide : 2 ≤ w) (t : IsTable w ws has cap n used) (o : Found w cap x has ws) where
  abbrev pub one_set : List ℕ
  one_set = slice_set ws (w * o.slot) 1

  abbrev pub two_set : List ℕ
  two_set = slice_set (slice_set ws (w * o.slot) 1) (w * o.slot + 1) x

  pub in_zero : w * o.slot < length ws
  in_zero = state_in w cap n used ws has t o.slot o.within wide

  pub in_one : w * o.slot + 1 < length ws
  in_one = slot_in w cap n used ws has t o.slot 1 o.within (omega (arith, wide))

  pub in_one_set : w * o.slot + 1 < length one_set
  in_one_set = omega (arith, in_one, length-set ws (w * o.slot) 1)

  pub two_length : length two_set ≡ length ws
  two_length = length-set one_set (w * o.slot + 1) x ∙ length-set ws (w * o.slot) 1

  pub two_state : state w two_set o.slot ≡ 1
  two_state = state_key w one_set o.slot x wide o.slot ∙ get_or-set_same ws (w * o.slot) 1 0 in_zero

  pub two_key : key w two_set o.slot ≡ x
  two_key = get_or-set_same one_set (w * o.slot + 1) x 0 in_one_set

  pub two_state_other : (i : ℕ) → i ≢ o.slot → state w two_set i ≡ state w ws i
  two_state_other i ne = state_key w one_set o.slot x wide i ∙ state_state w ws o.slot 1 wide i ne

  pub two_key_other : (i : ℕ) → i ≢ o.slot → key w two_set i ≡ key w ws i
  two_key_other i ne = key_key w one_set o.slot x wide i ne ∙ key_state w ws o.slot 1 wide i

  pub two_table : has x ≡ false → suc used < cap → IsTable w two_set (put has x) cap (suc n) (suc used)
  two_table new room =
      let f = o.off new in
      put_table w cap n used x o.slot f.0 ws two_set has t o.within f.1 f.2 f.3 new room two_length two_state two_key two_state_other two_key_other

  pub two_values : (get : Values) → HasValues w ws cap get → HasOthers w two_set cap get o.slot
  two_values get vals three i li ne f =
      ap get (two_key_other i ne) ∙ vals three i li (sym (two_state_other i ne) ∙ f) ∙
      ap Some (sym (value_key w one_set o.slot x wide i three ∙ value_state w ws o.slot 1 wide i three))

-- the value of the one slot that was left out
module _ (w cap n used x v slot : ℕ) (ws : List ℕ) (has : Test) (get : Values) (three : 3 ≤ w) (t : IsTable w ws has cap n used) (within : slot < cap) (full : state w ws slot ≡ 1) (is_x : key w ws slot ≡ x) (others : HasOthers w ws cap get slot) where
  pub in_two : w * slot + 2 < length ws
  in_two = slot_in w cap n used ws has t slot 2 within (omega (arith, three))

  wide : 2 ≤ w
  wide = omega (arith, three)

  abbrev pub value_set : List ℕ
  value_set = slice_set ws (w * slot + 2) v

  pub value_table : IsTable w value_set has cap n used
  value_table = same_table w cap n used ws has t value_set (length-set ws (w * slot + 2) v) (λ i. state_value w ws slot v wide i three) (λ i. key_value w ws slot v wide i three)

  not_x : (i : ℕ) → i < cap → i ≢ slot → state w ws i ≡ 1 → key w ws i ≢ x
  not_x i li ne f e = ne (t.once i slot li within f full (e ∙ sym is_x))

  pub value_values : HasValues w value_set cap (put_value get x v)
  value_values three i li f =
      let ky = key_value w ws slot v wide i three in
      let st = state_value w ws slot v wide i three in
      ⊎_elim
      (λ e. ap (put_value get x v) (ky ∙ ap (key w ws) e.1 ∙ is_x) ∙ cond-true (eqb x x) _ _ (eq-eqb x x refl) ∙
      ap Some (sym (ap (value w value_set) e.1 ∙ get_or-set_same ws (w * slot + 2) v 0 in_two)))
      (λ e. ap (put_value get x v) ky ∙ cond-false (eqb (key w ws i) x) _ _ (ne_eqb (key w ws i) x (not_x i li e.1 (sym st ∙ f))) ∙
      others three i li e.1 (sym st ∙ f) ∙ ap Some (sym (value_value w ws slot v wide i three e.1)))
      (eqb_tells i slot)

-- ---- a key less

module _ (w cap n used x slot : ℕ) (ws us : List ℕ) (has : Test) (t : IsTable w ws has cap n used) (within : slot < cap) (full : state w ws slot ≡ 1) (is_x : key w ws slot ≡ x) (len : length us ≡ length ws) (gone : state w us slot ≡ 2) (st_other : (i : ℕ) → i ≢ slot → state w us i ≡ state w ws i) (ky : (i : ℕ) → key w us i ≡ key w ws i) where
  pub not_gone : (i : ℕ) → state w us i ≡ 1 → i ≢ slot
  not_gone i f e = let z = ap (state w us) e in absurd (let o : ⊥ = omega (arith, z, gone, f) in o)

  pub old_full : (i : ℕ) → state w us i ≡ 1 → state w ws i ≡ 1
  old_full i f = sym (st_other i (not_gone i f)) ∙ f

  still_used : (i : ℕ) → (state w ws i ≡ 0 → ⊥) → state w us i ≡ 0 → ⊥
  still_used i ne = ⊎_elim (λ e. λ z. (let y = ap (state w us) e.1 in let o : ⊥ = omega (arith, y, z, gone) in o)) (λ e. λ z. ne (sym (st_other i e.1) ∙ z)) (eqb_tells i slot)

  used_same : (i : ℕ) → is_used w us i ≡ is_used w ws i
  used_same i = ⊎_elim (λ e. ap (is_used w us) e.1 ∙ ap (λ z. not (eqb z 0)) gone ∙ sym (ap (is_used w ws) e.1 ∙ ap (λ z. not (eqb z 0)) full)) (λ e. ap (λ z. not (eqb z 0)) (st_other i e.1)) (eqb_tells i slot)

  pub counts : n ≡ suc (count (is_full w us) cap)
  counts = t.full_are ∙ count_one cap slot (is_full w us) (is_full w ws) within (ap (λ z. eqb z 1) gone) (ap (λ z. eqb z 1) full) (λ j ne. ap (λ z. eqb z 1) (sym (st_other j ne)))

  pub key_ne : (i : ℕ) → i < cap → state w us i ≡ 1 → key w us i ≢ x
  key_ne i li f z = not_gone i f (t.once i slot li within (old_full i f) full (sym (ky i) ∙ z ∙ sym is_x))

  pub del_table : IsTable w us (del has x) cap (count (is_full w us) cap) used
  del_table = record {
    power = t.power;
    size = len ∙ t.size;
    states = λ i li. ⊎_elim (λ e. let z : state w us i ≡ 2 = ap (state w us) e.1 ∙ gone in omega (arith, z)) (λ e. subst (λ z. z ≤ 2) (sym (st_other i e.1)) (t.states i li)) (eqb_tells i slot);
    keys = λ i li f. del_other has x (key w us i) (key_ne i li f) ∙ ap has (ky i) ∙ t.keys i li (old_full i f);
    once = λ i j li lj fi fj e. t.once i j li lj (old_full i fi) (old_full j fj) (sym (ky i) ∙ e ∙ ky j);
    reached = λ y e.
        let d = del_back has x y e in
        let pl = t.reached y d.1 in
        let ne : walk cap y pl.steps ≢ slot = (λ z. d.0 (sym pl.same ∙ ap (key w ws) z ∙ is_x)) in record {
          steps = pl.steps;
          full = st_other (walk cap y pl.steps) ne ∙ pl.full;
          same = ky (walk cap y pl.steps) ∙ pl.same;
          way = λ m lt. still_used (walk cap y m) (pl.way m lt);
        };
    full_are = refl;
    used_are = t.used_are ∙ sym (count_same cap (is_used w ws) (is_used w us) (λ j lj. used_same j));
    open_slot = t.open_slot;
  }

  pub del_values : (get : Values) → (3 ≤ w → (i : ℕ) → value w us i ≡ value w ws i) → HasValues w ws cap get → HasValues w us cap (del_value get x)
  del_values get va vals three i li f =
      cond-false (eqb (key w us i) x) _ _ (ne_eqb (key w us i) x (key_ne i li f)) ∙
      ap get (ky i) ∙ vals three i li (old_full i f) ∙ ap Some (sym (va three i))
