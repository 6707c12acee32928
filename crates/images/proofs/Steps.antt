-- Steps of loops, and what the first number that is too large tells.
use Rattle.std.proofs.Common.{◌≡◌, ℕ, zero, suc, ◌+◌, ◌-◌, ◌*◌, ◌/◌, ◌^◌, ◌%◌, ◌<◌, ◌≤◌, Bool, true, false, cond, ◌&&◌, ◌||◌, List, [], ◌∷◌, ◌++◌, length, drop, replicate, get_or, Option, Some, None, refl, sym, ap, ◌∙◌, subst, arith, eqb, eqb-true, eq-eqb, ne_eqb, ltb-true, nat_lt, nat_le, append_assoc, ⊎_elim}
use Rattle.std.proofs.lemmas.Bool.{cond_both, cond-true, cond-false, and_parts, lt-ltb, lt-leb, ltb-false}
use Rattle.std.proofs.lemmas.Bool.Decides.{eqb_tells}
use Rattle.std.proofs.lemmas.List.{drop_all, length-append, length-replicate, replicate-append-replicate}
use Rattle.std.proofs.lemmas.Nat.{pow_below}
use Rattle.std.proofs.Math.Seq.{drop-cons}
use Rattle.std.proofs.Math.Nat.{mod-lt, mod-eq_of_lt}
use Rattle.std.specs.FinMap as maps
use Rattle.std.specs.List.{list_all}
use Rattle.std.specs.Prelude.{slice_index, slice_set, bit_or, max, Result, Ok, Err}
use Rattle.std.specs.Result.{IfErr}
use Rattle.sequences.specs.Keys.{IsRising, AllAbove, has}
use Rattle.sequences.proofs.Places.{has_none}
use Rattle.containers.specs.Sets as sets
use Rattle.containers.proofs.SetsOfRising.{contains_has}
use Rattle.containers.proofs.SetItems.{items_rise, has_items}
use Rattle.nres_core.specs.declared.value.Value.TheVariants as v
use Rattle.target_code.specs.declared.tree.Rep.TheVariants as rep
use Rattle.relations.specs.Images as images
use Rattle.relations.specs.Images.{Image, bounded, keys_of, bit_words, slots, slots_from, open_slot, room, roomy}
use Rattle.relations.specs.Represents.{Set, Map}
use Rattle.image_laws.specs.Laws.{IsLeastFrom}
use Rattle.image_laws.proofs.BitImages.{AreUnder, changes, no_elements, bits_all, sum_or}
use Rattle.image_laws.proofs.Encodes.{key_there, same_least}
use Rattle.images.specs.declared.fit.NoFit.{NoFit}
use Rattle.images.specs.declared.fit.NoFit.TheVariants.{Element, Memory}
use Rattle.images.specs.Encoding.{IsNoFit, IsOver, first_from, made}

-- ---- tables

pub open_step : (w cap : ℕ) (ws : List ℕ) (h s t : ℕ) → open_slot w cap ws h cap ≡ open_slot w cap ws s (cap - t) → t < cap → s < cap → (slice_index ws (w * s) ≡ 0 → ⊥)
    → (open_slot w cap ws h cap ≡ open_slot w cap ws ((s + 1) % cap) (cap - (t + 1))) × ((s + 1) % cap < cap)
open_step w cap ws h s t e lt within full =
    let next : cap - t ≡ suc (cap - (t + 1)) = omega (arith, lt) in (
      e ∙ ap (open_slot w cap ws s) next ∙ cond-false (eqb (slice_index ws (w * s)) 0) _ _ (ne_eqb (slice_index ws (w * s)) 0 full),
      mod-lt (s + 1) (omega (arith, lt)),
    )

pub slots_step : (n done s : ℕ) → slots n ≡ slots_from (n - done) s n → done < n → 3 * s < 4 * n → n < 2 ^ 32 → 8 ≤ s
    → (slots n ≡ slots_from (n - (done + 1)) (s * 2) n) × (s * 2 ≤ 2 ^ 34) × (8 ≤ s * 2)
slots_step n done s e lt more small big =
    let next : n - done ≡ suc (n - (done + 1)) = omega (arith, lt) in
    let twice : 2 * s ≡ s * 2 = omega arith in (
      e ∙ ap (λ k. slots_from k s n) next ∙ cond-false (nat_le (4 * n) (3 * s)) _ _ (lt-leb (4 * n) (3 * s) more) ∙ ap (λ k. slots_from (n - (done + 1)) k n) twice,
      omega (arith, more, small),
      omega (arith, big),
    )

-- ---- zeros behind a block

pub more_zeros : (xs ys zs : List ℕ) (i : ℕ) → ys ≡ xs ++ replicate i 0 → zs ≡ ys ++ 0 ∷ [] → zs ≡ xs ++ replicate (i + 1) 0
more_zeros xs ys zs i e d = d ∙ ap (λ q. q ++ 0 ∷ []) e ∙ append_assoc xs (replicate i 0) (0 ∷ []) ∙ ap (λ q. xs ++ q) (replicate-append-replicate i 1 0)

pub roomed : (xs ws regs : List ℕ) → ws ≡ xs ++ replicate (4 - length xs) 0 → regs ≡ 0 ∷ length xs ∷ length ws ∷ [] → made regs ws ≡ roomy xs
roomed xs ws regs e d =
    let rest : 4 - length xs ≡ max 4 (length xs) - length xs = omega arith in
    let all : length ws ≡ max 4 (length xs) =
    (ap (λ (zs : List ℕ). length zs) e ∙ length-append xs (replicate (4 - length xs) 0) ∙ ap (λ n. length xs + n) (length-replicate {A = ℕ} (4 - length xs) 0) ∙ (let q : length xs + (4 - length xs) ≡ max 4 (length xs) = omega arith in q)) in
    let same : ws ≡ xs ++ replicate (room (length xs) - length xs) 0 = e ∙ ap (λ n. xs ++ replicate n 0) rest in
    (λ i. made (d i) ws) ∙ (λ i. made (0 ∷ length xs ∷ all i ∷ []) (same i))

-- ---- numbers below a bound

pub under_of : (u : ℕ) (xs : List ℕ) → first_from u xs ≡ None → AreUnder u xs
under_of u [] e = tt
under_of u (x ∷ xs) e =
    cond_both (nat_lt x u) (first_from u xs) (Some x) (λ z. z ≡ None → (x < u) × AreUnder u xs)
    (λ d f. (ltb-true x u d, under_of u xs f))
    (λ d f. absurd (let o : ⊥ = cc f in o)) e

all_of : (u : ℕ) (xs : List ℕ) → AreUnder u xs → list_all (λ x. nat_lt x u) xs ≡ true
all_of u [] h = refl
all_of u (x ∷ xs) h = ap (λ b. b && list_all (λ x. nat_lt x u) xs) (lt-ltb x u h.0) ∙ all_of u xs h.1

pub bounded_is : (u : ℕ) (xs : List ℕ) (i : Image) → first_from u xs ≡ None → bounded u xs i ≡ Some i
bounded_is u xs i e = cond-true (list_all (λ x. nat_lt x u) xs) (Some i) None (all_of u xs (under_of u xs e))

or_right : (a b : Bool) → b ≡ true → (a || b) ≡ true
or_right true b e = refl
or_right false b e = e

not_above : (x y : ℕ) (ys : List ℕ) → AllAbove x ys → has y ys ≡ true → x ≤ y
not_above x y [] a h = absurd (let f : ⊥ = cc h in f)
not_above x y (z ∷ zs) a h =
    ⊎_elim
    (λ d. (let lt = a.0 in let s = d.1 in omega (arith, lt, s)))
    (λ d. not_above x y zs a.1 (ap (λ b. b || has y zs) (sym d.0) ∙ h))
    (eqb_tells y z)

pub first_is : (u : ℕ) (xs : List ℕ) → IsRising xs → (y : ℕ) → first_from u xs ≡ Some y → IsLeastFrom u (λ q. has q xs) y
first_is u [] rises y e = absurd (let f : ⊥ = cc e in f)
first_is u (x ∷ xs) rises y e =
    cond_both (nat_lt x u) (first_from u xs) (Some x) (λ z. z ≡ Some y → IsLeastFrom u (λ q. has q (x ∷ xs)) y)
    (λ d f.
    let r = first_is u xs rises.1 y f in
    let less : x < u = ltb-true x u d in
    record {
      there = or_right (eqb y x) (has y xs) r.there;
      above = r.above;
      least = λ q h le. r.least q (ap (λ b. b || has q xs) (sym (ne_eqb q x (λ s. let o : ⊥ = omega (arith, less, s, le) in o))) ∙ h) le;
    })
    (λ d f.
    let same : x ≡ y = cc f in
    let more : u ≤ x = ltb-false x u d in
    record {
      there = ap (λ b. b || has y xs) (eq-eqb y x (sym same));
      above = omega (arith, more, same);
      least = λ q h le. ⊎_elim
          (λ s. (let t = s.1 in omega (arith, t, same)))
          (λ s. (let n = not_above x q xs rises.0 (ap (λ b. b || has q xs) (sym s.0) ∙ h) in omega (arith, n, same)))
          (eqb_tells q x);
    }) e

-- what is too large of a set's elements or a map's keys
pub over_set : {A : Type 0} (u : ℕ) (s : Set) (xs : List ℕ) (r : Result A NoFit) → xs ≡ sets.items s → IfErr r (λ e. IsOver u xs e) → IfErr r (λ e. IsNoFit (rep.Bits u) (v.Set s) e)
over_set u s xs (Ok i) e h = h
over_set u s xs (Err (Element y)) e h = same_least u (λ q. has q xs) (sets.contains s) y (λ q. ap (has q) e ∙ has_items s q) h
over_set u s xs (Err Memory) e h = tt

pub over_map : {A : Type 0} (u : ℕ) (m : Map) (es : List (ℕ × ℕ)) (r : Result A NoFit) → es ≡ maps.entries m → IfErr r (λ e. IsOver u (keys_of es) e) → IfErr r (λ e. IsNoFit (rep.Amap u) (v.Map m) e)
over_map u m es (Ok i) e h = h
over_map u m es (Err (Element y)) e h = same_least u (λ q. has q (keys_of es)) (maps.contains_key m) y (λ q. ap (λ z. has q (keys_of z)) e ∙ key_there m q) h
over_map u m es (Err Memory) e h = tt

-- ---- bits

under_drop : (u : ℕ) (xs : List ℕ) (k : ℕ) → AreUnder u xs → AreUnder u (drop k xs)
under_drop u xs zero h = h
under_drop u [] (suc k) h = tt
under_drop u (x ∷ xs) (suc k) h = under_drop u xs k h.1

rises_drop : (xs : List ℕ) (k : ℕ) → IsRising xs → IsRising (drop k xs)
rises_drop xs zero h = h
rises_drop [] (suc k) h = tt
rises_drop (x ∷ xs) (suc k) h = rises_drop xs k h.1

pub at_under : (u : ℕ) (xs : List ℕ) (k : ℕ) → AreUnder u xs → k < length xs → get_or xs k 0 < u
at_under u [] k h lt = absurd (let f : ⊥ = omega (arith, lt) in f)
at_under u (x ∷ xs) zero h lt = h.0
at_under u (x ∷ xs) (suc k) h lt = at_under u xs k h.1 (omega (arith, lt))

pub key_under : (u : ℕ) (es : List (ℕ × ℕ)) (k : ℕ) → first_from u (keys_of es) ≡ None → k < length es → (get_or es k (0, 0)).0 < u
key_under u es k e lt = at es k (under_of u (keys_of es) e) lt
  where
    at : (es : List (ℕ × ℕ)) (k : ℕ) → AreUnder u (keys_of es) → k < length es → (get_or es k (0, 0)).0 < u
    at [] k h lt = absurd (let f : ⊥ = omega (arith, lt) in f)
    at (e ∷ es) zero h lt = h.0
    at (e ∷ es) (suc k) h lt = at es k h.1 (omega (arith, lt))

pub no_bits : (xs : List ℕ) (n : ℕ) → replicate n 0 ≡ bit_words (drop (length xs - 0) xs) 0 n
no_bits xs n = sym (ap (λ ys. bit_words ys 0 n) (drop_all (length xs - 0) xs (omega arith)) ∙ no_elements 0 n)

-- the number before those that are done
abbrev pub last_of : List ℕ → ℕ → ℕ
last_of xs d = get_or xs (length xs - 1 - d) 0

last_under : (u : ℕ) (xs : List ℕ) (d : ℕ) → first_from u xs ≡ None → d < length xs → last_of xs d / 64 < (u + 63) / 64
last_under u xs d e lt =
    let h : last_of xs d < u = at_under u xs (length xs - 1 - d) (under_of u xs e) (omega (arith, lt)) in
    omega (arith, h)

words_length : (xs : List ℕ) (i n : ℕ) → length (bit_words xs i n) ≡ n
words_length xs i zero = refl
words_length xs i (suc n) = ap suc (words_length xs (suc i) n)

-- the word of a number is one of the words
pub word_in : (u : ℕ) (xs ws : List ℕ) (d : ℕ) → first_from u xs ≡ None → d < length xs → ws ≡ bit_words (drop (length xs - d) xs) 0 ((u + 63) / 64) → last_of xs d / 64 < length ws
word_in u xs ws d none lt e =
    let h = last_under u xs d none lt in
    let len : length ws ≡ (u + 63) / 64 = ap (λ (zs : List ℕ). length zs) e ∙ words_length (drop (length xs - d) xs) 0 ((u + 63) / 64) in
    omega (arith, h, len)

-- within a list it does not matter what is taken beyond it
pub either_way : (xs : List ℕ) (i a b : ℕ) → i < length xs → get_or xs i a ≡ get_or xs i b
either_way [] i a b lt = absurd (let f : ⊥ = omega (arith, lt) in f)
either_way (x ∷ xs) zero a b lt = refl
either_way (x ∷ xs) (suc i) a b lt = either_way xs i a b (omega (arith, lt))

pub bit_step : (u : ℕ) (xs ws : List ℕ) (d w : ℕ) → first_from u xs ≡ None → IsRising xs → d < length xs → ws ≡ bit_words (drop (length xs - d) xs) 0 ((u + 63) / 64) → w ≡ slice_index ws (last_of xs d / 64)
    → slice_set ws (last_of xs d / 64) (bit_or w (1 * 2 ^ (last_of xs d % 64) % 2 ^ 64)) ≡ bit_words (drop (length xs - (d + 1)) xs) 0 ((u + 63) / 64)
bit_step u xs ws d w none rises lt e f =
    let k = length xs - (d + 1) in
    let n = (u + 63) / 64 in
    let x = last_of xs d in
    let under = under_of u xs none in
    let at : length xs - 1 - d ≡ k = omega arith in
    let next : length xs - d ≡ suc k = omega (arith, lt) in
    let k_lt : k < length xs = omega (arith, lt) in
    let ys = drop (suc k) xs in
    let cons : drop k xs ≡ x ∷ ys = drop-cons xs k 0 k_lt ∙ ap (λ j. get_or xs j 0 ∷ ys) (sym at) in
    let rest : IsRising (x ∷ ys) = subst IsRising cons (rises_drop xs k rises) in
    let all : AreUnder u (x ∷ ys) = subst (AreUnder u) cons (under_drop u xs k under) in
    let same : ws ≡ bit_words ys 0 n = e ∙ ap (λ j. bit_words (drop j xs) 0 n) next in
    let h = bits_all u ys all.1 rest.1 in
    let new : sets.contains (sets.from_list ys) x ≡ false = contains_has ys x ∙ has_none x ys rest.0 in
    let power : 2 ^ (x % 64) < 2 ^ 64 = pow_below (x % 64) 64 (omega arith) in
    let bit : 1 * 2 ^ (x % 64) % 2 ^ 64 ≡ 2 ^ (x % 64) = omega (arith, power) in
    let word : w ≡ slice_index (bit_words ys 0 n) (x / 64) = f ∙ ap (λ zs. slice_index zs (x / 64)) same in
    (λ i. slice_set (same i) (x / 64) (bit_or (word i) (bit i)))
    ∙ ap (slice_set (bit_words ys 0 n) (x / 64)) (sym (sum_or u x (sets.from_list ys) (bit_words ys 0 n) h all.0 new))
    ∙ sym (changes x ys 0 n (x / 64) (omega arith))
    ∙ sym (ap (λ zs. bit_words zs 0 n) cons)
