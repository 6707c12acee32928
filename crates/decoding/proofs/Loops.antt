-- Steps of loops.
use Rattle.std.proofs.Common.{◌≡◌, ℕ, zero, suc, ◌+◌, ◌-◌, ◌*◌, ◌^◌, ◌%◌, ◌<◌, ◌≤◌, Bool, true, false, cond, ◌&&◌, ◌||◌, List, [], ◌∷◌, length, drop, get_or, refl, sym, ap, ◌∙◌, subst, arith, eqb}
use Rattle.std.proofs.lemmas.List.{drop_all}
use Rattle.std.proofs.Math.Seq.{drop-cons}
use Rattle.std.proofs.Math.Nat.{add-mul-mod_self_left, mod-eq_of_lt}
use Rattle.containers.specs.Bag.{Bag, bag_of, added, no_number, same_bag}
use Rattle.containers.proofs.BagsOfAscending as bags
use Rattle.relations.specs.Represents.{state}
use Rattle.image_laws.specs.Held.{every, some, run, is_size, is_table}
use Rattle.image_laws.proofs.TableReads.{tested}
use Rattle.decoding.specs.Slots.{IsSlots}

one_more : (n : ℕ) → n + 1 ≡ suc n
one_more n = omega arith

-- ---- multisets

pub no_items : (xs : List ℕ) → no_number ≡ bag_of (drop (length xs - 0) xs)
no_items xs = sym (ap bag_of (drop_all (length xs - 0) xs (omega arith)) ∙ bags.none)

bag_first : (x : ℕ) (xs : List ℕ) → bag_of (x ∷ xs) ≡ added (bag_of xs) x
unfolding bag_of added
bag_first x xs = same_bag _ _ refl

pub next_item : (xs : List ℕ) (d : ℕ) (b : Bag) → d < length xs → b ≡ bag_of (drop (length xs - d) xs) → added b (get_or xs (length xs - 1 - d) 0) ≡ bag_of (drop (length xs - (d + 1)) xs)
next_item xs d b lt e =
    let k = length xs - (d + 1) in
    let at : length xs - 1 - d ≡ k = omega arith in
    let next : length xs - d ≡ suc k = omega (arith, lt) in
    ap (λ n. added b (get_or xs n 0)) at
    ∙ ap (λ c. added c (get_or xs k 0)) (e ∙ ap (λ n. bag_of (drop n xs)) next)
    ∙ sym (ap bag_of (drop-cons xs k 0 (omega (arith, lt))) ∙ bag_first (get_or xs k 0) (drop (suc k) xs))

-- ---- the number of slots

pub next_size : (cap e : ℕ) (same found : Bool) → same ≡ is_size cap e → found ≡ some (is_size cap) e → (same || found) ≡ some (is_size cap) (e + 1)
next_size cap e same found s f = (λ i. s i || f i) ∙ sym (ap (some (is_size cap)) (one_more e))

-- ---- slots

pub next_slot : (test : ℕ → Bool) (n : ℕ) (near fits : Bool) → near ≡ test n → fits ≡ every test n → (near && fits) ≡ every test (n + 1)
next_slot test n near fits s f = (λ i. s i && f i) ∙ sym (ap (every test) (one_more n))

round_is : (cap i : ℕ) → i < cap → (cap + i) % cap ≡ i
round_is cap i lt =
    ap (λ n. n % cap) (let e : cap + i ≡ i + cap * 1 = omega arith in e) ∙ add-mul-mod_self_left i cap 1 ∙ mod-eq_of_lt lt

pub run_next : (w cap : ℕ) (ws : List ℕ) (i s r : ℕ) → i < cap → s ≡ state w ws i → r ≡ run w cap ws (cap + i) → cond (eqb s 0) 0 (suc r) ≡ run w cap ws (cap + (i + 1))
run_next w cap ws i s r lt e f =
    (λ j. cond (eqb (e j) 0) 0 (suc (f j)))
    ∙ ap (λ k. cond (eqb (state w ws k) 0) 0 (suc (run w cap ws (cap + i)))) (sym (round_is cap i lt))
    ∙ sym (ap (run w cap ws) (let q : cap + (i + 1) ≡ suc (cap + i) = omega arith in q))

pub run_less : (s r cap i : ℕ) → r ≤ cap + i → cond (eqb s 0) 0 (suc r) ≤ cap + (i + 1)
run_less s r cap i le = at (eqb s 0)
  where
    at : (b : Bool) → cond b 0 (suc r) ≤ cap + (i + 1)
    at true = omega arith
    at false = omega (arith, le)

pub are_slots : (w cap n used : ℕ) (ws : List ℕ) → 2 ≤ w → w ≤ 3 → is_table w cap n used ws ≡ true → IsSlots w cap ws
are_slots w cap n used ws wide narrow e = let t = tested w cap n used ws e in record { size = t.size; wide = wide; narrow = narrow }
