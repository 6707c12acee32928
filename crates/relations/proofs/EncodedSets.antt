-- Images of a few sets represent them.
use Rattle.std.proofs.Common.{◌≡◌, ℕ, zero, suc, ◌+◌, ◌/◌, ◌%◌, ◌<◌, ◌⊎◌, inl, inr, Bool, true, false, ◌||◌, not, List, [], ◌∷◌, refl, sym, ap, ◌∙◌, subst, arith, eqb, eqb-true, eq-eqb, leb-true, nat_le, ⊎_elim, lit<, slice_index}
use Rattle.std.proofs.Math.Path.{fun_ext}
use Rattle.std.proofs.lemmas.Bool.{cond-false}
use Rattle.std.specs.Cmp.{nat_cmp_total}
use Rattle.containers.specs.Sets as sets
use Rattle.containers.proofs.SetItems.{contains-items}
use Rattle.std.specs.Int.{bit_at}
use Rattle.std.specs.List.{list_any}
use Rattle.std.specs.Ordering.{nat_cmp, eq_by_cmp}
use Rattle.std.specs.Prelude.{replicate, Some}
use Rattle.nres_core.specs.declared.value.Value.TheVariants as v
use Rattle.target_code.specs.declared.tree.Rep.TheVariants as rep
use Rattle.relations.specs.Blocks.{block}
use Rattle.relations.specs.Images.{of_block, bits_image, hset_image}
use Rattle.relations.specs.Represents.{Set, IsTable, IsReached, state, key, one_if}
use Rattle.relations.specs.Samples.{set_of}
use Rattle.relations.specs.Laws.{IsEncoded, SetsEncoded}
use Rattle.relations.proofs.Small.{every, every_at, words_tested, word_first}
use Rattle.relations.proofs.Layouts.{whole_exact}
use Rattle.relations.proofs.Tables.{is_equal, one_of_two, implied}

-- ---- a hash table of 0, 8 and 16

abbrev ws : List ℕ
ws = 1 ∷ 0 ∷ 1 ∷ 8 ∷ 1 ∷ 16 ∷ replicate 10 0

abbrev among : ℕ → Bool
among x = list_any (eq_by_cmp nat_cmp x) (0 ∷ 8 ∷ 16 ∷ [])

way : (i : ℕ) → i < 2 → state 2 ws ((0 + i) % 8) ≡ 0 → ⊥
way zero h e = omega (arith, e)
way (suc zero) h e = omega (arith, e)
way (suc (suc i)) h e = omega (arith, h)

at_0 : IsReached 2 ws 8 0
at_0 = record { steps = 0; full = refl; same = refl; way = λ i h e. omega (arith, h) }

at_8 : IsReached 2 ws 8 8
at_8 = record { steps = 1; full = refl; same = refl; way = λ i h e. way i (omega (arith, h)) e }

at_16 : IsReached 2 ws 8 16
at_16 = record { steps = 2; full = refl; same = refl; way = way }

abbrev full : ℕ → Bool
full i = eqb (state 2 ws i) 1

once : (i j : ℕ) → i < 8 → j < 8 → state 2 ws i ≡ 1 → state 2 ws j ≡ 1 → key 2 ws i ≡ key 2 ws j → i ≡ j
once i j h k a b c =
    let all = every_at (λ i. every (λ j. not (full i) || (not (full j) || (not (eqb (key 2 ws i) (key 2 ws j)) || eqb i j))) 8) 8 i refl h in
    let one = every_at (λ j. not (full i) || (not (full j) || (not (eqb (key 2 ws i) (key 2 ws j)) || eqb i j))) 8 j all k in
    eqb-true i j (implied _ _ (implied _ _ (implied _ _ one (eq-eqb _ _ a)) (eq-eqb _ _ b)) (eq-eqb _ _ c))

one_of_three : (a b c : Bool) → (a || (b || (c || false))) ≡ true → (a ≡ true) ⊎ ((b ≡ true) ⊎ (c ≡ true))
one_of_three true b c e = inl refl
one_of_three false b c e = inr (one_of_two b c e)

table : IsTable 2 ws among 8 3 3
table = record {
  power = (0, refl);
  size = refl;
  states = λ i h. leb-true (state 2 ws i) 2 (every_at (λ i. nat_le (state 2 ws i) 2) 8 i refl h);
  keys = λ i h e. implied _ _ (every_at (λ i. not (full i) || among (key 2 ws i)) 8 i refl h) (eq-eqb _ _ e);
  once = once;
  reached = λ x e. ⊎_elim
      (λ z. subst (IsReached 2 ws 8) (sym (is_equal x 0 z)) at_0)
      (λ y. ⊎_elim
      (λ z. subst (IsReached 2 ws 8) (sym (is_equal x 8 z)) at_8)
      (λ z. subst (IsReached 2 ws 8) (sym (is_equal x 16 z)) at_16)
      y)
      (one_of_three (eq_by_cmp nat_cmp x 0) (eq_by_cmp nat_cmp x 8) (eq_by_cmp nat_cmp x 16) e);
  full_are = refl;
  used_are = refl;
  open_slot = lit< tt;
}

has_is : (s : Set) (xs : List ℕ) → sets.items s ≡ xs → sets.contains s ≡ (λ x. list_any (eq_by_cmp nat_cmp x) xs)
has_is s xs e = fun_ext (λ x. contains-items s x ∙ ap (λ ys. list_any (eq_by_cmp nat_cmp x) ys) e)

set_is : (s : Set) (xs : List ℕ) → sets.items s ≡ xs → s ≡ set_of xs
set_is s xs e =
    sets.same_set nat_cmp_total sets.nat_cmp-IsAntisymmetric s (set_of xs) (λ q.
    contains-items s q ∙ ap (λ ys. list_any (eq_by_cmp nat_cmp q) ys) e ∙ sym (sets.contains-from_list nat_cmp_total xs q))

one_more : (x : ℕ) (xs : List ℕ) → list_any (eq_by_cmp nat_cmp x) xs ≡ false → sets.len (set_of (x ∷ xs)) ≡ sets.len (set_of xs) + 1
one_more x xs e = sets.len-insert nat_cmp_total (set_of xs) x ∙ cond-false (sets.contains (set_of xs) x) _ _ (sets.contains-from_list nat_cmp_total xs x ∙ e)

len_none : sets.len (set_of []) ≡ 0
len_none = sets.len-empty nat_cmp

len_three : sets.len (set_of (0 ∷ 8 ∷ 16 ∷ [])) ≡ 3
len_three =
    one_more 0 (8 ∷ 16 ∷ []) refl
    ∙ ap (λ n. n + 1) (one_more 8 (16 ∷ []) refl)
    ∙ ap (λ n. n + 1 + 1) (one_more 16 [] refl)
    ∙ ap (λ n. n + 1 + 1 + 1) len_none

len_two : sets.len (set_of (3 ∷ 69 ∷ [])) ≡ 2
len_two = one_more 3 (69 ∷ []) refl ∙ ap (λ n. n + 1) (one_more 69 [] refl) ∙ ap (λ n. n + 1 + 1) len_none

of_hset : (s : Set) → sets.items s ≡ 0 ∷ 8 ∷ 16 ∷ [] → IsEncoded rep.Hset (v.Set s)
of_hset s e =
    let count : sets.len s ≡ 3 = ap (λ t. sets.len t) (set_is s (0 ∷ 8 ∷ 16 ∷ []) e) ∙ len_three in
    record {
      has = of_block (8 ∷ 3 ∷ 3 ∷ []) ws;
      same = ap (λ (xs : List ℕ). Some (hset_image xs)) e;
      represents = λ b lt. record {
        registers = word_first b (8 ∷ 3 ∷ 3 ∷ []) lt (words_tested (8 ∷ 3 ∷ 3 ∷ []) refl);
        layout = record {
          block_words = ws;
          piece = whole_exact (block b ws);
          words = words_tested ws refl;
          table = subst (λ f. IsTable 2 ws f 8 3 3) (sym (has_is s (0 ∷ 8 ∷ 16 ∷ []) e)) table;
          small = omega (arith, count);
        };
      };
    }

-- ---- bits of 3 and 69

abbrev bit_words : List ℕ
bit_words = 8 ∷ 32 ∷ []

abbrev is_two : ℕ → Bool
is_two x = list_any (eq_by_cmp nat_cmp x) (3 ∷ 69 ∷ [])

below_128 : (x : ℕ) → x / 64 < 2 → x < 128
below_128 x h = omega (arith, h)

bits : (x : ℕ) → x / 64 < 2 → bit_at (slice_index bit_words (x / 64)) (x % 64) ≡ one_if (is_two x)
bits x h = eqb-true _ _ (every_at (λ x. eqb (bit_at (slice_index bit_words (x / 64)) (x % 64)) (one_if (is_two x))) 128 x refl (below_128 x h))

below_70 : (x : ℕ) → is_two x ≡ true → x < 70
below_70 x e =
    ⊎_elim
    (λ z. let y = is_equal x 3 z in omega (arith, y))
    (λ z. let y = is_equal x 69 z in omega (arith, y))
    (one_of_two (eq_by_cmp nat_cmp x 3) (eq_by_cmp nat_cmp x 69) e)

of_bits : (s : Set) → sets.items s ≡ 3 ∷ 69 ∷ [] → IsEncoded (rep.Bits 70) (v.Set s)
of_bits s e =
    let count : sets.len s ≡ 2 = ap (λ t. sets.len t) (set_is s (3 ∷ 69 ∷ []) e) ∙ len_two in
    let has : (x : ℕ) → sets.contains s x ≡ is_two x = λ x i. has_is s (3 ∷ 69 ∷ []) e i x in
    record {
      has = of_block (2 ∷ []) bit_words;
      same = ap (bits_image 70) e;
      represents = λ b lt. record {
        registers = word_first b (2 ∷ []) lt (words_tested (2 ∷ []) refl);
        layout = record {
          block_words = bit_words;
          piece = whole_exact (block b bit_words);
          words = words_tested bit_words refl;
          size = refl;
          bits = λ x h. bits x h ∙ ap one_if (sym (has x));
          bounded = λ x h. below_70 x (sym (has x) ∙ h);
          count = sym count;
          small = omega (arith, count);
        };
      };
    }

pub sets_encoded : SetsEncoded
sets_encoded = record { hset = of_hset; bits = of_bits }
