-- Images of a few maps represent them.
use Rattle.std.proofs.Common.{◌≡◌, ℕ, zero, suc, ◌+◌, ◌*◌, ◌<◌, Bool, true, false, cond, ◌||◌, not, List, [], ◌∷◌, length, refl, sym, ap, ◌∙◌, subst, arith, eqb, eqb-true, eq-eqb, leb-true, nat_le, lit<, slice_index}
use Rattle.std.proofs.Math.Path.{fun_ext}
use Rattle.std.specs.FinMap as maps
use Rattle.std.specs.Option.{is_some}
use Rattle.std.specs.Ordering.{nat_cmp, eq_by_cmp}
use Rattle.std.specs.Prelude.{replicate, Option, Some, None}
use Rattle.nres_core.specs.declared.value.Value.TheVariants as v
use Rattle.target_code.specs.declared.tree.Rep.TheVariants as rep
use Rattle.relations.specs.Blocks.{block}
use Rattle.relations.specs.Images.{of_block, amap_image, hmap_image}
use Rattle.relations.specs.Represents.{Map, IsTable, IsReached, state, key, value, one_if}
use Rattle.relations.specs.Laws.{IsEncoded, MapsEncoded}
use Rattle.relations.proofs.Small.{every_at, words_tested, word_first}
use Rattle.relations.proofs.Layouts.{whole_exact}
use Rattle.relations.proofs.Tables.{is_equal, implied}

get_is : (m : Map) (es : List (ℕ × ℕ)) → maps.entries m ≡ es → (k : ℕ) → maps.get m k ≡ maps.find nat_cmp k es
get_is m es e k = maps.get-entries m k ∙ ap (λ (fs : List (ℕ × ℕ)). maps.find nat_cmp k fs) e

len_is : (m : Map) (es : List (ℕ × ℕ)) → maps.entries m ≡ es → maps.len m ≡ length es
len_is m es e = maps.len-entries m ∙ ap (λ (fs : List (ℕ × ℕ)). length fs) e

has_is : (m : Map) (es : List (ℕ × ℕ)) → maps.entries m ≡ es → (k : ℕ) → maps.contains_key m k ≡ is_some {T = ℕ} (maps.find nat_cmp k es)
has_is m es e k = ap (λ (o : Option ℕ). is_some o) (get_is m es e k)

some_of : (x : ℕ) (b : Bool) → is_some {T = ℕ} (cond b (Some x) None) ≡ true → b ≡ true
some_of x true e = refl
some_of x false e = e

-- ---- a map below 2, with the key 1

module _ (m : Map) (e : maps.entries m ≡ (1, 5) ∷ []) where
  marks : (k : ℕ) → k < 2 → slice_index (0 ∷ 0 ∷ 1 ∷ 5 ∷ []) (2 * k) ≡ one_if (maps.contains_key m k)
  marks zero h = sym (ap one_if (has_is m ((1, 5) ∷ []) e 0))
  marks (suc zero) h = sym (ap one_if (has_is m ((1, 5) ∷ []) e 1))
  marks (suc (suc k)) h = absurd (let d : ⊥ = omega (arith, h) in d)

  values : (k x : ℕ) → k < 2 → maps.get m k ≡ Some x → slice_index (0 ∷ 0 ∷ 1 ∷ 5 ∷ []) (2 * k + 1) ≡ x
  values zero x h g = absurd (let d : None ≡ Some x = sym (get_is m ((1, 5) ∷ []) e 0) ∙ g in cc d)
  values (suc zero) x h g = let d : Some 5 ≡ Some x = sym (get_is m ((1, 5) ∷ []) e 1) ∙ g in cc d
  values (suc (suc k)) x h g = absurd (let d : ⊥ = omega (arith, h) in d)

  below_2 : (k : ℕ) → maps.contains_key m k ≡ true → k < 2
  below_2 k h =
      let y = is_equal k 1 (some_of 5 (eq_by_cmp nat_cmp k 1) (sym (has_is m ((1, 5) ∷ []) e k) ∙ h)) in
      omega (arith, y)

  of_amap : IsEncoded (rep.Amap 2) (v.Map m)
  of_amap =
      let count : maps.len m ≡ 1 = len_is m ((1, 5) ∷ []) e in
      record {
        has = of_block (1 ∷ []) (0 ∷ 0 ∷ 1 ∷ 5 ∷ []);
        same = ap (amap_image 2) e;
        represents = λ b lt. record {
          registers = word_first b (1 ∷ []) lt (words_tested (1 ∷ []) refl);
          layout = record {
            block_words = 0 ∷ 0 ∷ 1 ∷ 5 ∷ [];
            piece = whole_exact (block b (0 ∷ 0 ∷ 1 ∷ 5 ∷ []));
            words = words_tested (0 ∷ 0 ∷ 1 ∷ 5 ∷ []) refl;
            size = refl;
            marks = marks;
            values = values;
            bounded = below_2;
            count = sym count;
            small = omega (arith, count);
          };
        };
      }

-- ---- a map in a hash table, with the key 8

abbrev ws : List ℕ
ws = 1 ∷ 8 ∷ 4 ∷ replicate 21 0

abbrev has_entry : ℕ → Bool
has_entry k = is_some {T = ℕ} (maps.find nat_cmp k ((8, 4) ∷ []))

first_full : (i : ℕ) → i < 8 → state 3 ws i ≡ 1 → i ≡ 0
first_full i h e = eqb-true i 0 (implied _ _ (every_at (λ i. not (eqb (state 3 ws i) 1) || eqb i 0) 8 i refl h) (eq-eqb _ _ e))

at_8 : IsReached 3 ws 8 8
at_8 = record { steps = 0; full = refl; same = refl; way = λ i h e. omega (arith, h) }

table : IsTable 3 ws has_entry 8 1 1
table = record {
  power = (0, refl);
  size = refl;
  states = λ i h. leb-true (state 3 ws i) 2 (every_at (λ i. nat_le (state 3 ws i) 2) 8 i refl h);
  keys = λ i h e. subst (λ j. has_entry (key 3 ws j) ≡ true) (sym (first_full i h e)) refl;
  once = λ i j h k a b c. first_full i h a ∙ sym (first_full j k b);
  reached = λ x e. subst (IsReached 3 ws 8) (sym (is_equal x 8 (some_of 4 (eq_by_cmp nat_cmp x 8) e))) at_8;
  full_are = refl;
  used_are = refl;
  open_slot = lit< tt;
}

of_hmap : (m : Map) → maps.entries m ≡ (8, 4) ∷ [] → IsEncoded rep.Hmap (v.Map m)
of_hmap m e =
    let count : maps.len m ≡ 1 = len_is m ((8, 4) ∷ []) e in
    record {
      has = of_block (8 ∷ 1 ∷ 1 ∷ []) ws;
      same = ap (λ (es : List (ℕ × ℕ)). Some (hmap_image es)) e;
      represents = λ b lt. record {
        registers = word_first b (8 ∷ 1 ∷ 1 ∷ []) lt (words_tested (8 ∷ 1 ∷ 1 ∷ []) refl);
        layout = record {
          block_words = ws;
          piece = whole_exact (block b ws);
          words = words_tested ws refl;
          table = subst (λ f. IsTable 3 ws f 8 1 1) (sym (fun_ext (has_is m ((8, 4) ∷ []) e))) table;
          values = λ i h f. subst (λ j. maps.get m (key 3 ws j) ≡ Some (value 3 ws j)) (sym (first_full i h f)) (get_is m ((8, 4) ∷ []) e 8);
          small = omega (arith, count);
        };
      };
    }

pub maps_encoded : MapsEncoded
maps_encoded = record { amap = of_amap; hmap = of_hmap }
