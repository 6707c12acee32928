-- The entries of a map, and the map with these entries.
use Rattle.std.specs.Prelude.{T}
use Rattle.std.proofs.Common.{◌≡◌, ℕ, suc, ◌+◌, ◌*◌, ◌<◌, Bool, true, false, cond, ◌&&◌, List, [], ◌∷◌, replicate, refl, sym, ap, ◌∙◌, subst, arith, eqb, ne_eqb, ltb-true, nat_lt, Less, Equal, Greater, ⊎_elim}
use Rattle.std.proofs.lemmas.Bool.{cond_both, cond-true, cond-false}
use Rattle.std.proofs.lemmas.Bool.Decides.{eqb_tells}
use Rattle.std.specs.Cmp.{unsigned_tied}
use Rattle.std.specs.FinMap as maps
use Rattle.std.specs.FinMap.Entries as entries
use Rattle.std.specs.Ordering.{nat_cmp, eq_by_cmp, is_lt}
use Rattle.std.specs.Prelude.{Option, Some, None, slice_set}
use Rattle.sequences.specs.Keys.{IsRising, AllAbove}
use Rattle.relations.specs.Represents.{Map}
use Rattle.relations.specs.Images.{keys_of, marked, written}
use Rattle.image_laws.specs.Laws.{AreEntries}
use Rattle.op_bits.specs.Maps.{HasKeys}
use Rattle.op_bits.proofs.MapWords.{put_here, put_other, with_key, no_keys}
use Rattle.image_laws.proofs.SlotKeys.{same_maps}
use Rattle.image_laws.proofs.BitImages.{AreUnder}
use Rattle.image_laws.proofs.TableImages.{with_entries}

less_of : (x y : ℕ) → is_lt (nat_cmp x y) ≡ true → x < y
less_of x y =
    cond_both (nat_lt x y) Less (cond (eqb x y) Equal Greater) (λ z. is_lt z ≡ true → x < y)
    (λ e o. ltb-true x y e)
    (λ e. cond_both (eqb x y) Equal Greater (λ z. is_lt z ≡ true → x < y) (λ d o. absurd (let f : ⊥ = cc o in f)) (λ d o. absurd (let f : ⊥ = cc o in f)))

first_of : (a b : Bool) → T (a && b) → (a ≡ true) × T b
first_of true b p = (refl, p)
first_of false b p = absurd p

all_above : (k : ℕ) (es : List (ℕ × ℕ)) → T (entries.below_all nat_cmp k es) → AllAbove k (keys_of es)
all_above k [] h = tt
all_above k (e ∷ es) h =
    let p = first_of (is_lt (nat_cmp k e.0)) (entries.below_all nat_cmp k es) h in
    (less_of k e.0 p.0, all_above k es p.1)

keys_rising : (es : List (ℕ × ℕ)) → T (maps.is_sorted nat_cmp es) → IsRising (keys_of es)
keys_rising [] h = tt
keys_rising (e ∷ es) h =
    let p = first_of (entries.below_all nat_cmp e.0 es) (maps.is_sorted nat_cmp es) h in
    (all_above e.0 es (subst T (sym p.0) tt), keys_rising es p.1)

pub entries_rise : (m : Map) → IsRising (keys_of (maps.entries m))
entries_rise m = keys_rising (maps.entries m) (maps.entries_sorted m)

-- what is found among entries, or else stands in a map
abbrev found_or : Option ℕ → Option ℕ → Option ℕ
found_or None o = o
found_or (Some v) o = Some v

none_above : (k : ℕ) (es : List (ℕ × ℕ)) → AllAbove k (keys_of es) → maps.find nat_cmp k es ≡ None
none_above k [] a = refl
none_above k (e ∷ es) a = cond-false (eq_by_cmp nat_cmp k e.0) _ _ (unsigned_tied k e.0 ∙ ne_eqb k e.0 (λ q. let lt = a.0 in let f : ⊥ = omega (arith, lt, q) in f)) ∙ none_above k es a.1

with_found : (es : List (ℕ × ℕ)) (m : Map) (q : ℕ) → IsRising (keys_of es) → maps.get (with_entries m es) q ≡ found_or (maps.find nat_cmp q es) (maps.get m q)
with_found [] m q rises = refl
with_found (e ∷ es) m q rises =
    with_found es (maps.insert m e.0 e.1) q rises.1 ∙
    ⊎_elim
    (λ d.
    ap (λ o. found_or o (maps.get (maps.insert m e.0 e.1) q)) (ap (λ z. maps.find nat_cmp z es) d.1 ∙ none_above e.0 es rises.0)
    ∙ ap (maps.get (maps.insert m e.0 e.1)) d.1 ∙ put_here m e.0 e.1
    ∙ sym (ap (λ o. found_or o (maps.get m q)) (cond-true (eq_by_cmp nat_cmp q e.0) _ _ (unsigned_tied q e.0 ∙ d.0))))
    (λ d.
    ap (λ o. found_or (maps.find nat_cmp q es) o) (put_other m e.0 e.1 q d.1)
    ∙ sym (ap (λ o. found_or o (maps.get m q)) (cond-false (eq_by_cmp nat_cmp q e.0) _ _ (unsigned_tied q e.0 ∙ d.0))))
    (eqb_tells q e.0)

or_none : (o : Option ℕ) → found_or o None ≡ o
or_none None = refl
or_none (Some v) = refl

pub with_all_entries : (m : Map) → with_entries maps.empty (maps.entries m) ≡ m
with_all_entries m = same_maps (with_entries maps.empty (maps.entries m)) m (λ q.
    with_found (maps.entries m) maps.empty q (entries_rise m)
    ∙ ap (found_or (maps.find nat_cmp q (maps.entries m))) (maps.get-empty nat_cmp q)
    ∙ or_none (maps.find nat_cmp q (maps.entries m))
    ∙ sym (maps.get-entries m q))

-- ---- a map below a bound

marked_all : (u : ℕ) (es : List (ℕ × ℕ)) (m : Map) (ws : List ℕ) → HasKeys u m ws → AreUnder u (keys_of es) → AreEntries es → HasKeys u (with_entries m es) (marked ws es)
marked_all u [] m ws h under values = h
marked_all u (e ∷ es) m ws h under values =
    let next : 2 * e.0 + 1 ≡ suc (2 * e.0) = omega arith in
    let one = with_key u e.0 m ws h under.0 e.1 values.0.1 in
    marked_all u es (maps.insert m e.0 e.1) (written ws (2 * e.0) (1 ∷ e.1 ∷ []))
    (subst (λ y. HasKeys u (maps.insert m e.0 e.1) (slice_set (slice_set ws (2 * e.0) 1) y e.1)) next one) under.1 values.1

pub marks_encoded : (u : ℕ) (m : Map) → AreUnder u (keys_of (maps.entries m)) → AreEntries (maps.entries m) → HasKeys u m (marked (replicate (2 * u) 0) (maps.entries m))
marks_encoded u m under values =
    subst (λ z. HasKeys u z (marked (replicate (2 * u) 0) (maps.entries m))) (with_all_entries m)
    (marked_all u (maps.entries m) maps.empty (replicate (2 * u) 0) (no_keys u) under values)
