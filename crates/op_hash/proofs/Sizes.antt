-- What tables say of the sets and maps whose keys they hold: sizes, and orders of the keys.
use Rattle.std.specs.Prelude.{T}
use Rattle.std.proofs.Common.{◌≡◌, ◌≢◌, ℕ, zero, suc, ◌+◌, ◌<◌, ◌≤◌, Bool, true, false, cond, ◌||◌, ◌&&◌, List, [], ◌∷◌, ◌++◌, map, refl, sym, ap, ◌∙◌, subst, arith, eqb, eqb-true, eq-eqb, ne_eqb, ltb-true, nat_lt, Less, Equal, Greater, ⊎_elim}
use Rattle.std.proofs.lemmas.Bool.{cond_both, cond-false}
use Rattle.std.proofs.lemmas.Bool.Decides.{eqb_tells}
use Rattle.std.proofs.lemmas.List.{length-map}
use Rattle.std.specs.Cmp.{nat_cmp_total, unsigned_tied}
use Rattle.std.specs.FinMap as maps
use Rattle.std.specs.FinMap.Entries as entries
use Rattle.std.specs.FinSet as std_sets
use Rattle.std.specs.List.{list_any}
use Rattle.std.specs.Ordering.{nat_cmp, eq_by_cmp, is_lt}
use Rattle.sequences.specs.Keys.{IsRising, has}
use Rattle.sequences.proofs.Places.{has_none}
use Rattle.containers.specs.Sets as sets
use Rattle.containers.proofs.SetItems.{items_rise, has_items}
use Rattle.relations.specs.Represents.{Set, one_if, count, state, key, is_full, IsTable}
use Rattle.op_base.specs.Counts.{Test, put}
use Rattle.op_base.proofs.CountsLemmas.{put_here, put_other}
use Rattle.op_base.proofs.Mults.{mult, mult_append, same_mult, same_length}
use Rattle.op_hash.specs.Tables.{keys_of}
use Rattle.op_hash.specs.Laws.{SetKeysLaw, MapKeysLaw}
use Rattle.op_hash.proofs.Keys.{keys_length, with_key, without_key}
use Rattle.op_hash.proofs.Move.{moved, moved_all, not_yet}

module _ (w cap n used : ℕ) (ws : List ℕ) (has : Test) (t : IsTable w ws has cap n used) where
  keys_mult : (i : ℕ) → i ≤ cap → (y : ℕ) → mult y (keys_of w ws i) ≡ one_if (moved w ws i y)
  keys_mult zero le y = refl
  keys_mult (suc i) le y = by (is_full w ws i) refl (keys_mult i (omega (arith, le)))
    where
      by : (b : Bool) → is_full w ws i ≡ b → ((y : ℕ) → mult y (keys_of w ws i) ≡ one_if (moved w ws i y)) → mult y (keys_of w ws (suc i)) ≡ one_if (moved w ws (suc i) y)
      by false e r = ap (mult y) (without_key w ws i e) ∙ r y ∙ sym (ap (λ z. one_if (cond z (put (moved w ws i) (key w ws i)) (moved w ws i) y)) e)
      by true e r =
          let f : state w ws i ≡ 1 = eqb-true (state w ws i) 1 e in
          let none = not_yet w ws cap n used has t i (omega (arith, le)) f in
          let a = mult_append y (keys_of w ws i) (key w ws i ∷ []) in
          let core : mult y (keys_of w ws i ++ key w ws i ∷ []) ≡ one_if (put (moved w ws i) (key w ws i) y) = ⊎_elim
          (λ d. let m = r y in let g = ap one_if (ap (moved w ws i) (sym d.1) ∙ none) in let h = ap one_if d.0 in let p = ap one_if (ap (put (moved w ws i) (key w ws i)) (sym d.1) ∙ put_here (moved w ws i) (key w ws i)) in omega (arith, a, m, g, h, p))
          (λ d. let m = r y in let h = ap one_if d.0 in let p = ap one_if (put_other (moved w ws i) (key w ws i) y (λ z. d.1 (sym z))) in omega (arith, a, m, h, p))
          (eqb_tells (key w ws i) y) in
          ap (mult y) (with_key w ws i e) ∙ core ∙ sym (ap (λ z. one_if (cond z (put (moved w ws i) (key w ws i)) (moved w ws i) y)) e)

  all_mult : (y : ℕ) → mult y (keys_of w ws cap) ≡ one_if (has y)
  all_mult y = keys_mult cap (omega arith) y ∙ ap (λ f. one_if (f y)) (moved_all w ws cap n used has t)

-- ---- sets

rising_mult : (q : ℕ) (xs : List ℕ) → IsRising xs → mult q xs ≡ one_if (has q xs)
rising_mult q [] r = refl
rising_mult q (x ∷ xs) r =
    let m = rising_mult q xs r.1 in
    let core : one_if (eqb x q) + mult q xs ≡ one_if (eqb q x || has q xs) = ⊎_elim
    (λ e. let h = ap one_if (ap (λ z. has z xs) (sym e.1) ∙ has_none x xs r.0) in let a = ap one_if e.0 in
    let b = ap (λ z. one_if (z || has q xs)) (eq-eqb q x (sym e.1)) in omega (arith, m, h, a, b))
    (λ e. let a = ap one_if e.0 in let b = ap (λ z. one_if (z || has q xs)) (ne_eqb q x (λ z. e.1 (sym z))) in omega (arith, m, a, b))
    (eqb_tells x q) in core

module _ (w : ℕ) (ws : List ℕ) where
  -- the set of the keys of the first slots
  abbrev built : ℕ → Set
  built zero = std_sets.empty
  built (suc i) = cond (is_full w ws i) (std_sets.insert (built i) (key w ws i)) (built i)

  built_has : (i q : ℕ) → std_sets.contains (built i) q ≡ moved w ws i q
  built_has zero q = std_sets.contains-empty nat_cmp q
  built_has (suc i) q = by (is_full w ws i) (built_has i q)
    where
      by : (b : Bool) → std_sets.contains (built i) q ≡ moved w ws i q → std_sets.contains (cond b (std_sets.insert (built i) (key w ws i)) (built i)) q ≡ cond b (put (moved w ws i) (key w ws i)) (moved w ws i) q
      by false r = r
      by true r =
          std_sets.contains-insert nat_cmp_total (built i) (key w ws i) q ∙ ap (λ z. z || std_sets.contains (built i) q) (unsigned_tied q (key w ws i)) ∙
          ap (λ z. eqb q (key w ws i) || z) r ∙ as_cond (eqb q (key w ws i)) (moved w ws i q)
        where
          as_cond : (a b : Bool) → (a || b) ≡ cond a true b
          as_cond true b = refl
          as_cond false b = refl

  built_len : (cap n used : ℕ) (test : Test) → IsTable w ws test cap n used → (i : ℕ) → i ≤ cap → std_sets.len (built i) ≡ count (is_full w ws) i
  built_len slots n used test t zero le = std_sets.len-empty nat_cmp
  built_len slots n used test t (suc i) le = by (is_full w ws i) refl (built_len slots n used test t i (omega (arith, le)))
    where
      by : (b : Bool) → is_full w ws i ≡ b → std_sets.len (built i) ≡ count (is_full w ws) i → std_sets.len (cond (is_full w ws i) (std_sets.insert (built i) (key w ws i)) (built i)) ≡ one_if (is_full w ws i) + count (is_full w ws) i
      by false e r =
          let a = ap (λ z. std_sets.len (cond z (std_sets.insert (built i) (key w ws i)) (built i))) e in
          let b = ap one_if e in omega (arith, a, b, r)
      by true e r =
          let none = built_has i (key w ws i) ∙ not_yet w ws slots n used test t i (omega (arith, le)) (eqb-true (state w ws i) 1 e) in
          let l = std_sets.len-insert nat_cmp_total (built i) (key w ws i) ∙ cond-false (std_sets.contains (built i) (key w ws i)) _ _ none in
          let a = ap (λ z. std_sets.len (cond z (std_sets.insert (built i) (key w ws i)) (built i))) e in
          let b = ap one_if e in omega (arith, a, b, l, r)

pub set_keys_law : SetKeysLaw
set_keys_law s w cap n used ws t =
    let has = sets.contains s in (
      same_mult (sets.items s) (keys_of w ws cap)
          (λ y. rising_mult y (sets.items s) (items_rise s) ∙ ap one_if (has_items s y) ∙ sym (all_mult w cap n used ws has t y)),
      t.full_are ∙ sym (built_len w ws cap n used has t cap (omega arith)) ∙
          ap std_sets.len (std_sets.same_set nat_cmp_total std_sets.nat_cmp-IsAntisymmetric (built w ws cap) s (λ q. built_has w ws cap q ∙ ap (λ f. f q) (moved_all w ws cap n used has t))),
    )

-- ---- maps

less_of : (x y : ℕ) → is_lt (nat_cmp x y) ≡ true → x < y
less_of x y =
    cond_both (nat_lt x y) Less (cond (eqb x y) Equal Greater) (λ z. is_lt z ≡ true → x < y)
    (λ e o. ltb-true x y e)
    (λ e. cond_both (eqb x y) Equal Greater (λ z. is_lt z ≡ true → x < y) (λ d o. absurd (let f : ⊥ = cc o in f)) (λ d o. absurd (let f : ⊥ = cc o in f)))

first_of : (a b : Bool) → T (a && b) → (a ≡ true) × T b
first_of true b p = (refl, p)
first_of false b p = absurd p

abbrev firsts : List (ℕ × ℕ) → List ℕ
firsts es = map (λ e. e.0) es

none_below : (k : ℕ) (es : List (ℕ × ℕ)) → T (entries.below_all nat_cmp k es) → mult k (firsts es) ≡ 0
none_below k [] h = refl
none_below k (e ∷ es) h =
    let p = first_of (is_lt (nat_cmp k e.0)) (entries.below_all nat_cmp k es) h in
    let r = none_below k es p.1 in
    let lt = less_of k e.0 p.0 in
    let ne : e.0 ≢ k = omega (arith, lt) in
    let a = ap one_if (ne_eqb e.0 k ne) in omega (arith, a, r)

entries_mult : (q : ℕ) (es : List (ℕ × ℕ)) → T (maps.is_sorted nat_cmp es) → mult q (firsts es) ≡ one_if (list_any (eq_by_cmp nat_cmp q) (firsts es))
entries_mult q [] h = refl
entries_mult q (e ∷ es) h =
    let p = first_of (entries.below_all nat_cmp e.0 es) (maps.is_sorted nat_cmp es) h in
    let r = entries_mult q es p.1 in
    let c = ap (λ z. one_if (z || list_any (eq_by_cmp nat_cmp q) (firsts es))) (unsigned_tied q e.0) in
    let core : one_if (eqb e.0 q) + mult q (firsts es) ≡ one_if (eq_by_cmp nat_cmp q e.0 || list_any (eq_by_cmp nat_cmp q) (firsts es)) = ⊎_elim
    (λ d. let none = ap (λ z. mult z (firsts es)) (sym d.1) ∙ none_below e.0 es (subst T (sym p.0) tt) in
    let a = ap one_if d.0 in let b = ap (λ z. one_if (z || list_any (eq_by_cmp nat_cmp q) (firsts es))) (eq-eqb q e.0 (sym d.1)) in omega (arith, a, b, c, none))
    (λ d. let a = ap one_if d.0 in let b = ap (λ z. one_if (z || list_any (eq_by_cmp nat_cmp q) (firsts es))) (ne_eqb q e.0 (λ z. d.1 (sym z))) in omega (arith, a, b, c, r))
    (eqb_tells e.0 q) in core

pub map_keys_law : MapKeysLaw
map_keys_law m w cap n used ws t =
    let has = maps.contains_key m in
    let same : (y : ℕ) → mult y (maps.keys m) ≡ mult y (keys_of w ws cap) =
    (λ y. entries_mult y (maps.entries m) (maps.entries_sorted m) ∙ ap one_if (sym (maps.contains_key-keys m y)) ∙ sym (all_mult w cap n used ws has t y)) in (
      same_mult (maps.keys m) (keys_of w ws cap) same,
      t.full_are ∙ sym (keys_length w ws cap) ∙ sym (same_length (maps.keys m) (keys_of w ws cap) same) ∙ length-map (maps.entries m) (λ e. e.0) ∙ sym (maps.len-entries m),
    )
