-- Maps of pairs whose keys rise.
use Rattle.std.proofs.Common.{◌≡◌, ℕ, zero, suc, ◌<◌, Bool, true, false, cond, ◌||◌, eqb, List, [], ◌∷◌, length, map, set, insert, remove, Option, Some, None, is_some, slice_get, Less, Equal, Greater, refl, ap, sym, subst, ◌∙◌, arith, inl, inr}
use Rattle.std.proofs.lemmas.Bool.{eq-eqb, ne_eqb, eqb-true, eqb-false, or_parts, cases_order, both_ways}
use Rattle.std.specs.Ordering.{nat_cmp, eq_by_cmp}
use Rattle.std.specs.Cmp.{nat_cmp_total, nat_cmp_is, unsigned_tied}
use Rattle.std.specs.FinMap as maps
use Rattle.std.specs.FinMap.{from_entries, find, put}
use Rattle.std.specs.FinMap.Entries.{by_order}
use Rattle.sequences.specs.Keys.{AllAbove, IsRising, below, has}
use Rattle.sequences.proofs.Places.{above_lower, has_none}
use Rattle.containers.proofs.SetsOfRising.{below_cases, rising_insert, rising_remove}

abbrev pub keys : List (ℕ × ℕ) → List ℕ
keys es = map (λ e. e.0) es

-- what a map of rising pairs gives
put_less : (k v : ℕ) (e : ℕ × ℕ) (es : List (ℕ × ℕ)) → k < e.0 → put nat_cmp k v (e ∷ es) ≡ (k, v) ∷ e ∷ es
put_less k v e es h = ap (λ r. by_order r ((k, v) ∷ e ∷ es) ((e.0, v) ∷ es) (e ∷ put nat_cmp k v es)) (sym (nat_cmp_is k e.0 Less h))

put_same : (k v : ℕ) (e : ℕ × ℕ) (es : List (ℕ × ℕ)) → k ≡ e.0 → put nat_cmp k v (e ∷ es) ≡ (k, v) ∷ es
put_same k v e es h =
    ap (λ r. by_order r ((k, v) ∷ e ∷ es) ((e.0, v) ∷ es) (e ∷ put nat_cmp k v es)) (sym (nat_cmp_is k e.0 Equal h))
    ∙ ap (λ x. (x, v) ∷ es) (sym h)

put_more : (k v : ℕ) (e : ℕ × ℕ) (es : List (ℕ × ℕ)) → e.0 < k → put nat_cmp k v (e ∷ es) ≡ e ∷ put nat_cmp k v es
put_more k v e es h = ap (λ r. by_order r ((k, v) ∷ e ∷ es) ((e.0, v) ∷ es) (e ∷ put nat_cmp k v es)) (sym (nat_cmp_is k e.0 Greater h))

put_first : (k v : ℕ) (es : List (ℕ × ℕ)) → AllAbove k (keys es) → put nat_cmp k v es ≡ (k, v) ∷ es
put_first k v [] a = refl
put_first k v (e ∷ es) a = put_less k v e es a.0

no_items : {A : Type 0} (xs : List A) → length xs ≡ 0 → xs ≡ []
no_items [] e = refl
no_items (x ∷ xs) e = absurd (omega arith)

pub entries_of : (es : List (ℕ × ℕ)) → IsRising (keys es) → maps.entries (from_entries {R = nat_cmp} es) ≡ es
entries_of [] s = no_items _ (sym (maps.len-entries (maps.empty {R = nat_cmp})) ∙ maps.len-empty nat_cmp ℕ)
entries_of (e ∷ es) s =
    maps.entries-insert nat_cmp_total (from_entries es) e.0 e.1
    ∙ ap (λ fs. put nat_cmp e.0 e.1 fs) (entries_of es s.1)
    ∙ put_first e.0 e.1 es s.0

pub len_of : (es : List (ℕ × ℕ)) → IsRising (keys es) → maps.len (from_entries {R = nat_cmp} es) ≡ length es
len_of es s = maps.len-entries _ ∙ ap (λ fs. length fs) (entries_of es s)

-- what is found at a key
some_or : (b : Bool) (v : ℕ) (x : Option ℕ) → is_some (cond b (Some v) x) ≡ (b || is_some x)
some_or true v x = refl
some_or false v x = refl

pub found_has : (k : ℕ) (es : List (ℕ × ℕ)) → is_some (find nat_cmp k es) ≡ has k (keys es)
found_has k [] = refl
found_has k (e ∷ es) = some_or (eq_by_cmp nat_cmp k e.0) e.1 (find nat_cmp k es) ∙ (λ i. unsigned_tied k e.0 i || found_has k es i)

pub contains_has : (k : ℕ) (es : List (ℕ × ℕ)) → maps.contains_key (from_entries {R = nat_cmp} es) k ≡ has k (keys es)
contains_has k es = ap is_some (maps.get-from_entries nat_cmp_total es k) ∙ found_has k es

nothing : (x : Option ℕ) → is_some x ≡ false → x ≡ None
nothing None e = refl
nothing (Some v) e = absurd (both_ways true e refl)

not_found : (k : ℕ) (es : List (ℕ × ℕ)) → has k (keys es) ≡ false → find nat_cmp k es ≡ None
not_found k es e = nothing _ (found_has k es ∙ e)

abbrev pub value_of : Option (ℕ × ℕ) → Option ℕ
value_of None = None
value_of (Some e) = Some e.1

tied : (q k : ℕ) (v : ℕ) (x : Option ℕ) (b : Bool) → eqb q k ≡ b → cond (eq_by_cmp nat_cmp q k) (Some v) x ≡ cond b (Some v) x
tied q k v x b e = ap (λ t. cond t (Some v) x) (unsigned_tied q k ∙ e)

found_at : (k : ℕ) (es : List (ℕ × ℕ)) → IsRising (keys es) → has k (keys es) ≡ true → find nat_cmp k es ≡ value_of (slice_get es (below k (keys es)))
found_at k [] s e = absurd (both_ways false refl e)
found_at k (f ∷ es) s e =
    below_cases k f.0 (keys es) (λ i. find nat_cmp k (f ∷ es) ≡ value_of (slice_get (f ∷ es) i)) s.0
    (λ h.
    let other = ne_eqb k f.0 (omega (arith, h)) in
    tied k f.0 f.1 (find nat_cmp k es) false other ∙ found_at k es s.1 (sym (ap (λ b. b || has k (keys es)) other) ∙ e))
    (λ h. elim (cases_order k f.0) [
      | inl same ↦ ap (λ n. find nat_cmp n (f ∷ es)) same ∙ tied f.0 f.0 f.1 (find nat_cmp f.0 es) true (eq-eqb f.0 f.0 refl)
      | inr (inl less) ↦ absurd (both_ways _ (has_none k (keys (f ∷ es)) (less, above_lower k f.0 (keys es) less s.0)) e)
      | inr (inr more) ↦ absurd (omega (arith, h, more))
    ])

pub get_there : (k : ℕ) (es : List (ℕ × ℕ)) → IsRising (keys es) → has k (keys es) ≡ true → maps.get (from_entries {R = nat_cmp} es) k ≡ value_of (slice_get es (below k (keys es)))
get_there k es s e = maps.get-from_entries nat_cmp_total es k ∙ found_at k es s e

pub get_missing : (k : ℕ) (es : List (ℕ × ℕ)) → has k (keys es) ≡ false → maps.get (from_entries {R = nat_cmp} es) k ≡ None
get_missing k es e = maps.get-from_entries nat_cmp_total es k ∙ not_found k es e

-- a pair put in its place
put_there : (k v : ℕ) (es : List (ℕ × ℕ)) → IsRising (keys es) → has k (keys es) ≡ true → put nat_cmp k v es ≡ set es (below k (keys es)) (k, v)
put_there k v [] s e = absurd (both_ways false refl e)
put_there k v (f ∷ es) s e =
    below_cases k f.0 (keys es) (λ i. put nat_cmp k v (f ∷ es) ≡ set (f ∷ es) i (k, v)) s.0
    (λ h.
    let other = ne_eqb k f.0 (omega (arith, h)) in
    put_more k v f es h ∙ ap (λ fs. f ∷ fs) (put_there k v es s.1 (sym (ap (λ b. b || has k (keys es)) other) ∙ e)))
    (λ h. elim (cases_order k f.0) [
      | inl same ↦ put_same k v f es same
      | inr (inl less) ↦ absurd (both_ways _ (has_none k (keys (f ∷ es)) (less, above_lower k f.0 (keys es) less s.0)) e)
      | inr (inr more) ↦ absurd (omega (arith, h, more))
    ])

put_new : (k v : ℕ) (es : List (ℕ × ℕ)) → IsRising (keys es) → has k (keys es) ≡ false → put nat_cmp k v es ≡ insert es (below k (keys es)) (k, v)
put_new k v [] s e = refl
put_new k v (f ∷ es) s e =
    let parts = or_parts (eqb k f.0) (has k (keys es)) e in
    below_cases k f.0 (keys es) (λ i. put nat_cmp k v (f ∷ es) ≡ insert (f ∷ es) i (k, v)) s.0
    (λ h. put_more k v f es h ∙ ap (λ fs. f ∷ fs) (put_new k v es s.1 parts.1))
    (λ h. let other = eqb-false k f.0 parts.0 in put_less k v f es (omega (arith, other, h)))

keys_set : (k v : ℕ) (es : List (ℕ × ℕ)) → IsRising (keys es) → has k (keys es) ≡ true → keys (set es (below k (keys es)) (k, v)) ≡ keys es
keys_set k v [] s e = refl
keys_set k v (f ∷ es) s e =
    below_cases k f.0 (keys es) (λ i. keys (set (f ∷ es) i (k, v)) ≡ keys (f ∷ es)) s.0
    (λ h.
    let other = ne_eqb k f.0 (omega (arith, h)) in
    ap (λ ks. f.0 ∷ ks) (keys_set k v es s.1 (sym (ap (λ b. b || has k (keys es)) other) ∙ e)))
    (λ h. elim (cases_order k f.0) [
      | inl same ↦ ap (λ n. n ∷ keys es) same
      | inr (inl less) ↦ absurd (both_ways _ (has_none k (keys (f ∷ es)) (less, above_lower k f.0 (keys es) less s.0)) e)
      | inr (inr more) ↦ absurd (omega (arith, h, more))
    ])

keys_insert : (p : ℕ × ℕ) (i : ℕ) (es : List (ℕ × ℕ)) → keys (insert es i p) ≡ insert (keys es) i p.0
keys_insert p zero es = refl
keys_insert p (suc i) [] = refl
keys_insert p (suc i) (f ∷ es) = ap (λ ks. f.0 ∷ ks) (keys_insert p i es)

keys_remove : (i : ℕ) (es : List (ℕ × ℕ)) → keys (remove es i) ≡ remove (keys es) i
keys_remove zero [] = refl
keys_remove (suc i) [] = refl
keys_remove zero (f ∷ es) = refl
keys_remove (suc i) (f ∷ es) = ap (λ ks. f.0 ∷ ks) (keys_remove i es)

pub set_rises : (k v : ℕ) (es : List (ℕ × ℕ)) → IsRising (keys es) → has k (keys es) ≡ true → IsRising (keys (set es (below k (keys es)) (k, v)))
set_rises k v es s e = subst IsRising (sym (keys_set k v es s e)) s

pub insert_rises : (k v : ℕ) (es : List (ℕ × ℕ)) → IsRising (keys es) → has k (keys es) ≡ false → IsRising (keys (insert es (below k (keys es)) (k, v)))
insert_rises k v es s e = subst IsRising (sym (keys_insert (k, v) (below k (keys es)) es)) (rising_insert k (keys es) s e)

pub remove_rises : (i : ℕ) (es : List (ℕ × ℕ)) → IsRising (keys es) → IsRising (keys (remove es i))
remove_rises i es s = subst IsRising (sym (keys_remove i es)) (rising_remove i (keys es) s)

with_put : (k v : ℕ) (es fs : List (ℕ × ℕ)) → IsRising (keys es) → IsRising (keys fs) → put nat_cmp k v es ≡ fs → from_entries {R = nat_cmp} fs ≡ maps.insert (from_entries es) k v
with_put k v es fs s t e =
    maps.same_entries_map _ _ (entries_of fs t ∙ sym (maps.entries-insert nat_cmp_total (from_entries es) k v ∙ ap (λ gs. put nat_cmp k v gs) (entries_of es s) ∙ e))

pub set_map : (k v : ℕ) (es : List (ℕ × ℕ)) → IsRising (keys es) → has k (keys es) ≡ true → from_entries {R = nat_cmp} (set es (below k (keys es)) (k, v)) ≡ maps.insert (from_entries es) k v
set_map k v es s e = with_put k v es _ s (set_rises k v es s e) (put_there k v es s e)

pub insert_map : (k v : ℕ) (es : List (ℕ × ℕ)) → IsRising (keys es) → has k (keys es) ≡ false → from_entries {R = nat_cmp} (insert es (below k (keys es)) (k, v)) ≡ maps.insert (from_entries es) k v
insert_map k v es s e = with_put k v es _ s (insert_rises k v es s e) (put_new k v es s e)

-- a pair taken out
without : (q k : ℕ) (es : List (ℕ × ℕ)) → IsRising (keys es) → has k (keys es) ≡ true → find nat_cmp q (remove es (below k (keys es))) ≡ cond (eqb q k) None (find nat_cmp q es)
without q k [] s e = absurd (both_ways false refl e)
without q k (f ∷ es) s e =
    below_cases k f.0 (keys es) (λ i. find nat_cmp q (remove (f ∷ es) i) ≡ cond (eqb q k) None (find nat_cmp q (f ∷ es))) s.0
    (λ h.
    let other = ne_eqb k f.0 (omega (arith, h)) in
    ap (λ x. cond (eq_by_cmp nat_cmp q f.0) (Some f.1) x) (without q k es s.1 (sym (ap (λ b. b || has k (keys es)) other) ∙ e))
    ∙ later h)
    (λ h. elim (cases_order k f.0) [
      | inl same ↦ first same
      | inr (inl less) ↦ absurd (both_ways _ (has_none k (keys (f ∷ es)) (less, above_lower k f.0 (keys es) less s.0)) e)
      | inr (inr more) ↦ absurd (omega (arith, h, more))
    ])
  where
    later : f.0 < k → cond (eq_by_cmp nat_cmp q f.0) (Some f.1) (cond (eqb q k) None (find nat_cmp q es)) ≡ cond (eqb q k) None (cond (eq_by_cmp nat_cmp q f.0) (Some f.1) (find nat_cmp q es))
    later h =
        elim (eqb q k) as (λ b. eqb q k ≡ b → cond (eq_by_cmp nat_cmp q f.0) (Some f.1) (cond b None (find nat_cmp q es)) ≡ cond b None (cond (eq_by_cmp nat_cmp q f.0) (Some f.1) (find nat_cmp q es))) [
          | true ↦ λ t. let same : q ≡ k = eqb-true q k t in tied q f.0 f.1 None false (ne_eqb q f.0 (omega (arith, same, h)))
          | false ↦ λ t. refl
        ] refl

    first : k ≡ f.0 → find nat_cmp q es ≡ cond (eqb q k) None (cond (eq_by_cmp nat_cmp q f.0) (Some f.1) (find nat_cmp q es))
    first h =
        elim (eqb q k) as (λ b. eqb q k ≡ b → find nat_cmp q es ≡ cond b None (cond (eq_by_cmp nat_cmp q f.0) (Some f.1) (find nat_cmp q es))) [
          | true ↦ λ t. not_found q es (has_none q (keys es) (subst (λ n. AllAbove n (keys es)) (sym (eqb-true q k t ∙ h)) s.0))
          | false ↦ λ t. sym (tied q f.0 f.1 (find nat_cmp q es) false (ap (λ n. eqb q n) (sym h) ∙ t))
        ] refl

removed_get : (k q : ℕ) (es : List (ℕ × ℕ)) → maps.get (maps.remove (from_entries {R = nat_cmp} es) k) q ≡ cond (eqb q k) None (find nat_cmp q es)
removed_get k q es = maps.get-remove nat_cmp_total (from_entries es) k q ∙ (λ i. cond (unsigned_tied q k i) None (maps.get-from_entries nat_cmp_total es q i))

pub remove_map : (k : ℕ) (es : List (ℕ × ℕ)) → IsRising (keys es) → has k (keys es) ≡ true → from_entries {R = nat_cmp} (remove es (below k (keys es))) ≡ maps.remove (from_entries es) k
remove_map k es s e =
    maps.same_map nat_cmp_total maps.nat_cmp-IsAntisymmetric _ _
    (λ q. maps.get-from_entries nat_cmp_total (remove es (below k (keys es))) q ∙ without q k es s e ∙ sym (removed_get k q es))

as_before : (k q : ℕ) (es : List (ℕ × ℕ)) → has k (keys es) ≡ false → cond (eqb q k) None (find nat_cmp q es) ≡ find nat_cmp q es
as_before k q es e =
    elim (eqb q k) as (λ b. eqb q k ≡ b → cond b None (find nat_cmp q es) ≡ find nat_cmp q es) [
      | true ↦ λ t. sym (not_found q es (ap (λ n. has n (keys es)) (eqb-true q k t) ∙ e))
      | false ↦ λ t. refl
    ] refl

pub remove_missing : (k : ℕ) (es : List (ℕ × ℕ)) → has k (keys es) ≡ false → maps.remove (from_entries {R = nat_cmp} es) k ≡ from_entries es
remove_missing k es e =
    maps.same_map nat_cmp_total maps.nat_cmp-IsAntisymmetric _ _
    (λ q. removed_get k q es ∙ as_before k q es e ∙ sym (maps.get-from_entries nat_cmp_total es q))
