-- The numbers below a bound that pass a test, ascending.
use Rattle.std.proofs.Common.{◌≡◌, ◌≢◌, ℕ, zero, suc, ◌+◌, ◌<◌, ◌≤◌, Bool, true, false, cond, ◌||◌, List, [], ◌∷◌, ◌++◌, length, refl, sym, ap, ◌∙◌, subst, arith, ◌&&◌, map, T, Equal, Greater, eqb, eq-eqb, ne_eqb, ⊎_elim, ◌⊎◌, inl, inr}
use Rattle.std.proofs.lemmas.Bool.{cond_both, and_parts, cases_order}
use Rattle.std.proofs.lemmas.Bool.Decides.{eqb_tells}
use Rattle.std.proofs.lemmas.List.{length-append, length-map}
use Rattle.std.specs.Cmp.{nat_cmp_is, unsigned_tied}
use Rattle.std.specs.FinMap as maps
use Rattle.std.specs.List.{list_any}
use Rattle.std.specs.Ordering.{nat_cmp, eq_by_cmp, is_lt}
use Rattle.sequences.specs.Keys.{AllAbove, IsRising, has}
use Rattle.containers.specs.Sets as sets
use Rattle.containers.proofs.SetItems.{same_rising, items_rise, has_items, from_list-items}
use Rattle.containers.proofs.SetsOfRising.{len_rising}
use Rattle.relations.specs.Represents.{Set, Map}

abbrev pub Test : Type 0
Test = ℕ → Bool

abbrev pub members : Test → ℕ → List ℕ
members s zero = []
members s (suc i) = cond (s i) (members s i ++ i ∷ []) (members s i)

abbrev AllBelow : ℕ → List ℕ → Type 0
AllBelow i [] = Unit {0}
AllBelow i (x ∷ xs) = (x < i) × AllBelow i xs

lower : (i : ℕ) (xs : List ℕ) → AllBelow i xs → AllBelow (suc i) xs
lower i [] a = tt
lower i (x ∷ xs) a = (omega (arith, a.0), lower i xs a.1)

pushed_below : (i : ℕ) (xs : List ℕ) → AllBelow i xs → AllBelow (suc i) (xs ++ i ∷ [])
pushed_below i [] a = (omega arith, tt)
pushed_below i (x ∷ xs) a = (omega (arith, a.0), pushed_below i xs a.1)

pushed_above : (k i : ℕ) (xs : List ℕ) → k < i → AllAbove k xs → AllAbove k (xs ++ i ∷ [])
pushed_above k i [] lt a = (lt, tt)
pushed_above k i (x ∷ xs) lt a = (a.0, pushed_above k i xs lt a.1)

pushed_rises : (i : ℕ) (xs : List ℕ) → AllBelow i xs → IsRising xs → IsRising (xs ++ i ∷ [])
pushed_rises i [] a r = (tt, tt)
pushed_rises i (x ∷ xs) a r = (pushed_above x i xs a.0 r.0, pushed_rises i xs a.1 r.1)

has_pushed : (q i : ℕ) (xs : List ℕ) → has q (xs ++ i ∷ []) ≡ (has q xs || eqb q i)
has_pushed q i [] = or_none (eqb q i)
  where
    or_none : (b : Bool) → (b || false) ≡ b
    or_none true = refl
    or_none false = refl
has_pushed q i (x ∷ xs) = ap (λ b. eqb q x || b) (has_pushed q i xs) ∙ turned (eqb q x) (has q xs) (eqb q i)
  where
    turned : (a b c : Bool) → (a || (b || c)) ≡ ((a || b) || c)
    turned true b c = refl
    turned false b c = refl

all_below : (s : Test) (i : ℕ) → AllBelow i (members s i)
all_below s zero = tt
all_below s (suc i) = cond_both (s i) (members s i ++ i ∷ []) (members s i) (AllBelow (suc i)) (λ e. pushed_below i (members s i) (all_below s i)) (λ e. lower i (members s i) (all_below s i))

rises : (s : Test) (i : ℕ) → IsRising (members s i)
rises s zero = tt
rises s (suc i) = cond_both (s i) (members s i ++ i ∷ []) (members s i) IsRising (λ e. pushed_rises i (members s i) (all_below s i) (rises s i)) (λ e. rises s i)

past : (s : Test) (i q : ℕ) → i ≤ q → has q (members s i) ≡ false
past s zero q le = refl
past s (suc i) q le =
    let ne : q ≢ i = omega (arith, le) in
    cond_both (s i) (members s i ++ i ∷ []) (members s i) (λ z. has q z ≡ false)
    (λ e. has_pushed q i (members s i) ∙ ap (λ b. b || eqb q i) (past s i q (omega (arith, le))) ∙ ne_eqb q i ne) (λ e. past s i q (omega (arith, le)))

below : (s : Test) (i q : ℕ) → q < i → has q (members s i) ≡ s q
below s zero q lt = absurd (let f : ⊥ = omega (arith, lt) in f)
below s (suc i) q lt =
    ⊎_elim
    (λ w. cond_both (s i) (members s i ++ i ∷ []) (members s i) (λ z. has q z ≡ s q)
    (λ e. has_pushed q i (members s i) ∙ ap (λ b. has q (members s i) || b) (eq-eqb q i w.1) ∙ or_on (has q (members s i)) ∙ sym (ap (s) w.1 ∙ e))
    (λ e. past s i q (omega (arith, w.1)) ∙ sym (ap (s) w.1 ∙ e)))
    (λ w. cond_both (s i) (members s i ++ i ∷ []) (members s i) (λ z. has q z ≡ s q)
    (λ e. has_pushed q i (members s i) ∙ ap (λ b. has q (members s i) || b) (ne_eqb q i w.1) ∙ or_off (has q (members s i)) ∙ below s i q (omega (arith, lt, w.1)))
    (λ e. below s i q (omega (arith, lt, w.1))))
    (eqb_tells q i)
  where
    or_on : (b : Bool) → (b || true) ≡ true
    or_on true = refl
    or_on false = refl

    or_off : (b : Bool) → (b || false) ≡ b
    or_off true = refl
    or_off false = refl

pub members_all : (s : Test) (u : ℕ) (ks : List ℕ) → IsRising ks → ((q : ℕ) → has q ks ≡ s q) → ((y : ℕ) → s y ≡ true → y < u) → members s u ≡ ks
members_all s u ks r is most = same_rising (members s u) ks (rises s u) r (λ q. at q (s q) refl ∙ sym (is q))
  where
    at : (q : ℕ) (b : Bool) → s q ≡ b → has q (members s u) ≡ s q
    at q true e = below s u q (most q e)
    at q false e = ⊎_elim (λ l. below s u q l) (λ l. past s u q l ∙ sym e) (let o : (q < u) ⊎ (u ≤ q) = grind arith in o)

one_more : (s : Test) (i : ℕ) → length (members s i) ≤ length (members s (suc i))
one_more s i =
    cond_both (s i) (members s i ++ i ∷ []) (members s i) (λ z. length (members s i) ≤ length z)
    (λ e. omega (arith, length-append (members s i) (i ∷ []))) (λ e. omega arith)

pub members_length : (s : Test) (l i u : ℕ) → i + l ≡ u → length (members s i) ≤ length (members s u)
members_length s zero i u e = let d : i ≡ u = omega (arith, e) in subst (λ z. length (members s i) ≤ length (members s z)) d (omega arith)
members_length s (suc l) i u e = let a = one_more s i in let b = members_length s l (suc i) u (omega (arith, e)) in omega (arith, a, b)

pub len_items : (s : Set) → sets.len s ≡ length (sets.items s)
len_items s = sym (ap sets.len (from_list-items s)) ∙ len_rising (sets.items s) (items_rise s)

pub set_members : (s : Set) (u : ℕ) → ((y : ℕ) → sets.contains s y ≡ true → y < u) → members (sets.contains s) u ≡ sets.items s
set_members s u most = members_all (sets.contains s) u (sets.items s) (items_rise s) (has_items s) most

-- ---- the keys of a map

is_true : (b : Bool) → T b → b ≡ true
is_true true t = refl
is_true false t = absurd t

is_less : (x y : ℕ) → is_lt (nat_cmp x y) ≡ true → x < y
is_less x y e = elim (cases_order x y) [
  | inl same ↦ absurd (let f : false ≡ true = ap is_lt (nat_cmp_is x y Equal same) ∙ e in cc f)
  | inr (inl less) ↦ less
  | inr (inr more) ↦ absurd (let f : false ≡ true = ap is_lt (nat_cmp_is x y Greater more) ∙ e in cc f)
]

abbrev keys_of : List (ℕ × ℕ) → List ℕ
keys_of es = map (λ e. e.0) es

above : (e : ℕ × ℕ) (es : List (ℕ × ℕ)) → maps.is_sorted nat_cmp (e ∷ es) ≡ true → AllAbove e.0 (keys_of es)
above e [] t = tt
above e (d ∷ ds) t =
    let all = and_parts _ (maps.is_sorted nat_cmp (d ∷ ds)) t in
    let first = and_parts (is_lt (nat_cmp e.0 d.0)) _ all.0 in
    let rest = and_parts _ (maps.is_sorted nat_cmp ds) all.1 in
    (is_less e.0 d.0 first.0, above e ds (and_both _ _ first.1 rest.1))
  where
    and_both : (a b : Bool) → a ≡ true → b ≡ true → (a && b) ≡ true
    and_both a b x y = ap (λ z. z && b) x ∙ y

sorted_rise : (es : List (ℕ × ℕ)) → maps.is_sorted nat_cmp es ≡ true → IsRising (keys_of es)
sorted_rise [] t = tt
sorted_rise (e ∷ es) t = (above e es t, sorted_rise es (and_parts _ (maps.is_sorted nat_cmp es) t).1)

any_has : (q : ℕ) (xs : List ℕ) → list_any (eq_by_cmp nat_cmp q) xs ≡ has q xs
any_has q [] = refl
any_has q (x ∷ xs) = λ i. unsigned_tied q x i || any_has q xs i

pub has_keys : (m : Map) (q : ℕ) → has q (maps.keys m) ≡ maps.contains_key m q
has_keys m q = sym (maps.contains_key-keys m q ∙ any_has q (maps.keys m))

pub map_members : (m : Map) (u : ℕ) → ((y : ℕ) → maps.contains_key m y ≡ true → y < u) → members (maps.contains_key m) u ≡ maps.keys m
map_members m u most =
    members_all (maps.contains_key m) u (maps.keys m) (sorted_rise (maps.entries m) (is_true (maps.is_sorted nat_cmp (maps.entries m)) (maps.entries_sorted m)))
    (has_keys m) most

pub len_keys : (m : Map) → maps.len m ≡ length (maps.keys m)
len_keys m = maps.len-entries m ∙ sym (length-map (maps.entries m) (λ e. e.0))
