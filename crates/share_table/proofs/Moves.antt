-- Entries that change the branch, and entries that go.
use Rattle.std.proofs.Common.{◌≡◌, ◌≢◌, ◌⊎◌, inl, inr, ⊎_elim, ℕ, zero, suc, ◌+◌, ◌-◌, ◌^◌, ◌<◌, ◌≤◌, Bool, cond, length, List, [], ◌∷◌, ◌++◌, map, take, drop, get_or, refl, sym, ap, ◌∙◌, subst, arith}
use Rattle.std.specs.Prelude.{true, false, ◌&&◌, ◌||◌, ◌==◌, nat_lt, nat_le, slice_set, not, filter, if◌then◌else◌}
use Rattle.std.proofs.lemmas.Bool.Decides.{nat_tests, eqb_tells}
use mathlib.Core.Logic.{dite}
use native.Mathlib.Decide.{ℕ_discrete}
use Rattle.share_table.specs.Amounts.{covers, share_at, amount, total, has_name, Measures, Short}
use Rattle.share_table.specs.Owners.{moved, without_block}
use Rattle.share_table.specs.declared.entry.Entry.{Entry}
use Rattle.share_table.proofs.Sums.{none}

-- the first entries are changed
abbrev pub mapped_to : (Entry → Entry) → List Entry → ℕ → List Entry
mapped_to f [] i = []
mapped_to f (x ∷ xs) zero = x ∷ xs
mapped_to f (x ∷ xs) (suc i) = f x ∷ mapped_to f xs i

pub mapped_none : (f : Entry → Entry) (xs : List Entry) → xs ≡ mapped_to f xs 0
mapped_none f [] = refl
mapped_none f (x ∷ xs) = refl

pub mapped_all : (f : Entry → Entry) (xs : List Entry) (i : ℕ) → length xs ≤ i → mapped_to f xs i ≡ map f xs
mapped_all f [] i le = refl
mapped_all f (x ∷ xs) zero le = absurd (omega arith)
mapped_all f (x ∷ xs) (suc i) le = ap (λ l. f x ∷ l) (mapped_all f xs i (omega arith))

pub mapped_length : (f : Entry → Entry) (xs : List Entry) (i : ℕ) → length (mapped_to f xs i) ≡ length xs
mapped_length f [] i = refl
mapped_length f (x ∷ xs) zero = refl
mapped_length f (x ∷ xs) (suc i) = ap suc (mapped_length f xs i)

pub mapped_next : (f : Entry → Entry) (xs : List Entry) (i : ℕ) (d : Entry) → i < length xs → slice_set (mapped_to f xs i) i (f (get_or (mapped_to f xs i) i d)) ≡ mapped_to f xs (suc i)
mapped_next f [] i d lt = absurd (omega arith)
mapped_next f (x ∷ xs) zero d lt = ap (λ l. f x ∷ l) (mapped_none f xs)
mapped_next f (x ∷ xs) (suc i) d lt = ap (λ l. f x ∷ l) (mapped_next f xs i d (omega arith))

pub mapped_after : (f : Entry → Entry) (xs es : List Entry) (i : ℕ) (d x : Entry) → es ≡ mapped_to f xs i → x ≡ f (get_or es i d) → i < length xs → slice_set es i x ≡ mapped_to f xs (i + 1)
mapped_after f xs es i d x e is lt =
    let n : suc i ≡ i + 1 = omega arith in
    ap (λ y. slice_set es i y) is
    ∙ (ap (λ l. slice_set l i (f (get_or l i d))) e
    ∙ (mapped_next f xs i d lt ∙ ap (mapped_to f xs) n))

-- who has what after a move
abbrev own : Bool → ℕ → ℕ
own t n = if t then n else 0

own_moved : (f t o x n : ℕ) → f ≢ t → own ((if x == f then t else x) == t) n ≡ own (x == t) n + own (x == f) n
own_moved f t o x n ne = grind (arith, nat_tests)

own_left : (f t x n : ℕ) → f ≢ t → own ((if x == f then t else x) == f) n ≡ 0
own_left f t x n ne = grind (arith, nat_tests)

own_other : (f t o x n : ℕ) → o ≢ f → o ≢ t → own ((if x == f then t else x) == o) n ≡ own (x == o) n
own_other f t o x n nf nt = grind (arith, nat_tests)

pub moved_to : (f t : ℕ) (es : List Entry) (b j : ℕ) → f ≢ t → amount (map (moved f t) es) t b j ≡ amount es t b j + amount es f b j
moved_to f t [] b j ne = refl
moved_to f t (e ∷ es) b j ne = let r = moved_to f t es b j ne in let h = own_moved f t t e.owner (share_at e b j) ne in omega (arith, r, h)

pub moved_from : (f t : ℕ) (es : List Entry) (b j : ℕ) → f ≢ t → amount (map (moved f t) es) f b j ≡ 0
moved_from f t [] b j ne = refl
moved_from f t (e ∷ es) b j ne = let r = moved_from f t es b j ne in let h = own_left f t e.owner (share_at e b j) ne in omega (arith, r, h)

pub moved_other : (f t o : ℕ) (es : List Entry) (b j : ℕ) → o ≢ f → o ≢ t → amount (map (moved f t) es) o b j ≡ amount es o b j
moved_other f t o [] b j nf nt = refl
moved_other f t o (e ∷ es) b j nf nt = let r = moved_other f t o es b j nf nt in let h = own_other f t o e.owner (share_at e b j) nf nt in omega (arith, r, h)

pub moved_total : (f t : ℕ) (es : List Entry) (b j : ℕ) → total (map (moved f t) es) b j ≡ total es b j
moved_total f t [] b j = refl
moved_total f t (e ∷ es) b j = ap (λ n. share_at e b j + n) (moved_total f t es b j)

pub moved_lengths : (f t : ℕ) (es : List Entry) (g : ℕ → ℕ) → Measures es g → Measures (map (moved f t) es) g
moved_lengths f t [] g h = tt
moved_lengths f t (e ∷ es) g h = (h.0, moved_lengths f t es g h.1)

pub moved_short : (f t : ℕ) (es : List Entry) → Short es → Short (map (moved f t) es)
moved_short f t [] h = tt
moved_short f t (e ∷ es) h = (h.0, moved_short f t es h.1)

-- a block that goes

abbrev kept_if : Bool → Entry → List Entry → List Entry
kept_if t e es = if t then es else e ∷ es

gone_here : (t : Bool) (e : Entry) (es : List Entry) (o b j : ℕ) → (e.owner == o) && (e.block == b) ≡ t → amount es o b j ≡ 0 → amount (kept_if t e es) o b j ≡ 0
gone_here true e es o b j h z = z
gone_here false e es o b j h z = let n : own (e.owner == o) (share_at e b j) ≡ 0 = away (e.owner == o) (e.block == b) (nat_le e.first j && nat_lt j (e.first + e.count)) e.share h in omega (arith, n, z)
  where
    away : (s u v : Bool) (n : ℕ) → (s && u) ≡ false → own s (own (u && v) n) ≡ 0
    away true true v n e = cc e
    away true false v n e = refl
    away false u v n e = refl

pub without_here : (o b : ℕ) (es : List Entry) (j : ℕ) → amount (without_block o b es) o b j ≡ 0
without_here o b [] j = refl
without_here o b (e ∷ es) j = gone_here ((e.owner == o) && (e.block == b)) e (without_block o b es) o b j refl (without_here o b es j)

-- other amounts stay
stays_here : (t : Bool) (e : Entry) (es fs : List Entry) (o b q c j : ℕ) → (e.owner == o) && (e.block == b) ≡ t → (q ≢ o) ⊎ (c ≢ b) → amount es q c j ≡ amount fs q c j → amount (kept_if t e es) q c j ≡ amount (e ∷ fs) q c j
stays_here true e es fs o b q c j h ne r =
    let n : own (e.owner == q) (share_at e c j) ≡ 0 = ⊎_elim (λ x. other_owner e.owner e.block o b q h x (share_at e c j)) (λ x. other_name e.owner e.block o b c h x (e.owner == q) (nat_le e.first j && nat_lt j (e.first + e.count)) e.share) ne in
    omega (arith, n, r)
  where
    other_owner : (x y o b q : ℕ) → (x == o) && (y == b) ≡ true → q ≢ o → (n : ℕ) → own (x == q) n ≡ 0
    other_owner x y o b q h ne n = grind (arith, nat_tests)

    other_name : (x y o b c : ℕ) → (x == o) && (y == b) ≡ true → c ≢ b → (s v : Bool) (n : ℕ) → own s (own ((y == c) && v) n) ≡ 0
    other_name x y o b c h ne s v n = go (y == c) (grind (arith, nat_tests)) s
      where
        go : (u : Bool) → u ≡ false → (s : Bool) → own s (own (u && v) n) ≡ 0
        go true e s = cc e
        go false e true = refl
        go false e false = refl
stays_here false e es fs o b q c j h ne r = ap (λ n. own (e.owner == q) (share_at e c j) + n) r

pub without_else : (o b : ℕ) (es : List Entry) (q c j : ℕ) → (q ≢ o) ⊎ (c ≢ b) → amount (without_block o b es) q c j ≡ amount es q c j
without_else o b [] q c j ne = refl
without_else o b (e ∷ es) q c j ne = stays_here ((e.owner == o) && (e.block == b)) e (without_block o b es) es o b q c j refl ne (without_else o b es q c j ne)

-- of the block what the branch had goes, of each other one nothing
goes_here : (t : Bool) (e : Entry) (es fs : List Entry) (o b j : ℕ) → (e.owner == o) && (e.block == b) ≡ t → total es b j + amount fs o b j ≡ total fs b j → total (kept_if t e es) b j + amount (e ∷ fs) o b j ≡ total (e ∷ fs) b j
goes_here true e es fs o b j h r = let n : own (e.owner == o) (share_at e b j) ≡ share_at e b j = is_own (e.owner == o) (e.block == b) h (share_at e b j) in omega (arith, n, r)
  where
    is_own : (s u : Bool) → (s && u) ≡ true → (n : ℕ) → own s n ≡ n
    is_own true u e n = refl
    is_own false u e n = cc e
goes_here false e es fs o b j h r = let n : own (e.owner == o) (share_at e b j) ≡ 0 = away (e.owner == o) (e.block == b) (nat_le e.first j && nat_lt j (e.first + e.count)) e.share h in omega (arith, n, r)
  where
    away : (s u v : Bool) (n : ℕ) → (s && u) ≡ false → own s (own (u && v) n) ≡ 0
    away true true v n e = cc e
    away true false v n e = refl
    away false u v n e = refl

pub without_total : (o b : ℕ) (es : List Entry) (j : ℕ) → total (without_block o b es) b j + amount es o b j ≡ total es b j
without_total o b [] j = refl
without_total o b (e ∷ es) j = goes_here ((e.owner == o) && (e.block == b)) e (without_block o b es) es o b j refl (without_total o b es j)

fewer_here : (t : Bool) (e : Entry) (es fs : List Entry) (b j : ℕ) → total es b j ≤ total fs b j → total (kept_if t e es) b j ≤ total (e ∷ fs) b j
fewer_here true e es fs b j r = omega arith
fewer_here false e es fs b j r = omega arith

pub without_fewer : (o b : ℕ) (es : List Entry) (c j : ℕ) → total (without_block o b es) c j ≤ total es c j
without_fewer o b [] c j = omega arith
without_fewer o b (e ∷ es) c j = fewer_here ((e.owner == o) && (e.block == b)) e (without_block o b es) es c j (without_fewer o b es c j)

lengths_here : (t : Bool) (e : Entry) (es : List Entry) (g : ℕ → ℕ) → (has_name e e.block ≡ true → e.len ≡ g e.block) → Measures es g → Measures (kept_if t e es) g
lengths_here true e es g a h = h
lengths_here false e es g a h = (a, h)

pub without_lengths : (o b : ℕ) (es : List Entry) (g : ℕ → ℕ) → Measures es g → Measures (without_block o b es) g
without_lengths o b [] g h = tt
without_lengths o b (e ∷ es) g h = lengths_here ((e.owner == o) && (e.block == b)) e (without_block o b es) g h.0 (without_lengths o b es g h.1)

short_here : (t : Bool) (e : Entry) (es : List Entry) → (e.first + e.count ≤ 2 ^ 62) → Short es → Short (kept_if t e es)
short_here true e es a h = h
short_here false e es a h = (a, h)

pub without_short : (o b : ℕ) (es : List Entry) → Short es → Short (without_block o b es)
without_short o b [] h = tt
without_short o b (e ∷ es) h = short_here ((e.owner == o) && (e.block == b)) e (without_block o b es) h.0 (without_short o b es h.1)

-- the entries that are kept
abbrev pub stays : ℕ → ℕ → Entry → Bool
stays o b e = not (e.owner == o) || not (e.block == b)

pub without_is : (o b : ℕ) (es : List Entry) → filter (stays o b) es ≡ without_block o b es
without_is o b [] = refl
without_is o b (e ∷ es) = go (e.owner == o) (e.block == b) (without_is o b es)
  where
    go : (s t : Bool) → filter (stays o b) es ≡ without_block o b es → cond (not s || not t) (e ∷ filter (stays o b) es) (filter (stays o b) es) ≡ kept_if (s && t) e (without_block o b es)
    go true true r = r
    go true false r = ap (λ l. e ∷ l) r
    go false t r = ap (λ l. e ∷ l) r
