-- Lists of what forks have of cells, made longer by one.
use Rattle.std.proofs.Common.{◌≡◌, ℕ, zero, suc, ◌+◌, ◌<◌, ◌≤◌, Bool, true, false, cond, List, [], ◌∷◌, ◌++◌, length, refl, ap, ◌∙◌, arith, eqb, eq-eqb, le-leb, leb-true, take}
use Rattle.std.proofs.lemmas.Bool.{cond-true}
use Rattle.std.specs.Prelude.{Option, Some, None, slice_get}
use Rattle.plain_store.specs.Levels.{kept_in, other_in, is_lent, is_from, AllFrom}
use Rattle.plain_store.specs.declared.cells.Cell.{Cell}
use Rattle.plain_store.specs.declared.forks.Lent.{Lent}

abbrev pub if_at : Lent → ℕ → ℕ → ℕ
if_at e i n = cond (eqb e.at i) n 0

pub kept_more : (xs : List Lent) (e : Lent) (i : ℕ) → kept_in (xs ++ e ∷ []) i ≡ kept_in xs i + if_at e i e.kept
kept_more [] e i = let z : if_at e i e.kept + 0 ≡ 0 + if_at e i e.kept = omega arith in z
kept_more (x ∷ xs) e i = let r = kept_more xs e i in let z : if_at x i x.kept + kept_in (xs ++ e ∷ []) i ≡ if_at x i x.kept + kept_in xs i + if_at e i e.kept = omega arith in z

pub other_more : (xs : List Lent) (e : Lent) (i : ℕ) → other_in (xs ++ e ∷ []) i ≡ other_in xs i + if_at e i e.other
other_more [] e i = let z : if_at e i e.other + 0 ≡ 0 + if_at e i e.other = omega arith in z
other_more (x ∷ xs) e i = let r = other_more xs e i in let z : if_at x i x.other + other_in (xs ++ e ∷ []) i ≡ if_at x i x.other + other_in xs i + if_at e i e.other = omega arith in z

if_more : (b t u : Bool) → cond b true (cond t true u) ≡ cond (cond b true t) true u
if_more true t u = refl
if_more false t u = refl

pub lent_more : (xs : List Lent) (e : Lent) (i : ℕ) → is_lent (xs ++ e ∷ []) i ≡ cond (is_lent xs i) true (eqb e.at i)
lent_more [] e i = if_same (eqb e.at i)
  where
    if_same : (b : Bool) → cond b true false ≡ b
    if_same true = refl
    if_same false = refl
lent_more (x ∷ xs) e i = ap (λ b. cond (eqb x.at i) true b) (lent_more xs e i) ∙ if_more (eqb x.at i) (is_lent xs i) (eqb e.at i)

-- what is not in a list has nothing there
if_not : (b t : Bool) (n m : ℕ) → cond b true t ≡ false → (t ≡ false → m ≡ 0) → cond b n 0 + m ≡ 0
if_not true t n m e f = cc e
if_not false t n m e f = let q = f e in let z : 0 + m ≡ 0 = omega arith in z

pub kept_none : (xs : List Lent) (i : ℕ) → is_lent xs i ≡ false → kept_in xs i ≡ 0
kept_none [] i e = refl
kept_none (x ∷ xs) i e = if_not (eqb x.at i) (is_lent xs i) x.kept (kept_in xs i) e (kept_none xs i)

pub other_none : (xs : List Lent) (i : ℕ) → is_lent xs i ≡ false → other_in xs i ≡ 0
other_none [] i e = refl
other_none (x ∷ xs) i e = if_not (eqb x.at i) (is_lent xs i) x.other (other_in xs i) e (other_none xs i)

-- a part of a list has no more
pub kept_take : (k : ℕ) (xs : List Lent) (i : ℕ) → kept_in (take k xs) i ≤ kept_in xs i
kept_take zero xs i = omega arith
kept_take (suc k) [] i = omega arith
kept_take (suc k) (x ∷ xs) i = let r = kept_take k xs i in let z : if_at x i x.kept + kept_in (take k xs) i ≤ if_at x i x.kept + kept_in xs i = omega arith in z

pub other_take : (k : ℕ) (xs : List Lent) (i : ℕ) → other_in (take k xs) i ≤ other_in xs i
other_take zero xs i = omega arith
other_take (suc k) [] i = omega arith
other_take (suc k) (x ∷ xs) i = let r = other_take k xs i in let z : if_at x i x.other + other_in (take k xs) i ≤ if_at x i x.other + other_in xs i = omega arith in z

-- a yes or a no
pub by_cases : (P : Type 0) (b : Bool) → (b ≡ true → P) → (b ≡ false → P) → P
by_cases P true f g = f refl
by_cases P false f g = g refl

pub lent_at : (k : ℕ) (xs : List Lent) (e : Lent) → slice_get xs k ≡ Some e → is_lent xs e.at ≡ true
lent_at k [] e at = cc at
lent_at zero (x ∷ xs) e at = let q : x ≡ e = cc at in cond-true (eqb x.at e.at) true (is_lent xs e.at) (eq-eqb x.at e.at (ap (λ (l : Lent). l.at) q))
lent_at (suc k) (x ∷ xs) e at = either (eqb x.at e.at) (is_lent xs e.at) (lent_at k xs e at)
  where
    either : (b t : Bool) → t ≡ true → cond b true t ≡ true
    either true t e = refl
    either false t e = e

pub kept_at : (k : ℕ) (xs : List Lent) (e : Lent) → slice_get xs k ≡ Some e → kept_in (take k xs) e.at + e.kept ≤ kept_in xs e.at
kept_at k [] e at = cc at
kept_at zero (x ∷ xs) e at =
    let q : x ≡ e = cc at in
    let a : if_at x e.at x.kept ≡ x.kept = cond-true (eqb x.at e.at) x.kept 0 (eq-eqb x.at e.at (ap (λ (l : Lent). l.at) q)) in
    let b : x.kept ≡ e.kept = ap (λ (l : Lent). l.kept) q in
    let z : 0 + e.kept ≤ if_at x e.at x.kept + kept_in xs e.at = omega arith in z
kept_at (suc k) (x ∷ xs) e at = let r = kept_at k xs e at in let z : if_at x e.at x.kept + kept_in (take k xs) e.at + e.kept ≤ if_at x e.at x.kept + kept_in xs e.at = omega arith in z

pub other_at : (k : ℕ) (xs : List Lent) (e : Lent) → slice_get xs k ≡ Some e → other_in (take k xs) e.at + e.other ≤ other_in xs e.at
other_at k [] e at = cc at
other_at zero (x ∷ xs) e at =
    let q : x ≡ e = cc at in
    let a : if_at x e.at x.other ≡ x.other = cond-true (eqb x.at e.at) x.other 0 (eq-eqb x.at e.at (ap (λ (l : Lent). l.at) q)) in
    let b : x.other ≡ e.other = ap (λ (l : Lent). l.other) q in
    let z : 0 + e.other ≤ if_at x e.at x.other + other_in xs e.at = omega arith in z
other_at (suc k) (x ∷ xs) e at = let r = other_at k xs e at in let z : if_at x e.at x.other + other_in (take k xs) e.at + e.other ≤ if_at x e.at x.other + other_in xs e.at = omega arith in z

pub get_within : {A : Type 0} (xs : List A) (i : ℕ) → i < length xs → (x : A) × (slice_get xs i ≡ Some x)
get_within [] i h = absurd (let f : ⊥ = omega arith in f)
get_within (x ∷ xs) zero h = (x, refl)
get_within (x ∷ xs) (suc i) h = get_within xs i (omega arith)

pub take_next : {A : Type 0} (k : ℕ) (xs : List A) (e : A) → slice_get xs k ≡ Some e → take (suc k) xs ≡ take k xs ++ e ∷ []
take_next k [] e at = cc at
take_next zero (x ∷ xs) e at = let q : x ≡ e = cc at in ap (λ y. y ∷ []) q
take_next (suc k) (x ∷ xs) e at = ap (λ l. x ∷ l) (take_next k xs e at)

-- the cells of a list are there, and came to the branch of its fork, or to one in it
abbrev pub AllCome : List Cell → ℕ → List Lent → Type 0
AllCome cells high lent = (i : ℕ) → is_lent lent i ≡ true → (c : Cell) × (slice_get cells i ≡ Some c) × (high ≤ c.stamp)

come_at : (high : ℕ) (o : Option Cell) → is_from high o ≡ true → (c : Cell) × (o ≡ Some c) × (high ≤ c.stamp)
come_at high None e = cc e
come_at high (Some c) e = (c, refl, leb-true high c.stamp e)

pub come : (cells : List Cell) (high : ℕ) (lent : List Lent) → AllFrom cells high lent → AllCome cells high lent
come cells high lent from i t = come_at high (slice_get cells i) (from i t)

pub from_come : (cells : List Cell) (high : ℕ) (lent : List Lent) → AllCome cells high lent → AllFrom cells high lent
from_come cells high lent from i t = let g = from i t in ap (is_from high) g.1 ∙ le-leb high g.0.stamp g.2
