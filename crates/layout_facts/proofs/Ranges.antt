-- Ranges that are cut in two and joined, and shares that are halved.
use Rattle.std.proofs.Common.{◌≡◌, ℕ, zero, suc, ◌+◌, ◌-◌, ◌*◌, ◌/◌, ◌^◌, ◌<◌, ◌≤◌, ◌⊎◌, ⊎_elim, Bool, true, false, cond, ◌&&◌, List, ◌++◌, length, refl, sym, ap, ◌∙◌, subst, arith, eqb, ne_eqb, ltb}
use Rattle.std.proofs.lemmas.Bool.{cond-false, cond-true}
use Rattle.std.proofs.lemmas.Bool.Decides.{eqb_tells}
use Rattle.std.proofs.Math.Nat.{pow-succ'}
use Rattle.std.proofs.Math.Path.{fun_ext}
use Rattle.std.specs.Prelude.{Option, Some, None, take, drop, slice_index}
use Rattle.target_meaning.specs.Machine.{Heap}
use Rattle.target_meaning.specs.Piece.{Share, Nil, Some_of, Clash, add, Piece, plus, at_place, Fits, Holds, IsProper, IsPiece, share_of, half, rest}
use Rattle.target_meaning.proofs.Keeps.{share-add}
use Rattle.triple_logic.specs.Parts.{AtLeast, front, back, half_of, rest_of}
use Rattle.triple_logic.specs.Sample.{HasValue, IsSlice}
use Rattle.triple_logic.proofs.Parts.{front_slice, back_slice, join_slice, power_step, half_least}
use Rattle.triple_logic.proofs.Blocks.{get_some}
use Rattle.relations.specs.Blocks.{Contents, range, in_range, Has, Exactly}
use Rattle.layout_facts.proofs.Contents.{has_nil, range_here, range_word, range_before, range_past, range_reads}

-- ---- an exact range is a slice of triple_logic with shares up to the whole

has_proper : (x : Share) (o : Option ℕ) → Has x o → IsProper x
has_proper x None h = subst IsProper (sym h) tt
has_proper x (Some v) h = subst IsProper (sym h.2) (let lt = h.1 in omega (arith, lt))

pub exact_proper : (f : Contents) (p : Piece) → Exactly f p → IsPiece p
exact_proper f p e b j = has_proper (p b j) (f b j) (e b j)

has_from : (x : Share) (v : ℕ) → HasValue x v → IsProper x → Has x (Some v)
has_from Nil v h g = absurd h
has_from Clash v h g = absurd h
has_from (Some_of u k) v h g = (k, omega (arith, g), ap (λ y. Some_of y k) h)

pub held_proper : (p : Piece) (h : Heap) → Holds p h → IsPiece p
held_proper p h hs b j = by (p b j) (at_place (h.cells b) j) (hs.places b j)
  where
    by : (x : Share) (o : Option ℕ) → Fits x o → IsProper x
    by Nil o f = tt
    by Clash o f = absurd f
    by (Some_of v k) o f = let lt = f.1 in omega (arith, lt)

pub to_slice : (b off : ℕ) (xs : List ℕ) (p : Piece) → Exactly (range b off xs) p → IsSlice xs b off p
to_slice b off xs p e = record {
  words = λ i lt. range_reads b off xs p e i lt;
  no_name = has_nil (p b 0) _ (e b 0) (range_here b off xs 0);
  before = λ j lt. has_nil (p b (suc j)) _ (e b (suc j)) (range_here b off xs (suc j) ∙ range_before off xs j lt);
  after = λ j le. has_nil (p b (suc j)) _ (e b (suc j)) (range_here b off xs (suc j) ∙ range_past off xs j le);
  others = λ c j ne. has_nil (p c j) _ (e c j) (cond-false (eqb c b) (in_range off xs j) None (ne_eqb c b ne));
}

pub from_slice : (b off : ℕ) (xs : List ℕ) (p : Piece) → IsSlice xs b off p → IsPiece p → Exactly (range b off xs) p
from_slice b off xs p s g c j =
    ⊎_elim
    (λ k. subst (λ o. Has (p c j) o) (sym (cond-true (eqb c b) (in_range off xs j) None k.0)) (subst (λ y. Has (p y j) (in_range off xs j)) (sym k.1) (here j)))
    (λ k. subst (λ o. Has (p c j) o) (sym (cond-false (eqb c b) (in_range off xs j) None k.0)) (s.others c j k.1))
    (eqb_tells c b)
  where
    word : (i : ℕ) → off ≤ i → i < off + length xs → Has (p b (suc i)) (in_range off xs (suc i))
    word i lo hi =
        let e : off + (i - off) ≡ i = omega (arith, lo) in
        let lt : i - off < length xs = omega (arith, lo, hi) in
        subst (λ o. Has (p b (suc i)) o) (sym (range_word off xs i lo ∙ get_some xs (i - off) lt))
        (has_from (p b (suc i)) (slice_index xs (i - off)) (subst (λ k. HasValue (p b (suc k)) (slice_index xs (i - off))) e (s.words (i - off) lt)) (g b (suc i)))

    here : (j : ℕ) → Has (p b j) (in_range off xs j)
    here zero = s.no_name
    here (suc i) =
        ⊎_elim (λ lt. subst (λ o. Has (p b (suc i)) o) (sym (range_before off xs i lt)) (s.before i lt))
        (λ lo. ⊎_elim (λ hi. word i lo hi) (λ le. subst (λ o. Has (p b (suc i)) o) (sym (range_past off xs i le)) (s.after i le)) (let z : (i < off + length xs) ⊎ (off + length xs ≤ i) = grind arith in z))
        (let z : (i < off) ⊎ (off ≤ i) = grind arith in z)

-- ---- `split`

cond_proper : (t : Bool) (x : Share) → IsProper x → IsProper (cond t x Nil) × IsProper (cond t Nil x)
cond_proper true x g = (g, tt)
cond_proper false x g = (tt, g)

module _ (b off k : ℕ) (xs : List ℕ) (p : Piece) (le : k ≤ length xs) (e : Exactly (range b off xs) p) where
  pub front_exact : Exactly (range b off (take k xs)) (front b (suc (off + k)) p)
  front_exact =
      from_slice b off (take k xs) (front b (suc (off + k)) p) (front_slice xs b off k p le (to_slice b off xs p e))
      (λ c j. (cond_proper (eqb c b && ltb j (suc (off + k))) (p c j) (exact_proper (range b off xs) p e c j)).0)

  pub back_exact : Exactly (range b (off + k) (drop k xs)) (back b (suc (off + k)) p)
  back_exact =
      from_slice b (off + k) (drop k xs) (back b (suc (off + k)) p) (back_slice xs b off k p le (to_slice b off xs p e))
      (λ c j. (cond_proper (eqb c b && ltb j (suc (off + k))) (p c j) (exact_proper (range b off xs) p e c j)).1)

pub join_exact : (b off : ℕ) (xs ys : List ℕ) (p q : Piece) (h : Heap) → Holds (plus p q) h → Exactly (range b off xs) p → Exactly (range b (off + length xs) ys) q → Exactly (range b off (xs ++ ys)) (plus p q)
join_exact b off xs ys p q h hs e d = from_slice b off (xs ++ ys) (plus p q) (join_slice xs ys b off p q (to_slice b off xs p e) (to_slice b (off + length xs) ys q d)) (held_proper (plus p q) h hs)

-- ---- halves

-- a share is its two halves, whatever it is
pub halves : (p : Piece) → plus (half_of p) (rest_of p) ≡ p
halves p = fun_ext (λ b. fun_ext (λ j. by (p b j)))
  where
    by : (x : Share) → add (half x) (rest x) ≡ x
    by Nil = refl
    by Clash = refl
    by (Some_of v k) = share-add v (suc k / 2) (suc k - suc k / 2) ∙ ap (share_of v) (let e : suc k / 2 + (suc k - suc k / 2) ≡ suc k = omega arith in e)

-- below f forks, and f < 64, a share can be halved, and its halves are fit for one fork more
module _ (f : ℕ) (lt : f < 64) (p : Piece) (l : (b j : ℕ) → AtLeast (2 ^ (64 - f)) (p b j)) where
  twice : (b j : ℕ) → AtLeast (2 * 2 ^ (64 - suc f)) (p b j)
  twice b j = subst (λ y. AtLeast y (p b j)) (power_step f lt) (l b j)

  pub two_least : (b j : ℕ) → AtLeast 2 (p b j)
  two_least b j = by (p b j) (2 ^ (64 - suc f)) (positive (64 - suc f)) (twice b j)
    where
      positive : (n : ℕ) → 1 ≤ 2 ^ n
      positive zero = omega arith
      positive (suc n) = let e = pow-succ' 2 n in let ih = positive n in omega (arith, e, ih)

      by : (x : Share) (m : ℕ) → 1 ≤ m → AtLeast (2 * m) x → AtLeast 2 x
      by Nil m a w = tt
      by Clash m a w = tt
      by (Some_of v k) m a w = omega (arith, a, w)

  pub halves_least : (b j : ℕ) → AtLeast (2 ^ (64 - suc f)) (half_of p b j) × AtLeast (2 ^ (64 - suc f)) (rest_of p b j)
  halves_least b j = half_least (2 ^ (64 - suc f)) (p b j) (twice b j)
