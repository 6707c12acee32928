-- Calculations, in values and in words.
use Rattle.std.proofs.Common.{◌≡◌, ℕ, ◌+◌, ◌-◌, ◌*◌, ◌/◌, ◌%◌, ◌^◌, ◌<◌, ◌≤◌, Bool, true, false, not, cond, [], ◌∷◌, refl, ap, sym, ◌∙◌, subst, arith, eqb, leb, ltb, ltb-false, leb-false, eqb-true, min, max, zero, suc}
use Rattle.std.proofs.Math.Nat.{div-le_self, mod-lt}
use Rattle.nres_core.specs.Ops.{calc_out, fail_if}
use Rattle.nres_core.specs.Runs.{Done, Fails}
use Rattle.nres_core.specs.declared.value.Value.{Value}
use Rattle.nres_core.specs.declared.value.Value.TheVariants as v
use Rattle.target_code.specs.declared.tree.Calc.{Calc}
use Rattle.target_code.specs.declared.tree.Calc.TheVariants as calc
use Rattle.target_code.specs.declared.tree.Rep.{Rep}
use Rattle.target_code.specs.declared.tree.Rep.TheVariants as rep
use Rattle.target_meaning.specs.Leaf.{Is, calc_of}
use Rattle.target_meaning.specs.Piece.{Piece, none}
use Rattle.relations.specs.Represents.{Represents}
use Rattle.rule_check.specs.Steps.{calc_rep}
use Rattle.fits.specs.Follow.{same_calc, calc_number}
use Rattle.fits_sound.proofs.Take.{number_is, truth_is}

-- a number in one register, and a truth value
pub record IsOne (x : Rep) (w n : ℕ) : Type 0 where
  pub word : x ≡ rep.Word
  pub same : w ≡ n
  pub small : n < 2 ^ 64

pub one_number : (x : Rep) (n w : ℕ) (p : Piece) → Represents x (v.Nat n) (w ∷ []) p → IsOne x w n
one_number rep.Word n w p h = record { word = refl; same = h.layout.same; small = h.layout.word }
one_number x n w p h = absurd h.layout

pub one_truth : (x : Rep) (b : Bool) (w : ℕ) (p : Piece) → Represents x (v.Bool b) (w ∷ []) p → w ≡ cond b 1 0
one_truth rep.Flag true w p h = h.layout.same
one_truth rep.Flag false w p h = h.layout.same
one_truth x b w p h = absurd h.layout

-- what a calculation comes to, in values and in words
pub record Calc_met (w : Calc) (x y : Value) (m n : ℕ) : Type 0 where
  pub value : Value
  pub word : ℕ
  pub means : calc_out w x y ≡ Done value
  pub is : calc_of w m n ≡ Is word
  pub rel : Represents (calc_rep w) value (word ∷ []) none

abbrev Numbers : Calc → Type 0
Numbers w = (x y : ℕ) → x < 2 ^ 64 → y < 2 ^ 64 → (Fails (calc_out w (v.Nat x) (v.Nat y)) → ⊥) → Calc_met w (v.Nat x) (v.Nat y) x y

-- what does not fail
not_failed : {A : Type 0} (b : Bool) (x : A) → (Fails (fail_if b x) → ⊥) → (b ≡ false) × (fail_if b x ≡ Done x)
not_failed true x ok = absurd (ok tt)
not_failed false x ok = (refl, refl)

below : (z : ℕ) → leb (2 ^ 64) z ≡ false → z < 2 ^ 64
below z e = let w = leb-false (2 ^ 64) z e in omega (arith, w)

-- a number that the word is
met_number : (w : Calc) (x y z k : ℕ) → calc_rep w ≡ rep.Word → calc_out w (v.Nat x) (v.Nat y) ≡ Done (v.Nat z) → calc_of w x y ≡ Is k → k ≡ z → z < 2 ^ 64 → Calc_met w (v.Nat x) (v.Nat y) x y
met_number w x y z k er e i same lt = record {
  value = v.Nat z;
  word = k;
  means = e;
  is = i;
  rel = subst (λ r. Represents r (v.Nat z) (k ∷ []) none) (sym er) (subst (λ j. Represents rep.Word (v.Nat z) (j ∷ []) none) (sym same) (number_is z lt));
}

met_truth : (w : Calc) (x y : Value) (m n : ℕ) (b : Bool) → calc_rep w ≡ rep.Flag → calc_out w x y ≡ Done (v.Bool b) → calc_of w m n ≡ Is (cond b 1 0) → Calc_met w x y m n
met_truth w x y m n b er e i = record { value = v.Bool b; word = cond b 1 0; means = e; is = i; rel = subst (λ r. Represents r (v.Bool b) (cond b 1 0 ∷ []) none) (sym er) (truth_is b) }

wrapped : (z : ℕ) → z < 2 ^ 64 → z % 2 ^ 64 ≡ z
wrapped z lt = omega (arith, lt)

add_numbers : Numbers calc.Add
add_numbers x y lx ly ok =
    let n = not_failed (leb (2 ^ 64) (x + y)) (v.Nat (x + y)) ok in
    let lt = below (x + y) n.0 in
    met_number calc.Add x y (x + y) ((x + y) % 2 ^ 64) refl n.1 refl (wrapped (x + y) lt) lt

mul_numbers : Numbers calc.Mul
mul_numbers x y lx ly ok =
    let n = not_failed (leb (2 ^ 64) (x * y)) (v.Nat (x * y)) ok in
    let lt = below (x * y) n.0 in
    met_number calc.Mul x y (x * y) (x * y % 2 ^ 64) refl n.1 refl (wrapped (x * y) lt) lt

sub_numbers : Numbers calc.Sub
sub_numbers x y lx ly ok =
    let n = not_failed (ltb x y) (v.Nat (x - y)) ok in
    let le = ltb-false x y n.0 in
    met_number calc.Sub x y (x - y) ((x + 2 ^ 64 - y) % 2 ^ 64) refl n.1 refl (differs x y le lx) (omega (arith, lx))
  where
    differs : (x y : ℕ) → y ≤ x → x < 2 ^ 64 → (x + 2 ^ 64 - y) % 2 ^ 64 ≡ x - y
    differs x y le lx = omega (arith, le, lx)

div_numbers : Numbers calc.Div
div_numbers x zero lx ly ok = absurd (ok tt)
div_numbers x (suc y) lx ly ok = let n = not_failed (eqb (suc y) 0) (v.Nat (x / suc y)) ok in let le = div-le_self x (suc y) in met_number calc.Div x (suc y) (x / suc y) (x / suc y) refl n.1 refl refl (omega (arith, le, lx))

mod_numbers : Numbers calc.Mod
mod_numbers x zero lx ly ok = absurd (ok tt)
mod_numbers x (suc y) lx ly ok = let n = not_failed (eqb (suc y) 0) (v.Nat (x % suc y)) ok in let lt : x % suc y < suc y = mod-lt x (omega arith) in met_number calc.Mod x (suc y) (x % suc y) (x % suc y) refl n.1 refl refl (omega (arith, lt, ly))

on_numbers : (w : Calc) → Numbers w → (q r : Rep) (x y m n : ℕ) (p p' : Piece) → Represents q (v.Nat x) (m ∷ []) p → Represents r (v.Nat y) (n ∷ []) p' → (Fails (calc_out w (v.Nat x) (v.Nat y)) → ⊥) → Calc_met w (v.Nat x) (v.Nat y) m n
on_numbers w law q r x y m n p p' hx hy ok =
    let a = one_number q x m p hx in
    let b = one_number r y n p' hy in
    subst (λ k. Calc_met w (v.Nat x) (v.Nat y) k n) (sym a.same) (subst (λ k. Calc_met w (v.Nat x) (v.Nat y) x k) (sym b.same) (law x y a.small b.small ok))

abbrev Truths : Calc → Type 0
Truths w = (x y : Bool) → Calc_met w (v.Bool x) (v.Bool y) (cond x 1 0) (cond y 1 0)

on_truths : (w : Calc) → Truths w → (q r : Rep) (x y : Bool) (m n : ℕ) (p p' : Piece) → Represents q (v.Bool x) (m ∷ []) p → Represents r (v.Bool y) (n ∷ []) p' → Calc_met w (v.Bool x) (v.Bool y) m n
on_truths w law q r x y m n p p' hx hy =
    let a = one_truth q x m p hx in
    let b = one_truth r y n p' hy in
    subst (λ k. Calc_met w (v.Bool x) (v.Bool y) k n) (sym a) (subst (λ k. Calc_met w (v.Bool x) (v.Bool y) (cond x 1 0) k) (sym b) (law x y))

min_numbers : Numbers calc.Min
min_numbers x y lx ly ok = met_number calc.Min x y (min x y) (min x y) refl refl refl refl (omega (arith, lx, ly))

max_numbers : Numbers calc.Max
max_numbers x y lx ly ok = met_number calc.Max x y (max x y) (max x y) refl refl refl refl (omega (arith, lx, ly))

lt_numbers : Numbers calc.Lt
lt_numbers x y lx ly ok = met_truth calc.Lt (v.Nat x) (v.Nat y) x y (ltb x y) refl refl refl

le_numbers : Numbers calc.Le
le_numbers x y lx ly ok = met_truth calc.Le (v.Nat x) (v.Nat y) x y (leb x y) refl refl refl

eq_numbers : Numbers calc.Eq
eq_numbers x y lx ly ok = met_truth calc.Eq (v.Nat x) (v.Nat y) x y (eqb x y) refl refl refl

ne_numbers : Numbers calc.Ne
ne_numbers x y lx ly ok = met_truth calc.Ne (v.Nat x) (v.Nat y) x y (not (eqb x y)) refl refl refl

and_truths : Truths calc.And
and_truths true true = met_truth calc.And (v.Bool true) (v.Bool true) 1 1 true refl refl refl
and_truths true false = met_truth calc.And (v.Bool true) (v.Bool false) 1 0 false refl refl refl
and_truths false true = met_truth calc.And (v.Bool false) (v.Bool true) 0 1 false refl refl refl
and_truths false false = met_truth calc.And (v.Bool false) (v.Bool false) 0 0 false refl refl refl

or_truths : Truths calc.Or
or_truths true true = met_truth calc.Or (v.Bool true) (v.Bool true) 1 1 true refl refl refl
or_truths true false = met_truth calc.Or (v.Bool true) (v.Bool false) 1 0 true refl refl refl
or_truths false true = met_truth calc.Or (v.Bool false) (v.Bool true) 0 1 true refl refl refl
or_truths false false = met_truth calc.Or (v.Bool false) (v.Bool false) 0 0 false refl refl refl

eq_truths : Truths calc.Eq
eq_truths true true = met_truth calc.Eq (v.Bool true) (v.Bool true) 1 1 true refl refl refl
eq_truths true false = met_truth calc.Eq (v.Bool true) (v.Bool false) 1 0 false refl refl refl
eq_truths false true = met_truth calc.Eq (v.Bool false) (v.Bool true) 0 1 false refl refl refl
eq_truths false false = met_truth calc.Eq (v.Bool false) (v.Bool false) 0 0 true refl refl refl

-- a calculation that does not fail
pub calc_law : (w : Calc) (q r : Rep) (x y : Value) (m n : ℕ) (p p' : Piece) → Represents q x (m ∷ []) p → Represents r y (n ∷ []) p' → (Fails (calc_out w x y) → ⊥) → Calc_met w x y m n
calc_law calc.Add q r (v.Nat x) (v.Nat y) m n p p' hx hy ok = on_numbers calc.Add add_numbers q r x y m n p p' hx hy ok
calc_law calc.Sub q r (v.Nat x) (v.Nat y) m n p p' hx hy ok = on_numbers calc.Sub sub_numbers q r x y m n p p' hx hy ok
calc_law calc.Mul q r (v.Nat x) (v.Nat y) m n p p' hx hy ok = on_numbers calc.Mul mul_numbers q r x y m n p p' hx hy ok
calc_law calc.Div q r (v.Nat x) (v.Nat y) m n p p' hx hy ok = on_numbers calc.Div div_numbers q r x y m n p p' hx hy ok
calc_law calc.Mod q r (v.Nat x) (v.Nat y) m n p p' hx hy ok = on_numbers calc.Mod mod_numbers q r x y m n p p' hx hy ok
calc_law calc.Min q r (v.Nat x) (v.Nat y) m n p p' hx hy ok = on_numbers calc.Min min_numbers q r x y m n p p' hx hy ok
calc_law calc.Max q r (v.Nat x) (v.Nat y) m n p p' hx hy ok = on_numbers calc.Max max_numbers q r x y m n p p' hx hy ok
calc_law calc.Lt q r (v.Nat x) (v.Nat y) m n p p' hx hy ok = on_numbers calc.Lt lt_numbers q r x y m n p p' hx hy ok
calc_law calc.Le q r (v.Nat x) (v.Nat y) m n p p' hx hy ok = on_numbers calc.Le le_numbers q r x y m n p p' hx hy ok
calc_law calc.Eq q r (v.Nat x) (v.Nat y) m n p p' hx hy ok = on_numbers calc.Eq eq_numbers q r x y m n p p' hx hy ok
calc_law calc.Ne q r (v.Nat x) (v.Nat y) m n p p' hx hy ok = on_numbers calc.Ne ne_numbers q r x y m n p p' hx hy ok
calc_law calc.And q r (v.Bool x) (v.Bool y) m n p p' hx hy ok = on_truths calc.And and_truths q r x y m n p p' hx hy
calc_law calc.Or q r (v.Bool x) (v.Bool y) m n p p' hx hy ok = on_truths calc.Or or_truths q r x y m n p p' hx hy
calc_law calc.Eq q r (v.Bool x) (v.Bool y) m n p p' hx hy ok = on_truths calc.Eq eq_truths q r x y m n p p' hx hy
calc_law w q r x y m n p p' hx hy ok = absurd (ok tt)

-- by their numbers
abbrev calc_at : ℕ → Calc
calc_at n = cond (eqb n 0) calc.Add (cond (eqb n 1) calc.Sub (cond (eqb n 2) calc.Mul (cond (eqb n 3) calc.Div (cond (eqb n 4) calc.Mod (cond (eqb n 5) calc.Min (cond (eqb n 6) calc.Max (cond (eqb n 7) calc.Lt (cond (eqb n 8) calc.Le (cond (eqb n 9) calc.Eq (cond (eqb n 10) calc.Ne (cond (eqb n 11) calc.And (cond (eqb n 12) calc.Or (cond (eqb n 13) calc.Xor (cond (eqb n 14) calc.Shl calc.Shr))))))))))))))

named : (u : Calc) → calc_at (calc_number u) ≡ u
named calc.Add = refl
named calc.Sub = refl
named calc.Mul = refl
named calc.Div = refl
named calc.Mod = refl
named calc.Min = refl
named calc.Max = refl
named calc.Lt = refl
named calc.Le = refl
named calc.Eq = refl
named calc.Ne = refl
named calc.And = refl
named calc.Or = refl
named calc.Xor = refl
named calc.Shl = refl
named calc.Shr = refl

pub same_calc_is : (u w : Calc) → same_calc u w ≡ true → u ≡ w
same_calc_is u w e = sym (named u) ∙ ap calc_at (eqb-true (calc_number u) (calc_number w) e) ∙ named w
