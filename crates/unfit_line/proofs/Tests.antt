-- What passes the tests is equal, and what is equal passes them.
use Rattle.std.specs.Prelude.{◌≡◌, ℕ, nat_eq, Bool, true, false, ◌&&◌, not, cond, List, [], ◌∷◌, Option, Some, None, Contains}
use Rattle.std.specs.Cmp.Derive.{both_true}
use Rattle.std.specs.Cmp.Lexicographic.{slice_cmp}
use Rattle.std.specs.Ordering.{nat_cmp, is_lt}
use Rattle.std.specs.Str.{bytes_eq}
use Rattle.std.proofs.Common.{refl, sym, ap, ◌∙◌, subst, eq-eqb, ⊎_elim}
use Rattle.std.proofs.lemmas.Bool.{and_parts}
use Rattle.fits.specs.Programs.{same_reps}
use Rattle.fits_sound.proofs.Join.{same_rep_is}
use Rattle.rule_check.specs.Context.{bound_in, rep_number, same_number, same_rep}
use Rattle.soundness.specs.Shape.{AreRising}
use Rattle.target_code.specs.declared.tree.InParam.{InParam}
use Rattle.target_code.specs.declared.tree.Proc.{Proc}
use Rattle.target_code.specs.declared.tree.Rep.{Rep}
use Rattle.unfit_line.specs.Tests.{Names, are_of, is_of, rise, same_ins}
use Rattle.unfit_line.specs.UnfitLine.{TellsEqual}
use Rattle.unfit_line.proofs.Names.{nothing, here, behind, first_or_behind, or_first, or_second, either_of, same_name, name_is}

-- ---- representations

number_same : (x : Option ℕ) → same_number x x ≡ true
number_same None = refl
number_same (Some m) = eq-eqb m m refl

rep_same : (x : Rep) → same_rep x x ≡ true
rep_same x = both_true (eq-eqb (rep_number x) (rep_number x) refl) (number_same (bound_in x))

pub reps_are : (xs ys : List Rep) → same_reps xs ys ≡ true → xs ≡ ys
reps_are [] [] e = refl
reps_are [] (y ∷ ys) e = absurd (let o : ⊥ = cc e in o)
reps_are (x ∷ xs) [] e = absurd (let o : ⊥ = cc e in o)
reps_are (x ∷ xs) (y ∷ ys) e =
    let p = and_parts (same_rep x y) (same_reps xs ys) e in
    ap (λ z. z ∷ xs) (same_rep_is x y p.0) ∙ ap (λ z. y ∷ z) (reps_are xs ys p.1)

pub reps_same : (xs : List Rep) → same_reps xs xs ≡ true
reps_same [] = refl
reps_same (x ∷ xs) = both_true (rep_same x) (reps_same xs)

-- ---- inputs

mark_is : (a b : Bool) → cond a b (not b) ≡ true → a ≡ b
mark_is true true e = refl
mark_is true false e = absurd (let o : ⊥ = cc e in o)
mark_is false true e = absurd (let o : ⊥ = cc e in o)
mark_is false false e = refl

mark_same : (a : Bool) → cond a a (not a) ≡ true
mark_same true = refl
mark_same false = refl

abbrev in_of : List ℕ → Rep → Bool → InParam
in_of name x kept = record { name = name; rep = x; kept = kept }

pub ins_are : (xs ys : List InParam) → same_ins xs ys ≡ true → xs ≡ ys
ins_are [] [] e = refl
ins_are [] (y ∷ ys) e = absurd (let o : ⊥ = cc e in o)
ins_are (x ∷ xs) [] e = absurd (let o : ⊥ = cc e in o)
ins_are (x ∷ xs) (y ∷ ys) e =
    let p = and_parts (bytes_eq x.name y.name && (same_rep x.rep y.rep && cond x.kept y.kept (not y.kept))) (same_ins xs ys) e in
    let q = and_parts (bytes_eq x.name y.name) (same_rep x.rep y.rep && cond x.kept y.kept (not y.kept)) p.0 in
    let r = and_parts (same_rep x.rep y.rep) (cond x.kept y.kept (not y.kept)) q.1 in
    ap (λ z. in_of z x.rep x.kept ∷ xs) (name_is x.name y.name q.0) ∙ ap (λ z. in_of y.name z x.kept ∷ xs) (same_rep_is x.rep y.rep r.0)
    ∙ ap (λ z. in_of y.name y.rep z ∷ xs) (mark_is x.kept y.kept r.1) ∙ ap (λ z. y ∷ z) (ins_are xs ys p.1)

pub ins_same : (xs : List InParam) → same_ins xs xs ≡ true
ins_same [] = refl
ins_same (x ∷ xs) = both_true (both_true (same_name x.name) (both_true (rep_same x.rep) (mark_same x.kept))) (ins_same xs)

-- ---- rising names

pub are_rising : (xs : Names) → rise xs ≡ true → AreRising xs
are_rising [] e = tt
are_rising (x ∷ []) e = tt
are_rising (x ∷ y ∷ ys) e = let p = and_parts (is_lt (slice_cmp nat_cmp x y)) (rise (y ∷ ys)) e in (p.0, are_rising (y ∷ ys) p.1)

pub they_rise : (xs : Names) → AreRising xs → rise xs ≡ true
they_rise [] h = refl
they_rise (x ∷ []) h = refl
they_rise (x ∷ y ∷ ys) h = both_true h.0 (they_rise (y ∷ ys) h.1)

-- ---- procedures

module _ (same : Proc → Proc → Bool) (tells : TellsEqual same) where
  one_of : (q : Proc) (ps : List Proc) → is_of same q ps ≡ true → Contains ps q
  one_of q [] e = absurd (let o : ⊥ = cc e in o)
  one_of q (p ∷ ps) e =
      ⊎_elim (λ h. subst (Contains (p ∷ ps)) (tells.equal p q h) (here p ps)) (λ h. behind p q ps (one_of q ps h)) (either_of (same p q) (is_of same q ps) e)

  is_one : (q : Proc) (ps : List Proc) → Contains ps q → is_of same q ps ≡ true
  is_one q [] c = absurd (nothing q c)
  is_one q (p ∷ ps) c =
      ⊎_elim (λ e. or_first (same p q) (is_of same q ps) (ap (λ z. same z q) e ∙ tells.itself q)) (λ d. or_second (same p q) (is_of same q ps) (is_one q ps d)) (first_or_behind p q ps c)

  pub each_of : (qs ps : List Proc) → are_of same qs ps ≡ true → (q : Proc) → Contains qs q → Contains ps q
  each_of [] ps e q c = absurd (nothing q c)
  each_of (r ∷ rs) ps e q c =
      let p = and_parts (is_of same r ps) (are_of same rs ps) e in
      ⊎_elim (λ h. subst (Contains ps) h (one_of r ps p.0)) (λ d. each_of rs ps p.1 q d) (first_or_behind r q rs c)

  pub all_of : (qs ps : List Proc) → ((q : Proc) → Contains qs q → Contains ps q) → are_of same qs ps ≡ true
  all_of [] ps h = refl
  all_of (q ∷ qs) ps h = both_true (is_one q ps (h q (here q qs))) (all_of qs ps (λ r c. h r (behind q r qs c)))
