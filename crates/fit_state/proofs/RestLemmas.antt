-- Instructions that are passed, where what is left is a list.
use Rattle.std.proofs.Common.{◌≡◌, ◌≤◌, ◌-◌, ◌∙◌, ℕ, Bool, false, List, [], ◌∷◌, length, drop, take, get_or, refl, sym, ap, subst, nat_lt, arith}
use Rattle.std.proofs.lemmas.List.{take_all}
use Rattle.fit_state.proofs.LeftLemmas.{none_then}
use Rattle.fit_state.proofs.PassLemmas.{Reached, all_moves, all_stops, all_fails, all_ends, until_moves, until_stops, until_fails, until_none}
use Rattle.fit_state.specs.Left.{none_below}
use Rattle.fit_state.specs.Passing.{Way, Fails, GoesTo, StepIs}
use Rattle.fit_state.specs.States.{Is}
use Rattle.fit_state.specs.declared.state.FitState.{FitState}
use Rattle.fit_state.specs.declared.step.Step.{Step}
use Rattle.fit_state.specs.declared.step.Step.TheVariants as t
use Rattle.fit_tokens.specs.Changes.{toks}
use Rattle.fits.specs.Follow.{Views, pass_all, pass_until}
use Rattle.fits.specs.Places.{State, Token, goners, hold_words, none_left}
use Rattle.target_code.specs.declared.tree.Instr.{Instr}

-- ---- lists

pub head_first : (is : List Instr) (i : Instr) → 1 ≤ length is → i ≡ get_or is 0 i → is ≡ i ∷ drop 1 is
head_first [] i h e = absurd (omega arith)
head_first (x ∷ is) i h e = ap (λ z. z ∷ is) (sym e)

pub none_of : (is : List Instr) → length is ≤ 0 → is ≡ []
none_of [] h = refl
none_of (x ∷ is) h = absurd (omega arith)

-- those behind the first, as a pattern has them
abbrev pub behind : List Instr → List Instr
behind is = take (length is - 1) (drop 1 is)

behind_is : (is : List Instr) → behind is ≡ drop 1 is
behind_is [] = take_all (length {A = Instr} [] - 1) [] (omega arith)
behind_is (x ∷ is) = take_all (length (x ∷ is) - 1) is (omega arith)

-- ---- all that may be passed

module _ (R : ℕ) (V : Views) (s : State) (x y : FitState) (way : Way) (rest : List Instr) (i : Instr) (step : Step) (some : 1 ≤ length rest) (first : i ≡ get_or rest 0 i) (p : StepIs R i x y step) where
  same : rest ≡ i ∷ drop 1 rest
  same = head_first rest i some first

  pub all_moved : step ≡ t.Passed → Reached R s x way (λ u. pass_all R V u rest) → Reached R s y way (λ u. pass_all R V u (behind rest))
  all_moved q a =
      subst (λ z. Reached R s y way (λ u. pass_all R V u z)) (sym (behind_is rest))
      (all_moves R V s x y way i (drop 1 rest) (subst (λ z. Reached R s x way (λ u. pass_all R V u z)) same a) (subst (StepIs R i x y) q p))

  pub all_stopped : step ≡ t.Stops → Reached R s x way (λ u. pass_all R V u rest) → GoesTo R s y rest way
  all_stopped q a =
      subst (λ z. GoesTo R s y z way) (sym same) (all_stops R V s x y way i (drop 1 rest) (subst (λ z. Reached R s x way (λ u. pass_all R V u z)) same a) (subst (StepIs R i x y) q p))

  pub all_failed : step ≡ t.Fails → Reached R s x way (λ u. pass_all R V u rest) → Fails way
  all_failed q a = all_fails R V s x y way i (drop 1 rest) (subst (λ z. Reached R s x way (λ u. pass_all R V u z)) same a) (subst (StepIs R i x y) q p)

  -- ---- no further than needed

  module _ (ok : State → Bool) where
    pub until_moved : step ≡ t.Passed → (a : Reached R s x way (λ u. pass_until R V ok u rest)) → ok a.next ≡ false → Reached R s y way (λ u. pass_until R V ok u (behind rest))
    until_moved q =
        subst (λ z. (a : Reached R s x way (λ u. pass_until R V ok u z)) → ok a.next ≡ false → Reached R s y way (λ u. pass_until R V ok u (behind rest))) (sym same)
        (λ a n.
        subst (λ z. Reached R s y way (λ u. pass_until R V ok u z)) (sym (behind_is rest))
        (until_moves R V ok s x y way i (drop 1 rest) a n (subst (StepIs R i x y) q p)))

    pub until_stopped : step ≡ t.Stops → (a : Reached R s x way (λ u. pass_until R V ok u rest)) → ok a.next ≡ false → Fails way
    until_stopped q =
        subst (λ z. (a : Reached R s x way (λ u. pass_until R V ok u z)) → ok a.next ≡ false → Fails way) (sym same)
        (λ a n. until_stops R V ok s x y way i (drop 1 rest) a n (subst (StepIs R i x y) q p))

    pub until_failed : step ≡ t.Fails → (a : Reached R s x way (λ u. pass_until R V ok u rest)) → ok a.next ≡ false → Fails way
    until_failed q =
        subst (λ z. (a : Reached R s x way (λ u. pass_until R V ok u z)) → ok a.next ≡ false → Fails way) (sym same)
        (λ a n. until_fails R V ok s x y way i (drop 1 rest) a n (subst (StepIs R i x y) q p))

module _ (R : ℕ) (V : Views) (s : State) (x : FitState) (way : Way) (rest : List Instr) (none : length rest ≤ 0) where
  pub all_ended : Reached R s x way (λ u. pass_all R V u rest) → GoesTo R s x rest way
  all_ended a =
      subst (λ z. GoesTo R s x z way) (sym (none_of rest none)) (all_ends R V s x way (subst (λ z. Reached R s x way (λ u. pass_all R V u z)) (none_of rest none) a))

  pub until_over : (ok : State → Bool) (a : Reached R s x way (λ u. pass_until R V ok u rest)) → ok a.next ≡ false → Fails way
  until_over ok =
      subst (λ z. (a : Reached R s x way (λ u. pass_until R V ok u z)) → ok a.next ≡ false → Fails way) (sym (none_of rest none)) (λ a n. until_none R V ok s x way a n)

-- ---- what is asked

pub held_as : (R : ℕ) (x : FitState) (s : State) (rs : List ℕ) (ts : List Token) (b c : Bool) → Is R x s → b ≡ hold_words (toks x.tokens) rs ts → b ≡ c → hold_words s.toks rs ts ≡ c
held_as R x s rs ts b c h e q = ap (λ f. hold_words f rs ts) (sym h.known.tokens) ∙ sym e ∙ q

pub left_as : (R : ℕ) (x : FitState) (s : State) (mark : ℕ) (gone : List ℕ) (p : ℕ) (c : Bool) → Is R x s → none_below x.rules.context.spots mark gone (length x.rules.context.spots) ≡ nat_lt p 1 → nat_lt p 1 ≡ c → none_left mark (goners gone s.hold) s.entries ≡ c
left_as R x s mark gone p c h e q = none_then x.rules.context.spots s.hold s.entries mark gone p h.held.same.spots e ∙ q
