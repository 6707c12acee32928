-- Loops over places.
use Rattle.std.proofs.Common.{◌≡◌, ◌<◌, ◌+◌, ℕ, suc, Bool, true, false, cond, ◌||◌, List, [], ◌∷◌, ◌++◌, length, take, refl, sym, ap, ◌∙◌, nat_eq, arith, get_or}
use Rattle.std.proofs.Math.Seq.{take-suc}
use Rattle.std.specs.Prelude.{Option, None}
use Rattle.rule_check.specs.Context.{Spot, is_among, or_else, first_unmet}
use Rattle.context_laws.specs.Meeting.{earlier, one_sided, first_one, var_at}
use Rattle.context_laws.specs.Stacks.{falls_at}
use Rattle.context_laws.proofs.MeetingLemmas.{one_more, both_sides, unmet_is}
use Rattle.context_laws.proofs.StacksLemmas.{among_more}

taken : (xs : List ℕ) (i : ℕ) → i < length xs → take (i + 1) xs ≡ take i xs ++ get_or xs i 0 ∷ []
taken xs i h = let n : suc i ≡ i + 1 = omega arith in ap (λ j. take j xs) (sym n) ∙ take-suc xs i 0 h

either_way : (a b : ℕ) → nat_eq a b ≡ nat_eq b a
either_way a b = grind arith

pub more_places : (xs : List ℕ) (i : ℕ) (f g : ℕ → Bool) → i < length xs → ((v : ℕ) → f v ≡ is_among v (take i xs)) → ((v : ℕ) → g v ≡ cond (nat_eq (get_or xs i 0) v) true (f v)) → (v : ℕ) → g v ≡ is_among v (take (i + 1) xs)
more_places xs i f g h p q v =
    q v ∙ ap (cond (nat_eq (get_or xs i 0) v) true) (p v)
    ∙ at_same (nat_eq (get_or xs i 0) v) (is_among v (take i xs))
    ∙ ap (λ b. is_among v (take i xs) || (b || false)) (either_way (get_or xs i 0) v)
    ∙ sym (ap (is_among v) (taken xs i h) ∙ among_more v (get_or xs i 0) (take i xs))
  where
    at_same : (b a : Bool) → cond b true a ≡ (a || (b || false))
    at_same true true = refl
    at_same true false = refl
    at_same false true = refl
    at_same false false = refl

pub none_one : (js : List ℕ) (ss : List Spot) → None ≡ first_one [] js ss
none_one js [] = refl
none_one js (s ∷ ss) = ap (λ o. or_else o None) (none_one js ss)

pub first_step : (xs js : List ℕ) (i : ℕ) (ss : List Spot) (f s e : Option ℕ) → i < length xs → f ≡ first_one (take i xs) js ss → s ≡ one_sided js ss (get_or xs i 0) → e ≡ earlier f s → e ≡ first_one (take (i + 1) xs) js ss
first_step xs js i ss f s e h p q r =
    r ∙ ap (λ o. earlier o s) p ∙ ap (earlier (first_one (take i xs) js ss)) q
    ∙ sym (ap (λ z. first_one z js ss) (taken xs i h) ∙ one_more (take i xs) js (get_or xs i 0) ss)

pub unmet_found : (is js ls rs : List ℕ) (ss : List Spot) (a b e v : Option ℕ) → ls ≡ is → rs ≡ js → a ≡ first_one is rs ss → b ≡ first_one js ls ss → e ≡ earlier a b → v ≡ var_at ss e → v ≡ first_unmet (falls_at is ss) (falls_at js ss)
unmet_found is js ls rs ss a b e v l r p q f g =
    g ∙ ap (var_at ss) (f ∙ ap (λ o. earlier o b) (p ∙ ap (λ z. first_one is z ss) r) ∙ ap (earlier (first_one is js ss)) (q ∙ ap (λ z. first_one js z ss) l) ∙ both_sides is js ss)
    ∙ sym (unmet_is is js ss)
