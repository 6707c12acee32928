-- Loops that test the end of a body.
use Rattle.std.proofs.Common.{◌≡◌, ◌≢◌, ◌+◌, ◌<◌, ◌≤◌, ℕ, suc, Bool, true, false, ◌&&◌, List, [], ◌∷◌, length, drop, get_or, drop-cons, refl, sym, ap, ◌∙◌, arith}
use Rattle.std.proofs.lemmas.List.{drop_all}
use Rattle.std.specs.Prelude.{Option, Some, None}
use Rattle.context_laws.specs.Stacks.{spot_in}
use Rattle.fit_state.specs.Infos.{infos_of}
use Rattle.fit_state.specs.declared.infos.Info.{Info}
use Rattle.fit_walk.specs.Bodies.{kept_at, kept_from}
use Rattle.fits.specs.Follow.{proc_name}
use Rattle.fits.specs.Places.{info_reps}
use Rattle.fits.specs.Programs.{same_reps}
use Rattle.rule_check.specs.Context.{Spot, same_rep}
use Rattle.target_code.specs.declared.tree.InParam.{InParam}
use Rattle.target_code.specs.declared.tree.Rep.{Rep}

drop_next : {A : Type 0} (ys : List A) (i : ℕ) (d : A) → i < length ys → drop i ys ≡ get_or ys i d ∷ drop (i + 1) ys
drop_next ys i d lt = drop-cons ys i d lt ∙ ap (λ n. get_or ys i d ∷ drop n ys) (one i)
  where
    one : (n : ℕ) → suc n ≡ n + 1
    one n = omega arith

drop_item : {A : Type 0} (ys : List A) (i : ℕ) (y : A) → i < length ys → y ≡ get_or ys i y → drop i ys ≡ y ∷ drop (i + 1) ys
drop_item ys i y lt e = drop_next ys i y lt ∙ ap (λ z. z ∷ drop (i + 1) ys) (sym e)

pub is_empty : {A : Type 0} (ys : List A) → length ys < 1 → ys ≡ []
is_empty [] lt = refl
is_empty (y ∷ ys) lt = absurd (let o : ⊥ = omega (arith, lt) in o)

-- ---- representations

abbrev pub reps_from : List Info → List Rep → ℕ → Bool
reps_from infos shown i = same_reps (info_reps (infos_of (drop i infos))) (drop i shown)

reps_at : (infos : List Info) (shown : List Rep) (i : ℕ) (x : Info) (y : Rep) → i < length infos → i < length shown → x ≡ get_or infos i x → y ≡ get_or shown i y → reps_from infos shown i ≡ (same_rep x.shape.rep y && reps_from infos shown (i + 1))
reps_at infos shown i x y lt le ex ey = λ j. same_reps (info_reps (infos_of (drop_item infos i x lt ex j))) (drop_item shown i y le ey j)

pub reps_step : (infos : List Info) (shown : List Rep) (i : ℕ) (x : Info) (y : Rep) (b same : Bool) → i < length infos → i < length shown → x ≡ get_or infos i x → y ≡ get_or shown i y → b ≡ reps_from infos shown i → same ≡ same_rep x.shape.rep y → same ≡ true → b ≡ reps_from infos shown (i + 1)
reps_step infos shown i x y b same lt le ex ey h s t = h ∙ reps_at infos shown i x y lt le ex ey ∙ ap (λ c. c && reps_from infos shown (i + 1)) (sym s ∙ t)

pub reps_stop : (infos : List Info) (shown : List Rep) (i : ℕ) (x : Info) (y : Rep) (b same : Bool) → i < length infos → i < length shown → x ≡ get_or infos i x → y ≡ get_or shown i y → b ≡ reps_from infos shown i → same ≡ same_rep x.shape.rep y → same ≡ false → false ≡ b
reps_stop infos shown i x y b same lt le ex ey h s t = sym (h ∙ reps_at infos shown i x y lt le ex ey ∙ ap (λ c. c && reps_from infos shown (i + 1)) (sym s ∙ t))

pub reps_all : (infos : List Info) (shown : List Rep) (i : ℕ) (b : Bool) → length infos ≤ i → length infos ≡ length shown → b ≡ reps_from infos shown i → true ≡ b
reps_all infos shown i b le n h =
    let k : length shown ≤ i = omega (arith, le, n) in
    sym (h ∙ (λ j. same_reps (info_reps (infos_of (drop_all i infos le j))) (drop_all i shown k j)))

pub reps_differ : (infos : List Info) (shown : List Rep) → length infos ≢ length shown → false ≡ same_reps (info_reps (infos_of infos)) shown
reps_differ [] [] n = absurd (n refl)
reps_differ [] (y ∷ ys) n = refl
reps_differ (x ∷ xs) [] n = refl
reps_differ (x ∷ xs) (y ∷ ys) n = by (same_rep x.shape.rep y) (reps_differ xs ys (λ e. n (ap suc e)))
  where
    by : (b : Bool) → false ≡ same_reps (info_reps (infos_of xs)) ys → false ≡ (b && same_reps (info_reps (infos_of xs)) ys)
    by true h = h
    by false h = refl

-- ---- tests one behind another

pub both_tests : (h held H B : Bool) → h ≡ H → h ≡ true → held ≡ B → held ≡ (H && B)
both_tests h held H B e t k = k ∙ ap (λ z. z && B) (sym (sym e ∙ t))

pub first_fails : (h held H B : Bool) → h ≡ H → h ≡ false → held ≡ false → held ≡ (H && B)
first_fails h held H B e f k = k ∙ ap (λ z. z && B) (sym (sym e ∙ f))

-- ---- what is kept

pub kept_step : (ss : List Spot) (ys : List InParam) (gone : List ℕ) (i : ℕ) (y : InParam) (b kept : Bool) → i < length ys → y ≡ get_or ys i y → b ≡ kept_from ss i (drop i ys) gone → kept ≡ kept_at (spot_in ss i) y.kept gone → kept ≡ true → b ≡ kept_from ss (i + 1) (drop (i + 1) ys) gone
kept_step ss ys gone i y b kept lt e h k t = h ∙ ap (λ zs. kept_from ss i zs gone) (drop_item ys i y lt e) ∙ ap (λ c. c && kept_from ss (suc i) (drop (i + 1) ys) gone) (sym k ∙ t) ∙ ap (λ n. kept_from ss n (drop (i + 1) ys) gone) (one i)
  where
    one : (n : ℕ) → suc n ≡ n + 1
    one n = omega arith

pub kept_stop : (ss : List Spot) (ys : List InParam) (gone : List ℕ) (i : ℕ) (y : InParam) (b kept : Bool) → i < length ys → y ≡ get_or ys i y → b ≡ kept_from ss i (drop i ys) gone → kept ≡ kept_at (spot_in ss i) y.kept gone → kept ≡ false → false ≡ b
kept_stop ss ys gone i y b kept lt e h k t = sym (h ∙ ap (λ zs. kept_from ss i zs gone) (drop_item ys i y lt e) ∙ ap (λ c. c && kept_from ss (suc i) (drop (i + 1) ys) gone) (sym k ∙ t))

pub kept_all : (ss : List Spot) (ys : List InParam) (gone : List ℕ) (i : ℕ) (b : Bool) → length ys ≤ i → b ≡ kept_from ss i (drop i ys) gone → true ≡ b
kept_all ss ys gone i b le h = sym (h ∙ ap (λ zs. kept_from ss i zs gone) (drop_all i ys le))
