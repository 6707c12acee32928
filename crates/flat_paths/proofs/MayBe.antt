-- Laws of `may`.
use Rattle.std.proofs.Common.{◌≡◌, ℕ, ◌⊎◌, inl, inr, true, false, refl, sym, subst}
use Rattle.nres_core.specs.Ops.{at_line}
use Rattle.nres_core.specs.Runs.{Runs, Done, Failed, Over, Choose, Side, May, sided, both, ◌>>=◌}
use Rattle.nres_core.specs.declared.value.Value.{Value}
use Rattle.nres_core.specs.declared.value.Value.TheVariants as v
use Rattle.nres_meaning.specs.Alike.{Less, done, failed, over, cut, choose}
use Rattle.flat_paths.specs.Paths.{Stop, Fault, Excess, Stops, may}

-- a part, and then the rest
pub may_then : {A B : Type 0} (r : Runs A) (f : A → Runs B) (ok : B → Type 0) (bad : Stops) → may (r >>= f) ok bad ≡ may r (λ a. may (f a) ok bad) bad
may_then (Done a) f ok bad = refl
may_then (Failed l) f ok bad = refl
may_then (Over l) f ok bad = refl
may_then (Choose c k) f ok bad = λ i. (x : Value) × May c x × may_then (k x) f ok bad i

-- a line is forgotten
pub may_line : {A : Type 0} (l : ℕ) (r : Runs A) (ok : A → Type 0) (bad : Stops) → may (at_line l r) ok bad ≡ may r ok bad
may_line l (Done a) ok bad = refl
may_line l (Failed k) ok bad = refl
may_line l (Over k) ok bad = refl
may_line l (Choose c k) ok bad = λ i. (x : Value) × May c x × may_line l (k x) ok bad i

-- weaker ends
pub may_map : {A : Type 0} (r : Runs A) (ok ok' : A → Type 0) (bad bad' : Stops) → ((a : A) → ok a → ok' a) → ((z : Stop) → bad z → bad' z) → may r ok bad → may r ok' bad'
may_map (Done a) ok ok' bad bad' f g w = f a w
may_map (Failed l) ok ok' bad bad' f g w = g Fault w
may_map (Over l) ok ok' bad bad' f g w = g Excess w
may_map (Choose c k) ok ok' bad bad' f g w = (w.0, w.1, may_map (k w.0) ok ok' bad bad' f g w.2)

-- equal ends
pub may_same : {A : Type 0} (r : Runs A) (ok ok' : A → Type 0) (bad : Stops) → ((a : A) → ok a ≡ ok' a) → may r ok bad ≡ may r ok' bad
may_same (Done a) ok ok' bad e = e a
may_same (Failed l) ok ok' bad e = refl
may_same (Over l) ok ok' bad e = refl
may_same (Choose c k) ok ok' bad e = λ i. (x : Value) × May c x × may_same (k x) ok ok' bad e i

-- a part, and then a rest that is known
pub may_go : {A B : Type 0} (r : Runs A) (f : A → Runs B) (ok : B → Type 0) (bad : Stops) → may r (λ a. may (f a) ok bad) bad → may (r >>= f) ok bad
may_go r f ok bad w = subst (λ y. y) (sym (may_then r f ok bad)) w

pub may_parts : {A B : Type 0} (r : Runs A) (f : A → Runs B) (ok : B → Type 0) (bad : Stops) → may (r >>= f) ok bad → may r (λ a. may (f a) ok bad) bad
may_parts r f ok bad w = subst (λ y. y) (may_then r f ok bad) w

-- where the first breaks off nowhere that is asked for, the second does as much
pub may_less : {A : Type 0} (r s : Runs A) (ok ok' : A → Type 0) (bad bad' : Stops) → ((a : A) → ok a → ok' a) → ((z : Stop) → bad z → bad' z) → (bad Excess → ⊥) → Less r s → may r ok bad → may s ok' bad'
may_less _ _ ok ok' bad bad' f g nil (done {b = b} e) w = f b (subst ok e w)
may_less _ _ ok ok' bad bad' f g nil failed w = g Fault w
may_less _ _ ok ok' bad bad' f g nil over w = g Excess w
may_less _ _ ok ok' bad bad' f g nil (cut l) w = absurd (nil w)
may_less _ _ ok ok' bad bad' f g nil (choose h) w = (w.0, w.1, may_less _ _ ok ok' bad bad' f g nil (h w.0 w.1) w.2)

-- a side is chosen
pub may_side : {A : Type 0} (l r : Runs A) (ok : A → Type 0) (bad : Stops) → may l ok bad ⊎ may r ok bad → may (Choose Side (λ x. sided x l r)) ok bad
may_side l r ok bad (inl w) = (v.Bool true, tt, w)
may_side l r ok bad (inr w) = (v.Bool false, tt, w)

pub side_parts : {A : Type 0} (l r : Runs A) (ok : A → Type 0) (bad : Stops) → may (Choose Side (λ x. sided x l r)) ok bad → may l ok bad ⊎ may r ok bad
side_parts l r ok bad (v.Bool true, _, w) = inl w
side_parts l r ok bad (v.Bool false, _, w) = inr w
side_parts l r ok bad (v.Nat n, m, w) = absurd m
side_parts l r ok bad (v.List n, m, w) = absurd m
side_parts l r ok bad (v.Set n, m, w) = absurd m
side_parts l r ok bad (v.Map n, m, w) = absurd m
side_parts l r ok bad (v.Bag n, m, w) = absurd m

module _ {A B C : Type 0} (l : Runs A) (r : Runs B) (k : A → B → Runs C) (ok : C → Type 0) (bad : Stops) where
  -- two parts side by side: the left and then the right
  pub may_both : may l (λ a. may r (λ b. may (k a b) ok bad) bad) bad → may (both l r k) ok bad
  may_both w = may_side _ _ ok bad (inl (may_go l _ ok bad (may_map l _ _ bad bad (λ a q. may_go r (λ b. k a b) ok bad q) (λ z q. q) w)))

  -- the right stops
  pub may_right : may r (λ b. ⊥) bad → may (both l r k) ok bad
  may_right w = may_side _ _ ok bad (inr (may_go r _ ok bad (may_map r _ _ bad bad (λ b q. absurd q) (λ z q. q) w)))
