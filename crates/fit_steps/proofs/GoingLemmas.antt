-- Steps that go on alike, and tests that fail.
use Rattle.std.proofs.Common.{◌≡◌, ℕ, Bool, true, false, ◌&&◌, List, [], ◌∷◌, refl, sym, ap, ◌∙◌}
use Rattle.std.proofs.lemmas.Bool.{true≢false, false≢true}
use Rattle.std.specs.Prelude.{Option, Some, None, Result, Ok, Err}
use Rattle.bare_holds.specs.Bare.{passes}
use Rattle.fit_state.specs.declared.state.FitState.{FitState}
use Rattle.fit_state.specs.declared.view.Rest.{Rest}
use Rattle.fit_steps.specs.Going.{Steps}
use Rattle.fits.specs.Follow.{Line, Answer, Unmet, Walk, need, with_some, with_ok}
use Rattle.fits.specs.Places.{Info, cons_some}
use Rattle.nres_core.specs.declared.refusal.Refusal.{Refusal}
use Rattle.rule_check.proofs.Passing.{some_is}

-- what goes on as another step does
pub steps_like : (R : ℕ) (new : FitState) (ls : List Line) (f g : Walk → Answer) (r : Option Rest) → ((go : Walk) → f go ≡ g go) → Steps R new ls g r → Steps R new ls f r
steps_like R new ls f g None e h = λ go. e go ∙ h go
steps_like R new ls f g (Some r) e h = record { next = h.next; is = h.is; on = λ go. e go ∙ h.on go }

-- a value that is there, or not
pub some_there : {A : Type 0} (o : Option A) (x : A) (ls : List Line) (k : A → Answer) → o ≡ Some x → with_some o ls k ≡ k x
unfolding with_some
some_there None x ls k e = absurd (let o : ⊥ = cc e in o)
some_there (Some y) x ls k e = ap k (some_is y x e)

pub some_not : {A : Type 0} (o : Option A) (ls : List Line) (k : A → Answer) → o ≡ None → with_some o ls k ≡ Unmet ls
unfolding with_some
some_not None ls k e = refl
some_not (Some y) ls k e = absurd (let o : ⊥ = cc e in o)

pub some_fails : {A : Type 0} (o : Option A) (ls : List Line) (k : A → Answer) → ((x : A) → k x ≡ Unmet ls) → with_some o ls k ≡ Unmet ls
unfolding with_some
some_fails None ls k h = refl
some_fails (Some x) ls k h = h x

-- a test
pub need_true : (b : Bool) (ls : List Line) (a : Answer) → b ≡ true → need b ls a ≡ a
unfolding need
need_true true ls a e = refl
need_true false ls a e = absurd (false≢true e)

pub need_false : (b : Bool) (ls : List Line) (a : Answer) → b ≡ false → need b ls a ≡ Unmet ls
unfolding need
need_false true ls a e = absurd (true≢false e)
need_false false ls a e = refl

-- a step of the check, behind which all fails
pub ok_fails : {A : Type 0} (r : Result A Refusal) (ls : List Line) (k : A → Answer) → ((x : A) → k x ≡ Unmet ls) → with_ok r ls k ≡ Unmet ls
unfolding with_ok
ok_fails (Ok x) ls k h = h x
ok_fails (Err e) ls k h = refl

-- whose value is not looked at
pub ok_needs : {A : Type 0} (r : Result A Refusal) (b : Bool) (ls : List Line) (a : Answer) → with_ok r ls (λ _. need b ls a) ≡ need (passes r && b) ls a
unfolding with_ok need
ok_needs (Ok x) b ls a = refl
ok_needs (Err e) b ls a = refl

-- ---- two values

pub pair_not : (o q : Option Info) (ls : List Line) (k : Info → Info → Answer) → None ≡ cons_some o (cons_some q (Some [])) → with_some o ls (λ x. with_some q ls (λ y. k x y)) ≡ Unmet ls
unfolding with_some
pair_not None q ls k e = refl
pair_not (Some x) None ls k e = refl
pair_not (Some x) (Some y) ls k e = absurd (let o : ⊥ = cc e in o)

pub record Pair (o q : Option Info) (is : List Info) : Type 0 where
  pub left : Info
  pub right : Info
  pub are : is ≡ left ∷ right ∷ []
  pub on : (ls : List Line) (k : Info → Info → Answer) → with_some o ls (λ x. with_some q ls (λ y. k x y)) ≡ k left right

pub pair_there : (o q : Option Info) (is : List Info) → Some is ≡ cons_some o (cons_some q (Some [])) → Pair o q is
unfolding with_some
pair_there None q is e = absurd (let o : ⊥ = cc e in o)
pair_there (Some x) None is e = absurd (let o : ⊥ = cc e in o)
pair_there (Some x) (Some y) is e = record { left = x; right = y; are = some_is is (x ∷ y ∷ []) e; on = λ ls k. refl }

-- ---- tests of a call: name, words, targets, shapes, order and count, behind the check's step

abbrev six : Bool → Bool → Bool → Bool → Bool → Bool → Bool
six a b c d e f = a && b && c && d && e && f

pub not_held : (p a b c d e f : Bool) → (a && b) ≡ false → false ≡ (p && six a b c d e f)
not_held false a b c d e f h = refl
not_held true false b c d e f h = refl
not_held true true false c d e f h = refl
not_held true true true c d e f h = absurd (true≢false h)

pub not_ordered : (p a b c d e f : Bool) → e ≡ false → false ≡ (p && six a b c d e f)
not_ordered false a b c d e f h = refl
not_ordered true false b c d e f h = refl
not_ordered true true false c d e f h = refl
not_ordered true true true false d e f h = refl
not_ordered true true true true false e f h = refl
not_ordered true true true true true false f h = refl
not_ordered true true true true true true f h = absurd (true≢false h)

pub not_passed : (p a b c d e f : Bool) → p ≡ false → false ≡ (p && six a b c d e f)
not_passed false a b c d e f h = refl
not_passed true a b c d e f h = absurd (true≢false h)

pub all_passed : (p a b c d e f : Bool) → p ≡ true → (a && b) ≡ true → e ≡ true → (c && (d && f)) ≡ (p && six a b c d e f)
all_passed false a b c d e f h i j = absurd (false≢true h)
all_passed true false b c d e f h i j = absurd (false≢true i)
all_passed true true false c d e f h i j = absurd (false≢true i)
all_passed true true true false d e f h i j = refl
all_passed true true true true false e f h i j = refl
all_passed true true true true true false f h i j = absurd (false≢true j)
all_passed true true true true true true f h i j = refl

-- the first five of a call of a procedure
abbrev five : Bool → Bool → Bool → Bool → Bool → Bool
five a b c d e = a && b && c && d && e

pub not_met : (p a b c d e f : Bool) → five a b c d e ≡ false → false ≡ (p && six a b c d e f)
not_met false a b c d e f h = refl
not_met true false b c d e f h = refl
not_met true true false c d e f h = refl
not_met true true true false d e f h = refl
not_met true true true true false e f h = refl
not_met true true true true true false f h = refl
not_met true true true true true true f h = absurd (true≢false h)

pub all_met : (p a b c d e f : Bool) → five a b c d e ≡ true → (p && f) ≡ (p && six a b c d e f)
all_met false a b c d e f h = refl
all_met true false b c d e f h = absurd (false≢true h)
all_met true true false c d e f h = absurd (false≢true h)
all_met true true true false d e f h = absurd (false≢true h)
all_met true true true true false e f h = absurd (false≢true h)
all_met true true true true true false f h = absurd (false≢true h)
all_met true true true true true true f h = refl

-- of which these follow
pub record FiveOf (a b c d e : Bool) : Type 0 where
  pub third : c ≡ true
  pub fourth : d ≡ true
  pub fifth : e ≡ true

pub five_of : (a b c d e : Bool) → five a b c d e ≡ true → FiveOf a b c d e
five_of false b c d e h = absurd (false≢true h)
five_of true false c d e h = absurd (false≢true h)
five_of true true false d e h = absurd (false≢true h)
five_of true true true false e h = absurd (false≢true h)
five_of true true true true false h = absurd (false≢true h)
five_of true true true true true h = record { third = refl; fourth = refl; fifth = refl }

-- ---- behind a step of the check

pub end_true : {A : Type 0} (r : Result A Refusal) (b t : Bool) (ls : List Line) (a : Answer) (k : A → Answer) → ((x : A) → k x ≡ need t ls a) → b ≡ (passes r && t) → b ≡ true → with_ok r ls k ≡ a
unfolding with_ok
end_true (Ok x) b t ls a k h e f = h x ∙ need_true t ls a (sym e ∙ f)
end_true (Err z) b t ls a k h e f = absurd (false≢true (sym e ∙ f))

pub end_false : {A : Type 0} (r : Result A Refusal) (b t : Bool) (ls : List Line) (a : Answer) (k : A → Answer) → ((x : A) → k x ≡ need t ls a) → b ≡ (passes r && t) → b ≡ false → with_ok r ls k ≡ Unmet ls
unfolding with_ok
end_false (Ok x) b t ls a k h e f = h x ∙ need_false t ls a (sym e ∙ f)
end_false (Err z) b t ls a k h e f = refl

-- behind a step of the check that passes, whose value is not looked at, or that does not
pub ok_true : {A : Type 0} (r : Result A Refusal) (ls : List Line) (a : Answer) (k : A → Answer) → ((x : A) → k x ≡ a) → true ≡ passes r → with_ok r ls k ≡ a
unfolding with_ok
ok_true (Ok x) ls a k h e = h x
ok_true (Err z) ls a k h e = absurd (true≢false e)

pub ok_false : {A : Type 0} (r : Result A Refusal) (ls : List Line) (k : A → Answer) → false ≡ passes r → with_ok r ls k ≡ Unmet ls
unfolding with_ok
ok_false (Ok x) ls k e = absurd (false≢true e)
ok_false (Err z) ls k e = refl
