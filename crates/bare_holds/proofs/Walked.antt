-- Where a step of the rule check is asked while a tree is followed.
use Rattle.std.proofs.Common.{◌≡◌, ℕ, List, refl, sym, ap, ◌∙◌}
use Rattle.std.specs.Prelude.{Option, Result, Ok, Err}
use Rattle.target_code.specs.declared.tree.Rep.{Rep}
use Rattle.nres_core.specs.FlatTree.{Ending}
use Rattle.nres_core.specs.declared.flat.Arg.{Arg}
use Rattle.nres_core.specs.declared.op.Op.{Op}
use Rattle.nres_core.specs.declared.place.Place.{Place}
use Rattle.nres_core.specs.declared.refusal.Refusal.{Refusal}
use Rattle.nres_core.specs.declared.refusal.Why.{Why}
use Rattle.bare_holds.proofs.StepsBare.{applies_same, calls_same, ends_same, starts_same, pars_same, splits_same}
use Rattle.bare_holds.specs.Bare.{bare_holds, bare_moved, on_passed, passes}
use Rattle.bare_holds.specs.Laws.{SameBare}
use Rattle.fits.specs.Follow.{Line, Answer, need, with_ok}
use Rattle.rule_check.specs.Context.{Spot, Ctx, Shape}
use Rattle.rule_check.specs.Steps.{Book, apply_sure, call_sure, ended, started, par_sure, split_sure}

-- a step's value is not looked at
pub asks : {A : Type 0} (r : Result A Refusal) (ls : List Line) (a : Answer) → with_ok r ls (λ _. a) ≡ need (passes r) ls a
unfolding with_ok need
asks (Ok x) ls a = refl
asks (Err e) ls a = refl

pub passed_same : {A B : Type 0} (f : A → B) (r : Result A Refusal) → passes (on_passed f r) ≡ passes r
passed_same f (Ok x) = refl
passed_same f (Err e) = refl

pub asks_passed : {A B : Type 0} (f : A → B) (r q : Result A Refusal) (ls : List Line) (a : Answer) → on_passed f r ≡ on_passed f q → with_ok r ls (λ _. a) ≡ with_ok q ls (λ _. a)
asks_passed f r q ls a e =
    asks r ls a ∙ (λ i. need (sym (passed_same f r) i) ls a) ∙ (λ i. need (passes (e i)) ls a) ∙ (λ i. need (passed_same f q i) ls a) ∙ sym (asks q ls a)

-- ---- step by step

pub asks_apply : (book : Book) (x y : Ctx) (p : Place) (op : Op) (made : Option Rep) (us : List Arg) (ls : List Line) (a : Answer) → SameBare x y → with_ok (apply_sure book x p op made us) ls (λ _. a) ≡ with_ok (apply_sure book y p op made us) ls (λ _. a)
asks_apply book x y p op made us ls a h = ap (λ r. with_ok r ls (λ _. a)) (applies_same book x y p op made us h)

pub asks_call : (book : Book) (x y : Ctx) (p : Place) (g : ℕ) (us : List Arg) (ls : List Line) (a : Answer) → SameBare x y → with_ok (call_sure book x p g us) ls (λ _. a) ≡ with_ok (call_sure book y p g us) ls (λ _. a)
asks_call book x y p g us ls a h = ap (λ r. with_ok r ls (λ _. a)) (calls_same book x y p g us h)

pub asks_end : (book : Book) (n : ℕ) (astray : List Shape → Option ℕ) (x y : Ctx) (e : Ending) (ls : List Line) (a : Answer) → SameBare x y → with_ok (ended book n astray x e) ls (λ _. a) ≡ with_ok (ended book n astray y e) ls (λ _. a)
asks_end book n astray x y e ls a h = asks_passed bare_moved (ended book n astray x e) (ended book n astray y e) ls a (ends_same book n astray x y e h)

pub asks_start : (book : Book) (x y : Ctx) (p : Place) (us : List Arg) (ls : List Line) (a : Answer) → SameBare x y → with_ok (started book x p us) ls (λ _. a) ≡ with_ok (started book y p us) ls (λ _. a)
asks_start book x y p us ls a h = asks_passed bare_moved (started book x p us) (started book y p us) ls a (starts_same book x y p us h)

pub asks_par : (book : Book) (ss ts : List Spot) (us vs : List ℕ) (refuse : Why → Refusal) (ls : List Line) (a : Answer) → bare_holds ss ≡ bare_holds ts → with_ok (par_sure book ss us vs refuse) ls (λ _. a) ≡ with_ok (par_sure book ts us vs refuse) ls (λ _. a)
asks_par book ss ts us vs refuse ls a h = asks_passed bare_holds (par_sure book ss us vs refuse) (par_sure book ts us vs refuse) ls a (pars_same book ss ts us vs refuse h)

pub asks_split : (book : Book) (ss ts : List Spot) (p : Place) (list : ℕ) (us vs : List ℕ) (ls : List Line) (a : Answer) → bare_holds ss ≡ bare_holds ts → with_ok (split_sure book ss p list us vs) ls (λ _. a) ≡ with_ok (split_sure book ts p list us vs) ls (λ _. a)
asks_split book ss ts p list us vs ls a h = asks_passed bare_holds (split_sure book ss p list us vs) (split_sure book ts p list us vs) ls a (splits_same book ss ts p list us vs h)
