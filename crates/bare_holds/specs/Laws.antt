-- No step of the rule check looks at the hold of what is no container, and what a row by register is.
use Rattle.std.specs.Prelude.{◌≡◌, ℕ, List, [], ◌∷◌, Option, Some}
use Rattle.target_code.specs.declared.tree.Rep.{Rep}
use Rattle.nres_core.specs.FlatTree.{Ending}
use Rattle.nres_core.specs.declared.flat.Arg.{Arg}
use Rattle.nres_core.specs.declared.op.Op.{Op}
use Rattle.nres_core.specs.declared.place.Place.{Place}
use Rattle.nres_core.specs.declared.refusal.Refusal.{Refusal}
use Rattle.nres_core.specs.declared.refusal.Why.{Why}
use Rattle.nres_core.specs.declared.row.Kind.{Kind}
use Rattle.nres_core.specs.declared.row.Kind.TheVariants as k
use Rattle.nres_core.specs.declared.row.RowCode.TheVariants as c
use Rattle.bare_holds.specs.Bare.{bare_holds, bare_moved, on_passed}
use Rattle.fits.specs.Follow.{Line, Answer, with_ok}
use Rattle.rule_check.specs.Context.{Spot, Ctx, Shape}
use Rattle.rule_check.specs.Steps.{Book, apply_sure, call_sure, ended, started, par_sure, split_sure}
use Rattle.rule_check.specs.Table.{Rule, row_for, keeps}

-- contexts that differ in such holds alone
pub record SameBare (x y : Ctx) : Type 0 where
  pub spots : bare_holds x.spots ≡ bare_holds y.spots
  pub facts : x.facts ≡ y.facts

-- operations and calls get the same answer
abbrev pub AppliesSame : Type 0
AppliesSame = (book : Book) (x y : Ctx) (p : Place) (op : Op) (made : Option Rep) (us : List Arg) → SameBare x y → apply_sure book x p op made us ≡ apply_sure book y p op made us

abbrev pub CallsSame : Type 0
CallsSame = (book : Book) (x y : Ctx) (p : Place) (g : ℕ) (us : List Arg) → SameBare x y → call_sure book x p g us ≡ call_sure book y p g us

-- values that move out, and lists that go over to branches, leave entries that differ in such holds alone
abbrev pub EndsSame : Type 0
EndsSame = (book : Book) (n : ℕ) (astray : List Shape → Option ℕ) (x y : Ctx) (e : Ending) → SameBare x y → on_passed bare_moved (ended book n astray x e) ≡ on_passed bare_moved (ended book n astray y e)

abbrev pub StartsSame : Type 0
StartsSame = (book : Book) (x y : Ctx) (p : Place) (us : List Arg) → SameBare x y → on_passed bare_moved (started book x p us) ≡ on_passed bare_moved (started book y p us)

abbrev pub ParsSame : Type 0
ParsSame = (book : Book) (ss ts : List Spot) (us vs : List ℕ) (refuse : Why → Refusal) → bare_holds ss ≡ bare_holds ts → on_passed bare_holds (par_sure book ss us vs refuse) ≡ on_passed bare_holds (par_sure book ts us vs refuse)

abbrev pub SplitsSame : Type 0
SplitsSame = (book : Book) (ss ts : List Spot) (p : Place) (list : ℕ) (us vs : List ℕ) → bare_holds ss ≡ bare_holds ts → on_passed bare_holds (split_sure book ss p list us vs) ≡ on_passed bare_holds (split_sure book ts p list us vs)

-- where a tree is followed and the check's step is asked for at a block's end, what follows is the same
abbrev pub EndsAsked : Type 0
EndsAsked = (book : Book) (n : ℕ) (astray : List Shape → Option ℕ) (x y : Ctx) (e : Ending) (ls : List Line) (a : Answer) → SameBare x y → with_ok (ended book n astray x e) ls (λ _. a) ≡ with_ok (ended book n astray y e) ls (λ _. a)

-- ---- rows by register

-- it keeps its one argument and gives one number
pub record IsRegister (t : Rule) : Type 0 where
  pub kind : Kind
  pub takes : t.takes ≡ keeps kind ∷ []
  pub gives : t.gives ≡ k.Word ∷ []

abbrev pub RegistersKeep : Type 0
RegistersKeep = (op : Op) (xs : List Rep) (made : Option Rep) (t : Rule) (j : ℕ) → row_for op xs made ≡ Some t → t.code ≡ c.Register j → IsRegister t
