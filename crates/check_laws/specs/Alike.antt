-- Contexts that the rule check cannot tell apart.
use Rattle.std.specs.Prelude.{◌≡◌, ℕ, List, Result, Ok, Err}
use Rattle.nres_core.specs.FlatTree.{Binds}
use Rattle.nres_core.specs.declared.flat.Arg.{Arg}
use Rattle.nres_core.specs.declared.place.Place.{Place}
use Rattle.nres_core.specs.declared.refusal.Refusal.{Refusal}
use Rattle.rule_check.specs.Check.{check}
use Rattle.rule_check.specs.Context.{Fact, Def, Ctx}
use Rattle.rule_check.specs.Facts.{knows, told, defs_behind}
use Rattle.rule_check.specs.Steps.{Book}

-- facts that tell the same of each value
abbrev pub KnowAlike : List Fact → List Fact → Type 0
KnowAlike es fs = (u : Arg) (n : ℕ) → knows es u n ≡ knows fs u n

-- calculations that tell the same of each condition behind each place
abbrev pub TellAlike : List Def → List Def → Type 0
TellAlike ds es = (p : Place) (vs : List ℕ) → KnowAlike (told (defs_behind p ds) vs) (told (defs_behind p es) vs)

pub record Alike (x y : Ctx) : Type 0 where
  pub spots : x.spots ≡ y.spots
  pub facts : KnowAlike x.facts y.facts
  pub defs : TellAlike x.defs y.defs

-- one refusal, or contexts that are alike
abbrev pub Agree : Result Ctx Refusal → Result Ctx Refusal → Type 0
Agree (Ok x) (Ok y) = Alike x y
Agree (Err e) (Err f) = e ≡ f
Agree _ _ = ⊥

abbrev pub AlikeChecks : Type 0
AlikeChecks = (book : Book) (b : Binds) (x y : Ctx) → Alike x y → Agree (check book b x) (check book b y)
