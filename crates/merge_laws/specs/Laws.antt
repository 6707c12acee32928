-- What a side of `if` or `either` leaves, by the places that went in it.
use Rattle.std.specs.Prelude.{◌≡◌, ℕ, List, [], length, Result, Ok, codes}
use Rattle.nres_core.specs.FlatTree.{Binds, Ending}
use Rattle.nres_core.specs.declared.place.Place.{Place}
use Rattle.nres_core.specs.declared.refusal.Refusal.{Refusal}
use Rattle.nres_core.specs.declared.refusal.Why.TheVariants as w
use Rattle.context_laws.specs.Stacks.{falls_at}
use Rattle.rule_check.specs.Check.{check}
use Rattle.rule_check.specs.Context.{Spot, Fact, Ctx, outer, all_fall, first_unmet, first_other}
use Rattle.rule_check.specs.Steps.{Book, Moved, name_at, refused, unless, begun, ended, no_list, met, taken}

-- these are the places of the entries from before a block that went in it
abbrev pub WentAt : List ℕ → Ctx → Moved → Type 0
WentAt is x m = falls_at is x.spots ≡ all_fall x.spots (outer (length x.spots) m.spots)

-- a block that passed, from the entries of x on, with facts besides
pub record Passed (book : Book) (x : Ctx) (b : Binds) (e : Ending) (m : Moved) : Type 0 where
  pub facts : List Fact
  pub after : Ctx
  pub binds : check book b (begun x x.spots facts) ≡ Ok after
  pub ending : ended book (length x.spots) no_list after e ≡ Ok m

-- where two sides meet, by places
abbrev pub met_at : Book → Ctx → Place → List ℕ → List ℕ → Moved → Moved → Result Moved Refusal
met_at book x p is js m1 m2 =
    unless (first_unmet (falls_at is x.spots) (falls_at js x.spots)) (λ v. refused p (codes "if") [] (w.Meet (name_at book.names v)))
    (unless (first_other 1 m1.shapes m2.shapes) (λ k. refused p (codes "if") [] (w.Result k))
    (Ok (record { shapes = m1.shapes; spots = falls_at js (falls_at is x.spots) })))

abbrev pub SidesMeet : Type 0
SidesMeet = (book : Book) (x : Ctx) (p : Place) (l r : Binds) (le re : Ending) (m1 m2 : Moved) (is js : List ℕ)
    → Passed book x l le m1 → Passed book x r re m2 → WentAt is x m1 → WentAt js x m2 → met book x p m1 m2 ≡ met_at book x p is js m1 m2

abbrev pub SideTaken : Type 0
SideTaken = (x : Ctx) (m : Moved) (is : List ℕ) → WentAt is x m → taken x m ≡ falls_at is x.spots

abbrev pub BlockLeaves : Type 0
BlockLeaves = (book : Book) (x : Ctx) (b : Binds) (e : Ending) (m : Moved) (is : List ℕ) → Passed book x b e m → WentAt is x m → outer (length x.spots) m.spots ≡ falls_at is x.spots
