-- Why `par` and `split` are refused before their blocks, by variables.
use Rattle.std.specs.Prelude.{◌≡◌, ℕ, Bool, true, false, List, [], ◌∷◌, ◌++◌, Option, Some, None, Ok, codes}
use Rattle.nres_core.specs.declared.place.Place.{Place}
use Rattle.nres_core.specs.declared.refusal.Refusal.{Refusal}
use Rattle.nres_core.specs.declared.refusal.Why.{Why}
use Rattle.ownership.specs.Faults.{or_next, unless_refused}
use Rattle.ownership.specs.declared.entry.Fault.{Fault}
use Rattle.ownership.specs.declared.entry.Fault.TheVariants as f
use Rattle.rule_check.specs.Context.{Spot, is_among, all_go, first_gone, first_kept, first_missed, spot_at}
use Rattle.rule_check.specs.Steps.{Book, is_list, par_sure, split_sure, refused}

abbrev pub par_fault : List Spot → List ℕ → List ℕ → Option Fault
par_fault ss us vs = or_next f.Gone (first_missed (us ++ vs) ss) None

-- what is no list cannot be divided
abbrev pub if_list : Bool → Option Fault → Option Fault
if_list true next = next
if_list false next = Some f.Missing

-- in this order: Gone, Missing, Held
abbrev pub list_fault : Spot → Option Fault
list_fault s = or_next f.Gone (first_gone (s ∷ [])) (if_list (is_list s.rep) (or_next f.Held (first_kept (s ∷ [])) None))

abbrev pub or_then : Option Fault → Option Fault → Option Fault
or_then (Some fault) next = Some fault
or_then None next = next

abbrev pub split_fault : List Spot → ℕ → List ℕ → List ℕ → Option Fault
split_fault ss list us vs = or_then (list_fault (spot_at ss list)) (par_fault ss us vs)

abbrev pub ParRefused : Type 0
ParRefused = (book : Book) (ss : List Spot) (us vs : List ℕ) (refuse : Why → Refusal) → par_sure book ss us vs refuse ≡ unless_refused book.names refuse (par_fault ss us vs) (Ok ss)

-- where the blocks' other variables are not the list
abbrev pub SplitRefused : Type 0
SplitRefused = (book : Book) (ss : List Spot) (p : Place) (list : ℕ) (us vs : List ℕ) → is_among list us ≡ false → is_among list vs ≡ false
    → split_sure book ss p list us vs ≡ unless_refused book.names (refused p (codes "split") ((spot_at ss list).rep ∷ [])) (split_fault ss list us vs) (Ok (all_go (list ∷ []) ss))
