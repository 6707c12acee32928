-- What procedures take and give.
use Rattle.std.specs.Prelude.{List, Option, Some, None}
use Rattle.std.specs.Borrow.{Bor}
use Rattle.nres_rules.specs.Types as t
use Rattle.nres_rules.specs.Types.{some_types}
use Rattle.nres_core.specs.declared.ty.Ty.{Ty}
use Rattle.nres_types.specs.declared.profiles.Profile.{Profile}

abbrev pub profile_view : Profile → List Ty × List (Option Ty)
profile_view p = (p.takes.items, p.gives.items)

abbrev pub known_profile : Option t.Profile → Option (List Ty × List (Option Ty))
known_profile None = None
known_profile (Some p) = Some (p.takes, some_types p.gives)

abbrev pub seen_profile : Option Profile → Option (List Ty × List (Option Ty))
seen_profile None = None
seen_profile (Some p) = Some (profile_view p)

abbrev pub shown_profile : Option (Bor Profile) → Option (List Ty × List (Option Ty))
shown_profile None = None
shown_profile (Some p) = Some (profile_view p.now)

-- the first that is there
abbrev pub or_else : {A : Type 0} → Option A → Option A → Option A
or_else None b = b
or_else (Some a) b = Some a
