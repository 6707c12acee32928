-- The first procedure of each name.
use Rattle.std.specs.Prelude.{◌≡◌, ℕ, List}
use Rattle.std.specs.Borrow.{Bor}
use Rattle.indexmap.specs.IndexMap.{IndexMap, get}
use Rattle.nres_core.specs.Tree.{same_name}
use Rattle.nres_rules.specs.Types.{profiles, profile_at}
use Rattle.nres_core.specs.declared.tree.Fun.{Fun}
use Rattle.nres_types.specs.Procedures.{known_profile, seen_profile}
use Rattle.nres_types.specs.declared.profiles.Profile.{Profile}

abbrev pub IsFirst : {S : Type 0} → List Fun → IndexMap (Bor (List ℕ)) Profile S → Type 0
IsFirst fs m = (q : Bor (List ℕ)) → seen_profile (get (λ x y. same_name x.now y.now) m q) ≡ known_profile (profile_at (profiles fs) q.now)
