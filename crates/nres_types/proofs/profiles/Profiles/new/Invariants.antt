use Rattle.std.proofs.Common.{◌≡◌, drop, Bor, List, ℕ}
use Rattle.indexmap.specs.IndexMap.{get}
use Rattle.nres_core.specs.Tree.{same_name}
use Rattle.nres_rules.specs.Types.{profiles, profile_at}
use Rattle.nres_types.specs.Procedures.{seen_profile, known_profile, or_else}
use Rattle.nres_types.proofs.profiles.Profiles.new.Given as goal

abbrev pub invariant-loop-fun : goal.invariant-loop-fun
invariant-loop-fun l = (q : Bor (List ℕ)) → or_else (seen_profile (get (λ x y. same_name x.now y.now) l.first q)) (known_profile (profile_at (profiles (drop l.fun-index l.funs)) q.now)) ≡ known_profile (profile_at (profiles l.funs) q.now)
