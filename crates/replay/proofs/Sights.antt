-- What the leaves tell.
use Rattle.std.proofs.Common.{◌≡◌, true, false, List, [], ◌∷◌, refl}
use Rattle.std.specs.Prelude.{None}
use Rattle.target_meaning.specs.declared.view.LeafView.{LeafView}
use Rattle.target_meaning.specs.declared.view.Next.{Next}
use Rattle.target_meaning.specs.declared.view.Next.TheVariants.{Read, Write, Free, Stuck, Call, Fork, Other}
use Rattle.replay.specs.Kept.{can_race}
use Rattle.replay.specs.Sights.{rival}

-- a leaf that is to touch and to free nothing races with none
pub no_rival : (n : Next) (vs : List LeafView) → can_race n ≡ false → rival n vs ≡ None
no_rival (Read b i) vs e = absurd (let f : true ≡ false = e in cc)
no_rival (Write b i) vs e = absurd (let f : true ≡ false = e in cc)
no_rival (Free b) vs e = absurd (let f : true ≡ false = e in cc)
no_rival n [] e = refl
no_rival (Stuck r) (v ∷ vs) e = no_rival (Stuck r) vs e
no_rival (Call m) (v ∷ vs) e = no_rival (Call m) vs e
no_rival Fork (v ∷ vs) e = no_rival Fork vs e
no_rival Other (v ∷ vs) e = no_rival Other vs e
