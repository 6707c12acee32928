-- A typed flat tree's procedures give as many slices as they take over.
use Rattle.std.specs.Prelude.{◌≡◌, ℕ, nat_eq, Bool, true, false, ◌&&◌, not, length, List, [], ◌∷◌, Option, Some, None}
use Rattle.std.proofs.Common.{refl}
use Rattle.std.proofs.lemmas.Bool.{and_parts, eqb-true}
use Rattle.nres_core.specs.Vocabulary.{is_free_name}
use Rattle.nres_core.specs.FlatTree.{FlatProc, flat_whole_of}
use Rattle.nres_core.specs.declared.flat.Flat.{Flat}
use Rattle.nres_rules.specs.FlatTyped.{profiles, entered, slices_given, slices_taken, Profile, all_entered, variables}
use Rattle.nres_rules.specs.Typed.{when, and_then}
use Rattle.nres_rules.specs.Types.{is_among}
use Rattle.fits_sound.specs.Balanced.{AreBalanced}
use Rattle.fits_fewer.specs.FitsFewer.{TypedAreBalanced}

then_some : {A B : Type 0} (o : Option A) (f : A → Option B) (b : B) → and_then o f ≡ Some b → (a : A) × (o ≡ Some a) × (f a ≡ Some b)
then_some None f b e = absurd (cc e)
then_some (Some a) f b e = (a, refl, e)

when_some : {A : Type 0} (c : Bool) (x y : A) → when c x ≡ Some y → c ≡ true
when_some true x y e = refl
when_some false x y e = absurd (cc e)

all_balanced : (profs : List Profile) (seen : List (List ℕ)) (ps : List FlatProc) (k n : ℕ) → all_entered profs seen ps k ≡ Some n → AreBalanced ps
all_balanced profs seen [] k n e = tt
all_balanced profs seen (p ∷ ps) k n e =
    let enter : ℕ → Option ℕ = λ j. entered true profs p.params p.shown p.body j in
    let rest : ℕ → Option ℕ = λ j. all_entered profs (p.name ∷ seen) ps j in
    let test : Bool = is_free_name p.name && (not (is_among seen p.name) && nat_eq (slices_taken p.params) (slices_given p.shown)) in
    let a = then_some {A = ℕ} {B = ℕ} (when test k) (λ j. and_then (enter j) rest) n e in
    let b = then_some {A = ℕ} {B = ℕ} (enter a.0) rest n a.2 in
    let w = and_parts (is_free_name p.name) (not (is_among seen p.name) && nat_eq (slices_taken p.params) (slices_given p.shown)) (when_some {A = ℕ} test k a.0 a.1) in
    let v = and_parts (not (is_among seen p.name)) (nat_eq (slices_taken p.params) (slices_given p.shown)) w.1 in
    (eqb-true (slices_taken p.params) (slices_given p.shown) v.1, all_balanced profs (p.name ∷ seen) ps b.0 n b.2)

pub typed_balanced : TypedAreBalanced
typed_balanced f t =
    let w = flat_whole_of f in
    let a = then_some (entered false (profiles w.procs) w.params w.shown w.body 0) (λ k. all_entered (profiles w.procs) [] w.procs k) (length w.names) t.0 in
    all_balanced (profiles w.procs) [] w.procs a.0 (length w.names) a.2
