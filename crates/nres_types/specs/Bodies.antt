-- What is found of blocks and bodies.
use Rattle.std.specs.Prelude.{◌≡◌, List, [], ◌∷◌, ◌++◌, Option, Some, None, length}
use Rattle.nres_core.specs.Tree.{Steps, Exps, Word}
use Rattle.nres_rules.specs.Types.{Wrong, Heads, Names, BlkFound, BodFound, Profile, least, counted, all_want_known, first_is_list, twice, steps_type, types_of, tail_of, block_gives}
use Rattle.nres_core.specs.declared.place.Named.{Named}
use Rattle.nres_core.specs.declared.place.Place.{Place}
use Rattle.nres_core.specs.declared.ty.Ty.{Ty}
use Rattle.nres_core.specs.declared.ty.Ty.TheVariants as ty
use Rattle.nres_types.specs.Findings.{Told, joined, blk_told, bod_told}
use Rattle.nres_types.specs.declared.gives.Gives.{Gives}
use Rattle.nres_types.specs.declared.gives.Gives.TheVariants as g

abbrev pub gives_of : Gives → Option (List (Option Ty))
gives_of g.Unknown = None
gives_of (g.Of us) = Some us.now
gives_of (g.Own us) = Some us.items

-- a body was typed so, and this was told of it
pub record IsBod (gives : Option (List (Option Ty))) (old new : Told) (x : BodFound) : Type 0 where
  pub gives_are : gives ≡ x.gives
  pub told : new ≡ joined old (bod_told x)

-- a block was typed so
pub record IsBlk (heads : Heads) (place : Place) (old new : Told) (x : BlkFound) : Type 0 where
  pub heads_are : heads ≡ x.heads
  pub place_is : place ≡ x.place
  pub told : new ≡ joined old (blk_told x)

-- names were bound since
pub record IsUnder (s t : Names) : Type 0 where
  pub added : Names
  pub is : t ≡ added ++ s

-- a step was typed, and the rest remains
pub record IsStep (procs : List Profile) (step : Steps Word → Steps Word) (old new : Told) (s t : Names) : Type 0 where
  pub heads_are : (rest : Steps Word) (p : Place) (es : Exps Word) → (steps_type procs (step rest) p es s).heads ≡ (steps_type procs rest p es t).heads
  pub place_is : (rest : Steps Word) (p : Place) (es : Exps Word) → (steps_type procs (step rest) p es s).place ≡ (steps_type procs rest p es t).place
  pub told : (rest : Steps Word) (p : Place) (es : Exps Word) → joined old (blk_told (steps_type procs (step rest) p es s)) ≡ joined new (blk_told (steps_type procs rest p es t))
  pub under : IsUnder s t

-- of all these steps, the rest remain
pub record StepsRemain (start now : Told) (first scope : Names) (all rest : BlkFound) : Type 0 where
  pub heads_are : all.heads ≡ rest.heads
  pub place_is : all.place ≡ rest.place
  pub told : joined start (blk_told all) ≡ joined now (blk_told rest)
  pub under : IsUnder first scope

-- results fit these types: `block_gives`, of the parts of a block
abbrev pub results_fit : Place → Heads → List (Option Ty) → Option Wrong
results_fit p hs us = least (counted p (length us) (length hs)) (all_want_known hs us)

-- a loop's pattern and results fit what it begins with
abbrev pub turns_fit : Place → List Named → List (Option Ty) → Place → Heads → Option Wrong
turns_fit q xs us p hs = least (least (twice [] xs) (counted q (length us) (length xs))) (results_fit p hs us)

-- a place, where types do not depend on it
abbrev pub nowhere : Place
nowhere = record { line = 0; column = 0 }

-- what is told of a block on a part of a list, with the name of that part
abbrev pub half_told : BlkFound → Told
half_told x = record { refusal = least x.refusal (first_is_list x.heads); binders = Some ty.List ∷ x.binders; words = x.words }

pub record IsHalf (heads : Heads) (old new : Told) (x : BlkFound) : Type 0 where
  pub heads_are : heads ≡ x.heads
  pub told : new ≡ joined old (half_told x)

-- what two blocks on the parts of a list give
abbrev pub halves_types : Heads → Heads → List (Option Ty)
halves_types hs ks = Some ty.List ∷ (tail_of (types_of hs) ++ tail_of (types_of ks))

-- what is told of the second of two blocks that give the same types
abbrev pub side_told : Heads → BlkFound → Told
side_told hs x = record { refusal = least x.refusal (block_gives x (types_of hs)); binders = x.binders; words = x.words }

-- these types are given, and this was told of a part
pub record IsGiven (gives : Option (List (Option Ty))) (us : List (Option Ty)) (old new part : Told) : Type 0 where
  pub gives_are : gives ≡ Some us
  pub told : new ≡ joined old part
