-- The images of values in representations, put into a store one behind the other.
use Rattle.std.specs.Prelude.{◌≡◌, ℕ, ◌+◌, ◌<◌, ◌⊎◌, List, [], ◌∷◌, ◌++◌, length, Option, Some, None, Result, Ok, Err}
use Rattle.nres_core.specs.declared.value.Value.{Value}
use Rattle.target_code.specs.declared.tree.InParam.{InParam}
use Rattle.target_code.specs.declared.tree.Rep.{Rep}
use Rattle.branch_exec.specs.Stores.{Kept, IsRefused}
use Rattle.store_blocks.specs.Blocks as blocks
use Rattle.relations.specs.Images as images
use Rattle.relations.specs.Images.{Image, named, placed}
use Rattle.image_laws.specs.Laws.{IsOfType, IsSmallValue, IsTooLarge}
use Rattle.run_inputs.specs.declared.place.Unplaced.{Unplaced}
use Rattle.run_inputs.specs.declared.place.Unplaced.TheVariants as unplaced

-- ---- values that fit

-- a value has the type of a representation, fewer than 2^32 elements, and no element or key that is too large for it
pub record Fits (r : Rep) (x : Value) : Type 0 where
  pub of_type : IsOfType r x
  pub small : IsSmallValue x
  pub inside : (y : ℕ) → IsTooLarge r x y → ⊥

-- so does each of these, and there is one for each input
abbrev pub AllFit : List InParam → List Value → Type 0
AllFit [] [] = Unit {0}
AllFit (i ∷ is) (x ∷ xs) = Fits i.rep x × AllFit is xs
AllFit _ _ = ⊥

-- ---- one image

-- a block, where there is one, was put under this name
abbrev pub IsIn : Option (List ℕ) → ℕ → Kept → Kept → Type 0
IsIn None b s t = t ≡ s
IsIn (Some ws) b s t = blocks.IsPut s t b ws

-- it did not fit: the number walked is `at`, and `at` + 1 + its length passes the capacity
abbrev pub IsOut : Option (List ℕ) → Kept → Kept → ℕ → ℕ → Type 0
IsOut None s t at len = ⊥
IsOut (Some ws) s t at len = IsRefused s t × (t.walked ≡ at) × (s.cap < at + 1 + length ws) × (len ≡ length ws)

-- the block of registers was put, and they came behind others with its name in the place of the first
pub record Joined (own : List ℕ) (block : Option (List ℕ)) (s t : Kept) (before after : List ℕ) : Type 0 where
  pub name : ℕ
  pub put : IsIn block name s t
  pub regs : after ≡ before ++ named name block own

abbrev pub IsPlacedAs : Result (Unit {0}) Unplaced → List ℕ → Option (List ℕ) → Kept → Kept → List ℕ → List ℕ → Type 0
IsPlacedAs (Ok u) own block s t before after = Joined own block s t before after
IsPlacedAs (Err (unplaced.Full at len)) own block s t before after = IsOut block s t at len
IsPlacedAs (Err unplaced.Memory) own block s t before after = Unit {0}

-- the same of an image
abbrev pub IsPlaced : Result (Unit {0}) Unplaced → Image → Kept → Kept → List ℕ → List ℕ → Type 0
IsPlaced result i s t before after = IsPlacedAs result i.regs i.block s t before after

-- so was the image of a value, or why it was not
abbrev pub IsPutAs : Result (Unit {0}) Unplaced → Rep → Value → Kept → Kept → List ℕ → List ℕ → Type 0
IsPutAs (Ok u) r x s t before after = (i : Image) × (images.image r x ≡ Some i) × Joined i.regs i.block s t before after
IsPutAs (Err (unplaced.Full at len)) r x s t before after = (i : Image) × (images.image r x ≡ Some i) × IsOut i.block s t at len
IsPutAs (Err unplaced.Memory) r x s t before after = Unit {0}

-- ---- all of them

-- the image of a value was put, and what follows holds of the store after it and of the registers behind its own
pub record First (r : Rep) (x : Value) (s : Kept) (regs : List ℕ) (Rest : Kept → List ℕ → Type 0) : Type 0 where
  pub image : Image
  pub is_image : images.image r x ≡ Some image
  pub name : ℕ
  pub between : Kept
  pub put : IsIn image.block name s between
  pub others : List ℕ
  pub regs_are : regs ≡ placed name image ++ others
  pub rest : Rest between others

-- the images of values were put one behind the other, and these are their registers
abbrev pub AllPut : List InParam → List Value → Kept → List ℕ → Kept → Type 0
AllPut [] [] s regs t = (t ≡ s) × (regs ≡ [])
AllPut (i ∷ is) (x ∷ xs) s regs t = First i.rep x s regs (λ m others. AllPut is xs m others t)
AllPut _ _ s regs t = ⊥

-- the image of a value has a block that does not fit, or it was put, and what follows holds of the store after it
pub record Stops (r : Rep) (x : Value) (s t : Kept) (at len : ℕ) (Rest : Kept → Type 0) : Type 0 where
  pub image : Image
  pub is_image : images.image r x ≡ Some image
  pub either : IsOut image.block s t at len ⊎ ((name : ℕ) × (between : Kept) × IsIn image.block name s between × Rest between)

-- one of the blocks did not fit, and those before it were put
abbrev pub StopsAt : List InParam → List Value → Kept → Kept → ℕ → ℕ → Type 0
StopsAt [] xs s t at len = ⊥
StopsAt (i ∷ is) [] s t at len = ⊥
StopsAt (i ∷ is) (x ∷ xs) s t at len = Stops i.rep x s t at len (λ m. StopsAt is xs m t at len)

abbrev pub ArePlaced : Result (List ℕ) Unplaced → List InParam → List Value → Kept → Kept → Type 0
ArePlaced (Ok regs) ins values s t = AllPut ins values s regs t
ArePlaced (Err (unplaced.Full at len)) ins values s t = StopsAt ins values s t at len
ArePlaced (Err unplaced.Memory) ins values s t = Unit {0}
