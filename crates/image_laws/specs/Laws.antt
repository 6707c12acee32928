-- What images and reading say of the layouts, as facts.
use Rattle.std.specs.Prelude.{◌≡◌, ◌↔◌, ℕ, ◌^◌, ◌<◌, ◌≤◌, Bool, true, List, [], ◌∷◌, length, Option, Some, None}
use Rattle.std.specs.FinMap as maps
use Rattle.containers.specs.Sets as sets
use Rattle.nres_core.specs.declared.value.Value.{Value}
use Rattle.nres_core.specs.declared.value.Value.TheVariants as v
use Rattle.target_code.specs.Reps.{width}
use Rattle.target_code.specs.declared.tree.Rep.{Rep}
use Rattle.target_code.specs.declared.tree.Rep.TheVariants as rep
use Rattle.layout_facts.specs.Footprints.{first_word}
use Rattle.relations.specs.Blocks.{AreWords}
use Rattle.relations.specs.Images.{Image, image, placed, held}
use Rattle.relations.specs.Represents.{Represents, IsSmall}
use Rattle.image_laws.specs.Reads.{reads}

-- ---- values as they are held: numbers are words, and containers have fewer than 2^32 elements

abbrev pub AreEntries : List (ℕ × ℕ) → Type 0
AreEntries [] = Unit {0}
AreEntries (e ∷ es) = ((e.0 < 2 ^ 64) × (e.1 < 2 ^ 64)) × AreEntries es

-- its numbers are words
abbrev pub IsOfWords : Value → Type 0
IsOfWords (v.Nat n) = n < 2 ^ 64
IsOfWords (v.Bool b) = Unit {0}
IsOfWords (v.List xs) = AreWords xs
IsOfWords (v.Set s) = AreWords (sets.items s)
IsOfWords (v.Map m) = AreEntries (maps.entries m)
IsOfWords (v.Bag h) = AreWords h.list

-- it has fewer than 2^32 elements
abbrev pub IsSmallValue : Value → Type 0
IsSmallValue (v.Nat n) = Unit {0}
IsSmallValue (v.Bool b) = Unit {0}
IsSmallValue (v.List xs) = IsSmall (length xs)
IsSmallValue (v.Set s) = IsSmall (sets.len s)
IsSmallValue (v.Map m) = IsSmall (maps.len m)
IsSmallValue (v.Bag h) = IsSmall (length h.list)

-- a representation is of the type of a value, and is no slice
abbrev pub IsOfType : Rep → Value → Type 0
IsOfType rep.Word (v.Nat n) = Unit {0}
IsOfType rep.Flag (v.Bool b) = Unit {0}
IsOfType rep.Array (v.List xs) = Unit {0}
IsOfType rep.Vec (v.List xs) = Unit {0}
IsOfType (rep.Bits u) (v.Set s) = Unit {0}
IsOfType rep.Hset (v.Set s) = Unit {0}
IsOfType (rep.Amap u) (v.Map m) = Unit {0}
IsOfType rep.Hmap (v.Map m) = Unit {0}
IsOfType rep.Heap (v.Bag h) = Unit {0}
IsOfType _ _ = ⊥

-- ---- images

-- the image of each value in each representation represents it, whatever the name of its block is
abbrev pub ImagesRepresent : Type 0
ImagesRepresent =
    (r : Rep) (x : Value) (i : Image) (b : ℕ) → IsOfWords x → IsSmallValue x → image r x ≡ Some i → b < 2 ^ 64 → Represents r x (placed b i) (held b i.block)

-- the least of the numbers that pass a test and are at least u
pub record IsLeastFrom (u : ℕ) (has : ℕ → Bool) (x : ℕ) : Type 0 where
  pub there : has x ≡ true
  pub above : u ≤ x
  pub least : (y : ℕ) → has y ≡ true → u ≤ y → x ≤ y

-- the least element or key that is too large for a representation with a bound
abbrev pub IsTooLarge : Rep → Value → ℕ → Type 0
IsTooLarge (rep.Bits u) (v.Set s) x = IsLeastFrom u (sets.contains s) x
IsTooLarge (rep.Amap u) (v.Map m) x = IsLeastFrom u (maps.contains_key m) x
IsTooLarge _ _ x = ⊥

-- a value of the representation's type has an image, or an element or key of it is too large, and not both
pub record HasImage (r : Rep) (x : Value) : Type 0 where
  pub one : image r x ≡ None → (y : ℕ) × IsTooLarge r x y
  pub other : (y : ℕ) → IsTooLarge r x y → image r x ≡ None

abbrev pub AllHaveImages : Type 0
AllHaveImages = (r : Rep) (x : Value) → IsOfType r x → HasImage r x

-- ---- reading

-- the words of a block, if there is one
abbrev pub AreBlockWords : Option (List ℕ) → Type 0
AreBlockWords None = Unit {0}
AreBlockWords (Some ws) = AreWords ws

-- registers and the whole block, which the first of them names, represent a value; a slice is no whole block
pub record IsRead (r : Rep) (regs : List ℕ) (block : Option (List ℕ)) (x : Value) : Type 0 where
  pub whole : r ≡ rep.Slice → ⊥
  pub represents : Represents r x regs (held (first_word regs) block)

-- what is read is what is represented, and nothing else
abbrev pub ReadingIsExact : Type 0
ReadingIsExact = (r : Rep) (regs : List ℕ) (block : Option (List ℕ)) (x : Value) → length regs ≡ width r → AreWords regs → AreBlockWords block → (reads r regs block ≡ Some x) ↔ IsRead r regs block x

-- an image is read as the value that it was made of
abbrev pub ImagesAreRead : Type 0
ImagesAreRead = (r : Rep) (x : Value) (i : Image) (b : ℕ) → IsOfWords x → IsSmallValue x → image r x ≡ Some i → b < 2 ^ 64 → reads r (placed b i) i.block ≡ Some x
