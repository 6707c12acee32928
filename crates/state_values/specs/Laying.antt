-- The images of values in representations, laid one behind the other.
use Rattle.std.specs.Prelude.{◌≡◌, ℕ, ◌+◌, ◌<◌, ◌≤◌, ◌⊎◌, List, [], ◌∷◌, ◌++◌, length, Option, Some, None, Result, Ok, Err}
use Rattle.nres_core.specs.declared.value.Value.{Value}
use Rattle.target_code.specs.declared.tree.InParam.{InParam}
use Rattle.target_code.specs.declared.tree.Rep.{Rep}
use Rattle.relations.specs.Images.{Image, image, named, placed}
use Rattle.run_inputs.specs.declared.place.Unplaced.{Unplaced}
use Rattle.run_inputs.specs.declared.place.Unplaced.TheVariants as unplaced
use Rattle.state_values.specs.declared.beginning.Laid.{Laid}

-- ---- one image

-- how many words a block claims, where there is one: one more than it has
abbrev pub claim : Option (List ℕ) → ℕ
claim None = 0
claim (Some ws) = 1 + length ws

-- a block, where there is one, with its name
abbrev pub named_block : ℕ → Option (List ℕ) → List (ℕ × List ℕ)
named_block b None = []
named_block b (Some ws) = (b, ws) ∷ []

-- registers and a block were laid behind what was laid before, within the capacity; the name is 1 more than the words claimed before
pub record Behind (cap : ℕ) (own : List ℕ) (block : Option (List ℕ)) (s t : Laid) : Type 0 where
  pub regs : t.regs.items ≡ s.regs.items ++ named (s.claimed + 1) block own
  pub blocks : t.blocks.items ≡ s.blocks.items ++ named_block (s.claimed + 1) block
  pub claimed : t.claimed ≡ s.claimed + claim block
  pub room : t.claimed ≤ cap

-- a block does not fit behind so many claimed words: their number and its length are told
abbrev pub IsPast : ℕ → Option (List ℕ) → ℕ → ℕ → ℕ → Type 0
IsPast cap None claimed at len = ⊥
IsPast cap (Some ws) claimed at len = (cap < claimed + 1 + length ws) × (at ≡ claimed) × (len ≡ length ws)

abbrev pub IsLaidAs : Result (Unit {0}) Unplaced → ℕ → List ℕ → Option (List ℕ) → Laid → Laid → Type 0
IsLaidAs (Ok u) cap own block s t = Behind cap own block s t
IsLaidAs (Err (unplaced.Full at len)) cap own block s t = IsPast cap block s.claimed at len
IsLaidAs (Err unplaced.Memory) cap own block s t = Unit {0}

-- so was the image of a value
abbrev pub IsLaidValue : Result (Unit {0}) Unplaced → ℕ → Rep → Value → Laid → Laid → Type 0
IsLaidValue (Ok u) cap r x s t = (i : Image) × (image r x ≡ Some i) × Behind cap i.regs i.block s t
IsLaidValue (Err (unplaced.Full at len)) cap r x s t = (i : Image) × (image r x ≡ Some i) × IsPast cap i.block s.claimed at len
IsLaidValue (Err unplaced.Memory) cap r x s t = Unit {0}

-- ---- all of them

-- the image of a value was laid behind so many claimed words, and what follows holds of the registers and blocks behind its own
pub record Next (cap : ℕ) (r : Rep) (x : Value) (claimed : ℕ) (regs : List ℕ) (blocks : List (ℕ × List ℕ)) (Rest : ℕ → List ℕ → List (ℕ × List ℕ) → Type 0) : Type 0 where
  pub image_of : Image
  pub is_image : image r x ≡ Some image_of
  pub room : claimed + claim image_of.block ≤ cap
  pub others : List ℕ
  pub more : List (ℕ × List ℕ)
  pub regs_are : regs ≡ placed (claimed + 1) image_of ++ others
  pub blocks_are : blocks ≡ named_block (claimed + 1) image_of.block ++ more
  pub rest : Rest (claimed + claim image_of.block) others more

-- the images of values were laid behind so many claimed words, and these are their registers and blocks
abbrev pub AllLaid : ℕ → List InParam → List Value → ℕ → List ℕ → List (ℕ × List ℕ) → Type 0
AllLaid cap [] [] claimed regs blocks = (regs ≡ []) × (blocks ≡ [])
AllLaid cap (i ∷ is) (x ∷ xs) claimed regs blocks = Next cap i.rep x claimed regs blocks (λ c others more. AllLaid cap is xs c others more)
AllLaid cap _ _ claimed regs blocks = ⊥

-- the image of a value has a block that does not fit, or it fits, and what follows holds of the words that are then claimed
pub record Stops (cap : ℕ) (r : Rep) (x : Value) (claimed at len : ℕ) (Rest : ℕ → Type 0) : Type 0 where
  pub image_of : Image
  pub is_image : image r x ≡ Some image_of
  pub either : IsPast cap image_of.block claimed at len ⊎ ((claimed + claim image_of.block ≤ cap) × Rest (claimed + claim image_of.block))

-- one of the blocks does not fit
abbrev pub StopsAt : ℕ → List InParam → List Value → ℕ → ℕ → ℕ → Type 0
StopsAt cap (i ∷ is) (x ∷ xs) claimed at len = Stops cap i.rep x claimed at len (λ c. StopsAt cap is xs c at len)
StopsAt cap _ _ claimed at len = ⊥

abbrev pub AreLaid : Result Laid Unplaced → ℕ → List InParam → List Value → Type 0
AreLaid (Ok laid) cap ins values = AllLaid cap ins values 0 laid.regs.items laid.blocks.items
AreLaid (Err (unplaced.Full at len)) cap ins values = StopsAt cap ins values 0 at len
AreLaid (Err unplaced.Memory) cap ins values = Unit {0}
