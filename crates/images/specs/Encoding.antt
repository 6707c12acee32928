-- Images as they are held, and why a value has none.
use Rattle.std.specs.Prelude.{◌≡◌, ℕ, List, [], ◌∷◌, ◌<◌, ◌≤◌, ◌*◌, ◌^◌, nat_lt, if◌then◌else◌, length, Option, Some, None}
use Rattle.sequences.specs.Keys.{has}
use Rattle.nres_core.specs.declared.value.Value.{Value}
use Rattle.target_code.specs.declared.tree.Image.{Image}
use Rattle.target_code.specs.declared.tree.Rep.{Rep}
use Rattle.relations.specs.Images as images
use Rattle.image_laws.specs.Laws.{IsTooLarge, IsLeastFrom}
use Rattle.images.specs.declared.fit.NoFit.{NoFit}
use Rattle.images.specs.declared.fit.NoFit.TheVariants.{Element, Memory}

-- an image as registers and the words of a block
abbrev pub seen : Image → images.Image
seen i = record { regs = i.regs; block = i.block }

-- registers and the words of a block
abbrev pub made : List ℕ → List ℕ → images.Image
made regs ws = record { regs = regs; block = Some ws }

-- an element or key is the least that is too large; memory may want at any time
abbrev pub IsNoFit : Rep → Value → NoFit → Type 0
IsNoFit r x (Element y) = IsTooLarge r x y
IsNoFit r x Memory = Unit {0}

-- the same of numbers and a bound
abbrev pub IsOver : ℕ → List ℕ → NoFit → Type 0
IsOver u xs (Element y) = IsLeastFrom u (λ q. has q xs) y
IsOver u xs Memory = Unit {0}

-- the first number that is not below a bound
abbrev pub first_from : ℕ → List ℕ → Option ℕ
first_from u [] = None
first_from u (x ∷ xs) = if nat_lt x u then first_from u xs else Some x

-- words that are slots of a table
pub record IsSlots (w cap : ℕ) (ws : List ℕ) : Type 0 where
  pub size : length ws ≡ w * cap
  pub wide : 2 ≤ w
  pub narrow : w ≤ 3
  pub few : cap < 2 ^ 35
