-- The laws, as facts.
use Rattle.std.specs.Prelude.{◌≡◌, ◌≤◌, ◌+◌, ℕ, List, length, None}
use Rattle.nres_core.specs.Sizes.{loops_of, size_of}
use Rattle.nres_core.specs.Texts.{SpecText}
use Rattle.nres_core.specs.Tokens.{Lexes, first}
use Rattle.nres_core.specs.Vocabulary.{all_seen}
use Rattle.nres_rules.specs.Types.{HasTyping, refusal_of}
use Rattle.nres_core.specs.declared.token.Token.{Token}
use Rattle.nres_core.specs.declared.tree.Spec.{Spec}
use Rattle.nres_core.specs.declared.tree.Typing.{Typing}
use Rattle.nres_core.specs.declared.tree.With.{With}
use Rattle.typing_laws.specs.Formed.{SpecFormed}
use Rattle.typing_laws.specs.FreeNames.{AreFree}

-- the tokens of a text that are names have free names for their bytes
abbrev pub NamesAreFree : Type 0
NamesAreFree = (text : List ℕ) (ts : List Token) → Lexes 0 first text ts → AreFree (all_seen text ts)

-- the tree of a text is formed as the grammar says
abbrev pub TextsAreFormed : Type 0
TextsAreFormed = (text : List ℕ) (p : Spec) (ws : List With) → SpecText text p ws → SpecFormed p

-- a text has no more tokens than bytes
abbrev pub NoMoreTokensThanBytes : Type 0
NoMoreTokensThanBytes = (text : List ℕ) (ts : List Token) → Lexes 0 first text ts → length ts ≤ length text

-- so the size of its tree, with each loop over a set counted once more, is at most the number of its bytes
abbrev pub TextsHoldTheirTrees : Type 0
TextsHoldTheirTrees = (text : List ℕ) (p : Spec) (ws : List With) → SpecText text p ws → size_of p + loops_of p ≤ length text

-- a specification with a typing
pub record Typable (p : Spec) : Type 0 where
  pub typing : Typing
  pub has : HasTyping p typing

-- where nothing of a text is refused, it has a typing
abbrev pub TextsHaveTypings : Type 0
TextsHaveTypings = (text : List ℕ) (p : Spec) (ws : List With) → SpecText text p ws → refusal_of p ≡ None → Typable p
