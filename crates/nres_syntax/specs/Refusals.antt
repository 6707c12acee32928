-- At which place a text is refused, and why.
use Rattle.std.specs.Prelude.{◌≡◌, ◌≤◌, ◌⊎◌, ℕ, suc, List, drop, length, take}
use Rattle.nres_core.specs.Texts.{AreWiths, BeginsText, BeginsUnlimited, BeginsWiths, IsFile, IsTooDeep, StopsBehind, open_at_once, operators}
use Rattle.nres_core.specs.Tokens.{Lexes, StopsAt, after, first}
use Rattle.nres_core.specs.Vocabulary.{Tok, all_seen, place_of}
use Rattle.nres_core.specs.declared.place.Place.{Place}
use Rattle.nres_core.specs.declared.token.Token.{Token}
use Rattle.nres_core.specs.declared.tree.Spec.{Spec}
use Rattle.nres_core.specs.declared.tree.With.{With}

-- ---- the tokens of a specification

-- the first token with which no text begins stands there, and no limit is at fault
pub record Stops (ts : List Tok) (q : Place) : Type 0 where
  pub count : ℕ
  pub stops : StopsBehind ts count
  pub no_limit : ¬ BeginsUnlimited (take (suc count) ts)
  pub place : place_of (drop count ts) ≡ q

-- the tokens begin a text, and are none yet; the end stands at that place
pub record EndsEarly (ts : List Tok) (end q : Place) : Type 0 where
  pub begins : BeginsText ts
  pub no_text : (p : Spec) (ws : List With) → ¬ IsFile operators open_at_once ts p ws
  pub place : end ≡ q

-- the first token with which no text begins stands there, and a limit alone refuses it
pub record Deep (ts : List Tok) (q : Place) : Type 0 where
  pub count : ℕ
  pub too_deep : IsTooDeep ts count
  pub place : place_of (drop count ts) ≡ q

-- ---- a text; a place at which no token, blank or comment stands comes first

abbrev pub RefusedAt : List ℕ → Place → Type 0
RefusedAt bytes q =
    StopsAt first bytes q ⊎ ((ts : List Token) × Lexes 0 first bytes ts × (Stops (all_seen bytes ts) q ⊎ EndsEarly (all_seen bytes ts) (after first bytes) q))

abbrev pub RefusedDeep : List ℕ → Place → Type 0
RefusedDeep bytes q = (ts : List Token) × Lexes 0 first bytes ts × Deep (all_seen bytes ts) q

-- ---- values for parameters, of which the first line has a number

abbrev pub line_start : ℕ → Place
line_start line = record { line = line; column = 1 }

pub record StopsValues (ts : List Tok) (q : Place) : Type 0 where
  pub count : ℕ
  pub within : suc count ≤ length ts
  pub begins : BeginsWiths (take count ts)
  pub no_more : ¬ BeginsWiths (take (suc count) ts)
  pub place : place_of (drop count ts) ≡ q

pub record EndsEarlyValues (ts : List Tok) (end q : Place) : Type 0 where
  pub begins : BeginsWiths ts
  pub no_text : (ws : List With) → ¬ AreWiths ts ws
  pub place : end ≡ q

abbrev pub ValuesRefusedAt : ℕ → List ℕ → Place → Type 0
ValuesRefusedAt line bytes q =
    StopsAt (line_start line) bytes q ⊎ ((ts : List Token) × Lexes 0 (line_start line) bytes ts
    × (StopsValues (all_seen bytes ts) q ⊎ EndsEarlyValues (all_seen bytes ts) (after (line_start line) bytes) q))
