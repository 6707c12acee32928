-- What the automaton has to do with the grammar.
use Rattle.std.specs.Prelude.{◌≡◌, ℕ, suc, ◌≤◌, Bool, true, false, List, drop, length, take}
use Rattle.nres_core.specs.Texts.{AreWiths, BeginsUnlimited, BeginsWiths, Begins, IsFile}
use Rattle.nres_core.specs.Vocabulary.{Tok}
use Rattle.nres_core.specs.declared.place.Place.{Place}
use Rattle.nres_core.specs.declared.tree.Spec.{Spec}
use Rattle.nres_core.specs.declared.tree.With.{With}
use Rattle.nres_automaton.specs.Lexemes.{Lex, lexes}
use Rattle.nres_automaton.specs.Automaton.{Found, specification, given, Outcome, accepted, refused, run, file, values}

-- ---- texts of specifications, with l operators and r open blocks and brackets

-- the automaton accepts the texts of the grammar, and no others
abbrev pub Accepts : Type 0
Accepts = (l r : ℕ) (q : Place) (ts : List Tok) (p : Spec) (ws : List With) → IsFile l r ts p ws → run l r l file (lexes q ts) ≡ accepted (specification p ws)

abbrev pub AcceptsOnly : Type 0
AcceptsOnly = (l r : ℕ) (q : Place) (ts : List Tok) (y : Found) → run l r l file (lexes q ts) ≡ accepted y → (p : Spec) × (ws : List With) × (y ≡ specification p ws) × IsFile l r ts p ws

-- where it refuses, the tokens before begin a text; with the refused one they begin none, or with wider limits alone
pub record Refuses (l r : ℕ) (q : Place) (ts : List Tok) (by_limit : Bool) (rest : List Lex) : Type 0 where
  pub count : ℕ
  pub within : count ≤ length ts
  pub rest_is : rest ≡ lexes q (drop count ts)
  pub begins : Begins l r (take count ts)
  pub no_text : (p : Spec) (ws : List With) → ¬ IsFile l r ts p ws
  pub no_more : suc count ≤ length ts → ¬ Begins l r (take (suc count) ts)
  pub no_limit : by_limit ≡ false → suc count ≤ length ts → ¬ BeginsUnlimited (take (suc count) ts)
  pub a_limit : by_limit ≡ true → (suc count ≤ length ts) × BeginsUnlimited (take (suc count) ts)

abbrev pub RefusesExactly : Type 0
RefusesExactly = (l r : ℕ) (q : Place) (ts : List Tok) (by_limit : Bool) (rest : List Lex) → 2 ≤ r → run l r l file (lexes q ts) ≡ refused by_limit rest → Refuses l r q ts by_limit rest

-- ---- values for parameters

abbrev pub AcceptsValues : Type 0
AcceptsValues = (l r : ℕ) (q : Place) (ts : List Tok) (ws : List With) → AreWiths ts ws → run l r l values (lexes q ts) ≡ accepted (given ws)

abbrev pub AcceptsValuesOnly : Type 0
AcceptsValuesOnly = (l r : ℕ) (q : Place) (ts : List Tok) (y : Found) → run l r l values (lexes q ts) ≡ accepted y → (ws : List With) × (y ≡ given ws) × AreWiths ts ws

pub record RefusesValues (q : Place) (ts : List Tok) (by_limit : Bool) (rest : List Lex) : Type 0 where
  pub count : ℕ
  pub within : count ≤ length ts
  pub rest_is : rest ≡ lexes q (drop count ts)
  pub at_no_limit : by_limit ≡ false
  pub begins : BeginsWiths (take count ts)
  pub no_text : (ws : List With) → ¬ AreWiths ts ws
  pub no_more : suc count ≤ length ts → ¬ BeginsWiths (take (suc count) ts)

abbrev pub RefusesValuesExactly : Type 0
RefusesValuesExactly = (l r : ℕ) (q : Place) (ts : List Tok) (by_limit : Bool) (rest : List Lex) → run l r l values (lexes q ts) ≡ refused by_limit rest → RefusesValues q ts by_limit rest
