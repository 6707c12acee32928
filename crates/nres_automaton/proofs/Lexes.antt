-- Tokens with the end behind them.
use Rattle.std.proofs.Common.{◌≡◌, ◌≢◌, ◌≤◌, ℕ, List, [], ◌∷◌, length, arith, subst, sym, ◌∙◌}
use Rattle.nres_core.specs.Vocabulary.{Tok, all_seen, seen}
use Rattle.nres_core.specs.declared.place.Place.{Place}
use Rattle.nres_core.specs.declared.token.Token.{Token}
use Rattle.nres_automaton.specs.Cursor.{behind, next_is}
use Rattle.nres_automaton.specs.declared.lexeme.Lexeme.{Lexeme}
use Rattle.nres_automaton.specs.declared.lexeme.Lexeme.TheVariants as x
use Rattle.nres_automaton.proofs.Tokens.{Is, is}
use Rattle.nres_automaton.specs.Lexemes.{lexes}

pub some : (q : Place) (ts : List Tok) → lexes q ts ≢ []
some q [] e = cc
some q (t ∷ ts) e = cc

pub more_come : (q : Place) (text : List ℕ) (ts : List Token) → 1 ≤ length ts → behind (lexes q (all_seen text ts)) ≢ []
more_come q text [] h = absurd (omega (arith, h))
more_come q text (t ∷ ts) h = some q (all_seen text ts)

-- no token of a text is the end
pub never_end : (text : List ℕ) (ts : List Token) (w : Lexeme) → 1 ≤ length ts → next_is text ts w → w ≡ x.End → ⊥
never_end text [] w h e f = absurd (omega (arith, h))
never_end text (t ∷ ts) w h e f = subst (λ y. Is y (seen text t)) (sym e ∙ f) (is (seen text t))
