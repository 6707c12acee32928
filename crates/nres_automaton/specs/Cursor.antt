-- What a cursor shows.
use Rattle.std.specs.Prelude.{◌≡◌, ℕ, suc, ◌≤◌, true, false, List, [], ◌∷◌, length, Result, Ok, Err}
use Rattle.nres_core.specs.Vocabulary.{all_seen, seen}
use Rattle.sep_lex.specs.Spans.{AllWithin}
use Rattle.nres_core.specs.declared.place.Place.{Place}
use Rattle.nres_core.specs.declared.token.Token.{Token}
use Rattle.nres_automaton.specs.Lexemes.{Lex, lex, lexes, is_fixed}
use Rattle.nres_automaton.specs.Automaton.{Left, place_in}
use Rattle.nres_automaton.specs.declared.cursor.Cursor.TheInside.{Inside}
use Rattle.nres_automaton.specs.declared.lexeme.Fixed.{Fixed}
use Rattle.nres_automaton.specs.declared.lexeme.Lexeme.{Lexeme}
use Rattle.nres_automaton.specs.declared.lexeme.Lexeme.TheVariants as lexeme
use Rattle.nres_automaton.specs.declared.refusal.SyntaxRefusal.{SyntaxRefusal}
use Rattle.nres_automaton.specs.declared.refusal.SyntaxRefusal.TheVariants as refusal

-- the text, the tokens that are left, the place of the end, and how many operators may still come
abbrev pub Shown : Type 0
Shown = (List ℕ × (List Token × Place)) × ℕ

abbrev pub shown : Inside → Shown
shown c = ((c.input.now, (c.tokens.now, c.end)), c.operators)

abbrev pub left : Shown → Left
left c = (lexes c.0.1.1 (all_seen c.0.0 c.0.1.0), c.1)

-- what the first token is
abbrev pub next_is : List ℕ → List Token → Lexeme → Type 0
next_is text [] x = x ≡ lexeme.End
next_is text (t ∷ ts) x = x ≡ (lex (seen text t)).lexeme

pub record IsReady (c : Inside) : Type 0 where
  pub within : AllWithin c.input.now c.tokens.now
  pub next : next_is c.input.now c.tokens.now c.lexeme

-- what comes behind the next token, its bytes, and what it is
abbrev pub behind : List Lex → List Lex
behind [] = []
behind (t ∷ ts) = ts

abbrev pub text_of : List Lex → List ℕ
text_of [] = []
text_of (t ∷ ts) = t.bytes

abbrev pub lexeme_in : List Lex → Lexeme
lexeme_in [] = lexeme.End
lexeme_in (t ∷ ts) = t.lexeme

-- an operator was paid for, or none is left
abbrev pub Spends : Result (Unit {0}) SyntaxRefusal → Left → Left → Type 0
Spends (Ok _) old new = (old.0 ≡ new.0) × (old.1 ≡ suc new.1)
Spends (Err e) old new = (old.1 ≡ 0) × (e ≡ refusal.TooDeep (place_in old.0))

-- a token went by
pub record Takes (old : Left) (t : Lex) (new : Left) : Type 0 where
  pub next : old.0 ≡ t ∷ new.0
  pub operators : new.1 ≡ old.1

-- this word or sign went by, or something else stood there
abbrev pub Passes : Fixed → Result Place SyntaxRefusal → Left → Left → Type 0
Passes z (Ok p) old new = (t : Lex) × Takes old t new × (is_fixed z t.lexeme ≡ true) × (t.place ≡ p)
Passes z (Err e) old new = (t : Lex) × (old.0 ≡ t ∷ behind old.0) × (is_fixed z t.lexeme ≡ false) × (e ≡ refusal.At t.place)
