-- What tokens are to the grammar, with their bytes and places.
use Rattle.std.specs.Prelude.{◌≡◌, ℕ, Bool, true, false, nat_eq, List, [], ◌∷◌, map, codes, Option, Some, None}
use Rattle.nres_core.specs.Operations.{in_table, meant, meant_arity, meant_is_bare, meant_is_taking}
use Rattle.nres_core.specs.Vocabulary.{Tok, word, sign}
use Rattle.nres_core.specs.declared.place.Place.{Place}
use Rattle.nres_core.specs.declared.token.TokenKind.{TokenKind}
use Rattle.nres_core.specs.declared.token.TokenKind.TheVariants as kind
use Rattle.nres_core.specs.declared.ty.Ty.{Ty}
use Rattle.nres_core.specs.declared.ty.Ty.TheVariants as ty
use Rattle.nres_core.specs.declared.vocabulary.Meant.{Meant}
use Rattle.nres_automaton.specs.declared.lexeme.Construct.{Construct}
use Rattle.nres_automaton.specs.declared.lexeme.Construct.TheVariants as construct
use Rattle.nres_automaton.specs.declared.lexeme.Fixed.{Fixed}
use Rattle.nres_automaton.specs.declared.lexeme.Fixed.TheVariants as fixed
use Rattle.nres_automaton.specs.declared.lexeme.Lexeme.{Lexeme}
use Rattle.nres_automaton.specs.declared.lexeme.Lexeme.TheVariants as lexeme
use Rattle.nres_automaton.specs.declared.lexeme.TheConstants as constants

-- the words of the grammar, but for those of operations, and its signs
unfoldable pub words : List (List ℕ × Lexeme)
words = map (λ x. (x.0.now, x.1)) constants.WORDS

unfoldable pub signs : List (List ℕ × Lexeme)
signs = map (λ x. (x.0.now, x.1)) constants.SIGNS

-- what an operation word is: on so many atoms, a constructor on none, or a word that takes an element out
abbrev pub formed : Option ℕ → Bool → Bool → Lexeme
formed (Some n) bare taking = lexeme.Applies n
formed None true taking = lexeme.Empty
formed None false true = lexeme.Takes
formed None false false = lexeme.Other

abbrev pub operation : Meant → Lexeme
operation x = formed (meant_arity (Some x)) (meant_is_bare (Some x)) (meant_is_taking (Some x))

-- what the grammar says of it comes first
abbrev pub either_table : Option Lexeme → Option Meant → Lexeme
either_table (Some x) y = x
either_table None (Some y) = operation y
either_table None None = lexeme.Other

-- what a token of this kind and with these bytes is
abbrev pub lexeme_of : TokenKind → List ℕ → Lexeme
lexeme_of kind.Name w = lexeme.Name
lexeme_of (kind.Number n) w = lexeme.Number n
lexeme_of kind.Reserved w = either_table (in_table w words) (meant w)
lexeme_of kind.Sign w = either_table (in_table w signs) None

-- a token as what it is to the grammar, with its bytes and place
pub record Lex : Type 0 where
  pub lexeme : Lexeme
  pub bytes : List ℕ
  pub place : Place

abbrev pub lex : Tok → Lex
lex t = record { lexeme = lexeme_of t.kind t.bytes; bytes = t.bytes; place = t.place }

abbrev pub end_lex : Place → Lex
end_lex p = record { lexeme = lexeme.End; bytes = []; place = p }

-- tokens as a reader sees them: behind the last comes the end, at this place
abbrev pub lexes : Place → List Tok → List Lex
lexes p [] = end_lex p ∷ []
lexes p (t ∷ ts) = lex t ∷ lexes p ts

-- words and signs that stand for themselves are told apart by a number
abbrev pub number_of : Fixed → ℕ
number_of fixed.Spec = 0
number_of fixed.Fun = 1
number_of fixed.End = 2
number_of fixed.With = 3
number_of fixed.As = 4
number_of fixed.Kept = 5
number_of fixed.Return = 6
number_of fixed.Assert = 7
number_of fixed.If = 8
number_of fixed.Then = 9
number_of fixed.Else = 10
number_of fixed.While = 11
number_of fixed.From = 12
number_of fixed.Do = 13
number_of fixed.Par = 14
number_of fixed.And = 15
number_of fixed.Split = 16
number_of fixed.At = 17
number_of fixed.Left = 18
number_of fixed.Right = 19
number_of fixed.Either = 20
number_of fixed.Or = 21
number_of fixed.Any = 22
number_of fixed.Foreach = 23
number_of fixed.In = 24
number_of fixed.Call = 25
number_of fixed.Slice = 26
number_of fixed.Set = 27
number_of fixed.Zeros = 28
number_of fixed.Open = 29
number_of fixed.Close = 30
number_of fixed.OpenSquare = 31
number_of fixed.CloseSquare = 32
number_of fixed.OpenBrace = 33
number_of fixed.CloseBrace = 34
number_of fixed.Comma = 35
number_of fixed.Colon = 36
number_of fixed.Equals = 37
number_of fixed.Arrow = 38
number_of fixed.Not = 39

-- whether a token is this word or sign
abbrev pub is_fixed : Fixed → Lexeme → Bool
is_fixed v (lexeme.Fixed w) = nat_eq (number_of w) (number_of v)
is_fixed v _ = false

-- on how many atoms an operation word stands
abbrev pub arity_of : Lexeme → Option ℕ
arity_of (lexeme.Applies n) = Some n
arity_of (lexeme.Fixed fixed.Set) = Some 3
arity_of _ = None

-- the body that a word begins, where it holds blocks
abbrev pub construct_of : Lexeme → Option Construct
construct_of (lexeme.Fixed fixed.If) = Some construct.If
construct_of (lexeme.Fixed fixed.While) = Some construct.While
construct_of (lexeme.Fixed fixed.Par) = Some construct.Par
construct_of (lexeme.Fixed fixed.Split) = Some construct.Split
construct_of (lexeme.Fixed fixed.Either) = Some construct.Either
construct_of (lexeme.Fixed fixed.Foreach) = Some construct.Foreach
construct_of _ = None

-- the type of containers that a word stands for
abbrev pub type_of : Lexeme → Option Ty
type_of (lexeme.Type t) = Some t
type_of (lexeme.Fixed fixed.Set) = Some ty.Set
type_of _ = None

-- the token of a word or sign that stands for itself
abbrev pub spelled : Fixed → Place → Tok
spelled fixed.Spec p = word (codes "spec") p
spelled fixed.Fun p = word (codes "fun") p
spelled fixed.End p = word (codes "end") p
spelled fixed.With p = word (codes "with") p
spelled fixed.As p = word (codes "as") p
spelled fixed.Kept p = word (codes "kept") p
spelled fixed.Return p = word (codes "return") p
spelled fixed.Assert p = word (codes "assert") p
spelled fixed.If p = word (codes "if") p
spelled fixed.Then p = word (codes "then") p
spelled fixed.Else p = word (codes "else") p
spelled fixed.While p = word (codes "while") p
spelled fixed.From p = word (codes "from") p
spelled fixed.Do p = word (codes "do") p
spelled fixed.Par p = word (codes "par") p
spelled fixed.And p = word (codes "and") p
spelled fixed.Split p = word (codes "split") p
spelled fixed.At p = word (codes "at") p
spelled fixed.Left p = word (codes "left") p
spelled fixed.Right p = word (codes "right") p
spelled fixed.Either p = word (codes "either") p
spelled fixed.Or p = word (codes "or") p
spelled fixed.Any p = word (codes "any") p
spelled fixed.Foreach p = word (codes "foreach") p
spelled fixed.In p = word (codes "in") p
spelled fixed.Call p = word (codes "call") p
spelled fixed.Slice p = word (codes "slice") p
spelled fixed.Set p = word (codes "set") p
spelled fixed.Zeros p = word (codes "zeros") p
spelled fixed.Open p = sign (codes "(") p
spelled fixed.Close p = sign (codes ")") p
spelled fixed.OpenSquare p = sign (codes "[") p
spelled fixed.CloseSquare p = sign (codes "]") p
spelled fixed.OpenBrace p = sign (codes "{") p
spelled fixed.CloseBrace p = sign (codes "}") p
spelled fixed.Comma p = sign (codes ",") p
spelled fixed.Colon p = sign (codes ":") p
spelled fixed.Equals p = sign (codes "=") p
spelled fixed.Arrow p = sign (codes "<-") p
spelled fixed.Not p = sign (codes "!") p
