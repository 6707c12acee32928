-- Tokens as a grammar sees them: what each is, its bytes and its place.
use Rattle.std.specs.Prelude.{ℕ, Bool, true, false, ◌&&◌, not, List, [], ◌∷◌, Option, slice_range, codes}
use Rattle.target_code.specs.Names.{is_name}
use Rattle.target_code.specs.Reserved.{is_reserved}
use Rattle.target_code.specs.declared.tree.Calc.{Calc}
use Rattle.target_code.specs.declared.tree.Calc.TheVariants as calc
use Rattle.target_code.specs.declared.tree.Rep.{Rep}
use Rattle.target_code.specs.declared.tree.Rep.TheVariants as rep
pub use Rattle.nres_core.specs.Operations.{in_table}
use Rattle.nres_core.specs.Operations.{words, meant_arity, meant_is_bare, meant_is_taking}
use Rattle.nres_core.specs.declared.place.Named.{Named}
use Rattle.nres_core.specs.declared.place.Place.{Place}
use Rattle.nres_core.specs.declared.token.Token.{Token}
use Rattle.nres_core.specs.declared.token.TokenKind.{TokenKind}
use Rattle.nres_core.specs.declared.token.TokenKind.TheVariants as kind
use Rattle.nres_core.specs.declared.ty.Ty.{Ty}
use Rattle.nres_core.specs.declared.ty.Ty.TheVariants as ty

pub record Tok : Type 0 where
  pub kind : TokenKind
  pub bytes : List ℕ
  pub place : Place

-- a token of a text, with its bytes; and all of them
abbrev pub seen : List ℕ → Token → Tok
seen text t = record { kind = t.kind; bytes = slice_range text t.start t.end; place = t.place }

abbrev pub all_seen : List ℕ → List Token → List Tok
all_seen text [] = []
all_seen text (t ∷ ts) = seen text t ∷ all_seen text ts

-- a reserved word, a sign, a name, and a number with its digits
abbrev pub word : List ℕ → Place → Tok
word w p = record { kind = kind.Reserved; bytes = w; place = p }

abbrev pub sign : List ℕ → Place → Tok
sign s p = record { kind = kind.Sign; bytes = s; place = p }

abbrev pub name : List ℕ → Place → Tok
name x p = record { kind = kind.Name; bytes = x; place = p }

abbrev pub number : ℕ → List ℕ → Place → Tok
number n digits p = record { kind = kind.Number n; bytes = digits; place = p }

abbrev pub named : List ℕ → Place → Named
named x p = record { name = x; place = p }

-- the place of the first token
abbrev pub place_of : List Tok → Place
place_of [] = record { line = 0; column = 0 }
place_of (t ∷ ts) = t.place

-- the operation words that take so many atoms
unfoldable pub arity : List ℕ → Option ℕ
arity w = meant_arity (in_table w words)

-- the constructors on no atom, and the words that take an element out
unfoldable pub is_empty_word : List ℕ → Bool
is_empty_word w = meant_is_bare (in_table w words)

unfoldable pub is_take_word : List ℕ → Bool
is_take_word w = meant_is_taking (in_table w words)

-- the calculations that are words on two atoms
unfoldable pub calc_word : List ℕ → Option Calc
calc_word w = in_table w ((codes "min", calc.Min) ∷ (codes "max", calc.Max) ∷ [])

-- the truth values
unfoldable pub truth_word : List ℕ → Option Bool
truth_word w = in_table w ((codes "true", true) ∷ (codes "false", false) ∷ [])

-- the word of a type
abbrev pub word_of : Ty → List ℕ
word_of ty.Nat = codes "nat"
word_of ty.Bool = codes "bool"
word_of ty.List = codes "list"
word_of ty.Set = codes "set"
word_of ty.Map = codes "map"
word_of ty.Bag = codes "bag"

-- the types of numbers and truth values, with their representations
unfoldable pub plain_word : List ℕ → Option (Ty × Rep)
plain_word w = in_table w ((word_of ty.Nat, (ty.Nat, rep.Word)) ∷ (word_of ty.Bool, (ty.Bool, rep.Flag)) ∷ [])

-- the types of containers
unfoldable pub type_word : List ℕ → Option Ty
type_word w = in_table w ((word_of ty.List, ty.List) ∷ (word_of ty.Set, ty.Set) ∷ (word_of ty.Map, ty.Map) ∷ (word_of ty.Bag, ty.Bag) ∷ [])

-- the representations without a bound, and those with one
unfoldable pub rep_word : List ℕ → Option Rep
rep_word w = in_table w ((codes "array", rep.Array) ∷ (codes "vec", rep.Vec) ∷ (codes "hset", rep.Hset) ∷ (codes "hmap", rep.Hmap) ∷ (codes "heap", rep.Heap) ∷ [])

unfoldable pub bound_word : List ℕ → ℕ → Option Rep
bound_word w u = in_table w ((codes "bits", rep.Bits u) ∷ (codes "amap", rep.Amap u) ∷ [])

-- a binary sign: its calculation, and how loosely it binds, from 1 to 5
unfoldable pub binary_sign : List ℕ → Option (Calc × ℕ)
binary_sign s = in_table s (
    (codes "*", (calc.Mul, 1)) ∷ (codes "/", (calc.Div, 1)) ∷ (codes "%", (calc.Mod, 1)) ∷ (codes "+", (calc.Add, 2)) ∷ (codes "-", (calc.Sub, 2))
    ∷ (codes "<", (calc.Lt, 3)) ∷ (codes "<=", (calc.Le, 3)) ∷ (codes "==", (calc.Eq, 3)) ∷ (codes "!=", (calc.Ne, 3))
    ∷ (codes "&&", (calc.And, 4)) ∷ (codes "||", (calc.Or, 5)) ∷ [])

-- how loosely a sign binds, from 1 to 5; a word binds as an application does
abbrev pub looseness : Calc → ℕ
looseness calc.Mul = 1
looseness calc.Div = 1
looseness calc.Mod = 1
looseness calc.Add = 2
looseness calc.Sub = 2
looseness calc.Lt = 3
looseness calc.Le = 3
looseness calc.Eq = 3
looseness calc.Ne = 3
looseness calc.And = 4
looseness calc.Or = 5
looseness _ = 0

-- a name that a variable may have
abbrev pub is_free_name : List ℕ → Bool
is_free_name x = is_name x && not (is_reserved x)
