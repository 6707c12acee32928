-- Tokens that are names, with free names for their bytes.
use Rattle.std.specs.Prelude.{◌≡◌, true, List, [], ◌∷◌}
use Rattle.nres_core.specs.Vocabulary.{Tok, is_free_name}
use Rattle.nres_core.specs.declared.token.TokenKind.TheVariants as kind

-- a token that is a name has a name's bytes
abbrev pub IsFree : Tok → Type 0
IsFree t = t.kind ≡ kind.Name → is_free_name t.bytes ≡ true

abbrev pub AreFree : List Tok → Type 0
AreFree [] = Unit {0}
AreFree (t ∷ ts) = IsFree t × AreFree ts
