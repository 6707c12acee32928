-- What stands at the front of a text: the longest token, a blank, a comment, or none of them.
use Rattle.std.specs.Prelude.{◌≡◌, ◌≤◌, ℕ, ◌+◌, ◌-◌, ◌*◌, Bool, not, ◌&&◌, ◌||◌, if◌then◌else◌, ◌==◌, nat_le, nat_lt, List, [], ◌∷◌, take, slice_index, Option, Some, None}
use Rattle.std.specs.Char.{is_ascii_digit}
use Rattle.std.specs.List.{prefix_len}
use Rattle.target_code.specs.Names.{is_name_start, is_name_byte}
use Rattle.target_code.specs.Reserved.{is_reserved}
use Rattle.nres_core.specs.declared.token.TokenKind.TheVariants as kind
use Rattle.nres_core.specs.declared.token.Piece.{Piece}
use Rattle.nres_core.specs.declared.token.Piece.TheVariants as piece

-- space, tab, carriage return and line feed
abbrev pub is_blank : ℕ → Bool
is_blank b = b == 32 || b == 9 || b == 13 || b == 10

-- a comment goes on up to the next line feed
abbrev pub is_inside : ℕ → Bool
is_inside b = not (b == 10)

-- a name or a reserved word is as long as possible, and has at most 64 bytes
abbrev pub word : List ℕ → Piece
word text =
    let n = prefix_len is_name_byte text in
    if nat_le n 64 then (if is_reserved (take n text) then piece.Token kind.Reserved n else piece.Token kind.Name n) else piece.Wrong

-- the value of the digits behind n, where none on the way passes 64 bits
abbrev pub value_from : ℕ → List ℕ → Option ℕ
value_from n [] = Some n
value_from n (b ∷ bs) = if nat_lt (10 * n + (b - 48)) 18446744073709551616 then value_from (10 * n + (b - 48)) bs else None

abbrev pub numeral : ℕ → Option ℕ → Piece
numeral len None = piece.Wrong
numeral len (Some n) = piece.Token (kind.Number n) len

-- a number has no letter behind it, no leading zero, and 64 bits
unfoldable pub number : List ℕ → Piece
number text =
    let n = prefix_len is_name_byte text in
    if prefix_len is_ascii_digit text == n && (n == 1 || not (slice_index text 0 == 48)) then numeral n (value_from 0 (take n text)) else piece.Wrong

-- `<-` `<=` `==` `!=` `&&` `||`
abbrev pub is_pair : ℕ → ℕ → Bool
is_pair b c = (b == 60 && (c == 45 || c == 61)) || ((b == 61 || b == 33) && c == 61) || (b == 38 && c == 38) || (b == 124 && c == 124)

-- `<` `=` `!` `+` `-` `*` `/` `%` `(` `)` `[` `]` `{` `}` `,` `:`
abbrev pub is_single : ℕ → Bool
is_single b =
    b == 60 || b == 61 || b == 33 || b == 43 || b == 45 || b == 42 || b == 47 || b == 37
    || b == 40 || b == 41 || b == 91 || b == 93 || b == 123 || b == 125 || b == 44 || b == 58

-- the longest sign is taken
unfoldable pub sign : ℕ → ℕ → Piece
sign b c = if is_pair b c then piece.Token kind.Sign 2 else (if is_single b then piece.Token kind.Sign 1 else piece.Wrong)

-- what stands at the front of a text that is not empty
unfoldable pub front : List ℕ → Piece
front text =
    let b = slice_index text 0 in
    if is_blank b then piece.Space 1
    else (if b == 35 then piece.Space (prefix_len is_inside text)
    else (if is_name_start b then word text
    else (if is_ascii_digit b then number text
    else sign b (slice_index text 1))))

-- a piece has a byte, and lies within the text
abbrev pub IsWithin : ℕ → Piece → Type 0
IsWithin len (piece.Space n) = (1 ≤ n) × (n ≤ len)
IsWithin len (piece.Token k n) = (1 ≤ n) × (n ≤ len)
IsWithin len piece.Wrong = Unit {0}

-- a sign is one byte long, or two where there is a second byte
abbrev pub IsShort : ℕ → Piece → Type 0
IsShort c (piece.Space n) = ⊥
IsShort c (piece.Token k n) = (1 ≤ n) × (n ≤ 2) × (c ≡ 0 → n ≡ 1)
IsShort c piece.Wrong = Unit {0}
