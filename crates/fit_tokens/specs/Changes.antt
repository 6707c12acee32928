-- Tokens of registers as what was changed of them.
use Rattle.std.specs.Prelude.{◌≡◌, ℕ, nat_lt, Bool, false, List, [], ◌∷◌, ◌++◌, ◌&&◌, true, Option, Some, None, option_map}
use Rattle.fits.specs.Places as f
use Rattle.fits.specs.Places.{put, both_tokens, keeps_token}
use Rattle.fit_tokens.specs.declared.table.Change.{Change as CodeChange}
use Rattle.fit_tokens.specs.declared.token.Token.{Token}
use Rattle.fit_tokens.specs.declared.token.Token.TheVariants as t

abbrev pub token_of : Token → f.Token
token_of (t.Number n) = f.Number n
token_of (t.Of v j) = f.Of v j

abbrev pub tokens_of : List Token → List f.Token
tokens_of [] = []
tokens_of (x ∷ xs) = token_of x ∷ tokens_of xs

abbrev pub options_of : List (Option Token) → List (Option f.Token)
options_of [] = []
options_of (x ∷ xs) = option_map token_of x ∷ options_of xs

-- a register has this token from here on, or none
pub record Change : Type 0 where
  pub reg : ℕ
  pub token : Option f.Token

abbrev pub change : ℕ → Option f.Token → Change
change r o = record { reg = r; token = o }

abbrev pub change_of : CodeChange → Change
change_of c = change c.reg (option_map token_of c.token)

abbrev pub changes_of : List CodeChange → List Change
changes_of [] = []
changes_of (c ∷ cs) = change_of c ∷ changes_of cs

-- changes since the last mark, in order, and those from each mark to the next, the last first
pub record Known : Type 0 where
  pub changes : List Change
  pub saved : List (List Change)

-- ---- the tokens

-- the tokens after changes
abbrev pub after : List Change → (ℕ → Option f.Token) → ℕ → Option f.Token
after [] toks = toks
after (c ∷ cs) toks = after cs (put toks c.reg c.token)

abbrev pub no_token : ℕ → Option f.Token
no_token r = None

abbrev pub before_all : List (List Change) → ℕ → Option f.Token
before_all [] = no_token
before_all (cs ∷ css) = after cs (before_all css)

abbrev pub toks_at_mark : Known → ℕ → Option f.Token
toks_at_mark x = before_all x.saved

abbrev pub toks : Known → ℕ → Option f.Token
toks x = after x.changes (before_all x.saved)

-- ---- what calls do

abbrev pub with_changes : Known → List Change → Known
with_changes x cs = record { changes = x.changes ++ cs; saved = x.saved }

abbrev pub with_change : Known → Change → Known
with_change x c = with_changes x (c ∷ [])

abbrev pub marked : Known → Known
marked x = record { changes = []; saved = x.changes ∷ x.saved }

abbrev pub back_to : Known → List (List Change) → Known
back_to x [] = record { changes = []; saved = [] }
back_to x (cs ∷ css) = record { changes = cs; saved = css }

abbrev pub back_at : Known → Known
back_at x = back_to x x.saved

-- ---- meeting

-- the same registers with other tokens
abbrev pub seen_at : (ℕ → Option f.Token) → List Change → List Change
seen_at toks [] = []
seen_at toks (c ∷ cs) = change c.reg (toks c.reg) ∷ seen_at toks cs

-- these registers keep their token where it is the same there
abbrev pub agreed : (ℕ → Option f.Token) → List Change → ℕ → Option f.Token
agreed toks [] = toks
agreed toks (c ∷ cs) = agreed (put toks c.reg (both_tokens (toks c.reg) c.token)) cs

-- these registers have there the token that they have here, if they have one
abbrev pub all_kept : (ℕ → Option f.Token) → List Change → Bool
all_kept toks [] = true
all_kept toks (c ∷ cs) = keeps_token (toks c.reg) c.token && all_kept toks cs

-- registers from a bound on have no token
abbrev pub NoneFrom : ℕ → (ℕ → Option f.Token) → Type 0
NoneFrom R toks = (r : ℕ) → nat_lt r R ≡ false → toks r ≡ None
