-- A text behind its first line, read line by line.
use Rattle.std.specs.Prelude.{◌≡◌, ℕ, suc, Bool, true, false, List, [], ◌∷◌, ◌++◌, length, Option, Some, None}
use Rattle.std.specs.List.{AllByRecursion}
use Rattle.target_lines.specs.declared.line.Line.{Line}
use Rattle.target_lines.specs.Texts.{line_text, IsOneLine}
use Rattle.target_lines.specs.Fits.{LineFits}
use Rattle.target_lines.specs.Programs.{lines_text, phrase_lends, procs_lend}
use Rattle.target_judge.specs.Shape.{and_then}
use Rattle.target_judge.specs.Judging.{Judged, unread, judge, is_whole}

-- line by line
abbrev pub judge_all : List Line → Judged → Option Judged
judge_all [] j = Some j
judge_all (l ∷ ls) j = and_then (judge l j) (judge_all ls)

-- some line has the text, and is taken; it is the one that fits with this text, and has no lends where these are not shown
pub record Goes (lends : Bool) (text : List ℕ) (j next : Judged) : Type 0 where
  pub line : Line
  pub spelled : text ≡ line_text lends line
  pub taken : judge line j ≡ Some next
  pub one : (l : Line) → LineFits lends l → text ≡ line_text lends l → l ≡ line
  pub shown : lends ≡ false → phrase_lends line.phrase ≡ false

-- no line that has the text is taken
abbrev pub Stays : Bool → List ℕ → Judged → Type 0
Stays lends text j = (l : Line) → LineFits lends l → text ≡ line_text lends l → judge l j ≡ None

-- a line that was read: the one that fits with its text
pub record IsRead (lends : Bool) (l : Line) : Type 0 where
  pub one : (k : Line) → LineFits lends k → line_text lends l ≡ line_text lends k → k ≡ l
  pub inside : IsOneLine (line_text lends l)
  pub shown : lends ≡ false → phrase_lends l.phrase ≡ false

-- so many lines were taken that say this, and the rest is left
pub record Took (lends : Bool) (bytes : List ℕ) (count : ℕ) (j : Judged) (rest : List ℕ) : Type 0 where
  pub lines : List Line
  pub read : AllByRecursion (IsRead lends) lines
  pub spelled : bytes ≡ lines_text lends lines ++ rest
  pub said : judge_all lines unread ≡ Some j
  pub many : length lines ≡ count

-- the line behind those is not taken: what is left is not empty, and no line that is taken begins it
pub record Stuck (lends : Bool) (bytes : List ℕ) (number : ℕ) : Type 0 where
  pub before : ℕ
  pub judged : Judged
  pub rest : List ℕ
  pub took : Took lends bytes before judged rest
  pub next : number ≡ suc before
  pub some : rest ≡ [] → ⊥
  pub stops : (l : Line) (more : List ℕ) → LineFits lends l → rest ≡ line_text lends l ++ (10 ∷ more) → judge l judged ≡ None

-- a text whose first line says whether some branch has a lend may end here
abbrev pub Ends : Bool → Judged → Type 0
Ends lends j = (is_whole j.state.procs j.state.spot j.told ≡ true) × (procs_lend j.state.procs ≡ lends)
