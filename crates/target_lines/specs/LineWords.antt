-- The words of the format.
use Rattle.std.specs.Prelude.{ℕ, List, [], ◌∷◌, Option, Some, None, if◌then◌else◌, map, codes}
use Rattle.std.specs.Str.{bytes_eq}
use Rattle.target_code.specs.declared.tree.Rep.{Rep}
use Rattle.target_lines.specs.declared.words.TheConstants as constants
use Rattle.target_code.specs.declared.tree.Calc.{Calc}
use Rattle.target_code.specs.declared.tree.Calc.TheVariants as calc
use Rattle.target_lines.specs.declared.line.Keyword.{Keyword}
use Rattle.target_lines.specs.declared.line.Keyword.TheVariants as keyword

abbrev pub calc_text : Calc → List ℕ
calc_text calc.Add = codes "add"
calc_text calc.Sub = codes "sub"
calc_text calc.Mul = codes "mul"
calc_text calc.Div = codes "div"
calc_text calc.Mod = codes "mod"
calc_text calc.Min = codes "min"
calc_text calc.Max = codes "max"
calc_text calc.Lt = codes "lt"
calc_text calc.Le = codes "le"
calc_text calc.Eq = codes "eq"
calc_text calc.Ne = codes "ne"
calc_text calc.And = codes "and"
calc_text calc.Or = codes "or"
calc_text calc.Xor = codes "xor"
calc_text calc.Shl = codes "shl"
calc_text calc.Shr = codes "shr"

abbrev pub keyword_text : Keyword → List ℕ
keyword_text keyword.Sepref = codes "sepref"
keyword_text keyword.In = codes "in"
keyword_text keyword.Out = codes "out"
keyword_text keyword.Proc = codes "proc"
keyword_text keyword.Const = codes "const"
keyword_text keyword.Mov = codes "mov"
keyword_text (keyword.Calc c) = calc_text c
keyword_text keyword.Load = codes "load"
keyword_text keyword.Store = codes "store"
keyword_text keyword.Alloc = codes "alloc"
keyword_text keyword.Free = codes "free"
keyword_text keyword.If = codes "if"
keyword_text keyword.Else = codes "else"
keyword_text keyword.While = codes "while"
keyword_text keyword.Do = codes "do"
keyword_text keyword.Call = codes "call"
keyword_text keyword.Par = codes "par"
keyword_text keyword.Ret = codes "ret"
keyword_text keyword.End = codes "end"

-- the first of these whose text is the word
abbrev pub name_of : {A : Type 0} → List ℕ → List (List ℕ × A) → Option A
name_of word [] = None
name_of word (x ∷ xs) = if bytes_eq x.0 word then Some x.1 else name_of word xs

unfoldable pub keyword_names : List (List ℕ × Keyword)
keyword_names = map (λ x. (x.0.now, x.1)) constants.KEYWORDS

unfoldable pub rep_names : List (List ℕ × Rep)
rep_names = map (λ x. (x.0.now, x.1)) constants.REPS

unfoldable pub keyword_of : List ℕ → Option Keyword
keyword_of word = name_of word keyword_names

unfoldable pub rep_of : List ℕ → Option Rep
rep_of word = name_of word rep_names
