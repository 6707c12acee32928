-- The words of the format are told apart.
use Rattle.std.proofs.Common.{◌≡◌, ℕ, true, false, List, ◌∷◌, ◌++◌, Some, refl}
use Rattle.target_code.specs.declared.tree.Calc.TheVariants as calc
use Rattle.target_lines.specs.declared.line.Keyword.{Keyword}
use Rattle.target_lines.specs.declared.line.Keyword.TheVariants as keyword
use Rattle.target_lines.specs.LineWords.{keyword_text, keyword_of, keyword_names}
use Rattle.target_lines.specs.Fits.{is_word}
use Rattle.target_lines.specs.Reading.{begins_register}

pub keyword_past : (k : Keyword) → keyword_of (keyword_text k) ≡ Some k
unfolding keyword_of keyword_names
keyword_past keyword.Sepref = refl
keyword_past keyword.In = refl
keyword_past keyword.Out = refl
keyword_past keyword.Proc = refl
keyword_past keyword.Const = refl
keyword_past keyword.Mov = refl
keyword_past keyword.Load = refl
keyword_past keyword.Store = refl
keyword_past keyword.Alloc = refl
keyword_past keyword.Free = refl
keyword_past keyword.If = refl
keyword_past keyword.Else = refl
keyword_past keyword.While = refl
keyword_past keyword.Do = refl
keyword_past keyword.Call = refl
keyword_past keyword.Par = refl
keyword_past keyword.Ret = refl
keyword_past keyword.End = refl
keyword_past (keyword.Calc calc.Add) = refl
keyword_past (keyword.Calc calc.Sub) = refl
keyword_past (keyword.Calc calc.Mul) = refl
keyword_past (keyword.Calc calc.Div) = refl
keyword_past (keyword.Calc calc.Mod) = refl
keyword_past (keyword.Calc calc.Min) = refl
keyword_past (keyword.Calc calc.Max) = refl
keyword_past (keyword.Calc calc.Lt) = refl
keyword_past (keyword.Calc calc.Le) = refl
keyword_past (keyword.Calc calc.Eq) = refl
keyword_past (keyword.Calc calc.Ne) = refl
keyword_past (keyword.Calc calc.And) = refl
keyword_past (keyword.Calc calc.Or) = refl
keyword_past (keyword.Calc calc.Xor) = refl
keyword_past (keyword.Calc calc.Shl) = refl
keyword_past (keyword.Calc calc.Shr) = refl

pub keyword_is_word : (k : Keyword) → is_word (keyword_text k) ≡ true
keyword_is_word keyword.Sepref = refl
keyword_is_word keyword.In = refl
keyword_is_word keyword.Out = refl
keyword_is_word keyword.Proc = refl
keyword_is_word keyword.Const = refl
keyword_is_word keyword.Mov = refl
keyword_is_word keyword.Load = refl
keyword_is_word keyword.Store = refl
keyword_is_word keyword.Alloc = refl
keyword_is_word keyword.Free = refl
keyword_is_word keyword.If = refl
keyword_is_word keyword.Else = refl
keyword_is_word keyword.While = refl
keyword_is_word keyword.Do = refl
keyword_is_word keyword.Call = refl
keyword_is_word keyword.Par = refl
keyword_is_word keyword.Ret = refl
keyword_is_word keyword.End = refl
keyword_is_word (keyword.Calc calc.Add) = refl
keyword_is_word (keyword.Calc calc.Sub) = refl
keyword_is_word (keyword.Calc calc.Mul) = refl
keyword_is_word (keyword.Calc calc.Div) = refl
keyword_is_word (keyword.Calc calc.Mod) = refl
keyword_is_word (keyword.Calc calc.Min) = refl
keyword_is_word (keyword.Calc calc.Max) = refl
keyword_is_word (keyword.Calc calc.Lt) = refl
keyword_is_word (keyword.Calc calc.Le) = refl
keyword_is_word (keyword.Calc calc.Eq) = refl
keyword_is_word (keyword.Calc calc.Ne) = refl
keyword_is_word (keyword.Calc calc.And) = refl
keyword_is_word (keyword.Calc calc.Or) = refl
keyword_is_word (keyword.Calc calc.Xor) = refl
keyword_is_word (keyword.Calc calc.Shl) = refl
keyword_is_word (keyword.Calc calc.Shr) = refl

pub keyword_is_no_register : (k : Keyword) (more : List ℕ) → begins_register (keyword_text k ++ (32 ∷ more)) ≡ false
keyword_is_no_register keyword.Sepref more = refl
keyword_is_no_register keyword.In more = refl
keyword_is_no_register keyword.Out more = refl
keyword_is_no_register keyword.Proc more = refl
keyword_is_no_register keyword.Const more = refl
keyword_is_no_register keyword.Mov more = refl
keyword_is_no_register keyword.Load more = refl
keyword_is_no_register keyword.Store more = refl
keyword_is_no_register keyword.Alloc more = refl
keyword_is_no_register keyword.Free more = refl
keyword_is_no_register keyword.If more = refl
keyword_is_no_register keyword.Else more = refl
keyword_is_no_register keyword.While more = refl
keyword_is_no_register keyword.Do more = refl
keyword_is_no_register keyword.Call more = refl
keyword_is_no_register keyword.Par more = refl
keyword_is_no_register keyword.Ret more = refl
keyword_is_no_register keyword.End more = refl
keyword_is_no_register (keyword.Calc calc.Add) more = refl
keyword_is_no_register (keyword.Calc calc.Sub) more = refl
keyword_is_no_register (keyword.Calc calc.Mul) more = refl
keyword_is_no_register (keyword.Calc calc.Div) more = refl
keyword_is_no_register (keyword.Calc calc.Mod) more = refl
keyword_is_no_register (keyword.Calc calc.Min) more = refl
keyword_is_no_register (keyword.Calc calc.Max) more = refl
keyword_is_no_register (keyword.Calc calc.Lt) more = refl
keyword_is_no_register (keyword.Calc calc.Le) more = refl
keyword_is_no_register (keyword.Calc calc.Eq) more = refl
keyword_is_no_register (keyword.Calc calc.Ne) more = refl
keyword_is_no_register (keyword.Calc calc.And) more = refl
keyword_is_no_register (keyword.Calc calc.Or) more = refl
keyword_is_no_register (keyword.Calc calc.Xor) more = refl
keyword_is_no_register (keyword.Calc calc.Shl) more = refl
keyword_is_no_register (keyword.Calc calc.Shr) more = refl
