-- The lines of code, by its instructions.
use Rattle.std.proofs.Common.{◌≡◌, ℕ, true, List, [], ◌∷◌, ◌++◌, map, refl, ap, sym, ◌∙◌}
use Rattle.std.specs.List.{flat_map}
use Rattle.target_code.specs.declared.tree.Code.{Code}
use Rattle.target_code.specs.declared.tree.Instr.{Instr, out-Instr}
use Rattle.target_code.specs.declared.tree.Instr.TheOpen as Open
use Rattle.target_code.specs.declared.tree.Instr.TheViews.{roll-Instr, roll-out-Instr, rolls-Const, rolls-Mov, rolls-Calc, rolls-Load, rolls-Store, rolls-Alloc, rolls-Free, rolls-Call, rolls-Par}
use Rattle.target_code.specs.declared.tree.Instr.TheFolds.{map-Instr, fold_out-Instr}
use Rattle.target_lines.specs.declared.line.Line.{Line}
use Rattle.target_lines.specs.declared.line.Phrase.TheVariants as phrase
use Rattle.target_lines.specs.Programs.{line, Lines, instr_step, code_step, instr_lines, code_lines, items_lines, is_flat}

pub each_at : (is : List Instr) (n : ℕ) → flat_map (λ (f : Lines). f n) (map instr_lines is) ≡ items_lines n is
each_at [] n = refl
each_at (i ∷ is) n = ap (λ (x : List Line). instr_lines i n ++ x) (each_at is n)

unfoldable pub layer : Open.Instr-F Instr Code → ℕ → List Line
layer x n = instr_step (map-Instr Instr Code Lines Lines instr_lines code_lines x) n

pub lines_out : (i : Instr) (n : ℕ) → instr_lines i n ≡ layer (out-Instr i) n
unfolding layer
lines_out i n = ap (λ (f : Lines). f n) (fold_out-Instr Lines Lines instr_step code_step i)

pub flat_at : (x : Open.Instr-F Instr Code) (n : ℕ) → is_flat x ≡ true → layer x n ≡ line n (phrase.Plain (roll-Instr x)) ∷ []
unfolding layer
flat_at (Open.If t c d) n h = absurd cc
flat_at (Open.While c t d) n h = absurd cc
flat_at (Open.Const to v) n h = ap (λ i. line n (phrase.Plain i) ∷ []) (sym (rolls-Const to v))
flat_at (Open.Mov to from) n h = ap (λ i. line n (phrase.Plain i) ∷ []) (sym (rolls-Mov to from))
flat_at (Open.Calc to c l r) n h = ap (λ i. line n (phrase.Plain i) ∷ []) (sym (rolls-Calc to c l r))
flat_at (Open.Load to b i) n h = ap (λ i. line n (phrase.Plain i) ∷ []) (sym (rolls-Load to b i))
flat_at (Open.Store b i v) n h = ap (λ i. line n (phrase.Plain i) ∷ []) (sym (rolls-Store b i v))
flat_at (Open.Alloc to len) n h = ap (λ i. line n (phrase.Plain i) ∷ []) (sym (rolls-Alloc to len))
flat_at (Open.Free b) n h = ap (λ i. line n (phrase.Plain i) ∷ []) (sym (rolls-Free b))
flat_at (Open.Call to name args) n h = ap (λ i. line n (phrase.Plain i) ∷ []) (sym (rolls-Call to name args))
flat_at (Open.Par l r) n h = ap (λ i. line n (phrase.Plain i) ∷ []) (sym (rolls-Par l r))

pub flat_lines : (i : Instr) (n : ℕ) → is_flat (out-Instr i) ≡ true → instr_lines i n ≡ line n (phrase.Plain i) ∷ []
flat_lines i n h = lines_out i n ∙ flat_at (out-Instr i) n h ∙ ap (λ j. line n (phrase.Plain j) ∷ []) (roll-out-Instr i)
