-- Where lends are not shown, none is read.
use Rattle.std.proofs.Common.{◌≡◌, ℕ, ◌/◌, cond, Bool, true, false, List, [], drop, Option, Some, None, refl, ap, sym, subst, ◌∙◌}
use Rattle.std.specs.Prelude.{IfSome}
use Rattle.target_code.specs.declared.tree.Rep.{Rep}
use Rattle.target_code.specs.declared.tree.Code.{Code}
use Rattle.target_code.specs.declared.tree.Instr.{Instr}
use Rattle.target_code.specs.declared.tree.Instr.TheOpen as Open
use Rattle.target_code.specs.declared.tree.Instr.TheViews.{outs-Const, outs-Mov, outs-Calc, outs-Load, outs-Store, outs-Alloc, outs-Free, outs-Call, outs-Par}
use Rattle.target_lines.specs.declared.line.Keyword.{Keyword}
use Rattle.target_lines.specs.declared.line.Keyword.TheVariants as keyword
use Rattle.target_lines.specs.declared.line.Phrase.{Phrase}
use Rattle.target_lines.specs.declared.line.Phrase.TheVariants as phrase
use Rattle.target_lines.specs.declared.line.Line.{Line}
use Rattle.target_lines.specs.LineWords.{keyword_of}
use Rattle.target_lines.specs.Programs.{open_lends, phrase_lends}
use Rattle.target_lines.specs.Reading as r

abbrev Quiet : Option Phrase → Type 0
Quiet o = IfSome o (λ p. phrase_lends p ≡ false)

abbrev shows : Open.Instr-F Instr Code → Bool
shows x = open_lends x

targeted_quiet : (to : List ℕ) (word : Option Keyword) (bs : List ℕ) → Quiet (r.targeted_by to word bs)
unfolding r.targeted_by
targeted_quiet to (Some keyword.Const) bs = ap shows (outs-Const _ _)
targeted_quiet to (Some keyword.Mov) bs = ap shows (outs-Mov _ _)
targeted_quiet to (Some (keyword.Calc word)) bs = ap shows (outs-Calc _ _ _ _)
targeted_quiet to (Some keyword.Load) bs = ap shows (outs-Load _ _ _)
targeted_quiet to (Some keyword.Alloc) bs = ap shows (outs-Alloc _ _)
targeted_quiet to (Some keyword.Call) bs = ap shows (outs-Call _ _ _)
targeted_quiet to _ bs = tt

input_quiet : (name : List ℕ) (o : Option (Rep × List ℕ)) → Quiet (r.input_with name o)
input_quiet name None = tt
input_quiet name (Some x) = refl

output_quiet : (o : Option (Rep × List ℕ)) → Quiet (r.output_with o)
output_quiet None = tt
output_quiet (Some x) = refl

ret_quiet : (bs : List ℕ) (b : Bool) → phrase_lends (cond b (phrase.Ret []) (phrase.Ret (r.registers_at bs).0)) ≡ false
ret_quiet bs true = refl
ret_quiet bs false = refl

opened_quiet : (word : Option Keyword) (bs : List ℕ) → Quiet (r.opened_by false word bs)
unfolding r.opened_by r.input_at r.proc_at r.store_at r.par_at r.branch_at
opened_quiet (Some keyword.Sepref) bs = refl
opened_quiet (Some keyword.In) bs = input_quiet (r.name_at bs).0 (r.rep_at (drop 1 (r.name_at bs).1))
opened_quiet (Some keyword.Out) bs = output_quiet (r.rep_at bs)
opened_quiet (Some keyword.Proc) bs = refl
opened_quiet (Some keyword.Store) bs = ap shows (outs-Store _ _ _)
opened_quiet (Some keyword.Free) bs = ap shows (outs-Free _)
opened_quiet (Some keyword.If) bs = refl
opened_quiet (Some keyword.Else) bs = refl
opened_quiet (Some keyword.While) bs = refl
opened_quiet (Some keyword.Do) bs = refl
opened_quiet (Some keyword.Call) bs = ap shows (outs-Call _ _ _)
opened_quiet (Some keyword.Par) bs = ap shows (outs-Par _ _)
opened_quiet (Some keyword.Ret) bs = ret_quiet bs (r.is_empty bs)
opened_quiet (Some keyword.End) bs = refl
opened_quiet _ bs = tt

either_quiet : (bs : List ℕ) (b : Bool) → Quiet (cond b (r.targeted_at bs) (let w = r.word_at bs in r.opened_by false (keyword_of w.0) (drop 1 w.1)))
unfolding r.targeted_at
either_quiet bs true =
    let to = r.registers_at bs in
    let w = r.word_at (drop 3 to.1) in
    targeted_quiet to.0 (keyword_of w.0) (drop 1 w.1)
either_quiet bs false = let w = r.word_at bs in opened_quiet (keyword_of w.0) (drop 1 w.1)

phrase_quiet : (bs : List ℕ) → Quiet (r.phrase_at false bs)
unfolding r.phrase_at
phrase_quiet bs = either_quiet bs (r.begins_register bs)

level_quiet : (n : ℕ) (o : Option Phrase) → Quiet o → IfSome (r.at_level n o) (λ l. phrase_lends l.phrase ≡ false)
level_quiet n None h = tt
level_quiet n (Some p) h = h

pub line_quiet : (lends : Bool) (bs : List ℕ) (l : Line) → Some l ≡ r.line_at lends bs → lends ≡ false → phrase_lends l.phrase ≡ false
unfolding r.line_at
line_quiet lends bs l e is =
    let n = r.spaces bs in
    let S : Option Line → Type 0 = λ o. IfSome o (λ k. phrase_lends k.phrase ≡ false) in
    let there : r.line_at false bs ≡ Some l = ap (λ b. r.line_at b bs) (sym is) ∙ sym e in
    subst S there (level_quiet (n / 2) (r.phrase_at false (drop n bs)) (phrase_quiet (drop n bs)))
