-- Each phrase and each line is read again.
use Rattle.std.proofs.Common.{◌≡◌, ℕ, zero, suc, ◌*◌, ◌/◌, nat_eq, not, cond, Bool, true, false, List, [], ◌∷◌, ◌++◌, length, drop, Option, Some, None, codes, decimal, refl, ap, sym, ◌∙◌, append_assoc, arith}
use Rattle.std.proofs.lemmas.Bool.{eqb-true}
use Rattle.std.proofs.lemmas.List.{append-nil}
use Rattle.std.proofs.Math.Seq.{drop-append_seam}
use Rattle.target_code.specs.declared.tree.Rep.{Rep}
use Rattle.target_code.specs.declared.tree.Rep.TheVariants as rep
use Rattle.target_code.specs.declared.tree.Branch.{Branch}
use Rattle.target_code.specs.declared.tree.Code.{Code}
use Rattle.target_code.specs.declared.tree.Instr.{Instr, out-Instr}
use Rattle.target_code.specs.declared.tree.Instr.TheOpen as Open
use Rattle.target_code.specs.declared.tree.Instr.TheViews.{roll-Instr, roll-out-Instr, rolls-Const, rolls-Mov, rolls-Calc, rolls-Load, rolls-Store, rolls-Alloc, rolls-Free, rolls-Call, rolls-Par}
use Rattle.target_code.specs.declared.tree.Instr.TheVariants as instr
use Rattle.target_lines.specs.declared.line.Keyword.TheVariants as keyword
use Rattle.target_lines.specs.declared.line.Phrase.{Phrase}
use Rattle.target_lines.specs.declared.line.Phrase.TheVariants as phrase
use Rattle.target_lines.specs.declared.line.Line.{Line}
use Rattle.target_lines.specs.LineWords.{calc_text, keyword_of, keyword_names, rep_of, rep_names}
use Rattle.target_code.specs.Texts.{rep_text, indent}
use Rattle.target_lines.specs.Texts as t
use Rattle.target_code.specs.Names.{is_name}
use Rattle.target_lines.specs.Fits.{IsSmall, AreSmall, RepFits, BranchFits, PlainFits, PhraseFits, LineFits}
use Rattle.target_lines.specs.Reading as r
use Rattle.target_lines.proofs.Pieces.{number_last, small_past, small_last, register_past, register_last, name_past, registers_last}
use Rattle.target_lines.proofs.Phrases.{use_past, branch_past, opened_past, targeted_past}

abbrev Made : Type 0
Made = Option Phrase

abbrev plain : Instr → Made
plain i = Some (phrase.Plain i)

use_last : (name args : List ℕ) → is_name name ≡ true → AreSmall args → r.use_at (t.use_text name args) ≡ ((name, args), [])
use_last name args h fits = ap r.use_at (sym (append-nil (t.use_text name args))) ∙ use_past name args [] h fits

branch_last : (lends : Bool) (b : Branch) → BranchFits lends b → r.branch_at lends (t.branch_text lends b) ≡ (b, [])
branch_last lends b fits = ap (r.branch_at lends) (sym (append-nil (t.branch_text lends b))) ∙ branch_past lends b [] fits

-- two registers with a space between them
pair_past : (a b : ℕ) (F : ℕ → ℕ → Made) → IsSmall a → IsSmall b
    → (let x = r.register_at (t.register_text a ++ (32 ∷ t.register_text b)) in F x.0 (r.register_at (drop 1 x.1)).0) ≡ F a b
pair_past a b F p q =
    ap (λ (x : ℕ × List ℕ). F x.0 (r.register_at (drop 1 x.1)).0) (register_past a (32 ∷ t.register_text b) p refl)
    ∙ ap (λ (x : ℕ × List ℕ). F a x.0) (register_last b q)

single : (to : ℕ) → IsSmall to → AreSmall (to ∷ [])
single to p = (p, tt)

-- one register before ` = `
one_past : (lends : Bool) (to : ℕ) (behind : List ℕ) → r.phrase_at lends (t.register_text to ++ (codes " = " ++ behind)) ≡ r.phrase_at lends (t.registers_text (to ∷ []) ++ (codes " = " ++ behind))
one_past lends to behind = ap (λ (x : List ℕ). r.phrase_at lends (x ++ (codes " = " ++ behind))) (sym (append-nil (t.register_text to)))

plain_past : (lends : Bool) (x : Open.Instr-F Instr Code) → PlainFits lends x → r.phrase_at lends (t.open_text lends x) ≡ plain (roll-Instr x)
unfolding r.opened_by r.targeted_by r.store_at r.par_at
plain_past lends (Open.Const to v) fits =
    one_past lends to (codes "const " ++ decimal v)
    ∙ targeted_past lends to [] keyword.Const (decimal v) (single to fits.0)
    ∙ ap (λ (n : ℕ × List ℕ). plain (instr.Const to n.0)) (number_last v fits.1)
    ∙ ap plain (sym (rolls-Const to v))
plain_past lends (Open.Mov to from) fits =
    one_past lends to (codes "mov " ++ t.register_text from)
    ∙ targeted_past lends to [] keyword.Mov (t.register_text from) (single to fits.0)
    ∙ ap (λ (n : ℕ × List ℕ). plain (instr.Mov to n.0)) (register_last from fits.1)
    ∙ ap plain (sym (rolls-Mov to from))
plain_past lends (Open.Calc to c l x) fits =
    let more = t.register_text l ++ (codes " " ++ t.register_text x) in
    one_past lends to (calc_text c ++ (codes " " ++ more))
    ∙ targeted_past lends to [] (keyword.Calc c) more (single to fits.0)
    ∙ pair_past l x (λ a b. plain (instr.Calc to c a b)) fits.1 fits.2
    ∙ ap plain (sym (rolls-Calc to c l x))
plain_past lends (Open.Load to b i) fits =
    let more = t.register_text b ++ (codes " " ++ t.register_text i) in
    one_past lends to (codes "load " ++ more)
    ∙ targeted_past lends to [] keyword.Load more (single to fits.0)
    ∙ pair_past b i (λ x y. plain (instr.Load to x y)) fits.1 fits.2
    ∙ ap plain (sym (rolls-Load to b i))
plain_past lends (Open.Store b i v) fits =
    let rest = t.register_text i ++ (codes " " ++ t.register_text v) in
    opened_past lends keyword.Store (t.register_text b ++ (codes " " ++ rest))
    ∙ ap (λ (x : ℕ × List ℕ). let y = r.register_at (drop 1 x.1) in let z = r.register_at (drop 1 y.1) in plain (instr.Store x.0 y.0 z.0)) (register_past b (32 ∷ rest) fits.0 refl)
    ∙ pair_past i v (λ y z. plain (instr.Store b y z)) fits.1 fits.2
    ∙ ap plain (sym (rolls-Store b i v))
plain_past lends (Open.Alloc to len) fits =
    one_past lends to (codes "alloc " ++ t.register_text len)
    ∙ targeted_past lends to [] keyword.Alloc (t.register_text len) (single to fits.0)
    ∙ ap (λ (n : ℕ × List ℕ). plain (instr.Alloc to n.0)) (register_last len fits.1)
    ∙ ap plain (sym (rolls-Alloc to len))
plain_past lends (Open.Free b) fits =
    opened_past lends keyword.Free (t.register_text b)
    ∙ ap (λ (n : ℕ × List ℕ). plain (instr.Free n.0)) (register_last b fits)
    ∙ ap plain (sym (rolls-Free b))
plain_past lends (Open.If test c d) fits = absurd fits
plain_past lends (Open.While c test d) fits = absurd fits
plain_past lends (Open.Call [] name args) fits =
    opened_past lends keyword.Call (t.use_text name args)
    ∙ ap (λ (x : (List ℕ × List ℕ) × List ℕ). plain (instr.Call [] x.0.0 x.0.1)) (use_last name args fits.1 fits.2)
    ∙ ap plain (sym (rolls-Call [] name args))
plain_past lends (Open.Call (a ∷ to) name args) fits =
    let used = t.use_text name args in
    ap (r.phrase_at lends) (append_assoc (t.registers_text (a ∷ to)) (codes " = ") (codes "call " ++ used))
    ∙ targeted_past lends a to keyword.Call used fits.0
    ∙ ap (λ (x : (List ℕ × List ℕ) × List ℕ). plain (instr.Call (a ∷ to) x.0.0 x.0.1)) (use_last name args fits.1 fits.2)
    ∙ ap plain (sym (rolls-Call (a ∷ to) name args))
plain_past lends (Open.Par left right) fits =
    let rest = codes " | " ++ t.branch_text lends right in
    opened_past lends keyword.Par (t.branch_text lends left ++ rest)
    ∙ ap (λ (x : Branch × List ℕ). let y = r.branch_at lends (drop 3 x.1) in plain (instr.Par x.0 y.0)) (branch_past lends left rest fits.0)
    ∙ ap (λ (y : Branch × List ℕ). plain (instr.Par left y.0)) (branch_last lends right fits.1)
    ∙ ap plain (sym (rolls-Par left right))

abbrev Limited : Type 0
Limited = Option (Rep × List ℕ)

rep_past : (x : Rep) (kept : Bool) → RepFits x → r.rep_at (rep_text x ++ t.kept_text kept) ≡ Some (x, t.kept_text kept)
unfolding r.rep_at r.letters rep_of rep_names
rep_past rep.Word true fits = refl
rep_past rep.Word false fits = refl
rep_past rep.Flag true fits = refl
rep_past rep.Flag false fits = refl
rep_past rep.Array true fits = refl
rep_past rep.Array false fits = refl
rep_past rep.Slice true fits = refl
rep_past rep.Slice false fits = refl
rep_past rep.Vec true fits = refl
rep_past rep.Vec false fits = refl
rep_past rep.Hset true fits = refl
rep_past rep.Hset false fits = refl
rep_past rep.Hmap true fits = refl
rep_past rep.Hmap false fits = refl
rep_past rep.Heap true fits = refl
rep_past rep.Heap false fits = refl
rep_past (rep.Bits u) true fits = ap (λ (n : ℕ × List ℕ). let x : Limited = Some (rep.Bits n.0, n.1) in x) (small_past u (t.kept_text true) fits refl)
rep_past (rep.Bits u) false fits = ap (λ (n : ℕ × List ℕ). let x : Limited = Some (rep.Bits n.0, n.1) in x) (small_past u (t.kept_text false) fits refl)
rep_past (rep.Amap u) true fits = ap (λ (n : ℕ × List ℕ). let x : Limited = Some (rep.Amap n.0, n.1) in x) (small_past u (t.kept_text true) fits refl)
rep_past (rep.Amap u) false fits = ap (λ (n : ℕ × List ℕ). let x : Limited = Some (rep.Amap n.0, n.1) in x) (small_past u (t.kept_text false) fits refl)

rep_last : (x : Rep) → RepFits x → r.rep_at (rep_text x) ≡ Some (x, [])
rep_last x fits = ap r.rep_at (sym (append-nil (rep_text x))) ∙ rep_past x false fits

kept_read : (kept : Bool) → not (r.is_empty (t.kept_text kept)) ≡ kept
kept_read true = refl
kept_read false = refl

input_past : (lends : Bool) (name : List ℕ) (x : Rep) (kept : Bool) → is_name name ≡ true → RepFits x
    → r.phrase_at lends (t.input_text (record { name = name; rep = x; kept = kept })) ≡ Some (phrase.In (record { name = name; rep = x; kept = kept }))
unfolding r.opened_by r.input_at
input_past lends name x kept h fits =
    let after = rep_text x ++ t.kept_text kept in
    opened_past lends keyword.In (name ++ (32 ∷ after))
    ∙ ap (λ (w : List ℕ × List ℕ). r.input_with w.0 (r.rep_at (drop 1 w.1))) (name_past name (32 ∷ after) h refl)
    ∙ ap (r.input_with name) (rep_past x kept fits)
    ∙ ap (λ k. let y : Made = Some (phrase.In (record { name = name; rep = x; kept = k })) in y) (kept_read kept)

phrase_past : (lends : Bool) (p : Phrase) → PhraseFits lends p → r.phrase_at lends (t.phrase_text lends p) ≡ Some p
unfolding r.opened_by r.input_at r.proc_at r.phrase_at r.letters keyword_of keyword_names
phrase_past lends (phrase.Sepref true) fits = refl
phrase_past lends (phrase.Sepref false) fits = refl
phrase_past lends (phrase.In p) fits = input_past lends p.name p.rep p.kept fits.0 fits.1
phrase_past lends (phrase.Out x) fits = opened_past lends keyword.Out (rep_text x) ∙ ap r.output_with (rep_last x fits)
phrase_past lends (phrase.Proc name args regs) fits =
    let after = decimal args ++ (codes " " ++ decimal regs) in
    opened_past lends keyword.Proc (name ++ (32 ∷ after))
    ∙ ap (λ (w : List ℕ × List ℕ). let a = r.small_at (drop 1 w.1) in let b = r.small_at (drop 1 a.1) in let x : Made = Some (phrase.Proc w.0 a.0 b.0) in x) (name_past name (32 ∷ after) fits.0 refl)
    ∙ ap (λ (a : ℕ × List ℕ). let b = r.small_at (drop 1 a.1) in let x : Made = Some (phrase.Proc name a.0 b.0) in x) (small_past args (32 ∷ decimal regs) fits.1 refl)
    ∙ ap (λ (b : ℕ × List ℕ). let x : Made = Some (phrase.Proc name args b.0) in x) (small_last regs fits.2)
phrase_past lends (phrase.Plain i) fits = plain_past lends (out-Instr i) fits ∙ ap plain (roll-out-Instr i)
phrase_past lends (phrase.If test) fits = opened_past lends keyword.If (t.register_text test) ∙ ap (λ (n : ℕ × List ℕ). let x : Made = Some (phrase.If n.0) in x) (register_last test fits)
phrase_past lends phrase.Else fits = refl
phrase_past lends phrase.While fits = refl
phrase_past lends (phrase.Do test) fits = opened_past lends keyword.Do (t.register_text test) ∙ ap (λ (n : ℕ × List ℕ). let x : Made = Some (phrase.Do n.0) in x) (register_last test fits)
phrase_past lends (phrase.Ret []) fits = refl
phrase_past lends (phrase.Ret (a ∷ rs)) fits = opened_past lends keyword.Ret (t.registers_text (a ∷ rs)) ∙ ap (λ (x : List ℕ × List ℕ). let y : Made = Some (phrase.Ret x.0) in y) (registers_last a rs fits)
phrase_past lends phrase.End fits = refl

-- ---- lines

-- no phrase begins with a space
spaced : (lends : Bool) (bs : List ℕ) → r.phrase_at lends (32 ∷ bs) ≡ None
unfolding r.phrase_at r.opened_by r.letters keyword_of keyword_names
spaced lends [] = refl
spaced lends (b ∷ bs) = refl

no_space : (lends : Bool) (bs : List ℕ) (p : Phrase) → r.phrase_at lends bs ≡ Some p → r.begins 32 bs ≡ false
no_space lends [] p e = refl
no_space lends (b ∷ bs) p e =
    let P : Bool → Type 0 = λ v. nat_eq b 32 ≡ v → v ≡ false in
    let all : (v : Bool) → P v = λ v. elim v as P [
      | true ↦ λ is. (let same : b ≡ 32 = eqb-true b 32 is in
          let none : r.phrase_at lends (b ∷ bs) ≡ None = ap (λ x. r.phrase_at lends (x ∷ bs)) same ∙ spaced lends bs in
          let clash : Some p ≡ None = sym e ∙ none in
          absurd cc)
      | false ↦ λ is. refl
    ] in
    all (nat_eq b 32) refl

length_indent : (n : ℕ) → length (indent n) ≡ 2 * n
length_indent zero = refl
length_indent (suc n) = omega (arith, length_indent n)

no_more_spaces : (bs : List ℕ) → r.begins 32 bs ≡ false → r.spaces bs ≡ 0
unfolding r.spaces
no_more_spaces [] h = refl
no_more_spaces (b ∷ bs) h = ap (λ v. cond v (suc (r.spaces bs)) 0) h

spaces_past : (n : ℕ) (bs : List ℕ) → r.begins 32 bs ≡ false → r.spaces (indent n ++ bs) ≡ length (indent n)
unfolding r.spaces
spaces_past zero bs h = no_more_spaces bs h
spaces_past (suc n) bs h = ap (λ k. suc (suc k)) (spaces_past n bs h)

-- a line that has a text is read from it
pub line_past : (lends : Bool) (l : Line) → LineFits lends l → r.line_at lends (t.line_text lends l) ≡ Some l
unfolding r.line_at
line_past lends l fits =
    let bs = t.phrase_text lends l.phrase in
    let read = phrase_past lends l.phrase fits in
    let level : length (indent l.level) / 2 ≡ l.level = omega (arith, length_indent l.level) in
    ap (λ n. r.at_level (n / 2) (r.phrase_at lends (drop n (indent l.level ++ bs)))) (spaces_past l.level bs (no_space lends bs l.phrase read))
    ∙ ap (λ x. r.at_level (length (indent l.level) / 2) (r.phrase_at lends x)) (drop-append_seam (indent l.level) bs)
    ∙ ap (r.at_level (length (indent l.level) / 2)) read
    ∙ ap (λ n. let x : Option Line = Some (record { level = n; phrase = l.phrase }) in x) level
