-- No line has a line feed in it, so a text is cut into its lines at its line feeds.
use Rattle.std.proofs.Common.{◌≡◌, ℕ, zero, suc, ◌<◌, ◌^◌, ◌%◌, ◌+◌, not, Bool, true, false, nat_eq, List, [], ◌∷◌, ◌++◌, Option, Some, None, codes, decimal, refl, ap, sym, subst, ◌∙◌, arith}
use Rattle.std.specs.List.{flat_map, AllByRecursion}
use Rattle.std.specs.Cmp.Derive.{both_true}
use Rattle.std.proofs.lemmas.Bool.{eqb-true}
use Rattle.std.proofs.lemmas.Fmt.{decimal_by_steps}
use Rattle.std.proofs.lemmas.List.Concat.{flat_map-cons}
use Rattle.std.proofs.lemmas.List.Folds.{list_all-append}
use Rattle.target_code.specs.declared.tree.Rep.{Rep}
use Rattle.target_code.specs.declared.tree.Rep.TheVariants as rep
use Rattle.target_code.specs.declared.tree.Calc.{Calc}
use Rattle.target_code.specs.declared.tree.Calc.TheVariants as calc
use Rattle.target_code.specs.declared.tree.Branch.{Branch}
use Rattle.target_code.specs.declared.tree.Hand.{Hand}
use Rattle.target_code.specs.declared.tree.Instr.{out-Instr}
use Rattle.target_code.specs.declared.tree.Instr.TheOpen as Open
use Rattle.target_code.specs.Names.{is_name}
use Rattle.target_lines.specs.declared.line.Line.{Line}
use Rattle.target_lines.specs.declared.line.Phrase.{Phrase}
use Rattle.target_lines.specs.declared.line.Phrase.TheVariants as phrase
use Rattle.target_lines.specs.LineWords.{calc_text}
use Rattle.target_code.specs.Texts.{rep_text, indent}
use Rattle.target_lines.specs.Texts as t
use Rattle.target_lines.specs.Texts.{is_inside, IsOneLine}
use Rattle.target_lines.specs.Reading.{is_letter}
use Rattle.target_lines.specs.Fits.{is_word, IsSmall, AreSmall, SpanFits, HandFits, LendsFit, BranchFits, RepFits, PlainFits, PhraseFits, LineFits}
use Rattle.target_lines.proofs.Pieces.{and_parts, name_is_word}

pub joined : (xs ys : List ℕ) → IsOneLine xs → IsOneLine ys → IsOneLine (xs ++ ys)
joined xs ys h k = list_all-append is_inside xs ys ∙ both_true h k

letter_inside : (b : ℕ) → is_letter b ≡ true → is_inside b ≡ true
letter_inside b h = by_test (nat_eq b 10) refl
  where
    by_test : (v : Bool) → nat_eq b 10 ≡ v → not v ≡ true
    by_test true e =
        let clash : false ≡ true = sym (ap is_letter (eqb-true b 10 e)) ∙ h in
        absurd cc
    by_test false e = refl

word_inside : (w : List ℕ) → is_word w ≡ true → IsOneLine w
word_inside [] h = refl
word_inside (b ∷ bs) h = let parts = and_parts (is_letter b) (is_word bs) h in both_true (letter_inside b parts.0) (word_inside bs parts.1)

name_inside : (name : List ℕ) → is_name name ≡ true → IsOneLine name
name_inside name h = word_inside name (name_is_word name h)

digit_inside : (d : ℕ) → IsOneLine ((48 + d) ∷ [])
digit_inside d = both_true (by_test (nat_eq (48 + d) 10) refl) refl
  where
    by_test : (v : Bool) → nat_eq (48 + d) 10 ≡ v → not v ≡ true
    by_test true e = let same : 48 + d ≡ 10 = eqb-true (48 + d) 10 e in absurd (omega arith)
    by_test false e = refl

number_inside : (n : ℕ) → n < 2 ^ 64 → IsOneLine (decimal n)
number_inside n lt = decimal_by_steps (λ m ds. IsOneLine ds) (λ d small. digit_inside d) (λ m ds large so_far. joined ds ((48 + m % 10) ∷ []) so_far (digit_inside (m % 10))) n lt

small_inside : (n : ℕ) → IsSmall n → IsOneLine (decimal n)
small_inside n lt = number_inside n (omega arith)

register_inside : (r : ℕ) → IsSmall r → IsOneLine (t.register_text r)
register_inside r lt = small_inside r lt

-- things with commas between them
listed_inside : {A : Type 0} (text : A → List ℕ) (P : A → Type 0) → ((x : A) → P x → IsOneLine (text x)) → (xs : List A) → AllByRecursion P xs → IsOneLine (t.listed text xs)
listed_inside text P each [] h = refl
listed_inside {A = A} text P each (x ∷ xs) h = joined (text x) (flat_map (λ y. codes ", " ++ text y) xs) (each x h.0) (rest xs h.1)
  where
    rest : (ys : List A) → AllByRecursion P ys → IsOneLine (flat_map (λ y. codes ", " ++ text y) ys)
    rest [] k = refl
    rest (y ∷ ys) k = subst IsOneLine (sym (flat_map-cons (λ z. codes ", " ++ text z) y ys)) (joined (codes ", " ++ text y) (flat_map (λ z. codes ", " ++ text z) ys) (each y k.0) (rest ys k.1))

registers_inside : (rs : List ℕ) → AreSmall rs → IsOneLine (t.registers_text rs)
registers_inside = listed_inside t.register_text IsSmall register_inside

targets_inside : (rs : List ℕ) → AreSmall rs → IsOneLine (t.targets_text rs)
targets_inside [] h = refl
targets_inside (r ∷ rs) h = joined (t.registers_text (r ∷ rs)) (codes " = ") (registers_inside (r ∷ rs) h) refl

span_inside : (s : Option (ℕ × ℕ)) → SpanFits s → IsOneLine (t.span_text s)
span_inside None h = refl
span_inside (Some s) h = joined (t.register_text s.0) (codes " for " ++ t.register_text s.1) (register_inside s.0 h.0) (register_inside s.1 h.1)

hand_inside : (x : Hand) → HandFits x → IsOneLine (t.hand_text x)
hand_inside x h = joined (t.register_text x.block) (t.span_text x.span) (register_inside x.block h.0) (span_inside x.span h.1)

hands_inside : (hs : List Hand) → AllByRecursion HandFits hs → IsOneLine (t.hands_text hs)
hands_inside = listed_inside t.hand_text HandFits hand_inside

lends_inside : (lends : Bool) (hs : List Hand) → LendsFit lends hs → IsOneLine (t.lends_text lends hs)
lends_inside false hs h = refl
lends_inside true hs h = joined (t.hands_text hs) (codes "]") (hands_inside hs h) refl

use_inside : (name args : List ℕ) → is_name name ≡ true → AreSmall args → IsOneLine (t.use_text name args)
use_inside name args h k = joined name (codes "(" ++ (t.registers_text args ++ codes ")")) (name_inside name h) (joined (t.registers_text args) (codes ")") (registers_inside args k) refl)

branch_inside : (lends : Bool) (b : Branch) → BranchFits lends b → IsOneLine (t.branch_text lends b)
branch_inside lends b h =
    let hands = t.hands_text b.hands ++ (codes "]" ++ t.lends_text lends b.lends) in
    joined (t.targets_text b.to) (t.use_text b.proc b.args ++ (codes " hand [" ++ hands)) (targets_inside b.to h.to)
    (joined (t.use_text b.proc b.args) (codes " hand [" ++ hands) (use_inside b.proc b.args h.proc h.args)
    (joined (t.hands_text b.hands) (codes "]" ++ t.lends_text lends b.lends) (hands_inside b.hands h.hands) (lends_inside lends b.lends h.lent)))

rep_inside : (x : Rep) → RepFits x → IsOneLine (rep_text x)
rep_inside rep.Word h = refl
rep_inside rep.Flag h = refl
rep_inside rep.Array h = refl
rep_inside rep.Slice h = refl
rep_inside rep.Vec h = refl
rep_inside (rep.Bits u) h = small_inside u h
rep_inside rep.Hset h = refl
rep_inside (rep.Amap u) h = small_inside u h
rep_inside rep.Hmap h = refl
rep_inside rep.Heap h = refl

kept_inside : (kept : Bool) → IsOneLine (t.kept_text kept)
kept_inside true = refl
kept_inside false = refl

-- two registers with a space between them
pair_inside : (a b : ℕ) → IsSmall a → IsSmall b → IsOneLine (t.register_text a ++ (codes " " ++ t.register_text b))
pair_inside a b h k = joined (t.register_text a) (codes " " ++ t.register_text b) (register_inside a h) (register_inside b k)

calc_inside : (c : Calc) (rest : List ℕ) → IsOneLine rest → IsOneLine (calc_text c ++ rest)
calc_inside c rest h = joined (calc_text c) rest (by_word c) h
  where
    by_word : (c : Calc) → IsOneLine (calc_text c)
    by_word calc.Add = refl
    by_word calc.Sub = refl
    by_word calc.Mul = refl
    by_word calc.Div = refl
    by_word calc.Mod = refl
    by_word calc.Min = refl
    by_word calc.Max = refl
    by_word calc.Lt = refl
    by_word calc.Le = refl
    by_word calc.Eq = refl
    by_word calc.Ne = refl
    by_word calc.And = refl
    by_word calc.Or = refl
    by_word calc.Xor = refl
    by_word calc.Shl = refl
    by_word calc.Shr = refl

-- a register, and words behind it
behind_inside : (to : ℕ) (words rest : List ℕ) → IsSmall to → IsOneLine words → IsOneLine rest → IsOneLine (t.register_text to ++ (words ++ rest))
behind_inside to words rest h k r = joined (t.register_text to) (words ++ rest) (register_inside to h) (joined words rest k r)

plain_inside : {A B : Type 0} (lends : Bool) (x : Open.Instr-F A B) → PlainFits lends x → IsOneLine (t.open_text lends x)
plain_inside lends (Open.Const to v) h = behind_inside to (codes " = const ") (decimal v) h.0 refl (number_inside v h.1)
plain_inside lends (Open.Mov to from) h = behind_inside to (codes " = mov ") (t.register_text from) h.0 refl (register_inside from h.1)
plain_inside lends (Open.Calc to c l r) h = behind_inside to (codes " = ") (calc_text c ++ (codes " " ++ (t.register_text l ++ (codes " " ++ t.register_text r)))) h.0 refl (calc_inside c (codes " " ++ (t.register_text l ++ (codes " " ++ t.register_text r))) (pair_inside l r h.1 h.2))
plain_inside lends (Open.Load to b i) h = behind_inside to (codes " = load ") (t.register_text b ++ (codes " " ++ t.register_text i)) h.0 refl (pair_inside b i h.1 h.2)
plain_inside lends (Open.Store b i v) h = joined (t.register_text b) (codes " " ++ (t.register_text i ++ (codes " " ++ t.register_text v))) (register_inside b h.0) (pair_inside i v h.1 h.2)
plain_inside lends (Open.Alloc to len) h = behind_inside to (codes " = alloc ") (t.register_text len) h.0 refl (register_inside len h.1)
plain_inside lends (Open.Free b) h = register_inside b h
plain_inside lends (Open.If t c d) h = absurd h
plain_inside lends (Open.While c t d) h = absurd h
plain_inside lends (Open.Call to name args) h = joined (t.targets_text to) (codes "call " ++ t.use_text name args) (targets_inside to h.0) (use_inside name args h.1 h.2)
plain_inside lends (Open.Par l r) h = joined (t.branch_text lends l) (codes " | " ++ t.branch_text lends r) (branch_inside lends l h.0) (branch_inside lends r h.1)

input_inside : (name : List ℕ) (x : Rep) (kept : Bool) → is_name name ≡ true → RepFits x → IsOneLine (t.input_text (record { name = name; rep = x; kept = kept }))
input_inside name x kept h k = joined name (codes " " ++ (rep_text x ++ t.kept_text kept)) (name_inside name h) (joined (rep_text x) (t.kept_text kept) (rep_inside x k) (kept_inside kept))

header_inside : (name : List ℕ) (args regs : ℕ) → is_name name ≡ true → IsSmall args → IsSmall regs → IsOneLine (t.proc_header name args regs)
header_inside name args regs h a r = joined name (codes " " ++ (decimal args ++ (codes " " ++ decimal regs))) (name_inside name h) (joined (decimal args) (codes " " ++ decimal regs) (small_inside args a) (small_inside regs r))

ret_inside : (rs : List ℕ) → AreSmall rs → IsOneLine (t.ret_text rs)
ret_inside [] h = refl
ret_inside (r ∷ rs) h = registers_inside (r ∷ rs) h

phrase_inside : (lends : Bool) (p : Phrase) → PhraseFits lends p → IsOneLine (t.phrase_text lends p)
phrase_inside lends (phrase.Sepref true) h = refl
phrase_inside lends (phrase.Sepref false) h = refl
phrase_inside lends (phrase.In p) h = input_inside p.name p.rep p.kept h.0 h.1
phrase_inside lends (phrase.Out x) h = rep_inside x h
phrase_inside lends (phrase.Proc name args regs) h = header_inside name args regs h.0 h.1 h.2
phrase_inside lends (phrase.Plain i) h = plain_inside lends (out-Instr i) h
phrase_inside lends (phrase.If r) h = register_inside r h
phrase_inside lends phrase.Else h = refl
phrase_inside lends phrase.While h = refl
phrase_inside lends (phrase.Do r) h = register_inside r h
phrase_inside lends (phrase.Ret rs) h = ret_inside rs h
phrase_inside lends phrase.End h = refl

indent_inside : (n : ℕ) → IsOneLine (indent n)
indent_inside zero = refl
indent_inside (suc n) = indent_inside n

pub line_inside : (lends : Bool) (l : Line) → LineFits lends l → IsOneLine (t.line_text lends l)
line_inside lends l h = joined (indent l.level) (t.phrase_text lends l.phrase) (indent_inside l.level) (phrase_inside lends l.phrase h)
