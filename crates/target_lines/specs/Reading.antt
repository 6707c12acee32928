-- Reading a line leniently: what stands where is taken for granted, and the line is held against its text afterwards. A reader takes its part from the front, and leaves the rest.
use Rattle.std.specs.Prelude.{ℕ, zero, suc, ◌+◌, ◌-◌, ◌*◌, ◌/◌, Bool, true, false, if◌then◌else◌, not, ◌&&◌, ◌||◌, nat_le, nat_eq, min, List, [], ◌∷◌, length, take, drop, Option, Some, None, decimal}
use denote.Ref.{Bor}
use Rattle.target_code.specs.declared.tree.Rep.{Rep}
use Rattle.target_code.specs.declared.tree.Rep.TheVariants as rep
use Rattle.target_code.specs.declared.tree.Hand.{Hand}
use Rattle.target_code.specs.declared.tree.Branch.{Branch}
use Rattle.target_code.specs.declared.tree.Instr.TheVariants as instr
use Rattle.target_code.specs.Names.{is_name}
use Rattle.target_lines.specs.LineWords.{keyword_of, rep_of}
use Rattle.target_lines.specs.declared.line.Line.{Line}
use Rattle.target_lines.specs.declared.line.Keyword.{Keyword}
use Rattle.target_lines.specs.declared.line.Keyword.TheVariants as keyword
use Rattle.target_lines.specs.declared.line.Phrase.{Phrase}
use Rattle.target_lines.specs.declared.line.Phrase.TheVariants as phrase

abbrev pub is_digit : ℕ → Bool
is_digit b = nat_le 48 b && nat_le b 57

-- a letter, a digit or `_`
abbrev pub is_letter : ℕ → Bool
is_letter b = is_digit b || (nat_le 97 b && nat_le b 122 || (nat_le 65 b && nat_le b 90 || nat_eq b 95))

abbrev pub most : ℕ
most = 18446744073709551615

-- the number that the digits at the front give after n, cut off at the greatest word
unfoldable pub number_from : ℕ → List ℕ → ℕ × List ℕ
number_from n [] = (n, [])
number_from n (b ∷ bs) = if is_digit b then number_from (min (min (n * 10) most + (b - 48)) most) bs else (n, b ∷ bs)

abbrev pub number_at : List ℕ → ℕ × List ℕ
number_at bs = number_from 0 bs

-- how many letters stand at the front
unfoldable pub letters : List ℕ → ℕ
letters [] = 0
letters (b ∷ bs) = if is_letter b then suc (letters bs) else 0

abbrev pub word_at : List ℕ → List ℕ × List ℕ
word_at bs = (take (letters bs) bs, drop (letters bs) bs)

-- the bytes, where they are a name, else `0`
abbrev pub named : List ℕ → List ℕ
named w = if is_name w then w else decimal 0

abbrev pub name_at : List ℕ → List ℕ × List ℕ
name_at bs = let w = word_at bs in (named w.0, w.1)

abbrev pub small : ℕ → ℕ
small n = min n 4294967295

unfoldable pub small_at : List ℕ → ℕ × List ℕ
small_at bs = let n = number_at bs in (small n.0, n.1)

unfoldable pub register_at : List ℕ → ℕ × List ℕ
register_at bs = small_at (drop 1 bs)

abbrev pub after_comma : List ℕ → Option (List ℕ)
after_comma (b ∷ c ∷ bs) = if nat_eq b 44 then Some bs else None
after_comma _ = None

-- one thing, and where a comma follows the others
abbrev pub listed_on : {A : Type 0} → (List ℕ → List A × List ℕ) → A → List ℕ → Option (List ℕ) → List A × List ℕ
listed_on others x rest None = (x ∷ [], rest)
listed_on others x rest (Some more) = let xs = others more in (x ∷ xs.0, xs.1)

-- things between commas, at most so many
unfoldable pub listed_at : {A : Type 0} → (List ℕ → A × List ℕ) → ℕ → List ℕ → List A × List ℕ
listed_at item zero bs = ([], bs)
listed_at item (suc n) bs = let x = item bs in listed_on (listed_at item n) x.0 x.1 (after_comma x.1)

abbrev pub lent : Option (Bor (List ℕ)) → Option (List ℕ)
lent None = None
lent (Some bs) = Some bs.now

unfoldable pub registers_at : List ℕ → List ℕ × List ℕ
registers_at bs = listed_at register_at (suc (length bs)) bs

abbrev pub begins : ℕ → List ℕ → Bool
begins c [] = false
begins c (b ∷ bs) = nat_eq b c

abbrev pub span_at : ℕ → List ℕ → Hand × List ℕ
span_at block bs =
    if begins 32 bs then (
    let offset = register_at (drop 6 bs) in
    let count = register_at (drop 5 offset.1) in
    (record { block = block; span = Some (offset.0, count.0) }, count.1)) else (record { block = block; span = None }, bs)

unfoldable pub hand_at : List ℕ → Hand × List ℕ
hand_at bs = let block = register_at bs in span_at block.0 block.1

unfoldable pub hands_at : List ℕ → List Hand × List ℕ
hands_at bs = listed_at hand_at (suc (length bs)) bs

-- a list up to the byte that closes it
abbrev pub closed_at : {A : Type 0} → (List ℕ → List A × List ℕ) → ℕ → List ℕ → List A × List ℕ
closed_at list c bs = if begins c bs then ([], bs) else list bs

-- ---- phrases

unfoldable pub use_at : List ℕ → (List ℕ × List ℕ) × List ℕ
use_at bs =
    let name = name_at bs in
    let args = closed_at registers_at 41 (drop 1 name.1) in
    ((name.0, args.0), drop 1 args.1)

abbrev pub lends_at : Bool → List ℕ → List Hand × List ℕ
lends_at false bs = ([], bs)
lends_at true bs = let lends = closed_at hands_at 93 (drop 7 bs) in (lends.0, drop 1 lends.1)

-- the results of a branch stand before its name only where a bracket does not follow the first word
unfoldable pub targets_at : List ℕ → List ℕ × List ℕ
targets_at bs = if begins 40 (word_at bs).1 then ([], bs) else (let to = registers_at bs in (to.0, drop 3 to.1))

unfoldable pub branch_at : Bool → List ℕ → Branch × List ℕ
branch_at lends bs =
    let to = targets_at bs in
    let used = use_at to.1 in
    let hands = closed_at hands_at 93 (drop 7 used.1) in
    let lent = lends_at lends (drop 1 hands.1) in
    (record { to = to.0; proc = used.0.0; args = used.0.1; hands = hands.0; lends = lent.0 }, lent.1)

abbrev pub limited : Rep → List ℕ → Rep × List ℕ
limited (rep.Bits u) bs = let n = small_at (drop 1 bs) in (rep.Bits n.0, n.1)
limited (rep.Amap u) bs = let n = small_at (drop 1 bs) in (rep.Amap n.0, n.1)
limited other bs = (other, bs)

abbrev pub rep_of_word : Option Rep → List ℕ → Option (Rep × List ℕ)
rep_of_word None bs = None
rep_of_word (Some r) bs = Some (limited r bs)

abbrev pub shown : Option (Rep × Bor (List ℕ)) → Option (Rep × List ℕ)
shown None = None
shown (Some x) = Some (x.0, x.1.now)

unfoldable pub rep_at : List ℕ → Option (Rep × List ℕ)
rep_at bs = let w = word_at bs in rep_of_word (rep_of w.0) w.1

abbrev pub is_empty : List ℕ → Bool
is_empty [] = true
is_empty (b ∷ bs) = false

abbrev pub first : List ℕ → ℕ
first [] = 0
first (r ∷ rs) = r

-- what stands behind ` = ` where it is no call
abbrev pub plain_by : ℕ → Option Keyword → List ℕ → Option Phrase
plain_by to (Some keyword.Const) bs = Some (phrase.Plain (instr.Const to (number_at bs).0))
plain_by to (Some keyword.Mov) bs = Some (phrase.Plain (instr.Mov to (register_at bs).0))
plain_by to (Some (keyword.Calc word)) bs =
    let left = register_at bs in
    let right = register_at (drop 1 left.1) in
    Some (phrase.Plain (instr.Calc to word left.0 right.0))
plain_by to (Some keyword.Load) bs =
    let block = register_at bs in
    let index = register_at (drop 1 block.1) in
    Some (phrase.Plain (instr.Load to block.0 index.0))
plain_by to (Some keyword.Alloc) bs = Some (phrase.Plain (instr.Alloc to (register_at bs).0))
plain_by to _ bs = None

abbrev pub called_at : List ℕ → List ℕ → Option Phrase
called_at to bs = let used = use_at bs in Some (phrase.Plain (instr.Call to used.0.0 used.0.1))

-- what stands behind ` = `
unfoldable pub targeted_by : List ℕ → Option Keyword → List ℕ → Option Phrase
targeted_by to (Some keyword.Call) bs = called_at to bs
targeted_by to word bs = plain_by (first to) word bs

unfoldable pub targeted_at : List ℕ → Option Phrase
targeted_at bs =
    let to = registers_at bs in
    let w = word_at (drop 3 to.1) in
    targeted_by to.0 (keyword_of w.0) (drop 1 w.1)

abbrev pub input_with : List ℕ → Option (Rep × List ℕ) → Option Phrase
input_with name None = None
input_with name (Some r) = Some (phrase.In (record { name = name; rep = r.0; kept = not (is_empty r.1) }))

unfoldable pub input_at : List ℕ → Option Phrase
input_at bs = let name = name_at bs in input_with name.0 (rep_at (drop 1 name.1))

abbrev pub output_with : Option (Rep × List ℕ) → Option Phrase
output_with None = None
output_with (Some r) = Some (phrase.Out r.0)

unfoldable pub proc_at : List ℕ → Phrase
proc_at bs =
    let name = name_at bs in
    let args = small_at (drop 1 name.1) in
    let regs = small_at (drop 1 args.1) in
    phrase.Proc name.0 args.0 regs.0

unfoldable pub store_at : List ℕ → Phrase
store_at bs =
    let block = register_at bs in
    let index = register_at (drop 1 block.1) in
    let value = register_at (drop 1 index.1) in
    phrase.Plain (instr.Store block.0 index.0 value.0)

unfoldable pub par_at : Bool → List ℕ → Phrase
par_at lends bs =
    let left = branch_at lends bs in
    let right = branch_at lends (drop 3 left.1) in
    phrase.Plain (instr.Par left.0 right.0)

abbrev pub ret_at : List ℕ → Phrase
ret_at bs = if is_empty bs then phrase.Ret [] else phrase.Ret (registers_at bs).0

-- by its first word
unfoldable pub opened_by : Bool → Option Keyword → List ℕ → Option Phrase
opened_by lends (Some keyword.Sepref) bs = Some (phrase.Sepref (begins 50 bs))
opened_by lends (Some keyword.In) bs = input_at bs
opened_by lends (Some keyword.Out) bs = output_with (rep_at bs)
opened_by lends (Some keyword.Proc) bs = Some (proc_at bs)
opened_by lends (Some keyword.Store) bs = Some (store_at bs)
opened_by lends (Some keyword.Free) bs = Some (phrase.Plain (instr.Free (register_at bs).0))
opened_by lends (Some keyword.If) bs = Some (phrase.If (register_at bs).0)
opened_by lends (Some keyword.Else) bs = Some phrase.Else
opened_by lends (Some keyword.While) bs = Some phrase.While
opened_by lends (Some keyword.Do) bs = Some (phrase.Do (register_at bs).0)
opened_by lends (Some keyword.Call) bs = let used = use_at bs in Some (phrase.Plain (instr.Call [] used.0.0 used.0.1))
opened_by lends (Some keyword.Par) bs = Some (par_at lends bs)
opened_by lends (Some keyword.Ret) bs = Some (ret_at bs)
opened_by lends (Some keyword.End) bs = Some phrase.End
opened_by lends _ bs = None

abbrev pub begins_register : List ℕ → Bool
begins_register (b ∷ c ∷ bs) = nat_eq b 114 && is_digit c
begins_register _ = false

unfoldable pub phrase_at : Bool → List ℕ → Option Phrase
phrase_at lends bs = if begins_register bs then targeted_at bs else (let w = word_at bs in opened_by lends (keyword_of w.0) (drop 1 w.1))

unfoldable pub spaces : List ℕ → ℕ
spaces [] = 0
spaces (b ∷ bs) = if nat_eq b 32 then suc (spaces bs) else 0

abbrev pub at_level : ℕ → Option Phrase → Option Line
at_level n None = None
at_level n (Some p) = Some (record { level = n; phrase = p })

unfoldable pub line_at : Bool → List ℕ → Option Line
line_at lends bs = at_level (spaces bs / 2) (phrase_at lends (drop (spaces bs) bs))
