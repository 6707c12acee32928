-- Each line of a formed program has a text of its own.
use Rattle.std.proofs.Common.{◌≡◌, ℕ, suc, ◌<◌, ◌≤◌, ◌^◌, ◌&&◌, ◌||◌, Bool, true, false, nat_eq, nat_lt, nat_le, List, [], ◌∷◌, ◌++◌, length, map, Option, Some, None, refl, sym, subst, ◌∙◌, arith}
use Rattle.std.specs.List.{list_all, AllByRecursion}
use Rattle.std.specs.Str.{bytes_eq}
use Rattle.std.specs.Cmp.Derive.{both_true}
use Rattle.std.specs.Int.{is_in_range}
use Rattle.std.proofs.lemmas.Bool.{ltb-true}
use Rattle.std.proofs.lemmas.Slice.Eq.{bytes_eq-Decides}
use Rattle.target_code.specs.declared.tree.Branch.{Branch}
use Rattle.target_code.specs.declared.tree.Hand.{Hand}
use Rattle.target_code.specs.declared.tree.Code.{Code, out-Code, roll-Code}
use Rattle.target_code.specs.declared.tree.Instr.{Instr}
use Rattle.target_code.specs.declared.tree.Instr.TheOpen as Open
use Rattle.target_code.specs.declared.tree.Instr.TheViews.{roll-Instr, out-roll-Instr, out-roll-Code}
use Rattle.target_code.specs.declared.tree.Instr.TheFolds.{map-Instr, map-Code, fold-roll-Instr, fold_out-Code, ind-Code}
use Rattle.target_code.specs.declared.tree.Proc.{Proc}
use Rattle.target_code.specs.Names.{is_name, is_name_start, is_name_byte}
use Rattle.target_code.specs.Reserved.{is_lower, is_proc_byte, is_proc_name}
use Rattle.target_code.specs.Lines as tests
use Rattle.target_code.specs.Formed.{proc_names}
use Rattle.target_lines.specs.declared.line.Line.{Line}
use Rattle.target_lines.specs.declared.line.Phrase.TheVariants as phrase
use Rattle.target_lines.specs.Programs.{line, instr_lines, code_lines, items_lines, is_flat, some_true, is_some_hand, instr_lends_step, code_lends_step, instr_lends, code_lends}
use Rattle.target_lines.specs.Fits.{IsSmall, AreSmall, SpanFits, HandFits, LendsFit, BranchFits, PlainFits, LineFits}
use Rattle.target_lines.proofs.Pieces.{and_parts}
use Rattle.target_text.proofs.CodeLines.{layer, flat_at}
use Rattle.target_text.proofs.ShapesBack.{code_out, lines_roll}

-- ---- names

lower_starts : (b : ℕ) → is_lower b ≡ true → is_name_start b ≡ true
lower_starts b h = starts (is_in_range 65 90 b) (nat_eq b 95) (is_in_range 97 122 b) h
  where
    starts : (u d l : Bool) → l ≡ true → (u || l || d) ≡ true
    starts true d l e = refl
    starts false d true e = refl
    starts false d false e = absurd cc

proc_byte_is_name_byte : (b : ℕ) → is_proc_byte b ≡ true → is_name_byte b ≡ true
proc_byte_is_name_byte b h = shift (is_in_range 97 122 b) (is_in_range 48 57 b) (is_in_range 65 90 b) (nat_eq b 95) h
  where
    shift : (l n u d : Bool) → (l || n || d) ≡ true → ((n || u) || l || d) ≡ true
    shift l true u d e = refl
    shift l false true d e = refl
    shift true false false d e = refl
    shift false false false d e = e

bytes_continue : (bs : List ℕ) → list_all is_proc_byte bs ≡ true → list_all is_name_byte bs ≡ true
bytes_continue [] h = refl
bytes_continue (b ∷ bs) h =
    let parts = and_parts (is_proc_byte b) (list_all is_proc_byte bs) h in
    both_true (proc_byte_is_name_byte b parts.0) (bytes_continue bs parts.1)

pub proc_name_is_name : (name : List ℕ) → is_proc_name name ≡ true → is_name name ≡ true
proc_name_is_name [] h = absurd cc
proc_name_is_name (b ∷ bs) h =
    let parts = and_parts (is_lower b && nat_le (length bs) 63) (list_all is_proc_byte bs) h in
    let front = and_parts (is_lower b) (nat_le (length bs) 63) parts.0 in
    both_true (both_true (lower_starts b front.0) front.1) (bytes_continue bs parts.1)

-- a procedure that answers has the name
by_first : (p : Proc) (name args to : List ℕ) (b others : Bool) → (others ≡ true → is_name name ≡ true) → is_proc_name p.name ≡ true
    → tests.answers name (length args) (length to) p ≡ b → (b || others) ≡ true → is_name name ≡ true
by_first p name args to true others rest is_proc here any =
    let parts = and_parts (bytes_eq p.name name) (nat_eq p.args (length args) && nat_eq (length p.ret) (length to)) here in
    let same : p.name ≡ name = (bytes_eq-Decides p.name name).0 parts.0 in
    subst (λ (x : List ℕ). is_name x ≡ true) same (proc_name_is_name p.name is_proc)
by_first p name args to false others rest is_proc here any = rest any

answered_name : (procs : List Proc) (name args to : List ℕ) → proc_names procs ≡ true → tests.some_answers procs name args to ≡ true → is_name name ≡ true
answered_name [] name args to h e = absurd cc
answered_name (p ∷ ps) name args to h e =
    let parts = and_parts (is_proc_name p.name) (proc_names ps) h in
    by_first p name args to (tests.answers name (length args) (length to) p) (tests.some_answers ps name args to) (λ any. answered_name ps name args to parts.1 any) parts.0 refl e

-- ---- registers

register_small : (regs r : ℕ) → regs ≤ 8388608 → nat_lt r regs ≡ true → IsSmall r
register_small regs r le h = omega (arith, ltb-true r regs h)

pub registers_small : (regs : ℕ) (rs : List ℕ) → regs ≤ 8388608 → tests.all_below regs rs ≡ true → AreSmall rs
registers_small regs [] le h = tt
registers_small regs (r ∷ rs) le h =
    let parts = and_parts (nat_lt r regs) (tests.all_below regs rs) h in
    (register_small regs r le parts.0, registers_small regs rs le parts.1)

span_small : (regs : ℕ) (s : Option (ℕ × ℕ)) → regs ≤ 8388608 → tests.span_below regs s ≡ true → SpanFits s
span_small regs None le h = tt
span_small regs (Some s) le h =
    let parts = and_parts (nat_lt s.0 regs) (nat_lt s.1 regs) h in
    (register_small regs s.0 le parts.0, register_small regs s.1 le parts.1)

hands_small : (regs : ℕ) (hs : List Hand) → regs ≤ 8388608 → tests.hands_below regs hs ≡ true → AllByRecursion HandFits hs
hands_small regs [] le h = tt
hands_small regs (x ∷ xs) le h =
    let parts = and_parts (tests.hand_below regs x) (tests.hands_below regs xs) h in
    let hand = and_parts (nat_lt x.block regs) (tests.span_below regs x.span) parts.0 in
    ((register_small regs x.block le hand.0, span_small regs x.span le hand.1), hands_small regs xs le parts.1)

-- what is told of code: its registers are there, its calls are met, and it has no lend where the program has none
abbrev pub NoLend : Bool → Bool → Type 0
NoLend lends some = lends ≡ false → some ≡ false

lends_fit : (lends : Bool) (regs : ℕ) (hs : List Hand) → regs ≤ 8388608 → tests.hands_below regs hs ≡ true → NoLend lends (is_some_hand hs) → LendsFit lends hs
lends_fit true regs hs le h none = hands_small regs hs le h
lends_fit false regs [] le h none = refl
lends_fit false regs (x ∷ xs) le h none = let clash : true ≡ false = none refl in absurd cc

branch_fits : (lends : Bool) (procs : List Proc) (regs : ℕ) (b : Branch) → regs ≤ 8388608 → proc_names procs ≡ true → tests.branch_below regs b ≡ true
    → tests.some_answers procs b.proc b.args b.to ≡ true → NoLend lends (is_some_hand b.lends) → BranchFits lends b
branch_fits lends procs regs b le names below met none =
    let to = and_parts (tests.all_below regs b.to) (tests.all_below regs b.args && (tests.hands_below regs b.hands && tests.hands_below regs b.lends)) below in
    let args = and_parts (tests.all_below regs b.args) (tests.hands_below regs b.hands && tests.hands_below regs b.lends) to.1 in
    let hands = and_parts (tests.hands_below regs b.hands) (tests.hands_below regs b.lends) args.1 in
    record {
      to = registers_small regs b.to le to.0;
      proc = answered_name procs b.proc b.args b.to names met;
      args = registers_small regs b.args le args.0;
      hands = hands_small regs b.hands le hands.0;
      lent = lends_fit lends regs b.lends le hands.1 none;
    }

-- ---- trees

-- what is known of an instruction, and of a list: its registers are there, its calls are met, and it has no lend where the program has none
pub record Known (lends : Bool) (all_below all_met some_lend : Bool) : Type 0 where
  pub below : all_below ≡ true
  pub met : all_met ≡ true
  pub no_lend : NoLend lends some_lend

pub no_parts : (a b : Bool) → (a || b) ≡ false → (a ≡ false) × (b ≡ false)
no_parts true b h = absurd cc
no_parts false b h = (refl, h)

pub known_parts : (lends : Bool) (a b c d x y : Bool) → Known lends (a && b) (c && d) (x || y) → Known lends a c x × Known lends b d y
known_parts lends a b c d x y k =
    let below = and_parts a b k.below in
    let met = and_parts c d k.met in
    (record { below = below.0; met = met.0; no_lend = λ e. (no_parts x y (k.no_lend e)).0 }, record { below = below.1; met = met.1; no_lend = λ e. (no_parts x y (k.no_lend e)).1 })

abbrev Below : ℕ → Instr → Bool
Below regs = tests.instr_passes (tests.is_below regs)

abbrev Met : List Proc → Instr → Bool
Met procs = tests.instr_passes (tests.calls_met procs)

abbrev pub Fitting : Bool → List Line → Type 0
Fitting lends ls = AllByRecursion (LineFits lends) ls

pub fitting_append : (lends : Bool) (xs ys : List Line) → Fitting lends xs → Fitting lends ys → Fitting lends (xs ++ ys)
fitting_append lends [] ys h k = k
fitting_append lends (x ∷ xs) ys h k = (h.0, fitting_append lends xs ys h.1 k)

abbrev Fit : Bool → List Proc → ℕ → Instr → Type 0
Fit lends procs regs i = Known lends (Below regs i) (Met procs i) (instr_lends i) → (n : ℕ) → Fitting lends (instr_lines i n)

abbrev ListFits : Bool → List Proc → ℕ → List Instr → Type 0
ListFits lends procs regs xs = Known lends (tests.all_true (map (Below regs) xs)) (tests.all_true (map (Met procs) xs)) (some_true (map instr_lends xs)) → (n : ℕ) → Fitting lends (items_lines n xs)

abbrev CodeFits : Bool → List Proc → ℕ → Code → Type 0
CodeFits lends procs regs c = Known lends (tests.code_passes (tests.is_below regs) c) (tests.code_passes (tests.calls_met procs) c) (code_lends c) → (n : ℕ) → Fitting lends (code_lines c n)

pub passes_out : (test : tests.Layer → Bool) (c : Code) → tests.code_passes test c ≡ tests.all_true (map (tests.instr_passes test) (out-Code c).list)
passes_out test c = fold_out-Code Bool Bool (tests.line_step test) tests.lines_step c

pub lends_out : (c : Code) → code_lends c ≡ some_true (map instr_lends (out-Code c).list)
lends_out c = fold_out-Code Bool Bool instr_lends_step code_lends_step c

pub passes_roll : (test : tests.Layer → Bool) (x : Open.Instr-F Instr Code) → tests.instr_passes test (roll-Instr x) ≡ tests.line_step test (map-Instr Instr Code Bool Bool (tests.instr_passes test) (tests.code_passes test) x)
passes_roll test x = fold-roll-Instr Bool Bool (tests.line_step test) tests.lines_step x

pub lends_roll : (x : Open.Instr-F Instr Code) → instr_lends (roll-Instr x) ≡ instr_lends_step (map-Instr Instr Code Bool Bool instr_lends code_lends x)
lends_roll x = fold-roll-Instr Bool Bool instr_lends_step code_lends_step x

-- what is known, of the layer
known_roll : (lends : Bool) (procs : List Proc) (regs : ℕ) (x : Open.Instr-F Instr Code) → Known lends (Below regs (roll-Instr x)) (Met procs (roll-Instr x)) (instr_lends (roll-Instr x))
    → Known lends
    (tests.line_step (tests.is_below regs) (map-Instr Instr Code Bool Bool (Below regs) (tests.code_passes (tests.is_below regs)) x))
    (tests.line_step (tests.calls_met procs) (map-Instr Instr Code Bool Bool (Met procs) (tests.code_passes (tests.calls_met procs)) x))
    (instr_lends_step (map-Instr Instr Code Bool Bool instr_lends code_lends x))
known_roll lends procs regs x k = record {
  below = sym (passes_roll (tests.is_below regs) x) ∙ k.below;
  met = sym (passes_roll (tests.calls_met procs) x) ∙ k.met;
  no_lend = λ e. sym (lends_roll x) ∙ k.no_lend e;
}

list_fits_code : (lends : Bool) (procs : List Proc) (regs : ℕ) (c : Code) → ListFits lends procs regs (out-Code c).list → CodeFits lends procs regs c
list_fits_code lends procs regs c h k n =
    subst (λ (ls : List Line). Fitting lends ls) (sym (code_out c n)) (h (record {
      below = sym (passes_out (tests.is_below regs) c) ∙ k.below;
      met = sym (passes_out (tests.calls_met procs) c) ∙ k.met;
      no_lend = λ e. sym (lends_out c) ∙ k.no_lend e;
    }) n)

-- a line, a block, a line, a block and a line
blocks_fit : (lends : Bool) (n : ℕ) (a b c : Line) (xs ys : List Line) → LineFits lends a → Fitting lends xs → LineFits lends b → Fitting lends ys → LineFits lends c
    → Fitting lends (a ∷ (xs ++ (b ∷ (ys ++ c ∷ []))))
blocks_fit lends n a b c xs ys p h q k r = (p, fitting_append lends xs (b ∷ (ys ++ c ∷ [])) h (q, fitting_append lends ys (c ∷ []) k (r, tt)))

-- what the two blocks of an instruction know
block_known : (lends : Bool) (a b c d x y p q : Bool) → p ≡ true → Known lends (p && (a && b)) (q && (c && d)) (x || y) → Known lends a c x × Known lends b d y
block_known lends a b c d x y p q e k =
    known_parts lends a b c d x y (record { below = (and_parts p (a && b) k.below).1; met = (and_parts q (c && d) k.met).1; no_lend = k.no_lend })

if_fits : (lends : Bool) (procs : List Proc) (regs : ℕ) → regs ≤ 8388608 → (t : ℕ) (c d : Code) → CodeFits lends procs regs c → CodeFits lends procs regs d → Fit lends procs regs (roll-Instr (Open.If t c d))
unfolding layer
if_fits lends procs regs le t c d first other known n =
    let k = known_roll lends procs regs (Open.If t c d) known in
    let test = (and_parts (nat_lt t regs) (tests.code_passes (tests.is_below regs) c && tests.code_passes (tests.is_below regs) d) k.below).0 in
    let both = block_known lends (tests.code_passes (tests.is_below regs) c) (tests.code_passes (tests.is_below regs) d) (tests.code_passes (tests.calls_met procs) c) (tests.code_passes (tests.calls_met procs) d) (code_lends c) (code_lends d) (nat_lt t regs) true test k in
    subst (λ (ls : List Line). Fitting lends ls) (sym (lines_roll (Open.If t c d) n))
    (blocks_fit lends n (line n (phrase.If t)) (line n phrase.Else) (line n phrase.End) (code_lines c (suc n)) (code_lines d (suc n)) (register_small regs t le test) (first both.0 (suc n)) tt (other both.1 (suc n)) tt)

while_fits : (lends : Bool) (procs : List Proc) (regs : ℕ) → regs ≤ 8388608 → (c : Code) (t : ℕ) (d : Code) → CodeFits lends procs regs c → CodeFits lends procs regs d → Fit lends procs regs (roll-Instr (Open.While c t d))
unfolding layer
while_fits lends procs regs le c t d first other known n =
    let k = known_roll lends procs regs (Open.While c t d) known in
    let test = (and_parts (nat_lt t regs) (tests.code_passes (tests.is_below regs) c && tests.code_passes (tests.is_below regs) d) k.below).0 in
    let both = block_known lends (tests.code_passes (tests.is_below regs) c) (tests.code_passes (tests.is_below regs) d) (tests.code_passes (tests.calls_met procs) c) (tests.code_passes (tests.calls_met procs) d) (code_lends c) (code_lends d) (nat_lt t regs) true test k in
    subst (λ (ls : List Line). Fitting lends ls) (sym (lines_roll (Open.While c t d) n))
    (blocks_fit lends n (line n phrase.While) (line n (phrase.Do t)) (line n phrase.End) (code_lines c (suc n)) (code_lines d (suc n)) tt (first both.0 (suc n)) (register_small regs t le test) (other both.1 (suc n)) tt)

-- what is known of a layer
abbrev KnownLayer : Bool → List Proc → ℕ → Open.Instr-F Instr Code → Type 0
KnownLayer lends procs regs x = Known lends
    (tests.line_step (tests.is_below regs) (map-Instr Instr Code Bool Bool (Below regs) (tests.code_passes (tests.is_below regs)) x))
    (tests.line_step (tests.calls_met procs) (map-Instr Instr Code Bool Bool (Met procs) (tests.code_passes (tests.calls_met procs)) x))
    (instr_lends_step (map-Instr Instr Code Bool Bool instr_lends code_lends x))

flat_fits : (lends : Bool) (procs : List Proc) (regs : ℕ) (x : Open.Instr-F Instr Code) → is_flat x ≡ true → (KnownLayer lends procs regs x → PlainFits lends x) → Fit lends procs regs (roll-Instr x)
flat_fits lends procs regs x flat fits known n =
    let one : instr_lines (roll-Instr x) n ≡ line n (phrase.Plain (roll-Instr x)) ∷ [] = lines_roll x n ∙ flat_at x n flat in
    let here : PlainFits lends x = fits (known_roll lends procs regs x known) in
    let whole : Fitting lends (line n (phrase.Plain (roll-Instr x)) ∷ []) = (subst (λ (y : Open.Instr-F Instr Code). PlainFits lends y) (sym (out-roll-Instr x)) here, tt) in
    subst (λ (ls : List Line). Fitting lends ls) (sym one) whole

one_small : (regs a : ℕ) → regs ≤ 8388608 → (nat_lt a regs && true) ≡ true → IsSmall a
one_small regs a le h = register_small regs a le (and_parts (nat_lt a regs) true h).0

two_small : (regs a b : ℕ) → regs ≤ 8388608 → ((nat_lt a regs && nat_lt b regs) && true) ≡ true → IsSmall a × IsSmall b
two_small regs a b le h =
    let parts = and_parts (nat_lt a regs) (nat_lt b regs) (and_parts (nat_lt a regs && nat_lt b regs) true h).0 in
    (register_small regs a le parts.0, register_small regs b le parts.1)

three_small : (regs a b c : ℕ) → regs ≤ 8388608 → ((nat_lt a regs && (nat_lt b regs && nat_lt c regs)) && true) ≡ true → IsSmall a × IsSmall b × IsSmall c
three_small regs a b c le h =
    let parts = and_parts (nat_lt a regs) (nat_lt b regs && nat_lt c regs) (and_parts (nat_lt a regs && (nat_lt b regs && nat_lt c regs)) true h).0 in
    let rest = and_parts (nat_lt b regs) (nat_lt c regs) parts.1 in
    (register_small regs a le parts.0, register_small regs b le rest.0, register_small regs c le rest.1)

const_fits : (regs to v : ℕ) → regs ≤ 8388608 → ((nat_lt to regs && nat_lt v (2 ^ 64)) && true) ≡ true → IsSmall to × (v < 2 ^ 64)
const_fits regs to v le h =
    let parts = and_parts (nat_lt to regs) (nat_lt v (2 ^ 64)) (and_parts (nat_lt to regs && nat_lt v (2 ^ 64)) true h).0 in
    (register_small regs to le parts.0, ltb-true v (2 ^ 64) parts.1)

call_fits : (procs : List Proc) (regs : ℕ) (to name args : List ℕ) → regs ≤ 8388608 → proc_names procs ≡ true → ((tests.all_below regs to && tests.all_below regs args) && true) ≡ true
    → (tests.some_answers procs name args to && true) ≡ true → AreSmall to × (is_name name ≡ true) × AreSmall args
call_fits procs regs to name args le names h m =
    let parts = and_parts (tests.all_below regs to) (tests.all_below regs args) (and_parts (tests.all_below regs to && tests.all_below regs args) true h).0 in
    (registers_small regs to le parts.0, answered_name procs name args to names (and_parts (tests.some_answers procs name args to) true m).0, registers_small regs args le parts.1)

par_fits : (lends : Bool) (procs : List Proc) (regs : ℕ) (l r : Branch) → regs ≤ 8388608 → proc_names procs ≡ true → ((tests.branch_below regs l && tests.branch_below regs r) && true) ≡ true
    → ((tests.some_answers procs l.proc l.args l.to && tests.some_answers procs r.proc r.args r.to) && true) ≡ true → NoLend lends (is_some_hand l.lends || is_some_hand r.lends) → BranchFits lends l × BranchFits lends r
par_fits lends procs regs l r le names h m none =
    let below = and_parts (tests.branch_below regs l) (tests.branch_below regs r) (and_parts (tests.branch_below regs l && tests.branch_below regs r) true h).0 in
    let met = and_parts (tests.some_answers procs l.proc l.args l.to) (tests.some_answers procs r.proc r.args r.to) (and_parts (tests.some_answers procs l.proc l.args l.to && tests.some_answers procs r.proc r.args r.to) true m).0 in (
      branch_fits lends procs regs l le names below.0 met.0 (λ e. (no_parts (is_some_hand l.lends) (is_some_hand r.lends) (none e)).0),
      branch_fits lends procs regs r le names below.1 met.1 (λ e. (no_parts (is_some_hand l.lends) (is_some_hand r.lends) (none e)).1),
    )

record Context (lends : Bool) (procs : List Proc) (regs : ℕ) : Type 0 where
  limit : regs ≤ 8388608
  names : proc_names procs ≡ true

abbrev SomeFit : Bool → List Proc → ℕ → Type 0
SomeFit lends procs regs = (i : Instr) × Fit lends procs regs i

abbrev SomeCode : Bool → List Proc → ℕ → Type 0
SomeCode lends procs regs = (c : Code) × CodeFits lends procs regs c

each_instr : (lends : Bool) (procs : List Proc) (regs : ℕ) → Context lends procs regs → (y : Open.Instr-F (SomeFit lends procs regs) (SomeCode lends procs regs))
    → Fit lends procs regs (roll-Instr (map-Instr (SomeFit lends procs regs) (SomeCode lends procs regs) Instr Code (λ e. e.0) (λ e. e.0) y))
each_instr lends procs regs x (Open.If t c d) = if_fits lends procs regs x.limit t c.0 d.0 c.1 d.1
each_instr lends procs regs x (Open.While c t d) = while_fits lends procs regs x.limit c.0 t d.0 c.1 d.1
each_instr lends procs regs x (Open.Const to v) = flat_fits lends procs regs (Open.Const to v) refl (λ k. const_fits regs to v x.limit k.below)
each_instr lends procs regs x (Open.Mov to from) = flat_fits lends procs regs (Open.Mov to from) refl (λ k. two_small regs to from x.limit k.below)
each_instr lends procs regs x (Open.Calc to c l r) = flat_fits lends procs regs (Open.Calc to c l r) refl (λ k. three_small regs to l r x.limit k.below)
each_instr lends procs regs x (Open.Load to b i) = flat_fits lends procs regs (Open.Load to b i) refl (λ k. three_small regs to b i x.limit k.below)
each_instr lends procs regs x (Open.Store b i v) = flat_fits lends procs regs (Open.Store b i v) refl (λ k. three_small regs b i v x.limit k.below)
each_instr lends procs regs x (Open.Alloc to len) = flat_fits lends procs regs (Open.Alloc to len) refl (λ k. two_small regs to len x.limit k.below)
each_instr lends procs regs x (Open.Free b) = flat_fits lends procs regs (Open.Free b) refl (λ k. one_small regs b x.limit k.below)
each_instr lends procs regs x (Open.Call to name args) = flat_fits lends procs regs (Open.Call to name args) refl (λ k. call_fits procs regs to name args x.limit x.names k.below k.met)
each_instr lends procs regs x (Open.Par l r) = flat_fits lends procs regs (Open.Par l r) refl (λ k. par_fits lends procs regs l r x.limit x.names k.below k.met k.no_lend)

all_fit : (lends : Bool) (procs : List Proc) (regs : ℕ) (ys : List (SomeFit lends procs regs)) → ListFits lends procs regs (map (λ e. e.0) ys)
all_fit lends procs regs [] k n = tt
all_fit lends procs regs (y ∷ ys) k n =
    let xs = map (λ (e : SomeFit lends procs regs). e.0) ys in
    let parts = known_parts lends (Below regs y.0) (tests.all_true (map (Below regs) xs)) (Met procs y.0) (tests.all_true (map (Met procs) xs)) (instr_lends y.0) (some_true (map instr_lends xs)) k in
    fitting_append lends (instr_lines y.0 n) (items_lines n xs) (y.1 parts.0 n) (all_fit lends procs regs ys parts.1 n)

each_code : (lends : Bool) (procs : List Proc) (regs : ℕ) (y : Open.Code-F (SomeFit lends procs regs) (SomeCode lends procs regs))
    → CodeFits lends procs regs (roll-Code (map-Code (SomeFit lends procs regs) (SomeCode lends procs regs) Instr Code (λ e. e.0) (λ e. e.0) y))
each_code lends procs regs y =
    let z = map-Code (SomeFit lends procs regs) (SomeCode lends procs regs) Instr Code (λ e. e.0) (λ e. e.0) y in
    list_fits_code lends procs regs (roll-Code z) (subst (λ (x : Open.Code-F Instr Code). ListFits lends procs regs x.list) (sym (out-roll-Code z)) (all_fit lends procs regs y.list))

pub code_fits : (lends : Bool) (procs : List Proc) (regs : ℕ) → regs ≤ 8388608 → proc_names procs ≡ true → (c : Code) → CodeFits lends procs regs c
code_fits lends procs regs le names =
    let x : Context lends procs regs = record { limit = le; names = names } in
    ind-Code (Fit lends procs regs) (CodeFits lends procs regs)
    (λ z y e. subst (λ (z : Open.Instr-F Instr Code). Fit lends procs regs (roll-Instr z)) e (each_instr lends procs regs x y))
    (λ z y e. subst (λ (z : Open.Code-F Instr Code). CodeFits lends procs regs (roll-Code z)) e (each_code lends procs regs y))
