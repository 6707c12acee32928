-- The lines of code that nests are taken, and give that code.
use Rattle.std.proofs.Common.{◌≡◌, ◌≢◌, ℕ, suc, ◌&&◌, Bool, true, false, nat_eq, nat_lt, eq-eqb, List, [], ◌∷◌, ◌++◌, length, map, Some, refl, ap, sym, subst, ◌∙◌, append_assoc, arith}
use Rattle.std.proofs.lemmas.Bool.{ne_eqb}
use Rattle.std.proofs.lemmas.List.{append-nil}
use Rattle.target_code.specs.declared.tree.Code.{Code, out-Code, roll-Code}
use Rattle.target_code.specs.declared.tree.Instr.{Instr}
use Rattle.target_code.specs.declared.tree.Instr.TheOpen as Open
use Rattle.target_code.specs.declared.tree.Instr.TheViews.{roll-Instr, out-roll-Instr, out-roll-Code, roll-out-Code, rolls-If, rolls-While}
use Rattle.target_code.specs.declared.tree.Instr.TheFolds.{map-Instr, map-Code, fold-roll-Instr, fold_out-Code, ind-Code}
use Rattle.target_code.specs.declared.tree.Instr.TheVariants as instr
use Rattle.target_lines.specs.declared.line.Line.{Line}
use Rattle.target_lines.specs.declared.line.Phrase.{Phrase}
use Rattle.target_lines.specs.declared.line.Phrase.TheVariants as phrase
use Rattle.target_code.specs.Lines.{nests_step, code_nests_step, all_nest, instr_nests, code_nests}
use Rattle.target_lines.specs.Programs.{line, Lines, instr_step, code_step, instr_lines, code_lines, items_lines, is_flat}
use Rattle.target_judge.specs.Shape.{code_of, Frame, Yes, No, Cond, Body, Place, place, guard, opens, turns, goes, level_of, take_at, takes, and_then, run}
use Rattle.target_lines.proofs.Pieces.{and_parts}
use Rattle.target_text.proofs.CodeLines.{each_at, layer, flat_at}

goes_on : (fs : List Frame) (is : List Instr) (p : Phrase) (q : Place) (ls : List Line) → goes p (place fs is) ≡ Some q → run (line (level_of fs) p ∷ ls) (place fs is) ≡ run ls q
unfolding run takes
goes_on fs is p q ls e =
    ap (λ b. and_then (take_at b (nat_eq (suc (level_of fs)) (level_of fs)) p (place fs is)) (run ls)) (eq-eqb (level_of fs) (level_of fs) refl)
    ∙ ap (λ o. and_then o (run ls)) e

pub turns_to : (f : Frame) (fs : List Frame) (is : List Instr) (p : Phrase) (q : Place) (ls : List Line) → turns p is (f ∷ fs) ≡ Some q → run (line (level_of fs) p ∷ ls) (place (f ∷ fs) is) ≡ run ls q
unfolding run takes
turns_to f fs is p q ls e =
    let differ : level_of fs ≢ suc (level_of fs) = λ h. omega arith in
    ap (λ b. and_then (take_at b (nat_eq (suc (level_of fs)) (suc (level_of fs))) p (place (f ∷ fs) is)) (run ls)) (ne_eqb (level_of fs) (suc (level_of fs)) differ)
    ∙ ap (λ b. and_then (take_at false b p (place (f ∷ fs) is)) (run ls)) (eq-eqb (suc (level_of fs)) (suc (level_of fs)) refl)
    ∙ ap (λ o. and_then o (run ls)) e

-- the lines of instructions are taken one after the other
abbrev pub ListTaken : List Instr → Type 0
ListTaken xs = (fs : List Frame) (is : List Instr) (ls : List Line) → all_nest (length fs) (map instr_nests xs) ≡ true → run (items_lines (level_of fs) xs ++ ls) (place fs is) ≡ run ls (place fs (is ++ xs))

abbrev pub Taken : Instr → Type 0
Taken i = (fs : List Frame) (is : List Instr) (ls : List Line) → instr_nests i (length fs) ≡ true → run (instr_lines i (level_of fs) ++ ls) (place fs is) ≡ run ls (place fs (is ++ i ∷ []))

abbrev pub CodeTaken : Code → Type 0
CodeTaken c = ListTaken (out-Code c).list

one_more : (i : Instr) (xs : List Instr) → Taken i → ListTaken xs → ListTaken (i ∷ xs)
one_more i xs first others fs is ls h =
    let n = level_of fs in
    let parts = and_parts (instr_nests i (length fs)) (all_nest (length fs) (map instr_nests xs)) h in
    ap (λ ks. run ks (place fs is)) (append_assoc (instr_lines i n) (items_lines n xs) ls)
    ∙ first fs is (items_lines n xs ++ ls) parts.0
    ∙ others fs (is ++ i ∷ []) ls parts.1
    ∙ ap (λ js. run ls (place fs js)) (append_assoc is (i ∷ []) xs)

none_taken : ListTaken []
none_taken fs is ls h = ap (λ js. run ls (place fs js)) (sym (append-nil is))

abbrev Test : Type 0
Test = ℕ → Bool

pub code_out : (c : Code) (n : ℕ) → code_lines c n ≡ items_lines n (out-Code c).list
code_out c n = ap (λ (f : Lines). f n) (fold_out-Code Lines Lines instr_step code_step c) ∙ each_at (out-Code c).list n

pub nests_out : (c : Code) (n : ℕ) → code_nests c n ≡ all_nest n (map instr_nests (out-Code c).list)
nests_out c n = ap (λ (f : Test). f n) (fold_out-Code Test Test nests_step code_nests_step c)

pub lines_roll : (x : Open.Instr-F Instr Code) (n : ℕ) → instr_lines (roll-Instr x) n ≡ layer x n
unfolding layer
lines_roll x n = ap (λ (f : Lines). f n) (fold-roll-Instr Lines Lines instr_step code_step x)

pub nests_roll : (x : Open.Instr-F Instr Code) (n : ℕ) → instr_nests (roll-Instr x) n ≡ nests_step (map-Instr Instr Code Test Test instr_nests code_nests x) n
nests_roll x n = ap (λ (f : Test). f n) (fold-roll-Instr Test Test nests_step code_nests_step x)

pub same_code : (c : Code) → code_of (out-Code c).list ≡ c
same_code c = roll-out-Code c

opens_at : (fs : List Frame) (f : Frame) → nat_lt (length fs) 100 ≡ true → opens fs f ≡ Some (place (f ∷ fs) [])
opens_at fs f h = ap (λ b. guard b (place (f ∷ fs) [])) h

if_taken : (t : ℕ) (c d : Code) → CodeTaken c → CodeTaken d → Taken (roll-Instr (Open.If t c d))
unfolding layer
if_taken t c d first other fs is ls h =
    let n = level_of fs in
    let m = length fs in
    let xs = (out-Code c).list in
    let ys = (out-Code d).list in
    let whole = and_parts (nat_lt m 100) (code_nests c n && code_nests d n) (sym (nests_roll (Open.If t c d) m) ∙ h) in
    let parts = and_parts (code_nests c n) (code_nests d n) whole.1 in
    let last = line n phrase.End ∷ ls in
    let middle = line n phrase.Else ∷ (items_lines (suc n) ys ++ last) in
    let text : instr_lines (roll-Instr (Open.If t c d)) n ++ ls ≡ line n (phrase.If t) ∷ (items_lines (suc n) xs ++ middle) =
    ap (λ (z : List Line). z ++ ls) (lines_roll (Open.If t c d) n
    ∙ ap (λ (z : List Line). line n (phrase.If t) ∷ (z ++ (line n phrase.Else ∷ (code_lines d (suc n) ++ line n phrase.End ∷ [])))) (code_out c (suc n))
    ∙ ap (λ (z : List Line). line n (phrase.If t) ∷ (items_lines (suc n) xs ++ (line n phrase.Else ∷ (z ++ line n phrase.End ∷ [])))) (code_out d (suc n)))
    ∙ simp append_assoc in
    ap (λ z. run z (place fs is)) text
    ∙ goes_on fs is (phrase.If t) (place (Yes t is ∷ fs) []) (items_lines (suc n) xs ++ middle) (opens_at fs (Yes t is) whole.0)
    ∙ first (Yes t is ∷ fs) [] middle (sym (nests_out c n) ∙ parts.0)
    ∙ turns_to (Yes t is) fs xs phrase.Else (place (No t xs is ∷ fs) []) (items_lines (suc n) ys ++ last) refl
    ∙ other (No t xs is ∷ fs) [] last (sym (nests_out d n) ∙ parts.1)
    ∙ turns_to (No t xs is) fs ys phrase.End (place fs (is ++ instr.If t (code_of xs) (code_of ys) ∷ [])) ls refl
    ∙ ap (λ i. run ls (place fs (is ++ i ∷ []))) (ap (λ z. instr.If t z (code_of ys)) (same_code c) ∙ ap (λ z. instr.If t c z) (same_code d) ∙ sym (rolls-If t c d))

while_taken : (c : Code) (t : ℕ) (d : Code) → CodeTaken c → CodeTaken d → Taken (roll-Instr (Open.While c t d))
unfolding layer
while_taken c t d first other fs is ls h =
    let n = level_of fs in
    let m = length fs in
    let xs = (out-Code c).list in
    let ys = (out-Code d).list in
    let whole = and_parts (nat_lt m 100) (code_nests c n && code_nests d n) (sym (nests_roll (Open.While c t d) m) ∙ h) in
    let parts = and_parts (code_nests c n) (code_nests d n) whole.1 in
    let last = line n phrase.End ∷ ls in
    let middle = line n (phrase.Do t) ∷ (items_lines (suc n) ys ++ last) in
    let text : instr_lines (roll-Instr (Open.While c t d)) n ++ ls ≡ line n phrase.While ∷ (items_lines (suc n) xs ++ middle) =
    ap (λ (z : List Line). z ++ ls) (lines_roll (Open.While c t d) n
    ∙ ap (λ (z : List Line). line n phrase.While ∷ (z ++ (line n (phrase.Do t) ∷ (code_lines d (suc n) ++ line n phrase.End ∷ [])))) (code_out c (suc n))
    ∙ ap (λ (z : List Line). line n phrase.While ∷ (items_lines (suc n) xs ++ (line n (phrase.Do t) ∷ (z ++ line n phrase.End ∷ [])))) (code_out d (suc n)))
    ∙ simp append_assoc in
    ap (λ z. run z (place fs is)) text
    ∙ goes_on fs is phrase.While (place (Cond is ∷ fs) []) (items_lines (suc n) xs ++ middle) (opens_at fs (Cond is) whole.0)
    ∙ first (Cond is ∷ fs) [] middle (sym (nests_out c n) ∙ parts.0)
    ∙ turns_to (Cond is) fs xs (phrase.Do t) (place (Body xs t is ∷ fs) []) (items_lines (suc n) ys ++ last) refl
    ∙ other (Body xs t is ∷ fs) [] last (sym (nests_out d n) ∙ parts.1)
    ∙ turns_to (Body xs t is) fs ys phrase.End (place fs (is ++ instr.While (code_of xs) t (code_of ys) ∷ [])) ls refl
    ∙ ap (λ i. run ls (place fs (is ++ i ∷ []))) (ap (λ z. instr.While z t (code_of ys)) (same_code c) ∙ ap (λ z. instr.While c t z) (same_code d) ∙ sym (rolls-While c t d))

flat_taken : (x : Open.Instr-F Instr Code) → is_flat x ≡ true → Taken (roll-Instr x)
flat_taken x flat fs is ls h =
    let one : instr_lines (roll-Instr x) (level_of fs) ≡ line (level_of fs) (phrase.Plain (roll-Instr x)) ∷ [] = lines_roll x (level_of fs) ∙ flat_at x (level_of fs) flat in
    ap (λ (z : List Line). run (z ++ ls) (place fs is)) one
    ∙ goes_on fs is (phrase.Plain (roll-Instr x)) (place fs (is ++ roll-Instr x ∷ [])) ls (ap (λ b. guard b (place fs (is ++ roll-Instr x ∷ []))) (ap is_flat (out-roll-Instr x) ∙ flat))

abbrev SomeTaken : Type 0
SomeTaken = (i : Instr) × Taken i

abbrev SomeCode : Type 0
SomeCode = (c : Code) × CodeTaken c

all_taken : (ys : List SomeTaken) → ListTaken (map (λ e. e.0) ys)
all_taken [] = none_taken
all_taken (y ∷ ys) = one_more y.0 (map (λ e. e.0) ys) y.1 (all_taken ys)

each_instr : (y : Open.Instr-F SomeTaken SomeCode) → Taken (roll-Instr (map-Instr SomeTaken SomeCode Instr Code (λ e. e.0) (λ e. e.0) y))
each_instr (Open.If t c d) = if_taken t c.0 d.0 c.1 d.1
each_instr (Open.While c t d) = while_taken c.0 t d.0 c.1 d.1
each_instr (Open.Const to v) = flat_taken (Open.Const to v) refl
each_instr (Open.Mov to from) = flat_taken (Open.Mov to from) refl
each_instr (Open.Calc to c l r) = flat_taken (Open.Calc to c l r) refl
each_instr (Open.Load to b i) = flat_taken (Open.Load to b i) refl
each_instr (Open.Store b i v) = flat_taken (Open.Store b i v) refl
each_instr (Open.Alloc to len) = flat_taken (Open.Alloc to len) refl
each_instr (Open.Free b) = flat_taken (Open.Free b) refl
each_instr (Open.Call to name args) = flat_taken (Open.Call to name args) refl
each_instr (Open.Par l r) = flat_taken (Open.Par l r) refl

each_code : (y : Open.Code-F SomeTaken SomeCode) → CodeTaken (roll-Code (map-Code SomeTaken SomeCode Instr Code (λ e. e.0) (λ e. e.0) y))
each_code y =
    let z = map-Code SomeTaken SomeCode Instr Code (λ e. e.0) (λ e. e.0) y in
    subst (λ (x : Open.Code-F Instr Code). ListTaken x.list) (sym (out-roll-Code z)) (all_taken y.list)

pub code_taken : (c : Code) → CodeTaken c
code_taken =
    ind-Code Taken CodeTaken
    (λ x y e. subst (λ (z : Open.Instr-F Instr Code). Taken (roll-Instr z)) e (each_instr y))
    (λ x y e. subst (λ (z : Open.Code-F Instr Code). CodeTaken (roll-Code z)) e (each_code y))
