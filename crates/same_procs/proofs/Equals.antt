-- Two procedures pass the test exactly where they are equal.
use Rattle.std.specs.Prelude.{◌≡◌, ℕ, nat_eq, Bool, true, false, ◌&&◌, cond, List, [], ◌∷◌, map, Option, Some, None}
use Rattle.std.specs.Str.{bytes_eq}
use Rattle.std.specs.Cmp.Derive.{both_true}
use Rattle.std.proofs.Common.{refl, sym, ap, ◌∙◌, subst, eqb-true, eq-eqb}
use Rattle.std.proofs.lemmas.Bool.{and_parts}
use Rattle.std.proofs.lemmas.Slice.Eq.{bytes_eq-Decides}
use Rattle.fits.specs.Follow.{calc_number}
use Rattle.target_code.specs.declared.tree.Branch.{Branch}
use Rattle.target_code.specs.declared.tree.Calc.{Calc}
use Rattle.target_code.specs.declared.tree.Calc.TheVariants as calc
use Rattle.target_code.specs.declared.tree.Code.{Code, out-Code, roll-Code}
use Rattle.target_code.specs.declared.tree.Hand.{Hand}
use Rattle.target_code.specs.declared.tree.Instr.{Instr, out-Instr}
use Rattle.target_code.specs.declared.tree.Instr.TheOpen as I
use Rattle.target_code.specs.declared.tree.Instr.TheViews.{roll-Instr, out-roll-Instr, roll-out-Instr, out-roll-Code, roll-out-Code}
use Rattle.target_code.specs.declared.tree.Instr.TheFolds.{map-Instr, map-Code, fold_out-Instr, fold_out-Code, ind-Code}
use Rattle.target_code.specs.declared.tree.Proc.{Proc}
use Rattle.same_procs.specs.Same.{same_numbers, same_span, same_hand, same_hands, same_branch, Layer, InstrTest, CodeTest, is_const, is_mov, is_calc, is_load, is_store, is_alloc, is_free, is_call, is_par, is_if, is_while, is_layer, instr_step, all_same, code_step, same_instr, same_code, same_proc, EqualsAreTold}

-- ---- numbers and names

number_is : (a b : ℕ) → nat_eq a b ≡ true → a ≡ b
number_is a b e = eqb-true a b e

number_same : (a : ℕ) → nat_eq a a ≡ true
number_same a = eq-eqb a a refl

bytes_are : (xs ys : List ℕ) → bytes_eq xs ys ≡ true → xs ≡ ys
bytes_are xs ys e = (bytes_eq-Decides xs ys).0 e

bytes_same : (xs : List ℕ) → bytes_eq xs xs ≡ true
bytes_same xs = (bytes_eq-Decides xs xs).1 refl

-- ---- parts of instructions

abbrev of_number : ℕ → Calc
of_number n =
    cond (nat_eq n 0) calc.Add (cond (nat_eq n 1) calc.Sub (cond (nat_eq n 2) calc.Mul (cond (nat_eq n 3) calc.Div (
    cond (nat_eq n 4) calc.Mod (cond (nat_eq n 5) calc.Min (cond (nat_eq n 6) calc.Max (cond (nat_eq n 7) calc.Lt (
    cond (nat_eq n 8) calc.Le (cond (nat_eq n 9) calc.Eq (cond (nat_eq n 10) calc.Ne (cond (nat_eq n 11) calc.And (
    cond (nat_eq n 12) calc.Or (cond (nat_eq n 13) calc.Xor (cond (nat_eq n 14) calc.Shl (calc.Shr)))))))))))))))

number_back : (w : Calc) → of_number (calc_number w) ≡ w
number_back calc.Add = refl
number_back calc.Sub = refl
number_back calc.Mul = refl
number_back calc.Div = refl
number_back calc.Mod = refl
number_back calc.Min = refl
number_back calc.Max = refl
number_back calc.Lt = refl
number_back calc.Le = refl
number_back calc.Eq = refl
number_back calc.Ne = refl
number_back calc.And = refl
number_back calc.Or = refl
number_back calc.Xor = refl
number_back calc.Shl = refl
number_back calc.Shr = refl

calc_is : (w v : Calc) → nat_eq (calc_number w) (calc_number v) ≡ true → w ≡ v
calc_is w v e = sym (number_back w) ∙ ap of_number (number_is (calc_number w) (calc_number v) e) ∙ number_back v

span_is : (x y : Option (ℕ × ℕ)) → same_span x y ≡ true → x ≡ y
span_is None None e = refl
span_is None (Some y) e = absurd (cc e)
span_is (Some x) None e = absurd (cc e)
span_is (Some x) (Some y) e =
    let p = and_parts (nat_eq x.0 y.0) (nat_eq x.1 y.1) e in
    ap (λ z. Some (z, x.1)) (number_is x.0 y.0 p.0) ∙ ap (λ z. Some (y.0, z)) (number_is x.1 y.1 p.1)

span_same : (x : Option (ℕ × ℕ)) → same_span x x ≡ true
span_same None = refl
span_same (Some x) = both_true (number_same x.0) (number_same x.1)

abbrev hand_of : ℕ → Option (ℕ × ℕ) → Hand
hand_of b s = record { block = b; span = s }

hand_is : (x y : Hand) → same_hand x y ≡ true → x ≡ y
hand_is x y e =
    let p = and_parts (nat_eq x.block y.block) (same_span x.span y.span) e in
    ap (λ z. hand_of z x.span) (number_is x.block y.block p.0) ∙ ap (λ z. hand_of y.block z) (span_is x.span y.span p.1)

hands_are : (xs ys : List Hand) → same_hands xs ys ≡ true → xs ≡ ys
hands_are [] [] e = refl
hands_are [] (y ∷ ys) e = absurd (cc e)
hands_are (x ∷ xs) [] e = absurd (cc e)
hands_are (x ∷ xs) (y ∷ ys) e =
    let p = and_parts (same_hand x y) (same_hands xs ys) e in
    ap (λ z. z ∷ xs) (hand_is x y p.0) ∙ ap (λ z. y ∷ z) (hands_are xs ys p.1)

hands_same : (xs : List Hand) → same_hands xs xs ≡ true
hands_same [] = refl
hands_same (x ∷ xs) = both_true (both_true (number_same x.block) (span_same x.span)) (hands_same xs)

abbrev branch_of : List ℕ → List ℕ → List ℕ → List Hand → List Hand → Branch
branch_of to proc args hands lends = record { to = to; proc = proc; args = args; hands = hands; lends = lends }

branch_is : (x y : Branch) → same_branch x y ≡ true → x ≡ y
branch_is x y e =
    let p = and_parts (bytes_eq x.proc y.proc) _ e in
    let q = and_parts (same_numbers x.to y.to) _ p.1 in
    let r = and_parts (same_numbers x.args y.args) _ q.1 in
    let s = and_parts (same_hands x.hands y.hands) (same_hands x.lends y.lends) r.1 in
    ap (λ z. branch_of z x.proc x.args x.hands x.lends) (bytes_are x.to y.to q.0)
    ∙ ap (λ z. branch_of y.to z x.args x.hands x.lends) (bytes_are x.proc y.proc p.0)
    ∙ ap (λ z. branch_of y.to y.proc z x.hands x.lends) (bytes_are x.args y.args r.0)
    ∙ ap (λ z. branch_of y.to y.proc y.args z x.lends) (hands_are x.hands y.hands s.0)
    ∙ ap (λ z. branch_of y.to y.proc y.args y.hands z) (hands_are x.lends y.lends s.1)

branch_same : (x : Branch) → same_branch x x ≡ true
branch_same x = both_true (bytes_same x.proc) (both_true (bytes_same x.to) (both_true (bytes_same x.args) (both_true (hands_same x.hands) (hands_same x.lends))))

-- ---- what passes the test of a layer is that layer

const_is : (to v : ℕ) (y : Layer) → is_const to v y ≡ true → I.Const to v ≡ y
const_is to v (I.Const x0 x1) e =
    let p = and_parts (nat_eq to x0) (nat_eq v x1) e in
    ap (λ z. I.Const z v) (number_is to x0 p.0) ∙ ap (λ z. I.Const x0 z) (number_is v x1 p.1)
const_is to v (I.Mov x0 x1) e = absurd (cc e)
const_is to v (I.Calc x0 x1 x2 x3) e = absurd (cc e)
const_is to v (I.Load x0 x1 x2) e = absurd (cc e)
const_is to v (I.Store x0 x1 x2) e = absurd (cc e)
const_is to v (I.Alloc x0 x1) e = absurd (cc e)
const_is to v (I.Free x0) e = absurd (cc e)
const_is to v (I.If x0 x1 x2) e = absurd (cc e)
const_is to v (I.While x0 x1 x2) e = absurd (cc e)
const_is to v (I.Call x0 x1 x2) e = absurd (cc e)
const_is to v (I.Par x0 x1) e = absurd (cc e)

mov_is : (to from : ℕ) (y : Layer) → is_mov to from y ≡ true → I.Mov to from ≡ y
mov_is to from (I.Const x0 x1) e = absurd (cc e)
mov_is to from (I.Mov x0 x1) e =
    let p = and_parts (nat_eq to x0) (nat_eq from x1) e in
    ap (λ z. I.Mov z from) (number_is to x0 p.0) ∙ ap (λ z. I.Mov x0 z) (number_is from x1 p.1)
mov_is to from (I.Calc x0 x1 x2 x3) e = absurd (cc e)
mov_is to from (I.Load x0 x1 x2) e = absurd (cc e)
mov_is to from (I.Store x0 x1 x2) e = absurd (cc e)
mov_is to from (I.Alloc x0 x1) e = absurd (cc e)
mov_is to from (I.Free x0) e = absurd (cc e)
mov_is to from (I.If x0 x1 x2) e = absurd (cc e)
mov_is to from (I.While x0 x1 x2) e = absurd (cc e)
mov_is to from (I.Call x0 x1 x2) e = absurd (cc e)
mov_is to from (I.Par x0 x1) e = absurd (cc e)

calc_layer_is : (to : ℕ) (w : Calc) (l r : ℕ) (y : Layer) → is_calc to w l r y ≡ true → I.Calc to w l r ≡ y
calc_layer_is to w l r (I.Const x0 x1) e = absurd (cc e)
calc_layer_is to w l r (I.Mov x0 x1) e = absurd (cc e)
calc_layer_is to w l r (I.Calc x0 x1 x2 x3) e =
    let p = and_parts (nat_eq to x0) _ e in
    let q = and_parts (nat_eq (calc_number w) (calc_number x1)) _ p.1 in
    let s = and_parts (nat_eq l x2) (nat_eq r x3) q.1 in
    ap (λ z. I.Calc z w l r) (number_is to x0 p.0) ∙ ap (λ z. I.Calc x0 z l r) (calc_is w x1 q.0) ∙ ap (λ z. I.Calc x0 x1 z r) (number_is l x2 s.0) ∙ ap (λ z. I.Calc x0 x1 x2 z) (number_is r x3 s.1)
calc_layer_is to w l r (I.Load x0 x1 x2) e = absurd (cc e)
calc_layer_is to w l r (I.Store x0 x1 x2) e = absurd (cc e)
calc_layer_is to w l r (I.Alloc x0 x1) e = absurd (cc e)
calc_layer_is to w l r (I.Free x0) e = absurd (cc e)
calc_layer_is to w l r (I.If x0 x1 x2) e = absurd (cc e)
calc_layer_is to w l r (I.While x0 x1 x2) e = absurd (cc e)
calc_layer_is to w l r (I.Call x0 x1 x2) e = absurd (cc e)
calc_layer_is to w l r (I.Par x0 x1) e = absurd (cc e)

load_is : (to b i : ℕ) (y : Layer) → is_load to b i y ≡ true → I.Load to b i ≡ y
load_is to b i (I.Const x0 x1) e = absurd (cc e)
load_is to b i (I.Mov x0 x1) e = absurd (cc e)
load_is to b i (I.Calc x0 x1 x2 x3) e = absurd (cc e)
load_is to b i (I.Load x0 x1 x2) e =
    let p = and_parts (nat_eq to x0) _ e in
    let q = and_parts (nat_eq b x1) (nat_eq i x2) p.1 in
    ap (λ z. I.Load z b i) (number_is to x0 p.0) ∙ ap (λ z. I.Load x0 z i) (number_is b x1 q.0) ∙ ap (λ z. I.Load x0 x1 z) (number_is i x2 q.1)
load_is to b i (I.Store x0 x1 x2) e = absurd (cc e)
load_is to b i (I.Alloc x0 x1) e = absurd (cc e)
load_is to b i (I.Free x0) e = absurd (cc e)
load_is to b i (I.If x0 x1 x2) e = absurd (cc e)
load_is to b i (I.While x0 x1 x2) e = absurd (cc e)
load_is to b i (I.Call x0 x1 x2) e = absurd (cc e)
load_is to b i (I.Par x0 x1) e = absurd (cc e)

store_is : (b i v : ℕ) (y : Layer) → is_store b i v y ≡ true → I.Store b i v ≡ y
store_is b i v (I.Const x0 x1) e = absurd (cc e)
store_is b i v (I.Mov x0 x1) e = absurd (cc e)
store_is b i v (I.Calc x0 x1 x2 x3) e = absurd (cc e)
store_is b i v (I.Load x0 x1 x2) e = absurd (cc e)
store_is b i v (I.Store x0 x1 x2) e =
    let p = and_parts (nat_eq b x0) _ e in
    let q = and_parts (nat_eq i x1) (nat_eq v x2) p.1 in
    ap (λ z. I.Store z i v) (number_is b x0 p.0) ∙ ap (λ z. I.Store x0 z v) (number_is i x1 q.0) ∙ ap (λ z. I.Store x0 x1 z) (number_is v x2 q.1)
store_is b i v (I.Alloc x0 x1) e = absurd (cc e)
store_is b i v (I.Free x0) e = absurd (cc e)
store_is b i v (I.If x0 x1 x2) e = absurd (cc e)
store_is b i v (I.While x0 x1 x2) e = absurd (cc e)
store_is b i v (I.Call x0 x1 x2) e = absurd (cc e)
store_is b i v (I.Par x0 x1) e = absurd (cc e)

alloc_is : (to len : ℕ) (y : Layer) → is_alloc to len y ≡ true → I.Alloc to len ≡ y
alloc_is to len (I.Const x0 x1) e = absurd (cc e)
alloc_is to len (I.Mov x0 x1) e = absurd (cc e)
alloc_is to len (I.Calc x0 x1 x2 x3) e = absurd (cc e)
alloc_is to len (I.Load x0 x1 x2) e = absurd (cc e)
alloc_is to len (I.Store x0 x1 x2) e = absurd (cc e)
alloc_is to len (I.Alloc x0 x1) e =
    let p = and_parts (nat_eq to x0) (nat_eq len x1) e in
    ap (λ z. I.Alloc z len) (number_is to x0 p.0) ∙ ap (λ z. I.Alloc x0 z) (number_is len x1 p.1)
alloc_is to len (I.Free x0) e = absurd (cc e)
alloc_is to len (I.If x0 x1 x2) e = absurd (cc e)
alloc_is to len (I.While x0 x1 x2) e = absurd (cc e)
alloc_is to len (I.Call x0 x1 x2) e = absurd (cc e)
alloc_is to len (I.Par x0 x1) e = absurd (cc e)

free_is : (b : ℕ) (y : Layer) → is_free b y ≡ true → I.Free b ≡ y
free_is b (I.Const x0 x1) e = absurd (cc e)
free_is b (I.Mov x0 x1) e = absurd (cc e)
free_is b (I.Calc x0 x1 x2 x3) e = absurd (cc e)
free_is b (I.Load x0 x1 x2) e = absurd (cc e)
free_is b (I.Store x0 x1 x2) e = absurd (cc e)
free_is b (I.Alloc x0 x1) e = absurd (cc e)
free_is b (I.Free x0) e =
    ap (λ z. I.Free z) (number_is b x0 e)
free_is b (I.If x0 x1 x2) e = absurd (cc e)
free_is b (I.While x0 x1 x2) e = absurd (cc e)
free_is b (I.Call x0 x1 x2) e = absurd (cc e)
free_is b (I.Par x0 x1) e = absurd (cc e)

call_is : (to name args : List ℕ) (y : Layer) → is_call to name args y ≡ true → I.Call to name args ≡ y
call_is to name args (I.Const x0 x1) e = absurd (cc e)
call_is to name args (I.Mov x0 x1) e = absurd (cc e)
call_is to name args (I.Calc x0 x1 x2 x3) e = absurd (cc e)
call_is to name args (I.Load x0 x1 x2) e = absurd (cc e)
call_is to name args (I.Store x0 x1 x2) e = absurd (cc e)
call_is to name args (I.Alloc x0 x1) e = absurd (cc e)
call_is to name args (I.Free x0) e = absurd (cc e)
call_is to name args (I.If x0 x1 x2) e = absurd (cc e)
call_is to name args (I.While x0 x1 x2) e = absurd (cc e)
call_is to name args (I.Call x0 x1 x2) e =
    let p = and_parts (bytes_eq name x1) _ e in
    let q = and_parts (same_numbers to x0) (same_numbers args x2) p.1 in
    ap (λ z. I.Call z name args) (bytes_are to x0 q.0) ∙ ap (λ z. I.Call x0 z args) (bytes_are name x1 p.0) ∙ ap (λ z. I.Call x0 x1 z) (bytes_are args x2 q.1)
call_is to name args (I.Par x0 x1) e = absurd (cc e)

par_is : (l r : Branch) (y : Layer) → is_par l r y ≡ true → I.Par l r ≡ y
par_is l r (I.Const x0 x1) e = absurd (cc e)
par_is l r (I.Mov x0 x1) e = absurd (cc e)
par_is l r (I.Calc x0 x1 x2 x3) e = absurd (cc e)
par_is l r (I.Load x0 x1 x2) e = absurd (cc e)
par_is l r (I.Store x0 x1 x2) e = absurd (cc e)
par_is l r (I.Alloc x0 x1) e = absurd (cc e)
par_is l r (I.Free x0) e = absurd (cc e)
par_is l r (I.If x0 x1 x2) e = absurd (cc e)
par_is l r (I.While x0 x1 x2) e = absurd (cc e)
par_is l r (I.Call x0 x1 x2) e = absurd (cc e)
par_is l r (I.Par x0 x1) e =
    let p = and_parts (same_branch l x0) (same_branch r x1) e in
    ap (λ z. I.Par z r) (branch_is l x0 p.0) ∙ ap (λ z. I.Par x0 z) (branch_is r x1 p.1)

-- code for which a test decides whether other code is the same
abbrev Tests : Code → Type 0
Tests c = (d : Code) → same_code c d ≡ true → c ≡ d

if_is : (t : ℕ) (c d : Code) (tc : Tests c) (td : Tests d) (y : Layer) → is_if t (same_code c) (same_code d) y ≡ true → I.If t c d ≡ y
if_is t c d tc td (I.Const x0 x1) e = absurd (cc e)
if_is t c d tc td (I.Mov x0 x1) e = absurd (cc e)
if_is t c d tc td (I.Calc x0 x1 x2 x3) e = absurd (cc e)
if_is t c d tc td (I.Load x0 x1 x2) e = absurd (cc e)
if_is t c d tc td (I.Store x0 x1 x2) e = absurd (cc e)
if_is t c d tc td (I.Alloc x0 x1) e = absurd (cc e)
if_is t c d tc td (I.Free x0) e = absurd (cc e)
if_is t c d tc td (I.If x0 x1 x2) e =
    let p = and_parts (nat_eq t x0) _ e in
    let q = and_parts (same_code c x1) (same_code d x2) p.1 in
    ap (λ z. I.If z c d) (number_is t x0 p.0) ∙ ap (λ z. I.If x0 z d) (tc x1 q.0) ∙ ap (λ z. I.If x0 x1 z) (td x2 q.1)
if_is t c d tc td (I.While x0 x1 x2) e = absurd (cc e)
if_is t c d tc td (I.Call x0 x1 x2) e = absurd (cc e)
if_is t c d tc td (I.Par x0 x1) e = absurd (cc e)

while_is : (c : Code) (t : ℕ) (d : Code) (tc : Tests c) (td : Tests d) (y : Layer) → is_while (same_code c) t (same_code d) y ≡ true → I.While c t d ≡ y
while_is c t d tc td (I.Const x0 x1) e = absurd (cc e)
while_is c t d tc td (I.Mov x0 x1) e = absurd (cc e)
while_is c t d tc td (I.Calc x0 x1 x2 x3) e = absurd (cc e)
while_is c t d tc td (I.Load x0 x1 x2) e = absurd (cc e)
while_is c t d tc td (I.Store x0 x1 x2) e = absurd (cc e)
while_is c t d tc td (I.Alloc x0 x1) e = absurd (cc e)
while_is c t d tc td (I.Free x0) e = absurd (cc e)
while_is c t d tc td (I.If x0 x1 x2) e = absurd (cc e)
while_is c t d tc td (I.While x0 x1 x2) e =
    let p = and_parts (nat_eq t x1) _ e in
    let q = and_parts (same_code c x0) (same_code d x2) p.1 in
    ap (λ z. I.While c z d) (number_is t x1 p.0) ∙ ap (λ z. I.While z x1 d) (tc x0 q.0) ∙ ap (λ z. I.While x0 x1 z) (td x2 q.1)
while_is c t d tc td (I.Call x0 x1 x2) e = absurd (cc e)
while_is c t d tc td (I.Par x0 x1) e = absurd (cc e)

-- ---- one layer

abbrev seen : I.Instr-F Instr Code → Layer → Bool
seen x = is_layer (map-Instr Instr Code InstrTest CodeTest same_instr same_code x)

opened : (i j : Instr) → same_instr i j ≡ seen (out-Instr i) (out-Instr j)
opened i j = ap (λ f. f j) (fold_out-Instr InstrTest CodeTest instr_step code_step i)

rolled : (x : I.Instr-F Instr Code) (j : Instr) → same_instr (roll-Instr x) j ≡ seen x (out-Instr j)
rolled x j = opened (roll-Instr x) j ∙ ap (λ z. seen z (out-Instr j)) (out-roll-Instr x)

abbrev list_same : List Instr → List Instr → Bool
list_same is js = all_same (map same_instr is) js

code_list : (c d : Code) → same_code c d ≡ list_same c.list d.list
code_list c d = ap (λ f. f d) (fold_out-Code InstrTest CodeTest instr_step code_step c)

-- ---- what passes is equal

abbrev InstrTests : Instr → Type 0
InstrTests i = (j : Instr) → same_instr i j ≡ true → i ≡ j

abbrev SomeInstr : Type 0
SomeInstr = (i : Instr) × InstrTests i

abbrev SomeCode : Type 0
SomeCode = (c : Code) × Tests c

-- a layer that equals another one's
by_layer : (x : Layer) → ((y : Layer) → seen x y ≡ true → x ≡ y) → InstrTests (roll-Instr x)
by_layer x h j e = ap roll-Instr (h (out-Instr j) (sym (rolled x j) ∙ e)) ∙ roll-out-Instr j

each_instr : (y : I.Instr-F SomeInstr SomeCode) → InstrTests (roll-Instr (map-Instr SomeInstr SomeCode Instr Code (λ e. e.0) (λ e. e.0) y))
each_instr (I.Const to v) = by_layer (I.Const to v) (const_is to v)
each_instr (I.Mov to from) = by_layer (I.Mov to from) (mov_is to from)
each_instr (I.Calc to w l r) = by_layer (I.Calc to w l r) (calc_layer_is to w l r)
each_instr (I.Load to b i) = by_layer (I.Load to b i) (load_is to b i)
each_instr (I.Store b i v) = by_layer (I.Store b i v) (store_is b i v)
each_instr (I.Alloc to len) = by_layer (I.Alloc to len) (alloc_is to len)
each_instr (I.Free b) = by_layer (I.Free b) (free_is b)
each_instr (I.If t c d) = by_layer (I.If t c.0 d.0) (if_is t c.0 d.0 c.1 d.1)
each_instr (I.While c t d) = by_layer (I.While c.0 t d.0) (while_is c.0 t d.0 c.1 d.1)
each_instr (I.Call to name args) = by_layer (I.Call to name args) (call_is to name args)
each_instr (I.Par l r) = by_layer (I.Par l r) (par_is l r)

list_is : (ys : List SomeInstr) (js : List Instr) → list_same (map (λ e. e.0) ys) js ≡ true → map (λ e. e.0) ys ≡ js
list_is [] [] e = refl
list_is [] (j ∷ js) e = absurd (cc e)
list_is (y ∷ ys) [] e = absurd (cc e)
list_is (y ∷ ys) (j ∷ js) e =
    let p = and_parts (same_instr y.0 j) (list_same (map (λ (z : SomeInstr). z.0) ys) js) e in
    ap (λ z. z ∷ map (λ (x : SomeInstr). x.0) ys) (y.1 j p.0) ∙ ap (λ z. j ∷ z) (list_is ys js p.1)

abbrev code_of : List Instr → I.Code-F Instr Code
code_of is = record { list = is }

each_code : (y : I.Code-F SomeInstr SomeCode) → Tests (roll-Code (map-Code SomeInstr SomeCode Instr Code (λ e. e.0) (λ e. e.0) y))
each_code y d e =
    let is = map (λ (x : SomeInstr). x.0) y.list in
    let same : list_same is d.list ≡ true = sym (code_list (roll-Code (code_of is)) d ∙ ap (λ (z : I.Code-F Instr Code). list_same z.list d.list) (out-roll-Code (code_of is))) ∙ e in
    ap (λ z. roll-Code (code_of z)) (list_is y.list d.list same) ∙ roll-out-Code d

code_is : (c : Code) → Tests c
code_is =
    ind-Code InstrTests Tests (λ z y e. subst (λ (z : I.Instr-F Instr Code). InstrTests (roll-Instr z)) e (each_instr y)) (λ z y e. subst (λ (z : I.Code-F Instr Code). Tests (roll-Code z)) e (each_code y))

-- ---- each passes with itself

abbrev InstrSame : Instr → Type 0
InstrSame i = same_instr i i ≡ true

abbrev CodeSame : Code → Type 0
CodeSame c = same_code c c ≡ true

abbrev SameInstr : Type 0
SameInstr = (i : Instr) × InstrSame i

abbrev SameCode : Type 0
SameCode = (c : Code) × CodeSame c

layer_same : (x : Layer) → seen x x ≡ true → InstrSame (roll-Instr x)
layer_same x h = rolled x (roll-Instr x) ∙ ap (seen x) (out-roll-Instr x) ∙ h

instr_same : (y : I.Instr-F SameInstr SameCode) → InstrSame (roll-Instr (map-Instr SameInstr SameCode Instr Code (λ e. e.0) (λ e. e.0) y))
instr_same (I.Const to v) = layer_same (I.Const to v) (both_true (number_same to) (number_same v))
instr_same (I.Mov to from) = layer_same (I.Mov to from) (both_true (number_same to) (number_same from))
instr_same (I.Calc to w l r) = layer_same (I.Calc to w l r) (both_true (number_same to) (both_true (number_same (calc_number w)) (both_true (number_same l) (number_same r))))
instr_same (I.Load to b i) = layer_same (I.Load to b i) (both_true (number_same to) (both_true (number_same b) (number_same i)))
instr_same (I.Store b i v) = layer_same (I.Store b i v) (both_true (number_same b) (both_true (number_same i) (number_same v)))
instr_same (I.Alloc to len) = layer_same (I.Alloc to len) (both_true (number_same to) (number_same len))
instr_same (I.Free b) = layer_same (I.Free b) (number_same b)
instr_same (I.If t c d) = layer_same (I.If t c.0 d.0) (both_true (number_same t) (both_true c.1 d.1))
instr_same (I.While c t d) = layer_same (I.While c.0 t d.0) (both_true (number_same t) (both_true c.1 d.1))
instr_same (I.Call to name args) = layer_same (I.Call to name args) (both_true (bytes_same name) (both_true (bytes_same to) (bytes_same args)))
instr_same (I.Par l r) = layer_same (I.Par l r) (both_true (branch_same l) (branch_same r))

list_same_self : (ys : List SameInstr) → list_same (map (λ e. e.0) ys) (map (λ e. e.0) ys) ≡ true
list_same_self [] = refl
list_same_self (y ∷ ys) = both_true y.1 (list_same_self ys)

code_same : (y : I.Code-F SameInstr SameCode) → CodeSame (roll-Code (map-Code SameInstr SameCode Instr Code (λ e. e.0) (λ e. e.0) y))
code_same y =
    let is = map (λ (x : SameInstr). x.0) y.list in
    code_list (roll-Code (code_of is)) (roll-Code (code_of is)) ∙ ap (λ (z : I.Code-F Instr Code). list_same z.list z.list) (out-roll-Code (code_of is)) ∙ list_same_self y.list

code_same_self : (c : Code) → CodeSame c
code_same_self =
    ind-Code InstrSame CodeSame (λ z y e. subst (λ (z : I.Instr-F Instr Code). InstrSame (roll-Instr z)) e (instr_same y)) (λ z y e. subst (λ (z : I.Code-F Instr Code). CodeSame (roll-Code z)) e (code_same y))

-- ---- procedures

abbrev proc_of : List ℕ → ℕ → ℕ → Code → List ℕ → Proc
proc_of name args regs code ret = record { name = name; args = args; regs = regs; code = code; ret = ret }

proc_is : (p q : Proc) → same_proc p q ≡ true → p ≡ q
proc_is p q e =
    let a = and_parts (bytes_eq p.name q.name) _ e in
    let b = and_parts (nat_eq p.args q.args) _ a.1 in
    let c = and_parts (nat_eq p.regs q.regs) _ b.1 in
    let d = and_parts (same_code p.code q.code) (same_numbers p.ret q.ret) c.1 in
    ap (λ z. proc_of z p.args p.regs p.code p.ret) (bytes_are p.name q.name a.0)
    ∙ ap (λ z. proc_of q.name z p.regs p.code p.ret) (number_is p.args q.args b.0)
    ∙ ap (λ z. proc_of q.name q.args z p.code p.ret) (number_is p.regs q.regs c.0)
    ∙ ap (λ z. proc_of q.name q.args q.regs z p.ret) (code_is p.code q.code d.0)
    ∙ ap (λ z. proc_of q.name q.args q.regs q.code z) (bytes_are p.ret q.ret d.1)

proc_same : (p : Proc) → same_proc p p ≡ true
proc_same p = both_true (bytes_same p.name) (both_true (number_same p.args) (both_true (number_same p.regs) (both_true (code_same_self p.code) (bytes_same p.ret))))

pub equals_are_told : EqualsAreTold
equals_are_told = record { equal = proc_is; itself = proc_same }
