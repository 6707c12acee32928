-- Registers that are noted one after another.
use Rattle.std.proofs.Common.{◌≡◌, ◌+◌, ◌<◌, ℕ, suc, Bool, true, false, ◌||◌, List, [], ◌∷◌, ◌++◌, length, drop, map, nat_eq, refl, sym, ap, ◌∙◌, arith, append_assoc, get_or, drop-cons}
use Rattle.std.specs.Prelude.{Result, Ok, Err, OnOk}
use Rattle.fits.specs.Written.{any_true, code_writes, instr_writes, is_one_of, list_writes, writes_any, writes_step}
use Rattle.target_code.specs.declared.tree.Code.{Code}
use Rattle.target_code.specs.declared.tree.Instr.{Instr, out-Instr}
use Rattle.target_code.specs.declared.tree.Instr.TheOpen as I
use Rattle.target_code.specs.declared.tree.Instr.TheFolds.{map-Instr, fold_out-Instr, fold_out-Code}

pub on_ok_then : {A E : Type 0} (r : Result A E) (P Q : Type 0) → (P → Q) → OnOk r P → OnOk r Q
on_ok_then (Ok x) P Q g p = g p
on_ok_then (Err e) P Q g p = p

-- ---- one more

next_of : (xs : List ℕ) (i d : ℕ) → i < length xs → d ≡ get_or xs i d → drop i xs ≡ d ∷ drop (i + 1) xs
next_of xs i d lt e = drop-cons xs i d lt ∙ (λ j. sym e j ∷ drop (suc i) xs) ∙ ap (λ n. d ∷ drop n xs) (one i)
  where
    one : (n : ℕ) → suc n ≡ n + 1
    one n = omega arith

pub push_next : (old first regs : List ℕ) (i d : ℕ) → i < length regs → d ≡ get_or regs i d → old ++ drop i regs ≡ first ++ regs → (old ++ d ∷ []) ++ drop (i + 1) regs ≡ first ++ regs
push_next old first regs i d lt e h = append_assoc old (d ∷ []) (drop (i + 1) regs) ∙ ap (λ z. old ++ z) (sym (next_of regs i d lt e)) ∙ h

-- ---- membership

or_swap : (a b : Bool) → (a || b) ≡ (b || a)
or_swap true true = refl
or_swap true false = refl
or_swap false true = refl
or_swap false false = refl

or_three : (a b c : Bool) → ((a || b) || c) ≡ (a || (b || c))
or_three true b c = refl
or_three false b c = refl

pub or_none : (a : Bool) → (a || false) ≡ a
or_none true = refl
or_none false = refl

pub or_turned : (a b c : Bool) → (a || (b || c)) ≡ ((b || a) || c)
or_turned true true c = refl
or_turned true false c = refl
or_turned false true c = refl
or_turned false false c = refl

pub one_of_joined : (r : ℕ) (xs ys : List ℕ) → is_one_of r (xs ++ ys) ≡ (is_one_of r xs || is_one_of r ys)
one_of_joined r [] ys = refl
one_of_joined r (x ∷ xs) ys = ap (λ b. nat_eq r x || b) (one_of_joined r xs ys) ∙ sym (or_three (nat_eq r x) (is_one_of r xs) (is_one_of r ys))

pub behind_is : (r : ℕ) (old new more : List ℕ) → new ≡ old ++ more → is_one_of r new ≡ (is_one_of r more || is_one_of r old)
behind_is r old new more e = ap (is_one_of r) e ∙ one_of_joined r old more ∙ or_swap (is_one_of r old) (is_one_of r more)

-- ---- instructions

abbrev pub seen : ℕ → I.Instr-F Instr Code → Bool
seen r x = writes_step r (map-Instr Instr Code Bool Bool (instr_writes r) (code_writes r) x)

pub writes_of : (r : ℕ) (i : Instr) (x : I.Instr-F Instr Code) → out-Instr i ≡ x → instr_writes r i ≡ seen r x
writes_of r i x e = fold_out-Instr Bool Bool (writes_step r) writes_any i ∙ ap (seen r) e

pub writes_list : (r : ℕ) (c : Code) → code_writes r c ≡ list_writes r c.list
writes_list r c = fold_out-Code Bool Bool (writes_step r) writes_any c

-- more registers come behind those that were noted
pub noted_more : {E : Type 0} (result : Result Unit E) (i : Instr) (x : I.Instr-F Instr Code) (old new more : List ℕ) → out-Instr i ≡ x → ((r : ℕ) → seen r x ≡ is_one_of r more) → OnOk result (new ≡ old ++ more)
    → OnOk result ((r : ℕ) → is_one_of r new ≡ (instr_writes r i || is_one_of r old))
noted_more result i x old new more e w h =
    on_ok_then result _ _ (λ k r. behind_is r old new more k ∙ ap (λ b. b || is_one_of r old) (sym (writes_of r i x e ∙ w r))) h

-- ---- lists of instructions

next_instr : (is : List Instr) (k : ℕ) (d : Instr) → k < length is → d ≡ get_or is k d → drop k is ≡ d ∷ drop (k + 1) is
next_instr is k d lt e = drop-cons is k d lt ∙ (λ j. sym e j ∷ drop (suc k) is) ∙ ap (λ n. d ∷ drop n is) (one k)
  where
    one : (n : ℕ) → suc n ≡ n + 1
    one n = omega arith

or_move : (a b c : Bool) → ((b || a) || c) ≡ (a || (b || c))
or_move true true c = refl
or_move true false c = refl
or_move false true c = refl
or_move false false c = refl

pub list_next : (r : ℕ) (is : List Instr) (k : ℕ) (d : Instr) (first old new : List ℕ) → k < length is → d ≡ get_or is k d → (is_one_of r old || list_writes r (drop k is)) ≡ (list_writes r is || is_one_of r first) → is_one_of r new ≡ (instr_writes r d || is_one_of r old)
    → (is_one_of r new || list_writes r (drop (k + 1) is)) ≡ (list_writes r is || is_one_of r first)
list_next r is k d first old new lt e h w =
    ap (λ b. b || list_writes r (drop (k + 1) is)) w ∙ or_move (is_one_of r old) (instr_writes r d) (list_writes r (drop (k + 1) is)) ∙ ap (λ z. is_one_of r old || list_writes r z) (sym (next_instr is k d lt e)) ∙ h

pub list_last : (r : ℕ) (c : Code) (is rest : List Instr) (first new : List ℕ) → is ≡ c.list → rest ≡ [] → (is_one_of r new || list_writes r rest) ≡ (list_writes r is || is_one_of r first) → is_one_of r new ≡ (code_writes r c || is_one_of r first)
list_last r c is rest first new e none h =
    sym (or_none (is_one_of r new)) ∙ ap (λ z. is_one_of r new || list_writes r z) (sym none) ∙ h ∙ ap (λ z. list_writes r z || is_one_of r first) e ∙ ap (λ b. b || is_one_of r first) (sym (writes_list r c))
