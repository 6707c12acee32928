-- One way of following comes at least as far as another: what each part of it keeps of that.
use Rattle.std.specs.Prelude.{◌≡◌, ℕ, Bool, true, false, cond, List, [], ◌∷◌, Option, Some, None, Result, Ok, Err}
use Rattle.std.specs.Str.{bytes_eq}
use Rattle.std.proofs.Common.{refl, sym, subst}
use Rattle.target_code.specs.declared.tree.Branch.{Branch}
use Rattle.target_code.specs.declared.tree.Calc.{Calc}
use Rattle.target_code.specs.declared.tree.Code.{Code}
use Rattle.target_code.specs.declared.tree.Instr.{Instr, out-Instr, Instr-F}
use Rattle.target_code.specs.declared.tree.Instr.TheOpen as I
use Rattle.target_code.specs.declared.tree.Proc.{Proc}
use Rattle.target_meaning.specs.Leaf.{find}
use Rattle.nres_core.specs.declared.refusal.Refusal.{Refusal}
use Rattle.rule_check.specs.Context.{Shape}
use Rattle.fits.specs.Places.{Token, State}
use Rattle.fits.specs.Follow.{Line, Calc_line, Row_line, Reg_line, Any_line, Left_line, Right_line, If_line, While_line, Par_line, Split_line, Use_line, Answer, Found, Unmet, Walk, Views, and_then, need, with_some, with_ok, with_head, at_end_of, on_calc_line, on_row_line, on_reg_line, on_any_line, on_side_line, on_if_line, on_while_line, on_par_line, on_split_line, on_use_line, calc_own, call_own, if_own, while_own, par_own, one_out, three_words, one_word, first_out, behind_first, pass_one, pass_all, pass_until}
use Rattle.fits.specs.Programs.{at_last}

-- where the first is followed to an end the second is followed to the same
pub record Less (a b : Answer) : Type 0 where
  pub found : (s : State) (c : List Instr) (ls : List Line) → a ≡ Found s c ls → b ≡ Found s c ls

abbrev pub LessWalk : Walk → Walk → Type 0
LessWalk v w = (s : State) (c : List Instr) (ls : List Line) → Less (v s c ls) (w s c ls)

pub same : (a : Answer) → Less a a
same a = record { found = λ s c ls e. e }

unmet_less : (ls : List Line) (b : Answer) → Less (Unmet ls) b
unmet_less ls b = record { found = λ s c l e. absurd (let o : ⊥ = cc e in o) }

pub then_less : (a b : Answer) (v w : Walk) → Less a b → LessWalk v w → Less (and_then a v) (and_then b w)
unfolding and_then
then_less (Found s c ls) b v w h g = subst (λ y. Less (v s c ls) (and_then y w)) (sym (h.found s c ls refl)) (g s c ls)
then_less (Unmet ls) b v w h g = unmet_less ls (and_then b w)

pub need_less : (b : Bool) (ls : List Line) (x y : Answer) → Less x y → Less (need b ls x) (need b ls y)
unfolding need
need_less true ls x y h = h
need_less false ls x y h = same (Unmet ls)

pub some_less : {A : Type 0} (o : Option A) (ls : List Line) (k m : A → Answer) → ((x : A) → Less (k x) (m x)) → Less (with_some o ls k) (with_some o ls m)
unfolding with_some
some_less None ls k m h = same (Unmet ls)
some_less (Some x) ls k m h = h x

pub ok_less : {A : Type 0} (r : Result A Refusal) (ls : List Line) (k m : A → Answer) → ((x : A) → Less (k x) (m x)) → Less (with_ok r ls k) (with_ok r ls m)
unfolding with_ok
ok_less (Ok x) ls k m h = h x
ok_less (Err e) ls k m h = same (Unmet ls)

pub head_less : (is : List Instr) (ls : List Line) (k m : Instr-F Instr Code → List Instr → Answer) → ((i : Instr-F Instr Code) (rest : List Instr) → Less (k i rest) (m i rest)) → Less (with_head is ls k) (with_head is ls m)
unfolding with_head
head_less [] ls k m h = same (Unmet ls)
head_less (i ∷ is) ls k m h = h (out-Instr i) is

pub at_end_less : (is : List Instr) (ls : List Line) (x y : Answer) → Less x y → Less (at_end_of is ls x) (at_end_of is ls y)
unfolding at_end_of
at_end_less [] ls x y h = h
at_end_less (i ∷ is) ls x y h = same (Unmet ls)

-- a procedure that is found is found among more
pub find_less : (few more : List Proc) → ((name : List ℕ) (p : Proc) → find few name ≡ Some p → find more name ≡ Some p) → (name : List ℕ) (ls : List Line) (k m : Proc → Answer) → ((p : Proc) → Less (k p) (m p))
    → Less (with_some (find few name) ls k) (with_some (find more name) ls m)
unfolding with_some
find_less few more finds name ls k m h = by (find few name) refl
  where
    by : (o : Option Proc) → find few name ≡ o → Less (with_some o ls k) (with_some (find more name) ls m)
    by None e = unmet_less ls (with_some (find more name) ls m)
    by (Some p) e = subst (λ y. Less (k p) (with_some y ls m)) (sym (finds name p e)) (h p)

-- ---- lines

pub calc_line : (ls : List Line) (k m : List Line → Answer) → ((js : List Line) → Less (k js) (m js)) → Less (on_calc_line ls k) (on_calc_line ls m)
unfolding on_calc_line
calc_line (Calc_line ∷ ls) k m h = h ls
calc_line ls k m h = same (Unmet ls)

pub row_line : (ls : List Line) (want : List ℕ) (k m : List Line → Answer) → ((js : List Line) → Less (k js) (m js)) → Less (on_row_line ls want k) (on_row_line ls want m)
unfolding on_row_line
row_line (Row_line name ∷ ls) want k m h = need_less (bytes_eq name want) (Row_line name ∷ ls) (k ls) (m ls) (h ls)
row_line ls want k m h = same (Unmet ls)

pub reg_line : (ls : List Line) (k m : List Line → Answer) → ((js : List Line) → Less (k js) (m js)) → Less (on_reg_line ls k) (on_reg_line ls m)
unfolding on_reg_line
reg_line (Reg_line ∷ ls) k m h = h ls
reg_line ls k m h = same (Unmet ls)

pub any_line : (ls : List Line) (k m : ℕ → List Line → Answer) → ((x : ℕ) (js : List Line) → Less (k x js) (m x js)) → Less (on_any_line ls k) (on_any_line ls m)
unfolding on_any_line
any_line (Any_line x ∷ ls) k m h = h x ls
any_line ls k m h = same (Unmet ls)

pub side_line : (ls : List Line) (k m : Bool → List Line → Answer) → ((b : Bool) (js : List Line) → Less (k b js) (m b js)) → Less (on_side_line ls k) (on_side_line ls m)
unfolding on_side_line
side_line (Left_line ∷ ls) k m h = h true ls
side_line (Right_line ∷ ls) k m h = h false ls
side_line ls k m h = same (Unmet ls)

pub if_line : (ls : List Line) (k m : List ℕ → List Line → Answer) → ((rs : List ℕ) (js : List Line) → Less (k rs js) (m rs js)) → Less (on_if_line ls k) (on_if_line ls m)
unfolding on_if_line
if_line (If_line rs ∷ ls) k m h = h rs ls
if_line ls k m h = same (Unmet ls)

pub while_line : (ls : List Line) (k m : List ℕ → List Line → Answer) → ((rs : List ℕ) (js : List Line) → Less (k rs js) (m rs js)) → Less (on_while_line ls k) (on_while_line ls m)
unfolding on_while_line
while_line (While_line rs ∷ ls) k m h = h rs ls
while_line ls k m h = same (Unmet ls)

pub par_line : (ls : List Line) (k m : List Line → Answer) → ((js : List Line) → Less (k js) (m js)) → Less (on_par_line ls k) (on_par_line ls m)
unfolding on_par_line
par_line (Par_line ∷ ls) k m h = h ls
par_line ls k m h = same (Unmet ls)

pub split_line : (ls : List Line) (k m : ℕ → ℕ → List Line → Answer) → ((x y : ℕ) (js : List Line) → Less (k x y js) (m x y js)) → Less (on_split_line ls k) (on_split_line ls m)
unfolding on_split_line
split_line (Split_line x y ∷ ls) k m h = h x y ls
split_line ls k m h = same (Unmet ls)

pub use_line : (ls : List Line) (k m : List Line → Answer) → ((js : List Line) → Less (k js) (m js)) → Less (on_use_line ls k) (on_use_line ls m)
unfolding on_use_line
use_line (Use_line ∷ ls) k m h = h ls
use_line ls k m h = same (Unmet ls)

pub last_less : (ls : List Line) (x y : Answer) → Less x y → Less (at_last ls x) (at_last ls y)
unfolding at_last
last_less [] x y h = h
last_less (l ∷ ls) x y h = same (Unmet (l ∷ ls))

-- ---- own instructions

pub own_calc : (ls : List Line) (i : Instr-F Instr Code) (k m : ℕ → Calc → ℕ → ℕ → Answer) → ((to : ℕ) (w : Calc) (x y : ℕ) → Less (k to w x y) (m to w x y)) → Less (calc_own ls i k) (calc_own ls i m)
unfolding calc_own
own_calc ls (I.Calc to w x y) k m h = h to w x y
own_calc ls _ k m h = same (Unmet ls)

pub own_call : (ls : List Line) (i : Instr-F Instr Code) (k m : List ℕ → List ℕ → List ℕ → Answer) → ((to name args : List ℕ) → Less (k to name args) (m to name args)) → Less (call_own ls i k) (call_own ls i m)
unfolding call_own
own_call ls (I.Call to name args) k m h = h to name args
own_call ls _ k m h = same (Unmet ls)

pub own_if : (ls : List Line) (i : Instr-F Instr Code) (k m : ℕ → Code → Code → Answer) → ((t : ℕ) (c d : Code) → Less (k t c d) (m t c d)) → Less (if_own ls i k) (if_own ls i m)
unfolding if_own
own_if ls (I.If t c d) k m h = h t c d
own_if ls _ k m h = same (Unmet ls)

pub own_while : (ls : List Line) (i : Instr-F Instr Code) (k m : Code → ℕ → Code → Answer) → ((c : Code) (t : ℕ) (b : Code) → Less (k c t b) (m c t b)) → Less (while_own ls i k) (while_own ls i m)
unfolding while_own
own_while ls (I.While c t b) k m h = h c t b
own_while ls _ k m h = same (Unmet ls)

pub own_par : (ls : List Line) (i : Instr-F Instr Code) (k m : Branch → Branch → Answer) → ((x y : Branch) → Less (k x y) (m x y)) → Less (par_own ls i k) (par_own ls i m)
unfolding par_own
own_par ls (I.Par x y) k m h = h x y
own_par ls _ k m h = same (Unmet ls)

-- ---- lists of one form

pub out_less : (vs : List ℕ) (ls : List Line) (k m : ℕ → Answer) → ((v : ℕ) → Less (k v) (m v)) → Less (one_out vs ls k) (one_out vs ls m)
unfolding one_out
out_less [] ls k m h = same (Unmet ls)
out_less (v ∷ []) ls k m h = h v
out_less (v ∷ w ∷ vs) ls k m h = same (Unmet ls)

pub three_less : (ws : List Token) (ls : List Line) (k m : Token → Token → Token → Answer) → ((x y z : Token) → Less (k x y z) (m x y z)) → Less (three_words ws ls k) (three_words ws ls m)
unfolding three_words
three_less [] ls k m h = same (Unmet ls)
three_less (x ∷ []) ls k m h = same (Unmet ls)
three_less (x ∷ y ∷ []) ls k m h = same (Unmet ls)
three_less (x ∷ y ∷ z ∷ []) ls k m h = h x y z
three_less (x ∷ y ∷ z ∷ w ∷ ws) ls k m h = same (Unmet ls)

pub word_less : (ws : List Token) (ls : List Line) (k m : Token → Answer) → ((x : Token) → Less (k x) (m x)) → Less (one_word ws ls k) (one_word ws ls m)
unfolding one_word
word_less [] ls k m h = same (Unmet ls)
word_less (x ∷ []) ls k m h = h x
word_less (x ∷ y ∷ ws) ls k m h = same (Unmet ls)

pub first_less : (vs : List ℕ) (ls : List Line) (k m : ℕ → List ℕ → Answer) → ((v : ℕ) (ws : List ℕ) → Less (k v ws) (m v ws)) → Less (first_out vs ls k) (first_out vs ls m)
unfolding first_out
first_less [] ls k m h = same (Unmet ls)
first_less (v ∷ vs) ls k m h = h v vs

pub behind_less : (zs : List Shape) (ls : List Line) (k m : List Shape → Answer) → ((ys : List Shape) → Less (k ys) (m ys)) → Less (behind_first zs ls k) (behind_first zs ls m)
unfolding behind_first
behind_less [] ls k m h = same (Unmet ls)
behind_less (z ∷ zs) ls k m h = h zs

-- ---- what is passed over

module _ (R : ℕ) (V W : Views) where
  one_less : (ls : List Line) (s : State) (i : Instr-F Instr Code) (k m : State → Answer) (x y : Answer) → ((u : State) → Less (k u) (m u)) → Less x y → Less (pass_one R V ls s i k x) (pass_one R W ls s i m y)
  unfolding pass_one
  one_less ls s (I.Const to v) k m x y h g = need_less _ ls _ _ (h _)
  one_less ls s (I.Mov to from) k m x y h g = need_less _ ls _ _ (h _)
  one_less ls s (I.Free b) k m x y h g = some_less _ ls _ _ (λ v. h _)
  one_less ls s _ k m x y h g = g

  pub pass_less : (s : State) (is : List Instr) (ls : List Line) (k m : State → List Instr → Answer) → ((u : State) (js : List Instr) → Less (k u js) (m u js)) → Less (pass_all R V s is ls k) (pass_all R W s is ls m)
  unfolding pass_all
  pass_less s [] ls k m h = h s []
  pass_less s (i ∷ is) ls k m h = one_less ls s (out-Instr i) _ _ _ _ (λ u. pass_less u is ls k m h) (h s (i ∷ is))

  pub until_less : (ok : State → Bool) (s : State) (is : List Instr) (ls : List Line) (k m : State → List Instr → Answer) → ((u : State) (js : List Instr) → Less (k u js) (m u js)) → Less (pass_until R V ok s is ls k) (pass_until R W ok s is ls m)
  unfolding pass_until
  until_less ok s [] ls k m h = need_less (ok s) ls _ _ (h s [])
  until_less ok s (i ∷ is) ls k m h = by (ok s) (h s (i ∷ is)) (one_less ls s (out-Instr i) _ _ _ _ (λ u. until_less ok u is ls k m h) (same (Unmet ls)))
    where
      by : {a b c d : Answer} (t : Bool) → Less a b → Less c d → Less (cond t a c) (cond t b d)
      by true g h = g
      by false g h = h
