-- What was found: each test was met.
use Rattle.std.proofs.Common.{◌≡◌, ℕ, Bool, true, false, ◌&&◌, List, [], ◌∷◌, refl, sym, subst, bytes_eq}
use Rattle.std.specs.Prelude.{Option, Some, None, Result, Ok, Err}
use Rattle.target_code.specs.declared.tree.Instr.{Instr, out-Instr, Instr-F}
use Rattle.target_code.specs.declared.tree.Instr.TheOpen as I
use Rattle.target_code.specs.declared.tree.Code.{Code}
use Rattle.target_code.specs.declared.tree.Branch.{Branch}
use Rattle.target_code.specs.declared.tree.Calc.{Calc}
use Rattle.nres_core.specs.declared.refusal.Refusal.{Refusal}
use Rattle.rule_check.specs.Context.{Shape}
use Rattle.fits.specs.Places.{State, Token}
use Rattle.fits.specs.Follow.{Any_line, Line, Calc_line, Row_line, Reg_line, Left_line, Right_line, If_line, While_line, Par_line, Answer, Found, Unmet, OnFound, and_then, need, with_some, with_ok, with_head, at_end_of, on_calc_line, on_row_line, on_reg_line, on_if_line, on_while_line, calc_own, call_own, if_own, while_own, one_out, on_par_line, par_own, on_side_line, on_any_line, Split_line, on_split_line, three_words, one_word, behind_first, first_out, on_use_line, Use_line}

abbrev pub To : Type 1
To = State → List Instr → List Line → Type 0

pub need_found : (b : Bool) (ls : List Line) (a : Answer) (K : To) → OnFound (need b ls a) K → (b ≡ true) × OnFound a K
unfolding need OnFound
need_found true ls a K h = (refl, h)
need_found false ls a K h = absurd h

pub some_found : {A : Type 0} (o : Option A) (ls : List Line) (k : A → Answer) (K : To) → OnFound (with_some o ls k) K → (a : A) × (o ≡ Some a) × OnFound (k a) K
unfolding with_some OnFound
some_found None ls k K h = absurd h
some_found (Some a) ls k K h = (a, refl, h)

pub head_found : (is : List Instr) (ls : List Line) (k : Instr-F Instr Code → List Instr → Answer) (K : To) → OnFound (with_head is ls k) K → (i : Instr) × (rest : List Instr) × (is ≡ i ∷ rest) × OnFound (k (out-Instr i) rest) K
unfolding with_head OnFound
head_found [] ls k K h = absurd h
head_found (i ∷ is) ls k K h = (i, is, refl, h)

pub end_found : (is : List Instr) (ls : List Line) (a : Answer) (K : To) → OnFound (at_end_of is ls a) K → (is ≡ []) × OnFound a K
unfolding at_end_of OnFound
end_found [] ls a K h = (refl, h)
end_found (i ∷ is) ls a K h = absurd h

pub then_found : (a : Answer) (k : State → List Instr → List Line → Answer) (K : To) → OnFound (and_then a k) K → OnFound a (λ s c ls. OnFound (k s c ls) K)
unfolding and_then OnFound
then_found (Found s c ls) k K h = h
then_found (Unmet ls) k K h = h

pub calc_line_found : (ls : List Line) (k : List Line → Answer) (K : To) → OnFound (on_calc_line ls k) K → (rest : List Line) × OnFound (k rest) K
unfolding on_calc_line OnFound
calc_line_found (Calc_line ∷ ls) k K h = (ls, h)
calc_line_found [] k K h = absurd h
calc_line_found (_ ∷ ls) k K h = absurd h

pub reg_line_found : (ls : List Line) (k : List Line → Answer) (K : To) → OnFound (on_reg_line ls k) K → (rest : List Line) × OnFound (k rest) K
unfolding on_reg_line OnFound
reg_line_found (Reg_line ∷ ls) k K h = (ls, h)
reg_line_found [] k K h = absurd h
reg_line_found (_ ∷ ls) k K h = absurd h

pub row_line_found : (ls : List Line) (want : List ℕ) (k : List Line → Answer) (K : To) → OnFound (on_row_line ls want k) K → (rest : List Line) × OnFound (k rest) K
unfolding on_row_line OnFound
row_line_found (Row_line name ∷ ls) want k K h = (ls, (need_found (bytes_eq name want) (Row_line name ∷ ls) (k ls) K h).1)
row_line_found [] want k K h = absurd h
row_line_found (_ ∷ ls) want k K h = absurd h

pub if_line_found : (ls : List Line) (k : List ℕ → List Line → Answer) (K : To) → OnFound (on_if_line ls k) K → (rs : List ℕ) × (rest : List Line) × OnFound (k rs rest) K
unfolding on_if_line OnFound
if_line_found (If_line rs ∷ ls) k K h = (rs, ls, h)
if_line_found [] k K h = absurd h
if_line_found (_ ∷ ls) k K h = absurd h

pub while_line_found : (ls : List Line) (k : List ℕ → List Line → Answer) (K : To) → OnFound (on_while_line ls k) K → (rs : List ℕ) × (rest : List Line) × OnFound (k rs rest) K
unfolding on_while_line OnFound
while_line_found (While_line rs ∷ ls) k K h = (rs, ls, h)
while_line_found [] k K h = absurd h
while_line_found (_ ∷ ls) k K h = absurd h

pub calc_own_found : (ls : List Line) (x : Instr-F Instr Code) (k : ℕ → Calc → ℕ → ℕ → Answer) (K : To) → OnFound (calc_own ls x k) K → (to : ℕ) × (w : Calc) × (l : ℕ) × (r : ℕ) × (x ≡ I.Calc to w l r) × OnFound (k to w l r) K
unfolding calc_own OnFound
calc_own_found ls (I.Calc to w l r) k K h = (to, w, l, r, refl, h)
calc_own_found ls _ k K h = absurd h

pub call_own_found : (ls : List Line) (x : Instr-F Instr Code) (k : List ℕ → List ℕ → List ℕ → Answer) (K : To) → OnFound (call_own ls x k) K → (to : List ℕ) × (name : List ℕ) × (args : List ℕ) × (x ≡ I.Call to name args) × OnFound (k to name args) K
unfolding call_own OnFound
call_own_found ls (I.Call to name args) k K h = (to, name, args, refl, h)
call_own_found ls _ k K h = absurd h

pub if_own_found : (ls : List Line) (x : Instr-F Instr Code) (k : ℕ → Code → Code → Answer) (K : To) → OnFound (if_own ls x k) K → (t : ℕ) × (c : Code) × (d : Code) × (x ≡ I.If t c d) × OnFound (k t c d) K
unfolding if_own OnFound
if_own_found ls (I.If t c d) k K h = (t, c, d, refl, h)
if_own_found ls _ k K h = absurd h

pub while_own_found : (ls : List Line) (x : Instr-F Instr Code) (k : Code → ℕ → Code → Answer) (K : To) → OnFound (while_own ls x k) K → (c : Code) × (t : ℕ) × (b : Code) × (x ≡ I.While c t b) × OnFound (k c t b) K
unfolding while_own OnFound
while_own_found ls (I.While c t b) k K h = (c, t, b, refl, h)
while_own_found ls _ k K h = absurd h

pub one_out_found : (outs : List ℕ) (ls : List Line) (k : ℕ → Answer) (K : To) → OnFound (one_out outs ls k) K → (v : ℕ) × (outs ≡ v ∷ []) × OnFound (k v) K
unfolding one_out OnFound
one_out_found (v ∷ []) ls k K h = (v, refl, h)
one_out_found [] ls k K h = absurd h
one_out_found (v ∷ w ∷ vs) ls k K h = absurd h

-- where the following came to
pub found_at : (a : Answer) (k : State → List Instr → List Line → Answer) (K : To) → OnFound (and_then a k) K → (s : State) × (c : List Instr) × (l : List Line) × (a ≡ Found s c l) × OnFound (k s c l) K
unfolding and_then OnFound
found_at (Found s c l) k K h = (s, c, l, refl, h)
found_at (Unmet l) k K h = absurd h

pub on_is : (a : Answer) (s : State) (c : List Instr) (l : List Line) → a ≡ Found s c l → OnFound a (λ s' c' l'. (s' ≡ s) × (c' ≡ c) × (l' ≡ l))
unfolding OnFound
on_is a s c l e = subst (λ y. OnFound y (λ s' c' l'. (s' ≡ s) × (c' ≡ c) × (l' ≡ l))) (sym e) (refl, refl, refl)

pub found_is : (s : State) (c : List Instr) (l : List Line) (K : To) → OnFound (Found s c l) K → K s c l
unfolding OnFound
found_is s c l K h = h

-- ---- the same with what follows, so that what was found has names

module _ (G : Type 1) where
  pub need_elim : (b : Bool) (ls : List Line) (a : Answer) (K : To) → OnFound (need b ls a) K → (b ≡ true → OnFound a K → G) → G
  need_elim b ls a K h go = let x = need_found b ls a K h in go x.0 x.1

  pub some_elim : {A : Type 0} (o : Option A) (ls : List Line) (k : A → Answer) (K : To) → OnFound (with_some o ls k) K → ((a : A) → o ≡ Some a → OnFound (k a) K → G) → G
  some_elim o ls k K h go = let x = some_found o ls k K h in go x.0 x.1 x.2

  pub head_elim : (is : List Instr) (ls : List Line) (k : Instr-F Instr Code → List Instr → Answer) (K : To) → OnFound (with_head is ls k) K → ((i : Instr) (rest : List Instr) → is ≡ i ∷ rest → OnFound (k (out-Instr i) rest) K → G) → G
  head_elim is ls k K h go = let x = head_found is ls k K h in go x.0 x.1 x.2 x.3

  pub at_elim : (a : Answer) (k : State → List Instr → List Line → Answer) (K : To) → OnFound (and_then a k) K → ((s : State) (c : List Instr) (l : List Line) → a ≡ Found s c l → OnFound (k s c l) K → G) → G
  at_elim a k K h go = let x = found_at a k K h in go x.0 x.1 x.2 x.3 x.4

  pub if_line_elim : (ls : List Line) (k : List ℕ → List Line → Answer) (K : To) → OnFound (on_if_line ls k) K → ((rs : List ℕ) (rest : List Line) → OnFound (k rs rest) K → G) → G
  if_line_elim ls k K h go = let x = if_line_found ls k K h in go x.0 x.1 x.2

  pub while_line_elim : (ls : List Line) (k : List ℕ → List Line → Answer) (K : To) → OnFound (on_while_line ls k) K → ((rs : List ℕ) (rest : List Line) → OnFound (k rs rest) K → G) → G
  while_line_elim ls k K h go = let x = while_line_found ls k K h in go x.0 x.1 x.2

  pub if_own_elim : (ls : List Line) (x : Instr-F Instr Code) (k : ℕ → Code → Code → Answer) (K : To) → OnFound (if_own ls x k) K → ((t : ℕ) (c d : Code) → x ≡ I.If t c d → OnFound (k t c d) K → G) → G
  if_own_elim ls x k K h go = let y = if_own_found ls x k K h in go y.0 y.1 y.2 y.3 y.4

  pub while_own_elim : (ls : List Line) (x : Instr-F Instr Code) (k : Code → ℕ → Code → Answer) (K : To) → OnFound (while_own ls x k) K → ((c : Code) (t : ℕ) (b : Code) → x ≡ I.While c t b → OnFound (k c t b) K → G) → G
  while_own_elim ls x k K h go = let y = while_own_found ls x k K h in go y.0 y.1 y.2 y.3 y.4

  pub both_elim : (a b : Bool) → (a && b) ≡ true → (a ≡ true → b ≡ true → G) → G
  both_elim true b e go = go refl e
  both_elim false b e go = absurd (let z : ⊥ = cc e in z)

pub unmet : (ls : List Line) (K : To) → OnFound (Unmet ls) K → ⊥
unfolding OnFound
unmet ls K h = h

module _ (G : Type 1) where
  pub par_line_elim : (ls : List Line) (k : List Line → Answer) (K : To) → OnFound (on_par_line ls k) K → ((rest : List Line) → OnFound (k rest) K → G) → G
  unfolding on_par_line OnFound
  par_line_elim (Par_line ∷ ls) k K h go = go ls h
  par_line_elim [] k K h go = absurd h
  par_line_elim (_ ∷ ls) k K h go = absurd h

  pub par_own_elim : (ls : List Line) (x : Instr-F Instr Code) (k : Branch → Branch → Answer) (K : To) → OnFound (par_own ls x k) K → ((l r : Branch) → x ≡ I.Par l r → OnFound (k l r) K → G) → G
  unfolding par_own OnFound
  par_own_elim ls (I.Par l r) k K h go = go l r refl h
  par_own_elim ls _ k K h go = absurd h

  pub side_line_elim : (ls : List Line) (k : Bool → List Line → Answer) (K : To) → OnFound (on_side_line ls k) K → ((b : Bool) (rest : List Line) → OnFound (k b rest) K → G) → G
  unfolding on_side_line OnFound
  side_line_elim (Left_line ∷ ls) k K h go = go true ls h
  side_line_elim (Right_line ∷ ls) k K h go = go false ls h
  side_line_elim [] k K h go = absurd h
  side_line_elim (_ ∷ ls) k K h go = absurd h

  pub any_line_elim : (ls : List Line) (k : ℕ → List Line → Answer) (K : To) → OnFound (on_any_line ls k) K → ((r : ℕ) (rest : List Line) → OnFound (k r rest) K → G) → G
  unfolding on_any_line OnFound
  any_line_elim (Any_line r ∷ ls) k K h go = go r ls h
  any_line_elim [] k K h go = absurd h
  any_line_elim (_ ∷ ls) k K h go = absurd h

  pub split_line_elim : (ls : List Line) (k : ℕ → ℕ → List Line → Answer) (K : To) → OnFound (on_split_line ls k) K → ((ra rb : ℕ) (rest : List Line) → OnFound (k ra rb rest) K → G) → G
  unfolding on_split_line OnFound
  split_line_elim (Split_line ra rb ∷ ls) k K h go = go ra rb ls h
  split_line_elim [] k K h go = absurd h
  split_line_elim (_ ∷ ls) k K h go = absurd h

  pub three_elim : (ts : List Token) (ls : List Line) (k : Token → Token → Token → Answer) (K : To) → OnFound (three_words ts ls k) K → ((b o l : Token) → ts ≡ b ∷ o ∷ l ∷ [] → OnFound (k b o l) K → G) → G
  unfolding three_words OnFound
  three_elim (b ∷ o ∷ l ∷ []) ls k K h go = go b o l refl h
  three_elim [] ls k K h go = absurd h
  three_elim (b ∷ []) ls k K h go = absurd h
  three_elim (b ∷ o ∷ []) ls k K h go = absurd h
  three_elim (b ∷ o ∷ l ∷ x ∷ ts) ls k K h go = absurd h

  pub one_word_elim : (ts : List Token) (ls : List Line) (k : Token → Answer) (K : To) → OnFound (one_word ts ls k) K → ((t : Token) → ts ≡ t ∷ [] → OnFound (k t) K → G) → G
  unfolding one_word OnFound
  one_word_elim (t ∷ []) ls k K h go = go t refl h
  one_word_elim [] ls k K h go = absurd h
  one_word_elim (t ∷ u ∷ ts) ls k K h go = absurd h

  pub ok_elim : {A : Type 0} (o : Result A Refusal) (ls : List Line) (k : A → Answer) (K : To) → OnFound (with_ok o ls k) K → ((x : A) → o ≡ Ok x → OnFound (k x) K → G) → G
  unfolding with_ok OnFound
  ok_elim (Ok x) ls k K h go = go x refl h
  ok_elim (Err e) ls k K h go = absurd h

  pub use_line_elim : (ls : List Line) (k : List Line → Answer) (K : To) → OnFound (on_use_line ls k) K → ((rest : List Line) → OnFound (k rest) K → G) → G
  unfolding on_use_line OnFound
  use_line_elim (Use_line ∷ ls) k K h go = go ls h
  use_line_elim [] k K h go = absurd h
  use_line_elim (_ ∷ ls) k K h go = absurd h

  pub behind_elim : (zs : List Shape) (ls : List Line) (k : List Shape → Answer) (K : To) → OnFound (behind_first zs ls k) K → ((z : Shape) (ys : List Shape) → zs ≡ z ∷ ys → OnFound (k ys) K → G) → G
  unfolding behind_first OnFound
  behind_elim (z ∷ zs) ls k K h go = go z zs refl h
  behind_elim [] ls k K h go = absurd h

  pub first_out_elim : (vs : List ℕ) (ls : List Line) (k : ℕ → List ℕ → Answer) (K : To) → OnFound (first_out vs ls k) K → ((v : ℕ) (us : List ℕ) → vs ≡ v ∷ us → OnFound (k v us) K → G) → G
  unfolding first_out OnFound
  first_out_elim (v ∷ vs) ls k K h go = go v vs refl h
  first_out_elim [] ls k K h go = absurd h

  pub calc_own_elim : (ls : List Line) (x : Instr-F Instr Code) (k : ℕ → Calc → ℕ → ℕ → Answer) (K : To) → OnFound (calc_own ls x k) K → ((to : ℕ) (w : Calc) (l r : ℕ) → x ≡ I.Calc to w l r → OnFound (k to w l r) K → G) → G
  calc_own_elim ls x k K h go = let y = calc_own_found ls x k K h in go y.0 y.1 y.2 y.3 y.4 y.5
