-- Where a way of following leads: what is so of each end that it comes to, part by part.
use Rattle.std.specs.Prelude.{◌≡◌, ℕ, Bool, true, false, cond, List, [], ◌∷◌, drop, Option, Some, None, Result, Ok, Err}
use Rattle.std.specs.Str.{bytes_eq}
use Rattle.std.proofs.Common.{refl, sym, ap, ◌∙◌, subst}
use Rattle.target_code.specs.declared.tree.Branch.{Branch}
use Rattle.target_code.specs.declared.tree.Calc.{Calc}
use Rattle.target_code.specs.declared.tree.Code.{Code}
use Rattle.target_code.specs.declared.tree.Instr.{Instr, out-Instr, Instr-F}
use Rattle.target_code.specs.declared.tree.Instr.TheOpen as I
use Rattle.nres_core.specs.declared.refusal.Refusal.{Refusal}
use Rattle.rule_check.specs.Context.{Gone, Shape}
use Rattle.fits.specs.Places.{Token, Entry, State}
use Rattle.fits.specs.Follow.{Line, Calc_line, Row_line, Reg_line, Any_line, Left_line, Right_line, If_line, While_line, Par_line, Split_line, Use_line, Answer, Found, Unmet, Walk, Views, and_then, need, with_some, with_ok, with_head, at_end_of, on_calc_line, on_row_line, on_reg_line, on_any_line, on_side_line, on_if_line, on_while_line, on_par_line, on_split_line, on_use_line, calc_own, call_own, if_own, while_own, par_own, one_out, three_words, one_word, first_out, behind_first, pass_one, pass_all, pass_until}
use Rattle.fit_laws.specs.Older.{Under, SameNumbers}
use Rattle.fit_laws.proofs.Numbers.{numbers_put, numbers_same, numbers_then, owner_holds}

-- what is so of each end
pub record Leads (a : Answer) (P : State → List Instr → List Line → Type 0) : Type 0 where
  pub to : (s : State) (c : List Instr) (ls : List Line) → a ≡ Found s c ls → P s c ls

-- ---- ends

module _ (P : State → List Instr → List Line → Type 0) where
  pub here : (s : State) (c : List Instr) (ls : List Line) → P s c ls → Leads (Found s c ls) P
  here s c ls p = record { to = λ t d ms e. by (Found t d ms) e }
    where
      On : Answer → Type 0
      On (Found t d ms) = P t d ms
      On (Unmet ms) = Unit {0}

      by : (a : Answer) → Found s c ls ≡ a → On a
      by a e = subst On e p

  pub unmet : (ls : List Line) → Leads (Unmet ls) P
  unmet ls = record { to = λ s c l e. absurd (let o : ⊥ = cc e in o) }

  pub then_leads : (a : Answer) (w : Walk) (Q : State → List Instr → List Line → Type 0) → Leads a Q → ((s : State) (c : List Instr) (ls : List Line) → Q s c ls → Leads (w s c ls) P) → Leads (and_then a w) P
  unfolding and_then
  then_leads (Found s c ls) w Q h g = g s c ls (h.to s c ls refl)
  then_leads (Unmet ls) w Q h g = unmet ls

  pub need_leads : (b : Bool) (ls : List Line) (x : Answer) → (b ≡ true → Leads x P) → Leads (need b ls x) P
  unfolding need
  need_leads true ls x h = h refl
  need_leads false ls x h = unmet ls

  pub some_leads : {A : Type 0} (o : Option A) (ls : List Line) (k : A → Answer) → ((x : A) → o ≡ Some x → Leads (k x) P) → Leads (with_some o ls k) P
  unfolding with_some
  some_leads None ls k h = unmet ls
  some_leads (Some x) ls k h = h x refl

  pub ok_leads : {A : Type 0} (r : Result A Refusal) (ls : List Line) (k : A → Answer) → ((x : A) → Leads (k x) P) → Leads (with_ok r ls k) P
  unfolding with_ok
  ok_leads (Ok x) ls k h = h x
  ok_leads (Err e) ls k h = unmet ls

  pub head_leads : (is : List Instr) (ls : List Line) (k : Instr-F Instr Code → List Instr → Answer) → ((i : Instr) (rest : List Instr) → is ≡ i ∷ rest → Leads (k (out-Instr i) rest) P) → Leads (with_head is ls k) P
  unfolding with_head
  head_leads [] ls k h = unmet ls
  head_leads (i ∷ is) ls k h = h i is refl

  pub at_end_leads : (is : List Instr) (ls : List Line) (x : Answer) → (is ≡ [] → Leads x P) → Leads (at_end_of is ls x) P
  unfolding at_end_of
  at_end_leads [] ls x h = h refl
  at_end_leads (i ∷ is) ls x h = unmet ls

  -- ---- lines

  pub calc_line : (ls : List Line) (k : List Line → Answer) → ((js : List Line) → drop 1 ls ≡ js → Leads (k js) P) → Leads (on_calc_line ls k) P
  unfolding on_calc_line
  calc_line (Calc_line ∷ ls) k h = h ls refl
  calc_line ls k h = unmet ls

  pub row_line : (ls : List Line) (want : List ℕ) (k : List Line → Answer) → ((js : List Line) → drop 1 ls ≡ js → Leads (k js) P) → Leads (on_row_line ls want k) P
  unfolding on_row_line
  row_line (Row_line name ∷ ls) want k h = need_leads (bytes_eq name want) (Row_line name ∷ ls) (k ls) (λ e. h ls refl)
  row_line ls want k h = unmet ls

  pub reg_line : (ls : List Line) (k : List Line → Answer) → ((js : List Line) → drop 1 ls ≡ js → Leads (k js) P) → Leads (on_reg_line ls k) P
  unfolding on_reg_line
  reg_line (Reg_line ∷ ls) k h = h ls refl
  reg_line ls k h = unmet ls

  pub any_line : (ls : List Line) (k : ℕ → List Line → Answer) → ((x : ℕ) (js : List Line) → drop 1 ls ≡ js → Leads (k x js) P) → Leads (on_any_line ls k) P
  unfolding on_any_line
  any_line (Any_line x ∷ ls) k h = h x ls refl
  any_line ls k h = unmet ls

  pub side_line : (ls : List Line) (k : Bool → List Line → Answer) → ((js : List Line) → ls ≡ Left_line ∷ js → Leads (k true js) P) → ((js : List Line) → ls ≡ Right_line ∷ js → Leads (k false js) P) → Leads (on_side_line ls k) P
  unfolding on_side_line
  side_line (Left_line ∷ ls) k h g = h ls refl
  side_line (Right_line ∷ ls) k h g = g ls refl
  side_line ls k h g = unmet ls

  pub if_line : (ls : List Line) (k : List ℕ → List Line → Answer) → ((rs : List ℕ) (js : List Line) → drop 1 ls ≡ js → Leads (k rs js) P) → Leads (on_if_line ls k) P
  unfolding on_if_line
  if_line (If_line rs ∷ ls) k h = h rs ls refl
  if_line ls k h = unmet ls

  pub while_line : (ls : List Line) (k : List ℕ → List Line → Answer) → ((rs : List ℕ) (js : List Line) → drop 1 ls ≡ js → Leads (k rs js) P) → Leads (on_while_line ls k) P
  unfolding on_while_line
  while_line (While_line rs ∷ ls) k h = h rs ls refl
  while_line ls k h = unmet ls

  pub par_line : (ls : List Line) (k : List Line → Answer) → ((js : List Line) → drop 1 ls ≡ js → Leads (k js) P) → Leads (on_par_line ls k) P
  unfolding on_par_line
  par_line (Par_line ∷ ls) k h = h ls refl
  par_line ls k h = unmet ls

  pub split_line : (ls : List Line) (k : ℕ → ℕ → List Line → Answer) → ((x y : ℕ) (js : List Line) → drop 1 ls ≡ js → Leads (k x y js) P) → Leads (on_split_line ls k) P
  unfolding on_split_line
  split_line (Split_line x y ∷ ls) k h = h x y ls refl
  split_line ls k h = unmet ls

  pub use_line : (ls : List Line) (k : List Line → Answer) → ((js : List Line) → drop 1 ls ≡ js → Leads (k js) P) → Leads (on_use_line ls k) P
  unfolding on_use_line
  use_line (Use_line ∷ ls) k h = h ls refl
  use_line ls k h = unmet ls

  -- ---- own instructions

  pub own_calc : (ls : List Line) (i : Instr-F Instr Code) (k : ℕ → Calc → ℕ → ℕ → Answer) → ((to : ℕ) (w : Calc) (x y : ℕ) → i ≡ I.Calc to w x y → Leads (k to w x y) P) → Leads (calc_own ls i k) P
  unfolding calc_own
  own_calc ls (I.Calc to w x y) k h = h to w x y refl
  own_calc ls _ k h = unmet ls

  pub own_call : (ls : List Line) (i : Instr-F Instr Code) (k : List ℕ → List ℕ → List ℕ → Answer) → ((to name args : List ℕ) → i ≡ I.Call to name args → Leads (k to name args) P) → Leads (call_own ls i k) P
  unfolding call_own
  own_call ls (I.Call to name args) k h = h to name args refl
  own_call ls _ k h = unmet ls

  pub own_if : (ls : List Line) (i : Instr-F Instr Code) (k : ℕ → Code → Code → Answer) → ((t : ℕ) (c d : Code) → i ≡ I.If t c d → Leads (k t c d) P) → Leads (if_own ls i k) P
  unfolding if_own
  own_if ls (I.If t c d) k h = h t c d refl
  own_if ls _ k h = unmet ls

  pub own_while : (ls : List Line) (i : Instr-F Instr Code) (k : Code → ℕ → Code → Answer) → ((c : Code) (t : ℕ) (b : Code) → i ≡ I.While c t b → Leads (k c t b) P) → Leads (while_own ls i k) P
  unfolding while_own
  own_while ls (I.While c t b) k h = h c t b refl
  own_while ls _ k h = unmet ls

  pub own_par : (ls : List Line) (i : Instr-F Instr Code) (k : Branch → Branch → Answer) → ((x y : Branch) → i ≡ I.Par x y → Leads (k x y) P) → Leads (par_own ls i k) P
  unfolding par_own
  own_par ls (I.Par x y) k h = h x y refl
  own_par ls _ k h = unmet ls

  -- ---- lists of one form

  pub out_leads : (vs : List ℕ) (ls : List Line) (k : ℕ → Answer) → ((v : ℕ) → Leads (k v) P) → Leads (one_out vs ls k) P
  unfolding one_out
  out_leads [] ls k h = unmet ls
  out_leads (v ∷ []) ls k h = h v
  out_leads (v ∷ w ∷ vs) ls k h = unmet ls

  pub three_leads : (ws : List Token) (ls : List Line) (k : Token → Token → Token → Answer) → ((x y z : Token) → Leads (k x y z) P) → Leads (three_words ws ls k) P
  unfolding three_words
  three_leads [] ls k h = unmet ls
  three_leads (x ∷ []) ls k h = unmet ls
  three_leads (x ∷ y ∷ []) ls k h = unmet ls
  three_leads (x ∷ y ∷ z ∷ []) ls k h = h x y z
  three_leads (x ∷ y ∷ z ∷ w ∷ ws) ls k h = unmet ls

  pub word_leads : (ws : List Token) (ls : List Line) (k : Token → Answer) → ((x : Token) → Leads (k x) P) → Leads (one_word ws ls k) P
  unfolding one_word
  word_leads [] ls k h = unmet ls
  word_leads (x ∷ []) ls k h = h x
  word_leads (x ∷ y ∷ ws) ls k h = unmet ls

  pub first_leads : (vs : List ℕ) (ls : List Line) (k : ℕ → List ℕ → Answer) → ((v : ℕ) (ws : List ℕ) → Leads (k v ws) P) → Leads (first_out vs ls k) P
  unfolding first_out
  first_leads [] ls k h = unmet ls
  first_leads (v ∷ vs) ls k h = h v vs

  pub behind_leads : (zs : List Shape) (ls : List Line) (k : List Shape → Answer) → ((ys : List Shape) → Leads (k ys) P) → Leads (behind_first zs ls k) P
  unfolding behind_first
  behind_leads [] ls k h = unmet ls
  behind_leads (z ∷ zs) ls k h = h zs

-- ---- plain code

-- what is passed over makes no variable
pub record Passed (s u : State) : Type 0 where
  pub entries : u.entries ≡ s.entries
  pub next : u.next ≡ s.next
  pub numbers : SameNumbers s.hold u.hold s.entries

pub passed_none : (s : State) → Passed s s
passed_none s = record { entries = refl; next = refl; numbers = numbers_same s.hold s.entries }

pub passed_then : (s t u : State) → Passed s t → Passed t u → Passed s u
passed_then s t u x y = record {
  entries = y.entries ∙ x.entries;
  next = y.next ∙ x.next;
  numbers = numbers_then s.hold t.hold u.hold s.entries x.numbers (subst (SameNumbers t.hold u.hold) x.entries y.numbers);
}

under_passed : (s u : State) → Passed s u → Under s.next s.entries → Under u.next u.entries
under_passed s u p w = subst (λ es. Under u.next es) (sym p.entries) (subst (λ n. Under n s.entries) (sym p.next) w)

module _ (P : State → List Instr → List Line → Type 0) (R : ℕ) (V : Views) where
  one_leads : (ls : List Line) (s : State) (i : Instr-F Instr Code) (k : State → Answer) (stop : Answer) → Under s.next s.entries
      → ((u : State) → Passed s u → Leads (k u) P) → Leads stop P → Leads (pass_one R V ls s i k stop) P
  unfolding pass_one
  one_leads ls s (I.Const to v) k stop w h g = need_leads P _ ls _ (λ e. h _ (record { entries = refl; next = refl; numbers = numbers_same s.hold s.entries }))
  one_leads ls s (I.Mov to from) k stop w h g = need_leads P _ ls _ (λ e. h _ (record { entries = refl; next = refl; numbers = numbers_same s.hold s.entries }))
  one_leads ls s (I.Free b) k stop w h g =
      some_leads P _ ls _ (λ v e. h _ (record { entries = refl; next = refl; numbers = numbers_put s.entries s.hold v Gone (owner_holds s.next s.entries s.hold (s.toks b) v w e) }))
  one_leads ls s _ k stop w h g = g

  pub pass_leads : (s : State) (is : List Instr) (ls : List Line) (k : State → List Instr → Answer) → Under s.next s.entries → ((u : State) (js : List Instr) → Passed s u → Leads (k u js) P) → Leads (pass_all R V s is ls k) P
  unfolding pass_all
  pass_leads s [] ls k w h = h s [] (passed_none s)
  pass_leads s (i ∷ is) ls k w h =
      one_leads ls s (out-Instr i) _ _ w (λ v p. pass_leads v is ls k (under_passed s v p w) (λ u js q. h u js (passed_then s v u p q))) (h s (i ∷ is) (passed_none s))

  pub until_leads : (ok : State → Bool) (s : State) (is : List Instr) (ls : List Line) (k : State → List Instr → Answer) → Under s.next s.entries → ((u : State) (js : List Instr) → Passed s u → Leads (k u js) P) → Leads (pass_until R V ok s is ls k) P
  unfolding pass_until
  until_leads ok s [] ls k w h = need_leads P (ok s) ls _ (λ e. h s [] (passed_none s))
  until_leads ok s (i ∷ is) ls k w h =
      by (ok s) (h s (i ∷ is) (passed_none s))
      (one_leads ls s (out-Instr i) _ _ w (λ v p. until_leads ok v is ls k (under_passed s v p w) (λ u js q. h u js (passed_then s v u p q))) (unmet P ls))
    where
      by : {a b : Answer} (t : Bool) → Leads a P → Leads b P → Leads (cond t a b) P
      by true x y = x
      by false x y = y
