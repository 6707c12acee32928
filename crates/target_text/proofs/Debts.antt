-- Each procedure that is owed is given.
use Rattle.std.proofs.Common.{◌≡◌, ℕ, suc, ◌||◌, cond, Bool, true, false, List, [], ◌∷◌, ◌++◌, length, Option, Some, None, is_some, unwrap_or, refl, ap, sym, ◌∙◌, ◌⊎◌, inl, inr, arith}
use Rattle.std.specs.Str.{bytes_eq}
use Rattle.std.proofs.lemmas.Slice.Eq.{bytes_eq-Decides}
use Rattle.target_code.specs.declared.tree.Rep.{Rep}
use Rattle.target_code.specs.declared.tree.InParam.{InParam}
use Rattle.target_code.specs.declared.tree.Proc.{Proc}
use Rattle.target_lines.specs.declared.line.Line.{Line}
use Rattle.target_lines.specs.Programs.{proc_lines, code_lends, procs_lend}
use Rattle.target_judge.specs.declared.told.Told.{Told}
use Rattle.target_judge.specs.Numbers.{Numbers, number_of}
use Rattle.target_judge.specs.Told.{Kind, Args, Results, Given, Input, lookup}
use Rattle.target_judge.specs.Taking.{Between, state}
use Rattle.target_judge.specs.Judging.{Judged, judged}
use Rattle.target_text.specs.Runs.{judge_all}
use Rattle.target_text.proofs.Passing.{IsNext}
use Rattle.target_text.proofs.Steps.{table, Kept, inside, all_then, run_kept}
use Rattle.target_text.proofs.SoundLines.{Placed, ProcAt}
use Rattle.target_text.proofs.Holds.{Holds, Quiet, quiet_append, holds_run}
use Rattle.target_text.proofs.Finish.{filled, filled_agrees, filled_none, blank, blank_next, blank_quiet, give}

abbrev At : List InParam → List Rep → Proc → List Proc → Told → ℕ → Judged
At ins outs q qs t w = judged (state ins outs (q ∷ qs) Between) t w

-- ---- names in a list

abbrev pub In : List ℕ → Numbers → Type 0
In name [] = ⊥
In name (e ∷ es) = (name ≡ e.0) ⊎ In name es

pub number_in : (name : List ℕ) (n : ℕ) (xs : Numbers) → number_of name xs ≡ Some n → In name xs
number_in name n [] e = absurd cc
number_in name n (x ∷ xs) e = by_name (number_in name n xs) (bytes_eq name x.0) refl e
  where
    by_name : (number_of name xs ≡ Some n → In name xs) → (b : Bool) → bytes_eq name x.0 ≡ b → cond b (Some x.1) (number_of name xs) ≡ Some n → In name (x ∷ xs)
    by_name rest true is g = inl ((bytes_eq-Decides name x.0).0 is)
    by_name rest false is g = inr (rest g)

-- each procedure of which something is told is given, or among these
abbrev pub Owed : Numbers → Told → Type 0
Owed es t = (name : List ℕ) (n : ℕ) → lookup Args name t ≡ Some n → (is_some (lookup Given name t) ≡ true) ⊎ In name es

there : (o : Option ℕ) (n : ℕ) → o ≡ Some n → is_some o ≡ true
there o n e = ap (λ x. is_some x) e

kept_some : (kind : Kind) (name : List ℕ) (t u : Told) → Kept t (table u) → (o : Option ℕ) → lookup kind name t ≡ o → is_some o ≡ true → is_some (lookup kind name u) ≡ true
kept_some kind name t u kept None is h = absurd cc
kept_some kind name t u kept (Some n) is h = there (lookup kind name u) n (kept kind name n is)

-- ---- one procedure

-- other procedures take so many arguments
others_take : ℕ → ℕ → Kind → List ℕ → ℕ
others_take o place Args name = o
others_take o place Results name = 0
others_take o place Given name = place
others_take o place Input name = 0

from_last : {A : Type 0} (P : ℕ → A → Type 0) (n : ℕ) (xs : List A) (x : A) → Placed P n (xs ++ x ∷ []) → (m : ℕ) × P m x
from_last P n [] x h = (n, h.0)
from_last P n (y ∷ ys) x h = from_last P (suc n) ys x h.1

-- given, it is owed no more, and nothing else is
record OneGiven (lends : Bool) (ins : List InParam) (outs : List Rep) (q : Proc) (qs : List Proc) (t : Told) (w : ℕ) (es : Numbers) : Type 0 where
  proc : Proc
  told : Told
  run : judge_all (proc_lines proc) (At ins outs q qs t w) ≡ Some (At ins outs q (qs ++ proc ∷ []) told w)
  quiet : Quiet lends (proc_lines proc)
  holds : Holds lends (At ins outs q (qs ++ proc ∷ []) told w)
  owed : Owed es told

same_told : (j : Judged) (ls : List Line) (ins : List InParam) (outs : List Rep) (q : Proc) (qs : List Proc) (u v : Told) (w : ℕ) → judge_all ls j ≡ Some (At ins outs q qs u w) → judge_all ls j ≡ Some (At ins outs q qs v w) → u ≡ v
same_told j ls ins outs q qs u v w e f = ap (λ (x : Judged). x.told) (inside (At ins outs q qs u w) (At ins outs q qs v w) (sym e ∙ f))

-- what was told before is given, or owed still; nothing else is told
owes : (t v : Told) (place n : ℕ) (name : List ℕ) (es : Numbers) (x : List ℕ) (m : ℕ) → Owed ((name, n) ∷ es) t → Kept t (table v) → is_some (lookup Given name v) ≡ true
    → filled t (others_take 0 place) Args x ≡ m → filled t (others_take 1 place) Args x ≡ m → (o : Option ℕ) → lookup Args x t ≡ o → (is_some (lookup Given x v) ≡ true) ⊎ In x es
unfolding others_take
owes t v place n name es x m owed kept own zero one None is =
    let a : 0 ≡ m = sym (filled_none t (others_take 0 place) Args x is) ∙ zero in
    let b : 1 ≡ m = sym (filled_none t (others_take 1 place) Args x is) ∙ one in
    absurd (omega (arith, a, b))
owes t v place n name es x m owed kept own zero one (Some k) is = by_owed (owed x k is)
  where
    by_owed : (is_some (lookup Given x t) ≡ true) ⊎ ((x ≡ name) ⊎ In x es) → (is_some (lookup Given x v) ≡ true) ⊎ In x es
    by_owed (inl h) = inl (kept_some Given x t v kept (lookup Given x t) refl h)
    by_owed (inr (inl same)) = inl (ap (λ (y : List ℕ). is_some (lookup Given y v)) same ∙ own)
    by_owed (inr (inr h)) = inr h

pay_one : (lends : Bool) (ins : List InParam) (outs : List Rep) (q : Proc) (qs : List Proc) (t : Told) (w : ℕ) (name : List ℕ) (n : ℕ) (es : Numbers) (args : ℕ) → Holds lends (At ins outs q qs t w) → Owed ((name, n) ∷ es) t → lookup Given name t ≡ None → lookup Args name t ≡ Some args
    → OneGiven lends ins outs q qs t w es
unfolding others_take
pay_one lends ins outs q qs t w name n es args holds owed no_place known =
    let j = At ins outs q qs t w in
    let place = length (q ∷ qs) in
    let results = unwrap_or (lookup Results name t) 0 in
    let p = blank name args results in
    let claim = holds.told Args name args known in
    let numbers : ℕ → Kind → List ℕ → ℕ = λ o. filled t (others_take o place) in
    let takes : (o : ℕ) → numbers o Args name ≡ args = λ o. filled_agrees t (others_take o place) Args name args known in
    let next : (o : ℕ) → IsNext (numbers o) w outs (q ∷ qs) p = λ o.
    blank_next (numbers o) w outs (q ∷ qs) name args results claim.0 refl claim.1 (filled_none t (others_take o place) Given name no_place, (takes o, tt)) refl in
    let zero = give (numbers 0) ins outs (q ∷ qs) w p t (filled_agrees t (others_take 0 place)) (next 0) in
    let one = give (numbers 1) ins outs (q ∷ qs) w p t (filled_agrees t (others_take 1 place)) (next 1) in
    let same : one.0 ≡ zero.0 = same_told j (proc_lines p) ins outs q (qs ++ p ∷ []) one.0 zero.0 w one.2 zero.2 in
    let v = zero.0 in
    let k = At ins outs q (qs ++ p ∷ []) v w in
    let there : Holds lends k = holds_run lends (proc_lines p) j k (blank_quiet lends name args results) zero.2 holds in
    let kept : Kept t (table v) = run_kept (proc_lines p) j k (table v) zero.2 (λ kind x m e. e) in
    let own : is_some (lookup Given name v) ≡ true =
    (let last = from_last (ProcAt (table v) lends) 0 (q ∷ qs) p (there.sound (table v) (λ kind x m e. e)).procs in
    ap (λ o. is_some o) last.1.1) in
    record {
      proc = p;
      told = v;
      run = zero.2;
      quiet = blank_quiet lends name args results;
      holds = there;
      owed = λ x m e. owes t v place n name es x m owed kept own (zero.1 Args x m e) (one.1 Args x m (ap (λ (u : Told). lookup Args x u) same ∙ e)) (lookup Args x t) refl;
    }

-- ---- all of them

-- it is not owed
not_owed : (es : Numbers) (t : Told) (name : List ℕ) (n : ℕ) → Owed ((name, n) ∷ es) t → ((m : ℕ) → lookup Args name t ≡ Some m → is_some (lookup Given name t) ≡ true) → Owed es t
not_owed es t name n owed given x m e = by_owed (owed x m e)
  where
    by_owed : (is_some (lookup Given x t) ≡ true) ⊎ ((x ≡ name) ⊎ In x es) → (is_some (lookup Given x t) ≡ true) ⊎ In x es
    by_owed (inl h) = inl h
    by_owed (inr (inl same)) = inl (ap (λ (y : List ℕ). is_some (lookup Given y t)) same ∙ given m (ap (λ (y : List ℕ). lookup Args y t) (sym same) ∙ e))
    by_owed (inr (inr h)) = inr h

lend_more : (ps qs : List Proc) → procs_lend ps ≡ true → procs_lend (ps ++ qs) ≡ true
lend_more [] qs h = absurd cc
lend_more (p ∷ ps) qs h = by_first (code_lends p.code) (lend_more ps qs) h
  where
    by_first : (b : Bool) → (procs_lend ps ≡ true → procs_lend (ps ++ qs) ≡ true) → (b || procs_lend ps) ≡ true → (b || procs_lend (ps ++ qs)) ≡ true
    by_first true rest e = refl
    by_first false rest e = rest e

-- nothing is owed any more
pub record Paid (lends : Bool) (ins : List InParam) (outs : List Rep) (q : Proc) (qs : List Proc) (t : Told) (w : ℕ) : Type 0 where
  pub more : List Line
  pub others : List Proc
  pub told : Told
  pub run : judge_all more (judged (state ins outs (q ∷ qs) Between) t w) ≡ Some (judged (state ins outs (q ∷ others) Between) told w)
  pub quiet : Quiet lends more
  pub given : Owed [] told
  pub lend : procs_lend (q ∷ qs) ≡ true → procs_lend (q ∷ others) ≡ true

then_paid : (lends : Bool) (ins : List InParam) (outs : List Rep) (q : Proc) (qs : List Proc) (t : Told) (w : ℕ) (es : Numbers) (g : OneGiven lends ins outs q qs t w es) → Paid lends ins outs q (qs ++ g.proc ∷ []) g.told w → Paid lends ins outs q qs t w
then_paid lends ins outs q qs t w es g p = record {
  more = proc_lines g.proc ++ p.more;
  others = p.others;
  told = p.told;
  run = all_then (proc_lines g.proc) p.more (At ins outs q qs t w) (At ins outs q (qs ++ g.proc ∷ []) g.told w) (Some (At ins outs q p.others p.told w)) g.run p.run;
  quiet = quiet_append lends (proc_lines g.proc) p.more g.quiet p.quiet;
  given = p.given;
  lend = λ h. p.lend (lend_more (q ∷ qs) (g.proc ∷ []) h);
}

pub pay : (lends : Bool) (ins : List InParam) (outs : List Rep) (q : Proc) (qs : List Proc) (t : Told) (w : ℕ) (es : Numbers) → Holds lends (judged (state ins outs (q ∷ qs) Between) t w) → Owed es t → Paid lends ins outs q qs t w
pay lends ins outs q qs t w [] holds owed = record { more = []; others = qs; told = t; run = refl; quiet = tt; given = owed; lend = λ h. h }
pay lends ins outs q qs t w (e ∷ es) holds owed =
    by_place (λ o. pay lends ins outs q qs t w es holds o) (λ g. then_paid lends ins outs q qs t w es g (pay lends ins outs q (qs ++ g.proc ∷ []) g.told w es g.holds g.owed)) (lookup Given e.0 t) refl
  where
    by_args : (Owed es t → Paid lends ins outs q qs t w) → (OneGiven lends ins outs q qs t w es → Paid lends ins outs q qs t w) → lookup Given e.0 t ≡ None → (o : Option ℕ) → lookup Args e.0 t ≡ o → Paid lends ins outs q qs t w
    by_args skip one no_place None is = skip (not_owed es t e.0 e.1 owed (λ m f. absurd (let clash : Some m ≡ None = sym f ∙ is in absurd cc)))
    by_args skip one no_place (Some args) is = one (pay_one lends ins outs q qs t w e.0 e.1 es args holds owed no_place is)

    by_place : (Owed es t → Paid lends ins outs q qs t w) → (OneGiven lends ins outs q qs t w es → Paid lends ins outs q qs t w) → (o : Option ℕ) → lookup Given e.0 t ≡ o → Paid lends ins outs q qs t w
    by_place skip one None is = by_args skip one is (lookup Args e.0 t) refl
    by_place skip one (Some m) is = skip (not_owed es t e.0 e.1 owed (λ k f. there (lookup Given e.0 t) m is))
