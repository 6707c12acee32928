-- Lines that are judged begin the text of a formed program.
use Rattle.std.proofs.Common.{◌≡◌, ℕ, ◌<◌, ◌^◌, cond, Bool, true, false, true≢false, List, [], ◌∷◌, ◌++◌, length, Option, Some, None, is_some, refl, ap, sym, subst, ◌∙◌, ◌⊎◌, inl, inr, append_assoc, arith}
use Rattle.std.specs.Prelude.{IfSome}
use Rattle.std.specs.List.{list_all}
use Rattle.std.specs.Str.{bytes_eq}
use Rattle.std.specs.Cmp.Derive.{both_true}
use Rattle.std.proofs.lemmas.List.{append-nil}
use Rattle.std.proofs.lemmas.Slice.Eq.{bytes_eq-Decides}
use Rattle.target_code.specs.declared.tree.Rep.{Rep}
use Rattle.target_code.specs.declared.tree.InParam.{InParam}
use Rattle.target_code.specs.declared.tree.Proc.{Proc}
use Rattle.target_code.specs.declared.tree.Program.{Program}
use Rattle.target_code.specs.Formed.{Formed}
use Rattle.target_lines.specs.declared.line.Line.{Line}
use Rattle.target_lines.specs.Programs.{procs_lend, lends}
use Rattle.target_judge.specs.declared.told.Told.{Told}
use Rattle.target_judge.specs.Numbers.{Numbers, number_of, have_numbers}
use Rattle.target_judge.specs.Told.{Given, lookup}
use Rattle.target_judge.specs.Taking.{Between, state, lines_of}
use Rattle.target_judge.specs.Judging.{Judged, judged, unread, program_of}
use Rattle.target_text.specs.Runs.{judge_all}
use Rattle.target_text.proofs.Takings.{body_lines}
use Rattle.target_text.proofs.TakingsBack.{line_adds}
use Rattle.target_text.proofs.Steps.{judge_step, then_all, all_then}
use Rattle.target_text.proofs.Counts.{run_more}
use Rattle.target_text.proofs.Fresh.{many, many_here}
use Rattle.target_text.proofs.Holds.{Holds, Quiet, holds_unread, holds_run}
use Rattle.target_text.proofs.FormedEnd.{whole_formed, quiet_lends}
use Rattle.target_text.proofs.Finish.{rest_of, finish}
use Rattle.target_text.proofs.Debts.{Owed, pay, number_in}
use Rattle.target_text.proofs.Lending.{lend}

-- ---- the lines of a run

pub run_lines : (ls : List Line) (j k : Judged) → judge_all ls j ≡ Some k → lines_of k.state ≡ lines_of j.state ++ ls
run_lines [] j k e = let same : j ≡ k = cc in ap (λ (x : Judged). lines_of x.state) (sym same) ∙ sym (append-nil (lines_of j.state))
run_lines (l ∷ ls) j k e =
    let a = then_all l ls j k e in
    let one : lines_of a.0.state ≡ lines_of j.state ++ l ∷ [] = subst (λ o. IfSome o (λ t. lines_of t ≡ lines_of j.state ++ l ∷ [])) (judge_step l j a.0 a.1).taken (line_adds l j.state) in
    run_lines ls a.0 k a.2 ∙ ap (λ (x : List Line). x ++ ls) one ∙ append_assoc (lines_of j.state) (l ∷ []) ls

pub body_is : (ins : List InParam) (outs : List Rep) (procs : List Proc) → body_lines (program_of (state ins outs procs Between)) ≡ lines_of (state ins outs procs Between)
body_is ins outs procs = simp (append_assoc, append-nil)

-- ---- all names are given

in_front : (name : List ℕ) (x : List ℕ × ℕ) (xs : Numbers) → is_some (number_of name xs) ≡ true → is_some (number_of name (x ∷ xs)) ≡ true
in_front name x xs h = by_name (bytes_eq name x.0)
  where
    by_name : (b : Bool) → is_some (cond b (Some x.1) (number_of name xs)) ≡ true
    by_name true = refl
    by_name false = h

pub all_numbers : (f : List ℕ → Bool) (xs : Numbers) → ((name : List ℕ) → is_some (number_of name xs) ≡ true → f name ≡ true) → list_all (λ x. f x.0) xs ≡ true
all_numbers f [] h = refl
all_numbers f (x ∷ xs) h =
    let own : is_some (number_of x.0 (x ∷ xs)) ≡ true = ap (λ b. is_some (cond b (Some x.1) (number_of x.0 xs))) ((bytes_eq-Decides x.0 x.0).1 refl) in
    both_true (h x.0 own) (all_numbers f xs (λ name k. h name (in_front name x xs k)))

pub some_number : (o : Option ℕ) → is_some o ≡ true → (n : ℕ) × (o ≡ Some n)
some_number None h = absurd (true≢false (sym h))
some_number (Some n) h = (n, refl)

nothing_owed : (t : Told) → Owed [] t → have_numbers t.given t.args ≡ true
nothing_owed t owed = all_numbers (λ name. is_some (number_of name t.given)) t.args (λ name h. (let n = some_number (number_of name t.args) h in given name (owed name n.0 n.1)))
  where
    given : (name : List ℕ) → (is_some (lookup Given name t) ≡ true) ⊎ ⊥ → is_some (number_of name t.given) ≡ true
    given name (inl h) = h
    given name (inr h) = absurd h

-- ---- the program

-- one that begins so
pub record Begun (shown : Bool) (ls : List Line) : Type 0 where
  pub program : Program
  pub formed : Formed program
  pub shows : lends program ≡ shown
  pub more : List Line
  pub lines : body_lines program ≡ ls ++ more

-- a procedure with a lend is there, where they are shown
record Shown (shown : Bool) (ins : List InParam) (outs : List Rep) (q : Proc) (qs : List Proc) (t : Told) (w : ℕ) : Type 0 where
  more : List Line
  others : List Proc
  told : Told
  run : judge_all more (judged (state ins outs (q ∷ qs) Between) t w) ≡ Some (judged (state ins outs (q ∷ others) Between) told w)
  quiet : Quiet shown more
  lend : shown ≡ true → procs_lend (q ∷ others) ≡ true

all_quiet : (ls : List Line) → Quiet true ls
all_quiet [] = tt
all_quiet (l ∷ ls) = ((λ e. absurd (true≢false e)), all_quiet ls)

show : (shown : Bool) (ins : List InParam) (outs : List Rep) (q : Proc) (qs : List Proc) (t : Told) (w : ℕ) → Holds shown (judged (state ins outs (q ∷ qs) Between) t w) → length t.args < many 64 → Shown shown ins outs q qs t w
show true ins outs q qs t w holds few =
    let r = lend ins outs q qs t w holds few in
    record { more = r.more; others = r.others; told = r.told; run = r.run; quiet = all_quiet r.more; lend = λ e. r.lend }
show false ins outs q qs t w holds few = record { more = []; others = qs; told = t; run = refl; quiet = tt; lend = λ e. absurd (true≢false (sym e)) }

shows_so : (shown : Bool) (j : Judged) → Holds shown j → (shown ≡ true → procs_lend j.state.procs ≡ true) → procs_lend j.state.procs ≡ shown
shows_so true j holds h = h refl
shows_so false j holds h = quiet_lends j holds

pub viable : (shown : Bool) (ls : List Line) (j : Judged) → judge_all ls unread ≡ Some j → Quiet shown ls → length ls < 2 ^ 64 → Begun shown ls
viable shown ls j run quiet few =
    let holds = holds_run shown ls unread j quiet run (holds_unread shown) in
    let end = finish shown j holds in
    let r = end.0 in
    let k = rest_of shown j r in
    let rested : Holds shown k = holds_run shown r.more j k r.quiet r.run holds in
    let count : length r.told.args < many 64 = omega (arith, run_more ls unread j run, run_more r.more j k r.run, end.1, few, many_here) in
    let s = show shown r.ins r.outs r.first r.others r.told r.width rested count in
    let m = judged (state r.ins r.outs (r.first ∷ s.others) Between) s.told r.width in
    let shared : Holds shown m = holds_run shown s.more k m s.quiet s.run rested in
    let p = pay shown r.ins r.outs r.first s.others s.told r.width s.told.args shared (λ name n e. inr (number_in name n s.told.args e)) in
    let last = judged (state r.ins r.outs (r.first ∷ p.others) Between) p.told r.width in
    let whole : Holds shown last = holds_run shown p.more m last p.quiet p.run shared in
    let more = r.more ++ (s.more ++ p.more) in
    let all : judge_all (ls ++ more) unread ≡ Some last = all_then ls more unread j (Some last) run (all_then r.more (s.more ++ p.more) j k (Some last) r.run (all_then s.more p.more k m (Some last) s.run p.run)) in
    record {
      program = program_of last.state;
      formed = whole_formed shown last whole (record { between = refl; some = refl; given = nothing_owed p.told p.given });
      shows = shows_so shown last whole (λ e. p.lend (s.lend e));
      more = more;
      lines = body_is r.ins r.outs (r.first ∷ p.others) ∙ run_lines (ls ++ more) unread last all;
    }
