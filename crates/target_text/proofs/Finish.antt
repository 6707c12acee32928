-- From all that lines say, lines lead to the end of a procedure.
use Rattle.std.proofs.Common.{◌≡◌, ℕ, zero, suc, ◌≤◌, ◌||◌, Bool, true, false, nat_eq, nat_le, List, [], ◌∷◌, ◌++◌, length, Option, Some, None, is_some, unwrap_or, refl, ap, sym, subst, ◌∙◌, arith, length-append}
use Rattle.std.specs.List.{AllByRecursion}
use Rattle.std.specs.Cmp.Derive.{both_true}
use Rattle.std.proofs.lemmas.Bool.{eqb-true, leb-true, le-leb, lt-ltb}
use Rattle.std.proofs.lemmas.List.{append-nil}
use Rattle.target_code.specs.declared.tree.Rep.{Rep}
use Rattle.target_code.specs.declared.tree.InParam.{InParam}
use Rattle.target_code.specs.declared.tree.Instr.{Instr}
use Rattle.target_code.specs.declared.tree.Proc.{Proc}
use Rattle.target_code.specs.Reserved.{is_proc_name}
use Rattle.target_code.specs.Lines as tests
use Rattle.target_code.specs.Formed.{result_width}
use Rattle.target_lines.specs.declared.line.Line.{Line}
use Rattle.target_lines.specs.declared.line.Phrase.TheVariants as phrase
use Rattle.target_lines.specs.Programs.{line, proc_lines}
use Rattle.target_judge.specs.declared.told.Told.{Told}
use Rattle.target_judge.specs.Shape.{Place, place, code_of, and_then}
use Rattle.target_judge.specs.Told.{Kind, Args, Results, Given, Input, Agrees, lookup}
use Rattle.target_judge.specs.Taking.{Header, Spot, Between, Inside, Ended, state, take_line, proc_of}
use Rattle.target_judge.specs.Judging.{Judged, judged, most_registers, main_name, has_room, may_be_main, head_tells, told_after, tested, judge}
use Rattle.target_text.specs.Runs.{judge_all}
use Rattle.target_text.proofs.Passing.{AreCode, IsNext}
use Rattle.target_text.proofs.Shapes.{code_is}
use Rattle.target_text.proofs.CodeJudged.{code_judged}
use Rattle.target_text.proofs.ProcJudged.{ret_judged, proc_judged}
use Rattle.target_text.proofs.Steps.{table, all_then}
use Rattle.target_text.proofs.Sound.{Rules, code_nests_of}
use Rattle.target_text.proofs.SoundLines.{rules}
use Rattle.target_text.proofs.Holds.{Holds, Quiet, quiet_append, holds_run}
use Rattle.target_text.proofs.Closing.{closing, closed, closes, closing_code, closing_quiet, closing_few}

-- ---- numbers of all names

-- those that are told, and others where none is
abbrev pub filled : Told → (Kind → List ℕ → ℕ) → Kind → List ℕ → ℕ
filled t d kind name = unwrap_or (lookup kind name t) (d kind name)

pub filled_agrees : (t : Told) (d : Kind → List ℕ → ℕ) → Agrees (filled t d) t
filled_agrees t d kind name n e = ap (λ o. unwrap_or o (d kind name)) e

pub filled_none : (t : Told) (d : Kind → List ℕ → ℕ) (kind : Kind) (name : List ℕ) → lookup kind name t ≡ None → filled t d kind name ≡ d kind name
filled_none t d kind name e = ap (λ o. unwrap_or o (d kind name)) e

pub none_there : (o : Option ℕ) → ((n : ℕ) → o ≡ Some n → ⊥) → o ≡ None
none_there None h = refl
none_there (Some n) h = absurd (h n refl)

abbrev pub zero_numbers : Kind → List ℕ → ℕ
zero_numbers kind name = 0

-- ---- procedures without code

abbrev pub zeros : ℕ → List ℕ
zeros zero = []
zeros (suc n) = 0 ∷ zeros n

length_zeros : (n : ℕ) → length (zeros n) ≡ n
length_zeros zero = refl
length_zeros (suc n) = ap suc (length_zeros n)

zeros_below : (regs n : ℕ) → 1 ≤ regs → tests.all_below regs (zeros n) ≡ true
zeros_below regs zero h = refl
zeros_below regs (suc n) h = both_true (lt-ltb 0 regs (omega arith)) (zeros_below regs n h)

room_below : (regs : ℕ) (o : Option ℕ) → has_room regs o ≡ true → tests.all_below regs (zeros (unwrap_or o 0)) ≡ true
room_below regs None h = refl
room_below regs (Some n) h = by_zero (nat_eq n 0) refl h
  where
    by_zero : (v : Bool) → nat_eq n 0 ≡ v → (v || nat_le 1 regs) ≡ true → tests.all_below regs (zeros n) ≡ true
    by_zero true e g = ap (λ k. tests.all_below regs (zeros k)) (eqb-true n 0 e)
    by_zero false e g = zeros_below regs n (leb-true 1 regs g)

-- at least one register
abbrev pub regs_for : ℕ → ℕ
regs_for zero = 1
regs_for (suc n) = suc n

regs_sizes : (n : ℕ) → (n ≤ regs_for n) × (1 ≤ regs_for n) × (n ≤ 8388608 → regs_for n ≤ 8388608)
regs_sizes zero = (omega arith, omega arith, λ h. omega arith)
regs_sizes (suc n) = (omega arith, omega arith, λ h. h)

abbrev pub blank : List ℕ → ℕ → ℕ → Proc
blank name args results = record { name = name; args = args; regs = regs_for args; code = code_of []; ret = zeros results }

any_rules : Rules
any_rules = record { numbers = λ kind name. None; regs = 0; lends = true }

pub blank_next : (numbers : Kind → List ℕ → ℕ) (w : ℕ) (outs : List Rep) (ps : List Proc) (name : List ℕ) (args results : ℕ) → is_proc_name name ≡ true → may_be_main ps name ≡ true → nat_le args most_registers ≡ true
    → AllByRecursion (λ x. numbers x.kind x.name ≡ x.number) (head_tells (phrase.Proc name args (regs_for args)) w (state [] outs ps Between)) → numbers Results name ≡ results → IsNext numbers w outs ps (blank name args results)
blank_next numbers w outs ps name args results named first few tells gives =
    let sizes = regs_sizes args in
    record {
      named = named;
      first = first;
      sizes = le-leb args (regs_for args) sizes.0;
      limit = le-leb (regs_for args) most_registers (sizes.2 (leb-true args most_registers few));
      tells = tells;
      gives = gives ∙ sym (length_zeros results);
      ret = zeros_below (regs_for args) results sizes.1;
      nests = code_nests_of any_rules 0 [] tt;
      code = λ n. subst (λ ls. AreCode numbers (regs_for args) name ls) (sym (code_is [] n)) tt;
    }

blank_lines : (name : List ℕ) (args results : ℕ) → proc_lines (blank name args results) ≡ line 0 (phrase.Proc name args (regs_for args)) ∷ line 1 (phrase.Ret (zeros results)) ∷ line 0 phrase.End ∷ []
blank_lines name args results = ap (λ (ls : List Line). line 0 (phrase.Proc name args (regs_for args)) ∷ (ls ++ (line 1 (phrase.Ret (zeros results)) ∷ line 0 phrase.End ∷ []))) (code_is [] 1)

pub blank_quiet : (lends : Bool) (name : List ℕ) (args results : ℕ) → Quiet lends (proc_lines (blank name args results))
blank_quiet lends name args results = subst (λ ls. Quiet lends ls) (sym (blank_lines name args results)) ((λ e. refl), ((λ e. refl), ((λ e. refl), tt)))

-- a procedure that comes next
pub give : (numbers : Kind → List ℕ → ℕ) (ins : List InParam) (outs : List Rep) (ps : List Proc) (w : ℕ) (p : Proc) (t : Told) → Agrees numbers t → IsNext numbers w outs ps p
    → (v : Told) × Agrees numbers v × (judge_all (proc_lines p) (judged (state ins outs ps Between) t w) ≡ Some (judged (state ins outs (ps ++ p ∷ []) Between) v w))
give numbers ins outs ps w p t agrees next =
    let g = proc_judged numbers ins outs ps w p [] t agrees next in
    (g.0, g.1, ap (λ (ls : List Line). judge_all ls (judged (state ins outs ps Between) t w)) (sym (append-nil (proc_lines p))) ∙ g.2)

-- ---- between procedures, behind the first

-- lines that lead there
pub record Resting (lends : Bool) (j : Judged) : Type 0 where
  pub ins : List InParam
  pub outs : List Rep
  pub first : Proc
  pub others : List Proc
  pub told : Told
  pub width : ℕ
  pub more : List Line
  pub quiet : Quiet lends more
  pub run : judge_all more j ≡ Some (judged (state ins outs (first ∷ others) Between) told width)

abbrev pub rest_of : (lends : Bool) (j : Judged) → Resting lends j → Judged
rest_of lends j r = judged (state r.ins r.outs (r.first ∷ r.others) Between) r.told r.width

abbrev Finished : Bool → Judged → Type 0
Finished lends j = (r : Resting lends j) × (length r.more ≤ 300)

behind_procs : (lends : Bool) (j : Judged) (ins : List InParam) (outs : List Rep) (procs : List Proc) (p : Proc) (t : Told) (w : ℕ) (more : List Line) → Quiet lends more → length more ≤ 300
    → judge_all more j ≡ Some (judged (state ins outs (procs ++ p ∷ []) Between) t w) → Finished lends j
behind_procs lends j ins outs [] p t w more quiet few run = (record { ins = ins; outs = outs; first = p; others = []; told = t; width = w; more = more; quiet = quiet; run = run }, few)
behind_procs lends j ins outs (q ∷ qs) p t w more quiet few run = (record { ins = ins; outs = outs; first = q; others = qs ++ p ∷ []; told = t; width = w; more = more; quiet = quiet; run = run }, few)

end_judged : (ins : List InParam) (outs : List Rep) (procs : List Proc) (h : Header) (is : List Instr) (rs : List ℕ) (t : Told) (w : ℕ)
    → judge (line 0 phrase.End) (judged (state ins outs procs (Ended h is rs)) t w) ≡ Some (judged (state ins outs (procs ++ proc_of h is rs ∷ []) Between) t w)
unfolding judge tested told_after take_line
end_judged ins outs procs h is rs t w = refl

ended : (lends : Bool) (ins : List InParam) (outs : List Rep) (procs : List Proc) (h : Header) (is : List Instr) (rs : List ℕ) (t : Told) (w : ℕ) → Finished lends (judged (state ins outs procs (Ended h is rs)) t w)
ended lends ins outs procs h is rs t w =
    behind_procs lends (judged (state ins outs procs (Ended h is rs)) t w) ins outs procs (proc_of h is rs) t w (line 0 phrase.End ∷ []) ((λ e. refl), tt) (omega arith)
    (ap (λ (o : Option Judged). and_then o (judge_all [])) (end_judged ins outs procs h is rs t w))

inside : (lends : Bool) (ins : List InParam) (outs : List Rep) (procs : List Proc) (h : Header) (p : Place) (t : Told) (w : ℕ) → Holds lends (judged (state ins outs procs (Inside h p)) t w) → Finished lends (judged (state ins outs procs (Inside h p)) t w)
inside lends ins outs procs h p t w holds =
    let j = judged (state ins outs procs (Inside h p)) t w in
    let frames = (holds.sound (table t) (λ kind name n e. e)).spot.2.frames in
    let g = rules (table t) lends h in
    let fs = p.frames in
    let xs = closed fs p.items in
    let one = filled t zero_numbers in
    let shut = code_judged one ins outs procs h w (closing fs) [] p (place [] xs) t (filled_agrees t zero_numbers) (closing_code g one h.name fs frames) (closes fs p.items) in
    let v = shut.0 in
    let k = judged (state ins outs procs (Inside h (place [] xs))) v w in
    let first : judge_all (closing fs) j ≡ Some k = ap (λ (ls : List Line). judge_all ls j) (sym (append-nil (closing fs))) ∙ shut.2 in
    let there : Holds lends k = holds_run lends (closing fs) j k (closing_quiet lends fs) first holds in
    let two = filled v zero_numbers in
    let n = two Results h.name in
    let given = ret_judged two ins outs procs w h xs (zeros n) v (filled_agrees v zero_numbers) (sym (length_zeros n)) (room_below h.regs (lookup Results h.name v) there.room) in
    let last = line 1 (phrase.Ret (zeros n)) ∷ line 0 phrase.End ∷ [] in
    let ends : judge_all last k ≡ Some (judged (state ins outs (procs ++ proc_of h xs (zeros n) ∷ []) Between) given.0 w) =
    ap (λ (o : Option Judged). and_then o (judge_all (line 0 phrase.End ∷ []))) given.2
    ∙ ap (λ (o : Option Judged). and_then o (judge_all [])) (end_judged ins outs procs h xs (zeros n) given.0 w) in
    behind_procs lends j ins outs procs (proc_of h xs (zeros n)) given.0 w (closing fs ++ last) (quiet_append lends (closing fs) last (closing_quiet lends fs) ((λ e. refl), ((λ e. refl), tt)))
    (omega (arith, closing_few g fs frames, length-append (closing fs) last))
    (all_then (closing fs) last j k (Some (judged (state ins outs (procs ++ proc_of h xs (zeros n) ∷ []) Between) given.0 w)) first ends)

-- ---- the first procedure

main_numbers : ℕ → ℕ → Kind → List ℕ → ℕ
main_numbers w results Args name = w
main_numbers w results Results name = results
main_numbers w results Given name = 0
main_numbers w results Input name = 0

first : (lends : Bool) (ins : List InParam) (outs : List Rep) (t : Told) (w : ℕ) → Holds lends (judged (state ins outs [] Between) t w) → Finished lends (judged (state ins outs [] Between) t w)
unfolding main_numbers
first lends ins outs t w holds =
    let j = judged (state ins outs [] Between) t w in
    let spot = (holds.sound (table t) (λ kind name n e. e)).spot in
    let results = result_width outs in
    let d = main_numbers w results in
    let numbers = filled t d in
    let no_args : lookup Args main_name t ≡ None = none_there (lookup Args main_name t) (λ n e. (holds.told Args main_name n e).2) in
    let no_results : lookup Results main_name t ≡ None = none_there (lookup Results main_name t) (λ n e. (let clash : false ≡ true = ap (λ o. is_some o) (sym no_args) ∙ holds.told Results main_name n e in absurd cc)) in
    let no_place : lookup Given main_name t ≡ None = none_there (lookup Given main_name t) (λ n e. holds.told Given main_name n e) in
    let args : numbers Args main_name ≡ w = filled_none t d Args main_name no_args in
    let gives : numbers Results main_name ≡ results = filled_none t d Results main_name no_results in
    let place : numbers Given main_name ≡ 0 = filled_none t d Given main_name no_place in
    let next = blank_next numbers w outs [] main_name w results refl refl spot.1 (args, (gives, (place, (args, tt)))) gives in
    let p = blank main_name w results in
    let given = give numbers ins outs [] w p t (filled_agrees t d) next in
    behind_procs lends j ins outs [] p given.0 w (proc_lines p) (blank_quiet lends main_name w results) (omega (arith, ap (λ (ls : List Line). length ls) (blank_lines main_name w results))) given.2

nothing_more : (lends : Bool) (ins : List InParam) (outs : List Rep) (q : Proc) (qs : List Proc) (t : Told) (w : ℕ) → Finished lends (judged (state ins outs (q ∷ qs) Between) t w)
nothing_more lends ins outs q qs t w = (record { ins = ins; outs = outs; first = q; others = qs; told = t; width = w; more = []; quiet = tt; run = refl }, omega arith)

pub finish : (lends : Bool) (j : Judged) → Holds lends j → Finished lends j
finish lends j holds = by_spot j.state.procs j.state.spot holds
  where
    by_spot : (procs : List Proc) (spot : Spot) → Holds lends (judged (state j.state.ins j.state.outs procs spot) j.told j.width) → Finished lends (judged (state j.state.ins j.state.outs procs spot) j.told j.width)
    by_spot [] Between h = first lends j.state.ins j.state.outs j.told j.width h
    by_spot (q ∷ qs) Between h = nothing_more lends j.state.ins j.state.outs q qs j.told j.width
    by_spot procs (Inside x p) h = inside lends j.state.ins j.state.outs procs x p j.told j.width h
    by_spot procs (Ended x is rs) h = ended lends j.state.ins j.state.outs procs x is rs j.told j.width
