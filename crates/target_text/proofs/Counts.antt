-- How many names have a number of arguments.
use Rattle.std.proofs.Common.{◌≡◌, ℕ, suc, ◌+◌, ◌*◌, ◌≤◌, nat_eq, List, [], ◌∷◌, ◌++◌, length, Option, Some, None, ap, arith, length-append}
use Rattle.target_code.specs.declared.tree.Rep.{Rep}
use Rattle.target_code.specs.declared.tree.Code.{Code}
use Rattle.target_code.specs.declared.tree.Instr.{Instr, out-Instr}
use Rattle.target_code.specs.declared.tree.Instr.TheOpen as Open
use Rattle.target_code.specs.declared.tree.Proc.{Proc}
use Rattle.target_lines.specs.declared.line.Line.{Line}
use Rattle.target_lines.specs.declared.line.Phrase.{Phrase}
use Rattle.target_lines.specs.declared.line.Phrase.TheVariants as phrase
use Rattle.target_judge.specs.declared.told.Told.{Told}
use Rattle.target_judge.specs.Numbers.{Numbers, number_of, tell_at, tell_number}
use Rattle.target_judge.specs.Told.{Kind, Args, Results, Given, Input, Fact, numbers_in, with_numbers, tell, tell_all}
use Rattle.target_judge.specs.Taking.{Spot, Between, Inside, Ended, State}
use Rattle.target_judge.specs.Judging.{Judged, instr_tells, main_tells, head_tells, code_tells, tells_at}
use Rattle.target_text.specs.Runs.{judge_all}
use Rattle.target_text.proofs.Steps.{then_some, guard_true, inside, judge_step, then_all}

number_more : (name : List ℕ) (n : ℕ) (xs ys : Numbers) → tell_number name n xs ≡ Some ys → length ys ≤ suc (length xs)
unfolding tell_number
number_more name n xs ys e = by_known (number_of name xs) e
  where
    by_known : (o : Option ℕ) → tell_at o name n xs ≡ Some ys → length ys ≤ suc (length xs)
    by_known None g = (let same : xs ++ (name, n) ∷ [] ≡ ys = cc in omega (arith, ap length same, length-append xs ((name, n) ∷ [])))
    by_known (Some m) g = (let same = guard_true (nat_eq m n) xs ys g in omega (arith, ap length same.1))

args_of : (kind : Kind) (xs : Numbers) (t : Told) → length xs ≤ suc (length (numbers_in kind t)) → length (with_numbers kind xs t).args ≤ suc (length t.args)
args_of Args xs t h = h
args_of Results xs t h = omega arith
args_of Given xs t h = omega arith
args_of Input xs t h = omega arith

tell_more : (kind : Kind) (name : List ℕ) (n : ℕ) (t u : Told) → tell kind name n t ≡ Some u → length u.args ≤ suc (length t.args)
unfolding tell
tell_more kind name n t u e =
    let a = then_some (tell_number name n (numbers_in kind t)) (λ xs. Some (with_numbers kind xs t)) u e in
    let same : with_numbers kind a.0 t ≡ u = inside (with_numbers kind a.0 t) u a.2 in
    omega (arith, ap (λ (x : Told). length x.args) same, args_of kind a.0 t (number_more name n (numbers_in kind t) a.0 a.1))

tells_more : (fs : List Fact) (t u : Told) → tell_all fs t ≡ Some u → length u.args ≤ length t.args + length fs
tells_more [] t u e = let same : t ≡ u = cc in omega (arith, ap (λ (x : Told). length x.args) same)
tells_more (x ∷ xs) t u e =
    let a = then_some (tell x.kind x.name x.number t) (tell_all xs) u e in
    omega (arith, tell_more x.kind x.name x.number t a.0 a.1, tells_more xs a.0 u a.2)

instr_few : (x : Open.Instr-F Instr Code) → length (instr_tells x) ≤ 4
instr_few (Open.Call to name args) = omega arith
instr_few (Open.Par l r) = omega arith
instr_few _ = omega arith

code_few : (p : Phrase) (name : List ℕ) → length (code_tells p name) ≤ 4
code_few (phrase.Plain i) name = instr_few (out-Instr i)
code_few (phrase.Ret rs) name = omega arith
code_few _ name = omega arith

main_few : (w : ℕ) (outs : List Rep) (procs : List Proc) → length (main_tells w outs procs) ≤ 2
main_few w outs [] = omega arith
main_few w outs (p ∷ ps) = omega arith

head_few : (p : Phrase) (w : ℕ) (s : State) → length (head_tells p w s) ≤ 4
head_few (phrase.In p) w s = omega arith
head_few (phrase.Proc name args regs) w s = omega (arith, main_few w s.outs s.procs, length-append {A = Fact})
head_few _ w s = omega arith

tells_few : (p : Phrase) (w : ℕ) (s : State) (spot : Spot) → length (tells_at p w s spot) ≤ 4
tells_few p w s Between = head_few p w s
tells_few p w s (Inside h place) = code_few p h.name
tells_few p w s (Ended h is rs) = omega arith

pub run_more : (ls : List Line) (j k : Judged) → judge_all ls j ≡ Some k → length k.told.args ≤ length j.told.args + 4 * length ls
run_more [] j k e = let same : j ≡ k = cc in omega (arith, ap (λ (x : Judged). length x.told.args) same)
run_more (l ∷ ls) j k e =
    let a = then_all l ls j k e in
    let s = judge_step l j a.0 a.1 in
    let fs = tells_at l.phrase j.width j.state j.state.spot in
    omega (arith, tells_more fs j.told a.0.told s.told, tells_few l.phrase j.width j.state j.state.spot, run_more ls a.0 k a.2)
