-- Where lines may end, the program that they make is formed.
use Rattle.std.proofs.Common.{◌≡◌, ℕ, suc, ◌<◌, ◌&&◌, ◌||◌, not, cond, Bool, true, false, nat_eq, eq-eqb, List, [], ◌∷◌, ◌++◌, length, Option, Some, None, is_some, true≢false, refl, ap, sym, subst, ◌∙◌, inl, inr, arith}
use Rattle.std.specs.List.{list_all, list_any}
use Rattle.std.specs.Str.{bytes_eq}
use Rattle.std.specs.Cmp.Derive.{both_true}
use Rattle.std.proofs.lemmas.Slice.Eq.{bytes_eq-Decides}
use Rattle.target_code.specs.declared.tree.InParam.{InParam}
use Rattle.target_code.specs.declared.tree.Instr.TheOpen as Open
use Rattle.target_code.specs.declared.tree.Rep.{Rep}
use Rattle.target_code.specs.declared.tree.Proc.{Proc}
use Rattle.target_code.specs.Reserved.{is_input_name, is_proc_name, are_distinct}
use Rattle.target_code.specs.Lines as tests
use Rattle.target_code.specs.Formed.{Formed, is_shown, keeps_containers, input_width, result_width, has_sizes, has_registers, begins_with_main}
use Rattle.target_lines.proofs.Pieces.{and_parts}
use Rattle.target_lines.specs.Programs.{procs_lend}
use Rattle.target_judge.specs.Numbers.{Numbers, number_of, have_numbers}
use Rattle.target_judge.specs.Told.{Args, Results, Given, Input, lookup}
use Rattle.target_judge.specs.Taking.{Spot, Between, Inside, Ended, no_proc, state}
use Rattle.target_judge.specs.Judging.{Judged, is_input, instr_fits, callee_fits, main_name, is_whole, program_of}
use Rattle.target_text.proofs.Steps.{Table, table}
use Rattle.target_text.proofs.Sound.{Rules, test, instr_known, call_known, has, has_is}
use Rattle.target_text.proofs.SoundLines.{Placed, InputAt, ProcAt, BetweenOk, StateOk}
use Rattle.target_text.proofs.WellTold.{Among, Stands}
use Rattle.target_text.proofs.Weaker.{Weaker, code_instead}
use Rattle.target_text.proofs.Holds.{Holds}

-- ---- elements by their places

pub placed_all : {A : Type 0} (P : ℕ → A → Type 0) (f : A → Bool) (n : ℕ) (xs : List A) → ((m : ℕ) (x : A) → P m x → f x ≡ true) → Placed P n xs → list_all f xs ≡ true
placed_all P f n [] h k = refl
placed_all P f n (x ∷ xs) h k = both_true (h n x k.0) (placed_all P f (suc n) xs h k.1)

-- names with distinct places are distinct
abbrev Numbered : {A : Type 0} → (A → List ℕ) → (List ℕ → Option ℕ) → ℕ → List A → Type 0
Numbered name f n xs = Placed (λ m x. f (name x) ≡ Some m) n xs

none_same : {A : Type 0} (name : A → List ℕ) (f : List ℕ → Option ℕ) (x : A) (m n : ℕ) (xs : List A) → f (name x) ≡ Some m → m < n → Numbered name f n xs → not (list_any (λ y. bytes_eq (name x) (name y)) xs) ≡ true
none_same name f x m n [] e lt h = refl
none_same name f x m n (y ∷ ys) e lt h = by_name (none_same name f x m (suc n) ys e (omega (arith, lt)) h.1) (bytes_eq (name x) (name y)) refl
  where
    by_name : not (list_any (λ y. bytes_eq (name x) (name y)) ys) ≡ true → (b : Bool) → bytes_eq (name x) (name y) ≡ b → not (b || list_any (λ y. bytes_eq (name x) (name y)) ys) ≡ true
    by_name rest true is =
        (let same : name x ≡ name y = (bytes_eq-Decides (name x) (name y)).0 is in
        let both : Some m ≡ Some n = sym e ∙ ap f same ∙ h.0 in
        let equal : m ≡ n = cc in
        absurd (omega (arith, equal, lt)))
    by_name rest false is = rest

numbered_distinct : {A : Type 0} (name : A → List ℕ) (f : List ℕ → Option ℕ) (n : ℕ) (xs : List A) → Numbered name f n xs → are_distinct (λ x y. bytes_eq (name x) (name y)) xs ≡ true
numbered_distinct name f n [] h = refl
numbered_distinct name f n (x ∷ xs) h = both_true (none_same name f x n (suc n) xs h.0 (omega arith) h.1) (numbered_distinct name f (suc n) xs h.1)

placed_as : {A : Type 0} (P R : ℕ → A → Type 0) (n : ℕ) (xs : List A) → ((m : ℕ) (x : A) → P m x → R m x) → Placed P n xs → Placed R n xs
placed_as P R n [] h k = tt
placed_as P R n (x ∷ xs) h k = (h n x k.0, placed_as P R (suc n) xs h k.1)

-- ---- calls

is_there : (o : Option ℕ) → is_some o ≡ true → (n : ℕ) × (o ≡ Some n)
is_there None h = absurd (true≢false (sym h))
is_there (Some n) h = (n, refl)

-- each name of one list has a number in another
number_given : (ys xs : Numbers) → have_numbers ys xs ≡ true → (name : List ℕ) (n : ℕ) → number_of name xs ≡ Some n → is_some (number_of name ys) ≡ true
number_given ys [] h name n e = absurd cc
number_given ys (x ∷ xs) h name n e =
    let parts = and_parts (is_some (number_of x.0 ys)) (have_numbers ys xs) h in
    by_name parts.0 (number_given ys xs parts.1 name n) (bytes_eq name x.0) refl e
  where
    by_name : is_some (number_of x.0 ys) ≡ true → (number_of name xs ≡ Some n → is_some (number_of name ys) ≡ true) → (b : Bool) → bytes_eq name x.0 ≡ b → cond b (Some x.1) (number_of name xs) ≡ Some n → is_some (number_of name ys) ≡ true
    by_name first rest true is g =
        (let same : name ≡ x.0 = (bytes_eq-Decides name x.0).0 is in
        ap (λ (y : List ℕ). is_some (number_of y ys)) same ∙ first)
    by_name first rest false is g = rest g

or_right : (a b : Bool) → b ≡ true → (a || b) ≡ true
or_right true b h = refl
or_right false b h = h

-- a procedure of these that is called with its numbers answers
answered : (N : Table) (lends : Bool) (n : ℕ) (procs : List Proc) (name args to : List ℕ) → Placed (ProcAt N lends) n procs → Among name procs → N Args name ≡ Some (length args) → N Results name ≡ Some (length to) → tests.some_answers procs name args to ≡ true
answered N lends n [] name args to h a takes gives = absurd a
answered N lends n (p ∷ ps) name args to h (inl same) takes gives =
    let many : Some p.args ≡ Some (length args) = sym h.0.0.takes ∙ ap (N Args) same ∙ takes in
    let back : Some (length p.ret) ≡ Some (length to) = sym h.0.0.gives ∙ ap (N Results) same ∙ gives in
    let m : p.args ≡ length args = cc in
    let r : length p.ret ≡ length to = cc in
    let here : tests.answers name (length args) (length to) p ≡ true = both_true ((bytes_eq-Decides p.name name).1 same) (both_true (eq-eqb p.args (length args) m) (eq-eqb (length p.ret) (length to) r)) in
    ap (λ b. b || tests.some_answers ps name args to) here
answered N lends n (p ∷ ps) name args to h (inr a) takes gives = or_right (tests.answers name (length args) (length to) p) (tests.some_answers ps name args to) (answered N lends (suc n) ps name args to h.1 a takes gives)

abbrev Closed : Table → List Proc → Type 0
Closed N procs = (name : List ℕ) (n : ℕ) → N Args name ≡ Some n → Among name procs

call_answered : (N : Table) (lends : Bool) (procs : List Proc) (name args to : List ℕ) → Placed (ProcAt N lends) 0 procs → Closed N procs → call_known N name args to ≡ true → tests.some_answers procs name args to ≡ true
call_answered N lends procs name args to h closed known =
    let parts = and_parts (has (N Args name) (length args)) (has (N Results name) (length to)) known in
    let takes = has_is (N Args name) (length args) parts.0 in
    answered N lends 0 procs name args to h (closed name (length args) takes) takes (has_is (N Results name) (length to) parts.1)

known_of : (g : Rules) (x : tests.Layer) → test g x ≡ true → instr_known g.numbers x ≡ true
known_of g x k = (and_parts (tests.is_below g.regs x && instr_fits x) (instr_known g.numbers x) k).1

calls_weaker : (lends : Bool) (g : Rules) (procs : List Proc) → Placed (ProcAt g.numbers lends) 0 procs → Closed g.numbers procs → Weaker (test g) (tests.calls_met procs)
calls_weaker lends g procs h closed (Open.Call to name args) k = call_answered g.numbers lends procs name args to h closed (known_of g (Open.Call to name args) k)
calls_weaker lends g procs h closed (Open.Par l r) k =
    let both = and_parts (call_known g.numbers l.proc l.args l.to) (call_known g.numbers r.proc r.args r.to) (known_of g (Open.Par l r) k) in
    both_true (call_answered g.numbers lends procs l.proc l.args l.to h closed both.0) (call_answered g.numbers lends procs r.proc r.args r.to h closed both.1)
calls_weaker lends g procs h closed _ k = refl

fits_of : (g : Rules) (x : tests.Layer) → test g x ≡ true → (tests.is_below g.regs x ≡ true) × (instr_fits x ≡ true)
fits_of g x k = and_parts (tests.is_below g.regs x) (instr_fits x) (and_parts (tests.is_below g.regs x && instr_fits x) (instr_known g.numbers x) k).0

distinct_same : (x : tests.Layer) → instr_fits x ≡ true → tests.has_distinct_targets x ≡ true
distinct_same (Open.Call to name args) h = (and_parts (callee_fits name args) (are_distinct nat_eq to) h).1
distinct_same (Open.Par l r) h =
    (and_parts (callee_fits r.proc r.args) (are_distinct nat_eq (l.to ++ r.to)) (and_parts (callee_fits l.proc l.args) (callee_fits r.proc r.args && are_distinct nat_eq (l.to ++ r.to)) h).1).1
distinct_same _ h = refl

abbrev own : Table → Bool → Proc → Rules
own N lends p = record { numbers = N; regs = p.regs; lends = lends }

-- ---- the program

main_is : (N : Table) (lends : Bool) (w : ℕ) (ins : List InParam) (outs : List Rep) (procs : List Proc) → not (no_proc procs) ≡ true → Placed (ProcAt N lends) 0 procs → BetweenOk N w ins outs procs → begins_with_main ins outs procs ≡ true
main_is N lends w ins outs [] some h main = absurd (true≢false (sym some))
main_is N lends w ins outs (p ∷ ps) some h main =
    let same : p.name ≡ main_name = (bytes_eq-Decides p.name main_name).0 main.main in
    let takes : Some (input_width ins) ≡ Some p.args = sym main.takes ∙ ap (N Args) (sym same) ∙ h.0.0.takes in
    let gives : Some (result_width outs) ≡ Some (length p.ret) = sym main.gives ∙ ap (N Results) (sym same) ∙ h.0.0.gives in
    let m : input_width ins ≡ p.args = cc in
    let r : result_width outs ≡ length p.ret = cc in
    both_true main.main (both_true (eq-eqb (input_width ins) p.args m) (eq-eqb (result_width outs) (length p.ret) r))

input_parts : (p : InParam) → is_input p ≡ true → (is_input_name p.name ≡ true) × (keeps_containers p ≡ true) × (is_shown p.rep ≡ true)
input_parts p h =
    let a = and_parts (is_input_name p.name) (keeps_containers p && is_shown p.rep) h in
    let b = and_parts (keeps_containers p) (is_shown p.rep) a.1 in
    (a.0, b.0, b.1)

formed_state : (N : Table) (lends : Bool) (w : ℕ) (ins : List InParam) (outs : List Rep) (procs : List Proc) → StateOk N lends (state ins outs procs Between) w → not (no_proc procs) ≡ true → Closed N procs
    → Formed (program_of (state ins outs procs Between))
formed_state N lends w ins outs procs ok some closed =
    let at = ok.procs in
    let all = placed_all (ProcAt N lends) in
    record {
      input_names = placed_all (InputAt N) (λ p. is_input_name p.name) 0 ins (λ m p h. (input_parts p h.0).0) ok.ins;
      inputs_distinct = numbered_distinct (λ p. p.name) (N Input) 0 ins (placed_as (InputAt N) (λ m p. N Input p.name ≡ Some m) 0 ins (λ m p h. h.1) ok.ins);
      containers_kept = placed_all (InputAt N) keeps_containers 0 ins (λ m p h. (input_parts p h.0).1) ok.ins;
      inputs_shown = placed_all (InputAt N) (λ p. is_shown p.rep) 0 ins (λ m p h. (input_parts p h.0).2) ok.ins;
      results_shown = ok.outs;
      proc_names = all (λ p. is_proc_name p.name) 0 procs (λ m p h. h.0.named) at;
      procs_distinct = numbered_distinct (λ p. p.name) (N Given) 0 procs (placed_as (ProcAt N lends) (λ m p. N Given p.name ≡ Some m) 0 procs (λ m p h. h.1) at);
      main_first = main_is N lends w ins outs procs some at ok.spot;
      sizes = all has_sizes 0 procs (λ m p h. both_true h.0.sizes h.0.limit) at;
      registers = all has_registers 0 procs (λ m p h. both_true (code_instead (test (own N lends p)) (tests.is_below p.regs) (λ x k. (fits_of (own N lends p) x k).0) p.code h.0.passes) h.0.ret) at;
      calls = all (λ p. tests.code_passes (tests.calls_met procs) p.code) 0 procs (λ m p h. code_instead (test (own N lends p)) (tests.calls_met procs) (calls_weaker lends (own N lends p) procs at closed) p.code h.0.passes) at;
      targets = all (λ p. tests.code_passes tests.has_distinct_targets p.code) 0 procs (λ m p h. code_instead (test (own N lends p)) tests.has_distinct_targets (λ x k. distinct_same x (fits_of (own N lends p) x k).1) p.code h.0.passes) at;
      blocks = all (λ p. tests.code_nests p.code 0) 0 procs (λ m p h. h.0.nests) at;
    }

none_lend : (N : Table) (n : ℕ) (procs : List Proc) → Placed (ProcAt N false) n procs → procs_lend procs ≡ false
none_lend N n [] h = refl
none_lend N n (p ∷ ps) h = ap (λ b. b || procs_lend ps) (h.0.0.quiet refl) ∙ none_lend N (suc n) ps h.1

-- what is said is whole
pub record Whole (j : Judged) : Type 0 where
  pub between : j.state.spot ≡ Between
  pub some : not (no_proc j.state.procs) ≡ true
  pub given : have_numbers j.told.given j.told.args ≡ true

pub whole_is : (j : Judged) → is_whole j.state.procs j.state.spot j.told ≡ true → Whole j
whole_is j h = by_spot j.state.spot refl h
  where
    by_spot : (spot : Spot) → j.state.spot ≡ spot → is_whole j.state.procs spot j.told ≡ true → Whole j
    by_spot Between e k = (let parts = and_parts (not (no_proc j.state.procs)) (have_numbers j.told.given j.told.args) k in record { between = e; some = parts.0; given = parts.1 })
    by_spot (Inside h p) e k = absurd (true≢false (sym k))
    by_spot (Ended h is rs) e k = absurd (true≢false (sym k))

pub whole_formed : (lends : Bool) (j : Judged) → Holds lends j → Whole j → Formed (program_of j.state)
whole_formed lends j h whole =
    let N = table j.told in
    let s = j.state in
    let ok : StateOk N lends s j.width = h.sound N (λ kind name n e. e) in
    let here : StateOk N lends (state s.ins s.outs s.procs Between) j.width = subst (λ spot. StateOk N lends (state s.ins s.outs s.procs spot) j.width) whole.between ok in
    let closed : Closed N s.procs = λ name n e.
    (let given = is_there (lookup Given name j.told) (number_given j.told.given j.told.args whole.given name n e) in
    subst (λ spot. Stands name s.procs spot) whole.between (h.told Given name given.0 given.1)) in
    formed_state N lends j.width s.ins s.outs s.procs here whole.some closed

pub quiet_lends : (j : Judged) → Holds false j → procs_lend j.state.procs ≡ false
quiet_lends j h = none_lend (table j.told) 0 j.state.procs (h.sound (table j.told) (λ kind name n e. e)).procs
