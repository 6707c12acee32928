-- What stands in the lines so far passes all tests: inputs, results and procedures.
use Rattle.std.proofs.Common.{◌≡◌, ℕ, suc, ◌+◌, ◌&&◌, Bool, true, false, nat_eq, nat_le, List, [], ◌∷◌, ◌++◌, length, Option, Some, None, refl, ap, subst, ◌∙◌, arith}
use Rattle.std.specs.Prelude.{IfSome}
use Rattle.std.specs.Str.{bytes_eq}
use Rattle.std.specs.Cmp.Derive.{both_true}
use Rattle.std.proofs.lemmas.List.Folds.{list_all-append}
use Rattle.target_code.specs.declared.tree.Rep.{Rep}
use Rattle.target_code.specs.declared.tree.InParam.{InParam}
use Rattle.target_code.specs.declared.tree.Instr.{Instr}
use Rattle.target_code.specs.declared.tree.Proc.{Proc}
use Rattle.target_code.specs.Reps.{width}
use Rattle.target_code.specs.Reserved.{is_proc_name}
use Rattle.target_code.specs.Lines as tests
use Rattle.target_code.specs.Formed.{is_shown, results_shown, input_width, result_width}
use Rattle.target_lines.specs.declared.line.Line.{Line}
use Rattle.target_lines.specs.declared.line.Phrase.{Phrase}
use Rattle.target_lines.specs.declared.line.Phrase.TheVariants as phrase
use Rattle.target_lines.specs.Programs.{phrase_lends, code_lends}
use Rattle.target_lines.proofs.Pieces.{and_parts}
use Rattle.target_judge.specs.declared.told.Told.{Told}
use Rattle.target_judge.specs.Shape.{Frame, Place, place, guard, takes, and_then}
use Rattle.target_judge.specs.Told.{Args, Results, Given, Input, lookup}
use Rattle.target_judge.specs.Taking.{Header, Spot, Between, Inside, Ended, State, state, take_line, take_between, take_ret, take_inside, take_end, proc_of}
use Rattle.target_judge.specs.Judging.{most_registers, main_name, is_input, has_room, may_be_main, is_header, head_tells, code_tells, tells_at, head_fits, code_fits, line_fits, next_width}
use Rattle.target_text.proofs.Passing.{width_of}
use Rattle.target_text.proofs.Steps.{Table, Facts, guard_true}
use Rattle.target_text.proofs.Sound.{Rules, AllOk, PlaceOk, takes_ok, phrase_told, code_passes_of, code_nests_of, code_quiet_of, test}

-- ---- elements and their places

-- each element, by its place
abbrev pub Placed : {A : Type 0} → (ℕ → A → Type 0) → ℕ → List A → Type 0
Placed P n [] = Unit {0}
Placed P n (x ∷ xs) = P n x × Placed P (suc n) xs

more_from : {A : Type 0} (P : ℕ → A → Type 0) (n : ℕ) (xs : List A) (x : A) → Placed P n xs → ((m : ℕ) → m ≡ n + length xs → P m x) → Placed P n (xs ++ x ∷ [])
more_from P n [] x h k = (k n (omega arith), tt)
more_from P n (y ∷ ys) x h k = (h.0, more_from P (suc n) ys x h.1 (λ m e. k m (omega (arith, e))))

pub placed_more : {A : Type 0} (P : ℕ → A → Type 0) (xs : List A) (x : A) → Placed P 0 xs → P (length xs) x → Placed P 0 (xs ++ x ∷ [])
placed_more P xs x h k = more_from P 0 xs x h (λ m e. (let same : length xs ≡ m = omega (arith, e) in subst (λ n. P n x) same k))

-- ---- what is known of parts

abbrev pub InputAt : Table → ℕ → InParam → Type 0
InputAt N n p = (is_input p ≡ true) × (N Input p.name ≡ Some n)

pub record ProcOk (N : Table) (lends : Bool) (p : Proc) : Type 0 where
  pub named : is_proc_name p.name ≡ true
  pub sizes : nat_le p.args p.regs ≡ true
  pub limit : nat_le p.regs most_registers ≡ true
  pub passes : tests.code_passes (test (record { numbers = N; regs = p.regs; lends = lends })) p.code ≡ true
  pub nests : tests.code_nests p.code 0 ≡ true
  pub quiet : lends ≡ false → code_lends p.code ≡ false
  pub ret : tests.all_below p.regs p.ret ≡ true
  pub takes : N Args p.name ≡ Some p.args
  pub gives : N Results p.name ≡ Some (length p.ret)

abbrev pub ProcAt : Table → Bool → ℕ → Proc → Type 0
ProcAt N lends n p = ProcOk N lends p × (N Given p.name ≡ Some n)

-- the first line of the procedure behind these
pub record HeaderOk (N : Table) (procs : List Proc) (h : Header) : Type 0 where
  pub named : is_proc_name h.name ≡ true
  pub sizes : nat_le h.args h.regs ≡ true
  pub limit : nat_le h.regs most_registers ≡ true
  pub takes : N Args h.name ≡ Some h.args
  pub given : N Given h.name ≡ Some (length procs)

-- a name is `main`, which has the numbers of the inputs and results
pub record MainOk (N : Table) (ins : List InParam) (outs : List Rep) (name : List ℕ) : Type 0 where
  pub main : bytes_eq name main_name ≡ true
  pub takes : N Args main_name ≡ Some (input_width ins)
  pub gives : N Results main_name ≡ Some (result_width outs)

abbrev pub first_name : List Proc → List ℕ → List ℕ
first_name [] name = name
first_name (p ∷ ps) name = p.name

abbrev pub BetweenOk : Table → ℕ → List InParam → List Rep → List Proc → Type 0
BetweenOk N w ins outs [] = (w ≡ input_width ins) × (nat_le w most_registers ≡ true)
BetweenOk N w ins outs (p ∷ ps) = MainOk N ins outs p.name

abbrev pub rules : Table → Bool → Header → Rules
rules N lends h = record { numbers = N; regs = h.regs; lends = lends }

abbrev pub SpotOk : Table → Bool → ℕ → List InParam → List Rep → List Proc → Spot → Type 0
SpotOk N lends w ins outs procs Between = BetweenOk N w ins outs procs
SpotOk N lends w ins outs procs (Inside h p) = HeaderOk N procs h × MainOk N ins outs (first_name procs h.name) × PlaceOk (rules N lends h) p
SpotOk N lends w ins outs procs (Ended h is rs) =
    HeaderOk N procs h × MainOk N ins outs (first_name procs h.name) × AllOk (rules N lends h) 0 is × (tests.all_below h.regs rs ≡ true) × (N Results h.name ≡ Some (length rs))

pub record StateOk (N : Table) (lends : Bool) (s : State) (w : ℕ) : Type 0 where
  pub ins : Placed (InputAt N) 0 s.ins
  pub outs : results_shown s.outs ≡ true
  pub procs : Placed (ProcAt N lends) 0 s.procs
  pub spot : SpotOk N lends w s.ins s.outs s.procs s.spot

abbrev Next : Table → Bool → ℕ → Option State → Type 0
Next N lends w o = IfSome o (λ s. StateOk N lends s w)

-- ---- between procedures

width_more : (w : ℕ) (ins : List InParam) (p : InParam) → width_of w (ins ++ p ∷ []) ≡ width_of w ins + width p.rep
width_more w [] p = refl
width_more w (q ∷ qs) p = width_more (w + width q.rep) qs p

input_more : (ins : List InParam) (p : InParam) → input_width (ins ++ p ∷ []) ≡ input_width ins + width p.rep
input_more ins p = width_more 0 ins p

shown_more : (outs : List Rep) (r : Rep) → results_shown outs ≡ true → is_shown r ≡ true → results_shown (outs ++ r ∷ []) ≡ true
shown_more outs r h k = list_all-append is_shown outs (r ∷ []) ∙ both_true h (both_true k refl)

some_same : (w v : ℕ) → Some w ≡ Some v → w ≡ v
some_same w v e = cc

header_sound : (N : Table) (lends : Bool) (ins : List InParam) (outs : List Rep) (procs : List Proc) (w v : ℕ) (name : List ℕ) (args regs : ℕ) (u : Told)
    → HeaderOk N procs (record { name = name; args = args; regs = regs }) → MainOk N ins outs (first_name procs name) → StateOk N lends (state ins outs procs Between) w
    → StateOk N lends (state ins outs procs (Inside (record { name = name; args = args; regs = regs }) (place [] []))) v
header_sound N lends ins outs procs w v name args regs u header main ok = record { ins = ok.ins; outs = ok.outs; procs = ok.procs; spot = (header, main, record { frames = tt; items = tt }) }

pub header_ok : (N : Table) (procs : List Proc) (name : List ℕ) (args regs : ℕ) (u : Told) → is_header procs name args regs u ≡ true → N Args name ≡ Some args → N Given name ≡ Some (length procs)
    → HeaderOk N procs (record { name = name; args = args; regs = regs })
header_ok N procs name args regs u h takes given =
    let a = and_parts (is_proc_name name) (may_be_main procs name && (nat_le args regs && (nat_le regs most_registers && has_room regs (lookup Results name u)))) h in
    let b = and_parts (may_be_main procs name) (nat_le args regs && (nat_le regs most_registers && has_room regs (lookup Results name u))) a.1 in
    let c = and_parts (nat_le args regs) (nat_le regs most_registers && has_room regs (lookup Results name u)) b.1 in
    let d = and_parts (nat_le regs most_registers) (has_room regs (lookup Results name u)) c.1 in
    record { named = a.0; sizes = c.0; limit = d.0; takes = takes; given = given }

first_main : (name : List ℕ) (args regs : ℕ) (u : Told) → is_header [] name args regs u ≡ true → bytes_eq name main_name ≡ true
first_main name args regs u h =
    let a = and_parts (is_proc_name name) (may_be_main [] name && (nat_le args regs && (nat_le regs most_registers && has_room regs (lookup Results name u)))) h in
    (and_parts (may_be_main [] name) (nat_le args regs && (nat_le regs most_registers && has_room regs (lookup Results name u))) a.1).0

between_sound : (N : Table) (lends : Bool) (ins : List InParam) (outs : List Rep) (procs : List Proc) (w v : ℕ) (p : Phrase) (u : Told)
    → Facts N (head_tells p w (state ins outs procs Between)) → head_fits p procs u ≡ true → next_width p w ≡ Some v → StateOk N lends (state ins outs procs Between) w
    → Next N lends v (take_between p ins outs procs)
between_sound N lends ins [] [] w v (phrase.In p) u facts fits wide ok =
    let g = guard_true (nat_le (w + width p.rep) most_registers) (w + width p.rep) v wide in
    record {
      ins = placed_more (InputAt N) ins p ok.ins (fits, facts.0);
      outs = ok.outs;
      procs = ok.procs;
      spot = (omega (arith, g.1, ok.spot.0, input_more ins p), subst (λ n. nat_le n most_registers ≡ true) g.1 g.0);
    }
between_sound N lends ins [] (q ∷ procs) w v (phrase.In p) u facts fits wide ok = tt
between_sound N lends ins (r ∷ outs) procs w v (phrase.In p) u facts fits wide ok = tt
between_sound N lends ins outs [] w v (phrase.Out r) u facts fits wide ok =
    record {
      ins = ok.ins;
      outs = shown_more outs r ok.outs fits;
      procs = ok.procs;
      spot = subst (λ n. BetweenOk N n ins (outs ++ r ∷ []) []) (some_same w v wide) ok.spot;
    }
between_sound N lends ins outs (q ∷ procs) w v (phrase.Out r) u facts fits wide ok = tt
between_sound N lends ins outs [] w v (phrase.Proc name args regs) u facts fits wide ok =
    let main : MainOk N ins outs name = record { main = first_main name args regs u fits; takes = facts.0 ∙ ap (λ n. Some n) ok.spot.0; gives = facts.1.0 } in
    header_sound N lends ins outs [] w v name args regs u (header_ok N [] name args regs u fits facts.1.1.1.0 facts.1.1.0) main ok
between_sound N lends ins outs (q ∷ procs) w v (phrase.Proc name args regs) u facts fits wide ok =
    header_sound N lends ins outs (q ∷ procs) w v name args regs u (header_ok N (q ∷ procs) name args regs u fits facts.1.0 facts.0) ok.spot ok
between_sound N lends ins outs procs w v _ u facts fits wide ok = tt

-- ---- inside one

ret_sound : (N : Table) (lends : Bool) (ins : List InParam) (outs : List Rep) (procs : List Proc) (w v : ℕ) (h : Header) (p : Phrase) (fs : List Frame) (is : List Instr)
    → Facts N (code_tells p h.name) → code_fits p h.regs ≡ true → StateOk N lends (state ins outs procs (Inside h (place fs is))) w
    → Next N lends v (and_then (take_ret h p fs is) (λ spot. Some (state ins outs procs spot)))
ret_sound N lends ins outs procs w v h (phrase.Ret rs) [] is facts fits ok = record {
  ins = ok.ins;
  outs = ok.outs;
  procs = ok.procs;
  spot = (ok.spot.0, ok.spot.1, ok.spot.2.items, fits, facts.0);
}
ret_sound N lends ins outs procs w v h (phrase.Ret rs) (f ∷ fs) is facts fits ok = tt
ret_sound N lends ins outs procs w v h _ fs is facts fits ok = tt

inside_sound : (N : Table) (lends : Bool) (ins : List InParam) (outs : List Rep) (procs : List Proc) (w v : ℕ) (h : Header) (s : Place) (l : Line)
    → Facts N (code_tells l.phrase h.name) → code_fits l.phrase h.regs ≡ true → (lends ≡ false → phrase_lends l.phrase ≡ false) → StateOk N lends (state ins outs procs (Inside h s)) w
    → Next N lends v (and_then (take_inside h l s (takes l s)) (λ spot. Some (state ins outs procs spot)))
inside_sound N lends ins outs procs w v h s l facts fits quiet ok =
    by_place (takes l s) (takes_ok (rules N lends h) l s fits (phrase_told N l.phrase h.name facts) quiet ok.spot.2)
  where
    by_level : (b : Bool) → Next N lends v (and_then (and_then (guard b l.phrase) (λ p. take_ret h p s.frames s.items)) (λ spot. Some (state ins outs procs spot)))
    by_level true = ret_sound N lends ins outs procs w v h l.phrase s.frames s.items facts fits ok
    by_level false = tt

    by_place : (o : Option Place) → IfSome o (λ q. PlaceOk (rules N lends h) q) → Next N lends v (and_then (take_inside h l s o) (λ spot. Some (state ins outs procs spot)))
    by_place (Some q) k = record { ins = ok.ins; outs = ok.outs; procs = ok.procs; spot = (ok.spot.0, ok.spot.1, k) }
    by_place None k = by_level (nat_eq l.level 1)

-- ---- behind its results

end_main : (N : Table) (w : ℕ) (ins : List InParam) (outs : List Rep) (procs : List Proc) (p : Proc) → MainOk N ins outs (first_name procs p.name) → BetweenOk N w ins outs (procs ++ p ∷ [])
end_main N w ins outs [] p h = h
end_main N w ins outs (q ∷ qs) p h = h

end_sound : (N : Table) (lends : Bool) (ins : List InParam) (outs : List Rep) (procs : List Proc) (w v : ℕ) (h : Header) (is : List Instr) (rs : List ℕ) (p : Phrase)
    → StateOk N lends (state ins outs procs (Ended h is rs)) w → Next N lends v (take_end p h is rs ins outs procs)
end_sound N lends ins outs procs w v h is rs phrase.End ok =
    let header = ok.spot.0 in
    let items = ok.spot.2 in
    let g = rules N lends h in
    let proc : ProcOk N lends (proc_of h is rs) = record {
      named = header.named;
      sizes = header.sizes;
      limit = header.limit;
      passes = code_passes_of g 0 is items;
      nests = code_nests_of g 0 is items;
      quiet = code_quiet_of g 0 is items;
      ret = ok.spot.3;
      takes = header.takes;
      gives = ok.spot.4;
    } in
    record {
      ins = ok.ins;
      outs = ok.outs;
      procs = placed_more (ProcAt N lends) procs (proc_of h is rs) ok.procs (proc, header.given);
      spot = end_main N v ins outs procs (proc_of h is rs) ok.spot.1;
    }
end_sound N lends ins outs procs w v h is rs _ ok = tt

-- ---- a line

level_zero : {A : Type 0} (P : Option State → Type 0) (b : Bool) (x : A) (f : A → Option State) → P None → P (f x) → P (and_then (guard b x) f)
level_zero P true x f none some = some
level_zero P false x f none some = none

pub line_sound : (N : Table) (lends : Bool) (l : Line) (s : State) (w v : ℕ) (u : Told) → Facts N (tells_at l.phrase w s s.spot) → line_fits l.phrase s.procs s.spot u ≡ true → next_width l.phrase w ≡ Some v
    → (lends ≡ false → phrase_lends l.phrase ≡ false) → StateOk N lends s w → Next N lends v (take_line l s)
unfolding take_line
line_sound N lends l s w v u facts fits wide quiet ok = by_spot s.spot facts fits ok
  where
    by_spot : (spot : Spot) → Facts N (tells_at l.phrase w (state s.ins s.outs s.procs spot) spot) → line_fits l.phrase s.procs spot u ≡ true → StateOk N lends (state s.ins s.outs s.procs spot) w → Next N lends v (take_line l (state s.ins s.outs s.procs spot))
    by_spot Between told fit here =
        level_zero (Next N lends v) (nat_eq l.level 0) l.phrase (λ p. take_between p s.ins s.outs s.procs) tt (between_sound N lends s.ins s.outs s.procs w v l.phrase u told fit wide here)
    by_spot (Inside h t) told fit here = inside_sound N lends s.ins s.outs s.procs w v h t l told fit quiet here
    by_spot (Ended h is rs) told fit here =
        level_zero (Next N lends v) (nat_eq l.level 0) l.phrase (λ p. take_end p h is rs s.ins s.outs s.procs) tt (end_sound N lends s.ins s.outs s.procs w v h is rs l.phrase here)
