-- A procedure with a lend, under a name of which nothing is told.
use Rattle.std.proofs.Common.{◌≡◌, ℕ, suc, ◌<◌, ◌||◌, ◌&&◌, Bool, true, false, List, [], ◌∷◌, ◌++◌, length, Some, None, is_some, refl, ap, sym, subst, ◌∙◌, inl, inr}
use Rattle.std.specs.List.{AllByRecursion}
use Rattle.std.specs.Cmp.Derive.{both_true}
use Rattle.target_code.specs.declared.tree.Rep.{Rep}
use Rattle.target_code.specs.declared.tree.InParam.{InParam}
use Rattle.target_code.specs.declared.tree.Branch.{Branch}
use Rattle.target_code.specs.declared.tree.Code.{Code}
use Rattle.target_code.specs.declared.tree.Instr.{Instr, out-Instr}
use Rattle.target_code.specs.declared.tree.Instr.TheOpen as Open
use Rattle.target_code.specs.declared.tree.Instr.TheVariants as instr
use Rattle.target_code.specs.declared.tree.Instr.TheViews.{rolls-Par, outs-Par}
use Rattle.target_code.specs.declared.tree.Instr.TheFolds.{fold-roll-Code}
use Rattle.target_code.specs.declared.tree.Proc.{Proc}
use Rattle.target_code.specs.Reserved.{is_proc_name}
use Rattle.target_code.specs.Lines as tests
use Rattle.target_lines.specs.declared.line.Line.{Line}
use Rattle.target_lines.specs.declared.line.Phrase.TheVariants as phrase
use Rattle.target_lines.specs.Programs.{line, instr_lines, code_lines, proc_lines, is_flat, instr_lends, code_lends, procs_lend, instr_lends_step, code_lends_step}
use Rattle.std.proofs.lemmas.List.{append-nil}
use Rattle.target_judge.specs.declared.told.Told.{Told}
use Rattle.target_judge.specs.Shape.{code_of}
use Rattle.target_judge.specs.Told.{Kind, Args, Results, Given, Input, lookup}
use Rattle.target_judge.specs.Taking.{Between, state}
use Rattle.target_judge.specs.Judging.{judged, instr_fits, instr_tells}
use Rattle.target_text.specs.Runs.{judge_all}
use Rattle.target_text.proofs.Passing.{IsCode, AreCode, IsNext}
use Rattle.target_text.proofs.CodeLines.{flat_lines}
use Rattle.target_text.proofs.Shapes.{code_is}
use Rattle.target_text.proofs.ShapesBack.{nests_roll}
use Rattle.target_text.proofs.FormedLines.{lends_roll}
use Rattle.target_text.proofs.Steps.{Table, table}
use Rattle.target_text.proofs.SoundLines.{Placed, ProcAt}
use Rattle.target_text.proofs.WellTold.{Among}
use Rattle.target_text.proofs.Holds.{Holds}
use Rattle.target_text.proofs.Fresh.{fresh_name, many}
use Rattle.target_text.proofs.Finish.{filled, filled_agrees, filled_none, none_there, give}

side : List ℕ → Branch
side x = record { to = []; proc = x; args = []; hands = []; lends = record { block = 0; span = None } ∷ [] }

abbrev both : List ℕ → Open.Instr-F Instr Code
both x = Open.Par (side x) (side x)

abbrev shared : List ℕ → Instr
shared x = instr.Par (side x) (side x)

pub lender : List ℕ → Proc
lender x = record { name = x; args = 0; regs = 1; code = code_of (shared x ∷ []); ret = [] }

line_is : (x : List ℕ) (n : ℕ) → code_lines (code_of (shared x ∷ [])) n ≡ line n (phrase.Plain (shared x)) ∷ []
unfolding side
line_is x n =
    let flat : is_flat (out-Instr (shared x)) ≡ true = ap (λ (y : Open.Instr-F Instr Code). is_flat y) (outs-Par (side x) (side x)) in
    code_is (shared x ∷ []) n ∙ append-nil (instr_lines (shared x) n) ∙ flat_lines (shared x) n flat

code_ok : (numbers : Kind → List ℕ → ℕ) (x : List ℕ) (n : ℕ) → is_proc_name x ≡ true → numbers Args x ≡ 0 → numbers Results x ≡ 0 → IsCode numbers 1 x (line n (phrase.Plain (shared x)))
unfolding side
code_ok numbers x n named args results =
    let is : both x ≡ out-Instr (shared x) = sym (outs-Par (side x) (side x)) in
    let P : Open.Instr-F Instr Code → Type 0 = λ y. (tests.is_below 1 y && instr_fits y) ≡ true in
    let Q : Open.Instr-F Instr Code → Type 0 = λ y. AllByRecursion (λ f. numbers f.kind f.name ≡ f.number) (instr_tells y) in
    record {
      fits = subst P is (both_true refl (both_true (both_true named refl) (both_true (both_true named refl) refl)));
      tells = subst Q is (args, (results, (args, (results, tt))));
      narrow = λ w. refl;
    }

abbrev Nesting : Type 0
Nesting = ℕ → Bool

nests : (x : List ℕ) → tests.code_nests (code_of (shared x ∷ [])) 0 ≡ true
unfolding side
nests x =
    let one : tests.instr_nests (shared x) 0 ≡ true = ap (λ (i : Instr). tests.instr_nests i 0) (sym (rolls-Par (side x) (side x))) ∙ nests_roll (both x) 0 in
    ap (λ (f : Nesting). f 0) (fold-roll-Code Nesting Nesting tests.nests_step tests.code_nests_step (record { list = shared x ∷ [] })) ∙ both_true one refl

lends_there : (x : List ℕ) → code_lends (code_of (shared x ∷ [])) ≡ true
unfolding side
lends_there x =
    let one : instr_lends (shared x) ≡ true = ap (λ (i : Instr). instr_lends i) (sym (rolls-Par (side x) (side x))) ∙ lends_roll (both x) in
    fold-roll-Code Bool Bool instr_lends_step code_lends_step (record { list = shared x ∷ [] }) ∙ ap (λ b. b || false) one

pub lender_lends : (ps : List Proc) (x : List ℕ) → procs_lend (ps ++ lender x ∷ []) ≡ true
unfolding lender
lender_lends [] x = ap (λ b. b || false) (lends_there x)
lender_lends (p ∷ ps) x = right (code_lends p.code) (procs_lend (ps ++ lender x ∷ [])) (lender_lends ps x)
  where
    right : (a b : Bool) → b ≡ true → (a || b) ≡ true
    right true b h = refl
    right false b h = h

place_numbers : ℕ → Kind → List ℕ → ℕ
place_numbers place Args name = 0
place_numbers place Results name = 0
place_numbers place Given name = place
place_numbers place Input name = 0

-- a procedure that stands there has its arguments told
among_told : (N : Table) (lends : Bool) (n : ℕ) (procs : List Proc) (name : List ℕ) → Placed (ProcAt N lends) n procs → Among name procs → (m : ℕ) × (N Args name ≡ Some m)
among_told N lends n [] name h a = absurd a
among_told N lends n (p ∷ ps) name h (inl same) = (p.args, ap (N Args) (sym same) ∙ h.0.0.takes)
among_told N lends n (p ∷ ps) name h (inr a) = among_told N lends (suc n) ps name h.1 a

pub record Lent (ins : List InParam) (outs : List Rep) (q : Proc) (qs : List Proc) (t : Told) (w : ℕ) : Type 0 where
  pub more : List Line
  pub others : List Proc
  pub told : Told
  pub run : judge_all more (judged (state ins outs (q ∷ qs) Between) t w) ≡ Some (judged (state ins outs (q ∷ others) Between) told w)
  pub lend : procs_lend (q ∷ others) ≡ true

add_lender : (ins : List InParam) (outs : List Rep) (q : Proc) (qs : List Proc) (t : Told) (w : ℕ) → Holds true (judged (state ins outs (q ∷ qs) Between) t w) → length t.args < many 64 → Lent ins outs q qs t w
unfolding place_numbers lender
add_lender ins outs q qs t w holds few =
    let fresh = fresh_name t.args few in
    let x = fresh.name in
    let no_args : lookup Args x t ≡ None = fresh.untold in
    let no_results : lookup Results x t ≡ None = none_there (lookup Results x t) (λ n e. (let clash : false ≡ true = ap (λ o. is_some o) (sym no_args) ∙ holds.told Results x n e in absurd cc)) in
    let procs = (holds.sound (table t) (λ kind name n e. e)).procs in
    let no_place : lookup Given x t ≡ None = none_there (lookup Given x t) (λ n e. (
    let known = among_told (table t) true 0 (q ∷ qs) x procs (holds.told Given x n e) in
    let clash : None ≡ Some known.0 = sym no_args ∙ known.1 in
    absurd cc)) in
    let d = place_numbers (length (q ∷ qs)) in
    let numbers = filled t d in
    let args : numbers Args x ≡ 0 = filled_none t d Args x no_args in
    let results : numbers Results x ≡ 0 = filled_none t d Results x no_results in
    let next : IsNext numbers w outs (q ∷ qs) (lender x) = record {
      named = fresh.named;
      first = refl;
      sizes = refl;
      limit = refl;
      tells = (filled_none t d Given x no_place, (args, tt));
      gives = results;
      ret = refl;
      nests = nests x;
      code = λ n. subst (λ ls. AreCode numbers 1 x ls) (sym (line_is x n)) (code_ok numbers x n fresh.named args results, tt);
    } in
    let given = give numbers ins outs (q ∷ qs) w (lender x) t (filled_agrees t d) next in
    record { more = proc_lines (lender x); others = qs ++ lender x ∷ []; told = given.0; run = given.2; lend = lender_lends (q ∷ qs) x }

-- where lends are shown, there is one
pub lend : (ins : List InParam) (outs : List Rep) (q : Proc) (qs : List Proc) (t : Told) (w : ℕ) → Holds true (judged (state ins outs (q ∷ qs) Between) t w) → length t.args < many 64 → Lent ins outs q qs t w
lend ins outs q qs t w holds few = by_lend (procs_lend (q ∷ qs)) refl
  where
    by_lend : (b : Bool) → procs_lend (q ∷ qs) ≡ b → Lent ins outs q qs t w
    by_lend true e = record { more = []; others = qs; told = t; run = refl; lend = e }
    by_lend false e = add_lender ins outs q qs t w holds few
