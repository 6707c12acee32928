-- The lines of a formed program behind the first are judged, and give it.
use Rattle.std.proofs.Common.{◌≡◌, ℕ, ◌+◌, ◌≤◌, ◌&&◌, true, nat_eq, nat_le, List, [], ◌∷◌, ◌++◌, length, map, Some, true≢false, refl, ap, sym, ◌∙◌, append_assoc, arith}
use Rattle.std.specs.List.{flat_map, list_all}
use Rattle.std.specs.Str.{bytes_eq}
use Rattle.std.specs.Cmp.Derive.{both_true}
use Rattle.std.proofs.lemmas.Bool.{eqb-true, leb-true, le-leb}
use Rattle.std.proofs.lemmas.Slice.Eq.{bytes_eq-Decides}
use Rattle.target_code.specs.declared.tree.InParam.{InParam}
use Rattle.target_code.specs.declared.tree.Proc.{Proc}
use Rattle.target_code.specs.declared.tree.Program.{Program}
use Rattle.target_code.specs.Reps.{width}
use Rattle.target_code.specs.Reserved.{is_input_name, is_proc_name}
use Rattle.target_code.specs.Lines as tests
use Rattle.target_code.specs.Formed.{Formed, is_shown, keeps_containers, input_names, inputs_distinct, containers_kept, inputs_shown, input_width, result_width, has_sizes, has_registers, have_sizes, have_registers, proc_names, procs_distinct, targets_distinct, blocks_nest, is_main, begins_with_main}
use Rattle.target_lines.proofs.Pieces.{and_parts}
use Rattle.target_judge.specs.Shape.{guard}
use Rattle.target_judge.specs.Told.{Kind, Args, Results, Given, Input, Agrees, nothing}
use Rattle.target_judge.specs.declared.told.Told.{Told}
use Rattle.target_lines.specs.declared.line.Phrase.TheVariants as phrase
use Rattle.target_lines.specs.Programs.{line, proc_lines}
use Rattle.target_judge.specs.Taking.{Between, state}
use Rattle.target_text.specs.Runs.{judge_all}
use Rattle.target_judge.specs.Judging.{main_name, judged, unread}
use Rattle.target_text.proofs.Named.{numbers_of_program, place_of_name, of_name}
use Rattle.target_text.proofs.Passing.{AreOf, AreInputs, IsNext, AreNext, width_of}
use Rattle.target_text.proofs.Places.{value_here, place_here, are_of}
use Rattle.target_text.proofs.CodePasses.{code_passes_tests}
use Rattle.target_text.proofs.BodyJudged.{body_judged}

-- ---- inputs

width_up : (w : ℕ) (ps : List InParam) → w ≤ width_of w ps
width_up w [] = omega arith
width_up w (p ∷ ps) = omega (arith, width_up (w + width p.rep) ps)

width_is : (ps : List InParam) → width_of 0 ps ≡ input_width ps
width_is ps = refl

inputs_are : (d : ℕ) (ins : List InParam) (procs : List Proc) (ps qs : List InParam) (w : ℕ) → ins ≡ ps ++ qs → inputs_distinct ins ≡ true → input_names qs ≡ true → containers_kept qs ≡ true → inputs_shown qs ≡ true
    → width_of w qs ≤ 8388608 → AreInputs (numbers_of_program d ins procs) ps w qs
inputs_are d ins procs ps [] w e distinct named kept shown wide = tt
inputs_are d ins procs ps (q ∷ qs) w e distinct named kept shown wide =
    let name = and_parts (is_input_name q.name) (input_names qs) named in
    let keep = and_parts (keeps_containers q) (containers_kept qs) kept in
    let show = and_parts (is_shown q.rep) (inputs_shown qs) shown in
    let within : nat_le (w + width q.rep) 8388608 ≡ true = le-leb (w + width q.rep) 8388608 (omega (arith, width_up (w + width q.rep) qs, wide)) in (
      record {
        fits = both_true name.0 (both_true keep.0 show.0);
        place = ap (place_of_name (λ (p : InParam). p.name) q.name) e ∙ place_here (λ p. p.name) ps q qs (ap inputs_distinct (sym e) ∙ distinct);
        wide = ap (λ b. guard b (w + width q.rep)) within;
      },
      inputs_are d ins procs (ps ++ q ∷ []) qs (w + width q.rep) (e ∙ sym (append_assoc ps (q ∷ []) qs)) distinct name.1 keep.1 show.1 wide,
    )

-- ---- procedures

-- what is known of a program
record Whole (d : ℕ) (t : Program) : Type 0 where
  formed : Formed t
  are : AreOf (numbers_of_program d t.ins t.procs) t.procs

-- a procedure of it, behind these
record Known (t : Program) (ps : List Proc) (q : Proc) (qs : List Proc) : Type 0 where
  all : t.procs ≡ ps ++ q ∷ qs
  named : is_proc_name q.name ≡ true
  sizes : has_sizes q ≡ true
  registers : has_registers q ≡ true
  calls : tests.code_passes (tests.calls_met t.procs) q.code ≡ true
  targets : tests.code_passes tests.has_distinct_targets q.code ≡ true
  blocks : tests.code_nests q.code 0 ≡ true

args_here : (d : ℕ) (t : Program) (ps : List Proc) (q : Proc) (qs : List Proc) → Formed t → t.procs ≡ ps ++ q ∷ qs → of_name d (λ (p : Proc). p.name) (λ p. p.args) q.name t.procs ≡ q.args
args_here d t ps q qs f e = ap (of_name d (λ (p : Proc). p.name) (λ p. p.args) q.name) e ∙ value_here d (λ p. p.name) (λ p. p.args) ps q qs (ap procs_distinct (sym e) ∙ f.procs_distinct)

results_here : (d : ℕ) (t : Program) (ps : List Proc) (q : Proc) (qs : List Proc) → Formed t → t.procs ≡ ps ++ q ∷ qs → of_name d (λ (p : Proc). p.name) (λ p. length p.ret) q.name t.procs ≡ length q.ret
results_here d t ps q qs f e = ap (of_name d (λ (p : Proc). p.name) (λ p. length p.ret) q.name) e ∙ value_here d (λ p. p.name) (λ p. length p.ret) ps q qs (ap procs_distinct (sym e) ∙ f.procs_distinct)

given_here : (t : Program) (ps : List Proc) (q : Proc) (qs : List Proc) → Formed t → t.procs ≡ ps ++ q ∷ qs → place_of_name (λ (p : Proc). p.name) q.name t.procs ≡ length ps
given_here t ps q qs f e = ap (place_of_name (λ (p : Proc). p.name) q.name) e ∙ place_here (λ p. p.name) ps q qs (ap procs_distinct (sym e) ∙ f.procs_distinct)

-- one that is not the first
next_is : (d : ℕ) (t : Program) (w : ℕ) (x : Proc) (xs : List Proc) (q : Proc) (qs : List Proc) → Whole d t → Known t (x ∷ xs) q qs → IsNext (numbers_of_program d t.ins t.procs) w t.outs (x ∷ xs) q
next_is d t w x xs q qs whole known =
    let size = and_parts (nat_le q.args q.regs) (nat_le q.regs 8388608) known.sizes in
    let registers = and_parts (tests.code_passes (tests.is_below q.regs) q.code) (tests.all_below q.regs q.ret) known.registers in
    record {
      named = known.named;
      first = refl;
      sizes = size.0;
      limit = size.1;
      tells = (given_here t (x ∷ xs) q qs whole.formed known.all, (args_here d t (x ∷ xs) q qs whole.formed known.all, tt));
      gives = results_here d t (x ∷ xs) q qs whole.formed known.all;
      ret = registers.1;
      nests = known.blocks;
      code = code_passes_tests (numbers_of_program d t.ins t.procs) t.procs q.regs q.name whole.are q.code registers.0 known.calls known.targets;
    }

-- the first is `main`
first_is : (d : ℕ) (t : Program) (q : Proc) (qs : List Proc) → Whole d t → Known t [] q qs → is_main t.ins t.outs q ≡ true → IsNext (numbers_of_program d t.ins t.procs) (width_of 0 t.ins) t.outs [] q
first_is d t q qs whole known main =
    let size = and_parts (nat_le q.args q.regs) (nat_le q.regs 8388608) known.sizes in
    let registers = and_parts (tests.code_passes (tests.is_below q.regs) q.code) (tests.all_below q.regs q.ret) known.registers in
    let parts = and_parts (bytes_eq q.name main_name) (nat_eq (input_width t.ins) q.args && nat_eq (result_width t.outs) (length q.ret)) main in
    let counts = and_parts (nat_eq (input_width t.ins) q.args) (nat_eq (result_width t.outs) (length q.ret)) parts.1 in
    let same : q.name ≡ main_name = (bytes_eq-Decides q.name main_name).0 parts.0 in
    let args = args_here d t [] q qs whole.formed known.all in
    let results = results_here d t [] q qs whole.formed known.all in
    let width : q.args ≡ width_of 0 t.ins = omega (arith, width_is t.ins, eqb-true (input_width t.ins) q.args counts.0) in
    record {
      named = known.named;
      first = parts.0;
      sizes = size.0;
      limit = size.1;
      tells = (
        ap (λ (n : List ℕ). of_name d (λ (p : Proc). p.name) (λ p. p.args) n t.procs) (sym same) ∙ args ∙ width,
        (
          ap (λ (n : List ℕ). of_name d (λ (p : Proc). p.name) (λ p. length p.ret) n t.procs) (sym same) ∙ results ∙ sym (eqb-true (result_width t.outs) (length q.ret) counts.1),
          (given_here t [] q qs whole.formed known.all, (args, tt)),
        ),
      );
      gives = results;
      ret = registers.1;
      nests = known.blocks;
      code = code_passes_tests (numbers_of_program d t.ins t.procs) t.procs q.regs q.name whole.are q.code registers.0 known.calls known.targets;
    }

-- what is known of the rest, behind these
record Rest (t : Program) (ps qs : List Proc) : Type 0 where
  all : t.procs ≡ ps ++ qs
  named : proc_names qs ≡ true
  sizes : have_sizes qs ≡ true
  registers : have_registers qs ≡ true
  calls : list_all (λ p. tests.code_passes (tests.calls_met t.procs) p.code) qs ≡ true
  targets : targets_distinct qs ≡ true
  blocks : blocks_nest qs ≡ true

known_first : (t : Program) (ps : List Proc) (q : Proc) (qs : List Proc) → Rest t ps (q ∷ qs) → Known t ps q qs
known_first t ps q qs r = record {
  all = r.all;
  named = (and_parts (is_proc_name q.name) (proc_names qs) r.named).0;
  sizes = (and_parts (has_sizes q) (have_sizes qs) r.sizes).0;
  registers = (and_parts (has_registers q) (have_registers qs) r.registers).0;
  calls = (and_parts (tests.code_passes (tests.calls_met t.procs) q.code) (list_all (λ p. tests.code_passes (tests.calls_met t.procs) p.code) qs) r.calls).0;
  targets = (and_parts (tests.code_passes tests.has_distinct_targets q.code) (targets_distinct qs) r.targets).0;
  blocks = (and_parts (tests.code_nests q.code 0) (blocks_nest qs) r.blocks).0;
}

known_rest : (t : Program) (ps : List Proc) (q : Proc) (qs : List Proc) → Rest t ps (q ∷ qs) → Rest t (ps ++ q ∷ []) qs
known_rest t ps q qs r = record {
  all = r.all ∙ sym (append_assoc ps (q ∷ []) qs);
  named = (and_parts (is_proc_name q.name) (proc_names qs) r.named).1;
  sizes = (and_parts (has_sizes q) (have_sizes qs) r.sizes).1;
  registers = (and_parts (has_registers q) (have_registers qs) r.registers).1;
  calls = (and_parts (tests.code_passes (tests.calls_met t.procs) q.code) (list_all (λ p. tests.code_passes (tests.calls_met t.procs) p.code) qs) r.calls).1;
  targets = (and_parts (tests.code_passes tests.has_distinct_targets q.code) (targets_distinct qs) r.targets).1;
  blocks = (and_parts (tests.code_nests q.code 0) (blocks_nest qs) r.blocks).1;
}

others_next : (d : ℕ) (t : Program) (w : ℕ) (x : Proc) (xs qs : List Proc) → Whole d t → Rest t (x ∷ xs) qs → AreNext (numbers_of_program d t.ins t.procs) w t.outs (x ∷ xs) qs
others_next d t w x xs [] whole r = tt
others_next d t w x xs (q ∷ qs) whole r = (next_is d t w x xs q qs whole (known_first t (x ∷ xs) q qs r), others_next d t w x (xs ++ q ∷ []) qs whole (known_rest t (x ∷ xs) q qs r))

all_next : (d : ℕ) (t : Program) (qs : List Proc) → Whole d t → Rest t [] qs → begins_with_main t.ins t.outs qs ≡ true → AreNext (numbers_of_program d t.ins t.procs) (width_of 0 t.ins) t.outs [] qs
all_next d t [] whole r main = absurd (true≢false (sym main))
all_next d t (q ∷ qs) whole r main = (first_is d t q qs whole (known_first t [] q qs r) main, others_next d t (width_of 0 t.ins) q [] qs whole (known_rest t [] q qs r))

pub procs_are : (d : ℕ) (t : Program) → Formed t → AreNext (numbers_of_program d t.ins t.procs) (width_of 0 t.ins) t.outs [] t.procs
procs_are d t f =
    let whole : Whole d t = record { formed = f; are = are_of d t.ins t.procs f.proc_names f.procs_distinct f.sizes } in
    all_next d t t.procs whole (record { all = refl; named = f.proc_names; sizes = f.sizes; registers = f.registers; calls = f.calls; targets = f.targets; blocks = f.blocks }) f.main_first

inputs_fit : (t : Program) → Formed t → (qs : List Proc) → t.procs ≡ qs → begins_with_main t.ins t.outs qs ≡ true → have_sizes qs ≡ true → width_of 0 t.ins ≤ 8388608
inputs_fit t f [] e main sizes = absurd (true≢false (sym main))
inputs_fit t f (q ∷ qs) e main sizes =
    let parts = and_parts (bytes_eq q.name main_name) (nat_eq (input_width t.ins) q.args && nat_eq (result_width t.outs) (length q.ret)) main in
    let counts = and_parts (nat_eq (input_width t.ins) q.args) (nat_eq (result_width t.outs) (length q.ret)) parts.1 in
    let all = and_parts (has_sizes q) (have_sizes qs) sizes in
    let size = and_parts (nat_le q.args q.regs) (nat_le q.regs 8388608) all.0 in
    omega (arith, width_is t.ins, eqb-true (input_width t.ins) q.args counts.0, leb-true q.args q.regs size.0, leb-true q.regs 8388608 size.1)

-- nothing is told at first
nothing_agrees : (numbers : Kind → List ℕ → ℕ) → Agrees numbers nothing
nothing_agrees numbers Args name n e = absurd cc
nothing_agrees numbers Results name n e = absurd cc
nothing_agrees numbers Given name n e = absurd cc
nothing_agrees numbers Input name n e = absurd cc

pub formed_judged : (d : ℕ) (t : Program) → Formed t → (v : Told) × Agrees (numbers_of_program d t.ins t.procs) v
    × (judge_all (map (λ p. line 0 (phrase.In p)) t.ins ++ (map (λ r. line 0 (phrase.Out r)) t.outs ++ flat_map proc_lines t.procs)) unread ≡ Some (judged (state t.ins t.outs t.procs Between) v (width_of 0 t.ins)))
formed_judged d t f =
    body_judged (numbers_of_program d t.ins t.procs) t.ins t.outs t.procs nothing (nothing_agrees (numbers_of_program d t.ins t.procs))
    (inputs_are d t.ins t.procs [] t.ins 0 refl f.inputs_distinct f.input_names f.containers_kept f.inputs_shown (inputs_fit t f t.procs refl f.main_first f.sizes))
    f.results_shown (procs_are d t f)
