-- The programs are formed.
use denote.Hole.Carrier
use Rattle.std.proofs.Common.{◌≡◌, ℕ, ◌<◌, ◌^◌, Bool, true, List, [], ◌∷◌, map, refl, ap, ◌∙◌}
use Rattle.std.proofs.lemmas.Bool.{lt-ltb}
use Rattle.target_code.specs.Formed.{Formed}
use Rattle.target_code.specs.Lines.{Layer, Nesting, all_true, line_step, lines_step, instr_passes, code_passes, is_below, calls_met, has_distinct_targets, nests_step, code_nests_step, instr_nests, code_nests, all_nest}
use Rattle.target_code.specs.Reserved.{is_input_name}
use Rattle.target_code.specs.declared.tree.Code.{Code}
use Rattle.target_code.specs.declared.tree.InParam.{InParam}
use Rattle.target_code.specs.declared.tree.Instr.{Instr, out-Instr}
use Rattle.target_code.specs.declared.tree.Instr.TheFolds.{map-Instr, fold_out-Instr, fold_out-Code}
use Rattle.target_code.specs.declared.tree.Proc.{Proc}
use Rattle.target_code.specs.declared.tree.Program.{Program}
use Rattle.target_code.specs.declared.tree.Rep.TheVariants as rep
use Rattle.triple_logic.specs.Sample.{array_get}
use Rattle.smallest_form.specs.Programs.{number_main, element_main, after_main}

-- ---- tests of code without blocks, line by line

module _ (passes : Layer → Bool) where
  -- an instruction, by its layer
  abbrev line_passes : Instr → Bool
  line_passes i = line_step passes (map-Instr Instr Code Bool Bool (instr_passes passes) (code_passes passes) (out-Instr i))

  each_passes : (is : List Instr) → map (instr_passes passes) is ≡ map line_passes is
  each_passes [] = refl
  each_passes (i ∷ is) = ap (λ (b : Bool). b ∷ map (instr_passes passes) is) (fold_out-Instr Bool Bool (line_step passes) lines_step i) ∙ ap (λ (bs : List Bool). line_passes i ∷ bs) (each_passes is)

  lines_pass : (is : List Instr) → code_passes passes (record { list = is }) ≡ all_true (map line_passes is)
  lines_pass is = fold_out-Code Bool Bool (line_step passes) lines_step (record { list = is }) ∙ ap all_true (each_passes is)

abbrev line_nests : Instr → Nesting
line_nests i = nests_step (map-Instr Instr Code Nesting Nesting instr_nests code_nests (out-Instr i))

each_nests : (is : List Instr) → map instr_nests is ≡ map line_nests is
each_nests [] = refl
each_nests (i ∷ is) = ap (λ (b : Nesting). b ∷ map instr_nests is) (fold_out-Instr Nesting Nesting nests_step code_nests_step i) ∙ ap (λ (bs : List Nesting). line_nests i ∷ bs) (each_nests is)

lines_nest : (is : List Instr) → code_nests (record { list = is }) 0 ≡ all_nest 0 (map line_nests is)
lines_nest is = ap (λ (f : Nesting). f 0) (fold_out-Code Nesting Nesting nests_step code_nests_step (record { list = is })) ∙ ap (all_nest 0) (each_nests is)

-- ---- the programs

abbrev array_param : List ℕ → InParam
array_param list = record { name = list; rep = rep.Array; kept = true }

abbrev program : List InParam → List Proc → Program
program ins procs = record { ins = ins; outs = rep.Word ∷ []; procs = procs }

module _ (k : ℕ) (word : k < 2 ^ 64) where
  pub number_formed : Formed (program [] (number_main 0 k ∷ []))
  unfolding out-Instr Carrier.out
  number_formed = record {
    input_names = refl;
    inputs_distinct = refl;
    containers_kept = refl;
    inputs_shown = refl;
    results_shown = refl;
    proc_names = refl;
    procs_distinct = refl;
    main_first = refl;
    sizes = refl;
    registers = rw (lines_pass (is_below 1) (number_main 0 k).code.list, lt-ltb k (2 ^ 64) word) refl;
    calls = rw (lines_pass (calls_met (number_main 0 k ∷ [])) (number_main 0 k).code.list) refl;
    targets = rw (lines_pass has_distinct_targets (number_main 0 k).code.list) refl;
    blocks = rw (lines_nest (number_main 0 k).code.list) refl;
  }

  module _ (list : List ℕ) (named : is_input_name list ≡ true) where
    pub list_number_formed : Formed (program (array_param list ∷ []) (number_main 3 k ∷ []))
    unfolding out-Instr Carrier.out
    list_number_formed = record {
      input_names = rw named refl;
      inputs_distinct = refl;
      containers_kept = refl;
      inputs_shown = refl;
      results_shown = refl;
      proc_names = refl;
      procs_distinct = refl;
      main_first = refl;
      sizes = refl;
      registers = rw (lines_pass (is_below 4) (number_main 3 k).code.list, lt-ltb k (2 ^ 64) word) refl;
      calls = rw (lines_pass (calls_met (number_main 3 k ∷ [])) (number_main 3 k).code.list) refl;
      targets = rw (lines_pass has_distinct_targets (number_main 3 k).code.list) refl;
      blocks = rw (lines_nest (number_main 3 k).code.list) refl;
    }

-- `main` and `array_get`
module _ (list : List ℕ) (named : is_input_name list ≡ true) (i : ℕ) (index : i < 2 ^ 64) where
  pub element_formed : Formed (program (array_param list ∷ []) (element_main i ∷ array_get ∷ []))
  unfolding out-Instr Carrier.out
  element_formed = record {
    input_names = rw named refl;
    inputs_distinct = refl;
    containers_kept = refl;
    inputs_shown = refl;
    results_shown = refl;
    proc_names = refl;
    procs_distinct = refl;
    main_first = refl;
    sizes = refl;
    registers = rw (lines_pass (is_below 5) (element_main i).code.list, lt-ltb i (2 ^ 64) index, lines_pass (is_below 6) array_get.code.list) refl;
    calls = rw (lines_pass (calls_met (element_main i ∷ array_get ∷ [])) (element_main i).code.list, lines_pass (calls_met (element_main i ∷ array_get ∷ [])) array_get.code.list) refl;
    targets = rw (lines_pass has_distinct_targets (element_main i).code.list, lines_pass has_distinct_targets array_get.code.list) refl;
    blocks = rw (lines_nest (element_main i).code.list, lines_nest array_get.code.list) refl;
  }

  pub after_formed : (k : ℕ) → k < 2 ^ 64 → Formed (program (array_param list ∷ []) (after_main i k ∷ array_get ∷ []))
  unfolding out-Instr Carrier.out
  after_formed k word = record {
    input_names = rw named refl;
    inputs_distinct = refl;
    containers_kept = refl;
    inputs_shown = refl;
    results_shown = refl;
    proc_names = refl;
    procs_distinct = refl;
    main_first = refl;
    sizes = refl;
    registers = rw (lines_pass (is_below 6) (after_main i k).code.list, lt-ltb i (2 ^ 64) index, lt-ltb k (2 ^ 64) word, lines_pass (is_below 6) array_get.code.list) refl;
    calls = rw (lines_pass (calls_met (after_main i k ∷ array_get ∷ [])) (after_main i k).code.list, lines_pass (calls_met (after_main i k ∷ array_get ∷ [])) array_get.code.list) refl;
    targets = rw (lines_pass has_distinct_targets (after_main i k).code.list, lines_pass has_distinct_targets array_get.code.list) refl;
    blocks = rw (lines_nest (after_main i k).code.list, lines_nest array_get.code.list) refl;
  }
