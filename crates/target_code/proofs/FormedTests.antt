-- A program is formed exactly where it passes all tests.
use Rattle.std.proofs.Common.{◌≡◌, Bool, true, false, ◌&&◌, refl}
use Rattle.std.specs.Cmp.Derive.{both_true}
use Rattle.target_code.specs.declared.tree.Program.{Program}
use Rattle.target_code.specs.Formed.{Formed, passes, are_inputs, are_procs, are_codes, results_shown, begins_with_main, input_names, inputs_distinct, containers_kept, inputs_shown, proc_names, procs_distinct, have_sizes, blocks_nest, have_registers, all_calls_met, targets_distinct}

pub both_parts : (a b : Bool) → (a && b) ≡ true → (a ≡ true) × (b ≡ true)
both_parts true b h = (refl, h)
both_parts false b h = absurd cc

pub formed_by_tests : (p : Program) → passes p ≡ true → Formed p
unfolding passes
formed_by_tests p h =
    let ins = both_parts (are_inputs p.ins) (results_shown p.outs && (are_procs p.procs && (are_codes p.procs && begins_with_main p.ins p.outs p.procs))) h in
    let outs = both_parts (results_shown p.outs) (are_procs p.procs && (are_codes p.procs && begins_with_main p.ins p.outs p.procs)) ins.1 in
    let procs = both_parts (are_procs p.procs) (are_codes p.procs && begins_with_main p.ins p.outs p.procs) outs.1 in
    let codes = both_parts (are_codes p.procs) (begins_with_main p.ins p.outs p.procs) procs.1 in
    let names = both_parts (input_names p.ins) (inputs_distinct p.ins && (containers_kept p.ins && inputs_shown p.ins)) ins.0 in
    let apart = both_parts (inputs_distinct p.ins) (containers_kept p.ins && inputs_shown p.ins) names.1 in
    let kept = both_parts (containers_kept p.ins) (inputs_shown p.ins) apart.1 in
    let named = both_parts (proc_names p.procs) (procs_distinct p.procs && have_sizes p.procs) procs.0 in
    let sized = both_parts (procs_distinct p.procs) (have_sizes p.procs) named.1 in
    let blocks = both_parts (blocks_nest p.procs) (have_registers p.procs && (all_calls_met p.procs && targets_distinct p.procs)) codes.0 in
    let registers = both_parts (have_registers p.procs) (all_calls_met p.procs && targets_distinct p.procs) blocks.1 in
    let calls = both_parts (all_calls_met p.procs) (targets_distinct p.procs) registers.1 in
    record {
      input_names = names.0;
      inputs_distinct = apart.0;
      containers_kept = kept.0;
      inputs_shown = kept.1;
      results_shown = outs.0;
      proc_names = named.0;
      procs_distinct = sized.0;
      main_first = codes.1;
      sizes = sized.1;
      registers = registers.0;
      calls = calls.0;
      targets = calls.1;
      blocks = blocks.0;
    }

pub tests_by_formed : (p : Program) → Formed p → passes p ≡ true
unfolding passes
tests_by_formed p f =
    let inputs = both_true f.input_names (both_true f.inputs_distinct (both_true f.containers_kept f.inputs_shown)) in
    let procs = both_true f.proc_names (both_true f.procs_distinct f.sizes) in
    let codes = both_true f.blocks (both_true f.registers (both_true f.calls f.targets)) in
    both_true inputs (both_true f.results_shown (both_true procs (both_true codes f.main_first)))
