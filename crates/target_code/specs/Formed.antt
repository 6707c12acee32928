-- Which programs are formed: those that have a text, and that the machine runs.
use Rattle.std.specs.Prelude.{ℕ, Bool, true, false, IsTrue, not, ◌&&◌, ◌||◌, List, [], ◌∷◌, length, sum_by, nat_le, nat_eq, codes as text}
use Rattle.std.specs.List.{list_all}
use Rattle.std.specs.Str.{bytes_eq}
use Rattle.target_code.specs.declared.tree.Rep.{Rep}
use Rattle.target_code.specs.declared.tree.Rep.TheVariants as rep
use Rattle.target_code.specs.declared.tree.InParam.{InParam}
use Rattle.target_code.specs.declared.tree.Proc.{Proc}
use Rattle.target_code.specs.declared.tree.Program.{Program}
use Rattle.target_code.specs.Reps.{width}
use Rattle.target_code.specs.Reserved.{is_input_name, is_proc_name, are_distinct}
use Rattle.target_code.specs.Lines.{code_passes, all_below, is_below, calls_met, has_distinct_targets, code_nests}

-- ---- inputs and results

-- all but numbers and truth values are containers
abbrev pub is_container : Rep → Bool
is_container rep.Word = false
is_container rep.Flag = false
is_container _ = true

-- what is kept is a container
abbrev pub keeps_containers : InParam → Bool
keeps_containers p = not p.kept || is_container p.rep

-- the limit of `bits` and `amap`
abbrev pub is_limit : ℕ → Bool
is_limit u = nat_le 1 u && nat_le u 4294967295

-- the representations of inputs and results
abbrev pub is_shown : Rep → Bool
is_shown rep.Slice = false
is_shown (rep.Bits u) = is_limit u
is_shown (rep.Amap u) = is_limit u
is_shown _ = true

-- ---- procedures

-- the arguments are among the registers, and these are not too many
abbrev pub has_sizes : Proc → Bool
has_sizes p = nat_le p.args p.regs && nat_le p.regs 8388608

-- the registers that are named are there
abbrev pub has_registers : Proc → Bool
has_registers p = code_passes (is_below p.regs) p.code && all_below p.regs p.ret

-- the registers of the inputs, and those of the results
abbrev pub input_width : List InParam → ℕ
input_width ins = sum_by (λ p. width p.rep) ins

abbrev pub result_width : List Rep → ℕ
result_width outs = sum_by (λ r. width r) outs

-- `main`, with the arguments and results that the inputs and results want
abbrev pub is_main : List InParam → List Rep → Proc → Bool
is_main ins outs p = bytes_eq p.name (text "main") && (nat_eq (input_width ins) p.args && nat_eq (result_width outs) (length p.ret))

abbrev pub begins_with_main : List InParam → List Rep → List Proc → Bool
begins_with_main ins outs [] = false
begins_with_main ins outs (p ∷ ps) = is_main ins outs p

-- ---- the sentences

abbrev pub input_names : List InParam → Bool
input_names ins = list_all (λ p. is_input_name p.name) ins

abbrev pub inputs_distinct : List InParam → Bool
inputs_distinct ins = are_distinct (λ p q. bytes_eq p.name q.name) ins

abbrev pub containers_kept : List InParam → Bool
containers_kept ins = list_all keeps_containers ins

abbrev pub inputs_shown : List InParam → Bool
inputs_shown ins = list_all (λ p. is_shown p.rep) ins

abbrev pub results_shown : List Rep → Bool
results_shown outs = list_all is_shown outs

abbrev pub proc_names : List Proc → Bool
proc_names procs = list_all (λ p. is_proc_name p.name) procs

abbrev pub procs_distinct : List Proc → Bool
procs_distinct procs = are_distinct (λ p q. bytes_eq p.name q.name) procs

abbrev pub have_sizes : List Proc → Bool
have_sizes procs = list_all has_sizes procs

abbrev pub have_registers : List Proc → Bool
have_registers procs = list_all has_registers procs

abbrev pub all_calls_met : List Proc → Bool
all_calls_met procs = list_all (λ p. code_passes (calls_met procs) p.code) procs

abbrev pub targets_distinct : List Proc → Bool
targets_distinct procs = list_all (λ p. code_passes has_distinct_targets p.code) procs

abbrev pub blocks_nest : List Proc → Bool
blocks_nest procs = list_all (λ p. code_nests p.code 0) procs

-- a formed program: it has a text, and the machine runs it
pub record Formed (program : Program) : Type 0 where
  -- input names are names of specifications, and not reserved, but `fun`, `call` and `slice` may stand
  pub input_names : IsTrue (input_names program.ins)
  -- they are distinct
  pub inputs_distinct : IsTrue (inputs_distinct program.ins)
  -- only containers are kept
  pub containers_kept : IsTrue (containers_kept program.ins)
  -- no representation is a slice, and limits are in their bounds
  pub inputs_shown : IsTrue (inputs_shown program.ins)
  pub results_shown : IsTrue (results_shown program.outs)
  -- procedure names are lower-case letters, digits and `_`, a letter first
  pub proc_names : IsTrue (proc_names program.procs)
  -- they are distinct
  pub procs_distinct : IsTrue (procs_distinct program.procs)
  -- the first is `main`, with an argument for each register of the inputs, and a result for each of the results
  pub main_first : IsTrue (begins_with_main program.ins program.outs program.procs)
  -- arguments are at most the registers, and these at most 8,388,608
  pub sizes : IsTrue (have_sizes program.procs)
  -- each register that is named is there, and each constant is a word
  pub registers : IsTrue (have_registers program.procs)
  -- called procedures are there, with as many arguments and results
  pub calls : IsTrue (all_calls_met program.procs)
  -- results of one call, or of both sides of one `par`, go to distinct registers
  pub targets : IsTrue (targets_distinct program.procs)
  -- at most 100 blocks are open around an instruction
  pub blocks : IsTrue (blocks_nest program.procs)

-- ---- the same as one test, in the order in which it is made

abbrev pub are_inputs : List InParam → Bool
are_inputs ins = input_names ins && (inputs_distinct ins && (containers_kept ins && inputs_shown ins))

abbrev pub are_procs : List Proc → Bool
are_procs procs = proc_names procs && (procs_distinct procs && have_sizes procs)

-- blocks come first, so that no other test goes deeper than they may
abbrev pub are_codes : List Proc → Bool
are_codes procs = blocks_nest procs && (have_registers procs && (all_calls_met procs && targets_distinct procs))

unfoldable pub passes : Program → Bool
passes program = are_inputs program.ins && (results_shown program.outs && (are_procs program.procs && (are_codes program.procs && begins_with_main program.ins program.outs program.procs)))
