-- What is printed for procedures and for a whole specification.
use Rattle.std.specs.Prelude.{ℕ, zero, suc, ◌+◌, ◌||◌, Bool, false, cond, List, [], ◌∷◌, ◌++◌, length, Result, Ok, codes}
use Rattle.std.specs.Str.{bytes_eq}
use Rattle.target_code.specs.Reps.{width}
use Rattle.target_code.specs.declared.tree.Code.{Code}
use Rattle.target_code.specs.declared.tree.InParam.{InParam}
use Rattle.target_code.specs.declared.tree.Instr.TheFolds.{fold-Code}
use Rattle.target_code.specs.declared.tree.Instr.TheOpen as I
use Rattle.target_code.specs.declared.tree.Proc.{Proc}
use Rattle.target_code.specs.declared.tree.Program.{Program}
use Rattle.target_code.specs.declared.tree.Rep.{Rep}
use Rattle.nres_core.specs.FlatTree.{Flats, FlatProc, FlatWhole, bound_in}
use Rattle.nres_core.specs.declared.refusal.Refusal.{Refusal}
use Rattle.nres_core.specs.declared.refusal.Why.TheVariants as w
use Rattle.rule_check.specs.Check.{param_spots, owed, shape_reps}
use Rattle.rule_check.specs.Context.{first_unlike, reps_of, looked_up}
use Rattle.rule_check.specs.Steps.{on_ok, unless, refused, slices_are}
use Rattle.fits.specs.Places.{put}
use Rattle.fits.specs.Follow.{Line, proc_name}
use Rattle.prints.specs.declared.home.Home.TheVariants.{Register, Literal}
use Rattle.prints.specs.Homes.{Homes}
use Rattle.prints.specs.Print.{Means, Now, Block, proc_of, print, print_end}

-- ---- a procedure

-- the parameters are in the first registers
abbrev pub param_homes : Homes → ℕ → ℕ → List InParam → Homes
param_homes home k n [] = home
param_homes home k n (y ∷ ys) = param_homes (put home k (Register n)) (suc k) (n + width y.rep) ys

abbrev pub params_free : ℕ → List InParam → ℕ
params_free n [] = n
params_free n (y ∷ ys) = params_free (n + width y.rep) ys

-- parameters are the variables from k on; so many branches came before
abbrev pub begin_now : ℕ → List InParam → ℕ → Now
begin_now k params branch = record {
  ctx = record { spots = param_spots k params []; facts = []; defs = [] };
  home = param_homes (λ v. Literal 0) k 0 params;
  free = params_free 0 params;
  branch = branch;
}

-- procedures in text order, their branches, the lines of them all, and how many branches they have with those before
pub record Procs : Type 0 where
  pub own : List Proc
  pub made : List Proc
  pub lines : List Line
  pub branch : ℕ

-- the results have the representations that are declared
abbrev pub print_shown : List Rep → Flats → Block → Result Block Refusal
print_shown shown b x =
    unless (first_unlike 1 shown (shape_reps x.moved.shapes)) (λ i. refused b.ending.place (codes "return") (reps_of (looked_up x.printed.now.ctx.spots b.ending.results)) (w.Result i))
    (Ok x)

abbrev pub print_body : Means → ℕ → List InParam → List Rep → Flats → ℕ → Result Block Refusal
print_body M k params shown b branch =
    on_ok (print_end M 0 (slices_are (owed k params) shown) b.ending (print M b.binds (begin_now k params branch))) (print_shown shown b)

abbrev pub body_proc : List ℕ → List InParam → Block → Proc
body_proc name params x = proc_of name (params_free 0 params) 0 x

abbrev pub before : Proc → Block → Procs → Procs
before q x d = record { own = q ∷ d.own; made = x.printed.made ++ d.made; lines = x.printed.lines ++ d.lines; branch = d.branch }

-- the procedures of the text, from the g-th on, whose first variable is k
abbrev pub print_procs : Means → ℕ → ℕ → List FlatProc → ℕ → Result Procs Refusal
print_procs M g k [] branch = Ok (record { own = []; made = []; lines = []; branch = branch })
print_procs M g k (p ∷ ps) branch =
    on_ok (print_body M k p.params p.shown p.body branch) (λ x.
    on_ok (print_procs M (suc g) (k + length p.params + bound_in p.body.binds) ps x.printed.now.branch) (λ d.
    Ok (before (body_proc (proc_name g) p.params x) x d)))

-- a specification, and its procedures
abbrev pub print_all : Means → FlatWhole → Result Procs Refusal
print_all M f =
    on_ok (print_body M 0 f.params f.shown f.body 0) (λ x.
    on_ok (print_procs M 0 (length f.params + bound_in f.body.binds) f.procs x.printed.now.branch) (λ d.
    Ok (before (body_proc (codes "main") f.params x) x d)))

-- ---- the library's procedures that are called

-- an instruction, with the names in each inner code in its place
abbrev pub names_step : I.Instr-F (List (List ℕ)) (List (List ℕ)) → List (List ℕ)
names_step (I.If t c d) = c ++ d
names_step (I.While c t d) = c ++ d
names_step (I.Call to name args) = name ∷ []
names_step _ = []

abbrev pub all_names : List (List (List ℕ)) → List (List ℕ)
all_names [] = []
all_names (ns ∷ nss) = ns ++ all_names nss

abbrev pub names_in : I.Code-F (List (List ℕ)) (List (List ℕ)) → List (List ℕ)
names_in c = all_names c.list

-- the names that code calls
abbrev pub code_calls : Code → List (List ℕ)
code_calls = fold-Code (List (List ℕ)) (List (List ℕ)) names_step names_in

abbrev pub procs_call : List Proc → List (List ℕ)
procs_call [] = []
procs_call (q ∷ qs) = code_calls q.code ++ procs_call qs

abbrev pub is_name_in : List ℕ → List (List ℕ) → Bool
is_name_in name [] = false
is_name_in name (n ∷ ns) = bytes_eq name n || is_name_in name ns

-- those of a list that have one of these names, in the order of the list
abbrev pub named : List (List ℕ) → List Proc → List Proc
named ns [] = []
named ns (q ∷ qs) = cond (is_name_in q.name ns) (q ∷ named ns qs) (named ns qs)

-- names, with those that the library's procedures of these names call, and so on, up to this depth
abbrev pub reached : ℕ → List Proc → List (List ℕ) → List (List ℕ)
reached zero library ns = ns
reached (suc d) library ns = reached d library (ns ++ procs_call (named ns library))

-- the library's procedures that these procedures call, helpers too
abbrev pub called : List Proc → List Proc → List Proc
called library procs = named (reached (length library) library (procs_call procs)) library

-- ---- the program

-- a program, and its derivation
pub record Proved : Type 0 where
  pub program : Program
  pub lines : List Line

-- `main`, the procedures of the text, the branches, and the library's procedures that are called
abbrev pub proved_of : List Proc → FlatWhole → Procs → Proved
proved_of library f d = record {
  program = record { ins = f.params; outs = f.shown; procs = d.own ++ (d.made ++ called library (d.own ++ d.made)) };
  lines = d.lines;
}

-- the program of a specification over a library, or the refusal of the rule check
abbrev pub print_whole : Means → List Proc → FlatWhole → Result Proved Refusal
print_whole M library f = on_ok (print_all M f) (λ d. Ok (proved_of library f d))
