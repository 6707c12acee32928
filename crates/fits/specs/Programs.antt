-- A program that fits a flat specification by a derivation.
use Rattle.std.specs.Prelude.{◌≡◌, ℕ, suc, ◌+◌, ◌-◌, ◌⊎◌, Bool, true, false, ◌&&◌, ◌||◌, not, cond, List, [], ◌∷◌, ◌++◌, length, nat_le, nat_eq, Option, Some, None, codes}
use Rattle.target_code.specs.declared.tree.InParam.{InParam}
use Rattle.target_code.specs.declared.tree.Instr.{Instr}
use Rattle.target_code.specs.declared.tree.Proc.{Proc}
use Rattle.target_code.specs.declared.tree.Rep.{Rep}
use Rattle.target_meaning.specs.Leaf.{find}
use Rattle.nres_core.specs.FlatTree.{Flats, FlatProc, FlatWhole, bound_in}
use Rattle.rule_check.specs.Check.{param_tag, param_hold, owed, sigs_of}
use Rattle.rule_check.specs.Context.{Hold, Gone, Shape, is_container, is_gone, same_rep}
use Rattle.rule_check.specs.Steps.{slices_are}
use Rattle.fits.specs.Places.{Token, Entry, State, put, fresh, arg_infos, info_reps}
use Rattle.fits.specs.Follow.{Line, Answer, Found, Unmet, Views, OnFound, and_then, need, with_some, is_there, nth_token, proc_name, fit, block}

-- ---- where a procedure begins

-- the k-th variable as a parameter
abbrev pub param_shape : ℕ → InParam → Shape
param_shape k y = record { rep = y.rep; tag = param_tag y.rep k }

-- one that is kept may be held in part
abbrev pub bind_param : State → InParam → State
bind_param s y = record {
  toks = s.toks;
  entries = record { var = s.next; shape = param_shape s.next y; words = fresh s.next (param_shape s.next y); part = y.kept } ∷ s.entries;
  hold = put s.hold s.next (param_hold y.kept);
  next = suc s.next;
  facts = s.facts;
  defs = s.defs;
  branch = s.branch;
}

abbrev pub bind_params : State → List InParam → State
bind_params s [] = s
bind_params s (y ∷ ys) = bind_params (bind_param s y) ys

-- the tokens of parameters from variable k on
abbrev pub param_tokens : ℕ → List InParam → List Token
param_tokens k [] = []
param_tokens k (y ∷ ys) = fresh k (param_shape k y) ++ param_tokens (suc k) ys

-- the parameters are in the first registers; n branches came before
abbrev pub begin_state : ℕ → ℕ → List InParam → State
begin_state k n ys =
    bind_params (record { toks = λ i. nth_token i (param_tokens k ys); entries = []; hold = λ v. Gone; next = k; facts = []; defs = []; branch = n }) ys

-- at the end all that is left of the parameters is what is kept
abbrev pub only_kept : (ℕ → Hold) → List Entry → Bool
only_kept hold [] = true
only_kept hold (e ∷ es) = cond e.part (is_there (hold e.var)) (not (is_container e.shape.rep) || is_gone (hold e.var)) && only_kept hold es

abbrev pub same_reps : List Rep → List Rep → Bool
same_reps [] [] = true
same_reps [] (y ∷ ys) = false
same_reps (x ∷ xs) [] = false
same_reps (x ∷ xs) (y ∷ ys) = same_rep x y && same_reps xs ys

-- ---- procedures, one after the other

-- a procedure whose parameters are the variables from k on, up to its `ret`
abbrev pub follow_proc : Views → ℕ → ℕ → List InParam → List Rep → Flats → Proc → List Line → Answer
follow_proc V k n params shown b proc lines =
    need (nat_le (length (param_tokens k params)) proc.regs) lines
    (and_then (block proc.regs V (fit proc.regs V b.binds) 0 (k + length params) (slices_are (owed k params) shown) b.ending proc.ret (begin_state k n params) proc.code.list lines) (λ s c ls.
    with_some (arg_infos s.entries b.ending.results) ls (λ infos.
    need (same_reps (info_reps infos) shown && only_kept s.hold (begin_state k n params).entries) ls (Found s c ls))))

-- after the last no line is left
unfoldable pub at_last : List Line → Answer → Answer
at_last [] x = x
at_last (l ∷ ls) x = Unmet (l ∷ ls)

-- the procedures of the text, from the g-th on, whose first variable is k
abbrev pub follow_from : Views → ℕ → ℕ → List FlatProc → State → List Line → Answer
follow_from V g k [] s lines = at_last lines (Found s [] [])
follow_from V g k (p ∷ ps) s lines =
    with_some (find V.procs (proc_name g)) lines (λ q.
    and_then (follow_proc V k s.branch p.params p.shown p.body q lines) (λ s1 c ls.
    follow_from V (suc g) (k + length p.params + bound_in p.body.binds) ps s1 ls))

-- a specification and its procedures
abbrev pub follow_whole : Views → FlatWhole → List Line → Answer
follow_whole V f lines =
    with_some (find V.procs (codes "main")) lines (λ q.
    and_then (follow_proc V 0 0 f.params f.shown f.body q lines) (λ s c ls.
    follow_from V 0 (length f.params + bound_in f.body.binds) f.procs s ls))

-- the first line that was not found, counted from 1
unfoldable pub first_unfound : List Line → Answer → Option ℕ
first_unfound lines (Found s c ls) = None
first_unfound lines (Unmet ls) = Some (suc (length lines - length ls))
