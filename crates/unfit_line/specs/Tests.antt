-- Whether a program stands as a whole, as a test.
use Rattle.std.specs.Prelude.{ℕ, zero, suc, nat_eq, Bool, true, false, ◌&&◌, ◌||◌, not, cond, List, [], ◌∷◌, ◌++◌, length, take, drop, Option, Some, None, codes}
use Rattle.std.specs.Cmp.Lexicographic.{slice_cmp}
use Rattle.std.specs.Ordering.{nat_cmp, is_lt}
use Rattle.std.specs.Str.{bytes_eq}
use Rattle.fits.specs.Programs.{same_reps}
use Rattle.nres_core.specs.FlatTree.{FlatWhole}
use Rattle.rule_check.specs.Context.{same_rep}
use Rattle.soundness.specs.Nodes.{numbered}
use Rattle.soundness.specs.Shape.{names_of}
use Rattle.target_code.specs.Formed.{passes}
use Rattle.target_code.specs.declared.tree.Code.{Code}
use Rattle.target_code.specs.declared.tree.InParam.{InParam}
use Rattle.target_code.specs.declared.tree.Instr.{Instr}
use Rattle.target_code.specs.declared.tree.Instr.TheOpen as I
use Rattle.target_code.specs.declared.tree.Instr.TheFolds.{fold-Instr, fold-Code}
use Rattle.target_code.specs.declared.tree.Proc.{Proc}
use Rattle.target_code.specs.declared.tree.Program.{Program}

-- ---- names

-- names, as bytes
abbrev pub Names : Type 0
Names = List (List ℕ)

abbrev pub is_in : List ℕ → Names → Bool
is_in x [] = false
is_in x (n ∷ ns) = bytes_eq n x || is_in x ns

abbrev pub same_names : Names → Names → Bool
same_names [] [] = true
same_names [] (y ∷ ys) = false
same_names (x ∷ xs) [] = false
same_names (x ∷ xs) (y ∷ ys) = bytes_eq x y && same_names xs ys

-- each stands before the next one
abbrev pub rise : Names → Bool
rise [] = true
rise (x ∷ []) = true
rise (x ∷ y ∷ ys) = is_lt (slice_cmp nat_cmp x y) && rise (y ∷ ys)

-- each of the third stands in the first or in the second
abbrev pub all_in : Names → Names → Names → Bool
all_in xs ys [] = true
all_in xs ys (n ∷ ns) = (is_in n xs || is_in n ys) && all_in xs ys ns

-- ---- the names that code calls

abbrev pub all_names : List Names → Names
all_names [] = []
all_names (ns ∷ nss) = ns ++ all_names nss

-- an instruction, with the names in each block in its place
abbrev pub calls_step : I.Instr-F Names Names → Names
calls_step (I.If t c d) = c ++ d
calls_step (I.While c t d) = c ++ d
calls_step (I.Call to name args) = name ∷ []
calls_step _ = []

abbrev pub calls_in : I.Code-F Names Names → Names
calls_in c = all_names c.list

abbrev pub instr_calls : Instr → Names
instr_calls = fold-Instr Names Names calls_step calls_in

abbrev pub code_calls : Code → Names
code_calls = fold-Code Names Names calls_step calls_in

abbrev pub calls_of : List Proc → Names
calls_of [] = []
calls_of (q ∷ qs) = code_calls q.code ++ calls_of qs

-- ---- the procedures that are called

abbrev pub put_behind : Proc → Option (Proc × List Proc) → Option (Proc × List Proc)
put_behind q None = None
put_behind q (Some x) = Some (x.0, q ∷ x.1)

-- the first procedure that has one of these names, and the others
abbrev pub first_in : Names → List Proc → Option (Proc × List Proc)
first_in names [] = None
first_in names (q ∷ qs) = cond (is_in q.name names) (Some (q, qs)) (put_behind q (first_in names qs))

-- these, where there is none
unfoldable pub with_first : Option (Proc × List Proc) → List Proc → (Proc → List Proc → List Proc) → List Proc
with_first None qs k = qs
with_first (Some x) qs k = k x.0 x.1

-- the procedures that are called neither by one of these names nor by one that is called; as many turns as there are procedures are enough
abbrev pub not_called : ℕ → Names → List Proc → List Proc
not_called zero names qs = qs
not_called (suc n) names qs = with_first (first_in names qs) qs (λ q rest. not_called n (code_calls q.code ++ names) rest)

abbrev pub is_nil : List Proc → Bool
is_nil [] = true
is_nil (q ∷ qs) = false

-- ---- inputs

abbrev pub same_ins : List InParam → List InParam → Bool
same_ins [] [] = true
same_ins [] (y ∷ ys) = false
same_ins (x ∷ xs) [] = false
same_ins (x ∷ xs) (y ∷ ys) = (bytes_eq x.name y.name && (same_rep x.rep y.rep && cond x.kept y.kept (not y.kept))) && same_ins xs ys

-- ---- procedures

-- a procedure stands in a list, by a test that tells of two whether they are equal
abbrev pub is_of : (Proc → Proc → Bool) → Proc → List Proc → Bool
is_of same q [] = false
is_of same q (p ∷ ps) = same p q || is_of same q ps

abbrev pub are_of : (Proc → Proc → Bool) → List Proc → List Proc → Bool
are_of same [] ps = true
are_of same (q ∷ qs) ps = is_of same q ps && are_of same qs ps

-- ---- a program over a library, and a flat specification

module _ (same : Proc → Proc → Bool) (library : List Proc) (f : FlatWhole) (T : Program) where
  -- the program is formed, it has the specification's inputs and results, and these are `main`, the procedures of the text, the branches, and the library's
  -- that are called
  abbrev pub stands_with : Proc → List Proc → List Proc → List Proc → Bool
  stands_with main own branches called =
      passes T
      && (same_ins T.ins f.params
      && (same_reps T.outs f.shown
      && (bytes_eq main.name (codes "main")
      && (same_names (names_of own) (numbered (codes "p") 1 (length f.procs))
      && (same_names (names_of branches) (numbered (codes "b") 1 (length branches))
      && (rise (names_of called)
      && (is_nil (not_called (length called) (calls_of (main ∷ (own ++ branches))) called)
      && (all_in (names_of own) (names_of called) (calls_of ((main ∷ (own ++ branches)) ++ called))
      && are_of same called library))))))))

  -- these procedures are so, with so many branches
  abbrev pub stands_in : List Proc → ℕ → Bool
  stands_in [] m = false
  stands_in (main ∷ qs) m =
      stands_with main (take (length f.procs) qs) (take m (drop (length f.procs) qs)) (drop m (drop (length f.procs) qs))
      && nat_eq m (length (take m (drop (length f.procs) qs)))

  -- the program stands as a whole, with so many branches
  abbrev pub stands_at : ℕ → Bool
  stands_at m = stands_in T.procs m
