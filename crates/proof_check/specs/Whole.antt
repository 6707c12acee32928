-- The parts of the test of a program as a whole.
use Rattle.std.specs.Prelude.{◌≡◌, ◌≤◌, ℕ, suc, nat_eq, Bool, true, false, ◌&&◌, not, cond, List, [], ◌∷◌, ◌++◌, length, map, take, drop, Option, Some, None, codes, decimal}
use Rattle.std.specs.Borrow.{Bor}
use Rattle.std.specs.Cmp.Lexicographic.{slice_cmp}
use Rattle.std.specs.Ordering.{nat_cmp, is_lt}
use Rattle.std.specs.Str.{bytes_eq}
use Rattle.rule_check.specs.Context.{same_rep}
use Rattle.rule_table.specs.Library.{library}
use Rattle.same_procs.specs.Same.{same_proc}
use Rattle.soundness.specs.Nodes.{numbered}
use Rattle.soundness.specs.Shape.{names_of}
use Rattle.target_code.specs.declared.tree.InParam.{InParam}
use Rattle.target_code.specs.declared.tree.Proc.{Proc}
use Rattle.unfit_line.specs.Tests.{Names, is_in, same_names, rise, all_in, calls_of, not_called, is_nil, are_of}

-- it is this number
abbrev pub is_count : ℕ → Option ℕ → Bool
is_count m None = false
is_count m (Some n) = nat_eq m n

-- ---- names

-- how many procedures at the front are called by a letter with this number, the next one and so on
abbrev pub numbered_front : List ℕ → ℕ → List Proc → ℕ
numbered_front letter i [] = 0
numbered_front letter i (q ∷ qs) = cond (bytes_eq q.name (letter ++ decimal i)) (suc (numbered_front letter (suc i) qs)) 0

-- a name stands before the first of these, if there is one
abbrev pub rises_from : List ℕ → Names → Bool
rises_from x [] = true
rises_from x (y ∷ ys) = is_lt (slice_cmp nat_cmp x y)

-- names and procedures that are lent
abbrev pub seen : List (Bor (List ℕ)) → Names
seen xs = map (λ x. x.now) xs

abbrev pub procs_at : List (Bor Proc) → List Proc
procs_at qs = map (λ q. q.now) qs

-- names that are known
abbrev pub names_in : List (List ℕ × Bool) → Names
names_in xs = map (λ x. x.0) xs

abbrev pub one_more : Option ℕ → Option ℕ
one_more None = None
one_more (Some k) = Some (suc k)

-- the place of the first procedure that is called by one of these names
abbrev pub first_place : Names → List Proc → Option ℕ
first_place names [] = None
first_place names (q ∷ qs) = cond (is_in q.name names) (Some 0) (one_more (first_place names qs))

-- ---- inputs

abbrev pub same_in : InParam → InParam → Bool
same_in x y = bytes_eq x.name y.name && (same_rep x.rep y.rep && cond x.kept y.kept (not y.kept))

-- ---- procedures

-- those of the library that are called
abbrev pub called_stand : List Proc → List Proc → List Proc → Bool
called_stand own ours called =
    rise (names_of called)
    && (are_of same_proc called library
    && ((all_in (names_of own) (names_of called) (calls_of ours) && all_in (names_of own) (names_of called) (calls_of called))
    && is_nil (not_called (length called) (calls_of ours) called)))

-- `main`, so many of the text, so many branches, and those of the library
abbrev pub procs_with : ℕ → Proc → List Proc → ℕ → List Proc → Bool
procs_with n main qs m branches =
    bytes_eq main.name (codes "main")
    && (same_names (names_of (take n qs)) (numbered (codes "p") 1 n)
    && (same_names (names_of branches) (numbered (codes "b") 1 (length branches))
    && (nat_eq m (length branches)
    && called_stand (take n qs) (main ∷ (take n qs ++ branches)) (drop m (drop n qs)))))

abbrev pub procs_stand : ℕ → List Proc → ℕ → Bool
procs_stand n [] m = false
procs_stand n (q ∷ qs) m = procs_with n q qs m (take m (drop n qs))

-- there are `main` and these others, and `main` and so many of the others have their names
pub record HaveNames (n : ℕ) (procs others : List Proc) : Type 0 where
  pub main : Proc
  pub parted : procs ≡ main ∷ others
  pub named : bytes_eq main.name (codes "main") ≡ true
  pub enough : n ≤ numbered_front (codes "p") 1 others
