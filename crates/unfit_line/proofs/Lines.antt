-- The line is none exactly where the program fits, and else the only one that is told of it.
use Rattle.std.specs.Prelude.{◌≡◌, ℕ, zero, suc, ◌+◌, ◌-◌, ◌≤◌, nat_eq, Bool, true, false, cond, List, [], ◌∷◌, ◌++◌, length, Option, Some, None, codes}
use Rattle.std.proofs.Common.{refl, sym, ap, ◌∙◌, subst, arith, eqb-true, eq-eqb, ⊎_elim}
use Rattle.std.proofs.lemmas.List.{length-append}
use Rattle.fits.specs.Places.{State}
use Rattle.fits.specs.Follow.{Answer, Found, Line, Unmet, Views, and_then, proc_name, with_some}
use Rattle.fits.specs.Programs.{at_last, follow_from, follow_proc, follow_whole}
use Rattle.fits_shape.specs.Fits.{IsUnfitAt, Stands, of_program, whole, line, too_many}
use Rattle.nres_core.specs.FlatTree.{FlatProc, FlatWhole, bound_in}
use Rattle.target_code.specs.declared.tree.Instr.{Instr}
use Rattle.target_code.specs.declared.tree.Proc.{Proc}
use Rattle.target_code.specs.declared.tree.Program.{Program}
use Rattle.target_meaning.specs.Leaf.{find}
use Rattle.unfit_line.specs.Tests.{stands_at}
use Rattle.unfit_line.specs.UnfitLine.{IsTested, IsTold, LineIsTold, TellsEqual, some_up_to, told, unfit_line}
use Rattle.unfit_line.proofs.Names.{either_of, not_both, or_first, or_second}
use Rattle.unfit_line.proofs.Whole.{is_tested}

-- ---- one of the numbers

some_passes : (test : ℕ → Bool) (n : ℕ) → some_up_to test n ≡ true → (m : ℕ) × (test m ≡ true)
some_passes test zero e = (0, e)
some_passes test (suc n) e = ⊎_elim (λ h. (suc n, h)) (λ h. some_passes test n h) (either_of (test (suc n)) (some_up_to test n) e)

passes_some : (test : ℕ → Bool) (n m : ℕ) → m ≤ n → test m ≡ true → some_up_to test n ≡ true
passes_some test zero m l e = let o : m ≡ 0 = omega (arith, l) in ap test (sym o) ∙ e
passes_some test (suc n) m l e = by (passes_some test n m) (nat_eq m (suc n)) refl
  where
    by : (m ≤ n → test m ≡ true → some_up_to test n ≡ true) → (b : Bool) → nat_eq m (suc n) ≡ b → some_up_to test (suc n) ≡ true
    by below true h = or_first (test (suc n)) (some_up_to test n) (ap test (sym (eqb-true m (suc n) h)) ∙ e)
    by below false h =
        let other : m ≡ suc n → ⊥ = λ s. not_both (eq-eqb m (suc n) s) h in
        let less : m ≤ n = grind (arith, l, other) in
        or_second (test (suc n)) (some_up_to test n) (below less e)

-- ---- where all lines are found, no code is left and no line

abbrev Ends : Answer → Type 0
Ends (Found s c ls) = (c ≡ []) × (ls ≡ [])
Ends (Unmet ls) = Unit {0}

then_ends : (a : Answer) (k : State → List Instr → List Line → Answer) → ((s : State) (c : List Instr) (ls : List Line) → Ends (k s c ls)) → Ends (and_then a k)
unfolding and_then
then_ends (Found s c ls) k h = h s c ls
then_ends (Unmet ls) k h = tt

some_ends : (o : Option Proc) (ls : List Line) (k : Proc → Answer) → ((q : Proc) → Ends (k q)) → Ends (with_some o ls k)
unfolding with_some
some_ends None ls k h = tt
some_ends (Some q) ls k h = h q

last_ends : (ls : List Line) (s : State) → Ends (at_last ls (Found s [] []))
unfolding at_last
last_ends [] s = (refl, refl)
last_ends (l ∷ ls) s = tt

from_ends : (V : Views) (g k : ℕ) (ps : List FlatProc) (s : State) (lines : List Line) → Ends (follow_from V g k ps s lines)
from_ends V g k [] s lines = last_ends lines s
from_ends V g k (p ∷ ps) s lines =
    some_ends (find V.procs (proc_name g)) lines _ (λ q.
    then_ends (follow_proc V k s.branch p.params p.shown p.body q lines) _ (λ s1 c ls. from_ends V (suc g) (k + length p.params + bound_in p.body.binds) ps s1 ls))

whole_ends : (V : Views) (f : FlatWhole) (lines : List Line) → Ends (follow_whole V f lines)
whole_ends V f lines =
    some_ends (find V.procs (codes "main")) lines _ (λ q.
    then_ends (follow_proc V 0 0 f.params f.shown f.body q lines) _ (λ s c ls. from_ends V 0 (length f.params + bound_in f.body.binds) f.procs s ls))

-- ---- the line

module _ (same : Proc → Proc → Bool) (tells : TellsEqual same) (library : List Proc) (V : Views) (f : FlatWhole) (T : Program) (lines : List Line) where
  tested : IsTested same library f T
  tested = is_tested same tells library f T

  abbrev Stands_at : ℕ → Bool
  Stands_at = stands_at same library f T

  abbrev followed : Answer
  followed = follow_whole (of_program V T) f lines

  abbrev Told : Option ℕ → Type 0
  Told said = IsTold library V f T lines said

  -- it has no more branches than procedures
  within : (s : Stands library f T) → length s.branches ≤ length T.procs
  within s =
      let a : length T.procs ≡ suc (length (s.own ++ (s.branches ++ s.called))) = ap length s.procs in
      let b : length (s.own ++ (s.branches ++ s.called)) ≡ length s.own + length (s.branches ++ s.called) = length-append s.own (s.branches ++ s.called) in
      let c : length (s.branches ++ s.called) ≡ length s.branches + length s.called = length-append s.branches s.called in
      omega (arith, a, b, c)

  stands_not : some_up_to Stands_at (length T.procs) ≡ false → Stands library f T → ⊥
  stands_not e s = not_both (passes_some Stands_at (length T.procs) (length s.branches) (within s) (tested.passes s)) e

  -- it does not stand
  first_line : (Stands library f T → ⊥) → Told (Some 1)
  first_line stops = record {
    fits = λ e. absurd (let o : ⊥ = cc e in o);
    none = λ x. absurd (stops x.stands);
    line = λ n e. (let same_line : 1 ≡ n = cc e in subst (IsUnfitAt library V f T lines) same_line (whole stops));
    only = only;
  }
    where
      only : (n : ℕ) → IsUnfitAt library V f T lines n → Some 1 ≡ Some n
      only n (whole others) = refl
      only n (line s e) = absurd (stops s)
      only n (too_many others e) = refl

  -- a line is not found
  not_found : Stands library f T → (left : List Line) → followed ≡ Unmet left → Told (Some (suc (length lines - length left)))
  not_found s left e = record {
    fits = λ o. absurd (let n : ⊥ = cc o in n);
    none = λ x. absurd (let n : ⊥ = cc (sym e ∙ x.followed) in n);
    line = λ n o. (let same_line : suc (length lines - length left) ≡ n = cc o in subst (IsUnfitAt library V f T lines) same_line (line s e));
    only = only;
  }
    where
      only : (n : ℕ) → IsUnfitAt library V f T lines n → Some (suc (length lines - length left)) ≡ Some n
      only n (whole stops) = absurd (stops s)
      only n (line {left = others} t d) = let same_left : left ≡ others = cc (sym e ∙ d) in ap (λ z. Some (suc (length lines - length z))) same_left
      only n (too_many stops d) = absurd (let o : ⊥ = cc (sym e ∙ d) in o)

  -- all lines are found
  all_found : Stands library f T → (last : State) → followed ≡ Found last [] [] → Told (cond (Stands_at last.branch) None (Some 1))
  all_found s last e = by (Stands_at last.branch) refl
    where
      last_is : (other : State) → followed ≡ Found other [] [] → last ≡ other
      last_is other d = cc (sym e ∙ d)

      by : (b : Bool) → Stands_at last.branch ≡ b → Told (cond b None (Some 1))
      by true h =
          let so = tested.stands last.branch h in
          record {
            fits = λ o. record { stands = so.0; last = last; followed = e; as_many = so.1 };
            none = λ x. refl;
            line = λ n o. absurd (let c : ⊥ = cc o in c);
            only = only so.0 so.1;
          }
        where
          only : (t : Stands library f T) → last.branch ≡ length t.branches → (n : ℕ) → IsUnfitAt library V f T lines n → None ≡ Some n
          only t k n (whole stops) = absurd (stops t)
          only t k n (line u d) = absurd (let o : ⊥ = cc (sym e ∙ d) in o)
          only t k n (too_many {last = other} stops d) = absurd (stops t (ap (λ z. z.branch) (sym (last_is other d)) ∙ k))
      by false h = record {
        fits = λ o. absurd (let c : ⊥ = cc o in c);
        none = λ x. absurd (other_count x.stands (ap (λ z. z.branch) (last_is x.last x.followed) ∙ x.as_many));
        line = λ n o. (let same_line : 1 ≡ n = cc o in subst (IsUnfitAt library V f T lines) same_line (too_many other_count e));
        only = only;
      }
        where
          other_count : (t : Stands library f T) → last.branch ≡ length t.branches → ⊥
          other_count t k = not_both (ap Stands_at k ∙ tested.passes t) h

          only : (n : ℕ) → IsUnfitAt library V f T lines n → Some 1 ≡ Some n
          only n (whole stops) = refl
          only n (line u d) = absurd (let o : ⊥ = cc (sym e ∙ d) in o)
          only n (too_many stops d) = refl

  by_answer : Stands library f T → (a : Answer) → followed ≡ a → Ends a → Told (told Stands_at lines a)
  unfolding told
  by_answer s (Unmet left) e ends = not_found s left e
  by_answer s (Found last c ls) e ends = all_found s last (e ∙ ap (λ z. Found last z ls) ends.0 ∙ ap (Found last []) ends.1)

  pub is_told : Told (unfit_line same library V f T lines)
  is_told = by (some_up_to Stands_at (length T.procs)) refl
    where
      by : (b : Bool) → some_up_to Stands_at (length T.procs) ≡ b → Told (cond b (told Stands_at lines followed) (Some 1))
      by true e =
          let m = some_passes Stands_at (length T.procs) e in
          by_answer (tested.stands m.0 m.1).0 followed refl (whole_ends (of_program V T) f lines)
      by false e = first_line (stands_not e)

pub line_is_told : LineIsTold
line_is_told = record { tested = is_tested; told = is_told }
