-- A specification and its procedures, one after another.
use Rattle.std.proofs.Common.{◌≡◌, ◌<◌, ◌≤◌, ◌+◌, ℕ, suc, Bool, true, false, ◌&&◌, List, [], ◌∷◌, length, drop, refl, sym, ap, ◌∙◌, subst, arith, get_or}
use Rattle.std.specs.Prelude.{Option, Some, None, Result, Ok, Err, codes}
use Rattle.fit_blocks.specs.declared.frame.Unmet.{Unmet}
use Rattle.fit_state.specs.Rests.{ViewsAre}
use Rattle.fit_state.specs.declared.view.Views.{Views}
use Rattle.fit_walk.proofs.SequentialLemmas.{procs_from}
use Rattle.fit_walk.specs.Bodies.{BodyIs, body_followed}
use Rattle.fit_walk.specs.Wholes.{FlatViews, WholeIs, main_followed, proc_followed}
use Rattle.fit_walk.specs.declared.body.Body.{Body}
use Rattle.fit_walk.specs.declared.body.Past.{Past}
use Rattle.fits.specs.Follow as f
use Rattle.fits.specs.Follow.{Line, Answer, Found, and_then, need, proc_name, with_some}
use Rattle.fits.specs.Places.{State}
use Rattle.fits.specs.Programs.{at_last, follow_from, follow_proc, follow_whole}
use Rattle.nres_core.specs.FlatTree.{FlatProc, FlatWhole, bound_in, flat_proc_of, flat_procs_of, flat_whole_of, flats_of}
use Rattle.nres_core.specs.declared.flat.Flat.{Flat}
use Rattle.nres_core.specs.declared.flat.FlatFun.{FlatFun}
use Rattle.proof_lines.specs.Lines.{lines_of}
use Rattle.proof_text.specs.declared.line.ProofLine.{ProofLine}
use Rattle.rule_check.specs.Check.{sigs_of}
use Rattle.target_code.specs.declared.tree.Proc.{Proc}
use Rattle.target_meaning.specs.Leaf.{find}

-- what is looked up
pub views_are : (fl : Flat) (procs : List Proc) (v : Views) (V : f.Views) → FlatViews (flat_whole_of fl) procs V → v.names.now ≡ fl.names → v.funs.now ≡ fl.funs → v.procs.now ≡ procs → ViewsAre v V
views_are fl procs v V h n g p = record { rows = h.rows; sigs = h.sigs ∙ ap (λ fs. sigs_of (flat_procs_of fs)) (sym g); names = h.names ∙ sym n; procs = h.procs ∙ sym p; library = h.library }

-- ---- a procedure that is found

module _ (V : f.Views) (name : List ℕ) (lines : List Line) (go : Proc → Answer) where
  pub none_found : find V.procs name ≡ None → with_some (find V.procs name) lines go ≡ f.Unmet lines
  unfolding with_some
  none_found e = ap (λ o. with_some o lines go) e

  pub one_found : (q : Proc) → find V.procs name ≡ Some q → with_some (find V.procs name) lines go ≡ go q
  unfolding with_some
  one_found q e = ap (λ o. with_some o lines go) e

-- the same answer
pub body_as : (a b : Answer) (r : Result Past Unmet) → a ≡ b → BodyIs b r → BodyIs a r
body_as a b r e h = subst (λ z. BodyIs z r) (sym e) h

pub whole_as : (a b : Answer) (r : Result ℕ Unmet) → a ≡ b → WholeIs b r → WholeIs a r
whole_as a b r e h = subst (λ z. WholeIs z r) (sym e) h

-- ---- procedures

-- those from the g-th on, behind a state
abbrev pub from_here : f.Views → ℕ → ℕ → List FlatProc → State → List Line → Answer
from_here = follow_from

module _ (V : f.Views) (g k : ℕ) (p : FlatProc) (ps : List FlatProc) (s : State) (lines : List Line) where
  abbrev others : State → List Line → Answer
  others s1 ls = follow_from V (suc g) (k + length p.params + bound_in p.body.binds) ps s1 ls

  from_first : follow_from V g k (p ∷ ps) s lines ≡ and_then (proc_followed V g k s.branch p lines) (λ s1 c ls. others s1 ls)
  unfolding with_some and_then
  from_first = by (find V.procs (proc_name g))
    where
      by : (o : Option Proc) → with_some o lines (λ q. and_then (follow_proc V k s.branch p.params p.shown p.body q lines) (λ s1 c ls. others s1 ls)) ≡ and_then (with_some o lines (λ q. follow_proc V k s.branch p.params p.shown p.body q lines)) (λ s1 c ls. others s1 ls)
      by None = refl
      by (Some q) = refl

  pub first_unmet : (m : Unmet) → BodyIs (proc_followed V g k s.branch p lines) (Err m) → follow_from V g k (p ∷ ps) s lines ≡ f.Unmet (lines_of m.lines.now)
  unfolding and_then
  first_unmet m e = from_first ∙ ap (λ a. and_then a (λ s1 c ls. others s1 ls)) e

  pub first_over : (past : Past) (h : BodyIs (proc_followed V g k s.branch p lines) (Ok past)) → follow_from V g k (p ∷ ps) s lines ≡ others h.last (lines_of past.lines.now)
  unfolding and_then
  first_over past h = from_first ∙ ap (λ a. and_then a (λ s1 c ls. others s1 ls)) h.found

-- so far: the procedures from the i-th on are left
pub record SoFar (V : f.Views) (k0 : ℕ) (fs : List FlatFun) (s0 : State) (lines : List Line) (i k : ℕ) (past : Past) : Type 0 where
  pub state : State
  pub on : follow_from V 0 k0 (flat_procs_of fs) s0 lines ≡ follow_from V i k (flat_procs_of (drop i fs)) state (lines_of past.lines.now)
  pub branch : past.branch ≡ state.branch

pub so_far_first : (V : f.Views) (k0 : ℕ) (fs : List FlatFun) (s0 : State) (past : Past) → past.branch ≡ s0.branch → SoFar V k0 fs s0 (lines_of past.lines.now) 0 k0 past
so_far_first V k0 fs s0 past e = record { state = s0; on = refl; branch = e }

module _ (V : f.Views) (k0 : ℕ) (fs : List FlatFun) (s0 : State) (lines : List Line) (i k : ℕ) (past : Past) (so : SoFar V k0 fs s0 lines i k past) (fn : FlatFun) (lt : i < length fs) (e : fn ≡ get_or fs i fn) where
  at_first : follow_from V 0 k0 (flat_procs_of fs) s0 lines ≡ follow_from V i k (flat_proc_of fn ∷ flat_procs_of (drop (i + 1) fs)) so.state (lines_of past.lines.now)
  at_first = so.on ∙ ap (λ ps. follow_from V i k ps so.state (lines_of past.lines.now)) (procs_from fs i fn lt e)

  followed_as : proc_followed V i k so.state.branch (flat_proc_of fn) (lines_of past.lines.now) ≡ proc_followed V i k past.branch (flat_proc_of fn) (lines_of past.lines.now)
  followed_as = ap (λ n. proc_followed V i k n (flat_proc_of fn) (lines_of past.lines.now)) (sym so.branch)

  pub so_far_unmet : (m : Unmet) → BodyIs (proc_followed V i k past.branch (flat_proc_of fn) (lines_of past.lines.now)) (Err m) → WholeIs (follow_from V 0 k0 (flat_procs_of fs) s0 lines) (Err m)
  so_far_unmet m h = at_first ∙ first_unmet V i k (flat_proc_of fn) (flat_procs_of (drop (i + 1) fs)) so.state (lines_of past.lines.now) m (followed_as ∙ h)

  pub so_far_next : (next : Past) (n : ℕ) → n ≡ k + length fn.params + bound_in (flats_of fn.body).binds → BodyIs (proc_followed V i k past.branch (flat_proc_of fn) (lines_of past.lines.now)) (Ok next) → SoFar V k0 fs s0 lines (i + 1) n next
  so_far_next next n q h =
      let h1 : BodyIs (proc_followed V i k so.state.branch (flat_proc_of fn) (lines_of past.lines.now)) (Ok next) = body_as _ _ (Ok next) followed_as h in
      record {
        state = h1.last;
        on = at_first ∙ first_over V i k (flat_proc_of fn) (flat_procs_of (drop (i + 1) fs)) so.state (lines_of past.lines.now) next h1
            ∙ (λ j. follow_from V (one i j) (sym q j) (flat_procs_of (drop (i + 1) fs)) h1.last (lines_of next.lines.now));
        branch = h1.branch;
      }
    where
      one : (n : ℕ) → suc n ≡ n + 1
      one n = omega arith

module _ (V : f.Views) (k0 : ℕ) (fs : List FlatFun) (s0 : State) (lines : List Line) (i k : ℕ) (past : Past) (so : SoFar V k0 fs s0 lines i k past) (all : drop i fs ≡ []) where
  at_end : follow_from V 0 k0 (flat_procs_of fs) s0 lines ≡ at_last (lines_of past.lines.now) (Found so.state [] [])
  at_end = so.on ∙ ap (λ z. follow_from V i k (flat_procs_of z) so.state (lines_of past.lines.now)) all

  pub all_found : lines_of past.lines.now ≡ [] → WholeIs (follow_from V 0 k0 (flat_procs_of fs) s0 lines) (Ok past.branch)
  unfolding at_last
  all_found e = record { last = so.state; found = at_end ∙ ap (λ ls. at_last ls (Found so.state [] [])) e; branch = so.branch }

  pub some_left : (m : Unmet) → m.lines.now ≡ past.lines.now → 1 ≤ length past.lines.now → WholeIs (follow_from V 0 k0 (flat_procs_of fs) s0 lines) (Err m)
  unfolding at_last
  some_left m e n = at_end ∙ by past.lines.now n ∙ ap (λ z. f.Unmet (lines_of z)) (sym e)
    where
      by : (ls : List ProofLine) → 1 ≤ length ls → at_last (lines_of ls) (Found so.state [] []) ≡ f.Unmet (lines_of ls)
      by [] n = absurd (let o : ⊥ = omega (arith, n) in o)
      by (l ∷ ls) n = refl

-- ---- the text

module _ (V : f.Views) (fl : Flat) (lines : List Line) where
  abbrev text : FlatWhole
  text = flat_whole_of fl

  abbrev behind_main : State → List Line → Answer
  behind_main s ls = follow_from V 0 (length text.params + bound_in text.body.binds) text.procs s ls

  whole_is : follow_whole V text lines ≡ and_then (main_followed V text lines) (λ s c ls. behind_main s ls)
  unfolding with_some and_then
  whole_is = by (find V.procs (codes "main"))
    where
      by : (o : Option Proc) → with_some o lines (λ q. and_then (follow_proc V 0 0 text.params text.shown text.body q lines) (λ s c ls. behind_main s ls)) ≡ and_then (with_some o lines (λ q. follow_proc V 0 0 text.params text.shown text.body q lines)) (λ s c ls. behind_main s ls)
      by None = refl
      by (Some q) = refl

  pub main_unmet : (m : Unmet) → BodyIs (main_followed V text lines) (Err m) → WholeIs (follow_whole V text lines) (Err m)
  unfolding and_then
  main_unmet m e = whole_is ∙ ap (λ a. and_then a (λ s c ls. behind_main s ls)) e

  pub main_over : (past : Past) (h : BodyIs (main_followed V text lines) (Ok past)) (k : ℕ) (funs : List FlatFun) (said : Result ℕ Unmet) → k ≡ length text.params + bound_in text.body.binds → funs ≡ fl.funs → WholeIs (follow_from V 0 k (flat_procs_of funs) h.last (lines_of past.lines.now)) said → WholeIs (follow_whole V text lines) said
  unfolding and_then
  main_over past h k funs said e g w =
      whole_as _ _ said (whole_is ∙ ap (λ a. and_then a (λ s c ls. behind_main s ls)) h.found ∙ (λ j. follow_from V 0 (sym e j) (flat_procs_of (sym g j)) h.last (lines_of past.lines.now))) w
