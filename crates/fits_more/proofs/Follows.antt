-- Binds, procedures and whole specifications are followed as far where more procedures are found.
use Rattle.std.specs.Prelude.{◌≡◌, ℕ, suc, ◌+◌, length, List, [], ◌∷◌, codes}
use Rattle.target_code.specs.declared.tree.InParam.{InParam}
use Rattle.target_code.specs.declared.tree.Proc.{Proc}
use Rattle.target_code.specs.declared.tree.Rep.{Rep}
use Rattle.nres_core.specs.FlatTree as t
use Rattle.nres_core.specs.FlatTree.{Binds, Flats, FlatProc, FlatWhole, bound_in}
use Rattle.fits.specs.Places.{State}
use Rattle.fits.specs.Follow.{Line, Walk, Views, fit, proc_name}
use Rattle.rule_check.specs.Check.{owed}
use Rattle.rule_check.specs.Steps.{slices_are}
use Rattle.rule_check.specs.Use.{block_used, without}
use Rattle.fits.specs.Programs.{begin_state, follow_proc, follow_from, follow_whole}
use Rattle.fits_more.specs.More.{of_procs, FindsAll, MoreFollow}
use Rattle.fits_more.proofs.Less.{Less, LessWalk, same, then_less, need_less, some_less, find_less, last_less}
use Rattle.fits_more.proofs.Steps.{block_less, calc_less, apply_less, if_less, while_less, either_less, any_less, use_less, par_less, split_less}

module _ (V : Views) (more : List Proc) (finds : FindsAll more V.procs) where
  abbrev W : Views
  W = of_procs V more

  fit_less : (bs : Binds) (R : ℕ) → LessWalk (fit R V bs) (fit R W bs)
  fit_less t.No_bind R s c ls = same _
  fit_less (t.Calc_to p to w x y rest) R s c ls = calc_less V more finds R (fit R V rest) (fit R W rest) (fit_less rest R) s c ls p to w x y
  fit_less (t.Apply_to p to op made us rest) R s c ls = apply_less V more finds R (fit R V rest) (fit R W rest) (fit_less rest R) s c ls p to op made us
  fit_less (t.Assert p inner x rest) R s c ls = need_less _ ls _ _ (fit_less rest R _ _ _)
  fit_less (t.If p to x l le r re rest) R s c ls =
      if_less V more finds R (fit R V l) (fit R W l) (fit_less l R) (fit R V r) (fit R W r) (fit_less r R) (fit R V rest) (fit R W rest) (fit_less rest R) s c ls p to x le re
  fit_less (t.While p to xs us cs x b be rest) R s c ls =
      while_less V more finds R (fit R V cs) (fit R W cs) (fit_less cs R) (fit R V b) (fit R W b) (fit_less b R) (fit R V rest) (fit R W rest) (fit_less rest R) s c ls p to xs us cs x b be
  fit_less (t.Par p to l le r re rest) R s c ls =
      par_less V more finds R (λ q. fit q V l) (λ q. fit q W l) (fit_less l) (λ q. fit q V r) (λ q. fit q W r) (fit_less r) (fit R V rest) (fit R W rest) (fit_less rest R) s c ls p to le (block_used l le) re (block_used r re)
  fit_less (t.Split p to list at i l le j r re rest) R s c ls =
      split_less V more finds R (λ q. fit q V l) (λ q. fit q W l) (fit_less l) (λ q. fit q V r) (λ q. fit q W r) (fit_less r) (fit R V rest) (fit R W rest) (fit_less rest R) s c ls p to list at i le (without list (block_used l le)) j re (without list (block_used r re))
  fit_less (t.Either p to l le r re rest) R s c ls =
      either_less V more finds R (fit R V l) (fit R W l) (fit_less l R) (fit R V r) (fit R W r) (fit_less r R) (fit R V rest) (fit R W rest) (fit_less rest R) s c ls to le re
  fit_less (t.Any p to x y rest) R s c ls = any_less V more finds R (fit R V rest) (fit R W rest) (fit_less rest R) s c ls to x y
  fit_less (t.Call p to g us rest) R s c ls = use_less V more finds R (fit R V rest) (fit R W rest) (fit_less rest R) s c ls p to g us

  proc_less : (k n : ℕ) (params : List InParam) (shown : List Rep) (b : Flats) (q : Proc) (lines : List Line) → Less (follow_proc V k n params shown b q lines) (follow_proc W k n params shown b q lines)
  proc_less k n params shown b q lines =
      need_less _ lines _ _ (then_less _ _ _ _ (block_less V more finds q.regs (fit q.regs V b.binds) (fit q.regs W b.binds) (fit_less b.binds q.regs) 0 (k + length params) (slices_are (owed k params) shown) b.ending q.ret (begin_state k n params) q.code.list lines) (λ s c ls.
      some_less _ ls _ _ (λ infos. need_less _ ls _ _ (same _))))

  from_less : (g k : ℕ) (ps : List FlatProc) (s : State) (lines : List Line) → Less (follow_from V g k ps s lines) (follow_from W g k ps s lines)
  from_less g k [] s lines = last_less lines _ _ (same _)
  from_less g k (p ∷ ps) s lines =
      find_less V.procs more finds (proc_name g) lines _ _ (λ q. then_less _ _ _ _ (proc_less k s.branch p.params p.shown p.body q lines) (λ s1 c ls.
      from_less (suc g) (k + length p.params + bound_in p.body.binds) ps s1 ls))

  whole_less : (f : FlatWhole) (lines : List Line) → Less (follow_whole V f lines) (follow_whole W f lines)
  whole_less f lines =
      find_less V.procs more finds (codes "main") lines _ _ (λ q. then_less _ _ _ _ (proc_less 0 0 f.params f.shown f.body q lines) (λ s c ls.
      from_less 0 (length f.params + bound_in f.body.binds) f.procs s ls))

pub more_follow : MoreFollow
more_follow V more finds f lines last code left e = (whole_less V more finds f lines).found last code left e
