-- A program that fits a specification is sound, and bounded.
use Rattle.std.proofs.Common.{◌≡◌, ℕ, ◌+◌, ◌-◌, List, [], refl, sym, ap, ◌∙◌, subst, arith}
use Rattle.std.specs.Prelude.{Some, codes}
use Rattle.flat_paths.specs.Paths.{Excess, Fault, Halts, Lives, Placed, calls_of, main_vars, text_at}
use Rattle.nres_core.specs.FlatTree.{Binds, FlatWhole, flat_whole_of}
use Rattle.nres_core.specs.declared.value.Value.{Value}
use Rattle.nres_meaning.specs.FlatMeaning.{after_main}
use Rattle.target_code.specs.declared.tree.InParam.{InParam}
use Rattle.target_code.specs.declared.tree.Proc.{Proc}
use Rattle.target_code.specs.declared.tree.Rep.{Rep}
use Rattle.target_meaning.specs.Leaf.{Run, begin, find}
use Rattle.triple_logic.specs.Laws.{End_fact}
use Rattle.triple_logic.specs.Safe.{at_end}
use Rattle.row_laws.specs.Rows.{Thing, pieces_of, values_of, words_of}
use Rattle.run_laws.specs.RunLaws.{Laws}
use Rattle.run_laws.proofs.AtMost.{at_most}
use Rattle.run_laws.proofs.BoundedLaws.{bounded_laws}
use Rattle.run_laws.proofs.SafeLaws.{safe_laws}
use Rattle.soundness.specs.Behaviour.{of_flat}
use Rattle.soundness.specs.Bound.{IsBoundedFor}
use Rattle.soundness.specs.Sound.{FlatSound}
use Rattle.soundness.specs.Start.{reps_of}
use Rattle.start_ends.specs.Things.{AllThings, Given, GivenBy, ProcEnd, ProgramBounded, ProgramSafe, kepts_of}
use Rattle.start_ends.proofs.Programs.{program_is_bounded, program_is_sound}
use Rattle.fits.specs.Places.{State}
use Rattle.fits.specs.Follow.{Line, OnFound}
use Rattle.fits.specs.Programs.{follow_from, follow_proc}
use Rattle.fits_sound.specs.FitsWhole.{FitsWhole}
use Rattle.fits_sound.specs.World.{World}
use Rattle.fits_sound.proofs.Bodies.{BodyEnd, body_runs, body_steps}
use Rattle.fits_sound.proofs.Found.{To, found_at, on_is, some_found, then_found}
use Rattle.fits_sound.proofs.Join.{le_same}
use Rattle.fits_sound.proofs.Recursion as rec
use Rattle.fits_sound.proofs.Recursion.{Fitting, fitting_at}

module _ (x : FitsWhole) where
  abbrev text : FlatWhole
  text = flat_whole_of x.text

  abbrev binds : Binds
  binds = text.body.binds

  abbrev k0 : ℕ
  k0 = after_main text

  abbrev T : List Proc
  T = x.program.procs

  -- `main`, and what was followed of it and of the procedures
  record Followed : Type 1 where
    main : Proc
    found : find T (codes "main") ≡ Some main
    K : To
    proc : OnFound (follow_proc x.views 0 0 text.params text.shown text.body main x.lines) K
    state : State
    lines : List Line
    K2 : To
    procs : OnFound (follow_from x.views 0 k0 text.procs state lines) K2

  followed : Followed
  followed =
      let a = some_found (find x.views.procs (codes "main")) x.lines _ _ (on_is _ x.last [] [] x.fits) in
      let b = found_at _ _ _ a.2 in
      record { main = a.0; found = ap (λ y. find y (codes "main")) (sym x.same) ∙ a.1; K = _; proc = then_found _ _ _ a.2; state = b.0; lines = b.2; K2 = _; procs = b.4 }

  abbrev main : Proc
  main = followed.main

  fit : (g : ℕ) (t : Placed) → text_at g text.procs k0 ≡ Some t → Fitting T x.views g t
  fit g t e = subst (λ n. Fitting T x.views n t) (none_first g) (fitting_at T x.views x.same text.procs 0 k0 followed.state followed.lines followed.K2 followed.procs g t e)
    where
      none_first : (a : ℕ) → 0 + a ≡ a
      none_first a = omega arith

  abbrev Callable : ℕ → Laws T → Type 0
  Callable limit L = rec.Callable T x.views x.same text.procs k0 x.sigs x.balanced fit limit L 0

  abbrev world : (limit : ℕ) (L : Laws T) → Callable limit L → World
  world limit L cs = rec.world T x.views x.same text.procs k0 x.sigs x.balanced fit limit L (x.rows L) 0 cs

  abbrev Ended : List Thing → End_fact
  Ended ts = ProcEnd (GivenBy text (values_of ts)) text.shown (kepts_of text.params) ts

  steps : (limit : ℕ) (L : Laws T) → Callable limit L → ℕ
  steps limit L cs = body_steps (world limit L cs) 0 0 text.params text.shown text.body main x.lines followed.K followed.proc 0

  runs : (limit : ℕ) (L : Laws T) (cs : Callable limit L) (ts : List Thing) → AllThings (reps_of text.params) ts → Given 0 (kepts_of text.params) ts → Lives (calls_of text 0) L.ends limit binds (main_vars text (values_of ts)) → (n : ℕ) → L.run at_end (Ended ts) n (steps limit L cs) 0 (pieces_of ts) (Run (begin main (words_of ts)) [])
  unfolding steps
  runs limit L cs ts all given lives n =
      L.weaker at_end (BodyEnd (world limit L cs) 0 text.params text.shown text.body ts) (Ended ts) n (steps limit L cs) 0 (pieces_of ts) (Run (begin main (words_of ts)) [])
      (λ vs q h hs d. record { outs = d.outs; related = d.related; whole = d.whole; words = d.words; piece = d.piece; gives = (d.turns, d.allowed) })
      (body_runs (world limit L cs) 0 0 text.params text.shown text.body main x.lines followed.K followed.proc 0 ts all given lives n)

  -- no path stops
  no_stop : (us : List Value) → ((n : ℕ) → Halts (calls_of text 0) n Fault binds (main_vars text us) → ⊥) → Lives (calls_of text 0) ⊥ 0 binds (main_vars text us)
  no_stop us nofail n Fault must halts = nofail n halts
  no_stop us nofail n Excess must halts = absurd must.0

  in_time : (us : List Value) (limit : ℕ) → ((n : ℕ) → Halts (calls_of text 0) n Fault binds (main_vars text us) → ⊥) → (Halts (calls_of text 0) limit Excess binds (main_vars text us) → ⊥) → Lives (calls_of text 0) (Unit {0}) limit binds (main_vars text us)
  in_time us limit nofail ends n Fault must halts = nofail n halts
  in_time us limit nofail ends n Excess must halts = ends (subst (λ y. Halts (calls_of text 0) y Excess binds (main_vars text us)) must.1 halts)

  abbrev callees_safe : (n : ℕ) → Callable 0 (at_most T n)
  callees_safe n = rec.safe_callees T x.views x.same text.procs k0 x.sigs x.balanced fit 0 x.rows n 0

  abbrev callees_bounded : (limit : ℕ) → Callable limit (bounded_laws T)
  callees_bounded limit = rec.bounded_callees T x.views x.same text.procs k0 x.sigs x.balanced fit limit x.rows (limit - 0) 0 refl

  safe : ProgramSafe main x.text x.program
  safe = at x.program.ins x.program.outs (sym x.ins) (sym x.outs)
    where
      at : (ins : List InParam) (outs : List Rep) → text.params ≡ ins → text.shown ≡ outs → (ts : List Thing) → AllThings (reps_of ins) ts → Given 0 (kepts_of ins) ts → ((n : ℕ) → Halts (calls_of text 0) n Fault binds (main_vars text (values_of ts)) → ⊥) → (n : ℕ) → (safe_laws T).run at_end (ProcEnd (GivenBy text (values_of ts)) outs (kepts_of ins) ts) n 0 0 (pieces_of ts) (Run (begin main (words_of ts)) [])
      at ins outs ei eo ts all given nofail n =
          subst (λ o. (safe_laws T).run at_end (ProcEnd (GivenBy text (values_of ts)) o (kepts_of ins) ts) n 0 0 (pieces_of ts) (Run (begin main (words_of ts)) [])) eo
          (subst (λ i. (safe_laws T).run at_end (ProcEnd (GivenBy text (values_of ts)) text.shown (kepts_of i) ts) n 0 0 (pieces_of ts) (Run (begin main (words_of ts)) [])) ei
          (runs 0 (at_most T n) (callees_safe n) ts (subst (λ i. AllThings (reps_of i) ts) (sym ei) all) (subst (λ i. Given 0 (kepts_of i) ts) (sym ei) given) (no_stop (values_of ts) nofail) n (le_same n)))

  bounded : ProgramBounded main x.text x.program
  bounded limit = (steps limit (bounded_laws T) (callees_bounded limit), at x.program.ins x.program.outs (sym x.ins) (sym x.outs))
    where
      at : (ins : List InParam) (outs : List Rep) → text.params ≡ ins → text.shown ≡ outs → (ts : List Thing) → AllThings (reps_of ins) ts → Given 0 (kepts_of ins) ts → ((n : ℕ) → Halts (calls_of text 0) n Fault binds (main_vars text (values_of ts)) → ⊥) → (Halts (calls_of text 0) limit Excess binds (main_vars text (values_of ts)) → ⊥) → (bounded_laws T).run at_end (ProcEnd (GivenBy text (values_of ts)) outs (kepts_of ins) ts) 0 (steps limit (bounded_laws T) (callees_bounded limit)) 0 (pieces_of ts) (Run (begin main (words_of ts)) [])
      at ins outs ei eo ts all given nofail ends =
          subst (λ o. (bounded_laws T).run at_end (ProcEnd (GivenBy text (values_of ts)) o (kepts_of ins) ts) 0 (steps limit (bounded_laws T) (callees_bounded limit)) 0 (pieces_of ts) (Run (begin main (words_of ts)) [])) eo
          (subst (λ i. (bounded_laws T).run at_end (ProcEnd (GivenBy text (values_of ts)) text.shown (kepts_of i) ts) 0 (steps limit (bounded_laws T) (callees_bounded limit)) 0 (pieces_of ts) (Run (begin main (words_of ts)) [])) ei
          (runs limit (bounded_laws T) (callees_bounded limit) ts (subst (λ i. AllThings (reps_of i) ts) (sym ei) all) (subst (λ i. Given 0 (kepts_of i) ts) (sym ei) given) (in_time (values_of ts) limit nofail ends) 0))

  pub is_sound : FlatSound x.text x.program
  is_sound = program_is_sound main x.text x.program followed.found safe

  pub is_bounded : IsBoundedFor (of_flat x.text) x.program
  is_bounded = program_is_bounded main x.text x.program followed.found bounded
