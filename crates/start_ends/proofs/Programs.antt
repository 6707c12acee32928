-- A program whose `main` was proved by the paths of the flat tree is sound for it, and its runs are bounded.
use Rattle.std.proofs.Common.{◌≡◌, ℕ, List, [], sym, subst}
use Rattle.std.specs.Prelude.{Some, codes}
use Rattle.flat_paths.proofs.Ties.{flat_allowed, flat_fails, flat_overruns}
use Rattle.nres_core.specs.FlatTree.{flat_whole_of}
use Rattle.nres_core.specs.declared.flat.Flat.{Flat}
use Rattle.target_code.specs.declared.tree.Proc.{Proc}
use Rattle.target_code.specs.declared.tree.Program.{Program}
use Rattle.target_meaning.specs.Leaf.{Run, begin, find}
use Rattle.target_meaning.specs.Machine.{Leaf}
use Rattle.target_meaning.specs.Piece.{Piece}
use Rattle.triple_logic.specs.Safe.{at_end}
use Rattle.triple_logic.proofs.BoundedRules.{weaker_bounded}
use Rattle.triple_logic.proofs.Par.{weaker}
use Rattle.soundness.specs.Behaviour.{of_flat}
use Rattle.soundness.specs.Bound.{IsBoundedFor}
use Rattle.soundness.specs.Sound.{FlatSound}
use Rattle.soundness.proofs.Bounds.{bounded_ends}
use Rattle.soundness.proofs.SafeEnds.{safe_is_sound, safe_from_main, bounded_from_main}
use Rattle.row_laws.specs.Rows.{Thing, values_of, words_of, pieces_of}
use Rattle.start_ends.specs.Things.{kepts_of, ProcEnd, MainSafe, MainBounded, GivenBy, ProgramSafe, ProgramBounded}
use Rattle.start_ends.proofs.Starts.{safe_from, bounded_from}

module _ (main : Proc) (f : Flat) (T : Program) where
  abbrev PathEnd : List Thing → List ℕ → Piece → Type 0
  PathEnd ts = ProcEnd (GivenBy (flat_whole_of f) (values_of ts)) T.outs (kepts_of T.ins) ts

  abbrev End : List Thing → List ℕ → Piece → Type 0
  End ts = ProcEnd ((of_flat f).allows (values_of ts)) T.outs (kepts_of T.ins) ts

  allowed_end : (ts : List Thing) (vs : List ℕ) (q : Piece) → PathEnd ts vs q → End ts vs q
  allowed_end ts vs q e = record {
    outs = e.outs;
    related = e.related;
    whole = e.whole;
    words = e.words;
    piece = e.piece;
    gives = subst (λ y. y) (sym (flat_allowed (flat_whole_of f) (values_of ts) (values_of e.outs))) e.gives;
  }

  pub main_is_safe : ProgramSafe main f T → MainSafe main (of_flat f) T
  main_is_safe safe ts all given nofail n =
      weaker T.procs at_end (PathEnd ts) (End ts) (λ vs q h hs e. allowed_end ts vs q e) n 0 (Leaf (pieces_of ts) (Run (begin main (words_of ts)) []))
      (safe ts all given (λ k halts. nofail (subst (λ y. y) (sym (flat_fails (flat_whole_of f) (values_of ts))) (k, halts))) n)

  pub main_is_bounded : ProgramBounded main f T → MainBounded main (of_flat f) T
  main_is_bounded bounded n =
      let b = bounded n in (
        b.0,
        λ ts all given ends.
            weaker_bounded T.procs at_end (PathEnd ts) (End ts) (λ vs q h hs e. allowed_end ts vs q e) b.0 0 (Leaf (pieces_of ts) (Run (begin main (words_of ts)) []))
            (b.1 ts all given
            (λ k halts. ends.0 (subst (λ y. y) (sym (flat_fails (flat_whole_of f) (values_of ts))) (k, halts)))
            (λ halts. ends.1 (subst (λ y. y) (sym (flat_overruns (flat_whole_of f) (values_of ts) n)) halts))),
      )

  pub program_is_sound : find T.procs (codes "main") ≡ Some main → ProgramSafe main f T → FlatSound f T
  program_is_sound found safe = safe_is_sound (of_flat f) T (safe_from_main (of_flat f) T main found (safe_from main (of_flat f) T (main_is_safe safe)))

  pub program_is_bounded : find T.procs (codes "main") ≡ Some main → ProgramBounded main f T → IsBoundedFor (of_flat f) T
  program_is_bounded found bounded = bounded_ends (of_flat f) T (bounded_from_main (of_flat f) T main found (bounded_from main (of_flat f) T (main_is_bounded bounded)))
