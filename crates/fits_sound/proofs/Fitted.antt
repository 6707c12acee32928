-- Code that fits is safe, and bounded: both instances of the theorem.
use Rattle.std.proofs.Common.{◌≡◌, ℕ, ◌+◌, ◌-◌, List, [], subst, sym, refl, arith}
use Rattle.std.specs.Prelude.{Some}
use Rattle.flat_paths.specs.Paths.{Lives, Placed, text_at}
use Rattle.target_code.specs.declared.tree.Proc.{Proc}
use Rattle.target_meaning.specs.Leaf.{do_all}
use Rattle.target_meaning.specs.Piece.{Piece}
use Rattle.triple_logic.specs.Laws.{End_fact, at_code}
use Rattle.triple_logic.specs.Safe.{at_code_end}
use Rattle.run_laws.specs.RunLaws.{Laws}
use Rattle.run_laws.proofs.AtMost.{at_most}
use Rattle.run_laws.proofs.BoundedLaws.{bounded_laws}
use Rattle.fits.specs.Places.{Entry}
use Rattle.fits_sound.specs.Fitted.{Comes, Fitted, IsSafe, IsBounded, calls_in}
use Rattle.fits_sound.specs.Meant.{Dyn, Inv}
use Rattle.fits_sound.specs.World.{World}
use Rattle.fits_sound.proofs.Found.{To, on_is}
use Rattle.fits_sound.proofs.Join.{le_same}
use Rattle.fits_sound.proofs.Recursion as rec
use Rattle.fits_sound.proofs.Recursion.{Fitting, fitting_at}
use Rattle.fits_sound.proofs.Sound.{Met}
use Rattle.fits_sound.proofs.Whole.{sound}

module _ (x : Fitted) where
  abbrev T : List Proc
  T = x.procs

  fit : (g : ℕ) (t : Placed) → text_at g x.texts x.from ≡ Some t → Fitting T x.views g t
  fit g t e = subst (λ n. Fitting T x.views n t) (none_first g) (fitting_at T x.views x.same x.texts 0 x.from x.begun x.all_lines _ (on_is _ x.ended [] [] x.all_fit) g t e)
    where
      none_first : (a : ℕ) → 0 + a ≡ a
      none_first a = omega arith

  abbrev Callable : ℕ → Laws T → Type 0
  Callable limit L = rec.Callable T x.views x.same x.texts x.from x.sigs x.balanced fit limit L x.under

  -- all that the proof goes by, for some laws of runs and some limit on turns
  abbrev world : (limit : ℕ) (L : Laws T) → Callable limit L → World
  world limit L cs = rec.world T x.views x.same x.texts x.from x.sigs x.balanced fit limit L (x.rows L) x.under cs

  abbrev Last : To
  Last s c ls = (s ≡ x.last) × (c ≡ []) × (ls ≡ x.left)

  met : (limit : ℕ) (L : Laws T) (cs : Callable limit L) (f : ℕ) → Met (world limit L cs) x.regs x.proc f x.binds x.first x.code Last
  met limit L cs f = sound (world limit L cs) x.binds x.regs x.proc f x.first x.code x.lines Last (on_is _ x.last [] x.left x.fits)

  by : (limit : ℕ) (L : Laws T) (cs : Callable limit L) (f n line mark : ℕ) (base : List Entry) (D0 D : Dyn) (regs : List ℕ) (p : Piece) → Inv x.regs f mark base D0 x.first D regs p → Lives (calls_in x) L.ends limit x.binds D.value → L.run at_code_end (Comes (calls_in x) x.regs f mark base D0 x.binds D.value x.last) n ((met limit L cs f).steps 0) f p (at_code x.proc (do_all line x.code) regs)
  by limit L cs f n line mark base D0 D regs p inv lives =
      M.run line mark base D0 D regs p inv lives Q n 0
      (λ m le D1 regs1 p1 inv1 N within path.
      subst (λ c. L.run at_code_end Q m 0 f p1 (at_code x.proc (do_all (M.past line) c) regs1)) (sym M.found.1)
      (L.over at_code_end Q m 0 f p1 (at_code x.proc [] regs1) regs1 refl (record {
        now = D1;
        known = subst (λ s. Inv x.regs f mark base D0 s D1 regs1 p1) M.found.0 inv1;
        turns = N;
        path = path;
      })))
    where
      M : Met (world limit L cs) x.regs x.proc f x.binds x.first x.code Last
      M = met limit L cs f

      Q : End_fact
      Q = Comes (calls_in x) x.regs f mark base D0 x.binds D.value x.last

  abbrev callees_safe : (n : ℕ) → Callable 0 (at_most T n)
  callees_safe n = rec.safe_callees T x.views x.same x.texts x.from x.sigs x.balanced fit 0 x.rows n x.under

  abbrev callees_bounded : (limit : ℕ) → Callable limit (bounded_laws T)
  callees_bounded limit = rec.bounded_callees T x.views x.same x.texts x.from x.sigs x.balanced fit limit x.rows (limit - x.under) x.under refl

  pub is_safe : IsSafe x
  is_safe n f line mark base D0 D regs p inv lives = by 0 (at_most T n) (callees_safe n) f n line mark base D0 D regs p inv lives (le_same n)

  pub is_bounded : IsBounded x
  is_bounded limit f = ((met limit (bounded_laws T) (callees_bounded limit) f).steps 0, λ line mark base D0 D regs p inv lives. by limit (bounded_laws T) (callees_bounded limit) f 0 line mark base D0 D regs p inv lives)
