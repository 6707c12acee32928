-- What a procedure of the text has to do where it is called.
use Rattle.std.specs.Prelude.{◌≡◌, ℕ, ◌&&◌, not, cond, List, [], ◌∷◌, Some}
use Rattle.flat_paths.specs.Paths.{Stop, Calls, MustNot, IsWithin, may, never, only}
use Rattle.nres_core.specs.declared.value.Value.{Value}
use Rattle.target_code.specs.declared.tree.InParam.{InParam}
use Rattle.target_code.specs.declared.tree.Proc.{Proc}
use Rattle.target_code.specs.declared.tree.Rep.{Rep}
use Rattle.target_meaning.specs.Leaf.{Run, begin, find}
use Rattle.target_meaning.specs.Piece.{Piece, plus}
use Rattle.triple_logic.specs.Safe.{at_end}
use Rattle.row_laws.specs.Rows.{Thing, values_of, words_of, pieces_of}
use Rattle.soundness.specs.Start.{reps_of}
use Rattle.run_laws.specs.RunLaws.{Laws}
use Rattle.rule_check.specs.Context.{is_slice}
use Rattle.rule_check.specs.Steps.{Sig, sig_at}
use Rattle.start_ends.specs.Things.{AllThings, Wholes, Given, kept_things, kepts_of}
use Rattle.fits.specs.Follow.{proc_name}

-- the words of the slices among results, in order
abbrev pub given_slices : List Rep → List Thing → List (List ℕ)
given_slices [] ts = []
given_slices (y ∷ ys) [] = []
given_slices (y ∷ ys) (t ∷ ts) = cond (is_slice y) (t.words ∷ given_slices ys ts) (given_slices ys ts)

-- and of those that are taken over
abbrev pub taken_slices : List InParam → List Thing → List (List ℕ)
taken_slices [] ts = []
taken_slices (y ∷ ys) [] = []
taken_slices (y ∷ ys) (t ∷ ts) = cond (is_slice y.rep && not y.kept) (t.words ∷ taken_slices ys ts) (taken_slices ys ts)

-- the end of a procedure: values that may come in so many turns, what is kept, share for share, and nothing else; the slices that were taken over come back
pub record CallEnd (ends : Type 0) (limit : ℕ) (may_come : ℕ → List Value → Type 0) (params : List InParam) (shown : List Rep) (things : List Thing) (vs : List ℕ) (q : Piece) : Type 0 where
  pub outs : List Thing
  pub related : AllThings shown outs
  pub whole : Wholes outs
  pub words : vs ≡ words_of outs
  pub slices : given_slices shown outs ≡ taken_slices params things
  pub piece : q ≡ plus (pieces_of (kept_things (kepts_of params) things)) (pieces_of outs)
  pub turns : ℕ
  pub within : IsWithin ends limit turns
  pub came : may_come turns (values_of outs)

-- a procedure of the text may be called: where its call does not stop, it comes to what the call may come to, below any number of forks in a number of steps that
-- no value decides
pub record Callee (T : List Proc) (L : Laws T) (limit : ℕ) (calls : ℕ → Calls) (g : ℕ) (sig : Sig) : Type 0 where
  pub proc : Proc
  pub found : find T (proc_name g) ≡ Some proc
  pub steps : ℕ → ℕ
  pub run : (n k f : ℕ) → L.under k n → (things : List Thing) → AllThings (reps_of sig.params) things → Given f (kepts_of sig.params) things →
      ((N : ℕ) (z : Stop) → MustNot L.ends limit N z → may (calls N g (values_of things)) (λ us. ⊥) (only z) → ⊥) →
      L.run at_end (CallEnd L.ends limit (λ N us. may (calls N g (values_of things)) (λ ws. ws ≡ us) never) sig.params sig.outs things) k (steps f) f (pieces_of things) (Run (begin proc (words_of things)) [])

-- the procedures of a list of signatures may be called
abbrev pub Callees : (T : List Proc) → Laws T → ℕ → (ℕ → Calls) → List Sig → Type 0
Callees T L limit calls sigs = (g : ℕ) (sig : Sig) → sig_at sigs g ≡ Some sig → Callee T L limit calls g sig
