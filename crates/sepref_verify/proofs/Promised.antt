-- What is said of an input's trees is said of its text.
use Rattle.std.proofs.Common.{◌≡◌, ℕ, Bool, true, false, List, Option, Some, None, Result, Ok, Err, IfOk, refl, subst, sym, ◌∙◌}
use Rattle.std.specs.declared.alloc.AllocError.{AllocError}
use Rattle.nres_core.specs.FlatTree.{flat_whole_of}
use Rattle.nres_core.specs.declared.flat.Flat.{Flat}
use Rattle.nres_core.specs.declared.place.Place.{Place}
use Rattle.nres_rules.specs.Identify.{IsFlatOf}
use Rattle.nres_types.specs.declared.refusal.TypeRefusal.{TypeRefusal}
use Rattle.proof_check.specs.Verdict.{IsVerdictOf}
use Rattle.fits_promise.specs.Promise.{FitsTyped}
use Rattle.fits_promise.proofs.Promise.{shape, sound, bounded}
use Rattle.proof_lines.specs.Lines.{lines_of}
use Rattle.proof_text.specs.Parts.{spec_part}
use Rattle.proof_text.specs.declared.line.ProofLine.{ProofLine}
use Rattle.sequential.specs.Sequential.{sequential_whole}
use Rattle.verify_input.specs.Verifications.{IsUntyped, IsVerification, NoProgramAt, StopsAt, StopsDeep}
use Rattle.verify_input.specs.declared.reading.Unverified.{Unverified}
use Rattle.verify_input.specs.declared.reading.Unverified.TheVariants as un
use Rattle.verify_input.specs.declared.reading.Verification.{Verification}
use Rattle.sepref_verify.specs.Saying.{FitsFor, HasParts, IsCheckedAs, Refuted, Says, SaysUnverified, UnfitFor, Unserved, UnservedFor, Verified, verdict_of}
use Rattle.sepref_verify.specs.declared.saying.Verdict.{Verdict}
use Rattle.sepref_verify.specs.declared.saying.Verdict.TheVariants as verdict

module _ (text : List ℕ) (x : Verification) (is : IsVerification text x) where
  verified : FitsFor x → Verified text
  verified h =
      let t : FitsTyped = record {
        text = spec_part text;
        spec = x.spec;
        withs = is.spec.withs;
        reads = is.spec.reads;
        flat = h.flat;
        flat_is = h.flat_is;
        program = x.program;
        lines = lines_of x.proof.lines;
        fits = h.fits;
      } in
      record {
        parts = record {
          spec = x.spec;
          withs = is.spec.withs;
          reads = is.spec.reads;
          flat = h.flat;
          flat_is = h.flat_is;
          program = x.program;
          formed = is.formed;
          is_text = is.is_text;
          proof = x.proof;
          proof_is = is.proof;
        };
        served = h.served;
        fits = h.fits;
        shape = shape t;
        sound = sound t;
        bounded = bounded t;
      }

  refuted : (n : ℕ) → UnfitFor x n → Refuted text n
  refuted n h = record {
    parts = record {
      spec = x.spec;
      withs = is.spec.withs;
      reads = is.spec.reads;
      flat = h.flat;
      flat_is = h.flat_is;
      program = x.program;
      formed = is.formed;
      is_text = is.is_text;
      proof = x.proof;
      proof_is = is.proof;
    };
    served = h.served;
    unfit = h.unfit;
  }

  unserved : UnservedFor x → Unserved text
  unserved h = record {
    parts = record {
      spec = x.spec;
      withs = is.spec.withs;
      reads = is.spec.reads;
      flat = h.flat;
      flat_is = h.flat_is;
      program = x.program;
      formed = is.formed;
      is_text = is.is_text;
      proof = x.proof;
      proof_is = is.proof;
    };
    branches = h.branches;
  }

  pub said : (v : Verdict) → IsCheckedAs x v → Says text v
  said verdict.Fits h = verified h
  said (verdict.NoProof n) h = refuted n h
  said verdict.NotYet h = unserved h
  said (verdict.Syntax q) h = absurd h
  said (verdict.TooDeep q) h = absurd h
  said (verdict.Untyped r) h = absurd h
  said (verdict.NotProgram k) h = absurd h

-- ---- of the flat tree of an input

module _ (x : Verification) (flat : Flat) (flat_is : IsFlatOf x.spec (flat_whole_of flat)) where
  pub unserved_for : (b : Bool) → b ≡ sequential_whole (flat_whole_of flat) → b ≡ false → UnservedFor x
  unserved_for b e f = record { flat = flat; flat_is = flat_is; branches = sym e ∙ f }

  module _ (served : sequential_whole (flat_whole_of flat) ≡ true) where
    by_said : (said : Option ℕ) → IsVerdictOf (flat_whole_of flat) x.program x.proof.lines said → IsCheckedAs x (verdict_of said)
    by_said None v = record { flat = flat; flat_is = flat_is; served = served; fits = v.fits refl }
    by_said (Some n) v = record { flat = flat; flat_is = flat_is; served = served; unfit = v.line n refl }

    pub checked : (lines : List ProofLine) → lines ≡ x.proof.lines → (said : Option ℕ) → IsVerdictOf (flat_whole_of flat) x.program lines said → (w : Verdict) → w ≡ verdict_of said → IsCheckedAs x w
    checked lines l said v w e = subst (IsCheckedAs x) (sym e) (by_said said (subst (λ ls. IsVerdictOf (flat_whole_of flat) x.program ls said) l v))

-- ---- of the answer

pub of_input : (text : List ℕ) (x : Verification) → IsVerification text x → (r : Result Verdict AllocError) → IfOk r (λ v. IsCheckedAs x v) → IfOk r (λ v. Says text v)
of_input text x is (Ok v) h = said text x is v h
of_input text x is (Err e) h = tt

module _ (text : List ℕ) (why : Unverified) (syntax_at : (q : Place) → why ≡ un.Syntax q → StopsAt (spec_part text) q) (deep : (q : Place) → why ≡ un.TooDeep q → StopsDeep (spec_part text) q)
    (untyped : (r : TypeRefusal) → why ≡ un.Untyped r → IsUntyped (spec_part text) r) (not_program : (k : ℕ) → why ≡ un.NotProgram k → NoProgramAt text k) where
  by_cause : (w : Unverified) → why ≡ w → (v : Verdict) → SaysUnverified w v → Says text v
  by_cause (un.Syntax q) e v h = subst (Says text) (sym h) (syntax_at q e)
  by_cause (un.TooDeep q) e v h = subst (Says text) (sym h) (deep q e)
  by_cause (un.Untyped r) e v h = subst (Says text) (sym h) (untyped r e)
  by_cause (un.NotProgram k) e v h = subst (Says text) (sym h) (not_program k e)
  by_cause un.Memory e v h = absurd h

  pub of_none : (r : Result Verdict AllocError) → IfOk r (λ v. SaysUnverified why v) → IfOk r (λ v. Says text v)
  of_none (Ok v) h = by_cause why refl v h
  of_none (Err x) h = tt
