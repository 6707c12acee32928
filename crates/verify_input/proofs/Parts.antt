-- What the parts of an input are together.
use Rattle.std.proofs.Common.{◌≡◌, ℕ, List, Result, Ok, Err, IfOk, IfErr, refl, sym, ap, ◌∙◌, subst}
use Rattle.nres_core.specs.declared.tree.Spec.{Spec}
use Rattle.nres_core.specs.declared.tree.Typing.{Typing}
use Rattle.proof_text.specs.Parts.{spec_part, program_part, proof_part}
use Rattle.proof_text.specs.Readings.{IsReadAs}
use Rattle.target_code.specs.Formed.{Formed}
use Rattle.target_code.specs.declared.tree.Program.{Program}
use Rattle.target_lines.specs.Programs.{program_text}
use Rattle.target_text.specs.Refusals.{RefusedAt as LineRefused}
use Rattle.target_text.specs.declared.refusal.NotProgram.{NotProgram}
use Rattle.target_text.specs.declared.refusal.NotProgram.TheVariants as malformed
use Rattle.verify_input.specs.Verifications.{IsTypedAs, IsTyped, IsVerification, IsUnreadOrMemory, NoProgramAt, unread}
use Rattle.verify_input.specs.declared.reading.Unverified.{Unverified}
use Rattle.verify_input.specs.declared.reading.Unverified.TheVariants as un
use Rattle.verify_input.specs.declared.reading.Verification.{Verification}

-- ---- the program and the derivation

pub of_unread : (part : List ℕ) (r : NotProgram) → ((k : ℕ) → r ≡ malformed.Line k → LineRefused part k) → (k : ℕ) → unread r ≡ un.NotProgram k → LineRefused part k
of_unread part (malformed.Line j) h k e = let same : j ≡ k = cc e in subst (LineRefused part) same (h j refl)
of_unread part malformed.Memory h k e = absurd (let o : ⊥ = cc e in o)

pub unread_is : (r : NotProgram) (e : Unverified) → e ≡ unread r → IsUnreadOrMemory e
unread_is (malformed.Line j) e h = subst IsUnreadOrMemory (sym h) tt
unread_is malformed.Memory e h = subst IsUnreadOrMemory (sym h) tt

module _ (s : Spec) (t : Typing) (part : List ℕ) where
  pub with_text : (p : List ℕ) (T : Program) → Formed T → p ≡ program_text T → (r : Result Verification Unverified)
      → IfOk r (λ x. (x.spec ≡ s) × (x.typing ≡ t) × (x.program ≡ T) × IsReadAs part x.proof)
      → IfOk r (λ x. (x.spec ≡ s) × (x.typing ≡ t) × Formed x.program × (p ≡ program_text x.program) × IsReadAs part x.proof)
  with_text p T f e (Ok x) h = (h.0, h.1, subst Formed (sym h.2) f, e ∙ ap program_text (sym h.2), h.3)
  with_text p T f e (Err y) h = tt

pub not_of_memory : (r : Result Verification Unverified) (k : ℕ) → IfErr r (λ e. e ≡ un.Memory) → r ≡ Err (un.NotProgram k) → ⊥
not_of_memory (Ok x) k h e = let o : ⊥ = cc e in o
not_of_memory (Err y) k h e = let f : y ≡ un.NotProgram k = cc e in let g : un.Memory ≡ un.NotProgram k = sym h ∙ f in let o : ⊥ = cc g in o

pub memory_is : (r : Result Verification Unverified) → IfErr r (λ e. e ≡ un.Memory) → IfErr r (λ e. IsUnreadOrMemory e)
memory_is (Ok x) h = tt
memory_is (Err y) h = subst IsUnreadOrMemory (sym h) tt

-- ---- whole inputs

module _ (text s p d : List ℕ) (is_s : s ≡ spec_part text) (is_p : p ≡ program_part text) (is_d : d ≡ proof_part text) (spec : Spec) (typing : Typing) (typed : IsTypedAs s spec typing) where
  pub whole_is : (r : Result Verification Unverified)
      → IfOk r (λ x. (x.spec ≡ spec) × (x.typing ≡ typing) × Formed x.program × (p ≡ program_text x.program) × IsReadAs d x.proof) → IfOk r (λ x. IsVerification text x)
  whole_is (Ok x) h = record {
    spec = subst (λ z. IsTypedAs z x.spec x.typing) is_s (subst (λ z. IsTypedAs s z x.typing) (sym h.0) (subst (λ z. IsTypedAs s spec z) (sym h.1) typed));
    formed = h.2;
    is_text = sym is_p ∙ h.3;
    proof = subst (λ z. IsReadAs z x.proof) is_d h.4;
  }
  whole_is (Err y) h = tt

  pub no_program_is : (k : ℕ) → LineRefused p k → NoProgramAt text k
  no_program_is k h = record {
    typed = subst IsTyped is_s (record { spec = spec; withs = typed.withs; reads = typed.reads; typed = typed.typed.nothing_refused });
    refused = subst (λ z. LineRefused z k) is_p h;
  }

pub others_are : (r : Result Verification Unverified) (e : Unverified) → IfErr r (λ x. IsUnreadOrMemory x) → r ≡ Err e → IsUnreadOrMemory e
others_are (Ok x) e h q = absurd (let o : ⊥ = cc q in o)
others_are (Err y) e h q = let same : y ≡ e = cc q in subst IsUnreadOrMemory same h
