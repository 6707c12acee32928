-- What is said of a text of a specification, a program and a derivation is told, whatever the text.
use Rattle.std.proofs.Common.{◌≡◌, ◌≢◌, ◌⊎◌, inl, inr, ℕ, Bool, true, false, List, Option, Some, None, Result, Ok, Err, IfOk, refl, ap, ◌∙◌, sym, subst}
use Rattle.std.specs.declared.alloc.AllocError.{AllocError}
use Rattle.fits_shape.proofs.Shapes.{unfit_do_not_fit}
use Rattle.fits_text.specs.FitsText.{text_views}
use Rattle.nres_core.specs.FlatTree.{FlatWhole, flat_whole_of}
use Rattle.nres_core.specs.declared.tree.Spec.{Spec}
use Rattle.nres_core.specs.declared.tree.With.{With}
use Rattle.nres_rules.specs.Identify.{IsFlatOf}
use Rattle.nres_rules.specs.Types.{Wrong, refusal_of}
use Rattle.nres_types.specs.Wholes.{IsTold}
use Rattle.nres_types.specs.declared.refusal.TypeRefusal.{TypeRefusal}
use Rattle.nres_types.specs.declared.refusal.TypeRefusal.TheVariants as e
use Rattle.proof_lines.specs.Lines.{lines_of}
use Rattle.proof_text.proofs.OneReading.{one_reading}
use Rattle.proof_text.specs.Parts.{proof_part, spec_part}
use Rattle.proof_text.specs.declared.line.Proof.{Proof}
use Rattle.rule_table.specs.Library.{library}
use Rattle.sequential.specs.Sequential.{sequential_whole}
use Rattle.sepref_verify.specs.Saying.{FitsBy, HasParts, IsUnfitBy, Refuted, Says, Verified}
use Rattle.sepref_verify.specs.declared.saying.Verdict.{Verdict}
use Rattle.sepref_verify.specs.declared.saying.Verdict.TheVariants as verdict
use Rattle.target_code.specs.declared.tree.Program.{Program}
use Rattle.target_text.proofs.SameTexts.{same_text}
use Rattle.verify_input.specs.Verifications.{IsNone, IsTyped, IsUntyped, NoProgramAt}
use Rattle.sepref_top.specs.Answers.{Answered}
use Rattle.sepref_top.specs.Statuses.{HasFailed, TellsPlace, TellsText, TellsUnfit}
use Rattle.sepref_top.specs.Texts.{bytes_of}
use Rattle.sepref_top.specs.Verifications.{AnswersVerification, FitsAs, TellsVerdict, ToldVerification, is_served}
use Rattle.sepref_top.specs.declared.answer.Answer.{Answer}
use Rattle.sepref_top.specs.declared.status.Status.{Status}
use Rattle.sepref_top.specs.declared.status.Status.TheVariants as status
use Rattle.sepref_top.proofs.OneFlat.{one_flat}
use Rattle.sepref_top.proofs.OneSpec.{one_tree}

-- ---- the answer for a verdict

of_verdict : (text : List ℕ) (v : Verdict) (s : Status) (output : List ℕ) → Says text v → TellsVerdict v s output → TellsText s × AnswersVerification text s output
of_verdict text verdict.Fits s output h t = subst (λ x. TellsText x × AnswersVerification text x output) (sym t.0) (tt, record { verified = h; written = t.1 })
of_verdict text (verdict.NoProof n) s output h t = subst (λ x. TellsText x × AnswersVerification text x output) (sym t.0) (tt, record { refuted = h; written = t.1 })
of_verdict text verdict.NotYet s output h t = subst (λ x. TellsText x × AnswersVerification text x output) (sym t.0) (tt, record { unserved = h; written = t.1 })
of_verdict text (verdict.Syntax q) s output h t = subst (λ x. TellsText x × AnswersVerification text x output) (sym t.0) (tt, record { stops = h; written = t.1 })
of_verdict text (verdict.TooDeep q) s output h t = subst (λ x. TellsText x × AnswersVerification text x output) (sym t.0) (tt, record { stops = h; written = t.1 })
of_verdict text (verdict.Untyped r) s output h t = subst (λ x. TellsText x × AnswersVerification text x output) (sym t.0) (tt, record { refusal = r; untyped = h; written = t.1 })
of_verdict text (verdict.NotProgram k) s output h t = subst (λ x. TellsText x × AnswersVerification text x output) (sym t.0) (tt, record { refused = h; written = t.1 })

pub of_answer : (text : List ℕ) (v : Verdict) → Says text v → (r : Result Answer AllocError) → IfOk r (λ a. TellsVerdict v a.status (bytes_of a.text)) → Answered (AnswersVerification text) r
of_answer text v h (Ok a) t = of_verdict text v a.status (bytes_of a.text) h t
of_answer text v h (Err x) t = tt

-- ---- a text has its parts once

module _ (text : List ℕ) (p q : HasParts text) where
  same_spec : p.spec ≡ q.spec
  same_spec = (one_tree (spec_part text) p.spec q.spec p.withs q.withs p.reads q.reads).0

  same_flat : flat_whole_of p.flat ≡ flat_whole_of q.flat
  same_flat = one_flat q.spec (flat_whole_of p.flat) (flat_whole_of q.flat) (subst (λ s. IsFlatOf s (flat_whole_of p.flat)) same_spec p.flat_is) q.flat_is

  same_program : p.program ≡ q.program
  same_program = same_text p.program q.program p.formed q.formed (sym p.is_text ∙ q.is_text)

  same_served : is_served p ≡ is_served q
  same_served = ap sequential_whole same_flat

  same_proof : p.proof ≡ q.proof
  same_proof = one_reading (proof_part text) p.proof q.proof p.proof_is q.proof_is

  same_fits : FitsAs p → FitsAs q
  same_fits h =
      subst (λ (d : Proof). FitsBy (flat_whole_of q.flat) q.program d) same_proof
      (subst (λ (T : Program). FitsBy (flat_whole_of q.flat) T p.proof) same_program
      (subst (λ (f : FlatWhole). FitsBy f p.program p.proof) same_flat h))

-- ---- a typed specification is told no broken rule

not_told : (r : TypeRefusal) → IsTold r None → r ≢ e.Memory → ⊥
not_told (e.Unbound p x) h n = let o : ⊥ = cc h in o
not_told (e.Mismatch p u v) h n = let o : ⊥ = cc h in o
not_told (e.Arity p u v) h n = let o : ⊥ = cc h in o
not_told (e.NoOperation p x u) h n = let o : ⊥ = cc h in o
not_told (e.Duplicate p x) h n = let o : ⊥ = cc h in o
not_told (e.OtherRep p x) h n = let o : ⊥ = cc h in o
not_told e.Memory h n = n refl

not_untyped : (part : List ℕ) → IsTyped part → (r : TypeRefusal) → IsUntyped part r → ⊥
not_untyped part t r u =
    let same = (one_tree part u.spec t.spec u.withs t.withs u.reads t.reads).0 in
    not_told r (subst (IsTold r) (ap refusal_of same ∙ t.typed) u.told) u.real

-- ---- by answer

is_typed : (text : List ℕ) → HasParts text → IsTyped (spec_part text)
is_typed text p = record { spec = p.spec; withs = p.withs; reads = p.reads; typed = p.flat_is.typed.nothing_refused }

module _ (text : List ℕ) (s : Status) where
  -- where a specification and a program were read
  of_parts :
      (p : HasParts text) → (is_served p ≡ false → (s ≡ status.NotYet) ⊎ HasFailed s) → (is_served p ≡ true → FitsAs p → (s ≡ status.Done) ⊎ HasFailed s)
      → (is_served p ≡ true → ¬ FitsAs p → TellsUnfit s ⊎ HasFailed s) → ToldVerification text s
  of_parts p other right wrong = record {
    none = λ n. absurd (n p.spec p.withs p.reads);
    untyped = λ r u. absurd (not_untyped (spec_part text) (is_typed text p) r u);
    no_program = λ t n. absurd (n p.program p.formed p.is_text);
    unserved = λ q b. other (same_served text p q ∙ b);
    fits = λ q b h. right (same_served text p q ∙ b) (same_fits text q p h);
    unfit = λ q b h. wrong (same_served text p q ∙ b) (λ f. h (same_fits text p q f));
  }

  -- where no specification was
  of_none : IsNone (spec_part text) → TellsPlace s ⊎ HasFailed s → ToldVerification text s
  of_none n t = record {
    none = λ m. t;
    untyped = λ r u. absurd (n u.spec u.withs u.reads);
    no_program = λ y m. absurd (n y.spec y.withs y.reads);
    unserved = λ p b. absurd (n p.spec p.withs p.reads);
    fits = λ p b h. absurd (n p.spec p.withs p.reads);
    unfit = λ p b h. absurd (n p.spec p.withs p.reads);
  }

  pub failed : HasFailed s → ToldVerification text s
  failed h = record { none = λ n. inr h; untyped = λ r u. inr h; no_program = λ t n. inr h; unserved = λ p b. inr h; fits = λ p b f. inr h; unfit = λ p b f. inr h }

of_untyped : (text : List ℕ) (r : TypeRefusal) → IsUntyped (spec_part text) r → ToldVerification text status.Type_
of_untyped text r u = record {
  none = λ n. absurd (n u.spec u.withs u.reads);
  untyped = λ v w. inl refl;
  no_program = λ t n. absurd (not_untyped (spec_part text) t r u);
  unserved = λ p b. absurd (not_untyped (spec_part text) (is_typed text p) r u);
  fits = λ p b h. absurd (not_untyped (spec_part text) (is_typed text p) r u);
  unfit = λ p b h. absurd (not_untyped (spec_part text) (is_typed text p) r u);
}

of_no_program : (text : List ℕ) (k : ℕ) → NoProgramAt text k → ToldVerification text (status.NotProgram k)
of_no_program text k a = record {
  none = λ n. absurd (n a.typed.spec a.typed.withs a.typed.reads);
  untyped = λ r u. absurd (not_untyped (spec_part text) a.typed r u);
  no_program = λ t n. inl tt;
  unserved = λ p b. absurd (a.refused.no_text p.program p.formed p.is_text);
  fits = λ p b h. absurd (a.refused.no_text p.program p.formed p.is_text);
  unfit = λ p b h. absurd (a.refused.no_text p.program p.formed p.is_text);
}

not_both : (b : Bool) → b ≡ true → b ≡ false → ⊥
not_both true t f = let o : ⊥ = cc f in o
not_both false t f = let o : ⊥ = cc t in o

unfits : (text : List ℕ) (n : ℕ) (r : Refuted text n) → FitsAs r.parts → ⊥
unfits text n r f =
    let p = r.parts in
    unfit_do_not_fit library (text_views (flat_whole_of p.flat) p.program.procs) (flat_whole_of p.flat) p.program (lines_of p.proof.lines) n r.unfit f

pub told_verification : (text : List ℕ) (s : Status) (output : List ℕ) → AnswersVerification text s output → ToldVerification text s
told_verification text status.Done output a = of_parts text status.Done a.verified.parts (λ b. absurd (not_both _ a.verified.served b)) (λ b f. inl refl) (λ b n. absurd (n a.verified.fits))
told_verification text (status.NoProof n) output a =
    of_parts text (status.NoProof n) a.refuted.parts (λ b. absurd (not_both _ a.refuted.served b)) (λ b f. absurd (unfits text n a.refuted f)) (λ b f. inl tt)
told_verification text status.NotYet output a =
    of_parts text status.NotYet a.unserved.parts (λ b. inl refl) (λ b f. absurd (not_both _ b a.unserved.branches)) (λ b f. absurd (not_both _ b a.unserved.branches))
told_verification text (status.Syntax q) output a = of_none text (status.Syntax q) a.stops.none (inl tt)
told_verification text (status.TooDeep q) output a = of_none text (status.TooDeep q) a.stops.none (inl tt)
told_verification text status.Type_ output a = of_untyped text a.refusal a.untyped
told_verification text (status.NotProgram k) output a = of_no_program text k a.refused
told_verification text status.NoRule output a = absurd a
told_verification text status.Input output a = absurd a
told_verification text (status.Fails l) output a = absurd a
told_verification text (status.OutOfTurns l) output a = absurd a
told_verification text status.Usage output a = absurd a
told_verification text status.TooLong output a = absurd a
told_verification text status.ReadFault output a = absurd a
told_verification text status.WriteFault output a = absurd a
told_verification text status.Memory output a = absurd a
