-- Whatever the text, it is told.
use Rattle.std.proofs.Common.{◌≡◌, ◌≢◌, ◌⊎◌, inl, inr, ℕ, ◌≤◌, ◌+◌, List, length, Option, Some, None, Result, Ok, Err, ◌++◌, append-nil, refl, ap, ◌∙◌, sym, subst, arith}
use Rattle.std.proofs.lemmas.List.{length-append}
use Rattle.std.specs.Io.KnownBytes.{Consumes, IsAtEnd}
use Rattle.sep_io.specs.Faults.{Gave}
use Rattle.nres_core.specs.Texts.{SpecText}
use Rattle.nres_rules.specs.Types.{Wrong, Unbound, Mismatch, Arity, No_operation, Duplicate, Other_rep, refusal_of}
use Rattle.nres_core.specs.declared.place.Place.{Place}
use Rattle.nres_core.specs.declared.tree.Spec.{Spec}
use Rattle.nres_core.specs.declared.tree.With.{With}
use Rattle.nres_automaton.specs.declared.refusal.SyntaxRefusal.{SyntaxRefusal}
use Rattle.nres_automaton.specs.declared.refusal.SyntaxRefusal.TheVariants as refusal
use Rattle.nres_types.specs.declared.refusal.TypeRefusal.{TypeRefusal}
use Rattle.nres_types.specs.declared.refusal.TypeRefusal.TheVariants as e
use Rattle.sepref_top.specs.Answers.{Answers, AnswersAs, AnswersExecution, AnswersSpec, HasFault, IsNone, Serves, TellsFault, Told, ToldAs, ToldBy, ToldExecution, Typed}
use Rattle.sepref_top.specs.Faults.{IsRefused}
use Rattle.sepref_top.specs.Outcome.{AnswersUnlessLost}
use Rattle.sepref_top.specs.Statuses.{HasFailed, TellsPlace}
use Rattle.sepref_top.specs.TypeLines.{refusal_line}
use Rattle.sepref_top.specs.declared.status.Status.{Status}
use Rattle.sepref_top.specs.declared.status.Status.TheVariants as status
use Rattle.sepref_top.specs.declared.words.Command.{Command}
use Rattle.sepref_top.specs.declared.words.Command.TheVariants as command
use Rattle.sepref_top.specs.declared.words.Line.{Line}
use Rattle.sepref_top.proofs.OneSpec.{one_tree}
use Rattle.sepref_top.proofs.Verifying as verifying

-- ---- texts of specifications

of_typed : (c : Command) (l : Line) (text : List ℕ) (s : Status) (output : List ℕ) → Typed (λ p ws. Serves c l p ws s output) text → Told c l text s
of_typed c l text s output t = record {
  typed = λ p ws r ty.
      let same = one_tree text t.spec p t.withs ws t.reads r in
      inl (output, subst (λ q. Serves c l q ws s output) same.0 (subst (λ vs. Serves c l t.spec vs s output) same.1 t.holds));
  untyped = λ w h.
      let same = one_tree text t.spec h.spec t.withs h.withs t.reads h.reads in
      let e : None ≡ Some w = sym t.typed ∙ ap refusal_of same.0 ∙ h.first in
      absurd cc;
  none = λ n. absurd (n t.spec t.withs t.reads);
}

of_none : (c : Command) (l : Line) (text : List ℕ) (q : Place) (s : Status) → (s ≡ status.Syntax q) ⊎ (s ≡ status.TooDeep q) → IsNone text → Told c l text s
of_none c l text q s m n = record {
  typed = λ p ws r ty. absurd (n p ws r);
  untyped = λ w h. absurd (n h.spec h.withs h.reads);
  none = λ k. elim m [ inl i ↦ subst (λ x. TellsPlace x ⊎ HasFailed x) (sym i) (inl tt) | inr i ↦ subst (λ x. TellsPlace x ⊎ HasFailed x) (sym i) (inl tt) ];
}

of_fault : (c : Command) (l : Line) (text : List ℕ) (w : Wrong) → HasFault text w → Told c l text status.Type_
of_fault c l text w h = record {
  typed = λ p ws r ty.
      let same = one_tree text h.spec p h.withs ws h.reads r in
      let e : Some w ≡ None = sym h.first ∙ ap refusal_of same.0 ∙ ty in
      absurd cc;
  untyped = λ v g. inl refl;
  none = λ n. absurd (n h.spec h.withs h.reads);
}

of_spec : (c : Command) (l : Line) (text : List ℕ) (s : Status) (output : List ℕ) → AnswersSpec c l text s output → Told c l text s
of_spec c l text (status.Syntax q) output a = of_none c l text q _ (inl refl) a.none
of_spec c l text (status.TooDeep q) output a = of_none c l text q _ (inr refl) a.none
of_spec c l text status.Type_ output a = of_fault c l text a.fault a.is_first
of_spec c l text status.Done output a = of_typed c l text _ output a
of_spec c l text status.Input output a = of_typed c l text _ output a
of_spec c l text status.NoRule output a = of_typed c l text _ output a
of_spec c l text (status.NotProgram k) output a = of_typed c l text _ output a
of_spec c l text (status.Fails k) output a = of_typed c l text _ output a
of_spec c l text (status.OutOfTurns k) output a = of_typed c l text _ output a
of_spec c l text (status.NoProof k) output a = of_typed c l text _ output a
of_spec c l text status.NotYet output a = of_typed c l text _ output a
of_spec c l text status.Usage output a = of_typed c l text _ output a
of_spec c l text status.TooLong output a = of_typed c l text _ output a
of_spec c l text status.ReadFault output a = of_typed c l text _ output a
of_spec c l text status.WriteFault output a = of_typed c l text _ output a
of_spec c l text status.Memory output a = of_typed c l text _ output a

-- ---- executions

of_execution : (text : List ℕ) (s : Status) (output : List ℕ) → AnswersExecution text s output → ToldExecution text s
of_execution text (status.NotProgram k) output a = record {
  no_program = λ n. inl tt;
  no_values = λ t p n. absurd (a.refused.no_text t p.formed p.is_text);
  other = λ t ws i. absurd (a.refused.no_text t i.program.formed i.program.is_text);
}
of_execution text (status.Syntax q) output a = record {
  no_program = λ n. absurd (n a.refused.tree a.refused.program);
  no_values = λ t p n. inl tt;
  other = λ t ws i. absurd (a.refused.none ws i.values);
}
of_execution text status.NotYet output a = record {
  no_program = λ n. absurd (n a.program a.reads.program);
  no_values = λ u p n. absurd (n a.withs a.reads.values);
  other = λ u vs j. inl refl;
}
of_execution text status.Done output a = absurd a
of_execution text (status.TooDeep q) output a = absurd a
of_execution text status.Type_ output a = absurd a
of_execution text status.Input output a = absurd a
of_execution text status.NoRule output a = absurd a
of_execution text (status.Fails l) output a = absurd a
of_execution text (status.OutOfTurns l) output a = absurd a
of_execution text (status.NoProof l) output a = absurd a
of_execution text status.Usage output a = absurd a
of_execution text status.TooLong output a = absurd a
of_execution text status.ReadFault output a = absurd a
of_execution text status.WriteFault output a = absurd a
of_execution text status.Memory output a = absurd a

-- ---- by command

told_as : (c : Command) (l : Line) (text : List ℕ) (s : Status) (output : List ℕ) → AnswersAs c l text s output → ToldAs c l text s
told_as command.Check l text s output a = of_spec command.Check l text s output a
told_as command.Synth l text s output a = of_spec command.Synth l text s output a
told_as command.Eval l text s output a = of_spec command.Eval l text s output a
told_as command.Run l text s output a = of_spec command.Run l text s output a
told_as command.Exec l text s output a = of_execution text s output a
told_as command.Replay l text s output a = inl a.0
told_as command.Verify l text s output a = verifying.told_verification text s output a

pub told : (l : Line) (text : List ℕ) (s : Status) (output : List ℕ) → Answers l text s output → ToldBy l text s
told l = told_as l.command l

failed : (c : Command) (l : Line) (text : List ℕ) (s : Status) → HasFailed s → Told c l text s
failed c l text s h = record { typed = λ p ws r t. inr h; untyped = λ w f. inr h; none = λ n. inr h }

failed_as : (c : Command) (l : Line) (text : List ℕ) (s : Status) → HasFailed s → ToldAs c l text s
failed_as command.Check l text s h = failed command.Check l text s h
failed_as command.Synth l text s h = failed command.Synth l text s h
failed_as command.Eval l text s h = failed command.Eval l text s h
failed_as command.Run l text s h = failed command.Run l text s h
failed_as command.Exec l text s h = record { no_program = λ n. inr h; no_values = λ t p n. inr h; other = λ t ws i. inr h }
failed_as command.Replay l text s h = inr h
failed_as command.Verify l text s h = verifying.failed text s h

pub failed_by : (l : Line) (text : List ℕ) (s : Status) → HasFailed s → ToldBy l text s
failed_by l = failed_as l.command l

pub unless_lost : (l : Line) (text : List ℕ) (s r : Status) → AnswersUnlessLost s r → ToldBy l text s → ToldBy l text r
unless_lost l text s r (inl e) t = subst (λ x. ToldBy l text x) (sym e) t
unless_lost l text s r (inr e) t = subst (λ x. ToldBy l text x) (sym e) (failed_by l text status.WriteFault tt)

-- ---- what is read is told by the reader

-- a reader gives the one tree that a text has, unless there is no memory
abbrev Only : List ℕ → Result (Spec × List With) SyntaxRefusal → Type 0
Only text r = (p : Spec) (ws : List With) → SpecText text p ws → r ≢ Err refusal.Memory → r ≡ Ok (p, ws)

-- what is refused has no tree
pub at_is_none : (text : List ℕ) (r : Result (Spec × List With) SyntaxRefusal) (q : Place) → Only text r → r ≡ Err (refusal.At q) → IsNone text
at_is_none text r q only i p ws t =
    let f : r ≡ Ok (p, ws) = only p ws t (λ j. let g : ◌≡◌ {A = Result (Spec × List With) SyntaxRefusal} (Err (refusal.At q)) (Err refusal.Memory) = sym i ∙ j in absurd cc) in
    let g : ◌≡◌ {A = Result (Spec × List With) SyntaxRefusal} (Err (refusal.At q)) (Ok (p, ws)) = sym i ∙ f in
    absurd cc

pub deep_is_none : (text : List ℕ) (r : Result (Spec × List With) SyntaxRefusal) (q : Place) → Only text r → r ≡ Err (refusal.TooDeep q) → IsNone text
deep_is_none text r q only i p ws t =
    let f : r ≡ Ok (p, ws) = only p ws t (λ j. let g : ◌≡◌ {A = Result (Spec × List With) SyntaxRefusal} (Err (refusal.TooDeep q)) (Err refusal.Memory) = sym i ∙ j in absurd cc) in
    let g : ◌≡◌ {A = Result (Spec × List With) SyntaxRefusal} (Err (refusal.TooDeep q)) (Ok (p, ws)) = sym i ∙ f in
    absurd cc

-- where memory was not wanting, a refusal tells the broken rule
pub told_fault : (text : List ℕ) (r : TypeRefusal) (output : List ℕ) → IsRefused text r → output ≡ refusal_line r → TellsFault text output
told_fault text (e.Unbound p x) output h w = record { fault = Unbound p x; is_first = record { spec = h.spec; withs = h.withs; reads = h.reads; first = h.told }; written = w }
told_fault text (e.Mismatch p u v) output h w = record { fault = Mismatch p u v; is_first = record { spec = h.spec; withs = h.withs; reads = h.reads; first = h.told }; written = w }
told_fault text (e.Arity p u v) output h w = record { fault = Arity p u v; is_first = record { spec = h.spec; withs = h.withs; reads = h.reads; first = h.told }; written = w }
told_fault text (e.NoOperation p x u) output h w = record { fault = No_operation p x u; is_first = record { spec = h.spec; withs = h.withs; reads = h.reads; first = h.told }; written = w }
told_fault text (e.Duplicate p x) output h w = record { fault = Duplicate p x; is_first = record { spec = h.spec; withs = h.withs; reads = h.reads; first = h.told }; written = w }
told_fault text (e.OtherRep p x) output h w = record { fault = Other_rep p x; is_first = record { spec = h.spec; withs = h.withs; reads = h.reads; first = h.told }; written = w }
told_fault text e.Memory output h w = absurd (h.real refl)

-- ---- what the source gave

pub gave_at_most : (a b : Option (List ℕ)) (n : ℕ) (text : List ℕ) → a ≡ Some text → Gave a b n → n ≤ length text
gave_at_most None b n text e g = absurd cc
gave_at_most (Some x) None n text e g = absurd g.1.0
gave_at_most (Some x) (Some y) n text e g =
    let f : x ≡ text = cc in
    let l : length text ≡ length g.0 + length y = ap length (sym f ∙ g.1.0) ∙ length-append g.0 y in
    omega (arith, l, g.1.1)

-- what is known of the source is what it gave up to its end
pub all_given : (a b : Option (List ℕ)) (text given : List ℕ) → a ≡ Some text → Consumes a b given → IsAtEnd b → given ≡ text
all_given None b text given e p q = absurd cc
all_given (Some x) None text given e p q = absurd p
all_given (Some x) (Some y) text given e p q =
    let f : x ≡ text = cc in
    sym (append-nil given) ∙ ap (λ l. given ++ l) (sym q) ∙ sym p ∙ f
