-- What the answer and the write of it say together.
use Rattle.std.proofs.Common.{◌≡◌, ◌≢◌, inl, inr, ℕ, List, take, Option, Some, None, refl, ◌∙◌, sym, subst}
use Rattle.std.specs.Io.KnownBytes.{Appends}
use Rattle.sepref_top.specs.Answers.{Answers, AnswersAs, Due, DueTo, GaveText, ToldBy, Went}
use Rattle.sepref_top.specs.Outcome.{AnswersUnlessLost, Lost, Wrote}
use Rattle.sepref_top.specs.Statuses.{TellsText}
use Rattle.sepref_top.specs.declared.status.Status.{Status}
use Rattle.sepref_top.specs.declared.status.Status.TheVariants as status
use Rattle.sepref_top.specs.declared.words.Command.{Command}
use Rattle.sepref_top.specs.declared.words.Line.{Line}
use Rattle.sepref_top.proofs.Told as told

-- ---- what was not lost

pub was : (s r : Status) → AnswersUnlessLost s r → TellsText r → r ≡ s
was s r (inl e) h = e
was s r (inr e) h = absurd (subst TellsText e h)

-- a status that no failed write is
pub kept : (s r : Status) → AnswersUnlessLost s r → r ≢ status.WriteFault → r ≡ s
kept s r (inl e) n = e
kept s r (inr e) n = absurd (n e)

not_lost : (r : Status) → TellsText r → r ≢ status.WriteFault
not_lost r h e = subst TellsText e h

-- ---- what is due

module _ (old new : Option (List ℕ)) (output : List ℕ) where
  gave : (l : Line) (s : Status) → TellsText s → DueTo l old new s output → GaveText (λ text. Answers l text s output) old new
  gave l status.Done h d = d
  gave l (status.Syntax q) h d = d
  gave l (status.TooDeep q) h d = d
  gave l status.Type_ h d = d
  gave l status.Input h d = d
  gave l status.NoRule h d = d
  gave l (status.NotProgram k) h d = d
  gave l (status.Fails k) h d = d
  gave l (status.OutOfTurns k) h d = d
  gave l (status.NoProof k) h d = d
  gave l status.NotYet h d = d
  gave l status.Usage h d = absurd h
  gave l status.TooLong h d = absurd h
  gave l status.ReadFault h d = absurd h
  gave l status.WriteFault h d = absurd h
  gave l status.Memory h d = absurd h

  -- what is no command line
  pub usage_none : (o : Option Line) → Due o old new status.Usage output → o ≡ None
  usage_none None d = refl
  usage_none (Some l) d = absurd d

  -- no failed write is due, and no want of memory
  pub no_fault_due : (o : Option Line) → Due o old new status.WriteFault output → ⊥
  no_fault_due None d = let e : status.WriteFault ≡ status.Usage = d.0 in cc
  no_fault_due (Some l) d = d

  pub no_memory_due : (o : Option Line) → Due o old new status.Memory output → ⊥
  no_memory_due None d = let e : status.Memory ≡ status.Usage = d.0 in cc
  no_memory_due (Some l) d = d

  -- the status of what is due
  module _ (o : Option Line) (s r : Status) (due : Due o old new s output) (lost : AnswersUnlessLost s r) where
    pub due_kept : r ≢ status.WriteFault → Due o old new r output
    due_kept n = subst (λ x. Due o old new x output) (sym (kept s r lost n)) due

    pub not_fault : s ≢ status.WriteFault
    not_fault e = no_fault_due o (subst (λ x. Due o old new x output) e due)

    pub no_usage : r ≡ status.Usage → o ≡ None
    no_usage e = usage_none o (subst (λ x. Due o old new x output) e (due_kept (λ f. let g : status.Usage ≡ status.WriteFault = sym e ∙ f in cc)))

    pub no_memory : r ≡ status.Memory → ⊥
    no_memory e = no_memory_due o (subst (λ x. Due o old new x output) e (due_kept (λ f. let g : status.Memory ≡ status.WriteFault = sym e ∙ f in cc)))

    pub was_fault : r ≡ status.ReadFault → s ≡ status.ReadFault
    was_fault e = sym (kept s r lost (λ f. let g : status.ReadFault ≡ status.WriteFault = sym e ∙ f in cc)) ∙ e

    -- what was written
    module _ (before after : Option (List ℕ)) (whole : r ≢ status.WriteFault → Appends before after output)
        (front : r ≡ status.WriteFault → s ≢ status.WriteFault → (n : ℕ) × Appends before after (take n output)) where
      wrote_kept : (x : Status) → x ≢ status.Memory → x ≢ status.WriteFault → Due o old new x output → Appends before after output → Wrote (Due o old new) x before after
      wrote_kept status.Done m f d a = (output, d, a)
      wrote_kept (status.Syntax q) m f d a = (output, d, a)
      wrote_kept (status.TooDeep q) m f d a = (output, d, a)
      wrote_kept status.Type_ m f d a = (output, d, a)
      wrote_kept status.Input m f d a = (output, d, a)
      wrote_kept status.NoRule m f d a = (output, d, a)
      wrote_kept (status.NotProgram k) m f d a = (output, d, a)
      wrote_kept (status.Fails k) m f d a = (output, d, a)
      wrote_kept (status.OutOfTurns k) m f d a = (output, d, a)
      wrote_kept (status.NoProof k) m f d a = (output, d, a)
      wrote_kept status.NotYet m f d a = (output, d, a)
      wrote_kept status.Usage m f d a = (output, d, a)
      wrote_kept status.TooLong m f d a = (output, d, a)
      wrote_kept status.ReadFault m f d a = (output, d, a)
      wrote_kept status.WriteFault m f d a = absurd (f refl)
      wrote_kept status.Memory m f d a = absurd (m refl)

      lost_front : r ≡ status.WriteFault → Lost (Due o old new) before after
      lost_front e = let f = front e not_fault in record { status = s; output = output; is_due = due; sent = f.0; front = f.1 }

      pub wrote : Wrote (Due o old new) r before after
      wrote = elim lost [ inl e ↦ written (sym e) | inr e ↦ subst (λ x. Wrote (Due o old new) x before after) (sym e) (lost_front e) ]
        where
          written : s ≡ r → Wrote (Due o old new) r before after
          written e =
              let n : r ≢ status.WriteFault = λ f. not_fault (e ∙ f) in
              wrote_kept r no_memory n (due_kept n) (whole n)

      -- of a command line
      module _ (l : Line) (asked : o ≡ Some l) where
        pub went : TellsText r → Went (λ text written. Answers l text r written) old new before after
        went h =
            let d : DueTo l old new r output = subst (λ x. Due x old new r output) asked (due_kept (not_lost r h)) in
            let g = gave l r h d in
            (g.0, output, g.1, g.2, whole (not_lost r h), g.3)

        pub done : (c : Command) → l.command ≡ c → r ≡ status.Done → Went (λ text written. AnswersAs c l text status.Done written) old new before after
        done c e i =
            subst (λ k. Went (λ text written. AnswersAs k l text status.Done written) old new before after) e
            (subst (λ x. Went (λ text written. Answers l text x written) old new before after) i (went (subst TellsText (sym i) tt)))

-- ---- whatever the text, it is told

module _ (l : Line) (old new : Option (List ℕ)) (output text : List ℕ) (known : old ≡ Some text) where
  told_so : (s : Status) → TellsText s → DueTo l old new s output → ToldBy l text s
  told_so s h d =
      let g = gave old new output l s h d in
      let it : g.0 ≡ text = told.all_given old new text g.0 known g.1 g.2 in
      subst (λ t. ToldBy l t s) it (told.told l g.0 s output g.3)

  due_told : (s : Status) → s ≢ status.TooLong → DueTo l old new s output → ToldBy l text s
  due_told status.Done n d = told_so status.Done tt d
  due_told (status.Syntax q) n d = told_so (status.Syntax q) tt d
  due_told (status.TooDeep q) n d = told_so (status.TooDeep q) tt d
  due_told status.Type_ n d = told_so status.Type_ tt d
  due_told status.Input n d = told_so status.Input tt d
  due_told status.NoRule n d = told_so status.NoRule tt d
  due_told (status.NotProgram k) n d = told_so (status.NotProgram k) tt d
  due_told (status.Fails k) n d = told_so (status.Fails k) tt d
  due_told (status.OutOfTurns k) n d = told_so (status.OutOfTurns k) tt d
  due_told (status.NoProof k) n d = told_so (status.NoProof k) tt d
  due_told status.NotYet n d = told_so status.NotYet tt d
  due_told status.ReadFault n d = told.failed_by l text status.ReadFault tt
  due_told status.TooLong n d = absurd (n refl)
  due_told status.Usage n d = absurd d
  due_told status.WriteFault n d = absurd d
  due_told status.Memory n d = absurd d

  pub told_due : (o : Option Line) → o ≡ Some l → (s r : Status) → AnswersUnlessLost s r → s ≢ status.TooLong → Due o old new s output → ToldBy l text r
  told_due o asked s r lost n d = told.unless_lost l text s r lost (due_told s n (subst (λ x. Due x old new s output) asked d))

pub asked_none : (o : Option Line) (l : Line) → o ≡ Some l → o ≡ None → ⊥
asked_none o l e f = let g : Some l ≡ None = sym e ∙ f in cc
