-- What is read of the parts of an input is read of the input.
use Rattle.std.proofs.Common.{◌≡◌, ◌≢◌, ℕ, ◌+◌, ◌≤◌, List, Result, Ok, Err, IfErr, IfOk, refl, sym, ap, ◌∙◌, subst}
use Rattle.nres_core.specs.Texts.{WithText}
use Rattle.nres_core.specs.declared.place.Place.{Place}
use Rattle.nres_core.specs.declared.tree.With.{With}
use Rattle.nres_automaton.specs.declared.refusal.SyntaxRefusal.{SyntaxRefusal}
use Rattle.nres_automaton.specs.declared.refusal.SyntaxRefusal.TheVariants as refusal
use Rattle.nres_syntax.specs.Refusals.{ValuesRefusedAt}
use Rattle.target_code.specs.Formed.{Formed}
use Rattle.target_code.specs.declared.tree.Program.{Program}
use Rattle.target_lines.specs.Programs.{program_text}
use Rattle.replay.specs.declared.schedule.Move.{Move}
use Rattle.replay.specs.Schedules.{RefusedAt, schedule_text}
use Rattle.replay_lines.specs.Inputs.{feeds, program_part, schedule_line, schedule_part, values_line, values_part}
use Rattle.replay_causes.specs.Causes.{HasValues, IsProgram, IsReplay, NoScheduleAt, NoValuesAt}
use Rattle.replay_input.specs.Reads.{AreRead, IsUnread, IsUnreadBehind}
use Rattle.replay_input.specs.declared.reading.Unread.{Unread}
use Rattle.replay_input.specs.declared.reading.Unread.TheVariants as unread

-- what is refused has no values
pub none_read : {A : Type 0} (r : Result A SyntaxRefusal) (q : Place) (x : A) → r ≡ Err (refusal.At q) → (r ≢ Err refusal.Memory → r ≡ Ok x) → ⊥
none_read r q x e only =
    let f : r ≡ Ok x = only (λ i. let g : Err (refusal.At q) ≡ Err refusal.Memory = sym e ∙ i in cc) in
    let g : Err (refusal.At q) ≡ Ok x = sym e ∙ f in
    cc

-- parts of a text
pub record Cut (text program values schedule : List ℕ) (line first : ℕ) : Type 0 where
  pub program_is : program ≡ program_part text
  pub values_are : values ≡ values_part text
  pub schedule_is : schedule ≡ schedule_part text
  pub line_is : line ≡ values_line text
  pub first_is : first ≡ schedule_line text

module _ (text program values schedule : List ℕ) (line first : ℕ) (cut : Cut text program values schedule line first) (t : Program) (formed : Formed t) (is_text : program ≡ program_text t) where
  whole : IsProgram text t
  whole = record { formed = formed; is_text = sym cut.program_is ∙ is_text }

  with_values : (ws : List With) → WithText line values ws → HasValues text t ws
  with_values ws w = record { program = whole; values = subst (λ n. WithText n (values_part text) ws) cut.line_is (subst (λ l. WithText line l ws) cut.values_are w) }

  pub is_replay : (ws : List With) (es : List Move) → AreRead line values schedule ws es → IsReplay text t ws es
  is_replay ws es r = record { front = with_values ws r.withs; schedule = sym cut.schedule_is ∙ r.steps; few = r.few; words = r.words }

  pub is_unread : (u : Unread) → IsUnreadBehind line values first schedule u → IsUnread text u
  is_unread (unread.NotProgram k) h = absurd h
  is_unread (unread.Syntax q) h = record {
    tree = t;
    program = whole;
    refused = subst (λ n. ValuesRefusedAt n (values_part text) q) cut.line_is (subst (λ l. ValuesRefusedAt line l q) cut.values_are h.0);
    none = λ ws w. h.1 ws (subst (λ l. WithText line l ws) (sym cut.values_are) (subst (λ n. WithText n (values_part text) ws) (sym cut.line_is) w));
  }
  is_unread (unread.NoSchedule k) h = record {
    tree = t;
    withs = h.0.0;
    front = with_values h.0.0 h.0.1;
    refused = subst (λ n. RefusedAt (schedule_part text) n k) cut.first_is (subst (λ l. RefusedAt l first k) cut.schedule_is h.1);
  }
  is_unread unread.Memory h = tt
