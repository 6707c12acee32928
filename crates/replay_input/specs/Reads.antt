-- Parts of an input that are read, and that are not.
use Rattle.std.specs.Prelude.{◌≡◌, ℕ, ◌≤◌, List, length}
use Rattle.std.specs.List.{AllByRecursion}
use Rattle.nres_core.specs.Texts.{WithText}
use Rattle.nres_core.specs.declared.tree.With.{With}
use Rattle.nres_syntax.specs.Refusals.{ValuesRefusedAt}
use Rattle.target_text.specs.Refusals.{RefusedAt as ProgramRefusedAt}
use Rattle.replay.specs.declared.schedule.Move.{Move}
use Rattle.replay.specs.Schedules.{HasWord, RefusedAt, most_lines, schedule_text}
use Rattle.replay_lines.specs.Inputs.{program_part}
use Rattle.replay_causes.specs.Causes.{NoScheduleAt, NoValuesAt}
use Rattle.replay_input.specs.declared.reading.Unread.{Unread}
use Rattle.replay_input.specs.declared.reading.Unread.TheVariants as unread

-- values, whose first line has this number, and a schedule behind them
pub record AreRead (line : ℕ) (values schedule : List ℕ) (ws : List With) (es : List Move) : Type 0 where
  pub withs : WithText line values ws
  pub steps : schedule ≡ schedule_text es
  pub few : length es ≤ most_lines
  pub words : AllByRecursion HasWord es

-- no list of values goes on at this place; or this line of the input is none of the schedule
abbrev pub IsUnreadBehind : ℕ → List ℕ → ℕ → List ℕ → Unread → Type 0
IsUnreadBehind line values first schedule (unread.NotProgram k) = ⊥
IsUnreadBehind line values first schedule (unread.Syntax q) = ValuesRefusedAt line values q × ((ws : List With) → ¬ WithText line values ws)
IsUnreadBehind line values first schedule (unread.NoSchedule k) = ((ws : List With) × WithText line values ws) × RefusedAt schedule first k
IsUnreadBehind line values first schedule unread.Memory = Unit {0}

-- the first part of an input that is none, with its line or place; memory may want at any time
abbrev pub IsUnread : List ℕ → Unread → Type 0
IsUnread text (unread.NotProgram k) = ProgramRefusedAt (program_part text) k
IsUnread text (unread.Syntax q) = NoValuesAt text q
IsUnread text (unread.NoSchedule k) = NoScheduleAt text k
IsUnread text unread.Memory = Unit {0}
