-- What is told, in the machine's own words: a race is told exactly where there is a data race, and a stuck leaf exactly where the machine's step of a leaf is stuck. And texts: a schedule has one, and that of a schedule is not refused.
use Rattle.std.specs.Prelude.{◌≡◌, ℕ, ◌≤◌, ◌↔◌, IsSome, List, [], length}
use Rattle.std.specs.List.{AllByRecursion}
use Rattle.std.specs.Prelude.{Some}
use Rattle.target_code.specs.declared.tree.Proc.{Proc}
use Rattle.target_meaning.specs.declared.answer.Reason.{Reason}
use Rattle.target_meaning.specs.declared.path.Side.{Side}
use Rattle.target_meaning.specs.declared.view.LeafView.{LeafView}
use Rattle.target_meaning.specs.Machine.{Heap, Tree, Stuck, move, nothing, has_room}
use Rattle.target_meaning.specs.Runs.{Race}
use Rattle.target_meaning.specs.Views.{leaves_of}
use Rattle.replay.specs.declared.schedule.Move.{Move}
use Rattle.replay.specs.Schedules.{HasWord, RefusedAt, schedule_text, most_lines}
use Rattle.replay.specs.Sights.{first_race, first_stuck}

abbrev pub RacesAreTold : Type 0
RacesAreTold = (T : List Proc) (h : Heap) (t : Tree (Unit {0})) → Race T h t ↔ IsSome (first_race (leaves_of T h [] t))

abbrev pub StuckAreTold : Type 0
StuckAreTold = (T : List Proc) (h : Heap) (t : Tree (Unit {0})) (path : List Side) (name : ℕ) (r : Reason) → move nothing has_room T t h path name ≡ Stuck r → IsSome (first_stuck (leaves_of T h [] t))

abbrev pub ToldAreStuck : Type 0
ToldAreStuck = (T : List Proc) (h : Heap) (t : Tree (Unit {0})) (v : LeafView) (name : ℕ) (r : Reason) → first_stuck (leaves_of T h [] t) ≡ Some (v, r) → move nothing has_room T t h v.path name ≡ Stuck r

abbrev pub TextsApart : Type 0
TextsApart = (ms ns : List Move) → AllByRecursion HasWord ms → AllByRecursion HasWord ns → schedule_text ms ≡ schedule_text ns → ms ≡ ns

abbrev pub NoneRefused : Type 0
NoneRefused = (ms : List Move) (first line : ℕ) → AllByRecursion HasWord ms → length ms ≤ most_lines → RefusedAt (schedule_text ms) first line → ⊥
