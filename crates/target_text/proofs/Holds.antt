-- What holds of all that lines say.
use Rattle.std.proofs.Common.{◌≡◌, ℕ, Bool, false, List, [], ◌∷◌, ◌++◌, Some, refl, subst}
use Rattle.std.specs.Prelude.{IfSome}
use Rattle.std.specs.List.{AllByRecursion}
use Rattle.target_lines.specs.declared.line.Line.{Line}
use Rattle.target_lines.specs.Programs.{phrase_lends}
use Rattle.target_judge.specs.Told.{Kind, Args, Results, Given, Input, nothing}
use Rattle.target_judge.specs.Judging.{Judged, unread, judge}
use Rattle.target_text.specs.Runs.{judge_all}
use Rattle.target_text.proofs.Steps.{Table, table, Kept, Each, judge_step, step_kept, step_facts, then_all}
use Rattle.target_text.proofs.SoundLines.{StateOk, line_sound}
use Rattle.target_text.proofs.WellTold.{Claim, WellTold, RoomIn, line_told, line_room}

pub record Holds (lends : Bool) (j : Judged) : Type 0 where
  pub sound : (N : Table) → Kept j.told N → StateOk N lends j.state j.width
  pub told : WellTold j.state j.told
  pub room : RoomIn j.state.spot j.told

-- no line has a lend where these are not shown
abbrev pub Quiet : Bool → List Line → Type 0
Quiet lends ls = AllByRecursion (λ l. lends ≡ false → phrase_lends l.phrase ≡ false) ls

pub quiet_append : (lends : Bool) (ls ms : List Line) → Quiet lends ls → Quiet lends ms → Quiet lends (ls ++ ms)
quiet_append lends [] ms h k = k
quiet_append lends (l ∷ ls) ms h k = (h.0, quiet_append lends ls ms h.1 k)

no_number : (Q : Kind → List ℕ → ℕ → Type 0) → Each Q nothing
no_number Q Args name n e = absurd cc
no_number Q Results name n e = absurd cc
no_number Q Given name n e = absurd cc
no_number Q Input name n e = absurd cc

pub holds_unread : (lends : Bool) → Holds lends unread
holds_unread lends = record {
  sound = λ N kept. record { ins = tt; outs = refl; procs = tt; spot = (refl, refl) };
  told = no_number (Claim unread.state nothing);
  room = tt;
}

holds_step : (lends : Bool) (l : Line) (j k : Judged) → (lends ≡ false → phrase_lends l.phrase ≡ false) → judge l j ≡ Some k → Holds lends j → Holds lends k
holds_step lends l j k quiet e h =
    let s = judge_step l j k e in
    let own : Kept k.told (table k.told) = λ kind name n is. is in
    record {
      sound = λ N kept.
          (let next = line_sound N lends l j.state j.width k.width k.told (step_facts l j k N s kept) s.fits s.wide quiet (h.sound N (step_kept l j k N s kept)) in
          subst (λ o. IfSome o (λ t. StateOk N lends t k.width)) s.taken next);
      told = line_told lends l j.state k.state j.width j.told k.told s.told s.fits (h.sound (table k.told) (step_kept l j k (table k.told) s own)) s.taken h.told;
      room = line_room l j.state k.state j.width j.told k.told s.told s.fits s.taken h.room;
    }

pub holds_run : (lends : Bool) (ls : List Line) (j k : Judged) → Quiet lends ls → judge_all ls j ≡ Some k → Holds lends j → Holds lends k
holds_run lends [] j k quiet e h = let same : j ≡ k = cc in subst (λ (x : Judged). Holds lends x) same h
holds_run lends (l ∷ ls) j k quiet e h =
    let first = then_all l ls j k e in
    holds_run lends ls first.0 k quiet.1 first.2 (holds_step lends l j first.0 quiet.0 first.1 h)
