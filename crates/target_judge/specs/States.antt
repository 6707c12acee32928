-- What stands in the lines so far, as the reader keeps it: the innermost block is the last.
use Rattle.std.specs.Prelude.{List, reverse, map, Option, Some, None}
use Rattle.target_judge.specs.declared.state.Frame.{Frame as FrameOf}
use Rattle.target_judge.specs.declared.state.Frame.TheVariants as frame
use Rattle.target_judge.specs.declared.state.Place.{Place as PlaceOf}
use Rattle.target_judge.specs.declared.state.Header.{Header as HeaderOf}
use Rattle.target_judge.specs.declared.state.Spot.{Spot as SpotOf}
use Rattle.target_judge.specs.declared.state.Spot.TheVariants as spot
use Rattle.target_judge.specs.declared.state.State.{State as StateOf}
use Rattle.target_judge.specs.Shape.{Frame, Yes, No, Cond, Body, Place, place}
use Rattle.target_judge.specs.Taking.{Header, Spot, Between, Inside, Ended, State, state}

abbrev pub frame_of : FrameOf → Frame
frame_of (frame.Yes t before) = Yes t before
frame_of (frame.No t chosen before) = No t chosen before
frame_of (frame.Cond before) = Cond before
frame_of (frame.Body cond t before) = Body cond t before

abbrev pub frames_of : List FrameOf → List Frame
frames_of fs = map frame_of (reverse fs)

abbrev pub place_of : PlaceOf → Place
place_of p = place (frames_of p.frames) p.items

abbrev pub header_of : HeaderOf → Header
header_of h = record { name = h.name; args = h.args; regs = h.regs }

abbrev pub spot_of : SpotOf → Spot
spot_of spot.Between = Between
spot_of (spot.Inside h p) = Inside (header_of h) (place_of p)
spot_of (spot.Ended h items ret) = Ended (header_of h) items ret

abbrev pub state_of : StateOf → State
state_of s = state s.ins s.outs s.procs (spot_of s.spot)

-- the same of what may be there
abbrev pub if_there : {A B : Type 0} → (A → B) → Option A → Option B
if_there f None = None
if_there f (Some x) = Some (f x)
