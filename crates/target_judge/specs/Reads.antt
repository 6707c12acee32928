-- What the lines so far say, as the reader keeps it.
use Rattle.target_judge.specs.declared.judging.Judged.{Judged as JudgedOf}
use Rattle.target_judge.specs.Judging.{Judged, judged}
use Rattle.target_judge.specs.States.{state_of}

abbrev pub judged_of : JudgedOf → Judged
judged_of j = judged (state_of j.state) j.told j.width
