use Rattle.target_meaning.proofs.Bare.{move_bare, reach_bare, shallow_bare, bare_shallow, race_bare, bare_race, left_bare, schedule_bare}
use Rattle.target_meaning.proofs.laws.notes_do_not_matter.Goals as goal

pub returns : goal.returns
returns g c = record {
  step = move_bare g.A.Noted.notes;
  run = reach_bare g.A.Noted.notes;
  depth = λ room T es t h. (bare_shallow g.A.Noted.notes room T es t h, shallow_bare g.A.Noted.notes room T es t h);
  race = λ T h t. (bare_race T h t, race_bare T h t);
  left = left_bare g.A.Noted.notes;
  schedule = schedule_bare g.A.Noted.notes;
}
