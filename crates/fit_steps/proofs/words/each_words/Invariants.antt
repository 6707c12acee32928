use Rattle.std.proofs.Common.{◌≡◌, ◌++◌, drop}
use Rattle.fit_state.specs.Infos.{lists_of}
use Rattle.fits.specs.Follow.{result_words}
use Rattle.fit_steps.proofs.words.each_words.Given as goal

abbrev pub invariant-each : goal.invariant-each
invariant-each l = lists_of l.words ++ result_words (drop l.index l.outs) (drop l.index l.reps) (lists_of l.left) ≡ result_words l.outs l.reps (lists_of l.fn.lists)
