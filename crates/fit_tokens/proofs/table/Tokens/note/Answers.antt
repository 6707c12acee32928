use Rattle.std.proofs.Common.{◌∙◌, ap}
use Rattle.fit_tokens.specs.Changes.{change, changes_of, toks}
use Rattle.fit_tokens.proofs.MeetingLemmas.{note_step, note_none}
use Rattle.fit_tokens.proofs.table.Tokens.note.Goals as goal

pub each-init : goal.each-init
each-init c = note_none c.args.noted.now

pub each-preserved : goal.each-preserved
each-preserved c = note_step (toks c.args.self.now) c.args.changes.now c.each.change-index _ _ c.each.noted c.push.new.self (changes_of c.args.noted.now) c.each-test.true c.each.invariant (ap (change _) c.get.ensures) c.in_ok-push.ensures.ok
