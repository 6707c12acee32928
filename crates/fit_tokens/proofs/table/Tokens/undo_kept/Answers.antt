use Rattle.std.proofs.Common.{◌∙◌, ap}
use Rattle.fit_tokens.specs.Changes.{changes_of}
use Rattle.fit_tokens.proofs.MeetingLemmas.{undo_keeps}
use Rattle.fit_tokens.proofs.table.Tokens.undo_kept.Goals as goal

pub returns-clause-kept : goal.returns-clause-kept
returns-clause-kept c = undo_keeps c.args.self.now c.undo.new.self c.new-ends.result c.as_slice.result.now c.as_slice-2.result.now c.keeps.result c.new-ends.ensures
    (ap changes_of c.as_slice.ensures ∙ c.in_ok-since.ensures) (ap changes_of c.as_slice-2.ensures ∙ c.in_ok-note.ensures) c.undo.ensures c.keeps.ensures
