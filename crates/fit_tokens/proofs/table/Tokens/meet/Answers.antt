use Rattle.std.proofs.Common.{◌∙◌, ap}
use Rattle.fit_tokens.specs.Changes.{changes_of}
use Rattle.fit_tokens.proofs.LogsLemmas.{on_then}
use Rattle.fit_tokens.proofs.MeetingLemmas.{meets}
use Rattle.fit_tokens.proofs.table.Tokens.meet.Goals as goal

pub returns-clause-tokens : goal.returns-clause-tokens
returns-clause-tokens c = on_then c.agree.result _ _ c.agree.ensures.ok
    (meets c.args.self.now c.undo.new.self c.put_all.new.self c.agree.new.self c.new-right.result c.args.left.now c.note.new.noted c.as_slice.result.now c.as_slice-2.result.now c.new-right.ensures c.in_ok-note.ensures
    (ap changes_of c.as_slice.ensures ∙ c.in_ok-since.ensures) (ap changes_of c.as_slice-2.ensures ∙ c.in_ok-note-2.ensures) c.undo.ensures c.in_ok-put_all.ensures.ok)
