use Rattle.std.proofs.Common.{◌≡◌, ◌∙◌, ap, arith}
use Rattle.block_dir.specs.declared.view.Cell.{Cell}
use Rattle.block_dir.specs.Calls.{view}
use Rattle.block_dir.proofs.Laws.{whole_won, owns_won, has_owned, owns_written, whole_written, cell_written-same}
use Rattle.block_dir.proofs.tests.visit.Goals as goal

pub write-requires-clause-held : goal.write-requires-clause-held
write-requires-clause-held c = rw c.in-Won.ensures.claimed.2 (owns_won _ _ _ _ (omega arith))

pub read-seen-requires-clause-held : goal.read-seen-requires-clause-held
read-seen-requires-clause-held c = rw (c.write.ensures.written, c.in-Won.ensures.claimed.2) (has_owned _ _ _ (owns_written _ _ _ _ _ (owns_won _ _ _ _ (omega arith))))

pub release-requires-clause-held : goal.release-requires-clause-held
release-requires-clause-held c = (2, rw (c.read-seen.ensures.view, c.write.ensures.written, c.in-Won.ensures.claimed.2) (whole_written _ _ _ _ _ (λ e. omega arith) (whole_won _ _ _)))

pub returns-in-Won-clause-value : goal.returns-in-Won-clause-value
returns-in-Won-clause-value c =
    let e : c.read-seen.result ≡ c.args.value = c.read-seen.ensures.value ∙ rw c.write.ensures.written (ap (λ (d : Cell). d.value) (cell_written-same _ c.args.value (view c.claim.new.seat))) in omega arith
