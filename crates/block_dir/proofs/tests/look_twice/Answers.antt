use Rattle.std.proofs.Common.{rules, ◌≡◌}
use Rattle.block_dir.specs.Calls.{view}
use Rattle.block_dir.proofs.tests.look_twice.Goals as goal

pub returns-clause-whole : goal.returns-clause-whole
returns-clause-whole g c =
    let one : view c.join-one.result.0.1 ≡ view c.lend-other.new.seat = search rules in
    let two : view c.join-one.result.1.1 ≡ view c.lend-other.result = search rules in rw (c.join.ensures.joined, one, two) c.lend-other.ensures.whole
