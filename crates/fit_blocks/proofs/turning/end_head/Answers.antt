use Rattle.std.proofs.Common.{refl}
use Rattle.fit_blocks.proofs.TurnLemmas.{head_goes, head_stops, head_unmet}
use Rattle.proof_lines.specs.Lines.{lines_of}
use Rattle.fit_blocks.proofs.turning.end_head.Goals as goal

pub returns-then-not-branch : goal.returns-then-not-branch
returns-then-not-branch c = record {
  ends = λ V u infos q s grows is.
      head_stops c.args.regs V u infos c.args.starting.now c.args.looping.now q s c.args.rest.code.now (lines_of c.args.rest.lines.now) c.end_test.new.state c.in_ok-end_test.field-0 c.if-not-branch.true (c.in_ok-end_test.ensures.over V s is);
}

pub returns-then-not-branch-2 : goal.returns-then-not-branch-2
returns-then-not-branch-2 c = record {
  ends = λ V u infos q s grows is.
      head_unmet c.args.regs V u infos c.args.starting.now c.args.looping.now q s c.args.rest.code.now (lines_of c.args.rest.lines.now) c.end_test.new.state c.in_ok-end_test.field-0 c.in_ok-test_met.field-0 c.if-not-branch.false (c.in_ok-end_test.ensures.over V s is)
      c.if-not-branch-2.true (c.in_ok-test_met.ensures c.args.regs);
}

pub returns-in-Ok : goal.returns-in-Ok
returns-in-Ok c = record {
  ends = λ V u infos q s grows is.
      let y = c.end_test.new.state in
      head_goes c.args.regs V u infos c.args.starting.now c.args.looping.now q s c.args.state.now y c.open_body.new.state c.args.rest (record { changes = c.in_ok-changes.changes; next = y.next; lines = c.args.rest.lines }) c.in_ok-end_test.field-0 c.in_ok-test_met.field-0 grows c.in_ok-end_test.ensures.grows
      c.if-not-branch.false (c.in_ok-end_test.ensures.over V s is) c.if-not-branch-2.false (c.in_ok-test_met.ensures c.args.regs) c.in-Ok.ensures c.in_ok-changes.ensures refl refl;
}
