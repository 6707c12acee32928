use Rattle.std.proofs.Common.{refl}
use Rattle.fit_walk.proofs.PlainLemmas.{plain_over, plain_unmet}
use Rattle.nres_core.specs.FlatTree.{before_of}
use Rattle.fit_walk.proofs.plain.walk_plain.Goals as goal

pub returns-in-Some-clause-followed : goal.returns-in-Some-clause-followed
returns-in-Some-clause-followed c = λ V s views at opened plain.
    plain_over c.args.frame.now.regs V (before_of c.args.bind.now) s c.args.rest.code.now c.step_plain.new.state c.args.rest c.in_ok-left.field-0 (c.in_ok-left.ensures.stepped V s views at plain) c.in-Some.left c.in-Some.is

pub returns-in-None-clause-followed : goal.returns-in-None-clause-followed
returns-in-None-clause-followed c = λ V s views at opened plain.
    plain_unmet c.args.frame.now.regs V (before_of c.args.bind.now) s c.args.rest.code.now c.step_plain.new.state c.args.rest c.in_ok-left.field-0 (record { lines = c.args.rest.lines }) refl (c.in_ok-left.ensures.stepped V s views at plain) c.in-None.is
