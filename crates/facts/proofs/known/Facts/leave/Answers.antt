use Rattle.std.proofs.Common.{◌∙◌, ◌≡◌, ◌<◌, ◌-◌, length, drop, arith}
use Rattle.facts.proofs.KnownLemmas.{leave_step}
use Rattle.facts.proofs.known.Facts.leave.Goals as goal

pub loop-self-preserved : goal.loop-self-preserved
loop-self-preserved c =
    let h : drop (length c.args.self.now - c.args.mark) c.args.self.now ≡ drop (length c.loop-self.self - c.args.mark) c.loop-self.self = c.loop-self.invariant in
    let lt : c.args.mark < length c.loop-self.self = omega arith in
    h ∙ leave_step c.loop-self.self c.forget.new.self c.args.mark lt c.forget.ensures
