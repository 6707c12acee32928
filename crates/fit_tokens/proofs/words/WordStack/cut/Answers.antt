use Rattle.std.proofs.Common.{◌≡◌, ◌<◌, ◌-◌, ◌∙◌, drop, length, arith}
use Rattle.fit_tokens.proofs.StacksLemmas.{cut_step}
use Rattle.fit_tokens.proofs.words.WordStack.cut.Goals as goal

pub loop-self-preserved : goal.loop-self-preserved
loop-self-preserved c =
    let h : drop (length c.args.self.now - c.args.count) c.args.self.now ≡ drop (length c.loop-self.self - c.args.count) c.loop-self.self = c.loop-self.invariant in
    let lt : c.args.count < length c.loop-self.self = omega arith in
    h ∙ cut_step c.loop-self.self c.pop.new.self c.args.count lt c.pop.ensures
