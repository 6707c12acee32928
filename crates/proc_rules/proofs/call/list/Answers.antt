use Rattle.std.proofs.Common.{◌≡◌, ◌∙◌, false, arith, sym}
use Rattle.proc_rules.proofs.CallsLemmas.{on_ok, list_more}
use Rattle.proc_rules.proofs.call.list.Goals as goal

pub returns-then-not-param : goal.returns-then-not-param
returns-then-not-param c =
    let k : c.args.param.now.kept ≡ false = grind arith in
    on_ok c.push.result (list_more c.args.param.now c.args.entry c.args.lists.now c.push.new.self c.shape.result (sym c.is_slice.ensures ∙ c.if-is_slice.true) k c.shape.ensures) c.push.ensures.ok
