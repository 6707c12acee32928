use Rattle.std.specs.Prelude.{◌-◌, List, length, take, drop}
use Rattle.std.proofs.Common.{◌∙◌, sym}
use Rattle.target_code.specs.declared.tree.Proc.{Proc}
use Rattle.proof_check.proofs.Stood.{have_names, have_not, headed}
use Rattle.proof_check.proofs.whole.procs_standing.Goals as goal

pub named_standing-requires : goal.named_standing-requires
named_standing-requires c =
    let ps : List Proc = c.args.procs.now in
    have_names c.args.count ps (take (length ps - 1) (drop 1 ps)) c.main-item.result (headed ps c.main-item.result c.in-len1-up.len_at_least c.main-item.is) (sym c.in_ok-have_names.ensures ∙ c.if-branch.true)

pub returns-else-branch : goal.returns-else-branch
returns-else-branch c =
    let ps : List Proc = c.args.procs.now in
    have_not c.args.count ps (take (length ps - 1) (drop 1 ps)) c.main-item.result (headed ps c.main-item.result c.in-len1-up.len_at_least c.main-item.is) (sym c.in_ok-have_names.ensures ∙ c.if-branch.false)
