use Rattle.std.proofs.Common.{◌≡◌, ◌∙◌, ◌&&◌, true, false, length, nat_eq, sym, subst}
use Rattle.std.proofs.lemmas.Bool.{and_parts}
use Rattle.std.proofs.lemmas.Result.{IfOk-weaker}
use Rattle.fit_steps.proofs.RowLemmas.{call_grows, call_not_held, call_not_ordered, call_not_passed, call_passed, in_row_is}
use Rattle.fit_steps.specs.Applied.{Passed, Refused, Taken}
use Rattle.fits.specs.Follow.{rises}
use Rattle.rule_check.specs.Rows.{rule_of}
use Rattle.fit_steps.proofs.row.call_here.Goals as goal

pub returns-then-not-holds-clause-called : goal.returns-then-not-holds-clause-called
returns-then-not-holds-clause-called c = λ V s stands is.
    let x = c.args.state.now in
    let at = c.args.at.now in
    call_not_held c.args.applying.now V s x stands is c.args.name at.to.now at.name.now at.args.now x (sym (c.in_ok-holds.ensures V s stands.library is) ∙ c.if-not-holds.true)

pub returns-then-not-in_row-clause-called : goal.returns-then-not-in_row-clause-called
returns-then-not-in_row-clause-called c = λ V s stands is.
    let a = c.args.applying.now in
    let x = c.args.state.now in
    let at = c.args.at.now in
    call_not_ordered a V s x stands is c.args.name at.to.now at.name.now at.args.now x (in_row_is a V s x stands is false (sym c.if-not-in_row.true ∙ c.in_row.ensures))

pub returns-then-branch-clause-called : goal.returns-then-branch-clause-called
returns-then-branch-clause-called c =
    let a = c.args.applying.now in
    let x = c.args.state.now in
    let y = c.take.new.state in
    let at = c.args.at.now in
    let passed : Passed a.names.now a.operation x y = subst (λ b. Taken a.names.now a.operation x y b) c.if-branch.true c.in_ok-take.ensures.applied in
    IfOk-weaker c.call_results.result _ _ (λ r bound V s stands is.
    call_passed a V s x stands is c.args.name at.to.now at.name.now at.args.now y c.call_results.new.state r
    (sym (c.in_ok-holds.ensures V s stands.library is) ∙ c.if-not-holds.false) (in_row_is a V s x stands is true (sym c.if-not-in_row.false ∙ c.in_row.ensures)) passed c.call_results.ensures.differ bound)
    c.call_results.ensures.bound

pub returns-then-branch-clause-grows : goal.returns-then-branch-clause-grows
returns-then-branch-clause-grows c =
    let a = c.args.applying.now in
    let x = c.args.state.now in
    let y = c.take.new.state in
    let outs = a.operation.outs.now in
    let passed : Passed a.names.now a.operation x y = subst (λ b. Taken a.names.now a.operation x y b) c.if-branch.true c.in_ok-take.ensures.applied in
    let order : (nat_eq (length outs) (length (rule_of a.row).gives) && rises x.next outs) ≡ true = sym c.in_row.ensures ∙ c.if-not-in_row.false in
    IfOk-weaker c.call_results.result _ _ (λ r grows t.
    call_grows a.regs a.names.now a.operation x y c.call_results.new.state (and_parts (nat_eq (length outs) (length (rule_of a.row).gives)) (rises x.next outs) order).1 passed (grows t))
    c.call_results.ensures.grows

pub returns-else-branch-clause-called : goal.returns-else-branch-clause-called
returns-else-branch-clause-called c = λ V s stands is.
    let a = c.args.applying.now in
    let x = c.args.state.now in
    let y = c.take.new.state in
    let at = c.args.at.now in
    let refused : Refused a.names.now a.operation x = subst (λ b. Taken a.names.now a.operation x y b) c.if-branch.false c.in_ok-take.ensures.applied in
    call_not_passed a V s x stands is c.args.name at.to.now at.name.now at.args.now y refused
