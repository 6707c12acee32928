use Rattle.std.proofs.Common.{◌∙◌, ap, refl, sym}
use Rattle.fit_walk.proofs.PlainLemmas.{if_ok_then, plain_as, plain_steps}
use Rattle.fits.specs.Follow as f
use Rattle.nres_core.proofs.FlatMirrored.{flat_mirrored}
use Rattle.nres_core.specs.FlatTree as t
use Rattle.nres_core.specs.FlatTree.{before_of, binds_of}
use Rattle.proof_lines.specs.Lines.{lines_of}
use Rattle.fit_walk.proofs.plain.step_plain.Goals as goal

pub returns-in-Calc-clause-stepped : goal.returns-in-Calc-clause-stepped
returns-in-Calc-clause-stepped c =
    let R = c.args.frame.now.regs in
    let d = c.args.bind.now in
    let code = c.args.rest.code.now in
    let lines = lines_of c.args.rest.lines.now in
    let a = c.in-Calc in
    if_ok_then c.calc_step.result _ _
    (λ o h V s views at plain. plain_steps R V (before_of d) (t.Calc_to a.place a.out a.word a.left a.right) s code lines (λ go. f.calc_step R V s code lines a.place a.out a.word a.left a.right go) c.calc_step.new.state o
    (ap before_of a.is ∙ flat_mirrored.calc a.place a.out a.word a.left a.right) (λ rest. refl) (h V s at.is))
    c.calc_step.ensures.stepped

pub returns-in-Apply-clause-stepped : goal.returns-in-Apply-clause-stepped
returns-in-Apply-clause-stepped c =
    let R = c.args.frame.now.regs in
    let d = c.args.bind.now in
    let code = c.args.rest.code.now in
    let lines = lines_of c.args.rest.lines.now in
    let a = c.in-Apply in
    let us = c.as_slice in
    let outs = c.as_slice-in-Apply in
    if_ok_then c.apply_step.result _ _
    (λ o h V s views at plain. plain_steps R V (before_of d) (t.Apply_to a.place outs.result.now a.op a.made us.result.now) s code lines (λ go. f.apply_step R V s code lines a.place outs.result.now a.op a.made us.result.now go) c.apply_step.new.state o
    (ap before_of a.is ∙ flat_mirrored.apply a.place a.outs a.op a.made a.args ∙ (λ i. t.Apply_to a.place (sym outs.ensures i) a.op a.made (sym us.ensures i))) (λ rest. refl) (h V s views at.is))
    c.apply_step.ensures.stepped

pub returns-in-Assert-clause-stepped : goal.returns-in-Assert-clause-stepped
returns-in-Assert-clause-stepped c =
    let R = c.args.frame.now.regs in
    let d = c.args.bind.now in
    let code = c.args.rest.code.now in
    let lines = lines_of c.args.rest.lines.now in
    let a = c.in-Assert in
    let inner = c.as_slice-in-Assert in
    if_ok_then c.step_assert.result _ _
    (λ o h V s views at plain. plain_as R V (before_of d) (t.Assert a.place (binds_of inner.result.now) a.test) s code lines c.step_assert.new.state o
    (ap before_of a.is ∙ flat_mirrored.assert a.place a.inner a.test ∙ (λ i. t.Assert a.place (binds_of (sym inner.ensures i)) a.test)) (h R V s a.place at))
    c.step_assert.ensures.stepped

pub returns-in-Any-clause-stepped : goal.returns-in-Any-clause-stepped
returns-in-Any-clause-stepped c =
    let R = c.args.frame.now.regs in
    let d = c.args.bind.now in
    let code = c.args.rest.code.now in
    let lines = lines_of c.args.rest.lines.now in
    let a = c.in-Any in
    if_ok_then c.any_step.result _ _
    (λ o h V s views at plain. plain_steps R V (before_of d) (t.Any a.place a.out a.low a.high) s code lines (λ go. f.any_step R V s code lines a.out a.low a.high go) c.any_step.new.state o
    (ap before_of a.is ∙ flat_mirrored.any a.place a.out a.low a.high) (λ rest. refl) (h V s at.is))
    c.any_step.ensures.stepped

pub returns-in-Call-clause-stepped : goal.returns-in-Call-clause-stepped
returns-in-Call-clause-stepped c =
    let R = c.args.frame.now.regs in
    let d = c.args.bind.now in
    let code = c.args.rest.code.now in
    let lines = lines_of c.args.rest.lines.now in
    let a = c.in-Call in
    let outs = c.as_slice-in-Call in
    let us = c.as_slice-in-Call-2 in
    if_ok_then c.use_step.result _ _
    (λ o h V s views at plain. plain_steps R V (before_of d) (t.Call a.place outs.result.now a.fun us.result.now) s code lines (λ go. f.use_step R V s code lines a.place outs.result.now a.fun us.result.now go) c.use_step.new.state o
    (ap before_of a.is ∙ flat_mirrored.call a.place a.outs a.fun a.args ∙ (λ i. t.Call a.place (sym outs.ensures i) a.fun (sym us.ensures i))) (λ rest. refl) (h V s views at.is))
    c.use_step.ensures.stepped
