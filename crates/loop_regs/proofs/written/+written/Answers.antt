use Rattle.std.proofs.Common.{[], ◌∷◌, ap, refl, sym, ◌∙◌, ◌||◌}
use Rattle.fits.specs.Written.{is_one_of}
use Rattle.loop_regs.proofs.NotedLemmas.{behind_is, list_next, noted_more, on_ok_then, or_none, or_turned, seen, writes_of}
use Rattle.target_code.specs.declared.tree.Instr.{out-Instr}
use Rattle.target_code.specs.declared.tree.Instr.TheOpen as I
use Rattle.target_code.specs.declared.tree.Instr.TheViews as views
use Rattle.loop_regs.proofs.written.+written.Goals as goal

pub note_instr-returns-in-Const : goal.note_instr-returns-in-Const
note_instr-returns-in-Const t c =
    let a = c.in-Const in
    noted_more c.push.result c.args.instr.now (I.Const a.to a.value) c.args.noted.now c.push.new.self (a.to ∷ []) (ap out-Instr a.is ∙ views.outs-Const a.to a.value) (λ r. sym (or_none _)) c.push.ensures.ok

pub note_instr-returns-in-Mov : goal.note_instr-returns-in-Mov
note_instr-returns-in-Mov t c =
    let a = c.in-Mov in
    noted_more c.push-in-Mov.result c.args.instr.now (I.Mov a.to a.from) c.args.noted.now c.push-in-Mov.new.self (a.to ∷ []) (ap out-Instr a.is ∙ views.outs-Mov a.to a.from) (λ r. sym (or_none _)) c.push-in-Mov.ensures.ok

pub note_instr-returns-in-Calc : goal.note_instr-returns-in-Calc
note_instr-returns-in-Calc t c =
    let a = c.in-Calc in
    noted_more c.push-in-Calc.result c.args.instr.now (I.Calc a.to a.word a.left a.right) c.args.noted.now c.push-in-Calc.new.self (a.to ∷ []) (ap out-Instr a.is ∙ views.outs-Calc a.to a.word a.left a.right) (λ r. sym (or_none _)) c.push-in-Calc.ensures.ok

pub note_instr-returns-in-Load : goal.note_instr-returns-in-Load
note_instr-returns-in-Load t c =
    let a = c.in-Load in
    noted_more c.push-in-Load.result c.args.instr.now (I.Load a.to a.block a.index) c.args.noted.now c.push-in-Load.new.self (a.to ∷ []) (ap out-Instr a.is ∙ views.outs-Load a.to a.block a.index) (λ r. sym (or_none _)) c.push-in-Load.ensures.ok

pub note_instr-returns-in-Alloc : goal.note_instr-returns-in-Alloc
note_instr-returns-in-Alloc t c =
    let a = c.in-Alloc in
    noted_more c.push-in-Alloc.result c.args.instr.now (I.Alloc a.to a.len) c.args.noted.now c.push-in-Alloc.new.self (a.to ∷ []) (ap out-Instr a.is ∙ views.outs-Alloc a.to a.len) (λ r. sym (or_none _)) c.push-in-Alloc.ensures.ok

pub note_instr-returns-in-Call : goal.note_instr-returns-in-Call
note_instr-returns-in-Call t c =
    let a = c.in-Call in
    noted_more c.note_all.result c.args.instr.now (I.Call a.to a.proc a.args) c.args.noted.now c.note_all.new.noted c.as_slice.result.now (ap out-Instr a.is ∙ views.outs-Call a.to a.proc a.args) (λ r. ap (is_one_of r) (sym c.as_slice.ensures)) c.note_all.ensures

pub note_instr-returns-in_ok-note_all-in-Par : goal.note_instr-returns-in_ok-note_all-in-Par
note_instr-returns-in_ok-note_all-in-Par t c =
    let a = c.in-Par in
    on_ok_then c.note_all-in-Par-2.result _ _
    (λ k r.
    behind_is r c.note_all-in-Par.new.noted c.note_all-in-Par-2.new.noted c.as_slice-in-Par-2.result.now k
    ∙ ap (λ b. is_one_of r c.as_slice-in-Par-2.result.now || b) (behind_is r c.args.noted.now c.note_all-in-Par.new.noted c.as_slice-in-Par.result.now c.in_ok-note_all-in-Par.ensures)
    ∙ or_turned (is_one_of r c.as_slice-in-Par-2.result.now) (is_one_of r c.as_slice-in-Par.result.now) (is_one_of r c.args.noted.now)
    ∙ (λ i. (is_one_of r (c.as_slice-in-Par.ensures i) || is_one_of r (c.as_slice-in-Par-2.ensures i)) || is_one_of r c.args.noted.now)
    ∙ ap (λ b. b || is_one_of r c.args.noted.now) (sym (writes_of r c.args.instr.now (I.Par a.left a.right) (ap out-Instr a.is ∙ views.outs-Par a.left a.right))))
    c.note_all-in-Par-2.ensures

pub note_written-each-preserved : goal.note_written-each-preserved
note_written-each-preserved t c = λ r. list_next r c.as_slice-instr-items.result.now c.each.instr-index c.instr-item.result c.args.noted.now c.each.noted c.note_instr.new.noted c.each-test.true c.instr-item.is (c.each.invariant r) (c.in_ok-note_instr.ensures r)
