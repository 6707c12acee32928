use Rattle.std.proofs.Common.{sym, ap, ◌∙◌}
use Rattle.std.specs.Prelude.{Some, option_map}
use Rattle.fit_blocks.proofs.EndingLemmas.{if_ok_then, when_none, when_some}
use Rattle.fit_blocks.proofs.LoopLemmas.{at_passed, begins_all, no_head, no_infos, no_pass}
use Rattle.fit_blocks.specs.declared.looping.LoopCode.{LoopCode}
use Rattle.fit_state.specs.Infos.{infos_of}
use Rattle.fits.specs.Follow.{pass_all}
use Rattle.fits.specs.Places.{arg_infos}
use Rattle.proof_lines.specs.Lines.{lines_of}
use Rattle.fit_blocks.proofs.looping.begin_loop.Goals as goal

pub returns-in_default-2 : goal.returns-in_default-2
returns-in_default-2 c = record {
  begins = λ V s views at.
      let R = c.args.frame.now.regs in
      no_infos R V s c.args.starting.now c.args.rest.code.now (lines_of c.args.rest.lines.now) c.in-Some.targets.now (lines_of c.in-Some.lines.now) c.in-Some.ensures
      (sym (c.in_ok-infos.ensures R s at.is) ∙ ap (option_map infos_of) c.in_default-2.is);
}

pub returns-in_default-3 : goal.returns-in_default-3
returns-in_default-3 c = record {
  begins = λ V s views at.
      let R = c.args.frame.now.regs in
      no_pass R V s c.args.starting.now c.args.rest.code.now (lines_of c.args.rest.lines.now) c.in-Some.targets.now (lines_of c.in-Some.lines.now) c.in-Some.ensures (infos_of c.in-Some-2.infos)
      (sym (c.in_ok-infos.ensures R s at.is) ∙ ap (option_map infos_of) c.in-Some-2.is) (when_none c.in_ok-code.field-0 _ _ c.in_default-3.is (c.in_ok-code.ensures.passed V s at.is));
}

pub returns-in-Some-while_head : goal.returns-in-Some-while_head
returns-in-Some-while_head c = record {
  begins =
      if_ok_then c.start.result _ _
      (λ o h V s views at.
      let R = c.args.frame.now.regs in
      let st = c.args.starting.now in
      let code = c.args.rest.code.now in
      let lines = lines_of c.args.rest.lines.now in
      let x = c.args.state.now in
      let y = c.pass_all.new.state in
      let found : LoopCode = record { targets = c.in-Some.targets; head = c.in-Some-while_head.head; lines = c.in-Some.lines } in
      let si = infos_of c.as_slice.result.now in
      let some = sym (c.in_ok-infos.ensures R s at.is) ∙ ap (option_map infos_of) c.in-Some-2.is ∙ ap (λ is. Some (infos_of is)) (sym c.as_slice.ensures) in
      let g = when_some c.in_ok-code.field-0 _ _ c.in-Some-3.code c.in-Some-3.is (c.in_ok-code.ensures.passed V s at.is) in
      begins_all R V s st code lines found c.in-Some.ensures si some y c.in-Some-3.code.now g c.in-Some-while_head.ensures x c.start.new.state o c.in_ok-code.ensures.grows
      (h V g.next views (at_passed R s x y c.in-Some-3.code.now (pass_all R V s code) at c.in_ok-code.ensures.grows g) (ap (λ es. arg_infos es st.starts.now) g.entries ∙ some)))
      c.start.ensures.begins;
}

pub returns : goal.returns
returns c = record {
  begins = λ V s views at.
      let R = c.args.frame.now.regs in
      no_head R V s c.args.starting.now c.args.rest.code.now (lines_of c.args.rest.lines.now) c.in-Some.targets.now (lines_of c.in-Some.lines.now) c.in-Some.ensures (infos_of c.in-Some-2.infos)
      (sym (c.in_ok-infos.ensures R s at.is) ∙ ap (option_map infos_of) c.in-Some-2.is) c.pass_all.new.state c.in-Some-3.code.now
      (when_some c.in_ok-code.field-0 _ _ c.in-Some-3.code c.in-Some-3.is (c.in_ok-code.ensures.passed V s at.is)) c.in-None.ensures;
}
