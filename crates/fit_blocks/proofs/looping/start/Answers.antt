use Rattle.std.proofs.Common.{refl, sym, ap, ◌∙◌, subst}
use Rattle.fit_blocks.proofs.HeadLemmas.{starts_in, starts_refused, starts_unmet}
use Rattle.fit_blocks.specs.Loops.{HeadOpens, MovesIn}
use Rattle.fit_state.specs.Infos.{infos_of}
use Rattle.fits.specs.Places.{in_order}
use Rattle.ownership.specs.Entries.{shapes_of}
use Rattle.fit_blocks.proofs.looping.start.Goals as goal

pub returns-then-not-branch : goal.returns-then-not-branch
returns-then-not-branch c = record {
  begins = λ V u views at args.
      starts_unmet c.args.frame.now.regs V u c.args.starting.now c.args.code.now (infos_of c.args.infos.now) (sym (c.in_ok-starts_met.ensures c.args.frame.now.regs u at.is) ∙ c.if-not-branch.true);
}

pub returns-then-not-branch-2 : goal.returns-then-not-branch-2
returns-then-not-branch-2 c = record {
  begins = λ V u views at args.
      starts_refused c.args.frame.now.regs V u c.args.starting.now c.args.code.now (infos_of c.args.infos.now)
      (subst (MovesIn c.args.frame.now.regs V u c.args.starting.now (infos_of c.args.infos.now) c.move_in.new.state) c.if-not-branch-2.true (c.in_ok-move_in.ensures.moved V u views at.is (infos_of c.args.infos.now) args));
}

pub returns-in-Ok : goal.returns-in-Ok
returns-in-Ok c = record {
  begins = λ V u views at args.
      let R = c.args.frame.now.regs in
      let infos = infos_of c.args.infos.now in
      let y = c.move_in.new.state in (
        refl,
        starts_in R V u infos c.args.starting.now _ c.args.state.now c.move_in.new.state c.forget_inside.new.tokens c.open_head.new.state at.under
            (sym (c.in_ok-starts_met.ensures R u at.is) ∙ c.if-not-branch.false)
            (c.in_ok-move_in.ensures.grows c.if-not-branch-2.false)
            (subst (MovesIn R V u c.args.starting.now infos c.move_in.new.state) c.if-not-branch-2.false (c.in_ok-move_in.ensures.moved V u views at.is infos args))
            c.in_ok-forget_inside.ensures.tokens c.in_ok-forget_inside.ensures.saved c.in_ok-shapes.ensures c.from_here-begun.ensures
            (λ v below order is. subst (λ ys. HeadOpens R v c.args.code.now.targets.now c.args.starting.now.vars.now (shapes_of ys) (record { rules = y.rules; tokens = c.forget_inside.new.tokens; words = y.words; next = y.next; branch = y.branch }) c.open_head.new.state c.in-Ok.inner) c.as_slice.ensures
            (c.in-Ok.ensures.opened R v below (ap (λ ys. in_order v.next c.args.starting.now.vars.now (shapes_of ys)) c.as_slice.ensures ∙ order) is)),
      );
}
