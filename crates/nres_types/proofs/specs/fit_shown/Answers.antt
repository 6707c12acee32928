use Rattle.target_code.specs.declared.tree.Rep.TheVariants.{Word}
use Rattle.nres_rules.specs.Types.{shown_fit}
use Rattle.nres_core.specs.declared.ty.Ty.TheVariants.{Nat}
use Rattle.nres_types.specs.Findings.{told_of, noted, wrongs}
use Rattle.nres_types.proofs.Entries.{shown_more, shown_last}
use Rattle.nres_types.proofs.specs.fit_shown.Goals as goal

pub loop-one-preserved : goal.loop-one-preserved
loop-one-preserved c = shown_more (noted (told_of c.args.findings.now) (shown_fit c.args.shown.now)) (told_of c.loop-one.findings) (told_of c.note.new.self) c.args.shown.now c.loop-one.one-index (record { ty = Nat; rep = Word; rep_place = record { line = 0; column = 0 } }) (wrongs c.rep_fits.result) c.loop-one-test.true c.loop-one.invariant c.rep_fits.ensures c.note.ensures

pub returns : goal.returns
returns c = shown_last (noted (told_of c.args.findings.now) (shown_fit c.args.shown.now)) (told_of c.loop-one.findings) c.args.shown.now c.loop-one.one-index c.loop-one-test.false c.loop-one.invariant
