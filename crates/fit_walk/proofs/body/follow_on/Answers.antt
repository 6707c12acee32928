use Rattle.std.proofs.Common.{◌≡◌, true, false, refl, sym, subst}
use Rattle.std.specs.Prelude.{Err, Ok}
use Rattle.fit_blocks.specs.Answers.{AnswerIs}
use Rattle.fit_walk.proofs.BodyLemmas as body
use Rattle.fit_walk.proofs.WalkLemmas.{followed_at, sequential_at}
use Rattle.fit_walk.specs.Bodies.{FinishIs, begins, body_flats}
use Rattle.fits.specs.Follow.{fit}
use Rattle.proof_lines.specs.Lines.{lines_of}
use Rattle.fit_walk.proofs.body.follow_on.Goals as goal

pub returns-then-branch : goal.returns-then-branch
returns-then-branch c = λ V views seq.
    let b = c.args.body.now in
    let R = b.proc.now.regs in
    let lines = lines_of c.args.lines.now in
    let y = c.walk_binds.new.state in
    let r = c.in-Ok.rest in
    let w = c.in_ok-rest.ensures V (begins b) views (sequential_at b.block.now c.as_slice-2.result.now c.as_slice-2.ensures seq) c.requires.at c.requires.open in
    let g = subst (λ z. AnswerIs R y (Ok r) (fit R V (body_flats b).binds (begins b) z lines)) c.as_slice.ensures (followed_at R V b.block.now c.as_slice-2.result.now (begins b) c.as_slice.result.now lines y c.in_ok-rest.field-0 (Ok r) c.as_slice-2.ensures c.in-Ok.is w.0) in
    let over = c.in_ok-finish-in-Ok.ensures V g.last views g.is (body.walk_older V b lines y r g c.requires.at.under) in
    body.walk_over V b lines y r g c.finish.new.state (record { lines = r.lines; branch = c.finish.new.state.branch }) refl refl (subst (FinishIs R V b g.last r.code.now c.finish.new.state) c.if-branch.true over)

pub returns-else-branch : goal.returns-else-branch
returns-else-branch c = λ V views seq.
    let b = c.args.body.now in
    let R = b.proc.now.regs in
    let lines = lines_of c.args.lines.now in
    let y = c.walk_binds.new.state in
    let r = c.in-Ok.rest in
    let w = c.in_ok-rest.ensures V (begins b) views (sequential_at b.block.now c.as_slice-2.result.now c.as_slice-2.ensures seq) c.requires.at c.requires.open in
    let g = subst (λ z. AnswerIs R y (Ok r) (fit R V (body_flats b).binds (begins b) z lines)) c.as_slice.ensures (followed_at R V b.block.now c.as_slice-2.result.now (begins b) c.as_slice.result.now lines y c.in_ok-rest.field-0 (Ok r) c.as_slice-2.ensures c.in-Ok.is w.0) in
    let over = c.in_ok-finish-in-Ok.ensures V g.last views g.is (body.walk_older V b lines y r g c.requires.at.under) in
    body.walk_not_over V b lines y r g c.finish.new.state (record { lines = r.lines }) refl (subst (FinishIs R V b g.last r.code.now c.finish.new.state) c.if-branch.false over)

pub returns-in-Err : goal.returns-in-Err
returns-in-Err c = λ V views seq.
    let b = c.args.body.now in
    let R = b.proc.now.regs in
    let lines = lines_of c.args.lines.now in
    let y = c.walk_binds.new.state in
    let m = c.in-Err.unmet in
    let w = c.in_ok-rest.ensures V (begins b) views (sequential_at b.block.now c.as_slice-2.result.now c.as_slice-2.ensures seq) c.requires.at c.requires.open in
    body.walk_unmet V b lines y m (subst (λ z. AnswerIs R y (Err m) (fit R V (body_flats b).binds (begins b) z lines)) c.as_slice.ensures (followed_at R V b.block.now c.as_slice-2.result.now (begins b) c.as_slice.result.now lines y c.in_ok-rest.field-0 (Err m) c.as_slice-2.ensures c.in-Err.is w.0))
