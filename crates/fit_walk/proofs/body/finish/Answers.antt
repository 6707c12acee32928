use Rattle.std.proofs.Common.{◌≡◌, ◌<◌, List, [], ◌∷◌, length, arith, refl}
use Rattle.std.specs.Prelude.{None, Some}
use Rattle.fit_blocks.proofs.EndingLemmas.{empty, more_than_none}
use Rattle.fit_state.specs.Passing.{Fails, GoesTo}
use Rattle.fit_walk.proofs.BodyLemmas as body
use Rattle.fit_walk.proofs.CycleLemmas.{none_as, some_as}
use Rattle.fit_walk.proofs.PlainLemmas.{if_ok_then}
use Rattle.fits.specs.Follow.{pass_all}
use Rattle.fit_walk.proofs.body.finish.Goals as goal

pub returns-in_default : goal.returns-in_default
returns-in_default c = λ V s views is older.
    let R = c.args.frame.now.regs in
    let code = c.args.code.now in
    let mid = c.pass_all.new.state in
    body.finish_unpassed R V c.args.body.now s code mid (none_as (Fails (pass_all R V s code)) (λ l. GoesTo R s mid l.now (pass_all R V s code)) _ c.in_default.is (c.in_ok-left.ensures.passed V s is))

pub returns-then-is_empty : goal.returns-then-is_empty
returns-then-is_empty c =
    let R = c.args.frame.now.regs in
    let b = c.args.body.now in
    let code = c.args.code.now in
    let mid = c.pass_all.new.state in
    let left = c.in-Some.left in
    let none = empty left.now c.if-is_empty.ensures in
    if_ok_then c.finish_here.result _ _
    (λ over h V s views is older.
    let g = some_as (Fails (pass_all R V s code)) (λ l. GoesTo R s mid l.now (pass_all R V s code)) _ left c.in-Some.is (c.in_ok-left.ensures.passed V s is) in
    body.finish_here R V b s code mid left.now g c.finish_here.new.state over none c.finish_here.ensures.branch (h V g.next views g.is (body.finish_older R V b s code mid left.now g older none)))
    c.finish_here.ensures.over

pub returns-else-is_empty : goal.returns-else-is_empty
returns-else-is_empty c = λ V s views is older.
    let R = c.args.frame.now.regs in
    let code = c.args.code.now in
    let mid = c.pass_all.new.state in
    let left = c.in-Some.left in
    body.finish_more R V c.args.body.now s code mid left.now (some_as (Fails (pass_all R V s code)) (λ l. GoesTo R s mid l.now (pass_all R V s code)) _ left c.in-Some.is (c.in_ok-left.ensures.passed V s is)) mid (more_than_none left.now c.if-is_empty.ensures)
