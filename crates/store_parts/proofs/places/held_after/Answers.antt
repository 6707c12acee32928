use Rattle.std.proofs.Common.{◌≡◌, sym, subst, map, true, false}
use Rattle.std.specs.Option.{option_copied}
use Rattle.target_meaning.specs.Piece.{share_of}
use Rattle.target_meaning.specs.Turns.{part_of}
use Rattle.store_parts.specs.Tests.{left_by, piece_after}
use Rattle.store_parts.proofs.Steps.{after_nil, left_two}
use Rattle.store_parts.proofs.places.held_after.Goals as goal

pub returns-in-None-clause-far : goal.returns-in-None-clause-far
returns-in-None-clause-far g c b j h = after_nil (option_copied c.args.left) (g.H.Holding.piece c.args.holding.now) b j (c.held-held.ensures.far b j h)

pub returns-in-Some-clause-far : goal.returns-in-Some-clause-far
returns-in-Some-clause-far g c b j h = after_nil (option_copied c.args.left) (g.H.Holding.piece c.args.holding.now) b j (c.held-held.ensures.far b j h)

pub returns-in-Some-clause-held : goal.returns-in-Some-clause-held
returns-in-Some-clause-held g c =
    let p = g.H.Holding.piece c.args.holding.now in
    let l = c.in-Some.left.now in
    let x = share_of c.held-held.result.value c.held-held.result.amount in
    let y = share_of c.after-held.result.value c.after-held.result.amount in
    let z = share_of c.after.result.value c.after.result.amount in
    subst (λ o. z ≡ piece_after (option_copied o) p c.args.block c.args.place) (sym c.in-Some.is)
    (left_two l p c.args.block c.args.place x y z c.held-held.ensures.held
    (subst (λ w. y ≡ left_by (map (λ q. record { part = q; all = true }) (map part_of w)) c.args.block c.args.place x) c.as_slice.ensures.value c.after-held.ensures)
    (subst (λ w. z ≡ left_by (map (λ q. record { part = q; all = false }) (map part_of w)) c.args.block c.args.place y) c.as_slice-in-Some.ensures.value c.after.ensures))
