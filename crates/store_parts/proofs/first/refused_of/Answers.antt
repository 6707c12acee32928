use Rattle.std.proofs.Common.{map, true, false, [], ◌++◌}
use Rattle.std.specs.Option.{option_copied}
use Rattle.target_meaning.specs.Turns.{part_of}
use Rattle.branch_exec.specs.Stores.{AllTakable, FirstRefused}
use Rattle.store_parts.specs.Tests.{Fails, Passed, piece_after, takes_by}
use Rattle.store_parts.proofs.Steps.{branch_fails, branch_passed, match_map}
use Rattle.store_parts.proofs.first.refused_of.Goals as goal

pub returns-in-None : goal.returns-in-None
returns-in-None g c =
    let q = piece_after (option_copied c.args.left) (g.H.Holding.piece c.args.holding.now) in
    let hs = c.as_slice-hands.result.now in
    let ls = c.as_slice.result.now in
    let hs2 = c.args.branch.now.hands.items in
    let ls2 = c.args.branch.now.lends.items in
    let lent = c.args.lent.now in
    match_map c.refused_in-in-None.result (Passed (map part_of hs) false lent ls q) (AllTakable [] (takes_by true [] hs2 ++ takes_by false lent ls2) q)
    (λ f. Fails (map part_of hs) false lent ls q f.0 f.1) (λ f. FirstRefused [] (takes_by true [] hs2 ++ takes_by false lent ls2) q f.0 f.1)
    (λ z. branch_passed lent hs ls hs2 ls2 q c.as_slice-hands.ensures.value c.as_slice.ensures.value c.in-None.ensures z)
    (λ f z. branch_fails lent hs ls hs2 ls2 q f.0 f.1 c.as_slice-hands.ensures.value c.as_slice.ensures.value c.in-None.ensures z)
    c.refused_in-in-None.ensures
