use Rattle.std.proofs.Common.{rules, ◌≡◌, ◌+◌, ◌∙◌, arith}
use Rattle.block_dir.specs.declared.view.View.{View}
use Rattle.block_dir.specs.Views.{written}
use Rattle.block_dir.specs.Calls.{view}
use Rattle.block_dir.proofs.Laws.{share_joined, share_written, home_joined-same, home_written}
use Rattle.block_dir.proofs.tests.halves.Goals as goal

pub returns-clause-owned : goal.returns-clause-owned
returns-clause-owned g c i lt =
    let b = c.args.block in
    let p = b + 1 + i in
    let l = view c.hand_half-other.new.seat in
    let r = view c.hand_half-other.result in
    let l1 : View = written (b + 1 + 0) 3 l in
    let l2 : View = written (b + 1 + (0 + 1)) (3 + 1) l1 in
    let r1 : View = written (b + 1 + 2) 5 r in
    let r2 : View = written (b + 1 + (2 + 1)) (5 + 1) r1 in
    let one : view c.join-seat.result.0 ≡ l2 = search rules in
    let two : view c.join-seat.result.1 ≡ r2 = search rules in
    let sum = c.hand_half-other.ensures.shares i lt in
    let homes = c.hand_half-other.ensures.homes i lt in
    rw (c.join.ensures.joined, one, two) (record {
      share = let a = share_joined l2 r2 p in let x = share_written (b + 1 + (0 + 1)) (3 + 1) l1 p in let x' = share_written (b + 1 + 0) 3 l p in
          let y = share_written (b + 1 + (2 + 1)) (5 + 1) r1 p in let y' = share_written (b + 1 + 2) 5 r p in omega arith;
      home = home_joined-same l2 r2 p b (home_written (b + 1 + (0 + 1)) (3 + 1) l1 p ∙ (home_written (b + 1 + 0) 3 l p ∙ homes.0)) (home_written (b + 1 + (2 + 1)) (5 + 1) r1 p ∙ (home_written (b + 1 + 2) 5 r p ∙ homes.1));
    })
