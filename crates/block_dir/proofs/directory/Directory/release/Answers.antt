use Rattle.std.proofs.Common.{◌≡◌, ◌+◌, ◌*◌, ◌<◌, ◌∙◌, sym, ap, subst, arith}
use Rattle.atomic_table.specs.Seated.{TableId}
use Rattle.block_dir.specs.declared.view.View.{View}
use Rattle.block_dir.specs.Views.{released}
use Rattle.block_dir.specs.Rule.{AtomicStep}
use Rattle.block_dir.proofs.Told.{frees_told}
use Rattle.block_dir.proofs.Unmarks.{unmarked_released, unmarked_as}
use Rattle.block_dir.proofs.directory.Directory.release.Goals as goal

pub fetch_add-requires : goal.fetch_add-requires
fetch_add-requires c =
    let t = c.args.self.now.table.shared in
    let s = c.args.seat.now in
    let words : s.seat.table_id.words ≡ t.table_id.words = ap (λ (z : TableId). z.words) c.requires.same in
    let b = c.args.block in
    let n = c.requires.held.0 in
    let own = c.requires.held.1 in
    let all = own.all b (omega arith) (omega arith) in
    let roomy = s.roomy in let within = s.sound.within in let low = s.sound.below b (omega arith) in (
      c.requires.same,
      omega arith,
      frees_told t.key t.table_id.slots s.seat.id s.seat.me b n own,
    )

pub invariant_of-seat : goal.invariant_of-seat
unfolding released
invariant_of-seat c =
    let e = c.fetch_add.ensures in
    let s = c.args.seat.now in
    let b = c.args.block in
    let n = c.requires.held.0 in
    let v : c.fetch_add.new.seat.me.0 ≡ released b n s.seat.me.0 = (e.2.0 n c.requires.held.1.header).0 in
    let heavy : 0 < c.fetch_add.new.seat.me.0.weight = let k = ap (λ (x : View). x.weight) v in let h = s.counts in omega arith in record {
      placed = s.placed ∙ sym (ap (λ (x : View). x.position) v);
      bare = e.2.1 ∙ s.bare;
      counts = heavy;
      roomy = let k = ap (λ (x : View). x.room) v in let z = ap (λ (x : TableId). x.words) e.0 in let r = s.roomy in omega arith;
      unmarked = unmarked_as (released b n s.seat.me.0) _ v (unmarked_released b n s.seat.me.0 s.unmarked);
      sound = (e.2.2 heavy).0;
    }

pub returns-clause-step : goal.returns-clause-step
returns-clause-step c n own =
    let s = c.args.seat.now in
    let freed_by = c.fetch_add.ensures.2.0 n own.header in subst (λ (w : View). AtomicStep s.seat.me.0 w c.args.block (2 * n + 2) (2 * n + 3)) (sym freed_by.0) (freed_by.1 s.counts)
