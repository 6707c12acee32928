use Rattle.std.proofs.Common.{◌≡◌, ◌+◌, ◌<◌, ◌∙◌, sym, ap, arith}
use Rattle.atomic_table.specs.Seated.{TableId}
use Rattle.block_dir.specs.declared.view.View.{View}
use Rattle.block_dir.specs.Views.{written}
use Rattle.block_dir.proofs.Told.{stores_told}
use Rattle.block_dir.proofs.Unmarks.{unmarked_written, unmarked_as}
use Rattle.block_dir.proofs.directory.Directory.write.Goals as goal

pub store-requires : goal.store-requires
store-requires c =
    let t = c.args.self.now.table.shared in
    let s = c.args.seat.now in
    let words : s.seat.table_id.words ≡ t.table_id.words = ap (λ (z : TableId). z.words) c.requires.same in
    let p = c.args.block + 1 + c.args.index in
    let held = c.requires.held in let all = held.share in let home = held.home in
    let roomy = s.roomy in let within = s.sound.within in let low = s.sound.below p (omega arith) in (
      c.requires.same,
      omega arith,
      stores_told t.key t.table_id.slots s.seat.id s.seat.me p c.args.value (record { word = λ e. omega arith; all = held.share }),
    )

pub invariant_of-seat : goal.invariant_of-seat
unfolding written
invariant_of-seat c =
    let e = c.store.ensures in
    let s = c.args.seat.now in
    let p = c.args.block + 1 + c.args.index in
    let v : c.store.new.seat.me.0 ≡ written p c.args.value s.seat.me.0 = e.2.0.0 in
    let heavy : 0 < c.store.new.seat.me.0.weight = let k = ap (λ (x : View). x.weight) v in let h = s.counts in omega arith in record {
      placed = s.placed ∙ sym (ap (λ (x : View). x.position) v);
      bare = e.2.1 ∙ s.bare;
      counts = heavy;
      roomy = let k = ap (λ (x : View). x.room) v in let z = ap (λ (x : TableId). x.words) e.0 in let r = s.roomy in omega arith;
      unmarked = unmarked_as (written p c.args.value s.seat.me.0) _ v (unmarked_written p c.args.value s.seat.me.0 s.unmarked);
      sound = (e.2.2 heavy).0;
    }
