use Rattle.std.proofs.Common.{◌≡◌, ◌≤◌, ◌<◌, ◌-◌, ℕ, refl, sym, ap, ◌∙◌, subst, arith}
use Rattle.std.specs.Prelude.{IfOk, Some, None}
use Rattle.std.proofs.lemmas.Result.{IfOk-weaker}
use Rattle.share_table.specs.declared.entry.Entry.{Entry}
use Rattle.share_table.specs.Amounts.{Measures, amount, length_in}
use Rattle.share_table.specs.Segments.{Pushed, Segments, shared}
use Rattle.share_table.proofs.Sums.{amount_le}
use Rattle.share_table.proofs.Dealt.{segment_is, tells, tells_none}
use Rattle.share_table.proofs.segments.add_segment.Goals.{in-Some, in-None}
use Rattle.share_table.proofs.segments.add_segment.Goals as goal

pub amount_of-has-requires : goal.amount_of-has-requires
amount_of-has-requires c = let h = amount_le c.args.entries.now c.args.taking.from c.args.taking.block c.args.place in let f = c.requires.few c.args.taking.block c.args.place in omega arith

pub returns : goal.returns
returns c =
    let es = c.args.entries.now in
    let t = c.args.taking in
    let tl : (f : ℕ → ℕ) → Measures es f → 0 < amount es t.from t.block 0 → c.match-length_of.len ≡ f t.block = elim c.match-length_of.branch [
      | in-Some w ↦ λ f m h. w.len-is ∙ tells es t.from t.block w.in-Some.len f (sym c.length_of.ensures ∙ w.in-Some.is) m h
      | in-None w ↦ λ f m h. tells_none es t.from t.block c.match-length_of.len f (sym c.length_of.ensures ∙ w.in-None.is) m h
    ] in
    let e : Entry = record { block = t.block; first = c.args.place; count = c.args.next - c.args.place; len = c.match-length_of.len; share = 0; owner = 0 } in
    let has = c.amount_of-has.result in
    let left = c.left_of-left.result in
    let old = c.args.table.now.items in
    let mid = c.add_share.new.table.items in
    let new = c.add_share-2.new.table.items in
    IfOk-weaker c.add_share-2.result (λ u. Pushed (shared e t.to (has - left)) mid new) (λ u. Segments es t c.args.place c.args.next old new)
    (λ u h. segment_is es t c.args.place c.args.next c.match-length_of.len has left c.requires.order c.requires.end c.amount_of-has.ensures c.left_of-left.ensures.left c.requires.same old mid new tl c.in_ok-add_share.ensures h)
    c.add_share-2.ensures
