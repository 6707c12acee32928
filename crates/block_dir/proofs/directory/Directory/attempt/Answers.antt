use Rattle.std.proofs.Common.{◌≡◌, ℕ, ◌+◌, ◌*◌, ◌/◌, ◌<◌, ◌∙◌, sym, refl, ap, subst, arith, get_or}
use Rattle.atomic_table.specs.Seated.{TableId}
use Rattle.block_dir.specs.declared.view.View.{View}
use Rattle.block_dir.specs.Views.{won, walked}
use Rattle.block_dir.specs.Rule.{AtomicStep, IsUnused}
use Rattle.block_dir.proofs.Told.{claims_told}
use Rattle.block_dir.proofs.Meaning.{unused}
use Rattle.block_dir.proofs.Unmarks.{unmarked_won, unmarked_as}
use Rattle.block_dir.proofs.directory.Directory.attempt.Goals as goal

pub compare_exchange-found-requires : goal.compare_exchange-found-requires
compare_exchange-found-requires c =
    let t = c.args.self.now.table.shared in
    let s = c.args.seat.now in
    let words : s.seat.table_id.words ≡ t.table_id.words = ap (λ (z : TableId). z.words) c.requires.same in
    let sized = c.args.self.now.sized in let roomy = s.roomy in let room = c.requires.room in (
      c.requires.same,
      omega arith,
      claims_told t.key t.table_id.slots s.seat.id s.seat.me s.position c.args.len (sym s.placed) s.counts (omega arith),
    )

pub invariant_of-seat : goal.invariant_of-seat
unfolding won
invariant_of-seat c =
    let e = c.compare_exchange-found.ensures in
    let s = c.args.seat.now in
    let v : c.compare_exchange-found.new.seat.me.0 ≡ won s.position c.args.len s.seat.me.0 = (e.2.0.0 c.if-found-eq0.true c.args.len refl).0 in
    let heavy : 0 < c.compare_exchange-found.new.seat.me.0.weight = let k = ap (λ (x : View). x.weight) v in let h = s.counts in omega arith in record {
      placed = sym (ap (λ (x : View). x.position) v);
      bare = e.2.1 ∙ s.bare;
      counts = heavy;
      roomy = let k = ap (λ (x : View). x.room) v in let z = ap (λ (x : TableId). x.words) e.0 in let r = s.roomy in omega arith;
      unmarked = unmarked_as (won s.position c.args.len s.seat.me.0) _ v (unmarked_won s.position c.args.len s.seat.me.0 s.unmarked);
      sound = (e.2.2 heavy).0;
    }

pub invariant_of-seat-2 : goal.invariant_of-seat-2
unfolding walked
invariant_of-seat-2 c =
    let e = c.compare_exchange-found.ensures in
    let s = c.args.seat.now in
    let q = s.position + c.compare_exchange-found.result / 2 in
    let v : c.compare_exchange-found.new.seat.me.0 ≡ walked q s.seat.me.0 = (e.2.0.1 c.if-found-eq0.false).1 in
    let heavy : 0 < c.compare_exchange-found.new.seat.me.0.weight = let k = ap (λ (x : View). x.weight) v in let h = s.counts in omega arith in record {
      placed = sym (ap (λ (x : View). x.position) v);
      bare = e.2.1 ∙ s.bare;
      counts = heavy;
      roomy = let k = ap (λ (x : View). x.room) v in let z = ap (λ (x : TableId). x.words) e.0 in let r = s.roomy in omega arith;
      unmarked = unmarked_as (walked q s.seat.me.0) _ v s.unmarked;
      sound = (e.2.2 heavy).0;
    }

pub returns-then-found-eq0-clause-step : goal.returns-then-found-eq0-clause-step
returns-then-found-eq0-clause-step c _ =
    let s = c.args.seat.now in
    let at = s.position in
    let won_by = c.compare_exchange-found.ensures.2.0.0 c.if-found-eq0.true c.args.len refl in
    let step : AtomicStep s.seat.me.0 c.compare_exchange-found.new.seat.me.0 at 0 (2 * c.args.len + 2) = subst (λ (w : View). AtomicStep s.seat.me.0 w at 0 (2 * c.args.len + 2)) (sym won_by.0) won_by.1 in record {
      step = step;
      unused = subst (IsUnused step.before) (sym s.placed) (unused s.seat.me.0.room step.before step.id s.seat.me.0 step.ruled step.seat (subst (λ (p : ℕ). get_or step.before.words p 0 ≡ 0) s.placed step.word));
    }
