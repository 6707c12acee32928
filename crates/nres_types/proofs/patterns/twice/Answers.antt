use Rattle.std.proofs.Common.{◌∙◌, ap, []}
use Rattle.nres_rules.specs.Types.{twice}
use Rattle.nres_types.proofs.Duplicates.{fresh_rest, fresh_has, not_seen}
use Rattle.nres_types.proofs.patterns.twice.Goals as goal

pub loop-named-preserved : goal.loop-named-preserved
loop-named-preserved c =
    let name = c.bytes-name.ensures ∙ ap (λ z. z.name) c.named-item.is in
    record {
      rest = fresh_rest c.loop-named.seen (twice [] c.args.names.now) c.args.names.now c.loop-named.named-index c.named-item.result c.bytes-name.result c.loop-named-test.true c.loop-named.invariant.rest c.loop-named.invariant.has name
          (not_seen c.in_ok-insert.field-0 _ c.in_ok-insert.ensures.added c.if-not-branch.false);
      has = fresh_has c.loop-named.seen c.insert.new.self c.args.names.now c.loop-named.named-index c.named-item.result c.bytes-name.result c.loop-named-test.true c.loop-named.invariant.has name c.in_ok-insert.ensures.updates;
    }
