use Rattle.std.proofs.Common.{ap, ◌∙◌}
use Rattle.std.specs.Prelude.{Option}
use Rattle.nres_core.specs.declared.row.Kind.{Kind}
use Rattle.nres_core.specs.declared.row.Row.{Row}
use Rattle.rule_check.specs.declared.table.TheConstants.{RULES}
use Rattle.row_index.specs.FirstRow.{rule_of_row}
use Rattle.row_index.specs.Index.{key, row_at, if_it_fits}
use Rattle.row_index.proofs.IndexLemmas.{found_first, found_rule}
use Rattle.row_index.proofs.index.row_of.Goals as goal

pub returns : goal.returns
returns c =
    let found = c.if_it_fits.ensures
    ∙ ap (λ (r : Option Row). if_it_fits r c.args.op c.args.reps.now c.args.made) (c.row_at.ensures ∙ ap (λ (x : Kind). row_at RULES (key c.args.op x)) c.own_kind.ensures) in
    record {
      first = found ∙ found_first c.args.op c.args.reps.now c.args.made;
      fits = ap rule_of_row found ∙ found_rule c.args.op c.args.reps.now c.args.made;
    }
