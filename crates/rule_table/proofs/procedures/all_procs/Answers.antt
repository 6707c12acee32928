use Rattle.std.proofs.Common.{◌++◌, List, map, take, drop, ap, ◌∙◌}
use Rattle.std.proofs.lemmas.Result.{on_ok_weaker}
use Rattle.target_code.specs.declared.tree.Proc.{Proc}
use Rattle.rule_table.specs.Library.{library, helpers}
use Rattle.rule_table.specs.RowProcedures.{procedure}
use Rattle.rule_table.specs.declared.procedures.TheConstants.{BEFORE_HELPERS, BEHIND_HELPERS}
use Rattle.rule_table.proofs.procedures.all_procs.Goals as goal

-- each part goes behind what was there, and the parts are the library
pub returns : goal.returns
unfolding library
returns c = on_ok_weaker c.add_all-2.result (λ e none.
    e ∙ ap (λ (l : List Proc). l ++ map procedure BEHIND_HELPERS)
    (c.in_ok-last_helpers.ensures ∙ ap (λ (l : List Proc). l ++ drop 3 helpers)
    (c.in_ok-first_helpers.ensures ∙ ap (λ (l : List Proc). l ++ take 3 helpers)
    (c.in_ok-add_all.ensures ∙ ap (λ (l : List Proc). l ++ map procedure BEFORE_HELPERS) none)))) c.add_all-2.ensures
