use Rattle.std.proofs.Common.{rules, ◌≡◌, ap, ◌∙◌, sym, subst, get_or}
use Rattle.std.proofs.lemmas.List.Sorted.{answers_always}
use Rattle.std.specs.Prelude.{Some, None, IfOk, IfErr}
use Rattle.row_index.specs.Index.{key, row_at, row_of}
use Rattle.row_index.specs.declared.index.Entry.{Entry}
use Rattle.row_index.specs.declared.index.TheConstants.{INDEX}
use Rattle.rule_check.specs.declared.table.TheConstants.{RULES}
use Rattle.row_index.proofs.IndexLemmas.{entry_key, some_entry, searched}
use Rattle.row_index.proofs.index.row_at.Goals as goal

pub returns-in-Ok : goal.returns-in-Ok
returns-in-Ok c =
    let facts = c.binary_search_by_key.ensures in
    let by_key = facts.position entry_key (answers_always _ _ _ (λ f a r g called. search rules)) in
    let found = λ (d : Entry). subst (λ r. IfOk r (λ i. row_at RULES c.key.result ≡ Some (row_of (get_or INDEX i d)))) c.in-Ok.is (searched c.key.result d _ facts.bound by_key).found in
    ap Some c.row.ensures ∙ sym (found _) ∙ ap (row_at RULES) c.key.ensures

pub returns-in-Err : goal.returns-in-Err
returns-in-Err c =
    let facts = c.binary_search_by_key.ensures in
    let by_key = facts.position entry_key (answers_always _ _ _ (λ f a r g called. search rules)) in
    let absent = λ (d : Entry). subst (λ r. IfErr r (λ i. row_at RULES c.key.result ≡ None)) c.in-Err.is (searched c.key.result d _ facts.bound by_key).absent in
    sym (absent some_entry) ∙ ap (row_at RULES) c.key.ensures
