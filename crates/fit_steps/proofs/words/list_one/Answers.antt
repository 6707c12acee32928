use Rattle.std.proofs.Common.{◌≡◌, ◌++◌, ◌∷◌, [], ◌∙◌, sym}
use Rattle.indexmap.proofs.MapLemmas.{OnOk-map}
use Rattle.fit_state.specs.Infos.{lists_of}
use Rattle.fit_steps.specs.Parts.{list_one}
use Rattle.fit_tokens.specs.Changes.{tokens_of}
use Rattle.fit_steps.proofs.WordsLemmas.{list_pushed}
use Rattle.fit_steps.proofs.words.list_one.Goals as goal

pub returns-in_ok-from_slice : goal.returns-in_ok-from_slice
returns-in_ok-from_slice c =
    let p = c.args.param.now in
    let xs = c.args.lists.now in
    let ys = c.push.new.self in
    let ts = c.in_ok-from_slice.field-0 in
    let ws = c.args.info.now.words in
    OnOk-map c.push.result (ys ≡ xs ++ ts ∷ []) (lists_of ys ≡ lists_of xs ++ list_one p (tokens_of ws))
    (list_pushed p xs ys ts ws (sym c.is_slice.ensures ∙ c.if-is_slice.true) c.if-not-param.true (c.in_ok-from_slice.ensures ∙ c.as_slice.ensures)) c.push.ensures.ok
