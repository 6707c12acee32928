use Rattle.std.proofs.Common.{◌∙◌, ap}
use Rattle.std.specs.Prelude.{option_map, slice_get}
use Rattle.fit_tokens.specs.Changes.{token_of}
use Rattle.fit_steps.proofs.WordsLemmas.{nth_first}
use Rattle.fit_steps.proofs.words.nth_word.Goals as goal

pub returns-in-len1-up : goal.returns-in-len1-up
returns-in-len1-up c =
    ap (option_map token_of) (c.copied.ensures ∙ c.at.ensures ∙ ap (λ ts. slice_get ts c.args.index) c.as_slice.ensures)
    ∙ nth_first c.args.infos.now c.args.index c.first-item.result c.in-len1-up.len_at_least c.first-item.is
