use Rattle.std.proofs.Common.{◌∙◌, ◌<◌, ap, sym, subst}
use Rattle.std.specs.Option.{option_copied, option_map}
use Rattle.fit_tokens.specs.Standing.{all_stand, standing_in, standing_of}
use Rattle.ownership.specs.Entries.{spot_of}
use Rattle.fit_state.proofs.InfosLemmas.{info_missing, info_found, place_below, spot_there, standing_there, counts}
use Rattle.fit_state.proofs.ShapesLemmas.{if_then}
use Rattle.fit_state.proofs.infos.var_info.Goals as goal

pub returns-in-None : goal.returns-in-None
returns-in-None c = λ R s h. sym (info_missing c.args.state.now.rules.context.spots s.hold s.entries c.args.var h.held.same.spots (sym c.index_of.ensures.place ∙ c.in-None.is))

pub returns-in-Some-get-2 : goal.returns-in-Some-get-2
returns-in-Some-get-2 c =
    if_then c.entry_info.result _ _ c.entry_info.ensures
    (λ found p R s h.
    p
    ∙ sym (info_found c.args.state.now.rules.context.spots s.hold s.entries c.args.var c.in-Some.index (spot_of c.in-Some-get.entry) (standing_of c.in-Some-get-2.words.now) h.held.same.spots (sym c.index_of.ensures.place ∙ c.in-Some.is)
    (sym c.get.ensures ∙ ap (option_map spot_of) c.in-Some-get.is)
    (ap (λ z. standing_in z c.in-Some.index) (sym h.known.words) ∙ sym c.get-in-Some-get.ensures ∙ ap (λ o. option_map standing_of (option_copied o)) c.in-Some-get-2.is)))

pub returns-in-None-get-2 : goal.returns-in-None-get-2
returns-in-None-get-2 c = λ R s h.
    absurd (standing_there (all_stand s.entries) c.in-Some.index
    (subst (λ n. c.in-Some.index < n) (counts c.args.state.now.rules.context.spots s.hold s.entries h.held.same.spots) (place_below c.args.state.now.rules.context.spots c.args.var c.in-Some.index (sym c.index_of.ensures.place ∙ c.in-Some.is)))
    (ap (λ z. standing_in z c.in-Some.index) (sym h.known.words) ∙ sym c.get-in-Some-get.ensures ∙ ap (λ o. option_map standing_of (option_copied o)) c.in-None-get-2.is))

pub returns-in-None-get : goal.returns-in-None-get
returns-in-None-get c = λ R s h.
    absurd (spot_there c.args.state.now.rules.context.spots c.in-Some.index (place_below c.args.state.now.rules.context.spots c.args.var c.in-Some.index (sym c.index_of.ensures.place ∙ c.in-Some.is)) (sym c.get.ensures ∙ ap (option_map spot_of) c.in-None-get.is))
