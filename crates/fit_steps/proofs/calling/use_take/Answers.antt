use Rattle.std.proofs.Common.{◌∙◌, ap, sym}
use Rattle.std.specs.Prelude.{Some}
use Rattle.std.proofs.lemmas.Result.{IfOk-weaker}
use Rattle.fit_state.specs.Infos.{lists_of}
use Rattle.fit_steps.proofs.UseLemmas.{lists_are, taken_grows, taken_is, taken_not}
use Rattle.ownership.specs.Entries.{shapes_of, spots_of}
use Rattle.ownership.specs.Faults.{after_taken}
use Rattle.proc_rules.specs.Calls.{sig_view, taken_of}
use Rattle.fit_steps.proofs.calling.use_take.Goals as goal

pub returns-in-Some-clause-taken : goal.returns-in-Some-clause-taken
returns-in-Some-clause-taken c =
    taken_not c.args.call.now (spots_of c.args.entries.now) (shapes_of c.args.shapes.now) c.args.to.now c.args.state.now _ _ c.len.ensures.differ (sym c.in-Some.is ∙ c.in_ok-take_call.ensures.fault)

pub use_bind-requires : goal.use_bind-requires
use_bind-requires c =
    lists_are c.as_slice.result.now c.args.shapes.now c.args.call.now c.args.state.now.next (spots_of c.args.entries.now) (ap lists_of c.as_slice.ensures ∙ c.in_ok-words-in-None.ensures) c.requires.shapes c.requires.order

pub returns-in_ok-words-in-None-clause-taken : goal.returns-in_ok-words-in-None-clause-taken
returns-in_ok-words-in-None-clause-taken c =
    let a = c.args.call.now in
    let x = c.args.state.now in
    let ss = spots_of c.args.entries.now in
    IfOk-weaker c.use_bind.result _ _ (λ r bound.
    taken_is a ss (shapes_of c.args.shapes.now) c.args.to.now x c.use_bind.new.state c.take_call.new.context (lists_of c.as_slice.result.now) r c.len.ensures.differ (sym c.in-None.is ∙ c.in_ok-take_call.ensures.fault)
    (c.in_ok-take_call.ensures.taken ∙ ap (λ o. after_taken o (taken_of ss (Some (sig_view a.sig))) x.rules.context) c.in-None.is) (ap lists_of c.as_slice.ensures ∙ c.in_ok-words-in-None.ensures) bound)
    c.use_bind.ensures.bound

pub returns-in_ok-words-in-None-clause-grows : goal.returns-in_ok-words-in-None-clause-grows
returns-in_ok-words-in-None-clause-grows c =
    let a = c.args.call.now in
    let x = c.args.state.now in
    let ss = spots_of c.args.entries.now in
    IfOk-weaker c.use_bind.result _ _ (λ r grows t.
    taken_grows a ss x c.use_bind.new.state c.take_call.new.context (c.in_ok-take_call.ensures.taken ∙ ap (λ o. after_taken o (taken_of ss (Some (sig_view a.sig))) x.rules.context) c.in-None.is) (grows t c.requires.order))
    c.use_bind.ensures.grows
