use Rattle.std.proofs.Common.{◌≡◌, ◌-◌, ◌∙◌, suc, ap, sym, subst, arith}
use Rattle.std.proofs.lemmas.Bool.{le-ltb}
use Rattle.std.specs.Option.{option_map}
use Rattle.ownership.specs.Entries.{spot_of}
use Rattle.fit_state.specs.Left.{none_below}
use Rattle.fit_state.proofs.LeftLemmas.{AllPast, none_here, past_here, past_more}
use Rattle.fit_state.proofs.left.left_below.Goals as goal

pub each-preserved : goal.each-preserved
each-preserved c =
    let k : c.each.place ≡ suc (c.each.place - 1) = omega arith in
    let a = c.from.ensures in
    let e = sym c.get.ensures ∙ ap (option_map spot_of) c.in-Some.is in
    let v = le-ltb c.in-Some.entry.var c.args.mark (omega arith) in
    let l = sym c.is_left.ensures ∙ c.if-is_left.false in
    record {
      within = let w = c.each.invariant.within in omega arith;
      none = c.each.invariant.none ∙ ap (none_below c.args.context.now.spots c.args.mark c.args.gone.now) k ∙ none_here c.args.context.now.spots c.args.mark c.args.gone.now (c.each.place - 1) (spot_of c.in-Some.entry) e v l;
      past = past_more c.args.context.now.spots c.args.mark c.args.gone.now (c.each.place - 1) c.args.limit (subst (λ n. AllPast c.args.context.now.spots c.args.mark c.args.gone.now n c.args.limit) k c.each.invariant.past)
          (past_here c.args.mark c.args.gone.now _ (spot_of c.in-Some.entry) e v l);
    }
