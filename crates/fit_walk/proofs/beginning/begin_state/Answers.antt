use Rattle.std.proofs.Common.{◌≡◌, ◌≤◌, length, refl, sym, subst}
use Rattle.fit_tokens.specs.Changes.{tokens_of}
use Rattle.fit_walk.proofs.BeginLemmas.{body_begins, tokens_count}
use Rattle.fit_walk.specs.Bodies.{body_params, body_regs}
use Rattle.fit_walk.proofs.beginning.begin_state.Goals as goal

pub returns-in-Ok-clause-at : goal.returns-in-Ok-clause-at
returns-in-Ok-clause-at c =
    let b = c.args.body.now in
    let ts = tokens_of c.args.words.now in
    body_begins (body_regs b) b.first b.branch (body_params b) ts
    (record { rules = record { context = c.new.result; facts = c.new-2.result; calculations = c.new-3.result; start = 0 }; tokens = c.in_ok-tokens.tokens; words = c.new-4.result; next = c.from.result; branch = b.branch })
    c.bind_params.new.state
    (record { spots = c.new.ensures.spots; facts = c.new-2.ensures; calculations = c.new-3.ensures; start = refl; tokens = c.in_ok-tokens.ensures.0; words = c.new-4.ensures; branch = refl })
    c.in-Ok.ensures c.requires.words (subst (λ n. n ≤ body_regs b) (sym (tokens_count c.args.words.now)) c.requires.regs)
