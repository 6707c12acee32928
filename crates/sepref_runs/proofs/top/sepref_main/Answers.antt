use Rattle.std.proofs.Common.{ap, ◌∙◌, subst}
use Rattle.sepref_top.specs.declared.words.Line.{Line}
use Rattle.sepref_runs.specs.Replays.{IsAnswered, IsTold}
use Rattle.sepref_runs.specs.Runs.{Due, HasResults, HasSpecResults, Went, Wrote}
use Rattle.sepref_runs.proofs.Tops.{answered, done, of_exec, of_none, of_replay, of_run, ran, same_line}
use Rattle.sepref_runs.proofs.top.sepref_main.Goals as goal

pub returns-in-Some-clause-executed : goal.returns-in-Some-clause-executed
returns-in-Some-clause-executed g c = λ l a k e.
    let r = g.I.Source.remaining in
    let w = g.K.Sink.contents in
    let same = same_line _ c.in-Some.line l c.in-Some.ensures a in
    subst (λ (x : Line). Went (HasResults x) (r c.args.source.now) (r c.run_main.new.source) (w c.args.sink.now) (w c.run_main.new.sink)) same
    (done c.in-Some.line (ap (λ (x : Line). x.command) same ∙ k) c.run_main.ensures.wrote e)

pub returns-in-Some-clause-ran : goal.returns-in-Some-clause-ran
returns-in-Some-clause-ran g c = λ l a k e.
    let r = g.I.Source.remaining in
    let w = g.K.Sink.contents in
    let same = same_line _ c.in-Some.line l c.in-Some.ensures a in
    subst (λ (x : Line). Went (HasSpecResults x) (r c.args.source.now) (r c.run_main.new.source) (w c.args.sink.now) (w c.run_main.new.sink)) same
    (ran c.in-Some.line (ap (λ (x : Line). x.command) same ∙ k) c.run_main.ensures.wrote e)

pub returns-in-Some-clause-replayed : goal.returns-in-Some-clause-replayed
returns-in-Some-clause-replayed g c = λ l a k e.
    let r = g.I.Source.remaining in
    let w = g.K.Sink.contents in
    let same = same_line _ c.in-Some.line l c.in-Some.ensures a in
    subst (λ (x : Line). Went (IsAnswered x.heap) (r c.args.source.now) (r c.run_main.new.source) (w c.args.sink.now) (w c.run_main.new.sink)) same
    (answered c.in-Some.line (ap (λ (x : Line). x.command) same ∙ k) c.run_main.ensures.wrote e)

pub returns-in-Some-clause-told : goal.returns-in-Some-clause-told
returns-in-Some-clause-told g c = λ text l e m a k.
    let same = same_line _ c.in-Some.line l c.in-Some.ensures a in
    subst (λ (x : Line). IsTold x.heap text c.run_main.result) same (c.run_main.ensures.told text e m (ap (λ (x : Line). x.command) same ∙ k))

pub returns-in-None-clause-executed : goal.returns-in-None-clause-executed
returns-in-None-clause-executed g c = λ l a k e. absurd (of_none _ l c.in-None.ensures a (of_exec l k))

pub returns-in-None-clause-ran : goal.returns-in-None-clause-ran
returns-in-None-clause-ran g c = λ l a k e. absurd (of_none _ l c.in-None.ensures a (of_run l k))

pub returns-in-None-clause-replayed : goal.returns-in-None-clause-replayed
returns-in-None-clause-replayed g c = λ l a k e. absurd (of_none _ l c.in-None.ensures a (of_replay l k))

pub returns-in-None-clause-told : goal.returns-in-None-clause-told
returns-in-None-clause-told g c = λ text l e m a k. absurd (of_none _ l c.in-None.ensures a (of_replay l k))
