use Rattle.std.proofs.Common.{◌≡◌, ◌∙◌, sym, subst}
use Rattle.std.specs.Prelude.{nat_le}
use Rattle.fit_state.specs.Infos.{infos_of}
use Rattle.fit_steps.proofs.GoingLemmas.{ok_fails, ok_false, ok_true}
use Rattle.fit_steps.proofs.RegisterLemmas.{word_found}
use Rattle.fit_steps.specs.Applied.{NamedIs}
use Rattle.fit_steps.specs.Parts.{register_next}
use Rattle.fit_tokens.specs.Changes.{token_of}
use Rattle.fits.specs.Follow.{Unmet, need, nth_word, one_out, with_some}
use Rattle.fits.specs.Places.{ctx_of}
use Rattle.proof_lines.specs.Lines.{lines_of}
use Rattle.rule_check.specs.Steps.{apply_sure}
use Rattle.fit_steps.proofs.register.register_here.Goals as goal

pub returns-in-None-clause-stepped : goal.returns-in-None-clause-stepped
returns-in-None-clause-stepped c = λ V s ls stands by is go.
    let a = c.args.applying.now in
    let o = a.operation in
    let code = c.args.rest.code.now in
    let rest = lines_of c.args.rest.lines.now in
    ok_fails (apply_sure V.book (ctx_of s) o.place o.op o.made o.args.now) ls _
    (λ y. subst (λ n. with_some (nth_word c.args.index (infos_of a.infos.now)) ls (λ w. one_out o.outs.now ls (λ v. need (nat_le n v) ls (go (register_next s v w) code rest))) ≡ Unmet ls) is.known.next
    (c.in-None.ensures ls (λ w v. go (register_next s v w) code rest)))

pub returns-then-branch-clause-stepped : goal.returns-then-branch-clause-stepped
returns-then-branch-clause-stepped c = λ V s ls stands by is.
    let a = c.args.applying.now in
    let o = a.operation in
    let code = c.args.rest.code.now in
    let rest = lines_of c.args.rest.lines.now in
    let named = c.in-Some.named in
    let w = token_of named.word in
    let n : NamedIs s.next a c.args.index named.out w = subst (λ n. NamedIs n a c.args.index named.out w) is.known.next c.in-Some.ensures in
    let k = c.in_ok-register_bind-in-Some.ensures.bound V s c.args.index stands by is n.out in
    record {
      next = register_next s named.out w;
      is = k.next c.if-branch.true;
      on = λ go. ok_true (apply_sure V.book (ctx_of s) o.place o.op o.made o.args.now) ls _ _
          (λ y. word_found c.args.index s.next named.out a w ls (λ w v. go (register_next s v w) code rest) n) (sym c.if-branch.true ∙ k.tested);
    }

pub returns-else-branch-clause-stepped : goal.returns-else-branch-clause-stepped
returns-else-branch-clause-stepped c = λ V s ls stands by is go.
    let a = c.args.applying.now in
    let o = a.operation in
    let k = c.in_ok-register_bind-in-Some.ensures.bound V s c.args.index stands by is c.in-Some.ensures.out in
    ok_false (apply_sure V.book (ctx_of s) o.place o.op o.made o.args.now) ls _ (sym c.if-branch.false ∙ k.tested)

pub returns-then-branch-clause-grows : goal.returns-then-branch-clause-grows
returns-then-branch-clause-grows c = c.in_ok-register_bind-in-Some.ensures.grows c.if-branch.true c.in-Some.ensures.order
