use Rattle.std.proofs.Common.{rules, arith, ◌≡◌, ◌≢◌, ◌<◌, ◌≤◌, ◌-◌, ◌+◌, ◌∷◌, [], length, suc, ℕ, ◌*◌, List, ap, ◌∙◌, sym, refl}
use Rattle.nres_automaton.specs.Automaton.{want, atom as atom_mode, atoms, made as made_mode, opened}
use Rattle.nres_automaton.specs.Cursor.{left}
use Rattle.nres_automaton.proofs.Going as going
use Rattle.nres_automaton.proofs.Going.{◌then◌, ◌fails◌, exits, passes, took}
use Rattle.nres_automaton.proofs.Exprs as exprs
use Rattle.nres_automaton.proofs.expr.+expr.Goals as goal

-- ---- arguments

pub arguments-returns-in_err-arg-clause-reads : goal.arguments-returns-in_err-arg-clause-reads
arguments-returns-in_err-arg-clause-reads t c =
    exits _ _ _ c.from_residual.ensures.1 (λ n k. c.each.invariant.reads k then exprs.arg_comes _ _ _ _ _ _ c.each-test.true fails c.in_err-arg.ensures.reads n _)

pub arguments-each-preserved : goal.arguments-each-preserved
arguments-each-preserved t c = record {
  shorter = omega (arith, c.each.invariant.shorter, c.in_ok-arg.ensures.shorter);
  reads = λ k. let e = c.in_ok-push.ensures.ok in rw e (c.each.invariant.reads k then exprs.arg_comes _ _ _ _ _ _ c.each-test.true then c.in_ok-arg.ensures.reads _);
}

pub arguments-returns-clause-reads : goal.arguments-returns-clause-reads
arguments-returns-clause-reads t c = λ k. c.each.invariant.reads k then exprs.no_arg _ _ _ _ _ _ c.each-test.false

pub arguments-returns-clause-shorter : goal.arguments-returns-clause-shorter
arguments-returns-clause-shorter t c = c.each.invariant.shorter

-- ---- atoms

pub atom-returns-in-Number-clause-reads : goal.atom-returns-in-Number-clause-reads
atom-returns-in-Number-clause-reads t c = λ k. exprs.numbers (took c.peek-next.ensures.next c.take-in-Number.ensures.rest c.take-in-Number.ensures.operators) c.in-Number.is

pub atom-returns-in-Truth-clause-reads : goal.atom-returns-in-Truth-clause-reads
atom-returns-in-Truth-clause-reads t c = λ k. exprs.truths (took c.peek-next.ensures.next c.take-in-Truth.ensures.rest c.take-in-Truth.ensures.operators) c.in-Truth.is

pub atom-returns-in_ok-name-in-Name-clause-reads : goal.atom-returns-in_ok-name-in-Name-clause-reads
atom-returns-in_ok-name-in-Name-clause-reads t c = λ k.
    exprs.names (took c.peek-next.ensures.next c.take-in-Name.ensures.rest c.take-in-Name.ensures.operators) c.in-Name.is (c.in_ok-name-in-Name.ensures ∙ c.bytes.ensures)

pub atom-returns-then-room-eq0-clause-reads : goal.atom-returns-then-room-eq0-clause-reads
atom-returns-then-room-eq0-clause-reads t c = λ n k. exprs.opens_deep (record { next = c.peek-next.ensures.next }) c.if-room-eq0.true (c.is_fixed.ensures.yes c.if-is_fixed.true)

pub atom-returns-in_err-inner-clause-reads : goal.atom-returns-in_err-inner-clause-reads
atom-returns-in_err-inner-clause-reads t c =
    exits _ _ _ c.from_residual.ensures.1 (λ n k.
    exprs.opens c.if-room-eq0.false (took c.peek-next.ensures.next c.take.ensures.rest c.take.ensures.operators) (c.is_fixed.ensures.yes c.if-is_fixed.true)
    fails c.in_err-inner.ensures.reads n _)

pub atom-returns-in_err-pass-clause-reads : goal.atom-returns-in_err-pass-clause-reads
atom-returns-in_err-pass-clause-reads t c =
    exits _ _ _ c.from_residual-in_err-pass.ensures.1 (λ n k.
    exprs.opens c.if-room-eq0.false (took c.peek-next.ensures.next c.take.ensures.rest c.take.ensures.operators) (c.is_fixed.ensures.yes c.if-is_fixed.true)
    then c.in_ok-inner.ensures.reads _
    fails going.passed_not c.in_err-pass.ensures)

pub atom-returns-then-is_fixed-clause-reads : goal.atom-returns-then-is_fixed-clause-reads
atom-returns-then-is_fixed-clause-reads t c = λ k.
    exprs.opens c.if-room-eq0.false (took c.peek-next.ensures.next c.take.ensures.rest c.take.ensures.operators) (c.is_fixed.ensures.yes c.if-is_fixed.true)
    then c.in_ok-inner.ensures.reads _
    then going.passed c.in_ok-pass.ensures
    then exprs.closes c.if-room-eq0.false

pub atom-returns-in_default-clause-reads : goal.atom-returns-in_default-clause-reads
atom-returns-in_default-clause-reads t c = λ n k. exprs.no_atom (record { next = c.peek-next.ensures.next }) c.in_default.not-Number c.in_default.not-Truth c.in_default.not-Name (c.is_fixed.ensures.no c.if-is_fixed.false)

-- ---- signs

pub go_on-returns-in_err-sum-clause-reads : goal.go_on-returns-in_err-sum-clause-reads
go_on-returns-in_err-sum-clause-reads t c =
    exits _ _ _ c.from_residual.ensures.1 (λ n k. exprs.looser c.args.first c.args.place k c.if-loosest-eq0.false fails c.in_err-sum.ensures.reads n _)

pub go_on-returns-in_default : goal.go_on-returns-in_default
go_on-returns-in_default t c = record {
  reads = λ k. c.signs.invariant.reads k then exprs.stays (record { next = c.peek.ensures.next }) (exprs.not_sign c.in_default.not-Sign);
  shorter = c.signs.invariant.shorter;
}

pub go_on-returns-then-looseness-loosest-clause-reads : goal.go_on-returns-then-looseness-loosest-clause-reads
go_on-returns-then-looseness-loosest-clause-reads t c = λ k.
    c.signs.invariant.reads k then exprs.stays (record { next = c.peek.ensures.next }) (exprs.other_sign c.if-loosest-eq0.false c.in-Sign.is c.looseness.ensures.value c.if-looseness-loosest.true)

pub go_on-returns-in_err-spend-clause-reads : goal.go_on-returns-in_err-spend-clause-reads
go_on-returns-in_err-spend-clause-reads t c =
    exits _ _ _ c.from_residual-in_err-spend.ensures.1 (λ n k.
    c.signs.invariant.reads k
    fails going.fails_there c.peek.ensures.next c.in_err-spend.ensures.1
    (exprs.joins_deep (record { next = c.peek.ensures.next }) c.in_err-spend.ensures.0 c.in-Sign.is (exprs.this_sign _ c.if-loosest-eq0.false c.looseness.ensures.value c.if-looseness-loosest.false)))

pub go_on-returns-in_err-right-clause-reads : goal.go_on-returns-in_err-right-clause-reads
go_on-returns-in_err-right-clause-reads t c =
    exits _ _ _ c.from_residual-in_err-right.ensures.1 (λ n k.
    c.signs.invariant.reads k
    then exprs.joins (going.pays c.peek.ensures.next c.in_ok-spend.ensures c.take.ensures.rest c.take.ensures.operators) c.in-Sign.is (exprs.this_sign _ c.if-loosest-eq0.false c.looseness.ensures.value c.if-looseness-loosest.false)
    fails c.in_err-right.ensures.reads n _)

pub go_on-returns-then-loosest-eq3-clause-reads : goal.go_on-returns-then-loosest-eq3-clause-reads
go_on-returns-then-loosest-eq3-clause-reads t c = λ k.
    let e = c.in_ok-sum-2.ensures in
    let only : c.args.loosest - 1 ≡ 2 = omega arith in
    rw e (c.signs.invariant.reads k
    then exprs.joins (going.pays c.peek.ensures.next c.in_ok-spend.ensures c.take.ensures.rest c.take.ensures.operators) c.in-Sign.is (exprs.this_sign _ c.if-loosest-eq0.false c.looseness.ensures.value c.if-looseness-loosest.false)
    then c.in_ok-right.ensures.reads (exprs.behind_right (c.args.loosest - 1) c.args.place c.signs.sum c.in-Sign.word k)
    then exprs.compared _ _ _ only)

pub go_on-signs-preserved : goal.go_on-signs-preserved
go_on-signs-preserved t c = record {
  shorter = omega (arith, c.signs.invariant.shorter, c.in_ok-right.ensures.shorter, going.taken (left c.spend.new.self).0 (left c.take.new.self).0 c.take.ensures.rest, ap length c.in_ok-spend.ensures.0);
  reads = λ k.
      let e = c.in_ok-sum-2.ensures in
      let other : c.args.loosest - 1 ≢ 2 = omega arith in
      rw e (c.signs.invariant.reads k
      then exprs.joins (going.pays c.peek.ensures.next c.in_ok-spend.ensures c.take.ensures.rest c.take.ensures.operators) c.in-Sign.is (exprs.this_sign _ c.if-loosest-eq0.false c.looseness.ensures.value c.if-looseness-loosest.false)
      then c.in_ok-right.ensures.reads (exprs.behind_right (c.args.loosest - 1) c.args.place c.signs.sum c.in-Sign.word k)
      then exprs.chained _ _ other);
}

pub level-returns-in_err-first-clause-reads : goal.level-returns-in_err-first-clause-reads
level-returns-in_err-first-clause-reads t c =
    exits _ _ _ c.from_residual.ensures.1 (λ n k. exprs.begins (record { next = c.peek.ensures.next }) fails c.in_err-first.ensures.reads n _)

pub level-returns-clause-reads : goal.level-returns-clause-reads
level-returns-clause-reads t c =
    passes (λ k. opened c.args.loosest c.peek.result.place k c.in_ok-first.first) _ _ (λ k. k)
    (λ k. exprs.begins (record { next = c.peek.ensures.next }) then c.in_ok-first.ensures.reads _) (λ y k. going.stay) c.go_on.ensures.reads

-- ---- unary expressions

pub unary-returns-in_err-spend-clause-reads : goal.unary-returns-in_err-spend-clause-reads
unary-returns-in_err-spend-clause-reads t c =
    exits _ _ _ c.from_residual.ensures.1 (λ n k.
    going.fails_there c.peek-next.ensures.next c.in_err-spend.ensures.1
    (exprs.negates_deep (record { next = c.peek-next.ensures.next }) c.in_err-spend.ensures.0 (c.is_fixed.ensures.yes c.if-is_fixed.true)))

pub unary-returns-in_err-arg-clause-reads : goal.unary-returns-in_err-arg-clause-reads
unary-returns-in_err-arg-clause-reads t c =
    exits _ _ _ c.from_residual-in_err-arg.ensures.1 (λ n k.
    exprs.negates (going.pays c.peek-next.ensures.next c.in_ok-spend.ensures c.take.ensures.rest c.take.ensures.operators) (c.is_fixed.ensures.yes c.if-is_fixed.true)
    fails c.in_err-arg.ensures.reads n _)

pub unary-returns-then-is_fixed-clause-reads : goal.unary-returns-then-is_fixed-clause-reads
unary-returns-then-is_fixed-clause-reads t c = λ k.
    let e = c.in_ok-negated.ensures in
    rw e (exprs.negates (going.pays c.peek-next.ensures.next c.in_ok-spend.ensures c.take.ensures.rest c.take.ensures.operators) (c.is_fixed.ensures.yes c.if-is_fixed.true)
    then c.in_ok-arg.ensures.reads _)

pub unary-returns-in-Some-clause-reads : goal.unary-returns-in-Some-clause-reads
unary-returns-in-Some-clause-reads t c =
    passes (atoms c.peek-next.result.place c.in_ok-word.word [] c.in-Some.count) _ _ (λ k. k)
    (λ k. exprs.applies (took c.peek-next.ensures.next c.take-in-Some.ensures.rest c.take-in-Some.ensures.operators) (sym c.arity.ensures ∙ c.in-Some.is) (c.in_ok-word.ensures ∙ c.bytes.ensures))
    (λ y k. going.stay) c.arguments.ensures.reads

pub unary-returns-then-is_fixed-2-clause-reads : goal.unary-returns-then-is_fixed-2-clause-reads
unary-returns-then-is_fixed-2-clause-reads t c =
    passes (λ k. atom_mode (λ e. made_mode c.peek-next.result.place c.in_ok-word-2.word (e ∷ []) k)) _ _ (λ k. k)
    (λ k. exprs.zeros_at (took c.peek-next.ensures.next c.take-then-is_fixed-2.ensures.rest c.take-then-is_fixed-2.ensures.operators) (c.is_fixed-2.ensures.yes c.if-is_fixed-2.true) (c.in_ok-word-2.ensures ∙ c.bytes-then-is_fixed-2.ensures))
    (λ y k. going.stay) c.zeros.ensures.reads

pub unary-returns-in-Calculates-clause-reads : goal.unary-returns-in-Calculates-clause-reads
unary-returns-in-Calculates-clause-reads t c =
    passes _ _ _ (λ k. k)
    (λ k. exprs.calculates (took c.peek-next.ensures.next c.take-in-Calculates.ensures.rest c.take-in-Calculates.ensures.operators) c.in-Calculates.is)
    (λ y k. going.stay) c.calculation.ensures.reads

pub unary-returns-in_ok-word-in-Empty-clause-reads : goal.unary-returns-in_ok-word-in-Empty-clause-reads
unary-returns-in_ok-word-in-Empty-clause-reads t c =
    passes (made_mode c.peek-next.result.place c.in_ok-word-in-Empty.word c.new.result) _ _ (λ k. k)
    (λ k. let n = c.new.ensures in rw n (exprs.empties (took c.peek-next.ensures.next c.take-in-Empty.ensures.rest c.take-in-Empty.ensures.operators) c.in-Empty.is (c.in_ok-word-in-Empty.ensures ∙ c.bytes-in-Empty.ensures)))
    (λ y k. going.stay) c.made.ensures.reads

pub unary-returns-in_default-lexeme-clause-reads : goal.unary-returns-in_default-lexeme-clause-reads
unary-returns-in_default-lexeme-clause-reads t c =
    passes atom_mode _ _ (λ k. k)
    (λ k. exprs.plain (record { next = c.peek-next.ensures.next }) (c.is_fixed.ensures.no c.if-is_fixed.false) (exprs.no_arity _ c.arity.ensures c.in_default.not-Some) (c.is_fixed-2.ensures.no c.if-is_fixed-2.false) c.in_default-lexeme.not-Calculates c.in_default-lexeme.not-Empty)
    (λ y k. going.stay) c.atom.ensures.reads
