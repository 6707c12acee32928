use Rattle.std.proofs.Common.{rules, arith, ℕ, ◌≡◌, ◌<◌, ◌≤◌, ◌-◌, ◌+◌, [], ◌∷◌, ◌++◌, length, cond, true, false, ap, ◌∙◌, sym, refl, subst}
use Rattle.std.specs.FinMap as maps
use Rattle.std.specs.FinSet as sets
use Rattle.containers.specs.Bag.{bag_of}
use Rattle.nres_core.specs.Texts.{put_all}
use Rattle.nres_core.specs.declared.value.Value.TheVariants as v
use Rattle.nres_automaton.specs.Cursor.{left}
use Rattle.nres_automaton.specs.Automaton.{Mode, Reads, pass, when, leave, comma_or, numbers, numbers_read, members, pairs, pair_of, braces, value}
use Rattle.nres_automaton.specs.declared.lexeme.Fixed.TheVariants as fixed
use Rattle.nres_automaton.proofs.Going as going
use Rattle.nres_automaton.proofs.Going.{◌then◌, ◌fails◌, exits, passes, took}
use Rattle.nres_syntax.proofs.Values as values
use Rattle.nres_syntax.proofs.value.braces.Goals as goal

pub returns-in_err-pass-clause-reads : goal.returns-in_err-pass-clause-reads
returns-in_err-pass-clause-reads c = exits _ _ _ c.from_residual.ensures.1 (λ n k. going.met (took c.peek-next.ensures.next c.take.ensures.rest c.take.ensures.operators) (sym c.is_fixed.ensures.value ∙ c.if-is_fixed.true) fails going.passed_not c.in_err-pass.ensures)

pub returns-then-is_fixed-clause-reads : goal.returns-then-is_fixed-clause-reads
returns-then-is_fixed-clause-reads c = λ k. let e = c.new.ensures in rw e (going.met (took c.peek-next.ensures.next c.take.ensures.rest c.take.ensures.operators) (sym c.is_fixed.ensures.value ∙ c.if-is_fixed.true) then going.passed c.in_ok-pass.ensures)

pub returns-then-is_fixed-2-clause-reads : goal.returns-then-is_fixed-2-clause-reads
returns-then-is_fixed-2-clause-reads c = λ k. let e = c.new-then-is_fixed-2.ensures in rw e (going.not_met (record { next = c.peek-next.ensures.next }) (sym c.is_fixed.ensures.value ∙ c.if-is_fixed.false) then going.met (took c.peek-next.ensures.next c.take-then-is_fixed-2.ensures.rest c.take-then-is_fixed-2.ensures.operators) (sym c.is_fixed-2.ensures.value ∙ c.if-is_fixed-2.true))

pub returns-in_err-first-clause-reads : goal.returns-in_err-first-clause-reads
returns-in_err-first-clause-reads c = exits _ _ _ c.from_residual-in_err-first.ensures.1 (λ n k. going.not_met (record { next = c.peek-next.ensures.next }) (sym c.is_fixed.ensures.value ∙ c.if-is_fixed.false) then going.not_met (record { next = c.peek-next.ensures.next }) (sym c.is_fixed-2.ensures.value ∙ c.if-is_fixed-2.false) fails c.in_err-first.ensures.reads n (λ n. when fixed.Colon (λ _. pair_of [] (λ es. k (v.Map (put_all maps.empty es))) n) (numbers_read fixed.CloseBrace (n ∷ []) (λ ns. k (v.Set (sets.from_list ns))))))

pub returns-in_err-entries-clause-reads : goal.returns-in_err-entries-clause-reads
returns-in_err-entries-clause-reads c = exits _ _ _ c.from_residual-in_err-entries.ensures.1 (λ n k. going.not_met (record { next = c.peek-next.ensures.next }) (sym c.is_fixed.ensures.value ∙ c.if-is_fixed.false) then going.not_met (record { next = c.peek-next.ensures.next }) (sym c.is_fixed-2.ensures.value ∙ c.if-is_fixed-2.false) then c.in_ok-first.ensures.reads (λ n. when fixed.Colon (λ _. pair_of [] (λ es. k (v.Map (put_all maps.empty es))) n) (numbers_read fixed.CloseBrace (n ∷ []) (λ ns. k (v.Set (sets.from_list ns))))) then going.met (took c.peek-behind.ensures.next c.take-then-is_fixed-3.ensures.rest c.take-then-is_fixed-3.ensures.operators) (sym c.is_fixed-3.ensures.value ∙ c.if-is_fixed-3.true) then values.pairs_as _ c.new-none.ensures fails c.in_err-entries.ensures.reads n (λ es. k (v.Map (put_all maps.empty es))))

pub returns-then-is_fixed-3-clause-reads : goal.returns-then-is_fixed-3-clause-reads
returns-then-is_fixed-3-clause-reads c = λ k.
    let e = c.in_ok-map.ensures in let f = c.as_slice.ensures in
    rw (e, f) (going.not_met (record { next = c.peek-next.ensures.next }) (sym c.is_fixed.ensures.value ∙ c.if-is_fixed.false) then going.not_met (record { next = c.peek-next.ensures.next }) (sym c.is_fixed-2.ensures.value ∙ c.if-is_fixed-2.false) then c.in_ok-first.ensures.reads (λ n. when fixed.Colon (λ _. pair_of [] (λ es. k (v.Map (put_all maps.empty es))) n) (numbers_read fixed.CloseBrace (n ∷ []) (λ ns. k (v.Set (sets.from_list ns))))) then going.met (took c.peek-behind.ensures.next c.take-then-is_fixed-3.ensures.rest c.take-then-is_fixed-3.ensures.operators) (sym c.is_fixed-3.ensures.value ∙ c.if-is_fixed-3.true) then values.pairs_as _ c.new-none.ensures then c.in_ok-entries.ensures.reads (λ es. k (v.Map (put_all maps.empty es))))

pub returns-in_err-elements-clause-reads : goal.returns-in_err-elements-clause-reads
returns-in_err-elements-clause-reads c = exits _ _ _ c.from_residual-in_err-elements.ensures.1 (λ n k. going.not_met (record { next = c.peek-next.ensures.next }) (sym c.is_fixed.ensures.value ∙ c.if-is_fixed.false) then going.not_met (record { next = c.peek-next.ensures.next }) (sym c.is_fixed-2.ensures.value ∙ c.if-is_fixed-2.false) then c.in_ok-first.ensures.reads (λ n. when fixed.Colon (λ _. pair_of [] (λ es. k (v.Map (put_all maps.empty es))) n) (numbers_read fixed.CloseBrace (n ∷ []) (λ ns. k (v.Set (sets.from_list ns))))) then going.not_met (record { next = c.peek-behind.ensures.next }) (sym c.is_fixed-3.ensures.value ∙ c.if-is_fixed-3.false) fails c.in_err-elements.ensures.reads n (λ ns. k (v.Set (sets.from_list ns))))

pub returns-clause-reads : goal.returns-clause-reads
returns-clause-reads c = λ k.
    let e = c.in_ok-set.ensures in let f = c.as_slice-2.ensures in
    rw (e, f) (going.not_met (record { next = c.peek-next.ensures.next }) (sym c.is_fixed.ensures.value ∙ c.if-is_fixed.false) then going.not_met (record { next = c.peek-next.ensures.next }) (sym c.is_fixed-2.ensures.value ∙ c.if-is_fixed-2.false) then c.in_ok-first.ensures.reads (λ n. when fixed.Colon (λ _. pair_of [] (λ es. k (v.Map (put_all maps.empty es))) n) (numbers_read fixed.CloseBrace (n ∷ []) (λ ns. k (v.Set (sets.from_list ns))))) then going.not_met (record { next = c.peek-behind.ensures.next }) (sym c.is_fixed-3.ensures.value ∙ c.if-is_fixed-3.false) then c.in_ok-elements.ensures.reads (λ ns. k (v.Set (sets.from_list ns))))
