use Rattle.std.proofs.Common.{◌≡◌, ℕ, List, [], ◌∷◌, ◌++◌, sym, ap, ◌∙◌}
use Rattle.std.specs.Prelude.{Option, None, slice_get}
use Rattle.target_code.specs.declared.tree.Instr.{Instr}
use Rattle.target_meaning.specs.declared.place.Outer.{Outer}
use Rattle.target_meaning.specs.Place.{items_at, list_at}
use Rattle.target_meaning.proofs.Rest.{drop_none}
use Rattle.target_meaning.proofs.Levels.{popped, lighter, lighter_again, moved_none, moved_behind, moved_again, at_test}
use Rattle.target_meaning.proofs.settle.settle.Goals as goal
use Rattle.target_meaning.proofs.settle.settle.Goals.{In-Some-innermost}

-- the place as the loop has it
at_now : (code : List Instr) (seen os : List Outer) (n : ℕ) (x : Option Instr) → seen ≡ os → slice_get (list_at code seen) n ≡ x → slice_get (list_at code os) n ≡ x
at_now code seen os n x e h = ap (λ l. slice_get (list_at code l) n) (sym e) ∙ h

nothing_left : (code : List Instr) (os : List Outer) (n : ℕ) → os ≡ [] → slice_get (list_at code os) n ≡ None → items_at 1 code os n ≡ []
nothing_left code os n e h =
    ap (λ l. items_at 1 code l n) e ∙ (drop_none 1 code n (ap (λ l. slice_get (list_at code l) n) (sym e) ∙ h))

pub returns-in-Some-clause-next : goal.returns-in-Some-clause-next
returns-in-Some-clause-next c =
    let h = c.in-Some.ensures in
    (at_now c.args.code.now _ c.loop-instr.outer c.loop-instr.index _ c.as_slice.ensures h.0, h.1)

pub returns-in_default-innermost-clause-next : goal.returns-in_default-innermost-clause-next
returns-in_default-innermost-clause-next c =
    nothing_left c.args.code.now c.loop-instr.outer c.loop-instr.index (sym c.as_slice-in-loop-instr.ensures ∙ c.in_default-innermost.ensures)
    (at_now c.args.code.now _ c.loop-instr.outer c.loop-instr.index _ c.as_slice.ensures c.in_default.ensures)

-- the levels around the innermost one
split : (c : In-Some-innermost) → c.loop-instr.outer ≡ c.in-Some-innermost.front.now ++ c.in-Some-innermost.level ∷ []
split c = sym c.as_slice-in-loop-instr.ensures ∙ c.in-Some-innermost.ensures

over : (c : In-Some-innermost) → slice_get (list_at c.args.code.now c.loop-instr.outer) c.loop-instr.index ≡ None
over c = at_now c.args.code.now _ c.loop-instr.outer c.loop-instr.index _ c.as_slice.ensures c.in_default.ensures

pub loop-instr-smaller : goal.loop-instr-smaller
loop-instr-smaller c =
    let s = split (goal.at.loop-instr-smaller c).In-Some-innermost in
    lighter c.args.code.now c.loop-instr.outer c.pop-in-Behind.new.self c.in-Some-innermost.front.now c.in-Some-innermost.level c.loop-instr.index s
    (popped c.pop-in-Behind.result c.loop-instr.outer c.pop-in-Behind.new.self c.in-Some-innermost.front.now c.in-Some-innermost.level c.pop-in-Behind.ensures s)

pub loop-instr-preserved : goal.loop-instr-preserved
loop-instr-preserved c =
    let s = split (goal.at.loop-instr-preserved c).In-Some-innermost in
    let o = over (goal.at.loop-instr-preserved c).In-Some-innermost in
    let f = c.in-Some-find.ensures in
    moved_behind c.args.code.now c.loop-instr.outer c.pop-in-Behind.new.self c.in-Some-innermost.front.now c.in-Some-innermost.level c.loop-instr.index s c.in-Some-find.instr.now c.in-Some-find.next o f.0 f.1
    (popped c.pop-in-Behind.result c.loop-instr.outer c.pop-in-Behind.new.self c.in-Some-innermost.front.now c.in-Some-innermost.level c.pop-in-Behind.ensures s) c.in-Behind.ensures ∙
    c.loop-instr.invariant

pub loop-instr-smaller-in_default-find : goal.loop-instr-smaller-in_default-find
loop-instr-smaller-in_default-find c =
    let s = split (goal.at.loop-instr-smaller-in_default-find c).In-Some-innermost in
    lighter c.args.code.now c.loop-instr.outer c.pop.new.self c.in-Some-innermost.front.now c.in-Some-innermost.level c.loop-instr.index s
    (popped c.pop.result c.loop-instr.outer c.pop.new.self c.in-Some-innermost.front.now c.in-Some-innermost.level c.pop.ensures s)

pub loop-instr-preserved-in_default-find : goal.loop-instr-preserved-in_default-find
loop-instr-preserved-in_default-find c =
    let s = split (goal.at.loop-instr-preserved-in_default-find c).In-Some-innermost in
    let o = over (goal.at.loop-instr-preserved-in_default-find c).In-Some-innermost in
    moved_none c.args.code.now c.loop-instr.outer c.pop.new.self c.in-Some-innermost.front.now c.in-Some-innermost.level c.loop-instr.index s
    (popped c.pop.result c.loop-instr.outer c.pop.new.self c.in-Some-innermost.front.now c.in-Some-innermost.level c.pop.ensures s) o c.in_default-find.ensures ∙
    c.loop-instr.invariant

pub returns-in-Test-clause-next : goal.returns-in-Test-clause-next
returns-in-Test-clause-next c =
    let s = split (goal.at.returns-in-Test-clause-next c).In-Some-innermost in
    let o = over (goal.at.returns-in-Test-clause-next c).In-Some-innermost in
    let f = c.in-Some-find.ensures in
    let h = c.in-Test.ensures in
    at_test c.args.code.now c.loop-instr.outer [] c.in-Some-innermost.front.now c.in-Some-innermost.level c.loop-instr.index s c.in-Some-find.instr.now c.in-Some-find.next o f.0 f.1 h.0 c.in-Test.test h.1

pub loop-instr-smaller-in-Again : goal.loop-instr-smaller-in-Again
loop-instr-smaller-in-Again c =
    let s = split (goal.at.loop-instr-smaller-in-Again c).In-Some-innermost in
    let h = c.in-Again.ensures in
    lighter_again c.args.code.now c.loop-instr.outer c.turn.new.outer c.in-Some-innermost.front.now c.in-Some-innermost.level c.loop-instr.index s (c.turn.ensures c.in-Some-innermost.front.now c.in-Some-innermost.level s) h.0

pub loop-instr-preserved-in-Again : goal.loop-instr-preserved-in-Again
loop-instr-preserved-in-Again c =
    let s = split (goal.at.loop-instr-preserved-in-Again c).In-Some-innermost in
    let o = over (goal.at.loop-instr-preserved-in-Again c).In-Some-innermost in
    let f = c.in-Some-find.ensures in
    let h = c.in-Again.ensures in
    moved_again c.args.code.now c.loop-instr.outer c.turn.new.outer c.in-Some-innermost.front.now c.in-Some-innermost.level c.loop-instr.index s c.in-Some-find.instr.now c.in-Some-find.next o f.0 f.1
    (c.turn.ensures c.in-Some-innermost.front.now c.in-Some-innermost.level s) h.0 h.1.0 h.1.1 ∙
    c.loop-instr.invariant
