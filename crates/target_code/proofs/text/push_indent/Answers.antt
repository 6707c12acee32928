use Rattle.std.proofs.Common.{◌≡◌, ◌++◌, ◌∷◌, [], ◌-◌, ◌+◌, ◌<◌, ◌≤◌, ℕ, suc, List, arith, append_assoc, ◌∙◌, sym, ap}
use Rattle.std.proofs.lemmas.List.{append-nil}
use Rattle.target_code.specs.Texts.{indent}
use Rattle.target_code.proofs.text.push_indent.Goals as goal

goes_on : (out : List ℕ) (level i : ℕ) (whole : List ℕ) → i < level → out ++ indent (level - i) ≡ whole → (out ++ 32 ∷ 32 ∷ []) ++ indent (level - (i + 1)) ≡ whole
goes_on out level i whole lt e =
    let k : level - i ≡ suc (level - (i + 1)) = omega arith in
    append_assoc out (32 ∷ 32 ∷ []) (indent (level - (i + 1))) ∙ ap (λ n. out ++ indent n) (sym k) ∙ e

is_done : (out : List ℕ) (level i : ℕ) (whole : List ℕ) → level ≤ i → out ++ indent (level - i) ≡ whole → out ≡ whole
is_done out level i whole le e =
    let k : level - i ≡ 0 = omega arith in
    sym (append-nil out) ∙ ap (λ n. out ++ indent n) (sym k) ∙ e

pub loop-preserved : goal.loop-preserved
loop-preserved c = rw c.in_ok-extend_from_slice.ensures.items (goes_on c.loop.out.items c.args.level c.loop.counter _ c.loop-test.true c.loop.invariant)

pub returns : goal.returns
returns c = is_done c.loop.out.items c.args.level c.loop.counter _ c.loop-test.false c.loop.invariant
