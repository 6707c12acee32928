use Rattle.std.proofs.lemmas.Grind.{common_steps}
use Rattle.std.proofs.Common.{◌≡◌, ℕ, ◌+◌, length, arith, sym, ◌∙◌}
use Rattle.std.specs.Prelude.{is_ok}
use Rattle.plain_store.specs.Cells.{new_word}
use Rattle.plain_store.proofs.Grown.{grown, resized, is_fine}
use Rattle.plain_store.proofs.cells.grow.Goals as goal

pub returns-clause-yes : goal.returns-clause-yes
returns-clause-yes c =
    let old = c.args.cells.now.items in
    let n : ℕ = c.args.len in
    let x : ℕ = c.len-name.result in
    let is : x ≡ length old = grind (arith, common_steps, c.len-name.ensures) in
    let v : ℕ = c.args.cells.now.len in
    let iv : v ≡ length old = sym c.len-name.ensures ∙ is in
    let w = new_word x c.args.border in
    λ e. grown old c.resize.new.self.items x n c.args.border is
    (resized old c.resize.new.self.items (x + 1 + n) v (n + 1) w (is_ok c.resize.result) c.resize.ensures.items
    (is_fine c.resize.result (sym c.is_err.ensures.value ∙ c.if-is_err.false)) iv (let z : x + 1 + n ≡ v + (n + 1) = omega (arith, iv) in z))
