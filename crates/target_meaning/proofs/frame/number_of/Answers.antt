use Rattle.std.proofs.Common.{◌≡◌, ℕ, zero, suc, ◌<◌, List, [], ◌∷◌, drop, length, get_or, arith, sym, ap, ◌∙◌}
use Rattle.std.proofs.lemmas.Bool.{cond-true}
use Rattle.std.specs.Prelude.{Some, slice_get, true}
use Rattle.std.specs.Str.{bytes_eq}
use Rattle.target_code.specs.declared.tree.Proc.{Proc}
use Rattle.target_meaning.specs.Leaf as leaf
use Rattle.target_meaning.proofs.frame.number_of.Goals as goal

-- the first procedure of those left has the name
here : (ps : List Proc) (k : ℕ) (p : Proc) (name : List ℕ) → k < length ps → p ≡ get_or ps k p → bytes_eq p.name name ≡ true → leaf.find (drop k ps) name ≡ slice_get ps k
here [] k p name lt e b = absurd (omega arith)
here (x ∷ xs) zero p name lt e b =
    cond-true (bytes_eq x.name name) (Some x) (leaf.find xs name) (ap (λ (q : Proc). bytes_eq q.name name) (sym e) ∙ b)
here (x ∷ xs) (suc k) p name lt e b = here xs k p name (omega arith) e b

pub returns-then-eq : goal.returns-then-eq
returns-then-eq c =
    c.loop-number.invariant ∙
    here c.args.procs.now c.loop-number.number c.index-procs-number.result c.args.name.now c.loop-number-test.true c.index-procs-number.is
    (ap (λ l. bytes_eq l c.args.name.now) (sym c.bytes.ensures) ∙ ap (λ l. bytes_eq c.bytes.result.now l) (sym c.bytes-in-loop-number.ensures) ∙ sym c.if-eq.ensures)
