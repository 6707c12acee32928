-- A replay has one answer.
use Rattle.std.proofs.Common.{◌≡◌, ⊎_elim, Bool, List, sym, ap, ◌∙◌, subst}
use Rattle.std.specs.Prelude.{Option, Some, None}
use Rattle.std.proofs.lemmas.Bool.{cases_order}
use Rattle.target_code.specs.declared.tree.Proc.{Proc}
use Rattle.target_meaning.specs.Machine as machine
use Rattle.target_meaning.specs.Machine.{Answer}
use Rattle.target_meaning.specs.Runs.{Schedule, HasMoved}
use Rattle.target_meaning.specs.States.{MachineState}
use Rattle.replay.specs.declared.answer.ReplayEnd.{ReplayEnd}
use Rattle.replay.specs.Told.{after, told_at, is_full, IsAfter, Replays}

none_some : (o : Option ReplayEnd) (e : ReplayEnd) → o ≡ None → o ≡ Some e → ⊥
none_some o e p q = cc

left_same : (a : Answer (Unit {0})) (b : Bool) (l k : MachineState) → HasMoved a (λ t h. l ≡ record { tree = t; heap = h; full = b }) → HasMoved a (λ t h. k ≡ record { tree = t; heap = h; full = b }) → l ≡ k
left_same (machine.Moved t h) b l k p q = p ∙ sym q
left_same (machine.Stuck r) b l k p q = absurd p
left_same machine.Full b l k p q = absurd p
left_same machine.NoSuchLeaf b l k p q = absurd p
left_same machine.NameUsed b l k p q = absurd p

pub one_answer : (T : List Proc) (es : Schedule) (s : MachineState) (e f : ReplayEnd) (l k : MachineState) → Replays T es s e l → Replays T es s f k → (e ≡ f) × (l ≡ k)
one_answer T es s e f l k r q =
    let steps : r.steps ≡ q.steps =
    ⊎_elim (λ w. w)
    (⊎_elim (λ lt. absurd (none_some (told_at T es s r.steps) e (q.before r.steps lt) r.told)) (λ lt. absurd (none_some (told_at T es s q.steps) f (r.before q.steps lt) q.told)))
    (cases_order r.steps q.steps) in
    let told : told_at T es s r.steps ≡ Some f = ap (λ n. told_at T es s n) steps ∙ q.told in
    let end : Some e ≡ Some f = sym r.told ∙ told in
    let same : e ≡ f = cc in
    let there : IsAfter T es s r.steps (is_full e) k = subst (λ n. IsAfter T es s n (is_full e) k) (sym steps) (subst (λ x. IsAfter T es s q.steps (is_full x) k) (sym same) q.reached) in
    (same, left_same (after T es s r.steps) (is_full e) l k r.reached there)
