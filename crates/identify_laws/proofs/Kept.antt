-- Trees of choices in step, whose values are of their types.
use Rattle.std.proofs.Common.{ℕ, zero, suc, Bool, true, false, cond, List, [], ◌∷◌, refl, sym, subst}
use Rattle.nres_core.specs.Ops.{at_line}
use Rattle.nres_core.specs.Runs.{Runs, Done, Failed, Over, Choose, May, sided, both, ◌>>=◌}
use Rattle.nres_core.specs.declared.value.Value.{Value}
use Rattle.nres_core.specs.declared.value.Value.TheVariants as v
use Rattle.nres_meaning.specs.Alike.{done, failed, over, choose}
use Rattle.nres_meaning.specs.Meaning.{turns, each}
use Rattle.nres_meaning.proofs.Steps.{then, regroup}
use Rattle.identify_laws.specs.Environments.{Keeps}

-- what holds at each end
abbrev pub Leaves : {A : Type 0} (P : A → Type 0) → Runs A → Type 0
Leaves P (Done x) = P x
Leaves P (Failed l) = Unit {0}
Leaves P (Over l) = Unit {0}
Leaves P (Choose c k) = (x : Value) → May c x → Leaves P (k x)

pub keep_then : {A B : Type 0} {P : A → Type 0} {Q : B → Type 0} {r s : Runs A} {f g : A → Runs B} → Keeps P r s → ((x : A) → P x → Keeps Q (f x) (g x)) → Keeps Q (r >>= f) (s >>= g)
keep_then {Q = Q} {f = f} {g = g} h k = then h (λ x y q. subst (λ z. Keeps Q (f x) (g z)) q.same (k x q.of))

pub keep_leaves : {A : Type 0} {P : A → Type 0} (r : Runs A) → Leaves P r → Keeps P r r
keep_leaves (Done x) h = done (record { same = refl; of = h })
keep_leaves (Failed l) h = failed
keep_leaves (Over l) h = over
keep_leaves (Choose c k) h = choose (λ x m. keep_leaves (k x) (h x m))

pub any_leaves : {A : Type 0} (r : Runs A) → Leaves (λ x. Unit {0}) r
any_leaves (Done x) = tt
any_leaves (Failed l) = tt
any_leaves (Over l) = tt
any_leaves (Choose c k) = λ x m. any_leaves (k x)

pub keep_any : {A : Type 0} (r : Runs A) → Keeps (λ x. Unit {0}) r r
keep_any r = keep_leaves r (any_leaves r)

pub leaves_at : {A : Type 0} (P : A → Type 0) (l : ℕ) (r : Runs A) → Leaves P r → Leaves P (at_line l r)
leaves_at P l (Done x) h = h
leaves_at P l (Failed k) h = tt
leaves_at P l (Over k) h = tt
leaves_at P l (Choose c k) h = λ x m. leaves_at P l (k x) (h x m)

pub keep_if : {A : Type 0} {P : A → Type 0} (b : Bool) {r r' s s' : Runs A} → Keeps P r r' → Keeps P s s' → Keeps P (cond b r s) (cond b r' s')
keep_if true h k = h
keep_if false h k = k

pub keep_sided : {A : Type 0} {P : A → Type 0} (x : Value) {r r' s s' : Runs A} → Keeps P r r' → Keeps P s s' → Keeps P (sided x r s) (sided x r' s')
keep_sided (v.Bool false) h k = k
keep_sided (v.Bool true) h k = h
keep_sided (v.Nat n) h k = h
keep_sided (v.List n) h k = h
keep_sided (v.Set n) h k = h
keep_sided (v.Map n) h k = h
keep_sided (v.Bag n) h k = h

pub keep_both : {A B C : Type 0} {P : A → Type 0} {Q : B → Type 0} {S : C → Type 0} {r r' : Runs A} {s s' : Runs B} (k k' : A → B → Runs C)
    → Keeps P r r' → Keeps Q s s' → ((x : A) (y : B) → P x → Q y → Keeps S (k x y) (k' x y)) → Keeps S (both r s k) (both r' s' k')
keep_both k k' h j e = choose (λ x m. keep_sided x (keep_then h (λ a p. keep_then j (λ b q. e a b p q))) (keep_then j (λ b q. keep_then h (λ a p. e a b p q))))

pub keep_turns : (n l : ℕ) (P : List Value → Type 0) (test test' : List Value → Runs Bool) (body body' : List Value → Runs (List Value))
    → ((vs : List Value) → P vs → Keeps (λ b. Unit {0}) (test vs) (test' vs)) → ((vs : List Value) → P vs → Keeps P (body vs) (body' vs))
    → (vs : List Value) → P vs → Keeps P (turns n l test body vs) (turns n l test' body' vs)
keep_turns zero l P test test' body body' h k vs p = keep_then (h vs p) (λ b u. keep_if b over (done (record { same = refl; of = p })))
keep_turns (suc n) l P test test' body body' h k vs p =
    keep_then (h vs p) (λ b u. keep_if b (keep_then (k vs p) (λ ws q. keep_turns n l P test test' body body' h k ws q)) (done (record { same = refl; of = p })))

pub keep_each : (n l : ℕ) (P : List Value → Type 0) (body body' : ℕ → List Value → Runs (List Value)) → ((x : ℕ) (vs : List Value) → P vs → Keeps P (body x vs) (body' x vs))
    → (xs : List ℕ) (vs : List Value) → P vs → Keeps P (each n l body xs vs) (each n l body' xs vs)
keep_each n l P body body' k [] vs p = done (record { same = refl; of = p })
keep_each zero l P body body' k (x ∷ xs) vs p = over
keep_each (suc n) l P body body' k (x ∷ xs) vs p = keep_then (k x vs p) (λ ws q. keep_each n l P body body' k xs ws q)

-- in three steps, grouped otherwise
pub keep_grouped : {A B C : Type 0} {P : C → Type 0} (r s : Runs A) (f f' : A → Runs B) (g g' : B → Runs C)
    → Keeps P (r >>= λ x. f x >>= g) (s >>= λ x. f' x >>= g') → Keeps P ((r >>= f) >>= g) ((s >>= f') >>= g')
keep_grouped {P = P} r s f f' g g' h =
    subst (λ z. Keeps P z ((s >>= f') >>= g')) (sym (regroup r f g)) (subst (λ z. Keeps P (r >>= λ x. f x >>= g) z) (sym (regroup s f' g')) h)
