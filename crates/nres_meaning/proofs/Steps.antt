-- Trees of choices that go in step.
use Rattle.std.proofs.Common.{◌≡◌, ℕ, refl, subst, ap}
use Rattle.std.proofs.Math.Path.{fun_ext}
use Rattle.nres_core.specs.Ops.{at_line}
use Rattle.nres_core.specs.Runs.{Runs, Done, Failed, Over, Choose, ◌>>=◌, Gives, Fails, Overruns}
use Rattle.nres_meaning.specs.Alike.{Alike, Less, done, failed, over, cut, choose}

pub then : {A B C D : Type 0} {loose : Type 0} {R : A → B → Type 0} {S : C → D → Type 0} {r : Runs A} {s : Runs B} {f : A → Runs C} {g : B → Runs D} → Alike loose R r s → ((a : A) (b : B) → R a b → Alike loose S (f a) (g b)) → Alike loose S (r >>= f) (s >>= g)
then (done h) k = k _ _ h
then failed k = failed
then over k = over
then (cut l) k = cut l
then (choose h) k = choose (λ x m. then (h x m) k)

pub itself : {A : Type 0} {loose : Type 0} {R : A → A → Type 0} → ((a : A) → R a a) → (r : Runs A) → Alike loose R r r
itself same (Done a) = done (same a)
itself same (Failed l) = failed
itself same (Over l) = over
itself same (Choose c k) = choose (λ x m. itself same (k x))

pub gives : {A B : Type 0} {loose : Type 0} {R : A → B → Type 0} {r : Runs A} {s : Runs B} → Alike loose R r s → (a : A) → Gives r a → (b : B) × R a b × Gives s b
gives {R = R} (done {b = b} h) a e = (b, subst (λ z. R z b) e h, refl)
gives (choose h) a g = let rest = gives (h g.0 g.1) a g.2 in (rest.0, rest.1, (g.0, g.1, rest.2))
gives failed a g = absurd g
gives over a g = absurd g
gives (cut l) a g = absurd g

pub fails : {A B : Type 0} {loose : Type 0} {R : A → B → Type 0} {r : Runs A} {s : Runs B} → Alike loose R r s → Fails r → Fails s
fails (done h) f = absurd f
fails failed f = tt
fails over f = absurd f
fails (cut l) f = absurd f
fails (choose h) f = (f.0, f.1, fails (h f.0 f.1) f.2)

pub go : {A B : Type 0} {r s : Runs A} {f g : A → Runs B} → Less r s → ((a : A) → Less (f a) (g a)) → Less (r >>= f) (s >>= g)
go {f = f} {g = g} h k = then h (λ a b e. subst (λ z. Less (f a) (g z)) e (k a))

pub stays : {A : Type 0} (r : Runs A) → Less r r
stays r = itself (λ a. refl) r

-- lines aside
pub lines : {A : Type 0} {loose : Type 0} (l m : ℕ) (r : Runs A) → Alike loose (λ a b. a ≡ b) (at_line l r) (at_line m r)
lines l m (Done a) = done refl
lines l m (Failed k) = failed
lines l m (Over k) = over
lines l m (Choose c k) = choose (λ x q. lines l m (k x))

-- one after another, grouped otherwise
pub regroup : {A B C : Type 0} (r : Runs A) (f : A → Runs B) (g : B → Runs C) → ((r >>= f) >>= g) ≡ (r >>= λ a. f a >>= g)
regroup (Done a) f g = refl
regroup (Failed l) f g = refl
regroup (Over l) f g = refl
regroup (Choose c k) f g = ap (Choose c) (fun_ext (λ x. regroup (k x) f g))

pub done_last : {A : Type 0} (r : Runs A) → (r >>= λ a. Done a) ≡ r
done_last (Done a) = refl
done_last (Failed l) = refl
done_last (Over l) = refl
done_last (Choose c k) = ap (Choose c) (fun_ext (λ x. done_last (k x)))

-- one more step behind the second
pub last : {A B C : Type 0} {loose : Type 0} {R : A → B → Type 0} {r : Runs A} {s : Runs B} (S : A → C → Type 0) (h : B → C) → Alike loose R r s → ((a : A) (b : B) → R a b → S a (h b)) → Alike loose S r (s >>= λ b. Done (h b))
last S h (done e) k = done (k _ _ e)
last S h failed k = failed
last S h over k = over
last S h (cut l) k = cut l
last S h (choose g) k = choose (λ x m. last S h (g x m) k)

-- the other way round
pub flip : {A B : Type 0} {R : A → B → Type 0} {r : Runs A} {s : Runs B} → Alike ⊥ R r s → Alike ⊥ (λ b a. R a b) s r
flip (done e) = done e
flip failed = failed
flip over = over
flip (cut l) = absurd l
flip (choose h) = choose (λ x m. flip (h x m))

-- one more step behind the first
pub ahead : {A B C : Type 0} {loose : Type 0} {R : A → B → Type 0} {r : Runs A} {s : Runs B} (S : C → B → Type 0) (h : A → C) → Alike loose R r s → ((a : A) (b : B) → R a b → S (h a) b) → Alike loose S (r >>= λ a. Done (h a)) s
ahead S h (done e) k = done (k _ _ e)
ahead S h failed k = failed
ahead S h over k = over
ahead S h (cut l) k = cut l
ahead S h (choose g) k = choose (λ x m. ahead S h (g x m) k)

pub weaker : {A B : Type 0} {loose : Type 0} {R : A → B → Type 0} {r : Runs A} {s : Runs B} (S : A → B → Type 0) → Alike loose R r s → ((a : A) (b : B) → R a b → S a b) → Alike loose S r s
weaker S (done e) k = done (k _ _ e)
weaker S failed k = failed
weaker S over k = over
weaker S (cut l) k = cut l
weaker S (choose g) k = choose (λ x m. weaker S (g x m) k)

pub overruns : {A B : Type 0} {loose : Type 0} {R : A → B → Type 0} {r : Runs A} {s : Runs B} → Alike loose R r s → (loose → ⊥) → Overruns r → Overruns s
overruns (done h) never f = absurd f
overruns failed never f = absurd f
overruns over never f = tt
overruns (cut l) never f = absurd (never l)
overruns (choose h) never f = (f.0, f.1, overruns (h f.0 f.1) never f.2)
