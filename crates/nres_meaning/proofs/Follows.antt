-- What one part after another gives, and where it fails.
use Rattle.std.proofs.Common.{true, false, refl, sym, subst}
use Rattle.nres_core.specs.Runs.{Runs, Done, Failed, Over, Choose, ◌>>=◌, Gives, Fails, both}
use Rattle.nres_core.specs.declared.value.Value.TheVariants as v

pub gives_then : {A B : Type 0} (r : Runs A) (f : A → Runs B) (a : A) (b : B) → Gives r a → Gives (f a) b → Gives (r >>= f) b
gives_then (Done c) f a b e g = subst (λ z. Gives (f z) b) (sym e) g
gives_then (Failed l) f a b e g = absurd e
gives_then (Over l) f a b e g = absurd e
gives_then (Choose c k) f a b e g = (e.0, e.1, gives_then (k e.0) f a b e.2 g)

-- a part that gives and a rest that fails make the whole fail
pub fails_then : {A B : Type 0} (r : Runs A) (f : A → Runs B) (a : A) → Gives r a → Fails (f a) → Fails (r >>= f)
fails_then (Done c) f a e g = subst (λ z. Fails (f z)) (sym e) g
fails_then (Failed l) f a e g = absurd e
fails_then (Over l) f a e g = absurd e
fails_then (Choose c k) f a e g = (e.0, e.1, fails_then (k e.0) f a e.2 g)

pub fails_here : {A B : Type 0} (r : Runs A) (f : A → Runs B) → Fails r → Fails (r >>= f)
fails_here (Done c) f e = absurd e
fails_here (Failed l) f e = tt
fails_here (Over l) f e = absurd e
fails_here (Choose c k) f e = (e.0, e.1, fails_here (k e.0) f e.2)

-- and the other way
pub gives_parts : {A B : Type 0} (r : Runs A) (f : A → Runs B) (b : B) → Gives (r >>= f) b → (a : A) × Gives r a × Gives (f a) b
gives_parts (Done c) f b g = (c, refl, g)
gives_parts (Failed l) f b g = absurd g
gives_parts (Over l) f b g = absurd g
gives_parts (Choose c k) f b g = let p = gives_parts (k g.0) f b g.2 in (p.0, (g.0, g.1, p.1), p.2)

-- two parts that take no notice of one another
pub both_gives : {A B C : Type 0} (r : Runs A) (s : Runs B) (k : A → B → Runs C) (a : A) (b : B) (c : C) → Gives r a → Gives s b → Gives (k a b) c → Gives (both r s k) c
both_gives r s k a b c g h e = (v.Bool true, tt, gives_then r (λ x. s >>= λ y. k x y) a c g (gives_then s (λ y. k a y) b c h e))

pub both_fails_left : {A B C : Type 0} (r : Runs A) (s : Runs B) (k : A → B → Runs C) → Fails r → Fails (both r s k)
both_fails_left r s k g = (v.Bool true, tt, fails_here r (λ x. s >>= λ y. k x y) g)

pub both_fails_right : {A B C : Type 0} (r : Runs A) (s : Runs B) (k : A → B → Runs C) → Fails s → Fails (both r s k)
both_fails_right r s k g = (v.Bool false, tt, fails_here s (λ y. r >>= λ x. k x y) g)

pub both_fails : {A B C : Type 0} (r : Runs A) (s : Runs B) (k : A → B → Runs C) (a : A) (b : B) → Gives r a → Gives s b → Fails (k a b) → Fails (both r s k)
both_fails r s k a b g h e = (v.Bool true, tt, fails_then r (λ x. s >>= λ y. k x y) a g (fails_then s (λ y. k a y) b h e))
