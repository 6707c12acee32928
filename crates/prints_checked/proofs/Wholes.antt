-- So do procedures and whole specifications.
use Rattle.std.proofs.Common.{◌≡◌, ℕ, suc, ◌+◌, List, [], ◌∷◌, length, Result, Ok, Err, Option, Some, None, refl, sym, ap, ◌∙◌, codes}
use Rattle.target_code.specs.declared.tree.InParam.{InParam}
use Rattle.target_code.specs.declared.tree.Rep.{Rep}
use Rattle.nres_core.specs.FlatTree.{Flats, FlatProc, FlatWhole, bound_in}
use Rattle.nres_core.specs.declared.refusal.Refusal.{Refusal}
use Rattle.nres_core.specs.declared.refusal.Why.TheVariants as w
use Rattle.rule_check.specs.Check.{check, owed, shape_reps, body_sure, procs_sure, book_of, refusal_in}
use Rattle.rule_check.specs.Context.{Ctx, first_unlike, reps_of, looked_up}
use Rattle.rule_check.specs.Steps.{Moved, on_ok, unless, ended, slices_are, refused}
use Rattle.prints.specs.Print.{Means, Printed, Block, print, print_end}
use Rattle.prints.specs.Programs.{Procs, Proved, begin_now, print_shown, print_body, print_procs, print_all, proved_of}
use Rattle.prints_checked.specs.Agrees.{ctx_of, WholesAgree}
use Rattle.prints_checked.proofs.Binds.{binds_agree}

-- the same refusal, or none
refuses : {A : Type 0} → Result A Refusal → Option Refusal
refuses r = refusal_in r

-- two that are refused alike, and what follows them
alike : {A B C D : Type 0} (r : Result A Refusal) (q : Result B Refusal) (k : A → Result C Refusal) (j : B → Result D Refusal)
    → refusal_in r ≡ refusal_in q → ((a : A) (b : B) → r ≡ Ok a → q ≡ Ok b → refusal_in (k a) ≡ refusal_in (j b)) → refusal_in (on_ok r k) ≡ refusal_in (on_ok q j)
unfolding on_ok
alike (Ok a) (Ok b) k j e h = h a b refl refl
alike (Ok a) (Err f) k j e h = absurd (let z : ⊥ = cc e in z)
alike (Err f) (Ok b) k j e h = absurd (let z : ⊥ = cc e in z)
alike (Err f) (Err g) k j e h = e

abbrev ok_or : {A : Type 0} → A → Result A Refusal → A
ok_or d (Ok a) = a
ok_or d (Err f) = d

ok_is : (x y : Ctx) (r : Result Ctx Refusal) → r ≡ Ok x → r ≡ Ok y → x ≡ y
ok_is x y r d e = ap (ok_or x) (sym d ∙ e)

-- a result that has the declared representations, or is refused
shown : (q : Option ℕ) (e : ℕ → Refusal) (x : Block) (m : Moved) → refusal_in (unless q e (Ok x)) ≡ refusal_in (unless q e (Ok m))
unfolding unless
shown None e x m = refl
shown (Some i) e x m = refl

-- an end of a block
ends : (r : Result Moved Refusal) (f : Moved → Block) (k : Block → Result Block Refusal) (j : Moved → Result Moved Refusal) → ((m : Moved) → refusal_in (k (f m)) ≡ refusal_in (j m)) → refusal_in (on_ok (on_ok r (λ m. Ok (f m))) k) ≡ refusal_in (on_ok r j)
unfolding on_ok
ends (Ok m) f k j h = h m
ends (Err e) f k j h = refl

body_with : (M : Means) (params : List ℕ) (sw : List Rep) (b : Flats) (r : Result Printed Refusal) (c : Result Ctx Refusal) → ctx_of r ≡ c
    → refusal_in (on_ok (print_end M 0 (slices_are params sw) b.ending r) (print_shown sw b))
    ≡ refusal_in (on_ok c (λ x. on_ok (ended M.book 0 (slices_are params sw) x b.ending) (λ m.
    unless (first_unlike 1 sw (shape_reps m.shapes)) (λ i. refused b.ending.place (codes "return") (reps_of (looked_up x.spots b.ending.results)) (w.Result i)) (Ok m))))
unfolding on_ok ctx_of
body_with M ks sw b (Ok p) (Ok x) e =
    ends (ended M.book 0 (slices_are ks sw) p.now.ctx b.ending) (λ m. record { printed = p; moved = m; results = b.ending.results }) (print_shown sw b) (after p.now.ctx)
    (λ m. shown (first_unlike 1 sw (shape_reps m.shapes)) (λ i. refused b.ending.place (codes "return") (reps_of (looked_up p.now.ctx.spots b.ending.results)) (w.Result i)) (record { printed = p; moved = m; results = b.ending.results }) m)
    ∙ ap (λ y. refusal_in (on_ok (ended M.book 0 (slices_are ks sw) y b.ending) (after y))) (ok_is p.now.ctx x (Ok p.now.ctx) refl e)
  where
    after : Ctx → Moved → Result Moved Refusal
    after y m = unless (first_unlike 1 sw (shape_reps m.shapes)) (λ i. refused b.ending.place (codes "return") (reps_of (looked_up y.spots b.ending.results)) (w.Result i)) (Ok m)
body_with M ks sw b (Ok p) (Err f) e = absurd (let z : ⊥ = cc e in z)
body_with M ks sw b (Err f) (Ok x) e = absurd (let z : ⊥ = cc e in z)
body_with M ks sw b (Err f) (Err g) e = ap refusal_in e

body : (M : Means) (k : ℕ) (params : List InParam) (sw : List Rep) (b : Flats) (n : ℕ) → refusal_in (print_body M k params sw b n) ≡ refusal_in (body_sure M.book k params sw b)
body M k params sw b n = body_with M (owed k params) sw b (print M b.binds (begin_now k params n)) (check M.book b.binds (begin_now k params n).ctx) (binds_agree M b.binds (begin_now k params n))

procs : (M : Means) (g k : ℕ) (ps : List FlatProc) (n : ℕ) → refusal_in (print_procs M g k ps n) ≡ refusal_in (procs_sure M.book k ps)
procs M g k [] n = refl
procs M g k (p ∷ ps) n =
    alike _ _ _ _ (body M k p.params p.shown p.body n) (λ x m ex em.
    alike _ _ _ _ (procs M (suc g) (k + length p.params + bound_in p.body.binds) ps x.printed.now.branch) (λ d ms ed ems. refl))

all : (M : Means) (f : FlatWhole) → refusal_in (print_all M f) ≡ refusal_in (on_ok (body_sure M.book 0 f.params f.shown f.body) (λ m. on_ok (procs_sure M.book (length f.params + bound_in f.body.binds) f.procs) (λ ms. Ok (m ∷ ms))))
all M f =
    alike _ _ _ _ (body M 0 f.params f.shown f.body 0) (λ x m ex em.
    alike _ _ _ _ (procs M 0 (length f.params + bound_in f.body.binds) f.procs x.printed.now.branch) (λ d ms ed ems. refl))

last : (r : Result Procs Refusal) (f : Procs → Proved) → refusal_in (on_ok r (λ d. Ok (f d))) ≡ refusal_in r
unfolding on_ok
last (Ok d) f = refl
last (Err e) f = refl

pub wholes_agree : WholesAgree
wholes_agree row_for lib_name library f =
    let M : Means = record { book = book_of row_for f; lib_name = lib_name } in
    last (print_all M f) (proved_of library f) ∙ all M f
