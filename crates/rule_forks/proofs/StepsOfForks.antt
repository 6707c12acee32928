-- The check of `par` and `split` by their branches.
use Rattle.std.proofs.Common.{◌≡◌, [], length, refl}
use Rattle.std.specs.Prelude.{Some, None, Result, Ok, Err, codes}
use Rattle.nres_core.specs.declared.refusal.Refusal.{Refusal}
use Rattle.rule_check.specs.Check.{check}
use Rattle.rule_check.specs.Context.{shape_of, spot_at}
use Rattle.rule_check.specs.Steps.{begun, on_ok, ended, par_sure, refused, split_sure}
use Rattle.rule_forks.specs.Forks.{uses_of, uses_beside, par_left, par_right, split_left, split_right, part_spots, fork_ctx}
use Rattle.rule_forks.specs.Laws.{ParSteps, SplitSteps}
use Rattle.rule_steps.specs.Ends.{astray_of}

-- two steps, each of two parts
both : {A B C D E : Type 0} (p : Result A Refusal) (f : A → Result B Refusal) (q : Result C Refusal) (g : C → Result D Refusal) (k : B → D → Result E Refusal)
    → on_ok p (λ a. on_ok (f a) (λ b. on_ok q (λ c. on_ok (g c) (λ d. k b d)))) ≡ on_ok (on_ok p f) (λ b. on_ok (on_ok q g) (λ d. k b d))
unfolding on_ok
both {A} {B} {C} {D} {E} p f q g k = first p
  where
    second : (b : B) (q : Result C Refusal) → on_ok q (λ c. on_ok (g c) (λ d. k b d)) ≡ on_ok (on_ok q g) (λ d. k b d)
    second b (Ok c) = refl
    second b (Err e) = refl

    after : (r : Result B Refusal) → on_ok r (λ b. on_ok q (λ c. on_ok (g c) (λ d. k b d))) ≡ on_ok r (λ b. on_ok (on_ok q g) (λ d. k b d))
    after (Ok b) = second b q
    after (Err e) = refl

    first : (p : Result A Refusal) → on_ok p (λ a. on_ok (f a) (λ b. on_ok q (λ c. on_ok (g c) (λ d. k b d)))) ≡ on_ok (on_ok p f) (λ b. on_ok (on_ok q g) (λ d. k b d))
    first (Ok a) = after (f a)
    first (Err e) = refl

pub par_steps : ParSteps
par_steps book p to l r rest x =
    let us = uses_of l in
    let vs = uses_of r in
    let ql = par_left us vs in
    let qr = par_right us vs in
    λ i. on_ok (par_sure book x.spots us vs (refused p (codes "par") [])) (λ ss.
    both (check book l.binds (begun x (part_spots ss ql) [])) (λ y. ended book (length (part_spots ss ql)) (astray_of ql.slice) y l.ending)
    (check book r.binds (begun x (part_spots ss qr) [])) (λ y. ended book (length (part_spots ss qr)) (astray_of qr.slice) y r.ending)
    (λ m1 m2. check book rest (fork_ctx x to ss None ql qr m1 m2)) i)

pub split_steps : SplitSteps
split_steps book p to list at i j l r rest x =
    let us = uses_beside list l in
    let vs = uses_beside list r in
    let ql = split_left list us vs i in
    let qr = split_right list us vs j in
    λ n. on_ok (split_sure book x.spots p list us vs) (λ ss.
    both (check book l.binds (begun x (part_spots ss ql) [])) (λ y. ended book (length (part_spots ss ql)) (astray_of ql.slice) y l.ending)
    (check book r.binds (begun x (part_spots ss qr) [])) (λ y. ended book (length (part_spots ss qr)) (astray_of qr.slice) y r.ending)
    (λ m1 m2. check book rest (fork_ctx x to ss (Some (shape_of (spot_at x.spots list))) ql qr m1 m2)) n)
