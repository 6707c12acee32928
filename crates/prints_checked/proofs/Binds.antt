-- Each bind is printed by the rule check's own step.
use Rattle.std.proofs.Common.{◌≡◌, ℕ, Bool, true, false, List, [], Result, Ok, Err, Option, refl, ap, ◌∙◌}
use Rattle.target_code.specs.declared.tree.Instr.{Instr}
use Rattle.target_code.specs.declared.tree.Proc.{Proc}
use Rattle.nres_core.specs.FlatTree as t
use Rattle.nres_core.specs.FlatTree.{Binds, Ending}
use Rattle.nres_core.specs.declared.refusal.Refusal.{Refusal}
use Rattle.rule_check.specs.Context.{Ctx, Shape}
use Rattle.rule_check.specs.Steps.{Moved, on_ok, either_of, ended, turned}
use Rattle.fits.specs.Follow.{Line}
use Rattle.prints.specs.Print.{Means, Now, Printed, Block, Side, side_of, put_before, print_end, print_turn}
use Rattle.prints_checked.specs.Agrees.{ctx_of, BindsAgree}

before : (c : List Instr) (l : List Line) (d : List Proc) (n : ℕ) (r : Result Printed Refusal) (q : Result Ctx Refusal) → ctx_of r ≡ q → ctx_of (put_before c l d n r) ≡ q
unfolding ctx_of put_before
before c l d n (Ok p) q h = h
before c l d n (Err e) q h = h

step : {A : Type 0} (r : Result A Refusal) (k : A → Result Printed Refusal) (j : A → Result Ctx Refusal) → ((a : A) → ctx_of (k a) ≡ j a) → ctx_of (on_ok r k) ≡ on_ok r j
unfolding ctx_of on_ok
step (Ok a) k j h = h a
step (Err e) k j h = refl

inner : (r : Result Printed Refusal) (c : Result Ctx Refusal) (k : Printed → Result Printed Refusal) (j : Ctx → Result Ctx Refusal) → ctx_of r ≡ c → ((p : Printed) → ctx_of (k p) ≡ j p.now.ctx) → ctx_of (on_ok r k) ≡ on_ok c j
unfolding ctx_of on_ok
inner (Ok p) c k j e h = h p ∙ ap (λ y. on_ok y j) e
inner (Err w) c k j e h = ap (λ y. on_ok y j) e

-- what moved out at the end of a block
unfoldable moved_of : Result Block Refusal → Result Moved Refusal
moved_of (Ok b) = Ok b.moved
moved_of (Err e) = Err e

end_moved : (r : Result Moved Refusal) (f : Moved → Block) → ((m : Moved) → (f m).moved ≡ m) → moved_of (on_ok r (λ m. Ok (f m))) ≡ r
unfolding moved_of on_ok
end_moved (Ok m) f h = ap Ok (h m)
end_moved (Err e) f h = refl

end_of : (M : Means) (n : ℕ) (astray : List Shape → Option ℕ) (e : Ending) (r : Result Printed Refusal) → moved_of (print_end M n astray e r) ≡ on_ok (ctx_of r) (λ x. ended M.book n astray x e)
unfolding ctx_of moved_of on_ok
end_of M n astray e (Ok p) = by (ended M.book n astray p.now.ctx e)
  where
    by : (r : Result Moved Refusal) → moved_of (on_ok r (λ m. Ok (record { printed = p; moved = m; results = e.results }))) ≡ r
    by r = end_moved r (λ m. record { printed = p; moved = m; results = e.results }) (λ m. refl)
end_of M n astray e (Err w) = refl

turn_of : (M : Means) (m : Moved) (e : Ending) (r : Result Printed Refusal) → moved_of (print_turn M m e r) ≡ on_ok (ctx_of r) (λ x. turned M.book m x e)
unfolding ctx_of moved_of on_ok
turn_of M m e (Ok p) = by (turned M.book m p.now.ctx e)
  where
    by : (r : Result Moved Refusal) → moved_of (on_ok r (λ m2. Ok (record { printed = p; moved = m2; results = e.results }))) ≡ r
    by r = end_moved r (λ m2. record { printed = p; moved = m2; results = e.results }) (λ m. refl)
turn_of M m e (Err w) = refl

-- what follows a block looks at what moved out
block : (r : Result Block Refusal) (q : Result Moved Refusal) (k : Block → Result Printed Refusal) (j : Moved → Result Ctx Refusal) → moved_of r ≡ q → ((b : Block) → ctx_of (k b) ≡ j b.moved) → ctx_of (on_ok r k) ≡ on_ok q j
unfolding ctx_of moved_of on_ok
block (Ok b) q k j e h = h b ∙ ap (λ y. on_ok y j) e
block (Err w) q k j e h = ap (λ y. on_ok y j) e

twice : {A B C : Type 0} (r : Result A Refusal) (f : A → Result B Refusal) (j : B → Result C Refusal) → on_ok (on_ok r f) j ≡ on_ok r (λ a. on_ok (f a) j)
unfolding on_ok
twice (Ok a) f j = refl
twice (Err e) f j = refl

-- a block with its end
ending : (M : Means) (n : ℕ) (astray : List Shape → Option ℕ) (e : Ending) (r : Result Printed Refusal) (c : Result Ctx Refusal) (k : Block → Result Printed Refusal) (j : Moved → Result Ctx Refusal) → ctx_of r ≡ c → ((b : Block) → ctx_of (k b) ≡ j b.moved)
    → ctx_of (on_ok (print_end M n astray e r) k) ≡ on_ok c (λ x. on_ok (ended M.book n astray x e) j)
ending M n astray e r c k j h w =
    block (print_end M n astray e r) (on_ok c (λ x. ended M.book n astray x e)) k j (end_of M n astray e r ∙ ap (λ y. on_ok y (λ x. ended M.book n astray x e)) h) w
    ∙ twice c (λ x. ended M.book n astray x e) j

turning : (M : Means) (m : Moved) (e : Ending) (r : Result Printed Refusal) (c : Result Ctx Refusal) (k : Block → Result Printed Refusal) (j : Moved → Result Ctx Refusal) → ctx_of r ≡ c → ((b : Block) → ctx_of (k b) ≡ j b.moved)
    → ctx_of (on_ok (print_turn M m e r) k) ≡ on_ok c (λ x. on_ok (turned M.book m x e) j)
turning M m e r c k j h w =
    block (print_turn M m e r) (on_ok c (λ x. turned M.book m x e)) k j (turn_of M m e r ∙ ap (λ y. on_ok y (λ x. turned M.book m x e)) h) w
    ∙ twice c (λ x. turned M.book m x e) j

-- ---- `either`

unfoldable moved_side : Result Side Refusal → Result Moved Refusal
moved_side (Ok y) = Ok y.block.moved
moved_side (Err e) = Err e

side_moved : (left : Bool) (b : Result Block Refusal) → moved_side (side_of left b) ≡ moved_of b
unfolding moved_side moved_of on_ok
side_moved left (Ok b) = refl
side_moved left (Err w) = refl

one_side : (M : Means) (left : Bool) (n : ℕ) (astray : List Shape → Option ℕ) (e : Ending) (r : Result Printed Refusal) (c : Result Ctx Refusal) → ctx_of r ≡ c → moved_side (side_of left (print_end M n astray e r)) ≡ on_ok c (λ x. ended M.book n astray x e)
one_side M left n astray e r c h = side_moved left (print_end M n astray e r) ∙ end_of M n astray e r ∙ ap (λ y. on_ok y (λ x. ended M.book n astray x e)) h

either_moved : (a b : Result Side Refusal) (k : Side → Result Printed Refusal) (j : Moved → Result Ctx Refusal) → ((y : Side) → ctx_of (k y) ≡ j y.block.moved) → ctx_of (on_ok (either_of a b) k) ≡ on_ok (either_of (moved_side a) (moved_side b)) j
unfolding ctx_of moved_side on_ok either_of
either_moved (Ok y) b k j h = h y
either_moved (Err w) (Ok y) k j h = h y
either_moved (Err w) (Err v) k j h = refl

chosen : (a b : Result Side Refusal) (c d : Result Moved Refusal) (k : Side → Result Printed Refusal) (j : Moved → Result Ctx Refusal) → moved_side a ≡ c → moved_side b ≡ d → ((y : Side) → ctx_of (k y) ≡ j y.block.moved) → ctx_of (on_ok (either_of a b) k) ≡ on_ok (either_of c d) j
chosen a b c d k j e f h = either_moved a b k j h ∙ ap (λ y. on_ok (either_of y (moved_side b)) j) e ∙ ap (λ y. on_ok (either_of c y) j) f

-- ---- binds

here : (x : Now) → ctx_of (Ok (record { now = x; code = []; lines = []; made = []; top = x.free })) ≡ Ok x.ctx
unfolding ctx_of
here x = refl

pub binds_agree : BindsAgree
binds_agree M t.No_bind x = here x
binds_agree M (t.Calc_to p to w u v rest) x = before _ _ _ _ _ _ (binds_agree M rest _)
binds_agree M (t.Apply_to p to op made us rest) x = step _ _ _ (λ y. before _ _ _ _ _ _ (binds_agree M rest _))
binds_agree M (t.Assert p inner u rest) x = binds_agree M rest _
binds_agree M (t.If p to u l le r re rest) x =
    ending M _ _ le _ _ _ _ (binds_agree M l _) (λ b1.
    ending M _ _ re _ _ _ _ (binds_agree M r _) (λ b2.
    step _ _ _ (λ m. before _ _ _ _ _ _ (binds_agree M rest _))))
binds_agree M (t.While p to xs us cs u b be rest) x =
    step _ _ _ (λ m.
    inner _ _ _ _ (binds_agree M cs _) (λ p1.
    turning M m be _ _ _ _ (binds_agree M b _) (λ b2.
    before _ _ _ _ _ _ (binds_agree M rest _))))
binds_agree M (t.Par p to l le r re rest) x =
    step _ _ _ (λ ss.
    ending M _ _ le _ _ _ _ (binds_agree M l _) (λ b1.
    ending M _ _ re _ _ _ _ (binds_agree M r _) (λ b2.
    before _ _ _ _ _ _ (binds_agree M rest _))))
binds_agree M (t.Split p to list at i l le j r re rest) x =
    step _ _ _ (λ ss.
    ending M _ _ le _ _ _ _ (binds_agree M l _) (λ b1.
    ending M _ _ re _ _ _ _ (binds_agree M r _) (λ b2.
    before _ _ _ _ _ _ (binds_agree M rest _))))
binds_agree M (t.Either p to l le r re rest) x =
    chosen _ _ _ _ _ _ (one_side M true _ _ le _ _ (binds_agree M l _)) (one_side M false _ _ re _ _ (binds_agree M r _)) (λ y. before _ _ _ _ _ _ (binds_agree M rest _))
binds_agree M (t.Any p to u v rest) x = before _ _ _ _ _ _ (binds_agree M rest _)
binds_agree M (t.Call p to g us rest) x = step _ _ _ (λ y. before _ _ _ _ _ _ (binds_agree M rest _))
