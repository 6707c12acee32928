-- Steps of loops over registers, variables and shapes.
use Rattle.std.proofs.Common.{◌≡◌, ◌≤◌, ◌<◌, ◌+◌, ℕ, suc, Bool, true, false, cond, ◌&&◌, List, [], ◌∷◌, length, drop, refl, sym, ap, ◌∙◌, nat_le, arith, get_or}
use Rattle.std.proofs.lemmas.Bool.{le-ltb, lt-leb, le-leb, lt-ltb}
use Rattle.std.proofs.lemmas.List.{drop_all}
use Rattle.std.specs.Prelude.{Some, None, Result, Ok, Err}
use Rattle.std.specs.Result.{OnOk, IfOk}
use Rattle.fit_tokens.proofs.ChangesLemmas.{dropped}
use Rattle.fits.specs.Follow.{all_below}
use Rattle.fits.specs.Places.{in_order, same_shapes, old_shape, old_shapes}
use Rattle.ownership.specs.Entries.{shape_of, shapes_of}
use Rattle.ownership.specs.declared.entry.Shape.{Shape}
use Rattle.rule_check.specs.Context.{same_shape}
use Rattle.target_code.specs.declared.tree.Proc.{Proc}
use Rattle.target_meaning.specs.Leaf.{find}
use Rattle.std.specs.Str.{bytes_eq}

-- ---- outcomes

pub if_then : {A E : Type 0} (r : Result A E) (P Q : A → Type 0) → IfOk r P → ((x : A) → P x → Q x) → IfOk r Q
if_then (Ok x) P Q p f = f x p
if_then (Err e) P Q p f = tt

pub on_then : {A E : Type 0} (r : Result A E) (P Q : Type 0) → OnOk r P → (P → Q) → OnOk r Q
on_then (Ok x) P Q p f = f p
on_then (Err e) P Q p f = tt

-- ---- registers

pub below_other : (R : ℕ) (rs : List ℕ) (i : ℕ) → i < length rs → R ≤ get_or rs i 0 → all_below R (drop i rs) ≡ false
below_other R rs i h l = ap (all_below R) (dropped rs i 0 h) ∙ ap (λ b. b && all_below R (drop (i + 1) rs)) (le-ltb (get_or rs i 0) R l)

pub below_step : (R : ℕ) (rs : List ℕ) (i : ℕ) → i < length rs → get_or rs i 0 < R → all_below R (drop i rs) ≡ all_below R (drop (i + 1) rs)
below_step R rs i h l = ap (all_below R) (dropped rs i 0 h) ∙ ap (λ b. b && all_below R (drop (i + 1) rs)) (lt-ltb (get_or rs i 0) R l)

pub below_end : (R : ℕ) (rs : List ℕ) (i : ℕ) → length rs ≤ i → all_below R (drop i rs) ≡ true
below_end R rs i h = ap (all_below R) (drop_all i rs h)

-- ---- variables in order

pub shapes_dropped : (zs : List Shape) (i : ℕ) (z : Shape) → i < length zs → shapes_of (drop i zs) ≡ shape_of (get_or zs i z) ∷ shapes_of (drop (i + 1) zs)
shapes_dropped zs i z h = ap shapes_of (dropped zs i z h)

pub order_lengths : (n : ℕ) (vs : List ℕ) (zs : List Shape) → (length vs ≡ length zs → ⊥) → in_order n vs (shapes_of zs) ≡ false
order_lengths n [] [] e = absurd (e refl)
order_lengths n [] (z ∷ zs) e = refl
order_lengths n (v ∷ vs) [] e = refl
order_lengths n (v ∷ vs) (z ∷ zs) e = ap (λ b. nat_le n v && b) (order_lengths (suc v) vs zs (λ q. e (ap suc q))) ∙ no (nat_le n v)
  where
    no : (b : Bool) → (b && false) ≡ false
    no true = refl
    no false = refl

order_at : (n : ℕ) (vs : List ℕ) (zs : List Shape) (i : ℕ) (z : Shape) → i < length vs → length vs ≡ length zs
    → in_order n (drop i vs) (shapes_of (drop i zs)) ≡ (nat_le n (get_or vs i 0) && in_order (suc (get_or vs i 0)) (drop (i + 1) vs) (shapes_of (drop (i + 1) zs)))
order_at n vs zs i z h e = ap (λ w. in_order n w (shapes_of (drop i zs))) (dropped vs i 0 h) ∙ ap (in_order n (get_or vs i 0 ∷ drop (i + 1) vs)) (shapes_dropped zs i z (omega arith))

-- any shape
no_shape : (zs : List Shape) (i : ℕ) → i < length zs → Shape
no_shape [] i h = absurd (omega arith)
no_shape (z ∷ zs) i h = z

pub order_other : (n : ℕ) (vs : List ℕ) (zs : List Shape) (i : ℕ) → i < length vs → length vs ≡ length zs → get_or vs i 0 < n → in_order n (drop i vs) (shapes_of (drop i zs)) ≡ false
order_other n vs zs i h e l =
    order_at n vs zs i (no_shape zs i (omega arith)) h e ∙ ap (λ b. b && in_order (suc (get_or vs i 0)) (drop (i + 1) vs) (shapes_of (drop (i + 1) zs))) (lt-leb n (get_or vs i 0) l)

pub order_step : (n m : ℕ) (vs : List ℕ) (zs : List Shape) (i : ℕ) → i < length vs → length vs ≡ length zs → n ≤ get_or vs i 0 → m ≡ get_or vs i 0 + 1 → in_order n (drop i vs) (shapes_of (drop i zs)) ≡ in_order m (drop (i + 1) vs) (shapes_of (drop (i + 1) zs))
order_step n m vs zs i h e l q =
    let k : suc (get_or vs i 0) ≡ m = omega arith in
    order_at n vs zs i (no_shape zs i (omega arith)) h e ∙ ap (λ b. b && in_order (suc (get_or vs i 0)) (drop (i + 1) vs) (shapes_of (drop (i + 1) zs))) (le-leb n (get_or vs i 0) l)
    ∙ ap (λ j. in_order j (drop (i + 1) vs) (shapes_of (drop (i + 1) zs))) k

pub order_end : (n : ℕ) (vs : List ℕ) (zs : List Shape) (i : ℕ) → length vs ≡ length zs → length vs ≤ i → in_order n (drop i vs) (shapes_of (drop i zs)) ≡ true
order_end n vs zs i e h = ap (λ w. in_order n w (shapes_of (drop i zs))) (drop_all i vs h) ∙ ap (λ w. in_order n [] (shapes_of w)) (drop_all i zs (omega arith))

-- ---- shapes

pub same_lengths : (ys zs : List Shape) → (length ys ≡ length zs → ⊥) → same_shapes (shapes_of ys) (shapes_of zs) ≡ false
same_lengths [] [] e = absurd (e refl)
same_lengths [] (z ∷ zs) e = refl
same_lengths (y ∷ ys) [] e = refl
same_lengths (y ∷ ys) (z ∷ zs) e = ap (λ b. same_shape (shape_of y) (shape_of z) && b) (same_lengths ys zs (λ q. e (ap suc q))) ∙ no (same_shape (shape_of y) (shape_of z))
  where
    no : (b : Bool) → (b && false) ≡ false
    no true = refl
    no false = refl

pub same_at : (ys zs : List Shape) (i : ℕ) (y z : Shape) → i < length ys → i < length zs
    → same_shapes (shapes_of (drop i ys)) (shapes_of (drop i zs)) ≡ (same_shape (shape_of (get_or ys i y)) (shape_of (get_or zs i z)) && same_shapes (shapes_of (drop (i + 1) ys)) (shapes_of (drop (i + 1) zs)))
same_at ys zs i y z h k = ap (λ w. same_shapes w (shapes_of (drop i zs))) (shapes_dropped ys i y h) ∙ ap (same_shapes (shape_of (get_or ys i y) ∷ shapes_of (drop (i + 1) ys))) (shapes_dropped zs i z k)

pub same_other : (ys zs : List Shape) (i : ℕ) (y z : Shape) (b : Bool) → i < length ys → i < length zs → b ≡ same_shape (shape_of (get_or ys i y)) (shape_of (get_or zs i z)) → b ≡ false → same_shapes (shapes_of (drop i ys)) (shapes_of (drop i zs)) ≡ false
same_other ys zs i y z b h k e f = same_at ys zs i y z h k ∙ ap (λ c. c && same_shapes (shapes_of (drop (i + 1) ys)) (shapes_of (drop (i + 1) zs))) (sym e ∙ f)

pub same_step : (ys zs : List Shape) (i : ℕ) (y z : Shape) (b : Bool) → i < length ys → i < length zs → b ≡ same_shape (shape_of (get_or ys i y)) (shape_of (get_or zs i z)) → b ≡ true
    → same_shapes (shapes_of (drop i ys)) (shapes_of (drop i zs)) ≡ same_shapes (shapes_of (drop (i + 1) ys)) (shapes_of (drop (i + 1) zs))
same_step ys zs i y z b h k e f = same_at ys zs i y z h k ∙ ap (λ c. c && same_shapes (shapes_of (drop (i + 1) ys)) (shapes_of (drop (i + 1) zs))) (sym e ∙ f)

pub same_end : (ys zs : List Shape) (i : ℕ) → length ys ≡ length zs → length ys ≤ i → same_shapes (shapes_of (drop i ys)) (shapes_of (drop i zs)) ≡ true
same_end ys zs i e h = ap (λ w. same_shapes (shapes_of w) (shapes_of (drop i zs))) (drop_all i ys h) ∙ ap (λ w. same_shapes [] (shapes_of w)) (drop_all i zs (omega arith))

pub old_other : (n : ℕ) (zs : List Shape) (i : ℕ) (z : Shape) (b : Bool) → i < length zs → b ≡ old_shape n (shape_of (get_or zs i z)) → b ≡ false → old_shapes n (shapes_of (drop i zs)) ≡ false
old_other n zs i z b h e f = ap (old_shapes n) (shapes_dropped zs i z h) ∙ ap (λ c. c && old_shapes n (shapes_of (drop (i + 1) zs))) (sym e ∙ f)

pub old_step : (n : ℕ) (zs : List Shape) (i : ℕ) (z : Shape) (b : Bool) → i < length zs → b ≡ old_shape n (shape_of (get_or zs i z)) → b ≡ true → old_shapes n (shapes_of (drop i zs)) ≡ old_shapes n (shapes_of (drop (i + 1) zs))
old_step n zs i z b h e f = ap (old_shapes n) (shapes_dropped zs i z h) ∙ ap (λ c. c && old_shapes n (shapes_of (drop (i + 1) zs))) (sym e ∙ f)

pub old_end : (n : ℕ) (zs : List Shape) (i : ℕ) → length zs ≤ i → old_shapes n (shapes_of (drop i zs)) ≡ true
old_end n zs i h = ap (λ w. old_shapes n (shapes_of w)) (drop_all i zs h)

-- ---- procedures by name

pub find_step : (ps : List Proc) (i : ℕ) (p : Proc) (name : List ℕ) → i < length ps → bytes_eq (get_or ps i p).name name ≡ false → find (drop i ps) name ≡ find (drop (i + 1) ps) name
find_step ps i p name h e = ap (λ z. find z name) (dropped ps i p h) ∙ ap (λ b. cond b (Some (get_or ps i p)) (find (drop (i + 1) ps) name)) e

pub find_here : (ps : List Proc) (i : ℕ) (p : Proc) (name : List ℕ) → i < length ps → bytes_eq (get_or ps i p).name name ≡ true → find (drop i ps) name ≡ Some (get_or ps i p)
find_here ps i p name h e = ap (λ z. find z name) (dropped ps i p h) ∙ ap (λ b. cond b (Some (get_or ps i p)) (find (drop (i + 1) ps) name)) e

pub find_end : (ps : List Proc) (i : ℕ) (name : List ℕ) → length ps ≤ i → find (drop i ps) name ≡ None
find_end ps i name h = ap (λ z. find z name) (drop_all i ps h)
