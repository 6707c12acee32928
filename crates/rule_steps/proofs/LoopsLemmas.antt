-- Loops by their faults.
use Rattle.std.proofs.Common.{◌≡◌, ℕ, List, [], refl, sym, ap, ◌∙◌, length, subst}
use Rattle.std.specs.Prelude.{Option, Some, None, Result, Ok, Err, IfOk, codes}
use Rattle.nres_core.specs.FlatTree.{Ending, flats_of}
use Rattle.nres_core.specs.declared.flat.Arg.{Arg}
use Rattle.nres_core.specs.declared.flat.FlatBlock.{FlatBlock}
use Rattle.nres_core.specs.declared.place.Place.{Place}
use Rattle.nres_core.specs.declared.refusal.Refusal.{Refusal}
use Rattle.nres_core.specs.declared.refusal.Why.{Why}
use Rattle.nres_core.specs.declared.refusal.Why.TheVariants as w
use Rattle.context_laws.specs.Stacks.{Held}
use Rattle.ownership.specs.Faults.{after_taken, or_next, results_fault, why_of, unless_refused}
use Rattle.ownership.specs.Entries.{spots_of}
use Rattle.ownership.specs.declared.entry.Entry.{Entry}
use Rattle.rule_steps.specs.Ends.{moved_as}
use Rattle.ownership.specs.declared.entry.Fault.{Fault}
use Rattle.ownership.specs.declared.entry.Fault.TheVariants as f
use Rattle.rule_check.specs.Context.{Spot, Ctx, reps_of, shapes_of, vars_of, all_go, looked_up, first_gone, first_twice, first_kept, first_other}
use Rattle.rule_check.specs.Steps.{Book, Moved, name_at, refused, on_ok, unless, started, turned, ended, no_list}
use Rattle.rule_steps.specs.Loops.{or_refused, started_as}
use Rattle.rule_steps.proofs.EndsLemmas.{ending_is}

pub unless_none : {B : Type 0} (a : Option ℕ) (e : ℕ → Refusal) (next : Result B Refusal) (o : Option ℕ) → o ≡ a → o ≡ None → unless a e next ≡ next
unfolding unless
unless_none a e next o g h = ap (λ z. unless z e next) (sym g ∙ h)

pub unless_some : {B : Type 0} (a : Option ℕ) (e : ℕ → Refusal) (next : Result B Refusal) (o : Option ℕ) (k : ℕ) (r : Refusal) → o ≡ a → o ≡ Some k → r ≡ e k → unless a e next ≡ Err r
unfolding unless
unless_some {B} a e next o k r g h s = let q : Refusal → Result B Refusal = λ z. Err z in ap (λ z. unless z e next) (sym g ∙ h) ∙ ap q (sym s)

-- ---- the start

module _ (names : List (List ℕ)) (refuse : Why → Refusal) (m : Moved) where
  moves : (g t k : Option ℕ) → unless g (λ v. refuse (w.Gone (name_at names v))) (unless t (λ v. refuse (w.Twice (name_at names v))) (unless k (λ v. refuse (w.Held (name_at names v))) (Ok m)))
      ≡ unless_refused names refuse (or_next f.Gone g (or_next f.Twice t (or_next f.Held k None))) (Ok m)
  unfolding unless
  moves (Some v) t k = refl
  moves None (Some v) k = refl
  moves None None (Some v) = refl
  moves None None None = refl

module _ (book : Book) (x : Ctx) (p : Place) (us : List Arg) (ss xs : List Spot) (at : x.spots ≡ xs) (seen : ss ≡ looked_up x.spots us) (o : Option Fault) (e : o ≡ results_fault ss) where
  abbrev after : List Spot → List Spot → Moved
  after zs ys = record { shapes = shapes_of zs; spots = all_go (vars_of zs) ys }

  started_is : started book x p us ≡ unless_refused book.names (refused p (codes "while") []) o (Ok (after ss xs))
  started_is =
      let zs = looked_up x.spots us in
      moves book.names (refused p (codes "while") []) (after zs x.spots) (first_gone zs) (first_twice zs) (first_kept zs)
      ∙ ap (λ z. unless_refused book.names (refused p (codes "while") []) (results_fault z) (Ok (after z x.spots))) (sym seen)
      ∙ ap (λ z. unless_refused book.names (refused p (codes "while") []) z (Ok (after ss x.spots))) (sym e)
      ∙ ap (λ z. unless_refused book.names (refused p (codes "while") []) o (Ok (after ss z))) at

  pub starts : (ys : List Spot) → o ≡ None → ys ≡ all_go (vars_of ss) xs → started book x p us ≡ started_as None (shapes_of ss) ys
  starts ys none d = started_is ∙ ap (λ z. unless_refused book.names (refused p (codes "while") []) z (Ok (after ss xs))) none ∙ ap (λ z. started_as None (shapes_of ss) z) (sym d)

  pub starts_refused : (names : List (List ℕ)) (fault : Fault) (r : Refusal) (ys : List Spot) → book.names ≡ names → o ≡ Some fault → r ≡ refused p (codes "while") [] (why_of names fault) → started book x p us ≡ started_as (Some r) (shapes_of ss) ys
  starts_refused names fault r ys n some s =
      let g : Refusal → Result Moved Refusal = λ z. Err z in
      started_is ∙ ap (λ z. unless_refused book.names (refused p (codes "while") []) z (Ok (after ss xs))) some
      ∙ ap g (ap (λ z. refused p (codes "while") [] (why_of z fault)) n ∙ sym s)

-- ---- the end of a turn

module _ (book : Book) (m : Moved) (x : Ctx) (e : Ending) (next : Result Ctx Refusal) (n : ℕ) (count : length m.spots ≡ n) where
  abbrev compares : Moved → Result Moved Refusal
  compares m2 = unless (first_other 1 m.shapes m2.shapes) (λ k. refused e.place (codes "return") (reps_of (looked_up x.spots e.results)) (w.Result k)) (Ok m2)

  pub turn_refused : (r : Refusal) → ended book n no_list x e ≡ Err r → on_ok (turned book m x e) (λ m2. next) ≡ Err r
  unfolding on_ok
  turn_refused r h = ap (λ k. on_ok (on_ok (ended book k no_list x e) compares) (λ m2. next)) count ∙ ap (λ z. on_ok (on_ok z compares) (λ m2. next)) h

  last : (o : Option ℕ) (m2 : Moved) (t : ℕ → Refusal) → on_ok (unless o t (Ok m2)) (λ m3. next) ≡ unless o t next
  unfolding on_ok unless
  last None m2 t = refl
  last (Some k) m2 t = refl

  pub turn_ends : (ss ts : List Spot) (m2 : Moved) → ended book n no_list x e ≡ Ok m2 → m.shapes ≡ shapes_of ss → m2.shapes ≡ shapes_of ts → ts ≡ looked_up x.spots e.results
      → on_ok (turned book m x e) (λ m2. next) ≡ unless (first_other 1 (shapes_of ss) (shapes_of ts)) (λ k. refused e.place (codes "return") (reps_of ts) (w.Result k)) next
  unfolding on_ok
  turn_ends ss ts m2 h s t l =
      ap (λ k. on_ok (on_ok (ended book k no_list x e) compares) (λ m2. next)) count ∙ ap (λ z. on_ok (on_ok z compares) (λ m2. next)) h
      ∙ last (first_other 1 m.shapes m2.shapes) m2 (λ k. refused e.place (codes "return") (reps_of (looked_up x.spots e.results)) (w.Result k))
      ∙ ap (λ z. unless (first_other 1 z m2.shapes) (λ k. refused e.place (codes "return") (reps_of (looked_up x.spots e.results)) (w.Result k)) next) s
      ∙ ap (λ z. unless (first_other 1 (shapes_of ss) z) (λ k. refused e.place (codes "return") (reps_of (looked_up x.spots e.results)) (w.Result k)) next) t
      ∙ ap (λ z. unless (first_other 1 (shapes_of ss) (shapes_of ts)) (λ k. refused e.place (codes "return") (reps_of z) (w.Result k)) next) (sym l)

-- what the results of a block of the code have for entries
pub block_results : (l : FlatBlock) (us : List Arg) (ss xs : List Spot) → us ≡ l.results → ss ≡ looked_up xs us → ss ≡ looked_up xs (flats_of l).ending.results
block_results l us ss xs u s =
    let g : Ending → List Spot = λ e. looked_up xs e.results in
    s ∙ ap (looked_up xs) u ∙ ap g (sym (ending_is l))

-- what is left of values that move out
pub taken_spots : (o : Option Fault) (vs : List ℕ) (x y : Held) → y ≡ after_taken o vs x → o ≡ None → y.spots ≡ all_go vs x.spots
taken_spots o vs x y e h =
    let g : Held → List Spot = λ z. z.spots in
    ap g (e ∙ ap (λ z. after_taken z vs x) h)

-- ---- the same of a block of the code

pub if_ok_then : {A E : Type 0} (r : Result A E) (P Q : A → Type 0) → ((x : A) → P x → Q x) → IfOk r P → IfOk r Q
if_ok_then (Ok x) P Q g h = g x h
if_ok_then (Err e) P Q g h = h

if_ok_at : {A E : Type 0} (r : Result A E) (P : A → Type 0) (x : A) → r ≡ Ok x → IfOk r P → P x
if_ok_at r P x e h = subst (λ z. IfOk z P) e h

pub turn_compares : (book : Book) (m : Moved) (x : Ctx) (l : FlatBlock) (next : Result Ctx Refusal) (n : ℕ) (xs ys ss : List Spot) (es ds : List Entry) (r : Result (List Entry) Refusal) (o : Option Refusal)
    → length m.spots ≡ n → m.shapes ≡ shapes_of ss → x.spots ≡ xs
    → ended book n no_list x (flats_of l).ending ≡ moved_as r ys → r ≡ Ok es → IfOk r (λ results. spots_of results ≡ looked_up xs (flats_of l).ending.results) → ds ≡ es
    → unless (first_other 1 (shapes_of ss) (shapes_of (spots_of ds))) (λ k. refused l.place (codes "return") (reps_of (spots_of ds)) (w.Result k)) next ≡ or_refused o next
    → on_ok (turned book m x (flats_of l).ending) (λ m2. next) ≡ or_refused o next
turn_compares book m x l next n xs ys ss es ds r o count shapes at end ok seen d cmp =
    let e = (flats_of l).ending in
    let l1 : spots_of es ≡ looked_up xs e.results = if_ok_at r (λ results. spots_of results ≡ looked_up xs e.results) es ok seen in
    let m2 : Moved = record { shapes = shapes_of (spots_of es); spots = ys } in
    let l2 : spots_of ds ≡ looked_up x.spots e.results = ap spots_of d ∙ l1 ∙ ap (λ z. looked_up z e.results) (sym at) in
    let l3 : m2.shapes ≡ shapes_of (spots_of ds) = ap (λ z. shapes_of (spots_of z)) (sym d) in
    turn_ends book m x e next n count ss (spots_of ds) m2 (end ∙ ap (λ z. moved_as z ys) ok) shapes l3 l2
    ∙ ap (λ z. unless (first_other 1 (shapes_of ss) (shapes_of (spots_of ds))) (λ k. refused z.place (codes "return") (reps_of (spots_of ds)) (w.Result k)) next) (ending_is l)
    ∙ cmp
