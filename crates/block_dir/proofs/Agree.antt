-- Two seats agree on what both hold, by the rule, and a join tells so.
use Rattle.std.proofs.Common.{◌≡◌, ◌≢◌, ℕ, zero, suc, ◌+◌, ◌<◌, ◌≤◌, Bool, List, [], ◌∷◌, set, refl, sym, ◌∙◌, subst, ⊎_elim, arith}
use Rattle.std.specs.Prelude.{true, false, nat_lt, ◌==◌}
use Rattle.std.proofs.lemmas.Bool.{eqb-true}
use Rattle.std.proofs.lemmas.Bool.Decides.{nat_tests}
use mathlib.Core.Option.{some}
use lib.ListN.{get_elem?}
use Rattle.atomic_table.specs.Table.{Joins}
use Rattle.atomic_table.proofs.Lists.{at_set}
use Rattle.block_dir.specs.declared.view.Cell.{Cell}
use Rattle.block_dir.specs.declared.view.View.{View}
use Rattle.block_dir.specs.Views.{place, cell_of, joined, met, clash_if, clash, clashes, unless_any, spent_view, Sound}
use Rattle.block_dir.specs.Rule.{Chain, Walk, Fits, Ruled}
use Rattle.block_dir.specs.Calls.{SameWord, Agree}
use Rattle.block_dir.proofs.Held.{one_block}
use Rattle.block_dir.proofs.Seats.{joins}

-- two cells agree where both have a share
abbrev pub CellsAgree : Cell → Cell → Type 0
CellsAgree x y = 0 < x.share → 0 < y.share → SameWord x y

clash_of : (a b c d : Bool) → clash_if a b c d ≡ 0 → a ≡ true → b ≡ true → (c ≡ true) × (d ≡ true)
clash_of true true true true e f g = (refl, refl)
clash_of true true true false e f g = absurd (omega (arith, e))
clash_of true true false d e f g = absurd (omega (arith, e))
clash_of true false c d e f g = cc g
clash_of false b c d e f g = cc f

no_clash : (a b c d : Bool) → (a ≡ true → b ≡ true → (c ≡ true) × (d ≡ true)) → clash_if a b c d ≡ 0
no_clash true true true true h = refl
no_clash true true true false h = let e = (h refl refl).1 in cc e
no_clash true true false d h = let e = (h refl refl).0 in cc e
no_clash true false c d h = refl
no_clash false b c d h = refl

clash_agrees : (x y : Cell) → clash x y ≡ 0 → CellsAgree x y
clash_agrees x y e f g =
    let h = clash_of (nat_lt 0 x.share) (nat_lt 0 y.share) (x.value == y.value) (x.home == y.home) e (grind (arith, nat_tests)) (grind (arith, nat_tests)) in
    (eqb-true x.value y.value h.0, eqb-true x.home y.home h.1)

agrees_clash : (x y : Cell) → CellsAgree x y → clash x y ≡ 0
agrees_clash x y h =
    no_clash (nat_lt 0 x.share) (nat_lt 0 y.share) (x.value == y.value) (x.home == y.home)
    (λ a b. let w = h (grind (arith, nat_tests)) (grind (arith, nat_tests)) in let e = w.0 in let f = w.1 in (grind (arith, nat_tests), grind (arith, nat_tests)))

pub clashes_agree : (xs ys : List Cell) → clashes xs ys ≡ 0 → (p : ℕ) → CellsAgree (place xs p) (place ys p)
clashes_agree [] ys e p f g = absurd (omega arith)
clashes_agree (x ∷ xs) [] e p f g = absurd (omega arith)
clashes_agree (x ∷ xs) (y ∷ ys) e zero f g = clash_agrees x y (omega arith) f g
clashes_agree (x ∷ xs) (y ∷ ys) e (suc p) f g = clashes_agree xs ys (omega arith) p f g

pub agree_clashes : (xs ys : List Cell) → ((p : ℕ) → CellsAgree (place xs p) (place ys p)) → clashes xs ys ≡ 0
agree_clashes [] ys h = refl
agree_clashes (x ∷ xs) [] h = refl
agree_clashes (x ∷ xs) (y ∷ ys) h =
    let a = agrees_clash x y (h 0) in let b = agree_clashes xs ys (λ p. h (suc p)) in omega arith

unless_none : (n : ℕ) (w : View) → n ≡ 0 → unless_any n w ≡ w
unless_none zero w e = refl
unless_none (suc n) w e = absurd (omega arith)

met_some : (n : ℕ) (w : View) → 1 ≤ (unless_any n w).position → n ≡ 0
met_some zero w h = refl
met_some (suc n) w h = absurd (omega arith)

pub met_agrees : (v u : View) → Sound (met v u) → Agree v u
unfolding met
met_agrees v u s p = clashes_agree v.cells u.cells (met_some (clashes v.cells u.cells) (joined v u) s.starts) p

pub met_is : (v u : View) → Agree v u → met v u ≡ joined v u
unfolding met
met_is v u h = unless_none (clashes v.cells u.cells) (joined v u) (agree_clashes v.cells u.cells h)

unless_weight : (n : ℕ) (w : View) → (unless_any n w).weight ≡ w.weight
unless_weight zero w = refl
unless_weight (suc n) w = refl

pub met_weight : (v u : View) → (met v u).weight ≡ v.weight + u.weight
unfolding met joined
met_weight v u = unless_weight (clashes v.cells u.cells) (joined v u)

-- two views that the rule allows agree
fits_agree : (cap : ℕ) (ws : List ℕ) (c : Chain) (e : ℕ) (v u : View) → Walk ws 1 c e → Fits cap ws c e v → Fits cap ws c e u → Agree v u
fits_agree cap ws c e v u walk f g p a b =
    let x = f.cells p a in let y = g.cells p b in (
      sym x.value ∙ y.value,
      one_block ws c e (cell_of p u).home y.lies.0 (cell_of p v).home x.lies.0 p walk y.lies.1 x.lies.1 y.lies.3 y.lies.4 x.lies.3 x.lies.4,
    )

pub meets : (cap id other : ℕ) (v u : View) → Joins (Ruled cap) id v other u (met v u) spent_view
meets cap id other v u s r at ne at' =
    let there : get_elem? s.views other ≡ some u = ⊎_elim (λ (t : (other ≡ id) × (met v u ≡ u)). absurd (ne t.0)) (λ (t : (other ≢ id) × (get_elem? s.views other ≡ some u)). t.1) (at_set s.views id other (met v u) u at') in
    let same : met v u ≡ joined v u = met_is v u (fits_agree cap s.words r.chain r.end v u r.walk (r.each id v at) (r.each other u there)) in
    subst (λ (w : View). Ruled cap record { words = s.words; homes = s.homes; views = set (set s.views id w) other spent_view }) (sym same)
    (joins cap id other v u s r at ne (subst (λ (w : View). get_elem? (set s.views id w) other ≡ some u) same at'))

-- what a join told
pub record Joined (w v u : View) : Type 0 where
  pub is : w ≡ joined v u
  pub agree : Agree v u

pub joined_by : (w v u : View) → w ≡ met v u → Sound w → Joined w v u
joined_by w v u e s = let a = met_agrees v u (subst Sound e s) in record { is = e ∙ met_is v u a; agree = a }
