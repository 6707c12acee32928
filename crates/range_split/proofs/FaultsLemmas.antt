-- Refusals of `par` and of `split` before their blocks.
use Rattle.std.proofs.Common.{◌≡◌, ℕ, cond, List, [], ◌∷◌, ◌++◌, Bool, true, false, ◌&&◌, ◌||◌, nat_eq, Option, Some, None, Ok, refl, sym, ap, ◌∙◌, codes}
use Rattle.std.proofs.lemmas.Bool.{eqb-true, true≢false, false≢true}
use Rattle.nres_core.specs.declared.refusal.Refusal.{Refusal}
use Rattle.nres_core.specs.declared.refusal.Why.{Why}
use Rattle.nres_core.specs.declared.refusal.Why.TheVariants as w
use Rattle.ownership.specs.Faults.{or_next, unless_refused}
use Rattle.ownership.specs.declared.entry.Fault.TheVariants as f
use Rattle.rule_check.specs.Context.{Spot, Gone, is_container, is_owned, is_gone, is_among, goes, all_go, or_else, first_gone, first_kept, first_missed, spot_at}
use Rattle.rule_check.specs.Steps.{is_list, refused, name_at, unless, when}
use Rattle.rule_check.specs.Use.{without}
use Rattle.range_split.specs.Faults.{if_list, list_fault, or_then, ParRefused, SplitRefused}

tested : {A : Type 0} (names : List (List ℕ)) (refuse : Why → Refusal) (o : Option ℕ) (x : A) → unless o (λ v. refuse (w.Gone (name_at names v))) (Ok x) ≡ unless_refused names refuse (or_next f.Gone o None) (Ok x)
unfolding unless
tested names refuse (Some v) x = refl
tested names refuse None x = refl

pub par_refused : ParRefused
par_refused book ss us vs refuse = tested book.names refuse (first_missed (us ++ vs) ss) ss

-- a variable that is not among those that are looked for may go
goes_none : (v : ℕ) (us : List ℕ) (s : Spot) (o : Option ℕ) → is_among v us ≡ false
    → or_else o (cond (is_container (goes (v ∷ []) s).rep && (is_gone (goes (v ∷ []) s).hold && is_among (goes (v ∷ []) s).var us)) (Some (goes (v ∷ []) s).var) None)
    ≡ or_else o (cond (is_container s.rep && (is_gone s.hold && is_among s.var us)) (Some s.var) None)
goes_none v us s o h = pick (is_owned s.hold && (is_container s.rep && (nat_eq s.var v || false))) (nat_eq s.var v) refl refl
  where
    never : (x y : Bool) → (x && (y && false)) ≡ false
    never true true = refl
    never true false = refl
    never false y = refl

    pick : (b c : Bool) → (is_owned s.hold && (is_container s.rep && (nat_eq s.var v || false))) ≡ b → nat_eq s.var v ≡ c
        → or_else o (cond (is_container (cond b (record s { hold = Gone }) s).rep && (is_gone (cond b (record s { hold = Gone }) s).hold && is_among (cond b (record s { hold = Gone }) s).var us)) (Some (cond b (record s { hold = Gone }) s).var) None)
        ≡ or_else o (cond (is_container s.rep && (is_gone s.hold && is_among s.var us)) (Some s.var) None)
    pick false c e g = refl
    pick true true e g =
        let out : is_among s.var us ≡ false = ap (λ k. is_among k us) (eqb-true s.var v g) ∙ h in
        (λ i. or_else o (cond (is_container s.rep && (true && out i)) (Some s.var) None)) ∙ (λ i. or_else o (cond (is_container s.rep && never_two (is_gone s.hold) i) (Some s.var) None)) ∙ sym (λ i. or_else o (cond (is_container s.rep && (is_gone s.hold && out i)) (Some s.var) None))
      where
        never_two : (x : Bool) → false ≡ (x && false)
        never_two true = refl
        never_two false = refl
    pick true false e g = absurd (false≢true (sym (ap (λ k. is_owned s.hold && (is_container s.rep && (k || false))) g ∙ never (is_owned s.hold) (is_container s.rep)) ∙ e))

missed_go : (v : ℕ) (us : List ℕ) (ss : List Spot) → is_among v us ≡ false → first_missed us (all_go (v ∷ []) ss) ≡ first_missed us ss
missed_go v us [] h = refl
missed_go v us (s ∷ ss) h = goes_none v us s (first_missed us (all_go (v ∷ []) ss)) h ∙ ap (λ o. or_else o (cond (is_container s.rep && (is_gone s.hold && is_among s.var us)) (Some s.var) None)) (missed_go v us ss h)

among_both : (v : ℕ) (us vs : List ℕ) → is_among v us ≡ false → is_among v vs ≡ false → is_among v (us ++ vs) ≡ false
among_both v [] vs h g = g
among_both v (u ∷ us) vs h g = pick (nat_eq v u) h (among_both v us vs)
  where
    pick : (b : Bool) → (b || is_among v us) ≡ false → (is_among v us ≡ false → is_among v vs ≡ false → is_among v (us ++ vs) ≡ false) → (b || is_among v (us ++ vs)) ≡ false
    pick true e k = absurd (true≢false e)
    pick false e k = k e g

steps : {A : Type 0} (names : List (List ℕ)) (refuse : Why → Refusal) (a b c : Option ℕ) (t : Bool) (x : A)
    → unless a (λ v. refuse (w.Gone (name_at names v))) (when t (refuse w.Missing) (unless b (λ v. refuse (w.Held (name_at names v))) (unless c (λ v. refuse (w.Gone (name_at names v))) (Ok x))))
    ≡ unless_refused names refuse (or_then (or_next f.Gone a (if_list t (or_next f.Held b None))) (or_next f.Gone c None)) (Ok x)
unfolding unless when
steps names refuse (Some v) b c t x = refl
steps names refuse None b c false x = refl
steps names refuse None (Some v) c true x = refl
steps names refuse None None (Some v) true x = refl
steps names refuse None None None true x = refl

pub split_refused : SplitRefused
split_refused book ss p list us vs h g =
    let s = spot_at ss list in
    let refuse = refused p (codes "split") (s.rep ∷ []) in
    let all = all_go (list ∷ []) ss in
    steps book.names refuse (first_gone (s ∷ [])) (first_kept (s ∷ [])) (first_missed (us ++ vs) all) (is_list s.rep) all
    ∙ ap (λ o. unless_refused book.names refuse (or_then (list_fault s) (or_next f.Gone o None)) (Ok all)) (missed_go list (us ++ vs) ss (among_both list us vs h g))

-- what is left of a list without a variable
pub apart : (v : ℕ) (us : List ℕ) → is_among v (without v us) ≡ false
apart v [] = refl
apart v (u ∷ us) = pick (nat_eq v u) refl (apart v us)
  where
    pick : (b : Bool) → nat_eq v u ≡ b → is_among v (without v us) ≡ false → is_among v (cond b (without v us) (u ∷ without v us)) ≡ false
    pick true e k = k
    pick false e k = (λ i. e i || k i)
