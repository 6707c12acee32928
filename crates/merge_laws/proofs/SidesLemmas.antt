-- Sides by the places that went in them.
use Rattle.std.proofs.Common.{◌≡◌, inl, inr, ℕ, Bool, true, false, cond, ◌&&◌, List, [], ◌∷◌, length, refl, sym, ap, ◌∙◌, subst}
use Rattle.std.proofs.lemmas.Bool.{true≢false}
use Rattle.std.specs.Prelude.{Result, Ok, codes}
use Rattle.nres_core.specs.FlatTree.{Binds, Ending}
use Rattle.nres_core.specs.declared.place.Place.{Place}
use Rattle.nres_core.specs.declared.refusal.Refusal.{Refusal}
use Rattle.nres_core.specs.declared.refusal.Why.TheVariants as w
use Rattle.context_laws.proofs.MeetingLemmas.{both_fall}
use Rattle.context_laws.specs.Stacks.{falls_at}
use Rattle.merge_laws.specs.Laws.{WentAt, Passed, met_at}
use Rattle.rule_check.proofs.Kept.{blocks_end}
use Rattle.rule_check.specs.Context.{Hold, Owned, Kept, Gone, Spot, Shape, Ctx, is_owned, is_container, is_gone, outer, falls, all_fall, first_unmet, first_other}
use Rattle.rule_check.specs.Laws.{Stays, AllStay, Ends}
use Rattle.rule_check.specs.Steps.{Book, Moved, name_at, refused, unless, begun, ended, no_list, met, taken}
use Rattle.rule_check.specs.Use.{block_used}

owned_stays : (h : Hold) (c : Bool) → (is_owned h && (c && is_gone h)) ≡ false
owned_stays Owned true = refl
owned_stays Owned false = refl
owned_stays Kept c = refl
owned_stays Gone c = refl

-- an entry that stays or went falls to what it is
stays_falls : (vs : List ℕ) (s t : Spot) → Stays vs s t → falls s t ≡ t
stays_falls vs s t p = elim p [
  | inl e ↦ subst (λ x. falls s x ≡ x) (sym e) (ap (λ b. cond b (record s { hold = Gone }) s) (owned_stays s.hold (is_container s.rep)))
  | inr g ↦ subst (λ x. falls s x ≡ x) (sym g.is) (ap (λ b. cond (b && (is_container s.rep && true)) (record s { hold = Gone }) s) g.owned ∙ ap (λ b. cond (b && true) (record s { hold = Gone }) s) g.container)
]

pub stay_falls : (vs : List ℕ) (ss ts : List Spot) → AllStay vs ss ts → all_fall ss ts ≡ ts
stay_falls vs [] [] p = refl
stay_falls vs [] (t ∷ ts) p = absurd p
stay_falls vs (s ∷ ss) [] p = absurd p
stay_falls vs (s ∷ ss) (t ∷ ts) p = ap (λ x. x ∷ all_fall ss ts) (stays_falls vs s t p.0) ∙ ap (λ z. t ∷ z) (stay_falls vs ss ts p.1)

pub leaves : (book : Book) (x : Ctx) (b : Binds) (e : Ending) (m : Moved) (is : List ℕ) → Passed book x b e m → WentAt is x m → outer (length x.spots) m.spots ≡ falls_at is x.spots
leaves book x b e m is p w =
    let ends : Ends (block_used b e) x.spots m = blocks_end book b e (length x.spots) no_list (begun x x.spots p.facts) p.after m p.binds p.ending in
    sym (w ∙ stay_falls (block_used b e) x.spots (outer (length x.spots) m.spots) ends.outer)

pub meets : (book : Book) (x : Ctx) (p : Place) (l r : Binds) (le re : Ending) (m1 m2 : Moved) (is js : List ℕ)
    → Passed book x l le m1 → Passed book x r re m2 → WentAt is x m1 → WentAt js x m2 → met book x p m1 m2 ≡ met_at book x p is js m1 m2
meets book x p l r le re m1 m2 is js q1 q2 w1 w2 =
    let n = length x.spots in
    let e1 = leaves book x l le m1 is q1 w1 in
    let e2 = leaves book x r re m2 js q2 w2 in
    let after : all_fall (all_fall x.spots (outer n m1.spots)) (outer n m2.spots) ≡ falls_at js (falls_at is x.spots) =
    ap (λ z. all_fall z (outer n m2.spots)) (sym w1) ∙ sym (both_fall is js x.spots (outer n m2.spots) w2) in
    ap (λ z. unless (first_unmet z (outer n m2.spots)) (λ v. refused p (codes "if") [] (w.Meet (name_at book.names v)))
    (unless (first_other 1 m1.shapes m2.shapes) (λ k. refused p (codes "if") [] (w.Result k))
    (Ok (record { shapes = m1.shapes; spots = all_fall (all_fall x.spots (outer n m1.spots)) (outer n m2.spots) })))) e1
    ∙ ap (λ z. unless (first_unmet (falls_at is x.spots) z) (λ v. refused p (codes "if") [] (w.Meet (name_at book.names v)))
    (unless (first_other 1 m1.shapes m2.shapes) (λ k. refused p (codes "if") [] (w.Result k))
    (Ok (record { shapes = m1.shapes; spots = all_fall (all_fall x.spots (outer n m1.spots)) (outer n m2.spots) })))) e2
    ∙ ap (λ z. unless (first_unmet (falls_at is x.spots) (falls_at js x.spots)) (λ v. refused p (codes "if") [] (w.Meet (name_at book.names v)))
    (unless (first_other 1 m1.shapes m2.shapes) (λ k. refused p (codes "if") [] (w.Result k))
    (pass m1.shapes z))) after
  where
    pass : List Shape → List Spot → Result Moved Refusal
    pass zs ss = Ok (record { shapes = zs; spots = ss })
