-- What forks are refused for.
use Rattle.std.proofs.Common.{◌≡◌, ℕ, false, List, [], ◌∷◌, length, sym, ap, ◌∙◌, subst}
use Rattle.std.specs.Prelude.{Option, Some, None, Result, Ok, Err, IfOk, codes}
use Rattle.nres_core.specs.declared.place.Place.{Place}
use Rattle.nres_core.specs.declared.refusal.Refusal.{Refusal}
use Rattle.nres_core.specs.declared.refusal.Why.{Why}
use Rattle.ownership.specs.Entries.{spot_of, spots_of}
use Rattle.ownership.specs.Faults.{why_of, unless_refused}
use Rattle.ownership.specs.declared.entry.Entry.{Entry}
use Rattle.ownership.specs.declared.entry.Fault.{Fault}
use Rattle.range_split.specs.Faults.{par_fault, split_fault}
use Rattle.range_split.proofs.FaultsLemmas.{apart, par_refused, split_refused}
use Rattle.rule_check.specs.Context.{Spot, is_among, reps_of, all_go, spot_at}
use Rattle.range_split.specs.Places.{Places}
use Rattle.rule_check.specs.Steps.{Book, branch_spots, par_sure, refused, split_sure}
use Rattle.rule_check.specs.Use.{without}
use Rattle.rule_forks.specs.Forks.{Part, Begins, Forks, part_spots, with_slice}
use Rattle.rule_forks.specs.declared.fork.Branch.{Branch}
use Rattle.rule_forks.specs.declared.fork.Fork.{Fork}

-- the refusal with the names of the code
given : {A : Type 0} (names ns : List (List ℕ)) (refuse : Why → Refusal) (k : Result A Refusal) (fault : Fault) (o : Option Fault) (r : Refusal) → names ≡ ns → o ≡ Some fault → r ≡ refuse (why_of ns fault)
    → unless_refused names refuse o k ≡ Err r
given {A} names ns refuse k fault o r n some s =
    let g : Refusal → Result A Refusal = λ z. Err z in
    ap (λ z. unless_refused names refuse z k) some ∙ ap g (ap (λ z. refuse (why_of z fault)) n ∙ sym s)

module _ (book : Book) (p : Place) (ss : List Spot) (us vs ls bs : List ℕ) (o : Option Fault) (l : ls ≡ us) (r : bs ≡ vs) (e : o ≡ par_fault ss ls bs) where
  par_is : par_sure book ss us vs (refused p (codes "par") []) ≡ unless_refused book.names (refused p (codes "par") []) o (Ok ss)
  par_is = par_refused book ss us vs (refused p (codes "par") []) ∙ ap (λ z. unless_refused book.names (refused p (codes "par") []) z (Ok ss)) (sym (e ∙ (λ i. par_fault ss (l i) (r i))))

  pub par_passes : o ≡ None → par_sure book ss us vs (refused p (codes "par") []) ≡ Ok ss
  par_passes none = par_is ∙ ap (λ z. unless_refused book.names (refused p (codes "par") []) z (Ok ss)) none

  pub par_refuses : (names : List (List ℕ)) (fault : Fault) (q : Refusal) → book.names ≡ names → o ≡ Some fault → q ≡ refused p (codes "par") [] (why_of names fault) → par_sure book ss us vs (refused p (codes "par") []) ≡ Err q
  par_refuses names fault q n some s = par_is ∙ given book.names names (refused p (codes "par") []) (Ok ss) fault o q n some s

module _ (book : Book) (p : Place) (ss : List Spot) (list : ℕ) (us vs ls bs : List ℕ) (x : Entry) (o : Option Fault) (there : spot_of x ≡ spot_at ss list) (al : is_among list us ≡ false) (ar : is_among list vs ≡ false)
    (l : ls ≡ us) (r : bs ≡ vs) (e : o ≡ split_fault ss list ls bs) where
  split_is : split_sure book ss p list us vs ≡ unless_refused book.names (refused p (codes "split") (reps_of (spots_of (x ∷ [])))) o (Ok (all_go (list ∷ []) ss))
  split_is =
      split_refused book ss p list us vs al ar
      ∙ (λ i. unless_refused book.names (refused p (codes "split") ((sym there i).rep ∷ [])) (sym (e ∙ (λ j. split_fault ss list (l j) (r j))) i) (Ok (all_go (list ∷ []) ss)))

  pub split_passes : (xs : List Spot) → o ≡ None → xs ≡ all_go (list ∷ []) ss → split_sure book ss p list us vs ≡ Ok xs
  split_passes xs none gone =
      let g : List Spot → Result (List Spot) Refusal = λ z. Ok z in
      split_is ∙ ap (λ z. unless_refused book.names (refused p (codes "split") (reps_of (spots_of (x ∷ [])))) z (Ok (all_go (list ∷ []) ss))) none ∙ ap g (sym gone)

  pub split_refuses : (names : List (List ℕ)) (fault : Fault) (q : Refusal) → book.names ≡ names → o ≡ Some fault → q ≡ refused p (codes "split") (reps_of (spots_of (x ∷ []))) (why_of names fault) → split_sure book ss p list us vs ≡ Err q
  split_refuses names fault q n some s = split_is ∙ given book.names names (refused p (codes "split") (reps_of (spots_of (x ∷ [])))) (Ok (all_go (list ∷ []) ss)) fault o q n some s

pub beside_apart : (list : ℕ) (us ws : List ℕ) → us ≡ without list ws → is_among list us ≡ false
beside_apart list us ws e = ap (is_among list) e ∙ apart list ws

-- ---- what branches begin with

pub if_ok_then : {A E : Type 0} (r : Result A E) (P Q : A → Type 0) → ((x : A) → P x → Q x) → IfOk r P → IfOk r Q
if_ok_then (Ok x) P Q g h = g x h
if_ok_then (Err e) P Q g h = h

pub forks_at : (ss : List Spot) (ql qr pl pr : Part) (f : Fork) → ql ≡ pl → qr ≡ pr → Forks ss ql qr f → Forks ss pl pr f
forks_at ss ql qr pl pr f l r h = subst (λ z. Forks ss pl z f) r (subst (λ z. Forks ss z qr f) l h)

pub part_at : (us vs ls bs : List ℕ) (o : Option ℕ) → us ≡ ls → vs ≡ bs → (let q : Part = record { us = us; others = vs; slice = o } in let r : Part = record { us = ls; others = bs; slice = o } in q ≡ r)
part_at us vs ls bs o e g = λ i. record { us = e i; others = g i; slice = o }

pub part_begins : (ss bs : List Spot) (q : Part) (o : Option ℕ) → q.slice ≡ o → bs ≡ with_slice o (branch_spots ss q.us q.others) → bs ≡ part_spots ss q
part_begins ss bs q o e h = h ∙ sym (ap (λ z. with_slice z (branch_spots ss q.us q.others)) e)

pub begins : (ss : List Spot) (q : Part) (b : Branch) (ps : List ℕ) → b.places ≡ ps → b.count ≡ length b.context.spots → b.slice ≡ q.slice → Places q.us ps ss → (Places q.us ps ss → b.context.spots ≡ part_spots ss q) → Begins ss q b
begins ss q b ps e n s p h = record {
  has = record { places = subst (λ z. Places q.us z ss) (sym e) p; count = n ∙ ap length (h p); slice = s };
  spots = h p;
}
