-- The facts as they are kept: a map of the least bounds, and a log to undo them.
use Rattle.std.proofs.Common.{suc, Result, Ok, Err, ◌≡◌, ℕ, ◌<◌, ◌+◌, ◌-◌, cond, List, [], ◌∷◌, ◌++◌, length, drop, Bool, true, false, ◌&&◌, ◌||◌, Option, Some, None, nat_eq, nat_le, refl, sym, ap, ◌∙◌, arith, subst}
use Rattle.std.proofs.lemmas.Bool.{true≢false, eqb-true}
use Rattle.std.proofs.lemmas.Bool.Decides.{nat_tests}
use Rattle.std.specs.Result.{is_ok, is_err, OnOk, OnErr}
use Rattle.indexmap.specs.IndexMap.{IndexMap, get, Updates}
use Rattle.rule_check.specs.Context.{Fact}
use Rattle.rule_check.specs.Facts.{below, var_below}
use Rattle.facts.specs.Kept.{lower, least, all_but_last}
use Rattle.facts.specs.Logs.{at_last, onto, facts_of, IsUndoable, IsSound}
use Rattle.facts.specs.declared.known.Learnt.{Learnt}

-- ---- the least bound

-- a bound is at least the least
abbrev pub at_most : Option ℕ → ℕ → Bool
at_most None n = false
at_most (Some m) n = nat_le m n

lower_at_most : (b : ℕ) (o : Option ℕ) (n : ℕ) → nat_le (lower b o) n ≡ (nat_le b n || at_most o n)
lower_at_most b None n = or_none (nat_le b n)
  where
    or_none : (x : Bool) → x ≡ (x || false)
    or_none true = refl
    or_none false = refl
lower_at_most b (Some m) n = grind (arith, nat_tests)

pub below_least : (es : List Fact) (v n : ℕ) → var_below es v n ≡ at_most (least es v) n
below_least [] v n = refl
below_least (e ∷ es) v n = pick (nat_eq e.var v) (below_least es v n)
  where
    pick : (t : Bool) → var_below es v n ≡ at_most (least es v) n → ((t && nat_le e.bound n) || var_below es v n) ≡ at_most (cond t (Some (lower e.bound (least es v))) (least es v)) n
    pick true h = ap (λ x. nat_le e.bound n || x) h ∙ sym (lower_at_most e.bound (least es v) n)
    pick false h = h

-- ---- the log

pub onto_push : (bs : List Learnt) (b : Learnt) (es : List Fact) → onto (bs ++ b ∷ []) es ≡ below b.fact.var b.fact.bound ∷ onto bs es
onto_push [] b es = refl
onto_push (x ∷ bs) b es = onto_push bs b (below x.fact.var x.fact.bound ∷ es)

pub length_onto : (bs : List Learnt) (es : List Fact) → length (onto bs es) ≡ length bs + length es
length_onto [] es = omega arith
length_onto (b ∷ bs) es = let h = length_onto bs (below b.fact.var b.fact.bound ∷ es) in omega arith

undoable_push : (bs : List Learnt) (b : Learnt) (es : List Fact) → IsUndoable bs es → b.before ≡ least (onto bs es) b.fact.var → IsUndoable (bs ++ b ∷ []) es
undoable_push [] b es u h = (h, tt)
undoable_push (x ∷ bs) b es u h = (u.0, undoable_push bs b (below x.fact.var x.fact.bound ∷ es) u.1 h)

undoable_front : (bs : List Learnt) (b : Learnt) (es : List Fact) → IsUndoable (bs ++ b ∷ []) es → IsUndoable bs es
undoable_front [] b es u = tt
undoable_front (x ∷ bs) b es u = (u.0, undoable_front bs b (below x.fact.var x.fact.bound ∷ es) u.1)

undoable_last : (bs : List Learnt) (b : Learnt) (es : List Fact) → IsUndoable (bs ++ b ∷ []) es → b.before ≡ least (onto bs es) b.fact.var
undoable_last [] b es u = u.0
undoable_last (x ∷ bs) b es u = undoable_last bs b (below x.fact.var x.fact.bound ∷ es) u.1

taken : (t : Bool) (w : Option ℕ) (o : Option (Option ℕ)) (f : Option ℕ) → at_last o ≡ f → at_last (cond t (Some w) o) ≡ cond t w f
taken true w o f h = refl
taken false w o f h = h

-- one more fact
pub sound_push : {S : Type 0} (bs : List Learnt) (b : Learnt) (m n : IndexMap ℕ (Option ℕ) S) → IsSound bs m → Updates nat_eq m n b.fact.var (Some (Some (lower b.fact.bound b.before))) → b.before ≡ least (facts_of bs) b.fact.var → IsSound (bs ++ b ∷ []) n
sound_push bs b m n h u e = (
  λ q. ap at_last (u.0 q) ∙ taken (nat_eq b.fact.var q) (Some (lower b.fact.bound b.before)) (get nat_eq m q) (least (facts_of bs) q) (h.0 q)
      ∙ bounded (nat_eq b.fact.var q) q refl ∙ sym (ap (λ s. least s q) (onto_push bs b [])),
  undoable_push bs b [] h.1 e,
)
  where
    bounded : (t : Bool) (q : ℕ) → nat_eq b.fact.var q ≡ t → cond t (Some (lower b.fact.bound b.before)) (least (facts_of bs) q) ≡ cond t (Some (lower b.fact.bound (least (facts_of bs) q))) (least (facts_of bs) q)
    bounded true q f = ap (λ o. Some (lower b.fact.bound o)) (e ∙ ap (least (facts_of bs)) (eqb-true b.fact.var q f))
    bounded false q f = refl

undone : (t : Bool) (w : Option ℕ) (u : Option ℕ) (es : List Fact) (x q : ℕ) → nat_eq x q ≡ t → w ≡ least es x → cond t w (cond (nat_eq x q) u (least es q)) ≡ least es q
undone true w u es x q h e = e ∙ ap (least es) (eqb-true x q h)
undone false w u es x q h e = ap (λ b. cond b u (least es q)) h

-- the last fact is undone
pub sound_front : {S : Type 0} (bs : List Learnt) (b : Learnt) (m n : IndexMap ℕ (Option ℕ) S) → IsSound (bs ++ b ∷ []) m → Updates nat_eq m n b.fact.var (Some b.before) → IsSound bs n
sound_front bs b m n h u =
    let before = undoable_last bs b [] h.1 in (
      λ q. ap at_last (u.0 q) ∙ taken (nat_eq b.fact.var q) b.before (get nat_eq m q) (least (below b.fact.var b.fact.bound ∷ facts_of bs) q) (h.0 q ∙ ap (λ s. least s q) (onto_push bs b []))
          ∙ undone (nat_eq b.fact.var q) b.before (Some (lower b.fact.bound (least (facts_of bs) q))) (facts_of bs) b.fact.var q refl before,
      undoable_front bs b [] h.1,
    )

same_number : (n : ℕ) → nat_eq n n ≡ true
same_number n = grind (arith, nat_tests)

-- a fact in the log has its variable in the map
pub known_key : {S : Type 0} (bs : List Learnt) (b : Learnt) (m : IndexMap ℕ (Option ℕ) S) → IsSound (bs ++ b ∷ []) m → get nat_eq m b.fact.var ≡ None → ⊥
known_key bs b m h none =
    let e = sym (h.0 b.fact.var) ∙ ap at_last none in
    let f = sym (ap (λ s. least s b.fact.var) (onto_push bs b [])) ∙ e in
    let k = sym (ap (λ t. cond t (Some (lower b.fact.bound (least (facts_of bs) b.fact.var))) (least (facts_of bs) b.fact.var)) (same_number b.fact.var)) ∙ f in
    cc

-- ---- the steps of the code

pub pushed : {T E A : Type 0} (r : Result T E) (x : T) (z a b : List A) → r ≡ Ok x → z ≡ cond (is_ok r) a b → z ≡ a
pushed r x z a b h e = e ∙ ap (λ s. cond (is_ok s) a b) h

pub on_ok : {A E : Type 0} (r : Result A E) (P : Type 0) (b : Bool) → b ≡ is_err r → b ≡ false → OnOk r P → P
on_ok (Ok x) P b e h p = p
on_ok (Err x) P b e h p = absurd (true≢false (sym e ∙ h))

pub on_err : {A E : Type 0} (r : Result A E) (P : Type 0) (b : Bool) → b ≡ is_err r → b ≡ true → OnErr r P → P
on_err (Ok x) P b e h p = absurd (true≢false (sym h ∙ e))
on_err (Err x) P b e h p = p

pub know_sound : {S : Type 0} (bs cs ds : List Learnt) (b : Learnt) (m n : IndexMap ℕ (Option ℕ) S) (es : List Fact) (k : ℕ) → IsSound bs m → facts_of bs ≡ es → cs ≡ bs → ds ≡ cs ++ b ∷ [] → Updates nat_eq m n b.fact.var (Some (Some k)) → k ≡ lower b.fact.bound b.before → b.before ≡ least es b.fact.var → IsSound ds n
know_sound bs cs ds b m n es k h v e f u i j =
    subst (λ z. IsSound z n) (sym (f ∙ ap (λ z. z ++ b ∷ []) e)) (sound_push bs b m n h (subst (λ x. Updates nat_eq m n b.fact.var (Some (Some x))) i u) (j ∙ ap (λ z. least z b.fact.var) (sym v)))

pub know_facts : (bs cs ds : List Learnt) (b : Learnt) (es : List Fact) → facts_of bs ≡ es → cs ≡ bs → ds ≡ cs ++ b ∷ [] → facts_of ds ≡ below b.fact.var b.fact.bound ∷ es
know_facts bs cs ds b es v e f = ap facts_of (f ∙ ap (λ z. z ++ b ∷ []) e) ∙ onto_push bs b [] ∙ ap (λ z. below b.fact.var b.fact.bound ∷ z) v

pub forget_sound : {S : Type 0} (bs cs : List Learnt) (b : Learnt) (m n : IndexMap ℕ (Option ℕ) S) → IsSound bs m → bs ≡ cs ++ b ∷ [] → Updates nat_eq m n b.fact.var (Some b.before) → IsSound cs n
forget_sound bs cs b m n h e u = sound_front cs b m n (subst (λ z. IsSound z m) e h) u

pub forget_known : {S : Type 0} (bs cs : List Learnt) (b : Learnt) (m : IndexMap ℕ (Option ℕ) S) → IsSound bs m → bs ≡ cs ++ b ∷ [] → get nat_eq m b.fact.var ≡ None → ⊥
forget_known bs cs b m h e k = known_key cs b m (subst (λ z. IsSound z m) e h) k

pub forget_facts : (bs cs : List Learnt) (b : Learnt) (es : List Fact) → facts_of bs ≡ es → bs ≡ cs ++ b ∷ [] → facts_of cs ≡ all_but_last es
forget_facts bs cs b es v e = ap all_but_last (sym (onto_push cs b []) ∙ ap facts_of (sym e) ∙ v)

pub leave_step : (s t : List Fact) (m : ℕ) → m < length s → t ≡ all_but_last s → drop (length s - m) s ≡ drop (length t - m) t
leave_step [] t m lt e = absurd (omega arith)
leave_step (x ∷ s) t m lt e =
    let k : length (x ∷ s) - m ≡ suc (length s - m) = omega arith in
    ap (λ i. drop i (x ∷ s)) k ∙ ap (λ z. drop (length z - m) z) (sym e)
