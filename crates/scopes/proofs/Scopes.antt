-- The names in scope as they are kept: a map of what each name stands for, and a log to undo bindings.
use Rattle.std.proofs.Common.{suc, Result, Ok, Err, ◌≡◌, ℕ, ◌<◌, ◌+◌, ◌-◌, cond, List, [], ◌∷◌, ◌++◌, length, drop, Bool, true, false, Option, Some, None, Bor, refl, sym, ap, ◌∙◌, arith, subst}
use Rattle.std.proofs.lemmas.Bool.{true≢false}
use Rattle.std.specs.Result.{is_ok, is_err, OnOk, OnErr}
use Rattle.std.proofs.lemmas.Slice.Eq.{bytes_eq-Decides}
use Rattle.indexmap.specs.IndexMap.{IndexMap, get, Updates}
use Rattle.scopes.specs.Logs.{at_last, onto, names_of, IsUndoable, IsSound}
use Rattle.scopes.specs.Names.{same_name, found_in, all_but_last}
use Rattle.scopes.specs.declared.scope.Binding.{Binding}

pub onto_push : {V : Type 0} (bs : List (Binding V)) (b : Binding V) (s : List (List ℕ × V)) → onto (bs ++ b ∷ []) s ≡ (b.name.now, b.value) ∷ onto bs s
onto_push [] b s = refl
onto_push (x ∷ bs) b s = onto_push bs b ((x.name.now, x.value) ∷ s)

pub length_onto : {V : Type 0} (bs : List (Binding V)) (s : List (List ℕ × V)) → length (onto bs s) ≡ length bs + length s
length_onto [] s = omega arith
length_onto (b ∷ bs) s = let h = length_onto bs ((b.name.now, b.value) ∷ s) in omega arith

undoable_push : {V : Type 0} (bs : List (Binding V)) (b : Binding V) (s : List (List ℕ × V)) → IsUndoable bs s → b.before ≡ found_in (onto bs s) b.name.now → IsUndoable (bs ++ b ∷ []) s
undoable_push [] b s u h = (h, tt)
undoable_push (x ∷ bs) b s u h = (u.0, undoable_push bs b ((x.name.now, x.value) ∷ s) u.1 h)

undoable_front : {V : Type 0} (bs : List (Binding V)) (b : Binding V) (s : List (List ℕ × V)) → IsUndoable (bs ++ b ∷ []) s → IsUndoable bs s
undoable_front [] b s u = tt
undoable_front (x ∷ bs) b s u = (u.0, undoable_front bs b ((x.name.now, x.value) ∷ s) u.1)

undoable_last : {V : Type 0} (bs : List (Binding V)) (b : Binding V) (s : List (List ℕ × V)) → IsUndoable (bs ++ b ∷ []) s → b.before ≡ found_in (onto bs s) b.name.now
undoable_last [] b s u = u.0
undoable_last (x ∷ bs) b s u = undoable_last bs b ((x.name.now, x.value) ∷ s) u.1

abbrev same : Bor (List ℕ) → Bor (List ℕ) → Bool
same x y = same_name x.now y.now

taken : {V : Type 0} (t : Bool) (w : Option V) (o : Option (Option V)) (f : Option V) → at_last o ≡ f → at_last (cond t (Some w) o) ≡ cond t w f
taken true w o f h = refl
taken false w o f h = h

-- one more binding
pub sound_push : {V S : Type 0} (bs : List (Binding V)) (b : Binding V) (m n : IndexMap (Bor (List ℕ)) (Option V) S) → IsSound bs m → Updates same m n b.name (Some (Some b.value)) → b.before ≡ found_in (names_of bs) b.name.now → IsSound (bs ++ b ∷ []) n
sound_push bs b m n h u e = (
  λ q. ap at_last (u.0 q) ∙ taken (same b.name q) (Some b.value) (get same m q) (found_in (names_of bs) q.now) (h.0 q) ∙ sym (ap (λ s. found_in s q.now) (onto_push bs b [])),
  undoable_push bs b [] h.1 e,
)

same_found : {V : Type 0} (s : List (List ℕ × V)) (x q : List ℕ) → same_name x q ≡ true → found_in s x ≡ found_in s q
same_found s x q h = ap (found_in s) ((bytes_eq-Decides x q).0 h)

undone : {V : Type 0} (t : Bool) (w : Option V) (u : V) (s : List (List ℕ × V)) (x q : List ℕ) → same_name x q ≡ t → w ≡ found_in s x → cond t w (cond (same_name x q) (Some u) (found_in s q)) ≡ found_in s q
undone true w u s x q h e = e ∙ same_found s x q h
undone false w u s x q h e = ap (λ b. cond b (Some u) (found_in s q)) h

-- the last binding is undone
pub sound_front : {V S : Type 0} (bs : List (Binding V)) (b : Binding V) (m n : IndexMap (Bor (List ℕ)) (Option V) S) → IsSound (bs ++ b ∷ []) m → Updates same m n b.name (Some b.before) → IsSound bs n
sound_front bs b m n h u =
    let before = undoable_last bs b [] h.1 in (
      λ q. ap at_last (u.0 q) ∙ taken (same b.name q) b.before (get same m q) (found_in ((b.name.now, b.value) ∷ names_of bs) q.now) (h.0 q ∙ ap (λ s. found_in s q.now) (onto_push bs b []))
          ∙ undone (same b.name q) b.before b.value (names_of bs) b.name.now q.now refl before,
      undoable_front bs b [] h.1,
    )

-- a binding in the log has its name in the map
pub known_key : {V S : Type 0} (bs : List (Binding V)) (b : Binding V) (m : IndexMap (Bor (List ℕ)) (Option V) S) → IsSound (bs ++ b ∷ []) m → get same m b.name ≡ None → ⊥
known_key bs b m h none =
    let e = sym (h.0 b.name) ∙ ap at_last none in
    let f = sym (ap (λ s. found_in s b.name.now) (onto_push bs b [])) ∙ e in
    let r = (bytes_eq-Decides b.name.now b.name.now).1 refl in
    let k = sym (ap (λ t. cond t (Some b.value) (found_in (names_of bs) b.name.now)) r) ∙ f in
    cc

-- ---- the steps of the code

pub pushed : {T E A : Type 0} (r : Result T E) (x : T) (z a b : List A) → r ≡ Ok x → z ≡ cond (is_ok r) a b → z ≡ a
pushed r x z a b h e = e ∙ ap (λ s. cond (is_ok s) a b) h

pub on_ok : {A E : Type 0} (r : Result A E) (P : Type 0) (b : Bool) → b ≡ is_err r → b ≡ false → OnOk r P → P
on_ok (Ok x) P b e h p = p
on_ok (Err x) P b e h p = absurd (true≢false (sym e ∙ h))

pub on_err : {A E : Type 0} (r : Result A E) (P : Type 0) (b : Bool) → b ≡ is_err r → b ≡ true → OnErr r P → P
on_err (Ok x) P b e h p = absurd (true≢false (sym h ∙ e))
on_err (Err x) P b e h p = p

pub bind_sound : {V S : Type 0} (bs cs ds : List (Binding V)) (b : Binding V) (m n : IndexMap (Bor (List ℕ)) (Option V) S) (s : List (List ℕ × V)) → IsSound bs m → names_of bs ≡ s → cs ≡ bs → ds ≡ cs ++ b ∷ [] → Updates same m n b.name (Some (Some b.value)) → b.before ≡ found_in s b.name.now → IsSound ds n
bind_sound bs cs ds b m n s h v e f u k =
    subst (λ z. IsSound z n) (sym (f ∙ ap (λ z. z ++ b ∷ []) e)) (sound_push bs b m n h u (k ∙ ap (λ z. found_in z b.name.now) (sym v)))

pub bind_names : {V : Type 0} (bs cs ds : List (Binding V)) (b : Binding V) (s : List (List ℕ × V)) → names_of bs ≡ s → cs ≡ bs → ds ≡ cs ++ b ∷ [] → names_of ds ≡ (b.name.now, b.value) ∷ s
bind_names bs cs ds b s v e f = ap names_of (f ∙ ap (λ z. z ++ b ∷ []) e) ∙ onto_push bs b [] ∙ ap (λ z. (b.name.now, b.value) ∷ z) v

pub forget_sound : {V S : Type 0} (bs cs : List (Binding V)) (b : Binding V) (m n : IndexMap (Bor (List ℕ)) (Option V) S) → IsSound bs m → bs ≡ cs ++ b ∷ [] → Updates same m n b.name (Some b.before) → IsSound cs n
forget_sound bs cs b m n h e u = sound_front cs b m n (subst (λ z. IsSound z m) e h) u

pub forget_known : {V S : Type 0} (bs cs : List (Binding V)) (b : Binding V) (m : IndexMap (Bor (List ℕ)) (Option V) S) → IsSound bs m → bs ≡ cs ++ b ∷ [] → get same m b.name ≡ None → ⊥
forget_known bs cs b m h e k = known_key cs b m (subst (λ z. IsSound z m) e h) k

pub forget_names : {V : Type 0} (bs cs : List (Binding V)) (b : Binding V) (s : List (List ℕ × V)) → names_of bs ≡ s → bs ≡ cs ++ b ∷ [] → names_of cs ≡ all_but_last s
forget_names bs cs b s v e = ap all_but_last (sym (onto_push cs b []) ∙ ap names_of (sym e) ∙ v)

pub leave_step : {V : Type 0} (s t : List (List ℕ × V)) (m : ℕ) → m < length s → t ≡ all_but_last s → drop (length s - m) s ≡ drop (length t - m) t
leave_step [] t m lt e = absurd (omega arith)
leave_step (x ∷ s) t m lt e =
    let k : length (x ∷ s) - m ≡ suc (length s - m) = omega arith in
    ap (λ i. drop i (x ∷ s)) k ∙ ap (λ z. drop (length z - m) z) (sym e)
