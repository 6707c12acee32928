-- Names with their values, as an evaluation keeps them.
use Rattle.std.proofs.Common.{◌≡◌, ℕ, zero, suc, ◌+◌, ◌-◌, ◌<◌, ◌≤◌, Bool, true, false, cond, List, [], ◌∷◌, ◌++◌, length, take, drop, Option, Some, None, refl, ap, sym, subst, ◌∙◌, arith}
use Rattle.std.specs.List.{slice_get}
use Rattle.std.proofs.lemmas.List.{take-append-drop, length-take}
use Rattle.nres_core.specs.declared.value.Value.{Value}
use Rattle.nres_core.specs.declared.value.Value.TheVariants as v
use Rattle.nres_core.specs.Tree.{same_name}
use Rattle.nres_meaning.specs.Meaning.{Env, value_of}
use Rattle.scopes.specs.Names.{found_in}
use Rattle.nres_eval.specs.Environment.{seen, or_zero, IsNumbered}

abbrev Places : Type 0
Places = List (List ℕ × ℕ)

pub as_many : (es : Places) (vs : List Value) (n : ℕ) → IsNumbered es n → n ≡ length (seen es vs)
as_many [] vs n h = h
as_many (e ∷ es) vs n h = h.0 ∙ ap suc (as_many es vs e.1 h.1)

pub get_front : (vs ws : List Value) (i : ℕ) → i < length vs → slice_get (vs ++ ws) i ≡ slice_get vs i
get_front [] ws i h = absurd (omega (arith, h))
get_front (x ∷ vs) ws zero h = refl
get_front (x ∷ vs) ws (suc i) h = get_front vs ws i (omega (arith, h))

pub get_end : (vs : List Value) (x : Value) → slice_get (vs ++ x ∷ []) (length vs) ≡ Some x
get_end [] x = refl
get_end (y ∷ vs) x = get_end vs x

pub kept : (es : Places) (vs ws : List Value) (n : ℕ) → IsNumbered es n → n ≤ length vs → seen es (vs ++ ws) ≡ seen es vs
kept [] vs ws n h le = refl
kept (e ∷ es) vs ws n h le =
    let here : e.1 < length vs = omega (arith, h.0, le) in
    λ i. (e.0, or_zero (get_front vs ws e.1 here i)) ∷ kept es vs ws e.1 h.1 (omega (arith, here)) i

pub one_more : (es : Places) (vs : List Value) (x : List ℕ) (w : Value) → IsNumbered es (length vs) → seen ((x, length vs) ∷ es) (vs ++ w ∷ []) ≡ (x, w) ∷ seen es vs
one_more es vs x w h = λ i. (x, or_zero (get_end vs w i)) ∷ kept es vs (w ∷ []) (length vs) h (omega arith) i

-- what the place of a name leads to
abbrev pub at_place : List Value → Option ℕ → Value
at_place vs None = v.Nat 0
at_place vs (Some i) = or_zero (slice_get vs i)

pub found_value : (es : Places) (vs : List Value) (x : List ℕ) → value_of (seen es vs) x ≡ at_place vs (found_in es x)
found_value [] vs x = refl
found_value (e ∷ es) vs x =
    ap (λ w. cond (same_name e.0 x) (or_zero (slice_get vs e.1)) w) (found_value es vs x)
    ∙ elim (same_name e.0 x) as (λ b. cond b (or_zero (slice_get vs e.1)) (at_place vs (found_in es x)) ≡ at_place vs (cond b (Some e.1) (found_in es x))) [ true ↦ refl | false ↦ refl ]

drop_seen : (k : ℕ) (es : Places) (vs : List Value) → drop k (seen es vs) ≡ seen (drop k es) vs
drop_seen zero es vs = refl
drop_seen (suc k) [] vs = refl
drop_seen (suc k) (e ∷ es) vs = drop_seen k es vs

pub drop_numbered : (k : ℕ) (es : Places) (n : ℕ) → IsNumbered es n → IsNumbered (drop k es) (n - k)
drop_numbered zero es n h = subst (IsNumbered es) (omega arith) h
drop_numbered (suc k) [] n h = omega (arith, h)
drop_numbered (suc k) (e ∷ es) n h = subst (IsNumbered (drop k es)) (let q : n ≡ suc e.1 = h.0 in omega (arith, q)) (drop_numbered k es e.1 h.1)

pub all_names : (es : Places) (n : ℕ) → IsNumbered es n → n ≡ length es
all_names [] n h = h
all_names (e ∷ es) n h = h.0 ∙ ap suc (all_names es e.1 h.1)

-- the first values are those of the names that are left
module _ (es : Places) (vs : List Value) (m : ℕ) (h : IsNumbered es (length vs)) where
  same_count : length (seen es vs) ≡ length es
  same_count = sym (as_many es vs (length vs) h) ∙ all_names es (length vs) h

  left_count : length (take m vs) ≡ length vs - (length es - m)
  left_count = let e : length vs ≡ length es = all_names es (length vs) h in length-take m vs ∙ omega (arith, e)

  pub left_numbered : IsNumbered (drop (length es - m) es) (length (take m vs))
  left_numbered = subst (IsNumbered (drop (length es - m) es)) (sym left_count) (drop_numbered (length es - m) es (length vs) h)

  pub left_seen : seen (drop (length es - m) es) (take m vs) ≡ drop (length (seen es vs) - m) (seen es vs)
  left_seen =
      sym (kept (drop (length es - m) es) (take m vs) (drop m vs) (length (take m vs)) left_numbered (omega arith))
      ∙ ap (seen (drop (length es - m) es)) (take-append-drop m vs)
      ∙ sym (drop_seen (length es - m) es vs)
      ∙ ap (λ n. drop (n - m) (seen es vs)) (sym same_count)
