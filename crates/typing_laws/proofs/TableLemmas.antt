-- What holds of each entry of a table holds of what the table says.
use Rattle.std.specs.Cmp.Lexicographic.{same_text}
use Rattle.std.proofs.Common.{◌≡◌, ℕ, Bool, true, false, cond, List, [], ◌∷◌, Some, refl, sym, subst}
use Rattle.nres_core.specs.Tree.{same_name}
use Rattle.nres_core.specs.Vocabulary.{in_table}
use Rattle.typing_laws.proofs.TypedLemmas.{some_same}

abbrev pub Each : {A : Type 0} → (List ℕ → A → Type 0) → List (List ℕ × A) → Type 0
Each P [] = Unit {0}
Each P (e ∷ es) = P e.0 e.1 × Each P es

pub found : {A : Type 0} (P : List ℕ → A → Type 0) (es : List (List ℕ × A)) → Each P es → (w : List ℕ) (x : A) → in_table w es ≡ Some x → P w x
found P [] h w x e = absurd (cc)
found P (f ∷ es) h w x e = pick (same_name w f.0) refl e (found P es h.1 w x)
  where
    pick : (b : Bool) → same_name w f.0 ≡ b → cond b (Some f.1) (in_table w es) ≡ Some x → (in_table w es ≡ Some x → P w x) → P w x
    pick true q k go = subst (λ z. P z x) (sym (same_text w f.0 (sym q))) (subst (λ z. P f.0 z) (some_same k) h.0)
    pick false q k go = go k
