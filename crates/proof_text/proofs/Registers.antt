-- Registers between commas are read again.
use Rattle.std.proofs.Common.{◌≡◌, ℕ, ◌<◌, ◌^◌, List, [], ◌∷◌, ◌++◌, drop, refl, ap, sym, subst, ◌∙◌, append_assoc, append-nil, arith}
use Rattle.target_lines.specs.Texts.{register_text, registers_text}
use Rattle.target_lines.specs.Fits.{IsSmall, AreSmall}
use Rattle.target_lines.proofs.Pieces.{listed-cons}
use Rattle.proof_text.specs.Guesses.{Lacks}
use Rattle.proof_text.proofs.Cuts.{has, cut_same, register_lacks}

pub comma_lacks : (r : ℕ) → IsSmall r → Lacks 44 (register_text r)
comma_lacks = register_lacks 44 (omega arith) refl

-- the register that is read where the text is that of one
abbrev pub IsRegister : List ℕ → ℕ → Type 0
IsRegister text x = (r : ℕ) → IsSmall r → text ≡ register_text r → x ≡ r

-- of these registers the list has the first ones, and the text the others
pub record IsLeft (list rest whole : List ℕ) : Type 0 where
  pub next : ℕ
  pub others : List ℕ
  pub split : whole ≡ list ++ (next ∷ others)
  pub small : AreSmall (next ∷ others)
  pub spelled : rest ≡ registers_text (next ∷ others)

pub all_left : (bytes : List ℕ) (r : ℕ) (rs : List ℕ) → AreSmall (r ∷ rs) → bytes ≡ registers_text (r ∷ rs) → IsLeft [] bytes (r ∷ rs)
all_left bytes r rs small e = record { next = r; others = rs; split = refl; small = small; spelled = e }

pub goes_on : (list rest front behind whole : List ℕ) (x : ℕ) → IsLeft list rest whole → rest ≡ front ++ (44 ∷ behind) → Lacks 44 front → IsRegister front x → IsLeft (list ++ (x ∷ [])) (drop 1 behind) whole
goes_on list rest front behind whole x left e lacks is = by_others left.next left.others left.split left.small left.spelled
  where
    by_others : (r : ℕ) (rs : List ℕ) → whole ≡ list ++ (r ∷ rs) → AreSmall (r ∷ rs) → rest ≡ registers_text (r ∷ rs) → IsLeft (list ++ (x ∷ [])) (drop 1 behind) whole
    by_others r [] split small s =
        let one : register_text r ≡ front ++ (44 ∷ behind) = sym (append-nil (register_text r)) ∙ sym s ∙ e in
        absurd (has 44 front behind (subst (Lacks 44) one (comma_lacks r small.0)))
    by_others r (y ∷ ys) split small s =
        let spelled : registers_text (r ∷ y ∷ ys) ≡ register_text r ++ (44 ∷ 32 ∷ registers_text (y ∷ ys)) = listed-cons register_text r y ys [] in
        let same = cut_same 44 front behind (register_text r) (32 ∷ registers_text (y ∷ ys)) lacks (comma_lacks r small.0) (sym e ∙ s ∙ spelled) in
        let value : x ≡ r = is r small.0 same.0 in
        let moved : list ++ (r ∷ y ∷ ys) ≡ (list ++ (x ∷ [])) ++ (y ∷ ys) = sym (append_assoc list (r ∷ []) (y ∷ ys)) ∙ ap (λ z. (list ++ (z ∷ [])) ++ (y ∷ ys)) (sym value) in
        record { next = y; others = ys; split = split ∙ moved; small = small.1; spelled = ap (drop 1) same.1 }

pub ends : (list rest whole : List ℕ) (x : ℕ) → IsLeft list rest whole → Lacks 44 rest → IsRegister rest x → list ++ (x ∷ []) ≡ whole
ends list rest whole x left lacks is = by_others left.next left.others left.split left.small left.spelled
  where
    by_others : (r : ℕ) (rs : List ℕ) → whole ≡ list ++ (r ∷ rs) → AreSmall (r ∷ rs) → rest ≡ registers_text (r ∷ rs) → list ++ (x ∷ []) ≡ whole
    by_others r [] split small s =
        let value : x ≡ r = is r small.0 (s ∙ append-nil (register_text r)) in
        ap (λ z. list ++ (z ∷ [])) value ∙ sym split
    by_others r (y ∷ ys) split small s =
        let spelled : registers_text (r ∷ y ∷ ys) ≡ register_text r ++ (44 ∷ 32 ∷ registers_text (y ∷ ys)) = listed-cons register_text r y ys [] in
        absurd (has 44 (register_text r) (32 ∷ registers_text (y ∷ ys)) (subst (Lacks 44) (s ∙ spelled) lacks))

pub pushed_small : (list : List ℕ) (x : ℕ) → AreSmall list → IsSmall x → AreSmall (list ++ (x ∷ []))
pushed_small [] x h k = (k, tt)
pushed_small (y ∷ ys) x h k = (h.0, pushed_small ys x h.1 k)
