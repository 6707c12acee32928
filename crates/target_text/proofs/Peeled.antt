-- Lines that were read are those of a program whose text begins so.
use Rattle.std.proofs.Common.{◌≡◌, ℕ, suc, ◌≤◌, Bool, List, [], ◌∷◌, ◌++◌, length, refl, ap, sym, ◌∙◌, ◌⊎◌, inl, inr, append_assoc, arith}
use Rattle.std.specs.List.{AllByRecursion}
use Rattle.target_lines.specs.declared.line.Line.{Line}
use Rattle.target_lines.specs.Texts.{line_text}
use Rattle.target_lines.specs.Programs.{lines_text}
use Rattle.target_lines.proofs.Feeds.{line_inside}
use Rattle.target_text.specs.Runs.{IsRead}
use Rattle.target_text.proofs.FormedLines.{Fitting}
use Rattle.target_text.proofs.SameTexts.{front, front_past, behind, behind_past, not_empty}

pub feed_apart : (lends : Bool) (l : Line) (ls : List Line) (rest : List ℕ) → lines_text lends (l ∷ ls) ++ rest ≡ line_text lends l ++ (10 ∷ (lines_text lends ls ++ rest))
feed_apart lends l ls rest = simp append_assoc

-- of these lines, those behind the others, with what is left
pub record Behind (lends : Bool) (ls ks : List Line) (a b : List ℕ) : Type 0 where
  pub more : List Line
  pub all : ks ≡ ls ++ more
  pub left : a ≡ lines_text lends more ++ b

nothing_behind : (lends : Bool) (x : Line) (ls : List Line) (a b : List ℕ) → lines_text lends (x ∷ ls) ++ a ≡ b → (suc (length ls) ≤ 0) ⊎ (b ≡ []) → ⊥
nothing_behind lends x ls a b e (inl h) = omega arith
nothing_behind lends x ls a b e (inr h) = not_empty (line_text lends x) (lines_text lends ls ++ a) (sym h ∙ sym e ∙ feed_apart lends x ls a)

shorter : (m n : ℕ) (b : List ℕ) → (suc m ≤ suc n) ⊎ (b ≡ []) → (m ≤ n) ⊎ (b ≡ [])
shorter m n b (inl h) = inl (omega arith)
shorter m n b (inr e) = inr e

pub peel : (lends : Bool) (ls ks : List Line) (a b : List ℕ) → AllByRecursion (IsRead lends) ls → Fitting lends ks → lines_text lends ls ++ a ≡ lines_text lends ks ++ b → (length ls ≤ length ks) ⊎ (b ≡ []) → Behind lends ls ks a b
peel lends [] ks a b read fits e n = record { more = ks; all = refl; left = e }
peel lends (x ∷ ls) [] a b read fits e n = absurd (nothing_behind lends x ls a b e n)
peel lends (x ∷ ls) (y ∷ ks) a b read fits e n =
    let p = lines_text lends ls ++ a in
    let q = lines_text lends ks ++ b in
    let all : line_text lends x ++ (10 ∷ p) ≡ line_text lends y ++ (10 ∷ q) = sym (feed_apart lends x ls a) ∙ e ∙ feed_apart lends y ks b in
    let inside = line_inside lends y fits.0 in
    let here : line_text lends x ≡ line_text lends y = sym (front_past (line_text lends x) p read.0.inside) ∙ ap front all ∙ front_past (line_text lends y) q inside in
    let rest : p ≡ q = sym (behind_past (line_text lends x) p read.0.inside) ∙ ap behind all ∙ behind_past (line_text lends y) q inside in
    let same : y ≡ x = read.0.one y fits.0 here in
    let more = peel lends ls ks a b read.1 fits.1 rest (shorter (length ls) (length ks) b n) in
    record { more = more.more; all = ap (λ z. z ∷ ks) same ∙ ap (λ (zs : List Line). x ∷ zs) more.all; left = more.left }
