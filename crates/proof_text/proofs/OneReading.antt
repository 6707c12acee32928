-- What is printed is read, and a text is read in one way.
use Rattle.std.proofs.Common.{◌≡◌, ◌⊎◌, ℕ, ◌<◌, ◌^◌, Bool, true, false, List, [], ◌∷◌, ◌++◌, codes, decimal, drop, inl, inr, refl, ap, sym, subst, ◌∙◌, append_assoc, append-nil, arith}
use Rattle.std.specs.List.{AllByRecursion}
use Rattle.std.proofs.lemmas.Fmt.{decimal_injective}
use Rattle.std.proofs.lemmas.List.{append_cancel_right}
use Rattle.std.proofs.lemmas.List.Concat.{flat_map-cons}
use Rattle.target_code.specs.Names.{is_name}
use Rattle.target_lines.specs.declared.line.Phrase.TheVariants as phrase
use Rattle.target_lines.specs.Texts.{register_text, registers_text}
use Rattle.target_lines.specs.Fits.{IsSmall, AreSmall}
use Rattle.target_lines.specs.Reading.{first, registers_at}
use Rattle.target_lines.proofs.Pieces.{registers_last}
use Rattle.target_lines.proofs.Feeds.{line_inside}
use Rattle.proof_text.specs.declared.line.ProofLine.{ProofLine}
use Rattle.proof_text.specs.declared.line.ProofLine.TheVariants as line
use Rattle.proof_text.specs.declared.line.Proof.{Proof}
use Rattle.proof_text.specs.Texts.{line_text, feed_text, lines_text, proof_text, HasText}
use Rattle.proof_text.specs.Readings.{lines_of, IsOfKind, AreOfKinds, IsReadAs, PrintedIsRead, OneReading}
use Rattle.proof_text.specs.Guesses.{Lacks, word_of, first_word, operands_text, IsCut, IsGuess}
use Rattle.proof_text.proofs.Cuts.{both_lack, front_lacks, cut_same, register_lacks}
use Rattle.proof_text.proofs.Guessing.{cut_some, cut_none, guess_is}
use Rattle.proof_text.proofs.Lines.{lines_cut}

-- ---- texts tell lines apart

register_same : (r s : ℕ) → IsSmall r → IsSmall s → register_text r ≡ register_text s → r ≡ s
register_same r s h k e = decimal_injective r s (omega arith) (omega arith) (ap (drop 1) e)

registers_same : (rs ss : List ℕ) → AreSmall rs → AreSmall ss → registers_text rs ≡ registers_text ss → rs ≡ ss
registers_same [] [] h k e = refl
registers_same [] (s ∷ ss) h k e = let clash : 0 ≡ 114 = ap first e in absurd (omega (arith, clash))
registers_same (r ∷ rs) [] h k e = let clash : 114 ≡ 0 = ap first e in absurd (omega (arith, clash))
registers_same (r ∷ rs) (s ∷ ss) h k e = ap (λ (x : List ℕ × List ℕ). x.0) (sym (registers_last r rs h) ∙ ap registers_at e ∙ registers_last s ss k)

space_free : (r : ℕ) → IsSmall r → Lacks 32 (register_text r)
space_free = register_lacks 32 (omega arith) refl

is_own_guess : (l : ProofLine) → HasText l → IsGuess (first_word l) (operands_text l) l
is_own_guess line.Calc h = refl
is_own_guess (line.Row name) h = λ k. refl
is_own_guess line.Reg h = refl
is_own_guess (line.Any r) h = λ s k e. ap line.Any (register_same r s h k e)
is_own_guess line.Left h = refl
is_own_guess line.Right h = refl
is_own_guess (line.If rs) h = λ ss k e. ap line.If (registers_same rs ss h k e)
is_own_guess (line.While rs) h = λ ss k e. ap line.While (registers_same rs ss h k e)
is_own_guess line.Par h = refl
is_own_guess (line.Split a b) h = λ x y p q e.
    let same = cut_same 32 (register_text a) (register_text b) (register_text x) (register_text y) (space_free a h.0) (space_free x p) e in
    ap (λ v. line.Split v b) (register_same a x h.0 p same.0) ∙ ap (λ v. line.Split x v) (register_same b y h.1 q same.1)
is_own_guess line.Use h = refl
is_own_guess line.Other h = absurd h

-- its first word, and what stands behind
record Parts (text : List ℕ) : Type 0 where
  front : List ℕ
  ops : List ℕ
  cut : IsCut text front ops

alone : (text : List ℕ) → Lacks 32 text → Parts text
alone text lacks = record { front = text; ops = []; cut = cut_none text lacks }

behind : (front ops : List ℕ) → Lacks 32 front → Parts (front ++ (32 ∷ ops))
behind front ops lacks = record { front = front; ops = ops; cut = cut_some (front ++ (32 ∷ ops)) front ops refl lacks }

parts_of : (l : ProofLine) → HasText l → Parts (line_text l)
parts_of line.Calc h = alone (codes "calc") refl
parts_of (line.Row name) h = behind (codes "row") name refl
parts_of line.Reg h = alone (codes "reg") refl
parts_of (line.Any r) h = behind (codes "any") (register_text r) refl
parts_of line.Left h = alone (codes "left") refl
parts_of line.Right h = alone (codes "right") refl
parts_of (line.If []) h = alone (codes "if") refl
parts_of (line.If (r ∷ rs)) h = behind (codes "if") (registers_text (r ∷ rs)) refl
parts_of (line.While []) h = alone (codes "while") refl
parts_of (line.While (r ∷ rs)) h = behind (codes "while") (registers_text (r ∷ rs)) refl
parts_of line.Par h = alone (codes "par") refl
parts_of (line.Split a b) h = behind (codes "split") (register_text a ++ (32 ∷ register_text b)) refl
parts_of line.Use h = alone (codes "use") refl
parts_of line.Other h = absurd h

line_same : (l k : ProofLine) → HasText l → HasText k → line_text l ≡ line_text k → l ≡ k
line_same l k h g e =
    let parts = parts_of l h in
    let mine = parts.cut l h refl in
    let other = parts.cut k g e in
    let at : IsGuess (first_word k) (operands_text l) l = subst (λ v. IsGuess v (operands_text l) l) (sym mine.0 ∙ other.0) (is_own_guess l h) in
    guess_is k l g (subst (λ (v : List ℕ). IsGuess (first_word k) v l) (sym mine.1 ∙ other.1) at)

-- ---- one reading

same_kind : (t : List ℕ) (l k : ProofLine) → IsOfKind t l → IsOfKind t k → l ≡ k
same_kind t l k (inl a) (inl b) = line_same l k a.0 b.0 (append_cancel_right (line_text l) (line_text k) (10 ∷ []) (sym a.1 ∙ b.1))
same_kind t l k (inl a) (inr b) = absurd (b.1 l a.0 a.1)
same_kind t l k (inr a) (inl b) = absurd (a.1 k b.0 b.1)
same_kind t l k (inr a) (inr b) = a.0 ∙ sym b.0

same_kinds : (ts : List (List ℕ)) (ls ks : List ProofLine) → AreOfKinds ts ls → AreOfKinds ts ks → ls ≡ ks
same_kinds [] [] [] h g = refl
same_kinds [] [] (k ∷ ks) h g = absurd g
same_kinds [] (l ∷ ls) ks h g = absurd h
same_kinds (t ∷ ts) [] ks h g = absurd h
same_kinds (t ∷ ts) (l ∷ ls) [] h g = absurd g
same_kinds (t ∷ ts) (l ∷ ls) (k ∷ ks) h g = ap (λ (x : ProofLine). x ∷ ls) (same_kind t l k h.0 g.0) ∙ ap (λ (xs : List ProofLine). k ∷ xs) (same_kinds ts ls ks h.1 g.1)

of_lines : List ProofLine → Proof
of_lines ls = record { lines = ls }

pub one_reading : OneReading
unfolding of_lines
one_reading text p q h g = ap of_lines (same_kinds (lines_of text) p.lines q.lines h g)

-- ---- what is printed

name_lacks : (name : List ℕ) → is_name name ≡ true → Lacks 10 name
name_lacks name h = front_lacks 10 name (codes " " ++ (decimal 0 ++ (codes " " ++ decimal 0))) (line_inside false (record { level = 0; phrase = phrase.Proc name 0 0 }) (h, omega arith, omega arith))

registers_lack : (r : ℕ) (rs : List ℕ) → AreSmall (r ∷ rs) → Lacks 10 (registers_text (r ∷ rs))
registers_lack r rs h = line_inside false (record { level = 0; phrase = phrase.Ret (r ∷ rs) }) h

feed_free : (r : ℕ) → IsSmall r → Lacks 10 (register_text r)
feed_free = register_lacks 10 (omega arith) refl

line_lacks : (l : ProofLine) → HasText l → Lacks 10 (line_text l)
line_lacks line.Calc h = refl
line_lacks (line.Row name) h = name_lacks name h
line_lacks line.Reg h = refl
line_lacks (line.Any r) h = feed_free r h
line_lacks line.Left h = refl
line_lacks line.Right h = refl
line_lacks (line.If []) h = refl
line_lacks (line.If (r ∷ rs)) h = registers_lack r rs h
line_lacks (line.While []) h = refl
line_lacks (line.While (r ∷ rs)) h = registers_lack r rs h
line_lacks line.Par h = refl
line_lacks (line.Split a b) h = both_lack 10 (register_text a) (32 ∷ register_text b) (feed_free a h.0) (feed_free b h.1)
line_lacks line.Use h = refl
line_lacks line.Other h = absurd h

lines_read : (ls : List ProofLine) → AllByRecursion HasText ls → AreOfKinds (lines_of (lines_text ls)) ls
lines_read [] h = tt
lines_read (l ∷ ls) h =
    let text : lines_text (l ∷ ls) ≡ line_text l ++ (10 ∷ lines_text ls) = flat_map-cons feed_text l ls ∙ append_assoc (line_text l) (10 ∷ []) (lines_text ls) in
    let lines : lines_of (lines_text (l ∷ ls)) ≡ feed_text l ∷ lines_of (lines_text ls) = ap lines_of text ∙ lines_cut (line_text l) (lines_text ls) (line_lacks l h.0) in
    subst (λ ts. AreOfKinds ts (l ∷ ls)) (sym lines) (inl (h.0, refl), lines_read ls h.1)

pub printed_is_read : PrintedIsRead
printed_is_read p q h = let is = lines_read p.lines h in (is, λ g. one_reading (proof_text p) q p g is)
