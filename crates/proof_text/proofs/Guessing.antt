-- A line that has a text is taken for what it is.
use Rattle.std.proofs.Common.{◌≡◌, ℕ, List, [], ◌∷◌, ◌++◌, codes, Option, Some, None, Result, Ok, Err, IfOk, refl, ap, sym, subst, ◌∙◌, arith}
use Rattle.target_code.specs.Names.{is_name}
use Rattle.target_lines.specs.Texts.{register_text, registers_text}
use Rattle.target_lines.specs.Fits.{IsSmall, AreSmall}
use Rattle.proof_text.specs.declared.words.Word.{Word}
use Rattle.proof_text.specs.declared.words.Word.TheVariants as word
use Rattle.proof_text.specs.declared.line.ProofLine.{ProofLine}
use Rattle.proof_text.specs.declared.line.ProofLine.TheVariants as line
use Rattle.proof_text.specs.Texts.{line_text, HasText}
use Rattle.proof_text.specs.Guesses.{Lacks, word_of, word_names, first_word, operands_text, IsCut, IsGuess}
use Rattle.proof_text.proofs.Cuts.{has, cut_same, register_lacks}
use Rattle.proof_text.proofs.Registers.{IsRegister}

abbrev word_text : Word → List ℕ
word_text word.Calc = codes "calc"
word_text word.Row = codes "row"
word_text word.Reg = codes "reg"
word_text word.Any = codes "any"
word_text word.Left = codes "left"
word_text word.Right = codes "right"
word_text word.If = codes "if"
word_text word.While = codes "while"
word_text word.Par = codes "par"
word_text word.Split = codes "split"
word_text word.Use = codes "use"

word_past : (w : Word) → word_of (word_text w) ≡ Some w
unfolding word_of word_names
word_past word.Calc = refl
word_past word.Row = refl
word_past word.Reg = refl
word_past word.Any = refl
word_past word.Left = refl
word_past word.Right = refl
word_past word.If = refl
word_past word.While = refl
word_past word.Par = refl
word_past word.Split = refl
word_past word.Use = refl

space_lacks : (w : Word) → Lacks 32 (word_text w)
space_lacks word.Calc = refl
space_lacks word.Row = refl
space_lacks word.Reg = refl
space_lacks word.Any = refl
space_lacks word.Left = refl
space_lacks word.Right = refl
space_lacks word.If = refl
space_lacks word.While = refl
space_lacks word.Par = refl
space_lacks word.Split = refl
space_lacks word.Use = refl

-- a word with something behind it
word_behind : (text front ops : List ℕ) → text ≡ front ++ (32 ∷ ops) → Lacks 32 front → (w : Word) (known : List ℕ) → text ≡ word_text w ++ (32 ∷ known) → (word_of front ≡ Some w) × (ops ≡ known)
word_behind text front ops e lacks w known is =
    let same = cut_same 32 front ops (word_text w) known lacks (space_lacks w) (sym e ∙ is) in
    (ap word_of same.0 ∙ word_past w, same.1)

-- a word alone
not_alone : (text front ops : List ℕ) → text ≡ front ++ (32 ∷ ops) → (w : Word) → text ≡ word_text w → ⊥
not_alone text front ops e w is = has 32 front ops (subst (Lacks 32) (sym is ∙ e) (space_lacks w))

pub cut_some : (text front ops : List ℕ) → text ≡ front ++ (32 ∷ ops) → Lacks 32 front → (l : ProofLine) → HasText l → text ≡ line_text l → (word_of front ≡ first_word l) × (ops ≡ operands_text l)
cut_some text front ops e lacks line.Calc h is = absurd (not_alone text front ops e word.Calc is)
cut_some text front ops e lacks (line.Row name) h is = word_behind text front ops e lacks word.Row name is
cut_some text front ops e lacks line.Reg h is = absurd (not_alone text front ops e word.Reg is)
cut_some text front ops e lacks (line.Any r) h is = word_behind text front ops e lacks word.Any (register_text r) is
cut_some text front ops e lacks line.Left h is = absurd (not_alone text front ops e word.Left is)
cut_some text front ops e lacks line.Right h is = absurd (not_alone text front ops e word.Right is)
cut_some text front ops e lacks (line.If []) h is = absurd (not_alone text front ops e word.If is)
cut_some text front ops e lacks (line.If (r ∷ rs)) h is = word_behind text front ops e lacks word.If (registers_text (r ∷ rs)) is
cut_some text front ops e lacks (line.While []) h is = absurd (not_alone text front ops e word.While is)
cut_some text front ops e lacks (line.While (r ∷ rs)) h is = word_behind text front ops e lacks word.While (registers_text (r ∷ rs)) is
cut_some text front ops e lacks line.Par h is = absurd (not_alone text front ops e word.Par is)
cut_some text front ops e lacks (line.Split a b) h is = word_behind text front ops e lacks word.Split (register_text a ++ (32 ∷ register_text b)) is
cut_some text front ops e lacks line.Use h is = absurd (not_alone text front ops e word.Use is)
cut_some text front ops e lacks line.Other h is = absurd h

alone : (text : List ℕ) (w : Word) → text ≡ word_text w → word_of text ≡ Some w
alone text w is = ap word_of is ∙ word_past w

not_behind : (text : List ℕ) → Lacks 32 text → (w : Word) (known : List ℕ) → text ≡ word_text w ++ (32 ∷ known) → ⊥
not_behind text lacks w known is = has 32 (word_text w) known (subst (Lacks 32) is lacks)

pub cut_none : (text : List ℕ) → Lacks 32 text → (l : ProofLine) → HasText l → text ≡ line_text l → (word_of text ≡ first_word l) × ([] ≡ operands_text l)
cut_none text lacks line.Calc h is = (alone text word.Calc is, refl)
cut_none text lacks (line.Row name) h is = absurd (not_behind text lacks word.Row name is)
cut_none text lacks line.Reg h is = (alone text word.Reg is, refl)
cut_none text lacks (line.Any r) h is = absurd (not_behind text lacks word.Any (register_text r) is)
cut_none text lacks line.Left h is = (alone text word.Left is, refl)
cut_none text lacks line.Right h is = (alone text word.Right is, refl)
cut_none text lacks (line.If []) h is = (alone text word.If is, refl)
cut_none text lacks (line.If (r ∷ rs)) h is = absurd (not_behind text lacks word.If (registers_text (r ∷ rs)) is)
cut_none text lacks (line.While []) h is = (alone text word.While is, refl)
cut_none text lacks (line.While (r ∷ rs)) h is = absurd (not_behind text lacks word.While (registers_text (r ∷ rs)) is)
cut_none text lacks line.Par h is = (alone text word.Par is, refl)
cut_none text lacks (line.Split a b) h is = absurd (not_behind text lacks word.Split (register_text a ++ (32 ∷ register_text b)) is)
cut_none text lacks line.Use h is = (alone text word.Use is, refl)
cut_none text lacks line.Other h is = absurd h

-- what is taken for a line by its first word and its operands is this line
pub guess_is : (l k : ProofLine) → HasText l → IsGuess (first_word l) (operands_text l) k → k ≡ l
guess_is line.Calc k h g = g
guess_is (line.Row name) k h g = g h
guess_is line.Reg k h g = g
guess_is (line.Any r) k h g = g r h refl
guess_is line.Left k h g = g
guess_is line.Right k h g = g
guess_is (line.If rs) k h g = g rs h refl
guess_is (line.While rs) k h g = g rs h refl
guess_is line.Par k h g = g
guess_is (line.Split a b) k h g = g a b h.0 h.1 refl
guess_is line.Use k h g = g
guess_is line.Other k h g = absurd h

pub guessed : (text front ops : List ℕ) (found : Option Word) (k : ProofLine) → IsCut text front ops → found ≡ word_of front → IsGuess found ops k → (l : ProofLine) → HasText l → text ≡ line_text l → k ≡ l
guessed text front ops found k cut is g l h e =
    let parts = cut l h e in
    let at : IsGuess found (operands_text l) k = subst (λ (v : List ℕ). IsGuess found v k) parts.1 g in
    guess_is l k h (subst (λ v. IsGuess v (operands_text l) k) (is ∙ parts.0) at)

pub all_guessed : {E : Type 0} (text front ops : List ℕ) (found : Option Word) → IsCut text front ops → found ≡ word_of front → (r : Result ProofLine E) → IfOk r (λ k. IsGuess found ops k)
    → IfOk r (λ k. (l : ProofLine) → HasText l → text ≡ line_text l → k ≡ l)
all_guessed text front ops found cut is (Ok k) g = guessed text front ops found k cut is g
all_guessed text front ops found cut is (Err e) g = tt

-- ---- two registers

space_free : (r : ℕ) → IsSmall r → Lacks 32 (register_text r)
space_free = register_lacks 32 (omega arith) refl

pub split_some : (ops from at : List ℕ) (x y : ℕ) → ops ≡ from ++ (32 ∷ at) → Lacks 32 from → IsRegister from x → IsRegister at y
    → (a b : ℕ) → IsSmall a → IsSmall b → ops ≡ register_text a ++ (32 ∷ register_text b) → line.Split x y ≡ line.Split a b
split_some ops from at x y e lacks first second a b p q s =
    let same = cut_same 32 from at (register_text a) (register_text b) lacks (space_free a p) (sym e ∙ s) in
    ap (λ v. line.Split v y) (first a p same.0) ∙ ap (λ v. line.Split a v) (second b q same.1)

pub split_none : (ops : List ℕ) (l : ProofLine) → Lacks 32 ops → (a b : ℕ) → IsSmall a → IsSmall b → ops ≡ register_text a ++ (32 ∷ register_text b) → l ≡ line.Split a b
split_none ops l lacks a b p q s = absurd (has 32 (register_text a) (register_text b) (subst (Lacks 32) s lacks))
