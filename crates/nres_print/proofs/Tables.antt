-- The words and signs of the grammar's tables, as they are printed.
use Rattle.std.proofs.Common.{◌≡◌, ℕ, suc, ◌≤◌, Bool, true, false, cond, ◌&&◌, ◌==◌, if◌then◌else◌, nat_le, List, [], ◌∷◌, ◌++◌, length, Some, refl, ap, ◌∙◌, sym, subst, codes, decimal, arith}
use Rattle.std.proofs.lemmas.Bool.{and_parts, eqb-true, leb-true}
use Rattle.std.proofs.lemmas.Slice.Eq.{bytes_eq-Decides}
use Rattle.std.specs.Option.{is_some}
use Rattle.target_code.specs.Reserved.{reserved_words}
use Rattle.target_code.specs.declared.tree.Calc.{Calc}
use Rattle.target_code.specs.declared.tree.Calc.TheVariants as calc
use Rattle.target_code.specs.declared.tree.Rep.{Rep}
use Rattle.target_code.specs.declared.tree.Rep.TheVariants as rep
use Rattle.nres_core.specs.Front as at_front
use Rattle.nres_core.specs.Front.{front}
use Rattle.nres_core.specs.Grammar.{is_chain}
use Rattle.nres_core.specs.Tree.{same_name}
use Rattle.nres_core.specs.Operations.{meant_arity, meant_is_bare, meant_is_taking}
use Rattle.nres_core.proofs.OperationsLemmas.{tabled, tested, on_operations}
use Rattle.nres_core.specs.Vocabulary.{arity, calc_word, is_empty_word, is_take_word, truth_word, plain_word, type_word, rep_word, bound_word, binary_sign}
use Rattle.nres_core.specs.declared.token.Piece.TheVariants as piece
use Rattle.nres_core.specs.declared.token.TokenKind.TheVariants as kind
use Rattle.nres_core.specs.declared.ty.Ty.{Ty}
use Rattle.nres_core.specs.declared.ty.Ty.TheVariants as ty
use Rattle.nres_print.specs.Exprs.{front_text, between_text}
use Rattle.target_code.specs.Texts.{rep_text}
use Rattle.nres_print.specs.Spellings.{calc_text, looseness, left_level, truth_text, type_text}
use Rattle.nres_print.proofs.Fronts.{is_word}

-- ---- words

pub operation_is_word : (w : List ℕ) (n : ℕ) → arity w ≡ Some n → is_word w ≡ true
unfolding arity reserved_words
operation_is_word w n e = on_operations is_word (λ z. is_some (meant_arity z)) refl refl w (ap is_some e)

pub empty_is_word : (w : List ℕ) → is_empty_word w ≡ true → is_word w ≡ true
unfolding is_empty_word reserved_words
empty_is_word w e = on_operations is_word meant_is_bare refl refl w e

pub take_is_word : (w : List ℕ) → is_take_word w ≡ true → is_word w ≡ true
unfolding is_take_word reserved_words
take_is_word w e = on_operations is_word meant_is_taking refl refl w e

pub truth_is_word : (b : Bool) → is_word (truth_text b) ≡ true
unfolding reserved_words
truth_is_word true = refl
truth_is_word false = refl

pub truth_is : (b : Bool) → truth_word (truth_text b) ≡ Some b
unfolding truth_word
truth_is true = refl
truth_is false = refl

-- ---- calculations

-- a word for a calculation stands in front of its two sides
pub record IsCalcWord (s : List ℕ) (w : Calc) : Type 0 where
  pub is_word : is_word s ≡ true
  pub text : (a b : List ℕ) → front_text w ++ (a ++ (between_text w ++ b)) ≡ s ++ (32 ∷ (a ++ (32 ∷ b)))
  pub loose : looseness w ≡ 0
  pub left : left_level w ≡ 0

calc_words : List (List ℕ × Calc)
calc_words = (codes "min", calc.Min) ∷ (codes "max", calc.Max) ∷ []

pub calc_is_word : (s : List ℕ) (w : Calc) → calc_word s ≡ Some w → IsCalcWord s w
unfolding calc_word calc_words reserved_words
calc_is_word s w e = tabled IsCalcWord s calc_words w (record { is_word = refl; text = λ a b. refl; loose = refl; left = refl }, (record { is_word = refl; text = λ a b. refl; loose = refl; left = refl }, tt)) e

-- a sign stands between its two sides
pub record IsSign (s : List ℕ) (w : Calc) (m : ℕ) : Type 0 where
  pub some : suc 0 ≤ length s
  pub first : (z : List ℕ) → front (s ++ (32 ∷ z)) ≡ piece.Token kind.Sign (length s)
  pub text : (a b : List ℕ) → front_text w ++ (a ++ (between_text w ++ b)) ≡ a ++ (32 ∷ (s ++ (32 ∷ b)))
  pub loose : looseness w ≡ m
  pub left : left_level w ≡ (if is_chain m then suc m else m)

signs : List (List ℕ × (Calc × ℕ))
signs =
    (codes "*", (calc.Mul, 1)) ∷ (codes "/", (calc.Div, 1)) ∷ (codes "%", (calc.Mod, 1)) ∷ (codes "+", (calc.Add, 2)) ∷ (codes "-", (calc.Sub, 2))
    ∷ (codes "<", (calc.Lt, 3)) ∷ (codes "<=", (calc.Le, 3)) ∷ (codes "==", (calc.Eq, 3)) ∷ (codes "!=", (calc.Ne, 3))
    ∷ (codes "&&", (calc.And, 4)) ∷ (codes "||", (calc.Or, 5)) ∷ []

sign_of : (w : Calc) → 1 ≤ looseness w → IsSign (calc_text w) w (looseness w)
unfolding front at_front.sign
sign_of calc.Mul h = record { some = omega arith; first = λ z. refl; text = λ a b. refl; loose = refl; left = refl }
sign_of calc.Div h = record { some = omega arith; first = λ z. refl; text = λ a b. refl; loose = refl; left = refl }
sign_of calc.Mod h = record { some = omega arith; first = λ z. refl; text = λ a b. refl; loose = refl; left = refl }
sign_of calc.Add h = record { some = omega arith; first = λ z. refl; text = λ a b. refl; loose = refl; left = refl }
sign_of calc.Sub h = record { some = omega arith; first = λ z. refl; text = λ a b. refl; loose = refl; left = refl }
sign_of calc.Lt h = record { some = omega arith; first = λ z. refl; text = λ a b. refl; loose = refl; left = refl }
sign_of calc.Le h = record { some = omega arith; first = λ z. refl; text = λ a b. refl; loose = refl; left = refl }
sign_of calc.Eq h = record { some = omega arith; first = λ z. refl; text = λ a b. refl; loose = refl; left = refl }
sign_of calc.Ne h = record { some = omega arith; first = λ z. refl; text = λ a b. refl; loose = refl; left = refl }
sign_of calc.And h = record { some = omega arith; first = λ z. refl; text = λ a b. refl; loose = refl; left = refl }
sign_of calc.Or h = record { some = omega arith; first = λ z. refl; text = λ a b. refl; loose = refl; left = refl }
sign_of _ h = absurd (omega (arith, h))

pub sign_is : (s : List ℕ) (w : Calc) (m : ℕ) → binary_sign s ≡ Some (w, m) → IsSign s w m
unfolding binary_sign signs
sign_is s w m e =
    let f = tested (λ x y. (same_name (calc_text y.0) x && looseness y.0 == y.1) && nat_le 1 (looseness y.0)) s signs (w, m) refl e in
    let g = and_parts (same_name (calc_text w) s && looseness w == m) (nat_le 1 (looseness w)) f in
    let h = and_parts (same_name (calc_text w) s) (looseness w == m) g.0 in
    subst (λ x. IsSign x w m) ((bytes_eq-Decides (calc_text w) s).0 h.0) (subst (λ n. IsSign (calc_text w) w n) (eqb-true (looseness w) m h.1) (sign_of w (leb-true 1 (looseness w) g.1)))

-- ---- representations and types

reps : List (List ℕ × Rep)
reps = (codes "array", rep.Array) ∷ (codes "vec", rep.Vec) ∷ (codes "hset", rep.Hset) ∷ (codes "hmap", rep.Hmap) ∷ (codes "heap", rep.Heap) ∷ []

pub record IsText (s t : List ℕ) : Type 0 where
  pub is_word : is_word s ≡ true
  pub text : t ≡ s

pub rep_is : (s : List ℕ) (x : Rep) → rep_word s ≡ Some x → IsText s (rep_text x)
unfolding rep_word reps reserved_words
rep_is s x e =
    let g = and_parts (is_word s) (same_name (rep_text x) s) (tested (λ y z. is_word y && same_name (rep_text z) y) s reps x refl e) in
    record { is_word = g.0; text = (bytes_eq-Decides (rep_text x) s).0 g.1 }

bounds : ℕ → List (List ℕ × Rep)
bounds u = (codes "bits", rep.Bits u) ∷ (codes "amap", rep.Amap u) ∷ []

pub record IsBounded (s : List ℕ) (u : ℕ) (x : Rep) : Type 0 where
  pub is_word : is_word s ≡ true
  pub text : rep_text x ≡ s ++ (32 ∷ decimal u)

pub bound_is : (s : List ℕ) (u : ℕ) (x : Rep) → bound_word s u ≡ Some x → IsBounded s u x
unfolding bound_word bounds reserved_words
bound_is s u x e = tabled (λ y z. IsBounded y u z) s (bounds u) x (record { is_word = refl; text = refl }, (record { is_word = refl; text = refl }, tt)) e

plains : List (List ℕ × (Ty × Rep))
plains = (codes "nat", (ty.Nat, rep.Word)) ∷ (codes "bool", (ty.Bool, rep.Flag)) ∷ []

pub plain_is : (s : List ℕ) (t : Ty) (x : Rep) → plain_word s ≡ Some (t, x) → IsText s (type_text t x)
unfolding plain_word plains reserved_words
plain_is s t x e = tabled (λ y z. IsText y (type_text z.0 z.1)) s plains (t, x) (record { is_word = refl; text = refl }, (record { is_word = refl; text = refl }, tt)) e

types : List (List ℕ × Ty)
types = (codes "list", ty.List) ∷ (codes "set", ty.Set) ∷ (codes "map", ty.Map) ∷ (codes "bag", ty.Bag) ∷ []

pub record IsHolder (s : List ℕ) (t : Ty) : Type 0 where
  pub is_word : is_word s ≡ true
  pub text : (x : Rep) → type_text t x ≡ s ++ (codes " as " ++ rep_text x)

pub type_is : (s : List ℕ) (t : Ty) → type_word s ≡ Some t → IsHolder s t
unfolding type_word types reserved_words
type_is s t e =
    tabled IsHolder s types t
    (record { is_word = refl; text = λ x. refl }, (record { is_word = refl; text = λ x. refl }, (record { is_word = refl; text = λ x. refl }, (record { is_word = refl; text = λ x. refl }, tt)))) e
