-- The values of results.
use Rattle.std.proofs.Common.{◌≡◌, ℕ, zero, suc, ◌+◌, ◌-◌, ◌<◌, ◌≤◌, Bool, true, false, List, [], ◌∷◌, ◌++◌, length, take, drop, get_or, refl, sym, ap, ◌∙◌, subst, append_assoc, arith, eq-eqb, Result, Ok, Err, IfOk}
use Rattle.std.proofs.Math.Seq.{drop-cons}
use Rattle.std.proofs.lemmas.List.{drop_all}
use Rattle.std.specs.Prelude.{◌↔◌, Option, Some, None, slice_index, if◌then◌else◌, ◌==◌}
use Rattle.nres_core.specs.declared.value.Value.{Value}
use Rattle.target_code.specs.Formed.{is_container}
use Rattle.target_code.specs.Reps.{width}
use Rattle.target_code.specs.declared.tree.Rep.{Rep}
use Rattle.target_code.specs.declared.tree.Rep.TheVariants as rep
use Rattle.target_meaning.specs.Machine.{Live}
use Rattle.target_meaning.specs.Piece.{Piece, Share, Some_of, Nil, none, whole, at_place}
use Rattle.relations.specs.Blocks.{block, wholly, whole_piece, Has}
use Rattle.relations.specs.Images.{held}
use Rattle.relations.specs.Represents.{Represents}
use Rattle.layout_facts.specs.Footprints.{first_word, OneBlock}
use Rattle.layout_facts.proofs.Facts.{width_is, no_piece, one_block}
use Rattle.image_laws.specs.Laws.{IsRead}
use Rattle.run_results.specs.Results.{AllShow, FirstNone, HoldsAny, HoldsBlock, IsBlock, Shows}
use Rattle.run_results.proofs.Held as blocks

-- the register of a block's name
pub first_is : (regs : List ℕ) → get_or regs 0 0 ≡ first_word regs
first_is [] = refl
first_is (r ∷ rs) = refl

-- registers that are too few or too many show nothing
pub shows_wide : (p : Piece) (r : Rep) (regs : List ℕ) (x : Value) → Shows p r regs x → length regs ≡ width r
shows_wide p r regs x s = width_is r x regs (held (first_word regs) s.block) s.read.represents

-- a container has a block
bare_share : (n : ℕ) → Has Nil (Some n) → ⊥
bare_share n h = let e : Nil ≡ Some_of n h.0 = h.2 in let z : ⊥ = cc e in z

own_place : (b : ℕ) (ws : List ℕ) → block b ws b 0 ≡ Some (length ws)
own_place b ws = ap (λ c. if c then at_place (Live ws) 0 else None) (eq-eqb b b refl)

pub not_bare : (r : Rep) (regs : List ℕ) (x : Value) → is_container r ≡ true → IsRead r regs None x → ⊥
not_bare r regs x c i =
    let o : OneBlock regs none = one_block r x regs none c i.whole i.represents in
    bare_share (length o.words) (subst (Has Nil) (own_place (first_word regs) o.words) (o.exact (first_word regs) 0))

-- and what is none has no block
pub not_block : (r : Rep) (regs ws : List ℕ) (x : Value) → is_container r ≡ false → IsRead r regs (Some ws) x → ⊥
not_block r regs ws x c i =
    let b = first_word regs in
    let e : whole_piece (block b ws) ≡ none = no_piece r x regs (whole_piece (block b ws)) i.represents c in
    let f : whole_piece (block b ws) b 0 ≡ Some_of (length ws) (whole - 1) = ap wholly (own_place b ws) in
    let q : Some_of (length ws) (whole - 1) ≡ Nil = sym f ∙ ap (λ (p : Piece). p b 0) e in
    let z : ⊥ = cc q in z

-- ---- one result

module _ (p : Piece) (r : Rep) (regs : List ℕ) where
  pub none_shown : is_container r ≡ true → IsBlock p (first_word regs) None → (x : Value) → (None ≡ Some x) ↔ Shows p r regs x
  none_shown c n x = ((λ e. absurd (let z : ⊥ = cc e in z)), λ s. absurd (by s.block s.read s.held))
    where
      by : (o : Option (List ℕ)) → IsRead r regs o x → HoldsAny p (first_word regs) o → ⊥
      by None i h = not_bare r regs x c i
      by (Some ws) i h = n ws h

  block_shown : (ws : List ℕ) → is_container r ≡ true → HoldsBlock p (first_word regs) ws → (o : Option Value) (x : Value) → ((o ≡ Some x) ↔ IsRead r regs (Some ws) x) → (o ≡ Some x) ↔ Shows p r regs x
  block_shown ws c h o x i = ((λ e. record { block = Some ws; read = i.0 e; held = h }), λ s. i.1 (by s.block s.read s.held))
    where
      by : (q : Option (List ℕ)) → IsRead r regs q x → HoldsAny p (first_word regs) q → IsRead r regs (Some ws) x
      by None j g = absurd (not_bare r regs x c j)
      by (Some us) j g = subst (λ l. IsRead r regs (Some l) x) (blocks.one_block p (first_word regs) us ws g h) j

  bare_shown : is_container r ≡ false → (o : Option Value) (x : Value) → ((o ≡ Some x) ↔ IsRead r regs None x) → (o ≡ Some x) ↔ Shows p r regs x
  bare_shown c o x i = ((λ e. record { block = None; read = i.0 e; held = tt }), λ s. i.1 (by s.block s.read))
    where
      by : (q : Option (List ℕ)) → IsRead r regs q x → IsRead r regs None x
      by None j = j
      by (Some us) j = absurd (not_block r regs us x c j)

  pub in_block : {E : Type 0} (ws : List ℕ) (result : Result (Option Value) E) → is_container r ≡ true → HoldsBlock p (first_word regs) ws
      → IfOk result (λ o. (x : Value) → (o ≡ Some x) ↔ IsRead r regs (Some ws) x) → IfOk result (λ o. (x : Value) → (o ≡ Some x) ↔ Shows p r regs x)
  in_block ws (Ok o) c h i = λ x. block_shown ws c h o x (i x)
  in_block ws (Err e) c h i = tt

  pub bare : {E : Type 0} (result : Result (Option Value) E) → is_container r ≡ false
      → IfOk result (λ o. (x : Value) → (o ≡ Some x) ↔ IsRead r regs None x) → IfOk result (λ o. (x : Value) → (o ≡ Some x) ↔ Shows p r regs x)
  bare (Ok o) c i = λ x. bare_shown c o x (i x)
  bare (Err e) c i = tt

  pub narrow : (length regs ≡ width r → ⊥) → (x : Value) → (None ≡ Some x) ↔ Shows p r regs x
  narrow n x = ((λ e. absurd (let z : ⊥ = cc e in z)), λ s. absurd (n (shows_wide p r regs x s)))

-- ---- all results

-- what is shown of the rest is shown of all
pub record SoFar (p : Piece) (outs : List Rep) (regs : List ℕ) (k : ℕ) (rest : List ℕ) (values : List Value) : Type 0 where
  pub all : (vs : List Value) → AllShow p (drop k outs) vs rest → AllShow p outs (values ++ vs) regs
  pub none : (n : ℕ) → FirstNone p (drop k outs) rest n → FirstNone p outs regs (k + n)

pub at_first : (p : Piece) (outs : List Rep) (regs : List ℕ) → SoFar p outs regs 0 regs []
at_first p outs regs = record { all = λ vs a. a; none = λ n a. subst (λ q. FirstNone p outs regs q) (let e : n ≡ 0 + n = omega arith in e) a }

pub one_more : (p : Piece) (outs : List Rep) (regs : List ℕ) (k : ℕ) (rest : List ℕ) (values : List Value) (r : Rep) (x : Value) → k < length outs → SoFar p outs regs k rest values
    → Shows p (get_or outs k r) (take (width (get_or outs k r)) rest) x → SoFar p outs regs (k + 1) (drop (width (get_or outs k r)) rest) (values ++ x ∷ [])
one_more p outs regs k rest values r x lt so s =
    let one : suc k ≡ k + 1 = omega arith in
    let here = get_or outs k r in
    let cons : drop k outs ≡ here ∷ drop (suc k) outs = drop-cons outs k r lt in
    subst (λ q. SoFar p outs regs q (drop (width here) rest) (values ++ x ∷ [])) one (record {
      all = λ vs a.
          let first : AllShow p (here ∷ drop (suc k) outs) (x ∷ vs) rest = (s, a) in
          subst (λ us. AllShow p outs us regs) (sym (append_assoc values (x ∷ []) vs))
          (so.all (x ∷ vs) (subst (λ rs. AllShow p rs (x ∷ vs) rest) (sym cons) first));
      none = λ n a.
          let first : FirstNone p (here ∷ drop (suc k) outs) rest (suc n) = ((x, s), a) in
          subst (λ q. FirstNone p outs regs q) (let e : k + suc n ≡ suc k + n = omega arith in e)
          (so.none (suc n) (subst (λ rs. FirstNone p rs rest (suc n)) (sym cons) first));
    })

pub one_none : (p : Piece) (outs : List Rep) (regs : List ℕ) (k : ℕ) (rest : List ℕ) (values : List Value) (r : Rep) → k < length outs → SoFar p outs regs k rest values
    → ((x : Value) → Shows p (get_or outs k r) (take (width (get_or outs k r)) rest) x → ⊥) → (n : ℕ) × (k + 1 ≡ n + 1) × FirstNone p outs regs n
one_none p outs regs k rest values r lt so no_value =
    let here = get_or outs k r in
    let cons : drop k outs ≡ here ∷ drop (suc k) outs = drop-cons outs k r lt in
    let first : FirstNone p (here ∷ drop (suc k) outs) rest 0 = no_value in
    let same : k + 0 ≡ k = omega arith in
    (k, refl, subst (λ q. FirstNone p outs regs q) same (so.none 0 (subst (λ rs. FirstNone p rs rest 0) (sym cons) first)))

pub all_shown : (p : Piece) (outs : List Rep) (regs : List ℕ) (k : ℕ) (rest : List ℕ) (values : List Value) → length outs ≤ k → SoFar p outs regs k rest values → AllShow p outs values regs
all_shown p outs regs k rest values le so =
    subst (λ us. AllShow p outs us regs) (nil_behind values) (so.all [] (subst (λ rs. AllShow p rs [] rest) (sym (drop_all k outs le)) tt))
  where
    nil_behind : (xs : List Value) → xs ++ [] ≡ xs
    nil_behind [] = refl
    nil_behind (x ∷ xs) = ap (λ ys. x ∷ ys) (nil_behind xs)
