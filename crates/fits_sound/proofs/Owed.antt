-- The slices that a procedure takes over come back among its results.
use Rattle.std.proofs.Common.{◌≡◌, ℕ, suc, ◌+◌, ◌<◌, ◌≤◌, Bool, true, false, not, cond, ◌&&◌, List, [], ◌∷◌, length, refl, sym, ap, ◌∙◌, subst, arith, eqb-true}
use Rattle.std.proofs.lemmas.Bool.{and_parts, cond-true, cond-false}
use Rattle.std.specs.Prelude.{Some, None, nat_eq}
use Rattle.nres_meaning.specs.FlatMeaning.{numbered}
use Rattle.nres_rules.specs.FlatTyped.{slices_given, slices_taken}
use Rattle.nres_rules.specs.Types as types
use Rattle.target_code.specs.declared.tree.InParam.{InParam}
use Rattle.target_code.specs.declared.tree.Rep.{Rep}
use Rattle.target_code.specs.declared.tree.Rep.TheVariants as rep
use Rattle.relations.specs.Represents.{Represents}
use Rattle.row_laws.specs.Rows.{Thing}
use Rattle.soundness.specs.Start.{reps_of}
use Rattle.rule_check.specs.Check.{owed}
use Rattle.rule_check.specs.Context.{Shape, is_slice}
use Rattle.rule_check.specs.Steps.{slices_are}
use Rattle.start_ends.specs.Things.{AllThings}
use Rattle.fits.specs.Follow.{slice_of}
use Rattle.fits_sound.specs.Called.{given_slices, taken_slices}
use Rattle.fits_sound.specs.Meant.{Agree, All_rel, Dyn, Tagged}
use Rattle.fits_sound.specs.RowShapes.{shape_reps}
use Rattle.fits_sound.proofs.Basic.{agree_same, agree_then, bind_agree, bind_dyn}
use Rattle.fits_sound.proofs.Bound.{fresh_is, grow}
use Rattle.fits_sound.proofs.Join.{le_same}

-- the two ways to say that a representation is a slice
pub same_slice : (x : Rep) → types.is_slice x ≡ is_slice x
same_slice rep.Word = refl
same_slice rep.Flag = refl
same_slice rep.Array = refl
same_slice rep.Slice = refl
same_slice rep.Vec = refl
same_slice (rep.Bits u) = refl
same_slice rep.Hset = refl
same_slice (rep.Amap u) = refl
same_slice rep.Hmap = refl
same_slice rep.Heap = refl

slice_is : (x : Rep) → is_slice x ≡ true → x ≡ rep.Slice
slice_is rep.Slice e = refl
slice_is _ e = absurd (let o : ⊥ = cc e in o)

-- the words of these variables
abbrev pub words_at : (ℕ → ℕ → ℕ) → List ℕ → List (List ℕ)
words_at V [] = []
words_at V (k ∷ ks) = (V k 0 ∷ V k 1 ∷ V k 2 ∷ []) ∷ words_at V ks

abbrev All_below : ℕ → List ℕ → Type 0
All_below n [] = Unit {0}
All_below n (k ∷ ks) = (k < n) × All_below n ks

words_same : (n : ℕ) (V U : ℕ → ℕ → ℕ) → ((v j : ℕ) → v < n → U v j ≡ V v j) → (ks : List ℕ) → All_below n ks → words_at U ks ≡ words_at V ks
words_same n V U e [] b = refl
words_same n V U e (k ∷ ks) b =
    ap (λ z. (z ∷ U k 1 ∷ U k 2 ∷ []) ∷ words_at U ks) (e k 0 b.0) ∙ ap (λ z. (V k 0 ∷ z ∷ U k 2 ∷ []) ∷ words_at U ks) (e k 1 b.0) ∙ ap (λ z. (V k 0 ∷ V k 1 ∷ z ∷ []) ∷ words_at U ks) (e k 2 b.0) ∙
    ap (λ z. (V k 0 ∷ V k 1 ∷ V k 2 ∷ []) ∷ z) (words_same n V U e ks b.1)

below_more : (n m : ℕ) → n ≤ m → (ks : List ℕ) → All_below n ks → All_below m ks
below_more n m le [] b = tt
below_more n m le (k ∷ ks) b = (omega (arith, le, b.0), below_more n m le ks b.1)

-- what is owed are parameters
owed_below : (k : ℕ) (ys : List InParam) → All_below (k + length ys) (owed k ys)
owed_below k [] = tt
owed_below k (y ∷ ys) = by (is_slice y.rep && not y.kept) (below_more (suc k + length ys) (k + length (y ∷ ys)) (up k (length ys)) (owed (suc k) ys) (owed_below (suc k) ys))
  where
    up : (a b : ℕ) → suc a + b ≤ a + suc b
    up a b = omega arith

    first : (a b : ℕ) → a < a + suc b
    first a b = omega arith

    by : (c : Bool) → All_below (k + length (y ∷ ys)) (owed (suc k) ys) → All_below (k + length (y ∷ ys)) (cond c (k ∷ owed (suc k) ys) (owed (suc k) ys))
    by true b = (first k (length ys), b)
    by false b = b

grow_agree : (D : Dyn) (k : ℕ) (ys : List InParam) (ts : List Thing) → Agree k D (grow D (numbered ys k) ts)
grow_agree D k [] ts = agree_same k D
grow_agree D k (y ∷ ys) [] = agree_same k D
grow_agree D k (y ∷ ys) (t ∷ ts) = agree_then k (suc k) D (bind_dyn D k t) (grow (bind_dyn D k t) (numbered ys (suc k)) ts) (up k) (bind_agree D k t k (le_same k)) (grow_agree (bind_dyn D k t) (suc k) ys ts)
  where
    up : (a : ℕ) → a ≤ suc a
    up a = omega arith

abbrev grown : Dyn → ℕ → Thing → List InParam → List Thing → Dyn
grown D k t ys ts = grow (bind_dyn D k t) (numbered ys (suc k)) ts

-- they stand for the slices that are taken over
owed_words : (D : Dyn) (k : ℕ) (ys : List InParam) (ts : List Thing) → AllThings (reps_of ys) ts → words_at (grow D (numbered ys k) ts).words (owed k ys) ≡ taken_slices ys ts
owed_words D k [] [] a = refl
owed_words D k [] (t ∷ ts) a = absurd a
owed_words D k (y ∷ ys) [] a = absurd a
owed_words D k (y ∷ ys) (t ∷ ts) a = by (is_slice y.rep && not y.kept) refl (owed_words (bind_dyn D k t) (suc k) ys ts a.1)
  where
    own : is_slice y.rep ≡ true → ((grown D k t ys ts).words k 0 ∷ (grown D k t ys ts).words k 1 ∷ (grown D k t ys ts).words k 2 ∷ []) ≡ t.words
    own c =
        let g = grow_agree (bind_dyn D k t) (suc k) ys ts in
        let lt : k < suc k = omega arith in
        ap (λ z. z ∷ (grown D k t ys ts).words k 1 ∷ (grown D k t ys ts).words k 2 ∷ []) (g.words k 0 lt) ∙ ap (λ z. (bind_dyn D k t).words k 0 ∷ z ∷ (grown D k t ys ts).words k 2 ∷ []) (g.words k 1 lt) ∙ ap (λ z. (bind_dyn D k t).words k 0 ∷ (bind_dyn D k t).words k 1 ∷ z ∷ []) (g.words k 2 lt) ∙
        fresh_is D k (slice_of k) t (subst (λ z. Represents z t.value t.words t.piece) (slice_is y.rep c) a.0)

    by : (c : Bool) → (is_slice y.rep && not y.kept) ≡ c → words_at (grown D k t ys ts).words (owed (suc k) ys) ≡ taken_slices ys ts → words_at (grown D k t ys ts).words (cond (is_slice y.rep && not y.kept) (k ∷ owed (suc k) ys) (owed (suc k) ys)) ≡ cond (is_slice y.rep && not y.kept) (t.words ∷ taken_slices ys ts) (taken_slices ys ts)
    by true q e =
        ap (words_at (grown D k t ys ts).words) (cond-true (is_slice y.rep && not y.kept) (k ∷ owed (suc k) ys) (owed (suc k) ys) q) ∙
        ap (λ z. z ∷ words_at (grown D k t ys ts).words (owed (suc k) ys)) (own (and_parts (is_slice y.rep) (not y.kept) q).0) ∙ ap (λ z. t.words ∷ z) e ∙
        sym (cond-true (is_slice y.rep && not y.kept) (t.words ∷ taken_slices ys ts) (taken_slices ys ts) q)
    by false q e =
        ap (words_at (grown D k t ys ts).words) (cond-false (is_slice y.rep && not y.kept) (k ∷ owed (suc k) ys) (owed (suc k) ys) q) ∙ e ∙
        sym (cond-false (is_slice y.rep && not y.kept) (t.words ∷ taken_slices ys ts) (taken_slices ys ts) q)

owed_count : (k : ℕ) (ys : List InParam) → length (owed k ys) ≡ slices_taken ys
owed_count k [] = refl
owed_count k (y ∷ ys) = by (is_slice y.rep && not y.kept) (types.is_slice y.rep && not y.kept) (ap (λ z. z && not y.kept) (sym (same_slice y.rep))) (owed_count (suc k) ys)
  where
    by : (c d : Bool) → c ≡ d → length (owed (suc k) ys) ≡ slices_taken ys → length (cond c (k ∷ owed (suc k) ys) (owed (suc k) ys)) ≡ cond d (suc (slices_taken ys)) (slices_taken ys)
    by true true q e = ap suc e
    by true false q e = absurd (let o : ⊥ = cc q in o)
    by false true q e = absurd (let o : ⊥ = cc q in o)
    by false false q e = e

-- ---- results

none_given : (ys : List Rep) (ts : List Thing) → slices_given ys ≡ 0 → given_slices ys ts ≡ []
none_given [] ts e = refl
none_given (y ∷ ys) [] e = refl
none_given (y ∷ ys) (t ∷ ts) e = by (types.is_slice y) (is_slice y) (same_slice y) (none_given ys ts) e
  where
    by : (c d : Bool) → c ≡ d → (slices_given ys ≡ 0 → given_slices ys ts ≡ []) → cond c (suc (slices_given ys)) (slices_given ys) ≡ 0 → cond d (t.words ∷ given_slices ys ts) (given_slices ys ts) ≡ []
    by true d q ih e = absurd (let o : ⊥ = omega (arith, e) in o)
    by false true q ih e = absurd (let o : ⊥ = cc q in o)
    by false false q ih e = ih e

shown_slices : (V : ℕ → ℕ → ℕ) (ks : List ℕ) (ys : List Rep) (zs : List Shape) (ts : List Thing) → slices_are ks ys zs ≡ None → shape_reps zs ≡ ys → All_rel zs ts → Tagged V zs ts → slices_given ys ≡ length ks → given_slices ys ts ≡ words_at V ks
shown_slices V [] ys zs ts e s r g n = none_given ys ts n
shown_slices V (k ∷ ks) [] zs ts e s r g n = absurd (let o : ⊥ = omega (arith, n) in o)
shown_slices V (k ∷ ks) (y ∷ ys) [] ts e s r g n = absurd (let o : ⊥ = cc s in o)
shown_slices V (k ∷ ks) (y ∷ ys) (z ∷ zs) [] e s r g n = absurd r
shown_slices V (k ∷ ks) (y ∷ ys) (z ∷ zs) (t ∷ ts) e s r g n =
    by (is_slice y) refl (is_slice z.rep && nat_eq z.tag k) refl (λ ks'. shown_slices V ks' ys zs ts) e n
  where
    rest : shape_reps zs ≡ ys
    rest = cc s

    by : (c : Bool) → is_slice y ≡ c → (d : Bool) → (is_slice z.rep && nat_eq z.tag k) ≡ d →
        ((ks' : List ℕ) → slices_are ks' ys zs ≡ None → shape_reps zs ≡ ys → All_rel zs ts → Tagged V zs ts → slices_given ys ≡ length ks' → given_slices ys ts ≡ words_at V ks') →
        slices_are (k ∷ ks) (y ∷ ys) (z ∷ zs) ≡ None → slices_given (y ∷ ys) ≡ length (k ∷ ks) → given_slices (y ∷ ys) (t ∷ ts) ≡ words_at V (k ∷ ks)
    by true ec true ed ih e n =
        let w = and_parts (is_slice z.rep) (nat_eq z.tag k) ed in
        let e1 : slices_are ks ys zs ≡ None =
        sym (cond-true (is_slice y) (cond (is_slice z.rep && nat_eq z.tag k) (slices_are ks ys zs) (Some k)) (slices_are (k ∷ ks) ys zs) ec ∙ cond-true (is_slice z.rep && nat_eq z.tag k) (slices_are ks ys zs) (Some k) ed) ∙ e in
        let n1 : suc (slices_given ys) ≡ suc (length ks) = sym (cond-true (types.is_slice y) (suc (slices_given ys)) (slices_given ys) (same_slice y ∙ ec)) ∙ n in
        cond-true (is_slice y) (t.words ∷ given_slices ys ts) (given_slices ys ts) ec ∙
        ap (λ x. x ∷ given_slices ys ts) (subst (λ q. t.words ≡ V q 0 ∷ V q 1 ∷ V q 2 ∷ []) (eqb-true z.tag k w.1) (g.0 w.0)) ∙
        ap (λ x. (V k 0 ∷ V k 1 ∷ V k 2 ∷ []) ∷ x) (ih ks e1 rest r.1 g.1 (omega (arith, n1)))
    by true ec false ed ih e n =
        absurd
        (let q = sym (cond-true (is_slice y) (cond (is_slice z.rep && nat_eq z.tag k) (slices_are ks ys zs) (Some k)) (slices_are (k ∷ ks) ys zs) ec ∙ cond-false (is_slice z.rep && nat_eq z.tag k) (slices_are ks ys zs) (Some k) ed) ∙ e in let o : ⊥ = cc q in o)
    by false ec d ed ih e n =
        cond-false (is_slice y) (t.words ∷ given_slices ys ts) (given_slices ys ts) ec ∙
        ih (k ∷ ks) (sym (cond-false (is_slice y) (cond (is_slice z.rep && nat_eq z.tag k) (slices_are ks ys zs) (Some k)) (slices_are (k ∷ ks) ys zs) ec) ∙ e) rest r.1 g.1
        (sym (cond-false (types.is_slice y) (suc (slices_given ys)) (slices_given ys) (same_slice y ∙ ec)) ∙ n)

-- the slices that were taken over are given back
pub slices_back : (D : Dyn) (k : ℕ) (params : List InParam) (ts : List Thing) → AllThings (reps_of params) ts → (now : Dyn) → Agree (k + length params) (grow D (numbered params k) ts) now → (shown : List Rep) (zs : List Shape) (outs : List Thing) → slices_are (owed k params) shown zs ≡ None → shape_reps zs ≡ shown → All_rel zs outs → Tagged now.words zs outs → slices_taken params ≡ slices_given shown → given_slices shown outs ≡ taken_slices params ts
slices_back D k params ts a now ag shown zs outs e s r g n =
    shown_slices now.words (owed k params) shown zs outs e s r g (sym n ∙ sym (owed_count k params)) ∙
    words_same (k + length params) (grow D (numbered params k) ts).words now.words ag.words (owed k params) (owed_below k params) ∙
    owed_words D k params ts a
