-- Several variables are bound.
use Rattle.std.proofs.Common.{◌≡◌, ℕ, zero, suc, ◌+◌, ◌<◌, ◌≤◌, true, List, [], ◌∷◌, ◌++◌, length, map, refl, sym, ap, ◌∙◌, subst, arith, leb, leb-true}
use Rattle.std.proofs.lemmas.Bool.{and_parts}
use Rattle.std.specs.Prelude.{slice_index}
use Rattle.nres_meaning.specs.FlatMeaning.{puts}
use Rattle.target_code.specs.Reps.{width}
use Rattle.target_meaning.specs.Piece.{Piece, plus}
use Rattle.target_meaning.proofs.Shares.{plus-comm, plus-assoc}
use Rattle.layout_facts.proofs.Facts.{width_is}
use Rattle.relations.specs.Represents.{Represents}
use Rattle.row_laws.specs.Rows.{Thing, values_of, words_of, pieces_of}
use Rattle.rule_check.specs.Context.{Shape}
use Rattle.start_ends.specs.Things.{Wholes}
use Rattle.fits.specs.Places.{Token, Entry, State, tokens_from, fresh, all_fresh, old_shape, old_shapes, in_order, bind_entry, bind_all}
use Rattle.fits_sound.specs.Meant.{All_rel, Dyn, word, Olds, Agree, Ctx, Tagged}
use Rattle.fits_sound.proofs.Basic.{put_same, agree_same, agree_then, olds_more, words_agree, bind_dyn, bind_agree, bind_ctx, old_shape_more, old_shapes_more, tag_agree, tagged_agree}

abbrev pub grow : Dyn → List ℕ → List Thing → Dyn
grow D [] ts = D
grow D (v ∷ vs) [] = D
grow D (v ∷ vs) (t ∷ ts) = grow (bind_dyn D v t) vs ts

pub grow_values : (D : Dyn) (vs : List ℕ) (ts : List Thing) → length vs ≡ length ts → (grow D vs ts).value ≡ puts vs (values_of ts) D.value
grow_values D [] ts e = refl
grow_values D (v ∷ vs) [] e = absurd (let z : ⊥ = omega (arith, e) in z)
grow_values D (v ∷ vs) (t ∷ ts) e = grow_values (bind_dyn D v t) vs ts (omega (arith, e))

pub same_count : (n : ℕ) (vs : List ℕ) (zs : List Shape) (ts : List Thing) → in_order n vs zs ≡ true → All_rel zs ts → length vs ≡ length ts
same_count n [] [] [] o r = refl
same_count n [] [] (t ∷ ts) o r = absurd r
same_count n [] (z ∷ zs) ts o r = absurd (let y : ⊥ = cc o in y)
same_count n (v ∷ vs) [] ts o r = absurd (let y : ⊥ = cc o in y)
same_count n (v ∷ vs) (z ∷ zs) [] o r = absurd r
same_count n (v ∷ vs) (z ∷ zs) (t ∷ ts) o r = let w = and_parts (leb n v) (in_order (suc v) vs zs) o in ap suc (same_count (suc v) vs zs ts w.1 r.1)

pub map-append : (f : Token → ℕ) (xs ys : List Token) → map f (xs ++ ys) ≡ map f xs ++ map f ys
map-append f [] ys = refl
map-append f (x ∷ xs) ys = ap (λ z. f x ∷ z) (map-append f xs ys)

pub olds-append : (n : ℕ) (xs ys : List Token) → Olds n xs → Olds n ys → Olds n (xs ++ ys)
olds-append n [] ys a b = b
olds-append n (x ∷ xs) ys a b = (a.0, olds-append n xs ys a.1 b)

pub tokens_old : (v j n : ℕ) → Olds (suc v) (tokens_from v j n)
tokens_old v j zero = tt
tokens_old v j (suc n) = (omega arith, tokens_old v (suc j) n)

pub fresh_old : (v : ℕ) (z : Shape) → Olds (suc v) (fresh v z)
fresh_old v z = tokens_old v 0 (width z.rep)

-- words that stand one after the other
tokens_are : (D : Dyn) (v j : ℕ) (ws : List ℕ) → ((i : ℕ) → i < length ws → D.words v (j + i) ≡ slice_index ws i) → map (word D) (tokens_from v j (length ws)) ≡ ws
tokens_are D v j [] e = refl
tokens_are D v j (w ∷ ws) e =
    ap (λ y. y ∷ map (word D) (tokens_from v (suc j) (length ws))) (subst (λ y. D.words v y ≡ w) (first j) (e 0 (omega arith))) ∙
    ap (λ y. w ∷ y) (tokens_are D v (suc j) ws (λ i lt. subst (λ y. D.words v y ≡ slice_index ws i) (next j i) (e (suc i) (omega (arith, lt)))))
  where
    first : (j : ℕ) → j + 0 ≡ j
    first j = omega arith

    next : (j i : ℕ) → j + suc i ≡ suc j + i
    next j i = omega arith

pub fresh_is : (D : Dyn) (v : ℕ) (z : Shape) (t : Thing) → Represents z.rep t.value t.words t.piece → map (word (bind_dyn D v t)) (fresh v z) ≡ t.words
fresh_is D v z t h =
    subst (λ n. map (word (bind_dyn D v t)) (tokens_from v 0 n) ≡ t.words) (width_is z.rep t.value t.words t.piece h)
    (tokens_are (bind_dyn D v t) v 0 t.words (λ i lt. ap (λ y. (bind_dyn D v t).words v y) (none_more i) ∙ ap (λ f. f i) (put_same D.words v (slice_index t.words))))
  where
    none_more : (i : ℕ) → 0 + i ≡ i
    none_more i = omega arith

pub record Bound_to (f mark : ℕ) (base : List Entry) (D0 : Dyn) (s : State) (D : Dyn) (p : Piece) (outs : List ℕ) (zs : List Shape) (ts : List Thing) : Type 0 where
  pub ctx : Ctx f mark base D0 (bind_all s outs zs) (grow D outs ts) (plus (pieces_of ts) p)
  pub agree : Agree s.next D (grow D outs ts)
  pub later : s.next ≤ (bind_all s outs zs).next
  pub words : map (word (grow D outs ts)) (all_fresh outs zs) ≡ words_of ts
  pub old : Olds (bind_all s outs zs).next (all_fresh outs zs)
  pub toks : (bind_all s outs zs).toks ≡ s.toks
  pub defs : (bind_all s outs zs).defs ≡ s.defs

pub around : (a b c : Piece) → plus b (plus a c) ≡ plus (plus a b) c
around a b c = sym (plus-assoc b a c) ∙ ap (λ y. plus y c) (plus-comm b a)

pub bound : (f mark : ℕ) (base : List Entry) (D0 : Dyn) (s : State) (D : Dyn) (p : Piece) (outs : List ℕ) (zs : List Shape) (ts : List Thing) → Ctx f mark base D0 s D p → in_order s.next outs zs ≡ true → All_rel zs ts → old_shapes s.next zs ≡ true → Tagged D.words zs ts → Wholes ts → Bound_to f mark base D0 s D p outs zs ts
bound f mark base D0 s D p [] [] [] c o r og tg x = record { ctx = c; agree = agree_same s.next D; later = omega arith; words = refl; old = tt; toks = refl; defs = refl }
bound f mark base D0 s D p [] [] (t ∷ ts) c o r og tg x = absurd r
bound f mark base D0 s D p [] (q ∷ qs) ts c o r og tg x = absurd (let y : ⊥ = cc o in y)
bound f mark base D0 s D p (v ∷ vs) [] ts c o r og tg x = absurd (let y : ⊥ = cc o in y)
bound f mark base D0 s D p (v ∷ vs) (q ∷ qs) [] c o r og tg x = absurd r
bound f mark base D0 s D p (v ∷ vs) (q ∷ qs) (t ∷ ts) c o r og tg x =
    let w = and_parts (leb s.next v) (in_order (suc v) vs qs) o in
    let le : s.next ≤ v = leb-true s.next v w.0 in
    let D1 = bind_dyn D v t in
    let oo = and_parts (old_shape s.next q) (old_shapes s.next qs) og in
    let up : s.next ≤ suc v = omega (arith, le) in
    let ag = bind_agree D v t s.next le in
    let one = bind_ctx f mark base D0 s D p v q t (fresh v q) c le r.0 (tag_agree s.next D D1 ag q t.words oo.0 tg.0, old_shape_more s.next (suc v) q up oo.0) x.0 (fresh_old v q) (fresh_is D v q t r.0) in
    let b = bound f mark base D0 (bind_entry s v q (fresh v q)) D1 (plus t.piece p) vs qs ts one w.1 r.1 (old_shapes_more s.next (suc v) qs up oo.1) (tagged_agree s.next D D1 ag qs ts oo.1 tg.1) x.1 in
    record {
      ctx = subst (λ y. Ctx f mark base D0 (bind_all (bind_entry s v q (fresh v q)) vs qs) (grow D1 vs ts) y) (around t.piece (pieces_of ts) p) b.ctx;
      agree = agree_then s.next (suc v) D D1 (grow D1 vs ts) (omega (arith, le)) (bind_agree D v t s.next le) b.agree;
      later = omega (arith, le, b.later);
      words =
          map-append (word (grow D1 vs ts)) (fresh v q) (all_fresh vs qs) ∙
          ap (λ y. y ++ map (word (grow D1 vs ts)) (all_fresh vs qs)) (words_agree (suc v) D1 (grow D1 vs ts) b.agree (fresh v q) (fresh_old v q) ∙ fresh_is D v q t r.0) ∙
          ap (λ y. t.words ++ y) b.words;
      old = olds-append (bind_all (bind_entry s v q (fresh v q)) vs qs).next (fresh v q) (all_fresh vs qs) (olds_more (suc v) (bind_all (bind_entry s v q (fresh v q)) vs qs).next (fresh v q) b.later (fresh_old v q)) b.old;
      toks = b.toks;
      defs = b.defs;
    }
