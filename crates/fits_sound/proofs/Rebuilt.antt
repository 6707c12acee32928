-- A call's results in the caller: a slice that comes back is its list again.
use Rattle.std.proofs.Common.{◌≡◌, ℕ, suc, Bool, true, false, not, cond, ◌&&◌, List, [], ◌∷◌, ◌++◌, map, length, refl, sym, ap, ◌∙◌, subst, leb, inl, inr}
use Rattle.std.proofs.lemmas.Bool.{and_parts, cond-true, cond-false, true≢false}
use Rattle.target_code.specs.declared.tree.InParam.{InParam}
use Rattle.target_code.specs.declared.tree.Rep.{Rep}
use Rattle.target_code.specs.declared.tree.Rep.TheVariants as rep
use Rattle.target_meaning.specs.Piece.{Piece, none, plus, IsAllWhole}
use Rattle.target_meaning.proofs.Shares.{plus-comm, plus-assoc}
use Rattle.relations.specs.Represents.{Represents}
use Rattle.row_laws.specs.Rows.{Thing, values_of, words_of, pieces_of}
use Rattle.rule_check.specs.Context.{Shape, is_slice}
use Rattle.rule_check.specs.Steps.{bare, call_shapes, next_list, other_lists}
use Rattle.start_ends.specs.Things.{AllThings, Given, Wholes, kepts_of}
use Rattle.fits.specs.Places.{Token, Info, fresh, in_order, info_shapes}
use Rattle.fits.specs.Follow.{list_words, next_words, other_words, result_words}
use Rattle.fits_sound.specs.Called.{given_slices, taken_slices}
use Rattle.fits_sound.specs.Meant.{All_rel, Dyn, Olds, Tag, Tagged, word}
use Rattle.fits_sound.proofs.Seen.{All_seen, Seen, plus_if, seen, taken_names}
use Rattle.fits_sound.proofs.Take.{Each}
use Rattle.fits_sound.proofs.Worded.{All_worded}

-- the shapes of the lists that stand for slices
abbrev pub list_shapes : List InParam → List Info → List Shape
list_shapes [] is = []
list_shapes (y ∷ ys) [] = []
list_shapes (y ∷ ys) (i ∷ is) = cond (is_slice y.rep && not y.kept) (i.shape ∷ list_shapes ys is) (list_shapes ys is)

-- a list that a call takes over as a slice: what it is, and how it comes back
pub record Lent (D : Dyn) (n : ℕ) : Type 0 where
  pub shape : Shape
  pub tokens : List Token
  pub words : List ℕ
  pub name : Piece
  pub join : (u : Thing) → Represents rep.Slice u.value u.words u.piece → u.words ≡ words → Represents shape.rep u.value words (plus name u.piece) × (IsAllWhole u.piece → IsAllWhole (plus name u.piece))
  pub tag : Tag D.words shape words
  pub tokens_old : Olds n tokens
  pub tokens_are : map (word D) tokens ≡ words

module _ (D : Dyn) (n : ℕ) where
  abbrev pub lent_shapes : List (Lent D n) → List Shape
  lent_shapes [] = []
  lent_shapes (l ∷ ls) = l.shape ∷ lent_shapes ls

  abbrev pub lent_tokens : List (Lent D n) → List (List Token)
  lent_tokens [] = []
  lent_tokens (l ∷ ls) = l.tokens ∷ lent_tokens ls

  abbrev pub lent_words : List (Lent D n) → List (List ℕ)
  lent_words [] = []
  lent_words (l ∷ ls) = l.words ∷ lent_words ls

  abbrev pub lent_names : List (Lent D n) → Piece
  lent_names [] = none
  lent_names (l ∷ ls) = plus l.name (lent_names ls)

  -- those of a call
  pub record All_lent (is : List Info) (ys : List InParam) (ts : List Thing) (a : All_seen (info_shapes is) ys ts) : Type 0 where
    pub lents : List (Lent D n)
    pub shapes : lent_shapes lents ≡ list_shapes ys is
    pub tokens : lent_tokens lents ≡ list_words ys is
    pub words : lent_words lents ≡ taken_slices ys (seen (info_shapes is) ys ts a)
    pub names : lent_names lents ≡ taken_names (info_shapes is) ys ts a

  given_first : (f : ℕ) (k : Bool) (ks : List Bool) (t : Thing) (ts : List Thing) → k ≡ false → Given f (k ∷ ks) (t ∷ ts) → IsAllWhole t.piece
  given_first f true ks t ts e g = absurd (true≢false e)
  given_first f false ks t ts e g = g.0

  given_rest : (f : ℕ) (k : Bool) (ks : List Bool) (t : Thing) (ts : List Thing) → Given f (k ∷ ks) (t ∷ ts) → Given f ks ts
  given_rest f true ks t ts g = g.2
  given_rest f false ks t ts g = g.1

  is_false : (b : Bool) → not b ≡ true → b ≡ false
  is_false true e = absurd (true≢false (sym e))
  is_false false e = refl

  slice_is : (x : Rep) → is_slice x ≡ true → x ≡ rep.Slice
  slice_is rep.Slice e = refl
  slice_is _ e = absurd (true≢false (sym e))

  -- one that is taken over as a slice
  abbrev one_lent : (i : Info) (y : InParam) (t : Thing) → Seen i.shape.rep y.rep t → is_slice y.rep ≡ true → IsAllWhole t.piece → Tag D.words i.shape t.words → t.words ≡ map (word D) i.words → Olds n i.words → Lent D n
  one_lent i y t s c w tg e o = record {
    shape = i.shape;
    tokens = i.words;
    words = t.words;
    name = s.name;
    join = λ u h q. let b = s.back c u (subst (λ z. Represents z u.value u.words u.piece) (sym (slice_is y.rep c)) h) q in (b.0, b.1 w);
    tag = tg;
    tokens_old = o;
    tokens_are = sym e;
  }

  -- a name that stays behind is that of a slice
  name_if : (y : InParam) (p q : Piece) → (is_slice y.rep ≡ false → p ≡ none) → (is_slice y.rep && not y.kept) ≡ false → q ≡ plus_if (not y.kept) p q
  name_if y p q pl e = by y.kept e
    where
      by : (k : Bool) → (is_slice y.rep && not k) ≡ false → q ≡ plus_if (not k) p q
      by true e = refl
      by false e = sym (ap (λ z. plus z q) (pl (no (is_slice y.rep) e)))
        where
          no : (c : Bool) → (c && true) ≡ false → c ≡ false
          no true e = absurd (true≢false e)
          no false e = refl

  pub all_lent : (f : ℕ) (is : List Info) (ys : List InParam) (ts : List Thing) (a : All_seen (info_shapes is) ys ts) → Each D n is ts → Given f (kepts_of ys) ts → All_lent is ys ts a
  all_lent f [] [] [] a e g = record { lents = []; shapes = refl; tokens = refl; words = refl; names = refl }
  all_lent f [] [] (t ∷ ts) a e g = absurd a
  all_lent f [] (y ∷ ys) ts a e g = absurd a
  all_lent f (i ∷ is) [] ts a e g = absurd a
  all_lent f (i ∷ is) (y ∷ ys) [] a e g = absurd a
  all_lent f (i ∷ is) (y ∷ ys) (t ∷ ts) a e g = by (is_slice y.rep && not y.kept) refl (all_lent f is ys ts a.1 e.3 (given_rest f y.kept (kepts_of ys) t ts g))
    where
      by : (c : Bool) → (is_slice y.rep && not y.kept) ≡ c → All_lent is ys ts a.1 → All_lent (i ∷ is) (y ∷ ys) (t ∷ ts) a
      by true q r =
          let w = and_parts (is_slice y.rep) (not y.kept) q in
          let l = one_lent i y t a.0 w.0 (given_first f y.kept (kepts_of ys) t ts (is_false y.kept w.1) g) e.0.1.0 e.1 e.2 in
          record {
            lents = l ∷ r.lents;
            shapes = ap (λ z. i.shape ∷ z) r.shapes ∙ sym (cond-true (is_slice y.rep && not y.kept) (i.shape ∷ list_shapes ys is) (list_shapes ys is) q);
            tokens = ap (λ z. i.words ∷ z) r.tokens ∙ sym (cond-true (is_slice y.rep && not y.kept) (i.words ∷ list_words ys is) (list_words ys is) q);
            words = ap (λ z. t.words ∷ z) r.words ∙ sym (cond-true (is_slice y.rep && not y.kept) (t.words ∷ taken_slices ys (seen (info_shapes is) ys ts a.1)) (taken_slices ys (seen (info_shapes is) ys ts a.1)) q);
            names = ap (plus a.0.name) r.names ∙ ap (λ k. plus_if k a.0.name (taken_names (info_shapes is) ys ts a.1)) (sym w.1);
          }
      by false q r =
          record {
            lents = r.lents;
            shapes = r.shapes ∙ sym (cond-false (is_slice y.rep && not y.kept) (i.shape ∷ list_shapes ys is) (list_shapes ys is) q);
            tokens = r.tokens ∙ sym (cond-false (is_slice y.rep && not y.kept) (i.words ∷ list_words ys is) (list_words ys is) q);
            words = r.words ∙ sym (cond-false (is_slice y.rep && not y.kept) (t.words ∷ taken_slices ys (seen (info_shapes is) ys ts a.1)) (taken_slices ys (seen (info_shapes is) ys ts a.1)) q);
            names = r.names ∙ name_if y a.0.name (taken_names (info_shapes is) ys ts a.1) a.0.plain q;
          }

  -- ---- results

  pub record Rebuilt (ys : List Rep) (ts : List Thing) (ls : List (Lent D n)) : Type 0 where
    pub outs : List Thing
    pub rel : All_rel (call_shapes ys (lent_shapes ls)) outs
    pub whole : Wholes outs
    pub tags : Tagged D.words (call_shapes ys (lent_shapes ls)) outs
    pub values : values_of outs ≡ values_of ts
    pub words : words_of outs ≡ words_of ts
    pub piece : pieces_of outs ≡ plus (lent_names ls) (pieces_of ts)
    pub worded : (vs : List ℕ) → All_worded D n vs (call_shapes ys (lent_shapes ls)) (result_words vs ys (lent_tokens ls)) outs

  middle : (a b c d : Piece) → plus (plus a b) (plus c d) ≡ plus (plus a c) (plus b d)
  middle a b c d = plus-assoc a b (plus c d) ∙ ap (plus a) (sym (plus-assoc b c d) ∙ ap (λ z. plus z d) (plus-comm b c) ∙ plus-assoc c b d) ∙ sym (plus-assoc a c (plus b d))

  later : (a b c : Piece) → plus a (plus b c) ≡ plus b (plus a c)
  later a b c = sym (plus-assoc a b c) ∙ ap (λ z. plus z c) (plus-comm a b) ∙ plus-assoc b a c

  -- a result that is no slice
  rebuilt_plain : (y : Rep) (ys : List Rep) (t : Thing) (ts : List Thing) (ls : List (Lent D n)) → is_slice y ≡ false → Represents y t.value t.words t.piece → IsAllWhole t.piece → Rebuilt ys ts ls → Rebuilt (y ∷ ys) (t ∷ ts) ls
  rebuilt_plain y ys t ts ls c h w r =
      let zs : call_shapes (y ∷ ys) (lent_shapes ls) ≡ bare y ∷ call_shapes ys (lent_shapes ls) = cond-false (is_slice y) _ (bare y ∷ call_shapes ys (lent_shapes ls)) c in
      record {
        outs = t ∷ r.outs;
        rel = subst (λ z. All_rel z (t ∷ r.outs)) (sym zs) (h, r.rel);
        whole = (w, r.whole);
        tags = subst (λ z. Tagged D.words z (t ∷ r.outs)) (sym zs) ((λ k. absurd (true≢false (sym k ∙ c))), r.tags);
        values = ap (λ z. t.value ∷ z) r.values;
        words = ap (λ z. t.words ++ z) r.words;
        piece = ap (plus t.piece) r.piece ∙ later t.piece (lent_names ls) (pieces_of ts);
        worded = λ vs. subst (λ z. All_worded D n vs z (result_words vs (y ∷ ys) (lent_tokens ls)) (t ∷ r.outs)) (sym zs) (at vs);
      }
    where
      at : (vs : List ℕ) → All_worded D n vs (bare y ∷ call_shapes ys (lent_shapes ls)) (result_words vs (y ∷ ys) (lent_tokens ls)) (t ∷ r.outs)
      at [] = tt
      at (v ∷ vs) =
          subst (λ z. All_worded D n (v ∷ vs) (bare y ∷ call_shapes ys (lent_shapes ls)) z (t ∷ r.outs)) (sym (cond-false (is_slice y) _ (fresh v (bare y) ∷ result_words vs ys (lent_tokens ls)) c))
          (inl refl, r.worded vs)

  -- a slice that comes back
  rebuilt_slice : (y : Rep) (ys : List Rep) (t : Thing) (ts : List Thing) (l : Lent D n) (ls : List (Lent D n)) → is_slice y ≡ true → Represents y t.value t.words t.piece → IsAllWhole t.piece → t.words ≡ l.words → Rebuilt ys ts ls → Rebuilt (y ∷ ys) (t ∷ ts) (l ∷ ls)
  rebuilt_slice y ys t ts l ls c h w e r =
      let zs : call_shapes (y ∷ ys) (lent_shapes (l ∷ ls)) ≡ l.shape ∷ call_shapes ys (lent_shapes ls) = cond-true (is_slice y) (l.shape ∷ call_shapes ys (lent_shapes ls)) _ c in
      let u : Thing = record { value = t.value; words = l.words; piece = plus l.name t.piece } in
      let b = l.join t (subst (λ z. Represents z t.value t.words t.piece) (slice_is y c) h) e in
      record {
        outs = u ∷ r.outs;
        rel = subst (λ z. All_rel z (u ∷ r.outs)) (sym zs) (b.0, r.rel);
        whole = (b.1 w, r.whole);
        tags = subst (λ z. Tagged D.words z (u ∷ r.outs)) (sym zs) (l.tag, r.tags);
        values = ap (λ z. t.value ∷ z) r.values;
        words = ap (λ z. z ++ words_of r.outs) (sym e) ∙ ap (λ z. t.words ++ z) r.words;
        piece = ap (plus (plus l.name t.piece)) r.piece ∙ middle l.name t.piece (lent_names ls) (pieces_of ts);
        worded = λ vs. subst (λ z. All_worded D n vs z (result_words vs (y ∷ ys) (lent_tokens (l ∷ ls))) (u ∷ r.outs)) (sym zs) (at u vs);
      }
    where
      at : (u : Thing) (vs : List ℕ) → All_worded D n vs (l.shape ∷ call_shapes ys (lent_shapes ls)) (result_words vs (y ∷ ys) (lent_tokens (l ∷ ls))) (record { value = t.value; words = l.words; piece = plus l.name t.piece } ∷ r.outs)
      at u [] = tt
      at u (v ∷ vs) =
          subst (λ z. All_worded D n (v ∷ vs) (l.shape ∷ call_shapes ys (lent_shapes ls)) z (record { value = t.value; words = l.words; piece = plus l.name t.piece } ∷ r.outs)) (sym (cond-true (is_slice y) (l.tokens ∷ result_words vs ys (lent_tokens ls)) _ c))
          (inr (l.tokens_old, l.tokens_are), r.worded vs)

  head_same : (x y : List ℕ) (xs ys : List (List ℕ)) → (x ∷ xs) ≡ y ∷ ys → (x ≡ y) × (xs ≡ ys)
  head_same x y xs ys e = (cc e, cc e)

  pub rebuilt : (ys : List Rep) (ts : List Thing) (ls : List (Lent D n)) → AllThings ys ts → Wholes ts → given_slices ys ts ≡ lent_words ls → Rebuilt ys ts ls
  rebuilt [] [] [] r w e = record { outs = []; rel = tt; whole = tt; tags = tt; values = refl; words = refl; piece = refl; worded = none_worded }
    where
      none_worded : (vs : List ℕ) → All_worded D n vs [] (result_words vs [] []) []
      none_worded [] = tt
      none_worded (v ∷ vs) = tt
  rebuilt [] [] (l ∷ ls) r w e = absurd (let o : ⊥ = cc e in o)
  rebuilt [] (t ∷ ts) ls r w e = absurd r
  rebuilt (y ∷ ys) [] ls r w e = absurd r
  rebuilt (y ∷ ys) (t ∷ ts) ls r w e = by (is_slice y) refl (λ ms z. rebuilt ys ts ms r.1 w.1 z) ls e
    where
      by : (c : Bool) → is_slice y ≡ c → ((ms : List (Lent D n)) → given_slices ys ts ≡ lent_words ms → Rebuilt ys ts ms) → (ls : List (Lent D n)) → given_slices (y ∷ ys) (t ∷ ts) ≡ lent_words ls → Rebuilt (y ∷ ys) (t ∷ ts) ls
      by false q ih ls e = rebuilt_plain y ys t ts ls q r.0 w.0 (ih ls (sym (cond-false (is_slice y) (t.words ∷ given_slices ys ts) (given_slices ys ts) q) ∙ e))
      by true q ih [] e = absurd (let z = sym (cond-true (is_slice y) (t.words ∷ given_slices ys ts) (given_slices ys ts) q) ∙ e in let o : ⊥ = cc z in o)
      by true q ih (l ∷ ls) e =
          let z = head_same t.words l.words (given_slices ys ts) (lent_words ls) (sym (cond-true (is_slice y) (t.words ∷ given_slices ys ts) (given_slices ys ts) q) ∙ e) in
          rebuilt_slice y ys t ts l ls q r.0 w.0 z.0 (ih ls z.1)

-- as many words as results
pub result_count : (n : ℕ) (vs : List ℕ) (ys : List Rep) (zs : List Shape) (ws : List (List Token)) → in_order n vs (call_shapes ys zs) ≡ true → length vs ≡ length (result_words vs ys ws)
result_count n [] ys zs ws o = refl
result_count n (v ∷ vs) [] zs ws o = absurd (let e : ⊥ = cc o in e)
result_count n (v ∷ vs) (y ∷ ys) zs ws o = by (is_slice y) (λ xs us. result_count (suc v) vs ys xs us) o
  where
    by : (c : Bool) → ((xs : List Shape) (us : List (List Token)) → in_order (suc v) vs (call_shapes ys xs) ≡ true → length vs ≡ length (result_words vs ys us)) → in_order n (v ∷ vs) (cond c (next_list zs ∷ call_shapes ys (other_lists zs)) (bare y ∷ call_shapes ys zs)) ≡ true → length (v ∷ vs) ≡ length (cond c (next_words ws ∷ result_words vs ys (other_words ws)) (fresh v (bare y) ∷ result_words vs ys ws))
    by true ih o = ap suc (ih (other_lists zs) (other_words ws) (and_parts (leb n v) (in_order (suc v) vs (call_shapes ys (other_lists zs))) o).1)
    by false ih o = ap suc (ih zs ws (and_parts (leb n v) (in_order (suc v) vs (call_shapes ys zs)) o).1)
