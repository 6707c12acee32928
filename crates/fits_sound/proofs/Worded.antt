-- Results that become variables: some of their own words, and some of the words of older variables.
use Rattle.std.proofs.Common.{◌≡◌, ℕ, suc, ◌≤◌, true, List, [], ◌∷◌, ◌++◌, map, length, refl, sym, ap, ◌∙◌, subst, arith, leb, leb-true, ◌⊎◌, inl, inr, ⊎_elim}
use Rattle.std.proofs.lemmas.Bool.{and_parts}
use Rattle.target_meaning.specs.Leaf.{put_all}
use Rattle.target_meaning.specs.Piece.{Piece, plus}
use Rattle.row_laws.specs.Rows.{Thing, words_of, pieces_of}
use Rattle.rule_check.specs.Context.{Shape}
use Rattle.start_ends.specs.Things.{Wholes}
use Rattle.fits.specs.Places.{Token, Entry, State, bind_entry, bind_words, fresh, in_order, old_shape, old_shapes, put_tokens, with_toks}
use Rattle.fits.specs.Follow.{all_below, joined_words}
use Rattle.fits_sound.specs.Meant.{Agree, All_rel, Ctx, Dyn, Inv, Known, Olds, Tagged, word}
use Rattle.fits_sound.proofs.Basic.{agree_same, agree_then, bind_agree, bind_ctx, bind_dyn, known_agree, known_all, le_then, length-put_all, old_shape_more, old_shapes_more, olds_more, tag_agree, tagged_agree, words_agree}
use Rattle.fits_sound.proofs.Bound.{around, fresh_is, fresh_old, grow, map-append, olds-append}
use Rattle.fits_sound.proofs.Join.{le_same}
use Rattle.fits_sound.proofs.Sound.{retoken}

-- the words of a result: its own, or old ones that stand for it
abbrev pub Worded_by : Dyn → ℕ → ℕ → Shape → List Token → Thing → Type 0
Worded_by D n v z w t = (w ≡ fresh v z) ⊎ (Olds n w × (map (word D) w ≡ t.words))

abbrev pub All_worded : Dyn → ℕ → List ℕ → List Shape → List (List Token) → List Thing → Type 0
All_worded D n [] zs ws ts = Unit {0}
All_worded D n (v ∷ vs) [] ws ts = Unit {0}
All_worded D n (v ∷ vs) (z ∷ zs) [] ts = ⊥
All_worded D n (v ∷ vs) (z ∷ zs) (w ∷ ws) [] = ⊥
All_worded D n (v ∷ vs) (z ∷ zs) (w ∷ ws) (t ∷ ts) = Worded_by D n v z w t × All_worded D n vs zs ws ts

worded_more : (n m : ℕ) (D D' : Dyn) → Agree n D D' → n ≤ m → (vs : List ℕ) (zs : List Shape) (ws : List (List Token)) (ts : List Thing) → All_worded D n vs zs ws ts → All_worded D' m vs zs ws ts
worded_more n m D D' a le [] zs ws ts x = tt
worded_more n m D D' a le (v ∷ vs) [] ws ts x = tt
worded_more n m D D' a le (v ∷ vs) (z ∷ zs) [] ts x = absurd x
worded_more n m D D' a le (v ∷ vs) (z ∷ zs) (w ∷ ws) [] x = absurd x
worded_more n m D D' a le (v ∷ vs) (z ∷ zs) (w ∷ ws) (t ∷ ts) x =
    (⊎_elim (λ e. inl e) (λ k. inr (olds_more n m w le k.0, words_agree n D D' a w k.0 ∙ k.1)) x.0, worded_more n m D D' a le vs zs ws ts x.1)

pub record Worded (f mark : ℕ) (base : List Entry) (D0 : Dyn) (s : State) (D : Dyn) (p : Piece) (outs : List ℕ) (zs : List Shape) (ws : List (List Token)) (ts : List Thing) : Type 0 where
  pub ctx : Ctx f mark base D0 (bind_words s outs zs ws) (grow D outs ts) (plus (pieces_of ts) p)
  pub agree : Agree s.next D (grow D outs ts)
  pub later : s.next ≤ (bind_words s outs zs ws).next
  pub words : map (word (grow D outs ts)) (joined_words ws) ≡ words_of ts
  pub old : Olds (bind_words s outs zs ws).next (joined_words ws)
  pub toks : (bind_words s outs zs ws).toks ≡ s.toks
  pub defs : (bind_words s outs zs ws).defs ≡ s.defs

up : (a b : ℕ) → a ≤ b → a ≤ suc b
up a b le = omega (arith, le)

pub worded : (f mark : ℕ) (base : List Entry) (D0 : Dyn) (s : State) (D : Dyn) (p : Piece) (outs : List ℕ) (zs : List Shape) (ws : List (List Token)) (ts : List Thing) → Ctx f mark base D0 s D p → in_order s.next outs zs ≡ true → All_rel zs ts → old_shapes s.next zs ≡ true → Tagged D.words zs ts → (length outs ≡ length ws) → All_worded D s.next outs zs ws ts → Wholes ts → Worded f mark base D0 s D p outs zs ws ts
worded f mark base D0 s D p [] [] [] [] c o r og tg n a x = record { ctx = c; agree = agree_same s.next D; later = le_same s.next; words = refl; old = tt; toks = refl; defs = refl }
worded f mark base D0 s D p [] [] [] (t ∷ ts) c o r og tg n a x = absurd r
worded f mark base D0 s D p [] [] (w ∷ ws) ts c o r og tg n a x = absurd (let y : ⊥ = omega (arith, n) in y)
worded f mark base D0 s D p [] (z ∷ zs) ws ts c o r og tg n a x = absurd (let y : ⊥ = cc o in y)
worded f mark base D0 s D p (v ∷ vs) [] ws ts c o r og tg n a x = absurd (let y : ⊥ = cc o in y)
worded f mark base D0 s D p (v ∷ vs) (z ∷ zs) [] ts c o r og tg n a x = absurd a
worded f mark base D0 s D p (v ∷ vs) (z ∷ zs) (w ∷ ws) [] c o r og tg n a x = absurd r
worded f mark base D0 s D p (v ∷ vs) (z ∷ zs) (w ∷ ws) (t ∷ ts) c o r og tg n a x =
    let q = and_parts (leb s.next v) (in_order (suc v) vs zs) o in
    let le : s.next ≤ v = leb-true s.next v q.0 in
    let D1 = bind_dyn D v t in
    let oo = and_parts (old_shape s.next z) (old_shapes s.next zs) og in
    let ag = bind_agree D v t s.next le in
    let old : Olds (suc v) w = ⊎_elim (λ e. subst (Olds (suc v)) (sym e) (fresh_old v z)) (λ k. olds_more s.next (suc v) w (up s.next v le) k.0) a.0 in
    let is : map (word D1) w ≡ t.words = ⊎_elim (λ e. ap (map (word D1)) e ∙ fresh_is D v z t r.0) (λ k. words_agree s.next D D1 ag w k.0 ∙ k.1) a.0 in
    let one = bind_ctx f mark base D0 s D p v z t w c le r.0 (tag_agree s.next D D1 ag z t.words oo.0 tg.0, old_shape_more s.next (suc v) z (up s.next v le) oo.0) x.0 old is in
    let s1 = bind_entry s v z w in
    let b = worded f mark base D0 s1 D1 (plus t.piece p) vs zs ws ts one q.1 r.1 (old_shapes_more s.next (suc v) zs (up s.next v le) oo.1) (tagged_agree s.next D D1 ag zs ts oo.1 tg.1) (omega (arith, n)) (worded_more s.next (suc v) D D1 ag (up s.next v le) vs zs ws ts a.1) x.1 in
    record {
      ctx = subst (λ y. Ctx f mark base D0 (bind_words s1 vs zs ws) (grow D1 vs ts) y) (around t.piece (pieces_of ts) p) b.ctx;
      agree = agree_then s.next (suc v) D D1 (grow D1 vs ts) (up s.next v le) ag b.agree;
      later = le_then s.next (suc v) (bind_words s1 vs zs ws).next (up s.next v le) b.later;
      words =
          map-append (word (grow D1 vs ts)) w (joined_words ws) ∙
          ap (λ y. y ++ map (word (grow D1 vs ts)) (joined_words ws)) (words_agree (suc v) D1 (grow D1 vs ts) b.agree w old ∙ is) ∙
          ap (λ y. t.words ++ y) b.words;
      old = olds-append (bind_words s1 vs zs ws).next w (joined_words ws) (olds_more (suc v) (bind_words s1 vs zs ws).next w b.later old) b.old;
      toks = b.toks;
      defs = b.defs;
    }

-- the new variables come later
pub words_later : (s : State) (outs : List ℕ) (zs : List Shape) (ws : List (List Token)) → in_order s.next outs zs ≡ true → s.next ≤ (bind_words s outs zs ws).next
words_later s [] zs ws o = le_same s.next
words_later s (v ∷ vs) [] ws o = le_same s.next
words_later s (v ∷ vs) (z ∷ zs) [] o = le_same s.next
words_later s (v ∷ vs) (z ∷ zs) (w ∷ ws) o =
    let q = and_parts (leb s.next v) (in_order (suc v) vs zs) o in
    le_then s.next (suc v) (bind_words (bind_entry s v z w) vs zs ws).next (up s.next v (leb-true s.next v q.0)) (words_later (bind_entry s v z w) vs zs ws q.1)

pub words_defs : (s : State) (outs : List ℕ) (zs : List Shape) (ws : List (List Token)) → (bind_words s outs zs ws).defs ≡ s.defs
words_defs s [] zs ws = refl
words_defs s (v ∷ vs) [] ws = refl
words_defs s (v ∷ vs) (z ∷ zs) [] = refl
words_defs s (v ∷ vs) (z ∷ zs) (w ∷ ws) = words_defs (bind_entry s v z w) vs zs ws

-- results come to registers
pub arrived_words : (R f mark : ℕ) (base : List Entry) (D0 : Dyn) (s : State) (D : Dyn) (regs : List ℕ) (p : Piece) (to outs : List ℕ) (zs : List Shape) (ws : List (List Token)) (ts : List Thing) → Known s.toks s.next D regs → length regs ≡ R → Ctx f mark base D0 s D p → in_order s.next outs zs ≡ true → All_rel zs ts → old_shapes s.next zs ≡ true → Tagged D.words zs ts → (length outs ≡ length ws) → All_worded D s.next outs zs ws ts → Wholes ts → all_below R to ≡ true → Inv R f mark base D0 (bind_words (with_toks s (put_tokens s.toks to (joined_words ws))) outs zs ws) (grow D outs ts) (put_all to (words_of ts) regs) (plus (pieces_of ts) p)
arrived_words R f mark base D0 s D regs p to outs zs ws ts k e c o r og tg n a x lt =
    let toks = put_tokens s.toks to (joined_words ws) in
    let b = worded f mark base D0 (with_toks s toks) D p outs zs ws ts (retoken f mark base D0 s D p toks c) o r og tg n a x in
    let nx = (bind_words (with_toks s toks) outs zs ws).next in
    let k1 = known_agree s.next D (grow D outs ts) b.agree s.toks regs nx b.later k in
    let k2 = known_all s.toks nx (grow D outs ts) regs k1 to (joined_words ws) (subst (λ y. all_below y to ≡ true) (sym e) lt) b.old in
    record {
      known =
          subst (λ y. Known y nx (grow D outs ts) (put_all to (words_of ts) regs)) (sym b.toks)
          (subst (λ y. Known toks nx (grow D outs ts) (put_all to y regs)) b.words k2);
      count = length-put_all to (words_of ts) regs ∙ e;
      ctx = b.ctx;
    }
