-- Tokens of registers, and entries.
use Rattle.std.proofs.Common.{◌≡◌, ◌≢◌, ℕ, suc, ◌-◌, ◌^◌, ◌<◌, ◌≤◌, Bool, true, false, not, List, [], ◌∷◌, map, length, refl, sym, ap, ◌∙◌, subst, arith, eqb, eqb-true, eq-eqb, ne_eqb, ⊎_elim, ltb, ltb-true, lt-ltb, le-ltb, ◌&&◌, ◌||◌}
use Rattle.std.proofs.lemmas.Bool.{cond-true, cond-false, and_parts}
use Rattle.std.proofs.lemmas.Bool.Decides.{eqb_tells}
use Rattle.std.proofs.lemmas.List.{length-set, get_or-set_same, get_or-set_other}
use Rattle.std.specs.Prelude.{Option, Some, None, slice_index, slice_set}
use Rattle.nres_core.specs.Ops.{calc_out}
use Rattle.nres_core.specs.Runs.{Done}
use Rattle.nres_core.specs.declared.flat.Arg.{Arg}
use Rattle.nres_core.specs.declared.flat.Arg.TheVariants as a
use Rattle.nres_meaning.specs.FlatMeaning.{Vars, arg_value}
use Rattle.target_meaning.specs.Leaf.{read_all, put_all}
use Rattle.target_meaning.specs.Piece.{Piece, plus, IsAllWhole}
use Rattle.relations.specs.Represents.{Represents}
use Rattle.row_laws.specs.Rows.{Thing, IsBelow}
use Rattle.rule_check.specs.Context.{Hold, Owned, Fact, Def, Shape, is_owned, is_slice}
use Rattle.fits.specs.Places.{Token, Number, Of, Entry, State, put, same_token, has_token, hold_words, put_tokens, old_shape, old_shapes, bind_entry}
use Rattle.fits.specs.Follow.{all_below}
use Rattle.fits_sound.specs.Meant.{Dyn, word, at_hold, Apart_if, Apart_parts, Share, Shares, Parts_kept, Least, live, Old, Olds, Below, Rels, Agree, Known, Ctx, Tag, Tag_at, Tagged, Facts, Defs, Old_arg, Among, older}

pub le_then : (a b c : ℕ) → a ≤ b → b ≤ c → a ≤ c
le_then a b c x y = omega (arith, x, y)

pub put_same : {A : Type 0} (f : ℕ → A) (v : ℕ) (x : A) → put f v x v ≡ x
put_same f v x = cond-true (eqb v v) x (f v) (eq-eqb v v refl)

pub put_other : {A : Type 0} (f : ℕ → A) (v : ℕ) (x : A) (w : ℕ) → w ≢ v → put f v x w ≡ f w
put_other f v x w ne = cond-false (eqb w v) x (f w) (ne_eqb w v ne)

pub put_below : {A : Type 0} (f : ℕ → A) (v : ℕ) (x : A) (w : ℕ) → w < v → put f v x w ≡ f w
put_below f v x w lt = put_other f v x w (omega (arith, lt))

pub same_is : (t u : Token) → same_token t u ≡ true → t ≡ u
same_is (Number n) (Number m) e = ap Number (eqb-true n m e)
same_is (Number n) (Of v j) e = cc e
same_is (Of v j) (Number n) e = cc e
same_is (Of v j) (Of w k) e =
    let p = and_parts (eqb v w) (eqb j k) e in ap (λ y. Of y j) (eqb-true v w p.0) ∙ ap (Of w) (eqb-true j k p.1)

pub has_is : (o : Option Token) (t : Token) → has_token o t ≡ true → o ≡ Some t
has_is None t e = cc e
has_is (Some u) t e = ap Some (same_is u t e)

pub some_is : {A : Type 0} (x y : A) → Some x ≡ Some y → x ≡ y
some_is x y e = ap (λ o. get x o) e
  where
    get : {A : Type 0} → A → Option A → A
    get d None = d
    get d (Some a) = a

module _ (toks : ℕ → Option Token) (n : ℕ) (D : Dyn) (regs : List ℕ) (k : Known toks n D regs) where
  -- registers that hold words have their values
  pub words_read : (rs : List ℕ) (ts : List Token) → hold_words toks rs ts ≡ true → read_all regs rs ≡ map (word D) ts
  words_read [] [] e = refl
  words_read [] (t ∷ ts) e = cc e
  words_read (r ∷ rs) [] e = cc e
  words_read (r ∷ rs) (t ∷ ts) e =
      let p = and_parts (has_token (toks r) t) (hold_words toks rs ts) e in
      ap (λ y. y ∷ read_all regs rs) (k.is r t (has_is (toks r) t p.0)) ∙ ap (λ y. word D t ∷ y) (words_read rs ts p.1)

  pub words_old : (rs : List ℕ) (ts : List Token) → hold_words toks rs ts ≡ true → Olds n ts
  words_old [] [] e = tt
  words_old [] (t ∷ ts) e = cc e
  words_old (r ∷ rs) [] e = cc e
  words_old (r ∷ rs) (t ∷ ts) e =
      let p = and_parts (has_token (toks r) t) (hold_words toks rs ts) e in (k.old r t (has_is (toks r) t p.0), words_old rs ts p.1)

  -- a register is written
  pub known_put : (to : ℕ) (o : Option Token) (v : ℕ) → to < length regs → ((t : Token) → o ≡ Some t → Old n t × (v ≡ word D t)) → Known (put toks to o) n D (slice_set regs to v)
  known_put to o v lt w =
      record {
        old = λ r t e. ⊎_elim (λ a. (w t (sym (put_same toks to o) ∙ ap (put toks to o) (sym a.1) ∙ e)).0) (λ a. k.old r t (sym (put_other toks to o r a.1) ∙ e)) (eqb_tells r to);
        is = λ r t e.
            ⊎_elim
            (λ a. ap (slice_index (slice_set regs to v)) a.1 ∙ get_or-set_same regs to v 0 lt ∙ (w t (sym (put_same toks to o) ∙ ap (put toks to o) (sym a.1) ∙ e)).1)
            (λ a. get_or-set_other regs to r v 0 a.1 ∙ k.is r t (sym (put_other toks to o r a.1) ∙ e))
            (eqb_tells r to);
      }

-- registers are written
pub known_all : (toks : ℕ → Option Token) (n : ℕ) (D : Dyn) (regs : List ℕ) → Known toks n D regs → (to : List ℕ) (ts : List Token) → all_below (length regs) to ≡ true → Olds n ts → Known (put_tokens toks to ts) n D (put_all to (map (word D) ts) regs)
known_all toks n D regs k [] ts e o = k
known_all toks n D regs k (r ∷ rs) [] e o = k
known_all toks n D regs k (r ∷ rs) (t ∷ ts) e o =
    let p = and_parts (ltb r (length regs)) (all_below (length regs) rs) e in
    known_all (put toks r (Some t)) n D (slice_set regs r (word D t))
    (known_put toks n D regs k r (Some t) (word D t) (ltb-true r (length regs) p.0) (λ u z. (subst (Old n) (some_is t u z) o.0, ap (word D) (some_is t u z))))
    rs ts (subst (λ y. all_below y rs ≡ true) (sym (length-set regs r (word D t))) p.1) o.1

pub length-put_all : (to vs regs : List ℕ) → length (put_all to vs regs) ≡ length regs
length-put_all [] vs regs = refl
length-put_all (r ∷ rs) [] regs = refl
length-put_all (r ∷ rs) (v ∷ vs) regs = length-put_all rs vs (slice_set regs r v) ∙ length-set regs r v

pub old_more : (n m : ℕ) (t : Token) → n ≤ m → Old n t → Old m t
old_more n m (Number x) le o = tt
old_more n m (Of v j) le o = omega (arith, le, o)

pub olds_more : (n m : ℕ) (ts : List Token) → n ≤ m → Olds n ts → Olds m ts
olds_more n m [] le o = tt
olds_more n m (t ∷ ts) le o = (old_more n m t le o.0, olds_more n m ts le o.1)

pub below_more : (n m : ℕ) (es : List Entry) → n ≤ m → Below n es → Below m es
below_more n m [] le b = tt
below_more n m (e ∷ es) le b = (omega (arith, le, b.0), b.1, b.2)

old_at : (c : Bool) (n m o : ℕ) → n ≤ m → (not c || ltb o n) ≡ true → (not c || ltb o m) ≡ true
old_at false n m o le e = refl
old_at true n m o le e = let lt = ltb-true o n e in lt-ltb o m (omega (arith, le, lt))

pub old_shape_more : (n m : ℕ) (z : Shape) → n ≤ m → old_shape n z ≡ true → old_shape m z ≡ true
old_shape_more n m z le o = old_at (is_slice z.rep) n m z.tag le o

pub old_shapes_more : (n m : ℕ) (zs : List Shape) → n ≤ m → old_shapes n zs ≡ true → old_shapes m zs ≡ true
old_shapes_more n m [] le o = refl
old_shapes_more n m (z ∷ zs) le o =
    let w = and_parts (old_shape n z) (old_shapes n zs) o in
    ap (λ y. y && old_shapes m zs) (old_shape_more n m z le w.0) ∙ old_shapes_more n m zs le w.1

-- the tag of a slice is old
pub slice_old : (c : Bool) (n o : ℕ) → c ≡ true → (not c || ltb o n) ≡ true → o < n
slice_old true n o e w = ltb-true o n w
slice_old false n o e w = absurd (let z : ⊥ = cc e in z)

module _ (n : ℕ) (D D' : Dyn) (a : Agree n D D') where
  pub word_agree : (t : Token) → Old n t → word D' t ≡ word D t
  word_agree (Number x) o = refl
  word_agree (Of v j) o = a.words v j o

  pub words_agree : (ts : List Token) → Olds n ts → map (word D') ts ≡ map (word D) ts
  words_agree [] o = refl
  words_agree (t ∷ ts) o = ap (λ y. y ∷ map (word D') ts) (word_agree t o.0) ∙ ap (λ y. word D t ∷ y) (words_agree ts o.1)

  pub known_agree : (toks : ℕ → Option Token) (regs : List ℕ) (m : ℕ) → n ≤ m → Known toks n D regs → Known toks m D' regs
  known_agree toks regs m le k =
      record { old = λ r t e. old_more n m t le (k.old r t e); is = λ r t e. k.is r t e ∙ sym (word_agree t (k.old r t e)) }

  pub tag_agree : (z : Shape) (ws : List ℕ) → old_shape n z ≡ true → Tag D.words z ws → Tag D'.words z ws
  tag_agree z ws o t e =
      let lt = slice_old (is_slice z.rep) n z.tag e o in
      t e ∙ ap (λ y. y ∷ D.words z.tag 1 ∷ D.words z.tag 2 ∷ []) (sym (a.words z.tag 0 lt)) ∙ ap (λ y. D'.words z.tag 0 ∷ y ∷ D.words z.tag 2 ∷ []) (sym (a.words z.tag 1 lt)) ∙ ap (λ y. D'.words z.tag 0 ∷ D'.words z.tag 1 ∷ y ∷ []) (sym (a.words z.tag 2 lt))

  pub tagged_agree : (zs : List Shape) (ts : List Thing) → old_shapes n zs ≡ true → Tagged D.words zs ts → Tagged D'.words zs ts
  tagged_agree [] ts o t = tt
  tagged_agree (r ∷ rs) [] o t = tt
  tagged_agree (r ∷ rs) (x ∷ ts) o t =
      let w = and_parts (old_shape n r) (old_shapes n rs) o in (tag_agree r x.words w.0 t.0, tagged_agree rs ts w.1 t.1)

  pub rels_agree : (m : ℕ) (es : List Entry) → m ≤ n → Below m es → Rels D es → Rels D' es
  rels_agree m [] le b r = tt
  rels_agree m (e ∷ es) le b r = (
    (
      subst (λ y. Represents e.shape.rep y (map (word D') e.words) (D'.piece e.var)) (sym (a.values e.var (omega (arith, le, b.0))))
          (subst (λ y. Represents e.shape.rep (D.value e.var) y (D'.piece e.var)) (sym (words_agree e.words (olds_more (suc e.var) n e.words (omega (arith, le, b.0)) b.1)))
          (subst (λ y. Represents e.shape.rep (D.value e.var) (map (word D) e.words) y) (sym (a.pieces e.var (omega (arith, le, b.0)))) r.0.0)),
      (
        subst (Tag D'.words e.shape) (sym (words_agree e.words (olds_more (suc e.var) n e.words (omega (arith, le, b.0)) b.1))) (tag_agree e.shape (map (word D) e.words) (old_shape_more (suc e.var) n e.shape (omega (arith, le, b.0)) r.0.1.1) r.0.1.0),
        r.0.1.1,
      ),
    ),
    rels_agree e.var es (omega (arith, le, b.0)) b.2 r.1,
  )

  apart_agree : (q : Piece) (m : ℕ) (es : List Entry) → m ≤ n → Below m es → Apart_parts D q es → Apart_parts D' q es
  apart_agree q m [] le b r = tt
  apart_agree q m (e ∷ es) le b r =
      (subst (Apart_if e.part q) (sym (a.pieces e.var (omega (arith, le, b.0)))) r.0, apart_agree q e.var es (omega (arith, le, b.0)) b.2 r.1)

  share_agree : (f : ℕ) (k : Bool) (q q' : Piece) (m : ℕ) (es : List Entry) → m ≤ n → Below m es → q' ≡ q → Share f D k q es → Share f D' k q' es
  share_agree f false q q' m es le b e r = subst IsAllWhole (sym e) r
  share_agree f true q q' m es le b e r = (subst (Least (2 ^ (64 - f))) (sym e) r.0, subst (λ y. Apart_parts D' y es) (sym e) (apart_agree q m es le b r.1))

  pub shares_agree : (f m : ℕ) (es : List Entry) → m ≤ n → Below m es → Shares f D es → Shares f D' es
  shares_agree f m [] le b r = tt
  shares_agree f m (e ∷ es) le b r =
      (share_agree f e.part (D.piece e.var) (D'.piece e.var) e.var es (omega (arith, le, b.0)) b.2 (a.pieces e.var (omega (arith, le, b.0))) r.0, shares_agree f e.var es (omega (arith, le, b.0)) b.2 r.1)

pub agree_same : (n : ℕ) (D : Dyn) → Agree n D D
agree_same n D = record { values = λ v lt. refl; words = λ v j lt. refl; pieces = λ v lt. refl }

pub back_agree : (n : ℕ) (A B : Dyn) → Agree n A B → Agree n B A
back_agree n A B a = record { values = λ v lt. sym (a.values v lt); words = λ v j lt. sym (a.words v j lt); pieces = λ v lt. sym (a.pieces v lt) }

pub agree_then : (n m : ℕ) (A B C : Dyn) → n ≤ m → Agree n A B → Agree m B C → Agree n A C
agree_then n m A B C le a b =
    record {
      values = λ v lt. b.values v (omega (arith, le, lt)) ∙ a.values v lt;
      words = λ v j lt. b.words v j (omega (arith, le, lt)) ∙ a.words v j lt;
      pieces = λ v lt. b.pieces v (omega (arith, le, lt)) ∙ a.pieces v lt;
    }

-- what is known of variables stays, where no more of the old ones are in scope
pub facts_same : (n m : ℕ) (v w : Vars) (es ds : List Entry) → n ≤ m → ((y : ℕ) → y < n → w y ≡ v y) → ((y : ℕ) → y < n → Among y ds → Among y es) → (ks : List Fact) → Facts n v es ks → Facts m w ds ks
facts_same n m v w es ds le s t [] k = tt
facts_same n m v w es ds le s t (f ∷ ks) k =
    ((omega (arith, le, k.0.0), λ q. subst (λ z. IsBelow z f.bound) (sym (s f.var k.0.0)) (k.0.1 (t f.var k.0.0 q))), facts_same n m v w es ds le s t ks k.1)

pub facts_more : (n m : ℕ) (v : Vars) (es : List Entry) (ks : List Fact) → n ≤ m → Facts n v es ks → Facts m v es ks
facts_more n m v es ks le k = facts_same n m v v es es le (λ y lt. refl) (λ y lt q. q) ks k

old_arg_more : (n m : ℕ) (u : Arg) → n ≤ m → Old_arg n u → Old_arg m u
old_arg_more n m (a.Var v) le o = omega (arith, le, o)
old_arg_more n m (a.Num x) le o = tt
old_arg_more n m (a.Truth b) le o = tt

pub arg_same : (n : ℕ) (v w : Vars) (u : Arg) → ((y : ℕ) → y < n → w y ≡ v y) → Old_arg n u → arg_value w u ≡ arg_value v u
arg_same n v w (a.Var x) s o = s x o
arg_same n v w (a.Num x) s o = refl
arg_same n v w (a.Truth b) s o = refl

-- calculations stay what they came to
pub defs_same : (n m : ℕ) (v w : Vars) → n ≤ m → ((y : ℕ) → y < n → w y ≡ v y) → (ds : List Def) → Defs n v ds → Defs m w ds
defs_same n m v w le s [] k = tt
defs_same n m v w le s (d ∷ ds) k = (
  (
    omega (arith, le, k.0.0),
    old_arg_more n m d.left le k.0.1,
    old_arg_more n m d.right le k.0.2,
    ap (λ y. calc_out d.word y (arg_value w d.right)) (arg_same n v w d.left s k.0.1) ∙ ap (λ y. calc_out d.word (arg_value v d.left) y) (arg_same n v w d.right s k.0.2) ∙ k.0.3 ∙ ap Done (sym (s d.to k.0.0)),
  ),
  defs_same n m v w le s ds k.1,
)

-- what is held does not depend on other holds
pub live_same : (n : ℕ) (es : List Entry) (g h : ℕ → Hold) (P P' : ℕ → Piece) → Below n es → ((v : ℕ) → v < n → at_hold (g v) (P v) ≡ at_hold (h v) (P' v)) → live es g P ≡ live es h P'
live_same n [] g h P P' b w = refl
live_same n (e ∷ es) g h P P' b w =
    ap (λ y. plus y (live es g P)) (w e.var b.0) ∙ ap (plus (at_hold (h e.var) (P' e.var))) (live_same e.var es g h P P' b.2 (λ v lt. w v (omega (arith, lt, b.0))))

pub kept_same : (n : ℕ) (es : List Entry) (g h : ℕ → Hold) → Below n es → ((v : ℕ) → v < n → h v ≡ g v) → Parts_kept g es → Parts_kept h es
kept_same n [] g h b w k = tt
kept_same n (e ∷ es) g h b w k = (λ p. ap is_owned (w e.var b.0) ∙ k.0 p, kept_same e.var es g h b.2 (λ v lt. w v (omega (arith, lt, b.0))) k.1)

pub older_all : (n : ℕ) (es : List Entry) → Below n es → older n es ≡ es
older_all n [] b = refl
older_all n (e ∷ es) b = cond-true (ltb e.var n) (e ∷ es) (older n es) (lt-ltb e.var n b.0)

-- ---- a variable is bound

abbrev pub bind_dyn : Dyn → ℕ → Thing → Dyn
bind_dyn D v t = record { value = put D.value v t.value; words = put D.words v (slice_index t.words); piece = put D.piece v t.piece }

pub bind_agree : (D : Dyn) (v : ℕ) (t : Thing) (n : ℕ) → n ≤ v → Agree n D (bind_dyn D v t)
bind_agree D v t n le =
    record {
      values = λ w lt. put_below D.value v t.value w (omega (arith, le, lt));
      words = λ w j lt. ap (λ f. f j) (put_below D.words v (slice_index t.words) w (omega (arith, le, lt)));
      pieces = λ w lt. put_below D.piece v t.piece w (omega (arith, le, lt));
    }

-- a variable from below a bound is not the new one
old_among : (n v y : ℕ) (e : Entry) (es : List Entry) → e.var ≡ v → n ≤ v → y < n → Among y (e ∷ es) → Among y es
old_among n v y e es ev le lt q = ⊎_elim (λ z. absurd (let w : y ≡ v = sym z ∙ ev in let o : ⊥ = omega (arith, le, lt, w) in o)) (λ z. z) q

pub bind_ctx : (f mark : ℕ) (base : List Entry) (D0 : Dyn) (s : State) (D : Dyn) (p : Piece) (v : ℕ) (z : Shape) (t : Thing) (words : List Token) → Ctx f mark base D0 s D p → s.next ≤ v → Represents z.rep t.value t.words t.piece → Tag_at (bind_dyn D v t).words (suc v) z t.words → IsAllWhole t.piece → Olds (suc v) words → map (word (bind_dyn D v t)) words ≡ t.words → Ctx f mark base D0 (bind_entry s v z words) (bind_dyn D v t) (plus t.piece p)
bind_ctx f mark base D0 s D p v z t words c le r tg w o e =
    record {
      below = (omega arith, o, below_more s.next v s.entries le c.below);
      rels = (
        (
          subst (λ y. Represents z.rep y (map (word (bind_dyn D v t)) words) (put D.piece v t.piece v)) (sym (put_same D.value v t.value))
              (subst (λ y. Represents z.rep t.value y (put D.piece v t.piece v)) (sym e)
              (subst (λ y. Represents z.rep t.value t.words y) (sym (put_same D.piece v t.piece)) r)),
          (subst (Tag (bind_dyn D v t).words z) (sym e) tg.0, tg.1),
        ),
        rels_agree s.next D (bind_dyn D v t) (bind_agree D v t s.next le) s.next s.entries (omega arith) c.below c.rels,
      );
      shares = (subst IsAllWhole (sym (put_same D.piece v t.piece)) w, shares_agree s.next D (bind_dyn D v t) (bind_agree D v t s.next le) f s.next s.entries (omega arith) c.below c.shares);
      kept = (λ z. absurd (let y : ⊥ = cc z in y), kept_same s.next s.entries s.hold (put s.hold v Owned) c.below (λ w lt. put_below s.hold v Owned w (omega (arith, le, lt))) c.kept);
      facts = facts_same s.next (suc v) D.value (put D.value v t.value) s.entries (bind_entry s v z words).entries (omega (arith, le)) (λ w lt. put_below D.value v t.value w (omega (arith, lt, le))) (λ y lt q. old_among s.next v y (record { var = v; shape = z; words = words; part = false }) s.entries refl le lt q) s.facts c.facts;
      defs = defs_same s.next (suc v) D.value (put D.value v t.value) (omega (arith, le)) (λ w lt. put_below D.value v t.value w (omega (arith, lt, le))) s.defs c.defs;
      piece =
          ap (plus t.piece) c.piece ∙
          ap (plus t.piece) (live_same s.next s.entries s.hold (put s.hold v Owned) D.piece (put D.piece v t.piece) c.below (λ w lt.
          ap (λ y. at_hold y (D.piece w)) (sym (put_below s.hold v Owned w (omega (arith, le, lt)))) ∙
          ap (at_hold (put s.hold v Owned w)) (sym (put_below D.piece v t.piece w (omega (arith, le, lt)))))) ∙
          ap (λ y. plus y (live s.entries (put s.hold v Owned) (put D.piece v t.piece)))
          (sym (ap (λ y. at_hold y (put D.piece v t.piece v)) (put_same s.hold v Owned) ∙ put_same D.piece v t.piece));
      marked = omega (arith, c.marked, le);
      origin = cond-false (ltb v mark) _ (older mark s.entries) (le-ltb v mark (omega (arith, c.marked, le))) ∙ c.origin;
      agree = agree_then mark mark D0 D (bind_dyn D v t) (omega arith) c.agree (bind_agree D v t mark (omega (arith, c.marked, le)));
    }
