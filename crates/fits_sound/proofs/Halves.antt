-- A list in two parts: what is held of each, and how they come together again.
use Rattle.std.proofs.Common.{◌≡◌, ◌≢◌, ℕ, zero, suc, ◌+◌, ◌-◌, ◌%◌, ◌^◌, ◌<◌, ◌≤◌, Bool, true, false, cond, ◌&&◌, List, [], ◌∷◌, length, refl, sym, ap, ◌∙◌, subst, arith, eqb, ltb, eq-eqb, ne_eqb, le-ltb, ⊎_elim, ◌⊎◌, inl, inr, ◌++◌, drop, length-append}
use Rattle.std.proofs.lemmas.Bool.Decides.{eqb_tells}
use Rattle.std.specs.Prelude.{Some, slice_index, slice_get}
use Rattle.nres_core.specs.declared.value.Value.{Value}
use Rattle.nres_core.specs.declared.value.Value.TheVariants as v
use Rattle.target_code.specs.declared.tree.Rep.{Rep}
use Rattle.target_code.specs.declared.tree.Rep.TheVariants as rep
use Rattle.target_meaning.specs.Machine.{Heap}
use Rattle.target_meaning.specs.Piece as pieces
use Rattle.target_meaning.specs.Piece.{Nil, Some_of, Clash, add, Holds, Piece, none, plus, IsProper, IsWhole, IsAllWhole}
use Rattle.target_meaning.proofs.Shares.{add-nil}
use Rattle.triple_logic.specs.Parts.{front, back}
use Rattle.triple_logic.specs.Sample.{HasValue, IsSlice}
use Rattle.triple_logic.proofs.Parts.{front-back}
use Rattle.relations.specs.Blocks.{AreWords, block, range, Has, Exactly}
use Rattle.relations.specs.Represents.{Represents}
use Rattle.relations.proofs.Layouts.{block_here}
use Rattle.layout_facts.proofs.Contents.{has_value, name_has, word_has, past_nil, block_off, has_nil, range_here, range_word}
use Rattle.layout_facts.proofs.Slices.{back_slice_is, joined_slice_is}
use Rattle.layout_facts.proofs.Ranges.{exact_proper, from_slice, to_slice}
use Rattle.rule_check.specs.Steps.{is_list}

abbrev Whole_or : pieces.Share → Type 0
Whole_or x = (x ≡ Nil) ⊎ IsWhole x

whole_if : (c : Bool) (x y : pieces.Share) → Whole_or x → Whole_or y → Whole_or (cond c x y)
whole_if true x y a b = a
whole_if false x y a b = b

pub front_whole : (b m : ℕ) (p : Piece) → IsAllWhole p → IsAllWhole (front b m p)
front_whole b m p w c j = whole_if (eqb c b && ltb j m) (p c j) Nil (w c j) (inl refl)

pub back_whole : (b m : ℕ) (p : Piece) → IsAllWhole p → IsAllWhole (back b m p)
back_whole b m p w c j = whole_if (eqb c b && ltb j m) Nil (p c j) (inl refl) (w c j)

share_whole : (x y : pieces.Share) → Whole_or x → Whole_or y → (x ≡ Nil) ⊎ (y ≡ Nil) → Whole_or (add x y)
share_whole x y a b o = ⊎_elim (λ e. subst (λ z. Whole_or (add z y)) (sym e) b) (λ e. subst (λ z. Whole_or (add x z)) (sym e) (subst Whole_or (sym (add-nil x)) a)) o

-- the words of the right part
abbrev pub right_offset : ℕ → ℕ → ℕ
right_offset off k = (off + k) % 2 ^ 64

abbrev pub right_length : ℕ → ℕ → ℕ
right_length len k = (len + 2 ^ 64 - k) % 2 ^ 64

pub length_is : (off len k : ℕ) → k ≤ len → off + len < 2 ^ 64 → right_length len k ≡ len - k
length_is off len k le b = omega (arith, b, le)

pub offset_is : (off len k : ℕ) → k ≤ len → off + len < 2 ^ 64 → right_offset off k ≡ off + k
offset_is off len k le b = omega (arith, b, le)

pub wholes_join : (us ws : List ℕ) (b off k : ℕ) (p q : Piece) → length us ≡ k → IsSlice us b off p → IsSlice ws b (off + k) q → IsAllWhole p → IsAllWhole q → IsAllWhole (plus p q)
wholes_join us ws b off k p q nu s t wp wq c j = share_whole (p c j) (q c j) (wp c j) (wq c j) (⊎_elim (λ e. here e.1 j) (λ e. inl (s.others c j e.1)) (eqb_tells c b))
  where
    at : (j : ℕ) → (p b j ≡ Nil) ⊎ (q b j ≡ Nil)
    at zero = inl s.no_name
    at (suc j) = ⊎_elim (λ lt. inr (t.before j lt)) (λ le. inl (s.after j (omega (arith, le, nu)))) (let z : (j < off + k) ⊎ (off + k ≤ j) = grind arith in z)

    here : c ≡ b → (j : ℕ) → (p c j ≡ Nil) ⊎ (q c j ≡ Nil)
    here e j = subst (λ z. (p z j ≡ Nil) ⊎ (q z j ≡ Nil)) (sym e) (at j)

-- ---- a block's name, and its words

zero_add : (i : ℕ) → 0 + i ≡ i
zero_add i = omega arith

less_zero : (i : ℕ) → i - 0 ≡ i
less_zero i = omega arith

proper_if : (c : Bool) (x : pieces.Share) → IsProper x → IsProper (cond c Nil x)
proper_if true x w = tt
proper_if false x w = w

module _ (xs : List ℕ) (b : ℕ) (p : Piece) (e : Exactly (block b xs) p) where
  inside : (j : ℕ) → back b 1 p b (suc j) ≡ p b (suc j)
  inside j = rw (eq-eqb b b refl, le-ltb (suc j) 1 (omega arith)) refl

  at_name : front b 1 p b 0 ≡ p b 0
  at_name = rw (eq-eqb b b refl) refl

  past : (j : ℕ) → front b 1 p b (suc j) ≡ Nil
  past j = rw (eq-eqb b b refl, le-ltb (suc j) 1 (omega arith)) refl

  not_there : (c j : ℕ) → c ≢ b → p c j ≡ Nil
  not_there c j ne = has_nil (p c j) _ (e c j) (block_off b xs c j (ne_eqb c b ne))

  words_slice : IsSlice xs b 0 (back b 1 p)
  words_slice = record {
    words = λ i lt. subst (λ z. HasValue z (slice_index xs i)) (sym (inside (0 + i))) (subst (λ z. HasValue (p b (suc z)) (slice_index xs i)) (sym (zero_add i)) (has_value (p b (suc i)) (slice_index xs i) (word_has b xs p e i lt)));
    no_name = rw (eq-eqb b b refl) refl;
    before = λ j lt. absurd (let z : ⊥ = omega (arith, lt) in z);
    after = λ j le. inside j ∙ past_nil b xs p e j (subst (λ z. z ≤ j) (zero_add (length xs)) le);
    others = λ c j ne. rw (ne_eqb c b ne) (not_there c j ne);
  }

  pub words_range : Exactly (range b 0 xs) (back b 1 p)
  words_range = from_slice b 0 xs (back b 1 p) words_slice (λ c j. proper_if (eqb c b && ltb j 1) (p c j) (exact_proper (block b xs) p e c j))

  -- other words, as many, behind that name
  module _ (ys : List ℕ) (q : Piece) (n : length ys ≡ length xs) (d : Exactly (range b 0 ys) q) where
    pub with_name : Exactly (block b ys) (plus (front b 1 p) q)
    with_name c j = ⊎_elim (λ k. subst (λ z. Has (plus (front b 1 p) q z j) (block b ys z j)) (sym k.1) (here j)) (λ k. off k.1) (eqb_tells c b)
      where
        t : IsSlice ys b 0 q
        t = to_slice b 0 ys q d

        off : c ≢ b → Has (plus (front b 1 p) q c j) (block b ys c j)
        off ne = subst (Has (plus (front b 1 p) q c j)) (sym (block_off b ys c j (ne_eqb c b ne))) (let no_name : front b 1 p c j ≡ Nil = rw (ne_eqb c b ne) refl in ap (λ z. add z (q c j)) no_name ∙ t.others c j ne)

        here : (j : ℕ) → Has (plus (front b 1 p) q b j) (block b ys b j)
        here zero =
            subst (Has (add (front b 1 p b 0) (q b 0))) (sym (block_here b ys 0))
            (subst (λ z. Has (add (front b 1 p b 0) (q b 0)) (Some z)) (sym n)
            (subst (λ z. Has z (Some (length xs))) (sym (ap (add (front b 1 p b 0)) t.no_name ∙ add-nil (front b 1 p b 0) ∙ at_name)) (name_has b xs p e)))
        here (suc i) =
            subst (Has (add (front b 1 p b (suc i)) (q b (suc i)))) (sym (block_here b ys (suc i)))
            (subst (λ z. Has z (slice_get ys i)) (sym (ap (λ z. add z (q b (suc i))) (past i)))
            (subst (λ z. Has (q b (suc i)) (slice_get ys z)) (less_zero i) (subst (Has (q b (suc i))) (range_here b 0 ys (suc i) ∙ range_word 0 ys i (omega arith)) (d b (suc i)))))

    pub name_whole : IsAllWhole p → IsAllWhole q → IsAllWhole (plus (front b 1 p) q)
    name_whole w k c j = share_whole (front b 1 p c j) (q c j) (front_whole b 1 p w c j) (k c j) (at j)
      where
        t : IsSlice ys b 0 q
        t = to_slice b 0 ys q d

        at : (j : ℕ) → (front b 1 p c j ≡ Nil) ⊎ (q c j ≡ Nil)
        at zero = ⊎_elim (λ z. inr (ap (λ y. q y 0) z.1 ∙ t.no_name)) (λ z. inr (t.others c 0 z.1)) (eqb_tells c b)
        at (suc i) = inl (by (eqb c b))
          where
            by : (k : Bool) → cond (k && ltb (suc i) 1) (p c (suc i)) Nil ≡ Nil
            by true = rw (le-ltb (suc i) 1 (omega arith)) refl
            by false = refl

nil_or : (c : Bool) (x : pieces.Share) → (cond c Nil x ≡ Nil) ⊎ (cond c Nil x ≡ x)
nil_or true x = inl refl
nil_or false x = inr refl

-- what is held of a list: perhaps its name, and its range
pub record Body (x : Rep) (y : Value) (ws : List ℕ) (p : Piece) : Type 0 where
  pub list : List ℕ
  pub value : y ≡ v.List list
  pub block_at : ℕ
  pub offset : ℕ
  pub words : ws ≡ block_at ∷ offset ∷ length list ∷ []
  pub name : Piece
  pub range_held : Piece
  pub is : p ≡ plus name range_held
  pub slice : Represents rep.Slice (v.List list) (block_at ∷ offset ∷ length list ∷ []) range_held
  pub whole : IsAllWhole p → IsAllWhole name × IsAllWhole range_held
  pub sub : (c j : ℕ) → (range_held c j ≡ Nil) ⊎ (range_held c j ≡ p c j)
  -- another list of that length in its place
  pub whole_in : (ys : List ℕ) (q : Piece) → length ys ≡ length list → Represents rep.Slice (v.List ys) (block_at ∷ offset ∷ length ys ∷ []) q → IsAllWhole p → IsAllWhole q → IsAllWhole (plus name q)
  pub back_in : (ys : List ℕ) (q : Piece) → length ys ≡ length list → Represents rep.Slice (v.List ys) (block_at ∷ offset ∷ length ys ∷ []) q → Represents x (v.List ys) ws (plus name q)

pub body_of : (x : Rep) (y : Value) (ws : List ℕ) (p : Piece) → is_list x ≡ true → Represents x y ws p → Body x y ws p
body_of rep.Array (v.List xs) (b ∷ off ∷ len ∷ []) p c h =
    let l = h.layout in
    let same : (b ∷ off ∷ len ∷ []) ≡ (b ∷ 0 ∷ length xs ∷ []) = ap (λ z. b ∷ z ∷ len ∷ []) l.offset ∙ ap (λ z. b ∷ 0 ∷ z ∷ []) l.count in
    record {
      list = xs;
      value = refl;
      block_at = b;
      offset = 0;
      words = same;
      name = front b 1 p;
      range_held = back b 1 p;
      is = sym (front-back b 1 p);
      slice = record { registers = subst AreWords same h.registers; layout = record { piece = words_range xs b p l.piece; words = l.words; count = refl; small = l.small } };
      whole = λ w. (front_whole b 1 p w, back_whole b 1 p w);
      sub = λ c j. nil_or (eqb c b && ltb j 1) (p c j);
      whole_in = λ ys q n t w k. name_whole xs b p l.piece ys q n t.layout.piece w k;
      back_in = λ ys q n t. record { registers = h.registers; layout = record { piece = with_name xs b p l.piece ys q n t.layout.piece; words = t.layout.words; offset = l.offset; count = l.count ∙ sym n; small = t.layout.small } };
    }
body_of rep.Slice (v.List xs) (b ∷ off ∷ len ∷ []) p c h =
    let l = h.layout in
    let same : (b ∷ off ∷ len ∷ []) ≡ (b ∷ off ∷ length xs ∷ []) = ap (λ z. b ∷ off ∷ z ∷ []) l.count in
    record {
      list = xs;
      value = refl;
      block_at = b;
      offset = off;
      words = same;
      name = none;
      range_held = p;
      is = refl;
      slice = record { registers = subst AreWords same h.registers; layout = record { piece = l.piece; words = l.words; count = refl; small = l.small } };
      whole = λ w. (λ c j. inl refl, w);
      sub = λ c j. inr refl;
      whole_in = λ ys q n t w k. k;
      back_in = λ ys q n t. record { registers = h.registers; layout = record { piece = t.layout.piece; words = t.layout.words; count = l.count ∙ sym n; small = t.layout.small } };
    }
body_of rep.Array y ws p c h = absurd h.layout
body_of rep.Slice y ws p c h = absurd h.layout
body_of _ y ws p c h = cc c

-- ---- the parts as slices, with the words that the code computes

module _ (b off len : ℕ) (xs : List ℕ) (p : Piece) (r : Represents rep.Slice (v.List xs) (b ∷ off ∷ len ∷ []) p) (h : Heap) (hs : Holds p h) where
  same : (a : ℕ) → a ≤ a
  same a = omega arith

  -- a list in a heap ends below 2^64
  pub list_end : off + length xs < 2 ^ 64
  list_end = (back_slice_is b off len xs p r (length xs) (same (length xs)) h hs).registers 1 (omega arith)

  pub right_part : (k : ℕ) → k ≤ length xs → Represents rep.Slice (v.List (drop k xs)) (b ∷ right_offset off k ∷ right_length (length xs) k ∷ []) (back b (suc (off + k)) p)
  right_part k le =
      subst (λ z. Represents rep.Slice (v.List (drop k xs)) (b ∷ z ∷ right_length (length xs) k ∷ []) (back b (suc (off + k)) p)) (sym (offset_is off (length xs) k le list_end))
      (subst (λ z. Represents rep.Slice (v.List (drop k xs)) (b ∷ (off + k) ∷ z ∷ []) (back b (suc (off + k)) p)) (sym (length_is off (length xs) k le list_end)) (back_slice_is b off len xs p r k le h hs))

-- both parts make one list again
pub parts_join : (b off k m : ℕ) (us ws : List ℕ) (p q : Piece) (h : Heap) → Holds (plus p q) h → off + k < 2 ^ 64 → length us + length ws < 2 ^ 32 → Represents rep.Slice (v.List us) (b ∷ off ∷ k ∷ []) p → Represents rep.Slice (v.List ws) (b ∷ right_offset off k ∷ m ∷ []) q → Represents rep.Slice (v.List (us ++ ws)) (b ∷ off ∷ length (us ++ ws) ∷ []) (plus p q)
parts_join b off k m us ws p q h hs lt small r t =
    subst (λ z. Represents rep.Slice (v.List (us ++ ws)) (b ∷ off ∷ z ∷ []) (plus p q)) count
    (joined_slice_is b off k m us ws p q h hs small r (subst (λ z. Represents rep.Slice (v.List ws) (b ∷ z ∷ m ∷ []) q) (low (off + k) lt) t))
  where
    low : (a : ℕ) → a < 2 ^ 64 → a % 2 ^ 64 ≡ a
    low a lt = omega (arith, lt)

    count : k + m ≡ length (us ++ ws)
    count = let ck = r.layout.count in let cm = t.layout.count in let n = length-append us ws in omega (arith, ck, cm, n)
