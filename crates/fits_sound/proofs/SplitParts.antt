-- The parts of a list in the place of the list: what the fork of a `split` begins with.
use Rattle.std.proofs.Common.{◌≡◌, ℕ, suc, ◌+◌, ◌<◌, ◌≤◌, Bool, true, false, List, [], ◌∷◌, map, length, take, drop, sym, ap, ◌∙◌, refl, arith, eqb, lt-ltb, ◌⊎◌, inl, inr}
use Rattle.std.proofs.lemmas.Bool.{cond-true, cond-false}
use Rattle.std.specs.Prelude.{slice_index}
use Rattle.nres_core.specs.declared.value.Value.TheVariants as v
use Rattle.target_meaning.specs.Machine.{Heap}
use Rattle.target_meaning.specs.Piece.{Piece, plus, Holds, IsAllWhole}
use Rattle.triple_logic.specs.Parts.{front, back}
use Rattle.layout_facts.proofs.Slices.{front_slice_is}
use Rattle.row_laws.specs.Rows.{Thing}
use Rattle.rule_check.specs.Context.{Hold, Gone, Shape, is_owned}
use Rattle.fits.specs.Places.{Token, Of, Entry, State, bind_entry, put}
use Rattle.fits.specs.Follow.{parts_state, slice_of}
use Rattle.fits_sound.specs.Meant.{Agree, Among, Below, Ctx, Defs, Dyn, Facts, Olds, live, word}
use Rattle.fits_sound.proofs.Basic.{agree_then, back_agree, bind_agree, bind_ctx, bind_dyn, olds_more, put_below, put_same, rels_agree, shares_agree, words_agree}
use Rattle.fits_sound.proofs.Halves.{Body, back_whole, front_whole, right_length, right_offset, right_part}
use Rattle.fits_sound.proofs.Join.{le_same}
use Rattle.fits_sound.proofs.Take.{kept_less, vars_whole}

-- the words of both parts, which are there from the first instruction on
abbrev pub words1 : (b off k : ℕ) → List ℕ
words1 b off k = b ∷ off ∷ k ∷ []

abbrev pub words2 : (b off len k : ℕ) → List ℕ
words2 b off len k = b ∷ right_offset off k ∷ right_length len k ∷ []

abbrev pub parts_dyn : Dyn → (i j b off len k : ℕ) → Dyn
parts_dyn D i j b off len k = record { value = D.value; words = put (put D.words i (slice_index (words1 b off k))) j (slice_index (words2 b off len k)); piece = D.piece }

module _ (f mark : ℕ) (base : List Entry) (D0 D : Dyn) (u : State) (list i j : ℕ) (z : Shape) (b o k : Token) (n0 : ℕ) (ws : List ℕ) (body : Body z.rep (D.value list) ws (D.piece list)) (n : ℕ) (p : Piece)
    (ij : suc i ≤ j) (ni : n0 ≤ i) (below : Below n0 u.entries) (marked : mark ≤ n0) (agree0 : Agree mark D0 D) (ctx : Ctx f mark base D0 u (parts_dyn D i j body.block_at body.offset (length body.list) n) p)
    (among : Among list u.entries) (owned : is_owned (u.hold list) ≡ true) (left_words : map (word D) (b ∷ o ∷ k ∷ []) ≡ body.block_at ∷ body.offset ∷ n ∷ []) (left_old : Olds n0 (b ∷ o ∷ k ∷ []))
    (facts0 : Facts n0 D.value u.entries u.facts) (defs0 : Defs n0 D.value u.defs) (le : n ≤ length body.list) (h : Heap) (hs : Holds body.range_held h) where
  abbrev B : ℕ
  B = body.block_at

  abbrev off : ℕ
  off = body.offset

  abbrev xs : List ℕ
  xs = body.list

  abbrev DW : Dyn
  DW = parts_dyn D i j B off (length xs) n

  abbrev gone : ℕ → Hold
  gone = put u.hold list Gone

  abbrev pub p0 : Piece
  p0 = live u.entries gone D.piece

  pub words_j : DW.words j ≡ slice_index (words2 B off (length xs) n)
  words_j = put_same (put D.words i (slice_index (words1 B off n))) j (slice_index (words2 B off (length xs) n))

  pub parts_agree : Agree n0 D DW
  parts_agree = record {
    values = λ v lt. refl;
    words = λ v t lt. ap (λ g. g t) (put_below (put D.words i (slice_index (words1 B off n))) j (slice_index (words2 B off (length xs) n)) v (omega (arith, lt, ni, ij)) ∙ put_below D.words i (slice_index (words1 B off n)) v (omega (arith, lt, ni)));
    pieces = λ v lt. refl;
  }

  abbrev low : State
  low = record { toks = u.toks; entries = u.entries; hold = gone; next = n0; facts = u.facts; defs = u.defs; branch = u.branch }

  gone_or : (v : ℕ) → (gone v ≡ u.hold v) ⊎ (gone v ≡ Gone)
  gone_or v = by (eqb v list) refl
    where
      by : (c : Bool) → eqb v list ≡ c → (gone v ≡ u.hold v) ⊎ (gone v ≡ Gone)
      by true e = inr (cond-true (eqb v list) Gone (u.hold v) e)
      by false e = inl (cond-false (eqb v list) Gone (u.hold v) e)

  ctx0 : Ctx f mark base D0 low D p0
  ctx0 = record {
    below = below;
    rels = rels_agree n0 DW D (back_agree n0 D DW parts_agree) n0 u.entries (le_same n0) below ctx.rels;
    shares = shares_agree n0 DW D (back_agree n0 D DW parts_agree) f n0 u.entries (le_same n0) below ctx.shares;
    kept = kept_less u.entries u.hold gone gone_or ctx.kept;
    facts = facts0;
    defs = defs0;
    piece = refl;
    marked = marked;
    origin = ctx.origin;
    agree = agree0;
  }

  pub list_whole : IsAllWhole (D.piece list)
  list_whole = (vars_whole f DW u.entries u.hold ctx.shares ctx.kept (list ∷ []) (among, tt) (owned, tt)).0

  abbrev pub cut : ℕ
  cut = suc (off + n)

  abbrev pub ti : Thing
  ti = record { value = v.List (take n xs); words = words1 B off n; piece = front B cut body.range_held }

  abbrev pub tj : Thing
  tj = record { value = v.List (drop n xs); words = words2 B off (length xs) n; piece = back B cut body.range_held }

  abbrev pub DI : Dyn
  DI = bind_dyn D i ti

  abbrev pub DP : Dyn
  DP = bind_dyn DI j tj

  new_lt : (a : ℕ) → a < suc a
  new_lt a = omega arith

  ctx1 : Ctx f mark base D0 (bind_entry low i (slice_of i) (b ∷ o ∷ k ∷ [])) DI (plus ti.piece p0)
  ctx1 =
      bind_ctx f mark base D0 low D p0 i (slice_of i) ti (b ∷ o ∷ k ∷ []) ctx0 ni (front_slice_is B off (length xs) xs body.range_held body.slice n le)
      (λ e. sym (ap (λ g. g 0 ∷ g 1 ∷ g 2 ∷ []) (put_same D.words i (slice_index ti.words))), lt-ltb i (suc i) (new_lt i))
      (front_whole B cut body.range_held (body.whole list_whole).1)
      (olds_more n0 (suc i) (b ∷ o ∷ k ∷ []) (omega (arith, ni)) left_old)
      (words_agree n0 D DI (bind_agree D i ti n0 ni) (b ∷ o ∷ k ∷ []) left_old ∙ left_words)

  -- both parts are variables of their own, and the list is gone
  pub ctx2 : Ctx f mark base D0 (parts_state u list i j b o k) DP (plus tj.piece (plus ti.piece p0))
  ctx2 =
      bind_ctx f mark base D0 (bind_entry low i (slice_of i) (b ∷ o ∷ k ∷ [])) DI (plus ti.piece p0) j (slice_of j) tj (b ∷ Of j 1 ∷ Of j 2 ∷ []) ctx1 ij (right_part B off (length xs) xs body.range_held body.slice h hs n le)
      (λ e. sym (ap (λ g. g 0 ∷ g 1 ∷ g 2 ∷ []) words_j), lt-ltb j (suc j) (new_lt j))
      (back_whole B cut body.range_held (body.whole list_whole).1)
      ((olds_more n0 (suc j) (b ∷ []) (omega (arith, ni, ij)) (left_old.0, tt)).0, (new_lt j, (new_lt j, tt)))
      (ap (λ y. y ∷ word DP (Of j 1) ∷ word DP (Of j 2) ∷ []) (ap (λ y. slice_index y 0) (words_agree n0 D DP both (b ∷ []) (left_old.0, tt)) ∙ ap (λ y. slice_index y 0) left_words) ∙
      ap (λ g. B ∷ g 1 ∷ g 2 ∷ []) words_j)
    where
      both : Agree n0 D DP
      both = agree_then n0 (suc i) D DI DP (omega (arith, ni)) (bind_agree D i ti n0 ni) (bind_agree DI j tj (suc i) ij)
