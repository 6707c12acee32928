-- What `main` is given at a start, and its end.
use Rattle.std.proofs.Common.{◌≡◌, ℕ, zero, suc, ◌⊎◌, inl, inr, ⊎_elim, Bool, true, false, if◌then◌else◌, List, [], ◌∷◌, ◌++◌, length, refl, sym, ap, ◌∙◌, subst, arith}
use Rattle.std.specs.Prelude.{take, drop}
use Rattle.nres_core.specs.declared.value.Value.{Value}
use Rattle.target_code.specs.Reps.{width}
use Rattle.target_code.specs.declared.tree.InParam.{InParam}
use Rattle.target_code.specs.declared.tree.Proc.{Proc}
use Rattle.target_code.specs.declared.tree.Program.{Program}
use Rattle.target_code.specs.declared.tree.Rep.{Rep}
use Rattle.target_meaning.specs.Leaf.{Run, begin}
use Rattle.target_meaning.specs.Machine.{Heap, Leaf}
use Rattle.target_meaning.specs.Piece.{whole, Share, Nil, Some_of, Clash, add, add_if, Piece, plus, at_place, Holds, IsWhole, IsAllWhole, AreDisjoint}
use Rattle.target_meaning.proofs.Shares.{add-nil, plus-comm, plus-assoc, holds_right}
use Rattle.target_meaning.proofs.Keeps.{whole_alone}
use Rattle.triple_logic.specs.Parts.{AtLeast}
use Rattle.triple_logic.specs.Bounded.{Bounded}
use Rattle.triple_logic.specs.Safe.{Safe, at_end}
use Rattle.triple_logic.proofs.BoundedRules.{weaker_bounded}
use Rattle.triple_logic.proofs.Ends.{nil_right}
use Rattle.triple_logic.proofs.Par.{weaker}
use Rattle.relations.specs.Represents.{Represents}
use Rattle.relations.specs.Values.{AllRepresent, AreApart, union}
use Rattle.soundness.specs.Behaviour.{Behaviour}
use Rattle.soundness.specs.Good.{kept_pieces}
use Rattle.soundness.specs.SafeEnds.{EndsGood, IsSafeFrom, IsBoundedFrom}
use Rattle.soundness.specs.Start.{reps_of}
use Rattle.layout_facts.proofs.Facts.{width_is}
use Rattle.row_laws.specs.Rows.{Thing, values_of, words_of, pieces_of}
use Rattle.start_ends.specs.Things.{AllThings, Wholes, kept_things, ClearOf, Given, kepts_of, ProcEnd, MainSafe, MainBounded}

-- ---- values one after the other

abbrev pub piece_list : List Thing → List Piece
piece_list [] = []
piece_list (t ∷ ts) = t.piece ∷ piece_list ts

pub union_is : (ts : List Thing) → union (piece_list ts) ≡ pieces_of ts
union_is [] = refl
union_is (t ∷ ts) = ap (plus t.piece) (union_is ts)

take_drop : (n : ℕ) (xs : List ℕ) → take n xs ++ drop n xs ≡ xs
take_drop zero xs = refl
take_drop (suc n) [] = refl
take_drop (suc n) (x ∷ xs) = ap (λ ys. x ∷ ys) (take_drop n xs)

take_front : (xs ys : List ℕ) → take (length xs) (xs ++ ys) ≡ xs
take_front [] ys = refl
take_front (x ∷ xs) ys = ap (λ zs. x ∷ zs) (take_front xs ys)

drop_front : (xs ys : List ℕ) → drop (length xs) (xs ++ ys) ≡ ys
drop_front [] ys = refl
drop_front (x ∷ xs) ys = drop_front xs ys

-- registers that represent values, as things
pub record AsThings (rs : List Rep) (us : List Value) (regs : List ℕ) (ps : List Piece) : Type 0 where
  pub things : List Thing
  pub all : AllThings rs things
  pub values : values_of things ≡ us
  pub words : words_of things ≡ regs
  pub pieces : piece_list things ≡ ps

pub as_things : (rs : List Rep) (us : List Value) (regs : List ℕ) (ps : List Piece) → AllRepresent rs us regs ps → AsThings rs us regs ps
as_things [] [] regs [] a = record { things = []; all = tt; values = refl; words = sym a; pieces = refl }
as_things (r ∷ rs) (u ∷ us) regs (p ∷ ps) a =
    let rest = as_things rs us (drop (width r) regs) ps a.1 in
    record {
      things = record { value = u; words = take (width r) regs; piece = p } ∷ rest.things;
      all = (a.0, rest.all);
      values = ap (λ y. u ∷ y) rest.values;
      words = ap (λ y. take (width r) regs ++ y) rest.words ∙ take_drop (width r) regs;
      pieces = ap (λ y. p ∷ y) rest.pieces;
    }
as_things _ _ regs _ a = absurd a

pub all_represent : (rs : List Rep) (ts : List Thing) → AllThings rs ts → AllRepresent rs (values_of ts) (words_of ts) (piece_list ts)
all_represent [] [] a = refl
all_represent (r ∷ rs) (t ∷ ts) a =
    let w : length t.words ≡ width r = width_is r t.value t.words t.piece a.0 in (
      subst (λ y. Represents r t.value y t.piece) (sym (ap (λ n. take n (t.words ++ words_of ts)) (sym w) ∙ take_front t.words (words_of ts))) a.0,
      subst (λ y. AllRepresent rs (values_of ts) y (piece_list ts)) (sym (ap (λ n. drop n (t.words ++ words_of ts)) (sym w) ∙ drop_front t.words (words_of ts))) (all_represent rs ts a.1),
    )
all_represent [] (t ∷ ts) a = absurd a
all_represent (r ∷ rs) [] a = absurd a

-- ---- what is given

nil_left : (x y : Share) → add x y ≡ Nil → x ≡ Nil
nil_left Nil y e = refl
nil_left Clash y e = absurd (cc e)
nil_left (Some_of v k) Nil e = absurd (cc e)
nil_left (Some_of v k) Clash e = absurd (cc e)
nil_left (Some_of v k) (Some_of u j) e = absurd (some_nil _ e)
  where
    some_nil : (t : Bool) → add_if t v k j ≡ Nil → ⊥
    some_nil true e = cc e
    some_nil false e = cc e

-- of two pieces that are apart and whole together each is whole
left_whole : (p q : Piece) → AreDisjoint p q → IsAllWhole (plus p q) → IsAllWhole p
left_whole p q a w b j = ⊎_elim (λ e. inl e) (λ e. by (p b j) (q b j) e (w b j)) (a b j)
  where
    by : (x y : Share) → y ≡ Nil → (add x y ≡ Nil) ⊎ IsWhole (add x y) → (x ≡ Nil) ⊎ IsWhole x
    by x y e z = subst (λ s. (s ≡ Nil) ⊎ IsWhole s) (ap (add x) e ∙ add-nil x) z

right_whole : (p q : Piece) → AreDisjoint p q → IsAllWhole (plus p q) → IsAllWhole q
right_whole p q a w b j = ⊎_elim (λ e. subst (λ s. (add s (q b j) ≡ Nil) ⊎ IsWhole (add s (q b j))) e (w b j)) (λ e. inl e) (a b j)

pub each_whole : (ts : List Thing) → AreApart (piece_list ts) → IsAllWhole (union (piece_list ts)) → Wholes ts
each_whole [] a w = tt
each_whole (t ∷ ts) a w = (left_whole t.piece (union (piece_list ts)) a.0 w, each_whole ts a.1 (right_whole t.piece (union (piece_list ts)) a.0 w))

whole_least : (x : Share) → (x ≡ Nil) ⊎ IsWhole x → AtLeast whole x
whole_least Nil w = tt
whole_least Clash w = tt
whole_least (Some_of v k) w = ⊎_elim (λ e. absurd (cc e)) (λ (e : suc k ≡ whole). omega (arith, e)) w

clear_of : (p : Piece) (ks : List Bool) (ts : List Thing) → AreDisjoint p (union (piece_list ts)) → ClearOf p ks ts
clear_of p [] ts a = tt
clear_of p (k ∷ ks) [] a = tt
clear_of p (true ∷ ks) (t ∷ ts) a = (
  λ b j. ⊎_elim (λ e. inl e) (λ e. inr (nil_left (t.piece b j) (union (piece_list ts) b j) e)) (a b j),
  clear_of p ks ts (λ b j. ⊎_elim (λ e. inl e) (λ e. inr (nil_right (t.piece b j) (union (piece_list ts) b j) e)) (a b j)),
)
clear_of p (false ∷ ks) (t ∷ ts) a = clear_of p ks ts (λ b j. ⊎_elim (λ e. inl e) (λ e. inr (nil_right (t.piece b j) (union (piece_list ts) b j) e)) (a b j))

pub given_whole : (ks : List Bool) (ts : List Thing) → AreApart (piece_list ts) → Wholes ts → Given 0 ks ts
given_whole [] ts a w = tt
given_whole (k ∷ ks) [] a w = tt
given_whole (true ∷ ks) (t ∷ ts) a w = (λ b j. whole_least (t.piece b j) (w.0 b j), clear_of t.piece ks ts a.0, given_whole ks ts a.1 w.1)
given_whole (false ∷ ks) (t ∷ ts) a w = (w.0, given_whole ks ts a.1 w.1)

-- ---- ends

pub kept_whole : (ks : List Bool) (ts : List Thing) → Wholes ts → Wholes (kept_things ks ts)
kept_whole [] ts w = tt
kept_whole (k ∷ ks) [] w = tt
kept_whole (true ∷ ks) (t ∷ ts) w = (w.0, kept_whole ks ts w.1)
kept_whole (false ∷ ks) (t ∷ ts) w = kept_whole ks ts w.1

pub kept_is : (is : List InParam) (ts : List Thing) → piece_list (kept_things (kepts_of is) ts) ≡ kept_pieces is (piece_list ts)
kept_is [] ts = refl
kept_is (i ∷ is) [] = refl
kept_is (i ∷ is) (t ∷ ts) = by i.kept (kept_is is ts)
  where
    by : (k : Bool) → piece_list (kept_things (kepts_of is) ts) ≡ kept_pieces is (piece_list ts) → piece_list (kept_things (k ∷ kepts_of is) (t ∷ ts)) ≡ (if k then t.piece ∷ kept_pieces is (piece_list ts) else kept_pieces is (piece_list ts))
    by true e = ap (λ y. t.piece ∷ y) e
    by false e = e

pieces_join : (ts us : List Thing) → piece_list (ts ++ us) ≡ piece_list ts ++ piece_list us
pieces_join [] us = refl
pieces_join (t ∷ ts) us = ap (λ y. t.piece ∷ y) (pieces_join ts us)

piece_join : (ts us : List Thing) → pieces_of (ts ++ us) ≡ plus (pieces_of ts) (pieces_of us)
piece_join [] us = refl
piece_join (t ∷ ts) us = ap (plus t.piece) (piece_join ts us) ∙ sym (plus-assoc t.piece (pieces_of ts) (pieces_of us))

whole_join : (ts us : List Thing) → Wholes ts → Wholes us → Wholes (ts ++ us)
whole_join [] us w z = z
whole_join (t ∷ ts) us w z = (w.0, whole_join ts us w.1 z)

-- what a heap has, each whole, is apart
pub whole_apart : (ts : List Thing) (h : Heap) → Wholes ts → Holds (pieces_of ts) h → AreApart (piece_list ts)
whole_apart [] h w hs = tt
whole_apart (t ∷ ts) h w hs = (
  λ b j. subst (λ y. (t.piece b j ≡ Nil) ⊎ (y b j ≡ Nil)) (sym (union_is ts))
      (⊎_elim (λ e. inl e) (λ e. inr (whole_alone (t.piece b j) (pieces_of ts b j) (at_place (h.cells b) j) e (hs.places b j))) (w.0 b j)),
  whole_apart ts h w.1 (holds_right t.piece (pieces_of ts) h hs),
)

pub end_is_good : (m : Behaviour) (T : Program) (ts : List Thing) (vs : List ℕ) (q : Piece) (h : Heap) → Wholes ts → Holds q h → ProcEnd (m.allows (values_of ts)) T.outs (kepts_of T.ins) ts vs q → EndsGood m T (values_of ts) (piece_list ts) vs q
end_is_good m T ts vs q h w hs e =
    let kept = kept_things (kepts_of T.ins) ts in
    let all = e.outs ++ kept in
    let is : q ≡ pieces_of all = e.piece ∙ plus-comm (pieces_of kept) (pieces_of e.outs) ∙ sym (piece_join e.outs kept) in
    let list : piece_list all ≡ piece_list e.outs ++ kept_pieces T.ins (piece_list ts) = pieces_join e.outs kept ∙ ap (λ y. piece_list e.outs ++ y) (kept_is T.ins ts) in
    record {
      results = values_of e.outs;
      outs = piece_list e.outs;
      allowed = e.gives;
      related = subst (λ y. AllRepresent T.outs (values_of e.outs) y (piece_list e.outs)) (sym e.words) (all_represent T.outs e.outs e.related);
      apart = subst AreApart list (whole_apart all h (whole_join e.outs kept e.whole (kept_whole (kepts_of T.ins) ts w)) (subst (λ y. Holds y h) is hs));
      all = λ b j. ap (λ y. y b j) (ap union (sym list) ∙ union_is all ∙ sym is);
    }

-- ---- `main`

module _ (main : Proc) (m : Behaviour) (T : Program) where
  abbrev Ends : List Thing → List ℕ → Piece → Type 0
  Ends ts = ProcEnd (m.allows (values_of ts)) T.outs (kepts_of T.ins) ts

  abbrev Good : List Value → List Piece → List ℕ → Piece → Type 0
  Good us ps = EndsGood m T us ps

  pub safe_from : MainSafe main m T → IsSafeFrom main m T
  safe_from safe us regs ps reps apart full nofail n =
      let a = as_things (reps_of T.ins) us regs ps reps in
      at a.things us a.values regs a.words ps a.pieces a.all apart full nofail
    where
      on_things : (ts : List Thing) → AllThings (reps_of T.ins) ts → AreApart (piece_list ts) → IsAllWhole (union (piece_list ts)) → ¬ m.can_fail (values_of ts) → Safe T.procs at_end (Good (values_of ts) (piece_list ts)) n 0 (Leaf (union (piece_list ts)) (Run (begin main (words_of ts)) []))
      on_things ts all apart full nofail =
          let w = each_whole ts apart full in
          subst (λ y. Safe T.procs at_end (Good (values_of ts) (piece_list ts)) n 0 (Leaf y (Run (begin main (words_of ts)) []))) (sym (union_is ts))
          (weaker T.procs at_end (Ends ts) (Good (values_of ts) (piece_list ts)) (λ vs q h hs e. end_is_good m T ts vs q h w hs e) n 0 (Leaf (pieces_of ts) (Run (begin main (words_of ts)) []))
          (safe ts all (given_whole (kepts_of T.ins) ts apart w) nofail n))

      at : (ts : List Thing) (us : List Value) → values_of ts ≡ us → (regs : List ℕ) → words_of ts ≡ regs → (ps : List Piece) → piece_list ts ≡ ps → AllThings (reps_of T.ins) ts → AreApart ps → IsAllWhole (union ps) → ¬ m.can_fail us → Safe T.procs at_end (Good us ps) n 0 (Leaf (union ps) (Run (begin main regs) []))
      at ts us eu regs er ps ep all apart full nofail =
          subst (λ y. Safe T.procs at_end (Good y ps) n 0 (Leaf (union ps) (Run (begin main regs) []))) eu
          (subst (λ y. Safe T.procs at_end (Good (values_of ts) ps) n 0 (Leaf (union ps) (Run (begin main y) []))) er
          (subst (λ y. Safe T.procs at_end (Good (values_of ts) y) n 0 (Leaf (union y) (Run (begin main (words_of ts)) []))) ep
          (on_things ts all (subst AreApart (sym ep) apart) (subst (λ y. IsAllWhole (union y)) (sym ep) full) (subst (λ y. ¬ m.can_fail y) (sym eu) nofail))))

  abbrev Bound : ℕ → ℕ → Type 0
  Bound n bound = (ts : List Thing) → AllThings (reps_of T.ins) ts → Given 0 (kepts_of T.ins) ts → m.ends n (values_of ts) → Bounded T.procs at_end (Ends ts) bound 0 (Leaf (pieces_of ts) (Run (begin main (words_of ts)) []))

  pub bounded_from : MainBounded main m T → IsBoundedFrom main m T
  bounded_from bounded n us regs ps reps apart full ends =
      let a = as_things (reps_of T.ins) us regs ps reps in
      let b = bounded n in
      (b.0, at b.0 b.1 a.things us a.values regs a.words ps a.pieces a.all apart full ends)
    where
      on_things : (bound : ℕ) → Bound n bound → (ts : List Thing) → AllThings (reps_of T.ins) ts → AreApart (piece_list ts) → IsAllWhole (union (piece_list ts)) → m.ends n (values_of ts) → Bounded T.procs at_end (Good (values_of ts) (piece_list ts)) bound 0 (Leaf (union (piece_list ts)) (Run (begin main (words_of ts)) []))
      on_things bound bs ts all apart full ends =
          let w = each_whole ts apart full in
          subst (λ y. Bounded T.procs at_end (Good (values_of ts) (piece_list ts)) bound 0 (Leaf y (Run (begin main (words_of ts)) []))) (sym (union_is ts))
          (weaker_bounded T.procs at_end (Ends ts) (Good (values_of ts) (piece_list ts)) (λ vs q h hs e. end_is_good m T ts vs q h w hs e) bound 0 (Leaf (pieces_of ts) (Run (begin main (words_of ts)) []))
          (bs ts all (given_whole (kepts_of T.ins) ts apart w) ends))

      at : (bound : ℕ) → Bound n bound → (ts : List Thing) (us : List Value) → values_of ts ≡ us → (regs : List ℕ) → words_of ts ≡ regs → (ps : List Piece) → piece_list ts ≡ ps → AllThings (reps_of T.ins) ts → AreApart ps → IsAllWhole (union ps) → m.ends n us → Bounded T.procs at_end (Good us ps) bound 0 (Leaf (union ps) (Run (begin main regs) []))
      at bound bs ts us eu regs er ps ep all apart full ends =
          subst (λ y. Bounded T.procs at_end (Good y ps) bound 0 (Leaf (union ps) (Run (begin main regs) []))) eu
          (subst (λ y. Bounded T.procs at_end (Good (values_of ts) ps) bound 0 (Leaf (union ps) (Run (begin main y) []))) er
          (subst (λ y. Bounded T.procs at_end (Good (values_of ts) y) bound 0 (Leaf (union y) (Run (begin main (words_of ts)) []))) ep
          (on_things bound bs ts all (subst AreApart (sym ep) apart) (subst (λ y. IsAllWhole (union y)) (sym ep) full) (subst (λ y. m.ends n y) (sym eu) ends))))
