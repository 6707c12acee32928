-- Arguments as a procedure of the text sees them: an array may stand for a slice, which is then its range without its name.
use Rattle.std.proofs.Common.{◌≡◌, ℕ, ◌-◌, ◌^◌, Bool, true, false, not, ◌++◌, List, [], ◌∷◌, length, refl, sym, ap, ◌∙◌, subst, ⊎_elim, ◌⊎◌, inl, inr}
use Rattle.std.proofs.lemmas.Bool.{and_parts, true≢false}
use Rattle.nres_core.specs.declared.value.Value.TheVariants as v
use Rattle.target_code.specs.declared.tree.InParam.{InParam}
use Rattle.target_code.specs.declared.tree.Rep.{Rep}
use Rattle.target_code.specs.declared.tree.Rep.TheVariants as rep
use Rattle.target_meaning.specs.Piece.{Nil, Piece, none, plus, AreDisjoint, IsAllWhole}
use Rattle.target_meaning.proofs.Shares.{plus-comm, plus-assoc}
use Rattle.triple_logic.specs.Parts.{AtLeast}
use Rattle.relations.specs.Represents.{Represents}
use Rattle.row_laws.specs.Rows.{Thing, values_of, words_of, pieces_of}
use Rattle.soundness.specs.Start.{reps_of}
use Rattle.rule_check.specs.Context.{Shape, is_slice}
use Rattle.rule_check.specs.Steps.{stands_for, stand_for}
use Rattle.start_ends.specs.Things.{AllThings, ClearOf, Given, kept_things, kepts_of}
use Rattle.fits_sound.specs.Meant.{All_rel}
use Rattle.fits_sound.specs.RowShapes.{shape_reps}
use Rattle.fits_sound.proofs.Halves.{Body, body_of}
use Rattle.fits_sound.proofs.Join.{same_rep_is}
use Rattle.fits_sound.proofs.Take.{none_whole}
use Rattle.fits_sound.proofs.Targets.{slice_in}

-- an argument in x that stands for one in y: its name, where that stays behind, and what is seen of it
pub record Seen (x y : Rep) (t : Thing) : Type 0 where
  pub name : Piece
  pub part : Piece
  pub is : t.piece ≡ plus name part
  pub rel : Represents y t.value t.words part
  pub whole : IsAllWhole t.piece → IsAllWhole name × IsAllWhole part
  pub sub : (b j : ℕ) → (part b j ≡ Nil) ⊎ (part b j ≡ t.piece b j)
  -- another slice with these words in its place
  pub back : is_slice y ≡ true → (u : Thing) → Represents y u.value u.words u.piece → u.words ≡ t.words → Represents x u.value t.words (plus name u.piece) × (IsAllWhole t.piece → IsAllWhole u.piece → IsAllWhole (plus name u.piece))
  pub plain : is_slice y ≡ false → name ≡ none

seen_same : (x : Rep) (t : Thing) → Represents x t.value t.words t.piece → Seen x x t
seen_same x t r = record {
  name = none;
  part = t.piece;
  is = refl;
  rel = r;
  whole = λ w. (none_whole, w);
  sub = λ b j. inr refl;
  back = λ c u h e. (subst (λ z. Represents x u.value z u.piece) e h, λ w k. k);
  plain = λ c. refl;
}

array_seen : (t : Thing) → Represents rep.Array t.value t.words t.piece → Seen rep.Array rep.Slice t
array_seen t r =
    let B = body_of rep.Array t.value t.words t.piece refl r in
    record {
      name = B.name;
      part = B.range_held;
      is = B.is;
      rel = subst (λ z. Represents rep.Slice z t.words B.range_held) (sym B.value) (subst (λ z. Represents rep.Slice (v.List B.list) z B.range_held) (sym B.words) B.slice);
      whole = B.whole;
      sub = B.sub;
      back = λ c u h e. returned B u (subst (λ z. Represents rep.Slice u.value z u.piece) (e ∙ B.words) h);
      plain = λ c. absurd (true≢false c);
    }
  where
    returned : (B : Body rep.Array t.value t.words t.piece) (u : Thing) → Represents rep.Slice u.value (B.block_at ∷ B.offset ∷ length B.list ∷ []) u.piece → Represents rep.Array u.value t.words (plus B.name u.piece) × (IsAllWhole t.piece → IsAllWhole u.piece → IsAllWhole (plus B.name u.piece))
    returned B u h =
        let s = slice_in u.value B.block_at B.offset (length B.list) u.piece h in
        let n : length s.list ≡ length B.list = sym s.slice.layout.count in
        let g : Represents rep.Slice (v.List s.list) (B.block_at ∷ B.offset ∷ length s.list ∷ []) u.piece = subst (λ z. Represents rep.Slice (v.List s.list) (B.block_at ∷ B.offset ∷ z ∷ []) u.piece) (sym n) s.slice in
        (subst (λ z. Represents rep.Array z t.words (plus B.name u.piece)) (sym s.value) (B.back_in s.list u.piece n g), B.whole_in s.list u.piece n g)

pub seen_one : (x y : Rep) (t : Thing) → stands_for x y ≡ true → Represents x t.value t.words t.piece → Seen x y t
seen_one rep.Array rep.Slice t c r = array_seen t r
seen_one x y t c r = subst (λ z. Seen x z t) (same_rep_is x y c) (seen_same x t r)

-- ---- all of them

abbrev pub All_seen : List Shape → List InParam → List Thing → Type 0
All_seen [] [] [] = Unit {0}
All_seen [] [] (t ∷ ts) = ⊥
All_seen [] (y ∷ ys) ts = ⊥
All_seen (z ∷ zs) [] ts = ⊥
All_seen (z ∷ zs) (y ∷ ys) [] = ⊥
All_seen (z ∷ zs) (y ∷ ys) (t ∷ ts) = Seen z.rep y.rep t × All_seen zs ys ts

pub all_seen : (zs : List Shape) (ys : List InParam) (ts : List Thing) → stand_for (shape_reps zs) ys ≡ true → All_rel zs ts → All_seen zs ys ts
all_seen [] [] [] e r = tt
all_seen [] [] (t ∷ ts) e r = absurd r
all_seen [] (y ∷ ys) ts e r = absurd (let o : ⊥ = cc e in o)
all_seen (z ∷ zs) [] ts e r = absurd (let o : ⊥ = cc e in o)
all_seen (z ∷ zs) (y ∷ ys) [] e r = absurd r
all_seen (z ∷ zs) (y ∷ ys) (t ∷ ts) e r =
    let w = and_parts (stands_for z.rep y.rep) (stand_for (shape_reps zs) ys) e in
    (seen_one z.rep y.rep t w.0 r.0, all_seen zs ys ts w.1 r.1)

abbrev pub seen_thing : {x y : Rep} (t : Thing) → Seen x y t → Thing
seen_thing t s = record { value = t.value; words = t.words; piece = s.part }

-- what the procedure is given
abbrev pub seen : (zs : List Shape) (ys : List InParam) (ts : List Thing) → All_seen zs ys ts → List Thing
seen [] ys ts a = []
seen (z ∷ zs) [] ts a = []
seen (z ∷ zs) (y ∷ ys) [] a = []
seen (z ∷ zs) (y ∷ ys) (t ∷ ts) a = record { value = t.value; words = t.words; piece = a.0.part } ∷ seen zs ys ts a.1

abbrev pub plus_if : Bool → Piece → Piece → Piece
plus_if true p q = plus p q
plus_if false p q = q

-- the names that stay behind, of what is kept, and of what is taken over
abbrev pub kept_names : (zs : List Shape) (ys : List InParam) (ts : List Thing) → All_seen zs ys ts → Piece
kept_names [] ys ts a = none
kept_names (z ∷ zs) [] ts a = none
kept_names (z ∷ zs) (y ∷ ys) [] a = none
kept_names (z ∷ zs) (y ∷ ys) (t ∷ ts) a = plus_if y.kept a.0.name (kept_names zs ys ts a.1)

abbrev pub taken_names : (zs : List Shape) (ys : List InParam) (ts : List Thing) → All_seen zs ys ts → Piece
taken_names [] ys ts a = none
taken_names (z ∷ zs) [] ts a = none
taken_names (z ∷ zs) (y ∷ ys) [] a = none
taken_names (z ∷ zs) (y ∷ ys) (t ∷ ts) a = plus_if (not y.kept) a.0.name (taken_names zs ys ts a.1)

pub seen_related : (zs : List Shape) (ys : List InParam) (ts : List Thing) (a : All_seen zs ys ts) → AllThings (reps_of ys) (seen zs ys ts a)
seen_related [] [] [] a = tt
seen_related [] [] (t ∷ ts) a = absurd a
seen_related [] (y ∷ ys) ts a = absurd a
seen_related (z ∷ zs) [] ts a = absurd a
seen_related (z ∷ zs) (y ∷ ys) [] a = absurd a
seen_related (z ∷ zs) (y ∷ ys) (t ∷ ts) a = (a.0.rel, seen_related zs ys ts a.1)

pub seen_values : (zs : List Shape) (ys : List InParam) (ts : List Thing) (a : All_seen zs ys ts) → values_of (seen zs ys ts a) ≡ values_of ts
seen_values [] [] [] a = refl
seen_values [] [] (t ∷ ts) a = absurd a
seen_values [] (y ∷ ys) ts a = absurd a
seen_values (z ∷ zs) [] ts a = absurd a
seen_values (z ∷ zs) (y ∷ ys) [] a = absurd a
seen_values (z ∷ zs) (y ∷ ys) (t ∷ ts) a = ap (λ k. t.value ∷ k) (seen_values zs ys ts a.1)

pub seen_words : (zs : List Shape) (ys : List InParam) (ts : List Thing) (a : All_seen zs ys ts) → words_of (seen zs ys ts a) ≡ words_of ts
seen_words [] [] [] a = refl
seen_words [] [] (t ∷ ts) a = absurd a
seen_words [] (y ∷ ys) ts a = absurd a
seen_words (z ∷ zs) [] ts a = absurd a
seen_words (z ∷ zs) (y ∷ ys) [] a = absurd a
seen_words (z ∷ zs) (y ∷ ys) (t ∷ ts) a = ap (λ k. t.words ++ k) (seen_words zs ys ts a.1)

-- ---- sums

middle : (a b c d : Piece) → plus (plus a b) (plus c d) ≡ plus (plus a c) (plus b d)
middle a b c d = plus-assoc a b (plus c d) ∙ ap (plus a) (sym (plus-assoc b c d) ∙ ap (λ z. plus z d) (plus-comm b c) ∙ plus-assoc c b d) ∙ sym (plus-assoc a c (plus b d))

later : (a b c : Piece) → plus a (plus b c) ≡ plus b (plus a c)
later a b c = sym (plus-assoc a b c) ∙ ap (λ z. plus z c) (plus-comm a b) ∙ plus-assoc b a c

-- all is the names and what is given
pub seen_sum : (zs : List Shape) (ys : List InParam) (ts : List Thing) (a : All_seen zs ys ts) → pieces_of ts ≡ plus (plus (kept_names zs ys ts a) (taken_names zs ys ts a)) (pieces_of (seen zs ys ts a))
seen_sum [] [] [] a = refl
seen_sum [] [] (t ∷ ts) a = absurd a
seen_sum [] (y ∷ ys) ts a = absurd a
seen_sum (z ∷ zs) [] ts a = absurd a
seen_sum (z ∷ zs) (y ∷ ys) [] a = absurd a
seen_sum (z ∷ zs) (y ∷ ys) (t ∷ ts) a =
    let K = kept_names zs ys ts a.1 in
    let T = taken_names zs ys ts a.1 in
    let S = pieces_of (seen zs ys ts a.1) in
    ap (λ k. plus k (pieces_of ts)) a.0.is ∙ ap (plus (plus a.0.name a.0.part)) (seen_sum zs ys ts a.1) ∙ middle a.0.name a.0.part (plus K T) S ∙ ap (λ k. plus k (plus a.0.part S)) (by y.kept K T)
  where
    by : (k : Bool) (K T : Piece) → plus a.0.name (plus K T) ≡ plus (plus_if k a.0.name K) (plus_if (not k) a.0.name T)
    by true K T = sym (plus-assoc a.0.name K T)
    by false K T = later a.0.name K T

-- what is kept is there again with its names
pub kept_sum : (zs : List Shape) (ys : List InParam) (ts : List Thing) (a : All_seen zs ys ts) → pieces_of (kept_things (kepts_of ys) ts) ≡ plus (kept_names zs ys ts a) (pieces_of (kept_things (kepts_of ys) (seen zs ys ts a)))
kept_sum [] [] [] a = refl
kept_sum [] [] (t ∷ ts) a = absurd a
kept_sum [] (y ∷ ys) ts a = absurd a
kept_sum (z ∷ zs) [] ts a = absurd a
kept_sum (z ∷ zs) (y ∷ ys) [] a = absurd a
kept_sum (z ∷ zs) (y ∷ ys) (t ∷ ts) a = by y.kept (kept_sum zs ys ts a.1)
  where
    K : Piece
    K = kept_names zs ys ts a.1

    S : Piece
    S = pieces_of (kept_things (kepts_of ys) (seen zs ys ts a.1))

    by : (k : Bool) → pieces_of (kept_things (kepts_of ys) ts) ≡ plus (kept_names zs ys ts a.1) (pieces_of (kept_things (kepts_of ys) (seen zs ys ts a.1))) → pieces_of (kept_things (k ∷ kepts_of ys) (t ∷ ts)) ≡ plus (plus_if k a.0.name (kept_names zs ys ts a.1)) (pieces_of (kept_things (k ∷ kepts_of ys) (record { value = t.value; words = t.words; piece = a.0.part } ∷ seen zs ys ts a.1)))
    by true e = ap (λ p. plus p (pieces_of (kept_things (kepts_of ys) ts))) a.0.is ∙ ap (plus (plus a.0.name a.0.part)) e ∙ middle a.0.name a.0.part (kept_names zs ys ts a.1) (pieces_of (kept_things (kepts_of ys) (seen zs ys ts a.1)))
    by false e = e

-- ---- what is seen of an argument is apart, and has the shares, that the argument has

abbrev Sub : Piece → Piece → Type 0
Sub p q = (b j : ℕ) → (p b j ≡ Nil) ⊎ (p b j ≡ q b j)

sub_least : (m : ℕ) (p q : Piece) → Sub p q → ((b j : ℕ) → AtLeast m (q b j)) → (b j : ℕ) → AtLeast m (p b j)
sub_least m p q s w b j = ⊎_elim (λ e. subst (AtLeast m) (sym e) tt) (λ e. subst (AtLeast m) (sym e) (w b j)) (s b j)

sub_apart : (p q p' q' : Piece) → Sub p' p → Sub q' q → AreDisjoint p q → AreDisjoint p' q'
sub_apart p q p' q' s t d b j =
    ⊎_elim
    (λ e. inl (⊎_elim (λ k. k) (λ k. k ∙ e) (s b j)))
    (λ e. inr (⊎_elim (λ k. k) (λ k. k ∙ e) (t b j)))
    (d b j)

clear_seen : (p p' : Piece) → Sub p' p → (zs : List Shape) (ys : List InParam) (ts : List Thing) (a : All_seen zs ys ts) → ClearOf p (kepts_of ys) ts → ClearOf p' (kepts_of ys) (seen zs ys ts a)
clear_seen p p' s [] [] [] a c = tt
clear_seen p p' s [] [] (t ∷ ts) a c = absurd a
clear_seen p p' s [] (y ∷ ys) ts a c = absurd a
clear_seen p p' s (z ∷ zs) [] ts a c = absurd a
clear_seen p p' s (z ∷ zs) (y ∷ ys) [] a c = absurd a
clear_seen p p' s (z ∷ zs) (y ∷ ys) (t ∷ ts) a c = by y.kept (λ d. clear_seen p p' s zs ys ts a.1 d) c
  where
    by : (k : Bool) → (ClearOf p (kepts_of ys) ts → ClearOf p' (kepts_of ys) (seen zs ys ts a.1)) → ClearOf p (k ∷ kepts_of ys) (t ∷ ts) → ClearOf p' (k ∷ kepts_of ys) (record { value = t.value; words = t.words; piece = a.0.part } ∷ seen zs ys ts a.1)
    by true ih c = (sub_apart p t.piece p' a.0.part s a.0.sub c.0, ih c.1)
    by false ih c = ih c

pub given_seen : (f : ℕ) (zs : List Shape) (ys : List InParam) (ts : List Thing) (a : All_seen zs ys ts) → Given f (kepts_of ys) ts → Given f (kepts_of ys) (seen zs ys ts a)
given_seen f [] [] [] a g = tt
given_seen f [] [] (t ∷ ts) a g = absurd a
given_seen f [] (y ∷ ys) ts a g = absurd a
given_seen f (z ∷ zs) [] ts a g = absurd a
given_seen f (z ∷ zs) (y ∷ ys) [] a g = absurd a
given_seen f (z ∷ zs) (y ∷ ys) (t ∷ ts) a g = by y.kept (λ d. given_seen f zs ys ts a.1 d) g
  where
    by : (k : Bool) → (Given f (kepts_of ys) ts → Given f (kepts_of ys) (seen zs ys ts a.1)) → Given f (k ∷ kepts_of ys) (t ∷ ts) → Given f (k ∷ kepts_of ys) (record { value = t.value; words = t.words; piece = a.0.part } ∷ seen zs ys ts a.1)
    by true ih g = (sub_least (2 ^ (64 - f)) a.0.part t.piece a.0.sub g.0, clear_seen t.piece a.0.part a.0.sub zs ys ts a.1 g.1, ih g.2)
    by false ih g = ((a.0.whole g.0).1, ih g.1)
