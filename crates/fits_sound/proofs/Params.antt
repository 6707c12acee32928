-- The parameters of a procedure, where it begins, and what is left of them at its end.
use Rattle.std.proofs.Common.{◌≡◌, ℕ, suc, ◌<◌, ◌≤◌, Bool, true, false, cond, ◌||◌, not, List, [], ◌∷◌, ◌++◌, map, refl, sym, ap, ◌∙◌, subst, arith, lt-ltb}
use Rattle.std.proofs.lemmas.Bool.{and_parts}
use Rattle.std.specs.Prelude.{nat_lt}
use Rattle.nres_meaning.specs.FlatMeaning.{numbered, no_vars}
use Rattle.target_code.specs.declared.tree.InParam.{InParam}
use Rattle.target_code.specs.declared.tree.Rep.{Rep}
use Rattle.target_code.specs.declared.tree.Rep.TheVariants as rep
use Rattle.target_meaning.specs.Piece.{Piece, none, plus, AreDisjoint}
use Rattle.target_meaning.proofs.Shares.{plus-comm, plus-assoc}
use Rattle.relations.specs.Represents.{Represents}
use Rattle.row_laws.specs.Rows.{Thing, words_of, pieces_of}
use Rattle.soundness.specs.Start.{reps_of}
use Rattle.rule_check.specs.Check.{param_hold, param_tag}
use Rattle.rule_check.specs.Context.{Hold, Owned, Kept, Gone, is_slice, is_gone, is_owned, is_container}
use Rattle.start_ends.specs.Things.{AllThings, ClearOf, Given, kept_things, kepts_of}
use Rattle.fits.specs.Places.{Entry, State, fresh, put, old_shape}
use Rattle.fits.specs.Follow.{is_there}
use Rattle.fits.specs.Programs.{param_shape, bind_param, bind_params, param_tokens, only_kept}
use Rattle.fits_sound.specs.Meant.{Dyn, word, at_hold, live, Olds, Below, Rels, Apart_if, Apart_parts, Share, Shares, Parts_kept, Agree, Tag}
use Rattle.fits_sound.proofs.Basic.{put_same, put_below, below_more, agree_same, agree_then, olds_more, rels_agree, shares_agree, kept_same, live_same, bind_dyn, bind_agree, words_agree}
use Rattle.fits_sound.proofs.Bound.{fresh_old, fresh_is, grow, map-append, olds-append}
use Rattle.fits_sound.proofs.Join.{le_same}
use Rattle.fits_sound.proofs.Sharing.{apart_sym}
use Rattle.fits_sound.proofs.Take.{no_piece}

-- nothing is bound
abbrev pub no_dyn : Dyn
no_dyn = record { value = no_vars; words = λ v j. 0; piece = λ v. none }

-- what the entries of parameters mean
pub record Params (f : ℕ) (s : State) (D : Dyn) : Type 0 where
  pub below : Below s.next s.entries
  pub rels : Rels D s.entries
  pub shares : Shares f D s.entries
  pub kept : Parts_kept s.hold s.entries

-- what is still to come is apart from what is held in part
abbrev pub Coming : Dyn → List Entry → List Bool → List Thing → Type 0
Coming D es [] ts = Unit {0}
Coming D es (k ∷ ks) [] = Unit {0}
Coming D es (true ∷ ks) (t ∷ ts) = Apart_parts D t.piece es × Coming D es ks ts
Coming D es (false ∷ ks) (t ∷ ts) = Coming D es ks ts

abbrev Clear_if : Bool → Thing → List Bool → List Thing → Type 0
Clear_if true t ks ts = ClearOf t.piece ks ts
Clear_if false t ks ts = Unit {0}

pub record Begun (f : ℕ) (s : State) (D : Dyn) (ys : List InParam) (ts : List Thing) : Type 0 where
  pub all : Params f (bind_params s ys) (grow D (numbered ys s.next) ts)
  pub agree : Agree s.next D (grow D (numbered ys s.next) ts)
  pub later : s.next ≤ (bind_params s ys).next
  pub words : map (word (grow D (numbered ys s.next) ts)) (param_tokens s.next ys) ≡ words_of ts
  pub old : Olds (bind_params s ys).next (param_tokens s.next ys)
  pub sum : live (bind_params s ys).entries (bind_params s ys).hold (grow D (numbered ys s.next) ts).piece ≡ plus (pieces_of ts) (live s.entries s.hold D.piece)
  pub left : (h : ℕ → Hold) → only_kept h (bind_params s ys).entries ≡ true → live (bind_params s ys).entries h (grow D (numbered ys s.next) ts).piece ≡ plus (pieces_of (kept_things (kepts_of ys) ts)) (live s.entries h D.piece)

swap : (a b c : Piece) → plus b (plus a c) ≡ plus (plus a b) c
swap a b c = sym (plus-assoc b a c) ∙ ap (λ y. plus y c) (plus-comm b a)

under : (a b : ℕ) → a < b → a ≤ b
under a b x = omega (arith, x)

apart_more : (D D' : Dyn) (n : ℕ) (es : List Entry) (p : Piece) → Agree n D D' → Below n es → Apart_parts D p es → Apart_parts D' p es
apart_more D D' n [] p a b r = tt
apart_more D D' n (e ∷ es) p a b r = (subst (Apart_if e.part p) (sym (a.pieces e.var b.0)) r.0, apart_more D D' n es p a (below_more e.var n es (under e.var n b.0) b.2) r.1)

module _ (f : ℕ) where
  up : (a b : ℕ) → a ≤ b → a ≤ suc b
  up a b le = omega (arith, le)

  new_lt : (v : ℕ) → v < suc v
  new_lt v = omega arith

  own_old : (v : ℕ) (y : InParam) → old_shape (suc v) (param_shape v y) ≡ true
  own_old v y = at y.rep
    where
      at : (x : Rep) → (not (is_slice x) || nat_lt (param_tag x v) (suc v)) ≡ true
      at rep.Slice = lt-ltb v (suc v) (new_lt v)
      at _ = refl

  own_tag : (D : Dyn) (v : ℕ) (y : InParam) (t : Thing) → Represents y.rep t.value t.words t.piece → Tag (bind_dyn D v t).words (param_shape v y) t.words
  own_tag D v y t r = at y.rep r
    where
      at : (x : Rep) → Represents x t.value t.words t.piece → is_slice x ≡ true → t.words ≡ (bind_dyn D v t).words (param_tag x v) 0 ∷ (bind_dyn D v t).words (param_tag x v) 1 ∷ (bind_dyn D v t).words (param_tag x v) 2 ∷ []
      at rep.Slice r e = sym (fresh_is D v (record { rep = rep.Slice; tag = v }) t r)
      at _ r e = cc e

  -- one parameter
  one : (s : State) (D : Dyn) (y : InParam) (t : Thing) → Params f s D → Represents y.rep t.value t.words t.piece → Share f (bind_dyn D s.next t) y.kept t.piece s.entries → Params f (bind_param s y) (bind_dyn D s.next t)
  one s D y t P r sh =
      let v = s.next in
      let z = param_shape v y in
      let ag = bind_agree D v t s.next (le_same v) in
      record {
        below = (new_lt v, fresh_old v z, P.below);
        rels = (
          (
            subst (λ x. Represents y.rep x (map (word (bind_dyn D v t)) (fresh v z)) (put D.piece v t.piece v)) (sym (put_same D.value v t.value))
                (subst (λ x. Represents y.rep t.value x (put D.piece v t.piece v)) (sym (fresh_is D v z t r)) (subst (λ x. Represents y.rep t.value t.words x) (sym (put_same D.piece v t.piece)) r)),
            (subst (Tag (bind_dyn D v t).words z) (sym (fresh_is D v z t r)) (own_tag D v y t r), own_old v y),
          ),
          rels_agree s.next D (bind_dyn D v t) ag s.next s.entries (le_same s.next) P.below P.rels,
        );
        shares = (subst (λ x. Share f (bind_dyn D v t) y.kept x s.entries) (sym (put_same D.piece v t.piece)) sh, shares_agree s.next D (bind_dyn D v t) ag f s.next s.entries (le_same s.next) P.below P.shares);
        kept = (λ e. ap is_owned (put_same s.hold v (param_hold y.kept)) ∙ ap (λ x. is_owned (param_hold x)) e, kept_same s.next s.entries s.hold (put s.hold v (param_hold y.kept)) P.below (λ w lt. put_below s.hold v (param_hold y.kept) w lt) P.kept);
      }

  coming_more : (D : Dyn) (v : ℕ) (t : Thing) (es : List Entry) (y : InParam) (k : Bool) → k ≡ y.kept → (ks : List Bool) (ts : List Thing) → Below v es → Clear_if k t ks ts → Coming D es ks ts → Coming (bind_dyn D v t) (record { var = v; shape = param_shape v y; words = fresh v (param_shape v y); part = k } ∷ es) ks ts
  coming_more D v t es y k ek [] ts b c g = tt
  coming_more D v t es y k ek (x ∷ ks) [] b c g = tt
  coming_more D v t es y k ek (true ∷ ks) (u ∷ ts) b c g = ((head k c, apart_more D (bind_dyn D v t) v es u.piece (bind_agree D v t v (le_same v)) b g.0), coming_more D v t es y k ek ks ts b (rest k c) g.1)
    where
      head : (k : Bool) → Clear_if k t (true ∷ ks) (u ∷ ts) → Apart_if k u.piece (put D.piece v t.piece v)
      head true c = subst (AreDisjoint u.piece) (sym (put_same D.piece v t.piece)) (apart_sym t.piece u.piece c.0)
      head false c = tt

      rest : (k : Bool) → Clear_if k t (true ∷ ks) (u ∷ ts) → Clear_if k t ks ts
      rest true c = c.1
      rest false c = tt
  coming_more D v t es y k ek (false ∷ ks) (u ∷ ts) b c g = coming_more D v t es y k ek ks ts b (rest k c) g
    where
      rest : (k : Bool) → Clear_if k t (false ∷ ks) (u ∷ ts) → Clear_if k t ks ts
      rest true c = c
      rest false c = tt

  dead : (h : Hold) (q : Piece) → q ≡ none → at_hold h q ≡ none
  dead Owned q z = z
  dead Kept q z = z
  dead Gone q z = refl

  at_left : (k : Bool) (t : Thing) (r : Rep) (h : Hold) (p : Piece) → p ≡ t.piece → Represents r t.value t.words t.piece → cond k (is_there h) (not (is_container r) || is_gone h) ≡ true → (ks : List Bool) (ts : List Thing) (X : Piece) → plus (pieces_of (kept_things ks ts)) (plus (at_hold h p) X) ≡ plus (pieces_of (kept_things (k ∷ ks) (t ∷ ts))) X
  at_left true t r Owned p e rel o ks ts X = ap (λ y. plus (pieces_of (kept_things ks ts)) (plus y X)) e ∙ swap t.piece (pieces_of (kept_things ks ts)) X
  at_left true t r Kept p e rel o ks ts X = ap (λ y. plus (pieces_of (kept_things ks ts)) (plus y X)) e ∙ swap t.piece (pieces_of (kept_things ks ts)) X
  at_left true t r Gone p e rel o ks ts X = cc o
  at_left false t r h p e rel o ks ts X = ap (λ y. plus (pieces_of (kept_things ks ts)) (plus y X)) (nothing (is_container r) refl h o)
    where
      nothing : (c : Bool) → is_container r ≡ c → (h : Hold) → (not (is_container r) || is_gone h) ≡ true → at_hold h p ≡ none
      nothing false ec h o = dead h p (e ∙ no_piece r t.value t.words t.piece ec rel)
      nothing true ec Owned o = absurd (let y : false ≡ true = sym (ap (λ z. not z || false) ec) ∙ o in let z : ⊥ = cc y in z)
      nothing true ec Kept o = absurd (let y : false ≡ true = sym (ap (λ z. not z || false) ec) ∙ o in let z : ⊥ = cc y in z)
      nothing true ec Gone o = refl

  shares_of : (D : Dyn) (v : ℕ) (t : Thing) (es : List Entry) → Below v es → (k : Bool) (ks : List Bool) (ts : List Thing) → Given f (k ∷ ks) (t ∷ ts) → Coming D es (k ∷ ks) (t ∷ ts) → Share f (bind_dyn D v t) k t.piece es
  shares_of D v t es b true ks ts g c = (g.0, apart_more D (bind_dyn D v t) v es t.piece (bind_agree D v t v (le_same v)) b c.0)
  shares_of D v t es b false ks ts g c = g.0

  given_rest : (k : Bool) (ks : List Bool) (t : Thing) (ts : List Thing) → Given f (k ∷ ks) (t ∷ ts) → Given f ks ts
  given_rest true ks t ts g = g.2
  given_rest false ks t ts g = g.1

  clear_rest : (k : Bool) (ks : List Bool) (t : Thing) (ts : List Thing) → Given f (k ∷ ks) (t ∷ ts) → Clear_if k t ks ts
  clear_rest true ks t ts g = g.1
  clear_rest false ks t ts g = tt

  coming_rest : (D : Dyn) (es : List Entry) (k : Bool) (ks : List Bool) (t : Thing) (ts : List Thing) → Coming D es (k ∷ ks) (t ∷ ts) → Coming D es ks ts
  coming_rest D es true ks t ts c = c.1
  coming_rest D es false ks t ts c = c

  held_new : (k : Bool) (p : Piece) → at_hold (param_hold k) p ≡ p
  held_new true p = refl
  held_new false p = refl

  -- what holds of all entries holds of those from before
  older_kept : (h : ℕ → Hold) (s : State) (ys : List InParam) → only_kept h (bind_params s ys).entries ≡ true → only_kept h s.entries ≡ true
  older_kept h s [] z = z
  older_kept h s (y ∷ ys) z = (and_parts (cond y.kept (is_there (h s.next)) (not (is_container y.rep) || is_gone (h s.next))) (only_kept h s.entries) (older_kept h (bind_param s y) ys z)).1

  first_kept : (s : State) (y : InParam) (ys : List InParam) (h : ℕ → Hold) → only_kept h (bind_params (bind_param s y) ys).entries ≡ true → cond y.kept (is_there (h s.next)) (not (is_container y.rep) || is_gone (h s.next)) ≡ true
  first_kept s y ys h z = (and_parts (cond y.kept (is_there (h s.next)) (not (is_container y.rep) || is_gone (h s.next))) (only_kept h s.entries) (older_kept h (bind_param s y) ys z)).0

  pub begun : (s : State) (D : Dyn) (ys : List InParam) (ts : List Thing) → Params f s D → AllThings (reps_of ys) ts → Given f (kepts_of ys) ts → Coming D s.entries (kepts_of ys) ts → Begun f s D ys ts
  begun s D [] [] P r g c = record { all = P; agree = agree_same s.next D; later = le_same s.next; words = refl; old = tt; sum = refl; left = λ h k. refl }
  begun s D [] (t ∷ ts) P r g c = absurd r
  begun s D (y ∷ ys) [] P r g c = absurd r
  begun s D (y ∷ ys) (t ∷ ts) P r g c =
      let v = s.next in
      let z = param_shape v y in
      let k = y.kept in
      let ks = kepts_of ys in
      let D1 = bind_dyn D v t in
      let s1 = bind_param s y in
      let ag1 = bind_agree D v t v (le_same v) in
      let DG = grow D1 (numbered ys (suc v)) ts in
      let b = begun s1 D1 ys ts (one s D y t P r.0 (shares_of D v t s.entries P.below k ks ts g c)) r.1 (given_rest k ks t ts g)
      (coming_more D v t s.entries y k refl ks ts P.below (clear_rest k ks t ts g) (coming_rest D s.entries k ks t ts c)) in
      record {
        all = b.all;
        agree = agree_then v (suc v) D D1 DG (up v v (le_same v)) ag1 b.agree;
        later = le_trans v (suc v) (bind_params s1 ys).next (up v v (le_same v)) b.later;
        words =
            map-append (word DG) (fresh v z) (param_tokens (suc v) ys) ∙
            ap (λ x. x ++ map (word DG) (param_tokens (suc v) ys)) (words_agree (suc v) D1 DG b.agree (fresh v z) (fresh_old v z) ∙ fresh_is D v z t r.0) ∙
            ap (λ x. t.words ++ x) b.words;
        old = olds-append (bind_params s1 ys).next (fresh v z) (param_tokens (suc v) ys) (olds_more (suc v) (bind_params s1 ys).next (fresh v z) b.later (fresh_old v z)) b.old;
        sum =
            b.sum ∙
            ap (λ x. plus (pieces_of ts) (plus x (live s.entries s1.hold D1.piece))) (ap (λ x. at_hold x (D1.piece v)) (put_same s.hold v (param_hold k)) ∙ held_new k (D1.piece v) ∙ put_same D.piece v t.piece) ∙
            swap t.piece (pieces_of ts) (live s.entries s1.hold D1.piece) ∙
            ap (plus (plus t.piece (pieces_of ts))) (live_same v s.entries s1.hold s.hold D1.piece D.piece P.below (λ x lt. ap (λ q. at_hold q (D1.piece x)) (put_below s.hold v (param_hold k) x lt) ∙ ap (at_hold (s.hold x)) (ag1.pieces x lt)));
        left = λ h k'.
            b.left h k' ∙ at_left k t y.rep (h v) (D1.piece v) (put_same D.piece v t.piece) r.0 (first_kept s y ys h k') ks ts (live s.entries h D1.piece) ∙
            ap (plus (pieces_of (kept_things (k ∷ ks) (t ∷ ts)))) (live_same v s.entries h h D1.piece D.piece P.below (λ x lt. ap (at_hold (h x)) (ag1.pieces x lt)));
      }
    where
      le_trans : (a b c : ℕ) → a ≤ b → b ≤ c → a ≤ c
      le_trans a b c x y = omega (arith, x, y)

  pub none_coming : (ks : List Bool) (ts : List Thing) → Coming no_dyn [] ks ts
  none_coming [] ts = tt
  none_coming (k ∷ ks) [] = tt
  none_coming (true ∷ ks) (t ∷ ts) = (tt, none_coming ks ts)
  none_coming (false ∷ ks) (t ∷ ts) = none_coming ks ts

-- nothing but entries and holds comes with parameters
pub bound_facts : (s : State) (ys : List InParam) → (bind_params s ys).facts ≡ s.facts
bound_facts s [] = refl
bound_facts s (y ∷ ys) = bound_facts (bind_param s y) ys

pub bound_defs : (s : State) (ys : List InParam) → (bind_params s ys).defs ≡ s.defs
bound_defs s [] = refl
bound_defs s (y ∷ ys) = bound_defs (bind_param s y) ys

pub bound_toks : (s : State) (ys : List InParam) → (bind_params s ys).toks ≡ s.toks
bound_toks s [] = refl
bound_toks s (y ∷ ys) = bound_toks (bind_param s y) ys
