-- Targets of which some get no token, and results of which the first is a slice.
use Rattle.std.proofs.Common.{◌≡◌, ℕ, true, List, [], ◌∷◌, ◌++◌, map, length, take, drop, refl, sym, ap, subst, ltb, ltb-true}
use Rattle.std.proofs.lemmas.Bool.{and_parts, cond_both}
use Rattle.std.proofs.lemmas.List.{length-set}
use Rattle.std.specs.Prelude.{Option, Some, None, slice_set, nat_lt}
use Rattle.nres_core.specs.declared.value.Value.{Value}
use Rattle.nres_core.specs.declared.value.Value.TheVariants as v
use Rattle.target_code.specs.declared.tree.Rep.TheVariants as rep
use Rattle.target_meaning.specs.Leaf.{put_all}
use Rattle.target_meaning.specs.Piece.{Piece, IsAllWhole}
use Rattle.relations.specs.Represents.{Represents}
use Rattle.row_laws.specs.Rows.{Thing}
use Rattle.rule_check.specs.Context.{Shape}
use Rattle.start_ends.specs.Things.{Wholes}
use Rattle.fits.specs.Places.{Token, Number, Of, put}
use Rattle.fits.specs.Follow.{all_below, put_maybe, somes, old_token, slice_of}
use Rattle.fits_sound.specs.Meant.{All_rel, Tagged, Dyn, word, Old, Olds, Known}
use Rattle.fits_sound.proofs.Basic.{known_put, some_is}

-- values that stand for tokens, where there are tokens
abbrev pub Match : ℕ → Dyn → List (Option Token) → List ℕ → Type 0
Match n D [] [] = Unit {0}
Match n D [] (w ∷ ws) = ⊥
Match n D (o ∷ os) [] = ⊥
Match n D (o ∷ os) (w ∷ ws) = ((t : Token) → o ≡ Some t → Old n t × (w ≡ word D t)) × Match n D os ws

pub known_maybe : (toks : ℕ → Option Token) (n : ℕ) (D : Dyn) (regs : List ℕ) → Known toks n D regs → (to : List ℕ) (os : List (Option Token)) (ws : List ℕ) → all_below (length regs) to ≡ true → Match n D os ws → Known (put_maybe toks to os) n D (put_all to ws regs)
known_maybe toks n D regs k [] os ws e m = k
known_maybe toks n D regs k (r ∷ rs) [] [] e m = k
known_maybe toks n D regs k (r ∷ rs) [] (w ∷ ws) e m = absurd m
known_maybe toks n D regs k (r ∷ rs) (o ∷ os) [] e m = absurd m
known_maybe toks n D regs k (r ∷ rs) (o ∷ os) (w ∷ ws) e m =
    let p = and_parts (ltb r (length regs)) (all_below (length regs) rs) e in
    known_maybe (put toks r o) n D (slice_set regs r w)
    (known_put toks n D regs k r o w (ltb-true r (length regs) p.0) m.0)
    rs os ws (subst (λ y. all_below y rs ≡ true) (sym (length-set regs r w)) p.1) m.1

pub match-append : (n : ℕ) (D : Dyn) (os ps : List (Option Token)) (vs ws : List ℕ) → Match n D os vs → Match n D ps ws → Match n D (os ++ ps) (vs ++ ws)
match-append n D [] ps [] ws a b = b
match-append n D [] ps (v ∷ vs) ws a b = absurd a
match-append n D (o ∷ os) ps [] ws a b = absurd a
match-append n D (o ∷ os) ps (v ∷ vs) ws a b = (a.0, match-append n D os ps vs ws a.1 b)

pub match_somes : (n : ℕ) (D : Dyn) (ts : List Token) → Olds n ts → Match n D (somes ts) (map (word D) ts)
match_somes n D [] o = tt
match_somes n D (t ∷ ts) o = (λ u e. (subst (Old n) (some_is t u e) o.0, ap (word D) (some_is t u e)), match_somes n D ts o.1)

pub match_parts : (n : ℕ) (D : Dyn) (ts : List Token) (vs ws : List ℕ) → Match n D (somes ts) (vs ++ ws) → Match n D (somes (take (length vs) ts)) vs × Match n D (somes (drop (length vs) ts)) ws
match_parts n D ts [] ws m = (tt, m)
match_parts n D [] (v ∷ vs) ws m = absurd m
match_parts n D (t ∷ ts) (v ∷ vs) ws m = let w = match_parts n D ts vs ws m.1 in ((m.0, w.0), w.1)

pub no_token : (n : ℕ) (D : Dyn) (w : ℕ) (t : Token) → None ≡ Some t → Old n t × (w ≡ word D t)
no_token n D w t e = absurd (let z : ⊥ = cc e in z)

-- a token from below a bound
pub old_is : (n : ℕ) (o : Option Token) (t : Token) → old_token n o ≡ Some t → (o ≡ Some t) × Old n t
old_is n None t e = absurd (let z : ⊥ = cc e in z)
old_is n (Some (Number x)) t e = (e, subst (Old n) (some_is (Number x) t e) tt)
old_is n (Some (Of v j)) t e =
    cond_both {A = Option Token} (nat_lt v n) (Some (Of v j)) None (λ y. y ≡ Some t → (Some (Of v j) ≡ Some t) × Old n t)
    (λ w e. (e, subst (Old n) (some_is (Of v j) t e) (ltb-true v n w)))
    (λ w e. absurd (let z : ⊥ = cc e in z)) e

-- a slice, as a value
pub record Slice_in (x : Value) (b off len : ℕ) (p : Piece) : Type 0 where
  pub list : List ℕ
  pub value : x ≡ v.List list
  pub slice : Represents rep.Slice (v.List list) (b ∷ off ∷ len ∷ []) p

pub slice_in : (x : Value) (b off len : ℕ) (p : Piece) → Represents rep.Slice x (b ∷ off ∷ len ∷ []) p → Slice_in x b off len p
slice_in (v.List xs) b off len p r = record { list = xs; value = refl; slice = r }
slice_in x b off len p r = absurd r.layout

-- the first of the results is a slice with the words of its tag
pub record First_of (V : ℕ → ℕ → ℕ) (o : ℕ) (zs : List Shape) (ts : List Thing) : Type 0 where
  pub head : Thing
  pub tail : List Thing
  pub is : ts ≡ head ∷ tail
  pub words : head.words ≡ V o 0 ∷ V o 1 ∷ V o 2 ∷ []
  pub of : Slice_in head.value (V o 0) (V o 1) (V o 2) head.piece
  pub rel : All_rel zs tail
  pub tags : Tagged V zs tail
  pub whole : IsAllWhole head.piece
  pub wholes : Wholes tail

pub first_of : (V : ℕ → ℕ → ℕ) (o : ℕ) (zs : List Shape) (ts : List Thing) → All_rel (slice_of o ∷ zs) ts → Tagged V (slice_of o ∷ zs) ts → Wholes ts → First_of V o zs ts
first_of V o zs [] r t w = absurd r
first_of V o zs (x ∷ ts) r t w =
    let e = t.0 refl in
    record {
      head = x;
      tail = ts;
      is = refl;
      words = e;
      of = slice_in x.value (V o 0) (V o 1) (V o 2) x.piece (subst (λ y. Represents rep.Slice x.value y x.piece) e r.0);
      rel = r.1;
      tags = t.1;
      whole = w.0;
      wholes = w.1;
    }
