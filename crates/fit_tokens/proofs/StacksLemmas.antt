-- What stands for entries, as it is kept.
use Rattle.std.proofs.Common.{◌≡◌, ◌≤◌, ◌<◌, ◌+◌, ◌-◌, ℕ, zero, suc, Bool, true, false, cond, ◌&&◌, List, [], ◌∷◌, ◌++◌, length, drop, take, refl, sym, ap, ◌∙◌, subst, nat_eq, nat_lt, nat_le, arith}
use Rattle.std.proofs.lemmas.Bool.{true≢false, eq-eqb, eqb-true, eqb-false, ltb-true, ltb-false}
use Rattle.std.specs.Borrow.{Bor}
use Rattle.std.specs.List.{slice_get}
use Rattle.std.specs.Map.{lookup}
use Rattle.std.specs.Option.{option_map, option_copied}
use Rattle.std.specs.Prelude.{Option, Some, None, Result, Ok, Err, MatchOption, SomeIff}
use Rattle.indexmap.specs.IndexMap.{IndexMap, get, Updates, IsUnchanged}
use Rattle.fits.specs.Follow.{first_word}
use Rattle.fits.specs.Places.{Token, Number, Of, same_token, has_token}
use Rattle.fit_tokens.specs.Changes.{token_of, tokens_of}
use Rattle.fit_tokens.specs.Standing.{Standing, standing_of, standing_in, has_head, NoHead, IsNext, first_variable, is_of, newest_of, newest_as}
use Rattle.fit_tokens.specs.Stacks.{onto, IsChained, at_last, IsStack}
use Rattle.fit_tokens.proofs.LogsLemmas.{more_count, turned}
use Rattle.fit_tokens.specs.declared.words.Placed.{Placed}
use Rattle.fit_tokens.specs.declared.words.Words.{Words}

-- ---- the stack

pub onto_push : (ps : List Placed) (p : Placed) (ss : List Standing) → onto (ps ++ p ∷ []) ss ≡ standing_of p.words ∷ onto ps ss
onto_push [] p ss = refl
onto_push (x ∷ ps) p ss = onto_push ps p (standing_of x.words ∷ ss)

pub onto_length : (ps : List Placed) (ss : List Standing) → length (onto ps ss) ≡ length ps + length ss
onto_length [] ss = omega arith
onto_length (p ∷ ps) ss = let h = onto_length ps (standing_of p.words ∷ ss) in omega arith

other : (a b : ℕ) → a < b → nat_eq a b ≡ false
other a b h = grind arith

other_way : (a b : ℕ) → b < a → nat_eq a b ≡ false
other_way a b h = grind arith

pub standing_low : (ss : List Standing) (j : ℕ) → length ss ≤ j → standing_in ss j ≡ None
standing_low [] j h = refl
standing_low (s ∷ ss) j h = ap (λ b. cond b (Some s) (standing_in ss j)) (other (length ss) j (omega arith)) ∙ standing_low ss j (omega arith)

standing_above : (e : Standing) (ss : List Standing) (j : ℕ) → j < length ss → standing_in (e ∷ ss) j ≡ standing_in ss j
standing_above e ss j h = ap (λ b. cond b (Some e) (standing_in ss j)) (other_way (length ss) j h)

standing_deep : (ps : List Placed) (ss : List Standing) (j : ℕ) → j < length ss → standing_in (onto ps ss) j ≡ standing_in ss j
standing_deep [] ss j h = refl
standing_deep (p ∷ ps) ss j h = standing_deep ps (standing_of p.words ∷ ss) j (omega arith) ∙ standing_above (standing_of p.words) ss j h

standing_top : (s : Standing) (ss : List Standing) (j : ℕ) → j ≡ length ss → standing_in (s ∷ ss) j ≡ Some s
standing_top s ss j h = ap (λ b. cond b (Some s) (standing_in ss j)) (eq-eqb (length ss) j (sym h))

onto_get : (ps : List Placed) (i : ℕ) (ss : List Standing) → option_map (λ p. standing_of p.words) (slice_get ps i) ≡ standing_in (onto ps ss) (length ss + i)
onto_get [] i ss = sym (standing_low ss (length ss + i) (omega arith))
onto_get (p ∷ ps) zero ss = sym (standing_deep ps (standing_of p.words ∷ ss) (length ss + zero) (omega arith) ∙ standing_top (standing_of p.words) ss (length ss + zero) (omega arith))
onto_get (p ∷ ps) (suc i) ss =
    let n : suc (length ss) + i ≡ length ss + suc i = omega arith in
    onto_get ps i (standing_of p.words ∷ ss) ∙ ap (standing_in (onto ps (standing_of p.words ∷ ss))) n

pub get_standing : (ps : List Placed) (i : ℕ) → option_map (λ p. standing_of p.words) (slice_get ps i) ≡ standing_in (onto ps []) i
get_standing ps i = let n : 0 + i ≡ i = omega arith in onto_get ps i [] ∙ ap (standing_in (onto ps [])) n

copied_some : {A : Type 0} (o : Option (Bor A)) (p : Bor A) (x : Option A) → o ≡ Some p → option_copied o ≡ x → x ≡ Some p.now
copied_some o p x e f = sym f ∙ ap option_copied e

copied_none : {A : Type 0} (o : Option (Bor A)) (x : Option A) → o ≡ None → option_copied o ≡ x → x ≡ None
copied_none o x e f = sym f ∙ ap option_copied e

pub get_some : (ps : List Placed) (i : ℕ) (ss : List Standing) (o : Option (Bor Placed)) (p : Bor Placed) → onto ps [] ≡ ss → option_copied o ≡ slice_get ps i → o ≡ Some p → Some (standing_of p.now.words) ≡ standing_in ss i
get_some ps i ss o p v f e = ap (option_map (λ q. standing_of q.words)) (sym (copied_some o p (slice_get ps i) e f)) ∙ get_standing ps i ∙ ap (λ z. standing_in z i) v

pub get_none : (ps : List Placed) (i : ℕ) (ss : List Standing) (o : Option (Bor Placed)) → onto ps [] ≡ ss → option_copied o ≡ slice_get ps i → o ≡ None → None ≡ standing_in ss i
get_none ps i ss o v f e = ap (option_map (λ q. standing_of q.words)) (sym (copied_none o (slice_get ps i) e f)) ∙ get_standing ps i ∙ ap (λ z. standing_in z i) v

pub counted : (ps : List Placed) (ss : List Standing) → onto ps [] ≡ ss → length ps ≡ length ss
counted ps ss v = let h = onto_length ps [] in let k : length ps ≡ length (onto ps []) = omega arith in k ∙ ap length v

-- ---- places of a variable

-- the first word is of the variable that it is of
of_first : (ts : List Token) (v : ℕ) → is_of v ts ≡ true → first_variable ts ≡ Some v
of_first [] v e = absurd (true≢false (sym e))
of_first (Number n ∷ ts) v e = absurd (true≢false (sym e))
of_first (Of w j ∷ ts) v e = ap Some (eqb-true w v e)

first_of : (ts : List Token) (v : ℕ) → first_variable ts ≡ Some v → is_of v ts ≡ true
first_of [] v e = absurd (let o : ⊥ = cc e in o)
first_of (Number n ∷ ts) v e = absurd (let o : ⊥ = cc e in o)
first_of (Of w j ∷ ts) v e = eq-eqb w v (let q : w ≡ v = cc in q)

not_first : (ts : List Token) (v : ℕ) → first_variable ts ≡ None → is_of v ts ≡ false
not_first [] v e = refl
not_first (Number n ∷ ts) v e = refl
not_first (Of w j ∷ ts) v e = absurd (let o : ⊥ = cc e in o)

of_other : (ts : List Token) (v w : ℕ) → first_variable ts ≡ Some w → is_of v ts ≡ nat_eq w v
of_other [] v w e = absurd (let o : ⊥ = cc e in o)
of_other (Number n ∷ ts) v w e = absurd (let o : ⊥ = cc e in o)
of_other (Of u j ∷ ts) v w e = let q : u ≡ w = cc in ap (λ k. nat_eq k v) q

chained_more : (ps : List Placed) (p : Placed) (ss : List Standing) → IsChained ps ss → p.below ≡ newest_as (onto ps ss) (first_variable (standing_of p.words).words) → IsChained (ps ++ p ∷ []) ss
chained_more [] p ss h e = (e, tt)
chained_more (x ∷ ps) p ss h e = (h.0, chained_more ps p (standing_of x.words ∷ ss) h.1 e)

chained_front : (ps : List Placed) (p : Placed) (ss : List Standing) → IsChained (ps ++ p ∷ []) ss → IsChained ps ss
chained_front [] p ss h = tt
chained_front (x ∷ ps) p ss h = (h.0, chained_front ps p (standing_of x.words ∷ ss) h.1)

chained_last : (ps : List Placed) (p : Placed) (ss : List Standing) → IsChained (ps ++ p ∷ []) ss → p.below ≡ newest_as (onto ps ss) (first_variable (standing_of p.words).words)
chained_last [] p ss h = h.0
chained_last (x ∷ ps) p ss h = chained_last ps p (standing_of x.words ∷ ss) h.1

-- ---- one more, and one less

pub push_plain : {S : Type 0} (ps qs : List Placed) (p : Placed) (m : IndexMap ℕ (Option ℕ) S) → IsStack ps m → qs ≡ ps ++ p ∷ [] → first_variable (standing_of p.words).words ≡ None → p.below ≡ None → IsStack qs m
push_plain ps qs p m h e f b = subst (λ z. IsStack z m) (sym e) (record {
  places = λ v. h.places v ∙ sym (ap (λ z. newest_of z v) (onto_push ps p []) ∙ ap (λ t. cond t (Some (length (onto ps []))) (newest_of (onto ps []) v)) (not_first (standing_of p.words).words v f));
  chain = chained_more ps p [] h.chain (b ∙ sym (ap (newest_as (onto ps [])) f));
})

pub push_of : {S : Type 0} (ps qs : List Placed) (p : Placed) (m n : IndexMap ℕ (Option ℕ) S) (v k : ℕ) (ss : List Standing) → IsStack ps m → onto ps [] ≡ ss → qs ≡ ps ++ p ∷ [] → Some v ≡ first_variable (standing_of p.words).words → p.below ≡ newest_of ss v → k ≡ length ps
    → Updates nat_eq m n v (Some (Some k)) → IsStack qs n
push_of ps qs p m n v k ss h w e f b l u = subst (λ z. IsStack z n) (sym e) (record {
  places = λ q. ap at_last (u.0 q) ∙ pick q (nat_eq v q) refl ∙ sym (ap (λ z. newest_of z q) (onto_push ps p []));
  chain = chained_more ps p [] h.chain (b ∙ ap (λ z. newest_of z v) (sym w) ∙ sym (ap (newest_as (onto ps [])) (sym f)));
})
  where
    place : k ≡ length (onto ps [])
    place = let g = onto_length ps [] in omega arith

    pick : (q : ℕ) (t : Bool) → nat_eq v q ≡ t → at_last (cond t (Some (Some k)) (get nat_eq m q)) ≡ newest_of (standing_of p.words ∷ onto ps []) q
    pick q true g = ap Some place ∙ sym (ap (λ t. cond t (Some (length (onto ps []))) (newest_of (onto ps []) q)) (of_other (standing_of p.words).words q v (sym f) ∙ g))
    pick q false g = h.places q ∙ sym (ap (λ t. cond t (Some (length (onto ps []))) (newest_of (onto ps []) q)) (of_other (standing_of p.words).words q v (sym f) ∙ g))

pub push_view : (ps qs : List Placed) (p : Placed) (ss : List Standing) → onto ps [] ≡ ss → qs ≡ ps ++ p ∷ [] → onto qs [] ≡ standing_of p.words ∷ ss
push_view ps qs p ss v e = ap (λ z. onto z []) e ∙ onto_push ps p [] ∙ ap (λ z. standing_of p.words ∷ z) v

pub pop_plain : {S : Type 0} (ps qs : List Placed) (p : Placed) (m : IndexMap ℕ (Option ℕ) S) → IsStack ps m → ps ≡ qs ++ p ∷ [] → first_variable (standing_of p.words).words ≡ None → IsStack qs m
pop_plain ps qs p m h e f =
    let k : IsStack (qs ++ p ∷ []) m = subst (λ z. IsStack z m) e h in
    record {
      places = λ v. k.places v ∙ ap (λ z. newest_of z v) (onto_push qs p []) ∙ ap (λ t. cond t (Some (length (onto qs []))) (newest_of (onto qs []) v)) (not_first (standing_of p.words).words v f);
      chain = chained_front qs p [] k.chain;
    }

pub pop_of : {S : Type 0} (ps qs : List Placed) (p : Placed) (m n : IndexMap ℕ (Option ℕ) S) (v : ℕ) → IsStack ps m → ps ≡ qs ++ p ∷ [] → Some v ≡ first_variable (standing_of p.words).words → Updates nat_eq m n v (Some p.below) → IsStack qs n
pop_of ps qs p m n v h e f u =
    let k : IsStack (qs ++ p ∷ []) m = subst (λ z. IsStack z m) e h in
    let b : p.below ≡ newest_of (onto qs []) v = chained_last qs p [] k.chain ∙ ap (newest_as (onto qs [])) (sym f) in
    record {
      places = λ q. ap at_last (u.0 q) ∙ pick q (nat_eq v q) refl b (k.places q ∙ ap (λ z. newest_of z q) (onto_push qs p []));
      chain = chained_front qs p [] k.chain;
    }
  where
    pick : (q : ℕ) (t : Bool) → nat_eq v q ≡ t → p.below ≡ newest_of (onto qs []) v → at_last (get nat_eq m q) ≡ newest_of (standing_of p.words ∷ onto qs []) q → at_last (cond t (Some p.below) (get nat_eq m q)) ≡ newest_of (onto qs []) q
    pick q true g b w = b ∙ ap (newest_of (onto qs [])) (eqb-true v q g)
    pick q false g b w = w ∙ ap (λ t. cond t (Some (length (onto qs []))) (newest_of (onto qs []) q)) (of_other (standing_of p.words).words q v (sym f) ∙ g)

pub pop_key : {S : Type 0} (ps qs : List Placed) (p : Placed) (m : IndexMap ℕ (Option ℕ) S) (v : ℕ) → IsStack ps m → ps ≡ qs ++ p ∷ [] → Some v ≡ first_variable (standing_of p.words).words → get nat_eq m v ≡ None → ⊥
pop_key ps qs p m v h e f g =
    let k : IsStack (qs ++ p ∷ []) m = subst (λ z. IsStack z m) e h in
    let w : None ≡ Some (length (onto qs [])) = sym (ap at_last g) ∙ k.places v ∙ ap (λ z. newest_of z v) (onto_push qs p []) ∙ ap (λ t. cond t (Some (length (onto qs []))) (newest_of (onto qs []) v)) (first_of (standing_of p.words).words v (sym f)) in
    let o : ⊥ = cc in o

pub pop_view : (ps qs : List Placed) (p : Placed) (ss : List Standing) → onto ps [] ≡ ss → ps ≡ qs ++ p ∷ [] → onto qs [] ≡ drop 1 ss
pop_view ps qs p ss v e = ap (drop 1) (sym (ap (λ z. onto z []) e ∙ onto_push qs p []) ∙ v)

pub cut_step : (ss ts : List Standing) (n : ℕ) → n < length ss → ts ≡ drop 1 ss → drop (length ss - n) ss ≡ drop (length ts - n) ts
cut_step [] ts n lt e = absurd (omega arith)
cut_step (x ∷ ss) ts n lt e =
    let k : length (x ∷ ss) - n ≡ suc (length ss - n) = omega arith in
    ap (λ i. drop i (x ∷ ss)) k ∙ ap (λ z. drop (length z - n) z) (sym e)

-- ---- the next place

head_of : (v j : ℕ) (s : Standing) → is_of v s.words ≡ false → has_head (Of v j) (Some s) ≡ false
head_of v j s e = pick s.words e
  where
    pick : (ts : List Token) → is_of v ts ≡ false → first_word (Some (Of v j)) ts ≡ false
    pick [] f = refl
    pick (Number n ∷ ts) f = refl
    pick (Of w i ∷ ts) f = ap (λ b. b && nat_eq j i) (turned v w ∙ f)

-- an entry more that has another first word
next_more : (s : Standing) (ss : List Standing) (t : Token) (o : Option ℕ) → has_head t (Some s) ≡ false → IsNext ss t (length ss) o → IsNext (s ∷ ss) t (suc (length ss)) o
next_more s ss t None h n = λ k l u. at_place k u
  where
    at_place : (k : ℕ) → k < suc (length ss) → has_head t (standing_in (s ∷ ss) k) ≡ false
    at_place k u = pick (nat_eq (length ss) k) refl
      where
        pick : (b : Bool) → nat_eq (length ss) k ≡ b → has_head t (cond b (Some s) (standing_in ss k)) ≡ false
        pick true e = h
        pick false e = n k (omega arith) (less (length ss) k e u)
          where
            less : (a b : ℕ) → nat_eq a b ≡ false → b < suc a → b < a
            less a b e l = grind arith
next_more s ss t (Some p) h n = (let l = n.0 in omega arith, λ k l u. at_place k l u)
  where
    at_place : (k : ℕ) → suc p ≤ k → k < suc (length ss) → has_head t (standing_in (s ∷ ss) k) ≡ false
    at_place k l u = pick (nat_eq (length ss) k) refl
      where
        pick : (b : Bool) → nat_eq (length ss) k ≡ b → has_head t (cond b (Some s) (standing_in ss k)) ≡ false
        pick true e = h
        pick false e = n.1 k l (less (length ss) k e u)
          where
            less : (a b : ℕ) → nat_eq a b ≡ false → b < suc a → b < a
            less a b e l = grind arith

pub next_of : (ss : List Standing) (v j : ℕ) → IsNext ss (Of v j) (length ss) (newest_of ss v)
next_of [] v j = λ k l u. absurd (omega arith)
next_of (s ∷ ss) v j = pick (next_of ss v j) (is_of v s.words) refl
  where
    pick : IsNext ss (Of v j) (length ss) (newest_of ss v) → (b : Bool) → is_of v s.words ≡ b → IsNext (s ∷ ss) (Of v j) (suc (length ss)) (cond b (Some (length ss)) (newest_of ss v))
    pick ih true e = (omega arith, λ k l u. absurd (omega arith))
    pick ih false e = next_more s ss (Of v j) (newest_of ss v) (head_of v j s e) ih

pub next_less : (ss : List Standing) (t : Token) (n : ℕ) (o : Option ℕ) → SomeIff o (1 ≤ n) (n - 1) → IsNext ss t n o
next_less ss t n None h = λ k l u. absurd (h (omega arith))
next_less ss t n (Some p) h = let a = h.0 in let b = h.1 in (omega arith, λ k l u. absurd (omega arith))

onto_split : (i : ℕ) (ps : List Placed) (ss : List Standing) → onto ps ss ≡ onto (drop i ps) (onto (take i ps) ss)
onto_split zero ps ss = refl
onto_split (suc i) [] ss = refl
onto_split (suc i) (p ∷ ps) ss = onto_split i ps (standing_of p.words ∷ ss)

chained_at : (i : ℕ) (ps : List Placed) (ss : List Standing) (p : Placed) → slice_get ps i ≡ Some p → IsChained ps ss → p.below ≡ newest_as (onto (take i ps) ss) (first_variable (standing_of p.words).words)
chained_at i [] ss p e h = absurd (let o : ⊥ = cc e in o)
chained_at zero (q ∷ ps) ss p e h = subst (λ x. x.below ≡ newest_as ss (first_variable (standing_of x.words).words)) (let k : q ≡ p = cc in k) h.0
chained_at (suc i) (q ∷ ps) ss p e h = chained_at i ps (standing_of q.words ∷ ss) p e h.1

within : (i : ℕ) (ps : List Placed) (p : Placed) → slice_get ps i ≡ Some p → length (take i ps) ≡ i
within i [] p e = absurd (let o : ⊥ = cc e in o)
within zero (q ∷ ps) p e = refl
within (suc i) (q ∷ ps) p e = ap suc (within i ps p e)

next_above : (ss ts : List Standing) (t : Token) (n : ℕ) (o : Option ℕ) → ((k : ℕ) → k < n → standing_in ts k ≡ standing_in ss k) → IsNext ss t n o → IsNext ts t n o
next_above ss ts t n None same h = λ k l u. ap (has_head t) (same k u) ∙ h k l u
next_above ss ts t n (Some p) same h = (h.0, λ k l u. ap (has_head t) (same k u) ∙ h.1 k l u)

pub next_chained : {S : Type 0} (ps : List Placed) (m : IndexMap ℕ (Option ℕ) S) (ss : List Standing) (i v j : ℕ) (o : Option (Bor Placed)) (p : Bor Placed) → IsStack ps m → onto ps [] ≡ ss → option_copied o ≡ slice_get ps i → o ≡ Some p
    → is_of v (standing_of p.now.words).words ≡ true → IsNext ss (Of v j) i p.now.below
next_chained ps m ss i v j o p h w f e q =
    let g : slice_get ps i ≡ Some p.now = copied_some o p (slice_get ps i) e f in
    let n : length (take i ps) ≡ i = within i ps p.now g in
    let c : length (onto (take i ps) []) ≡ i = let k = onto_length (take i ps) [] in omega arith in
    let b : p.now.below ≡ newest_of (onto (take i ps) []) v = chained_at i ps [] p.now g h.chain ∙ ap (newest_as (onto (take i ps) [])) (of_first (standing_of p.now.words).words v q) in
    subst (IsNext ss (Of v j) i) (sym b)
    (next_above (onto (take i ps) []) ss (Of v j) i (newest_of (onto (take i ps) []) v) (λ k l. ap (λ z. standing_in z k) (sym w ∙ onto_split i ps []) ∙ standing_deep (drop i ps) (onto (take i ps) []) k (omega arith))
    (subst (λ z. IsNext (onto (take i ps) []) (Of v j) z (newest_of (onto (take i ps) []) v)) c (next_of (onto (take i ps) []) v j)))
