-- Arguments: what stands for them, and what is taken.
use Rattle.std.proofs.Common.{◌≡◌, ◌≢◌, ℕ, zero, suc, ◌^◌, ◌<◌, Bool, true, false, cond, not, List, [], ◌∷◌, ◌++◌, length, map, refl, sym, ap, ◌∙◌, subst, arith, eqb, eqb-true, ltb, ltb-true, ⊎_elim, ◌⊎◌, inl, inr, ◌&&◌, ◌||◌}
use Rattle.std.proofs.lemmas.Bool.{cond_both}
use Rattle.std.proofs.lemmas.Bool.Decides.{eqb_tells}
use Rattle.std.specs.Prelude.{Option, Some, None, slice_index}
use Rattle.nres_core.specs.declared.flat.Arg.{Arg}
use Rattle.nres_core.specs.declared.flat.Arg.TheVariants as a
use Rattle.nres_core.specs.declared.value.Value.{Value}
use Rattle.nres_core.specs.declared.value.Value.TheVariants as v
use Rattle.nres_meaning.specs.FlatMeaning.{arg_value, arg_values}
use Rattle.target_code.specs.Formed as formed
use Rattle.target_code.specs.declared.tree.Rep.{Rep}
use Rattle.target_code.specs.declared.tree.Rep.TheVariants as rep
use Rattle.target_meaning.specs.Piece.{Piece, none, plus, IsAllWhole}
use Rattle.target_meaning.proofs.Shares.{plus-none, plus-comm, plus-assoc}
use Rattle.layout_facts.proofs.Facts as layouts
use Rattle.relations.specs.Represents.{Represents, IsFlag}
use Rattle.row_laws.specs.Rows.{Thing, values_of, words_of, pieces_of}
use Rattle.rule_check.specs.Context.{Hold, Owned, Kept, Gone, is_gone, is_owned, is_container, is_slice}
use Rattle.rule_check.specs.Steps.{bare}
use Rattle.start_ends.specs.Things.{Wholes}
use Rattle.fits.specs.Places.{Token, Number, Entry, put, lookup, Info, only_container, info_of, arg_info, cons_some, arg_infos, all_words, all_vars, info_shapes, wanted, old_shapes, goners}
use Rattle.fits.specs.Follow.{nth_token, nth_word}
use Rattle.fits_sound.specs.Meant.{All_rel, some_pieces, Dyn, Destroyed_whole, Share, Shares, Parts_kept, word, at_hold, live, Old, Olds, Below, Rels, Tag_at, Tagged, Among}
use Rattle.fits_sound.proofs.Basic.{put_same, put_other, put_below, olds_more, live_same, some_is, old_shape_more}
use Rattle.fits_sound.proofs.Bound.{map-append, olds-append}

abbrev pub All_among : List ℕ → List Entry → Type 0
All_among [] es = Unit {0}
All_among (v ∷ vs) es = Among v es × All_among vs es

abbrev pub sum_vars : (ℕ → Piece) → List ℕ → Piece
sum_vars P [] = none
sum_vars P (v ∷ vs) = plus (P v) (sum_vars P vs)

pub among_below : (n v : ℕ) (es : List Entry) → Below n es → Among v es → v < n
among_below n v [] b a = absurd a
among_below n v (e ∷ es) b a =
    ⊎_elim (λ q. omega (arith, q, b.0)) (λ q. omega (arith, among_below e.var v es b.2 q, b.0)) a

there : (h : Hold) (p : Piece) → is_gone h ≡ false → at_hold h p ≡ p
there Owned p e = refl
there Kept p e = refl
there Gone p e = absurd (let z : ⊥ = cc e in z)

swap : (a b c : Piece) → plus a (plus b c) ≡ plus b (plus a c)
swap a b c = sym (plus-assoc a b c) ∙ ap (λ y. plus y c) (plus-comm a b) ∙ plus-assoc b a c

-- one container is taken out of what is held
pub pull : (n : ℕ) (es : List Entry) (h : ℕ → Hold) (P : ℕ → Piece) (v : ℕ) → Below n es → Among v es → is_gone (h v) ≡ false → live es h P ≡ plus (P v) (live es (put h v Gone) P)
pull n [] h P v b a g = absurd a
pull n (e ∷ es) h P v b a g = ⊎_elim here (λ q. further q (pull e.var es h P v b.2 q g)) a
  where
    here : e.var ≡ v → live (e ∷ es) h P ≡ plus (P v) (live (e ∷ es) (put h v Gone) P)
    here q =
        ap (λ y. plus y (live es h P)) (there (h e.var) (P e.var) (ap (λ y. is_gone (h y)) q ∙ g) ∙ ap P q) ∙
        ap (plus (P v)) (live_same e.var es h (put h v Gone) P P b.2 (λ w lt. ap (λ y. at_hold y (P w)) (sym (put_below h v Gone w (omega (arith, lt, q)))))) ∙
        ap (λ y. plus (P v) (plus y (live es (put h v Gone) P))) (sym (ap (λ y. at_hold y (P e.var)) (ap (put h v Gone) q ∙ put_same h v Gone)))

    further : Among v es → live es h P ≡ plus (P v) (live es (put h v Gone) P) → live (e ∷ es) h P ≡ plus (P v) (live (e ∷ es) (put h v Gone) P)
    further q ih =
        let lt = among_below e.var v es b.2 q in
        ap (plus (at_hold (h e.var) (P e.var))) ih ∙
        swap (at_hold (h e.var) (P e.var)) (P v) (live es (put h v Gone) P) ∙
        ap (λ y. plus (P v) (plus (at_hold y (P e.var)) (live es (put h v Gone) P))) (sym (put_other h v Gone e.var (omega (arith, lt))))

-- each is as is wanted
abbrev pub All_wanted : (Hold → Bool) → List ℕ → (ℕ → Hold) → Type 0
All_wanted want [] h = Unit {0}
All_wanted want (v ∷ vs) h = (want (h v) ≡ true) × All_wanted want vs h

-- variables of which none stands twice
abbrev pub Not_in : ℕ → List ℕ → Type 0
Not_in v [] = Unit {0}
Not_in v (w ∷ ws) = (v ≢ w) × Not_in v ws

abbrev pub Distinct : List ℕ → Type 0
Distinct [] = Unit {0}
Distinct (v ∷ vs) = Not_in v vs × Distinct vs

-- what is wanted of others stays when one goes
pub wanted_after : (want : Hold → Bool) (v : ℕ) (h : ℕ → Hold) (vs : List ℕ) → Not_in v vs → All_wanted want vs h → All_wanted want vs (put h v Gone)
wanted_after want v h [] n w = tt
wanted_after want v h (x ∷ vs) n w = (ap want (put_other h v Gone x (λ e. n.0 (sym e))) ∙ w.0, wanted_after want v h vs n.1 w.1)

-- holds where these are gone
pub less_gone : (vs : List ℕ) (h : ℕ → Hold) (w : ℕ) → (goners vs h w ≡ h w) ⊎ (goners vs h w ≡ Gone)
less_gone [] h w = inl refl
less_gone (v ∷ vs) h w =
    ⊎_elim
    (λ e. ⊎_elim (λ q. inr (e ∙ ap (put h v Gone) q.1 ∙ put_same h v Gone)) (λ q. inl (e ∙ put_other h v Gone w q.1)) (eqb_tells w v))
    (λ e. inr e)
    (less_gone vs (put h v Gone) w)

pub goners_other : (vs : List ℕ) (h : ℕ → Hold) (w : ℕ) → Not_in w vs → goners vs h w ≡ h w
goners_other [] h w n = refl
goners_other (v ∷ vs) h w n = goners_other vs (put h v Gone) w n.1 ∙ put_other h v Gone w n.0

-- these are taken out of what is held
pub goners_piece : (want : Hold → Bool) → ((h : Hold) → want h ≡ true → is_gone h ≡ false) → (vs : List ℕ) (h : ℕ → Hold) → Distinct vs → All_wanted want vs h → (n : ℕ) (es : List Entry) (P : ℕ → Piece) → Below n es → All_among vs es → live es h P ≡ plus (sum_vars P vs) (live es (goners vs h) P)
goners_piece want ok [] h d w n es P b m = refl
goners_piece want ok (v ∷ vs) h d w n es P b m =
    pull n es h P v b m.0 (ok (h v) w.0) ∙
    ap (plus (P v)) (goners_piece want ok vs (put h v Gone) d.1 (wanted_after want v h vs d.0 w.1) n es P b m.1) ∙
    sym (plus-assoc (P v) (sum_vars P vs) (live es (goners (v ∷ vs) h) P))

-- with more gone, what is held in part is still not owned
pub kept_less : (es : List Entry) (g h : ℕ → Hold) → ((w : ℕ) → (h w ≡ g w) ⊎ (h w ≡ Gone)) → Parts_kept g es → Parts_kept h es
kept_less [] g h w k = tt
kept_less (e ∷ es) g h w k = (λ p. ⊎_elim (λ q. ap is_owned q ∙ k.0 p) (λ q. ap is_owned q) (w e.var), kept_less es g h w k.1)

-- what is owned is held whole
pub owned_whole : (f : ℕ) (D : Dyn) (es : List Entry) (h : ℕ → Hold) (v : ℕ) → Shares f D es → Parts_kept h es → Among v es → is_owned (h v) ≡ true → IsAllWhole (D.piece v)
owned_whole f D [] h v s k a o = absurd a
owned_whole f D (e ∷ es) h v s k a o =
    ⊎_elim (λ q. subst (λ y. IsAllWhole (D.piece y)) q (by q e.part refl s.0)) (λ q. owned_whole f D es h v s.1 k.1 q o) a
  where
    by : e.var ≡ v → (c : Bool) → e.part ≡ c → Share f D c (D.piece e.var) es → IsAllWhole (D.piece e.var)
    by q true p sh = absurd (let y : false ≡ true = sym (k.0 p) ∙ ap (λ y. is_owned (h y)) q ∙ o in let z : ⊥ = cc y in z)
    by q false p sh = sh

abbrev pub Vars_whole : Dyn → List ℕ → Type 0
Vars_whole D [] = Unit {0}
Vars_whole D (v ∷ vs) = IsAllWhole (D.piece v) × Vars_whole D vs

pub vars_whole : (f : ℕ) (D : Dyn) (es : List Entry) (h : ℕ → Hold) → Shares f D es → Parts_kept h es → (vs : List ℕ) → All_among vs es → All_wanted is_owned vs h → Vars_whole D vs
vars_whole f D es h s k [] a o = tt
vars_whole f D es h s k (v ∷ vs) a o = (owned_whole f D es h v s k a.0 o.0, vars_whole f D es h s k vs a.1 o.1)

pub owned_there : (h : Hold) → is_owned h ≡ true → is_gone h ≡ false
owned_there Owned e = refl
owned_there Kept e = absurd (let z : ⊥ = cc e in z)
owned_there Gone e = absurd (let z : ⊥ = cc e in z)

-- ---- arguments

pub record Looked (D : Dyn) (n : ℕ) (es : List Entry) (v : ℕ) (e : Entry) : Type 0 where
  pub same : e.var ≡ v
  pub among : Among v es
  pub rel : Represents e.shape.rep (D.value v) (map (word D) e.words) (D.piece v)
  pub tag : Tag_at D.words n e.shape (map (word D) e.words)
  pub old : Olds n e.words

pub looked : (D : Dyn) (n : ℕ) (es : List Entry) (v : ℕ) (e : Entry) → Below n es → Rels D es → lookup es v ≡ Some e → Looked D n es v e
looked D n [] v e b r l = absurd (let z : ⊥ = cc l in z)
looked D n (d ∷ es) v e b r l =
    cond_both {A = Option Entry} (eqb d.var v) (Some d) (lookup es v) (λ y. y ≡ Some e → Looked D n (d ∷ es) v e)
    (λ q l. let z : d.var ≡ v = eqb-true d.var v q in
    let same = some_is d e l in
    subst (λ y. Looked D n (d ∷ es) v y) same
    (record { same = z; among = inl z; rel = subst (λ y. Represents d.shape.rep (D.value y) (map (word D) d.words) (D.piece y)) z r.0.0; tag = (r.0.1.0, old_shape_more (suc d.var) n d.shape (omega (arith, b.0)) r.0.1.1); old = olds_more (suc d.var) n d.words (omega (arith, b.0)) b.1 }))
    (λ q l. let x = looked D d.var es v e b.2 r.1 l in
    record { same = x.same; among = inr x.among; rel = x.rel; tag = (x.tag.0, old_shape_more d.var n e.shape (omega (arith, b.0)) x.tag.1); old = olds_more d.var n e.words (omega (arith, b.0)) x.old })
    l

-- the two ways to say that a representation is a container
pub same_container : (x : Rep) → is_container x ≡ formed.is_container x
same_container rep.Word = refl
same_container rep.Flag = refl
same_container rep.Array = refl
same_container rep.Slice = refl
same_container rep.Vec = refl
same_container (rep.Bits u) = refl
same_container rep.Hset = refl
same_container (rep.Amap u) = refl
same_container rep.Hmap = refl
same_container rep.Heap = refl

-- a number or truth value has no piece
pub no_piece : (x : Rep) (y : Value) (ws : List ℕ) (p : Piece) → is_container x ≡ false → Represents x y ws p → p ≡ none
no_piece x y ws p c h = layouts.no_piece x y ws p h (sym (same_container x) ∙ c)

-- nothing is held for it, or it is a container's variable
abbrev pub Kind_of : Dyn → Info → Thing → Type 0
Kind_of D i t = ((i.vars ≡ []) × (t.piece ≡ none)) ⊎ ((v : ℕ) × (i.vars ≡ v ∷ []) × (t.piece ≡ D.piece v))

abbrev pub Kinds : Dyn → List Info → List Thing → Type 0
Kinds D [] ts = Unit {0}
Kinds D (i ∷ is) [] = Unit {0}
Kinds D (i ∷ is) (t ∷ ts) = Kind_of D i t × Kinds D is ts

-- an argument, and what stands for it
pub record One (D : Dyn) (n : ℕ) (es : List Entry) (u : Arg) (i : Info) : Type 0 where
  pub thing : Thing
  pub rel : Represents i.shape.rep thing.value thing.words thing.piece
  pub tag : Tag_at D.words n i.shape thing.words
  pub value : thing.value ≡ arg_value D.value u
  pub words : thing.words ≡ map (word D) i.words
  pub old : Olds n i.words
  pub among : All_among i.vars es
  pub piece : thing.piece ≡ sum_vars D.piece i.vars
  pub whole : Vars_whole D i.vars → IsAllWhole thing.piece
  pub kind : Kind_of D i thing

pub none_whole : IsAllWhole none
none_whole b j = inl refl

-- a number, and a truth value
pub number_is : (n : ℕ) → n < 2 ^ 64 → Represents rep.Word (v.Nat n) (n ∷ []) none
number_is n lt = record { registers = λ i e. word_at i e; layout = record { same = refl; word = lt; empty = λ c j. refl } }
  where
    word_at : (i : ℕ) → i < length (n ∷ []) → slice_index (n ∷ []) i < 2 ^ 64
    word_at zero e = lt
    word_at (suc i) e = absurd (let o : ⊥ = omega (arith, e) in o)

abbrev bit_words : Bool → List ℕ
bit_words b = cond b 1 0 ∷ []

pub truth_is : (b : Bool) → Represents rep.Flag (v.Bool b) (cond b 1 0 ∷ []) none
truth_is b = record { registers = λ i e. word_at b i e; layout = layout b }
  where
    word_at : (b : Bool) (i : ℕ) → i < length (bit_words b) → slice_index (bit_words b) i < 2 ^ 64
    word_at true zero e = omega arith
    word_at false zero e = omega arith
    word_at b (suc i) e = absurd (let o : ⊥ = omega (arith, e) in o)

    layout : (b : Bool) → IsFlag b (cond b 1 0) none
    layout true = record { same = refl; empty = λ c j. refl }
    layout false = record { same = refl; empty = λ c j. refl }

no_tag : (W : ℕ → ℕ → ℕ) (n : ℕ) (x : Rep) (ws : List ℕ) → is_slice x ≡ false → Tag_at W n (bare x) ws
no_tag W n x ws e = (λ w. absurd (let z : true ≡ false = sym w ∙ e in let o : ⊥ = cc z in o), ap (λ y. not y || ltb 0 n) e)

pub one : (D : Dyn) (n : ℕ) (es : List Entry) (u : Arg) (i : Info) → Below n es → Rels D es → arg_info es u ≡ Some i → One D n es u i
one D n es (a.Num m) i b r e =
    cond_both {A = Option Info} (ltb m (2 ^ 64)) (Some (record { shape = bare rep.Word; words = Number m ∷ []; vars = [] })) None (λ y. y ≡ Some i → One D n es (a.Num m) i)
    (λ lt e.
    subst (λ y. One D n es (a.Num m) y) (some_is _ i e)
    (record { thing = record { value = v.Nat m; words = m ∷ []; piece = none }; rel = number_is m (ltb-true m (2 ^ 64) lt); tag = no_tag D.words n rep.Word (m ∷ []) refl; value = refl; words = refl; old = (tt, tt); among = tt; piece = refl; whole = λ z. none_whole; kind = inl (refl, refl) }))
    (λ lt e. absurd (let o : ⊥ = cc e in o))
    e
one D n es (a.Truth c) i b r e =
    subst (λ y. One D n es (a.Truth c) y) (some_is _ i e)
    (record { thing = record { value = v.Bool c; words = cond c 1 0 ∷ []; piece = none }; rel = truth_is c; tag = no_tag D.words n rep.Flag (cond c 1 0 ∷ []) refl; value = refl; words = refl; old = (tt, tt); among = tt; piece = refl; whole = λ z. none_whole; kind = inl (refl, refl) })
one D n es (a.Var v) i b r e = at (lookup es v) refl e
  where
    -- by whether it is a container
    piece_of : (x : Rep) (c : Bool) → is_container x ≡ c → (y : Value) (ws : List ℕ) → Represents x y ws (D.piece v) → D.piece v ≡ sum_vars D.piece (cond c (v ∷ []) [])
    piece_of x true q y ws h = sym (plus-none (D.piece v))
    piece_of x false q y ws h = no_piece x y ws (D.piece v) q h

    whole_of : (x : Rep) (c : Bool) → is_container x ≡ c → (y : Value) (ws : List ℕ) → Represents x y ws (D.piece v) → Vars_whole D (cond c (v ∷ []) []) → IsAllWhole (D.piece v)
    whole_of x true q y ws h z = z.0
    whole_of x false q y ws h z = subst IsAllWhole (sym (no_piece x y ws (D.piece v) q h)) none_whole

    kind_of : (x : Rep) (c : Bool) → is_container x ≡ c → (y : Value) (ws : List ℕ) → Represents x y ws (D.piece v) → ((cond c (v ∷ []) [] ≡ []) × (D.piece v ≡ none)) ⊎ ((w : ℕ) × (cond c (v ∷ []) [] ≡ w ∷ []) × (D.piece v ≡ D.piece w))
    kind_of x true q y ws h = inr (v, refl, refl)
    kind_of x false q y ws h = inl (refl, no_piece x y ws (D.piece v) q h)

    among_of : (c : Bool) → Among v es → All_among (cond c (v ∷ []) []) es
    among_of true m = (m, tt)
    among_of false m = tt

    at : (o : Option Entry) → lookup es v ≡ o → info_of o ≡ Some i → One D n es (a.Var v) i
    at None l e = absurd (let o : ⊥ = cc e in o)
    at (Some d) l e =
        let k = looked D n es v d b r l in
        let x = d.shape.rep in
        subst (λ y. One D n es (a.Var v) y) (ap (λ y. record { shape = d.shape; words = d.words; vars = only_container d.shape.rep y }) (sym k.same) ∙ some_is _ i e)
        (record {
          thing = record { value = D.value v; words = map (word D) d.words; piece = D.piece v };
          rel = k.rel;
          tag = k.tag;
          value = refl;
          words = refl;
          old = k.old;
          among = among_of (is_container x) k.among;
          piece = piece_of x (is_container x) refl (D.value v) (map (word D) d.words) k.rel;
          whole = whole_of x (is_container x) refl (D.value v) (map (word D) d.words) k.rel;
          kind = kind_of x (is_container x) refl (D.value v) (map (word D) d.words) k.rel;
        })

-- a word of the first argument
pub record First (D : Dyn) (n : ℕ) (things : List Thing) (j : ℕ) (t : Token) : Type 0 where
  pub head : Thing
  pub tail : List Thing
  pub is : things ≡ head ∷ tail
  pub word_is : slice_index head.words j ≡ word D t
  pub old : Old n t

pub nth_is : (D : Dyn) (n : ℕ) (ts : List Token) (j : ℕ) (t : Token) → Olds n ts → nth_token j ts ≡ Some t → (slice_index (map (word D) ts) j ≡ word D t) × Old n t
nth_is D n [] j t o e = absurd (let z : ⊥ = cc e in z)
nth_is D n (u ∷ ts) zero t o e = (ap (word D) (some_is u t e), subst (Old n) (some_is u t e) o.0)
nth_is D n (u ∷ ts) (suc j) t o e = nth_is D n ts j t o.1 e

-- what stands for each argument
abbrev pub Each : Dyn → ℕ → List Info → List Thing → Type 0
Each D n [] [] = Unit {0}
Each D n [] (t ∷ ts) = ⊥
Each D n (i ∷ is) [] = ⊥
Each D n (i ∷ is) (t ∷ ts) = (Represents i.shape.rep t.value t.words t.piece × Tag_at D.words n i.shape t.words) × (t.words ≡ map (word D) i.words) × Olds n i.words × Each D n is ts

-- arguments
pub record Args (D : Dyn) (n : ℕ) (es : List Entry) (args : List Arg) (is : List Info) : Type 0 where
  pub things : List Thing
  pub rel : All_rel (info_shapes is) things
  pub tags : Tagged D.words (info_shapes is) things
  pub origins : old_shapes n (info_shapes is) ≡ true
  pub values : values_of things ≡ arg_values D.value args
  pub words : words_of things ≡ map (word D) (all_words is)
  pub old : Olds n (all_words is)
  pub among : All_among (all_vars is) es
  pub piece : pieces_of things ≡ sum_vars D.piece (all_vars is)
  pub each : Each D n is things
  pub first : (j : ℕ) (t : Token) → nth_word j is ≡ Some t → First D n things j t
  pub some_among : (b : Bool) (ds : List Bool) → All_among (wanted b ds is) es
  pub some_piece : (b : Bool) (ds : List Bool) → some_pieces b ds things ≡ sum_vars D.piece (wanted b ds is)
  pub whole : Vars_whole D (all_vars is) → Wholes things
  pub kinds : Kinds D is things
  pub some_whole : (ds : List Bool) → Vars_whole D (wanted true ds is) → Destroyed_whole ds things

among-append : (xs ys : List ℕ) (es : List Entry) → All_among xs es → All_among ys es → All_among (xs ++ ys) es
among-append [] ys es a b = b
among-append (x ∷ xs) ys es a b = (a.0, among-append xs ys es a.1 b)

sum-append : (P : ℕ → Piece) (xs ys : List ℕ) → sum_vars P (xs ++ ys) ≡ plus (sum_vars P xs) (sum_vars P ys)
sum-append P [] ys = refl
sum-append P (x ∷ xs) ys = ap (plus (P x)) (sum-append P xs ys) ∙ sym (plus-assoc (P x) (sum_vars P xs) (sum_vars P ys))

cons_is : {A : Type 0} (o : Option A) (os : Option (List A)) (xs : List A) → cons_some o os ≡ Some xs → (x : A) × (ys : List A) × (o ≡ Some x) × (os ≡ Some ys) × (x ∷ ys ≡ xs)
cons_is None os xs e = absurd (let z : ⊥ = cc e in z)
cons_is (Some x) None xs e = absurd (let z : ⊥ = cc e in z)
cons_is (Some x) (Some ys) xs e = (x, ys, refl, refl, some_is _ xs e)

pub args_of : (D : Dyn) (n : ℕ) (es : List Entry) (args : List Arg) (is : List Info) → Below n es → Rels D es → arg_infos es args ≡ Some is → Args D n es args is
args_of D n es [] is b r e =
    subst (λ y. Args D n es [] y) (some_is [] is e)
    (record { things = []; rel = tt; tags = tt; origins = refl; values = refl; words = refl; old = tt; among = tt; piece = refl; each = tt; first = λ j t z. absurd (let o : ⊥ = cc z in o); some_among = none_among; some_piece = none_piece; whole = λ z. tt; kinds = tt; some_whole = none_destroyed })
  where
    none_among : (c : Bool) (ds : List Bool) → All_among (wanted c ds []) es
    none_among c [] = tt
    none_among c (d ∷ ds) = tt

    none_destroyed : (ds : List Bool) → Vars_whole D (wanted true ds []) → Destroyed_whole ds []
    none_destroyed [] z = tt
    none_destroyed (d ∷ ds) z = tt

    none_piece : (c : Bool) (ds : List Bool) → some_pieces c ds [] ≡ sum_vars D.piece (wanted c ds [])
    none_piece c [] = refl
    none_piece c (d ∷ ds) = refl
args_of D n es (u ∷ more) is b r e =
    let c = cons_is (arg_info es u) (arg_infos es more) is e in
    let i = c.0 in
    let js = c.1 in
    let x = one D n es u i b r c.2 in
    let xs = args_of D n es more js b r c.3 in
    subst (λ y. Args D n es (u ∷ more) y) c.4
    (record {
      things = x.thing ∷ xs.things;
      rel = (x.rel, xs.rel);
      tags = (x.tag.0, xs.tags);
      origins = ap (λ y. y && old_shapes n (info_shapes js)) x.tag.1 ∙ xs.origins;
      values = ap (λ y. y ∷ values_of xs.things) x.value ∙ ap (λ y. arg_value D.value u ∷ y) xs.values;
      words = ap (λ y. y ++ words_of xs.things) x.words ∙ ap (λ y. map (word D) i.words ++ y) xs.words ∙ sym (map-append (word D) i.words (all_words js));
      old = olds-append n i.words (all_words js) x.old xs.old;
      among = among-append i.vars (all_vars js) es x.among xs.among;
      piece = ap (λ y. plus y (pieces_of xs.things)) x.piece ∙ ap (plus (sum_vars D.piece i.vars)) xs.piece ∙ sym (sum-append D.piece i.vars (all_vars js));
      each = ((x.rel, x.tag), x.words, x.old, xs.each);
      first = λ j t z. let w = nth_is D n i.words j t x.old z in record { head = x.thing; tail = xs.things; is = refl; word_is = ap (λ y. slice_index y j) x.words ∙ w.0; old = w.1 };
      some_among = λ c ds. among_at c ds i js x.among xs.some_among;
      some_piece = λ c ds. piece_at c ds i js x.thing xs.things x.piece xs.some_piece;
      whole = λ z. let w = vars_split i.vars (all_vars js) z in (x.whole w.0, xs.whole w.1);
      kinds = (x.kind, xs.kinds);
      some_whole = λ ds. whole_at ds i js x.thing xs.things x.whole xs.some_whole;
    })
  where
    vars_split : (vs ws : List ℕ) → Vars_whole D (vs ++ ws) → Vars_whole D vs × Vars_whole D ws
    vars_split [] ws z = (tt, z)
    vars_split (v ∷ vs) ws z = let y = vars_split vs ws z.1 in ((z.0, y.0), y.1)

    whole_at : (ds : List Bool) (i : Info) (js : List Info) (t : Thing) (ts : List Thing) → (Vars_whole D i.vars → IsAllWhole t.piece) → ((ds : List Bool) → Vars_whole D (wanted true ds js) → Destroyed_whole ds ts) → Vars_whole D (wanted true ds (i ∷ js)) → Destroyed_whole ds (t ∷ ts)
    whole_at [] i js t ts x xs z = tt
    whole_at (true ∷ ds) i js t ts x xs z = let y = vars_split i.vars (wanted true ds js) z in (x y.0, xs ds y.1)
    whole_at (false ∷ ds) i js t ts x xs z = xs ds z

    among_at : (c : Bool) (ds : List Bool) (i : Info) (js : List Info) → All_among i.vars es → ((c : Bool) (ds : List Bool) → All_among (wanted c ds js) es) → All_among (wanted c ds (i ∷ js)) es
    among_at c [] i js x xs = tt
    among_at true (true ∷ ds) i js x xs = among-append i.vars (wanted true ds js) es x (xs true ds)
    among_at true (false ∷ ds) i js x xs = xs true ds
    among_at false (true ∷ ds) i js x xs = xs false ds
    among_at false (false ∷ ds) i js x xs = among-append i.vars (wanted false ds js) es x (xs false ds)

    both : (i : Info) (vs : List ℕ) (t : Thing) (q : Piece) → t.piece ≡ sum_vars D.piece i.vars → q ≡ sum_vars D.piece vs → plus t.piece q ≡ sum_vars D.piece (i.vars ++ vs)
    both i vs t q x y = ap (λ z. plus z q) x ∙ ap (plus (sum_vars D.piece i.vars)) y ∙ sym (sum-append D.piece i.vars vs)

    piece_at : (c : Bool) (ds : List Bool) (i : Info) (js : List Info) (t : Thing) (ts : List Thing) → t.piece ≡ sum_vars D.piece i.vars → ((c : Bool) (ds : List Bool) → some_pieces c ds ts ≡ sum_vars D.piece (wanted c ds js)) → some_pieces c ds (t ∷ ts) ≡ sum_vars D.piece (wanted c ds (i ∷ js))
    piece_at c [] i js t ts x xs = refl
    piece_at true (true ∷ ds) i js t ts x xs = both i (wanted true ds js) t (some_pieces true ds ts) x (xs true ds)
    piece_at true (false ∷ ds) i js t ts x xs = xs true ds
    piece_at false (true ∷ ds) i js t ts x xs = xs false ds
    piece_at false (false ∷ ds) i js t ts x xs = both i (wanted false ds js) t (some_pieces false ds ts) x (xs false ds)

pub lookup_among : (es : List Entry) (v : ℕ) (d : Entry) → lookup es v ≡ Some d → Among v es
lookup_among [] v d l = absurd (let o : ⊥ = cc l in o)
lookup_among (x ∷ es) v d l =
    cond_both {A = Option Entry} (eqb x.var v) (Some x) (lookup es v) (λ y. y ≡ Some d → Among v (x ∷ es))
    (λ q l. inl (eqb-true x.var v q))
    (λ q l. inr (lookup_among es v d l)) l

pub arg_among : (es : List Entry) (v : ℕ) (i : Info) → arg_info es (a.Var v) ≡ Some i → Among v es
arg_among es v i e = at (lookup es v) refl e
  where
    at : (o : Option Entry) → lookup es v ≡ o → info_of o ≡ Some i → Among v es
    at None l e = absurd (let o : ⊥ = cc e in o)
    at (Some d) l e = lookup_among es v d l
