-- Words that the grammar lets stand: their operations take what typing says, on so many arguments, and each has one where nothing is refused.
use Rattle.std.proofs.Common.{◌≡◌, ◌≤◌, ℕ, suc, ◌&&◌, not, Bool, true, false, cond, List, [], ◌∷◌, length, Option, Some, None, codes, refl, sym, ap, ◌∙◌, subst, arith}
use Rattle.nres_core.specs.Mirror.{rep_of}
use Rattle.nres_core.specs.Operations.{Entry, Gives, Makes, Takes_out, entry, takes_of, gives_of, makes_of, is_taking, rep_type, in_table, words, at_type, at_known, or_else, any_of, entry_arity, op_arity, entry_is_bare, meant_arity, meant_is_bare, OfFirst, OfMade, OfOp, OfEach}
use Rattle.nres_core.specs.Tree.{Word}
use Rattle.nres_rules.specs.Typed.{op_takes, op_gives, maker, made_right, in_limit, is_taker}
use Rattle.nres_rules.specs.Types.{Sig, Wrong, Other_rep, takes, unsettled, entry_sig, settled, meant_sig, sig_of, made_by, made_as, meant_fits, made_fits, rep_fits, meant_taker, taken_from, take_type, take_op, is_slice, same_type}
use Rattle.nres_core.specs.Vocabulary.{arity, is_empty_word}
use Rattle.nres_core.specs.declared.op.Op.{Op}
use Rattle.nres_core.specs.declared.op.Op.TheVariants as o
use Rattle.nres_core.specs.declared.tree.Chosen.{Chosen}
use Rattle.nres_core.specs.declared.ty.Ty.{Ty}
use Rattle.nres_core.specs.declared.ty.Ty.TheVariants as ty
use Rattle.nres_core.specs.declared.vocabulary.ByType.{ByType}
use Rattle.nres_core.specs.declared.vocabulary.Meant.{Meant}
use Rattle.nres_core.specs.declared.vocabulary.Meant.TheVariants as m
use Rattle.typing_laws.specs.Formed as f
use Rattle.typing_laws.specs.Formed.{WordFormed, may_stand}
use Rattle.nres_core.proofs.OperationsLemmas.{of_each, word_fits}
use Rattle.typing_laws.proofs.TypedLemmas.{both, and_true, some_same}
use Rattle.typing_laws.proofs.TypesLemmas.{fitting}

-- a word on n arguments that has this operation
pub record OpFacts (sig : Sig) (n : ℕ) (w : List ℕ) (made : Option Chosen) (op : Op) : Type 0 where
  pub from : sig.from ≡ op_takes op
  pub count : length (op_takes op) ≡ n
  pub lacks : sig.lacks ≡ None
  pub right : made_fits w made ≡ None → made_right (maker op) (rep_of made) ≡ true
  pub fits : made_right (maker op) (rep_of made) ≡ true → made_fits w made ≡ None

pub record HasOp (sig : Sig) : Type 0 where
  pub op : Op
  pub is : sig.op ≡ Some op

-- it has one where nothing is refused, and its first argument's type is known
pub record Facts (w : List ℕ) (first : Option Ty) (sig : Sig) (n : ℕ) (made : Option Chosen) : Type 0 where
  pub of_op : (op : Op) → sig.op ≡ Some op → OpFacts sig n w made op
  pub has : (1 ≤ n → first ≡ None → ⊥) → sig.lacks ≡ None → made_fits w made ≡ None → HasOp sig

-- an operation that gives one value, by its entry
known : (e : Entry) (op : Op) → entry op ≡ e → is_taking e ≡ false → (n : ℕ) (w : List ℕ) (first : Option Ty) (made : Option Chosen) → length (takes_of e) ≡ n
    → (made_fits w made ≡ None → made_right (makes_of e) (rep_of made) ≡ true) → (made_right (makes_of e) (rep_of made) ≡ true → made_fits w made ≡ None) → Facts w first (entry_sig e op) n made
known (Takes_out u) op h t n w first made c r f = absurd (cc)
known (Gives ts u) op h t n w first made c r f = record {
  of_op = λ op' k. let same : op ≡ op' = (cc) in
      subst (λ z. OpFacts (takes ts u op) n w made z) same (record {
        from = sym (ap takes_of h);
        count = ap (λ z. length (takes_of z)) h ∙ c;
        lacks = refl;
        right = λ q. ap (λ z. made_right (makes_of z) (rep_of made)) h ∙ r q;
        fits = λ q. f (sym (ap (λ z. made_right (makes_of z) (rep_of made)) h) ∙ q);
      });
  has = λ a b c. record { op = op; is = refl };
}
known (Makes ts u) op h t n w first made c r f = record {
  of_op = λ op' k. let same : op ≡ op' = (cc) in
      subst (λ z. OpFacts (takes ts u op) n w made z) same (record {
        from = sym (ap takes_of h);
        count = ap (λ z. length (takes_of z)) h ∙ c;
        lacks = refl;
        right = λ q. ap (λ z. made_right (makes_of z) (rep_of made)) h ∙ r q;
        fits = λ q. f (sym (ap (λ z. made_right (makes_of z) (rep_of made)) h) ∙ q);
      });
  has = λ a b c. record { op = op; is = refl };
}

-- there is none for this type
none : (w : List ℕ) (first to : Option Ty) (u : Ty) (n : ℕ) (made : Option Chosen) → Facts w first (unsettled to (Some u)) n made
none w first to u n made = record { of_op = λ op k. absurd (cc); has = λ a b c. absurd (cc) }

-- the type is not known
unknown : (w : List ℕ) (to : Option Ty) (n : ℕ) (made : Option Chosen) → 1 ≤ n → Facts w None (unsettled to None) n made
unknown w to n made h = record { of_op = λ op k. absurd (cc); has = λ a b c. absurd (a h refl) }

-- the representation is refused
misplaced : (w : List ℕ) (first : Option Ty) (n : ℕ) (made : Option Chosen) (v : Wrong) → made_fits w made ≡ Some v → Facts w first (unsettled None None) n made
misplaced w first n made v h = record { of_op = λ op k. absurd (cc); has = λ a b c. absurd (let e : Some v ≡ None = sym h ∙ c in (cc)) }

-- ---- words without a representation

counted : (e : Entry) (op : Op) → entry op ≡ e → (n : ℕ) (w : List ℕ) (first : Option Ty) → entry_arity e ≡ Some n → Facts w first (entry_sig e op) n None
unfolding made_fits
counted (Gives ts u) op h n w first a = known (Gives ts u) op h refl n w first None (some_same a) (λ q. refl) (λ q. refl)
counted (Makes ts u) op h n w first a = absurd (cc)
counted (Takes_out u) op h n w first a = absurd (cc)

-- of several operations, that for the type of the first argument
shared : (t : ByType) (to : Option Ty) (u : Ty) (x : Option Op) (n : ℕ) (w : List ℕ) → OfOp (OfFirst t to u) x → op_arity (any_of t) ≡ Some n → Facts w (Some u) (settled x to (Some u)) n None
shared t to u None n w f a = none w (Some u) to u n None
shared t to u (Some op) n w f a = go (entry op) refl f
  where
    go : (e : Entry) → entry op ≡ e → OfFirst t to u e → Facts w (Some u) (entry_sig e op) n None
    go (Gives (z ∷ ts) v) h f = counted (Gives (z ∷ ts) v) op h n w (Some u) (sym f.1 ∙ a)
    go (Gives [] v) h f = absurd f
    go (Makes ts v) h f = absurd f
    go (Takes_out v) h f = absurd f

some_argument : (t : ByType) (to : Option Ty) (n : ℕ) → OfEach (OfFirst t to) t → op_arity (any_of t) ≡ Some n → 1 ≤ n
some_argument t to n f a = go t.list t.set t.map t.bag f.0 f.1 f.2 f.3 a
  where
    one : (u : Ty) (e : Entry) → OfFirst t to u e → 1 ≤ n
    one u (Gives (z ∷ ts) v) h = let k : suc (length ts) ≡ n = some_same (sym h.1 ∙ a) in omega (arith, k)
    one u (Gives [] v) h = absurd h
    one u (Makes ts v) h = absurd h
    one u (Takes_out v) h = absurd h

    go : (x y z v : Option Op) → OfOp (OfFirst t to ty.List) x → OfOp (OfFirst t to ty.Set) y → OfOp (OfFirst t to ty.Map) z → OfOp (OfFirst t to ty.Bag) v → op_arity (or_else (or_else (or_else x y) z) v) ≡ Some n → 1 ≤ n
    go (Some op) y z v h i j k e = one ty.List (entry op) h
    go None (Some op) z v h i j k e = one ty.Set (entry op) i
    go None None (Some op) v h i j k e = one ty.Map (entry op) j
    go None None None (Some op) h i j k e = one ty.Bag (entry op) k
    go None None None None h i j k e = absurd (cc)

takes_right : (first : Option Ty) (w : List ℕ) (n : ℕ) → arity w ≡ Some n → Facts w first (sig_of (w, None) first) n None
unfolding arity sig_of
takes_right first w n a = pick (in_table w words) refl a
  where
    by_first : (t : ByType) (to z : Option Ty) → OfEach (OfFirst t to) t → op_arity (any_of t) ≡ Some n → Facts w z (settled (at_known z t) to z) n None
    by_first t to None f h = unknown w to n None (some_argument t to n f h)
    by_first t to (Some u) f h = shared t to u (at_type u t) n w (of_each (OfFirst t to) t u f) h

    pick : (x : Option Meant) → in_table w words ≡ x → meant_arity x ≡ Some n → Facts w first (meant_sig x None first) n None
    pick None e h = absurd (cc)
    pick (Some (m.Always op)) e h = counted (entry op) op refl n w first h
    pick (Some (m.ByFirst t to)) e h = by_first t to first (word_fits w (m.ByFirst t to) e) h
    pick (Some (m.ByMade t)) e h = absurd (cc)

-- ---- constructors

-- of one type
makes : (ts : List Ty) (u : Ty) (op : Op) → entry op ≡ Makes ts u → (n : ℕ) (w : List ℕ) (first : Option Ty) (ch : Chosen) → length ts ≡ n → may_stand false ch.rep ≡ true
    → made_fits w (Some ch) ≡ rep_fits ch.place u ch.rep → Facts w first (entry_sig (Makes ts u) op) n (Some ch)
makes ts u op h n w first ch c stands e =
    let same = same_type u (rep_type ch.rep) in
    known (Makes ts u) op h refl n w first (Some ch) c
    (λ q. and_true (fitting ch.place u ch.rep (sym e ∙ q)) stands)
    (λ q. e ∙ ap (λ b. cond b None (Some (Other_rep ch.place ch.rep))) (both same (in_limit ch.rep && not (is_slice ch.rep)) q).left)

zeros_right : (first : Option Ty) (ch : Chosen) → may_stand false ch.rep ≡ true → Facts (codes "zeros") first (sig_of (codes "zeros", Some ch.rep) first) 1 (Some ch)
unfolding sig_of made_fits
zeros_right first ch h = makes (ty.Nat ∷ []) ty.List o.Zeros refl 1 (codes "zeros") first ch refl h refl

itself : (u : Ty) → same_type u u ≡ true
itself ty.Nat = refl
itself ty.Bool = refl
itself ty.List = refl
itself ty.Set = refl
itself ty.Map = refl
itself ty.Bag = refl

bare_right : (first : Option Ty) (w : List ℕ) (ch : Chosen) → is_empty_word w ≡ true → may_stand false ch.rep ≡ true → Facts w first (sig_of (w, Some ch.rep) first) 0 (Some ch)
unfolding is_empty_word sig_of made_fits
bare_right first w ch a stands = pick (in_table w words) refl a
  where
    always : (e : Entry) (op : Op) → entry op ≡ e → entry_is_bare e ≡ true → made_fits w (Some ch) ≡ rep_fits ch.place (made_as e) ch.rep → Facts w first (entry_sig e op) 0 (Some ch)
    always (Makes [] u) op h b f = makes [] u op h 0 w first ch refl stands f
    always (Makes (v ∷ ts) u) op h b f = absurd (cc)
    always (Gives ts u) op h b f = absurd (cc)
    always (Takes_out u) op h b f = absurd (cc)

    by_made : (x : Option Op) → OfOp (OfMade (rep_type ch.rep)) x → made_fits w (Some ch) ≡ made_by ch.place ch.rep x → Facts w first (settled x None None) 0 (Some ch)
    by_made None f e = misplaced w first 0 (Some ch) (Other_rep ch.place ch.rep) e
    by_made (Some op) f e =
        subst (λ z. Facts w first (entry_sig z op) 0 (Some ch)) (sym f)
        (known (Makes [] (rep_type ch.rep)) op f refl 0 w first (Some ch) refl (λ q. and_true (itself (rep_type ch.rep)) stands) (λ q. e))

    pick : (x : Option Meant) → in_table w words ≡ x → meant_is_bare x ≡ true → Facts w first (meant_sig x (Some ch.rep) first) 0 (Some ch)
    pick None e b = absurd (cc)
    pick (Some (m.Always op)) e b = always (entry op) op refl b (ap (λ z. meant_fits z ch) e)
    pick (Some (m.ByFirst t to)) e b = absurd (cc)
    pick (Some (m.ByMade t)) e b = by_made (at_type (rep_type ch.rep) t) (of_each OfMade t (rep_type ch.rep) (word_fits w (m.ByMade t) e)) (ap (λ z. meant_fits z ch) e)

pub word_facts : {w : Word} {n : ℕ} {made : Option Chosen} → WordFormed w n made → (first : Option Ty) → Facts w.0 first (sig_of w first) n made
word_facts (f.takes {w = w} {n = n} i) first = takes_right first w n i
word_facts (f.zeros {ch = ch} h) first = zeros_right first ch h
word_facts (f.empty {w = w} {ch = ch} e h) first = bare_right first w ch e h

-- ---- taking an element out

record Takes (op : Op) : Type 0 where
  taker : is_taker op ≡ true
  from : op_takes op ≡ taken_from (entry op) ∷ []
  gives : op_gives op ≡ ty.Nat ∷ taken_from (entry op) ∷ []

takes_out : (e : Entry) (op : Op) → entry op ≡ e → is_taking e ≡ true → Takes op
takes_out (Takes_out u) op h t = record {
  taker = ap is_taking h;
  from = ap takes_of h ∙ ap (λ z. taken_from z ∷ []) (sym h);
  gives = ap gives_of h ∙ ap (λ z. ty.Nat ∷ taken_from z ∷ []) (sym h);
}
takes_out (Gives ts u) op h t = absurd (cc)
takes_out (Makes ts u) op h t = absurd (cc)

least : Takes o.TakeMin
least = record { taker = refl; from = refl; gives = refl }

meant_takes : (x : Option Meant) → Takes (meant_taker x)
meant_takes None = least
meant_takes (Some (m.ByFirst t to)) = least
meant_takes (Some (m.ByMade t)) = least
meant_takes (Some (m.Always op)) = pick (is_taking (entry op)) refl
  where
    pick : (b : Bool) → is_taking (entry op) ≡ b → Takes (cond b op o.TakeMin)
    pick true h = takes_out (entry op) op refl h
    pick false h = least

pub record Taking (w : List ℕ) : Type 0 where
  pub taker : is_taker (take_op w) ≡ true
  pub from : op_takes (take_op w) ≡ take_type w ∷ []
  pub gives : op_gives (take_op w) ≡ ty.Nat ∷ take_type w ∷ []

pub taking : (w : List ℕ) → Taking w
unfolding take_op
taking w = let x = meant_takes (in_table w words) in record { taker = x.taker; from = x.from; gives = x.gives }
