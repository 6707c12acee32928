-- What a token leads to is meant before it: parameters, values and whole texts.
use Rattle.std.proofs.Common.{◌≡◌, ℕ, zero, suc, ◌≤◌, Bool, true, false, cond, ◌&&◌, nat_le, List, [], ◌∷◌, ◌++◌, Some, codes, refl, ap, ◌∙◌, sym, subst, arith, append_assoc, append-nil}
use Rattle.std.proofs.lemmas.Bool.Decides.{nat_tests}
use Rattle.target_code.specs.declared.tree.Rep.{Rep}
use Rattle.containers.specs.Bag.{bag_of}
use Rattle.nres_core.specs.Grammar as g
use Rattle.nres_core.specs.Grammar.{IsRep, IsBlock}
use Rattle.nres_core.specs.Texts as texts
use Rattle.nres_core.specs.Texts.{IsContainer, IsOne, IsParam, AreMoreParams, AreParams, AreMoreShown, AreShown, AreNumbers, AreMembers, ArePairs, IsValue, AreWiths, IsSpec, AreFuns, IsFile, put_all}
use Rattle.nres_core.specs.Vocabulary.{Tok, word, sign, name, number, named, type_word, bound_word}
use Rattle.nres_core.specs.declared.place.Named.{Named}
use Rattle.nres_core.specs.declared.place.Place.{Place}
use Rattle.nres_core.specs.declared.tree.Block.{Block}
use Rattle.nres_core.specs.declared.tree.Fun.{Fun}
use Rattle.nres_core.specs.declared.tree.Param.{Param}
use Rattle.nres_core.specs.declared.tree.Shown.{Shown}
use Rattle.nres_core.specs.declared.tree.Spec.{Spec}
use Rattle.nres_core.specs.declared.tree.With.{With}
use Rattle.nres_core.specs.declared.ty.Ty.{Ty}
use Rattle.nres_core.specs.declared.ty.Ty.TheVariants as ty
use Rattle.nres_core.specs.declared.value.Value.{Value}
use Rattle.nres_core.specs.declared.value.Value.TheVariants as v
use Rattle.nres_automaton.specs.Automaton as mode
use Rattle.nres_automaton.specs.Automaton.{Found, specification, Mode, Next, go, done, stop, deep, bound_of, open_bracket, open_both}
use Rattle.nres_automaton.specs.declared.lexeme.Bounded.{Bounded}
use Rattle.nres_automaton.specs.declared.lexeme.Fixed.{Fixed}
use Rattle.nres_automaton.specs.declared.lexeme.Fixed.TheVariants as fixed
use Rattle.nres_automaton.specs.declared.lexeme.Lexeme.{Lexeme}
use Rattle.nres_automaton.specs.declared.lexeme.Lexeme.TheVariants as x
use Rattle.nres_automaton.proofs.Tokens.{Is}
use Rattle.nres_automaton.proofs.Tokens as tokens
use Rattle.nres_automaton.proofs.Means.{Means, Leads, NumbersTo, last, another, passes, takes, goes_by, leaves, a_name, a_number, a_bound, a_rep, has_steps, is_plain, is_held, has_params, has_shown, has_more, has_numbers, has_pairs, has_value, has_file, has_funs, has_withs}
use Rattle.nres_automaton.proofs.SoundParts.{Back}

-- ---- names, numbers and representations

pub sound_name : {l r o : ℕ} {ts : List Tok} {y : Found} (k : Named → Mode) (v : Lexeme) (t : Tok) → Is v t → Back l r o (mode.name k) v ts y t
sound_name {l = l} {r = r} {o = o} {ts = ts} {y = y} k x.Name t i = subst (Back l r o (mode.name k) x.Name ts y) (sym i) (λ h. a_name h)
sound_name k _ t i = λ h. absurd h

pub sound_number : {l r o : ℕ} {ts : List Tok} {y : Found} (k : ℕ → Mode) (v : Lexeme) (t : Tok) → Is v t → Back l r o (mode.number k) v ts y t
sound_number {l = l} {r = r} {o = o} {ts = ts} {y = y} k (x.Number n) t i = subst (Back l r o (mode.number k) (x.Number n) ts y) (sym i) (λ h. a_number h)
sound_number k _ t i = λ h. absurd h

in_bounds : (u : ℕ) → nat_le 1 u && nat_le u 4294967295 ≡ true → (1 ≤ u) × (u ≤ 4294967295)
in_bounds u h = (grind (arith, nat_tests), grind (arith, nat_tests))

bound_means : {l r o u : ℕ} {d : List ℕ} {p : Place} {k : ℕ → Mode} {ts : List Tok} {y : Found} (b : Bool) → nat_le 1 u && nat_le u 4294967295 ≡ b → Leads l (cond b (go r o (k u)) stop) ts y
    → Means l (mode.bound k) r o (number u d p ∷ ts) y
bound_means {u = u} true e h = let f = in_bounds u e in a_bound f.0 f.1 h
bound_means false e h = absurd h

pub sound_bound : {l r o : ℕ} {ts : List Tok} {y : Found} (k : ℕ → Mode) (v : Lexeme) (t : Tok) → Is v t → Back l r o (mode.bound k) v ts y t
sound_bound {l = l} {r = r} {o = o} {ts = ts} {y = y} k (x.Number u) t i = subst (Back l r o (mode.bound k) (x.Number u) ts y) (sym i) (λ h. bound_means (nat_le 1 u && nat_le u 4294967295) refl h)
sound_bound k _ t i = λ h. absurd h

bounded_means : {l r o : ℕ} {w : List ℕ} {p : Place} {k : Rep → Place → Mode} {ts : List Tok} {y : Found} (b : Bounded) → ((u : ℕ) → bound_word w u ≡ Some (bound_of b u))
    → Means l (mode.bound (λ u. k (bound_of b u) p)) r o ts y → Means l (mode.rep k) r o (word w p ∷ ts) y
bounded_means b i (a_bound {u = u} m n h) = a_rep (g.bounded (i u) m n) h

pub sound_rep : {l r o : ℕ} {ts : List Tok} {y : Found} (k : Rep → Place → Mode) (v : Lexeme) (t : Tok) → Is v t → Back l r o (mode.rep k) v ts y t
sound_rep {l = l} {r = r} {o = o} {ts = ts} {y = y} k (x.Unbounded z) t i = subst (Back l r o (mode.rep k) (x.Unbounded z) ts y) (sym i.0) (λ h. a_rep (g.unbounded i.1) h)
sound_rep {l = l} {r = r} {o = o} {ts = ts} {y = y} k (x.Bounded b) t i = subst (Back l r o (mode.rep k) (x.Bounded b) ts y) (sym i.0) (λ h. bounded_means b i.1 h)
sound_rep k _ t i = λ h. absurd h

-- ---- types

laid_means : {l r o : ℕ} {b : Bool} {w : List ℕ} {s : Ty} {p q : Place} {plain held : Shown → Mode} {ts : List Tok} {y : Found} → type_word w ≡ Some s → Means l (mode.laid s held) r o ts y
    → Means l (mode.typed b plain held) r o (word w p ∷ word (codes "as") q ∷ ts) y
laid_means i (a_rep z h) = is_held (texts.container i z) h

slice_means : {l r o : ℕ} {w : List ℕ} {p q : Place} {plain held : Shown → Mode} {ts : List Tok} {y : Found} → type_word w ≡ Some ty.List
    → Means l (mode.when fixed.Slice (λ p. held (mode.slice_at p)) (mode.laid ty.List held)) r o ts y → Means l (mode.typed true plain held) r o (word w p ∷ word (codes "as") q ∷ ts) y
slice_means {l = l} {r = r} {o = o} {w = w} {p = p} {q = q} {plain = plain} {held = held} {y = y} i (takes {ts = ts} s h) =
    subst (λ z. Means l (mode.typed true plain held) r o (word z p ∷ word (codes "as") q ∷ word (codes "slice") s ∷ ts) y) (sym (tokens.type_spelled w ty.List i)) (is_held texts.slice h)
slice_means i (goes_by h) = laid_means i h

either_means : {l r o : ℕ} {w : List ℕ} {p q : Place} {plain held : Shown → Mode} {ts : List Tok} {y : Found} (b : Bool) (s : Ty) → type_word w ≡ Some s
    → Means l (cond (b && mode.is_list s) (mode.when fixed.Slice (λ p. held (mode.slice_at p)) (mode.laid s held)) (mode.laid s held)) r o ts y
    → Means l (mode.typed b plain held) r o (word w p ∷ word (codes "as") q ∷ ts) y
either_means false s i h = laid_means i h
either_means true ty.List i h = slice_means i h
either_means true ty.Nat i h = laid_means i h
either_means true ty.Bool i h = laid_means i h
either_means true ty.Set i h = laid_means i h
either_means true ty.Map i h = laid_means i h
either_means true ty.Bag i h = laid_means i h

container_means : {l r o : ℕ} {w : List ℕ} {p : Place} {plain held : Shown → Mode} {ts : List Tok} {y : Found} (b : Bool) (s : Ty) → type_word w ≡ Some s → Means l (mode.container b s held) r o ts y
    → Means l (mode.typed b plain held) r o (word w p ∷ ts) y
container_means b s i (passes q h) = either_means b s i h

pub sound_typed : {l r o : ℕ} {ts : List Tok} {y : Found} (b : Bool) (plain held : Shown → Mode) (v : Lexeme) (t : Tok) → Is v t → Back l r o (mode.typed b plain held) v ts y t
sound_typed {l = l} {r = r} {o = o} {ts = ts} {y = y} b plain held (x.Plain s z) t i = subst (Back l r o (mode.typed b plain held) (x.Plain s z) ts y) (sym i.0) (λ h. is_plain i.1 h)
sound_typed {l = l} {r = r} {o = o} {ts = ts} {y = y} b plain held (x.Type s) t i = subst (Back l r o (mode.typed b plain held) (x.Type s) ts y) (sym i.0) (λ h. container_means b s i.1 h)
sound_typed {l = l} {r = r} {o = o} {ts = ts} {y = y} b plain held (x.Fixed fixed.Set) t i =
    subst (Back l r o (mode.typed b plain held) (x.Fixed fixed.Set) ts y) (sym i) (λ h. container_means b ty.Set tokens.set_type h)
sound_typed b plain held _ t i = λ h. absurd h

-- what a part of this type is, and what is meant behind it
pub data Ones (l : ℕ) (b : Bool) (k : Shown → Mode) (r : ℕ) (ts : List Tok) (y : Found) : Type 0 where
  a_one : {d : ℕ} {s : Shown} {rest : List Tok} → IsOne b ts rest s → Means l (k s) r d rest y → Ones l b k r ts y

one_of : {l r o : ℕ} {b : Bool} {k : Shown → Mode} {ts : List Tok} {y : Found} → Means l (mode.typed b k k) r o ts y → Ones l b k r ts y
one_of (is_plain i h) = a_one (texts.plain i) h
one_of (is_held d h) = a_one (texts.held d) h

-- ---- parameters

params_more : {l r o d : ℕ} {b : Bool} {xs : List Param} {x : Param} {k : List Param → Mode} {ts mid : List Tok} {y : Found}
    → IsParam b ts mid x → Means l (mode.comma_or fixed.Close (mode.more_params b (xs ++ x ∷ []) k) (k (xs ++ x ∷ []))) r d mid y
    → Means l (mode.more_params b xs k) r o ts y
params_more {l = l} {r = r} {xs = xs} {x = z} {k = k} {y = y} p (takes q (has_params {d = c} {ys = ys} {rest = rest} ds h)) =
    has_params (texts.another_param p ds) (subst (λ a. Means l (k a) r c rest y) (append_assoc xs (z ∷ []) ys) h)
params_more p (goes_by (passes q h)) = has_params (texts.last_param p) h

param_means : {l r o : ℕ} {b : Bool} {xs : List Param} {w : List ℕ} {p : Place} {k : List Param → Mode} {ts : List Tok} {y : Found} → Means l (mode.param_read b xs k (named w p)) r o ts y
    → Means l (mode.more_params b xs k) r o (name w p ∷ ts) y
param_means (passes q (is_plain i h)) = params_more (texts.given (texts.plain i)) h
param_means (passes q (is_held d (takes s h))) = params_more (texts.kept d) h
param_means (passes q (is_held d (goes_by h))) = params_more (texts.given (texts.held d)) h

pub sound_params : {l r o : ℕ} {ts : List Tok} {y : Found} (b : Bool) (xs : List Param) (k : List Param → Mode) (v : Lexeme) (t : Tok) → Is v t → Back l r o (mode.more_params b xs k) v ts y t
sound_params {l = l} {r = r} {o = o} {ts = ts} {y = y} b xs k x.Name t i = subst (Back l r o (mode.more_params b xs k) x.Name ts y) (sym i) (λ h. param_means h)
sound_params b xs k _ t i = λ h. absurd h

-- ---- what is shown

more_means : {l r o : ℕ} {b : Bool} {xs : List Shown} {k : List Shown → Mode} {ts : List Tok} {y : Found} → Ones l b (mode.shown_read b xs k) r ts y → Means l (mode.more_shown b xs k) r o ts y
more_means {l = l} {r = r} {xs = xs} {k = k} {y = y} (a_one {s = s} e (takes q (has_more {d = c} {ys = ys} {rest = rest} ds h))) =
    has_more (texts.another_shown e ds) (subst (λ z. Means l (k z) r c rest y) (append_assoc xs (s ∷ []) ys) h)
more_means (a_one e (goes_by (passes q h))) = has_more (texts.last_shown e) h

pub sound_more : {l r o : ℕ} {ts : List Tok} {y : Found} (b : Bool) (xs : List Shown) (k : List Shown → Mode) (v : Lexeme) (t : Tok) → Is v t → Back l r o (mode.more_shown b xs k) v ts y t
sound_more b xs k v t i = λ h. more_means (one_of (sound_typed b (mode.shown_read b xs k) (mode.shown_read b xs k) v t i h))

several_means : {l r o : ℕ} {b : Bool} {k : List Shown → Mode} {p : Place} {ts : List Tok} {y : Found} → Ones l b (mode.first_shown b k) r ts y → Means l (mode.shown b k) (suc r) o (sign (codes "(") p ∷ ts) y
several_means (a_one e (passes q (has_more ds (leaves h)))) = has_shown (texts.several_shown e ds) h

open_shown : {l o : ℕ} {b : Bool} {k : List Shown → Mode} {p : Place} {ts : List Tok} {y : Found} (r : ℕ) → Leads l (open_bracket r o (λ _. mode.typed b (mode.first_shown b k) (mode.first_shown b k)) p) ts y
    → Means l (mode.shown b k) r o (sign (codes "(") p ∷ ts) y
open_shown zero h = absurd h
open_shown (suc r) h = several_means (one_of h)

shown_means : {l r o : ℕ} {b : Bool} {k : List Shown → Mode} {ts : List Tok} {y : Found} → Ones l b (λ s. k (s ∷ [])) r ts y → Means l (mode.shown b k) r o ts y
shown_means (a_one e h) = has_shown (texts.one_shown e) h

pub sound_shown : {l r o : ℕ} {ts : List Tok} {y : Found} (b : Bool) (k : List Shown → Mode) (v : Lexeme) (t : Tok) → Is v t → Back l r o (mode.shown b k) v ts y t
sound_shown {l = l} {r = r} {o = o} {ts = ts} {y = y} b k (x.Fixed fixed.Open) t i = subst (Back l r o (mode.shown b k) (x.Fixed fixed.Open) ts y) (sym i) (λ h. open_shown r h)
sound_shown {o = o} b k v t i = λ h. shown_means (one_of {o = o} (sound_typed b (λ s. k (s ∷ [])) (λ s. k (s ∷ [])) v t i h))

-- ---- values

numbers_mean : {l r o n : ℕ} {d : List ℕ} {p : Place} {z : Fixed} {ns : List ℕ} {k : List ℕ → Mode} {ts : List Tok} {y : Found} → Means l (mode.numbers_read z (ns ++ n ∷ []) k) r o ts y
    → Means l (mode.numbers z ns k) r o (number n d p ∷ ts) y
numbers_mean {l = l} {r = r} {n = n} {ns = ns} {k = k} {y = y} (takes q (has_numbers {d = c} {ms = ms} {rest = rest} ds h)) =
    has_numbers (another ds) (subst (λ z. Means l (k z) r c rest y) (append_assoc ns (n ∷ []) ms) h)
numbers_mean (goes_by (passes q h)) = has_numbers (last q) h

pub sound_numbers : {l r o : ℕ} {ts : List Tok} {y : Found} (z : Fixed) (ns : List ℕ) (k : List ℕ → Mode) (v : Lexeme) (t : Tok) → Is v t → Back l r o (mode.numbers z ns k) v ts y t
sound_numbers {l = l} {r = r} {o = o} {ts = ts} {y = y} z ns k (x.Number n) t i = subst (Back l r o (mode.numbers z ns k) (x.Number n) ts y) (sym i) (λ h. numbers_mean h)
sound_numbers z ns k _ t i = λ h. absurd h

pairs_mean : {l r o n : ℕ} {d : List ℕ} {p : Place} {es : List (ℕ × ℕ)} {k : List (ℕ × ℕ) → Mode} {ts : List Tok} {y : Found} → Means l (mode.pass fixed.Colon (λ _. mode.pair_of es k n)) r o ts y
    → Means l (mode.pairs es k) r o (number n d p ∷ ts) y
pairs_mean {l = l} {r = r} {n = n} {es = es} {k = k} {y = y} (passes q (a_number {n = a} (takes s (has_pairs {d = c} {fs = fs} {rest = rest} ds h)))) =
    has_pairs (texts.another_pair ds) (subst (λ z. Means l (k z) r c rest y) (append_assoc es ((n, a) ∷ []) fs) h)
pairs_mean (passes q (a_number (goes_by (passes s h)))) = has_pairs texts.last_pair h

pub sound_pairs : {l r o : ℕ} {ts : List Tok} {y : Found} (es : List (ℕ × ℕ)) (k : List (ℕ × ℕ) → Mode) (v : Lexeme) (t : Tok) → Is v t → Back l r o (mode.pairs es k) v ts y t
sound_pairs {l = l} {r = r} {o = o} {ts = ts} {y = y} es k (x.Number n) t i = subst (Back l r o (mode.pairs es k) (x.Number n) ts y) (sym i) (λ h. pairs_mean h)
sound_pairs es k _ t i = λ h. absurd h

to_square : {ts rest : List Tok} {ns : List ℕ} → NumbersTo fixed.CloseSquare ts rest ns → AreNumbers (codes "]") ts rest ns
to_square (last q) = texts.last_number
to_square (another d) = texts.another_number (to_square d)

to_brace : {ts rest : List Tok} {ns : List ℕ} → NumbersTo fixed.CloseBrace ts rest ns → AreNumbers (codes "}") ts rest ns
to_brace (last q) = texts.last_number
to_brace (another d) = texts.another_number (to_brace d)

-- what the members up to a square bracket are, and what is meant behind it
pub data Members (l : ℕ) (k : List ℕ → Mode) (r : ℕ) (ts : List Tok) (y : Found) : Type 0 where
  some_members : {d : ℕ} {ns : List ℕ} {rest : List Tok} → AreMembers (codes "]") ts rest ns → Means l (k ns) r d rest y → Members l k r ts y

members_of : {l r o : ℕ} {k : List ℕ → Mode} {ts : List Tok} {y : Found} → Means l (mode.members fixed.CloseSquare k) r o ts y → Members l k r ts y
members_of (takes q h) = some_members texts.no_member h
members_of (goes_by (has_numbers d h)) = some_members (texts.members (to_square d)) h

list_means : {l r o : ℕ} {k : Value → Mode} {p : Place} {ts : List Tok} {y : Found} → Members l (λ ns. k (v.List ns)) r ts y → Means l (mode.value k) r o (sign (codes "[") p ∷ ts) y
list_means (some_members d h) = has_value (texts.a_list d) h

bag_members : {l r o : ℕ} {k : Value → Mode} {p q : Place} {ts : List Tok} {y : Found} → Members l (λ ns. k (v.Bag (bag_of ns))) r ts y → Means l (mode.value k) r o (word (codes "bag") p ∷ sign (codes "[") q ∷ ts) y
bag_members (some_members d h) = has_value (texts.a_bag d) h

bag_means : {l r o : ℕ} {k : Value → Mode} {p : Place} {ts : List Tok} {y : Found} → Means l (mode.pass fixed.OpenSquare (λ _. mode.members fixed.CloseSquare (λ ns. k (v.Bag (bag_of ns))))) r o ts y
    → Means l (mode.value k) r o (word (codes "bag") p ∷ ts) y
bag_means (passes q h) = bag_members (members_of h)

brace_means : {l r o : ℕ} {k : Value → Mode} {p : Place} {ts : List Tok} {y : Found} → Means l (mode.braces k) r o ts y → Means l (mode.value k) r o (sign (codes "{") p ∷ ts) y
brace_means (takes q (passes s h)) = has_value texts.no_pair h
brace_means (goes_by (takes q h)) = has_value (texts.a_set texts.no_member) h
brace_means (goes_by (goes_by (a_number (takes q (a_number (takes s (has_pairs ds h))))))) = has_value (texts.a_map (texts.another_pair ds)) h
brace_means (goes_by (goes_by (a_number (takes q (a_number (goes_by (passes s h))))))) = has_value (texts.a_map texts.last_pair) h
brace_means (goes_by (goes_by (a_number (goes_by (takes q (has_numbers d h)))))) = has_value (texts.a_set (texts.members (texts.another_number (to_brace d)))) h
brace_means (goes_by (goes_by (a_number (goes_by (goes_by (passes q h)))))) = has_value (texts.a_set (texts.members texts.last_number)) h

bag_back : {l r o : ℕ} {ts : List Tok} {y : Found} (k : Value → Mode) (t : Tok) → Is (x.Type ty.Bag) t → Back l r o (mode.value k) (x.Type ty.Bag) ts y t
bag_back {l = l} {r = r} {o = o} {ts = ts} {y = y} k t i =
    subst (Back l r o (mode.value k) (x.Type ty.Bag) ts y) (sym (i.0 ∙ ap (λ w. word w t.place) (tokens.type_spelled t.bytes ty.Bag i.1))) (λ h. bag_means h)

pub sound_value : {l r o : ℕ} {ts : List Tok} {y : Found} (k : Value → Mode) (v : Lexeme) (t : Tok) → Is v t → Back l r o (mode.value k) v ts y t
sound_value {l = l} {r = r} {o = o} {ts = ts} {y = y} k (x.Number n) t i = subst (Back l r o (mode.value k) (x.Number n) ts y) (sym i) (λ h. has_value texts.a_number h)
sound_value {l = l} {r = r} {o = o} {ts = ts} {y = y} k (x.Truth b) t i = subst (Back l r o (mode.value k) (x.Truth b) ts y) (sym i.0) (λ h. has_value (texts.a_truth i.1) h)
sound_value {l = l} {r = r} {o = o} {ts = ts} {y = y} k (x.Fixed fixed.OpenSquare) t i = subst (Back l r o (mode.value k) (x.Fixed fixed.OpenSquare) ts y) (sym i) (λ h. list_means (members_of h))
sound_value {l = l} {r = r} {o = o} {ts = ts} {y = y} k (x.Fixed fixed.OpenBrace) t i = subst (Back l r o (mode.value k) (x.Fixed fixed.OpenBrace) ts y) (sym i) (λ h. brace_means h)
sound_value k (x.Type ty.Bag) t i = bag_back k t i
sound_value k _ t i = λ h. absurd h

-- ---- whole texts

with_means : {l r o : ℕ} {ws : List With} {k : List With → Found} {p : Place} {ts : List Tok} {y : Found} → Means l (mode.with_of ws k) r o ts y → Means l (mode.withs ws k) r o (word (codes "with") p ∷ ts) y
with_means {l = l} {r = r} {o = o} {ws = ws} {k = k} {p = p} (a_name {w = w} {p = q} (passes s (has_value {x = a} {ts = ts} {rest = rest} d (has_withs {us = us} ds)))) =
    let one : With = record { name = w; place = q; value = a } in
    subst (λ z. Means l (mode.withs ws k) r o (word (codes "with") p ∷ name w q ∷ sign (codes "=") s ∷ ts) z) (ap k (sym (append_assoc ws (one ∷ []) us))) (has_withs (texts.gives d ds))

pub sound_withs : {l r o : ℕ} {ts : List Tok} {y : Found} (ws : List With) (k : List With → Found) (v : Lexeme) (t : Tok) → Is v t → Back l r o (mode.withs ws k) v ts y t
sound_withs ws k x.End t i = absurd i
sound_withs {l = l} {r = r} {o = o} {ts = ts} {y = y} ws k (x.Fixed fixed.With) t i = subst (Back l r o (mode.withs ws k) (x.Fixed fixed.With) ts y) (sym i) (λ h. with_means h)
sound_withs ws k _ t i = λ h. absurd h

-- parameters, and what is meant behind them
pub data Params (l : ℕ) (b : Bool) (k : List Param → Mode) (r : ℕ) (ts : List Tok) (y : Found) : Type 0 where
  some_params : {d : ℕ} {xs : List Param} {rest : List Tok} → AreParams b (suc r) ts rest xs → Means l (k xs) (suc r) d rest y → Params l b k r ts y

params_of : {l r o : ℕ} {b : Bool} {k : List Param → Mode} {ts : List Tok} {y : Found} → Means l (mode.params b k) r o ts y → Params l b k r ts y
params_of (passes p (takes q (leaves h))) = some_params texts.no_param h
params_of (passes p (goes_by (has_params ds (leaves h)))) = some_params (texts.params ds) h

-- a heading with its block, and what is meant behind it
pub data Headed (l : ℕ) (b : Bool) (k : Named → List Param → List Shown → Block → Mode) (r : ℕ) : List Tok → Found → Type 0 where
  a_heading : {c : ℕ} {n : List ℕ} {p s u : Place} {ts a d rest : List Tok} {xs : List Param} {ys : List Shown} {z : Block} {y : Found}
      → AreParams b (suc r) ts (sign (codes ":") s ∷ a) xs → AreShown b (suc r) a d ys → IsBlock l (suc r) d (word (codes "end") u ∷ rest) z
      → Means l (k (named n p) xs ys z) (suc (suc r)) c rest y → Headed l b k r (name n p ∷ ts) y

behind_params : {l r : ℕ} {b : Bool} {k : Named → List Param → List Shown → Block → Mode} {n : List ℕ} {p : Place} {ts : List Tok} {y : Found}
    → Params l b (λ xs. mode.pass fixed.Colon (λ _. mode.shown b (λ ys. mode.last_block (λ z. k (named n p) xs ys z)))) r ts y → Headed l b k r (name n p ∷ ts) y
behind_params (some_params e (passes s (has_shown f (has_steps a1 b1 (passes u (leaves h)))))) = a_heading e f (g.block a1 b1) h

headed_of : {l r o : ℕ} {b : Bool} {k : Named → List Param → List Shown → Block → Mode} {ts : List Tok} {y : Found} → Means l (mode.headed b k) r o ts y → Headed l b k r ts y
headed_of (a_name h) = behind_params (params_of h)

fun_means : {l r o : ℕ} {p : Place} {fs : List Fun} {k : List Fun → List With → Found} {ts : List Tok} {y : Found} → Headed l true (λ n xs ys z. mode.funs (fs ++ mode.fun_of n xs ys z ∷ []) k) r ts y
    → Means l (mode.funs fs k) (suc (suc r)) o (word (codes "fun") p ∷ ts) y
fun_means {l = l} {r = r} {o = o} {p = p} {fs = fs} {k = k} (a_heading {n = n} {p = q} {ts = ts} {xs = xs} {ys = ys} {z = z} e f h (has_funs {gs = gs} {ws = ws} i j)) =
    let one : Fun = mode.fun_of (named n q) xs ys z in
    subst (λ a. Means l (mode.funs fs k) (suc (suc r)) o (word (codes "fun") p ∷ name n q ∷ ts) a) (ap (λ a. k a ws) (sym (append_assoc fs (one ∷ []) gs))) (has_funs (texts.fun e f h i) j)

funs_open : {l o : ℕ} {p : Place} {fs : List Fun} {k : List Fun → List With → Found} {ts : List Tok} {y : Found} (r : ℕ)
    → Leads l (open_both r o (mode.headed true (λ n xs ys z. mode.funs (fs ++ mode.fun_of n xs ys z ∷ []) k))) ts y → Means l (mode.funs fs k) r o (word (codes "fun") p ∷ ts) y
funs_open zero h = absurd h
funs_open (suc zero) h = absurd h
funs_open (suc (suc r)) h = fun_means (headed_of h)

no_funs : {l r o : ℕ} {fs : List Fun} {k : List Fun → List With → Found} {ts : List Tok} {y : Found} → Means l (mode.withs [] (λ ws. k fs ws)) r o ts y → Means l (mode.funs fs k) r o ts y
no_funs {l = l} {r = r} {o = o} {fs = fs} {k = k} {ts = ts} (has_withs {us = us} d) = subst (λ z. Means l (mode.funs fs k) r o ts (k z us)) (append-nil fs) (has_funs texts.no_fun d)

pub sound_funs : {l r o : ℕ} {ts : List Tok} {y : Found} (fs : List Fun) (k : List Fun → List With → Found) (v : Lexeme) (t : Tok) → Is v t → Back l r o (mode.funs fs k) v ts y t
sound_funs {l = l} {r = r} {o = o} {ts = ts} {y = y} fs k (x.Fixed fixed.Fun) t i = subst (Back l r o (mode.funs fs k) (x.Fixed fixed.Fun) ts y) (sym i) (λ h. funs_open r h)
sound_funs fs k v t i = λ h. no_funs (sound_withs [] (λ ws. k fs ws) v t i h)

-- a whole text
pub record File (l r : ℕ) (ts : List Tok) (y : Found) : Type 0 where
  pub spec : Spec
  pub withs : List With
  pub gives : y ≡ specification spec withs
  pub is_file : IsFile l r ts spec withs

file_means : {l r : ℕ} {p : Place} {ts : List Tok} {y : Found} → Headed l false (λ n xs ys z. mode.funs [] (mode.spec_of n xs ys z)) r ts y → File l (suc (suc r)) (word (codes "spec") p ∷ ts) y
file_means (a_heading e f h (has_funs i j)) = record { spec = _; withs = _; gives = refl; is_file = texts.file (texts.spec e f h) i j }

file_opens : {l : ℕ} {p : Place} {ts : List Tok} {y : Found} (r o : ℕ) → Leads l (open_both r o (mode.headed false (λ n xs ys z. mode.funs [] (mode.spec_of n xs ys z)))) ts y → File l r (word (codes "spec") p ∷ ts) y
file_opens zero o h = absurd h
file_opens (suc zero) o h = absurd h
file_opens (suc (suc r)) o h = file_means (headed_of h)

pub sound_file : {l r : ℕ} {ts : List Tok} {y : Found} (o : ℕ) (v : Lexeme) (t : Tok) → Is v t → Leads l (mode.start_at r o v) ts y → File l r (t ∷ ts) y
sound_file {l = l} {r = r} {ts = ts} {y = y} o (x.Fixed fixed.Spec) t i = subst (λ u. Leads l (mode.start_at r o (x.Fixed fixed.Spec)) ts y → File l r (u ∷ ts) y) (sym i) (λ h. file_opens r o h)
sound_file o _ t i = λ h. absurd h

pub of_file : {l r o : ℕ} {ts : List Tok} {y : Found} → File l r ts y → Means l mode.start r o ts y
of_file {l = l} {r = r} {o = o} {ts = ts} f = subst (λ z. Means l mode.start r o ts z) (sym f.gives) (has_file f.is_file)
