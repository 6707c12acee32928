-- Entries below a bound, and holds of numbers and truth values.
use Rattle.std.proofs.Common.{◌≡◌, ◌≢◌, ℕ, suc, ◌<◌, ◌≤◌, Bool, true, false, not, cond, List, [], ◌∷◌, ◌++◌, max, refl, sym, ap, ◌∙◌, subst, arith, eqb, eqb-true, eq-eqb, ne_eqb, leb, leb-true, ⊎_elim, ◌&&◌}
use Rattle.std.proofs.lemmas.Bool.{cond-true, cond-false, cond_both, and_parts, true≢false}
use Rattle.std.proofs.lemmas.Bool.Decides.{eqb_tells}
use Rattle.std.specs.Prelude.{Option, Some, None}
use Rattle.nres_core.specs.declared.flat.Arg.{Arg}
use Rattle.nres_core.specs.declared.flat.Arg.TheVariants as a
use Rattle.rule_check.specs.Context.{Hold, Owned, Gone, Shape, is_container, is_owned, is_slice}
use Rattle.fits.specs.Places.{Token, Entry, State, put, lookup, Info, only_container, info_of, arg_info, cons_some, arg_infos, all_vars, wanted, goners, in_order, bind_entry, bind_words, bind_all, bind_at, fresh, all_fresh, with_toks, put_tokens}
use Rattle.fits.specs.Follow.{is_block, first_word, owner, share_entry, branch_entries, rises, past, is_plain, past_plain}
use Rattle.fit_laws.specs.Older.{Under, SameNumbers, Older}

-- ---- entries below a bound

pub under_more : (n m : ℕ) (es : List Entry) → n ≤ m → Under n es → Under m es
under_more n m [] le u = tt
under_more n m (e ∷ es) le u = (omega (arith, le, u.0), u.1)

pub under_rest : (n : ℕ) (xs es : List Entry) → Under n (xs ++ es) → Under n es
under_rest n [] es u = u
under_rest n (x ∷ xs) es u = under_more x.var n es (omega (arith, u.0)) (under_rest x.var xs es u.1)

-- ---- numbers

pub numbers_same : (h : ℕ → Hold) (es : List Entry) → SameNumbers h h es
numbers_same h [] = tt
numbers_same h (e ∷ es) = (λ c. refl, numbers_same h es)

pub numbers_then : (f g h : ℕ → Hold) (es : List Entry) → SameNumbers f g es → SameNumbers g h es → SameNumbers f h es
numbers_then f g h [] x y = tt
numbers_then f g h (e ∷ es) x y = (λ c. y.0 c ∙ x.0 c, numbers_then f g h es x.1 y.1)

pub numbers_rest : (g h : ℕ → Hold) (xs es : List Entry) → SameNumbers g h (xs ++ es) → SameNumbers g h es
numbers_rest g h [] es x = x
numbers_rest g h (e ∷ xs) es x = numbers_rest g h xs es x.1

put_other : (h : ℕ → Hold) (v : ℕ) (x : Hold) (w : ℕ) → w ≢ v → put h v x w ≡ h w
put_other h v x w ne = cond-false (eqb w v) x (h w) (ne_eqb w v ne)

-- a new variable
pub numbers_above : (n : ℕ) (es : List Entry) (h : ℕ → Hold) (v : ℕ) (x : Hold) → Under n es → n ≤ v → SameNumbers h (put h v x) es
numbers_above n [] h v x u le = tt
numbers_above n (e ∷ es) h v x u le = (λ c. put_other h v x e.var (omega (arith, u.0, le)), numbers_above e.var es h v x u.1 (omega (arith, u.0, le)))

-- ---- containers

-- what has this variable is a container
abbrev pub Holds : ℕ → List Entry → Type 0
Holds v [] = Unit {0}
Holds v (e ∷ es) = (e.var ≡ v → is_container e.shape.rep ≡ true) × Holds v es

abbrev pub AllHold : List ℕ → List Entry → Type 0
AllHold [] es = Unit {0}
AllHold (v ∷ vs) es = Holds v es × AllHold vs es

pub holds_above : (n : ℕ) (es : List Entry) (v : ℕ) → Under n es → n ≤ v → Holds v es
holds_above n [] v u le = tt
holds_above n (e ∷ es) v u le = (λ q. absurd (let o : ⊥ = omega (arith, q, u.0, le) in o), holds_above e.var es v u.1 (omega (arith, u.0, le)))

pub numbers_put : (es : List Entry) (h : ℕ → Hold) (v : ℕ) (x : Hold) → Holds v es → SameNumbers h (put h v x) es
numbers_put [] h v x k = tt
numbers_put (e ∷ es) h v x k =
    (λ c. ⊎_elim (λ q. absurd (true≢false (sym (k.0 q.1) ∙ c))) (λ q. put_other h v x e.var q.1) (eqb_tells e.var v), numbers_put es h v x k.1)

pub numbers_goners : (es : List Entry) (vs : List ℕ) (h : ℕ → Hold) → AllHold vs es → SameNumbers h (goners vs h) es
numbers_goners es [] h k = numbers_same h es
numbers_goners es (v ∷ vs) h k = numbers_then h (put h v Gone) (goners vs (put h v Gone)) es (numbers_put es h v Gone k.0) (numbers_goners es vs (put h v Gone) k.1)

-- a variable from below a bound, and a container
record Held (n v : ℕ) (es : List Entry) : Type 0 where
  below : v < n
  holds : Holds v es

pub some_is : {A : Type 0} (x y : A) → Some x ≡ Some y → x ≡ y
some_is x y e = ap (λ o. get x o) e
  where
    get : {A : Type 0} → A → Option A → A
    get d None = d
    get d (Some a) = a

held_first : (n : ℕ) (e : Entry) (es : List Entry) → Under n (e ∷ es) → is_container e.shape.rep ≡ true → Held n e.var (e ∷ es)
held_first n e es u c = record { below = u.0; holds = (λ q. c, holds_above e.var es e.var u.1 (omega arith)) }

held_more : (n v : ℕ) (e : Entry) (es : List Entry) → Under n (e ∷ es) → Held e.var v es → Held n v (e ∷ es)
held_more n v e es u h = record { below = omega (arith, u.0, h.below); holds = (λ q. absurd (let lt : v < e.var = h.below in let o : ⊥ = omega (arith, q, lt) in o), h.holds) }

is_block_holds : (b c : Bool) → (b && not c) ≡ true → b ≡ true
is_block_holds true c e = refl
is_block_holds false c e = e

-- the container of a block
owner_held : (n : ℕ) (es : List Entry) (h : ℕ → Hold) (o : Option Token) (v : ℕ) → Under n es → owner es h o ≡ Some v → Held n v es
owner_held n [] h o v u e = absurd (let z : ⊥ = cc e in z)
owner_held n (x ∷ es) h o v u e =
    cond_both {A = Option ℕ} (is_block x.shape.rep && is_owned (h x.var) && first_word o x.words) (Some x.var) (owner es h o) (λ y. y ≡ Some v → Held n v (x ∷ es))
    (λ q k. subst (λ z. Held n z (x ∷ es)) (some_is x.var v k) (held_first n x es u (is_block_holds (is_container x.shape.rep) (is_slice x.shape.rep) (first_three (is_block x.shape.rep) (is_owned (h x.var)) (first_word o x.words) q))))
    (λ q k. held_more n v x es u (owner_held x.var es h o v u.1 k))
    e
  where
    first_three : (a b c : Bool) → (a && b && c) ≡ true → a ≡ true
    first_three true b c k = refl
    first_three false b c k = k

pub owner_holds : (n : ℕ) (es : List Entry) (h : ℕ → Hold) (o : Option Token) (v : ℕ) → Under n es → owner es h o ≡ Some v → Holds v es
owner_holds n es h o v u e = let k = owner_held n es h o v u e in k.holds

-- ---- arguments

record Looked (n : ℕ) (e : Entry) (es : List Entry) : Type 0 where
  below : e.var < n
  holds : is_container e.shape.rep ≡ true → Holds e.var es

looked : (n : ℕ) (es : List Entry) (v : ℕ) (e : Entry) → Under n es → lookup es v ≡ Some e → Looked n e es
looked n [] v e u k = absurd (let z : ⊥ = cc k in z)
looked n (d ∷ es) v e u k =
    cond_both {A = Option Entry} (eqb d.var v) (Some d) (lookup es v) (λ y. y ≡ Some e → Looked n e (d ∷ es))
    (λ q k. subst (λ z. Looked n z (d ∷ es)) (some_is d e k) (record { below = u.0; holds = λ c. (λ z. c, holds_above d.var es d.var u.1 (omega arith)) }))
    (λ q k. let w = looked d.var es v e u.1 k in
    record { below = omega (arith, u.0, w.below); holds = λ c. (λ z. absurd (let lt : e.var < d.var = w.below in let o : ⊥ = omega (arith, z, lt) in o), w.holds c) })
    k

pub lookup_holds : (n : ℕ) (es : List Entry) (v : ℕ) (e : Entry) → Under n es → lookup es v ≡ Some e → is_container e.shape.rep ≡ true → Holds e.var es
lookup_holds n es v e u k c = let w = looked n es v e u k in w.holds c

pub lookup_var : (es : List Entry) (v : ℕ) (e : Entry) → lookup es v ≡ Some e → e.var ≡ v
lookup_var [] v e k = absurd (let z : ⊥ = cc k in z)
lookup_var (d ∷ es) v e k =
    cond_both {A = Option Entry} (eqb d.var v) (Some d) (lookup es v) (λ y. y ≡ Some e → e.var ≡ v)
    (λ q k. ap (λ (z : Entry). z.var) (sym (some_is d e k)) ∙ eqb-true d.var v q)
    (λ q k. lookup_var es v e k)
    k

only_holds : (es : List Entry) (e : Entry) → (is_container e.shape.rep ≡ true → Holds e.var es) → AllHold (only_container e.shape.rep e.var) es
only_holds es e f = by (is_container e.shape.rep) f
  where
    by : (b : Bool) → (b ≡ true → Holds e.var es) → AllHold (cond b (e.var ∷ []) []) es
    by true g = (g refl, tt)
    by false g = tt

info_holds : (n : ℕ) (es : List Entry) (o : Option Entry) (i : Info) → ((e : Entry) → o ≡ Some e → is_container e.shape.rep ≡ true → Holds e.var es) → info_of o ≡ Some i → AllHold i.vars es
info_holds n es None i f k = absurd (let z : ⊥ = cc k in z)
info_holds n es (Some e) i f k = subst (λ (z : Info). AllHold z.vars es) (some_is _ i k) (only_holds es e (f e refl))

pub arg_holds : (n : ℕ) (es : List Entry) (u : Arg) (i : Info) → Under n es → arg_info es u ≡ Some i → AllHold i.vars es
arg_holds n es (a.Var v) i w k = info_holds n es (lookup es v) i (λ e q c. lookup_holds n es v e w q c) k
arg_holds n es (a.Num m) i w k = number (eqb 0 0) k
  where
    number : Bool → arg_info es (a.Num m) ≡ Some i → AllHold i.vars es
    number b q = cond_both {A = Option Info} _ _ None (λ y. y ≡ Some i → AllHold i.vars es) (λ c z. subst (λ (y : Info). AllHold y.vars es) (some_is _ i z) tt) (λ c z. absurd (let o : ⊥ = cc z in o)) q
arg_holds n es (a.Truth b) i w k = subst (λ (z : Info). AllHold z.vars es) (some_is _ i k) tt

all_more : (vs ws : List ℕ) (es : List Entry) → AllHold vs es → AllHold ws es → AllHold (vs ++ ws) es
all_more [] ws es x y = y
all_more (v ∷ vs) ws es x y = (x.0, all_more vs ws es x.1 y)

-- those of all arguments
abbrev pub EachHolds : List Info → List Entry → Type 0
EachHolds [] es = Unit {0}
EachHolds (i ∷ is) es = AllHold i.vars es × EachHolds is es

cons_holds : (o : Option Info) (p : Option (List Info)) (infos : List Info) (es : List Entry) → ((i : Info) → o ≡ Some i → AllHold i.vars es) → ((is : List Info) → p ≡ Some is → EachHolds is es) → cons_some o p ≡ Some infos → EachHolds infos es
cons_holds None p infos es f g k = absurd (let z : ⊥ = cc k in z)
cons_holds (Some i) None infos es f g k = absurd (let z : ⊥ = cc k in z)
cons_holds (Some i) (Some is) infos es f g k = subst (λ z. EachHolds z es) (some_is (i ∷ is) infos k) (f i refl, g is refl)

pub args_hold : (n : ℕ) (es : List Entry) (us : List Arg) (infos : List Info) → Under n es → arg_infos es us ≡ Some infos → EachHolds infos es
args_hold n es [] infos w k = subst (λ z. EachHolds z es) (some_is [] infos k) tt
args_hold n es (u ∷ us) infos w k = cons_holds (arg_info es u) (arg_infos es us) infos es (λ i q. arg_holds n es u i w q) (λ is q. args_hold n es us is w q) k

pub vars_hold : (infos : List Info) (es : List Entry) → EachHolds infos es → AllHold (all_vars infos) es
vars_hold [] es h = tt
vars_hold (i ∷ is) es h = all_more i.vars (all_vars is) es h.0 (vars_hold is es h.1)

pub wanted_hold : (ds : List Bool) (infos : List Info) (es : List Entry) → EachHolds infos es → AllHold (wanted true ds infos) es
wanted_hold [] infos es h = tt
wanted_hold (d ∷ ds) [] es h = tt
wanted_hold (true ∷ ds) (i ∷ is) es h = all_more i.vars (wanted true ds is) es h.0 (wanted_hold ds is es h.1)
wanted_hold (false ∷ ds) (i ∷ is) es h = wanted_hold ds is es h.1

-- ---- what is older

pub older_same : (s : State) → Under s.next s.entries → Older s s
older_same s u = record { made = []; entries = refl; next = omega arith; numbers = numbers_same s.hold s.entries; under = u }

pub older_then : (s t u : State) → Older s t → Older t u → Older s u
older_then s t u x y = record {
  made = y.made ++ x.made;
  entries = y.entries ∙ ap (λ z. y.made ++ z) x.entries ∙ sym (app y.made x.made s.entries);
  next = omega (arith, x.next, y.next);
  numbers = numbers_then s.hold t.hold u.hold s.entries x.numbers (numbers_rest t.hold u.hold x.made s.entries (subst (SameNumbers t.hold u.hold) x.entries y.numbers));
  under = y.under;
}
  where
    app : (xs ys zs : List Entry) → (xs ++ ys) ++ zs ≡ xs ++ (ys ++ zs)
    app [] ys zs = refl
    app (w ∷ xs) ys zs = ap (λ z. w ∷ z) (app xs ys zs)

-- the same entries, with other holds
pub older_held : (s t : State) → Under s.next s.entries → t.entries ≡ s.entries → s.next ≤ t.next → SameNumbers s.hold t.hold s.entries → Older s t
older_held s t u e le k = record { made = []; entries = e; next = le; numbers = k; under = subst (Under t.next) (sym e) (under_more s.next t.next s.entries le u) }

-- ---- what is bound

older_entry : (s : State) (v : ℕ) (z : Shape) (w : List Token) → Under s.next s.entries → s.next ≤ v → Older s (bind_entry s v z w)
older_entry s v z w u le = record {
  made = record { var = v; shape = z; words = w; part = false } ∷ [];
  entries = refl;
  next = omega (arith, le);
  numbers = numbers_above s.next s.entries s.hold v Owned u le;
  under = (omega arith, under_more s.next v s.entries le u);
}

pub older_one : (s : State) (v : ℕ) (z : Shape) (w : List Token) → Under s.next s.entries → leb s.next v ≡ true → Older s (bind_entry s v z w)
older_one s v z w u e = older_entry s v z w u (leb-true s.next v e)

pub older_words : (s : State) (vs : List ℕ) (zs : List Shape) (ws : List (List Token)) → Under s.next s.entries → in_order s.next vs zs ≡ true → Older s (bind_words s vs zs ws)
older_words s [] zs ws u k = older_same s u
older_words s (v ∷ vs) [] ws u k = older_same s u
older_words s (v ∷ vs) (z ∷ zs) [] u k = older_same s u
older_words s (v ∷ vs) (z ∷ zs) (w ∷ ws) u k =
    let p = and_parts (leb s.next v) (in_order (suc v) vs zs) k in
    let o = older_one s v z w u p.0 in
    older_then s (bind_entry s v z w) (bind_words (bind_entry s v z w) vs zs ws) o (older_words (bind_entry s v z w) vs zs ws o.under p.1)

pub older_all : (s : State) (vs : List ℕ) (zs : List Shape) → Under s.next s.entries → in_order s.next vs zs ≡ true → Older s (bind_all s vs zs)
older_all s [] zs u k = older_same s u
older_all s (v ∷ vs) [] u k = older_same s u
older_all s (v ∷ vs) (z ∷ zs) u k =
    let p = and_parts (leb s.next v) (in_order (suc v) vs zs) k in
    let o = older_one s v z (fresh v z) u p.0 in
    older_then s (bind_entry s v z (fresh v z)) (bind_all (bind_entry s v z (fresh v z)) vs zs) o (older_all (bind_entry s v z (fresh v z)) vs zs o.under p.1)

pub older_at : (s : State) (to vs : List ℕ) (zs : List Shape) → Under s.next s.entries → in_order s.next vs zs ≡ true → Older s (bind_at s to vs zs)
older_at s to vs zs u k =
    let o = older_all (with_toks s (put_tokens s.toks to (all_fresh vs zs))) vs zs u k in
    record { made = o.made; entries = o.entries; next = o.next; numbers = o.numbers; under = o.under }
