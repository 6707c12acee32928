-- The automaton reads each text of the grammar.
use Rattle.std.proofs.Common.{◌≡◌, ◌⊎◌, inl, inr, ℕ, suc, Bool, true, false, cond, ◌&&◌, List, [], ◌∷◌, ◌++◌, codes, refl, ap, ◌∙◌, sym, subst, append_assoc, append-nil}
use Rattle.std.specs.FinMap as maps
use Rattle.std.specs.FinSet as sets
use Rattle.std.proofs.lemmas.Bool.{false≢true}
use Rattle.target_code.specs.declared.tree.Rep.{Rep}
use Rattle.containers.specs.Bag.{bag_of}
use Rattle.nres_core.specs.Grammar as g
use Rattle.nres_core.specs.Grammar.{IsRep, IsBlock}
use Rattle.nres_core.specs.Texts as texts
use Rattle.nres_core.specs.Texts.{IsContainer, IsOne, IsParam, AreMoreParams, AreParams, AreMoreShown, AreShown, AreNumbers, AreMembers, ArePairs, IsValue, AreWiths, IsSpec, AreFuns, IsFile, put_all}
use Rattle.nres_core.specs.Vocabulary.{Tok, word, sign, name, named}
use Rattle.nres_core.specs.declared.place.Named.{Named}
use Rattle.nres_core.specs.declared.place.Place.{Place}
use Rattle.nres_core.specs.declared.token.TokenKind.TheVariants as kind
use Rattle.nres_core.specs.declared.tree.Block.{Block}
use Rattle.nres_core.specs.declared.tree.Fun.{Fun}
use Rattle.nres_core.specs.declared.tree.Param.{Param}
use Rattle.nres_core.specs.declared.tree.Shown.{Shown}
use Rattle.nres_core.specs.declared.tree.Spec.{Spec}
use Rattle.nres_core.specs.declared.tree.With.{With}
use Rattle.nres_core.specs.declared.ty.Ty.{Ty}
use Rattle.nres_core.specs.declared.ty.Ty.TheVariants as ty
use Rattle.nres_core.specs.declared.value.Value.{Value}
use Rattle.nres_core.specs.declared.value.Value.TheVariants as v
use Rattle.nres_automaton.specs.Lexemes.{lexes, lexeme_of, is_fixed}
use Rattle.nres_automaton.specs.Automaton as m
use Rattle.nres_automaton.specs.Automaton.{Found, specification, Mode, typed, more_params, shown, more_shown, numbers, members, pairs, value, funs, withs, run, accepted}
use Rattle.nres_automaton.specs.declared.lexeme.Fixed.{Fixed}
use Rattle.nres_automaton.specs.declared.lexeme.Fixed.TheVariants as fixed
use Rattle.nres_automaton.specs.declared.lexeme.Lexeme.{Lexeme}
use Rattle.nres_automaton.specs.declared.lexeme.Lexeme.TheVariants as x
use Rattle.nres_automaton.proofs.Tokens as t
use Rattle.nres_automaton.proofs.Runs.{Goes, ◌then◌, stay, renames, alike, reads, first_lexeme, passes, takes, closes, chooses, not_taken, leaves}
use Rattle.nres_automaton.proofs.Complete.{reps}
use Rattle.nres_automaton.proofs.CompleteBlocks.{unmarked, differs, opened_by, blocks}

-- ---- types with representations

no_slice : {ts rest : List Tok} {y : Rep} → IsRep ts rest y → is_fixed fixed.Slice (first_lexeme ts) ≡ false
no_slice (g.unbounded {w = w} {x = y} h) = ap (is_fixed fixed.Slice) (t.lex_rep w y h)
no_slice (g.bounded {w = w} {u = u} {x = y} h a b) = ap (is_fixed fixed.Slice) (t.lex_bound w u y h).1

either_way : {q : Place} {l r c : ℕ} {ts : List Tok} (b : Bool) (k : Place → Mode) (n : Mode) → is_fixed fixed.Slice (first_lexeme ts) ≡ false → Goes q l r c (cond b (m.when fixed.Slice k n) n) ts r c n ts
either_way true k n h = not_taken fixed.Slice h
either_way false k n h = stay

type_begins : {q : Place} {l r c : ℕ} {ts : List Tok} {p : Place} (w : List ℕ) (s : Ty) → (lexeme_of kind.Reserved w ≡ x.Type s) ⊎ ((w ≡ codes "set") × (s ≡ ty.Set)) → (b : Bool) (plain held : Shown → Mode)
    → Goes q l r c (typed b plain held) (word w p ∷ ts) r c (m.container b s held) ts
type_begins w s (inl e) b plain held = reads (x.Type s) e refl
type_begins {q = q} {l = l} {r = r} {c = c} {ts = ts} {p = p} w s (inr e) b plain held =
    subst (λ z. Goes q l r c (typed b plain held) (word z p ∷ ts) r c (m.container b s held) ts) (sym e.0)
    (subst (λ z. Goes q l r c (typed b plain held) (word (codes "set") p ∷ ts) r c (m.container b z held) ts) (sym e.1) (opened_by fixed.Set p refl))

containers : {q : Place} {l r c : ℕ} {b : Bool} {ts rest : List Tok} {s : Shown} → IsContainer b ts rest s → (plain held : Shown → Mode) → Goes q l r c (typed b plain held) ts r c (held s) rest
containers (texts.container {b = b} {q = s} {w = w} {t = y} i d) plain held =
    type_begins w y (t.lex_type w y i) b plain held then passes fixed.As s then either_way (b && m.is_list y) (λ p. held (m.slice_at p)) (m.laid y held) (no_slice d)
    then reps d (λ r p. held (m.shown_as y r p))
containers (texts.slice {q = s} {s = u}) plain held = reads (x.Type ty.List) t.lex_list refl then passes fixed.As s then takes fixed.Slice u

ones : {q : Place} {l r c : ℕ} {b : Bool} {ts rest : List Tok} {s : Shown} → IsOne b ts rest s → (k : Shown → Mode) → Goes q l r c (typed b k k) ts r c (k s) rest
ones (texts.plain {w = w} {t = y} {x = z} i) k = reads (x.Plain y z) (t.lex_plain w y z i) refl
ones (texts.held d) k = containers d k k

-- ---- parameters

a_param : {q : Place} {l r c : ℕ} {b : Bool} {ts rest : List Tok} {y : Param} → IsParam b ts rest y → is_fixed fixed.Kept (first_lexeme rest) ≡ false → (k : Param → Mode)
    → Goes q l r c (m.name (λ n. m.param_of b n k)) ts r c (k y) rest
a_param (texts.given {q = s} (texts.plain {w = w} {t = y} {x = z} i)) h k = reads x.Name refl refl then passes fixed.Colon s then reads (x.Plain y z) (t.lex_plain w y z i) refl
a_param (texts.given {q = s} (texts.held d)) h k = reads x.Name refl refl then passes fixed.Colon s then containers d _ _ then not_taken fixed.Kept h
a_param (texts.kept {q = s} {t = u} d) h k = reads x.Name refl refl then passes fixed.Colon s then containers d _ _ then takes fixed.Kept u

more : {q : Place} {l r c : ℕ} {b : Bool} {ts rest : List Tok} {ys : List Param} → AreMoreParams b ts rest ys → (xs : List Param) (k : List Param → Mode) → Goes q l r c (more_params b xs k) ts r c (k (xs ++ ys)) rest
more (texts.last_param {b = b} {q = s} d) xs k =
    alike (λ w p. refl) then a_param d (differs fixed.Kept fixed.Close s refl) (λ y. m.comma_or fixed.Close (more_params b (xs ++ y ∷ []) k) (k (xs ++ y ∷ [])))
    then not_taken fixed.Comma (differs fixed.Comma fixed.Close s refl) then passes fixed.Close s
more (texts.another_param {b = b} {q = s} {x = y} {xs = ys} d ds) xs k =
    alike (λ w p. refl) then a_param d (differs fixed.Kept fixed.Comma s refl) (λ y. m.comma_or fixed.Close (more_params b (xs ++ y ∷ []) k) (k (xs ++ y ∷ [])))
    then takes fixed.Comma s then more ds (xs ++ y ∷ []) k then renames (ap k (append_assoc xs (y ∷ []) ys))

more_starts : {b : Bool} {ts rest : List Tok} {ys : List Param} → AreMoreParams b ts rest ys → is_fixed fixed.Close (first_lexeme ts) ≡ false
more_starts (texts.last_param (texts.given d)) = refl
more_starts (texts.last_param (texts.kept d)) = refl
more_starts (texts.another_param (texts.given d) e) = refl
more_starts (texts.another_param (texts.kept d) e) = refl

-- one more bracket is open before them than behind
pub record Params (q : Place) (l : ℕ) (b : Bool) (r : ℕ) (ts rest : List Tok) (xs : List Param) : Type 0 where
  pub room : ℕ
  pub has_room : r ≡ suc room
  pub reads : (c : ℕ) (k : List Param → Mode) → Goes q l room c (m.params b k) ts r c (k xs) rest

all_params : {q : Place} {l r : ℕ} {b : Bool} {ts rest : List Tok} {xs : List Param} → AreParams b r ts rest xs → Params q l b r ts rest xs
all_params (texts.no_param {r = r} {p = p} {q = s}) = record { room = r; has_room = refl; reads = λ c k. passes fixed.Open p then takes fixed.Close s then leaves }
all_params (texts.params {r = r} {p = p} d) = record { room = r; has_room = refl; reads = λ c k. passes fixed.Open p then not_taken fixed.Close (more_starts d) then more d [] (λ xs. m.leave (k xs)) then leaves }

-- ---- what is shown

mores : {q : Place} {l r c : ℕ} {b : Bool} {ts rest : List Tok} {ys : List Shown} → AreMoreShown b ts rest ys → (xs : List Shown) (k : List Shown → Mode) → Goes q l r c (more_shown b xs k) ts r c (k (xs ++ ys)) rest
mores (texts.last_shown {b = b} {q = s} d) xs k = alike (λ w p. refl) then ones d (m.shown_read b xs k) then not_taken fixed.Comma (differs fixed.Comma fixed.Close s refl) then passes fixed.Close s
mores (texts.another_shown {b = b} {q = s} {x = y} {xs = ys} d ds) xs k =
    alike (λ w p. refl) then ones d (m.shown_read b xs k) then takes fixed.Comma s then mores ds (xs ++ y ∷ []) k then renames (ap k (append_assoc xs (y ∷ []) ys))

abbrev types : Lexeme → Bool
types (x.Plain a b) = true
types (x.Type s) = true
types (x.Fixed fixed.Set) = true
types _ = false

type_types : (w : List ℕ) (s : Ty) → (lexeme_of kind.Reserved w ≡ x.Type s) ⊎ ((w ≡ codes "set") × (s ≡ ty.Set)) → types (lexeme_of kind.Reserved w) ≡ true
type_types w s (inl e) = ap types e
type_types w s (inr e) = subst (λ z. types (lexeme_of kind.Reserved z) ≡ true) (sym e.0) (ap types t.lex_set)

one_types : {b : Bool} {ts rest : List Tok} {s : Shown} → IsOne b ts rest s → types (first_lexeme ts) ≡ true
one_types (texts.plain {w = w} {t = y} {x = z} i) = ap types (t.lex_plain w y z i)
one_types (texts.held (texts.container {w = w} {t = y} i d)) = type_types w y (t.lex_type w y i)
one_types (texts.held texts.slice) = ap types t.lex_list

shown_others : (v : Lexeme) → types v ≡ true → (r o : ℕ) (p : Place) (b : Bool) (k : List Shown → Mode) → m.shown_at r o v p b k ≡ m.typed_at r o v p b (λ y. k (y ∷ [])) (λ y. k (y ∷ []))
shown_others (x.Fixed fixed.Open) h r o p b k = absurd (false≢true h)
shown_others _ h r o p b k = refl

all_shown : {q : Place} {l r c : ℕ} {b : Bool} {ts rest : List Tok} {ys : List Shown} → AreShown b r ts rest ys → (k : List Shown → Mode) → Goes q l r c (shown b k) ts r c (k ys) rest
all_shown {c = c} (texts.one_shown {b = b} {r = r} {ts = ts} d) k = alike {n = typed b (λ y. k (y ∷ [])) (λ y. k (y ∷ []))} (λ w p. shown_others (first_lexeme ts) (one_types d) r c p b k) then ones d (λ y. k (y ∷ []))
all_shown (texts.several_shown {b = b} {p = p} {q = s} {x = y} d ds) k =
    opened_by fixed.Open p refl then ones d (m.first_shown b k) then passes fixed.Comma s then mores ds (y ∷ []) (λ ys. m.leave (k ys)) then leaves

-- ---- values

all_numbers : {q : Place} {l r c : ℕ} {w : List ℕ} {ts rest : List Tok} {ms : List ℕ} (z : Fixed) → lexeme_of kind.Sign w ≡ x.Fixed z → is_fixed fixed.Comma (x.Fixed z) ≡ false → AreNumbers w ts rest ms
    → (ns : List ℕ) (k : List ℕ → Mode) → Goes q l r c (numbers z ns k) ts r c (k (ns ++ ms)) rest
all_numbers z e h (texts.last_number {n = n}) ns k = reads (x.Number n) refl refl then not_taken fixed.Comma (ap (is_fixed fixed.Comma) e ∙ h) then closes z e
all_numbers z e h (texts.another_number {q = s} {n = n} {ns = ms} d) ns k =
    reads (x.Number n) refl refl then takes fixed.Comma s then all_numbers z e h d (ns ++ n ∷ []) k then renames (ap k (append_assoc ns (n ∷ []) ms))

numbers_start : {w : List ℕ} {ts rest : List Tok} {ms : List ℕ} (z : Fixed) → AreNumbers w ts rest ms → is_fixed z (first_lexeme ts) ≡ false
numbers_start z texts.last_number = refl
numbers_start z (texts.another_number d) = refl

all_members : {q : Place} {l r c : ℕ} {w : List ℕ} {ts rest : List Tok} {ms : List ℕ} (z : Fixed) → lexeme_of kind.Sign w ≡ x.Fixed z → is_fixed fixed.Comma (x.Fixed z) ≡ false → AreMembers w ts rest ms
    → (k : List ℕ → Mode) → Goes q l r c (members z k) ts r c (k ms) rest
all_members z e h texts.no_member k = chooses z e
all_members z e h (texts.members d) k = not_taken z (numbers_start z d) then all_numbers z e h d [] k

all_pairs : {q : Place} {l r c : ℕ} {ts rest : List Tok} {fs : List (ℕ × ℕ)} → ArePairs ts rest fs → (es : List (ℕ × ℕ)) (k : List (ℕ × ℕ) → Mode) → Goes q l r c (pairs es k) ts r c (k (es ++ fs)) rest
all_pairs (texts.last_pair {q = q} {t = u} {k = n} {x = y}) es k =
    reads (x.Number n) refl refl then passes fixed.Colon q then reads (x.Number y) refl refl then not_taken fixed.Comma (differs fixed.Comma fixed.CloseBrace u refl) then passes fixed.CloseBrace u
all_pairs (texts.another_pair {q = q} {t = u} {k = n} {x = y} {es = fs} d) es k =
    reads (x.Number n) refl refl then passes fixed.Colon q then reads (x.Number y) refl refl then takes fixed.Comma u
    then all_pairs d (es ++ (n, y) ∷ []) k then renames (ap k (append_assoc es ((n, y) ∷ []) fs))

set_value : {q : Place} {l r c : ℕ} {ts rest : List Tok} {ns : List ℕ} → AreMembers (codes "}") ts rest ns → (k : Value → Mode) → Goes q l r c (m.braces k) ts r c (k (v.Set (sets.from_list ns))) rest
set_value (texts.no_member {q = s}) k = not_taken fixed.Colon (differs fixed.Colon fixed.CloseBrace s refl) then takes fixed.CloseBrace s
set_value (texts.members (texts.last_number {q = s} {n = n})) k =
    not_taken fixed.Colon refl then not_taken fixed.CloseBrace refl then reads (x.Number n) refl refl then not_taken fixed.Colon (differs fixed.Colon fixed.CloseBrace s refl)
    then not_taken fixed.Comma (differs fixed.Comma fixed.CloseBrace s refl) then passes fixed.CloseBrace s
set_value (texts.members (texts.another_number {q = s} {n = n} d)) k =
    not_taken fixed.Colon refl then not_taken fixed.CloseBrace refl then reads (x.Number n) refl refl then not_taken fixed.Colon (differs fixed.Colon fixed.Comma s refl)
    then takes fixed.Comma s then all_numbers fixed.CloseBrace t.lex_brace refl d (n ∷ []) (λ ns. k (v.Set (sets.from_list ns)))

map_value : {q : Place} {l r c : ℕ} {ts rest : List Tok} {es : List (ℕ × ℕ)} → ArePairs ts rest es → (k : Value → Mode) → Goes q l r c (m.braces k) ts r c (k (v.Map (put_all maps.empty es))) rest
map_value (texts.last_pair {q = q} {t = u} {k = n} {x = y}) k =
    not_taken fixed.Colon refl then not_taken fixed.CloseBrace refl then reads (x.Number n) refl refl then takes fixed.Colon q then reads (x.Number y) refl refl
    then not_taken fixed.Comma (differs fixed.Comma fixed.CloseBrace u refl) then passes fixed.CloseBrace u
map_value (texts.another_pair {q = q} {t = u} {k = n} {x = y} {es = es} d) k =
    not_taken fixed.Colon refl then not_taken fixed.CloseBrace refl then reads (x.Number n) refl refl then takes fixed.Colon q then reads (x.Number y) refl refl
    then takes fixed.Comma u then all_pairs d ((n, y) ∷ []) (λ es. k (v.Map (put_all maps.empty es)))

a_value : {q : Place} {l r c : ℕ} {ts rest : List Tok} {y : Value} → IsValue ts rest y → (k : Value → Mode) → Goes q l r c (value k) ts r c (k y) rest
a_value (texts.a_number {n = n}) k = reads (x.Number n) refl refl
a_value (texts.a_truth {w = w} {b = b} i) k = reads (x.Truth b) (t.lex_truth w b i) refl
a_value (texts.a_list {p = p} d) k = opened_by fixed.OpenSquare p refl then all_members fixed.CloseSquare t.lex_square refl d (λ ns. k (v.List ns))
a_value (texts.a_set {p = p} d) k = opened_by fixed.OpenBrace p refl then set_value d k
a_value (texts.a_bag {p = p} {q = s} d) k = reads (x.Type ty.Bag) t.lex_bag refl then passes fixed.OpenSquare s then all_members fixed.CloseSquare t.lex_square refl d (λ ns. k (v.Bag (bag_of ns)))
a_value (texts.no_pair {p = p} {q = s} {s = u}) k = opened_by fixed.OpenBrace p refl then takes fixed.Colon s then passes fixed.CloseBrace u
a_value (texts.a_map {p = p} d) k = opened_by fixed.OpenBrace p refl then map_value d k

pub all_withs : {ts : List Tok} {us : List With} (q : Place) (l r c : ℕ) → AreWiths ts us → (ws : List With) (k : List With → Found) → run l r c (withs ws k) (lexes q ts) ≡ accepted (k (ws ++ us))
unfolding run
all_withs q l r c texts.no_with ws k = ap (λ z. accepted (k z)) (sym (append-nil ws))
all_withs q l r c (texts.gives {ts = ts} {rest = rest} {p = p} {q = s} {s = u} {x = n} {y = y} {ws = us} d ds) ws k =
    let w : With = record { name = n; place = s; value = y } in
    let f : Goes q l r c (withs ws k) (word (codes "with") p ∷ name n s ∷ sign (codes "=") u ∷ ts) r c (withs (ws ++ w ∷ []) k) rest =
    opened_by fixed.With p refl then reads x.Name refl refl then passes fixed.Equals u then a_value d (λ y. withs (ws ++ record { name = n; place = s; value = y } ∷ []) k) in
    f.runs ∙ (all_withs q l r c ds (ws ++ w ∷ []) k ∙ ap (λ z. accepted (k z)) (append_assoc ws (w ∷ []) us))

-- ---- specifications and procedures

pub record Headed (q : Place) (l : ℕ) (b : Bool) (r : ℕ) (n : List ℕ) (p : Place) (ts rest : List Tok) (xs : List Param) (ys : List Shown) (z : Block) : Type 0 where
  pub room : ℕ
  pub has_room : r ≡ suc room
  pub reads : (k : Named → List Param → List Shown → Block → Mode) → Goes q l room l (m.headed b k) (name n p ∷ ts) (suc r) l (k (named n p) xs ys z) rest

heading : {q : Place} {l r : ℕ} {b : Bool} {s u : Place} {ts a d rest : List Tok} {xs : List Param} {ys : List Shown} {z : Block} (n : List ℕ) (p : Place)
    → AreParams b r ts (sign (codes ":") s ∷ a) xs → AreShown b r a d ys → IsBlock l r d (word (codes "end") u ∷ rest) z → Headed q l b r n p ts rest xs ys z
heading {q = q} {l = l} {b = b} {s = s} {u = u} {xs = xs} {ys = ys} n p e f h =
    let i = all_params {q = q} {l = l} e in
    record {
      room = i.room;
      has_room = i.has_room;
      reads = λ k.
          reads x.Name refl refl
          then i.reads l (λ xs. m.pass fixed.Colon (λ _. shown b (λ ys. m.last_block (λ z. k (named n p) xs ys z))))
          then passes fixed.Colon s
          then all_shown f (λ ys. m.last_block (λ z. k (named n p) xs ys z))
          then blocks h (unmarked fixed.End u) (λ z. m.pass fixed.End (λ _. m.leave (k (named n p) xs ys z)))
          then passes fixed.End u
          then leaves;
    }

all_funs : {q : Place} {l r : ℕ} {ts rest : List Tok} {gs : List Fun} → AreFuns l r ts rest gs → (fs : List Fun) (k : List Fun → List With → Found) → Goes q l r l (funs fs k) ts r l (funs (fs ++ gs) k) rest
all_funs texts.no_fun fs k = renames (ap (λ z. funs z k) (sym (append-nil fs)))
all_funs {q = q} {l = l} (texts.fun {r = r} {ts = ts} {c = c} {p = p} {q = s} {x = n} {xs = xs} {ys = ys} {z = z} {fs = gs} e f h i) fs k =
    let j = heading {q = q} {l = l} n s e f h in
    let one : Fun = record { name = n; place = s; params = xs; shown = ys; body = z } in
    subst (λ a. Goes q l (suc a) l (funs fs k) (word (codes "fun") p ∷ name n s ∷ ts) j.room l (m.headed true (λ n xs ys z. funs (fs ++ m.fun_of n xs ys z ∷ []) k)) (name n s ∷ ts)) (sym j.has_room) (opened_by fixed.Fun p refl)
    then j.reads (λ n xs ys z. funs (fs ++ m.fun_of n xs ys z ∷ []) k)
    then all_funs i (fs ++ one ∷ []) k
    then renames (ap (λ z. funs z k) (append_assoc fs (one ∷ []) gs))

-- behind the last procedure
ends : {q : Place} {l r c : ℕ} {ts : List Tok} {us : List With} → AreWiths ts us → (fs : List Fun) (k : List Fun → List With → Found) → Goes q l r c (funs fs k) ts r c (withs [] (λ ws. k fs ws)) ts
ends texts.no_with fs k = alike (λ w p. refl)
ends {r = r} {c = c} (texts.gives {p = p} d ds) fs k =
    alike (λ w s. ap (λ v. m.funs_at r c v s fs k) (t.lex_fixed fixed.With p) ∙ ap (λ v. m.withs_at r c v [] (λ ws. k fs ws)) (sym (t.lex_fixed fixed.With p)))

pub accepts : (q : Place) (l r : ℕ) (ts : List Tok) (p : Spec) (ws : List With) → IsFile l r ts p ws → run l r l m.start (lexes q ts) ≡ accepted (specification p ws)
accepts q l r ts p ws (texts.file {fs = fs} (texts.spec {r = r'} {ts = us} {p = p'} {q = s} {x = n} {xs = xs} {ys = ys} {z = z} e f h) i d) =
    let j = heading {q = q} {l = l} n s e f h in
    let k : Named → List Param → List Shown → Block → Mode = λ n xs ys z. funs [] (m.spec_of n xs ys z) in
    let a = subst (λ a. Goes q l (suc a) l m.start (word (codes "spec") p' ∷ name n s ∷ us) j.room l (m.headed false k) (name n s ∷ us)) (sym j.has_room) (opened_by fixed.Spec p' refl) in
    let b = a then j.reads k then all_funs i [] (m.spec_of (named n s) xs ys z) then ends d fs (m.spec_of (named n s) xs ys z) in
    b.runs ∙ all_withs q l r l d [] (λ ws. m.spec_of (named n s) xs ys z fs ws)
