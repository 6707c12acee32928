-- The text `first` has no other tree.
use Rattle.std.proofs.Common.{◌≡◌, ℕ, List, [], ◌∷◌, Bool, true, false, Some, None, refl, sym, ap, ◌∙◌}
use Rattle.std.specs.Prelude.{codes}
use Rattle.nres_core.specs.Grammar as g
use Rattle.nres_core.specs.Samples.{first_tree, first_step, first_body, first_word, first_results, at, var}
use Rattle.nres_core.specs.Texts as x
use Rattle.nres_core.specs.Tree.{same_name}
use Rattle.nres_core.specs.Vocabulary as w
use Rattle.nres_core.specs.Vocabulary.{Tok, place_of, arity, calc_word, is_empty_word, is_take_word, truth_word, plain_word, type_word, rep_word}
use Rattle.nres_core.specs.declared.place.Named.{Named}
use Rattle.nres_core.specs.declared.place.Place.{Place}
use Rattle.nres_core.specs.declared.token.TokenKind.{TokenKind}
use Rattle.nres_core.specs.declared.token.TokenKind.TheVariants as kind
use Rattle.target_code.specs.declared.tree.Rep.{Rep}
use Rattle.target_code.specs.declared.tree.Rep.TheVariants as rep
use Rattle.nres_core.specs.declared.tree.Block.{Block, roll-Block}
use Rattle.nres_core.specs.declared.tree.Body.{Body}
use Rattle.nres_core.specs.declared.tree.Body.TheVariants as body
use Rattle.nres_core.specs.declared.tree.Expr.{Expr}
use Rattle.nres_core.specs.declared.tree.Expr.TheVariants as expr
use Rattle.nres_core.specs.declared.tree.Fun.{Fun}
use Rattle.nres_core.specs.declared.tree.Param.{Param}
use Rattle.nres_core.specs.declared.tree.Shown.{Shown}
use Rattle.nres_core.specs.declared.tree.Spec.{Spec}
use Rattle.nres_core.specs.declared.tree.With.{With}
use Rattle.nres_core.specs.declared.ty.Ty.{Ty}
use Rattle.nres_core.specs.declared.ty.Ty.TheVariants as ty
use Rattle.nres_core.specs.declared.tree.Step.{Step}
use Rattle.nres_core.specs.declared.tree.Step.TheVariants as steps
use Rattle.nres_meaning.specs.Samples as s
use Rattle.nres_meaning.proofs.OneReading.{one_reading, at_first, at_params, at_param, at_type, at_rep, at_kept, at_close, at_colon, at_shown, at_block, at_arrow, at_get, at_atoms, at_return, at_results, at_end}

-- ---- the first token of some tokens

abbrev kind_of : List Tok → TokenKind
kind_of [] = kind.Sign
kind_of (t ∷ ts) = t.kind

abbrev bytes_of : List Tok → List ℕ
bytes_of [] = []
bytes_of (t ∷ ts) = t.bytes

abbrev behind : List Tok → List Tok
behind [] = []
behind (t ∷ ts) = ts

abbrev name_kind : TokenKind → Bool
name_kind kind.Name = true
name_kind kind.Reserved = false
name_kind (kind.Number n) = false
name_kind kind.Sign = false

abbrev word_kind : TokenKind → Bool
word_kind kind.Name = false
word_kind kind.Reserved = true
word_kind (kind.Number n) = false
word_kind kind.Sign = false

abbrev number_kind : TokenKind → Bool
number_kind kind.Name = false
number_kind kind.Reserved = false
number_kind (kind.Number n) = true
number_kind kind.Sign = false

abbrev number_in : TokenKind → ℕ
number_in kind.Name = 0
number_in kind.Reserved = 0
number_in (kind.Number n) = n
number_in kind.Sign = 0

abbrev is_name : List Tok → Bool
is_name ts = name_kind (kind_of ts)

abbrev is_word : List Tok → Bool
is_word ts = word_kind (kind_of ts)

abbrev is_number : List Tok → Bool
is_number ts = number_kind (kind_of ts)

abbrev says : List ℕ → List Tok → Bool
says w ts = same_name w (bytes_of ts)

-- equal tokens of which one passes a test and the other does not
apart : {A : Type 0} (f : List Tok → Bool) {ts us : List Tok} → ts ≡ us → f ts ≡ false → f us ≡ true → A
apart f e h k = absurd (let d : false ≡ true = sym h ∙ ap f e ∙ k in cc d)

none_some : {A B : Type 0} {b : B} → None ≡ Some b → A
none_some e = absurd (cc e)

some_is : {A : Type 0} {a b : A} → Some a ≡ Some b → a ≡ b
some_is e = cc

-- ---- expressions

atom_name : {r o : ℕ} {ts rest to : List Tok} {e : Expr} {z : List ℕ} {p : Place} → g.IsAtom r o ts rest e → ts ≡ w.name z p ∷ to → (rest ≡ to) × (e ≡ expr.Var (w.named z p))
atom_name g.numeral q = apart is_name q refl refl
atom_name (g.truth h) q = apart is_name q refl refl
atom_name g.variable q = (ap behind q, ap (λ ts. expr.Var (w.named (bytes_of ts) (place_of ts))) q)
atom_name (g.brackets h) q = apart is_name q refl refl

atom_number : {r o n : ℕ} {ts rest to : List Tok} {e : Expr} {d : List ℕ} {p : Place} → g.IsAtom r o ts rest e → ts ≡ w.number n d p ∷ to → (rest ≡ to) × (e ≡ expr.Num p n)
atom_number g.numeral q = (ap behind q, ap (λ ts. expr.Num (place_of ts) (number_in (kind_of ts))) q)
atom_number (g.truth h) q = apart is_number q refl refl
atom_number g.variable q = apart is_number q refl refl
atom_number (g.brackets h) q = apart is_number q refl refl

no_atom : {A : Type 0} {r o : ℕ} {ts rest to : List Tok} {e : Expr} {z : List ℕ} {p : Place} → g.IsAtom r o ts rest e → ts ≡ w.word z p ∷ to → truth_word z ≡ None → A
no_atom g.numeral q k = apart is_word q refl refl
no_atom (g.truth h) q k = none_some (sym k ∙ sym (ap (λ ts. truth_word (bytes_of ts)) q) ∙ h)
no_atom g.variable q k = apart is_word q refl refl
no_atom (g.brackets h) q k = apart is_word q refl refl

two : {r o n : ℕ} {ts rest : List Tok} {es : List Expr} → g.AreAtoms r o n ts rest es → n ≡ 2 → ts ≡ at_atoms → (rest ≡ at_return) × (es ≡ var (codes "xs") (at 2 12) ∷ expr.Num (at 2 15) 0 ∷ [])
two g.none i q = absurd (cc i)
two (g.more a g.none) i q = absurd (cc i)
two (g.more a (g.more {e = y} b g.none)) i q =
    let f = atom_name a q in
    let k = atom_number b f.0 in
    (k.0, ap (λ e. e ∷ y ∷ []) f.1 ∙ ap (λ e. var (codes "xs") (at 2 12) ∷ e ∷ []) k.1)
two (g.more a (g.more b (g.more c d))) i q = absurd (cc i)

-- where no sign stands behind, an expression is one without a binary sign
settle : {r o m : ℕ} {ts rest to : List Tok} {e e' : Expr} → ((r o : ℕ) (rest : List Tok) (e : Expr) → g.IsExpr r o 0 ts rest e → (rest ≡ to) × (e ≡ e')) → is_word to ≡ true
    → g.IsExpr r o m ts rest e → (rest ≡ to) × (e ≡ e')
settle low k (g.negated h) = low _ _ _ _ (g.negated h)
settle low k (g.applies h a) = low _ _ _ _ (g.applies h a)
settle low k (g.calculates h a) = low _ _ _ _ (g.calculates h a)
settle low k (g.zeros a h) = low _ _ _ _ (g.zeros a h)
settle low k (g.empty {r = r} h a) = low r 0 _ _ (g.empty h a)
settle low k (g.atom a) = low _ _ _ _ (g.atom a)
settle low k (g.tighter h) = settle low k h
settle low k (g.chain c b h d) = apart is_word (settle low k h).0 refl k
settle low k (g.compare c b h d) = apart is_word (settle low k h).0 refl k

low_name : {r o m : ℕ} {ts rest to : List Tok} {e : Expr} {z : List ℕ} {p : Place} → g.IsExpr r o m ts rest e → m ≡ 0 → ts ≡ w.name z p ∷ to → (rest ≡ to) × (e ≡ expr.Var (w.named z p))
low_name (g.negated h) i q = apart is_name q refl refl
low_name (g.applies h a) i q = apart is_name q refl refl
low_name (g.calculates h a) i q = apart is_name q refl refl
low_name (g.zeros a h) i q = apart is_name q refl refl
low_name (g.empty h a) i q = apart is_name q refl refl
low_name (g.atom a) i q = atom_name a q
low_name (g.tighter h) i q = absurd (cc i)
low_name (g.chain c b h d) i q = absurd (cc i)
low_name (g.compare c b h d) i q = absurd (cc i)

low_get : {r o m : ℕ} {ts rest : List Tok} {e : Expr} → g.IsExpr r o m ts rest e → m ≡ 0 → ts ≡ at_get → (rest ≡ at_return) × (e ≡ first_word)
unfolding arity calc_word is_empty_word truth_word
low_get (g.negated h) i q = apart is_word q refl refl
low_get (g.applies {es = es} h a) i q =
    let f = two a (some_is (sym h ∙ ap (λ ts. arity (bytes_of ts)) q)) (ap behind q) in
    (f.0, ap (λ ts. expr.Apply (place_of ts) (bytes_of ts) es None) q ∙ ap (λ es. expr.Apply (at 2 8) (codes "get") es None) f.1)
low_get (g.calculates h a) i q = none_some (sym (ap (λ ts. calc_word (bytes_of ts)) q) ∙ h)
low_get (g.zeros a h) i q = apart (says (codes "get")) q refl refl
low_get (g.empty h a) i q = absurd (let d : false ≡ true = sym (ap (λ ts. is_empty_word (bytes_of ts)) q) ∙ h in cc d)
low_get (g.atom a) i q = no_atom a q refl
low_get (g.tighter h) i q = absurd (cc i)
low_get (g.chain c b h d) i q = absurd (cc i)
low_get (g.compare c b h d) i q = absurd (cc i)

whole_get : {l r : ℕ} {ts rest : List Tok} {e : Expr} → g.IsWhole l r ts rest e → ts ≡ at_get → (rest ≡ at_return) × (e ≡ first_word)
whole_get (g.expression h d) q = settle (λ r o rest e k. low_get k refl q) refl d

whole_x : {l r : ℕ} {ts rest : List Tok} {e : Expr} → g.IsWhole l r ts rest e → ts ≡ at_results → (rest ≡ at_end) × (e ≡ var (codes "x") (at 3 10))
whole_x (g.expression h d) q = settle (λ r o rest e k. low_name k refl q) refl d

-- ---- steps and blocks

pattern_x : {r : ℕ} {ts rest : List Tok} {xs : List Named} → g.IsPattern r ts rest xs → ts ≡ at_block → (rest ≡ at_arrow) × (xs ≡ w.named (codes "x") (at 2 3) ∷ [])
pattern_x g.one_name q = (ap behind q, ap (λ ts. w.named (bytes_of ts) (place_of ts) ∷ []) q)
pattern_x (g.names h) q = apart is_name q refl refl

no_pattern : {A : Type 0} {r : ℕ} {ts rest : List Tok} {xs : List Named} → g.IsPattern r ts rest xs → ts ≡ at_return → A
no_pattern g.one_name q = apart is_word q refl refl
no_pattern (g.names h) q = apart is_word q refl refl

body_get : {l r : ℕ} {ts rest : List Tok} {b : Body} → g.IsBody l r ts rest b → ts ≡ at_get → (rest ≡ at_return) × (b ≡ first_body)
unfolding is_take_word
body_get (g.value h) q = let f = whole_get h q in (f.0, ap (λ e. body.Value e) f.1)
body_get (g.takes h a) q = absurd (let d : false ≡ true = sym (ap (λ ts. is_take_word (bytes_of ts)) q) ∙ h in cc d)
body_get (g.any a b) q = apart (says (codes "get")) q refl refl
body_get (g.choice a b c) q = apart (says (codes "get")) q refl refl
body_get (g.loop a b c d) q = apart (says (codes "get")) q refl refl
body_get (g.pair a b) q = apart (says (codes "get")) q refl refl
body_get (g.split a b c) q = apart (says (codes "get")) q refl refl
body_get (g.either a b) q = apart (says (codes "get")) q refl refl
body_get (g.each a b c) q = apart (says (codes "get")) q refl refl
body_get (g.call a) q = apart (says (codes "get")) q refl refl

step_get : {l r : ℕ} {ts rest : List Tok} {s : Step} → g.IsStep l r ts rest s → ts ≡ at_block → (rest ≡ at_return) × (s ≡ first_step)
step_get (g.asserts h) q = apart is_name q refl refl
step_get (g.binds {ts = ts} {xs = xs} {b = b} h k) q =
    let f = pattern_x h q in
    let d = body_get k (ap behind f.0) in
    let x : List Named = w.named (codes "x") (at 2 3) ∷ [] in
    (d.0, ap (λ xs. steps.Bind xs (place_of ts) b) f.1 ∙ ap (λ ts. steps.Bind x (place_of ts) b) q ∙ ap (λ b. steps.Bind x (at 2 3) b) d.1)

no_step : {A : Type 0} {l r : ℕ} {ts rest : List Tok} {s : Step} → g.IsStep l r ts rest s → ts ≡ at_return → A
no_step (g.asserts h) q = apart (says (codes "return")) q refl refl
no_step (g.binds h k) q = no_pattern h q

no_steps : {l r : ℕ} {ts rest : List Tok} {ss : List Step} → g.AreSteps l r ts rest ss → ts ≡ at_return → (rest ≡ at_return) × (ss ≡ [])
no_steps g.no_step q = (q, refl)
no_steps (g.step h k) q = no_step h q

steps_get : {l r : ℕ} {ts rest : List Tok} {ss : List Step} → g.AreSteps l r ts rest ss → ts ≡ at_block → is_word rest ≡ true → (rest ≡ at_return) × (ss ≡ first_step ∷ [])
steps_get g.no_step q i = apart is_word (sym q) refl i
steps_get (g.step {ss = ss} h k) q i =
    let f = step_get h q in
    let d = no_steps k f.0 in
    (d.0, ap (λ s. s ∷ ss) f.1 ∙ ap (λ ss. first_step ∷ ss) d.1)

results_x : {l r : ℕ} {ts rest : List Tok} {es : List Expr} → g.AreResults l r ts rest es → ts ≡ at_results → (rest ≡ at_end) × (es ≡ first_results)
results_x (g.one_result h) q = let f = whole_x h q in (f.0, ap (λ e. e ∷ []) f.1)
results_x (g.several h k) q = apart is_name q refl refl

abbrev made_block : List Step → Place → List Expr → Block
made_block ss p es = roll-Block (record { steps = ss; place = p; results = es })

block_first : {l r : ℕ} {ts rest : List Tok} {z : Block} → g.IsBlock l r ts rest z → ts ≡ at_block → (rest ≡ at_end) × (z ≡ first_tree.body)
block_first (g.block {p = p} {ss = ss} {es = es} h k) q =
    let f = steps_get h q refl in
    let d = results_x k (ap behind f.0) in
    (d.0, ap (λ ss. made_block ss p es) f.1 ∙ ap (λ ts. made_block (first_step ∷ []) (place_of ts) es) f.0 ∙ ap (λ es. made_block (first_step ∷ []) (at 3 3) es) d.1)

-- ---- parameters and what is shown

abbrev made_shown : Ty → Rep → Place → Shown
made_shown t y p = record { ty = t; rep = y; rep_place = p }

abbrev list_shown : Shown
list_shown = made_shown ty.List rep.Array (at 1 25)

abbrev xs_param : Param
xs_param = x.param (codes "xs") (at 1 13) list_shown true

rep_array : {ts rest : List Tok} {y : Rep} → g.IsRep ts rest y → ts ≡ at_rep → (rest ≡ at_kept) × (y ≡ rep.Array)
unfolding rep_word
rep_array (g.unbounded h) q = (ap behind q, some_is (sym h ∙ ap (λ ts. rep_word (bytes_of ts)) q))
rep_array (g.bounded h a b) q = apart is_word (ap behind q) refl refl

container_list : {b : Bool} {ts rest : List Tok} {s : Shown} → x.IsContainer b ts rest s → ts ≡ at_type → (rest ≡ at_kept) × (s ≡ list_shown)
unfolding type_word
container_list (x.container {ts = ts} {x = y} h k) q =
    let e = ap (λ us. behind (behind us)) q in
    let f = rep_array k e in (
      f.0,
      ap (λ t. made_shown t y (place_of ts)) (some_is (sym h ∙ ap (λ us. type_word (bytes_of us)) q))
          ∙ ap (λ y. made_shown ty.List y (place_of ts)) f.1
          ∙ ap (λ us. made_shown ty.List rep.Array (place_of us)) e,
    )
container_list x.slice q = apart (says (codes "array")) (ap (λ us. behind (behind us)) q) refl refl

one_list : {b : Bool} {ts rest : List Tok} {s : Shown} → x.IsOne b ts rest s → ts ≡ at_type → rest ≡ at_kept
unfolding plain_word
one_list (x.plain h) q = none_some (sym (ap (λ us. plain_word (bytes_of us)) q) ∙ h)
one_list (x.held h) q = (container_list h q).0

param_xs : {b : Bool} {ts rest : List Tok} {y : Param} → x.IsParam b ts rest y → ts ≡ at_param → is_word rest ≡ false → (rest ≡ at_close) × (y ≡ xs_param)
param_xs (x.given h) q i = apart is_word (one_list h (ap (λ us. behind (behind us)) q)) i refl
param_xs (x.kept {p = p} {x = z} h) q i =
    let f = container_list h (ap (λ us. behind (behind us)) q) in
    (ap behind f.0, ap (λ s. x.param z p s true) f.1 ∙ ap (λ us. x.param (bytes_of us) (place_of us) list_shown true) q)

more_params : {b : Bool} {ts rest : List Tok} {ys : List Param} → x.AreMoreParams b ts rest ys → ts ≡ at_param → (rest ≡ at_colon) × (ys ≡ xs_param ∷ [])
more_params (x.last_param h) q = let f = param_xs h q refl in (ap behind f.0, ap (λ y. y ∷ []) f.1)
more_params (x.another_param h k) q = let f = param_xs h q refl in apart (says (codes ")")) f.0 refl refl

all_params : {b : Bool} {r : ℕ} {ts rest : List Tok} {ys : List Param} → x.AreParams b r ts rest ys → ts ≡ at_params → (rest ≡ at_colon) × (ys ≡ xs_param ∷ [])
all_params x.no_param q = apart is_name (ap behind q) refl refl
all_params (x.params h) q = more_params h (ap behind q)

abbrev nat_shown : Shown
nat_shown = made_shown ty.Nat rep.Word (at 1 39)

no_container : {A : Type 0} {b : Bool} {ts rest : List Tok} {s : Shown} → x.IsContainer b ts rest s → ts ≡ at_shown → A
unfolding type_word
no_container (x.container h k) q = none_some (sym (ap (λ us. type_word (bytes_of us)) q) ∙ h)
no_container x.slice q = apart (says (codes "nat")) q refl refl

one_nat : {b : Bool} {ts rest : List Tok} {s : Shown} → x.IsOne b ts rest s → ts ≡ at_shown → (rest ≡ at_block) × (s ≡ nat_shown)
unfolding plain_word
one_nat (x.plain {p = p} h) q = (
  ap behind q,
  ap (λ y. made_shown y.0 y.1 p) (some_is (sym h ∙ ap (λ us. plain_word (bytes_of us)) q))
      ∙ ap (λ us. made_shown ty.Nat rep.Word (place_of us)) q,
)
one_nat (x.held h) q = no_container h q

all_shown : {b : Bool} {r : ℕ} {ts rest : List Tok} {ys : List Shown} → x.AreShown b r ts rest ys → ts ≡ at_shown → (rest ≡ at_block) × (ys ≡ nat_shown ∷ [])
all_shown (x.one_shown h) q = let f = one_nat h q in (f.0, ap (λ y. y ∷ []) f.1)
all_shown (x.several_shown h k) q = apart is_word q refl refl

-- ---- the whole text

abbrev made_spec : List ℕ → List Param → List Shown → Block → List Fun → Spec
made_spec z xs ys b fs = record { name = z; params = xs; shown = ys; body = b; funs = fs }

abbrev with_funs : List Fun → Spec
with_funs fs = made_spec (codes "first") (xs_param ∷ []) (nat_shown ∷ []) first_tree.body fs

spec_first : {l r : ℕ} {ts rest : List Tok} {fs : List Fun} {p : Spec} → x.IsSpec l r ts rest fs p → ts ≡ at_first → (rest ≡ []) × (p ≡ with_funs fs)
spec_first (x.spec {x = z} {xs = xs} {ys = ys} {z = b} {fs = fs} h k d) q =
    let f = all_params h (ap (λ us. behind (behind us)) q) in
    let i = all_shown k (ap behind f.0) in
    let j = block_first d i.0 in (
      ap behind j.0,
      ap (λ us. made_spec (bytes_of (behind us)) xs ys b fs) q
          ∙ ap (λ xs. made_spec (codes "first") xs ys b fs) f.1
          ∙ ap (λ ys. made_spec (codes "first") (xs_param ∷ []) ys b fs) i.1
          ∙ ap (λ b. made_spec (codes "first") (xs_param ∷ []) (nat_shown ∷ []) b fs) j.1,
    )

no_funs : {l r : ℕ} {ts rest : List Tok} {fs : List Fun} → x.AreFuns l r ts rest fs → ts ≡ [] → (rest ≡ []) × (fs ≡ [])
no_funs x.no_fun q = (q, refl)
no_funs (x.fun h k d m) q = absurd (cc q)

no_withs : {ts : List Tok} {ws : List With} → x.AreWiths ts ws → ts ≡ [] → ws ≡ []
no_withs x.no_with q = refl
no_withs (x.gives h k) q = absurd (cc q)

file_first : {l r : ℕ} {ts : List Tok} {p : Spec} {ws : List With} → x.IsFile l r ts p ws → ts ≡ at_first → (p ≡ first_tree) × (ws ≡ [])
file_first (x.file h k d) q =
    let f = spec_first h q in
    let i = no_funs k f.0 in
    (f.1 ∙ ap (λ fs. with_funs fs) i.1, no_withs d i.0)

pub one_tree : s.OneTree
one_tree p ws h = file_first h.2 (one_reading h.1)
