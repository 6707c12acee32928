-- Tokens and what they are to the grammar, both ways.
use Rattle.std.proofs.Common.{◌≡◌, ◌⊎◌, inl, inr, ℕ, zero, suc, Bool, true, false, not, ◌||◌, List, [], ◌∷◌, Option, Some, None, codes, refl, ap, ◌∙◌, sym, subst}
use Rattle.std.specs.List.{list_all}
use Rattle.std.specs.Option.{is_some}
use Rattle.std.proofs.lemmas.Slice.Eq.{bytes_eq-Decides}
use Rattle.std.proofs.lemmas.Bool.{false≢true, eqb-true}
use Rattle.target_code.specs.declared.tree.Calc.{Calc}
use Rattle.target_code.specs.declared.tree.Calc.TheVariants as calc
use Rattle.target_code.specs.declared.tree.Rep.{Rep}
use Rattle.target_code.specs.declared.tree.Rep.TheVariants as rep
use Rattle.nres_core.specs.Operations.{Entry, Gives, Makes, Takes_out, entry, is_taking, AllOf, in_table, words as operation_words, meant, entry_arity, entry_is_bare, meant_arity, meant_is_bare, meant_is_taking}
use Rattle.nres_core.specs.Tree.{same_name}
use Rattle.nres_core.specs.Vocabulary.{Tok, word, sign, name, number, arity, calc_word, is_empty_word, is_take_word, truth_word, plain_word, type_word, rep_word, bound_word, binary_sign}
use Rattle.nres_core.specs.declared.place.Place.{Place}
use Rattle.nres_core.specs.declared.token.TokenKind.{TokenKind}
use Rattle.nres_core.specs.declared.token.TokenKind.TheVariants as kind
use Rattle.nres_core.specs.declared.ty.Ty.{Ty}
use Rattle.nres_core.specs.declared.ty.Ty.TheVariants as ty
use Rattle.nres_core.specs.declared.vocabulary.Meant.{Meant}
use Rattle.nres_core.specs.declared.vocabulary.Meant.TheVariants as m
use Rattle.nres_core.proofs.OperationsLemmas.{tabled, on_operations}
use Rattle.nres_automaton.specs.Lexemes.{is_fixed, number_of, words, signs, formed, operation, either_table, lexeme_of, lex, spelled}
use Rattle.nres_automaton.specs.Automaton.{bound_of, looseness}
use Rattle.nres_automaton.specs.declared.lexeme.Bounded.{Bounded}
use Rattle.nres_automaton.specs.declared.lexeme.Bounded.TheVariants as bounded
use Rattle.nres_automaton.specs.declared.lexeme.Fixed.{Fixed}
use Rattle.nres_automaton.specs.declared.lexeme.Fixed.TheVariants as fixed
use Rattle.nres_automaton.specs.declared.lexeme.Lexeme.{Lexeme}
use Rattle.nres_automaton.specs.declared.lexeme.Lexeme.TheVariants as x

-- ---- from what a token is to the token

-- what a token is whose lexeme is this
abbrev pub Is : Lexeme → Tok → Type 0
Is x.End t = ⊥
Is (x.Number n) t = t ≡ number n t.bytes t.place
Is x.Name t = t ≡ name t.bytes t.place
Is (x.Fixed z) t = t ≡ spelled z t.place
Is (x.Truth b) t = (t ≡ word t.bytes t.place) × (truth_word t.bytes ≡ Some b)
Is (x.Applies n) t = (t ≡ word t.bytes t.place) × (arity t.bytes ≡ Some n)
Is (x.Calculates c) t = (t ≡ word t.bytes t.place) × (calc_word t.bytes ≡ Some c)
Is x.Empty t = (t ≡ word t.bytes t.place) × (is_empty_word t.bytes ≡ true)
Is x.Takes t = (t ≡ word t.bytes t.place) × (is_take_word t.bytes ≡ true)
Is (x.Sign c) t = (t ≡ sign t.bytes t.place) × (binary_sign t.bytes ≡ Some (c, looseness c))
Is (x.Plain s y) t = (t ≡ word t.bytes t.place) × (plain_word t.bytes ≡ Some (s, y))
Is (x.Type s) t = (t ≡ word t.bytes t.place) × (type_word t.bytes ≡ Some s)
Is (x.Unbounded y) t = (t ≡ word t.bytes t.place) × (rep_word t.bytes ≡ Some y)
Is (x.Bounded y) t = (t ≡ word t.bytes t.place) × ((u : ℕ) → bound_word t.bytes u ≡ Some (bound_of y u))
Is x.Other t = Unit {0}

infixr 5 ◌and◌
◌and◌ : {A B : Type 0} → A → B → A × B
a and b = (a, b)

words_are : (p : Place) → AllOf (λ w v. Is v (word w p)) words
unfolding words calc_word truth_word plain_word type_word rep_word bound_word
words_are p =
    refl and refl and refl and refl and refl and refl and refl and refl and refl and refl and refl and refl and refl and refl and refl and refl
    and refl and refl and refl and refl and refl and refl and refl and refl and refl and refl and refl and refl and refl and (refl, refl)
    and (refl, refl) and (refl, refl) and (refl, refl) and (refl, refl) and (refl, refl) and (refl, refl) and (refl, refl) and (refl, refl)
    and (refl, refl) and (refl, refl) and (refl, refl) and (refl, refl) and (refl, refl) and (refl, λ u. refl) and (refl, λ u. refl) and tt

signs_are : (p : Place) → AllOf (λ w v. Is v (sign w p)) signs
unfolding signs binary_sign
signs_are p =
    refl and refl and refl and refl and refl and refl and refl and refl and refl and refl and refl and (refl, refl) and (refl, refl) and (refl, refl)
    and (refl, refl) and (refl, refl) and (refl, refl) and (refl, refl) and (refl, refl) and (refl, refl) and (refl, refl) and (refl, refl) and tt

operation_is : (w : List ℕ) (p : Place) (y : Meant) → meant w ≡ Some y → Is (operation y) (word w p)
unfolding meant arity is_empty_word is_take_word
operation_is w p y e = go (meant_arity (Some y)) (meant_is_bare (Some y)) (meant_is_taking (Some y)) (ap meant_arity e) (ap meant_is_bare e) (ap meant_is_taking e)
  where
    go : (a : Option ℕ) (b t : Bool) → arity w ≡ a → is_empty_word w ≡ b → is_take_word w ≡ t → Is (formed a b t) (word w p)
    go (Some n) b t f g h = (refl, f)
    go None true t f g h = (refl, g)
    go None false true f g h = (refl, h)
    go None false false f g h = tt

word_is : (w : List ℕ) (p : Place) (v : Option Lexeme) (y : Option Meant) → in_table w words ≡ v → meant w ≡ y → Is (either_table v y) (word w p)
word_is w p (Some v) y e f = tabled (λ u z. Is z (word u p)) w words v (words_are p) e
word_is w p None (Some y) e f = operation_is w p y f
word_is w p None None e f = tt

sign_is : (w : List ℕ) (p : Place) (v : Option Lexeme) → in_table w signs ≡ v → Is (either_table v None) (sign w p)
sign_is w p (Some v) e = tabled (λ u z. Is z (sign u p)) w signs v (signs_are p) e
sign_is w p None e = tt

is_at : (k : TokenKind) (w : List ℕ) (p : Place) → Is (lexeme_of k w) (record { kind = k; bytes = w; place = p })
is_at kind.Name w p = refl
is_at (kind.Number n) w p = refl
is_at kind.Reserved w p = word_is w p (in_table w words) (meant w) refl refl
is_at kind.Sign w p = sign_is w p (in_table w signs) refl

pub is : (t : Tok) → Is (lex t).lexeme t
is t = is_at t.kind t.bytes t.place

-- ---- from the token to what it is

pub lex_fixed : (z : Fixed) (p : Place) → (lex (spelled z p)).lexeme ≡ x.Fixed z
unfolding words signs
lex_fixed fixed.Spec p = refl
lex_fixed fixed.Fun p = refl
lex_fixed fixed.End p = refl
lex_fixed fixed.With p = refl
lex_fixed fixed.As p = refl
lex_fixed fixed.Kept p = refl
lex_fixed fixed.Return p = refl
lex_fixed fixed.Assert p = refl
lex_fixed fixed.If p = refl
lex_fixed fixed.Then p = refl
lex_fixed fixed.Else p = refl
lex_fixed fixed.While p = refl
lex_fixed fixed.From p = refl
lex_fixed fixed.Do p = refl
lex_fixed fixed.Par p = refl
lex_fixed fixed.And p = refl
lex_fixed fixed.Split p = refl
lex_fixed fixed.At p = refl
lex_fixed fixed.Left p = refl
lex_fixed fixed.Right p = refl
lex_fixed fixed.Either p = refl
lex_fixed fixed.Or p = refl
lex_fixed fixed.Any p = refl
lex_fixed fixed.Foreach p = refl
lex_fixed fixed.In p = refl
lex_fixed fixed.Call p = refl
lex_fixed fixed.Slice p = refl
lex_fixed fixed.Set p = refl
lex_fixed fixed.Zeros p = refl
lex_fixed fixed.Open p = refl
lex_fixed fixed.Close p = refl
lex_fixed fixed.OpenSquare p = refl
lex_fixed fixed.CloseSquare p = refl
lex_fixed fixed.OpenBrace p = refl
lex_fixed fixed.CloseBrace p = refl
lex_fixed fixed.Comma p = refl
lex_fixed fixed.Colon p = refl
lex_fixed fixed.Equals p = refl
lex_fixed fixed.Arrow p = refl
lex_fixed fixed.Not p = refl

-- an operation word is no word of the grammar, but for these two
data Apart (w : List ℕ) : Type 0 where
  no_word : in_table w words ≡ None → Apart w
  set : w ≡ codes "set" → Apart w
  zeros : w ≡ codes "zeros" → Apart w

is_apart : List ℕ → Bool
is_apart w = not (is_some (in_table w words)) || (same_name w (codes "set") || same_name w (codes "zeros"))

not_some : {A : Type 0} (x : Option A) → is_some x ≡ false → x ≡ None
not_some None h = refl
not_some (Some a) h = absurd cc

apart : (w : List ℕ) → is_apart w ≡ true → Apart w
unfolding is_apart
apart w h = pick (is_some (in_table w words)) (same_name w (codes "set")) (same_name w (codes "zeros")) refl refl refl h
  where
    pick : (a b c : Bool) → is_some (in_table w words) ≡ a → same_name w (codes "set") ≡ b → same_name w (codes "zeros") ≡ c → (not a || (b || c)) ≡ true → Apart w
    pick false b c e f g h = no_word (not_some (in_table w words) e)
    pick true true c e f g h = set ((bytes_eq-Decides w (codes "set")).0 f)
    pick true false true e f g h = zeros ((bytes_eq-Decides w (codes "zeros")).0 g)
    pick true false false e f g h = absurd (false≢true h)

all_apart : list_all (λ e. is_apart e.0) operation_words ≡ true
unfolding is_apart words
all_apart = refl

-- where the table of operations settles what a word is
on_operation : (f : Option Meant → Bool) → f None ≡ false → (w : List ℕ) → f (meant w) ≡ true → Apart w
unfolding meant
on_operation f n w h = apart w (on_operations is_apart f n all_apart w h)

operated : (w : List ℕ) (y : Option Meant) → in_table w words ≡ None → meant w ≡ y → lexeme_of kind.Reserved w ≡ either_table None y
operated w y e f = ap (λ z. either_table z (meant w)) e ∙ ap (either_table None) f

has_arity : Option Meant → Bool
has_arity y = is_some (meant_arity y)

-- an operation word on so many atoms
pub lex_arity : (w : List ℕ) (n : ℕ) → arity w ≡ Some n → (lexeme_of kind.Reserved w ≡ x.Applies n) ⊎ ((w ≡ codes "set") × (n ≡ 3))
unfolding arity meant has_arity
lex_arity w n h = pick (on_operation has_arity refl w (ap is_some h))
  where
    formed_so : (y : Option Meant) → meant_arity y ≡ Some n → either_table None y ≡ x.Applies n
    formed_so None k = absurd cc
    formed_so (Some y) k = ap (λ z. formed z (meant_is_bare (Some y)) (meant_is_taking (Some y))) k

    pick : Apart w → (lexeme_of kind.Reserved w ≡ x.Applies n) ⊎ ((w ≡ codes "set") × (n ≡ 3))
    pick (no_word e) = inl (operated w (meant w) e refl ∙ formed_so (meant w) h)
    pick (set e) = inr (e, let k : Some 3 ≡ Some n = sym (ap arity e) ∙ h in cc)
    pick (zeros e) = absurd (let k : None ≡ Some n = sym (ap arity e) ∙ h in cc)

pub lex_calc : (w : List ℕ) (c : Calc) → calc_word w ≡ Some c → lexeme_of kind.Reserved w ≡ x.Calculates c
unfolding words calc_word
lex_calc w c h =
    let table : List (List ℕ × Calc) = (codes "min", calc.Min) ∷ (codes "max", calc.Max) ∷ [] in
    tabled (λ u d. lexeme_of kind.Reserved u ≡ x.Calculates d) w table c (refl and refl and tt) h

pub lex_truth : (w : List ℕ) (b : Bool) → truth_word w ≡ Some b → lexeme_of kind.Reserved w ≡ x.Truth b
unfolding words truth_word
lex_truth w b h =
    let table : List (List ℕ × Bool) = (codes "true", true) ∷ (codes "false", false) ∷ [] in
    tabled (λ u c. lexeme_of kind.Reserved u ≡ x.Truth c) w table b (refl and refl and tt) h

pub lex_plain : (w : List ℕ) (s : Ty) (y : Rep) → plain_word w ≡ Some (s, y) → lexeme_of kind.Reserved w ≡ x.Plain s y
unfolding words plain_word
lex_plain w s y h =
    let table : List (List ℕ × (Ty × Rep)) = (codes "nat", (ty.Nat, rep.Word)) ∷ (codes "bool", (ty.Bool, rep.Flag)) ∷ [] in
    tabled (λ u e. lexeme_of kind.Reserved u ≡ x.Plain e.0 e.1) w table (s, y) (refl and refl and tt) h

pub lex_type : (w : List ℕ) (s : Ty) → type_word w ≡ Some s → (lexeme_of kind.Reserved w ≡ x.Type s) ⊎ ((w ≡ codes "set") × (s ≡ ty.Set))
unfolding words type_word
lex_type w s h =
    let table : List (List ℕ × Ty) = (codes "list", ty.List) ∷ (codes "set", ty.Set) ∷ (codes "map", ty.Map) ∷ (codes "bag", ty.Bag) ∷ [] in
    tabled (λ u e. (lexeme_of kind.Reserved u ≡ x.Type e) ⊎ ((u ≡ codes "set") × (e ≡ ty.Set))) w table s (inl refl and inr (refl, refl) and inl refl and inl refl and tt) h

pub lex_rep : (w : List ℕ) (y : Rep) → rep_word w ≡ Some y → lexeme_of kind.Reserved w ≡ x.Unbounded y
unfolding words rep_word
lex_rep w y h =
    let table : List (List ℕ × Rep) =
    (codes "array", rep.Array) ∷ (codes "vec", rep.Vec) ∷ (codes "hset", rep.Hset) ∷ (codes "hmap", rep.Hmap) ∷ (codes "heap", rep.Heap) ∷ [] in
    tabled (λ u e. lexeme_of kind.Reserved u ≡ x.Unbounded e) w table y
    (refl and refl and refl and refl and refl and tt) h

pub lex_bound : (w : List ℕ) (u : ℕ) (y : Rep) → bound_word w u ≡ Some y → (b : Bounded) × (lexeme_of kind.Reserved w ≡ x.Bounded b) × (bound_of b u ≡ y)
unfolding words bound_word
lex_bound w u y h =
    let table : List (List ℕ × Rep) = (codes "bits", rep.Bits u) ∷ (codes "amap", rep.Amap u) ∷ [] in
    tabled (λ v e. (b : Bounded) × (lexeme_of kind.Reserved v ≡ x.Bounded b) × (bound_of b u ≡ e)) w table y ((bounded.Bits, refl, refl) and (bounded.Amap, refl, refl) and tt) h

pub lex_sign : (s : List ℕ) (c : Calc) (m : ℕ) → binary_sign s ≡ Some (c, m) → (lexeme_of kind.Sign s ≡ x.Sign c) × (looseness c ≡ m)
unfolding signs binary_sign
lex_sign s c m h =
    let table : List (List ℕ × (Calc × ℕ)) =
    (codes "*", (calc.Mul, 1)) ∷ (codes "/", (calc.Div, 1)) ∷ (codes "%", (calc.Mod, 1)) ∷ (codes "+", (calc.Add, 2)) ∷ (codes "-", (calc.Sub, 2))
    ∷ (codes "<", (calc.Lt, 3)) ∷ (codes "<=", (calc.Le, 3)) ∷ (codes "==", (calc.Eq, 3)) ∷ (codes "!=", (calc.Ne, 3)) ∷ (codes "&&", (calc.And, 4))
    ∷ (codes "||", (calc.Or, 5)) ∷ [] in
    tabled (λ u e. (lexeme_of kind.Sign u ≡ x.Sign e.0) × (looseness e.0 ≡ e.1)) s table (c, m)
    ((refl, refl) and (refl, refl) and (refl, refl) and (refl, refl) and (refl, refl) and (refl, refl) and (refl, refl) and (refl, refl) and (refl, refl)
    and (refl, refl) and (refl, refl) and tt) h

bare_formed : (y : Option Meant) → meant_is_bare y ≡ true → either_table None y ≡ x.Empty
bare_formed None h = absurd cc
bare_formed (Some (m.ByFirst t to)) h = absurd cc
bare_formed (Some (m.ByMade t)) h = refl
bare_formed (Some (m.Always op)) h = go (entry op) h
  where
    go : (e : Entry) → entry_is_bare e ≡ true → formed (entry_arity e) (entry_is_bare e) (is_taking e) ≡ x.Empty
    go (Makes [] u) k = refl
    go (Makes (t ∷ ts) u) k = absurd cc
    go (Gives ts u) k = absurd cc
    go (Takes_out u) k = absurd cc

pub lex_empty : (w : List ℕ) → is_empty_word w ≡ true → lexeme_of kind.Reserved w ≡ x.Empty
unfolding is_empty_word meant
lex_empty w h = pick (on_operation meant_is_bare refl w h)
  where
    pick : Apart w → lexeme_of kind.Reserved w ≡ x.Empty
    pick (no_word e) = operated w (meant w) e refl ∙ bare_formed (meant w) h
    pick (set e) = absurd (false≢true (sym (ap is_empty_word e) ∙ h))
    pick (zeros e) = absurd (false≢true (sym (ap is_empty_word e) ∙ h))

taking_formed : (y : Option Meant) → meant_is_taking y ≡ true → either_table None y ≡ x.Takes
taking_formed None h = absurd cc
taking_formed (Some (m.ByFirst t to)) h = absurd cc
taking_formed (Some (m.ByMade t)) h = absurd cc
taking_formed (Some (m.Always op)) h = go (entry op) h
  where
    go : (e : Entry) → is_taking e ≡ true → formed (entry_arity e) (entry_is_bare e) (is_taking e) ≡ x.Takes
    go (Takes_out u) k = refl
    go (Gives ts u) k = absurd cc
    go (Makes ts u) k = absurd cc

pub lex_takes : (w : List ℕ) → is_take_word w ≡ true → lexeme_of kind.Reserved w ≡ x.Takes
unfolding is_take_word meant
lex_takes w h = pick (on_operation meant_is_taking refl w h)
  where
    pick : Apart w → lexeme_of kind.Reserved w ≡ x.Takes
    pick (no_word e) = operated w (meant w) e refl ∙ taking_formed (meant w) h
    pick (set e) = absurd (false≢true (sym (ap is_take_word e) ∙ h))
    pick (zeros e) = absurd (false≢true (sym (ap is_take_word e) ∙ h))

pub lex_set : lexeme_of kind.Reserved (codes "set") ≡ x.Fixed fixed.Set
unfolding words
lex_set = refl

pub lex_square : lexeme_of kind.Sign (codes "]") ≡ x.Fixed fixed.CloseSquare
unfolding signs
lex_square = refl

pub lex_brace : lexeme_of kind.Sign (codes "}") ≡ x.Fixed fixed.CloseBrace
unfolding signs
lex_brace = refl

pub lex_list : lexeme_of kind.Reserved (codes "list") ≡ x.Type ty.List
unfolding words
lex_list = refl

pub lex_bag : lexeme_of kind.Reserved (codes "bag") ≡ x.Type ty.Bag
unfolding words
lex_bag = refl

pub set_arity : arity (codes "set") ≡ Some 3
unfolding arity
set_arity = refl

pub set_type : type_word (codes "set") ≡ Some ty.Set
unfolding type_word
set_type = refl

-- the spelling of a type of containers
abbrev pub spelling : Ty → List ℕ
spelling ty.List = codes "list"
spelling ty.Set = codes "set"
spelling ty.Map = codes "map"
spelling _ = codes "bag"

pub type_spelled : (w : List ℕ) (s : Ty) → type_word w ≡ Some s → w ≡ spelling s
unfolding type_word
type_spelled w s h =
    let table : List (List ℕ × Ty) = (codes "list", ty.List) ∷ (codes "set", ty.Set) ∷ (codes "map", ty.Map) ∷ (codes "bag", ty.Bag) ∷ [] in
    tabled (λ u e. u ≡ spelling e) w table s (refl and refl and refl and refl and tt) h

-- ---- words and signs that stand for themselves

nth : List Fixed → ℕ → Fixed
nth [] n = fixed.End
nth (z ∷ zs) zero = z
nth (z ∷ zs) (suc n) = nth zs n

abbrev numbered : List Fixed
numbered =
    fixed.Spec ∷ fixed.Fun ∷ fixed.End ∷ fixed.With ∷ fixed.As ∷ fixed.Kept ∷ fixed.Return ∷ fixed.Assert ∷ fixed.If ∷ fixed.Then ∷ fixed.Else ∷
    fixed.While ∷ fixed.From ∷ fixed.Do ∷ fixed.Par ∷ fixed.And ∷ fixed.Split ∷ fixed.At ∷ fixed.Left ∷ fixed.Right ∷ fixed.Either ∷ fixed.Or ∷
    fixed.Any ∷ fixed.Foreach ∷ fixed.In ∷ fixed.Call ∷ fixed.Slice ∷ fixed.Set ∷ fixed.Zeros ∷ fixed.Open ∷ fixed.Close ∷ fixed.OpenSquare ∷
    fixed.CloseSquare ∷ fixed.OpenBrace ∷ fixed.CloseBrace ∷ fixed.Comma ∷ fixed.Colon ∷ fixed.Equals ∷ fixed.Arrow ∷ fixed.Not ∷ []

nth-number : (z : Fixed) → nth numbered (number_of z) ≡ z
unfolding nth
nth-number fixed.Spec = refl
nth-number fixed.Fun = refl
nth-number fixed.End = refl
nth-number fixed.With = refl
nth-number fixed.As = refl
nth-number fixed.Kept = refl
nth-number fixed.Return = refl
nth-number fixed.Assert = refl
nth-number fixed.If = refl
nth-number fixed.Then = refl
nth-number fixed.Else = refl
nth-number fixed.While = refl
nth-number fixed.From = refl
nth-number fixed.Do = refl
nth-number fixed.Par = refl
nth-number fixed.And = refl
nth-number fixed.Split = refl
nth-number fixed.At = refl
nth-number fixed.Left = refl
nth-number fixed.Right = refl
nth-number fixed.Either = refl
nth-number fixed.Or = refl
nth-number fixed.Any = refl
nth-number fixed.Foreach = refl
nth-number fixed.In = refl
nth-number fixed.Call = refl
nth-number fixed.Slice = refl
nth-number fixed.Set = refl
nth-number fixed.Zeros = refl
nth-number fixed.Open = refl
nth-number fixed.Close = refl
nth-number fixed.OpenSquare = refl
nth-number fixed.CloseSquare = refl
nth-number fixed.OpenBrace = refl
nth-number fixed.CloseBrace = refl
nth-number fixed.Comma = refl
nth-number fixed.Colon = refl
nth-number fixed.Equals = refl
nth-number fixed.Arrow = refl
nth-number fixed.Not = refl

-- the test tells whether it is this one
pub fixed_is : (z : Fixed) (v : Lexeme) → is_fixed z v ≡ true → v ≡ x.Fixed z
fixed_is z (x.Fixed a) h = ap x.Fixed (sym (nth-number a) ∙ (ap (nth numbered) (eqb-true (number_of a) (number_of z) h) ∙ nth-number z))
fixed_is z _ h = absurd (false≢true h)

-- ---- tokens that complete a text

pub nat_word : plain_word (codes "nat") ≡ Some (ty.Nat, rep.Word)
unfolding plain_word
nat_word = refl

pub array_word : rep_word (codes "array") ≡ Some rep.Array
unfolding rep_word
array_word = refl
