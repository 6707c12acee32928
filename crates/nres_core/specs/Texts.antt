-- The grammar of whole texts; the specification text and the `with` text over bytes, and what begins some text.
use Rattle.std.specs.Prelude.{◌≡◌, ℕ, suc, ◌≤◌, Bool, true, false, List, [], ◌∷◌, ◌++◌, take, length, Some, codes}
use Rattle.std.specs.FinMap as maps
use Rattle.std.specs.FinSet as sets
use Rattle.std.specs.Ordering.{nat_cmp}
use Rattle.target_code.specs.declared.tree.Rep.{Rep}
use Rattle.target_code.specs.declared.tree.Rep.TheVariants as rep
use Rattle.containers.specs.Bag.{bag_of}
use Rattle.nres_core.specs.Grammar.{IsRep, IsBlock}
use Rattle.nres_core.specs.Tokens.{Lexes, first}
use Rattle.nres_core.specs.Vocabulary.{Tok, all_seen, word, sign, name, number, place_of, plain_word, type_word, truth_word}
use Rattle.nres_core.specs.declared.place.Place.{Place}
use Rattle.nres_core.specs.declared.token.Token.{Token}
use Rattle.nres_core.specs.declared.tree.Block.{Block}
use Rattle.nres_core.specs.declared.tree.Fun.{Fun}
use Rattle.nres_core.specs.declared.tree.Param.{Param}
use Rattle.nres_core.specs.declared.tree.Shown.{Shown}
use Rattle.nres_core.specs.declared.tree.Spec.{Spec}
use Rattle.nres_core.specs.declared.tree.With.{With}
use Rattle.nres_core.specs.declared.ty.Ty.{Ty}
use Rattle.nres_core.specs.declared.ty.Ty.TheVariants as ty
use Rattle.nres_core.specs.declared.value.Value.{Value}
use Rattle.nres_core.specs.declared.value.Value.TheVariants as v

-- ---- parameters and what is shown; the truth value says whether slices may stand

-- a container with its representation: type "as" rep, or "list" "as" "slice"
pub data IsContainer : Bool → List Tok → List Tok → Shown → Type 0 where
  container : {b : Bool} {ts rest : List Tok} {p q : Place} {w : List ℕ} {t : Ty} {x : Rep}
      → type_word w ≡ Some t → IsRep ts rest x
      → IsContainer b (word w p ∷ word (codes "as") q ∷ ts) rest (record { ty = t; rep = x; rep_place = place_of ts })
  slice : {rest : List Tok} {p q s : Place}
      → IsContainer true (word (codes "list") p ∷ word (codes "as") q ∷ word (codes "slice") s ∷ rest) rest (record { ty = ty.List; rep = rep.Slice; rep_place = s })

-- one = "nat" | "bool" | type "as" rep
pub data IsOne : Bool → List Tok → List Tok → Shown → Type 0 where
  plain : {b : Bool} {rest : List Tok} {p : Place} {w : List ℕ} {t : Ty} {x : Rep}
      → plain_word w ≡ Some (t, x) → IsOne b (word w p ∷ rest) rest (record { ty = t; rep = x; rep_place = p })
  held : {b : Bool} {ts rest : List Tok} {x : Shown} → IsContainer b ts rest x → IsOne b ts rest x

abbrev pub param : List ℕ → Place → Shown → Bool → Param
param x p s kept = record { name = x; place = p; ty = s.ty; rep = s.rep; rep_place = s.rep_place; kept = kept }

-- param = name ":" ("nat" | "bool" | type "as" rep "kept"?)
pub data IsParam : Bool → List Tok → List Tok → Param → Type 0 where
  given : {b : Bool} {ts rest : List Tok} {p q : Place} {x : List ℕ} {s : Shown}
      → IsOne b ts rest s → IsParam b (name x p ∷ sign (codes ":") q ∷ ts) rest (param x p s false)
  kept : {b : Bool} {ts rest : List Tok} {p q t : Place} {x : List ℕ} {s : Shown}
      → IsContainer b ts (word (codes "kept") t ∷ rest) s → IsParam b (name x p ∷ sign (codes ":") q ∷ ts) rest (param x p s true)

-- param ("," param)* ")"
pub data AreMoreParams : Bool → List Tok → List Tok → List Param → Type 0 where
  last_param : {b : Bool} {ts rest : List Tok} {q : Place} {x : Param}
      → IsParam b ts (sign (codes ")") q ∷ rest) x → AreMoreParams b ts rest (x ∷ [])
  another_param : {b : Bool} {ts mid rest : List Tok} {q : Place} {x : Param} {xs : List Param}
      → IsParam b ts (sign (codes ",") q ∷ mid) x → AreMoreParams b mid rest xs → AreMoreParams b ts rest (x ∷ xs)

-- "(" (param ("," param)*)? ")"
pub data AreParams : Bool → ℕ → List Tok → List Tok → List Param → Type 0 where
  no_param : {b : Bool} {r : ℕ} {rest : List Tok} {p q : Place} → AreParams b (suc r) (sign (codes "(") p ∷ sign (codes ")") q ∷ rest) rest []
  params : {b : Bool} {r : ℕ} {ts rest : List Tok} {p : Place} {xs : List Param}
      → AreMoreParams b ts rest xs → AreParams b (suc r) (sign (codes "(") p ∷ ts) rest xs

-- one ("," one)* ")"
pub data AreMoreShown : Bool → List Tok → List Tok → List Shown → Type 0 where
  last_shown : {b : Bool} {ts rest : List Tok} {q : Place} {x : Shown}
      → IsOne b ts (sign (codes ")") q ∷ rest) x → AreMoreShown b ts rest (x ∷ [])
  another_shown : {b : Bool} {ts mid rest : List Tok} {q : Place} {x : Shown} {xs : List Shown}
      → IsOne b ts (sign (codes ",") q ∷ mid) x → AreMoreShown b mid rest xs → AreMoreShown b ts rest (x ∷ xs)

-- shown = one | "(" one ("," one)+ ")"
pub data AreShown : Bool → ℕ → List Tok → List Tok → List Shown → Type 0 where
  one_shown : {b : Bool} {r : ℕ} {ts rest : List Tok} {x : Shown} → IsOne b ts rest x → AreShown b r ts rest (x ∷ [])
  several_shown : {b : Bool} {r : ℕ} {ts mid rest : List Tok} {p q : Place} {x : Shown} {xs : List Shown}
      → IsOne b ts (sign (codes ",") q ∷ mid) x → AreMoreShown b mid rest xs → AreShown b (suc r) (sign (codes "(") p ∷ ts) rest (x ∷ xs)

-- ---- values

-- number ("," number)*, up to a closing bracket
pub data AreNumbers : List ℕ → List Tok → List Tok → List ℕ → Type 0 where
  last_number : {z : List ℕ} {rest : List Tok} {p q : Place} {n : ℕ} {d : List ℕ} → AreNumbers z (number n d p ∷ sign z q ∷ rest) rest (n ∷ [])
  another_number : {z : List ℕ} {ts rest : List Tok} {p q : Place} {n : ℕ} {d : List ℕ} {ns : List ℕ}
      → AreNumbers z ts rest ns → AreNumbers z (number n d p ∷ sign (codes ",") q ∷ ts) rest (n ∷ ns)

-- numbers? and a closing bracket
pub data AreMembers : List ℕ → List Tok → List Tok → List ℕ → Type 0 where
  no_member : {z : List ℕ} {rest : List Tok} {q : Place} → AreMembers z (sign z q ∷ rest) rest []
  members : {z : List ℕ} {ts rest : List Tok} {ns : List ℕ} → AreNumbers z ts rest ns → AreMembers z ts rest ns

-- pair ("," pair)* "}"
pub data ArePairs : List Tok → List Tok → List (ℕ × ℕ) → Type 0 where
  last_pair : {rest : List Tok} {p q s t : Place} {k x : ℕ} {d e : List ℕ}
      → ArePairs (number k d p ∷ sign (codes ":") q ∷ number x e s ∷ sign (codes "}") t ∷ rest) rest ((k, x) ∷ [])
  another_pair : {ts rest : List Tok} {p q s t : Place} {k x : ℕ} {d e : List ℕ} {es : List (ℕ × ℕ)}
      → ArePairs ts rest es → ArePairs (number k d p ∷ sign (codes ":") q ∷ number x e s ∷ sign (codes ",") t ∷ ts) rest ((k, x) ∷ es)

-- a later pair for a key wins
abbrev pub put_all : maps.FinMap nat_cmp ℕ → List (ℕ × ℕ) → maps.FinMap nat_cmp ℕ
put_all m [] = m
put_all m (e ∷ es) = put_all (maps.insert m e.0 e.1) es

-- value = number | "true" | "false" | "[" numbers? "]" | "{" numbers? "}" | "bag" "[" numbers? "]" | "{" ":" "}" | "{" pair ("," pair)* "}"
pub data IsValue : List Tok → List Tok → Value → Type 0 where
  a_number : {rest : List Tok} {p : Place} {n : ℕ} {d : List ℕ} → IsValue (number n d p ∷ rest) rest (v.Nat n)
  a_truth : {rest : List Tok} {p : Place} {w : List ℕ} {b : Bool} → truth_word w ≡ Some b → IsValue (word w p ∷ rest) rest (v.Bool b)
  a_list : {ts rest : List Tok} {p : Place} {ns : List ℕ} → AreMembers (codes "]") ts rest ns → IsValue (sign (codes "[") p ∷ ts) rest (v.List ns)
  a_set : {ts rest : List Tok} {p : Place} {ns : List ℕ}
      → AreMembers (codes "}") ts rest ns → IsValue (sign (codes "{") p ∷ ts) rest (v.Set (sets.from_list ns))
  a_bag : {ts rest : List Tok} {p q : Place} {ns : List ℕ}
      → AreMembers (codes "]") ts rest ns → IsValue (word (codes "bag") p ∷ sign (codes "[") q ∷ ts) rest (v.Bag (bag_of ns))
  no_pair : {rest : List Tok} {p q s : Place} → IsValue (sign (codes "{") p ∷ sign (codes ":") q ∷ sign (codes "}") s ∷ rest) rest (v.Map maps.empty)
  a_map : {ts rest : List Tok} {p : Place} {es : List (ℕ × ℕ)} → ArePairs ts rest es → IsValue (sign (codes "{") p ∷ ts) rest (v.Map (put_all maps.empty es))

-- with = "with" name "=" value, any number of times, up to the end
pub data AreWiths : List Tok → List With → Type 0 where
  no_with : AreWiths [] []
  gives : {ts rest : List Tok} {p q s : Place} {x : List ℕ} {y : Value} {ws : List With}
      → IsValue ts rest y → AreWiths rest ws
      → AreWiths (word (codes "with") p ∷ name x q ∷ sign (codes "=") s ∷ ts) (record { name = x; place = q; value = y } ∷ ws)

-- ---- whole texts

-- spec = "spec" name "(" (param ("," param)*)? ")" ":" shown block "end"
pub data IsSpec : ℕ → ℕ → List Tok → List Tok → List Fun → Spec → Type 0 where
  spec : {l r : ℕ} {ts a b rest : List Tok} {p q s t : Place} {x : List ℕ} {xs : List Param} {ys : List Shown} {z : Block} {fs : List Fun}
      → AreParams false r ts (sign (codes ":") s ∷ a) xs → AreShown false r a b ys → IsBlock l r b (word (codes "end") t ∷ rest) z
      → IsSpec l (suc r) (word (codes "spec") p ∷ name x q ∷ ts) rest fs (record { name = x; params = xs; shown = ys; body = z; funs = fs })

-- fun = "fun" name "(" (fparam ("," fparam)*)? ")" ":" fshown block "end", any number of times
pub data AreFuns : ℕ → ℕ → List Tok → List Tok → List Fun → Type 0 where
  no_fun : {l r : ℕ} {rest : List Tok} → AreFuns l r rest rest []
  fun : {l r : ℕ} {ts a b c rest : List Tok} {p q s t : Place} {x : List ℕ} {xs : List Param} {ys : List Shown} {z : Block} {fs : List Fun}
      → AreParams true r ts (sign (codes ":") s ∷ a) xs → AreShown true r a b ys → IsBlock l r b (word (codes "end") t ∷ c) z
      → AreFuns l (suc r) c rest fs
      → AreFuns l (suc r) (word (codes "fun") p ∷ name x q ∷ ts) rest (record { name = x; place = q; params = xs; shown = ys; body = z } ∷ fs)

-- file = spec fun* with*
pub data IsFile : ℕ → ℕ → List Tok → Spec → List With → Type 0 where
  file : {l r : ℕ} {ts a b : List Tok} {fs : List Fun} {p : Spec} {ws : List With}
      → IsSpec l r ts a fs p → AreFuns l r a b fs → AreWiths b ws → IsFile l r ts p ws

-- 1,000 operators of an expression, and 64 open blocks and brackets
abbrev pub operators : ℕ
operators = 1000

abbrev pub open_at_once : ℕ
open_at_once = 64

-- the bytes are the text of a specification with values for its parameters
abbrev pub SpecText : List ℕ → Spec → List With → Type 0
SpecText bytes p ws = (ts : List Token) × Lexes 0 first bytes ts × IsFile operators open_at_once (all_seen bytes ts) p ws

-- the bytes, whose first line has this number, are values for parameters
abbrev pub WithText : ℕ → List ℕ → List With → Type 0
WithText line bytes ws = (ts : List Token) × Lexes 0 (record { line = line; column = 1 }) bytes ts × AreWiths (all_seen bytes ts) ws

-- these tokens begin some text; some text with whatever limits
abbrev pub Begins : ℕ → ℕ → List Tok → Type 0
Begins l r ts = (more : List Tok) × (p : Spec) × (ws : List With) × IsFile l r (ts ++ more) p ws

abbrev pub BeginsText : List Tok → Type 0
BeginsText ts = Begins operators open_at_once ts

abbrev pub BeginsUnlimited : List Tok → Type 0
BeginsUnlimited ts = (l : ℕ) × (r : ℕ) × Begins l r ts

abbrev pub BeginsWiths : List Tok → Type 0
BeginsWiths ts = (more : List Tok) × (ws : List With) × AreWiths (ts ++ more) ws

-- the token behind the first k is the first that no text goes on with; it is too deep where only the limits refuse it
abbrev pub StopsBehind : List Tok → ℕ → Type 0
StopsBehind ts k = (suc k ≤ length ts) × BeginsText (take k ts) × ¬ BeginsText (take (suc k) ts)

abbrev pub IsTooDeep : List Tok → ℕ → Type 0
IsTooDeep ts k = StopsBehind ts k × BeginsUnlimited (take (suc k) ts)
