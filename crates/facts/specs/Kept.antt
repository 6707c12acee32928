-- What is known of a variable, and the calculations of one list of binds among others.
use Rattle.std.specs.Prelude.{ℕ, ◌-◌, nat_eq, nat_lt, Bool, true, cond, List, [], ◌∷◌, length, take, Option, Some, None}
use Rattle.nres_core.specs.declared.place.Place.{Place}
use Rattle.nres_rules.specs.Types.{stands_before}
use Rattle.rule_check.specs.Context.{Fact, Def}
use Rattle.rule_check.specs.Facts.{below, defs_behind}
use Rattle.facts.specs.declared.known.Fact.{Fact as CodeFact}

-- the lower of two bounds
abbrev pub lower : ℕ → Option ℕ → ℕ
lower n None = n
lower n (Some m) = cond (nat_lt m n) m n

-- the least bound that is known of a variable
abbrev pub least : List Fact → ℕ → Option ℕ
least [] v = None
least (e ∷ es) v = cond (nat_eq e.var v) (Some (lower e.bound (least es v))) (least es v)

-- all but the fact that was added last
abbrev pub all_but_last : {A : Type 0} → List A → List A
all_but_last [] = []
all_but_last (x ∷ xs) = xs

-- facts of the code
abbrev pub told_of : List CodeFact → List Fact
told_of [] = []
told_of (x ∷ xs) = below x.var x.bound ∷ told_of xs

-- the newest of a list, of which those from a place on are the newest
abbrev pub since : {A : Type 0} → ℕ → List A → List A
since start xs = take (length xs - start) xs

-- whether a place, where one is given, stands before another
abbrev pub is_behind : Option Place → Place → Bool
is_behind None q = true
is_behind (Some p) q = stands_before p q

-- the calculations behind a place, or all
abbrev pub defs_from : Option Place → List Def → List Def
defs_from None ds = ds
defs_from (Some p) ds = defs_behind p ds
