-- Which names are reserved, and which names inputs and procedures may have.
use Rattle.std.specs.Prelude.{ℕ, Bool, true, false, not, ◌&&◌, ◌||◌, ◌==◌, nat_le, List, [], ◌∷◌, length, map, codes}
use Rattle.std.specs.List.{list_all, list_any}
use Rattle.std.specs.Str.{bytes_eq}
use Rattle.target_code.specs.declared.name.TheConstants as constants
use Rattle.target_code.specs.Names.{is_name}

-- the words of specifications that name nothing
unfoldable pub reserved_words : List (List ℕ)
reserved_words = map (λ word. word.now) constants.RESERVED

-- a name is one of them
abbrev pub is_reserved : List ℕ → Bool
is_reserved name = list_any (λ word. bytes_eq word name) reserved_words

-- `fun`, `call` and `slice` may name an input of a program
abbrev pub is_late : List ℕ → Bool
is_late name = bytes_eq name (codes "fun") || bytes_eq name (codes "call") || bytes_eq name (codes "slice")

-- the name of an input is that of a specification, and not reserved
abbrev pub is_input_name : List ℕ → Bool
is_input_name name = is_name name && (not (is_reserved name) || is_late name)

-- a lower-case letter
abbrev pub is_lower : ℕ → Bool
is_lower b = nat_le 97 b && nat_le b 122

-- a lower-case letter, a digit or `_`
abbrev pub is_proc_byte : ℕ → Bool
is_proc_byte b = is_lower b || (nat_le 48 b && nat_le b 57) || b == 95

-- a procedure's name begins with a lower-case letter, and has 1 to 64 bytes
abbrev pub is_proc_name : List ℕ → Bool
is_proc_name [] = false
is_proc_name (b ∷ bs) = is_lower b && nat_le (length bs) 63 && list_all is_proc_byte bs

-- no two elements are equal
abbrev pub are_distinct : {A : Type 0} → (A → A → Bool) → List A → Bool
are_distinct eq [] = true
are_distinct eq (x ∷ xs) = not (list_any (eq x) xs) && are_distinct eq xs
