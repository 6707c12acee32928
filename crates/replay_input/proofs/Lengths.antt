-- How long the parts of an input are.
use Rattle.std.proofs.Common.{ℕ, suc, ◌+◌, ◌≤◌, Bool, true, false, ◌&&◌, if◌then◌else◌, nat_eq, List, [], ◌∷◌, length, arith}
use Rattle.std.proofs.lemmas.List.{length-drop}
use Rattle.replay_lines.specs.Inputs.{begins_part, before_part, feed, feeds, from_part, program_part, values_line, values_part}

less_by : (b : Bool) (n : ℕ) (bs z : List ℕ) → length z ≤ length bs → length (if b then [] else n ∷ z) ≤ suc (length bs)
less_by true n bs z le = omega arith
less_by false n bs z le = omega (arith, le)

-- a part is no longer than what it begins
less_part : (values begins : Bool) (bytes : List ℕ) → length (before_part values begins bytes) ≤ length bytes
less_part values begins [] = omega arith
less_part values begins (b ∷ bs) = less_by (begins && begins_part values (b ∷ bs)) b bs (before_part values (nat_eq b 10) bs) (less_part values (nat_eq b 10) bs)

one_feed : (b : Bool) → (if b then 1 else 0) ≤ 1
one_feed true = omega arith
one_feed false = omega arith

-- bytes have no more line feeds than they are
feeds_few : (bytes : List ℕ) → feeds bytes ≤ length bytes
feeds_few [] = omega arith
feeds_few (b ∷ bs) = let one : feed b ≤ 1 = one_feed (nat_eq b 10) in let few = feeds_few bs in omega (arith, one, few)

pub values_short : (text : List ℕ) → length (values_part text) ≤ length text
values_short text =
    let v = less_part false true (from_part true text) in
    let d = length-drop (length (program_part text)) text in
    omega (arith, v, d)

-- the number of the first line of values and their length
pub values_within : (text : List ℕ) → values_line text + length (values_part text) ≤ length text + 1
values_within text =
    let f = feeds_few (program_part text) in
    let p = less_part true true text in
    let v = less_part false true (from_part true text) in
    let d = length-drop (length (program_part text)) text in
    omega (arith, f, p, v, d)
