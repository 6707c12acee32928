-- What stands in the words of a block: the set or map of its keys, and whether its words are a layout at all.
use Rattle.std.specs.Prelude.{ℕ, zero, suc, ◌+◌, ◌-◌, ◌*◌, ◌/◌, ◌%◌, ◌^◌, Bool, true, false, not, ◌&&◌, ◌||◌, List, length, nat_lt, nat_le, ◌==◌, if◌then◌else◌, slice_index}
use Rattle.std.specs.FinMap as maps
use Rattle.std.specs.Int.{bit_at}
use Rattle.containers.specs.Sets as sets
use Rattle.relations.specs.Represents.{Set, Map, count, state, key, value, is_full, is_used}

-- all numbers below n pass a test
abbrev pub every : (ℕ → Bool) → ℕ → Bool
every test zero = true
every test (suc n) = test n && every test n

-- some number below n passes a test
abbrev pub some : (ℕ → Bool) → ℕ → Bool
some test zero = false
some test (suc n) = test n || some test n

-- fewer than 2^32 elements
abbrev pub is_small : ℕ → Bool
is_small n = nat_lt n (2 ^ 32)

-- ---- lists and multisets

-- so many words in front of a block that has room
abbrev pub in_front : ℕ → ℕ → List ℕ → Bool
in_front len cap ws = cap == length ws && (nat_le 1 cap && (nat_le len cap && is_small len))

-- a word is at least the one at half its index, or the first
abbrev pub in_order : List ℕ → ℕ → Bool
in_order ws i = i == 0 || nat_le (slice_index ws ((i - 1) / 2)) (slice_index ws i)

-- so many words are in heap order
abbrev pub is_heap : ℕ → List ℕ → Bool
is_heap len ws = every (in_order ws) len

-- ---- sets and maps below a bound

abbrev pub has_bit : List ℕ → ℕ → Bool
has_bit ws x = bit_at (slice_index ws (x / 64)) (x % 64) == 1

-- the numbers below n whose bit is 1
abbrev pub bits_below : List ℕ → ℕ → Set
bits_below ws zero = sets.empty
bits_below ws (suc x) = if has_bit ws x then sets.insert (bits_below ws x) x else bits_below ws x

-- no bit of a block from u on is 1
abbrev pub bounded_bits : ℕ → List ℕ → Bool
bounded_bits u ws = every (λ x. not (has_bit ws x) || nat_lt x u) (64 * length ws)

-- the numbers below n whose mark is 1, each with its value
abbrev pub marks_below : List ℕ → ℕ → Map
marks_below ws zero = maps.empty
marks_below ws (suc k) = if slice_index ws (2 * k) == 1 then maps.insert (marks_below ws k) k (slice_index ws (2 * k + 1)) else marks_below ws k

-- each mark is 0 or 1
abbrev pub are_marks : ℕ → List ℕ → Bool
are_marks u ws = every (λ k. nat_le (slice_index ws (2 * k)) 1) u

-- ---- hash tables: slots of w words

-- the keys of the first full slots
abbrev pub slot_keys : ℕ → List ℕ → ℕ → Set
slot_keys w ws zero = sets.empty
slot_keys w ws (suc i) = if is_full w ws i then sets.insert (slot_keys w ws i) (key w ws i) else slot_keys w ws i

-- with their values
abbrev pub slot_entries : List ℕ → ℕ → Map
slot_entries ws zero = maps.empty
slot_entries ws (suc i) = if is_full 3 ws i then maps.insert (slot_entries ws i) (key 3 ws i) (value 3 ws i) else slot_entries ws i

-- how many slots before slot j are not empty, with no empty one between; after the last slot comes the first again
abbrev pub run : ℕ → ℕ → List ℕ → ℕ → ℕ
run w cap ws zero = 0
run w cap ws (suc j) = if state w ws (j % cap) == 0 then 0 else suc (run w cap ws j)

-- how far slot i is behind the home of x
abbrev pub behind : ℕ → ℕ → ℕ → ℕ
behind cap i x = (i + cap - x % cap) % cap

-- a slot has a state, and where it is full its key is reached
abbrev pub is_slot : ℕ → ℕ → List ℕ → ℕ → Bool
is_slot w cap ws i = nat_le (state w ws i) 2 && (not (is_full w ws i) || nat_le (behind cap i (key w ws i)) (run w cap ws (cap + i)))

abbrev pub is_size : ℕ → ℕ → Bool
is_size cap e = 8 * 2 ^ e == cap

-- a power of two from 8 below 2^64
abbrev pub is_capacity : ℕ → Bool
is_capacity cap = some (is_size cap) 61

-- a table of these numbers of slots, full slots, and slots that are full or gone
abbrev pub is_table : ℕ → ℕ → ℕ → ℕ → List ℕ → Bool
is_table w cap n used ws =
    is_capacity cap && (length ws == w * cap && (every (is_slot w cap ws) cap && (n == count (is_full w ws) cap && (used == count (is_used w ws) cap && nat_lt used cap))))
