-- The words of finite sets of numbers: std's, and the list of a set's numbers. Std's own list tells which numbers there are, and neither
-- their order nor how often each comes.
use Rattle.std.specs.Prelude.{ℕ, List}
use Rattle.std.specs.Ordering.{nat_cmp}
use Rattle.std.specs.FinSet as std_sets
pub use Rattle.std.specs.FinSet.{FinSet, code, empty, contains, insert, remove, union, len, from_list, contains-empty, contains-insert, contains-remove, contains-from_list, contains-union, from_list_push, len-empty, len-insert, same_set, nat_cmp-IsAntisymmetric}
use Rattle.containers.specs.Rising.{rising}

-- the numbers of a set, rising, each once
unfoldable pub items : FinSet nat_cmp → List ℕ
items s = rising (std_sets.items s)
