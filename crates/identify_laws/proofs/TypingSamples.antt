-- A tree that no text has, seen.
use Rattle.std.proofs.Common.{[], refl}
use Rattle.nres_core.specs.Samples.{at}
use Rattle.nres_core.proofs.Mirrored.{mirrored, id_mirrored}
use Rattle.identify_laws.specs.TypingSamples.{Seen}

pub seen : Seen
seen = record {
  typing = record { binders = []; words = [] };
  has = record { nothing_refused = rw (mirrored.block [] (at 1 1) []) refl; binders = rw (mirrored.block [] (at 1 1) []) refl; words = rw (mirrored.block [] (at 1 1) []) refl };
  identified = record { name = refl; params = refl; shown = refl; body = rw (mirrored.block [] (at 1 1) [], id_mirrored.block [] (at 1 1) []) refl; funs = rw (mirrored.block [] (at 1 1) []) refl };
  not_typed = λ h. (cc);
}
