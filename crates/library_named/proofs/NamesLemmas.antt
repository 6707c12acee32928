-- By cases over the names.
use Rattle.std.proofs.Common.{refl}
use Rattle.lib_names.specs.Names.{lib_word}
use Rattle.library_named.specs.Laws.{IsNamed}
use Rattle.nres_core.specs.declared.row.LibName.TheVariants as l

pub library_is_named : IsNamed
unfolding lib_word
library_is_named l.ArrayZeros = refl
library_is_named l.ArrayGet = refl
library_is_named l.ArraySet = refl
library_is_named l.ArraySwap = refl
library_is_named l.ArrayCopy = refl
library_is_named l.VecNil = refl
library_is_named l.VecGet = refl
library_is_named l.VecSet = refl
library_is_named l.VecSwap = refl
library_is_named l.VecPush = refl
library_is_named l.VecPop = refl
library_is_named l.VecCopy = refl
library_is_named l.BitsEmpty = refl
library_is_named l.BitsHas = refl
library_is_named l.BitsInsert = refl
library_is_named l.BitsRemove = refl
library_is_named l.BitsPick = refl
library_is_named l.BitsUnion = refl
library_is_named l.BitsElems = refl
library_is_named l.BitsCopy = refl
library_is_named l.HsetEmpty = refl
library_is_named l.HsetHas = refl
library_is_named l.HsetInsert = refl
library_is_named l.HsetRemove = refl
library_is_named l.HsetPick = refl
library_is_named l.HsetElems = refl
library_is_named l.HsetCopy = refl
library_is_named l.AmapEmpty = refl
library_is_named l.AmapHas = refl
library_is_named l.AmapLookup = refl
library_is_named l.AmapPut = refl
library_is_named l.AmapDel = refl
library_is_named l.AmapKeys = refl
library_is_named l.AmapCopy = refl
library_is_named l.HmapEmpty = refl
library_is_named l.HmapHas = refl
library_is_named l.HmapLookup = refl
library_is_named l.HmapPut = refl
library_is_named l.HmapDel = refl
library_is_named l.HmapKeys = refl
library_is_named l.HmapCopy = refl
library_is_named l.HeapEmpty = refl
library_is_named l.HeapAdd = refl
library_is_named l.HeapMinimum = refl
library_is_named l.HeapTakeMin = refl
library_is_named l.HeapCopy = refl
