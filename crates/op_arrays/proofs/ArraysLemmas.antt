-- Procedures of arrays and slices.
use Rattle.std.proofs.Common.{ℕ, ◌+◌, ◌*◌, ◌-◌, ◌<◌, [], ◌∷◌, length, replicate, refl, ap, arith, append-nil}
use Rattle.std.proofs.lemmas.List.{length-set}
use Rattle.std.specs.Prelude.{slice_index, slice_set}
use Rattle.target_meaning.specs.Piece.{whole, plus}
use Rattle.triple_logic.specs.Blocks.{block, range}
use Rattle.triple_logic.specs.Copy.{lib_copy, Makes}
use Rattle.triple_logic.proofs.Blocks.{own_new, reads_bound, read_word, adds}
use Rattle.triple_logic.proofs.Copy.{copy_law}
use Rattle.triple_logic.proofs.Ends.{by_law}
use Rattle.triple_logic.proofs.Ranges.{range_at, range_whole, range_set, range_bound}
use Rattle.triple_logic.proofs.Sound.{does}
use Rattle.op_base.specs.Library.{Gives}
use Rattle.op_arrays.specs.Arrays.{zeros_text, array_zeros, ZerosLaw, get_text, array_get, GetLaw, set_text, array_set, SetLaw, swap_text, array_swap, swapped, SwapLaw, copy_text, array_copy, CopyLaw, ArrayLaws}

pub zeros_law : ZerosLaw
zeros_law T n w a k le =
    does T 2 array_zeros zeros_text refl (Makes (λ x. x ∷ 0 ∷ n ∷ []) (replicate n 0) k a) (w ∷ a) (n ∷ []) k
    (λ h hs. (omega arith, (le, λ x free. (plus (block x (replicate n 0)) k, own_new k x n free, λ g hg. (omega arith, λ g' hg'. (x, refl, refl, refl))))))

pub get_law : GetLaw
get_law T b off i a xs k lt r =
    let w = read_word b off xs k i (off + i) r lt refl in
    does T 3 array_get get_text refl (Gives a (slice_index xs i ∷ []) k) a (b ∷ off ∷ length xs ∷ i ∷ []) k
    (λ h hs. (
      off + i,
      adds off i _ refl (omega (arith, reads_bound b off xs k h i hs r lt)),
      (slice_index xs i, w.0, w.1, (omega arith, λ g hg. (tt, refl, refl, refl))),
    ))

pub set_law : SetLaw
set_law T b off i v a xs lt =
    does T 3 array_set set_text refl (Gives a (b ∷ off ∷ length xs ∷ []) (range b off (slice_set xs i v))) a (b ∷ off ∷ length xs ∷ i ∷ v ∷ []) (range b off xs)
    (λ h hs. (
      off + i,
      adds off i _ refl (omega (arith, range_bound b off xs h i hs lt)),
      (range b off (slice_set xs i v), range_whole b off xs i lt, range_set b off xs i v lt, (omega arith, λ g hg. (tt, refl, refl, refl))),
    ))

pub swap_law : SwapLaw
swap_law T b off i j a xs li lj =
    let x = slice_index xs i in
    let y = slice_index xs j in
    let ln : j < length (slice_set xs i y) = omega (arith, lj, length-set xs i y) in
    does T 7 array_swap swap_text refl (Gives a (b ∷ off ∷ length xs ∷ []) (range b off (swapped xs i j))) a (b ∷ off ∷ length xs ∷ i ∷ j ∷ []) (range b off xs)
    (λ h hs. (
      off + i,
      adds off i _ refl (omega (arith, range_bound b off xs h i hs li)),
      (
        off + j,
        adds off j _ refl (omega (arith, range_bound b off xs h j hs lj)),
        (
          slice_index xs i,
          whole - 1,
          range_at b off xs i li,
          (
            slice_index xs j,
            whole - 1,
            range_at b off xs j lj,
            (
              range b off (slice_set xs i (slice_index xs j)),
              range_whole b off xs i li,
              range_set b off xs i (slice_index xs j) li,
              (
                range b off (swapped xs i j),
                range_whole b off (slice_set xs i (slice_index xs j)) j ln,
                range_set b off (slice_set xs i (slice_index xs j)) j (slice_index xs i) ln,
                (omega arith, λ g hg. (tt, refl, refl, refl)),
              ),
            ),
          ),
        ),
      ),
    ))

pub copy_words_law : CopyLaw
copy_words_law T b off w a xs k found r le =
    does T (6 * length xs + 8) array_copy copy_text refl (Makes (λ x. x ∷ 0 ∷ length xs ∷ []) xs k a) (w ∷ a) (b ∷ off ∷ length xs ∷ []) k
    (λ h hs. (
      lib_copy,
      found,
      6 * length xs + 6,
      omega arith,
      by_law T ℕ _ _ _ _ _ _ _ _ (copy_law T b off (length xs) 0 w a xs k r (omega arith) le)
          (λ x g hg. (omega arith, λ g' hg'. (x, refl, refl, ap (λ z. plus (block x z) k) (append-nil xs)))),
    ))

pub array_laws : ArrayLaws
array_laws = record { zeros = zeros_law; get = get_law; set = set_law; swap = swap_law; copy = copy_words_law }
