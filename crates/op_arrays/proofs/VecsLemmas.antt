-- Procedures of vecs.
use Rattle.std.proofs.Common.{ℕ, suc, ◌+◌, ◌*◌, ◌-◌, ◌<◌, [], ◌∷◌, ◌++◌, length, replicate, refl, arith}
use Rattle.std.proofs.lemmas.List.{length-set}
use Rattle.std.specs.Prelude.{slice_index, slice_set}
use Rattle.target_meaning.specs.Piece.{whole, plus}
use Rattle.triple_logic.specs.Blocks.{block}
use Rattle.triple_logic.specs.Copy.{lib_copy, Makes}
use Rattle.triple_logic.proofs.Blocks.{own_new, own_set, own_whole, own_at, read_word, own_bound, apart, subs}
use Rattle.triple_logic.proofs.Copy.{copy_law}
use Rattle.triple_logic.proofs.Ends.{by_law}
use Rattle.triple_logic.proofs.Sound.{does}
use Rattle.op_base.specs.Library.{Gives}
use Rattle.op_base.specs.Push.{lib_push, VecAt, push_claims, push_rest}
use Rattle.op_base.proofs.PushLemmas.{push_law}
use Rattle.op_arrays.specs.Arrays.{swapped}
use Rattle.op_arrays.specs.Vecs.{nil_text, vec_nil, NilLaw, get_text, vec_get, GetLaw, set_text, vec_set, SetLaw, swap_text, vec_swap, SwapLaw, pop_text, vec_pop, PopLaw, push_text, vec_push, PushLaw, copy_text, vec_copy, CopyLaw, VecLaws}

pub nil_law : NilLaw
nil_law T w a k le =
    does T 3 vec_nil nil_text refl (Makes (λ x. x ∷ 0 ∷ 4 ∷ []) (replicate 4 0) k a) (w ∷ a) [] k
    (λ h hs. (omega arith, (le, λ x free. (plus (block x (replicate 4 0)) k, own_new k x 4 free, λ g hg. (omega arith, λ g' hg'. (x, refl, refl, refl))))))

pub get_law : GetLaw
get_law T b len cap i a ws k lt r =
    let w = read_word b 0 ws k i i r lt (omega arith) in
    does T 2 vec_get get_text refl (Gives a (slice_index ws i ∷ []) k) a (b ∷ len ∷ cap ∷ i ∷ []) k
    (λ h hs. (slice_index ws i, w.0, w.1, (omega arith, λ g hg. (tt, refl, refl, refl))))

pub set_law : SetLaw
set_law T b len cap i v a ws k lt =
    does T 2 vec_set set_text refl (Gives a (b ∷ len ∷ cap ∷ []) (plus (block b (slice_set ws i v)) k)) a (b ∷ len ∷ cap ∷ i ∷ v ∷ []) (plus (block b ws) k)
    (λ h hs.
    let free = apart b ws k h hs in
    (plus (block b (slice_set ws i v)) k, own_whole b ws k free i lt, own_set b ws k free i v lt, (omega arith, λ g hg. (tt, refl, refl, refl))))

pub swap_law : SwapLaw
swap_law T b len cap i j a ws k li lj =
    let ln : j < length (slice_set ws i (slice_index ws j)) = omega (arith, lj, length-set ws i (slice_index ws j)) in
    does T 5 vec_swap swap_text refl (Gives a (b ∷ len ∷ cap ∷ []) (plus (block b (swapped ws i j)) k)) a (b ∷ len ∷ cap ∷ i ∷ j ∷ []) (plus (block b ws) k)
    (λ h hs.
    let free = apart b ws k h hs in (
      slice_index ws i,
      whole - 1,
      own_at b ws k free i li,
      (
        slice_index ws j,
        whole - 1,
        own_at b ws k free j lj,
        (
          plus (block b (slice_set ws i (slice_index ws j))) k,
          own_whole b ws k free i li,
          own_set b ws k free i (slice_index ws j) li,
          (
            plus (block b (swapped ws i j)) k,
            own_whole b (slice_set ws i (slice_index ws j)) k free j ln,
            own_set b (slice_set ws i (slice_index ws j)) k free j (slice_index ws i) ln,
            (omega arith, λ g hg. (tt, refl, refl, refl)),
          ),
        ),
      ),
    ))

pub pop_law : PopLaw
pop_law T b n cap a ws k lt =
    does T 4 vec_pop pop_text refl (Gives a (slice_index ws n ∷ b ∷ n ∷ cap ∷ []) (plus (block b ws) k)) a (b ∷ suc n ∷ cap ∷ []) (plus (block b ws) k)
    (λ h hs. (
      n,
      subs (suc n) 1 n (omega arith) (omega (arith, lt, own_bound b ws k h hs)),
      (slice_index ws n, whole - 1, own_at b ws k (apart b ws k h hs) n lt, (omega arith, λ g hg. (tt, refl, refl, refl))),
    ))

-- ---- one element more

pub vec_push_law : PushLaw
vec_push_law T b v a xs rest k found push lt some =
    does T (6 * length xs + 18) vec_push push_text refl (VecAt (xs ++ v ∷ []) (push_rest rest xs) k a) (push_claims (length xs) rest a) (b ∷ length xs ∷ length (xs ++ rest) ∷ v ∷ []) (plus (block b (xs ++ rest)) k)
    (λ h hs. (
      lib_push,
      push,
      6 * length xs + 16,
      omega arith,
      by_law T ℕ _ _ _ _ _ _ _ _ (push_law T b v a xs rest k found lt some)
          (λ x g hg. (omega arith, λ g' hg'. (x, refl, refl, refl))),
    ))

pub copy_elements_law : CopyLaw
copy_elements_law T b cap pad w a xs k found r e le =
    does T (6 * length xs + 8) vec_copy copy_text refl (Makes (λ x. x ∷ length xs ∷ cap ∷ []) (xs ++ replicate pad 0) k a) (w ∷ a) (b ∷ length xs ∷ cap ∷ []) k
    (λ h hs. (
      lib_copy,
      found,
      6 * length xs + 6,
      omega arith,
      by_law T ℕ _ _ _ _ _ _ _ _ (copy_law T b 0 cap pad w a xs k r e le)
          (λ x g hg. (omega arith, λ g' hg'. (x, refl, refl, refl))),
    ))

pub vec_laws : VecLaws
vec_laws = record { nil = nil_law; get = get_law; set = set_law; swap = swap_law; pop = pop_law; push = vec_push_law; copy = copy_elements_law }
