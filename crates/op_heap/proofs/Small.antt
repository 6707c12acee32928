-- The procedures of heaps that have no loop.
use Rattle.std.proofs.Common.{ℕ, suc, ◌+◌, ◌*◌, [], ◌∷◌, ◌++◌, length, replicate, refl, arith}
use Rattle.containers.specs.Bag.{bag_of}
use Rattle.target_meaning.specs.Piece.{plus}
use Rattle.triple_logic.specs.Weakest.{Ended}
use Rattle.triple_logic.specs.Blocks.{block}
use Rattle.triple_logic.specs.Copy.{lib_copy, Makes}
use Rattle.triple_logic.proofs.Ends.{by_law}
use Rattle.triple_logic.proofs.Sound.{does}
use Rattle.triple_logic.proofs.Copy as copies
use Rattle.triple_logic.proofs.Blocks.{own_new, read_word}
use Rattle.op_heap.specs.Heap.{empty_text, heap_empty, EmptyLaw, minimum_text, heap_minimum, Least, MinimumLaw, copy_text, heap_copy, CopyLaw}
use Rattle.op_heap.proofs.Bags.{root_least, least_first}

pub empty_law : EmptyLaw
empty_law T w ws k le =
    does T 3 heap_empty empty_text refl (Makes (λ x. x ∷ 0 ∷ 4 ∷ []) (replicate 4 0) k ws) (w ∷ ws) [] k
    (λ h hs. (omega arith, (le, λ x free. (plus (block x (replicate 4 0)) k, own_new k x 4 free, λ g hg. (omega arith, λ g' hg'. (x, refl, refl, refl))))))

pub minimum_law : MinimumLaw
minimum_law T b cap a [] p r some o aw = absurd (let f : ⊥ = omega (arith, some) in f)
minimum_law T b cap a (x ∷ xs) p r some o aw =
    let v = read_word b 0 (x ∷ xs) p 0 0 r some refl in
    does T 2 heap_minimum minimum_text refl (Ended (Least (x ∷ xs)) (λ o. a) (λ o. o.least ∷ []) (λ o. p)) a (b ∷ length (x ∷ xs) ∷ cap ∷ []) p
    (λ h hs. (x, v.0, v.1, (omega arith, λ g hg. (record { least = x; others = (bag_of xs).list; first = least_first 0 x xs (root_least (suc (length xs)) (x ∷ xs) o); is_word = aw 0 some }, refl, refl, refl))))

pub copy_law : CopyLaw
copy_law T b cap pad w ws xs k found r e le =
    does T (6 * length xs + 8) heap_copy copy_text refl (Makes (λ x. x ∷ length xs ∷ cap ∷ []) (xs ++ replicate pad 0) k ws) (w ∷ ws) (b ∷ length xs ∷ cap ∷ []) k
    (λ h hs. (
      lib_copy,
      found,
      6 * length xs + 6,
      omega arith,
      by_law T ℕ _ _ _ _ _ _ _ _ (copies.copy_law T b 0 cap pad w ws xs k r e le) (λ x g hg. (omega arith, λ g' hg'. (x, refl, refl, refl))),
    ))
