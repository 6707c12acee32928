-- Procedures of sets of bits.
use Rattle.std.proofs.Common.{◌≡◌, ℕ, ◌+◌, ◌*◌, ◌-◌, ◌^◌, ◌/◌, ◌%◌, ◌<◌, ◌≤◌, Bool, true, false, [], ◌∷◌, length, replicate, refl, sym, ap, ◌∙◌, subst, arith, append-nil}
use Rattle.std.proofs.Math.Pow.{pow-lt}
use Rattle.std.proofs.lemmas.Bool.{cond-true}
use Rattle.std.proofs.lemmas.Nat.Bits.{shr_and_one}
use Rattle.std.specs.Prelude.{slice_index, slice_set, nat_lt, bit_and, bit_or, bit_xor}
use Rattle.containers.specs.Sets as sets
use Rattle.target_code.specs.declared.tree.Calc.TheVariants.{Shl, Shr}
use Rattle.target_meaning.specs.Leaf.{calc_of, Is}
use Rattle.target_meaning.specs.Piece.{whole, plus}
use Rattle.triple_logic.specs.Blocks.{block}
use Rattle.triple_logic.specs.Copy.{lib_copy, Makes}
use Rattle.triple_logic.proofs.Blocks.{own_new, own_set, own_whole, own_at, reads_own, read_word, apart, adds, subs, flag, lt_on, lt_off}
use Rattle.triple_logic.proofs.Copy.{copy_law}
use Rattle.triple_logic.proofs.Ends.{by_law}
use Rattle.triple_logic.proofs.Sound.{does}
use Rattle.relations.specs.Represents.{Set, one_if}
use Rattle.op_base.specs.Library.{Gives}
use Rattle.op_bits.specs.Bits.{HasBits, GivesBits, empty_text, bits_empty, EmptyLaw, has_text, bits_has, HasLaw, insert_text, bits_insert, InsertLaw, remove_text, bits_remove, RemoveLaw, copy_text, bits_copy, CopyLaw}
use Rattle.op_bits.proofs.Words.{word_of, bit_on, bit_off, with_bit, without_bit, mask_on, mask_off, insert_there, remove_missing, len_more, len_less}

shifts : (w j : ℕ) → j < 64 → calc_of Shr w j ≡ Is (w / 2 ^ j)
shifts w j lt = cond-true (nat_lt j 64) _ _ (let e : nat_lt j 64 ≡ true = grind (arith, lt) in e)

shift_one : (j : ℕ) → j < 64 → calc_of Shl 1 j ≡ Is (2 ^ j)
shift_one j lt =
    cond-true (nat_lt j 64) _ _ (let e : nat_lt j 64 ≡ true = grind (arith, lt) in e) ∙
    ap Is (let p : 2 ^ j < 2 ^ 64 = pow-lt lt in let e : 1 * 2 ^ j % 2 ^ 64 ≡ 2 ^ j = omega (arith, p) in e)

pub empty_law : EmptyLaw
empty_law T u w a k small le =
    does T 6 bits_empty empty_text refl (Makes (λ x. x ∷ 0 ∷ []) (replicate ((u + 63) / 64) 0) k a) (w ∷ a) (u ∷ []) k
    (λ h hs. (
      u + 63,
      adds u 63 _ refl (omega (arith, small)),
      (
        (u + 63) / 64,
        refl,
        (omega arith, (le, λ x free. (plus (block x (replicate ((u + 63) / 64) 0)) k, own_new k x ((u + 63) / 64) free, λ g hg. (omega arith, λ g' hg'. (x, refl, refl, refl))))),
      ),
    ))

not_there : (s : Set) (u x : ℕ) → ((y : ℕ) → sets.contains s y ≡ true → y < u) → u ≤ x → one_if (sets.contains s x) ≡ 0
not_there s u x below le = at (sets.contains s x) refl
  where
    at : (b : Bool) → sets.contains s x ≡ b → one_if b ≡ 0
    at true e = absurd (let f : ⊥ = omega (arith, below x e, le) in f)
    at false e = refl

pub has_law : HasLaw
has_law T u b n x a ws s p r bs =
    does T 10 bits_has has_text refl (Gives a (one_if (sets.contains s x) ∷ []) p) a (u ∷ b ∷ n ∷ x ∷ []) p
    (λ h hs. (
      flag (nat_lt x u),
      refl,
      (
        λ o.
            let lt = word_of u x (length ws) bs.size (lt_on x u o) in
            let w = read_word b 0 ws p (x / 64) (x / 64) r lt (omega arith) in
            let j : x % 64 < 64 = omega arith in (
              x % 64,
              refl,
              (
                x / 64,
                refl,
                (
                  slice_index ws (x / 64),
                  w.0,
                  w.1,
                  (
                    slice_index ws (x / 64) / 2 ^ (x % 64),
                    shifts _ (x % 64) j,
                    (one_if (sets.contains s x), ap Is (shr_and_one (slice_index ws (x / 64)) (x % 64) ∙ bs.bits x lt), (omega arith, λ g hg. (tt, refl, refl, refl))),
                  ),
                ),
              ),
            ),
        λ z. (omega arith, λ g hg. (tt, refl, ap (λ y. y ∷ []) (z ∙ sym (not_there s u x bs.bounded (lt_off x u z))), refl)),
      ),
    ))

pub insert_law : InsertLaw
insert_law T u b x a ws s k lt small bs =
    does T 12 bits_insert insert_text refl (GivesBits u (sets.insert s x) b k a) a (u ∷ b ∷ sets.len s ∷ x ∷ []) (plus (block b ws) k)
    (λ h hs.
    let li = word_of u x (length ws) bs.size lt in
    let free = apart b ws k h hs in (
      x % 64,
      refl,
      (
        x / 64,
        refl,
        (
          2 ^ (x % 64),
          shift_one (x % 64) (omega arith),
          (
            slice_index ws (x / 64),
            whole - 1,
            own_at b ws k free (x / 64) li,
            (
              bit_and (slice_index ws (x / 64)) (2 ^ (x % 64)),
              refl,
              (
                λ o. let e = insert_there s x (mask_on u x s ws bs lt o) in
                    (omega arith, λ g hg. ((ws, subst (λ y. HasBits u y ws) (sym e) bs), refl, ap (λ y. b ∷ sets.len y ∷ []) (sym e), refl)),
                λ o. (
                  bit_or (slice_index ws (x / 64)) (2 ^ (x % 64)),
                  refl,
                  (
                    plus (block b (slice_set ws (x / 64) (bit_or (slice_index ws (x / 64)) (2 ^ (x % 64))))) k,
                    own_whole b ws k free (x / 64) li,
                    own_set b ws k free (x / 64) _ li,
                    (
                      sets.len s + 1,
                      adds (sets.len s) 1 _ refl (omega (arith, small)),
                      (omega arith, λ g hg. ((slice_set ws (x / 64) (bit_or (slice_index ws (x / 64)) (2 ^ (x % 64))), with_bit u x s ws bs lt), refl, ap (λ y. b ∷ y ∷ []) (sym (len_more s x (mask_off u x s ws bs lt o))), refl)),
                    ),
                  ),
                ),
              ),
            ),
          ),
        ),
      ),
    )
    )

pub remove_law : RemoveLaw
remove_law T u b x a ws s k found small bs =
    does T 22 bits_remove remove_text refl (GivesBits u (sets.remove s x) b k a) a (u ∷ b ∷ sets.len s ∷ x ∷ []) (plus (block b ws) k)
    (λ h hs.
    let free = apart b ws k h hs in (
      bits_has,
      found,
      10,
      omega arith,
      by_law T (Unit {0}) _ _ _ _ _ _ _ _ (has_law T u b (sets.len s) x a ws s (plus (block b ws) k) (reads_own b ws k free) bs)
          (λ o g hg. (
            λ on.
                let e : sets.contains s x ≡ true = bit_on (sets.contains s x) on in
                let lt = bs.bounded x e in
                let li = word_of u x (length ws) bs.size lt in (
                  x % 64,
                  refl,
                  (
                    x / 64,
                    refl,
                    (
                      2 ^ (x % 64),
                      shift_one (x % 64) (omega arith),
                      (
                        slice_index ws (x / 64),
                        whole - 1,
                        own_at b ws k free (x / 64) li,
                        (
                          bit_xor (slice_index ws (x / 64)) (2 ^ (x % 64)),
                          refl,
                          (
                            plus (block b (slice_set ws (x / 64) (bit_xor (slice_index ws (x / 64)) (2 ^ (x % 64))))) k,
                            own_whole b ws k free (x / 64) li,
                            own_set b ws k free (x / 64) _ li,
                            (
                              sets.len (sets.remove s x),
                              subs (sets.len s) 1 _ (len_less s x e) (omega (arith, small)),
                              (omega arith, λ g' hg'. ((slice_set ws (x / 64) (bit_xor (slice_index ws (x / 64)) (2 ^ (x % 64))), without_bit u x s ws bs lt e), refl, refl, refl)),
                            ),
                          ),
                        ),
                      ),
                    ),
                  ),
                ),
            λ off.
                let e = remove_missing s x (bit_off (sets.contains s x) off) in
                (omega arith, λ g' hg'. ((ws, subst (λ y. HasBits u y ws) (sym e) bs), refl, ap (λ y. b ∷ sets.len y ∷ []) (sym e), refl)),
          )),
    ))

pub copy_words_law : CopyLaw
copy_words_law T u b n w a ws k found small r size le =
    does T (6 * length ws + 12) bits_copy copy_text refl (Makes (λ x. x ∷ n ∷ []) ws k a) (w ∷ a) (u ∷ b ∷ n ∷ []) k
    (λ h hs. (
      u + 63,
      adds u 63 _ refl (omega (arith, small)),
      (
        length ws,
        ap Is (sym size),
        (
          lib_copy,
          found,
          6 * length ws + 6,
          omega arith,
          by_law T ℕ _ _ _ _ _ _ _ _ (copy_law T b 0 (length ws) 0 w a ws k r (omega arith) le)
              (λ x g hg. (omega arith, λ g' hg'. (x, refl, refl, ap (λ z. plus (block x z) k) (append-nil ws)))),
        ),
      ),
    ))
