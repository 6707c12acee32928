-- Procedures of maps below a bound.
use Rattle.std.proofs.Common.{◌≡◌, ℕ, zero, suc, ◌+◌, ◌*◌, ◌-◌, ◌^◌, ◌<◌, ◌≤◌, Bool, true, false, cond, List, [], ◌∷◌, ◌++◌, length, replicate, refl, sym, ap, ◌∙◌, subst, arith, append-nil}
use Rattle.std.proofs.lemmas.List.{length-append, length-replicate, length-set, nil_from_length}
use Rattle.std.specs.FinMap as maps
use Rattle.std.specs.Option.{is_some}
use Rattle.std.specs.Prelude.{nat_lt, slice_index, slice_set, Option}
use Rattle.target_code.specs.declared.tree.Proc.{Proc}
use Rattle.target_meaning.specs.Piece.{whole, Piece, plus}
use Rattle.triple_logic.specs.Blocks.{block, Reads, Apart}
use Rattle.triple_logic.specs.Copy.{lib_copy, Makes}
use Rattle.triple_logic.specs.Weakest.{Assertion, Meets, turns, wp}
use Rattle.triple_logic.proofs.Blocks.{own_new, own_set, own_whole, own_at, read_word, reads_beside, apart, adds, subs, flag, lt_on, lt_off}
use Rattle.triple_logic.proofs.Copy.{copy_law}
use Rattle.triple_logic.proofs.Ends.{by_law}
use Rattle.triple_logic.proofs.Sound.{does}
use Rattle.relations.specs.Represents.{Map, one_if}
use Rattle.op_base.specs.Library.{Gives}
use Rattle.op_bits.specs.Bits.{union_test}
use Rattle.op_bits.specs.Maps.{HasKeys, GivesMap, empty_text, amap_empty, EmptyLaw, has_text, amap_has, HasLaw, lookup_text, amap_lookup, LookupLaw, put_text, amap_put, PutLaw, del_text, amap_del, DelLaw, keys_turn, keys_text, amap_keys, KeysLaw, copy_text, amap_copy, CopyLaw, MapLaws}
use Rattle.op_bits.proofs.Elems.{filled, word_length}
use Rattle.op_bits.proofs.Members.{members, map_members, members_length, len_keys}
use Rattle.op_bits.proofs.MapWords.{count_put, count_del, with_key, without_key, no_key}
use Rattle.op_bits.proofs.Words.{bit_on, bit_off}

twice : (x : ℕ) → x + x ≡ 2 * x
twice x = omega arith

pub empty_law : EmptyLaw
empty_law T u w a k small le =
    does T 3 amap_empty empty_text refl (Makes (λ x. x ∷ 0 ∷ []) (replicate (2 * u) 0) k a) (w ∷ a) (u ∷ []) k
    (λ h hs. (
      2 * u,
      adds u u _ (twice u) (omega (arith, small)),
      (omega arith, (le, λ x free. (plus (block x (replicate (2 * u) 0)) k, own_new k x (2 * u) free, λ g hg. (omega arith, λ g' hg'. (x, refl, refl, refl))))),
    ))

not_there : (m : Map) (u x : ℕ) → ((y : ℕ) → maps.contains_key m y ≡ true → y < u) → u ≤ x → maps.contains_key m x ≡ false
not_there m u x below le = at (maps.contains_key m x) refl
  where
    at : (b : Bool) → maps.contains_key m x ≡ b → maps.contains_key m x ≡ false
    at true e = absurd (let f : ⊥ = omega (arith, below x e, le) in f)
    at false e = e

mark_of : (u x : ℕ) (m : Map) (ws : List ℕ) → HasKeys u m ws → x < u → 2 * x < length ws
mark_of u x m ws h lt = omega (arith, h.size, lt)

pub has_law : HasLaw
has_law T u b n x a ws m p small r ks =
    does T 5 amap_has has_text refl (Gives a (one_if (maps.contains_key m x) ∷ []) p) a (u ∷ b ∷ n ∷ x ∷ []) p
    (λ h hs. (
      flag (nat_lt x u),
      refl,
      (
        λ o.
            let lt = lt_on x u o in
            let w = read_word b 0 ws p (2 * x) (2 * x) r (mark_of u x m ws ks lt) (omega arith) in (
              2 * x,
              adds x x _ (twice x) (omega (arith, lt, small)),
              (slice_index ws (2 * x), w.0, w.1, (omega arith, λ g hg. (tt, refl, ap (λ y. y ∷ []) (ks.marks x lt), refl))),
            ),
        λ z. (omega arith, λ g hg. (tt, refl, ap (λ y. y ∷ []) (z ∙ sym (ap one_if (not_there m u x ks.bounded (lt_off x u z)))), refl)),
      ),
    ))

pub lookup_law : LookupLaw
lookup_law T u b n x y a ws m p small there r ks =
    let lt : x < u = ks.bounded x (ap (λ (o : Option ℕ). is_some o) there) in
    let li : 2 * x + 1 < length ws = omega (arith, ks.size, lt) in
    let w = read_word b 0 ws p (2 * x + 1) (2 * x + 1) r li (omega arith) in
    does T 5 amap_lookup lookup_text refl (Gives a (y ∷ []) p) a (u ∷ b ∷ n ∷ x ∷ []) p
    (λ h hs. (
      2 * x,
      adds x x _ (twice x) (omega (arith, lt, small)),
      (
        2 * x + 1,
        adds (2 * x) 1 _ refl (omega (arith, lt, small)),
        (slice_index ws (2 * x + 1), w.0, w.1, (omega arith, λ g hg. (tt, refl, ap (λ z. z ∷ []) (ks.values x y lt there), refl))),
      ),
    ))

bit_most : (b : Bool) → one_if b ≤ 1
bit_most true = omega arith
bit_most false = omega arith

pub put_law : PutLaw
put_law T u b x y a ws m k small lt word most ks =
    let li = mark_of u x m ws ks lt in
    let len = length-set ws (2 * x) 1 in
    let lj : 2 * x + 1 < length (slice_set ws (2 * x) 1) = omega (arith, ks.size, lt, len) in
    let old : slice_index ws (2 * x) ≡ one_if (maps.contains_key m x) = ks.marks x lt in
    let less : one_if (maps.contains_key m x) ≤ 1 = bit_most (maps.contains_key m x) in
    let count = count_put m x y in
    does T 9 amap_put put_text refl (GivesMap u (maps.insert m x y) b k a) a (u ∷ b ∷ maps.len m ∷ x ∷ y ∷ []) (plus (block b ws) k)
    (λ h hs.
    let free = apart b ws k h hs in (
      2 * x,
      adds x x _ (twice x) (omega (arith, lt, small)),
      (
        slice_index ws (2 * x),
        whole - 1,
        own_at b ws k free (2 * x) li,
        (
          plus (block b (slice_set ws (2 * x) 1)) k,
          own_whole b ws k free (2 * x) li,
          own_set b ws k free (2 * x) 1 li,
          (
            2 * x + 1,
            adds (2 * x) 1 _ refl (omega (arith, lt, small)),
            (
              plus (block b (slice_set (slice_set ws (2 * x) 1) (2 * x + 1) y)) k,
              own_whole b (slice_set ws (2 * x) 1) k free (2 * x + 1) lj,
              own_set b (slice_set ws (2 * x) 1) k free (2 * x + 1) y lj,
              (
                1 - slice_index ws (2 * x),
                subs 1 (slice_index ws (2 * x)) _ (omega (arith, old, less)) (omega arith),
                (
                  maps.len (maps.insert m x y),
                  adds (maps.len m) (1 - slice_index ws (2 * x)) _ (ap (λ z. maps.len m + (1 - z)) old ∙ count) (omega (arith, count, most)),
                  (omega arith, λ g hg. ((slice_set (slice_set ws (2 * x) 1) (2 * x + 1) y, with_key u x m ws ks lt y word), refl, refl, refl)),
                ),
              ),
            ),
          ),
        ),
      ),
    ))

pub del_law : DelLaw
del_law T u b x a ws m k small most ks =
    does T 7 amap_del del_text refl (GivesMap u (maps.remove m x) b k a) a (u ∷ b ∷ maps.len m ∷ x ∷ []) (plus (block b ws) k)
    (λ h hs.
    let free = apart b ws k h hs in (
      flag (nat_lt x u),
      refl,
      (
        λ o.
            let lt = lt_on x u o in
            let li = mark_of u x m ws ks lt in (
              2 * x,
              adds x x _ (twice x) (omega (arith, lt, small)),
              (
                slice_index ws (2 * x),
                whole - 1,
                own_at b ws k free (2 * x) li,
                (
                  plus (block b (slice_set ws (2 * x) 0)) k,
                  own_whole b ws k free (2 * x) li,
                  own_set b ws k free (2 * x) 0 li,
                  (
                    maps.len (maps.remove m x),
                    subs (maps.len m) (slice_index ws (2 * x)) _ (count_del m x ∙ ap (λ z. maps.len (maps.remove m x) + z) (sym (ks.marks x lt))) (omega (arith, most)),
                    (omega arith, λ g hg. ((slice_set ws (2 * x) 0, without_key u x m ws ks lt), refl, refl, refl)),
                  ),
                ),
              ),
            ),
        λ z.
            let e = no_key m x (not_there m u x ks.bounded (lt_off x u z)) in
            (omega arith, λ g hg. ((ws, subst (λ y. HasKeys u y ws) (sym e) ks), refl, ap (λ y. b ∷ maps.len y ∷ []) (sym e), refl)),
      ),
    ))

pub copy_words_law : CopyLaw
copy_words_law T u b n w a ws k found small r size le =
    does T (6 * length ws + 9) amap_copy copy_text refl (Makes (λ x. x ∷ n ∷ []) ws k a) (w ∷ a) (u ∷ b ∷ n ∷ []) k
    (λ h hs. (
      length ws,
      adds u u _ (twice u ∙ sym size) (omega (arith, size, small)),
      (
        lib_copy,
        found,
        6 * length ws + 6,
        omega arith,
        by_law T ℕ _ _ _ _ _ _ _ _ (copy_law T b 0 (length ws) 0 w a ws k r (omega arith) le)
            (λ x g hg. (omega arith, λ g' hg'. (x, refl, refl, ap (λ z. plus (block x z) k) (append-nil ws)))),
      ),
    ))

-- ---- the keys, into a new block

module _ (T : List Proc) (B u b x n : ℕ) (a ws : List ℕ) (m : Map) (k : Piece) (small : u < 2 ^ 32) (r : Reads b 0 ws k) (free : Apart x k) (ks : HasKeys u m ws) (all : n ≡ length (members (maps.contains_key m) u)) (most : n < 2 ^ 64) (Q : Assertion) where
  abbrev before : ℕ → List ℕ
  before i = members (maps.contains_key m) i

  abbrev keys_regs : ℕ → ℕ → ℕ → List ℕ
  keys_regs i j t = u ∷ b ∷ n ∷ x ∷ 1 ∷ i ∷ j ∷ t ∷ 0 ∷ []

  abbrev Turns : ℕ → ℕ → ℕ → List ℕ → ℕ → ℕ → Type 0
  Turns l s i ys j t = turns (wp T B union_test) (wp T B keys_turn) 7 (suc l) Q s a (keys_regs i j t) (plus (block x ys) k)

  keys_turns : (l i : ℕ) → i + l ≡ u → (zs : List ℕ) → length (before i) + length zs ≡ n → (s t : ℕ) → s + 8 * l + 2 ≤ B → ((e j t : ℕ) → e ≤ s + 8 * l + 2 → Q e a (keys_regs u j t) (plus (block x (before u)) k)) → Turns l s i (before i ++ zs) (length (before i)) t
  keys_turns zero i z zs len s t le q =
      let e : i ≡ u = omega (arith, z) in
      let same = ap (λ y. length (before y)) e in
      let none : zs ≡ [] = nil_from_length zs (omega (arith, len, all, same)) in
      let words : before i ++ zs ≡ before u = ap (λ y. before i ++ y) none ∙ append-nil (before i) ∙ ap before e in (
        flag (nat_lt i u),
        refl,
        (
          λ o. subst (λ y. Q (suc (suc s)) a (keys_regs y (length (before i)) (flag (nat_lt i u))) (plus (block x (before i ++ zs)) k)) (sym e)
              (subst (λ y. Q (suc (suc s)) a (keys_regs u (length (before i)) (flag (nat_lt i u))) (plus (block x y) k)) (sym words) (q (suc (suc s)) (length (before i)) (flag (nat_lt i u)) (omega arith))),
          λ o. absurd (let f : ⊥ = omega (arith, lt_on i u o, e) in f),
        ),
      )
  keys_turns (suc l) i z zs len s t le q =
      let lt : i < u = omega (arith, z) in
      let li = mark_of u i m ws ks lt in
      let w = read_word b 0 ws (plus (block x (before i ++ zs)) k) (2 * i) (2 * i) (reads_beside b 0 ws k x (before i ++ zs) r free) li (omega arith) in
      let mark = ks.marks i lt in (
        flag (nat_lt i u),
        refl,
        (
          λ o. absurd (let f : ⊥ = omega (arith, lt_off i u o, lt) in f),
          λ o. (
            2 * i,
            adds i i _ (twice i) (omega (arith, lt, small)),
            (
              slice_index ws (2 * i),
              w.0,
              w.1,
              (
                λ on.
                    let there : maps.contains_key m i ≡ true = bit_on (maps.contains_key m i) (λ y. on (mark ∙ y)) in
                    let same : before i ++ i ∷ [] ≡ before (suc i) = sym (ap (λ y. cond y (before i ++ i ∷ []) (before i)) there) in
                    let next : length (before i) + 1 ≡ length (before (suc i)) = sym (length-append (before i) (i ∷ [])) ∙ ap length same in
                    let some : 0 < length zs = omega (arith, next, all, len, members_length (maps.contains_key m) l (suc i) u (omega (arith, z))) in
                    let f = filled (before i) zs (before (suc i)) i same some in
                    let room : length (before i) < length (before i ++ zs) = omega (arith, some, length-append (before i) zs) in (
                      plus (block x (before (suc i) ++ f.0)) k,
                      own_whole x (before i ++ zs) k free (length (before i)) room,
                      own_set x (before i ++ zs) k free (length (before i)) i room ∙ ap (λ y. plus (block x y) k) f.1,
                      (
                        length (before (suc i)),
                        adds (length (before i)) 1 _ next (omega (arith, next, len, some, most)),
                        (
                          suc i,
                          adds i 1 _ (omega arith) (omega (arith, lt, small)),
                          keys_turns l (suc i) (omega (arith, z)) f.0 (omega (arith, next, len, f.2)) (suc (suc (suc (suc (suc (suc (suc (suc s)))))))) (slice_index ws (2 * i)) (omega (arith, le)) (λ e j t le. q e j t (omega (arith, le))),
                        ),
                      ),
                    ),
                λ off.
                    let missing : maps.contains_key m i ≡ false = bit_off (maps.contains_key m i) (sym mark ∙ off) in
                    let same : before i ≡ before (suc i) = sym (ap (λ y. cond y (before i ++ i ∷ []) (before i)) missing) in (
                      suc i,
                      adds i 1 _ (omega arith) (omega (arith, lt, small)),
                      subst (λ y. Turns l (suc (suc (suc (suc (suc (suc s)))))) (suc i) (y ++ zs) (length y) (slice_index ws (2 * i))) (sym same)
                          (keys_turns l (suc i) (omega (arith, z)) zs (ap (λ y. length y + length zs) (sym same) ∙ len) (suc (suc (suc (suc (suc (suc s)))))) (slice_index ws (2 * i)) (omega (arith, le)) (λ e j t le. q e j t (omega (arith, le)))),
                    ),
              ),
            ),
          ),
        ),
      )

pub keys_law : KeysLaw
keys_law T u b w a ws m k small r ks le =
    let B = 8 * u + 6 in
    let items = map_members m u ks.bounded in
    let all : maps.len m ≡ length (members (maps.contains_key m) u) = len_keys m ∙ ap length (sym items) in
    let E = Makes (λ x. x ∷ 0 ∷ maps.len m ∷ []) (maps.keys m) k a in
    does T B amap_keys keys_text refl E (w ∷ a) (u ∷ b ∷ maps.len m ∷ []) k
    (λ h hs. (
      omega arith,
      (
        le,
        λ x free. (
          plus (block x (replicate (maps.len m) 0)) k,
          own_new k x (maps.len m) free,
          λ g hg. (
            suc u,
            keys_turns T B u b x (maps.len m) a ws m k small r free ks all (word_length x (maps.len m) k g hg) (Meets B E (3 ∷ 8 ∷ 2 ∷ [])) u 0 (omega arith) (replicate (maps.len m) 0) (let z : 0 + length (replicate {A = ℕ} (maps.len m) 0) ≡ maps.len m = omega (arith, length-replicate {A = ℕ} (maps.len m) 0) in z) 3 0 (omega arith)
                (λ e j t le. (omega (arith, le), λ g' hg'. (x, refl, refl, ap (λ y. plus (block x y) k) items))),
          ),
        ),
      ),
    ))

pub map_laws : MapLaws
map_laws = record { empty = empty_law; has = has_law; lookup = lookup_law; put = put_law; del = del_law; keys = keys_law; copy = copy_words_law }
