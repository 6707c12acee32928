-- A key into a table, with growth; and a value behind it.
use Rattle.std.proofs.Common.{◌≡◌, ℕ, suc, ◌+◌, ◌*◌, ◌^◌, ◌/◌, ◌%◌, ◌<◌, ◌≤◌, Bool, true, false, cond, List, [], ◌∷◌, length, refl, sym, ap, subst, arith, leb-true, leb-false}
use Rattle.std.proofs.lemmas.List.{length-set}
use Rattle.std.proofs.lemmas.Nat.{mul-le, pow_pos}
use Rattle.std.proofs.Math.Nat.{two-pow-succ}
use Rattle.std.specs.Prelude.{None, Some, nat_lt, nat_le, codes}
use Rattle.relations.specs.Blocks.{AreWords}
use Rattle.row_laws.proofs.Words.{words_set}
use Rattle.relations.specs.Represents.{one_if, state, key, IsTable}
use Rattle.target_code.specs.declared.tree.Calc.TheVariants.{Shl}
use Rattle.target_code.specs.declared.tree.Proc.{Proc}
use Rattle.target_meaning.specs.Leaf.{calc_of, Is, find}
use Rattle.target_meaning.specs.Machine.{Heap}
use Rattle.target_meaning.specs.Piece.{Piece, plus, Holds}
use Rattle.triple_logic.specs.Text.{Text, Stop}
use Rattle.triple_logic.specs.Weakest.{End_fact, Ended, Assertion, Meets, wp}
use Rattle.triple_logic.specs.Blocks.{block, Apart}
use Rattle.triple_logic.proofs.Ends.{by_law}
use Rattle.triple_logic.proofs.Sound.{does}
use Rattle.triple_logic.proofs.Blocks.{own_set, own_whole, own_bound, reads_own, apart, drop_second, adds, muls, flag, lt_on, lt_off}
use Rattle.op_base.specs.Counts.{Test, put}
use Rattle.op_base.proofs.CountsLemmas.{put_same, bit_on, bit_off}
use Rattle.op_hash.specs.Tables.{Found, Values, put_value, HasOthers, HasValues, NewTable, Inserted}
use Rattle.op_hash.specs.Texts.{lib_find, lib_hset_move, lib_hmap_move, set_key, grow_text, put_text, set_value, hset_insert, hmap_put}
use Rattle.op_hash.specs.Laws.{HasFind, find_steps, move_steps, MoveLaw, insert_steps, Claims, InsertLaw, PutLaw}
use Rattle.op_hash.proofs.TablesLemmas.{keys_most, set_values, one_set, two_set, in_zero, in_one_set, two_length, two_state, two_key, two_table, two_values, in_two, value_set, value_table, value_values}
use Rattle.op_hash.proofs.Walk.{find_law, grow}
use Rattle.op_hash.proofs.Move.{set_move_law, map_move_law}

-- ---- the slots after growth

abbrev grown : ℕ → ℕ → ℕ
grown cap n = cond (nat_le cap (n + n)) (cap + cap) cap

record Growth (w cap n c f : ℕ) : Type 0 where
  shl : calc_of Shl cap f ≡ Is c
  power : (e : ℕ) × (c ≡ 8 * 2 ^ e)
  room : suc n < c
  words : w * c < 2 ^ 64
  most : c ≤ 2 * cap

growth : (w cap n used : ℕ) (ws : List ℕ) (has : Test) → 2 ≤ w → w ≤ 3 → IsTable w ws has cap n used → n < 2 ^ 32 → w * cap < 2 ^ 64 → Growth w cap n (grown cap n) (flag (nat_le cap (n + n)))
growth w cap n used ws has wide narrow t small fits =
    let less = keys_most w cap n used ws has t in
    let e = t.power in
    at (nat_le cap (n + n)) refl less (eight e.0 e.1)
  where
    eight : (e : ℕ) → cap ≡ 8 * 2 ^ e → 8 ≤ cap
    eight e z = let p = pow_pos e in omega (arith, z, p)

    at : (b : Bool) → nat_le cap (n + n) ≡ b → n ≤ used → 8 ≤ cap → Growth w cap n (cond b (cap + cap) cap) (flag b)
    at true e less big =
        let le : cap ≤ n + n = leb-true cap (n + n) e in record {
          shl = ap Is (let z : cap * 2 ^ 1 % 2 ^ 64 ≡ cap + cap = omega (arith, le, small) in z);
          power = (suc t.power.0, (let z = t.power.1 in let d = two-pow-succ t.power.0 in omega (arith, z, d)));
          room = omega (arith, less, t.open_slot);
          words = let m = mul-le w (cap + cap) 3 (cap + cap) narrow (omega arith) in omega (arith, m, le, small);
          most = omega arith;
        }
    at false e less big =
        let lt : n + n < cap = leb-false cap (n + n) e in
        let g = grow cap w wide in record {
          shl = ap Is (let z : cap * 2 ^ 0 % 2 ^ 64 ≡ cap = omega (arith, fits, g) in z);
          power = t.power;
          room = omega (arith, lt, big);
          words = fits;
          most = omega arith;
        }

times_le : (a b c : ℕ) → b ≤ c → a * b ≤ a * c
times_le a b c l = mul-le a b a c (omega arith) l

-- the key's slot, when the key is there
record Ready (w n x : ℕ) (has : Test) (get : Values) (k : Piece) : Type 0 where
  name : ℕ
  cap : ℕ
  keys : ℕ
  used : ℕ
  words : List ℕ
  table : IsTable w words (put has x) cap keys used
  counted : keys ≡ cond (has x) n (suc n)
  slot : ℕ
  within : slot < cap
  full : state w words slot ≡ 1
  is_key : key w words slot ≡ x
  others : HasOthers w words cap get slot
  free : Apart name k
  bound : suc (length words) < 2 ^ 64
  are_words : AreWords words

module _ (T : List Proc) (B E w n x v : ℕ) (has : Test) (get : Values) (k : Piece) (rest : List ℕ) (e_is : E + 2 ≤ B) (wide : 2 ≤ w) (narrow : w ≤ 3) (word : x < 2 ^ 64) (move : List ℕ) (g : Proc) (next : Text) (Q : Assertion) where
  abbrev put_regs : (b cap keys used p f r9 r10 : ℕ) → List ℕ
  put_regs b cap keys used p f r9 r10 = b ∷ cap ∷ keys ∷ used ∷ x ∷ v ∷ w ∷ p ∷ f ∷ r9 ∷ r10 ∷ []

  abbrev GoesOn : Type 0
  GoesOn = (o : Ready w n x has get k) (s f r9 r10 : ℕ) → s ≤ E → wp T B next Q s rest (put_regs o.name o.cap o.keys o.used (w * o.slot) f r9 r10) (plus (block o.name o.words) k)

  -- the key into its slot
  set_rest : GoesOn → (b cap used s r8 r9 r10 : ℕ) (ws : List ℕ) → (t : IsTable w ws has cap n used) → HasValues w ws cap get → AreWords ws → has x ≡ false → (o : Found w cap x has ws) → suc used < cap → s + 6 ≤ E → (h : Heap) → Holds (plus (block b ws) k) h → wp T B set_key (wp T B next Q) s rest (put_regs b cap n used (w * o.slot) r8 r9 r10) (plus (block b ws) k)
  set_rest go b cap used s r8 r9 r10 ws t vals aw new o room le h hs =
      let free = apart b ws k h hs in
      let bound = own_bound b ws k h hs in
      let i0 = in_zero w cap n used x ws has wide t o in
      let i1 = in_one_set w cap n used x ws has wide t o in
      let u1 = one_set w cap n used x ws has wide t o in
      let u2 = two_set w cap n used x ws has wide t o in
      let len = two_length w cap n used x ws has wide t o in
      let gr = grow cap w wide in
      let less = keys_most w cap n used ws has t in (
        plus (block b u1) k,
        own_whole b ws k free (w * o.slot) i0,
        own_set b ws k free (w * o.slot) 1 i0,
        (
          w * o.slot + 1,
          adds (w * o.slot) 1 _ refl (omega (arith, i1, length-set ws (w * o.slot) 1, bound)),
          (
            plus (block b u2) k,
            own_whole b u1 k free (w * o.slot + 1) i1,
            own_set b u1 k free (w * o.slot + 1) x i1,
            (
              suc n,
              adds n 1 _ (omega arith) (omega (arith, less, room, t.size, bound, gr)),
              (
                suc used,
                adds used 1 _ (omega arith) (omega (arith, room, t.size, bound, gr)),
                go (record {
                  name = b;
                  cap = cap;
                  keys = suc n;
                  used = suc used;
                  words = u2;
                  table = two_table w cap n used x ws has wide t o new room;
                  counted = sym (ap (λ z. cond z n (suc n)) new);
                  slot = o.slot;
                  within = o.within;
                  full = two_state w cap n used x ws has wide t o;
                  is_key = two_key w cap n used x ws has wide t o;
                  others = two_values w cap n used x ws has wide t o get vals;
                  free = free;
                  bound = omega (arith, bound, len);
                  are_words = words_set u1 (w * o.slot + 1) x word (words_set ws (w * o.slot) 1 (omega arith) aw);
                }) _ r8 1 (w * o.slot + 1) (omega (arith, le)),
              ),
            ),
          ),
        ),
      )

  module _ (found : HasFind T) (found_move : find T move ≡ Some g) (moves : MoveLaw w g) where
    grow_rest : GoesOn → (b cap used s r7 r8 r9 r10 : ℕ) (ws : List ℕ) → (t : IsTable w ws has cap n used) → HasValues w ws cap get → AreWords ws → has x ≡ false → n < 2 ^ 32 → s + (cap * (48 * cap + 40) + 48 * cap + 50) ≤ E → (h : Heap) → Holds (plus (block b ws) k) h → wp T B (grow_text move) (wp T B set_key (wp T B next Q)) s ((2 * (w * cap)) ∷ rest) (put_regs b cap n used r7 r8 r9 r10) (plus (block b ws) k)
    grow_rest go b cap used s r7 r8 r9 r10 ws t vals aw new small le h hs =
        let bound = own_bound b ws k h hs in
        let fits : w * cap < 2 ^ 64 = omega (arith, bound, t.size) in
        let c = grown cap n in
        let gw = growth w cap n used ws has wide narrow t small fits in
        let m : cap * (24 * c + 40) ≤ cap * (48 * cap + 40) = times_le cap (24 * c + 40) (48 * cap + 40) (omega (arith, gw.most)) in
        let cl : w * c ≤ 2 * (w * cap) = (let z = times_le w c (2 * cap) gw.most in omega (arith, z)) in
        let free = apart b ws k h hs in (
          n + n,
          adds n n _ refl (omega (arith, small)),
          (
            flag (nat_le cap (n + n)),
            refl,
            (
              c,
              gw.shl,
              (
                g,
                found_move,
                move_steps cap c,
                omega (arith, le, m, e_is),
                by_law T (NewTable w c n n has get) _ _ _ _ _ _ _ _ (moves T b cap n used c (2 * (w * cap)) rest ws has get (plus (block b ws) k) found (reads_own b ws k free) t vals aw gw.power.0 gw.power.1 (omega (arith, gw.room)) gw.words cl)
                    (λ o h2 hs2.
                    let d = drop_second o.name o.words b ws k h2 hs2 in (
                      plus (block o.name o.words) k,
                      d.0,
                      d.1,
                      (
                        lib_find,
                        found,
                        find_steps c,
                        omega (arith, le, m, gw.most, e_is),
                        by_law T (Found w c x has o.words) _ _ _ _ _ _ _ _ (find_law T w o.name c n n x rest o.words has (plus (block o.name o.words) k) wide (reads_own o.name o.words k d.2) o.table)
                            (λ f h3 hs3. set_rest go o.name c n _ (one_if (has x)) o.name c o.words o.table o.values o.are_words new f gw.room (omega (arith, le, m, gw.most)) h3 hs3),
                      ),
                    )),
              ),
            ),
          ),
        )

    -- the whole text, up to what follows
    put_rest : GoesOn → (b cap used : ℕ) (a ws : List ℕ) → (t : IsTable w ws has cap n used) → HasValues w ws cap get → AreWords ws → n < 2 ^ 32 → Claims w cap used x has a rest → cap * (48 * cap + 40) + 72 * cap + 100 ≤ E → (h : Heap) → Holds (plus (block b ws) k) h → wp T B (put_text w move next) Q 0 a (b ∷ cap ∷ n ∷ used ∷ x ∷ v ∷ 0 ∷ 0 ∷ 0 ∷ 0 ∷ 0 ∷ []) (plus (block b ws) k)
    put_rest go b cap used a ws t vals aw small claims le h hs =
        let bound = own_bound b ws k h hs in
        let fits : 2 * cap < 2 ^ 64 = (let z = mul-le 2 cap w cap wide (omega arith) in omega (arith, bound, t.size, z)) in (
          lib_find,
          found,
          find_steps cap,
          omega (arith, le, e_is),
          by_law T (Found w cap x has ws) _ _ _ _ _ _ _ _ (find_law T w b cap n used x a ws has (plus (block b ws) k) wide (reads_own b ws k (apart b ws k h hs)) t)
              (λ o h2 hs2. (
                λ on.
                    let old = bit_on (has x) on in
                    let at = o.on old in
                    subst (λ y. wp T B next Q (suc (suc (suc 0) + find_steps cap)) y (put_regs b cap n used (w * o.slot) (one_if (has x)) 0 0) (plus (block b ws) k)) (sym (claims.old old))
                    (go (record {
                      name = b;
                      cap = cap;
                      keys = n;
                      used = used;
                      words = ws;
                      table = subst (λ y. IsTable w ws y cap n used) (sym (put_same has x old)) t;
                      counted = sym (ap (λ z. cond z n (suc n)) old);
                      slot = o.slot;
                      within = o.within;
                      full = at.0;
                      is_key = at.1;
                      others = λ three i li ne f. vals three i li f;
                      free = apart b ws k h2 hs2;
                      bound = bound;
                      are_words = aw;
                    }) (suc (suc (suc 0) + find_steps cap)) (one_if (has x)) 0 0 (omega (arith, le))),
                λ off.
                    let new = bit_off (has x) off in (
                      cap / 4,
                      refl,
                      (
                        cap / 4 * 3,
                        muls (cap / 4) 3 _ refl (omega (arith, fits)),
                        (
                          flag (nat_lt used (cap / 4 * 3)),
                          refl,
                          (
                            λ less. let lt = lt_on used (cap / 4 * 3) less in
                                subst (λ y. wp T B set_key (wp T B next Q) (suc (suc (suc (suc (suc (suc (suc (suc (suc 0) + find_steps cap)))))))) y (put_regs b cap n used (w * o.slot) (one_if (has x)) (flag (nat_lt used (cap / 4 * 3))) 3) (plus (block b ws) k)) (sym (claims.room new (omega (arith, lt))))
                                (set_rest go b cap used _ (one_if (has x)) (flag (nat_lt used (cap / 4 * 3))) 3 ws t vals aw new o (omega (arith, lt)) (omega (arith, le)) h2 hs2),
                            λ more. let ge = lt_off used (cap / 4 * 3) more in
                                subst (λ y. wp T B (grow_text move) (wp T B set_key (wp T B next Q)) (suc (suc (suc (suc (suc (suc (suc (suc (suc 0) + find_steps cap)))))))) y (put_regs b cap n used (w * o.slot) (one_if (has x)) (flag (nat_lt used (cap / 4 * 3))) 3) (plus (block b ws) k)) (sym (claims.grow new (omega (arith, ge))))
                                (grow_rest go b cap used _ (w * o.slot) (one_if (has x)) (flag (nat_lt used (cap / 4 * 3))) 3 ws t vals aw new small (omega (arith, le)) h2 hs2),
                          ),
                        ),
                      ),
                    ),
              )),
        )

pub insert_law : InsertLaw
insert_law T b cap n used x a rest ws has k found found_move t small aw xw claims =
    let B = insert_steps cap in
    let End : End_fact = Ended (Inserted 2 n x has (λ y. None)) (λ o. rest) (λ o. o.name ∷ o.cap ∷ o.keys ∷ o.used ∷ []) (λ o. plus (block o.name o.words) k) in
    does T B hset_insert (put_text 2 (codes "lib_hset_move") Stop) refl End a (b ∷ cap ∷ n ∷ used ∷ x ∷ []) (plus (block b ws) k)
    (λ h hs. put_rest T B (cap * (48 * cap + 40) + 72 * cap + 100) 2 n x 0 has (λ y. None) k rest (omega arith) (omega arith) (omega arith) xw (codes "lib_hset_move") lib_hset_move Stop (Meets B End (0 ∷ 1 ∷ 2 ∷ 3 ∷ [])) found found_move set_move_law
    (λ o s f r9 r10 ls. (omega (arith, ls), λ g hg. (record { name = o.name; cap = o.cap; keys = o.keys; used = o.used; words = o.words; table = o.table; counted = o.counted; values = set_values o.words o.cap (λ y. None); are_words = o.are_words; short = (let z = o.bound in omega (arith, z)) }, refl, refl, refl)))
    b cap used a ws t (set_values ws cap (λ y. None)) aw small claims (omega arith) h hs)

pub put_law : PutLaw
put_law T b cap n used x v a rest ws has get k found found_move t vals small aw xw vw claims =
    let B = insert_steps cap in
    let End : End_fact = Ended (Inserted 3 n x has (put_value get x v)) (λ o. rest) (λ o. o.name ∷ o.cap ∷ o.keys ∷ o.used ∷ []) (λ o. plus (block o.name o.words) k) in
    let three : 3 ≤ 3 = omega arith in
    does T B hmap_put (put_text 3 (codes "lib_hmap_move") set_value) refl End a (b ∷ cap ∷ n ∷ used ∷ x ∷ v ∷ []) (plus (block b ws) k)
    (λ h hs. put_rest T B (cap * (48 * cap + 40) + 72 * cap + 100) 3 n x v has get k rest (omega arith) (omega arith) (omega arith) xw (codes "lib_hmap_move") lib_hmap_move set_value (Meets B End (0 ∷ 1 ∷ 2 ∷ 3 ∷ [])) found found_move map_move_law
    (λ o s f r9 r10 ls.
    let i2 = in_two 3 o.cap o.keys o.used x v o.slot o.words (put has x) get three o.table o.within o.full o.is_key o.others in
    let u3 = value_set 3 o.cap o.keys o.used x v o.slot o.words (put has x) get three o.table o.within o.full o.is_key o.others in (
      3 * o.slot + 2,
      adds (3 * o.slot) 2 (3 * o.slot + 2) refl (omega (arith, i2, o.bound)),
      (
        plus (block o.name u3) k,
        own_whole o.name o.words k o.free (3 * o.slot + 2) i2,
        own_set o.name o.words k o.free (3 * o.slot + 2) v i2,
        (
          omega (arith, ls),
          λ g hg. (
            record {
              name = o.name;
              cap = o.cap;
              keys = o.keys;
              used = o.used;
              words = u3;
              table = value_table 3 o.cap o.keys o.used x v o.slot o.words (put has x) get three o.table o.within o.full o.is_key o.others;
              counted = o.counted;
              values = value_values 3 o.cap o.keys o.used x v o.slot o.words (put has x) get three o.table o.within o.full o.is_key o.others;
              are_words = words_set o.words (3 * o.slot + 2) v vw o.are_words;
              short = (let z = o.bound in let l = length-set o.words (3 * o.slot + 2) v in omega (arith, z, l));
            },
            refl,
            refl,
            refl,
          ),
        ),
      ),
    ))
    b cap used a ws t vals aw small claims (omega arith) h hs)
