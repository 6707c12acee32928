-- The beginning of a program whose inputs were put into an empty store.
use Rattle.std.proofs.Common.{◌≡◌, ◌≢◌, ℕ, zero, suc, ◌+◌, ◌-◌, ◌*◌, ◌^◌, ◌<◌, ◌≤◌, ◌⊎◌, inl, inr, ⊎_elim, Bool, true, false, cond, ◌&&◌, List, [], ◌∷◌, ◌++◌, length, take, drop, refl, sym, ap, ◌∙◌, subst, arith, eqb, eqb-true, eq-eqb, ne_eqb}
use Rattle.std.proofs.lemmas.Bool.{cond-true, cond-false}
use Rattle.std.proofs.lemmas.Bool.Decides.{eqb_tells}
use Rattle.std.proofs.Math.Path.{fun_ext}
use Rattle.std.proofs.Math.Seq.{take-append_seam, drop-append_seam}
use Rattle.std.specs.Prelude.{Option, Some, None, slice_index, option_to_list, codes, if◌then◌else◌, ◌==◌}
use Rattle.std.specs.List.{zip}
use Rattle.std.specs.Str.{bytes_eq}
use Rattle.nres_core.specs.declared.value.Value.{Value}
use Rattle.target_code.specs.Formed.{Formed, begins_with_main, is_main}
use Rattle.target_code.specs.Reps.{width}
use Rattle.target_code.specs.declared.tree.InParam.{InParam}
use Rattle.target_code.specs.declared.tree.Proc.{Proc}
use Rattle.target_code.specs.declared.tree.Program.{Program}
use Rattle.target_code.specs.declared.tree.Rep.{Rep}
use Rattle.target_meaning.specs.Leaf.{find}
use Rattle.target_meaning.specs.Machine.{Heap, Cell, Never, Live, no_blocks, with_words, with_blocks, put_cell}
use Rattle.target_meaning.specs.Piece.{Share, Nil, Some_of, Clash, Piece, Holds, none, plus, add, at_place, AreDisjoint}
use Rattle.target_meaning.specs.Stacks.{proc_at}
use Rattle.branch_exec.specs.Branches.{Names}
use Rattle.branch_exec.specs.LeftRuns.{Fresh}
use Rattle.branch_exec.specs.Stores.{Kept}
use Rattle.relations.specs.Blocks.{block, wholly, whole_piece}
use Rattle.relations.specs.Images as images
use Rattle.relations.specs.Images.{Image, held, placed}
use Rattle.relations.specs.Represents.{Represents}
use Rattle.relations.specs.Values.{AllRepresent, AreApart, IsUnion, live, union}
use Rattle.layout_facts.proofs.Facts.{width_is}
use Rattle.image_laws.proofs.Encodes.{images_represent}
use Rattle.soundness.specs.Start.{AreImages, AreNamed, BeginFromOne, IsNew, all_placed, blocks_in, names_from, reps_of}
use Rattle.run_inputs.specs.Placing.{AllPut}
use Rattle.run_stores.specs.Rows.{IsEmpty, IsInRow}
use Rattle.run_begins.specs.Beginning.{AreHeld, HasBegun, LaterNamesAreNew, PlacedInputsBegin}
use Rattle.run_begins.proofs.Rows.{sizes, row_end, row_behind, row_fresh}
use Rattle.run_begins.proofs.Laying.{Laid, Ready, laid}

-- ---- the first procedure

both_true : (a b : Bool) → (a && b) ≡ true → (a ≡ true) × (b ≡ true)
both_true true b e = (refl, e)
both_true false b e = absurd (let z : ⊥ = cc e in z)

main_found : (T : Program) (procs : List Proc) → begins_with_main T.ins T.outs procs ≡ true → find procs (codes "main") ≡ Some (proc_at procs 0)
main_found T [] e = absurd (let z : ⊥ = cc e in z)
main_found T (p ∷ ps) e =
    let b = both_true (bytes_eq p.name (codes "main")) _ e in
    ap (λ c. if c then Some p else find ps (codes "main")) b.0

-- ---- names

-- each is a word
abbrev pub AreWords : List ℕ → Type 0
AreWords [] = Unit {0}
AreWords (n ∷ ns) = (n < 2 ^ 64) × AreWords ns

first_is_word : (ns : List ℕ) → AreWords ns → slice_index ns 0 < 2 ^ 64
first_is_word [] w = let z : 0 < 2 ^ 64 = omega arith in z
first_is_word (n ∷ ns) w = w.0

others_are_words : (o : Option (List ℕ)) (ns : List ℕ) → AreWords ns → AreWords (drop (length (option_to_list o)) ns)
others_are_words None ns w = w
others_are_words (Some ws) [] w = tt
others_are_words (Some ws) (n ∷ ns) w = w.1

-- the names of a row whose end is a word
row_words : (x : ℕ) (names : List ℕ) (blocks : List (List ℕ)) (e : ℕ) → length names ≡ length blocks → IsInRow x (sizes (zip names blocks)) e → e < 2 ^ 64 → AreWords names
row_words x [] bs e l r lt = tt
row_words x (n ∷ ns) [] e l r lt = absurd (let z : ⊥ = omega arith in z)
row_words x (n ∷ ns) (b ∷ bs) e l r lt =
    let f : n ≡ x = r.0 in
    let z = row_end (x + length b + 1) (sizes (zip ns bs)) e r.1 in
    (omega (arith, f, z), row_words (x + length b + 1) ns bs e (let q : length ns ≡ length bs = omega arith in q) r.1 lt)

-- the names of a row are those that go up
row_names : (x : ℕ) (names : List ℕ) (blocks : List (List ℕ)) (e : ℕ) → length names ≡ length blocks → IsInRow x (sizes (zip names blocks)) e → names ≡ names_from x blocks
row_names x [] [] e l r = refl
row_names x [] (b ∷ bs) e l r = absurd (let z : ⊥ = omega arith in z)
row_names x (n ∷ ns) [] e l r = absurd (let z : ⊥ = omega arith in z)
row_names x (n ∷ ns) (b ∷ bs) e l r =
    let rest = row_names (x + length b + 1) ns bs e (let q : length ns ≡ length bs = omega arith in q) r.1 in
    (λ i. r.0 i ∷ rest i)

-- they lie in 1 to the capacity and differ
is_new : (y x : ℕ) (bs : List (ℕ × List ℕ)) (e : ℕ) → y < x → IsInRow x (sizes bs) e → IsNew y bs
is_new y x [] e lt r = tt
is_new y x (b ∷ bs) e lt r = ((λ q. let f = r.0 in omega (arith, q, f)), is_new y (x + length b.1 + 1) bs e (omega arith) r.1)

are_named : (cap x : ℕ) (bs : List (ℕ × List ℕ)) (e : ℕ) → 1 ≤ x → e ≤ cap → IsInRow x (sizes bs) e → AreNamed cap bs
are_named cap x [] e one le r = tt
are_named cap x (b ∷ bs) e one le r =
    let f : b.0 ≡ x = r.0 in
    let z = row_end (x + length b.1 + 1) (sizes bs) e r.1 in
    (omega (arith, f), omega (arith, f, z), is_new b.0 (x + length b.1 + 1) bs e (omega (arith, f)) r.1, are_named cap (x + length b.1 + 1) bs e (omega arith) le r.1)

-- ---- the heap

blocks_cap : (bs : List (ℕ × List ℕ)) (h : Heap) → (with_blocks h bs).cap ≡ h.cap
blocks_cap [] h = refl
blocks_cap (b ∷ bs) h = blocks_cap bs (with_words h b.0 b.1)

blocks_claimed : (x : ℕ) (bs : List (ℕ × List ℕ)) (e : ℕ) (h : Heap) → IsInRow x (sizes bs) e → h.claimed + 1 ≡ x → (with_blocks h bs).claimed ≡ e
blocks_claimed x [] e h r q = let f : x ≡ e + 1 = r in omega (arith, f, q)
blocks_claimed x (b ∷ bs) e h r q = blocks_claimed (x + length b.1 + 1) bs e (with_words h b.0 b.1) r.1 (omega arith)

-- ---- pieces

abbrev pub pieces : List ℕ → List Image → List Piece
pieces names [] = []
pieces names (i ∷ is) = held (slice_index names 0) i.block ∷ pieces (drop (length (option_to_list i.block)) names) is

take_front : (xs ys : List ℕ) (n : ℕ) → length xs ≡ n → take n (xs ++ ys) ≡ xs
take_front xs ys n e = subst (λ k. take k (xs ++ ys) ≡ xs) e (take-append_seam xs ys)

drop_front : (xs ys : List ℕ) (n : ℕ) → length xs ≡ n → drop n (xs ++ ys) ≡ ys
drop_front xs ys n e = subst (λ k. drop k (xs ++ ys) ≡ ys) e (drop-append_seam xs ys)

represent : (ins : List InParam) (us : List Value) (is : List Image) (names : List ℕ) → AreImages (reps_of ins) us is → AreHeld us → AreWords names → AllRepresent (reps_of ins) us (all_placed names is) (pieces names is)
represent [] [] [] names a h w = refl
represent [] [] (i ∷ is) names a h w = absurd a
represent [] (x ∷ us) is names a h w = absurd a
represent (p ∷ ins) [] is names a h w = absurd a
represent (p ∷ ins) (x ∷ us) [] names a h w = absurd a
represent (p ∷ ins) (x ∷ us) (i ∷ is) names a h w =
    let b = slice_index names 0 in
    let others = drop (length (option_to_list i.block)) names in
    let one : Represents p.rep x (placed b i) (held b i.block) = images_represent p.rep x i b h.0.0 h.0.1 a.0 (first_is_word names w) in
    let wide : length (placed b i) ≡ width p.rep = width_is p.rep x (placed b i) (held b i.block) one in
    let rest = represent ins us is others a.1 h.1 (others_are_words i.block names w) in (
      subst (λ rs. Represents p.rep x rs (held b i.block)) (sym (take_front (placed b i) (all_placed others is) (width p.rep) wide)) one,
      subst (λ rs. AllRepresent (reps_of ins) us rs (pieces others is)) (sym (drop_front (placed b i) (all_placed others is) (width p.rep) wide)) rest,
    )

-- what is held of all blocks
abbrev pub of_blocks : List (ℕ × List ℕ) → Piece
of_blocks [] b j = Nil
of_blocks (c ∷ cs) b j = add (whole_piece (block c.0 c.1) b j) (of_blocks cs b j)

add_nil : (s : Share) → add s Nil ≡ s
add_nil Nil = refl
add_nil (Some_of v k) = refl
add_nil Clash = refl

union_is : (names : List ℕ) (is : List Image) → length names ≡ length (blocks_in is) → (b j : ℕ) → union (pieces names is) b j ≡ of_blocks (zip names (blocks_in is)) b j
union_is names [] l b j = no_names names l
  where
    no_names : (ns : List ℕ) → length ns ≡ 0 → Nil ≡ of_blocks (zip ns []) b j
    no_names [] q = refl
    no_names (n ∷ ns) q = refl
union_is names (i ∷ is) l b j = by i.block names l (λ ns q. union_is ns is q b j)
  where
    by : (o : Option (List ℕ)) (ns : List ℕ) → length ns ≡ length (option_to_list o ++ blocks_in is)
        → ((ks : List ℕ) → length ks ≡ length (blocks_in is) → union (pieces ks is) b j ≡ of_blocks (zip ks (blocks_in is)) b j)
        → add (held (slice_index ns 0) o b j) (union (pieces (drop (length (option_to_list o)) ns) is) b j) ≡ of_blocks (zip ns (option_to_list o ++ blocks_in is)) b j
    by None ns q rest = rest ns q
    by (Some ws) [] q rest = absurd (let z : ⊥ = omega arith in z)
    by (Some ws) (n ∷ ns) q rest = ap (λ s. add (whole_piece (block n ws) b j) s) (rest ns (let f : length ns ≡ length (blocks_in is) = omega arith in f))

-- a block has nothing of other names
beside : (x : ℕ) (ws : List ℕ) (b j : ℕ) → b ≢ x → whole_piece (block x ws) b j ≡ Nil
beside x ws b j ne = ap wholly (cond-false (eqb b x) (at_place (Live ws) j) None (ne_eqb b x ne))

none_before : (y x : ℕ) (bs : List (ℕ × List ℕ)) (e : ℕ) (j : ℕ) → y < x → IsInRow x (sizes bs) e → of_blocks bs y j ≡ Nil
none_before y x [] e j lt r = refl
none_before y x (b ∷ bs) e j lt r =
    let f : b.0 ≡ x = r.0 in
    let ne : y ≢ b.0 = λ q. omega (arith, q, f) in
    ap (λ s. add s (of_blocks bs y j)) (beside b.0 b.1 y j ne) ∙ none_before y (x + length b.1 + 1) bs e j (omega arith) r.1

-- what is live once blocks were made
live_blocks : (x : ℕ) (bs : List (ℕ × List ℕ)) (e : ℕ) (h : Heap) → IsInRow x (sizes bs) e → ((y : ℕ) → x ≤ y → h.cells y ≡ Never) → (b j : ℕ) → live (with_blocks h bs) b j ≡ add (of_blocks bs b j) (live h b j)
live_blocks x [] e h r n b j = refl
live_blocks x (c ∷ cs) e h r n b j =
    live_blocks (x + length c.1 + 1) cs e (with_words h c.0 c.1) r.1 later b j
    ∙ ⊎_elim
    (λ (t : b ≡ c.0).
    let here : live (with_words h c.0 c.1) b j ≡ whole_piece (block c.0 c.1) b j =
    ap (λ q. wholly (at_place (if q then Live c.1 else h.cells b) j)) (eq-eqb b c.0 t) ∙ sym (ap (λ q. wholly (if q then at_place (Live c.1) j else None)) (eq-eqb b c.0 t)) in
    let before : of_blocks cs b j ≡ Nil = none_before b (x + length c.1 + 1) cs e j (omega (arith, t, f)) r.1 in
    let gone : live h b j ≡ Nil = ap (λ z. wholly (at_place z j)) (n b (omega (arith, t, f))) in
    ap (λ s. add s (live (with_words h c.0 c.1) b j)) before ∙ here
    ∙ sym (ap (λ s. add (add (whole_piece (block c.0 c.1) b j) s) (live h b j)) before
    ∙ ap (λ s. add (add (whole_piece (block c.0 c.1) b j) Nil) s) gone
    ∙ add_nil (add (whole_piece (block c.0 c.1) b j) Nil)
    ∙ add_nil (whole_piece (block c.0 c.1) b j)))
    (λ (ne : b ≢ c.0).
    ap (λ q. add (of_blocks cs b j) (wholly (at_place (if q then Live c.1 else h.cells b) j))) (ne_eqb b c.0 ne)
    ∙ sym (ap (λ s. add (add s (of_blocks cs b j)) (live h b j)) (beside c.0 c.1 b j ne)))
    (same_or b c.0)
  where
    f : c.0 ≡ x
    f = r.0

    same_or : (m k : ℕ) → (m ≡ k) ⊎ (m ≢ k)
    same_or m k = ⊎_elim (λ t. inl (eqb-true m k t.0)) (λ t. inr t.1) (eqb_tells m k)

    later : (y : ℕ) → x + length c.1 + 1 ≤ y → (with_words h c.0 c.1).cells y ≡ Never
    later y le =
        let ne : y ≢ c.0 = λ q. omega (arith, q, f) in
        cond-false (eqb y c.0) (Live c.1) (h.cells y) (ne_eqb y c.0 ne) ∙ n y (omega arith)

-- pieces of different blocks are apart
apart : (x : ℕ) (names : List ℕ) (is : List Image) (e : ℕ) → length names ≡ length (blocks_in is) → IsInRow x (sizes (zip names (blocks_in is))) e → AreApart (pieces names is)
apart x names [] e l r = tt
apart x names (i ∷ is) e l r = by i.block names l r (λ y ns q s. apart y ns is e q s)
  where
    by : (o : Option (List ℕ)) (ns : List ℕ) → length ns ≡ length (option_to_list o ++ blocks_in is) → IsInRow x (sizes (zip ns (option_to_list o ++ blocks_in is))) e
        → ((y : ℕ) (ks : List ℕ) → length ks ≡ length (blocks_in is) → IsInRow y (sizes (zip ks (blocks_in is))) e → AreApart (pieces ks is))
        → AreDisjoint (held (slice_index ns 0) o) (union (pieces (drop (length (option_to_list o)) ns) is)) × AreApart (pieces (drop (length (option_to_list o)) ns) is)
    by None ns q s rest = ((λ b j. inl refl), rest x ns q s)
    by (Some ws) [] q s rest = absurd (let z : ⊥ = omega arith in z)
    by (Some ws) (n ∷ ns) q s rest =
        let many : length ns ≡ length (blocks_in is) = omega arith in
        let g : n ≡ x = s.0 in (
          (λ b j. ⊎_elim
              (λ t. let f : b ≡ n = eqb-true b n t.0 in
              inr (union_is ns is many b j ∙ none_before b (x + length ws + 1) (zip ns (blocks_in is)) e j (omega (arith, f, g)) s.1))
              (λ t. inl (beside n ws b j t.1))
              (eqb_tells b n)),
          rest (x + length ws + 1) ns many s.1,
        )

-- ---- the beginning

-- an empty store, and a heap in which nothing was made
ready_empty : (s : Kept) (cap : ℕ) → IsEmpty s cap → cap < 2 ^ 64 → Ready s (no_blocks cap)
ready_empty s cap e lt = record {
  holds = subst (λ p. Holds p (no_blocks cap)) (sym e.top) (record {
    places = λ b j. tt;
    heap = record { word = lt; short = λ b ws q. absurd (let z : ⊥ = cc q in z); named = λ b ws q. absurd (let z : ⊥ = cc q in z) };
  });
  cap = sym e.capacity;
  new = λ y l. refl;
  live_is_held = λ c j. ap (λ (p : Piece). p c j) e.top;
}

module _ (T : Program) (us : List Value) (cap : ℕ) (regs : List ℕ) (s t : Kept) (formed : Formed T) (held_us : AreHeld us) (small : cap < 2 ^ 64) (empty : IsEmpty s cap) (all : AllPut T.ins us s regs t) (row : IsInRow 1 t.drawn t.walked) (within : t.walked ≤ t.cap) where
  l : Laid T.ins us s regs t (no_blocks cap)
  l = laid T.ins us s regs t (no_blocks cap) all (ready_empty s cap empty small)

  abbrev bs : List (ℕ × List ℕ)
  bs = zip l.names (blocks_in l.images)

  abbrev heap : Heap
  heap = with_blocks (no_blocks cap) bs

  cap_is : heap.cap ≡ cap
  cap_is = blocks_cap bs (no_blocks cap)

  in_row : IsInRow 1 (sizes bs) t.walked
  in_row = subst (λ ds. IsInRow 1 ds t.walked) (l.drawn ∙ ap (λ ds. ds ++ sizes bs) empty.drawn) row

  few : t.walked ≤ cap
  few = let a : t.cap ≡ cap = l.cap ∙ empty.capacity in omega (arith, a, within)

  claimed_is : heap.claimed ≡ t.walked
  claimed_is = blocks_claimed 1 bs t.walked (no_blocks cap) in_row refl

  union_live : (b j : ℕ) → union (pieces l.names l.images) b j ≡ live heap b j
  union_live b j = union_is l.names l.images l.one_each b j ∙ sym (live_blocks 1 bs t.walked (no_blocks cap) in_row (λ y le. refl) b j ∙ add_nil (of_blocks bs b j))

  pub has_begun : HasBegun T us cap regs t
  has_begun = record {
    heap = heap;
    begins = record {
      names = l.names;
      begin = record {
        start = record {
          main = proc_at T.procs 0;
          regs = regs;
          pieces = pieces l.names l.images;
          blocks = bs;
          is_main = main_found T T.procs formed.main_first;
          beginning = refl;
          inputs = subst (λ rs. AllRepresent (reps_of T.ins) us rs (pieces l.names l.images)) (sym l.regs_are)
              (represent T.ins us l.images l.names l.are_images held_us (row_words 1 l.names (blocks_in l.images) t.walked l.one_each in_row (let f = few in omega (arith, f))));
          all_live = record { apart = apart 1 l.names l.images t.walked l.one_each in_row; all = union_live };
          made = ap (λ k. with_blocks (no_blocks k) bs) (sym cap_is);
          named = are_named heap.cap 1 bs t.walked (omega arith) (let f = few in let c = cap_is in omega (arith, f, c)) in_row;
          capacity = let c = cap_is in omega (arith, c);
          room = let f = few in let c = cap_is in let q = claimed_is in omega (arith, f, c, q);
        };
        images = l.images;
        are_images = l.are_images;
        one_each = l.one_each;
        registers = l.regs_are;
        blocks = refl;
        capacity = cap_is;
      };
      same = row_names 1 l.names (blocks_in l.images) t.walked l.one_each in_row;
    };
    live_is_held = fun_ext (λ c. fun_ext (λ j. l.ready.live_is_held c j));
    holds = l.ready.holds;
    capacity = l.cap ∙ empty.capacity;
    claimed = claimed_is;
    new = l.ready.new;
  }

pub placed_begin : PlacedInputsBegin
placed_begin T us cap regs s t formed h small empty all row within = has_begun T us cap regs s t formed h small empty all row within

-- ---- later names

pub later_new : LaterNamesAreNew
later_new T us cap regs s t names begun row drawn row_t within same =
    let c = begun.begins.begin.capacity in
    row_fresh begun.heap s.walked names t.walked (row_behind 1 s.drawn names s.walked t.walked row (subst (λ ds. IsInRow 1 ds t.walked) drawn row_t)) (omega (arith, c, same, within)) begun.new
