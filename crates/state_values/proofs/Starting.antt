-- The beginning of a program whose inputs were laid in a state.
use Rattle.std.proofs.Common.{◌≡◌, ℕ, ◌+◌, ◌^◌, ◌<◌, ◌≤◌, ◌⊎◌, inl, inr, List, [], ◌∷◌, ◌++◌, length, drop, refl, sym, ap, ◌∙◌, subst, arith}
use Rattle.std.specs.Prelude.{Option, Some, None}
use Rattle.std.specs.List.{zip}
use Rattle.atomic_table.specs.Seated.{TableId}
use Rattle.nres_core.specs.declared.value.Value.{Value}
use Rattle.target_code.specs.Formed.{Formed}
use Rattle.target_code.specs.declared.tree.InParam.{InParam}
use Rattle.target_code.specs.declared.tree.Proc.{Proc}
use Rattle.target_code.specs.declared.tree.Program.{Program}
use Rattle.target_code.specs.declared.tree.Rep.{Rep}
use Rattle.target_meaning.specs.Leaf.{Stack, Run, begin}
use Rattle.target_meaning.specs.Machine.{Heap, claims, no_blocks, with_blocks, with_words}
use Rattle.target_meaning.specs.Piece.{none}
use Rattle.target_meaning.specs.Stacks.{proc_at}
use Rattle.target_meaning.specs.States.{MachineState, first_state}
use Rattle.branch_exec.specs.Stores.{Kept}
use Rattle.store_blocks.specs.Blocks.{IsPut, with_block}
use Rattle.relations.specs.Images.{Image, image, placed}
use Rattle.image_laws.proofs.Encodes.{values_have_images}
use Rattle.soundness.specs.Start.{AreImages, BeginFromOne, all_placed, blocks_in, names_from, reps_of}
use Rattle.run_inputs.specs.Placing.{AllFit, AllPut, Fits}
use Rattle.run_stores.specs.Rows.{IsInRow}
use Rattle.run_begins.specs.Beginning.{AreHeld, AreUnfit, FirstPast}
use Rattle.run_begins.proofs.Starting.{placed_begin}
use Rattle.state_values.specs.Beginning.{IsBegun, OneBeginning, UnfitBeginsNot}
use Rattle.state_values.specs.Laying.{AllLaid, IsPast, StopsAt, claim, named_block}

-- ---- images that were laid

-- images of values behind so many claimed words, with what is laid of them
pub record Laid (cap : ℕ) (is : List InParam) (us : List Value) (c : ℕ) (regs : List ℕ) (blocks : List (ℕ × List ℕ)) : Type 0 where
  pub images : List Image
  pub are_images : AreImages (reps_of is) us images
  pub regs_are : regs ≡ all_placed (names_from (c + 1) (blocks_in images)) images
  pub blocks_are : blocks ≡ zip (names_from (c + 1) (blocks_in images)) (blocks_in images)
  pub room : c + claims blocks ≤ cap

module _ (cap : ℕ) (i : InParam) (is : List InParam) (x : Value) (us : List Value) (c : ℕ) (rs others : List ℕ) (more : List (ℕ × List ℕ)) where
  bare_laid : image i.rep x ≡ Some (record { regs = rs; block = None }) → Laid cap is us c others more → Laid cap (i ∷ is) (x ∷ us) c (rs ++ others) more
  bare_laid e l = record {
    images = record { regs = rs; block = None } ∷ l.images;
    are_images = (e, l.are_images);
    regs_are = ap (λ z. rs ++ z) l.regs_are;
    blocks_are = l.blocks_are;
    room = l.room;
  }

  block_laid : (ws : List ℕ) → image i.rep x ≡ Some (record { regs = rs; block = Some ws }) → Laid cap is us (c + (1 + length ws)) others more
      → Laid cap (i ∷ is) (x ∷ us) c (((c + 1) ∷ drop 1 rs) ++ others) ((c + 1, ws) ∷ more)
  block_laid ws e l =
      let next : c + (1 + length ws) + 1 ≡ c + 1 + length ws + 1 = omega arith in
      record {
        images = record { regs = rs; block = Some ws } ∷ l.images;
        are_images = (e, l.are_images);
        regs_are = ap (λ z. ((c + 1) ∷ drop 1 rs) ++ z) (l.regs_are ∙ ap (λ n. all_placed (names_from n (blocks_in l.images)) l.images) next);
        blocks_are = ap (λ z. (c + 1, ws) ∷ z) (l.blocks_are ∙ ap (λ n. zip (names_from n (blocks_in l.images)) (blocks_in l.images)) next);
        room = let r = l.room in omega (arith, r);
      }

pub laid : (cap : ℕ) (is : List InParam) (us : List Value) (c : ℕ) (regs : List ℕ) (blocks : List (ℕ × List ℕ)) → c ≤ cap → AllLaid cap is us c regs blocks → Laid cap is us c regs blocks
laid cap [] [] c regs blocks le a =
    subst (λ bs. Laid cap [] [] c regs bs) (sym a.1) (subst (λ rs. Laid cap [] [] c rs []) (sym a.0) (record { images = []; are_images = tt; regs_are = refl; blocks_are = refl; room = omega (arith, le) }))
laid cap [] (x ∷ us) c regs blocks le a = absurd a
laid cap (i ∷ is) [] c regs blocks le a = absurd a
laid cap (i ∷ is) (x ∷ us) c regs blocks le a =
    let m = by a.image_of.regs a.image_of.block a.is_image a.room a.others a.more (laid cap is us (c + claim a.image_of.block) a.others a.more a.room a.rest) in
    subst (λ bs. Laid cap (i ∷ is) (x ∷ us) c regs bs) (sym a.blocks_are) (subst (λ rs. Laid cap (i ∷ is) (x ∷ us) c rs (named_block (c + 1) a.image_of.block ++ a.more)) (sym a.regs_are) m)
  where
    by : (rs : List ℕ) (o : Option (List ℕ)) → image i.rep x ≡ Some (record { regs = rs; block = o }) → c + claim o ≤ cap → (others : List ℕ) (more : List (ℕ × List ℕ))
        → Laid cap is us (c + claim o) others more → Laid cap (i ∷ is) (x ∷ us) c (placed (c + 1) (record { regs = rs; block = o }) ++ others) (named_block (c + 1) o ++ more)
    by rs None e r others more l =
        bare_laid cap i is x us c rs others more e (subst (λ n. Laid cap is us n others more) (let q : c + 0 ≡ c = omega arith in q) l)
    by rs (Some ws) e r others more l = block_laid cap i is x us c rs others more ws e l

-- ---- a store in which they stand

-- a row with one block more
row_more : (x : ℕ) (bs : List (ℕ × ℕ)) (c y n : ℕ) → IsInRow x bs c → y ≡ c + 1 → IsInRow x (bs ++ (y, n) ∷ []) (c + (1 + n))
row_more x [] c y n r e = let q : x ≡ c + 1 = r in (e ∙ sym q, (let z : x + n + 1 ≡ c + (1 + n) + 1 = omega (arith, q) in z))
row_more x (b ∷ bs) c y n r e = (r.0, row_more (x + b.1 + 1) bs c y n r.1 e)

-- a store after a block
abbrev pub put : Kept → ℕ → List ℕ → Kept
put s x ws = record {
  below = s.below;
  top = with_block s.top x ws;
  drawn = s.drawn ++ (x, length ws) ∷ [];
  walked = x + length ws;
  cap = s.cap;
  place = s.place;
  weight = s.weight;
}

-- a store whose blocks lie in a row up to so many words
pub record InRow (cap c : ℕ) (s : Kept) : Type 0 where
  pub walked : s.walked ≡ c
  pub room : s.cap ≡ cap
  pub row : IsInRow 1 s.drawn c

pub record Stored (cap : ℕ) (is : List InParam) (us : List Value) (s : Kept) (regs : List ℕ) : Type 0 where
  pub after : Kept
  pub all : AllPut is us s regs after
  pub row : IsInRow 1 after.drawn after.walked
  pub within : after.walked ≤ after.cap

stored : (cap : ℕ) (is : List InParam) (us : List Value) (c : ℕ) (regs : List ℕ) (blocks : List (ℕ × List ℕ)) (s : Kept) → c ≤ cap → InRow cap c s → AllLaid cap is us c regs blocks → Stored cap is us s regs
stored cap [] [] c regs blocks s le r a =
    record { after = s; all = (refl, a.0); row = subst (λ n. IsInRow 1 s.drawn n) (sym r.walked) r.row; within = let w = r.walked in let q = r.room in omega (arith, w, q, le) }
stored cap [] (x ∷ us) c regs blocks s le r a = absurd a
stored cap (i ∷ is) [] c regs blocks s le r a = absurd a
stored cap (i ∷ is) (x ∷ us) c regs blocks s le r a = by a.image_of.regs a.image_of.block a.is_image a.room a.others a.regs_are (λ m q. stored cap is us (c + claim a.image_of.block) a.others a.more m a.room q a.rest)
  where
    by : (rs : List ℕ) (o : Option (List ℕ)) → image i.rep x ≡ Some (record { regs = rs; block = o }) → c + claim o ≤ cap → (others : List ℕ) → regs ≡ placed (c + 1) (record { regs = rs; block = o }) ++ others
        → ((m : Kept) → InRow cap (c + claim o) m → Stored cap is us m others) → Stored cap (i ∷ is) (x ∷ us) s regs
    by rs None e fits others regs_are rest =
        let same : c + 0 ≡ c = omega arith in
        let k = rest s (subst (λ n. InRow cap n s) (sym same) r) in
        record {
          after = k.after;
          all = record { image = record { regs = rs; block = None }; is_image = e; name = c + 1; between = s; put = refl; others = others; regs_are = regs_are; rest = k.all };
          row = k.row;
          within = k.within;
        }
    by rs (Some ws) e fits others regs_are rest =
        let m = put s (c + 1) ws in
        let w = r.walked in
        let q = r.room in
        let there : IsPut s m (c + 1) ws = record {
          new = omega (arith, w);
          fits = omega (arith, q, fits);
          reached = refl;
          below = refl;
          top = refl;
          drawn = refl;
          cap = refl;
          place = refl;
          weight = refl;
        } in
        let k = rest m (record { walked = (let z : c + 1 + length ws ≡ c + (1 + length ws) = omega arith in z); room = r.room; row = row_more 1 s.drawn c (c + 1) (length ws) r.row refl }) in
        record {
          after = k.after;
          all = record { image = record { regs = rs; block = Some ws }; is_image = e; name = c + 1; between = m; put = there; others = others; regs_are = regs_are; rest = k.all };
          row = k.row;
          within = k.within;
        }

no_table : TableId
no_table = record { words = 0; slots = 0; views_name = 0; atom = 0; block = 0; offset = 0; slot_names = [] }

abbrev empty_store : ℕ → Kept
empty_store cap = record { below = []; top = none; drawn = []; walked = 0; cap = cap; place = no_table; weight = 0 }

-- ---- a value has one image

same_image : (i j : Image) → Some i ≡ Some j → i ≡ j
same_image i j e = cc e

pub one_image_each : (rs : List Rep) (us : List Value) (is js : List Image) → AreImages rs us is → AreImages rs us js → is ≡ js
one_image_each [] [] [] [] a b = refl
one_image_each [] [] [] (j ∷ js) a b = absurd b
one_image_each [] [] (i ∷ is) js a b = absurd a
one_image_each [] (x ∷ us) is js a b = absurd a
one_image_each (r ∷ rs) [] is js a b = absurd a
one_image_each (r ∷ rs) (x ∷ us) [] js a b = absurd a
one_image_each (r ∷ rs) (x ∷ us) (i ∷ is) [] a b = absurd b
one_image_each (r ∷ rs) (x ∷ us) (i ∷ is) (j ∷ js) a b =
    let first : i ≡ j = same_image i j (sym a.0 ∙ b.0) in
    let rest : is ≡ js = one_image_each rs us is js a.1 b.1 in
    (λ k. first k ∷ rest k)

-- ---- one beginning

-- the heap and the registers that images make
abbrev pub heap_on : ℕ → List Image → Heap
heap_on cap is = with_blocks (no_blocks cap) (zip (names_from 1 (blocks_in is)) (blocks_in is))

abbrev pub regs_on : List Image → List ℕ
regs_on is = all_placed (names_from 1 (blocks_in is)) is

module _ (T : Program) (us : List Value) (cap : ℕ) (s : Stack) (h : Heap) (b : BeginFromOne T us cap s h) where
  pub heap_is : h ≡ heap_on cap b.begin.images
  heap_is =
      b.begin.start.made
      ∙ ap (λ bs. with_blocks (no_blocks h.cap) bs) b.begin.blocks
      ∙ ap (λ c. with_blocks (no_blocks c) (zip b.names (blocks_in b.begin.images))) b.begin.capacity
      ∙ ap (λ ns. with_blocks (no_blocks cap) (zip ns (blocks_in b.begin.images))) b.same

  pub regs_are : b.begin.start.regs ≡ regs_on b.begin.images
  regs_are = b.begin.registers ∙ ap (λ ns. all_placed ns b.begin.images) b.same

same_proc : (p q : Proc) → Some p ≡ Some q → p ≡ q
same_proc p q e = cc e

pub one_beginning : OneBeginning
one_beginning T us cap s r h k b c =
    let same = one_image_each (reps_of T.ins) us b.begin.images c.begin.images b.begin.are_images c.begin.are_images in
    let main : b.begin.start.main ≡ c.begin.start.main = same_proc b.begin.start.main c.begin.start.main (sym b.begin.start.is_main ∙ c.begin.start.is_main) in
    let regs : b.begin.start.regs ≡ c.begin.start.regs = regs_are T us cap s h b ∙ ap regs_on same ∙ sym (regs_are T us cap r k c) in (
      b.begin.start.beginning ∙ (λ j. Run (begin (main j) (regs j)) []) ∙ sym c.begin.start.beginning,
      heap_is T us cap s h b ∙ ap (heap_on cap) same ∙ sym (heap_is T us cap r k c),
    )

-- ---- the state that was laid

pub is_begun : (T : Program) (us : List Value) (cap : ℕ) (regs : List ℕ) (blocks : List (ℕ × List ℕ)) (m : MachineState)
    → Formed T → AreHeld us → cap < 2 ^ 64 → AllLaid cap T.ins us 0 regs blocks → m ≡ first_state T.procs regs blocks cap → IsBegun T us cap m
is_begun T us cap regs blocks m formed held small all e =
    let s = empty_store cap in
    let k = stored cap T.ins us 0 regs blocks s (omega arith) (record { walked = refl; room = refl; row = refl }) all in
    let begun = placed_begin T us cap regs s k.after formed held small (record { below = refl; top = refl; drawn = refl; walked = refl; capacity = refl }) k.all k.row k.within in
    let l = laid cap T.ins us 0 regs blocks (omega arith) all in
    let stack = Run (begin (proc_at T.procs 0) regs) [] in
    let same = one_image_each (reps_of T.ins) us begun.begins.begin.images l.images begun.begins.begin.are_images l.are_images in
    let heap : begun.heap ≡ with_blocks (no_blocks cap) blocks =
    heap_is T us cap stack begun.heap begun.begins ∙ ap (heap_on cap) same ∙ ap (λ bs. with_blocks (no_blocks cap) bs) (sym l.blocks_are) in
    record { stack = stack; heap = with_blocks (no_blocks cap) blocks; begins = subst (λ h. BeginFromOne T us cap stack h) heap begun.begins; is = e }

-- ---- inputs that do not fit

has_image : (r : Rep) (x : Value) → Fits r x → (i : Image) × (image r x ≡ Some i)
has_image r x f = by (image r x) refl
  where
    by : (o : Option Image) → image r x ≡ o → (i : Image) × (image r x ≡ Some i)
    by None e = let w = (values_have_images r x f.of_type).one e in absurd (f.inside w.0 w.1)
    by (Some i) e = (i, e)

all_images : (is : List InParam) (us : List Value) → AllFit is us → (ims : List Image) × AreImages (reps_of is) us ims
all_images [] [] f = ([], tt)
all_images [] (x ∷ us) f = absurd f
all_images (i ∷ is) [] f = absurd f
all_images (i ∷ is) (x ∷ us) f =
    let one = has_image i.rep x f.0 in
    let more = all_images is us f.1 in
    (one.0 ∷ more.0, (one.1, more.1))

past : (cap : ℕ) (is : List InParam) (us : List Value) (c at len : ℕ) → AllFit is us → StopsAt cap is us c at len → (ims : List Image) × AreImages (reps_of is) us ims × FirstPast cap c (blocks_in ims) at len
past cap [] [] c at len f a = absurd a
past cap [] (x ∷ us) c at len f a = absurd a
past cap (i ∷ is) [] c at len f a = absurd a
past cap (i ∷ is) (x ∷ us) c at len f a = by a.image_of.regs a.image_of.block a.is_image a.either (λ d b. past cap is us d at len f.1 b)
  where
    by : (rs : List ℕ) (o : Option (List ℕ)) → image i.rep x ≡ Some (record { regs = rs; block = o }) → (IsPast cap o c at len ⊎ ((c + claim o ≤ cap) × StopsAt cap is us (c + claim o) at len))
        → ((d : ℕ) → StopsAt cap is us d at len → (ims : List Image) × AreImages (reps_of is) us ims × FirstPast cap d (blocks_in ims) at len)
        → (ims : List Image) × AreImages (reps_of (i ∷ is)) (x ∷ us) ims × FirstPast cap c (blocks_in ims) at len
    by rs None e (inl out) rest = absurd out
    by rs (Some ws) e (inl out) rest =
        let more = all_images is us f.1 in
        (record { regs = rs; block = Some ws } ∷ more.0, (e, more.1), inl out)
    by rs None e (inr w) rest =
        let same : c + 0 ≡ c = omega arith in
        let m = rest c (subst (λ n. StopsAt cap is us n at len) same w.1) in
        (record { regs = rs; block = None } ∷ m.0, (e, m.1), m.2)
    by rs (Some ws) e (inr w) rest =
        let same : c + (1 + length ws) ≡ c + 1 + length ws = omega arith in
        let m = rest (c + 1 + length ws) (subst (λ n. StopsAt cap is us n at len) same w.1) in
        let fits = w.0 in
        (record { regs = rs; block = Some ws } ∷ m.0, (e, m.1), inr (omega (arith, fits), m.2))

pub are_unfit : (T : Program) (us : List Value) (cap at len : ℕ) → AllFit T.ins us → StopsAt cap T.ins us 0 at len → AreUnfit T us cap at len
are_unfit T us cap at len f a = let p = past cap T.ins us 0 at len f a in record { images = p.0; are_images = p.1; past = p.2 }

-- ---- what does not fit begins nothing

-- so many words do blocks claim
abbrev pub sum_of : List (List ℕ) → ℕ
sum_of [] = 0
sum_of (b ∷ bs) = 1 + length b + sum_of bs

past_over : (cap c : ℕ) (bs : List (List ℕ)) (at len : ℕ) → FirstPast cap c bs at len → cap < c + sum_of bs
past_over cap c [] at len p = absurd p
past_over cap c (b ∷ bs) at len (inl p) = let q = p.0 in omega (arith, q)
past_over cap c (b ∷ bs) at len (inr p) = let q = past_over cap (c + 1 + length b) bs at len p.1 in omega (arith, q)

claimed_by : (x : ℕ) (bs : List (List ℕ)) (h : Heap) → (with_blocks h (zip (names_from x bs) bs)).claimed ≡ h.claimed + sum_of bs
claimed_by x [] h = (let e : h.claimed ≡ h.claimed + 0 = omega arith in e)
claimed_by x (b ∷ bs) h = let q = claimed_by (x + length b + 1) bs (with_words h x b) in omega (arith, q)

one_past : (cap c : ℕ) (bs : List (List ℕ)) (at len to more : ℕ) → FirstPast cap c bs at len → FirstPast cap c bs to more → (at ≡ to) × (len ≡ more)
one_past cap c [] at len to more p q = absurd p
one_past cap c (b ∷ bs) at len to more (inl p) (inl q) = (p.1 ∙ sym q.1, p.2 ∙ sym q.2)
one_past cap c (b ∷ bs) at len to more (inl p) (inr q) = let x = p.0 in let y = q.0 in absurd (let z : ⊥ = omega (arith, x, y) in z)
one_past cap c (b ∷ bs) at len to more (inr p) (inl q) = let x = p.0 in let y = q.0 in absurd (let z : ⊥ = omega (arith, x, y) in z)
one_past cap c (b ∷ bs) at len to more (inr p) (inr q) = one_past cap (c + 1 + length b) bs at len to more p.1 q.1

pub unfit_begins_not : UnfitBeginsNot
unfit_begins_not = record {
  none = λ T us cap at len s h u b.
      let same = one_image_each (reps_of T.ins) us u.images b.begin.images u.are_images b.begin.are_images in
      let over = past_over cap 0 (blocks_in u.images) at len u.past in
      let sums : sum_of (blocks_in u.images) ≡ sum_of (blocks_in b.begin.images) = ap (λ is. sum_of (blocks_in is)) same in
      let claimed : h.claimed ≡ 0 + sum_of (blocks_in b.begin.images) =
      ap (λ (k : Heap). k.claimed) (heap_is T us cap s h b) ∙ claimed_by 1 (blocks_in b.begin.images) (no_blocks cap) in
      let room = b.begin.start.room in
      let capacity = b.begin.capacity in
      let z : ⊥ = omega (arith, over, sums, claimed, room, capacity) in z;
  one = λ T us cap at len to more u v.
      let same = one_image_each (reps_of T.ins) us u.images v.images u.are_images v.are_images in
      one_past cap 0 (blocks_in v.images) at len to more (subst (λ is. FirstPast cap 0 (blocks_in is) at len) same u.past) v.past;
}
