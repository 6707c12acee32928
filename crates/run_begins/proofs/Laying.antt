-- Images put one behind the other, and the heap in which their blocks were made.
use Rattle.std.proofs.Common.{◌≡◌, ◌≢◌, ℕ, zero, suc, ◌+◌, ◌-◌, ◌*◌, ◌^◌, ◌<◌, ◌≤◌, ◌⊎◌, inl, inr, ⊎_elim, Bool, true, false, cond, List, [], ◌∷◌, ◌++◌, length, drop, refl, sym, ap, ◌∙◌, subst, append_assoc, arith, eqb, eqb-true, ne_eqb}
use Rattle.std.proofs.lemmas.Bool.{cond-true, cond-false}
use Rattle.std.specs.Prelude.{Option, Some, None, slice_index, slice_get, option_to_list, if◌then◌else◌, ◌==◌}
use Rattle.std.specs.List.{zip}
use Rattle.nres_core.specs.declared.value.Value.{Value}
use Rattle.target_code.specs.declared.tree.InParam.{InParam}
use Rattle.target_code.specs.declared.tree.Rep.{Rep}
use Rattle.target_meaning.specs.Machine.{Heap, Cell, Never, Live, with_words, with_blocks, put_cell}
use Rattle.target_meaning.specs.Piece.{Share, Nil, Some_of, Piece, Holds, at_place, whole}
use Rattle.branch_exec.specs.Stores.{Kept}
use Rattle.store_blocks.specs.Blocks.{IsPut, block_with, whole_word, with_block}
use Rattle.store_blocks.proofs.Putting.{put_held}
use Rattle.relations.specs.Blocks.{wholly}
use Rattle.relations.specs.Images as images
use Rattle.relations.specs.Images.{Image, named, placed}
use Rattle.relations.specs.Values.{live}
use Rattle.soundness.specs.Start.{AreImages, all_placed, blocks_in, reps_of}
use Rattle.run_inputs.specs.Placing.{AllPut, First, IsIn}
use Rattle.run_begins.proofs.Rows.{sizes}

-- the heap before blocks are put: it has what the store holds, and no name behind those walked over was made
pub record Ready (s : Kept) (h : Heap) : Type 0 where
  pub holds : Holds s.top h
  pub cap : h.cap ≡ s.cap
  pub new : (y : ℕ) → s.walked < y → h.cells y ≡ Never
  pub live_is_held : (c j : ℕ) → s.top c j ≡ live h c j

-- images that were put: their names and blocks, and the heap after them
pub record Laid (is : List InParam) (us : List Value) (s : Kept) (regs : List ℕ) (t : Kept) (h : Heap) : Type 0 where
  pub images : List Image
  pub are_images : AreImages (reps_of is) us images
  pub names : List ℕ
  pub one_each : length names ≡ length (blocks_in images)
  pub regs_are : regs ≡ all_placed names images
  pub drawn : t.drawn ≡ s.drawn ++ sizes (zip names (blocks_in images))
  pub cap : t.cap ≡ s.cap
  pub walked : s.walked ≤ t.walked
  pub ready : Ready t (with_blocks h (zip names (blocks_in images)))

nil_behind : {A : Type 0} (xs : List A) → xs ++ [] ≡ xs
nil_behind [] = refl
nil_behind (x ∷ xs) = ap (λ ys. x ∷ ys) (nil_behind xs)

-- the words of a block that was put are those that stand in it
word_same : (o : Option ℕ) → whole_word o ≡ wholly o
word_same None = refl
word_same (Some v) = refl

place_same : (ws : List ℕ) (j : ℕ) → block_with ws j ≡ wholly (at_place (Live ws) j)
place_same ws zero = refl
place_same ws (suc i) = word_same (slice_get ws i)

put_live : (p : Piece) (h : Heap) (x : ℕ) (ws : List ℕ) → ((c j : ℕ) → p c j ≡ live h c j) → (c j : ℕ) → with_block p x ws c j ≡ live (with_words h x ws) c j
put_live p h x ws e c j = at (c == x)
  where
    at : (b : Bool) → (if b then block_with ws j else p c j) ≡ wholly (at_place (if b then Live ws else h.cells c) j)
    at true = place_same ws j
    at false = e c j

-- the heap after one block
one_ready : (s t : Kept) (x : ℕ) (ws : List ℕ) (h : Heap) → IsPut s t x ws → Ready s h → Ready t (with_words h x ws)
one_ready s t x ws h w r = record {
  holds = put_held s t x ws h w r.holds r.cap (r.new x w.new);
  cap = r.cap ∙ sym w.cap;
  new = λ y lt.
      let re = w.reached in
      let other : y ≢ x = λ q. omega (arith, q, re) in
      cond-false (eqb y x) (Live ws) (h.cells y) (ne_eqb y x other) ∙ r.new y (let n = w.new in omega (arith, re, n));
  live_is_held = λ c j. ap (λ (p : Piece). p c j) w.top ∙ put_live s.top h x ws r.live_is_held c j;
}

module _ (i : InParam) (is : List InParam) (x : Value) (us : List Value) (s m t : Kept) (others : List ℕ) (h : Heap) where
  none_laid : (rs : List ℕ) (name : ℕ) → images.image i.rep x ≡ Some (record { regs = rs; block = None }) → m ≡ s → Laid is us m others t h → Laid (i ∷ is) (x ∷ us) s (rs ++ others) t h
  none_laid rs name e q l = subst (λ z. Laid (i ∷ is) (x ∷ us) z (rs ++ others) t h) q (record {
    images = record { regs = rs; block = None } ∷ l.images;
    are_images = (e, l.are_images);
    names = l.names;
    one_each = l.one_each;
    regs_are = ap (λ us. rs ++ us) l.regs_are;
    drawn = l.drawn;
    cap = l.cap;
    walked = l.walked;
    ready = l.ready;
  })

  some_laid : (rs ws : List ℕ) (name : ℕ) → images.image i.rep x ≡ Some (record { regs = rs; block = Some ws }) → IsPut s m name ws → Laid is us m others t (with_words h name ws)
      → Laid (i ∷ is) (x ∷ us) s ((name ∷ drop 1 rs) ++ others) t h
  some_laid rs ws name e w l = record {
    images = record { regs = rs; block = Some ws } ∷ l.images;
    are_images = (e, l.are_images);
    names = name ∷ l.names;
    one_each = ap suc l.one_each;
    regs_are = ap (λ us. (name ∷ drop 1 rs) ++ us) l.regs_are;
    drawn = l.drawn ∙ (ap (λ ds. ds ++ sizes (zip l.names (blocks_in l.images))) w.drawn ∙ append_assoc s.drawn ((name, length ws) ∷ []) (sizes (zip l.names (blocks_in l.images))));
    cap = l.cap ∙ w.cap;
    walked = let a = l.walked in let b = w.reached in let n = w.new in omega (arith, a, b, n);
    ready = l.ready;
  }

pub laid : (is : List InParam) (us : List Value) (s : Kept) (regs : List ℕ) (t : Kept) (h : Heap) → AllPut is us s regs t → Ready s h → Laid is us s regs t h
laid [] [] s regs t h a r = subst (λ z. Laid [] [] s regs z h) (sym a.0) (record {
  images = [];
  are_images = tt;
  names = [];
  one_each = refl;
  regs_are = a.1;
  drawn = sym (nil_behind s.drawn);
  cap = refl;
  walked = omega arith;
  ready = r;
})
laid [] (x ∷ us) s regs t h a r = absurd a
laid (i ∷ is) [] s regs t h a r = absurd a
laid (i ∷ is) (x ∷ us) s regs t h a r = by a.image.block a.is_image a.put a.regs_are (λ g q. laid is us a.between a.others t g a.rest q)
  where
    by : (o : Option (List ℕ)) → images.image i.rep x ≡ Some (record { regs = a.image.regs; block = o }) → IsIn o a.name s a.between → regs ≡ named a.name o a.image.regs ++ a.others
        → ((g : Heap) → Ready a.between g → Laid is us a.between a.others t g) → Laid (i ∷ is) (x ∷ us) s regs t h
    by None e p q rest =
        subst (λ rs. Laid (i ∷ is) (x ∷ us) s rs t h) (sym q)
        (none_laid i is x us s a.between t a.others h a.image.regs a.name e p (rest h (subst (λ z. Ready z h) (sym p) r)))
    by (Some ws) e p q rest =
        subst (λ rs. Laid (i ∷ is) (x ∷ us) s rs t h) (sym q)
        (some_laid i is x us s a.between t a.others h a.image.regs ws a.name e p (rest (with_words h a.name ws) (one_ready s a.between a.name ws h p r)))
