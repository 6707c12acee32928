-- Steps keep heaps lawful.
use Rattle.std.proofs.Common.{◌≡◌, ℕ, ◌<◌, ◌≤◌, List, [], ◌∷◌, length, replicate, refl, sym, ap, ◌∙◌, subst, arith, ⊎_elim, lit<, eqb}
use Rattle.std.proofs.lemmas.Bool.{cond-true, cond-false}
use Rattle.std.proofs.lemmas.Bool.Decides.{eqb_tells}
use Rattle.std.proofs.lemmas.List.{length-set, length-replicate}
use Rattle.std.specs.Prelude.{slice_set, slice_index, nat_lt}
use Rattle.target_code.specs.declared.tree.Proc.{Proc}
use Rattle.target_meaning.specs.declared.answer.Reason.TheVariants.{Index}
use Rattle.target_meaning.specs.declared.path.Side.{Side}
use Rattle.target_meaning.specs.declared.path.Side.TheVariants.{Left, Right}
use Rattle.target_meaning.specs.Leaf.{Stack, Run, End, Wait, Act, Go, Read, Write, Make, Cut, Split, Over, Bad, act}
use Rattle.target_meaning.specs.Machine.{Heap, Cell, Never, Live, Freed, Tree, Leaf, Fork, Moved, Stuck, Full, NameUsed, Notes, Room, IsSized, is_new, with_cell, with_block, read_cell, write_cell, cut_cell, perform, join_both, move}
use Rattle.target_meaning.specs.Piece.{IsHeap}
use Rattle.target_meaning.specs.Runs.{OnMoved}
use Rattle.target_meaning.specs.Samples.{reading_heap}
use Rattle.target_meaning.proofs.Keeps.{heap_with, new_below}
use Rattle.target_meaning.proofs.Moved.{moved_if, moved_inside}
use Rattle.run_notes.specs.Steps.{name_past}

abbrev Lawful : {A : Type 0} → Tree A → Heap → Type 0
Lawful u g = IsHeap g

module _ {A : Type 0} (N : Notes A) (room : Room) (sized : IsSized room) (h : Heap) (ok : IsHeap h) where
  read_lawful : (c : Cell) (i : ℕ) (a : A) (k : ℕ → Stack) → OnMoved (read_cell N c i a k h) Lawful
  read_lawful Never i a k = tt
  read_lawful Freed i a k = tt
  read_lawful (Live ws) i a k = moved_if (nat_lt i (length ws)) (Moved (Leaf a (k (slice_index ws i))) h) (Stuck Index) Lawful (λ e. ok) (λ e. tt)

  write_lawful : (c : Cell) (b i v : ℕ) (a : A) (s : Stack) → h.cells b ≡ c → OnMoved (write_cell N c b i v a s h) Lawful
  write_lawful Never b i v a s e = tt
  write_lawful Freed b i v a s e = tt
  write_lawful (Live ws) b i v a s e =
      moved_if (nat_lt i (length ws)) (Moved (Leaf a s) (with_cell h b (Live (slice_set ws i v)))) (Stuck Index) Lawful
      (λ lt. heap_with h b (Live (slice_set ws i v)) ok (λ us d. let k : slice_set ws i v ≡ us = cc d in (omega (arith, ok.short b ws e, length-set ws i v, ap length k), ok.named b ws e))) (λ lt. tt)

  cut_lawful : (c : Cell) (b : ℕ) (a : A) (s : Stack) → OnMoved (cut_cell N c b a s h) Lawful
  cut_lawful Never b a s = tt
  cut_lawful Freed b a s = tt
  cut_lawful (Live ws) b a s = heap_with h b Freed ok (λ us d. absurd (let f : ⊥ = cc d in f))

  made_lawful : (x n : ℕ) → n < h.cap → x ≤ h.cap → IsHeap (with_block h x n)
  made_lawful x n room' name = record { word = made.word; short = made.short; named = made.named }
    where
      made : IsHeap (with_cell h x (Live (replicate n 0)))
      made = heap_with h x (Live (replicate n 0)) ok (λ us d. let l : replicate n 0 ≡ us = cc d in (omega (arith, room', length-replicate {A = ℕ} n 0, ap length l), name))

  perform_lawful : (a : A) (e : Act) (x : ℕ) → OnMoved (perform N room a e h x) Lawful
  perform_lawful a (Go s) x = ok
  perform_lawful a (Read b i k) x = read_lawful (h.cells b) i _ k
  perform_lawful a (Write b i v s) x = write_lawful (h.cells b) b i v _ s refl
  perform_lawful a (Make n k) x =
      moved_if (room h n) _ Full Lawful
      (λ e. moved_if (is_new h x) (Moved (Leaf (N.after a (Make n k) x) (k x)) (with_block h x n)) NameUsed Lawful
      (λ d. made_lawful x n (sized h n e) (new_below h x d)) (λ d. tt)) (λ e. tt)
  perform_lawful a (Cut b s) x = cut_lawful (h.cells b) b _ s
  perform_lawful a (Split l r w) x = ok
  perform_lawful a Over x = tt
  perform_lawful a (Bad r) x = tt

  join_lawful : (a : A) (w : Wait) (l r : Tree A) → OnMoved (join_both N a w l r h) Lawful
  join_lawful a w (Leaf p (End xs)) (Leaf q (End ys)) = ok
  join_lawful a w (Leaf p (End xs)) (Leaf q (Run f cs)) = tt
  join_lawful a w (Leaf p (Run f cs)) (Leaf q t) = tt
  join_lawful a w (Leaf p s) (Fork q v y z) = tt
  join_lawful a w (Fork p v y z) r = tt

  pub move_lawful : (T : List Proc) (t : Tree A) (path : List Side) (x : ℕ) → OnMoved (move N room T t h path x) Lawful
  move_lawful T (Leaf a s) [] x = perform_lawful a (act T s) x
  move_lawful T (Leaf a s) (d ∷ ds) x = tt
  move_lawful T (Fork a w l r) [] x = join_lawful a w l r
  move_lawful T (Fork a w l r) (Left ∷ ds) x = moved_inside N (move N room T l h ds x) (λ t. Fork a w t r) Lawful (move_lawful T l ds x)
  move_lawful T (Fork a w l r) (Right ∷ ds) x = moved_inside N (move N room T r h ds x) (λ t. Fork a w l t) Lawful (move_lawful T r ds x)

pub reading_lawful : IsHeap reading_heap
reading_lawful = record {
  word = lit< tt;
  short = λ b ws e.
      ⊎_elim
      (λ k. let l : 7 ∷ 8 ∷ [] ≡ ws = cc (sym (cond-true (eqb b 1) (Live (7 ∷ 8 ∷ [])) Never k.0) ∙ e) in subst (λ us. length us < 16) l (lit< tt))
      (λ k. let f : ⊥ = cc (sym (cond-false (eqb b 1) (Live (7 ∷ 8 ∷ [])) Never k.0) ∙ e) in absurd f)
      (eqb_tells b 1);
  named = λ b ws e.
      ⊎_elim
      (λ k. subst (λ n. n ≤ 16) (sym k.1) (let f : 1 ≤ 16 = omega arith in f))
      (λ k. let f : ⊥ = cc (sym (cond-false (eqb b 1) (Live (7 ∷ 8 ∷ [])) Never k.0) ∙ e) in absurd f)
      (eqb_tells b 1);
}

pub past_unlawful : IsHeap name_past → ⊥
past_unlawful ok = omega (arith, ok.named 17 [] refl)
