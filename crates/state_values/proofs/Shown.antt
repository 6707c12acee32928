-- Blocks that are live, and the values of results.
use Rattle.std.proofs.Common.{◌≡◌, ℕ, zero, suc, ◌-◌, ◌<◌, List, [], ◌∷◌, length, refl, sym, ap, ◌∙◌, arith, Result, Ok, Err, IfOk}
use Rattle.std.specs.Prelude.{Some, None, slice_get, slice_index}
use Rattle.target_code.specs.declared.tree.Proc.{Proc}
use Rattle.target_meaning.specs.Machine.{Heap, Cell, Never, Live, Freed, words_of}
use Rattle.target_meaning.specs.Piece.{Nil, Some_of, at_place, whole}
use Rattle.relations.specs.Blocks.{wholly}
use Rattle.relations.specs.Values.{live}
use Rattle.run_results.specs.Results.{HoldsBlock, IsBlock}

word_there : (ws : List ℕ) (i : ℕ) → i < length ws → wholly (slice_get ws i) ≡ Some_of (slice_index ws i) (whole - 1)
word_there [] i lt = absurd (let z : ⊥ = omega arith in z)
word_there (w ∷ ws) zero lt = refl
word_there (w ∷ ws) (suc i) lt = word_there ws i (omega arith)

-- the words of a live block are those of a block that is held whole
pub live_held : (h : Heap) (b : ℕ) (ws : List ℕ) → words_of (h.cells b) ≡ Some ws → HoldsBlock (live h) b ws
live_held h b ws e = by (h.cells b) refl e
  where
    by : (c : Cell) → h.cells b ≡ c → words_of c ≡ Some ws → HoldsBlock (live h) b ws
    by Never q f = absurd (let z : ⊥ = cc f in z)
    by Freed q f = absurd (let z : ⊥ = cc f in z)
    by (Live us) q f =
        let same : us ≡ ws = cc f in
        let is : h.cells b ≡ Live ws = q ∙ ap Live same in
        record {
          name = ap (λ c. wholly (at_place c 0)) is;
          words = λ i lt. ap (λ c. wholly (at_place c (suc i))) is ∙ word_there ws i lt;
        }

-- where no block is live, none is held
pub none_live : (h : Heap) (b : ℕ) → words_of (h.cells b) ≡ None → IsBlock (live h) b None
none_live h b e ws held = by (h.cells b) refl e
  where
    by : (c : Cell) → h.cells b ≡ c → words_of c ≡ None → ⊥
    by Never q f = let n : Nil ≡ Some_of (length ws) (whole - 1) = sym (ap (λ c. wholly (at_place c 0)) q) ∙ held.name in let z : ⊥ = cc n in z
    by Freed q f = let n : Nil ≡ Some_of (length ws) (whole - 1) = sym (ap (λ c. wholly (at_place c 0)) q) ∙ held.name in let z : ⊥ = cc n in z
    by (Live us) q f = let z : ⊥ = cc f in z

-- what holds by each list of procedures holds by all of them
pub in_each : {A E : Type 0} (P : List Proc → A → Type 0) (r : Result A E) → ((procs : List Proc) → IfOk r (P procs)) → IfOk r (λ o. (procs : List Proc) → P procs o)
in_each P (Ok o) h = h
in_each P (Err e) h = tt
