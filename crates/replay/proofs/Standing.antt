-- A leaf that is seen to be stuck is.
use Rattle.std.proofs.Common.{◌≡◌, ℕ, Bool, true, false, List, [], ◌∷◌, ◌++◌, length, refl, sym, ap, ◌∙◌, subst, nat_lt, append_assoc, append-nil, ◌⊎◌, inl, inr, ⊎_elim}
use Rattle.std.specs.Prelude.{Option, Some, None, IsSome, if◌then◌else◌}
use Rattle.target_code.specs.declared.tree.Proc.{Proc}
use Rattle.target_meaning.specs.declared.answer.Reason.{Reason}
use Rattle.target_meaning.specs.declared.answer.Reason.TheVariants.{Block, Index}
use Rattle.target_meaning.specs.declared.path.Side.{Side}
use Rattle.target_meaning.specs.declared.path.Side.TheVariants.{Left, Right}
use Rattle.target_meaning.specs.declared.view.LeafView.{LeafView}
use Rattle.target_meaning.specs.declared.view.Next.{Next}
use Rattle.target_meaning.specs.declared.view.Next.TheVariants as seen
use Rattle.target_meaning.specs.Leaf as leaf
use Rattle.target_meaning.specs.Machine as machine
use Rattle.target_meaning.specs.Machine.{Heap, Cell, Never, Live, Freed, Tree, Leaf, Fork, Answer, words_of, read_cell, write_cell, cut_cell, perform, inside, move, nothing, has_room}
use Rattle.target_meaning.specs.Views.{word_reason, block_reason, or_stuck, act_next, items_next, view_of, leaves_of}
use Rattle.replay.specs.Sights.{stuck_or, first_stuck}
use Rattle.replay.proofs.Turning.{no_stuck}
use Rattle.replay.proofs.Racing.{IsHarmless, items_harmless}

is_there : (o : Option (LeafView × Reason)) → (o ≡ None → ⊥) → IsSome o
is_there None f = absurd (f refl)
is_there (Some s) f = refl

pub stuck_told : (T : List Proc) (h : Heap) (t : Tree (Unit {0})) (path : List Side) (x : ℕ) (r : Reason) → move nothing has_room T t h path x ≡ machine.Stuck r → IsSome (first_stuck (leaves_of T h [] t))
stuck_told T h t path x r e = is_there (first_stuck (leaves_of T h [] t)) (λ none. no_stuck T t h [] path x r none e)

index_stuck : (v : Bool) (t : Tree (Unit {0})) (g : Heap) (n : Next) (r : Reason) → (n ≡ seen.Stuck r → ⊥) → or_stuck (if v then None else Some Index) n ≡ seen.Stuck r → (if v then machine.Moved t g else machine.Stuck Index) ≡ machine.Stuck r
index_stuck true t g n r f e = absurd (f e)
index_stuck false t g n r f e = ap machine.Stuck (let same : Index ≡ r = cc in same)

read_stuck : (c : Cell) (b i : ℕ) (k : ℕ → leaf.Stack) (h : Heap) (r : Reason) → or_stuck (word_reason (words_of c) i) (seen.Read b i) ≡ seen.Stuck r → read_cell nothing c i tt k h ≡ machine.Stuck r
read_stuck Never b i k h r e = ap machine.Stuck (let same : Block ≡ r = cc in same)
read_stuck Freed b i k h r e = ap machine.Stuck (let same : Block ≡ r = cc in same)
read_stuck (Live ws) b i k h r e = index_stuck (nat_lt i (length ws)) _ h (seen.Read b i) r (λ x. let f : ⊥ = cc in f) e

write_stuck : (c : Cell) (b i v : ℕ) (s : leaf.Stack) (h : Heap) (r : Reason) → or_stuck (word_reason (words_of c) i) (seen.Write b i) ≡ seen.Stuck r → write_cell nothing c b i v tt s h ≡ machine.Stuck r
write_stuck Never b i v s h r e = ap machine.Stuck (let same : Block ≡ r = cc in same)
write_stuck Freed b i v s h r e = ap machine.Stuck (let same : Block ≡ r = cc in same)
write_stuck (Live ws) b i v s h r e = index_stuck (nat_lt i (length ws)) _ _ (seen.Write b i) r (λ x. let f : ⊥ = cc in f) e

cut_stuck : (c : Cell) (b : ℕ) (s : leaf.Stack) (h : Heap) (r : Reason) → or_stuck (block_reason (words_of c)) (seen.Free b) ≡ seen.Stuck r → cut_cell nothing c b tt s h ≡ machine.Stuck r
cut_stuck Never b s h r e = ap machine.Stuck (let same : Block ≡ r = cc in same)
cut_stuck Freed b s h r e = ap machine.Stuck (let same : Block ≡ r = cc in same)
cut_stuck (Live ws) b s h r e = absurd cc

act_stuck : (a : leaf.Act) (n : Next) (h : Heap) (x : ℕ) (r : Reason) → IsHarmless n → act_next h a n ≡ seen.Stuck r → perform nothing has_room tt a h x ≡ machine.Stuck r
act_stuck (leaf.Go s) n h x r harmless e = absurd (subst IsHarmless e harmless)
act_stuck (leaf.Read b i k) n h x r harmless e = read_stuck (h.cells b) b i k h r e
act_stuck (leaf.Write b i v s) n h x r harmless e = write_stuck (h.cells b) b i v s h r e
act_stuck (leaf.Make len k) n h x r harmless e = absurd cc
act_stuck (leaf.Cut b s) n h x r harmless e = cut_stuck (h.cells b) b s h r e
act_stuck (leaf.Split l s w) n h x r harmless e = absurd cc
act_stuck leaf.Over n h x r harmless e = absurd cc
act_stuck (leaf.Bad q) n h x r harmless e = ap machine.Stuck (let same : q ≡ r = cc in same)

-- where a leaf is found that is alone, it is the one, and this is why it is stuck
alone : (v w : LeafView) (n : Next) (r : Reason) → stuck_or v n None ≡ Some (w, r) → (v ≡ w) × (n ≡ seen.Stuck r)
alone v w (seen.Stuck q) r e =
    let both : ◌≡◌ {A = LeafView × Reason} (v, q) (w, r) = cc in
    (ap (λ (p : LeafView × Reason). p.0) both, ap (λ (p : LeafView × Reason). seen.Stuck p.1) both)
alone v w (seen.Read b i) r e = absurd cc
alone v w (seen.Write b i) r e = absurd cc
alone v w (seen.Free b) r e = absurd cc
alone v w (seen.Call m) r e = absurd cc
alone v w seen.Fork r e = absurd cc
alone v w seen.Other r e = absurd cc

-- a stuck leaf is found in the first or in the second of two lists
in_parts : (vs us : List LeafView) (o : Option (LeafView × Reason)) → first_stuck (vs ++ us) ≡ o → (first_stuck vs ≡ o) ⊎ (first_stuck us ≡ o)
in_parts [] us o e = inr e
in_parts (v ∷ vs) us o e = here v.next o e (in_parts vs us)
  where
    here : (n : Next) (p : Option (LeafView × Reason)) → stuck_or v n (first_stuck (vs ++ us)) ≡ p → ((q : Option (LeafView × Reason)) → first_stuck (vs ++ us) ≡ q → (first_stuck vs ≡ q) ⊎ (first_stuck us ≡ q)) → (stuck_or v n (first_stuck vs) ≡ p) ⊎ (first_stuck us ≡ p)
    here (seen.Stuck r) p e f = inl e
    here (seen.Read b i) p e f = f p e
    here (seen.Write b i) p e f = f p e
    here (seen.Free b) p e f = f p e
    here (seen.Call m) p e f = f p e
    here seen.Fork p e f = f p e
    here seen.Other p e f = f p e

-- the path below a path at which a step is stuck
abbrev StuckBelow : List Proc → Heap → Tree (Unit {0}) → List Side → List Side → ℕ → Reason → Type 0
StuckBelow T h t at path x r = (ds : List Side) × (path ≡ at ++ ds) × (move nothing has_room T t h ds x ≡ machine.Stuck r)

found_below : (T : List Proc) (h : Heap) (t : Tree (Unit {0})) (at : List Side) (v : LeafView) (x : ℕ) (r : Reason) → first_stuck (leaves_of T h at t) ≡ Some (v, r) → StuckBelow T h t at v.path x r
found_below T h (Leaf a (leaf.Run f cs)) at v x r e =
    let one = alone (view_of T h at f cs) v (view_of T h at f cs).next r e in
    ([], ap (λ (w : LeafView). w.path) (sym one.0) ∙ sym (append-nil at), act_stuck (leaf.act T (leaf.Run f cs)) (items_next T f.items) h x r (items_harmless T f.items) one.1)
found_below T h (Leaf a (leaf.End vs)) at v x r e = absurd cc
found_below T h (Fork a w l s) at v x r e =
    ⊎_elim
    (λ k.
    let b = found_below T h l (at ++ Left ∷ []) v x r k in
    (Left ∷ b.0, b.1 ∙ append_assoc at (Left ∷ []) b.0, ap (λ m. inside nothing (λ t. Fork a w t s) m) b.2))
    (λ k.
    let b = found_below T h s (at ++ Right ∷ []) v x r k in
    (Right ∷ b.0, b.1 ∙ append_assoc at (Right ∷ []) b.0, ap (λ m. inside nothing (λ t. Fork a w l t) m) b.2))
    (in_parts (leaves_of T h (at ++ Left ∷ []) l) (leaves_of T h (at ++ Right ∷ []) s) (Some (v, r)) e)

pub told_stuck : (T : List Proc) (h : Heap) (t : Tree (Unit {0})) (v : LeafView) (x : ℕ) (r : Reason) → first_stuck (leaves_of T h [] t) ≡ Some (v, r) → move nothing has_room T t h v.path x ≡ machine.Stuck r
told_stuck T h t v x r e =
    let b = found_below T h t [] v x r e in
    ap (λ ds. move nothing has_room T t h ds x) b.1 ∙ b.2
