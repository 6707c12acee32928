-- What is safe with a good end is sound.
use Rattle.std.proofs.Math.Path.{fun_ext}
use Rattle.std.proofs.Common.{◌≡◌, ℕ, suc, ◌<◌, ◌≤◌, ◌+◌, ◌-◌, ◌⊎◌, inl, inr, Bool, true, false, cond, List, [], ◌∷◌, length, refl, sym, ap, ◌∙◌, subst, arith, eqb, eqb-true, lit<}
use Rattle.std.proofs.lemmas.Bool.{cond-false}
use Rattle.std.specs.Prelude.{Option, Some, None, codes}
use Rattle.nres_core.specs.declared.value.Value.{Value}
use Rattle.target_code.specs.declared.tree.Proc.{Proc}
use Rattle.target_code.specs.declared.tree.Program.{Program}
use Rattle.target_meaning.specs.Held.{holdings, total}
use Rattle.target_meaning.specs.Leaf.{Stack, Run, End, begin, find}
use Rattle.target_meaning.specs.LeftFirst.{has_ended}
use Rattle.target_meaning.specs.Machine.{Heap, Live, Tree, Leaf, Fork, has_room, no_blocks, with_blocks, with_words}
use Rattle.target_meaning.specs.Piece.{Share, Nil, Some_of, Clash, Piece, Fits, Holds, IsHeap, IsWhole, IsAllWhole, Covers, at_place, whole}
use Rattle.target_meaning.specs.Runs.{reach}
use Rattle.target_meaning.proofs.Keeps.{room_sized}
use Rattle.target_meaning.proofs.Moved.{moved_both}
use Rattle.triple_logic.specs.Reached as reached
use Rattle.triple_logic.specs.Bounded.{Bounded}
use Rattle.triple_logic.specs.Safe.{Safe, at_end}
use Rattle.triple_logic.proofs.Runs.{run_safe, run_covers}
use Rattle.relations.specs.Blocks.{wholly}
use Rattle.relations.specs.Values.{union, live}
use Rattle.soundness.specs.Behaviour.{Behaviour}
use Rattle.soundness.specs.Good.{Good}
use Rattle.soundness.specs.Laws.{SafeIsSound, SafeFromMain, BoundedFromMain}
use Rattle.soundness.specs.SafeEnds.{EndsGood}
use Rattle.soundness.specs.Start.{Start, AreNamed}

-- ---- the heap of a start

-- each live block is shorter than what is claimed
abbrev IsClaimed : Heap → Type 0
IsClaimed h = (b : ℕ) (ws : List ℕ) → h.cells b ≡ Live ws → length ws < h.claimed

cell_claimed : (same : Bool) (h : Heap) (vs : List ℕ) (b : ℕ) (ws : List ℕ) → IsClaimed h → cond same (Live vs) (h.cells b) ≡ Live ws → length ws < h.claimed + length vs + 1
cell_claimed true h vs b ws k e = let d : vs ≡ ws = cc e in omega (arith, ap length d)
cell_claimed false h vs b ws k e = omega (arith, k b ws e)

all_claimed : (bs : List (ℕ × List ℕ)) (h : Heap) → IsClaimed h → IsClaimed (with_blocks h bs)
all_claimed [] h k = k
all_claimed (x ∷ bs) h k = all_claimed bs (with_words h x.0 x.1) (λ b ws e. cell_claimed (eqb b x.0) h x.1 b ws k e)

-- each live block has one of the names
are_named : (bs : List (ℕ × List ℕ)) (h : Heap) (cap : ℕ) → AreNamed cap bs → ((b : ℕ) (ws : List ℕ) → h.cells b ≡ Live ws → b ≤ cap) → (b : ℕ) (ws : List ℕ) → (with_blocks h bs).cells b ≡ Live ws → b ≤ cap
are_named [] h cap a k = k
are_named (x ∷ bs) h cap a k = are_named bs (with_words h x.0 x.1) cap a.3 (λ b ws e. at b (eqb b x.0) refl ws e)
  where
    at : (b : ℕ) (same : Bool) → eqb b x.0 ≡ same → (ws : List ℕ) → cond (eqb b x.0) (Live x.1) (h.cells b) ≡ Live ws → b ≤ cap
    at b true t ws e = subst (λ z. z ≤ cap) (sym (eqb-true b x.0 t)) a.1
    at b false t ws e = k b ws (sym (cond-false (eqb b x.0) (Live x.1) (h.cells b) t) ∙ e)

start_heap : (T : Program) (us : List Value) (s : Stack) (h : Heap) → Start T us s h → IsHeap h
start_heap T us s h start = record {
  word = start.capacity;
  short = λ b ws e.
      let k : IsClaimed h = subst IsClaimed (sym start.made) (all_claimed start.blocks (no_blocks h.cap) (λ c vs d. absurd (cc d))) in
      omega (arith, k b ws e, start.room);
  named = λ b ws e.
      are_named start.blocks (no_blocks h.cap) h.cap start.named (λ c vs d. absurd (cc d)) b ws (subst (λ (y : Heap). y.cells b ≡ Live ws) start.made e);
}

-- ---- what is held whole

wholly_fits : (o : Option ℕ) → Fits (wholly o) o
wholly_fits None = tt
wholly_fits (Some v) = (refl, lit< tt)

wholly_whole : (o : Option ℕ) (v : ℕ) → o ≡ Some v → IsWhole (wholly o)
wholly_whole None v e = absurd (cc e)
wholly_whole (Some u) v e = omega arith

held_whole : (x : Share) (o : Option ℕ) → Fits x o → ((v : ℕ) → o ≡ Some v → IsWhole x) → x ≡ wholly o
held_whole Nil None f w = refl
held_whole Nil (Some v) f w = absurd (w v refl)
held_whole (Some_of v k) None f w = absurd (let e : None ≡ Some v = f.0 in cc e)
held_whole (Some_of v k) (Some u) f w = full v u k (cc f.0) (w u refl)
  where
    full : (v u k : ℕ) → u ≡ v → suc k ≡ whole → Some_of v k ≡ wholly (Some u)
    full v u k e d = let a : k ≡ whole - 1 = omega (arith, d) in cc
held_whole Clash o f w = absurd f

module _ (T : Program) (us : List Value) (s : Stack) (h : Heap) (start : Start T us s h) where
  pub live_is : union start.pieces ≡ live h
  live_is = fun_ext (λ b. fun_ext (λ j. start.all_live.all b j))

  pub live_held : Holds (live h) h
  live_held = record { places = λ b j. wholly_fits (at_place (h.cells b) j); heap = start_heap T us s h start }

  pub live_covered : Covers (live h) h
  live_covered b j v e = wholly_whole (at_place (h.cells b) j) v e

pub end_good : (m : Behaviour) (T : Program) (us : List Value) (ps : List Piece) (t : Tree Piece) (g : Heap) → reached.Good has_room T.procs (EndsGood m T us ps) t g → Covers (total t) g → has_ended t ≡ true → Good m T us ps t g
end_good m T us ps (Leaf q (End vs)) g r cv e = record {
  note = q;
  regs = vs;
  results = r.meets.results;
  outs = r.meets.outs;
  ended = refl;
  allowed = r.meets.allowed;
  related = r.meets.related;
  all_live = record { apart = r.meets.apart; all = λ b j. r.meets.all b j ∙ held_whole (q b j) (at_place (g.cells b) j) (r.holds.places b j) (λ v d. cv b j v d) };
}
end_good m T us ps (Leaf q (Run f cs)) g r cv e = absurd (cc e)
end_good m T us ps (Fork q w l r) g k cv e = absurd (cc e)

pub safe_is_sound : (m : Behaviour) → SafeIsSound m
safe_is_sound m T safe us s h start safely es shallow =
    let ends = EndsGood m T us start.pieces in
    let s0 : (n : ℕ) → Safe T.procs at_end ends n 0 (Leaf (live h) s) = λ n. subst (λ y. Safe T.procs at_end ends n 0 (Leaf y s)) (live_is T us s h start) (safe us s h start safely n) in
    let hs = live_held T us s h start in
    moved_both (reach holdings has_room T.procs es (Leaf (live h) s) h) (reached.Good has_room T.procs ends) (λ t g. Covers (total t) g) _
    (λ t g r c. (record { no_stuck = r.free; no_race = r.calm; no_unowned = r.owned }, end_good m T us start.pieces t g r c))
    (run_safe has_room T.procs ends room_sized es (Leaf (live h) s) h hs s0 shallow)
    (run_covers has_room T.procs ends room_sized es (Leaf (live h) s) h hs s0 shallow (live_covered T us s h start))

whole_or_none : (o : Option ℕ) → (wholly o ≡ Nil) ⊎ IsWhole (wholly o)
whole_or_none None = inl refl
whole_or_none (Some v) = inr (wholly_whole (Some v) v refl)

-- the stack of a start on which `main` is this
main_stack : (T : Program) (us : List Value) (s : Stack) (h : Heap) (start : Start T us s h) (main : Proc) → find T.procs (codes "main") ≡ Some main → s ≡ Run (begin main start.regs) []
main_stack T us s h start main found =
    let main_is : start.main ≡ main = (let e : Some start.main ≡ Some main = sym start.is_main ∙ found in cc e) in
    start.beginning ∙ ap (λ (m : Proc). Run (begin m start.regs) []) main_is

-- the inputs are held whole
inputs_whole : (T : Program) (us : List Value) (s : Stack) (h : Heap) (start : Start T us s h) → IsAllWhole (union start.pieces)
inputs_whole T us s h start b j = subst (λ (x : Share). (x ≡ Nil) ⊎ IsWhole x) (sym (start.all_live.all b j)) (whole_or_none (at_place (h.cells b) j))

pub safe_from_main : (m : Behaviour) → SafeFromMain m
safe_from_main m T main found safe us s h start safely n =
    subst (λ (x : Stack). Safe T.procs at_end (EndsGood m T us start.pieces) n 0 (Leaf (union start.pieces) x)) (sym (main_stack T us s h start main found))
    (safe us start.regs start.pieces start.inputs start.all_live.apart (inputs_whole T us s h start) safely n)

pub bounded_from_main : (m : Behaviour) → BoundedFromMain m
bounded_from_main m T main found bounded n us s h start ends =
    let r = bounded n us start.regs start.pieces start.inputs start.all_live.apart (inputs_whole T us s h start) ends in (
      r.0,
      subst (λ (x : Stack). Bounded T.procs at_end (EndsGood m T us start.pieces) r.0 0 (Leaf (union start.pieces) x)) (sym (main_stack T us s h start main found)) r.1,
    )
