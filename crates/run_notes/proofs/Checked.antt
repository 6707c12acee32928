-- The definitions on small programs.
use denote.Hole.Carrier
use Rattle.std.proofs.Common.{◌≡◌, ℕ, suc, ◌+◌, ◌<◌, inl, inr, Bool, true, false, cond, List, [], ◌∷◌, ◌++◌, refl, ap, ◌∙◌, arith, lit<, slice_index}
use Rattle.std.specs.Prelude.{codes}
use Rattle.std.proofs.lemmas.Bool.{lt-leb}
use Rattle.target_code.specs.declared.tree.Instr.{Instr, out-Instr}
use Rattle.target_code.specs.declared.tree.Instr.TheOpen as Open
use Rattle.target_code.specs.declared.tree.Instr.TheFolds.{map-Instr, fold-Code}
use Rattle.target_code.specs.declared.tree.Instr.TheVariants.{Const, Mov, Calc, While, outs-While}
use Rattle.target_code.specs.declared.tree.Calc.TheVariants.{Sub}
use Rattle.target_code.specs.declared.tree.Code.{Code}
use Rattle.target_code.specs.declared.tree.Proc.{Proc}
use Rattle.target_meaning.specs.declared.path.Side.{Side}
use Rattle.target_meaning.specs.declared.path.Side.TheVariants.{Left}
use Rattle.target_meaning.specs.declared.answer.StepAnswer.TheVariants as told
use Rattle.target_meaning.specs.Leaf as leaf
use Rattle.target_meaning.specs.Lines.{lines_step, code_lines, lines_of, second_line}
use Rattle.target_meaning.specs.Leaf.{Act, Caller, Child, End, Item, Part, Stack, Wait, act}
use Rattle.target_meaning.specs.Machine.{Heap, Answer, Leaf, Moved, Full, counts, nothing, has_room, no_blocks, perform}
use Rattle.target_meaning.specs.Piece.{Piece, none}
use Rattle.target_meaning.specs.Held.{holdings, Fine}
use Rattle.target_meaning.specs.LeftFirst.{has_ended}
use Rattle.target_meaning.specs.Unowned.{HasPlace, IsLeast, IsUnowned}
use Rattle.target_meaning.specs.Runs.{and_then, reach, HasMoved, AtLeaf, Race}
use Rattle.target_meaning.specs.States.{MachineState, step_by, step_of}
use Rattle.target_meaning.specs.Samples.{reading, reading_heap, racing, lending, spoiling, claiming, counting, start, at_root, one_left, one_each, proc_of, on_go, lines_along}
use Rattle.target_meaning.proofs.Numbered.{lines_by, lines_while}

pub reading_7 : reach counts has_room reading (at_root 6) (Leaf 0 (start reading (1 ∷ 0 ∷ 2 ∷ []))) reading_heap ≡ Moved (Leaf 6 (End (7 ∷ []))) reading_heap
unfolding out-Instr Carrier.out
reading_7 = refl

pub racing_race : HasMoved (reach nothing has_room racing one_each (Leaf tt (start racing [])) (no_blocks 16)) (λ t h. Race racing h t)
unfolding out-Instr Carrier.out
racing_race = inl (inl (inl (1, 0, (refl, refl, lit< tt), inr (refl, refl, lit< tt))))

pub racing_unowned : HasMoved (reach holdings has_room racing one_each (Leaf none (start racing [])) (no_blocks 16)) (λ t h. AtLeaf t (Left ∷ []) (λ p s. IsUnowned 1 (act racing s) p))
unfolding out-Instr Carrier.out
racing_unowned = inr (inl ((λ x. x), (λ x. x)))

pub lending_fine : HasMoved (reach holdings has_room lending one_left (Leaf none (start lending [])) (no_blocks 16)) (λ t h. AtLeaf t (Left ∷ []) (λ p s. Fine 1 (act lending s) p))
unfolding out-Instr Carrier.out
lending_fine = tt

pub spoiling_unowned : HasMoved (reach holdings has_room spoiling one_left (Leaf none (start spoiling [])) (no_blocks 16)) (λ t h. AtLeaf t (Left ∷ []) (λ p s. IsUnowned 1 (act spoiling s) p))
unfolding out-Instr Carrier.out
spoiling_unowned = inr (inl ((λ x. let g : ⊥ = omega (arith, x) in g), (λ x. let g : ⊥ = omega (arith, x) in g)))

pub least_unowned : (f j : ℕ) (p : Piece) (s : Stack) (part : Part) (parts : List Part) (r : Child) (w : Wait) → f < 64 → HasPlace part p j → IsLeast (p part.block j) → IsUnowned f (leaf.Split (record { stack = s; hands = []; lends = part ∷ parts }) r w) p
least_unowned f j p s part parts r w lt has least = inr (inr (lt, inr (inl (inl (inl (refl, (j, has, least)))))))

full_if : (b : Bool) (x : Answer (Unit {0})) → b ≡ false → cond b x Full ≡ Full
full_if false x e = refl
full_if true x e = cc e

pub is_full : (h : Heap) (n x : ℕ) (k : ℕ → Stack) → h.cap < h.claimed + n + 1 → perform nothing has_room tt (leaf.Make n k) h x ≡ Full
is_full h n x k lt = full_if (has_room h n) _ (lt-leb (h.claimed + n + 1) h.cap lt)

pub full_stays : (T : List Proc) (s : MachineState) (path : List Side) (x : ℕ) → s.full ≡ true → step_of T s path x ≡ (told.Full, s)
full_stays T s path x e = ap (λ b. step_by b (has_ended s.tree) T s path x) e

pub end_stays : (T : List Proc) (s : MachineState) (path : List Side) (x : ℕ) → s.full ≡ false → has_ended s.tree ≡ true → step_of T s path x ≡ (told.Ended, s)
end_stays T s path x e d = ap (λ b. step_by b (has_ended s.tree) T s path x) e ∙ ap (λ b. step_by false b T s path x) d

pub too_small : reach nothing has_room claiming (at_root 2) (Leaf tt (start claiming [])) (no_blocks 7) ≡ Full
unfolding out-Instr Carrier.out
too_small = refl

pub just_enough : HasMoved (reach nothing has_room claiming (at_root 2) (Leaf tt (start claiming [])) (no_blocks 8)) (λ t h. h.claimed ≡ 8)
unfolding out-Instr Carrier.out
just_enough = refl

pub loop_left : (T : List Proc) (h : Heap) (n line t x y : ℕ) (proc : Proc) (body : Code) (items : List Item) (regs : List ℕ) (cs : List Caller) → slice_index regs t ≡ 0 → reach counts has_room T (([], x) ∷ ([], y) ∷ []) (Leaf n (leaf.Run (record { proc = proc; items = leaf.Do line (While (record { list = [] }) t body) ∷ items; regs = regs }) cs)) h ≡ Moved (Leaf (suc (suc n)) (leaf.Run (record { proc = proc; items = items; regs = regs }) cs)) h
unfolding out-Instr Carrier.out
loop_left T h n line t x y proc body items regs cs e =
    ap (λ o. and_then (perform counts has_room n (leaf.instr_act T line items regs proc cs o) h x) (λ u g. reach counts has_room T (([], y) ∷ []) u g)) (outs-While (record { list = [] }) t body) ∙
    ap (λ v. Moved (Leaf (suc (suc n)) (leaf.Run (record {
      proc = proc;
      items = leaf.at_zero v items (leaf.do_all (second_line line []) body.list ++ leaf.do_all (suc line) [] ++ leaf.Test line [] t body.list ∷ items);
      regs = regs;
    }) cs)) h) e

one_line : (i : Instr) (o : Open.Instr-F Instr Code) → out-Instr i ≡ o → lines_step (map-Instr Instr Code ℕ ℕ lines_of (fold-Code ℕ ℕ lines_step code_lines) o) ≡ 1 → lines_of i ≡ 1
one_line i o e d = lines_by i o e ∙ d

mov_line : lines_of (Mov 1 0) ≡ 1
unfolding out-Instr Carrier.out
mov_line = one_line (Mov 1 0) (Open.Mov 1 0) refl refl

const_line : lines_of (Const 2 1) ≡ 1
unfolding out-Instr Carrier.out
const_line = one_line (Const 2 1) (Open.Const 2 1) refl refl

sub_line : lines_of (Calc 0 Sub 0 2) ≡ 1
unfolding out-Instr Carrier.out
sub_line = one_line (Calc 0 Sub 0 2) (Open.Calc 0 Sub 0 2) refl refl

abbrev cond_code : Code
cond_code = record { list = Mov 1 0 ∷ [] }

abbrev body_code : Code
body_code = record { list = Const 2 1 ∷ Calc 0 Sub 0 2 ∷ [] }

-- the lines, by those that the instructions of the loop take
abbrev counted : ℕ → ℕ → ℕ → List ℕ
counted m k w = 1 ∷ 2 ∷ suc (1 + (m + 0)) ∷ suc (suc (1 + (m + 0))) ∷ (suc (suc (1 + (m + 0))) + k) ∷ 2 ∷ suc (1 + (m + 0)) ∷ suc (w + 0) ∷ []

loop_line : lines_of (While cond_code 1 body_code) ≡ 6
loop_line = lines_while 1 cond_code body_code ∙ ap (λ m. 3 + ((m + 0) + (lines_of (Const 2 1) + (lines_of (Calc 0 Sub 0 2) + 0)))) mov_line ∙ ap (λ m. 3 + (1 + (m + (lines_of (Calc 0 Sub 0 2) + 0)))) const_line ∙ ap (λ m. 3 + (1 + (1 + (m + 0)))) sub_line

pub loop_lines : lines_along counting 8 (start counting (1 ∷ [])) ≡ 1 ∷ 2 ∷ 3 ∷ 4 ∷ 5 ∷ 2 ∷ 3 ∷ 7 ∷ []
unfolding out-Instr Carrier.out
loop_lines =
    ap (λ o. 1 ∷ on_go (lines_along counting 7) (leaf.instr_act counting 1 [] (1 ∷ 0 ∷ 0 ∷ []) (proc_of (codes "main") 1 3 (While cond_code 1 body_code ∷ []) (0 ∷ [])) [] o)) (outs-While cond_code 1 body_code) ∙
    ap (λ m. counted m (lines_of (Const 2 1)) (lines_of (While cond_code 1 body_code))) mov_line ∙
    ap (λ k. counted 1 k (lines_of (While cond_code 1 body_code))) const_line ∙
    ap (counted 1 1) loop_line
