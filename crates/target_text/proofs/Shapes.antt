-- The lines taken are those of the open blocks, and the lines of code that nests are taken.
use Rattle.std.proofs.Common.{◌≡◌, ℕ, suc, Bool, true, false, nat_eq, nat_lt, cond, List, [], ◌∷◌, ◌++◌, length, Option, refl, ap, sym, subst, ◌∙◌, append_assoc, arith}
use Rattle.std.specs.Prelude.{IfSome}
use Rattle.std.proofs.lemmas.Bool.{eqb-true}
use Rattle.std.proofs.lemmas.List.{append-nil}
use Rattle.std.proofs.lemmas.List.Concat.{flat_map-cons}
use Rattle.std.proofs.lemmas.Grind.{flat_map-append}
use Rattle.target_code.specs.declared.tree.Instr.{Instr, out-Instr}
use Rattle.target_code.specs.declared.tree.Instr.TheViews.{outs-If, outs-While}
use Rattle.target_code.specs.declared.tree.Instr.TheFolds.{fold-roll-Code}
use Rattle.target_code.specs.declared.tree.Instr.TheVariants as instr
use Rattle.target_lines.specs.declared.line.Line.{Line}
use Rattle.target_lines.specs.declared.line.Phrase.{Phrase}
use Rattle.target_lines.specs.declared.line.Phrase.TheVariants as phrase
use Rattle.target_lines.specs.Programs.{line, Lines, instr_step, code_step, instr_lines, code_lines, items_lines, is_flat}
use Rattle.target_text.proofs.CodeLines.{each_at, layer, lines_out, flat_lines}
use Rattle.target_judge.specs.Shape.{code_of, Frame, Yes, No, Cond, Body, Place, place, guard, turns, goes, level_of, take_at, takes, opened, so_far}

items_push : (n : ℕ) (is : List Instr) (i : Instr) → items_lines n (is ++ i ∷ []) ≡ items_lines n is ++ instr_lines i n
items_push n is i = flat_map-append (λ j. instr_lines j n) is (i ∷ []) ∙ ap (λ (x : List Line). items_lines n is ++ x) (flat_map-cons (λ j. instr_lines j n) i [] ∙ append-nil (instr_lines i n))

pub code_is : (is : List Instr) (n : ℕ) → code_lines (code_of is) n ≡ items_lines n is
code_is is n = ap (λ (f : Lines). f n) (fold-roll-Code Lines Lines instr_step code_step (record { list = is })) ∙ each_at is n

if_lines : (t : ℕ) (chosen other : List Instr) (n : ℕ) → instr_lines (instr.If t (code_of chosen) (code_of other)) n ≡ line n (phrase.If t) ∷ (items_lines (suc n) chosen ++ (line n phrase.Else ∷ (items_lines (suc n) other ++ line n phrase.End ∷ [])))
unfolding layer
if_lines t chosen other n =
    lines_out (instr.If t (code_of chosen) (code_of other)) n
    ∙ ap (λ x. layer x n) (outs-If t (code_of chosen) (code_of other))
    ∙ ap (λ (x : List Line). line n (phrase.If t) ∷ (x ++ (line n phrase.Else ∷ (code_lines (code_of other) (suc n) ++ line n phrase.End ∷ [])))) (code_is chosen (suc n))
    ∙ ap (λ (x : List Line). line n (phrase.If t) ∷ (items_lines (suc n) chosen ++ (line n phrase.Else ∷ (x ++ line n phrase.End ∷ [])))) (code_is other (suc n))

while_lines : (cond : List Instr) (t : ℕ) (body : List Instr) (n : ℕ) → instr_lines (instr.While (code_of cond) t (code_of body)) n ≡ line n phrase.While ∷ (items_lines (suc n) cond ++ (line n (phrase.Do t) ∷ (items_lines (suc n) body ++ line n phrase.End ∷ [])))
unfolding layer
while_lines cond t body n =
    lines_out (instr.While (code_of cond) t (code_of body)) n
    ∙ ap (λ x. layer x n) (outs-While (code_of cond) t (code_of body))
    ∙ ap (λ (x : List Line). line n phrase.While ∷ (x ++ (line n (phrase.Do t) ∷ (code_lines (code_of body) (suc n) ++ line n phrase.End ∷ [])))) (code_is cond (suc n))
    ∙ ap (λ (x : List Line). line n phrase.While ∷ (items_lines (suc n) cond ++ (line n (phrase.Do t) ∷ (x ++ line n phrase.End ∷ [])))) (code_is body (suc n))

-- ---- a line that is taken comes to those so far

abbrev Adds : Place → Line → Option Place → Type 0
Adds s l o = IfSome o (λ t. so_far t ≡ so_far s ++ l ∷ [])

guarded : (s : Place) (l : Line) (b : Bool) (t : Place) → (b ≡ true → so_far t ≡ so_far s ++ l ∷ []) → Adds s l (guard b t)
guarded s l true t h = h refl
guarded s l false t h = tt

goes_adds : (p : Phrase) (fs : List Frame) (is : List Instr) → Adds (place fs is) (line (level_of fs) p) (goes p (place fs is))
goes_adds (phrase.Plain i) fs is =
    guarded (place fs is) (line (level_of fs) (phrase.Plain i)) (is_flat (out-Instr i)) (place fs (is ++ i ∷ []))
    (λ h. ap (λ (x : List Line). opened fs ++ x) (items_push (level_of fs) is i ∙ ap (λ (x : List Line). items_lines (level_of fs) is ++ x) (flat_lines i (level_of fs) h))
    ∙ sym (append_assoc (opened fs) (items_lines (level_of fs) is) (line (level_of fs) (phrase.Plain i) ∷ [])))
goes_adds (phrase.If t) fs is = guarded (place fs is) (line (level_of fs) (phrase.If t)) (nat_lt (length fs) 100) (place (Yes t is ∷ fs) []) (λ h. simp (append_assoc, append-nil))
goes_adds phrase.While fs is = guarded (place fs is) (line (level_of fs) phrase.While) (nat_lt (length fs) 100) (place (Cond is ∷ fs) []) (λ h. simp (append_assoc, append-nil))
goes_adds _ fs is = tt

turns_adds : (p : Phrase) (is : List Instr) (f : Frame) (fs : List Frame) → Adds (place (f ∷ fs) is) (line (level_of fs) p) (turns p is (f ∷ fs))
turns_adds phrase.Else is (Yes t before) fs = simp (append_assoc, append-nil)
turns_adds phrase.End is (No t chosen before) fs =
    ap (λ (x : List Line). opened fs ++ x) (items_push (level_of fs) before (instr.If t (code_of chosen) (code_of is)) ∙ ap (λ (x : List Line). items_lines (level_of fs) before ++ x) (if_lines t chosen is (level_of fs)))
    ∙ simp append_assoc
turns_adds (phrase.Do t) is (Cond before) fs = simp (append_assoc, append-nil)
turns_adds phrase.End is (Body cond t before) fs =
    ap (λ (x : List Line). opened fs ++ x) (items_push (level_of fs) before (instr.While (code_of cond) t (code_of is)) ∙ ap (λ (x : List Line). items_lines (level_of fs) before ++ x) (while_lines cond t is (level_of fs)))
    ∙ simp append_assoc
turns_adds _ is f fs = tt

no_turn : (p : Phrase) (is : List Instr) (l : Line) → Adds (place [] is) l (turns p is [])
no_turn phrase.Else is l = tt
no_turn phrase.End is l = tt
no_turn (phrase.Do t) is l = tt
no_turn _ is l = tt

-- no line is taken but as the next of the text so far
pub takes_adds : (l : Line) (s : Place) → Adds s l (takes l s)
unfolding takes
takes_adds l s = by_level (nat_eq l.level (level_of s.frames)) (nat_eq (suc l.level) (level_of s.frames)) refl refl
  where
    by_level : (b c : Bool) → nat_eq l.level (level_of s.frames) ≡ b → nat_eq (suc l.level) (level_of s.frames) ≡ c → Adds s l (take_at b c l.phrase s)
    by_level true c e h =
        let is : l.level ≡ level_of s.frames = eqb-true l.level (level_of s.frames) e in
        subst (λ n. Adds s (line n l.phrase) (goes l.phrase s)) (sym is) (goes_adds l.phrase s.frames s.items)
    by_level false true e h = by_frames s.frames (eqb-true (suc l.level) (level_of s.frames) h)
      where
        by_frames : (fs : List Frame) → suc l.level ≡ level_of fs → Adds (place fs s.items) l (turns l.phrase s.items fs)
        by_frames [] is = no_turn l.phrase s.items l
        by_frames (f ∷ fs) is =
            let level : l.level ≡ level_of fs = omega arith in
            subst (λ n. Adds (place (f ∷ fs) s.items) (line n l.phrase) (turns l.phrase s.items (f ∷ fs))) (sym level) (turns_adds l.phrase s.items f fs)
    by_level false false e h = tt
