-- A line that is taken comes to those so far.
use Rattle.std.proofs.Common.{◌≡◌, ℕ, Bool, true, false, nat_eq, List, [], ◌∷◌, ◌++◌, Option, Some, None, refl, ap, sym, subst, ◌∙◌, append_assoc}
use Rattle.std.specs.List.{flat_map}
use Rattle.std.specs.Prelude.{IfSome}
use Rattle.std.proofs.lemmas.Bool.{eqb-true}
use Rattle.std.proofs.lemmas.List.{append-nil, map-append}
use Rattle.std.proofs.lemmas.List.Concat.{flat_map-cons}
use Rattle.std.proofs.lemmas.Grind.{flat_map-append}
use Rattle.target_code.specs.declared.tree.Rep.{Rep}
use Rattle.target_code.specs.declared.tree.InParam.{InParam}
use Rattle.target_code.specs.declared.tree.Instr.{Instr}
use Rattle.target_code.specs.declared.tree.Proc.{Proc}
use Rattle.target_lines.specs.declared.line.Line.{Line}
use Rattle.target_lines.specs.declared.line.Phrase.{Phrase}
use Rattle.target_lines.specs.declared.line.Phrase.TheVariants as phrase
use Rattle.target_lines.specs.Programs.{line, proc_lines, items_lines}
use Rattle.target_judge.specs.Shape.{Frame, Place, place, guard, takes, and_then, so_far}
use Rattle.target_judge.specs.Taking.{Header, Spot, Between, Inside, Ended, State, state, take_line, take_between, take_ret, take_inside, take_end, proc_of, header_line, head_lines, lines_of}
use Rattle.target_text.proofs.Shapes.{takes_adds, code_is}

abbrev Adds : State → Line → Option State → Type 0
Adds s l o = IfSome o (λ t. lines_of t ≡ lines_of s ++ l ∷ [])

-- a line at the level at which it has to stand
at_level : (l : Line) (n : ℕ) (s : State) (f : Phrase → Option State) → ((p : Phrase) → Adds s (line n p) (f p)) → Adds s l (and_then (guard (nat_eq l.level n) l.phrase) f)
at_level l n s f h = by_level (nat_eq l.level n) refl
  where
    by_level : (b : Bool) → nat_eq l.level n ≡ b → Adds s l (and_then (guard b l.phrase) f)
    by_level true e = subst (λ m. Adds s (line m l.phrase) (f l.phrase)) (sym (eqb-true l.level n e)) (h l.phrase)
    by_level false e = tt

between_adds : (ins : List InParam) (outs : List Rep) (procs : List Proc) (p : Phrase) → Adds (state ins outs procs Between) (line 0 p) (take_between p ins outs procs)
between_adds ins [] [] (phrase.In p) = simp (map-append, append_assoc, append-nil)
between_adds ins [] (q ∷ procs) (phrase.In p) = tt
between_adds ins (r ∷ outs) procs (phrase.In p) = tt
between_adds ins outs [] (phrase.Out r) = simp (map-append, append_assoc, append-nil)
between_adds ins outs (q ∷ procs) (phrase.Out r) = tt
between_adds ins outs procs (phrase.Proc name args regs) = simp (append_assoc, append-nil)
between_adds ins outs procs _ = tt

-- the lines behind the head and the procedures
tail_adds : (ins : List InParam) (outs : List Rep) (procs : List Proc) (a b : List Line) (l : Line) → b ≡ a ++ l ∷ []
    → head_lines ins outs ++ (flat_map proc_lines procs ++ b) ≡ (head_lines ins outs ++ (flat_map proc_lines procs ++ a)) ++ l ∷ []
tail_adds ins outs procs a b l e = ap (λ (x : List Line). head_lines ins outs ++ (flat_map proc_lines procs ++ x)) e ∙ simp append_assoc

ret_adds : (ins : List InParam) (outs : List Rep) (procs : List Proc) (h : Header) (fs : List Frame) (is : List Instr) (p : Phrase)
    → Adds (state ins outs procs (Inside h (place fs is))) (line 1 p) (and_then (take_ret h p fs is) (λ spot. Some (state ins outs procs spot)))
ret_adds ins outs procs h [] is (phrase.Ret rs) = tail_adds ins outs procs (header_line h ∷ items_lines 1 is) (header_line h ∷ (items_lines 1 is ++ line 1 (phrase.Ret rs) ∷ [])) (line 1 (phrase.Ret rs)) refl
ret_adds ins outs procs h (f ∷ fs) is (phrase.Ret rs) = tt
ret_adds ins outs procs h fs is _ = tt

inside_adds : (ins : List InParam) (outs : List Rep) (procs : List Proc) (h : Header) (l : Line) (s : Place) (o : Option Place)
    → IfSome o (λ t. so_far t ≡ so_far s ++ l ∷ []) → Adds (state ins outs procs (Inside h s)) l (and_then (take_inside h l s o) (λ spot. Some (state ins outs procs spot)))
inside_adds ins outs procs h l s (Some t) e = tail_adds ins outs procs (header_line h ∷ so_far s) (header_line h ∷ so_far t) l (ap (λ (x : List Line). header_line h ∷ x) e)
inside_adds ins outs procs h l s None e = by_level (nat_eq l.level 1) refl
  where
    by_level : (b : Bool) → nat_eq l.level 1 ≡ b → Adds (state ins outs procs (Inside h s)) l (and_then (and_then (guard b l.phrase) (λ p. take_ret h p s.frames s.items)) (λ spot. Some (state ins outs procs spot)))
    by_level true e = subst (λ m. Adds (state ins outs procs (Inside h s)) (line m l.phrase) (and_then (take_ret h l.phrase s.frames s.items) (λ spot. Some (state ins outs procs spot)))) (sym (eqb-true l.level 1 e)) (ret_adds ins outs procs h s.frames s.items l.phrase)
    by_level false e = tt

end_adds : (ins : List InParam) (outs : List Rep) (procs : List Proc) (h : Header) (is : List Instr) (rs : List ℕ) (p : Phrase)
    → Adds (state ins outs procs (Ended h is rs)) (line 0 p) (take_end p h is rs ins outs procs)
end_adds ins outs procs h is rs phrase.End =
    let last = line 1 (phrase.Ret rs) ∷ line 0 phrase.End ∷ [] in
    let one : flat_map proc_lines (proc_of h is rs ∷ []) ≡ header_line h ∷ (items_lines 1 is ++ last) =
    flat_map-cons proc_lines (proc_of h is rs) [] ∙ append-nil (proc_lines (proc_of h is rs)) ∙ ap (λ (x : List Line). header_line h ∷ (x ++ last)) (code_is is 1) in
    let all : flat_map proc_lines (procs ++ proc_of h is rs ∷ []) ≡ flat_map proc_lines procs ++ (header_line h ∷ (items_lines 1 is ++ last)) =
    flat_map-append proc_lines procs (proc_of h is rs ∷ []) ∙ ap (λ (x : List Line). flat_map proc_lines procs ++ x) one in
    ap (λ (x : List Line). head_lines ins outs ++ (x ++ [])) all ∙ simp (append_assoc, append-nil)
end_adds ins outs procs h is rs _ = tt

-- no line is taken but as the next of the text so far
pub line_adds : (l : Line) (s : State) → Adds s l (take_line l s)
unfolding take_line
line_adds l s = by_spot s.spot
  where
    by_spot : (spot : Spot) → Adds (state s.ins s.outs s.procs spot) l (take_line l (state s.ins s.outs s.procs spot))
    by_spot Between = at_level l 0 (state s.ins s.outs s.procs Between) (λ p. take_between p s.ins s.outs s.procs) (between_adds s.ins s.outs s.procs)
    by_spot (Inside h t) = inside_adds s.ins s.outs s.procs h l t (takes l t) (takes_adds l t)
    by_spot (Ended h is rs) = at_level l 0 (state s.ins s.outs s.procs (Ended h is rs)) (λ p. take_end p h is rs s.ins s.outs s.procs) (end_adds s.ins s.outs s.procs h is rs)
