-- How a derivation, a flat tree and the code of a procedure are followed together.
use Rattle.std.specs.Prelude.{ℕ, zero, suc, ◌+◌, ◌-◌, Bool, true, false, ◌&&◌, ◌||◌, not, cond, List, [], ◌∷◌, ◌++◌, length, nat_lt, nat_le, nat_eq, max, take, drop, Option, Some, None, Result, Ok, Err, codes, decimal, option_to_list}
use Rattle.std.specs.Str.{bytes_eq}
use Rattle.target_code.specs.declared.tree.Branch.{Branch}
use Rattle.target_code.specs.declared.tree.Calc.{Calc}
use Rattle.target_code.specs.declared.tree.Calc.TheVariants as calc
use Rattle.target_code.specs.declared.tree.Code.{Code}
use Rattle.target_code.specs.declared.tree.Hand.{Hand}
use Rattle.target_code.specs.declared.tree.InParam.{InParam}
use Rattle.target_code.specs.declared.tree.Instr.{Instr, out-Instr, Instr-F}
use Rattle.target_code.specs.declared.tree.Instr.TheOpen as I
use Rattle.target_code.specs.declared.tree.Proc.{Proc}
use Rattle.target_code.specs.declared.tree.Rep.{Rep}
use Rattle.target_code.specs.declared.tree.Rep.TheVariants as r
use Rattle.target_meaning.specs.Leaf.{find}
use Rattle.nres_core.specs.FlatTree as t
use Rattle.nres_core.specs.FlatTree.{Binds, Ending}
use Rattle.nres_core.specs.declared.flat.Arg.{Arg}
use Rattle.nres_core.specs.declared.flat.Arg.TheVariants as a
use Rattle.nres_core.specs.declared.op.Op.{Op}
use Rattle.nres_core.specs.declared.place.Place.{Place}
use Rattle.nres_core.specs.declared.refusal.Refusal.{Refusal}
use Rattle.nres_core.specs.declared.row.LibName.{LibName}
use Rattle.nres_core.specs.declared.row.RowCode.{RowCode}
use Rattle.nres_core.specs.declared.row.RowCode.TheVariants as c
use Rattle.rule_check.specs.Context.{Hold, Owned, Kept, Gone, Spot, Fact, Def, Shape, is_container, is_slice, is_owned, is_gone, bound_in, is_among, looked_up, reps_of}
use Rattle.rule_check.specs.Facts.{learnt, defs_in, defs_behind, calc_tells, any_tells}
use Rattle.rule_check.specs.Steps.{Book, Sig, Moved, bare, calc_rep, apply_sure, op_bound, is_destroyed, destroyed, slice_tag, row_shapes, sig_at, call_sure, call_shapes, lists, other_lists, ended, no_list, first_is, started, par_sure, split_sure, refused}
use Rattle.rule_check.specs.Table.{Rule, Take, bound_of}
use Rattle.rule_check.specs.Use.{block_used, without}
use Rattle.fits.specs.Places.{Token, Number, Of, Entry, State, spots_of, ctx_of, put, has_token, hold_words, put_tokens, fresh, all_fresh, numbers, lookup, Info, arg_info, arg_infos, all_words, all_vars, info_shapes, info_reps, infos_words, wanted, goners, none_left, same_holds, lent, with_toks, with_hold, with_facts, with_branch, begun_state, bind_entry, bind_words, bind_all, bind_at, in_order, old_shapes, same_shapes, keep_tokens, both_tokens, arg_tokens}
use Rattle.fits.specs.Written.{loop_writes, is_one_of}

-- a line of a derivation
pub data Line : Type 0 where
  Calc_line : Line
  Row_line : (name : List ℕ) → Line
  Reg_line : Line
  Any_line : (reg : ℕ) → Line
  Left_line : Line
  Right_line : Line
  If_line : (regs : List ℕ) → Line
  While_line : (regs : List ℕ) → Line
  Par_line : Line
  Split_line : (offset count : ℕ) → Line
  Use_line : Line
  Other_line : Line

-- followed up to here, with what is left of the code and of the lines; or these lines were not found
pub data Answer : Type 0 where
  Found : State → List Instr → List Line → Answer
  Unmet : List Line → Answer

abbrev pub Walk : Type 0
Walk = State → List Instr → List Line → Answer

-- what holds of where the following came to
unfoldable pub OnFound : Answer → (State → List Instr → List Line → Type 0) → Type 0
OnFound (Found s c ls) K = K s c ls
OnFound (Unmet ls) K = ⊥

unfoldable pub and_then : Answer → Walk → Answer
and_then (Found s c ls) k = k s c ls
and_then (Unmet ls) k = Unmet ls

unfoldable pub need : Bool → List Line → Answer → Answer
need true ls a = a
need false ls a = Unmet ls

unfoldable pub with_some : {A : Type 0} → Option A → List Line → (A → Answer) → Answer
with_some None ls k = Unmet ls
with_some (Some x) ls k = k x

-- the rule check's step passes
unfoldable pub with_ok : {A : Type 0} → Result A Refusal → List Line → (A → Answer) → Answer
with_ok (Ok x) ls k = k x
with_ok (Err e) ls k = Unmet ls

unfoldable pub with_head : List Instr → List Line → (Instr-F Instr Code → List Instr → Answer) → Answer
with_head [] ls k = Unmet ls
with_head (i ∷ is) ls k = k (out-Instr i) is

unfoldable pub at_end_of : List Instr → List Line → Answer → Answer
at_end_of [] ls x = x
at_end_of (i ∷ is) ls x = Unmet ls

-- ---- lines

unfoldable pub on_calc_line : List Line → (List Line → Answer) → Answer
on_calc_line (Calc_line ∷ ls) k = k ls
on_calc_line ls k = Unmet ls

unfoldable pub on_row_line : List Line → List ℕ → (List Line → Answer) → Answer
on_row_line (Row_line name ∷ ls) want k = need (bytes_eq name want) (Row_line name ∷ ls) (k ls)
on_row_line ls want k = Unmet ls

unfoldable pub on_reg_line : List Line → (List Line → Answer) → Answer
on_reg_line (Reg_line ∷ ls) k = k ls
on_reg_line ls k = Unmet ls

unfoldable pub on_any_line : List Line → (ℕ → List Line → Answer) → Answer
on_any_line (Any_line x ∷ ls) k = k x ls
on_any_line ls k = Unmet ls

unfoldable pub on_side_line : List Line → (Bool → List Line → Answer) → Answer
on_side_line (Left_line ∷ ls) k = k true ls
on_side_line (Right_line ∷ ls) k = k false ls
on_side_line ls k = Unmet ls

unfoldable pub on_if_line : List Line → (List ℕ → List Line → Answer) → Answer
on_if_line (If_line rs ∷ ls) k = k rs ls
on_if_line ls k = Unmet ls

unfoldable pub on_while_line : List Line → (List ℕ → List Line → Answer) → Answer
on_while_line (While_line rs ∷ ls) k = k rs ls
on_while_line ls k = Unmet ls

unfoldable pub on_par_line : List Line → (List Line → Answer) → Answer
on_par_line (Par_line ∷ ls) k = k ls
on_par_line ls k = Unmet ls

unfoldable pub on_split_line : List Line → (ℕ → ℕ → List Line → Answer) → Answer
on_split_line (Split_line x y ∷ ls) k = k x y ls
on_split_line ls k = Unmet ls

unfoldable pub on_use_line : List Line → (List Line → Answer) → Answer
on_use_line (Use_line ∷ ls) k = k ls
on_use_line ls k = Unmet ls

-- ---- own instructions

unfoldable pub calc_own : List Line → Instr-F Instr Code → (ℕ → Calc → ℕ → ℕ → Answer) → Answer
calc_own ls (I.Calc to w x y) k = k to w x y
calc_own ls _ k = Unmet ls

unfoldable pub call_own : List Line → Instr-F Instr Code → (List ℕ → List ℕ → List ℕ → Answer) → Answer
call_own ls (I.Call to name args) k = k to name args
call_own ls _ k = Unmet ls

unfoldable pub if_own : List Line → Instr-F Instr Code → (ℕ → Code → Code → Answer) → Answer
if_own ls (I.If t c d) k = k t c d
if_own ls _ k = Unmet ls

unfoldable pub while_own : List Line → Instr-F Instr Code → (Code → ℕ → Code → Answer) → Answer
while_own ls (I.While c t b) k = k c t b
while_own ls _ k = Unmet ls

unfoldable pub par_own : List Line → Instr-F Instr Code → (Branch → Branch → Answer) → Answer
par_own ls (I.Par x y) k = k x y
par_own ls _ k = Unmet ls

-- ---- calculations

abbrev pub calc_number : Calc → ℕ
calc_number calc.Add = 0
calc_number calc.Sub = 1
calc_number calc.Mul = 2
calc_number calc.Div = 3
calc_number calc.Mod = 4
calc_number calc.Min = 5
calc_number calc.Max = 6
calc_number calc.Lt = 7
calc_number calc.Le = 8
calc_number calc.Eq = 9
calc_number calc.Ne = 10
calc_number calc.And = 11
calc_number calc.Or = 12
calc_number calc.Xor = 13
calc_number calc.Shl = 14
calc_number calc.Shr = 15

abbrev pub same_calc : Calc → Calc → Bool
same_calc v w = nat_eq (calc_number v) (calc_number w)

abbrev pub all_below : ℕ → List ℕ → Bool
all_below n [] = true
all_below n (x ∷ xs) = nat_lt x n && all_below n xs

-- a calculation that becomes known
abbrev pub def_of : Place → ℕ → Calc → Arg → Arg → Def
def_of p to w x y = record { place = p; to = to; word = w; left = x; right = y }

-- ---- asserts

-- new variables come in order, and how far they come
abbrev pub rises : ℕ → List ℕ → Bool
rises n [] = true
rises n (v ∷ vs) = nat_le n v && rises (suc v) vs

abbrev pub past : ℕ → List ℕ → ℕ
past n [] = n
past n (v ∷ vs) = past (suc v) vs

abbrev pub is_old : ℕ → Arg → Bool
is_old n (a.Var v) = nat_lt v n
is_old n (a.Num m) = true
is_old n (a.Truth b) = true

-- the inner part of an assert is calculations and operations of new variables, which come so far
abbrev pub is_plain : ℕ → Binds → Bool
is_plain n t.No_bind = true
is_plain n (t.Calc_to p to w x y rest) = is_old n x && (is_old n y && (rises n (to ∷ []) && is_plain (past n (to ∷ [])) rest))
is_plain n (t.Apply_to p to op made us rest) = rises n to && is_plain (past n to) rest
is_plain n _ = false

abbrev pub past_plain : ℕ → Binds → ℕ
past_plain n (t.Calc_to p to w x y rest) = past_plain (past n (to ∷ [])) rest
past_plain n (t.Apply_to p to op made us rest) = past_plain (past n to) rest
past_plain n _ = n

abbrev pub asserted : State → Binds → Arg → State
asserted s inner x = record { toks = s.toks; entries = s.entries; hold = s.hold; next = past_plain s.next inner; facts = learnt (defs_in inner []) x ++ s.facts; defs = s.defs; branch = s.branch }

-- ---- what stands anywhere

-- what has a block of its own
abbrev pub is_block : Rep → Bool
is_block x = is_container x && not (is_slice x)

abbrev pub first_word : Option Token → List Token → Bool
first_word o [] = false
first_word o (x ∷ xs) = has_token o x

-- the Owned container with a block of which a register holds the first word
abbrev pub owner : List Entry → (ℕ → Hold) → Option Token → Option ℕ
owner [] hold o = None
owner (e ∷ es) hold o = cond (is_block e.shape.rep && is_owned (hold e.var) && first_word o e.words) (Some e.var) (owner es hold o)

-- ---- rows

abbrev pub fates : List Take → List Bool
fates [] = []
fates (x ∷ xs) = is_destroyed x.fate ∷ fates xs

-- the bound, where a row has one, is the procedure's first argument
abbrev pub bound_words : Option Rep → List Rep → List ℕ
bound_words None xs = option_to_list (bound_of xs)
bound_words (Some y) xs = option_to_list (bound_of (y ∷ xs))

abbrev pub nth_token : ℕ → List Token → Option Token
nth_token j [] = None
nth_token zero (x ∷ xs) = Some x
nth_token (suc j) (x ∷ xs) = nth_token j xs

abbrev pub nth_word : ℕ → List Info → Option Token
nth_word j [] = None
nth_word j (i ∷ is) = nth_token j i.words

unfoldable pub one_out : List ℕ → List Line → (ℕ → Answer) → Answer
one_out (v ∷ []) ls k = k v
one_out _ ls k = Unmet ls

-- the representations and tags of a row's results
abbrev pub given_shapes : List Spot → Option Rep → List Arg → Rule → List Shape
given_shapes ss made us x = row_shapes (op_bound made (reps_of (looked_up ss us))) (slice_tag (destroyed x.takes (looked_up ss us))) x.gives

-- ---- procedures of the text

abbrev pub numbered_name : List ℕ → ℕ → List ℕ
numbered_name letter n = letter ++ decimal n

-- procedures are p1, p2 and so on, branches b1, b2 and so on
abbrev pub proc_name : ℕ → List ℕ
proc_name g = numbered_name (codes "p") (suc g)

abbrev pub branch_name : ℕ → List ℕ
branch_name n = numbered_name (codes "b") (suc n)

-- the containers that a call takes over
abbrev pub taken_over : List InParam → List Bool
taken_over [] = []
taken_over (y ∷ ys) = not y.kept ∷ taken_over ys

-- the words of the lists that stand for slices
abbrev pub list_words : List InParam → List Info → List (List Token)
list_words (y ∷ ys) (i ∷ is) = cond (is_slice y.rep && not y.kept) (i.words ∷ list_words ys is) (list_words ys is)
list_words _ _ = []

abbrev pub next_words : List (List Token) → List Token
next_words [] = []
next_words (w ∷ ws) = w

abbrev pub other_words : List (List Token) → List (List Token)
other_words [] = []
other_words (w ∷ ws) = ws

-- the words of a call's results: a slice is one of those lists again
abbrev pub result_words : List ℕ → List Rep → List (List Token) → List (List Token)
result_words [] ys ws = []
result_words (v ∷ vs) [] ws = []
result_words (v ∷ vs) (y ∷ ys) ws = cond (is_slice y) (next_words ws ∷ result_words vs ys (other_words ws)) (fresh v (bare y) ∷ result_words vs ys ws)

abbrev pub joined_words : List (List Token) → List Token
joined_words [] = []
joined_words (w ∷ ws) = w ++ joined_words ws

-- ---- what the following looks at besides

-- the rule check's book, the procedures of the program, and the names of the library's
pub record Views : Type 0 where
  pub book : Book
  pub procs : List Proc
  pub lib_name : LibName → List ℕ

-- ---- sides and loops

-- the state after both sides of an `if`
abbrev pub met_state : State → State → State → State
met_state u s1 s2 =
    record { toks = λ x. both_tokens (s1.toks x) (s2.toks x); entries = u.entries; hold = s1.hold; next = max s1.next s2.next; facts = u.facts; defs = u.defs; branch = s2.branch }

-- the lines behind those of binds
abbrev pub past_lines : Binds → List Line → List Line
past_lines t.No_bind ls = ls
past_lines (t.Calc_to p to w x y rest) ls = past_lines rest (drop 1 ls)
past_lines (t.Apply_to p to op made us rest) ls = past_lines rest (drop 1 ls)
past_lines (t.Assert p inner x rest) ls = past_lines rest ls
past_lines (t.If p to x l le r re rest) ls = past_lines rest (past_lines r (past_lines l (drop 1 ls)))
past_lines (t.While p to xs us cs x b be rest) ls = past_lines rest (past_lines b (past_lines cs (drop 1 ls)))
past_lines (t.Par p to l le r re rest) ls = past_lines rest (past_lines r (past_lines l (drop 1 ls)))
past_lines (t.Split p to list at i l le j r re rest) ls = past_lines rest (past_lines r (past_lines l (drop 1 ls)))
past_lines (t.Either p to l le r re rest) (Left_line ∷ ls) = past_lines rest (past_lines l ls)
past_lines (t.Either p to l le r re rest) (Right_line ∷ ls) = past_lines rest (past_lines r ls)
past_lines (t.Either p to l le r re rest) ls = []
past_lines (t.Any p to x y rest) ls = past_lines rest (drop 1 ls)
past_lines (t.Call p to g us rest) ls = past_lines rest (drop 1 ls)

-- the registers in the lines `if` and `while` of binds, and of what follows them; a branch has registers of its own
abbrev pub line_regs : Binds → List Line → (List Line → List ℕ) → List ℕ
line_regs t.No_bind ls k = k ls
line_regs (t.Calc_to p to w x y rest) ls k = line_regs rest (drop 1 ls) k
line_regs (t.Apply_to p to op made us rest) ls k = line_regs rest (drop 1 ls) k
line_regs (t.Assert p inner x rest) ls k = line_regs rest ls k
line_regs (t.If p to x l le r re rest) (If_line rs ∷ ls) k = rs ++ line_regs l ls (λ ls. line_regs r ls (λ ls. line_regs rest ls k))
line_regs (t.If p to x l le r re rest) ls k = []
line_regs (t.While p to xs us cs x b be rest) (While_line rs ∷ ls) k = rs ++ line_regs cs ls (λ ls. line_regs b ls (λ ls. line_regs rest ls k))
line_regs (t.While p to xs us cs x b be rest) ls k = []
line_regs (t.Par p to l le r re rest) ls k = line_regs rest (past_lines r (past_lines l (drop 1 ls))) k
line_regs (t.Split p to list at i l le j r re rest) ls k = line_regs rest (past_lines r (past_lines l (drop 1 ls))) k
line_regs (t.Either p to l le r re rest) (Left_line ∷ ls) k = line_regs l ls (λ ls. line_regs rest ls k)
line_regs (t.Either p to l le r re rest) (Right_line ∷ ls) k = line_regs r ls (λ ls. line_regs rest ls k)
line_regs (t.Either p to l le r re rest) ls k = []
line_regs (t.Any p to x y rest) ls k = line_regs rest (drop 1 ls) k
line_regs (t.Call p to g us rest) ls k = line_regs rest (drop 1 ls) k

abbrev pub in_test : State → State
in_test s = with_facts (with_hold s (λ v. lent (s.hold v))) s.facts []

-- a loop's body begins with the head's entries, and the registers that its condition left
abbrev pub in_body : State → State → List Fact → State
in_body head s fs = record { toks = s.toks; entries = head.entries; hold = head.hold; next = s.next; facts = fs ++ head.facts; defs = []; branch = s.branch }

-- the state after a loop
abbrev pub left_state : State → (ℕ → Hold) → State → State → State
left_state u g s1 s2 = record { toks = s1.toks; entries = u.entries; hold = g; next = max s1.next s2.next; facts = u.facts; defs = u.defs; branch = s2.branch }

-- an `either` ends with the registers of the side
abbrev pub outside : State → State → (ℕ → Hold) → State
outside s u g = record { toks = u.toks; entries = s.entries; hold = g; next = u.next; facts = s.facts; defs = s.defs; branch = u.branch }

-- ---- branches

abbrev pub uses : List ℕ → ℕ → Bool
uses vs v = is_among v vs

-- variables that both branches use, and that one alone uses
abbrev pub both : (ℕ → Bool) → (ℕ → Bool) → ℕ → Bool
both l r v = l v && r v

abbrev pub one : (ℕ → Bool) → (ℕ → Bool) → ℕ → Bool
one l r v = l v && not (r v)

-- the containers among what is chosen
abbrev pub pick : (ℕ → Bool) → List Entry → List Entry
pick sel [] = []
pick sel (e ∷ es) = cond (sel e.var && is_container e.shape.rep) (e ∷ pick sel es) (pick sel es)

abbrev pub is_there : Hold → Bool
is_there h = not (is_gone h)

-- what is used is there
abbrev pub there_all : (ℕ → Bool) → (ℕ → Hold) → List Entry → Bool
there_all used hold [] = true
there_all used hold (e ∷ es) = (not (used e.var) || is_there (hold e.var)) && there_all used hold es

-- the whole of a block, or of a slice its range: the registers of its offset and its length
abbrev pub is_range : (ℕ → Option Token) → ℕ × ℕ → List Token → Bool
is_range toks s (b ∷ o ∷ n ∷ []) = has_token (toks s.0) o && has_token (toks s.1) n
is_range toks s _ = false

abbrev pub span_is : (ℕ → Option Token) → Option (ℕ × ℕ) → Rep → List Token → Bool
span_is toks None x ws = not (is_slice x)
span_is toks (Some s) x ws = is_slice x && is_range toks s ws

abbrev pub hand_is : (ℕ → Option Token) → Hand → Entry → Bool
hand_is toks h e = first_word (toks h.block) e.words && span_is toks h.span e.shape.rep e.words

abbrev pub behind : Entry → Option (Entry × List Entry) → Option (Entry × List Entry)
behind e None = None
behind e (Some x) = Some (x.0, e ∷ x.1)

-- the first entry that a hand names, and the others
abbrev pub named_by : (ℕ → Option Token) → Hand → List Entry → Option (Entry × List Entry)
named_by toks h [] = None
named_by toks h (e ∷ es) = cond (hand_is toks h e) (Some (e, es)) (behind e (named_by toks h es))

abbrev pub no_entry : List Entry → Bool
no_entry [] = true
no_entry (e ∷ es) = false

abbrev pub on_named : Option (Entry × List Entry) → (List Entry → Bool) → Bool
on_named None k = false
on_named (Some x) k = k x.1

-- hands name exactly these containers, in any order
abbrev pub hands_are : (ℕ → Option Token) → List Hand → List Entry → Bool
hands_are toks [] es = no_entry es
hands_are toks (h ∷ hs) es = on_named (named_by toks h es) (λ rest. hands_are toks hs rest)

-- the entries that a branch uses; those that the other uses too are held in part
abbrev pub share_entry : (ℕ → Bool) → Entry → Entry
share_entry r e = record { var = e.var; shape = e.shape; words = e.words; part = e.part || r e.var }

abbrev pub branch_entries : (ℕ → Bool) → (ℕ → Bool) → List Entry → List Entry
branch_entries l r [] = []
branch_entries l r (e ∷ es) = cond (l e.var) (share_entry r e ∷ branch_entries l r es) (branch_entries l r es)

-- a branch that uses l beside one that uses r
abbrev pub branch_state : State → (ℕ → Bool) → (ℕ → Bool) → List ℕ → ℕ → State
branch_state u l r args n =
    record { toks = arg_tokens u.toks args; entries = branch_entries l r u.entries; hold = λ v. cond (r v) Kept (u.hold v); next = u.next; facts = u.facts; defs = []; branch = n }

abbrev pub after_par : State → (ℕ → Bool) → (ℕ → Bool) → State → State → State
after_par u l r s1 s2 = record {
  toks = u.toks;
  entries = u.entries;
  hold = λ v. cond (l v) (cond (r v) (u.hold v) (s1.hold v)) (cond (r v) (s2.hold v) (u.hold v));
  next = max s1.next s2.next;
  facts = u.facts;
  defs = u.defs;
  branch = s2.branch;
}

-- ---- `split`

unfoldable pub three_words : List Token → List Line → (Token → Token → Token → Answer) → Answer
three_words (b ∷ o ∷ n ∷ []) ls k = k b o n
three_words _ ls k = Unmet ls

unfoldable pub one_word : List Token → List Line → (Token → Answer) → Answer
one_word (x ∷ []) ls k = k x
one_word _ ls k = Unmet ls

unfoldable pub first_out : List ℕ → List Line → (ℕ → List ℕ → Answer) → Answer
first_out (v ∷ vs) ls k = k v vs
first_out [] ls k = Unmet ls

unfoldable pub behind_first : List Shape → List Line → (List Shape → Answer) → Answer
behind_first (z ∷ zs) ls k = k zs
behind_first [] ls k = Unmet ls

-- the offset and the length of the right part are words of its variable, which comes later
abbrev pub at_add : State → ℕ → ℕ → State
at_add u j ra = record { toks = put u.toks ra (Some (Of j 1)); entries = u.entries; hold = u.hold; next = suc j; facts = u.facts; defs = u.defs; branch = u.branch }

abbrev pub at_sub : State → ℕ → ℕ → State
at_sub u j rb = with_toks u (put u.toks rb (Some (Of j 2)))

abbrev pub slice_of : ℕ → Shape
slice_of k = record { rep = r.Slice; tag = k }

-- the list is gone, and its parts are there
abbrev pub parts_state : State → ℕ → ℕ → ℕ → Token → Token → Token → State
parts_state u list i j b o k =
    bind_entry (bind_entry (with_hold u (put u.hold list Gone)) i (slice_of i) (b ∷ o ∷ k ∷ [])) j (slice_of j) (b ∷ Of j 1 ∷ Of j 2 ∷ [])

-- each part is used by its side alone
abbrev pub uses_part : ℕ → ℕ → (ℕ → Bool) → ℕ → Bool
uses_part i j used v = cond (nat_eq v i) true (cond (nat_eq v j) false (used v))

abbrev pub old_token : ℕ → Option Token → Option Token
old_token n None = None
old_token n (Some (Number x)) = Some (Number x)
old_token n (Some (Of v j)) = cond (nat_lt v n) (Some (Of v j)) None

abbrev pub part_state : State → (ℕ → Bool) → (ℕ → Bool) → List ℕ → ℕ → ℕ → State
part_state u l r args i n = record {
  toks = arg_tokens (λ x. old_token (suc i) (u.toks x)) args;
  entries = branch_entries l r u.entries;
  hold = λ v. cond (r v) Kept (u.hold v);
  next = suc i;
  facts = u.facts;
  defs = [];
  branch = n;
}

-- some targets get no token
abbrev pub put_maybe : (ℕ → Option Token) → List ℕ → List (Option Token) → ℕ → Option Token
put_maybe toks [] os = toks
put_maybe toks (x ∷ xs) [] = toks
put_maybe toks (x ∷ xs) (o ∷ os) = put_maybe (put toks x o) xs os

abbrev pub somes : List Token → List (Option Token)
somes [] = []
somes (x ∷ xs) = Some x ∷ somes xs

abbrev pub out_tokens : ℕ → List Token → List (Option Token)
out_tokens n ts = None ∷ None ∷ None ∷ (somes (take n ts) ++ (None ∷ None ∷ None ∷ somes (drop n ts)))

-- the list is whole again under a new name; then come the other results
abbrev pub after_split : State → State → (ℕ → Bool) → (ℕ → Bool) → State → State → List ℕ → List ℕ → ℕ → Shape → List Token → List ℕ → List Shape → State
after_split u s l r s1 s2 lto rto out shape words outs shapes = bind_all (bind_entry (record {
  toks = put_maybe u.toks (lto ++ rto) (out_tokens (length lto - 3) (all_fresh outs shapes));
  entries = u.entries;
  hold = (after_par s l r s1 s2).hold;
  next = max s1.next s2.next;
  facts = u.facts;
  defs = u.defs;
  branch = s2.branch;
}) out shape words) outs shapes

module _ (R : ℕ) (V : Views) where
  -- an instruction that may stand anywhere, or else the stop
  unfoldable pub pass_one : List Line → State → Instr-F Instr Code → (State → Answer) → Answer → Answer
  pass_one ls s (I.Const to v) k stop = need (nat_lt to R) ls (k (with_toks s (put s.toks to (Some (Number v)))))
  pass_one ls s (I.Mov to from) k stop = need (nat_lt to R) ls (k (with_toks s (put s.toks to (s.toks from))))
  pass_one ls s (I.Free b) k stop = with_some (owner s.entries s.hold (s.toks b)) ls (λ v. k (with_hold s (put s.hold v Gone)))
  pass_one ls s _ k stop = stop

  unfoldable pub pass_all : State → List Instr → List Line → (State → List Instr → Answer) → Answer
  pass_all s [] ls go = go s []
  pass_all s (i ∷ is) ls go = pass_one ls s (out-Instr i) (λ u. pass_all u is ls go) (go s (i ∷ is))

  -- no further than needed
  unfoldable pub pass_until : (State → Bool) → State → List Instr → List Line → (State → List Instr → Answer) → Answer
  pass_until ok s [] ls go = need (ok s) ls (go s [])
  pass_until ok s (i ∷ is) ls go = cond (ok s) (go s (i ∷ is)) (pass_one ls s (out-Instr i) (λ u. pass_until ok u is ls go) (Unmet ls))

  -- the end of a block that began with so many entries and at the variable `mark`: its results are in these registers and move out
  abbrev pub end_block : ℕ → ℕ → (List Shape → Option ℕ) → Ending → List ℕ → Walk
  end_block count mark astray e rs s code ls =
      pass_all s code ls (λ u is. at_end_of is ls
      (with_some (arg_infos u.entries e.results) ls (λ infos.
      with_ok (ended V.book count astray (ctx_of u) e) ls (λ m.
      need (hold_words u.toks rs (all_words infos) && all_below R rs && none_left mark (goners (all_vars infos) u.hold) u.entries) ls
      (Found (with_hold u (goners (all_vars infos) u.hold)) [] ls)))))

  abbrev pub block : Walk → ℕ → ℕ → (List Shape → Option ℕ) → Ending → List ℕ → Walk
  block go count mark astray e rs s code ls = and_then (go s code ls) (end_block count mark astray e rs)

  -- the end of a loop's condition
  abbrev pub end_test : ℕ → Walk
  end_test mark s code ls = pass_all s code ls (λ u is. at_end_of is ls (need (none_left mark u.hold u.entries) ls (Found u [] ls)))

  abbrev pub calc_step : State → List Instr → List Line → Place → ℕ → Calc → Arg → Arg → Walk → Answer
  calc_step s code lines p out w l r go =
      on_calc_line lines (λ ls.
      with_some (arg_info s.entries l) lines (λ x.
      with_some (arg_info s.entries r) lines (λ y.
      pass_all s code lines (λ u is. with_head is lines (λ i rest. calc_own lines i (λ to v m n.
      need (same_calc v w && hold_words u.toks (m ∷ []) x.words && hold_words u.toks (n ∷ []) y.words && all_below R (to ∷ []) && in_order u.next (out ∷ []) (bare (calc_rep w) ∷ [])) lines
      (go (with_facts (bind_at u (to ∷ []) (out ∷ []) (bare (calc_rep w) ∷ [])) (calc_tells w out r ++ u.facts) (def_of p out w l r ∷ u.defs)) rest ls)))))))

  abbrev pub call_step : State → List Instr → List Line → Place → List ℕ → Op → Option Rep → List Arg → List Info → Rule → LibName → Walk → Answer
  call_step s code lines p outs op made us infos x name go =
      on_row_line lines (V.lib_name name) (λ ls.
      pass_all s code lines (λ u is.
      with_ok (apply_sure V.book (ctx_of u) p op made us) lines (λ y.
      with_head is lines (λ i rest. call_own lines i (λ to called regs.
      need (bytes_eq called (V.lib_name name) && hold_words u.toks regs (numbers (bound_words made (info_reps infos)) ++ all_words infos) && all_below R to && old_shapes u.next (given_shapes (ctx_of u).spots made us x) && in_order u.next outs (given_shapes (ctx_of u).spots made us x) && nat_eq (length to) (length (all_fresh outs (given_shapes (ctx_of u).spots made us x)))) lines
      (go (bind_at (with_hold u (goners (wanted true (fates x.takes) infos) u.hold)) to outs (given_shapes (ctx_of u).spots made us x)) rest ls))))))

  abbrev pub reg_step : State → List Instr → List Line → Place → List ℕ → Op → Option Rep → List Arg → List Info → ℕ → Walk → Answer
  reg_step s code lines p outs op made us infos j go =
      on_reg_line lines (λ ls.
      with_ok (apply_sure V.book (ctx_of s) p op made us) lines (λ y.
      with_some (nth_word j infos) lines (λ w.
      one_out outs lines (λ v.
      need (nat_le s.next v) lines (go (bind_entry s v (bare r.Word) (w ∷ [])) code ls)))))

  abbrev pub row_step : State → List Instr → List Line → Place → List ℕ → Op → Option Rep → List Arg → List Info → Rule → RowCode → Walk → Answer
  row_step s code lines p outs op made us infos x (c.Register j) go = reg_step s code lines p outs op made us infos j go
  row_step s code lines p outs op made us infos x (c.Proc name) go = call_step s code lines p outs op made us infos x name go

  abbrev pub apply_step : State → List Instr → List Line → Place → List ℕ → Op → Option Rep → List Arg → Walk → Answer
  apply_step s code lines p outs op made us go =
      with_some (arg_infos s.entries us) lines (λ infos.
      with_some (V.book.row_for op (info_reps infos) made) lines (λ x.
      row_step s code lines p outs op made us infos x x.code go))

  abbrev pub if_step : State → List Instr → List Line → Place → List ℕ → Arg → Walk → Ending → Walk → Ending → Walk → Answer
  if_step s code lines p outs test left le right re go =
      on_if_line lines (λ rs ls.
      with_some (arg_info s.entries test) lines (λ a.
      pass_all s code lines (λ u is. with_head is lines (λ i rest. if_own lines i (λ t c d.
      need (hold_words u.toks (t ∷ []) a.words) lines
      (and_then (block left (length u.entries) u.next no_list le rs (begun_state u (learnt (defs_behind p u.defs) test)) c.list ls) (λ s1 c1 l1.
      with_some (arg_infos s1.entries le.results) l1 (λ i1.
      and_then (block right (length u.entries) u.next no_list re rs (with_branch (begun_state u []) s1.branch) d.list l1) (λ s2 c2 l2.
      with_some (arg_infos s2.entries re.results) l2 (λ i2.
      need (same_holds s1.hold s2.hold u.entries && same_shapes (info_shapes i2) (info_shapes i1) && in_order (max s1.next s2.next) outs (info_shapes i1)) l2
      (go (bind_at (met_state u s1 s2) rs outs (info_shapes i1)) rest l2)))))))))))

  -- at the head of a loop registers that are written inside, and those of the variables, have no token from before
  abbrev pub head_toks : State → List ℕ → List ℕ → Code → Code → ℕ → Option Token
  head_toks u rs inner c b x = cond (nat_lt x R && (not (loop_writes c b x || is_one_of x inner) && not (is_one_of x rs))) (u.toks x) None

  abbrev pub head_base : State → (ℕ → Hold) → List ℕ → List ℕ → Code → Code → State
  head_base u g rs inner c b = record { toks = head_toks u rs inner c b; entries = u.entries; hold = λ v. lent (g v); next = u.next; facts = u.facts; defs = u.defs; branch = u.branch }

  abbrev pub loop_head : State → (ℕ → Hold) → List ℕ → List ℕ → List ℕ → List Shape → Code → Code → State
  loop_head u g rs inner vars zs c b = bind_at (head_base u g rs inner c b) rs vars zs

  -- a loop whose head is this state
  abbrev pub turn_step : State → State → (ℕ → Hold) → List ℕ → List ℕ → List ℕ → List ℕ → List Shape → Code → ℕ → Code → List Instr → List Line → Walk → Binds → Arg → Walk → Ending → Walk → Answer
  turn_step head u g rs inner outs vars zs c t b rest ls tests cs test body be go =
      and_then (and_then (tests (in_test head) c.list ls) (end_test head.next)) (λ s1 c1 l1.
      with_some (arg_info s1.entries test) l1 (λ a.
      need (hold_words s1.toks (t ∷ []) a.words && hold_words s1.toks rs (all_fresh vars zs) && same_holds (in_test head).hold s1.hold head.entries) l1
      (and_then (block body (length u.entries) u.next no_list be rs (in_body head s1 (learnt (defs_in cs []) test)) b.list l1) (λ s2 c2 l2.
      with_some (arg_infos s2.entries be.results) l2 (λ i2.
      need (same_shapes (info_shapes i2) zs && same_holds (λ v. lent (g v)) s2.hold u.entries && keep_tokens R (head_toks u rs inner c b) s2.toks && in_order (max s1.next s2.next) outs zs) l2
      (go (bind_at (left_state u g s1 s2) rs outs zs) rest l2))))))

  abbrev pub while_step : State → List Instr → List Line → Place → List ℕ → List ℕ → List Arg → Walk → Binds → Arg → Walk → Binds → Ending → Walk → Answer
  while_step s code lines p outs vars starts tests cs test body bs be go =
      on_while_line lines (λ rs ls.
      with_some (arg_infos s.entries starts) lines (λ si.
      pass_all s code lines (λ u is.
      with_ok (started V.book (ctx_of u) p starts) lines (λ m.
      with_head is lines (λ i rest. while_own lines i (λ c t b.
      need (hold_words u.toks rs (all_words si) && all_below R rs && in_order u.next vars (info_shapes si)) lines
      (turn_step (loop_head u (goners (all_vars si) u.hold) rs (line_regs cs ls (λ ls. line_regs bs ls (λ ls. []))) vars (info_shapes si) c b) u (goners (all_vars si) u.hold) rs (line_regs cs ls (λ ls. line_regs bs ls (λ ls. []))) outs vars (info_shapes si) c t b rest ls tests cs test body be go)))))))

  -- a side of an `either`: at its end no Owned container that was made in it is left but results
  abbrev pub over_with : ℕ → State → Option (List Info) → Bool
  over_with mark u None = true
  over_with mark u (Some infos) = none_left mark (goners (all_vars infos) u.hold) u.entries

  abbrev pub side_over : ℕ → Ending → State → Bool
  side_over mark e u = over_with mark u (arg_infos u.entries e.results)

  abbrev pub side_step : State → List Instr → List Line → List ℕ → Walk → Ending → Walk → Answer
  side_step s code js outs side e go =
      and_then (side (begun_state s []) code js) (λ s1 c1 l1.
      pass_until (side_over s.next e) s1 c1 l1 (λ u is.
      with_some (arg_infos u.entries e.results) l1 (λ infos.
      with_ok (ended V.book (length s.entries) no_list (ctx_of u) e) l1 (λ m.
      need (none_left s.next (goners (all_vars infos) u.hold) u.entries && in_order u.next outs (info_shapes infos)) l1
      (go (bind_words (outside s u (goners (all_vars infos) u.hold)) outs (info_shapes infos) (infos_words infos)) is l1)))))

  abbrev pub either_at : Bool → State → List Instr → List Line → List ℕ → Walk → Ending → Walk → Ending → Walk → Answer
  either_at true s code js outs left le right re go = side_step s code js outs left le go
  either_at false s code js outs left le right re go = side_step s code js outs right re go

  abbrev pub either_step : State → List Instr → List Line → List ℕ → Walk → Ending → Walk → Ending → Walk → Answer
  either_step s code lines outs left le right re go = on_side_line lines (λ b js. either_at b s code js outs left le right re go)

  abbrev pub any_step : State → List Instr → List Line → ℕ → Arg → Arg → Walk → Answer
  any_step s code lines v lo hi go =
      on_any_line lines (λ x ls.
      with_some (arg_info s.entries lo) lines (λ a.
      pass_until (λ u. hold_words u.toks (x ∷ []) a.words) s code lines (λ u is.
      need (in_order u.next (v ∷ []) (bare r.Word ∷ [])) lines
      (go (with_facts (bind_words u (v ∷ []) (bare r.Word ∷ []) (a.words ∷ [])) (any_tells v hi ++ u.facts) u.defs) is ls))))

  abbrev pub use_step : State → List Instr → List Line → Place → List ℕ → ℕ → List Arg → Walk → Answer
  use_step s code lines p outs g args go =
      on_use_line lines (λ ls.
      with_some (arg_infos s.entries args) lines (λ infos.
      with_some (sig_at V.book.sigs g) lines (λ sig.
      pass_all s code lines (λ u is.
      with_ok (call_sure V.book (ctx_of u) p g args) lines (λ y.
      with_head is lines (λ i rest. call_own lines i (λ to called regs.
      let shapes : List Shape = call_shapes sig.outs (lists sig.params (looked_up (ctx_of u).spots args)) in
      let words : List (List Token) = result_words outs sig.outs (list_words sig.params infos) in
      need (bytes_eq called (proc_name g) && hold_words u.toks regs (all_words infos) && all_below R to && old_shapes u.next shapes && in_order u.next outs shapes && nat_eq (length to) (length (joined_words words))) lines
      (go (bind_words (with_toks (with_hold u (goners (wanted true (taken_over sig.params) infos) u.hold)) (put_tokens u.toks to (joined_words words))) outs shapes words) rest ls))))))))

abbrev pub branch_block : ℕ → Views → Walk → ℕ → ℕ → (List Shape → Option ℕ) → Ending → List ℕ → Walk
branch_block R V = block R V

module _ (R : ℕ) (V : Views) where
  abbrev pub par_step : State → List Instr → List Line → Place → List ℕ → (ℕ → Walk) → Ending → List ℕ → (ℕ → Walk) → Ending → List ℕ → Walk → Answer
  par_step s code lines p outs left le lvars right re rvars go =
      let lused : ℕ → Bool = uses lvars in
      let rused : ℕ → Bool = uses rvars in
      on_par_line lines (λ js.
      pass_all R V s code lines (λ u is.
      with_ok (par_sure V.book (ctx_of u).spots lvars rvars (refused p (codes "par") [])) lines (λ ss.
      with_head is lines (λ i rest. par_own lines i (λ x y.
      with_some (find V.procs x.proc) lines (λ g1.
      with_some (find V.procs y.proc) lines (λ g2.
      need (bytes_eq x.proc (branch_name u.branch) && hands_are u.toks x.hands (pick (one lused rused) u.entries) && hands_are u.toks x.lends (pick (both lused rused) u.entries) && hands_are u.toks y.hands (pick (one rused lused) u.entries) && hands_are u.toks y.lends (pick (both lused rused) u.entries) && nat_le (length x.args) g1.regs && nat_le (length y.args) g2.regs && all_below R (x.to ++ y.to)) lines
      (and_then (branch_block g1.regs V (left g1.regs) (length (branch_entries lused rused u.entries)) u.next no_list le g1.ret (branch_state u lused rused x.args (suc u.branch)) g1.code.list js) (λ s1 c1 l1.
      with_some (arg_infos s1.entries le.results) l1 (λ i1.
      need (bytes_eq y.proc (branch_name s1.branch)) l1
      (and_then (branch_block g2.regs V (right g2.regs) (length (branch_entries rused lused u.entries)) u.next no_list re g2.ret (branch_state u rused lused y.args (suc s1.branch)) g2.code.list l1) (λ s2 c2 l2.
      with_some (arg_infos s2.entries re.results) l2 (λ i2.
      need (old_shapes u.next (info_shapes i1 ++ info_shapes i2) && in_order (max s1.next s2.next) outs (info_shapes i1 ++ info_shapes i2) && nat_eq (length x.to) (length g1.ret) && there_all (both lused rused) s1.hold u.entries && there_all (both lused rused) s2.hold u.entries) l2
      (go (bind_at (after_par u lused rused s1 s2) (x.to ++ y.to) outs (info_shapes i1 ++ info_shapes i2)) rest l2))))))))))))))

  abbrev pub split_fork : State → List Instr → List Line → List Line → Place → List ℕ → ℕ → ℕ → ℕ → Shape → Token → Token → Token → Token → ℕ → (ℕ → Walk) → Ending → List ℕ → ℕ → (ℕ → Walk) → Ending → List ℕ → Walk → Answer
  split_fork u is lines js p outs list ra rb shape b o len k i left le lvars j right re rvars go =
      let l : ℕ → Bool = uses_part i j (uses lvars) in
      let r : ℕ → Bool = uses_part j i (uses rvars) in
      let w : State = parts_state u list i j b o k in
      with_ok (split_sure V.book (ctx_of u).spots p list lvars rvars) lines (λ ss.
      with_head is lines (λ h rest. par_own lines h (λ x y.
      with_some (find V.procs x.proc) lines (λ g1.
      with_some (find V.procs y.proc) lines (λ g2.
      need (is_owned (u.hold list) && has_token (u.toks ra) (Of j 1) && has_token (u.toks rb) (Of j 2)) lines
      (need (bytes_eq x.proc (branch_name u.branch) && hands_are u.toks x.hands (pick (one l r) w.entries) && hands_are u.toks x.lends (pick (both l r) w.entries) && hands_are u.toks y.hands (pick (one r l) w.entries) && hands_are u.toks y.lends (pick (both l r) w.entries) && nat_le (length x.args) g1.regs && nat_le (length y.args) g2.regs && all_below R (x.to ++ y.to)) lines
      (and_then (branch_block g1.regs V (left g1.regs) (length (branch_entries l r w.entries)) (suc i) (first_is i) le g1.ret (part_state w l r x.args i (suc u.branch)) g1.code.list js) (λ s1 c1 l1.
      with_some (arg_infos s1.entries le.results) l1 (λ i1.
      need (bytes_eq y.proc (branch_name s1.branch)) l1
      (and_then (branch_block g2.regs V (right g2.regs) (length (branch_entries r l w.entries)) (suc j) (first_is j) re g2.ret (part_state w r l y.args j (suc s1.branch)) g2.code.list l1) (λ s2 c2 l2.
      with_some (arg_infos s2.entries re.results) l2 (λ i2.
      behind_first (info_shapes i1) l2 (λ q1.
      behind_first (info_shapes i2) l2 (λ q2.
      first_out outs l2 (λ out others.
      need (old_shapes i (q1 ++ q2) && in_order (max s1.next s2.next) (out ∷ others) (shape ∷ (q1 ++ q2)) && nat_eq (length x.to) (length g1.ret) && is_gone (s1.hold i) && is_gone (s2.hold j) && there_all (both l r) s1.hold w.entries && there_all (both l r) s2.hold w.entries) l2
      (go (after_split u w l r s1 s2 x.to y.to out shape (b ∷ o ∷ len ∷ []) others (q1 ++ q2)) rest l2))))))))))))))))

  abbrev pub split_step : State → List Instr → List Line → Place → List ℕ → ℕ → Arg → ℕ → (ℕ → Walk) → Ending → List ℕ → ℕ → (ℕ → Walk) → Ending → List ℕ → Walk → Answer
  split_step s code lines p outs list at i left le lvars j right re rvars go =
      on_split_line lines (λ ra rb js.
      with_some (lookup s.entries list) lines (λ e.
      with_some (arg_info s.entries at) lines (λ a.
      three_words e.words lines (λ b o len.
      one_word a.words lines (λ k.
      need (is_container e.shape.rep && nat_le s.next i && nat_le (suc i) j && not (nat_eq ra rb)) lines
      (pass_all R V s code lines (λ u0 is0. with_head is0 lines (λ x0 rest0. calc_own lines x0 (λ to w m n.
      need (is_owned (u0.hold list) && same_calc w calc.Add && nat_eq to ra && hold_words u0.toks (m ∷ n ∷ []) (o ∷ k ∷ []) && all_below R (to ∷ [])) lines
      (pass_all R V (at_add u0 j ra) rest0 lines (λ u1 is1. with_head is1 lines (λ x1 rest1. calc_own lines x1 (λ to w m n.
      need (same_calc w calc.Sub && nat_eq to rb && hold_words u1.toks (m ∷ n ∷ []) (len ∷ k ∷ []) && all_below R (to ∷ [])) lines
      (pass_all R V (at_sub u1 j rb) rest1 lines (λ u is.
      split_fork u is lines js p outs list ra rb e.shape b o len k i left le lvars j right re rvars go)))))))))))))))

-- a list of binds is followed with the code, where the procedure has so many registers
abbrev pub fit : ℕ → Views → Binds → Walk
fit R V t.No_bind s code lines = Found s code lines
fit R V (t.Calc_to p to w x y rest) s code lines = calc_step R V s code lines p to w x y (fit R V rest)
fit R V (t.Apply_to p to op made us rest) s code lines = apply_step R V s code lines p to op made us (fit R V rest)
fit R V (t.Assert p inner x rest) s code lines = need (is_plain s.next inner) lines (fit R V rest (asserted s inner x) code lines)
fit R V (t.If p to x l le r re rest) s code lines = if_step R V s code lines p to x (fit R V l) le (fit R V r) re (fit R V rest)
fit R V (t.While p to xs us cs x b be rest) s code lines = while_step R V s code lines p to xs us (fit R V cs) cs x (fit R V b) b be (fit R V rest)
fit R V (t.Par p to l le r re rest) s code lines =
    par_step R V s code lines p to (λ q. fit q V l) le (block_used l le) (λ q. fit q V r) re (block_used r re) (fit R V rest)
fit R V (t.Split p to list at i l le j r re rest) s code lines =
    split_step R V s code lines p to list at i (λ q. fit q V l) le (without list (block_used l le)) j (λ q. fit q V r) re (without list (block_used r re)) (fit R V rest)
fit R V (t.Either p to l le r re rest) s code lines = either_step R V s code lines to (fit R V l) le (fit R V r) re (fit R V rest)
fit R V (t.Any p to x y rest) s code lines = any_step R V s code lines to x y (fit R V rest)
fit R V (t.Call p to g us rest) s code lines = use_step R V s code lines p to g us (fit R V rest)
