-- What is printed for a flat tree: code with its derivation, or the refusal of the rule check.
use Rattle.std.specs.Prelude.{ℕ, suc, ◌+◌, Bool, true, false, ◌&&◌, not, cond, List, [], ◌∷◌, ◌++◌, length, max, Option, Some, None, Result, Ok, Err, codes}
use Rattle.target_code.specs.Reps.{width}
use Rattle.target_code.specs.declared.tree.Branch.{Branch}
use Rattle.target_code.specs.declared.tree.Calc.{Calc}
use Rattle.target_code.specs.declared.tree.Calc.TheVariants as c
use Rattle.target_code.specs.declared.tree.Code.{Code}
use Rattle.target_code.specs.declared.tree.Hand.{Hand}
use Rattle.target_code.specs.declared.tree.Instr.{Instr}
use Rattle.target_code.specs.declared.tree.Instr.TheVariants as I
use Rattle.target_code.specs.declared.tree.Proc.{Proc}
use Rattle.target_code.specs.declared.tree.Rep.{Rep}
use Rattle.nres_core.specs.FlatTree as t
use Rattle.nres_core.specs.FlatTree.{Binds, Ending}
use Rattle.nres_core.specs.declared.flat.Arg.{Arg}
use Rattle.nres_core.specs.declared.place.Place.{Place}
use Rattle.nres_core.specs.declared.refusal.Refusal.{Refusal}
use Rattle.nres_core.specs.declared.row.LibName.{LibName}
use Rattle.nres_core.specs.declared.row.RowCode.{RowCode}
use Rattle.nres_core.specs.declared.row.RowCode.TheVariants as r
use Rattle.rule_check.specs.Context.{Spot, Ctx, Shape, is_container, is_slice, is_owned, is_gone, is_among, shape_of, reps_of, spot_at, looked_up, lent, binding, outer, inner}
use Rattle.rule_check.specs.Facts.{learnt, defs_in, defs_behind}
use Rattle.rule_check.specs.Steps.{Book, Sig, Moved, on_ok, either_of, refused, with_spots, begun, bare, calc_rep, calc_ctx, any_ctx, assert_ctx, apply_sure, apply_ctx, op_bound, slice_tag, destroyed, row_shapes, call_sure, call_ctx, call_shapes, lists, ended, no_list, first_is, met, started, head_spots, turned, taken, par_sure, split_sure, branch_spots, joined, slice_spot, other_shapes}
use Rattle.rule_check.specs.Table.{Rule}
use Rattle.rule_check.specs.Use.{block_used, without}
use Rattle.fits.specs.Places.{put}
use Rattle.fits.specs.Follow.{Line, Calc_line, Row_line, Reg_line, Any_line, Left_line, Right_line, If_line, While_line, Par_line, Split_line, Use_line, bound_words, proc_name, branch_name}
use Rattle.prints.specs.declared.home.Home.{Home}
use Rattle.prints.specs.declared.home.Home.TheVariants.{Register, Literal}
use Rattle.prints.specs.Homes.{Homes, arg_home, arg_homes, span, regs_all, free_after, homes_bound, homes_like, literals, args_words, first_word_at, reg_of, load, load_reg, load_free, loads, loads_regs, loads_free, moves, saves_free, turns, frees}

-- the rule check's book, and the names of the library's procedures
pub record Means : Type 0 where
  pub book : Book
  pub lib_name : LibName → List ℕ

-- the rule check's context, where variables stand, the first register that is free from here on, and the number of branches so far
pub record Now : Type 0 where
  pub ctx : Ctx
  pub home : Homes
  pub free : ℕ
  pub branch : ℕ

-- code, the lines of its derivation, the procedures of its branches, the place that it comes to, and a bound on the registers that it writes
pub record Printed : Type 0 where
  pub now : Now
  pub code : List Instr
  pub lines : List Line
  pub made : List Proc
  pub top : ℕ

-- a block with its end: what was printed for its binds, the results that moved out of it, and their arguments
pub record Block : Type 0 where
  pub printed : Printed
  pub moved : Moved
  pub results : List Arg

abbrev pub now_in : Now → Ctx → ℕ → ℕ → Now
now_in t x n branch = record { ctx = x; home = t.home; free = n; branch = branch }

-- ---- what was printed comes before what follows

abbrev pub printed_before : List Instr → List Line → List Proc → ℕ → Printed → Printed
printed_before code lines made top p =
    record { now = p.now; code = code ++ p.code; lines = lines ++ p.lines; made = made ++ p.made; top = max top p.top }

unfoldable pub put_before : List Instr → List Line → List Proc → ℕ → Result Printed Refusal → Result Printed Refusal
put_before code lines made top (Ok p) = Ok (printed_before code lines made top p)
put_before code lines made top (Err e) = Err e

-- ---- new variables

abbrev pub now_bound : Now → Ctx → ℕ → ℕ → List ℕ → List Shape → Now
now_bound t x n branch outs zs = record { ctx = x; home = homes_bound t.home n outs zs; free = free_after n zs; branch = branch }

-- ---- calculations

abbrev pub calc_code : Now → Calc → Arg → Arg → List Instr
calc_code t w u v =
    let g = arg_home t.home u in
    let h = arg_home t.home v in
    let n = load_free t.free g in
    loads t.free (g ∷ h ∷ []) ++ (I.Calc (load_free n h) w (load_reg t.free g) (load_reg n h) ∷ [])

abbrev pub calc_now : Now → Place → ℕ → Calc → Arg → Arg → Now
calc_now t p to w u v = now_bound t (calc_ctx t.ctx p to w u v) (loads_free t.free (arg_home t.home u ∷ arg_home t.home v ∷ [])) t.branch (to ∷ []) (bare (calc_rep w) ∷ [])

-- ---- operations

-- the words of a call's arguments, behind the bound where the row has one
abbrev pub row_words : Now → Option Rep → List Arg → List Home
row_words t made us =
    let ss = looked_up t.ctx.spots us in
    literals (bound_words made (reps_of ss)) ++ args_words t.home us ss

abbrev pub results_of : Now → Option Rep → List Arg → Rule → List Shape
results_of t made us x =
    let ss = looked_up t.ctx.spots us in
    row_shapes (op_bound made (reps_of ss)) (slice_tag (destroyed x.takes ss)) x.gives

module _ (M : Means) where
  abbrev pub row_code : Now → Option Rep → List Arg → Rule → RowCode → List Instr
  row_code t made us x (r.Register j) = []
  row_code t made us x (r.Proc name) =
      let hs = row_words t made us in
      loads t.free hs ++ (I.Call (regs_all (loads_free t.free hs) (results_of t made us x)) (M.lib_name name) (loads_regs t.free hs) ∷ [])

  abbrev pub row_line : RowCode → Line
  row_line (r.Register j) = Reg_line
  row_line (r.Proc name) = Row_line (M.lib_name name)

abbrev pub row_free : Now → Option Rep → List Arg → RowCode → ℕ
row_free t made us (r.Register j) = t.free
row_free t made us (r.Proc name) = loads_free t.free (row_words t made us)

-- a result that is a register of the argument has no register of its own
abbrev pub row_home : Now → List ℕ → Option Rep → List Arg → Rule → RowCode → Homes
row_home t outs made us x (r.Register j) = homes_like t.home outs (first_word_at (arg_homes t.home us) j ∷ [])
row_home t outs made us x (r.Proc name) = homes_bound t.home (loads_free t.free (row_words t made us)) outs (results_of t made us x)

abbrev pub row_end : ℕ → List Shape → RowCode → ℕ
row_end n zs (r.Register j) = n
row_end n zs (r.Proc name) = free_after n zs

abbrev pub row_now : Now → List ℕ → Option Rep → List Arg → Rule → RowCode → Now
row_now t outs made us x code = record {
  ctx = apply_ctx t.ctx outs made us x;
  home = row_home t outs made us x code;
  free = row_end (row_free t made us code) (results_of t made us x) code;
  branch = t.branch;
}

-- ---- calls

abbrev pub call_words : Now → List Arg → List Home
call_words t us = args_words t.home us (looked_up t.ctx.spots us)

abbrev pub call_results : Now → List Arg → Sig → List Shape
call_results t us g = call_shapes g.outs (lists g.params (looked_up t.ctx.spots us))

abbrev pub use_code : Now → ℕ → List Arg → Sig → List Instr
use_code t k us g =
    let hs = call_words t us in
    loads t.free hs ++ (I.Call (regs_all (loads_free t.free hs) (call_results t us g)) (proc_name k) (loads_regs t.free hs) ∷ [])

abbrev pub use_now : Now → List ℕ → List Arg → Sig → Now
use_now t outs us g = now_bound t (call_ctx t.ctx outs us g) (loads_free t.free (call_words t us)) t.branch outs (call_results t us g)

-- ---- any

abbrev pub any_now : Now → ℕ → Arg → Arg → Now
any_now t to u v =
    let h = arg_home t.home u in
    record { ctx = any_ctx t.ctx to v; home = homes_like t.home (to ∷ []) (Register (load_reg t.free h) ∷ []); free = load_free t.free h; branch = t.branch }

-- ---- the ends of blocks

-- the Owned containers
abbrev pub owned_vars : List Spot → List ℕ
owned_vars [] = []
owned_vars (s ∷ ss) = cond (is_owned s.hold && is_container s.rep) (s.var ∷ owned_vars ss) (owned_vars ss)

-- those that went on the other side
abbrev pub lost_vars : List Spot → List Spot → List ℕ
lost_vars (s ∷ ss) (t ∷ ts) = cond (is_owned s.hold && (is_container s.rep && is_gone t.hold)) (s.var ∷ lost_vars ss ts) (lost_vars ss ts)
lost_vars _ _ = []

-- what a block that began with n entries made and did not give is freed, the newest first
abbrev pub left_over : ℕ → Block → List ℕ
left_over n b = owned_vars (inner n b.moved.spots)

-- the words of a block's results
abbrev pub result_words : Block → List Home
result_words b = args_words b.printed.now.home b.results (looked_up b.printed.now.ctx.spots b.results)

-- ---- `if`

abbrev pub if_free : Block → Block → ℕ
if_free b1 b2 = max b1.printed.now.free b2.printed.now.free

-- a side, whose results come to registers from n on; what went on the other side alone is freed
abbrev pub side_code : ℕ → ℕ → Block → Block → List Instr
side_code count n b other =
    b.printed.code ++ (frees b.printed.now.home (left_over count b ++ lost_vars (outer count b.moved.spots) (outer count other.moved.spots)) ++ moves n (result_words b))

abbrev pub code_of : List Instr → Code
code_of is = record { list = is }

abbrev pub if_code : Now → Arg → Block → Block → List Instr
if_code t u b1 b2 =
    let n = length t.ctx.spots in
    let h = arg_home t.home u in
    load t.free h ++ (I.If (load_reg t.free h) (code_of (side_code n (if_free b1 b2) b1 b2)) (code_of (side_code n (if_free b1 b2) b2 b1)) ∷ [])

abbrev pub if_line : Block → Block → Moved → Line
if_line b1 b2 m = If_line (regs_all (if_free b1 b2) m.shapes)

abbrev pub if_now : Now → List ℕ → Block → Block → Moved → Now
if_now t outs b1 b2 m = now_bound t (with_spots t.ctx (binding outs m.shapes m.spots)) (if_free b1 b2) b2.printed.now.branch outs m.shapes

-- ---- loops

-- the registers of the loop's variables, and what is free behind them
abbrev pub loop_free : Now → Moved → ℕ
loop_free t m = free_after t.free m.shapes

abbrev pub start_words : Now → List Arg → List Home
start_words t us = args_words t.home us (looked_up t.ctx.spots us)

abbrev pub test_now : Now → List ℕ → Moved → Now
test_now t xs m = record { ctx = begun t.ctx (lent (head_spots xs m)) []; home = homes_bound t.home t.free xs m.shapes; free = loop_free t m; branch = t.branch }

-- a condition is a block of its own: what it made is freed
abbrev pub test_code : List ℕ → Moved → Printed → Arg → List Instr
test_code xs m p1 u =
    p1.code ++ (frees p1.now.home (owned_vars (inner (length (head_spots xs m)) p1.now.ctx.spots)) ++ load p1.now.free (arg_home p1.now.home u))

abbrev pub test_free : Printed → Arg → ℕ
test_free p1 u = load_free p1.now.free (arg_home p1.now.home u)

abbrev pub body_now : Now → List ℕ → Binds → Arg → Moved → Printed → Now
body_now t xs cs u m p1 =
    record { ctx = begun t.ctx (head_spots xs m) (learnt (defs_in cs []) u); home = homes_bound t.home t.free xs m.shapes; free = test_free p1 u; branch = p1.now.branch }

-- the results come to the registers of the loop's variables, which are freed where they were not given
abbrev pub body_code : Now → Moved → Block → List Instr
body_code t m b = b.printed.code ++ (frees b.printed.now.home (left_over (length m.spots) b) ++ turns t.free b.printed.now.free (result_words b))

abbrev pub body_top : Now → Block → ℕ
body_top t b = saves_free t.free t.free b.printed.now.free (result_words b)

abbrev pub while_code : Now → List ℕ → List Arg → Moved → Printed → Arg → Block → List Instr
while_code t xs us m p1 u b =
    moves t.free (start_words t us) ++ (I.While (code_of (test_code xs m p1 u)) (load_reg p1.now.free (arg_home p1.now.home u)) (code_of (body_code t m b)) ∷ [])

-- behind a loop only what stands at its test counts
abbrev pub while_now : Now → List ℕ → Moved → Printed → Arg → Block → Now
while_now t outs m p1 u b =
    record { ctx = with_spots t.ctx (binding outs m.shapes m.spots); home = homes_bound t.home t.free outs m.shapes; free = test_free p1 u; branch = b.printed.now.branch }

-- ---- `either`

-- a side of an `either`, the left one where `true`
pub record Side : Type 0 where
  pub block : Block
  pub left : Bool

abbrev pub side_of : Bool → Result Block Refusal → Result Side Refusal
side_of left r = on_ok r (λ b. Ok (record { block = b; left = left }))

abbrev pub side_line : Bool → Line
side_line true = Left_line
side_line false = Right_line

abbrev pub either_code : Now → Block → List Instr
either_code t b = b.printed.code ++ frees b.printed.now.home (left_over (length t.ctx.spots) b)

-- the results have further names
abbrev pub either_now : Now → List ℕ → Block → Now
either_now t outs b = record {
  ctx = with_spots t.ctx (binding outs b.moved.shapes (taken t.ctx b.moved));
  home = homes_like t.home outs (arg_homes b.printed.now.home b.results);
  free = b.printed.now.free;
  branch = b.printed.now.branch;
}

-- ---- branches

-- the registers that stand for a variable
abbrev pub home_regs : Home → Rep → List ℕ
home_regs (Register b) x = span b (width x)
home_regs (Literal n) x = []

abbrev pub moved_home : Home → ℕ → Home
moved_home (Register b) n = Register n
moved_home (Literal k) n = Literal k

-- what a branch is passed, the oldest variable first, and where it stands there
abbrev pub branch_args : Homes → List Spot → List ℕ
branch_args home [] = []
branch_args home (s ∷ ss) = branch_args home ss ++ home_regs (home s.var) s.rep

abbrev pub branch_home : Homes → List Spot → Homes
branch_home home [] = home
branch_home home (s ∷ ss) = put (branch_home home ss) s.var (moved_home (home s.var) (length (branch_args home ss)))

-- a block whole, and of a slice its range
abbrev pub hand_of : Homes → Spot → Hand
hand_of home s = let b = reg_of (home s.var) in record { block = b; span = cond (is_slice s.rep) (Some (suc b, suc (suc b))) None }

-- the containers that the other branch uses too, or those that it does not
abbrev pub hands_of : Homes → Bool → List ℕ → List Spot → List Hand
hands_of home shared vs [] = []
hands_of home shared vs (s ∷ ss) =
    cond (is_container s.rep && cond (is_among s.var vs) shared (not shared)) (hand_of home s ∷ hands_of home shared vs ss) (hands_of home shared vs ss)

abbrev pub branch_now : Now → List Spot → ℕ → Now
branch_now t ss branch =
    record { ctx = begun t.ctx ss []; home = branch_home t.home ss; free = length (branch_args t.home ss); branch = branch }

-- the procedure of a block that began with n entries and so many arguments: literal results come to registers at its end
abbrev pub proc_of : List ℕ → ℕ → ℕ → Block → Proc
proc_of name args n b =
    let p = b.printed in
    let hs = result_words b in
    record {
      name = name;
      args = args;
      regs = max p.top (loads_free p.now.free hs);
      code = code_of (p.code ++ (frees p.now.home (left_over n b) ++ loads p.now.free hs));
      ret = loads_regs p.now.free hs;
    }

-- ---- `par`

abbrev pub par_branch : Now → List ℕ → Proc → List Spot → List ℕ → Branch
par_branch t to d ss vs =
    record { to = to; proc = d.name; args = branch_args t.home ss; hands = hands_of t.home false vs ss; lends = hands_of t.home true vs ss }

abbrev pub par_now : Now → List ℕ → List Spot → Block → Block → Now
par_now t outs ss b1 b2 =
    now_bound t (with_spots t.ctx (binding outs (b1.moved.shapes ++ b2.moved.shapes) ss)) t.free b2.printed.now.branch outs (b1.moved.shapes ++ b2.moved.shapes)

-- ---- `split`

-- what is passed for a slice behind the other arguments: block, offset and length
abbrev pub part_branch : Now → List ℕ → Proc → List Spot → List ℕ → ℕ → ℕ → ℕ → Branch
part_branch t to d ss vs b o n = record {
  to = to;
  proc = d.name;
  args = branch_args t.home ss ++ (b ∷ o ∷ n ∷ []);
  hands = record { block = b; span = Some (o, n) } ∷ hands_of t.home false vs ss;
  lends = hands_of t.home true vs ss;
}

abbrev pub part_now : Now → List Spot → List Spot → ℕ → ℕ → Now
part_now t seen ss k branch = record {
  ctx = begun t.ctx (slice_spot k ∷ seen) [];
  home = put (branch_home t.home ss) k (Register (length (branch_args t.home ss)));
  free = 3 + length (branch_args t.home ss);
  branch = branch;
}

-- the registers of the list, of the place of the cut, and of what is right of it
abbrev pub cut_code : Now → ℕ → Arg → List Instr
cut_code t list at =
    let b = reg_of (t.home list) in
    let h = arg_home t.home at in
    let n = load_free t.free h in
    load t.free h ++ (I.Calc n c.Add (suc b) (load_reg t.free h) ∷ I.Calc (suc n) c.Sub (suc (suc b)) (load_reg t.free h) ∷ [])

abbrev pub cut_free : Now → Arg → ℕ
cut_free t at = load_free t.free (arg_home t.home at)

-- the results of the parts come first, and are not looked at again; the list stands where it stood
abbrev pub split_to : ℕ → Moved → List ℕ
split_to n m = regs_all n m.shapes

-- the variables behind those of these shapes
abbrev pub behind_shapes : List Shape → List ℕ → List ℕ
behind_shapes [] vs = vs
behind_shapes (z ∷ zs) [] = []
behind_shapes (z ∷ zs) (v ∷ vs) = behind_shapes zs vs

-- the list stands where it stood; the others stand behind the registers of the parts
abbrev pub split_homes : Homes → List ℕ → Home → ℕ → List Shape → ℕ → List Shape → Homes
split_homes home [] h n zs m ws = home
split_homes home (v ∷ vs) h n zs m ws = homes_bound (homes_bound (put home v h) (3 + n) vs zs) (3 + m) (behind_shapes zs vs) ws

abbrev pub split_now : Now → Arg → List ℕ → ℕ → List Spot → Block → Block → Now
split_now t at outs list ss b1 b2 =
    let n = suc (suc (cut_free t at)) in
    let m = free_after n b1.moved.shapes in
    let zs = other_shapes b1.moved.shapes in
    let ws = other_shapes b2.moved.shapes in
    record {
      ctx = with_spots t.ctx (binding outs (shape_of (spot_at t.ctx.spots list) ∷ (zs ++ ws)) ss);
      home = split_homes t.home outs (t.home list) n zs m ws;
      free = free_after m b2.moved.shapes;
      branch = b2.printed.now.branch;
    }

-- ---- binds

module _ (M : Means) where
  -- a block that began with n entries comes to its end
  abbrev pub print_end : ℕ → (List Shape → Option ℕ) → Ending → Result Printed Refusal → Result Block Refusal
  print_end n astray e r = on_ok r (λ p. on_ok (ended M.book n astray p.now.ctx e) (λ m. Ok (record { printed = p; moved = m; results = e.results })))

  -- a loop's body
  abbrev pub print_turn : Moved → Ending → Result Printed Refusal → Result Block Refusal
  print_turn m e r = on_ok r (λ p. on_ok (turned M.book m p.now.ctx e) (λ m2. Ok (record { printed = p; moved = m2; results = e.results })))

  -- the binds in order, each by the rule check's own step
  abbrev pub print : Binds → Now → Result Printed Refusal
  print t.No_bind x = Ok (record { now = x; code = []; lines = []; made = []; top = x.free })
  print (t.Calc_to p to w u v rest) x = put_before (calc_code x w u v) (Calc_line ∷ []) [] 0 (print rest (calc_now x p to w u v))
  print (t.Apply_to p to op made us rest) x =
      on_ok (apply_sure M.book x.ctx p op made us) (λ y.
      put_before (row_code M x made us y y.code) (row_line M y.code ∷ []) [] 0 (print rest (row_now x to made us y y.code)))
  print (t.Assert p inner u rest) x = print rest (now_in x (assert_ctx x.ctx inner u) x.free x.branch)
  print (t.If p to u l le r re rest) x =
      let n = load_free x.free (arg_home x.home u) in
      on_ok (print_end (length x.ctx.spots) no_list le (print l (now_in x (begun x.ctx x.ctx.spots (learnt (defs_behind p x.ctx.defs) u)) n x.branch))) (λ b1.
      on_ok (print_end (length x.ctx.spots) no_list re (print r (now_in x (begun x.ctx x.ctx.spots []) n b1.printed.now.branch))) (λ b2.
      on_ok (met M.book x.ctx p b1.moved b2.moved) (λ m.
      put_before (if_code x u b1 b2) (if_line b1 b2 m ∷ (b1.printed.lines ++ b2.printed.lines)) (b1.printed.made ++ b2.printed.made) (max b1.printed.top b2.printed.top)
      (print rest (if_now x to b1 b2 m)))))
  print (t.While p to xs us cs u b be rest) x =
      on_ok (started M.book x.ctx p us) (λ m.
      on_ok (print cs (test_now x xs m)) (λ p1.
      on_ok (print_turn m be (print b (body_now x xs cs u m p1))) (λ b2.
      put_before (while_code x xs us m p1 u b2) (While_line (regs_all x.free m.shapes) ∷ (p1.lines ++ b2.printed.lines)) (p1.made ++ b2.printed.made) (max p1.top (max b2.printed.top (body_top x b2)))
      (print rest (while_now x to m p1 u b2)))))
  print (t.Par p to l le r re rest) x =
      let us = block_used l le in
      let vs = block_used r re in
      on_ok (par_sure M.book x.ctx.spots us vs (refused p (codes "par") [])) (λ ss.
      let ls = branch_spots ss us vs in
      let rs = branch_spots ss vs us in
      on_ok (print_end (length ls) no_list le (print l (branch_now x ls (suc x.branch)))) (λ b1.
      on_ok (print_end (length rs) no_list re (print r (branch_now x rs (suc b1.printed.now.branch)))) (λ b2.
      let n = x.free in
      let d1 = proc_of (branch_name x.branch) (length (branch_args x.home ls)) (length ls) b1 in
      let d2 = proc_of (branch_name b1.printed.now.branch) (length (branch_args x.home rs)) (length rs) b2 in
      put_before
      (I.Par (par_branch x (regs_all n b1.moved.shapes) d1 ls vs) (par_branch x (regs_all (free_after n b1.moved.shapes) b2.moved.shapes) d2 rs us) ∷ [])
      (Par_line ∷ (b1.printed.lines ++ b2.printed.lines)) ((d1 ∷ b1.printed.made) ++ (d2 ∷ b2.printed.made)) 0
      (print rest (par_now x to (joined (joined ss us ls b1.moved) vs rs b2.moved) b1 b2)))))
  print (t.Split p to list at i l le j r re rest) x =
      let us = without list (block_used l le) in
      let vs = without list (block_used r re) in
      on_ok (split_sure M.book x.ctx.spots p list us vs) (λ ss.
      let ls = branch_spots ss us vs in
      let rs = branch_spots ss vs us in
      let seen_l = branch_spots ss (list ∷ us) vs in
      let seen_r = branch_spots ss (list ∷ vs) us in
      on_ok (print_end (suc (length seen_l)) (first_is i) le (print l (part_now x seen_l ls i (suc x.branch)))) (λ b1.
      on_ok (print_end (suc (length seen_r)) (first_is j) re (print r (part_now x seen_r rs j (suc b1.printed.now.branch)))) (λ b2.
      let b = reg_of (x.home list) in
      let k = load_reg x.free (arg_home x.home at) in
      let ra = cut_free x at in
      let n = suc (suc ra) in
      let d1 = proc_of (branch_name x.branch) (3 + length (branch_args x.home ls)) (suc (length seen_l)) b1 in
      let d2 = proc_of (branch_name b1.printed.now.branch) (3 + length (branch_args x.home rs)) (suc (length seen_r)) b2 in
      put_before
      (cut_code x list at ++
      (I.Par (part_branch x (split_to n b1.moved) d1 ls vs b (suc b) k) (part_branch x (split_to (free_after n b1.moved.shapes) b2.moved) d2 rs us b ra (suc ra)) ∷ []))
      (Split_line ra (suc ra) ∷ (b1.printed.lines ++ b2.printed.lines)) ((d1 ∷ b1.printed.made) ++ (d2 ∷ b2.printed.made)) 0
      (print rest (split_now x at to list (joined (joined ss (list ∷ us) seen_l b1.moved) (list ∷ vs) seen_r b2.moved) b1 b2)))))
  print (t.Either p to l le r re rest) x =
      on_ok (either_of
      (side_of true (print_end (length x.ctx.spots) no_list le (print l (now_in x (begun x.ctx x.ctx.spots []) x.free x.branch))))
      (side_of false (print_end (length x.ctx.spots) no_list re (print r (now_in x (begun x.ctx x.ctx.spots []) x.free x.branch))))) (λ y.
      put_before (either_code x y.block) (side_line y.left ∷ y.block.printed.lines) y.block.printed.made y.block.printed.top (print rest (either_now x to y.block)))
  print (t.Any p to u v rest) x =
      let h = arg_home x.home u in
      put_before (load x.free h) (Any_line (load_reg x.free h) ∷ []) [] 0 (print rest (any_now x to u v))
  print (t.Call p to g us rest) x =
      on_ok (call_sure M.book x.ctx p g us) (λ y. put_before (use_code x g us y) (Use_line ∷ []) [] 0 (print rest (use_now x to us y)))
