-- Formed programs with one text are one program.
use Rattle.std.proofs.Common.{◌≡◌, ℕ, ◌≤◌, ◌||◌, not, cond, Bool, true, false, nat_eq, nat_le, List, [], ◌∷◌, ◌++◌, length, drop, map, Some, refl, ap, sym, subst, ◌∙◌, append_assoc, arith, length-append}
use Rattle.std.specs.List.{flat_map, list_all}
use Rattle.std.specs.Prelude.{if◌then◌else◌}
use Rattle.std.proofs.lemmas.Bool.{leb-true}
use Rattle.target_code.specs.declared.tree.Rep.{Rep}
use Rattle.target_code.specs.declared.tree.Rep.TheVariants as rep
use Rattle.target_code.specs.declared.tree.InParam.{InParam}
use Rattle.target_code.specs.declared.tree.Proc.{Proc}
use Rattle.target_code.specs.declared.tree.Program.{Program}
use Rattle.target_code.specs.Names.{is_name}
use Rattle.target_code.specs.Reserved.{is_input_name, is_proc_name, is_reserved, is_late}
use Rattle.target_code.specs.Lines as tests
use Rattle.target_code.specs.Formed.{Formed, is_shown, is_limit, has_sizes, has_registers, have_sizes, have_registers, input_names, inputs_shown, results_shown, proc_names}
use Rattle.target_lines.specs.declared.line.Line.{Line}
use Rattle.target_lines.specs.declared.line.Phrase.TheVariants as phrase
use Rattle.target_lines.specs.Texts.{line_text}
use Rattle.target_lines.specs.Programs.{line, code_lines, proc_lines, code_lends, procs_lend, lends, lines_text, program_text}
use Rattle.target_lines.specs.Reading.{line_at, begins}
use Rattle.target_lines.specs.Fits.{IsSmall, RepFits}
use Rattle.target_lines.proofs.Pieces.{and_parts}
use Rattle.target_lines.proofs.Lines.{line_past}
use Rattle.target_lines.specs.Texts.{is_inside, IsOneLine}
use Rattle.target_lines.proofs.Feeds.{line_inside}
use Rattle.target_text.proofs.FormedLines.{Known, NoLend, Fitting, fitting_append, no_parts, code_fits, proc_name_is_name, registers_small}
use Rattle.target_text.proofs.Takings.{body_lines, same_lines}

-- ---- the first line of a text, and the rest

unfoldable pub front : List ℕ → List ℕ
front [] = []
front (b ∷ bs) = if nat_eq b 10 then [] else (b ∷ front bs)

unfoldable pub behind : List ℕ → List ℕ
behind [] = []
behind (b ∷ bs) = if nat_eq b 10 then bs else behind bs

pub not_true : (b : Bool) → not b ≡ true → b ≡ false
not_true true h = absurd cc
not_true false h = refl

pub front_past : (xs rest : List ℕ) → IsOneLine xs → front (xs ++ (10 ∷ rest)) ≡ xs
unfolding front
front_past [] rest h = refl
front_past (b ∷ bs) rest h =
    let parts = and_parts (is_inside b) (list_all is_inside bs) h in
    ap (λ v. cond v [] (b ∷ front (bs ++ (10 ∷ rest)))) (not_true (nat_eq b 10) parts.0) ∙ ap (λ (x : List ℕ). b ∷ x) (front_past bs rest parts.1)

pub behind_past : (xs rest : List ℕ) → IsOneLine xs → behind (xs ++ (10 ∷ rest)) ≡ rest
unfolding behind
behind_past [] rest h = refl
behind_past (b ∷ bs) rest h =
    let parts = and_parts (is_inside b) (list_all is_inside bs) h in
    ap (λ v. cond v (bs ++ (10 ∷ rest)) (behind (bs ++ (10 ∷ rest)))) (not_true (nat_eq b 10) parts.0) ∙ behind_past bs rest parts.1

-- ---- lines

pub not_empty : (a r : List ℕ) → [] ≡ a ++ (10 ∷ r) → ⊥
not_empty a r e = let k : 0 ≡ length (a ++ (10 ∷ r)) = ap length e in omega (arith, k, length-append a (10 ∷ r))

apart : (lends : Bool) (l : Line) (ls : List Line) → lines_text lends (l ∷ ls) ≡ line_text lends l ++ (10 ∷ lines_text lends ls)
apart lends l ls = append_assoc (line_text lends l) (10 ∷ []) (lines_text lends ls)

pub same_fitting : (lends : Bool) (ls ks : List Line) → Fitting lends ls → Fitting lends ks → lines_text lends ls ≡ lines_text lends ks → ls ≡ ks
same_fitting lends [] [] h k e = refl
same_fitting lends [] (y ∷ ks) h k e = absurd (not_empty (line_text lends y) (lines_text lends ks) (e ∙ apart lends y ks))
same_fitting lends (x ∷ ls) [] h k e = absurd (not_empty (line_text lends x) (lines_text lends ls) (sym e ∙ apart lends x ls))
same_fitting lends (x ∷ ls) (y ∷ ks) h k e =
    let all : line_text lends x ++ (10 ∷ lines_text lends ls) ≡ line_text lends y ++ (10 ∷ lines_text lends ks) = sym (apart lends x ls) ∙ e ∙ apart lends y ks in
    let here : line_text lends x ≡ line_text lends y = sym (front_past (line_text lends x) (lines_text lends ls) (line_inside lends x h.0)) ∙ ap front all ∙ front_past (line_text lends y) (lines_text lends ks) (line_inside lends y k.0) in
    let rest : lines_text lends ls ≡ lines_text lends ks = sym (behind_past (line_text lends x) (lines_text lends ls) (line_inside lends x h.0)) ∙ ap behind all ∙ behind_past (line_text lends y) (lines_text lends ks) (line_inside lends y k.0) in
    let read : Some x ≡ Some y = sym (line_past lends x h.0) ∙ ap (line_at lends) here ∙ line_past lends y k.0 in
    let one : x ≡ y = cc in
    ap (λ z. z ∷ ls) one ∙ ap (λ (z : List Line). y ∷ z) (same_fitting lends ls ks h.1 k.1 rest)

-- ---- a formed program's lines fit

limit_small : (u : ℕ) → is_limit u ≡ true → IsSmall u
limit_small u h = let parts = and_parts (nat_le 1 u) (nat_le u 4294967295) h in omega (arith, leb-true u 4294967295 parts.1)

rep_fits : (r : Rep) → is_shown r ≡ true → RepFits r
rep_fits rep.Word h = tt
rep_fits rep.Flag h = tt
rep_fits rep.Array h = tt
rep_fits rep.Slice h = tt
rep_fits rep.Vec h = tt
rep_fits (rep.Bits u) h = limit_small u h
rep_fits rep.Hset h = tt
rep_fits (rep.Amap u) h = limit_small u h
rep_fits rep.Hmap h = tt
rep_fits rep.Heap h = tt

ins_fit : (lends : Bool) (ins : List InParam) → input_names ins ≡ true → inputs_shown ins ≡ true → Fitting lends (map (λ p. line 0 (phrase.In p)) ins)
ins_fit lends [] h k = tt
ins_fit lends (p ∷ ps) h k =
    let names = and_parts (is_input_name p.name) (input_names ps) h in
    let shown = and_parts (is_shown p.rep) (inputs_shown ps) k in
    let name = and_parts (is_name p.name) (not (is_reserved p.name) || is_late p.name) names.0 in
    ((name.0, rep_fits p.rep shown.0), ins_fit lends ps names.1 shown.1)

outs_fit : (lends : Bool) (outs : List Rep) → results_shown outs ≡ true → Fitting lends (map (λ r. line 0 (phrase.Out r)) outs)
outs_fit lends [] h = tt
outs_fit lends (r ∷ rs) h = let parts = and_parts (is_shown r) (results_shown rs) h in (rep_fits r parts.0, outs_fit lends rs parts.1)

proc_fits : (lends : Bool) (procs : List Proc) (p : Proc) → proc_names procs ≡ true → is_proc_name p.name ≡ true → has_sizes p ≡ true → has_registers p ≡ true
    → tests.code_passes (tests.calls_met procs) p.code ≡ true → NoLend lends (code_lends p.code) → Fitting lends (proc_lines p)
proc_fits lends procs p names name sizes registers calls none =
    let size = and_parts (nat_le p.args p.regs) (nat_le p.regs 8388608) sizes in
    let args : p.args ≤ p.regs = leb-true p.args p.regs size.0 in
    let regs : p.regs ≤ 8388608 = leb-true p.regs 8388608 size.1 in
    let there = and_parts (tests.code_passes (tests.is_below p.regs) p.code) (tests.all_below p.regs p.ret) registers in
    let known : Known lends (tests.code_passes (tests.is_below p.regs) p.code) (tests.code_passes (tests.calls_met procs) p.code) (code_lends p.code) = record { below = there.0; met = calls; no_lend = none } in
    let args_small : IsSmall p.args = omega arith in
    let regs_small : IsSmall p.regs = omega arith in (
      (proc_name_is_name p.name name, args_small, regs_small),
      fitting_append lends (code_lines p.code 1) (line 1 (phrase.Ret p.ret) ∷ line 0 phrase.End ∷ []) (code_fits lends procs p.regs regs names p.code known 1) (registers_small p.regs p.ret regs there.1, (tt, tt)),
    )

procs_fit : (lends : Bool) (procs ps : List Proc) → proc_names procs ≡ true → proc_names ps ≡ true → have_sizes ps ≡ true → have_registers ps ≡ true
    → list_all (λ p. tests.code_passes (tests.calls_met procs) p.code) ps ≡ true → NoLend lends (procs_lend ps) → Fitting lends (flat_map proc_lines ps)
procs_fit lends procs [] all names sizes registers calls none = tt
procs_fit lends procs (p ∷ ps) all names sizes registers calls none =
    let name = and_parts (is_proc_name p.name) (proc_names ps) names in
    let size = and_parts (has_sizes p) (have_sizes ps) sizes in
    let there = and_parts (has_registers p) (have_registers ps) registers in
    let met = and_parts (tests.code_passes (tests.calls_met procs) p.code) (list_all (λ p. tests.code_passes (tests.calls_met procs) p.code) ps) calls in
    fitting_append lends (proc_lines p) (flat_map proc_lines ps)
    (proc_fits lends procs p all name.0 size.0 there.0 met.0 (λ e. (no_parts (code_lends p.code) (procs_lend ps) (none e)).0))
    (procs_fit lends procs ps all name.1 size.1 there.1 met.1 (λ e. (no_parts (code_lends p.code) (procs_lend ps) (none e)).1))

pub body_fits : (t : Program) → Formed t → Fitting (lends t) (body_lines t)
body_fits t f =
    let ins = map (λ p. line 0 (phrase.In p)) t.ins in
    let outs = map (λ r. line 0 (phrase.Out r)) t.outs in
    fitting_append (lends t) ins (outs ++ flat_map proc_lines t.procs) (ins_fit (lends t) t.ins f.input_names f.inputs_shown)
    (fitting_append (lends t) outs (flat_map proc_lines t.procs) (outs_fit (lends t) t.outs f.results_shown)
    (procs_fit (lends t) t.procs t.procs f.proc_names f.proc_names f.sizes f.registers f.calls (λ e. e)))

-- ---- programs

-- the digit of the first line
same_lends : (a b : Bool) (ls ks : List Line) → lines_text a (line 0 (phrase.Sepref a) ∷ ls) ≡ lines_text b (line 0 (phrase.Sepref b) ∷ ks) → a ≡ b
same_lends true true ls ks e = refl
same_lends false false ls ks e = refl
same_lends true false ls ks e = let clash : true ≡ false = ap (λ bs. begins 50 (drop 7 bs)) e in absurd cc
same_lends false true ls ks e = let clash : true ≡ false = ap (λ bs. begins 49 (drop 7 bs)) e in absurd cc

pub same_text : (t u : Program) → Formed t → Formed u → program_text t ≡ program_text u → t ≡ u
same_text t u f g e =
    let flag : lends t ≡ lends u = same_lends (lends t) (lends u) (body_lines t) (body_lines u) e in
    let there : Fitting (lends t) (line 0 (phrase.Sepref (lends t)) ∷ body_lines t) = (tt, body_fits t f) in
    let here : Fitting (lends u) (line 0 (phrase.Sepref (lends u)) ∷ body_lines u) = (tt, body_fits u g) in
    let moved : Fitting (lends t) (line 0 (phrase.Sepref (lends t)) ∷ body_lines u) = subst (λ v. Fitting v (line 0 (phrase.Sepref v) ∷ body_lines u)) (sym flag) here in
    let texts : lines_text (lends t) (line 0 (phrase.Sepref (lends t)) ∷ body_lines t) ≡ lines_text (lends t) (line 0 (phrase.Sepref (lends t)) ∷ body_lines u) = e ∙ ap (λ v. lines_text v (line 0 (phrase.Sepref v) ∷ body_lines u)) (sym flag) in
    let lines : (line 0 (phrase.Sepref (lends t)) ∷ body_lines t) ≡ (line 0 (phrase.Sepref (lends t)) ∷ body_lines u) = same_fitting (lends t) (line 0 (phrase.Sepref (lends t)) ∷ body_lines t) (line 0 (phrase.Sepref (lends t)) ∷ body_lines u) there moved texts in
    let bodies : body_lines t ≡ body_lines u = cc in
    same_lines t u f.blocks g.blocks bodies
