-- Code each call of which finds a procedure, in all places where code of a run stands.
use Rattle.std.specs.Prelude.{◌≡◌, ℕ, suc, ◌+◌, Bool, true, false, ◌&&◌, ◌||◌, cond, length, nat_eq, List, [], ◌∷◌, ◌++◌, map, Option, Some, None}
use Rattle.std.proofs.Common.{refl, sym, ap, ◌∙◌, subst}
use Rattle.std.proofs.lemmas.Bool.{and_parts}
use Rattle.std.specs.List.{list_all}
use Rattle.std.specs.Str.{bytes_eq}
use Rattle.target_code.specs.Lines.{Layer, all_true, line_step, lines_step, instr_passes, code_passes, calls_met, answers, some_answers}
use Rattle.target_code.specs.Formed.{all_calls_met}
use Rattle.target_code.specs.declared.tree.Code.{Code}
use Rattle.target_code.specs.declared.tree.Instr.{Instr, Instr-F, out-Instr}
use Rattle.target_code.specs.declared.tree.Instr.TheFolds.{map-Instr, fold_out-Instr, fold_out-Code}
use Rattle.target_code.specs.declared.tree.Proc.{Proc}
use Rattle.target_meaning.specs.Lines.{lines_of}
use Rattle.target_meaning.specs.Leaf.{Item, Do, Test, Frame, Caller, Stack, Run, End, Wait, Act, Go, Read, Write, Make, Cut, Split, Over, Bad, do_all, begin, find}
use Rattle.target_meaning.specs.Machine.{Tree, Leaf, Fork}

-- ---- a procedure that is called is there

found_first : (p : Proc) (ps : List Proc) (name : List ℕ) (args to : List ℕ) (same others : Bool) → bytes_eq p.name name ≡ same → ((some_answers ps name args to ≡ true) → (q : Proc) × (find ps name ≡ Some q))
    → ((same && (nat_eq p.args (length args) && nat_eq (length p.ret) (length to))) || some_answers ps name args to) ≡ true → (q : Proc) × (cond same (Some p) (find ps name) ≡ Some q)
found_first p ps name args to true others e more h = (p, refl)
found_first p ps name args to false others e more h = more h

pub is_there : (ps : List Proc) (name args to : List ℕ) → some_answers ps name args to ≡ true → (p : Proc) × (find ps name ≡ Some p)
is_there [] name args to h = absurd (cc h)
is_there (p ∷ ps) name args to h = found_first p ps name args to (bytes_eq p.name name) false refl (is_there ps name args to) h

-- what holds of all procedures holds of one that is found
pub of_found : (test : Proc → Bool) (ps : List Proc) (name : List ℕ) (p : Proc) → list_all test ps ≡ true → find ps name ≡ Some p → test p ≡ true
of_found test [] name p all e = absurd (cc e)
of_found test (q ∷ qs) name p all e =
    let parts = and_parts (test q) (list_all test qs) all in
    by (bytes_eq q.name name) e parts.0 (of_found test qs name p parts.1)
  where
    by : (b : Bool) → cond b (Some q) (find qs name) ≡ Some p → test q ≡ true → (find qs name ≡ Some p → test p ≡ true) → test p ≡ true
    by true e first more = let same : q ≡ p = cc e in subst (λ y. test y ≡ true) same first
    by false e first more = more e

-- ---- code

module _ (few : List Proc) where
  abbrev pub Good_list : List Instr → Type 0
  Good_list is = all_true (map (instr_passes (calls_met few)) is) ≡ true

  abbrev pub Good_open : Instr-F Instr Code → Type 0
  Good_open o = line_step (calls_met few) (map-Instr Instr Code Bool Bool (instr_passes (calls_met few)) (code_passes (calls_met few)) o) ≡ true

  abbrev pub Good_item : Item → Type 0
  Good_item (Do line i) = instr_passes (calls_met few) i ≡ true
  Good_item (Test line c t b) = Good_list c × Good_list b

  abbrev pub Good_items : List Item → Type 0
  Good_items [] = Unit {0}
  Good_items (i ∷ is) = Good_item i × Good_items is

  abbrev pub Good_callers : List Caller → Type 0
  Good_callers [] = Unit {0}
  Good_callers (c ∷ cs) = Good_items c.frame.items × Good_callers cs

  abbrev pub Good_stack : Stack → Type 0
  Good_stack (Run f cs) = Good_items f.items × Good_callers cs
  Good_stack (End vs) = Unit {0}

  abbrev pub Good_wait : Wait → Type 0
  Good_wait w = Good_items w.frame.items × Good_callers w.callers

  abbrev pub Good_tree : {A : Type 0} → Tree A → Type 0
  Good_tree (Leaf a s) = Good_stack s
  Good_tree (Fork a w l r) = Good_wait w × Good_tree l × Good_tree r

  abbrev pub Good_act : Act → Type 0
  Good_act (Go s) = Good_stack s
  Good_act (Read b i k) = (v : ℕ) → Good_stack (k v)
  Good_act (Write b i v s) = Good_stack s
  Good_act (Make n k) = (x : ℕ) → Good_stack (k x)
  Good_act (Cut b s) = Good_stack s
  Good_act (Split l r w) = Good_stack l.stack × Good_stack r.stack × Good_wait w
  Good_act Over = Unit {0}
  Good_act (Bad e) = Unit {0}

  pub opened : (i : Instr) → instr_passes (calls_met few) i ≡ true → Good_open (out-Instr i)
  opened i h = sym (fold_out-Instr Bool Bool (line_step (calls_met few)) lines_step i) ∙ h

  pub listed : (c : Code) → code_passes (calls_met few) c ≡ true → Good_list c.list
  listed c h = sym (fold_out-Code Bool Bool (line_step (calls_met few)) lines_step c) ∙ h

  pub all_done : (line : ℕ) (is : List Instr) → Good_list is → Good_items (do_all line is)
  all_done line [] h = tt
  all_done line (i ∷ is) h =
      let hs = and_parts (instr_passes (calls_met few) i) (all_true (map (instr_passes (calls_met few)) is)) h in
      (hs.0, all_done (line + lines_of i) is hs.1)

  pub one_by_one : (xs ys : List Item) → Good_items xs → Good_items ys → Good_items (xs ++ ys)
  one_by_one [] ys a b = b
  one_by_one (x ∷ xs) ys a b = (a.0, one_by_one xs ys a.1 b)

  pub begins : all_calls_met few ≡ true → (name : List ℕ) (p : Proc) (args : List ℕ) → find few name ≡ Some p → Good_items (begin p args).items
  begins all name p args e = all_done 1 p.code.list (listed p.code (of_found (λ q. code_passes (calls_met few) q.code) few name p all e))
