-- What a leaf does next is the same with either list, and leads to code that is as good.
use Rattle.std.specs.Prelude.{◌≡◌, ℕ, zero, suc, Bool, true, false, ◌&&◌, cond, slice_index, List, [], ◌∷◌, ◌++◌, Option, Some, None}
use Rattle.std.proofs.Common.{refl, sym, ap, ◌∙◌, subst}
use Rattle.std.proofs.lemmas.Bool.{and_parts}
use Rattle.target_code.specs.Formed.{all_calls_met}
use Rattle.target_code.specs.Lines.{code_passes, calls_met, some_answers}
use Rattle.target_code.specs.declared.tree.Branch.{Branch}
use Rattle.target_code.specs.declared.tree.Code.{Code}
use Rattle.target_code.specs.declared.tree.Instr.{Instr, Instr-F, out-Instr}
use Rattle.target_code.specs.declared.tree.Instr.TheOpen as I
use Rattle.target_code.specs.declared.tree.Proc.{Proc}
use Rattle.target_meaning.specs.Lines.{second_line}
use Rattle.target_meaning.specs.Leaf.{Item, Do, Test, Caller, Stack, Run, End, Act, Go, Split, Number, Is, No, do_all, read_all, child_of, find, with_number, with_proc, at_zero, calc_of, instr_act, items_act, return_act, act, begin}
use Rattle.fewer_procs.specs.Fewer.{AreOf}
use Rattle.fewer_procs.proofs.Codes.{is_there, Good_list, Good_open, Good_item, Good_items, Good_callers, Good_stack, Good_act, opened, listed, all_done, one_by_one, begins}

module _ (few more : List Proc) (k : AreOf more few) where
  -- ---- the same

  called : (name args to : List ℕ) → some_answers few name args to ≡ true → find few name ≡ find more name
  called name args to h = let p = is_there few name args to h in p.1 ∙ sym (k.found name p.0 p.1)

  same_instr : (line : ℕ) (items : List Item) (regs : List ℕ) (proc : Proc) (cs : List Caller) (o : Instr-F Instr Code) → Good_open few o → instr_act few line items regs proc cs o ≡ instr_act more line items regs proc cs o
  same_instr line items regs proc cs (I.Const to v) h = refl
  same_instr line items regs proc cs (I.Mov to from) h = refl
  same_instr line items regs proc cs (I.Calc to word x y) h = refl
  same_instr line items regs proc cs (I.Load to b i) h = refl
  same_instr line items regs proc cs (I.Store b i v) h = refl
  same_instr line items regs proc cs (I.Alloc to n) h = refl
  same_instr line items regs proc cs (I.Free b) h = refl
  same_instr line items regs proc cs (I.If t c d) h = refl
  same_instr line items regs proc cs (I.While c t b) h = refl
  same_instr line items regs proc cs (I.Call to name args) h =
      ap (λ y. with_proc y (λ p. Go (Run (begin p (read_all regs args)) (record { frame = record { proc = proc; items = items; regs = regs }; to = to } ∷ cs)))) (called name args to (and_parts (some_answers few name args to) true h).0)
  same_instr line items regs proc cs (I.Par l r) h =
      let hs = and_parts (some_answers few l.proc l.args l.to) (some_answers few r.proc r.args r.to) (and_parts (some_answers few l.proc l.args l.to && some_answers few r.proc r.args r.to) true h).0 in
      ap (λ y. with_proc y (λ p. with_proc (find few r.proc) (λ q. Split (child_of l regs p) (child_of r regs q) (record { frame = record { proc = proc; items = items; regs = regs }; callers = cs; left = l.to; right = r.to })))) (called l.proc l.args l.to hs.0)
      ∙ ap (λ y. with_proc (find more l.proc) (λ p. with_proc y (λ q. Split (child_of l regs p) (child_of r regs q) (record { frame = record { proc = proc; items = items; regs = regs }; callers = cs; left = l.to; right = r.to })))) (called r.proc r.args r.to hs.1)

  same_items : (items : List Item) (regs : List ℕ) (proc : Proc) (cs : List Caller) → Good_items few items → items_act few items regs proc cs ≡ items_act more items regs proc cs
  same_items [] regs proc cs h = refl
  same_items (Do line i ∷ items) regs proc cs h = same_instr line items regs proc cs (out-Instr i) (opened few i h.0)
  same_items (Test line c t b ∷ items) regs proc cs h = refl

  pub same_act : (s : Stack) → Good_stack few s → act few s ≡ act more s
  same_act (Run f cs) h = same_items f.items f.regs f.proc cs h.0
  same_act (End vs) h = refl

  -- ---- as good

  number_good : (n : Number) (f : ℕ → Act) → ((v : ℕ) → Good_act few (f v)) → Good_act few (with_number n f)
  number_good (Is v) f h = h v
  number_good (No r) f h = tt

  found_good : (name args to : List ℕ) (f : Proc → Act) → some_answers few name args to ≡ true → ((p : Proc) → find few name ≡ Some p → Good_act few (f p)) → Good_act few (with_proc (find few name) f)
  found_good name args to f h g = let p = is_there few name args to h in subst (λ y. Good_act few (with_proc y f)) (sym p.1) (g p.0 p.1)

  either_good : (n : ℕ) (xs ys : List Item) → Good_items few xs → Good_items few ys → Good_items few (at_zero n xs ys)
  either_good zero xs ys a b = a
  either_good (suc n) xs ys a b = b

  good_instr : (line : ℕ) (items : List Item) (regs : List ℕ) (proc : Proc) (cs : List Caller) (o : Instr-F Instr Code) → Good_open few o → Good_items few items → Good_callers few cs → Good_act few (instr_act few line items regs proc cs o)
  good_instr line items regs proc cs (I.Const to v) h a b = (a, b)
  good_instr line items regs proc cs (I.Mov to from) h a b = (a, b)
  good_instr line items regs proc cs (I.Calc to word x y) h a b = number_good (calc_of word (slice_index regs x) (slice_index regs y)) _ (λ v. (a, b))
  good_instr line items regs proc cs (I.Load to c i) h a b = λ v. (a, b)
  good_instr line items regs proc cs (I.Store c i v) h a b = (a, b)
  good_instr line items regs proc cs (I.Alloc to n) h a b = λ x. (a, b)
  good_instr line items regs proc cs (I.Free c) h a b = (a, b)
  good_instr line items regs proc cs (I.If t c d) h a b =
      let hs = and_parts (code_passes (calls_met few) c) (code_passes (calls_met few) d) h in (
        one_by_one few (at_zero (slice_index regs t) (do_all (second_line line c.list) d.list) (do_all (suc line) c.list)) items
            (either_good (slice_index regs t) _ _ (all_done few (second_line line c.list) d.list (listed few d hs.1)) (all_done few (suc line) c.list (listed few c hs.0))) a,
        b,
      )
  good_instr line items regs proc cs (I.While c t d) h a b =
      let hs = and_parts (code_passes (calls_met few) c) (code_passes (calls_met few) d) h in
      (one_by_one few (do_all (suc line) c.list) (Test line c.list t d.list ∷ items) (all_done few (suc line) c.list (listed few c hs.0)) ((listed few c hs.0, listed few d hs.1), a), b)
  good_instr line items regs proc cs (I.Call to name args) h a b =
      found_good name args to _ (and_parts (some_answers few name args to) true h).0 (λ p e. (begins few k.closed name p (read_all regs args) e, (a, b)))
  good_instr line items regs proc cs (I.Par l r) h a b =
      let hs = and_parts (some_answers few l.proc l.args l.to) (some_answers few r.proc r.args r.to) (and_parts (some_answers few l.proc l.args l.to && some_answers few r.proc r.args r.to) true h).0 in
      found_good l.proc l.args l.to _ hs.0 (λ p e. found_good r.proc r.args r.to _ hs.1 (λ q d. ((begins few k.closed l.proc p (read_all regs l.args) e, tt), (begins few k.closed r.proc q (read_all regs r.args) d, tt), (a, b))))

  return_good : (vs : List ℕ) (cs : List Caller) → Good_callers few cs → Good_act few (return_act vs cs)
  return_good vs [] h = tt
  return_good vs (c ∷ cs) h = h

  good_items : (items : List Item) (regs : List ℕ) (proc : Proc) (cs : List Caller) → Good_items few items → Good_callers few cs → Good_act few (items_act few items regs proc cs)
  good_items [] regs proc cs h b = return_good (read_all regs proc.ret) cs b
  good_items (Do line i ∷ items) regs proc cs h b = good_instr line items regs proc cs (out-Instr i) (opened few i h.0) h.1 b
  good_items (Test line c t d ∷ items) regs proc cs h b = (
    either_good (slice_index regs t) items (do_all (second_line line c) d ++ do_all (suc line) c ++ Test line c t d ∷ items) h.1
        (one_by_one few (do_all (second_line line c) d ++ do_all (suc line) c) (Test line c t d ∷ items)
        (one_by_one few (do_all (second_line line c) d) (do_all (suc line) c) (all_done few (second_line line c) d h.0.1) (all_done few (suc line) c h.0.0)) h),
    b,
  )

  pub good_act : (s : Stack) → Good_stack few s → Good_act few (act few s)
  good_act (Run f cs) h = good_items f.items f.regs f.proc cs h.0 h.1
  good_act (End vs) h = tt
