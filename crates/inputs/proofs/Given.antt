-- Names asked for and lines taken one by one, and values found by names.
use Rattle.std.proofs.Common.{◌≡◌, ℕ, ◌+◌, ◌<◌, Bool, true, false, cond, List, [], ◌∷◌, ◌++◌, drop, length, get_or, Option, Some, None, is_some, Result, Ok, Err, refl, ap, ◌∙◌, sym, append_assoc}
use Rattle.std.proofs.lemmas.List.{drop_more}
use Rattle.std.specs.Borrow.{Bor}
use Rattle.scopes.specs.Names.{found_in, same_name}
use Rattle.nres_core.specs.declared.tree.With.{With}
use Rattle.nres_core.specs.declared.value.Value.{Value}
use Rattle.inputs.specs.Inputs.{Fault, Given, Wants, and_then, chosen, taken, unless, value_fault}
use Rattle.inputs.specs.Kept.{asked, onto, seen}
use Rattle.inputs.specs.declared.refusal.InputFault.{InputFault}
use Rattle.inputs.specs.declared.refusal.InputFault.TheVariants as fault
use Rattle.inputs.specs.declared.wanted.Need.{Need}
use Rattle.inputs.specs.declared.wanted.Wanted.{Wanted}

-- what is borrowed
abbrev pub borrowed : Option (Bor Value) → Option Value
borrowed None = None
borrowed (Some x) = Some x.now

found_given : (es : List (List ℕ × Bor Value)) (x : List ℕ) → found_in (seen es) x ≡ borrowed (found_in es x)
found_given [] x = refl
found_given (e ∷ es) x =
    ap (λ r. cond (same_name e.0 x) (Some e.1.now) r) (found_given es x)
    ∙ elim (same_name e.0 x) as (λ b. cond b (Some e.1.now) (borrowed (found_in es x)) ≡ borrowed (cond b (Some e.1) (found_in es x))) [ true ↦ refl | false ↦ refl ]

some_borrowed : (x : Option (Bor Value)) → is_some (borrowed x) ≡ is_some x
some_borrowed None = refl
some_borrowed (Some x) = refl

at_item : {A : Type 0} (xs : List A) (i : ℕ) (x : A) → i < length xs → x ≡ get_or xs i x → drop i xs ≡ x ∷ drop (i + 1) xs
at_item xs i x lt is = drop_more xs i x lt ∙ ap (λ y. y ∷ drop (i + 1) xs) (sym is)

-- a line behind those that were taken
module _ (ns : Wants) (es : List (List ℕ × Bor Value)) (w : With) (n : List ℕ) (name : n ≡ w.name) where
  fault_is : (t : Option Need) (b : Option (Bor Value)) (s : Bool) → t ≡ found_in ns n → b ≡ found_in es n → s ≡ is_some b
      → value_fault (found_in ns w.name) (is_some (found_in (seen es) w.name)) w.value ≡ value_fault t s w.value
  fault_is t b s is_need is_found is_twice =
      let one : found_in ns w.name ≡ t = ap (found_in ns) (sym name) ∙ sym is_need in
      let two : is_some (found_in (seen es) w.name) ≡ s = ap is_some (found_given es w.name) ∙ some_borrowed (found_in es w.name) ∙ ap (λ x. is_some (found_in es x)) (sym name) ∙ ap is_some (sym is_found) ∙ sym is_twice in
      λ i. value_fault (one i) (two i) w.value

  pub line_taken : (ws : List With) (i : ℕ) (all : Result Given Fault) (t : Option Need) (b : Option (Bor Value)) (s : Bool) (f : Option InputFault)
      → i < length ws → w ≡ get_or ws i w → all ≡ taken ns (seen es) (drop i ws)
      → t ≡ found_in ns n → b ≡ found_in es n → s ≡ is_some b → f ≡ value_fault t s w.value
      → all ≡ unless w.name f (taken ns ((w.name, w.value) ∷ seen es) (drop (i + 1) ws))
  line_taken ws i all t b s f lt is h is_need is_found is_twice is_fault =
      h ∙ ap (taken ns (seen es)) (at_item ws i w lt is)
      ∙ ap (λ x. unless w.name x (taken ns ((w.name, w.value) ∷ seen es) (drop (i + 1) ws))) (fault_is t b s is_need is_found is_twice ∙ sym is_fault)

-- the value of a name behind those that were chosen

onto_more : (us : List Value) (x : Value) (r : Result (List Value) Fault) (y : List ℕ) → onto us (and_then y (Some x) r) ≡ onto (us ++ x ∷ []) r
onto_more us x (Ok vs) y = ap Ok (sym (append_assoc us (x ∷ []) vs))
onto_more us x (Err e) y = refl

module _ (es : List (List ℕ × Bor Value)) (ps : List Wanted) (i : ℕ) (p : Wanted) (n : List ℕ) (us : List Value) (all : Result (List Value) Fault)
    (lt : i < length ps) (is : p ≡ get_or ps i p) (name : n ≡ p.name.now) (h : all ≡ onto us (chosen (seen es) (asked (drop i ps)))) where
  next : (b : Option (Bor Value)) → b ≡ found_in es n → all ≡ onto us (and_then p.name.now (borrowed b) (chosen (seen es) (asked (drop (i + 1) ps))))
  next b e =
      h ∙ ap (λ xs. onto us (chosen (seen es) (asked xs))) (at_item ps i p lt is)
      ∙ ap (λ r. onto us (and_then p.name.now r (chosen (seen es) (asked (drop (i + 1) ps))))) (found_given es p.name.now ∙ ap (λ x. borrowed (found_in es x)) (sym name) ∙ ap borrowed (sym e))

  pub none_chosen : None ≡ found_in es n → all ≡ Err (p.name.now, fault.Missing)
  none_chosen e = next None e

  pub one_chosen : (x : Bor Value) → Some x ≡ found_in es n → all ≡ onto (us ++ x.now ∷ []) (chosen (seen es) (asked (drop (i + 1) ps)))
  one_chosen x e = next (Some x) e ∙ onto_more us x.now (chosen (seen es) (asked (drop (i + 1) ps))) p.name.now
