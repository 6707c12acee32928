-- What stands under names of the library's in a program that stands as a whole is the library's.
use Rattle.std.specs.Prelude.{◌≡◌, ℕ, zero, suc, ◌<◌, Bool, true, false, cond, List, [], ◌∷◌, ◌++◌, length, Some, Contains}
use Rattle.std.specs.Str.{bytes_eq}
use Rattle.std.proofs.Common.{refl, sym, ap, ◌∙◌, subst, arith}
use Rattle.std.proofs.lemmas.Bool.{and_parts}
use Rattle.std.proofs.lemmas.Slice.Eq.{bytes_eq-Decides}
use Rattle.nres_core.specs.FlatTree.{FlatWhole}
use Rattle.rule_table.specs.Library.{library, AllFound}
use Rattle.rule_table.proofs.LibraryLemmas.{closed}
use Rattle.target_code.specs.declared.tree.Proc.{Proc}
use Rattle.target_code.specs.declared.tree.Program.{Program}
use Rattle.target_meaning.specs.Leaf.{find}
use Rattle.fits_shape.specs.Fits.{Stands}
use Rattle.fits_text.specs.FitsText.{HasOnly}
use Rattle.fits_promise.proofs.Apart.{is_apart, all_apart, library_apart, past_main, past_numbered}

-- what is found is one of them, and has the name
found_one : (ps : List Proc) (name : List ℕ) (p : Proc) → find ps name ≡ Some p → Contains ps p × (p.name ≡ name)
found_one [] name p e = absurd (cc e)
found_one (q ∷ qs) name p e = by (bytes_eq q.name name) refl e (found_one qs name p)
  where
    by : (b : Bool) → bytes_eq q.name name ≡ b → cond b (Some q) (find qs name) ≡ Some p → (find qs name ≡ Some p → Contains qs p × (p.name ≡ name)) → Contains (q ∷ qs) p × (p.name ≡ name)
    by true h e later = let same : q ≡ p = cc e in ((0, omega arith, same), sym (ap (λ z. z.name) same) ∙ (bytes_eq-Decides q.name name).0 h)
    by false h e later =
        let one = later e in
        let within : one.0.0 < length qs = one.0.1 in
        ((suc one.0.0, omega (arith, within), one.0.2), one.1)

-- each of them is found by its name
one_found : (T ps : List Proc) → AllFound T ps → (q : Proc) → Contains ps q → find T q.name ≡ Some q
one_found T [] all q c = let within : c.0 < 0 = c.1 in absurd (omega (arith, within))
one_found T (p ∷ ps) all q (zero, within, e) = subst (λ z. find T z.name ≡ Some z) e all.0
one_found T (p ∷ ps) all q (suc k, within, e) = let less : suc k < suc (length ps) = within in one_found T ps all.1 q (k, omega (arith, less), e)

module _ (f : FlatWhole) (T : Program) (s : Stands library f T) where
  -- a name that is apart is looked for among the library's that are called
  called_alone : (name : List ℕ) → is_apart name ≡ true → find T.procs name ≡ find s.called name
  called_alone name a =
      ap (λ z. find z name) s.procs
      ∙ past_main s.main (s.own ++ (s.branches ++ s.called)) name s.main_name a
      ∙ past_numbered 112 1 (length f.procs) s.own (s.branches ++ s.called) name s.own_names a
      ∙ past_numbered 98 1 (length s.branches) s.branches s.called name s.branch_names a

  one_only : (q : Proc) → find library q.name ≡ Some q → is_apart q.name ≡ true → (p : Proc) → find T.procs q.name ≡ Some p → p ≡ q
  one_only q here a p e =
      let one = found_one s.called q.name p (sym (called_alone q.name a) ∙ e) in
      let there : find library p.name ≡ Some p = one_found library library closed.found p (s.word_for_word p one.0) in
      let same : Some p ≡ Some q = sym there ∙ ap (find library) one.1 ∙ here in
      cc same

  all_only : (qs : List Proc) → AllFound library qs → all_apart qs ≡ true → HasOnly T.procs qs
  all_only [] all a = tt
  all_only (q ∷ qs) all a = let parts = and_parts (is_apart q.name) (all_apart qs) a in (one_only q all.0 parts.0, all_only qs all.1 parts.1)

  pub has_only : HasOnly T.procs library
  has_only = all_only library closed.found library_apart
