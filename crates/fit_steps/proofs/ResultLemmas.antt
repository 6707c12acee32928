-- Results of a row that come to registers.
use Rattle.std.proofs.Common.{◌≡◌, ℕ, true, false, ◌&&◌, List, length, refl, sym, ap, ◌∙◌, nat_eq}
use Rattle.std.proofs.lemmas.Bool.{false≢true}
use Rattle.fit_state.specs.States.{IsKnown}
use Rattle.fit_state.specs.declared.state.FitState.{FitState}
use Rattle.fit_steps.specs.Applied.{ResultsBound}
use Rattle.fits.specs.Follow.{all_below}
use Rattle.fits.specs.Places.{State, all_fresh, bind_at, old_shapes}
use Rattle.rule_check.specs.Context.{Shape}

pub results_bound : (R : ℕ) (old new : FitState) (outs : List ℕ) (zs : List Shape) (to : List ℕ) → all_below R to ≡ true → old_shapes old.next zs ≡ true → nat_eq (length to) (length (all_fresh outs zs)) ≡ true → new.rules ≡ old.rules
    → ((q : ℕ) (s : State) → all_below q to ≡ true → IsKnown q old s → IsKnown q new (bind_at s to outs zs)) → ResultsBound R old outs zs to new true
results_bound R old new outs zs to b o n e known = record {
  tested = λ s k.
      let p : old_shapes s.next zs ≡ true = ap (λ m. old_shapes m zs) (sym k.next) ∙ o in
      sym (λ i. b i && (p i && n i));
  known = λ t s k. known R s b k;
  rules = e;
}

pub results_not : (R : ℕ) (old : FitState) (outs : List ℕ) (zs : List Shape) (to : List ℕ) → (all_below R to && (old_shapes old.next zs && nat_eq (length to) (length (all_fresh outs zs)))) ≡ false → ResultsBound R old outs zs to old false
results_not R old outs zs to f = record {
  tested = λ s k. sym (ap (λ m. all_below R to && (old_shapes m zs && nat_eq (length to) (length (all_fresh outs zs)))) (sym k.next) ∙ f);
  known = λ t. absurd (false≢true t);
  rules = refl;
}
