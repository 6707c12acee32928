-- A flat tree allows what the text's tree does, fails where it does, and ends where it does.
use Rattle.std.proofs.Common.{◌↔◌, ℕ, List, sym, subst}
use Rattle.nres_core.specs.FlatTree.{flat_whole_of}
use Rattle.nres_core.specs.Mirror.{whole_of}
use Rattle.nres_core.specs.Runs.{Runs}
use Rattle.nres_core.specs.declared.value.Value.{Value}
use Rattle.nres_meaning.specs.Allowed.{Meaning, AllowedBy, FailsBy, EndsBy, spec_runs, flat_meaning}
use Rattle.nres_meaning.specs.FlatMeaning.{flat_runs}
use Rattle.nres_meaning.specs.Meaning.{whole_runs}
use Rattle.nres_meaning.specs.WordOperations.{op_named}
use Rattle.identify_laws.specs.Laws.{Same, Agree}
use Rattle.flatten_laws.specs.Laws.{MeaningKept}
use Rattle.flatten_laws.proofs.Procs.{flattening_keeps}
use Rattle.identify_laws.proofs.Wholes.{identification_keeps}
use Rattle.flatten_laws.proofs.ServedWholes.{typed_are_served}

agree_then : {r s t : Runs (List Value)} → Same r s → Same s t → Agree r t
agree_then h k = record {
  gives = λ vs. (λ g. (k.gives vs).0 ((h.gives vs).0 g), λ g. (h.gives vs).1 ((k.gives vs).1 g));
  fails = (λ f. k.fails.0 (h.fails.0 f), λ f. h.fails.1 (k.fails.1 f));
  overruns = (λ f. k.overruns.0 (h.overruns.0 f), λ f. h.overruns.1 (k.overruns.1 f));
}

allowed_both : (m w : Meaning) → ((n : ℕ) → Agree (m n) (w n)) → (vs : List Value) → AllowedBy m vs ↔ AllowedBy w vs
allowed_both m w h vs = (λ g. (g.0, ((h g.0).gives vs).0 g.1), λ g. (g.0, ((h g.0).gives vs).1 g.1))

fails_both : (m w : Meaning) → ((n : ℕ) → Agree (m n) (w n)) → FailsBy m ↔ FailsBy w
fails_both m w h = (λ f. (f.0, (h f.0).fails.0 f.1), λ f. (f.0, (h f.0).fails.1 f.1))

ends_both : (m w : Meaning) → ((n : ℕ) → Agree (m n) (w n)) → (n : ℕ) → EndsBy m n ↔ EndsBy w n
ends_both m w h n = (
  λ e. (λ f. e.0 ((fails_both m w h).1 f), λ o. e.1 ((h n).overruns.1 o)),
  λ e. (λ f. e.0 ((fails_both m w h).0 f), λ o. e.1 ((h n).overruns.0 o)),
)

pub meaning_kept : MeaningKept
meaning_kept p f m k us a =
    let served = typed_are_served p k.typing k.tree m k.typed k.identified in
    let runs : (n d : ℕ) → Agree (whole_runs op_named n d (whole_of p) us) (flat_runs n d (flat_whole_of f) us) = λ n d.
    subst (λ z. Agree (whole_runs op_named n d (whole_of p) us) (flat_runs n d z us)) (sym k.flat)
    (agree_then (identification_keeps p k.typing k.tree m k.typed k.identified n d us a) (flattening_keeps k.tree served n d us)) in
    let one = spec_runs (whole_of p) us in
    let two = flat_meaning (flat_whole_of f) us in
    record {
      runs = runs;
      allows = allowed_both one two (λ n. runs n n);
      can_fail = fails_both one two (λ n. runs n n);
      ends = ends_both one two (λ n. runs n n);
    }
