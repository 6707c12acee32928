-- What the text `first` allows.
use Rattle.std.proofs.Common.{◌≡◌, [], ◌∷◌, refl, sym, ap, subst}
use Rattle.nres_core.specs.Mirror.{named_params, whole_of}
use Rattle.nres_core.specs.Samples.{first_tree}
use Rattle.nres_core.specs.Tree.{Blk, Whole, Word}
use Rattle.nres_core.specs.declared.value.Value.TheVariants as v
use Rattle.nres_core.proofs.FirstTree.{plain_block, block_is}
use Rattle.nres_meaning.specs.Allowed.{AllowedBy, FailsBy, spec_runs}
use Rattle.nres_meaning.specs.Samples as s
use Rattle.nres_meaning.specs.WordOperations.{op_named}

abbrev plain : Whole Word
plain = record { params = named_params first_tree.params; body = plain_block; procs = [] }

plain_is : whole_of first_tree ≡ plain
plain_is = ap (λ (b : Blk Word). record { params = named_params first_tree.params; body = b; procs = [] }) block_is

allows : AllowedBy (spec_runs plain (s.numbers (1 ∷ 2 ∷ []))) (v.Nat 1 ∷ [])
unfolding op_named
allows = (0, refl)

no_more : ¬ AllowedBy (spec_runs plain (s.numbers (1 ∷ 2 ∷ []))) (v.Nat 2 ∷ [])
unfolding op_named
no_more g = (cc)

can_fail : FailsBy (spec_runs plain (s.numbers []))
unfolding op_named
can_fail = (0, tt)

pub first_seen : s.FirstSeen
first_seen = record {
  allows = subst (λ p. AllowedBy (spec_runs p (s.numbers (1 ∷ 2 ∷ []))) (v.Nat 1 ∷ [])) (sym plain_is) allows;
  no_more = subst (λ p. ¬ AllowedBy (spec_runs p (s.numbers (1 ∷ 2 ∷ []))) (v.Nat 2 ∷ [])) (sym plain_is) no_more;
  can_fail = subst (λ p. FailsBy (spec_runs p (s.numbers []))) (sym plain_is) can_fail;
}
