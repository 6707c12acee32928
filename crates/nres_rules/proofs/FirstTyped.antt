-- The typing of the text `first`.
use Rattle.std.proofs.Common.{[], ◌++◌, ap}
use Rattle.nres_core.specs.Samples.{first_tree}
use Rattle.nres_core.specs.Tree.{Blk, Word}
use Rattle.nres_core.proofs.FirstTree.{block_is}
use Rattle.nres_rules.specs.TypeSamples.{FirstTyped}
use Rattle.nres_rules.specs.Types.{Typed, entered, funs_type, least, sig_of, made_fits}

-- the typing, by the block
abbrev typed_with : Blk Word → Typed
typed_with b =
    let one = entered [] first_tree.params first_tree.shown b in
    let rest = funs_type [] [] [] in
    record { refusal = least one.refusal rest.refusal; binders = one.binders ++ rest.binders; words = one.words ++ rest.words }

pub first_typed : FirstTyped
unfolding sig_of made_fits
first_typed = record {
  nothing_refused = ap (λ b. (typed_with b).refusal) block_is;
  binders = ap (λ b. (typed_with b).binders) block_is;
  words = ap (λ b. (typed_with b).words) block_is;
}
