-- What the flat tree of a text needs.
use Rattle.std.proofs.Common.{◌≡◌, ◌≤◌, ◌*◌, length, sym, subst, arith}
use Rattle.nres_core.specs.Texts.{operators, open_at_once}
use Rattle.nres_core.specs.Vocabulary.{all_seen}
use Rattle.nres_core.proofs.Sizes.{no_larger}
use Rattle.typing_laws.proofs.TokensLemmas.{texts_hold_their_trees}
use Rattle.identify_laws.proofs.TreesLemmas.{loops_kept, sizes_kept}
use Rattle.identify_laws.proofs.Typed.{texts_are_typed}
use Rattle.flatten_laws.specs.Laws.{TextNeeds, TextsNeed}
use Rattle.flatten_laws.proofs.FilledLemmas.{typed_are_filled}
use Rattle.flatten_laws.proofs.NeedsLemmas.{filled_need_less, nests_no_deeper}

pub texts_need : TextsNeed
texts_need text p ws f s k =
    let tree = k.tree in
    let one = texts_are_typed text p ws k.typing tree s k.typed k.identified in
    let needs = filled_need_less tree (typed_are_filled tree one.typed) in
    let kept = sizes_kept p k.typing tree k.identified in
    let loops = loops_kept p k.typing tree k.identified in
    let held = texts_hold_their_trees text p ws s in
    let nests = (no_larger operators open_at_once (all_seen text s.0) p ws s.2).1 in
    subst (λ w. TextNeeds text w) (sym k.flat) (record {
      eight = omega (arith, needs.eight, kept.size, loops, held);
      limit = λ h. omega (arith, needs.eight, kept.size, loops, held, h);
      nesting = omega (arith, nests_no_deeper tree, kept.nesting, nests);
    })
