use Rattle.std.proofs.Common.{◌+◌, ◌/◌, refl, ◌∙◌, arith}
use Rattle.images.proofs.Steps.{no_bits, last_of, word_in, either_way, bit_step}
use Rattle.images.proofs.bounded.bit_words.Goals as goal

pub loop-done-init : goal.loop-done-init
loop-done-init c = (refl, c.in_ok-words.ensures.items_if_clones_equal (λ y h. h) ∙ no_bits c.args.numbers.now ((c.args.bound + 63) / 64))

pub index_mut-requires : goal.index_mut-requires
index_mut-requires c =
    let lt = word_in c.args.bound c.args.numbers.now c.loop-done.words.items c.loop-done.done c.requires.under c.loop-done-test.true c.loop-done.invariant.1 in
    omega (arith, lt, c.loop-done.words.ok)

pub loop-done-preserved : goal.loop-done-preserved
loop-done-preserved c =
    let xs = c.args.numbers.now in
    let ws = c.loop-done.words.items in
    let d = c.loop-done.done in
    let inv = c.loop-done.invariant.1 in
    let lt = word_in c.args.bound xs ws d c.requires.under c.loop-done-test.true inv in
    (refl, bit_step c.args.bound xs ws d c.index_mut.result.now c.requires.under c.requires.rising c.loop-done-test.true inv (c.index_mut.ensures.value ∙ either_way ws (last_of xs d / 64) c.index_mut.result.now 0 lt))
