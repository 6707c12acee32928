use Rattle.std.specs.Prelude.{Some}
use Rattle.std.proofs.Common.{arith}
use Rattle.decoding.proofs.Decoded.{all_decoded}
use Rattle.decoding.proofs.reading.in_block.Goals as goal

pub returns : goal.returns
returns c = all_decoded c.args.rep c.args.regs.now (Some c.args.words.now) c.whole.result c.requires (λ i lt. let f = c.type_inv.regs i in omega (arith, f)) (λ i lt. let f = c.type_inv.words i in omega (arith, f)) c.whole.ensures
