use Rattle.std.proofs.Common.{arith, ◌∙◌, sym, ap, subst, IfOk}
use Rattle.std.specs.Prelude.{Some, None, ◌↔◌, ◌≡◌}
use Rattle.image_laws.specs.Laws.{AreBlockWords, IsRead}
use Rattle.image_laws.specs.Reads.{reads}
use Rattle.decoding.specs.Slots.{words_of}
use Rattle.decoding.proofs.Decoded.{decoded}
use Rattle.decoding.proofs.reading.decode.Goals as goal

pub returns-in-None : goal.returns-in-None
returns-in-None c =
    let is = ap words_of c.in-None.is in
    decoded c.args.rep c.args.regs.now (words_of c.args.block) c.bare.result c.requires (λ i lt. let f = c.type_inv.regs i in omega (arith, f)) (subst AreBlockWords (sym is) tt) (c.bare.ensures ∙ sym (ap (reads c.args.rep c.args.regs.now) is))

pub returns-in-Some : goal.returns-in-Some
returns-in-Some c =
    subst (λ b. IfOk c.in_block.result (λ o. (x : _) → (o ≡ Some x) ↔ IsRead c.args.rep c.args.regs.now b x)) (sym (ap words_of c.in-Some.is)) c.in_block.ensures
