use Rattle.std.proofs.Common.{◌≡◌, ℕ, ◌*◌, ◌^◌, ◌<◌, ap, arith, nat_eq}
use Rattle.std.proofs.Math.Nat.{mod-eq_of_lt}
use Rattle.std.proofs.lemmas.Nat.{pow_below}
use Rattle.decoding.proofs.tables.is_size.Goals as goal

pub returns : goal.returns
returns c =
    let e = c.args.exponent in
    let less : 2 ^ e < 2 ^ 61 = pow_below e 61 c.requires in
    let word : 8 * 2 ^ e < 2 ^ 64 = omega (arith, less) in
    ap (λ n. nat_eq n c.args.capacity) (mod-eq_of_lt word)
