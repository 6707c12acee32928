use Rattle.std.proofs.Common.{◌≡◌, ◌≤◌, length, ap, arith}
use Rattle.fit_tokens.proofs.LogsLemmas.{mark_within, newest_some, newest_none}
use Rattle.fit_tokens.proofs.table.Tokens.newest.Goals as goal

pub split_at-requires : goal.split_at-requires
split_at-requires c =
    let h : c.in-Some.mark.now ≤ length c.self.inside.log = mark_within c.self.inside.log c.self.inside.table c.self.inside.marks c.as_slice.result.now c.last.result c.in-Some.mark c.self.invariant c.as_slice.ensures c.last.ensures.value c.in-Some.is in
    let e = ap length c.as_slice-in-Some.ensures in
    omega arith

pub returns-in-Some : goal.returns-in-Some
returns-in-Some c = newest_some c.self.inside.log c.as_slice-in-Some.result.now c.split_at.result.1.now c.self.inside.marks c.as_slice.result.now c.last.result c.in-Some.mark c.args.self.now c.self.view_is c.as_slice.ensures c.last.ensures.value c.in-Some.is c.as_slice-in-Some.ensures c.split_at.ensures.back

pub returns-in-None : goal.returns-in-None
returns-in-None c = newest_none c.self.inside.log c.as_slice-in-None.result.now c.self.inside.marks c.as_slice.result.now c.last.result c.args.self.now c.self.view_is c.as_slice.ensures c.last.ensures.value c.in-None.is c.as_slice-in-None.ensures
