use Rattle.std.proofs.Common.{◌≡◌, ◌≤◌, ◌∙◌, ◌-◌, sym, ap, subst, length, arith, []}
use Rattle.std.specs.List.{slice_get}
use Rattle.std.specs.Option.{option_copied}
use Rattle.ownership.proofs.ContextLemmas.{last_is, since_back, went_within}
use Rattle.ownership.specs.Entries.{onto}
use Rattle.ownership.proofs.context.Context.went.Goals as goal

pub split_at-requires : goal.split_at-requires
split_at-requires c =
    let h = went_within (onto c.self.inside.stack []) c.self.inside.table c.self.inside.trail c.self.inside.marks c.self.inside.kept_below c.in-Some.mark.now c.self.invariant (last_is c.last.result c.in-Some.mark c.self.inside.marks c.as_slice.result.now c.as_slice.ensures c.last.ensures.value c.in-Some.is) in
    let e = ap length c.as_slice-in-Some.ensures in
    omega arith

pub returns-in-Some : goal.returns-in-Some
returns-in-Some c = since_back c.from_slice.result (onto c.self.inside.stack []) c.self.inside.table c.self.inside.trail c.self.inside.marks c.self.inside.kept_below c.in-Some.mark.now c.args.self.now c.self.invariant c.self.view_is
    (last_is c.last.result c.in-Some.mark c.self.inside.marks c.as_slice.result.now c.as_slice.ensures c.last.ensures.value c.in-Some.is) c.as_slice-in-Some.result.now c.split_at.result.1.now c.as_slice-in-Some.ensures c.split_at.ensures.back c.from_slice.ensures
