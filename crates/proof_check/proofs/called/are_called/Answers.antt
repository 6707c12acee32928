use Rattle.std.proofs.Common.{ap, sym, subst, ◌∙◌, ◌<◌, length}
use Rattle.unfit_line.specs.Tests.{is_nil, not_called}
use Rattle.proof_check.specs.Whole.{first_place, names_in, procs_at, seen}
use Rattle.proof_check.proofs.Needed.{begun, nothing_left, turn_made}
use Rattle.proof_check.proofs.called.are_called.Goals as goal

pub each-init : goal.each-init
each-init c =
    begun (seen c.args.names.now) c.new-known.result c.know_names.new.known (procs_at c.in_ok-rest.rest.items) c.args.procs.now c.new-known.ensures c.in_ok-know_names.ensures c.in_ok-rest.ensures

pub each-preserved : goal.each-preserved
each-preserved c =
    turn_made c.each.known c.know_calls.new.known c.each.rest.items c.remove-proc.new.self.items c.in-Some.place c.remove-proc.result
    (ap (λ z. first_place (names_in c.each.known) (procs_at z)) (sym c.as_slice.ensures.value) ∙ sym c.first_known.ensures.place ∙ c.in-Some.is)
    (subst (λ z. c.in-Some.place < length z) c.as_slice.ensures.value c.in-Some.ensures.within) c.remove-proc.ensures.value c.remove-proc.ensures.items c.in_ok-know_calls.ensures
    (is_nil (not_called (length c.args.procs.now) (seen c.args.names.now) c.args.procs.now)) c.each.invariant

pub returns : goal.returns
returns c =
    nothing_left (names_in c.each.known) c.each.rest.items (is_nil (not_called (length c.args.procs.now) (seen c.args.names.now) c.args.procs.now)) c.is_empty.result c.each.rest.len
    (ap (λ z. first_place (names_in c.each.known) (procs_at z)) (sym c.as_slice.ensures.value) ∙ sym c.first_known.ensures.place ∙ c.in_default.is) c.each.invariant c.each.rest.ok.0 c.is_empty.ensures
