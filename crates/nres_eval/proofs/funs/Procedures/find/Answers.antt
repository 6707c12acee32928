use Rattle.std.proofs.Common.{ap, ◌∙◌, sym}
use Rattle.scopes.specs.Names.{found_in}
use Rattle.nres_eval.specs.Procedures.{proc_named}
use Rattle.nres_eval.proofs.Procs.{found_fun, fun_at}
use Rattle.nres_eval.proofs.funs.Procedures.find.Goals as goal

pub returns-in-Some : goal.returns-in-Some
returns-in-Some c =
    let fs = c.self.inside.funs.now in
    c.at.ensures
    ∙ ap (fun_at fs) (sym c.in-Some.is ∙ c.find.ensures ∙ (λ i. found_in (c.self.invariant i) (c.bytes.ensures i)))
    ∙ sym (found_fun fs c.args.name.now)
    ∙ ap (proc_named c.args.name.now) c.self.view_is

pub returns-in-None : goal.returns-in-None
returns-in-None c =
    let fs = c.self.inside.funs.now in
    ap (fun_at fs) (sym c.in-None.is ∙ c.find.ensures ∙ (λ i. found_in (c.self.invariant i) (c.bytes.ensures i)))
    ∙ sym (found_fun fs c.args.name.now)
    ∙ ap (proc_named c.args.name.now) c.self.view_is
