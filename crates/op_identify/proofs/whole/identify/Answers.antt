use Rattle.std.proofs.Common.{[], ◌∙◌, ap}
use Rattle.nres_rules.specs.Identify.{id_blk}
use Rattle.nres_core.specs.Mirror.{blk_of, named_params}
use Rattle.nres_rules.specs.Types.{profiles, with_types, some_types, param_types}
use Rattle.op_identify.proofs.TypedWords.{blk_left, funs_identified}
use Rattle.op_identify.proofs.Fronts.{begun}
use Rattle.op_identify.proofs.whole.identify.Goals as goal

pub returns-in-Ok : goal.returns-in-Ok
returns-in-Ok c =
    let p = c.args.spec.now in
    let b = blk_of p.body in
    let ops = c.args.typing.now.words in
    let e = c.new-ops.ensures ∙ c.as_slice.ensures in
    let left = blk_left (profiles p.funs) b (with_types (named_params p.params) (some_types (param_types p.params)) []) ops c.requires.words in
    record {
      name = c.in_ok-head.ensures.name;
      params = c.in_ok-head.ensures.params ∙ c.as_slice-params.ensures;
      shown = c.in_ok-head.ensures.shown ∙ c.as_slice-shown.ensures;
      body = c.in-Ok.ensures.body ∙ ap (λ os. (id_blk b os).0) e;
      funs = funs_identified (profiles p.funs) p.funs c.in-Ok.funs [] (id_blk b ops).1 c.bodies.new.ops left
          (begun c.in-Ok.funs c.bodies.new.ops c.as_slice-2.ensures (ap (λ os. (id_blk b os).1) e) c.in-Ok.ensures.funs);
    }
