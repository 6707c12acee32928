use Rattle.std.proofs.Common.{[], ◌∷◌, ◌++◌, refl}
use Rattle.nres_core.specs.FlatTree.{binds_of}
use Rattle.nres_rules.specs.Flatten.{unnamed}
use Rattle.nres_flat.proofs.each.begin_each.Goals as goal

pub returns-clause-head : goal.returns-clause-head
returns-clause-head c =
    let held = c.outs.new.names in
    let e = c.in_ok-index.ensures in
    record {
      list_binds = binds_of c.operate.new.binds;
      count_binds = binds_of c.operate-2.new.binds;
      listed = c.operate.new.names;
      counted = c.operate-2.new.names;
      started = c.exprs.new.names;
      held = held;
      indexed = held ++ unnamed ∷ [];
      tested = (held ++ unnamed ∷ []) ++ unnamed ∷ [];
      elements = c.in_ok-elements.ensures.variable;
      list = c.in_ok-elements.ensures.adds;
      count = c.in_ok-count.ensures.variable;
      size = c.in_ok-count.ensures.adds;
      starts = c.in_ok-starts.ensures;
      variables = c.in_ok-vars.ensures.numbers;
      variable_names = c.in_ok-vars.ensures.names;
      index = e.index;
      index_name = refl;
      test = e.test;
      test_name = refl;
      element = e.element;
      element_name = e.names;
    }
