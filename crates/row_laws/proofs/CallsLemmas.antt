-- From the law of a row to what its callers want.
use Rattle.std.proofs.Common.{◌+◌, [], ◌++◌}
use Rattle.std.specs.Prelude.{option_to_list}
use Rattle.target_meaning.specs.Leaf.{Run, begin}
use Rattle.triple_logic.specs.Safe.{at_end}
use Rattle.triple_logic.proofs.BoundedRules.{weaker_bounded}
use Rattle.triple_logic.proofs.Claims.{claims_most}
use Rattle.triple_logic.proofs.Ends.{ends_are_safe, ends_bounded}
use Rattle.triple_logic.proofs.Par.{weaker}
use Rattle.row_laws.specs.Rows.{words_of, Given, GivenEnd, most_steps, sizes, or_none, claim_of}
use Rattle.row_laws.specs.Calls.{held_by, at_call, RowUse}

pub row_use : RowUse
row_use T rule law things held ok known =
    let d = law things held ok known in
    let s = Run (begin rule.proc (rule.before ++ words_of things)) [] in
    let b = most_steps (sizes rule.takes things + or_none (claim_of rule things)) in
    let a = option_to_list (claim_of rule things) in
    record {
      safe = λ n f. weaker T at_end _ (Given rule things) (λ vs p h hs m. m.1) n f (at_call rule things) (ends_are_safe T at_end (GivenEnd rule things) f n (most_steps (sizes rule.takes things + or_none (claim_of rule things))) (option_to_list (claim_of rule things)) (Run (begin rule.proc (rule.before ++ words_of things)) []) (held_by rule things) d);
      bounded = λ f. weaker_bounded T at_end _ (Given rule things) (λ vs p h hs m. m.1) (most_steps (sizes rule.takes things + or_none (claim_of rule things))) f (at_call rule things) (ends_bounded T at_end (GivenEnd rule things) f (most_steps (sizes rule.takes things + or_none (claim_of rule things))) (option_to_list (claim_of rule things)) (Run (begin rule.proc (rule.before ++ words_of things)) []) (held_by rule things) d);
      claims = λ room sized es h hs. claims_most room sized T (GivenEnd rule things) rule.proc (most_steps (sizes rule.takes things + or_none (claim_of rule things))) (option_to_list (claim_of rule things)) (rule.before ++ words_of things) (held_by rule things) d es h hs;
    }
