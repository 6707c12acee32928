use Rattle.std.proofs.Common.{◌∙◌, sym}
use Rattle.target_code.proofs.FormedTests.{formed_by_tests, tests_by_formed}
use Rattle.target_code.proofs.formed.is_formed.Goals as goal

pub returns : goal.returns
returns c = (λ h. formed_by_tests c.args.program.now (sym c.passes.ensures ∙ h), λ f. c.passes.ensures ∙ tests_by_formed c.args.program.now f)
