use Rattle.std.proofs.Common.{sym}
use Rattle.fit_tokens.specs.Changes.{toks}
use Rattle.fit_tokens.proofs.ChangesLemmas.{hold_other}
use Rattle.fit_tokens.proofs.table.Tokens.hold.Goals as goal

pub returns-then-regs-words : goal.returns-then-regs-words
returns-then-regs-words c = sym (hold_other (toks c.args.self.now) c.args.regs.now c.args.words.now c.if-regs-words.true)
