use Rattle.std.proofs.Common.{◌≢◌, [], subst}
use Rattle.nres_core.specs.Vocabulary.{all_seen}
use Rattle.nres_automaton.specs.Cursor.{behind}
use Rattle.nres_automaton.specs.Lexemes.{lexes}
use Rattle.nres_automaton.proofs.Lexes.{more_come, never_end}
use Rattle.nres_automaton.proofs.cursor.Cursor.peek.Goals as goal

pub returns-in-len1-up-clause-more : goal.returns-in-len1-up-clause-more
returns-in-len1-up-clause-more c = λ e. subst (λ v. behind (lexes v.0.1.1 (all_seen v.0.0 v.0.1.0)) ≢ []) c.self.view_is (more_come _ _ _ c.in-len1-up.len_at_least)

pub returns-in-len1-up-clause-ends : goal.returns-in-len1-up-clause-ends
returns-in-len1-up-clause-ends c = λ e. absurd (never_end c.self.inside.input.now c.self.inside.tokens.now c.self.inside.lexeme c.in-len1-up.len_at_least c.self.invariant.next e)
