use Rattle.std.proofs.Common.{None, ◌≡◌, ap, ◌∙◌, sym}
use Rattle.nres_core.specs.Operations.{in_table}
use Rattle.nres_automaton.specs.Lexemes.{either_table, lexeme_of, words, signs}
use Rattle.nres_automaton.proofs.lexeme.classify.Goals as goal

pub returns-in-Reserved : goal.returns-in-Reserved
unfolding words
returns-in-Reserved c =
    c.either_table.ensures ∙ ap (λ z. either_table z c.look_up.result) c.in_list.ensures ∙ ap (either_table (in_table c.args.bytes.now words)) c.look_up.ensures
    ∙ ap (λ k. lexeme_of k c.args.bytes.now) (sym c.in-Reserved.is)

pub returns-in-Sign : goal.returns-in-Sign
unfolding signs
returns-in-Sign c =
    c.either_table-in-Sign.ensures ∙ ap (λ z. either_table z None) c.in_list-in-Sign.ensures ∙ ap (λ k. lexeme_of k c.args.bytes.now) (sym c.in-Sign.is)
