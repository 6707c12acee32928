-- What readers of the end of a text ensure.
use Rattle.std.specs.Prelude.{◌≡◌, ◌≢◌, ℕ, List, [], Result, Ok, Err}
use Rattle.nres_core.specs.Texts.{open_at_once, operators}
use Rattle.nres_core.specs.declared.tree.Fun.{Fun}
use Rattle.nres_core.specs.declared.tree.Spec.{Spec}
use Rattle.nres_core.specs.declared.tree.With.{With}
use Rattle.nres_automaton.specs.Automaton.{Found, specification, given, Mode, start, values, Left, Fails, run, accepted}
use Rattle.nres_automaton.specs.declared.refusal.SyntaxRefusal.{SyntaxRefusal}
use Rattle.nres_automaton.specs.declared.refusal.SyntaxRefusal.TheVariants as refusal

-- the automaton goes to the end and gives what was read, whatever is made of it, or refuses so
abbrev pub Gives : {A : Type 0} → ((A → Found) → Mode) → Left → Result A SyntaxRefusal → Type 0
Gives {A = A} before old (Ok y) = (k : A → Found) → run operators open_at_once old.1 (before k) old.0 ≡ accepted (k y)
Gives {A = A} before old (Err e) = e ≢ refusal.Memory → (k : A → Found) → Fails operators open_at_once old (before k) e

-- a whole specification with its values is read, or refused so
abbrev pub GivesFile : Left → Result (Spec × List With) SyntaxRefusal → Type 0
GivesFile old (Ok y) = run operators open_at_once old.1 start old.0 ≡ accepted (specification y.0 y.1)
GivesFile old (Err e) = e ≢ refusal.Memory → Fails operators open_at_once old start e

-- values alone are read, or refused so
abbrev pub GivesValues : Left → Result (List With) SyntaxRefusal → Type 0
GivesValues old (Ok ws) = run operators open_at_once old.1 values old.0 ≡ accepted (given ws)
GivesValues old (Err e) = e ≢ refusal.Memory → Fails operators open_at_once old values e
