use Rattle.std.specs.Prelude.{[]}
use Rattle.target_meaning.specs.Leaf.{Run, begin}
use Rattle.triple_logic.specs.Safe.{at_end}
use Rattle.triple_logic.proofs.Ends.{ends_frame, ends_are_safe, ends_bounded}
use Rattle.triple_logic.proofs.Sound.{does}
use Rattle.triple_logic.proofs.Claims.{claims_most, asks_most}
use Rattle.triple_logic.proofs.laws.weakest_preconditions.Goals as goal

pub returns : goal.returns
returns g c = record {
  sound = λ e T b u k text a args p w. does T b u k text (g.E.Outcome.meets e) a args p w;
  framed = λ e T u b a args p q w. ends_frame q T at_end (g.E.Outcome.meets e) b a (Run (begin u args) []) p w;
  safe = λ e T u n f b a args p w. ends_are_safe T at_end (g.E.Outcome.meets e) f n b a (Run (begin u args) []) p w;
  bounded = λ e T u f b a args p w. ends_bounded T at_end (g.E.Outcome.meets e) f b a (Run (begin u args) []) p w;
  claims = λ e room sized T u b a args p w es h hs. claims_most room sized T (g.E.Outcome.meets e) u b a args p w es h hs;
  asks = λ e room sized T u b a args p w es h hs. asks_most room sized T (g.E.Outcome.meets e) u b a args p w es h hs;
}
