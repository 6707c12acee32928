use Rattle.fit_laws.proofs.Follows.{keeps_older}
use Rattle.fit_laws.proofs.laws.what_is_followed_keeps_the_older.Goals as goal

pub returns : goal.returns
returns c = keeps_older
