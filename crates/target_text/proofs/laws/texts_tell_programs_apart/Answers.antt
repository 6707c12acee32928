use Rattle.target_text.proofs.SameTexts.{same_text}
use Rattle.target_text.proofs.laws.texts_tell_programs_apart.Goals as goal

pub returns : goal.returns
returns c = same_text
