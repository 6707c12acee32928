use Rattle.typing_laws.proofs.TokensLemmas.{no_more_tokens_than_bytes}
use Rattle.typing_laws.proofs.laws.no_more_tokens_than_bytes.Goals as goal

pub returns : goal.returns
returns c = no_more_tokens_than_bytes
