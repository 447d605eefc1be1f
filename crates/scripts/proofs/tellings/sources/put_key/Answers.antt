-- `put_key` puts its parts one behind the other. Assumes nothing.
use Rattle.text.proofs.Puts.{then}
use Rattle.scripts.specs.Tellings.Sources.{key_text}
use Rattle.scripts.proofs.tellings.sources.put_key.Goals as goal

pub returns : goal.returns
unfolding key_text
returns c = search then
