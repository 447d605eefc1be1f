-- `put_bytes` puts its parts one behind the other. Assumes nothing.
use Rattle.text.specs.Amounts.{bytes_text}
use Rattle.text.proofs.Puts.{then}
use Rattle.text.proofs.amounts.put_bytes.Goals as goal

pub returns : goal.returns
unfolding bytes_text
returns c = search then
