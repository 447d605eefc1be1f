-- `take_each` takes thing after thing. Assumes nothing.
use Rattle.std.proofs.Common.{rules}
use Rattle.blocks.proofs.Laid.{all-taken}
use Rattle.blocks.proofs.layout.take_each.Goals as goal

pub returns : goal.returns
returns g c = all-taken g.T.Put.LENGTH g.T.Take.made_of c.from_fn.ensures.items c.args.s.now (λ i y q k. search rules)
