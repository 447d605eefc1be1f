-- The library's test of the first n places is the definition's.
use Rattle.std.proofs.Common.{◌∙◌, take, rules}
use Rattle.std.proofs.lemmas.Iterator.{YieldsList-from_slice, YieldsList-from_take}
use Rattle.std.proofs.lemmas.Iterator.Search.{all_from_yields_List}
use Rattle.desk.specs.Waiting.{waiting_fits}
use Rattle.desk.proofs.Places.{all-every}
use Rattle.desk.proofs.waiting.queue_fits.Goals as goal

pub returns : goal.returns
returns c =
    let a = c.args in
    let test = waiting_fits a.line in
    let e =
    all_from_yields_List test _ _ c.all.result c.all.ensures.ran (YieldsList-from_take a.n (YieldsList-from_slice a.queue.now (cc)) (cc)) (λ x b q k. search rules) in
    e ∙ all-every test (take a.n a.queue.now)
