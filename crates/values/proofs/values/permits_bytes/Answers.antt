-- The library's test of each byte is the definition's. Assumes nothing.
use Rattle.std.proofs.Common.{rules, ◌∙◌, ℕ}
use Rattle.std.proofs.lemmas.Iterator.{YieldsList-from_slice}
use Rattle.std.proofs.lemmas.Iterator.Consumers.{YieldsList-from_enumerate}
use Rattle.std.proofs.lemmas.Iterator.Search.{all_from_yields_List}
use Rattle.values.specs.Packets.{permits}
use Rattle.values.proofs.Texts.{each-byte}
use Rattle.values.proofs.values.permits_bytes.Goals as goal

pub returns : goal.returns
returns c =
    let a = c.args in
    let s = a.text.now in
    let test = λ (p : ℕ × ℕ). permits a.line a.kind a.letter p.0 p.1 in
    all_from_yields_List test _ _ _ c.all.ensures.ran (YieldsList-from_enumerate (YieldsList-from_slice s cc) cc) (λ x b q k. search rules)
    ∙ each-byte a.line a.kind a.letter 0 s
