-- `end_of` asks for the position. Assumes nothing.
use Rattle.std.proofs.Common.{rules, ℕ, eqb, length, ap, ◌∙◌}
use Rattle.std.specs.Option.{unwrap_or}
use borrow.Author.Tests.{tests}
use Rattle.std.proofs.lemmas.Iterator.{YieldsList-from_slice}
use Rattle.std.proofs.lemmas.Iterator.Search.{position_from_yields_List}
use Rattle.text.proofs.Rows.{at_or_end}
use Rattle.text.proofs.fields.end_of.Goals as goal

pub returns : goal.returns
returns c =
    let e = position_from_yields_List (λ (b : ℕ). eqb b c.args.separator) _ _ c.position.result c.position.ensures.ran (YieldsList-from_slice c.args.s.now (cc)) (λ x b q k. search (rules, tests)) in
    c.unwrap_or.ensures ∙ ap (λ r. unwrap_or r (length c.args.s.now)) e ∙ at_or_end _ c.args.s.now
