-- `are_numbers` asks of each word. Assumes nothing.
use Rattle.std.proofs.Common.{rules, ℕ, ◌-◌, refl, sym, ◌∙◌}
use borrow.Author.Tests.{tests}
use Rattle.text.specs.Fields.{word_of}
use Rattle.std.proofs.lemmas.Iterator.{YieldsList-from_range}
use Rattle.std.proofs.lemmas.Iterator.Search.{all_from_yields_List}
use Rattle.scripts.specs.Numbers.{is_number}
use Rattle.scripts.proofs.Digits.{are_numbers_is}
use Rattle.scripts.proofs.numbers.are_numbers.Goals as goal

pub returns : goal.returns
returns c =
    let a = c.args in
    all_from_yields_List (λ (i : ℕ). is_number (word_of i a.row.now)) _ _ c.all.result c.all.ensures.ran
    (YieldsList-from_range a.first a.«end» (a.«end» - a.first) refl refl) (λ x b q k. search (rules, tests))
    ∙ sym (are_numbers_is a.row.now a.first a.«end»)
