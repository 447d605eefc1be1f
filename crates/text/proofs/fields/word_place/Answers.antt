-- `word_place` finds the first number at which the words are the same. Assumes nothing.
use Rattle.std.proofs.Common.{rules, ℕ, refl, sym, ap, ◌∙◌}
use native.Mathlib.Nat.{sub-zero}
use borrow.Author.Tests.{tests}
use Rattle.std.specs.Option.{unwrap_or}
use Rattle.std.proofs.lemmas.Iterator.{YieldsList-from_range}
use Rattle.std.proofs.lemmas.Iterator.Adapters.{option_map_id}
use Rattle.std.proofs.lemmas.Iterator.Search.{find_from_yields_List}
use Rattle.text.specs.Fields.{same_text, word_of}
use Rattle.text.proofs.Rows.{word_place_is}
use Rattle.text.proofs.fields.word_place.Goals as goal

pub returns : goal.returns
returns c =
    let n = c.args.count in
    let road = YieldsList-from_range 0 n n refl (sub-zero n) in
    let e = find_from_yields_List (λ (j : ℕ). same_text (word_of j c.args.words.now) c.args.one.now) _ _ c.find.result c.find.ensures.ran road (λ x b q k. search (rules, tests)) in
    c.unwrap_or.ensures ∙ ap (λ r. unwrap_or r c.args.count) (sym (option_map_id c.find.result) ∙ e) ∙ sym (word_place_is _ _ c.args.count)
