-- `word_values` takes word after word. Assumes nothing.
use Rattle.std.proofs.Common.{rules, ℕ, arith}
use Rattle.text.specs.Fields.{word_value}
use Rattle.text.proofs.Values.{given, all-taken}
use Rattle.text.proofs.items.word_values.Goals as goal

pub returns : goal.returns
returns c =
    let made = c.from_fn.ensures.items in
    all-taken _ _ made.long (λ k h. given _ (λ (n : ℕ). word_value n c.args.s.now) 0 _ (λ i y q t. search rules) _ 10 0 made.each k (omega arith) (omega arith))
