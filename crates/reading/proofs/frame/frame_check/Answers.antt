-- `reading::frame::frame_check` meets its contract.
use Rattle.std.proofs.Common.{sym, ap, ◌∙◌, ℕ, List, length}
use Rattle.reading.specs.Frame.{is_two}
use Rattle.reading.proofs.Framing.{count-two, short, long, no_start, bad-count, to_end}
use Rattle.reading.proofs.frame.frame_check.Goals as goal

pub returns-then-n-lt-SHORTEST : goal.returns-then-n-lt-SHORTEST
returns-then-n-lt-SHORTEST c = short c.args.s.now c.if-n-lt-SHORTEST.true

pub returns-then-n-gt-LONGEST : goal.returns-then-n-gt-LONGEST
returns-then-n-gt-LONGEST c = long c.args.s.now c.if-n-lt-SHORTEST.false c.if-n-gt-LONGEST.true

pub returns-then-byte_at-ne-LF : goal.returns-then-byte_at-ne-LF
returns-then-byte_at-ne-LF c =
    no_start c.args.s.now c.if-n-lt-SHORTEST.false c.if-n-gt-LONGEST.false (λ e. c.if-byte_at-ne-LF.true (c.byte_at.ensures ∙ e))

pub returns-then-not-is_two : goal.returns-then-not-is_two
returns-then-not-is_two c =
    let s = c.args.s.now in
    bad-count s c.if-n-lt-SHORTEST.false c.if-n-gt-LONGEST.false (sym c.byte_at.ensures ∙ c.if-byte_at-ne-LF.false)
    (sym (c.is_two.ensures ∙ ap (λ (x : List ℕ). is_two s 1 x) (count-two (length s) _ _ c.count_high.ensures c.count_low.ensures))
    ∙ c.if-not-is_two.true)

pub returns : goal.returns
returns c =
    let s = c.args.s.now in
    c.end_check.ensures
    ∙ to_end s c.if-n-lt-SHORTEST.false c.if-n-gt-LONGEST.false (sym c.byte_at.ensures ∙ c.if-byte_at-ne-LF.false)
    (sym (c.is_two.ensures ∙ ap (λ (x : List ℕ). is_two s 1 x) (count-two (length s) _ _ c.count_high.ensures c.count_low.ensures))
    ∙ c.if-not-is_two.false)
