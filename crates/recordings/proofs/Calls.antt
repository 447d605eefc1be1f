-- The replay of a log is the desk run by hand over the calls of the log's records (rules Q10, Q11). Assumes nothing.
use Rattle.std.proofs.Common.{◌≡◌, ℕ, ◌+◌, List, [], ◌∷◌, ◌++◌, map, replicate, sym, refl, ap, ◌∙◌, append_assoc, arith}
use Rattle.characters.specs.Marks.{longest}
use Rattle.pieces.specs.Counts.{wrapped}
use Rattle.desk.specs.State.{start_of}
use Rattle.desk.specs.declared.state.Desk.{Desk}
use Rattle.conduct.specs.Desk.Calls.{Call, run, Fine}
use Rattle.conduct.proofs.Desk.Kept.{tick-keeps, hear-keeps}
use Rattle.logs.specs.Records.{LogRecord}
use Rattle.logs.specs.Whole.{Ending, over, refusal, size_of, sizes_of, log_of}
use Rattle.logs.specs.declared.marks.Mark.{Mark}
use Rattle.logs.specs.declared.marks.Mark.TheVariants.{Master, Slave, Hit}
use Rattle.recordings.specs.Replay.Rows.{heard_row, ticked_row, hear_row, tick_row, row_of}
use Rattle.recordings.specs.Replay.Texts.{text_on}
use Rattle.recordings.specs.Replay.Whole.{replay_on}
use Rattle.recordings.specs.Replay.Calls.{call_by, Made, made, made_of, rows_by, end_row, by_hand as told_by_hand, ByHand}

-- the desk behind a record is the one behind its call
pub row-desk : (mark : Mark) (d : Desk) (ordinal offset time : ℕ) (bytes : List ℕ) (calls : List Call)
    → run (row_of mark d ordinal offset time bytes).0 calls ≡ run d (call_by mark time bytes ++ calls)
unfolding hear_row heard_row tick_row ticked_row
row-desk Master d ordinal offset time bytes calls = refl
row-desk Slave d ordinal offset time bytes calls = refl
row-desk Hit d ordinal offset time bytes calls = refl

-- so it is fine if it was
pub row_fine : (mark : Mark) (d : Desk) (ordinal offset time : ℕ) (bytes : List ℕ) → Fine d → Fine (row_of mark d ordinal offset time bytes).0
unfolding hear_row heard_row tick_row ticked_row
row_fine Master d ordinal offset time bytes f = (hear-keeps d f time bytes (replicate longest 0)).fine
row_fine Slave d ordinal offset time bytes f = f
row_fine Hit d ordinal offset time bytes f = (tick-keeps d f time).fine

-- the row of a record, and the text of what follows, are those of its call and what follows
row-by-hand : (mark : Mark) (d : Desk) (ordinal offset : ℕ) (r : LogRecord) (text : Desk → List ℕ) (more : List Made) (last : List ℕ) → ((e : Desk) → text e ≡ rows_by e more ++ last)
    → (row_of mark d ordinal offset r.time r.bytes).1 ++ text (row_of mark d ordinal offset r.time r.bytes).0
    ≡ rows_by d (map (made ordinal offset r) (call_by mark r.time r.bytes) ++ more) ++ last
unfolding hear_row heard_row tick_row ticked_row rows_by
row-by-hand Master d ordinal offset r text more last h =
    ap (λ (u : List ℕ). (row_of Master d ordinal offset r.time r.bytes).1 ++ u) (h _) ∙ sym (append_assoc (row_of Master d ordinal offset r.time r.bytes).1 _ last)
row-by-hand Slave d ordinal offset r text more last h = h d
row-by-hand Hit d ordinal offset r text more last h =
    ap (λ (u : List ℕ). (row_of Hit d ordinal offset r.time r.bytes).1 ++ u) (h _) ∙ sym (append_assoc (row_of Hit d ordinal offset r.time r.bytes).1 _ last)

-- the rows of records, and the end behind them
rows-by-hand : (rs : List LogRecord) (ending : Ending) (d : Desk) (ordinal n : ℕ)
    → text_on d ordinal (wrapped n) rs ending ≡ rows_by d (made_of ordinal (wrapped n) rs) ++ end_row ending (wrapped (n + sizes_of rs))
unfolding text_on rows_by made_of
rows-by-hand [] over d ordinal n = refl
rows-by-hand [] (refusal number) d ordinal n = let z : n + 0 ≡ n = omega arith in rw z
rows-by-hand (r ∷ rs) ending d ordinal n =
    let a : wrapped (wrapped n + size_of r) ≡ wrapped (n + size_of r) = omega arith in
    let b : n + (size_of r + sizes_of rs) ≡ n + size_of r + sizes_of rs = omega arith in
    rw (a, b)
    (row-by-hand r.mark d ordinal (wrapped n) r (λ e. text_on e (wrapped (ordinal + 1)) (wrapped (n + size_of r)) rs ending)
    (made_of (wrapped (ordinal + 1)) (wrapped (n + size_of r)) rs) (end_row ending (wrapped (n + size_of r + sizes_of rs)))
    (λ e. rows-by-hand rs ending e (wrapped (ordinal + 1)) (n + size_of r)))

pub by_hand : ByHand
unfolding replay_on told_by_hand
by_hand line log =
    let z : 0 + sizes_of (log_of log).0 ≡ sizes_of (log_of log).0 = omega arith in
    rw z at (rows-by-hand (log_of log).0 (log_of log).1 (start_of line).0 1 0)
