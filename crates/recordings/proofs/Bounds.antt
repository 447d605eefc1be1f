-- No row is longer than its room (rule Q12). Assumes nothing.
use Rattle.std.specs.Prelude.{Option, None, Some}
use Rattle.std.proofs.Common.{◌≡◌, ℕ, ◌*◌, ◌≤◌, Bool, true, false, cond, eqb, leb, List, [], ◌∷◌, length, get_or, take, replicate, refl, arith, length-append, length-take}
use Prim.Native.Char.{code}
use Rattle.laws.specs.Text.{codes}
use Rattle.laws.specs.Truth.{All, from}
use Rattle.laws.proofs.Passes.{on_test}
use Rattle.forms.specs.Forms.{by_master}
use Rattle.characters.specs.Marks.{longest}
use Rattle.clock.specs.Counters.{is_number, number_in}
use Rattle.records.specs.Answers.{Answer, accepted}
use Rattle.records.specs.Answers as r
use Rattle.records.specs.Records.{type_of, fields_of}
use Rattle.records.specs.Refusals.{No, no}
use Rattle.records.specs.declared.records.Record.{Record}
use Rattle.reading.specs.Reading.{reading_of}
use Rattle.text.specs.Amounts.{bytes_text}
use Rattle.text.specs.Frames.{shown_as}
use Rattle.text.specs.Items.{refusal_text, value_text, values_text, record_text}
use Rattle.scripts.specs.Printing.{first_text}
use Rattle.scripts.specs.Tellings.Sources.{key_text, contents_text, origin_text}
use Rattle.scripts.specs.Tellings.Desks.{done_text, noted_text, silent_text, fault_text, repeat_text, handling_text, answering_text}
use Rattle.writing.specs.Writing.{sent_of}
use Rattle.desk.specs.Deciding.{What, Ruling, matter_in, good_frame, bad_frame, ruled_by, ruling_in, repeats}
use Rattle.desk.specs.Deciding as w
use Rattle.desk.specs.Replying.{Origin, asked_of, polled_of}
use Rattle.desk.specs.Replying as o
use Rattle.desk.specs.Heard.{Told}
use Rattle.desk.specs.Heard as t
use Rattle.desk.specs.State.{in_ranges}
use Rattle.desk.specs.Panel.{loses_line, noted_of, tick_of}
use Rattle.desk.specs.Queue.{reply_to}
use Rattle.desk.specs.Hearing.{faulted_of, repeated_of, handled_of, applied_of, ruling, heard_of, hear_of}
use Rattle.desk.specs.declared.state.Desk.{Desk}
use Rattle.desk.proofs.Ranges.{ranges-parts, kept-most}
use Rattle.logs.specs.declared.marks.Mark.TheVariants.{Master, Slave, Hit}
use Rattle.recordings.specs.Replay.Rows.{opening_text, sent_count, record_named, names, handled_named, did_text, heard_text, ticked_text, heard_row, ticked_row, hear_row, tick_row}
use Rattle.recordings.specs.Replay.Texts.{refused_text}
use Rattle.recordings.specs.Replay.Bounds.{RowsFit, LastFits}
use Rattle.recordings.proofs.Small.{Small, digits, chosen, Short, SmallNo, SmallAnswer, reading_small, telegram-most}

-- the texts of numbers of 64 bits
refusal-most : (x : No) → SmallNo x → length (refusal_text x) ≤ 44
unfolding refusal_text
refusal-most x s = simp length-append (omega (arith, digits x.number s.number, digits x.place s.place))

values-most : (vs : List ℕ) → All Small vs → length (values_text vs) ≤ 21 * length vs
unfolding values_text value_text
values-most [] a = omega arith
values-most (v ∷ vs) a = simp length-append (omega (arith, digits v a.0, values-most vs a.1))

record-most : (rec : Record) → Short rec → length (record_text rec) ≤ 211
unfolding record_text
record-most rec s = omega (arith, values-most (fields_of rec) s.each, s.few)

bytes_most : (n : ℕ) → n ≤ longest → length (bytes_text n) ≤ 26
unfolding bytes_text
bytes_most n h = simp length-append (omega (arith, digits n (omega arith)))

shown-length : (s : List ℕ) → length (shown_as s) ≡ length s
unfolding shown_as
shown-length [] = omega arith
shown-length (b ∷ s) = let e = shown-length s in omega arith

first-most : (sent : List ℕ) (n : ℕ) → n ≤ longest → length (first_text (codes " ") sent n) ≤ 67
unfolding first_text
first-most sent n h =
    on_test (eqb n 0) (λ e. rw e (omega arith)) (λ e. rw e (omega (arith, shown-length (take n sent), length-take n sent)))

-- where an answer comes from, and what a hearing tells, with small numbers only and at most 66 bytes sent
abbrev SmallOrigin : Origin → Type 0
SmallOrigin o.requested = Unit {0}
SmallOrigin o.queue = Unit {0}
SmallOrigin (o.key position) = Unit {0}
SmallOrigin (o.panel value rec) = Short rec
SmallOrigin (o.contents value x) = SmallNo x
SmallOrigin (o.not_master value) = Unit {0}
SmallOrigin (o.nothing_set value) = Unit {0}

abbrev SmallTold : Told → Type 0
SmallTold (t.refused x) = SmallNo x
SmallTold (t.silent lost x) = SmallNo x
SmallTold (t.fault lost value n) = n ≤ longest
SmallTold (t.repeat n) = n ≤ longest
SmallTold (t.handled lost origin n) = SmallOrigin origin × (n ≤ longest)

origin-most : (origin : Origin) → SmallOrigin origin → length (origin_text origin) ≤ 217
unfolding key_text contents_text
origin-most o.requested s = omega arith
origin-most o.queue s = omega arith
origin-most (o.key position) s = omega arith
origin-most (o.panel value rec) s = omega (arith, record-most rec s)
origin-most (o.contents value x) s = omega (arith, refusal-most x s)
origin-most (o.not_master value) s = omega arith
origin-most (o.nothing_set value) s = omega arith

noted-most : (b : Bool) → length (noted_text b) ≤ 17
noted-most true = omega arith
noted-most false = omega arith

named-most : (a : Answer) → SmallAnswer a → length (record_named a) ≤ 213
named-most (accepted rec n) s = omega (arith, length-append (record_text rec) (codes ", "), record-most rec s)
named-most (r.refused x) s = omega arith

did-most : (a : Answer) (told : Told) → SmallAnswer a → SmallTold told → length (did_text a told) ≤ 484
unfolding silent_text fault_text repeat_text handled_named handling_text answering_text
did-most a (t.refused x) s k = omega (arith, refusal-most x k)
did-most a (t.silent lost x) s k = simp length-append (omega (arith, noted-most lost, refusal-most x k))
did-most a (t.fault lost value n) s k = simp length-append (omega (arith, noted-most lost, bytes_most n k))
did-most a (t.repeat n) s k = simp length-append (omega (arith, bytes_most n k))
did-most a (t.handled lost origin n) s k =
    let c : length (cond (names origin) [] (record_named a)) ≤ 213 = chosen (λ (u : List ℕ). length u ≤ 213) (names origin) [] (record_named a) (omega arith) (named-most a s) in
    simp length-append (omega (arith, noted-most lost, c, origin-most origin k.0, bytes_most n k.1))

sent-most : (told : Told) → SmallTold told → sent_count told ≤ longest
sent-most (t.refused x) k = omega arith
sent-most (t.silent lost x) k = omega arith
sent-most (t.fault lost value n) k = k
sent-most (t.repeat n) k = k
sent-most (t.handled lost origin n) k = k.1

-- a ruling on what was read has small numbers only
abbrev SmallWhat : What → Type 0
SmallWhat (w.contents x) = SmallNo x
SmallWhat w.not_master = Unit {0}
SmallWhat w.request = Unit {0}
SmallWhat w.poll = Unit {0}
SmallWhat (w.other rec) = Short rec

abbrev SmallRuling : Ruling → Type 0
SmallRuling (w.silent x) = SmallNo x
SmallRuling (w.fault x n) = Unit {0}
SmallRuling (w.repeat n what) = Unit {0}
SmallRuling (w.handle n what) = SmallWhat what

matter-small : (line : ℕ) (rec : Record) → Short rec → SmallWhat (matter_in line rec)
unfolding matter_in
matter-small line rec s =
    chosen SmallWhat (by_master line (type_of rec)) _ _ (chosen SmallWhat (eqb (type_of rec) (code "r")) _ _ tt (chosen SmallWhat (eqb (type_of rec) (code "t")) _ _ tt s)) tt

good-small : (b : Bool) (last number : ℕ) (what : What) → SmallWhat what → SmallRuling (good_frame b last number what)
unfolding good_frame
good-small b last number what s = chosen SmallRuling (repeats b last number) _ _ tt s

ruled-small : (line : ℕ) (b : Bool) (last byte : ℕ) (a : Answer) → SmallAnswer a → SmallRuling (ruled_by line b last byte a)
unfolding bad_frame
ruled-small line b last byte (accepted rec n) s = good-small b last n (matter_in line rec) (matter-small line rec s)
ruled-small line b last byte (r.refused x) s =
    chosen SmallRuling (eqb x.number 6) _ _ (chosen SmallRuling (is_number byte) _ _ tt s)
    (chosen SmallRuling (from 8 11 x.number) _ _ (good-small b last (number_in byte) (w.contents x) s) s)

module _ (e : Desk) where
  reply-small : (what : What) → SmallWhat what → SmallOrigin (reply_to e what).1
  unfolding polled_of
  reply-small (w.contents x) s = s
  reply-small w.not_master s = tt
  reply-small w.request s = asked e.requested
    where
      asked : (v : Option Record) → SmallOrigin (asked_of v).1
      asked None = tt
      asked (Some rec) = tt
  reply-small w.poll s = on_test (eqb e.queued 0) (λ q. rw q tt) (λ q. rw q tt)
  reply-small (w.other rec) s = s

  applied-small : e.kept ≤ longest → (lost : Bool) (at : ℕ) (rule : Ruling) (out : List ℕ) → SmallRuling rule → SmallTold (applied_of e lost at rule out).1
  unfolding faulted_of repeated_of handled_of sent_of
  applied-small k lost at (w.silent x) out s = s
  applied-small k lost at (w.fault x n) out s = telegram-most e.line _ n
  applied-small k lost at (w.repeat n what) out s = omega (arith, length-take e.kept e.stored)
  applied-small k lost at (w.handle n what) out s = (reply-small what s, telegram-most e.line _ n)

noted-same : (d : Desk) (b : Bool) → ((noted_of d b).line ≡ d.line) × ((noted_of d b).kept ≡ d.kept)
unfolding noted_of
noted-same d true = (refl, refl)
noted-same d false = (refl, refl)

told-small : (d : Desk) (at : ℕ) (frame out : List ℕ) → SmallTold (hear_of d at frame out).1
unfolding hear_of heard_of ruling_in
told-small d at frame out =
    let e = noted_of d (loses_line d at) in
    on_test (in_ranges d)
    (λ q.
    on_test (leb longest (length out))
    (λ l.
    rw (q, l)
    (applied-small e (omega (arith, (noted-same d (loses_line d at)).1, kept-most d.good d.kept (ranges-parts d q).stocked)) (loses_line d at) at (ruling e frame) out
    (ruled-small e.line e.good e.last.0 (get_or frame 4 0) (reading_of e.line frame) (reading_small e.line frame))))
    (λ l. rw (q, l) (record { number = omega arith; place = omega arith })))
    (λ q. rw q (record { number = omega arith; place = omega arith }))

ticked-most : (d : Desk) (at : ℕ) → length (done_text (tick_of d at).1) ≤ 44
unfolding tick_of refusal_text
ticked-most d at =
    on_test (in_ranges d)
    (λ q. on_test (loses_line d at) (λ l. rw (q, l) (omega arith)) (λ l. rw (q, l) (omega arith)))
    (λ q. rw q (refusal-most (no 15 0) (record { number = omega arith; place = omega arith })))

opening-most : (ordinal offset time : ℕ) → Small ordinal → Small offset → Small time → length (opening_text ordinal offset time) ≤ 63
unfolding opening_text
opening-most ordinal offset time a b c = simp length-append (omega (arith, digits ordinal a, digits offset b, digits time c))

pub rows_fit : RowsFit
unfolding hear_row heard_row heard_text tick_row ticked_row ticked_text
rows_fit Master d ordinal offset time bytes a b c =
    let h = hear_of d time bytes (replicate longest 0) in
    let k = told-small d time bytes (replicate longest 0) in
    simp length-append
    (omega (
      arith,
      opening-most ordinal offset time a b c,
      did-most (reading_of d.line bytes) h.1 (reading_small d.line bytes) k,
      first-most h.2 (sent_count h.1) (sent-most h.1 k),
    ))
rows_fit Slave d ordinal offset time bytes a b c = omega arith
rows_fit Hit d ordinal offset time bytes a b c = simp length-append (omega (arith, opening-most ordinal offset time a b c, ticked-most d time))

pub last_fits : LastFits
unfolding refused_text
last_fits number offset a b = simp length-append (omega (arith, refusal-most (no number offset) (record { number = a; place = b })))
