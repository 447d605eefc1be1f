-- What answers a handled telegram (rules D9 to D13). Assumes nothing.
use Rattle.std.specs.Prelude.{ℕ, cond, eqb, Option, None, Some}
use Prim.Native.Char.{code}
use Rattle.forms.specs.Lines.{line_of}
use Rattle.records.specs.declared.records.Record.{Record}
use Rattle.records.specs.declared.records.Record.TheVariants.{Approved, Rejected}
use Rattle.records.specs.Refusals.{No, refusal_of}
use Rattle.desk.specs.Deciding as w
use Rattle.desk.specs.declared.replying.Source as s

-- where an answer comes from: the record set for r; the queue's oldest record; A with what it carries, and the record that goes to the
-- panel; N with what it carries, and its cause
pub data Origin : Type 0 where
  requested : Origin
  queue : Origin
  key : ℕ → Origin
  panel : ℕ → Record → Origin
  contents : ℕ → No → Origin
  not_master : ℕ → Origin
  nothing_set : ℕ → Origin

abbrev pub origin_of : s.Source → Origin
origin_of s.TheVariants.Requested = requested
origin_of s.TheVariants.Queue = queue
origin_of (s.TheVariants.Key b) = key b
origin_of (s.TheVariants.Panel rec) = panel (code "A") rec
origin_of (s.TheVariants.Contents x) = contents (code "A") (refusal_of x)
origin_of s.TheVariants.NotMaster = not_master (code "A")
origin_of s.TheVariants.NothingSet = nothing_set (code "A")

-- the record that answers, and where it comes from
abbrev pub Reply : Type 0
Reply = Record × Origin

-- N with A, from such a source
abbrev pub rejected_by : s.Source → Reply
rejected_by source = (Rejected (code "A"), origin_of source)

-- r: the record set for it, which stays set, else N with A
abbrev pub asked_of : Option Record → Reply
asked_of (Some rec) = (rec, requested)
asked_of None = (Rejected (code "A"), nothing_set (code "A"))

-- the answer A carries the key position on line 3 when it answers t; else it carries A
unfoldable pub key_on : ℕ → ℕ → ℕ
key_on line position = cond (line_of line).keyed position (code "A")

-- t: the oldest queued record, else A
unfoldable pub polled_of : ℕ → ℕ → ℕ → Record → Reply
polled_of line position queued oldest = cond (eqb queued 0) (Approved (key_on line position), key (key_on line position)) (oldest, queue)

-- the answer on a line with a key position, a record set for r or none, and so many queued records with this oldest
abbrev pub reply_of : ℕ → ℕ → Option Record → ℕ → Record → w.What → Reply
-- contents refused 8 to 11, or a type the master does not send on this line: N with A
reply_of line position wanted queued oldest (w.contents x) = (Rejected (code "A"), contents (code "A") x)
reply_of line position wanted queued oldest w.not_master = (Rejected (code "A"), not_master (code "A"))
-- r
reply_of line position wanted queued oldest w.request = asked_of wanted
-- t
reply_of line position wanted queued oldest w.poll = polled_of line position queued oldest
-- other types: the record goes to the panel, answer A
reply_of line position wanted queued oldest (w.other rec) = (Approved (code "A"), panel (code "A") rec)
