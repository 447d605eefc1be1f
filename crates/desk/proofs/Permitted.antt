-- Each record that the desk answers with is permitted on its line. Assumes nothing.
use Rattle.std.specs.Prelude.{Option, None, Some}
use mathlib.Core.Path.{◌≡◌, refl}
use mathlib.Core.Bool.{Bool, true, cond}
use mathlib.Core.List.{[], ◌∷◌}
use Prim.Native.Nat.{ℕ}
use Prim.Native.Char.{code}
use lib.Dec.{eqb}
use borrow.Author.Tests.{eqb-false}
use Rattle.laws.specs.Truth.{every}
use Rattle.laws.specs.Text.{codes}
use Rattle.laws.proofs.Truths.{both_left, both_right}
use Rattle.laws.proofs.Passes.{on_test, one_of-passes}
use Rattle.laws.specs.Numerals.{numeral_on, left_of}
use Rattle.characters.specs.Characters.{in_set}
use Rattle.forms.specs.Lines.{is_line, line_of}
use Rattle.forms.specs.Forms.{forms, on_line, look_in, type_row, form_of, slots_in, count_of, slots_of, data_type}
use Rattle.records.specs.Records.{type_of}
use Rattle.records.specs.declared.records.Record.{Record}
use Rattle.records.specs.declared.records.Record.TheVariants.{Approved, Rejected}
use Rattle.forms.proofs.Found.{each_line}
use Rattle.values.specs.Packets.{lead_of, is_decimal, permits, ruled, permits_number}
use Rattle.values.specs.Values.{text_of, narrow, number_width, permitted_from, number_fits, permits_value, permits_values, permits_record}
use Rattle.desk.specs.Deciding.{What, contents, not_master, request, poll, other}
use Rattle.desk.specs.Fitting.{may_reply, key_fits, wanted_fits}
use Rattle.desk.specs.Replying.{asked_of, key_on, polled_of, reply_of}

-- N with 1, N with A and A with A on each line
abbrev plain_on : ℕ → Bool
plain_on line = every (permits_record line) (Rejected (code "1") ∷ Rejected (code "A") ∷ Approved (code "A") ∷ [])

plain-on : (line : ℕ) → is_line line ≡ true → plain_on line ≡ true
unfolding forms on_line look_in type_row form_of slots_in count_of slots_of data_type line_of lead_of is_decimal permits ruled permits_number text_of number_width
    permitted_from number_fits permits_value permits_values permits_record narrow numeral_on left_of in_set
plain-on line h = each_line plain_on refl line h

module _ (line : ℕ) (h : is_line line ≡ true) where
  pub fault-permitted : permits_record line (Rejected (code "1")) ≡ true
  fault-permitted = both_left (permits_record line (Rejected (code "1"))) _ (plain-on line h)

  plain-rest : every (permits_record line) (Rejected (code "A") ∷ Approved (code "A") ∷ []) ≡ true
  plain-rest = both_right (permits_record line (Rejected (code "1"))) _ (plain-on line h)

  refused-permitted : permits_record line (Rejected (code "A")) ≡ true
  refused-permitted = both_left (permits_record line (Rejected (code "A"))) _ plain-rest

  taken-permitted : permits_record line (Approved (code "A")) ≡ true
  taken-permitted = both_left (permits_record line (Approved (code "A"))) true (both_right (permits_record line (Rejected (code "A"))) _ plain-rest)

-- A with a key position, on each line where A carries it
abbrev keyed_on : ℕ → Bool
keyed_on line = cond (line_of line).keyed (every (λ (k : ℕ). permits_record line (Approved k)) (codes "AXY")) true

keyed-on : (line : ℕ) → is_line line ≡ true → keyed_on line ≡ true
unfolding forms on_line look_in type_row form_of slots_in count_of slots_of data_type line_of lead_of is_decimal permits ruled permits_number text_of number_width
    permitted_from number_fits permits_value permits_values permits_record narrow numeral_on left_of in_set
keyed-on line h = each_line keyed_on refl line h

key-permitted : (line key : ℕ) → is_line line ≡ true → key_fits line key ≡ true → permits_record line (Approved (key_on line key)) ≡ true
unfolding key_on key_fits
key-permitted line key h k =
    on_test (line_of line).keyed
    (λ e. rw e (one_of-passes (λ (k : ℕ). permits_record line (Approved k)) (codes "AXY") key (rw e at (keyed-on line h)) (rw e at k)))
    (λ e. rw e (taken-permitted line h))

-- a record that may reply is permitted
pub reply-allowed : (line : ℕ) (rec : Record) → may_reply line rec ≡ true → permits_record line rec ≡ true
unfolding may_reply
reply-allowed line rec h = both_right (eqb (type_of rec) (data_type line)) (permits_record line rec) h

-- the record set for r
asked-permitted : (line : ℕ) (w : Option Record) → is_line line ≡ true → wanted_fits line w ≡ true → permits_record line (asked_of w).0 ≡ true
unfolding wanted_fits
asked-permitted line (Some rec) h k = reply-allowed line rec k
asked-permitted line None h k = refused-permitted line h

-- so each answer to a handled telegram is permitted, where the key position, the record set for r and the oldest that waits may answer
module _ (line key : ℕ) (wanted : Option Record) (queued : ℕ) (oldest : Record) (h : is_line line ≡ true) (k : key_fits line key ≡ true) (w : wanted_fits line wanted ≡ true)
    (o : ¬ (queued ≡ 0) → may_reply line oldest ≡ true) where
  polled-permitted : permits_record line (polled_of line key queued oldest).0 ≡ true
  unfolding polled_of
  polled-permitted =
      on_test (eqb queued 0)
      (λ e. rw e (key-permitted line key h k))
      (λ e. rw e (reply-allowed line oldest (o (eqb-false queued 0 e))))

  pub reply-permitted : (what : What) → permits_record line (reply_of line key wanted queued oldest what).0 ≡ true
  reply-permitted (contents x) = refused-permitted line h
  reply-permitted not_master = refused-permitted line h
  reply-permitted request = asked-permitted line wanted h w
  reply-permitted poll = polled-permitted
  reply-permitted (other rec) = taken-permitted line h
