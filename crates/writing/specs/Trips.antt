-- What is proved of reading and writing together (the user's second demand; rules W7, W8). Assumes nothing.
use Rattle.std.specs.Prelude.{◌≡◌, true, List, ◌++◌, ℕ, ◌≤◌, ◌<◌, length, drop}
use Rattle.forms.specs.Lines.{is_line}
use Rattle.values.specs.Values.{permits_record, length_of}
use Rattle.records.specs.declared.records.Record.{Record}
use Rattle.records.specs.Answers.{accepted, written}
use Rattle.reading.specs.Reading.{reading_of}
use Rattle.writing.specs.Writing.{telegram_of, writing_of, sent_of, send_of}

-- a permitted record that was written with number 0 or 1 is read as that record with that number
abbrev pub WrittenReads : Type 0
WrittenReads = (line : ℕ) (rec : Record) (number : ℕ) → permits_record line rec ≡ true → number < 2 → reading_of line (telegram_of line rec number) ≡ accepted rec number

-- what an accepted telegram reads as is permitted, and writing it gives the same bytes
abbrev pub ReadPermitted : Type 0
ReadPermitted =
    (line : ℕ) (s : List ℕ) (rec : Record) (number : ℕ) → reading_of line s ≡ accepted rec number
    → (is_line line ≡ true) × ((permits_record line rec ≡ true) × ((number < 2) × (telegram_of line rec number ≡ s)))

-- on a line two permitted records with numbers below 2 that have the same telegram are the same,
abbrev pub OneRecord : ℕ → Type 0
OneRecord line =
    (r q : Record) (m n : ℕ) → permits_record line r ≡ true → permits_record line q ≡ true → m < 2 → n < 2
    → telegram_of line r m ≡ telegram_of line q n → (r ≡ q) × (m ≡ n)

-- and two texts that read as the same record and number are the same bytes
abbrev pub OneText : ℕ → Type 0
OneText line = (s t : List ℕ) (r : Record) (n : ℕ) → reading_of line s ≡ accepted r n → reading_of line t ≡ accepted r n → s ≡ t

abbrev pub OneTelegram : Type 0
OneTelegram = (line : ℕ) → OneRecord line × OneText line

-- the telegram of a permitted record is as long as its form says
abbrev pub TelegramLength : Type 0
TelegramLength = (line : ℕ) (rec : Record) (number : ℕ) → permits_record line rec ≡ true → length (telegram_of line rec number) ≡ length_of line rec

-- that length is at least 10 and at most 66
abbrev pub LengthBounds : Type 0
LengthBounds = (line : ℕ) (rec : Record) → permits_record line rec ≡ true → (10 ≤ length_of line rec) × (length_of line rec ≤ 66)

-- writing a permitted record with number 0 or 1 where there is room puts its telegram in front and leaves the bytes behind it
abbrev pub Output : Type 0
Output =
    (line : ℕ) (rec : Record) (number : ℕ) (out : List ℕ) → permits_record line rec ≡ true → number < 2 → length_of line rec ≤ length out
    → writing_of line rec number out ≡ (written (length_of line rec), telegram_of line rec number ++ drop (length_of line rec) out)

-- sending one where there are 66 bytes of room sends its telegram
abbrev pub SentWhole : Type 0
SentWhole =
    (line : ℕ) (rec : Record) (number : ℕ) (out : List ℕ) → permits_record line rec ≡ true → number < 2 → 66 ≤ length out
    → send_of line rec number out ≡ sent_of (telegram_of line rec number) out
