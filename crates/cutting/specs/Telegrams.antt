-- Telegrams in bytes, told without any machine, and what the search answers (rules C5, C7). Assumes nothing.
use Rattle.std.specs.Prelude.{◌≡◌, ◌↔◌, List, [], ℕ, ◌+◌, ◌-◌, ◌≤◌, ◌<◌, length, get_or}
use Rattle.characters.specs.Marks.{lf, cr, longest}
use Rattle.cutting.specs.Turns.{Plain}
use Rattle.cutting.specs.Search.{Span, Found, Nothing, span_of, part_of}

-- a telegram stands at [o, e) just where byte o is LF, byte e - 1 is CR, neither stands between, and it has at most 66 bytes
pub record Telegram (s : List ℕ) (o e : ℕ) : Type 0 where
  pub begins : get_or s o 0 ≡ lf
  pub ends : get_or s (e - 1) 0 ≡ cr
  pub long : o + 2 ≤ e
  pub short : e - o ≤ longest
  pub within : e ≤ length s
  pub between : (k : ℕ) → o < k → k < e - 1 → Plain (get_or s k 0)

-- "hands back the telegram .., or says that none is left": the one that ends first of those that begin at or behind its place
abbrev pub FirstTelegram : List ℕ → ℕ → Span → Type 0
FirstTelegram s from (Found o e) = (from ≤ o) × Telegram s o e × ((o' e' : ℕ) → from ≤ o' → Telegram s o' e' → e ≤ e')
FirstTelegram s from Nothing = (o' e' : ℕ) → from ≤ o' → Telegram s o' e' → ⊥

-- The search answers a span just where that span is the first telegram from its place on, and nothing just where there is none.
abbrev pub SearchAnswers : Type 0
SearchAnswers = (s : List ℕ) (from : ℕ) (p : Span) → (span_of s from ≡ p) ↔ FirstTelegram s from p

-- The part found is as long as its span,
abbrev pub PartLength : Type 0
PartLength = (s : List ℕ) (from o e : ℕ) → span_of s from ≡ Found o e → length (part_of s (Found o e)) ≡ e - o

-- so it is empty just where none is left.
abbrev pub EmptyPart : Type 0
EmptyPart = (s : List ℕ) (from : ℕ) → (part_of s (span_of s from) ≡ []) ↔ (span_of s from ≡ Nothing)
