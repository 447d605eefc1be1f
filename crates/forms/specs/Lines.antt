-- The table of lines (rules L1 to L4, V17, K4, M7). Assumes nothing.
use Rattle.std.specs.Prelude.{ℕ, zero, suc, ◌-◌, List, [], ◌∷◌, Bool, true, false, cond, length, get_or}
use Prim.Native.Char.{Char, code}
use Rattle.laws.specs.Truth.{from, one_of}
use Rattle.laws.specs.Text.{codes}
use Rattle.forms.specs.declared.lines.Line.{Line}

-- a row: the type of the poll, T0 while it is reduced and T0 (the same where it never is), and whether A carries the key position (on line 3)
abbrev pub line_row : Char → ℕ → ℕ → Bool → Line
line_row poll reduced t0 keyed = record { poll = code poll; reduced = reduced; t0 = t0; keyed = keyed }

-- ATC-TC asks cyclically with r, at the general 20,000, and t is suppressed (001 sections 6.2, 6.9);
-- ATC-MSR3 asks cyclically with r, and uses T0 = 5 seconds in place of the general one (001 section 7.3);
-- MSR3-TC sends t, and reduces T0 from 20 seconds to 10 so long as no A has said that the key is in position Operation (001 section 8.6)
abbrev pub lines : List Line
lines =
    line_row "r" 20000 20000 false ∷
    line_row "r" 5000 5000 false ∷
    line_row "t" 10000 20000 true ∷
    []

-- what stands for the row where there is no such line
abbrev pub no_line : Line
no_line = record { poll = 0; reduced = 0; t0 = 0; keyed = false }

-- lines have the numbers from 1 on (refusal 15: line is not 1, 2 or 3)
abbrev pub is_line : ℕ → Bool
is_line line = from 1 (length lines) line

-- the row of a line
unfoldable pub line_of : ℕ → Line
line_of line = cond (is_line line) (get_or lines (line - 1) no_line) no_line

-- n numbers from i on
abbrev pub up_from : ℕ → ℕ → List ℕ
up_from i zero = []
up_from i (suc n) = i ∷ up_from (suc i) n

-- the numbers of the lines
abbrev pub line_numbers : List ℕ
line_numbers = up_from 1 (length lines)

-- the key position is A, X or Y (001 section 8.8)
abbrev pub is_key : ℕ → Bool
is_key b = one_of (codes "AXY") b
