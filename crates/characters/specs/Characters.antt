-- The limited character set (rule B7; 001 section 5.3.1), whose last six characters are read by DS 2089. Assumes nothing.
use Rattle.std.specs.Prelude.{ℕ, Bool, eqb}
use Prim.Native.Char.{code}
use Rattle.laws.specs.Truth.{either, from}

-- one test holds, or the other
infixl 20 ◌or◌
abbrev ◌or◌ : Bool → Bool → Bool
a or b = either a b

-- the ranges of the set, in the order in which the standard's table lists them; its row ^ has no code and is none of them
unfoldable pub in_set : ℕ → Bool
in_set b =
    eqb b (code "%")  -- percent
    or from (code "(") (code ")") b  -- brackets
    or eqb b (code "-")  -- minus
    or eqb b (code ":")  -- colon
    or eqb b (code "+")  -- plus
    or from (code "0") (code "9") b  -- digits
    or from (code "A") (code "Z") b  -- capitals
    or eqb b (code " ")  -- space
    or from (code "a") (code "z") b  -- small letters
    or from 0x7B 0x7D b  -- æ ø å
    or from 0x5B 0x5D b  -- Æ Ø Å
