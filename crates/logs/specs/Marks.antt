-- The marks of log records, and how many bytes each may have (rules Q1, Q2). Assumes nothing.
use Rattle.std.specs.Prelude.{ℕ, Bool, cond, List, leb, eqb, Option, None, Some}
use Prim.Native.Char.{code}
use Rattle.laws.specs.Text.{codes}
use Rattle.characters.specs.Marks.{longest}
use Rattle.logs.specs.declared.marks.Mark.{Mark}
use Rattle.logs.specs.declared.marks.Mark.TheVariants.{Master, Slave, Hit}

-- M> a sending by the master, S> one by the slave, H! a hit
abbrev pub mark_bytes : Mark → List ℕ
mark_bytes Master = codes "M>"
mark_bytes Slave = codes "S>"
mark_bytes Hit = codes "H!"

-- the mark that two bytes are
unfoldable pub mark_of : ℕ → ℕ → Option Mark
mark_of left right =
    cond (eqb right (code ">"))
    (cond (eqb left (code "M")) (Some Master) (cond (eqb left (code "S")) (Some Slave) None))
    (cond (eqb right (code "!")) (cond (eqb left (code "H")) (Some Hit) None) None)

-- a hit has no bytes, any other record at most 66
abbrev pub may_have : Mark → ℕ → Bool
may_have Master n = leb n longest
may_have Slave n = leb n longest
may_have Hit n = eqb n 0
