-- When an end's next tick does something, through the C face (include/in656.h; rules K6, F2, F3). Assumes nothing.
use Rattle.std.specs.Prelude.{List, ℕ}
use Rattle.clock.specs.Due.{When, refused, never, after}
use Rattle.desk.specs.Due as d
use Rattle.master.specs.Due as m
use Rattle.blocks.specs.Desks as ds
use Rattle.blocks.specs.Masters as ms
use Rattle.in656.specs.declared.results.result.In656Result.{In656Result}
use Rattle.in656.specs.Results.Result.{zeros, saying, refusing}

-- outcome: the tick after so many milliseconds does something
abbrev pub due_after : ℕ
due_after = 1

-- outcome 0 where none does
abbrev pub due_result : When → In656Result
due_result (refused x) = refusing x
due_result never = zeros
due_result (after n) = saying due_after n

abbrev pub desk_due : List ℕ → ℕ → In656Result
desk_due b time = due_result (d.due_of (ds.load_of b) time)

abbrev pub master_due : List ℕ → ℕ → In656Result
master_due b time = due_result (m.due_of (ms.load_of b) time)
