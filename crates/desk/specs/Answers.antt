-- What the desk's calls that hear nothing answer, in the paper's numbers and values (rules D2 to D4). Assumes nothing.
use Rattle.std.specs.Prelude.{Bool, true, false, Result, Ok, Err}
use Rattle.records.specs.Refusals.{No, refusal_of}
use Rattle.records.specs.declared.refusals.Refusal.{Refusal}

-- done; done, with the line noted lost; or a refusal
pub data Done : Type 0 where
  done : Done
  lost : Done
  refused : No → Done

abbrev pub done_of : Result Bool Refusal → Done
done_of (Ok false) = done
done_of (Ok true) = lost
done_of (Err x) = refused (refusal_of x)
