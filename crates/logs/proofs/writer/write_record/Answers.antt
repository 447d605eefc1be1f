-- `write_record` puts a record that is permitted and has room. Assumes nothing.
use Rattle.std.proofs.Common.{sym, ◌∙◌, arith}
use Rattle.logs.specs.Records.{log_record}
use Rattle.logs.proofs.Written.{whole}
use Rattle.logs.proofs.writer.write_record.Goals as goal

pub returns : goal.returns
returns c =
    let a = c.args in
    whole (log_record a.mark a.time a.bytes.now) a.out.now (sym c.may_have.ensures ∙ c.if-not-may_have.false) (omega arith) _ _ c.put_record.ensures
