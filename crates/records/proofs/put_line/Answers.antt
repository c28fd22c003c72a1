-- The record, what it gives, and its line.
use Rattle.std.proofs.Common.{◌≡◌, subst}
use Rattle.verdict.specs.Refusal.{number}
use Rattle.records.specs.Records.{record_of, line_of}
use Rattle.records.specs.Steps.{count_of, value_of, fields, PutsLine}
use Rattle.records.proofs.put_line.Goals as goal

pub returns : goal.returns
returns c =
    let a = c.args in
    let x = c.answer.result in
    let same : fields c.from-record.result ≡ record_of a.bytes = c.from-record.ensures in
    record {
      number = number x;
      count = count_of x;
      value = value_of x;
      gives = rw same at c.answer.ensures.gives;
      line = subst (λ y. PutsLine (line_of y (number x) (count_of x) (value_of x)) a.out.now a.at c.put_fields.new.out c.put_fields.result) same c.put_fields.ensures;
    }
