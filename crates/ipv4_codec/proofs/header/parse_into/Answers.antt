use Rattle.std.proofs.Common.{◌≡◌, None, Ok, ap, sym, ◌∙◌, arith}
use Rattle.std.proofs.lemmas.Bool.Decides.{nat_tests}
use Rattle.wire_base.specs.ParseResults.{value_or_fault}
use Rattle.ipv4_codec.specs.HeaderFields.{fault_of, fields_of}
use Rattle.ipv4_codec.proofs.header.parse_into.Goals as goal

pub returns-clause-exact : goal.returns-clause-exact
returns-clause-exact c =
    let packet = c.args.bytes.now in
    let none : fault_of packet ≡ None = grind (arith, nat_tests) in
    ap Ok c.store_fields.ensures ∙ sym (ap (value_or_fault (fields_of packet)) none)

pub returns-clause-header : goal.returns-clause-header
returns-clause-header c = rw c.store_fields.ensures (omega arith, omega arith)

pub returns-clause-total : goal.returns-clause-total
returns-clause-total c = rw c.store_fields.ensures (omega arith, omega arith)
