use Rattle.std.proofs.Common.{◌≡◌, ◌+◌, length, drop, ap, ◌∙◌, sym, length-take-le}
use Rattle.ipv4_codec.specs.HeaderFields.{fields_of}
use Rattle.ipv4_codec.specs.WrittenHeader.{octets_of, plain_fields}
use Rattle.ipv4_codec.proofs.PlainHeaders.{with_u16-octets_of, fields_of-checksum}
use Rattle.ipv4_codec.proofs.write.write_plain.Goals as goal

pub copy_from_slice-requires : goal.copy_from_slice-requires
copy_from_slice-requires c =
    let whole : length c.put_u16.new.bytes ≡ 20 = c.put_u16.auto.bytes ∙ ap length c.without_sum-header.ensures.exact in
    length-take-le 20 c.args.buf.now c.requires.room ∙ sym whole

pub returns-clause-fields : goal.returns-clause-fields
returns-clause-fields c =
    let without : fields_of (octets_of c.args.head.now (20 + c.args.payload) 0) ≡ plain_fields c.args.head.now c.args.payload 0 = rw c.without_sum-header.ensures.exact at c.without_sum-header.ensures.fields in
    let header = with_u16-octets_of c.args.head.now c.args.payload _ _ _ c.without_sum-header.ensures.exact c.sum_for-sum.ensures (c.copy_from_slice.ensures.after ∙ c.put_u16.ensures) in
    rw header (fields_of-checksum c.args.head.now c.args.payload _ (drop 20 c.args.buf.now) without)
