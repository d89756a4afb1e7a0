use Rattle.std.proofs.Common.{◌≡◌, rules}
use Rattle.udp_codec.specs.WrittenChecksum.{mended}
use Rattle.udp_codec.proofs.Mended.{sum_is_right-mended}
use Rattle.udp_codec.proofs.checksum.mend.Goals as goal

pub returns-clause-right : goal.returns-clause-right
returns-clause-right c =
    let exact : c.put_u16-2.new.bytes ≡ mended c.args.pseudo c.args.bytes.now = search rules in
    rw exact (sum_is_right-mended c.args.pseudo c.args.bytes.now c.requires)
