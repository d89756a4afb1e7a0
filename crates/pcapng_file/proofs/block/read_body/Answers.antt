use Rattle.std.proofs.Common.{rules, arith, ◌≡◌, length}
use Rattle.std.proofs.lemmas.Result.{err_from_is_err_and}
use Rattle.pcapng_file.proofs.BlockReads.{short_behind, body_read}
use Rattle.pcapng_file.proofs.block.read_body.Goals as goal

pub returns-in_err-pass-in-Packet-clause-octets : goal.returns-in_err-pass-in-Packet-clause-octets
returns-in_err-pass-in-Packet-clause-octets g c =
    let p = err_from_is_err_and c.from_residual-in_err-pass-in-Packet.result c.from_residual-in_err-pass-in-Packet.ensures.1 in
    let fits = rw c.in-Packet.is at c.requires.room in
    let size : length c.read_exact.new.buf ≡ c.in-Packet.stamp.size = search rules in
    rw (p.1, p.2) (short_behind _ _ _ c.read_exact.new.buf _ _ _ c.in_ok-read_exact-in-Packet.ensures.octets c.in_err-pass-in-Packet.ensures.octets (omega (arith, fits.0)))

pub returns-in_ok-pass-in-Packet-clause-octets : goal.returns-in_ok-pass-in-Packet-clause-octets
returns-in_ok-pass-in-Packet-clause-octets g c =
    let fits = rw c.in-Packet.is at c.requires.room in
    let size : length c.read_exact.new.buf ≡ c.in-Packet.stamp.size = search rules in
    rw c.in-Packet.is (body_read _ _ _ _ _ c.in-Packet.stamp _ _ c.read_exact.new.buf _ c.in_ok-read_exact-in-Packet.ensures.octets size c.in_ok-pass-in-Packet.ensures.octets (omega (arith, fits.0)))
