use Rattle.std.proofs.Common.{rules, arith, ◌≡◌, ◌<◌, ◌≤◌, length, take, drop, length-append, length-drop}
use Rattle.pcapng_file.proofs.BlockReads.{kept_taken}
use Rattle.pcapng_file.proofs.ahead.AheadSource.fetch.Goals as goal

pub returns-clause-octets : goal.returns-clause-octets
returns-clause-octets g c =
    let kept = c.args.self.now.kept.now in
    let some : 0 < length kept = search rules in
    let within : c.min-count.result ≤ length kept = search rules in
    let room : c.min-count.result ≤ length c.args.buf.now = search rules in
    let got : c.copy_from_slice.new.self ≡ take c.min-count.result kept = search rules in
    let long : length c.copy_from_slice.new.self ≡ c.min-count.result = search rules in
    let size = length-append c.copy_from_slice.new.self (drop c.min-count.result c.args.buf.now) in
    let rest = length-drop c.min-count.result c.args.buf.now in (
      omega arith,
      kept_taken _ kept c.copy_from_slice.new.self _ c.min-count.result got within,
      λ none more. absurd (omega (arith, c.min-count.ensures)),
    )
