use Rattle.std.proofs.Common.{rules, ◌≡◌, length, arith}
use Rattle.std.proofs.lemmas.Result.{err_from_is_err_and}
use Rattle.pcapng_file.proofs.BlockReads.{count_short, count_more}
use Rattle.pcapng_file.proofs.take.pass.Goals as goal

pub returns-in_err-read_exact-clause-octets : goal.returns-in_err-read_exact-clause-octets
returns-in_err-read_exact-clause-octets g c =
    let p = err_from_is_err_and c.from_residual.result c.from_residual.ensures.1 in
    let size : length c.read_exact.new.buf ≡ c.min-size.result = search rules in
    rw (p.1, p.2) (count_short _ _ _ _ _ _ _ c.loop-left.invariant.taken c.in_err-read_exact.ensures.octets (omega (arith, size, c.min-size.ensures, c.loop-left.invariant.within)))

pub loop-left-preserved : goal.loop-left-preserved
loop-left-preserved g c =
    let size : length c.read_exact.new.buf ≡ c.min-size.result = search rules in
    record {
      within = search rules;
      taken = count_more _ _ _ _ _ c.read_exact.new.buf c.loop-left.invariant.taken c.in_ok-read_exact.ensures.octets (omega (arith, size, c.min-size.ensures, c.loop-left.invariant.within));
      counted = search rules;
    }
