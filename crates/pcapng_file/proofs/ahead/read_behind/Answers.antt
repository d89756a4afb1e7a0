use Rattle.std.proofs.Common.{rules, arith, ◌≡◌, ◌-◌, length, drop, ◌++◌, refl, sym, ap, length-append}
use Rattle.std.proofs.lemmas.Result.{err_from_is_err_and}
use Rattle.pcapng_file.proofs.BlockReads.{head_filled, head_fewer, front_kept}
use Rattle.pcapng_file.proofs.ahead.read_behind.Goals as goal

pub returns-in_err-more-clause-octets : goal.returns-in_err-more-clause-octets
returns-in_err-more-clause-octets g c =
    let p = err_from_is_err_and c.from_residual.result c.from_residual.ensures.1 in
    let got : c.copy_from_slice.new.self ≡ c.args.first.now = search rules in
    let whole = length-append c.copy_from_slice.new.self (drop (length c.args.first.now) c.args.buf.now) in
    let long = ap length got in
    let rest : length (drop (length c.args.first.now) c.args.buf.now) ≡ length (c.copy_from_slice.new.self ++ drop (length c.args.first.now) c.args.buf.now) - length c.args.first.now = omega (arith, whole, long) in
    let size : length c.read_full.new.buf ≡ length (c.copy_from_slice.new.self ++ drop (length c.args.first.now) c.args.buf.now) - length c.args.first.now = search rules in
    rw (p.1, front_kept _ _ _ c.read_full.new.buf _ _ got refl rest) (head_fewer _ _ _ _ _ c.in_err-more.ensures.octets (sym (length-append c.args.first.now c.read_full.new.buf)))

pub returns-clause-octets : goal.returns-clause-octets
returns-clause-octets g c =
    let got : c.copy_from_slice.new.self ≡ c.args.first.now = search rules in
    let whole = length-append c.copy_from_slice.new.self (drop (length c.args.first.now) c.args.buf.now) in
    let long = ap length got in
    let rest : length (drop (length c.args.first.now) c.args.buf.now) ≡ length (c.copy_from_slice.new.self ++ drop (length c.args.first.now) c.args.buf.now) - length c.args.first.now = omega (arith, whole, long) in
    let both = length-append c.args.first.now c.read_full.new.buf in
    let fills = c.in_ok-more.ensures.octets in
    rw (front_kept _ _ _ c.read_full.new.buf _ _ got refl rest) (omega (arith, both, fills.0), head_filled _ _ _ c.read_full.new.buf _ fills.1, λ few. fills.2 (omega (arith, both, few)))
