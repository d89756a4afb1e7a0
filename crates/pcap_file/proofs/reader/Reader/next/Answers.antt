use Rattle.std.proofs.Common.{rules, arith, length, ◌≡◌, refl}
use Rattle.std.proofs.lemmas.Result.{err_from_is_err_and}
use Rattle.pcap_file.proofs.Records.{whole, short_stop, long_stop, many_stop, cut_stop, leaves_record, part_behind_head}
use Rattle.pcap_file.proofs.reader.Reader.next.Goals as goal

pub returns-then-count-lt16-clause-octets : goal.returns-then-count-lt16-clause-octets
returns-then-count-lt16-clause-octets g c =
    let fills = c.in_ok-count.ensures.octets in
    short_stop _ _ _ _ c.read_full.new.buf c.in_ok-count.count c.if-count-eq0.false c.if-count-lt16.true fills.0 fills.1 (fills.2 (omega arith))

pub returns-then-size-gt-MAX_CAPTURED-clause-octets : goal.returns-then-size-gt-MAX_CAPTURED-clause-octets
returns-then-size-gt-MAX_CAPTURED-clause-octets g c =
    rw (← c.self.view_is) (long_stop _ c.read_full.new.buf c.u32_at-size.result (search rules) c.u32_at-size.ensures _ _ _
    (whole _ _ c.read_full.new.buf c.in_ok-count.count (omega arith) c.in_ok-count.ensures.octets.1) (omega arith))

pub returns-then-self-clause-octets : goal.returns-then-self-clause-octets
returns-then-self-clause-octets g c =
    rw (← c.self.view_is) (many_stop _ c.read_full.new.buf c.u32_at-size.result (search rules) c.u32_at-size.ensures _ _ _
    (whole _ _ c.read_full.new.buf c.in_ok-count.count (omega arith) c.in_ok-count.ensures.octets.1) (omega arith) (search rules))

pub returns-in_err-got-clause-octets : goal.returns-in_err-got-clause-octets
returns-in_err-got-clause-octets g c =
    let p = err_from_is_err_and c.from_residual-in_err-got.result c.from_residual-in_err-got.ensures.1 in
    let body_size : length c.read_full-2.new.buf ≡ c.u32_at-size.result = search rules in
    let taken = c.in_err-got.ensures.octets in
    rw (p.1, p.2, ← c.self.view_is) (part_behind_head _ c.read_full.new.buf c.u32_at-size.result (search rules) c.u32_at-size.ensures _ _ _
    (whole _ _ c.read_full.new.buf c.in_ok-count.count (omega arith) c.in_ok-count.ensures.octets.1) (taken.0, taken.1, omega (arith, taken.2)))

pub returns-then-got-size-clause-octets : goal.returns-then-got-size-clause-octets
returns-then-got-size-clause-octets g c =
    let fills = c.in_ok-got.ensures.octets in
    let body_size : length c.read_full-2.new.buf ≡ c.u32_at-size.result = search rules in
    rw (← c.self.view_is) (cut_stop _ c.read_full.new.buf c.u32_at-size.result (search rules) c.u32_at-size.ensures _ _ _ _ c.read_full-2.new.buf c.in_ok-got.got
    (whole _ _ c.read_full.new.buf c.in_ok-count.count (omega arith) c.in_ok-count.ensures.octets.1) (omega arith) (search rules)
    fills.1 fills.0 c.if-got-size.true (fills.2 (omega arith)))

pub returns-clause-octets : goal.returns-clause-octets
returns-clause-octets g c =
    let body_size : length c.read_full-2.new.buf ≡ c.u32_at-size.result = search rules in
    rw (← c.self.view_is) (leaves_record _ c.read_full.new.buf c.u32_at-size.result (search rules) c.u32_at-size.ensures _ _ _ _ c.read_full-2.new.buf _
    (whole _ _ c.read_full.new.buf c.in_ok-count.count (omega arith) c.in_ok-count.ensures.octets.1) (omega arith) (search rules)
    (whole _ _ c.read_full-2.new.buf c.in_ok-got.got (omega arith) c.in_ok-got.ensures.octets.1) body_size
    (rw (c.new.ensures.fields, c.u32_at-seconds.ensures, c.u32_at-fraction.ensures, c.u32_at-original.ensures) refl))
