use Rattle.std.proofs.Common.{◌≡◌, length, refl, arith}
use Rattle.tcp_norm.proofs.inbound.stream.look.Goals as goal

pub returns-clause-whole : goal.returns-clause-whole
returns-clause-whole c so =
    let none : length c.args.own.now ≡ 0 = omega (arith, c.requires.long) in
    record {
      covers = λ i lt. absurd (omega (arith, none));
      none_missing = rw none refl;
    }

pub returns-clause-agrees : goal.returns-clause-agrees
returns-clause-agrees c so i lt = absurd (omega (arith, c.requires.long))
