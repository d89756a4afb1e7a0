use Rattle.std.proofs.Common.{◌+◌}
use Rattle.wire_base.specs.Numbers.{with_u16}
use Rattle.wire_base.specs.Checksums.{word_sum, checksum_for}
use Rattle.tcp_codec.proofs.Segments.{says_the_same}
use Rattle.tcp_codec.proofs.laws.mended_say_the_same.Goals as goal

pub returns : goal.returns
returns c pseudo segment long words = says_the_same (checksum_for (pseudo + word_sum (with_u16 segment 16 0))) segment long words
