-- The judgment of a complete datagram, with the header of its segment.
use Rattle.tcp_codec.specs.declared.header.Tcp.{Tcp}
use Rattle.rule_book.specs.declared.rule.Rule.{Rule}
use Rattle.norm_engine.specs.declared.judge.Answer.{Answer}
use Rattle.norm_engine.specs.declared.judge.Answer.TheVariants as answers

-- no rule holds; the UDP checksum is corrected; a rule drops it; or it is a TCP segment with this
-- header
pub data Judged : Type 0 where
  Pass : Judged
  Mend : Judged
  Drop : Rule → Judged
  Segment : Tcp → Judged

-- the judgment of this answer, with this header
abbrev pub judged_with : Tcp → Answer → Judged
judged_with head answers.Pass = Pass
judged_with head answers.Mend = Mend
judged_with head (answers.Drop rule) = Drop rule
judged_with head answers.Segment = Segment head
