use Rattle.std.proofs.Common.{[], sym, subst}
use Rattle.norm_engine.specs.working.EngineAnswers as spec
use Rattle.norm_engine.specs.working.DatagramJudgment.{judged_with}
use Rattle.norm_engine.proofs.Judgments.{head_read}
use Rattle.norm_engine.proofs.judge.judge_whole.Goals as goal

pub returns-clause-read : goal.returns-clause-read
returns-clause-read c =
    let head = c.judge_datagram-answer.new.head in
    subst spec.SegmentIsRead (sym (c.joined.ensures head)) (head_read c.args.parsed.now.packet (judged_with head c.judge_datagram-answer.result) (c.judge_datagram-answer.ensures.read []))

pub returns-clause-rows : goal.returns-clause-rows
returns-clause-rows c = λ calls header stands.
    let head = c.judge_datagram-answer.new.head in
    record { answer = judged_with head c.judge_datagram-answer.result; follows = c.judge_datagram-answer.ensures.rows calls header stands; is = c.joined.ensures head }
