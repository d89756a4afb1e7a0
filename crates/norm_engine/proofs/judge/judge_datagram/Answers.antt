use Rattle.std.proofs.Common.{◌≡◌, ◌≢◌, ◌==◌, rules, sym, ap, subst, ◌∙◌, arith}
use Rattle.norm_settings.specs.SettingValues.{plain_settings}
use Rattle.icmp_codec.specs.QuotedPacket.{quoted_in}
use Rattle.ip_rules.specs.Datagrams.{datagram_with}
use Rattle.dgram_rules.specs.JudgedDatagram.{udp_judged, icmp_judged}
use Rattle.norm_engine.specs.Trace.{is_quoted_live}
use Rattle.norm_engine.specs.working.DatagramJudgment.{judged_with}
use Rattle.norm_engine.specs.working.EngineAnswers as spec
use Rattle.norm_engine.proofs.Layers.{by_tells, by_header, tells_of, six_is_left, no_head, read_head}
use Rattle.norm_engine.proofs.judge.judge_datagram.Goals as goal

pub returns-in-17-clause-rows : goal.returns-in-17-clause-rows
returns-in-17-clause-rows c = λ calls header stands.
    let settings = plain_settings c.args.settings.now in
    let live = is_quoted_live calls (quoted_in c.args.packet.now.payload.now) in
    let d = datagram_with header c.args.packet.now in
    let is : c.args.packet.now.head.protocol ≡ 17 = search rules in
    subst (spec.Follows settings live d) (sym (c.of_rows.ensures c.args.head.now ∙ ap spec.of_rows (c.judge_udp.ensures header)))
    (by_tells settings live d (udp_judged settings d) (ap (λ n. n == 6) is) (tells_of settings live d 17 is (c.datagrams_tell_the_rows.ensures settings live d)))

pub returns-in-1-clause-rows : goal.returns-in-1-clause-rows
returns-in-1-clause-rows c = λ calls header stands.
    let settings = plain_settings c.args.settings.now in
    let live = is_quoted_live calls (quoted_in c.args.packet.now.payload.now) in
    let d = datagram_with header c.args.packet.now in
    let is : c.args.packet.now.head.protocol ≡ 1 = search rules in
    let judged = c.judge_icmp.ensures header ∙ ap (λ b. icmp_judged settings b d) (c.quotes_live-live.ensures settings calls stands) in
    subst (spec.Follows settings live d) (sym (c.of_rows-in-1.ensures c.args.head.now ∙ ap spec.of_rows judged))
    (by_tells settings live d (icmp_judged settings live d) (ap (λ n. n == 6) is) (tells_of settings live d 1 is (c.datagrams_tell_the_rows.ensures settings live d)))

pub returns-in_default-clause-rows : goal.returns-in_default-clause-rows
returns-in_default-clause-rows c = λ calls header stands.
    let settings = plain_settings c.args.settings.now in
    let live = is_quoted_live calls (quoted_in c.args.packet.now.payload.now) in
    let d = datagram_with header c.args.packet.now in
    let udp : d.head.protocol ≢ 17 = λ e. omega (arith, e) in
    let icmp : d.head.protocol ≢ 1 = λ e. omega (arith, e) in
    by_header settings live d (judged_with c.read_segment.new.head c.read_segment.result) (six_is_left d.head.protocol c.requires.known udp icmp) (c.others_have_no_row.ensures settings live d udp icmp).0 (c.read_segment.ensures header)

pub returns-in-17-clause-read : goal.returns-in-17-clause-read
returns-in-17-clause-read c = λ header. subst (spec.HeadIsRead (datagram_with header c.args.packet.now)) (sym (c.of_rows.ensures c.args.head.now)) (no_head (datagram_with header c.args.packet.now) c.judge_udp.result)

pub returns-in-1-clause-read : goal.returns-in-1-clause-read
returns-in-1-clause-read c = λ header. subst (spec.HeadIsRead (datagram_with header c.args.packet.now)) (sym (c.of_rows-in-1.ensures c.args.head.now)) (no_head (datagram_with header c.args.packet.now) c.judge_icmp.result)

pub returns-in_default-clause-read : goal.returns-in_default-clause-read
returns-in_default-clause-read c = λ header. read_head (plain_settings c.args.settings.now) (datagram_with header c.args.packet.now) (judged_with c.read_segment.new.head c.read_segment.result) (c.read_segment.ensures header)
