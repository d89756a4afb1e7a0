use Rattle.std.proofs.Common.{sym, ap, None, if◌then◌else◌}
use Rattle.wire_base.specs.Frames.{packet_in}
use Rattle.pcap_file.specs.RecordReading.{shown}
use Rattle.norm_settings.specs.SettingValues.{plain_settings}
use Rattle.ip_rules.specs.RuleRows.{side_in}
use Rattle.ip_rules.specs.JudgedRecord.{judged_with}
use Rattle.ip_rules.proofs.Rules.{dropped_early, link_is_early, arp_passes, judged_here}
use Rattle.ip_rules.proofs.rows.judge_ip_into.Goals as goal

pub returns-in-Row : goal.returns-in-Row
returns-in-Row c = (
  dropped_early (plain_settings c.args.settings.now) c.args.link (shown c.args.input.now) c.in-Row.rule c.in-Row.ensures,
  sym (ap (λ tells. if tells then side_in (plain_settings c.args.settings.now) c.args.input.now.side (packet_in c.args.link c.args.input.now.bytes.now) else None)
      (link_is_early c.args.link (shown c.args.input.now) c.in-Row.rule c.in-Row.ensures)),
)

pub returns-in-Arp : goal.returns-in-Arp
returns-in-Arp c = (arp_passes (plain_settings c.args.settings.now) c.args.link (shown c.args.input.now) c.in-Arp.ensures.0 c.in-Arp.ensures.1, c.in-Arp.ensures.1)

pub returns-in-Packet : goal.returns-in-Packet
returns-in-Packet c =
    judged_here (plain_settings c.args.settings.now) c.args.link (shown c.args.input.now) c.in-Packet.octets.now (judged_with c.judge_packet.new.packet c.judge_packet.result) c.in-Packet.ensures.0 c.in-Packet.ensures.1 c.in-Packet.ensures.2 c.judge_packet.ensures
