use Rattle.std.proofs.Common.{sym, ◌∙◌}
use Rattle.pcap_file.specs.RecordReading.{shown}
use Rattle.ip_rules.proofs.Rules.{snapped, is_short, is_other, is_arp, is_long_arp, is_ip}
use Rattle.ip_rules.proofs.rows.judge_link.Goals as goal

pub returns-then-is_snapped : goal.returns-then-is_snapped
returns-then-is_snapped c = snapped c.args.link (shown c.args.input.now) (sym c.is_snapped.ensures ∙ c.if-is_snapped.true)

pub returns-in-Short : goal.returns-in-Short
returns-in-Short c = is_short c.args.link (shown c.args.input.now) (sym c.is_snapped.ensures ∙ c.if-is_snapped.false) (sym c.frame_kind.ensures ∙ c.in-Short.is)

pub returns-in-Arp : goal.returns-in-Arp
returns-in-Arp c = is_arp c.args.link (shown c.args.input.now) (sym c.is_snapped.ensures ∙ c.if-is_snapped.false) (sym c.frame_kind.ensures ∙ c.in-Arp.is) c.if-fits.true

pub returns-in-Arp-2 : goal.returns-in-Arp-2
returns-in-Arp-2 c = is_long_arp c.args.link (shown c.args.input.now) (sym c.is_snapped.ensures ∙ c.if-is_snapped.false) (sym c.frame_kind.ensures ∙ c.in-Arp-2.is) c.if-fits.false

pub returns-in-Other : goal.returns-in-Other
returns-in-Other c = is_other c.args.link (shown c.args.input.now) (sym c.is_snapped.ensures ∙ c.if-is_snapped.false) (sym c.frame_kind.ensures ∙ c.in-Other.is)

pub returns-in-Ip : goal.returns-in-Ip
returns-in-Ip c = is_ip c.args.link (shown c.args.input.now) c.in-Ip.at (sym c.is_snapped.ensures ∙ c.if-is_snapped.false) (sym c.frame_kind.ensures ∙ c.in-Ip.is)
