use Rattle.std.proofs.Common.{refl, sym, ap, ◌∙◌, Some, None, Ok, Err, if◌then◌else◌}
use Rattle.norm_settings.specs.SettingValues.{plain_settings}
use Rattle.ip_rules.specs.RuleRows.{side_in, tells_side}
use Rattle.ip_rules.proofs.Rules.{faulty_row, late_row, side_told, fault_is_early, address_is_early, content_is_late}
use Rattle.ip_rules.proofs.rows.judge_packet.Goals as goal

pub returns-in-Err : goal.returns-in-Err
returns-in-Err c = (
  faulty_row (plain_settings c.args.settings.now) c.args.given c.args.octets.now c.in-Err.fault (sym c.in-Err.ensures.exact) ∙ ap Some (sym c.rule_of.ensures),
  sym (ap (λ tells. if tells then side_in (plain_settings c.args.settings.now) c.args.given c.args.octets.now else None) (ap tells_side c.rule_of.ensures ∙ fault_is_early c.in-Err.fault)),
)

pub returns-in-Err-side_or_row : goal.returns-in-Err-side_or_row
returns-in-Err-side_or_row c = (
  late_row (plain_settings c.args.settings.now) c.args.given c.args.octets.now c.parse_into.new.head (Err c.in-Err-side_or_row.rule) (sym c.in_default.ensures.exact) (sym c.in-Err-side_or_row.is ∙ c.side_or_row.ensures),
  sym (ap (λ tells. if tells then side_in (plain_settings c.args.settings.now) c.args.given c.args.octets.now else None)
      (address_is_early (plain_settings c.args.settings.now) c.args.given c.parse_into.new.head c.in-Err-side_or_row.rule (sym c.in-Err-side_or_row.is ∙ c.side_or_row.ensures))),
)

pub returns-in-Some : goal.returns-in-Some
returns-in-Some c =
    let found = sym c.content_row.ensures ∙ c.in-Some.is in (
      late_row (plain_settings c.args.settings.now) c.args.given c.args.octets.now c.parse_into.new.head (Ok c.in-Ok.side) (sym c.in_default.ensures.exact) (sym c.in-Ok.is ∙ c.side_or_row.ensures) ∙ found,
      sym (ap (λ tells. if tells then side_in (plain_settings c.args.settings.now) c.args.given c.args.octets.now else None) (content_is_late c.args.octets.now c.in-Some.rule found)
          ∙ side_told (plain_settings c.args.settings.now) c.args.given c.args.octets.now c.parse_into.new.head c.in-Ok.side (sym c.in_default.ensures.exact) (sym c.in-Ok.is ∙ c.side_or_row.ensures)),
    )

pub returns : goal.returns
returns c =
    let told = sym c.in-Ok.is ∙ c.side_or_row.ensures in
    c.read_packet.ensures (plain_settings c.args.settings.now) c.args.given refl
    (late_row (plain_settings c.args.settings.now) c.args.given c.args.octets.now c.parse_into.new.head (Ok c.in-Ok.side) (sym c.in_default.ensures.exact) told ∙ sym c.content_row.ensures ∙ c.in_default-content_row.is)
    (side_told (plain_settings c.args.settings.now) c.args.given c.args.octets.now c.parse_into.new.head c.in-Ok.side (sym c.in_default.ensures.exact) told)
