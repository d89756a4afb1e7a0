use Rattle.std.proofs.Common.{Some}
use Rattle.rule_book.proofs.Entries.{octets_found}
use Rattle.rule_book.proofs.Lines.{none_or_some, same_some}
use Rattle.rule_book.proofs.found.ended_of.Goals as goal

pub returns-in_err-number_of-clause-value : goal.returns-in_err-number_of-clause-value
returns-in_err-number_of-clause-value c ended fits is =
    absurd (none_or_some c.in_err-number_of.was (c.number_of.ensures.value ended.era fits.era (c.parts_of.ensures ended fits is).era_is))

pub returns-in_err-of_word-clause-value : goal.returns-in_err-of_word-clause-value
returns-in_err-of_word-clause-value c ended fits is =
    absurd (none_or_some c.in_err-of_word.was (c.of_word.ensures ended.reason (c.parts_of.ensures ended fits is).reason_is))

pub returns-in_err-octets_of-clause-value : goal.returns-in_err-octets_of-clause-value
returns-in_err-octets_of-clause-value c ended fits is =
    absurd (none_or_some c.in_err-octets_of.was (octets_found _ c.octets_of.result ended.octets fits.octets (c.parts_of.ensures ended fits is).octets_is c.octets_of.ensures.none c.octets_of.ensures.value))

pub returns-clause-value : goal.returns-clause-value
returns-clause-value c ended fits is =
    let parts = c.parts_of.ensures ended fits is in
    let era = same_some c.in_ok-number_of.was (c.number_of.ensures.value ended.era fits.era parts.era_is) in
    let reason = same_some c.in_ok-of_word.was (c.of_word.ensures ended.reason parts.reason_is) in
    let octets = same_some c.in_ok-octets_of.was (octets_found _ c.octets_of.result ended.octets fits.octets parts.octets_is c.octets_of.ensures.none c.octets_of.ensures.value) in
    λ i. Some (record { era = era i; reason = reason i; octets = octets i })
