-- What becomes of a datagram, and the one call that it makes after the calls before (this project's
-- profile).
use Rattle.std.specs.Prelude.{ℕ, ◌&&◌, ◌||◌, not, List, [], ◌∷◌, ◌++◌, Option, Some, None, if◌then◌else◌}
use Rattle.std.specs.Option.{option_or}
use Rattle.wire_base.specs.Tcp as tcp
use Rattle.wire_base.specs.Segments.{Written}
use Rattle.era_state.specs.Quantities.{octets_of}
use Rattle.rule_book.specs.declared.rule.Rule.{Rule}
use Rattle.rule_book.specs.declared.entry.Ended.{Ended}
use Rattle.rule_book.specs.declared.entry.Reason.{Reason}
use Rattle.rule_book.specs.declared.entry.Reason.TheVariants as reasons
use Rattle.rule_book.specs.declared.entry.Verdict.{Verdict}
use Rattle.rule_book.specs.declared.entry.Verdict.TheVariants as verdicts
use Rattle.norm_settings.specs.SettingValues.{PlainSettings}
use Rattle.ip_rules.specs.Datagrams.{Datagram}
use Rattle.tcp_norm.specs.Calls.{Call, expiry, datagram, Outcome, segment_in}
use Rattle.tcp_norm.specs.RuleViews.{View, view_of, idle_at}
use Rattle.tcp_norm.specs.RuleRows.{begins, reopens, t_full, dropped_by, mended_by, noted}
use Rattle.tcp_norm.specs.EmittedPackets.{probe_dropped, probe_packets, packets_passed}

-- fix where a rule rewrites it, else pass
abbrev pub verdict_of : List Rule → Verdict
verdict_of [] = verdicts.Pass
verdict_of (rule ∷ more) = verdicts.Fix

-- an era of this number of octets that ends for this reason, if there is one
abbrev pub ends : Option ℕ → (octets : ℕ) → Reason → List Ended
ends None octets reason = []
ends (Some era) octets reason = record { era = era; reason = reason; octets = Some octets } ∷ []

-- the era that begins with the segment, if one does
abbrev pub begun_with : View → Written → Option ℕ
begun_with v w = if (begins v w && not (t_full v w)) || reopens v w then Some v.next else None

-- The eras that end with it, with their octets before it: the one of the same connection, where it
-- begins another; the one whose slot a new one needs. Also the one that an outbound RST ends.
abbrev pub ended_with : View → Written → List Ended
ended_with v w =
    if reopens v w then ends v.era (octets_of v.segments) reasons.Reopened
    else if begins v w && v.is_full then ends v.evictable v.evictable_octets reasons.Evicted
    else if not w.inward && tcp.has_rst w.flags then ends v.era (octets_of v.segments) reasons.Reset
    else []

-- the outcome of a datagram that a rule drops: it names the era that is live, if one is, and so
-- none under T_COLD and T_FULL
abbrev pub outcome_dropped : PlainSettings → View → Datagram → Rule → Outcome
outcome_dropped settings v d rule =
    record {
      verdict = verdicts.Drop;
      rules = rule ∷ [];
      era = v.era;
      begun = None;
      ended = [];
      packets = probe_packets settings d (probe_dropped v d rule);
    }

-- the outcome of one that no rule drops, rewritten by these rules
abbrev pub outcome_passed : PlainSettings → View → Datagram → (mended : List Rule) → Outcome
outcome_passed settings v d mended =
    let w = segment_in d in
    record {
      verdict = verdict_of (d.fixes ++ mended);
      rules = noted v d ++ d.fixes ++ mended;
      era = option_or (begun_with v w) v.era;
      begun = begun_with v w;
      ended = ended_with v w;
      packets = packets_passed settings v d mended;
    }

abbrev pub outcome_by : PlainSettings → View → Datagram → Option Rule → (mended : List Rule) → Outcome
outcome_by settings v d (Some rule) mended = outcome_dropped settings v d rule
outcome_by settings v d None mended = outcome_passed settings v d mended

-- what becomes of a datagram, by what its rules ask
abbrev pub outcome_at : PlainSettings → View → Datagram → Outcome
outcome_at settings v d = outcome_by settings v d (dropped_by settings v d) (mended_by settings v d)

-- the one call of a datagram at this time
abbrev pub call_of : PlainSettings → List Call → (now : ℕ) → Datagram → Call
call_of settings cs now d = datagram now d (outcome_at settings (view_of settings cs d) d)

-- the one call that ends idle eras at this time
abbrev pub expiry_of : PlainSettings → List Call → (now : ℕ) → Call
expiry_of settings cs now = expiry now (idle_at settings now cs)
