-- The frame of a datagram that is not a TCP segment (this project's profile): as read if no rule
-- rewrites it, otherwise with a rewritten header.
use Rattle.std.specs.Prelude.{ℕ, false, List, [], ◌∷◌, Option, Some, None, if◌then◌else◌}
use Rattle.udp_codec.specs.WrittenChecksum.{mended}
use Rattle.rule_book.specs.declared.rule.Rule.{Rule}
use Rattle.rule_book.specs.declared.rule.Rule.TheVariants as rules
use Rattle.norm_settings.specs.SettingValues.{PlainSettings}
use Rattle.ip_rules.specs.Datagrams.{Datagram, anew, frame_of}
use Rattle.dgram_rules.specs.RuleRows.{pseudo_of, holds_dgram}

-- the octets written after the header: as read, with the checksum corrected under U_SUM_OUT
abbrev pub octets_sent : PlainSettings → Datagram → List ℕ
octets_sent settings d = if holds_dgram settings false d rules.USumOut then mended (pseudo_of d) d.octets else d.octets

-- the frame with a rewritten header, after these link octets
abbrev pub mended_frame : PlainSettings → (link : List ℕ) → Datagram → List ℕ
mended_frame settings link d = frame_of link (anew settings d (octets_sent settings d))

-- the frame of a record that no rule drops: the one read, if these rules are none or it carries no
-- datagram
abbrev pub frame_by : PlainSettings → (link read : List ℕ) → Option Datagram → (named : List Rule) → List ℕ
frame_by settings link read None named = read
frame_by settings link read (Some d) [] = read
frame_by settings link read (Some d) (rule ∷ more) = mended_frame settings link d
