-- The rules that rewrite an inbound segment, each with whether it holds.
use Rattle.std.specs.Prelude.{◌==◌, ◌||◌, not, Bool, List, [], ◌∷◌, ◌++◌}
use Rattle.wire_base.specs.Tcp as tcp
use Rattle.rule_book.specs.declared.rule.Rule.{Rule}
use Rattle.rule_book.specs.declared.rule.Rule.TheVariants as rules
use Rattle.tcp_codec.specs.declared.header.Tcp.{Tcp}
use Rattle.era_state.specs.declared.offset.Interval.{Interval}
use Rattle.ip_rules.specs.JudgedRecord.{where_holds}

-- the rules, and after them those of the others that hold
abbrev pub and_those : List Rule → List (Rule × Bool) → List Rule
and_those rows [] = rows
and_those rows (test ∷ more) = and_those (rows ++ where_holds test.1 test.0) more

-- those on the header, by its fields; `options` says whether options change
abbrev pub header_tests : Tcp → (options : Bool) → List (Rule × Bool)
header_tests head options =
    (rules.TRes, not (head.reserved == 0)) ∷ (rules.TUrg, tcp.has_urg head.flags.0 || not (head.urgent == 0)) ∷ (rules.TOpt, options) ∷ []

abbrev pub header_rows : Tcp → (options : Bool) → List Rule
header_rows head options = and_those [] (header_tests head options)

-- those on a segment of the stream, by the interval that is kept and whether an octet clashes; they
-- follow those on its header
abbrev pub stream_tests : Interval → (clash : Bool) → List (Rule × Bool)
stream_tests kept clash = (rules.TOld, kept.below) ∷ (rules.TWindow, kept.window) ∷ (rules.TEnd, kept.end) ∷ (rules.TClash, clash) ∷ []

abbrev pub stream_rows : (header : List Rule) → Interval → (clash : Bool) → List Rule
stream_rows header kept clash = and_those header (stream_tests kept clash)

-- those on one that brings no octet of the stream, by whether it carries octets and whether a probe
-- is sent; they follow those on its header
abbrev pub bare_tests : (loaded probe : Bool) → List (Rule × Bool)
bare_tests loaded probe = (rules.TStrip, loaded) ∷ (rules.CProbe, probe) ∷ []

abbrev pub bare_rows : (header : List Rule) → (loaded probe : Bool) → List Rule
bare_rows header loaded probe = and_those header (bare_tests loaded probe)
