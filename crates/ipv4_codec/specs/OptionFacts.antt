-- Facts about the option area of an IPv4 header (RFC 791 section 3.1).
use Rattle.std.specs.Prelude.{ℕ, nat_lt, List, length, Result, Ok, Err, if◌then◌else◌}
use Rattle.wire_base.specs.Options.{are_well_formed, has_route}
use Rattle.ipv4_codec.specs.declared.header.OptionFacts.{OptionFacts}
use Rattle.ipv4_codec.specs.declared.header.BadOption.{BadOption}

-- BadOption exactly if the options are not well formed; else whether the area has octets, and
-- whether it has a source route before the end option
abbrev pub facts_of : List ℕ → Result OptionFacts BadOption
facts_of area =
    if are_well_formed area then Ok (record { some = nat_lt 0 (length area); route = has_route area })
    else Err (record {})
