-- A section of a pcapng file that has no interface so far (this project's profile).
use Rattle.std.specs.Prelude.{◌≡◌, List, [], Option, Some, None}
use Rattle.wire_base.specs.declared.address.Link.{Link}
use Rattle.pcapng_file.specs.declared.interface.Interface.{Interface}

-- if the file had no interface so far, the section has none
abbrev pub IsUnlinked : Option Link → List Interface → Type 0
IsUnlinked None interfaces = interfaces ≡ []
IsUnlinked (Some link) interfaces = Unit {0}
