use Rattle.tcp_codec.proofs.CleanedAreas.{cleans_octets, cleans_once, stays_well_formed}
use Rattle.tcp_codec.proofs.laws.options_are_cleaned.Goals as goal

pub returns-clause-once : goal.returns-clause-once
returns-clause-once c = cleans_once

pub returns-clause-formed : goal.returns-clause-formed
returns-clause-formed c = stays_well_formed

pub returns-clause-octets : goal.returns-clause-octets
returns-clause-octets c = cleans_octets
