use Rattle.std.proofs.Common.{rules, arith, refl, Option}
use Rattle.pcapng_file.specs.declared.content.Found.{Found}
use Rattle.pcapng_file.proofs.Bodies.{stops_told, told_not_read}
use Rattle.pcapng_file.proofs.BlockReads.{looks_at, no_fault}
use Rattle.pcapng_file.proofs.reader.NgReader.look.Goals as goal

pub returns-in-Fails-clause-octets : goal.returns-in-Fails-clause-octets
returns-in-Fails-clause-octets g c =
    let block = rw (c.in-Some.is, c.octets_of-inside.ensures.value) at c.in_ok-block.ensures.octets in
    let flawed = rw c.in-Fails.is at block in
    rw (← c.self.view_is) (record {
      moves = record { inside = refl; sections = refl; place = omega arith; looked = refl; goes_on = refl };
      why = stops_told _ _ _ _ _ _ _ _ flawed;
    })

pub returns-in-Fails-clause-cause : goal.returns-in-Fails-clause-cause
returns-in-Fails-clause-cause g c =
    let block = rw (c.in-Some.is) at c.in_ok-block.ensures.octets in
    let flawed = rw c.in-Fails.is at block in
    λ failed. absurd (told_not_read (Option Found) c.in-Fails.fault flawed.sound failed)

pub returns : goal.returns
returns g c =
    let block = rw (c.in-Some.is, c.octets_of-inside.ensures.value) at c.in_ok-block.ensures.octets in
    rw (← c.self.view_is) (record {
      octets = looks_at _ _ _ _ c.in-Some.block.order c.in-Some.block.size _ c.in-Some.block.found (no_fault _ c.in_default-found.not-Fails) block refl c.settle.ensures (omega arith) refl refl c.self.invariant.1;
      later = search rules;
      kept = search rules;
      cause = search rules;
    })
