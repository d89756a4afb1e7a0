use Rattle.std.proofs.Common.{rules, arith, sym, ◌∙◌}
use Rattle.std.proofs.lemmas.Result.{err_from_is_err_and}
use Rattle.pcap_file.proofs.Records.{whole}
use Rattle.pcapng_file.proofs.Fronts.{stops_many, stops_front}
use Rattle.pcapng_file.proofs.Bodies.{ends_here, head_short, block_short, block_taken}
use Rattle.pcapng_file.proofs.block.read_block.Goals as goal

pub returns-in-Some-clause-octets : goal.returns-in-Some-clause-octets
returns-in-Some-clause-octets g c =
    let fills = c.in_ok-count.ensures.octets in
    ends_here _ _ _ _ c.read_behind.new.buf _ fills.1 (fills.2 (omega arith)) c.if-count-eq0.true _ c.in-Some.is

pub returns-in-None-clause-octets : goal.returns-in-None-clause-octets
returns-in-None-clause-octets g c =
    let fills = c.in_ok-count.ensures.octets in
    head_short _ _ _ _ c.read_behind.new.buf c.in_ok-count.count fills.1 fills.0 (fills.2 (omega arith)) (omega arith) (λ none. c.in-None.is)

pub returns-then-count-lt12-clause-octets : goal.returns-then-count-lt12-clause-octets
returns-then-count-lt12-clause-octets g c =
    let fills = c.in_ok-count.ensures.octets in
    head_short _ _ _ _ c.read_behind.new.buf c.in_ok-count.count fills.1 fills.0 (fills.2 (omega arith)) c.if-count-lt12.true (λ none. absurd (omega (arith, c.if-count-eq0.false)))

pub returns-then-standing-clause-octets : goal.returns-then-standing-clause-octets
returns-then-standing-clause-octets g c =
    stops_many _ _ c.read_behind.new.buf (search rules) _ _ (whole _ _ c.read_behind.new.buf c.in_ok-count.count (omega arith) c.in_ok-count.ensures.octets.1) c.if-standing.true

pub returns-in_err-front-clause-octets : goal.returns-in_err-front-clause-octets
returns-in_err-front-clause-octets g c =
    let p = err_from_is_err_and c.from_residual-in_err-front.result c.from_residual-in_err-front.ensures.1 in
    rw (p.1, p.2) (stops_front _ _ _ _ c.read_behind.new.buf _ (search rules) (whole _ _ c.read_behind.new.buf c.in_ok-count.count (omega arith) c.in_ok-count.ensures.octets.1) c.if-standing.false
    (sym c.front_of.ensures ∙ c.in_err-front.was))

pub returns-in_err-found-clause-octets : goal.returns-in_err-found-clause-octets
returns-in_err-found-clause-octets g c =
    let p = err_from_is_err_and c.from_residual-in_err-found.result c.from_residual-in_err-found.ensures.1 in
    rw (p.1, p.2) (block_short _ _ c.in_ok-front.front c.read_behind.new.buf (search rules) c.if-standing.false (sym c.front_of.ensures ∙ c.in_ok-front.was) _ _ _ _
    (whole _ _ c.read_behind.new.buf c.in_ok-count.count (omega arith) c.in_ok-count.ensures.octets.1) c.in_err-found.ensures.octets)

pub returns-clause-octets : goal.returns-clause-octets
returns-clause-octets g c =
    block_taken _ _ c.in_ok-front.front c.read_behind.new.buf (search rules) c.if-standing.false (sym c.front_of.ensures ∙ c.in_ok-front.was) _ _ _ _ _
    (whole _ _ c.read_behind.new.buf c.in_ok-count.count (omega arith) c.in_ok-count.ensures.octets.1) (search rules) c.in_ok-found.ensures.octets
