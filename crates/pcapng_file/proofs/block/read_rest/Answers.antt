use Rattle.std.proofs.Common.{rules, arith, ◌≡◌, ◌≤◌, ◌∙◌, length, sym, subst, length-append}
use Rattle.std.proofs.lemmas.Result.{err_from_is_err_and}
use Rattle.std.proofs.KnownBytes.{Consumes-trans}
use Rattle.pcapng_file.specs.declared.content.Content.{Content}
use Rattle.pcapng_file.specs.SectionState.{known}
use Rattle.pcapng_file.proofs.Contents.{IsPlaced, content_placed, more_fits}
use Rattle.pcapng_file.proofs.BlockReads.{short_behind}
use Rattle.pcapng_file.proofs.Fronts.{is_bigger}
use Rattle.pcapng_file.proofs.Bodies.{room_is, rest_bare, rest_closed, rest_unclosed, content_read}
use Rattle.pcapng_file.proofs.block.read_rest.Goals as goal

pub returns-then-front-eq12-clause-octets : goal.returns-then-front-eq12-clause-octets
returns-then-front-eq12-clause-octets g c =
    rw c.bare.ensures (rest_bare _ _ _ _ c.requires.begins (search rules) _ c.u32_at-last.result _ c.if-front-eq12.true c.u32_at-last.ensures c.if-last-ne12.false)

pub read_body-requires-clause-room : goal.read_body-requires-clause-room
read_body-requires-clause-room g c =
    let big : 16 ≤ c.args.front.size = is_bigger c.args.front.size c.requires.begins.sized c.if-front-eq12.false in
    let fits = more_fits c.args.front.kind c.args.front.size big in
    let placed : IsPlaced c.content_of-content.result (known c.args.standing.now) c.args.front.kind c.args.front.size =
    subst (λ (k : Content). IsPlaced k (known c.args.standing.now) c.args.front.kind c.args.front.size) (sym c.content_of-content.ensures) (content_placed (known c.args.standing.now) c.args.front.kind c.args.front.size _ _ _) in
    room_is c.content_of-content.result (known c.args.standing.now) c.args.front.kind c.args.front.size _ _ placed (omega (arith, c.more_of-more.ensures.value)) c.requires.room

pub returns-in_err-found-clause-octets : goal.returns-in_err-found-clause-octets
returns-in_err-found-clause-octets g c =
    let p = err_from_is_err_and c.from_residual-in_err-found.result c.from_residual-in_err-found.ensures.1 in
    let big : 16 ≤ c.args.front.size = is_bigger c.args.front.size c.requires.begins.sized c.if-front-eq12.false in
    let fits = more_fits c.args.front.kind c.args.front.size big in
    let long : length c.read_exact.new.buf ≡ c.more_of-more.result = search rules in
    rw (p.1, p.2) (short_behind _ _ _ c.read_exact.new.buf _ _ _ c.in_ok-read_exact.ensures.octets c.in_err-found.ensures.octets (omega (arith, c.more_of-more.ensures.value)))

pub returns-in_err-closed-clause-octets : goal.returns-in_err-closed-clause-octets
returns-in_err-closed-clause-octets g c =
    let p = err_from_is_err_and c.from_residual-in_err-closed.result c.from_residual-in_err-closed.ensures.1 in
    let big : 16 ≤ c.args.front.size = is_bigger c.args.front.size c.requires.begins.sized c.if-front-eq12.false in
    let fits = more_fits c.args.front.kind c.args.front.size big in
    let long : length c.read_exact.new.buf ≡ c.more_of-more.result = search rules in
    let body = c.in_ok-found.ensures.octets in
    rw (p.1, p.2) (short_behind _ _ _ _ _ _ _ (Consumes-trans _ _ _ c.read_exact.new.buf body.octets c.in_ok-read_exact.ensures.octets body.taken) c.in_err-closed.ensures.octets
    (omega (arith, length-append c.read_exact.new.buf body.octets, body.size, c.more_of-more.ensures.value)))

pub returns-then-not-closed-clause-octets : goal.returns-then-not-closed-clause-octets
returns-then-not-closed-clause-octets g c =
    let big : 16 ≤ c.args.front.size = is_bigger c.args.front.size c.requires.begins.sized c.if-front-eq12.false in
    let fits = more_fits c.args.front.kind c.args.front.size big in
    let long : length c.read_exact.new.buf ≡ c.more_of-more.result = search rules in
    rest_unclosed _ _ _ _ c.requires.begins (search rules) _ _ _ _ c.read_exact.new.buf _ c.content_of-content.result _ _ _ c.in_ok-read_exact.ensures.octets (long ∙ c.more_of-more.ensures.value)
    (content_read _ _ _ _ _ _ _ _ _ _ _ c.content_of-content.ensures c.joined-fixed.ensures (search rules) long) (omega (arith, c.more_of-more.ensures.value))
    c.in_ok-found.ensures.octets c.in_ok-closed.ensures.octets (search rules)

pub returns-clause-octets : goal.returns-clause-octets
returns-clause-octets g c =
    let big : 16 ≤ c.args.front.size = is_bigger c.args.front.size c.requires.begins.sized c.if-front-eq12.false in
    let fits = more_fits c.args.front.kind c.args.front.size big in
    let long : length c.read_exact.new.buf ≡ c.more_of-more.result = search rules in
    rest_closed _ _ _ _ c.requires.begins (search rules) _ _ _ _ c.read_exact.new.buf _ c.content_of-content.result _ _ _ c.in_ok-read_exact.ensures.octets (long ∙ c.more_of-more.ensures.value)
    (content_read _ _ _ _ _ _ _ _ _ _ _ c.content_of-content.ensures c.joined-fixed.ensures (search rules) long) (omega (arith, c.more_of-more.ensures.value))
    c.in_ok-found.ensures.octets c.in_ok-closed.ensures.octets (search rules)
