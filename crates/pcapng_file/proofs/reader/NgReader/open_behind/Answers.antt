use Rattle.std.proofs.Common.{rules, arith, refl, ◌≡◌, None, IsSome}
use Rattle.std.proofs.lemmas.Result.{err_from_is_err_and}
use Rattle.pcapng_file.proofs.BlockReads.{opens_first, opens_on, opens_fails, opens_at, looks_on_here, stopped_here}
use Rattle.pcapng_file.proofs.reader.NgReader.open_behind.Goals as goal

pub returns-in_err-look_ahead-clause-octets : goal.returns-in_err-look_ahead-clause-octets
returns-in_err-look_ahead-clause-octets g c =
    let p = err_from_is_err_and c.from_residual.result c.from_residual.ensures.1 in
    let stopped = rw (c.copied_name.ensures, c.new.ensures) at c.in_err-look_ahead.ensures.octets in
    rw (p.1, p.2) (opens_fails _ _ _ _ _ _ (opens_first _ _) _ refl stopped)

pub loop-reader-init : goal.loop-reader-init
loop-reader-init g c =
    let looked = rw (c.copied_name.ensures, c.new.ensures) at c.in_ok-look_ahead.ensures.octets in
    let more = opens_on _ _ _ _ _ _ (opens_first _ _) refl looked in
    record { so_far = more.so_far; counted = search rules }

pub loop-reader-smaller : goal.loop-reader-smaller
loop-reader-smaller g c =
    let unlinked : c.reader.inside.standing.link ≡ None = search rules in
    let there : c.loop-reader.reader.sections.link ≡ None = rw (← c.reader.view_is) unlinked in
    let more = opens_on _ _ _ _ _ _ c.loop-reader.invariant.so_far there (looks_on_here _ _ _ _ c.in_ok-look_ahead-2.ensures.octets) in
    omega (arith, more.few, more.counted)

pub loop-reader-preserved : goal.loop-reader-preserved
loop-reader-preserved g c =
    let unlinked : c.reader.inside.standing.link ≡ None = search rules in
    let there : c.loop-reader.reader.sections.link ≡ None = rw (← c.reader.view_is) unlinked in
    let more = opens_on _ _ _ _ _ _ c.loop-reader.invariant.so_far there (looks_on_here _ _ _ _ c.in_ok-look_ahead-2.ensures.octets) in
    record { so_far = more.so_far; counted = search rules }

pub returns-in_err-look_ahead-2-clause-octets : goal.returns-in_err-look_ahead-2-clause-octets
returns-in_err-look_ahead-2-clause-octets g c =
    let p = err_from_is_err_and c.from_residual-in_err-look_ahead-2.result c.from_residual-in_err-look_ahead-2.ensures.1 in
    let unlinked : c.reader.inside.standing.link ≡ None = search rules in
    let there : c.loop-reader.reader.sections.link ≡ None = rw (← c.reader.view_is) unlinked in
    rw (p.1, p.2) (opens_fails _ _ _ _ _ _ c.loop-reader.invariant.so_far _ there (stopped_here _ _ _ _ _ c.in_err-look_ahead-2.ensures.octets))

pub returns-in_err-look_ahead-2-clause-later : goal.returns-in_err-look_ahead-2-clause-later
returns-in_err-look_ahead-2-clause-later g c = omega (arith, c.loop-reader.invariant.counted, c.in_err-look_ahead-2.ensures.later)

pub returns-in_err-look_ahead-2-clause-kept : goal.returns-in_err-look_ahead-2-clause-kept
returns-in_err-look_ahead-2-clause-kept g c =
    let p = err_from_is_err_and c.from_residual-in_err-look_ahead-2.result c.from_residual-in_err-look_ahead-2.ensures.1 in
    rw (p.1, p.2, ← c.loop-reader.invariant.counted) c.in_err-look_ahead-2.ensures.kept

pub returns-in_err-look_ahead-2-clause-cause : goal.returns-in_err-look_ahead-2-clause-cause
returns-in_err-look_ahead-2-clause-cause g c =
    let p = err_from_is_err_and c.from_residual-in_err-look_ahead-2.result c.from_residual-in_err-look_ahead-2.ensures.1 in
    rw (p.1, p.2, ← c.loop-reader.invariant.counted) c.in_err-look_ahead-2.ensures.cause

pub returns-clause-octets : goal.returns-clause-octets
returns-clause-octets g c =
    let linked : IsSome c.reader.inside.standing.link = search rules in
    let there : IsSome c.loop-reader.reader.sections.link = rw (← c.reader.view_is) linked in
    opens_at _ _ _ _ c.loop-reader.invariant.so_far there
