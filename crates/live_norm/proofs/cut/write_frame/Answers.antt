use Rattle.std.proofs.Common.{rules, ◌≡◌, ◌<◌, ◌-◌, ◌≤◌, ◌++◌, ℕ, List, length, Some, slice_get, take, sym, ap, ◌∙◌, subst, arith, length-append}
use Rattle.std.specs.List.{flat_map}
use Rattle.std.proofs.lemmas.Option.{slice_get-get_or, slice_get_within}
use Rattle.emit_mtu.specs.FrameParts.{IsSent}
use Rattle.emit_mtu.specs.CutStreams.{frames_for}
use Rattle.live_norm.proofs.Pieces.{at, in_back, in_front, of_one, of_two}
use Rattle.live_norm.proofs.cut.write_frame.Goals as goal

pub write_piece-requires-clause-sent : goal.write_piece-requires-clause-sent
write_piece-requires-clause-sent c = at (IsSent c.args.link) c.args.out.now 0 c.frame-frame.result.now c.requires.ready.sent c.frame-frame.ensures.octets

pub write_piece-requires-clause-index : goal.write_piece-requires-clause-index
write_piece-requires-clause-index c =
    let same = ap length (of_one (frames_for c.args.link c.args.mtu) c.args.out.now c.frame-frame.result.now (search rules) c.frame-frame.ensures.octets) in
    omega (arith, same, c.requires.index)

pub returns-then-count-eq1-clause-octets : goal.returns-then-count-eq1-clause-octets
returns-then-count-eq1-clause-octets c =
    ap (λ (l : List (List ℕ)). slice_get l c.args.index) (of_one (frames_for c.args.link c.args.mtu) c.args.out.now c.frame-frame.result.now (search rules) c.frame-frame.ensures.octets)
    ∙ c.write_piece.ensures.octets

pub emitted_for-requires-clause-sent : goal.emitted_for-requires-clause-sent
emitted_for-requires-clause-sent c = at (IsSent c.args.link) c.args.out.now 0 c.frame-frame.result.now c.requires.ready.sent c.frame-frame.ensures.octets

pub write_piece-requires-then-index-first-clause-sent : goal.write_piece-requires-then-index-first-clause-sent
write_piece-requires-then-index-first-clause-sent c = at (IsSent c.args.link) c.args.out.now 0 c.frame-frame.result.now c.requires.ready.sent c.frame-frame.ensures.octets

pub returns-then-index-first-clause-octets : goal.returns-then-index-first-clause-octets
returns-then-index-first-clause-octets c =
    let all = c.args.out.now in
    let two : length c.args.out.now ≡ 2 = omega (arith, c.frames-count.ensures.count, c.frames-count.ensures.few, slice_get_within c.args.out.now 0 c.frame-frame.result.now c.frame-frame.ensures.octets, c.if-count-eq1.false) in
    let second = slice_get-get_or all 1 c.frame-frame.result.now (omega (arith, two)) in
    in_front _ _ _ c.args.index _ (of_two (frames_for c.args.link c.args.mtu) all c.frame-frame.result.now _ two c.frame-frame.ensures.octets second) c.write_piece-then-index-first.ensures.octets

pub write_piece-requires-else-index-first-clause-index : goal.write_piece-requires-else-index-first-clause-index
write_piece-requires-else-index-first-clause-index c =
    let f = frames_for c.args.link c.args.mtu in
    let two : length c.args.out.now ≡ 2 = omega (arith, c.frames-count.ensures.count, c.frames-count.ensures.few, slice_get_within c.args.out.now 0 c.frame-frame.result.now c.frame-frame.ensures.octets, c.if-count-eq1.false) in
    let size = ap length (of_two f c.args.out.now c.frame-frame.result.now c.frame-second.result.now two c.frame-frame.ensures.octets c.frame-second.ensures.octets)
    ∙ length-append (f c.frame-frame.result.now) (f c.frame-second.result.now) in
    let first = c.from-first.ensures ∙ c.emitted_for.ensures.packets in
    omega (arith, size, first, c.requires.index, c.if-index-first.false)

pub returns-else-index-first-clause-octets : goal.returns-else-index-first-clause-octets
returns-else-index-first-clause-octets c =
    let f = frames_for c.args.link c.args.mtu in
    let two : length c.args.out.now ≡ 2 = omega (arith, c.frames-count.ensures.count, c.frames-count.ensures.few, slice_get_within c.args.out.now 0 c.frame-frame.result.now c.frame-frame.ensures.octets, c.if-count-eq1.false) in
    let first = c.from-first.ensures ∙ c.emitted_for.ensures.packets in
    in_back (f c.frame-frame.result.now) (f c.frame-second.result.now) _ c.args.index _
    (of_two f c.args.out.now c.frame-frame.result.now c.frame-second.result.now two c.frame-frame.ensures.octets c.frame-second.ensures.octets)
    (omega (arith, first, c.if-index-first.false))
    (ap (λ n. slice_get (f c.frame-second.result.now) (c.args.index - n)) (sym first) ∙ c.write_piece-else-index-first.ensures.octets)
