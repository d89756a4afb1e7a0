use Rattle.std.proofs.Common.{◌≡◌, ◌^◌, ◌<◌, ◌≤◌, ◌==◌, ◌||◌, true, false, [], length, Some, None, refl, sym, subst, arith}
use Rattle.norm_settings.specs.SettingValues.{plain_settings}
use Rattle.pcap_file.specs.RecordReading.{shown}
use Rattle.wire_base.specs.Ipv4 as ip
use Rattle.wire_base.specs.Frames.{packet_in}
use Rattle.ipv4_codec.specs.declared.header.Ipv4.{Ipv4}
use Rattle.reassembly.specs.AssemblyState as fragments
use Rattle.ip_rules.proofs.Datagrams.{packet_octets}
use Rattle.ip_rules.proofs.Lists.{two_below}
use Rattle.ip_rules.proofs.Rules.{arp_is_no_ip}
use Rattle.norm_engine.specs.working.RecordJudgment.{judgment_with}
use Rattle.norm_engine.proofs.Judgments.{arp_passes, row_drops, own, stands_in, carried_made, whole_judged}
use Rattle.norm_engine.proofs.Fragments.{none_called, piece_judged, piece_called, is_piece}
use Rattle.norm_engine.proofs.Frames.{kept_packet, few_fixes, few_parts, payload_fits}
use Rattle.norm_engine.proofs.judge.judge.Goals as goal

pub returns-in-Arp-clause-rows : goal.returns-in-Arp-clause-rows
returns-in-Arp-clause-rows c = λ past stands held. arp_passes (plain_settings c.args.settings.now) c.args.link past (shown c.args.input.now) c.in-Arp.ensures.0 c.in-Arp.ensures.1

pub returns-in-Arp-clause-pieces : goal.returns-in-Arp-clause-pieces
returns-in-Arp-clause-pieces c = λ calls stands.
    let settings = plain_settings c.args.settings.now in
    let r = shown c.args.input.now in
    subst (fragments.StandsFor settings c.args.pieces.now)
    (sym (none_called settings c.args.link r c.args.now calls None false (ip.is_fragment (packet_in c.args.link r.octets)) c.in-Arp.ensures.0 (arp_is_no_ip c.args.link r.octets c.in-Arp.ensures.1) refl refl)) stands

pub returns-in-Drop-clause-rows : goal.returns-in-Drop-clause-rows
returns-in-Drop-clause-rows c = λ past stands held. row_drops (plain_settings c.args.settings.now) c.args.link past (shown c.args.input.now) c.in-Drop.side c.in-Drop.rule c.in-Drop.ensures.0 c.in-Drop.ensures.1

pub returns-in-Drop-clause-pieces : goal.returns-in-Drop-clause-pieces
returns-in-Drop-clause-pieces c = λ calls stands.
    let settings = plain_settings c.args.settings.now in
    let r = shown c.args.input.now in
    subst (fragments.StandsFor settings c.args.pieces.now)
    (sym (none_called settings c.args.link r c.args.now calls (Some c.in-Drop.rule) _ _ c.in-Drop.ensures.0 refl refl refl)) stands

pub returns-in-Piece-clause-rows : goal.returns-in-Piece-clause-rows
returns-in-Piece-clause-rows c = λ past stands held.
    piece_judged (plain_settings c.args.settings.now) c.args.link past (shown c.args.input.now) c.judge_ip_into.new.packet c.in-Piece.ensures.0 c.in-Piece.ensures.1 c.in-Piece.ensures.2 (judgment_with c.judge_piece.new.parsed c.judge_piece.result)
    (c.judge_piece.ensures.rows past.calls past.pieces stands held)

pub returns-in-Piece-clause-pieces : goal.returns-in-Piece-clause-pieces
returns-in-Piece-clause-pieces c = λ calls stands.
    let settings = plain_settings c.args.settings.now in
    subst (fragments.StandsFor settings c.judge_piece.new.pieces)
    (sym (piece_called settings c.args.link (record { idle = []; calls = []; pieces = calls }) (shown c.args.input.now) c.judge_ip_into.new.packet c.in-Piece.ensures.0 c.in-Piece.ensures.1 c.in-Piece.ensures.2 c.args.now calls))
    (c.judge_piece.ensures.pieces calls stands)

pub judge_piece-requires-clause-piece : goal.judge_piece-requires-clause-piece
judge_piece-requires-clause-piece c =
    let p = packet_in c.args.link c.args.input.now.bytes.now in
    let small : ip.total_length p < 65536 = two_below p 2 (packet_octets c.args.link c.args.input.now.bytes.now c.have_octets.ensures) in
    is_piece (plain_settings c.args.settings.now) c.args.link (record { idle = []; calls = []; pieces = [] }) (shown c.args.input.now) c.judge_ip_into.new.packet c.in-Piece.ensures.0 c.in-Piece.ensures.1 c.in-Piece.ensures.2 small

pub judge_piece-requires-clause-known : goal.judge_piece-requires-clause-known
judge_piece-requires-clause-known c =
    subst (λ (head : Ipv4). ((head.protocol == 1) || (head.protocol == 6) || (head.protocol == 17)) ≡ true) (sym c.in-Piece.ensures.2.head)
    (kept_packet (plain_settings c.args.settings.now) c.args.link (shown c.args.input.now) c.in-Piece.ensures.0).known

pub judge_piece-requires-clause-few : goal.judge_piece-requires-clause-few
judge_piece-requires-clause-few c =
    let few = few_parts (plain_settings c.args.settings.now) c.args.link (shown c.args.input.now) in
    subst (λ xs. length xs ≤ 4) (sym c.in-Piece.ensures.2.fixes) (omega (arith, few))

pub judge_whole-requires-clause-known : goal.judge_whole-requires-clause-known
judge_whole-requires-clause-known c =
    subst (λ (head : Ipv4). ((head.protocol == 1) || (head.protocol == 6) || (head.protocol == 17)) ≡ true) (sym c.in-Whole.ensures.2.head)
    (kept_packet (plain_settings c.args.settings.now) c.args.link (shown c.args.input.now) c.in-Whole.ensures.0).known

pub judge_whole-requires-clause-size : goal.judge_whole-requires-clause-size
judge_whole-requires-clause-size c =
    let p = packet_in c.args.link c.args.input.now.bytes.now in
    let small : ip.total_length p < 65536 = two_below p 2 (packet_octets c.args.link c.args.input.now.bytes.now c.have_octets.ensures) in
    let fits = payload_fits p (kept_packet (plain_settings c.args.settings.now) c.args.link (shown c.args.input.now) c.in-Whole.ensures.0) small in
    subst (λ xs. length xs < 2 ^ 16) (sym c.in-Whole.ensures.2.payload) (omega (arith, fits))

pub judge_whole-requires-clause-few : goal.judge_whole-requires-clause-few
judge_whole-requires-clause-few c =
    let few = few_fixes (plain_settings c.args.settings.now) c.args.link (shown c.args.input.now) in
    subst (λ xs. length xs < 16) (sym c.in-Whole.ensures.2.fixes) (omega (arith, few))

pub returns-in-Whole-clause-rows : goal.returns-in-Whole-clause-rows
returns-in-Whole-clause-rows c = λ past stands held.
    let settings = plain_settings c.args.settings.now in
    let r = shown c.args.input.now in
    let whole = c.in-Whole.ensures in
    let p = packet_in c.args.link c.args.input.now.bytes.now in
    let small : ip.total_length p < 65536 = two_below p 2 (packet_octets c.args.link c.args.input.now.bytes.now c.have_octets.ensures) in
    whole_judged settings c.args.link past r (own settings c.args.link r c.judge_ip_into.new.packet whole.0 whole.1 whole.2 small) c.judge_ip_into.new.packet
    (carried_made settings c.args.link r c.judge_ip_into.new.packet whole.0 whole.1 whole.2 small past)
    (stands_in settings c.args.link r c.judge_ip_into.new.packet whole.0 whole.1 whole.2 small c.datagrams_are_known.ensures c.have_octets.ensures)
    (judgment_with c.judge_whole.new.parsed c.judge_whole.result) (c.judge_whole.ensures.rows past.calls (ip.header p) stands)

pub returns-in-Whole-clause-pieces : goal.returns-in-Whole-clause-pieces
returns-in-Whole-clause-pieces c = λ calls stands.
    let settings = plain_settings c.args.settings.now in
    let r = shown c.args.input.now in
    subst (fragments.StandsFor settings c.args.pieces.now)
    (sym (none_called settings c.args.link r c.args.now calls None true false c.in-Whole.ensures.0.undropped c.in-Whole.ensures.0.carries c.in-Whole.ensures.1 refl)) stands
