use Rattle.std.proofs.Common.{◌≡◌, ◌<◌, ℕ, List, length, refl, rules, sym, ap, subst, ◌∙◌}
use Rattle.edge_io.specs.KnownOctets.{AppendsPart}
use Rattle.std.specs.Io.KnownBytes.{Appends}
use Rattle.pcap_file.specs.RecordReading.{shown}
use Rattle.rule_book.specs.Entries.{PlainEntry, IsOfVersion, plain}
use Rattle.rule_book.specs.Text.{entry_text}
use Rattle.norm_engine.specs.Trace.{item_of}
use Rattle.norm_engine.specs.EngineState.{frames_given}
use Rattle.norm_engine.specs.WrittenTrace.{item_written}
use Rattle.both_sides.specs.Frames.{frame_octets}
use Rattle.norm_engine.proofs.WrittenItems.{each_given, each_has, entry_out, few_out, frames_out, named_out, octets_out, packets_written, sent_out, version_written}
use Rattle.both_sides.proofs.Outputs.{part_of, whole_of, capture_broke, given_both, report_broke, if_done, frames_some, if_failed}
use Rattle.both_sides.proofs.one_engine.relay_one.Goals as goal

pub write_item-requires-clause-ready : goal.write_item-requires-clause-ready
write_item-requires-clause-ready g c =
    let ready = c.requires.ready in
    let frames = c.step_into-as_read.ensures.frames ready.history ready.stands in
    record {
      sent = sent_out c.items_go_out.ensures c.items_are_counted.ensures c.plain_packets_go_out.ensures.whole c.segments_fit.ensures.few c.args.engine.now.settings c.args.engine.now.link ready.history (shown c.args.input.now)
          ready.range.hops ready.range.mtu ready.octets c.have_octets.ensures c.args.head.now.link (frames_given c.step_into-as_read.result c.args.input.now.bytes.now c.step_into-as_read.new.out) ready.same frames;
      least = search rules;
      few = few_out c.items_go_out.ensures c.items_are_counted.ensures c.plain_packets_go_out.ensures.whole c.segments_fit.ensures.few c.args.engine.now.settings c.args.engine.now.link ready.history (shown c.args.input.now)
          ready.range.hops ready.range.mtu ready.octets c.have_octets.ensures c.args.room.now.mtu c.args.head.now.link (frames_given c.step_into-as_read.result c.args.input.now.bytes.now c.step_into-as_read.new.out) ready.bound ready.same frames
          (each_has c.args.room.now.mtu (frames_given c.step_into-as_read.result c.args.input.now.bytes.now c.step_into-as_read.new.out) (each_given c.step_into-as_read.result c.args.input.now.bytes.now c.step_into-as_read.new.out c.have_octets.ensures c.frames_have_octets.ensures));
    }

pub write_item-requires-clause-named : goal.write_item-requires-clause-named
write_item-requires-clause-named g c =
    let ready = c.requires.ready in
    named_out c.items_go_out.ensures c.items_are_counted.ensures c.plain_packets_go_out.ensures.whole c.segments_fit.ensures.few c.args.engine.now.settings c.args.engine.now.link ready.history (shown c.args.input.now)
    ready.range.hops ready.range.mtu ready.octets c.have_octets.ensures (plain c.step_into-as_read.new.entry) (c.step_into-as_read.ensures.entry ready.history ready.stands)

pub returns-then-is_err-clause-read : goal.returns-then-is_err-clause-read
returns-then-is_err-clause-read g c = λ history stands.
    let ready = c.requires.ready in
    let item = item_of c.args.engine.now.settings c.args.engine.now.link history (shown c.args.input.now) in
    let frames = c.step_into-as_read.ensures.frames history stands in
    let out = frames_out c.args.engine.now.settings c.args.engine.now.link c.args.head.now.link c.args.room.now.mtu item (frames_given c.step_into-as_read.result c.args.input.now.bytes.now c.step_into-as_read.new.out) ready.bound ready.same frames in
    record {
      written = record {
        whole = tt;
        few = tt;
        broke = capture_broke _ _ _ _
            (frames_some c.args.head.now.order (shown c.args.input.now) _ (subst (λ (frames : List (List ℕ)). 0 < length frames) out (if_failed c.write_item.result _ c.if-is_err.ensures.value c.write_item.ensures.some)))
            (subst (λ frames. AppendsPart (g.K.Sink.held c.args.capture.now) (g.K.Sink.held c.write_item.new.capture) (frame_octets c.args.head.now.order (shown c.args.input.now) frames)) out
            (part_of c.write_item.result _ _ _ c.if-is_err.ensures.value c.write_item.ensures.octets)) refl;
        first = search rules;
      };
      stands = c.step_into-as_read.ensures.stands history stands;
      octets = c.have_octets.ensures;
      frames = octets_out c.args.engine.now.settings c.args.engine.now.link c.args.head.now.link c.args.room.now.mtu item (frames_given c.step_into-as_read.result c.args.input.now.bytes.now c.step_into-as_read.new.out) ready.bound ready.same frames
          (each_has c.args.room.now.mtu (frames_given c.step_into-as_read.result c.args.input.now.bytes.now c.step_into-as_read.new.out) (each_given c.step_into-as_read.result c.args.input.now.bytes.now c.step_into-as_read.new.out c.have_octets.ensures c.frames_have_octets.ensures));
    }

pub returns-then-is_err-2-clause-read : goal.returns-then-is_err-2-clause-read
returns-then-is_err-2-clause-read g c = λ history stands.
    let ready = c.requires.ready in
    let item = item_of c.args.engine.now.settings c.args.engine.now.link history (shown c.args.input.now) in
    let frames = c.step_into-as_read.ensures.frames history stands in
    let out = frames_out c.args.engine.now.settings c.args.engine.now.link c.args.head.now.link c.args.room.now.mtu item (frames_given c.step_into-as_read.result c.args.input.now.bytes.now c.step_into-as_read.new.out) ready.bound ready.same frames in
    let told : plain c.write_item.new.room.entry ≡ (item_written c.args.engine.now.settings.mtu c.args.engine.now.link item).entry =
    if_done c.write_item.result _ c.if-is_err.ensures.value c.write_item.ensures.entry
    ∙ entry_out c.args.engine.now.settings c.args.engine.now.link c.args.head.now.link c.args.room.now.mtu item (frames_given c.step_into-as_read.result c.args.input.now.bytes.now c.step_into-as_read.new.out) ready.bound ready.same frames (plain c.step_into-as_read.new.entry) (c.step_into-as_read.ensures.entry history stands) in
    record {
      written = record {
        whole = tt;
        few = tt;
        broke = report_broke _ _ _ _ _
            (subst (λ frames. Appends (g.K.Sink.held c.args.capture.now) (g.K.Sink.held c.write_item.new.capture) (frame_octets c.args.head.now.order (shown c.args.input.now) frames)) out
            (whole_of c.write_item.result _ _ _ c.if-is_err.ensures.value c.write_item.ensures.octets))
            (subst (λ (e : PlainEntry). AppendsPart (g.R.Sink.held c.args.report.now) (g.R.Sink.held c.write_line.new.report) (entry_text e)) told
            (part_of c.write_line.result _ _ _ c.if-is_err-2.ensures.value c.write_line.ensures.octets));
        first = search rules;
      };
      stands = c.step_into-as_read.ensures.stands history stands;
      octets = c.have_octets.ensures;
      frames = octets_out c.args.engine.now.settings c.args.engine.now.link c.args.head.now.link c.args.room.now.mtu item (frames_given c.step_into-as_read.result c.args.input.now.bytes.now c.step_into-as_read.new.out) ready.bound ready.same frames
          (each_has c.args.room.now.mtu (frames_given c.step_into-as_read.result c.args.input.now.bytes.now c.step_into-as_read.new.out) (each_given c.step_into-as_read.result c.args.input.now.bytes.now c.step_into-as_read.new.out c.have_octets.ensures c.frames_have_octets.ensures));
    }

pub write_line-requires : goal.write_line-requires
write_line-requires g c =
    let ready = c.requires.ready in
    let item = item_of c.args.engine.now.settings c.args.engine.now.link ready.history (shown c.args.input.now) in
    let frames = c.step_into-as_read.ensures.frames ready.history ready.stands in
    let told : plain c.write_item.new.room.entry ≡ (item_written c.args.engine.now.settings.mtu c.args.engine.now.link item).entry =
    if_done c.write_item.result _ c.if-is_err.ensures.value c.write_item.ensures.entry
    ∙ entry_out c.args.engine.now.settings c.args.engine.now.link c.args.head.now.link c.args.room.now.mtu item (frames_given c.step_into-as_read.result c.args.input.now.bytes.now c.step_into-as_read.new.out) ready.bound ready.same frames (plain c.step_into-as_read.new.entry) (c.step_into-as_read.ensures.entry ready.history ready.stands) in
    subst (IsOfVersion 2) (sym told)
    (version_written c.args.engine.now.settings.mtu c.args.engine.now.link item (c.items_are_counted.ensures c.args.engine.now.settings c.args.engine.now.link ready.history (shown c.args.input.now)).octets)

pub returns-clause-read : goal.returns-clause-read
returns-clause-read g c = λ history stands.
    let ready = c.requires.ready in
    let item = item_of c.args.engine.now.settings c.args.engine.now.link history (shown c.args.input.now) in
    let frames = c.step_into-as_read.ensures.frames history stands in
    let out = frames_out c.args.engine.now.settings c.args.engine.now.link c.args.head.now.link c.args.room.now.mtu item (frames_given c.step_into-as_read.result c.args.input.now.bytes.now c.step_into-as_read.new.out) ready.bound ready.same frames in
    let told : plain c.write_item.new.room.entry ≡ (item_written c.args.engine.now.settings.mtu c.args.engine.now.link item).entry =
    if_done c.write_item.result _ c.if-is_err.ensures.value c.write_item.ensures.entry
    ∙ entry_out c.args.engine.now.settings c.args.engine.now.link c.args.head.now.link c.args.room.now.mtu item (frames_given c.step_into-as_read.result c.args.input.now.bytes.now c.step_into-as_read.new.out) ready.bound ready.same frames (plain c.step_into-as_read.new.entry) (c.step_into-as_read.ensures.entry history stands) in
    let counted = c.items_are_counted.ensures c.args.engine.now.settings c.args.engine.now.link history (shown c.args.input.now) in
    let count = c.from.ensures ∙ ap (λ (e : PlainEntry). e.packets) told ∙ packets_written c.args.engine.now.settings.mtu c.args.engine.now.link item counted in
    let most = few_out c.items_go_out.ensures c.items_are_counted.ensures c.plain_packets_go_out.ensures.whole c.segments_fit.ensures.few c.args.engine.now.settings c.args.engine.now.link ready.history (shown c.args.input.now)
    ready.range.hops ready.range.mtu ready.octets c.have_octets.ensures c.args.room.now.mtu c.args.head.now.link (frames_given c.step_into-as_read.result c.args.input.now.bytes.now c.step_into-as_read.new.out) ready.bound ready.same (c.step_into-as_read.ensures.frames ready.history ready.stands)
    (each_has c.args.room.now.mtu (frames_given c.step_into-as_read.result c.args.input.now.bytes.now c.step_into-as_read.new.out) (each_given c.step_into-as_read.result c.args.input.now.bytes.now c.step_into-as_read.new.out c.have_octets.ensures c.frames_have_octets.ensures)) in
    record {
      written = record {
        whole = record {
          frames_are = count;
          given = given_both _ _ _ _
              (subst (λ frames. Appends (g.K.Sink.held c.args.capture.now) (g.K.Sink.held c.write_item.new.capture) (frame_octets c.args.head.now.order (shown c.args.input.now) frames)) out
              (whole_of c.write_item.result _ _ _ c.if-is_err.ensures.value c.write_item.ensures.octets))
              (subst (λ (e : PlainEntry). Appends (g.R.Sink.held c.args.report.now) (g.R.Sink.held c.write_line.new.report) (entry_text e)) told
              (whole_of c.write_line.result _ _ _ c.if-is_err-2.ensures.value c.write_line.ensures.octets));
          none_rose = search rules;
        };
        few = subst (λ n. n < 256) (ap length out ∙ sym count) most;
        broke = tt;
        first = tt;
      };
      stands = c.step_into-as_read.ensures.stands history stands;
      octets = c.have_octets.ensures;
      frames = octets_out c.args.engine.now.settings c.args.engine.now.link c.args.head.now.link c.args.room.now.mtu item (frames_given c.step_into-as_read.result c.args.input.now.bytes.now c.step_into-as_read.new.out) ready.bound ready.same frames
          (each_has c.args.room.now.mtu (frames_given c.step_into-as_read.result c.args.input.now.bytes.now c.step_into-as_read.new.out) (each_given c.step_into-as_read.result c.args.input.now.bytes.now c.step_into-as_read.new.out c.have_octets.ensures c.frames_have_octets.ensures));
    }
