use Rattle.std.proofs.Common.{rules, map, sym, subst}
use Rattle.pcap_file.specs.RecordReading.{shown}
use Rattle.rule_book.specs.Entries.{plain}
use Rattle.run_audit.specs.declared.answer.Answer.{Answer}
use Rattle.run_audit.specs.working.CaptureCauses.{WhyUnsound}
use Rattle.run_audit.proofs.Frames.{goes_on, unowned, faulty, unwritten, sound, few_frames, noted_by, faulty_by}
use Rattle.run_audit.proofs.examine.judge_frames.Goals as goal

pub judge-requires-clause-few : goal.judge-requires-clause-few
judge-requires-clause-few g c = few_frames _ _ _ _ _ c.records.eras _ _ _ c.records.invariant.going

pub returns-in_default-clause-why : goal.returns-in_default-clause-why
returns-in_default-clause-why g c =
    let P : Answer → Type 0 = WhyUnsound c.args.hops c.args.head (map plain c.args.entries.now) (g.C.Source.left c.args.capture.now) (g.C.Source.fault_count c.args.capture.now) (g.C.Source.fault_count c.next.new.source) in
    subst P (sym c.missing.ensures)
    (unowned c.args.hops c.args.head (map plain c.args.entries.now) _ _ _ c.records.eras c.records.owners c.records.reader c.records.count (shown c.in-Ok-Some.record) c.records.invariant.going
    (rw c.in-Ok-Some.field-0-is at c.in-Ok-Some.ensures.octets) c.in_default.ensures)

pub returns-in-Some-2-clause-why : goal.returns-in-Some-2-clause-why
returns-in-Some-2-clause-why g c =
    faulty c.args.hops c.args.head (map plain c.args.entries.now) _ _ _ c.records.eras c.records.owners c.next-in-records.new.self c.records.reader c.records.count (shown c.in-Ok-Some.record) (plain c.in-Some.entry.now) c.in-Some-2.reason c.records.invariant.going
    (rw c.in-Ok-Some.field-0-is at c.in-Ok-Some.ensures.octets) c.in-Some.ensures
    (faulty_by c.args.hops c.records.eras c.judge.new.eras c.args.head.link c.packet_in-packet.result.now c.in-Ok-Some.record.bytes.now (plain c.in-Some.entry.now) c.in_ok-reason.field-0 c.in-Some-2.reason c.in-Some-2.is c.packet_in-packet.ensures c.in_ok-reason.ensures)

pub records-preserved : goal.records-preserved
records-preserved g c = record {
  may_ask = search rules;
  room = search rules;
  later = search rules;
  going =
      goes_on c.args.hops c.args.head (map plain c.args.entries.now) _ _ _ c.records.eras c.judge.new.eras c.records.owners c.next-in-records.new.self c.records.reader c.next.new.self c.records.count (shown c.in-Ok-Some.record) (plain c.in-Some.entry.now) c.records.invariant.going
      (rw c.in-Ok-Some.field-0-is at c.in-Ok-Some.ensures.octets) (rw c.in-Ok-Some.field-0-is at c.in-Ok-Some.ensures.advances) c.next.ensures.head c.in-Some.ensures
      (noted_by c.args.hops c.records.eras c.judge.new.eras c.args.head.link c.packet_in-packet.result.now c.in-Ok-Some.record.bytes.now (plain c.in-Some.entry.now) c.in_ok-reason.field-0 c.in_default-2.is c.packet_in-packet.ensures c.in_ok-reason.ensures);
}

pub returns-in-Some-next-clause-why : goal.returns-in-Some-next-clause-why
returns-in-Some-next-clause-why g c =
    let P : Answer → Type 0 = WhyUnsound c.args.hops c.args.head (map plain c.args.entries.now) (g.C.Source.left c.args.capture.now) (g.C.Source.fault_count c.args.capture.now) (g.C.Source.fault_count c.next.new.source) in
    subst P (sym c.missing-in-Some-next.ensures)
    (unwritten c.args.hops c.args.head (map plain c.args.entries.now) _ _ _ c.records.eras c.records.owners c.next-2.new.self c.records.reader c.records.count (plain c.in-Some-next.field-0.now) c.records.invariant.going
    (rw c.in-Ok-None.field-0-is at c.in-Ok-None.ensures.octets) c.in-Some-next.ensures)

pub returns-in-None-clause-sound : goal.returns-in-None-clause-sound
returns-in-None-clause-sound g c =
    sound c.args.hops c.args.head (map plain c.args.entries.now) _ _ _ c.records.eras c.records.owners c.records.reader c.records.count c.records.invariant.going
    (rw c.in-Ok-None.field-0-is at c.in-Ok-None.ensures.octets) c.in-None.ensures
