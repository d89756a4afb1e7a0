use Rattle.std.proofs.Common.{rules, arith}
use Rattle.pcap_file.specs.RecordReading.{shown}
use Rattle.rule_book.specs.Entries.{plain}
use Rattle.bridge_run.proofs.Loads.{goes_on, counted_few, falls, tallied}
use Rattle.bridge_run.proofs.load.tally_of.Goals as goal

pub step-entry-requires : goal.step-entry-requires
step-entry-requires c =
    counted_few c.args.seed c.args.count c.loop-record.load c.loop-record.engine c.loop-record.tally c.loop-record.invariant.going (shown c.in-Some.record) c.in-Some.ensures.record (omega arith)

pub loop-record-smaller : goal.loop-record-smaller
loop-record-smaller c =
    falls c.args.seed c.args.count c.loop-record.load c.loop-record.engine c.loop-record.tally c.loop-record.invariant.going c.next.new.self (shown c.in-Some.record) c.in-Some.ensures.record c.in-Some.ensures.goes_on

pub loop-record-preserved : goal.loop-record-preserved
loop-record-preserved c = record {
  room = search rules;
  going =
      goes_on c.args.seed c.args.count c.loop-record.load c.loop-record.engine c.loop-record.tally c.loop-record.invariant.going
      c.next.new.self c.step-entry.new.self c.add.new.self (shown c.in-Some.record) (plain c.step-entry.result) c.items_are_counted.ensures
      c.in-Some.ensures.record c.in-Some.ensures.goes_on c.step-entry.ensures.settings c.step-entry.ensures.link c.step-entry.ensures.entry c.step-entry.ensures.stands
      c.add.ensures.packets c.add.ensures.eras c.add.ensures.rules c.add.ensures.few;
}

pub returns : goal.returns
returns c =
    tallied c.args.seed c.args.count c.loop-record.load c.loop-record.engine c.loop-record.tally c.loop-record.invariant.going c.in_default.ensures.record
