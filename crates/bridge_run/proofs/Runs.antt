-- A run from record to record, from the head on: what was read, given and counted, and how it
-- stops.
use Rattle.std.proofs.Common.{◌+◌, ◌<◌, ◌-◌, ◌^◌, Bool, true, false, List, [], ◌∷◌, Option, None, Ok, Err, Result, IfErr, refl, sym, ap, ap₂, subst, ◌∙◌, arith, suc, ◌≡◌, ℕ, ◌*◌, ◌≤◌, length}
use Rattle.std.proofs.lemmas.Bool.Decides.{nat_tests}
use Rattle.std.specs.Io.KnownBytes.{Appends}
use Rattle.pcap_file.specs.declared.head.Head.{Head}
use Rattle.capture_input.specs.declared.input.Input.{Input}
use Rattle.capture_input.specs.declared.input.Input.TheVariants.{Classic, Sections}
use Rattle.capture_input.specs.Inputs.{Walk, records, blocks, packets_in, place_behind, EndsAtNewest, Took}
use Rattle.capture_input.specs.ReaderState.{Behind, head_in, asked_in, place_in}
use Rattle.norm_settings.specs.SettingValues.{PlainSettings}
use Rattle.both_sides.specs.declared.engines.Engines.{Engines}
use Rattle.edge_io.specs.SeenEnds.{Seen}
use Rattle.both_sides.specs.Outputs.{Given, capture_part, report_part}
use Rattle.both_sides.specs.RecordOutputs.{count_put, puts, Put, next_put, put_outputs}
use Rattle.both_sides.specs.RelayState.{StandsForRun, link_of, settings_of, is_full_of, records_of}
use Rattle.both_sides.specs.RunTraces.{LawfulRun, RunHasNoSide, RunHasOctets, RunTrace, packets_of, empty_run, next_run, one, two}
use Rattle.wire_base.specs.declared.address.Link.{Link}
use Rattle.pcap_file.specs.declared.record.Record.{Record}
use Rattle.pcap_file.specs.Records.{Packet}
use Rattle.pcap_file.specs.RecordReading.{shown}
use Rattle.capture_input.specs.declared.fault.InputFault.{InputFault}
use Rattle.capture_input.specs.RecordReading.{Continues, GivesPacket, StopsAt, StopsBehind}
use Rattle.norm_engine.specs.Items.{Item, packets}
use Rattle.both_sides.specs.declared.engines.Engines.TheVariants.{One, Two}
use Rattle.both_sides.specs.declared.fault.RelayFault.{RelayFault}
use Rattle.both_sides.specs.RunLaws.{GoesOn, RunsBegin, RunsGoOn}
use Rattle.both_sides.specs.Outputs as relayed
use Rattle.both_sides.specs.WrittenRecord.{IsWritten}
use Rattle.bridge_run.specs.RunMoments.{Moment, NoneRose}
use Rattle.bridge_run.specs.Outputs.{outputs_of, BreaksOff, hand_outputs, stop_by}
use Rattle.bridge_run.specs.RunContract.{IsFew}
use Rattle.bridge_run.specs.working.RunParts.{Begun}
use Rattle.bridge_run.specs.Promises.{HaveTimes}
use Rattle.bridge_run.specs.declared.stop.Stop.{Stop}
use Rattle.bridge_run.specs.StoppedRun.{StopsAtPacket, StopsAtRecord, StopsAtTooMany, StopsBetween}
use Rattle.bridge_run.specs.working.PartEnds.{Unchanged}
use Rattle.bridge_run.proofs.Outputs.{given_after, broke_behind}

-- The state of a run between records. Nothing is claimed of octets that are not known.

-- So far: a lawful run over the packets that were taken, whose octets are below 256, and whose
-- times are of 32 bits. If both sides are protected, none of them has its own side, and there are
-- fewer than 2^31. The first line, the head, and the frames and lines of the run were written, and
-- nothing failed.
pub record SoFar (settings : PlainSettings) (head : Head) (before now : Moment) (walk : Walk) (run : RunTrace) : Type 0 where
  pub lawful : LawfulRun settings head.link run
  pub octets : RunHasOctets settings run
  pub times : HaveTimes (packets_of run)
  pub sideless : RunHasNoSide run
  pub few : IsFew settings run
  pub took : Took settings.inside before.source.octets now.source.octets head walk
  pub packets_are : packets_in walk ≡ packets_of run
  pub given : Given (outputs_of settings.both head (puts settings head.link run)) before.sinks now.sinks
  pub none_rose : NoneRose before now

-- The same of some run, which the engines represent under these settings and on the link of the
-- head, with the input after its packets, and `frames` frames written, at most 255 for each record.
pub record Going (settings : PlainSettings) (head : Head) (before now : Moment) (engines : Engines) (input : Input) (frames : ℕ) : Type 0 where
  pub walk : Walk
  pub run : RunTrace
  pub so_far : SoFar settings head before now walk run
  pub stands : StandsForRun engines run
  pub engine_settings : settings_of engines ≡ settings
  pub engine_link : link_of engines ≡ head.link
  pub input_head : head_in input ≡ head
  pub behind : Behind input settings.inside walk
  pub ends : EndsAtNewest walk
  pub frames_are : frames ≡ count_put (puts settings head.link run)
  pub few : frames ≤ 255 * length (packets_of run)

-- How a run continues from record to record, and how it ends.

length-packets : (trace : List Item) → length (packets trace) ≡ length trace
length-packets [] = refl
length-packets (item ∷ older) = ap suc (length-packets older)

-- the engines have counted the records of their run
pub counted : (engines : Engines) (run : RunTrace) → StandsForRun engines run → records_of engines ≡ length (packets_of run)
counted (One engine) (one trace) s = s.counted ∙ sym (length-packets trace)
counted (One engine) (two trace mirror) s = absurd s
counted (Two joined) (one trace) s = absurd s
counted (Two joined) (two trace mirror) s = s.first.counted ∙ sym (length-packets trace)

pub none_counted : (engines : Engines) (both : Bool) → StandsForRun engines (empty_run both) → records_of engines ≡ 0
none_counted engines false s = counted engines (empty_run false) s
none_counted engines true s = counted engines (empty_run true) s

-- the number of records is the greatest: both sides are protected, unless it is 2^32 - 1
full_means : (settings : PlainSettings) (link : Link) (engines : Engines) (run : RunTrace) → StandsForRun engines run → LawfulRun settings link run → IsFew settings run → is_full_of engines ≡ true
    → length (packets_of run) + 1 < 2 ^ 32 → (settings.both ≡ true) × (length (packets_of run) ≡ 2 ^ 31 - 1)
full_means settings link (One engine) (one trace) s lawful few full room = absurd (let count = s.counted in let size = length-packets trace in grind (arith, nat_tests))
full_means settings link (One engine) (two trace mirror) s lawful few full room = absurd s
full_means settings link (Two joined) (one trace) s lawful few full room = absurd s
full_means settings link (Two joined) (two trace mirror) s lawful few full room =
    let count = counted (Two joined) (two trace mirror) s in
    let most = few lawful.0 in
    let least : 2 ^ 31 - 1 ≤ joined.first.records = grind (arith, nat_tests) in
    (lawful.0, omega (arith, count, most, least))

-- one record more is not one too many
still_few : (settings : PlainSettings) (link : Link) (engines : Engines) (run : RunTrace) (r : Packet) → StandsForRun engines run → LawfulRun settings link run → is_full_of engines ≡ false
    → length (packets_of (next_run settings link run r)) ≡ suc (length (packets_of run)) → IsFew settings (next_run settings link run r)
still_few settings link (One engine) (one trace) r s lawful more size = λ both. let wrong : true ≡ false = sym both ∙ lawful.0 in absurd cc
still_few settings link (One engine) (two trace mirror) r s lawful more size = absurd s
still_few settings link (Two joined) (one trace) r s lawful more size = absurd s
still_few settings link (Two joined) (two trace mirror) r s lawful more size = λ both.
    let count = counted (Two joined) (two trace mirror) s in
    let less : joined.first.records < 2 ^ 31 - 1 = grind (arith, nat_tests) in
    omega (arith, count, less, size)

-- two engines require that the record has no side
sideless_more : (settings : PlainSettings) (link : Link) (run : RunTrace) (r : Packet) → LawfulRun settings link run → GoesOn settings link run r → RunHasNoSide run → (settings.both ≡ true → r.side ≡ None)
    → RunHasNoSide (next_run settings link run r)
sideless_more settings link (one trace) r lawful law older none = tt
sideless_more settings link (two trace mirror) r lawful law older none = law.sideless older (none lawful.0)

-- what was read after a walk
pub took_on : (inside all b c : Option (List ℕ)) (mine head : Head) (walk farther : Walk) → mine ≡ head → Continues inside mine walk farther b c → Took inside all b head walk → Took inside all c head farther
took_on inside all b c mine head walk farther is continues took =
    subst (λ (h : Head). Took inside all c h farther) is (continues all (subst (λ (h : Head). Took inside all b h walk) (sym is) took))

pub none_rose_after : (a b c : Moment) → NoneRose a b → NoneRose b c → NoneRose a c
none_rose_after a b c p q = record {
  source = q.source ∙ p.source;
  sinks = record { capture = q.sinks.capture ∙ p.sinks.capture; report = q.sinks.report ∙ p.sinks.report };
}

-- the offset of the next record or block is the one after the entries read
place_of : (input : Input) (inside : Option (List ℕ)) (walk : Walk) → Behind input inside walk → place_in input ≡ place_behind walk
place_of (Classic head reader) inside (records packets) behind = behind.place
place_of (Sections reader) inside (blocks steps) behind = behind.place
place_of (Classic head reader) inside (blocks steps) behind = absurd behind
place_of (Sections reader) inside (records packets) behind = absurd behind

-- The run begins after the head.
pub begins : RunsBegin → (settings : PlainSettings) (head : Head) (a b : Moment) (engines : Engines) (input : Input) → head ≡ head_in input → settings_of engines ≡ settings → link_of engines ≡ head.link
    → StandsForRun engines (empty_run settings.both) → Begun settings input a b → Going settings head a b engines input 0
begins law settings head a b engines input is set linked stands p =
    let first = law settings head.link in
    record {
      walk = p.walk;
      run = empty_run settings.both;
      so_far = record {
        lawful = first.lawful;
        octets = first.octets;
        times = subst HaveTimes (sym first.taken) tt;
        sideless = first.sideless;
        few = λ both. let none = ap length first.taken in omega (arith, none);
        took = subst (λ (h : Head). Took settings.inside a.source.octets b.source.octets h p.walk) (sym is) p.took;
        packets_are = p.silent ∙ sym first.taken;
        given = subst (λ out. Given (outputs_of settings.both head out) a.sinks b.sinks) (sym first.put) (subst (λ (h : Head). Given (outputs_of settings.both h []) a.sinks b.sinks) (sym is) p.given);
        none_rose = p.none_rose;
      };
      stands = stands;
      engine_settings = set;
      engine_link = linked;
      input_head = sym is;
      behind = p.behind;
      ends = p.ends;
      frames_are = sym (ap count_put first.put);
      few = omega arith;
    }

module _ (settings : PlainSettings) (head : Head) (a b : Moment) (engines : Engines) (input : Input) (frames : ℕ) (going : Going settings head a b engines input frames) where
  -- the run with one record more, and the output for it, as the engines have it
  run_is : (p : Packet) → next_run (settings_of engines) (link_of engines) going.run p ≡ next_run settings head.link going.run p
  run_is p = ap₂ (λ s l. next_run s l going.run p) going.engine_settings going.engine_link

  put_is : (p : Packet) → next_put (settings_of engines) (link_of engines) going.run p ≡ next_put settings head.link going.run p
  put_is p = ap₂ (λ s l. next_put s l going.run p) going.engine_settings going.engine_link

  -- the output so far was flushed before the next record
  pub handed : (c : Moment) → c.source ≡ b.source → Unchanged b.sinks c.sinks → Going settings head a c engines input frames
  handed c same kept =
      let now = going.so_far in
      record {
        walk = going.walk;
        run = going.run;
        so_far = record {
          lawful = now.lawful;
          octets = now.octets;
          times = now.times;
          sideless = now.sideless;
          few = now.few;
          took = subst (λ (s : Seen). Took settings.inside a.source.octets s.octets head going.walk) (sym same) now.took;
          packets_are = now.packets_are;
          given = record {
            capture = subst (λ s. Appends a.sinks.capture.octets s (capture_part (outputs_of settings.both head (puts settings head.link going.run)))) (sym kept.capture) now.given.capture;
            report = subst (λ s. Appends a.sinks.report.octets s (report_part (outputs_of settings.both head (puts settings head.link going.run)))) (sym kept.report) now.given.report;
          };
          none_rose = none_rose_after a b c now.none_rose (record { source = ap (λ (s : Seen). s.faults) same; sinks = kept.none_rose });
        };
        stands = going.stands;
        engine_settings = going.engine_settings;
        engine_link = going.engine_link;
        input_head = going.input_head;
        behind = going.behind;
        ends = going.ends;
        frames_are = going.frames_are;
        few = going.few;
      }

  -- a sink could not be flushed before the next record
  pub stops_between : (c : Moment) (offset : ℕ) (stop : Stop) → c.source ≡ b.source → offset ≡ place_in input → BreaksOff [] hand_outputs offset stop b.sinks c.sinks → StopsBetween settings stop a c
  stops_between c offset stop same place broke = record {
    head = head;
    run = going.run;
    lawful = going.so_far.lawful;
    few = going.so_far.few;
    walk = going.walk;
    packets_are = going.so_far.packets_are;
    ends = going.ends;
    took = subst (λ (s : Seen). Took settings.inside a.source.octets s.octets head going.walk) (sym same) going.so_far.took;
    broke = broke_behind (outputs_of settings.both head (puts settings head.link going.run)) _ _ stop a.sinks b.sinks c.sinks going.so_far.given
        (subst (λ o. BreaksOff [] hand_outputs o stop b.sinks c.sinks) (place ∙ place_of input settings.inside going.walk going.behind) broke);
  }

  -- one more packet was taken
  module _ (c : Moment) (input' : Input) (given : Record) (gives : GivesPacket input input' settings.inside going.walk b.source.octets c.source.octets given) where
    pub took_more : Took settings.inside a.source.octets c.source.octets head gives.farther
    took_more = took_on settings.inside a.source.octets b.source.octets c.source.octets (head_in input) head going.walk gives.farther going.input_head gives.continues going.so_far.took

    packets_more : packets_in gives.farther ≡ shown given ∷ packets_of going.run
    packets_more = gives.packets ∙ ap (λ ps. shown given ∷ ps) going.so_far.packets_are

    few_before : length (packets_of going.run) + 1 < 2 ^ 32
    few_before = let count = ap length packets_more in omega (arith, gives.few, count)

    -- it is one too many
    pub stops_at_too_many : (offset : ℕ) → offset ≡ given.offset → is_full_of engines ≡ true → c.sinks ≡ b.sinks → StopsAtTooMany settings offset a c
    stops_at_too_many offset place full same =
        let most = full_means settings head.link engines going.run going.stands going.so_far.lawful going.so_far.few full few_before in
        record {
          both = most.0;
          head = head;
          run = going.run;
          lawful = going.so_far.lawful;
          full = most.1;
          packet = shown given;
          walk = gives.farther;
          packets_are = packets_more;
          ends = gives.ends;
          took = took_more;
          place = place ∙ gives.place;
          given = subst (Given (outputs_of settings.both head (puts settings head.link going.run)) a.sinks) (sym same) going.so_far.given;
        }

    module _ (law : RunsGoOn) where
      abbrev step : GoesOn settings head.link going.run (shown given)
      step = law settings head.link going.run (shown given)

      -- with it the engines have fewer left to count
      pub fewer_left : (engines' : Engines) → ((run : RunTrace) → StandsForRun engines run → StandsForRun engines' (next_run (settings_of engines) (link_of engines) run (shown given)))
          → 2 ^ 32 - records_of engines' < 2 ^ 32 - records_of engines
      fewer_left engines' stands =
          let next = subst (StandsForRun engines') (run_is (shown given)) (stands going.run going.stands) in
          let after = counted engines' (next_run settings head.link going.run (shown given)) next in
          let before = counted engines going.run going.stands in
          let size = ap length step.taken in
          omega (arith, after, before, size, few_before)

      -- the output for it was written, and the run continues
      module _ (engines' : Engines) (n : ℕ) (counted_so : c.source.faults ≡ b.source.faults) (more : is_full_of engines ≡ false)
          (written : (run : RunTrace) → StandsForRun engines run → IsWritten head.order (next_put (settings_of engines) (link_of engines) run (shown given)) (Ok n) b.sinks c.sinks)
          (stands : (run : RunTrace) → StandsForRun engines run → StandsForRun engines' (next_run (settings_of engines) (link_of engines) run (shown given)))
          (octets : (run : RunTrace) → StandsForRun engines run → RunHasOctets (settings_of engines) run
          → RunHasOctets (settings_of engines) (next_run (settings_of engines) (link_of engines) run (shown given)))
          (settled : settings_of engines' ≡ settings_of engines) (linked : link_of engines' ≡ link_of engines) (none : settings.both ≡ true → (shown given).side ≡ None)
          (seconds : given.seconds < 2 ^ 32) (fraction : given.fraction < 2 ^ 32) where
        pub goes_on : Going settings head a c engines' input' (frames + n)
        goes_on =
            let run = going.run in
            let p = shown given in
            let now = going.so_far in
            let put = next_put settings head.link run p in
            let out : IsWritten head.order put (Ok n) b.sinks c.sinks = subst (λ (x : Put). IsWritten head.order x (Ok n) b.sinks c.sinks) (put_is p) (written run going.stands) in
            let short = out.few in
            let has = octets run going.stands (subst (λ (s : PlainSettings). RunHasOctets s run) (sym going.engine_settings) now.octets) in
            let size = ap length step.taken in
            record {
              walk = gives.farther;
              run = next_run settings head.link run p;
              so_far = record {
                lawful = step.lawful now.lawful;
                octets = subst (λ (s : PlainSettings). RunHasOctets s (next_run settings head.link run p)) going.engine_settings (subst (RunHasOctets (settings_of engines)) (run_is p) has);
                times = subst HaveTimes (sym step.taken) ((seconds, fraction), now.times);
                sideless = sideless_more settings head.link run p now.lawful step now.sideless none;
                few = still_few settings head.link engines run p going.stands now.lawful more size;
                took = took_more;
                packets_are = packets_more ∙ sym step.taken;
                given = subst (λ out. Given (outputs_of settings.both head out) a.sinks c.sinks) (sym step.put)
                    (given_after (outputs_of settings.both head (puts settings head.link run)) (put_outputs head.order put) a.sinks b.sinks c.sinks now.given out.whole.given);
                none_rose = none_rose_after a b c now.none_rose (record { source = counted_so; sinks = out.whole.none_rose });
              };
              stands = subst (StandsForRun engines') (run_is p) (stands run going.stands);
              engine_settings = settled ∙ going.engine_settings;
              engine_link = linked ∙ going.engine_link;
              input_head = gives.head ∙ going.input_head;
              behind = gives.behind;
              ends = gives.ends;
              frames_are = ap₂ (λ x y. x + y) going.frames_are out.whole.frames_are ∙ sym (ap count_put step.put);
              few = omega (arith, going.few, short, size);
            }

      -- an output for it failed
      pub stops_at_packet : is_full_of engines ≡ false → (fault : RelayFault)
          → ((run : RunTrace) → StandsForRun engines run → IsWritten head.order (next_put (settings_of engines) (link_of engines) run (shown given)) (Err fault) b.sinks c.sinks)
          → StopsAtPacket settings (stop_by fault given.offset) a c
      stops_at_packet more fault written =
          let run = going.run in
          let p = shown given in
          let put = next_put settings head.link run p in
          let broke : relayed.BreaksOff [] (put_outputs head.order put) fault b.sinks c.sinks =
          subst (λ (x : Put). relayed.BreaksOff [] (put_outputs head.order x) fault b.sinks c.sinks) (put_is p) (written run going.stands).broke in
          record {
            head = head;
            packet = p;
            older = run;
            lawful = step.lawful going.so_far.lawful;
            few = still_few settings head.link engines run p going.stands going.so_far.lawful more (ap length step.taken);
            walk = gives.farther;
            packets_are = packets_more;
            ends = gives.ends;
            took = took_more;
            broke = broke_behind (outputs_of settings.both head (puts settings head.link run)) _ _ (stop_by fault given.offset) a.sinks b.sinks c.sinks going.so_far.given
                (record { fault = fault; broke = broke; answered = ap (stop_by fault) gives.place });
          }

  -- the next record of the input could not be read
  pub stops_at_record : (c : Moment) (input' : Input) (fault : InputFault) (offset : ℕ) → StopsBehind input input' settings.inside going.walk b.source.octets c.source.octets fault
      → offset ≡ asked_in input' → c.sinks ≡ b.sinks → StopsAtRecord settings fault offset a c
  stops_at_record c input' fault offset stops place same = record {
    head = head;
    run = going.run;
    lawful = going.so_far.lawful;
    few = going.so_far.few;
    walk = stops.farther;
    packets_are = stops.silent ∙ going.so_far.packets_are;
    left = stops.between;
    took = took_on settings.inside a.source.octets b.source.octets stops.between (head_in input) head going.walk stops.farther going.input_head stops.continues going.so_far.took;
    found = subst (λ (h : Head). StopsAt settings.inside h stops.farther stops.between c.source.octets fault) going.input_head stops.why;
    place = place ∙ stops.place;
    given = subst (Given (outputs_of settings.both head (puts settings head.link going.run)) a.sinks) (sym same) going.so_far.given;
  }

-- the fact of an error implies a weaker one
pub if_err_weaker : {T E : Type 0} {P Q : E → Type 0} (r : Result T E) → ((e : E) → P e → Q e) → IfErr r P → IfErr r Q
if_err_weaker (Ok x) f p = tt
if_err_weaker (Err e) f p = f e p
