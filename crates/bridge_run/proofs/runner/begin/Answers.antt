use Rattle.std.proofs.Common.{ℕ, List, Option, refl, rules, inl, inr, subst}
use Rattle.std.specs.Io.KnownBytes.{Appends}
use Rattle.edge_io.specs.KnownOctets.{AppendsPart}
use Rattle.pcap_file.specs.declared.head.Head.{Head}
use Rattle.pcap_file.specs.FileHead.{head_octets}
use Rattle.capture_input.specs.ReaderState.{head_in}
use Rattle.capture_input.specs.RecordReading.{OpensAt, StopsInHead}
use Rattle.norm_settings.specs.SettingValues.{plain_settings}
use Rattle.both_sides.specs.Sinks.{sinks_of}
use Rattle.both_sides.proofs.Outputs.{part_of, whole_of}
use Rattle.bridge_run.specs.RunMoments.{Moment, moment_of}
use Rattle.bridge_run.specs.Outputs.{first_outputs}
use Rattle.bridge_run.specs.StoppedRun.{StopsAtHead}
use Rattle.bridge_run.proofs.Outputs.{first_broke, given_first, capture_broke, broke_behind, head_some}
use Rattle.bridge_run.proofs.Statuses.{stands_faulty}
use Rattle.bridge_run.proofs.runner.begin.Goals as goal

pub returns-then-is_err-clause-begins : goal.returns-then-is_err-clause-begins
returns-then-is_err-clause-begins g c = record {
  begun = tt;
  stopped = record {
    first = search rules;
    stands = inl (record {
      untaken = refl;
      broke = first_broke _ _ 0 _ _ refl
          (subst (AppendsPart (g.R.Sink.held c.args.report.now) (g.R.Sink.held c.put.new.self)) c.first_line.ensures (part_of c.put.result _ _ _ c.if-is_err.ensures.value c.put.ensures.octets));
    });
  };
}

pub returns-in-Err-clause-begins : goal.returns-in-Err-clause-begins
returns-in-Err-clause-begins g c =
    let settings = plain_settings c.args.settings.now in
    let before : Moment = moment_of (g.S.Source.left c.args.source.now) (g.S.Source.fault_count c.args.source.now) (g.K.Sink.held c.args.capture.now) (g.K.Sink.fault_count c.args.capture.now) (g.R.Sink.held c.args.report.now) (g.R.Sink.fault_count c.args.report.now) in
    let now : Moment = moment_of (g.S.Source.left c.open.new.source) (g.S.Source.fault_count c.open.new.source) (g.K.Sink.held c.args.capture.now) (g.K.Sink.fault_count c.args.capture.now) (g.R.Sink.held c.put.new.self) (g.R.Sink.fault_count c.put.new.self) in
    let head : StopsAtHead settings c.in-Err.stop.fault c.in-Err.stop.offset before now = record {
      found = subst (λ (inside : Option (List ℕ)). StopsInHead inside before.source.octets now.source.octets c.in-Err.stop.fault c.in-Err.stop.offset) c.inside_of.ensures.name c.in-Err.ensures.octets;
      given = given_first _ before.sinks now.sinks refl
          (subst (Appends before.sinks.report.octets now.sinks.report.octets) c.first_line.ensures (whole_of c.put.result _ _ _ c.if-is_err.ensures.value c.put.ensures.octets));
    } in
    record { begun = tt; stopped = record { first = search rules; stands = rw c.stop_at_fault.ensures (stands_faulty settings c.in-Err.stop.fault c.in-Err.stop.offset before now (inl head)) } }

pub returns-then-is_err-2-clause-begins : goal.returns-then-is_err-2-clause-begins
returns-then-is_err-2-clause-begins g c =
    let opens : OpensAt (plain_settings c.args.settings.now).inside (g.S.Source.left c.args.source.now) (g.S.Source.left c.open.new.source) c.in-Ok.input =
    subst (λ (inside : Option (List ℕ)). OpensAt inside (g.S.Source.left c.args.source.now) (g.S.Source.left c.open.new.source) c.in-Ok.input) c.inside_of.ensures.name c.in-Ok.ensures.octets in
    let part : AppendsPart (g.K.Sink.held c.args.capture.now) (g.K.Sink.held c.write_head.new.sink) (head_octets (head_in c.in-Ok.input)) =
    subst (λ (head : Head). AppendsPart (g.K.Sink.held c.args.capture.now) (g.K.Sink.held c.write_head.new.sink) (head_octets head)) c.head.ensures
    (part_of c.write_head.result _ _ _ c.if-is_err-2.ensures.value c.write_head.ensures.octets) in
    record {
      begun = tt;
      stopped = record {
        first = search rules;
        stands = rw c.stop_at_capture.ensures (inr (inl (record {
          head = head_in c.in-Ok.input;
          walk = opens.walk;
          silent = opens.silent;
          ends = opens.ends;
          took = opens.took;
          broke = broke_behind (first_outputs (plain_settings c.args.settings.now).both) _ 0 _ _ (sinks_of (g.K.Sink.held c.args.capture.now) (g.K.Sink.fault_count c.args.capture.now) (g.R.Sink.held c.put.new.self) (g.R.Sink.fault_count c.put.new.self)) _
              (given_first _ _ _ refl
              (subst (Appends (g.R.Sink.held c.args.report.now) (g.R.Sink.held c.put.new.self)) c.first_line.ensures (whole_of c.put.result _ _ _ c.if-is_err.ensures.value c.put.ensures.octets)))
              (capture_broke _ _ 0 _ _ (head_some (head_in c.in-Ok.input)) part refl);
        })));
      };
    }
