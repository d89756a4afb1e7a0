use Rattle.std.proofs.Common.{◌<◌, ℕ, List, ◌++◌, length, rules, refl, ap, ap₂, subst, arith, length-append}
use Rattle.std.specs.Io.KnownBytes.{Appends}
use Rattle.edge_io.specs.KnownOctets.{AppendsPart}
use Rattle.pcap_file.specs.RecordReading.{shown}
use Rattle.rule_book.specs.Text.{entry_text}
use Rattle.both_sides.specs.Frames.{frame_octets}
use Rattle.both_sides.proofs.Outputs.{part_of, whole_of, capture_broke, given_both, report_broke, frames_some, if_failed}
use Rattle.both_sides.proofs.two_engines.relay_two.Goals as goal

pub write_told-requires-clause-own : goal.write_told-requires-clause-own
write_told-requires-clause-own g c = let stood = c.requires.stood in (c.judge_both-told.ensures.judged stood.0 stood.1 stood.2).own_told

pub write_told-requires-clause-first : goal.write_told-requires-clause-first
write_told-requires-clause-first g c = let stood = c.requires.stood in (c.judge_both-told.ensures.judged stood.0 stood.1 stood.2).first_told

pub write_told-requires-clause-second : goal.write_told-requires-clause-second
write_told-requires-clause-second g c = let stood = c.requires.stood in (c.judge_both-told.ensures.judged stood.0 stood.1 stood.2).second_told

pub returns-then-is_err-clause-read : goal.returns-then-is_err-clause-read
returns-then-is_err-clause-read g c = λ trace mirror stands.
    let told = c.judge_both-told.ensures.judged trace mirror stands in
    record {
      written = record {
        whole = tt;
        few = tt;
        broke = capture_broke _ _ _ _
            (frames_some c.args.head.now.order (shown c.args.input.now) _ (subst (λ (frames : List (List ℕ)). 0 < length frames) told.frames_are (if_failed c.write_both.result _ c.if-is_err.ensures.value c.write_both.ensures.some)))
            (subst (λ frames. AppendsPart (g.K.Sink.held c.args.capture.now) (g.K.Sink.held c.write_both.new.capture) (frame_octets c.args.head.now.order (shown c.args.input.now) frames)) told.frames_are
            (part_of c.write_both.result _ _ _ c.if-is_err.ensures.value c.write_both.ensures.octets)) refl;
        first = search rules;
      };
      stands = told.stands;
      octets = search rules;
    }

pub returns-then-is_err-2-clause-read : goal.returns-then-is_err-2-clause-read
returns-then-is_err-2-clause-read g c = λ trace mirror stands.
    let told = c.judge_both-told.ensures.judged trace mirror stands in
    record {
      written = record {
        whole = tt;
        few = tt;
        broke = report_broke _ _ _ _ _
            (subst (λ frames. Appends (g.K.Sink.held c.args.capture.now) (g.K.Sink.held c.write_both.new.capture) (frame_octets c.args.head.now.order (shown c.args.input.now) frames)) told.frames_are
            (whole_of c.write_both.result _ _ _ c.if-is_err.ensures.value c.write_both.ensures.octets))
            (subst (AppendsPart (g.R.Sink.held c.args.report.now) (g.R.Sink.held c.write_told.new.report)) (ap₂ (λ e t. entry_text e ++ t) told.own_is told.text_is)
            (part_of c.write_told.result _ _ _ c.if-is_err-2.ensures.value c.write_told.ensures.octets));
        first = search rules;
      };
      stands = told.stands;
      octets = search rules;
    }

pub returns-clause-read : goal.returns-clause-read
returns-clause-read g c = λ trace mirror stands.
    let told = c.judge_both-told.ensures.judged trace mirror stands in
    let size = length-append c.judge_both-told.new.out c.judge_both-told.new.behind in
    let count = ap length told.frames_are in
    let most = told.few in
    record {
      written = record {
        whole = record {
          frames_are = omega (arith, size, count);
          given = given_both _ _ _ _
              (subst (λ frames. Appends (g.K.Sink.held c.args.capture.now) (g.K.Sink.held c.write_both.new.capture) (frame_octets c.args.head.now.order (shown c.args.input.now) frames)) told.frames_are
              (whole_of c.write_both.result _ _ _ c.if-is_err.ensures.value c.write_both.ensures.octets))
              (subst (Appends (g.R.Sink.held c.args.report.now) (g.R.Sink.held c.write_told.new.report)) (ap₂ (λ e t. entry_text e ++ t) told.own_is told.text_is)
              (whole_of c.write_told.result _ _ _ c.if-is_err-2.ensures.value c.write_told.ensures.octets));
          none_rose = search rules;
        };
        few = omega (arith, size, most);
        broke = tt;
        first = tt;
      };
      stands = told.stands;
      octets = search rules;
    }
