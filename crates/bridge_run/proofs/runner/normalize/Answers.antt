use Rattle.std.proofs.Common.{◌≡◌, ℕ, ◌<◌, ◌^◌, rules, true, List, inl, inr, refl, sym, subst, ap, ◌∙◌, Option}
use Rattle.std.proofs.lemmas.Result.{err_from_is_err_and, on_ok_weaker}
use Rattle.capture_input.specs.ReaderState.{Behind}
use Rattle.norm_settings.specs.SettingValues.{PlainSettings, plain_settings}
use Rattle.both_sides.specs.RelayState.{StandsForRun, is_full_of}
use Rattle.both_sides.specs.RunTraces.{empty_run}
use Rattle.both_sides.specs.declared.fault.RelayFault.{RelayFault}
use Rattle.both_sides.specs.declared.fault.RelayFault.TheVariants as sinks
use Rattle.bridge_run.specs.declared.stop.Stop.{Stop}
use Rattle.bridge_run.specs.RunMoments.{Moment, NoneRose, moment_of}
use Rattle.bridge_run.specs.Outputs.{stop_by}
use Rattle.bridge_run.specs.working.RunParts.{Ended}
use Rattle.bridge_run.specs.StopReasons.{FirstFault, FirstSinkFault, status_of}
use Rattle.bridge_run.proofs.Runs.{begins, handed, stops_between, none_counted, fewer_left, goes_on, stops_at_packet, stops_at_record, stops_at_too_many, took_more, if_err_weaker}
use Rattle.bridge_run.proofs.RunEnds.{normalized, stops_at_end, took_end}
use Rattle.bridge_run.proofs.Statuses.{first_at_sink, stands_faulty, stands_unwritten, input_is_not_7}
use Rattle.bridge_run.proofs.runner.normalize.Goals as goal

-- the first fault is that of the sink that could not be flushed
first_at_flush : (stop : Stop) (fault : RelayFault) (offset : ℕ) (a b c : Moment) → stop ≡ stop_by fault offset → NoneRose a b → c.source.faults ≡ b.source.faults → FirstSinkFault stop b.sinks c.sinks
    → FirstFault stop a c
first_at_flush stop sinks.Capture offset a b c is none kept first =
    let f : FirstSinkFault (stop_by sinks.Capture offset) b.sinks c.sinks = subst (λ (s : Stop). FirstSinkFault s b.sinks c.sinks) is first in
    subst (λ (s : Stop). FirstFault s a c) (sym is) (first_at_sink sinks.Capture offset a b c none kept (f.capture, f.report))
first_at_flush stop sinks.Report offset a b c is none kept first =
    let f : FirstSinkFault (stop_by sinks.Report offset) b.sinks c.sinks = subst (λ (s : Stop). FirstSinkFault s b.sinks c.sinks) is first in
    subst (λ (s : Stop). FirstFault s a c) (sym is) (first_at_sink sinks.Report offset a b c none kept (f.capture, f.report))

pub set_link-requires : goal.set_link-requires
set_link-requires g c = none_counted c.args.relay.now (plain_settings c.args.settings.now).both c.requires.stands

pub records-init : goal.records-init
records-init g c =
    let first : StandsForRun c.args.relay.now (empty_run (plain_settings c.args.settings.now).both) = c.requires.stands in
    let linked = c.set_link.ensures.stands (subst (λ (s : PlainSettings). StandsForRun c.args.relay.now (empty_run s.both)) (sym c.requires.settings) first) in
    record {
      may_ask = c.in_ok-input.ensures.begins.begun.goes_on;
      room = search rules;
      going = begins c.runs_go_on.ensures.begin (plain_settings c.args.settings.now) c.head-head.result _ _ c.set_link.new.self c.in_ok-input.input c.head-head.ensures
          (c.set_link.ensures.settings ∙ c.requires.settings) c.set_link.ensures.link
          (subst (λ (s : PlainSettings). StandsForRun c.set_link.new.self (empty_run s.both)) c.requires.settings linked) c.in_ok-input.ensures.begins.begun;
    }

pub records-smaller : goal.records-smaller
records-smaller g c =
    let going = c.records.invariant.going in
    let now : Moment = moment_of (g.S.Source.left c.next.new.source) (g.S.Source.fault_count c.next.new.source) (g.K.Sink.held c.records.capture) (g.K.Sink.fault_count c.records.capture) (g.R.Sink.held c.records.report) (g.R.Sink.fault_count c.records.report) in
    let gives = rw c.in-Ok-Some.field-0-is at (c.in-Ok-Some.ensures.octets (plain_settings c.args.settings.now).inside going.walk going.behind) in
    fewer_left (plain_settings c.args.settings.now) c.head-head.result _ _ c.records.relay c.records.input c.records.frames going now c.next.new.self c.in-Ok-Some.record gives c.runs_go_on.ensures.next
    c.relay.new.self c.relay.ensures.stands

pub relay-requires-clause-link : goal.relay-requires-clause-link
relay-requires-clause-link g c = c.records.invariant.going.engine_link

pub records-preserved : goal.records-preserved
records-preserved g c =
    let settings = plain_settings c.args.settings.now in
    let mid : Moment = moment_of (g.S.Source.left c.records.source) (g.S.Source.fault_count c.records.source) (g.K.Sink.held c.hand_on.new.capture) (g.K.Sink.fault_count c.hand_on.new.capture) (g.R.Sink.held c.hand_on.new.report) (g.R.Sink.fault_count c.hand_on.new.report) in
    let going = handed (plain_settings c.args.settings.now) c.head-head.result _ _ c.records.relay c.records.input c.records.frames c.records.invariant.going mid refl c.in_ok-hand_on.ensures.hands.handed in
    let gives = rw c.in-Ok-Some.field-0-is at (c.in-Ok-Some.ensures.octets settings.inside going.walk going.behind) in
    let seconds : c.in-Ok-Some.record.seconds < 2 ^ 32 = search rules in
    let fraction : c.in-Ok-Some.record.fraction < 2 ^ 32 = search rules in
    record {
      may_ask = gives.goes_on;
      room = search rules;
      going =
          goes_on settings c.head-head.result _ _ c.records.relay c.records.input c.records.frames going _ c.next.new.self c.in-Ok-Some.record gives c.runs_go_on.ensures.next
          c.relay.new.self c.in-Ok.count (search rules) (sym c.is_full.ensures ∙ c.if-is_full.false)
          c.in-Ok.ensures.written c.relay.ensures.stands c.relay.ensures.octets c.relay.ensures.settings c.relay.ensures.link
          (λ both. rw c.in-Ok-Some.field-0-is at (c.in-Ok-Some.ensures.sideless going.walk (subst (λ (inside : Option (List ℕ)). Behind c.records.input inside going.walk) (c.requires.together.inside both) going.behind)))
          seconds fraction;
    }

pub returns-in_err-hand_on-clause-ends : goal.returns-in_err-hand_on-clause-ends
returns-in_err-hand_on-clause-ends g c =
    let settings = plain_settings c.args.settings.now in
    let p = err_from_is_err_and c.from_residual-in_err-hand_on.result c.from_residual-in_err-hand_on.ensures.1 in
    let going = c.records.invariant.going in
    let now : Moment = moment_of (g.S.Source.left c.records.source) (g.S.Source.fault_count c.records.source) (g.K.Sink.held c.hand_on.new.capture) (g.K.Sink.fault_count c.hand_on.new.capture) (g.R.Sink.held c.hand_on.new.report) (g.R.Sink.fault_count c.hand_on.new.report) in
    let stops = c.in_err-hand_on.ensures.hands.stopped in
    rw (p.1, p.2) (record {
      finished = tt;
      stopped = record {
        stands = stands_unwritten settings _ stops.broke.fault c.place.result _ now stops.broke.answered
            (inr (inr (inr (inl (stops_between settings c.head-head.result _ _ c.records.relay c.records.input c.records.frames going now c.place.result _ refl c.place.ensures stops.broke)))));
        first = first_at_flush _ stops.broke.fault c.place.result _ _ now stops.broke.answered going.so_far.none_rose refl stops.first;
      };
    })

pub returns-in-Err-clause-ends : goal.returns-in-Err-clause-ends
returns-in-Err-clause-ends g c =
    let mid : Moment = moment_of (g.S.Source.left c.records.source) (g.S.Source.fault_count c.records.source) (g.K.Sink.held c.hand_on.new.capture) (g.K.Sink.fault_count c.hand_on.new.capture) (g.R.Sink.held c.hand_on.new.report) (g.R.Sink.fault_count c.hand_on.new.report) in
    let going = handed (plain_settings c.args.settings.now) c.head-head.result _ _ c.records.relay c.records.input c.records.frames c.records.invariant.going mid refl c.in_ok-hand_on.ensures.hands.handed in
    let stops = c.in-Err.ensures.octets (plain_settings c.args.settings.now).inside going.walk going.behind in
    let now : Moment = moment_of (g.S.Source.left c.next.new.source) (g.S.Source.fault_count c.next.new.source) (g.K.Sink.held c.hand_on.new.capture) (g.K.Sink.fault_count c.hand_on.new.capture) (g.R.Sink.held c.hand_on.new.report) (g.R.Sink.fault_count c.hand_on.new.report) in
    record {
      finished = tt;
      stopped = record {
        stands = rw c.stop_at_fault.ensures (stands_faulty (plain_settings c.args.settings.now) c.in-Err.fault c.offset.result _ now
            (inr (stops_at_record (plain_settings c.args.settings.now) c.head-head.result _ _ c.records.relay c.records.input c.records.frames going now c.next.new.self c.in-Err.fault c.offset.result stops c.offset.ensures refl)));
        first = search rules;
      };
    }

pub returns-then-is_full-clause-ends : goal.returns-then-is_full-clause-ends
returns-then-is_full-clause-ends g c =
    let mid : Moment = moment_of (g.S.Source.left c.records.source) (g.S.Source.fault_count c.records.source) (g.K.Sink.held c.hand_on.new.capture) (g.K.Sink.fault_count c.hand_on.new.capture) (g.R.Sink.held c.hand_on.new.report) (g.R.Sink.fault_count c.hand_on.new.report) in
    let going = handed (plain_settings c.args.settings.now) c.head-head.result _ _ c.records.relay c.records.input c.records.frames c.records.invariant.going mid refl c.in_ok-hand_on.ensures.hands.handed in
    let now : Moment = moment_of (g.S.Source.left c.next.new.source) (g.S.Source.fault_count c.next.new.source) (g.K.Sink.held c.hand_on.new.capture) (g.K.Sink.fault_count c.hand_on.new.capture) (g.R.Sink.held c.hand_on.new.report) (g.R.Sink.fault_count c.hand_on.new.report) in
    let gives = rw c.in-Ok-Some.field-0-is at (c.in-Ok-Some.ensures.octets (plain_settings c.args.settings.now).inside going.walk going.behind) in
    let full : is_full_of c.records.relay ≡ true = sym c.is_full.ensures ∙ c.if-is_full.true in
    record {
      finished = tt;
      stopped = record {
        stands = rw c.stop_at_too_many.ensures (inr (stops_at_too_many (plain_settings c.args.settings.now) c.head-head.result _ _ c.records.relay c.records.input c.records.frames going now c.next.new.self c.in-Ok-Some.record gives
            c.in-Ok-Some.record.offset refl full refl));
        first = search rules;
      };
    }

pub returns-in-Err-relay-clause-ends : goal.returns-in-Err-relay-clause-ends
returns-in-Err-relay-clause-ends g c =
    let settings = plain_settings c.args.settings.now in
    let now : Moment = moment_of (g.S.Source.left c.next.new.source) (g.S.Source.fault_count c.next.new.source) (g.K.Sink.held c.relay.new.capture) (g.K.Sink.fault_count c.relay.new.capture) (g.R.Sink.held c.relay.new.report) (g.R.Sink.fault_count c.relay.new.report) in
    let mid : Moment = moment_of (g.S.Source.left c.records.source) (g.S.Source.fault_count c.records.source) (g.K.Sink.held c.hand_on.new.capture) (g.K.Sink.fault_count c.hand_on.new.capture) (g.R.Sink.held c.hand_on.new.report) (g.R.Sink.fault_count c.hand_on.new.report) in
    let going = handed (plain_settings c.args.settings.now) c.head-head.result _ _ c.records.relay c.records.input c.records.frames c.records.invariant.going mid refl c.in_ok-hand_on.ensures.hands.handed in
    let gives = rw c.in-Ok-Some.field-0-is at (c.in-Ok-Some.ensures.octets settings.inside going.walk going.behind) in
    let at = stops_at_packet settings c.head-head.result _ _ c.records.relay c.records.input c.records.frames going now c.next.new.self c.in-Ok-Some.record gives c.runs_go_on.ensures.next
    (sym c.is_full.ensures ∙ c.if-is_full.false) c.in-Err-relay.fault c.in-Err-relay.ensures.written in
    record {
      finished = tt;
      stopped = record {
        stands = rw c.stop_at_sink.ensures (stands_unwritten settings _ c.in-Err-relay.fault c.in-Ok-Some.record.offset _ now refl (inr (inr (inl at))));
        first = rw c.stop_at_sink.ensures (first_at_sink c.in-Err-relay.fault c.in-Ok-Some.record.offset _ _ _ going.so_far.none_rose (search rules) (c.in-Err-relay.ensures.written going.run going.stands).first);
      };
    }

pub returns-clause-ends : goal.returns-clause-ends
returns-clause-ends g c =
    let now : Moment = moment_of (g.S.Source.left c.next.new.source) (g.S.Source.fault_count c.next.new.source) (g.K.Sink.held c.finish.new.capture) (g.K.Sink.fault_count c.finish.new.capture) (g.R.Sink.held c.finish.new.report) (g.R.Sink.fault_count c.finish.new.report) in
    let mid : Moment = moment_of (g.S.Source.left c.records.source) (g.S.Source.fault_count c.records.source) (g.K.Sink.held c.hand_on.new.capture) (g.K.Sink.fault_count c.hand_on.new.capture) (g.R.Sink.held c.hand_on.new.report) (g.R.Sink.fault_count c.hand_on.new.report) in
    let going = handed (plain_settings c.args.settings.now) c.head-head.result _ _ c.records.relay c.records.input c.records.frames c.records.invariant.going mid refl c.in_ok-hand_on.ensures.hands.handed in
    let ends = rw c.in-Ok-None.field-0-is at (c.in-Ok-None.ensures.octets (plain_settings c.args.settings.now).inside going.walk going.behind) in
    record {
      finished = on_ok_weaker c.finish.result
          (λ (e : Ended c.records-2.result c.records.frames _ _). record {
            normalized = normalized (plain_settings c.args.settings.now) c.head-head.result _ _ c.records.relay c.records.input c.records.frames going now c.next.new.self c.whole_is_input.ensures ends c.records-2.result c.records-2.ensures
                c.runs_are_written_soundly.ensures c.runs_invent_nothing.ensures c.requires.range c.requires.together e;
            none_rose = search rules;
          })
          c.finish.ensures.closes.ended;
      stopped = if_err_weaker c.finish.result
          (λ stop broke. record {
            stands = stands_unwritten (plain_settings c.args.settings.now) stop broke.broke.fault c.offset-2.result _ now broke.broke.answered
                (inr (inr (inr (inr (stops_at_end (plain_settings c.args.settings.now) c.head-head.result _ _ c.records.relay c.records.input c.records.frames going now c.next.new.self c.whole_is_input.ensures ends c.records-2.result c.records-2.ensures
                c.offset-2.result stop c.offset-2.ensures broke.broke)))));
            first = search rules;
          })
          c.finish.ensures.closes.stopped;
    }

pub returns-in-Err-clause-opened : goal.returns-in-Err-clause-opened
returns-in-Err-clause-opened g c = λ seven. absurd (input_is_not_7 c.in-Err.fault c.offset.result (sym (ap status_of c.stop_at_fault.ensures) ∙ seven))

pub returns-in-Err-relay-clause-opened : goal.returns-in-Err-relay-clause-opened
returns-in-Err-relay-clause-opened g c =
    let settings = plain_settings c.args.settings.now in
    let now : Moment = moment_of (g.S.Source.left c.next.new.source) (g.S.Source.fault_count c.next.new.source) (g.K.Sink.held c.relay.new.capture) (g.K.Sink.fault_count c.relay.new.capture) (g.R.Sink.held c.relay.new.report) (g.R.Sink.fault_count c.relay.new.report) in
    let going = c.records.invariant.going in
    let gives = rw c.in-Ok-Some.field-0-is at (c.in-Ok-Some.ensures.octets settings.inside going.walk going.behind) in
    λ seven. inr (c.head-head.result, gives.farther, took_more settings c.head-head.result _ _ c.records.relay c.records.input c.records.frames going now c.next.new.self c.in-Ok-Some.record gives)

pub returns-clause-opened : goal.returns-clause-opened
returns-clause-opened g c =
    let settings = plain_settings c.args.settings.now in
    let now : Moment = moment_of (g.S.Source.left c.next.new.source) (g.S.Source.fault_count c.next.new.source) (g.K.Sink.held c.finish.new.capture) (g.K.Sink.fault_count c.finish.new.capture) (g.R.Sink.held c.finish.new.report) (g.R.Sink.fault_count c.finish.new.report) in
    let going = c.records.invariant.going in
    let ends = rw c.in-Ok-None.field-0-is at (c.in-Ok-None.ensures.octets settings.inside going.walk going.behind) in
    let took = took_end settings c.head-head.result _ _ c.records.relay c.records.input c.records.frames going now c.next.new.self c.whole_is_input.ensures ends c.records-2.result c.records-2.ensures in
    if_err_weaker c.finish.result (λ stop closes seven. inr (c.head-head.result, ends.farther, took)) c.finish.ensures.closes.stopped
