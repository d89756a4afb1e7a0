use Rattle.std.proofs.Common.{◌≡◌, ◌∙◌, [], ◌∷◌, false, Option, None, Some, is_some, refl, sym, ap, subst}
use Rattle.ip_rules.specs.Datagrams.{frames_of}
use Rattle.era_state.specs.declared.probe.Probe.{Probe}
use Rattle.tcp_norm.specs.Calls.{Outcome}
use Rattle.tcp_norm.specs.PassedPackets.{Reports}
use Rattle.tcp_norm.specs.EmittedPackets.{packet_by, probe_packets}
use Rattle.tcp_norm.specs.working.InwardSegments.{passed}
use Rattle.tcp_norm.specs.declared.step.Ruling.TheVariants.{Pass}
use Rattle.tcp_norm.specs.working.Rulings.{outcome_of}
use Rattle.tcp_norm.proofs.state.TcpNorm.pass.Goals as goal

none_asked : (probe : Option Probe) → is_some probe ≡ false → probe ≡ None
none_asked None e = refl
none_asked (Some p) e = cc

pub returns-then-is_none : goal.returns-then-is_none
returns-then-is_none c =
    let a = c.args.arrival.now in
    let p = c.args.passage in
    record {
      same = record { table_is = refl; stays = λ settings calls st. st; calls_are = refl; latest_is = refl };
      unsent = c.emit_read.ensures.unsent;
      shows = λ settings ws d opened is carried.
          let own = packet_by settings ws d d.fixes p.rows.items in
          let alone : outcome_of settings ws d (Pass p) ≡ passed p.step d.fixes p.rows.items (own ∷ []) =
          ap (λ probe. passed p.step d.fixes p.rows.items (own ∷ probe_packets settings d probe)) (none_asked p.probe c.if-is_none.ensures) in
          record {
            entry = subst (Reports c.args.entry.now c.report_passed.new.entry) (sym alone)
                (subst (λ fixes. Reports c.args.entry.now c.report_passed.new.entry (passed p.step fixes p.rows.items (own ∷ []))) (sym is.fixes) (c.report_passed.ensures (own ∷ []) refl));
            frames = c.emit_read.ensures.frames settings d ws p.rows.items opened is (sym c.if-is_empty.ensures) ∙ ap (λ (o : Outcome). frames_of a.link.now o.packets) (sym alone);
          };
    }
