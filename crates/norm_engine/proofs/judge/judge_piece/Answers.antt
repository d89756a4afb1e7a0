use Rattle.std.proofs.Common.{rules, [], ◌∷◌, subst}
use Rattle.norm_settings.specs.SettingValues.{plain_settings}
use Rattle.ip_rules.specs.Datagrams.{HasSizes}
use Rattle.reassembly.specs.DatagramFragments.{Fragment}
use Rattle.reassembly.specs.AssemblyState as fragments
use Rattle.reassembly.specs.RuleRows.{call_of}
use Rattle.norm_engine.specs.Fragments.{fragment_with}
use Rattle.norm_engine.specs.working.RecordJudgment.{judgment_with}
use Rattle.norm_engine.proofs.Fragments.{held_judged, dropped_judged, done_judged}
use Rattle.norm_engine.proofs.judge.judge_piece.Goals as goal

pub returns-in-Held-clause-rows : goal.returns-in-Held-clause-rows
returns-in-Held-clause-rows c = λ calls came stands held.
    let settings = plain_settings c.args.settings.now in
    held_judged settings calls came c.args.parsed.now.packet _ (fragment_with c.args.parsed.now.packet.head c.args.parsed.now.packet.payload.now) c.piece_of.ensures (c.in-Held.ensures.answer settings came held)

pub returns-in-Held-clause-pieces : goal.returns-in-Held-clause-pieces
returns-in-Held-clause-pieces c = λ came held.
    let settings = plain_settings c.args.settings.now in
    subst (λ (q : Fragment). fragments.StandsFor settings c.offer.new.self (call_of settings came c.args.now q ∷ came)) c.piece_of.ensures (c.offer.ensures.stands settings came held)

pub returns-in-Drop-clause-rows : goal.returns-in-Drop-clause-rows
returns-in-Drop-clause-rows c = λ calls came stands held.
    let settings = plain_settings c.args.settings.now in
    dropped_judged settings calls came c.args.parsed.now.packet _ (fragment_with c.args.parsed.now.packet.head c.args.parsed.now.packet.payload.now) c.in-Drop.rule c.piece_of.ensures (c.in-Drop.ensures.answer settings came held)

pub returns-in-Drop-clause-pieces : goal.returns-in-Drop-clause-pieces
returns-in-Drop-clause-pieces c = λ came held.
    let settings = plain_settings c.args.settings.now in
    subst (λ (q : Fragment). fragments.StandsFor settings c.offer.new.self (call_of settings came c.args.now q ∷ came)) c.piece_of.ensures (c.offer.ensures.stands settings came held)

pub returns-in-Done-clause-rows : goal.returns-in-Done-clause-rows
returns-in-Done-clause-rows c = λ calls came stands held.
    let settings = plain_settings c.args.settings.now in
    let head = c.make_whole.new.packet.head in
    let sizes : HasSizes head = record {
      tos = search rules;
      ident = search rules;
      ttl = search rules;
      protocol = search rules;
      source = search rules;
      destination = search rules;
    } in
    done_judged settings calls came c.args.parsed.now.packet _ (fragment_with c.args.parsed.now.packet.head c.args.parsed.now.packet.payload.now) c.in-Done.whole c.offer.new.buf c.make_whole.new.packet (judgment_with c.judge_whole.new.parsed c.judge_whole.result) c.piece_of.ensures
    (c.in-Done.ensures.answer settings came held) (c.in-Done.ensures.octets settings came held) c.make_whole.ensures sizes c.have_octets.ensures c.in-Done.ensures.short
    (c.judge_whole.ensures.rows calls [] stands)

pub returns-in-Done-clause-pieces : goal.returns-in-Done-clause-pieces
returns-in-Done-clause-pieces c = λ came held.
    let settings = plain_settings c.args.settings.now in
    subst (λ (q : Fragment). fragments.StandsFor settings c.offer.new.self (call_of settings came c.args.now q ∷ came)) c.piece_of.ensures (c.offer.ensures.stands settings came held)
