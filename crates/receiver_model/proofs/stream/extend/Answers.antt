use Rattle.std.proofs.Common.{◌≡◌, ◌∷◌, ◌++◌, [], pos, Some, arith, sym, ap, option_map}
use Rattle.std.proofs.lemmas.Grind.{common_steps}
use Rattle.receiver_model.specs.Policies.{octet_after}
use Rattle.receiver_model.specs.declared.policy.Waiting.{Waiting}
use Rattle.receiver_model.proofs.Streams.{extends_push}
use Rattle.receiver_model.proofs.stream.extend.Goals as goal

pub loop-waiting-preserved : goal.loop-waiting-preserved
loop-waiting-preserved c =
    let pushed : c.push.new.self.items ≡ c.loop-waiting.octets.items ++ c.in-Some.waiting.octet ∷ [] = grind (arith, common_steps) in
    let waits : octet_after c.args.policy c.args.base (c.args.pieces.now ++ c.args.new.now ∷ []) (pos c.loop-waiting.next) ≡ Some c.in-Some.waiting.octet = ap (option_map (λ (w : Waiting). w.octet)) (sym c.in-Some.ensures) in
    record {
      place = grind (arith, common_steps);
      extended = extends_push _ c.args.start c.args.octets.now.items c.loop-waiting.octets.items c.push.new.self.items c.in-Some.waiting.octet c.loop-waiting.invariant.extended (rw (← c.loop-waiting.invariant.place) waits) pushed;
      longer = grind (arith, common_steps);
      front = grind (arith, common_steps);
    }
