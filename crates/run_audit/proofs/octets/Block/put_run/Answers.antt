use Rattle.std.proofs.Common.{◌+◌, ◌&&◌, ◌||◌, not, Bool, None, drop, sym, ap, ◌∙◌}
use Rattle.std.proofs.lemmas.Bool.{and_parts, not-true}
use Rattle.run_audit.specs.working.KeptOctets.{octet_in, some_stray}
use Rattle.run_audit.proofs.KeptOctets.{put_strays, put_kept}
use Rattle.run_audit.proofs.octets.Block.put_run.Goals as goal

pub loop-count-preserved : goal.loop-count-preserved
loop-count-preserved c = record {
  right = ap (λ (b : Bool). not (c.loop-count.right && b) || some_stray (octet_in c.put-right.new.self) None (c.args.index + (c.loop-count.count + 1)) (drop (c.loop-count.count + 1) c.args.octets.now)) c.put-right.ensures.same
      ∙ put_strays (octet_in c.loop-count.self) (octet_in c.put-right.new.self) c.args.index c.loop-count.count c.args.octets.now c.loop-count.right c.loop-count-test.true c.put-right.ensures.kept
      ∙ c.loop-count.invariant.right;
  kept = λ right at.
      let both = and_parts c.loop-count.right c.put-right.result right in
      put_kept (octet_in c.loop-count.self) (octet_in c.put-right.new.self) c.args.index c.loop-count.count c.args.octets.now c.loop-count-test.true c.put-right.ensures.kept (not-true _ (sym c.put-right.ensures.same ∙ both.1)) at
      ∙ c.loop-count.invariant.kept both.0 at;
}
