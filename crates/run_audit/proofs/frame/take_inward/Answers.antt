use Rattle.std.proofs.Common.{◌≡◌, ◌≢◌, ℕ, Some, nat_eq, arith}
use Rattle.std.proofs.lemmas.Grind.{common_steps}
use Rattle.indexmap.specs.IndexMap.{get}
use Rattle.run_audit.proofs.FrameFaults.{taken_in}
use Rattle.run_audit.proofs.frame.take_inward.Goals as goal

pub returns : goal.returns
returns c =
    let was : get nat_eq c.args.eras.now c.args.era ≡ Some c.in-Some.ledger.now = grind (arith, common_steps) in
    let is : get nat_eq (c.get_mut.follows.lender c.judge.new.self) c.args.era ≡ Some c.judge.new.self = grind (arith, common_steps) in
    let others : (other : ℕ) → other ≢ c.args.era → get nat_eq (c.get_mut.follows.lender c.judge.new.self) other ≡ get nat_eq c.args.eras.now other = λ other h. grind (arith, common_steps, h) in
    taken_in c.judge.result c.args.eras.now (c.get_mut.follows.lender c.judge.new.self) c.args.era c.in-Some.ledger.now c.judge.new.self c.args.segment was is others c.judge.ensures
