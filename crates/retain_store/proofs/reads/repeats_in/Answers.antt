use Rattle.std.proofs.Common.{◌+◌, ◌≤◌, ◌%◌, length, arith}
use Rattle.retain_store.specs.working.BlockCells.{blocks_in}
use Rattle.retain_store.proofs.Cells.{is_held}
use Rattle.retain_store.proofs.Blocks.{holds_found}
use Rattle.retain_store.proofs.Parts.{kept_agree, covered_told, held_covered, run_told}
use Rattle.retain_store.proofs.Room.{one_held}
use Rattle.retain_store.proofs.reads.repeats_in.Goals as goal

pub is_covered-requires-clause-held : goal.is_covered-requires-clause-held
is_covered-requires-clause-held c = is_held c.requires.chain_in_range c.requires.cell.at

pub has_run-requires-clause-covered : goal.has_run-requires-clause-covered
has_run-requires-clause-covered c =
    let fits : c.args.from % 256 + length c.args.bytes.now ≤ 256 = omega (arith, c.place_of-at.ensures) in
    held_covered _ _ _ _ c.place_of-at.ensures c.requires.chain_in_range c.requires.cell c.requires.kept.rising _ fits
    ((covered_told _ _ _ _ c.place_of-at.ensures c.requires.chain_in_range c.requires.cell c.requires.kept.rising _ fits _ c.is_covered.ensures).0 c.if-not-is_covered.false)

pub returns-clause-whole : goal.returns-clause-whole
returns-clause-whole c so =
    let fits : c.args.from % 256 + length c.args.bytes.now ≤ 256 = omega (arith, c.place_of-at.ensures) in
    record {
      covers = (covered_told _ _ _ _ c.place_of-at.ensures c.requires.chain_in_range c.requires.cell c.requires.kept.rising _ fits _ c.is_covered.ensures).0 c.if-not-is_covered.false;
      none_missing = one_held _ c.args.from _ c.requires.some fits (holds_found c.requires.kept c.requires.cell);
    }

pub returns-clause-agrees : goal.returns-clause-agrees
returns-clause-agrees c so =
    let fits : c.args.from % 256 + length c.args.bytes.now ≤ 256 = omega (arith, c.place_of-at.ensures) in
    kept_agree (blocks_in c.args.pool.now c.args.chain.0) c.args.from c.args.bytes.now
    ((run_told _ _ _ _ c.place_of-at.ensures c.requires.chain_in_range c.requires.cell c.requires.kept.rising c.args.bytes.now fits _ c.has_run.ensures).0 so)
