use Rattle.std.proofs.Common.{sym}
use Rattle.retain_store.proofs.Blocks.{holds_found, holds_missing, place_near}
use Rattle.retain_store.proofs.reads.look_up.Goals as goal

pub returns-in-Cell-clause-held : goal.returns-in-Cell-clause-held
returns-in-Cell-clause-held c = sym (holds_found c.requires.kept c.in-Cell.ensures)

pub returns-in-After-clause-held : goal.returns-in-After-clause-held
returns-in-After-clause-held c = sym (holds_missing c.requires.kept.rising c.in-After.ensures)

pub returns-in-After-clause-near : goal.returns-in-After-clause-near
returns-in-After-clause-near c = place_near c.in-After.ensures
