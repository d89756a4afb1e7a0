use Rattle.std.proofs.Common.{rules, refl, ap₂, ◌++◌, ◌∙◌}
use Rattle.pcapng_file.proofs.Bodies.{joined_is}
use Rattle.pcapng_file.proofs.block.joined.Goals as goal

pub returns : goal.returns
returns c =
    joined_is c.copy_from_slice.new.self _ c.copy_from_slice-2.new.self (search rules) refl ∙ ap₂ (λ h b. h ++ b) c.copy_from_slice.ensures.after c.copy_from_slice-2.ensures.after
