use Rattle.std.proofs.Common.{ℕ, ◌-◌, List, length, take, drop, ap, ◌∙◌, arith, length-drop}
use Rattle.std.proofs.lemmas.List.{take_all}
use Rattle.frame_view.proofs.parts.options_in.Goals as goal

pub returns : goal.returns
returns c =
    let whole : List ℕ = take c.data_offset.result c.args.segment.now in
    take_all (length whole - 20) (drop 20 whole) (omega (arith, length-drop 20 whole))
    ∙ ap (λ n. drop 20 (take n c.args.segment.now)) c.data_offset.ensures
