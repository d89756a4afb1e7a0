use Rattle.std.proofs.Common.{◌≡◌, ◌++◌, take, map}
use Rattle.std.specs.List.{flat_map}
use Rattle.frame_view.specs.Changes.{changes_in, plain}
use Rattle.frame_view.proofs.change.add_changes.Given as goal

-- what differs in the fields so far is added
abbrev pub invariant-loop-field : goal.invariant-loop-field
invariant-loop-field l =
    map plain l.changes.items
    ≡ map plain l.initial.changes.items ++ flat_map (changes_in l.pair.link l.pair.number l.pair.octets.now l.pair.frame.now) (take l.field-index l.field-items)
