use Rattle.std.proofs.Common.{◌≡◌, ◌+◌, ◌<◌, ◌++◌, ℕ, List, take, get_or, map, sym, ap, ◌∙◌}
use Rattle.std.specs.List.{flat_map}
use Rattle.std.proofs.lemmas.List.{flat_map_more, take_more}
use Rattle.frame_view.specs.Changes.{PlainChange, changes_in, plain}
use Rattle.frame_view.specs.Readings.{fields}
use Rattle.frame_view.specs.declared.field.Field.{Field}
use Rattle.frame_view.specs.declared.field.Field.TheVariants.{LinkHeader}
use Rattle.frame_view.proofs.change.add_changes.Goals as goal

-- what differs in one field more
step : (f : Field → List PlainChange) (before now new : List PlainChange) (i : ℕ) → i < 30 → now ≡ before ++ flat_map f (take i fields) → new ≡ now ++ f (get_or fields i LinkHeader) →
    new ≡ before ++ flat_map f (take (i + 1) fields)
step f before now new i h e n =
    n ∙ ap (λ t. t ++ f (get_or fields i LinkHeader)) e ∙ flat_map_more f before (take i fields) (get_or fields i LinkHeader)
    ∙ ap (λ t. before ++ flat_map f t) (sym (take_more fields i LinkHeader h))

pub loop-field-preserved : goal.loop-field-preserved
loop-field-preserved c =
    let more = c.loop-field-test.true in
    let added = c.in_ok-add_change.ensures in
    step (changes_in c.args.link c.args.number c.args.octets.now c.args.frame.now) (map plain c.args.changes.now.items) _ _ c.loop-field.field-index more c.loop-field.invariant added
