-- The return of four streams to their marks (this project's profile).
use Rattle.std.specs.Prelude.{◌≡◌}
use Rattle.receiver_model.specs.working.StreamMarks.{gone_back, mark_of}
use Rattle.receiver_model.specs.Streams.{StreamState}
use Rattle.receiver_model.specs.Families.{FamilyState}

-- a stream that returns to its mark is as it was
abbrev pub GoesBack : (before after : StreamState) → Type 0
GoesBack before after = gone_back after (mark_of before) ≡ before

-- this holds for each of the four
pub record EachGoesBack (before after : FamilyState) : Type 0 where
  pub first : GoesBack before.first after.first
  pub newest : GoesBack before.newest after.newest
  pub left : GoesBack before.left after.left
  pub right : GoesBack before.right after.right
