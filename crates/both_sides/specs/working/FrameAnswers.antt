-- The answers of two engines for one record, frame by frame.
use Rattle.std.specs.Prelude.{◌≡◌, ℕ, ◌≤◌, List, [], ◌∷◌, ◌++◌, length, Option, Some, None, IfSome}
use Rattle.pcap_file.specs.Records.{Packet}
use Rattle.rule_book.specs.Entries.{PlainEntry, IsOfVersion}
use Rattle.norm_engine.specs.Items.{Item}
use Rattle.norm_engine.specs.Trace.{item_of}
use Rattle.both_sides.specs.TwoEngines.{Joined, StandsFor}
use Rattle.both_sides.specs.Traces.{mirrored, records_for}
use Rattle.both_sides.specs.RecordOutputs.{answer_text, answers_frames, answers_text}
use Rattle.both_sides.specs.RunTraces.{answers}

-- no frame was pending, and the engines represent what they did before
pub record HadNone (new : Joined) (trace mirror : List Item) (entry : Option PlainEntry) (out : List (List ℕ)) : Type 0 where
  pub none : entry ≡ None
  pub empty : out ≡ []
  pub stands : StandsFor new trace mirror
  pub pending : new.pending ≡ []

-- the second engine has read the next pending frame
pub record HadNext (old new : Joined) (trace mirror : List Item) (r : Packet) (more : List Packet) (entry : Option PlainEntry) (out : List (List ℕ)) : Type 0 where
  pub told : entry ≡ Some (item_of (mirrored old.first.settings) old.first.link mirror r).entry
  pub frames : out ≡ (item_of (mirrored old.first.settings) old.first.link mirror r).frames
  pub stands : StandsFor new trace (item_of (mirrored old.first.settings) old.first.link mirror r ∷ mirror)
  pub pending : new.pending ≡ more

-- the answer of the second engine to the next of these pending frames, if there is one
abbrev pub Answers : (old new : Joined) (trace mirror : List Item) (pending : List Packet) (entry : Option PlainEntry) (out : List (List ℕ)) → Type 0
Answers old new trace mirror [] entry out = HadNone new trace mirror entry out
Answers old new trace mirror (r ∷ more) entry out = HadNext old new trace mirror r more entry out

-- the line of the second engine, if it answered
abbrev pub line_for : Option PlainEntry → List ℕ
line_for None = []
line_for (Some entry) = answer_text entry

-- The answers of two engines for a record after their traces: the entry of the record, those that
-- the second engine has for the frames of the first (at most two), and the frames written. The
-- engines then represent their traces with these items.
pub record IsJudged (old new : Joined) (trace mirror : List Item) (r : Packet) (own : PlainEntry) (first second : Option PlainEntry) (frames : List (List ℕ)) : Type 0 where
  pub own_is : own ≡ (item_of old.first.settings old.first.link trace r).entry
  pub text_is : line_for first ++ line_for second
      ≡ answers_text (answers old.first.settings old.first.link mirror (records_for (item_of old.first.settings old.first.link trace r)))
  pub frames_are : frames ≡ answers_frames (answers old.first.settings old.first.link mirror (records_for (item_of old.first.settings old.first.link trace r)))
  pub few : length frames ≤ 4
  pub own_told : IsOfVersion 2 own
  pub first_told : IfSome first (IsOfVersion 2)
  pub second_told : IfSome second (IsOfVersion 2)
  pub stands : StandsFor new (item_of old.first.settings old.first.link trace r ∷ trace)
      (answers old.first.settings old.first.link mirror (records_for (item_of old.first.settings old.first.link trace r)) ++ mirror)
