-- The output for each record of a run: its frames as they are written, and its text in the report
-- (this project's profile). Lists of outputs have the newest at the head.
use Rattle.std.specs.Prelude.{◌≡◌, ℕ, ◌+◌, Bool, List, [], ◌∷◌, ◌++◌, length, map, take, drop}
use Rattle.std.specs.List.{flat_map}
use Rattle.wire_base.specs.declared.address.Link.{Link}
use Rattle.pcap_file.specs.declared.record.Order.{Order}
use Rattle.pcap_file.specs.Records.{Packet, record_octets}
use Rattle.rule_book.specs.declared.last.Last.{Last}
use Rattle.rule_book.specs.Entries.{PlainEntry}
use Rattle.rule_book.specs.Text.{entry_text, last_text}
use Rattle.norm_settings.specs.SettingValues.{PlainSettings}
use Rattle.norm_engine.specs.Items.{Item}
use Rattle.norm_engine.specs.Trace.{item_of}
use Rattle.both_sides.specs.Traces.{records_for}
use Rattle.norm_engine.specs.WrittenTrace.{item_written}
use Rattle.both_sides.specs.Outputs.{Output, to_capture, to_report, Given, heading}
use Rattle.both_sides.specs.RunTraces.{RunTrace, one, two, answers}
use Rattle.both_sides.specs.Sinks.{Sinks, NoSinkRose}

-- the frames that are written for a record, with its time, and its text in the report
pub record Put : Type 0 where
  pub seconds : ℕ
  pub fraction : ℕ
  pub frames : List (List ℕ)
  pub text : List ℕ

-- by one engine: the frames of an item, and its line
abbrev pub put_by_one : Item → Put
put_by_one item = record { seconds = item.packet.seconds; fraction = item.packet.fraction; frames = item.frames; text = entry_text item.entry }

-- the line of the second engine: that of its entry after `/` (47)
abbrev pub answer_text : PlainEntry → List ℕ
answer_text entry = 47 ∷ entry_text entry

-- the lines of these items of the second engine
abbrev pub answers_text : List Item → List ℕ
answers_text [] = []
answers_text (item ∷ older) = answers_text older ++ answer_text item.entry

-- the frames of these items, in the order in which they are written
abbrev pub answers_frames : List Item → List (List ℕ)
answers_frames [] = []
answers_frames (item ∷ older) = answers_frames older ++ item.frames

-- by two engines: the frames that the second has for those of the first, and the line of the record
-- followed by the lines of the second
abbrev pub put_by_two : Item → (answers : List Item) → Put
put_by_two item answers =
    record {
      seconds = item.packet.seconds;
      fraction = item.packet.fraction;
      frames = answers_frames answers;
      text = entry_text item.entry ++ answers_text answers;
    }

-- the same for each record: the second engine has as many items for it as the first has frames
abbrev pub puts_by_two : (trace mirror : List Item) → List Put
puts_by_two [] mirror = []
puts_by_two (item ∷ older) mirror =
    let count = length item.frames in
    put_by_two item (take count mirror) ∷ puts_by_two older (drop count mirror)

-- the output for each record: by one engine its item as it is written
abbrev pub puts : PlainSettings → Link → RunTrace → List Put
puts settings link (one trace) = map (λ item. put_by_one (item_written settings.mtu link item)) trace
puts settings link (two trace mirror) = puts_by_two trace mirror

-- the output for the next record
abbrev pub next_put : PlainSettings → Link → RunTrace → Packet → Put
next_put settings link (one trace) r = put_by_one (item_written settings.mtu link (item_of settings link trace r))
next_put settings link (two trace mirror) r =
    let item = item_of settings link trace r in
    put_by_two item (answers settings link mirror (records_for item))

-- the records of the written capture for these frames
abbrev pub put_octets : Order → Put → List ℕ
put_octets order put = flat_map (λ frame. record_octets order put.seconds put.fraction frame) put.frames

-- what is written for a record: all its frames, and then its text
abbrev pub put_outputs : Order → Put → List Output
put_outputs order put = to_capture (put_octets order put) ∷ to_report put.text ∷ []

-- the records of all frames, in the order in which they were written
abbrev pub octets_put : Order → List Put → List ℕ
octets_put order [] = []
octets_put order (put ∷ older) = octets_put order older ++ put_octets order put

-- the number of frames written
abbrev pub count_put : List Put → ℕ
count_put [] = 0
count_put (put ∷ older) = count_put older + length put.frames

-- the texts of all records
abbrev pub text_put : List Put → List ℕ
text_put [] = []
text_put (put ∷ older) = text_put older ++ put.text

-- the entire report: the first line, the texts of the records, and the last line
abbrev pub report_of : (both : Bool) → List Put → Last → List ℕ
report_of both puts last = heading both ++ text_put puts ++ last_text last

-- the output for a record was written, it has `frames` frames, and no sink failed
pub record IsPut (order : Order) (put : Put) (frames : ℕ) (before now : Sinks) : Type 0 where
  pub frames_are : frames ≡ length put.frames
  pub given : Given (put_outputs order put) before now
  pub none_rose : NoSinkRose before now
