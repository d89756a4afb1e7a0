-- The numbers of values in C's structs (this project's profile, contrib/lib/norm.h).
use Rattle.std.specs.Prelude.{ℕ, ◌==◌, Option, Some, None, if◌then◌else◌}
use Rattle.wire_base.specs.declared.address.Link.TheVariants.{Ethernet, Raw}
use Rattle.rule_book.specs.declared.entry.Verdict.{Verdict}
use Rattle.rule_book.specs.declared.entry.Verdict.TheVariants.{Pass, Fix, Hold, Drop}
use Rattle.norm_gate.specs.declared.arrival.Arrival.{Arrival}
use Rattle.norm_gate.specs.declared.arrival.Frames.{Frames}
use Rattle.norm_gate.specs.declared.arrival.Frames.TheVariants.{Ports, Capture}
use Rattle.norm_gate.specs.declared.arrival.Port.{Port}
use Rattle.norm_gate.specs.declared.arrival.Port.TheVariants.{Outside, Inside}
use Rattle.norm_gate.specs.declared.fate.Fate.{Fate}
use Rattle.norm_gate.specs.declared.fate.Fate.TheVariants.{Judged, Forged, Crosses, Unjudged, TooLong, Truncated}
use Rattle.norm_gate.specs.declared.gate.Answer.{Answer}
use Rattle.norm_c.specs.declared.plain.AnswerWords.{AnswerWords}
use Rattle.norm_c.specs.declared.plain.ArrivalWords.{ArrivalWords}

-- the kind of frames with a number: of two ports, or of a capture
abbrev pub frames_numbered : ℕ → Option Frames
frames_numbered number =
    if number == 0 then Some Ports
    else if number == 1 then Some (Capture Ethernet)
    else if number == 2 then Some (Capture Raw)
    else None

-- the port with a number: 1 is the inside port; 0 and, for captures, any other the outside port
abbrev pub port_numbered : ℕ → Port
port_numbered number = if number == 1 then Inside else Outside

-- how a frame arrived
abbrev pub arrival_told : ArrivalWords → Arrival
arrival_told words =
    record { port = port_numbered words.port; tag = words.tag; seconds = words.seconds; fraction = words.fraction; original = words.original }

-- the number of a fate
abbrev pub number_of_fate : Fate → ℕ
number_of_fate Judged = 0
number_of_fate Forged = 1
number_of_fate Crosses = 2
number_of_fate Unjudged = 3
number_of_fate TooLong = 4
number_of_fate Truncated = 5

-- the number of a verdict
abbrev pub number_of_verdict : Verdict → ℕ
number_of_verdict Pass = 0
number_of_verdict Fix = 1
number_of_verdict Hold = 2
number_of_verdict Drop = 3

-- the number of a port, or of none
abbrev pub number_of_port : Option Port → ℕ
number_of_port (Some Outside) = 0
number_of_port (Some Inside) = 1
number_of_port None = 2

-- the numbers of an answer
abbrev pub answer_words : Answer → AnswerWords
answer_words answer =
    record {
      fate = number_of_fate answer.fate;
      records = answer.records;
      verdict = number_of_verdict answer.verdict;
      frames = answer.frames;
      port = number_of_port answer.port;
      as_read = answer.as_read;
    }
