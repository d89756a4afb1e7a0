-- Reading the records of the input and the frames of the output: what it gives, why it stops, and
-- what is gathered of the frames of a record.
use Rattle.std.proofs.Common.{ℕ, List, length, Option, Some, None, IfSome, inr, ◌≡◌, true, false, Err, refl, sym, ap, subst, ◌∙◌, inl, [], ◌∷◌, Ok, arith, ◌+◌, ◌<◌, ◌&&◌, not, Bool, ◌++◌}
use Rattle.pcap_file.specs.declared.head.Head.{Head}
use Rattle.pcap_file.specs.ReaderState.{Reading}
use Rattle.pcap_file.specs.Records.{Packet}
use Rattle.capture_input.specs.Inputs.{FailsInHead, IsFlawed, Took, Walk, place_behind}
use Rattle.capture_input.specs.declared.fault.InputFault.{InputFault}
use Rattle.capture_input.specs.declared.input.Input.{Input}
use Rattle.edge_io.specs.FaultCounts.{Rose}
use Rattle.capture_input.specs.declared.fault.InputFault.TheVariants as faults
use Rattle.capture_input.specs.Faults.{is_read_fault, of_record}
use Rattle.capture_input.specs.Inputs as walks
use Rattle.capture_input.specs.InputLaws.{WholeIsInput}
use Rattle.capture_input.proofs.Stops.{before_interface, block_flawed, not_read, record_flawed, refuses}
use Rattle.capture_input.specs.ReaderState.{Behind, asked_in, head_in}
use Rattle.capture_input.specs.RecordReading.{ReachesEnd, Reads, StopsAt, StopsInHead}
use Rattle.capture_input.proofs.Inputs.{fault_no_end}
use Rattle.run_view.proofs.Oldest.{BeginsWithFrames, BeginsWithRecords}
use Rattle.run_view.specs.RunFiles.{IsNoInput, IsNoCapture}
use Rattle.run_view.specs.working.ReaderPositions.{InputAt, InputReads, InputStop, OutputAt, OutputStop}
use Rattle.run_view.specs.working.StopCauses.{input_stop, output_stop}
use Rattle.pcap_file.specs.declared.reader.RecordFault.{RecordFault}
use Rattle.pcap_file.specs.declared.reader.RecordFault.TheVariants as records
use Rattle.pcap_file.specs.Flaws as classic
use Rattle.pcap_file.specs.FileHead.{head_of}
use Rattle.pcap_file.specs.Capture.{offset_of}
use Rattle.pcap_file.specs.RecordReading.{FailsWith, HasFlaw}
use Rattle.pcap_file.specs.HeadReading.{Begins}
use Rattle.pcap_file.proofs.Captures.{flaw_no_end}
use Rattle.run_view.specs.working.SourceContents.{TookFrames}
use Rattle.run_view.specs.working.RecordReading.{FrameAdded, FrameStop, FramesRead, FramesStop, PlainOriginal, RecordRead}
use Rattle.run_view.specs.declared.item.Frames.{Frames}
use Rattle.run_view.specs.declared.item.Gathered.{Gathered}
use Rattle.run_view.specs.declared.stop.Stop.{Stop}
use Rattle.run_view.proofs.Stopping.{says_more}

-- What a source begins with.

pub begins_at : (input : Input) (head : Head) (all left : Option (List ℕ)) (packets : List Packet) → InputAt input head all left packets
    → BeginsWithRecords all head packets
begins_at input head all left packets at = record { walk = at.walk; left = left; took = at.took; packets_are = at.packets_are }

pub frames_at : (reader : Reading) (head : Head) (all left : Option (List ℕ)) (frames : List Packet) → OutputAt reader head all left frames
    → BeginsWithFrames all head frames
frames_at reader head all left frames at = record { left = left; took = at.took }

-- Reading the records of the input.

-- a fault of the octets, or of the source, is what the stop says
stop_so : (all : Option (List ℕ)) (before now : ℕ) (fault : InputFault) (offset : ℕ) → (is_read_fault fault ≡ false → IsNoInput all)
    → (fault ≡ faults.ReadFault → Rose before now) → InputStop all before now (input_stop fault offset)
stop_so all before now faults.ReadFault offset fails unread = record { is = unread refl }
stop_so all before now faults.Cut offset fails unread = record { is = (refl, fails refl) }
stop_so all before now faults.Magic offset fails unread = record { is = (refl, fails refl) }
stop_so all before now faults.Version offset fails unread = record { is = (refl, fails refl) }
stop_so all before now faults.Link offset fails unread = record { is = (refl, fails refl) }
stop_so all before now faults.Block offset fails unread = record { is = (refl, fails refl) }
stop_so all before now faults.Long offset fails unread = record { is = (refl, fails refl) }
stop_so all before now faults.Many offset fails unread = record { is = (refl, fails refl) }

-- the head
head_fails : (all now : Option (List ℕ)) (fault : InputFault) (offset : ℕ) → is_read_fault fault ≡ false → StopsInHead None all now fault offset
    → IfSome all (λ octets. FailsInHead None octets fault offset)
head_fails None now fault offset own stops = tt
head_fails (Some xs) None fault offset own (inl p) = absurd (refuses None (Some xs) None fault own p.stops)
head_fails (Some xs) (Some ys) fault offset own (inl p) =
    inl (record { kind = p.kind; refused = (refuses None (Some xs) (Some ys) fault own p.stops).0; place = p.place })
head_fails (Some xs) None fault offset own (inr p) = inr (before_interface None xs p.stops.between None fault offset own p refl)
head_fails (Some xs) (Some ys) fault offset own (inr p) = inr (before_interface None xs p.stops.between (Some ys) fault offset own p refl)

no_input_at : (all : Option (List ℕ)) (fault : InputFault) (offset : ℕ) → IfSome all (λ octets. FailsInHead None octets fault offset) → IsNoInput all
no_input_at None fault offset fails = tt
no_input_at (Some octets) fault offset fails = λ head packets is. fault_no_end None octets head packets fault offset is (inl fails)

pub head_stops : (all now : Option (List ℕ)) (before after : ℕ) (fault : InputFault) (offset : ℕ)
    → StopsInHead None all now fault offset → (is_read_fault fault ≡ true → Rose before after)
    → InputStop all before after (input_stop fault offset)
head_stops all now before after fault offset stops rose =
    stop_so all before after fault offset (λ own. no_input_at all fault offset (head_fails all now fault offset own stops)) (λ is. rose (ap is_read_fault is))

-- the end
ended : WholeIsInput
    → (old new : Input) (head : Head) (all before after : Option (List ℕ)) (packets : List Packet) (at : InputAt old head all before packets)
    → ReachesEnd old new None at.walk before after → InputReads new head all after packets None
ended law old new head all before after packets at ends =
    let P : Head → Type 0 = λ h. Took None all after h ends.farther in
    let Q : Head → Type 0 = λ h. Took None all before h at.walk in
    let farther : Took None all after head ends.farther = subst P at.head_is (ends.continues all (subst Q (sym at.head_is) at.took)) in
    let whole = (law None all before after head at.walk ends.farther at.took ends.whole farther).0 in
    let R : List Packet → Type 0 = λ ps. InputReads new head all after ps None in
    subst R (ends.silent ∙ at.packets_are) whole

-- a fault after the records
flawed_behind : (head : Head) (walk : Walk) (between after : Option (List ℕ)) (fault : InputFault) → is_read_fault fault ≡ false
    → StopsAt None head walk between after fault → IfSome between (λ rest. IsFlawed None head walk rest fault)
flawed_behind head walk None after fault own stops = tt
flawed_behind head (walks.records packets) (Some ys) after fault own stops =
    record_flawed head (length packets) ys after stops.cause fault own stops.is stops.stops
flawed_behind head (walks.blocks steps) (Some ys) after fault own stops =
    record { flaw = stops.cause; flawed = block_flawed None _ ys after stops.cause (not_read fault stops.cause stops.is own) stops.stops; is = stops.is }

no_input_behind : (all left : Option (List ℕ)) (head : Head) (walk : Walk) (fault : InputFault) → Took None all left head walk
    → IfSome left (λ rest. IsFlawed None head walk rest fault) → IsNoInput all
no_input_behind None left head walk fault took flawed = tt
no_input_behind (Some octets) None head walk fault took flawed = absurd took
no_input_behind (Some octets) (Some rest) head walk fault took flawed =
    λ other packets is. fault_no_end None octets other packets fault (place_behind walk) is
    (inr (record { head = head; walk = walk; rest = rest; begins = took; flawed = flawed; place = refl }))

pub record_stops : (old new : Input) (head : Head) (all before after : Option (List ℕ)) (packets : List Packet) (then_ now : ℕ) (fault : InputFault)
    → ((inside : Option (List ℕ)) (walk : Walk) → Behind old inside walk → Reads old new inside walk before after (Err fault))
    → InputAt old head all before packets → (is_read_fault fault ≡ true → Rose then_ now) → InputStop all then_ now (input_stop fault (asked_in new))
record_stops old new head all before after packets then_ now fault reads at rose =
    let stops = reads None at.walk at.behind in
    let Q : Head → Type 0 = λ h. Took None all before h at.walk in
    let P : Head → Type 0 = λ h. Took None all stops.between h stops.farther in
    let F : Head → Type 0 = λ h. IfSome stops.between (λ rest. IsFlawed None h stops.farther rest fault) in
    let took = subst P at.head_is (stops.continues all (subst Q (sym at.head_is) at.took)) in
    stop_so all then_ now fault (asked_in new)
    (λ own.
    no_input_behind all stops.between head stops.farther fault took
    (subst F at.head_is (flawed_behind (head_in old) stops.farther stops.between after fault own stops.why)))
    (λ is. rose (ap is_read_fault is))

-- Reading the frames of the output.

-- the head was taken
pub head_taken : (all left : Option (List ℕ)) (head : Head) → Begins all left (Ok head) → TookFrames all left head []
head_taken None left head begins = tt
head_taken (Some octets) None head begins = begins
head_taken (Some octets) (Some rest) head begins = (begins.0, sym begins.1)

-- the head has another link
accepted : (all left : Option (List ℕ)) (head : Head) → Begins all left (Ok head) → IfSome all (λ octets. head_of octets ≡ Ok head)
accepted None left head begins = tt
accepted (Some octets) None head begins = absurd begins
accepted (Some octets) (Some rest) head begins = begins.0

no_capture : (all left : Option (List ℕ)) (head : Head) (frames : List Packet) (flaw : classic.Flaw) → TookFrames all left head frames
    → HasFlaw head.order (length frames) left flaw → IsNoCapture all
no_capture None left head frames flaw took flawed = tt
no_capture (Some octets) None head frames flaw took flawed = absurd took
no_capture (Some octets) (Some rest) head frames flaw took flawed =
    λ other others is. flaw_no_end octets other others flaw (offset_of frames) is
    (inr (record { head = head; packets = frames; rest = rest; accepted = took.0; reads = took.1; flawed = flawed; place = refl }))

flawed_in : (old : Reading) (head : Head) (all before : Option (List ℕ)) (frames : List Packet) (flaw : classic.Flaw)
    → HasFlaw old.head.order old.given before flaw → OutputAt old head all before frames → IsNoCapture all
flawed_in old head all before frames flaw flawed at =
    let order : old.head.order ≡ head.order = ap (λ (h : Head). h.order) at.head_is in
    let flawed_so : HasFlaw head.order (length frames) before flaw = rw (← order, ← at.given_is) flawed in
    no_capture all before head frames flaw at.took flawed_so

-- a fault after the frames
pub frame_stops : (old : Reading) (head : Head) (all before after : Option (List ℕ)) (frames : List Packet) (then_ now offset : ℕ)
    (fault : RecordFault)
    → FailsWith old.head.order old.given before after fault → (fault ≡ records.ReadFault → Rose then_ now)
    → OutputAt old head all before frames → OutputStop all then_ now (output_stop (of_record fault) offset)
frame_stops old head all before after frames then_ now offset records.Cut fails rose at =
    record { is = (refl, flawed_in old head all before frames classic.cut_short fails.flawed at) }
frame_stops old head all before after frames then_ now offset records.Long fails rose at =
    record { is = (refl, flawed_in old head all before frames classic.too_long fails.flawed at) }
frame_stops old head all before after frames then_ now offset records.TooMany fails rose at =
    record { is = (refl, flawed_in old head all before frames classic.too_many fails.flawed at) }
frame_stops old head all before after frames then_ now offset records.ReadFault fails rose at = record { is = rose refl }

-- one frame more of those that were read
pub read_more : (frames : Frames) (all left : Option (List ℕ)) (head : Head) (older own : List Packet) (of : PlainOriginal) (number : ℕ) (gathered : Gathered)
    → length own ≡ number → FrameAdded frames all left head own older of gathered → FramesRead frames all left head older of (number + 1) gathered
read_more frames all left head older own of number gathered count added =
    let counted : length (added.frame ∷ own) ≡ number + 1 = omega (arith, count) in
    record { own = added.frame ∷ own; count = counted; stands = added.stands; gathers = added.gathers }

-- a frame of a record was not read, after those of it that were
pub own_stops : (frames : Frames) (all left : Option (List ℕ)) (head : Head) (older : List Packet) (of : PlainOriginal) (number packets : ℕ)
    (gathered : Gathered) (before mid now : ℕ) (stop : Stop) → number < packets → mid ≡ before
    → FramesRead frames all left head older of number gathered
    → ((behind : List Packet) → OutputAt frames.reader head all left behind → FrameStop all head behind mid now stop)
    → FramesStop all head older packets before now stop
own_stops frames all left head older of number packets gathered before mid now stop fewer kept read why =
    let short : length read.own < packets = omega (arith, read.count, fewer) in
    says_more (λ x. x) (λ ends. record { own = read.own; fewer = short; ends = ends }) (λ x. x) (λ x. x) (λ rose. subst (λ n. Rose n now) kept rose) (λ x. x) stop
    (why (read.own ++ older) read.stands)

-- or they are
pub accepted_of : (frames : Frames) (all left : Option (List ℕ)) (head : Head) (older : List Packet) (of : PlainOriginal) (packets : ℕ) (gathered : Gathered)
    → ((of.passed && not gathered.unchanged) ≡ true → ⊥) → FramesRead frames all left head older of packets gathered
    → RecordRead frames all left head older of packets gathered
accepted_of frames all left head older of packets gathered accepted read =
    record { read = read; unchanged = λ passed. sym read.gathers.unchanged ∙ by of.passed gathered.unchanged accepted passed } where
      by : (a b : Bool) → ((a && not b) ≡ true → ⊥) → a ≡ true → b ≡ true
      by true true none is = refl
      by true false none is = absurd (none refl)
      by false b none is = cc
