-- What several reads take, one after the other: octets, and blocks up to a record or the first
-- interface.
use Rattle.std.proofs.Common.{◌≡◌, ℕ, ◌+◌, ◌-◌, ◌<◌, ◌≤◌, List, [], ◌++◌, length, take, drop, Some, None, refl, sym, ap, ap₂, ◌∙◌, subst, arith, append_assoc, append-nil, take-append-drop, length-drop, true, false, ◌∷◌, IsSome, Ok, Err, Option}
use Rattle.std.proofs.lemmas.List.{length-append, length-take-le, take_all, take_at, drop_at, drop_all}
use Rattle.std.proofs.Math.Seq.{take-append-add}
use borrow.Rule.Slice.PartMut.{put_mid}
use Rattle.std.proofs.KnownBytes.{Consumes-trans, Consumes-nil}
use Rattle.std.specs.Io.KnownBytes.{Consumes, prepend_known}
use Rattle.edge_io.specs.KnownOctets.{TakesFewer}
use Rattle.pcap_file.specs.declared.record.Order.{Order}
use Rattle.wire_base.specs.declared.address.Link.{Link}
use Rattle.pcap_file.specs.Records.{Packet}
use Rattle.pcapng_file.specs.declared.fault.NgFault.{NgFault}
use Rattle.pcapng_file.specs.declared.fault.NgFault.TheVariants as faults
use Rattle.pcapng_file.specs.declared.content.Stamp.{Stamp}
use Rattle.pcapng_file.specs.declared.content.Content.TheVariants as says
use Rattle.pcapng_file.specs.declared.content.Found.TheVariants as is
use Rattle.pcapng_file.specs.working.BlockReading.{TakesBody, IsKept, IsGiven, TakesBlock, LooksAt, Halts, Looks, LooksOn, LooksStopped}
use Rattle.pcapng_file.specs.RecordReading.{TakesSteps, Moves, EndsHere, Stops, TakesPacket, HaltsBehind, OpensAt, FailsAhead}
use Rattle.pcapng_file.specs.working.PartReading.{Short, TakesCount}
use Rattle.pcapng_file.specs.declared.fault.OpenFault.{OpenFault}
use Rattle.pcapng_file.specs.declared.content.Found.{Found}
use Rattle.pcapng_file.specs.SectionState.{Sections, counted, no_section}
use Rattle.pcapng_file.specs.Blocks.{Step, block_at, step_of, whole_step, after_found, given_by, packet_of, before, end_by}
use Rattle.pcapng_file.specs.working.BlockFronts.{IsPacket}
use Rattle.pcapng_file.specs.Sections.{Walks, behind, packets_of, size_of, size_before, with_given, EndsAtInterface}
use Rattle.pcapng_file.specs.ReaderState.{NgReading, first_reading}
use Rattle.pcapng_file.specs.working.SectionLinks.{IsUnlinked}
use Rattle.pcapng_file.proofs.Fronts.{at_nothing}

-- The octets taken by several reads, one after the other.

-- fewer than `few` octets, after others that were taken
pub short_behind : (a b c : Option (List ℕ)) (front : List ℕ) (few most : ℕ) (fault : NgFault) → Consumes a b front → Short b c few fault → length front + few ≤ most → Short a c most fault
short_behind a b c front few most faults.Cut p q fits = record {
  octets = front ++ q.octets;
  taken = Consumes-trans a b c front q.octets p q.taken;
  fewer = omega (arith, length-append front q.octets, q.fewer);
  end = q.end;
}
short_behind a b c front few most faults.ReadFault p q fits = (front ++ q.0, Consumes-trans a b c front q.0 p q.1, omega (arith, length-append front q.0, q.2))
short_behind a b c front few most faults.Magic p q fits = absurd q
short_behind a b c front few most faults.Version p q fits = absurd q
short_behind a b c front few most faults.Link p q fits = absurd q
short_behind a b c front few most faults.Block p q fits = absurd q
short_behind a b c front few most faults.Long p q fits = absurd q
short_behind a b c front few most faults.Many p q fits = absurd q

-- octets that were read before, and then those of the source
pub head_filled : (a b : Option (List ℕ)) (first more : List ℕ) (n : ℕ) → Consumes a b (take n more) → Consumes (prepend_known first a) b (take (length first + n) (first ++ more))
head_filled a b first more n p = subst (Consumes (prepend_known first a) b) (sym (take-append-add first more n)) (Consumes-trans (prepend_known first a) a b first (take n more) (before a) p) where
  before : (a : Option (List ℕ)) → Consumes (prepend_known first a) a first
  before None = tt
  before (Some x) = refl

pub head_fewer : (a b : Option (List ℕ)) (first : List ℕ) (most all : ℕ) → TakesFewer a b most → length first + most ≡ all → TakesFewer (prepend_known first a) b all
head_fewer a b first most all p e = (first ++ p.0, Consumes-trans (prepend_known first a) a b first p.0 (before a) p.1, omega (arith, length-append first p.0, p.2)) where
  before : (a : Option (List ℕ)) → Consumes (prepend_known first a) a first
  before None = tt
  before (Some x) = refl

-- a buffer whose front is unchanged
pub front_kept : (first got z more : List ℕ) (n m : ℕ) → got ≡ first → length first ≡ n → length z ≡ m → put_mid n m (got ++ z) more ≡ first ++ more
front_kept first got z more n m same front rest =
    let long : length got ≡ n = ap length same ∙ front in
    let behind : drop m (drop n (got ++ z)) ≡ [] = ap (drop m) (drop_at got z n long) ∙ drop_all m z (omega (arith, rest)) in
    ap₂ (λ x y. x ++ (more ++ y)) (take_at got z n long) behind ∙ ap₂ (λ x y. x ++ y) same (append-nil more)

pub count_more : (a b c : Option (List ℕ)) (n m : ℕ) (piece : List ℕ) → TakesCount a b n → Consumes b c piece → n + length piece ≡ m → TakesCount a c m
count_more a b c n m piece p q e = record {
  octets = p.octets ++ piece;
  taken = Consumes-trans a b c p.octets piece p.taken q;
  size = omega (arith, length-append p.octets piece, p.size);
}

pub count_short : (a b c : Option (List ℕ)) (n few most : ℕ) (fault : NgFault) → TakesCount a b n → Short b c few fault → n + few ≤ most → Short a c most fault
count_short a b c n few most fault p q fits = short_behind a b c p.octets few most fault p.taken q (omega (arith, p.size))

-- the captured octets of a packet block, and the octets after them
pub body_read : (inside a b c : Option (List ℕ)) (order : Order) (stamp : Stamp) (room n : ℕ) (h post : List ℕ) → Consumes a b h → length h ≡ stamp.size → TakesCount b c n → stamp.size + n ≡ room
    → TakesBody inside a c order (says.Packet stamp) room (h ++ post) (is.Packet stamp)
body_read inside a b c order stamp room n h post p long q e = record {
  octets = h ++ q.octets;
  taken = Consumes-trans a b c h q.octets p q.taken;
  size = omega (arith, length-append h q.octets, q.size);
  says = (refl, take_at h q.octets stamp.size long ∙ sym (take_at h post stamp.size long));
}

-- the first of the kept octets were returned
pub kept_taken : (a : Option (List ℕ)) (kept got post : List ℕ) (n : ℕ) → got ≡ take n kept → n ≤ length kept
    → Consumes (prepend_known kept a) (prepend_known (take (length kept - n) (drop n kept)) a) (take n (got ++ post))
kept_taken None kept got post n e fits = tt
kept_taken (Some x) kept got post n e fits =
    let long : length got ≡ n = ap length e ∙ length-take-le n kept fits in
    let first : take n (got ++ post) ≡ take n kept = take_at got post n long ∙ e in
    let rest : take (length kept - n) (drop n kept) ≡ drop n kept = take_all (length kept - n) (drop n kept) (omega (arith, length-drop n kept)) in
    sym (ap₂ (λ u v. u ++ (v ++ x)) first rest ∙ sym (append_assoc (take n kept) (drop n kept) x) ∙ ap (λ l. l ++ x) (take-append-drop n kept))

-- Blocks that were taken one after the other.

-- no fault was found
abbrev pub NoFault : Found → Type 0
NoFault (is.Fails fault) = ⊥
NoFault _ = Unit {0}

-- the result of a match on a block that has no fault, or no record
pub no_fault : (found : Found) → ((fault : NgFault) → found ≡ is.Fails fault → ⊥) → NoFault found
no_fault (is.Fails fault) n = n fault refl
no_fault is.Passed n = tt
no_fault is.Section n = tt
no_fault (is.Interface link interface) n = tt
no_fault (is.Packet stamp) n = tt

pub no_packet : (found : Found) → ((stamp : Stamp) → found ≡ is.Packet stamp → ⊥) → IsPacket found → ⊥
no_packet (is.Fails fault) n = λ i. i
no_packet is.Passed n = λ i. i
no_packet is.Section n = λ i. i
no_packet (is.Interface link interface) n = λ i. i
no_packet (is.Packet stamp) n = λ i. n stamp refl

step_is : (sections : Sections) (order : Order) (size : ℕ) (block : List ℕ) (found : Found) → NoFault found → step_of sections order size block found ≡ Ok (whole_step sections order size block found)
step_is sections order size block (is.Fails fault) n = absurd n
step_is sections order size block is.Passed n = refl
step_is sections order size block is.Section n = refl
step_is sections order size block (is.Interface link interface) n = refl
step_is sections order size block (is.Packet stamp) n = refl

given_is : (found : Found) (block buf : List ℕ) → NoFault found → IsKept found block buf → IsGiven found buf (given_by found block)
given_is (is.Fails fault) block buf n kept = absurd n
given_is is.Passed block buf n kept = refl
given_is is.Section block buf n kept = refl
given_is (is.Interface link interface) block buf n kept = refl
given_is (is.Packet stamp) block buf n kept = ap (λ l. Some (packet_of stamp l)) kept

pub blocks_after : (sections : Sections) (order : Order) (found : Found) → (after_found (counted sections) order found).blocks ≡ sections.blocks + 1
blocks_after sections order (is.Fails fault) = refl
blocks_after sections order is.Passed = refl
blocks_after sections order is.Section = refl
blocks_after sections order (is.Interface link interface) = refl
blocks_after sections order (is.Packet stamp) = refl

-- if the file had no interface so far, the section has none
pub unlinked_after : (sections : Sections) (order : Order) (found : Found) → IsUnlinked sections.link sections.interfaces
    → IsUnlinked (after_found (counted sections) order found).link (after_found (counted sections) order found).interfaces
unlinked_after sections order (is.Fails fault) u = u
unlinked_after sections order is.Passed u = u
unlinked_after sections order is.Section u = anew sections.link where
  anew : (link : Option Link) → IsUnlinked link []
  anew None = refl
  anew (Some l) = tt
unlinked_after sections order (is.Interface link interface) u = tt
unlinked_after sections order (is.Packet stamp) u = u

-- the octets of one block
pub one_step : (inside : Option (List ℕ)) (sections : Sections) (a b : Option (List ℕ)) (order : Order) (size : ℕ) (buf : List ℕ) (found : Found) → NoFault found
    → (p : TakesBlock inside sections a b order size buf found) → TakesSteps inside sections a b (whole_step (counted sections) order size p.octets found ∷ [])
one_step inside sections a b order size buf found n p = record {
  octets = p.octets;
  taken = p.taken;
  walks = λ rest. (p.octets ++ rest, refl, p.says rest ∙ ap (before rest) (step_is (counted sections) order size p.octets found n));
}

-- no block
pub no_step : (inside : Option (List ℕ)) (sections : Sections) (a : Option (List ℕ)) → TakesSteps inside sections a a []
no_step inside sections a = record { octets = []; taken = Consumes-nil a; walks = λ rest. refl }

-- one more block
pub more_steps : (inside : Option (List ℕ)) (sections : Sections) (a b c : Option (List ℕ)) (steps : List Step) (step : Step) → TakesSteps inside sections a b steps
    → TakesSteps inside (behind sections steps) b c (step ∷ []) → TakesSteps inside sections a c (step ∷ steps)
more_steps inside sections a b c steps step p q = record {
  octets = p.octets ++ q.octets;
  taken = Consumes-trans a b c p.octets q.octets p.taken q.taken;
  walks = λ rest.
      let last = q.walks rest in (
        q.octets ++ rest,
        subst (λ l. Walks inside sections l steps (q.octets ++ rest)) (sym (append_assoc p.octets q.octets rest)) (p.walks (q.octets ++ rest)),
        ap (block_at inside (behind sections steps)) last.1 ∙ last.2,
      );
}

-- a reader read a block
module _ (old new : NgReading) (a b : Option (List ℕ)) (order : Order) (size : ℕ) (buf : List ℕ) (found : Found) (n : NoFault found) where
  pub looks_at : (p : TakesBlock old.inside old.sections a b order size buf found) → new.inside ≡ old.inside → new.sections ≡ after_found (counted old.sections) order found
      → new.place ≡ old.place + size → new.asked ≡ old.place → new.is_open ≡ true → IsUnlinked old.sections.link old.sections.interfaces → LooksAt old new a b buf found
  looks_at p inside sections place asked going unlinked = record {
    step = whole_step (counted old.sections) order size p.octets found;
    steps = one_step old.inside old.sections a b order size buf found n p;
    moves = record { inside = inside; sections = sections; place = omega (arith, place); looked = asked; goes_on = going };
    given = given_is found p.octets buf n p.kept;
    few = p.few;
    counted = ap (λ (s : Sections). s.blocks) sections ∙ blocks_after old.sections order found;
    some = p.some;
    sound = p.sound;
    unlinked = subst (λ (s : Sections). IsUnlinked s.link s.interfaces) (sym sections) (unlinked_after old.sections order found unlinked);
  }

-- From the state `old` to the state `now` the reader skipped blocks without a record.
pub record Between (old now : NgReading) (a b : Option (List ℕ)) : Type 0 where
  pub steps : List Step
  pub taken : TakesSteps old.inside old.sections a b steps
  pub silent : packets_of steps ≡ []
  pub inside : now.inside ≡ old.inside
  pub sections : now.sections ≡ behind old.sections steps
  pub place : now.place ≡ old.place + size_of steps

pub between_none : (old : NgReading) (a : Option (List ℕ)) → Between old old a a
between_none old a = record { steps = []; taken = no_step old.inside old.sections a; silent = refl; inside = refl; sections = refl; place = omega arith }

pub not_given : (found : Found) (buf : List ℕ) (given : Option Packet) → (IsPacket found → ⊥) → IsGiven found buf given → given ≡ None
not_given (is.Fails fault) buf given n is = absurd is
not_given is.Passed buf given n is = is
not_given is.Section buf given n is = is
not_given (is.Interface link interface) buf given n is = is
not_given (is.Packet stamp) buf given n is = absurd (n tt)

module _ (old now new : NgReading) (a b c : Option (List ℕ)) (p : Between old now a b) where
  -- nothing more was read
  moves_behind : {P : Type 0} → Halts now new P → Moves old new p.steps (old.place + size_of p.steps) false
  moves_behind q = record {
    inside = q.moves.inside ∙ p.inside;
    sections = q.moves.sections ∙ p.sections;
    place = omega (arith, q.moves.place, p.place);
    looked = q.moves.looked ∙ p.place;
    goes_on = q.moves.goes_on;
  }

  pub why_behind : (P : Option (List ℕ) → Sections → Type 0) → P now.inside now.sections → P old.inside (behind old.sections p.steps)
  why_behind P q = subst (P old.inside) p.sections (subst (λ (i : Option (List ℕ)). P i now.sections) p.inside q)

  pub ends_behind : Halts now new (EndsHere now.inside now.sections b c) → HaltsBehind old new a c (λ sections between. EndsHere old.inside sections between c)
  ends_behind q = record {
    steps = p.steps;
    between = b;
    passed = record { taken = p.taken; silent = p.silent };
    moves = moves_behind q;
    why = why_behind (λ inside sections. EndsHere inside sections b c) q.why;
  }

  pub stops_behind : (fault : NgFault) → Halts now new (Stops now.inside now.sections b c fault) → HaltsBehind old new a c (λ sections between. Stops old.inside sections between c fault)
  stops_behind fault q = record {
    steps = p.steps;
    between = b;
    passed = record { taken = p.taken; silent = p.silent };
    moves = moves_behind q;
    why = why_behind (λ inside sections. Stops inside sections b c fault) q.why;
  }

  -- the block read last follows the blocks before it
  pub step_behind : (step : Step) → TakesSteps now.inside now.sections b c (step ∷ []) → TakesSteps old.inside old.sections a c (step ∷ p.steps)
  step_behind step q =
      let there : TakesSteps old.inside (behind old.sections p.steps) b c (step ∷ []) =
      subst (λ (s : Sections). TakesSteps old.inside s b c (step ∷ [])) p.sections (subst (λ (i : Option (List ℕ)). TakesSteps i now.sections b c (step ∷ [])) p.inside q) in
      more_steps old.inside old.sections a b c p.steps step p.taken there

  pub packet_behind : (buf : List ℕ) (stamp : Stamp) → LooksAt now new b c buf (is.Packet stamp) → TakesPacket old new a c (packet_of stamp (take stamp.size buf))
  packet_behind buf stamp q = record {
    step = q.step;
    older = p.steps;
    steps = step_behind q.step q.steps;
    silent = p.silent;
    given = q.given;
    moves = record {
      inside = q.moves.inside ∙ p.inside;
      sections = q.moves.sections;
      place = omega (arith, q.moves.place, p.place);
      looked = q.moves.looked ∙ p.place;
      goes_on = q.moves.goes_on;
    };
  }

  abbrev pub passed_behind : (buf : List ℕ) (found : Found) → (IsPacket found → ⊥) → LooksAt now new b c buf found → Between old new a c
  passed_behind buf found n q = record {
    steps = q.step ∷ p.steps;
    taken = step_behind q.step q.steps;
    silent = ap (λ g. with_given g (packets_of p.steps)) (not_given found buf q.step.given n q.given) ∙ p.silent;
    inside = q.moves.inside ∙ p.inside;
    sections = q.moves.sections;
    place = omega (arith, q.moves.place, p.place);
  }

-- nothing was read before
pub none_before : (a : Option (List ℕ)) → prepend_known [] a ≡ a
none_before None = refl
none_before (Some x) = refl

pub looks_on_here : (old new : NgReading) (a b : Option (List ℕ)) → LooksOn old new (prepend_known [] a) b → LooksOn old new a b
looks_on_here old new a b p = subst (λ (x : Option (List ℕ)). LooksOn old new x b) (none_before a) p

pub stopped_here : (old new : NgReading) (a b : Option (List ℕ)) (stop : OpenFault) → LooksStopped old new (prepend_known [] a) b stop → LooksStopped old new a b stop
stopped_here old new a b stop p = subst (λ (x : Option (List ℕ)). LooksStopped old new x b stop) (none_before a) p

-- if the file had no interface so far, the octets do not end well
never_ends : (inside : Option (List ℕ)) (sections : Sections) (b c : Option (List ℕ)) → sections.link ≡ None → EndsHere inside sections b c → ⊥
never_ends inside sections b c unlinked q =
    let cut : block_at inside sections [] ≡ Err faults.Cut = at_nothing inside sections ∙ ap end_by unlinked in
    let ends : block_at inside sections [] ≡ Ok None = q.ends in
    cc

no_interface : (sections : Sections) → sections.link ≡ None → IsUnlinked sections.link sections.interfaces → length sections.interfaces ≡ 0
no_interface sections e u = let none : sections.interfaces ≡ [] = subst (λ (l : Option Link). IsUnlinked l sections.interfaces) e u in ap length none

-- after the blocks before the newest one no link is known
abbrev pub UnlinkedBefore : List Step → Type 0
UnlinkedBefore [] = Unit {0}
UnlinkedBefore (step ∷ older) = (behind no_section older).link ≡ None

ends_at_interface : (steps : List Step) → UnlinkedBefore steps → IsSome (behind no_section steps).link → EndsAtInterface steps
ends_at_interface [] before linked = absurd cc
ends_at_interface (step ∷ older) before linked = (before, linked)

-- The file was read up to here: its blocks have no record, and those before the newest one no
-- interface.
pub record OpensSoFar (inside : Option (List ℕ)) (now : NgReading) (a b : Option (List ℕ)) : Type 0 where
  pub so_far : Between (first_reading inside) now a b
  pub unlinked : IsUnlinked now.sections.link now.sections.interfaces
  pub before : UnlinkedBefore so_far.steps
  pub looked : now.asked ≡ size_before so_far.steps
  pub going : now.is_open ≡ true

pub opens_first : (inside : Option (List ℕ)) (a : Option (List ℕ)) → OpensSoFar inside (first_reading inside) a a
unfolding between_none
opens_first inside a = record { so_far = between_none (first_reading inside) a; unlinked = refl; before = tt; looked = refl; going = refl }

-- one more block before the first interface
pub record OpensMore (inside : Option (List ℕ)) (now new : NgReading) (a c : Option (List ℕ)) : Type 0 where
  pub so_far : OpensSoFar inside new a c
  pub few : now.sections.blocks < 4294967295
  pub counted : new.sections.blocks ≡ now.sections.blocks + 1

module _ (inside : Option (List ℕ)) (now new : NgReading) (a b c : Option (List ℕ)) (p : OpensSoFar inside now a b) where
  pub opens_more : (buf : List ℕ) (given : Option Found) → now.sections.link ≡ None → Looks now new b c buf (Ok given) → OpensMore inside now new a c
  opens_more buf None unlinked q = absurd (never_ends now.inside now.sections b c unlinked q.why)
  opens_more buf (Some found) unlinked q =
      let no_packet : IsPacket found → ⊥ = λ i. let some = q.some i in let none = no_interface now.sections unlinked p.unlinked in absurd (omega arith) in
      record {
        so_far = record {
          so_far = passed_behind (first_reading inside) now new a b c p.so_far buf found no_packet q;
          unlinked = q.unlinked;
          before = ap (λ (s : Sections). s.link) (sym p.so_far.sections) ∙ unlinked;
          looked = q.moves.looked ∙ p.so_far.place ∙ omega arith;
          going = q.moves.goes_on;
        };
        few = q.few;
        counted = q.counted;
      }

  pub opens_on : now.sections.link ≡ None → LooksOn now new b c → OpensMore inside now new a c
  opens_on unlinked q = opens_more [] q.given unlinked q.looked

  pub opens_fails : (stop : OpenFault) → now.sections.link ≡ None → LooksStopped now new b c stop → FailsAhead inside a c stop.fault stop.offset
  opens_fails stop unlinked q =
      record {
        steps = p.so_far.steps;
        between = b;
        taken = p.so_far.taken;
        unlinked = ap (λ (s : Sections). s.link) (sym p.so_far.sections) ∙ unlinked;
        stops = why_behind (first_reading inside) now new a b c p.so_far (λ inside sections. Stops inside sections b c stop.fault) q.halted.why;
        place = q.place ∙ q.halted.moves.looked ∙ p.so_far.place ∙ omega arith;
      }

pub opens_at : (inside : Option (List ℕ)) (now : NgReading) (a b : Option (List ℕ)) → OpensSoFar inside now a b → IsSome now.sections.link → OpensAt inside a b now
opens_at inside now a b p linked = record {
  steps = p.so_far.steps;
  taken = p.so_far.taken;
  silent = p.so_far.silent;
  ends = ends_at_interface p.so_far.steps p.before (subst (λ (s : Sections). IsSome s.link) p.so_far.sections linked);
  moves = record { inside = p.so_far.inside; sections = p.so_far.sections; place = p.so_far.place; looked = p.looked; goes_on = p.going };
}
