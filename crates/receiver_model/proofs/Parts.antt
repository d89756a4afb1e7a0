-- Members read parts of one stream, which meet; and a monitor has read all that a member has which
-- starts within what the monitor has read.
use Rattle.std.proofs.Common.{◌≡◌, ℕ, zero, suc, ◌+◌, ◌-◌, ◌<◌, ◌≤◌, Bool, true, arith, ◌⊎◌, List, [], ◌∷◌, ◌++◌, length, Some, Option, refl, sym, ap, ◌∙◌, subst, inl, inr, ⊎_elim, append-nil, get_or, length-append, ℤ, pos, ◌<ℤ◌, slice_get}
use Rattle.std.proofs.lemmas.Int.{ints}
use Rattle.std.proofs.lemmas.Option.{slice_get_within, slice_get-get_or}
use Rattle.std.proofs.lemmas.Bool.{cases_lt}
use Rattle.receiver_model.specs.Delivery.{Receiver, beginning}
use Rattle.receiver_model.specs.FamilyAgreement.{IsPrefixOf, Agree, OctetAt, FinAt}
use Rattle.receiver_model.specs.Monitors.{HasDeliveredAll}
use Rattle.receiver_model.specs.StreamParts.{ReadsPart, AreOfStream, MembersReadParts, Meet, CoversPart, MonitorsCoverParts}
use Rattle.receiver_model.proofs.Members.{IsStream, ReadFrom, Sound, is_stream, run_keeps, sound_beginning}
use Rattle.receiver_model.proofs.Monitors.{kept_in, none_kept_next}
use Rattle.receiver_model.proofs.Receivers.{Kept}

-- Members read parts.

-- each octet that was read is the stream's
read_at : (C : ℤ → ℕ → Type 0) (at : ℕ) (xs : List ℕ) (i x : ℕ) → ReadFrom C at xs → slice_get xs i ≡ Some x → C (pos (at + i)) x
read_at C at [] i x r e = absurd (let within = slice_get_within [] i x e in omega (arith, within))
read_at C at (y ∷ xs) zero x r e = let same : y ≡ x = cc (e) in subst (λ n. C (pos n) x) (omega arith) (subst (C (pos at)) same r.0)
read_at C at (y ∷ xs) (suc i) x r e = subst (λ n. C (pos n) x) (omega arith) (read_at C (at + 1) xs i x r.1 e)

-- a sound receiver of frames of a stream has read a part of it
part_of : (first : ℤ → Option ℕ) (end : Option ℤ) (places : List ℤ) (frames : List (List ℕ)) (start : ℕ) (r : Receiver) → AreOfStream first end places frames
    → Sound (OctetAt places frames) (FinAt places frames) start r → ReadsPart first end start r.stream r.ended
part_of first end places frames start r are h = record { octets = octets; before = before; ends = λ e. are.fins (pos (start + length r.stream)) (h.ends e) }
  where
    octets : (i octet : ℕ) → slice_get r.stream i ≡ Some octet → first (pos (start + i)) ≡ Some octet
    octets i octet e = are.octets (pos (start + i)) octet (read_at (OctetAt places frames) start r.stream i octet h.read e)

    before : (i : ℕ) (offset : ℤ) → i < length r.stream → end ≡ Some offset → pos (start + i) <ℤ offset
    before i offset within e =
        let x = get_or r.stream i 0 in
        are.none_past (pos (start + i)) x offset (octets i x (slice_get-get_or r.stream i 0 within)) e

pub read_parts : MembersReadParts
read_parts hops base places frames first end tells are member start schedule stream ended near h =
    let d = h.delivery in
    let sound = run_keeps hops member.distance base start places frames beginning d.last schedule near tells (sound_beginning (OctetAt places frames) (FinAt places frames) start) d.run h.timely in
    subst (λ (s : List ℕ × Bool). ReadsPart first end start s.0 s.1) (λ i. (d.stream_is i, d.ended_is i)) (part_of first end places frames start d.last are sound)

-- Parts of one stream meet.

pub meet : (first : ℤ → Option ℕ) (end : Option ℤ) (a_start b_start : ℕ) (a b : List ℕ) (a_ended b_ended : Bool) → ReadsPart first end a_start a a_ended
    → ReadsPart first end b_start b b_ended → Meet a_start a a_ended b_start b b_ended
meet first end a_start b_start a b a_ended b_ended p q = record {
  octets = λ i j x y same e f. let one = p.octets i x e in let other = q.octets j y f in let there = ap (λ n. first (pos n)) same in cc (one, other, there);
  first = λ e j within. let past = q.before j (pos (a_start + length a)) within (p.ends e) in omega (arith, ints, past);
  second = λ e i within. let past = p.before i (pos (b_start + length b)) within (q.ends e) in omega (arith, ints, past);
  both = λ e f. let same : Some (pos (a_start + length a)) ≡ Some (pos (b_start + length b)) = sym (p.ends e) ∙ q.ends f in cc (same);
}

-- of two lists with the same elements where both have one, one is a prefix of the other
one_prefix : (xs ys : List ℕ) → ((i x y : ℕ) → slice_get xs i ≡ Some x → slice_get ys i ≡ Some y → x ≡ y) → IsPrefixOf xs ys ⊎ IsPrefixOf ys xs
one_prefix [] ys same = inl (ys, refl)
one_prefix (x ∷ xs) [] same = inr (x ∷ xs, refl)
one_prefix (x ∷ xs) (y ∷ ys) same = by (one_prefix xs ys (λ i. same (suc i)))
  where
    first : x ≡ y
    first = same 0 x y refl refl

    by : IsPrefixOf xs ys ⊎ IsPrefixOf ys xs → IsPrefixOf (x ∷ xs) (y ∷ ys) ⊎ IsPrefixOf (y ∷ ys) (x ∷ xs)
    by (inl p) = inl (p.0, λ i. first i ∷ p.1 i)
    by (inr p) = inr (p.0, λ i. sym first i ∷ p.1 i)

-- one that is not shorter is equal
no_longer : (xs ys : List ℕ) → IsPrefixOf xs ys → ((j : ℕ) → j < length ys → j < length xs) → xs ≡ ys
no_longer xs ys p few = by p.0 p.1
  where
    by : (rest : List ℕ) → xs ++ rest ≡ ys → xs ≡ ys
    by [] e = sym (append-nil xs) ∙ e
    by (x ∷ rest) e =
        let long = length-append xs (x ∷ rest) in
        let size = ap length e in
        let past = few (length xs) (omega (arith, long, size)) in
        absurd (omega (arith, past))

pub meeting_agree : (start : ℕ) (a b : List ℕ) (a_ended b_ended : Bool) → Meet start a a_ended start b b_ended → Agree a a_ended b b_ended
meeting_agree start a b a_ended b_ended m = record { prefix = prefix; first = first; second = second; both = both }
  where
    prefix : IsPrefixOf a b ⊎ IsPrefixOf b a
    prefix = one_prefix a b (λ i x y e f. m.octets i i x y refl e f)

    first : a_ended ≡ true → IsPrefixOf a b → a ≡ b
    first e p = no_longer a b p (λ j within. let h = m.first e j within in omega (arith, h))

    second : b_ended ≡ true → IsPrefixOf b a → b ≡ a
    second e p = no_longer b a p (λ i within. let h = m.second e i within in omega (arith, h))

    both : a_ended ≡ true → b_ended ≡ true → a ≡ b
    both e f = ⊎_elim (λ p. first e p) (λ p. sym (second f p)) prefix

-- A monitor that heard all frames in time has read all that a member has which starts within what
-- the monitor has read.

module _ (places : List ℤ) (frames : List (List ℕ)) (from start : ℕ) (r other : Receiver) (is : IsStream (OctetAt places frames) (FinAt places frames))
    (h : Sound (OctetAt places frames) (FinAt places frames) from r) (k : Sound (OctetAt places frames) (FinAt places frames) start other)
    (kept : (number : ℕ) → number < length frames → Kept places frames from number r) (gives : HasDeliveredAll from r) (low : from ≤ start)
    (high : start ≤ from + length r.stream) where
  abbrev C : ℤ → ℕ → Type 0
  C = OctetAt places frames

  at_monitor : (j : ℕ) → j < length r.stream → C (pos (from + j)) (get_or r.stream j 0)
  at_monitor j within = read_at C from r.stream j (get_or r.stream j 0) h.read (slice_get-get_or r.stream j 0 within)

  within : start + length other.stream ≤ from + length r.stream
  within = by (cases_lt (from + length r.stream) (start + length other.stream))
    where
      by : (from + length r.stream < start + length other.stream) ⊎ (start + length other.stream ≤ from + length r.stream)
          → start + length other.stream ≤ from + length r.stream
      by (inr least) = least
      by (inl past) =
          let i : ℕ = from + length r.stream - start in
          let has = slice_get-get_or other.stream i 0 (omega (arith, past, high)) in
          let there : start + i ≡ from + length r.stream = omega (arith, high) in
          let c = subst (λ n. C (pos n) (get_or other.stream i 0)) there (read_at C start other.stream i (get_or other.stream i 0) k.read has) in
          absurd (none_kept_next places frames from r (get_or other.stream i 0) gives c (kept c.number (slice_get_within frames c.number c.frame c.stands)))

  octets : (i j x : ℕ) → start + i ≡ from + j → slice_get other.stream i ≡ Some x → slice_get r.stream j ≡ Some x
  octets i j x same e =
      let few = slice_get_within other.stream i x e in
      let inside : j < length r.stream = omega (arith, few, within, same) in
      let c = subst (λ n. C (pos n) x) same (read_at C start other.stream i x k.read e) in
      slice_get-get_or r.stream j 0 inside ∙ ap (λ y. Some y) (is.one_octet (pos (from + j)) (get_or r.stream j 0) x (at_monitor j inside) c)

  whole : other.ended ≡ true → start + length other.stream ≡ from + length r.stream
  whole e = by (cases_lt (start + length other.stream) (from + length r.stream))
    where
      by : (start + length other.stream < from + length r.stream) ⊎ (from + length r.stream ≤ start + length other.stream)
          → start + length other.stream ≡ from + length r.stream
      by (inr least) = omega (arith, least, within)
      by (inl past) =
          let j : ℕ = start + length other.stream - from in
          let c = at_monitor j (omega (arith, past, low)) in
          let end = is.none_past (pos (from + j)) (get_or r.stream j 0) (pos (start + length other.stream)) c (k.ends e) in
          absurd (omega (arith, ints, end, low))

  end : other.ended ≡ true → r.ended ≡ true
  end e =
      let c : FinAt places frames (pos (start + length other.stream)) = k.ends e in
      let fin = (kept c.number (slice_get_within frames c.number c.frame c.stands)).fin (pos (start + length other.stream)) c refl in
      let there : fin.0 ≡ pos (start + length other.stream) = is.one_end fin.0 (pos (start + length other.stream)) (h.keeps fin.0 fin.1) c in
      gives.end (fin.1 ∙ ap (λ o. Some o) (there ∙ ap pos (whole e)))

  covers : CoversPart from r.stream r.ended start other.stream other.ended
  covers = record { within = within; octets = octets; whole = whole; end = end }

pub cover_parts : MonitorsCoverParts
cover_parts hops base places frames tells monitor other from start all schedule seen stream seen_ended ended near_m near_o m o low high =
    let ours = m.in_time.delivery in
    let theirs = o.delivery in
    let C = OctetAt places frames in
    let F = FinAt places frames in
    let one = run_keeps hops monitor.distance base from places frames beginning ours.last all near_m tells (sound_beginning C F from) ours.run m.in_time.timely in
    let two = run_keeps hops other.distance base start places frames beginning theirs.last schedule near_o tells (sound_beginning C F start) theirs.run o.timely in
    let kept : (number : ℕ) → number < length frames → Kept places frames from number ours.last = λ number within.
    let c = m.hears number within in
    kept_in hops monitor.distance base from places frames beginning ours.last all number c.0 near_m tells ours.run m.in_time.timely m.keeps c.1 c.2 in
    let all = covers places frames from start ours.last theirs.last (is_stream hops base places frames tells) one two kept m.gives low
    (subst (λ l. start ≤ from + length l) (sym ours.stream_is) high) in
    subst (λ (s : List ℕ × Bool × List ℕ × Bool). CoversPart from s.0 s.1 start s.2 s.3)
    (λ i. (ours.stream_is i, ours.ended_is i, theirs.stream_is i, theirs.ended_is i)) all
