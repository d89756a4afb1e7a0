-- Opening of an input: its kind by its first octets, and its head.
use Rattle.std.proofs.Common.{◌≡◌, ℕ, ◌<◌, ◌≤◌, Bool, true, false, List, [], ◌∷◌, ◌++◌, length, take, Option, Some, None, IsSome, Result, Ok, Err, refl, sym, ap, ◌∙◌, subst, arith, inl, inr, append-nil, take_all, take_at, bytes_eq}
use Rattle.std.proofs.lemmas.Bool.{cases_lt}
use Rattle.std.specs.Io.KnownBytes.{Consumes, IsAtEnd, prepend_known}
use Rattle.edge_io.specs.KnownOctets.{TakesFewer}
use Rattle.wire_base.specs.declared.address.Link.{Link}
use Rattle.pcap_file.specs.declared.head.Head.{Head}
use Rattle.pcap_file.specs.declared.head.HeadFault.{HeadFault}
use Rattle.pcap_file.specs.declared.head.HeadFault.TheVariants as heads
use Rattle.pcap_file.specs.Flaws.{cut_short}
use Rattle.pcap_file.specs.FileHead.{head_of}
use Rattle.pcap_file.specs.HeadReading.{ReadsHead, Begins}
use Rattle.pcap_file.specs.working.HeadParsing.{Judges}
use Rattle.pcap_file.specs.ReaderState.{Reading}
use Rattle.pcap_file.proofs.Records.{whole, begins_short, judged}
use Rattle.pcapng_file.specs.declared.fault.NgFault.TheVariants as blocks_fault
use Rattle.pcapng_file.specs.SectionState.{Sections, no_section}
use Rattle.pcapng_file.specs.Blocks.{Step}
use Rattle.pcapng_file.specs.Sections.{Walks, behind, EndsAtInterface}
use Rattle.pcapng_file.specs.ReaderState.{NgReading, written_head}
use Rattle.pcapng_file.specs.RecordReading.{OpensAt}
use Rattle.pcapng_file.proofs.Sections.{blocks_counted}
use Rattle.capture_input.specs.declared.fault.InputFault.{InputFault}
use Rattle.capture_input.specs.declared.fault.InputFault.TheVariants as faults
use Rattle.capture_input.specs.declared.fault.OpenFault.{OpenFault}
use Rattle.capture_input.specs.declared.input.Input.{Input}
use Rattle.capture_input.specs.declared.input.Input.TheVariants as kinds
use Rattle.capture_input.specs.Faults.{at_first}
use Rattle.capture_input.specs.Inputs.{records, blocks, section_octets, is_sections, classic_head, IsHeadOf, BlocksEndAt, Took}
use Rattle.capture_input.specs.RecordReading as reads

-- the head of a classic file of fewer than 24 octets
short_reads : (a b : Option (List ℕ)) (x : List ℕ) (result : Result Head HeadFault) → Begins a b (Err cut_short) → head_of x ≡ Err cut_short → Judges x result → ReadsHead a b result
short_reads a b x (Ok head) p is says = absurd cc
short_reads a b x (Err heads.Cut) p is says = p
short_reads a b x (Err heads.Magic) p is says = absurd cc
short_reads a b x (Err heads.Version) p is says = absurd cc
short_reads a b x (Err heads.Link) p is says = absurd cc
short_reads a b x (Err heads.ReadFault) p is says = absurd says

pub reads_head : (a b : Option (List ℕ)) (h : List ℕ) (n : ℕ) (result : Result Head HeadFault) → length h ≡ 24 → n ≤ length h → Consumes a b (take n h) → (n < length h → IsAtEnd b)
    → Judges (take n h) result → ReadsHead a b result
reads_head a b h n result size fits p end says = elim (cases_lt n 24) [
  | inl few ↦
      let short : Begins (Some (take n h)) (Some []) (Err cut_short) = begins_short (Some (take n h)) (Some []) h n few fits (sym (append-nil (take n h))) refl in
      short_reads a b (take n h) result (begins_short a b h n few fits p (end (omega (arith, size)))) short.0 says
  | inr more ↦
      let all : take n h ≡ h = take_all n h (omega (arith, size)) in
      judged a b h result size (whole a b h n (omega (arith, size)) p) (subst (λ l. Judges l result) all says)
]

-- a classic file

classic_took : (inside a b : Option (List ℕ)) (head : Head) → reads.IsKind false a → Begins a b (Ok head) → inside ≡ None → Took inside a b head (records [])
classic_took inside None b head kind p none = tt
classic_took inside (Some x) None head kind p none = absurd p
classic_took inside (Some x) (Some y) head kind p none = record {
  kind = kind;
  accepted = ap (λ i. classic_head i (head_of x)) none ∙ ap (classic_head None) p.0;
  reads = sym p.1;
}

pub classic_opens : (inside a b : Option (List ℕ)) (head : Head) (reader : Reading) → reads.IsKind false a → ReadsHead a b (Ok head) → inside ≡ None
    → reader ≡ record { head = head; place = 24; asked = 24; given = 0; is_open = true } → reads.Opens inside a b (Ok (kinds.Classic head reader))
classic_opens inside a b head reader kind p none is = record {
  walk = records [];
  took = classic_took inside a b head kind p none;
  silent = refl;
  ends = tt;
  behind = record {
    unnamed = none;
    same = ap (λ (r : Reading). r.head) is;
    given = ap (λ (r : Reading). r.given) is;
    place = ap (λ (r : Reading). r.place) is;
  };
  looked = ap (λ (r : Reading). r.asked) is;
  goes_on = ap (λ (r : Reading). r.is_open) is;
}

-- a pcapng file

pub head_of_link : (link : Option Link) → IsSome link → IsHeadOf link (written_head link)
head_of_link None some = absurd cc
head_of_link (Some link) some = refl

pub behind_interface : (steps : List Step) → EndsAtInterface steps → IsSome (behind no_section steps).link
behind_interface [] ends = absurd ends
behind_interface (step ∷ older) ends = ends.1

module _ (inside a b : Option (List ℕ)) (reader : NgReading) (kind : reads.IsKind true a) (p : OpensAt inside a b reader) where
  known_link : IsSome reader.sections.link
  known_link = subst (λ (s : Sections). IsSome s.link) (sym p.moves.sections) (behind_interface p.steps p.ends)

  linked : IsHeadOf (behind no_section p.steps).link (written_head reader.sections.link)
  linked = subst (λ (s : Sections). IsHeadOf s.link (written_head reader.sections.link)) p.moves.sections (head_of_link reader.sections.link known_link)

  took : Took inside a b (written_head reader.sections.link) (blocks p.steps)
  took = by a b kind p.taken.taken where
    by : (a b : Option (List ℕ)) → reads.IsKind true a → Consumes a b p.taken.octets → Took inside a b (written_head reader.sections.link) (blocks p.steps)
    by None b kind q = tt
    by (Some x) None kind q = absurd q
    by (Some x) (Some y) kind q = record {
      kind = kind;
      walks = subst (λ l. Walks inside no_section l p.steps y) (sym q) (p.taken.walks y);
      linked = linked;
    }

  pub sections_open : reads.Opens inside a b (Ok (kinds.Sections reader))
  sections_open =
      let counted = blocks_counted inside no_section (p.taken.octets ++ []) p.steps [] (p.taken.walks []) (omega arith) in
      let same : reader.sections.blocks ≡ (behind no_section p.steps).blocks = ap (λ (s : Sections). s.blocks) p.moves.sections in
      record {
        walk = blocks p.steps;
        took = took;
        silent = p.silent;
        ends = subst (λ packets. BlocksEndAt packets p.steps) (sym p.silent) p.ends;
        behind = record {
          named = p.moves.inside;
          sections = p.moves.sections;
          place = omega (arith, p.moves.place);
          linked = known_link;
          counted = omega (arith, same, counted.count);
          few = omega (arith, counted.count, counted.few);
        };
        looked = p.moves.looked;
        goes_on = p.moves.goes_on;
      }

-- either

-- the kind of octets whose first four were read before
pub kind_sections : (m : Option (List ℕ)) (first : List ℕ) → length first ≡ 4 → bytes_eq first section_octets ≡ true → reads.IsKind true (prepend_known first m)
kind_sections None first four is = tt
kind_sections (Some y) first four is = ap (λ l. bytes_eq l section_octets) (take_at first y 4 four) ∙ is

pub kind_classic : (m : Option (List ℕ)) (first : List ℕ) → length first ≤ 4 → (length first < 4 → IsAtEnd m) → bytes_eq first section_octets ≡ false → reads.IsKind false (prepend_known first m)
kind_classic None first few end is = tt
kind_classic (Some y) first few end is = elim (cases_lt (length first) 4) [
  | inl less ↦
      let none : y ≡ [] = end less in
      let all : take 4 (first ++ y) ≡ first = ap (λ l. take 4 (first ++ l)) none ∙ ap (take 4) (append-nil first) ∙ take_all 4 first few in
      ap (λ l. bytes_eq l section_octets) all ∙ is
  | inr more ↦ ap (λ l. bytes_eq l section_octets) (take_at first y 4 (omega arith)) ∙ is
]

-- a statement about known octets holds without known octets
untold_classic : (inside a b : Option (List ℕ)) (fault : InputFault) → reads.StopsClassic inside a b fault → reads.StopsClassic inside None b fault
untold_classic inside a b faults.Cut p = tt
untold_classic inside a b faults.Magic p = tt
untold_classic inside a b faults.Version p = tt
untold_classic inside a b faults.Link p = tt
untold_classic inside a b faults.Block p = tt
untold_classic inside a b faults.Long p = tt
untold_classic inside a b faults.Many p = tt
untold_classic inside a b faults.ReadFault p = (p.0, tt, p.2)

untold : (inside a b : Option (List ℕ)) (result : Result Input OpenFault) → reads.Opens inside a b result → reads.Opens inside None b result
untold inside a b (Ok input) p = record { walk = p.walk; took = tt; silent = p.silent; ends = p.ends; behind = p.behind; looked = p.looked; goes_on = p.goes_on }
untold inside a b (Err stop) (inl p) = inl (record { kind = tt; stops = untold_classic inside a b stop.fault p.stops; place = p.place })
untold inside a b (Err stop) (inr p) = inr (record {
  kind = tt;
  flaw = p.flaw;
  stops = record {
    steps = p.stops.steps;
    between = p.stops.between;
    taken = record { octets = p.stops.taken.octets; taken = tt; walks = p.stops.taken.walks };
    unlinked = p.stops.unlinked;
    stops = p.stops.stops;
    place = p.stops.place;
  };
  is = p.is;
})

-- the first octets were taken, and then the others
pub opens_behind : (inside a m b : Option (List ℕ)) (first : List ℕ) (result : Result Input OpenFault) → Consumes a m first → reads.Opens inside (prepend_known first m) b result → reads.Opens inside a b result
opens_behind inside None m b first result p q = untold inside (prepend_known first m) b result q
opens_behind inside (Some x) None b first result p q = absurd p
opens_behind inside (Some x) (Some y) b first result p q = subst (λ l. reads.Opens inside (Some l) b result) (sym p) q

-- the source failed in the first four octets
pub stops_first : (inside a b : Option (List ℕ)) → TakesFewer a b 4 → reads.Opens inside a b (Err (at_first faults.ReadFault))
stops_first inside None b p = inl (record { kind = tt; stops = (p.0, tt, omega (arith, p.2)); place = refl })
stops_first inside (Some x) b p = by (is_sections x) refl where
  by : (kind : Bool) → is_sections x ≡ kind → reads.Opens inside (Some x) b (Err (at_first faults.ReadFault))
  by false e = inl (record { kind = e; stops = (p.0, p.1, omega (arith, p.2)); place = refl })
  by true e = inr (record {
    kind = e;
    flaw = blocks_fault.ReadFault;
    stops = record {
      steps = [];
      between = Some x;
      taken = record { octets = []; taken = refl; walks = λ rest. refl };
      unlinked = refl;
      stops = record { octets = p.0; taken = p.1; fewer = omega (arith, p.2) };
      place = refl;
    };
    is = refl;
  })
