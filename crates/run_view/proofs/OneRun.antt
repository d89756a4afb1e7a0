-- Octets have one head as an input, and a report and an input have one list of lines and of
-- records.
use Rattle.std.proofs.Common.{◌≡◌, ◌≤◌, ℕ, List, length, Option, Some, None, Ok, refl, sym, ap, ◌∙◌, inl, inr, arith, [], ◌++◌, subst, append-nil, append_assoc}
use Rattle.std.proofs.lemmas.Bool.{cases_lt}
use Rattle.wire_base.specs.declared.address.Link.{Link}
use Rattle.pcap_file.specs.declared.head.Head.{Head}
use Rattle.pcap_file.specs.FileHead.{head_of}
use Rattle.pcapng_file.specs.Blocks.{Step}
use Rattle.pcapng_file.specs.ReaderState.{written_head}
use Rattle.pcapng_file.specs.Sections.{Walks, behind}
use Rattle.pcapng_file.specs.SectionState.{Sections, no_section}
use Rattle.pcapng_file.proofs.Sections.{behind_on, links_stay}
use Rattle.capture_input.specs.Inputs.{BeginsWith, IsHeadOf, Walk, blocks, records, IsInput}
use Rattle.capture_input.proofs.Inputs.{accepted, go_on, one_kind}
use Rattle.std.proofs.lemmas.List.{append_cancel_left}
use Rattle.pcap_file.specs.Records.{Packet}
use Rattle.run_view.specs.declared.form.Form.{Form}
use Rattle.run_view.specs.Forms.{heading}
use Rattle.run_view.specs.Items.{AreItems, Item, end_text, lines_of, lines_text, packets_of}
use Rattle.run_view.specs.ViewLaws.{ItemsAreOne}
use Rattle.run_view.proofs.Finished.{end_same, form_one}
use Rattle.run_view.proofs.Numbered.{are_lines, compare, few_firsts, firsts_in, no_entry_end, records_length, small_total, total}
use Rattle.run_view.proofs.Oldest.{oldest_records}
use Rattle.run_view.proofs.SameItems.{same_behind}

-- The head of an input.

-- a link that is known after some blocks is known after more
link_on : (octets : List ℕ) (ps qs : List Step) (r t : List ℕ) → Walks None no_section octets ps r → Walks None no_section octets qs t
    → length ps ≤ length qs → (link : Link) → (behind no_section ps).link ≡ Some link → (behind no_section qs).link ≡ Some link
link_on octets ps qs r t p q few link known =
    let on = go_on None octets ps qs r t p q few in
    ap (λ (l : List Step). (behind no_section l).link) on.are ∙ ap (λ (s : Sections). s.link) (behind_on no_section ps on.newer)
    ∙ links_stay None (behind no_section ps) r on.newer t on.walks link known

-- the head of a pcapng file has the link of its first interface
record Linked (link : Option Link) (head : Head) : Type 0 where
  own : Link
  known : link ≡ Some own
  is : head ≡ written_head (Some own)

linked : (link : Option Link) (head : Head) → IsHeadOf link head → Linked link head
linked None head is = absurd is
linked (Some own) head is = record { own = own; known = refl; is = is }

same_linked : (link : Option Link) (head other : Head) (own : Link) → Linked link head → link ≡ Some own → other ≡ written_head (Some own)
    → head ≡ other
same_linked link head other own l known is =
    let mine = l.known in
    let owns : Some l.own ≡ Some own = cc in
    l.is ∙ ap written_head owns ∙ sym is

pub heads_one : (octets : List ℕ) (head other : Head) (walk farther : Walk) (rest left : List ℕ) → BeginsWith None octets head walk rest
    → BeginsWith None octets other farther left → head ≡ other
heads_one octets head other (records ps) (records qs) rest left p q =
    let one : head_of octets ≡ Ok head = accepted None (head_of octets) head p.accepted in
    let two : head_of octets ≡ Ok other = accepted None (head_of octets) other q.accepted in
    cc
heads_one octets head other (records ps) (blocks qs) rest left p q = absurd (one_kind octets p.kind q.kind)
heads_one octets head other (blocks ps) (records qs) rest left p q = absurd (one_kind octets q.kind p.kind)
heads_one octets head other (blocks ps) (blocks qs) rest left p q =
    let l = linked (behind no_section ps).link head p.linked in
    let m = linked (behind no_section qs).link other q.linked in
    elim (cases_lt (length qs) (length ps)) [
      | inl less ↦
          same_linked (behind no_section ps).link head other m.own l
          (link_on octets qs ps left rest q.walks p.walks (omega (arith, less)) m.own m.known) m.is
      | inr more ↦
          sym (same_linked (behind no_section qs).link other head l.own m (link_on octets ps qs rest left p.walks q.walks more l.own l.known) l.is)
    ]

-- Lines and records.

-- the lines of two lists whose text is the same
same_lines : (form : Form) (items others : List Item) → AreItems form items → AreItems form others
    → lines_text (lines_of items) ++ end_text items ≡ lines_text (lines_of others) ++ end_text others → lines_of items ≡ lines_of others
same_lines form items others one two same =
    let xs = lines_of items in
    let ys = lines_of others in
    let mine = are_lines form items one in
    let yours = are_lines form others two in
    elim
    (compare form xs ys (end_text items) (firsts_in ys) (total form ys) (few_firsts form ys yours) (small_total form ys yours) mine yours
    (same ∙ ap (λ t. lines_text ys ++ t) (end_same form others two))) [
      | inl end ↦ end.same
      | inr next ↦
          absurd
          (no_entry_end next.line.second next.line.entry next.rest [] (firsts_in xs) (total form xs) next.stands.fits.fits (few_firsts form xs mine)
          (small_total form xs mine)
          (sym next.is ∙ end_same form items one ∙ sym (append-nil _)))
    ]

-- the records of two lists with as many of them
same_records : (input : List ℕ) (head other : Head) (all packets : List Packet) → IsInput None input head all → IsInput None input other packets
    → length all ≡ length packets → all ≡ packets
same_records input head other all packets one two long =
    let oldest =
    oldest_records input head other all packets one (record { walk = two.walk; left = Some []; took = two.begins; packets_are = two.packets_are }) in
    same_behind [] oldest.newer all packets oldest.are long

pub items_one : ItemsAreOne
items_one input head other form own items others one two same mine yours = (
  heads_one input head other mine.walk yours.walk [] [] mine.begins yours.begins,
  record {
    form_is = form_is;
    lines = lines;
    packets =
        same_records input head other (packets_of items) (packets_of others) mine yours
        (records_length items ∙ ap firsts_in lines ∙ sym (records_length others));
  },
) where
  whole : heading form ++ (lines_text (lines_of items) ++ end_text items) ≡ heading own ++ (lines_text (lines_of others) ++ end_text others)
  whole =
      sym (append_assoc (heading form) (lines_text (lines_of items)) (end_text items)) ∙ same
      ∙ append_assoc (heading own) (lines_text (lines_of others)) (end_text others)

  form_is : form ≡ own
  form_is = sym (form_one (lines_text (lines_of items) ++ end_text items) (lines_text (lines_of others) ++ end_text others) form own whole)

  H : Form → Type 0
  H f = heading form ++ (lines_text (lines_of items) ++ end_text items) ≡ heading f ++ (lines_text (lines_of others) ++ end_text others)

  text : lines_text (lines_of items) ++ end_text items ≡ lines_text (lines_of others) ++ end_text others
  text = append_cancel_left (heading form) _ _ (subst H (sym form_is) whole)

  lines : lines_of items ≡ lines_of others
  lines = same_lines form items others one (subst (λ f. AreItems f others) (sym form_is) two) text
