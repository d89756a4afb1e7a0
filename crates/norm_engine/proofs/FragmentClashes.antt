-- F_CLASH is named exactly of a fragment that contradicts a held one, and a complete datagram is
-- made of held ones.
use Rattle.std.proofs.Common.{◌≡◌, ◌↔◌, ◌&&◌, ◌||◌, Bool, true, false, cond, List, [], ◌∷◌, ◌++◌, filter, Option, Some, None, refl, sym, ap, subst, ◌∙◌, find, option_map}
use Rattle.std.specs.Option.{option_or}
use Rattle.std.proofs.lemmas.Bool.{false≢true}
use Rattle.wire_base.specs.declared.address.Link.{Link}
use Rattle.pcap_file.specs.Records as records
use Rattle.rule_book.specs.declared.rule.Rule.{Rule}
use Rattle.rule_book.specs.declared.rule.Rule.TheVariants as rules
use Rattle.rule_book.specs.Rules.{drop_rows, fix_rows, step_rows}
use Rattle.norm_settings.specs.SettingValues.{PlainSettings}
use Rattle.linked_table.proofs.Lists.{all_weaker}
use Rattle.reassembly.specs.DatagramFragments.{Fragment, is_whole}
use Rattle.reassembly.specs.Calls.{Answer, held, done, dropped, Call, gathered}
use Rattle.reassembly.specs.RuleRows as fragments
use Rattle.reassembly.specs.RuleRows.{answer_at, answer_by, f_align, f_big, f_clash, f_df, f_empty, f_end, f_many, f_room, first_row, is_done, own_rows, view_of}
use Rattle.reassembly.proofs.Datagrams.{AreSound, each_in, whole_is_its_pieces}
use Rattle.reassembly.proofs.Entries.{id_is}
use Rattle.norm_engine.specs.Items.{Item, now_with}
use Rattle.norm_engine.specs.Fragments.{fragment_in, holds_offered, offering_of, piece_calls, pieces_before}
use Rattle.norm_engine.specs.Trace.{Lawful, Read, dropped_by, drops, holds, is_held, is_note, item_of, named_rows, noted_rows, read_after, rules_by}
use Rattle.norm_engine.specs.HeldFragments.{ContradictsHeld, LawfulFragmentClashesAreReal, LawfulJoinsHeld, WasHeld, is_fragment_clash, names_fragment_clash}
use Rattle.norm_engine.proofs.Datagrams.{fragment_is, row_of_datagram, row_of_era, row_of_header, row_of_piece}
use Rattle.norm_engine.proofs.Layers.{dropped_by_layers}
use Rattle.norm_engine.proofs.Traces.{pieces_answered}
use Rattle.norm_engine.proofs.HeldFragments.{HeldOf, after_expiry, all_held, all_sound, clash_of, clashes_at, contained, is_of, none_sound, piece_row, stands}

-- F_CLASH is exact.

fragment_clash_is : (rule : Rule) → is_fragment_clash rule ≡ true → rule ≡ rules.FClash
fragment_clash_is rules.FClash e = refl
fragment_clash_is _ e = absurd (false≢true e)

-- a list of rules that pass a test names the rule only if all do, and it passes
names_all : (f : Rule → Bool) (xs : List Rule) → names_fragment_clash (filter f xs) ≡ true → (names_fragment_clash xs ≡ true) × (f rules.FClash ≡ true)
names_all f [] e = absurd (false≢true e)
names_all f (x ∷ xs) e = by (f x) (is_fragment_clash x) refl refl e (names_all f xs)
  where
    by : (kept clash : Bool) → f x ≡ kept → is_fragment_clash x ≡ clash → names_fragment_clash (cond kept (x ∷ filter f xs) (filter f xs)) ≡ true
        → (names_fragment_clash (filter f xs) ≡ true → (names_fragment_clash xs ≡ true) × (f rules.FClash ≡ true))
        → ((is_fragment_clash x || names_fragment_clash xs) ≡ true) × (f rules.FClash ≡ true)
    by true true k c e more = (ap (λ b. b || names_fragment_clash xs) c, sym (ap f (fragment_clash_is x c)) ∙ k)
    by true false k c e more =
        let rest = more (sym (ap (λ b. b || names_fragment_clash (filter f xs)) c) ∙ e) in
        (ap (λ b. b || names_fragment_clash xs) c ∙ rest.0, rest.1)
    by false true k c e more = let rest = more e in (ap (λ b. b || names_fragment_clash xs) c, rest.1)
    by false false k c e more = let rest = more e in (ap (λ b. b || names_fragment_clash xs) c ∙ rest.0, rest.1)

named_not : (settings : PlainSettings) (link : Link) (read : Read) (r : records.Packet) → names_fragment_clash (named_rows settings link read r) ≡ true → ⊥
unfolding named_rows
named_not settings link read r e = false≢true (names_all (holds settings link read r) (fix_rows ++ step_rows) e).0

noted_not : (settings : PlainSettings) (link : Link) (read : Read) (r : records.Packet) → names_fragment_clash (noted_rows settings link read r) ≡ true → ⊥
unfolding noted_rows
noted_not settings link read r e = false≢true (names_all (λ rule. is_note read rule && holds settings link read r rule) drop_rows e).1

either_names : (xs ys : List Rule) → names_fragment_clash (xs ++ ys) ≡ true → (names_fragment_clash xs ≡ true → ⊥) → names_fragment_clash ys ≡ true
either_names [] ys e none = e
either_names (x ∷ xs) ys e none = by (is_fragment_clash x) refl e (either_names xs ys)
  where
    by : (b : Bool) → is_fragment_clash x ≡ b → (b || names_fragment_clash (xs ++ ys)) ≡ true
        → (names_fragment_clash (xs ++ ys) ≡ true → (names_fragment_clash xs ≡ true → ⊥) → names_fragment_clash ys ≡ true) → names_fragment_clash ys ≡ true
    by true c h more = absurd (none (ap (λ b. b || names_fragment_clash xs) c))
    by false c h more = more h (λ rest. none (ap (λ b. b || names_fragment_clash xs) c ∙ rest))

-- an entry names it only of a record that it drops
dropped_under : (row : Option Rule) (kept : Bool) (noted named : List Rule) → (names_fragment_clash noted ≡ true → ⊥) → (names_fragment_clash named ≡ true → ⊥)
    → names_fragment_clash (rules_by row kept noted named) ≡ true → row ≡ Some rules.FClash
dropped_under (Some rule) kept noted named no_note no_name e = by (is_fragment_clash rule) refl e
  where
    by : (b : Bool) → is_fragment_clash rule ≡ b → (b || false) ≡ true → Some rule ≡ Some rules.FClash
    by true c h = ap Some (fragment_clash_is rule c)
    by false c h = absurd (false≢true h)
dropped_under None true noted named no_note no_name e = absurd (false≢true e)
dropped_under None false noted named no_note no_name e = absurd (no_name (either_names noted named e no_note))

-- a rule that is found holds
find_holds : {A : Type 0} (f : A → Bool) (xs : List A) (x : A) → find f xs ≡ Some x → f x ≡ true
find_holds f [] x e = absurd (cc)
find_holds f (y ∷ ys) x e = by (f y) refl e (find_holds f ys x)
  where
    by : (b : Bool) → f y ≡ b → cond b (Some y) (find f ys) ≡ Some x → (find f ys ≡ Some x → f x ≡ true) → f x ≡ true
    by true t h more = let same : y ≡ x = cc in ap f (sym same) ∙ t
    by false t h more = more h

dropped_holds : (settings : PlainSettings) (link : Link) (read : Read) (r : records.Packet) → dropped_by settings link read r ≡ Some rules.FClash → holds_offered read.piece rules.FClash ≡ true
unfolding dropped_by
dropped_holds settings link read r e = find_holds (drops settings link read r) drop_rows rules.FClash e

-- the rules before it do not hold
rows_before : (a b c d e k : Bool) (more rest : Option Rule) → k ≡ true
    → let own = cond a (Some rules.FDf) (cond b (Some rules.FEmpty) (cond c (Some rules.FAlign) (cond d (Some rules.FBig) None))) in
    option_or (option_or own (cond e (Some rules.FEnd) (cond k (Some rules.FClash) more))) rest ≡ Some rules.FClash → (own ≡ None) × (e ≡ false)
rows_before true b c d e k more rest t h = absurd (cc)
rows_before false true c d e k more rest t h = absurd (cc)
rows_before false false true d e k more rest t h = absurd (cc)
rows_before false false false true e k more rest t h = absurd (cc)
rows_before false false false false true k more rest t h = absurd (cc)
rows_before false false false false false k more rest t h = (refl, refl)

-- the fragment that it drops
record DropsPiece (settings : PlainSettings) (link : Link) (older : List Item) (r : records.Packet) : Type 0 where
  piece : Fragment
  carried : fragment_in settings link r ≡ Some piece
  sound : first_row (own_rows piece) ≡ None
  ends : f_end (view_of settings (pieces_before settings link older r) piece).pieces piece ≡ false
  clash : f_clash (view_of settings (pieces_before settings link older r) piece).pieces piece ≡ true

drops_piece : (settings : PlainSettings) (link : Link) (older : List Item) (r : records.Packet) → dropped_by settings link (read_after settings link older r) r ≡ Some rules.FClash
    → DropsPiece settings link older r
drops_piece settings link older r e = by (fragment_in settings link r) refl (dropped_holds settings link (read_after settings link older r) r e)
  where
    calls : List Call
    calls = pieces_before settings link older r

    by : (o : Option Fragment) → fragment_in settings link r ≡ o → holds_offered (option_map (offering_of settings calls) o) rules.FClash ≡ true → DropsPiece settings link older r
    by None h clash = absurd (false≢true clash)
    by (Some piece) h clash =
        let v = view_of settings calls piece in
        let read = read_after settings link older r in
        let f = fragment_is settings link r piece h in
        let layers : dropped_by settings link read r ≡ option_or (fragments.dropped_by v piece) (option_or (row_of_datagram settings read.past.calls read.datagram)
        (option_or (row_of_header settings read.datagram) (row_of_era settings read.past.calls read.segment))) =
        dropped_by_layers settings link r read
        ∙ (λ i. option_or (f.undropped i) (option_or (row_of_piece (option_map (offering_of settings calls) (h i))) (option_or (row_of_datagram settings read.past.calls read.datagram)
        (option_or (row_of_header settings read.datagram) (row_of_era settings read.past.calls read.segment))))) in
        let before = rows_before (f_df piece) (f_empty piece) (f_align piece) (f_big piece) (f_end v.pieces piece) (f_clash v.pieces piece)
        (cond (f_many v) (Some rules.FMany) (cond (f_room v piece) (Some rules.FRoom) None)) _ clash (sym layers ∙ e) in
        record { piece = piece; carried = h; sound = before.0; ends = before.1; clash = clash }

-- and the other way round
clash_drops : (settings : PlainSettings) (link : Link) (older : List Item) (r : records.Packet) → DropsPiece settings link older r
    → dropped_by settings link (read_after settings link older r) r ≡ Some rules.FClash
clash_drops settings link older r c =
    let v = view_of settings (pieces_before settings link older r) c.piece in
    let row : fragments.dropped_by v c.piece ≡ Some rules.FClash =
    (λ i. option_or (c.sound i) (cond (c.ends i) (Some rules.FEnd) (cond (c.clash i) (Some rules.FClash) (cond (f_many v) (Some rules.FMany) (cond (f_room v c.piece) (Some rules.FRoom) None))))) in
    piece_row settings link older r c.piece c.carried (ap (λ d. is_done (answer_by d (is_whole (c.piece ∷ v.pieces)))) row) ∙ row

named_exactly : (settings : PlainSettings) (link : Link) (older : List Item) (r : records.Packet) → Lawful settings link older → let item = item_of settings link older r in
    (names_fragment_clash item.entry.rules ≡ true) ↔ ContradictsHeld settings link item older
named_exactly settings link older r lawful = (
  λ e. real (drops_piece settings link older r (dropped_under _ _ _ _ (noted_not settings link (read_after settings link older r) r) (named_not settings link (read_after settings link older r) r) e)),
  λ c. ap (λ d. names_fragment_clash (rules_by d (is_held (read_after settings link older r)) (noted_rows settings link (read_after settings link older r) r) (named_rows settings link (read_after settings link older r) r)))
      (clash_drops settings link older r (named c)),
)
  where
    calls : List Call
    calls = pieces_before settings link older r

    real : DropsPiece settings link older r → ContradictsHeld settings link (item_of settings link older r) older
    real d =
        let ps = (view_of settings calls d.piece).pieces in
        let c = clashes_at ps d.piece.offset d.piece.octets d.clash in
        let of = is_of ps c.offset c.octet c.was in
        let brought = contained (HeldOf settings link older d.piece.id) ps of.other
        (after_expiry settings (now_with older r) (piece_calls settings link older) d.piece.id (HeldOf settings link older d.piece.id) (all_held settings link older lawful d.piece.id)) of.held in
        record {
          piece = d.piece;
          carried = d.carried;
          sound = d.sound;
          ends = d.ends;
          other = of.other;
          held = of.held;
          same = id_is of.other.id d.piece.id brought.1;
          was_held = brought.0;
          offset = c.offset;
          octet = c.octet;
          own = c.own;
          had = of.had;
          has = c.has;
          differ = c.differ;
        }

    named : ContradictsHeld settings link (item_of settings link older r) older → DropsPiece settings link older r
    named c =
        let ps = (view_of settings calls c.piece).pieces in
        let sound : AreSound ps = each_in AreSound (gathered settings.frag_time calls) c.piece.id none_sound (all_sound settings calls (pieces_answered settings link older)) in
        record {
          piece = c.piece;
          carried = c.carried;
          sound = c.sound;
          ends = c.ends;
          clash = clash_of ps c.piece.offset c.piece.octets c.offset c.octet c.own (stands ps c.other c.offset c.octet sound c.held c.had) c.has c.differ;
        }

pub fragment_clashes_are_real : LawfulFragmentClashesAreReal
fragment_clashes_are_real settings link [] lawful = tt
fragment_clashes_are_real settings link (item ∷ older) lawful = (
  fragment_clashes_are_real settings link older lawful.0,
  subst (λ (x : Item). (names_fragment_clash x.entry.rules ≡ true) ↔ ContradictsHeld settings link x older) (sym lawful.1) (named_exactly settings link older item.packet lawful.0),
)

-- A datagram that a fragment completes is made of it and of held ones.

answer_done : (answer : Answer) → is_done answer ≡ true → answer ≡ done
answer_done held e = absurd (false≢true e)
answer_done done e = refl
answer_done (dropped rule) e = absurd (false≢true e)

pub joins_held : LawfulJoinsHeld
joins_held settings link item older piece lawful carried complete =
    let calls = pieces_before settings link older item.packet in
    let v = view_of settings calls piece in
    record {
      made = whole_is_its_pieces settings calls piece (pieces_answered settings link older) (answer_done (answer_at v piece) complete);
      brought = all_weaker (HeldOf settings link older piece.id) (λ other. WasHeld settings link other older × (other.id ≡ piece.id)) (λ q h. (h.0, id_is q.id piece.id h.1)) v.pieces
          (after_expiry settings (now_with older item.packet) (piece_calls settings link older) piece.id (HeldOf settings link older piece.id) (all_held settings link older lawful piece.id));
    }
