-- Each fragment that is held was brought by a record that was held, and those of one datagram
-- agree.
use Rattle.std.proofs.Common.{◌≡◌, ◌≢◌, ℕ, zero, suc, ◌+◌, ◌-◌, ◌<◌, ◌≤◌, ◌==◌, ◌||◌, not, nat_lt, Bool, true, false, cond, List, [], ◌∷◌, length, Contains, Option, Some, None, is_some, refl, sym, ap, ap₂, subst, ◌∙◌, arith, slice_get, slice_index, eq-eqb, option_map}
use Rattle.std.specs.List.{AllByRecursion}
use Rattle.std.specs.Option.{option_or, unwrap_or}
use Rattle.std.proofs.lemmas.Bool.{false≢true}
use Rattle.std.proofs.lemmas.Bool.Decides.{nat_tests}
use Rattle.std.proofs.lemmas.Option.{slice_get-get_or}
use Rattle.wire_base.specs.declared.address.Link.{Link}
use Rattle.pcap_file.specs.Records as records
use Rattle.rule_book.specs.declared.rule.Rule.TheVariants as rules
use Rattle.rule_book.specs.declared.entry.Verdict.TheVariants as verdicts
use Rattle.norm_settings.specs.SettingValues.{PlainSettings}
use Rattle.linked_table.proofs.Lists.{all_weaker}
use Rattle.retain_store.specs.Maps.{octet_in}
use Rattle.reassembly.specs.declared.id.DatagramId.{DatagramId}
use Rattle.reassembly.specs.DatagramFragments.{Fragment, octet_of}
use Rattle.reassembly.specs.Calls.{Answer, held, done, dropped, Call, expiry, offer, forgets, gathered, is_id, is_old, pieces_in}
use Rattle.reassembly.specs.CallLaws.{is_late, own_after}
use Rattle.reassembly.specs.RuleRows as fragments
use Rattle.reassembly.specs.RuleRows.{AreAnswered, answer_at, clashes, differs, is_done, view_of}
use Rattle.reassembly.proofs.Datagrams.{AreSound, EachHolds, StandAt, each_after, each_filter, fits_in, held_not_dropped, one_more}
use Rattle.reassembly.proofs.Identifications.{apart}
use Rattle.reassembly.proofs.Pieces.{clash_none, in_piece}
use Rattle.norm_engine.specs.Items.{Item, now_with}
use Rattle.norm_engine.specs.Fragments.{completes, fragment_in, holds_offered, offering_of, piece_calls, pieces_before, with_offered}
use Rattle.norm_engine.specs.Calls.{past_of}
use Rattle.norm_engine.specs.Trace.{Lawful, dropped_by, is_held, item_of, named_rows, read_after, verdict_by}
use Rattle.norm_engine.specs.HeldFragments.{WasHeld}
use Rattle.norm_engine.proofs.Datagrams.{fragment_is, row_of_piece}
use Rattle.norm_engine.proofs.Fragments.{IsOffered, unmade}
use Rattle.norm_engine.proofs.Layers.{bare_row}

-- The fragments of one datagram.

-- an offset at which these octets differ from what is held
pub record ClashesAt (ps : List Fragment) (from : ℕ) (xs : List ℕ) : Type 0 where
  pub offset : ℕ
  pub octet : ℕ
  pub own : ℕ
  pub was : octet_of ps offset ≡ Some octet
  pub has : octet_in from xs offset ≡ Some own
  pub differ : octet ≢ own

-- the octets from the next offset on are those after the first
in_rest : (from x : ℕ) (xs : List ℕ) (offset own : ℕ) → octet_in (from + 1) xs offset ≡ Some own → octet_in from (x ∷ xs) offset ≡ Some own
in_rest from x xs offset own has = by (nat_lt offset (from + 1)) refl has
  where
    by : (b : Bool) → nat_lt offset (from + 1) ≡ b → cond b None (slice_get xs (offset - (from + 1))) ≡ Some own → octet_in from (x ∷ xs) offset ≡ Some own
    by true t h = absurd (cc)
    by false t h =
        let before : nat_lt offset from ≡ false = grind (arith, nat_tests, t) in
        let next : offset - from ≡ suc (offset - (from + 1)) = grind (arith, nat_tests, t) in
        ap₂ (λ b i. cond b None (slice_get (x ∷ xs) i)) before next ∙ h

in_first : (from x : ℕ) (xs : List ℕ) → octet_in from (x ∷ xs) from ≡ Some x
in_first from x xs =
    let here : nat_lt from from ≡ false = grind (arith, nat_tests) in
    let zeroth : from - from ≡ zero = omega arith in
    ap₂ (λ b i. cond b None (slice_get (x ∷ xs) i)) here zeroth

pub clashes_at : (ps : List Fragment) (from : ℕ) (xs : List ℕ) → clashes ps from xs ≡ true → ClashesAt ps from xs
clashes_at ps from [] e = absurd (false≢true e)
clashes_at ps from (x ∷ xs) e = by (octet_of ps from) refl e (clashes_at ps (from + 1) xs)
  where
    later : ClashesAt ps (from + 1) xs → ClashesAt ps from (x ∷ xs)
    later c = record { offset = c.offset; octet = c.octet; own = c.own; was = c.was; has = in_rest from x xs c.offset c.own c.has; differ = c.differ }

    here : (own : ℕ) → octet_of ps from ≡ Some own → (b : Bool) → (own == x) ≡ b → (not b || clashes ps (from + 1) xs) ≡ true
        → (clashes ps (from + 1) xs ≡ true → ClashesAt ps (from + 1) xs) → ClashesAt ps from (x ∷ xs)
    here own was true same h more = later (more h)
    here own was false same h more =
        record { offset = from; octet = own; own = x; was = was; has = in_first from x xs; differ = λ e. absurd (false≢true (sym same ∙ (ap (λ n. n == x) e ∙ eq-eqb x x refl))) }

    by : (o : Option ℕ) → octet_of ps from ≡ o → (differs o x || clashes ps (from + 1) xs) ≡ true → (clashes ps (from + 1) xs ≡ true → ClashesAt ps (from + 1) xs)
        → ClashesAt ps from (x ∷ xs)
    by None was h more = later (more h)
    by (Some own) was h more = here own was (own == x) refl h more

-- the octet at an offset of a fragment
index_of : (from : ℕ) (xs : List ℕ) (offset own : ℕ) → octet_in from xs offset ≡ Some own → (from ≤ offset) × (offset - from < length xs) × (slice_index xs (offset - from) ≡ own)
index_of from xs offset own has = by (nat_lt offset from) refl has
  where
    inside : (from ≤ offset) × (offset < from + length xs)
    inside = in_piece from xs offset (ap is_some has)

    by : (b : Bool) → nat_lt offset from ≡ b → cond b None (slice_get xs (offset - from)) ≡ Some own → (from ≤ offset) × (offset - from < length xs) × (slice_index xs (offset - from) ≡ own)
    by true t h = absurd (cc)
    by false t h =
        let least = inside.0 in
        let most = inside.1 in
        let lt : offset - from < length xs = omega (arith, least, most) in
        let is : Some (slice_index xs (offset - from)) ≡ Some own = sym (slice_get-get_or xs (offset - from) 0 lt) ∙ h in
        (least, lt, cc)

-- octets clash if one of them differs from what is held
pub clash_of : (ps : List Fragment) (from : ℕ) (xs : List ℕ) (offset octet own : ℕ) → octet_of ps offset ≡ Some octet → octet_in from xs offset ≡ Some own → octet ≢ own
    → clashes ps from xs ≡ true
clash_of ps from xs offset octet own was has differ = by (clashes ps from xs) refl
  where
    by : (b : Bool) → clashes ps from xs ≡ b → b ≡ true
    by true e = refl
    by false e =
        let at = index_of from xs offset own has in
        let least = at.0 in
        let place : from + (offset - from) ≡ offset = omega (arith, least) in
        let same = clash_none ps from xs e (offset - from) at.1 in
        let held_octet : unwrap_or (octet_of ps (from + (offset - from))) (slice_index xs (offset - from)) ≡ octet =
        ap (λ o. unwrap_or (octet_of ps o) (slice_index xs (offset - from))) place ∙ ap (λ o. unwrap_or o (slice_index xs (offset - from))) was in
        absurd (differ (sym held_octet ∙ (same ∙ at.2)))

-- an octet that is held is of one of the fragments
pub record IsOf (ps : List Fragment) (offset octet : ℕ) : Type 0 where
  pub other : Fragment
  pub held : Contains ps other
  pub had : octet_in other.offset other.octets offset ≡ Some octet

pub is_of : (ps : List Fragment) (offset octet : ℕ) → octet_of ps offset ≡ Some octet → IsOf ps offset octet
is_of [] offset octet e = absurd (cc)
is_of (p ∷ ps) offset octet e = by (octet_of ps offset) refl e (is_of ps offset octet)
  where
    by : (o : Option ℕ) → octet_of ps offset ≡ o → option_or o (octet_in p.offset p.octets offset) ≡ Some octet → (octet_of ps offset ≡ Some octet → IsOf ps offset octet)
        → IsOf (p ∷ ps) offset octet
    by None none h more = record { other = p; held = (zero, omega arith, refl); had = h }
    by (Some x) was h more =
        let rest = more (was ∙ h) in
        let k = rest.held.0 in
        let lt = rest.held.1 in
        record { other = rest.other; held = (suc k, omega (arith, lt), rest.held.2); had = rest.had }

-- a fact of each element
pub contained : {X : Type 0} (P : X → Type 0) (xs : List X) (x : X) → AllByRecursion P xs → Contains xs x → P x
contained P [] x all (k, lt, at) = absurd (omega (arith, lt))
contained P (y ∷ ys) x all (zero, lt, at) = subst P at all.0
contained P (y ∷ ys) x all (suc k, lt, at) = contained P ys x all.1 (k, omega (arith, lt), at)

-- the octet of a held fragment is what is held at its offset
pub stands : (ps : List Fragment) (other : Fragment) (offset octet : ℕ) → AreSound ps → Contains ps other → octet_in other.offset other.octets offset ≡ Some octet
    → octet_of ps offset ≡ Some octet
stands ps other offset octet sound among had =
    let at = index_of other.offset other.octets offset octet had in
    let least = at.0 in
    let place : other.offset + (offset - other.offset) ≡ offset = omega (arith, least) in
    ap (octet_of ps) (sym place) ∙ contained (StandAt ps) ps other sound.stand among (offset - other.offset) at.1 ∙ ap Some at.2

pub none_sound : AreSound []
none_sound = record { stand = tt; ends = λ t e. absurd (cc); some = tt }

pub all_sound : (settings : PlainSettings) (cs : List Call) → AreAnswered settings cs → EachHolds AreSound (gathered settings.frag_time cs)
all_sound settings [] answered = tt
all_sound settings (expiry now ∷ cs) answered = each_filter AreSound (λ g. not (is_old settings.frag_time now g)) (gathered settings.frag_time cs) (all_sound settings cs answered)
all_sound settings (offer now p answer ∷ cs) answered =
    let v = view_of settings cs p in
    each_after AreSound now p answer (gathered settings.frag_time cs) none_sound
    (λ is. let fits = fits_in v p (held_not_dropped v p answer answered.0 is) in one_more v.pieces p fits.end fits.octets fits.some)
    (all_sound settings cs answered.1)

-- The record of a fragment.

-- the rule that drops a record whose fragment does not complete its datagram is one on fragments
pub piece_row : (settings : PlainSettings) (link : Link) (older : List Item) (r : records.Packet) (piece : Fragment) → fragment_in settings link r ≡ Some piece
    → let o = offering_of settings (pieces_before settings link older r) piece in
    completes o ≡ false → dropped_by settings link (read_after settings link older r) r ≡ fragments.dropped_by o.view piece
piece_row settings link older r piece h unfinished =
    let past = past_of settings link older r in
    let o = offering_of settings past.pieces piece in
    let f = fragment_is settings link r piece h in
    let is : IsOffered settings link past r o = record {
      kept = record { undropped = f.undropped; carries = f.carried };
      part = f.part;
      offering = ap (λ x. option_map (offering_of settings past.pieces) x) h;
    } in
    bare_row settings link past r (unmade settings link past r o is unfinished) ∙ (λ i. option_or (is.kept.undropped i) (row_of_piece (is.offering i)))

-- the verdict on a record whose fragment is held
held_verdict : (settings : PlainSettings) (link : Link) (older : List Item) (r : records.Packet) (piece : Fragment) → fragment_in settings link r ≡ Some piece
    → answer_at (view_of settings (pieces_before settings link older r) piece) piece ≡ held → (item_of settings link older r).entry.verdict ≡ verdicts.Hold
held_verdict settings link older r piece h answer =
    let calls = pieces_before settings link older r in
    let v = view_of settings calls piece in
    let read = read_after settings link older r in
    let undropped : dropped_by settings link read r ≡ None =
    piece_row settings link older r piece h (ap is_done answer) ∙ held_not_dropped v piece (answer_at v piece) refl answer in
    let kept : is_held read ≡ true =
    ap (λ x. holds_offered (option_map (offering_of settings calls) x) rules.FHeld) h ∙ ap fragments.is_held answer in
    ap₂ (λ d b. verdict_by d b (named_rows settings link read r)) undropped kept

-- Each fragment that is held was brought by a record.

-- with one record more
still_held : (settings : PlainSettings) (link : Link) (piece : Fragment) (item : Item) (older : List Item) → WasHeld settings link piece older → WasHeld settings link piece (item ∷ older)
still_held settings link piece item older b = record { newer = item ∷ b.newer; item = b.item; older = b.older; trace_is = ap (λ xs. item ∷ xs) b.trace_is; carried = b.carried; held = b.held }

-- a fragment of this datagram that a record brought
abbrev pub HeldOf : PlainSettings → Link → List Item → DatagramId → Fragment → Type 0
HeldOf settings link trace id piece = WasHeld settings link piece trace × (is_id piece.id id ≡ true)

-- after old datagrams were removed
pub after_expiry : (settings : PlainSettings) (now : ℕ) (calls : List Call) (id : DatagramId) (P : Fragment → Type 0) → AllByRecursion P (pieces_in (gathered settings.frag_time calls) id)
    → AllByRecursion P (pieces_in (gathered settings.frag_time (expiry now ∷ calls)) id)
after_expiry settings now calls id P all =
    subst (AllByRecursion P) (sym (apart.passes settings.frag_time now calls id)) (by (is_late settings.frag_time now calls id))
  where
    by : (late : Bool) → AllByRecursion P (cond late [] (pieces_in (gathered settings.frag_time calls) id))
    by true = tt
    by false = all

-- after a fragment
after_offer : (settings : PlainSettings) (now : ℕ) (calls : List Call) (piece : Fragment) (answer : Answer) (id : DatagramId) (P : Fragment → Type 0)
    → (is_id piece.id id ≡ true → answer ≡ held → P piece) → AllByRecursion P (pieces_in (gathered settings.frag_time calls) id)
    → AllByRecursion P (pieces_in (gathered settings.frag_time (offer now piece answer ∷ calls)) id)
after_offer settings now calls piece answer id P new all =
    subst (AllByRecursion P) (sym (apart.comes settings.frag_time now piece answer calls id)) (by (is_id piece.id id) refl)
  where
    ps : List Fragment
    ps = pieces_in (gathered settings.frag_time calls) id

    gone : (b : Bool) → AllByRecursion P (cond b [] ps)
    gone true = tt
    gone false = all

    own : (answer : Answer) → (answer ≡ held → P piece) → AllByRecursion P (own_after piece answer ps)
    own held fresh = (fresh refl, all)
    own done fresh = tt
    own (dropped rule) fresh = gone (forgets rule)

    by : (same : Bool) → is_id piece.id id ≡ same → AllByRecursion P (cond same (own_after piece answer ps) ps)
    by true e = own answer (new e)
    by false e = all

pub all_held : (settings : PlainSettings) (link : Link) (trace : List Item) → Lawful settings link trace → (id : DatagramId)
    → AllByRecursion (HeldOf settings link trace id) (pieces_in (gathered settings.frag_time (piece_calls settings link trace)) id)
all_held settings link [] lawful id = tt
all_held settings link (item ∷ older) lawful id =
    by (fragment_in settings link item.packet) refl
    (after_expiry settings (now_with older item.packet) (piece_calls settings link older) id (HeldOf settings link (item ∷ older) id)
    (all_weaker (HeldOf settings link older id) (HeldOf settings link (item ∷ older) id) (λ q h. (still_held settings link q item older h.0, h.1))
    (pieces_in (gathered settings.frag_time (piece_calls settings link older)) id) (all_held settings link older lawful.0 id)))
  where
    now : ℕ
    now = now_with older item.packet

    calls : List Call
    calls = pieces_before settings link older item.packet

    P : Fragment → Type 0
    P = HeldOf settings link (item ∷ older) id

    by : (piece : Option Fragment) → fragment_in settings link item.packet ≡ piece → AllByRecursion P (pieces_in (gathered settings.frag_time calls) id)
        → AllByRecursion P (pieces_in (gathered settings.frag_time (with_offered settings piece now calls)) id)
    by None h kept = kept
    by (Some piece) h kept =
        after_offer settings now calls piece (answer_at (view_of settings calls piece) piece) id P
        (λ same answer. (
          record {
            newer = [];
            item = item;
            older = older;
            trace_is = refl;
            carried = h;
            held = ap (λ (x : Item). x.entry.verdict) lawful.1 ∙ held_verdict settings link older item.packet piece h answer;
          },
          same,
        )) kept
