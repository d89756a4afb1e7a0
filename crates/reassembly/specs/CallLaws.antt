-- Laws of calls (this project's profile; RFC 791 section 3.2).
use Rattle.std.specs.Prelude.{◌≡◌, ℕ, ◌^◌, ◌<◌, ◌≤◌, ◌&&◌, Bool, true, false, List, [], ◌∷◌, length, find, slice_index, is_some, if◌then◌else◌}
use Rattle.std.specs.List.{list_any}
use Rattle.linked_table.specs.EntryTable.{Pairwise}
use Rattle.norm_settings.specs.SettingValues.{PlainSettings}
use Rattle.rule_book.specs.Rules.{fragment_rows}
use Rattle.reassembly.specs.declared.id.DatagramId.{DatagramId}
use Rattle.reassembly.specs.DatagramFragments.{Fragment, datagram_octets, front_of, whole_of, IsMadeOf}
use Rattle.reassembly.specs.Calls.{Answer, held, done, dropped, Call, expiry, offer, gathered, pieces_in, cells_in, is_id, is_old, forgets}
use Rattle.reassembly.specs.RuleRows.{View, answer_at, dropped_by, holds_fragment, view_of, AreAnswered}
use Rattle.wire_base.specs.declared.limits.TheConstants.{MAX_PAYLOAD}

-- the datagram of these fragments is made of them: its octets are theirs, and one of them is at
-- offset 0
pub record IsOfPieces (ps : List Fragment) : Type 0 where
  pub octets : IsMadeOf (datagram_octets ps) ps
  pub head : is_some (front_of ps) ≡ true

-- If a fragment completes its datagram, the datagram is made of its fragments.
abbrev pub WholeIsItsPieces : Type 0
WholeIsItsPieces =
    (settings : PlainSettings) (cs : List Call) (p : Fragment) → AreAnswered settings cs → answer_at (view_of settings cs p) p ≡ done
    → IsOfPieces (p ∷ (view_of settings cs p).pieces)

-- the fragments of a datagram after one of its own arrived: one more if it is held, none if the
-- datagram is completed or removed
abbrev pub own_after : Fragment → Answer → List Fragment → List Fragment
own_after p held ps = p ∷ ps
own_after p done ps = []
own_after p (dropped rule) ps = if forgets rule then [] else ps

-- the calls that concern a datagram: those of its own fragments, and those that let time pass
abbrev pub calls_on : DatagramId → List Call → List Call
calls_on id [] = []
calls_on id (expiry now ∷ cs) = expiry now ∷ calls_on id cs
calls_on id (offer now p answer ∷ cs) = if is_id p.id id then offer now p answer ∷ calls_on id cs else calls_on id cs

-- the first fragment of this datagram arrived more than `time` seconds before `now`
abbrev pub is_late : (time now : ℕ) → List Call → DatagramId → Bool
is_late time now cs id = list_any (λ g. is_id g.id id && is_old time now g) (gathered time cs)

-- What is held for a datagram depends on its own fragments, on the answer to each, and on time.
-- Other datagrams affect these answers by F_MANY and F_ROOM alone.
pub record DatagramsAreApart : Type 0 where
  -- no identification is held twice
  pub once : (time : ℕ) (cs : List Call) → Pairwise (λ a b. is_id a.id b.id ≡ false) (gathered time cs)
  -- a fragment changes what is held for its own datagram alone
  pub comes : (time now : ℕ) (p : Fragment) (answer : Answer) (cs : List Call) (id : DatagramId)
      → pieces_in (gathered time (offer now p answer ∷ cs)) id
      ≡ (if is_id p.id id then own_after p answer (pieces_in (gathered time cs) id) else pieces_in (gathered time cs) id)
  -- time removes a datagram by its own first fragment
  pub passes : (time now : ℕ) (cs : List Call) (id : DatagramId)
      → pieces_in (gathered time (expiry now ∷ cs)) id ≡ (if is_late time now cs id then [] else pieces_in (gathered time cs) id)
  -- so, with the same answers, what is held for a datagram is what its own calls alone would leave
  pub alone : (time : ℕ) (cs : List Call) (id : DatagramId) → pieces_in (gathered time cs) id ≡ pieces_in (gathered time (calls_on id cs)) id

-- A fragment is dropped by the first rule on fragments, in the order of testing, that holds for it.
abbrev pub FirstRowDrops : Type 0
FirstRowDrops = (v : View) (p : Fragment) → dropped_by v p ≡ find (holds_fragment v p) fragment_rows

-- the fields of a fragment have the sizes of their header fields, and its octets are octets
pub record IsSized (p : Fragment) : Type 0 where
  pub tos : p.tos < 2 ^ 8
  pub ttl : p.ttl < 2 ^ 8
  pub octets : (at : ℕ) → slice_index p.octets at < 2 ^ 8

-- each fragment offered in these calls is sized
abbrev pub AreSized : List Call → Type 0
AreSized [] = Unit {0}
AreSized (expiry now ∷ cs) = AreSized cs
AreSized (offer now p answer ∷ cs) = IsSized p × AreSized cs

-- the datagram of these fragments fits after a header of 20 octets, its length is that of its
-- octets, and its fields and octets are sized
pub record IsSizedWhole (ps : List Fragment) : Type 0 where
  pub tos : (whole_of ps).tos < 2 ^ 8
  pub ttl : (whole_of ps).ttl < 2 ^ 8
  pub octets : (at : ℕ) → slice_index (datagram_octets ps) at < 2 ^ 8
  pub short : length (datagram_octets ps) ≤ MAX_PAYLOAD
  pub len : (whole_of ps).len ≡ length (datagram_octets ps)

-- If a fragment completes its datagram and each fragment is sized, the datagram is sized.
abbrev pub WholesAreSized : Type 0
WholesAreSized =
    (settings : PlainSettings) (cs : List Call) (p : Fragment) → AreAnswered settings cs → AreSized cs → IsSized p
    → answer_at (view_of settings cs p) p ≡ done → IsSizedWhole (p ∷ (view_of settings cs p).pieces)

-- the numbers of held datagrams and cells do not exceed the settings
pub record IsWithin (settings : PlainSettings) (cs : List Call) : Type 0 where
  pub datagrams : length (gathered settings.frag_time cs) ≤ settings.frags
  pub cells : cells_in (gathered settings.frag_time cs) ≤ settings.frag_cells

-- If each fragment was answered by the rules, what is held stays within the settings.
abbrev pub AnsweredIsWithin : Type 0
AnsweredIsWithin = (settings : PlainSettings) (cs : List Call) → AreAnswered settings cs → IsWithin settings cs
