-- Which rule decides on a fragment; the worked cases are computed.
use Rattle.std.proofs.Common.{◌≡◌, ℕ, ◌<◌, ◌≤◌, Bool, true, false, cond, List, [], ◌∷◌, ◌++◌, Option, Some, None, refl, sym, ap, subst, ◌∙◌, arith, ◌&&◌, nat_lt}
use Rattle.std.specs.Option.{option_or}
use Rattle.std.proofs.lemmas.Bool.Decides.{nat_tests}
use Rattle.rule_book.specs.declared.rule.Rule.{Rule}
use Rattle.rule_book.specs.declared.rule.Rule.TheVariants.{FDf, FEmpty, FAlign, FBig, FMany, FRoom}
use Rattle.reassembly.specs.DatagramFragments.{Fragment, is_whole}
use Rattle.reassembly.specs.Calls.{Answer, dropped, Gathered, forgets, of_others}
use Rattle.reassembly.specs.declared.assembly.Assembly.{Assembly}
use Rattle.reassembly.specs.TableAndStore.{HoldsFor}
use Rattle.reassembly.specs.working.FragmentAnswers.{IsAnswered}
use Rattle.reassembly.specs.declared.piece.Offered.TheVariants as offers
use Rattle.reassembly.specs.RuleRows.{Row, f_big, View, first_row, own_rows, odd_rows, f_df, f_empty, f_align, f_many, f_room, is_none_held, answer_by, answer_at}
use Rattle.reassembly.specs.CallLaws.{FirstRowDrops}
use Rattle.reassembly.specs.WorkedCases.{WorkedRows}

join_step : (b : Bool) (rule : Rule) (joined left right : Option Rule) → joined ≡ option_or left right → cond b (Some rule) joined ≡ option_or (cond b (Some rule) left) right
join_step true rule joined left right e = refl
join_step false rule joined left right e = e

first_join : (xs ys : List Row) → first_row (xs ++ ys) ≡ option_or (first_row xs) (first_row ys)
first_join [] ys = refl
first_join (x ∷ xs) ys = join_step x.holds x.rule (first_row (xs ++ ys)) (first_row xs) (first_row ys) (first_join xs ys)

-- the last two rules
abbrev pub last_rows : View → Fragment → List Row
last_rows v p = record { rule = FMany; holds = f_many v } ∷ record { rule = FRoom; holds = f_room v p } ∷ []

-- a rule on the fragment alone
pub own_drops : (v : View) (p : Fragment) (rule : Rule) → first_row (own_rows p) ≡ Some rule → answer_at v p ≡ dropped rule
own_drops v p rule own = ap (λ r. answer_by (option_or r (first_row (odd_rows v.pieces p ++ last_rows v p))) (is_whole (p ∷ v.pieces))) own

by_rows : (v : View) (p : Fragment) → first_row (own_rows p) ≡ None → answer_at v p ≡ answer_by (option_or (first_row (odd_rows v.pieces p)) (first_row (last_rows v p))) (is_whole (p ∷ v.pieces))
by_rows v p own =
    ap (λ r. answer_by (option_or r (first_row (odd_rows v.pieces p ++ last_rows v p))) (is_whole (p ∷ v.pieces))) own
    ∙ ap (λ r. answer_by r (is_whole (p ∷ v.pieces))) (first_join (odd_rows v.pieces p) (last_rows v p))

-- a rule under which the fragment contradicts its datagram
pub odd_drops : (v : View) (p : Fragment) (rule : Rule) → first_row (own_rows p) ≡ None → first_row (odd_rows v.pieces p) ≡ Some rule → answer_at v p ≡ dropped rule
odd_drops v p rule own odd = by_rows v p own ∙ ap (λ r. answer_by (option_or r (first_row (last_rows v p))) (is_whole (p ∷ v.pieces))) odd

pub many_drops : (v : View) (p : Fragment) → first_row (own_rows p) ≡ None → first_row (odd_rows v.pieces p) ≡ None → f_many v ≡ true → answer_at v p ≡ dropped FMany
many_drops v p own odd many =
    by_rows v p own ∙ (ap (λ r. answer_by (option_or r (first_row (last_rows v p))) (is_whole (p ∷ v.pieces))) odd
    ∙ ap (λ b. answer_by (cond b (Some FMany) (cond (f_room v p) (Some FRoom) None)) (is_whole (p ∷ v.pieces))) many)

pub room_drops : (v : View) (p : Fragment) → first_row (own_rows p) ≡ None → first_row (odd_rows v.pieces p) ≡ None → f_many v ≡ false → f_room v p ≡ true → answer_at v p ≡ dropped FRoom
room_drops v p own odd many room =
    by_rows v p own ∙ (ap (λ r. answer_by (option_or r (first_row (last_rows v p))) (is_whole (p ∷ v.pieces))) odd
    ∙ (ap (λ b. answer_by (cond b (Some FMany) (cond (f_room v p) (Some FRoom) None)) (is_whole (p ∷ v.pieces))) many
    ∙ ap (λ b. answer_by (cond b (Some FRoom) None) (is_whole (p ∷ v.pieces))) room))

pub none_drops : (v : View) (p : Fragment) → first_row (own_rows p) ≡ None → first_row (odd_rows v.pieces p) ≡ None → f_many v ≡ false → f_room v p ≡ false
    → answer_at v p ≡ answer_by None (is_whole (p ∷ v.pieces))
none_drops v p own odd many room =
    by_rows v p own ∙ (ap (λ r. answer_by (option_or r (first_row (last_rows v p))) (is_whole (p ∷ v.pieces))) odd
    ∙ (ap (λ b. answer_by (cond b (Some FMany) (cond (f_room v p) (Some FRoom) None)) (is_whole (p ∷ v.pieces))) many
    ∙ ap (λ b. answer_by (cond b (Some FRoom) None) (is_whole (p ∷ v.pieces))) room))

-- the answer of a fragment that is dropped; its datagram is removed if the rule forgets it
pub dropped_is : (now : ℕ) (gs : List Gathered) (p : Fragment) (answer : Answer) (rule : Rule) (buf : List ℕ) (a : Assembly) → answer ≡ dropped rule
    → HoldsFor (cond (forgets rule) (of_others p.id gs) gs) a.table.entries a.store → IsAnswered now gs p answer (offers.Drop rule) buf buf a
dropped_is now gs p answer rule buf a is h =
    subst (λ x. IsAnswered now gs p x (offers.Drop rule) buf buf a) (sym is) (record { says = refl; holds = h; octets = refl })

-- if fragments of the datagram are held, F_MANY does not hold
pub not_many : (ps : List Fragment) (full : Bool) → is_none_held ps ≡ false → (is_none_held ps && full) ≡ false
not_many ps full some = ap (λ b. b && full) some

pub room_is : (room need wanted : ℕ) → need ≡ wanted → room < need → nat_lt room wanted ≡ true
room_is room need wanted is lt = grind (arith, nat_tests, is)

pub room_not : (room need wanted : ℕ) → need ≡ wanted → need ≤ room → nat_lt room wanted ≡ false
room_not room need wanted is le = grind (arith, nat_tests, is)

-- the rules in two parts are one list
four_join : (a b c d : Bool) (r s t u : Rule) (rest : Option Rule)
    → option_or (cond a (Some r) (cond b (Some s) (cond c (Some t) (cond d (Some u) None)))) rest ≡ cond a (Some r) (cond b (Some s) (cond c (Some t) (cond d (Some u) rest)))
four_join true b c d r s t u rest = refl
four_join false true c d r s t u rest = refl
four_join false false true d r s t u rest = refl
four_join false false false true r s t u rest = refl
four_join false false false false r s t u rest = refl

pub first_row_drops : FirstRowDrops
first_row_drops v p = four_join (f_df p) (f_empty p) (f_align p) (f_big p) FDf FEmpty FAlign FBig (first_row (odd_rows v.pieces p ++ last_rows v p))

-- The worked cases.

pub worked : WorkedRows
worked = record {
  first = refl;
  second = refl;
  third = refl;
  octets = refl;
  clash = refl;
  forgotten = refl;
  longest = refl;
  too_long = refl;
  many = refl;
  elsewhere = refl;
  past_end = refl;
  not_to_be_split = refl;
  nothing = refl;
  odd = refl;
  no_room = refl;
  same_block = refl;
  head = refl;
  in_time = refl;
  out_of_time = refl;
}
