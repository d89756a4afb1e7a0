-- Datagrams of two identifications are independent.
use Rattle.std.proofs.Common.{◌≡◌, ℕ, not, Bool, true, false, cond, List, [], ◌∷◌, refl, sym, ap, subst, ◌∙◌, ◌&&◌, ◌||◌, ap₂, arith}
use Rattle.std.specs.List.{AllByRecursion, filter, list_any}
use Rattle.linked_table.specs.EntryTable.{Pairwise}
use Rattle.linked_table.proofs.Lists.{all_weaker}
use Rattle.reassembly.specs.declared.id.DatagramId.{DatagramId}
use Rattle.reassembly.specs.DatagramFragments.{Fragment}
use Rattle.reassembly.specs.Calls.{Answer, held, done, dropped, Call, offer, Gathered, gathered, after, with_piece, of_others, pieces_in, is_id, forgets, expiry, is_old}
use Rattle.reassembly.specs.CallLaws.{own_after, calls_on, DatagramsAreApart}
use Rattle.reassembly.proofs.Entries.{id_same, id_is}
use Rattle.reassembly.proofs.Order.{pairs_filter}

-- How a fragment changes what is held.

own_held : (now : ℕ) (p : Fragment) (gs : List Gathered) → pieces_in (with_piece now p gs) p.id ≡ p ∷ pieces_in gs p.id
own_held now p [] = ap (λ b. cond {A = List Fragment} b (p ∷ []) []) (id_same p.id)
own_held now p (g ∷ gs) = by_test (is_id g.id p.id) refl (own_held now p gs)
  where
    by_test : (b : Bool) → is_id g.id p.id ≡ b → pieces_in (with_piece now p gs) p.id ≡ p ∷ pieces_in gs p.id
        → pieces_in (cond b (record g { pieces = p ∷ g.pieces } ∷ gs) (g ∷ with_piece now p gs)) p.id ≡ p ∷ cond b g.pieces (pieces_in gs p.id)
    by_test true e rest = ap (λ t. cond t (p ∷ g.pieces) (pieces_in gs p.id)) e
    by_test false e rest = ap (λ t. cond t g.pieces (pieces_in (with_piece now p gs) p.id)) e ∙ rest

other_held : (now : ℕ) (p : Fragment) (gs : List Gathered) (id : DatagramId) → is_id p.id id ≡ false → pieces_in (with_piece now p gs) id ≡ pieces_in gs id
other_held now p [] id ne = ap (λ b. cond {A = List Fragment} b (p ∷ []) []) ne
other_held now p (g ∷ gs) id ne = by_test (is_id g.id p.id) refl (other_held now p gs id ne)
  where
    by_test : (b : Bool) → is_id g.id p.id ≡ b → pieces_in (with_piece now p gs) id ≡ pieces_in gs id
        → pieces_in (cond b (record g { pieces = p ∷ g.pieces } ∷ gs) (g ∷ with_piece now p gs)) id ≡ cond (is_id g.id id) g.pieces (pieces_in gs id)
    by_test true e rest =
        let apart : is_id g.id id ≡ false = ap (λ d. is_id d id) (id_is g.id p.id e) ∙ ne in
        ap (λ t. cond t (p ∷ g.pieces) (pieces_in gs id)) apart ∙ sym (ap (λ t. cond t g.pieces (pieces_in gs id)) apart)
    by_test false e rest = ap (λ l. cond (is_id g.id id) g.pieces l) rest

own_gone : (id : DatagramId) (gs : List Gathered) → pieces_in (of_others id gs) id ≡ []
own_gone id [] = refl
own_gone id (g ∷ gs) = by_test (is_id g.id id) refl (own_gone id gs)
  where
    by_test : (b : Bool) → is_id g.id id ≡ b → pieces_in (of_others id gs) id ≡ [] → pieces_in (cond (not b) (g ∷ of_others id gs) (of_others id gs)) id ≡ []
    by_test true e rest = rest
    by_test false e rest = ap (λ t. cond t g.pieces (pieces_in (of_others id gs) id)) e ∙ rest

other_gone : (gone id : DatagramId) (gs : List Gathered) → is_id gone id ≡ false → pieces_in (of_others gone gs) id ≡ pieces_in gs id
other_gone gone id [] ne = refl
other_gone gone id (g ∷ gs) ne = by_test (is_id g.id gone) refl (other_gone gone id gs ne)
  where
    by_test : (b : Bool) → is_id g.id gone ≡ b → pieces_in (of_others gone gs) id ≡ pieces_in gs id
        → pieces_in (cond (not b) (g ∷ of_others gone gs) (of_others gone gs)) id ≡ cond (is_id g.id id) g.pieces (pieces_in gs id)
    by_test true e rest =
        let apart : is_id g.id id ≡ false = ap (λ d. is_id d id) (id_is g.id gone e) ∙ ne in
        rest ∙ sym (ap (λ t. cond t g.pieces (pieces_in gs id)) apart)
    by_test false e rest = ap (λ l. cond (is_id g.id id) g.pieces l) rest

own_case : (now : ℕ) (p : Fragment) (answer : Answer) (gs : List Gathered) → pieces_in (after now p answer gs) p.id ≡ own_after p answer (pieces_in gs p.id)
own_case now p held gs = own_held now p gs
own_case now p done gs = own_gone p.id gs
own_case now p (dropped rule) gs = by_rule (forgets rule)
  where
    by_rule : (b : Bool) → pieces_in (cond b (of_others p.id gs) gs) p.id ≡ cond b [] (pieces_in gs p.id)
    by_rule true = own_gone p.id gs
    by_rule false = refl

other_case : (now : ℕ) (p : Fragment) (answer : Answer) (gs : List Gathered) (id : DatagramId) → is_id p.id id ≡ false → pieces_in (after now p answer gs) id ≡ pieces_in gs id
other_case now p held gs id ne = other_held now p gs id ne
other_case now p done gs id ne = other_gone p.id id gs ne
other_case now p (dropped rule) gs id ne = by_rule (forgets rule)
  where
    by_rule : (b : Bool) → pieces_in (cond b (of_others p.id gs) gs) id ≡ pieces_in gs id
    by_rule true = other_gone p.id id gs ne
    by_rule false = refl

pub follow : (time now : ℕ) (p : Fragment) (answer : Answer) (cs : List Call) (id : DatagramId) → pieces_in (gathered time (offer now p answer ∷ cs)) id
    ≡ cond (is_id p.id id) (own_after p answer (pieces_in (gathered time cs) id)) (pieces_in (gathered time cs) id)
follow time now p answer cs id = by_test (is_id p.id id) refl
  where
    by_test : (b : Bool) → is_id p.id id ≡ b
        → pieces_in (after now p answer (gathered time cs)) id ≡ cond b (own_after p answer (pieces_in (gathered time cs) id)) (pieces_in (gathered time cs) id)
    by_test true e =
        subst (λ d. pieces_in (after now p answer (gathered time cs)) d ≡ own_after p answer (pieces_in (gathered time cs) d)) (id_is p.id id e) (own_case now p answer (gathered time cs))
    by_test false e = other_case now p answer (gathered time cs) id e

-- Datagrams of two identifications are independent.

-- no two have one identification
abbrev Once : List Gathered → Type 0
Once gs = Pairwise (λ a b. is_id a.id b.id ≡ false) gs

id_back : (a b : DatagramId) → is_id a b ≡ is_id b a
id_back a b = grind arith

other_with : (id : DatagramId) (now : ℕ) (p : Fragment) (gs : List Gathered) → is_id id p.id ≡ false → AllByRecursion (λ (g : Gathered). is_id id g.id ≡ false) gs
    → AllByRecursion (λ (g : Gathered). is_id id g.id ≡ false) (with_piece now p gs)
other_with id now p [] ne all = (ne, tt)
other_with id now p (g ∷ gs) ne all = by_test (is_id g.id p.id) (other_with id now p gs ne all.1)
  where
    by_test : (b : Bool) → AllByRecursion (λ (k : Gathered). is_id id k.id ≡ false) (with_piece now p gs)
        → AllByRecursion (λ (k : Gathered). is_id id k.id ≡ false) (cond b (record g { pieces = p ∷ g.pieces } ∷ gs) (g ∷ with_piece now p gs))
    by_test true rest = all
    by_test false rest = (all.0, rest)

once_with : (now : ℕ) (p : Fragment) (gs : List Gathered) → Once gs → Once (with_piece now p gs)
once_with now p [] once = (tt, tt)
once_with now p (g ∷ gs) once = by_test (is_id g.id p.id) refl (once_with now p gs once.1)
  where
    by_test : (b : Bool) → is_id g.id p.id ≡ b → Once (with_piece now p gs) → Once (cond b (record g { pieces = p ∷ g.pieces } ∷ gs) (g ∷ with_piece now p gs))
    by_test true e rest = once
    by_test false e rest = (other_with g.id now p gs e once.0, rest)

once_filter : (q : Gathered → Bool) (gs : List Gathered) → Once gs → Once (filter q gs)
once_filter q gs once = pairs_filter (λ (a b : Gathered). is_id a.id b.id ≡ false) q gs once

once_rule : (id : DatagramId) (gs : List Gathered) (b : Bool) → Once gs → Once (cond b (of_others id gs) gs)
once_rule id gs true once = once_filter (λ (g : Gathered). not (is_id g.id id)) gs once
once_rule id gs false once = once

once : (time : ℕ) (cs : List Call) → Once (gathered time cs)
once time [] = tt
once time (expiry now ∷ cs) = once_filter (λ (g : Gathered). not (is_old time now g)) (gathered time cs) (once time cs)
once time (offer now p held ∷ cs) = once_with now p (gathered time cs) (once time cs)
once time (offer now p done ∷ cs) = once_filter (λ (g : Gathered). not (is_id g.id p.id)) (gathered time cs) (once time cs)
once time (offer now p (dropped rule) ∷ cs) = once_rule p.id (gathered time cs) (forgets rule) (once time cs)

-- if none has the identification, nothing is found
none_in : (q : Gathered → Bool) (gs : List Gathered) (id : DatagramId) → AllByRecursion (λ (g : Gathered). is_id g.id id ≡ false) gs → pieces_in (filter q gs) id ≡ []
none_in q [] id none = refl
none_in q (g ∷ gs) id none = by_test (q g) (none_in q gs id none.1)
  where
    by_test : (b : Bool) → pieces_in (filter q gs) id ≡ [] → pieces_in (cond b (g ∷ filter q gs) (filter q gs)) id ≡ []
    by_test true rest = ap (λ b. cond b g.pieces (pieces_in (filter q gs) id)) none.0 ∙ rest
    by_test false rest = rest

none_late : (p : Gathered → Bool) (gs : List Gathered) (id : DatagramId) → AllByRecursion (λ (g : Gathered). is_id g.id id ≡ false) gs → list_any (λ (g : Gathered). is_id g.id id && p g) gs ≡ false
none_late p [] id none = refl
none_late p (g ∷ gs) id none = ap₂ (λ a b. (a && p g) || b) none.0 (none_late p gs id none.1)

passes_in : (old : Gathered → Bool) (gs : List Gathered) (id : DatagramId) → Once gs
    → pieces_in (filter (λ (g : Gathered). not (old g)) gs) id ≡ cond (list_any (λ (g : Gathered). is_id g.id id && old g) gs) [] (pieces_in gs id)
passes_in old [] id once = refl
passes_in old (g ∷ gs) id once = by_test (is_id g.id id) (old g) refl (passes_in old gs id once.1)
  where
    kept : List Gathered
    kept = filter (λ (k : Gathered). not (old k)) gs

    late : Bool
    late = list_any (λ (k : Gathered). is_id k.id id && old k) gs

    apart : is_id g.id id ≡ true → AllByRecursion (λ (k : Gathered). is_id k.id id ≡ false) gs
    apart e =
        let same = id_is g.id id e in
        all_weaker (λ (k : Gathered). is_id g.id k.id ≡ false) (λ (k : Gathered). is_id k.id id ≡ false)
        (λ k ne. ap (is_id k.id) (sym same) ∙ (id_back k.id g.id ∙ ne)) gs once.0

    by_test : (b c : Bool) → is_id g.id id ≡ b → pieces_in kept id ≡ cond late [] (pieces_in gs id) → pieces_in (cond (not c) (g ∷ kept) kept) id ≡ cond ((is_id g.id id && c) || late) [] (cond (is_id g.id id) g.pieces (pieces_in gs id))
    by_test true true e rest = none_in (λ (k : Gathered). not (old k)) gs id (apart e) ∙ sym (ap (λ b. cond ((b && true) || late) [] (cond b g.pieces (pieces_in gs id))) e)
    by_test true false e rest =
        ap (λ b. cond b g.pieces (pieces_in kept id)) e
        ∙ (sym (ap (λ b. cond b [] g.pieces) (none_late old gs id (apart e))) ∙ sym (ap (λ b. cond ((b && false) || late) [] (cond b g.pieces (pieces_in gs id))) e))
    by_test false true e rest = rest ∙ sym (ap (λ b. cond ((b && true) || late) [] (cond b g.pieces (pieces_in gs id))) e)
    by_test false false e rest =
        ap (λ b. cond b g.pieces (pieces_in kept id)) e
        ∙ (rest ∙ sym (ap (λ b. cond ((b && false) || late) [] (cond b g.pieces (pieces_in gs id))) e))

-- the datagrams of one identification, among all and alone
abbrev own : DatagramId → List Gathered → List Gathered
own id gs = filter (λ g. is_id g.id id) gs

swap_step : (p q : Gathered → Bool) (g : Gathered) (xs ys zs : List Gathered) (a b : Bool) → p g ≡ a → q g ≡ b → filter p xs ≡ filter q ys
    → filter p (cond b (g ∷ xs) xs) ≡ filter q (cond a (g ∷ ys) ys)
swap_step p q g xs ys zs true true pa qb same =
    ap (λ c. cond c (g ∷ filter p xs) (filter p xs)) pa ∙ (ap (λ l. g ∷ l) same ∙ sym (ap (λ c. cond c (g ∷ filter q ys) (filter q ys)) qb))
swap_step p q g xs ys zs true false pa qb same = same ∙ sym (ap (λ c. cond c (g ∷ filter q ys) (filter q ys)) qb)
swap_step p q g xs ys zs false true pa qb same = ap (λ c. cond c (g ∷ filter p xs) (filter p xs)) pa ∙ same
swap_step p q g xs ys zs false false pa qb same = same

swap : (p q : Gathered → Bool) (gs : List Gathered) → filter p (filter q gs) ≡ filter q (filter p gs)
swap p q [] = refl
swap p q (g ∷ gs) = swap_step p q g (filter q gs) (filter p gs) [] (p g) (q g) refl refl (swap p q gs)

own_with : (id : DatagramId) (now : ℕ) (p : Fragment) (gs : List Gathered) → is_id p.id id ≡ true → own id (with_piece now p gs) ≡ with_piece now p (own id gs)
own_with id now p [] mine = ap (λ b. cond {A = List Gathered} b (record { id = p.id; since = now; pieces = p ∷ [] } ∷ []) []) mine
own_with id now p (g ∷ gs) mine = by_test (is_id g.id p.id) refl (own_with id now p gs mine)
  where
    this : is_id g.id id ≡ is_id g.id p.id
    this = ap (is_id g.id) (sym (id_is p.id id mine))

    more : Gathered
    more = record g { pieces = p ∷ g.pieces }

    by_test : (b : Bool) → is_id g.id p.id ≡ b → own id (with_piece now p gs) ≡ with_piece now p (own id gs)
        → own id (cond b (more ∷ gs) (g ∷ with_piece now p gs)) ≡ with_piece now p (cond (is_id g.id id) (g ∷ own id gs) (own id gs))
    by_test true e rest =
        let is = this ∙ e in
        ap (λ c. cond c (more ∷ own id gs) (own id gs)) is
        ∙ (sym (ap (λ c. cond c (more ∷ own id gs) (g ∷ with_piece now p (own id gs))) e) ∙ sym (ap (λ c. with_piece now p (cond c (g ∷ own id gs) (own id gs))) is))
    by_test false e rest =
        let is = this ∙ e in
        ap (λ c. cond c (g ∷ own id (with_piece now p gs)) (own id (with_piece now p gs))) is
        ∙ (rest ∙ sym (ap (λ c. with_piece now p (cond c (g ∷ own id gs) (own id gs))) is))

other_own : (id : DatagramId) (now : ℕ) (p : Fragment) (gs : List Gathered) → is_id p.id id ≡ false → own id (with_piece now p gs) ≡ own id gs
other_own id now p [] ne = ap (λ b. cond {A = List Gathered} b (record { id = p.id; since = now; pieces = p ∷ [] } ∷ []) []) ne
other_own id now p (g ∷ gs) ne = by_test (is_id g.id p.id) refl (other_own id now p gs ne)
  where
    by_test : (b : Bool) → is_id g.id p.id ≡ b → own id (with_piece now p gs) ≡ own id gs
        → own id (cond b (record g { pieces = p ∷ g.pieces } ∷ gs) (g ∷ with_piece now p gs)) ≡ cond (is_id g.id id) (g ∷ own id gs) (own id gs)
    by_test true e rest =
        let is : is_id g.id id ≡ false = ap (λ d. is_id d id) (id_is g.id p.id e) ∙ ne in
        ap (λ c. cond c (record g { pieces = p ∷ g.pieces } ∷ own id gs) (own id gs)) is ∙ sym (ap (λ c. cond c (g ∷ own id gs) (own id gs)) is)
    by_test false e rest = ap (λ l. cond (is_id g.id id) (g ∷ l) l) rest

other_left : (id gone : DatagramId) (gs : List Gathered) → is_id gone id ≡ false → own id (of_others gone gs) ≡ own id gs
other_left id gone [] ne = refl
other_left id gone (g ∷ gs) ne = by_test (is_id g.id gone) refl (other_left id gone gs ne)
  where
    by_test : (b : Bool) → is_id g.id gone ≡ b → own id (of_others gone gs) ≡ own id gs
        → own id (cond (not b) (g ∷ of_others gone gs) (of_others gone gs)) ≡ cond (is_id g.id id) (g ∷ own id gs) (own id gs)
    by_test true e rest =
        let is : is_id g.id id ≡ false = ap (λ d. is_id d id) (id_is g.id gone e) ∙ ne in
        rest ∙ sym (ap (λ c. cond c (g ∷ own id gs) (own id gs)) is)
    by_test false e rest = ap (λ l. cond (is_id g.id id) (g ∷ l) l) rest

mine_after : (id : DatagramId) (now : ℕ) (p : Fragment) (answer : Answer) (gs : List Gathered) → is_id p.id id ≡ true → own id (after now p answer gs) ≡ after now p answer (own id gs)
mine_after id now p held gs mine = own_with id now p gs mine
mine_after id now p done gs mine = swap (λ (g : Gathered). is_id g.id id) (λ (g : Gathered). not (is_id g.id p.id)) gs
mine_after id now p (dropped rule) gs mine = by_rule (forgets rule)
  where
    by_rule : (b : Bool) → own id (cond b (of_others p.id gs) gs) ≡ cond b (of_others p.id (own id gs)) (own id gs)
    by_rule true = swap (λ (g : Gathered). is_id g.id id) (λ (g : Gathered). not (is_id g.id p.id)) gs
    by_rule false = refl

other_after : (id : DatagramId) (now : ℕ) (p : Fragment) (answer : Answer) (gs : List Gathered) → is_id p.id id ≡ false → own id (after now p answer gs) ≡ own id gs
other_after id now p held gs ne = other_own id now p gs ne
other_after id now p done gs ne = other_left id p.id gs ne
other_after id now p (dropped rule) gs ne = by_rule (forgets rule)
  where
    by_rule : (b : Bool) → own id (cond b (of_others p.id gs) gs) ≡ own id gs
    by_rule true = other_left id p.id gs ne
    by_rule false = refl

own_calls : (time : ℕ) (cs : List Call) (id : DatagramId) → own id (gathered time cs) ≡ gathered time (calls_on id cs)
own_calls time [] id = refl
own_calls time (expiry now ∷ cs) id =
    swap (λ (g : Gathered). is_id g.id id) (λ (g : Gathered). not (is_old time now g)) (gathered time cs)
    ∙ ap (filter (λ (g : Gathered). not (is_old time now g))) (own_calls time cs id)
own_calls time (offer now p answer ∷ cs) id = by_test (is_id p.id id) refl (own_calls time cs id)
  where
    by_test : (b : Bool) → is_id p.id id ≡ b → own id (gathered time cs) ≡ gathered time (calls_on id cs)
        → own id (after now p answer (gathered time cs)) ≡ gathered time (cond b (offer now p answer ∷ calls_on id cs) (calls_on id cs))
    by_test true e rest = mine_after id now p answer (gathered time cs) e ∙ ap (after now p answer) rest
    by_test false e rest = other_after id now p answer (gathered time cs) e ∙ rest

own_pieces : (gs : List Gathered) (id : DatagramId) → pieces_in gs id ≡ pieces_in (own id gs) id
own_pieces [] id = refl
own_pieces (g ∷ gs) id = by_test (is_id g.id id) refl (own_pieces gs id)
  where
    by_test : (b : Bool) → is_id g.id id ≡ b → pieces_in gs id ≡ pieces_in (own id gs) id → cond b g.pieces (pieces_in gs id) ≡ pieces_in (cond b (g ∷ own id gs) (own id gs)) id
    by_test true e rest = sym (ap (λ c. cond c g.pieces (pieces_in (own id gs) id)) e)
    by_test false e rest = rest

pub apart : DatagramsAreApart
apart = record {
  once = once;
  comes = follow;
  passes = λ time now cs id. passes_in (is_old time now) (gathered time cs) id (once time cs);
  alone = λ time cs id. own_pieces (gathered time cs) id ∙ ap (λ gs. pieces_in gs id) (own_calls time cs id);
}
