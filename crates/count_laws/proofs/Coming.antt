-- What comes in at the hosts of a link, one word after the other.
use Rattle.std.proofs.Common.{◌≡◌, ℕ, ◌+◌, ◌≤◌, Bool, true, false, List, [], ◌∷◌, ◌++◌, Option, Some, None, refl, sym, ap, ◌∙◌, if◌then◌else◌, arith}
use Rattle.std.specs.List.{AllByRecursion, flat_map}
use Rattle.std.proofs.lemmas.List.Concat.{flat_map-append}
use Rattle.pair_laws.specs.acl_fragments.specs.Pieces.{channel_of}
use Rattle.channel_laws.specs.channel_model.specs.Calls.{has_fcs}
use Rattle.channel_laws.specs.channel_model.specs.Giving.{Given, next_given}
use Rattle.channel_laws.specs.Pairs.{End, Pair, Happening, Acts, Puts, Takes, Repeats, Loses, Damages, is_alone, Near, Far, Turn, new_pair, pair_after}
use Rattle.channel_laws.specs.Runs.{Occurrence, Comes, Connects, AsksFeatures, Disconnects, Sends, Gives, Fires, Tells}
use Rattle.channel_laws.specs.Tries.{one_if}
use Rattle.passing_laws.specs.Words.{is_unprompted, OfOne, OfBoth, Onset, ByTurn, ByTimers, timer_of, onset_turns, Word, word_turns, turns_of, all_after, HaveBegun, wrong_in, wrongs, all_wrongs, is_handed}
use Rattle.pair_laws.specs.host_model.specs.Clients.{client_profile}
use Rattle.pair_laws.specs.host_model.specs.Servers.{server_profile}
use Rattle.pair_laws.specs.Orders.{first_come, given_as, damaged_come, occurs_by, Joint, AtNear, AtFar, near_in, far_in, joints_with, joints_at, joints_by, joints_from}
use Rattle.count_laws.specs.Coming.{takes_by, takes_in, comes_by, comes_in, LinksHearByWords}

-- ---- a turn

acts_none : (one : Occurrence) → is_alone one ≡ true → comes_by one ≡ 0
acts_none (Comes pdu) alone = cc
acts_none (Connects psm) alone = refl
acts_none AsksFeatures alone = refl
acts_none (Disconnects own) alone = refl
acts_none (Sends own sdu) alone = refl
acts_none (Gives pdu) alone = refl
acts_none Fires alone = refl
acts_none Tells alone = refl

alone_none : (one : Occurrence) → comes_in (if is_alone one then one ∷ [] else []) ≡ 0
alone_none one = by (is_alone one) refl
  where
    by : (alone : Bool) → is_alone one ≡ alone → comes_in (if alone then one ∷ [] else []) ≡ 0
    by true is = let none = acts_none one is in omega (arith, none)
    by false is = refl

given_none : (given : Option Given) (pdu : List ℕ) → comes_in (given_as given pdu) ≡ 0
given_none None pdu = refl
given_none (Some given) pdu = refl

first_one : (coming : List (List ℕ)) → comes_in (first_come coming) ≤ 1
first_one [] = omega arith
first_one (pdu ∷ coming) = omega arith

damaged_one : (other : List ℕ) (coming : List (List ℕ)) (end' : End) → comes_in (damaged_come other coming end') ≤ 1
damaged_one other [] end' = omega arith
damaged_one other (pdu ∷ coming) end' = by (has_fcs (channel_of pdu) end'.run.value)
  where
    by : (checked : Bool) → comes_in (if checked then Comes other ∷ [] else []) ≤ 1
    by true = omega arith
    by false = omega arith

-- at the host whose turn it is, no more than is handed over or goes wrong
happens_few : (happening : Happening) (end' : End) → comes_in (occurs_by happening end') ≤ one_if (is_handed happening) + wrong_in happening
happens_few (Acts occurrence) end' = let none = alone_none occurrence in omega (arith, none)
happens_few (Puts pdu) end' = let none = given_none (next_given end'.run.value) pdu in omega (arith, none)
happens_few Takes end' = let few = first_one end'.coming in omega (arith, few)
happens_few Repeats end' = let few = first_one end'.coming in omega (arith, few)
happens_few Loses end' = omega arith
happens_few (Damages other) end' = let few = damaged_one other end'.coming end' in omega (arith, few)

-- what it does of its own accord
own_none : (happening : Happening) (end' : End) → is_unprompted happening ≡ true → comes_in (occurs_by happening end') ≡ 0
own_none (Acts occurrence) end' own = alone_none occurrence
own_none (Puts pdu) end' own = given_none (next_given end'.run.value) pdu
own_none Takes end' own = cc
own_none Repeats end' own = cc
own_none Loses end' own = cc
own_none (Damages other) end' own = cc

-- ---- at either host

abbrev of_joints : List Joint → ℕ
of_joints joints = comes_in (flat_map near_in joints) + comes_in (flat_map far_in joints)

abbrev at_turn : Turn → Pair → ℕ
at_turn turn pair = of_joints (joints_by turn pair)

comes_both : (xs ys : List Occurrence) → comes_in (xs ++ ys) ≡ comes_in xs + comes_in ys
comes_both [] ys = omega arith
comes_both (x ∷ xs) ys = let rest = comes_both xs ys in omega (arith, rest)

joints_both : (xs ys : List Joint) → of_joints (xs ++ ys) ≡ of_joints xs + of_joints ys
joints_both xs ys =
    let near = ap comes_in (flat_map-append near_in xs ys) ∙ comes_both (flat_map near_in xs) (flat_map near_in ys) in
    let far = ap comes_in (flat_map-append far_in xs ys) ∙ comes_both (flat_map far_in xs) (flat_map far_in ys) in
    omega (arith, near, far)

near_same : (list : List Occurrence) → of_joints (joints_with AtNear list) ≡ comes_in list
near_same [] = refl
near_same (one ∷ list) = let rest = near_same list in omega (arith, rest)

far_same : (list : List Occurrence) → of_joints (joints_with AtFar list) ≡ comes_in list
far_same [] = refl
far_same (one ∷ list) = let rest = far_same list in omega (arith, rest)

turn_few : (turn : Turn) (pair : Pair) → at_turn turn pair ≤ one_if (is_handed turn.happening) + wrong_in turn.happening
turn_few turn pair = by turn.side
  where
    by : (side : _) → of_joints (joints_at side turn.happening pair) ≤ one_if (is_handed turn.happening) + wrong_in turn.happening
    by Near = let same = near_same (occurs_by turn.happening pair.near) in let few = happens_few turn.happening pair.near in omega (arith, same, few)
    by Far = let same = far_same (occurs_by turn.happening pair.far) in let few = happens_few turn.happening pair.far in omega (arith, same, few)

turn_none : (turn : Turn) (pair : Pair) → is_unprompted turn.happening ≡ true → at_turn turn pair ≡ 0
turn_none turn pair own = by turn.side
  where
    by : (side : _) → of_joints (joints_at side turn.happening pair) ≡ 0
    by Near = near_same (occurs_by turn.happening pair.near) ∙ own_none turn.happening pair.near own
    by Far = far_same (occurs_by turn.happening pair.far) ∙ own_none turn.happening pair.far own

timer_none : (side : _) (pair : Pair) → at_turn (timer_of side) pair ≡ 0
timer_none Near pair = refl
timer_none Far pair = refl

-- ---- words

abbrev from : Pair → List Turn → ℕ
from pair turns = of_joints (joints_from pair turns)

from_both : (pair : Pair) (xs ys : List Turn) → from pair (xs ++ ys) ≡ from pair xs + from (all_after pair xs) ys
from_both pair [] ys = omega arith
from_both pair (x ∷ xs) ys =
    let next = pair_after pair x in
    let rest = from_both next xs ys in
    let one = joints_both (joints_by x pair) (joints_from next (xs ++ ys)) in
    let two = joints_both (joints_by x pair) (joints_from next xs) in
    omega (arith, rest, one, two)

behind_none : (turns : List Turn) (pair : Pair) → AllByRecursion (λ (turn : Turn). is_unprompted turn.happening ≡ true) turns → from pair turns ≡ 0
behind_none [] pair all = refl
behind_none (turn ∷ turns) pair all =
    let here = turn_none turn pair all.0 in
    let rest = behind_none turns (pair_after pair turn) all.1 in
    let both = joints_both (joints_by turn pair) (joints_from (pair_after pair turn) turns) in
    omega (arith, here, rest, both)

one_from : (turn : Turn) (pair : Pair) → from pair (turn ∷ []) ≡ at_turn turn pair
one_from turn pair = let both = joints_both (joints_by turn pair) [] in omega (arith, both)

onset_few : (onset : Onset) (pair : Pair) → from pair (onset_turns onset) ≤ takes_by onset + wrongs onset
onset_few (ByTurn turn) pair = let same = one_from turn pair in let few = turn_few turn pair in omega (arith, same, few)
onset_few (ByTimers (OfOne side)) pair = let same = one_from (timer_of side) pair in let none = timer_none side pair in omega (arith, same, none)
onset_few (ByTimers OfBoth) pair =
    let both = from_both pair (timer_of Near ∷ []) (timer_of Far ∷ []) in
    let next = pair_after pair (timer_of Near) in
    let one = one_from (timer_of Near) pair in
    let two = one_from (timer_of Far) next in
    let none = timer_none Near pair in
    let none' = timer_none Far next in
    omega (arith, both, one, two, none, none')

words_few : (words : List Word) (pair : Pair) → HaveBegun pair words → from pair (turns_of words) ≤ takes_in words + all_wrongs words
words_few [] pair begun = omega arith
words_few (word ∷ words) pair (silent, may, mild, rest) =
    let whole = from_both pair (word_turns word) (turns_of words) in
    let one = from_both pair (onset_turns word.onset) word.behind in
    let begin = onset_few word.onset pair in
    let none = behind_none word.behind (all_after pair (onset_turns word.onset)) mild in
    let later = words_few words (all_after pair (word_turns word)) rest in
    omega (arith, whole, one, begin, none, later)

pub links-hear_by_words : LinksHearByWords
links-hear_by_words asks scenario content capture ran taken number =
    let link = taken.cost.turns.pairs.pairs number in
    let w = taken.worded number in
    let pair : Pair = new_pair (client_profile scenario.settings).policy (server_profile scenario.settings content).policy in
    let few = words_few w.words pair w.begun in
    let near = ap comes_in (sym link.near_list) in
    let far = ap comes_in (sym link.far_list) in
    let same = ap (from pair) w.turns_are in
    omega (arith, few, near, far, same)
