-- Each endpoint of the host is that of one channel.
use Rattle.std.proofs.Common.{◌≡◌, ℕ, List, [], ◌∷◌, ◌++◌, fold, map, Bool, true, false, cond, ◌||◌, ◌&&◌, eqb, Option, Some, None, refl, sym, ap, subst, ◌∙◌}
use Rattle.std.specs.Prelude.{find, option_to_list, unwrap_or}
use Rattle.std.specs.List.{list_any}
use Rattle.std.proofs.lemmas.Bool.{eqb-true, eq-eqb}
use Rattle.std.proofs.lemmas.List.Folds.{list_any-append}
use Rattle.link_talk.specs.acl_fragments.specs.Pieces.{channel_of}
use Rattle.link_talk.specs.capture.specs.declared.flow.Flow.{Flow}
use Rattle.link_talk.specs.capture.specs.declared.flow.Flow.TheVariants.{Out, Into}
use Rattle.link_talk.specs.declared.channel.Channel.{Channel}
use Rattle.link_talk.specs.Sayings.{Saying, Command, Carried, GaveUp}
use Rattle.link_talk.specs.Senses.{sense}
use Rattle.link_talk.specs.Meanings.{Meaning, meant}
use Rattle.link_talk.specs.Setups.{is_set}
use Rattle.link_talk.specs.Channels.{Entry, fresh, entry_after, is_there, is_alive, is_owner, with_fresh, made_by, reading}
use Rattle.link_talk.specs.Carriages.{Carriage, is_heard, is_held, is_open, takes, taker, is_on, carried_by, has_own}
use Rattle.link_talk.specs.GrowingLaws.{has_opened}
use Rattle.link_talk.proofs.OnePass.{reading-more}
use Rattle.talk_laws.proofs.Passes.{from_end}

-- no two have the same endpoint of the host
abbrev pub Alone : List Entry → Type 0
Alone [] = Unit {0}
Alone (entry ∷ entries) = (list_any (has_own entry.channel) entries ≡ false) × Alone entries

-- ---- tests

pub either_false : (a b : Bool) → (a || b) ≡ false → (a ≡ false) × (b ≡ false)
either_false true b is = cc
either_false false b is = (refl, is)

both_true : (a b : Bool) → (a && b) ≡ true → a ≡ true
both_true true b is = refl
both_true false b is = is

pub eqb_other : (m n : ℕ) → eqb m n ≡ false → eqb n m ≡ false
eqb_other m n is = by_test (eqb n m) refl
  where
    by_test : (b : Bool) → eqb n m ≡ b → b ≡ false
    by_test true same = sym (eq-eqb m n (sym (eqb-true n m same))) ∙ is
    by_test false same = refl

pub some_is : {X : Type 0} (x y : X) → Some x ≡ Some y → x ≡ y
some_is x y is = ap (λ o. unwrap_or o x) is

-- ---- one meaning more

pub owns_stay : (channel : Channel) (more : Meaning) (entries : List Entry) → list_any (has_own channel) (map (entry_after more) entries) ≡ list_any (has_own channel) entries
owns_stay channel more [] = refl
owns_stay channel more (entry ∷ entries) = ap (λ b. has_own channel entry || b) (owns_stay channel more entries)

alone_after : (more : Meaning) (entries : List Entry) → Alone entries → Alone (map (entry_after more) entries)
alone_after more [] all = tt
alone_after more (entry ∷ entries) (now, all) = (owns_stay entry.channel more entries ∙ now, alone_after more entries all)

alone_with : (new : Channel) (entries : List Entry) → list_any (is_owner new) entries ≡ false → Alone entries → Alone (entries ++ fresh new ∷ [])
alone_with new [] none all = (refl, tt)
alone_with new (entry ∷ entries) none (now, all) =
    let apart = either_false (is_owner new entry) (list_any (is_owner new) entries) none in
    let other = either_false (eqb entry.channel.own new.own) (eqb entry.channel.peer new.peer && is_there entry.life) apart.0 in (
      list_any-append (has_own entry.channel) entries (fresh new ∷ [])
          ∙ (ap (λ b. b || (eqb new.own entry.channel.own || false)) now ∙ ap (λ b. b || false) (eqb_other entry.channel.own new.own other.0)),
      alone_with new entries apart.1 all,
    )

alone_if : (new : Channel) (entries : List Entry) (known : Bool) → list_any (is_owner new) entries ≡ known → Alone entries → Alone (cond known entries (entries ++ fresh new ∷ []))
alone_if new entries true is all = all
alone_if new entries false is all = alone_with new entries is all

alone_all : (news : List Channel) (entries : List Entry) → Alone entries → Alone (fold with_fresh entries news)
alone_all [] entries all = all
alone_all (new ∷ news) entries all = alone_all news (with_fresh entries new) (alone_if new entries (list_any (is_owner new) entries) refl all)

alone_more : (said : List Saying) (more : Saying) → Alone (reading said).entries → Alone (reading (said ++ more ∷ [])).entries
alone_more said more all =
    let meaning = meant (reading said).requests (sense more) in
    subst (λ r. Alone r.entries) (sym (reading-more said more))
    (alone_all (option_to_list (made_by meaning)) (map (entry_after meaning) (reading said).entries) (alone_after meaning (reading said).entries all))

pub alone : (said : List Saying) → Alone (reading said).entries
alone said = from_end (λ past. Alone (reading past).entries) tt alone_more said

-- ---- endpoints stay

none_front : (channel new : Channel) (entries : List Entry) (known : Bool) → list_any (has_own channel) (cond known entries (entries ++ fresh new ∷ [])) ≡ false → list_any (has_own channel) entries ≡ false
none_front channel new entries true none = none
none_front channel new entries false none = (either_false (list_any (has_own channel) entries) (list_any (has_own channel) (fresh new ∷ [])) (sym (list_any-append (has_own channel) entries (fresh new ∷ [])) ∙ none)).0

none_fresh : (channel : Channel) (news : List Channel) (entries : List Entry) → list_any (has_own channel) (fold with_fresh entries news) ≡ false → list_any (has_own channel) entries ≡ false
none_fresh channel [] entries none = none
none_fresh channel (new ∷ news) entries none = none_front channel new entries (list_any (is_owner new) entries) (none_fresh channel news (with_fresh entries new) none)

pub none-before : (channel : Channel) (said : List Saying) (more : Saying) → list_any (has_own channel) (reading (said ++ more ∷ [])).entries ≡ false → list_any (has_own channel) (reading said).entries ≡ false
none-before channel said more none =
    let meaning = meant (reading said).requests (sense more) in
    sym (owns_stay channel meaning (reading said).entries)
    ∙ none_fresh channel (option_to_list (made_by meaning)) (map (entry_after meaning) (reading said).entries) (sym (ap (λ r. list_any (has_own channel) r.entries) (reading-more said more)) ∙ none)

-- ---- what is found

found_by : (test : Entry → Bool) (entry found : Entry) (rest : Option Entry) (fits : Bool) → test entry ≡ fits → cond fits (Some entry) rest ≡ Some found → (rest ≡ Some found → test found ≡ true) → test found ≡ true
found_by test entry found rest true is same later = ap test (sym (some_is entry found same)) ∙ is
found_by test entry found rest false is same later = later same

pub found_passes : (test : Entry → Bool) (entries : List Entry) (found : Entry) → find test entries ≡ Some found → test found ≡ true
found_passes test [] found is = cc
found_passes test (entry ∷ entries) found is = found_by test entry found (find test entries) (test entry) refl is (found_passes test entries found)

other_by : (channel : Channel) (entry found : Entry) (rest : Option Entry) (fits : Bool) → has_own channel entry ≡ false → cond fits (Some entry) rest ≡ Some found → (rest ≡ Some found → has_own channel found ≡ false) → has_own channel found ≡ false
other_by channel entry found rest true none same later = ap (has_own channel) (sym (some_is entry found same)) ∙ none
other_by channel entry found rest false none same later = later same

pub found_other : (channel : Channel) (test : Entry → Bool) (entries : List Entry) (found : Entry) → list_any (has_own channel) entries ≡ false → find test entries ≡ Some found → has_own channel found ≡ false
found_other channel test [] found none is = cc
found_other channel test (entry ∷ entries) found none is =
    let apart = either_false (has_own channel entry) (list_any (has_own channel) entries) none in
    other_by channel entry found (find test entries) (test entry) apart.0 is (found_other channel test entries found apart.1)

-- an entry with the endpoint is the first with it
own_clash : (channel : Channel) (entry found : Entry) → has_own channel entry ≡ true → has_own channel found ≡ true → has_own entry.channel found ≡ true
own_clash channel entry found first second = eq-eqb found.channel.own entry.channel.own (eqb-true found.channel.own channel.own second ∙ sym (eqb-true entry.channel.own channel.own first))

true_false : {A : Type 0} (b : Bool) → b ≡ true → b ≡ false → A
true_false true is other = cc
true_false false is other = cc

one_by : (channel : Channel) (entry found : Entry) (rest own_rest : Option Entry) (fits owns : Bool) → has_own channel entry ≡ owns → cond fits (Some entry) rest ≡ Some found → has_own channel found ≡ true
    → (rest ≡ Some found → own_rest ≡ Some found) → (rest ≡ Some found → has_own entry.channel found ≡ false) → cond owns (Some entry) own_rest ≡ Some found
one_by channel entry found rest own_rest true true is same owned later other = same
one_by channel entry found rest own_rest true false is same owned later other = true_false (has_own channel entry) (ap (has_own channel) (some_is entry found same) ∙ owned) is
one_by channel entry found rest own_rest false true is same owned later other = true_false (has_own entry.channel found) (own_clash channel entry found is owned) (other same)
one_by channel entry found rest own_rest false false is same owned later other = later same

pub found_one : (channel : Channel) (test : Entry → Bool) (entries : List Entry) (found : Entry) → Alone entries → find test entries ≡ Some found → has_own channel found ≡ true → find (has_own channel) entries ≡ Some found
found_one channel test [] found all is owned = cc
found_one channel test (entry ∷ entries) found (now, all) is owned =
    one_by channel entry found (find test entries) (find (has_own channel) entries) (test entry) (has_own channel entry) refl is owned
    (λ rest. found_one channel test entries found all rest owned) (found_other entry.channel test entries found now)

-- ---- what a channel carries

pub not-found : (channel : Channel) (entries : List Entry) → list_any (has_own channel) entries ≡ false → find (has_own channel) entries ≡ None
not-found channel [] none = refl
not-found channel (entry ∷ entries) none =
    let apart = either_false (has_own channel entry) (list_any (has_own channel) entries) none in
    ap (λ b. cond b (Some entry) (find (has_own channel) entries)) apart.0 ∙ not-found channel entries apart.1

-- a channel that has not come to be carries nothing
nothing_on : (channel : Channel) (counts : Flow → Entry → Bool) (flow : Flow) (pdu : List ℕ) (entries : List Entry) (found : Option Entry) → list_any (has_own channel) entries ≡ false → taker counts flow pdu entries ≡ found → is_on channel found ≡ false
nothing_on channel counts flow pdu entries None none is = refl
nothing_on channel counts flow pdu entries (Some entry) none is = found_other channel (takes counts flow (channel_of pdu)) entries entry none is

pub nothing-carried : (channel : Channel) (counts : Flow → Entry → Bool) (entries : List Entry) (saying : Saying) → list_any (has_own channel) entries ≡ false → carried_by counts channel entries saying ≡ []
nothing-carried channel counts entries (Command flow answer) none = refl
nothing-carried channel counts entries (Carried flow pdu) none =
    ap (λ b. let cs : List Carriage = cond b (record { flow = flow; pdu = pdu } ∷ []) [] in cs) (nothing_on channel counts flow pdu entries (taker counts flow pdu entries) none refl)
nothing-carried channel counts entries (GaveUp forgone) none = refl

-- nor one that has not opened
heard_set : (flow : Flow) (identifier : ℕ) (entry : Entry) → takes is_heard flow identifier entry ≡ true → is_set entry.setup ≡ true
heard_set Out identifier entry is = both_true (is_set entry.setup) (is_there entry.life) (both_true (is_held entry) (eqb entry.channel.peer identifier) is)
heard_set Into identifier entry is = both_true (is_set entry.setup) (is_alive entry.life) (both_true (is_open entry) (eqb entry.channel.own identifier) is)

unopened_by : (channel : Channel) (flow : Flow) (pdu : List ℕ) (entries : List Entry) (found : Option Entry) (on : Bool) → Alone entries → has_opened (find (has_own channel) entries) ≡ false → taker is_heard flow pdu entries ≡ found → is_on channel found ≡ on → on ≡ false
unopened_by channel flow pdu entries None on all opened is on_is = sym on_is
unopened_by channel flow pdu entries (Some entry) false all opened is on_is = refl
unopened_by channel flow pdu entries (Some entry) true all opened is on_is =
    true_false (has_opened (find (has_own channel) entries))
    (ap has_opened (found_one channel (takes is_heard flow (channel_of pdu)) entries entry all is on_is) ∙ heard_set flow (channel_of pdu) entry (found_passes (takes is_heard flow (channel_of pdu)) entries entry is))
    opened

pub unopened-carries : (channel : Channel) (entries : List Entry) (saying : Saying) → Alone entries → has_opened (find (has_own channel) entries) ≡ false → carried_by is_heard channel entries saying ≡ []
unopened-carries channel entries (Command flow answer) all opened = refl
unopened-carries channel entries (Carried flow pdu) all opened =
    let found = taker is_heard flow pdu entries in
    ap (λ b. let cs : List Carriage = cond b (record { flow = flow; pdu = pdu } ∷ []) [] in cs) (unopened_by channel flow pdu entries found (is_on channel found) all opened refl refl)
unopened-carries channel entries (GaveUp forgone) all opened = refl
