-- A request is given again only behind an adverse turn.
use Rattle.std.proofs.Common.{◌≡◌, ℕ, ◌+◌, ◌≤◌, List, [], ◌∷◌, ◌++◌, length, drop, Bool, true, false, cond, eqb, ltb, not, ◌&&◌, ◌||◌, Option, Some, None, Ok, refl, sym, ap, subst, ◌∙◌, ◌⊎◌, inl, inr, arith, append_assoc, append-nil}
use Rattle.std.specs.Prelude.{find, option_map}
use Rattle.std.specs.List.{list_any}
use Rattle.std.proofs.lemmas.Bool.{eqb-true, ltb-false}
use Rattle.std.proofs.lemmas.List.Sums.{fold-append}
use Rattle.own_channel_laws.specs.talk_laws.specs.bt_base.proofs.OctetLemmas.{le16-number}
use Rattle.own_channel_laws.specs.talk_laws.specs.acl_fragments.specs.Pieces.{channel_of}
use Rattle.own_channel_laws.specs.talk_laws.specs.capture.specs.Histories.{EachAfter}
use Rattle.own_channel_laws.specs.talk_laws.specs.l2cap_signal.specs.Commands.{Command, spelling}
use Rattle.own_channel_laws.specs.talk_laws.specs.l2cap_signal.specs.Reading.{Answer as Read, answers}
use Rattle.own_channel_laws.specs.channel_model.specs.declared.errand.Errand.{Errand}
use Rattle.own_channel_laws.specs.channel_model.specs.declared.errand.Errand.TheVariants as errands
use Rattle.own_channel_laws.specs.channel_model.specs.Value.{Request, Queued, Answer, Ask, Own, Unasked, Asking, Granted, Stage, Requested, Connected, Leaving, Closing, Crossed, Held, Channels}
use Rattle.own_channel_laws.specs.channel_model.specs.Policies.{Policy}
use Rattle.own_channel_laws.specs.channel_model.specs.Calls.{has_fcs}
use Rattle.own_channel_laws.specs.channel_model.specs.Changing.{has_own, held_at, same_errand, is_answer}
use Rattle.own_channel_laws.specs.channel_model.specs.Giving.{Given, Signal, IsPdu, command_of, connection_at, configuration_by, configuration_at, disconnection_at, on_held, features_command, gives, counted, queue_gives, queue_given, next_given}
use Rattle.own_channel_laws.specs.channel_model.proofs.Lookups.{own_of, Distinct, eqb-same, found-has}
use Rattle.channel_laws.specs.Adverse.{asks_with, asks_for, responds_to, how_many, is_read_so, brings, answers_so, under_way, is_quiet, falls, is_vain, adverse_by, seen_from, adverse_from, AdverseTurnsAreCounted, AdverseTurnsAreCountedSince, disturbs, disturbances, IsHeeded, DisturbancesAreCounted, DisturbancesAreCountedSince}
use Rattle.channel_laws.specs.Belonging.{IsReadAs, IsRead}
use Rattle.channel_laws.specs.Ends.{DoesSo, end_at}
use Rattle.own_channel_laws.specs.Frames.{IsSpelled, IsUttered}
use Rattle.channel_laws.specs.Pairs.{End, Pair, new_pair, Happening, Acts, Puts, Takes, Repeats, Loses, Damages, is_alone, occurs, with_near, put, puts, let_go, takes_first, repeats_first, loses_first, damages_first, happens_near, Side, Near, Far, turned, Turn, happens_at, pair_after, pair_of}
use Rattle.own_channel_laws.specs.Runs.{Occurrence, Comes, Connects, AsksFeatures, Disconnects, Sends, Gives, Fires, Tells, new_link, run_on, run_of, Run}
use Rattle.own_channel_laws.specs.Tries.{for_channel, own_request, for_options, for_end, request_at, request_of, one_if, copies, is_firing}
use Rattle.own_channel_laws.proofs.Both.{and-left, and-right}
use Rattle.channel_laws.proofs.Counting.{many-last, one-least, none-many, no-answers, answers-stay}
use Rattle.channel_laws.proofs.Pairing.{each-end_runs, end-policy}
use Rattle.own_channel_laws.proofs.Running.{IsSound, all-sound}
use Rattle.own_channel_laws.proofs.Saying.{given-counted}
use Rattle.own_channel_laws.proofs.Trying.{By, Tame, same-tame}
use Rattle.own_channel_laws.proofs.Dispatching.{Gave, Passes, gives-pass}
use Rattle.own_channel_laws.proofs.Spending.{Kept, pass-less, kept-less, kept-tame, same-is, is_giving, one-tame, timed-so}

-- ---- a copy of a request is read as one

pub some_is : {X : Type 0} (x y : X) → Some x ≡ Some y → x ≡ y
some_is x y is = cc

-- with its identifier, and what it asks for
pub copy_of : (e : Errand) (r request : Request) (c command : Command) → request ≡ r → command ≡ c → command.identifier ≡ request.identifier → asks_with e command.content ≡ true → asks_for e r.identifier c ≡ true
copy_of e r request c command is_r is_c same asks =
    subst (λ (x : Request). asks_for e x.identifier c ≡ true) is_r
    (subst (λ (x : Command). asks_for e request.identifier x ≡ true) is_c
    (ap (λ n. eqb n request.identifier && asks_with e command.content) same ∙ (ap (λ b. b && asks_with e command.content) (eqb-same request.identifier) ∙ asks)))

pub channel_asks : (own : ℕ) (held : Held) (stage : Stage) (r : Request) (c : Command) → held.own ≡ own → for_channel stage ≡ Some r → connection_at stage held ≡ Some c → asks_for (errands.Connection own) r.identifier c ≡ true
channel_asks own held (Requested request) r c same is command = copy_of (errands.Connection own) r request c _ (some_is request r is) (some_is _ c command) refl (ap (λ n. eqb n own) same ∙ eqb-same own)
channel_asks own held (Connected peer setup) r c same is command = cc
channel_asks own held (Leaving peer setup request) r c same is command = cc
channel_asks own held (Closing peer request checked) r c same is command = cc
channel_asks own held (Crossed peer request) r c same is command = cc

pub own_asks : (own peer : ℕ) (asked : Own) (r : Request) (c : Command) → own_request asked ≡ Some r → configuration_by asked peer ≡ Some c → asks_for (errands.Configuration own) r.identifier c ≡ true
own_asks own peer Unasked r c is command = cc
own_asks own peer (Asking request options) r c is command = copy_of (errands.Configuration own) r request c _ (some_is request r is) (some_is _ c command) refl refl
own_asks own peer Granted r c is command = cc

pub options_ask : (own : ℕ) (stage : Stage) (r : Request) (c : Command) → for_options stage ≡ Some r → configuration_at stage ≡ Some c → asks_for (errands.Configuration own) r.identifier c ≡ true
options_ask own (Requested request) r c is command = cc
options_ask own (Connected peer setup) r c is command = own_asks own peer setup.own r c is command
options_ask own (Leaving peer setup request) r c is command = own_asks own peer setup.own r c is command
options_ask own (Closing peer request checked) r c is command = cc
options_ask own (Crossed peer request) r c is command = cc

pub end_asks : (own : ℕ) (held : Held) (stage : Stage) (r : Request) (c : Command) → held.own ≡ own → for_end stage ≡ Some r → disconnection_at stage held ≡ Some c → asks_for (errands.Disconnection own) r.identifier c ≡ true
end_asks own held (Requested request) r c same is command = cc
end_asks own held (Connected peer setup) r c same is command = cc
end_asks own held (Leaving peer setup request) r c same is command = copy_of (errands.Disconnection own) r request c _ (some_is request r is) (some_is _ c command) refl (ap (λ n. eqb n own) same ∙ eqb-same own)
end_asks own held (Closing peer request checked) r c same is command = copy_of (errands.Disconnection own) r request c _ (some_is request r is) (some_is _ c command) refl (ap (λ n. eqb n own) same ∙ eqb-same own)
end_asks own held (Crossed peer request) r c same is command = copy_of (errands.Disconnection own) r request c _ (some_is request r is) (some_is _ c command) refl (ap (λ n. eqb n own) same ∙ eqb-same own)

pub features_ask : (features : Option Request) (r : Request) (c : Command) → features ≡ Some r → features_command features ≡ Some c → asks_for errands.Features r.identifier c ≡ true
features_ask None r c is command = cc
features_ask (Some request) r c is command = copy_of errands.Features r request c _ (some_is request r is) (some_is _ c command) refl refl

pub asks_so : (e : Errand) (v : Channels) (r : Request) (c : Command) → request_of e v ≡ Some r → command_of e v ≡ Some c → asks_for e r.identifier c ≡ true
asks_so (errands.Connection own) v r c is command = by (held_at own v) refl is command
  where
    by : (held : Option Held) → find (has_own own) v.held ≡ held → request_at for_channel held ≡ Some r → on_held (λ held. connection_at held.stage held) held ≡ Some c → asks_for (errands.Connection own) r.identifier c ≡ true
    by None at is command = cc
    by (Some held) at is command = channel_asks own held held.stage r c (found-has own_of own v.held held at) is command
asks_so (errands.Configuration own) v r c is command = by (held_at own v) is command
  where
    by : (held : Option Held) → request_at for_options held ≡ Some r → on_held (λ held. configuration_at held.stage) held ≡ Some c → asks_for (errands.Configuration own) r.identifier c ≡ true
    by None is command = cc
    by (Some held) is command = options_ask own held.stage r c is command
asks_so (errands.Disconnection own) v r c is command = by (held_at own v) refl is command
  where
    by : (held : Option Held) → find (has_own own) v.held ≡ held → request_at for_end held ≡ Some r → on_held (λ held. disconnection_at held.stage held) held ≡ Some c → asks_for (errands.Disconnection own) r.identifier c ≡ true
    by None at is command = cc
    by (Some held) at is command = end_asks own held held.stage r c (found-has own_of own v.held held at) is command
asks_so errands.Features v r c is command = features_ask v.features r c is command

-- a command that is given is read of its octets
pub brings_given : (is : Command → Bool) (c : Command) (pdu : List ℕ) → IsPdu (Signal c) pdu → IsReadAs (Some (Signal c)) pdu → is c ≡ true → brings is pdu ≡ true
brings_given is c pdu octets read so =
    let to : channel_of pdu ≡ 1 = ap channel_of octets ∙ le16-number 1 (spelling c) (omega arith) in
    let it : Read = Ok c in
    let only : List Read = it ∷ [] in
    let found : list_any (is_read_so is) (answers (drop 4 pdu)) ≡ true = ap (list_any (is_read_so is)) read ∙ ap (λ b. b || list_any (is_read_so is) []) so in
    ap (λ n. eqb n 1 && list_any (is_read_so is) (answers (drop 4 pdu))) to ∙ found

-- ---- a host at an end of the link

-- what is known of it: its next endpoint is new, each endpoint is that of one channel, and an answer that waits is kept until it is given
pub record Known (end' : End) : Type 0 where
  pub none : find (has_own end'.run.value.next) end'.run.value.held ≡ None
  pub lone : Distinct own_of end'.run.value.held
  pub stay : (is : Command → Bool) (more : Occurrence) → is_giving more ≡ false → how_many (answers_so is) end'.run.value.queue ≤ how_many (answers_so is) (occurs more end').run.value.queue

pub known_by : (policy : Policy) (list : List Occurrence) (end' : End) → end'.policy ≡ policy → end'.run ≡ run_of policy list → Known end'
known_by policy list end' policy_is run_is =
    let sound : IsSound policy (run_of policy list) = all-sound policy list in
    record {
      none = subst (λ (run : Run). find (has_own run.value.next) run.value.held ≡ None) (sym run_is) (sound.core.held_below (run_of policy list).value.next (omega arith));
      lone = subst (λ (run : Run). Distinct own_of run.value.held) (sym run_is) sound.core.lone;
      stay = λ is more gives.
          subst (λ (p : Policy). how_many (answers_so is) end'.run.value.queue ≤ how_many (answers_so is) (run_on p end'.run more).value.queue) (sym policy_is)
          (subst (λ (run : Run). how_many (answers_so is) run.value.queue ≤ how_many (answers_so is) (run_on policy run more).value.queue) (sym run_is)
          (subst (λ (run : Run). how_many (answers_so is) (run_of policy list).value.queue ≤ how_many (answers_so is) run.value.queue) (fold-append (run_on policy) new_link list (more ∷ [])) (answers-stay is policy list more gives)));
    }

-- ---- what is kept

-- A request of the near end was given no more often than turns were adverse and something is under way for it, and with the copies of it that
-- wait at most once more often than turns were adverse.
pub record Pays (e : Errand) (adverse : ℕ) (pair : Pair) : Type 0 where
  pub most : Kept e (1 + adverse) pair.near.run.value
  pub way : (r : Request) → request_of e pair.near.run.value ≡ Some r → r.given ≤ adverse + under_way e r.identifier pair

-- where requests are new or as they were
pub owes_on : (e : Errand) (cost adverse : ℕ) (before after : Pair) → Tame before.near.run.value after.near.run.value
    → ((r : Request) → request_of e before.near.run.value ≡ Some r → request_of e after.near.run.value ≡ Some r → under_way e r.identifier before ≤ cost + under_way e r.identifier after)
    → Pays e adverse before → Pays e (cost + adverse) after
owes_on e cost adverse before after tame way pays = record {
  most = kept-tame e (1 + (cost + adverse)) before.near.run.value after.near.run.value (omega arith) tame (λ r is. let so_far = pays.most r is in omega (arith, so_far));
  way = λ r is. by r is (tame e r is);
}
  where
    by : (r : Request) → request_of e after.near.run.value ≡ Some r → By (copies e after.near.run.value.queue) (copies e before.near.run.value.queue) (request_of e before.near.run.value) r → r.given ≤ (cost + adverse) + under_way e r.identifier after
    by r is (inl (none, few)) = omega (arith, none)
    by r is (inr (was, less)) = let least = way r was is in let so_far = pays.way r was in omega (arith, least, so_far)

-- less is under way with what comes in in vain alone
pub vain_costs : (e : Errand) (before after : Pair) (r : Request) → request_of e before.near.run.value ≡ Some r → request_of e after.near.run.value ≡ Some r
    → under_way e r.identifier before ≤ 1 + under_way e r.identifier after → under_way e r.identifier before ≤ one_if (is_vain e before after) + under_way e r.identifier after
vain_costs e before after r was is less = subst (λ b. under_way e r.identifier before ≤ one_if b + under_way e r.identifier after) (sym vain_is) (by (ltb (under_way e r.identifier after) (under_way e r.identifier before)) refl)
  where
    vain_is : is_vain e before after ≡ ltb (under_way e r.identifier after) (under_way e r.identifier before)
    vain_is =
        ap (λ x. falls e before after x (request_of e after.near.run.value)) was ∙ (ap (λ x. falls e before after (Some r) x) is
        ∙ ap (λ b. b && ltb (under_way e r.identifier after) (under_way e r.identifier before)) (eqb-same r.identifier))

    by : (b : Bool) → ltb (under_way e r.identifier after) (under_way e r.identifier before) ≡ b → under_way e r.identifier before ≤ one_if b + under_way e r.identifier after
    by true falls = omega (arith, less)
    by false falls = let least = ltb-false (under_way e r.identifier after) (under_way e r.identifier before) falls in omega (arith, least)

-- ---- at the end whose request it is

pub tame_at : (end' : End) (more : Occurrence) → Known end' → is_firing more ≡ false → is_giving more ≡ false → Tame end'.run.value (occurs more end').run.value
tame_at end' more known fires gives = one-tame end'.policy more end'.run.value fires gives known.none

-- something comes in, or is let go
pub lets_owe : (e : Errand) (adverse cost : ℕ) (pair : Pair) (coming : List (List ℕ)) (end' : End) → Tame pair.near.run.value end'.run.value → end'.coming ≡ coming
    → ((identifier : ℕ) → under_way e identifier pair ≤ cost + under_way e identifier (with_near end' pair)) → Pays e adverse pair → Pays e (cost + adverse) (with_near end' pair)
lets_owe e adverse cost pair coming end' tame is way pays = owes_on e cost adverse pair (with_near end' pair) tame (λ r was now. way r.identifier) pays

pub first_owes : (e : Errand) (identifier : ℕ) (pair : Pair) (end' : End) (pdu : List ℕ) (coming : List (List ℕ)) → pair.near.coming ≡ pdu ∷ coming → end'.coming ≡ coming → under_way e identifier pair ≤ 1 + under_way e identifier (with_near end' pair)
first_owes e identifier pair end' pdu coming is after =
    let before : how_many (brings (responds_to e identifier)) pair.near.coming ≡ one_if (brings (responds_to e identifier) pdu) + how_many (brings (responds_to e identifier)) coming = ap (how_many (brings (responds_to e identifier))) is in
    let later : how_many (brings (responds_to e identifier)) end'.coming ≡ how_many (brings (responds_to e identifier)) coming = ap (how_many (brings (responds_to e identifier))) after in
    let least = one-least (brings (responds_to e identifier) pdu) in
    omega (arith, before, later, least)

pub takes_owe : (e : Errand) (adverse : ℕ) (pair : Pair) (coming : List (List ℕ)) → pair.near.coming ≡ coming → Known pair.near → Pays e adverse pair
    → Pays e (one_if (is_vain e pair (with_near (takes_first coming pair.near) pair)) + adverse) (with_near (takes_first coming pair.near) pair)
takes_owe e adverse pair [] is known pays = owes_on e (one_if (is_vain e pair (with_near pair.near pair))) adverse pair (with_near pair.near pair) (same-tame pair.near.run.value) (λ r was now. omega arith) pays
takes_owe e adverse pair (pdu ∷ coming) is known pays =
    let after : Pair = with_near (occurs (Comes pdu) (let_go coming pair.near)) pair in
    owes_on e (one_if (is_vain e pair after)) adverse pair after (tame_at pair.near (Comes pdu) known refl refl) (λ r was now. vain_costs e pair after r was now (first_owes e r.identifier pair after.near pdu coming is refl)) pays

pub repeats_owe : (e : Errand) (adverse : ℕ) (pair : Pair) (coming : List (List ℕ)) → Known pair.near → Pays e adverse pair → Pays e (1 + adverse) (with_near (repeats_first coming pair.near) pair)
repeats_owe e adverse pair [] known pays = owes_on e 1 adverse pair (with_near pair.near pair) (same-tame pair.near.run.value) (λ r was now. omega arith) pays
repeats_owe e adverse pair (pdu ∷ coming) known pays = owes_on e 1 adverse pair (with_near (occurs (Comes pdu) pair.near) pair) (tame_at pair.near (Comes pdu) known refl refl) (λ r was now. omega arith) pays

pub loses_owe : (e : Errand) (adverse : ℕ) (pair : Pair) (coming : List (List ℕ)) → pair.near.coming ≡ coming → Pays e adverse pair → Pays e (1 + adverse) (with_near (loses_first coming pair.near) pair)
loses_owe e adverse pair [] is pays = owes_on e 1 adverse pair (with_near pair.near pair) (same-tame pair.near.run.value) (λ r was now. omega arith) pays
loses_owe e adverse pair (pdu ∷ coming) is pays =
    owes_on e 1 adverse pair (with_near (let_go coming pair.near) pair) (same-tame pair.near.run.value) (λ r was now. first_owes e r.identifier pair (let_go coming pair.near) pdu coming is refl) pays

pub damages_owe : (e : Errand) (adverse : ℕ) (pair : Pair) (other : List ℕ) (coming : List (List ℕ)) → pair.near.coming ≡ coming → Known pair.near → Pays e adverse pair → Pays e (1 + adverse) (with_near (damages_first other coming pair.near) pair)
damages_owe e adverse pair other [] is known pays = owes_on e 1 adverse pair (with_near pair.near pair) (same-tame pair.near.run.value) (λ r was now. omega arith) pays
damages_owe e adverse pair other (pdu ∷ coming) is known pays = by (has_fcs (channel_of pdu) pair.near.run.value)
  where
    by : (checked : Bool) → Pays e (1 + adverse) (with_near (cond checked (occurs (Comes other) (let_go coming pair.near)) (let_go coming pair.near)) pair)
    by true =
        owes_on e 1 adverse pair (with_near (occurs (Comes other) (let_go coming pair.near)) pair) (tame_at pair.near (Comes other) known refl refl)
        (λ r was now. first_owes e r.identifier pair (occurs (Comes other) (let_go coming pair.near)) pdu coming is refl) pays
    by false = owes_on e 1 adverse pair (with_near (let_go coming pair.near) pair) (same-tame pair.near.run.value) (λ r was now. first_owes e r.identifier pair (let_go coming pair.near) pdu coming is refl) pays

-- nothing is under way on a quiet link
pub quiet_none : (e : Errand) (identifier : ℕ) (pair : Pair) → is_quiet pair ≡ true → under_way e identifier pair ≡ 0
quiet_none e identifier pair is =
    let near = none-many (brings (responds_to e identifier)) pair.near.coming (eqb-true (length pair.near.coming) 0 near_none) in
    let far = none-many (brings (asks_for e identifier)) pair.far.coming (eqb-true (length pair.far.coming) 0 far_none) in
    let none = no-answers (responds_to e identifier) pair.far.run.value.queue (not_so (list_any is_answer pair.far.run.value.queue) (and-right (not (list_any is_answer pair.near.run.value.queue)) (not (list_any is_answer pair.far.run.value.queue)) waiting)) in
    omega (arith, near, far, none)
  where
    none_come : Bool
    none_come = eqb (length pair.near.coming) 0 && eqb (length pair.far.coming) 0

    none_wait : Bool
    none_wait = not (list_any is_answer pair.near.run.value.queue) && not (list_any is_answer pair.far.run.value.queue)

    waiting : none_wait ≡ true
    waiting = and-right none_come none_wait is

    near_none : eqb (length pair.near.coming) 0 ≡ true
    near_none = and-left (eqb (length pair.near.coming) 0) (eqb (length pair.far.coming) 0) (and-left none_come none_wait is)

    far_none : eqb (length pair.far.coming) 0 ≡ true
    far_none = and-right (eqb (length pair.near.coming) 0) (eqb (length pair.far.coming) 0) (and-left none_come none_wait is)

    not_so : (b : Bool) → not b ≡ true → b ≡ false
    not_so true is = cc
    not_so false is = refl

pub fires_owe : (e : Errand) (adverse : ℕ) (pair : Pair) (quiet : Bool) → is_quiet pair ≡ quiet → Pays e adverse pair → Pays e (one_if (not quiet) + adverse) (with_near (occurs Fires pair.near) pair)
fires_owe e adverse pair true is pays = record {
  most = λ r at. let all = fired r at in let bound = all.0 in omega (arith, bound);
  way = λ r at. let all = fired r at in let few = all.1 in omega (arith, few);
}
  where
    fired : (r : Request) → request_of e (occurs Fires pair.near).run.value ≡ Some r → (copies e (occurs Fires pair.near).run.value.queue + r.given ≤ 1 + adverse) × (r.given ≤ adverse) × ((r.given ≡ 0) ⊎ (request_of e pair.near.run.value ≡ Some r))
    fired r at = timed-so pair.near.policy e adverse pair.near.run.value pays.most (λ x was. let none = quiet_none e x.identifier pair is in let so_far = pays.way x was in omega (arith, none, so_far)) r at
fires_owe e adverse pair false is pays = record {
  most = λ r at. let all = fired r at in let bound = all.0 in omega (arith, bound);
  way = λ r at. by r (fired r at).2;
}
  where
    fired : (r : Request) → request_of e (occurs Fires pair.near).run.value ≡ Some r → (copies e (occurs Fires pair.near).run.value.queue + r.given ≤ 1 + (1 + adverse)) × (r.given ≤ 1 + adverse) × ((r.given ≡ 0) ⊎ (request_of e pair.near.run.value ≡ Some r))
    fired r at = timed-so pair.near.policy e (1 + adverse) pair.near.run.value (λ x was. let so_far = pays.most x was in omega (arith, so_far)) (λ x was. let so_far = pays.most x was in omega (arith, so_far)) r at

    by : (r : Request) → (r.given ≡ 0) ⊎ (request_of e pair.near.run.value ≡ Some r) → r.given ≤ (1 + adverse) + under_way e r.identifier (with_near (occurs Fires pair.near) pair)
    by r (inl none) = omega (arith, none)
    by r (inr was) = let so_far = pays.way r was in omega (arith, so_far)

-- what the host does alone
pub acts_owe : (e : Errand) (adverse : ℕ) (pair : Pair) (more : Occurrence) → is_alone more ≡ true → Known pair.near → Pays e adverse pair → Pays e (one_if (is_firing more && not (is_quiet pair)) + adverse) (with_near (occurs more pair.near) pair)
acts_owe e adverse pair (Comes pdu) alone known pays = cc
acts_owe e adverse pair (Connects psm) alone known pays = owes_on e 0 adverse pair (with_near (occurs (Connects psm) pair.near) pair) (tame_at pair.near (Connects psm) known refl refl) (λ r was now. omega arith) pays
acts_owe e adverse pair AsksFeatures alone known pays = owes_on e 0 adverse pair (with_near (occurs AsksFeatures pair.near) pair) (tame_at pair.near AsksFeatures known refl refl) (λ r was now. omega arith) pays
acts_owe e adverse pair (Disconnects own) alone known pays = owes_on e 0 adverse pair (with_near (occurs (Disconnects own) pair.near) pair) (tame_at pair.near (Disconnects own) known refl refl) (λ r was now. omega arith) pays
acts_owe e adverse pair (Sends own sdu) alone known pays = owes_on e 0 adverse pair (with_near (occurs (Sends own sdu) pair.near) pair) (tame_at pair.near (Sends own sdu) known refl refl) (λ r was now. omega arith) pays
acts_owe e adverse pair (Gives pdu) alone known pays = cc
acts_owe e adverse pair Fires alone known pays = fires_owe e adverse pair (is_quiet pair) refl pays
acts_owe e adverse pair Tells alone known pays = owes_on e 0 adverse pair (with_near (occurs Tells pair.near) pair) (tame_at pair.near Tells known refl refl) (λ r was now. omega arith) pays

-- ---- its host gives a PDU

-- a copy of the request goes out where it was given once more
pub copy_goes : (e : Errand) (v : Channels) (queue : List Queued) (given : Given) (pdu : List ℕ) (r : Request) (given' : ℕ) → request_of e v ≡ Some r → queue_gives queue v ≡ Some given → IsPdu given pdu → IsReadAs (Some given) pdu
    → copies e (queue_given queue v).queue + given' ≤ copies e queue + r.given → v.queue ≡ queue → given' ≤ one_if (brings (asks_for e r.identifier) pdu) + r.given
copy_goes e v [] given pdu r given' is gives octets read less at =
    omega (arith, less)
copy_goes e v (Answer command ∷ behind) given pdu r given' is gives octets read less at = omega (arith, less)
copy_goes e v (Ask errand ∷ behind) given pdu r given' is gives octets read less at = by (same_errand e errand) refl (command_of errand v) refl gives
  where
    u : Channels
    u = record v { queue = behind }

    queue_is : copies e (counted errand u).queue ≡ copies e behind
    queue_is = ap (copies e) (given-counted u errand)

    by : (same : Bool) → same_errand e errand ≡ same → (command : Option Command) → command_of errand v ≡ command → option_map Signal command ≡ Some given → given' ≤ one_if (brings (asks_for e r.identifier) pdu) + r.given
    by same is_same None is_command has = cc
    by false is_same (Some c) is_command has =
        let other : one_if (same_errand e errand) ≡ 0 = ap one_if is_same in
        omega (arith, other, queue_is, less)
    by true is_same (Some c) is_command has =
        let it : e ≡ errand = same-is e errand is_same in
        let given_is : Signal c ≡ given = some_is (Signal c) given has in
        let so : asks_for e r.identifier c ≡ true = asks_so e v r c is (ap (λ x. command_of x v) it ∙ is_command) in
        let there : brings (asks_for e r.identifier) pdu ≡ true = brings_given (asks_for e r.identifier) c pdu (subst (λ g. IsPdu g pdu) (sym given_is) octets) (subst (λ g. IsReadAs (Some g) pdu) (sym given_is) read) so in
        let one : one_if (same_errand e errand) ≡ 1 = ap one_if is_same in
        let two : one_if (brings (asks_for e r.identifier) pdu) ≡ 1 = ap one_if there in
        omega (arith, one, two, queue_is, less)

pub puts_owe : (e : Errand) (adverse : ℕ) (pair : Pair) (pdu : List ℕ) (given : Option Given) → next_given pair.near.run.value ≡ given → IsUttered (Gives pdu) pair.near.run.value → IsReadAs given pdu → Known pair.near → Pays e adverse pair → Pays e adverse (puts given pdu pair)
puts_owe e adverse pair pdu None is uttered read known pays = pays
puts_owe e adverse pair pdu (Some given) is uttered read known pays = record {
  most = kept-less e (1 + adverse) v w (omega arith) (λ x r at. pass-less (copies x w.queue) (copies x v.queue) (request_of x v) r (pass x r at)) pays.most;
  way = λ r at. by r (pass e r at);
}
  where
    v : Channels
    v = pair.near.run.value

    w : Channels
    w = queue_given v.queue v

    pass : Passes v w
    pass = gives-pass v v.queue refl known.lone

    octets : IsPdu given pdu
    octets = (subst (λ g. IsSpelled g pdu) is uttered).0

    way_more : (identifier : ℕ) → under_way e identifier (put pdu pair) ≡ under_way e identifier pair + one_if (brings (asks_for e identifier) pdu)
    way_more identifier = let whole = many-last (brings (asks_for e identifier)) pair.far.coming pdu in omega (arith, whole)

    by : (r : Request) → By (copies e w.queue) (copies e v.queue) (request_of e v) r ⊎ Gave (copies e w.queue) (copies e v.queue) (request_of e v) r → r.given ≤ adverse + under_way e r.identifier (put pdu pair)
    by r (inl (inl (none, few))) = omega (arith, none)
    by r (inl (inr (was, less))) = let so_far = pays.way r was in let more = way_more r.identifier in omega (arith, so_far, more)
    by r (inr (r', was, same, less)) =
        let so_far = pays.way r' was in
        let goes = copy_goes e v v.queue given pdu r' r.given was is octets read less refl in
        let more = way_more r'.identifier in
        subst (λ n. r.given ≤ adverse + under_way e n (put pdu pair)) (sym same) (omega (arith, so_far, goes, more))

pub owner_turn : (e : Errand) (adverse : ℕ) (happening : Happening) (pair : Pair) → Known pair.near → DoesSo IsUttered happening pair.near → IsRead happening pair.near → Pays e adverse pair
    → Pays e (adverse_by e happening pair (happens_near happening pair) + adverse) (happens_near happening pair)
owner_turn e adverse (Acts more) pair known uttered read pays = by (is_alone more) refl
  where
    by : (alone : Bool) → is_alone more ≡ alone → Pays e (one_if (is_firing more && not (is_quiet pair)) + adverse) (cond alone (with_near (occurs more pair.near) pair) pair)
    by true alone = acts_owe e adverse pair more alone known pays
    by false alone = owes_on e (one_if (is_firing more && not (is_quiet pair))) adverse pair pair (same-tame pair.near.run.value) (λ r was now. omega arith) pays
owner_turn e adverse (Puts pdu) pair known uttered read pays = owes_on e 0 adverse (happens_near (Puts pdu) pair) (happens_near (Puts pdu) pair) (same-tame (happens_near (Puts pdu) pair).near.run.value) (λ r was now. omega arith) (puts_owe e adverse pair pdu (next_given pair.near.run.value) refl uttered read known pays)
owner_turn e adverse Takes pair known uttered read pays = takes_owe e adverse pair pair.near.coming refl known pays
owner_turn e adverse Repeats pair known uttered read pays = repeats_owe e adverse pair pair.near.coming known pays
owner_turn e adverse Loses pair known uttered read pays = loses_owe e adverse pair pair.near.coming refl pays
owner_turn e adverse (Damages other) pair known uttered read pays = damages_owe e adverse pair other pair.near.coming refl known pays

-- ---- at the other end

-- for a request of the far end
pub peer_owes : (e : Errand) (cost adverse : ℕ) (pair : Pair) (end' : End)
    → ((r : Request) → request_of e pair.far.run.value ≡ Some r → under_way e r.identifier (turned pair) ≤ cost + under_way e r.identifier (turned (with_near end' pair)))
    → Pays e adverse (turned pair) → Pays e (cost + adverse) (turned (with_near end' pair))
peer_owes e cost adverse pair end' way pays = owes_on e cost adverse (turned pair) (turned (with_near end' pair)) (same-tame pair.far.run.value) (λ r was now. way r was) pays

-- one PDU less comes, and no fewer answers wait
pub less_comes : (e : Errand) (identifier : ℕ) (pair : Pair) (end' : End) (pdu : List ℕ) (coming : List (List ℕ)) → pair.near.coming ≡ pdu ∷ coming → end'.coming ≡ coming
    → how_many (answers_so (responds_to e identifier)) pair.near.run.value.queue ≤ how_many (answers_so (responds_to e identifier)) end'.run.value.queue
    → under_way e identifier (turned pair) ≤ 1 + under_way e identifier (turned (with_near end' pair))
less_comes e identifier pair end' pdu coming is after stay =
    let before : how_many (brings (asks_for e identifier)) pair.near.coming ≡ one_if (brings (asks_for e identifier) pdu) + how_many (brings (asks_for e identifier)) coming = ap (how_many (brings (asks_for e identifier))) is in
    let later : how_many (brings (asks_for e identifier)) end'.coming ≡ how_many (brings (asks_for e identifier)) coming = ap (how_many (brings (asks_for e identifier))) after in
    let least = one-least (brings (asks_for e identifier) pdu) in
    omega (arith, before, later, least, stay)

pub peer_takes : (e : Errand) (adverse : ℕ) (pair : Pair) (coming : List (List ℕ)) → pair.near.coming ≡ coming → Known pair.near → Pays e adverse (turned pair)
    → Pays e (one_if (is_vain e (turned pair) (turned (with_near (takes_first coming pair.near) pair))) + adverse) (turned (with_near (takes_first coming pair.near) pair))
peer_takes e adverse pair [] is known pays = peer_owes e (one_if (is_vain e (turned pair) (turned (with_near pair.near pair)))) adverse pair pair.near (λ r was. omega arith) pays
peer_takes e adverse pair (pdu ∷ coming) is known pays =
    let end' : End = occurs (Comes pdu) (let_go coming pair.near) in
    peer_owes e (one_if (is_vain e (turned pair) (turned (with_near end' pair)))) adverse pair end'
    (λ r was. vain_costs e (turned pair) (turned (with_near end' pair)) r was was (less_comes e r.identifier pair end' pdu coming is refl (known.stay (responds_to e r.identifier) (Comes pdu) refl))) pays

pub peer_repeats : (e : Errand) (adverse : ℕ) (pair : Pair) (coming : List (List ℕ)) → Known pair.near → Pays e adverse (turned pair) → Pays e (1 + adverse) (turned (with_near (repeats_first coming pair.near) pair))
peer_repeats e adverse pair [] known pays = peer_owes e 1 adverse pair pair.near (λ r was. omega arith) pays
peer_repeats e adverse pair (pdu ∷ coming) known pays = peer_owes e 1 adverse pair (occurs (Comes pdu) pair.near) (λ r was. let stay = known.stay (responds_to e r.identifier) (Comes pdu) refl in omega (arith, stay)) pays

pub peer_loses : (e : Errand) (adverse : ℕ) (pair : Pair) (coming : List (List ℕ)) → pair.near.coming ≡ coming → Pays e adverse (turned pair) → Pays e (1 + adverse) (turned (with_near (loses_first coming pair.near) pair))
peer_loses e adverse pair [] is pays = peer_owes e 1 adverse pair pair.near (λ r was. omega arith) pays
peer_loses e adverse pair (pdu ∷ coming) is pays = peer_owes e 1 adverse pair (let_go coming pair.near) (λ r was. less_comes e r.identifier pair (let_go coming pair.near) pdu coming is refl (omega arith)) pays

pub peer_damages : (e : Errand) (adverse : ℕ) (pair : Pair) (other : List ℕ) (coming : List (List ℕ)) → pair.near.coming ≡ coming → Known pair.near → Pays e adverse (turned pair) → Pays e (1 + adverse) (turned (with_near (damages_first other coming pair.near) pair))
peer_damages e adverse pair other [] is known pays = peer_owes e 1 adverse pair pair.near (λ r was. omega arith) pays
peer_damages e adverse pair other (pdu ∷ coming) is known pays = by (has_fcs (channel_of pdu) pair.near.run.value)
  where
    by : (checked : Bool) → Pays e (1 + adverse) (turned (with_near (cond checked (occurs (Comes other) (let_go coming pair.near)) (let_go coming pair.near)) pair))
    by true =
        let end' : End = occurs (Comes other) (let_go coming pair.near) in
        peer_owes e 1 adverse pair end' (λ r was. less_comes e r.identifier pair end' pdu coming is refl (known.stay (responds_to e r.identifier) (Comes other) refl)) pays
    by false = peer_owes e 1 adverse pair (let_go coming pair.near) (λ r was. less_comes e r.identifier pair (let_go coming pair.near) pdu coming is refl (omega arith)) pays

pub none_given : (more : Occurrence) → is_alone more ≡ true → is_giving more ≡ false
none_given (Comes pdu) alone = cc
none_given (Connects psm) alone = refl
none_given AsksFeatures alone = refl
none_given (Disconnects own) alone = refl
none_given (Sends own sdu) alone = refl
none_given (Gives pdu) alone = cc
none_given Fires alone = refl
none_given Tells alone = refl

-- an answer that is given is under way
pub answer_goes : (is : Command → Bool) (v : Channels) (queue : List Queued) (given : Given) (pdu : List ℕ) → v.queue ≡ queue → queue_gives queue v ≡ Some given → IsPdu given pdu → IsReadAs (Some given) pdu
    → how_many (answers_so is) queue ≤ one_if (brings is pdu) + how_many (answers_so is) (queue_given queue v).queue
answer_goes is v [] given pdu at gives octets read = omega arith
answer_goes is v (Ask errand ∷ behind) given pdu at gives octets read =
    let u : Channels = record v { queue = behind } in
    let queue_is : how_many (answers_so is) (counted errand u).queue ≡ how_many (answers_so is) behind = ap (how_many (answers_so is)) (given-counted u errand) in
    omega (arith, queue_is)
answer_goes is v (Answer command ∷ behind) given pdu at gives octets read = by (is command) refl
  where
    given_is : Signal command ≡ given
    given_is = some_is (Signal command) given gives

    by : (b : Bool) → is command ≡ b → one_if (is command) + how_many (answers_so is) behind ≤ one_if (brings is pdu) + how_many (answers_so is) behind
    by false so = let none : one_if (is command) ≡ 0 = ap one_if so in omega (arith, none)
    by true so =
        let there : brings is pdu ≡ true = brings_given is command pdu (subst (λ g. IsPdu g pdu) (sym given_is) octets) (subst (λ g. IsReadAs (Some g) pdu) (sym given_is) read) so in
        let one : one_if (is command) ≡ 1 = ap one_if so in
        let two : one_if (brings is pdu) ≡ 1 = ap one_if there in
        omega (arith, one, two)

pub peer_puts : (e : Errand) (adverse : ℕ) (pair : Pair) (pdu : List ℕ) (given : Option Given) → next_given pair.near.run.value ≡ given → IsUttered (Gives pdu) pair.near.run.value → IsReadAs given pdu → Pays e adverse (turned pair) → Pays e (0 + adverse) (turned (puts given pdu pair))
peer_puts e adverse pair pdu None is uttered read pays = owes_on e 0 adverse (turned pair) (turned pair) (same-tame pair.far.run.value) (λ r was now. omega arith) pays
peer_puts e adverse pair pdu (Some given) is uttered read pays =
    owes_on e 0 adverse (turned pair) (turned (put pdu pair)) (same-tame pair.far.run.value) (λ r was now. way r.identifier) pays
  where
    octets : IsPdu given pdu
    octets = (subst (λ g. IsSpelled g pdu) is uttered).0

    way : (identifier : ℕ) → under_way e identifier (turned pair) ≤ 0 + under_way e identifier (turned (put pdu pair))
    way identifier =
        let goes = answer_goes (responds_to e identifier) pair.near.run.value pair.near.run.value.queue given pdu refl is octets read in
        let whole = many-last (brings (responds_to e identifier)) pair.far.coming pdu in
        omega (arith, goes, whole)

pub peer_turn : (e : Errand) (adverse : ℕ) (happening : Happening) (pair : Pair) → Known pair.near → DoesSo IsUttered happening pair.near → IsRead happening pair.near → Pays e adverse (turned pair)
    → Pays e (adverse_by e happening (turned pair) (turned (happens_near happening pair)) + adverse) (turned (happens_near happening pair))
peer_turn e adverse (Acts more) pair known uttered read pays = by (is_alone more) refl
  where
    by : (alone : Bool) → is_alone more ≡ alone → Pays e (one_if (is_firing more && not (is_quiet (turned pair))) + adverse) (turned (cond alone (with_near (occurs more pair.near) pair) pair))
    by true alone =
        peer_owes e (one_if (is_firing more && not (is_quiet (turned pair)))) adverse pair (occurs more pair.near)
        (λ r was. let stay = known.stay (responds_to e r.identifier) more (none_given more alone) in omega (arith, stay)) pays
    by false alone = owes_on e (one_if (is_firing more && not (is_quiet (turned pair)))) adverse (turned pair) (turned pair) (same-tame pair.far.run.value) (λ r was now. omega arith) pays
peer_turn e adverse (Puts pdu) pair known uttered read pays = peer_puts e adverse pair pdu (next_given pair.near.run.value) refl uttered read pays
peer_turn e adverse Takes pair known uttered read pays = peer_takes e adverse pair pair.near.coming refl known pays
peer_turn e adverse Repeats pair known uttered read pays = peer_repeats e adverse pair pair.near.coming known pays
peer_turn e adverse Loses pair known uttered read pays = peer_loses e adverse pair pair.near.coming refl pays
peer_turn e adverse (Damages other) pair known uttered read pays = peer_damages e adverse pair other pair.near.coming refl known pays

-- ---- all turns

pub known-at : (near far : Policy) (turns : List Turn) (side : Side) → Known (end_at side (pair_of near far turns))
known-at near far turns Near = let (list, is) = (each-end_runs near far turns).0 in known_by near list (pair_of near far turns).near (end-policy near far turns Near) is
known-at near far turns Far = let (list, is) = (each-end_runs near far turns).1 in known_by far list (pair_of near far turns).far (end-policy near far turns Far) is

pub one_turn : (e : Errand) (side : Side) (adverse : ℕ) (pair : Pair) (turn : Turn) → Known (end_at turn.side pair) → DoesSo IsUttered turn.happening (end_at turn.side pair) → IsRead turn.happening (end_at turn.side pair) → Pays e adverse (seen_from side pair)
    → Pays e (adverse_by e turn.happening (seen_from side pair) (seen_from side (pair_after pair turn)) + adverse) (seen_from side (pair_after pair turn))
one_turn e side adverse pair turn known uttered read pays = by side turn.side known uttered read pays
  where
    h : Happening
    h = turn.happening

    by : (side at : Side) → Known (end_at at pair) → DoesSo IsUttered h (end_at at pair) → IsRead h (end_at at pair) → Pays e adverse (seen_from side pair)
        → Pays e (adverse_by e h (seen_from side pair) (seen_from side (happens_at at h pair)) + adverse) (seen_from side (happens_at at h pair))
    by Near Near known uttered read pays = owner_turn e adverse h pair known uttered read pays
    by Near Far known uttered read pays = peer_turn e adverse h (turned pair) known uttered read pays
    by Far Near known uttered read pays = peer_turn e adverse h pair known uttered read pays
    by Far Far known uttered read pays = owner_turn e adverse h (turned pair) known uttered read pays

pub all_pay : (e : Errand) (side : Side) (near far : Policy) (past turns : List Turn) (adverse : ℕ)
    → EachAfter (λ front turn. DoesSo IsUttered turn.happening (end_at turn.side (pair_of near far front))) past turns
    → EachAfter (λ front turn. IsRead turn.happening (end_at turn.side (pair_of near far front))) past turns
    → Pays e adverse (seen_from side (pair_of near far past)) → Pays e (adverse_from e side (pair_of near far past) turns + adverse) (seen_from side (pair_of near far (past ++ turns)))
all_pay e side near far past [] adverse uttered read pays = subst (λ list. Pays e (0 + adverse) (seen_from side (pair_of near far list))) (sym (append-nil past)) (subst (λ n. Pays e n (seen_from side (pair_of near far past))) (zero_more adverse) pays)
  where
    zero_more : (n : ℕ) → n ≡ 0 + n
    zero_more n = omega arith
all_pay e side near far past (turn ∷ turns) adverse (uttered, utter) (read, reads) pays =
    subst (λ list. Pays e (adverse_from e side (pair_of near far past) (turn ∷ turns) + adverse) (seen_from side (pair_of near far list))) (append_assoc past (turn ∷ []) turns)
    (subst (λ n. Pays e n (seen_from side (pair_of near far ((past ++ turn ∷ []) ++ turns)))) whole
    (all_pay e side near far (past ++ turn ∷ []) turns (cost + adverse) utter reads
    (subst (λ p. Pays e (cost + adverse) (seen_from side p)) (sym next_is)
    (one_turn e side adverse (pair_of near far past) turn (known-at near far past turn.side) uttered read pays))))
  where
    pair : Pair
    pair = pair_of near far past

    cost : ℕ
    cost = adverse_by e turn.happening (seen_from side pair) (seen_from side (pair_after pair turn))

    next_is : pair_of near far (past ++ turn ∷ []) ≡ pair_after pair turn
    next_is = fold-append pair_after (new_pair near far) past (turn ∷ [])

    whole : adverse_from e side (pair_of near far (past ++ turn ∷ [])) turns + (cost + adverse) ≡ (cost + adverse_from e side (pair_after pair turn) turns) + adverse
    whole = let same : adverse_from e side (pair_of near far (past ++ turn ∷ [])) turns ≡ adverse_from e side (pair_after pair turn) turns = ap (λ p. adverse_from e side p turns) next_is in omega (arith, same)

pub first_pays : (e : Errand) (side : Side) (near far : Policy) → Pays e 0 (seen_from side (new_pair near far))
first_pays e side near far = record { most = λ r is. absurd (none e side r is); way = λ r is. absurd (none e side r is) }
  where
    none : (e : Errand) (side : Side) (r : Request) → request_of e (seen_from side (new_pair near far)).near.run.value ≡ Some r → ⊥
    none (errands.Connection own) Near r is = cc
    none (errands.Configuration own) Near r is = cc
    none (errands.Disconnection own) Near r is = cc
    none errands.Features Near r is = cc
    none (errands.Connection own) Far r is = cc
    none (errands.Configuration own) Far r is = cc
    none (errands.Disconnection own) Far r is = cc
    none errands.Features Far r is = cc

pub adverse-turns_are_counted : AdverseTurnsAreCounted
adverse-turns_are_counted near far turns fair read side errand request is =
    let pays = all_pay errand side near far [] turns 0 fair read (first_pays errand side near far) in
    let most = pays.most request is in
    omega (arith, most)

pub each_behind : (P : List Turn → Turn → Type 0) (done past turns : List Turn) → EachAfter P done (past ++ turns) → EachAfter P (done ++ past) turns
each_behind P done [] turns all = subst (λ before. EachAfter P before turns) (sym (append-nil done)) all
each_behind P done (turn ∷ past) turns (now, all) = subst (λ before. EachAfter P before turns) (append_assoc done (turn ∷ []) past) (each_behind P (done ++ turn ∷ []) past turns all)

pub adverse-turns_are_counted_since : AdverseTurnsAreCountedSince
adverse-turns_are_counted_since near far past turns fair read side errand request first is =
    let pays = all_pay errand side near far past turns 0 (each_behind _ [] past turns fair) (each_behind _ [] past turns read) (record { most = λ was at. (first was at).0; way = λ was at. let few = (first was at).1 in omega (arith, few) }) in
    let most = pays.most request is in
    omega (arith, most)

-- ---- where nothing comes in in vain

pub quiet_turned : (pair : Pair) → is_quiet (turned pair) ≡ is_quiet pair
quiet_turned pair =
    by (eqb (length pair.near.coming) 0) (eqb (length pair.far.coming) 0) (not (list_any is_answer pair.near.run.value.queue)) (not (list_any is_answer pair.far.run.value.queue))
  where
    by : (a b c d : Bool) → ((b && a) && (d && c)) ≡ ((a && b) && (c && d))
    by true true true true = refl
    by true true true false = refl
    by true true false true = refl
    by true true false false = refl
    by true false c d = refl
    by false true c d = refl
    by false false c d = refl

pub quiet_seen : (side : Side) (pair : Pair) → is_quiet (seen_from side pair) ≡ is_quiet pair
quiet_seen Near pair = refl
quiet_seen Far pair = quiet_turned pair

pub heeded_cost : (e : Errand) (side : Side) (happening : Happening) (pair after : Pair) → IsHeeded e happening (seen_from side pair) (seen_from side after) → adverse_by e happening (seen_from side pair) (seen_from side after) ≡ disturbs happening pair
heeded_cost e side (Acts more) pair after heeded = ap (λ b. one_if (is_firing more && not b)) (quiet_seen side pair)
heeded_cost e side (Puts pdu) pair after heeded = refl
heeded_cost e side Takes pair after heeded = ap one_if heeded
heeded_cost e side Repeats pair after heeded = refl
heeded_cost e side Loses pair after heeded = refl
heeded_cost e side (Damages pdu) pair after heeded = refl

pub heeded_all : (e : Errand) (side : Side) (near far : Policy) (past turns : List Turn)
    → EachAfter (λ front turn. IsHeeded e turn.happening (seen_from side (pair_of near far front)) (seen_from side (pair_after (pair_of near far front) turn))) past turns
    → adverse_from e side (pair_of near far past) turns ≡ disturbances (pair_of near far past) turns
heeded_all e side near far past [] heeded = refl
heeded_all e side near far past (turn ∷ turns) (now, later) =
    let pair : Pair = pair_of near far past in
    let next_is : pair_of near far (past ++ turn ∷ []) ≡ pair_after pair turn = fold-append pair_after (new_pair near far) past (turn ∷ []) in
    let cost = heeded_cost e side turn.happening pair (pair_after pair turn) now in
    let rest : adverse_from e side (pair_after pair turn) turns ≡ disturbances (pair_after pair turn) turns
    = subst (λ (p : Pair). adverse_from e side p turns ≡ disturbances p turns) next_is (heeded_all e side near far (past ++ turn ∷ []) turns later) in
    omega (arith, cost, rest)

pub disturbances-are_counted : DisturbancesAreCounted
disturbances-are_counted near far turns fair read side errand request heeded is =
    let most = adverse-turns_are_counted near far turns fair read side errand request is in
    let same = heeded_all errand side near far [] turns heeded in
    omega (arith, most, same)

pub disturbances-are_counted_since : DisturbancesAreCountedSince
disturbances-are_counted_since near far past turns fair read side errand request heeded first is =
    let most = adverse-turns_are_counted_since near far past turns fair read side errand request first is in
    let same = heeded_all errand side near far past turns heeded in
    omega (arith, most, same)
