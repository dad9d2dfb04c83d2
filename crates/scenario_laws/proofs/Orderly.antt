-- Host b of a run serves in order.
use Rattle.std.proofs.Common.{◌≡◌, ℕ, zero, suc, ◌+◌, ◌≤◌, List, [], ◌∷◌, ◌++◌, map, filter, replicate, Bool, true, false, cond, eqb, ◌||◌, ◌&&◌, not, Option, Some, None, Ok, Err, refl, sym, ap, ap₂, subst, ◌∙◌, ◌⊎◌, inl, inr, arith, append_assoc, append-nil}
use Rattle.std.specs.Prelude.{drop, nat_lt, option_to_list}
use Rattle.std.specs.List.{AllByRecursion, flat_map, list_any}
use Rattle.std.proofs.lemmas.Bool.{eqb-true, eq-eqb, ltb-false, ltb-true}
use Rattle.std.proofs.lemmas.List.{map-append}
use Rattle.std.proofs.lemmas.List.Concat.{flat_map-append}
use Rattle.std.proofs.lemmas.List.Folds.{list_any-append}
use Rattle.host_laws.specs.acl_fragments.specs.Pieces.{channel_of}
use Rattle.radio_world.specs.bt_base.specs.Objects.{Object, Contents}
use Rattle.radio_world.specs.bt_base.specs.declared.settings.Transport.{Transport}
use Rattle.radio_world.specs.bt_base.specs.declared.settings.Transport.TheVariants.{L2cap}
use Rattle.radio_world.specs.push_script.specs.declared.scenario.Scenario.{Scenario}
use Rattle.radio_world.specs.capture.specs.declared.flow.Flow.{Flow}
use Rattle.radio_world.specs.capture.specs.declared.flow.Flow.TheVariants.{Out, Into}
use Rattle.radio_world.specs.capture.specs.Entries.{Entry}
use Rattle.radio_world.specs.capture.specs.Links.{Link, linking, links}
use Rattle.radio_world.specs.capture.specs.Moves.{moves}
use Rattle.radio_world.specs.capture.specs.Pdus.{Pdu, pdus, same_flow}
use Rattle.radio_world.specs.push_terms.specs.declared.word.Side.{Side}
use Rattle.radio_world.specs.push_terms.specs.declared.word.Side.TheVariants as sides
use Rattle.host_laws.specs.world_model.specs.Worlds.{all_entries}
use Rattle.host_laws.specs.l2cap_signal.specs.Commands.{Content, reject, connection_request, connection_response, configuration_request, configuration_response, disconnection_request, disconnection_response, echo_request, echo_response, information_request, information_response}
use Rattle.host_laws.specs.l2cap_signal.specs.Reading.{Answer, answers}
use Rattle.host_laws.specs.l2cap_signal.specs.declared.refusal.SignalRefusal.TheVariants.{ZeroIdentifier, BadLength, UnknownCode, AboveMtu}
use Rattle.host_laws.specs.link_talk.specs.declared.call.Call.{Call}
use Rattle.host_laws.specs.link_talk.specs.Sayings.{Saying, Command, Carried, said_by, talk}
use Rattle.host_laws.specs.link_talk.specs.Senses.{Asks, Quiet, Unread}
use Rattle.host_laws.specs.link_talk.specs.Requests.{call, went}
use Rattle.host_laws.specs.channel_model.specs.Policies.{policy}
use Rattle.host_laws.specs.channel_laws.specs.Arrivals.{Arrives}
use Rattle.host_laws.specs.channel_laws.specs.OwnTalk.{command_with}
use Rattle.host_laws.specs.channel_laws.specs.Singly.{calls_that_went, names, IsAgain, IsFresh, AreOneByOne}
use Rattle.host_laws.specs.channel_laws.proofs.OneByOne.{other-way}
use Rattle.host_laws.specs.channel_laws.proofs.Singling.{calls-more, tail-single}
use Rattle.host_laws.specs.world_model.specs.Machines.{Linked, Failed, Heard, TimerFired, Cancelled, Opening}
use Rattle.host_laws.specs.world_model.specs.Talks.{Talk, Told, Said, Unsent, Met, Done}
use Rattle.host_laws.specs.host_model.specs.Hosts.{first_host}
use Rattle.host_laws.specs.host_model.specs.Clients.{client_profile}
use Rattle.host_laws.specs.host_model.specs.Servers.{server_profile}
use Rattle.host_laws.specs.Calm.{pdus_in}
use Rattle.host_laws.specs.InOrder.{seeks_object, may_carry, may_ask, AsksForOneObject}
use Rattle.host_laws.specs.OverLinks.{turns_link, parts_from, parts, moved_in}
use Rattle.host_laws.proofs.Fitting.{IsProper, FitHost, AnyServer, IsLowClient}
use Rattle.host_laws.proofs.Asking.{hosts_ask}
use Rattle.host_laws.proofs.ClientCalls.{clients-ask_once as asked_once}
use Rattle.host_laws.proofs.InOrder.{asks-nothing, servers-are_served_in_order}
use Rattle.host_laws.proofs.OverLinks.{hosts_talk_over_links}
use Rattle.host_laws.proofs.Seeking.{out-calls}
use Rattle.scenario_laws.specs.Captures.{client_of, server_of, Ran}
use Rattle.scenario_laws.specs.Coming.{out_of, FallTo}
use Rattle.scenario_laws.specs.Gains.{holding, asked_by, OrderlyServer}
use Rattle.scenario_laws.specs.Orderly.{AsksOnce, ClientsAskOnce, ServersAreAskedOnce, HostsLiveOverLinks, ServesSo, ServersAreOrderly}
use Rattle.scenario_laws.specs.Reaching.{calls_by, heard_of, said_of, turn_of, turns, at_turn}
use Rattle.scenario_laws.proofs.Both.{AreReady, both_acted}
use Rattle.scenario_laws.proofs.Carrying.{carried_so}
use Rattle.scenario_laws.proofs.Coming.{ended_all, CameOverSo, came_over, came_over-talk}
use Rattle.scenario_laws.proofs.Free.{free_where, free_acts, rests_hold}
use Rattle.scenario_laws.proofs.Freeing.{runs_are_free}
use Rattle.scenario_laws.proofs.Fronts.{fits}
use Rattle.scenario_laws.proofs.Gaining.{all-out}
use Rattle.scenario_laws.proofs.Gentle.{host-tames, client-keeps, server-keeps, hosts_are_gentle}
use Rattle.scenario_laws.proofs.Reaching.{heard_at, said_at, queue_calls, all-still, all-reach}
use Rattle.host_laws.specs.turn_laws.proofs.Ordering.{at}

-- ---- of requests that come one by one, some are left out and some come again

-- what is none of all is none of those that came
none_came : (p : Call → Bool) (came sent : List Call) → Arrives came sent → list_any p sent ≡ false → list_any p came ≡ false
none_came p came [] is none = ap (list_any p) is
none_came p came (x ∷ sent) (times, rest, is, later) none = ap (list_any p) is ∙ (list_any-append p (replicate times x) rest ∙ both (list_any p (replicate times x)) (list_any p rest) (again times) (none_came p rest sent later (behind (p x) (list_any p sent) none)))
  where
    behind : (a b : Bool) → (a || b) ≡ false → b ≡ false
    behind true b is = cc
    behind false b is = is

    first : (a b : Bool) → (a || b) ≡ false → a ≡ false
    first true b is = cc
    first false b is = refl

    again : (n : ℕ) → list_any p (replicate n x) ≡ false
    again zero = refl
    again (suc n) = ap (λ b. b || list_any p (replicate n x)) (first (p x) (list_any p sent) none) ∙ again n

    both : (a b : Bool) → a ≡ false → b ≡ false → (a || b) ≡ false
    both a b one two = ap (λ c. c || b) one ∙ two

fewer_may : (T : Transport) (psm : ℕ) (came sent : List Call) → Arrives came sent → may_ask T psm sent ≡ true → may_ask T psm came ≡ true
fewer_may T psm came sent is may = by (eqb psm 1) (may_carry T psm) (list_any seeks_object sent) refl may
  where
    by : (one other any : Bool) → list_any seeks_object sent ≡ any → (one || (other && not any)) ≡ true → (one || (other && not (list_any seeks_object came))) ≡ true
    by true other any at may = refl
    by false false any at may = cc
    by false true true at may = cc
    by false true false at may = ap not (none_came seeks_object came sent is at)

fresh_came : (T : Transport) (one : Call) (came sent : List Call) → Arrives came sent → IsFresh (may_ask T) one sent → IsFresh (may_ask T) one came
fresh_came T one came sent is fresh = record { wanted = fresh.wanted; wanted_is = fresh.wanted_is; fits = fewer_may T fresh.wanted.psm came sent is fresh.fits; unused = none_came (names fresh.wanted.source) came sent is fresh.unused }

-- one is again the last or new among those that came as it is among all
next_came : (T : Transport) (one : Call) (came sent : List Call) → Arrives came sent → AreOneByOne (may_ask T) sent → IsAgain one sent ⊎ IsFresh (may_ask T) one sent → IsAgain one came ⊎ IsFresh (may_ask T) one came
next_came T one came [] is all (inl never) = absurd never
next_came T one came [] is all (inr fresh) = inr (fresh_came T one came [] is fresh)
next_came T one came (x ∷ sent) is all (inr fresh) = inr (fresh_came T one came (x ∷ sent) is fresh)
next_came T one came (x ∷ sent) (times, rest, came_is, later) all (inl same) = by times came_is (next_came T x rest sent later all.1 all.0)
  where
    by : (n : ℕ) → came ≡ replicate n x ++ rest → IsAgain x rest ⊎ IsFresh (may_ask T) x rest → IsAgain one came ⊎ IsFresh (may_ask T) one came
    by zero is so = subst (λ (c : Call). IsAgain c came ⊎ IsFresh (may_ask T) c came) (sym same) (subst (λ (l : List Call). IsAgain x l ⊎ IsFresh (may_ask T) x l) (sym is) so)
    by (suc n) is so = inl (subst (IsAgain one) (sym is) same)

pub came-one_by_one : (T : Transport) (came sent : List Call) → Arrives came sent → AreOneByOne (may_ask T) sent → AreOneByOne (may_ask T) came
came-one_by_one T came [] is all = subst (AreOneByOne (may_ask T)) (sym is) tt
came-one_by_one T came (x ∷ sent) (times, rest, is, later) all = subst (AreOneByOne (may_ask T)) (sym is) (by times (came-one_by_one T rest sent later all.1) (next_came T x rest sent later all.1 all.0))
  where
    by : (n : ℕ) → AreOneByOne (may_ask T) rest → IsAgain x rest ⊎ IsFresh (may_ask T) x rest → AreOneByOne (may_ask T) (replicate n x ++ rest)
    by zero below next = below
    by (suc zero) below next = (next, below)
    by (suc (suc n)) below next = (inl refl, by (suc n) below next)

-- ---- what one says the other hears

abbrev heard_as : Call → Call
heard_as one = record one { flow = Into }

as_again : (one : Call) (before : List Call) → IsAgain one before → IsAgain (heard_as one) (map heard_as before)
as_again one [] never = never
as_again one (last ∷ before) same = ap heard_as same

same_any : (p : Call → Bool) → ((c : Call) → p (heard_as c) ≡ p c) → (calls : List Call) → list_any p (map heard_as calls) ≡ list_any p calls
same_any p alike [] = refl
same_any p alike (x ∷ calls) = ap₂ (λ (a b : Bool). a || b) (alike x) (same_any p alike calls)

as_fresh : (T : Transport) (one : Call) (before : List Call) → IsFresh (may_ask T) one before → IsFresh (may_ask T) (heard_as one) (map heard_as before)
as_fresh T one before fresh = record {
  wanted = fresh.wanted;
  wanted_is = fresh.wanted_is;
  fits = ap (λ any. (eqb fresh.wanted.psm 1) || (may_carry T fresh.wanted.psm && not any)) (same_any seeks_object (λ c. refl) before) ∙ fresh.fits;
  unused = same_any (names fresh.wanted.source) (λ c. refl) before ∙ fresh.unused;
}

as_one_by_one : (T : Transport) (calls : List Call) → AreOneByOne (may_ask T) calls → AreOneByOne (may_ask T) (map heard_as calls)
as_one_by_one T [] all = tt
as_one_by_one T (one ∷ before) (inl again, later) = (inl (as_again one before again), as_one_by_one T before later)
as_one_by_one T (one ∷ before) (inr fresh, later) = (inr (as_fresh T one before fresh), as_one_by_one T before later)

-- a PDU has the same requests for both
answer_calls : (answer : Answer) → map heard_as (calls_that_went Out (Command Out answer ∷ [])) ≡ calls_that_went Into (Command Into answer ∷ [])
answer_calls (Ok command) = by command.content
  where
    by : (content : Content) → map heard_as (calls_that_went Out (Command Out (Ok (command_with command.identifier content)) ∷ [])) ≡ calls_that_went Into (Command Into (Ok (command_with command.identifier content)) ∷ [])
    by (reject reason rest) = refl
    by (connection_request psm source) = refl
    by (connection_response destination source answer status) = refl
    by (configuration_request destination flags options) = refl
    by (configuration_response source flags answer options) = refl
    by (disconnection_request destination source) = refl
    by (disconnection_response destination source) = refl
    by (echo_request octets) = refl
    by (echo_response octets) = refl
    by (information_request kind) = refl
    by (information_response kind answer rest) = refl
answer_calls (Err (ZeroIdentifier code identifier)) = refl
answer_calls (Err (BadLength code None)) = refl
answer_calls (Err (BadLength code (Some identifier))) = by (eqb identifier 0)
  where
    asked : (two : Bool) → (let out : Call = record { flow = Out; identifier = identifier; wanted = None } in let into : Call = record { flow = Into; identifier = identifier; wanted = None } in
        map heard_as (filter (went Out) (option_to_list (cond two (Some out) None) ++ [])) ≡ filter (went Into) (option_to_list (cond two (Some into) None) ++ []))
    asked true = refl
    asked false = refl

    by : (zero : Bool) → map heard_as (filter (went Out) (option_to_list (call (cond zero Quiet (Asks Out identifier (Unread code)))) ++ [])) ≡ filter (went Into) (option_to_list (call (cond zero Quiet (Asks Into identifier (Unread code)))) ++ [])
    by true = refl
    by false = asked (eqb code 2)
answer_calls (Err (UnknownCode code identifier)) = refl
answer_calls (Err (AboveMtu code identifier)) = refl

answers_calls : (list : List Answer) → map heard_as (calls_that_went Out (map (Command Out) list)) ≡ calls_that_went Into (map (Command Into) list)
answers_calls [] = refl
answers_calls (answer ∷ list) =
    ap (map heard_as) (calls-more Out (Command Out answer ∷ []) (map (Command Out) list))
    ∙ (map-append heard_as (calls_that_went Out (map (Command Out) list)) (calls_that_went Out (Command Out answer ∷ []))
    ∙ (ap₂ (λ (a b : List Call). a ++ b) (answers_calls list) (answer_calls answer) ∙ sym (calls-more Into (Command Into answer ∷ []) (map (Command Into) list))))

pdu_calls : (pdu : List ℕ) → (let gave : Pdu = record { flow = Out; octets = pdu } in map heard_as (calls_that_went Out (said_by gave)) ≡ calls_by pdu)
pdu_calls pdu = by (eqb (channel_of pdu) 0x0001)
  where
    by : (signals : Bool) → map heard_as (calls_that_went Out (cond signals (map (Command Out) (answers (drop 4 pdu))) (Carried Out pdu ∷ []))) ≡ calls_that_went Into (cond signals (map (Command Into) (answers (drop 4 pdu))) (Carried Into pdu ∷ []))
    by true = answers_calls (answers (drop 4 pdu))
    by false = refl

-- what goes the one way is not what goes the other
away_none : (flow other : Flow) → same_flow flow other ≡ false → (pdu : List ℕ) → (let it : Pdu = record { flow = other; octets = pdu } in calls_that_went flow (said_by it) ≡ [])
away_none flow other apart pdu = by (eqb (channel_of pdu) 0x0001)
  where
    all : (list : List Answer) → calls_that_went flow (map (Command other) list) ≡ []
    all [] = refl
    all (answer ∷ list) = calls-more flow (Command other answer ∷ []) (map (Command other) list) ∙ (ap (λ (l : List Call). l ++ calls_that_went flow (Command other answer ∷ [])) (all list) ∙ other-way flow other apart answer)

    by : (signals : Bool) → calls_that_went flow (cond signals (map (Command other) (answers (drop 4 pdu))) (Carried other pdu ∷ [])) ≡ []
    by true = all (answers (drop 4 pdu))
    by false = refl

-- ---- a part of talk

-- what host a said in it, and what host b heard, the latest first
abbrev taken : (Talk → List Call) → List Talk → List Call
taken of [] = []
taken of (one ∷ part) = taken of part ++ of one

abbrev moved_one : Talk → List Saying
moved_one one = flat_map said_by (pdus_in one)

heard_one : (one : Talk) → calls_that_went Into (moved_one one) ≡ heard_of one
heard_one (Told (Linked event)) = refl
heard_one (Told (Failed status)) = refl
heard_one (Told (Heard pdu)) = ap (calls_that_went Into) (append-nil (said_by (record { flow = Into; octets = pdu })))
heard_one (Told TimerFired) = refl
heard_one (Told Cancelled) = refl
heard_one (Told (Opening name)) = refl
heard_one (Said pdu) = ap (calls_that_went Into) (append-nil (said_by (record { flow = Out; octets = pdu }))) ∙ away_none Into Out refl pdu
heard_one (Unsent pdu) = ap (calls_that_went Into) (append-nil (said_by (record { flow = Out; octets = pdu }))) ∙ away_none Into Out refl pdu
heard_one (Met fate checked) = refl
heard_one (Done outcome) = refl

moved_both : (flow : Flow) (one : Talk) (part : List Talk) → calls_that_went flow (moved_in (one ∷ part)) ≡ calls_that_went flow (moved_in part) ++ calls_that_went flow (moved_one one)
moved_both flow one part = ap (calls_that_went flow) (flat_map-append said_by (pdus_in one) (flat_map pdus_in part)) ∙ calls-more flow (moved_one one) (moved_in part)

heard_part : (part : List Talk) → calls_that_went Into (moved_in part) ≡ taken heard_of part
heard_part [] = refl
heard_part (one ∷ part) = moved_both Into one part ∙ ap₂ (λ (a b : List Call). a ++ b) (heard_part part) (heard_one one)

-- all that it said, moved or not
abbrev outgoing_of : Talk → List Call
outgoing_of (Told news) = []
outgoing_of (Said pdu) = calls_by pdu
outgoing_of (Unsent pdu) = calls_by pdu
outgoing_of (Met fate checked) = []
outgoing_of (Done outcome) = []

out_one : (one : Talk) → map heard_as (calls_that_went Out (moved_one one)) ≡ outgoing_of one
out_one (Told (Linked event)) = refl
out_one (Told (Failed status)) = refl
out_one (Told (Heard pdu)) = ap (λ (s : List Saying). map heard_as (calls_that_went Out s)) (append-nil (said_by (record { flow = Into; octets = pdu }))) ∙ ap (map heard_as) (away_none Out Into refl pdu)
out_one (Told TimerFired) = refl
out_one (Told Cancelled) = refl
out_one (Told (Opening name)) = refl
out_one (Said pdu) = ap (λ (s : List Saying). map heard_as (calls_that_went Out s)) (append-nil (said_by (record { flow = Out; octets = pdu }))) ∙ pdu_calls pdu
out_one (Unsent pdu) = ap (λ (s : List Saying). map heard_as (calls_that_went Out s)) (append-nil (said_by (record { flow = Out; octets = pdu }))) ∙ pdu_calls pdu
out_one (Met fate checked) = refl
out_one (Done outcome) = refl

out_part : (part : List Talk) → map heard_as (calls_that_went Out (moved_in part)) ≡ taken outgoing_of part
out_part [] = refl
out_part (one ∷ part) =
    ap (map heard_as) (moved_both Out one part)
    ∙ (map-append heard_as (calls_that_went Out (moved_in part)) (calls_that_went Out (moved_one one)) ∙ ap₂ (λ (a b : List Call). a ++ b) (out_part part) (out_one one))

arrives_nothing : (sent : List Call) → (let none : List Call = [] in Arrives none sent)
arrives_nothing [] = refl
arrives_nothing (x ∷ sent) = (0, [], refl, arrives_nothing sent)

arrives_whole : (calls : List Call) → Arrives calls calls
arrives_whole [] = refl
arrives_whole (x ∷ calls) = (1, calls, refl, arrives_whole calls)

-- the oldest comes too, or is left out
oldest_comes : (came sent calls : List Call) → Arrives came sent → Arrives (came ++ calls) (sent ++ calls)
oldest_comes came [] calls is = subst (λ (l : List Call). Arrives (l ++ calls) calls) (sym is) (arrives_whole calls)
oldest_comes came (x ∷ sent) calls (times, rest, is, later) = (times, rest ++ calls, ap (λ (l : List Call). l ++ calls) is ∙ append_assoc (replicate times x) rest calls, oldest_comes rest sent calls later)

oldest_left : (came sent calls : List Call) → Arrives came sent → Arrives came (sent ++ calls)
oldest_left came [] calls is = subst (λ (l : List Call). Arrives l calls) (sym is) (arrives_nothing calls)
oldest_left came (x ∷ sent) calls (times, rest, is, later) = (times, rest, is, oldest_left rest sent calls later)

said_part : (part : List Talk) → Arrives (taken said_of part) (taken outgoing_of part)
said_part [] = refl
said_part (one ∷ part) = by one (said_part part)
  where
    same : (calls : List Call) → Arrives (taken said_of part) (taken outgoing_of part) → Arrives (taken said_of part ++ calls) (taken outgoing_of part ++ calls)
    same calls is = oldest_comes (taken said_of part) (taken outgoing_of part) calls is

    by : (x : Talk) → Arrives (taken said_of part) (taken outgoing_of part) → Arrives (taken said_of part ++ said_of x) (taken outgoing_of part ++ outgoing_of x)
    by (Told news) is = same [] is
    by (Said pdu) is = same (calls_by pdu) is
    by (Unsent pdu) is = subst (λ (l : List Call). Arrives l (taken outgoing_of part ++ calls_by pdu)) (sym (append-nil (taken said_of part))) (oldest_left (taken said_of part) (taken outgoing_of part) (calls_by pdu) is)
    by (Met fate checked) is = same [] is
    by (Done outcome) is = same [] is

-- of one by one all that moved is so
said_so : (T : Transport) (part : List Talk) → AreOneByOne (may_ask T) (calls_that_went Out (moved_in part)) → AreOneByOne (may_ask T) (taken said_of part)
said_so T part all = came-one_by_one T (taken said_of part) (taken outgoing_of part) (said_part part) (subst (AreOneByOne (may_ask T)) (out_part part) (as_one_by_one T (calls_that_went Out (moved_in part)) all))

-- ---- parts of talk

taken_more : (of : Talk → List Call) (part : List Talk) (one : Talk) → taken of (part ++ one ∷ []) ≡ of one ++ taken of part
taken_more of [] one = sym (append-nil (of one))
taken_more of (x ∷ part) one = ap (λ (l : List Call). l ++ of x) (taken_more of part one) ∙ append_assoc (of one) (taken of part) (of x)

apart : (n j : ℕ) → suc j ≤ n → eqb n j ≡ false
apart n j less = by (eqb n j) refl
  where
    by : (b : Bool) → eqb n j ≡ b → b ≡ false
    by false is = refl
    by true is = let same : n ≡ j = eqb-true n j is in absurd (omega (arith, same, less))

apart_over : (n j : ℕ) → suc n ≤ j → eqb n j ≡ false
apart_over n j less = by (eqb n j) refl
  where
    by : (b : Bool) → eqb n j ≡ b → b ≡ false
    by false is = refl
    by true is = let same : n ≡ j = eqb-true n j is in absurd (omega (arith, same, less))

-- nothing stands before the first turn that counts
none_below : (of : Talk → List Call) (n j : ℕ) (talk : List Talk) → suc j ≤ n → at_turn of n j talk ≡ []
none_below of n j [] less = refl
none_below of n j (one ∷ talk) less = ap₂ (λ (a b : List Call). a ++ b) (none_below of (n + turn_of one) j talk (omega (arith, less))) (ap (λ b. cond b (of one) []) (apart n j less))

abbrev upto : (Talk → List Call) → (n j : ℕ) → (part talk : List Talk) → List Call
upto of n j part talk = at_turn of n j talk ++ cond (eqb n j) (taken of part) []

module _ (Q : List Call → Type 0) (none : Q []) (of : Talk → List Call) (aside : (one : Talk) → turns_link one ≡ true → of one ≡ []) where
  here_is : (n : ℕ) (part talk : List Talk) (one : Talk) → turns_link one ≡ true → upto of n n part (one ∷ talk) ≡ taken of part
  here_is n part talk one turns =
      let same = eq-eqb n n refl in
      ap₂ (λ (a b : List Call). (a ++ b) ++ cond (eqb n n) (taken of part) [])
      (ap (λ b. at_turn of (n + cond b 1 0) n talk) turns ∙ none_below of (n + 1) n talk (omega arith)) (ap (λ b. cond b (of one) []) same ∙ aside one turns)
      ∙ ap (λ b. cond b (taken of part) []) same

  later_is : (n j : ℕ) (part talk : List Talk) (one : Talk) → turns_link one ≡ true → eqb n j ≡ false → upto of n j part (one ∷ talk) ≡ upto of (n + 1) j [] talk
  later_is n j part talk one turns away =
      ap₂ (λ (a b : List Call). (at_turn of (n + turn_of one) j talk ++ a) ++ b) (ap (λ b. cond b (of one) []) away) (ap (λ b. cond b (taken of part) []) away)
      ∙ (append-nil (at_turn of (n + turn_of one) j talk ++ [])
      ∙ (append-nil (at_turn of (n + turn_of one) j talk)
      ∙ (ap (λ b. at_turn of (n + cond b 1 0) j talk) turns ∙ (sym (append-nil (at_turn of (n + 1) j talk)) ∙ ap (λ (l : List Call). at_turn of (n + 1) j talk ++ l) (sym (either (eqb (n + 1) j)))))))
    where
      either : (b : Bool) → (let none : List Call = [] in cond b none none ≡ none)
      either true = refl
      either false = refl

  stays_is : (n j : ℕ) (part talk : List Talk) (one : Talk) → turns_link one ≡ false → upto of n j part (one ∷ talk) ≡ upto of n j (part ++ one ∷ []) talk
  stays_is n j part talk one stays =
      ap (λ b. (at_turn of (n + cond b 1 0) j talk ++ cond (eqb n j) (of one) []) ++ cond (eqb n j) (taken of part) []) stays
      ∙ (ap (λ m. (at_turn of m j talk ++ cond (eqb n j) (of one) []) ++ cond (eqb n j) (taken of part) []) (let same : n + 0 ≡ n = omega arith in same)
      ∙ (append_assoc (at_turn of n j talk) (cond (eqb n j) (of one) []) (cond (eqb n j) (taken of part) [])
      ∙ ap (λ (l : List Call). at_turn of n j talk ++ l) (by (eqb n j) ∙ ap (λ (l : List Call). cond (eqb n j) l []) (sym (taken_more of part one)))))
    where
      by : (b : Bool) → cond b (of one) [] ++ cond b (taken of part) [] ≡ cond b (of one ++ taken of part) []
      by true = refl
      by false = refl

  -- behind each turn, so each part
  all_parts : (n : ℕ) (part talk : List Talk) → ((j : ℕ) → Q (upto of n j part talk)) → AllByRecursion (λ (p : List Talk). Q (taken of p)) (parts_from part talk)
  all_parts n part [] each = (subst Q (ap (λ b. cond b (taken of part) []) (eq-eqb n n refl)) (each n), tt)
  all_parts n part (one ∷ talk) each = by (turns_link one) refl (λ m p given. all_parts m p talk given)
    where
      tail : turns_link one ≡ true → (j : ℕ) → Q (upto of (n + 1) j [] talk)
      tail turns j = at (nat_lt n j) refl
        where
          at : (b : Bool) → nat_lt n j ≡ b → Q (upto of (n + 1) j [] talk)
          at true less = subst Q (later_is n j part talk one turns (apart_over n j (ltb-true n j less))) (each j)
          at false less =
              let low : j ≤ n = ltb-false n j less in
              let empty : upto of (n + 1) j [] talk ≡ [] = ap₂ (λ (a b : List Call). a ++ b) (none_below of (n + 1) j talk (omega (arith, low))) (ap (λ b. let nothing : List Call = [] in cond b nothing nothing) (apart (n + 1) j (omega (arith, low)))) in
              subst Q (sym empty) none

      by : (b : Bool) → turns_link one ≡ b → ((m : ℕ) (p : List Talk) → ((j : ℕ) → Q (upto of m j p talk)) → AllByRecursion (λ (q : List Talk). Q (taken of q)) (parts_from p talk))
          → AllByRecursion (λ (p : List Talk). Q (taken of p)) (cond b (part ∷ parts_from [] talk) (parts_from (part ++ one ∷ []) talk))
      by true turns later = (subst Q (here_is n part talk one turns) (each n), later (n + 1) [] (tail turns))
      by false stays later = later n (part ++ one ∷ []) (λ j. subst Q (stays_is n j part talk one stays) (each j))

  each_part : (n : ℕ) (part talk : List Talk) → AllByRecursion (λ (p : List Talk). Q (taken of p)) (parts_from part talk) → (j : ℕ) → Q (upto of n j part talk)
  each_part n part [] all j = by (eqb n j)
    where
      by : (b : Bool) → Q (cond b (taken of part) [])
      by true = all.0
      by false = none
  each_part n part (one ∷ talk) all j = by (turns_link one) refl all (λ m p given. each_part m p talk given j)
    where
      at : turns_link one ≡ true → Q (taken of part) → Q (upto of (n + 1) j [] talk) → (b : Bool) → eqb n j ≡ b → Q (upto of n j part (one ∷ talk))
      at turns here later true same = subst (λ k. Q (upto of n k part (one ∷ talk))) (eqb-true n j same) (subst Q (sym (here_is n part talk one turns)) here)
      at turns here later false away = subst Q (sym (later_is n j part talk one turns away)) later

      by : (b : Bool) → turns_link one ≡ b → AllByRecursion (λ (p : List Talk). Q (taken of p)) (cond b (part ∷ parts_from [] talk) (parts_from (part ++ one ∷ []) talk))
          → ((m : ℕ) (p : List Talk) → AllByRecursion (λ (q : List Talk). Q (taken of q)) (parts_from p talk) → Q (upto of m j p talk)) → Q (upto of n j part (one ∷ talk))
      by true turns all later = at turns all.0 (later (n + 1) [] all.1) (eqb n j) refl
      by false stays all later = subst Q (sym (stays_is n j part talk one stays)) (later n (part ++ one ∷ []) all)

-- ---- both hosts of a run

said_aside : (one : Talk) → turns_link one ≡ true → said_of one ≡ []
said_aside (Told news) is = refl
said_aside (Said pdu) is = cc
said_aside (Unsent pdu) is = refl
said_aside (Met fate checked) is = refl
said_aside (Done outcome) is = refl

heard_aside : (one : Talk) → turns_link one ≡ true → heard_of one ≡ []
heard_aside (Told (Linked event)) is = refl
heard_aside (Told (Failed status)) is = cc
heard_aside (Told (Heard pdu)) is = cc
heard_aside (Told TimerFired) is = cc
heard_aside (Told Cancelled) is = cc
heard_aside (Told (Opening name)) is = cc
heard_aside (Said pdu) is = cc
heard_aside (Unsent pdu) is = cc
heard_aside (Met fate checked) is = cc
heard_aside (Done outcome) is = cc

each_said : (T : Transport) (talk : List Talk) → AsksOnce T talk → (j : ℕ) → AreOneByOne (may_ask T) (said_at j talk)
each_said T talk all j =
    subst (AreOneByOne (may_ask T)) (ap (λ (l : List Call). at_turn said_of 0 j talk ++ l) (either (eqb 0 j)) ∙ append-nil (at_turn said_of 0 j talk))
    (each_part (AreOneByOne (may_ask T)) tt said_of said_aside 0 [] talk (all_said (parts talk) all) j)
  where
    either : (b : Bool) → (let nothing : List Call = [] in cond b nothing nothing ≡ nothing)
    either true = refl
    either false = refl

    all_said : (list : List (List Talk)) → AllByRecursion (λ (part : List Talk). AreOneByOne (may_ask T) (calls_that_went Out (moved_in part))) list → AllByRecursion (λ (part : List Talk). AreOneByOne (may_ask T) (taken said_of part)) list
    all_said [] all = tt
    all_said (part ∷ list) all = (said_so T part all.0, all_said list all.1)

all_sought : (T : Transport) (talk : List Talk) → ((j : ℕ) → AreOneByOne (may_ask T) (at_turn heard_of 0 j talk)) → AllByRecursion (λ (part : List Talk). AsksForOneObject T (moved_in part)) (parts talk)
all_sought T talk each = all_heard (parts talk) (all_parts (AreOneByOne (may_ask T)) tt heard_of heard_aside 0 [] talk (λ j. subst (AreOneByOne (may_ask T)) (sym (ap (λ (l : List Call). at_turn heard_of 0 j talk ++ l) (either (eqb 0 j)) ∙ append-nil (at_turn heard_of 0 j talk))) (each j)))
  where
    either : (b : Bool) → (let nothing : List Call = [] in cond b nothing nothing ≡ nothing)
    either true = refl
    either false = refl

    all_heard : (list : List (List Talk)) → AllByRecursion (λ (part : List Talk). AreOneByOne (may_ask T) (taken heard_of part)) list → AllByRecursion (λ (part : List Talk). AsksForOneObject T (moved_in part)) list
    all_heard [] all = tt
    all_heard (part ∷ list) all = (subst (AreOneByOne (may_ask T)) (sym (heard_part part)) all.0, all_heard list all.1)

unsent_silent : (of : Talk → List Call) → ((pdu : List ℕ) → of (Unsent pdu) ≡ []) → (waiting : List (List ℕ)) → AllByRecursion (λ (one : Talk). of one ≡ []) (map Unsent waiting)
unsent_silent of none [] = tt
unsent_silent of none (pdu ∷ waiting) = (none pdu, unsent_silent of none waiting)

-- ---- parts of talk and links of the capture

part_asked : (part : List Talk) (link : List Pdu) (unsent : List (List ℕ)) → flat_map pdus_in part ≡ link ++ map out_of unsent → calls_that_went Into (moved_in part) ≡ calls_that_went Into (flat_map said_by link)
part_asked part link unsent moved =
    let more = flat_map said_by (map out_of unsent) in
    ap (λ (l : List Pdu). calls_that_went Into (flat_map said_by l)) moved
    ∙ (ap (calls_that_went Into) (flat_map-append said_by link (map out_of unsent))
    ∙ (calls-more Into (flat_map said_by link) more ∙ ap (λ (l : List Call). l ++ calls_that_went Into (flat_map said_by link)) (out-calls more (all-out unsent))))

-- what all links have
abbrev AllAsk : Transport → List (List Pdu) → Type 0
AllAsk T links = AllByRecursion (λ (link : List Pdu). AsksForOneObject T (flat_map said_by link)) links

links_asked : (T : Transport) (ps : List (List Talk)) (links : List (List Pdu)) → FallTo ps links → AllByRecursion (λ (part : List Talk). AsksForOneObject T (moved_in part)) ps → AllAsk T links
links_asked T [] links none all = subst (AllAsk T) (sym none) tt
links_asked T (part ∷ ps) links fall all =
    elim fall [
      | inl (silent, more) ↦ links_asked T ps links more all.1
      | inr (link, rest, unsent, is, moved, more) ↦ subst (AllAsk T) (sym is) (subst (AreOneByOne (may_ask T)) (part_asked part link unsent moved) all.0, links_asked T ps rest more all.1)
    ]

pub parts_asked : (T : Transport) (ps : List (List Talk)) (links : List (List Pdu)) → FallTo ps links → AllAsk T links → AllByRecursion (λ (part : List Talk). AsksForOneObject T (moved_in part)) ps
parts_asked T [] links none all = tt
parts_asked T (part ∷ ps) links fall all =
    elim fall [
      | inl (silent, more) ↦ (subst (λ (l : List Pdu). AsksForOneObject T (flat_map said_by l)) (sym silent) tt, parts_asked T ps links more all)
      | inr (link, rest, unsent, is, moved, more) ↦
          let both : AllAsk T (link ∷ rest) = subst (AllAsk T) is all in
          (subst (AreOneByOne (may_ask T)) (sym (part_asked part link unsent moved)) both.0, parts_asked T ps rest more both.1)
    ]

talks_asked : (T : Transport) (list : List Link) → AllAsk T (map pdus list) → AllByRecursion (AsksForOneObject T) (map talk list)
talks_asked T [] all = tt
talks_asked T (link ∷ list) all = (all.0, talks_asked T list all.1)

pub asked_talks : (T : Transport) (list : List Link) → AllByRecursion (AsksForOneObject T) (map talk list) → AllAsk T (map pdus list)
asked_talks T [] all = tt
asked_talks T (link ∷ list) all = (all.0, asked_talks T list all.1)

-- what host a said by then, and what of it host b heard
said_once : (T : Transport) (talk : List Talk) (waiting : List (List ℕ)) → AsksOnce T (talk ++ map Unsent waiting) → (j : ℕ) → AreOneByOne (may_ask T) (said_at j talk)
said_once T talk waiting once j = subst (AreOneByOne (may_ask T)) (all-still said_of j talk (map Unsent waiting) (unsent_silent said_of (λ pdu. refl) waiting)) (each_said T (talk ++ map Unsent waiting) once j)

heard_once : (T : Transport) (talk : List Talk) (waiting coming : List (List ℕ)) → ((j : ℕ) → AreOneByOne (may_ask T) (heard_at j talk coming)) → (j : ℕ) → AreOneByOne (may_ask T) (at_turn heard_of 0 j (talk ++ map Unsent waiting))
heard_once T talk waiting coming heard j =
    subst (AreOneByOne (may_ask T)) (sym (all-still heard_of j talk (map Unsent waiting) (unsent_silent heard_of (λ pdu. refl) waiting)))
    (tail-single (may_ask T) (cond (eqb (turns talk) j) (queue_calls coming) []) (at_turn heard_of 0 j talk) (heard j))

pub clients-ask_once : ClientsAskOnce
clients-ask_once scenario content capture ran came free =
    asked_once scenario.settings came.talk ran.world.a.upper came.over ((hosts_are_gentle scenario content capture ran).a came free)

pub servers-are_asked_once : ServersAreAskedOnce
servers-are_asked_once scenario content capture ran =
    let T = scenario.settings.transport in
    let client = client_profile scenario.settings in
    let server = server_profile scenario.settings content in
    let U = client_of scenario in
    let V = server_of scenario content in
    let W = free_where client in
    let X = free_where server in
    let past = all_entries ran.happenings in
    let all = carried_so U V (AreReady U V W X) scenario.acl_length scenario.acl_count scenario.names ran.happenings ran.world (fits scenario content) ran.happened (rests_hold scenario content ran.happenings (runs_are_free scenario content ran.happenings)) in
    let acted = (both_acted U V W X scenario.acl_length scenario.names all.doings _ all.so).0 in
    let same : (side : Side) → linking (moves side capture) ≡ linking (moves side past) = λ side. ap (λ (es : List Entry). linking (moves side es)) ran.capture_is ∙ ended_all side ran.world.pushes past ran.ends ran.last in
    let one = host-tames client IsLowClient (client-keeps scenario.settings) in
    let other = host-tames server AnyServer (server-keeps scenario.settings content) in
    let a : CameOverSo client W sides.A capture ran.world.a.upper = came_over client W sides.A past capture _ ran.world.a.upper _ all.talk_a acted.a.acted all.links_a (same sides.A) in
    let b : CameOverSo server X sides.B capture ran.world.b.upper = came_over server X sides.B past capture _ ran.world.b.upper _ all.talk_b acted.b.acted all.links_b (same sides.B) in
    let ends = at ran.world all.talk_a all.talk_b in
    let once = subst (AsksOnce T) (came_over-talk client W sides.A past capture _ ran.world.a.upper _ all.talk_a acted.a.acted all.links_a (same sides.A))
    (clients-ask_once scenario content capture ran a.came (free_acts client a.came.over.acts false (first_host client) a.so)) in
    let reached = all-reach U V (FitHost (IsProper (policy scenario.settings false)) IsLowClient) (FitHost (IsProper (policy scenario.settings true)) AnyServer) one other scenario.acl_length scenario.names all.doings _ all.of_script all.carries in
    let heard = heard_once T all.talk_b ends.b.waiting ends.b.coming (λ j. came-one_by_one T (heard_at j all.talk_b ends.b.coming) (said_at j all.talk_a) (reached j) (said_once T all.talk_a ends.a.waiting once j)) in
    let sought = subst (λ (t : List Talk). AllByRecursion (λ (part : List Talk). AsksForOneObject T (moved_in part)) (parts t)) (sym (came_over-talk server X sides.B past capture _ ran.world.b.upper _ all.talk_b acted.b.acted all.links_b (same sides.B)))
    (all_sought T (all.talk_b ++ map Unsent ends.b.waiting) heard) in
    talks_asked T (links sides.B capture) (links_asked T (parts b.came.talk) (map pdus (links sides.B capture)) b.came.fall sought)

-- so it is in each part of what host b was told and said
pub parts-are_asked : (scenario : Scenario) (content : Option Contents) (capture : List Entry) (ran : Ran scenario content capture) (ps : List (List Talk)) → FallTo ps (map pdus (links sides.B capture))
    → AllByRecursion (λ (part : List Talk). AsksForOneObject scenario.settings.transport (moved_in part)) ps
parts-are_asked scenario content capture ran ps fall =
    let T = scenario.settings.transport in parts_asked T ps (map pdus (links sides.B capture)) fall (asked_talks T (links sides.B capture) (servers-are_asked_once scenario content capture ran))

-- ---- host b serves in order

pub serves-in_order : (scenario : Scenario) (before : List Object) (capture : List Entry) (ran : Ran scenario (holding before) capture) → scenario.settings.transport ≡ L2cap
    → ServesSo hosts_ask scenario.settings before capture ran.world.b.upper → OrderlyServer hosts_ask scenario.settings before capture ran.world.b.upper
serves-in_order scenario before capture ran direct serves =
    let sought = subst (λ T. AllByRecursion (λ (part : List Talk). AsksForOneObject T (moved_in part)) (parts serves.came.talk)) direct (parts-are_asked scenario (holding before) capture ran (parts serves.came.talk) serves.came.fall) in
    let order = servers-are_served_in_order scenario.settings (holding before) (asked_by hosts_ask scenario.settings before) serves.came.talk ran.world.b.upper serves.so (asks-nothing scenario.settings (holding before)) sought serves.whole in
    record {
      came = serves.came;
      so = serves.so;
      comes = serves.comes;
      direct = order.direct;
      carried = order.carried;
      carries = order.carries;
      granted = order.granted;
    }

pub servers-are_orderly : ServersAreOrderly
servers-are_orderly = record { asks = hosts_ask; orderly = serves-in_order }

pub hosts-live_over_links : HostsLiveOverLinks
hosts-live_over_links asks scenario content capture ran =
    let gentle = hosts_are_gentle scenario content capture ran in
    record {
      a = λ came free. hosts_talk_over_links (client_profile scenario.settings) (asks.clients scenario.settings) came.talk ran.world.a.upper came.over (gentle.a came free);
      b = λ came free. hosts_talk_over_links (server_profile scenario.settings content) (asks.servers scenario.settings content) came.talk ran.world.b.upper came.over (gentle.b came free);
    }
