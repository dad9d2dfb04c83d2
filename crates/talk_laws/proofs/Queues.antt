-- Which requests wait, looking back.
use Rattle.std.proofs.Common.{◌≡◌, ℕ, List, [], ◌∷◌, ◌++◌, length, drop, fold, Bool, true, false, cond, Some, None, ◌⊎◌, inl, inr, refl, sym, ap, subst, ◌∙◌, append-nil}
use Rattle.std.specs.List.{cons_option}
use Rattle.std.proofs.lemmas.List.Elements.{filter_map-append}
use Rattle.std.proofs.lemmas.List.Sums.{fold-append}
use Rattle.link_talk.specs.capture.specs.declared.flow.Flow.{Flow}
use Rattle.link_talk.specs.capture.specs.declared.flow.Flow.TheVariants.{Out, Into}
use Rattle.link_talk.specs.capture.specs.Histories.{each_after}
use Rattle.link_talk.specs.capture.specs.Pdus.{same_flow}
use Rattle.link_talk.specs.Sdus.{Spoken, spoken_way, spoken_one_way}
use Rattle.link_talk.specs.Exchanges.{Pending, Exchange, with_request, without_first, answered_first, pending_after}
use Rattle.talk_laws.specs.Exchanges.{pending, answered_behind}
use Rattle.talk_laws.specs.Queues.{response_of, responses_in, requests_in, left_in, is_none, busy_with, busy, pending_back, answered_back, QueuesLookBack}
use Rattle.talk_laws.proofs.Passes.{from_end}
use Rattle.talk_laws.proofs.Exchanges.{exchanges-answered}

-- ---- without the first, once for each response

abbrev less : List (List ℕ) → List Pending → List Pending
less [] waiting = waiting
less (response ∷ responses) waiting = less responses (without_first waiting)

less_none : (responses : List (List ℕ)) → less responses [] ≡ []
less_none [] = refl
less_none (response ∷ responses) = less_none responses

less_drop : (responses : List (List ℕ)) (waiting : List Pending) → less responses waiting ≡ drop (length responses) waiting
less_drop [] waiting = refl
less_drop (response ∷ responses) [] = less_none responses
less_drop (response ∷ responses) (one ∷ waiting) = less_drop responses waiting

less_more : (responses : List (List ℕ)) (response : List ℕ) (waiting : List Pending) → less (responses ++ response ∷ []) waiting ≡ without_first (less responses waiting)
less_more [] response waiting = refl
less_more (first ∷ responses) response waiting = less_more responses response (without_first waiting)

none_left : {A : Type 0} (responses : List (List ℕ)) → is_none (less responses []) ≡ false → A
none_left responses some = absurd_by (sym (ap is_none (less_none responses)) ∙ some)
  where
    absurd_by : {B : Type 0} → true ≡ false → B
    absurd_by is = cc

-- a request comes behind those that wait
less_request : (responses : List (List ℕ)) (waiting : List Pending) (packet : List ℕ) → is_none (less responses waiting) ≡ false → with_request (less responses waiting) packet ≡ less responses (with_request waiting packet)
less_request [] waiting packet some = refl
less_request (response ∷ responses) [] packet some = none_left responses some
less_request (response ∷ responses) (one ∷ []) packet some = none_left responses some
less_request (response ∷ responses) (one ∷ next ∷ waiting) packet some = less_request responses (next ∷ waiting) packet some

-- ---- a packet more

abbrev left_by : Flow → List Spoken → List Pending
left_by requests packets = less (responses_in requests packets) (requests_in requests packets)

left_same : (requests : Flow) (packets : List Spoken) → left_by requests packets ≡ left_in requests packets
left_same requests packets = less_drop (responses_in requests packets) (requests_in requests packets)

-- by whether it goes the way of the requests
way_is : (requests way : Flow) (octets : List ℕ) → let one : Spoken = record { flow = way; octets = octets } in spoken_way requests one ≡ cond (same_flow requests way) (Some octets) None
way_is Out Out octets = refl
way_is Out Into octets = refl
way_is Into Out octets = refl
way_is Into Into octets = refl

abbrev with_packet : Bool → List (List ℕ) → List Pending → List ℕ → List Pending
with_packet asks responses waiting octets = cond asks (with_request (less responses waiting) octets) (without_first (less responses waiting))

by_way : (asks : Bool) (responses : List (List ℕ)) (packets : List (List ℕ)) (octets : List ℕ) → (is_none (less responses (fold with_request [] packets)) ≡ false) ⊎ ((responses ≡ []) × (packets ≡ []))
    → with_packet asks responses (fold with_request [] packets) octets
    ≡ less (responses ++ cons_option (cond asks None (Some octets)) []) (fold with_request [] (packets ++ cons_option (cond asks (Some octets) None) []))
by_way true responses packets octets (inl some) =
    less_request responses (fold with_request [] packets) octets some
    ∙ (ap (less responses) (sym (fold-append with_request [] packets (octets ∷ [])))
    ∙ ap (λ rs. less rs (fold with_request [] (packets ++ octets ∷ []))) (sym (append-nil responses)))
by_way true responses packets octets (inr (none, nothing)) =
    ap (λ rs. with_request (less rs (fold with_request [] packets)) octets) none
    ∙ (sym (fold-append with_request [] packets (octets ∷ []))
    ∙ ap (λ rs. less rs (fold with_request [] (packets ++ octets ∷ []))) (sym (append-nil responses ∙ none)))
by_way false responses packets octets either =
    sym (less_more responses octets (fold with_request [] packets))
    ∙ ap (λ ps. less (responses ++ octets ∷ []) (fold with_request [] ps)) (sym (append-nil packets))

-- since none waited last, something waits, or nothing was said
abbrev IsBusy : Flow → List Spoken → Type 0
IsBusy requests packets = (is_none (left_in requests packets) ≡ false) ⊎ (packets ≡ [])

left_more : (requests : Flow) (packets : List Spoken) (more : Spoken) → IsBusy requests packets → pending_after requests (left_in requests packets) more ≡ left_in requests (packets ++ more ∷ [])
left_more requests packets more is_busy =
    let responses = responses_in requests packets in
    let asked = spoken_one_way requests packets in
    let asks = same_flow requests more.flow in
    ap (λ waiting. pending_after requests waiting more) (sym (left_same requests packets))
    ∙ (by_way asks responses asked more.octets (by_parts is_busy)
    ∙ (ap (λ rs. less rs (fold with_request [] (asked ++ cons_option (cond asks (Some more.octets) None) []))) (sym (filter_map-append (response_of requests) packets (more ∷ [])))
    ∙ (ap (λ found. less (responses_in requests (packets ++ more ∷ [])) (fold with_request [] (asked ++ cons_option found []))) (sym (way_is requests more.flow more.octets))
    ∙ (ap (λ ps. less (responses_in requests (packets ++ more ∷ [])) (fold with_request [] ps)) (sym (filter_map-append (spoken_way requests) packets (more ∷ [])))
    ∙ left_same requests (packets ++ more ∷ [])))))
  where
    by_parts : IsBusy requests packets → (is_none (less (responses_in requests packets) (fold with_request [] (spoken_one_way requests packets))) ≡ false) ⊎ ((responses_in requests packets ≡ []) × (spoken_one_way requests packets ≡ []))
    by_parts (inl some) = inl (ap is_none (left_same requests packets) ∙ some)
    by_parts (inr nothing) = inr (ap (responses_in requests) nothing, ap (spoken_one_way requests) nothing)

-- ---- all packets

pub record Waits (requests : Flow) (past : List Spoken) : Type 0 where
  pub waiting : pending requests past ≡ pending_back requests past
  pub is_busy : IsBusy requests (busy requests past)

none_is : (waiting : List Pending) → is_none waiting ≡ true → waiting ≡ []
none_is [] is = refl
none_is (one ∷ others) is = cc

rests_by : (requests : Flow) (now : List Spoken) (rests : Bool) → is_none (left_in requests now) ≡ rests → left_in requests now ≡ left_in requests (cond rests [] now)
rests_by requests now true is = none_is (left_in requests now) is
rests_by requests now false is = refl

busy_by : (requests : Flow) (now : List Spoken) (rests : Bool) → is_none (left_in requests now) ≡ rests → IsBusy requests (cond rests [] now)
busy_by requests now true is = inr refl
busy_by requests now false is = inl is

waits_more : (requests : Flow) (past : List Spoken) (more : Spoken) → Waits requests past → Waits requests (past ++ more ∷ [])
waits_more requests past more held =
    let now = busy requests past ++ more ∷ [] in
    let goes_on = fold-append (busy_with requests) [] past (more ∷ []) in
    record {
      waiting =
          fold-append (pending_after requests) [] past (more ∷ [])
          ∙ (ap (λ waiting. pending_after requests waiting more) held.waiting
          ∙ (left_more requests (busy requests past) more held.is_busy
          ∙ (rests_by requests now (is_none (left_in requests now)) refl ∙ ap (left_in requests) (sym goes_on))));
      is_busy = subst (IsBusy requests) (sym goes_on) (busy_by requests now (is_none (left_in requests now)) refl);
    }

waits : (requests : Flow) (past : List Spoken) → Waits requests past
waits requests past = from_end (Waits requests) (record { waiting = refl; is_busy = inr refl }) (waits_more requests) past

each_same : (requests : Flow) (past rest : List Spoken) → each_after (answered_behind requests) past rest ≡ each_after (answered_back requests) past rest
each_same requests past [] = refl
each_same requests past (more ∷ rest) =
    ap (λ waiting. let now : List Exchange = cond (same_flow requests more.flow) [] (answered_first more.octets waiting) in now ++ each_after (answered_behind requests) (past ++ more ∷ []) rest) (waits requests past).waiting
    ∙ ap (λ later. answered_back requests past more ++ later) (each_same requests (past ++ more ∷ []) rest)

pub queues-look_back : QueuesLookBack
queues-look_back = record {
  waiting = λ requests packets. (waits requests packets).waiting;
  answered = λ requests packets. exchanges-answered requests packets ∙ each_same requests [] packets;
}
