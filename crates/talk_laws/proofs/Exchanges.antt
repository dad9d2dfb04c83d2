-- Requests and responses, looking back and in one pass.
use Rattle.std.proofs.Common.{◌≡◌, ℕ, ◌+◌, List, [], ◌∷◌, ◌++◌, map, Bool, true, false, cond, ◌||◌, ◌&&◌, Some, None, refl, sym, ap, ◌∙◌, append_assoc, append-nil, arith}
use Rattle.std.specs.List.{flat_map, list_any, cons_option, count_by}
use Rattle.std.proofs.lemmas.List.{map-append}
use Rattle.std.proofs.lemmas.List.Elements.{filter_map-append}
use Rattle.std.proofs.lemmas.List.Folds.{list_any-append}
use Rattle.std.proofs.lemmas.List.Sums.{fold-append, sum_by-append}
use Rattle.std.proofs.lemmas.Grind.{flat_map-append}
use Rattle.link_talk.specs.capture.specs.declared.flow.Flow.{Flow}
use Rattle.link_talk.specs.capture.specs.Histories.{each_after, given_by}
use Rattle.link_talk.specs.capture.specs.Pdus.{same_flow}
use Rattle.link_talk.specs.capture.proofs.HistoryLaws.{given_by-more}
use Rattle.link_talk.specs.Sdus.{Spoken, spoken_way, spoken_one_way}
use Rattle.link_talk.specs.Exchanges.{Pending, fresh, is_abort, joins, with_request, Exchange, without_first, answered_first, pending_after, exchanges_from, exchanges}
use Rattle.talk_laws.specs.Exchanges.{pending, answered_behind, packets_of, requests_made, last_waiting, displaced_behind, displaced, ExchangesLookBack, ExchangesGrow}
use Rattle.talk_laws.proofs.Passes.{from_end}

-- ---- looking back

pub pending-more : (requests : Flow) (past : List Spoken) (more : Spoken) → pending requests (past ++ more ∷ []) ≡ pending_after requests (pending requests past) more
pending-more requests past more = fold-append (pending_after requests) [] past (more ∷ [])

answered_all : (requests : Flow) (past packets : List Spoken) → exchanges_from requests (pending requests past) packets ≡ each_after (answered_behind requests) past packets
answered_all requests past [] = refl
answered_all requests past (more ∷ packets) =
    ap (λ waiting. answered_behind requests past more ++ exchanges_from requests waiting packets) (sym (pending-more requests past more))
    ∙ ap (λ found. answered_behind requests past more ++ found) (answered_all requests (past ++ more ∷ []) packets)

pub exchanges-answered : (requests : Flow) (packets : List Spoken) → exchanges requests packets ≡ given_by (answered_behind requests) packets
exchanges-answered requests packets = answered_all requests [] packets

pub exchanges-more : (requests : Flow) (packets : List Spoken) (more : Spoken) → exchanges requests (packets ++ more ∷ []) ≡ exchanges requests packets ++ answered_behind requests packets more
exchanges-more requests packets more =
    exchanges-answered requests (packets ++ more ∷ [])
    ∙ (given_by-more (answered_behind requests) packets more ∙ ap (λ found. found ++ answered_behind requests packets more) (sym (exchanges-answered requests packets)))

-- ---- each packet stands in one request

abbrev all_packets : List Pending → List (List ℕ)
all_packets waiting = flat_map packets_of waiting

last_by : (waits : Pending) (packet : List ℕ) (goes_on : Bool) → is_abort packet ≡ false
    → all_packets (cond (is_abort packet) (fresh packet ∷ []) (cond goes_on (record { first = waits.first; behind = waits.behind ++ packet ∷ [] } ∷ []) (waits ∷ fresh packet ∷ []))) ≡ all_packets (waits ∷ []) ++ packet ∷ []
last_by waits packet goes_on none = ap (λ b. all_packets (cond b (fresh packet ∷ []) (cond goes_on (record { first = waits.first; behind = waits.behind ++ packet ∷ [] } ∷ []) (waits ∷ fresh packet ∷ [])))) none ∙ by_test goes_on
  where
    by_test : (b : Bool) → all_packets (cond b (record { first = waits.first; behind = waits.behind ++ packet ∷ [] } ∷ []) (waits ∷ fresh packet ∷ [])) ≡ all_packets (waits ∷ []) ++ packet ∷ []
    by_test true = append-nil (waits.first ∷ (waits.behind ++ packet ∷ [])) ∙ ap (λ ps. (waits.first ∷ ps) ++ packet ∷ []) (sym (append-nil waits.behind))
    by_test false = ap (λ ps. (waits.first ∷ ps) ++ packet ∷ []) (sym (append-nil waits.behind))

packets_more : (waiting : List Pending) (packet : List ℕ) → is_abort packet ≡ false → all_packets (with_request waiting packet) ≡ all_packets waiting ++ packet ∷ []
packets_more [] packet none = refl
packets_more (waits ∷ []) packet none = last_by waits packet (joins waits packet) none
packets_more (waits ∷ next ∷ others) packet none =
    ap (λ ps. packets_of waits ++ ps) (packets_more (next ∷ others) packet none) ∙ sym (append_assoc (packets_of waits) (all_packets (next ∷ others)) (packet ∷ []))

first_goes : (answered : List Exchange) (response : List ℕ) (waiting : List Pending)
    → map (λ (one : Exchange). one.request) (answered ++ answered_first response waiting) ++ without_first waiting ≡ map (λ (one : Exchange). one.request) answered ++ waiting
first_goes answered response [] = ap (λ es. map (λ (one : Exchange). one.request) es ++ []) (append-nil answered)
first_goes answered response (waits ∷ others) =
    ap (λ ps. ps ++ others) (map-append (λ (one : Exchange). one.request) answered (record { request = waits; response = response } ∷ []))
    ∙ append_assoc (map (λ (one : Exchange). one.request) answered) (waits ∷ []) others

way_more : (requests : Flow) (past : List Spoken) (more : Spoken) → spoken_one_way requests (past ++ more ∷ []) ≡ spoken_one_way requests past ++ cons_option (spoken_way requests more) []
way_more requests past more = filter_map-append (spoken_way requests) past (more ∷ [])

either_false : (a b : Bool) → (a || (b || false)) ≡ false → (a ≡ false) × (b ≡ false)
either_false true b is = cc
either_false false true is = cc
either_false false false is = (refl, refl)

abbrev Complete : Flow → List Spoken → Type 0
Complete requests packets = list_any is_abort (spoken_one_way requests packets) ≡ false → all_packets (requests_made requests packets) ≡ spoken_one_way requests packets

-- what is made, with the exchanges and the requests that wait
abbrev made_with : List Exchange → List Pending → List (List ℕ)
made_with answered waiting = all_packets (map (λ (one : Exchange). one.request) answered ++ waiting)

complete_by : (requests : Flow) (past : List Spoken) (more : Spoken) (same : Bool) → same_flow requests more.flow ≡ same → Complete requests past
    → list_any is_abort (spoken_one_way requests past ++ cons_option (cond same (Some more.octets) None) []) ≡ false
    → made_with (exchanges requests past ++ cond same [] (answered_first more.octets (pending requests past))) (cond same (with_request (pending requests past) more.octets) (without_first (pending requests past)))
    ≡ spoken_one_way requests past ++ cons_option (cond same (Some more.octets) None) []
complete_by requests past more true is held none =
    let apart = either_false (list_any is_abort (spoken_one_way requests past)) (is_abort more.octets) (sym (list_any-append is_abort (spoken_one_way requests past) (more.octets ∷ [])) ∙ none) in
    let answered = map (λ (one : Exchange). one.request) (exchanges requests past) in
    ap (λ es. made_with es (with_request (pending requests past) more.octets)) (append-nil (exchanges requests past))
    ∙ (flat_map-append packets_of answered (with_request (pending requests past) more.octets)
    ∙ (ap (λ ps. all_packets answered ++ ps) (packets_more (pending requests past) more.octets apart.1)
    ∙ (sym (append_assoc (all_packets answered) (all_packets (pending requests past)) (more.octets ∷ []))
    ∙ ap (λ ps. ps ++ more.octets ∷ []) (sym (flat_map-append packets_of answered (pending requests past)) ∙ held apart.0))))
complete_by requests past more false is held none =
    ap all_packets (first_goes (exchanges requests past) more.octets (pending requests past))
    ∙ (held (ap (list_any is_abort) (sym (append-nil (spoken_one_way requests past))) ∙ none) ∙ sym (append-nil (spoken_one_way requests past)))

complete_more : (requests : Flow) (past : List Spoken) (more : Spoken) → Complete requests past → Complete requests (past ++ more ∷ [])
complete_more requests past more held none =
    ap (λ es. made_with es (pending requests (past ++ more ∷ []))) (exchanges-more requests past more)
    ∙ (ap (λ ps. made_with (exchanges requests past ++ answered_behind requests past more) ps) (pending-more requests past more)
    ∙ (complete_by requests past more (same_flow requests more.flow) refl held (ap (list_any is_abort) (sym (way_more requests past more)) ∙ none)
    ∙ sym (way_more requests past more)))

-- ---- with ABORTs

abbrev counted : (List ℕ → Bool) → List (List ℕ) → ℕ
counted passes packets = count_by passes packets

counted_both : (passes : List ℕ → Bool) (xs ys : List (List ℕ)) → counted passes (xs ++ ys) ≡ counted passes xs + counted passes ys
counted_both passes xs ys = sum_by-append (λ x. cond (passes x) 1 0) xs ys

abbrev weight : (List ℕ → Bool) → List Pending → ℕ
weight passes waiting = counted passes (all_packets waiting)

weight_both : (passes : List ℕ → Bool) (xs ys : List Pending) → weight passes (xs ++ ys) ≡ weight passes xs + weight passes ys
weight_both passes xs ys = ap (counted passes) (flat_map-append packets_of xs ys) ∙ counted_both passes (all_packets xs) (all_packets ys)

-- an ABORT comes, and the last request goes
aborted_more : (passes : List ℕ → Bool) (waiting : List Pending) (packet : List ℕ) → is_abort packet ≡ true
    → weight passes (with_request waiting packet) + weight passes (last_waiting waiting) ≡ weight passes waiting + counted passes (packet ∷ [])
aborted_more passes [] packet is = omega arith
aborted_more passes (waits ∷ []) packet is =
    ap (λ b. weight passes (cond b (fresh packet ∷ []) (cond (joins waits packet) (record { first = waits.first; behind = waits.behind ++ packet ∷ [] } ∷ []) (waits ∷ fresh packet ∷ []))) + weight passes (waits ∷ [])) is
    ∙ omega arith
aborted_more passes (waits ∷ next ∷ others) packet is =
    let rest = aborted_more passes (next ∷ others) packet is in
    let left = counted_both passes (packets_of waits) (all_packets (with_request (next ∷ others) packet)) in
    let right = counted_both passes (packets_of waits) (all_packets (next ∷ others)) in
    omega (arith, rest, left, right)

request_more : (passes : List ℕ → Bool) (waiting : List Pending) (packet : List ℕ) (abort : Bool) → is_abort packet ≡ abort
    → weight passes (with_request waiting packet) + weight passes (cond abort (last_waiting waiting) []) ≡ weight passes waiting + counted passes (packet ∷ [])
request_more passes waiting packet true is = aborted_more passes waiting packet is
request_more passes waiting packet false is =
    let more = ap (counted passes) (packets_more waiting packet is) ∙ counted_both passes (all_packets waiting) (packet ∷ []) in
    omega (arith, more)

abbrev Once : (List ℕ → Bool) → Flow → List Spoken → Type 0
Once passes requests packets = counted passes (all_packets (requests_made requests packets ++ displaced requests packets)) ≡ counted passes (spoken_one_way requests packets)

once_by : (passes : List ℕ → Bool) (requests : Flow) (past : List Spoken) (more : Spoken) (same : Bool) → same_flow requests more.flow ≡ same → Once passes requests past
    → counted passes
    (all_packets
    ((map (λ (one : Exchange). one.request) (exchanges requests past ++ cond same [] (answered_first more.octets (pending requests past))) ++ cond same (with_request (pending requests past) more.octets) (without_first (pending requests past)))
    ++ (displaced requests past ++ cond (same && is_abort more.octets) (last_waiting (pending requests past)) [])))
    ≡ counted passes (spoken_one_way requests past ++ cons_option (cond same (Some more.octets) None) [])
once_by passes requests past more true is held =
    let answered = map (λ (one : Exchange). one.request) (exchanges requests past) in
    let waiting = pending requests past in
    let gone = displaced requests past in
    let now = with_request waiting more.octets in
    let lost = cond (is_abort more.octets) (last_waiting waiting) [] in
    let before = weight_both passes (answered ++ waiting) gone in
    let apart = weight_both passes answered waiting in
    let step = request_more passes waiting more.octets (is_abort more.octets) refl in
    let parts = weight_both passes (answered ++ now) (gone ++ lost) in
    let first = weight_both passes answered now in
    let second = weight_both passes gone lost in
    let spoken = counted_both passes (spoken_one_way requests past) (more.octets ∷ []) in
    ap (λ es. weight passes ((map (λ (one : Exchange). one.request) es ++ now) ++ (gone ++ lost))) (append-nil (exchanges requests past))
    ∙ omega (arith, held, before, apart, step, parts, first, second, spoken)
once_by passes requests past more false is held =
    let answered = exchanges requests past in
    let waiting = pending requests past in
    ap (λ ps. weight passes (ps ++ (displaced requests past ++ []))) (first_goes answered more.octets waiting)
    ∙ (ap (λ gone. weight passes (requests_made requests past ++ gone)) (append-nil (displaced requests past))
    ∙ (held ∙ ap (counted passes) (sym (append-nil (spoken_one_way requests past)))))

once_more : (passes : List ℕ → Bool) (requests : Flow) (past : List Spoken) (more : Spoken) → Once passes requests past → Once passes requests (past ++ more ∷ [])
once_more passes requests past more held =
    ap (λ es. weight passes ((map (λ (one : Exchange). one.request) es ++ pending requests (past ++ more ∷ [])) ++ displaced requests (past ++ more ∷ []))) (exchanges-more requests past more)
    ∙ (ap (λ ps. weight passes ((map (λ (one : Exchange). one.request) (exchanges requests past ++ answered_behind requests past more) ++ ps) ++ displaced requests (past ++ more ∷ []))) (pending-more requests past more)
    ∙ (ap (λ gone. weight passes ((map (λ (one : Exchange). one.request) (exchanges requests past ++ answered_behind requests past more) ++ pending_after requests (pending requests past) more) ++ gone)) (given_by-more (displaced_behind requests) past more)
    ∙ (once_by passes requests past more (same_flow requests more.flow) refl held
    ∙ ap (counted passes) (sym (way_more requests past more)))))

pub exchanges-look_back : ExchangesLookBack
exchanges-look_back = record {
  answered = exchanges-answered;
  complete = λ requests packets. from_end (Complete requests) (λ none. refl) (complete_more requests) packets;
  once = λ requests packets passes. from_end (Once passes requests) refl (once_more passes requests) packets;
}

pub exchanges-grow : ExchangesGrow
exchanges-grow = record { exchanged = exchanges-more; waiting = pending-more }
