-- Requests for channels come in the order in which they were said, some left out and some again.
use Rattle.std.proofs.Common.{◌≡◌, ℕ, suc, ◌+◌, List, [], ◌∷◌, ◌++◌, length, map, filter, Bool, true, false, cond, eqb, Option, Some, None, refl, sym, ap, ap₂, subst, ◌∙◌, ◌⊎◌, inl, inr, arith, append_assoc, append-nil}
use Rattle.std.specs.Prelude.{nat_lt, drop, option_to_list}
use Rattle.std.specs.List.{AllByRecursion}
use Rattle.std.proofs.lemmas.Bool.{eqb-true, eq-eqb}
use Rattle.host_laws.specs.l2cap_signal.specs.Reading.{Answer, answers}
use Rattle.radio_world.specs.push_terms.specs.declared.word.Side.TheVariants.{A, B}
use Rattle.radio_world.specs.push_terms.specs.declared.word.Way.TheVariants.{Ab, Ba}
use Rattle.host_laws.specs.acl_fragments.specs.Pieces.{channel_of}
use Rattle.radio_world.specs.capture.specs.declared.flow.Flow.TheVariants.{Into}
use Rattle.host_laws.specs.link_talk.specs.declared.call.Call.{Call}
use Rattle.host_laws.specs.link_talk.specs.Sayings.{Command, Carried}
use Rattle.host_laws.specs.link_talk.specs.Senses.{sense}
use Rattle.host_laws.specs.link_talk.specs.Requests.{call, went}
use Rattle.radio_world.specs.radio_model.specs.declared.deed.Deed.{Deed}
use Rattle.radio_world.specs.radio_model.specs.declared.deed.Deed.TheVariants.{Nothing, Meets, Fires, FiresBoth, Breaks, Cancels}
use Rattle.radio_world.specs.radio_model.specs.declared.fate.Fate.{Fate}
use Rattle.radio_world.specs.radio_model.specs.declared.fate.Fate.TheVariants.{Delivered, Lost, Repeated, CutOff, Changed}
use Rattle.radio_world.specs.radio_model.specs.Controllers.{is_empty}
use Rattle.radio_world.specs.radio_model.specs.Fates.{changed, meets, comes_of}
use Rattle.radio_world.specs.capture.specs.Frames.{frame_pieces}
use Rattle.host_laws.specs.world_model.specs.Machines.{LinkEvent, Up, Down, News, Linked, Heard, TimerFired, Cancelled, Opening, Upper}
use Rattle.host_laws.specs.world_model.specs.Talks.{Talk, Told, Said, Unsent, Met, Done}
use Rattle.host_laws.specs.world_model.specs.Carriages.{End, Carriage, Motion, Saying, Departure, Arrival, Telling, landed, DoesMotion, MeetsFate, Doing, Moved, Deeds, Misses, Rises, Falls, Opens, Closes, linked_by, IsAtRest, ActsOn, finds, told, owing, IsDone, Carries, first_carriage}
use Rattle.host_laws.specs.turn_laws.proofs.Advancing.{Both, advances}
use Rattle.host_laws.specs.turn_laws.proofs.Finishing.{nothing_more}
use Rattle.host_laws.specs.turn_laws.proofs.Recounting.{IsOfScript}
use Rattle.host_laws.specs.turn_laws.proofs.Running.{first_both}
use Rattle.host_laws.specs.turn_laws.proofs.Standing.{Sound}
use Rattle.host_laws.specs.channel_laws.specs.Arrivals.{Arrives}
use Rattle.host_laws.specs.channel_laws.specs.Singly.{calls_that_went}
use Rattle.scenario_laws.proofs.Taming.{IsTame, Tames, TameEnd, TameBoth, IsBehind, IsBehindDeed, changed-channel, word-behind, done-tame}
use Rattle.scenario_laws.specs.Reaching.{calls_by, IsOnePdu, heard_of, said_of, turn_of, turns, at_turn}

-- ---- what arrives

arrives_none : {X : Type 0} (sent : List X) → (let none : List X = [] in Arrives none sent)
arrives_none [] = refl
arrives_none (x ∷ sent) = (0, [], refl, arrives_none sent)

arrives_more : {X : Type 0} (came new sent : List X) → Arrives came sent → Arrives came (new ++ sent)
arrives_more came [] sent is = is
arrives_more came (x ∷ new) sent is = (0, came, refl, arrives_more came new sent is)

-- one is heard, or heard again
arrives_heard : (calls came sent : List Call) → (calls ≡ []) ⊎ ((one : Call) × (calls ≡ one ∷ [])) → Arrives came sent → Arrives (calls ++ came) (calls ++ sent)
arrives_heard calls came sent (inl none) is = subst (λ (l : List Call). Arrives (l ++ came) (l ++ sent)) (sym none) is
arrives_heard calls came sent (inr (one, only)) is = subst (λ (l : List Call). Arrives (l ++ came) (l ++ sent)) (sym only) (1, came, refl, is)

arrives_again : (calls came sent : List Call) → (calls ≡ []) ⊎ ((one : Call) × (calls ≡ one ∷ [])) → Arrives came (calls ++ sent) → Arrives (calls ++ came) (calls ++ sent)
arrives_again calls came sent (inl none) is = subst (λ (l : List Call). Arrives (l ++ came) (calls ++ sent)) (sym none) is
arrives_again calls came sent (inr (one, only)) is = subst (λ (l : List Call). Arrives (l ++ came) (l ++ sent)) (sym only) (by (subst (λ (l : List Call). Arrives came (l ++ sent)) only is))
  where
    by : Arrives came (one ∷ sent) → Arrives (one ∷ came) (one ∷ sent)
    by (times, rest, came_is, later) = (suc times, rest, ap (λ (l : List Call). one ∷ l) came_is, later)

-- ---- talk

plus_none : (n : ℕ) → n + 0 ≡ n
plus_none n = omega arith

none_plus : (n : ℕ) → n ≡ 0 + n
none_plus n = omega arith

turns_more : (talk : List Talk) (one : Talk) → turns (talk ++ one ∷ []) ≡ turns talk + turn_of one
turns_more [] one = omega arith
turns_more (x ∷ talk) one = let later = turns_more talk one in omega (arith, later)

turns_both : (talk more : List Talk) → turns (talk ++ more) ≡ turns talk + turns more
turns_both [] more = none_plus (turns more)
turns_both (x ∷ talk) more = let later = turns_both talk more in omega (arith, later)

-- with one thing more
at_more : (of : Talk → List Call) (n j : ℕ) (talk : List Talk) (one : Talk) → at_turn of n j (talk ++ one ∷ []) ≡ cond (eqb (n + turns talk) j) (of one) [] ++ at_turn of n j talk
at_more of n j [] one = ap (λ m. cond (eqb m j) (of one) []) (sym (plus_none n)) ∙ sym (append-nil (cond (eqb (n + 0) j) (of one) []))
at_more of n j (x ∷ talk) one =
    let here = cond (eqb n j) (of x) [] in
    ap (λ (l : List Call). l ++ here) (at_more of (n + turn_of x) j talk one)
    ∙ (append_assoc (cond (eqb ((n + turn_of x) + turns talk) j) (of one) []) (at_turn of (n + turn_of x) j talk) here
    ∙ ap (λ m. cond (eqb m j) (of one) [] ++ (at_turn of (n + turn_of x) j talk ++ here)) (let assoc : (n + turn_of x) + turns talk ≡ n + (turn_of x + turns talk) = omega arith in assoc))

at_end : (of : Talk → List Call) (j : ℕ) (talk : List Talk) (one : Talk) → at_turn of 0 j (talk ++ one ∷ []) ≡ cond (eqb (turns talk) j) (of one) [] ++ at_turn of 0 j talk
at_end of j talk one = at_more of 0 j talk one ∙ ap (λ m. cond (eqb m j) (of one) [] ++ at_turn of 0 j talk) (sym (none_plus (turns talk)))

none_or : {X : Type 0} (b : Bool) (l : List X) → l ≡ [] → (let none : List X = [] in cond b l none) ≡ []
none_or true l is = is
none_or false l is = refl

at_still : (of : Talk → List Call) (j : ℕ) (talk : List Talk) (one : Talk) → of one ≡ [] → at_turn of 0 j (talk ++ one ∷ []) ≡ at_turn of 0 j talk
at_still of j talk one none = at_more of 0 j talk one ∙ ap (λ (l : List Call). l ++ at_turn of 0 j talk) (none_or (eqb (0 + turns talk) j) (of one) none)

-- what is told of it besides
pub all-still : (of : Talk → List Call) (j : ℕ) (talk more : List Talk) → AllByRecursion (λ (one : Talk). of one ≡ []) more → at_turn of 0 j (talk ++ more) ≡ at_turn of 0 j talk
all-still of j talk [] none = ap (at_turn of 0 j) (append-nil talk)
all-still of j talk (one ∷ more) none = ap (at_turn of 0 j) (sym (append_assoc talk (one ∷ []) more)) ∙ (all-still of j (talk ++ one ∷ []) more none.1 ∙ at_still of j talk one none.0)

-- ---- what is on its way

-- the requests of PDUs, the latest first
abbrev pub queue_calls : List (List ℕ) → List Call
queue_calls [] = []
queue_calls (pdu ∷ pdus) = queue_calls pdus ++ calls_by pdu

queue_more : (queue : List (List ℕ)) (pdu : List ℕ) → queue_calls (queue ++ pdu ∷ []) ≡ calls_by pdu ++ queue_calls queue
queue_more [] pdu = sym (append-nil (calls_by pdu))
queue_more (x ∷ queue) pdu = ap (λ (l : List Call). l ++ calls_by x) (queue_more queue pdu) ∙ append_assoc (calls_by pdu) (queue_calls queue) (calls_by x)

-- what the hearer heard behind a turn, with what is coming
abbrev pub heard_at : ℕ → (talk : List Talk) (coming : List (List ℕ)) → List Call
heard_at j talk coming = cond (eqb (turns talk) j) (queue_calls coming) [] ++ at_turn heard_of 0 j talk

abbrev pub said_at : ℕ → List Talk → List Call
said_at j talk = at_turn said_of 0 j talk

-- The first of those in the air was not heard yet, or it was, and is to be heard again.
abbrev Flies : (said came : List Call) → (queue : List (List ℕ)) → Type 0
Flies said came [] = Unit {0}
Flies said came (frame ∷ rest) = (front : List Call) × (said ≡ queue_calls (frame ∷ rest) ++ front) × (Arrives came front ⊎ Arrives came (calls_by frame ++ front))

record Reaches {S T : Type 0} (e : End S) (f : End T) : Type 0 where
  same : turns e.talk + length e.owed ≡ turns f.talk + length f.owed
  came : (j : ℕ) → Arrives (heard_at j f.talk f.coming) (said_at j e.talk)
  air : Flies (said_at (turns e.talk) e.talk) (heard_at (turns e.talk) f.talk f.coming) e.queue
  ones : AllByRecursion IsOnePdu e.queue
  waiting : AllByRecursion IsOnePdu e.waiting

-- ---- the one that says

-- it comes to something of which this is the same
still_sender : {S T : Type 0} (e e' : End S) (f : End T) (one : Talk) → e'.talk ≡ e.talk ++ one ∷ [] → said_of one ≡ [] → turn_of one ≡ 0 → e'.owed ≡ e.owed → e'.queue ≡ e.queue → e'.waiting ≡ e.waiting → Reaches e f → Reaches e' f
still_sender e e' f one talk_is silent level owed_is queue_is waiting_is r =
    let n_is : turns e'.talk ≡ turns e.talk = ap turns talk_is ∙ (turns_more e.talk one ∙ (ap (λ n. turns e.talk + n) level ∙ plus_none (turns e.talk))) in
    let said_is : (j : ℕ) → said_at j e'.talk ≡ said_at j e.talk = λ j. ap (said_at j) talk_is ∙ at_still said_of j e.talk one silent in
    record {
      same = ap₂ (λ (n m : ℕ). n + m) n_is (ap length owed_is) ∙ r.same;
      came = λ j. subst (Arrives (heard_at j f.talk f.coming)) (sym (said_is j)) (r.came j);
      air = subst (λ (q : List (List ℕ)). Flies (said_at (turns e'.talk) e'.talk) (heard_at (turns e'.talk) f.talk f.coming) q) (sym queue_is)
          (subst (λ n. Flies (said_at n e'.talk) (heard_at n f.talk f.coming) e.queue) (sym n_is) (subst (λ (l : List Call). Flies l (heard_at (turns e.talk) f.talk f.coming) e.queue) (sym (said_is (turns e.talk))) r.air));
      ones = subst (AllByRecursion IsOnePdu) (sym queue_is) r.ones;
      waiting = subst (AllByRecursion IsOnePdu) (sym waiting_is) r.waiting;
    }

all_behind : (pdus : List (List ℕ)) (pdu : List ℕ) → AllByRecursion IsOnePdu pdus → IsOnePdu pdu → AllByRecursion IsOnePdu (pdus ++ pdu ∷ [])
all_behind [] pdu all one = (one, tt)
all_behind (x ∷ pdus) pdu all one = (all.0, all_behind pdus pdu all.1 one)

-- a PDU of it moves
departs : {S T : Type 0} (e : End S) (f : End T) (pdu : List ℕ) (left : List (List ℕ)) → e.waiting ≡ pdu ∷ left → (is_empty e.owed ≡ false → e.queue ≡ []) → Reaches e f
    → (let moved : End S = record e { waiting = left; queue = landed e.owed e.queue pdu; talk = e.talk ++ Said pdu ∷ [] } in Reaches moved f)
departs {S} e f pdu left first none r = record {
  same = ap (λ n. n + length e.owed) n_is ∙ r.same;
  came = λ j. subst (Arrives (heard_at j f.talk f.coming)) (sym (at_end said_of j e.talk (Said pdu))) (arrives_more (heard_at j f.talk f.coming) (cond (eqb (turns e.talk) j) (calls_by pdu) []) (said_at j e.talk) (r.came j));
  air = subst (λ n. Flies (said_at n (e.talk ++ Said pdu ∷ [])) (heard_at n f.talk f.coming) (landed e.owed e.queue pdu)) (sym n_is) (by e.owed refl);
  ones = owed_ones e.owed;
  waiting = ones_left.1;
}
  where
    ones_left : AllByRecursion IsOnePdu (pdu ∷ left)
    ones_left = subst (AllByRecursion IsOnePdu) first r.waiting

    n_is : turns (e.talk ++ Said pdu ∷ []) ≡ turns e.talk
    n_is = turns_more e.talk (Said pdu) ∙ plus_none (turns e.talk)

    owed_ones : (owed : List LinkEvent) → AllByRecursion IsOnePdu (landed owed e.queue pdu)
    owed_ones [] = all_behind e.queue pdu r.ones ones_left.0
    owed_ones (event ∷ owed) = r.ones

    said_is : said_at (turns e.talk) (e.talk ++ Said pdu ∷ []) ≡ calls_by pdu ++ said_at (turns e.talk) e.talk
    said_is = at_end said_of (turns e.talk) e.talk (Said pdu) ∙ ap (λ b. cond b (calls_by pdu) [] ++ said_at (turns e.talk) e.talk) (same_eqb (turns e.talk))
      where
        same_eqb : (n : ℕ) → eqb n n ≡ true
        same_eqb n = eq-eqb n n refl

    flown : (queue : List (List ℕ)) → Flies (said_at (turns e.talk) e.talk) (heard_at (turns e.talk) f.talk f.coming) queue → Flies (said_at (turns e.talk) (e.talk ++ Said pdu ∷ [])) (heard_at (turns e.talk) f.talk f.coming) (queue ++ pdu ∷ [])
    flown [] flies = (said_at (turns e.talk) e.talk, said_is, inl (r.came (turns e.talk)))
    flown (frame ∷ rest) (front, is, came) =
        (front, said_is ∙ (ap (λ (l : List Call). calls_by pdu ++ l) is ∙ (sym (append_assoc (calls_by pdu) (queue_calls (frame ∷ rest)) front) ∙ ap (λ (l : List Call). l ++ front) (sym (queue_more (frame ∷ rest) pdu)))), came)

    by : (owed : List LinkEvent) → e.owed ≡ owed → Flies (said_at (turns e.talk) (e.talk ++ Said pdu ∷ [])) (heard_at (turns e.talk) f.talk f.coming) (landed owed e.queue pdu)
    by [] is = flown e.queue r.air
    by (event ∷ owed) is = subst (Flies (said_at (turns e.talk) (e.talk ++ Said pdu ∷ [])) (heard_at (turns e.talk) f.talk f.coming)) (sym (none (ap (λ (l : List LinkEvent). is_empty l) is))) tt

unsent_silent : (of : Talk → List Call) (waiting : List (List ℕ)) (event : LinkEvent) → ((pdu : List ℕ) → of (Unsent pdu) ≡ []) → of (Told (Linked event)) ≡ [] → AllByRecursion (λ (one : Talk). of one ≡ []) (map Unsent waiting ++ Told (Linked event) ∷ [])
unsent_silent of [] event none last = (last, tt)
unsent_silent of (pdu ∷ waiting) event none last = (none pdu, unsent_silent of waiting event none last)

unsent_turns : (waiting : List (List ℕ)) (event : LinkEvent) → turns (map Unsent waiting ++ Told (Linked event) ∷ []) ≡ 1
unsent_turns [] event = refl
unsent_turns (pdu ∷ waiting) event = sym (none_plus (turns (map Unsent waiting ++ Told (Linked event) ∷ []))) ∙ unsent_turns waiting event

-- it is told of an event
sender_told : {S T : Type 0} (e : End S) (f : End T) (upper : S) (event : LinkEvent) (more : List LinkEvent) (linked : Bool) → e.owed ≡ event ∷ more → e.queue ≡ [] → Reaches e f
    → (let after : End S = record e { upper = upper; linked = linked; owed = more; waiting = []; talk = e.talk ++ (map Unsent e.waiting ++ Told (Linked event) ∷ []) } in Reaches after f)
sender_told e f upper event more linked first none r =
    let last = map Unsent e.waiting ++ Told (Linked event) ∷ [] in
    let n_is : turns (e.talk ++ last) ≡ turns e.talk + 1 = turns_both e.talk last ∙ ap (λ n. turns e.talk + n) (unsent_turns e.waiting event) in
    let owed_is : length e.owed ≡ suc (length more) = ap length first in
    let before = r.same in
    record {
      same = omega (arith, n_is, owed_is, before);
      came = λ j. subst (Arrives (heard_at j f.talk f.coming)) (sym (all-still said_of j e.talk last (unsent_silent said_of e.waiting event (λ pdu. refl) refl))) (r.came j);
      air = subst (Flies (said_at (turns (e.talk ++ last)) (e.talk ++ last)) (heard_at (turns (e.talk ++ last)) f.talk f.coming)) (sym none) tt;
      ones = r.ones;
      waiting = tt;
    }

-- ---- the one that hears

-- what it heard and what comes are the same together
still_hearer : {S T : Type 0} (e : End S) (f f' : End T) → ((j : ℕ) → heard_at j f'.talk f'.coming ≡ heard_at j f.talk f.coming) → turns f'.talk + length f'.owed ≡ turns f.talk + length f.owed → Reaches e f → Reaches e f'
still_hearer e f f' heard_is same r = record {
  same = r.same ∙ sym same;
  came = λ j. subst (λ (l : List Call). Arrives l (said_at j e.talk)) (sym (heard_is j)) (r.came j);
  air = subst (λ (l : List Call). Flies (said_at (turns e.talk) e.talk) l e.queue) (sym (heard_is (turns e.talk))) r.air;
  ones = r.ones;
  waiting = r.waiting;
}

-- with something more that is no PDU and turns no link
beside_hearer : {S T : Type 0} (e : End S) (f f' : End T) (one : Talk) → f'.talk ≡ f.talk ++ one ∷ [] → heard_of one ≡ [] → turn_of one ≡ 0 → f'.owed ≡ f.owed → f'.coming ≡ f.coming → Reaches e f → Reaches e f'
beside_hearer e f f' one talk_is silent level owed_is coming_is r =
    let n_is : turns f'.talk ≡ turns f.talk = ap turns talk_is ∙ (turns_more f.talk one ∙ (ap (λ n. turns f.talk + n) level ∙ plus_none (turns f.talk))) in
    still_hearer e f f'
    (λ j. ap₂ (λ (x y : List Call). x ++ y) (ap₂ (λ (n : ℕ) (c : List (List ℕ)). cond (eqb n j) (queue_calls c) []) n_is coming_is) (ap (at_turn heard_of 0 j) talk_is ∙ at_still heard_of j f.talk one silent))
    (ap₂ (λ (n m : ℕ). n + m) n_is (ap length owed_is)) r

-- what came is heard
hearer_hears : {S T : Type 0} (e : End S) (f : End T) (upper : T) (pdu : List ℕ) → f.coming ≡ pdu ∷ [] → Reaches e f → (let after : End T = record f { upper = upper; coming = []; talk = f.talk ++ Told (Heard pdu) ∷ [] } in Reaches e after)
hearer_hears {T = T} e f upper pdu first r =
    let one : Talk = Told (Heard pdu) in
    let n_is : turns (f.talk ++ one ∷ []) ≡ turns f.talk = turns_more f.talk one ∙ plus_none (turns f.talk) in
    let after : End T = record f { upper = upper; coming = []; talk = f.talk ++ one ∷ [] } in
    still_hearer e f after
    (λ j. ap (λ (l : List Call). l ++ at_turn heard_of 0 j (f.talk ++ one ∷ [])) (none_or (eqb (turns (f.talk ++ one ∷ [])) j) (queue_calls []) refl)
    ∙ (at_end heard_of j f.talk one ∙ ap (λ (c : List (List ℕ)). cond (eqb (turns f.talk) j) (queue_calls c) [] ++ at_turn heard_of 0 j f.talk) (sym first)))
    (ap (λ n. n + length f.owed) n_is) r

hearer_told : {S T : Type 0} (e : End S) (f : End T) (upper : T) (event : LinkEvent) (more : List LinkEvent) (linked : Bool) → f.owed ≡ event ∷ more → f.coming ≡ [] → Reaches e f
    → (let after : End T = record f { upper = upper; linked = linked; owed = more; waiting = []; talk = f.talk ++ (map Unsent f.waiting ++ Told (Linked event) ∷ []) } in Reaches e after)
hearer_told {T = T} e f upper event more linked first none r =
    let last = map Unsent f.waiting ++ Told (Linked event) ∷ [] in
    let n_is : turns (f.talk ++ last) ≡ turns f.talk + 1 = turns_both f.talk last ∙ ap (λ n. turns f.talk + n) (unsent_turns f.waiting event) in
    let owed_is : length f.owed ≡ suc (length more) = ap length first in
    let after : End T = record f { upper = upper; linked = linked; owed = more; waiting = []; talk = f.talk ++ last } in
    still_hearer e f after
    (λ j. ap₂ (λ (x y : List Call). x ++ y) (none_or (eqb (turns (f.talk ++ last)) j) (queue_calls f.coming) (ap queue_calls none) ∙ sym (none_or (eqb (turns f.talk) j) (queue_calls f.coming) (ap queue_calls none)))
    (all-still heard_of j f.talk last (unsent_silent heard_of f.waiting event (λ pdu. refl) refl)))
    (omega (arith, n_is, owed_is)) r

-- ---- a frame meets its fate

-- it is gone or stays, and is heard or not
abbrev IsMet : List ℕ → (stays comes : List (List ℕ)) → Type 0
IsMet frame stays comes = ((stays ≡ []) × (queue_calls comes ≡ calls_by frame)) ⊎ (((stays ≡ []) × (queue_calls comes ≡ [])) ⊎ ((stays ≡ frame ∷ []) × (queue_calls comes ≡ calls_by frame)))

none_asked : (pdu : List ℕ) → eqb (channel_of pdu) 0x0001 ≡ false → calls_by pdu ≡ []
none_asked pdu apart = ap (λ b. calls_that_went Into (cond b (map (Command Into) (answers (drop 4 pdu))) (Carried Into pdu ∷ []))) apart

is_met : (size : ℕ) (fate : Fate) (checked : Bool) (frame : List ℕ) → IsBehind fate → (checked ≡ true → channel_of frame ≡ 0x0001 → ⊥) → IsMet frame (meets size fate checked frame).stays (comes_of size fate checked frame)
is_met size Delivered checked frame behind apart = inl (refl, refl)
is_met size Lost checked frame behind apart = inr (inl (refl, refl))
is_met size Repeated checked frame behind apart = inr (inr (refl, refl))
is_met size (CutOff count) checked frame behind apart = by (nat_lt count (length (frame_pieces size frame)))
  where
    by : (few : Bool) → (let none : List (List ℕ) = [] in IsMet frame none (cond few none (frame ∷ none)))
    by true = inr (inl (refl, refl))
    by false = inl (refl, refl)
is_met size (Changed at mask) true frame behind apart = inr (inl (refl, none_asked (changed at mask frame) (by (eqb (channel_of (changed at mask frame)) 0x0001) refl)))
  where
    by : (b : Bool) → eqb (channel_of (changed at mask frame)) 0x0001 ≡ b → b ≡ false
    by true is = absurd (apart refl (sym (changed-channel at mask frame behind.0) ∙ eqb-true (channel_of (changed at mask frame)) 0x0001 is))
    by false is = refl
is_met size (Changed at mask) false frame behind apart = inr (inl (refl, refl))

one_pdu : (pdu : List ℕ) → IsTame pdu → IsOnePdu pdu
one_pdu pdu tame = by (eqb (channel_of pdu) 0x0001) refl
  where
    at : (found : Option Call) → (filter (went Into) (option_to_list found ++ []) ≡ []) ⊎ ((one : Call) × (filter (went Into) (option_to_list found ++ []) ≡ one ∷ []))
    at None = inl refl
    at (Some one) = kept (went Into one)
      where
        kept : (b : Bool) → (let none : List Call = [] in (cond b (one ∷ none) none ≡ []) ⊎ ((c : Call) × (cond b (one ∷ none) none ≡ c ∷ [])))
        kept true = inr (one, refl)
        kept false = inl refl

    only : (list : List Answer) → length list ≡ 1 → (calls_that_went Into (map (Command Into) list) ≡ []) ⊎ ((one : Call) × (calls_that_went Into (map (Command Into) list) ≡ one ∷ []))
    only [] is = cc
    only (answer ∷ []) is = at (call (sense (Command Into answer)))
    only (answer ∷ other ∷ list) is = absurd (omega (arith, is))

    by : (b : Bool) → eqb (channel_of pdu) 0x0001 ≡ b → IsOnePdu pdu
    by true is =
        subst (λ (l : List Call). (l ≡ []) ⊎ ((one : Call) × (l ≡ one ∷ []))) (sym (ap (λ b. calls_that_went Into (cond b (map (Command Into) (answers (drop 4 pdu))) (Carried Into pdu ∷ []))) is))
        (only (answers (drop 4 pdu)) (tame.1 (eqb-true (channel_of pdu) 0x0001 is)))
    by false is = inl (none_asked pdu is)

fate_met : {S T H : Type 0} (V : Upper T H) (size : ℕ) (fate : Fate) (e : End S) (f : End T) (e' : End S) (f' : End T) → MeetsFate V size fate e f e' f' → IsBehind fate → V.has_check f.upper 0x0001 ≡ false → e.owed ≡ [] → f.owed ≡ [] → f.coming ≡ [] → Reaches e f → Reaches e' f'
fate_met {S} {T} V size fate e f e' f' m behind unchecked none_e none_f none_comes r =
    rw (m.one_is, m.other_is) (by (is_met size fate m.checked m.frame behind apart))
  where
    n : ℕ
    n = turns e.talk

    met : Talk
    met = Met fate m.checked

    stays : List (List ℕ)
    stays = (meets size fate m.checked m.frame).stays

    comes : List (List ℕ)
    comes = comes_of size fate m.checked m.frame

    apart : m.checked ≡ true → channel_of m.frame ≡ 0x0001 → ⊥
    apart looks here = let never : true ≡ false = sym looks ∙ (m.checked_is ∙ (ap (V.has_check f.upper) here ∙ unchecked)) in cc

    level : turns f.talk ≡ n
    level = let before = r.same in let one : length e.owed ≡ 0 = ap length none_e in let two : length f.owed ≡ 0 = ap length none_f in omega (arith, before, one, two)

    now_n : turns (e.talk ++ met ∷ []) ≡ n
    now_n = turns_more e.talk met ∙ plus_none n

    said_is : (j : ℕ) → said_at j (e.talk ++ met ∷ []) ≡ said_at j e.talk
    said_is j = at_still said_of j e.talk met refl

    ones : IsOnePdu m.frame × AllByRecursion IsOnePdu m.rest
    ones = subst (AllByRecursion IsOnePdu) m.is r.ones

    flies : Flies (said_at n e.talk) (heard_at n f.talk f.coming) (m.frame ∷ m.rest)
    flies = subst (Flies (said_at n e.talk) (heard_at n f.talk f.coming)) m.is r.air

    front : List Call
    front = flies.0

    heard : ℕ → List Call
    heard j = at_turn heard_of 0 j f.talk

    heard_was : (j : ℕ) → heard_at j f.talk f.coming ≡ heard j
    heard_was j = ap (λ (l : List Call). l ++ heard j) (none_or (eqb (turns f.talk) j) (queue_calls f.coming) (ap queue_calls none_comes))

    arrived : Arrives (heard n) front ⊎ Arrives (heard n) (calls_by m.frame ++ front)
    arrived = subst (λ (l : List Call). Arrives l front ⊎ Arrives l (calls_by m.frame ++ front)) (heard_was n) flies.2

    -- what was said, with the frame behind all that was over
    said_now : said_at n e.talk ≡ queue_calls m.rest ++ (calls_by m.frame ++ front)
    said_now = flies.1 ∙ append_assoc (queue_calls m.rest) (calls_by m.frame) front

    over : Arrives (heard n) (calls_by m.frame ++ front)
    over = either arrived
      where
        either : Arrives (heard n) front ⊎ Arrives (heard n) (calls_by m.frame ++ front) → Arrives (heard n) (calls_by m.frame ++ front)
        either (inl first) = arrives_more (heard n) (calls_by m.frame) front first
        either (inr again) = again

    over_heard : Arrives (calls_by m.frame ++ heard n) (calls_by m.frame ++ front)
    over_heard = either arrived
      where
        either : Arrives (heard n) front ⊎ Arrives (heard n) (calls_by m.frame ++ front) → Arrives (calls_by m.frame ++ heard n) (calls_by m.frame ++ front)
        either (inl first) = arrives_heard (calls_by m.frame) (heard n) front ones.0 first
        either (inr again) = arrives_again (calls_by m.frame) (heard n) front ones.0 again

    heard_now : (c : List (List ℕ)) (calls : List Call) → queue_calls c ≡ calls → heard_at n f.talk c ≡ calls ++ heard n
    heard_now c calls is = ap (λ b. cond b (queue_calls c) [] ++ heard n) (eq-eqb (turns f.talk) n level) ∙ ap (λ (l : List Call). l ++ heard n) is

    others : (c : List (List ℕ)) (calls : List Call) → queue_calls c ≡ calls → Arrives (calls ++ heard n) (said_at n e.talk) → (j : ℕ) → Arrives (heard_at j f.talk c) (said_at j e.talk)
    others c calls is here j = at (eqb n j) refl
      where
        at : (b : Bool) → eqb n j ≡ b → Arrives (heard_at j f.talk c) (said_at j e.talk)
        at true same = subst (λ k. Arrives (heard_at k f.talk c) (said_at k e.talk)) (eqb-true n j same) (subst (λ (l : List Call). Arrives l (said_at n e.talk)) (sym (heard_now c calls is)) here)
        at false away =
            let off : eqb (turns f.talk) j ≡ false = ap (λ k. eqb k j) level ∙ away in
            subst (λ (l : List Call). Arrives l (said_at j e.talk)) (heard_was j ∙ sym (ap (λ b. cond b (queue_calls c) [] ++ heard j) off)) (r.came j)

    -- with what stays in the air, and what comes
    result : (queue c : List (List ℕ)) (calls : List Call) → queue_calls c ≡ calls → Arrives (calls ++ heard n) (said_at n e.talk) → Flies (said_at n e.talk) (calls ++ heard n) queue → AllByRecursion IsOnePdu queue
        → (let one : End S = record e { queue = queue; talk = e.talk ++ met ∷ [] } in let other : End T = record f { coming = c } in Reaches one other)
    result queue c calls is here air all = record {
      same = ap (λ k. k + length e.owed) now_n ∙ r.same;
      came = λ j. subst (Arrives (heard_at j f.talk c)) (sym (said_is j)) (others c calls is here j);
      air = subst (λ k. Flies (said_at k (e.talk ++ met ∷ [])) (heard_at k f.talk c) queue) (sym now_n)
          (subst (λ (l : List Call). Flies l (heard_at n f.talk c) queue) (sym (said_is n)) (subst (λ (l : List Call). Flies (said_at n e.talk) l queue) (sym (heard_now c calls is)) air));
      ones = all;
      waiting = r.waiting;
    }

    rest_flies : (came : List Call) (rest : List (List ℕ)) → said_at n e.talk ≡ queue_calls rest ++ (calls_by m.frame ++ front) → Arrives came (calls_by m.frame ++ front) → Flies (said_at n e.talk) came rest
    rest_flies came [] is arrives = tt
    rest_flies came (frame ∷ rest) is arrives = (calls_by m.frame ++ front, is, inl arrives)

    all_said : (came : List Call) → Arrives came (calls_by m.frame ++ front) → Arrives came (said_at n e.talk)
    all_said came arrives = subst (Arrives came) (sym said_now) (arrives_more came (queue_calls m.rest) (calls_by m.frame ++ front) arrives)

    by : IsMet m.frame stays comes → (let one : End S = record e { queue = stays ++ m.rest; talk = e.talk ++ met ∷ [] } in let other : End T = record f { coming = comes } in Reaches one other)
    by (inl (gone, heard_it)) =
        subst (λ (s : List (List ℕ)). let one : End S = record e { queue = s ++ m.rest; talk = e.talk ++ met ∷ [] } in let other : End T = record f { coming = comes } in Reaches one other) (sym gone)
        (result m.rest comes (calls_by m.frame) heard_it (all_said (calls_by m.frame ++ heard n) over_heard) (rest_flies (calls_by m.frame ++ heard n) m.rest said_now over_heard) ones.1)
    by (inr (inl (gone, lost))) =
        subst (λ (s : List (List ℕ)). let one : End S = record e { queue = s ++ m.rest; talk = e.talk ++ met ∷ [] } in let other : End T = record f { coming = comes } in Reaches one other) (sym gone)
        (result m.rest comes [] lost (all_said (heard n) over) (rest_flies (heard n) m.rest said_now over) ones.1)
    by (inr (inr (left, heard_it))) =
        subst (λ (s : List (List ℕ)). let one : End S = record e { queue = s ++ m.rest; talk = e.talk ++ met ∷ [] } in let other : End T = record f { coming = comes } in Reaches one other) (sym left)
        (result (m.frame ∷ m.rest) comes (calls_by m.frame) heard_it (all_said (calls_by m.frame ++ heard n) over_heard) (front, flies.1, inr over_heard) ones)

-- ---- a link rises or falls

more_owed : (owed : List LinkEvent) (event : LinkEvent) → length (owed ++ event ∷ []) ≡ length owed + 1
more_owed [] event = refl
more_owed (x ∷ owed) event = let later = more_owed owed event in omega (arith, later)

owing_sender : {S T : Type 0} (x y : LinkEvent) (e : End S) (f : End T) → Reaches e f → Reaches (owing x e) (owing y f)
owing_sender Up Up e f r = record { same = let one = more_owed e.owed Up in let two = more_owed f.owed Up in let before = r.same in omega (arith, one, two, before); came = r.came; air = r.air; ones = r.ones; waiting = r.waiting }
owing_sender Up (Down reason) e f r = record { same = let one = more_owed e.owed Up in let two = more_owed f.owed (Down reason) in let before = r.same in omega (arith, one, two, before); came = r.came; air = r.air; ones = r.ones; waiting = r.waiting }
owing_sender (Down reason) Up e f r = record { same = let one = more_owed e.owed (Down reason) in let two = more_owed f.owed Up in let before = r.same in omega (arith, one, two, before); came = r.came; air = tt; ones = tt; waiting = r.waiting }
owing_sender (Down reason) (Down other) e f r = record { same = let one = more_owed e.owed (Down reason) in let two = more_owed f.owed (Down other) in let before = r.same in omega (arith, one, two, before); came = r.came; air = tt; ones = tt; waiting = r.waiting }

-- ---- all that happens, from host a to host b

abbrev ReachesBoth : {S T : Type 0} → Carriage S T → Type 0
ReachesBoth c = Reaches c.a c.b

module _ {S T G H : Type 0} (U : Upper S G) (V : Upper T H) (Q : S → Type 0) (R : T → Type 0) (one : Tames U Q) (other : Tames V R) where
  sender_moves : (motion : Motion) (link : Bool) (e e' : End S) (f : End T) → DoesMotion U motion e e' → Sound U link e → TameEnd Q e → Reaches e f → Reaches e' f
  sender_moves (Saying pdu) link e e' f does sound tame r =
      let said = one.says e.upper does.after pdu does.next tame.upper in
      rw does.is (record { same = r.same; came = r.came; air = r.air; ones = r.ones; waiting = all_behind e.waiting pdu r.waiting (one_pdu pdu said.1) })
  sender_moves (Departure pdu) link e e' f does sound tame r = rw does.is (departs e f pdu does.left does.first sound.owed_queue r)
  sender_moves (Arrival pdu) link e e' f does sound tame r = still_sender e e' f (Told (Heard pdu)) (ap (λ (x : End S). x.talk) does.is) refl refl (ap (λ (x : End S). x.owed) does.is) (ap (λ (x : End S). x.queue) does.is) (ap (λ (x : End S). x.waiting) does.is) r
  sender_moves (Telling event) link e e' f does sound tame r =
      rw does.is (sender_told e f (U.hear does.answers (Linked event) e.upper) event does.more (linked_by event) does.first (sound.owed_queue (ap (λ (l : List LinkEvent). is_empty l) does.first)) r)

  hearer_moves : (motion : Motion) (e : End S) (f f' : End T) → DoesMotion V motion f f' → Reaches e f → Reaches e f'
  hearer_moves (Saying pdu) e f f' does r = rw does.is (record { same = r.same; came = r.came; air = r.air; ones = r.ones; waiting = r.waiting })
  hearer_moves (Departure pdu) e f f' does r = beside_hearer e f f' (Said pdu) (ap (λ (x : End T). x.talk) does.is) refl refl (ap (λ (x : End T). x.owed) does.is) (ap (λ (x : End T). x.coming) does.is) r
  hearer_moves (Arrival pdu) e f f' does r = rw does.is (hearer_hears e f (V.hear does.answers (Heard pdu) f.upper) pdu does.first r)
  hearer_moves (Telling event) e f f' does r = rw does.is (hearer_told e f (V.hear does.answers (Linked event) f.upper) event does.more (linked_by event) does.first does.none_comes r)

  told_sender : (g : List G) (news : News) (e : End S) (f : End T) → turn_of (Told news) ≡ 0 → Reaches e f → Reaches (told U g news e) f
  told_sender g news e f level r = still_sender e (told U g news e) f (Told news) refl refl level refl refl refl r

  fired_sender : (g : List G) (armed : Bool) (e : End S) (f : End T) → Reaches e f → Reaches (cond armed (told U g TimerFired e) e) f
  fired_sender g true e f r = told_sender g TimerFired e f refl r
  fired_sender g false e f r = r

  fired_hearer : (h : List H) (armed : Bool) (e : End S) (f : End T) → Reaches e f → Reaches e (cond armed (told V h TimerFired f) f)
  fired_hearer h true e f r = beside_hearer e f (told V h TimerFired f) (Told TimerFired) refl refl refl refl refl r
  fired_hearer h false e f r = r

  -- host b says something that meets its fate
  answered : (size : ℕ) (fate : Fate) (e e' : End S) (f f' : End T) → MeetsFate U size fate f e f' e' → Reaches e f → Reaches e' f'
  answered size fate e e' f f' m r =
      let after : End T = record f { queue = (meets size fate m.checked m.frame).stays ++ m.rest; talk = f.talk ++ Met fate m.checked ∷ [] } in
      let said = beside_hearer e f after (Met fate m.checked) refl refl refl refl refl r in
      rw (m.one_is, m.other_is) (record { same = said.same; came = said.came; air = said.air; ones = said.ones; waiting = said.waiting })

  deeds_reach : (deed : Deed) (old new : Carriage S T) → IsBehindDeed deed → IsAtRest U V old → ActsOn U V deed old new → TameBoth Q R old → ReachesBoth old → ReachesBoth new
  deeds_reach Nothing old new behind rest acts tame r = absurd acts
  deeds_reach (Meets Ab fate) old new behind rest (e, f, m, same) tame r =
      rw same (fate_met V old.size fate old.a old.b e f m behind (other.unchecked old.b.upper tame.b.upper) rest.idle_a.none_owed rest.idle_b.none_owed rest.idle_b.none_comes r)
  deeds_reach (Meets Ba fate) old new behind rest (e, f, m, same) tame r = rw same (answered old.size fate old.a e old.b f m r)
  deeds_reach (Fires A) old new behind rest (armed, g, same) tame r = rw same (told_sender g TimerFired old.a old.b refl r)
  deeds_reach (Fires B) old new behind rest (armed, h, same) tame r = rw same (fired_hearer h true old.a old.b r)
  deeds_reach FiresBoth old new behind rest (armed, g, h, same) tame r =
      rw same (fired_hearer h (V.armed old.b.upper) (cond (U.armed old.a.upper) (told U g TimerFired old.a) old.a) old.b (fired_sender g (U.armed old.a.upper) old.a old.b r))
  deeds_reach Breaks old new behind rest same tame r = rw same (owing_sender (Down 0x08) (Down 0x08) old.a old.b r)
  deeds_reach Cancels old new behind rest (may, g, same) tame r = rw same (told_sender g Cancelled old.a old.b refl r)

  done_reach : (doing : Doing) (old new : Carriage S T) → IsOfScript doing → IsDone U V doing old new → Both U V old → TameBoth Q R old → ReachesBoth old → ReachesBoth new
  done_reach (Moved A motion) old new script (e, does, same) sound tame r = rw same (sender_moves motion old.link old.a e old.b does sound.a tame.a r)
  done_reach (Moved B motion) old new script (f, does, same) sound tame r = rw same (hearer_moves motion old.a old.b f does r)
  done_reach (Deeds word) old new script (rest, acts) sound tame r = deeds_reach (finds word old) old new (word-behind word old.served old.a.queue old.b.queue old.link script) rest acts tame r
  done_reach (Misses word) old new script (rest, nothing, same) sound tame r = rw same r
  done_reach Rises old new script (down, idle, going, wants, same) sound tame r = rw same (owing_sender Up Up old.a old.b r)
  done_reach (Falls A) old new script (up, idle, leaves, same) sound tame r = rw same (owing_sender (Down 0x16) (Down 0x13) old.a old.b r)
  done_reach (Falls B) old new script (up, idle, leaves, same) sound tame r = rw same (owing_sender (Down 0x13) (Down 0x16) old.a old.b r)
  done_reach (Opens name) old new script (down, idle, ready, next, g, same) sound tame r = rw same (told_sender g (Opening name) old.a old.b refl r)
  done_reach (Closes outcome) old new script (down, idle_a, idle_b, going, ready, is, same) sound tame r =
      rw same (still_sender old.a (let after : End S = record (old.a) { talk = old.a.talk ++ Done outcome ∷ [] } in after) old.b (Done outcome) refl refl refl refl refl refl r)

  carries_reach : (doings : List Doing) (old new : Carriage S T) → AllByRecursion IsOfScript doings → Carries U V doings old new → Both U V old → TameBoth Q R old → ReachesBoth old → ReachesBoth new
  carries_reach [] old new script same sound tame r = rw same r
  carries_reach (doing ∷ doings) old new script (mid, does, runs) sound tame r =
      carries_reach doings mid new script.1 runs (advances U V doing old nothing_more nothing_more mid does sound).both (done-tame U V Q R one other doing old mid script.0 does tame) (done_reach doing old mid script.0 does sound tame r)

  first_reach : (size : ℕ) (names : List (List ℕ)) → ReachesBoth (first_carriage U V size names)
  first_reach size names = record { same = refl; came = λ j. none (eqb 0 j); air = tt; ones = tt; waiting = tt }
    where
      none : (b : Bool) → (let empty : List Call = [] in cond b empty empty ++ [] ≡ [])
      none true = refl
      none false = refl

  -- At each moment: behind each turn of the link, what host b heard came of what host a said there.
  pub all-reach : (size : ℕ) (names : List (List ℕ)) (doings : List Doing) (c : Carriage S T) → AllByRecursion IsOfScript doings → Carries U V doings (first_carriage U V size names) c → (j : ℕ) → Arrives (heard_at j c.b.talk c.b.coming) (said_at j c.a.talk)
  all-reach size names doings c script runs =
      (carries_reach doings (first_carriage U V size names) c script runs (first_both U V size names)
      (record { a = record { upper = one.first; waiting = tt; queue = tt; coming = tt; talk = tt }; b = record { upper = other.first; waiting = tt; queue = tt; coming = tt; talk = tt } }) (first_reach size names)).came
