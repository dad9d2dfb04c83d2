-- A request that is passed over in silence was handed up where a PDU goes out behind it while its channel is open still.
use Rattle.std.proofs.Common.{◌≡◌, ◌≤◌, ℕ, Bool, true, false, cond, ◌&&◌, ◌||◌, eqb, List, [], ◌∷◌, ◌++◌, length, fold, Option, Some, None, refl, sym, ap, subst, ◌∙◌, append_assoc, append-nil, length-append, true≢false, arith, inl, inr}
use Rattle.std.specs.Prelude.{map, drop, ◌⊎◌}
use Rattle.std.specs.List.{list_any}
use Rattle.std.proofs.lemmas.List.{append_cancel_left}
use Rattle.std.proofs.lemmas.List.Elements.{filter_map-append}
use Rattle.std.proofs.lemmas.List.Sums.{fold-append}
use Rattle.request_laws.specs.acl_fragments.specs.Pieces.{channel_of}
use Rattle.request_laws.specs.capture.specs.declared.flow.Flow.TheVariants.{Out, Into}
use Rattle.request_laws.specs.l2cap_signal.specs.Reading.{answers}
use Rattle.request_laws.specs.link_talk.specs.declared.channel.Channel.{Channel}
use Rattle.request_laws.specs.link_talk.specs.declared.party.Party.{Party}
use Rattle.request_laws.specs.link_talk.specs.Channels.{Entry, is_alive, reading}
use Rattle.request_laws.specs.link_talk.specs.Sayings.{Saying, Carried}
use Rattle.request_laws.specs.link_talk.specs.Setups.{is_set}
use Rattle.request_laws.specs.link_talk.specs.Sdus.{sdus}
use Rattle.request_laws.specs.channel_model.specs.Calls.{asks_features, carrier_at, connected, disconnected}
use Rattle.request_laws.specs.channel_model.specs.Carrying.{takes}
use Rattle.request_laws.specs.channel_model.specs.Giving.{Given, Signal, Whole, Framed, next_given}
use Rattle.request_laws.specs.channel_model.specs.Policies.{Policy}
use Rattle.request_laws.specs.channel_model.specs.Changing.{held_at}
use Rattle.request_laws.specs.channel_model.specs.Telling.{is_told_closed}
use Rattle.request_laws.specs.channel_model.specs.Value.{Carrier, Plain, Retransmitting, Stage, Requested, Connected, Leaving, Closing, Crossed, Held, Channels}
use Rattle.request_laws.specs.channel_laws.specs.OwnTalk.{asked_between, said_with_all}
use Rattle.request_laws.specs.channel_laws.specs.Runs.{Occurrence, Comes, Connects, AsksFeatures, Disconnects, Sends, Gives, Fires, Tells, peer_at, said_by_carrier, said_as, said_in, up_with, Run, new_link, run_on, run_of, arisen, sdu_up, sdus_up}
use Rattle.request_laws.specs.channel_laws.specs.Sdus.{StatesFrame, IsHandedUp}
use Rattle.request_laws.specs.channel_laws.specs.Views.{peer_of, life_of, read_at}
use Rattle.request_laws.specs.channel_laws.proofs.Incoming.{sdus-are_read}
use Rattle.request_laws.specs.channel_laws.proofs.Receiving.{not-broken}
use Rattle.request_laws.specs.channel_laws.proofs.Running.{IsSound, along}
use Rattle.request_laws.specs.channel_laws.proofs.Signalling.{is_carried, IsBare, bare-asked, bare-left, bare-with_all, bare-fired}
use Rattle.request_laws.specs.channel_laws.proofs.Sound.{Reads, ReadsBy}
use Rattle.request_laws.specs.channel_laws.proofs.Telling.{StageTold, HeldTold, RunTold, one_told, nothing_told}
use Rattle.request_laws.proofs.Takes.{run_more, grown}
use Rattle.orderly_laws.specs.Answered.{is_open_by, is_open_in, ShowsOpen}

-- ---- of a channel that is open all that is read was handed up

and_right : (a b : Bool) → (a && b) ≡ true → b ≡ true
and_right true b is = is
and_right false b is = cc

unclosed : (policy : Policy) (held : Option Held) (entry : Entry) (closed : Bool) → Reads policy held (Some entry) → HeldTold held closed → is_alive entry.life ≡ true → closed ≡ false
unclosed policy None entry closed reads told alive = absurd (true≢false (sym alive ∙ ap is_alive reads))
unclosed policy (Some held) entry closed reads told alive = by held.stage refl reads told
  where
    over : (stage : Stage) → held.stage ≡ stage → entry.life ≡ life_of held.stage → is_alive (life_of stage) ≡ false → closed ≡ false
    over stage is life shut = absurd (true≢false (sym alive ∙ (ap is_alive (life ∙ ap life_of is) ∙ shut)))

    by : (stage : Stage) → held.stage ≡ stage → ReadsBy policy held (peer_of stage) (Some entry) → StageTold stage closed → closed ≡ false
    by (Requested request) is reads told = told
    by (Connected peer setup) is reads told = told.1
    by (Leaving peer setup request) is reads told = told.1
    by (Closing peer request checked) is reads told = over (Closing peer request checked) is reads.0.life_is refl
    by (Crossed peer request) is reads told = over (Crossed peer request) is reads.0.life_is refl

pub handed-open : (policy : Policy) (party : Party) (channel : Channel) (front : List Occurrence) → StatesFrame policy party → is_open_in channel (run_of policy front).said ≡ true → sdus party channel Into (run_of policy front).said ≡ sdus_up channel.own (run_of policy front).up
handed-open policy party channel front states shown = by (read_at channel.own (reading (run_of policy front).said).entries) refl shown
  where
    ran : IsSound policy (run_of policy front) × RunTold (run_of policy front)
    ran = along policy RunTold nothing_told (λ run more sound told. one_told policy run more sound.core.lone told) front

    whole : {broken : Bool} (up read : List (List ℕ)) → broken ≡ false → IsHandedUp broken up read → read ≡ up
    whole up read off (inl same) = same
    whole up read off (inr (is, sdu, same)) = absurd (true≢false (sym is ∙ off))

    by : (found : Option Entry) → read_at channel.own (reading (run_of policy front).said).entries ≡ found → is_open_by found ≡ true → sdus party channel Into (run_of policy front).said ≡ sdus_up channel.own (run_of policy front).up
    by None at is = cc
    by (Some entry) at is =
        let reads = subst (Reads policy (held_at channel.own (run_of policy front).value)) at (ran.0.core.reads channel.own) in
        let open' = unclosed policy (held_at channel.own (run_of policy front).value) entry (is_told_closed channel.own (arisen (run_of policy front))) reads (ran.1.at channel.own) (and_right (is_set entry.setup) (is_alive entry.life) is) in
        whole (sdus_up channel.own (run_of policy front).up) (sdus party channel Into (run_of policy front).said) (not-broken channel.own (arisen (run_of policy front)) open') (sdus-are_read policy party front channel states)

-- ---- a PDU that goes out is said at once, and by itself

bare_none : (m after : List Saying) (pdu : List ℕ) → IsBare (m ++ Carried Out pdu ∷ after) → ⊥
bare_none [] after pdu bare = true≢false bare
bare_none (s ∷ m) after pdu bare = by (is_carried s) bare (bare_none m after pdu)
  where
    by : (now : Bool) → (now || list_any is_carried (m ++ Carried Out pdu ∷ after)) ≡ false → (IsBare (m ++ Carried Out pdu ∷ after) → ⊥) → ⊥
    by true is later = true≢false is
    by false is later = later is

alone_none : (said : List Saying) (s : Saying) (m after : List Saying) (pdu : List ℕ) → length said ≤ 1 → said ≡ s ∷ (m ++ Carried Out pdu ∷ after) → ⊥
alone_none said s m after pdu few is = let e = ap length is in let sum = length-append m (Carried Out pdu ∷ after) in omega (arith, e, sum, few)

carrier_few : (carrier : Option Carrier) (peer : ℕ) (sdu : List ℕ) → length (said_by_carrier carrier peer sdu) ≤ 1
carrier_few None peer sdu = omega arith
carrier_few (Some (Plain agreed None)) peer sdu = omega arith
carrier_few (Some (Plain agreed (Some waiting))) peer sdu = omega arith
carrier_few (Some (Retransmitting machine)) peer sdu = omega arith

given_few : (given : Option Given) (pdu : List ℕ) → length (said_as given pdu) ≤ 1
given_few None pdu = omega arith
given_few (Some (Signal command)) pdu = omega arith
given_few (Some (Whole peer sdu)) pdu = omega arith
given_few (Some (Framed peer frame)) pdu = omega arith

says_alone : (policy : Policy) (more : Occurrence) (v : Channels) (m after : List Saying) (pdu : List ℕ) → said_in policy more v ≡ m ++ Carried Out pdu ∷ after → m ≡ []
says_alone policy more v [] after pdu is = refl
says_alone policy (Comes came) v (s ∷ m) after pdu is = by (eqb (channel_of came) 0x0001) is
  where
    w : Channels
    w = takes (channel_of came) came v

    by : (signals : Bool) → cond signals (said_with_all policy (answers (drop 4 came)) v) (Carried Into came ∷ asked_between v w) ≡ (s ∷ m) ++ Carried Out pdu ∷ after → (s ∷ m) ≡ []
    by true same = absurd (bare_none (s ∷ m) after pdu (subst IsBare same (bare-with_all policy (answers (drop 4 came)) v)))
    by false same = let rest : asked_between v w ≡ m ++ Carried Out pdu ∷ after = cc in absurd (bare_none m after pdu (subst IsBare rest (bare-asked v w)))
says_alone policy (Connects psm) v (s ∷ m) after pdu is = absurd (bare_none (s ∷ m) after pdu (subst IsBare is (bare-asked v (connected psm v))))
says_alone policy AsksFeatures v (s ∷ m) after pdu is = absurd (bare_none (s ∷ m) after pdu (subst IsBare is (bare-asked v (asks_features v))))
says_alone policy (Disconnects own) v (s ∷ m) after pdu is = absurd (bare_none (s ∷ m) after pdu (subst IsBare is (bare-left own v (disconnected own v))))
says_alone policy (Sends own sdu) v (s ∷ m) after pdu is = absurd (alone_none (said_in policy (Sends own sdu) v) s m after pdu (carrier_few (carrier_at own v) (peer_at (held_at own v)) sdu) is)
says_alone policy (Gives given) v (s ∷ m) after pdu is = absurd (alone_none (said_in policy (Gives given) v) s m after pdu (given_few (next_given v) given) is)
says_alone policy Fires v (s ∷ m) after pdu is = absurd (bare_none (s ∷ m) after pdu (subst IsBare is (bare-fired policy.tries (map (λ (held : Held). held.own) v.held) v)))
says_alone policy Tells v (s ∷ m) after pdu is = cc

-- ---- so what was said until then is what a front of the run said

record Splits (xs ys past tail : List Saying) (one : Saying) : Type 0 where
  mid : List Saying
  where_is : (xs ≡ past ++ one ∷ mid) ⊎ (past ≡ xs ++ mid)

split : (xs ys past tail : List Saying) (one : Saying) → xs ++ ys ≡ past ++ one ∷ tail → Splits xs ys past tail one
split [] ys past tail one is = record { mid = past; where_is = inr refl }
split (x ∷ xs) ys [] tail one is = let same : x ≡ one = cc in record { mid = xs; where_is = inl (ap (λ (s : Saying). s ∷ xs) same) }
split (x ∷ xs) ys (p ∷ past) tail one is =
    let same : x ≡ p = cc in
    let rest = split xs ys past tail one cc in
    record {
      mid = rest.mid;
      where_is = elim rest.where_is [
        | inl here ↦ inl (ap (λ (l : List Saying). x ∷ l) here ∙ ap (λ (s : Saying). s ∷ (past ++ one ∷ rest.mid)) same)
        | inr there ↦ inr (ap (λ (l : List Saying). p ∷ l) there ∙ ap (λ (s : Saying). s ∷ (xs ++ rest.mid)) (sym same))
      ];
    }

record Placed (policy : Policy) (list : List Occurrence) (past : List Saying) : Type 0 where
  front : List Occurrence
  rest : List Occurrence
  list_is : list ≡ front ++ rest
  said_is : (run_of policy front).said ≡ past

place : (policy : Policy) (front rest : List Occurrence) (past tail mid : List Saying) (pdu : List ℕ) → (run_of policy (front ++ rest)).said ≡ past ++ Carried Out pdu ∷ tail → past ≡ (run_of policy front).said ++ mid → Placed policy (front ++ rest) past
place policy front [] past tail mid pdu is ahead =
    let e = ap length (ap (λ (l : List Occurrence). (run_of policy l).said) (sym (append-nil front)) ∙ is) in
    let sum = length-append past (Carried Out pdu ∷ tail) in
    let a = ap length ahead in
    let b = length-append (run_of policy front).said mid in
    absurd (omega (arith, e, sum, a, b))
place policy front (more ∷ rest) past tail mid pdu is ahead =
    let S = (run_of policy front).said in
    let next = front ++ more ∷ [] in
    let same : front ++ more ∷ rest ≡ next ++ rest = sym (append_assoc front (more ∷ []) rest) in
    let all : (run_of policy (next ++ rest)).said ≡ past ++ Carried Out pdu ∷ tail = ap (λ (l : List Occurrence). (run_of policy l).said) (sym same) ∙ is in
    let g = grown policy next rest in
    let where_it = split (run_of policy next).said g.more past tail (Carried Out pdu) (sym g.is ∙ all) in
    let now : (run_of policy next).said ≡ S ++ said_in policy more (run_of policy front).value = ap (λ (r : Run). r.said) (run_more policy front more) in
    elim where_it.where_is [
      | inl here ↦
          let says : said_in policy more (run_of policy front).value ≡ mid ++ Carried Out pdu ∷ where_it.mid =
          append_cancel_left S _ _ (sym now ∙ (here ∙ (ap (λ (l : List Saying). l ++ Carried Out pdu ∷ where_it.mid) ahead ∙ append_assoc S mid (Carried Out pdu ∷ where_it.mid)))) in
          let none = says_alone policy more (run_of policy front).value mid where_it.mid pdu says in
          record { front = front; rest = more ∷ rest; list_is = refl; said_is = sym (ahead ∙ (ap (λ (l : List Saying). S ++ l) none ∙ append-nil S)) }
      | inr beyond ↦ subst (λ (l : List Occurrence). Placed policy l past) (sym same) (place policy next rest past tail where_it.mid pdu all beyond)
    ]

-- ---- what is handed up stays so

ups_on : (policy : Policy) (own : ℕ) (later : List Occurrence) (run : Run) → length (sdus_up own run.up) ≤ length (sdus_up own (fold (run_on policy) run later).up)
ups_on policy own [] run = omega arith
ups_on policy own (more ∷ later) run =
    let rest = ups_on policy own later (run_on policy run more) in
    let e = ap length (filter_map-append (sdu_up own) run.up (up_with more run.value ∷ [])) in
    let sum = length-append (sdus_up own run.up) (sdus_up own (up_with more run.value ∷ [])) in
    omega (arith, rest, e, sum)

ups_grow : (policy : Policy) (own : ℕ) (front later : List Occurrence) → length (sdus_up own (run_of policy front).up) ≤ length (sdus_up own (run_of policy (front ++ later)).up)
ups_grow policy own front later = subst (λ (r : Run). length (sdus_up own (run_of policy front).up) ≤ length (sdus_up own r.up)) (sym (fold-append (run_on policy) new_link front later)) (ups_on policy own later (run_of policy front))

-- all that is read of such a channel was handed up
pub all-shown : (policy : Policy) (party : Party) (channel : Channel) (list : List Occurrence) (talk outs : List Saying) → StatesFrame policy party → (run_of policy list).said ≡ talk ++ outs → ShowsOpen party talk channel
    → sdus party channel Into (run_of policy list).said ≡ sdus party channel Into talk → sdus party channel Into (run_of policy list).said ≡ sdus_up channel.own (run_of policy list).up
all-shown policy party channel list talk outs states said_is shows at_end =
    let all = said_is ∙ (ap (λ (l : List Saying). l ++ outs) shows.talk_is ∙ append_assoc shows.past (Carried Out shows.pdu ∷ shows.later) outs) in
    let at = place policy [] list shows.past (shows.later ++ outs) shows.past shows.pdu all refl in
    let handed = handed-open policy party channel at.front states (subst (λ (l : List Saying). is_open_in channel l ≡ true) (sym at.said_is) shows.still_open) in
    let same : sdus party channel Into (run_of policy list).said ≡ sdus_up channel.own (run_of policy at.front).up = at_end ∙ (sym shows.all_came ∙ (ap (λ (l : List Saying). sdus party channel Into l) (sym at.said_is) ∙ handed)) in
    let few = subst (λ (l : List Occurrence). length (sdus_up channel.own (run_of policy at.front).up) ≤ length (sdus_up channel.own (run_of policy l).up)) (sym at.list_is) (ups_grow policy channel.own at.front at.rest) in
    by same few (sdus_up channel.own (run_of policy list).up) refl (sdus-are_read policy party list channel states)
  where
    by : {broken : Bool} {front : List (List ℕ)} → sdus party channel Into (run_of policy list).said ≡ front → length front ≤ length (sdus_up channel.own (run_of policy list).up) → (ups : List (List ℕ)) → sdus_up channel.own (run_of policy list).up ≡ ups
        → IsHandedUp broken ups (sdus party channel Into (run_of policy list).said) → sdus party channel Into (run_of policy list).said ≡ sdus_up channel.own (run_of policy list).up
    by same few ups are (inl is) = is ∙ sym are
    by same few ups are (inr (was, sdu, is)) = let a = ap length (sym same ∙ is) in let b = length-append ups (sdu ∷ []) in let c = ap length are in absurd (omega (arith, a, b, c, few))
