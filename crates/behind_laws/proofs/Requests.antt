-- On each channel of objects of a link no more responses are due than were taken, wherever a request comes that has one; and all that comes on it is handed up.
use Rattle.std.proofs.Common.{◌≡◌, ◌≤◌, ℕ, Bool, true, false, cond, eqb, List, [], ◌∷◌, ◌++◌, length, drop, filter_map, find, Some, None, refl, sym, ap, ap₂, subst, ◌∙◌, append_assoc, append-nil, arith, inl, inr, length-append}
use Rattle.std.specs.Prelude.{◌⊎◌}
use Rattle.std.specs.List.{AllByRecursion, cons_option}
use Rattle.std.proofs.lemmas.Bool.{eq-eqb}
use Rattle.std.proofs.lemmas.List.Elements.{filter_map-append}
use Rattle.request_laws.specs.acl_fragments.specs.Pieces.{channel_of}
use Rattle.request_laws.specs.bt_base.specs.declared.settings.Settings.{Settings}
use Rattle.request_laws.specs.capture.specs.declared.flow.Flow.TheVariants.{Out, Into}
use Rattle.request_laws.specs.capture.specs.Histories.{EachAfter}
use Rattle.request_laws.specs.l2cap_config.specs.declared.wish.Mode.TheVariants.{Enhanced}
use Rattle.request_laws.specs.l2cap_signal.specs.Reading.{answers}
use Rattle.request_laws.specs.link_talk.specs.declared.channel.Channel.{Channel}
use Rattle.request_laws.specs.link_talk.specs.declared.party.Party.{Party}
use Rattle.request_laws.specs.link_talk.specs.Carriages.{has_own, mode_of, pdus_of, stretch}
use Rattle.request_laws.specs.link_talk.specs.Channels.{reading}
use Rattle.request_laws.specs.link_talk.specs.GrowingLaws.{has_opened}
use Rattle.request_laws.specs.link_talk.specs.Sayings.{Saying, Command, Carried, GaveUp}
use Rattle.request_laws.specs.link_talk.specs.Sdus.{sdus, sdus_by}
use Rattle.request_laws.specs.push_terms.specs.declared.word.Side.TheVariants as sides
use Rattle.request_laws.specs.channel_model.specs.Carrying.{takes, Up as Handed, Nothing, Received, up_at}
use Rattle.request_laws.specs.channel_model.specs.Hearing.{up}
use Rattle.request_laws.specs.channel_model.specs.Policies.{Policy, policy}
use Rattle.request_laws.specs.channel_model.specs.Value.{Channels}
use Rattle.request_laws.specs.channel_laws.specs.Endpoints.{IsOf}
use Rattle.request_laws.specs.channel_laws.specs.Frames.{IsUttered, AreUttered}
use Rattle.request_laws.specs.channel_laws.specs.OwnTalk.{asked_between, said_with_all}
use Rattle.request_laws.specs.channel_laws.specs.Runs.{Occurrence, Comes, Run, run_of, sdu_up, sdus_up}
use Rattle.request_laws.specs.channel_laws.specs.Sdus.{StatesFrame, IsHandedUp}
use Rattle.request_laws.specs.channel_laws.specs.Taken.{taken_of}
use Rattle.request_laws.specs.channel_laws.specs.Views.{read_at}
use Rattle.request_laws.specs.channel_laws.proofs.Incoming.{sdus-are_read}
use Rattle.request_laws.specs.channel_laws.proofs.Signalling.{bare-asked, bare-comes}
use Rattle.request_laws.specs.channel_laws.proofs.Stretching.{NoneComes, stays-heard}
use Rattle.request_laws.specs.channel_laws.proofs.Taken.{taken-goes_out}
use Rattle.request_laws.specs.obex_session.specs.Calls.{session_behind}
use Rattle.request_laws.specs.obex_session.specs.Views.{is_silent}
use Rattle.request_laws.specs.push_laws.specs.Answers.{said}
use Rattle.request_laws.specs.push_model.specs.Server.{object_psm}
use Rattle.request_laws.specs.host_laws.specs.Gaining.{HandsAllUp}
use Rattle.request_laws.specs.host_laws.specs.OverLinks.{GoesOut}
use Rattle.request_laws.specs.host_laws.specs.Told.{sdus_told, told_on}
use Rattle.request_laws.specs.host_laws.proofs.Profiles.{sdus-so}
use Rattle.request_laws.specs.host_laws.proofs.SearchingWeave.{each_split}
use Rattle.request_laws.specs.host_laws.proofs.Telling.{sdus_run}
use Rattle.request_laws.proofs.Takes.{run_more, grown}
use Rattle.unit_laws.specs.scenario_laws.specs.Parties.{party_of}
use Rattle.unit_laws.specs.scenario_laws.proofs.Wishes.{states_frame}
use Rattle.following_laws.proofs.Moments.{one_of}
use Rattle.orderly_laws.specs.Answered.{responses_on, fresh_session, responses_due, LastIsDue, ShowsOpen, ComesBehind, IsAnswered, AreAnswered}
use Rattle.orderly_laws.proofs.Behind.{all-shown}
use Rattle.orderly_laws.proofs.Due.{due_front, due_one}
use Rattle.orderly_laws.proofs.Modes.{IsWished, none-or_wished}
use Rattle.orderly_laws.proofs.Moments.{of-stays, stands, unopened_out, fewer_said, more_responses, answered-at}

-- ---- what comes in is not of what goes out behind

record Front (talk past : List Saying) (one : Saying) : Type 0 where
  more : List Saying
  is : talk ≡ past ++ one ∷ more

out_at : (past tail : List Saying) (one : Saying) → AllByRecursion GoesOut (past ++ one ∷ tail) → GoesOut one
out_at [] tail one all = all.0
out_at (other ∷ past) tail one all = out_at past tail one all.1

front_in : (talk outs past tail : List Saying) (one : Saying) → AllByRecursion GoesOut outs → (GoesOut one → ⊥) → talk ++ outs ≡ past ++ one ∷ tail → Front talk past one
front_in [] outs past tail one out comes is = absurd (comes (out_at past tail one (subst (AllByRecursion GoesOut) is out)))
front_in (first ∷ talk) outs [] tail one out comes is = let same : first ≡ one = cc in record { more = talk; is = ap (λ (s : Saying). s ∷ talk) same }
front_in (first ∷ talk) outs (other ∷ past) tail one out comes is =
    let same : first ≡ other = cc in
    let rest = front_in talk outs past tail one out comes cc in
    record { more = rest.more; is = ap₂ (λ (s : Saying) (l : List Saying). s ∷ l) same rest.is }

out_comes : (outs : List Saying) → AllByRecursion GoesOut outs → NoneComes outs
out_comes [] out = refl
out_comes (Command Out answer ∷ outs) out = out_comes outs out.1
out_comes (Command Into answer ∷ outs) out = absurd out.0
out_comes (Carried Out pdu ∷ outs) out = out_comes outs out.1
out_comes (Carried Into pdu ∷ outs) out = absurd out.0
out_comes (GaveUp forgone ∷ outs) out = absurd out.0

-- ---- to what is read of a channel no fewer responses are due than to what was handed up

read_more : (settings : Settings) (broken : Bool) (ups read : List (List ℕ)) → IsHandedUp broken ups read → responses_due settings ups ≤ responses_due settings read
read_more settings broken ups read (inl same) = let e = ap (responses_due settings) same in omega (arith, e)
read_more settings broken ups read (inr (is, sdu, same)) = let e = ap (responses_due settings) same in let front = due_front settings ups (sdu ∷ []) in omega (arith, e, front)

-- and no more where it is no longer
read_all : (settings : Settings) (broken : Bool) (ups read : List (List ℕ)) → LastIsDue settings read → IsHandedUp broken ups read → responses_due settings read ≤ responses_due settings ups → read ≡ ups
read_all settings broken ups read last (inl same) few = same
read_all settings broken ups read last (inr (is, sdu, same)) few = let e = ap (responses_due settings) same ∙ due_one settings ups sdu (last ups sdu same) in absurd (omega (arith, e, few))

-- ---- how many responses an end of a channel took

abbrev pub took : Settings → ℕ → List Occurrence → ℕ
took settings own list = length (filter_map said (taken_of (policy settings true) own list))

module _ (settings : Settings) (list : List Occurrence) (talk outs : List Saying) (said_is : (run_of (policy settings true) list).said ≡ talk ++ outs) (go_out : AllByRecursion GoesOut outs) (uttered : AreUttered (policy settings true) list)
    (answered : AreAnswered settings (party_of settings sides.B) talk) (one : Channel) (psm_is : one.psm ≡ object_psm) (there : IsOf one (read_at one.own (reading (run_of (policy settings true) list).said).entries)) where
  abbrev own : Policy
  own = policy settings true

  abbrev party : Party
  party = party_of settings sides.B

  abbrev said_on : List Occurrence → List Saying
  said_on front = (run_of (policy settings true) front).said

  abbrev ups_on : List Occurrence → List (List ℕ)
  ups_on front = sdus_up one.own (run_of (policy settings true) front).up

  states : StatesFrame (policy settings true) (party_of settings sides.B)
  states = states_frame settings true sides.B

  -- it is answered
  has : IsAnswered settings party talk one
  has = answered-at settings party talk outs one psm_is answered (subst (λ (l : List Saying). IsOf one (read_at one.own (reading l).entries)) said_is there)

  -- ---- its mode, where anything came on it

  wished_so : (front later : List Occurrence) → list ≡ front ++ later → IsWished own one (said_on front) → mode_of one (said_on front) ≡ Enhanced
  wished_so front later is wished =
      let g = grown own front later in
      let at_end : IsOf wished.channel (read_at one.own (reading (said_on list)).entries) =
      subst (λ (l : List Saying). IsOf wished.channel (read_at one.own (reading l).entries)) (sym (ap said_on is ∙ g.is)) (of-stays wished.channel one.own (said_on front) g.more wished.of) in
      wished.mode_is ∙ ap (λ (psm : ℕ). (own.wish psm).mode) (ap (λ (c : Channel). c.psm) (one_of wished.channel one (read_at one.own (reading (said_on list)).entries) at_end there) ∙ psm_is)

  -- what its talk says that went is no more than what its channel took
  responses_few : (front later : List Occurrence) → list ≡ front ++ later → (has_opened (find (has_own one) (reading (said_on front)).entries) ≡ true → mode_of one (said_on front) ≡ Enhanced) → length (responses_on party one (said_on front)) ≤ took settings one.own front
  responses_few front later is mode = by (has_opened (find (has_own one) (reading (said_on front)).entries)) refl
    where
      utters : AreUttered own front
      utters = (each_split (λ before next. IsUttered next (run_of own before).value) [] front later (subst (AreUttered own) is uttered)).0

      by : (opened : Bool) → has_opened (find (has_own one) (reading (said_on front)).entries) ≡ opened → length (responses_on party one (said_on front)) ≤ took settings one.own front
      by false shut = let none = ap (λ (l : List (List ℕ)). length (filter_map said l)) (unopened_out party one (said_on front) shut) in omega (arith, none)
      by true open' = fewer_said (sdus party one Out (said_on front)) (taken_of own one.own front) (taken-goes_out own party front one states utters (mode open'))

  -- ---- one more comes

  abbrev asked : List Occurrence → List ℕ → List Saying
  asked front pdu = asked_between (run_of own front).value (takes (channel_of pdu) pdu (run_of own front).value)

  abbrev Brings : List Occurrence → List ℕ → List ℕ → Type 0
  Brings front pdu sdu = up (channel_of pdu) pdu (run_of (policy settings true) front).value ≡ Received one.own object_psm sdu

  no_signal : (front : List Occurrence) (pdu sdu : List ℕ) → Brings front pdu sdu → eqb (channel_of pdu) 0x0001 ≡ false
  no_signal front pdu sdu brought = by (eqb (channel_of pdu) 0x0001) refl
    where
      by : (signals : Bool) → eqb (channel_of pdu) 0x0001 ≡ signals → signals ≡ false
      by false is = refl
      by true is = let never : Nothing ≡ Received one.own object_psm sdu = sym (ap (λ (b : Bool). cond b Nothing (up_at (channel_of pdu) pdu (run_of own front).value)) is) ∙ brought in cc

  said_next : (front : List Occurrence) (pdu : List ℕ) → eqb (channel_of pdu) 0x0001 ≡ false → said_on (front ++ Comes pdu ∷ []) ≡ (said_on front ++ Carried Into pdu ∷ []) ++ asked front pdu
  said_next front pdu plain =
      let v : Channels = (run_of own front).value in
      ap (λ (r : Run). r.said) (run_more own front (Comes pdu))
      ∙ (ap (λ (b : Bool). said_on front ++ cond b (said_with_all own (answers (drop 4 pdu)) v) (Carried Into pdu ∷ asked front pdu)) plain ∙ sym (append_assoc (said_on front) (Carried Into pdu ∷ []) (asked front pdu)))

  ups_next : (front : List Occurrence) (pdu sdu : List ℕ) → Brings front pdu sdu → ups_on (front ++ Comes pdu ∷ []) ≡ ups_on front ++ sdu ∷ []
  ups_next front pdu sdu brought =
      ap (λ (r : Run). sdus_up one.own r.up) (run_more own front (Comes pdu))
      ∙ (filter_map-append (sdu_up one.own) (run_of own front).up (up (channel_of pdu) pdu (run_of own front).value ∷ [])
      ∙ (ap (λ (u : Handed). ups_on front ++ sdus_up one.own (u ∷ [])) brought ∙ ap (λ (b : Bool). ups_on front ++ cons_option (cond b (Some sdu) None) []) (eq-eqb one.own one.own refl)))

  -- as a request comes its channel is in that mode
  mode_before : (front rest : List Occurrence) (pdu sdu : List ℕ) → list ≡ front ++ Comes pdu ∷ rest → Brings front pdu sdu → has_opened (find (has_own one) (reading (said_on front)).entries) ≡ true → mode_of one (said_on front) ≡ Enhanced
  mode_before front rest pdu sdu is brought open' =
      let next = front ++ Comes pdu ∷ [] in
      let further : list ≡ next ++ rest = is ∙ sym (append_assoc front (Comes pdu ∷ []) rest) in
      let grown_by : said_on next ≡ said_on front ++ (Carried Into pdu ∷ asked front pdu) = said_next front pdu (no_signal front pdu sdu brought) ∙ append_assoc (said_on front) (Carried Into pdu ∷ []) (asked front pdu) in
      let later = stands one (said_on front) (Carried Into pdu ∷ asked front pdu) open' in
      elim (none-or_wished own party one next) [
        | inl none ↦ absurd (never (ups_on next) (sdus party one Into (said_on next)) none (ups_next front pdu sdu brought) (sdus-are_read own party next one states))
        | inr wished ↦ sym later.mode_is ∙ (ap (mode_of one) (sym grown_by) ∙ wished_so next rest further wished)
      ]
    where
      never : {broken : Bool} (ups read : List (List ℕ)) → read ≡ [] → ups ≡ ups_on front ++ sdu ∷ [] → IsHandedUp broken ups read → ⊥
      never ups read none some (inl same) = let e = ap length (sym none ∙ (same ∙ some)) in let sum = length-append (ups_on front) (sdu ∷ []) in omega (arith, e, sum)
      never ups read none some (inr (is', other, same)) = let e = ap length (sym none ∙ same) in let sum = length-append ups (other ∷ []) in omega (arith, e, sum)

  -- a request that has a response comes when no more are due than were taken
  pub behind-responses : (front rest : List Occurrence) (pdu sdu : List ℕ) → list ≡ front ++ Comes pdu ∷ rest → up (channel_of pdu) pdu (run_of (policy settings true) front).value ≡ Received one.own object_psm sdu
      → is_silent (session_behind (fresh_session settings) (sdus_up one.own (run_of (policy settings true) front).up)) sdu ≡ false → responses_due settings (sdus_up one.own (run_of (policy settings true) front).up) ≤ took settings one.own front
  behind-responses front rest pdu sdu is brought loud =
      let past = said_on front in
      let next = front ++ Comes pdu ∷ [] in
      let plain = no_signal front pdu sdu brought in
      let further : list ≡ next ++ rest = is ∙ sym (append_assoc front (Comes pdu ∷ []) rest) in
      let g = grown own next rest in
      let all : talk ++ outs ≡ past ++ Carried Into pdu ∷ (asked front pdu ++ g.more) =
      sym said_is
      ∙ (ap said_on further
      ∙ (g.is ∙ (ap (λ (l : List Saying). l ++ g.more) (said_next front pdu plain) ∙ (append_assoc (past ++ Carried Into pdu ∷ []) (asked front pdu) g.more ∙ append_assoc past (Carried Into pdu ∷ []) (asked front pdu ++ g.more))))) in
      let split = front_in talk outs past (asked front pdu ++ g.more) (Carried Into pdu) go_out (λ never. never) all in
      let turn : ComesBehind settings party one past (Carried Into pdu) = (each_split (ComesBehind settings party one) [] past (Carried Into pdu ∷ split.more) (subst (EachAfter (ComesBehind settings party one) []) split.is has.in_turn)).1.0 in
      let read = read_more settings _ (ups_on next) (sdus party one Into (said_on next)) (sdus-are_read own party next one states) in
      let same = ap (λ (l : List Saying). responses_due settings (sdus party one Into l)) (said_next front pdu plain)
      ∙ ap (responses_due settings) (stays-heard party one (asked front pdu) (past ++ Carried Into pdu ∷ []) (bare-comes (asked front pdu) (bare-asked (run_of own front).value (takes (channel_of pdu) pdu (run_of own front).value)))).sdus_are in
      let more = ap (responses_due settings) (ups_next front pdu sdu brought) ∙ due_one settings (ups_on front) sdu loud in
      let few = responses_few front (Comes pdu ∷ rest) is (mode_before front rest pdu sdu is brought) in
      omega (arith, turn, read, same, more, few)

  -- ---- all is handed up

  same_frame : (other : Party) → StatesFrame own other → sdus other one Into (said_on list) ≡ sdus party one Into (said_on list)
  same_frame other has' = ap (λ (n : ℕ). sdus_by n (mode_of one (said_on list)) (pdus_of Into (stretch one (said_on list)))) (sym (has' 0) ∙ states 0)

  -- what is read of it at the end is what its talk says that came
  at_end : sdus party one Into (said_on list) ≡ sdus party one Into talk
  at_end = ap (λ (l : List Saying). sdus party one Into l) said_is ∙ (stays-heard party one outs talk (out_comes outs go_out)).sdus_are

  -- where no more was taken than is due to what was handed up
  read_few : took settings one.own list ≤ responses_due settings (ups_on list) → responses_due settings (sdus party one Into (said_on list)) ≤ responses_due settings (ups_on list)
  read_few few = elim (none-or_wished own party one list) [
    | inl none ↦ let zero_is = ap (responses_due settings) none in omega (arith, zero_is)
    | inr wished ↦
        let each = has.each in
        let more = more_responses party one talk outs in
        let same = ap (λ (l : List Saying). length (responses_on party one l)) said_is in
        let took' = fewer_said (sdus party one Out (said_on list)) (taken_of own one.own list) (taken-goes_out own party list one states uttered (wished_so list [] (sym (append-nil list)) wished)) in
        let e = ap (responses_due settings) at_end in
        omega (arith, e, each, more, same, took', few)
  ]

  pub all-handed_up : took settings one.own list ≤ responses_due settings (sdus_up one.own (run_of (policy settings true) list).up) → (run_of (policy settings true) list).value.events ≡ [] → HandsAllUp (policy settings true) list one
  all-handed_up few none broken other has' = same_frame other has' ∙ by has.last
    where
      by : LastIsDue settings (sdus party one Into talk) ⊎ ShowsOpen party talk one → sdus party one Into (said_on list) ≡ sdus_told one.own (told_on own list)
      by (inl due) =
          let short = read_few few in
          let ups = ap (responses_due settings) (sdus_run own one.own list) in
          read_all settings _ (sdus_told one.own (told_on own list)) (sdus party one Into (said_on list)) (subst (LastIsDue settings) (sym at_end) due) (sdus-so own party list states none one) (omega (arith, short, ups))
      by (inr shows) = all-shown own party one list talk outs states said_is shows at_end ∙ sdus_run own one.own list
