-- On the one channel of the object of a link no more responses are due than were taken, wherever a request comes that has one.
use Rattle.std.proofs.Common.{◌≡◌, ◌≤◌, ℕ, Bool, true, false, cond, eqb, List, [], ◌∷◌, ◌++◌, length, drop, filter_map, find, Option, Some, None, refl, sym, ap, ap₂, subst, ◌∙◌, append_assoc, append-nil, arith, inl, inr, length-append}
use Rattle.std.specs.Prelude.{◌⊎◌}
use Rattle.std.specs.List.{AllByRecursion, cons_option}
use Rattle.std.proofs.lemmas.Bool.{eq-eqb}
use Rattle.std.proofs.lemmas.List.Elements.{filter_map-append}
use Rattle.request_laws.specs.acl_fragments.specs.Pieces.{channel_of}
use Rattle.request_laws.specs.bt_base.specs.declared.settings.Settings.{Settings}
use Rattle.request_laws.specs.capture.specs.declared.flow.Flow.TheVariants.{Out, Into}
use Rattle.request_laws.specs.capture.specs.Histories.{EachAfter}
use Rattle.request_laws.specs.l2cap_config.specs.declared.wish.Mode.TheVariants.{Enhanced}
use Rattle.request_laws.specs.l2cap_signal.specs.Reading.{answers}
use Rattle.request_laws.specs.link_talk.specs.declared.channel.Channel.{Channel}
use Rattle.request_laws.specs.link_talk.specs.declared.party.Party.{Party}
use Rattle.request_laws.specs.link_talk.specs.Carriages.{has_own, mode_of, pdus_of, stretch}
use Rattle.request_laws.specs.link_talk.specs.Channels.{Entry, reading}
use Rattle.request_laws.specs.link_talk.specs.GrowingLaws.{has_opened}
use Rattle.request_laws.specs.link_talk.specs.Sayings.{Saying, Command, Carried, GaveUp}
use Rattle.request_laws.specs.link_talk.specs.Sdus.{sdus, sdus_by}
use Rattle.request_laws.specs.push_terms.specs.declared.word.Side.TheVariants as sides
use Rattle.request_laws.specs.channel_model.specs.Carrying.{takes, Up as Handed, Nothing, Received, up_at}
use Rattle.request_laws.specs.channel_model.specs.Hearing.{up}
use Rattle.request_laws.specs.channel_model.specs.Policies.{Policy, policy}
use Rattle.request_laws.specs.channel_model.specs.Value.{Channels}
use Rattle.request_laws.specs.channel_laws.specs.Endpoints.{IsOf}
use Rattle.request_laws.specs.channel_laws.specs.Frames.{IsUttered, AreUttered}
use Rattle.request_laws.specs.channel_laws.specs.OwnTalk.{asked_between, said_with_all}
use Rattle.request_laws.specs.channel_laws.specs.Runs.{Occurrence, Comes, Run, run_of, sdus_up}
use Rattle.request_laws.specs.channel_laws.specs.Sdus.{StatesFrame, IsHandedUp}
use Rattle.request_laws.specs.channel_laws.specs.Taken.{taken_of}
use Rattle.request_laws.specs.channel_laws.specs.Views.{channel_by, read_at}
use Rattle.request_laws.specs.channel_laws.proofs.Entries.{read-own}
use Rattle.request_laws.specs.channel_laws.proofs.Incoming.{sdus-are_read}
use Rattle.request_laws.specs.channel_laws.proofs.Signalling.{bare-asked, bare-comes}
use Rattle.request_laws.specs.channel_laws.proofs.Stretching.{NoneComes, stays-heard}
use Rattle.request_laws.specs.channel_laws.proofs.Taken.{taken-goes_out}
use Rattle.request_laws.specs.obex_session.specs.Calls.{session_behind}
use Rattle.request_laws.specs.obex_session.specs.Views.{is_silent}
use Rattle.request_laws.specs.push_laws.specs.Answers.{said}
use Rattle.request_laws.specs.push_model.specs.Server.{object_psm}
use Rattle.request_laws.specs.host_laws.specs.Gaining.{HandsAllUp}
use Rattle.request_laws.specs.host_laws.specs.OneCarrier.{CarriesAlone}
use Rattle.request_laws.specs.host_laws.specs.OverLinks.{GoesOut}
use Rattle.request_laws.specs.host_laws.specs.Told.{sdus_told, told_on}
use Rattle.request_laws.specs.host_laws.proofs.Profiles.{sdus-so}
use Rattle.request_laws.specs.host_laws.proofs.SearchingWeave.{each_split}
use Rattle.request_laws.specs.host_laws.proofs.Telling.{sdus_run}
use Rattle.unit_laws.specs.scenario_laws.specs.Parties.{party_of}
use Rattle.unit_laws.specs.scenario_laws.proofs.Wishes.{states_frame}
use Rattle.request_laws.specs.HandedUp.{up_for, handed_for}
use Rattle.request_laws.proofs.Accepted.{Accepted, accepted-stays, Opened, OpenedUp, opened-up, up-stays, all-opened}
use Rattle.request_laws.proofs.Sole.{is_of, for_of, IsSole, sole}
use Rattle.request_laws.proofs.Takes.{run_more, grown}
use Rattle.orderly_laws.specs.Answered.{responses_on, fresh_session, responses_due, LastIsDue, ShowsOpen, ComesBehind, IsAnswered, AreAnswered}
use Rattle.orderly_laws.proofs.Behind.{all-shown}
use Rattle.orderly_laws.proofs.Due.{due_front, due_one, no_last}
use Rattle.orderly_laws.proofs.Modes.{IsWished, none-or_wished}
use Rattle.orderly_laws.proofs.Moments.{of-stays, stands, unopened_out, unopened_in, fewer_said, more_responses, answered-at}

-- ---- what comes in is not of what goes out behind

record Splits (talk past : List Saying) (one : Saying) : Type 0 where
  more : List Saying
  is : talk ≡ past ++ one ∷ more

out_at : (past tail : List Saying) (one : Saying) → AllByRecursion GoesOut (past ++ one ∷ tail) → GoesOut one
out_at [] tail one all = all.0
out_at (other ∷ past) tail one all = out_at past tail one all.1

split_in : (talk outs past tail : List Saying) (one : Saying) → AllByRecursion GoesOut outs → (GoesOut one → ⊥) → talk ++ outs ≡ past ++ one ∷ tail → Splits talk past one
split_in [] outs past tail one out comes is = absurd (comes (out_at past tail one (subst (AllByRecursion GoesOut) is out)))
split_in (first ∷ talk) outs [] tail one out comes is = let same : first ≡ one = cc in record { more = talk; is = ap (λ (s : Saying). s ∷ talk) same }
split_in (first ∷ talk) outs (other ∷ past) tail one out comes is =
    let same : first ≡ other = cc in
    let rest = split_in talk outs past tail one out comes cc in
    record { more = rest.more; is = ap₂ (λ (s : Saying) (l : List Saying). s ∷ l) same rest.is }

out_comes : (outs : List Saying) → AllByRecursion GoesOut outs → NoneComes outs
out_comes [] out = refl
out_comes (Command Out answer ∷ outs) out = out_comes outs out.1
out_comes (Command Into answer ∷ outs) out = absurd out.0
out_comes (Carried Out pdu ∷ outs) out = out_comes outs out.1
out_comes (Carried Into pdu ∷ outs) out = absurd out.0
out_comes (GaveUp forgone ∷ outs) out = absurd out.0

-- ---- to what is read of a channel no fewer responses are due than to what was handed up

read_more : (settings : Settings) (broken : Bool) (ups read : List (List ℕ)) → IsHandedUp broken ups read → responses_due settings ups ≤ responses_due settings read
read_more settings broken ups read (inl same) = let e = ap (responses_due settings) same in omega (arith, e)
read_more settings broken ups read (inr (is, sdu, same)) = let e = ap (responses_due settings) same in let front = due_front settings ups (sdu ∷ []) in omega (arith, e, front)

-- and no more where it is no longer
read_all : (settings : Settings) (broken : Bool) (ups read : List (List ℕ)) → LastIsDue settings read → IsHandedUp broken ups read → responses_due settings read ≤ responses_due settings ups → read ≡ ups
read_all settings broken ups read last (inl same) few = same
read_all settings broken ups read last (inr (is, sdu, same)) few = let e = ap (responses_due settings) same ∙ due_one settings ups sdu (last ups sdu same) in absurd (omega (arith, e, few))

module _ (settings : Settings) (list : List Occurrence) (talk outs : List Saying) (said_is : (run_of (policy settings true) list).said ≡ talk ++ outs) (go_out : AllByRecursion GoesOut outs) (uttered : AreUttered (policy settings true) list)
    (one : Channel) (psm_is : one.psm ≡ object_psm) (alone : CarriesAlone one (run_of (policy settings true) list).said) (answered : AreAnswered settings (party_of settings sides.B) talk) where
  abbrev own : Policy
  own = policy settings true

  abbrev party : Party
  party = party_of settings sides.B

  states : StatesFrame (policy settings true) (party_of settings sides.B)
  states = states_frame settings true sides.B

  -- ---- the channel

  abbrev entries : List Entry
  entries = (reading (run_of (policy settings true) list).said).entries

  pub sole-at : (psm at peer : ℕ) → Accepted (channel_by psm at peer) (read_at at (reading (run_of (policy settings true) list).said).entries) → IsSole object_psm one (channel_by psm at peer)
  sole-at psm at peer is = sole object_psm one (channel_by psm at peer) (λ other aside same. aside.0 same) psm_is (for_of one (channel_by psm at peer) (run_of own list).said at alone (is_of (channel_by psm at peer) (read_at at entries) is))

  pub sure-at : (psm at : ℕ) → Opened (run_of (policy settings true) list).said psm at → eqb psm object_psm ≡ eqb at one.own
  sure-at psm at (peer, is) = (sole-at psm at peer is).agrees

  -- ---- what was handed up of it

  ups_same : (ups : List Handed) → AllByRecursion (OpenedUp (run_of own list).said) ups → handed_for object_psm ups ≡ sdus_up one.own ups
  ups_same [] all = refl
  ups_same (Nothing ∷ ups) all = ups_same ups all.1
  ups_same (Received at psm sdu ∷ ups) all = ap₂ (λ (b : Bool) (l : List (List ℕ)). cons_option (cond b (Some sdu) None) l) (sure-at psm at all.0) (ups_same ups all.1)

  all_stay : (front later : List Occurrence) (ups : List Handed) → list ≡ front ++ later → AllByRecursion (OpenedUp (run_of own front).said) ups → AllByRecursion (OpenedUp (run_of own list).said) ups
  all_stay front later [] is all = tt
  all_stay front later (brought ∷ ups) is all = (subst (λ (l : List Occurrence). OpenedUp (run_of own l).said brought) (sym is) (up-stays own front later brought all.0), all_stay front later ups is all.1)

  pub handed-up : (front later : List Occurrence) → list ≡ front ++ later → handed_for object_psm (run_of (policy settings true) front).up ≡ sdus_up one.own (run_of (policy settings true) front).up
  handed-up front later is = ups_same (run_of own front).up (all_stay front later (run_of own front).up is (all-opened own front))

  -- ---- it is answered

  talk_has : IsOf one (read_at one.own entries) → IsAnswered settings party talk one
  talk_has is = answered-at settings party talk outs one psm_is answered (subst (λ (l : List Saying). IsOf one (read_at one.own (reading l).entries)) said_is is)

  -- where its own end brings an SDU it is read
  brings_has : (front rest : List Occurrence) (pdu : List ℕ) (at : ℕ) (sdu : List ℕ) → list ≡ front ++ Comes pdu ∷ rest → up (channel_of pdu) pdu (run_of own front).value ≡ Received at object_psm sdu → IsOf one (read_at one.own entries)
  brings_has front rest pdu at sdu is brought = by (subst (OpenedUp (run_of own front).said) brought (opened-up own front (Comes pdu)))
    where
      by : Opened (run_of own front).said object_psm at → IsOf one (read_at one.own entries)
      by (peer, accepted) =
          let later : Accepted (channel_by object_psm at peer) (read_at at entries) =
          subst (λ (l : List Occurrence). Accepted (channel_by object_psm at peer) (read_at at (reading (run_of own l).said).entries)) (sym is) (accepted-stays own front (Comes pdu ∷ rest) (channel_by object_psm at peer) at accepted) in
          subst (λ (c : Channel). IsOf c (read_at c.own entries)) ((sole-at object_psm at peer later).same (eq-eqb object_psm object_psm refl)) (is_of (channel_by object_psm at peer) (read_at at entries) later)

  -- ---- its mode

  -- where anything came on it
  wished_so : (front later : List Occurrence) → list ≡ front ++ later → IsWished own one (run_of own front).said → mode_of one (run_of own front).said ≡ Enhanced
  wished_so front later is wished =
      let g = grown own front later in
      let there : IsOf wished.channel (read_at one.own entries) =
      subst (λ (l : List Saying). IsOf wished.channel (read_at one.own (reading l).entries)) (sym (ap (λ (l : List Occurrence). (run_of own l).said) is ∙ g.is)) (of-stays wished.channel one.own (run_of own front).said g.more wished.of) in
      wished.mode_is ∙ ap (λ (psm : ℕ). (own.wish psm).mode) (ap (λ (c : Channel). c.psm) (by (read_at one.own entries) refl there) ∙ psm_is)
    where
      by : (found : Option Entry) → read_at one.own entries ≡ found → IsOf wished.channel found → wished.channel ≡ one
      by None at of = absurd of
      by (Some entry) at of =
          sym of ∙ (for_of one entry.channel (run_of own list).said one.own alone (subst (IsOf entry.channel) (sym at) refl)).same (eq-eqb entry.channel.own one.own (read-own one.own entries entry at))

  -- what its talk says that went is no more than what its channel took
  responses_few : (front later : List Occurrence) → list ≡ front ++ later → (has_opened (find (has_own one) (reading (run_of own front).said).entries) ≡ true → mode_of one (run_of own front).said ≡ Enhanced)
      → length (responses_on party one (run_of own front).said) ≤ length (filter_map said (taken_of own one.own front))
  responses_few front later is mode = by (has_opened (find (has_own one) (reading (run_of own front).said).entries)) refl
    where
      past : List Saying
      past = (run_of own front).said

      utters : AreUttered own front
      utters = (each_split (λ before next. IsUttered next (run_of own before).value) [] front later (subst (AreUttered own) is uttered)).0

      by : (opened : Bool) → has_opened (find (has_own one) (reading (run_of own front).said).entries) ≡ opened → length (responses_on party one (run_of own front).said) ≤ length (filter_map said (taken_of own one.own front))
      by false shut = let none = ap (λ (l : List (List ℕ)). length (filter_map said l)) (unopened_out party one past shut) in omega (arith, none)
      by true open' = fewer_said (sdus party one Out past) (taken_of own one.own front) (taken-goes_out own party front one states utters (mode open'))

  -- ---- one more comes

  abbrev asked : List Occurrence → List ℕ → List Saying
  asked front pdu = asked_between (run_of own front).value (takes (channel_of pdu) pdu (run_of own front).value)

  no_signal : (front : List Occurrence) (pdu : List ℕ) (at : ℕ) (sdu : List ℕ) → up (channel_of pdu) pdu (run_of own front).value ≡ Received at object_psm sdu → eqb (channel_of pdu) 0x0001 ≡ false
  no_signal front pdu at sdu brought = by (eqb (channel_of pdu) 0x0001) refl
    where
      by : (signals : Bool) → eqb (channel_of pdu) 0x0001 ≡ signals → signals ≡ false
      by false is = refl
      by true is = let never : Nothing ≡ Received at object_psm sdu = sym (ap (λ (b : Bool). cond b Nothing (up_at (channel_of pdu) pdu (run_of own front).value)) is) ∙ brought in cc

  said_next : (front : List Occurrence) (pdu : List ℕ) → eqb (channel_of pdu) 0x0001 ≡ false → (run_of own (front ++ Comes pdu ∷ [])).said ≡ ((run_of own front).said ++ Carried Into pdu ∷ []) ++ asked front pdu
  said_next front pdu plain =
      let v : Channels = (run_of own front).value in
      ap (λ (r : Run). r.said) (run_more own front (Comes pdu))
      ∙ (ap (λ (b : Bool). (run_of own front).said ++ cond b (said_with_all own (answers (drop 4 pdu)) v) (Carried Into pdu ∷ asked front pdu)) plain ∙ sym (append_assoc (run_of own front).said (Carried Into pdu ∷ []) (asked front pdu)))

  handed_next : (front : List Occurrence) (pdu : List ℕ) (at : ℕ) (sdu : List ℕ) → up (channel_of pdu) pdu (run_of own front).value ≡ Received at object_psm sdu
      → handed_for object_psm (run_of own (front ++ Comes pdu ∷ [])).up ≡ handed_for object_psm (run_of own front).up ++ sdu ∷ []
  handed_next front pdu at sdu brought =
      ap (λ (r : Run). handed_for object_psm r.up) (run_more own front (Comes pdu))
      ∙ (filter_map-append (up_for object_psm) (run_of own front).up (up (channel_of pdu) pdu (run_of own front).value ∷ [])
      ∙ ap (λ (u : Handed). handed_for object_psm (run_of own front).up ++ handed_for object_psm (u ∷ [])) brought)

  -- as a request comes its channel is in that mode
  mode_before : (front rest : List Occurrence) (pdu : List ℕ) (at : ℕ) (sdu : List ℕ) → list ≡ front ++ Comes pdu ∷ rest → up (channel_of pdu) pdu (run_of own front).value ≡ Received at object_psm sdu → has_opened (find (has_own one) (reading (run_of own front).said).entries) ≡ true
      → mode_of one (run_of own front).said ≡ Enhanced
  mode_before front rest pdu at sdu is brought open' =
      let past = (run_of own front).said in
      let next = front ++ Comes pdu ∷ [] in
      let further : list ≡ next ++ rest = is ∙ sym (append_assoc front (Comes pdu ∷ []) rest) in
      let grown_by : (run_of own next).said ≡ past ++ (Carried Into pdu ∷ asked front pdu) = said_next front pdu (no_signal front pdu at sdu brought) ∙ append_assoc past (Carried Into pdu ∷ []) (asked front pdu) in
      let later = stands one past (Carried Into pdu ∷ asked front pdu) open' in
      elim (none-or_wished own party one next) [
        | inl none ↦ absurd (never (sdus_up one.own (run_of own next).up) (sdus party one Into (run_of own next).said) none (sym (handed-up next rest further) ∙ handed_next front pdu at sdu brought) (sdus-are_read own party next one states))
        | inr wished ↦ sym later.mode_is ∙ (ap (mode_of one) (sym grown_by) ∙ wished_so next rest further wished)
      ]
    where
      never : {broken : Bool} (ups read : List (List ℕ)) → read ≡ [] → ups ≡ handed_for object_psm (run_of own front).up ++ sdu ∷ [] → IsHandedUp broken ups read → ⊥
      never ups read none some (inl same) =
          let e = ap length (sym none ∙ (same ∙ some)) in let sum = length-append (handed_for object_psm (run_of own front).up) (sdu ∷ []) in omega (arith, e, sum)
      never ups read none some (inr (is', other, same)) = let e = ap length (sym none ∙ same) in let sum = length-append ups (other ∷ []) in omega (arith, e, sum)

  pub behind-responses : (front rest : List Occurrence) (pdu : List ℕ) (at : ℕ) (sdu : List ℕ) → list ≡ front ++ Comes pdu ∷ rest → up (channel_of pdu) pdu (run_of (policy settings true) front).value ≡ Received at object_psm sdu
      → is_silent (session_behind (fresh_session settings) (handed_for object_psm (run_of (policy settings true) front).up)) sdu ≡ false
      → responses_due settings (handed_for object_psm (run_of (policy settings true) front).up) ≤ length (filter_map said (taken_of (policy settings true) one.own front))
  behind-responses front rest pdu at sdu is brought loud =
      let past = (run_of own front).said in
      let next = front ++ Comes pdu ∷ [] in
      let plain = no_signal front pdu at sdu brought in
      let further : list ≡ next ++ rest = is ∙ sym (append_assoc front (Comes pdu ∷ []) rest) in
      let g = grown own next rest in
      let all : talk ++ outs ≡ past ++ Carried Into pdu ∷ (asked front pdu ++ g.more) =
      sym said_is
      ∙ (ap (λ (l : List Occurrence). (run_of own l).said) further
      ∙ (g.is
      ∙ (ap (λ (l : List Saying). l ++ g.more) (said_next front pdu plain)
      ∙ (append_assoc (past ++ Carried Into pdu ∷ []) (asked front pdu) g.more ∙ append_assoc past (Carried Into pdu ∷ []) (asked front pdu ++ g.more))))) in
      let split = split_in talk outs past (asked front pdu ++ g.more) (Carried Into pdu) go_out (λ never. never) all in
      let a = talk_has (brings_has front rest pdu at sdu is brought) in
      let turn : ComesBehind settings party one past (Carried Into pdu) = (each_split (ComesBehind settings party one) [] past (Carried Into pdu ∷ split.more) (subst (EachAfter (ComesBehind settings party one) []) split.is a.in_turn)).1.0 in
      let read = read_more settings _ (sdus_up one.own (run_of own next).up) (sdus party one Into (run_of own next).said) (sdus-are_read own party next one states) in
      let same = ap (λ (l : List Saying). responses_due settings (sdus party one Into l)) (said_next front pdu plain)
      ∙ ap (responses_due settings) (stays-heard party one (asked front pdu) (past ++ Carried Into pdu ∷ []) (bare-comes (asked front pdu) (bare-asked (run_of own front).value (takes (channel_of pdu) pdu (run_of own front).value)))).sdus_are in
      let ups = ap (responses_due settings) (handed-up next rest further) in
      let more = ap (responses_due settings) (handed_next front pdu at sdu brought) ∙ due_one settings (handed_for object_psm (run_of own front).up) sdu loud in
      let few = responses_few front (Comes pdu ∷ rest) is (mode_before front rest pdu at sdu is brought) in
      omega (arith, turn, read, same, ups, more, few)

  -- ---- all is handed up

  same_frame : (other : Party) → StatesFrame own other → sdus other one Into (run_of own list).said ≡ sdus party one Into (run_of own list).said
  same_frame other has = ap (λ (n : ℕ). sdus_by n (mode_of one (run_of own list).said) (pdus_of Into (stretch one (run_of own list).said))) (sym (has 0) ∙ states 0)

  -- what is read of it at the end is what its talk says that came
  at_end : sdus party one Into (run_of own list).said ≡ sdus party one Into talk
  at_end = ap (λ (l : List Saying). sdus party one Into l) said_is ∙ (stays-heard party one outs talk (out_comes outs go_out)).sdus_are

  talk_answered : has_opened (find (has_own one) (reading talk).entries) ≡ true → IsAnswered settings party talk one
  talk_answered open' = talk_has (has (read_at one.own (reading talk).entries) refl open')
    where
      has : (found : Option Entry) → read_at one.own (reading talk).entries ≡ found → has_opened found ≡ true → IsOf one (read_at one.own entries)
      has None at opened = cc
      has (Some entry) at opened =
          let here : IsOf entry.channel (read_at one.own (reading talk).entries) = subst (IsOf entry.channel) (sym at) refl in
          let there : IsOf entry.channel (read_at one.own entries) = subst (λ (l : List Saying). IsOf entry.channel (read_at one.own (reading l).entries)) (sym said_is) (of-stays entry.channel one.own talk outs here) in
          let same : entry.channel ≡ one = (for_of one entry.channel (run_of own list).said one.own alone there).same (eq-eqb entry.channel.own one.own (read-own one.own (reading talk).entries entry at)) in
          subst (λ (c : Channel). IsOf c (read_at one.own entries)) same there

  last_taken : LastIsDue settings (sdus party one Into (run_of own list).said) ⊎ ShowsOpen party talk one
  last_taken = by (has_opened (find (has_own one) (reading talk).entries)) refl
    where
      by : (opened : Bool) → has_opened (find (has_own one) (reading talk).entries) ≡ opened → LastIsDue settings (sdus party one Into (run_of own list).said) ⊎ ShowsOpen party talk one
      by false shut = inl (subst (LastIsDue settings) (sym at_end) (no_last settings (sdus party one Into talk) (unopened_in party one talk shut)))
      by true open' = elim (talk_answered open').last [
        | inl due ↦ inl (subst (LastIsDue settings) (sym at_end) due)
        | inr shows ↦ inr shows
      ]

  -- where no more was taken than is due to what was handed up
  read_few : length (filter_map said (taken_of own one.own list)) ≤ responses_due settings (handed_for object_psm (run_of own list).up) → responses_due settings (sdus party one Into (run_of own list).said) ≤ responses_due settings (sdus_up one.own (run_of own list).up)
  read_few few = by (has_opened (find (has_own one) (reading talk).entries)) refl
    where
      ends : responses_due settings (sdus party one Into (run_of own list).said) ≡ responses_due settings (sdus party one Into talk)
      ends = ap (responses_due settings) at_end

      by : (opened : Bool) → has_opened (find (has_own one) (reading talk).entries) ≡ opened → responses_due settings (sdus party one Into (run_of own list).said) ≤ responses_due settings (sdus_up one.own (run_of own list).up)
      by false shut =
          let none : responses_due settings (sdus party one Into talk) ≡ 0 = ap (responses_due settings) (unopened_in party one talk shut) in
          let e = ends in
          omega (arith, none, e)
      by true open' =
          elim (none-or_wished own party one list) [
            | inl none ↦ let zero_is = ap (responses_due settings) none in omega (arith, zero_is)
            | inr wished ↦
                let a = talk_answered open' in
                let each = a.each in
                let more = more_responses party one talk outs in
                let same = ap (λ (l : List Saying). length (responses_on party one l)) said_is in
                let took = fewer_said (sdus party one Out (run_of own list).said) (taken_of own one.own list) (taken-goes_out own party list one states uttered (wished_so list [] (sym (append-nil list)) wished)) in
                let ups = ap (responses_due settings) (handed-up list [] (sym (append-nil list))) in
                let e = ends in
                omega (arith, e, each, more, same, took, few, ups)
          ]

  pub hands-all_up : length (filter_map said (taken_of (policy settings true) one.own list)) ≤ responses_due settings (handed_for object_psm (run_of (policy settings true) list).up) → (run_of (policy settings true) list).value.events ≡ [] → HandsAllUp (policy settings true) list one
  hands-all_up few none broken other has = same_frame other has ∙ by last_taken
    where
      by : LastIsDue settings (sdus party one Into (run_of own list).said) ⊎ ShowsOpen party talk one → sdus party one Into (run_of own list).said ≡ sdus_told one.own (told_on own list)
      by (inl due) =
          let short = read_few few in
          let ups = ap (responses_due settings) (sdus_run own one.own list) in
          read_all settings _ (sdus_told one.own (told_on own list)) (sdus party one Into (run_of own list).said) due (sdus-so own party list states none one) (omega (arith, short, ups))
      by (inr shows) = all-shown own party one list talk outs states said_is shows at_end ∙ sdus_run own one.own list
