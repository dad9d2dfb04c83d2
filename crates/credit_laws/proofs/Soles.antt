-- On a link over RFCOMM one channel alone of host a is for the multiplexer; and each host gives each of its endpoints to one channel.
use Rattle.std.proofs.Common.{◌≡◌, ℕ, ◌⊎◌, inl, inr, List, [], ◌∷◌, ◌++◌, Bool, true, false, cond, eqb, ◌&&◌, ◌||◌, Option, Some, None, Ok, refl, sym, ap, subst, ◌∙◌}
use Rattle.std.specs.Prelude.{filter, option_to_list}
use Rattle.std.specs.List.{AllByRecursion, list_any}
use Rattle.std.proofs.lemmas.Bool.{eqb-true, eq-eqb}
use Rattle.inbox_laws.specs.bt_base.specs.declared.settings.Transport.{Transport}
use Rattle.inbox_laws.specs.capture.specs.declared.flow.Flow.TheVariants.{Out, Into}
use Rattle.inbox_laws.specs.l2cap_signal.specs.Commands.{connection_request, connection_response}
use Rattle.inbox_laws.specs.link_talk.specs.declared.call.Call.{Call}
use Rattle.inbox_laws.specs.link_talk.specs.declared.channel.Channel.{Channel}
use Rattle.inbox_laws.specs.link_talk.specs.Sayings.{Saying, Command}
use Rattle.inbox_laws.specs.link_talk.specs.Senses.{sense}
use Rattle.inbox_laws.specs.link_talk.specs.Requests.{call, went, has_source, is_call, is_own_call}
use Rattle.inbox_laws.specs.link_talk.specs.Channels.{Entry, Reading, read_on, reading}
use Rattle.inbox_laws.specs.talk_laws.proofs.Passes.{from_end}
use Rattle.inbox_laws.specs.channel_model.specs.Policies.{Policy}
use Rattle.inbox_laws.specs.channel_model.proofs.Lookups.{eqb-same}
use Rattle.inbox_laws.specs.channel_laws.specs.Belonging.{said_at, HasAsked, HasGranted, Belongs}
use Rattle.inbox_laws.specs.channel_laws.specs.Common.{mirrored}
use Rattle.inbox_laws.specs.channel_laws.specs.Endpoints.{IsOf}
use Rattle.inbox_laws.specs.channel_laws.specs.Granted.{IsFor as IsForPeer}
use Rattle.inbox_laws.specs.channel_laws.specs.OwnTalk.{spoken, command_with}
use Rattle.inbox_laws.specs.channel_laws.specs.Pairs.{Near, turned, pair_of}
use Rattle.inbox_laws.specs.channel_laws.specs.Runs.{Occurrence, Run, run_of}
use Rattle.inbox_laws.specs.channel_laws.specs.Signals.{StandsIn}
use Rattle.inbox_laws.specs.channel_laws.specs.Singly.{calls_that_went, names, IsAgain, IsFresh, AreOneByOne, AsksForNoChannel}
use Rattle.inbox_laws.specs.channel_laws.specs.Views.{channel_by, read_at}
use Rattle.inbox_laws.specs.channel_laws.proofs.Belonging.{pledges-were_said, channels-belong}
use Rattle.inbox_laws.specs.channel_laws.proofs.Bestowing.{endpoints-are_granted_once, endpoints-ask_for_one_psm}
use Rattle.inbox_laws.specs.channel_laws.proofs.Conversing.{reading-on}
use Rattle.inbox_laws.specs.channel_laws.proofs.OneByOne.{none-is_called}
use Rattle.inbox_laws.specs.channel_laws.proofs.Origins.{Asked, Origin}
use Rattle.inbox_laws.specs.channel_laws.proofs.Saying.{stands-either}
use Rattle.inbox_laws.specs.channel_laws.proofs.Sharing.{channels-are_common}
use Rattle.inbox_laws.specs.channel_laws.proofs.Singling.{calls-more, grants-are_single}
use Rattle.inbox_laws.specs.channel_laws.proofs.Sound.{has_called}
use Rattle.inbox_laws.specs.pair_laws.specs.Pairs.{PairOnLink}
use Rattle.inbox_laws.specs.push_model.specs.Server.{object_psm, rfcomm_psm}
use Rattle.inbox_laws.specs.world_model.specs.Talks.{Talk}
use Rattle.inbox_laws.specs.host_laws.specs.InOrder.{may_ask, AsksForOneObject}
use Rattle.inbox_laws.specs.host_laws.specs.OneCarrier.{IsFor}
use Rattle.inbox_laws.specs.host_laws.specs.OneOnLinks.{CarriesOneOn}
use Rattle.inbox_laws.specs.host_laws.specs.OverLinks.{IsTalkOf, moved_in}
use Rattle.inbox_laws.specs.host_laws.proofs.Seeking.{calls-spoken, out-calls}
use Rattle.request_laws.proofs.Accepted.{Accepted, Opened}
use Rattle.request_laws.proofs.Sole.{IsSole as IsOnly, sole, for_of}
use Rattle.credit_laws.specs.Moved.{HasCalled, IsSole}
use Rattle.credit_laws.proofs.Meant.{or_more}

-- ---- requests one after the other

or_false : (a b : Bool) → (a || b) ≡ false → (a ≡ false) × (b ≡ false)
or_false true b is = cc
or_false false b is = (refl, is)

both_true : (a b : Bool) → (a && b) ≡ true → (a ≡ true) × (b ≡ true)
both_true true b is = (refl, is)
both_true false b is = cc

-- a request with this identifier and endpoint names the endpoint
names_it : (identifier own : ℕ) (calls : List Call) → list_any (is_call identifier own) calls ≡ true → list_any (names own) calls ≡ true
names_it identifier own [] any = cc
names_it identifier own (one ∷ calls) any = by (is_call identifier own one) refl any (names_it identifier own calls)
  where
    by : (here : Bool) → is_call identifier own one ≡ here → (here || list_any (is_call identifier own) calls) ≡ true → (list_any (is_call identifier own) calls ≡ true → list_any (names own) calls ≡ true) → (names own one || list_any (names own) calls) ≡ true
    by true is found later = ap (λ b. b || list_any (names own) calls) (both_true (eqb one.identifier identifier) (has_source own one.wanted) is).1
    by false is found later = or_more (names own one) (list_any (names own) calls) (later found)

-- such requests have one identifier for each endpoint
once_by : (Fits : ℕ → List Call → Bool) (own one other : ℕ) (calls : List Call) → AreOneByOne Fits calls → list_any (is_call one own) calls ≡ true → list_any (is_call other own) calls ≡ true → one ≡ other
once_by Fits own one other [] all is too = cc
once_by Fits own one other (x ∷ before) all is too = by (is_call one own x) (is_call other own x) refl refl is too (once_by Fits own one other before all.1)
  where
    here : (n : ℕ) → is_call n own x ≡ true → (x.identifier ≡ n) × (has_source own x.wanted ≡ true)
    here n at = let parts = both_true (eqb x.identifier n) (has_source own x.wanted) at in (eqb-true x.identifier n parts.0, parts.1)

    -- the last one said again is among those before it; and a new one has an endpoint of its own
    earlier : (n m : ℕ) → is_call n own x ≡ true → list_any (is_call m own) before ≡ true → IsAgain x before ⊎ IsFresh Fits x before → list_any (is_call n own) before ≡ true
    earlier n m at found (inl again) = last before again
      where
        last : (list : List Call) → IsAgain x list → list_any (is_call n own) list ≡ true
        last [] never = absurd never
        last (y ∷ list) same = ap (λ b. b || list_any (is_call n own) list) (subst (λ (c : Call). is_call n own c ≡ true) same at)
    earlier n m at found (inr new) =
        let mine : eqb new.wanted.source own ≡ true = sym (ap (has_source own) new.wanted_is) ∙ (here n at).1 in
        let unused : list_any (names own) before ≡ false = subst (λ k. list_any (names k) before ≡ false) (eqb-true new.wanted.source own mine) new.unused in
        let never : true ≡ false = sym (names_it m own before found) ∙ unused in absurd cc

    by : (first second : Bool) → is_call one own x ≡ first → is_call other own x ≡ second → (first || list_any (is_call one own) before) ≡ true → (second || list_any (is_call other own) before) ≡ true
        → (list_any (is_call one own) before ≡ true → list_any (is_call other own) before ≡ true → one ≡ other) → one ≡ other
    by true true at there is' too' later = sym (here one at).0 ∙ (here other there).0
    by true false at there is' too' later = later (earlier one other at too' all.0) too'
    by false true at there is' too' later = later is' (earlier other one there is' all.0)
    by false false at there is' too' later = later is' too'

-- of all requests those that the host made
own_calls : (identifier own : ℕ) (calls : List Call) → list_any (is_own_call identifier own) calls ≡ true → list_any (is_call identifier own) (filter (went Out) calls) ≡ true
own_calls identifier own [] any = cc
own_calls identifier own (one ∷ calls) any = by (went Out one) (is_call identifier own one) refl any (own_calls identifier own calls)
  where
    by : (out here : Bool) → is_call identifier own one ≡ here → ((out && here) || list_any (is_own_call identifier own) calls) ≡ true
        → (list_any (is_own_call identifier own) calls ≡ true → list_any (is_call identifier own) (filter (went Out) calls) ≡ true) → list_any (is_call identifier own) (cond out (one ∷ filter (went Out) calls) (filter (went Out) calls)) ≡ true
    by true true is found later = ap (λ b. b || list_any (is_call identifier own) (filter (went Out) calls)) is
    by true false is found later = or_more (is_call identifier own one) (list_any (is_call identifier own) (filter (went Out) calls)) (later found)
    by false here is found later = later found

asked_called : (said : List Saying) (identifier psm own : ℕ) → HasAsked identifier psm own said → has_called (reading said).requests identifier own ≡ true
asked_called said identifier psm own = from_end (λ s. HasAsked identifier psm own s → has_called (reading s).requests identifier own ≡ true) (λ is. absurd is) step said
  where
    it : Saying
    it = spoken (command_with identifier (connection_request psm own))

    more : (found : Option Call) (calls : List Call) → list_any (is_own_call identifier own) calls ≡ true → list_any (is_own_call identifier own) (option_to_list found ++ calls) ≡ true
    more None calls is = is
    more (Some one) calls is = or_more (is_own_call identifier own one) (list_any (is_own_call identifier own) calls) is

    step : (past : List Saying) (s : Saying) → (HasAsked identifier psm own past → has_called (reading past).requests identifier own ≡ true) → HasAsked identifier psm own (past ++ s ∷ []) → has_called (reading (past ++ s ∷ [])).requests identifier own ≡ true
    step past s before stands = ap (λ (r : Reading). has_called r.requests identifier own) (reading-on past (s ∷ [])) ∙ by (stands-either it past (s ∷ []) stands)
      where
        now : has_called (read_on (reading past) it).requests identifier own ≡ true
        now = ap (λ b. (b && eqb own own) || has_called (reading past).requests identifier own) (eqb-same identifier) ∙ ap (λ b. b || has_called (reading past).requests identifier own) (eqb-same own)

        by : HasAsked identifier psm own past ⊎ HasAsked identifier psm own (s ∷ []) → has_called (read_on (reading past) s).requests identifier own ≡ true
        by (inl old) = more (call (sense s)) (reading past).requests.calls (before old)
        by (inr (inl same)) = subst (λ x. has_called (read_on (reading past) x).requests identifier own ≡ true) (sym same) now
        by (inr (inr none)) = absurd none

-- ---- a host that asks for no channel

none_called : (policy : Policy) (list : List Occurrence) → AllByRecursion AsksForNoChannel list → (identifier own : ℕ) → HasCalled identifier own (run_of policy list).said → ⊥
none_called policy list none identifier own called =
    let never : false ≡ true = sym (ap (list_any (is_call identifier own)) (none-is_called policy list none)) ∙ own_calls identifier own (reading (run_of policy list).said).requests.calls called in cc

none_asked : (policy : Policy) (list : List Occurrence) → AllByRecursion AsksForNoChannel list → (identifier psm own : ℕ) → HasAsked identifier psm own (run_of policy list).said → ⊥
none_asked policy list none identifier psm own asked = none_called policy list none identifier own (asked_called (run_of policy list).said identifier psm own asked)

-- and is asked for one after the other
pub served-sole : (T : Transport) (policy : Policy) (list : List Occurrence) (part : List Talk) → IsTalkOf policy list part → AllByRecursion AsksForNoChannel list → AsksForOneObject T (moved_in part) → (own : ℕ) → IsSole own (run_of policy list).said
served-sole T policy list part talk none sought own = record {
  apart = one_given;
  once = λ one other is too. absurd (none_called policy list none one own is);
  unasked = λ identifier is other psm source asked. none_called policy list none identifier own is;
}
  where
    said : List Saying
    said = (run_of policy list).said

    calls : AreOneByOne (may_ask T) (calls_that_went Into (run_of policy list).said)
    calls =
        subst (AreOneByOne (may_ask T))
        (sym (sym (calls-spoken Into said) ∙ (ap (calls_that_went Into) talk.talk_is ∙ (calls-more Into (moved_in part) talk.waits ∙ ap (λ (l : List Call). l ++ calls_that_went Into (moved_in part)) (out-calls talk.waits talk.go_out))))) sought

    one_given : (x y : Channel) → Origin (run_of policy list).said x → Origin (run_of policy list).said y → x.peer ≡ y.peer → x.own ≡ y.own
    one_given x y (identifier, status, inr (granted, asked)) also peers = absurd (none_asked policy list none identifier x.psm x.own asked)
    one_given x y from (identifier, status, inr (granted, asked)) peers = absurd (none_asked policy list none identifier y.psm y.own asked)
    one_given x y (first, status, inl (granted, asked)) (second, again, inl (also, too)) peers =
        grants-are_single policy list (may_ask T) calls first status x.own second again y.own x.peer granted (subst (λ n. HasGranted second again y.own n said) (sym peers) also)

-- ---- a link

module _ (P Q : Policy) (one other : List Occurrence) (pair : PairOnLink P Q one other) (quiet : AllByRecursion AsksForNoChannel other) where
  abbrev near : List Saying
  near = (run_of P one).said

  abbrev far : List Saying
  far = (run_of Q other).said

  -- what the near host heard was pledged by the far one
  granted_far : (identifier status destination source : ℕ) → (let heard = command_with identifier (connection_response destination source 0 status) in StandsIn (Command Into (Ok heard)) near) → HasGranted identifier status destination source far
  granted_far identifier status destination source stands =
      let it = command_with identifier (connection_response destination source 0 status) in
      subst (λ (r : Run). StandsIn (spoken it) r.said) pair.far_is (pledges-were_said P Q pair.turns pair.read Near it refl (subst (λ (r : Run). StandsIn (Command Into (Ok it)) r.said) (sym pair.near_is) stands))

  near_unasked : (identifier psm source : ℕ) → Asked Into identifier psm source near → ⊥
  near_unasked identifier psm source stands =
      let it = command_with identifier (connection_request psm source) in
      none_asked Q other quiet identifier psm source
      (subst (λ (r : Run). StandsIn (spoken it) r.said) pair.far_is (pledges-were_said P Q pair.turns pair.read Near it refl (subst (λ (r : Run). StandsIn (Command Into (Ok it)) r.said) (sym pair.near_is) stands)))

  -- the far host gave each of its endpoints to one of the near host's
  one_given : (x y : Channel) → Origin near x → Origin near y → x.peer ≡ y.peer → x.own ≡ y.own
  one_given x y (identifier, status, inl (granted, asked)) also peers = absurd (near_unasked identifier x.psm x.peer asked)
  one_given x y from (identifier, status, inl (granted, asked)) peers = absurd (near_unasked identifier y.psm y.peer asked)
  one_given x y (first, status, inr (granted, asked)) (second, again, inr (also, too)) peers =
      let here = (endpoints-are_granted_once Q other first status x.peer x.own (granted_far first status x.peer x.own granted)).0 in
      let there = (endpoints-are_granted_once Q other second again y.peer y.own (granted_far second again y.peer y.own also)).0 in
      both (read_at x.peer (reading far).entries) here (subst (λ n. IsForPeer y.own (read_at n (reading far).entries)) (sym peers) there)
    where
      both : (found : Option Entry) → IsForPeer x.own found → IsForPeer y.own found → x.own ≡ y.own
      both None here there = absurd here
      both (Some entry) here there = sym here ∙ there

  pub is-sole : (Fits : ℕ → List Call → Bool) → AreOneByOne Fits (calls_that_went Out near) → (own : ℕ) → IsSole own near
  is-sole Fits all own = record {
    apart = one_given;
    once = λ first second is too. once_by Fits own first second (calls_that_went Out near) all (own_calls first own (reading near).requests.calls is) (own_calls second own (reading near).requests.calls too);
    unasked = λ identifier is. near_unasked;
  }

  -- ---- the channel of the multiplexer

  -- one channel alone of the far host carries packets, and so of the near one
  near_for : (carrier : ℕ) (only : CarriesOneOn carrier Q other) (channel : Channel) (own : ℕ) → Accepted channel (read_at own (reading near).entries) → IsFor only.channel (mirrored channel)
  near_for carrier only channel own accepted = by (read_at own (reading near).entries) refl accepted
    where
      by : (found : Option Entry) → read_at own (reading near).entries ≡ found → Accepted channel found → IsFor only.channel (mirrored channel)
      by None at is = absurd is
      by (Some entry) at is =
          let far_has : IsOf (mirrored entry.channel) (read_at entry.channel.peer (reading far).entries) =
          subst (λ (r : Run). IsOf (mirrored entry.channel) (read_at entry.channel.peer (reading r.said).entries)) pair.far_is
          (channels-are_common P Q pair.turns pair.read Near own entry (subst (λ (r : Run). read_at own (reading r.said).entries ≡ Some entry) (sym pair.near_is) at) is.1) in
          subst (λ (c : Channel). IsFor only.channel (mirrored c)) is.0 (for_of only.channel (mirrored entry.channel) far entry.channel.peer only.alone far_has)

  -- over L2CAP none is for a multiplexer
  pub none-muxed : CarriesOneOn object_psm Q other → (channel : Channel) → Accepted channel (read_at channel.own (reading near).entries) → channel.psm ≡ rfcomm_psm → ⊥
  none-muxed only channel accepted muxed = by (eqb channel.peer only.channel.own) refl
    where
      for : IsFor only.channel (mirrored channel)
      for = near_for object_psm only channel channel.own accepted

      by : (here : Bool) → eqb channel.peer only.channel.own ≡ here → ⊥
      by true is = let never : object_psm ≡ rfcomm_psm = sym only.psm_is ∙ (sym (ap (λ (c : Channel). c.psm) (for.same is)) ∙ muxed) in cc
      by false is = (for.aside is).1 muxed

  module _ (only : CarriesOneOn rfcomm_psm Q other) where
    near_only : (channel : Channel) (own : ℕ) → Accepted channel (read_at own (reading near).entries) → IsOnly rfcomm_psm only.channel (mirrored channel)
    near_only channel own accepted = sole rfcomm_psm only.channel (mirrored channel) (λ psm aside same. aside.1 same) only.psm_is (near_for rfcomm_psm only channel own accepted)

    module _ (channel : Channel) (mine : Accepted channel (read_at channel.own (reading near).entries)) (muxed : channel.psm ≡ rfcomm_psm) where
      is_only : mirrored channel ≡ only.channel
      is_only = (near_only channel channel.own mine).same (eq-eqb channel.psm rfcomm_psm muxed)

      -- a channel that has opened is that one, where it has the PSM or the endpoint
      pub agrees-there : (psm at : ℕ) → Opened near psm at → eqb psm rfcomm_psm ≡ eqb at channel.own
      agrees-there psm at (peer, is) = by (eqb psm rfcomm_psm) refl
        where
          alike : (found : Option Entry) → Accepted channel found → Accepted (channel_by psm at peer) found → channel_by psm at peer ≡ channel
          alike None here there = absurd here
          alike (Some entry) here there = sym there.0 ∙ here.0

          off : (here : Bool) → eqb at channel.own ≡ here → eqb psm rfcomm_psm ≡ false → here ≡ false
          off false same apart = refl
          off true same apart =
              let found = subst (λ n. Accepted (channel_by psm at peer) (read_at n (reading near).entries)) (eqb-true at channel.own same) is in
              let one' = alike (read_at channel.own (reading near).entries) mine found in
              sym (eq-eqb psm rfcomm_psm (ap (λ (c : Channel). c.psm) one' ∙ muxed)) ∙ apart

          by : (there : Bool) → eqb psm rfcomm_psm ≡ there → there ≡ eqb at channel.own
          by true same =
              let both : mirrored (channel_by psm at peer) ≡ mirrored channel = (near_only (channel_by psm at peer) at is).same same ∙ sym is_only in
              sym (eq-eqb at channel.own (ap (λ (c : Channel). c.peer) both))
          by false same = sym (off (eqb at channel.own) refl same)

      pub sure-there : (identifier psm at opened : ℕ) → HasAsked identifier psm at near → Opened near opened at → eqb psm rfcomm_psm ≡ eqb at channel.own
      sure-there identifier psm at opened asked (peer, is) = ap (λ n. eqb n rfcomm_psm) (sym (of_psm (read_at at (reading near).entries) refl is)) ∙ agrees-there opened at (peer, is)
        where
          by : Belongs near far (channel_by opened at peer) → opened ≡ psm
          by (n, status, inl (granted, asks)) = absurd ((endpoints-are_granted_once P one n status at peer granted).1 identifier psm asked)
          by (n, status, inr (asks, granted)) = endpoints-ask_for_one_psm P one n opened at identifier psm asks asked

          of_psm : (found : Option Entry) → read_at at (reading near).entries ≡ found → Accepted (channel_by opened at peer) found → opened ≡ psm
          of_psm None here there = absurd there
          of_psm (Some entry) here there =
              by (subst (λ (r : Run). Belongs near r.said (channel_by opened at peer)) pair.far_is (subst (λ (r : Run). Belongs r.said (said_at Near (turned (pair_of P Q pair.turns))) (channel_by opened at peer)) pair.near_is
              (subst (Belongs (said_at Near (pair_of P Q pair.turns)) (said_at Near (turned (pair_of P Q pair.turns)))) there.0
              (channels-belong P Q pair.turns pair.read Near at entry (subst (λ (r : Run). read_at at (reading r.said).entries ≡ Some entry) (sym pair.near_is) here)))))
