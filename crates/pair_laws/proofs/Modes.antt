-- Both hosts of a run accept enhanced mode alone of a channel that carries objects over L2CAP, over its capture.
use Rattle.std.proofs.Common.{◌≡◌, ℕ, List, [], ◌∷◌, ◌++◌, map, Bool, true, false, cond, eqb, ◌&&◌, Option, Some, None, refl, sym, ap, ap₂, subst, ◌∙◌, append-nil, append_assoc}
use Rattle.std.specs.Prelude.{is_some, option_map}
use Rattle.std.specs.Option.{option_or}
use Rattle.std.specs.List.{AllByRecursion, flat_map, list_any}
use Rattle.std.proofs.lemmas.Bool.{eqb-true}
use Rattle.std.proofs.lemmas.List.Elements.{filter-append}
use Rattle.std.proofs.lemmas.List.Sums.{fold-append}
use Rattle.scenario_laws.specs.bt_base.specs.declared.settings.Settings.{Settings}
use Rattle.scenario_laws.specs.push_terms.specs.declared.word.Side.TheVariants as sides
use Rattle.scenario_laws.specs.capture.specs.Histories.{EachAfter}
use Rattle.scenario_laws.specs.capture.specs.Links.{links}
use Rattle.scenario_laws.specs.capture.specs.Pdus.{Pdu, pdus}
use Rattle.scenario_laws.specs.l2cap_config.specs.declared.wish.Mode.{Mode}
use Rattle.scenario_laws.specs.l2cap_config.specs.declared.wish.Mode.TheVariants.{Enhanced}
use Rattle.scenario_laws.specs.link_talk.specs.declared.channel.Channel.{Channel}
use Rattle.scenario_laws.specs.link_talk.specs.Channels.{Entry, fresh, entry_after, entries_after, is_there, is_owner, made_by, Reading, reading}
use Rattle.scenario_laws.specs.link_talk.specs.Meanings.{Meaning, meant}
use Rattle.scenario_laws.specs.link_talk.specs.Packets.{OverL2cap, OverRfcomm, OverNothing, carrier}
use Rattle.scenario_laws.specs.link_talk.specs.Sayings.{Saying, said_by}
use Rattle.scenario_laws.specs.link_talk.specs.Senses.{sense}
use Rattle.scenario_laws.specs.link_talk.specs.Setups.{Setup, is_set, setup_after, term}
use Rattle.scenario_laws.specs.link_talk.proofs.OnePass.{reading-more}
use Rattle.channel_laws.specs.channel_model.specs.Calls.{connected, asks_features, disconnected, carrier_at}
use Rattle.channel_laws.specs.channel_model.specs.Changing.{held_at}
use Rattle.channel_laws.specs.channel_model.specs.declared.errand.Errand.TheVariants as errands
use Rattle.channel_laws.specs.channel_model.specs.Giving.{Given, Signal, Whole, Framed, next_given}
use Rattle.channel_laws.specs.channel_model.specs.Policies.{Policy, policy}
use Rattle.channel_laws.specs.channel_model.specs.Timing.{times_held, times_end, times_features}
use Rattle.channel_laws.specs.channel_model.specs.Value.{Request, Carrier as Carrying, Plain, Retransmitting, Held, Channels}
use Rattle.channel_laws.specs.Runs.{Occurrence, Comes, Connects, AsksFeatures, Disconnects, Sends, Gives, Fires, Tells, peer_at, features_given_up, said_again, said_on_firing, said_by_channel, fired_channel, said_by_channels, said_by_carrier, said_as, said_in, Run, new_link, run_on, run_of}
use Rattle.channel_laws.specs.Views.{read_at}
use Rattle.channel_laws.proofs.Entries.{either_same, makes-fresh, read-after, read-append}
use Rattle.channel_laws.proofs.Mild.{OwnAt, IsMild, KeepsOwn, one_saying, no_sayings, both_sayings}
use Rattle.channel_laws.proofs.Origins.{makes-it}
use Rattle.channel_laws.proofs.OwnModes.{modes-are_own}
use Rattle.channel_laws.proofs.Words.{Words, words-asked, words-again, words-left, words-firing}
use Rattle.scenario_laws.specs.host_model.specs.Clients.{client_profile}
use Rattle.scenario_laws.specs.host_model.specs.Servers.{server_profile}
use Rattle.host_laws.specs.Keeping.{GivesNothingUp}
use Rattle.host_laws.specs.Lives.{on_links}
use Rattle.host_laws.specs.OverLinks.{talk_marks, parts}
use Rattle.host_laws.specs.Seen.{is_spoken, spoken_of}
use Rattle.host_laws.proofs.Asking.{hosts_ask, clients_ask}
use Rattle.host_laws.proofs.Forgoing.{all_passed}
use Rattle.host_laws.proofs.Keeping.{servers_lend}
use Rattle.pair_laws.specs.Heard.{IsHeardSo, HearsFirst, HearFirst}
use Rattle.pair_laws.specs.Modes.{AcceptsEnhanced, AreEnhanced, RunsAreEnhanced}
use Rattle.pair_laws.proofs.Forgone.{set_stays, comes_spoken}
use Rattle.pair_laws.proofs.Given.{all_both}
use Rattle.pair_laws.proofs.Moved.{links_move, each_link, each_talk}
use Rattle.pair_laws.proofs.Pairing.{hosts-hear_first}
use Rattle.pair_laws.proofs.Windows.{both_ask}

-- ---- what a host says of its own accord accepts nothing

abbrev AllMild : List Saying → Type 0
AllMild said = AllByRecursion IsMild said

mild_words : (w : Channels) → Words w AllMild
mild_words w = record {
  none = tt;
  both = λ xs ys one other. all_both IsMild xs ys one other;
  calls = λ own held request at is. ((λ asked. refl), tt);
  wishes = λ own peer held setup request options at has to is. ((λ asked. refl), tt);
  ends = λ identifier peer own. ((λ asked. refl), tt);
  asks = λ request is. ((λ asked. refl), tt);
  lets_call = λ identifier own. ((λ asked. refl), tt);
  lets_end = λ own peer. ((λ asked. refl), tt);
}

mild_features : (before after : Option Request) → AllMild (features_given_up before after)
mild_features None after = tt
mild_features (Some request) None = ((λ asked. refl), tt)
mild_features (Some request) (Some other) = tt

mild_fired : (tries : ℕ) (owns : List ℕ) (v : Channels) → AllMild (said_by_channels tries owns v)
mild_fired tries [] v =
    let after : Channels = times_features v.features tries v in
    all_both IsMild (said_again errands.Features v after) (features_given_up v.features after.features) (words-again after AllMild (mild_words after) errands.Features v) (mild_features v.features after.features)
mild_fired tries (own ∷ owns) v =
    let between : Channels = times_held (held_at own v) tries v in
    let after : Channels = times_end (held_at own between) tries between in
    all_both IsMild (said_by_channel tries own v) (said_by_channels tries owns (fired_channel tries own v))
    (all_both IsMild (said_on_firing own v between) (said_on_firing own between after) (words-firing between AllMild (mild_words between) own v) (words-firing after AllMild (mild_words after) own between))
    (mild_fired tries owns (fired_channel tries own v))

mild_carried : (found : Option Carrying) (peer : ℕ) (sdu : List ℕ) → AllMild (said_by_carrier found peer sdu)
mild_carried None peer sdu = tt
mild_carried (Some (Plain agreed None)) peer sdu = ((λ asked. refl), tt)
mild_carried (Some (Plain agreed (Some waiting))) peer sdu = tt
mild_carried (Some (Retransmitting machine)) peer sdu = tt

mild_given : (given : Option Given) (pdu : List ℕ) → AllMild (said_as given pdu)
mild_given None pdu = tt
mild_given (Some (Signal command)) pdu = tt
mild_given (Some (Whole peer sdu)) pdu = tt
mild_given (Some (Framed peer frame)) pdu = ((λ asked. refl), tt)

-- nor does what of it is spoken
kept_mild : (said : List Saying) → AllMild said → AllMild (spoken_of said)
kept_mild [] mild = tt
kept_mild (one ∷ said) (now, mild) = by (is_spoken one) (kept_mild said mild)
  where
    by : (spoken : Bool) → AllMild (spoken_of said) → AllMild (cond spoken (one ∷ spoken_of said) (spoken_of said))
    by true rest = (now, rest)
    by false rest = rest

keeps_own : (wanted : Policy) (said : List Saying) → AllMild said → KeepsOwn wanted said
keeps_own wanted [] mild = no_sayings wanted
keeps_own wanted (one ∷ said) (now, mild) = both_sayings wanted (one ∷ []) said (one_saying wanted one now) (keeps_own wanted said mild)

-- ---- a host that hears nothing behind what it gave up

module _ (wanted : Policy) where
  -- by what moved of its talk, what it accepted of a channel is what it wishes
  abbrev AllOwn : List Occurrence → Type 0
  AllOwn list = (n : ℕ) → OwnAt wanted n (reading (spoken_of (run_of wanted list).said))

  step_own : (past : List Occurrence) (one : Occurrence) → IsHeardSo (GivesNothingUp wanted) past one → AllOwn past → AllOwn (past ++ one ∷ [])
  step_own past one hears own = by one hears
    where
      run : Run
      run = run_of wanted past

      v : Channels
      v = run.value

      said_is : (more : Occurrence) → (run_of wanted (past ++ more ∷ [])).said ≡ run.said ++ said_in wanted more v
      said_is more = ap (λ (r : Run). r.said) (fold-append (run_on wanted) new_link past (more ∷ []))

      spoken_is : (more : Occurrence) → spoken_of (run_of wanted (past ++ more ∷ [])).said ≡ spoken_of run.said ++ spoken_of (said_in wanted more v)
      spoken_is more = ap (λ (said : List Saying). spoken_of said) (said_is more) ∙ filter-append is_spoken run.said (said_in wanted more v)

      mildly : (more : Occurrence) → AllMild (said_in wanted more v) → AllOwn (past ++ more ∷ [])
      mildly more mild n = subst (λ (said : List Saying). OwnAt wanted n (reading said)) (sym (spoken_is more)) (keeps_own wanted (spoken_of (said_in wanted more v)) (kept_mild (said_in wanted more v) mild) (spoken_of run.said) n (own n))

      heard : (pdu : List ℕ) → GivesNothingUp wanted past → AllOwn (past ++ Comes pdu ∷ [])
      heard pdu so_far n entry found mode accepted =
          let said = said_in wanted (Comes pdu) v in
          let whole : spoken_of (run_of wanted (past ++ Comes pdu ∷ [])).said ≡ (run_of wanted (past ++ Comes pdu ∷ [])).said =
          spoken_is (Comes pdu) ∙ (ap₂ (λ (a b : List Saying). a ++ b) so_far (all_passed said (comes_spoken wanted pdu v)) ∙ sym (said_is (Comes pdu))) in
          modes-are_own wanted (past ++ Comes pdu ∷ []) n entry mode (subst (λ (said : List Saying). read_at n (reading said).entries ≡ Some entry) whole found) accepted

      by : (more : Occurrence) → IsHeardSo (GivesNothingUp wanted) past more → AllOwn (past ++ more ∷ [])
      by (Comes pdu) so_far = heard pdu so_far
      by (Connects psm) so_far = let w = connected psm v in mildly (Connects psm) (words-asked w AllMild (mild_words w) v)
      by AsksFeatures so_far = let w = asks_features v in mildly AsksFeatures (words-asked w AllMild (mild_words w) v)
      by (Disconnects end) so_far = let w = disconnected end v in mildly (Disconnects end) (words-left w AllMild (mild_words w) end v)
      by (Sends end sdu) so_far = mildly (Sends end sdu) (mild_carried (carrier_at end v) (peer_at (held_at end v)) sdu)
      by (Gives pdu) so_far = mildly (Gives pdu) (mild_given (next_given v) pdu)
      by Fires so_far = mildly Fires (mild_fired wanted.tries (map (λ (held : Held). held.own) v.held) v)
      by Tells so_far = mildly Tells tt

  later_own : (past later : List Occurrence) → EachAfter (IsHeardSo (GivesNothingUp wanted)) past later → AllOwn past → AllOwn (past ++ later)
  later_own past [] hears own = subst AllOwn (sym (append-nil past)) own
  later_own past (one ∷ later) (here, hears) own = subst AllOwn (append_assoc past (one ∷ []) later) (later_own (past ++ one ∷ []) later hears (step_own past one here own))

  all_own : (list : List Occurrence) → HearsFirst wanted list → AllOwn list
  all_own list hears = later_own [] list hears (λ n entry found. cc)

-- ---- which is enhanced mode

over_l2cap : (psm : ℕ) → carrier psm ≡ OverL2cap → psm ≡ 0x1001
over_l2cap psm is = by (eqb psm 0x1001) (eqb psm 0x0003) refl is
  where
    by : (l2cap rfcomm : Bool) → eqb psm 0x1001 ≡ l2cap → cond l2cap OverL2cap (cond rfcomm OverRfcomm OverNothing) ≡ OverL2cap → psm ≡ 0x1001
    by true rfcomm at is = eqb-true psm 0x1001 at
    by false true at is = cc
    by false false at is = cc

wished_so : (settings : Settings) (server : Bool) (psm : ℕ) → carrier psm ≡ OverL2cap → ((policy settings server).wish psm).mode ≡ Enhanced
wished_so settings server psm is = ap (λ (n : ℕ). ((policy settings server).wish n).mode) (over_l2cap psm is)

both_set : (asked accepted : Option Mode) → (is_some asked && is_some accepted) ≡ true → is_some accepted ≡ true
both_set None accepted is = cc
both_set (Some asked) accepted is = is

enhanced_own : (settings : Settings) (server : Bool) (list : List Occurrence) → HearsFirst (policy settings server) list → AcceptsEnhanced (spoken_of (run_of (policy settings server) list).said)
enhanced_own settings server list hears own entry found set object = by entry.setup.accepted refl (both_set entry.setup.asked entry.setup.accepted set)
  where
    by : (accepted : Option Mode) → entry.setup.accepted ≡ accepted → is_some accepted ≡ true → entry.setup.accepted ≡ Some Enhanced
    by None at some = cc
    by (Some mode) at some = at ∙ ap Some (sym (all_own (policy settings server) list hears own entry found mode at) ∙ wished_so settings server entry.channel.psm object)

-- ---- the front of a talk

-- what was agreed on at the opening of a channel stands
record Stands (own : ℕ) (said : List Saying) (entry : Entry) : Type 0 where
  later : Entry
  found : read_at own (reading said).entries ≡ Some later
  setup : later.setup ≡ entry.setup
  channel : later.channel ≡ entry.channel

more_stands : (own : ℕ) (said : List Saying) (one : Saying) (entry : Entry) → read_at own (reading said).entries ≡ Some entry → is_set entry.setup ≡ true → Stands own (said ++ one ∷ []) entry
more_stands own said one entry found set = by (made_by m) refl
  where
    m : Meaning
    m = meant (reading said).requests (sense one)

    old : List Entry
    old = (reading said).entries

    now : read_at own (reading (said ++ one ∷ [])).entries ≡ read_at own (entries_after old m)
    now = ap (λ (r : Reading). read_at own r.entries) (reading-more said one)

    owned : (channel : Channel) (taken : Bool) → read_at own (cond taken old (old ++ fresh channel ∷ [])) ≡ Some entry
    owned channel true = found
    owned channel false = read-append own old channel ∙ ap (λ (x : Option Entry). option_or x (cond (eqb channel.own own) (Some (fresh channel)) None)) found

    by : (made : Option Channel) → made_by m ≡ made → Stands own (said ++ one ∷ []) entry
    by None none = record {
      later = entry_after m entry;
      found = now ∙ (read-after m old own none ∙ ap (option_map (entry_after m)) found);
      setup = either_same (is_there entry.life) (setup_after entry.setup (term entry.channel m)) entry.setup (set_stays entry.setup (term entry.channel m) set);
      channel = refl;
    }
    by (Some channel) makes = record {
      later = entry;
      found = now ∙ (ap (read_at own) (ap (entries_after old) (makes-it m channel makes) ∙ makes-fresh channel old) ∙ owned channel (list_any (is_owner channel) old));
      setup = refl;
      channel = refl;
    }

stands_on : (own : ℕ) (said behind : List Saying) (entry : Entry) → read_at own (reading said).entries ≡ Some entry → is_set entry.setup ≡ true → Stands own (said ++ behind) entry
stands_on own said [] entry found set = record { later = entry; found = ap (λ (l : List Saying). read_at own (reading l).entries) (append-nil said) ∙ found; setup = refl; channel = refl }
stands_on own said (one ∷ behind) entry found set =
    let now = more_stands own said one entry found set in
    let all = stands_on own (said ++ one ∷ []) behind now.later now.found (ap (λ (s : Setup). is_set s) now.setup ∙ set) in
    record {
      later = all.later;
      found = ap (λ (l : List Saying). read_at own (reading l).entries) (sym (append_assoc said (one ∷ []) behind)) ∙ all.found;
      setup = all.setup ∙ now.setup;
      channel = all.channel ∙ now.channel;
    }

fronts_accept : (front behind : List Saying) → AcceptsEnhanced (front ++ behind) → AcceptsEnhanced front
fronts_accept front behind accepts own entry found set object =
    let all = stands_on own front behind entry found set in
    ap (λ (s : Setup). s.accepted) (sym all.setup) ∙ accepts own all.later all.found (ap (λ (s : Setup). is_set s) all.setup ∙ set) (ap (λ (c : Channel). carrier c.psm) all.channel ∙ object)

-- ---- both hosts of a run

each_enhanced : (settings : Settings) (server : Bool) (lists : List (List Occurrence)) → AllByRecursion (HearsFirst (policy settings server)) lists → AllByRecursion (λ (list : List Occurrence). AcceptsEnhanced (spoken_of (run_of (policy settings server) list).said)) lists
each_enhanced settings server [] hears = tt
each_enhanced settings server (list ∷ lists) hears = (enhanced_own settings server list hears.0, each_enhanced settings server lists hears.1)

pub runs-are_enhanced : RunsAreEnhanced
runs-are_enhanced scenario content capture ran = by
  where
    settings : Settings
    settings = scenario.settings

    hearing : HearFirst both_ask scenario content capture ran
    hearing = hosts-hear_first both_ask scenario content capture ran (servers_lend scenario.settings content)

    by : AreEnhanced capture
    by sides.A =
        let host = hearing.pairs.a in
        let lists = on_links (client_profile settings) (clients_ask settings) (flat_map talk_marks host.came.talk) ran.world.a.upper host.fed.so.lives in
        each_talk AcceptsEnhanced (links sides.A capture)
        (each_link (λ (moved : List Pdu). AcceptsEnhanced (flat_map said_by moved)) (links sides.A capture)
        (links_move AcceptsEnhanced fronts_accept (policy settings false) lists (parts host.came.talk) (map pdus (links sides.A capture)) host.fed.so.talks_are host.came.fall (each_enhanced settings false lists hearing.a)))
    by sides.B =
        let host = hearing.pairs.b in
        let lists = on_links (server_profile settings content) (hosts_ask.servers settings content) (flat_map talk_marks host.came.talk) ran.world.b.upper host.fed.so.lives in
        each_talk AcceptsEnhanced (links sides.B capture)
        (each_link (λ (moved : List Pdu). AcceptsEnhanced (flat_map said_by moved)) (links sides.B capture)
        (links_move AcceptsEnhanced fronts_accept (policy settings true) lists (parts host.came.talk) (map pdus (links sides.B capture)) host.fed.so.talks_are host.came.fall (each_enhanced settings true lists hearing.b)))
