-- What a host gave up takes no I-frame, where it hears nothing behind that.
use Rattle.std.proofs.Common.{◌≡◌, ◌⊎◌, inl, inr, ℕ, ◌<◌, List, [], ◌∷◌, ◌++◌, drop, map, Bool, true, false, cond, eqb, ◌&&◌, ◌||◌, Option, Some, None, refl, sym, ap, ap₂, subst, ◌∙◌, append-nil, append_assoc}
use Rattle.std.specs.Prelude.{option_map, option_to_list, unwrap_or}
use Rattle.std.specs.List.{AllByRecursion, filter_map, list_any}
use Rattle.std.proofs.lemmas.Bool.{eqb-true}
use Rattle.std.proofs.lemmas.List.Elements.{filter-append}
use Rattle.std.proofs.lemmas.List.Sums.{fold-append}
use Rattle.scenario_laws.specs.acl_fragments.specs.Pieces.{channel_of}
use Rattle.scenario_laws.specs.bt_base.proofs.OctetLemmas.{le16-number}
use Rattle.scenario_laws.specs.capture.specs.declared.flow.Flow.{Flow}
use Rattle.scenario_laws.specs.capture.specs.declared.flow.Flow.TheVariants.{Out, Into}
use Rattle.scenario_laws.specs.capture.specs.Histories.{EachAfter}
use Rattle.scenario_laws.specs.capture.proofs.HistoryLaws.{each_after-more}
use Rattle.scenario_laws.specs.ertm_frames.specs.Frames.{PlainFrame}
use Rattle.scenario_laws.specs.ertm_frames.specs.Picking.{Passage}
use Rattle.scenario_laws.specs.ertm_frames.specs.Reading.{frame_in}
use Rattle.scenario_laws.specs.ertm_model.specs.Giving.{next_frame}
use Rattle.scenario_laws.specs.l2cap_config.specs.Writing.{written}
use Rattle.scenario_laws.specs.l2cap_signal.specs.Commands.{Command as Signalled}
use Rattle.scenario_laws.specs.l2cap_signal.specs.Reading.{Answer as Read, answers}
use Rattle.scenario_laws.specs.link_talk.specs.Accounts.{passage_in, frames_passed}
use Rattle.scenario_laws.specs.link_talk.specs.Carriages.{Carriage, endpoint, is_passed, carried}
use Rattle.scenario_laws.specs.link_talk.specs.Channels.{Entry, entry_after, entries_after, life_after, is_there, made_by, Reading, reading, word}
use Rattle.scenario_laws.specs.link_talk.specs.declared.channel.Channel.{Channel}
use Rattle.scenario_laws.specs.link_talk.specs.declared.life.Life.{Life}
use Rattle.scenario_laws.specs.link_talk.specs.declared.life.Life.TheVariants.{Alive, Leaving, Crossed, Over}
use Rattle.scenario_laws.specs.link_talk.specs.declared.party.Party.{Party}
use Rattle.scenario_laws.specs.link_talk.specs.declared.word.Word.{Word}
use Rattle.scenario_laws.specs.link_talk.specs.declared.word.Word.TheVariants.{AsksEnd, EndForgone}
use Rattle.scenario_laws.specs.link_talk.specs.GrowingLaws.{has_opened}
use Rattle.scenario_laws.specs.link_talk.specs.Meanings.{Meaning, Wishes, Parts, Nothing, meant}
use Rattle.scenario_laws.specs.link_talk.specs.Requests.{Requests}
use Rattle.scenario_laws.specs.link_talk.specs.Sayings.{Saying, Command, Carried, GaveUp, Forgone, Connection, Disconnection, Information}
use Rattle.scenario_laws.specs.link_talk.specs.Senses.{sense}
use Rattle.scenario_laws.specs.link_talk.specs.Setups.{Setup, Term, is_set, setup_after, term, with_term}
use Rattle.scenario_laws.specs.link_talk.proofs.Growing.{mode-stands}
use Rattle.scenario_laws.specs.link_talk.proofs.OnePass.{reading-more}
use Rattle.channel_laws.specs.talk_laws.proofs.Passes.{from_end}
use Rattle.channel_laws.specs.channel_model.specs.Calls.{open_carrier, carrier_if, carrier_at, setup_on, connected, asks_features, disconnected}
use Rattle.channel_laws.specs.channel_model.specs.Carrying.{takes}
use Rattle.channel_laws.specs.channel_model.specs.Changing.{held_at, is_open, setup_of}
use Rattle.channel_laws.specs.channel_model.specs.declared.errand.Errand.TheVariants as errands
use Rattle.channel_laws.specs.channel_model.specs.Following.{can_say}
use Rattle.channel_laws.specs.channel_model.specs.Giving.{Given, Signal, Whole, Framed, carrier_gives, next_given, headed}
use Rattle.channel_laws.specs.channel_model.specs.Hearing.{hears_command}
use Rattle.channel_laws.specs.channel_model.specs.Policies.{Policy}
use Rattle.channel_laws.specs.channel_model.specs.Timing.{times_held, times_end, times_features}
use Rattle.channel_laws.specs.channel_model.specs.Value.{Request, Carrier, Plain, Retransmitting, Setup as Agreed, Held, Channels}
use Rattle.channel_laws.specs.channel_model.proofs.Walking.{found-own}
use Rattle.channel_laws.specs.Frames.{IsSpelled, IsUttered, AreUttered}
use Rattle.channel_laws.specs.OwnTalk.{spoken, reply_to, exchanged, asked_between, said_with, said_with_all}
use Rattle.channel_laws.specs.Runs.{Occurrence, Comes, Connects, AsksFeatures, Disconnects, Sends, Gives, Fires, Tells, peer_at, given_up, features_given_up, said_again, said_on_firing, said_by_channel, fired_channel, said_by_channels, said_by_carrier, said_as, said_in, Run, new_link, run_on, run_of}
use Rattle.channel_laws.specs.Sdus.{StatesFrame}
use Rattle.channel_laws.specs.Views.{read_at}
use Rattle.channel_laws.proofs.Carriages.{carried-none, goes_over}
use Rattle.channel_laws.proofs.Entries.{either_same, entry-is, entry-same, read-after}
use Rattle.channel_laws.proofs.Frames.{run-passes}
use Rattle.channel_laws.proofs.Holding.{Pass, kept-setup, IsRead, is-read, set-is}
use Rattle.channel_laws.proofs.Incoming.{channel_at}
use Rattle.channel_laws.proofs.Keeping.{HeldKeeps}
use Rattle.channel_laws.proofs.Outgoing.{open-stated}
use Rattle.channel_laws.proofs.Passages.{GoesOut, none_more, bare-passes, out-other, carried-own, passed-more, spelled-frame}
use Rattle.channel_laws.proofs.Passing.{CarrierPasses, Passed, passing-gives}
use Rattle.channel_laws.proofs.Running.{all-sound}
use Rattle.channel_laws.proofs.Signalling.{is_carried, IsBare, bare-asked, bare-left, bare-fired}
use Rattle.channel_laws.proofs.Sound.{Apart, Sound, apart-after}
use Rattle.channel_laws.proofs.Trusting.{Gives_out, queue-out}
use Rattle.channel_laws.proofs.Words.{Words, words-asked, words-again, words-left, words-firing}
use Rattle.host_laws.specs.Keeping.{GivesNothingUp}
use Rattle.host_laws.specs.Seen.{is_spoken, spoken_of}
use Rattle.host_laws.proofs.Forgoing.{AllSpoken, both_spoken, asked_spoken, all_passed}
use Rattle.pair_laws.specs.Heard.{IsHeardSo, ForgoneTakesNoFrame}
use Rattle.pair_laws.proofs.Given.{all_both}

-- ---- what a host says of its own accord

-- its meaning hangs on no request before it, and makes no channel
pub record IsOwnWord (saying : Saying) : Type 0 where
  pub meaning : Meaning
  pub is : (asked : Requests) → meant asked (sense saying) ≡ meaning
  pub makes_none : made_by meaning ≡ None

abbrev AllOwn : List Saying → Type 0
AllOwn said = AllByRecursion IsOwnWord said

abbrev nothing_own : (saying : Saying) → ((asked : Requests) → meant asked (sense saying) ≡ Nothing) → IsOwnWord saying
nothing_own saying is = record { meaning = Nothing; is = is; makes_none = refl }

own_words : (w : Channels) → Words w AllOwn
own_words w = record {
  none = tt;
  both = λ xs ys one other. all_both IsOwnWord xs ys one other;
  calls = λ own held request at is. (nothing_own _ (λ asked. refl), tt);
  wishes = λ own peer held setup request options at has to is. (record { meaning = Wishes request.identifier peer (written options); is = λ asked. refl; makes_none = refl }, tt);
  ends = λ identifier peer own. (record { meaning = Parts AsksEnd own peer; is = λ asked. refl; makes_none = refl }, tt);
  asks = λ request is. (nothing_own _ (λ asked. refl), tt);
  lets_call = λ identifier own. (nothing_own _ (λ asked. refl), tt);
  lets_end = λ own peer. (record { meaning = Parts EndForgone own peer; is = λ asked. refl; makes_none = refl }, tt);
}

own_features : (before after : Option Request) → AllOwn (features_given_up before after)
own_features None after = tt
own_features (Some request) None = (nothing_own _ (λ asked. refl), tt)
own_features (Some request) (Some other) = tt

own_fired : (tries : ℕ) (owns : List ℕ) (v : Channels) → AllOwn (said_by_channels tries owns v)
own_fired tries [] v =
    let after : Channels = times_features v.features tries v in
    all_both IsOwnWord (said_again errands.Features v after) (features_given_up v.features after.features) (words-again after AllOwn (own_words after) errands.Features v) (own_features v.features after.features)
own_fired tries (own ∷ owns) v =
    let between : Channels = times_held (held_at own v) tries v in
    let after : Channels = times_end (held_at own between) tries between in
    all_both IsOwnWord (said_by_channel tries own v) (said_by_channels tries owns (fired_channel tries own v))
    (all_both IsOwnWord (said_on_firing own v between) (said_on_firing own between after) (words-firing between AllOwn (own_words between) own v) (words-firing after AllOwn (own_words after) own between))
    (own_fired tries owns (fired_channel tries own v))

-- ---- a channel of its own talk, and what it is by what moved of that

-- the same, or over, with the options by which it had opened
pub data Keeps (x y : Entry) : Type 0 where
  Stays : x ≡ y → Keeps x y
  Ended : x.channel ≡ y.channel → x.life ≡ Over → (is_set x.setup ≡ true → x.setup ≡ y.setup) → Keeps x y

abbrev pub KeepsAt : Option Entry → Option Entry → Type 0
KeepsAt None None = Unit {0}
KeepsAt None (Some y) = ⊥
KeepsAt (Some x) None = ⊥
KeepsAt (Some x) (Some y) = Keeps x y

over_stays : (life : Life) (said : Option Word) → life ≡ Over → life_after life said ≡ Over
over_stays life None is = is
over_stays Over (Some said) is = refl
over_stays Alive (Some said) is = cc
over_stays Leaving (Some said) is = cc
over_stays Crossed (Some said) is = cc

-- of a channel that is over nothing is agreed on
frozen : (more : Meaning) (x : Entry) → x.life ≡ Over → (entry_after more x).setup ≡ x.setup
frozen more x over = ap (λ (life : Life). cond (is_there life) (setup_after x.setup (term x.channel more)) x.setup) over

pub set_stays : (setup : Setup) (said : Option Term) → is_set setup ≡ true → setup_after setup said ≡ setup
set_stays setup None is = refl
set_stays setup (Some more) is = ap (λ (b : Bool). cond b setup (with_term setup more)) is

both_keep : (more : Meaning) (x y : Entry) → Keeps x y → Keeps (entry_after more x) (entry_after more y)
both_keep more x y (Stays same) = Stays (ap (entry_after more) same)
both_keep more x y (Ended channel over setup) = Ended channel (over_stays x.life (word x.channel more) over) (λ set.
    let opened : is_set x.setup ≡ true = ap is_set (sym (frozen more x over)) ∙ set in
    let same = setup opened in
    frozen more x over
    ∙ (same ∙ sym (either_same (is_there y.life) (setup_after y.setup (term y.channel more)) y.setup (set_stays y.setup (term y.channel more) (ap is_set (sym same) ∙ opened)))))

-- where the host gives up the end of a channel, that is over, or as it was
ends_by : (life : Life) (names : Bool) → (life_after life (cond names (Some EndForgone) None) ≡ life) ⊎ (life_after life (cond names (Some EndForgone) None) ≡ Over)
ends_by life false = inl refl
ends_by Alive true = inl refl
ends_by Leaving true = inr refl
ends_by Crossed true = inr refl
ends_by Over true = inl refl

let_end : (own peer : ℕ) (x y : Entry) → Keeps x y → Keeps (entry_after (Parts EndForgone own peer) x) y
let_end own peer x y (Ended channel over setup) =
    let more = Parts EndForgone own peer in
    Ended channel (over_stays x.life (word x.channel more) over) (λ set. frozen more x over ∙ setup (ap is_set (sym (frozen more x over)) ∙ set))
let_end own peer x y (Stays same) = by (ends_by x.life (eqb own x.channel.own && eqb peer x.channel.peer))
  where
    more : Meaning
    more = Parts EndForgone own peer

    kept : (entry_after more x).setup ≡ x.setup
    kept = either_same (is_there x.life) (setup_after x.setup (term x.channel more)) x.setup refl

    by : ((entry_after more x).life ≡ x.life) ⊎ ((entry_after more x).life ≡ Over) → Keeps (entry_after more x) y
    by (inl life) = Stays (entry-is x (entry_after more x).life (entry_after more x).setup life kept ∙ same)
    by (inr over) = Ended (ap (λ (e : Entry). e.channel) same) over (λ set. kept ∙ ap (λ (e : Entry). e.setup) same)

let_go : (forgone : Forgone) (own : IsOwnWord (GaveUp forgone)) (x y : Entry) → Keeps x y → Keeps (entry_after own.meaning x) y
let_go forgone own x y keeps = by forgone own.meaning (own.is (record { calls = []; queries = []; failures = [] }))
  where
    by : (given : Forgone) (more : Meaning) → meant (record { calls = []; queries = []; failures = [] }) (sense (GaveUp given)) ≡ more → Keeps (entry_after more x) y
    by (Connection identifier n) more is = subst (λ (m : Meaning). Keeps (entry_after m x) y) is (subst (λ (e : Entry). Keeps e y) (sym (entry-same Nothing x refl refl)) keeps)
    by (Disconnection n peer) more is = subst (λ (m : Meaning). Keeps (entry_after m x) y) is (let_end n peer x y keeps)
    by (Information identifier) more is = subst (λ (m : Meaning). Keeps (entry_after m x) y) is (subst (λ (e : Entry). Keeps e y) (sym (entry-same Nothing x refl refl)) keeps)

both_at : (more : Meaning) (x y : Option Entry) → KeepsAt x y → KeepsAt (option_map (entry_after more) x) (option_map (entry_after more) y)
both_at more None None keeps = tt
both_at more None (Some y) keeps = keeps
both_at more (Some x) None keeps = keeps
both_at more (Some x) (Some y) keeps = both_keep more x y keeps

go_at : (forgone : Forgone) (own : IsOwnWord (GaveUp forgone)) (x y : Option Entry) → KeepsAt x y → KeepsAt (option_map (entry_after own.meaning) x) y
go_at forgone own None None keeps = tt
go_at forgone own None (Some y) keeps = keeps
go_at forgone own (Some x) None keeps = keeps
go_at forgone own (Some x) (Some y) keeps = let_go forgone own x y keeps

same_at : (x : Option Entry) → KeepsAt x x
same_at None = tt
same_at (Some x) = Stays refl

-- ---- a talk, and what moved of it

entries_own : (past : List Saying) (saying : Saying) (own : IsOwnWord saying) → (reading (past ++ saying ∷ [])).entries ≡ entries_after (reading past).entries own.meaning
entries_own past saying own = ap (λ (r : Reading). r.entries) (reading-more past saying) ∙ ap (entries_after (reading past).entries) (own.is (reading past).requests)

read_own : (past : List Saying) (saying : Saying) (own : IsOwnWord saying) (n : ℕ) → read_at n (reading (past ++ saying ∷ [])).entries ≡ option_map (entry_after own.meaning) (read_at n (reading past).entries)
read_own past saying own n = ap (read_at n) (entries_own past saying own) ∙ read-after own.meaning (reading past).entries n own.makes_none

apart_own : (past : List Saying) (saying : Saying) (own : IsOwnWord saying) → Apart (reading past).entries → Apart (reading (past ++ saying ∷ [])).entries
apart_own past saying own apart = subst Apart (sym (entries_own past saying own)) (apart-after own.meaning (reading past).entries own.makes_none apart)

bare_tail : (saying : Saying) (rest : List Saying) → IsBare (saying ∷ rest) → IsBare (saying ∷ []) × IsBare rest
bare_tail saying rest bare = by (is_carried saying) bare
  where
    by : (b : Bool) → (b || list_any is_carried rest) ≡ false → ((b || false) ≡ false) × IsBare rest
    by true is = cc
    by false is = (refl, is)

module _ (party : Party) where
  -- each channel is the same, or over, and the same frames passed on it
  pub record Moves (said moved : List Saying) : Type 0 where
    pub at : (own : ℕ) → KeepsAt (read_at own (reading said).entries) (read_at own (reading moved).entries)
    pub apart : Apart (reading moved).entries
    pub frames : (channel : Channel) → frames_passed party channel moved ≡ frames_passed party channel said

  same_moves : (said moved : List Saying) → moved ≡ said → Apart (reading said).entries → Moves said moved
  same_moves said moved same apart = subst (Moves said) (sym same) (record { at = λ own. same_at (read_at own (reading said).entries); apart = apart; frames = λ channel. refl })

  -- a word that is said
  word_moves : (said moved : List Saying) (saying : Saying) → IsOwnWord saying → IsBare (saying ∷ []) → Moves said moved → Moves (said ++ saying ∷ []) (moved ++ saying ∷ [])
  word_moves said moved saying own bare moves = record {
    at = λ n. subst (λ (x : Option Entry). KeepsAt x (read_at n (reading (moved ++ saying ∷ [])).entries)) (sym (read_own said saying own n))
        (subst (KeepsAt (option_map (entry_after own.meaning) (read_at n (reading said).entries))) (sym (read_own moved saying own n)) (both_at own.meaning (read_at n (reading said).entries) (read_at n (reading moved).entries) (moves.at n)));
    apart = apart_own moved saying own moves.apart;
    frames = λ channel. bare-passes party channel (saying ∷ []) moved bare ∙ (moves.frames channel ∙ sym (bare-passes party channel (saying ∷ []) said bare));
  }

  -- a request that is given up
  gone_moves : (said moved : List Saying) (forgone : Forgone) → IsOwnWord (GaveUp forgone) → Moves said moved → Moves (said ++ GaveUp forgone ∷ []) moved
  gone_moves said moved forgone own moves = record {
    at = λ n. subst (λ (x : Option Entry). KeepsAt x (read_at n (reading moved).entries)) (sym (read_own said (GaveUp forgone) own n)) (go_at forgone own (read_at n (reading said).entries) (read_at n (reading moved).entries) (moves.at n));
    apart = moves.apart;
    frames = λ channel. moves.frames channel ∙ sym (bare-passes party channel (GaveUp forgone ∷ []) said refl);
  }

  words_move : (list said moved : List Saying) → AllOwn list → IsBare list → Moves said moved → Moves (said ++ list) (moved ++ spoken_of list)
  words_move [] said moved own bare moves = subst (λ (s : List Saying). Moves s (moved ++ [])) (sym (append-nil said)) (subst (Moves said) (sym (append-nil moved)) moves)
  words_move (Command flow answer ∷ rest) said moved own bare moves =
      let parts = bare_tail (Command flow answer) rest bare in
      subst (λ (s : List Saying). Moves s (moved ++ Command flow answer ∷ spoken_of rest)) (append_assoc said (Command flow answer ∷ []) rest)
      (subst (Moves ((said ++ Command flow answer ∷ []) ++ rest)) (append_assoc moved (Command flow answer ∷ []) (spoken_of rest))
      (words_move rest (said ++ Command flow answer ∷ []) (moved ++ Command flow answer ∷ []) own.1 parts.1 (word_moves said moved (Command flow answer) own.0 parts.0 moves)))
  words_move (Carried flow pdu ∷ rest) said moved own bare moves = cc
  words_move (GaveUp forgone ∷ rest) said moved own bare moves =
      subst (λ (s : List Saying). Moves s (moved ++ spoken_of rest)) (append_assoc said (GaveUp forgone ∷ []) rest)
      (words_move rest (said ++ GaveUp forgone ∷ []) moved own.1 (bare_tail (GaveUp forgone) rest bare).1 (gone_moves said moved forgone own.0 moves))

  -- ---- a PDU goes out

  -- a channel that it goes out on is the same by what moved
  goes_moved : (said moved : List Saying) (own peer : ℕ) → GoesOut said own peer → Moves said moved → GoesOut moved own peer
  goes_moved said moved own peer goes moves = by (read_at own (reading moved).entries) refl (subst (λ (x : Option Entry). KeepsAt x (read_at own (reading moved).entries)) goes.found (moves.at own))
    where
      lives : is_there goes.entry.life ≡ true
      lives = both (is_set goes.entry.setup) (is_there goes.entry.life) goes.holds
        where
          both : (a b : Bool) → (a && b) ≡ true → b ≡ true
          both true b is = is
          both false b is = cc

      by : (found : Option Entry) → read_at own (reading moved).entries ≡ found → KeepsAt (Some goes.entry) found → GoesOut moved own peer
      by None at keeps = absurd keeps
      by (Some y) at (Stays same) =
          let here : read_at own (reading moved).entries ≡ Some goes.entry = at ∙ ap (λ (e : Entry). Some e) (sym same) in
          record {
            entry = goes.entry;
            found = here;
            peer_is = goes.peer_is;
            holds = goes.holds;
            only = λ other x found there to. moves.apart other own x goes.entry found here there lives (to ∙ sym goes.peer_is);
          }
      by (Some y) at (Ended channel over setup) = let never : true ≡ false = sym lives ∙ ap is_there over in absurd cc

  out_moves : (said moved : List Saying) (own peer : ℕ) (pdu : List ℕ) → GoesOut said own peer → channel_of pdu ≡ peer → Moves said moved → Moves (said ++ Carried Out pdu ∷ []) (moved ++ Carried Out pdu ∷ [])
  out_moves said moved own peer pdu goes to moves = record {
    at = λ n. subst (λ (x : Option Entry). KeepsAt x (read_at n (reading (moved ++ Carried Out pdu ∷ [])).entries)) (sym (read_own said (Carried Out pdu) quiet n))
        (subst (KeepsAt (option_map (entry_after Nothing) (read_at n (reading said).entries))) (sym (read_own moved (Carried Out pdu) quiet n)) (both_at Nothing (read_at n (reading said).entries) (read_at n (reading moved).entries) (moves.at n)));
    apart = apart_own moved (Carried Out pdu) quiet moves.apart;
    frames = λ channel. by channel (eqb own channel.own) refl;
  }
    where
      quiet : IsOwnWord (Carried Out pdu)
      quiet = nothing_own (Carried Out pdu) (λ asked. refl)

      there : GoesOut moved own peer
      there = goes_moved said moved own peer goes moves

      by : (channel : Channel) (here : Bool) → eqb own channel.own ≡ here → frames_passed party channel (moved ++ Carried Out pdu ∷ []) ≡ frames_passed party channel (said ++ Carried Out pdu ∷ [])
      by channel false away = out-other party channel moved own peer pdu there to away ∙ (moves.frames channel ∙ sym (out-other party channel said own peer pdu goes to away))
      by channel true is =
          let same = eqb-true own channel.own is in
          passed-more party channel moved (Carried Out pdu)
          ∙ (ap₂ (λ (frames : List Passage) (more : List Carriage). frames ++ filter_map (passage_in party) more) (moves.frames channel)
          (carried-own channel moved peer pdu (subst (λ (n : ℕ). GoesOut moved n peer) same there) to ∙ sym (carried-own channel said peer pdu (subst (λ (n : ℕ). GoesOut said n peer) same goes) to))
          ∙ sym (passed-more party channel said (Carried Out pdu)))

-- ---- where something comes in

exchanged_spoken : (one : Read) (reply : Option Signalled) (v : Channels) → AllSpoken (exchanged one reply v)
exchanged_spoken one reply v = by (can_say (option_map (λ (c : Signalled). c.content) reply) v) reply
  where
    by : (can : Bool) (reply : Option Signalled) → AllSpoken (cond can (Command Into one ∷ map spoken (option_to_list reply)) [])
    by true None = (refl, tt)
    by true (Some command) = (refl, (refl, tt))
    by false reply = tt

answered_spoken : (policy : Policy) (list : List Read) (v : Channels) → AllSpoken (said_with_all policy list v)
answered_spoken policy [] v = tt
answered_spoken policy (one ∷ list) v =
    let w : Channels = hears_command policy one v in
    both_spoken (said_with policy one v) (said_with_all policy list w)
    (both_spoken (exchanged one (reply_to policy one v) v) (asked_between v w) (exchanged_spoken one (reply_to policy one v) v) (asked_spoken v w)) (answered_spoken policy list w)

-- nothing is given up with it
pub comes_spoken : (policy : Policy) (pdu : List ℕ) (v : Channels) → AllSpoken (said_in policy (Comes pdu) v)
comes_spoken policy pdu v = by (eqb (channel_of pdu) 0x0001)
  where
    by : (signal : Bool) → AllSpoken (cond signal (said_with_all policy (answers (drop 4 pdu)) v) (Carried Into pdu ∷ asked_between v (takes (channel_of pdu) pdu v)))
    by true = answered_spoken policy (answers (drop 4 pdu)) v
    by false = (refl, asked_spoken v (takes (channel_of pdu) pdu v))

-- ---- a host

module _ (policy : Policy) (party : Party) where
  silent_moves : (past moved : List Saying) → Moves party past moved → Moves party (past ++ []) (moved ++ [])
  silent_moves past moved moves = words_move party [] past moved tt refl moves

  -- what goes out does so on a channel that is there
  goes_there : (past : List Saying) (v : Channels) (held : Held) (setup : Agreed) (r : IsRead policy past held.own held setup) → is_set r.entry.setup ≡ true → Sound policy (reading past) v → GoesOut past held.own r.peer
  goes_there past v held setup r set sound = record {
    entry = r.entry;
    found = r.found;
    peer_is = r.here;
    holds = ap (λ (b : Bool). b && is_there r.entry.life) set ∙ r.there;
    only = λ other x at there same. sound.core.apart other held.own x r.entry at r.found there r.there (same ∙ sym r.here);
  }

  -- more is said, and moves but for what is given up
  abbrev GoesOn : (past moved said : List Saying) → Type 0
  GoesOn past moved said = Moves party (past ++ said) (moved ++ spoken_of said)

  abbrev SendsOn : (past moved : List Saying) (sdu : List ℕ) → Option Carrier → Option Held → Type 0
  SendsOn past moved sdu carrier held = GoesOn past moved (said_by_carrier carrier (peer_at held) sdu)

  -- an SDU is sent
  sends_move : (past moved : List Saying) (v : Channels) (own : ℕ) (sdu : List ℕ) → peer_at (held_at own v) < 65536 → Sound policy (reading past) v → Moves party past moved → SendsOn past moved sdu (carrier_at own v) (held_at own v)
  sends_move past moved v own sdu fits sound moves = of (held_at own v) refl fits
    where
      silent : Moves party (past ++ []) (moved ++ [])
      silent = silent_moves past moved moves

      carries : (held : Held) (setup : Agreed) (carrier : Option Carrier) → held_at held.own v ≡ Some held → setup_of held.stage ≡ Some setup → setup.carrier ≡ carrier → is_open setup ≡ true → peer_at (Some held) < 65536 → SendsOn past moved sdu carrier (Some held)
      carries held setup None found has is opened low = silent
      carries held setup (Some (Retransmitting machine)) found has is opened low = silent
      carries held setup (Some (Plain agreed (Some waiting))) found has is opened low = silent
      carries held setup (Some (Plain agreed None)) found has is opened low =
          let r : IsRead policy past held.own held setup = is-read policy past v held.own held setup found has sound in
          let to : peer_at (Some held) ≡ r.peer = ap (λ (p : Option ℕ). unwrap_or p 0) r.peer_is in
          out_moves party past moved held.own r.peer (headed (peer_at (Some held)) sdu) (goes_there past v held setup r (set-is policy past held.own held setup r (Plain agreed None) is (open-stated setup opened)) sound)
          (le16-number (peer_at (Some held)) sdu low ∙ to) moves

      opens : (held : Held) (setup : Agreed) (opened : Bool) → held_at held.own v ≡ Some held → setup_of held.stage ≡ Some setup → is_open setup ≡ opened → peer_at (Some held) < 65536 → SendsOn past moved sdu (carrier_if opened setup) (Some held)
      opens held setup true found has opened low = carries held setup setup.carrier found has refl opened low
      opens held setup false found has opened low = silent

      on : (held : Held) (setup : Option Agreed) → held_at held.own v ≡ Some held → setup_of held.stage ≡ setup → peer_at (Some held) < 65536 → SendsOn past moved sdu (open_carrier setup) (Some held)
      on held None found has low = silent
      on held (Some setup) found has low = opens held setup (is_open setup) found has refl low

      of : (held : Option Held) → held_at own v ≡ held → peer_at held < 65536 → SendsOn past moved sdu (open_carrier (setup_on held)) held
      of None found low = silent
      of (Some held) found low = on held (setup_of held.stage) (found-own own v held found) refl low

  -- the next PDU is given
  gives_move : (channel : Channel) (past moved : List Saying) (v : Channels) (given : Option Given) (pdu : List ℕ) → next_given v ≡ given → IsSpelled given pdu → Sound policy (reading past) v → Pass policy party channel past v → Moves party past moved
      → GoesOn past moved (said_as given pdu)
  gives_move channel past moved v None pdu is spelled sound passes moves = silent_moves past moved moves
  gives_move channel past moved v (Some (Signal command)) pdu is spelled sound passes moves = silent_moves past moved moves
  gives_move channel past moved v (Some (Whole peer sdu)) pdu is spelled sound passes moves = silent_moves past moved moves
  gives_move channel past moved v (Some (Framed peer frame)) pdu is spelled sound passes moves = by g.carrier g.is g.gives_it
    where
      read : (frame_in 65535 pdu ≡ Some frame) × (channel_of pdu ≡ peer)
      read = spelled-frame peer frame pdu spelled.0 spelled.1

      g : Gives_out peer (Framed peer frame) v
      g = queue-out v v.queue peer (Framed peer frame) sound.core.lone is refl

      r : IsRead policy past g.held.own g.held g.setup
      r = is-read policy past v g.held.own g.held g.setup g.found g.has sound

      some_same : (a b : ℕ) → Some a ≡ Some b → a ≡ b
      some_same a b same = cc

      peer_is : r.peer ≡ peer
      peer_is = some_same r.peer peer (sym r.peer_is ∙ g.to)

      frames : List Passage
      frames = frames_passed party (channel_at channel g.held.own) past

      by : (carrier : Carrier) → g.setup.carrier ≡ Some carrier → carrier_gives carrier peer ≡ Some (Framed peer frame) → Moves party (past ++ Carried Out pdu ∷ []) (moved ++ Carried Out pdu ∷ [])
      by (Plain agreed None) carrier_is giving = cc
      by (Plain agreed (Some sdu)) carrier_is giving = cc
      by (Retransmitting machine) carrier_is giving =
          out_moves party past moved g.held.own r.peer pdu (goes_there past v g.held g.setup r (set-is policy past g.held.own g.held g.setup r (Retransmitting machine) carrier_is (open-stated g.setup opened)) sound) (read.1 ∙ sym peer_is) moves
        where
          found : (f : Option PlainFrame) → option_map (Framed peer) f ≡ Some (Framed peer frame) → f ≡ Some frame
          found None is = cc
          found (Some other) is = cc

          opened : is_open g.setup ≡ true
          opened = (passing-gives party.frame frames (is_open g.setup) machine frame (found (next_frame machine) giving)
              (subst (CarrierPasses party.frame frames (policy.wish g.held.psm) (is_open g.setup)) carrier_is
              (kept-setup party.frame frames (policy.wish g.held.psm) g.held.stage g.setup g.has (subst (HeldKeeps policy (Passed party.frame frames)) g.found (passes.at g.held.own))))).0

  -- ---- all that happens

  module _ (channel : Channel) (states : StatesFrame policy party) where
    -- the host says more
    step_moves : (past : List Occurrence) (one : Occurrence) → AreUttered policy past → IsUttered one (run_of policy past).value → IsHeardSo (GivesNothingUp policy) past one → Moves party (run_of policy past).said (spoken_of (run_of policy past).said)
        → (let run = run_of policy past in GoesOn run.said (spoken_of run.said) (said_in policy one run.value))
    step_moves past one before now hears moves = by one now hears
      where
        run : Run
        run = run_of policy past

        v : Channels
        v = run.value

        seen : List Saying
        seen = spoken_of run.said

        of_own : (said : List Saying) → AllOwn said → IsBare said → GoesOn run.said seen said
        of_own said own bare = words_move party said run.said seen own bare moves

        by : (more : Occurrence) → IsUttered more v → IsHeardSo (GivesNothingUp policy) past more → GoesOn run.said seen (said_in policy more v)
        by (Comes pdu) uttered so_far =
            let said = said_in policy (Comes pdu) v in
            same_moves party (run.said ++ said) (seen ++ spoken_of said) (ap₂ (λ (a b : List Saying). a ++ b) so_far (all_passed said (comes_spoken policy pdu v)))
            (subst (λ (r : Run). Apart (reading r.said).entries) (fold-append (run_on policy) new_link past (Comes pdu ∷ [])) (all-sound policy (past ++ Comes pdu ∷ [])).core.apart)
        by (Connects psm) uttered so_far = let w = connected psm v in of_own (asked_between v w) (words-asked w AllOwn (own_words w) v) (bare-asked v w)
        by AsksFeatures uttered so_far = let w = asks_features v in of_own (asked_between v w) (words-asked w AllOwn (own_words w) v) (bare-asked v w)
        by (Disconnects own) uttered so_far = let w = disconnected own v in of_own (asked_between v w ++ given_up own v w) (words-left w AllOwn (own_words w) own v) (bare-left own v w)
        by (Sends own sdu) uttered so_far = sends_move run.said seen v own sdu uttered (all-sound policy past) moves
        by (Gives pdu) uttered so_far = gives_move channel run.said seen v (next_given v) pdu refl uttered (all-sound policy past) (run-passes policy party channel past states before).1 moves
        by Fires uttered so_far = let owns : List ℕ = map (λ (held : Held). held.own) v.held in of_own (said_by_channels policy.tries owns v) (own_fired policy.tries owns v) (bare-fired policy.tries owns v)
        by Tells uttered so_far = silent_moves run.said seen moves

    later_moves : (past later : List Occurrence) → AreUttered policy past → EachAfter (λ front more. IsUttered more (run_of policy front).value) past later → EachAfter (IsHeardSo (GivesNothingUp policy)) past later
        → Moves party (run_of policy past).said (spoken_of (run_of policy past).said) → Moves party (run_of policy (past ++ later)).said (spoken_of (run_of policy (past ++ later)).said)
    later_moves past [] before uttered hears moves = subst (λ (l : List Occurrence). Moves party (run_of policy l).said (spoken_of (run_of policy l).said)) (sym (append-nil past)) moves
    later_moves past (one ∷ later) before (now, uttered) (here, hears) moves =
        let run : Run = run_of policy past in
        let more = said_in policy one run.value in
        let said : (run_of policy (past ++ one ∷ [])).said ≡ run.said ++ more = ap (λ (r : Run). r.said) (fold-append (run_on policy) new_link past (one ∷ [])) in
        let next : Moves party (run.said ++ more) (spoken_of (run.said ++ more)) = subst (Moves party (run.said ++ more)) (sym (filter-append is_spoken run.said more)) (step_moves past one before now here moves) in
        subst (λ (l : List Occurrence). Moves party (run_of policy l).said (spoken_of (run_of policy l).said)) (append_assoc past (one ∷ []) later)
        (later_moves (past ++ one ∷ []) later (each_after-more (λ front more. IsUttered more (run_of policy front).value) past one before now) uttered hears (subst (λ (s : List Saying). Moves party s (spoken_of s)) (sym said) next))

    pub run-moves : (list : List Occurrence) → AreUttered policy list → EachAfter (IsHeardSo (GivesNothingUp policy)) [] list → Moves party (run_of policy list).said (spoken_of (run_of policy list).said)
    run-moves list uttered hears = later_moves [] list tt uttered hears (same_moves party [] [] refl (all-sound policy []).core.apart)

pub forgone-takes_no_frame : ForgoneTakesNoFrame
forgone-takes_no_frame policy party list channel states uttered hears = (run-moves policy party channel states list uttered hears).frames channel

-- ---- a channel that has not opened

unset_takes : (flow : Flow) (pdu : List ℕ) (found : Option Entry) → has_opened found ≡ false → goes_over is_passed flow pdu found ≡ false
unset_takes flow pdu None unset = refl
unset_takes flow pdu (Some entry) unset = ap (λ (b : Bool). (b && is_there entry.life) && eqb (endpoint flow entry.channel) (channel_of pdu)) unset

carries_none : (channel : Channel) (said : List Saying) (more : Saying) → has_opened (read_at channel.own (reading said).entries) ≡ false → carried is_passed channel said more ≡ []
carries_none channel said (Command flow answer) unset = refl
carries_none channel said (Carried flow pdu) unset = carried-none is_passed channel said flow pdu (unset_takes flow pdu (read_at channel.own (reading said).entries) unset)
carries_none channel said (GaveUp forgone) unset = refl

-- no frames pass on it
pub unopened-passes : (party : Party) (channel : Channel) (said : List Saying) → has_opened (read_at channel.own (reading said).entries) ≡ false → frames_passed party channel said ≡ []
unopened-passes party channel said = from_end (λ past. has_opened (read_at channel.own (reading past).entries) ≡ false → frames_passed party channel past ≡ []) (λ unset. refl) step said
  where
    step : (past : List Saying) (more : Saying) → (has_opened (read_at channel.own (reading past).entries) ≡ false → frames_passed party channel past ≡ [])
        → has_opened (read_at channel.own (reading (past ++ more ∷ [])).entries) ≡ false → frames_passed party channel (past ++ more ∷ []) ≡ []
    step past more before unset = by (has_opened (read_at channel.own (reading past).entries)) refl
      where
        by : (opened : Bool) → has_opened (read_at channel.own (reading past).entries) ≡ opened → frames_passed party channel (past ++ more ∷ []) ≡ []
        by true is = let never : true ≡ false = sym (mode-stands channel past more is).1 ∙ unset in absurd cc
        by false is = none_more party channel past more (carries_none channel past more is) ∙ before is
