-- How a channel comes to be over in the talk of its host.
use Rattle.std.proofs.Common.{◌≡◌, ℕ, List, [], ◌∷◌, ◌++◌, Bool, true, false, cond, eqb, not, ◌&&◌, Option, Some, None, Ok, Err, refl, sym, ap, subst, ◌∙◌, ◌⊎◌, inl, inr}
use Rattle.std.specs.Prelude.{nat_le}
use Rattle.std.specs.Option.{option_or}
use Rattle.std.specs.List.{list_any}
use Rattle.std.proofs.lemmas.Bool.{eqb-true}
use Rattle.channel_laws.specs.capture.specs.declared.flow.Flow.{Flow}
use Rattle.channel_laws.specs.capture.specs.declared.flow.Flow.TheVariants.{Into, Out}
use Rattle.channel_laws.specs.l2cap_signal.specs.Commands.{Content, reject, connection_request, connection_response, configuration_request, configuration_response, disconnection_request, disconnection_response, echo_request, echo_response, information_request, information_response}
use Rattle.channel_laws.specs.l2cap_signal.specs.declared.refusal.SignalRefusal.TheVariants.{ZeroIdentifier, BadLength, UnknownCode, AboveMtu}
use Rattle.channel_laws.specs.l2cap_config.specs.Reading.{options_read}
use Rattle.channel_laws.specs.link_talk.specs.declared.call.Wanted.{Wanted}
use Rattle.channel_laws.specs.link_talk.specs.declared.channel.Channel.{Channel}
use Rattle.channel_laws.specs.link_talk.specs.declared.life.Life.{Life}
use Rattle.channel_laws.specs.link_talk.specs.declared.life.Life.TheVariants as lives
use Rattle.channel_laws.specs.link_talk.specs.declared.word.Word.{Word}
use Rattle.channel_laws.specs.link_talk.specs.declared.word.Word.TheVariants as words
use Rattle.channel_laws.specs.link_talk.specs.Channels.{Entry, fresh, is_owner, life_after, word, waits_for_end, entry_after, made_by, entries_after, Reading, reading}
use Rattle.channel_laws.specs.link_talk.specs.Meanings.{Meaning, Makes, Answers, Wishes, Settles, Parts, Nothing, granted, made, answered, is_read, meant}
use Rattle.channel_laws.specs.link_talk.specs.Requests.{Terms, Requests, answered_call, answered_query, has_failed}
use Rattle.channel_laws.specs.link_talk.specs.Senses.{Asks, Quiet, Unread, sense}
use Rattle.channel_laws.specs.link_talk.specs.Sayings.{Saying, Carried, GaveUp, Connection, Disconnection, Information}
use Rattle.channel_laws.specs.link_talk.specs.Sayings as sayings
use Rattle.channel_laws.specs.talk_laws.proofs.Passes.{from_end}
use Rattle.channel_laws.specs.OwnTalk.{spoken, command_with}
use Rattle.channel_laws.specs.Signals.{StandsIn}
use Rattle.channel_laws.specs.Views.{read_at}
use Rattle.channel_laws.proofs.Conversing.{reading-on}
use Rattle.channel_laws.proofs.Entries.{makes-fresh, read-after, read-append}
use Rattle.channel_laws.proofs.Origins.{makes-it}
use Rattle.channel_laws.proofs.Saying.{stands-left, stands-right}
use Rattle.channel_laws.proofs.Sound.{some-of_map}
use Rattle.disconnection_laws.specs.Ended.{HasAnsweredEnd}
use Rattle.configuration_laws.specs.Asked.{HasAskedEnd}

-- ---- one saying

-- its host answered the peer's request for the end, heard the response to its own, or gave that up
abbrev pub IsOver : (own peer : ℕ) → List Saying → Type 0
IsOver own peer said =
    ((identifier : ℕ) × HasAnsweredEnd identifier own peer said) ⊎ (((identifier : ℕ) × StandsIn (sayings.Command Into (Ok (command_with identifier (disconnection_response peer own)))) said) ⊎ StandsIn (GaveUp (Disconnection own peer)) said)

over_more : (own peer : ℕ) (said more : List Saying) → IsOver own peer said → IsOver own peer (said ++ more)
over_more own peer said more (inl (identifier, stands)) = inl (identifier, stands-left _ said more stands)
over_more own peer said more (inr (inl (identifier, stands))) = inr (inl (identifier, stands-left _ said more stands))
over_more own peer said more (inr (inr stands)) = inr (inr (stands-left _ said more stands))

-- what a saying means of the end of a channel
abbrev IsWord : Saying → Word → (own peer : ℕ) → Type 0
IsWord s words.AsksEnd own peer = (identifier : ℕ) × (s ≡ spoken (command_with identifier (disconnection_request peer own)))
IsWord s words.AnswersEnd own peer = (identifier : ℕ) × (s ≡ spoken (command_with identifier (disconnection_response own peer)))
IsWord s words.EndAnswered own peer = (identifier : ℕ) × (s ≡ sayings.Command Into (Ok (command_with identifier (disconnection_response peer own))))
IsWord s words.EndForgone own peer = s ≡ GaveUp (Disconnection own peer)

-- it parts so, or not at all
abbrev Parted : Saying → Meaning → Type 0
Parted s (Makes channel) = Unit {0}
Parted s (Answers part) = Unit {0}
Parted s (Wishes identifier peer options) = Unit {0}
Parted s (Settles identifier own) = Unit {0}
Parted s (Parts said own peer) = IsWord s said own peer
Parted s Nothing = Unit {0}

granted_parted : (s : Saying) (own peer : ℕ) (wanted : Option Wanted) → Parted s (granted own peer wanted)
granted_parted s own peer None = tt
granted_parted s own peer (Some wanted) = tt

made_parted : (s : Saying) (asked : Requests) (flow : Flow) (identifier destination source : ℕ) → Parted s (made asked flow identifier destination source)
made_parted s asked Out identifier destination source = granted_parted s destination source (answered_call asked Into identifier source)
made_parted s asked Into identifier destination source = by (has_failed asked identifier source)
  where
    by : (b : Bool) → Parted s (cond b Nothing (granted source destination (answered_call asked Out identifier source)))
    by true = tt
    by false = granted_parted s source destination (answered_call asked Out identifier source)

if_parted : (s : Saying) (b : Bool) (m : Meaning) → Parted s m → Parted s (cond b m Nothing)
if_parted s true m is = is
if_parted s false m is = tt

answered_parted : (s : Saying) (peer flags answer : ℕ) (terms : Option Terms) → Parted s (answered peer flags answer terms)
answered_parted s peer flags answer None = tt
answered_parted s peer flags answer (Some terms) = tt

unread_parted : (s : Saying) (asked : Requests) (flow : Flow) (code identifier : ℕ) (zero : Bool) → Parted s (meant asked (cond zero Quiet (Asks flow identifier (Unread code))))
unread_parted s asked flow code identifier true = tt
unread_parted s asked Out code identifier false = tt
unread_parted s asked Into code identifier false = tt

parted : (asked : Requests) (s : Saying) → Parted s (meant asked (sense s))
parted asked (sayings.Command flow (Ok command)) = by flow command.content refl
  where
    it : Flow → Content → Saying
    it f content = sayings.Command f (Ok (command_with command.identifier content))

    by : (f : Flow) (content : Content) → command.content ≡ content → Parted (sayings.Command f (Ok command)) (meant asked (sense (it f content)))
    by Out (disconnection_response destination source) is = (command.identifier, ap (it Out) is)
    by Into (disconnection_response destination source) is = (command.identifier, ap (it Into) is)
    by Out (disconnection_request destination source) is = (command.identifier, ap (it Out) is)
    by Into (disconnection_request destination source) is = tt
    by Out (reject reason rest) is = tt
    by Into (reject reason rest) is = tt
    by Out (connection_request psm source) is = tt
    by Into (connection_request psm source) is = tt
    by Out (connection_response destination source answer status) is = if_parted _ (eqb answer 0 && nat_le 0x0040 destination) _ (made_parted _ asked Out command.identifier destination source)
    by Into (connection_response destination source answer status) is = if_parted _ (eqb answer 0 && nat_le 0x0040 destination) _ (made_parted _ asked Into command.identifier destination source)
    by Out (configuration_request destination flags options) is = tt
    by Into (configuration_request destination flags options) is = tt
    by Out (configuration_response source flags answer options) is = answered_parted _ source flags answer (answered_query asked command.identifier)
    by Into (configuration_response source flags answer options) is = if_parted _ (is_read (options_read options) && not (eqb answer 4)) (Settles command.identifier source) tt
    by Out (echo_request octets) is = tt
    by Into (echo_request octets) is = tt
    by Out (echo_response octets) is = tt
    by Into (echo_response octets) is = tt
    by Out (information_request kind) is = tt
    by Into (information_request kind) is = tt
    by Out (information_response kind answer rest) is = tt
    by Into (information_response kind answer rest) is = tt
parted asked (sayings.Command flow (Err (ZeroIdentifier code identifier))) = tt
parted asked (sayings.Command flow (Err (BadLength code None))) = tt
parted asked (sayings.Command flow (Err (BadLength code (Some identifier)))) = unread_parted _ asked flow code identifier (eqb identifier 0)
parted asked (sayings.Command flow (Err (UnknownCode code identifier))) = tt
parted asked (sayings.Command flow (Err (AboveMtu code identifier))) = tt
parted asked (Carried flow pdu) = tt
parted asked (GaveUp (Connection identifier own)) = tt
parted asked (GaveUp (Disconnection own peer)) = refl
parted asked (GaveUp (Information identifier)) = tt

-- ---- what becomes of a channel

said_so : (said : List Saying) (s : Saying) (w : Word) (own peer : ℕ) → (w ≡ words.AsksEnd → ⊥) → IsWord s w own peer → IsOver own peer (said ++ s ∷ [])
said_so said s words.AsksEnd own peer other is = absurd (other refl)
said_so said s words.AnswersEnd own peer other (identifier, is) = inl (identifier, stands-right _ said (s ∷ []) (inl is))
said_so said s words.EndAnswered own peer other (identifier, is) = inr (inl (identifier, stands-right _ said (s ∷ []) (inl is)))
said_so said s words.EndForgone own peer other is = inr (inr (stands-right _ said (s ∷ []) (inl is)))

-- the word is of this channel
word_of : (s : Saying) (channel : Channel) (m : Meaning) (w : Word) → word channel m ≡ Some w → Parted s m → IsWord s w channel.own channel.peer
word_of s channel (Makes other) w is so = cc
word_of s channel (Answers part) w is so = cc
word_of s channel (Wishes identifier peer options) w is so = cc
word_of s channel (Settles identifier own) w is so = cc
word_of s channel (Parts said own peer) w is so = by (eqb own channel.own) (eqb peer channel.peer) refl refl is
  where
    by : (one other : Bool) → eqb own channel.own ≡ one → eqb peer channel.peer ≡ other → cond (one && other) (Some said) None ≡ Some w → IsWord s w channel.own channel.peer
    by true true first second has =
        let same : said ≡ w = cc in
        subst (λ n. IsWord s w n channel.peer) (eqb-true own channel.own first) (subst (λ n. IsWord s w own n) (eqb-true peer channel.peer second) (subst (λ x. IsWord s x own peer) same so))
    by true false first second has = cc
    by false other first second has = cc
word_of s channel Nothing w is so = cc

-- a channel that was not over is so behind a word that ends it
comes_over : (life : Life) (said : Option Word) → life_after life said ≡ lives.Over → (life ≡ lives.Over) ⊎ ((w : Word) × (said ≡ Some w) × (w ≡ words.AsksEnd → ⊥))
comes_over life None is = inl is
comes_over lives.Alive (Some words.AsksEnd) is = cc
comes_over lives.Alive (Some words.AnswersEnd) is = inr (words.AnswersEnd, refl, λ same. cc)
comes_over lives.Alive (Some words.EndAnswered) is = cc
comes_over lives.Alive (Some words.EndForgone) is = cc
comes_over lives.Leaving (Some words.AsksEnd) is = cc
comes_over lives.Leaving (Some words.AnswersEnd) is = cc
comes_over lives.Leaving (Some words.EndAnswered) is = inr (words.EndAnswered, refl, λ same. cc)
comes_over lives.Leaving (Some words.EndForgone) is = inr (words.EndForgone, refl, λ same. cc)
comes_over lives.Crossed (Some words.AsksEnd) is = cc
comes_over lives.Crossed (Some words.AnswersEnd) is = cc
comes_over lives.Crossed (Some words.EndAnswered) is = inr (words.EndAnswered, refl, λ same. cc)
comes_over lives.Crossed (Some words.EndForgone) is = inr (words.EndForgone, refl, λ same. cc)
comes_over lives.Over (Some said) is = inl refl

-- and one that was not left is left behind the request for its end
comes_left : (life : Life) (said : Option Word) → waits_for_end (life_after life said) ≡ true → (waits_for_end life ≡ true) ⊎ (said ≡ Some words.AsksEnd)
comes_left life None is = inl is
comes_left lives.Alive (Some words.AsksEnd) is = inr refl
comes_left lives.Alive (Some words.AnswersEnd) is = cc
comes_left lives.Alive (Some words.EndAnswered) is = cc
comes_left lives.Alive (Some words.EndForgone) is = cc
comes_left lives.Leaving (Some said) is = inl refl
comes_left lives.Crossed (Some said) is = inl refl
comes_left lives.Over (Some said) is = cc

-- ---- all that was said

-- what holds of the life of a channel, told by the word behind which it came to hold
module _ (Holds : Life → Type 0) (Told : (own peer : ℕ) → List Saying → Type 0) (new : Holds lives.Alive → ⊥) (later : (own peer : ℕ) (said more : List Saying) → Told own peer said → Told own peer (said ++ more))
    (comes : (said : List Saying) (s : Saying) (channel : Channel) (life : Life) (w : Option Word) → ((word : Word) → w ≡ Some word → IsWord s word channel.own channel.peer) → Holds (life_after life w) → Holds life ⊎ Told channel.own channel.peer (said ++ s ∷ [])) where
  abbrev AllTold : List Saying → Type 0
  AllTold said = (own : ℕ) (entry : Entry) → read_at own (reading said).entries ≡ Some entry → Holds entry.life → Told entry.channel.own entry.channel.peer said

  step : (said : List Saying) (s : Saying) → AllTold said → AllTold (said ++ s ∷ [])
  step said s before own after found holds = by (made_by m) refl (sym (ap (λ (r : Reading). read_at own r.entries) (reading-on said (s ∷ []))) ∙ found)
    where
      m : Meaning
      m = meant (reading said).requests (sense s)

      entries : List Entry
      entries = (reading said).entries

      old : (entry : Entry) → read_at own entries ≡ Some entry → Holds entry.life → Told entry.channel.own entry.channel.peer (said ++ s ∷ [])
      old entry there is = later entry.channel.own entry.channel.peer said (s ∷ []) (before own entry there is)

      went : (entry : Entry) → read_at own entries ≡ Some entry → Holds (life_after entry.life (word entry.channel m)) → Told entry.channel.own entry.channel.peer (said ++ s ∷ [])
      went entry there is = on (comes said s entry.channel entry.life (word entry.channel m) (λ w has. word_of s entry.channel m w has (parted (reading said).requests s)) is)
        where
          on : Holds entry.life ⊎ Told entry.channel.own entry.channel.peer (said ++ s ∷ []) → Told entry.channel.own entry.channel.peer (said ++ s ∷ [])
          on (inl was) = old entry there was
          on (inr told) = told

      moved : (entry : Entry) → read_at own entries ≡ Some entry → entry_after m entry ≡ after → Told after.channel.own after.channel.peer (said ++ s ∷ [])
      moved entry there goes =
          subst (λ (c : Channel). Told c.own c.peer (said ++ s ∷ [])) (ap (λ (e : Entry). e.channel) goes) (went entry there (subst Holds (sym (ap (λ (e : Entry). e.life) goes)) holds))

      fresh_or : (channel : Channel) (was : Option Entry) → read_at own entries ≡ was → (same : Bool) → option_or was (cond same (Some (fresh channel)) None) ≡ Some after → Told after.channel.own after.channel.peer (said ++ s ∷ [])
      fresh_or channel (Some entry) there same is = let it : entry ≡ after = cc in subst (λ (e : Entry). Told e.channel.own e.channel.peer (said ++ s ∷ [])) it (old entry there (subst Holds (sym (ap (λ (e : Entry). e.life) it)) holds))
      fresh_or channel None there true is = let it : fresh channel ≡ after = cc in absurd (new (subst Holds (sym (ap (λ (e : Entry). e.life) it)) holds))
      fresh_or channel None there false is = cc

      owned : (channel : Channel) (taken : Bool) → read_at own (cond taken entries (entries ++ fresh channel ∷ [])) ≡ Some after → Told after.channel.own after.channel.peer (said ++ s ∷ [])
      owned channel true is = old after is holds
      owned channel false is = fresh_or channel (read_at own entries) refl (eqb channel.own own) (sym (read-append own entries channel) ∙ is)

      by : (made : Option Channel) → made_by m ≡ made → read_at own (entries_after entries m) ≡ Some after → Told after.channel.own after.channel.peer (said ++ s ∷ [])
      by None none is = let (entry, there, goes) = some-of_map (entry_after m) (read_at own entries) after (sym (read-after m entries own none) ∙ is) in moved entry there goes
      by (Some channel) makes is = owned channel (list_any (is_owner channel) entries) (sym (ap (read_at own) (ap (entries_after entries) (makes-it m channel makes) ∙ makes-fresh channel entries)) ∙ is)

  all_told : (said : List Saying) → AllTold said
  all_told = from_end AllTold (λ own entry found holds. cc) step

-- Where a channel is over in the talk of its host, it is so for one of these.
pub all-over : (said : List Saying) (own : ℕ) (entry : Entry) → read_at own (reading said).entries ≡ Some entry → entry.life ≡ lives.Over → IsOver entry.channel.own entry.channel.peer said
all-over = all_told (λ life. life ≡ lives.Over) IsOver (λ same. cc) over_more comes
  where
    comes : (said : List Saying) (s : Saying) (channel : Channel) (life : Life) (w : Option Word) → ((word : Word) → w ≡ Some word → IsWord s word channel.own channel.peer) → life_after life w ≡ lives.Over → (life ≡ lives.Over) ⊎ IsOver channel.own channel.peer (said ++ s ∷ [])
    comes said s channel life w is over = by (comes_over life w over)
      where
        by : (life ≡ lives.Over) ⊎ ((one : Word) × (w ≡ Some one) × (one ≡ words.AsksEnd → ⊥)) → (life ≡ lives.Over) ⊎ IsOver channel.own channel.peer (said ++ s ∷ [])
        by (inl was) = inl was
        by (inr (one, has, other)) = inr (said_so said s one channel.own channel.peer other (is one has))

-- Where a request for the end of a channel waits in the talk of its host, the host asked for it.
pub all-left : (said : List Saying) (own : ℕ) (entry : Entry) → read_at own (reading said).entries ≡ Some entry → waits_for_end entry.life ≡ true → HasAskedEnd entry.channel.own entry.channel.peer said
all-left = all_told (λ life. waits_for_end life ≡ true) HasAskedEnd (λ same. cc) (λ own peer said more asked. (asked.0, stands-left _ said more asked.1)) comes
  where
    comes : (said : List Saying) (s : Saying) (channel : Channel) (life : Life) (w : Option Word) → ((word : Word) → w ≡ Some word → IsWord s word channel.own channel.peer) → waits_for_end (life_after life w) ≡ true
        → (waits_for_end life ≡ true) ⊎ HasAskedEnd channel.own channel.peer (said ++ s ∷ [])
    comes said s channel life w is left = by (comes_left life w left)
      where
        by : (waits_for_end life ≡ true) ⊎ (w ≡ Some words.AsksEnd) → (waits_for_end life ≡ true) ⊎ HasAskedEnd channel.own channel.peer (said ++ s ∷ [])
        by (inl was) = inl was
        by (inr has) = let (identifier, same) = is words.AsksEnd has in inr (identifier, stands-right _ said (s ∷ []) (inl same))
