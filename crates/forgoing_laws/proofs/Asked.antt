-- A host that asked for the end of a channel waits for nothing more of it but that end.
use Rattle.std.proofs.Common.{◌≡◌, ℕ, List, [], ◌∷◌, ◌++◌, map, Bool, true, false, cond, eqb, Option, Some, None, Ok, refl, sym, ap, subst, ◌∙◌, ◌⊎◌, inl, inr}
use Rattle.std.specs.Prelude.{option_map, option_to_list}
use Rattle.channel_laws.specs.acl_fragments.specs.Pieces.{channel_of}
use Rattle.channel_laws.specs.capture.specs.declared.flow.Flow.TheVariants.{Into}
use Rattle.channel_laws.specs.l2cap_config.specs.Writing.{written}
use Rattle.channel_laws.specs.l2cap_signal.specs.Commands.{Content, Command, connection_request, configuration_request, disconnection_request, information_request}
use Rattle.channel_laws.specs.l2cap_signal.specs.Reading.{Answer as Read}
use Rattle.channel_laws.specs.link_talk.specs.declared.life.Life.{Life}
use Rattle.channel_laws.specs.link_talk.specs.declared.life.Life.TheVariants as lives
use Rattle.channel_laws.specs.link_talk.specs.declared.word.Word.{Word}
use Rattle.channel_laws.specs.link_talk.specs.declared.word.Word.TheVariants as words
use Rattle.channel_laws.specs.link_talk.specs.Channels.{Entry, is_alive, life_after, word, reading}
use Rattle.channel_laws.specs.link_talk.specs.Sayings.{Saying, Carried, GaveUp}
use Rattle.channel_laws.specs.link_talk.specs.Sayings as sayings
use Rattle.channel_laws.specs.channel_model.specs.declared.errand.Errand.{Errand}
use Rattle.channel_laws.specs.channel_model.specs.declared.errand.Errand.TheVariants as errands
use Rattle.channel_laws.specs.channel_model.specs.Calls.{carrier_at, disconnected}
use Rattle.channel_laws.specs.channel_model.specs.Carrying.{takes}
use Rattle.channel_laws.specs.channel_model.specs.Changing.{held_at}
use Rattle.channel_laws.specs.channel_model.specs.Following.{can_say, follows}
use Rattle.channel_laws.specs.channel_model.specs.Giving.{Given, Signal, Whole, Framed, next_given, command_of, connection_at, configuration_by, configuration_at, disconnection_at, on_held, features_command}
use Rattle.channel_laws.specs.channel_model.specs.Hearing.{hears_content}
use Rattle.channel_laws.specs.channel_model.specs.Policies.{Policy}
use Rattle.channel_laws.specs.channel_model.specs.Timing.{times_held, times_end, times_features}
use Rattle.channel_laws.specs.channel_model.specs.Value.{Request, Own, Unasked, Asking, Granted, Carrier, Plain, Retransmitting, Stage, Requested, Connected, Leaving, Closing, Crossed, Held, Channels}
use Rattle.channel_laws.specs.channel_model.proofs.Lookups.{own_of, found-has}
use Rattle.channel_laws.specs.Awaited.{asks_for_end}
use Rattle.channel_laws.specs.OwnTalk.{spoken, command_with, command_if, exchanged, newest, said_of, asked_between}
use Rattle.channel_laws.specs.Runs.{Occurrence, Comes, Connects, AsksFeatures, Disconnects, Sends, Gives, Fires, Tells, forgone_at, forgone_between, given_up, features_given_up, said_again, said_on_firing, said_by_features, said_by_carrier, said_as, said_in, value_after, run_of}
use Rattle.channel_laws.specs.Signals.{StandsIn}
use Rattle.channel_laws.specs.Tries.{request_of, request_at, for_options, for_end}
use Rattle.channel_laws.specs.Views.{read_at, peer_of, life_of}
use Rattle.channel_laws.proofs.Converses.{Converses, is_single}
use Rattle.channel_laws.proofs.Conversing.{conversed}
use Rattle.channel_laws.proofs.Replying.{IsReply, is_response}
use Rattle.channel_laws.proofs.Running.{all-sound}
use Rattle.channel_laws.proofs.Saying.{stands-either}
use Rattle.channel_laws.proofs.Sound.{ReadsBy, Reads, Sound}
use Rattle.configuration_laws.specs.Asked.{HasAskedEnd}
use Rattle.disconnection_laws.proofs.Ending.{command_same}
use Rattle.disconnection_laws.proofs.Staying.{HoldsAt, more-holds}

-- ---- what a host says of an end it waits for

-- each request for an end among these is one that waits now
abbrev AllWait : Channels → List Saying → Type 0
AllWait w said = (own peer : ℕ) → HasAskedEnd own peer said → (end : Request) × (request_of (errands.Disconnection own) w ≡ Some end)

wait_both : (w : Channels) (xs ys : List Saying) → AllWait w xs → AllWait w ys → AllWait w (xs ++ ys)
wait_both w xs ys one other own peer (identifier, is) = by (stands-either (spoken (command_with identifier (disconnection_request peer own))) xs ys is)
  where
    by : StandsIn (spoken (command_with identifier (disconnection_request peer own))) xs ⊎ StandsIn (spoken (command_with identifier (disconnection_request peer own))) ys → (end : Request) × (request_of (errands.Disconnection own) w ≡ Some end)
    by (inl left) = one own peer (identifier, left)
    by (inr right) = other own peer (identifier, right)

wait_none : (w : Channels) → AllWait w []
wait_none w own peer (identifier, is) = elim is [ ]

wait_other : (w : Channels) (said : Saying) → ((command : Command) → said ≡ spoken command → ⊥) → AllWait w (said ∷ [])
wait_other w said apart own peer (identifier, inl same) = absurd (apart _ same)
wait_other w said apart own peer (identifier, inr none) = elim none [ ]

some_is : {X : Type 0} (x y : X) → Some x ≡ Some y → x ≡ y
some_is x y is = cc

-- its command is that of the request for an end that waits
end_waits : (held : Held) (stage : Stage) (command : Command) (peer own : ℕ) → disconnection_at stage held ≡ Some command → command.content ≡ disconnection_request peer own → (held.own ≡ own) × (end : Request) × (for_end stage ≡ Some end)
end_waits held (Requested request) command peer own is content = cc
end_waits held (Connected at setup) command peer own is content = cc
end_waits held (Leaving at setup request) command peer own is content = let both : disconnection_request at held.own ≡ disconnection_request peer own = ap (λ (c : Command). c.content) (some_is _ command is) ∙ content in let mine : held.own ≡ own = cc in (mine, request, refl)
end_waits held (Closing at request checked) command peer own is content = let both : disconnection_request at held.own ≡ disconnection_request peer own = ap (λ (c : Command). c.content) (some_is _ command is) ∙ content in let mine : held.own ≡ own = cc in (mine, request, refl)
end_waits held (Crossed at request) command peer own is content = let both : disconnection_request at held.own ≡ disconnection_request peer own = ap (λ (c : Command). c.content) (some_is _ command is) ∙ content in let mine : held.own ≡ own = cc in (mine, request, refl)

call_apart : (held : Held) (stage : Stage) (command : Command) (peer own : ℕ) → connection_at stage held ≡ Some command → command.content ≡ disconnection_request peer own → ⊥
call_apart held (Requested request) command peer own is content = let never : connection_request held.psm held.own ≡ disconnection_request peer own = ap (λ (c : Command). c.content) (some_is _ command is) ∙ content in cc
call_apart held (Connected at setup) command peer own is content = cc
call_apart held (Leaving at setup request) command peer own is content = cc
call_apart held (Closing at request checked) command peer own is content = cc
call_apart held (Crossed at request) command peer own is content = cc

own_apart : (asked : Own) (at : ℕ) (command : Command) (peer own : ℕ) → configuration_by asked at ≡ Some command → command.content ≡ disconnection_request peer own → ⊥
own_apart Unasked at command peer own is content = cc
own_apart (Asking request options) at command peer own is content = let never : configuration_request at 0 (written options) ≡ disconnection_request peer own = ap (λ (c : Command). c.content) (some_is _ command is) ∙ content in cc
own_apart Granted at command peer own is content = cc

options_apart : (stage : Stage) (command : Command) (peer own : ℕ) → configuration_at stage ≡ Some command → command.content ≡ disconnection_request peer own → ⊥
options_apart (Requested request) command peer own is content = cc
options_apart (Connected at setup) command peer own is content = own_apart setup.own at command peer own is content
options_apart (Leaving at setup request) command peer own is content = own_apart setup.own at command peer own is content
options_apart (Closing at request checked) command peer own is content = cc
options_apart (Crossed at request) command peer own is content = cc

features_apart : (features : Option Request) (command : Command) (peer own : ℕ) → features_command features ≡ Some command → command.content ≡ disconnection_request peer own → ⊥
features_apart None command peer own is content = cc
features_apart (Some request) command peer own is content = let never : information_request 2 ≡ disconnection_request peer own = ap (λ (c : Command). c.content) (some_is _ command is) ∙ content in cc

asked_waits : (errand : Errand) (w : Channels) (command : Command) (peer own : ℕ) → command_of errand w ≡ Some command → command.content ≡ disconnection_request peer own → (end : Request) × (request_of (errands.Disconnection own) w ≡ Some end)
asked_waits (errands.Connection at) w command peer own is content = by (held_at at w) is
  where
    by : (found : Option Held) → on_held (λ h. connection_at h.stage h) found ≡ Some command → (end : Request) × (request_of (errands.Disconnection own) w ≡ Some end)
    by None asks = cc
    by (Some held) asks = absurd (call_apart held held.stage command peer own asks content)
asked_waits (errands.Configuration at) w command peer own is content = by (held_at at w) is
  where
    by : (found : Option Held) → on_held (λ h. configuration_at h.stage) found ≡ Some command → (end : Request) × (request_of (errands.Disconnection own) w ≡ Some end)
    by None asks = cc
    by (Some held) asks = absurd (options_apart held.stage command peer own asks content)
asked_waits (errands.Disconnection at) w command peer own is content = by (held_at at w) refl is
  where
    by : (found : Option Held) → held_at at w ≡ found → on_held (λ h. disconnection_at h.stage h) found ≡ Some command → (end : Request) × (request_of (errands.Disconnection own) w ≡ Some end)
    by None found asks = cc
    by (Some held) found asks =
        let (mine, end, waits) = end_waits held held.stage command peer own asks content in
        let here : at ≡ own = sym (found-has own_of at w.held held found) ∙ mine in
        (end, subst (λ n. request_at for_end (held_at n w) ≡ Some end) here (ap (request_at for_end) found ∙ waits))
asked_waits errands.Features w command peer own is content = absurd (features_apart w.features command peer own is content)

wait_command : (errand : Errand) (w : Channels) (found : Option Command) → command_of errand w ≡ found → AllWait w (map spoken (option_to_list found))
wait_command errand w None is own peer (identifier, stands) = elim stands [ ]
wait_command errand w (Some command) is own peer (identifier, inl same) = let it : command ≡ command_with identifier (disconnection_request peer own) = cc in asked_waits errand w command peer own is (ap (λ (c : Command). c.content) it)
wait_command errand w (Some command) is own peer (identifier, inr none) = elim none [ ]

wait_said : (errand : Option Errand) (w : Channels) → AllWait w (said_of errand w)
wait_said None w = wait_none w
wait_said (Some errand) w = wait_command errand w (command_of errand w) refl

wait_asked : (v w : Channels) → AllWait w (asked_between v w)
wait_asked v w = by (eqb w.identifier v.identifier)
  where
    by : (b : Bool) → AllWait w (cond b [] (said_of (newest w.queue) w))
    by true = wait_none w
    by false = wait_said (newest w.queue) w

wait_again : (errand : Errand) (v w : Channels) → AllWait w (said_again errand v w)
wait_again errand v w = by _
  where
    by : (b : Bool) → AllWait w (cond b (said_of (Some errand) w) [])
    by true = wait_said (Some errand) w
    by false = wait_none w

wait_forgone : (w : Channels) (before after : Option Held) → AllWait w (forgone_between before after)
wait_forgone w None after = wait_none w
wait_forgone w (Some held) (Some other) = wait_none w
wait_forgone w (Some held) None = by held.stage
  where
    by : (stage : Stage) → AllWait w (forgone_at stage held.own)
    by (Requested request) = wait_other w _ (λ c same. cc)
    by (Connected peer setup) = wait_none w
    by (Leaving peer setup request) = wait_other w _ (λ c same. cc)
    by (Closing peer request checked) = wait_other w _ (λ c same. cc)
    by (Crossed peer request) = wait_other w _ (λ c same. cc)

wait_fired : (own : ℕ) (v w : Channels) → AllWait w (said_on_firing own v w)
wait_fired own v w =
    wait_both w (said_again (errands.Connection own) v w) _ (wait_again (errands.Connection own) v w)
    (wait_both w (said_again (errands.Configuration own) v w) _ (wait_again (errands.Configuration own) v w)
    (wait_both w (said_again (errands.Disconnection own) v w) _ (wait_again (errands.Disconnection own) v w) (wait_both w (asked_between v w) (given_up own v w) (wait_asked v w) (wait_forgone w (held_at own v) (held_at own w)))))

wait_features : (w : Channels) (before after : Option Request) → AllWait w (features_given_up before after)
wait_features w None after = wait_none w
wait_features w (Some request) None = wait_other w _ (λ c same. cc)
wait_features w (Some request) (Some other) = wait_none w

-- a reply is no request
wait_exchanged : (w v : Channels) (one : Read) (identifier : ℕ) (response : Option Content) → IsReply response → AllWait w (exchanged one (command_if identifier response) v)
wait_exchanged w v one identifier response reply = by (can_say (option_map (λ (c : Command). c.content) (command_if identifier response)) v)
  where
    replied : (given : Option Content) → IsReply given → AllWait w (sayings.Command Into one ∷ map spoken (option_to_list (command_if identifier given)))
    replied given is own peer (n, inl same) = cc
    replied None is own peer (n, inr none) = elim none [ ]
    replied (Some content) is own peer (n, inr (inl same)) =
        let it : content ≡ disconnection_request peer own = ap (λ (c : Command). c.content) (command_same (command_with identifier content) (command_with n (disconnection_request peer own)) same) in let never : false ≡ true = sym (ap is_response it) ∙ is in cc
    replied (Some content) is own peer (n, inr (inr none)) = elim none [ ]

    by : (b : Bool) → AllWait w (cond b (sayings.Command Into one ∷ map spoken (option_to_list (command_if identifier response))) [])
    by true = replied response reply
    by false = wait_none w

wait_sent : (w : Channels) (carrier : Option Carrier) (peer : ℕ) (sdu : List ℕ) → AllWait w (said_by_carrier carrier peer sdu)
wait_sent w None peer sdu = wait_none w
wait_sent w (Some (Plain agreed None)) peer sdu = wait_other w _ (λ c same. cc)
wait_sent w (Some (Plain agreed (Some waiting))) peer sdu = wait_none w
wait_sent w (Some (Retransmitting machine)) peer sdu = wait_none w

wait_given : (w : Channels) (given : Option Given) (pdu : List ℕ) → AllWait w (said_as given pdu)
wait_given w None pdu = wait_none w
wait_given w (Some (Signal command)) pdu = wait_none w
wait_given w (Some (Whole other sdu)) pdu = wait_none w
wait_given w (Some (Framed other frame)) pdu = wait_other w _ (λ c same. cc)

wait_single : (policy : Policy) (more : Occurrence) (v : Channels) → is_single more ≡ true → AllWait (value_after policy more v) (said_in policy more v)
wait_single policy (Comes pdu) v is = cc
wait_single policy (Connects psm) v is = wait_asked v (value_after policy (Connects psm) v)
wait_single policy AsksFeatures v is = wait_asked v (value_after policy AsksFeatures v)
wait_single policy (Disconnects own) v is =
    let w : Channels = disconnected own v in wait_both w (asked_between v w) (given_up own v w) (wait_asked v w) (wait_forgone w (held_at own v) (held_at own w))
wait_single policy (Sends own sdu) v is = wait_sent (value_after policy (Sends own sdu) v) (carrier_at own v) _ sdu
wait_single policy (Gives pdu) v is = wait_given (value_after policy (Gives pdu) v) (next_given v) pdu
wait_single policy Fires v is = cc
wait_single policy Tells v is = wait_none (value_after policy Tells v)

-- ---- as its talk is read

abbrev IsLeft : Entry → Type 0
IsLeft entry = is_alive entry.life ≡ false

stays_left : (life : Life) (said : Option Word) → is_alive life ≡ false → is_alive (life_after life said) ≡ false
stays_left life None is = is
stays_left lives.Alive (Some said) is = cc
stays_left lives.Leaving (Some words.AsksEnd) is = refl
stays_left lives.Leaving (Some words.AnswersEnd) is = refl
stays_left lives.Leaving (Some words.EndAnswered) is = refl
stays_left lives.Leaving (Some words.EndForgone) is = refl
stays_left lives.Crossed (Some words.AsksEnd) is = refl
stays_left lives.Crossed (Some words.AnswersEnd) is = refl
stays_left lives.Crossed (Some words.EndAnswered) is = refl
stays_left lives.Crossed (Some words.EndForgone) is = refl
stays_left lives.Over (Some said) is = refl

abbrev Left : List Saying → Channels → Type 0
Left past v = (own peer : ℕ) → HasAskedEnd own peer past → HoldsAt IsLeft (read_at own (reading past).entries)

-- one that waits is read so
reads_left : (policy : Policy) (said : List Saying) (w : Channels) (own : ℕ) (end : Request) → Sound policy (reading said) w → request_of (errands.Disconnection own) w ≡ Some end → HoldsAt IsLeft (read_at own (reading said).entries)
reads_left policy said w own end sound waits = by (held_at own w) (read_at own (reading said).entries) (sound.core.reads own) waits
  where
    alike : (held : Held) (stage : Stage) (found : Option Entry) → ReadsBy policy held (peer_of stage) found → (stage ≡ held.stage) → for_end stage ≡ Some end → HoldsAt IsLeft found
    alike held (Requested request) found reads same has = cc
    alike held (Connected peer setup) found reads same has = cc
    alike held (Leaving peer setup request) None reads same has = reads
    alike held (Leaving peer setup request) (Some entry) reads same has = ap is_alive reads.0.life_is ∙ ap (λ s. is_alive (life_of s)) (sym same)
    alike held (Closing peer request checked) None reads same has = reads
    alike held (Closing peer request checked) (Some entry) reads same has = ap is_alive reads.0.life_is ∙ ap (λ s. is_alive (life_of s)) (sym same)
    alike held (Crossed peer request) None reads same has = reads
    alike held (Crossed peer request) (Some entry) reads same has = ap is_alive reads.0.life_is ∙ ap (λ s. is_alive (life_of s)) (sym same)

    by : (found : Option Held) (read : Option Entry) → Reads policy found read → request_at for_end found ≡ Some end → HoldsAt IsLeft read
    by None read reads has = cc
    by (Some held) read reads has = alike held held.stage read reads refl has

goes_on : (policy : Policy) (past said : List Saying) (v w : Channels) → AllWait w said → Sound policy (reading past) v → Left past v → Sound policy (reading (past ++ said)) w → Left (past ++ said) w
goes_on policy past said v w waits before left after own peer (identifier, is) = by (stands-either (spoken (command_with identifier (disconnection_request peer own))) past said is)
  where
    by : StandsIn (spoken (command_with identifier (disconnection_request peer own))) past ⊎ StandsIn (spoken (command_with identifier (disconnection_request peer own))) said → HoldsAt IsLeft (read_at own (reading (past ++ said)).entries)
    by (inl old) = more-holds IsLeft (λ m entry gone. stays_left entry.life (word entry.channel m) gone) own past said (left own peer (identifier, old))
    by (inr new) = let (end, there) = waits own peer (identifier, new) in reads_left policy (past ++ said) w own end after there

converses : (policy : Policy) → Converses policy (λ v. Unit {0}) Left
converses policy = record {
  first = tt;
  kept = λ v more lone known. tt;
  asked = λ past v u one identifier response content asking reply alike waits.
      let w : Channels = follows policy content u in
      goes_on policy past _ v w (wait_both w (exchanged one (command_if identifier response) v) (asked_between v w) (wait_exchanged w v one identifier response reply) (wait_asked v w));
  answered = λ past v identifier content is.
      let w : Channels = hears_content policy identifier content v in
      goes_on policy past _ v w (wait_both w (exchanged (Ok (command_with identifier content)) None v) (asked_between v w) (wait_exchanged w v (Ok (command_with identifier content)) identifier None tt) (wait_asked v w));
  taken = λ past v pdu known.
      let w : Channels = takes (channel_of pdu) pdu v in goes_on policy past _ v w (wait_both w (Carried Into pdu ∷ []) (asked_between v w) (wait_other w (Carried Into pdu) (λ c same. cc)) (wait_asked v w));
  waits = λ past v tries own. let w : Channels = times_held (held_at own v) tries v in goes_on policy past (said_on_firing own v w) v w (wait_fired own v w);
  ends = λ past v tries own. let w : Channels = times_end (held_at own v) tries v in goes_on policy past (said_on_firing own v w) v w (wait_fired own v w);
  loses = λ past v tries.
      let w : Channels = times_features v.features tries v in
      goes_on policy past (said_by_features tries v) v w (wait_both w (said_again errands.Features v w) (features_given_up v.features w.features) (wait_again errands.Features v w) (wait_features w v.features w.features));
  single = λ past v more is known. goes_on policy past (said_in policy more v) v (value_after policy more v) (wait_single policy more v is);
}

-- so its channel of that endpoint, if there is one still, is one whose end it asks for
pub asked-left : (policy : Policy) (list : List Occurrence) (own peer : ℕ) (held : Held) → HasAskedEnd own peer (run_of policy list).said → held_at own (run_of policy list).value ≡ Some held → asks_for_end held.stage ≡ true
asked-left policy list own peer held asked at = by held.stage refl (read_at own entries) (subst (λ (found : Option Held). Reads policy found (read_at own entries)) at ((all-sound policy list).core.reads own)) left
  where
    entries : List Entry
    entries = (reading (run_of policy list).said).entries

    left : HoldsAt IsLeft (read_at own entries)
    left = conversed policy (λ v. Unit {0}) Left (converses policy) (λ o p is. elim is.1 [ ]) list own peer asked

    by : (stage : Stage) → held.stage ≡ stage → (read : Option Entry) → ReadsBy policy held (peer_of held.stage) read → HoldsAt IsLeft read → asks_for_end held.stage ≡ true
    by (Requested r) same read reads gone = called read (subst (λ s. ReadsBy policy held (peer_of s) read) same reads) gone
      where
        called : (read : Option Entry) → ReadsBy policy held None read → HoldsAt IsLeft read → asks_for_end held.stage ≡ true
        called None reads gone = elim gone [ ]
        called (Some entry) reads gone = elim reads [ ]
    by (Connected p setup) same None reads gone = elim gone [ ]
    by (Connected p setup) same (Some entry) reads gone =
        let there = subst (λ s. ReadsBy policy held (peer_of s) (Some entry)) same reads in
        let alive : is_alive entry.life ≡ true = ap is_alive there.0.life_is ∙ ap (λ s. is_alive (life_of s)) same in
        let never : true ≡ false = sym alive ∙ gone in cc
    by (Leaving p setup r) same read reads gone = ap asks_for_end same
    by (Closing p r checked) same read reads gone = ap asks_for_end same
    by (Crossed p r) same read reads gone = ap asks_for_end same

-- and where its options wait, and its end does not, it did not ask for that
pub asked-waits : (policy : Policy) (list : List Occurrence) (own peer : ℕ) (request : Request) → HasAskedEnd own peer (run_of policy list).said → request_of (errands.Configuration own) (run_of policy list).value ≡ Some request
    → request_of (errands.Disconnection own) (run_of policy list).value ≡ None → ⊥
asked-waits policy list own peer request asked waits none = by (held_at own (run_of policy list).value) refl waits none
  where
    staged : (stage : Stage) → asks_for_end stage ≡ true → for_options stage ≡ Some request → for_end stage ≡ None → ⊥
    staged (Requested r) ends has no_end = cc
    staged (Connected p setup) ends has no_end = cc
    staged (Leaving p setup r) ends has no_end = cc
    staged (Closing p r checked) ends has no_end = cc
    staged (Crossed p r) ends has no_end = cc

    by : (found : Option Held) → held_at own (run_of policy list).value ≡ found → request_at for_options found ≡ Some request → request_at for_end found ≡ None → ⊥
    by None at has no_end = cc
    by (Some held) at has no_end = staged held.stage (asked-left policy list own peer held asked at) has no_end
