-- How the frames that pass at one of two hosts grow with what happens at it.
use Rattle.std.proofs.Common.{◌≡◌, ℕ, ◌+◌, ◌%◌, ◌≤◌, ◌<◌, List, [], ◌∷◌, ◌++◌, length, map, drop, Bool, true, false, cond, eqb, ◌&&◌, Option, Some, None, Err, inl, inr, ◌⊎◌, refl, sym, ap, subst, ◌∙◌, arith, append_assoc, append-nil}
use Rattle.std.specs.Prelude.{option_map, option_to_list, ◌==◌}
use Rattle.std.proofs.lemmas.Bool.{eqb-true}
use Rattle.std.proofs.lemmas.Bool.Decides.{leb_tells}
use Rattle.own_channel_laws.specs.talk_laws.specs.bt_base.proofs.OctetLemmas.{le16-number}
use Rattle.own_channel_laws.specs.talk_laws.specs.acl_fragments.specs.Pieces.{channel_of}
use Rattle.own_channel_laws.specs.talk_laws.specs.capture.specs.declared.flow.Flow.TheVariants.{Into}
use Rattle.own_channel_laws.specs.talk_laws.specs.l2cap_signal.specs.Reading.{answers}
use Rattle.own_channel_laws.specs.talk_laws.specs.l2cap_signal.specs.Commands.{spelling}
use Rattle.own_channel_laws.specs.talk_laws.specs.l2cap_config.specs.declared.wish.Agreed.{Agreed}
use Rattle.own_channel_laws.specs.talk_laws.specs.ertm_frames.specs.declared.refusal.FrameRefusal.TheVariants.{Short, BadFcs}
use Rattle.own_channel_laws.specs.talk_laws.specs.ertm_frames.specs.Frames.{PlainFrame, information, supervisory}
use Rattle.own_channel_laws.specs.talk_laws.specs.ertm_frames.specs.Picking.{Passage, Out as Gave, In, req_of}
use Rattle.own_channel_laws.specs.talk_laws.specs.ertm_frames.specs.Reading.{answer_in, frame_by, frame_in}
use Rattle.own_channel_laws.specs.talk_laws.specs.ertm_frames.specs.Segments.{Segment}
use Rattle.own_channel_laws.specs.talk_laws.specs.ertm_frames.proofs.Spelled.{written-read}
use Rattle.own_channel_laws.specs.talk_laws.specs.ertm_frames.proofs.WorkedOut.{answer-is_worked_out}
use Rattle.own_channel_laws.specs.channel_model.specs.ertm_model.specs.Giving.{Giving, PollAnswer, Acknowledgement, Rejection, Polling, Again, New, giving, given_frame, frame_by as given_by, next_frame, after_frame}
use Rattle.own_channel_laws.specs.channel_model.specs.ertm_model.specs.Hearing.{segment_of}
use Rattle.own_channel_laws.specs.channel_model.specs.ertm_model.specs.Order.{MayFly, Stands}
use Rattle.own_channel_laws.specs.channel_model.specs.ertm_model.specs.Pair.{Sent, End as MachineEnd, new_end as new_machine_end}
use Rattle.own_channel_laws.specs.channel_model.specs.ertm_model.specs.Value.{Ertm}
use Rattle.own_channel_laws.specs.channel_model.specs.ertm_model.proofs.Ordering.{front-flies}
use Rattle.own_channel_laws.specs.channel_model.specs.ertm_model.proofs.Standing.{swapped}
use Rattle.own_channel_laws.specs.talk_laws.specs.link_talk.specs.declared.channel.Channel.{Channel}
use Rattle.own_channel_laws.specs.talk_laws.specs.link_talk.specs.declared.party.Party.{Party}
use Rattle.own_channel_laws.specs.talk_laws.specs.link_talk.specs.Sayings.{Saying, Carried}
use Rattle.own_channel_laws.specs.talk_laws.specs.link_talk.specs.Channels.{is_there, reading}
use Rattle.own_channel_laws.specs.talk_laws.specs.link_talk.specs.Carriages.{is_passed}
use Rattle.own_channel_laws.specs.talk_laws.specs.link_talk.specs.Accounts.{frames_passed}
use Rattle.own_channel_laws.specs.talk_laws.specs.link_talk.specs.Picks.{pick}
use Rattle.own_channel_laws.specs.channel_model.specs.Value.{Carrier, Plain, Retransmitting, Stage, Requested, Connected, Leaving, Closing, Crossed, Setup, Held, Channels}
use Rattle.own_channel_laws.specs.channel_model.specs.Changing.{held_at, is_open, setup_of}
use Rattle.own_channel_laws.specs.channel_model.specs.Carrying.{takes}
use Rattle.own_channel_laws.specs.channel_model.specs.Giving.{Given, Signal, Whole, Framed, carrier_gives, next_given}
use Rattle.own_channel_laws.specs.channel_model.specs.Calls.{connected, asks_features, disconnected}
use Rattle.own_channel_laws.specs.channel_model.proofs.Lookups.{eqb-same}
use Rattle.own_channel_laws.specs.Frames.{IsSpelled, IsUttered}
use Rattle.own_channel_laws.specs.OwnTalk.{asked_between, said_with_all}
use Rattle.own_channel_laws.specs.Runs.{Occurrence, Comes, Connects, AsksFeatures, Disconnects, Sends, Gives, Fires, Tells, given_up, said_by_channels, said_as, said_in, sdus_up}
use Rattle.own_channel_laws.specs.Views.{read_at}
use Rattle.own_channel_laws.proofs.Carriages.{counted_in}
use Rattle.own_channel_laws.proofs.Frames.{RunPasses}
use Rattle.own_channel_laws.proofs.Holding.{kept-setup, IsRead, is-read, set-is}
use Rattle.own_channel_laws.proofs.Keeping.{StageKeeps, HeldKeeps}
use Rattle.own_channel_laws.proofs.Outgoing.{open-stated}
use Rattle.own_channel_laws.proofs.Passages.{GoesOut, bare-passes, into-other, into-own, out-own, spelled-frame}
use Rattle.own_channel_laws.proofs.Passing.{Passing, CarrierPasses, Passed, heard_in, passing-gives}
use Rattle.own_channel_laws.proofs.Signalling.{bare-asked, bare-left, bare-with_all, bare-fired}
use Rattle.channel_laws.specs.Common.{mirrored}
use Rattle.channel_laws.specs.Pairs.{Pair, is_alone}
use Rattle.channel_laws.specs.Pipes.{IsSeen, IsAddressed}
use Rattle.channel_laws.proofs.Conveying.{flipped, low-apart, peers-apart, Speaks}
use Rattle.channel_laws.proofs.Joining.{AreSpelled, Reads, Terms, Holds, IsEnd, next-ends_none}
use Rattle.channel_laws.proofs.Partaking.{frame-within, kept-on, settle, IsMachine}
use Rattle.channel_laws.proofs.Piped.{under_way, Piped, passed-elsewhere, sends-passed}
use Rattle.channel_laws.proofs.Piping.{tells_many}
use Rattle.channel_laws.proofs.Trusting.{Gives_out, queue-out}
use Rattle.window_laws.specs.Numbers.{numbers_of, HoldsAsTaken}
use Rattle.window_laws.proofs.Climbing.{Kept, kept-above}
use Rattle.window_laws.proofs.Hosts.{passing-holds}
use Rattle.window_laws.proofs.Machines.{machines-are_numbered}
use Rattle.window_laws.proofs.Numbers.{given-are_picked}
use Rattle.window_laws.proofs.Spent.{Never, Spent, spent-at, held-given, carries-unspent}

-- a machine expects the I-frame behind those that it accepted
expects : (mps : ℕ) (frames : List Passage) (opened : Bool) (m : Ertm) → Passing mps frames opened m → m.receiver.expected ≡ (numbers_of frames).accepted % 64
expects mps frames opened m p =
    let numbered = machines-are_numbered p.agreed p.events p.small (ap (λ (x : Ertm). x.closed) p.machine_is ∙ p.open_is) in
    ap (λ (x : Ertm). x.receiver.expected) (sym p.machine_is) ∙ (numbered.expected_is ∙ ap (λ fs. (numbers_of fs).accepted % 64) p.passages_are)

-- and its frames ask for that
asks_for : (m : Ertm) (frame : PlainFrame) → next_frame m ≡ Some frame → req_of frame ≡ m.receiver.expected
asks_for m frame next = by (giving m) next
  where
    one : (g : Giving) → req_of (given_frame g m) ≡ m.receiver.expected
    one PollAnswer = refl
    one Acknowledgement = refl
    one Rejection = refl
    one Polling = refl
    one (Again kept) = refl
    one (New segment behind) = refl

    by : (found : Option Giving) → given_by found m ≡ Some frame → req_of frame ≡ m.receiver.expected
    by None is = cc
    by (Some g) is = let same : given_frame g m ≡ frame = cc in ap req_of (sym same) ∙ one g

-- a frame was given on the channel
pub record Grew (frames frames' : List Passage) (peer : ℕ) (pdu : List ℕ) (Gone : Type 0) : Type 0 where
  pub frame : PlainFrame
  pub grown : frames' ≡ frames ++ Gave frame ∷ []
  pub to : eqb (channel_of pdu) peer ≡ true
  pub reads : Reads pdu frame
  pub asks : req_of frame ≡ (numbers_of frames).accepted % 64
  pub holds : HoldsAsTaken 63 (frames ++ Gave frame ∷ [])
  pub unspent : Gone → ⊥

-- a frame of the other end came in
pub record Heard (frames frames' : List Passage) (own : ℕ) (pdu : List ℕ) (queue : List Sent) : Type 0 where
  pub sent : Sent
  pub rest : List Sent
  pub first : queue ≡ sent ∷ rest
  pub here : eqb (channel_of pdu) own ≡ true
  pub reads : Reads pdu sent.frame
  pub grown : frames' ≡ frames ++ In sent.frame ∷ []

-- of a frame that is on its way the number is below those that went out
pick_bound : (window : ℕ) (put : List Segment) (given reach number e : ℕ) (frame : PlainFrame) → window ≤ 63 → e ≤ given → reach % 64 ≡ e % 64 → reach ≤ given → given ≤ reach + 63 → given ≤ e + 63 → MayFly window put given reach number frame → e + length (pick e frame) ≤ given
pick_bound window put given reach number e (information tx final req sar total octets) small le same high low few (tx_is, below, near', at) = by (tx == e % 64) refl
  where
    by : (next : Bool) → (tx == e % 64) ≡ next → e + length (cond next (segment_of sar total octets ∷ []) []) ≤ given
    by true is = let here = eqb-true tx (e % 64) is in omega (arith, here, tx_is, below, near', small, same, high, low, few, le)
    by false is = omega (arith, le)
pick_bound window put given reach number e (supervisory kind poll final req) small le same high low few may = omega (arith, le)

module _ (party : Party) (t : Terms) (channel : Channel) (pair : Pair) (frame_is : t.mine.receive_mps ≡ party.frame) (speaks : Speaks t.mine party channel pair) (passes : RunPasses pair.near.policy party channel pair.near.run) (h : Piped party t channel pair) where
  abbrev v : Channels
  v = pair.near.run.value

  abbrev past : List Saying
  past = pair.near.run.said

  abbrev pub frames : List Passage
  frames = frames_passed party channel past

  abbrev pub Gone : Type 0
  Gone = Spent pair.near.policy channel.own pair.near.run.value

  abbrev nothing : frames_passed party channel (past ++ []) ≡ frames
  nothing = ap (frames_passed party channel) (append-nil past)

  -- the host does something alone
  pub acts-same : (more : Occurrence) → is_alone more ≡ true → IsUttered more v → frames_passed party channel (past ++ said_in pair.near.policy more v) ≡ frames
  acts-same (Comes pdu) alone uttered = cc
  acts-same (Connects psm) alone uttered = bare-passes party channel (asked_between v (connected psm v)) past (bare-asked v (connected psm v))
  acts-same AsksFeatures alone uttered = bare-passes party channel (asked_between v (asks_features v)) past (bare-asked v (asks_features v))
  acts-same (Disconnects own) alone uttered = let w : Channels = disconnected own v in bare-passes party channel (asked_between v w ++ given_up own v w) past (bare-left own v w)
  acts-same (Sends own sdu) alone uttered = sends-passed t.mine party channel pair own sdu speaks.sound speaks.mate uttered
  acts-same (Gives pdu) alone uttered = cc
  acts-same Fires alone uttered = let owns : List ℕ = map (λ (held : Held). held.own) v.held in bare-passes party channel (said_by_channels pair.near.policy.tries owns v) past (bare-fired pair.near.policy.tries owns v)
  acts-same Tells alone uttered = nothing

  -- its next PDU is given
  abbrev pub GivenSo : Given → List ℕ → Type 0
  GivenSo given pdu = ((frames_passed party channel (past ++ said_as (Some given) pdu) ≡ frames) × (eqb (channel_of pdu) channel.peer ≡ false)) ⊎ Grew frames (frames_passed party channel (past ++ said_as (Some given) pdu)) channel.peer pdu Gone

  pub gives-grow : (given : Given) (pdu : List ℕ) → next_given v ≡ Some given → IsSpelled (Some given) pdu → IsAddressed (Some given) pdu → GivenSo given pdu
  gives-grow (Signal command) pdu is spelled addressed = inl (nothing, ap (λ n. eqb n channel.peer) (ap channel_of spelled.0 ∙ le16-number 0x0001 (spelling command) (omega arith)) ∙ low-apart channel.peer speaks.high)
  gives-grow (Whole peer sdu) pdu is spelled addressed =
      inl (nothing, ap (λ n. eqb n channel.peer) addressed ∙ peers-apart channel.own channel.peer v g.held g.setup g.carrier peer speaks.mate.sole g.found g.has g.is g.to (apart (eqb g.held.own channel.own) refl))
    where
      g : Gives_out peer (Whole peer sdu) v
      g = queue-out v v.queue peer (Whole peer sdu) speaks.sound.core.lone is refl

      plain : (carrier : Carrier) → carrier_gives carrier peer ≡ Some (Whole peer sdu) → IsMachine t.mine (is_open g.setup) carrier → ⊥
      plain (Plain agreed waiting) giving machine = machine
      plain (Retransmitting m) giving machine = by (next_frame m) giving
        where
          by : (f : Option PlainFrame) → option_map (Framed peer) f ≡ Some (Whole peer sdu) → ⊥
          by None is = cc
          by (Some frame) is = cc

      apart : (b : Bool) → eqb g.held.own channel.own ≡ b → eqb g.held.own channel.own ≡ false
      apart false b_is = b_is
      apart true b_is = absurd (plain g.carrier g.gives_it (speaks.mate.enhanced g.held g.setup g.carrier (ap (λ n. held_at n v) (sym (eqb-true g.held.own channel.own b_is)) ∙ g.found) g.has g.is))
  gives-grow (Framed peer frame) pdu is spelled addressed = by g.carrier g.is g.gives_it
    where
      read : (frame_in 65535 pdu ≡ Some frame) × (channel_of pdu ≡ peer)
      read = spelled-frame peer frame pdu spelled.0 spelled.1

      g : Gives_out peer (Framed peer frame) v
      g = queue-out v v.queue peer (Framed peer frame) speaks.sound.core.lone is refl

      r : IsRead pair.near.policy past g.held.own g.held g.setup
      r = is-read pair.near.policy past v g.held.own g.held g.setup g.found g.has speaks.sound

      some_same : (a b : ℕ) → Some a ≡ Some b → a ≡ b
      some_same a b same = cc

      peer_is : r.peer ≡ peer
      peer_is = some_same r.peer peer (sym r.peer_is ∙ g.to)

      by : (carrier : Carrier) → g.setup.carrier ≡ Some carrier → carrier_gives carrier peer ≡ Some (Framed peer frame) → GivenSo (Framed peer frame) pdu
      by (Plain agreed None) carrier_is giving = cc
      by (Plain agreed (Some sdu)) carrier_is giving = cc
      by (Retransmitting machine) carrier_is giving = on (eqb g.held.own channel.own) refl
        where
          next : next_frame machine ≡ Some frame
          next = found (next_frame machine) giving
            where
              found : (f : Option PlainFrame) → option_map (Framed peer) f ≡ Some (Framed peer frame) → f ≡ Some frame
              found None is = cc
              found (Some other) is = cc

          here : g.held.own ≡ channel.own → GivenSo (Framed peer frame) pdu
          here mine = inr (record {
            frame = frame;
            grown = out-own party channel past r.peer pdu frame (subst (λ n. GoesOut past n r.peer) mine goes) (read.1 ∙ sym peer_is) read.0;
            to = ap (λ n. eqb n channel.peer) (read.1 ∙ speaks.mate.sole.for g.held peer at g.to) ∙ eqb-same channel.peer;
            reads = (next-ends_none machine frame next, λ most within. written-read peer most frame pdu (answer_in most pdu) spelled.0 within (answer-is_worked_out most pdu spelled.1));
            asks = asks_for machine frame next ∙ expects party.frame frames (is_open g.setup) machine passing;
            holds = passing-holds party.frame 63 (frames ++ Gave frame ∷ []) true (after_frame machine) low gives.1;
            unspent = carries-unspent pair.near.policy channel.own v g.held g.setup at g.has;
          })
            where
              at : held_at channel.own v ≡ Some g.held
              at = ap (λ n. held_at n v) (sym mine) ∙ g.found

              passing : Passing party.frame frames (is_open g.setup) machine
              passing = subst (CarrierPasses party.frame frames (pair.near.policy.wish g.held.psm) (is_open g.setup)) carrier_is
                  (kept-setup party.frame frames (pair.near.policy.wish g.held.psm) g.held.stage g.setup g.has (subst (HeldKeeps pair.near.policy (Passed party.frame frames)) at (passes.1.at channel.own)))

              gives : (is_open g.setup ≡ true) × Passing party.frame (frames ++ Gave frame ∷ []) true (after_frame machine)
              gives = passing-gives party.frame frames (is_open g.setup) machine frame next passing

              low : (after_frame machine).agreed.send_window ≤ 63
              low = let same = ap (λ (a : Agreed). a.send_window) gives.1.agreed_is in let small = gives.1.small in omega (arith, same, small)

              goes : GoesOut past g.held.own r.peer
              goes = record {
                entry = r.entry;
                found = r.found;
                peer_is = r.here;
                holds = ap (λ b. b && is_there r.entry.life) (set-is pair.near.policy past g.held.own g.held g.setup r (Retransmitting machine) carrier_is (open-stated g.setup gives.0)) ∙ r.there;
                only = λ other x found_x there to. speaks.sound.core.apart other g.held.own x r.entry found_x r.found there r.there (to ∙ sym r.here);
              }

          on : (same : Bool) → eqb g.held.own channel.own ≡ same → GivenSo (Framed peer frame) pdu
          on true is = here (eqb-true g.held.own channel.own is)
          on false away =
              let apart : eqb peer channel.peer ≡ false = peers-apart channel.own channel.peer v g.held g.setup (Retransmitting machine) peer speaks.mate.sole g.found g.has carrier_is g.to away in
              inl (passed-elsewhere pair.near.policy party channel past v pdu speaks.sound speaks.mate.sole (ap (eqb channel.peer) read.1 ∙ flipped peer channel.peer apart), ap (λ n. eqb n channel.peer) read.1 ∙ apart)

  -- a PDU comes in: a command, or what brings these frames
  comes_by : (pdu : List ℕ) (more : List Passage) → frames_passed party channel (past ++ Carried Into pdu ∷ []) ≡ frames ++ more
      → (frames_passed party channel (past ++ said_in pair.near.policy (Comes pdu) v) ≡ frames) ⊎ (frames_passed party channel (past ++ said_in pair.near.policy (Comes pdu) v) ≡ frames ++ more)
  comes_by pdu more is = by (eqb (channel_of pdu) 0x0001)
    where
      w : Channels
      w = takes (channel_of pdu) pdu v

      by : (signal : Bool) → (frames_passed party channel (past ++ cond signal (said_with_all pair.near.policy (answers (drop 4 pdu)) v) (Carried Into pdu ∷ asked_between v w)) ≡ frames)
          ⊎ (frames_passed party channel (past ++ cond signal (said_with_all pair.near.policy (answers (drop 4 pdu)) v) (Carried Into pdu ∷ asked_between v w)) ≡ frames ++ more)
      by true = inl (bare-passes party channel (said_with_all pair.near.policy (answers (drop 4 pdu)) v) past (bare-with_all pair.near.policy (answers (drop 4 pdu)) v))
      by false = inr (
          ap (frames_passed party channel) (sym (append_assoc past (Carried Into pdu ∷ []) (asked_between v w)))
          ∙ (bare-passes party channel (asked_between v w) (past ++ Carried Into pdu ∷ []) (bare-asked v w) ∙ is))

  comes_same : (pdu : List ℕ) → frames_passed party channel (past ++ Carried Into pdu ∷ []) ≡ frames → frames_passed party channel (past ++ said_in pair.near.policy (Comes pdu) v) ≡ frames
  comes_same pdu is = either (comes_by pdu [] (is ∙ sym (append-nil frames)))
    where
      either : (frames_passed party channel (past ++ said_in pair.near.policy (Comes pdu) v) ≡ frames) ⊎ (frames_passed party channel (past ++ said_in pair.near.policy (Comes pdu) v) ≡ frames ++ [])
          → frames_passed party channel (past ++ said_in pair.near.policy (Comes pdu) v) ≡ frames
      either (inl same) = same
      either (inr same) = same ∙ append-nil frames

  -- the first of what is under way
  abbrev pub HeardSo : List ℕ → Type 0
  HeardSo pdu = (frames_passed party channel (past ++ said_in pair.near.policy (Comes pdu) v) ≡ frames) ⊎ Heard frames (frames_passed party channel (past ++ said_in pair.near.policy (Comes pdu) v)) channel.own pdu h.pair.b.queue

  pub first-grows : (pdu : List ℕ) (coming : List (List ℕ)) → pair.near.coming ≡ pdu ∷ coming → HeardSo pdu
  first-grows pdu coming is = by (eqb (channel_of pdu) channel.own) refl
    where
      spells : (queue : List Sent) → h.pair.b.queue ≡ queue → AreSpelled (pdu ∷ under_way channel.own coming) queue → eqb (channel_of pdu) channel.own ≡ true → frames_passed party channel (past ++ Carried Into pdu ∷ []) ≡ frames ++ heard_in party.frame pdu → HeardSo pdu
      spells [] none spelled here grown = elim spelled [ ]
      spells (sent ∷ queue) first (read, spelled) here grown =
          let short = frame-within t.mine.receive_mps _ _ _ sent.number h.pair.b.put sent.frame h.joins.far_tells.short (front-flies h.pair.b h.pair.a sent queue (swapped h.joins.stands) first) in
          let heard : heard_in party.frame pdu ≡ In sent.frame ∷ [] = ap (λ n. heard_in n pdu) (sym frame_is) ∙ ap (λ a. option_to_list (option_map In (frame_by a))) (read.1 t.mine.receive_mps short) in
          either (comes_by pdu (In sent.frame ∷ []) (grown ∙ ap (λ fs. frames ++ fs) heard))
        where
          either : (frames_passed party channel (past ++ said_in pair.near.policy (Comes pdu) v) ≡ frames) ⊎ (frames_passed party channel (past ++ said_in pair.near.policy (Comes pdu) v) ≡ frames ++ In sent.frame ∷ []) → HeardSo pdu
          either (inl same) = inl same
          either (inr more) = inr (record { sent = sent; rest = queue; first = first; here = here; reads = read; grown = more })

      on : (counted : Bool) → eqb (channel_of pdu) channel.own ≡ true → counted_in is_passed (read_at channel.own (reading past).entries) ≡ counted → HeardSo pdu
      on false here counted = inl (comes_same pdu (into-own party channel past pdu false here counted ∙ append-nil frames))
      on true here counted =
          spells h.pair.b.queue refl (subst (λ pdus. AreSpelled pdus h.pair.b.queue) (ap (under_way channel.own) is ∙ ap (λ b. cond b (pdu ∷ under_way channel.own coming) (under_way channel.own coming)) here) h.joins.far_flies) here
          (into-own party channel past pdu true here counted)

      by : (mine : Bool) → eqb (channel_of pdu) channel.own ≡ mine → HeardSo pdu
      by true here = on (counted_in is_passed (read_at channel.own (reading past).entries)) here refl
      by false away = inl (comes_same pdu (into-other party channel past pdu away))

  -- damage brings no frame
  pub damaged-same : (pdu other : List ℕ) (coming : List (List ℕ)) → IsSeen (pdu ∷ coming) other → frames_passed party channel (past ++ said_in pair.near.policy (Comes other) v) ≡ frames
  damaged-same pdu other coming (same, broken) = comes_same other (by (eqb (channel_of other) channel.own) refl)
    where
      none : (answer_in party.frame other ≡ Err Short) ⊎ (answer_in party.frame other ≡ Err BadFcs) → heard_in party.frame other ≡ []
      none (inl is) = ap (λ a. option_to_list (option_map In (frame_by a))) is
      none (inr is) = ap (λ a. option_to_list (option_map In (frame_by a))) is

      either : (holds : Bool) → cond holds (heard_in party.frame other) [] ≡ []
      either true = none (broken party.frame)
      either false = refl

      by : (mine : Bool) → eqb (channel_of other) channel.own ≡ mine → frames_passed party channel (past ++ Carried Into other ∷ []) ≡ frames
      by true here =
          let holds = counted_in is_passed (read_at channel.own (reading past).entries) in
          into-own party channel past other holds here refl ∙ (ap (λ fs. frames ++ fs) (either holds) ∙ append-nil frames)
      by false away = into-other party channel past other away

  -- ---- how many it accepted

  abbrev CountsSo : Type 0
  CountsSo = Gone ⊎ (length h.pair.a.got % 64 ≡ (numbers_of frames).accepted % 64)

  none_yet : h.pair.a ≡ new_machine_end t.mine → frames ≡ [] → CountsSo
  none_yet new none = inr (ap (λ (e : MachineEnd). length e.got % 64) new ∙ sym (ap (λ fs. (numbers_of fs).accepted % 64) none))

  -- while the channel may still give something
  counts_at : CountsSo
  counts_at = by (held_at channel.own v) refl (passes.1.at channel.own) h.near_at.held
    where
      gone : channel.own < v.next → HeldKeeps pair.near.policy (Never channel.own channel.own) (held_at channel.own v) → CountsSo
      gone given here = inl (spent-at pair.near.policy channel.own v given speaks.sound.core.held_below here)

      carries : (held : Held) (setup : Setup) (carrier : Option Carrier) → held_at channel.own v ≡ Some held → setup_of held.stage ≡ Some setup → setup.carrier ≡ carrier → CarrierPasses party.frame frames (pair.near.policy.wish held.psm) (is_open setup) carrier
          → Holds t.mine h.pair.a (is_open setup) carrier → CountsSo
      carries held setup None found has is passed holds = none_yet holds passed
      carries held setup (Some (Plain agreed waiting)) found has is passed holds = absurd (speaks.mate.enhanced held setup (Plain agreed waiting) found has is)
      carries held setup (Some (Retransmitting machine)) found has is passed holds = opens (is_open setup) refl
        where
          opens : (opened : Bool) → is_open setup ≡ opened → CountsSo
          opens true now =
              let alike : machine.agreed ≡ t.mine = speaks.mate.enhanced held setup (Retransmitting machine) found has is now in
              let same = (settle t.mine h.pair.a (is_open setup) machine alike holds).0 in
              inr (sym h.joins.stands.back.accepts.expected_is ∙ (ap (λ (m : Ertm). m.receiver.expected) (sym same) ∙ expects party.frame frames (is_open setup) machine passed))
          opens false shut = new holds
            where
              new : Holds t.mine h.pair.a (is_open setup) (Some (Retransmitting machine)) → CountsSo
              new (inl (other, is_new, end_new)) = none_yet end_new (passed.quiet shut).0
              new (inr (same, now, open')) = let never : true ≡ false = sym now ∙ shut in absurd cc

      staged : (held : Held) (stage : Stage) → held_at channel.own v ≡ Some held → held.stage ≡ stage → setup_of stage ≡ None → StageKeeps (Passed party.frame frames) (pair.near.policy.wish held.psm) stage
          → StageKeeps (IsEnd t.mine (sdus_up channel.own pair.near.run.up) h.pair.a) (pair.near.policy.wish held.psm) stage → CountsSo
      staged held (Requested request) found is has passed end' = none_yet end'.1 passed
      staged held (Connected peer setup) found is has passed end' = cc
      staged held (Leaving peer setup request) found is has passed end' = cc
      staged held (Closing peer request checked) found is has passed end' =
          gone (held-given channel.own v held speaks.sound.core.held_below found) (subst (HeldKeeps pair.near.policy (Never channel.own channel.own)) (sym found) (subst (StageKeeps (Never channel.own channel.own) (pair.near.policy.wish held.psm)) (sym is) tt))
      staged held (Crossed peer request) found is has passed end' =
          gone (held-given channel.own v held speaks.sound.core.held_below found) (subst (HeldKeeps pair.near.policy (Never channel.own channel.own)) (sym found) (subst (StageKeeps (Never channel.own channel.own) (pair.near.policy.wish held.psm)) (sym is) tt))

      by : (held : Option Held) → held_at channel.own v ≡ held → HeldKeeps pair.near.policy (Passed party.frame frames) held → HeldKeeps pair.near.policy (IsEnd t.mine (sdus_up channel.own pair.near.run.up) h.pair.a) held → CountsSo
      by None found passed end' =
          elim (leb_tells v.next channel.own) [
            | inl (e, above) ↦ none_yet (h.near_at.before above).0 (passes.1.fresh channel.own 0 above)
            | inr (e, lt) ↦ gone lt (subst (HeldKeeps pair.near.policy (Never channel.own channel.own)) (sym found) tt)
          ]
      by (Some held) found passed end' = on (setup_of held.stage) refl
        where
          on : (setup : Option Setup) → setup_of held.stage ≡ setup → CountsSo
          on None has = staged held held.stage found refl has passed end'
          on (Some setup) has =
              carries held setup setup.carrier found has refl (kept-setup party.frame frames (pair.near.policy.wish held.psm) held.stage setup has passed)
              (kept-on (IsEnd t.mine (sdus_up channel.own pair.near.run.up) h.pair.a) (pair.near.policy.wish held.psm) held.stage setup has end').1

  -- it accepts none that did not go out
  pub heard-bound : (sent : Sent) (rest : List Sent) (under : List (List ℕ)) → h.pair.b.queue ≡ sent ∷ rest → (let mine : List Passage = frames_passed party (mirrored channel) pair.far.run.said in
      Kept Gone mine frames under → Gone ⊎ ((numbers_of frames).accepted + length (pick (numbers_of frames).accepted sent.frame) ≤ (numbers_of mine).given))
  heard-bound sent rest under first kept = by kept.counts counts_at
    where
      mine : List Passage
      mine = frames_passed party (mirrored channel) pair.far.run.said

      stands : Stands h.pair.b h.pair.a
      stands = swapped h.joins.stands

      by : Gone ⊎ ((numbers_of frames).accepted ≤ (numbers_of mine).given) → CountsSo → Gone ⊎ ((numbers_of frames).accepted + length (pick (numbers_of frames).accepted sent.frame) ≤ (numbers_of mine).given)
      by (inl gone) counts = inl gone
      by (inr le) (inl gone) = inl gone
      by (inr le) (inr same) =
          let many = tells_many stands h.joins.far_tells in
          let given = given-are_picked mine in
          let low = stands.there.a_c in
          let high = stands.there.c_n in
          let held = stands.there.sends.in_window in
          let within = stands.meets.within in
          let most = stands.meets.most in
          let few = kept.few in
          let above = kept-above Gone mine frames under kept in
          let bound = pick_bound h.pair.b.machine.agreed.send_window h.pair.b.put (stands.there.a + length h.pair.b.machine.sender.unacked) (length h.pair.a.got) sent.number (numbers_of frames).accepted sent.frame (omega (arith, within, most))
          (omega (arith, le, many, given)) same (omega (arith, high)) (omega (arith, low, held, within, most)) (omega (arith, few, above, many, given)) (front-flies h.pair.b h.pair.a sent rest stands first) in
          inr (omega (arith, bound, many, given))
