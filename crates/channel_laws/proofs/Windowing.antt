-- Both hosts hold their windows on an enhanced channel that they have in common.
use Rattle.std.proofs.Common.{◌≡◌, ℕ, ◌+◌, ◌-◌, ◌≤◌, List, [], ◌∷◌, ◌++◌, length, drop, map, Bool, true, false, cond, eqb, ◌&&◌, Option, Some, None, Ok, Err, refl, sym, ap, subst, ◌∙◌, ◌⊎◌, inl, inr, arith, append-nil, append_assoc}
use Rattle.std.specs.Prelude.{option_map, option_to_list, is_some}
use Rattle.std.proofs.lemmas.Bool.{eqb-true}
use Rattle.std.proofs.lemmas.List.Sums.{fold-append}
use Rattle.own_channel_laws.specs.talk_laws.specs.acl_fragments.specs.Pieces.{channel_of}
use Rattle.own_channel_laws.specs.talk_laws.specs.capture.specs.Histories.{EachAfter, AtEach}
use Rattle.own_channel_laws.specs.talk_laws.specs.capture.proofs.HistoryLaws.{at_each-more, at_each-none}
use Rattle.own_channel_laws.specs.talk_laws.specs.capture.specs.declared.flow.Flow.TheVariants.{Out, Into}
use Rattle.own_channel_laws.specs.talk_laws.specs.l2cap_signal.specs.Reading.{answers}
use Rattle.own_channel_laws.specs.talk_laws.specs.l2cap_config.specs.declared.wish.Agreed.{Agreed}
use Rattle.own_channel_laws.specs.talk_laws.specs.l2cap_config.specs.declared.wish.Mode.{Mode}
use Rattle.own_channel_laws.specs.talk_laws.specs.l2cap_config.specs.declared.wish.Mode.TheVariants.{Enhanced}
use Rattle.own_channel_laws.specs.talk_laws.specs.ertm_frames.specs.declared.refusal.FrameRefusal.TheVariants.{Short, BadFcs}
use Rattle.own_channel_laws.specs.talk_laws.specs.ertm_frames.specs.Frames.{PlainFrame}
use Rattle.own_channel_laws.specs.talk_laws.specs.ertm_frames.specs.Reading.{answer_in, frame_by, frame_in}
use Rattle.own_channel_laws.specs.talk_laws.specs.ertm_frames.specs.Picking.{Passage, Out as Gave, In, outs, ins, picked, last_req, req_of}
use Rattle.own_channel_laws.specs.talk_laws.specs.ertm_frames.proofs.Telling.{outs-more, outs-same, req-more}
use Rattle.own_channel_laws.specs.channel_model.specs.ertm_model.specs.Value.{Ertm}
use Rattle.own_channel_laws.specs.channel_model.specs.ertm_model.specs.Giving.{Giving, giving, given_frame, frame_by as given_by, after_by, next_frame, after_frame}
use Rattle.own_channel_laws.specs.channel_model.specs.ertm_model.specs.Pair.{Sent, End as MachineEnd, Pair as Machines, gave}
use Rattle.own_channel_laws.specs.channel_model.specs.ertm_model.specs.Order.{Rises, Stands}
use Rattle.own_channel_laws.specs.channel_model.specs.ertm_model.proofs.Ordering.{front-flies}
use Rattle.own_channel_laws.specs.channel_model.specs.ertm_model.proofs.Queues.{rises-between}
use Rattle.own_channel_laws.specs.channel_model.specs.ertm_model.proofs.Saying.{gives-stands}
use Rattle.own_channel_laws.specs.channel_model.specs.ertm_model.proofs.Standing.{swapped}
use Rattle.own_channel_laws.specs.talk_laws.specs.link_talk.specs.declared.channel.Channel.{Channel}
use Rattle.own_channel_laws.specs.talk_laws.specs.link_talk.specs.declared.party.Party.{Party}
use Rattle.own_channel_laws.specs.talk_laws.specs.link_talk.specs.Sayings.{Saying, Carried}
use Rattle.own_channel_laws.specs.talk_laws.specs.link_talk.specs.Channels.{Entry, is_there, reading}
use Rattle.own_channel_laws.specs.talk_laws.specs.link_talk.specs.Carriages.{is_passed, entry_mode, mode_of}
use Rattle.own_channel_laws.specs.talk_laws.specs.link_talk.specs.Accounts.{frames_passed}
use Rattle.own_channel_laws.specs.channel_model.specs.Value.{Carrier, Plain, Retransmitting, Held, Channels}
use Rattle.own_channel_laws.specs.channel_model.specs.Policies.{Policy}
use Rattle.own_channel_laws.specs.channel_model.specs.Changing.{held_at, is_open}
use Rattle.own_channel_laws.specs.channel_model.specs.Carrying.{takes}
use Rattle.own_channel_laws.specs.channel_model.specs.Giving.{Given, Signal, Whole, Framed, carrier_gives, next_given}
use Rattle.own_channel_laws.specs.channel_model.specs.Calls.{has_fcs, connected, asks_features, disconnected}
use Rattle.own_channel_laws.specs.OwnTalk.{asked_between, said_with_all}
use Rattle.own_channel_laws.specs.Runs.{Occurrence, Comes, Connects, AsksFeatures, Disconnects, Sends, Gives, Fires, Tells, given_up, said_by_channels, said_as, said_in, sdus_up, Run}
use Rattle.own_channel_laws.specs.Views.{read_at}
use Rattle.own_channel_laws.specs.Frames.{IsSpelled, IsUttered}
use Rattle.channel_laws.specs.Pairs.{End, Pair, Happening, Acts, Puts, Takes, Repeats, Loses, Damages, is_alone, occurs, with_near, puts, let_go, takes_first, repeats_first, loses_first, damages_first, happens_near, new_pair, Side, Near, Far, turned, Turn, happens_at, pair_after, pair_of}
use Rattle.own_channel_laws.specs.Endpoints.{IsOf}
use Rattle.channel_laws.specs.Ends.{DoesSo, AreFair, end_at}
use Rattle.channel_laws.specs.Belonging.{AreRead, said_at}
use Rattle.channel_laws.specs.Common.{mirrored}
use Rattle.channel_laws.specs.Modes.{policy_of, OneWishes}
use Rattle.channel_laws.specs.Pipes.{IsSeen, IsCarried, AreCarried, HaveChannel, CanStateBoth}
use Rattle.own_channel_laws.specs.Sdus.{StatesFrame}
use Rattle.channel_laws.specs.Windows.{HoldsWindow, HoldsWindows, WindowsHold}
use Rattle.own_channel_laws.proofs.Attending.{gives-aside}
use Rattle.channel_laws.proofs.Bonds.{Bond, bond-of}
use Rattle.own_channel_laws.proofs.Carriages.{counted_in}
use Rattle.channel_laws.proofs.Conveying.{flipped, peers-apart, Speaks}
use Rattle.channel_laws.proofs.Flowing.{sound-of, turned-piped, Common, Fair, side_piped, first_piped, common_at, enhanced-accepted, other_wishes, terms_of, fair-by}
use Rattle.own_channel_laws.proofs.Frames.{RunPasses, run-passes}
use Rattle.own_channel_laws.proofs.Holding.{IsRead, is-read, set-is, kept-setup}
use Rattle.channel_laws.proofs.Joining.{AreSpelled, Seen, Terms, other_terms, Joins, Holds, IsEnd}
use Rattle.own_channel_laws.proofs.Keeping.{HeldKeeps}
use Rattle.own_channel_laws.proofs.Outgoing.{open-stated}
use Rattle.channel_laws.proofs.Pairing.{Runs, BothRun, at-runs, first-runs}
use Rattle.channel_laws.proofs.Partaking.{frame-within, kept-on, settle}
use Rattle.own_channel_laws.proofs.Passages.{GoesOut, bare-passes, into-other, into-own, out-own, spelled-frame}
use Rattle.own_channel_laws.proofs.Passing.{Passing, CarrierPasses, Passed, ins_in, heard_in, passing-gives, passing-used}
use Rattle.channel_laws.proofs.Piped.{under_way, Piped, passed-elsewhere, sends-passed}
use Rattle.channel_laws.proofs.Piping.{Tells as PutSo, tells_many, tells-gives}
use Rattle.channel_laws.proofs.Putting.{passed-small}
use Rattle.channel_laws.proofs.Sharing.{channels-are_common, near_grows}
use Rattle.own_channel_laws.proofs.Signalling.{IsBare, bare-asked, bare-left, bare-with_all, bare-fired}
use Rattle.channel_laws.proofs.Trusting.{Gives_out, queue-out}

-- ---- two machines

wider : (less more : ℕ) (passed : List Passage) → less ≤ more → HoldsWindow less passed → HoldsWindow more passed
wider less more passed le h = record { acknowledged = h.acknowledged; is = h.is; given = h.given; within = let few = h.within in omega (arith, few, le) }

-- a frame comes in that is the first of those under way
in_holds : (t : Terms) (d : Seen) (p : Machines) (frames : List Passage) (pdu : List ℕ) (rest : List (List ℕ)) → d.to_near ≡ pdu ∷ rest → Joins t d p → outs frames ≡ d.near_said
    → (frame : PlainFrame) × (answer_in t.mine.receive_mps pdu ≡ Ok frame) × HoldsWindow t.mine.send_window (frames ++ In frame ∷ [])
in_holds t d p frames pdu rest is joins same = by p.b.queue refl (subst (λ pdus. AreSpelled pdus p.b.queue) is joins.far_flies)
  where
    by : (queue : List Sent) → p.b.queue ≡ queue → AreSpelled (pdu ∷ rest) queue → (frame : PlainFrame) × (answer_in t.mine.receive_mps pdu ≡ Ok frame) × HoldsWindow t.mine.send_window (frames ++ In frame ∷ [])
    by [] none spelled = elim spelled [ ]
    by (sent ∷ queue) first (read, spelled) =
        let short = frame-within t.mine.receive_mps _ _ _ sent.number p.b.put sent.frame joins.far_tells.short (front-flies p.b p.a sent queue (swapped joins.stands) first) in
        (sent.frame, read.1 t.mine.receive_mps short, holds)
      where
        counted : outs (frames ++ In sent.frame ∷ []) ≡ d.near_said
        counted = outs-same frames sent.frame ∙ same

        last : last_req 0 (ins (frames ++ In sent.frame ∷ [])) ≡ req_of sent.frame
        last = ap (last_req 0) (ins_in frames sent.frame) ∙ req-more 0 (ins frames) sent.frame

        rise : Rises joins.stands.there.a (length p.b.got) (sent ∷ queue)
        rise = subst (Rises joins.stands.there.a (length p.b.got)) first joins.stands.there.rises

        holds : HoldsWindow t.mine.send_window (frames ++ In sent.frame ∷ [])
        holds =
            let many = tells_many joins.stands joins.near_tells in
            let all = ap (λ fs. length (picked 0 fs)) counted in
            let low = rise.0 in
            let high = rises-between sent.asks (length p.b.got) queue rise.2 in
            let known = joins.stands.there.c_n in
            let few = joins.stands.there.sends.in_window in
            let wide = ap (λ (a : Agreed). a.send_window) joins.near_by in
            record { acknowledged = sent.asks; is = sym (last ∙ rise.1); given = omega (arith, many, all, high, known); within = omega (arith, many, all, low, few, wide) }

-- the frame that the near machine gives next goes out
out_holds : (t : Terms) (d : Seen) (p : Machines) (mps : ℕ) (frames : List Passage) (opened : Bool) (machine : Ertm) (frame : PlainFrame) → machine ≡ p.a.machine → next_frame machine ≡ Some frame → Joins t d p → outs frames ≡ d.near_said → Passing mps frames opened machine
    → HoldsWindow t.mine.send_window (frames ++ Gave frame ∷ [])
out_holds t d p mps frames opened machine frame same next joins said passing = by (giving machine) refl next
  where
    by : (found : Option Giving) → giving machine ≡ found → given_by found machine ≡ Some frame → HoldsWindow t.mine.send_window (frames ++ Gave frame ∷ [])
    by None now is = cc
    by (Some g) now is =
        let many = tells_many stands tells in
        let all = ap (λ fs. length (picked 0 fs)) (counted ∙ ap (λ f. d.near_said ++ f ∷ []) (sym frame_is)) in
        let passed = (passing-gives mps frames opened machine frame next passing).1 in
        let held = (passing-used mps (frames ++ Gave frame ∷ []) true (after_frame machine) passed).0 in
        let small = passed-small mps (frames ++ Gave frame ∷ []) true (after_frame machine) passed in
        let left = ap (λ (m : Ertm). length m.sender.unacked) after in
        let few = stands.there.sends.in_window in
        let wide = ap (λ (a : Agreed). a.send_window) by_agreed in
        let within = stands.meets.within in
        let most = stands.meets.most in
        record { acknowledged = stands.there.a; is = omega (arith, many, all, held, small, left, few, within, most); given = omega (arith, many, all); within = omega (arith, many, all, few, wide) }
      where
        x : MachineEnd
        x = gave (Some g) p.a

        mine : giving p.a.machine ≡ Some g
        mine = ap giving (sym same) ∙ now

        frame_is : given_frame g p.a.machine ≡ frame
        frame_is = let some : given_frame g machine ≡ frame = cc in ap (given_frame g) (sym same) ∙ some

        counted : outs (frames ++ Gave frame ∷ []) ≡ d.near_said ++ frame ∷ []
        counted = outs-more frames frame ∙ ap (λ fs. fs ++ frame ∷ []) said

        after : after_frame machine ≡ x.machine
        after = ap after_frame same ∙ ap (λ o. after_by o p.a.machine) mine

        stands : Stands x p.b
        stands = subst (λ o. Stands (gave o p.a) p.b) mine (gives-stands p.a p.b joins.stands)

        tells : PutSo t.other.receive_mps x (d.near_said ++ given_frame g p.a.machine ∷ [])
        tells = tells-gives t.other.receive_mps p.a p.b g d.near_said mine joins.stands joins.near_tells

        by_agreed : x.machine.agreed ≡ t.mine
        by_agreed = sym (ap (λ o. (after_by o p.a.machine).agreed) mine) ∙ ((gives-aside p.a.machine).agreed_same ∙ joins.near_by)

-- ---- one turn at the near end

module _ (party : Party) (t : Terms) (channel : Channel) (pair : Pair) (window : ℕ) (wide : t.mine.send_window ≤ window) (frame_is : t.mine.receive_mps ≡ party.frame) (speaks : Speaks t.mine party channel pair)
    (passes : RunPasses pair.near.policy party channel pair.near.run) (h : Piped party t channel pair) where
  abbrev v : Channels
  v = pair.near.run.value

  abbrev past : List Saying
  past = pair.near.run.said

  abbrev frames : List Passage
  frames = frames_passed party channel past

  abbrev Kept : List Saying → Type 0
  Kept said = AtEach (HoldsWindow window) (frames_passed party channel said)

  still : (said : List Saying) → frames_passed party channel said ≡ frames → Kept past → Kept said
  still said same kept = subst (AtEach (HoldsWindow window)) (sym same) kept

  one_more : (said : List Saying) (x : Passage) → frames_passed party channel said ≡ frames ++ x ∷ [] → HoldsWindow t.mine.send_window (frames ++ x ∷ []) → Kept past → Kept said
  one_more said x same now kept = subst (AtEach (HoldsWindow window)) (sym same) (at_each-more (HoldsWindow window) frames x kept (wider t.mine.send_window window (frames ++ x ∷ []) wide now))

  bare : (said : List Saying) → IsBare said → Kept past → Kept (past ++ said)
  bare said is kept = still (past ++ said) (bare-passes party channel said past is) kept

  -- the host does something alone
  acts_kept : (more : Occurrence) → is_alone more ≡ true → IsUttered more v → Kept past → Kept (past ++ said_in pair.near.policy more v)
  acts_kept (Comes pdu) alone uttered kept = cc
  acts_kept (Connects psm) alone uttered kept = bare (asked_between v (connected psm v)) (bare-asked v (connected psm v)) kept
  acts_kept AsksFeatures alone uttered kept = bare (asked_between v (asks_features v)) (bare-asked v (asks_features v)) kept
  acts_kept (Disconnects own) alone uttered kept = let w : Channels = disconnected own v in bare (asked_between v w ++ given_up own v w) (bare-left own v w) kept
  acts_kept (Sends own sdu) alone uttered kept = still (past ++ said_in pair.near.policy (Sends own sdu) v) (sends-passed t.mine party channel pair own sdu speaks.sound speaks.mate uttered) kept
  acts_kept (Gives pdu) alone uttered kept = cc
  acts_kept Fires alone uttered kept = let owns : List ℕ = map (λ (held : Held). held.own) v.held in bare (said_by_channels pair.near.policy.tries owns v) (bare-fired pair.near.policy.tries owns v) kept
  acts_kept Tells alone uttered kept = still (past ++ []) (ap (frames_passed party channel) (append-nil past)) kept

  -- its next PDU is given
  gives_kept : (given : Option Given) (pdu : List ℕ) → next_given v ≡ given → IsSpelled given pdu → Kept past → Kept (past ++ said_as given pdu)
  gives_kept None pdu is spelled kept = still (past ++ []) (ap (frames_passed party channel) (append-nil past)) kept
  gives_kept (Some (Signal command)) pdu is spelled kept = still (past ++ []) (ap (frames_passed party channel) (append-nil past)) kept
  gives_kept (Some (Whole peer sdu)) pdu is spelled kept = still (past ++ []) (ap (frames_passed party channel) (append-nil past)) kept
  gives_kept (Some (Framed peer frame)) pdu is spelled kept = by g.carrier g.is g.gives_it
    where
      read : (frame_in 65535 pdu ≡ Some frame) × (channel_of pdu ≡ peer)
      read = spelled-frame peer frame pdu spelled.0 spelled.1

      g : Gives_out peer (Framed peer frame) v
      g = queue-out v v.queue peer (Framed peer frame) speaks.sound.core.lone is refl

      r : IsRead pair.near.policy past g.held.own g.held g.setup
      r = is-read pair.near.policy past v g.held.own g.held g.setup g.found g.has speaks.sound

      some_same : (a b : ℕ) → Some a ≡ Some b → a ≡ b
      some_same a b same = cc

      peer_is : r.peer ≡ peer
      peer_is = some_same r.peer peer (sym r.peer_is ∙ g.to)

      by : (carrier : Carrier) → g.setup.carrier ≡ Some carrier → carrier_gives carrier peer ≡ Some (Framed peer frame) → Kept (past ++ Carried Out pdu ∷ [])
      by (Plain agreed None) carrier_is giving = cc
      by (Plain agreed (Some sdu)) carrier_is giving = cc
      by (Retransmitting machine) carrier_is giving = on (eqb g.held.own channel.own) refl
        where
          next : next_frame machine ≡ Some frame
          next = found (next_frame machine) giving
            where
              found : (f : Option PlainFrame) → option_map (Framed peer) f ≡ Some (Framed peer frame) → f ≡ Some frame
              found None is = cc
              found (Some other) is = cc

          here : g.held.own ≡ channel.own → Kept (past ++ Carried Out pdu ∷ [])
          here mine = one_more (past ++ Carried Out pdu ∷ []) (Gave frame) (out-own party channel past r.peer pdu frame (subst (λ n. GoesOut past n r.peer) mine goes) (read.1 ∙ sym peer_is) read.0)
              (out_holds t _ h.pair party.frame frames (is_open g.setup) machine frame settled.0 next h.joins refl passing) kept
            where
              at : held_at channel.own v ≡ Some g.held
              at = ap (λ n. held_at n v) (sym mine) ∙ g.found

              passing : Passing party.frame frames (is_open g.setup) machine
              passing = subst (CarrierPasses party.frame frames (pair.near.policy.wish g.held.psm) (is_open g.setup)) carrier_is
                  (kept-setup party.frame frames (pair.near.policy.wish g.held.psm) g.held.stage g.setup g.has (subst (HeldKeeps pair.near.policy (Passed party.frame frames)) at (passes.1.at channel.own)))

              opened : is_open g.setup ≡ true
              opened = (passing-gives party.frame frames (is_open g.setup) machine frame next passing).0

              alike : machine.agreed ≡ t.mine
              alike = speaks.mate.enhanced g.held g.setup (Retransmitting machine) at g.has carrier_is opened

              settled : (machine ≡ h.pair.a.machine) × (machine.closed ≡ None)
              settled = settle t.mine h.pair.a (is_open g.setup) machine alike
                  (subst (Holds t.mine h.pair.a (is_open g.setup)) carrier_is
                  (kept-on (IsEnd t.mine (sdus_up channel.own pair.near.run.up) h.pair.a) (pair.near.policy.wish g.held.psm) g.held.stage g.setup g.has (subst (HeldKeeps pair.near.policy (IsEnd t.mine (sdus_up channel.own pair.near.run.up) h.pair.a)) at h.near_at.held)).1)

              goes : GoesOut past g.held.own r.peer
              goes = record {
                entry = r.entry;
                found = r.found;
                peer_is = r.here;
                holds = ap (λ b. b && is_there r.entry.life) (set-is pair.near.policy past g.held.own g.held g.setup r (Retransmitting machine) carrier_is (open-stated g.setup opened)) ∙ r.there;
                only = λ other x found_x there to. speaks.sound.core.apart other g.held.own x r.entry found_x r.found there r.there (to ∙ sym r.here);
              }

          on : (same : Bool) → eqb g.held.own channel.own ≡ same → Kept (past ++ Carried Out pdu ∷ [])
          on true is = here (eqb-true g.held.own channel.own is)
          on false away =
              let apart : eqb peer channel.peer ≡ false = peers-apart channel.own channel.peer v g.held g.setup (Retransmitting machine) peer speaks.mate.sole g.found g.has carrier_is g.to away in
              still (past ++ Carried Out pdu ∷ []) (passed-elsewhere pair.near.policy party channel past v pdu speaks.sound speaks.mate.sole (ap (eqb channel.peer) read.1 ∙ flipped peer channel.peer apart)) kept

  -- a PDU comes in, of which the frames are told that it brings
  comes_by : (pdu : List ℕ) → (eqb (channel_of pdu) channel.own ≡ true → Kept past → Kept (past ++ Carried Into pdu ∷ [])) → Kept past → Kept (past ++ said_in pair.near.policy (Comes pdu) v)
  comes_by pdu mine kept = by (eqb (channel_of pdu) 0x0001)
    where
      w : Channels
      w = takes (channel_of pdu) pdu v

      on : (here : Bool) → eqb (channel_of pdu) channel.own ≡ here → Kept (past ++ Carried Into pdu ∷ [])
      on true is = mine is kept
      on false away = still (past ++ Carried Into pdu ∷ []) (into-other party channel past pdu away) kept

      by : (signal : Bool) → Kept (past ++ cond signal (said_with_all pair.near.policy (answers (drop 4 pdu)) v) (Carried Into pdu ∷ asked_between v w))
      by true = bare (said_with_all pair.near.policy (answers (drop 4 pdu)) v) (bare-with_all pair.near.policy (answers (drop 4 pdu)) v) kept
      by false =
          subst Kept (append_assoc past (Carried Into pdu ∷ []) (asked_between v w))
          (subst (AtEach (HoldsWindow window)) (sym (bare-passes party channel (asked_between v w) (past ++ Carried Into pdu ∷ []) (bare-asked v w))) (on (eqb (channel_of pdu) channel.own) refl))

  -- the first of what is under way
  first_kept : (pdu : List ℕ) (coming : List (List ℕ)) → pair.near.coming ≡ pdu ∷ coming → Kept past → Kept (past ++ said_in pair.near.policy (Comes pdu) v)
  first_kept pdu coming is kept = comes_by pdu (λ here kept. by here (counted_in is_passed (read_at channel.own (reading past).entries)) refl kept) kept
    where
      by : eqb (channel_of pdu) channel.own ≡ true → (holds : Bool) → counted_in is_passed (read_at channel.own (reading past).entries) ≡ holds → Kept past → Kept (past ++ Carried Into pdu ∷ [])
      by here false counted kept = still (past ++ Carried Into pdu ∷ []) (into-own party channel past pdu false here counted ∙ append-nil frames) kept
      by here true counted kept =
          let (frame, answer, now) = in_holds t _ h.pair frames pdu (under_way channel.own coming) (ap (under_way channel.own) is ∙ ap (λ b. cond b (pdu ∷ under_way channel.own coming) (under_way channel.own coming)) here) h.joins refl in
          one_more (past ++ Carried Into pdu ∷ []) (In frame)
          (into-own party channel past pdu true here counted
          ∙ ap (λ fs. frames ++ fs) (ap (λ n. heard_in n pdu) (sym frame_is) ∙ ap (λ a. option_to_list (option_map In (frame_by a))) answer)) now kept

  -- damage brings no frame
  damaged_kept : (pdu other : List ℕ) (coming : List (List ℕ)) → IsSeen (pdu ∷ coming) other → Kept past → Kept (past ++ said_in pair.near.policy (Comes other) v)
  damaged_kept pdu other coming (same, broken) kept = comes_by other (λ here kept. by here (counted_in is_passed (read_at channel.own (reading past).entries)) refl kept) kept
    where
      none : (answer_in party.frame other ≡ Err Short) ⊎ (answer_in party.frame other ≡ Err BadFcs) → heard_in party.frame other ≡ []
      none (inl is) = ap (λ a. option_to_list (option_map In (frame_by a))) is
      none (inr is) = ap (λ a. option_to_list (option_map In (frame_by a))) is

      either : (holds : Bool) → cond holds (heard_in party.frame other) [] ≡ []
      either true = none (broken party.frame)
      either false = refl

      by : eqb (channel_of other) channel.own ≡ true → (holds : Bool) → counted_in is_passed (read_at channel.own (reading past).entries) ≡ holds → Kept past → Kept (past ++ Carried Into other ∷ [])
      by here holds counted kept = still (past ++ Carried Into other ∷ []) (into-own party channel past other holds here counted ∙ (ap (λ fs. frames ++ fs) (either holds) ∙ append-nil frames)) kept

  pub near_kept : (happening : Happening) → DoesSo IsUttered happening pair.near → IsCarried happening pair.near → Kept past → Kept (happens_near happening pair).near.run.said
  near_kept (Acts occurrence) uttered carried kept = by (is_alone occurrence) refl
    where
      by : (alone : Bool) → is_alone occurrence ≡ alone → Kept (cond alone (with_near (occurs occurrence pair.near) pair) pair).near.run.said
      by true is = acts_kept occurrence is uttered kept
      by false is = kept
  near_kept (Puts pdu) uttered carried kept = by (next_given v) refl uttered
    where
      by : (given : Option Given) → next_given v ≡ given → IsSpelled given pdu → Kept (puts given pdu pair).near.run.said
      by None is spelled = kept
      by (Some given) is spelled = subst (λ o. Kept (past ++ said_as o pdu)) (sym is) (gives_kept (Some given) pdu is spelled kept)
  near_kept Takes uttered carried kept = by pair.near.coming refl
    where
      by : (coming : List (List ℕ)) → pair.near.coming ≡ coming → Kept (takes_first coming pair.near).run.said
      by [] is = kept
      by (pdu ∷ coming) is = first_kept pdu coming is kept
  near_kept Repeats uttered carried kept = by pair.near.coming refl
    where
      by : (coming : List (List ℕ)) → pair.near.coming ≡ coming → Kept (repeats_first coming pair.near).run.said
      by [] is = kept
      by (pdu ∷ coming) is = first_kept pdu coming is kept
  near_kept Loses uttered carried kept = by pair.near.coming
    where
      by : (coming : List (List ℕ)) → Kept (loses_first coming pair.near).run.said
      by [] = kept
      by (pdu ∷ coming) = kept
  near_kept (Damages other) uttered carried kept = by pair.near.coming carried
    where
      on : (pdu : List ℕ) (coming : List (List ℕ)) (checked : Bool) → IsSeen (pdu ∷ coming) other → Kept (cond checked (occurs (Comes other) (let_go coming pair.near)) (let_go coming pair.near)).run.said
      on pdu coming true seen = damaged_kept pdu other coming seen kept
      on pdu coming false seen = kept

      by : (coming : List (List ℕ)) → IsSeen coming other → Kept (damages_first other coming pair.near).run.said
      by [] seen = kept
      by (pdu ∷ coming) seen = on pdu coming (has_fcs (channel_of pdu) v) seen

-- ---- all turns

abbrev KeptAt : (party : Party) (channel : Channel) (window : ℕ) → Run → Type 0
KeptAt party channel window run = AtEach (HoldsWindow window) (frames_passed party channel run.said)

passes_of : (policy : Policy) (party : Party) (channel : Channel) (end' : End) → StatesFrame policy party → Runs IsUttered policy end' → RunPasses end'.policy party channel end'.run
passes_of policy party channel end' states runs =
    subst (λ p. RunPasses p party channel end'.run) (sym runs.policy_is) (subst (λ (run : Run). RunPasses policy party channel run) (sym runs.run_is) (run-passes policy party channel runs.list states runs.each))

-- of the end that is watched: what it is, and its channel
abbrev chan_of : Side → Channel → Channel
chan_of Near channel = channel
chan_of Far channel = mirrored channel

abbrev agreed_of : Side → Terms → Agreed
agreed_of Near t = t.mine
agreed_of Far t = t.other

module _ (near far : Policy) (party : Party) (t : Terms) (channel : Channel) (window : ℕ) (fair : Fair t channel) where
  abbrev Watched : Side → Pair → Type 0
  Watched watch pair = KeptAt party (chan_of watch channel) window (end_at watch pair).run

  turn_kept : (watch side : Side) (happening : Happening) (pair : Pair) → (agreed_of watch t).send_window ≤ window → (agreed_of watch t).receive_mps ≡ party.frame → StatesFrame (policy_of watch near far) party → BothRun IsUttered near far pair → Common t channel pair
      → DoesSo IsUttered happening (end_at side pair) → IsCarried happening (end_at side pair) → Piped party t channel pair → Watched watch pair → Watched watch (happens_at side happening pair)
  turn_kept Near Near happening pair wide frame states runs common uttered carried h kept =
      near_kept party t channel pair window wide frame (record { high = fair.peer_high; sound = sound-of IsUttered near pair.near runs.near_runs; mate = common.near_mate }) (passes_of near party channel pair.near states runs.near_runs) h happening uttered carried kept
  turn_kept Far Far happening pair wide frame states runs common uttered carried h kept =
      near_kept party (other_terms t) (mirrored channel) (turned pair) window wide frame (record { high = fair.own_high; sound = sound-of IsUttered far pair.far runs.far_runs; mate = common.far_mate }) (passes_of far party (mirrored channel) pair.far states runs.far_runs)
      (turned-piped party t channel pair h) happening uttered carried kept
  turn_kept Near Far happening pair wide frame states runs common uttered carried h kept = subst (KeptAt party channel window) (sym (near_grows happening (turned pair)).1) kept
  turn_kept Far Near happening pair wide frame states runs common uttered carried h kept = subst (KeptAt party (mirrored channel) window) (sym (near_grows happening pair).1) kept

  all_kept : (watch : Side) (all past rest : List Turn) → (agreed_of watch t).send_window ≤ window → (agreed_of watch t).receive_mps ≡ party.frame → StatesFrame (policy_of watch near far) party
      → ((front behind : List Turn) → all ≡ front ++ behind → Common t channel (pair_of near far front)) → all ≡ past ++ rest
      → EachAfter (λ front turn. DoesSo IsUttered turn.happening (end_at turn.side (pair_of near far front))) past rest → EachAfter (λ front turn. IsCarried turn.happening (end_at turn.side (pair_of near far front))) past rest
      → BothRun IsUttered near far (pair_of near far past) → Piped party t channel (pair_of near far past) → Watched watch (pair_of near far past) → Watched watch (pair_of near far all)
  all_kept watch all past [] wide frame states common is uttered carried runs h kept = subst (λ list. Watched watch (pair_of near far list)) (sym (is ∙ append-nil past)) kept
  all_kept watch all past (turn ∷ rest) wide frame states common is (now, uttered) (passes, carried) runs h kept =
      all_kept watch all (past ++ turn ∷ []) rest wide frame states common further uttered carried
      (subst (BothRun IsUttered near far) (sym next) (at-runs IsUttered near far turn.side turn.happening pair (λ pdu v. tt) now runs))
      (subst (Piped party t channel) (sym next) (side_piped near far party t channel pair turn.side turn.happening fair runs here (subst (Common t channel) next (common (past ++ turn ∷ []) rest further)) now passes h))
      (subst (Watched watch) (sym next) (turn_kept watch turn.side turn.happening pair wide frame states runs here now passes h kept))
    where
      pair : Pair
      pair = pair_of near far past

      here : Common t channel pair
      here = common past (turn ∷ rest) is

      next : pair_of near far (past ++ turn ∷ []) ≡ happens_at turn.side turn.happening pair
      next = fold-append pair_after (new_pair near far) past (turn ∷ [])

      further : all ≡ (past ++ turn ∷ []) ++ rest
      further = is ∙ sym (append_assoc past (turn ∷ []) rest)

-- ---- both ends

none_passed : (party : Party) (channel : Channel) (window : ℕ) → AtEach (HoldsWindow window) (frames_passed party channel [])
none_passed party channel window = at_each-none (HoldsWindow window) (record { acknowledged = 0; is = refl; given = omega arith; within = omega arith })

module _ (near far : Policy) (turns : List Turn) (fair : AreFair near far turns) (read : AreRead near far turns) (carried : AreCarried near far turns) (can : (psm : ℕ) → CanStateBoth near far psm) where
  -- a channel that both have, which one wishes in enhanced mode
  both_have : (watch : Side) (party : Party) (channel : Channel) → StatesFrame (policy_of watch near far) party → HaveChannel near far turns channel → OneWishes near far channel.psm Enhanced
      → KeptAt party (chan_of watch channel) ((policy_of watch far near).wish channel.psm).window (end_at watch (pair_of near far turns)).run
  both_have watch party channel states have wish =
      all_kept near far party t channel _ suits watch turns [] turns (wide watch) (frame watch states) states (common_at near far turns channel near_bond far_bond read have wish) refl fair carried (first-runs IsUttered near far)
      (first_piped near far party t channel suits.there suits.back) (first watch)
    where
      near_bond : Bond near far turns Near channel.psm channel.own
      near_bond = bond-of near far turns read Near channel have.near_has (can channel.psm).near_can (can channel.psm).far_can

      far_bond : Bond near far turns Far channel.psm channel.peer
      far_bond = bond-of near far turns read Far (mirrored channel) have.far_has (can channel.psm).far_can (can channel.psm).near_can

      t : Terms
      t = terms_of near far turns channel near_bond far_bond

      suits : Fair t channel
      suits = fair-by near far turns channel have (can channel.psm) near_bond far_bond

      wide : (side : Side) → (agreed_of side t).send_window ≤ ((policy_of side far near).wish channel.psm).window
      wide Near = near_bond.within.window
      wide Far = far_bond.within.window

      frame : (side : Side) → StatesFrame (policy_of side near far) party → (agreed_of side t).receive_mps ≡ party.frame
      frame Near states = near_bond.within.own_mps ∙ states channel.psm
      frame Far states = far_bond.within.own_mps ∙ states channel.psm

      first : (side : Side) → KeptAt party (chan_of side channel) ((policy_of watch far near).wish channel.psm).window (end_at side (new_pair near far)).run
      first Near = none_passed party channel ((policy_of watch far near).wish channel.psm).window
      first Far = none_passed party (mirrored channel) ((policy_of watch far near).wish channel.psm).window

  -- a channel that one has in enhanced mode both have
  there : (side : Side) (channel : Channel) → IsOf channel (read_at channel.own (reading (said_at side (pair_of near far turns))).entries) → mode_of channel (said_at side (pair_of near far turns)) ≡ Enhanced
      → IsOf (mirrored channel) (read_at channel.peer (reading (said_at side (turned (pair_of near far turns)))).entries)
  there side channel has mode = by (read_at channel.own (reading (said_at side (pair_of near far turns))).entries) refl has mode
    where
      by : (found : Option Entry) → read_at channel.own (reading (said_at side (pair_of near far turns))).entries ≡ found → IsOf channel found → entry_mode found ≡ Enhanced
          → IsOf (mirrored channel) (read_at channel.peer (reading (said_at side (turned (pair_of near far turns)))).entries)
      by None at is enhanced = elim is [ ]
      by (Some entry) at is enhanced =
          subst (λ (c : Channel). IsOf (mirrored c) (read_at c.peer (reading (said_at side (turned (pair_of near far turns)))).entries)) is
          (channels-are_common near far turns read side channel.own entry at (ap (λ (o : Option Mode). is_some o) (enhanced-accepted entry.setup enhanced)))

  pub near_holds : HoldsWindows near far (pair_of near far turns).near.run
  near_holds party channel states has mode =
      both_have Near party channel states (record { near_has = has; far_has = there Near channel has mode }) (inr (other_wishes near far turns read Near channel has mode))

  pub far_holds : HoldsWindows far near (pair_of near far turns).far.run
  far_holds party channel states has mode =
      both_have Far party (mirrored channel) states (record { near_has = there Far channel has mode; far_has = has }) (inl (other_wishes near far turns read Far channel has mode))

pub windows-hold : WindowsHold
windows-hold near far turns fair read carried can = (near_holds near far turns fair read carried can, far_holds near far turns fair read carried can)
