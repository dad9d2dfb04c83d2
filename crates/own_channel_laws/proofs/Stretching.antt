-- What a channel carries changes only with PDUs on channels.
use Rattle.std.proofs.Common.{◌≡◌, ℕ, ◌%◌, List, [], ◌∷◌, ◌++◌, Bool, true, false, cond, ◌||◌, eqb, Option, Some, None, refl, sym, ap, subst, ◌∙◌, ◌⊎◌, inl, inr, append-nil, append_assoc}
use Rattle.std.specs.Prelude.{find, drop}
use Rattle.std.specs.List.{list_any, filter_map}
use Rattle.std.proofs.lemmas.List.Elements.{filter_map-append}
use Rattle.talk_laws.specs.capture.specs.declared.flow.Flow.TheVariants.{Out, Into}
use Rattle.talk_laws.specs.ertm_frames.specs.Segments.{Segment}
use Rattle.talk_laws.specs.ertm_frames.specs.Joining.{Joining, At, Stopped, Misplaced, Begins, Ends, ended, ended_by, joint, joined_by}
use Rattle.talk_laws.specs.ertm_frames.specs.Frames.{PlainFrame, information, supervisory}
use Rattle.talk_laws.specs.ertm_frames.specs.Reading.{frame_in}
use Rattle.talk_laws.specs.link_talk.specs.Picks.{pick, pick_in}
use Rattle.talk_laws.specs.l2cap_config.specs.declared.wish.Mode.{Mode}
use Rattle.talk_laws.specs.l2cap_config.specs.declared.wish.Mode.TheVariants.{Basic, Enhanced}
use Rattle.talk_laws.specs.link_talk.specs.declared.channel.Channel.{Channel}
use Rattle.talk_laws.specs.link_talk.specs.declared.party.Party.{Party}
use Rattle.talk_laws.specs.link_talk.specs.Sayings.{Saying, Command, Carried, GaveUp}
use Rattle.talk_laws.specs.link_talk.specs.Channels.{Entry, reading}
use Rattle.talk_laws.specs.link_talk.specs.Carriages.{Carriage, one_way, is_heard, taker, is_on, carried, stretch, pdus_of, has_own, mode_of}
use Rattle.talk_laws.specs.link_talk.specs.Sdus.{sdus_by, sdus}
use Rattle.talk_laws.specs.link_talk.specs.GrowingLaws.{has_opened}
use Rattle.talk_laws.specs.link_talk.proofs.Growing.{stretch-grows, mode-stands}
use Rattle.talk_laws.specs.Sdus.{sdus_with, heard_so_far, segment_of}
use Rattle.talk_laws.proofs.Passes.{from_end}
use Rattle.talk_laws.proofs.Owning.{alone, unopened-carries}
use Rattle.talk_laws.proofs.Sdus.{sdus-more}
use Rattle.own_channel_laws.proofs.Carriages.{counted_in}

-- ---- one saying more

-- the PDUs that came in on the channel
abbrev pub heard_on : Channel → List Saying → List (List ℕ)
heard_on channel said = pdus_of Into (stretch channel said)

unopened_front : (channel : Channel) (said : List Saying) (more : Saying) → has_opened (find (has_own channel) (reading (said ++ more ∷ [])).entries) ≡ false → has_opened (find (has_own channel) (reading said).entries) ≡ false
unopened_front channel said more after = by (has_opened (find (has_own channel) (reading said).entries)) refl
  where
    by : (b : Bool) → has_opened (find (has_own channel) (reading said).entries) ≡ b → b ≡ false
    by true is = sym (mode-stands channel said more is).1 ∙ after
    by false is = refl

-- a channel that has not opened has carried nothing
pub unopened-stretch : (channel : Channel) (said : List Saying) → has_opened (find (has_own channel) (reading said).entries) ≡ false → stretch channel said ≡ []
unopened-stretch channel said = from_end (λ past. has_opened (find (has_own channel) (reading past).entries) ≡ false → stretch channel past ≡ []) (λ is. refl) step said
  where
    step : (past : List Saying) (more : Saying) → (has_opened (find (has_own channel) (reading past).entries) ≡ false → stretch channel past ≡ []) → has_opened (find (has_own channel) (reading (past ++ more ∷ [])).entries) ≡ false
        → stretch channel (past ++ more ∷ []) ≡ []
    step past more held is =
        let before = unopened_front channel past more is in
        stretch-grows channel past more ∙ (ap (λ cs. cs ++ carried is_heard channel past more) (held before) ∙ unopened-carries channel (reading past).entries more (alone past) before)

by_none : (most : ℕ) (mode : Mode) → sdus_by most mode [] ≡ []
by_none most Basic = refl
by_none most Enhanced = refl

-- the SDUs are those of the PDUs so far, read in the mode that is agreed on at last
stays_by : (party : Party) (channel : Channel) (said : List Saying) (more : Saying) (opened : Bool) → has_opened (find (has_own channel) (reading said).entries) ≡ opened → stretch channel (said ++ more ∷ []) ≡ stretch channel said
    → sdus party channel Into (said ++ more ∷ []) ≡ sdus party channel Into said
stays_by party channel said more true is same =
    ap (λ m. sdus_by party.frame m (heard_on channel (said ++ more ∷ []))) (mode-stands channel said more is).0 ∙ ap (λ cs. sdus_by party.frame (mode_of channel said) (pdus_of Into cs)) same
stays_by party channel said more false is same =
    let none = unopened-stretch channel said is in
    ap (λ cs. sdus_by party.frame (mode_of channel (said ++ more ∷ [])) (pdus_of Into cs)) (same ∙ none)
    ∙ (by_none party.frame (mode_of channel (said ++ more ∷ [])) ∙ sym (ap (λ cs. sdus_by party.frame (mode_of channel said) (pdus_of Into cs)) none ∙ by_none party.frame (mode_of channel said)))

-- ---- what is no PDU on a channel, or none that comes in

abbrev pub comes_in : Saying → Bool
comes_in (Command flow answer) = false
comes_in (Carried Out pdu) = false
comes_in (Carried Into pdu) = true
comes_in (GaveUp forgone) = false

-- of a list of sayings none comes in on a channel
abbrev pub NoneComes : List Saying → Type 0
NoneComes said = list_any comes_in said ≡ false

pub record StaysHeard (party : Party) (channel : Channel) (before after : List Saying) : Type 0 where
  pub heard_is : heard_on channel after ≡ heard_on channel before
  pub sdus_are : sdus party channel Into after ≡ sdus party channel Into before

-- ---- a PDU comes in

-- the channel that was read takes what comes in
abbrev pub opens : Option Entry → Bool
opens found = counted_in is_heard found

abbrev came_on : (pdu : List ℕ) → Carriage
came_on pdu = record { flow = Into; pdu = pdu }

-- ---- what stays

-- nothing is carried
pub nothing-heard : (party : Party) (channel : Channel) (said : List Saying) (more : Saying) → carried is_heard channel said more ≡ [] → StaysHeard party channel said (said ++ more ∷ [])
nothing-heard party channel said more none =
    let same : stretch channel (said ++ more ∷ []) ≡ stretch channel said = stretch-grows channel said more ∙ (ap (λ cs. stretch channel said ++ cs) none ∙ append-nil (stretch channel said)) in
    record {
      heard_is = ap (pdus_of Into) same;
      sdus_are = stays_by party channel said more (has_opened (find (has_own channel) (reading said).entries)) refl same;
    }

filter_append : {X Y : Type 0} (f : X → Option Y) (xs ys : List X) → filter_map f (xs ++ ys) ≡ filter_map f xs ++ filter_map f ys
filter_append f xs ys = filter_map-append f xs ys

-- a PDU is carried
pub one-heard : (party : Party) (channel : Channel) (said : List Saying) (pdu : List ℕ) → has_opened (find (has_own channel) (reading said).entries) ≡ true
    → (let one : Carriage = record { flow = Into; pdu = pdu } in carried is_heard channel said (Carried Into pdu) ≡ one ∷ [])
    → (heard_on channel (said ++ Carried Into pdu ∷ []) ≡ heard_on channel said ++ pdu ∷ [])
    × (sdus party channel Into (said ++ Carried Into pdu ∷ []) ≡ sdus_by party.frame (mode_of channel said) (heard_on channel said ++ pdu ∷ []))
one-heard party channel said pdu opened one =
    let more : Saying = Carried Into pdu in
    let grown : heard_on channel (said ++ more ∷ []) ≡ heard_on channel said ++ pdu ∷ [] =
    ap (pdus_of Into) (stretch-grows channel said more ∙ ap (λ cs. stretch channel said ++ cs) one) ∙ filter_append (λ c. one_way Into c) (stretch channel said) (came_on pdu ∷ []) in (
      grown,
      ap (λ m. sdus_by party.frame m (heard_on channel (said ++ more ∷ []))) (mode-stands channel said more opened).0 ∙ ap (sdus_by party.frame (mode_of channel said)) grown,
    )

-- what goes out is not heard
out_by : (party : Party) (channel : Channel) (said : List Saying) (pdu : List ℕ) (on : Bool) → is_on channel (taker is_heard Out pdu (reading said).entries) ≡ on → StaysHeard party channel said (said ++ Carried Out pdu ∷ [])
out_by party channel said pdu false is =
    let one : Carriage = record { flow = Out; pdu = pdu } in
    nothing-heard party channel said (Carried Out pdu) (ap (λ t. cond t (one ∷ []) []) is)
out_by party channel said pdu true is = by (has_opened (find (has_own channel) (reading said).entries)) refl
  where
    one : Carriage
    one = record { flow = Out; pdu = pdu }

    grown : heard_on channel (said ++ Carried Out pdu ∷ []) ≡ heard_on channel said
    grown =
        ap (pdus_of Into) (stretch-grows channel said (Carried Out pdu) ∙ ap (λ t. stretch channel said ++ cond t (one ∷ []) []) is)
        ∙ (filter_append (λ c. one_way Into c) (stretch channel said) (one ∷ []) ∙ append-nil (heard_on channel said))

    by : (opened : Bool) → has_opened (find (has_own channel) (reading said).entries) ≡ opened → StaysHeard party channel said (said ++ Carried Out pdu ∷ [])
    by true open' = record {
      heard_is = grown;
      sdus_are = ap (λ m. sdus_by party.frame m (heard_on channel (said ++ Carried Out pdu ∷ []))) (mode-stands channel said (Carried Out pdu) open').0 ∙ ap (sdus_by party.frame (mode_of channel said)) grown;
    }
    by false shut = nothing-heard party channel said (Carried Out pdu) (unopened-carries channel (reading said).entries (Carried Out pdu) (alone said) shut)

stays-one : (party : Party) (channel : Channel) (said : List Saying) (more : Saying) → comes_in more ≡ false → StaysHeard party channel said (said ++ more ∷ [])
stays-one party channel said (Command flow answer) none = nothing-heard party channel said (Command flow answer) refl
stays-one party channel said (Carried Out pdu) none = out_by party channel said pdu (is_on channel (taker is_heard Out pdu (reading said).entries)) refl
stays-one party channel said (Carried Into pdu) none = cc
stays-one party channel said (GaveUp forgone) none = nothing-heard party channel said (GaveUp forgone) refl

both_false : (a b : Bool) → (a || b) ≡ false → (a ≡ false) × (b ≡ false)
both_false true b is = cc
both_false false b is = (refl, is)

pub stays-heard : (party : Party) (channel : Channel) (chunk said : List Saying) → NoneComes chunk → StaysHeard party channel said (said ++ chunk)
stays-heard party channel [] said none = record { heard_is = ap (heard_on channel) (append-nil said); sdus_are = ap (sdus party channel Into) (append-nil said) }
stays-heard party channel (more ∷ chunk) said none =
    let parts = both_false (comes_in more) (list_any comes_in chunk) none in
    let one : StaysHeard party channel said (said ++ more ∷ []) = stays-one party channel said more parts.0 in
    let rest : StaysHeard party channel (said ++ more ∷ []) ((said ++ more ∷ []) ++ chunk) = stays-heard party channel chunk (said ++ more ∷ []) parts.1 in
    subst (StaysHeard party channel said) (append_assoc said (more ∷ []) chunk) (record { heard_is = rest.heard_is ∙ one.heard_is; sdus_are = rest.sdus_are ∙ one.sdus_are })

-- ---- one PDU brings at most one SDU more

abbrev pub AtMostOne : List (List ℕ) → Type 0
AtMostOne sdus = (sdus ≡ []) ⊎ ((sdu : List ℕ) × (sdus ≡ sdu ∷ []))

ended_one : (joining : Joining) (segment : Segment) → AtMostOne (ended joining (segment ∷ []))
ended_one (At begun) segment = by (joint begun segment)
  where
    by : (found : _) → AtMostOne (ended_by found ++ ended (joined_by found) [])
    by Misplaced = inl refl
    by (Begins b) = inl refl
    by (Ends sdu) = inr (sdu, refl)
ended_one Stopped segment = inl refl

abbrev IsShort : List Segment → Type 0
IsShort segments = (segments ≡ []) ⊎ ((segment : Segment) × (segments ≡ segment ∷ []))

frame_short : (n : ℕ) (frame : PlainFrame) → IsShort (pick n frame)
frame_short n (information tx final req sar total octets) = by (eqb tx (n % 64))
  where
    by : (fits : Bool) → (let one : Segment = record { sar = sar; total = total; octets = octets } in IsShort (cond fits (one ∷ []) []))
    by true = inr (record { sar = sar; total = total; octets = octets }, refl)
    by false = inl refl
frame_short n (supervisory kind poll final req) = inl refl

segments_short : (n : ℕ) (found : Option PlainFrame) → IsShort (pick_in n found)
segments_short n None = inl refl
segments_short n (Some frame) = frame_short n frame

ended_short : (joining : Joining) (segments : List Segment) → IsShort segments → AtMostOne (ended joining segments)
ended_short joining segments (inl none) = inl (ap (ended joining) none)
ended_short joining segments (inr (segment, is)) = subst (λ s. AtMostOne (ended joining s)) (sym is) (ended_one joining segment)

pub one-more-sdu : (most : ℕ) (mode : Mode) (pdus : List (List ℕ)) (pdu : List ℕ) → (brings : List (List ℕ)) × (sdus_by most mode (pdus ++ pdu ∷ []) ≡ sdus_by most mode pdus ++ brings) × AtMostOne brings
one-more-sdu most Basic pdus pdu = (drop 4 pdu ∷ [], sdus-more most Basic pdus pdu, inr (drop 4 pdu, refl))
one-more-sdu most Enhanced pdus pdu =
    let ear = heard_so_far most pdus in
    (sdus_with most Enhanced ear pdu, sdus-more most Enhanced pdus pdu, ended_short ear.joining (segment_of most ear pdu) (segments_short ear.next (frame_in most pdu)))
