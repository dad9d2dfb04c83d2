-- The frames that pass on a channel, with one saying more.
use Rattle.std.proofs.Common.{◌≡◌, ℕ, ◌+◌, ◌≤◌, ◌<◌, ◌^◌, List, [], ◌∷◌, ◌++◌, length, Bool, true, false, cond, eqb, ◌&&◌, ◌||◌, Option, Some, None, refl, sym, ap, ◌∙◌, arith, append_assoc, append-nil, length-append}
use Rattle.std.specs.Prelude.{option_map, option_to_list}
use Rattle.std.specs.List.{list_any, filter_map, cons_option}
use Rattle.std.proofs.lemmas.Bool.{eqb-true}
use Rattle.std.proofs.lemmas.List.Elements.{filter_map-append}
use Rattle.talk_laws.specs.bt_base.specs.Octets.{IsOctets, le16}
use Rattle.talk_laws.specs.bt_base.proofs.OctetLemmas.{le16-number}
use Rattle.talk_laws.specs.acl_fragments.specs.Pieces.{channel_of}
use Rattle.talk_laws.specs.capture.specs.declared.flow.Flow.TheVariants.{Out, Into}
use Rattle.talk_laws.specs.ertm_frames.specs.Frames.{PlainFrame, information, supervisory, body_of, control_of, Spells}
use Rattle.talk_laws.specs.ertm_frames.specs.Answers.{IsWithin}
use Rattle.talk_laws.specs.ertm_frames.specs.Reading.{answer_in, frame_by, frame_in}
use Rattle.talk_laws.specs.ertm_frames.specs.Picking.{Out as Gave, In}
use Rattle.talk_laws.specs.ertm_frames.proofs.Spelled.{written-read}
use Rattle.talk_laws.specs.ertm_frames.proofs.WorkedOut.{answer-is_worked_out}
use Rattle.talk_laws.specs.link_talk.specs.declared.channel.Channel.{Channel}
use Rattle.talk_laws.specs.link_talk.specs.declared.party.Party.{Party}
use Rattle.talk_laws.specs.link_talk.specs.Sayings.{Saying, Command, Carried, GaveUp}
use Rattle.talk_laws.specs.link_talk.specs.Setups.{is_set}
use Rattle.talk_laws.specs.link_talk.specs.Channels.{Entry, is_there, reading}
use Rattle.talk_laws.specs.link_talk.specs.Carriages.{Carriage, is_held, is_passed, takes as takes_on_it, taker, carried, passages, has_own as is_of}
use Rattle.talk_laws.specs.link_talk.specs.Accounts.{passage, passage_in, frames_passed}
use Rattle.talk_laws.specs.link_talk.proofs.Growing.{passages-grow}
use Rattle.talk_laws.proofs.Owning.{alone, found_one}
use Rattle.own_channel_laws.specs.Views.{read_at}
use Rattle.channel_model.proofs.Lookups.{eqb-same}
use Rattle.own_channel_laws.proofs.Both.{and-left, and-right}
use Rattle.own_channel_laws.proofs.Carriages.{goes_over, carried-none, carried-one, into-else, counted_in, into-here}
use Rattle.own_channel_laws.proofs.Signalling.{is_carried, IsBare}
use Rattle.own_channel_laws.proofs.Passing.{heard_in}

-- ---- one saying more

pub passed-more : (party : Party) (channel : Channel) (past : List Saying) (more : Saying) → frames_passed party channel (past ++ more ∷ []) ≡ frames_passed party channel past ++ filter_map (passage_in party) (carried is_passed channel past more)
passed-more party channel past more = ap (filter_map (passage_in party)) (passages-grow channel past more) ∙ filter_map-append (passage_in party) (passages channel past) (carried is_passed channel past more)

pub none_more : (party : Party) (channel : Channel) (past : List Saying) (more : Saying) → carried is_passed channel past more ≡ [] → frames_passed party channel (past ++ more ∷ []) ≡ frames_passed party channel past
none_more party channel past more none = passed-more party channel past more ∙ (ap (λ cs. frames_passed party channel past ++ filter_map (passage_in party) cs) none ∙ append-nil (frames_passed party channel past))

bare_one : (party : Party) (channel : Channel) (past : List Saying) (more : Saying) → is_carried more ≡ false → frames_passed party channel (past ++ more ∷ []) ≡ frames_passed party channel past
bare_one party channel past (Command flow answer) bare = none_more party channel past (Command flow answer) refl
bare_one party channel past (Carried flow pdu) bare = cc
bare_one party channel past (GaveUp forgone) bare = none_more party channel past (GaveUp forgone) refl

pub both-false : (a b : Bool) → (a || b) ≡ false → (a ≡ false) × (b ≡ false)
both-false true b is = cc
both-false false b is = (refl, is)

pub bare-passes : (party : Party) (channel : Channel) (said past : List Saying) → IsBare said → frames_passed party channel (past ++ said) ≡ frames_passed party channel past
bare-passes party channel [] past bare = ap (frames_passed party channel) (append-nil past)
bare-passes party channel (more ∷ said) past bare =
    let parts = both-false (is_carried more) (list_any is_carried said) bare in
    sym (ap (frames_passed party channel) (append_assoc past (more ∷ []) said)) ∙ (bare-passes party channel said (past ++ more ∷ []) parts.1 ∙ bare_one party channel past more parts.0)

-- ---- a PDU comes in

pub into-other : (party : Party) (channel : Channel) (past : List Saying) (pdu : List ℕ) → eqb (channel_of pdu) channel.own ≡ false → frames_passed party channel (past ++ Carried Into pdu ∷ []) ≡ frames_passed party channel past
into-other party channel past pdu away = none_more party channel past (Carried Into pdu) (into-else is_passed channel past pdu away)

-- on a channel that has opened and is there a frame passes
pub into-own : (party : Party) (channel : Channel) (past : List Saying) (pdu : List ℕ) (holds : Bool) → eqb (channel_of pdu) channel.own ≡ true → counted_in is_passed (read_at channel.own (reading past).entries) ≡ holds
    → frames_passed party channel (past ++ Carried Into pdu ∷ []) ≡ frames_passed party channel past ++ cond holds (heard_in party.frame pdu) []
into-own party channel past pdu holds here is =
    passed-more party channel past (Carried Into pdu)
    ∙ ap (λ fs. frames_passed party channel past ++ fs) (ap (filter_map (passage_in party)) (into-here is_passed channel past pdu here ∙ ap (λ b. cond b (one ∷ []) []) is) ∙ by holds)
  where
    one : Carriage
    one = record { flow = Into; pdu = pdu }

    heard : (found : Option PlainFrame) → cons_option (option_map (passage Into) found) [] ≡ option_to_list (option_map In found)
    heard None = refl
    heard (Some frame) = refl

    by : (holds : Bool) → filter_map (passage_in party) (cond holds (one ∷ []) []) ≡ cond holds (heard_in party.frame pdu) []
    by true = heard (frame_in party.frame pdu)
    by false = refl

-- ---- a PDU goes out

-- on the channel of an own endpoint, with a peer's endpoint of its own
pub record GoesOut (past : List Saying) (own peer : ℕ) : Type 0 where
  pub entry : Entry
  pub found : read_at own (reading past).entries ≡ Some entry
  pub peer_is : entry.channel.peer ≡ peer
  pub holds : is_held entry ≡ true
  -- no other channel that is there has it
  pub only : (other : ℕ) (x : Entry) → read_at other (reading past).entries ≡ Some x → is_there x.life ≡ true → x.channel.peer ≡ peer → other ≡ own

pub out-other : (party : Party) (channel : Channel) (past : List Saying) (own peer : ℕ) (pdu : List ℕ) → GoesOut past own peer → channel_of pdu ≡ peer → eqb own channel.own ≡ false → frames_passed party channel (past ++ Carried Out pdu ∷ []) ≡ frames_passed party channel past
out-other party channel past own peer pdu goes to away = none_more party channel past (Carried Out pdu) (carried-none is_passed channel past Out pdu (by (read_at channel.own (reading past).entries) refl))
  where
    on : (x : Entry) → read_at channel.own (reading past).entries ≡ Some x → (b : Bool) → takes_on_it is_passed Out (channel_of pdu) x ≡ b → b ≡ false
    on x is false now = refl
    on x is true now =
        let there : is_there x.life ≡ true = and-right (is_set x.setup) (is_there x.life) (and-left (is_held x) (eqb x.channel.peer (channel_of pdu)) now) in
        let same : x.channel.peer ≡ peer = eqb-true x.channel.peer (channel_of pdu) (and-right (is_held x) (eqb x.channel.peer (channel_of pdu)) now) ∙ to in
        let one : channel.own ≡ own = goes.only channel.own x is there same in
        let never : true ≡ false = sym (eqb-same own) ∙ (ap (eqb own) (sym one) ∙ away) in absurd cc

    by : (found : Option Entry) → read_at channel.own (reading past).entries ≡ found → goes_over is_passed Out pdu found ≡ false
    by None is = refl
    by (Some x) is = on x is (takes_on_it is_passed Out (channel_of pdu) x) refl

pub carried-own : (channel : Channel) (past : List Saying) (peer : ℕ) (pdu : List ℕ) → GoesOut past channel.own peer → channel_of pdu ≡ peer → (let one : Carriage = record { flow = Out; pdu = pdu } in carried is_passed channel past (Carried Out pdu) ≡ one ∷ [])
carried-own channel past peer pdu goes to =
    carried-one is_passed channel past Out pdu goes.entry goes.found
    (ap (λ t. t && eqb goes.entry.channel.peer (channel_of pdu)) goes.holds ∙ (ap (λ n. eqb n (channel_of pdu)) (goes.peer_is ∙ sym to) ∙ eqb-same (channel_of pdu))) only
  where
    only : (x : Entry) → taker is_passed Out pdu (reading past).entries ≡ Some x → takes_on_it is_passed Out (channel_of pdu) x ≡ true → is_of channel x ≡ true
    only x at now =
        let mine : read_at x.channel.own (reading past).entries ≡ Some x = found_one x.channel (takes_on_it is_passed Out (channel_of pdu)) (reading past).entries x (alone past) at (eqb-same x.channel.own) in
        let there : is_there x.life ≡ true = and-right (is_set x.setup) (is_there x.life) (and-left (is_held x) (eqb x.channel.peer (channel_of pdu)) now) in
        let same : x.channel.peer ≡ peer = eqb-true x.channel.peer (channel_of pdu) (and-right (is_held x) (eqb x.channel.peer (channel_of pdu)) now) ∙ to in
        ap (λ n. eqb n channel.own) (goes.only x.channel.own x mine there same) ∙ eqb-same channel.own

pub out-own : (party : Party) (channel : Channel) (past : List Saying) (peer : ℕ) (pdu : List ℕ) (frame : PlainFrame) → GoesOut past channel.own peer → channel_of pdu ≡ peer → frame_in 65535 pdu ≡ Some frame
    → frames_passed party channel (past ++ Carried Out pdu ∷ []) ≡ frames_passed party channel past ++ Gave frame ∷ []
out-own party channel past peer pdu frame goes to is =
    passed-more party channel past (Carried Out pdu)
    ∙ ap (λ fs. frames_passed party channel past ++ fs) (ap (filter_map (passage_in party)) (carried-own channel past peer pdu goes to) ∙ ap (λ f. cons_option (option_map (passage Out) f) []) is)

-- ---- octets

fits_in : (frame : PlainFrame) → 4 + length (body_of frame) < 2 ^ 16 → IsWithin 65535 frame
fits_in (information tx final req sar total octets) fits = by (eqb sar 1) fits
  where
    by : (start : Bool) → 4 + length (cond start (le16 total) [] ++ octets) < 2 ^ 16 → length octets ≤ 65535
    by start fits = let whole = length-append (cond start (le16 total) []) octets in omega (arith, fits, whole)
fits_in (supervisory kind poll final req) fits = tt

pub spelled-frame : (peer : ℕ) (frame : PlainFrame) (pdu : List ℕ) → Spells peer frame pdu → IsOctets pdu → (frame_in 65535 pdu ≡ Some frame) × (channel_of pdu ≡ peer)
spelled-frame peer frame pdu spells octets = (
  ap frame_by (written-read peer 65535 frame pdu (answer_in 65535 pdu) spells (fits_in frame spells.length_fits) (answer-is_worked_out 65535 pdu octets)),
  ap channel_of spells.parts ∙ le16-number peer ((le16 (control_of frame) ++ body_of frame) ++ le16 spells.check) spells.cid_fits,
)
