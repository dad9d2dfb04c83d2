-- A retransmission machine gives the segments of what it took, in their order.
use Rattle.std.proofs.Common.{◌≡◌, ℕ, ◌+◌, ◌-◌, ◌%◌, ◌<◌, List, [], ◌∷◌, ◌++◌, length, Bool, true, false, cond, Option, Some, None, Ok, Err, refl, sym, ap, subst, ◌∙◌, arith, append-nil, append_assoc, length-append}
use Rattle.std.specs.Prelude.{not, nat_le}
use Rattle.std.specs.List.{flat_map, cons_option}
use Rattle.std.proofs.lemmas.Grind.{flat_map-append}
use Rattle.own_channel_laws.specs.talk_laws.specs.ertm_frames.specs.Frames.{PlainFrame, information, supervisory}
use Rattle.own_channel_laws.specs.talk_laws.specs.ertm_frames.specs.Answers.{Answer}
use Rattle.own_channel_laws.specs.talk_laws.specs.ertm_frames.specs.Reading.{answer_in, frame_by, frames_in}
use Rattle.own_channel_laws.specs.talk_laws.specs.ertm_frames.specs.Segments.{Segment}
use Rattle.own_channel_laws.specs.talk_laws.specs.ertm_frames.specs.Joining.{At, joined, ended, sdus_of}
use Rattle.own_channel_laws.specs.talk_laws.specs.ertm_frames.specs.Picking.{has_number, segments_in, picked, last_req, Passage, Out, outs, ins}
use Rattle.own_channel_laws.specs.talk_laws.specs.ertm_frames.proofs.Longest.{ended-append, sdu_joins}
use Rattle.own_channel_laws.specs.talk_laws.specs.ertm_frames.proofs.Telling.{picked_one, picked-more, outs-more}
use Rattle.own_channel_laws.specs.channel_model.specs.ertm_model.specs.declared.reason.ErtmReason.{ErtmReason}
use Rattle.own_channel_laws.specs.channel_model.specs.ertm_model.specs.declared.reason.ErtmReason.TheVariants.{RetryLimit}
use Rattle.own_channel_laws.specs.channel_model.specs.ertm_model.specs.Value.{Ertm, Kept, Poll, NoPoll, Due, Waits, window_used, new_ertm}
use Rattle.own_channel_laws.specs.talk_laws.specs.l2cap_config.specs.declared.wish.Agreed.{Agreed}
use Rattle.own_channel_laws.specs.channel_model.specs.ertm_model.specs.Submitting.{cut, is_busy, taking}
use Rattle.own_channel_laws.specs.channel_model.specs.ertm_model.specs.Giving.{Giving, PollAnswer, Acknowledgement, Rejection, Polling, Again, New, giving, given_frame, after_giving, frame_by as given_by, after_by, next_frame, after_frame, polling, closing, first_poll, poll_timed, open_timed, timed}
use Rattle.own_channel_laws.specs.channel_model.specs.ertm_model.specs.Runs.{new_course, all_happen}
use Rattle.own_channel_laws.specs.channel_model.specs.ertm_model.specs.Hearing.{fault, heard_by, open_heard, refusal_fault, closed_by}
use Rattle.own_channel_laws.specs.channel_model.specs.ertm_model.proofs.Coursing.{answers_small}
use Rattle.own_channel_laws.specs.channel_model.specs.ertm_model.proofs.Cutting.{cut-spells}
use Rattle.own_channel_laws.specs.channel_model.specs.ertm_model.proofs.Inverting as inverting
use Rattle.own_channel_laws.specs.channel_model.specs.ertm_model.proofs.Lists.{again-length}
use Rattle.own_channel_laws.specs.channel_model.specs.ertm_model.proofs.Reading.{none-more}
use Rattle.own_channel_laws.specs.channel_model.specs.ertm_model.proofs.Standing.{no_fresh}
use Rattle.own_channel_laws.specs.channel_model.specs.Carrying.{machine_heard}
use Rattle.channel_laws.specs.Pipes.{IsFront}
use Rattle.own_channel_laws.proofs.Passing.{Passing, ins_out, passing-used}

-- the segments of what it took are those that its frames say, and behind them those that it never gave; while its channel is not open
-- there are none
pub record Puts (given : List (List ℕ)) (said : List PlainFrame) (opened : Bool) (m : Ertm) : Type 0 where
  pub put_is : flat_map (cut m.agreed.send_mps) given ≡ picked 0 said ++ m.sender.fresh
  pub quiet : opened ≡ false → (given ≡ []) × (picked 0 said ≡ [])

pub puts-new : (given : List (List ℕ)) (said : List PlainFrame) (opened : Bool) (agreed : Agreed) → given ≡ [] → picked 0 said ≡ [] → Puts given said opened (new_ertm agreed)
puts-new given said opened agreed none silent =
    record { put_is = ap (flat_map (cut agreed.send_mps)) none ∙ sym (ap (λ l. l ++ []) silent); quiet = λ shut. (none, silent) }

-- a machine that has the same segments left, by the same agreement
pub puts-on : (given : List (List ℕ)) (said : List PlainFrame) (opened opened' : Bool) (m after : Ertm) → after.agreed ≡ m.agreed → after.sender.fresh ≡ m.sender.fresh → (opened' ≡ false → opened ≡ false) → Puts given said opened m → Puts given said opened' after
puts-on given said opened opened' m after agreed fresh shut puts = record {
  put_is = ap (λ (a : Agreed). flat_map (cut a.send_mps) given) agreed ∙ (puts.put_is ∙ ap (λ l. picked 0 said ++ l) (sym fresh));
  quiet = λ is. puts.quiet (shut is);
}

-- ---- numbers that come in

abbrev IsSmall : PlainFrame → Type 0
IsSmall (information tx final req sar total octets) = (tx < 64) × (req < 64)
IsSmall (supervisory kind poll final req) = req < 64

abbrev AreSmall : Answer → Type 0
AreSmall (Ok frame) = IsSmall frame
AreSmall (Err refusal) = Unit {0}

req_by : (a : Answer) (frames : List PlainFrame) (req : ℕ) → AreSmall a → ((first : ℕ) → first < 64 → last_req first frames < 64) → req < 64 → last_req req (cons_option (frame_by a) frames) < 64
req_by (Ok (information tx final r sar total octets)) frames req fits later small = later r fits.1
req_by (Ok (supervisory kind poll final r)) frames req fits later small = later r fits
req_by (Err refusal) frames req fits later small = later req small

req_small : (mps : ℕ) (pdus : List (List ℕ)) (req : ℕ) → req < 64 → last_req req (frames_in mps pdus) < 64
req_small mps [] req small = small
req_small mps (pdu ∷ pdus) req small = req_by (answer_in mps pdu) (frames_in mps pdus) req (answers_small mps pdu) (λ first fits. req_small mps pdus first fits) small

-- ---- it gives its next frame

-- the last ReqSeq that came in fits its field
pub passed-small : (mps : ℕ) (frames : List Passage) (opened : Bool) (m : Ertm) → Passing mps frames opened m → last_req 0 (ins frames) < 64
passed-small mps frames opened m p = subst (λ fs. last_req 0 fs < 64) p.came_is (req_small p.agreed.receive_mps (all_happen p.events (new_course p.agreed)).came 0 (omega arith))

-- how many were given
record Counts (frames : List Passage) (frame : PlainFrame) (m after : Ertm) : Type 0 where
  req : ℕ
  small : req < 64
  before : window_used m ≡ (length (picked 0 (outs frames)) + 64 - req) % 64
  behind : window_used after ≡ (length (picked 0 (outs frames ++ frame ∷ [])) + 64 - req) % 64

counts : (mps : ℕ) (frames : List Passage) (frame : PlainFrame) (opened opened' : Bool) (m after : Ertm) → Passing mps frames opened m → Passing mps (frames ++ Out frame ∷ []) opened' after → Counts frames frame m after
counts mps frames frame opened opened' m after p q = record {
  req = last_req 0 (ins frames);
  small = passed-small mps frames opened m p;
  before = (passing-used mps frames opened m p).0;
  behind = (passing-used mps (frames ++ Out frame ∷ []) opened' after q).0
      ∙ (ap (λ fs. (length (picked 0 fs) + 64 - last_req 0 (ins (frames ++ Out frame ∷ []))) % 64) (outs-more frames frame)
      ∙ ap (λ fs. (length (picked 0 (outs frames ++ frame ∷ [])) + 64 - last_req 0 fs) % 64) (ins_out frames frame));
}

one_more : (said : List PlainFrame) (frame : PlainFrame) (b : Bool) → has_number (length (picked 0 said)) frame ≡ b → picked 0 (said ++ frame ∷ []) ≡ picked 0 said ++ cond b (segments_in frame) []
one_more said frame b is =
    let e : 0 + length (picked 0 said) ≡ length (picked 0 said) = omega arith in
    picked-more 0 said frame ∙ (ap (λ n. picked 0 said ++ picked_one n frame) e ∙ ap (λ b. picked 0 said ++ cond b (segments_in frame) []) is)

-- a frame that was given before is not picked
again_none : (frames : List Passage) (m : Ertm) (kept : Kept) → (let frame = given_frame (Again kept) m in Counts frames frame m (after_giving (Again kept) m) → (b : Bool) → has_number (length (picked 0 (outs frames))) frame ≡ b
    → picked 0 (outs frames ++ frame ∷ []) ≡ picked 0 (outs frames))
again_none frames m kept c false is = one_more (outs frames) (given_frame (Again kept) m) false is ∙ append-nil (picked 0 (outs frames))
again_none frames m kept c true is =
    let frame : PlainFrame = given_frame (Again kept) m in
    let more = one_more (outs frames) frame true is in
    let long = ap length more ∙ length-append (picked 0 (outs frames)) (segments_in frame) in
    let same = again-length m.sender.next m.sender.unacked in
    let small = c.small in
    let before = c.before in
    let behind = c.behind in
    absurd (omega arith)

-- one that is new is
new_one : (frames : List Passage) (m : Ertm) (segment : Segment) (behind : List Segment) → (let frame = given_frame (New segment behind) m in Counts frames frame m (after_giving (New segment behind) m) → (b : Bool) → has_number (length (picked 0 (outs frames))) frame ≡ b
    → picked 0 (outs frames ++ frame ∷ []) ≡ picked 0 (outs frames) ++ segment ∷ [])
new_one frames m segment behind c true is = one_more (outs frames) (given_frame (New segment behind) m) true is
new_one frames m segment behind c false is =
    let frame : PlainFrame = given_frame (New segment behind) m in
    let more = one_more (outs frames) frame false is ∙ append-nil (picked 0 (outs frames)) in
    let long = ap length more in
    let same = length-append m.sender.unacked (record { segment = segment; given = 1 } ∷ []) in
    let before = c.before in
    let after = c.behind in
    absurd (omega arith)

gives_puts : (frames : List Passage) (given : List (List ℕ)) (opened : Bool) (m : Ertm) (g : Giving) → Counts frames (given_frame g m) m (after_giving g m) → inverting.Gives m (Some g) → Puts given (outs frames) opened m
    → flat_map (cut (after_giving g m).agreed.send_mps) given ≡ picked 0 (outs frames ++ given_frame g m ∷ []) ++ (after_giving g m).sender.fresh
gives_puts frames given opened m PollAnswer c why h = h.put_is ∙ ap (λ l. l ++ m.sender.fresh) (sym (none-more (outs frames) (given_frame PollAnswer m) refl))
gives_puts frames given opened m Acknowledgement c why h = h.put_is ∙ ap (λ l. l ++ m.sender.fresh) (sym (none-more (outs frames) (given_frame Acknowledgement m) refl))
gives_puts frames given opened m Rejection c why h = h.put_is ∙ ap (λ l. l ++ m.sender.fresh) (sym (none-more (outs frames) (given_frame Rejection m) refl))
gives_puts frames given opened m Polling c why h = h.put_is ∙ ap (λ l. l ++ m.sender.fresh) (sym (none-more (outs frames) (given_frame Polling m) refl))
gives_puts frames given opened m (Again kept) c why h =
    h.put_is ∙ ap (λ l. l ++ m.sender.fresh) (sym (again_none frames m kept c (has_number (length (picked 0 (outs frames))) (given_frame (Again kept) m)) refl))
gives_puts frames given opened m (New segment behind) c (free, none, is, room) h =
    h.put_is ∙ (ap (λ l. picked 0 (outs frames) ++ l) is ∙ (sym (append_assoc (picked 0 (outs frames)) (segment ∷ []) behind)
    ∙ ap (λ l. l ++ behind) (sym (new_one frames m segment behind c (has_number (length (picked 0 (outs frames))) (given_frame (New segment behind) m)) refl))))

pub puts-gives : (mps : ℕ) (frames : List Passage) (given : List (List ℕ)) (opened : Bool) (m : Ertm) (frame : PlainFrame) → next_frame m ≡ Some frame → Passing mps frames opened m → Passing mps (frames ++ Out frame ∷ []) true (after_frame m)
    → Puts given (outs frames) opened m → Puts given (outs (frames ++ Out frame ∷ [])) true (after_frame m)
puts-gives mps frames given opened m frame is p q h = record {
  put_is = by (giving m) refl is ∙ ap (λ fs. picked 0 fs ++ (after_frame m).sender.fresh) (sym (outs-more frames frame));
  quiet = λ shut. cc;
}
  where
    by : (found : Option Giving) → giving m ≡ found → given_by found m ≡ Some frame → flat_map (cut (after_frame m).agreed.send_mps) given ≡ picked 0 (outs frames ++ frame ∷ []) ++ (after_frame m).sender.fresh
    by None now next = cc
    by (Some g) now next =
        let same : given_frame g m ≡ frame = cc in
        let after : after_frame m ≡ after_giving g m = ap (λ o. after_by o m) now in
        subst (λ (x : Ertm). flat_map (cut x.agreed.send_mps) given ≡ picked 0 (outs frames ++ frame ∷ []) ++ x.sender.fresh) (sym after)
        (subst (λ f. flat_map (cut (after_giving g m).agreed.send_mps) given ≡ picked 0 (outs frames ++ f ∷ []) ++ (after_giving g m).sender.fresh) same
        (gives_puts frames given opened m g
        (subst (λ f. Counts frames f m (after_giving g m)) (sym same) (subst (Counts frames frame m) after (counts mps frames frame opened true m (after_frame m) p q)))
        (subst (inverting.Gives m) now (inverting.gives m)) h))

-- ---- it takes an SDU

pub puts-takes : (given : List (List ℕ)) (said : List PlainFrame) (m : Ertm) (sdu : List ℕ) (busy : Bool) → is_busy m ≡ busy → Puts given said true m → Puts (given ++ cond (not busy) (sdu ∷ []) []) said true (cond busy m (taking sdu m))
puts-takes given said m sdu true is h = subst (λ g. Puts g said true m) (sym (append-nil given)) h
puts-takes given said m sdu false is h = record {
  put_is =
      flat_map-append (cut m.agreed.send_mps) given (sdu ∷ [])
      ∙ (ap (λ l. flat_map (cut m.agreed.send_mps) given ++ l) (append-nil (cut m.agreed.send_mps sdu))
      ∙ ap (λ l. l ++ cut m.agreed.send_mps sdu) (h.put_is ∙ (ap (λ l. picked 0 said ++ l) (no_fresh m.sender.fresh is) ∙ append-nil (picked 0 said))));
  quiet = λ shut. cc;
}

-- ---- its timer fires, and it hears a frame

pub fresh-timed : (m : Ertm) → (timed m).sender.fresh ≡ m.sender.fresh
fresh-timed m = by m.closed
  where
    waits : (spent : Bool) → (cond spent (closing RetryLimit m) (polling m)).sender.fresh ≡ m.sender.fresh
    waits true = refl
    waits false = refl

    first : (kept : List Kept) → (first_poll kept m).sender.fresh ≡ m.sender.fresh
    first [] = refl
    first (k ∷ kept) = refl

    polls : (poll : Poll) → (poll_timed poll m).sender.fresh ≡ m.sender.fresh
    polls NoPoll = first m.sender.unacked
    polls Due = refl
    polls Waits = waits (nat_le m.agreed.tries m.sender.polls)

    by : (shut : Option ErtmReason) → (open_timed shut m).sender.fresh ≡ m.sender.fresh
    by None = polls m.sender.poll
    by (Some reason) = refl

pub fresh-heard : (found : Answer) (m : Ertm) → (machine_heard found m).sender.fresh ≡ m.sender.fresh
fresh-heard (Ok frame) m = by m.closed
  where
    on : (cause : Option ErtmReason) → (heard_by cause frame m).sender.fresh ≡ m.sender.fresh
    on None = refl
    on (Some cause) = refl

    by : (now : Option ErtmReason) → (open_heard now frame m).sender.fresh ≡ m.sender.fresh
    by None = on (fault frame m)
    by (Some cause) = refl
fresh-heard (Err refusal) m = by m.closed (refusal_fault refusal)
  where
    by : (now cause : Option ErtmReason) → (closed_by now cause m).sender.fresh ≡ m.sender.fresh
    by (Some reason) cause = refl
    by None None = refl
    by None (Some cause) = refl

-- ---- so what its frames say is a front of what it took

all_cut : (mps : ℕ) (given : List (List ℕ)) → sdus_of (flat_map (cut mps) given) ≡ given
all_cut mps [] = refl
all_cut mps (sdu ∷ given) =
    let more : List Segment = cut mps sdu in
    let rest : List Segment = flat_map (cut mps) given in
    let joins = sdu_joins more sdu (cut-spells mps sdu) in
    ended-append (At None) more rest
    ∙ (ap (λ l. l ++ ended (joined (At None) more) rest) joins.1
    ∙ (ap (λ j. sdu ∷ ended j rest) joins.0 ∙ ap (λ l. sdu ∷ l) (all_cut mps given)))

pub puts-front : (given : List (List ℕ)) (said : List PlainFrame) (opened : Bool) (m : Ertm) → Puts given said opened m → IsFront (sdus_of (picked 0 said)) given
puts-front given said opened m h = (
  ended (joined (At None) (picked 0 said)) m.sender.fresh,
  sym (all_cut m.agreed.send_mps given) ∙ (ap sdus_of h.put_is ∙ ended-append (At None) (picked 0 said) m.sender.fresh),
)
