-- The SDUs that are handed up of a channel are those that its talk brings.
use Rattle.std.proofs.Common.{◌≡◌, ℕ, List, [], ◌∷◌, ◌++◌, Bool, true, Option, Some, None, Ok, Err, refl, sym, ap, subst, ◌∙◌, inl, inr, append-nil}
use Rattle.std.specs.Prelude.{option_to_list}
use Rattle.std.specs.List.{cons_option}
use Rattle.std.proofs.lemmas.List.Elements.{filter_map-append}
use Rattle.talk_laws.specs.ertm_frames.specs.Answers.{Answer}
use Rattle.talk_laws.specs.ertm_frames.specs.Reading.{answer_in, frame_in, frames_in}
use Rattle.talk_laws.specs.ertm_frames.specs.Picking.{picked, sdus_in}
use Rattle.talk_laws.specs.ertm_frames.specs.Joining.{sdus_of}
use Rattle.channel_model.specs.ertm_model.specs.declared.reason.ErtmReason.{ErtmReason}
use Rattle.channel_model.specs.ertm_model.specs.Value.{Ertm}
use Rattle.channel_model.specs.ertm_model.specs.Hearing.{heard_by, open_heard, fault, refusal_fault, closed_by, answer_to, answer_by, PlainHeard, nothing, sdu, closed}
use Rattle.channel_model.specs.ertm_model.specs.Runs.{Comes, Course, new_course, brought, comes, happens, all_happen, IsSaid}
use Rattle.channel_model.specs.ertm_model.proofs.Coursing.{always-said}
use Rattle.talk_laws.specs.l2cap_config.specs.declared.wish.Mode.{Mode}
use Rattle.talk_laws.specs.link_talk.specs.Sdus.{sdus_by}
use Rattle.channel_model.specs.Carrying.{read_by, machine_heard, machine_sdu, sdu_heard}
use Rattle.own_channel_laws.specs.Sdus.{IsHandedUp}
use Rattle.own_channel_laws.proofs.Attending.{Attends, happens-last}
use Rattle.own_channel_laws.proofs.Stretching.{AtMostOne, one-more-sdu}

-- ---- frames of PDUs

pub append-frames : (frame : ℕ) (xs ys : List (List ℕ)) → frames_in frame (xs ++ ys) ≡ frames_in frame xs ++ frames_in frame ys
append-frames frame xs ys = filter_map-append (frame_in frame) xs ys

-- the SDUs that PDUs bring are those of their frames
pub same-sdus : (frame : ℕ) (xs ys : List (List ℕ)) → frames_in frame xs ≡ frames_in frame ys → sdus_in frame xs ≡ sdus_in frame ys
same-sdus frame xs ys same = ap (λ fs. sdus_of (picked 0 fs)) same

-- ---- a machine hears a PDU

-- what is agreed on stays
pub heard-agreed : (found : Answer) (m : Ertm) → (machine_heard found m).agreed ≡ m.agreed
heard-agreed (Ok frame) m = by m.closed
  where
    on : (cause : Option ErtmReason) → (heard_by cause frame m).agreed ≡ m.agreed
    on None = refl
    on (Some cause) = refl

    by : (now : Option ErtmReason) → (open_heard now frame m).agreed ≡ m.agreed
    by None = on (fault frame m)
    by (Some cause) = refl
heard-agreed (Err refusal) m = by m.closed (refusal_fault refusal)
  where
    by : (now cause : Option ErtmReason) → (closed_by now cause m).agreed ≡ m.agreed
    by (Some reason) cause = refl
    by None None = refl
    by None (Some cause) = refl

came_machine : (found : Answer) (c : Course) → (comes found c).machine ≡ machine_heard found c.machine
came_machine (Ok frame) c = refl
came_machine (Err refusal) c = refl

came_came : (found : Answer) (c : Course) → (comes found c).came ≡ c.came
came_came (Ok frame) c = refl
came_came (Err refusal) c = refl

brought_is : (answer : PlainHeard) → brought answer ≡ option_to_list (sdu_heard answer)
brought_is nothing = refl
brought_is (sdu octets) = refl
brought_is (closed reason) = refl

came_up : (found : Answer) (c : Course) → (comes found c).up ≡ c.up ++ option_to_list (machine_sdu found c.machine)
came_up (Ok frame) c = ap (λ more. c.up ++ more) (brought_is (answer_to frame c.machine))
came_up (Err refusal) c = sym (append-nil c.up)

-- the machine behind the PDU, and what it hands up
pub record Hears (frame : ℕ) (pdus : List (List ℕ)) (m : Ertm) (pdu : List ℕ) : Type 0 where
  pub attends : Attends frame (pdus ++ pdu ∷ []) true (machine_heard (read_by m pdu) m)
  pub sdus_are : sdus_in frame (pdus ++ pdu ∷ []) ≡ sdus_in frame pdus ++ option_to_list (machine_sdu (read_by m pdu) m)

pub hears-pdu : (frame : ℕ) (pdus : List (List ℕ)) (opened : Bool) (m : Ertm) (pdu : List ℕ) → Attends frame pdus opened m → (machine_heard (read_by m pdu) m).closed ≡ None → Hears frame pdus m pdu
hears-pdu frame pdus opened m pdu attends open' =
    let agreed = attends.agreed in
    let events = attends.events in
    let c : Course = all_happen events (new_course agreed) in
    let found : Answer = read_by m pdu in
    let after : Course = happens (Comes pdu) c in
    let last : all_happen (events ++ Comes pdu ∷ []) (new_course agreed) ≡ after = happens-last events (Comes pdu) (new_course agreed) in
    let read : answer_in c.machine.agreed.receive_mps pdu ≡ found = ap (λ (x : Ertm). answer_in x.agreed.receive_mps pdu) attends.machine_is in
    let machine : after.machine ≡ machine_heard found m =
    ap (λ a. (comes a c).machine) read ∙ (came_machine found c ∙ ap (machine_heard found) attends.machine_is) in
    let came : after.came ≡ c.came ++ pdu ∷ [] = ap (λ cs. cs ++ pdu ∷ []) (came_came (answer_in c.machine.agreed.receive_mps pdu) c) in
    let up : after.up ≡ c.up ++ option_to_list (machine_sdu found m) =
    ap (λ a. (comes a c).up) read ∙ (came_up found c ∙ ap (λ x. c.up ++ option_to_list (machine_sdu found x)) attends.machine_is) in
    let frames : frames_in frame after.came ≡ frames_in frame (pdus ++ pdu ∷ []) =
    ap (frames_in frame) came ∙ (append-frames frame c.came (pdu ∷ []) ∙ (ap (λ fs. fs ++ frames_in frame (pdu ∷ [])) attends.came_is ∙ sym (append-frames frame pdus (pdu ∷ [])))) in
    let said : IsSaid agreed c = always-said agreed events attends.small (ap (λ (x : Ertm). x.closed) attends.machine_is ∙ attends.open_is) in
    let said_after : IsSaid agreed after =
    subst (IsSaid agreed) last (always-said agreed (events ++ Comes pdu ∷ []) attends.small (ap (λ (x : Course). x.machine.closed) last ∙ (ap (λ (x : Ertm). x.closed) machine ∙ open'))) in
    record {
      attends = record {
        agreed = agreed;
        events = events ++ Comes pdu ∷ [];
        machine_is = ap (λ (x : Course). x.machine) last ∙ machine;
        agreed_is = heard-agreed found m ∙ attends.agreed_is;
        came_is = ap (λ (x : Course). frames_in frame x.came) last ∙ frames;
        small = attends.small;
        frame_is = attends.frame_is;
        open_is = open';
        quiet = λ shut. cc;
      };
      sdus_are =
          same-sdus frame (pdus ++ pdu ∷ []) after.came (sym frames)
          ∙ (ap (λ n. sdus_in n after.came) (sym attends.frame_is)
          ∙ (sym said_after.up_is
          ∙ (up
          ∙ ap (λ us. us ++ option_to_list (machine_sdu found m)) (said.up_is ∙ (ap (λ n. sdus_in n c.came) attends.frame_is ∙ same-sdus frame c.came pdus attends.came_is)))));
    }

-- ---- a machine that closes

closed_answer : (reason : ErtmReason) (found : Answer) (m : Ertm) → (machine_heard found m).closed ≡ Some reason → machine_sdu found m ≡ None
closed_answer reason (Ok frame) m is = ap (λ c. sdu_heard (answer_by c frame m)) is
closed_answer reason (Err refusal) m is = refl

pub closes-silent : (reason : ErtmReason) (m : Ertm) (pdu : List ℕ) → (machine_heard (read_by m pdu) m).closed ≡ Some reason → machine_sdu (read_by m pdu) m ≡ None
closes-silent reason m pdu is = closed_answer reason (read_by m pdu) m is

-- it may have been one that is read
pub broken-up : (most : ℕ) (mode : Mode) (pdus : List (List ℕ)) (pdu : List ℕ) (up : List (List ℕ)) (broken : Bool) → broken ≡ true → sdus_by most mode pdus ≡ up → IsHandedUp broken up (sdus_by most mode (pdus ++ pdu ∷ []))
broken-up most mode pdus pdu up broken is same =
    let (brings, brings_is, short) = one-more-sdu most mode pdus pdu in
    subst (IsHandedUp broken up) (sym (brings_is ∙ ap (λ us. us ++ brings) same)) (by brings short)
  where
    by : (brings : List (List ℕ)) → AtMostOne brings → IsHandedUp broken up (up ++ brings)
    by brings (inl none) = inl (ap (λ b. up ++ b) none ∙ sym (sym (append-nil up)))
    by brings (inr (one, one_is)) = inr (is, one, ap (λ b. up ++ b) one_is)

-- ---- a PDU that is no frame

pub no-frame : (frame : ℕ) (pdus : List (List ℕ)) (pdu : List ℕ) → frame_in frame pdu ≡ None → frames_in frame (pdus ++ pdu ∷ []) ≡ frames_in frame pdus
no-frame frame pdus pdu none = append-frames frame pdus (pdu ∷ []) ∙ (ap (λ (found : Option _). frames_in frame pdus ++ cons_option found []) none ∙ sym (sym (append-nil (frames_in frame pdus))))
