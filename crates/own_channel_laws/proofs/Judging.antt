-- The peer asks for options of a channel that is there: each row of the table.
use Rattle.std.proofs.Common.{◌≡◌, ℕ, ◌%◌, List, [], ◌∷◌, ◌++◌, fold, Bool, true, false, cond, eqb, Some, None, Result, Ok, Err, refl, sym, ap, subst, ◌∙◌}
use Rattle.std.specs.Prelude.{find, is_some, nat_le}
use Rattle.std.proofs.lemmas.List.Sums.{fold-append}
use Rattle.talk_laws.specs.l2cap_signal.specs.Commands.{Content, Command, configuration_request, configuration_response}
use Rattle.talk_laws.specs.l2cap_signal.specs.Reading.{Answer as Read}
use Rattle.talk_laws.specs.l2cap_config.specs.declared.options.Options.{Options}
use Rattle.talk_laws.specs.l2cap_config.specs.declared.options.ConfigRefusal.{ConfigRefusal}
use Rattle.talk_laws.specs.l2cap_config.specs.declared.agreement.ConfigAnswer.{ConfigAnswer}
use Rattle.talk_laws.specs.l2cap_config.specs.declared.agreement.ConfigAnswer.TheVariants.{Accept, Unacceptable, Unknown}
use Rattle.talk_laws.specs.l2cap_config.specs.declared.wish.Wish.{Wish}
use Rattle.talk_laws.specs.l2cap_config.specs.Items.{joined, no_options}
use Rattle.talk_laws.specs.l2cap_config.specs.Reading.{options_read}
use Rattle.talk_laws.specs.l2cap_config.specs.Agreement.{answered as answer_on}
use Rattle.talk_laws.specs.l2cap_config.specs.Writing.{written}
use Rattle.talk_laws.specs.link_talk.specs.Requests.{has_identifier, last_run, query_terms}
use Rattle.talk_laws.specs.link_talk.specs.Channels.{is_there, Reading, read_on}
use Rattle.channel_model.specs.declared.errand.Errand.TheVariants.{Configuration}
use Rattle.channel_model.specs.declared.event.CloseReason.TheVariants.{NoAgreement}
use Rattle.channel_model.specs.Value.{Request, Own, Unasked, Asking, Granted, Setup, Stage, Requested, Connected, Leaving, Closing, Crossed, Held, Memory, Channels}
use Rattle.channel_model.specs.Policies.{Policy}
use Rattle.channel_model.specs.Changing.{has_own, has_fcs_by, setup_of, to_setup, stage_with, with_setup, is_open}
use Rattle.channel_model.specs.Asking.{new_request, first_options, asks_options}
use Rattle.channel_model.specs.Closing.{closes_at}
use Rattle.channel_model.specs.Configuring.{Verdict, TooLate, Judged, accepted_setup, without_parts, refused_setup, accepts_with, refuses, follows_verdict, judged_part, judged_read, judged_setup}
use Rattle.channel_model.specs.Answers.{configuration_answer}
use Rattle.channel_model.specs.Giving.{on_held, configuration_at}
use Rattle.own_channel_laws.specs.OwnTalk.{spoken, command_with, asked_between}
use Rattle.own_channel_laws.specs.Views.{peer_of, life_of, read_at, asked_mode}
use Rattle.channel_model.proofs.Lookups.{found-placed, find-placed, placed-again}
use Rattle.own_channel_laws.proofs.Sound.{AgreesIf, standing-is, refused-nothing, RepeatsIn, Repeats, part_of, Sound}
use Rattle.own_channel_laws.proofs.Moves.{Found, found-there}
use Rattle.own_channel_laws.proofs.Answering.{Alters, wishes-said, found-agrees}
use Rattle.own_channel_laws.proofs.Asking.{asked-one, newest-asks, closes-sound}
use Rattle.own_channel_laws.proofs.Questions.{exchange}
use Rattle.own_channel_laws.proofs.Consenting.{queries-stays, answers-first, repeats-now, remembers-sound, silent_memory, with_memory, asked-free, asked-queries}
use Rattle.own_channel_laws.proofs.Verdicts.{Asked, terms_of, answering, exchange-queries, Fits, plainly, refused-fits, refused-repeats, part-fits, or_again, whole-fits, set-repeats, open-set}

-- what a verdict leads to
abbrev pub Leads : Policy → Reading → Channels → Read → (identifier : ℕ) → Held → Setup → Verdict → Type 0
Leads policy r v one identifier held setup verdict =
    (let content : Content = configuration_answer verdict held.own in
    let w : Channels = follows_verdict verdict (policy.wish held.psm) held setup (answering identifier content v) in
    Sound policy (fold read_on r (exchange one identifier (Some content) ++ asked_between v w)) w)

-- ---- too late

too-late : (policy : Policy) (r : Reading) (v : Channels) (one : Read) (identifier : ℕ) (held : Held) (peer : ℕ) (setup : Setup) (octets : List ℕ) → Asked policy r v one identifier held peer setup octets → is_open setup ≡ true
    → Leads policy r v one identifier held setup (TooLate peer)
too-late policy r v one identifier held peer setup octets asked is =
    let found : Found policy held peer (read_at held.own r.entries) = found-there policy r.entries v.held v.next held peer asked.sound.core asked.talks.found asked.talks.peer_is in
    let part = part_of (terms_of held octets) peer 0 2 in
    queries-stays policy r v one identifier (Some (terms_of held octets)) (configuration_response peer 0 2 []) asked.queries asked.new
    (subst (λ h. Repeats h (read_at held.own r.entries) part) (sym asked.talks.found)
    (subst (λ e. Repeats (Some held) e part) (sym found.found_is)
    (subst (λ s. RepeatsIn s found.entry.setup part) (sym (standing-is held.stage setup asked.talks.setup_is))
    (λ unset. let never : true ≡ false = sym (open-set (policy.wish held.psm) setup found.entry.setup (found-agrees policy held peer setup (read_at held.own r.entries) asked.talks.setup_is found) is) ∙ unset in absurd cc))))
    asked.sound

-- ---- refused, and nothing follows

refused-plainly : (policy : Policy) (r : Reading) (v : Channels) (one : Read) (identifier : ℕ) (held : Held) (peer : ℕ) (setup after : Setup) (octets : List ℕ) (answer : ℕ) (given : List ℕ) → Asked policy r v one identifier held peer setup octets
    → eqb answer 0 ≡ false → after.own ≡ setup.own → after.carrier ≡ setup.carrier → after.parts.mode ≡ None
    → (let content : Content = configuration_response peer 0 answer given in let w : Channels = to_setup held after (answering identifier content v) in Sound policy (fold read_on r (exchange one identifier (Some content) ++ asked_between v w)) w)
refused-plainly policy r v one identifier held peer setup after octets answer given asked refuses own carrier none =
    let w : Channels = to_setup held after (answering identifier (configuration_response peer 0 answer given) v) in
    plainly policy r v w one identifier held peer setup after octets 0 answer given asked (refused-fits policy held peer answer octets setup after refuses own carrier none)
    (λ said agrees. refused-repeats held peer answer octets after said refuses none) refl refl refl refl

-- ---- refused for the third time

closes-free : (stage : Stage) (held : Held) (memory : Memory) (v : Channels) → closes_at stage NoAgreement held (with_memory memory v) ≡ with_memory memory (closes_at stage NoAgreement held v)
closes-free (Requested request) held memory v = refl
closes-free (Connected peer setup) held memory v = refl
closes-free (Leaving peer setup request) held memory v = refl
closes-free (Closing peer request checked) held memory v = refl
closes-free (Crossed peer request) held memory v = refl

-- what is held then
pub record Closed (v : Channels) (own peer : ℕ) (psm : ℕ) : Type 0 where
  pub after : Held
  pub found : find (has_own own) v.held ≡ Some after
  pub own_is : after.own ≡ own
  pub peer_is : peer_of after.stage ≡ Some peer
  pub setup_is : setup_of after.stage ≡ None

closes-found : (stage : Stage) (held before : Held) (peer : ℕ) (v : Channels) → peer_of stage ≡ Some peer → is_there (life_of stage) ≡ true → find (has_own held.own) v.held ≡ Some held → held.stage ≡ stage → Closed (closes_at stage NoAgreement held v) held.own peer held.psm
closes-found (Requested request) held before peer v at there found is = cc
closes-found (Connected own_peer setup) held before peer v at there found is = record { after = record held { stage = Closing own_peer (new_request v) (has_fcs_by setup) }; found = found-placed (let after : Held = record held { stage = Closing own_peer (new_request v) (has_fcs_by setup) } in after) held v.held found; own_is = refl; peer_is = at; setup_is = refl }
closes-found (Leaving own_peer setup request) held before peer v at there found is = record { after = record held { stage = Closing own_peer request (has_fcs_by setup) }; found = found-placed (let after : Held = record held { stage = Closing own_peer request (has_fcs_by setup) } in after) held v.held found; own_is = refl; peer_is = at; setup_is = refl }
closes-found (Closing own_peer request checked) held before peer v at there found is = record { after = held; found = found; own_is = refl; peer_is = ap peer_of is ∙ at; setup_is = ap setup_of is }
closes-found (Crossed own_peer request) held before peer v at there found is = cc

closes-memory : (stage : Stage) (held : Held) (v : Channels) → (closes_at stage NoAgreement held v).memory ≡ v.memory
closes-memory (Requested request) held v = refl
closes-memory (Connected peer setup) held v = refl
closes-memory (Leaving peer setup request) held v = refl
closes-memory (Closing peer request checked) held v = refl
closes-memory (Crossed peer request) held v = refl

refused-closing : (policy : Policy) (r : Reading) (v : Channels) (one : Read) (identifier : ℕ) (held : Held) (peer : ℕ) (setup after : Setup) (octets : List ℕ) (answer : ℕ) (given : List ℕ) → Asked policy r v one identifier held peer setup octets
    → eqb answer 0 ≡ false → after.own ≡ setup.own → after.carrier ≡ setup.carrier → after.parts.mode ≡ None
    → (let content : Content = configuration_response peer 0 answer given in
    let w : Channels = closes_at (stage_with after held.stage) NoAgreement (with_setup held after) (to_setup held after (answering identifier content v)) in
    Sound policy (fold read_on r (exchange one identifier (Some content) ++ asked_between v w)) w)
refused-closing policy r v one identifier held peer setup after octets answer given asked refuses own carrier none =
    let content : Content = configuration_response peer 0 answer given in
    let silent : Memory = silent_memory identifier v.memory in
    let before : Channels = to_setup held after (answering identifier content v) in
    let w : Channels = closes_at (stage_with after held.stage) NoAgreement (with_setup held after) before in
    let u : Channels = with_memory silent before in
    let past : Reading = fold read_on r (exchange one identifier (Some content)) in
    let first : Sound policy past u = answers-first policy r v u one identifier held peer setup after octets 0 answer given asked.queries asked.new asked.talks refl refl refl
    (refused-fits policy held peer answer octets setup after refuses own carrier none).agrees asked.sound in
    let here : find (has_own held.own) u.held ≡ Some (with_setup held after) = found-placed (with_setup held after) held v.held asked.talks.found in
    let closing : Sound policy (fold read_on past (asked_between u (closes_at (stage_with after held.stage) NoAgreement (with_setup held after) u))) (closes_at (stage_with after held.stage) NoAgreement (with_setup held after) u) =
    closes-sound policy past u (with_setup held after) peer NoAgreement (stage_with after held.stage) refl (asked.talks.peer_with after) here first in
    let free : closes_at (stage_with after held.stage) NoAgreement (with_setup held after) u ≡ with_memory silent w = closes-free (stage_with after held.stage) (with_setup held after) silent before in
    let moved : Sound policy (fold read_on past (asked_between v (with_memory silent w))) (with_memory silent w) = subst (λ x. Sound policy (fold read_on past (asked_between v x)) x) free closing in
    let last : Reading = fold read_on past (asked_between v w) in
    let second : Sound policy last (with_memory silent w) = subst (λ said. Sound policy (fold read_on past said) (with_memory silent w)) (asked-free v w silent) moved in
    let closed : Closed w held.own peer held.psm = closes-found (stage_with after held.stage) (with_setup held after) held peer before (asked.talks.peer_with after) (ap is_there (asked.talks.life_with after) ∙ asked.talks.there) here refl in
    let terms_is = ap (λ qs. query_terms (last_run (has_identifier identifier) qs)) (asked-queries past v w) ∙ exchange-queries policy r v one identifier held peer setup octets content asked in
    let repeated = repeats-now policy last (with_memory silent w) held.own peer 0 answer octets closed.after identifier terms_is closed.found closed.own_is closed.peer_is
    (λ said agrees. refused-nothing closed.after.stage said (part_of (terms_of held octets) peer 0 answer) closed.setup_is refuses) second given in
    subst (λ x. Sound policy x w) (sym (fold-append read_on r (exchange one identifier (Some content)) (asked_between v w)))
    (remembers-sound policy last (with_memory silent w) w identifier content v.memory refl refl refl (closes-memory (stage_with after held.stage) (with_setup held after) before) repeated second)

refused-unacceptable : (policy : Policy) (r : Reading) (v : Channels) (one : Read) (identifier : ℕ) (held : Held) (peer : ℕ) (setup : Setup) (octets given : List ℕ) → Asked policy r v one identifier held peer setup octets
    → (let content : Content = configuration_response peer 0 1 given in let w : Channels = refuses held (refused_setup setup) (answering identifier content v) in Sound policy (fold read_on r (exchange one identifier (Some content) ++ asked_between v w)) w)
refused-unacceptable policy r v one identifier held peer setup octets given asked = by (nat_le 3 (refused_setup setup).refused)
  where
    by : (third : Bool) → (let content : Content = configuration_response peer 0 1 given in
        let before : Channels = to_setup held (refused_setup setup) (answering identifier content v) in
        let w : Channels = cond third (closes_at (stage_with (refused_setup setup) held.stage) NoAgreement (with_setup held (refused_setup setup)) before) before in
        Sound policy (fold read_on r (exchange one identifier (Some content) ++ asked_between v w)) w)
    by true = refused-closing policy r v one identifier held peer setup (refused_setup setup) octets 1 given asked refl refl refl refl
    by false = refused-plainly policy r v one identifier held peer setup (refused_setup setup) octets 1 given asked refl refl refl refl

-- ---- accepted

accepted-asks : (policy : Policy) (r : Reading) (v : Channels) (one : Read) (identifier : ℕ) (held : Held) (peer : ℕ) (setup after : Setup) (octets : List ℕ) (given : List ℕ) → Asked policy r v one identifier held peer setup octets
    → Fits policy held peer 0 0 octets setup after → is_some after.carrier ≡ true
    → (let content : Content = configuration_response peer 0 0 given in
    let w : Channels = asks_options held after (first_options (policy.wish held.psm)) (answering identifier content v) in
    Sound policy (fold read_on r (exchange one identifier (Some content) ++ asked_between v w)) w)
accepted-asks policy r v one identifier held peer setup after octets given asked fits carrier =
    let content : Content = configuration_response peer 0 0 given in
    let wish : Wish = policy.wish held.psm in
    let options : Options = first_options wish in
    let silent : Memory = silent_memory identifier v.memory in
    let start : Channels = answering identifier content v in
    let request : Request = new_request v in
    let last_setup : Setup = record after { own = Asking request options } in
    let w : Channels = asks_options held after options start in
    let u : Channels = with_memory silent (to_setup held after start) in
    let past : Reading = fold read_on r (exchange one identifier (Some content)) in
    let first : Sound policy past u = answers-first policy r v u one identifier held peer setup after octets 0 0 given asked.queries asked.new asked.talks refl refl refl fits.agrees asked.sound in
    let alters : Alters u.held w.held (with_setup held after) (with_setup held last_setup) peer after last_setup = record {
      found = found-placed (with_setup held after) held v.held asked.talks.found;
      peer_is = asked.talks.peer_with after;
      setup_is = asked.talks.setup_with after;
      there = ap is_there (asked.talks.life_with after) ∙ asked.talks.there;
      found_after = found-placed (with_setup held last_setup) held v.held asked.talks.found;
      psm_after = refl;
      own_after = refl;
      peer_after = asked.talks.peer_with last_setup;
      life_after_is = asked.talks.life_with last_setup ∙ sym (asked.talks.life_with after);
      setup_after_is = asked.talks.setup_with last_setup;
      others = λ own apart. find-placed (with_setup held last_setup) v.held own apart ∙ sym (find-placed (with_setup held after) v.held own apart);
      lone = placed-again (with_setup held after) (with_setup held last_setup) v.held;
    } in
    let command : Command = command_with v.identifier (configuration_request peer 0 (written options)) in
    let said : asked_between v w ≡ spoken command ∷ [] =
    asked-one v w (Configuration held.own) command refl (newest-asks (Configuration held.own) (to_setup held last_setup start))
    (ap (on_held (λ h. configuration_at h.stage)) (found-placed (with_setup held last_setup) held v.held asked.talks.found) ∙ asked.talks.request_with last_setup) in
    let last : Reading = read_on past (spoken command) in
    let second : Sound policy last (with_memory silent w) =
    wishes-said policy past u (with_memory silent w) (with_setup held after) (with_setup held last_setup) peer after request options v.identifier (spoken command) refl alters refl refl (no_options, refl) first in
    let repeated = repeats-now policy last (with_memory silent w) held.own peer 0 0 octets (with_setup held last_setup) identifier
    (exchange-queries policy r v one identifier held peer setup octets content asked) alters.found_after refl (asked.talks.peer_with last_setup)
    (λ said_so agrees. subst (λ s. RepeatsIn s said_so (part_of (terms_of held octets) peer 0 0)) (sym (standing-is (stage_with last_setup held.stage) last_setup (asked.talks.setup_with last_setup)))
    (set-repeats wish last_setup said_so (part_of (terms_of held octets) peer 0 0) refl carrier (subst (λ s. AgreesIf wish s said_so) (standing-is (stage_with last_setup held.stage) last_setup (asked.talks.setup_with last_setup)) agrees)))
    second given in
    subst (λ rest. Sound policy (fold read_on r (exchange one identifier (Some content) ++ rest)) w) (sym said)
    (remembers-sound policy last (with_memory silent w) w identifier content v.memory refl refl refl refl repeated second)

accepted-by : (policy : Policy) (r : Reading) (v : Channels) (one : Read) (identifier : ℕ) (held : Held) (peer : ℕ) (setup after : Setup) (octets : List ℕ) (given : List ℕ) (own : Own) → after.own ≡ own → Asked policy r v one identifier held peer setup octets
    → Fits policy held peer 0 0 octets setup after → is_some after.carrier ≡ true
    → (let content : Content = configuration_response peer 0 0 given in
    let w : Channels = accepts_with own (policy.wish held.psm) held after (answering identifier content v) in
    Sound policy (fold read_on r (exchange one identifier (Some content) ++ asked_between v w)) w)
accepted-by policy r v one identifier held peer setup after octets given Unasked is asked fits carrier = accepted-asks policy r v one identifier held peer setup after octets given asked fits carrier
accepted-by policy r v one identifier held peer setup after octets given (Asking request options) is asked fits carrier =
    let w : Channels = to_setup held after (answering identifier (configuration_response peer 0 0 given) v) in
    plainly policy r v w one identifier held peer setup after octets 0 0 given asked fits
    (λ said agrees. set-repeats (policy.wish held.psm) after said (part_of (terms_of held octets) peer 0 0) (ap (λ o. is_some (asked_mode (policy.wish held.psm) o)) is) carrier agrees) refl refl refl refl
accepted-by policy r v one identifier held peer setup after octets given Granted is asked fits carrier =
    let w : Channels = accepts_with Granted (policy.wish held.psm) held after (answering identifier (configuration_response peer 0 0 given) v) in
    plainly policy r v w one identifier held peer setup after octets 0 0 given asked fits
    (λ said agrees. set-repeats (policy.wish held.psm) after said (part_of (terms_of held octets) peer 0 0) (ap (λ o. is_some (asked_mode (policy.wish held.psm) o)) is) carrier agrees) refl refl refl refl

-- ---- all rows

judged-answer : (policy : Policy) (r : Reading) (v : Channels) (one : Read) (identifier : ℕ) (held : Held) (peer : ℕ) (setup : Setup) (octets : List ℕ) (more : Options) (answer : ConfigAnswer) → Asked policy r v one identifier held peer setup octets
    → options_read octets ≡ Ok more → answer_on (policy.wish held.psm) (joined setup.parts more) ≡ answer → Leads policy r v one identifier held setup (Judged peer (joined setup.parts more) answer)
judged-answer policy r v one identifier held peer setup octets more (Accept given) asked is at =
    accepted-by policy r v one identifier held peer setup (accepted_setup (policy.wish held.psm) (joined setup.parts more) setup) octets (written given) setup.own refl asked (whole-fits policy held peer octets setup more given is at) refl
judged-answer policy r v one identifier held peer setup octets more (Unacceptable refusal given) asked is at = refused-unacceptable policy r v one identifier held peer setup octets (written given) asked
judged-answer policy r v one identifier held peer setup octets more Unknown asked is at =
    refused-plainly policy r v one identifier held peer setup (without_parts setup) octets 3 (joined setup.parts more).unknown asked refl refl refl refl

judged-part : (policy : Policy) (r : Reading) (v : Channels) (one : Read) (identifier : ℕ) (held : Held) (peer : ℕ) (setup : Setup) (octets : List ℕ) (more : Options) (part : Bool) → Asked policy r v one identifier held peer setup octets
    → options_read octets ≡ Ok more → Leads policy r v one identifier held setup (judged_part part peer (policy.wish held.psm) (joined setup.parts more))
judged-part policy r v one identifier held peer setup octets more true asked is =
    let after : Setup = record setup { parts = joined setup.parts more } in
    let w : Channels = to_setup held after (answering identifier (configuration_response peer 1 0 []) v) in
    plainly policy r v w one identifier held peer setup after octets 1 0 [] asked (part-fits policy held peer octets setup more is)
    (λ said agrees. λ unset. record { stated = more; read_is = is; again = or_again more.mode setup.parts.mode }) refl refl refl refl
judged-part policy r v one identifier held peer setup octets more false asked is =
    judged-answer policy r v one identifier held peer setup octets more (answer_on (policy.wish held.psm) (joined setup.parts more)) asked is refl

judged-read : (policy : Policy) (r : Reading) (v : Channels) (one : Read) (identifier : ℕ) (held : Held) (peer flags : ℕ) (setup : Setup) (octets : List ℕ) (found : Result Options ConfigRefusal) → Asked policy r v one identifier held peer setup octets
    → options_read octets ≡ found → Leads policy r v one identifier held setup (judged_read peer flags (policy.wish held.psm) setup found)
judged-read policy r v one identifier held peer flags setup octets (Ok more) asked is = judged-part policy r v one identifier held peer setup octets more (eqb (flags % 2) 1) asked is
judged-read policy r v one identifier held peer flags setup octets (Err refusal) asked is = refused-plainly policy r v one identifier held peer setup (without_parts setup) octets 2 [] asked refl refl refl refl

pub judged-setup : (policy : Policy) (r : Reading) (v : Channels) (one : Read) (identifier : ℕ) (held : Held) (peer flags : ℕ) (setup : Setup) (octets : List ℕ) → Asked policy r v one identifier held peer setup octets
    → Leads policy r v one identifier held setup (judged_setup peer flags (policy.wish held.psm) setup octets)
judged-setup policy r v one identifier held peer flags setup octets asked = by (is_open setup) refl
  where
    by : (open' : Bool) → is_open setup ≡ open' → Leads policy r v one identifier held setup (cond open' (TooLate peer) (judged_read peer flags (policy.wish held.psm) setup (options_read octets)))
    by true is = too-late policy r v one identifier held peer setup octets asked is
    by false is = judged-read policy r v one identifier held peer flags setup octets (options_read octets) asked refl
