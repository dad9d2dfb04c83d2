-- Own requests as they are said.
use Rattle.std.proofs.Common.{◌≡◌, ℕ, ◌+◌, List, [], ◌∷◌, ◌++◌, fold, map, Bool, true, false, cond, eqb, Some, refl, sym, ap, subst, ◌∙◌, arith}
use Rattle.std.specs.Prelude.{find, option_to_list}
use Rattle.std.specs.Option.{option_or}
use Rattle.std.proofs.lemmas.Bool.{eqb-true}
use Rattle.talk_laws.specs.l2cap_signal.specs.Commands.{Command, disconnection_request}
use Rattle.talk_laws.specs.link_talk.specs.declared.word.Word.TheVariants.{AsksEnd}
use Rattle.talk_laws.specs.link_talk.specs.Channels.{life_after, Reading, read_on}
use Rattle.channel_model.specs.declared.errand.Errand.{Errand}
use Rattle.channel_model.specs.declared.errand.Errand.TheVariants.{Configuration, Disconnection}
use Rattle.channel_model.specs.declared.event.CloseReason.{CloseReason}
use Rattle.channel_model.specs.Value.{Request, Queued, Answer, Ask, Setup, Stage, Requested, Connected, Leaving, Closing, Crossed, Held, Channels}
use Rattle.channel_model.specs.Policies.{Policy}
use Rattle.channel_model.specs.Changing.{has_own, has_fcs_by, to_stage, in_place_of, forgets}
use Rattle.channel_model.specs.Asking.{next_identifier, new_request, asks}
use Rattle.channel_model.specs.Closing.{closes_at}
use Rattle.channel_model.specs.Giving.{command_of, on_held, disconnection_at}
use Rattle.own_channel_laws.specs.OwnTalk.{spoken, command_with, asked_between, said_of, newest}
use Rattle.own_channel_laws.specs.Views.{peer_of, life_of, Shut, standing}
use Rattle.channel_model.proofs.Lookups.{own_of, Distinct, placed-distinct, found-placed, find-placed}
use Rattle.own_channel_laws.proofs.Sound.{Sound}
use Rattle.own_channel_laws.proofs.Moves.{SetupsTo, agrees-to, repeats-to, PartsTo}
use Rattle.own_channel_laws.proofs.Ending.{Leads, leads-said}
use Rattle.own_channel_laws.proofs.Questions.{asked-none}
use Rattle.own_channel_laws.proofs.Silent.{turns-sound}

-- ---- a new request is said

pub next-apart : (n : ℕ) → eqb (next_identifier n) n ≡ false
next-apart n = by (eqb n 255) refl (eqb (next_identifier n) n) refl
  where
    by : (last : Bool) → eqb n 255 ≡ last → (same : Bool) → eqb (next_identifier n) n ≡ same → same ≡ false
    by last at false is = refl
    by true at true is = let next : next_identifier n ≡ 1 = ap (λ t. cond t 1 (n + 1)) at in absurd (omega (arith, next, eqb-true (next_identifier n) n is, eqb-true n 255 at))
    by false at true is = let next : next_identifier n ≡ n + 1 = ap (λ t. cond t 1 (n + 1)) at in absurd (omega (arith, next, eqb-true (next_identifier n) n is))

pub newest-last : (queue : List Queued) (errand : Errand) → newest (queue ++ Ask errand ∷ []) ≡ Some errand
newest-last [] errand = refl
newest-last (Answer command ∷ queue) errand = newest-last queue errand
newest-last (Ask other ∷ queue) errand = ap (λ n. option_or n (Some other)) (newest-last queue errand)

pub newest-asks : (errand : Errand) (v : Channels) → newest (asks errand v).queue ≡ Some errand
newest-asks errand v = newest-last (forgets errand (record v { identifier = next_identifier v.identifier })).queue errand

pub asked-one : (v w : Channels) (errand : Errand) (command : Command) → w.identifier ≡ next_identifier v.identifier → newest w.queue ≡ Some errand → command_of errand w ≡ Some command → asked_between v w ≡ spoken command ∷ []
asked-one v w errand command is last says =
    ap (λ n. cond (eqb n v.identifier) [] (said_of (newest w.queue) w)) is
    ∙ (ap (λ t. cond t [] (said_of (newest w.queue) w)) (next-apart v.identifier)
    ∙ (ap (λ e. said_of e w) last ∙ ap (λ c. map spoken (option_to_list c)) says))

-- ---- the end is asked for

-- a channel whose end was asked for is closed without a word
silent-closing : (policy : Policy) (r : Reading) (v w : Channels) (held : Held) (peer : ℕ) (setup : Setup) (request : Request) → held.stage ≡ Leaving peer setup request → find (has_own held.own) v.held ≡ Some held
    → w.held ≡ map (in_place_of (let after : Held = record held { stage = Closing peer request (has_fcs_by setup) } in after)) v.held → w.next ≡ v.next → w.memory ≡ v.memory → Sound policy r v → Sound policy r w
silent-closing policy r v w held peer setup request is at held_is next_is memory_is sound =
    let after : Held = record held { stage = Closing peer request (has_fcs_by setup) } in
    let here : find (has_own held.own) w.held ≡ Some after = ap (find (has_own held.own)) held_is ∙ found-placed after held v.held at in
    let to : SetupsTo (standing held.stage) (Shut (has_fcs_by setup)) = subst (λ s. SetupsTo (standing s) (Shut (has_fcs_by setup))) (sym is) refl in
    let others : (own : ℕ) → eqb held.own own ≡ false → find (has_own own) w.held ≡ find (has_own own) v.held = λ own apart. ap (find (has_own own)) held_is ∙ find-placed after v.held own apart in
    turns-sound policy r v w held after peer (record {
      found = at;
      found_after = here;
      others = others;
      lone = λ distinct. subst (Distinct own_of) (sym held_is) (placed-distinct after v.held distinct);
      next_is = next_is;
      memory_is = memory_is;
      peer_is = ap peer_of is;
      peer_after = refl;
      life_after_is = sym (ap life_of is);
      psm_after = refl;
      own_after = refl;
      agrees = λ said agrees. agrees-to (policy.wish held.psm) (standing held.stage) (Shut (has_fcs_by setup)) said to agrees;
      repeats = λ said part repeats. repeats-to (standing held.stage) (Shut (has_fcs_by setup)) said part to repeats;
    }) sound

some_peer : (a b : ℕ) → Some a ≡ Some b → a ≡ b
some_peer a b is = cc

-- a channel that its host closes: what is asked then, if anything
pub closes-sound : (policy : Policy) (r : Reading) (v : Channels) (held : Held) (peer : ℕ) (reason : CloseReason) (stage : Stage) → held.stage ≡ stage → peer_of stage ≡ Some peer → find (has_own held.own) v.held ≡ Some held → Sound policy r v
    → (let w : Channels = closes_at stage reason held v in Sound policy (fold read_on r (asked_between v w)) w)
closes-sound policy r v held peer reason (Requested request) is peer_is at sound = cc
closes-sound policy r v held peer reason (Connected own_peer setup) is peer_is at sound =
    let w : Channels = closes_at (Connected own_peer setup) reason held v in
    let after : Held = record held { stage = Closing own_peer (new_request v) (has_fcs_by setup) } in
    let command : Command = command_with v.identifier (disconnection_request own_peer held.own) in
    let here : find (has_own held.own) w.held ≡ Some after = found-placed after held v.held at in
    let same : own_peer ≡ peer = some_peer own_peer peer peer_is in
    let leads : Leads v w held peer AsksEnd = record {
      others = λ own apart. find-placed after v.held own apart;
      lone = placed-distinct after v.held;
      to = subst (PartsTo held peer AsksEnd) (sym here) (refl, refl, peer_is, sym (ap (λ s. life_after (life_of s) (Some AsksEnd)) is), subst (λ s. SetupsTo (standing s) (Shut (has_fcs_by setup))) (sym is) refl);
      next_is = refl;
      memory_is = refl;
    } in
    subst (λ said. Sound policy (fold read_on r said) w) (sym (asked-one v w (Disconnection held.own) command refl (newest-asks (Disconnection held.own) (to_stage held (Closing own_peer (new_request v) (has_fcs_by setup)) (forgets (Configuration held.own) v))) (ap (on_held (λ h. disconnection_at h.stage h)) here)))
    (subst (λ n. Sound policy (read_on r (spoken (command_with v.identifier (disconnection_request n held.own)))) w) (sym same)
    (leads-said policy r v w held peer AsksEnd (spoken (command_with v.identifier (disconnection_request peer held.own))) refl at (ap peer_of is ∙ peer_is) leads sound))
closes-sound policy r v held peer reason (Leaving own_peer setup request) is peer_is at sound =
    let w : Channels = closes_at (Leaving own_peer setup request) reason held v in
    subst (λ said. Sound policy (fold read_on r said) w) (sym (asked-none v w refl)) (silent-closing policy r v w held own_peer setup request is at refl refl refl sound)
closes-sound policy r v held peer reason (Closing own_peer request checked) is peer_is at sound = subst (λ said. Sound policy (fold read_on r said) v) (sym (asked-none v v refl)) sound
closes-sound policy r v held peer reason (Crossed own_peer request) is peer_is at sound = subst (λ said. Sound policy (fold read_on r said) v) (sym (asked-none v v refl)) sound
