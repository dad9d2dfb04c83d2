-- Channels that are only asked for: of the endpoints that were given, none comes to be so again.
use Rattle.std.proofs.Common.{◌≡◌, ℕ, ◌+◌, ◌<◌, ◌≤◌, List, [], ◌∷◌, ◌++◌, Bool, true, false, cond, eqb, Option, Some, None, refl, sym, ap, subst, ◌∙◌, arith}
use Rattle.std.specs.Prelude.{find, nat_lt, option_map}
use Rattle.std.proofs.lemmas.Bool.{eqb-true, ltb-false, ltb-true}
use Rattle.talk_laws.specs.l2cap_signal.specs.Commands.{connection_request}
use Rattle.talk_laws.specs.l2cap_config.specs.declared.wish.Wish.{Wish}
use Rattle.talk_laws.specs.link_talk.specs.Sayings.{Saying}
use Rattle.talk_laws.specs.link_talk.specs.Channels.{reading}
use Rattle.channel_model.specs.declared.event.ChannelEvent.{ChannelEvent}
use Rattle.channel_model.specs.Value.{Request, Carrier, no_setup, Stage, Requested, Connected, Leaving, Closing, Crossed, Held, Channels}
use Rattle.channel_model.specs.Policies.{Policy}
use Rattle.channel_model.specs.Changing.{has_own, held_at}
use Rattle.channel_model.specs.Following.{with_channel, follows}
use Rattle.channel_model.specs.Answers.{connection_result}
use Rattle.channel_model.proofs.Going.{staged, StageGoes, Moves, new_held, Walks}
use Rattle.own_channel_laws.proofs.Inviting.{held_here, held_others}
use Rattle.own_channel_laws.proofs.Sound.{Sound}
use Rattle.own_channel_laws.proofs.Converses.{IsAlike}

-- it is at that endpoint
abbrev pub IsDue : ℕ → Channels → Type 0
IsDue own v = (held : Held) × (request : Request) × (held_at own v ≡ Some held) × (held.stage ≡ Requested request)

-- of the endpoints that were given, what is only asked for later was so before
pub record KeepsDue (v w : Channels) : Type 0 where
  pub next_is : v.next ≤ w.next
  pub due : (own : ℕ) → own < v.next → IsDue own w → IsDue own v

pub same-due : (v w : Channels) → w.held ≡ v.held → w.next ≡ v.next → KeepsDue v w
same-due v w held_is next_is = record { next_is = omega (arith, next_is); due = λ own under (held, request, found, is). (held, request, ap (find (has_own own)) (sym held_is) ∙ found, is) }

pub apart : (own next : ℕ) → own < next → eqb next own ≡ false
apart own next less = by (eqb next own) refl
  where
    by : (b : Bool) → eqb next own ≡ b → b ≡ false
    by false is = refl
    by true is = let same : next ≡ own = eqb-true next own is in absurd (omega (arith, same, less))

made_due : (v w : Channels) (psm : ℕ) (stage : Stage) → w.held ≡ v.held ++ new_held psm v.next stage ∷ [] → w.next ≡ v.next + 1 → KeepsDue v w
made_due v w psm stage held_is next_is = record {
  next_is = omega (arith, next_is);
  due = λ own under (held, request, found, is). (held, request, sym (held_others v.held (new_held psm v.next stage) own (apart own v.next under)) ∙ (ap (find (has_own own)) (sym held_is) ∙ found), is);
}

abbrev pub Any : Carrier → Carrier → Type 0
Any before after = Unit {0}

due_stage : (wish : Wish) (before : Stage) (request : Request) (closed : Bool) → StageGoes wish Any before (Some (Requested request)) closed → (earlier : Request) × (before ≡ Requested earlier)
due_stage wish (Requested earlier) request closed goes = (earlier, refl)
due_stage wish (Connected peer setup) request closed goes = absurd goes
due_stage wish (Leaving peer setup other) request closed goes = absurd goes
due_stage wish (Closing peer other checked) request closed goes = absurd goes
due_stage wish (Crossed peer other) request closed goes = absurd goes

moves_due : (policy : Policy) (v w : Channels) (held : Held) (stage : Option Stage) (more : List ChannelEvent) → Moves policy Any v w held stage more → KeepsDue v w
moves_due policy v w held stage more moves = record { next_is = omega (arith, moves.next_is); due = λ own under due. by own due (eqb held.own own) refl }
  where
    here : (s : Option Stage) (after : Held) (request : Request) (closed : Bool) → option_map (staged held) s ≡ Some after → after.stage ≡ Requested request → StageGoes (policy.wish held.psm) Any held.stage s closed → (earlier : Request) × (held.stage ≡ Requested earlier)
    here None after request closed is due goes = cc
    here (Some now) after request closed is due goes =
        let same : staged held now ≡ after = cc in
        let now_is : now ≡ Requested request = ap (λ (h : Held). h.stage) same ∙ due in
        due_stage (policy.wish held.psm) held.stage request closed (subst (λ (s : Stage). StageGoes (policy.wish held.psm) Any held.stage (Some s) closed) now_is goes)

    by : (own : ℕ) → IsDue own w → (same : Bool) → eqb held.own own ≡ same → IsDue own v
    by own (after, request, found, due) true is =
        let own_is : own ≡ held.own = sym (eqb-true held.own own is) in
        let (earlier, was) = here stage after request _ (sym moves.becomes ∙ (ap (λ n. held_at n w) (sym own_is) ∙ found)) due moves.goes in (held, earlier, ap (λ n. held_at n v) own_is ∙ moves.found, was)
    by own (after, request, found, due) false is = (after, request, sym (moves.others own is) ∙ found, due)

pub walks : (policy : Policy) → Walks policy Any KeepsDue
walks policy = record {
  same = λ carrier. tt;
  still = λ v w held_is next_is events_are. same-due v w held_is next_is;
  tells = λ v w event held_is next_is events_are other. same-due v w held_is next_is;
  both = λ v u w first second. record { next_is = let one = first.next_is in let two = second.next_is in omega (arith, one, two); due = λ own under due. first.due own under (second.due own (let one = first.next_is in omega (arith, under, one)) due) };
  made = λ v w psm stage first held_is next_is events_are. made_due v w psm stage held_is next_is;
  moves = λ v w held after more moves. moves_due policy v w held after more moves;
}

-- whatever is only asked for was so before
abbrev pub AllWereDue : (v w : Channels) → Type 0
AllWereDue v w = (own : ℕ) → IsDue own w → IsDue own v

pub within : (v : Channels) (own : ℕ) → ((n : ℕ) → v.next ≤ n → held_at n v ≡ None) → IsDue own v → own < v.next
within v own below (held, request, found, is) = by (nat_lt own v.next) refl
  where
    by : (b : Bool) → nat_lt own v.next ≡ b → own < v.next
    by true less = ltb-true own v.next less
    by false less = let none : held_at own v ≡ None = below own (ltb-false own v.next less) in let never : None ≡ Some held = sym none ∙ found in absurd cc

pub all-due : (policy : Policy) (past : List Saying) (v w : Channels) → Sound policy (reading past) w → KeepsDue v w → w.next ≡ v.next → AllWereDue v w
all-due policy past v w sound keeps next_is own due = keeps.due own (subst (λ n. own < n) next_is (within w own sound.core.held_below due)) due

-- a channel that the peer asks for is there at once
pub granted-due : (policy : Policy) (v u : Channels) (psm source : ℕ) → IsAlike v u → find (has_own u.next) u.held ≡ None → AllWereDue v (follows policy (connection_request psm source) u)
granted-due policy v u psm source alike none own = by (eqb (connection_result policy psm source u) 0)
  where
    old : IsDue own u → IsDue own v
    old (held, request, found, is) = (held, request, ap (find (has_own own)) (sym alike.held_is) ∙ found, is)

    new : Held
    new = new_held psm u.next (Connected source no_setup)

    at : (here : Bool) → eqb u.next own ≡ here → IsDue own (with_channel psm (Connected source no_setup) u) → IsDue own v
    at true is (held, request, found, due) =
        let both : Some new ≡ Some held = sym (held_here u.held new none) ∙ (ap (λ n. find (has_own n) (u.held ++ new ∷ [])) (eqb-true u.next own is) ∙ found) in
        let same : new ≡ held = cc in
        let never : Connected source no_setup ≡ Requested request = ap (λ (h : Held). h.stage) same ∙ due in absurd cc
    at false is (held, request, found, due) = old (held, request, sym (held_others u.held new own is) ∙ found, due)

    by : (zero : Bool) → IsDue own (cond zero (with_channel psm (Connected source no_setup) u) u) → IsDue own v
    by true due = at (eqb u.next own) refl due
    by false due = old due
