-- A client that found no service has sent nothing on a channel of an object.
use Rattle.std.proofs.Common.{inl, inr, ◌⊎◌, Bool, true, false, ◌≡◌, ◌==◌, ℕ, List, [], ◌∷◌, ◌++◌, Option, Some, None, refl, sym, ap, ap₂, subst, ◌∙◌, append_assoc, append-nil, if◌then◌else◌}
use Rattle.cause_laws.proofs.Clients.{never, is_unsaid, Within, within_more, either, Came, came_by}
use Rattle.cause_laws.proofs.Lacking.{is_search_end, Fares, is_other, unsaid_other, object_other, outside_other, fares_done}
use Rattle.tape_laws.specs.push_terms.specs.declared.outcome.Outcome.{Outcome}
use Rattle.tape_laws.specs.push_terms.specs.declared.outcome.Outcome.TheVariants.{NoService}
use Rattle.tape_laws.specs.push_model.specs.declared.course.Stage.{Stage}
use Rattle.tape_laws.specs.push_model.specs.Client.{Client}
use Rattle.tape_laws.specs.push_model.specs.Events as events
use Rattle.tape_laws.specs.push_model.specs.Laws.{Deed, Hears, Asks, Finishes, Cancels, done, all_done}
use Rattle.tape_laws.specs.push_model.specs.Responding.{is_object}
use Rattle.tape_laws.specs.push_model.specs.Shown.{shows, sdu_shows, object_shows, outside_shows}
use Rattle.tape_laws.specs.push_laws.specs.Sending.{packets_through, packets_by, packets_sent}
use Rattle.tape_laws.specs.push_laws.proofs.Late.{IsLate, by_late, anchor_of, all_late}
use Rattle.tape_laws.specs.push_laws.proofs.Talks.{object_of}
use Rattle.tape_laws.specs.host_laws.specs.Leaving.{is_off}
use Rattle.done_laws.proofs.Off.{off_shown}

-- ---- from the channel of its object on

-- no service is missed there
late_other : (deed : Deed) (c : Client) → IsLate c.stage → Within is_other (shows deed c)
late_other (Hears (events.Sdu psm sdu)) c late =
    by_late (λ (s : Stage). Within is_other (sdu_shows s psm sdu c))
    (either is_other (psm == c.psm) (object_shows c.transport sdu c) None (object_other c.transport sdu c) tt)
    (λ point. either is_other (psm == c.psm) (outside_shows c.transport) None (outside_other c.transport) tt) (λ point. tt) tt tt c.stage late
late_other (Hears events.LinkUp) c late = within_more is_unsaid is_other unsaid_other (shows (Hears events.LinkUp) c) (off_shown (Hears events.LinkUp) tt c)
late_other (Hears (events.LinkDown reason)) c late = within_more is_unsaid is_other unsaid_other (shows (Hears (events.LinkDown reason)) c) (off_shown (Hears (events.LinkDown reason)) tt c)
late_other (Hears (events.LinkFailed status)) c late = within_more is_unsaid is_other unsaid_other (shows (Hears (events.LinkFailed status)) c) (off_shown (Hears (events.LinkFailed status)) tt c)
late_other (Hears (events.ChannelOpen psm mtu)) c late = within_more is_unsaid is_other unsaid_other (shows (Hears (events.ChannelOpen psm mtu)) c) (off_shown (Hears (events.ChannelOpen psm mtu)) tt c)
late_other (Hears (events.ChannelClosed psm cause)) c late = within_more is_unsaid is_other unsaid_other (shows (Hears (events.ChannelClosed psm cause)) c) (off_shown (Hears (events.ChannelClosed psm cause)) tt c)
late_other (Hears events.FeaturesTold) c late = within_more is_unsaid is_other unsaid_other (shows (Hears events.FeaturesTold) c) (off_shown (Hears events.FeaturesTold) tt c)
late_other (Hears events.FeaturesLost) c late = within_more is_unsaid is_other unsaid_other (shows (Hears events.FeaturesLost) c) (off_shown (Hears events.FeaturesLost) tt c)
late_other (Hears events.Timer) c late = within_more is_unsaid is_other unsaid_other (shows (Hears events.Timer) c) (off_shown (Hears events.Timer) tt c)
late_other (Asks parts) c late = within_more is_unsaid is_other unsaid_other (shows (Asks parts) c) (off_shown (Asks parts) tt c)
late_other Finishes c late = within_more is_unsaid is_other unsaid_other (shows Finishes c) (off_shown Finishes tt c)
late_other Cancels c late = within_more is_unsaid is_other unsaid_other (shows Cancels c) (off_shown Cancels tt c)

came_other : (old new : Option Outcome) → Came is_other old new → (old ≡ Some NoService → ⊥) → new ≡ Some NoService → ⊥
came_other None new came not is = let other : Within is_other (Some NoService) = subst (Within is_other) is came in never other
came_other (Some outcome) new came not is = not (sym came ∙ is)

-- ---- what it sent

-- nothing, or it stands on the channel of its object or behind it, and found a service
abbrev Served : List (List ℕ) → Client → Type 0
Served sent c = (sent ≡ []) ⊎ (IsLate c.stage × (c.cause ≡ Some NoService → ⊥))

late_served : (deed : Deed) (c : Client) → IsLate c.stage → (c.cause ≡ Some NoService → ⊥) → IsLate (done deed c).stage × ((done deed c).cause ≡ Some NoService → ⊥)
late_served deed c late not = ((all_late (anchor_of c) (deed ∷ []) c (late, refl)).0, came_other c.cause (done deed c).cause (came_by is_other deed c (late_other deed c late)) not)

sends_or_late : (deed : Deed) (c : Client) → (packets_by deed c ≡ []) ⊎ (is_object c.stage ≡ true)
sends_or_late (Hears news) c = inl refl
sends_or_late (Asks parts) c = by (is_object c.stage) refl
  where
    by : (on : Bool) → is_object c.stage ≡ on → ((if on then packets_through c.transport c parts else []) ≡ []) ⊎ (is_object c.stage ≡ true)
    by true is = inr is
    by false is = inl refl
sends_or_late Finishes c = inl refl
sends_or_late Cancels c = inl refl

-- on the channel of its object it found a service
found_there : (c : Client) → is_object c.stage ≡ true → Fares c → c.cause ≡ Some NoService → ⊥
found_there c on fares is =
    let at = object_of c.stage on in
    elim (fares is) [ inl off ↦ never (sym (ap is_off at) ∙ off) | inr lacks ↦ never (sym (ap is_search_end at) ∙ lacks.stage) ]

served_more : (deed : Deed) (c : Client) (sent : List (List ℕ)) → Fares c → Served sent c → Served (sent ++ packets_by deed c) (done deed c)
served_more deed c sent fares (inr late) = inr (late_served deed c late.0 late.1)
served_more deed c sent fares (inl none) = elim (sends_or_late deed c) [
  | inl quiet ↦ inl (ap₂ (λ (a b : List (List ℕ)). a ++ b) none quiet)
  | inr on ↦ inr (late_served deed c (subst IsLate (sym (object_of c.stage on)) tt) (found_there c on fares))
]

all_served : (deeds : List Deed) (c : Client) (sent : List (List ℕ)) → Fares c → Served sent c → Served (sent ++ packets_sent deeds c) (all_done deeds c)
all_served [] c sent fares served = subst (λ (ps : List (List ℕ)). Served ps c) (sym (append-nil sent)) served
all_served (deed ∷ deeds) c sent fares served =
    subst (λ (ps : List (List ℕ)). Served ps (all_done deeds (done deed c))) (append_assoc sent (packets_by deed c) (packets_sent deeds (done deed c)))
    (all_served deeds (done deed c) (sent ++ packets_by deed c) (fares_done deed c fares) (served_more deed c sent fares served))

pub unserved_sends_none : (deeds : List Deed) (c : Client) → c.cause ≡ None → (all_done deeds c).cause ≡ Some NoService → packets_sent deeds c ≡ []
unserved_sends_none deeds c none is = elim (all_served deeds c [] (λ was. (let never_so : None ≡ Some NoService = sym none ∙ was in absurd cc)) (inl refl)) [
  | inl nothing ↦ nothing
  | inr late ↦ absurd (late.1 is)
]
