-- A push that is cancelled in its search closes the channel of that at once, where its channels have no PDU and its SDU was sent.
use Rattle.std.proofs.Common.{◌≡◌, ℕ, List, Bool, true, false, cond, Option, Some, None, refl, sym, ap, subst, ◌∙◌}
use Rattle.std.specs.Prelude.{is_some}
use Rattle.shelf_model.specs.bt_base.specs.declared.settings.Settings.{Settings}
use Rattle.shelf_model.specs.push_terms.specs.declared.outcome.Outcome.{Outcome}
use Rattle.shelf_model.specs.push_terms.specs.declared.outcome.Outcome.TheVariants as outcomes
use Rattle.channel_laws.specs.channel_model.specs.Giving.{next_given}
use Rattle.push_laws.specs.push_model.specs.declared.course.Point.TheVariants.{Due}
use Rattle.push_laws.specs.push_model.specs.declared.course.Stage.{Stage}
use Rattle.push_laws.specs.push_model.specs.declared.course.Stage.TheVariants.{Search, SearchEnd}
use Rattle.push_laws.specs.push_model.specs.Client.{Client, in_order, at_once, ends_by, ends, may_cancel}
use Rattle.push_laws.specs.push_model.specs.Events.{is_search}
use Rattle.push_laws.specs.push_model.specs.Steps as course
use Rattle.push_laws.specs.push_model.specs.Steps.{Stepped, steps}
use Rattle.shelf_model.specs.host_model.specs.Circumstances.{Circumstance, parts_in}
use Rattle.shelf_model.specs.host_model.specs.Profiles.{Profile}
use Rattle.shelf_model.specs.host_model.specs.Hosts.{Host, drives, goes_on, goes_by, settles, most_steps, most_said}
use Rattle.shelf_model.specs.host_model.specs.Clients as clients
use Rattle.shelf_model.specs.host_model.specs.Clients.{ClientProfile, client_profile, ended, sent_on, takes, fitted}
use Rattle.shelf_model.specs.host_model.proofs.Keeping.{tells, drives_on}
use Rattle.shelf_model.specs.host_model.specs.Shelves.{unused}
use Rattle.host_laws.specs.Leaving.{is_off}
use Rattle.host_laws.specs.SearchOrder.{SearchesInOrder, IsSent, CancelsInOrder}
use Rattle.host_laws.proofs.SearchingTold.{ended_same}
use Rattle.host_laws.proofs.SearchOrder.{at_once_so, order_so, search_at, lacking}
use Rattle.host_laws.proofs.SearchKept.{Q, keeps_search, ended_so}

module _ (settings : Settings) (circumstances : List Circumstance) (host : Host ClientProfile) where
  abbrev A : Profile ClientProfile
  A = client_profile settings

  abbrev c : Client
  c = host.profile.client

  -- the host once its push is told, with that client
  abbrev told_with : Client → Host ClientProfile
  told_with d = record host { profile = record (host.profile) { parts = parts_in circumstances; client = d }; may_say = most_said }

  abbrev told_by : ClientProfile → Host ClientProfile
  told_by q = record host { profile = q; may_say = most_said }

  in_order_still : (d : Client) → SearchesInOrder d → Q (drives A most_steps (told_with (ended d))).profile
  in_order_still d so = drives_on A Q (keeps_search settings) most_steps (told_with (ended d)) (ended_so d so)

  module _ (none : next_given host.channels ≡ None) where
    -- it closes its channel
    closes_so : (q : ClientProfile) → q.client.stage ≡ SearchEnd Due → q.client.failed ≡ false → q.client.given ≡ false → Q (goes_on A (λ next. drives A 3 next) (told_by q)).profile
    closes_so q at works free = subst (λ b. G b (steps q.client (fitted q))) (sym (ap is_some none)) (subst (G false) (sym is) closed)
      where
        G : Bool → Stepped → Type 0
        G b one = Q (cond b (told_by q) (goes_by A (λ next. drives A 3 next) (takes one.step host.channels (record q { client = one.client; parts = unused one.left q.parts }) q) (told_by q))).profile

        one : Stepped
        one = course.steps_at (SearchEnd Due) q.client (fitted q)

        is : steps q.client (fitted q) ≡ one
        is = ap (λ b. cond b (lacking q.client (fitted q)) (cond q.client.given (course.rests q.client (fitted q)) (course.steps_at q.client.stage q.client (fitted q)))) works
            ∙ (ap (λ b. cond b (course.rests q.client (fitted q)) (course.steps_at q.client.stage q.client (fitted q))) free
            ∙ ap (λ (stage : Stage). course.steps_at stage q.client (fitted q)) at)

        closed : G false one
        closed =
            let stride = takes one.step host.channels (record q { client = one.client; parts = unused one.left q.parts }) q in
            let after : Host ClientProfile = record host { channels = stride.channels; profile = stride.profile; may_say = most_said } in
            drives_on A Q (keeps_search settings) 3 _ (tells A Q (keeps_search settings) after tt)

    -- its SDU was sent
    settled_so : (d : Client) → d.stage ≡ SearchEnd Due → d.failed ≡ false → IsSent host.profile.submitted host.channels d.given → Q (goes_on A (λ next. drives A 3 next) (settles A (told_with d))).profile
    settled_so d at works sent = by host.profile.submitted sent
      where
        p : ClientProfile
        p = record (host.profile) { parts = parts_in circumstances; client = d }

        by : (submitted : Option ℕ) → IsSent submitted host.channels d.given → Q (goes_on A (λ next. drives A 3 next) (told_by (sent_on submitted host.channels p))).profile
        by None free = closes_so p at works free
        by (Some own) gone =
            subst (λ b. Q (goes_on A (λ next. drives A 3 next) (told_by (cond b p (clients.done (record p { submitted = None }))))).profile) (sym gone)
            (closes_so (clients.done (record p { submitted = None })) at works refl)

    drives_so : (d : Client) → d.stage ≡ SearchEnd Due → d.failed ≡ false → IsSent host.profile.submitted host.channels d.given → Q (drives A 4 (told_with d)).profile
    unfolding drives
    drives_so d at works sent = settled_so d at works sent

    module _ (works : c.stage ≡ Search → (c.failed ≡ false) × IsSent host.profile.submitted host.channels c.given) (so : SearchesInOrder c) where
      first : (searches : Bool) → is_search c.stage ≡ searches → (let d : Client = record c { cause = Some outcomes.Cancelled; stage = in_order c.stage } in Q (drives A most_steps (told_with (ended d))).profile)
      first true is =
          let d : Client = record c { cause = Some outcomes.Cancelled; stage = in_order c.stage } in
          let at = search_at c.stage is in
          let two = works at in
          subst (λ (e : Client). Q (drives A most_steps (told_with e)).profile) (sym (ended_same d (ap (λ (stage : Stage). is_off (in_order stage)) at)))
          (drives_so d (ap in_order at) two.0 two.1)
      first false is =
          let d : Client = record c { cause = Some outcomes.Cancelled; stage = in_order c.stage } in
          in_order_still d (order_apart is)
        where
          order_apart : is_search c.stage ≡ false → (let d : Client = record c { cause = Some outcomes.Cancelled; stage = in_order c.stage } in SearchesInOrder d)
          order_apart other = order_so c.stage c.query (λ at. let never : true ≡ false = sym (ap is_search at) ∙ other in cc) so

      by_cause : (cause : Option Outcome) → Q (drives A most_steps (told_with (ended (ends_by cause outcomes.Cancelled c)))).profile
      by_cause None = first (is_search c.stage) refl
      by_cause (Some earlier) = let d : Client = record c { stage = at_once c.stage } in in_order_still d (at_once_so c.stage c.query so)

      chosen : (b : Bool) → Q (drives A most_steps (told_with (ended (cond b (ends outcomes.Cancelled c) c)))).profile
      chosen true = by_cause c.cause
      chosen false = in_order_still c so

pub cancels_in_order : CancelsInOrder
cancels_in_order settings circumstances host none works so = chosen settings circumstances host none works so (may_cancel host.profile.client)
