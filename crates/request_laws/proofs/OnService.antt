-- Over L2CAP a client comes to be done by what it hears on a channel to a PSM that a service may have.
use Rattle.std.proofs.Common.{◌≡◌, ℕ, Bool, true, false, List, [], ◌∷◌, ◌++◌, Option, Some, None, refl, sym, ap, subst, ◌∙◌, if◌then◌else◌}
use Rattle.std.specs.List.{flat_map}
use Rattle.std.proofs.lemmas.Bool.{eq-eqb}
use Rattle.std.proofs.lemmas.List.Concat.{flat_map-append}
use Rattle.pair_laws.specs.bt_base.specs.declared.settings.Transport.{Transport}
use Rattle.pair_laws.specs.bt_base.specs.declared.settings.Transport.TheVariants.{L2cap}
use Rattle.pair_laws.specs.push_terms.specs.declared.outcome.Outcome.TheVariants.{Done}
use Rattle.pair_laws.specs.sdp_elements.specs.Targets.{is_service_psm}
use Rattle.pair_laws.specs.push_model.specs.Client.{Client, with_object}
use Rattle.pair_laws.specs.push_model.specs.Events as news
use Rattle.pair_laws.specs.push_model.specs.Events.{kept_of}
use Rattle.pair_laws.specs.push_model.specs.Laws.{Deed, Hears, Asks, Finishes, Cancels, done, all_done}
use Rattle.pair_laws.specs.push_model.specs.Shown.{way_of}
use Rattle.pair_laws.specs.push_laws.specs.Parties.{sdu_if}
use Rattle.pair_laws.specs.push_laws.specs.Success.{HearsSuccess}
use Rattle.pair_laws.specs.push_laws.proofs.OnObject.{same_psm}
use Rattle.pair_laws.specs.push_laws.proofs.Opening.{Walk, course_of, Stands, psm_over, behind_deed, deed_stands, opened_at}
use Rattle.pair_laws.specs.push_laws.proofs.Success.{done-exactly}
use Rattle.pair_laws.specs.push_model.specs.Responding.{is_object}
use Rattle.request_laws.specs.Streams.{heard_on}
use Rattle.request_laws.proofs.Pushes.{done_both}

-- the way of a push, behind some deeds
stand_all : (w : Walk) (deeds : List Deed) (client : Client) → Stands w client → (later : Walk) × (later.transport ≡ w.transport) × Stands later (all_done deeds client)
stand_all w [] client stands = (w, refl, stands)
stand_all w (deed ∷ deeds) client stands = let rest = stand_all (behind_deed w deed client) deeds (done deed client) (deed_stands w deed client stands) in (rest.0, rest.1, rest.2)

kept_fits : (found : Option ℕ) (number : ℕ) → kept_of is_service_psm found ≡ Some number → is_service_psm number ≡ true
kept_fits None number is = cc
kept_fits (Some one) number is = by (is_service_psm one) refl is
  where
    by : (held : Bool) → is_service_psm one ≡ held → (if held then Some one else None) ≡ Some number → is_service_psm number ≡ true
    by true holds same = let it : one ≡ number = cc in subst (λ (n : ℕ). is_service_psm n ≡ true) it holds
    by false fails same = cc

some_there : (xs ys : List (List ℕ)) (x : List ℕ) → xs ++ x ∷ ys ≡ [] → ⊥
some_there [] ys x is = cc
some_there (y ∷ xs) ys x is = cc

-- It heard something on a channel to such a PSM, on which it carries its object.
pub record DoneOn (deeds : List Deed) (begun : Client) : Type 0 where
  pub psm : ℕ
  pub service : is_service_psm psm ≡ true
  pub psm_is : (all_done deeds begun).psm ≡ psm
  pub heard : flat_map (heard_on psm) deeds ≡ [] → ⊥

module _ (client : Client) (name : List ℕ) (size : ℕ) (deeds : List Deed) (direct : client.transport ≡ L2cap) where
  abbrev begun : Client
  begun = with_object name size client

  told_on : (before after : List Deed) (psm : ℕ) (octets : List ℕ) → deeds ≡ before ++ Hears (news.Sdu psm octets) ∷ after → HearsSuccess (Hears (news.Sdu psm octets)) (all_done before begun) → DoneOn deeds begun
  told_on before after psm octets parts heard =
      let mid : Client = all_done before begun in
      let first : Walk = record { transport = client.transport; targets = []; taken = [] } in
      let stood = stand_all first before begun (record { same = refl; none = refl; is = refl }) in
      let works : is_object mid.stage ≡ true = ap is_object heard.stage in
      let names = (opened_at stood.0 mid.stage (course_of mid) works stood.2).names in
      let over : stood.0.transport ≡ L2cap = stood.1 ∙ direct in
      let named : kept_of is_service_psm names.target.l2cap ≡ Some names.number = ap (λ (t : Transport). way_of t names.target) (sym over) ∙ names.named in
      let number : psm ≡ names.number = heard.here ∙ (names.psm_is ∙ ap (λ (t : Transport). psm_over t names.number) over) in
      record {
        psm = psm;
        service = subst (λ (n : ℕ). is_service_psm n ≡ true) (sym number) (kept_fits names.target.l2cap names.number named);
        psm_is = ap (λ (l : List Deed). (all_done l begun).psm) parts
            ∙ (ap (λ (c : Client). c.psm) (done_both before (Hears (news.Sdu psm octets) ∷ after) begun) ∙ (same_psm (Hears (news.Sdu psm octets) ∷ after) mid works ∙ sym heard.here));
        heard = λ none. some_there (flat_map (heard_on psm) before) (flat_map (heard_on psm) after) octets
            (sym (ap (flat_map (heard_on psm)) parts ∙ (flat_map-append (heard_on psm) before (Hears (news.Sdu psm octets) ∷ after)
            ∙ ap (λ (here : Bool). flat_map (heard_on psm) before ++ (sdu_if here octets ++ flat_map (heard_on psm) after)) (eq-eqb psm psm refl))) ∙ none);
      }

  pub done_on : (all_done deeds (with_object name size client)).cause ≡ Some Done → DoneOn deeds (with_object name size client)
  done_on is = let heard = (done-exactly.done deeds begun refl).only is in by heard.before heard.deed heard.after heard.parts heard.heard
    where
      by : (before : List Deed) (deed : Deed) (after : List Deed) → deeds ≡ before ++ deed ∷ after → HearsSuccess deed (all_done before begun) → DoneOn deeds begun
      by before (Hears (news.Sdu psm octets)) after parts heard = told_on before after psm octets parts heard
      by before (Hears news.LinkUp) after parts heard = absurd heard
      by before (Hears (news.LinkDown reason)) after parts heard = absurd heard
      by before (Hears (news.LinkFailed status)) after parts heard = absurd heard
      by before (Hears (news.ChannelOpen psm mtu)) after parts heard = absurd heard
      by before (Hears (news.ChannelClosed psm cause)) after parts heard = absurd heard
      by before (Hears news.FeaturesTold) after parts heard = absurd heard
      by before (Hears news.FeaturesLost) after parts heard = absurd heard
      by before (Hears news.Timer) after parts heard = absurd heard
      by before (Asks parts') after parts heard = absurd heard
      by before Finishes after parts heard = absurd heard
      by before Cancels after parts heard = absurd heard
