-- A query that hears the reply of its server alone: it finds the service that the record names, and is never refused.
use Rattle.std.proofs.Common.{◌≡◌, ℕ, Bool, true, false, cond, not, ◌==◌, ◌++◌, List, length, Option, Some, None, inl, inr, refl, sym, ap, subst, ◌∙◌, arith}
use Rattle.std.specs.Prelude.{nat_lt, is_none}
use Rattle.request_laws.specs.bt_base.specs.declared.settings.Serves.{Serves}
use Rattle.request_laws.specs.bt_base.specs.declared.settings.Serves.TheVariants as serving
use Rattle.request_laws.specs.bt_base.specs.declared.settings.Settings.{Settings}
use Rattle.request_laws.specs.bt_base.specs.declared.settings.Transport.{Transport}
use Rattle.request_laws.specs.bt_base.specs.declared.settings.Transport.TheVariants.{L2cap, Rfcomm}
use Rattle.request_laws.specs.pair_laws.specs.sdp_client.specs.declared.query.Stage.{Stage}
use Rattle.request_laws.specs.pair_laws.specs.sdp_client.specs.declared.query.Stage.TheVariants as at
use Rattle.request_laws.specs.pair_laws.specs.sdp_client.specs.declared.reason.Found.{Found}
use Rattle.request_laws.specs.pair_laws.specs.sdp_client.specs.declared.reason.Found.TheVariants.{More, Service, Refused}
use Rattle.request_laws.specs.pair_laws.specs.sdp_client.specs.declared.reason.QueryReason.TheVariants.{WrongTransaction, TooLong}
use Rattle.request_laws.specs.pair_laws.specs.sdp_client.specs.Asking.{Asking, written, again}
use Rattle.request_laws.specs.pair_laws.specs.sdp_client.specs.Hearing.{ended, with_part, asks_on, found_in, stage_in, found_part, after_part, found_said, when_said, found_by, after_said, found_at, after_reply}
use Rattle.request_laws.specs.pair_laws.specs.sdp_client.specs.Laws.{served_target}
use Rattle.request_laws.specs.pair_laws.specs.sdp_client.specs.Replies.{PlainPart, PlainSaid, Gives, Failed, Nothing, said_in, is_of_another}
use Rattle.request_laws.specs.pair_laws.specs.sdp_client.proofs.Served.{finds_the_server}
use Rattle.request_laws.specs.pair_laws.specs.sdp_elements.specs.declared.target.Target.{Target}
use Rattle.request_laws.specs.pair_laws.specs.sdp_elements.specs.Targets.{target_in}
use Rattle.request_laws.specs.push_terms.specs.declared.outcome.Outcome.TheVariants.{NoService}
use Rattle.request_laws.specs.push_model.specs.Server.{reply_room}
use Rattle.request_laws.specs.push_model.specs.Shown.{way_of, found_shows}
use Rattle.request_laws.specs.push_laws.proofs.Lookups.{reply, reply_is}
use Rattle.request_laws.specs.push_laws.proofs.Searching.{IsFirst, query_at}
use Rattle.cause_laws.proofs.Clients.{Within}
use Rattle.cause_laws.proofs.Seeking.{AskedAgain}
use Rattle.blame_laws.specs.Blamed.{has_way}
use Rattle.blame_laws.proofs.Spared.{is_spared}

-- ---- a query that was not refused

abbrev pub is_refused : Stage → Bool
is_refused at.Due = false
is_refused at.Written = false
is_refused at.Again = false
is_refused at.Answered = false
is_refused (at.Refused reason) = true

abbrev pub IsUnrefused : Asking → Type 0
IsUnrefused query = is_refused query.stage ≡ false

written_same : (stage : Stage) → is_refused (written stage) ≡ is_refused stage
written_same at.Due = refl
written_same at.Written = refl
written_same at.Again = refl
written_same at.Answered = refl
written_same (at.Refused reason) = refl

again_same : (stage : Stage) → is_refused (again stage) ≡ is_refused stage
again_same at.Due = refl
again_same at.Written = refl
again_same at.Again = refl
again_same at.Answered = refl
again_same (at.Refused reason) = refl

pub unrefused_again : (q r : Asking) → AskedAgain q r → IsUnrefused q → IsUnrefused r
unrefused_again q r (inl same) well_so = ap (λ (x : Asking). is_refused x.stage) same ∙ well_so
unrefused_again q r (inr (inl same)) well_so = ap (λ (x : Asking). is_refused x.stage) same ∙ (written_same q.stage ∙ well_so)
unrefused_again q r (inr (inr same)) well_so = ap (λ (x : Asking). is_refused x.stage) same ∙ (again_same q.stage ∙ well_so)

-- ---- a reply with which it finds the service answers it

part_answers : (q : Asking) (part : PlainPart) (target : Target) → found_part q part ≡ Service target → IsUnrefused (after_part q part)
part_answers q part target = on (nat_lt 4096 (length (q.joined ++ part.octets))) (length part.continuation == 0) (target_in (q.joined ++ part.octets))
  where
    on : (long last : Bool) (found : Option Target) → cond long (Refused TooLong) (cond last (found_in found) More) ≡ Service target
        → IsUnrefused (cond long (ended q TooLong) (cond last (record (with_part q part) { stage = stage_in found }) (asks_on (with_part q part) part.continuation)))
    on true last found is = cc
    on false false found is = refl
    on false true None is = cc
    on false true (Some found) is = refl

said_answers : (q : Asking) (said : PlainSaid) (target : Target) → found_said q said ≡ Service target → IsUnrefused (when_said q said)
said_answers q (Gives part) target is = part_answers q part target is
said_answers q (Failed code) target is = cc
said_answers q Nothing target is = cc

service_answers : (q : Asking) (octets : List ℕ) (target : Target) → IsUnrefused q → found_by q octets ≡ Service target → IsUnrefused (after_said q octets)
service_answers q octets target well_so = by (is_of_another octets q.transaction)
  where
    by : (other : Bool) → cond other (Refused WrongTransaction) (found_said q (said_in octets)) ≡ Service target → IsUnrefused (cond other q (when_said q (said_in octets)))
    by true is = well_so
    by false is = said_answers q (said_in octets) target is

-- ---- the reply of the server

none_unless : (transport : Transport) (serves : Serves) → is_none (way_of transport (served_target serves)) ≡ not (has_way transport serves)
none_unless L2cap serving.Both = refl
none_unless L2cap serving.L2cap = refl
none_unless L2cap serving.Rfcomm = refl
none_unless Rfcomm serving.Both = refl
none_unless Rfcomm serving.L2cap = refl
none_unless Rfcomm serving.Rfcomm = refl

module _ (settings : Settings) where
  -- it blames nobody for it, and is as well behind it
  pub record TakesWell (query : Asking) (octets : List ℕ) : Type 0 where
    pub spared : Within (is_spared settings) (found_shows settings.transport (found_at query octets))
    pub well_so : IsUnrefused (after_reply query octets)

  named : found_at (query_at at.Written) (reply settings.serves) ≡ Service (served_target settings.serves)
  named = ap (found_at (query_at at.Written)) (reply_is settings.serves) ∙ finds_the_server settings.serves reply_room (omega arith)

  -- of no way where the record names none
  service_spared : Within (is_spared settings) (found_shows settings.transport (Service (served_target settings.serves)))
  service_spared = by (is_none (way_of settings.transport (served_target settings.serves))) (none_unless settings.transport settings.serves)
    where
      by : (none : Bool) → none ≡ not (has_way settings.transport settings.serves) → Within (is_spared settings) (cond none (Some NoService) None)
      by true is = sym is
      by false is = tt

  named_spared : Within (is_spared settings) (found_shows settings.transport (found_at (query_at at.Written) (reply settings.serves)))
  named_spared = subst (λ (found : Found). Within (is_spared settings) (found_shows settings.transport found)) (sym named) service_spared

  stage_well : (stage : Stage) → is_refused stage ≡ false → TakesWell (query_at stage) (reply settings.serves)
  stage_well at.Due well_so = record { spared = tt; well_so = refl }
  stage_well at.Written well_so = record { spared = named_spared; well_so = service_answers (query_at at.Written) (reply settings.serves) (served_target settings.serves) refl named }
  stage_well at.Again well_so = record { spared = named_spared; well_so = service_answers (query_at at.Again) (reply settings.serves) (served_target settings.serves) refl named }
  stage_well at.Answered well_so = record { spared = tt; well_so = refl }
  stage_well (at.Refused reason) well_so = absurd (let never : true ≡ false = well_so in cc)

  pub replied-well : (query : Asking) → IsFirst query → IsUnrefused query → TakesWell query (reply settings.serves)
  replied-well query first well_so =
      subst (λ (q : Asking). TakesWell q (reply settings.serves)) (sym first.1) (stage_well first.0 (ap (λ (q : Asking). is_refused q.stage) (sym first.1) ∙ well_so))
