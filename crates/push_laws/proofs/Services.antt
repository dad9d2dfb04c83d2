-- A service behind one packet more, and behind octets that begin none.
use Rattle.std.proofs.Common.{Bool, true, false, ◌||◌, ◌+◌, ◌≤◌, ◌≡◌, ℕ, List, [], ◌∷◌, ◌++◌, Option, None, Err, arith, refl, sym, ap, subst, ◌∙◌, append-nil}
use Rattle.std.proofs.lemmas.Bool.{cond_both, cond-true, cond-false, or_from}
use Rattle.link_talk.specs.bt_base.specs.declared.settings.Transport.{Transport}
use Rattle.link_talk.specs.bt_base.specs.declared.settings.Transport.TheVariants.{L2cap, Rfcomm}
use Rattle.link_talk.specs.bt_base.specs.Objects.{Object}
use Rattle.push_model.specs.obex_headers.specs.declared.fault.ObexRefusal.{ObexRefusal}
use Rattle.push_model.specs.obex_headers.specs.declared.packet.Phase.TheVariants.{Request}
use Rattle.push_model.specs.obex_headers.specs.Packets.{PlainPacket}
use Rattle.push_model.specs.obex_headers.specs.Reading.{packet_in}
use Rattle.push_model.specs.obex_headers.specs.Runs.{put_of, run_headers, objects_from}
use Rattle.push_model.specs.obex_session.specs.Marks.{kind_of}
use Rattle.push_model.specs.obex_session.specs.Past.{put_heard, open_from, pending_of}
use Rattle.push_model.specs.obex_session.specs.Serving.{has_name}
use Rattle.push_laws.specs.Faults.{counted, faults_of, fails_at, is_refused}
use Rattle.push_model.specs.Sessions.{Sessions, Gift, other_of, lets_go, is_naming, hears}
use Rattle.push_model.specs.Service.{Service, Served, response_over, after_heard, is_ignored, hears_packet, parts}
use Rattle.push_laws.proofs.Sessions.{Pasts, pending, Stands, StandsAfter, Adds, gain, run_of, headers_behind, gone, gone_paid, heard}

-- ---- a service

-- nothing failed, and its sessions stand for what was heard
abbrev pub Serves : (Transport → ℕ) → Pasts → List Object → Service → Gift → Type 0
Serves most past stored service gift = StandsAfter most past stored service.sessions gift service.failed

over_sessions : (t : Transport) (response : List ℕ) (service : Service) → (response_over t response service).sessions ≡ service.sessions
over_sessions L2cap [] service = refl
over_sessions Rfcomm [] service = refl
over_sessions L2cap (octet ∷ octets) service = refl
over_sessions Rfcomm (octet ∷ octets) service = refl

over_failed : (t : Transport) (response : List ℕ) (service : Service) → (response_over t response service).failed ≡ service.failed
over_failed L2cap [] service = refl
over_failed Rfcomm [] service = refl
over_failed L2cap (octet ∷ octets) service = refl
over_failed Rfcomm (octet ∷ octets) service = refl

serves_with : (most : Transport → ℕ) (past : Pasts) (stored : List Object) (sessions sessions' : Sessions) (gift : Gift) (short failed failed' : Bool) → StandsAfter most past stored sessions gift short → failed ≡ false
    → sessions' ≡ sessions → failed' ≡ (failed || short) → StandsAfter most past stored sessions' gift failed'
serves_with most past stored sessions sessions' gift short failed failed' s sound same is = record {
  stands = subst (λ (x : Sessions). Stands most past stored x gift.content) (sym same) s.stands;
  none_short = s.none_short;
  enough = is ∙ or_from failed short sound s.enough;
}

-- the object of a transport is let go
pub let_go_of : (most : Transport → ℕ) (past past' : Pasts) (t : Transport) (stored : List Object) (service : Service) (gift : Gift) → Serves most past stored service gift
    → pending most past' t ≡ None → past' (other_of t) ≡ past (other_of t) → Serves most past' stored (parts t service gift).service (parts t service gift).gift
let_go_of most past past' t stored service gift s cleared there =
    let parted = lets_go t service.sessions gift in
    serves_with most past' stored parted.sessions parted.sessions parted.gift parted.short service.failed _ (gone most past past' t stored service.sessions gift s.stands s.none_short cleared there) s.enough refl refl

pub let_go_paid : (t : Transport) (service : Service) (gift : Gift) → faults_of (parts t service gift).gift.answers ≤ faults_of gift.answers
let_go_paid t service gift = gone_paid t service.sessions gift

-- a packet came, and counts as refused or not: that takes a fault, or it was ignored
pub record ServedAs (most : Transport → ℕ) (past : Pasts) (t : Transport) (packet : List ℕ) (stored : List Object) (gift : Gift) (refuses : Bool) (ignored : ℕ) (service' : Service) (gift' : Gift) : Type 0 where
  pub refused : Bool
  pub is : refused ≡ refuses
  pub serves : (past' : Pasts) → Adds t (packet, refused) past past' → Serves most past' (stored ++ gain most past t (packet, refused)) service' gift'
  pub paid : faults_of gift'.answers + counted refused ≤ faults_of gift.answers + ignored

after_hearing : (most : Transport → ℕ) (past : Pasts) (t : Transport) (packet : List ℕ) (stored : List Object) (service : Service) (gift : Gift) → Serves most past stored service gift
    → (is_naming t packet service.sessions ≡ true → pending most past (other_of t) ≡ None)
    → let served = after_heard t service (hears t packet service.sessions gift) in ServedAs most past t packet stored gift (fails_at t packet service gift.answers) 0 served.service served.gift
after_hearing most past t packet stored service gift s alone =
    let h = hears t packet service.sessions gift in
    let before : Service = record service { sessions = h.sessions; failed = service.failed || h.short } in
    let then = heard most past t packet stored service.sessions gift s.stands s.none_short alone in
    record {
      refused = then.failed;
      is = then.is;
      serves = λ past' adds.
          serves_with most past' (stored ++ gain most past t (packet, then.failed)) h.sessions _ h.gift h.short service.failed _ (then.stands past' adds) s.enough (over_sessions t h.response before) (over_failed t h.response before);
      paid = (let paid = then.paid in omega arith);
    }

-- ignored or not
pub packet_heard : (most : Transport → ℕ) (past : Pasts) (t : Transport) (packet : List ℕ) (stored : List Object) (service : Service) (gift : Gift) → Serves most past stored service gift
    → (is_naming t packet service.sessions ≡ true → pending most past (other_of t) ≡ None)
    → ServedAs most past t packet stored gift (is_refused t packet service gift.answers) (counted (is_ignored t packet service)) (hears_packet t packet service gift).service (hears_packet t packet service gift).gift
packet_heard most past t packet stored service gift s alone = by (is_ignored t packet service) refl
  where
    by : (ignored : Bool) → is_ignored t packet service ≡ ignored
        → ServedAs most past t packet stored gift (is_refused t packet service gift.answers) (counted (is_ignored t packet service)) (hears_packet t packet service gift).service (hears_packet t packet service gift).gift
    by true is =
        subst (λ (served : Served). ServedAs most past t packet stored gift (is_refused t packet service gift.answers) (counted (is_ignored t packet service)) served.service served.gift)
        (sym (cond-true _ _ _ is))
        (record {
          refused = true;
          is = sym (ap (λ (b : Bool). b || fails_at t packet service gift.answers) is);
          serves = λ past' adds. subst (λ (os : List Object). Serves most past' os (parts t service gift).service (parts t service gift).gift) (sym (append-nil stored))
              (let_go_of most past past' t stored service gift s (ap pending_of (headers_behind most past past' t (packet, true) adds)) adds.there);
          paid = (let paid = let_go_paid t service gift in let one = ap counted is in omega (arith, paid, one));
        })
    by false is =
        let then = after_hearing most past t packet stored service gift s alone in
        subst (λ (served : Served). ServedAs most past t packet stored gift (is_refused t packet service gift.answers) (counted (is_ignored t packet service)) served.service served.gift)
        (sym (cond-false _ _ _ is))
        (record {
          refused = then.refused;
          is = then.is ∙ sym (ap (λ (b : Bool). b || fails_at t packet service gift.answers) is);
          serves = then.serves;
          paid = (let paid = then.paid in omega (arith, paid));
        })

-- ---- octets that begin no packet

no_put : (most : Transport → ℕ) (t : Transport) (octets : List ℕ) (failed : Bool) (refusal : ObexRefusal) → packet_in Request (most t) octets ≡ Err refusal → put_heard (most t) (octets, failed) ≡ None
no_put most t octets true refusal e = refl
no_put most t octets false refusal e = ap put_of e

nothing_gained : (most : Transport → ℕ) (past : Pasts) (t : Transport) (octets : List ℕ) (failed : Bool) (refusal : ObexRefusal) → packet_in Request (most t) octets ≡ Err refusal → gain most past t (octets, failed) ≡ []
nothing_gained most past t octets failed refusal e = ap (λ (p : Option PlainPacket). objects_from (run_of most past t) (p ∷ [])) (no_put most t octets failed refusal e)

pub nothing_pending : (most : Transport → ℕ) (past past' : Pasts) (t : Transport) (octets : List ℕ) (failed : Bool) (refusal : ObexRefusal) → Adds t (octets, failed) past past' → packet_in Request (most t) octets ≡ Err refusal → pending most past' t ≡ None
nothing_pending most past past' t octets failed refusal adds e =
    ap pending_of (headers_behind most past past' t (octets, failed) adds) ∙ ap (λ (p : Option PlainPacket). pending_of (run_headers (open_from (run_of most past t) (p ∷ [])))) (no_put most t octets failed refusal e)

unnamed : (most : Transport → ℕ) (past : Pasts) (t : Transport) (octets : List ℕ) (refusal : ObexRefusal) (stored : List Object) (service : Service) (gift : Gift) → Serves most past stored service gift
    → packet_in Request (most t) octets ≡ Err refusal → is_naming t octets service.sessions ≡ false
unnamed most past t octets refusal stored service gift s e = ap (λ (n : ℕ). has_name (kind_of (packet_in Request n octets))) (s.stands.maxima t) ∙ ap (λ r. has_name (kind_of r)) e

never : true ≡ false → ⊥
never e = cc

-- they store nothing and end what is under way
pub record RefusedAs (most : Transport → ℕ) (past : Pasts) (t : Transport) (octets : List ℕ) (stored : List Object) (gift : Gift) (service' : Service) (gift' : Gift) : Type 0 where
  pub refused : Bool
  pub serves : (past' : Pasts) → Adds t (octets, refused) past past' → Serves most past' stored service' gift'
  pub paid : faults_of gift'.answers ≤ faults_of gift.answers

-- ignored or not
pub refused_heard : (most : Transport → ℕ) (past : Pasts) (t : Transport) (octets : List ℕ) (refusal : ObexRefusal) (stored : List Object) (service : Service) (gift : Gift) → Serves most past stored service gift
    → packet_in Request (most t) octets ≡ Err refusal → RefusedAs most past t octets stored gift (hears_packet t octets service gift).service (hears_packet t octets service gift).gift
refused_heard most past t octets refusal stored service gift s e =
    cond_both (is_ignored t octets service) _ _ (λ (served : Served). RefusedAs most past t octets stored gift served.service served.gift)
    (λ ignored. record {
      refused = false;
      serves = λ past' adds. let_go_of most past past' t stored service gift s (nothing_pending most past past' t octets false refusal adds e) adds.there;
      paid = let_go_paid t service gift;
    })
    (λ taken.
    let then = after_hearing most past t octets stored service gift s (λ named. absurd (never (sym named ∙ unnamed most past t octets refusal stored service gift s e))) in
    record {
      refused = then.refused;
      serves = λ past' adds. subst (λ (os : List Object). (let served = after_heard t service (hears t octets service.sessions gift) in Serves most past' os served.service served.gift))
          (ap (λ (os : List Object). stored ++ os) (nothing_gained most past t octets then.refused refusal e) ∙ append-nil stored) (then.serves past' adds);
      paid = (let paid = then.paid in omega arith);
    })
