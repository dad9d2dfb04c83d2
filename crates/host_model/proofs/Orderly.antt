-- Both hosts are orderly.
use Rattle.std.proofs.Common.{true≢false, ap, sym, subst, ◌≡◌, ◌⊎◌, inl, inr, ℕ, zero, suc, Bool, true, false, ◌&&◌, not, List, [], ◌∷◌, length, nat_lt, nat_le, ◌==◌, Option, Some, None, refl, if◌then◌else◌, tests, arith}
use Rattle.std.proofs.lemmas.Bool.{ltb-true}
use Rattle.rest_laws.specs.bt_base.specs.Octets.{IsOctets}
use Rattle.rest_laws.specs.bt_base.specs.declared.settings.Settings.{Settings}
use Rattle.rest_laws.specs.h4_framing.proofs.OctetLists.{IsOctets-cons, IsOctets-nil}
use Rattle.rest_laws.specs.acl_fragments.specs.Pieces.{pdu_length}
use Rattle.channel_model.specs.Giving.{Given, next_given}
use Rattle.push_model.specs.declared.course.Stage.{Stage}
use Rattle.push_model.specs.declared.course.Stage.TheVariants.{Rest}
use Rattle.push_model.specs.Client.{is_rest, is_idle}
use Rattle.rest_laws.specs.world_model.specs.Machines.{News, Linked, Up}
use Rattle.rest_laws.specs.world_model.specs.Stations.{longest_pdu}
use Rattle.rest_laws.specs.turn_laws.specs.Premises.{IsFrame, SaysFrames, IsAside, Idles}
use Rattle.rest_laws.specs.Premises.{AsksOnce}
use Rattle.host_model.specs.Circumstances.{Circumstance}
use Rattle.host_model.specs.Pdus.{pdu_of, are_octets, is_frame}
use Rattle.host_model.specs.Profiles.{Profile}
use Rattle.host_model.specs.Hosts.{Host, most_steps, after_said, says, next, ready, hears_news, hear}
use Rattle.host_model.specs.Clients.{ClientProfile, client_profile, is_paging}
use Rattle.host_model.specs.Servers.{server_profile}
use Rattle.host_model.specs.Machines.{upper, client_host}
use Rattle.host_model.specs.Laws.{HostsAreOrderly}
use Rattle.host_model.proofs.Keeping.{drives_on, hears_on, goes_next}
use Rattle.host_model.proofs.Resting.{IsResting, keeps_rest, told_rest}
use Rattle.host_model.proofs.Paging.{PagesNot, keeps_unpaged, told_unpaged}

-- ---- frames

both : (a b : Bool) → (a && b) ≡ true → (a ≡ true) × (b ≡ true)
both true b holds = (refl, holds)
both false b holds = absurd (true≢false (sym holds))

pub octets_by : (xs : List ℕ) → are_octets xs ≡ true → IsOctets xs
octets_by [] holds = IsOctets-nil
octets_by (x ∷ xs) holds =
    let first = both (nat_lt x 256) (are_octets xs) holds in
    IsOctets-cons x xs (ltb-true x 256 first.0) (octets_by xs first.1)

framed : (pdu : List ℕ) → is_frame pdu ≡ true → IsFrame pdu × IsOctets pdu
framed pdu holds =
    let zeroth = both (are_octets pdu) (nat_le 4 (length pdu) && ((pdu_length pdu == length pdu) && nat_le (length pdu) longest_pdu)) holds in
    let first = both (nat_le 4 (length pdu)) ((pdu_length pdu == length pdu) && nat_le (length pdu) longest_pdu) zeroth.1 in
    let second = both (pdu_length pdu == length pdu) (nat_le (length pdu) longest_pdu) first.1 in
    (record { pdu = (grind (arith, tests, first.0), grind (arith, tests, second.0)); short = grind (arith, tests, second.1) }, octets_by pdu zeroth.0)

abbrev Frames : {P : Type 0} → Option (List ℕ × Host P) → Type 0
Frames None = Unit {0}
Frames (Some one) = IsFrame one.0 × IsOctets one.0

frames_by : {P : Type 0} (test : Bool) (pdu : List ℕ) (host : Host P) → is_frame pdu ≡ test → Frames {P = P} (if test then Some (pdu, host) else None)
frames_by true pdu host is = framed pdu is
frames_by false pdu host is = tt

frames : {P : Type 0} (A : Profile P) (given : Option Given) (count : ℕ) (host : Host P) → Frames (says A given count host)
frames A None count host = tt
frames A (Some given) zero host = tt
frames A (Some given) (suc count) host = frames_by (is_frame (pdu_of given)) (pdu_of given) (after_said A count host) refl

pub says_frames : {P : Type 0} (A : Profile P) → SaysFrames (upper A)
says_frames A host pdu after same = (subst Frames same (frames A (next_given host.channels) host.may_say host)).0

pub says_octets : {P : Type 0} (A : Profile P) (host : Host P) (pdu : List ℕ) (after : Host P) → next A host ≡ Some (pdu, after) → IsOctets pdu
says_octets A host pdu after same = (subst Frames same (frames A (next_given host.channels) host.may_say host)).1

-- ---- idle clients

at_rest : (stage : Stage) → is_rest stage ≡ true → stage ≡ Rest
at_rest Rest holds = refl
at_rest stage holds = absurd (true≢false (sym holds))

idle : (pushing : ClientProfile) → IsResting pushing → is_idle pushing.client ≡ true
idle pushing rest = ap is_rest rest

none_wanted : (paging idle : Bool) → idle ≡ true → (paging && not idle) ≡ false
none_wanted true idle holds = ap not holds
none_wanted false idle holds = refl

pub idles : (settings : Settings) → Idles (client_host settings)
idles settings = record {
  first = refl;
  wants_none = λ host is. none_wanted (is_paging host.profile.bid) (is_idle host.profile.client) is;
  hears = λ circumstances news host aside is.
      idle (hear (client_profile settings) circumstances news host).profile
      (hears_on (client_profile settings) IsResting (keeps_rest settings) circumstances news host (told_rest settings news aside) (at_rest host.profile.client.stage is));
  says = λ host pdu after same is. idle after.profile (goes_next (client_profile settings) IsResting (keeps_rest settings) host pdu after same (at_rest host.profile.client.stage is));
}

-- ---- one link a push

-- none is wanted: it is idle, or asks for none
apart : (paging idle : Bool) → (paging && not idle) ≡ false → (idle ≡ true) ⊎ (paging ≡ false)
apart paging true off = inl refl
apart true false off = absurd (true≢false off)
apart false false off = inr refl

unpaged : (paging idle : Bool) → paging ≡ false → (paging && not idle) ≡ false
unpaged true idle off = absurd (true≢false off)
unpaged false idle off = refl

hears_none : (settings : Settings) (circumstances : List Circumstance) (news : News) (host : Host ClientProfile) → IsAside news
    → (is_idle host.profile.client ≡ true) ⊎ PagesNot host.profile → (upper (client_profile settings)).wants_link (hear (client_profile settings) circumstances news host) ≡ false
hears_none settings circumstances news host aside (inl is) =
    let after = hear (client_profile settings) circumstances news host in none_wanted (is_paging after.profile.bid) (is_idle after.profile.client) ((idles settings).hears circumstances news host aside is)
hears_none settings circumstances news host aside (inr off) =
    let after = hear (client_profile settings) circumstances news host in
    unpaged (is_paging after.profile.bid) (is_idle after.profile.client)
    (hears_on (client_profile settings) PagesNot (keeps_unpaged settings) circumstances news host (told_unpaged settings news aside) off)

says_none : (settings : Settings) (host : Host ClientProfile) (pdu : List ℕ) (after : Host ClientProfile) → next (client_profile settings) host ≡ Some (pdu, after)
    → (is_idle host.profile.client ≡ true) ⊎ PagesNot host.profile → (upper (client_profile settings)).wants_link after ≡ false
says_none settings host pdu after same (inl is) = none_wanted (is_paging after.profile.bid) (is_idle after.profile.client) ((idles settings).says host pdu after same is)
says_none settings host pdu after same (inr off) =
    unpaged (is_paging after.profile.bid) (is_idle after.profile.client) (goes_next (client_profile settings) PagesNot (keeps_unpaged settings) host pdu after same off)

comes_up : (settings : Settings) (circumstances : List Circumstance) (host : Host ClientProfile) → (upper (client_profile settings)).wants_link (hear (client_profile settings) circumstances (Linked Up) host) ≡ false
comes_up settings circumstances host =
    let after = hear (client_profile settings) circumstances (Linked Up) host in
    unpaged (is_paging after.profile.bid) (is_idle after.profile.client)
    (drives_on (client_profile settings) PagesNot (keeps_unpaged settings) most_steps (hears_news (client_profile settings) circumstances (Linked Up) (ready (client_profile settings) circumstances host)) refl)

pub asks_once : (settings : Settings) → AsksOnce (client_host settings)
asks_once settings = record {
  comes = comes_up settings;
  hears = λ circumstances news host aside off. hears_none settings circumstances news host aside (apart (is_paging host.profile.bid) (is_idle host.profile.client) off);
  says = λ host pdu after same off. says_none settings host pdu after same (apart (is_paging host.profile.bid) (is_idle host.profile.client) off);
}

pub hosts_are_orderly : HostsAreOrderly
hosts_are_orderly a b content = record { frames_a = says_frames (client_profile a); frames_b = says_frames (server_profile b content); idles = idles a; once = asks_once a }
