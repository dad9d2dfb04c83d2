-- A host whose link is down has no channels, whatever came to it.
use Rattle.std.proofs.Common.{◌≡◌, false, ℕ, List, [], Option, None, is_some, refl, sym, subst}
use Rattle.std.specs.List.{AllByRecursion}
use Rattle.call_laws.specs.bt_host.specs.channel_model.specs.Value.{no_channels}
use Rattle.call_laws.specs.bt_host.specs.host_link.specs.declared.role.Role.{Role}
use Rattle.call_laws.specs.bt_host.specs.host_model.specs.Circumstances.{Circumstance}
use Rattle.call_laws.specs.bt_host.specs.host_model.specs.Hosts.{Host}
use Rattle.call_laws.specs.bt_host.specs.host_model.specs.Machines.{upper}
use Rattle.call_laws.specs.bt_host.specs.host_model.specs.Profiles.{Profile}
use Rattle.call_laws.specs.bt_host.specs.host_model.proofs.Orderly.{says_frames}
use Rattle.call_laws.specs.unit_laws.specs.scenario_laws.proofs.Acting.{Acted}
use Rattle.call_laws.specs.unit_laws.specs.scenario_laws.proofs.Unlinked.{Keeps, acts_off}
use Rattle.call_laws.specs.unit_laws.specs.Laws.{FiresNone}
use Rattle.call_laws.specs.unit_laws.specs.Living.{Did}
use Rattle.call_laws.specs.unit_laws.specs.Units.{Lined, Occasion}
use Rattle.call_laws.specs.unit_laws.proofs.Running.{all_talks}

pub channels_off : {Q : Type 0} (A : Profile Q) (Knows : Q → Type 0) → Keeps A Knows → (role : Role) (occasions : List (Occasion Circumstance)) (now : Lined (Host Q)) → Did A role occasions now → now.line.link ≡ None → now.upper.channels ≡ no_channels
channels_off {Q} A Knows keeps role occasions now did off =
    let talks = all_talks (upper A) (AllByRecursion FiresNone occasions) (says_frames A) role occasions now (λ still. still) did in
    let acted = subst (λ (l : Option ℕ). Acted (upper A) (is_some l) now.upper talks.waiting talks.talk) off talks.acted in
    let kept : Acted (upper A) false now.upper [] talks.talk = subst (λ (w : List (List ℕ)). Acted (upper A) false now.upper w talks.talk) (acted.down refl) acted in
    let over = kept.went.went.over in
    let there = acts_off A Knows keeps over.acts false (upper A).first kept.mid over.acting over.in_turn (λ down. record { channels_are = refl; profile_is = keeps.first }) kept.went.went.up_is in
    subst (λ (host : Host Q). host.channels ≡ no_channels) (sym kept.says) there.channels_are
