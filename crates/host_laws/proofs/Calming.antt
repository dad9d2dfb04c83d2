-- The own talk of a host that is calm is what moved on its link.
use Rattle.std.proofs.Common.{◌≡◌, List, [], ◌∷◌, filter_map, refl, sym, ap, subst, ◌∙◌}
use Rattle.std.specs.List.{AllByRecursion, flat_map}
use Rattle.shelf_model.specs.capture.specs.declared.flow.Flow.TheVariants.{Out, Into}
use Rattle.shelf_model.specs.capture.specs.Pdus.{Pdu}
use Rattle.push_laws.specs.link_talk.specs.Sayings.{said_by}
use Rattle.channel_laws.specs.channel_model.specs.Value.{Channels}
use Rattle.channel_laws.specs.Runs.{Occurrence, Comes, Connects, AsksFeatures, Disconnects, Sends, Gives, Fires, Tells, new_link, run_of}
use Rattle.shelf_model.specs.host_model.specs.Circumstances.{Circumstance}
use Rattle.shelf_model.specs.host_model.specs.Profiles.{Profile}
use Rattle.shelf_model.specs.host_model.specs.Hosts.{Host}
use Rattle.shelf_model.specs.host_model.specs.Machines.{upper}
use Rattle.host_laws.specs.Acts.{Act, Acting, StaysOnLink, from_act, from_acts}
use Rattle.host_laws.specs.Calls.{Asks, values_after, outer}
use Rattle.host_laws.specs.Seen.{pdu_of, moved, IsQuiet, IsCalm}
use Rattle.host_laws.specs.Calm.{AreCalm, CalmHostsMove}
use Rattle.host_laws.proofs.Steps.{Grows}
use Rattle.host_laws.proofs.Growing.{grows_none, grows_then, act_grows}
use Rattle.host_laws.proofs.Links.{value_run}
use Rattle.host_laws.proofs.Moving.{own_talk_moves}

-- what the profile asks for and is told moves nothing
pub outer-pdus : (list : List Occurrence) → filter_map pdu_of (filter_map outer list) ≡ filter_map pdu_of list
outer-pdus [] = refl
outer-pdus (Comes pdu ∷ list) = let came : Pdu = record { flow = Into; octets = pdu } in ap (λ (rest : List Pdu). came ∷ rest) (outer-pdus list)
outer-pdus (Connects psm ∷ list) = outer-pdus list
outer-pdus (AsksFeatures ∷ list) = outer-pdus list
outer-pdus (Disconnects own ∷ list) = outer-pdus list
outer-pdus (Sends own sdu ∷ list) = outer-pdus list
outer-pdus (Gives pdu ∷ list) = let gave : Pdu = record { flow = Out; octets = pdu } in ap (λ (rest : List Pdu). gave ∷ rest) (outer-pdus list)
outer-pdus (Fires ∷ list) = outer-pdus list
outer-pdus (Tells ∷ list) = outer-pdus list

pub acts-grow : {P : Type 0} (A : Profile P) (asks : Asks A) (C : Type 0) (acts : List (Act Circumstance)) (old new : Host P) → AllByRecursion StaysOnLink acts → Acting (upper A) acts old new → (C → AreCalm A acts old)
    → Grows A asks C (from_acts acts) old new
acts-grow {P} A asks C [] old new stay same calm = subst (λ (host : Host P). Grows A asks C [] old host) (sym same) (grows_none A asks C old)
acts-grow A asks C (act ∷ acts) old new (stays, stay) (mid, does, rest) calm =
    grows_then A asks C (from_act act) (from_acts acts) old mid new (act_grows A asks C act old mid stays (λ c. (calm c).0) does) (acts-grow A asks C acts mid new stay rest (λ c. (calm c).1 mid does))

pub calm_hosts_move : {P : Type 0} (A : Profile P) → CalmHostsMove A
calm_hosts_move A asks acts old new fresh stay acting calm quiet =
    let grows = acts-grow A asks (Unit {0}) acts old new stay acting (λ c. calm) in
    let value : new.channels ≡ (run_of A.policy grows.list).value = grows.channels_are ∙ (ap (λ (v : Channels). values_after A.policy v grows.list) fresh ∙ sym (value_run A.policy grows.list new_link)) in
    record {
      list = grows.list;
      channels_run = value;
      acted_is = grows.acted_is;
      talk_is = own_talk_moves A.policy grows.list (subst (λ (v : Channels). IsCalm A.policy v grows.list) fresh (grows.calm tt)) (subst IsQuiet value quiet)
          ∙ (ap (flat_map said_by) (sym (outer-pdus grows.list)) ∙ ap moved grows.acted_is);
    }
