-- On each link of a server whose client asks for one channel of packets, one channel alone carries packets.
use Rattle.std.proofs.Common.{List, [], ◌∷◌, ◌++◌, map}
use Rattle.std.specs.List.{AllByRecursion, AllZip, flat_map}
use Rattle.shelf_model.specs.bt_base.specs.declared.settings.Transport.{Transport}
use Rattle.channel_laws.specs.channel_model.specs.Policies.{Policy}
use Rattle.channel_laws.specs.Runs.{Occurrence}
use Rattle.channel_laws.specs.Singly.{AsksForNoChannel}
use Rattle.shelf_model.specs.world_model.specs.Talks.{Talk}
use Rattle.shelf_model.specs.host_model.specs.Servers.{server_profile}
use Rattle.host_laws.specs.InOrder.{AsksForOneObject}
use Rattle.host_laws.specs.Lives.{Span}
use Rattle.host_laws.specs.OneOnLinks.{packets_psm, CarriesOneOn, ServersCarryAlone}
use Rattle.host_laws.specs.OverLinks.{parts, moved_in, talk_marks, IsTalkOf}
use Rattle.host_laws.proofs.InOrder.{links-ask_none}
use Rattle.host_laws.proofs.Seeking.{carries-one}

-- what is so of the links that ended and of the last one is so of all
all_lists : (P : List Occurrence → Type 0) (spans : List Span) (now : List Occurrence) → AllByRecursion (λ (span : Span). P span.list) spans → P now → AllByRecursion P (map (λ (span : Span). span.list) spans ++ now ∷ [])
all_lists P [] now before last = (last, tt)
all_lists P (span ∷ spans) now before last = (before.0, all_lists P spans now before.1 last)

lists_carry : (T : Transport) (policy : Policy) (lists : List (List Occurrence)) (talks : List (List Talk)) → AllZip (IsTalkOf policy) lists talks → AllByRecursion (AllByRecursion AsksForNoChannel) lists
    → AllByRecursion (λ part. AsksForOneObject T (moved_in part)) talks → AllByRecursion (CarriesOneOn (packets_psm T) policy) lists
lists_carry T policy [] talks are none sought = tt
lists_carry T policy (list ∷ lists) [] are none sought = absurd are
lists_carry T policy (list ∷ lists) (part ∷ talks) are none sought = (
  carries-one T policy list (moved_in part) are.0.waits (record { none = none.0; talk_is = are.0.talk_is; go_out = are.0.go_out; sought = sought.0 }),
  lists_carry T policy lists talks are.1 none.1 sought.1,
)

pub servers-carry_alone : ServersCarryAlone
servers-carry_alone T settings content asks talk now so nothing sought =
    let A = server_profile settings content in
    let none = links-ask_none A asks (flat_map talk_marks talk) now so.lives nothing in
    lists_carry T A.policy (map (λ (span : Span). span.list) so.lives.spans ++ so.lives.now ∷ []) (parts talk) so.talks_are (all_lists (AllByRecursion AsksForNoChannel) so.lives.spans so.lives.now none.before none.last) sought
