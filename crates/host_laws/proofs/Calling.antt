-- Of a client that asks for one channel of packets, one request after the other moves.
use Rattle.std.proofs.Common.{false, List, [], ◌∷◌, sym, ap, subst, ◌∙◌}
use Rattle.std.specs.List.{AllByRecursion, AllZip, flat_map}
use Rattle.shelf_model.specs.bt_base.specs.declared.settings.Transport.{Transport}
use Rattle.shelf_model.specs.capture.specs.declared.flow.Flow.TheVariants.{Out}
use Rattle.channel_laws.specs.channel_model.specs.Policies.{Policy, policy}
use Rattle.channel_laws.specs.Runs.{Occurrence, run_of}
use Rattle.channel_laws.specs.Singly.{calls_that_went, AreOneByOne}
use Rattle.channel_laws.proofs.OneByOne.{calls-are_one_by_one}
use Rattle.channel_laws.proofs.Singling.{calls-more, tail-single}
use Rattle.shelf_model.specs.world_model.specs.Talks.{Talk}
use Rattle.shelf_model.specs.host_model.specs.Clients.{client_profile}
use Rattle.host_laws.specs.InOrder.{may_ask, CallsInOrder, ClientsCallInOrder}
use Rattle.host_laws.specs.Lives.{on_links}
use Rattle.host_laws.specs.OverLinks.{parts, moved_in, talk_marks, IsTalkOf}
use Rattle.host_laws.proofs.Seeking.{calls-spoken}

part_called : (transport : Transport) (policy : Policy) (list : List Occurrence) (part : List Talk) → IsTalkOf policy list part → CallsInOrder transport policy list → AreOneByOne (may_ask transport) (calls_that_went Out (moved_in part))
part_called transport policy list part is calls =
    tail-single (may_ask transport) (calls_that_went Out is.waits) (calls_that_went Out (moved_in part))
    (subst (AreOneByOne (may_ask transport)) (sym (calls-spoken Out (run_of policy list).said) ∙ (ap (calls_that_went Out) is.talk_is ∙ calls-more Out (moved_in part) is.waits)) (calls-are_one_by_one policy (may_ask transport) list calls))

parts_called : (transport : Transport) (policy : Policy) (lists : List (List Occurrence)) (talks : List (List Talk)) → AllZip (IsTalkOf policy) lists talks → AllByRecursion (CallsInOrder transport policy) lists → AllByRecursion (λ part. AreOneByOne (may_ask transport) (calls_that_went Out (moved_in part))) talks
parts_called transport policy [] [] are calls = tt
parts_called transport policy [] (part ∷ talks) are calls = absurd are
parts_called transport policy (list ∷ lists) [] are calls = absurd are
parts_called transport policy (list ∷ lists) (part ∷ talks) are calls = (part_called transport policy list part are.0 calls.0, parts_called transport policy lists talks are.1 calls.1)

pub clients-call_in_order : ClientsCallInOrder
clients-call_in_order settings asks talk now so calls =
    parts_called settings.transport (policy settings false) (on_links (client_profile settings) asks (flat_map talk_marks talk) now so.lives) (parts talk) so.talks_are calls
