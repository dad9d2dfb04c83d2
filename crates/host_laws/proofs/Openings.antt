-- A client begins to push what it was told to push, in order.
use Rattle.std.proofs.Common.{ℕ, ◌≡◌, Bool, true, false, List, [], ◌∷◌, ◌++◌, Result, Ok, Err, refl, sym, ap, ap₂, subst, ◌∙◌, append-nil}
use Rattle.std.proofs.lemmas.List.Concat.{flat_map-append}
use Rattle.shelf_model.specs.bt_base.specs.declared.ports.PortFault.{PortFault}
use Rattle.shelf_model.specs.bt_base.specs.declared.settings.Settings.{Settings}
use Rattle.push_laws.specs.push_model.specs.Client.{Client, begins}
use Rattle.push_laws.specs.push_model.specs.Laws.{Deed}
use Rattle.push_laws.specs.Spelled.{AreAmong}
use Rattle.push_laws.proofs.Among.{none_among, all_among, both_among}
use Rattle.shelf_model.specs.world_model.specs.Machines.{News, Linked, Failed, Heard, TimerFired, Cancelled, Opening}
use Rattle.shelf_model.specs.host_model.specs.Circumstances.{Circumstance, size_in}
use Rattle.shelf_model.specs.host_model.specs.Clients.{ClientProfile, client_profile, ended}
use Rattle.shelf_model.specs.host_model.specs.Shelves.{is_short, size_if, name_if, size_for, name_for}
use Rattle.host_laws.specs.Feeds.{Feed, Gifts, Learns, Receives, Happens, Sent, Steps, fed}
use Rattle.host_laws.specs.Openings.{name_told, names_told, name_begun, names_begun, ClientsBeginWhatIsTold}
use Rattle.host_laws.specs.Pushing.{Affair, Begins, Does, AllAsked, client_after, then_ends, then_calls, pushed_with, pushed_from}
use Rattle.host_laws.proofs.AllAsked.{IsBare, FeedSo, begun_asked, feed_asked}

-- where no push begins

abbrev BeginsNone : Affair → Client → Type 0
BeginsNone (Begins size name) client = ⊥
BeginsNone (Does deed) client = Unit {0}

bare : (deed : Deed) (client : Client) → IsBare deed → BeginsNone (Does deed) client
bare deed client is = tt

none_begun : (affairs : List Affair) (client : Client) → AllAsked BeginsNone affairs client → names_begun affairs ≡ []
none_begun [] client all = refl
none_begun (Begins size name ∷ affairs) client all = absurd all.0
none_begun (Does deed ∷ affairs) client all = none_begun affairs (client_after (Does deed) client) all.1

quiet_begun : (pushing : ClientProfile) (feed : Feed) → FeedSo BeginsNone bare pushing feed → AreAmong (names_begun (pushed_with pushing feed)) (name_told feed)
quiet_begun pushing feed so = subst (λ (names : List (List ℕ)). AreAmong names (name_told feed)) (sym (none_begun (pushed_with pushing feed) pushing.client (feed_asked BeginsNone bare pushing feed so))) (none_among (name_told feed))

-- where one does

one_begun : (name : List ℕ) (test : Bool) (size : Result ℕ PortFault) → AreAmong (name_begun (Begins (size_if test size) (name_if test name)) ++ []) (name ∷ [])
one_begun name true (Ok size) = all_among (name ∷ [])
one_begun name true (Err fault) = none_among (name ∷ [])
one_begun name false size = none_among (name ∷ [])

opening_begun : (circumstances : List Circumstance) (name : List ℕ) (pushing : ClientProfile) → AreAmong (names_begun (pushed_with pushing (Learns circumstances (Opening name)))) (name ∷ [])
opening_begun circumstances name pushing =
    let begun : Client = begins (size_for circumstances name) (name_for name) pushing.client in
    let behind = then_ends begun ++ then_calls (ended begun) in
    subst (λ (names : List (List ℕ)). AreAmong (name_begun (Begins (size_for circumstances name) (name_for name)) ++ names) (name ∷ [])) (sym (none_begun behind begun (begun_asked BeginsNone bare begun)))
    (one_begun name (is_short name) (size_in circumstances))

feed_begun : (pushing : ClientProfile) (feed : Feed) → AreAmong (names_begun (pushed_with pushing feed)) (name_told feed)
feed_begun pushing (Gifts circumstances) = quiet_begun pushing (Gifts circumstances) tt
feed_begun pushing (Learns circumstances (Linked event)) = quiet_begun pushing (Learns circumstances (Linked event)) tt
feed_begun pushing (Learns circumstances (Failed status)) = quiet_begun pushing (Learns circumstances (Failed status)) tt
feed_begun pushing (Learns circumstances (Heard pdu)) = quiet_begun pushing (Learns circumstances (Heard pdu)) tt
feed_begun pushing (Learns circumstances TimerFired) = quiet_begun pushing (Learns circumstances TimerFired) tt
feed_begun pushing (Learns circumstances Cancelled) = quiet_begun pushing (Learns circumstances Cancelled) tt
feed_begun pushing (Learns circumstances (Opening name)) = opening_begun circumstances name pushing
feed_begun pushing (Receives own psm sdu) = quiet_begun pushing (Receives own psm sdu) tt
feed_begun pushing (Happens event v) = quiet_begun pushing (Happens event v) tt
feed_begun pushing (Sent v) = quiet_begun pushing (Sent v) tt
feed_begun pushing (Steps v) = quiet_begun pushing (Steps v) tt

pub clients_begin_what_is_told : ClientsBeginWhatIsTold
clients_begin_what_is_told settings pushing [] = refl
clients_begin_what_is_told settings pushing (feed ∷ feeds) =
    let next = fed (client_profile settings) pushing feed in
    subst (λ (names : List (List ℕ)). AreAmong names (name_told feed ++ names_told feeds)) (sym (flat_map-append name_begun (pushed_with pushing feed) (pushed_from settings next feeds)))
    (both_among (names_begun (pushed_with pushing feed)) (name_told feed) (names_begun (pushed_from settings next feeds)) (names_told feeds) (feed_begun pushing feed) (clients_begin_what_is_told settings next feeds))
