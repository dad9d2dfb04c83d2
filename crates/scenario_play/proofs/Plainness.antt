-- What hosts do that note what they hold, those do that do not.
use Rattle.std.proofs.Common.{◌≡◌, List, Option, refl, ap₂, subst, ◌∙◌}
use Rattle.noting_laws.specs.world_model.specs.Machines.{News}
use Rattle.noting_laws.specs.world_model.specs.Worlds.{World, Happening, Runs, IsAtRest}
use Rattle.noting_laws.specs.rest_laws.specs.Premises.{AreOrderly}
use Rattle.radio_world.specs.run_laws.specs.Embedding.{Embeds}
use Rattle.noting_laws.specs.alike_laws.specs.Twins.{world_with}
use Rattle.noting_laws.specs.alike_laws.proofs.Alike.{runs_on, rest_on}
use Rattle.bt_base.specs.Objects.{Object}
use Rattle.bt_host.specs.host_model.specs.Circumstances.{Circumstance}
use Rattle.bt_host.specs.host_model.specs.Clients.{ClientProfile}
use Rattle.bt_host.specs.host_model.specs.Servers.{ServerProfile}
use Rattle.bt_host.specs.host_model.specs.Settings.{SetHost, client_machine, server_machine}
use Rattle.bt_host.specs.answer_laws.specs.Memory.{HadMemory}
use Rattle.noting_laws.specs.pair_laws.specs.Enough.{remembered, remembering}
use Rattle.noting_laws.specs.pair_laws.specs.Granted.{granted, granting}
use Rattle.noting_laws.specs.pair_laws.specs.Served.{holding_on}
use Rattle.noting_laws.specs.pair_laws.proofs.Answered.{same_alike}
use Rattle.noting_laws.specs.inbox_laws.specs.Owned.{own_machine, IsGranting, HasEnough}
use Rattle.noting_laws.specs.inbox_laws.proofs.Owning.{own_alike, answering_runs, IsGranted, grants_stay, memory_stays}
use Rattle.bt_host.specs.Noting.{Noted}
use Rattle.bt_host.specs.NotedHosts.{credits_of_shelved, credits_of_server, noted_client_machine, noted_server_machine}
use Rattle.bt_host.specs.Serving.{profile_of}
use Rattle.bt_host.specs.Shelving.{Shelved, shelf_profile}
use Rattle.noting_laws.specs.Noting.{plain_set}
use Rattle.scenario_play.specs.Shelving.{bare_set, plain_client}
use Rattle.scenario_play.proofs.Bare.{shelf_machine, HoldsShelf, bare_alike, held_alike, shelf_orderly}
use Rattle.scenario_play.proofs.Embedded.{alike_of, orderly_of}
use Rattle.noting_laws.proofs.Forgetting.{notes_are_more}

more_a : Embeds plain_set noted_client_machine shelf_machine
more_a = notes_are_more credits_of_shelved shelf_profile

more_b : Embeds plain_set noted_server_machine own_machine
more_b = notes_are_more credits_of_server profile_of

pub orderly : AreOrderly noted_client_machine noted_server_machine
orderly = orderly_of plain_set plain_set noted_client_machine shelf_machine noted_server_machine own_machine more_a more_b refl shelf_orderly

abbrev pub NotedWorld : Type 0
NotedWorld = World (SetHost (Noted Shelved)) (SetHost (Noted ServerProfile))

abbrev pub PlainWorld : Type 0
PlainWorld = World (SetHost ClientProfile) (SetHost ServerProfile)

abbrev ShelfWorld : Type 0
ShelfWorld = World (SetHost Shelved) (SetHost ServerProfile)

abbrev pub shelf_world : NotedWorld → ShelfWorld
shelf_world w = world_with (plain_set w.a.upper) (plain_set w.b.upper) w

abbrev pub plain_world : NotedWorld → PlainWorld
plain_world w = world_with (plain_client w.a.upper) (plain_set w.b.upper) w

abbrev IsPlain : {S : Type 0} → SetHost (Noted S) → SetHost S → Type 0
IsPlain s t = t ≡ plain_set s

abbrev IsBare : SetHost Shelved → SetHost ClientProfile → Type 0
IsBare s t = t ≡ bare_set s

abbrev IsSame : {S : Type 0} → S → S → Type 0
IsSame s t = t ≡ s

abbrev as_told : News → List Circumstance → List Circumstance
as_told news answers = answers

abbrev IsHolding : Option (List Object) → SetHost Shelved → SetHost ClientProfile → Type 0
IsHolding shelf s t = (t ≡ bare_set s) × HoldsShelf shelf s

-- what happens to hosts that note what they hold happens to those that do not
pub unnoted_runs : (happenings : List Happening) (old new : NotedWorld) → Runs noted_client_machine noted_server_machine happenings old new
    → Runs shelf_machine own_machine happenings (shelf_world old) (shelf_world new)
unnoted_runs happenings old new runs =
    let (there, alike, ran) = runs_on IsPlain IsPlain noted_client_machine shelf_machine noted_server_machine own_machine (alike_of plain_set noted_client_machine shelf_machine more_a)
    (alike_of plain_set noted_server_machine own_machine more_b) happenings (plain_set old.a.upper) (plain_set old.b.upper) old new refl refl runs in
    let same : there ≡ shelf_world new = alike.same ∙ ap₂ (λ (x : SetHost Shelved) (y : SetHost ServerProfile). world_with x y new) alike.a alike.b in
    subst (λ (w : ShelfWorld). Runs shelf_machine own_machine happenings (shelf_world old) w) same ran

pub plain_runs : (happenings : List Happening) (old new : NotedWorld) → Runs noted_client_machine noted_server_machine happenings old new
    → Runs client_machine server_machine happenings (plain_world old) (plain_world new)
plain_runs happenings old new runs =
    let (there, alike, ran) = runs_on IsBare IsSame shelf_machine client_machine own_machine server_machine bare_alike own_alike happenings (plain_client old.a.upper) (plain_set old.b.upper) (shelf_world old) (shelf_world new) refl refl (unnoted_runs happenings old new runs) in
    let same : there ≡ plain_world new = alike.same ∙ ap₂ (λ (x : SetHost ClientProfile) (y : SetHost ServerProfile). world_with x y new) alike.a alike.b in
    subst (λ (w : PlainWorld). Runs client_machine server_machine happenings (plain_world old) w) same ran

-- a client whose shelf holds these objects goes as one with a shelf that tells them, beside a server that keeps the answers of its inbox
pub own_runs : (shelf : Option (List Object)) (happenings : List Happening) (old new : NotedWorld) → HoldsShelf shelf (plain_set old.a.upper) → Runs noted_client_machine noted_server_machine happenings old new
    → Runs (holding_on shelf client_machine) own_machine happenings (plain_world old) (plain_world new)
own_runs shelf happenings old new holds runs =
    let (there, alike, ran) = runs_on (IsHolding shelf) IsSame shelf_machine (holding_on shelf client_machine) own_machine own_machine (held_alike shelf) (same_alike as_told own_machine) happenings (plain_client old.a.upper) (plain_set old.b.upper) (shelf_world old) (shelf_world new) (refl, holds) refl
    (unnoted_runs happenings old new runs) in
    let same : there ≡ plain_world new = alike.same ∙ ap₂ (λ (x : SetHost ClientProfile) (y : SetHost ServerProfile). world_with x y new) alike.a.0 alike.b in
    subst (λ (w : PlainWorld). Runs (holding_on shelf client_machine) own_machine happenings (plain_world old) w) same ran

-- beside one whose inbox lacks no memory, where none of those answers is want of memory
pub enough_runs : (shelf : Option (List Object)) (happenings : List Happening) (old new : NotedWorld) → HoldsShelf shelf (plain_set old.a.upper) → HasEnough (plain_set old.b.upper) → Runs noted_client_machine noted_server_machine happenings old new
    → Runs (holding_on shelf client_machine) (remembering server_machine) happenings (plain_world old) (plain_world new)
enough_runs shelf happenings old new holds enough runs =
    answering_runs remembered HadMemory memory_stays (holding_on shelf client_machine) happenings (plain_world old) (plain_world new) enough (own_runs shelf happenings old new holds runs)

-- and where they are grants, beside one whose inbox grants all
pub served_runs : (shelf : Option (List Object)) (happenings : List Happening) (old new : NotedWorld) → HoldsShelf shelf (plain_set old.a.upper) → IsGranting (plain_set old.b.upper) → Runs noted_client_machine noted_server_machine happenings old new
    → Runs (holding_on shelf client_machine) (granting server_machine) happenings (plain_world old) (plain_world new)
served_runs shelf happenings old new holds grants runs =
    answering_runs granted IsGranted grants_stay (holding_on shelf client_machine) happenings (plain_world old) (plain_world new) grants (own_runs shelf happenings old new holds runs)

pub plain_rest : (w : NotedWorld) → IsAtRest noted_client_machine noted_server_machine w → IsAtRest client_machine server_machine (plain_world w)
plain_rest w rest =
    rest_on IsBare IsSame shelf_machine client_machine own_machine server_machine bare_alike own_alike (shelf_world w) (plain_world w) (record { a = refl; b = refl; same = refl })
    (rest_on IsPlain IsPlain noted_client_machine shelf_machine noted_server_machine own_machine (alike_of plain_set noted_client_machine shelf_machine more_a)
    (alike_of plain_set noted_server_machine own_machine more_b) w (shelf_world w) (record { a = refl; b = refl; same = refl }) rest)
