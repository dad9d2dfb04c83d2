-- A host on whose links no push begins, and whose links come up where its profile wants them (this project's own).
use Rattle.std.specs.Prelude.{Bool, true, false, List, [], ◌∷◌}
use Rattle.std.specs.List.{AllByRecursion}
use Rattle.channel_laws.specs.Runs.{Occurrence}
use Rattle.shelf_model.specs.world_model.specs.Machines.{LinkEvent, Up, Down, News, Linked, Failed, Heard, TimerFired, Cancelled, Opening}
use Rattle.shelf_model.specs.world_model.specs.Carriages.{linked_by}
use Rattle.shelf_model.specs.host_model.specs.Profiles.{Profile}
use Rattle.host_laws.specs.Acts.{Act, Hears, Says}
use Rattle.host_laws.specs.Calls.{Asks}
use Rattle.host_laws.specs.Fed.{behind_span, AreFed}
use Rattle.host_laws.specs.Feeds.{Feed}
use Rattle.host_laws.specs.Lives.{Span}
use Rattle.host_laws.specs.Woven.{Strand, Hearing, Giving, Firing, Telling, Gifting, Learning, Checking, Stepping}

-- ---- on a link

-- no push begins, and nothing is heard of a link
abbrev pub IsOfLink : News → Type 0
IsOfLink (Linked event) = ⊥
IsOfLink (Failed status) = ⊥
IsOfLink (Heard pdu) = Unit {0}
IsOfLink TimerFired = Unit {0}
IsOfLink Cancelled = Unit {0}
IsOfLink (Opening name) = ⊥

abbrev pub BeginsNone : Strand → Type 0
BeginsNone (Hearing pdu) = Unit {0}
BeginsNone (Giving pdu) = Unit {0}
BeginsNone Firing = Unit {0}
BeginsNone Telling = Unit {0}
BeginsNone (Gifting circumstances) = Unit {0}
BeginsNone (Learning circumstances news) = IsOfLink news
BeginsNone Checking = Unit {0}
BeginsNone Stepping = Unit {0}

abbrev pub ActsOfLink : {G : Type 0} → Act G → Type 0
ActsOfLink (Hears gifts news) = IsOfLink news
ActsOfLink (Says pdu) = Unit {0}

-- ---- over all links

-- while a link is up
abbrev pub BeginsNoneIf : (up : Bool) → List Strand → Type 0
BeginsNoneIf true weave = AllByRecursion BeginsNone weave
BeginsNoneIf false weave = Unit {0}

-- where a link comes up
abbrev pub IsWantedAt : {P : Type 0} → (P → Type 0) → LinkEvent → P → Type 0
IsWantedAt W Up profile = W profile
IsWantedAt W (Down reason) profile = Unit {0}

-- whether a link is up behind all of them
abbrev pub up_behind : Bool → List Span → Bool
up_behind up [] = up
up_behind up (span ∷ spans) = up_behind (linked_by span.event) spans

-- no push begins on any link, and each link came up where the profile was so
abbrev pub AreAsked : {P : Type 0} (A : Profile P) (asks : Asks A) (W : P → Type 0) (up : Bool) (spans : List Span) (now : List Occurrence) (feeds : List Feed) (first last : P) → AreFed A asks spans now feeds first last → Type 0
AreAsked A asks W up [] now feeds first last fed = BeginsNoneIf up fed.woven.weave
AreAsked A asks W up (span ∷ spans) now feeds first last (here, later, is, rest) =
    BeginsNoneIf up here.so.woven.weave × IsWantedAt W span.event here.mid × AreAsked A asks W (linked_by span.event) spans now later (behind_span A asks span first here) last rest
