-- Where the parts that a shelf gave are octets, so are those that its client is answered.
use Rattle.std.proofs.Common.{ℕ, ◌==◌, Bool, true, false, cond, List, [], ◌∷◌, length, map, None, Ok, Err}
use Rattle.std.specs.List.{AllByRecursion}
use Rattle.pair_laws.specs.bt_base.specs.declared.ports.PortFault.TheVariants as fault
use Rattle.pair_laws.specs.bt_base.specs.declared.settings.Settings.{Settings}
use Rattle.pair_laws.specs.push_model.specs.Client.{Client}
use Rattle.pair_laws.specs.push_model.specs.Laws.{Deed, Hears, Asks, Finishes, Cancels}
use Rattle.pair_laws.specs.push_model.specs.Steps.{Part, put_count}
use Rattle.pair_laws.specs.world_model.specs.Machines.{News, Linked, Failed, Heard, TimerFired, Cancelled, Opening}
use Rattle.pair_laws.specs.host_model.specs.Circumstances.{Circumstance, Excerpt}
use Rattle.pair_laws.specs.host_model.specs.Clients.{ClientProfile}
use Rattle.pair_laws.specs.host_model.specs.Shelves.{is_next, measured, bare_part, fitting}
use Rattle.pair_laws.specs.host_laws.specs.Feeds.{Feed, Gifts, Learns, Receives, Happens, Sent, Steps}
use Rattle.pair_laws.specs.host_laws.specs.Pushing.{Affair, Begins, Does, AllAsked, client_after, pushed_from}
use Rattle.pair_laws.specs.host_laws.proofs.AllAsked.{IsBare, FeedSo, all_asked}
use Rattle.pair_laws.specs.host_laws.proofs.Excerpts.{HasAll, GivesAll, feed_held}
use Rattle.pair_laws.specs.shelf_model.specs.Held.{IsPartOctets, IsHeld}
use Rattle.pair_laws.specs.shelf_model.proofs.Sizes.{octets_held}
use Rattle.request_laws.specs.TogetherHeard.{GivesOctets}

-- what its client is answered with a deed
abbrev pub IsGivenOctets : Affair → Type 0
IsGivenOctets (Begins size name) = Unit {0}
IsGivenOctets (Does (Hears news)) = Unit {0}
IsGivenOctets (Does (Asks parts)) = AllByRecursion IsPartOctets parts
IsGivenOctets (Does Finishes) = Unit {0}
IsGivenOctets (Does Cancels) = Unit {0}

-- ---- its parts

abbrev AreOctets : List Part → Type 0
AreOctets parts = AllByRecursion IsPartOctets parts

measured_octets : (count : ℕ) (part : Part) → IsPartOctets part → IsPartOctets (measured count part)
measured_octets count (Ok part) fits = by (length part == count)
  where
    by : (same : Bool) → (let failed : Part = Err fault.Failed in IsPartOctets (cond same (Ok part) failed))
    by true = fits
    by false = tt
measured_octets count (Err fault) fits = tt

next_octets : (count : ℕ) (part : Part) (test : Bool) → IsPartOctets part → (let failed : Part = Err fault.Failed in IsPartOctets (cond test (measured count part) failed))
next_octets count part true fits = measured_octets count part fits
next_octets count part false fits = tt

answers_octets : (excerpts : List Excerpt) → AllByRecursion (IsHeld None) excerpts → AreOctets (map bare_part excerpts)
answers_octets [] all = tt
answers_octets (excerpt ∷ excerpts) all = (octets_held None excerpt.name excerpt.at excerpt.answer all.0, answers_octets excerpts all.1)

fitting_octets : (client : Client) (excerpts : List Excerpt) → AllByRecursion (IsHeld None) excerpts → AreOctets (fitting client excerpts)
fitting_octets client [] all = tt
fitting_octets client (excerpt ∷ excerpts) all = (next_octets (put_count client) excerpt.answer (is_next client excerpt) (octets_held None excerpt.name excerpt.at excerpt.answer all.0), answers_octets excerpts all.1)

-- ---- what its client goes through

abbrev Is : Affair → Client → Type 0
Is one client = IsGivenOctets one

bare_given : (deed : Deed) (client : Client) → IsBare deed → Is (Does deed) client
bare_given (Hears news) client bare = tt
bare_given (Asks []) client bare = tt
bare_given (Asks (part ∷ parts)) client bare = absurd bare
bare_given Finishes client bare = tt
bare_given Cancels client bare = tt

news_given : (circumstances : List Circumstance) (news : News) (p : ClientProfile) → FeedSo Is bare_given p (Learns circumstances news)
news_given circumstances (Linked event) p = tt
news_given circumstances (Failed status) p = tt
news_given circumstances (Heard pdu) p = tt
news_given circumstances TimerFired p = tt
news_given circumstances Cancelled p = tt
news_given circumstances (Opening name) p = tt

feed_given : (feed : Feed) (p : ClientProfile) → HasAll (IsHeld None) p → FeedSo Is bare_given p feed
feed_given (Gifts circumstances) p all = tt
feed_given (Learns circumstances news) p all = news_given circumstances news p
feed_given (Receives own psm sdu) p all = tt
feed_given (Happens event v) p all = tt
feed_given (Sent v) p all = tt
feed_given (Steps v) p all = fitting_octets p.client p.parts all

octets_give : (feed : Feed) → GivesOctets feed → GivesAll (IsHeld None) feed
octets_give (Gifts circumstances) of = of
octets_give (Learns circumstances news) of = tt
octets_give (Receives own psm sdu) of = tt
octets_give (Happens event v) of = tt
octets_give (Sent v) of = tt
octets_give (Steps v) of = tt

all_given : (affairs : List Affair) (client : Client) → AllAsked Is affairs client → AllByRecursion IsGivenOctets affairs
all_given [] client all = tt
all_given (one ∷ rest) client all = (all.0, all_given rest (client_after one client) all.1)

pub affairs-given : (settings : Settings) (feeds : List Feed) (p : ClientProfile) → AllByRecursion GivesOctets feeds → HasAll (IsHeld None) p → AllByRecursion IsGivenOctets (pushed_from settings p feeds)
affairs-given settings feeds p gives all =
    all_given (pushed_from settings p feeds) p.client
    (all_asked Is bare_given settings (HasAll (IsHeld None)) GivesOctets (λ q feed of has. feed_held (IsHeld None) settings q feed (octets_give feed of) has) (λ q feed of has. feed_given feed q has) feeds p all gives)
