-- How often the client of a run sends its request to the service records, against the words of the run (Core 5.1, Volume 3 Part B, 4.2; which words are adverse is this project's own).
use Rattle.std.specs.Prelude.{ℕ, ◌≡◌, ◌≤◌, ◌<◌, ◌+◌, ◌&&◌, ◌||◌, not, Bool, true, List, [], ◌∷◌, ◌++◌, Option}
use Rattle.pair_laws.specs.bt_base.specs.Objects.{Contents}
use Rattle.pair_laws.specs.push_script.specs.declared.scenario.Scenario.{Scenario}
use Rattle.cause_laws.specs.push_terms.specs.declared.word.Side.TheVariants.{A, B}
use Rattle.cause_laws.specs.push_terms.specs.declared.word.Word.{Word}
use Rattle.cause_laws.specs.sdp_client.specs.Asking.{is_due}
use Rattle.cause_laws.specs.push_model.specs.Client.{Client}
use Rattle.cause_laws.specs.push_model.specs.Events.{is_search, armed}
use Rattle.cause_laws.specs.radio_model.specs.declared.deed.Deed.{Deed}
use Rattle.cause_laws.specs.radio_model.specs.declared.deed.Deed.TheVariants as deeds
use Rattle.cause_laws.specs.radio_model.specs.Radio.{found}
use Rattle.cause_laws.specs.world_model.specs.Worlds.{Happening, Turns, all_words, IsAtRest, Does, Runs}
use Rattle.cause_laws.specs.scenario_laws.specs.Captures.{client_of, server_of, BothHosts, beginning, Happened}
use Rattle.pair_laws.specs.channel_laws.specs.Tries.{one_if}
use Rattle.pair_laws.specs.Costs.{adverse_in}
use Rattle.pair_laws.specs.Enough.{remembering}

-- ---- a request

-- of the times that a client sends its request at most it has that many left, and so many more are spent at most
abbrev pub IsSentAtMost : (count : ℕ) → Client → Type 0
IsSentAtMost count client = client.tries ≤ client.left + count

-- all of its request was sent, and its reply has not come: so its timer has it sent once more
abbrev pub awaits_reply : Client → Bool
awaits_reply client = armed client && not (client.given || is_due client.query)

-- While it searches, its request was sent for the t-th time only behind t - 1 adverse words; and where it is to be sent once more, as many were adverse as it was sent.
abbrev pub IsSearchPaid : (adverse : ℕ) → Client → Type 0
IsSearchPaid adverse client = is_search client.stage ≡ true → IsSentAtMost (adverse + one_if (not (is_due client.query))) client

-- ---- a run

-- all that happened, where the inbox of host b does not lack memory: a server whose inbox does answers nothing more
abbrev pub HappenedWithMemory : Scenario → Option Contents → List Happening → BothHosts → Type 0
HappenedWithMemory scenario content happenings world = Runs (client_of scenario) (remembering (server_of scenario content)) happenings (beginning scenario content) world

-- At each moment of the run at which nothing moves without a word, and nothing is under way either: a request that awaits its reply was sent no more often than words were adverse.
abbrev pub QuietIsPaid : Scenario → Option Contents → List Happening → Type 0
QuietIsPaid scenario content happenings = (done later : List Happening) (world : BothHosts) → happenings ≡ done ++ later → HappenedWithMemory scenario content done world → IsAtRest (client_of scenario) (remembering (server_of scenario content)) world → world.radio.a.waiting ≡ [] → world.radio.b.waiting ≡ []
    → awaits_reply world.a.upper.profile.client ≡ true → IsSentAtMost (adverse_in (all_words done)) world.a.upper.profile.client

-- Then so it is of each request of such a run, over either transport, wherever it broke off.
abbrev pub SearchesCostWords : Type 0
SearchesCostWords = (scenario : Scenario) (content : Option Contents) (happenings : List Happening) (world : BothHosts) → HappenedWithMemory scenario content happenings world → QuietIsPaid scenario content happenings → IsSearchPaid (adverse_in (all_words happenings)) world.a.upper.profile.client

-- And it has as many tries as the settings of its scenario say, all the while.
abbrev pub TriesStay : Type 0
TriesStay = (scenario : Scenario) (content : Option Contents) (happenings : List Happening) (world : BothHosts) → Happened scenario content happenings world → world.a.upper.profile.client.tries ≡ scenario.settings.tries

-- ---- its timer

-- the timer of host a fires, alone or with that of the other
abbrev pub FiresNear : Deed → Type 0
FiresNear deeds.Nothing = ⊥
FiresNear (deeds.Meets way fate) = ⊥
FiresNear (deeds.Fires A) = Unit {0}
FiresNear (deeds.Fires B) = ⊥
FiresNear deeds.FiresBoth = Unit {0}
FiresNear deeds.Breaks = ⊥
FiresNear deeds.Cancels = ⊥

-- Then while fewer words are adverse than its scenario has the hosts try, the timer finds a try left each time that it fires for a request: it has that sent once more, and ends no push.
abbrev pub FiringsLeaveTries : Type 0
FiringsLeaveTries = (scenario : Scenario) (content : Option Contents) (done : List Happening) (ordinal : ℕ) (word : Word) (world next : BothHosts) → HappenedWithMemory scenario content done world → Does (client_of scenario) (remembering (server_of scenario content)) (Turns ordinal word) world next → FiresNear (found word world.radio)
    → QuietIsPaid scenario content (done ++ Turns ordinal word ∷ []) → adverse_in (all_words (done ++ Turns ordinal word ∷ [])) < scenario.settings.tries → awaits_reply world.a.upper.profile.client ≡ true → 1 ≤ world.a.upper.profile.client.left
