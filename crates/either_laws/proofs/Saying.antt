-- What a server lends is said by its octets, where the frames that come to it are octets and nothing comes over L2CAP.
use Rattle.std.proofs.Common.{◌≡◌, ℕ, List, [], ◌∷◌, ◌++◌, refl, sym, subst, ◌∙◌}
use Rattle.std.specs.List.{AllByRecursion}
use Rattle.std.proofs.lemmas.Bool.{cond_both, cond-false}
use Rattle.request_laws.specs.bt_base.specs.declared.settings.Settings.{Settings}
use Rattle.request_laws.specs.bt_base.specs.Objects.{Contents}
use Rattle.request_laws.specs.bt_base.specs.Octets.{IsOctets}
use Rattle.std.specs.Prelude.{Option}
use Rattle.request_laws.specs.rfcomm_frames.specs.FrameReading.{is_empty}
use Rattle.request_laws.specs.push_model.specs.Server.{Reacted, rfcomm_psm}
use Rattle.request_laws.specs.push_laws.specs.Dialogs.{NoPacket}
use Rattle.request_laws.specs.push_laws.specs.Occurrences.{Occurrence, Came, Went, Closed, LinkDown, Asked, Answering, done, all_done}
use Rattle.request_laws.specs.push_laws.proofs.Servers.{by_psm}
use Rattle.request_laws.specs.host_model.specs.Servers.{ServerProfile, server_profile}
use Rattle.request_laws.specs.host_laws.specs.Feeds.{Feed, Gifts, Learns, Receives, Happens, Sent, Steps, fed}
use Rattle.request_laws.specs.host_laws.specs.Serving.{served_with, served_from, reacted}
use Rattle.request_laws.specs.host_laws.proofs.Serving.{feed_done}
use Rattle.request_laws.specs.MuxFed.{SaysSo, AllSaySo}
use Rattle.request_laws.specs.SpellableServers.{LendsSpellable}
use Rattle.request_laws.proofs.Feeding.{all_ahead}
use Rattle.request_laws.proofs.SpellableServers.{server_frames_are_said}
use Rattle.carried_laws.proofs.Ordering.{InOrderFrom}

abbrev BringsOctets : Occurrence → Type 0
BringsOctets one = (sdu : List ℕ) → one ≡ Came rfcomm_psm sdu → IsOctets sdu

all_bring : (settings : Settings) (list past : List Occurrence) → InOrderFrom settings past list → AllByRecursion BringsOctets list
all_bring settings [] past order = tt
all_bring settings (one ∷ list) past order = ((λ sdu is. (order.0 sdu is).octets), all_bring settings list (past ++ one ∷ []) order.1)

came_lends : (sdu : List ℕ) (at : Reacted) → LendsSpellable at.server → (psm : ℕ) → NoPacket (Came psm sdu) → BringsOctets (Came psm sdu) → LendsSpellable (done (Came psm sdu) at).server
came_lends sdu at s psm =
    by_psm (λ p. NoPacket (Came p sdu) → BringsOctets (Came p sdu) → LendsSpellable (done (Came p sdu) at).server)
    (λ aside octets. cond_both at.server.listener.service.failed _ _ (λ (r : Reacted). LendsSpellable r.server) (λ e. s) (λ e. cond_both (is_empty at.server.reply) _ _ LendsSpellable (λ f. s) (λ f. s)))
    (λ aside octets. server_frames_are_said.doing (Came rfcomm_psm sdu) at (octets sdu refl) s)
    (λ aside octets. absurd (aside refl))
    (λ p x y z aside octets.
    cond_both at.server.listener.service.failed _ _ (λ (r : Reacted). LendsSpellable r.server) (λ e. s)
    (λ e. subst (λ (r : Reacted). LendsSpellable r.server) (sym (cond-false _ _ _ x ∙ (cond-false _ _ _ y ∙ cond-false _ _ (let r : Reacted = record { server = at.server; gift = at.gift } in r) z))) s))
    psm

doing_lends : (one : Occurrence) (at : Reacted) → NoPacket one → BringsOctets one → LendsSpellable at.server → LendsSpellable (done one at).server
doing_lends (Came psm sdu) at aside octets s = came_lends sdu at s psm aside octets
doing_lends (Went psm sdu) at aside octets s = server_frames_are_said.doing (Went psm sdu) at tt s
doing_lends (Closed psm) at aside octets s = server_frames_are_said.doing (Closed psm) at tt s
doing_lends LinkDown at aside octets s = server_frames_are_said.doing LinkDown at tt s
doing_lends Asked at aside octets s = server_frames_are_said.doing Asked at tt s
doing_lends (Answering answers) at aside octets s = server_frames_are_said.doing (Answering answers) at tt s

all_lend : (list : List Occurrence) (at : Reacted) → AllByRecursion NoPacket list → AllByRecursion BringsOctets list → LendsSpellable at.server → LendsSpellable (all_done list at).server
all_lend [] at aside octets s = s
all_lend (one ∷ list) at aside octets s = all_lend list (done one at) aside.1 octets.1 (doing_lends one at aside.0 octets.0 s)

says_so : (feed : Feed) (p : ServerProfile) → LendsSpellable p.server → SaysSo p feed
says_so (Gifts circumstances) p s = tt
says_so (Learns circumstances news) p s = tt
says_so (Receives own psm sdu) p s = tt
says_so (Happens event v) p s = tt
says_so (Sent v) p s = tt
says_so (Steps v) p s = server_frames_are_said.saying p.server s

say_all : (settings : Settings) (content : Option Contents) (feeds : List Feed) (p : ServerProfile) → LendsSpellable p.server → AllByRecursion NoPacket (served_from settings content p feeds) → AllByRecursion BringsOctets (served_from settings content p feeds) → AllSaySo settings content p feeds
say_all settings content [] p s aside octets = tt
say_all settings content (feed ∷ feeds) p s aside octets =
    let next = fed (server_profile settings content) p feed in
    let here = served_with p feed in
    let later = served_from settings content next feeds in
    let none = all_ahead NoPacket here later aside in
    let bring = all_ahead BringsOctets here later octets in
    (says_so feed p s, say_all settings content feeds next (subst (λ (r : Reacted). LendsSpellable r.server) (sym (feed_done settings content p feed)) (all_lend here (reacted p) none.0 bring.0 s)) none.1 bring.1)

pub all_said : (settings : Settings) (content : Option Contents) (feeds : List Feed) (p : ServerProfile) (past : List Occurrence) → LendsSpellable p.server → AllByRecursion NoPacket (served_from settings content p feeds)
    → InOrderFrom settings past (served_from settings content p feeds) → AllSaySo settings content p feeds
all_said settings content feeds p past s aside order = say_all settings content feeds p s aside (all_bring settings (served_from settings content p feeds) past order)
