-- Push after push over RFCOMM: where requests come one at a time, all holds that the laws of a server ask of what may come.
use Rattle.std.proofs.Common.{◌≡◌, ◌<◌, ◌≤◌, ◌^◌, true, false, ℕ, List, [], ◌∷◌, ◌++◌, refl, sym, ap, subst, ◌∙◌, append-nil, append_assoc}
use Rattle.std.specs.List.{AllByRecursion, flat_map}
use Rattle.link_talk.specs.bt_base.specs.declared.settings.Settings.{Settings}
use Rattle.link_talk.specs.bt_base.specs.Objects.{Object as Stored}
use Rattle.push_model.specs.rfcomm_frames.specs.declared.connection.Role.TheVariants.{Initiator}
use Rattle.push_model.specs.rfcomm_model.specs.Machine.{Mux}
use Rattle.push_model.specs.Client.{Client}
use Rattle.push_model.specs.Laws as deeds
use Rattle.push_model.specs.Server.{Reacted}
use Rattle.push_model.specs.Service.{Service}
use Rattle.push_model.specs.obex_session.specs.InboxCalls.{Answer}
use Rattle.link_talk.specs.bt_base.specs.declared.settings.Transport.{Transport}
use Rattle.push_laws.specs.Carriage.{Carriage, no_carriage, carriage_after, StayCarried, ServesMuxed, FrameFits, StaysThere, IsPushedMuxed, ComesMuxed, AllComeMuxed, PushesMayCome, PushesMayFail}
use Rattle.push_laws.specs.Faults.{Marked, unmarked}
use Rattle.push_laws.specs.Laws.{new_over}
use Rattle.push_laws.specs.Occurrences.{Occurrence, LinkDown, done}
use Rattle.push_laws.specs.Parties.{Move, OfServer, OfClient, server_side, Push, begun_of, ended_with, over_pushes}
use Rattle.push_laws.specs.Premises.{AllGranted, NoneShort, IsHeard, IsTaken, MayCome, AllCome}
use Rattle.push_laws.proofs.Calm.{IsCalm, first_calm}
use Rattle.push_laws.proofs.Gaining.{Holds, holds_more, as_alone, first_holds, Clear, clear_more}
use Rattle.push_laws.proofs.Readings.{unmarked_more}
use Rattle.push_laws.proofs.Numbers.{K, numbers_stay}
use Rattle.push_laws.proofs.Throughout.{Numbers, numbers_of, Phase, Waits, phase_goes, deed_phase, down_fits, IsDown, Rests, Fails, is_down}
use Rattle.push_laws.proofs.Turns.{first_clear}

-- What stays of a server whose inbox answers so: no call answered want of memory.
module _ (Are : List Answer → Type 0) (Comes : List Occurrence → Service → Transport → List ℕ → Type 0) (settings : Settings) (Stays : List Occurrence → Reacted → Type 0)
    (works : (past : List Occurrence) (at : Reacted) → Stays past at → at.server.listener.service.failed ≡ false)
    (more : (past : List Occurrence) (one : Occurrence) (at : Reacted) → Stays past at → MayCome Are (Comes past at.server.listener.service) settings past at one → Stays (past ++ one ∷ []) (done one at)) where
  serves : (past : List Occurrence) (at : Reacted) (one : Occurrence) → Stays past at → ComesMuxed Are (Comes past at.server.listener.service) settings past at one → ServesMuxed at one
  serves past at one c comes = record { own = comes.own; works = works past at c }

  may : (past : List Occurrence) (at : Reacted) (one : Occurrence) → ComesMuxed Are (Comes past at.server.listener.service) settings past at one → FrameFits at one → MayCome Are (Comes past at.server.listener.service) settings past at one
  may past at one comes fits = record {
    own = comes.own;
    answers = comes.answers;
    requests = comes.requests;
    frame = λ sdu is. record { room = fits.room sdu is; behind = comes.behind sdu is };
    orderly = fits.orderly;
  }

  -- ---- a push, and what is behind it

  module _ (n : Numbers) (mux : Mux) (role : mux.role ≡ Initiator) (fits : mux.largest < 2 ^ 16) (some : 1 ≤ mux.account.cap) (few : mux.account.cap ≤ 40) (tail : List Occurrence) where
    abbrev GoesOn : Type 0
    GoesOn = (past : List Occurrence) (client : Client) (c : Carriage) (at : Reacted) → K n.largest n.cap at.server.mux → Phase mux past client c at.server → Stays past at → AllComeMuxed Are Comes settings past at tail → AllCome Are Comes settings past at tail

    moves_come : (moves : List Move) (past : List Occurrence) (client : Client) (c : Carriage) (at : Reacted) → StaysThere moves client → StayCarried moves client c → AllComeMuxed Are Comes settings past at (server_side moves ++ tail) → K n.largest n.cap at.server.mux → Phase mux past client c at.server
        → Stays past at → GoesOn → AllCome Are Comes settings past at (server_side moves ++ tail)
    moves_come [] past client c at there carried come k phase clear on = on past client c at k phase clear come
    moves_come (OfServer one ∷ moves) past client c at there carried come k phase clear on =
        let g = phase_goes mux past client c at one (serves past at one clear come.0) carried.0 carried.1 phase in
        let now = may past at one come.0 g.fits in
        (now, moves_come moves (past ++ one ∷ []) client (carriage_after (OfServer one) client c) (done one at) there.1 carried.2 come.1 (numbers_stay n.largest n.cap one at k) g.phase (more past one at clear now) on)
    moves_come (OfClient deed ∷ moves) past client c at there carried come k phase clear on =
        moves_come moves past (deeds.done deed client) (carriage_after (OfClient deed) client c) at there.1 carried.2 come k (deed_phase n mux role fits some few past client c at.server deed carried.0 there.0 k phase) clear on

  push_comes : (n : Numbers) (tail : List Occurrence) (push : Push) (pushed : IsPushedMuxed push) (past : List Occurrence) (at : Reacted) → K n.largest n.cap at.server.mux → IsCalm past at.server → Stays past at → AllComeMuxed Are Comes settings past at (server_side push.moves ++ tail)
      → GoesOn n push.client.mux pushed.role pushed.fits pushed.some pushed.few tail → AllCome Are Comes settings past at (server_side push.moves ++ tail)
  push_comes n tail push pushed past at k calm clear come on =
      moves_come n push.client.mux pushed.role pushed.fits pushed.some pushed.few tail push.moves past (begun_of push) no_carriage at pushed.there pushed.carried come k (Waits (refl, refl, pushed.muxed) refl refl refl calm) clear on

  -- ---- push after push

  all_come : (n : Numbers) (pushes : List Push) (last : Push) (past : List Occurrence) (at : Reacted) → AllByRecursion IsPushedMuxed pushes → IsPushedMuxed last → K n.largest n.cap at.server.mux → IsCalm past at.server → Stays past at
      → AllComeMuxed Are Comes settings past at (over_pushes pushes last) → AllCome Are Comes settings past at (over_pushes pushes last)
  all_come n [] last past at pushed over k calm clear come =
      let same = append-nil (server_side last.moves) in
      subst (AllCome Are Comes settings past at) same (push_comes n [] last over past at k calm clear (subst (AllComeMuxed Are Comes settings past at) (sym same) come) (λ past' client' c' at' k' phase' clear' come'. tt))
  all_come n (push ∷ pushes) last past at pushed over k calm clear come =
      let others : List Occurrence = over_pushes pushes last in
      let same : server_side push.moves ++ LinkDown ∷ others ≡ over_pushes (push ∷ pushes) last =
      sym (ap (λ (os : List Occurrence). os ++ server_side last.moves) (append_assoc (server_side push.moves) (LinkDown ∷ []) (flat_map ended_with pushes))
      ∙ append_assoc (server_side push.moves) (LinkDown ∷ flat_map ended_with pushes) (server_side last.moves)) in
      let next : (past' : List Occurrence) (at' : Reacted) → K n.largest n.cap at'.server.mux → Stays (past' ++ LinkDown ∷ []) (done LinkDown at') → AllComeMuxed Are Comes settings (past' ++ LinkDown ∷ []) (done LinkDown at') others → IsDown past' at'
      → AllCome Are Comes settings (past' ++ LinkDown ∷ []) (done LinkDown at') others =
      λ past' at' k' clear' come' down. elim down [
        | Rests calm' ↦ all_come n pushes last (past' ++ LinkDown ∷ []) (done LinkDown at') pushed.1 over (numbers_stay n.largest n.cap LinkDown at' k') calm' clear' come'
        | Fails failed ↦ absurd (let never : true ≡ false = sym failed ∙ works (past' ++ LinkDown ∷ []) (done LinkDown at') clear' in cc)
      ] in
      subst (AllCome Are Comes settings past at) same
      (push_comes n (LinkDown ∷ others) push pushed.0 past at k calm clear (subst (AllComeMuxed Are Comes settings past at) (sym same) come)
      (λ past' client' c' at' k' phase' clear' come'.
      let fits = down_fits n push.client.mux pushed.0.role pushed.0.fits pushed.0.some pushed.0.few past' client' c' at' (serves past' at' LinkDown clear' come'.0) phase' in
      let now = may past' at' LinkDown come'.0 fits in
      (now, next past' at' k' (more past' LinkDown at' clear' now) come'.1 (is_down n.largest n.cap past' at' (works past' at' clear') k'))))

pub pushes-may_come : PushesMayCome
unfolding numbers_of
pushes-may_come settings before pushes last pushed over come =
    all_come AllGranted (IsHeard settings) settings (Clear settings before) (λ past at c. let holds = c.holds in holds.upholds.listens.serves.enough) (clear_more settings before) (numbers_of settings) pushes last [] (new_over settings before) pushed over (refl, refl, refl, refl) (first_calm settings)
    (first_clear settings before) come

-- ---- where calls of the inbox fail

-- what was heard, marked where a call failed
pub record Marks (settings : Settings) (before : List Stored) (past : List Occurrence) (at : Reacted) : Type 0 where
  pub marks : List Marked
  pub same : unmarked marks ≡ past
  pub holds : Holds settings before marks at

pub marks_more : (settings : Settings) (before : List Stored) (past : List Occurrence) (one : Occurrence) (at : Reacted) → Marks settings before past at → MayCome NoneShort (IsTaken settings past at.server.listener.service) settings past at one → Marks settings before (past ++ one ∷ []) (done one at)
marks_more settings before past one at m may =
    let more = holds_more settings before m.marks one at m.holds (as_alone settings before (unmarked m.marks) one at (subst (λ (os : List Occurrence). MayCome NoneShort (IsTaken settings os at.server.listener.service) settings os at one) (sym m.same) may)) in
    let last : Marked = record { occurrence = one; refused = more.refused } in
    record { marks = m.marks ++ last ∷ []; same = unmarked_more m.marks last ∙ ap (λ (os : List Occurrence). os ++ one ∷ []) m.same; holds = more.holds }

pub pushes-may_fail : PushesMayFail
unfolding numbers_of
pushes-may_fail settings before pushes last pushed over come =
    all_come NoneShort (IsTaken settings) settings (Marks settings before) (λ past at m. let holds = m.holds in holds.upholds.listens.serves.enough) (marks_more settings before) (numbers_of settings) pushes last [] (new_over settings before) pushed over (refl, refl, refl, refl) (first_calm settings)
    (record { marks = []; same = refl; holds = first_holds settings before }) come
