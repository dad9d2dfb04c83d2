-- A push that is under way without a cause may be cancelled until all its PUTs were sent (Object Push Profile 1.2, 4.3).
use Rattle.std.specs.Prelude.{ℕ, ◌≡◌, Bool, false, List, ◌∷◌, Option, None}
use Rattle.link_talk.specs.bt_base.specs.Objects.{Object}
use Rattle.push_model.specs.obex_session.specs.ObjectPuts.{IsWhole}
use Rattle.push_model.specs.Client.{Client, is_idle, may_cancel, with_object}
use Rattle.push_model.specs.Laws.{Deed, all_done}
use Rattle.push_model.specs.Steps.{connect_octets}
use Rattle.push_laws.specs.Sending.{packets_sent, AllAnswer, MayPush}

-- CONNECT and all PUTs of the object, and nothing else
pub record AllIsSent (connect : List ℕ) (wanted : Bool) (name : List ℕ) (size : ℕ) (content : Option (List Object)) (sent : List (List ℕ)) : Type 0 where
  pub puts : List (List ℕ)
  pub sent_is : sent ≡ connect ∷ puts
  pub whole : IsWhole wanted name size puts content

-- Where it may not be, its client has sent all of them, whatever it heard.
abbrev pub CancelsUntilAllIsSent : Type 0
CancelsUntilAllIsSent = (client : Client) (name : List ℕ) (size : ℕ) (content : Option (List Object)) (deeds : List Deed) → MayPush client name size → AllAnswer content deeds (with_object name size client) →
    let begun = with_object name size client in
    let after = all_done deeds begun in
    is_idle after ≡ false → after.cause ≡ None → may_cancel after ≡ false → AllIsSent (connect_octets client.session) client.session.wanted name size content (packets_sent deeds begun)
