-- What a server says can be read by a client that awaits a response of its kind (IrOBEX 1.5, 3.2.1 and 3.4): a response to CONNECT has fields, and
-- no other has.
use Rattle.std.specs.Prelude.{◌≡◌, ℕ, ◌<◌, ◌≤◌, ◌^◌, ◌⊎◌, Bool, true, false, List, [], Option, Some, None, IfSome}
use Rattle.obex_session.specs.declared.asking.Request.{Request}
use Rattle.obex_session.specs.declared.asking.Request.TheVariants.{Connect, FirstPut, Put, Stream, FinalPut, Abort, Disconnect}
use Rattle.obex_session.specs.declared.client.Answered.{Answered}
use Rattle.obex_session.specs.declared.client.Answered.TheVariants.{Go, Done, Refused, Bad, Srmp}
use Rattle.obex_session.specs.Asking.{Asking}
use Rattle.obex_session.specs.InboxCalls.{Answer}
use Rattle.obex_session.specs.Past.{Serving}
use Rattle.obex_session.specs.Replied.{said_to}
use Rattle.obex_session.specs.Responses.{is_connect}
use Rattle.obex_session.specs.Views.{answer_at}

-- CONNECT waits for its response
abbrev pub awaits_connect : Option Request → Bool
awaits_connect None = false
awaits_connect (Some Connect) = true
awaits_connect (Some FirstPut) = false
awaits_connect (Some Put) = false
awaits_connect (Some Stream) = false
awaits_connect (Some FinalPut) = false
awaits_connect (Some Abort) = false
awaits_connect (Some Disconnect) = false

-- the octets were a response, without parameters of single response mode
abbrev pub IsReadable : Answered → Type 0
IsReadable Go = Unit {0}
IsReadable Done = Unit {0}
IsReadable (Refused code) = Unit {0}
IsReadable (Bad refusal) = ⊥
IsReadable Srmp = ⊥

-- Whatever a packet is and whatever the inbox answers, a server says nothing or what a client can read that awaits CONNECT exactly where the packet
-- begins as one.
abbrev pub RepliesAreRead : Type 0
RepliesAreRead = (session : Serving) (client : Asking) (packet : List ℕ) (answers : List Answer) → 255 ≤ session.maximum → session.maximum < 2 ^ 16 → 7 ≤ client.maximum → awaits_connect client.awaited ≡ is_connect packet
    → (said_to session packet answers ≡ []) ⊎ IfSome (answer_at client.awaited client (said_to session packet answers)) IsReadable
