-- A client of Object Push: where its push is, and what it holds for the steps of it (Object Push Profile 1.2, 4.3).
use Rattle.std.specs.Prelude.{ℕ, ◌-◌, ◌&&◌, not, min, Bool, true, false, List, [], Option, Some, None, is_none, Result, Ok, Err, if◌then◌else◌}
use Rattle.bt_base.specs.declared.ports.PortFault.{PortFault}
use Rattle.bt_base.specs.declared.ports.PortFault.TheVariants as fault
use Rattle.bt_base.specs.declared.settings.Settings.{Settings}
use Rattle.bt_base.specs.declared.settings.Transport.{Transport}
use Rattle.bt_base.specs.declared.settings.Transport.TheVariants.{L2cap, Rfcomm}
use Rattle.push_terms.specs.declared.outcome.Outcome.{Outcome}
use Rattle.push_terms.specs.declared.outcome.Outcome.TheVariants.{ShelfFault, Cancelled}
use Rattle.rfcomm_frames.specs.Frames.{PlainFrame}
use Rattle.rfcomm_frames.specs.declared.connection.Role.TheVariants.{Initiator}
use Rattle.rfcomm_model.specs.Machine.{Mux, new_mux}
use Rattle.obex_session.specs.Asking as obex
use Rattle.obex_session.specs.Views.{is_final_put}
use Rattle.sdp_client.specs.Asking as search
use Rattle.push_model.specs.declared.course.Contact.{Contact}
use Rattle.push_model.specs.declared.course.Contact.TheVariants.{Unmet}
use Rattle.push_model.specs.declared.course.Point.TheVariants.{Due, Asked}
use Rattle.push_model.specs.declared.course.Stage.{Stage}
use Rattle.push_model.specs.declared.course.Stage.TheVariants.{Rest, Link, SearchChannel, Search, SearchEnd, Features, ObjectChannel, Object, ObjectEnd, LinkEnd, Over}
use Rattle.push_model.specs.Causes.{Ending, InOrder, AtOnce, ending_of}

pub record Client : Type 0 where
  pub transport : Transport
  -- how often a request to the service records is sent at most
  pub tries : ℕ
  pub stage : Stage
  -- the first cause that came since the push was begun
  pub cause : Option Outcome
  -- the object
  pub name : List ℕ
  pub size : ℕ
  -- the question for the service, and how often its request may be sent still
  pub query : search.Asking
  pub left : ℕ
  -- the PSM of the channel that carries the object, and the server channel that the multiplexer opens
  pub psm : ℕ
  pub channel : ℕ
  -- how many octets that channel takes at a time
  pub limit : ℕ
  pub contact : Contact
  pub session : obex.Asking
  -- the last request is not wholly sent
  pub going : Bool
  -- what is left to send of the last request: all of it until it was sent, and over RFCOMM what the multiplexer has not taken
  pub rest : List ℕ
  -- the multiplexer, its frame that waits, and the octets of a response that is not whole
  pub mux : Mux
  pub frame : Option PlainFrame
  pub held : List ℕ
  -- a step was given that is not done
  pub given : Bool
  -- a call answered want of memory
  pub failed : Bool

-- ---- what it shows

abbrev pub is_rest : Stage → Bool
is_rest Rest = true
is_rest (Link point) = false
is_rest (SearchChannel point) = false
is_rest Search = false
is_rest (SearchEnd point) = false
is_rest (Features point) = false
is_rest (ObjectChannel point) = false
is_rest Object = false
is_rest (ObjectEnd point) = false
is_rest (LinkEnd point) = false
is_rest Over = false

abbrev pub is_idle : Client → Bool
is_idle client = is_rest client.stage

-- a push goes on without a cause, and its final PUT was not sent
abbrev pub may_cancel : Client → Bool
may_cancel client = not (is_rest client.stage) && (is_none client.cause && not (is_final_put client.session.awaited))

-- ---- how it ends

-- Closing in order: a channel that is there is closed, one that is only asked for too, and then the link. On the channel
-- of the object the client takes leave first. Replies of the service records and the features are not awaited.
abbrev pub in_order : Stage → Stage
in_order Rest = Rest
in_order (Link Due) = Over
in_order (Link Asked) = Link Asked
in_order (SearchChannel Due) = LinkEnd Due
in_order (SearchChannel Asked) = SearchEnd Due
in_order Search = SearchEnd Due
in_order (SearchEnd point) = SearchEnd point
in_order (Features point) = LinkEnd Due
in_order (ObjectChannel Due) = LinkEnd Due
in_order (ObjectChannel Asked) = ObjectEnd Due
in_order Object = Object
in_order (ObjectEnd point) = ObjectEnd point
in_order (LinkEnd point) = LinkEnd point
in_order Over = Over

-- the link is broken, where one is there
abbrev pub at_once : Stage → Stage
at_once Rest = Rest
at_once (Link Due) = Over
at_once (Link Asked) = Link Asked
at_once (SearchChannel point) = LinkEnd Due
at_once Search = LinkEnd Due
at_once (SearchEnd point) = LinkEnd Due
at_once (Features point) = LinkEnd Due
at_once (ObjectChannel point) = LinkEnd Due
at_once Object = LinkEnd Due
at_once (ObjectEnd point) = LinkEnd Due
at_once (LinkEnd point) = LinkEnd point
at_once Over = Over

abbrev pub stage_after : Ending → Stage → Stage
stage_after InOrder stage = in_order stage
stage_after AtOnce stage = at_once stage

-- The first cause fixes the outcome; whatever fails later breaks the link.
abbrev pub ends_by : Option Outcome → Outcome → Client → Client
ends_by None outcome client = record client { cause = Some outcome; stage = stage_after (ending_of outcome) client.stage }
ends_by (Some earlier) outcome client = record client { stage = at_once client.stage }

abbrev pub ends : Outcome → Client → Client
ends outcome client = ends_by client.cause outcome client

-- where there is a cause
abbrev pub ends_if : Option Outcome → Client → Client
ends_if None client = client
ends_if (Some outcome) client = ends outcome client

abbrev pub cancelled : Client → Client
cancelled client = if may_cancel client then ends Cancelled client else client

-- ---- a push begins

abbrev pub with_object : List ℕ → ℕ → Client → Client
with_object name size client = record client {
  stage = Link Due;
  cause = None;
  name = name;
  size = size;
  query = search.begun;
  left = client.tries;
  contact = Unmet;
  session = obex.fresh client.session.maximum client.session.wanted;
  going = false;
  rest = [];
  frame = None;
  held = [];
  given = false;
}

-- an object that the shelf does not give needs no link
abbrev pub without_object : PortFault → List ℕ → Client → Client
without_object fault.Failed name client = record (with_object name 0 client) { stage = Over; cause = Some ShelfFault }
without_object fault.NoMemory name client = record client { failed = true }

-- the shelf is asked for the object's size
abbrev pub begun_by : Result ℕ PortFault → List ℕ → Client → Client
begun_by (Ok size) name client = with_object name size client
begun_by (Err fault) name client = without_object fault name client

abbrev pub begins : Result ℕ PortFault → List ℕ → Client → Client
begins size name client = if client.failed then client else begun_by size name client

-- ---- a client is made

-- the greatest length of an OBEX packet that it takes and states: over L2CAP one packet is one SDU
abbrev pub own_maximum : Transport → Settings → ℕ
own_maximum L2cap settings = min settings.obex settings.mtu
own_maximum Rfcomm settings = settings.obex

-- single response mode is for L2CAP alone
abbrev pub is_direct : Transport → Bool
is_direct L2cap = true
is_direct Rfcomm = false

-- no push was begun; the numbers of channels count from the first search on
abbrev pub new_client : Settings → Client
new_client settings = record {
  transport = settings.transport;
  tries = settings.tries;
  stage = Rest;
  cause = None;
  name = [];
  size = 0;
  query = search.begun;
  left = settings.tries;
  psm = 0x0001;
  channel = 1;
  limit = 32767;
  contact = Unmet;
  session = obex.fresh (own_maximum settings.transport settings) (is_direct settings.transport && settings.srm);
  going = false;
  rest = [];
  mux = new_mux Initiator 2 (settings.mtu - 6) (settings.mtu - 6) settings.credits;
  frame = None;
  held = [];
  given = false;
  failed = false;
}
