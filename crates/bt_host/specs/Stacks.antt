-- A host in code without its framer: its line, and what stands above (this project's own).
use Rattle.std.specs.Prelude.{ℕ, zero, suc, ◌≡◌, ◌⊎◌, ◌<◌, ◌||◌, ◌&&◌, not, Bool, true, false, List, [], ◌∷◌, ◌++◌, length, is_some, Option, Some, None, Result, Ok, Err, if◌then◌else◌}
use Rattle.std.specs.List.{list_any}
use Rattle.bt_base.specs.declared.settings.Settings.{Settings}
use Rattle.h4_framing.specs.Packets.{Packet}
use Rattle.host_link.specs.declared.role.Role.{Role}
use Rattle.host_link.specs.declared.role.Role.TheVariants.{Client, Server}
use Rattle.host_link.specs.Lines.{Line}
use Rattle.host_link.specs.Calling.{may_end}
use Rattle.host_link.specs.HostCommands.{asks}
use Rattle.host_link.specs.PuttingOut.{has_room, has_buffer, is_waiting, can_take_pdu, take_pdu, put_pieces, put_command, connecting, leaving, started}
use Rattle.l2cap_channels.specs.Machine.{new_machine}
use Rattle.host_link.specs.Hearing.{fault_of, news_of, heard}
use Rattle.shelf_model.specs.host_model.specs.Circumstances.{Circumstance}
use Rattle.shelf_model.specs.host_model.specs.Profiles.{Profile}
use Rattle.shelf_model.specs.host_model.specs.Hosts.{Host, next, has_more, hear}
use Rattle.shelf_model.specs.world_model.specs.Machines.{News}
use Rattle.bt_host.specs.declared.feed_refusal.FeedRefusal.{FeedRefusal}
use Rattle.bt_host.specs.declared.feed_refusal.FeedRefusal.TheVariants.{NoMemory}
use Rattle.bt_host.specs.Refusals.{Refuses}
use Rattle.bt_host.specs.Uppers.{Upward, asking, says, told_of, hears_told}

-- its line, what stands above, and the address of the device that it pages
pub record Stacked (E : Type 0) : Type 0 where
  pub line : Line
  pub upper : Upward E
  pub paged : List ℕ

-- a host with its line, and the address of the device that it pages
pub record Standing (S : Type 0) : Type 0 where
  pub line : Line
  pub host : Host S
  pub paged : List ℕ

-- the device that a host pages where it is told of no other, the lowest octet first (this project's own)
abbrev pub usual_peer : List ℕ
usual_peer = 0x0B ∷ 0 ∷ 0 ∷ 0 ∷ 0 ∷ 0 ∷ []

-- whether a host of that role is a server
abbrev pub is_serving : Role → Bool
is_serving Client = false
is_serving Server = true

-- before anything happened
abbrev pub fresh_stack : {E : Type 0} → Role → Settings → E → Stacked E
fresh_stack role settings end = record {
  line = started role;
  upper = record { machine = new_machine settings (is_serving role); end = end; may_say = 0 };
  paged = usual_peer;
}

abbrev pub standing : {E P S : Type 0} → (E → P → List Circumstance → S) → P → Stacked E → List Circumstance → Standing S
standing pushing port stack rest = record { line = stack.line; host = asking pushing port stack.upper rest; paged = stack.paged }

-- ---- what it does by itself

pub data Deed : Type 0 where
  -- pieces of a PDU are put out, as long as there is a buffer and room for the next
  Putting : Deed
  -- the next PDU is said, and pieces of it are put out
  Saying : (pdu : List ℕ) → Deed
  -- the end of the link waits to be put out
  Ending : Deed
  -- a link is asked for
  Paging : Deed
  -- the next command is put out
  Commanding : Deed

-- the link that is up may be ended, all is said, and the profile ends the link
pub record MayEnd {S : Type 0} (A : Profile S) (old : Standing S) : Type 0 where
  pub none_waits : old.line.pieces ≡ []
  pub all_said : has_more old.host ≡ false
  pub leaves : A.leaves_link old.host.profile ≡ true
  pub may : may_end old.line ≡ true

-- a link is asked for: a Connection Complete is awaited, or a command from which it will be waits
abbrev pub is_asking : Line → Bool
is_asking line = line.asked || list_any asks line.commands.waiting

-- no link is up, none is asked for, and the profile wants one
pub record MayPage {S : Type 0} (A : Profile S) (old : Standing S) : Type 0 where
  pub off : old.line.link ≡ None
  pub unasked : is_asking old.line ≡ false
  pub wants : A.wants_link old.host.profile ≡ true

pub record Says {S : Type 0} (A : Profile S) (pdu : List ℕ) (old new : Standing S) : Type 0 where
  pub may : can_take_pdu old.line ≡ true
  pub next : next A old.host ≡ Some (pdu, new.host)
  pub line : new.line ≡ take_pdu pdu old.line
  pub paged : new.paged ≡ old.paged

abbrev pub DoesDeed : {S : Type 0} → Profile S → Deed → Standing S → Standing S → Type 0
DoesDeed A Putting old new = new ≡ record old { line = put_pieces old.line }
DoesDeed A (Saying pdu) old new = Says A pdu old new
DoesDeed A Ending old new = MayEnd A old × (new ≡ record old { line = leaving old.line.link old.line })
DoesDeed A Paging old new = MayPage A old × (new ≡ record old { line = connecting old.paged old.line })
DoesDeed A Commanding old new = new ≡ record old { line = put_command old.line }

-- one after the other
abbrev pub DoesAll : {S : Type 0} → Profile S → List Deed → Standing S → Standing S → Type 0
DoesAll A [] old new = new ≡ old
DoesAll {S} A (deed ∷ deeds) old new = (mid : Standing S) × DoesDeed A deed old mid × DoesAll A deeds mid new

-- ---- the order of its deeds

abbrev pub with_line : {S : Type 0} → (Line → Line) → Standing S → Standing S
with_line change now = record now { line = change now.line }

-- where a PDU may be taken, the next one of its channels is said; behind it the profile was asked for steps only until they had one
abbrev pub said_then : {S : Type 0} → (Standing S → Standing S) → Standing S → Option (List ℕ × Host S) → Standing S
said_then more now None = now
said_then more now (Some (pdu, host)) = more (record now { line = take_pdu pdu now.line; host = host })

abbrev pub says_then : {S : Type 0} → Profile S → (Standing S → Standing S) → Standing S → Standing S
says_then A more now = if can_take_pdu now.line then said_then more now (next A now.host) else now

-- PDU after PDU, so many at most
unfoldable pub says_up_to : {S : Type 0} → Profile S → (count : ℕ) → Standing S → Standing S
says_up_to A zero now = now
says_up_to A (suc count) now = says_then A (λ mid. says_up_to A count mid) now

-- one PDU
abbrev pub says_one : {S : Type 0} → Profile S → Standing S → Standing S
says_one A now = says_then A (λ mid. mid) now

-- PDU after PDU, as long as there is one that may be taken: a host may say as many as it counts, so it is PDU after PDU until none may be said
-- (`saying_laws`)
abbrev pub says_all : {S : Type 0} → Profile S → Standing S → Standing S
says_all A now = says_up_to A now.host.may_say now

abbrev pub leaves_now : {S : Type 0} → Profile S → Standing S → Bool
leaves_now A now = may_end now.line && (not (is_waiting now.line) && (not (has_more now.host) && A.leaves_link now.host.profile))

-- the end of the link waits to be put out, where the profile ends it and nothing is to be said
abbrev pub leaves : {S : Type 0} → Profile S → Standing S → Standing S
leaves A now = if leaves_now A now then with_line (λ line. leaving line.link line) now else now

abbrev pub pages_now : {S : Type 0} → Profile S → Standing S → Bool
pages_now A now = not (is_some now.line.link) && (not (is_asking now.line) && A.wants_link now.host.profile)

-- a link is asked for, where none is up or asked for and the profile wants one
abbrev pub pages : {S : Type 0} → Profile S → Standing S → Standing S
pages A now = if pages_now A now then with_line (connecting now.paged) now else now

-- What a host does by itself, in this order: the pieces that wait go out, then the PDUs that it says, then a command; the end of its link, or
-- a link, is asked for, and so may be the command that goes out last.
abbrev pub goes_out : {S : Type 0} → Profile S → Standing S → Standing S
goes_out A now = with_line put_command (pages A (leaves A (with_line put_command (says_all A (with_line put_pieces now)))))

-- A change comes to a host, and it takes a step by itself. Its port gave the answers `used`; whatever it answers later, the host is where
-- these and those lead: by these deeds, and exactly where the step leads.
pub record Leads {S P : Type 0} (A : Profile S) (Answers : P → List Circumstance → P → Type 0) (step : Profile S → Standing S → Standing S) (before after : List Circumstance → Standing S) (port port' : P) : Type 0 where
  pub used : List Circumstance
  pub answered : Answers port used port'
  pub deeds : List Deed
  pub reacts : (rest : List Circumstance) → DoesAll A deeds (before (used ++ rest)) (after rest)
  pub exactly : (rest : List Circumstance) → step A (before (used ++ rest)) ≡ after rest

-- it goes on by itself
abbrev pub Reacts : {S P : Type 0} → (A : Profile S) (Answers : P → List Circumstance → P → Type 0) (before after : List Circumstance → Standing S) (port port' : P) → Type 0
Reacts A Answers before after port port' = Leads A Answers goes_out before after port port'

-- ---- where it has done all that it can

-- a link that its profile ends, once all is said, may not be ended now
abbrev pub KeepsLink : {S : Type 0} → Profile S → Standing S → Type 0
KeepsLink A now = now.line.pieces ≡ [] → has_more now.host ≡ false → A.leaves_link now.host.profile ≡ true → may_end now.line ≡ false

-- a link that its profile wants is asked for, where fewer than eight commands wait: one more is dropped
abbrev pub AsksForLink : {S : Type 0} → Profile S → Standing S → Type 0
AsksForLink A now = A.wants_link now.host.profile ≡ true → now.line.link ≡ None → length now.line.commands.waiting < 8 → is_asking now.line ≡ true

-- no piece and no command can be put out, and where a PDU can be taken there is none
pub record Rests {S : Type 0} (A : Profile S) (now : Standing S) : Type 0 where
  pub pieces : put_pieces now.line ≡ now.line
  pub command : put_command now.line ≡ now.line
  pub said : can_take_pdu now.line ≡ true → has_more now.host ≡ false
  pub keeps : KeepsLink A now
  pub asks : AsksForLink A now

-- a piece waits, and it may be put out
abbrev pub can_put_piece : Line → Bool
can_put_piece line = is_some line.link && ((has_room line && has_buffer line) && is_waiting line)

-- it has said all that it may say now
pub record HasSaid {E : Type 0} (now : Stacked E) : Type 0 where
  pub pieces : can_put_piece now.line ≡ false
  pub said : can_take_pdu now.line ≡ true → says now.upper ≡ false

-- the end of its link waits, or nothing was changed
abbrev pub IsLeft : (old new : Line) → Type 0
IsLeft old new = (new ≡ old) ⊎ (new ≡ leaving old.link old)

-- without a link, one is asked for, or nothing was changed
abbrev pub IsPaged : List ℕ → (old new : Line) → Type 0
IsPaged paged old new = (new ≡ old) ⊎ ((old.link ≡ None) × (new ≡ connecting paged old))

-- ---- news

abbrev pub with_host : {S : Type 0} → Host S → Standing S → Standing S
with_host host old = record old { host = host }

-- ---- a packet comes in

abbrev pub after_packet : {S : Type 0} → Profile S → Packet → List Circumstance → Standing S → Standing S
after_packet A packet rest old = record old { line = heard packet old.line; host = hears_told A rest (told_of (news_of packet old.line)) old.host }

-- a host, and its port
pub record Moment (E P : Type 0) : Type 0 where
  pub stack : Stacked E
  pub port : P

-- whatever its port answers later, the host has done all that it can
abbrev pub IsResting : {E S P : Type 0} → Profile S → (E → P → List Circumstance → S) → Moment E P → Type 0
IsResting A pushing now = (rest : List Circumstance) → Rests A (standing pushing now.port now.stack rest)

-- it takes a step by itself
abbrev pub Steps : {E S P : Type 0} → Profile S → (P → List Circumstance → P → Type 0) → (E → P → List Circumstance → S) → (Profile S → Standing S → Standing S) → Moment E P → Moment E P → Type 0
Steps A Answers pushing step old new = Leads A Answers step (standing pushing old.port old.stack) (standing pushing new.port new.stack) old.port new.port

-- it goes on by itself
abbrev pub GoesOn : {E S P : Type 0} → Profile S → (P → List Circumstance → P → Type 0) → (E → P → List Circumstance → S) → Moment E P → Moment E P → Type 0
GoesOn A Answers pushing old new = Reacts A Answers (standing pushing old.port old.stack) (standing pushing new.port new.stack) old.port new.port

-- what stands above its line is told news that its line does not tell, and the host goes on
abbrev pub HearsNews : {E S P : Type 0} → Profile S → (P → List Circumstance → P → Type 0) → (E → P → List Circumstance → S) → News → Moment E P → Moment E P → Type 0
HearsNews A Answers pushing news old new =
    Reacts A Answers (λ rest. with_host (hear A rest news (asking pushing old.port old.stack.upper rest)) (standing pushing old.port old.stack rest)) (standing pushing new.port new.stack) old.port new.port

-- a packet is heard, and the host goes on
pub record Hears {E S P : Type 0} (A : Profile S) (Answers : P → List Circumstance → P → Type 0) (pushing : E → P → List Circumstance → S) (packet : Packet) (old new : Moment E P) : Type 0 where
  pub fault : fault_of packet old.stack.line ≡ None
  pub reacts : Reacts A Answers (λ rest. after_packet A packet rest (standing pushing old.port old.stack rest)) (standing pushing new.port new.stack) old.port new.port

-- one after the other
abbrev pub HearsAll : {E S P : Type 0} → Profile S → (P → List Circumstance → P → Type 0) → (E → P → List Circumstance → S) → List Packet → Moment E P → Moment E P → Type 0
HearsAll A Answers pushing [] old new = new ≡ old
HearsAll {E} {S} {P} A Answers pushing (packet ∷ packets) old new = (mid : Moment E P) × Hears A Answers pushing packet old mid × HearsAll A Answers pushing packets mid new

-- what hearing a packet comes to that begins at that place; a fault of the controller changes nothing
abbrev pub HearsOne : {E S P : Type 0} → Profile S → (Answers : P → List Circumstance → P → Type 0) → (Lacked : P → P → Type 0) → (E → P → List Circumstance → S) → Packet → ℕ → Moment E P → Moment E P → Result (Unit {0}) FeedRefusal → Type 0
HearsOne A Answers Lacked pushing packet place old new (Ok done) = Hears A Answers pushing packet old new
HearsOne A Answers Lacked pushing packet place old new (Err NoMemory) = Lacked old.port new.port
HearsOne A Answers Lacked pushing packet place old new (Err refusal) = Refuses packet old.stack.line place refusal × (new ≡ old)
