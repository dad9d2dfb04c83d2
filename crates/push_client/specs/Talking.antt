-- What a client makes of responses, apart from what else it holds.
use Rattle.std.specs.Prelude.{◌≡◌, ◌<◌, ◌≤◌, ℕ, false, List, [], length, drop, Option, Some, None}
use Rattle.obex_headers.specs.Assembling.{Assembling}
use Rattle.obex_session.specs.Asking.{fresh}
use Rattle.push_client.specs.declared.dialog.Dialog.{Dialog}
use Rattle.push_model.specs.Client.{Client}
use Rattle.push_model.specs.declared.course.Contact.TheVariants.{Unmet}
use Rattle.push_model.specs.declared.course.Point.TheVariants.{Due}
use Rattle.push_model.specs.declared.course.Stage.TheVariants.{Link}

-- a client with this dialog, and with these octets of a response that is not whole
abbrev pub placed : Dialog → List ℕ → Client → Client
placed dialog held client = record client {
  stage = dialog.course.stage;
  cause = dialog.course.cause;
  contact = dialog.contact;
  session = dialog.session;
  going = dialog.going;
  held = held;
}

-- no link was asked for, and nothing was said
abbrev pub begun : Dialog → Dialog
begun dialog = record {
  course = record { stage = Link Due; cause = None };
  contact = Unmet;
  session = fresh dialog.session.maximum dialog.session.wanted;
  going = false;
}

-- the assembler finds the packets that the session takes, and refused none
pub record Suits (assembler : Assembling) (dialog : Dialog) : Type 0 where
  pub sound : assembler.refusal ≡ None
  pub maximum : assembler.maximum ≡ dialog.session.maximum

-- behind the front of a stream: what follows so many octets of the piece is heard, or nothing more is
abbrev pub goes_on : (List ℕ → Client → Client) → List ℕ → List ℕ → Dialog → Option ℕ → Client → Client
goes_on more piece held dialog (Some used) client = more (drop used piece) (placed dialog held client)
goes_on more piece held dialog None client = placed dialog held client

-- a packet of so many octets of the piece was heard, and what follows it is to be heard
pub record IsHeard (piece : List ℕ) (new : Assembling) (used : ℕ) : Type 0 where
  pub some : 0 < used
  pub within : used ≤ length piece
  pub held : new.held ≡ []
