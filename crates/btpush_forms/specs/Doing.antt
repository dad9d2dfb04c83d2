-- What the forms do that need no hosts (this project's own).
use Rattle.std.specs.Prelude.{ℕ, List, Option, IfSome}
use Rattle.command_words.specs.declared.form.Form.{Form}
use Rattle.command_words.specs.declared.form.Form.TheVariants.{Decode, DecodeTagged, DecodeSnoop, Snoop, Wire}
use Rattle.btpush_forms.specs.declared.status.Status.{Status}
use Rattle.btpush_forms.specs.declared.viewing.Viewing.TheVariants as viewing
use Rattle.three_wire.specs.Carrying.{AnyRose}
use Rattle.btpush_forms.specs.Ports.{Written}
use Rattle.btpush_forms.specs.Run.{Decodes}
use Rattle.btpush_forms.specs.Snooping.{Snoops}
use Rattle.btpush_forms.specs.Carrying.{Wires}

-- The form `wire` over such ports: a count of the sink or of the trace may have risen.
abbrev pub WiresOver : (number : Option ℕ) (source : Option (List ℕ)) (sink sink' trace trace' : Written) → Status → Type 0
WiresOver number source sink sink' trace trace' result =
    Wires number source sink.content sink'.content trace.content trace'.content (AnyRose sink.faults sink'.faults sink.shortages sink'.shortages trace.faults trace'.faults trace.shortages trace'.shortages) result

-- What such a form does with its source, its sink and its trace. Of the other forms nothing is said here.
abbrev pub Does : Form → (source source' : Option (List ℕ)) (sink sink' trace trace' : Written) → Status → Type 0
Does Decode source source' sink sink' trace trace' result = IfSome source (λ input. Decodes viewing.Raw input source' sink.content sink'.content result)
Does DecodeTagged source source' sink sink' trace trace' result = IfSome source (λ input. Decodes viewing.Tagged input source' sink.content sink'.content result)
Does DecodeSnoop source source' sink sink' trace trace' result = IfSome source (λ input. Decodes viewing.Snoop input source' sink.content sink'.content result)
Does (Snoop side) source source' sink sink' trace trace' result = IfSome source (λ input. Snoops side input source' sink.content sink'.content trace.content trace'.content result)
Does (Wire number) source source' sink sink' trace trace' result = WiresOver number source sink sink' trace trace' result
Does _ source source' sink sink' trace trace' result = Unit {0}
