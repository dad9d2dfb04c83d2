-- What holds of the view of an input, whatever the input is.
use Rattle.std.specs.Prelude.{ℕ, ◌≡◌, ◌≤◌, List, length, map, Option, None, Result}
use Rattle.bt_base.specs.Octets.{IsOctets}
use Rattle.bt_base.specs.Streams.{GainedFront}
use Rattle.h4_framing.specs.Packets.{Packet}
use Rattle.capture.specs.Entries.{Entry, IsCapture}
use Rattle.btsnoop.specs.Files.{Record, IsFile}
use Rattle.item_stream.specs.Running.{input_limit}
use Rattle.h4_view.specs.declared.refusal.ViewRefusal.{ViewRefusal}
use Rattle.h4_view.specs.declared.refusal.ViewFault.{ViewFault}
use Rattle.h4_view.specs.View.{IsView, Views, view_text}
use Rattle.h4_view.specs.Viewing.{Viewed}
use Rattle.h4_view.specs.Tagged.{IsTaggedView}
use Rattle.h4_view.specs.Snoop.{Kept, IsSnoopView}

-- An input has no two views: the packets that are shown, and why and where the view stops, are those of the input.
abbrev pub OneView : Type 0
OneView = (input : List ℕ) (ps qs : List Packet) (v w : Option (ViewRefusal × ℕ)) → IsView input ps v → IsView input qs w → (ps ≡ qs) × (v ≡ w)

-- Each list of octets has a view.
abbrev pub EachInputIsViewed : Type 0
EachInputIsViewed = (input : List ℕ) → IsOctets input → (packets : List Packet) × (verdict : Option (ViewRefusal × ℕ)) × IsView input packets verdict

-- Whatever a view answers, what was written is a front of the text of the view.
abbrev pub FrontIsOfTheView : Type 0
FrontIsOfTheView = (input : List ℕ) (left old new : Option (List ℕ)) (result : Result (Unit {0}) ViewFault) (packets : List Packet) (verdict : Option (ViewRefusal × ℕ)) → Views input left old new result → IsView input packets verdict → GainedFront old new (view_text packets verdict)

-- An input of a kind has no two views: the items that are shown, and why and where the view stops, are those of the input.
abbrev pub OneViewOf : {I : Type 0} → Viewed I → Type 0
OneViewOf {I} kind = (input : List ℕ) (items others : List I) (v w : Option (ViewRefusal × ℕ)) → kind.is_view input items v → kind.is_view input others w → (items ≡ others) × (v ≡ w)

-- Each list of octets has a view as an input of that kind.
abbrev pub EachIsViewedAs : {I : Type 0} → Viewed I → Type 0
EachIsViewedAs {I} kind = (input : List ℕ) → IsOctets input → (items : List I) × (verdict : Option (ViewRefusal × ℕ)) × kind.is_view input items verdict

-- A btsnoop file within the greatest length is shown whole: all its records, and no refusal.
abbrev pub FilesAreShown : Type 0
FilesAreShown = (file : List ℕ) (records : List Record) → IsFile file records → length file ≤ input_limit → (items : List Kept) × (map (λ kept. kept.item) items ≡ records) × IsSnoopView file items None

-- A capture within the greatest length is shown whole: all its entries, and no refusal.
abbrev pub CapturesAreShown : Type 0
CapturesAreShown = (capture : List ℕ) (entries : List Entry) → IsCapture capture entries → length capture ≤ input_limit → IsTaggedView capture entries None
