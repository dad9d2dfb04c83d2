-- A request that is no repetition, and for whose answer there is room, is answered and followed.
use Rattle.std.proofs.Common.{◌≡◌, ◌∙◌, ℕ, Bool, true, false, ap, refl, sym, subst}
use Rattle.std.specs.Prelude.{if◌then◌else◌, Option, Some, None}
use Rattle.l2cap_signal.specs.Commands.{Content}
use Rattle.channel_model.specs.declared.request_kind.RequestKind.{RequestKind}
use Rattle.channel_model.specs.Value.{Remembered, Channels}
use Rattle.channel_model.specs.Answers.{remembered}
use Rattle.channel_model.specs.Following.{can_say, hears_again, hears_kind, hears_new, hears_request}
use Rattle.l2cap_channels.specs.Machine.{Machine, with_channels}
use Rattle.l2cap_channels.specs.Repeating.{admitted, again, is_repeated}

not_again : (last : Option Remembered) (identifier : ℕ) (v : Channels) → is_repeated last identifier ≡ false → again last identifier v ≡ v
not_again None identifier v fresh = refl
not_again (Some last) identifier v fresh = ap (λ (b : Bool). if b then hears_again identifier last.response v else v) fresh

answered : (kind : RequestKind) (identifier : ℕ) (response : Option Content) (more : Channels → Channels) (v : Channels) → can_say response v ≡ true
    → more (admitted (can_say response v) kind identifier response v) ≡ hears_new kind identifier response more v
answered kind identifier response more v room =
    ap (λ (b : Bool). more (admitted b kind identifier response v)) room
    ∙ ap (λ (b : Bool). if b then more (admitted true kind identifier response v) else v) (sym room)

answered_now : (last : Option Remembered) (kind : RequestKind) (identifier : ℕ) (response : Option Content) (more : Channels → Channels) (v : Channels) → is_repeated last identifier ≡ false → can_say response v ≡ true
    → more (admitted (can_say response v) kind identifier response v) ≡ hears_kind last kind identifier response more v
answered_now None kind identifier response more v fresh room = answered kind identifier response more v room
answered_now (Some last) kind identifier response more v fresh room =
    answered kind identifier response more v room
    ∙ ap (λ (b : Bool). if b then hears_again identifier last.response v else hears_new kind identifier response more v) (sym fresh)

-- from the machine before the request over those after its parts to the one behind it
pub question_heard : (old mid new last : Machine) (kind : RequestKind) (identifier : ℕ) (response : Option Content) (more : Channels → Channels) → is_repeated (remembered kind old.channels.memory) identifier ≡ false
    → mid ≡ with_channels old (again (remembered kind old.channels.memory) identifier old.channels) → can_say response mid.channels ≡ true
    → new ≡ with_channels mid (admitted (can_say response mid.channels) kind identifier response mid.channels) → last ≡ with_channels new (more new.channels)
    → last ≡ with_channels old (hears_request kind identifier response more old.channels)
question_heard old mid new last kind identifier response more fresh after room admits follows =
    let same : mid ≡ old = after ∙ ap (with_channels old) (not_again (remembered kind old.channels.memory) identifier old.channels fresh) in
    let roomy : can_say response old.channels ≡ true = subst (λ (m : Machine). can_say response m.channels ≡ true) same room in
    let admits_now : new ≡ with_channels old (admitted (can_say response old.channels) kind identifier response old.channels) =
    subst (λ (m : Machine). new ≡ with_channels m (admitted (can_say response m.channels) kind identifier response m.channels)) same admits in
    follows
    ∙ ap (λ (m : Machine). with_channels m (more m.channels)) admits_now
    ∙ ap (with_channels old) (answered_now (remembered kind old.channels.memory) kind identifier response more old.channels fresh roomy)

-- a request that is no repetition leaves the machine as it was
pub stays : (old mid : Machine) (kind : RequestKind) (identifier : ℕ) → is_repeated (remembered kind old.channels.memory) identifier ≡ false
    → mid ≡ with_channels old (again (remembered kind old.channels.memory) identifier old.channels) → mid ≡ old
stays old mid kind identifier fresh after = after ∙ ap (with_channels old) (not_again (remembered kind old.channels.memory) identifier old.channels fresh)

-- an answer that waits leaves the channels and what was told as they were
pub admitted_held : (admits : Bool) (kind : RequestKind) (identifier : ℕ) (response : Option Content) (v : Channels) → (admitted admits kind identifier response v).held ≡ v.held
admitted_held true kind identifier None v = refl
admitted_held true kind identifier (Some content) v = refl
admitted_held false kind identifier response v = refl

pub admitted_events : (admits : Bool) (kind : RequestKind) (identifier : ℕ) (response : Option Content) (v : Channels) → (admitted admits kind identifier response v).events ≡ v.events
admitted_events true kind identifier None v = refl
admitted_events true kind identifier (Some content) v = refl
admitted_events false kind identifier response v = refl
