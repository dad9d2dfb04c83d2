-- What the steps of a framer owe, over plain values.
use Rattle.std.proofs.Common.{◌≡◌, ℕ, ◌+◌, ◌<◌, ◌≤◌, List, [], ◌∷◌, ◌++◌, length, take, Option, None, Some, refl, sym, ap, subst, ◌∙◌, arith}
use Rattle.std.specs.Prelude.{MatchOption}
use Rattle.std.proofs.lemmas.List.{length-append, length-take-le}
use Rattle.h4_framing.specs.declared.refusal.H4Refusal.{H4Refusal}
use Rattle.h4_framing.specs.Packets.{Packet, Command, Acl, Sync, Event, packet, spelling, IsPacket}
use Rattle.h4_framing.specs.Stream.{IsUnfinished, GoesWrong}
use Rattle.h4_framing.specs.Framing.{Framing, counted}
use Rattle.h4_framing.specs.declared.unit.Unit.{Unit as Lent}
use Rattle.h4_framing.specs.declared.framer.Taken.TheVariants.{Whole, More, Refused}
use Rattle.h4_framing.specs.Taking.{Takes}

-- no octet at all is the beginning of a packet
pub nothing_unfinished : (limit : ℕ) → IsUnfinished limit []
nothing_unfinished limit = (Event 0 [], (4 ∷ 0 ∷ 0 ∷ [], (omega arith, omega arith, (λ i. omega arith)), (λ none. absurd cc), refl))

packet_bound : (limit : ℕ) (packet : Packet) → 255 ≤ limit → IsPacket limit packet → length (spelling packet) ≤ 5 + limit
packet_bound limit (Command opcode params) low fits = omega arith
packet_bound limit (Acl word octets) low fits = omega arith
packet_bound limit (Sync word octets) low fits = omega arith
packet_bound limit (Event code params) low fits = omega arith

-- a framer has room for each packet
pub unfinished_bound : (limit : ℕ) (octets : List ℕ) → 255 ≤ limit → IsUnfinished limit octets → length octets ≤ 5 + limit
unfinished_bound limit octets low u = omega (arith, packet_bound limit u.0 low u.1.1, ap length u.1.3, length-append octets u.1.0)

pub takes_refused : (old : Framing) (piece : List ℕ) (r : H4Refusal) (n place : ℕ) → old.fault ≡ None → GoesWrong old.limit (old.held ++ piece) r n → place ≡ counted old.before n
    → MatchOption old.fault ((n : ℕ) × GoesWrong old.limit (old.held ++ piece) r n × (place ≡ counted old.before n)) (λ fault. fault ≡ (r, place))
takes_refused old piece r n place sound wrong at =
    subst (λ (o : Option (H4Refusal × ℕ)). MatchOption o ((n : ℕ) × GoesWrong old.limit (old.held ++ piece) r n × (place ≡ counted old.before n)) (λ fault. fault ≡ (r, place))) (sym sound) (n, wrong, at)

-- what was held is held still
pub same_held : (held : ℕ) (xs ys : List ℕ) → held ≤ length xs → take (length (take held xs)) ys ≡ take held xs → take held ys ≡ take held xs
same_held held xs ys le e = ap (λ (n : ℕ). take n ys) (sym (length-take-le held xs le)) ∙ e

abbrev pub framing : ℕ → ℕ → List ℕ → Option (H4Refusal × ℕ) → Framing
framing limit before held fault = record { limit = limit; before = before; held = held; fault = fault }

-- nothing was held, and the piece begins a packet
pub leading_more : (limit before : ℕ) (held piece kept : List ℕ) (fault : Option (H4Refusal × ℕ)) → fault ≡ None → held ≡ [] → IsUnfinished limit piece → kept ≡ piece
    → Takes (framing limit before held fault) piece More (framing limit before kept fault)
leading_more limit before held piece kept fault sound empty u is =
    let whole : piece ≡ held ++ piece = ap (λ (xs : List ℕ). xs ++ piece) (sym empty) in
    (sound, subst (IsUnfinished limit) whole u, ap (λ (xs : List ℕ). framing limit before xs fault) (is ∙ whole))

-- the octets go wrong, and those that are held stay
pub goes_refused : (limit before place n : ℕ) (held piece kept : List ℕ) (fault : Option (H4Refusal × ℕ)) (r : H4Refusal) → fault ≡ None → GoesWrong limit (held ++ piece) r n → place ≡ counted before n → kept ≡ held
    → Takes (framing limit before held fault) piece (Refused r place) (framing limit before kept (Some (r, place)))
goes_refused limit before place n held piece kept fault r sound wrong at is =
    (takes_refused (framing limit before held fault) piece r n place sound wrong at, ap (λ (xs : List ℕ). framing limit before xs (Some (r, place))) is)

-- what was held and some octets of the piece are a packet
pub held_whole : (limit before after used : ℕ) (held piece buffer : List ℕ) (fault : Option (H4Refusal × ℕ)) (unit : Lent) → fault ≡ None → IsPacket limit (packet unit) → 0 < used → used ≤ length piece
    → spelling (packet unit) ≡ buffer → buffer ≡ held ++ take used piece → after ≡ counted before (length buffer)
    → Takes (framing limit before held fault) piece (Whole unit used) (framing limit after [] fault)
held_whole limit before after used held piece buffer fault unit sound fits some le spelled is count =
    let long : length buffer ≡ length held + used = ap length is ∙ length-append held (take used piece) ∙ ap (λ (n : ℕ). length held + n) (length-take-le used piece le) in
    (sound, fits, some, le, spelled ∙ is, ap (λ (n : ℕ). framing limit n [] fault) (count ∙ ap (counted before) long))
