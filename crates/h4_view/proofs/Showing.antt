-- A piece is shown packet by packet.
use Rattle.std.proofs.Common.{◌≡◌, ℕ, ◌+◌, ◌-◌, ◌≤◌, List, [], ◌∷◌, ◌++◌, length, take, drop, Some, None, refl, sym, ap, subst, ◌∙◌, append_assoc, add-zero, arith, length-append}
use Rattle.std.proofs.lemmas.List.{append-nil, take-append-drop, take_all, length-drop, length-take}
use Rattle.std.proofs.lemmas.Grind.{flat_map-append}
use Rattle.h4_framing.specs.declared.refusal.H4Refusal.{H4Refusal}
use Rattle.h4_framing.specs.declared.unit.Unit.{Unit as Lent}
use Rattle.h4_framing.specs.declared.framer.Taken.{Taken}
use Rattle.h4_framing.specs.declared.framer.Taken.TheVariants as taken
use Rattle.h4_framing.specs.Packets.{Packet, packet, spelling, spellings, IsPacket}
use Rattle.h4_framing.specs.Framing.{Framing}
use Rattle.h4_framing.specs.Taking.{Takes}
use Rattle.h4_framing.specs.Accounts.{Accounts}
use Rattle.h4_framing.proofs.AccountLemmas.{taking_accounts}
use Rattle.h4_view.specs.declared.links.Links.{Links}
use Rattle.h4_view.specs.Details.{under, Knows}
use Rattle.h4_view.specs.Lines.{line, lines, lines_of}
use Rattle.h4_view.specs.Shows.{Shows}

-- so far a front of the piece was shown
pub record HasShown (old new : Framing) (links links' : Links) (offset offset' : ℕ) (text text' piece rest : List ℕ) : Type 0 where
  pub eaten : List ℕ
  pub whole : piece ≡ eaten ++ rest
  pub shown : Shows old new links links' offset offset' text text' eaten None

-- the lines of packets, and of those behind them
pub lines-append : (past : List Packet) (offset : ℕ) (packets more : List Packet) → lines past offset (packets ++ more) ≡ lines past offset packets ++ lines (past ++ packets) (offset + length (spellings packets)) more
lines-append past offset [] more = ap (λ (o : ℕ). lines past o more) (sym (add-zero offset)) ∙ ap (λ (ps : List Packet). lines ps (offset + 0) more) (sym (append-nil past))
lines-append past offset (q ∷ packets) more =
    let next : ℕ = offset + length (spelling q) in
    let behind : next + length (spellings packets) ≡ offset + length (spelling q ++ spellings packets) = omega (arith, length-append (spelling q) (spellings packets)) in
    let now : List Packet = past ++ q ∷ [] in
    ap (λ (t : List ℕ). lines_of past offset q ++ t) (lines-append now next packets more)
    ∙ sym (append_assoc (lines_of past offset q) (lines now next packets) (lines (now ++ packets) (next + length (spellings packets)) more))
    ∙ ap (λ (o : ℕ). (lines_of past offset q ++ lines now next packets) ++ lines (now ++ packets) o more) behind
    ∙ ap (λ (ps : List Packet). (lines_of past offset q ++ lines now next packets) ++ lines ps (offset + length (spelling q ++ spellings packets)) more) (append_assoc past (q ∷ []) packets)

-- the lines of one packet more
pub lines-last : (past : List Packet) (offset : ℕ) (packets : List Packet) (p : Packet) → lines past offset (packets ++ p ∷ []) ≡ lines past offset packets ++ lines_of (past ++ packets) (offset + length (spellings packets)) p
lines-last past offset packets p =
    lines-append past offset packets (p ∷ [])
    ∙ ap (λ (t : List ℕ). lines past offset packets ++ t) (append-nil (lines_of (past ++ packets) (offset + length (spellings packets)) p))

-- the octets of packets, and of those behind them
pub spellings-append : (packets more : List Packet) → spellings (packets ++ more) ≡ spellings packets ++ spellings more
spellings-append packets more = flat_map-append spelling packets more

-- the octets of one packet more
pub spellings-last : (packets : List Packet) (p : Packet) → spellings (packets ++ p ∷ []) ≡ spellings packets ++ spelling p
spellings-last packets p = spellings-append packets (p ∷ []) ∙ ap (λ (t : List ℕ). spellings packets ++ t) (append-nil (spelling p))

-- accounts with nothing more in them
accounts_same : (fed : List ℕ) (packets : List Packet) (framing : Framing) → Accounts fed packets framing → Accounts (fed ++ []) (packets ++ []) framing
accounts_same fed packets framing h = subst (λ (f : List ℕ). Accounts f (packets ++ []) framing) (sym (append-nil fed)) (subst (λ (ps : List Packet). Accounts fed ps framing) (sym (append-nil packets)) h)

-- accounts of two stretches, one after the other
accounts_joined : (fed a b : List ℕ) (packets ps qs : List Packet) (framing : Framing) → Accounts ((fed ++ a) ++ b) ((packets ++ ps) ++ qs) framing → Accounts (fed ++ (a ++ b)) (packets ++ (ps ++ qs)) framing
accounts_joined fed a b packets ps qs framing h = subst (λ (f : List ℕ). Accounts f (packets ++ (ps ++ qs)) framing) (append_assoc fed a b) (subst (λ (rs : List Packet). Accounts ((fed ++ a) ++ b) rs framing) (append_assoc packets ps qs) h)

accounts_more : (fed a b : List ℕ) (packets ps : List Packet) (framing : Framing) → Accounts ((fed ++ a) ++ b) ((packets ++ ps) ++ []) framing → Accounts (fed ++ (a ++ b)) (packets ++ ps) framing
accounts_more fed a b packets ps framing h = subst (λ (qs : List Packet). Accounts (fed ++ (a ++ b)) (packets ++ qs) framing) (append-nil ps) (accounts_joined fed a b packets ps [] framing h)

some_is_not_none : (f : H4Refusal × ℕ) → Some f ≡ None → ⊥
some_is_not_none f h = cc

-- nothing was shown yet
pub shows_none : (framing : Framing) (links : Links) (offset : ℕ) (text piece : List ℕ) → framing.fault ≡ None → HasShown framing framing links links offset offset text text piece piece
shows_none framing links offset text piece sound = record {
  eaten = [];
  whole = refl;
  shown = record {
    added = [];
    accounts = λ fed packets h. accounts_same fed packets framing h;
    pending = λ _. append-nil framing.held;
    moves = omega arith;
    adds = λ past knows. (sym (append-nil text), subst (λ (ps : List Packet). Knows ps links) (sym (append-nil past)) knows);
    keeps = refl;
    answers = sound;
  };
}

-- a packet's lines were added, and the links know it
pub record Adds (links links' : Links) (text text' : List ℕ) (offset : ℕ) (p : Packet) : Type 0 where
  pub mid : List ℕ
  pub line : mid ≡ text ++ line offset p
  pub under : (past : List Packet) → Knows past links → (text' ≡ mid ++ under past p) × Knows (past ++ p ∷ []) links'

-- one packet more was shown
pub shows_packet : (old mid new : Framing) (links links' links'' : Links) (offset offset' : ℕ) (text text' text'' eaten rest : List ℕ) (unit : Lent) (n : ℕ)
    → Shows old mid links links' offset offset' text text' eaten None → Takes mid rest (taken.Whole unit n) new → Adds links' links'' text' text'' offset' (packet unit)
    → Shows old new links links'' offset (offset' + length (spelling (packet unit))) text text'' (eaten ++ take n rest) None
shows_packet old mid new links links' links'' offset offset' text text' text'' eaten rest unit n so_far takes adds =
    let p : Packet = packet unit in
    let ps : List Packet = so_far.added in
    let new-is = takes.5 in
    let spelled : spelling p ≡ mid.held ++ take n rest = takes.4 in
    let emptied : new.held ≡ [] = ap (λ (f : Framing). f.held) new-is in
    record {
      added = ps ++ p ∷ [];
      accounts = λ fed packets h. accounts_joined fed eaten (take n rest) packets ps (p ∷ []) new (taking_accounts (fed ++ eaten) rest (packets ++ ps) mid new (taken.Whole unit n) (so_far.accounts fed packets h) takes);
      pending = λ _.
          sym (append_assoc old.held eaten (take n rest))
          ∙ ap (λ (t : List ℕ). t ++ take n rest) (so_far.pending refl)
          ∙ append_assoc (spellings ps) mid.held (take n rest)
          ∙ ap (λ (t : List ℕ). spellings ps ++ t) (sym spelled)
          ∙ sym (spellings-last ps p)
          ∙ sym (append-nil (spellings (ps ++ p ∷ [])))
          ∙ ap (λ (t : List ℕ). spellings (ps ++ p ∷ []) ++ t) (sym emptied);
      moves = omega (arith, so_far.moves, ap length (spellings-last ps p), length-append (spellings ps) (spelling p));
      adds = λ past knows.
          let before = so_far.adds past knows in
          let more = adds.under (past ++ ps) before.1 in (
            more.0
                ∙ ap (λ (t : List ℕ). t ++ under (past ++ ps) p) adds.line
                ∙ append_assoc text' (line offset' p) (under (past ++ ps) p)
                ∙ ap (λ (t : List ℕ). t ++ lines_of (past ++ ps) offset' p) before.0
                ∙ append_assoc text (lines past offset ps) (lines_of (past ++ ps) offset' p)
                ∙ ap (λ (o : ℕ). text ++ (lines past offset ps ++ lines_of (past ++ ps) o p)) so_far.moves
                ∙ ap (λ (t : List ℕ). text ++ t) (sym (lines-last past offset ps p)),
            subst (λ (qs : List Packet). Knows qs links'') (append_assoc past ps (p ∷ [])) more.1,
          );
      keeps = ap (λ (f : Framing). f.limit) new-is ∙ so_far.keeps;
      answers = ap (λ (f : Framing). f.fault) new-is ∙ takes.0;
    }

-- the rest of the piece holds no whole packet more
pub shows_rest : (old mid new : Framing) (links links' : Links) (offset offset' : ℕ) (text text' eaten rest : List ℕ) → Shows old mid links links' offset offset' text text' eaten None → Takes mid rest taken.More new
    → Shows old new links links' offset offset' text text' (eaten ++ rest) None
shows_rest old mid new links links' offset offset' text text' eaten rest so_far takes =
    let ps : List Packet = so_far.added in
    let new-is = takes.2 in
    record {
      added = ps;
      accounts = λ fed packets h. accounts_more fed eaten rest packets ps new (taking_accounts (fed ++ eaten) rest (packets ++ ps) mid new taken.More (so_far.accounts fed packets h) takes);
      pending = λ _.
          sym (append_assoc old.held eaten rest)
          ∙ ap (λ (t : List ℕ). t ++ rest) (so_far.pending refl)
          ∙ append_assoc (spellings ps) mid.held rest
          ∙ ap (λ (f : Framing). spellings ps ++ f.held) (sym new-is);
      moves = so_far.moves;
      adds = so_far.adds;
      keeps = ap (λ (f : Framing). f.limit) new-is ∙ so_far.keeps;
      answers = ap (λ (f : Framing). f.fault) new-is ∙ takes.0;
    }

-- the rest of the piece is refused
pub shows_refused : (old mid new : Framing) (links links' : Links) (offset offset' : ℕ) (text text' eaten rest : List ℕ) (refusal : H4Refusal) (place : ℕ) → Shows old mid links links' offset offset' text text' eaten None → Takes mid rest (taken.Refused refusal place) new
    → Shows old new links links' offset offset' text text' (eaten ++ rest) (Some (refusal, place))
shows_refused old mid new links links' offset offset' text text' eaten rest refusal place so_far takes =
    let ps : List Packet = so_far.added in
    let new-is = takes.1 in
    record {
      added = ps;
      accounts = λ fed packets h. accounts_more fed eaten rest packets ps new (taking_accounts (fed ++ eaten) rest (packets ++ ps) mid new (taken.Refused refusal place) (so_far.accounts fed packets h) takes);
      pending = λ h. absurd (some_is_not_none (refusal, place) h);
      moves = so_far.moves;
      adds = so_far.adds;
      keeps = ap (λ (f : Framing). f.limit) new-is ∙ so_far.keeps;
      answers = ap (λ (f : Framing). f.fault) new-is;
    }

-- the step of the loop at a whole packet
pub shown_packet : (old mid new : Framing) (links links' links'' : Links) (offset offset' : ℕ) (text text' text'' piece rest : List ℕ) (unit : Lent) (n size : ℕ) (took : Taken) → took ≡ taken.Whole unit n
    → HasShown old mid links links' offset offset' text text' piece rest → Takes mid rest took new → size ≡ length (spelling (packet unit)) → Adds links' links'' text' text'' offset' (packet unit)
    → HasShown old new links links'' offset (offset' + size) text text'' piece (take (length rest - n) (drop n rest))
shown_packet old mid new links links' links'' offset offset' text text' text'' piece rest unit n size took took-is so_far takes size-is adds =
    let takes' : Takes mid rest (taken.Whole unit n) new = subst (λ (t : Taken). Takes mid rest t new) took-is takes in
    let behind : take (length rest - n) (drop n rest) ≡ drop n rest = take_all (length rest - n) (drop n rest) (omega (arith, length-drop n rest)) in
    let more = shows_packet old mid new links links' links'' offset offset' text text' text'' so_far.eaten rest unit n so_far.shown takes' adds in
    record {
      eaten = so_far.eaten ++ take n rest;
      whole =
          so_far.whole
          ∙ ap (λ (t : List ℕ). so_far.eaten ++ t) (sym (take-append-drop n rest))
          ∙ sym (append_assoc so_far.eaten (take n rest) (drop n rest))
          ∙ ap (λ (t : List ℕ). (so_far.eaten ++ take n rest) ++ t) (sym behind);
      shown = subst (λ (k : ℕ). Shows old new links links'' offset (offset' + k) text text'' (so_far.eaten ++ take n rest) None) (sym size-is) more;
    }

-- there is room for the next offset
pub room_for_packet : (old mid new : Framing) (links links' : Links) (offset offset' : ℕ) (text text' piece rest : List ℕ) (unit : Lent) (n : ℕ) (took : Taken) → took ≡ taken.Whole unit n
    → HasShown old mid links links' offset offset' text text' piece rest → Takes mid rest took new → offset' + length (spelling (packet unit)) ≤ offset + length old.held + length piece
room_for_packet old mid new links links' offset offset' text text' piece rest unit n took took-is so_far takes =
    let takes' : Takes mid rest (taken.Whole unit n) new = subst (λ (t : Taken). Takes mid rest t new) took-is takes in
    let so = so_far.shown in
    let fed : length old.held + length so_far.eaten ≡ length (spellings so.added) + length mid.held = omega (arith, ap length (so.pending refl), length-append old.held so_far.eaten, length-append (spellings so.added) mid.held) in
    let whole : length piece ≡ length so_far.eaten + length rest = ap length so_far.whole ∙ length-append so_far.eaten rest in
    let spelled : length (spelling (packet unit)) ≡ length mid.held + length (take n rest) = ap length takes'.4 ∙ length-append mid.held (take n rest) in
    omega (arith, fed, whole, spelled, so.moves, length-take n rest)

-- it is a packet, of any length that an ACL packet may have
pub packet_whole : (old mid new : Framing) (links links' : Links) (offset offset' limit : ℕ) (text text' piece rest : List ℕ) (unit : Lent) (n : ℕ) (took : Taken) → took ≡ taken.Whole unit n
    → HasShown old mid links links' offset offset' text text' piece rest → Takes mid rest took new → old.limit ≡ limit → IsPacket limit (packet unit)
packet_whole old mid new links links' offset offset' limit text text' piece rest unit n took took-is so_far takes limit-is =
    let takes' : Takes mid rest (taken.Whole unit n) new = subst (λ (t : Taken). Takes mid rest t new) took-is takes in
    subst (λ (k : ℕ). IsPacket k (packet unit)) (so_far.shown.keeps ∙ limit-is) takes'.1

-- the end of the loop at an unfinished packet
pub shown_rest : (old mid new : Framing) (links links' : Links) (offset offset' : ℕ) (text text' piece rest : List ℕ) (took : Taken) → took ≡ taken.More
    → HasShown old mid links links' offset offset' text text' piece rest → Takes mid rest took new → Shows old new links links' offset offset' text text' piece None
shown_rest old mid new links links' offset offset' text text' piece rest took took-is so_far takes =
    let takes' : Takes mid rest taken.More new = subst (λ (t : Taken). Takes mid rest t new) took-is takes in
    subst (λ (p : List ℕ). Shows old new links links' offset offset' text text' p None) (sym so_far.whole) (shows_rest old mid new links links' offset offset' text text' so_far.eaten rest so_far.shown takes')

-- the end of the loop at a refusal
pub shown_refused : (old mid new : Framing) (links links' : Links) (offset offset' : ℕ) (text text' piece rest : List ℕ) (refusal : H4Refusal) (place : ℕ) (took : Taken) → took ≡ taken.Refused refusal place
    → HasShown old mid links links' offset offset' text text' piece rest → Takes mid rest took new → Shows old new links links' offset offset' text text' piece (Some (refusal, place))
shown_refused old mid new links links' offset offset' text text' piece rest refusal place took took-is so_far takes =
    let takes' : Takes mid rest (taken.Refused refusal place) new = subst (λ (t : Taken). Takes mid rest t new) took-is takes in
    subst (λ (p : List ℕ). Shows old new links links' offset offset' text text' p (Some (refusal, place))) (sym so_far.whole) (shows_refused old mid new links links' offset offset' text text' so_far.eaten rest refusal place so_far.shown takes')

-- the end of the loop at the end of the piece
pub shown_all : (old mid : Framing) (links links' : Links) (offset offset' : ℕ) (text text' piece rest : List ℕ) → HasShown old mid links links' offset offset' text text' piece rest → length rest ≡ 0 → Shows old mid links links' offset offset' text text' piece None
shown_all old mid links links' offset offset' text text' piece [] so_far none = subst (λ (p : List ℕ). Shows old mid links links' offset offset' text text' p None) (sym (so_far.whole ∙ append-nil so_far.eaten)) so_far.shown
shown_all old mid links links' offset offset' text text' piece (x ∷ rest) so_far none = absurd (omega arith)
