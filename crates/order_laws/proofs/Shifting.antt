-- Octets that come earlier change nothing of what goes out behind them, as long as there is room.
use Rattle.std.proofs.Common.{◌≡◌, ◌∙◌, ◌≤◌, ◌<◌, ◌+◌, ◌&&◌, not, ℕ, zero, suc, Bool, true, false, is_some, List, [], ◌∷◌, ◌++◌, length, refl, sym, ap, true≢false, length-append, append_assoc, arith, tests, if◌then◌else◌}
use Rattle.std.specs.Prelude.{Option, Some, None}
use Rattle.bt_host.specs.shelf_model.specs.acl_fragments.specs.Pieces.{Piece}
use Rattle.bt_host.specs.shelf_model.specs.h4_framing.specs.Packets.{spelling}
use Rattle.bt_host.specs.host_link.specs.CommandFlows.{Flow}
use Rattle.bt_host.specs.host_link.specs.Lines.{Line}
use Rattle.bt_host.specs.host_link.specs.PuttingOut.{has_room, has_buffer, is_waiting, piece_packet, with_piece, with_pieces, put_pieces_on, put_pieces, can_take_pdu, with_pdu, take_pdu}
use Rattle.bt_host.specs.host_model.specs.Hosts.{Host, next}
use Rattle.bt_host.specs.host_model.specs.Profiles.{Profile}
use Rattle.bt_host.specs.Stacks.{Standing, with_line, said_then, says_up_to}
use Rattle.order_laws.proofs.Lines.{either}

-- ---- what goes out adds octets, and leaves commands as they are

pub record Follows (old new : Line) : Type 0 where
  pub commands : new.commands ≡ old.commands
  pub asked : new.asked ≡ old.asked
  pub more : length old.out ≤ length new.out

follows_same : (line : Line) → Follows line line
follows_same line = record { commands = refl; asked = refl; more = omega arith }

follows_then : (a b c : Line) → Follows a b → Follows b c → Follows a c
follows_then a b c f g = record { commands = g.commands ∙ f.commands; asked = g.asked ∙ f.asked; more = let one = f.more in let two = g.more in omega (arith, one, two) }

pieces_on : (handle : ℕ) (pieces : List Piece) (line : Line) → Follows line (with_pieces handle pieces line)
pieces_on handle [] line = follows_same line
pieces_on handle (piece ∷ rest) line =
    let next = with_piece handle piece rest line in
    let long = length-append line.out (spelling (piece_packet handle piece)) in
    either (Follows line) (has_room line && has_buffer line) (with_pieces handle rest next) line
    (follows_then line next (with_pieces handle rest next) (record { commands = refl; asked = refl; more = omega (arith, long) }) (pieces_on handle rest next)) (follows_same line)

pieces_at : (link : Option ℕ) (line : Line) → Follows line (put_pieces_on link line)
pieces_at None line = follows_same line
pieces_at (Some handle) line = pieces_on handle line.pieces line

pub pieces_follow : (line : Line) → Follows line (put_pieces line)
pieces_follow line = pieces_at line.link line

pub taken_follows : (pdu : List ℕ) (line : Line) → Follows line (take_pdu pdu line)
taken_follows pdu line = let f = pieces_follow (with_pdu pdu line) in record { commands = f.commands; asked = f.asked; more = f.more }

pub says_follow : {S : Type 0} (A : Profile S) (count : ℕ) (now : Standing S) → Follows now.line (says_up_to A count now).line
unfolding says_up_to
says_follow A zero now = follows_same now.line
says_follow {S} A (suc count) now = by (λ mid. says_follow A count mid) (can_take_pdu now.line) (next A now.host)
  where
    by : ((mid : Standing S) → Follows mid.line (says_up_to A count mid).line) → (can : Bool) (said : Option (List ℕ × Host S)) → Follows now.line (if can then said_then (λ mid. says_up_to A count mid) now said else now).line
    by behind false said = follows_same now.line
    by behind true None = follows_same now.line
    by behind true (Some (pdu, host)) =
        let mid : Standing S = record now { line = take_pdu pdu now.line; host = host } in
        follows_then now.line mid.line (says_up_to A count mid).line (taken_follows pdu now.line) (behind mid)

-- ---- octets that come earlier

-- other commands wait, and octets stand in between
module _ (front early : List ℕ) (flow : Flow) (asked : Bool) where
  abbrev pub shifted : (back : List ℕ) → Line → Line
  shifted back line = record line { commands = flow; asked = asked; out = front ++ (early ++ back) }

  -- there is room for them besides
  abbrev pub Fits : Line → Type 0
  Fits line = length line.out + length early < 65536

  pub record Shifts (old new : Line) : Type 0 where
    pub back : List ℕ
    pub out_is : old.out ≡ front ++ back
    pub new_is : new ≡ shifted back old

  fits_then : (old new : Line) → Follows old new → Fits new → Fits old
  fits_then old new f fits = let more = f.more in omega (arith, more, fits)

  room : (line : Line) → Fits line → has_room line ≡ true
  room line fits = grind (arith, tests, fits)

  room_shifted : (back : List ℕ) (line : Line) → line.out ≡ front ++ back → Fits line → has_room (shifted back line) ≡ true
  room_shifted back line is fits =
      let one = ap length is ∙ length-append front back in
      let two = length-append front (early ++ back) in
      let three = length-append early back in
      let few : length (front ++ (early ++ back)) < 65536 = omega (arith, one, two, three, fits) in
      grind (arith, tests, few)

  piece_behind : (octets back : List ℕ) → (front ++ (early ++ back)) ++ octets ≡ front ++ (early ++ (back ++ octets))
  piece_behind octets back = append_assoc front (early ++ back) octets ∙ ap (λ (o : List ℕ). front ++ o) (append_assoc early back octets)

  pieces_shift : (handle : ℕ) (pieces : List Piece) (back : List ℕ) (line : Line) → line.out ≡ front ++ back → Fits (with_pieces handle pieces line) → Shifts (with_pieces handle pieces line) (with_pieces handle pieces (shifted back line))
  pieces_shift handle [] back line is fits = record { back = back; out_is = is; new_is = refl }
  pieces_shift handle (piece ∷ rest) back line is fits = by (λ more next out fit. pieces_shift handle rest more next out fit) (has_room line) (has_buffer line) refl refl fits
    where
      by : ((more : List ℕ) (next : Line) → next.out ≡ front ++ more → Fits (with_pieces handle rest next) → Shifts (with_pieces handle rest next) (with_pieces handle rest (shifted more next))) → (has buffer : Bool) → has_room line ≡ has → has_buffer line ≡ buffer → (let after : Line = if has && buffer then with_pieces handle rest (with_piece handle piece rest line) else line in Fits after → Shifts after (with_pieces handle (piece ∷ rest) (shifted back line)))
      by behind false buffer has_is buffer_is fit = absurd (true≢false (sym (room line fit) ∙ has_is))
      by behind true false has_is buffer_is fit =
          let off : (has_room (shifted back line) && has_buffer line) ≡ false = ap (λ (b : Bool). b && has_buffer line) (room_shifted back line is fit) ∙ buffer_is in
          record { back = back; out_is = is; new_is = ap (λ (b : Bool). if b then with_pieces handle rest (with_piece handle piece rest (shifted back line)) else shifted back line) off }
      by behind true true has_is buffer_is fit =
          let next = with_piece handle piece rest line in
          let long = length-append line.out (spelling (piece_packet handle piece)) in
          let next_fits : Fits next = fits_then next (with_pieces handle rest next) (pieces_on handle rest next) fit in
          let line_fits : Fits line = omega (arith, long, next_fits) in
          let on : (has_room (shifted back line) && has_buffer line) ≡ true = ap (λ (b : Bool). b && has_buffer line) (room_shifted back line is line_fits) ∙ buffer_is in
          let out_is : next.out ≡ front ++ (back ++ spelling (piece_packet handle piece)) = ap (λ (o : List ℕ). o ++ spelling (piece_packet handle piece)) is ∙ append_assoc front back (spelling (piece_packet handle piece)) in
          let more = behind (back ++ spelling (piece_packet handle piece)) next out_is fit in
          let same : with_piece handle piece rest (shifted back line) ≡ shifted (back ++ spelling (piece_packet handle piece)) next = ap (λ (o : List ℕ). record next { commands = flow; asked = asked; out = o }) (piece_behind (spelling (piece_packet handle piece)) back) in
          record {
            back = more.back;
            out_is = more.out_is;
            new_is = ap (λ (b : Bool). if b then with_pieces handle rest (with_piece handle piece rest (shifted back line)) else shifted back line) on ∙ (ap (with_pieces handle rest) same ∙ more.new_is);
          }

  at_shift : (link : Option ℕ) (back : List ℕ) (line : Line) → line.out ≡ front ++ back → Fits (put_pieces_on link line) → Shifts (put_pieces_on link line) (put_pieces_on link (shifted back line))
  at_shift None back line is fits = record { back = back; out_is = is; new_is = refl }
  at_shift (Some handle) back line is fits = pieces_shift handle line.pieces back line is fits

  pub put_shifts : (back : List ℕ) (line : Line) → line.out ≡ front ++ back → Fits (put_pieces line) → Shifts (put_pieces line) (put_pieces (shifted back line))
  put_shifts back line is fits = at_shift line.link back line is fits

  can_as : (back : List ℕ) (line : Line) → line.out ≡ front ++ back → Fits line → can_take_pdu (shifted back line) ≡ can_take_pdu line
  can_as back line is fits = ap (λ (b : Bool). is_some line.link && (not (is_waiting line) && (has_buffer line && b))) (room_shifted back line is fits ∙ sym (room line fits))

  pub record StandsShifted {S : Type 0} (old new : Standing S) : Type 0 where
    pub back : List ℕ
    pub out_is : old.line.out ≡ front ++ back
    pub new_is : new ≡ with_line (shifted back) old

  pub says_shift : {S : Type 0} (A : Profile S) (count : ℕ) (back : List ℕ) (now : Standing S) → now.line.out ≡ front ++ back → Fits (says_up_to A count now).line → StandsShifted (says_up_to A count now) (says_up_to A count (with_line (shifted back) now))
  unfolding says_up_to
  says_shift A zero back now is fits = record { back = back; out_is = is; new_is = refl }
  says_shift {S} A (suc count) back now is fits = by (λ more mid out fit. says_shift A count more mid out fit) (can_take_pdu now.line) (next A now.host) refl refl fits
    where
      by : ((more : List ℕ) (mid : Standing S) → mid.line.out ≡ front ++ more → Fits (says_up_to A count mid).line → StandsShifted (says_up_to A count mid) (says_up_to A count (with_line (shifted more) mid))) → (can : Bool) (said : Option (List ℕ × Host S)) → can_take_pdu now.line ≡ can → next A now.host ≡ said → (let after : Standing S = if can then said_then (λ mid. says_up_to A count mid) now said else now in Fits after.line → StandsShifted after (says_up_to A (suc count) (with_line (shifted back) now)))
      by behind false said can_is said_is fit = record {
        back = back;
        out_is = is;
        new_is = ap (λ (b : Bool). if b then said_then (λ mid. says_up_to A count mid) (with_line (shifted back) now) (next A now.host) else with_line (shifted back) now) (can_as back now.line is fit ∙ can_is);
      }
      by behind true None can_is said_is fit = record {
        back = back;
        out_is = is;
        new_is =
            ap (λ (b : Bool). if b then said_then (λ mid. says_up_to A count mid) (with_line (shifted back) now) (next A now.host) else with_line (shifted back) now) (can_as back now.line is fit ∙ can_is)
            ∙ ap (said_then (λ mid. says_up_to A count mid) (with_line (shifted back) now)) said_is;
      }
      by behind true (Some (pdu, host)) can_is said_is fit =
          let mid : Standing S = record now { line = take_pdu pdu now.line; host = host } in
          let mid_fits : Fits mid.line = fits_then mid.line (says_up_to A count mid).line (says_follow A count mid) fit in
          let line_fits : Fits now.line = fits_then now.line mid.line (taken_follows pdu now.line) mid_fits in
          let one = put_shifts back (with_pdu pdu now.line) is mid_fits in
          let more = behind one.back mid one.out_is fit in
          record {
            back = more.back;
            out_is = more.out_is;
            new_is =
                ap (λ (b : Bool). if b then said_then (λ mid. says_up_to A count mid) (with_line (shifted back) now) (next A now.host) else with_line (shifted back) now) (can_as back now.line is line_fits ∙ can_is)
                ∙ (ap (said_then (λ mid. says_up_to A count mid) (with_line (shifted back) now)) said_is
                ∙ (ap (λ (line : Line). says_up_to A count (record now { line = line; host = host })) one.new_is ∙ more.new_is));
          }
